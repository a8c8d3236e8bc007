pub mod BuiltIn
pub mod Layouts
pub mod Nouns
pub mod SlotLaws
pub mod inner
