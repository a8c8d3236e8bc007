pub mod Nouns
pub mod Ways
pub mod Geometry
pub mod GeometryLaws
pub mod Codes
pub mod inner
