pub mod EachVerdict
pub mod FirstBytes
pub mod Nothing
pub mod OneFault
pub mod OneThing
pub mod OneVerdict
pub mod Programs
pub mod Widgets
