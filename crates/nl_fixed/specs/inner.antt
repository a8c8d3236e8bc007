-- What only mirrors the code: a change here changes no meaning.
pub mod Beginnings
