-- What the parts of the reading of a program owe to each other.
pub mod ProgramParts
