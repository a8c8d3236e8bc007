mod Accepted
mod Barring
mod ClaimExamples
mod Clashes
mod Clashing
mod Differ
mod Joining
mod Linked
mod MadeWords
mod Named
mod NoneTwice
mod Noting
mod Often
mod Once
mod Sets
mod Sizes
mod Spread
mod Untaken
mod Within
pub mod BodyOrder
pub mod Rows
