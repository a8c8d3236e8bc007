mod Agents
mod Around
mod Chains
mod Graph
mod Judged
mod Meets
mod NamedRows
mod Pieces
mod SampleModel
mod Sites
mod Verdicts
pub mod Either
pub mod Firsts
