pub mod Agents
pub mod inner
pub mod Keys
pub mod Standing
pub mod Walks
