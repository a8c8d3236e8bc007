pub mod Laws
pub mod Rising
pub mod Rolls
pub mod Chained
