pub mod Walks
pub mod Terms
pub mod Choosing
