-- The laws, each file after those that it cites.
pub mod Answering
pub mod Owning
pub mod Standing
pub mod Finding
pub mod Asking
