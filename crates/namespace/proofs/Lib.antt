-- The laws, each file after those that it cites.
pub mod Clearing
pub mod Asking
pub mod Naming
pub mod Proved
