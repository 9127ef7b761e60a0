-- The laws, each file after those that it cites.
pub mod Fields
pub mod Turning
pub mod Names
pub mod Looks
pub mod Few
