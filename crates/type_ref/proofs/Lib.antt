-- The laws, each file after those that it cites.
pub mod Typing
pub mod Telling
pub mod Proved
