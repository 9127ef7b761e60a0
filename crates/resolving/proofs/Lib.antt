-- The laws, each file after those that it cites.
pub mod Reaching
pub mod Namesakes
pub mod Leading
