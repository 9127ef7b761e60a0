-- The laws, each file after those that it cites.
pub mod Following
pub mod Declaring
pub mod Seeking
pub mod Spelling
pub mod Known
pub mod Meaning
pub mod Appending
pub mod Nodes
pub mod Records
