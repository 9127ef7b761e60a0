-- The laws, each file after those that it cites.
pub mod Following
pub mod Keeping
pub mod Renaming
pub mod Declaring
pub mod Numbering
pub mod Bounding
pub mod Records
pub mod Pairs
pub mod Walking
pub mod Beginning
pub mod Alike
pub mod Gathering
pub mod Streaming
pub mod Proved
