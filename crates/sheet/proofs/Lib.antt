-- The laws, each file after those that it cites.
pub mod Spelling
pub mod Deciding
pub mod Onward
pub mod Valuing
pub mod Counting
pub mod Judging
pub mod FirstFault
pub mod Proved
pub mod SmallSheets
