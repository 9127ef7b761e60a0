pub mod Spelling
pub mod Noting
