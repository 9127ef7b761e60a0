pub mod Keeping
pub mod Seeking
