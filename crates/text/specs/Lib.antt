-- Meanings, then mirrors, then what the code's types say.
pub mod MeaningText
pub mod MirrorText
pub mod Told
pub mod Claims
