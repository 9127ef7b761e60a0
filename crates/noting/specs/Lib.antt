-- The meaning, then the mirror.
pub mod MeaningNames
pub mod MirrorNoted
