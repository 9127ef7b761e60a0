-- Meaning, then what C is told, and the mirror.
pub mod MeaningCode
pub mod Told
pub mod MirrorCode
