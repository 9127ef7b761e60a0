-- The meaning, then the mirror.
pub mod MeaningResolving
pub mod MirrorRecords
