-- The meaning, then the mirror.
pub mod MeaningWorkspace
pub mod MirrorStanding
