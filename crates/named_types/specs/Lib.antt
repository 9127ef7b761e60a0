-- The meaning, then claims, then mirrors.
pub mod MeaningWalk
pub mod Claims
pub mod MirrorTypes
pub mod MirrorCode
