-- Meanings, then claims, then mirrors.
pub mod MeaningGathering
pub mod MeaningCombined
pub mod Claims
pub mod MirrorGathering
pub mod MirrorWalk
