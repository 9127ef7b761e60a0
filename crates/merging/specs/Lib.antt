-- Meanings, then claims, then mirrors.
pub mod MeaningMerging
pub mod MeaningItems
pub mod MeaningNumbering
pub mod MeaningRenaming
pub mod MeaningFirsts
pub mod Claims
pub mod MirrorStream
pub mod MirrorWalk
