-- Meanings, then mirrors, then claims.
pub mod MeaningLines
pub mod MeaningListing
pub mod MeaningWhole
pub mod MirrorLines
pub mod Claims
