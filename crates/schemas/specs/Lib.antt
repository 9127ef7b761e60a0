-- Meanings, then claims.
pub mod MeaningTree
pub mod MeaningBare
pub mod MeaningSchemas
pub mod MeaningBack
pub mod MeaningUnplaced
pub mod MeaningStanding
pub mod MeaningLayout
pub mod MeaningExamples
pub mod Claims
