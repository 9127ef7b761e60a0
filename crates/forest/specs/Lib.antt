-- Meanings.
pub mod MeaningPlaces
pub mod MeaningForest
pub mod MeaningDecoding
