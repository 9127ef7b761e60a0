pub mod MeaningAnswer
pub mod Told
