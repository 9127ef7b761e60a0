pub mod MeaningQuestions
pub mod Told
pub mod MirrorOrder
pub mod Promises
pub mod Claims
