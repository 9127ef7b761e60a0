pub mod MeaningOperands
pub mod MeaningResults
pub mod MirrorOperands
pub mod MirrorResults
pub mod Promises
pub mod Claims
