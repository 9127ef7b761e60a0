pub mod MeaningQuery
pub mod Promises
pub mod MirrorQuery
pub mod Claims
