-- The meaning, then promises and claims, then the mirror.
pub mod MeaningTypes
pub mod Told
pub mod Promises
pub mod Claims
pub mod MirrorCode
