-- Meanings, then promises and claims, then the mirror.
pub mod MeaningOrder
pub mod Promises
pub mod Claims
pub mod MirrorNames
