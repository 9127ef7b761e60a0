-- Meanings, then promises and claims, then the mirror.
pub mod MeaningQuestions
pub mod Promises
pub mod Claims
pub mod MirrorAsked
