-- Meanings, then claims, then mirrors.
pub mod MeaningNamespace
pub mod MeaningExamples
pub mod Claims
pub mod MirrorNamespace
