pub mod MeaningExpression
pub mod MeaningBuilds
pub mod MeaningNumbers
pub mod MeaningExamples
pub mod MirrorNodes
pub mod MirrorKinds
pub mod Claims
