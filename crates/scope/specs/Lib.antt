pub mod MeaningNames
pub mod MeaningScope
pub mod Told
pub mod Held
pub mod MirrorScope
pub mod Claims
