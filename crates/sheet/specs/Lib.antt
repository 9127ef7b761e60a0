-- Meanings first; then what the answers mean, the promises and the claims; then the mirrors of the code.
pub mod MeaningName
pub mod MeaningSheet
pub mod Told
pub mod Promises
pub mod Claims
pub mod MirrorField
pub mod MirrorCheck
