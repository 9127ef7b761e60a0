-- The definitions that the contracts of this crate cite.
pub mod MeaningBytes
pub mod MirrorBuilding
pub mod Claims
