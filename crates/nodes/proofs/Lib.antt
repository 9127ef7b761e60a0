-- The laws that the proofs of this crate cite.
pub mod Fields
pub mod Saying
pub mod Standing
pub mod Proved
