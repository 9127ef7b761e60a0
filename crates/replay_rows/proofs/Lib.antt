-- The laws that the proofs of this crate cite.
pub mod Evaluating
pub mod Built
