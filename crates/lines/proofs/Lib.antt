-- The laws that the proofs of this crate and of others cite.
pub mod Writes
