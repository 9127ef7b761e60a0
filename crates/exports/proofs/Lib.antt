-- The laws that the proofs of this crate cite.
pub mod Naming
pub mod Proved
