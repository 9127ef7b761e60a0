-- The laws that the proofs of this crate and its callers cite, then the claims.
pub mod Putting
pub mod Digits
pub mod Lines
pub mod Joining
pub mod Proved
