-- The laws that the proofs of this crate and its callers cite, then the claims.
pub mod Shortness
pub mod Spelling
pub mod Listing
pub mod Typing
pub mod Proved
