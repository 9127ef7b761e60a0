-- The laws that the proofs cite.
pub mod Factors
pub mod Finding
pub mod Ordering
pub mod Renaming
pub mod Streams
pub mod Walking
pub mod Asking
pub mod Standing
pub mod Owners
pub mod Proved
