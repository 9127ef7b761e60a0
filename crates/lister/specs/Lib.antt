-- Document 01's example, what is left of a listing, then the claims.
pub mod MeaningExample
pub mod MirrorRest
pub mod Claims
