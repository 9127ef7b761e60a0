-- Promises, then claims.
pub mod Promises
pub mod Claims
