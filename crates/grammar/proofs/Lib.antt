-- The laws, each file after those that it cites.
pub mod Choosing
pub mod Serving
pub mod Sequences
pub mod Tabulated
