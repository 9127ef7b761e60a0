-- The laws, each file after those that it cites.
pub mod Picking
pub mod Numbering
pub mod Schemas
pub mod Scopes
pub mod Walks
pub mod Proved
