-- The laws, each file after those that it cites.
pub mod Owning
pub mod Questions
pub mod Handing
pub mod Demand
pub mod Proved
