pub mod Equality
pub mod Holding
pub mod Precedence
pub mod Beginnings
pub mod Proved
