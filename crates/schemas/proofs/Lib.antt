-- The laws, each file after those that it cites.
pub mod Trees
pub mod Filling
pub mod Returning
pub mod Again
pub mod Laid
pub mod Counted
pub mod LaidOut
pub mod SmallSheets
pub mod Proved
