pub mod Shifts
pub mod Flats
pub mod Halving
pub mod Unions
pub mod Counts
pub mod Merges
