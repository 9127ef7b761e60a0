pub mod Listings
pub mod Growing
pub mod Insertion
pub mod Feeds
pub mod Unions
pub mod Factors
