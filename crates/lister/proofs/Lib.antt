-- The laws of the listing: its lines from the records, then each way through the code.
pub mod Naming
pub mod Supertypes
pub mod Starting
pub mod Typing
pub mod Printing
pub mod Passing
pub mod Turning
pub mod Example
pub mod Proved
