-- The laws, each file after those that it cites.
pub mod Twice
pub mod Walking
pub mod Answered
pub mod Bodies
pub mod Few
pub mod Stepping
pub mod Turning
pub mod Finding
pub mod Proved
