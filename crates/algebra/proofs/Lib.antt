pub mod Asking
pub mod Once
pub mod Proved
