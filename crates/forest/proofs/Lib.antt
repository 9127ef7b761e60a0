-- The laws, each file after those that it cites.
pub mod Laying
pub mod Growing
pub mod Fitting
pub mod Totalling
pub mod Proved
