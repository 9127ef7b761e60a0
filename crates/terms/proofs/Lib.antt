pub mod Taking
pub mod Folds
