pub mod Building
pub mod Places
pub mod Proved
pub mod Spans
pub mod Occurrence
pub mod Numbered
pub mod Numbers
