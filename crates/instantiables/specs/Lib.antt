pub mod MirrorRows
pub mod Told
