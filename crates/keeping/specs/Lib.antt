pub mod MirrorKeeping
