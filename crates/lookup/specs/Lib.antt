pub mod MirrorLookup
pub mod MirrorWalk
