pub mod MirrorRows
pub mod MirrorLists
pub mod MirrorUnions
