pub mod MirrorIndices
