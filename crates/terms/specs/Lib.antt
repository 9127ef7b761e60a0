pub mod MirrorValues
