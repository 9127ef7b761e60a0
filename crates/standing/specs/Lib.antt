pub mod MirrorDeclared
