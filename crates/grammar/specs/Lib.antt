-- Meanings first, then the mirrors of the code.
pub mod MeaningReading
pub mod MeaningGrammar
pub mod MirrorRows
pub mod MirrorTable
