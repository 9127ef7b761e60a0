pub mod MeaningOperators
