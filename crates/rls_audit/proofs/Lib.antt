pub mod ExampleLemmas
pub mod MeaningLemmas
pub mod OrderLemmas
pub mod ShowingLemmas
pub mod ZipLemmas
