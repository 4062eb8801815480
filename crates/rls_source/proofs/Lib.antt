pub mod FootprintExamples
pub mod EachLemmas
pub mod FootprintOrderLaws
