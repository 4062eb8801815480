pub mod CommandLineLemmas
pub mod ShownLineLemmas
pub mod WordLemmas
