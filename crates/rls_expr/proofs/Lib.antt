pub mod ResolvingLemmas
pub mod TypingLemmas
pub mod TermSizes
pub mod SelectingLaws
