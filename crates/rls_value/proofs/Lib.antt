mod NameLemmas
pub mod ListingLaws
pub mod ObjectOrderLaws
pub mod NameHeadLemmas
