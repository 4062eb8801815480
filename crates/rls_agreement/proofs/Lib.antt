pub mod Deciding
pub mod CommittingLemmas
