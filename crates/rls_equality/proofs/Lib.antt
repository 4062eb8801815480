pub mod Deciding
pub mod TermLists
