pub mod Entries
pub mod Left
pub mod Lists
pub mod Parts
pub mod Tree
