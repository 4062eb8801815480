pub mod Alive
pub mod Spelled
pub mod Blaming
pub mod PlacedWords
pub mod Walks
