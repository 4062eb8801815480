pub mod Keywords
pub mod Rows
pub mod Walking
pub mod Beginnings
pub mod Reading
pub mod Expected
