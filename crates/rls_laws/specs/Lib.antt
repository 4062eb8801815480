pub mod InOrder
pub mod Shown
pub mod Spelled
pub mod Walks
pub mod Subqueries
pub mod Reads
