pub mod Tags
pub mod Extents
pub mod Commands
