pub mod Lines
pub mod Connects
pub mod Requests
pub mod Spelled
pub mod Rendering
pub mod Streams
pub mod Plans
pub use Rattle.rls_guard
