pub mod Endings
pub mod Results
pub use Rattle.rls_value
