pub mod Committing
pub use Rattle.rls_catalog.specs.State
