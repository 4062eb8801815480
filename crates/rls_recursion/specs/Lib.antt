pub mod Searching
pub mod Chains
pub mod Listings
pub use Rattle.rls_catalog
