pub use Rattle.rls_catalog
pub use Rattle.rls_catalog.specs.rls_expr
