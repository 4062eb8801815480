pub use Rattle.rls_verdict.specs.rls_catalog.specs.Verdict
pub use Rattle.rls_role
