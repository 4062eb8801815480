-- Definitions of libraries below that tactics of this crate name.
unfoldable pub use Rattle.rls_evaluation.specs.rls_source.specs.Asked.{role_at}
unfoldable pub use Rattle.rls_policy.specs.rls_role.specs.Reaching.{effective_roles_in, effective_roles_reads_in}
