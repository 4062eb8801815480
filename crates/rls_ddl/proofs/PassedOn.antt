-- Lemmas of libraries below that tactics of this crate name.
pub use Rattle.rls_guard.specs.rls_role.proofs.StepLaws.{can_set_reads_walked, can_set_walked}
