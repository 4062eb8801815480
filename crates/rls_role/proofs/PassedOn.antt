-- Lemmas of libraries below that tactics of this crate name.
pub use Rattle.rls_source.specs.rls_catalog.proofs.Frames.{has_frame}
pub use Rattle.rls_source.specs.rls_catalog.proofs.HasPrivilegesLaws.{has_privileges_means}
pub use Rattle.rls_source.specs.rls_catalog.proofs.PathFrames.{can_set_frame}
pub use Rattle.rls_source.specs.rls_catalog.proofs.Reaching.{can_set_is}
