-- Lemmas of libraries below that tactics of this crate name.
pub use Rattle.rls_verdict.specs.rls_catalog.proofs.Frames.{holds_frame, missing_frame}
