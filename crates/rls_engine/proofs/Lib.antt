pub mod TokenLemmas
pub mod HoldLemmas
pub mod KeepLemmas
pub mod LedLemmas
pub mod StatementsCross
pub mod CoreCrosses
pub mod EngineCrosses
mod AttemptLemmas
