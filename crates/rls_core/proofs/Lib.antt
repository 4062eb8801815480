mod StatementLemmas
mod WorldLemmas
mod RuleLemmas
mod HeadlineLemmas
mod AdmittedLemmas
mod PostLemmas
pub mod JoinedLemmas
mod AttemptLemmas
pub mod KeptLemmas
pub mod EventLemmas
pub mod TakenLemmas
pub mod ComingLemmas
pub mod GoingLemmas
pub mod WorkLemmas
pub mod CallLemmas
pub mod RefusalLemmas
pub mod RunLemmas
mod NewLemmas
mod SpanLemmas
mod DecidedLemmas
mod PostedLemmas
