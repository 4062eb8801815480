pub mod DifferenceLemmas
pub mod MarkLemmas
pub mod ReportLemmas
pub mod TranscriptLemmas
pub mod NumberLemmas
