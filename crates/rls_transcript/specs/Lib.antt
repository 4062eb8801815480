pub mod Told
pub mod Marks
pub mod Transcripts
pub mod Reports
pub mod Memory
pub mod Numbers
