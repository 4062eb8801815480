pub mod Alike
pub mod ScannedRows
pub mod Judging
pub mod Valuing
pub mod Handed
