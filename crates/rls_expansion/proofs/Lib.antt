pub mod Taking
pub mod Telling
pub mod Collecting
pub mod NoTables
pub mod ConditionsLemmas
