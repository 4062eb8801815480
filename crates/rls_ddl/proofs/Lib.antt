pub mod FoundPolicies
pub mod PolicyOrderLaws
pub mod PrimaryKeyLaws
pub mod RowsLeftLemmas
pub mod TablesLeftLemmas
mod PassedOn
