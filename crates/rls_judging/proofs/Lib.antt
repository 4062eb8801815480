pub mod RowLemmas
pub mod ValueLemmas
