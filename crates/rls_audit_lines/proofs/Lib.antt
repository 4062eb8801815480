pub mod AllLemmas
pub mod AskedLemmas
pub mod CuttingLemmas
pub mod ParsingLemmas
pub mod RefusalLemmas
