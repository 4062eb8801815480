pub mod LeavingLemmas
