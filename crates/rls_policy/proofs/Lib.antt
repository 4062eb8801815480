pub mod Everyone
mod PassedOn
