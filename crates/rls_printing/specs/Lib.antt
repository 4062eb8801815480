pub mod OutputTokens
pub mod Outputs
pub mod ExprForms
pub mod StatementForms
pub mod ReadBack
pub mod CommandForms
pub mod Escaped
