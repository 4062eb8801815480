pub mod CodedValues
pub mod CodedRefusals
pub mod CodedStatements
pub mod CodedChanges
pub mod CodedLines
