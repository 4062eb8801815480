pub mod SideBySide
pub mod SeenNames
pub mod GrantOptions
pub mod HandedLemmas
pub mod HolderLemmas
pub mod KnownLemmas
pub mod GrantLaws
pub mod GrantPlaces
pub mod GrantorLaws
pub mod ColumnLaws
pub mod ConsideredLaws
pub mod HolderLaws
pub mod MissingLaws
pub mod OptionedLaws
pub mod OriginLaws
pub mod RevokedLemmas
mod PassedOn
