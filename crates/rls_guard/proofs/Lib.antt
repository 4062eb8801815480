pub mod ItemLaws
pub mod PinnedLaws
pub mod PinnedLemmas
pub mod OneRowLaws
pub mod ResolvedLaws
pub mod RolePrivilegesLaws
pub mod SupportExamples
