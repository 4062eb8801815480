-- How a page tells the decisions on a row, with the policies that were asked.
use Rattle.std.specs.Prelude.{ℕ, List, [], ◌∷◌, ◌++◌, Bool, true, false, codes, Option, Some, None, ◌&&◌, filter, length, nat_eq, if◌then◌else◌}
use Rattle.std.specs.List.{flat_map}
use Rattle.rls_value.specs.declared.truth.Truth.{Truth}
use Rattle.rls_catalog.specs.{declared.verdict.Side.Side, declared.verdict.Verdict.Verdict, State.is_same_id}
use Rattle.rls_catalog.specs.declared.verdict.Side.TheVariants as side
use Rattle.rls_catalog.specs.declared.verdict.Verdict.TheVariants as v
use Rattle.rls_explain.specs.declared.details.{Asking.Asking, Consulted.Consulted, Consulting.Consulting, Details.Details, Exemption.Exemption, Part.Part}
use Rattle.rls_explain.specs.declared.details.Asking.TheVariants as asking
use Rattle.rls_explain.specs.declared.details.Consulting.TheVariants as consulting
use Rattle.rls_explain.specs.declared.explanation.Explained.{Explained}
use Rattle.rls_explain.specs.declared.outcome.{RowWord.RowWord, Reason.Reason, RowOutcome.RowOutcome}
use Rattle.rls_explain.specs.declared.outcome.RowWord.TheVariants as w
use Rattle.rls_explain.specs.Texts.{decision_text, said_text}
use Rattle.rls_check.specs.LongTexts.{exemption_text, no_expression_line, other_command_line, other_roles_line, said_by, slot_line}
use Rattle.rls_check.specs.PageParts.{parts_pieces}
use Rattle.rls_check.specs.Pieces.{Data, Piece, Tag}
use Rattle.rls_check.specs.ShownRows.{reason_text}

-- ---- policies

-- one that isn't asked, with the reason
abbrev pub not_asked : List ℕ → List Piece
not_asked line = Tag (codes "<p class=\"dim\">") ∷ Data line ∷ Tag (codes "</p>\n") ∷ []

-- one that is, with what it says, and the parts of its condition
abbrev pub asked_pieces : Consulted → Truth → List Part → List Piece
asked_pieces policy truth parts =
    Tag (codes "<p>") ∷ Data (said_text (said_by policy truth)) ∷ Tag (codes " <span class=\"dim\">") ∷ Data (slot_line policy) ∷ Tag (codes "</span></p>\n") ∷ parts_pieces parts

abbrev pub policy_by : Consulted → Asking → List Piece
policy_by policy asking.OtherCommand = not_asked (other_command_line policy)
policy_by policy asking.OtherRoles = not_asked (other_roles_line policy)
policy_by policy asking.NoExpression = not_asked (no_expression_line policy)
policy_by policy (asking.Asked truth parts) = asked_pieces policy truth parts

abbrev pub policy_pieces : Consulted → List Piece
policy_pieces policy = policy_by policy policy.asking

-- each of the table's policies, or that it has none
abbrev pub no_policy_of : List ℕ → List Piece
no_policy_of table = Tag (codes "<p class=\"dim\">") ∷ Data table ∷ Tag (codes " has no policy</p>\n") ∷ []

abbrev pub policies_pieces : List ℕ → List Consulted → List Piece
policies_pieces table [] = no_policy_of table
policies_pieces table (policy ∷ policies) = flat_map policy_pieces (policy ∷ policies)

-- or why none is asked
abbrev pub exempt_pieces : List ℕ → Details → Exemption → List Piece
exempt_pieces role details reason = Tag (codes "<p class=\"dim\">no policy is asked: ") ∷ Data (exemption_text role details.table details.owner reason) ∷ Tag (codes "</p>\n") ∷ []

abbrev pub consulting_pieces : List ℕ → Details → Consulting → List Piece
consulting_pieces role details (consulting.Exempt reason) = exempt_pieces role details reason
consulting_pieces role details (consulting.Policies policies) = policies_pieces details.table policies

abbrev pub details_pieces : List ℕ → Option Details → List Piece
details_pieces role None = []
details_pieces role (Some details) = consulting_pieces role details details.consulting

-- ---- a decision

-- its frame: allowed or denied
abbrev pub verdict_tag : Verdict → List ℕ
verdict_tag v.NoPermissive = codes "<div class=\"d r\"><p><strong>"
verdict_tag (v.Restrictive policy) = codes "<div class=\"d r\"><p><strong>"
verdict_tag verdict = codes "<div class=\"d g\"><p><strong>"

abbrev pub decision_pieces : List ℕ → Explained → List Piece
decision_pieces role one = Tag (verdict_tag one.decision.verdict) ∷ Data (decision_text one.decision) ∷ Tag (codes "</strong></p>\n") ∷ (details_pieces role one.details ++ (Tag (codes "</div>\n") ∷ []))

-- ---- those on a row

-- what the statement did with a row was decided on this side of it
abbrev pub is_on_side : RowWord → Side → Bool
is_on_side w.Returned which = false
is_on_side w.Seen which = false
is_on_side w.Changed which = true
is_on_side w.Inserted side.New = true
is_on_side w.Inserted side.Old = false
is_on_side w.Refused side.New = true
is_on_side w.Refused side.Old = false
is_on_side w.Proposed side.New = true
is_on_side w.Proposed side.Old = false
is_on_side word side.Old = true
is_on_side word side.New = false

abbrev pub is_about : RowOutcome → Explained → Bool
is_about row one = is_same_id row.id one.decision.id && is_on_side row.word one.decision.side

-- the reason, or that there is more to read
abbrev pub reason_pieces : Reason → List Piece
reason_pieces reason = Data (reason_text reason) ∷ []

abbrev pub summary_pieces : Option Reason → List Piece
summary_pieces None = Tag (codes "why") ∷ []
summary_pieces (Some reason) = reason_pieces reason

-- folded up
abbrev pub folded_pieces : List ℕ → RowOutcome → List Explained → List Piece
folded_pieces role row about =
    Tag (codes "<details class=\"w\"><summary>") ∷ (summary_pieces row.reason ++ (Tag (codes "</summary>\n") ∷ (flat_map (decision_pieces role) about ++ (Tag (codes "</details>") ∷ []))))

-- none is told without one
abbrev pub why_with : List ℕ → RowOutcome → List Explained → List Piece
why_with role row about = if nat_eq (length about) 0 then [] else folded_pieces role row about

abbrev pub why_pieces : List ℕ → List Explained → RowOutcome → List Piece
why_pieces role explained row = why_with role row (filter (is_about row) explained)
