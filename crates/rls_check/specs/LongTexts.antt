-- How it is written at length why a statement did what it did: the lines of the short form and, indented below them, values and
-- reasons.
use Rattle.std.specs.Prelude.{ℕ, List, [], ◌∷◌, ◌++◌, Bool, true, false, codes, if◌then◌else◌, Option, Some, None, is_some}
use Rattle.std.specs.Fmt.{decimal}
use Rattle.std.specs.List.{flat_map}
use Rattle.rls_value.specs.{declared.truth.Truth.Truth, declared.value.Value.Value}
use Rattle.rls_expr.specs.declared.policy.Grantee.{Grantee}
use Rattle.rls_expr.specs.declared.policy.Grantee.TheVariants as g
use Rattle.rls_statement.specs.{declared.statement.Statement.Statement, Tags.tag_of}
use Rattle.rls_explain.specs.declared.details.{Asking.Asking, Consulted.Consulted, Consulting.Consulting, Details.Details, Exemption.Exemption, Part.Part}
use Rattle.rls_explain.specs.declared.details.Asking.TheVariants as asking
use Rattle.rls_explain.specs.declared.details.Consulting.TheVariants as consulting
use Rattle.rls_explain.specs.declared.details.Exemption.TheVariants as exemption
use Rattle.rls_explain.specs.declared.explanation.{Explained.Explained, Said.Said}
use Rattle.rls_explain.specs.Texts.{decision_text, permissive_word, policy_kind_word, said_text}
use Rattle.rls_check.specs.declared.explaining.Why.{Why}
use Rattle.rls_check.specs.declared.placed.Placed.{Placed}
use Rattle.rls_audit.specs.rls_printing.specs.Escaped.{escaped_line}
use Rattle.rls_check.specs.LongParts.{part_text}
use Rattle.rls_check.specs.ShownRows.{values_text}
use Rattle.rls_check.specs.ShownTexts.{target_of}
use Rattle.rls_check.specs.WhyTexts.{came_text, ended_line, head_text}

-- ---- words

-- whom a policy is to
abbrev pub grantee_text : Grantee → List ℕ
grantee_text g.Public = codes "PUBLIC"
grantee_text (g.Role name) = name

-- all of them, this before the first
abbrev pub roles_text : List ℕ → List Grantee → List ℕ
roles_text before [] = []
roles_text before (grantee ∷ grantees) = before ++ (grantee_text grantee ++ roles_text (codes ", ") grantees)

-- the expression that is asked for
abbrev pub slot_word : Bool → List ℕ
slot_word true = codes "WITH CHECK"
slot_word false = codes "USING"

-- what a policy without it does: a permissive one allows nothing, a restrictive one denies nothing
abbrev pub effect_word : Bool → List ℕ
effect_word true = codes "allows"
effect_word false = codes "denies"

-- why a role is exempt
abbrev pub exemption_text : List ℕ → List ℕ → List ℕ → Exemption → List ℕ
exemption_text role table owner exemption.Disabled = codes "row security is not enabled on " ++ table
exemption_text role table owner exemption.Superuser = role ++ codes " is a superuser"
exemption_text role table owner exemption.BypassRls = role ++ codes " has BYPASSRLS"
exemption_text role table owner exemption.Owner = role ++ (codes " owns " ++ (table ++ codes ", and row security is not forced"))
exemption_text role table owner exemption.OwnersPrivileges = role ++ (codes " has the privileges of " ++ (owner ++ (codes ", which owns " ++ (table ++ codes ", and row security is not forced"))))

-- ---- a policy

-- why it isn't asked: it is for another command, or to other roles, or has no expression for this one
abbrev pub other_command_line : Consulted → List ℕ
other_command_line policy = codes "  policy " ++ (policy.policy ++ (codes " is not asked: it is FOR " ++ policy_kind_word policy.kind))

abbrev pub other_roles_line : Consulted → List ℕ
other_roles_line policy = codes "  policy " ++ (policy.policy ++ (codes " is not asked: it is TO " ++ roles_text [] policy.to))

abbrev pub no_expression_line : Consulted → List ℕ
no_expression_line policy =
    codes "  policy " ++ (policy.policy ++ (codes " " ++ (permissive_word policy.permissive ++ (codes " FOR " ++ (policy_kind_word policy.kind ++ (codes " has no " ++ (slot_word policy.with_check ++ (codes ": it " ++ (effect_word policy.permissive ++ codes " nothing")))))))))

-- to whom it is, and which of its expressions is asked
abbrev pub slot_line : Consulted → List ℕ
slot_line policy = codes "  TO " ++ (roles_text [] policy.to ++ (codes " " ++ slot_word policy.with_check))

-- what it says, as the short form has it
abbrev pub said_by : Consulted → Truth → Said
said_by policy truth = record { policy = policy.policy; permissive = policy.permissive; kind = policy.kind; truth = truth }

-- one that is asked, with the parts of its condition
abbrev pub asked_text : Consulted → Truth → List Part → List ℕ
asked_text policy truth parts = ended_line (said_text (said_by policy truth)) ++ (escaped_line (slot_line policy) ++ flat_map part_text parts)

abbrev pub asking_text : Consulted → Asking → List ℕ
asking_text policy asking.OtherCommand = escaped_line (other_command_line policy)
asking_text policy asking.OtherRoles = escaped_line (other_roles_line policy)
asking_text policy asking.NoExpression = escaped_line (no_expression_line policy)
asking_text policy (asking.Asked truth parts) = asked_text policy truth parts

abbrev pub policy_text : Consulted → List ℕ
policy_text policy = asking_text policy policy.asking

-- ---- a decision

-- each of the table's policies, or that it has none
abbrev pub policies_text : List ℕ → List Consulted → List ℕ
policies_text table [] = escaped_line (codes "  " ++ (table ++ codes " has no policy"))
policies_text table (policy ∷ policies) = flat_map policy_text (policy ∷ policies)

-- or why none is asked
abbrev pub consulting_text : List ℕ → Details → Consulting → List ℕ
consulting_text role details (consulting.Exempt reason) = escaped_line (codes "  no policy is asked: " ++ exemption_text role details.table details.owner reason)
consulting_text role details (consulting.Policies policies) = policies_text details.table policies

-- the row that was judged, and the policies
abbrev pub details_text : List ℕ → List Value → Details → List ℕ
details_text role row details = escaped_line (codes "  " ++ values_text details.columns row) ++ consulting_text role details details.consulting

abbrev pub details_if : List ℕ → List Value → Option Details → List ℕ
details_if role row None = []
details_if role row (Some details) = details_text role row details

-- the decision, and what is told of it
abbrev pub explained_text : List ℕ → Explained → List ℕ
explained_text role one = ended_line (decision_text one.decision) ++ details_if role one.row one.details

-- ---- all of it

-- who ran the transaction, and where it stands
abbrev pub placed_line : Placed → List ℕ
placed_line placed = codes "  login " ++ (placed.login ++ (codes ", commit " ++ (decimal placed.commit ++ (codes ", place " ++ (decimal placed.place ++ (codes " of " ++ decimal placed.count))))))

-- that a statement on rows made no decision
abbrev pub none_text : Statement → List Explained → List ℕ
none_text asked [] = if is_some (target_of asked) then escaped_line (codes "  no row was looked at") else []
none_text asked (one ∷ explained) = []

-- the lines
abbrev pub long_text : Why → Placed → List ℕ
long_text why placed =
    ended_line (head_text why)
    ++ (escaped_line (placed_line placed)
    ++ (ended_line (codes "reply: " ++ came_text (tag_of why.statement) why.explanation.effect)
    ++ (flat_map (explained_text why.explanation.role) why.explanation.row ++ none_text why.statement why.explanation.row)))
