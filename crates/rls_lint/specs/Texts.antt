-- How a finding is written: `RULE TABLE: TEXT`, `RULE TABLE POLICY: TEXT`, or with USING or WITH CHECK behind the policy.
use Rattle.std.specs.Prelude.{ℕ, List, [], ◌∷◌, ◌++◌, Bool, true, false, ◌&&◌, not, nat_eq, codes, if◌then◌else◌}
use Rattle.std.specs.Fmt.{decimal}
use Rattle.rls_value.specs.{Words.kind_word}
use Rattle.rls_value.specs.declared.verb.Kind.TheVariants as k
use Rattle.rls_lint.specs.declared.commands.Commands.{Commands}
use Rattle.rls_lint.specs.declared.finding.{Finding.Finding, Lookup.Lookup, Mistake.Mistake}
use Rattle.rls_lint.specs.declared.finding.Lookup.TheVariants as l
use Rattle.rls_printing.specs.Escaped.{escaped_line}
use Rattle.rls_lint.specs.declared.finding.Mistake.TheVariants as m

-- ---- lists

-- names behind the first, each after a comma
abbrev pub more_names : List (List ℕ) → List ℕ
more_names [] = []
more_names (name ∷ names) = codes ", " ++ (name ++ more_names names)

-- names with commas between them
abbrev pub names_text : List (List ℕ) → List ℕ
names_text [] = []
names_text (name ∷ names) = name ++ more_names names

-- the words of a set of types of command, in the order of the four
abbrev pub words_of : Commands → List (List ℕ)
words_of commands =
    (if commands.select then kind_word k.Select ∷ [] else [])
    ++ ((if commands.insert then kind_word k.Insert ∷ [] else [])
    ++ ((if commands.update then kind_word k.Update ∷ [] else [])
    ++ (if commands.delete then kind_word k.Delete ∷ [] else [])))

-- a word, where it is given, behind a comma unless it is the first
abbrev pub word_text : (first given : Bool) → List ℕ → List ℕ
word_text first false word = []
word_text true true word = word
word_text false true word = codes ", " ++ word

-- no word was given yet
abbrev pub is_still_first : (first given : Bool) → Bool
is_still_first first given = first && not given

-- of one role, or of more
abbrev pub hold_word : List (List ℕ) → List ℕ
hold_word (role ∷ []) = codes " holds "
hold_word _ = codes " hold "

-- of one policy, or of more
abbrev pub policies_word : ℕ → List ℕ
policies_word n = if nat_eq n 1 then codes " policy" else codes " policies"

-- ---- the rule

abbrev pub lookup_rule : Lookup → List ℕ
lookup_rule l.Blind = codes "blind-lookup"
lookup_rule l.Open = codes "open-lookup"
lookup_rule l.Unreadable = codes "unreadable"

abbrev pub rule_text : Mistake → List ℕ
rule_text (m.Lookup how policy table roles) = lookup_rule how
rule_text (m.CheckTrue policy) = codes "check-true"
rule_text (m.Loop table roles) = codes "loop"
rule_text (m.NoCheck policy permissive) = codes "no-check"
rule_text (m.Denied true roles commands) = codes "restrictive-alone"
rule_text (m.Denied false roles commands) = codes "no-policy"
rule_text (m.NullCompared policy check comparison) = codes "null-compared"
rule_text (m.OwnerUnbound roles) = codes "owner-unbound"
rule_text (m.Off count) = codes "rls-off"
rule_text (m.ToNobody policy roles) = codes "to-nobody"

-- ---- the policy, with a blank before it, and which of its conditions

abbrev pub slot_text : Bool → List ℕ
slot_text false = codes " USING"
slot_text true = codes " WITH CHECK"

abbrev pub policy_text : Mistake → List ℕ
policy_text (m.Lookup how policy table roles) = codes " " ++ policy
policy_text (m.CheckTrue policy) = codes " " ++ policy
policy_text (m.NoCheck policy permissive) = codes " " ++ policy
policy_text (m.NullCompared policy check comparison) = codes " " ++ (policy ++ slot_text check)
policy_text (m.ToNobody policy roles) = codes " " ++ policy
policy_text _ = []

-- ---- the text

-- what becomes of statements that read without the privilege
unfoldable pub refused_words : List ℕ
refused_words = codes ": their statements are refused (42501)"

abbrev pub lookup_text : Lookup → List ℕ → List (List ℕ) → List ℕ
lookup_text l.Blind table roles = codes "it reads " ++ (table ++ (codes ", of which no policy for SELECT shows " ++ (names_text roles ++ codes " a row")))
lookup_text l.Open table roles = codes "it reads " ++ (table ++ (codes ", which has no row security: " ++ (names_text roles ++ codes " can read all of it")))
lookup_text l.Unreadable table roles = codes "it reads " ++ (table ++ (codes ", on which SELECT is missing for " ++ (names_text roles ++ refused_words)))

-- a restrictive policy without a condition denies nothing
abbrev pub no_check_text : Bool → List ℕ
no_check_text true = codes "for INSERT without WITH CHECK, so it allows nothing"
no_check_text false = codes "for INSERT without WITH CHECK, so it denies nothing"

abbrev pub denied_text : Bool → List ℕ
denied_text true = codes ", and only restrictive policies apply: every row is denied"
denied_text false = codes ", and no policy applies: every row is denied"

abbrev pub mistake_text : Mistake → List ℕ
mistake_text (m.Lookup how policy table roles) = lookup_text how table roles
mistake_text (m.CheckTrue policy) = codes "WITH CHECK (TRUE) allows every new row"
mistake_text (m.Loop table roles) = codes "its policies lead back to " ++ (table ++ (codes ": statements of " ++ (names_text roles ++ codes " are refused (42P17)")))
mistake_text (m.NoCheck policy permissive) = no_check_text permissive
mistake_text (m.Denied alone roles commands) = names_text roles ++ (hold_word roles ++ (names_text (words_of commands) ++ denied_text alone))
mistake_text (m.NullCompared policy check comparison) = comparison ++ codes " is never true: it compares with NULL"
mistake_text (m.OwnerUnbound roles) = codes "row security is not forced, and doesn't bind " ++ names_text roles
mistake_text (m.Off count) = codes "it has " ++ (decimal count ++ (policies_word count ++ codes ", and row security is not enabled: nothing is asked"))
mistake_text (m.ToNobody policy roles) = codes "nobody who may log in has the privileges of " ++ names_text roles

-- the text of a line
abbrev pub finding_text : Finding → List ℕ
finding_text it = rule_text it.mistake ++ (codes " " ++ (it.table ++ (policy_text it.mistake ++ (codes ": " ++ mistake_text it.mistake))))

-- the line, with its end; control characters and backslashes are escaped
abbrev pub finding_line : Finding → List ℕ
finding_line it = escaped_line (finding_text it)
