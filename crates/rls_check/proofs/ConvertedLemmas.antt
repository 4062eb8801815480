-- The lines of an audit tell one audit, and in the second format they tell the same.
use Rattle.std.specs.Prelude.{◌≡◌, refl, ◌++◌, ℕ, Bool, true, List, [], ◌∷◌, map, length, Option, Some, IsUtf8}
use Rattle.std.specs.List.{AllByRecursion, AllZip}
use Rattle.std.proofs.Common.{ap, sym, ◌∙◌, subst}
use Rattle.rls_audit.specs.rls_audit_lines.specs.declared.lines.Shown.{Shown}
use Rattle.rls_audit.specs.rls_audit_lines.specs.declared.lines.Line.{Line}
use Rattle.rls_audit.specs.rls_audit_lines.specs.declared.lines.Line.TheVariants.{Head, Txn, End}
use Rattle.rls_check.specs.declared.transaction.Transaction.{Transaction}
use Rattle.rls_check.specs.declared.audit.Audit.{Audit}
use Rattle.rls_check.specs.Forms.{IsWritten}
use Rattle.rls_check.specs.Keeping.{AreKept, lines_read}
use Rattle.rls_check.specs.KeepingLaws.{all_kept_one}
use Rattle.rls_check.specs.Wholes.{IsTextOf, AreAudit, IsAuditOf, AreConverted}
use Rattle.rls_check.proofs.FormLemmas.{one_line}
use Rattle.rls_check.proofs.HeadLemmas.{one_format}

-- texts are the lines of one audit
lines_one : (second : Bool) (texts : List (List ℕ)) (ls ms : List Line) → AllZip (IsTextOf second) texts ls → AllZip (IsTextOf second) texts ms → ls ≡ ms
lines_one second [] [] [] h k = refl
lines_one second [] [] (m ∷ ms) h k = absurd k
lines_one second [] (l ∷ ls) ms h k = absurd h
lines_one second (t ∷ texts) [] ms h k = absurd h
lines_one second (t ∷ texts) (l ∷ ls) [] h k = absurd k
lines_one second (t ∷ texts) (l ∷ ls) (m ∷ ms) h k =
    ap (λ (x : Line). x ∷ ls) (one_line second t l m h.0.1 k.0.1) ∙ ap (λ (rest : List Line). m ∷ rest) (lines_one second texts ls ms h.1 k.1)

parts_of : (read all : List Shown) (n m : ℕ) (order named : List ℕ) → map Txn read ++ End n order ∷ [] ≡ map Txn all ++ End m named ∷ [] → (read ≡ all) × (order ≡ named)
parts_of [] [] n m order named h = (refl, cc)
parts_of [] (y ∷ all) n m order named h = absurd (cc)
parts_of (x ∷ read) [] n m order named h = absurd (cc)
parts_of (x ∷ read) (y ∷ all) n m order named h =
    let same : x ≡ y = cc in
    let rest = parts_of read all n m order named (cc) in
    (ap (λ (s : Shown). s ∷ read) same ∙ ap (λ (s : List Shown). y ∷ s) rest.0, rest.1)

same_format : (texts : List (List ℕ)) (s t : Bool) (ls ms : List Line) → AllZip (IsTextOf s) texts (Head ∷ ls) → AllZip (IsTextOf t) texts (Head ∷ ms) → s ≡ t
same_format [] s t ls ms h k = absurd h
same_format (text ∷ texts) s t ls ms h k = one_format text s t h.0.1 k.0.1

tail_same : (ls ms : List Line) → Head ∷ ls ≡ Head ∷ ms → ls ≡ ms
tail_same ls ms h = cc

same_read : (texts : List (List ℕ)) (s t : Bool) (read all : List Shown) (order named : List ℕ) → AreAudit s texts read order → AreAudit t texts all named → (read ≡ all) × (order ≡ named)
same_read texts s t read all order named h k =
    let format : s ≡ t = same_format texts s t (map Txn read ++ End (length read) order ∷ []) (map Txn all ++ End (length all) named ∷ []) h.lines k.lines in
    parts_of read all (length read) (length all) order named
    (tail_same (map Txn read ++ End (length read) order ∷ []) (map Txn all ++ End (length all) named ∷ [])
    (lines_one t texts (lines_read read order) (lines_read all named) (subst (λ (b : Bool). AllZip (IsTextOf b) texts (lines_read read order)) format h.lines) k.lines))

abbrev audit_by : List Transaction → List ℕ → Audit
audit_by transactions order = record { transactions = transactions; order = order }

same_audit : (one other : Audit) → one.transactions ≡ other.transactions → one.order ≡ other.order → one ≡ other
same_audit one other h k = ap (λ (ts : List Transaction). audit_by ts one.order) h ∙ ap (audit_by other.transactions) k

kept_same : (one other : Audit) (read all : List Shown) → (read ≡ all) × (one.order ≡ other.order) → AreKept 1 read one.transactions → AreKept 1 all other.transactions → one ≡ other
kept_same one other read all same h k = same_audit one other (all_kept_one 1 all one.transactions other.transactions (subst (λ (xs : List Shown). AreKept 1 xs one.transactions) same.0 h) k) same.1

-- lines tell one audit
pub audit_one : (texts : List (List ℕ)) (one other : Audit) → IsAuditOf texts one → IsAuditOf texts other → one ≡ other
audit_one texts one other h k = kept_same one other h.read k.read (same_read texts h.second k.second h.read k.read one.order other.order h.are k.are) h.kept k.kept

-- what is written of lines are these lines in the second format
written_are : (second : Bool) (texts written : List (List ℕ)) (lines : List Line) → AllZip (IsTextOf second) texts lines → AllZip IsWritten lines written → AllByRecursion IsUtf8 written → AllZip (IsTextOf true) written lines
written_are second [] [] [] h k utf8 = tt
written_are second [] (w ∷ written) [] h k utf8 = absurd k
written_are second (t ∷ texts) written [] h k utf8 = absurd h
written_are second [] written (l ∷ lines) h k utf8 = absurd h
written_are second (t ∷ texts) [] (l ∷ lines) h k utf8 = absurd k
written_are second (t ∷ texts) (w ∷ written) (l ∷ lines) h k utf8 = ((utf8.0, (k.0.back, h.0.1.1)), written_are second texts written lines h.1 k.1 utf8.1)

-- so they tell the same audit
pub conversion_same : (texts written : List (List ℕ)) (one other : Audit) → AreConverted texts written → IsAuditOf texts one → IsAuditOf written other → one ≡ other
conversion_same texts written one other to h k =
    let again : AreAudit true written to.read to.order = record { lines = written_are to.second texts written (lines_read to.read to.order) to.are.lines to.lines to.utf8; in_turn = to.are.in_turn } in
    let first = same_read texts h.second to.second h.read to.read one.order to.order h.are to.are in
    let last = same_read written true k.second to.read k.read to.order other.order again k.are in
    kept_same one other h.read k.read (first.0 ∙ last.0, first.1 ∙ last.1) h.kept k.kept
