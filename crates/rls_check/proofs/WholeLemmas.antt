-- Audits as texts: what was read of them, and that no audit begins where a line is refused.
use Rattle.std.specs.Prelude.{◌≡◌, refl, ◌≢◌, ◌⊎◌, ◌+◌, ◌++◌, ◌<◌, ◌≤◌, ◌==◌, ℕ, zero, suc, Bool, true, false, ◌||◌, List, [], ◌∷◌, map, length, Option, Some, Result, Ok, Err, IfOk, IfErr, IsUtf8, string_bytes}
use Rattle.std.specs.List.{AllByRecursion, AllZip, list_any}
use Rattle.std.specs.Ordering.{nat_cmp, match_ordering, is_eq}
use Rattle.std.specs.declared.cmp.Ordering.{Ordering}
use Rattle.std.specs.declared.cmp.Ordering.TheVariants.{Less, Equal, Greater}
use Rattle.std.specs.BTreeMap.{is_at}
use Rattle.std.specs.BTreeSet.{BTreeSet, insert_key}
use Rattle.std.proofs.Common.{String, Global, ap, sym, ◌∙◌, subst, inl, inr, arith, append_assoc, append-nil, length-append, eq-eqb, eqb-true}
use Rattle.std.proofs.lemmas.Str.{IsUtf8-string_bytes}
use Rattle.std.proofs.lemmas.Bool.{or_left, or_right, or_cases, true≢false}
use Rattle.rls_value.specs.declared.refusal.Refusal.{Refusal}
use Rattle.rls_value.specs.declared.refusal.Refusal.TheVariants as r
use Rattle.rls_audit.specs.rls_audit_lines.specs.declared.lines.Shown.{Shown}
use Rattle.rls_audit.specs.rls_audit_lines.specs.declared.lines.Line.{Line}
use Rattle.rls_audit.specs.rls_audit_lines.specs.declared.lines.Line.TheVariants.{Head, Txn, End}
use Rattle.rls_check.specs.declared.transaction.Transaction.{Transaction}
use Rattle.rls_check.specs.declared.form.Stage.{Stage}
use Rattle.rls_check.specs.declared.form.Stage.TheVariants as stage
use Rattle.rls_check.specs.declared.form.Form.{Form}
use Rattle.rls_check.specs.declared.audit.Audit.{Audit}
use Rattle.rls_check.specs.declared.audit.Reader.{Reader}
use Rattle.rls_check.specs.declared.converting.Converter.{Converter}
use Rattle.rls_check.specs.Forms.{FollowsAll, Stands, IsNext, IsBehind, IsUnread, IsTakenAmong, IsEnded, IsRefused, IsWritten, stage_behind}
use Rattle.rls_check.specs.Keeping.{Keeps, AreKept, lines_read}
use Rattle.rls_check.specs.Wholes.{StandsBehind, StandInTurn, IsTextOf, AreAudit, AreNoAudit, BeginNoAudit, lines_at, AreUsed, IsReadAs, Takes, HasRead, IsAuditOf, HasConverted, AreConverted}
use Rattle.rls_check.proofs.FormLemmas.{one_line}
use Rattle.rls_check.proofs.HeadLemmas.{one_format}
use Rattle.rls_check.proofs.KeepingLemmas.{zip_push}
use Rattle.rls_check.proofs.PlacingLemmas.{nat_own, own_number}

-- ---- numbers that are used

-- a number is among those with it
inserted : (xs : List ℕ) (k : ℕ) → list_any (is_at (nat_cmp k)) (insert_key nat_cmp xs k) ≡ true
inserted [] k = or_left (is_at (nat_cmp k) k) false (nat_own k)
inserted (x ∷ xs) k = go (nat_cmp k x) refl (inserted xs k)
  where
    go : (o : Ordering) → nat_cmp k x ≡ o → list_any (is_at (nat_cmp k)) (insert_key nat_cmp xs k) ≡ true → list_any (is_at (nat_cmp k)) (match_ordering o (k ∷ x ∷ xs) (x ∷ xs) (x ∷ insert_key nat_cmp xs k)) ≡ true
    go Less e rest = or_left (is_at (nat_cmp k) k) (list_any (is_at (nat_cmp k)) (x ∷ xs)) (nat_own k)
    go Equal e rest = or_left (is_at (nat_cmp k) x) (list_any (is_at (nat_cmp k)) xs) (ap is_eq e)
    go Greater e rest = or_right (is_at (nat_cmp k) x) (list_any (is_at (nat_cmp k)) (insert_key nat_cmp xs k)) rest

-- and so are the others
still : (xs : List ℕ) (k q : ℕ) → list_any (is_at (nat_cmp q)) xs ≡ true → list_any (is_at (nat_cmp q)) (insert_key nat_cmp xs k) ≡ true
still [] k q h = absurd (true≢false (sym h))
still (x ∷ xs) k q h = go (nat_cmp k x) (still xs k q)
  where
    go : (o : Ordering) → (list_any (is_at (nat_cmp q)) xs ≡ true → list_any (is_at (nat_cmp q)) (insert_key nat_cmp xs k) ≡ true) → list_any (is_at (nat_cmp q)) (match_ordering o (k ∷ x ∷ xs) (x ∷ xs) (x ∷ insert_key nat_cmp xs k)) ≡ true
    go Less rest = or_right (is_at (nat_cmp q) k) (list_any (is_at (nat_cmp q)) (x ∷ xs)) h
    go Equal rest = h
    go Greater rest =
        elim (or_cases (is_at (nat_cmp q) x) (list_any (is_at (nat_cmp q)) xs) h) [
          | inl here ↦ or_left (is_at (nat_cmp q) x) (list_any (is_at (nat_cmp q)) (insert_key nat_cmp xs k)) here
          | inr later ↦ or_right (is_at (nat_cmp q) x) (list_any (is_at (nat_cmp q)) (insert_key nat_cmp xs k)) (rest later)
        ]

-- and no others are
inserted_only : (xs : List ℕ) (k q : ℕ) → list_any (is_at (nat_cmp q)) (insert_key nat_cmp xs k) ≡ true → (q ≡ k) ⊎ (list_any (is_at (nat_cmp q)) xs ≡ true)
inserted_only [] k q h = elim (or_cases (is_at (nat_cmp q) k) false h) [ inl here ↦ inl (own_number q k here) | inr none ↦ absurd (true≢false (sym none)) ]
inserted_only (x ∷ xs) k q h = go (nat_cmp k x) (inserted_only xs k q) h
  where
    go : (o : Ordering) → (list_any (is_at (nat_cmp q)) (insert_key nat_cmp xs k) ≡ true → (q ≡ k) ⊎ (list_any (is_at (nat_cmp q)) xs ≡ true))
        → list_any (is_at (nat_cmp q)) (match_ordering o (k ∷ x ∷ xs) (x ∷ xs) (x ∷ insert_key nat_cmp xs k)) ≡ true → (q ≡ k) ⊎ (list_any (is_at (nat_cmp q)) (x ∷ xs) ≡ true)
    go Less rest e = elim (or_cases (is_at (nat_cmp q) k) (list_any (is_at (nat_cmp q)) (x ∷ xs)) e) [ inl here ↦ inl (own_number q k here) | inr later ↦ inr later ]
    go Equal rest e = inr e
    go Greater rest e =
        elim (or_cases (is_at (nat_cmp q) x) (list_any (is_at (nat_cmp q)) (insert_key nat_cmp xs k)) e) [
          | inl here ↦ inr (or_left (is_at (nat_cmp q) x) (list_any (is_at (nat_cmp q)) xs) here)
          | inr later ↦
              elim (rest later) [
                | inl same ↦ inl same
                | inr there ↦ inr (or_right (is_at (nat_cmp q) x) (list_any (is_at (nat_cmp q)) xs) there)
              ]
        ]

any_push : {A : Type 0} (p : A → Bool) (xs : List A) (x : A) → p x ≡ true → list_any p (xs ++ x ∷ []) ≡ true
any_push p [] x h = or_left (p x) false h
any_push p (y ∷ ys) x h = or_right (p y) (list_any p (ys ++ x ∷ [])) (any_push p ys x h)

any_still : {A : Type 0} (p : A → Bool) (xs : List A) (x : A) → list_any p xs ≡ true → list_any p (xs ++ x ∷ []) ≡ true
any_still p [] x h = absurd (true≢false (sym h))
any_still p (y ∷ ys) x h =
    elim (or_cases (p y) (list_any p ys) h) [ inl here ↦ or_left (p y) (list_any p (ys ++ x ∷ [])) here | inr later ↦ or_right (p y) (list_any p (ys ++ x ∷ [])) (any_still p ys x later) ]

or_no : (a b : Bool) → (a || b) ≡ false → b ≡ false
or_no true b e = absurd (true≢false e)
or_no false b e = e

-- one that wasn't among them makes them one more
one_longer : (xs : List ℕ) (k : ℕ) → list_any (is_at (nat_cmp k)) xs ≡ false → length (insert_key nat_cmp xs k) ≡ suc (length xs)
one_longer [] k h = refl
one_longer (x ∷ xs) k h = go (nat_cmp k x) refl (one_longer xs k)
  where
    go : (o : Ordering) → nat_cmp k x ≡ o → (list_any (is_at (nat_cmp k)) xs ≡ false → length (insert_key nat_cmp xs k) ≡ suc (length xs)) → length (match_ordering o (k ∷ x ∷ xs) (x ∷ xs) (x ∷ insert_key nat_cmp xs k)) ≡ suc (length (x ∷ xs))
    go Less e rest = refl
    go Equal e rest = absurd (true≢false (sym (or_left (is_at (nat_cmp k) x) (list_any (is_at (nat_cmp k)) xs) (ap is_eq e)) ∙ h))
    go Greater e rest = ap suc (rest (or_no (is_at (nat_cmp k) x) (list_any (is_at (nat_cmp k)) xs) h))

all_push : {A : Type 0} (P : A → Type 0) (xs : List A) (x : A) → AllByRecursion P xs → P x → AllByRecursion P (xs ++ x ∷ [])
all_push P [] x h p = (p, tt)
all_push P (y ∷ ys) x h p = (h.0, all_push P ys x h.1 p)

all_still : (numbers : List ℕ) (k : ℕ) (read : List Shown) → AllByRecursion (λ (it : Shown). list_any (is_at (nat_cmp it.txn)) numbers ≡ true) read
    → AllByRecursion (λ (it : Shown). list_any (is_at (nat_cmp it.txn)) (insert_key nat_cmp numbers k) ≡ true) read
all_still numbers k [] h = tt
all_still numbers k (one ∷ read) h = (still numbers k one.txn h.0, all_still numbers k read h.1)

length_push : {A : Type 0} (xs : List A) (x : A) → length (xs ++ x ∷ []) ≡ length xs + 1
length_push xs x = length-append xs (x ∷ [])

used_more : (numbers : List ℕ) (read : List Shown) (one : Shown) → AreUsed numbers read → list_any (is_at (nat_cmp one.txn)) numbers ≡ false → AreUsed (insert_key nat_cmp numbers one.txn) (read ++ one ∷ [])
used_more numbers read one used new = record {
  count =
      (let longer = one_longer numbers one.txn new in
      let count = used.count in
      let more = length_push read one in omega (arith, longer, count, more));
  each =
      all_push (λ (it : Shown). list_any (is_at (nat_cmp it.txn)) (insert_key nat_cmp numbers one.txn) ≡ true) read one (all_still numbers one.txn read used.each) (inserted numbers one.txn);
  only = λ number there.
      elim (inserted_only numbers one.txn number there) [
        | inl same ↦ any_push (λ (it : Shown). it.txn == number) read one (eq-eqb one.txn number (sym same))
        | inr earlier ↦ any_still (λ (it : Shown). it.txn == number) read one (used.only number earlier)
      ];
}

-- ---- who may stand behind whom

others : (numbers : List ℕ) (n : ℕ) (read : List Shown) → AllByRecursion (λ (it : Shown). list_any (is_at (nat_cmp it.txn)) numbers ≡ true) read → list_any (is_at (nat_cmp n)) numbers ≡ false
    → AllByRecursion (λ (it : Shown). it.txn ≢ n) read
others numbers n [] h new = tt
others numbers n (one ∷ read) h new = ((λ same. true≢false (sym (subst (λ (q : ℕ). list_any (is_at (nat_cmp q)) numbers ≡ true) same h.0) ∙ new)), others numbers n read h.1 new)

behind_so : (used : BTreeSet ℕ) (read : List Shown) (one : Shown) → AreUsed used.keys read → FollowsAll used one → StandsBehind read one
behind_so used read one are h = record {
  number = h.number;
  own = others used.keys one.txn read are.each h.own;
  commit = h.commit ∙ ap (λ (n : ℕ). n + 1) are.count;
  snap = subst (λ (n : ℕ). one.snap ≤ n) are.count h.snap;
}

in_turn_push : (front read : List Shown) (one : Shown) → StandInTurn front read → StandsBehind (front ++ read) one → StandInTurn front (read ++ one ∷ [])
in_turn_push front [] one h behind = (subst (λ (xs : List Shown). StandsBehind xs one) (append-nil front) behind, tt)
in_turn_push front (x ∷ read) one h behind =
    (h.0, in_turn_push (front ++ x ∷ []) read one h.1 (subst (λ (xs : List Shown). StandsBehind xs one) (sym (append_assoc front (x ∷ []) read)) behind))

in_turn_at : (front read : List Shown) (one : Shown) (rest : List Shown) → StandInTurn front (read ++ one ∷ rest) → StandsBehind (front ++ read) one
in_turn_at front [] one rest h = subst (λ (xs : List Shown). StandsBehind xs one) (sym (append-nil front)) h.0
in_turn_at front (x ∷ read) one rest h = subst (λ (xs : List Shown). StandsBehind xs one) (append_assoc front (x ∷ []) read) (in_turn_at (front ++ x ∷ []) read one rest h.1)

-- ---- one line more

map_push : {A B : Type 0} (f : A → B) (xs : List A) (x : A) → map f (xs ++ x ∷ []) ≡ map f xs ++ f x ∷ []
map_push f [] x = refl
map_push {B = B} f (y ∷ ys) x = ap (λ (rest : List B). f y ∷ rest) (map_push f ys x)

zip_none : {A B : Type 0} (R : A → B → Type 0) (xs : List A) (ys : List B) → ys ≡ [] → AllZip R xs ys → xs ≡ []
zip_none R [] ys e h = refl
zip_none R (x ∷ xs) [] e h = absurd h
zip_none R (x ∷ xs) (y ∷ ys) e h = absurd (cc)

-- the transactions and the order behind the line
abbrev IsNow : Line → List Shown → List ℕ → List Shown → List ℕ → Type 0
IsNow Head read order shown numbers = (shown ≡ read) × (numbers ≡ order)
IsNow (Txn one) read order shown numbers = (shown ≡ read ++ one ∷ []) × (numbers ≡ order) × (one.commit ≡ length read + 1)
IsNow (End count named) read order shown numbers = (shown ≡ read) × (numbers ≡ named)

-- what is read behind the line
record Goes (texts : List (List ℕ)) (text : List ℕ) (it : Line) (before after : Form) (read : List Shown) (order : List ℕ) : Type 0 where
  format : Bool
  shown : List Shown
  numbers : List ℕ
  form : IsReadAs (texts ++ text ∷ []) format shown numbers after
  lines : lines_at after.stage shown numbers ≡ lines_at before.stage read order ++ it ∷ []
  now : IsNow it read order shown numbers

module _ (texts : List (List ℕ)) (text : List ℕ) (second own : Bool) (before after : Form) (read : List Shown) (order : List ℕ) (reads : IsReadAs texts second read order before) where
  counted : (it : Line) → IsBehind before it own after → after.lines ≡ length (texts ++ text ∷ [])
  counted it behind =
      let lines = behind.lines in
      let count = reads.count in
      let more = length_push texts text in omega (arith, lines, count, more)

  same_used : (it : Line) (numbers : List ℕ) → IsBehind before it own after → numbers ≡ after.used.keys → AreUsed numbers read → AreUsed after.used.keys read
  same_used it numbers behind e h = subst (λ (ns : List ℕ). AreUsed ns read) e h

  goes_first : before.stage ≡ stage.Nothing → IsTextOf own text Head → IsBehind before Head own after → Goes texts text Head before after read order
  goes_first at is behind =
      let none : texts ≡ [] = zip_none (IsTextOf second) texts (lines_at before.stage read order) (ap (λ (st : Stage). lines_at st read order) at) reads.lines in
      let nothing : read ≡ [] = reads.nothing at in
      let lines : lines_at after.stage read order ≡ Head ∷ [] = ap (λ (st : Stage). lines_at st read order) behind.stage ∙ ap (λ (xs : List Shown). Head ∷ map Txn xs) nothing in
      record {
        format = own;
        shown = read;
        numbers = order;
        form = record {
          lines =
              subst (λ (ls : List Line). AllZip (IsTextOf own) (texts ++ text ∷ []) ls) (sym lines)
              (subst (λ (ts : List (List ℕ)). AllZip (IsTextOf own) (ts ++ text ∷ []) (Head ∷ [])) (sym none) (is, tt));
          count = counted Head behind;
          within = behind.within;
          format = λ other e. inside_same other own (sym e ∙ behind.stage);
          nothing = λ e. absurd (nothing_inside own (sym e ∙ behind.stage));
          in_turn = reads.in_turn;
          used = subst (λ (ns : List ℕ). AreUsed ns read) (sym behind.used) reads.used;
        };
        lines = lines ∙ sym (ap (λ (st : Stage). lines_at st read order ++ Head ∷ []) at);
        now = (refl, refl);
      }
    where
      inside_same : (a b : Bool) → stage.Inside a ≡ stage.Inside b → a ≡ b
      inside_same a b e = cc

      nothing_inside : (b : Bool) → stage.Nothing ≡ stage.Inside b → ⊥
      nothing_inside b e = cc

  goes_txn : (one : Shown) → before.stage ≡ stage.Inside own → IsTextOf own text (Txn one) → FollowsAll before.used one → IsBehind before (Txn one) own after → Goes texts text (Txn one) before after read order
  goes_txn one at is follows behind =
      let same : own ≡ second = reads.format own at in
      let stands = behind_so before.used read one reads.used follows in
      let lines : lines_at after.stage (read ++ one ∷ []) order ≡ Head ∷ (map Txn read ++ Txn one ∷ []) =
      ap (λ (st : Stage). lines_at st (read ++ one ∷ []) order) behind.stage ∙ ap (λ (ls : List Line). Head ∷ ls) (map_push Txn read one) in
      record {
        format = second;
        shown = read ++ one ∷ [];
        numbers = order;
        form = record {
          lines =
              subst (λ (ls : List Line). AllZip (IsTextOf second) (texts ++ text ∷ []) ls) (sym lines)
              (zip_push (IsTextOf second) texts (Head ∷ map Txn read) text (Txn one) (subst (λ (st : Stage). AllZip (IsTextOf second) texts (lines_at st read order)) at reads.lines)
              (subst (λ (b : Bool). IsTextOf b text (Txn one)) same is));
          count = counted (Txn one) behind;
          within = behind.within;
          format = λ other e. (let o : stage.Inside other ≡ stage.Inside own = sym e ∙ behind.stage in let p : other ≡ own = cc in p ∙ same);
          nothing = λ e. (let o : stage.Nothing ≡ stage.Inside own = sym e ∙ behind.stage in absurd (cc));
          in_turn = in_turn_push [] read one reads.in_turn stands;
          used = subst (λ (ns : List ℕ). AreUsed ns (read ++ one ∷ [])) (sym behind.used) (used_more before.used.keys read one reads.used follows.own);
        };
        lines = lines ∙ sym (ap (λ (st : Stage). lines_at st read order ++ Txn one ∷ []) at);
        now = (refl, refl, stands.commit);
      }

  goes_end : (count : ℕ) (named : List ℕ) → before.stage ≡ stage.Inside own → IsTextOf own text (End count named) → count ≡ length before.used.keys → IsBehind before (End count named) own after
      → Goes texts text (End count named) before after read order
  goes_end count named at is counts behind =
      let same : own ≡ second = reads.format own at in
      let all : count ≡ length read = counts ∙ reads.used.count in
      let lines : lines_at after.stage read named ≡ lines_read read named = ap (λ (st : Stage). lines_at st read named) behind.stage in
      record {
        format = second;
        shown = read;
        numbers = named;
        form = record {
          lines =
              subst (λ (ls : List Line). AllZip (IsTextOf second) (texts ++ text ∷ []) ls) (sym lines)
              (zip_push (IsTextOf second) texts (Head ∷ map Txn read) text (End (length read) named) (subst (λ (st : Stage). AllZip (IsTextOf second) texts (lines_at st read order)) at reads.lines)
              (subst (λ (n : ℕ). IsTextOf second text (End n named)) all (subst (λ (b : Bool). IsTextOf b text (End count named)) same is)));
          count = counted (End count named) behind;
          within = behind.within;
          format = λ other e. (let o : stage.Inside other ≡ stage.End = sym e ∙ behind.stage in absurd (cc));
          nothing = λ e. (let o : stage.Nothing ≡ stage.End = sym e ∙ behind.stage in absurd (cc));
          in_turn = reads.in_turn;
          used = subst (λ (ns : List ℕ). AreUsed ns read) (sym behind.used) reads.used;
        };
        lines = lines ∙ (ap (λ (n : ℕ). Head ∷ (map Txn read ++ End n named ∷ [])) (sym all) ∙ sym (ap (λ (st : Stage). lines_at st read order ++ End count named ∷ []) at));
        now = (refl, refl);
      }

  goes_so : (st : Stage) (it : Line) → before.stage ≡ st → IsTextOf own text it → Stands st before.used it own → IsBehind before it own after → Goes texts text it before after read order
  goes_so stage.Nothing Head at is stands behind = goes_first at is behind
  goes_so stage.Nothing (Txn one) at is stands behind = absurd (cc)
  goes_so stage.Nothing (End count named) at is stands behind = absurd (cc)
  goes_so (stage.Inside mine) Head at is stands behind = absurd stands.1
  goes_so (stage.Inside mine) (Txn one) at is stands behind = goes_txn one (at ∙ ap (λ (b : Bool). stage.Inside b) (sym stands.0)) is stands.1 behind
  goes_so (stage.Inside mine) (End count named) at is stands behind = goes_end count named (at ∙ ap (λ (b : Bool). stage.Inside b) (sym stands.0)) is stands.1 behind
  goes_so stage.End it at is stands behind = absurd stands

-- what is read behind a line that may stand there
goes : (texts : List (List ℕ)) (text : List ℕ) (it : Line) (second own : Bool) (before after : Form) (read : List Shown) (order : List ℕ) → IsReadAs texts second read order before → IsNext before text it own → IsBehind before it own after
    → Goes texts text it before after read order
goes texts text it second own before after read order reads next behind = goes_so texts text second own before after read order reads before.stage it refl (next.utf8, next.means) next.stands behind

-- ---- the reader

kept_push : (commit : ℕ) (read : List Shown) (its : List Transaction) (shown : Shown) (it : Transaction) → AreKept commit read its → shown.commit ≡ commit + length read → Keeps shown it → AreKept commit (read ++ shown ∷ []) (its ++ it ∷ [])
kept_push commit [] [] shown it h at keeps = ((omega (arith, at)), keeps, tt)
kept_push commit [] (x ∷ its) shown it h at keeps = absurd h
kept_push commit (x ∷ read) [] shown it h at keeps = absurd h
kept_push commit (x ∷ read) (y ∷ its) shown it h at keeps = (h.0, h.1, kept_push (suc commit) read its shown it h.2 (omega (arith, at)) keeps)

keeps_on : (it : Line) (read shown : List Shown) (order numbers : List ℕ) (before after : Reader) → order ≡ before.order → IsNow it read order shown numbers → Takes it before after → AreKept 1 read before.transactions
    → (numbers ≡ after.order) × AreKept 1 shown after.transactions
keeps_on Head read shown order numbers before after own now takes kept = (now.1 ∙ (own ∙ sym takes.1), subst (λ (xs : List Shown). AreKept 1 xs after.transactions) (sym now.0) (subst (AreKept 1 read) (sym takes.0) kept))
keeps_on (Txn one) read shown order numbers before after own now takes kept =
    let commit : one.commit ≡ 1 + length read = (let at = now.2 in omega (arith, at)) in (
      now.1 ∙ (own ∙ sym takes.1),
      subst (λ (xs : List Shown). AreKept 1 xs after.transactions) (sym now.0) (subst (AreKept 1 (read ++ one ∷ [])) (sym takes.0.1) (kept_push 1 read before.transactions one takes.0.0 kept commit takes.0.2)),
    )
keeps_on (End count named) read shown order numbers before after own now takes kept = (now.1 ∙ sym takes.1, subst (λ (xs : List Shown). AreKept 1 xs after.transactions) (sym now.0) (subst (AreKept 1 read) (sym takes.0) kept))

as_nothing : (second : Bool) (order : List ℕ) (form : Form) → IsUnread form → IsReadAs [] second [] order form
as_nothing second order form unread = record {
  lines = subst (λ (st : Stage). AllZip (IsTextOf second) [] (lines_at st [] order)) (sym unread.stage) tt;
  count = unread.lines;
  within = (let none = unread.lines in omega (arith, none));
  format = λ own e. (let o : stage.Inside own ≡ stage.Nothing = sym e ∙ unread.stage in absurd (cc));
  nothing = λ e. refl;
  in_turn = tt;
  used = subst (λ (ns : List ℕ). AreUsed ns []) (sym unread.used) (record { count = refl; each = tt; only = λ number there. absurd (true≢false (sym there)) });
}

-- nothing is read
pub nothing_read : (reader : Reader) → IsUnread reader.form → reader.transactions ≡ [] → HasRead [] reader
nothing_read reader unread empty = record {
  second = true;
  read = [];
  reads = as_nothing true reader.order reader.form unread;
  kept = subst (AreKept 1 []) (sym empty) tt;
}

-- one line more is read
pub read_more : (before : Reader) (text : List ℕ) (result : Result Reader Refusal)
    → IsTakenAmong (before.form.lines + 1) (IsNext before.form text) (λ it second after. IsBehind before.form it second after.form × Takes it before after) result
    → (texts : List (List ℕ)) → HasRead texts before → IfOk result (HasRead (texts ++ text ∷ []))
read_more before text (Err refusal) taken texts has = tt
read_more before text (Ok after) taken texts has =
    let it = taken.0 in
    let gone = goes texts text it has.second taken.1 before.form after.form has.read before.order has.reads taken.2 taken.3.0 in
    let keeps = keeps_on it has.read gone.shown before.order gone.numbers before after refl gone.now taken.3.1 has.kept in
    record {
      second = gone.format;
      read = gone.shown;
      reads = subst (λ (ns : List ℕ). IsReadAs (texts ++ text ∷ []) gone.format gone.shown ns after.form) keeps.0 gone.form;
      kept = keeps.1;
    }

-- all is read
whole_of : (texts : List (List ℕ)) (second : Bool) (read : List Shown) (order : List ℕ) (form : Form) → IsReadAs texts second read order form → form.stage ≡ stage.End → AreAudit second texts read order
whole_of texts second read order form reads at = record {
  lines = subst (λ (st : Stage). AllZip (IsTextOf second) texts (lines_at st read order)) at reads.lines;
  in_turn = reads.in_turn;
}

pub whole_read : (reader : Reader) (result : Result Audit Refusal) → IsEnded reader.form (λ audit. (audit.transactions ≡ reader.transactions) × (audit.order ≡ reader.order)) result
    → (texts : List (List ℕ)) → HasRead texts reader → IfOk result (IsAuditOf texts)
whole_read reader (Err refusal) ended texts has = tt
whole_read reader (Ok audit) ended texts has = record {
  second = has.second;
  read = has.read;
  are = subst (AreAudit has.second texts has.read) (sym ended.1.1) (whole_of texts has.second has.read reader.order reader.form has.reads ended.0);
  kept = subst (AreKept 1 has.read) (sym ended.1.0) has.kept;
}

-- ---- where a line is refused no audit begins with it

-- behind lines of the first transactions stands one more, or the end
next_among : (second : Bool) (texts : List (List ℕ)) (text : List ℕ) (more : List (List ℕ)) (read all : List Shown) (n : ℕ) (order : List ℕ) → AllZip (IsTextOf second) texts (map Txn read)
    → AllZip (IsTextOf second) (texts ++ text ∷ more) (map Txn all ++ End n order ∷ [])
    → ((one : Shown) × (rest : List Shown) × (all ≡ read ++ one ∷ rest) × IsTextOf second text (Txn one)) ⊎ ((all ≡ read) × IsTextOf second text (End n order))
next_among second [] text more [] [] n order h k = inr (refl, k.0)
next_among second [] text more [] (one ∷ rest) n order h k = inl (one, rest, refl, k.0)
next_among second [] text more (x ∷ read) all n order h k = absurd h
next_among second (t ∷ texts) text more [] all n order h k = absurd h
next_among second (t ∷ texts) text more (x ∷ read) [] n order h k = absurd (let e : Txn x ≡ End n order = one_line second t (Txn x) (End n order) h.0.1 k.0.1 in cc)
next_among second (t ∷ texts) text more (x ∷ read) (y ∷ all) n order h k =
    let e : Txn x ≡ Txn y = one_line second t (Txn x) (Txn y) h.0.1 k.0.1 in
    let same : x ≡ y = cc in
    elim (next_among second texts text more read all n order h.1 k.1) [
      | inl one ↦ inl (one.0, one.1, ap (λ (s : Shown). s ∷ all) (sym same) ∙ ap (λ (rest : List Shown). x ∷ rest) one.2, one.3)
      | inr end ↦ inr (ap (λ (s : Shown). s ∷ all) (sym same) ∙ ap (λ (rest : List Shown). x ∷ rest) end.0, end.1)
    ]

-- behind an end stands nothing
none_behind : (second : Bool) (texts : List (List ℕ)) (text : List ℕ) (more : List (List ℕ)) (read all : List Shown) (n m : ℕ) (order named : List ℕ) → AllZip (IsTextOf second) texts (map Txn read ++ End n order ∷ [])
    → AllZip (IsTextOf second) (texts ++ text ∷ more) (map Txn all ++ End m named ∷ []) → ⊥
none_behind second [] text more [] all n m order named h k = h
none_behind second [] text more (x ∷ read) all n m order named h k = h
none_behind second (t ∷ texts) text more [] (y ∷ all) n m order named h k = let e : End n order ≡ Txn y = one_line second t (End n order) (Txn y) h.0.1 k.0.1 in absurd (cc)
none_behind second (t ∷ []) text more [] [] n m order named h k = k.1
none_behind second (t ∷ (u ∷ texts)) text more [] [] n m order named h k = h.1
none_behind second (t ∷ texts) text more (x ∷ read) [] n m order named h k = let e : Txn x ≡ End m named = one_line second t (Txn x) (End m named) h.0.1 k.0.1 in absurd (cc)
none_behind second (t ∷ texts) text more (x ∷ read) (y ∷ all) n m order named h k = none_behind second texts text more read all n m order named h.1 k.1

-- a number that no transaction has isn't used
never : (read : List Shown) (n : ℕ) → AllByRecursion (λ (it : Shown). it.txn ≢ n) read → list_any (λ (it : Shown). it.txn == n) read ≡ true → ⊥
never [] n h is = true≢false (sym is)
never (one ∷ read) n h is = elim (or_cases (one.txn == n) (list_any (λ (it : Shown). it.txn == n) read) is) [ inl here ↦ h.0 (eqb-true one.txn n here) | inr later ↦ never read n h.1 later ]

unused : (numbers : List ℕ) (read : List Shown) (n : ℕ) → AreUsed numbers read → AllByRecursion (λ (it : Shown). it.txn ≢ n) read → list_any (is_at (nat_cmp n)) numbers ≡ false
unused numbers read n are h = go (list_any (is_at (nat_cmp n)) numbers) refl
  where
    go : (b : Bool) → list_any (is_at (nat_cmp n)) numbers ≡ b → list_any (is_at (nat_cmp n)) numbers ≡ false
    go false e = e
    go true e = absurd (never read n h (are.only n e))

follows_so : (used : BTreeSet ℕ) (read : List Shown) (one : Shown) → AreUsed used.keys read → StandsBehind read one → FollowsAll used one
follows_so used read one are h = record {
  number = h.number;
  own = unused used.keys read one.txn are h.own;
  commit = h.commit ∙ ap (λ (n : ℕ). n + 1) (sym are.count);
  snap = subst (λ (n : ℕ). one.snap ≤ n) (sym are.count) h.snap;
}

no_texts : {A B : Type 0} (R : A → B → Type 0) (x : A) (xs : List A) → AllZip R (x ∷ xs) [] → ⊥
no_texts R x xs h = h

module _ (texts : List (List ℕ)) (text : List ℕ) (more : List (List ℕ)) (second other : Bool) (form : Form) (read all : List Shown) (order named : List ℕ) (reads : IsReadAs texts second read order form)
    (are : AreAudit other (texts ++ text ∷ more) all named) where
  -- the line that the audit has there may stand there
  next_first : form.stage ≡ stage.Nothing → (it : Line) × IsNext form text it other
  next_first at =
      let none : texts ≡ [] = zip_none (IsTextOf second) texts (lines_at form.stage read order) (ap (λ (st : Stage). lines_at st read order) at) reads.lines in
      let first : AllZip (IsTextOf other) (text ∷ more) (lines_read all named) = subst (λ (ts : List (List ℕ)). AllZip (IsTextOf other) (ts ++ text ∷ more) (lines_read all named)) none are.lines in
      (Head, record { utf8 = first.0.0; means = first.0.1; stands = subst (λ (st : Stage). Stands st form.used Head other) (sym at) refl })

  next_inside : (own : Bool) → form.stage ≡ stage.Inside own → (ts : List (List ℕ)) → texts ≡ ts → (it : Line) × IsNext form text it other
  next_inside own at [] e =
      absurd (subst (λ (xs : List (List ℕ)). AllZip (IsTextOf second) xs (Head ∷ map Txn read)) e (subst (λ (st : Stage). AllZip (IsTextOf second) texts (lines_at st read order)) at reads.lines))
  next_inside own at (t ∷ ts) e =
      let ours : AllZip (IsTextOf second) (t ∷ ts) (Head ∷ map Txn read) =
      subst (λ (xs : List (List ℕ)). AllZip (IsTextOf second) xs (Head ∷ map Txn read)) e (subst (λ (st : Stage). AllZip (IsTextOf second) texts (lines_at st read order)) at reads.lines) in
      let theirs : AllZip (IsTextOf other) ((t ∷ ts) ++ text ∷ more) (lines_read all named) = subst (λ (xs : List (List ℕ)). AllZip (IsTextOf other) (xs ++ text ∷ more) (lines_read all named)) e are.lines in
      let format : other ≡ second = one_format t other second theirs.0.1 ours.0.1 in
      let rest : AllZip (IsTextOf second) (ts ++ text ∷ more) (map Txn all ++ End (length all) named ∷ []) =
      subst (λ (b : Bool). AllZip (IsTextOf b) (ts ++ text ∷ more) (map Txn all ++ End (length all) named ∷ [])) format theirs.1 in
      let mine : other ≡ own = format ∙ sym (reads.format own at) in
      elim (next_among second ts text more read all (length all) named ours.1 rest) [
        | inl one ↦
            (let is : IsTextOf other text (Txn one.0) = subst (λ (b : Bool). IsTextOf b text (Txn one.0)) (sym format) one.3 in
            let behind : StandsBehind read one.0 = in_turn_at [] read one.0 one.1 (subst (StandInTurn []) one.2 are.in_turn) in
            (Txn one.0, record { utf8 = is.0; means = is.1; stands = subst (λ (st : Stage). Stands st form.used (Txn one.0) other) (sym at) (mine, follows_so form.used read one.0 reads.used behind) }))
        | inr end ↦
            (let is : IsTextOf other text (End (length all) named) = subst (λ (b : Bool). IsTextOf b text (End (length all) named)) (sym format) end.1 in
            let count : length all ≡ length form.used.keys = ap length end.0 ∙ sym reads.used.count in
            (End (length all) named, record { utf8 = is.0; means = is.1; stands = subst (λ (st : Stage). Stands st form.used (End (length all) named) other) (sym at) (mine, count) }))
      ]

  next_never : form.stage ≡ stage.End → (ts : List (List ℕ)) → texts ≡ ts → ⊥
  next_never at [] e = subst (λ (xs : List (List ℕ)). AllZip (IsTextOf second) xs (lines_read read order)) e (subst (λ (st : Stage). AllZip (IsTextOf second) texts (lines_at st read order)) at reads.lines)
  next_never at (t ∷ ts) e =
      let ours : AllZip (IsTextOf second) (t ∷ ts) (lines_read read order) =
      subst (λ (xs : List (List ℕ)). AllZip (IsTextOf second) xs (lines_read read order)) e (subst (λ (st : Stage). AllZip (IsTextOf second) texts (lines_at st read order)) at reads.lines) in
      let theirs : AllZip (IsTextOf other) ((t ∷ ts) ++ text ∷ more) (lines_read all named) = subst (λ (xs : List (List ℕ)). AllZip (IsTextOf other) (xs ++ text ∷ more) (lines_read all named)) e are.lines in
      let format : other ≡ second = one_format t other second theirs.0.1 ours.0.1 in
      none_behind second ts text more read all (length read) (length all) order named ours.1
      (subst (λ (b : Bool). AllZip (IsTextOf b) (ts ++ text ∷ more) (map Txn all ++ End (length all) named ∷ [])) format theirs.1)

  next_so : (st : Stage) → form.stage ≡ st → (it : Line) × IsNext form text it other
  next_so stage.Nothing at = next_first at
  next_so (stage.Inside own) at = next_inside own at texts refl
  next_so stage.End at = absurd (next_never at texts refl)

refused_so : {A : Type 0} (form : Form) (text : List ℕ) (Given : Line → Bool → A → Type 0) (result : Result A Refusal) → IsTakenAmong (form.lines + 1) (IsNext form text) Given result
    → (texts : List (List ℕ)) (second : Bool) (read : List Shown) (order : List ℕ) → IsReadAs texts second read order form
    → IfErr result (λ refusal. (refusal ≡ r.NoMemory) ⊎ ((refusal ≡ r.BadAudit (length texts + 1)) × BeginNoAudit (texts ++ text ∷ [])))
refused_so form text Given (Ok given) taken texts second read order reads = tt
refused_so form text Given (Err refusal) taken texts second read order reads =
    elim taken [
      | inl memory ↦ inl memory
      | inr bad ↦ inr (
        bad.0 ∙ ap (λ (n : ℕ). r.BadAudit (n + 1)) reads.count,
        λ more other all named are.
            (let next = next_so texts text more second other form read all order named reads (subst (λ (ts : List (List ℕ)). AreAudit other ts all named) (append_assoc texts (text ∷ []) more) are) form.stage refl in
            bad.1 next.0 other next.1),
      )
    ]

pub refused_more : (before : Reader) (text : List ℕ) (result : Result Reader Refusal)
    → IsTakenAmong (before.form.lines + 1) (IsNext before.form text) (λ it second after. IsBehind before.form it second after.form × Takes it before after) result
    → (texts : List (List ℕ)) → HasRead texts before → IfErr result (λ refusal. (refusal ≡ r.NoMemory) ⊎ ((refusal ≡ r.BadAudit (length texts + 1)) × BeginNoAudit (texts ++ text ∷ [])))
refused_more before text result taken texts has =
    refused_so before.form text (λ it second after. IsBehind before.form it second after.form × Takes it before after) result taken texts has.second has.read before.order has.reads

-- ---- where the end is missing they are no audit

-- the lines so far lack the end
lacks : (second : Bool) (texts : List (List ℕ)) (read all : List Shown) (n : ℕ) (order : List ℕ) → AllZip (IsTextOf second) texts (map Txn read) → AllZip (IsTextOf second) texts (map Txn all ++ End n order ∷ []) → ⊥
lacks second [] [] [] n order h k = k
lacks second [] [] (x ∷ all) n order h k = k
lacks second [] (x ∷ read) all n order h k = h
lacks second (t ∷ texts) [] all n order h k = h
lacks second (t ∷ texts) (x ∷ read) [] n order h k = let e : Txn x ≡ End n order = one_line second t (Txn x) (End n order) h.0.1 k.0.1 in absurd (cc)
lacks second (t ∷ texts) (x ∷ read) (y ∷ all) n order h k = lacks second texts read all n order h.1 k.1

lacks_end : (texts : List (List ℕ)) (second : Bool) (read : List Shown) (order : List ℕ) (form : Form) → IsReadAs texts second read order form → (form.stage ≡ stage.End → ⊥) → AreNoAudit texts
lacks_end texts second read order form reads lacking other all named are = go form.stage refl texts refl
  where
    go : (st : Stage) → form.stage ≡ st → (ts : List (List ℕ)) → texts ≡ ts → ⊥
    go stage.End at ts e = lacking at
    go stage.Nothing at ts e =
        (let none : texts ≡ [] = zip_none (IsTextOf second) texts (lines_at form.stage read order) (ap (λ (st : Stage). lines_at st read order) at) reads.lines in
        subst (λ (xs : List (List ℕ)). AllZip (IsTextOf other) xs (lines_read all named)) none are.lines)
    go (stage.Inside own) at [] e = subst (λ (xs : List (List ℕ)). AllZip (IsTextOf other) xs (lines_read all named)) e are.lines
    go (stage.Inside own) at (t ∷ ts) e =
        (let ours : AllZip (IsTextOf second) (t ∷ ts) (Head ∷ map Txn read) =
        subst (λ (xs : List (List ℕ)). AllZip (IsTextOf second) xs (Head ∷ map Txn read)) e (subst (λ (st : Stage). AllZip (IsTextOf second) texts (lines_at st read order)) at reads.lines) in
        let theirs : AllZip (IsTextOf other) (t ∷ ts) (lines_read all named) = subst (λ (xs : List (List ℕ)). AllZip (IsTextOf other) xs (lines_read all named)) e are.lines in
        let format : other ≡ second = one_format t other second theirs.0.1 ours.0.1 in
        lacks second ts read all (length all) named ours.1 (subst (λ (b : Bool). AllZip (IsTextOf b) ts (map Txn all ++ End (length all) named ∷ [])) format theirs.1))

end_so : {A : Type 0} (form : Form) (Given : A → Type 0) (result : Result A Refusal) → IsEnded form Given result → (texts : List (List ℕ)) (second : Bool) (read : List Shown) (order : List ℕ) → IsReadAs texts second read order form
    → IfErr result (λ refusal. (refusal ≡ r.NoMemory) ⊎ ((refusal ≡ r.BadAudit (length texts + 1)) × AreNoAudit texts))
end_so form Given (Ok given) ended texts second read order reads = tt
end_so form Given (Err refusal) ended texts second read order reads =
    elim ended [
      | inl memory ↦ inl memory
      | inr bad ↦ inr (bad.0 ∙ ap (λ (n : ℕ). r.BadAudit (n + 1)) reads.count, lacks_end texts second read order form reads bad.1)
    ]

pub refused_end : (reader : Reader) (result : Result Audit Refusal) → IsEnded reader.form (λ audit. (audit.transactions ≡ reader.transactions) × (audit.order ≡ reader.order)) result
    → (texts : List (List ℕ)) → HasRead texts reader → IfErr result (λ refusal. (refusal ≡ r.NoMemory) ⊎ ((refusal ≡ r.BadAudit (length texts + 1)) × AreNoAudit texts))
refused_end reader result ended texts has = end_so reader.form (λ audit. (audit.transactions ≡ reader.transactions) × (audit.order ≡ reader.order)) result ended texts has.second has.read reader.order has.reads

-- ---- the converter

pub nothing_converted : (converter : Converter) → IsUnread converter.form → HasConverted [] [] converter
nothing_converted converter unread = record {
  second = true;
  read = [];
  order = [];
  reads = as_nothing true [] converter.form unread;
  lines = subst (λ (st : Stage). AllZip IsWritten (lines_at st [] []) []) (sym unread.stage) tt;
  utf8 = tt;
}

pub converted_more : (before : Converter) (text : List ℕ) (result : Result (Converter × String Global) Refusal)
    → IsTakenAmong (before.form.lines + 1) (IsNext before.form text) (λ it second after. IsBehind before.form it second after.0.form × IsWritten it (string_bytes after.1)) result
    → (texts written : List (List ℕ)) → HasConverted texts written before → IfOk result (λ after. HasConverted (texts ++ text ∷ []) (written ++ string_bytes after.1 ∷ []) after.0)
converted_more before text (Err refusal) taken texts written has = tt
converted_more before text (Ok after) taken texts written has =
    let it = taken.0 in
    let gone = goes texts text it has.second taken.1 before.form after.0.form has.read has.order has.reads taken.2 taken.3.0 in
    record {
      second = gone.format;
      read = gone.shown;
      order = gone.numbers;
      reads = gone.form;
      lines =
          subst (λ (ls : List Line). AllZip IsWritten ls (written ++ string_bytes after.1 ∷ [])) (sym gone.lines)
          (zip_push IsWritten (lines_at before.form.stage has.read has.order) written it (string_bytes after.1) has.lines taken.3.1);
      utf8 = all_push IsUtf8 written (string_bytes after.1) has.utf8 (IsUtf8-string_bytes after.1);
    }

pub refused_conversion : (before : Converter) (text : List ℕ) (result : Result (Converter × String Global) Refusal)
    → IsTakenAmong (before.form.lines + 1) (IsNext before.form text) (λ it second after. IsBehind before.form it second after.0.form × IsWritten it (string_bytes after.1)) result
    → (texts written : List (List ℕ)) → HasConverted texts written before → IfErr result (λ refusal. (refusal ≡ r.NoMemory) ⊎ ((refusal ≡ r.BadAudit (length texts + 1)) × BeginNoAudit (texts ++ text ∷ [])))
refused_conversion before text result taken texts written has =
    refused_so before.form text (λ it second after. IsBehind before.form it second after.0.form × IsWritten it (string_bytes after.1)) result taken texts has.second has.read has.order has.reads

pub whole_converted : (converter : Converter) (result : Result (Unit {0}) Refusal) → IsEnded converter.form (λ _. Unit {0}) result → (texts written : List (List ℕ)) → HasConverted texts written converter → IfOk result (λ _. AreConverted texts written)
whole_converted converter (Err refusal) ended texts written has = tt
whole_converted converter (Ok u) ended texts written has = record {
  second = has.second;
  read = has.read;
  order = has.order;
  are = whole_of texts has.second has.read has.order converter.form has.reads ended.0;
  lines = subst (λ (st : Stage). AllZip IsWritten (lines_at st has.read has.order) written) ended.0 has.lines;
  utf8 = has.utf8;
}

pub refused_conversion_end : (converter : Converter) (result : Result (Unit {0}) Refusal) → IsEnded converter.form (λ _. Unit {0}) result → (texts written : List (List ℕ)) → HasConverted texts written converter
    → IfErr result (λ refusal. (refusal ≡ r.NoMemory) ⊎ ((refusal ≡ r.BadAudit (length texts + 1)) × AreNoAudit texts))
refused_conversion_end converter result ended texts written has = end_so converter.form (λ _. Unit {0}) result ended texts has.second has.read has.order has.reads
