-- Which lines a file of attempts has, and that there is none where a line is refused.
use Rattle.std.specs.Prelude.{◌≡◌, refl, ◌⊎◌, ◌<◌, ◌≤◌, ℕ, zero, suc, ◌+◌, List, [], ◌∷◌, ◌++◌, length, Option, Some, Result, Ok, Err}
use Rattle.std.specs.List.{AllZip}
use Rattle.std.proofs.Common.{ap, sym, ◌∙◌, subst, arith, inl, inr}
use Rattle.std.proofs.lemmas.List.{length-append}
use Rattle.rls_value.specs.declared.refusal.Refusal.{Refusal}
use Rattle.rls_value.specs.declared.refusal.Refusal.TheVariants as r
use Rattle.rls_audit.specs.rls_audit_lines.specs.Reading.{IsLineRead}
use Rattle.rls_audit.specs.rls_audit_lines.specs.declared.attempts.AttemptEnd.{AttemptEnd}
use Rattle.rls_audit.specs.rls_audit_lines.specs.declared.attempts.AttemptLine.{AttemptLine}
use Rattle.rls_audit.specs.rls_audit_lines.specs.declared.attempts.AttemptLine.TheVariants as line
use Rattle.rls_audit.specs.rls_audit_lines.specs.declared.attempts.AttemptShown.{AttemptShown}
use Rattle.rls_check.specs.declared.attempts.Attempt.{Attempt}
use Rattle.rls_check.specs.declared.attempts.AttemptReader.{AttemptReader}
use Rattle.rls_check.specs.Attempts.{AreAttempts, AreAttemptsSoFar, AreBehind, BeginNoAttempts, HasReadAttempts, IsAttemptOf, IsAttemptTaken, IsAttemptText, IsAttemptsHead, IsKeptWithin, MayFollow, TakesAttempt}
use Rattle.rls_check.proofs.KeepingLemmas.{zip_push}

-- ---- one line

some_same : {A : Type 0} (x y : A) → ◌≡◌ {A = Option A} (Some x) (Some y) → x ≡ y
some_same x y h = cc

-- a text is one line
one_line : (text : List ℕ) (it other : AttemptLine) → IsAttemptText text it → IsAttemptText text other → it ≡ other
one_line text it other m n = some_same it other (sym m.1.0 ∙ n.1.0)

not_head : (end : AttemptEnd) (shown : AttemptShown) → line.Head ≡ line.Attempt end shown → ⊥
not_head end shown h = absurd (cc)

shown_same : (end other : AttemptEnd) (x y : AttemptShown) → line.Attempt end x ≡ line.Attempt other y → x ≡ y
shown_same end other x y h = cc

-- a refusal by which there is nothing of that meaning
refused_so : {A : Type 0} (number : ℕ) (refusal : Refusal) (Means : A → Type 0) → IsLineRead number (Err refusal) Means → (refusal ≡ r.NoMemory) ⊎ ((refusal ≡ r.BadAudit number) × ((it : A) → Means it → ⊥))
refused_so number r.NoMemory Means h = inl refl
refused_so number (r.BadAudit n) Means h = inr (ap (λ (m : ℕ). r.BadAudit m) h.0, h.1)
refused_so number other Means h = absurd h

so_refused : {A : Type 0} (number : ℕ) (refusal : Refusal) (Means : A → Type 0) → (refusal ≡ r.NoMemory) ⊎ ((refusal ≡ r.BadAudit number) × ((it : A) → Means it → ⊥)) → IsLineRead number (Err refusal) Means
so_refused number refusal Means h =
    elim h [
      | inl e ↦ subst (λ (x : Refusal). IsLineRead number (Err x) Means) (sym e) tt
      | inr bad ↦ subst (λ (x : Refusal). IsLineRead number (Err x) Means) (sym bad.0) (refl, bad.1)
    ]

-- what isn't read of one meaning isn't read of a narrower one
refused_of : {A B : Type 0} (number : ℕ) (refusal : Refusal) (Means : A → Type 0) (Narrow : B → Type 0) → ((y : B) → Narrow y → (x : A) × Means x) → IsLineRead number (Err refusal) Means → IsLineRead number (Err refusal) Narrow
refused_of number refusal Means Narrow wider h =
    so_refused number refusal Narrow
    (elim (refused_so number refusal Means h) [ inl e ↦ inl e | inr bad ↦ inr (bad.0, λ y is. bad.1 (wider y is).0 (wider y is).1) ])

-- ---- the first line

pub no_other_head : (number : ℕ) (text : List ℕ) (end : AttemptEnd) (shown : AttemptShown) → IsAttemptText text (line.Attempt end shown) → IsLineRead {A = Unit {0}} number (Err (r.BadAudit number)) (λ _. IsAttemptsHead text)
no_other_head number text end shown is = (refl, λ _ head. not_head end shown (one_line text line.Head (line.Attempt end shown) head is))

pub head_unread : (number : ℕ) (refusal : Refusal) (text : List ℕ) → IsLineRead {A = AttemptLine} number (Err refusal) (IsAttemptText text) → IsLineRead {A = Unit {0}} number (Err refusal) (λ _. IsAttemptsHead text)
head_unread number refusal text h = refused_of number refusal (IsAttemptText text) (λ (_ : Unit {0}). IsAttemptsHead text) (λ _ head. (line.Head, head)) h

-- ---- an attempt

pub kept_read : (commits number : ℕ) (text : List ℕ) (end : AttemptEnd) (shown : AttemptShown) (found : Result Attempt Refusal) → IsAttemptText text (line.Attempt end shown) → IsKeptWithin commits number end shown found
    → IsLineRead number found (IsAttemptOf commits text)
kept_read commits number text end shown (Ok it) is kept = record { end = end; shown = shown; is_text = is; keeps = kept.0; snap = kept.1 }
kept_read commits number text end shown (Err refusal) is kept =
    so_refused number refusal (IsAttemptOf commits text)
    (elim kept [
      | inl e ↦ inl e
      | inr bad ↦
          inr (
            bad.0,
            λ it of.
                let later : commits < of.shown.snap = subst (λ (x : AttemptShown). commits < x.snap) (shown_same end of.end shown of.shown (one_line text (line.Attempt end shown) (line.Attempt of.end of.shown) is of.is_text)) bad.1 in
                let snap = of.snap in absurd (omega (arith, later, snap)),
          )
    ])

-- the first line is none
pub no_attempt : (commits number : ℕ) (text : List ℕ) → IsAttemptText text line.Head → IsLineRead {A = Attempt} number (Err (r.BadAudit number)) (IsAttemptOf commits text)
no_attempt commits number text is = (refl, λ _ of. not_head of.end of.shown (one_line text line.Head (line.Attempt of.end of.shown) is of.is_text))

pub attempt_unread : (commits number : ℕ) (refusal : Refusal) (text : List ℕ) → IsLineRead {A = AttemptLine} number (Err refusal) (IsAttemptText text) → IsLineRead {A = Attempt} number (Err refusal) (IsAttemptOf commits text)
attempt_unread commits number refusal text h = refused_of number refusal (IsAttemptText text) (IsAttemptOf commits text) (λ _ of. (line.Attempt of.end of.shown, of.is_text)) h

-- ---- one line more

pub nothing_read : (commits : ℕ) (reader : AttemptReader) → reader.commits ≡ commits → reader.lines ≡ 0 → reader.attempts ≡ [] → HasReadAttempts commits [] reader
nothing_read commits reader are lines none = record { commits_are = are; lines = lines; attempts = none }

pub head_taken : (text : List ℕ) (before after : AttemptReader) → before.lines ≡ 0 → after.commits ≡ before.commits → after.lines ≡ before.lines + 1 → after.attempts ≡ before.attempts → IsAttemptsHead text → TakesAttempt text before after
head_taken text before after first commits lines attempts head = record {
  commits = commits;
  lines = lines;
  attempts = subst (λ n. AreBehind before.commits n text before.attempts after.attempts) (sym first) (head, attempts);
}

pub attempt_taken : (text : List ℕ) (before after : AttemptReader) (it : Attempt) → 0 < before.lines → after.commits ≡ before.commits → after.lines ≡ before.lines + 1 → after.attempts ≡ before.attempts ++ it ∷ [] → IsAttemptOf before.commits text it → TakesAttempt text before after
attempt_taken text before after it later commits lines attempts is = record { commits = commits; lines = lines; attempts = go before.lines later }
  where
    go : (n : ℕ) → 0 < n → AreBehind before.commits n text before.attempts after.attempts
    go zero some = absurd (omega (arith, some))
    go (suc n) some = (it, is, attempts)

-- a line that is refused
refused_by : (text : List ℕ) (before after : AttemptReader) (number : ℕ) (refusal : Refusal) → number ≡ before.lines + 1 → (refusal ≡ r.NoMemory) ⊎ ((refusal ≡ r.BadAudit number) × (MayFollow before.commits before.lines text → ⊥)) → IsAttemptTaken text before after (Err refusal)
refused_by text before after number refusal is h = elim h [ inl e ↦ inl e | inr bad ↦ inr (bad.0 ∙ ap (λ (m : ℕ). r.BadAudit m) is, bad.1) ]

pub head_refused : (text : List ℕ) (before after : AttemptReader) (number : ℕ) (refusal : Refusal) → before.lines ≡ 0 → number ≡ before.lines + 1 → IsLineRead {A = Unit {0}} number (Err refusal) (λ _. IsAttemptsHead text) → IsAttemptTaken text before after (Err refusal)
head_refused text before after number refusal first is h =
    refused_by text before after number refusal is
    (elim (refused_so number refusal (λ (_ : Unit {0}). IsAttemptsHead text) h) [ inl e ↦ inl e | inr bad ↦ inr (bad.0, λ may. bad.1 tt (subst (λ n. MayFollow before.commits n text) first may)) ])

pub attempt_refused : (text : List ℕ) (before after : AttemptReader) (number : ℕ) (refusal : Refusal) → 0 < before.lines → number ≡ before.lines + 1 → IsLineRead {A = Attempt} number (Err refusal) (IsAttemptOf before.commits text) → IsAttemptTaken text before after (Err refusal)
attempt_refused text before after number refusal later is h =
    refused_by text before after number refusal is
    (elim (refused_so number refusal (IsAttemptOf before.commits text) h) [ inl e ↦ inl e | inr bad ↦ inr (bad.0, λ may. go before.lines later may bad.1) ])
  where
    go : (n : ℕ) → 0 < n → MayFollow before.commits n text → ((it : Attempt) → IsAttemptOf before.commits text it → ⊥) → ⊥
    go zero some may never = absurd (omega (arith, some))
    go (suc n) some may never = never may.0 may.1

-- ---- all lines

kept_behind : (commits : ℕ) (texts : List (List ℕ)) (text : List ℕ) (lines : ℕ) (before after : List Attempt) → lines ≡ length texts → AreAttemptsSoFar commits texts before → AreBehind commits lines text before after → AreAttempts commits (texts ++ text ∷ []) after
kept_behind commits [] text lines before after is none behind =
    let first : AreBehind commits 0 text before after = subst (λ n. AreBehind commits n text before after) is behind in
    (first.0, subst (λ its. AllZip (IsAttemptOf commits) [] its) (sym (first.1 ∙ none)) tt)
kept_behind commits (head ∷ texts) text lines before after is so_far behind =
    let more : AreBehind commits (suc (length texts)) text before after = subst (λ n. AreBehind commits n text before after) is behind in
    (so_far.0, subst (λ its. AllZip (IsAttemptOf commits) (texts ++ text ∷ []) its) (sym more.2) (zip_push (IsAttemptOf commits) texts before text more.0 so_far.1 more.1))

so_far_of : (commits : ℕ) (texts : List (List ℕ)) (text : List ℕ) (its : List Attempt) → AreAttempts commits (texts ++ text ∷ []) its → AreAttemptsSoFar commits (texts ++ text ∷ []) its
so_far_of commits [] text its are = are
so_far_of commits (head ∷ texts) text its are = are

pub read_more : (before after : AttemptReader) (text : List ℕ) → TakesAttempt text before after → (commits : ℕ) (texts : List (List ℕ)) → HasReadAttempts commits texts before → HasReadAttempts commits (texts ++ text ∷ []) after
read_more before after text takes commits texts read = record {
  commits_are = takes.commits ∙ read.commits_are;
  lines = takes.lines ∙ ap (λ n. n + 1) read.lines ∙ sym (length-append texts (text ∷ []));
  attempts = so_far_of commits texts text after.attempts
      (kept_behind commits texts text before.lines before.attempts after.attempts read.lines read.attempts (subst (λ n. AreBehind n before.lines text before.attempts after.attempts) read.commits_are takes.attempts));
}

-- where some attempts begin with the lines and this one, it may stand behind them
zip_in : (commits : ℕ) (texts : List (List ℕ)) (text : List ℕ) (more : List (List ℕ)) (its : List Attempt) → AllZip (IsAttemptOf commits) ((texts ++ text ∷ []) ++ more) its → (it : Attempt) × IsAttemptOf commits text it
zip_in commits [] text more [] h = absurd h
zip_in commits [] text more (it ∷ its) h = (it, h.0)
zip_in commits (one ∷ texts) text more [] h = absurd h
zip_in commits (one ∷ texts) text more (it ∷ its) h = zip_in commits texts text more its h.1

may_follow : (commits : ℕ) (texts : List (List ℕ)) (text : List ℕ) (more : List (List ℕ)) (its : List Attempt) → AreAttempts commits ((texts ++ text ∷ []) ++ more) its → MayFollow commits (length texts) text
may_follow commits [] text more its are = are.0
may_follow commits (head ∷ texts) text more its are = zip_in commits texts text more its are.1

pub refused_more : (before : AttemptReader) (text : List ℕ) (refusal : Refusal) → (refusal ≡ r.NoMemory) ⊎ ((refusal ≡ r.BadAudit (before.lines + 1)) × (MayFollow before.commits before.lines text → ⊥)) → (commits : ℕ) (texts : List (List ℕ)) → HasReadAttempts commits texts before
    → (refusal ≡ r.NoMemory) ⊎ ((refusal ≡ r.BadAudit (length texts + 1)) × BeginNoAttempts commits (texts ++ text ∷ []))
refused_more before text refusal h commits texts read =
    elim h [
      | inl e ↦ inl e
      | inr bad ↦
          inr (
            bad.0 ∙ ap (λ (n : ℕ). r.BadAudit (n + 1)) read.lines,
            λ more its are. bad.1 (subst (λ n. MayFollow n before.lines text) (sym read.commits_are) (subst (λ n. MayFollow commits n text) (sym read.lines) (may_follow commits texts text more its are))),
          )
    ]

-- ---- the end

pub attempts_read : (reader : AttemptReader) → (reader.lines ≡ 0 → ⊥) → (commits : ℕ) (texts : List (List ℕ)) → HasReadAttempts commits texts reader → AreAttempts commits texts reader.attempts
attempts_read reader some commits [] read = absurd (some read.lines)
attempts_read reader some commits (head ∷ texts) read = read.attempts

pub no_head : (reader : AttemptReader) → reader.lines ≡ 0 → (commits : ℕ) (texts : List (List ℕ)) → HasReadAttempts commits texts reader → (r.BadAudit 1 ≡ r.BadAudit (length texts + 1)) × (texts ≡ [])
no_head reader none commits [] read = (refl, refl)
no_head reader none commits (head ∷ texts) read = let some : suc (length texts) ≡ 0 = sym read.lines ∙ none in absurd (omega (arith, some))
