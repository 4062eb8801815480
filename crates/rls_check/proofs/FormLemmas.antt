-- Which lines may stand next, and that there is none where a line is refused.
use Rattle.std.specs.Prelude.{◌≡◌, refl, ◌⊎◌, ◌+◌, ◌^◌, ◌<◌, ℕ, Bool, true, false, List, Option, Some, Result, Ok, Err, IfOk, OnOk, IsUtf8}
use Rattle.std.specs.BTreeSet.{BTreeSet}
use Rattle.std.proofs.Common.{ap, sym, ◌∙◌, subst, inl, inr}
use Rattle.rls_value.specs.declared.refusal.Refusal.{Refusal}
use Rattle.rls_value.specs.declared.refusal.Refusal.TheVariants as r
use Rattle.rls_audit.specs.rls_audit_lines.specs.declared.lines.Line.{Line}
use Rattle.rls_audit.specs.rls_audit_lines.specs.declared.lines.Line.TheVariants.{Head, Txn, End}
use Rattle.rls_audit.specs.rls_audit_lines.specs.Reading.{line_found, MeansLine, IsLineRead}
use Rattle.rls_check.specs.declared.form.Stage.{Stage}
use Rattle.rls_check.specs.declared.form.Stage.TheVariants as stage
use Rattle.rls_check.specs.declared.form.Form.{Form}
use Rattle.rls_check.specs.Forms.{Follows, Stands, IsNext, IsBehind, IsRefused, HeadOf, FollowerOf, IsFoundAmong, IsTakenAmong}

-- ---- counting

-- what is a number below 2^64 is below it
pub fewer : (m n : ℕ) → (n < 2 ^ 64) × (m ≡ n) → m < 2 ^ 64
fewer m n h = subst (λ (k : ℕ). k < 2 ^ 64) (sym h.1) h.0

-- ---- one line

some_same : {A : Type 0} (x y : A) → ◌≡◌ {A = Option A} (Some x) (Some y) → x ≡ y
some_same x y h = cc

-- a text is one line of a format
pub one_line : (second : Bool) (text : List ℕ) (it other : Line) → MeansLine second text it → MeansLine second text other → it ≡ other
one_line second text it other m n = some_same it other (sym m.0 ∙ n.0)

-- a refusal by which no line of the format is there
refused_so : (number : ℕ) (refusal : Refusal) (Means : Line → Type 0) → IsLineRead number (Err refusal) Means → (refusal ≡ r.NoMemory) ⊎ ((refusal ≡ r.BadAudit number) × ((it : Line) → Means it → ⊥))
refused_so number r.NoMemory Means h = inl refl
refused_so number (r.BadAudit n) Means h = inr (ap (λ (m : ℕ). r.BadAudit m) h.0, h.1)
refused_so number other Means h = absurd h

-- so none of those is there that are lines of the format
pub line_refused : (number : ℕ) (refusal : Refusal) (text : List ℕ) (own : Bool) (May : Line → Bool → Type 0) → ((it : Line) (second : Bool) → May it second → MeansLine own text it) → IsLineRead number (Err refusal) (MeansLine own text)
    → IsRefused number May refusal
line_refused number refusal text own May only h =
    elim (refused_so number refusal (MeansLine own text) h) [ inl e ↦ inl e | inr bad ↦ inr (bad.0, λ it second may. bad.1 it (only it second may)) ]

-- ---- the head

pub other_head : (second : Bool) (text : List ℕ) (line : Line) → MeansLine second text line → (line ≡ Head → ⊥) → (it : Line) → MeansLine second text it → it ≡ Head → ⊥
other_head second text line m never it n is = never (one_line second text line it m n ∙ is)

head_in : (text : List ℕ) (it : Line) (second : Bool) → ((it : Line) → MeansLine true text it → it ≡ Head → ⊥) → HeadOf text it second → HeadOf text it second × (second ≡ false)
head_in text it true none h = absurd (none it h.0 h.1)
head_in text it false none h = (h, refl)

-- where the second format has no head there, it is that of the first
pub head_found : (number : ℕ) (text : List ℕ) (found : Result (Line × Bool) Refusal) → ((it : Line) → MeansLine true text it → it ≡ Head → ⊥)
    → IsFoundAmong number (λ it second. HeadOf text it second × (second ≡ false)) found → IsFoundAmong number (HeadOf text) found
head_found number text (Ok both) none h = h.0
head_found number text (Err refusal) none h = elim h [ inl e ↦ inl e | inr bad ↦ inr (bad.0, λ it second may. bad.1 it second (head_in text it second none may)) ]

pub first_head : (text : List ℕ) (it : Line) (second : Bool) → HeadOf text it second × (second ≡ false) → MeansLine false text it
first_head text it second h = subst (λ (b : Bool). MeansLine b text it) h.1 h.0.0

pub no_first_head : (number : ℕ) (text : List ℕ) (line : Line) → MeansLine false text line → (line ≡ Head → ⊥) → IsRefused number (λ it second. HeadOf text it second × (second ≡ false)) (r.BadAudit number)
no_first_head number text line m never = inr (refl, λ it second h. other_head false text line m never it (first_head text it second h) h.0.1)

-- ---- behind the head

pub follower_means : (own : Bool) (used : BTreeSet ℕ) (text : List ℕ) (it : Line) (second : Bool) → FollowerOf own used text it second → MeansLine own text it
follower_means own used text it second h = subst (λ (b : Bool). MeansLine b text it) h.1 h.0

pub no_follower : (number : ℕ) (own : Bool) (used : BTreeSet ℕ) (text : List ℕ) (line : Line) → MeansLine own text line → (Follows used line → ⊥) → IsRefused number (FollowerOf own used text) (r.BadAudit number)
no_follower number own used text line m never =
    inr (refl, λ it second h. never (subst (Follows used) (one_line own text it line (follower_means own used text it second h) m) h.2))

-- ---- what may stand next

-- the same may be there
same_found : (number : ℕ) (May Can : Line → Bool → Type 0) (found : Result (Line × Bool) Refusal) → ((it : Line) (second : Bool) → May it second → Can it second) → ((it : Line) (second : Bool) → Can it second → May it second)
    → IsFoundAmong number May found → IsFoundAmong number Can found
same_found number May Can (Ok both) to back h = to both.0 both.1 h
same_found number May Can (Err refusal) to back h = elim h [ inl e ↦ inl e | inr bad ↦ inr (bad.0, λ it second can. bad.1 it second (back it second can)) ]

stands_at : (own : Stage) (form : Form) (text : List ℕ) (it : Line) (second : Bool) → form.stage ≡ own → IsUtf8 text → MeansLine second text it → Stands own form.used it second → IsNext form text it second
stands_at own form text it second is utf8 means stands = record { utf8 = utf8; means = means; stands = subst (λ (x : Stage). Stands x form.used it second) (sym is) stands }

stands_so : (own : Stage) (form : Form) (text : List ℕ) (it : Line) (second : Bool) → form.stage ≡ own → IsNext form text it second → Stands own form.used it second
stands_so own form text it second is next = subst (λ (x : Stage). Stands x form.used it second) is next.stands

pub next_first : (number : ℕ) (form : Form) (text : List ℕ) (found : Result (Line × Bool) Refusal) → form.stage ≡ stage.Nothing → IsUtf8 text → IsFoundAmong number (HeadOf text) found → IsFoundAmong number (IsNext form text) found
next_first number form text found is utf8 h =
    same_found number (HeadOf text) (IsNext form text) found (λ it second may. stands_at stage.Nothing form text it second is utf8 may.0 may.1) (λ it second next. (next.means, stands_so stage.Nothing form text it second is next)) h

pub next_inside : (number : ℕ) (form : Form) (own : Bool) (text : List ℕ) (found : Result (Line × Bool) Refusal) → form.stage ≡ stage.Inside own → IsUtf8 text → IsFoundAmong number (FollowerOf own form.used text) found → IsFoundAmong number (IsNext form text) found
next_inside number form own text found is utf8 h =
    same_found number (FollowerOf own form.used text) (IsNext form text) found (λ it second may. stands_at (stage.Inside own) form text it second is utf8 may.0 (may.1, may.2))
    (λ it second next. (let stands = stands_so (stage.Inside own) form text it second is next in (next.means, stands.0, stands.1))) h

pub next_never : (number : ℕ) (form : Form) (text : List ℕ) → form.stage ≡ stage.End → IsRefused number (IsNext form text) (r.BadAudit number)
next_never number form text is = inr (refl, λ it second next. stands_so stage.End form text it second is next)

pub no_text : (number : ℕ) (form : Form) (bytes : List ℕ) → (IsUtf8 bytes → ⊥) → IsRefused number (IsNext form bytes) (r.BadAudit number)
no_text number form bytes never = inr (refl, λ it second next. never next.utf8)

-- the line that was found is the one that is given
pub taken : (form after : Form) (bytes : List ℕ) (line : Line) (second : Bool) → IsNext form bytes line second → IsBehind form line second after
    → IsTakenAmong {A = Line × Bool} (form.lines + 1) (IsNext form bytes) (λ it own given. (given ≡ (it, own)) × IsBehind form it own after) (Ok (line, second))
taken form after bytes line second next behind = (line, second, next, (refl, behind))

-- ---- the lines that a reader takes

-- the given line is one of the format
pub given_means : (number : ℕ) (form after : Form) (bytes : List ℕ) (given : Line × Bool) → IsTakenAmong number (IsNext form bytes) (λ it own both. (both ≡ (it, own)) × IsBehind form it own after) (Ok given) → MeansLine given.1 bytes given.0
given_means number form after bytes given h = subst (λ (both : Line × Bool). MeansLine both.1 bytes both.0) (sym h.3.0) h.2.means

-- what holds of the given line holds of the line
pub taken_more : {A : Type 0} (number : ℕ) (form after : Form) (bytes : List ℕ) (given : Line × Bool) (Gives : Line → A → Type 0) (made : A)
    → IsTakenAmong number (IsNext form bytes) (λ it own both. (both ≡ (it, own)) × IsBehind form it own after) (Ok given) → Gives given.0 made
    → IsTakenAmong number (IsNext form bytes) (λ it own x. IsBehind form it own after × Gives it x) (Ok made)
taken_more number form after bytes given Gives made h gives = (h.0, h.1, h.2, (h.3.1, subst (λ (both : Line × Bool). Gives both.0 made) h.3.0 gives))
