-- The JSON of refusals.
use Rattle.std.specs.Prelude.{◌≡◌, ℕ, List, codes}
use Rattle.std.proofs.Common.{◌⊎◌, inl, inr, refl}
use Rattle.rls_codec.specs.Looking.{by_word, by_number}
use Rattle.rls_codec.specs.Codec.{Codec, Rest}
use Rattle.rls_codec.specs.Codecs.{text, via}
use Rattle.rls_codec.specs.Arrays.{part, no_more, choice, no_choice, chosen, tuple, rest_via}
use Rattle.rls_tests.specs.declared.coded_refusals.Why.{Why}
use Rattle.rls_tests.specs.declared.coded_refusals.Why.TheVariants.{Privilege, Owner}
use Rattle.rls_tests.specs.declared.coded_refusals.Refusal.{Refusal}
use Rattle.rls_tests.specs.declared.coded_refusals.Refusal.TheVariants.{TypeFault, Denied, NotNull}

-- what is missing, as one of its shapes
abbrev pub WhyShape : Type 0
WhyShape = (List ℕ × (List ℕ × Unit {0})) ⊎ ((List ℕ × Unit {0}) ⊎ ⊥)

abbrev pub why_to : Why → WhyShape
why_to (Privilege privilege table) = inl (privilege, (table, tt))
why_to (Owner table) = inr (inl (table, tt))

abbrev pub why_from : WhyShape → Why
why_from (inl p) = Privilege p.0 p.1.0
why_from (inr (inl p)) = Owner p.0
why_from (inr (inr e)) = absurd e

pub why_same : (why : Why) → why_from (why_to why) ≡ why
why_same (Privilege privilege table) = refl
why_same (Owner table) = refl

-- a word for what is missing, and the names
abbrev pub why_behind : Rest Why
why_behind = rest_via why_to why_from why_same
    (chosen (choice (by_word (codes "Privilege")) (part text (part text no_more)) (choice (by_word (codes "Owner")) (part text no_more) no_choice refl) refl))

-- a refusal, as one of its shapes
abbrev pub RefusalShape : Type 0
RefusalShape = Unit {0} ⊎ (Why ⊎ ((List ℕ × Unit {0}) ⊎ ⊥))

abbrev pub refusal_to : Refusal → RefusalShape
refusal_to TypeFault = inl tt
refusal_to (Denied why) = inr (inl why)
refusal_to (NotNull column) = inr (inr (inl (column, tt)))

abbrev pub refusal_from : RefusalShape → Refusal
refusal_from (inl u) = TypeFault
refusal_from (inr (inl why)) = Denied why
refusal_from (inr (inr (inl p))) = NotNull p.0
refusal_from (inr (inr (inr e))) = absurd e

pub refusal_same : (r : Refusal) → refusal_from (refusal_to r) ≡ r
refusal_same TypeFault = refl
refusal_same (Denied why) = refl
refusal_same (NotNull column) = refl

-- its number, and what is said of it
abbrev pub refusal : Codec Refusal
refusal = via refusal_to refusal_from refusal_same
    (tuple (chosen (choice (by_number 8) no_more (choice (by_number 11) why_behind (choice (by_number 15) (part text no_more) no_choice refl) refl) refl)))
