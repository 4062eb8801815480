-- The head of an audit tells its format.
use Rattle.std.specs.Prelude.{◌≡◌, refl, ℕ, Bool, true, false, ◌==◌, List, Option, Some, None, option_map, option_and_then, if◌then◌else◌, codes}
use Rattle.std.proofs.Common.{ap, sym, ◌∙◌, inl, inr, eqb-true}
use Rattle.serde_json.specs.Data.{Data}
use Rattle.serde_json.specs.Find.{get}
use Rattle.serde_json.specs.Read.{read}
use Rattle.rls_codec.specs.Looking.{has_size, paired, found_where, natural_found}
use Rattle.rls_audit.specs.rls_audit_lines.specs.declared.lines.Line.{Line}
use Rattle.rls_audit.specs.rls_audit_lines.specs.declared.lines.Line.TheVariants.{Head}
use Rattle.rls_audit.specs.rls_audit_lines.specs.LineCodecs.{ShownShape, LineShape, line, line_from, number_of, says, shown_fields, format_number}
use Rattle.rls_audit.specs.rls_audit_lines.specs.LineCodecs as codec
use Rattle.rls_codec.specs.Codecs.{natural, list_of}
use Rattle.rls_codec.specs.Objects.{field, no_fields}
use Rattle.rls_audit.specs.rls_audit_lines.specs.Reading.{MeansLine}

-- a line of one of its shapes
abbrev shaped : Bool → Bool → Bool → Option ShownShape → Option (ℕ × (List ℕ × Unit {0})) → Option (Unit {0} × Unit {0}) → Option LineShape
shaped a b c x y z = if a then option_map inl x else option_map inr (if b then option_map inl y else option_map inr (if c then option_map inl z else option_map inr None))

-- what stands for the head's member
abbrev Told : Option (Unit {0} × Unit {0}) → Type 0
Told z = z ≡ Some (tt, tt)

-- what is the head has the head's member
head_only : (a b c : Bool) (x : Option ShownShape) (y : Option (ℕ × (List ℕ × Unit {0}))) (z : Option (Unit {0} × Unit {0})) → option_map line_from (shaped a b c x y z) ≡ Some Head → Told z
head_only true b c None y z h = absurd (cc)
head_only true b c (Some p) y z h = absurd (cc)
head_only false true c x None z h = absurd (cc)
head_only false true c x (Some p) z h = absurd (cc)
head_only false false true x y None h = absurd (cc)
head_only false false true x y (Some p) h = refl
head_only false false false x y z h = absurd (cc)

-- the number that stands there is the one that is looked for
says_so : (number n : ℕ) → Told (paired (says number n) (Some tt)) → n ≡ number
says_so number n h = go (n == number) refl h
  where
    go : (b : Bool) → (n == number) ≡ b → Told (paired (found_where b (Some tt)) (Some tt)) → n ≡ number
    go true same e = eqb-true n number same
    go false other e = absurd (cc)

said_so : (number : ℕ) (there : Option Data) → Told (paired (option_and_then (λ d. option_and_then (says number) (natural_found d)) there) (Some tt)) → option_and_then natural_found there ≡ Some number
said_so number None h = absurd (cc)
said_so number (Some d) h = go (natural_found d) h
  where
    go : (n : Option ℕ) → Told (paired (option_and_then (says number) n) (Some tt)) → n ≡ Some number
    go None e = absurd (cc)
    go (Some n) e = ap (λ (m : ℕ). Some m) (says_so number n e)

-- so the JSON of a head has the number of its format
number_there : (second : Bool) (d : Data) → (line second).found d ≡ Some Head → option_and_then natural_found (get (codes "format") d) ≡ Some (number_of second)
number_there second d h =
    said_so (number_of second) (get (codes "format") d)
    (head_only (has_size 8 d) (has_size 2 d) (has_size 1 d) ((shown_fields second).found d) ((field (codes "end") natural (field (codes "order") (list_of natural) no_fields refl) refl).found d)
    ((field (codes "format") (format_number second) no_fields refl).found d) h)

two_numbers : (s t : Bool) → number_of s ≡ number_of t → s ≡ t
two_numbers false false e = refl
two_numbers true true e = refl
two_numbers false true e = absurd (cc)
two_numbers true false e = absurd (cc)

some_number : (m n : ℕ) → ◌≡◌ {A = Option ℕ} (Some m) (Some n) → m ≡ n
some_number m n h = cc

-- a text is the head of one format
pub one_format : (text : List ℕ) (s t : Bool) → MeansLine s text Head → MeansLine t text Head → s ≡ t
one_format text s t h k = go (read text) h.0 k.0
  where
    go : (there : Option Data) → option_and_then (line s).found there ≡ Some Head → option_and_then (line t).found there ≡ Some Head → s ≡ t
    go None e f = absurd (cc)
    go (Some d) e f = two_numbers s t (some_number (number_of s) (number_of t) (sym (number_there s d e) ∙ number_there t d f))
