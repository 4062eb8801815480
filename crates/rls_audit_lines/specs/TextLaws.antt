-- What is written of numbers and objects is found in their texts.
use Rattle.std.specs.Prelude.{◌≡◌, ◌<◌, ℕ, zero, suc, ◌^◌, List, [], ◌∷◌, ◌++◌, length, get_or, nat_lt, Bool, true, false, ◌&&◌, ◌==◌, Option, Some, None, option_map, option_and_then, Result, Ok, Err, codes, if◌then◌else◌}
use Rattle.std.specs.Fmt.{decimal}
use Rattle.std.specs.Int.{IsInRange}
use Rattle.std.specs.Str.Parse.{ParsesUnsigned}
use Rattle.std.proofs.Common.{refl, sym, ap, ◌∙◌, ◌≢◌, rules, arith, eq-eqb, ne_eqb, lt-ltb, ltb-true, append_assoc, OkIff}
use Rattle.std.proofs.lemmas.Str.Parse.{IsNumeralModel, numerals_by_fold, parse_digits, not_in_digits}
use Rattle.std.proofs.lemmas.Fmt.{digits_decimal, digits_value-decimal, decimal_nonempty}
use Rattle.rls_value.specs.Names.{IsName}
use Rattle.rls_value.specs.Objects.{object_text, row_id_text}
use Rattle.rls_value.specs.declared.object.Object.{Object}
use Rattle.rls_value.specs.declared.object.Object.TheVariants as o
use Rattle.rls_value.specs.declared.row.RowId.{RowId}
use Rattle.rls_codec.specs.Looking.{found_where, below}
use Rattle.rls_codec.specs.CodecLaws.{below_back}
use Rattle.rls_audit_lines.specs.NamesFound.{name_found}
use Rattle.rls_audit_lines.specs.NameCodecLaws.{name_back}
use Rattle.rls_audit_lines.specs.Texts.{are_digits, read_on, number_found, cut_at, behind_byte, stripped, id_of, row_id_found, row_named, row_behind, row_found, object_found}

-- ---- numbers

own : IsNumeralModel (λ ds. are_digits ds ≡ true) (read_on 0)
own = numerals_by_fold _ (search rules) read_on (search rules)

-- it reads as the number that is found
abbrev pub IsNumberRead : {E : Type 0} → Result ℕ E → Option ℕ → Type 0
IsNumberRead (Ok n) found = found ≡ Some n
IsNumberRead (Err e) found = found ≡ None

pub number_read : {E : Type 0} (bs : List ℕ) (r : Result ℕ E) → ParsesUnsigned 64 10 bs r → are_digits bs ≡ true → IsNumberRead r (number_found bs)
number_read {E = E} bs (Ok n) h d = let p = parse_digits own {E = E} 64 bs (Ok n) h d in rw (d, lt-ltb 0 (length bs) p.0.0, lt-ltb (read_on 0 bs) (2 ^ 64) p.0.1) (ap (λ m. Some m) (sym p.1))
number_read {E = E} bs (Err error) h d = rw d (go (nat_lt 0 (length bs)) (nat_lt (read_on 0 bs) (2 ^ 64)) refl refl)
  where
    go : (a b : Bool) → nat_lt 0 (length bs) ≡ a → nat_lt (read_on 0 bs) (2 ^ 64) ≡ b → found_where (a && b) (Some (read_on 0 bs)) ≡ None
    go false b x y = refl
    go true false x y = refl
    go true true x y = absurd (parse_digits own {E = E} 64 bs (Err error) h d (ltb-true 0 (length bs) x, ltb-true (read_on 0 bs) (2 ^ 64) y))

pub no_number : (bs : List ℕ) → are_digits bs ≡ false → number_found bs ≡ None
no_number bs h = rw h refl

pub decimal_found : (n : ℕ) → n < 2 ^ 64 → number_found (decimal n) ≡ Some n
decimal_found n h = rw (digits_decimal own n h, lt-ltb 0 (length (decimal n)) (decimal_nonempty n h), digits_value-decimal own n h, lt-ltb n (2 ^ 64) h) refl

-- ---- parts

pub cut_behind : (c : ℕ) (xs ys : List ℕ) → ((i : ℕ) → i < length xs → get_or xs i 0 ≢ c) → cut_at c (xs ++ c ∷ ys) ≡ Some (xs, ys)
cut_behind c [] ys h = rw (eq-eqb c c refl) refl
cut_behind c (x ∷ xs) ys h = rw (ne_eqb x c (h 0 (omega arith))) (ap (option_map (behind_byte x)) (cut_behind c xs ys (λ i lt. h (suc i) (omega (arith, lt)))))

pub cut_nowhere : (c : ℕ) (xs : List ℕ) → ((i : ℕ) → i < length xs → get_or xs i 0 ≢ c) → cut_at c xs ≡ None
cut_nowhere c [] h = refl
cut_nowhere c (x ∷ xs) h = rw (ne_eqb x c (h 0 (omega arith))) (ap (option_map (behind_byte x)) (cut_nowhere c xs (λ i lt. h (suc i) (omega (arith, lt)))))

digits_cut : (c : ℕ) → ¬ (IsInRange 48 57 c) → (n : ℕ) → n < 2 ^ 64 → (ys : List ℕ) → cut_at c (decimal n ++ c ∷ ys) ≡ Some (decimal n, ys)
digits_cut c apart n h ys = cut_behind c (decimal n) ys (not_in_digits own (decimal n) c (digits_decimal own n h) apart)

pub row_id_back : (id : RowId) → id.txn < 2 ^ 64 → id.n < 2 ^ 32 → row_id_found (row_id_text id) ≡ Some id
row_id_back id h k =
    rw (digits_cut 46 (λ r. omega (arith, r)) id.txn h (decimal id.n), decimal_found id.txn h, decimal_found id.n (omega (arith, k)), below_back (2 ^ 32) id.n k) refl

-- ---- objects

-- of its kinds those that a change may be of, with a name, and a number that fits
abbrev pub FitsObject : Object → Type 0
FitsObject (o.Role name) = IsName name
FitsObject (o.Members name) = IsName name
FitsObject (o.Table name) = IsName name
FitsObject (o.Grants name) = IsName name
FitsObject (o.Policies name) = IsName name
FitsObject (o.Rows name) = ⊥
FitsObject (o.Key name key) = ⊥
FitsObject (o.RowOf name id) = IsName name × (id.txn < 2 ^ 64) × (id.n < 2 ^ 32)

row_back : (name : List ℕ) (id : RowId) → IsName name → id.txn < 2 ^ 64 → id.n < 2 ^ 32 → row_found (row_id_text id ++ (codes " of " ++ name)) ≡ Some (o.RowOf name id)
row_back name id is h k =
    rw (
      append_assoc (decimal id.txn) (codes "." ++ decimal id.n) (codes " of " ++ name),
      digits_cut 46 (λ r. omega (arith, r)) id.txn h (decimal id.n ++ (codes " of " ++ name)),
      decimal_found id.txn h,
      digits_cut 32 (λ r. omega (arith, r)) id.n (omega (arith, k)) (codes "of " ++ name),
      decimal_found id.n (omega (arith, k)),
      below_back (2 ^ 32) id.n k,
      name_back name is,
    ) refl

pub object_back : (x : Object) → FitsObject x → object_found (object_text x) ≡ Some x
object_back (o.Role name) h = rw (name_back name h) refl
object_back (o.Members name) h = rw (name_back name h) refl
object_back (o.Table name) h = rw (name_back name h) refl
object_back (o.Grants name) h = rw (name_back name h) refl
object_back (o.Policies name) h = rw (name_back name h) refl
object_back (o.Rows name) h = absurd h
object_back (o.Key name key) h = absurd h
object_back (o.RowOf name id) h = row_back name id h.0 h.1 h.2
