-- The laws of objects.
use Rattle.std.specs.Prelude.{◌≡◌, ◌≤◌, ℕ, max, List, ◌∷◌, length, true, false, ◌==◌, not, Option, Some, option_map, option_and_then, if◌then◌else◌}
use Rattle.std.specs.Ordering.{nat_cmp, match_ordering, ordering_reverse}
use Rattle.std.specs.Cmp.Lexicographic.{slice_cmp}
use Rattle.std.specs.declared.cmp.Ordering.{Ordering}
use Rattle.std.specs.declared.cmp.Ordering.TheVariants.{Less, Equal, Greater}
use Rattle.std.proofs.Common.{refl, ap, ◌∙◌, ◌⊎◌, inl, inr, arith, eq-eqb}
use Rattle.std.proofs.lemmas.Cmp.{nat_list_cmp_total, tied_itself}
use Rattle.serde_json.specs.Data.{Data, object, Members, member, members_depth}
use Rattle.serde_json.specs.Find.{get, get_member}
use Rattle.serde_json.specs.Written.{members_have_float}
use Rattle.serde_json.specs.Events.{members_len}
use Rattle.rls_codec.specs.Looking.{paired, found_where, has_size, is_before, comes_first, is_other_size, Both, EitherFits, either_of}
use Rattle.rls_codec.specs.Codec.{Codec, Fields, Kinds}
use Rattle.rls_codec.specs.ArrayLaws.{and_left, and_right, not_true}

at_itself : (k : List ℕ) (d : Data) (ms : Members) → get_member k (member k d ms) ≡ Some d
at_itself k d ms = rw (tied_itself nat_list_cmp_total k)

is_less : (o : Ordering) → match_ordering o true false false ≡ true → o ≡ Less
is_less Less h = refl
is_less Equal h = absurd (cc)
is_less Greater h = absurd (cc)

-- a member whose key comes before isn't the one that is looked for
elsewhere : (k q : List ℕ) (d : Data) (ms : Members) → is_before q k ≡ true → get_member k (member q d ms) ≡ get_member k ms
elsewhere k q d ms h =
    let above : slice_cmp nat_cmp k q ≡ Greater = nat_list_cmp_total.antisymm k q ∙ ap ordering_reverse (is_less (slice_cmp nat_cmp q k) h) in
    rw above

pub field_back : {A B : Type 0} (k : List ℕ) (c : Codec A) (fs : Fields B) → comes_first k fs.names ≡ true → (p : A × B) → Both c.Fits fs.Fits p
    → paired (option_and_then c.found (get k (object (member k (c.written p.0) (fs.written p.1))))) (fs.found (object (member k (c.written p.0) (fs.written p.1)))) ≡ Some p
field_back k c fs first p h =
    rw (at_itself k (c.written p.0) (fs.written p.1), c.back p.0 h.0, fs.skips k (c.written p.0) (fs.written p.1) first, fs.back p.1 h.1)

pub field_skips : {A B : Type 0} (k : List ℕ) (c : Codec A) (fs : Fields B) (q : List ℕ) (d : Data) (ms : Members) → comes_first q (k ∷ fs.names) ≡ true
    → paired (option_and_then c.found (get k (object (member q d ms)))) (fs.found (object (member q d ms))) ≡ paired (option_and_then c.found (get k (object ms))) (fs.found (object ms))
field_skips k c fs q d ms h =
    rw (elsewhere k q d ms (and_left (is_before q k) (comes_first q fs.names) h), fs.skips q d ms (and_right (is_before q k) (comes_first q fs.names) h))

pub record_back : {A : Type 0} (fs : Fields A) (a : A) → fs.Fits a → found_where (has_size (length fs.names) (object (fs.written a))) (fs.found (object (fs.written a))) ≡ Some a
record_back fs a h = rw (eq-eqb (members_len (fs.written a)) (length fs.names) (fs.sized a)) (fs.back a h)

module _ {B C : Type 0} (fs : Fields B) (others : Kinds C) where
  abbrev members_of_either : B ⊎ C → Members
  members_of_either = either_of fs.written others.written

  abbrev kind_found : Data → Option (B ⊎ C)
  kind_found d = if has_size (length fs.names) d then option_map inl (fs.found d) else option_map inr (others.found d)

  pub kind_back : is_other_size (length fs.names) others.sizes ≡ true → (a : B ⊎ C) → EitherFits fs.Fits others.Fits a → kind_found (object (members_of_either a)) ≡ Some a
  kind_back free (inl b) h = rw (eq-eqb (members_len (fs.written b)) (length fs.names) (fs.sized b)) (ap (option_map inl) (fs.back b h))
  kind_back free (inr c) h = rw (others.apart c (length fs.names) free) (ap (option_map inr) (others.back c h))

  pub kind_plain : (a : B ⊎ C) → members_have_float (members_of_either a) ≡ false
  kind_plain (inl b) = fs.plain b
  kind_plain (inr c) = others.plain c

  pub kind_flat : (a : B ⊎ C) → members_depth (members_of_either a) ≤ max fs.levels others.levels
  kind_flat (inl b) = omega (arith, fs.flat b)
  kind_flat (inr c) = omega (arith, others.flat c)

  pub kind_apart : (a : B ⊎ C) (n : ℕ) → is_other_size n (length fs.names ∷ others.sizes) ≡ true → has_size n (object (members_of_either a)) ≡ false
  kind_apart (inl b) n h = ap (λ x. x == n) (fs.sized b) ∙ not_true (length fs.names == n) (and_left (not (length fs.names == n)) (is_other_size n others.sizes) h)
  kind_apart (inr c) n h = others.apart c n (and_right (not (length fs.names == n)) (is_other_size n others.sizes) h)
