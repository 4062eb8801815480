-- Codecs of objects: those with these members and no others, and those that are told apart by how many members they have.
use Rattle.std.specs.Prelude.{◌≡◌, ℕ, suc, max, List, [], ◌∷◌, length, true, Some, None, option_map, option_and_then, if◌then◌else◌}
use Rattle.std.proofs.Common.{◌⊎◌, inl, inr, refl, ap, arith}
use Rattle.serde_json.specs.Data.{object, no_members, member}
use Rattle.serde_json.specs.Find.{get}
use Rattle.rls_codec.specs.Looking.{Anything, Both, EitherFits, paired, found_where, has_size, comes_first, is_other_size, either_of}
use Rattle.rls_codec.specs.Codec.{Codec, Fields, Kinds}
use Rattle.rls_codec.specs.CodecLaws as laws
use Rattle.rls_codec.specs.ObjectLaws as objects

-- no members
abbrev pub no_fields : Fields (Unit {0})
no_fields = record {
  names = [];
  Fits = Anything;
  written = λ u. no_members;
  found = λ d. Some tt;
  levels = 0;
  back = λ u h. refl;
  plain = λ u. refl;
  flat = λ u. omega arith;
  sized = λ u. refl;
  skips = λ k d ms h. refl;
}

-- the member with this name, which comes before all others in byte order, and these others
abbrev pub field : {A B : Type 0} (k : List ℕ) → Codec A → (fs : Fields B) → comes_first k fs.names ≡ true → Fields (A × B)
field k c fs first = record {
  names = k ∷ fs.names;
  Fits = Both c.Fits fs.Fits;
  written = λ p. member k (c.written p.0) (fs.written p.1);
  found = λ d. paired (option_and_then c.found (get k d)) (fs.found d);
  levels = max c.levels fs.levels;
  back = objects.field_back k c fs first;
  plain = λ p. laws.both_false (c.plain p.0) (fs.plain p.1);
  flat = λ p. laws.max_le (c.flat p.0) (fs.flat p.1);
  sized = λ p. ap suc (fs.sized p.1);
  skips = objects.field_skips k c fs;
}

-- an object with these members and no others
abbrev pub record_of : {A : Type 0} → Fields A → Codec A
record_of fs = record {
  Fits = fs.Fits;
  written = λ a. object (fs.written a);
  found = λ d. found_where (has_size (length fs.names) d) (fs.found d);
  levels = suc fs.levels;
  back = objects.record_back fs;
  plain = fs.plain;
  flat = λ a. laws.suc_le (fs.flat a);
}

-- no object
abbrev pub no_kind : Kinds ⊥
no_kind = record {
  sizes = [];
  Fits = λ e. absurd e;
  written = λ e. absurd e;
  found = λ d. None;
  levels = 0;
  back = λ e h. absurd e;
  plain = λ e. absurd e;
  flat = λ e. absurd e;
  apart = λ e n h. absurd e;
}

-- an object with these members, else one of the others, none of which has as many
abbrev pub kind : {B C : Type 0} (fs : Fields B) (others : Kinds C) → is_other_size (length fs.names) others.sizes ≡ true → Kinds (B ⊎ C)
kind fs others free = record {
  sizes = length fs.names ∷ others.sizes;
  Fits = EitherFits fs.Fits others.Fits;
  written = either_of fs.written others.written;
  found = λ d. if has_size (length fs.names) d then option_map inl (fs.found d) else option_map inr (others.found d);
  levels = max fs.levels others.levels;
  back = objects.kind_back fs others free;
  plain = objects.kind_plain fs others;
  flat = objects.kind_flat fs others;
  apart = objects.kind_apart fs others;
}

-- an object of one of these kinds
abbrev pub one_of : {A : Type 0} → Kinds A → Codec A
one_of ks = record {
  Fits = ks.Fits;
  written = λ a. object (ks.written a);
  found = ks.found;
  levels = suc ks.levels;
  back = ks.back;
  plain = ks.plain;
  flat = λ a. laws.suc_le (ks.flat a);
}
