-- Codecs of numbers, texts and truth values, of lists and pairs, of what may be absent, and of what is told by another value.
use Rattle.std.specs.Prelude.{◌≡◌, ◌<◌, ℕ, suc, max, ℤ, List, [], map, Bool, true, Option, Some, option_map, option_and_then}
use Rattle.std.specs.List.{All}
use Rattle.std.proofs.Common.{refl, arith}
use Rattle.serde_json.specs.Data.{boolean, number, string, array, unsigned, no_items, item}
use Rattle.serde_json.specs.Find.{at, as_str, as_bool, as_array, of_integer}
use Rattle.serde_json.specs.View.{items_of}
use Rattle.rls_codec.specs.Looking.{Anything, Both, paired, worded, found_where, found_after, has_length, is_int, int_found, natural_found, below, FitsIfThere, written_or_null, found_unless_null}
use Rattle.rls_codec.specs.Codec.{Codec}
use Rattle.rls_codec.specs.CodecLaws as laws

-- ---- numbers, texts, truth values

-- a whole number without a sign
abbrev pub natural : Codec ℕ
natural = record {
  Fits = Anything;
  written = λ n. number (unsigned n);
  found = natural_found;
  levels = 0;
  back = λ n h. refl;
  plain = λ n. refl;
  flat = λ n. omega arith;
}

-- a whole number without a sign, below the bound
abbrev pub natural_below : ℕ → Codec ℕ
natural_below bound = record {
  Fits = λ n. n < bound;
  written = λ n. number (unsigned n);
  found = λ d. option_and_then (below bound) (natural_found d);
  levels = 0;
  back = laws.below_back bound;
  plain = λ n. refl;
  flat = λ n. omega arith;
}

-- a whole number of 64 bits with its sign
abbrev pub integer : Codec ℤ
integer = record {
  Fits = λ z. is_int z ≡ true;
  written = λ z. number (of_integer z);
  found = int_found;
  levels = 0;
  back = laws.int_back;
  plain = laws.int_plain;
  flat = λ z. omega arith;
}

-- a text, by its bytes
abbrev pub text : Codec (List ℕ)
text = record {
  Fits = Anything;
  written = string;
  found = as_str;
  levels = 0;
  back = λ s h. refl;
  plain = λ s. refl;
  flat = λ s. omega arith;
}

-- a truth value
abbrev pub flag : Codec Bool
flag = record {
  Fits = Anything;
  written = boolean;
  found = as_bool;
  levels = 0;
  back = λ b h. refl;
  plain = λ b. refl;
  flat = λ b. omega arith;
}

-- ---- lists, pairs

-- an array of any length
abbrev pub list_of : {A : Type 0} → Codec A → Codec (List A)
list_of c = record {
  Fits = All c.Fits;
  written = λ xs. array (items_of (map c.written xs));
  found = λ d. option_and_then (found_after c.found []) (as_array d);
  levels = suc c.levels;
  back = laws.list_back c [];
  plain = laws.list_plain c;
  flat = λ xs. laws.suc_le (laws.list_flat c xs);
}

-- an array of two
abbrev pub pair : {A B : Type 0} → Codec A → Codec B → Codec (A × B)
pair a b = record {
  Fits = Both a.Fits b.Fits;
  written = λ p. array (item (a.written p.0) (item (b.written p.1) no_items));
  found = λ d. found_where (has_length 2 d) (paired (option_and_then a.found (at 0 d)) (option_and_then b.found (at 1 d)));
  levels = suc (max a.levels b.levels);
  back = laws.pair_back a b;
  plain = λ p. laws.both_false (a.plain p.0) (laws.both_false (b.plain p.1) refl);
  flat = λ p. laws.suc_le (laws.max_zero_le (a.flat p.0) (b.flat p.1));
}

-- ---- what may be absent

-- `null` stands for what is absent
abbrev pub maybe : {A : Type 0} → Codec A → Codec (Option A)
maybe c = record {
  Fits = FitsIfThere c.Fits c.written;
  written = written_or_null c.written;
  found = found_unless_null c.found;
  levels = c.levels;
  back = laws.maybe_back c;
  plain = laws.maybe_plain c;
  flat = laws.maybe_flat c;
}

-- ---- what is told by another value

-- a value that is the same as one that has a codec
abbrev pub via : {A B : Type 0} (to : B → A) (from : A → B) → ((b : B) → from (to b) ≡ b) → Codec A → Codec B
via to from same c = record {
  Fits = λ b. c.Fits (to b);
  written = λ b. c.written (to b);
  found = λ d. option_map from (c.found d);
  levels = c.levels;
  back = laws.via_back to from same c;
  plain = λ b. c.plain (to b);
  flat = λ b. c.flat (to b);
}

-- a value that another tells, as its text does, though not each such tells one: those that fit are told by what they are told as
abbrev pub parsed : {A B : Type 0} (Fits : B → Type 0) (to : B → A) (from : A → Option B) (c : Codec A)
    → ((b : B) → Fits b → c.Fits (to b)) → ((b : B) → Fits b → from (to b) ≡ Some b) → Codec B
parsed Fits to from c fits same = record {
  Fits = Fits;
  written = λ b. c.written (to b);
  found = λ d. option_and_then from (c.found d);
  levels = c.levels;
  back = λ b h. laws.parsed_back c from (to b) (fits b h) (same b h);
  plain = λ b. c.plain (to b);
  flat = λ b. c.flat (to b);
}

-- one of these values, by its word
abbrev pub one_word : {A : Type 0} (word : A → List ℕ) (all : List A) → ((a : A) → worded word all (word a) ≡ Some a) → Codec A
one_word word all told = parsed Anything word (worded word all) text (λ a h. tt) (λ a h. told a)
