-- Codecs of arrays whose items stand at fixed places, and of those whose first item tells what the others are.
use Rattle.std.specs.Prelude.{◌≡◌, suc, max, [], ◌∷◌, true, Some, None, option_map, option_and_then, if◌then◌else◌}
use Rattle.std.proofs.Common.{◌⊎◌, inl, inr, refl, arith}
use Rattle.serde_json.specs.Data.{array, no_items, item}
use Rattle.serde_json.specs.Find.{at}
use Rattle.rls_codec.specs.Looking.{Anything, Both, EitherFits, paired, found_where, has_length, Head, head_written, is_head, is_other_head, either_of}
use Rattle.rls_codec.specs.Codec.{Codec, Rest, Choice}
use Rattle.rls_codec.specs.CodecLaws as laws
use Rattle.rls_codec.specs.ArrayLaws as arrays

-- no more items
abbrev pub no_more : Rest (Unit {0})
no_more = record {
  Fits = Anything;
  written = λ u. no_items;
  found = λ n d. found_where (has_length n d) (Some tt);
  levels = 0;
  back = arrays.end_back;
  plain = λ u. refl;
  flat = λ u. omega arith;
}

-- an item, and those behind it
abbrev pub part : {A B : Type 0} → Codec A → Rest B → Rest (A × B)
part c r = record {
  Fits = Both c.Fits r.Fits;
  written = λ p. item (c.written p.0) (r.written p.1);
  found = λ n d. paired (option_and_then c.found (at n d)) (r.found (suc n) d);
  levels = max c.levels r.levels;
  back = arrays.part_back c r;
  plain = λ p. laws.both_false (c.plain p.0) (r.plain p.1);
  flat = λ p. laws.max_le (c.flat p.0) (r.flat p.1);
}

-- an array of these items
abbrev pub tuple : {A : Type 0} → Rest A → Codec A
tuple r = record {
  Fits = r.Fits;
  written = λ a. array (r.written a);
  found = r.found 0;
  levels = suc r.levels;
  back = r.back no_items;
  plain = r.plain;
  flat = λ a. laws.suc_le (r.flat a);
}

-- none to choose
abbrev pub no_choice : Choice ⊥
no_choice = record {
  heads = [];
  Fits = λ e. absurd e;
  head = λ e. absurd e;
  rest = λ e. absurd e;
  found = λ n d. None;
  levels = 0;
  back = λ before e h. absurd e;
  plain = λ e. absurd e;
  flat = λ e. absurd e;
  apart = λ e h k. absurd e;
}

-- behind this head these items, else one of the others
abbrev pub choice : {B C : Type 0} (h : Head) → Rest B → (others : Choice C) → is_other_head h others.heads ≡ true → Choice (B ⊎ C)
choice h r others fresh = record {
  heads = h ∷ others.heads;
  Fits = EitherFits r.Fits others.Fits;
  head = either_of (λ b. h) others.head;
  rest = either_of r.written others.rest;
  found = λ n d. if is_head h (at n d) then option_map inl (r.found (suc n) d) else option_map inr (others.found n d);
  levels = max r.levels others.levels;
  back = arrays.choice_back h r others fresh;
  plain = arrays.choice_plain h r others;
  flat = arrays.choice_flat h r others;
  apart = arrays.choice_apart h r others;
}

-- the head and the items behind it
abbrev pub chosen : {A : Type 0} → Choice A → Rest A
chosen ch = record {
  Fits = ch.Fits;
  written = λ a. item (head_written (ch.head a)) (ch.rest a);
  found = ch.found;
  levels = ch.levels;
  back = ch.back;
  plain = λ a. arrays.head_plain (ch.head a) (ch.plain a);
  flat = λ a. arrays.head_flat (ch.head a) (ch.rest a) (ch.flat a);
}

-- items of a value that is the same as one whose items these are
abbrev pub rest_via : {A B : Type 0} (to : B → A) (from : A → B) → ((b : B) → from (to b) ≡ b) → Rest A → Rest B
rest_via to from same r = record {
  Fits = λ b. r.Fits (to b);
  written = λ b. r.written (to b);
  found = λ n d. option_map from (r.found n d);
  levels = r.levels;
  back = arrays.rest_via_back to from same r;
  plain = λ b. r.plain (to b);
  flat = λ b. r.flat (to b);
}
