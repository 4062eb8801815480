-- What a page has of each of its pieces.
use Rattle.std.proofs.Common.{◌≡◌, refl, ℕ, zero, suc, ◌<◌, ◌+◌, ◌-◌, ◌%◌, ◌^◌, false, ◌||◌, List, [], ◌∷◌, ◌++◌, length, take, sym, ap, ◌∙◌, arith, if◌then◌else◌}
use Rattle.std.specs.Fmt.{decimal}
use Rattle.std.specs.List.{flat_map}
use Rattle.std.proofs.lemmas.Bool.{ne_eqb}
use Rattle.std.proofs.lemmas.Fmt.{decimal_by_steps}
use Rattle.std.proofs.lemmas.List.{append-nil, append_assoc, length_push, take_at}
use Rattle.std.proofs.lemmas.List.Elements.{filter-append}
use Rattle.html_text.specs.Html.{is_mark, marked_text, marks_of}
use Rattle.rls_audit.specs.rls_printing.specs.Escaped.{escaped_text}
use Rattle.rls_check.specs.PageParts.{repeated}
use Rattle.rls_check.specs.Pieces.{AreWords, Data, IsWord, Number, Piece, Tag, markup, markup_of, page_text, text_of}

-- nothing is written
pub page_nothing : (bytes : List ℕ) → bytes ≡ bytes ++ page_text []
unfolding page_text
page_nothing bytes = sym (append-nil bytes)

-- pieces behind others
pub page_both : (one other : List Piece) → page_text (one ++ other) ≡ page_text one ++ page_text other
unfolding page_text
page_both [] other = refl
page_both (piece ∷ one) other = ap (λ it. text_of piece ++ it) (page_both one other) ∙ sym (append_assoc (text_of piece) (page_text one) (page_text other))

-- pieces are written behind others
pub onto : (old mid new : List ℕ) (one other : List Piece) → mid ≡ old ++ page_text one → new ≡ mid ++ page_text other → new ≡ old ++ page_text (one ++ other)
onto old mid new one other first second =
    second ∙ ap (λ it. it ++ page_text other) first ∙ append_assoc old (page_text one) (page_text other) ∙ ap (λ it. old ++ it) (sym (page_both one other))

-- what is written on an empty page is the page
pub on_empty : (old new : List ℕ) (pieces : List Piece) → old ≡ [] → new ≡ old ++ page_text pieces → new ≡ page_text pieces
on_empty old new pieces none grew = grew ∙ ap (λ it. it ++ page_text pieces) none

-- ---- loops

each_text : {A : Type 0} (f : A → List Piece) (xs : List A) → flat_map (λ x. page_text (f x)) xs ≡ page_text (flat_map f xs)
unfolding page_text
each_text f [] = refl
each_text f (x ∷ xs) = ap (λ rest. page_text (f x) ++ rest) (each_text f xs) ∙ sym (page_both (f x) (flat_map f xs))

-- what is written of each is what is written of all
pub each : {A : Type 0} (old new : List ℕ) (f : A → List Piece) (xs : List A) → new ≡ old ++ flat_map (λ x. page_text (f x)) xs → new ≡ old ++ page_text (flat_map f xs)
each old new f xs grew = grew ∙ ap (λ it. old ++ it) (each_text f xs)

-- one of those that are left is written
pub onto_left : (old new whole : List ℕ) (one rest : List Piece) → new ≡ old ++ page_text one → old ++ page_text (one ++ rest) ≡ whole → new ++ page_text rest ≡ whole
onto_left old new whole one rest grew so_far = onto old new (new ++ page_text rest) one rest grew refl ∙ so_far

-- one of the pieces that are repeated is written
pub repeated_more : (n : ℕ) (it old new whole : List ℕ) → 0 < n → new ≡ old ++ page_text (Tag it ∷ []) → old ++ page_text (repeated n it) ≡ whole → new ++ page_text (repeated (n - 1) it) ≡ whole
repeated_more zero it old new whole more grew so_far = absurd (omega (arith, more))
repeated_more (suc n) it old new whole more grew so_far =
    let fewer : suc n - 1 ≡ n = omega arith in
    ap (λ left. new ++ page_text (repeated left it)) fewer ∙ onto_left old new whole (Tag it ∷ []) (repeated n it) grew so_far

-- all of them are
pub repeated_end : (n : ℕ) (it page whole : List ℕ) → n ≡ 0 → page ++ page_text (repeated n it) ≡ whole → page ≡ whole
repeated_end n it page whole none so_far = page_nothing page ∙ sym (ap (λ left. page ++ page_text (repeated left it)) none) ∙ so_far

-- a line without its end
pub without_end : (text empty line left : List ℕ) → empty ≡ [] → line ≡ empty ++ (text ++ 10 ∷ []) → left ≡ take (length line - 1) line → left ≡ text
without_end text empty line left none is rest =
    let whole : line ≡ text ++ 10 ∷ [] = is ∙ ap (λ first. first ++ (text ++ 10 ∷ [])) none in
    rest ∙ ap (λ it. take (length it - 1) it) whole ∙ take_at text (10 ∷ []) (length (text ++ 10 ∷ []) - 1) (omega (arith, length_push text 10))

-- ---- marks

-- a digit is none
digit_no_mark : (n : ℕ) → n < 10 → is_mark (48 + n) ≡ false
digit_no_mark n small =
    λ i. ne_eqb (48 + n) 60 (λ is. omega (arith, is, small)) i || (ne_eqb (48 + n) 62 (λ is. omega (arith, is, small)) i
    || (ne_eqb (48 + n) 34 (λ is. omega (arith, is, small)) i || ne_eqb (48 + n) 39 (λ is. omega (arith, is, small)) i))

digit_marks : (n : ℕ) → n < 10 → marks_of ((48 + n) ∷ []) ≡ []
digit_marks n small = ap (λ test. if test then (48 + n) ∷ [] else []) (digit_no_mark n small)

digits_marks : (n : ℕ) (digits : List ℕ) → marks_of digits ≡ [] → marks_of (digits ++ (48 + n % 10) ∷ []) ≡ []
digits_marks n digits none = filter-append is_mark digits ((48 + n % 10) ∷ []) ∙ (λ i. none i ++ digit_marks (n % 10) (omega arith) i)

number_marks : (n : ℕ) → n < 2 ^ 64 → marks_of (decimal n) ≡ []
number_marks n word = decimal_by_steps (λ n digits. marks_of digits ≡ []) digit_marks (λ n digits more none. digits_marks n digits none) n word

module _ (no_marks : (text : List ℕ) → marks_of (marked_text text) ≡ []) where
  -- of each piece, those of its markup
  piece_marks : (piece : Piece) → IsWord piece → marks_of (text_of piece) ≡ marks_of (markup_of piece)
  piece_marks (Tag it) word = refl
  piece_marks (Number number) word = number_marks number word
  piece_marks (Data text) word = no_marks (escaped_text text)

  pub marks_are : (pieces : List Piece) → AreWords pieces → marks_of (page_text pieces) ≡ marks_of (markup pieces)
  unfolding page_text
  marks_are [] words = refl
  marks_are (piece ∷ more) words =
      filter-append is_mark (text_of piece) (page_text more) ∙ (λ i. piece_marks piece words.0 i ++ marks_are more words.1 i) ∙ sym (filter-append is_mark (markup_of piece) (markup more))
