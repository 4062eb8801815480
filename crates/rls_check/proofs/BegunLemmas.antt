-- Some audit begins with what was read: with it and the end behind it they are one, where that isn't read yet.
use Rattle.std.specs.Prelude.{◌≡◌, refl, ◌++◌, ◌^◌, ◌<◌, ◌≤◌, ℕ, suc, Bool, true, List, [], ◌∷◌, map, length, Option, Some, option_map, option_and_then, codes, decimal}
use Rattle.std.specs.List.{AllZip}
use Rattle.std.proofs.Common.{ap, sym, ◌∙◌, subst, arith, append-nil}
use Rattle.std.proofs.lemmas.Fmt.{IsAscii-decimal}
use Rattle.std.proofs.lemmas.List.Elements.{All-nil}
use Rattle.std.proofs.lemmas.Str.{IsUtf8-append, IsUtf8-from_ascii}
use Rattle.json.specs.Token.{Token}
use Rattle.json.specs.Json as json
use Rattle.json.specs.Lex.{tokens}
use Rattle.json.specs.Print.{quoted, ArePrintable}
use Rattle.json.specs.Tree as tree
use Rattle.json.specs.Tree.{json_tokens}
use Rattle.json.proofs.Printed.{Decimals.IsNumber-decimal, Tokens.tokens-print, Trees.value-json_tokens, Utf8.IsUtf8-are_ascii, Utf8.IsUtf8-quoted}
use Rattle.serde_json.specs.Data.{Num, unsigned, Data, number, array, object, no_items, member, no_members, put}
use Rattle.serde_json.specs.Read.{read, of_json, of_members, max_depth}
use Rattle.serde_json.specs.Written.{compact_text, outline}
use Rattle.serde_json.proofs.{Numbers.number_of-decimal, Texts.print-outline}
use Rattle.rls_codec.specs.Looking.{Anything}
use Rattle.rls_audit.specs.rls_audit_lines.specs.declared.lines.Shown.{Shown}
use Rattle.rls_audit.specs.rls_audit_lines.specs.declared.lines.Line.TheVariants.{Head, Txn, End}
use Rattle.rls_audit.specs.rls_audit_lines.specs.LineCodecs as codec
use Rattle.rls_check.specs.declared.form.Stage.{Stage}
use Rattle.rls_check.specs.declared.form.Stage.TheVariants as stage
use Rattle.rls_check.specs.declared.form.Form.{Form}
use Rattle.rls_check.specs.declared.audit.Reader.{Reader}
use Rattle.rls_check.specs.declared.converting.Converter.{Converter}
use Rattle.rls_check.specs.Wholes.{IsTextOf, BeginAudit, lines_at, IsReadAs, HasRead, HasConverted}
use Rattle.rls_check.proofs.KeepingLemmas.{zip_push}

-- ---- what is read of a text

-- what the JSON of a whole text stands for
abbrev whole_of : Option (json.Json × List Token) → Option Data
whole_of found = option_and_then of_json (option_and_then (λ (p : json.Json × List Token). json.if_last p.0 p.1) found)

-- what is written without floats is read
reads_text : (d : Data) → of_json (outline d) ≡ Some d → tree.depth (outline d) ≤ max_depth → ArePrintable (json_tokens (outline d)) → read (compact_text d) ≡ Some d
reads_text d is low printable =
    let cut : tokens (compact_text d) ≡ json_tokens (outline d) = ap tokens (sym (print-outline d)) ∙ tokens-print (json_tokens (outline d)) printable in
    ap whole_of (ap (json.value max_depth) (cut ∙ sym (append-nil (json_tokens (outline d)))) ∙ value-json_tokens (outline d) max_depth [] low) ∙ is

-- ---- the head

abbrev head_data : Data
head_data = object (member (codes "format") (number (unsigned 2)) no_members)

abbrev head_of : Option Num → Option Data
head_of found = option_map object (option_and_then (λ (d : Data). of_members json.no_members (put (codes "format") d no_members)) (option_map number found))

head_printable : ArePrintable (json_tokens (outline head_data))
unfolding ArePrintable
head_printable = (tt, (tt, (IsNumber-decimal 2 (omega arith), (tt, tt))))

head_reads : read (compact_text head_data) ≡ Some head_data
head_reads = reads_text head_data (ap head_of (number_of-decimal 2 (omega arith))) (omega arith) head_printable

head_means : IsTextOf true (compact_text head_data) Head
head_means = (
  IsUtf8-append (123 ∷ []) (quoted (codes "format") ++ (58 ∷ (decimal 2 ++ (125 ∷ [])))) (IsUtf8-are_ascii (123 ∷ []) refl)
      (IsUtf8-append (quoted (codes "format")) (58 ∷ (decimal 2 ++ (125 ∷ []))) (IsUtf8-quoted (codes "format") (IsUtf8-are_ascii (codes "format") refl))
      (IsUtf8-append (58 ∷ []) (decimal 2 ++ (125 ∷ [])) (IsUtf8-are_ascii (58 ∷ []) refl)
      (IsUtf8-append (decimal 2) (125 ∷ []) (IsUtf8-from_ascii (decimal 2) (IsAscii-decimal 2 (omega arith))) (IsUtf8-are_ascii (125 ∷ []) refl)))),
  (ap (option_and_then (codec.line true).found) head_reads ∙ (codec.line true).back Head (tt, tt), tt),
)

-- ---- the end of so many transactions, with no order

abbrev end_data : ℕ → Data
end_data n = object (member (codes "end") (number (unsigned n)) (member (codes "order") (array no_items) no_members))

abbrev end_of : Option Num → Option Data
end_of found = option_map object (option_and_then (λ (d : Data). of_members (json.member (codes "order") (json.array json.no_items) json.no_members) (put (codes "end") d no_members)) (option_map number found))

end_printable : (n : ℕ) → n < 2 ^ 64 → ArePrintable (json_tokens (outline (end_data n)))
unfolding ArePrintable
end_printable n h = (tt, (tt, (IsNumber-decimal n h, (tt, (tt, (tt, (tt, tt)))))))

end_reads : (n : ℕ) → n < 2 ^ 64 → read (compact_text (end_data n)) ≡ Some (end_data n)
end_reads n h = reads_text (end_data n) (ap end_of (number_of-decimal n h)) (omega arith) (end_printable n h)

abbrev behind_order : List ℕ
behind_order = 58 ∷ 91 ∷ 93 ∷ 125 ∷ []

abbrev behind_count : List ℕ
behind_count = 44 ∷ (quoted (codes "order") ++ behind_order)

end_means : (second : Bool) (n : ℕ) → n < 2 ^ 64 → IsTextOf second (compact_text (end_data n)) (End n [])
end_means second n h = (
  IsUtf8-append (123 ∷ []) (quoted (codes "end") ++ (58 ∷ (decimal n ++ behind_count))) (IsUtf8-are_ascii (123 ∷ []) refl)
      (IsUtf8-append (quoted (codes "end")) (58 ∷ (decimal n ++ behind_count)) (IsUtf8-quoted (codes "end") (IsUtf8-are_ascii (codes "end") refl))
      (IsUtf8-append (58 ∷ []) (decimal n ++ behind_count) (IsUtf8-are_ascii (58 ∷ []) refl)
      (IsUtf8-append (decimal n) behind_count (IsUtf8-from_ascii (decimal n) (IsAscii-decimal n h))
      (IsUtf8-append (44 ∷ []) (quoted (codes "order") ++ behind_order) (IsUtf8-are_ascii (44 ∷ []) refl)
      (IsUtf8-append (quoted (codes "order")) behind_order (IsUtf8-quoted (codes "order") (IsUtf8-are_ascii (codes "order") refl)) (IsUtf8-are_ascii behind_order refl)))))),
  (ap (option_and_then (codec.line second).found) (end_reads n h) ∙ (codec.line second).back (End n []) (tt, (All-nil Anything, tt)), tt),
)

-- ---- what was read, with what is missing behind it

zip_length : {A B : Type 0} (R : A → B → Type 0) (xs : List A) (ys : List B) → AllZip R xs ys → length xs ≡ length ys
zip_length R [] [] h = refl
zip_length R [] (y ∷ ys) h = absurd h
zip_length R (x ∷ xs) [] h = absurd h
zip_length R (x ∷ xs) (y ∷ ys) h = ap suc (zip_length R xs ys h.1)

map_length : {A B : Type 0} (f : A → B) (xs : List A) → length (map f xs) ≡ length xs
map_length f [] = refl
map_length f (x ∷ xs) = ap suc (map_length f xs)

no_texts : {A B : Type 0} (R : A → B → Type 0) (xs : List A) → AllZip R xs [] → xs ≡ []
no_texts R [] h = refl
no_texts R (x ∷ xs) h = absurd h

module _ (texts : List (List ℕ)) (second : Bool) (read' : List Shown) (order : List ℕ) (form : Form) (reads : IsReadAs texts second read' order form) where
  -- the lines at its stage
  lines_so : (at : Stage) → form.stage ≡ at → AllZip (IsTextOf second) texts (lines_at at read' order)
  lines_so at is = subst (λ (st : Stage). AllZip (IsTextOf second) texts (lines_at st read' order)) is reads.lines

  begun_all : form.stage ≡ stage.End → BeginAudit texts
  begun_all at = (
    [],
    (
      second,
      read',
      order,
      record {
        lines = subst (λ (ts : List (List ℕ)). AllZip (IsTextOf second) ts (lines_at stage.End read' order)) (sym (append-nil texts)) (lines_so stage.End at);
        in_turn = reads.in_turn;
      },
    ),
  )

  count_fits : (own : Bool) → form.stage ≡ stage.Inside own → length read' < 2 ^ 64
  count_fits own at =
      let all : length texts ≡ suc (length (map Txn read')) = zip_length (IsTextOf second) texts (Head ∷ map Txn read') (lines_so (stage.Inside own) at) in
      let many : length (map Txn read') ≡ length read' = map_length Txn read' in
      let lines = reads.count in
      let within = reads.within in omega (arith, all, many, lines, within)

  begun_inside : (own : Bool) → form.stage ≡ stage.Inside own → BeginAudit texts
  begun_inside own at = (
    compact_text (end_data (length read')) ∷ [],
    (
      second,
      read',
      [],
      record {
        lines = zip_push (IsTextOf second) texts (Head ∷ map Txn read') (compact_text (end_data (length read'))) (End (length read') []) (lines_so (stage.Inside own) at) (end_means second (length read') (count_fits own at));
        in_turn = reads.in_turn;
      },
    ),
  )

  begun_nothing : form.stage ≡ stage.Nothing → BeginAudit texts
  begun_nothing at =
      let none : texts ≡ [] = no_texts (IsTextOf second) texts (lines_so stage.Nothing at) in
      subst BeginAudit (sym none) (compact_text head_data ∷ compact_text (end_data 0) ∷ [], (true, [], [], record { lines = (head_means, (end_means true 0 (omega arith), tt)); in_turn = tt }))

  begun_at : (at : Stage) → form.stage ≡ at → BeginAudit texts
  begun_at stage.Nothing at = begun_nothing at
  begun_at (stage.Inside own) at = begun_inside own at
  begun_at stage.End at = begun_all at

  begun : BeginAudit texts
  begun = begun_at form.stage refl

-- with what a reader has read
pub read_begins : (texts : List (List ℕ)) (reader : Reader) → HasRead texts reader → BeginAudit texts
read_begins texts reader has = begun texts has.second has.read reader.order reader.form has.reads

-- and with what was converted
pub converted_begins : (texts written : List (List ℕ)) (converter : Converter) → HasConverted texts written converter → BeginAudit texts
converted_begins texts written converter has = begun texts has.second has.read has.order converter.form has.reads
