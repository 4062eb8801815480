-- What is written of a book, line by line.
use Rattle.std.proofs.Common.{◌≡◌, refl, ◌+◌, ◌<◌, ◌++◌, ◌∷◌, [], ℕ, suc, true, List, length, drop, get_or, ap, sym, ◌∙◌, subst, append_assoc, append-nil, arith, Some, Result, Ok, Err, IfOk}
use Rattle.std.proofs.Math.Seq.{drop-cons}
use Rattle.std.proofs.lemmas.List.Elements.{All-get_or}
use Rattle.std.specs.List.{All, AllZip}
use Rattle.rls_check.specs.rls_audit.specs.rls_audit_lines.specs.declared.lines.Line.{Line}
use Rattle.rls_check.specs.rls_audit.specs.rls_audit_lines.specs.declared.lines.Line.TheVariants as line
use Rattle.rls_check.specs.rls_audit.specs.Lines as shown
use Rattle.rls_check.specs.rls_audit.specs.rls_audit_lines.specs.Reading.{line_found, line_text}
use Rattle.rls_check.specs.rls_audit.specs.Shows.{Means, ShowsLine}
use Rattle.rls_check.specs.rls_audit.specs.Showing.{AreTexts}
use Rattle.rls_check.specs.rls_audit.specs.rls_core.specs.{Events.World, Headline.AreExplained, Headline.HaveOrder, Seen.world_of}
use Rattle.rls_laws.specs.Spelled.{StatementsAreTexts}
use Rattle.rls_session.specs.{declared.script.Ran.Ran, rls_engine.specs.Views.Closed, rls_script.specs.Spelled.IsSpellable}
use Rattle.rlsdb.specs.AuditLines.{WritesLine, WritesTexts, ended_lines}

-- a line that is read back and shows something means it
abbrev LinesMean : Type 0
LinesMean = (line : Line) (it : shown.Line) → line_found true (line_text line) ≡ Some line → ShowsLine line it → Means true (line_text line) it

-- a line in front of lines
next : LinesMean → (line : Line) (it : shown.Line) (texts : List (List ℕ)) (lines : List shown.Line) (before between after : List ℕ) → ShowsLine line it → WritesLine line before between → WritesTexts texts lines between after
    → WritesTexts (line_text line ∷ texts) (it ∷ lines) before after
next law line it texts lines before between after shows writes more = record {
  grew = more.grew ∙ (ap (λ (front : List ℕ). front ++ ended_lines texts) writes.grew ∙ append_assoc before (line_text line ++ (10 ∷ [])) (ended_lines texts));
  means = (law line it writes.found shows, more.means);
}

-- no lines
pub ended : (texts : List (List ℕ)) (lines : List shown.Line) (bytes : List ℕ) → texts ≡ [] → lines ≡ [] → WritesTexts texts lines bytes bytes
ended texts lines bytes is are = subst (λ ts. WritesTexts ts lines bytes bytes) (sym is) (subst (λ ls. WritesTexts [] ls bytes bytes) (sym are) (record { grew = sym (append-nil bytes); means = tt }))

ended_append : (one other : List (List ℕ)) → ended_lines (one ++ other) ≡ ended_lines one ++ ended_lines other
ended_append [] other = refl
ended_append (t ∷ one) other = ap (λ (rest : List ℕ). (t ++ (10 ∷ [])) ++ rest) (ended_append one other) ∙ sym (append_assoc (t ++ (10 ∷ [])) (ended_lines one) (ended_lines other))

zip_append : {A B : Type 0} (R : A → B → Type 0) (xs us : List A) (ys vs : List B) → AllZip R xs ys → AllZip R us vs → AllZip R (xs ++ us) (ys ++ vs)
zip_append R [] us [] vs h k = k
zip_append R [] us (y ∷ ys) vs h k = absurd h
zip_append R (x ∷ xs) us [] vs h k = absurd h
zip_append R (x ∷ xs) us (y ∷ ys) vs h k = (h.0, zip_append R xs us ys vs h.1 k)

-- lines behind lines
joined : (one other : List (List ℕ)) (lines more : List shown.Line) (before middle after : List ℕ) → WritesTexts one lines before middle → WritesTexts other more middle after → WritesTexts (one ++ other) (lines ++ more) before after
joined one other lines more before middle after writes rest = record {
  grew = rest.grew ∙ (ap (λ (front : List ℕ). front ++ ended_lines other) writes.grew ∙ (append_assoc before (ended_lines one) (ended_lines other) ∙ ap (λ (all : List ℕ). before ++ all) (sym (ended_append one other))));
  means = zip_append (Means true) one other lines more writes.means rest.means;
}

-- what shows the end is it
end_is : (end : Line) (n : ℕ) (numbers : List ℕ) → ShowsLine end (shown.End n numbers) → end ≡ line.End n numbers
end_is line.Head n numbers h = absurd h
end_is (line.Txn it) n numbers h = absurd h
end_is (line.End count order) n numbers h = ap (λ (m : ℕ). line.End m order) h.0 ∙ ap (line.End n) h.1

-- the head, lines behind it, and the end
pub whole : LinesMean → (n : ℕ) (numbers : List ℕ) (texts : List (List ℕ)) (lines : List shown.Line) (end : Line) (before one two after : List ℕ) → WritesLine line.Head before one → WritesTexts texts lines one two → ShowsLine end (shown.End n numbers) → WritesLine end two after
    → WritesTexts (line_text line.Head ∷ (texts ++ (line_text (line.End n numbers) ∷ []))) (shown.Head ∷ (lines ++ (shown.End n numbers ∷ []))) before after
whole law n numbers texts lines end before one two after writes more is_end ends =
    let last : WritesLine (line.End n numbers) two after = subst (λ (it : Line). WritesLine it two after) (end_is end n numbers is_end) ends in
    next law line.Head shown.Head (texts ++ (line_text (line.End n numbers) ∷ [])) (lines ++ (shown.End n numbers ∷ [])) before one after tt writes
    (joined texts (line_text (line.End n numbers) ∷ []) lines (shown.End n numbers ∷ []) one two after more
    (next law (line.End n numbers) (shown.End n numbers) [] [] two after after (refl, refl) last (ended [] [] after refl refl)))

-- the line of one of the records in front of those of the records behind it, however records are shown and written
pub led : LinesMean → {A : Type 0} (P : A → Type 0) (first : ℕ → A → shown.Line) (written : ℕ → A → Line) (lines : ℕ → List A → List shown.Line) (texts : ℕ → List A → List (List ℕ))
    → ((n : ℕ) (it : A) (more : List A) → lines n (it ∷ more) ≡ first n it ∷ lines (suc n) more) → ((n : ℕ) (it : A) (more : List A) → texts n (it ∷ more) ≡ line_text (written n it) ∷ texts (suc n) more)
    → (records : List A) (place : ℕ) (it : A) (line : Line) (before between after : List ℕ) → place < length records → it ≡ get_or records place it → All P records → (P it → ShowsLine line (first (place + 1) it)) → line ≡ written (place + 1) it → WritesLine line before between
    → WritesTexts (texts (suc (place + 1)) (drop (place + 1) records)) (lines (suc (place + 1)) (drop (place + 1) records)) between after → WritesTexts (texts (suc place) (drop place records)) (lines (suc place) (drop place records)) before after
led law P first written lines texts cut parted records place it line before between after below is holds shows same writes more =
    subst (λ left. WritesTexts (texts (suc place) left) (lines (suc place) left) before after) (sym (drop-cons records place it below))
    (subst (λ now. WritesTexts (texts (suc place) (now ∷ drop (suc place) records)) (lines (suc place) (now ∷ drop (suc place) records)) before after) is
    (subst (λ n. WritesTexts (texts n (it ∷ drop n records)) (lines n (it ∷ drop n records)) before after) later
    (subst (λ ts. WritesTexts ts (lines (place + 1) (it ∷ drop (place + 1) records)) before after) (sym (parted (place + 1) it (drop (place + 1) records)))
    (subst (λ ls. WritesTexts (line_text (written (place + 1) it) ∷ texts (suc (place + 1)) (drop (place + 1) records)) ls before after) (sym (cut (place + 1) it (drop (place + 1) records)))
    (subst (λ (l : Line). WritesTexts (line_text l ∷ texts (suc (place + 1)) (drop (place + 1) records)) (first (place + 1) it ∷ lines (suc (place + 1)) (drop (place + 1) records)) before after) same
    (next law line (first (place + 1) it) (texts (suc (place + 1)) (drop (place + 1) records)) (lines (suc (place + 1)) (drop (place + 1) records)) before between after (shows (subst P (sym is) (All-get_or P records place it below holds))) writes more))))))
  where
    later : place + 1 ≡ suc place
    later = omega arith

-- ---- texts spell what is recorded

-- where an order explains the records, if this law holds
pub texts_of : {E : Type 0} (r : Result Closed E) → ((world : World) → HaveOrder world → AreExplained world → All StatementsAreTexts world.committed → All AreTexts world.committed)
    → IfOk r (λ book. HaveOrder (world_of book.seen)) → IfOk r (λ book. AreExplained (world_of book.seen)) → IfOk r (λ book. All (λ it. All IsSpellable it.statements) book.seen.committed) → IfOk r (λ book. All AreTexts book.seen.committed)
texts_of (Ok book) law have explained told = law (world_of book.seen) have explained told
texts_of (Err e) law have explained told = tt

-- the same of a run with its attempts
pub kept_texts_of : {E : Type 0} (r : Result Ran E) → ((world : World) → HaveOrder world → AreExplained world → All StatementsAreTexts world.committed → All AreTexts world.committed)
    → IfOk r (λ ran. HaveOrder (world_of ran.book.seen)) → IfOk r (λ ran. AreExplained (world_of ran.book.seen)) → IfOk r (λ ran. All (λ it. All IsSpellable it.statements) ran.book.seen.committed) → IfOk r (λ ran. All AreTexts ran.book.seen.committed)
kept_texts_of (Ok ran) law have explained told = law (world_of ran.book.seen) have explained told
kept_texts_of (Err e) law have explained told = tt
