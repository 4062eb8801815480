-- What a commit adds to what a caller was shown.
use Rattle.std.proofs.Common.{◌≡◌, ℕ, max, ◌+◌, ◌≤◌, ◌<◌, ◌==◌, Bool, true, List, [], ◌∷◌, ◌++◌, length, All, MatchBool, Option, if◌then◌else◌, refl, sym, ap, subst, ◌∙◌, arith, eq-eqb, length-append}
use Rattle.std.proofs.lemmas.List.Elements.{All-append, All-cons, All-nil, All-weaker}
use Rattle.rls_engine.specs.rls_core.specs.Records.{Record}
use Rattle.rls_engine.specs.Stands.{Stand}
use Rattle.rls_engine.specs.Views.{Proof, Standing, Watch}
use Rattle.rls_engine.specs.Knows.{Learns, spent}
use Rattle.rls_engine.specs.Drafts.{IsReceiptOf}
use Rattle.rls_session.specs.Parts.{Block, Notes, Part, Shown, Tried, noted, part_of}
use Rattle.rls_session.specs.Blocks.{shows}

-- a fresh receipt of the tag is learnt, and counts
learnt : (old new : Watch) (r left : Proof) → Learns old r new left → r.tag ≡ old.tag → r.fresh ≡ true → (new ≡ record { tag = old.tag; number = max old.number r.number; told = old.told + 1 }) × (left ≡ spent r)
learnt old new r left learns same fresh =
    let tags : (old.tag == r.tag) ≡ true = eq-eqb old.tag r.tag (sym same) in
    let both = rw tags at learns in
    (both.0 ∙ (λ i. record { tag = old.tag; number = max old.number r.number; told = old.told + (if fresh i then 1 else 0) }), both.1)

-- what is kept of a commit is what it shows
kept_is : (heard : ℕ) (role : List ℕ) (stand : Stand) (r left : Proof) (place : Standing) → r.entry ≡ stand.running.so_far → left ≡ spent r → place.number ≡ left.number → place.entry ≡ left.entry → record { heard = heard; commit = place.number; part = part_of place.entry } ≡ shows (record { heard = heard; role = role; part = part_of stand.running.so_far }) r.number
kept_is heard role stand r left place entry spent_is number there =
    let number_is : place.number ≡ r.number = number ∙ ap (λ (p : Proof). p.number) spent_is in
    let entry_is : place.entry ≡ stand.running.so_far = there ∙ (ap (λ (p : Proof). p.entry) spent_is ∙ entry) in
    λ i. record { heard = heard; commit = number_is i; part = part_of (entry_is i) }

-- a commit is noted
pub commit_noted : (tag heard : ℕ) (role : List ℕ) (stand : Stand) (watch new : Watch) (r left : Proof) (place : Standing) (kept room pushed : List Shown) (terse : Bool) (ended : Option Part) (tried : Option (List Tried)) → IsReceiptOf tag stand r → tag ≡ watch.tag → Learns watch r new left → place.number ≡ left.number → place.entry ≡ left.entry → room ≡ kept → pushed ≡ room ++ record { heard = heard; commit = place.number; part = part_of place.entry } ∷ []
    → record { tag = new.tag; newest = new.number; told = new.told; shown = pushed; terse = terse; ended = ended; tried = tried } ≡ noted (record { tag = watch.tag; newest = watch.number; told = watch.told; shown = kept; terse = terse; ended = ended; tried = tried }) (shows (record { heard = heard; role = role; part = part_of stand.running.so_far }) r.number ∷ [])
commit_noted tag heard role stand watch new r left place kept room pushed terse ended tried receipt same learns number there room_is pushed_is =
    let both = learnt watch new r left learns (receipt.tag_is ∙ same) receipt.fresh in
    let one = kept_is heard role stand r left place receipt.entry both.1 number there in
    let all : pushed ≡ kept ++ shows (record { heard = heard; role = role; part = part_of stand.running.so_far }) r.number ∷ [] = pushed_is ∙ (ap (λ (xs : List Shown). xs ++ record { heard = heard; commit = place.number; part = part_of place.entry } ∷ []) room_is ∙ ap (λ (x : Shown). kept ++ x ∷ []) one) in
    λ i. record { tag = (both.0 i).tag; newest = (both.0 i).number; told = (both.0 i).told; shown = all i; terse = terse; ended = ended; tried = tried }

-- and then as many receipts count as are kept, of commits that are known
pub commit_kept : (tag heard : ℕ) (stand : Stand) (watch new : Watch) (r left : Proof) (place : Standing) (kept room pushed : List Shown) → IsReceiptOf tag stand r → tag ≡ watch.tag → Learns watch r new left → place.number ≡ left.number → room ≡ kept → pushed ≡ room ++ record { heard = heard; commit = place.number; part = part_of place.entry } ∷ [] → (watch.told ≡ length kept) × All (λ (it : Shown). it.commit ≤ watch.number) kept
    → (new.told ≡ length pushed) × All (λ (it : Shown). it.commit ≤ new.number) pushed
commit_kept tag heard stand watch new r left place kept room pushed receipt same learns number room_is pushed_is holds =
    let both = learnt watch new r left learns (receipt.tag_is ∙ same) receipt.fresh in
    let told : new.told ≡ watch.told + 1 = ap (λ (w : Watch). w.told) both.0 in
    let newest : new.number ≡ max watch.number r.number = ap (λ (w : Watch). w.number) both.0 in
    let number_is : place.number ≡ r.number = number ∙ ap (λ (p : Proof). p.number) both.1 in
    let one : Shown = record { heard = heard; commit = place.number; part = part_of place.entry } in
    let all : pushed ≡ kept ++ one ∷ [] = pushed_is ∙ ap (λ (xs : List Shown). xs ++ one ∷ []) room_is in
    let count : length pushed ≡ length kept + 1 = ap length all ∙ length-append kept (one ∷ []) in
    let olds : All (λ (it : Shown). it.commit ≤ new.number) kept = All-weaker (λ (it : Shown). it.commit ≤ watch.number) (λ (it : Shown). it.commit ≤ new.number) (λ it le. omega (arith, le, newest)) kept holds.1 in
    let last : All (λ (it : Shown). it.commit ≤ new.number) (one ∷ []) = All-cons (λ (it : Shown). it.commit ≤ new.number) one [] (omega (arith, number_is, newest)) (All-nil (λ (it : Shown). it.commit ≤ new.number)) in (
      omega (arith, told, count, holds.0),
      subst (λ (xs : List Shown). All (λ (it : Shown). it.commit ≤ new.number) xs) (sym all) (All-append (λ (it : Shown). it.commit ≤ new.number) kept (one ∷ []) olds last),
    )

-- the receipt without its share
pub commit_spent : (tag : ℕ) (stand : Stand) (watch new : Watch) (r left : Proof) → IsReceiptOf tag stand r → tag ≡ watch.tag → Learns watch r new left → left ≡ spent r
commit_spent tag stand watch new r left receipt same learns = (learnt watch new r left learns (receipt.tag_is ∙ same) receipt.fresh).1
