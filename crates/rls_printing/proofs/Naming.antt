-- Privileges as they are named, printed one behind another.
use Rattle.std.proofs.Common.{◌≡◌, ℕ, Bool, true, false, ◌||◌, List, [], ◌∷◌, ◌++◌, Option, Result, OnOk, refl, ap, sym, ◌∙◌, append_assoc}
use Rattle.std.specs.Prelude.{is_some, slice_get}
use Rattle.rls_value.specs.declared.verb.Privilege.{Privilege}
use Rattle.rls_statement.specs.{declared.privileges.Extent.Extent, declared.privileges.Privileges.Privileges, Extents.names_some}
use Rattle.rls_text.specs.{Values.NamedPrivilege, WaysBack.where_whole, WaysBack.naming, WaysBack.named_of}
use Rattle.rls_printing.specs.declared.buffer.Mark.TheVariants as m
use Rattle.rls_printing.specs.OutputTokens.{OutputToken, Marked}
use Rattle.rls_printing.specs.Outputs.{Output, put_all}
use Rattle.rls_printing.proofs.OutputLemmas.{on_same, put_on}
use Rattle.rls_printing.specs.StatementForms.{also, listed, listed_behind, named_privilege}

also_both : {A : Type 0} (form : A → List OutputToken) (xs ys : List A) → also form (xs ++ ys) ≡ also form xs ++ also form ys
also_both form [] ys = refl
also_both form (x ∷ xs) ys = ap (λ z. Marked m.Comma ∷ (form x ++ z)) (also_both form xs ys) ∙ ap (λ z. Marked m.Comma ∷ z) (sym (append_assoc (form x) (also form xs) (also form ys)))

-- two lists, where something stands before the second if it stands before the first, or that isn't empty
listed_both : {A : Type 0} (before : Bool) (form : A → List OutputToken) (xs ys : List A)
    → listed_behind before form (xs ++ ys) ≡ listed_behind before form xs ++ listed_behind (before || is_some (slice_get xs 0)) form ys
listed_both true form xs ys = also_both form xs ys
listed_both false form [] ys = refl
listed_both false form (x ∷ xs) ys = ap (λ z. form x ++ z) (also_both form xs ys) ∙ sym (append_assoc (form x) (also form xs) (also form ys))

some_naming : (privilege : Privilege) (extent : Extent) → is_some (slice_get (naming privilege extent) 0) ≡ names_some extent
some_naming privilege extent = go extent.whole extent.columns
  where
    go : (whole : Bool) (columns : List (List ℕ)) → is_some (slice_get (naming privilege record { whole = whole; columns = columns }) 0) ≡ names_some record { whole = whole; columns = columns }
    go true columns = refl
    go false [] = refl
    go false (column ∷ columns) = refl

-- a privilege, and others
further : (before : Bool) (privilege : Privilege) (extent : Extent) (others : List NamedPrivilege) → listed_behind before named_privilege (naming privilege extent ++ others)
    ≡ listed_behind before named_privilege (naming privilege extent) ++ listed_behind (before || names_some extent) named_privilege others
further before privilege extent others =
    listed_both before named_privilege (naming privilege extent) others
    ∙ ap (λ z. listed_behind before named_privilege (naming privilege extent) ++ listed_behind (before || z) named_privilege others) (some_naming privilege extent)

-- all that are named
named_parts : (x : Privileges) → listed named_privilege (named_of x)
    ≡ listed_behind false named_privilege (naming Privilege.Select x.select) ++ (listed_behind (names_some x.select) named_privilege (naming Privilege.Insert x.insert)
    ++ (listed_behind (names_some x.select || names_some x.insert) named_privilege (naming Privilege.Update x.update)
    ++ listed_behind ((names_some x.select || names_some x.insert) || names_some x.update) named_privilege (where_whole Privilege.Delete x.delete)))
named_parts x =
    let delete = where_whole Privilege.Delete x.delete in
    let update = naming Privilege.Update x.update ++ delete in
    let insert = naming Privilege.Insert x.insert ++ update in
    further false Privilege.Select x.select insert
    ∙ ap (λ z. listed_behind false named_privilege (naming Privilege.Select x.select) ++ z)
    (further (names_some x.select) Privilege.Insert x.insert update
    ∙ ap (λ z. listed_behind (names_some x.select) named_privilege (naming Privilege.Insert x.insert) ++ z) (further (names_some x.select || names_some x.insert) Privilege.Update x.update delete))

-- all that are named; each is told whether something stands before it
pub named_put : {E : Type 0} (x : Privileges) (select insert update inserts updates : Bool) (s t u v w : Option Output) (r : Result (Unit {0}) E)
    → select ≡ names_some x.select → inserts ≡ names_some x.insert → insert ≡ (select || inserts) → updates ≡ names_some x.update → update ≡ (insert || updates)
    → put_all s (listed_behind false named_privilege (naming Privilege.Select x.select)) ≡ t → put_all t (listed_behind select named_privilege (naming Privilege.Insert x.insert)) ≡ u
    → put_all u (listed_behind insert named_privilege (naming Privilege.Update x.update)) ≡ v → OnOk r (put_all v (listed_behind update named_privilege (where_whole Privilege.Delete x.delete)) ≡ w)
    → OnOk r (put_all s (listed named_privilege (named_of x)) ≡ w)
named_put x select insert update inserts updates s t u v w r one two three four five a b c d =
    let first = listed_behind false named_privilege (naming Privilege.Select x.select) in
    let second = listed_behind (names_some x.select) named_privilege (naming Privilege.Insert x.insert) in
    let third = listed_behind (names_some x.select || names_some x.insert) named_privilege (naming Privilege.Update x.update) in
    let last = listed_behind ((names_some x.select || names_some x.insert) || names_some x.update) named_privilege (where_whole Privilege.Delete x.delete) in
    let before_third : insert ≡ (names_some x.select || names_some x.insert) = three ∙ ap (λ z. z || inserts) one ∙ ap (λ z. names_some x.select || z) two in
    let before_last : update ≡ ((names_some x.select || names_some x.insert) || names_some x.update) = five ∙ ap (λ z. z || updates) before_third ∙ ap (λ z. (names_some x.select || names_some x.insert) || z) four in
    on_same r _ _ _ (ap (put_all s) (named_parts x))
    (put_on s first (second ++ (third ++ last)) t w r a
    (put_on t second (third ++ last) u w r (ap (λ z. put_all t (listed_behind z named_privilege (naming Privilege.Insert x.insert))) (sym one) ∙ b)
    (put_on u third last v w r (ap (λ z. put_all u (listed_behind z named_privilege (naming Privilege.Update x.update))) (sym before_third) ∙ c)
    (on_same r _ _ _ (ap (λ z. put_all v (listed_behind z named_privilege (where_whole Privilege.Delete x.delete))) (sym before_last)) d))))
