-- Members with their memberships, found and put by the member.
use Rattle.std.specs.Prelude.{◌≡◌, ◌<◌, ◌+◌, refl, ℕ, suc, List, [], ◌∷◌, ◌++◌, Option, Some, None, Bool, true, false, ◌||◌, cond, if◌then◌else◌, drop, get_or, length}
use Rattle.std.specs.List.{IsDistinct, AllByRecursion}
use Rattle.std.specs.Map.{keys_of, lookup}
use Rattle.std.specs.Borrow.{Bor}
use Rattle.std.specs.Option.{is_some, option_copied, option_map}
use Rattle.std.specs.Str.{bytes_eq}
use Rattle.std.proofs.Common.{ap, sym, subst, ◌∙◌, append-nil, append_assoc, arith}
use Rattle.std.proofs.Math.Seq.{drop-cons}
use Rattle.std.proofs.lemmas.Bool.{true≢false}
use Rattle.indexmap.specs.IndexMap.{insert_entry}
use Rattle.rls_source.specs.rls_value.specs.{Names.one_of, declared.object.Object.Object}
use Rattle.rls_source.specs.rls_catalog.specs.{declared.role.Membership.Membership, Membership.fresh, State.State, State.members_of}
use Rattle.rls_source.specs.rls_catalog.proofs.Walks.{bytes_same}
use Rattle.rls_role.specs.Granting.{granted_to, held_in, held_one, held_reads, joined}
use Rattle.rls_role.specs.Holdings.{held_as, held_under, members_in, memberships_as, with_memberships}
use Rattle.rls_role.specs.declared.holding.HeldMembership.{HeldMembership}
use Rattle.rls_role.proofs.NameSetLemmas.{mirrored}
use Rattle.rls_statement.specs.declared.statement.MembershipOptions.{MembershipOptions}

abbrev Under : Type 0
Under = List (List ℕ × List Membership)

-- the same member with these memberships
abbrev renewed : HeldMembership → List Membership → HeldMembership
renewed h memberships = record { member = h.member; memberships = memberships }

-- ---- entries of a map

found_if : (b : Bool) (h : HeldMembership) (found : Option (List Membership)) (rest : Option HeldMembership) → found ≡ option_map (λ h. h.memberships) rest
    → cond b (Some h.memberships) found ≡ option_map (λ h. h.memberships) (if b then Some h else rest)
found_if true h found rest is = refl
found_if false h found rest is = is

-- what is looked up under the member is what is listed for it
pub found_under : (entries : Under) (member : List ℕ) → lookup (bytes_eq member) entries ≡ memberships_as (held_under entries) member
found_under [] member = refl
found_under (e ∷ entries) member =
    found_if (bytes_eq member e.0) (record { member = e.0; memberships = e.1 }) (lookup (bytes_eq member) entries) (held_as (held_under entries) member) (found_under entries member)

-- its keys are the members
pub members_under : (entries : Under) → members_in (held_under entries) ≡ keys_of entries
members_under [] = refl
members_under (e ∷ entries) = ap (λ names. e.0 ∷ names) (members_under entries)

put_if : (b : Bool) (e : List ℕ × List Membership) (memberships : List Membership) (entries more : Under) (held : List HeldMembership) → held_under more ≡ held
    → held_under (if b then (e.0, memberships) ∷ entries else e ∷ more)
    ≡ (if b then (record { member = e.0; memberships = memberships }) ∷ held_under entries else (record { member = e.0; memberships = e.1 }) ∷ held)
put_if true e memberships entries more held is = refl
put_if false e memberships entries more held is = ap (λ rest. (record { member = e.0; memberships = e.1 }) ∷ rest) is

-- what is inserted under the member is put in its place
pub put_under : (entries : Under) (member : List ℕ) (memberships : List Membership) → held_under (insert_entry bytes_eq entries member memberships) ≡ with_memberships (held_under entries) member memberships
put_under [] member memberships = refl
put_under (e ∷ entries) member memberships =
    put_if (bytes_eq member e.0) e memberships entries (insert_entry bytes_eq entries member memberships) (with_memberships (held_under entries) member memberships) (put_under entries member memberships)

-- ---- one membership more

none_if : (b : Bool) (h : HeldMembership) (rest : Option HeldMembership) → option_map (λ h. h.memberships) (if b then Some h else rest) ≡ None → (b ≡ false) × (option_map (λ h. h.memberships) rest ≡ None)
none_if true h rest is = cc
none_if false h rest is = (refl, is)

-- where the member isn't listed, all stays
pub joined_by_none : (written : MembershipOptions) (role member : List ℕ) (held : List HeldMembership) → memberships_as held member ≡ None → held ≡ joined written role member held
joined_by_none written role member [] none = refl
joined_by_none written role member (h ∷ held) none =
    let parts = none_if (bytes_eq member h.member) h (held_as held member) none in
    (λ i. (if sym (mirrored h.member member ∙ parts.0) i then renewed h (granted_to written role h.memberships) else h) ∷ joined_by_none written role member held parts.1 i)

apart_none : (member : List ℕ) (held : List HeldMembership) → AllByRecursion (λ y. bytes_eq member y ≡ false) (members_in held) → memberships_as held member ≡ None
apart_none member [] apart = refl
apart_none member (h ∷ held) apart = ap (λ b. option_map (λ h. h.memberships) (if b then Some h else held_as held member)) apart.0 ∙ apart_none member held apart.1

joined_if : (b : Bool) (written : MembershipOptions) (role member : List ℕ) (h : HeldMembership) (held : List HeldMembership) (memberships : List Membership) → bytes_eq member h.member ≡ b
    → AllByRecursion (λ y. bytes_eq h.member y ≡ false) (members_in held)
    → option_map (λ h. h.memberships) (if b then Some h else held_as held member) ≡ Some memberships
    → (memberships_as held member ≡ Some memberships → with_memberships held member (granted_to written role memberships) ≡ joined written role member held)
    → (if b then renewed h (granted_to written role memberships) ∷ held else h ∷ with_memberships held member (granted_to written role memberships))
    ≡ (if b then renewed h (granted_to written role h.memberships) else h) ∷ joined written role member held
joined_if true written role member h held memberships is apart found further =
    let listed : h.memberships ≡ memberships = cc in
    let none : memberships_as held member ≡ None = subst (λ name. memberships_as held name ≡ None) (sym (bytes_same member h.member is)) (apart_none h.member held apart) in
    (λ i. renewed h (granted_to written role (sym listed i)) ∷ joined_by_none written role member held none i)
joined_if false written role member h held memberships is apart found further = ap (λ rest. h ∷ rest) (further found)

-- the member's memberships with one more, in their place
pub joined_put : (written : MembershipOptions) (role member : List ℕ) (held : List HeldMembership) (memberships : List Membership) → IsDistinct bytes_eq (members_in held)
    → memberships_as held member ≡ Some memberships → with_memberships held member (granted_to written role memberships) ≡ joined written role member held
unfolding IsDistinct
joined_put written role member [] memberships distinct found = cc
joined_put written role member (h ∷ held) memberships distinct found =
    joined_if (bytes_eq member h.member) written role member h held memberships refl distinct.0 found (joined_put written role member held memberships distinct.1)
    ∙ ap (λ b. (if b then renewed h (granted_to written role h.memberships) else h) ∷ joined written role member held) (mirrored member h.member)

-- ---- one member more

listed_if : (b : Bool) (h : HeldMembership) (rest : Option HeldMembership) (others : Bool) → is_some (option_map (λ h. h.memberships) rest) ≡ others
    → is_some (option_map (λ h. h.memberships) (if b then Some h else rest)) ≡ (b || others)
listed_if true h rest others is = refl
listed_if false h rest others is = is

-- who is listed is among the members
pub is_listed : (held : List HeldMembership) (member : List ℕ) → is_some (memberships_as held member) ≡ one_of (members_in held) member
is_listed [] member = refl
is_listed (h ∷ held) member =
    listed_if (bytes_eq member h.member) h (held_as held member) (one_of (members_in held) member) (is_listed held member)
    ∙ ap (λ b. b || one_of (members_in held) member) (mirrored member h.member)

new_if : (b : Bool) (h : HeldMembership) (held put more : List HeldMembership) → b ≡ false → put ≡ held ++ more → (if b then put else h ∷ put) ≡ h ∷ held ++ more
new_if true h held put more none is = absurd (true≢false none)
new_if false h held put more none is = ap (λ rest. h ∷ rest) is

-- who isn't listed comes behind the others
pub put_new : (held : List HeldMembership) (member : List ℕ) (memberships : List Membership) → memberships_as held member ≡ None
    → with_memberships held member memberships ≡ held ++ (record { member = member; memberships = memberships }) ∷ []
put_new [] member memberships none = refl
put_new (h ∷ held) member memberships none =
    let parts = none_if (bytes_eq member h.member) h (held_as held member) none in
    ap (λ b. if b then renewed h memberships ∷ held else h ∷ with_memberships held member memberships) parts.0
    ∙ ap (λ rest. h ∷ rest) (put_new held member memberships parts.1)

-- what is found is there as what is listed
pub copied_some : {X : Type 0} (found : Option (Bor X)) → is_some found ≡ is_some (option_copied found)
copied_some (Some x) = refl
copied_some None = refl

none_from : {X : Type 0} (found : Option X) → is_some found ≡ false → found ≡ None
none_from (Some x) is = absurd (true≢false is)
none_from None is = refl

-- who is found is among the members
pub found_among : (held : List HeldMembership) (member : List ℕ) (found : Option (List Membership)) → found ≡ memberships_as held member → is_some found ≡ true → one_of (members_in held) member ≡ true
found_among held member found is there = sym (is_listed held member) ∙ ap is_some (sym is) ∙ there

-- and who isn't found isn't
pub missed_among : (held : List HeldMembership) (member : List ℕ) (found : Option (List Membership)) → found ≡ memberships_as held member → is_some found ≡ false → one_of (members_in held) member ≡ false
missed_among held member found is missed = sym (is_listed held member) ∙ ap is_some (sym is) ∙ missed

-- nobody comes where the member is there
pub none_comes : (held : List HeldMembership) (member : List ℕ) → one_of (members_in held) member ≡ true → [] ≡ fresh (members_in held) (member ∷ [])
none_comes held member there = ap (λ b. if b then [] else (member ∷ [])) (sym there)

-- else it does
pub one_comes : (held : List HeldMembership) (member : List ℕ) → one_of (members_in held) member ≡ false → member ∷ [] ≡ fresh (members_in held) (member ∷ [])
one_comes held member missed = ap (λ b. if b then [] else (member ∷ [])) (sym missed)

-- it stands behind the others then
pub comes_behind : (s : State) (held grown : List HeldMembership) (member : List ℕ) (memberships : List Membership) (found : Option (List Membership)) → found ≡ memberships_as held member → is_some found ≡ false
    → memberships ≡ members_of s member → grown ≡ with_memberships held member memberships → grown ≡ held ++ held_in s (fresh (members_in held) (member ∷ []))
comes_behind s held grown member memberships found is missed are put =
    put ∙ ap (with_memberships held member) are ∙ put_new held member (members_of s member) (sym is ∙ none_from found missed)
    ∙ ap (λ names. held ++ held_in s names) (one_comes held member (missed_among held member found is missed))

-- ---- the members of a statement, one after another

-- what is left of a list begins with what stands there
pub drop_next : {X : Type 0} (xs : List X) (i : ℕ) (x : X) → i < length xs → x ≡ get_or xs i x → drop i xs ≡ x ∷ drop (i + 1) xs
drop_next xs i x within is = drop-cons xs i x within ∙ (λ j. sym is j ∷ drop (next j) xs)
  where
    next : suc i ≡ i + 1
    next = omega arith

members_more : (s : State) (held : List HeldMembership) (names : List (List ℕ)) → members_in (held ++ held_in s names) ≡ members_in held ++ names
members_more s [] [] = refl
members_more s [] (name ∷ names) = ap (λ rest. name ∷ rest) (members_more s [] names)
members_more s (h ∷ held) names = ap (λ rest. h.member ∷ rest) (members_more s held names)

fresh_if : (b : Bool) (seen : List (List ℕ)) (name : List ℕ) (names : List (List ℕ))
    → (if b then fresh seen names else name ∷ fresh (seen ++ name ∷ []) names) ≡ (if b then [] else (name ∷ [])) ++ fresh (seen ++ (if b then [] else (name ∷ []))) names
fresh_if true seen name names = ap (λ all. fresh all names) (sym (append-nil seen))
fresh_if false seen name names = refl

-- the first of some names, unless it was seen, then the others that weren't
pub fresh_next : (s : State) (held grown : List HeldMembership) (name : List ℕ) (names : List (List ℕ)) → grown ≡ held ++ held_in s (fresh (members_in held) (name ∷ []))
    → fresh (members_in held) (name ∷ names) ≡ fresh (members_in held) (name ∷ []) ++ fresh (members_in grown) names
fresh_next s held grown name names grows =
    fresh_if (one_of (members_in held) name) (members_in held) name names
    ∙ ap (λ all. fresh (members_in held) (name ∷ []) ++ fresh all names) (sym (ap members_in grows ∙ members_more s held (fresh (members_in held) (name ∷ []))))

held_both : (s : State) (names more : List (List ℕ)) → held_in s names ++ held_in s more ≡ held_in s (names ++ more)
held_both s [] more = refl
held_both s (name ∷ names) more = ap (λ rest. held_one s name ∷ rest) (held_both s names more)

reads_both : (names more : List (List ℕ)) → held_reads names ++ held_reads more ≡ held_reads (names ++ more)
reads_both [] more = refl
reads_both (name ∷ names) more = ap (λ rest. Object.Members name ∷ rest) (reads_both names more)

-- who is held then, and who comes still
pub held_next : (s : State) (held grown : List HeldMembership) (names more rest : List (List ℕ)) → grown ≡ held ++ held_in s names → rest ≡ names ++ more → grown ++ held_in s more ≡ held ++ held_in s rest
held_next s held grown names more rest grows is =
    ap (λ all. all ++ held_in s more) grows ∙ append_assoc held (held_in s names) (held_in s more) ∙ ap (λ all. held ++ all) (held_both s names more ∙ ap (held_in s) (sym is))

-- what is noted then, and what comes still
pub noted_next : (noted grown : List Object) (names more rest : List (List ℕ)) → grown ≡ noted ++ held_reads names → rest ≡ names ++ more → grown ++ held_reads more ≡ noted ++ held_reads rest
noted_next noted grown names more rest grows is =
    ap (λ all. all ++ held_reads more) grows ∙ append_assoc noted (held_reads names) (held_reads more) ∙ ap (λ all. noted ++ all) (reads_both names more ∙ ap held_reads (sym is))
