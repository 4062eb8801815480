-- The JSON of refusals: the number, and what is said of it.
use Rattle.std.specs.Prelude.{◌≡◌, ℕ, List, Bool, true, false, Some, None, codes}
use Rattle.std.proofs.Common.{◌⊎◌, inl, inr, refl, ap, arith}
use Rattle.serde_json.specs.Data.{no_items}
use Rattle.rls_value.specs.{declared.verb.Privilege.Privilege, declared.verb.Kind.Kind, declared.tag.Tag.Tag, declared.refusal.Limit.Limit, declared.refusal.NameKind.NameKind, declared.refusal.DefinedKind.DefinedKind, declared.refusal.TxnState.TxnState, declared.refusal.Why.Why, declared.refusal.GrantFault.GrantFault, declared.refusal.Refusal.Refusal}
use Rattle.rls_value.specs.declared.refusal.TxnState.TheVariants as t
use Rattle.rls_value.specs.declared.refusal.Why.TheVariants as w
use Rattle.rls_value.specs.declared.refusal.GrantFault.TheVariants as g
use Rattle.rls_value.specs.declared.refusal.Refusal.TheVariants as r
use Rattle.rls_codec.specs.Looking.{by_word, by_number}
use Rattle.rls_codec.specs.Codec.{Codec, Rest, Choice}
use Rattle.rls_codec.specs.Codecs.{parsed}
use Rattle.rls_codec.specs.Arrays.{part, no_more, choice, no_choice, chosen, tuple, rest_via}
use Rattle.rls_audit_lines.specs.NameCodecs.{name}
use Rattle.rls_audit_lines.specs.WordCodecs.{privilege, kind, tag, no_text, limit, name_kind, defined_kind}

-- a name as the last item
abbrev pub name_item : Rest (List ℕ × Unit {0})
name_item = part name no_more

-- an empty text as the last item
abbrev pub empty_item : Rest (Unit {0} × Unit {0})
empty_item = part no_text no_more

-- ---- what the transaction's state doesn't allow

-- the state, as one of its shapes
abbrev pub StateShape : Type 0
StateShape = (Unit {0} × Unit {0}) ⊎ ((Unit {0} × Unit {0}) ⊎ ((Unit {0} × Unit {0}) ⊎ ((Tag × Unit {0}) ⊎ ⊥)))

abbrev pub state_to : TxnState → StateShape
state_to t.AlreadyInProgress = inl (tt, tt)
state_to t.NoneInProgress = inr (inl (tt, tt))
state_to t.Over = inr (inr (inl (tt, tt)))
state_to (t.ReadOnly tag) = inr (inr (inr (inl (tag, tt))))

abbrev pub state_from : StateShape → TxnState
state_from (inl u) = t.AlreadyInProgress
state_from (inr (inl u)) = t.NoneInProgress
state_from (inr (inr (inl u))) = t.Over
state_from (inr (inr (inr (inl p)))) = t.ReadOnly p.0
state_from (inr (inr (inr (inr e)))) = absurd e

pub state_same : (s : TxnState) → state_from (state_to s) ≡ s
state_same t.AlreadyInProgress = refl
state_same t.NoneInProgress = refl
state_same t.Over = refl
state_same (t.ReadOnly _) = refl

-- its code, and the tag of what may not be done; else an empty text
abbrev pub state_behind : Rest TxnState
state_behind = rest_via state_to state_from state_same
    (chosen (choice (by_word (codes "25001")) empty_item (choice (by_word (codes "25P01")) empty_item
    (choice (by_word (codes "25P02")) empty_item (choice (by_word (codes "25006")) (part tag no_more) no_choice refl) refl) refl) refl))

-- ---- what is denied, and why

-- what is missing, as one of its shapes
abbrev pub WhyShape : Type 0
WhyShape = (Privilege × (List ℕ × Unit {0})) ⊎ ((List ℕ × Unit {0}) ⊎ ((List ℕ × Unit {0}) ⊎ ((List ℕ × Unit {0}) ⊎ ((Privilege × (List ℕ × Unit {0})) ⊎ ((List ℕ × (Kind × Unit {0})) ⊎ ((List ℕ × (List ℕ × Unit {0})) ⊎ ((Privilege × (List ℕ × (List ℕ × Unit {0}))) ⊎ ⊥)))))))

abbrev pub why_to : Why → WhyShape
why_to (w.Privilege privilege table) = inl (privilege, (table, tt))
why_to (w.Owner table) = inr (inl (table, tt))
why_to (w.Admin role) = inr (inr (inl (role, tt)))
why_to (w.SetRole role) = inr (inr (inr (inl (role, tt))))
why_to (w.GrantOption privilege table) = inr (inr (inr (inr (inl (privilege, (table, tt))))))
why_to (w.NoPermissive table kind) = inr (inr (inr (inr (inr (inl (table, (kind, tt)))))))
why_to (w.Restrictive policy table) = inr (inr (inr (inr (inr (inr (inl (policy, (table, tt))))))))
why_to (w.Column privilege table column) = inr (inr (inr (inr (inr (inr (inr (inl (privilege, (table, (column, tt))))))))))

abbrev pub why_from : WhyShape → Why
why_from (inl p) = w.Privilege p.0 p.1.0
why_from (inr (inl p)) = w.Owner p.0
why_from (inr (inr (inl p))) = w.Admin p.0
why_from (inr (inr (inr (inl p)))) = w.SetRole p.0
why_from (inr (inr (inr (inr (inl p))))) = w.GrantOption p.0 p.1.0
why_from (inr (inr (inr (inr (inr (inl p)))))) = w.NoPermissive p.0 p.1.0
why_from (inr (inr (inr (inr (inr (inr (inl p))))))) = w.Restrictive p.0 p.1.0
why_from (inr (inr (inr (inr (inr (inr (inr (inl p)))))))) = w.Column p.0 p.1.0 p.1.1.0
why_from (inr (inr (inr (inr (inr (inr (inr (inr e)))))))) = absurd e

pub why_same : (x : Why) → why_from (why_to x) ≡ x
why_same (w.Privilege _ table) = refl
why_same (w.Owner table) = refl
why_same (w.Admin role) = refl
why_same (w.SetRole role) = refl
why_same (w.GrantOption _ table) = refl
why_same (w.NoPermissive table _) = refl
why_same (w.Restrictive policy table) = refl
why_same (w.Column _ table column) = refl

-- nothing that is written or found
abbrev pub never : {A : Type 0} → Rest A
never = record { Fits = λ a. ⊥; written = λ a. no_items; found = λ n d. None; levels = 0; back = λ before a h. absurd h; plain = λ a. refl; flat = λ a. omega arith }

-- a privilege, a table and one of its columns; the first format has no grants on columns, and none that is missing
abbrev pub column_behind : Bool → Rest (Privilege × (List ℕ × (List ℕ × Unit {0})))
column_behind false = never
column_behind true = part privilege (part name name_item)

-- a word for what is missing, and the names
abbrev pub why_behind : Bool → Rest Why
why_behind second = rest_via why_to why_from why_same
    (chosen (choice (by_word (codes "Privilege")) (part privilege name_item) (choice (by_word (codes "Owner")) name_item
    (choice (by_word (codes "Admin")) name_item (choice (by_word (codes "SetRole")) name_item
    (choice (by_word (codes "GrantOption")) (part privilege name_item) (choice (by_word (codes "NoPermissive")) (part name (part kind no_more))
    (choice (by_word (codes "Restrictive")) (part name name_item) (choice (by_word (codes "Column")) (column_behind second) no_choice refl) refl) refl) refl) refl) refl) refl) refl))

-- ---- grants that may not be

-- the fault, as one of its shapes
abbrev pub FaultShape : Type 0
FaultShape = (List ℕ × (List ℕ × Unit {0})) ⊎ (Unit {0} ⊎ ((List ℕ × Unit {0}) ⊎ ⊥))

abbrev pub fault_to : GrantFault → FaultShape
fault_to (g.Cycle member role) = inl (member, (role, tt))
fault_to g.PublicOption = inr (inl tt)
fault_to (g.Back grantee) = inr (inr (inl (grantee, tt)))

abbrev pub fault_from : FaultShape → GrantFault
fault_from (inl p) = g.Cycle p.0 p.1.0
fault_from (inr (inl u)) = g.PublicOption
fault_from (inr (inr (inl p))) = g.Back p.0
fault_from (inr (inr (inr e))) = absurd e

pub fault_same : (x : GrantFault) → fault_from (fault_to x) ≡ x
fault_same (g.Cycle member role) = refl
fault_same g.PublicOption = refl
fault_same (g.Back grantee) = refl

-- a word for the fault, and the names
abbrev pub fault_behind : Rest GrantFault
fault_behind = rest_via fault_to fault_from fault_same
    (chosen (choice (by_word (codes "Cycle")) (part name name_item) (choice (by_word (codes "PublicOption")) no_more
    (choice (by_word (codes "Back")) name_item no_choice refl) refl) refl))

-- ---- refusals

-- an audit has no refusal of a text that is no statement, of a login or of a commit, and none of want of memory or of another engine
abbrev pub IsAudited : Refusal → Type 0
IsAudited r.NoMemory = ⊥
IsAudited r.Syntax = ⊥
IsAudited (r.NoLogin role) = ⊥
IsAudited (r.Serial cause) = ⊥
IsAudited r.Foreign = ⊥
IsAudited (r.BadAudit line) = ⊥
IsAudited _ = Unit {0}

-- a refusal, as one of its shapes
abbrev pub RefusalShape : Type 0
RefusalShape = (Limit × Unit {0}) ⊎ (TxnState ⊎ ((NameKind × (List ℕ × Unit {0})) ⊎ ((DefinedKind × (List ℕ × Unit {0})) ⊎ (Why ⊎ (GrantFault ⊎ (Unit {0} ⊎ (Unit {0} ⊎ ((List ℕ × Unit {0}) ⊎ ((List ℕ × Unit {0}) ⊎ ((List ℕ × Unit {0}) ⊎ ((List ℕ × Unit {0}) ⊎ ((List ℕ × Unit {0}) ⊎ ⊥))))))))))))

-- what is in no audit has no shape of its own
abbrev pub refusal_to : Refusal → RefusalShape
refusal_to (r.Limit limit) = inl (limit, tt)
refusal_to (r.TxnState state) = inr (inl state)
refusal_to (r.Undefined kind name) = inr (inr (inl (kind, (name, tt))))
refusal_to (r.Duplicate kind name) = inr (inr (inr (inl (kind, (name, tt)))))
refusal_to (r.Denied why) = inr (inr (inr (inr (inl why))))
refusal_to (r.GrantOp fault) = inr (inr (inr (inr (inr (inl fault)))))
refusal_to r.TypeFault = inr (inr (inr (inr (inr (inr (inl tt))))))
refusal_to r.Unsupported = inr (inr (inr (inr (inr (inr (inr (inl tt)))))))
refusal_to (r.Recursion table) = inr (inr (inr (inr (inr (inr (inr (inr (inl (table, tt)))))))))
refusal_to (r.Dependent table) = inr (inr (inr (inr (inr (inr (inr (inr (inr (inl (table, tt))))))))))
refusal_to (r.Range column) = inr (inr (inr (inr (inr (inr (inr (inr (inr (inr (inl (column, tt)))))))))))
refusal_to (r.NotNull column) = inr (inr (inr (inr (inr (inr (inr (inr (inr (inr (inr (inl (column, tt))))))))))))
refusal_to (r.Unique table) = inr (inr (inr (inr (inr (inr (inr (inr (inr (inr (inr (inr (inl (table, tt)))))))))))))
refusal_to _ = inr (inr (inr (inr (inr (inr (inl tt))))))

abbrev pub refusal_from : RefusalShape → Refusal
refusal_from (inl p) = r.Limit p.0
refusal_from (inr (inl state)) = r.TxnState state
refusal_from (inr (inr (inl p))) = r.Undefined p.0 p.1.0
refusal_from (inr (inr (inr (inl p)))) = r.Duplicate p.0 p.1.0
refusal_from (inr (inr (inr (inr (inl why))))) = r.Denied why
refusal_from (inr (inr (inr (inr (inr (inl fault)))))) = r.GrantOp fault
refusal_from (inr (inr (inr (inr (inr (inr (inl u))))))) = r.TypeFault
refusal_from (inr (inr (inr (inr (inr (inr (inr (inl u)))))))) = r.Unsupported
refusal_from (inr (inr (inr (inr (inr (inr (inr (inr (inl p))))))))) = r.Recursion p.0
refusal_from (inr (inr (inr (inr (inr (inr (inr (inr (inr (inl p)))))))))) = r.Dependent p.0
refusal_from (inr (inr (inr (inr (inr (inr (inr (inr (inr (inr (inl p))))))))))) = r.Range p.0
refusal_from (inr (inr (inr (inr (inr (inr (inr (inr (inr (inr (inr (inl p)))))))))))) = r.NotNull p.0
refusal_from (inr (inr (inr (inr (inr (inr (inr (inr (inr (inr (inr (inr (inl p))))))))))))) = r.Unique p.0
refusal_from (inr (inr (inr (inr (inr (inr (inr (inr (inr (inr (inr (inr (inr e))))))))))))) = absurd e

pub refusal_same : (x : Refusal) → IsAudited x → refusal_from (refusal_to x) ≡ x
refusal_same r.NoMemory h = absurd h
refusal_same r.Syntax h = absurd h
refusal_same (r.Limit _) h = refl
refusal_same (r.TxnState state) h = refl
refusal_same (r.NoLogin role) h = absurd h
refusal_same (r.Undefined _ _) h = refl
refusal_same (r.Duplicate _ _) h = refl
refusal_same r.TypeFault h = refl
refusal_same r.Unsupported h = refl
refusal_same (r.Recursion table) h = refl
refusal_same (r.Denied why) h = refl
refusal_same (r.GrantOp fault) h = refl
refusal_same (r.Dependent table) h = refl
refusal_same (r.Range column) h = refl
refusal_same (r.NotNull column) h = refl
refusal_same (r.Unique table) h = refl
refusal_same (r.Serial cause) h = absurd h
refusal_same r.Foreign h = absurd h
refusal_same (r.BadAudit line) h = absurd h

-- its number, and what is said of it
abbrev pub refusal_items : Bool → Rest RefusalShape
refusal_items second = chosen (choice (by_number 3) (part limit no_more) (choice (by_number 4) state_behind (choice (by_number 6) (part name_kind name_item)
    (choice (by_number 7) (part defined_kind name_item) (choice (by_number 11) (why_behind second) (choice (by_number 12) fault_behind
    (choice (by_number 8) no_more (choice (by_number 9) no_more (choice (by_number 10) name_item (choice (by_number 13) name_item
    (choice (by_number 14) name_item (choice (by_number 15) name_item (choice (by_number 16) name_item
    no_choice refl) refl) refl) refl) refl) refl) refl) refl) refl) refl) refl) refl) refl)

-- one that may be in an audit, whose names are names
abbrev pub FitsRefusal : Bool → Refusal → Type 0
FitsRefusal second x = IsAudited x × (refusal_items second).Fits (refusal_to x)

-- a refusal
abbrev pub refusal : Bool → Codec Refusal
refusal second = parsed (FitsRefusal second) refusal_to (λ s. Some (refusal_from s)) (tuple (refusal_items second)) (λ x h. h.1) (λ x h. ap (λ y. Some y) (refusal_same x h.0))
