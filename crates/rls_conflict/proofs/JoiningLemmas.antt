-- Keys stay unique: where the rows of a transaction's state and those of the committed one are sound, and nothing that the
-- transaction changed was written by one that committed since its snapshot, the rows of both together are sound.
use Rattle.std.specs.Prelude.{◌≡◌, refl, ℕ, List, [], Option, Some, None, true, not, map, ◌⊎◌}
use Rattle.std.proofs.Common.{ap, sym, subst, ◌∙◌, inl, inr}
use Rattle.std.proofs.lemmas.Option.{none-some}
use Rattle.rls_value.specs.{declared.row.RowId.RowId, Values.value_at}
use Rattle.rls_value.specs.declared.object.Object.TheVariants as o
use Rattle.rls_catalog.specs.rls_expr.specs.declared.table.TableDef.{TableDef}
use Rattle.rls_catalog.specs.{declared.stored.Keyed.Keyed, declared.change.Change.Change}
use Rattle.rls_catalog.specs.State.{State, table_of, entries_of}
use Rattle.rls_catalog.specs.Bases.{Base, base_of, row_at}
use Rattle.rls_catalog.specs.SoundRows.{StandsAt, CarriesKey, KeysAreUnique, AreSound, AreSoundIn, RowsAreSound}
use Rattle.rls_catalog.proofs.InOrderLaws.{none_ascend}
use Rattle.rls_history.specs.States.{IsAmong}
use Rattle.rls_catalog.specs.Writes.{writes}
use Rattle.rls_catalog.specs.Contents.{Content, look, now_of}
use Rattle.rls_conflict.specs.Written.{is_no_key, write_one_object}
use Rattle.rls_conflict.proofs.RowLemmas.{found}
use Rattle.rls_conflict.specs.States.{InOrder, key_in, Outlasts, Lasts}
use Rattle.rls_conflict.specs.Laws.{SoundRowsJoin}
use Rattle.rls_conflict.proofs.AgreementLemmas.{same_entries}
use Rattle.rls_conflict.proofs.WritingLemmas.{write_shared, key_written, key_kept}

outlasts_self : (key : Option (List ℕ)) → Outlasts key key
outlasts_self (Some key) = refl
outlasts_self None = tt

outlasts_more : (key later last : Option (List ℕ)) → Outlasts key later → Outlasts later last → Outlasts key last
outlasts_more (Some key) later last a b = subst (λ k. Outlasts k last) a b
outlasts_more None later last a b = tt

pub lasts_self : (place : Base) (content : Content) → Lasts place content content
lasts_self place content = outlasts_self (key_in content)

pub lasts_more : (place : Base) (before content after : Content) → Lasts place before content → Lasts place content after → Lasts place before after
lasts_more place before content after a b = outlasts_more (key_in before) (key_in content) (key_in after) a b

empty_if : (found : Option TableDef) (rows : List (RowId × Keyed)) → found ≡ None → AreSoundIn found rows → rows ≡ []
empty_if None rows is sound = sound
empty_if (Some def) rows is sound = absurd (none-some def (sym is))

-- a row stands in a table that there is
table_of_row : (found : Option TableDef) (rows : List (RowId × Keyed)) (id : RowId) (keyed : Keyed) → AreSoundIn found rows → StandsAt rows id keyed → (def : TableDef) × (found ≡ Some def) × AreSound def rows
table_of_row (Some def) rows id keyed sound stands = (def, refl, sound)
table_of_row None rows id keyed sound stands = absurd (none-some keyed (subst (λ r. StandsAt r id keyed) sound stands))

same_key : (before : Option TableDef) (def : TableDef) (later : Option TableDef) (last : TableDef) → before ≡ Some def → later ≡ Some last → Outlasts (key_in (Content.Table before)) (key_in (Content.Table later)) → last.key ≡ def.key
same_key before def later last a b outlasts =
    let x : Some last.key ≡ Some def.key = subst (λ l. key_in (Content.Table l) ≡ Some def.key) b (subst (λ f. Outlasts (key_in (Content.Table f)) (key_in (Content.Table later))) a outlasts) in
    cc

none_before : (before later : Option TableDef) → later ≡ None → Outlasts (key_in (Content.Table before)) (key_in (Content.Table later)) → before ≡ None
none_before None later is outlasts = refl
none_before (Some def) later is outlasts = absurd (none-some def.key (subst (λ l. key_in (Content.Table l) ≡ Some def.key) is outlasts))

row_is : (a b : Option Keyed) → Content.Row a ≡ Content.Row b → a ≡ b
row_is a b same = cc

table_is : (a b : Option TableDef) → Content.Table a ≡ Content.Table b → a ≡ b
table_is a b same = cc

module _ (snapshot mine theirs u : State) (Mine Theirs : Change → Type 0) (mine_sound : RowsAreSound mine) (theirs_sound : RowsAreSound theirs) (ordered : InOrder u)
    (apart : (change other : Change) → Mine change → Theirs other → write_one_object change other ≡ true → ⊥)
    (joins : (place : Base) → ((look u place ≡ look mine place) × (look theirs place ≡ look snapshot place) × ((change : Change) × Mine change × (base_of change ≡ place) × (now_of change ≡ look mine place)))
    ⊎ ((look u place ≡ look theirs place) × (look mine place ≡ look snapshot place) × ((look theirs place ≡ look snapshot place) ⊎ ((change : Change) × Theirs change × (base_of change ≡ place) × (now_of change ≡ look theirs place)))))
    (mine_lasts : (place : Base) → Lasts place (look snapshot place) (look mine place))
    (theirs_lasts : (place : Base) → Lasts place (look snapshot place) (look theirs place)) where
  mine_outlast : (table : List ℕ) → Lasts (Base.Table table) (look mine (Base.Table table)) (look u (Base.Table table))
  mine_outlast table = elim (joins (Base.Table table)) [
    | inl own ↦ subst (λ content. Lasts (Base.Table table) (look mine (Base.Table table)) content) (sym (own.0)) (lasts_self (Base.Table table) (look mine (Base.Table table)))
    | inr other ↦ subst (λ content. Lasts (Base.Table table) (look mine (Base.Table table)) content) (sym (other.0)) (subst (λ content. Lasts (Base.Table table) content (look theirs (Base.Table table))) (sym (other.1)) (theirs_lasts (Base.Table table)))
  ]

  theirs_outlast : (table : List ℕ) → Lasts (Base.Table table) (look theirs (Base.Table table)) (look u (Base.Table table))
  theirs_outlast table = elim (joins (Base.Table table)) [
    | inl own ↦ subst (λ content. Lasts (Base.Table table) (look theirs (Base.Table table)) content) (sym (own.0)) (subst (λ content. Lasts (Base.Table table) content (look mine (Base.Table table))) (sym (own.1)) (mine_lasts (Base.Table table)))
    | inr other ↦ subst (λ content. Lasts (Base.Table table) (look theirs (Base.Table table)) content) (sym (other.0)) (lasts_self (Base.Table table) (look theirs (Base.Table table)))
  ]

  -- where there is no table, neither had one
  none_joined : (table : List ℕ) → table_of u table ≡ None → entries_of u table ≡ []
  none_joined table none =
      let own : entries_of mine table ≡ [] = empty_if (table_of mine table) (entries_of mine table) (none_before (table_of mine table) (table_of u table) none (mine_outlast table)) (mine_sound table) in
      let other : entries_of theirs table ≡ [] = empty_if (table_of theirs table) (entries_of theirs table) (none_before (table_of theirs table) (table_of u table) none (theirs_outlast table)) (theirs_sound table) in
      same_entries (entries_of u table) [] (ordered table) none_ascend (λ id. elim (joins (Base.Row table id)) [
        | inl a ↦ row_is (row_at u table id) (row_at mine table id) (a.0) ∙ ap (found id) own
        | inr b ↦ row_is (row_at u table id) (row_at theirs table id) (b.0) ∙ ap (found id) other
      ])

  module _ (table : List ℕ) (def : TableDef) (there : table_of u table ≡ Some def) where
    -- the tables that the two sides know have its key
    own_table : (id : RowId) (keyed : Keyed) → StandsAt (entries_of mine table) id keyed → (d : TableDef) × (def.key ≡ d.key) × AreSound d (entries_of mine table)
    own_table id keyed stands =
        let d = table_of_row (table_of mine table) (entries_of mine table) id keyed (mine_sound table) stands in
        (d.0, same_key (table_of mine table) (d.0) (table_of u table) def (d.1) there (mine_outlast table), d.2)

    other_table : (id : RowId) (keyed : Keyed) → StandsAt (entries_of theirs table) id keyed → (d : TableDef) × (def.key ≡ d.key) × AreSound d (entries_of theirs table)
    other_table id keyed stands =
        let d = table_of_row (table_of theirs table) (entries_of theirs table) id keyed (theirs_sound table) stands in
        (d.0, same_key (table_of theirs table) (d.0) (table_of u table) def (d.1) there (theirs_outlast table), d.2)

    carries_same : (d : TableDef) (keyed : Keyed) → def.key ≡ d.key → CarriesKey d keyed → CarriesKey def keyed
    carries_same d keyed same carries = record { own = carries.own ∙ ap (map (value_at keyed.row)) (sym same); no_null = carries.no_null }

    own_unique : ¬ (def.key ≡ []) → KeysAreUnique (entries_of mine table)
    own_unique has id other keyed same a b keys =
        let d = own_table id keyed a in
        (d.2).unique (λ none. has (d.1 ∙ none)) id other keyed same a b keys

    other_unique : ¬ (def.key ≡ []) → KeysAreUnique (entries_of theirs table)
    other_unique has id other keyed same a b keys =
        let d = other_table id keyed a in
        (d.2).unique (λ none. has (d.1 ∙ none)) id other keyed same a b keys

    -- a row of ours has a key, where the table has one
    has_key : ¬ (def.key ≡ []) → (id : RowId) (keyed : Keyed) → StandsAt (entries_of mine table) id keyed → not (is_no_key (o.Key table keyed.key)) ≡ true
    has_key has id keyed stands =
        let d = own_table id keyed stands in
        ap (λ key. not (is_no_key (o.Key table key))) (((d.2).carried id keyed stands).own) ∙ key_kept table (d.0).key (value_at keyed.row) (λ none. has (d.1 ∙ none))

    -- a row of ours and one of theirs that have the same key
    meet : ¬ (def.key ≡ []) → (id other : RowId) (keyed same : Keyed) → StandsAt (entries_of mine table) id keyed → StandsAt (entries_of theirs table) other same → keyed.key ≡ same.key
        → ((change : Change) × Mine change × (base_of change ≡ Base.Row table id) × (now_of change ≡ look mine (Base.Row table id)))
        → look mine (Base.Row table other) ≡ look snapshot (Base.Row table other)
        → (look theirs (Base.Row table other) ≡ look snapshot (Base.Row table other)) ⊎ ((change : Change) × Theirs change × (base_of change ≡ Base.Row table other) × (now_of change ≡ look theirs (Base.Row table other)))
        → id ≡ other
    meet has id other keyed same a b keys by old new = elim new [
      | inl still ↦ own_unique has id other keyed same a (row_is (row_at mine table other) (row_at theirs table other) (old ∙ sym still) ∙ b) keys
      | inr since ↦
          absurd (apart (by.0) (since.0) (by.1) (since.1)
          (write_shared (by.0) (since.0) (o.Key table keyed.key) (has_key has id keyed a)
          (key_written (by.0) table id keyed (by.2) (by.3 ∙ ap Content.Row a))
          (subst (λ key. IsAmong (o.Key table key) (writes since.0)) (sym keys) (key_written (since.0) table other same (since.2) (since.3 ∙ ap Content.Row b)))))
    ]

    unique_joined : ¬ (def.key ≡ []) → KeysAreUnique (entries_of u table)
    unique_joined has id other keyed same a b keys = elim (joins (Base.Row table id)) [
      | inl p ↦ elim (joins (Base.Row table other)) [
        | inl q ↦ own_unique has id other keyed same (sym (row_is (row_at u table id) (row_at mine table id) p.0) ∙ a) (sym (row_is (row_at u table other) (row_at mine table other) q.0) ∙ b) keys
        | inr q ↦ meet has id other keyed same (sym (row_is (row_at u table id) (row_at mine table id) p.0) ∙ a) (sym (row_is (row_at u table other) (row_at theirs table other) q.0) ∙ b) keys (p.2) (q.1) (q.2)
      ]
      | inr p ↦ elim (joins (Base.Row table other)) [
        | inl q ↦ sym (meet has other id same keyed (sym (row_is (row_at u table other) (row_at mine table other) q.0) ∙ b) (sym (row_is (row_at u table id) (row_at theirs table id) p.0) ∙ a) (sym keys) (q.2) (p.1) (p.2))
        | inr q ↦ other_unique has id other keyed same (sym (row_is (row_at u table id) (row_at theirs table id) p.0) ∙ a) (sym (row_is (row_at u table other) (row_at theirs table other) q.0) ∙ b) keys
      ]
    ]

    some_joined : AreSound def (entries_of u table)
    some_joined = record {
      key = elim (joins (Base.Table table)) [
        | inl a ↦ (subst (λ t. AreSoundIn t (entries_of mine table)) (sym (table_is (table_of u table) (table_of mine table) a.0) ∙ there) (mine_sound table)).key
        | inr b ↦ (subst (λ t. AreSoundIn t (entries_of theirs table)) (sym (table_is (table_of u table) (table_of theirs table) b.0) ∙ there) (theirs_sound table)).key
      ];
      ordered = ordered table;
      carried = λ id keyed stands. elim (joins (Base.Row table id)) [
        | inl a ↦ (let s : StandsAt (entries_of mine table) id keyed = sym (row_is (row_at u table id) (row_at mine table id) a.0) ∙ stands in
            let d = own_table id keyed s in
            carries_same (d.0) keyed (d.1) ((d.2).carried id keyed s))
        | inr b ↦ (let s : StandsAt (entries_of theirs table) id keyed = sym (row_is (row_at u table id) (row_at theirs table id) b.0) ∙ stands in
            let d = other_table id keyed s in
            carries_same (d.0) keyed (d.1) ((d.2).carried id keyed s))
      ];
      unique = unique_joined;
    }

  joined_if : (table : List ℕ) (found : Option TableDef) → table_of u table ≡ found → AreSoundIn found (entries_of u table)
  joined_if table None is = none_joined table is
  joined_if table (Some def) is = some_joined table def is

  -- the rows of both together are sound
  pub joined_sound : RowsAreSound u
  joined_sound table = joined_if table (table_of u table) refl

-- so those of two transactions that write no common object
pub sound_rows_join : SoundRowsJoin
sound_rows_join snapshot mine theirs joined changes others mine_sound theirs_sound ordered apart joins mine_lasts theirs_lasts =
    joined_sound snapshot mine theirs joined (λ change. IsAmong change changes) (λ change. IsAmong change others) mine_sound theirs_sound ordered apart joins mine_lasts theirs_lasts
