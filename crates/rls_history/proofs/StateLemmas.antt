-- Lists of changes put on states.
use Rattle.std.proofs.Common.{◌≡◌, true, false, not, List, [], ◌∷◌, ◌++◌, refl, sym, ◌∙◌, inl, inr, ◌⊎◌}
use Rattle.std.proofs.lemmas.Bool.{cases_Bool, or_cases, or_parts, or_left, or_right, both_ways}
use Rattle.rls_history.specs.States.{States, IsAmong, put_all, touches, Fits, covers, covers_any, meet, Agree, Apart}
use Rattle.rls_history.specs.Transactions.{is_empty}
use Rattle.rls_history.specs.Lawful.{PutsAre, IsLeftBy}

-- of two lists
pub among_cases : {X : Type 0} (x : X) (xs ys : List X) → IsAmong x (xs ++ ys) → IsAmong x xs ⊎ IsAmong x ys
among_cases x [] ys i = inr i
among_cases x (y ∷ xs) ys i = elim i [ inl a ↦ inl (inl a) | inr b ↦ elim (among_cases x xs ys b) [ inl c ↦ inl (inr c) | inr c ↦ inr c ] ]

-- what is in the first
pub among_left : {X : Type 0} (x : X) (xs ys : List X) → IsAmong x xs → IsAmong x (xs ++ ys)
among_left x [] ys i = absurd i
among_left x (y ∷ xs) ys i = elim i [ inl a ↦ inl a | inr b ↦ inr (among_left x xs ys b) ]

-- what is in the second
pub among_right : {X : Type 0} (x : X) (xs ys : List X) → IsAmong x ys → IsAmong x (xs ++ ys)
among_right x [] ys i = i
among_right x (y ∷ xs) ys i = inr (among_right x xs ys i)

module _ (s : States) where
  -- two lists of changes, one after the other
  pub put_all_append : (cs ds : List s.Change) (state : s.State) → put_all s (cs ++ ds) state ≡ put_all s ds (put_all s cs state)
  put_all_append [] ds state = refl
  put_all_append (c ∷ cs) ds state = put_all_append cs ds (s.put c state)

  -- both fit
  pub fits_append : (cs ds : List s.Change) (state : s.State) → Fits s cs state → Fits s ds (put_all s cs state) → Fits s (cs ++ ds) state
  fits_append [] ds state f g = g
  fits_append (c ∷ cs) ds state f g = (f.0, fits_append cs ds (s.put c state) (f.1) g)

  -- what isn't met isn't covered
  pub uncovered_since_unmet : (o : s.Object) (os : List s.Object) (cs : List s.Change) → IsAmong o os → meet s os cs ≡ false → covers_any s o cs ≡ false
  uncovered_since_unmet o [] cs i e = absurd i
  uncovered_since_unmet o (x ∷ os) cs i e =
      let p = or_parts (covers_any s x cs) (meet s os cs) e in
      elim i [ inl same ↦ rw same (p.0) | inr more ↦ uncovered_since_unmet o os cs more (p.1) ]

  -- without changes nothing is met
  pub meets_none : (os : List s.Object) → meet s os [] ≡ false
  meets_none [] = refl
  meets_none (o ∷ os) = meets_none os

  -- what is met is a change
  pub met_is_change : (os : List s.Object) (cs : List s.Change) → meet s os cs ≡ true → not (is_empty cs) ≡ true
  met_is_change os [] e = absurd (both_ways _ (meets_none os) e)
  met_is_change os (c ∷ cs) e = refl

  -- agreement holds of each object within one that has it
  pub agree_within : (o wider : s.Object) (one other : s.State) → ((place : s.Place) (content : s.Content) → s.shows o place content ≡ true → s.shows wider place content ≡ true)
      → Agree s wider one other → Agree s o one other
  agree_within o wider one other within agree place =
      elim (cases_Bool (s.shows o place (s.look one place))) [
        | inl here ↦
            (let x = rw (within place (s.look one place) here) at (agree place) in
            elim (cases_Bool (s.shows wider place (s.look other place))) [
              | inl too ↦ (let y = rw too at x in let same : s.look one place ≡ s.look other place = cc in rw same refl)
              | inr hidden ↦ (let y = rw hidden at x in absurd cc)
            ])
        | inr hidden ↦
            elim (cases_Bool (s.shows o place (s.look other place))) [
              | inr too ↦ rw hidden (rw too refl)
              | inl there ↦
                  (let x = rw (within place (s.look other place) there) at (agree place) in
                  elim (cases_Bool (s.shows wider place (s.look one place))) [
                    | inl too ↦ (let y = rw too at x in let same : s.look one place ≡ s.look other place = cc in rw same refl)
                    | inr not_shown ↦ (let y = rw not_shown at x in absurd cc)
                  ])
            ]
      ]

  module _ {InOrder : s.State → Type 0} (puts : PutsAre s InOrder) where
    -- states stay in order
    pub put_all_stays : (cs : List s.Change) (state : s.State) → InOrder state → InOrder (put_all s cs state)
    put_all_stays [] state o = o
    put_all_stays (c ∷ cs) state o = put_all_stays cs (s.put c state) (puts.stays c state o)

    -- where nothing is changed the content stays
    pub put_elsewhere : (cs : List s.Change) (state : s.State) → InOrder state → (place : s.Place) → touches s cs place ≡ false → s.look (put_all s cs state) place ≡ s.look state place
    put_elsewhere [] state o place e = refl
    put_elsewhere (c ∷ cs) state o place e =
        let q = or_parts (s.is_same place (s.place_of c)) (touches s cs place) e in
        put_elsewhere cs (s.put c state) (puts.stays c state o) place (q.1) ∙ (puts.looks c state o place ∙ rw (q.0) refl)

    -- the last change of a place leaves what stands there
    pub put_last : (c : s.Change) (cs : List s.Change) (state : s.State) → InOrder state → (place : s.Place) → s.is_same place (s.place_of c) ≡ true → touches s cs place ≡ false
        → s.look (put_all s cs (s.put c state)) place ≡ s.after_of c
    put_last c cs state o place here last = put_elsewhere cs (s.put c state) (puts.stays c state o) place last ∙ (puts.looks c state o place ∙ rw here refl)

    -- where the later ones leave a place, the first one changes it
    touches_here : (c : s.Change) (cs : List s.Change) (place : s.Place) → touches s (c ∷ cs) place ≡ true → touches s cs place ≡ false → s.is_same place (s.place_of c) ≡ true
    touches_here c cs place e last = elim (or_cases (s.is_same place (s.place_of c)) (touches s cs place) e) [ inl x ↦ x | inr x ↦ absurd (both_ways _ last x) ]

    -- where something is changed the state before doesn't matter
    pub put_here : (cs : List s.Change) (state other : s.State) → InOrder state → InOrder other → (place : s.Place) → touches s cs place ≡ true
        → s.look (put_all s cs state) place ≡ s.look (put_all s cs other) place
    put_here [] state other o p place e = absurd cc
    put_here (c ∷ cs) state other o p place e =
        elim (cases_Bool (touches s cs place)) [
          | inl later ↦ put_here cs (s.put c state) (s.put c other) (puts.stays c state o) (puts.stays c other p) place later
          | inr last ↦ (let here = touches_here c cs place e last in put_last c cs state o place here last ∙ sym (put_last c cs other p place here last))
        ]

    -- and the last change is one of them
    pub left_by : (cs : List s.Change) (state : s.State) → InOrder state → (place : s.Place) → touches s cs place ≡ true → IsLeftBy s cs place (s.look (put_all s cs state) place)
    left_by [] state o place e = absurd cc
    left_by (c ∷ cs) state o place e =
        elim (cases_Bool (touches s cs place)) [
          | inl later ↦ (let r = left_by cs (s.put c state) (puts.stays c state o) place later in (r.0, inr (r.1), r.2, r.3))
          | inr last ↦
              (let here = touches_here c cs place e last in
              (c, inl refl, sym (puts.same_is place (s.place_of c) here), sym (put_last c cs state o place here last)))
        ]

    -- a place that is changed is one of a change
    pub touched_by : (cs : List s.Change) (place : s.Place) → touches s cs place ≡ true → (c : s.Change) × IsAmong c cs × (s.place_of c ≡ place)
    touched_by [] place e = absurd cc
    touched_by (c ∷ cs) place e = elim (or_cases (s.is_same place (s.place_of c)) (touches s cs place) e) [
      | inl here ↦ (c, inl refl, sym (puts.same_is place (s.place_of c) here))
      | inr later ↦ (let r = touched_by cs place later in (r.0, inr (r.1), r.2))
    ]

    -- changes fit each state that has the same at the places that they change
    pub fits_same : (cs : List s.Change) (state other : s.State) → InOrder state → InOrder other → ((place : s.Place) → touches s cs place ≡ true → s.look state place ≡ s.look other place)
        → Fits s cs state → Fits s cs other
    fits_same [] state other o p same f = f
    fits_same (c ∷ cs) state other o p same f = (
      (λ object. rw (← same (s.place_of c) (or_left _ (touches s cs (s.place_of c)) (puts.same_self (s.place_of c)))) (f.0 object)),
      fits_same cs (s.put c state) (s.put c other) (puts.stays c state o) (puts.stays c other p) (λ place later. elim (cases_Bool (s.is_same place (s.place_of c))) [
        | inl here ↦ rw (puts.looks c state o place) (rw (puts.looks c other p place) (rw here refl))
        | inr there ↦ rw (puts.looks c state o place) (rw (puts.looks c other p place) (rw there (same place (or_right (s.is_same place (s.place_of c)) _ later))))
      ]) (f.1),
    )

    -- at a changed place an object that isn't covered shows nothing, before and after
    pub uncovered : (o : s.Object) (cs : List s.Change) (state : s.State) → InOrder state → (place : s.Place) → covers_any s o cs ≡ false → Fits s cs state → touches s cs place ≡ true
        → (s.shows o place (s.look state place) ≡ false) × (s.shows o place (s.look (put_all s cs state) place) ≡ false)
    uncovered o [] state p place none f t = absurd cc
    uncovered o (c ∷ cs) state p place none f t =
        let k = or_parts (covers s o c) (covers_any s o cs) none in
        let q = or_parts (s.shows o (s.place_of c) (s.before_of c)) (s.shows o (s.place_of c) (s.after_of c)) (k.0) in
        elim (cases_Bool (s.is_same place (s.place_of c))) [
          | inl here ↦
              (let is : place ≡ s.place_of c = puts.same_is place (s.place_of c) here in
              let old : s.shows o place (s.look state place) ≡ false = rw is (f.0 o ∙ q.0) in
              elim (cases_Bool (touches s cs place)) [
                | inl later ↦ (old, (uncovered o cs (s.put c state) (puts.stays c state p) place (k.1) (f.1) later).1)
                | inr last ↦ (old, rw (put_last c cs state p place here last) (rw is (q.1)))
              ])
          | inr there ↦
              (let later : touches s cs place ≡ true = elim (or_cases (s.is_same place (s.place_of c)) (touches s cs place) t) [ inl x ↦ absurd (both_ways _ there x) | inr x ↦ x ] in
              let r = uncovered o cs (s.put c state) (puts.stays c state p) place (k.1) (f.1) later in
              let same : s.look (s.put c state) place ≡ s.look state place = puts.looks c state p place ∙ rw there refl in
              (rw (← same) (r.0), r.1))
        ]

    -- agreement outlasts the same changes
    pub agree_put : (o : s.Object) (cs : List s.Change) (one other : s.State) → InOrder one → InOrder other → Agree s o one other → Agree s o (put_all s cs one) (put_all s cs other)
    agree_put o cs one other p q agree place =
        elim (cases_Bool (touches s cs place)) [
          | inl here ↦ (let e : s.look (put_all s cs one) place ≡ s.look (put_all s cs other) place = put_here cs one other p q place here in rw e refl)
          | inr there ↦ rw (put_elsewhere cs one p place there) (rw (put_elsewhere cs other q place there) (agree place))
        ]

    -- changes that share no object change no common place
    pub apart_touch : ((c e : s.Change) → s.place_of c ≡ s.place_of e → s.share c e ≡ true) → (cs es : List s.Change) → Apart s cs es
        → (place : s.Place) → touches s cs place ≡ true → touches s es place ≡ true → ⊥
    apart_touch same_place cs es apart place t u =
        let c = touched_by cs place t in
        let e = touched_by es place u in
        apart (c.0) (e.0) (c.1) (e.1) (same_place (c.0) (e.0) (c.2 ∙ sym e.2))
