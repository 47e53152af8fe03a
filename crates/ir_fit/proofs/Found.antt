-- The steps that are listed by object, access and version, against what the steps of the run emit.
use Rattle.std.proofs.Common.{◌≡◌, ℕ, suc, zero, ◌<◌, Bool, true, false, ◌&&◌, eqb, inl, inr, List, [], ◌∷◌, length, get_or, refl, sym, ap, ◌∙◌, subst, arith, eq-eqb, eqb-true}
use Rattle.std.specs.List.{Contains}
use Rattle.std.proofs.lemmas.Bool.{cases_eq}
use Rattle.std.proofs.lemmas.List.Elements.{Contains-append_left, Contains-append_right, Contains-append_cases}
use Rattle.std.proofs.lemmas.List.Sorted.{Contains-permutation, IsPermutation-sym}
use Rattle.ir_lemmas.proofs.CallerLemmas.{conjuncts_are_true}
use Rattle.ir_runs.specs.Machine.{Label, EnteredAt, LeftAt}
use Rattle.ir_runs.specs.declared.access.Access.{Access}
use Rattle.ir_runs.specs.declared.access.Access.TheVariants.{Reading, Writing}
use Rattle.ir_runs.specs.Run.{join_if, At}
use Rattle.ir_log.specs.Logging.{label_of}
use Rattle.ir_log.specs.declared.event.Event.{Event}
use Rattle.ir_log.specs.declared.event.Event.TheVariants.{Answer, Read, Write, Try}
use Rattle.ir_trace.specs.Recorded.{recorded_thread}
use Rattle.ir_fit.proofs.Placements.{placed_of_are_of_run}
use Rattle.ir_fit.proofs.Listed.{get_or_is_at, at_is_get_or, emitting_is_guest_thread, entries_count_events, event_position_emits}
use Rattle.ir_fit.proofs.Listed.{entry_step_is_of_event, leave_step_emits_leave, emitted_leave_is_placed}
use Rattle.ir_fit.specs.Fit.{FittedTrace}
use Rattle.ir_fit.specs.Placed.{placed_at, Visit, entered_by, of_threads, all_events_left, all_entered, same_access, picked, Listing, listed_events, IsListing, placed_of}
use Rattle.ir_fit.specs.Listed.{EmitsIn, OnlyLeaves, AllLeaves, OnlyEntries, AllEntries, left_by_event}
use Rattle.ir_fit.specs.declared.leave.Leave.{Leave}
use Rattle.ir_fit.specs.declared.place.Place.{Place}
use Rattle.ir_runs.proofs.CallerLemmas.{at_of_join_if_cases}

-- ---- places of elements

contained_has_index : {A : Type 0} (xs : List A) (x : A) → Contains xs x → (i : ℕ) × At xs i x
contained_has_index xs x h = (h.0, subst (At xs h.0) h.2 (get_or_is_at xs h.0 x h.1))

item_at_is_contained : {A : Type 0} (xs : List A) (i : ℕ) (x : A) → At xs i x → Contains xs x
item_at_is_contained xs i x h = let g = at_is_get_or xs i x h in (i, g.0, g.1 x)

-- ---- the steps of an object and access

same_access_refl : (a : Access) → same_access a a ≡ true
same_access_refl Reading = refl
same_access_refl Writing = refl

accesses_equal : (a b : Access) → same_access a b ≡ true → a ≡ b
accesses_equal Reading Reading h = refl
accesses_equal Reading Writing h = absurd (cc h)
accesses_equal Writing Reading h = absurd (cc h)
accesses_equal Writing Writing h = refl

joined_item_is_at_zero : {A : Type 0} (b : Bool) (x : A) (xs : List A) → b ≡ true → At (join_if b x xs) 0 x
joined_item_is_at_zero true x xs h = refl
joined_item_is_at_zero false x xs h = absurd (cc h)

at_survives_join_if : {A : Type 0} (b : Bool) (x y : A) (xs : List A) (i : ℕ) → At xs i y → (j : ℕ) × At (join_if b x xs) j y
at_survives_join_if true x y xs i h = (suc i, h)
at_survives_join_if false x y xs i h = (i, h)

picked_place_has_visit : (o : ℕ) (a : Access) (vs : List Visit) (i : ℕ) (p : Place) → At (picked o a vs) i p → (j : ℕ) × At vs j (o, a, p)
picked_place_has_visit o a [] i p h = absurd h
picked_place_has_visit o a (v ∷ vs) i p h = elim (at_of_join_if_cases (eqb v.0 o && same_access v.1 a) v.2 p (picked o a vs) i h) [
  | inl (b, e) ↦
      let both = conjuncts_are_true (eqb v.0 o) (same_access v.1 a) b in
      let object : v.0 ≡ o = eqb-true v.0 o both.0 in
      let access : v.1 ≡ a = accesses_equal v.1 a both.1 in
      (0, λ k. (object k, access k, e k))
  | inr (j, at) ↦ let g = picked_place_has_visit o a vs j p at in (suc g.0, g.1)
]

visit_place_is_picked : (o : ℕ) (a : Access) (vs : List Visit) (j : ℕ) (p : Place) → At vs j (o, a, p) → (i : ℕ) × At (picked o a vs) i p
visit_place_is_picked o a [] j p h = absurd h
visit_place_is_picked o a (v ∷ vs) zero p h =
    let b : (eqb v.0 o && same_access v.1 a) ≡ true =
    rw (eq-eqb v.0 o (ap (λ x. x.0) h), ap (λ (x : Visit). same_access x.1 a) h, same_access_refl a) refl in
    (0, subst (At (picked o a (v ∷ vs)) 0) (ap (λ x. x.2) h) (joined_item_is_at_zero (eqb v.0 o && same_access v.1 a) v.2 (picked o a vs) b))
visit_place_is_picked o a (v ∷ vs) (suc j) p h = let g = visit_place_is_picked o a vs j p h in
    at_survives_join_if (eqb v.0 o && same_access v.1 a) v.2 p (picked o a vs) g.0 g.1

-- ---- the steps of all threads

visit_has_thread : (n : ℕ) (f : ℕ → List Visit) (v : Visit) → Contains (of_threads n f) v → (t : ℕ) × (t < n) × Contains (f t) v
visit_has_thread zero f v h = absurd (let l = h.1 in omega (arith, l))
visit_has_thread (suc n) f v h = elim (Contains-append_cases (of_threads n f) (f n) v h) [
  | inl g ↦ let k = visit_has_thread n f v g in (k.0, omega (arith, k.1), k.2)
  | inr g ↦ (n, omega arith, g)
]

thread_visit_contained : (n : ℕ) (f : ℕ → List Visit) (v : Visit) (t : ℕ) → t < n → Contains (f t) v → Contains (of_threads n f) v
thread_visit_contained zero f v t l h = absurd (omega (arith, l))
thread_visit_contained (suc n) f v t l h = elim (cases_eq t n) [
  | inl e ↦ Contains-append_right (of_threads n f) (f n) v (subst (λ k. Contains (f k) v) e h)
  | inr ne ↦ Contains-append_left (of_threads n f) (f n) v (thread_visit_contained n f v t (omega (arith, l, ne)) h)
]

-- ---- the leaves of one thread

abbrev visit_of_leave : ℕ → Leave → Visit
visit_of_leave t l = (l.object, l.access, record { position = l.position; version = l.version; thread = t })

left_visit_is_of_leave : (t : ℕ) (ls : List Leave) (i : ℕ) (v : Visit) → At (left_by_event t ls) i v → (l : Leave) × At ls i l × (visit_of_leave t l ≡ v)
left_visit_is_of_leave t [] i v h = absurd h
left_visit_is_of_leave t (l ∷ ls) zero v h = (l, refl, h)
left_visit_is_of_leave t (l ∷ ls) (suc i) v h = left_visit_is_of_leave t ls i v h

leave_is_left_visit : (t : ℕ) (ls : List Leave) (i : ℕ) (l : Leave) → At ls i l → At (left_by_event t ls) i (visit_of_leave t l)
leave_is_left_visit t [] i l h = absurd h
leave_is_left_visit t (m ∷ ls) zero l h = ap (visit_of_leave t) h
leave_is_left_visit t (m ∷ ls) (suc i) l h = leave_is_left_visit t ls i l h

-- ---- the entries of one thread

-- event i at position k is this entry
abbrev IsEntered : List Event → List ℕ → ℕ → Visit → Type 0
IsEntered es ks t v = (i : ℕ) × (e : Event) × At es i e × At ks i v.2.position × (v.2.thread ≡ t)
    × ((l : ℕ) × (label_of e ≡ EnteredAt v.0 v.1 v.2.version l))

entered_by_later_event : (e : Event) (es : List Event) (k : ℕ) (ks : List ℕ) (t : ℕ) (v : Visit) → IsEntered es ks t v
    → IsEntered (e ∷ es) (k ∷ ks) t v
entered_by_later_event e es k ks t v (i, d, at, place, thread, label) = (suc i, d, at, place, thread, label)

entered_by_first_event : (e : Event) (es : List Event) (k : ℕ) (ks : List ℕ) (t o : ℕ) (a : Access) (w l : ℕ) (v : Visit) → label_of e ≡ EnteredAt o a w l
    → (o, a, record { position = k; version = w; thread = t }) ≡ v → IsEntered (e ∷ es) (k ∷ ks) t v
entered_by_first_event e es k ks t o a w l v is h =
    (0, e, refl, ap (λ z. z.2.position) h, sym (ap (λ z. z.2.thread) h), (l, is ∙ ap (λ (z : Visit). EnteredAt z.0 z.1 z.2.version l) h))

entered_visit_has_event : (t : ℕ) (es : List Event) (ks : List ℕ) (j : ℕ) (v : Visit) → At (entered_by t es ks) j v → IsEntered es ks t v
entered_visit_has_event t [] ks j v h = absurd h
entered_visit_has_event t (e ∷ es) [] j v h = absurd h
entered_visit_has_event t (Answer kind value ∷ es) (k ∷ ks) j v h = entered_by_later_event (Answer kind value) es k ks t v (entered_visit_has_event t es ks j v h)
entered_visit_has_event t (Try o ∷ es) (k ∷ ks) j v h = entered_by_later_event (Try o) es k ks t v (entered_visit_has_event t es ks j v h)
entered_visit_has_event t (Read o w ∷ es) (k ∷ ks) zero v h = entered_by_first_event (Read o w) es k ks t o Reading w 0 v refl h
entered_visit_has_event t (Read o w ∷ es) (k ∷ ks) (suc j) v h = entered_by_later_event (Read o w) es k ks t v (entered_visit_has_event t es ks j v h)
entered_visit_has_event t (Write o w l ∷ es) (k ∷ ks) zero v h = entered_by_first_event (Write o w l) es k ks t o Writing w l v refl h
entered_visit_has_event t (Write o w l ∷ es) (k ∷ ks) (suc j) v h = entered_by_later_event (Write o w l) es k ks t v (entered_visit_has_event t es ks j v h)

-- the entry that an event emits of
abbrev emitted_visit : ℕ → ℕ → Label → Visit
emitted_visit t k (EnteredAt o a w l) = (o, a, record { position = k; version = w; thread = t })
emitted_visit t k _ = (0, Reading, record { position = k; version = 0; thread = t })

entry_event_is_visit : (t : ℕ) (es : List Event) (ks : List ℕ) (i : ℕ) (e : Event) (k o : ℕ) (a : Access) (w l : ℕ) → At es i e → At ks i k
    → label_of e ≡ EnteredAt o a w l → Contains (entered_by t es ks) (o, a, record { position = k; version = w; thread = t })
entry_event_is_visit t [] ks i e k o a w l at place is = absurd at
entry_event_is_visit t (d ∷ es) [] i e k o a w l at place is = absurd place
entry_event_is_visit t (Answer kind value ∷ es) (q ∷ ks) zero e k o a w l at place is = absurd (cc (ap label_of at ∙ is))
entry_event_is_visit t (Try p ∷ es) (q ∷ ks) zero e k o a w l at place is = absurd (cc (ap label_of at ∙ is))
entry_event_is_visit t (Read p x ∷ es) (q ∷ ks) zero e k o a w l at place is =
    (0, omega arith, ap (emitted_visit t q) (ap label_of at ∙ is) ∙ ap (λ z. (o, a, record { position = z; version = w; thread = t })) place)
entry_event_is_visit t (Write p x r ∷ es) (q ∷ ks) zero e k o a w l at place is =
    (0, omega arith, ap (emitted_visit t q) (ap label_of at ∙ is) ∙ ap (λ z. (o, a, record { position = z; version = w; thread = t })) place)
entry_event_is_visit t (Answer kind value ∷ es) (q ∷ ks) (suc i) e k o a w l at place is = entry_event_is_visit t es ks i e k o a w l at place is
entry_event_is_visit t (Try p ∷ es) (q ∷ ks) (suc i) e k o a w l at place is = entry_event_is_visit t es ks i e k o a w l at place is
entry_event_is_visit t (Read p x ∷ es) (q ∷ ks) (suc i) e k o a w l at place is =
    Contains-append_right ((p, Reading, record { position = q; version = x; thread = t }) ∷ []) (entered_by t es ks) _
    (entry_event_is_visit t es ks i e k o a w l at place is)
entry_event_is_visit t (Write p x r ∷ es) (q ∷ ks) (suc i) e k o a w l at place is =
    Contains-append_right ((p, Writing, record { position = q; version = x; thread = t }) ∷ []) (entered_by t es ks) _
    (entry_event_is_visit t es ks i e k o a w l at place is)

-- ---- what is listed

listed_place_is_visit : (vs : List Visit) (x : Listing) → IsListing vs x → (o : ℕ) (a : Access) (p : Place) → Contains (listed_events x o a) p
    → Contains vs (o, a, p)
listed_place_is_visit vs x h o a p c =
    let at = contained_has_index (picked o a vs) p (Contains-permutation (listed_events x o a) (picked o a vs) p
    (IsPermutation-sym (picked o a vs) (listed_events x o a) (h.same o a)) c) in
    let v = picked_place_has_visit o a vs at.0 p at.1 in
    item_at_is_contained vs v.0 (o, a, p) v.1

visit_place_is_listed : (vs : List Visit) (x : Listing) → IsListing vs x → (o : ℕ) (a : Access) (p : Place) → Contains vs (o, a, p)
    → Contains (listed_events x o a) p
visit_place_is_listed vs x h o a p c =
    let at = contained_has_index vs (o, a, p) c in
    let v = visit_place_is_picked o a vs at.0 p at.1 in
    Contains-permutation (picked o a vs) (listed_events x o a) p (h.same o a) (item_at_is_contained (picked o a vs) v.0 p v.1)

pub listed_only_leaves : (f : FittedTrace) (x : Listing) → IsListing (all_events_left (placed_of f)) x → (o : ℕ)
    (a : Access) (v : ℕ) (ps : List Place) → ((p : Place) → Contains ps p → Contains (listed_events x o a) p × (p.version ≡ v))
    → OnlyLeaves f o a v ps
listed_only_leaves f x is o a v ps found h p c =
    let q = found p c in
    let some = visit_has_thread (length (placed_of f)) (λ t. left_by_event t (placed_at (placed_of f) t).leaves) (o, a, p)
    (listed_place_is_visit (all_events_left (placed_of f)) x is o a p q.0) in
    let t : ℕ = some.0 in
    let ls : List Leave = (placed_at (placed_of f) t).leaves in
    let at = contained_has_index (left_by_event t ls) (o, a, p) some.2 in
    let leave = left_visit_is_of_leave t ls at.0 (o, a, p) at.1 in
    let got = at_is_get_or ls at.0 leave.0 leave.1 in
    let emitted = subst (λ (e : Leave). EmitsIn f h t e.position (LeftAt e.object e.access e.version)) (got.1 leave.0)
    (leave_step_emits_leave f h t (let lt = some.1 in let n = (placed_of_are_of_run f h).each in omega (arith, lt, n)) at.0 leave.0 got.0) in (
      q.1,
      subst (λ w. EmitsIn f h p.thread p.position (LeftAt o a w)) q.1
          (subst (λ (z : Visit). EmitsIn f h z.2.thread z.2.position (LeftAt z.0 z.1 z.2.version)) leave.2 emitted),
    )

pub listed_all_leaves : (f : FittedTrace) (x : Listing) → IsListing (all_events_left (placed_of f)) x → (o : ℕ)
    (a : Access) (v : ℕ) (ps : List Place) → ((p : Place) → Contains (listed_events x o a) p → p.version ≡ v → Contains ps p)
    → AllLeaves f o a v ps
listed_all_leaves f x is o a v ps found h t k emitted =
    let p : Place = record { position = k; version = v; thread = t } in
    let below = emitting_is_guest_thread f h t k (LeftAt o a v) emitted in
    let ls : List Leave = (placed_at (placed_of f) t).leaves in
    let leave = emitted_leave_is_placed f h t k o a v emitted in
    let e : Leave = record { position = k; object = o; access = a; version = v } in
    let at : At (left_by_event t ls) leave.0 (o, a, p) =
    leave_is_left_visit t ls leave.0 e (subst (At ls leave.0) (leave.2 e) (get_or_is_at ls leave.0 e leave.1)) in
    found p (visit_place_is_listed (all_events_left (placed_of f)) x is o a p
    (thread_visit_contained (length (placed_of f)) (λ u. left_by_event u (placed_at (placed_of f) u).leaves) (o, a, p) t (let n = (placed_of_are_of_run f h).each in omega (arith, below, n))
    (item_at_is_contained (left_by_event t ls) leave.0 (o, a, p) at))) refl

pub listed_only_entries : (f : FittedTrace) (x : Listing) → IsListing (all_entered f.recorded (placed_of f)) x → (o : ℕ)
    (a : Access) (v : ℕ) (ps : List Place) → ((p : Place) → Contains ps p → Contains (listed_events x o a) p × (p.version ≡ v))
    → OnlyEntries f o a v ps
listed_only_entries f x is o a v ps found h p c =
    let q = found p c in
    let some = visit_has_thread (length (placed_of f)) (λ t. entered_by t (recorded_thread f.recorded t).events (placed_at (placed_of f) t).entries) (o, a, p)
    (listed_place_is_visit (all_entered f.recorded (placed_of f)) x is o a p q.0) in
    let t : ℕ = some.0 in
    let es : List Event = (recorded_thread f.recorded t).events in
    let ks : List ℕ = (placed_at (placed_of f) t).entries in
    let at = contained_has_index (entered_by t es ks) (o, a, p) some.2 in
    let (i, e, event, place, thread, (n, label)) = entered_visit_has_event t es ks at.0 (o, a, p) at.1 in
    let got = at_is_get_or es i e event in
    let stands = at_is_get_or ks i p.position place in
    let emitted : EmitsIn f h t (get_or ks i 0) (label_of (get_or es i e)) =
    event_position_emits f h t (let lt = some.1 in let m = (placed_of_are_of_run f h).each in omega (arith, lt, m)) i e got.0 in
    let here : EmitsIn f h t p.position (EnteredAt o a p.version n) =
    subst (λ k. EmitsIn f h t k (EnteredAt o a p.version n)) (stands.1 0)
    (subst (EmitsIn f h t (get_or ks i 0)) (ap label_of (got.1 e) ∙ label) emitted) in (
      q.1,
      (
        n,
        subst (λ w. EmitsIn f h p.thread p.position (EnteredAt o a w n)) q.1
            (subst (λ u. EmitsIn f h u p.position (EnteredAt o a p.version n)) (sym thread) here),
      ),
    )

pub listed_all_entries : (f : FittedTrace) (x : Listing) → IsListing (all_entered f.recorded (placed_of f)) x → (o : ℕ)
    (a : Access) (v : ℕ) (ps : List Place) → ((p : Place) → Contains (listed_events x o a) p → p.version ≡ v → Contains ps p)
    → AllEntries f o a v ps
listed_all_entries f x is o a v ps found h t k n emitted =
    let p : Place = record { position = k; version = v; thread = t } in
    let below = emitting_is_guest_thread f h t k (EnteredAt o a v n) emitted in
    let es : List Event = (recorded_thread f.recorded t).events in
    let ks : List ℕ = (placed_at (placed_of f) t).entries in
    let (i, li, place, label) = entry_step_is_of_event f h t k o a v n emitted in
    let d : Event = Read 0 0 in
    let at : At ks i k = subst (At ks i) place (get_or_is_at ks i 0 (let m = entries_count_events f h t below in omega (arith, li, m))) in
    found p (visit_place_is_listed (all_entered f.recorded (placed_of f)) x is o a p
    (thread_visit_contained (length (placed_of f)) (λ u. entered_by u (recorded_thread f.recorded u).events (placed_at (placed_of f) u).entries) (o, a, p) t
    (let m = (placed_of_are_of_run f h).each in omega (arith, below, m))
    (entry_event_is_visit t es ks i (get_or es i d) k o a v n (get_or_is_at es i d li) at (label d)))) refl
