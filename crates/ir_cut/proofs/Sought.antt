-- Positions that are moved for the steps that tell something.
use Rattle.std.proofs.Common.{◌≡◌, ℕ, ◌<◌, ◌⊎◌, ◌↔◌, List, length, Some, refl, sym, ◌∙◌, subst, arith, inl, inr, le_refl}
use Rattle.std.specs.Prelude.{slice_get}
use Rattle.std.specs.List.{Contains}
use Rattle.std.proofs.lemmas.Option.{slice_get_read, slice_get_within, get_or_from_slice_get}
use Rattle.ir_runs.specs.Machine.{Label, EnteredAt, LeftAt}
use Rattle.ir_runs.specs.declared.access.Access.{Access}
use Rattle.ir_runs.specs.Run.{Step, count, Emits, Cut}
use Rattle.ir_trace.specs.Bounds.{IsRecorded}
use Rattle.ir_fit.specs.Fit.{FittedTrace, HasRun, IsRunOf}
use Rattle.ir_fit.specs.Within.{IsFitted}
use Rattle.ir_coherence.proofs.CallerLemmas.{recorded_thread_fits}
use Rattle.ir_cut.specs.Moving.{ArePlacedBetween, EachPlace, IsRaised, IsLowered}
use Rattle.ir_cut.specs.Positions.{machine_of, start_of, cut_of, EachRun}
use Rattle.ir_cut.specs.Searching.{AreInside, RaisedFor, LoweredFor}
use Rattle.ir_fit.specs.Listed.{OnlyLeaves, AllLeaves, OnlyEntries, AllEntries}
use Rattle.ir_fit.specs.declared.place.Place.{Place}
use Rattle.ir_cut.proofs.Again.{has_run_with_given_run_if_has_some_run, emitting_below_threads, emitting_step_in_count}

-- the places are those of the steps of the run that tell so
pub record ArePlacesOf (f : FittedTrace) (run : List Step) (P : Label → Type 0) (ps : List Place) : Type 0 where
  pub only : (p : Place) → Contains ps p → (k : Label) × P k × Emits (machine_of f) (start_of f) run p.thread p.position k
  pub all : (t i : ℕ) (k : Label) → Emits (machine_of f) (start_of f) run t i k → P k → (v : ℕ)
      × Contains ps (record { position = i; version = v; thread = t })

slice_get_is_contained : (ps : List Place) (i : ℕ) (p : Place) → slice_get ps i ≡ Some p → Contains ps p
slice_get_is_contained ps i p e = (i, slice_get_within ps i p e, get_or_from_slice_get ps i p p e)

-- ---- the leaves and the entries of an object at a version

pub leave_places_of_leaves : (f : FittedTrace) → HasRun f → (o : ℕ) (a : Access) (v : ℕ) (ps : List Place) → OnlyLeaves f o a v ps
    → AllLeaves f o a v ps → (run : List Step) → IsRunOf f.guest f.recorded run → ArePlacesOf f run (λ k. k ≡ LeftAt o a v) ps
unfolding has_run_with_given_run_if_has_some_run
leave_places_of_leaves f h o a v ps only all run is = record {
  only = λ p c. (LeftAt o a v, refl, (only (has_run_with_given_run_if_has_some_run f h run is) p c).1);
  all = λ t i k emits e. (v, all (has_run_with_given_run_if_has_some_run f h run is) t i (subst (Emits (machine_of f) (start_of f) run t i) e emits));
}

pub entry_places_of_entries : (f : FittedTrace) → HasRun f → (o : ℕ) (a : Access) (v : ℕ) (ps : List Place) → OnlyEntries f o a v ps
    → AllEntries f o a v ps → (run : List Step) → IsRunOf f.guest f.recorded run → ArePlacesOf f run (λ k. (l : ℕ) × (k ≡ EnteredAt o a v l)) ps
unfolding has_run_with_given_run_if_has_some_run
entry_places_of_entries f h o a v ps only all run is = record {
  only = λ p c. let e = (only (has_run_with_given_run_if_has_some_run f h run is) p c).1 in (EnteredAt o a v e.0, (e.0, refl), e.1);
  all = λ t i k emits e. (v, all (has_run_with_given_run_if_has_some_run f h run is) t i e.0 (subst (Emits (machine_of f) (start_of f) run t i) e.1 emits));
}

-- ---- each of them can be counted

pub step_places_are_placed : (f : FittedTrace) → HasRun f → (run : List Step) → IsRunOf f.guest f.recorded run → IsRecorded f.recorded
    → (P : Label → Type 0) (ps : List Place) → ArePlacesOf f run P ps → ArePlacedBetween (length f.guest.entries) ps
step_places_are_placed f h run is recorded P ps of i p l e =
    let t = of.only p (slice_get_is_contained ps i p e) in
    let there : p.thread < length f.guest.entries = emitting_below_threads f h run is p.thread p.position t.0 t.2 in
    let less : p.position < count (machine_of f) (start_of f) run p.thread = emitting_step_in_count f run p.thread p.position t.0 t.2 in
    let fits = (recorded_thread_fits f.recorded recorded p.thread (let same = is.0.threads in omega (arith, same, there))).steps_fit in
    let steps = is.1.steps p.thread there in
    (there, omega (arith, less, fits, steps))

-- ---- moved for them

pub steps_inside_by_places : (f : FittedTrace) (run : List Step) (P : Label → Type 0) (ps : List Place) → ArePlacesOf f run P ps → (c : Cut)
    → EachPlace ps (length ps) (λ p. p.position < c p.thread) → AreInside f run P c
steps_inside_by_places f run P ps of c each t i k emits is =
    let a = of.all t i k emits is in
    each a.1.0 (record { position = i; version = a.0; thread = t }) a.1.1 (slice_get_read ps (length ps) a.1.0 _ refl a.1.1 (sym a.1.2))

pub places_inside_by_steps : (f : FittedTrace) (run : List Step) (P : Label → Type 0) (ps : List Place) → ArePlacesOf f run P ps → (c : Cut)
    → AreInside f run P c → EachPlace ps (length ps) (λ p. p.position < c p.thread)
places_inside_by_steps f run P ps of c inside i p l e = let t = of.only p (slice_get_is_contained ps i p e) in inside p.thread p.position t.0 t.2 t.1

pub raised_by_places : (f : FittedTrace) (run : List Step) (P : Label → Type 0) (ps : List Place) → ArePlacesOf f run P ps → (old new : List ℕ)
    → IsRaised old new ps (length ps) → RaisedFor f run P old new
raised_by_places f run P ps of old new r = record {
  size = r.size;
  above = r.above;
  inside = steps_inside_by_places f run P ps of (cut_of new) r.inside;
  least = λ c up inside. r.least c up (places_inside_by_steps f run P ps of c inside);
}

pub lowered_by_places : (f : FittedTrace) (run : List Step) (P : Label → Type 0) (ps : List Place) → ArePlacesOf f run P ps → (old new : List ℕ)
    → IsLowered old new ps (length ps) → LoweredFor f run P old new
lowered_by_places f run P ps of old new r = record {
  size = r.size;
  below = r.below;
  outside = λ t i k emits is. let a = of.all t i k emits is in
      r.outside a.1.0 (record { position = i; version = a.0; thread = t }) a.1.1
      (slice_get_read ps (length ps) a.1.0 _ refl a.1.1 (sym a.1.2));
  greatest = λ c down outside. r.greatest c down
      (λ i p l e. let t = of.only p (slice_get_is_contained ps i p e) in outside p.thread p.position t.0 t.2 t.1);
}

-- moved for both
pub raised_for_union : (f : FittedTrace) (run : List Step) (P Q R : Label → Type 0) → ((k : Label) → R k → P k ⊎ Q k) → ((k : Label) → P k → R k)
    → ((k : Label) → Q k → R k) → (a b c : List ℕ)
    → RaisedFor f run P a b → RaisedFor f run Q b c → RaisedFor f run R a c
raised_for_union f run P Q R split first second a b c r s = record {
  size = s.size ∙ r.size;
  above = λ u. let x = r.above u in let y = s.above u in omega (arith, x, y);
  inside = λ t i k emits is. elim (split k is) [
    | inl p ↦ let x = r.inside t i k emits p in let y = s.above t in omega (arith, x, y)
    | inr q ↦ s.inside t i k emits q
  ];
  least = λ d up inside. s.least d (r.least d up (λ t i k emits p. inside t i k emits (first k p)))
      (λ t i k emits q. inside t i k emits (second k q));
}

pub lowered_for_union : (f : FittedTrace) (run : List Step) (P Q R : Label → Type 0) → ((k : Label) → R k → P k ⊎ Q k)
    → ((k : Label) → P k → R k) → ((k : Label) → Q k → R k) → (a b c : List ℕ)
    → LoweredFor f run P a b → LoweredFor f run Q b c → LoweredFor f run R a c
lowered_for_union f run P Q R split first second a b c r s = record {
  size = s.size ∙ r.size;
  below = λ u. let x = r.below u in let y = s.below u in omega (arith, x, y);
  outside = λ t i k emits is. elim (split k is) [
    | inl p ↦ let x = r.outside t i k emits p in let y = s.below t in omega (arith, x, y)
    | inr q ↦ s.outside t i k emits q
  ];
  greatest = λ d down outside. s.greatest d (r.greatest d down (λ t i k emits p. outside t i k emits (first k p)))
      (λ t i k emits q. outside t i k emits (second k q));
}

-- for the same steps in other words
pub raised_for_equivalent : (f : FittedTrace) (run : List Step) (P R : Label → Type 0) → ((k : Label) → R k → P k) → ((k : Label) → P k → R k)
    → (a b : List ℕ) → RaisedFor f run P a b → RaisedFor f run R a b
raised_for_equivalent f run P R to from a b r = record {
  size = r.size;
  above = r.above;
  inside = λ t i k emits is. r.inside t i k emits (to k is);
  least = λ d up inside. r.least d up (λ t i k emits p. inside t i k emits (from k p));
}

pub lowered_for_equivalent : (f : FittedTrace) (run : List Step) (P R : Label → Type 0) → ((k : Label) → R k → P k) → ((k : Label) → P k → R k)
    → (a b : List ℕ) → LoweredFor f run P a b → LoweredFor f run R a b
lowered_for_equivalent f run P R to from a b r = record {
  size = r.size;
  below = r.below;
  outside = λ t i k emits is. r.outside t i k emits (to k is);
  greatest = λ d down outside. r.greatest d down (λ t i k emits p. outside t i k emits (from k p));
}

-- nothing is moved where no step emits so
pub no_label_no_raise : (f : FittedTrace) (run : List Step) (P : Label → Type 0)
    → ((t i : ℕ) (k : Label) → Emits (machine_of f) (start_of f) run t i k → P k → ⊥) → (xs : List ℕ) → RaisedFor f run P xs xs
no_label_no_raise f run P none xs = record {
  size = refl;
  above = λ u. le_refl (cut_of xs u);
  inside = λ t i k emits is. absurd (none t i k emits is);
  least = λ c up inside u. up u;
}

pub no_label_no_lowering : (f : FittedTrace) (run : List Step) (P : Label → Type 0)
    → ((t i : ℕ) (k : Label) → Emits (machine_of f) (start_of f) run t i k → P k → ⊥) → (xs : List ℕ) → LoweredFor f run P xs xs
no_label_no_lowering f run P none xs = record {
  size = refl;
  below = λ u. le_refl (cut_of xs u);
  outside = λ t i k emits is. absurd (none t i k emits is);
  greatest = λ c down outside u. down u;
}

-- ---- for what the code looks up

pub leave_places_are_placed : (f : FittedTrace) → IsFitted f → (o : ℕ) (a : Access) (v : ℕ) (ps : List Place) → OnlyLeaves f o a v ps
    → AllLeaves f o a v ps → (n : ℕ) → n ≡ length f.guest.entries → ArePlacedBetween n ps
leave_places_are_placed f k o a v ps only all n size =
    subst (λ z. ArePlacedBetween z ps) (sym size) (step_places_are_placed f k.run k.run.run k.run.whole k.within (λ b. b ≡ LeftAt o a v) ps
    (leave_places_of_leaves f k.run o a v ps only all k.run.run k.run.whole))

pub entry_places_are_placed : (f : FittedTrace) → IsFitted f → (o : ℕ) (a : Access) (v : ℕ) (ps : List Place) → OnlyEntries f o a v ps
    → AllEntries f o a v ps → (n : ℕ) → n ≡ length f.guest.entries → ArePlacedBetween n ps
entry_places_are_placed f k o a v ps only all n size =
    subst (λ z. ArePlacedBetween z ps) (sym size) (step_places_are_placed f k.run k.run.run k.run.whole k.within (λ b. (l : ℕ) × (b ≡ EnteredAt o a v l)) ps
    (entry_places_of_entries f k.run o a v ps only all k.run.run k.run.whole))

pub places_iff_leaves_inside : (f : FittedTrace) → IsFitted f → (o : ℕ) (a : Access) (v : ℕ) (ps : List Place) → OnlyLeaves f o a v ps
    → AllLeaves f o a v ps → (xs : List ℕ)
    → EachPlace ps (length ps) (λ p. p.position < cut_of xs p.thread) ↔ EachRun f (λ run. AreInside f run (λ b. b ≡ LeftAt o a v) (cut_of xs))
places_iff_leaves_inside f k o a v ps only all xs = (
  (λ each run is. steps_inside_by_places f run (λ b. b ≡ LeftAt o a v) ps (leave_places_of_leaves f k.run o a v ps only all run is) (cut_of xs) each),
  (λ inside. places_inside_by_steps f k.run.run (λ b. b ≡ LeftAt o a v) ps (leave_places_of_leaves f k.run o a v ps only all k.run.run k.run.whole) (cut_of xs)
      (inside k.run.run k.run.whole)),
)

pub raised_for_leaves : (f : FittedTrace) → IsFitted f → (o : ℕ) (a : Access) (v : ℕ) (ps : List Place) → OnlyLeaves f o a v ps
    → AllLeaves f o a v ps → (old new : List ℕ) → IsRaised old new ps (length ps)
    → EachRun f (λ run. RaisedFor f run (λ b. b ≡ LeftAt o a v) old new)
raised_for_leaves f k o a v ps only all old new r run is =
    raised_by_places f run (λ b. b ≡ LeftAt o a v) ps (leave_places_of_leaves f k.run o a v ps only all run is) old new r

pub lowered_for_entries : (f : FittedTrace) → IsFitted f → (o : ℕ) (a : Access) (v : ℕ) (ps : List Place) → OnlyEntries f o a v ps
    → AllEntries f o a v ps → (old new : List ℕ) → IsLowered old new ps (length ps)
    → EachRun f (λ run. LoweredFor f run (λ b. (l : ℕ) × (b ≡ EnteredAt o a v l)) old new)
lowered_for_entries f k o a v ps only all old new r run is =
    lowered_by_places f run (λ b. (l : ℕ) × (b ≡ EnteredAt o a v l)) ps (entry_places_of_entries f k.run o a v ps only all run is) old new r
