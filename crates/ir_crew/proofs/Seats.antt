-- Seats that are joined and split keep the rule, and it holds at the start.
use Rattle.std.proofs.Common.{◌≡◌, ◌≢◌, ℕ, zero, suc, ◌+◌, ◌==◌, ◌<◌, ◌≤◌, Bool, if◌then◌else◌, List, [], ◌∷◌, ◌++◌, length, set, refl, sym}
use Rattle.std.proofs.Common.{ap, ◌∙◌, subst, arith, inl, inr, ⊎_elim, ◌⊎◌, eq-eqb, ne_eqb, length-set, drop, take}
use mathlib.Core.Option.{some, some-injective, some-ne-none}
use Rattle.ir_lemmas.proofs.CallerLemmas.{append_item_cases}
use lib.ListN.{get_elem?}
use Rattle.atomic_table.specs.Table.{Splits, Joins, opening}
use Rattle.atomic_table.proofs.Lists.{at_set}
use Rattle.ir_image.specs.Guest.{Guest, object_count}
use Rattle.ir_image.specs.Bounds.{IsGuest}
use Rattle.ir_runs.specs.Machine.{Object}
use Rattle.ir_object.specs.Order.{Shared}
use Rattle.ir_crew.specs.Rule.{CrewView, start_objects, IsCrewTable, FitsTable, KeptByRule, crew_tracks_from}
use Rattle.ir_crew.proofs.Steps.{track}

-- ---- two seats become one

joined_tracks_stay : (n : ℕ) (f : ℕ → Object) (es : List (ℕ × Shared)) (seat : ℕ → ℕ) (id other j : ℕ) (v : CrewView) → j ≢ other → FitsTable n f es seat j v
    → FitsTable n f es (λ u. if seat u == other then id else seat u) j v
joined_tracks_stay n f es seat id other j [] ne h = tt
joined_tracks_stay n f es seat id other j (k ∷ ks) ne h = (
  (h.0.0, ap (λ (b : Bool). if b then id else seat k.thread) (ne_eqb (seat k.thread) other (λ e. ne (sym h.0.1 ∙ e))) ∙ h.0.1),
  joined_tracks_stay n f
      es seat id other j ks ne h.1,
)

tracks_after_seats_join : (n : ℕ) (f : ℕ → Object) (es : List (ℕ × Shared)) (seat : ℕ → ℕ) (id other : ℕ) (v w : CrewView)
    → FitsTable n f es (λ u. if seat u == other then id else seat u) id v → FitsTable n f es seat other w
    → FitsTable n f es (λ u. if seat u == other then id else seat u) id (v ++ w)
tracks_after_seats_join n f es seat id other [] [] h i = tt
tracks_after_seats_join n f es seat id other [] (k ∷ ks) h i = (
  (
    i.0.0,
    ap (λ (b : Bool). if b then id else seat k.thread)
        (eq-eqb (seat k.thread) other i.0.1),
  ),
  tracks_after_seats_join n f es seat id other [] ks tt i.1,
)
tracks_after_seats_join n f es seat id other (k ∷ ks) w h i = (h.0, tracks_after_seats_join n f es seat id other ks w h.1 i)

pub kept_seats_join : (g : Guest) (id other : ℕ) (v w : CrewView) → Joins (KeptByRule g) id v other w (v ++ w) []
kept_seats_join g id other v w x k at apart at' =
    let n : ℕ = length g.entries in
    let f : ℕ → Object = start_objects g in
    let seat : ℕ → ℕ = λ u. if k.seat u == other then id else k.seat u in
    let was : get_elem? x.views other ≡ some w =
    ⊎_elim (λ (q : (other ≡ id) × (v ++ w ≡ w)). absurd (apart q.0)) (λ (q : (other ≢ id) × (get_elem? x.views other ≡ some w)). q.1)
    (at_set x.views id other (v ++ w) w at') in
    let mine : FitsTable n f k.steps seat id v = joined_tracks_stay n f k.steps k.seat id other id v (λ e. apart (sym e)) (k.fits id v at) in record {
      guest = k.guest;
      steps = k.steps;
      seat = seat;
      legal = k.legal;
      few = k.few;
      fits = λ j u e. ⊎_elim
          (λ (q : (j ≡ other) × ([] ≡ u)). subst (FitsTable n f k.steps seat j) q.1 tt)
          (λ (q : (j ≢ other) × (get_elem? (set x.views id (v ++ w)) j ≡ some u)). ⊎_elim
          (λ (r : (j ≡ id) × (v ++ w ≡ u)). subst (λ (z : ℕ). FitsTable n f k.steps seat z u) (sym r.0) (subst (FitsTable n f k.steps seat id) r.1
          (tracks_after_seats_join n f k.steps k.seat id other v w mine (k.fits other w was))))
          (λ (r : (j ≢ id) × (get_elem? x.views j ≡ some u)). joined_tracks_stay n f k.steps k.seat id other j u q.0 (k.fits j u r.1))
          (at_set x.views id j (v ++ w) u q.1))
          (at_set (set x.views id (v ++ w)) other j [] u e);
      table = k.table;
    }

-- ---- the first thread of a seat gets a seat of its own

reseat_keeps_later_tracks : (n : ℕ) (f : ℕ → Object) (es : List (ℕ × Shared)) (seat : ℕ → ℕ) (t new id u m : ℕ) → t < u → FitsTable n f es seat id (crew_tracks_from u m)
    → FitsTable n f es (λ z. if z == t then new else seat z) id (crew_tracks_from u m)
reseat_keeps_later_tracks n f es seat t new id u zero lt h = tt
reseat_keeps_later_tracks n f es seat t new id u (suc m) lt h = (
  (h.0.0, ap (λ (b : Bool). if b then new else seat u) (ne_eqb u t (λ e. omega (arith, e, lt))) ∙ h.0.1),
  reseat_keeps_later_tracks n f es seat t new id
      (suc u) m (omega (arith, lt)) h.1,
)

reseat_keeps_other_tracks : (n : ℕ) (f : ℕ → Object) (es : List (ℕ × Shared)) (seat : ℕ → ℕ) (t new j : ℕ) (v : CrewView) → seat t ≢ j → FitsTable n f es seat j v
    → FitsTable n f es (λ z. if z == t then new else seat z) j v
reseat_keeps_other_tracks n f es seat t new j [] ne h = tt
reseat_keeps_other_tracks n f es seat t new j (k ∷ ks) ne h = (
  (h.0.0, ap (λ (b : Bool). if b then new else seat k.thread) (ne_eqb k.thread t (λ e. ne (ap seat (sym e) ∙ h.0.1))) ∙ h.0.1),
  reseat_keeps_other_tracks
      n f es seat t new j ks ne h.1,
)

pub tracks_split_off_first : (g : Guest) (id t m : ℕ) (v : CrewView) → v ≡ crew_tracks_from t (suc m) → Splits (KeptByRule g) id v (drop 1 v) (take 1 v)
tracks_split_off_first g id t m v is x k at =
    let n : ℕ = length g.entries in
    let f : ℕ → Object = start_objects g in
    let at₀ : get_elem? x.views id ≡ some (crew_tracks_from t (suc m)) = at ∙ ap some is in
    let h = k.fits id (crew_tracks_from t (suc m)) at₀ in
    let new : ℕ = length x.views in
    let seat : ℕ → ℕ = λ z. if z == t then new else k.seat z in
    let wide : length (set x.views id (crew_tracks_from (suc t) m)) ≡ new = length-set x.views id (crew_tracks_from (suc t) m) in
    let done : KeptByRule g (record {
      words = x.words;
      homes = x.homes;
      views = set x.views id (crew_tracks_from (suc t) m) ++ (track t [] ∷ [])
          ∷ [];
    }) = record {
      guest = k.guest;
      steps = k.steps;
      seat = seat;
      legal = k.legal;
      few = k.few;
      fits = λ j u e. ⊎_elim
          (λ (was : get_elem? (set x.views id (crew_tracks_from (suc t) m)) j ≡ some u). ⊎_elim
          (λ (r : (j ≡ id) × (crew_tracks_from (suc t) m ≡ u)). subst (λ (z : ℕ). FitsTable n f k.steps seat z u) (sym r.0)
          (subst (FitsTable n f k.steps seat id) r.1
          (reseat_keeps_later_tracks n f k.steps k.seat t new id (suc t) m (omega arith) h.1)))
          (λ (r : (j ≢ id) × (get_elem? x.views j ≡ some u)). reseat_keeps_other_tracks n f k.steps k.seat t new j u (λ e. r.0 (sym e ∙ h.0.1))
          (k.fits j u r.1))
          (at_set x.views id j (crew_tracks_from (suc t) m) u was))
          (λ (q : (j ≡ length (set x.views id (crew_tracks_from (suc t) m))) × (track t [] ∷ [] ≡ u)). subst (FitsTable n f k.steps seat j) q.1
          ((h.0.0, ap (λ (b : Bool). if b then new else k.seat t) (eq-eqb t t refl) ∙ (sym wide ∙ sym q.0)), tt))
          (append_item_cases (set x.views id (crew_tracks_from (suc t) m)) (track t [] ∷ []) u j e);
      table = k.table;
    } in
    subst (λ (z : CrewView). KeptByRule g (record {
      words = x.words;
      homes = x.homes;
      views = set x.views id (drop 1 z) ++ take 1 z
          ∷ [];
    })) (sym is) done

-- ---- the table as it is made

start_tracks_fit : (n : ℕ) (f : ℕ → Object) (u m : ℕ) → u + m ≤ n → FitsTable n f [] (λ _. 0) 0 (crew_tracks_from u m)
start_tracks_fit n f u zero le = tt
start_tracks_fit n f u (suc m) le = (
  (record { thread = omega (arith, le); steps_are = refl; labels_are = refl }, refl),
  start_tracks_fit n f (suc u) m
      (omega (arith, le)),
)

pub kept_at_opening : (g : Guest) (ws : List ℕ) → IsGuest g → IsCrewTable (length g.entries) (object_count g) (start_objects g) ws
    → KeptByRule g (opening ws [] (crew_tracks_from 0 (length g.entries)))
kept_at_opening g ws guest table = record {
  guest = guest;
  steps = [];
  seat = λ _. 0;
  legal = tt;
  few = λ t. omega arith;
  fits = at_first;
  table = table;
}
  where
    at_first : (id : ℕ) (v : CrewView) → get_elem? (crew_tracks_from 0 (length g.entries) ∷ []) id ≡ some v
        → FitsTable (length g.entries) (start_objects g) [] (λ _. 0) id v
    at_first zero v e = subst (FitsTable (length g.entries) (start_objects g) [] (λ _. 0) 0)
        (some-injective (crew_tracks_from 0 (length g.entries)) v e)
        (start_tracks_fit (length g.entries) (start_objects g) 0 (length g.entries) (omega arith))
    at_first (suc id) v e = absurd (some-ne-none v (sym e))
