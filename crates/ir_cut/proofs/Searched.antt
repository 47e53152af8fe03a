-- The way to the least and to the greatest consistent cut.
use Rattle.std.proofs.Common.{◌≡◌, ◌≢◌, ℕ, max, min, ◌+◌, ◌<◌, ◌≤◌, List, length, Some, refl, sym, ap, ◌∙◌, subst, arith, inl, inr}
use Rattle.std.specs.Prelude.{slice_get}
use Rattle.std.specs.List.{slice_index_or}
use Rattle.std.proofs.lemmas.Bool.{cases_eq, cases_lt}
use Rattle.std.proofs.lemmas.List.{get_or_past}
use Rattle.std.proofs.lemmas.Option.{slice_get_within, slice_get-get_or, get_or_from_slice_get}
use Rattle.ir_runs.specs.Machine.{Label, Quiet, Answer, EnteredAt, FailedTry, LeftAt}
use Rattle.ir_runs.specs.declared.access.Access.{Access}
use Rattle.ir_runs.specs.declared.access.Access.TheVariants.{Reading, Writing}
use Rattle.ir_runs.specs.Run.{Step, count, Emits, IsNeededBy, Cut, IsCut, Consistent, IsLeast, IsGreatest}
use Rattle.ir_log.specs.Logging.{label_of}
use Rattle.ir_log.specs.declared.event.Event.{Event}
use Rattle.ir_trace.specs.Recorded.{recorded_thread}
use Rattle.ir_fit.specs.Fit.{FittedTrace, HasRun, IsRunOf}
use Rattle.ir_fit.specs.Placed.{placed_at, placed_of}
use Rattle.ir_fit.specs.declared.leave.Leave.{Leave}
use Rattle.ir_cut.specs.Positions.{machine_of, start_of, cut_of}
use Rattle.ir_cut.specs.Searching.{AreInside, AreOutside, RaisedFor, LoweredFor, NeededBy, Needing, Rising, Falling, NoneBelow, NoneAbove, HasBelow, AreFirst, AreRest}
use Rattle.ir_cut.proofs.Again.{emitting_below_threads, emitting_step_in_count}
use Rattle.ir_cut.proofs.Listing.{IsListed}

-- ---- what needs something is an entry

pub record IsEntryLabel (k : Label) : Type 0 where
  pub object : ℕ
  pub access : Access
  pub version : ℕ
  pub left : ℕ
  pub is : k ≡ EnteredAt object access version left

pub needing_label_is_entry : (b a : Label) → IsNeededBy b a → IsEntryLabel a
needing_label_is_entry (LeftAt o Writing w) (EnteredAt p c v l) h = record { object = p; access = c; version = v; left = l; is = refl }
needing_label_is_entry (LeftAt o Writing w) Quiet h = absurd h
needing_label_is_entry (LeftAt o Writing w) (Answer k x) h = absurd h
needing_label_is_entry (LeftAt o Writing w) (FailedTry p) h = absurd h
needing_label_is_entry (LeftAt o Writing w) (LeftAt p c v) h = absurd h
needing_label_is_entry (LeftAt o Reading w) (EnteredAt p Writing v l) h = record { object = p; access = Writing; version = v; left = l; is = refl }
needing_label_is_entry (LeftAt o Reading w) (EnteredAt p Reading v l) h = absurd h
needing_label_is_entry (LeftAt o Reading w) Quiet h = absurd h
needing_label_is_entry (LeftAt o Reading w) (Answer k x) h = absurd h
needing_label_is_entry (LeftAt o Reading w) (FailedTry p) h = absurd h
needing_label_is_entry (LeftAt o Reading w) (LeftAt p c v) h = absurd h
needing_label_is_entry Quiet a h = absurd h
needing_label_is_entry (Answer k x) a h = absurd h
needing_label_is_entry (EnteredAt p c v l) a h = absurd h
needing_label_is_entry (FailedTry p) a h = absurd h

-- and it needs a leave
pub record IsLeaveLabel (k : Label) : Type 0 where
  pub object : ℕ
  pub access : Access
  pub version : ℕ
  pub is : k ≡ LeftAt object access version

pub needed_label_is_leave : (b a : Label) → IsNeededBy b a → IsLeaveLabel b
needed_label_is_leave (LeftAt o c w) a h = record { object = o; access = c; version = w; is = refl }
needed_label_is_leave Quiet a h = absurd h
needed_label_is_leave (Answer k x) a h = absurd h
needed_label_is_leave (EnteredAt p c v l) a h = absurd h
needed_label_is_leave (FailedTry p) a h = absurd h

-- ---- an element of a list

pub slice_get_unique : {A : Type 0} (xs : List A) (i j : ℕ) (x y : A) → i ≡ j → slice_get xs i ≡ Some x → slice_get xs j ≡ Some y → x ≡ y
slice_get_unique xs i j x y is e d = sym (get_or_from_slice_get xs i x x e) ∙ ap (λ k. slice_index_or xs k x) is
    ∙ get_or_from_slice_get xs j y x d

positive_count_below : (next : List ℕ) (n u e : ℕ) → length next ≡ n → e < cut_of next u → u < n
positive_count_below next n u e size l = elim (cases_lt u n) [
  | inl less ↦ less
  | inr past ↦ let none : cut_of next u ≡ 0 = get_or_past next u 0 (omega (arith, size, past)) in absurd (omega (arith, none, l))
]

-- ---- upwards

pub inside_larger_cut : (f : FittedTrace) (run : List Step) (P : Label → Type 0) (c d : Cut) → ((u : ℕ) → c u ≤ d u) → AreInside f run P c
    → AreInside f run P d
inside_larger_cut f run P c d up h t i k emits is = let l = h t i k emits is in let m = up t in omega (arith, l, m)

-- what an event of a step in a consistent cut needs is inside
pub needs_are_inside : (f : FittedTrace) (run : List Step) (c : Cut) → Consistent (machine_of f) (start_of f) run c → (t i : ℕ) (k : Label)
    → Emits (machine_of f) (start_of f) run t i k → i < c t → AreInside f run (NeededBy k) c
needs_are_inside f run c con t i k emits l u j b at n = con t i u j k b emits at n l

pub start_is_rising : (f : FittedTrace) (run : List Step) → IsRunOf f.guest f.recorded run → IsListed f run → (ps qs next : List ℕ) (t k : ℕ)
    → IsCut (machine_of f) (start_of f) run (cut_of ps) → Consistent (machine_of f) (start_of f) run (cut_of ps)
    → t < length f.guest.entries → k ≤ (recorded_thread f.recorded t).steps → cut_of qs t ≡ max (cut_of ps t) k
    → ((u : ℕ) → u ≢ t → cut_of qs u ≡ cut_of ps u)
    → length next ≡ length f.guest.entries → ((u : ℕ) → u < length f.guest.entries → AreFirst f ps u (cut_of next u))
    → Rising f ps t k qs next run
start_is_rising f run is list ps qs next t k cut con there steps own rest size first =
    let up : (u : ℕ) → cut_of ps u ≤ cut_of qs u =
    λ u. elim (cases_eq u t) [
      | inl same ↦ subst (λ z. cut_of ps z ≤ cut_of qs z) (sym same) (omega (arith, own))
      | inr ne ↦
          omega (arith, rest u ne)
    ] in
    record {
      above = up;
      reaches = omega (arith, own);
      cut = λ u. elim (cases_eq u t) [
        | inl same ↦ subst (λ z. cut_of qs z ≤ count (machine_of f) (start_of f) run z) (sym same)
            (let a = cut t in let b = is.1.steps t there in omega (arith, own, a, b, steps))
        | inr ne ↦ let a = cut u in omega (arith, rest u ne, a)
      ];
      least = λ c _ _ over reach u. elim (cases_eq u t) [
        | inl same ↦ subst (λ z. cut_of qs z ≤ c z) (sym same) (let a = over t in omega (arith, own, a, reach))
        | inr ne ↦ let a = over u in omega (arith, rest u ne, a)
      ];
      met = λ u e x l at.
          let less : u < length f.guest.entries = positive_count_below next (length f.guest.entries) u e size l in
          let inside : e < length (placed_at (placed_of f) u).entries =
          (let a = slice_get_within (recorded_thread f.recorded u).events e x at in let b = list.sizes u less in omega (arith, a, b)) in
          let i : ℕ = slice_index_or (placed_at (placed_of f) u).entries e 0 in
          let place : slice_get (placed_at (placed_of f) u).entries e ≡ Some i = slice_get-get_or (placed_at (placed_of f) u).entries e 0 inside in
          inside_larger_cut f run (NeededBy (label_of x)) (cut_of ps) (cut_of qs) up
          (needs_are_inside f run (cut_of ps) con u i (label_of x) (list.event u e i x less at place) (first u less e i l place));
    }

pub rising_step : (f : FittedTrace) (run : List Step) → IsListed f run → (ps qs qs' next next' : List ℕ) (t k u : ℕ) (x : Event)
    → Rising f ps t k qs next run → u < length f.guest.entries → HasBelow f qs next u
    → slice_get (recorded_thread f.recorded u).events (cut_of next u) ≡ Some x → RaisedFor f run (NeededBy (label_of x)) qs qs'
    → cut_of next' u ≡ cut_of next u + 1 → ((w : ℕ) → w ≢ u → cut_of next' w ≡ cut_of next w)
    → Rising f ps t k qs' next' run
rising_step f run list ps qs qs' next next' t k u x r there below at raised own rest =
    let emits : Emits (machine_of f) (start_of f) run u below.0 (label_of x) = list.event u (cut_of next u) below.0 x there at below.1 in
    record {
      above = λ w. let a = r.above w in let b = raised.above w in omega (arith, a, b);
      reaches = let a = r.reaches in let b = raised.above t in omega (arith, a, b);
      cut = raised.least (count (machine_of f) (start_of f) run) r.cut (λ w j b says _. emitting_step_in_count f run w j b says);
      least = λ c cut con over reach.
          let low = r.least c cut con over reach in
          raised.least c low (needs_are_inside f run c con u below.0 (label_of x) emits (let a = below.2 in let b = low u in omega (arith, a, b)));
      met = λ w e y l says. elim (cases_eq w u) [
        | inr ne ↦ inside_larger_cut f run (NeededBy (label_of y)) (cut_of qs) (cut_of qs') raised.above
            (r.met w e y (omega (arith, l, rest w ne)) says)
        | inl same ↦
            let l' : e < cut_of next u + 1 = subst (λ z. e < z) (ap (cut_of next') same ∙ own) l in
            let says' : slice_get (recorded_thread f.recorded u).events e ≡ Some y =
            subst (λ z. slice_get (recorded_thread f.recorded z).events e ≡ Some y) same says in
            elim (cases_lt e (cut_of next u)) [
              | inl less ↦ inside_larger_cut f run (NeededBy (label_of y)) (cut_of qs) (cut_of qs') raised.above (r.met u e y less says')
              | inr past ↦ subst (λ z. AreInside f run (NeededBy (label_of z)) (cut_of qs'))
                  (slice_get_unique (recorded_thread f.recorded u).events (cut_of next u) e x y
                  (let d : cut_of next u ≡ e = omega (arith, l', past) in d) at says') raised.inside
            ]
      ];
    }

-- an event in the cut is among the first of its thread, where none is below
inside_event_is_counted : (f : FittedTrace) (run : List Step) → IsListed f run → (qs next : List ℕ) (t e i : ℕ) → t < length f.guest.entries
    → NoneBelow f qs next t → slice_get (placed_at (placed_of f) t).entries e ≡ Some i → i < cut_of qs t → e < cut_of next t
inside_event_is_counted f run list qs next t e i there none place l = elim (cases_lt e (cut_of next t)) [
  | inl less ↦ less
  | inr past ↦
      let inside : cut_of next t < length (placed_at (placed_of f) t).entries =
      (let a = slice_get_within (placed_at (placed_of f) t).entries e i place in omega (arith, a, past)) in
      let j : ℕ = slice_index_or (placed_at (placed_of f) t).entries (cut_of next t) 0 in
      let first : slice_get (placed_at (placed_of f) t).entries (cut_of next t) ≡ Some j =
      slice_get-get_or (placed_at (placed_of f) t).entries (cut_of next t) 0 inside in
      let far = none j first in
      elim (cases_lt (cut_of next t) e) [
        | inl before ↦ let up = list.rise t (cut_of next t) e j i there before first place in absurd (omega (arith, far, up, l))
        | inr same ↦ let one : j ≡ i = slice_get_unique (placed_at (placed_of f) t).entries (cut_of next t) e j i
            (let d : cut_of next t ≡ e = omega (arith, same, past) in d) first place in absurd (omega (arith, one, far, l))
      ]
]

pub rising_end_is_least : (f : FittedTrace) → HasRun f → (run : List Step) → IsRunOf f.guest f.recorded run → IsListed f run
    → (ps qs next : List ℕ) (t k : ℕ) → Rising f ps t k qs next run → ((u : ℕ) → u < length f.guest.entries → NoneBelow f qs next u)
    → IsLeast (machine_of f) (start_of f) run (cut_of ps) t k (cut_of qs)
rising_end_is_least f h run is list ps qs next t k r none = record {
  cut = r.cut;
  consistent = λ u i w j a b at says n l.
      let there : u < length f.guest.entries = emitting_below_threads f h run is u i a at in
      let x = needing_label_is_entry b a n in
      let e = list.entry u i x.object x.access x.version x.left (subst (Emits (machine_of f) (start_of f) run u i) x.is at) in
      r.met u e.0 e.1 (inside_event_is_counted f run list qs next u e.0 i there (none u there) e.2 l) e.3 w j b says (subst (IsNeededBy b) (x.is ∙ sym e.4) n);
  above = r.above;
  reaches = r.reaches;
  least = r.least;
}

-- ---- downwards

pub outside_smaller_cut : (f : FittedTrace) (run : List Step) (P : Label → Type 0) (c d : Cut) → ((u : ℕ) → d u ≤ c u) → AreOutside f run P c
    → AreOutside f run P d
outside_smaller_cut f run P c d down h t i k emits is = let l = h t i k emits is in let m = down t in omega (arith, l, m)

-- what needs a leave that isn't in a consistent cut is outside
pub needing_are_outside : (f : FittedTrace) (run : List Step) (c : Cut) → Consistent (machine_of f) (start_of f) run c → (t i : ℕ) (b : Label)
    → Emits (machine_of f) (start_of f) run t i b → c t ≤ i → AreOutside f run (λ a. IsNeededBy b a) c
needing_are_outside f run c con t i b emits l u j a at n = elim (cases_lt j (c u)) [
  | inr past ↦ past
  | inl less ↦ let inside = con u j t i a b at emits n less in absurd (omega (arith, inside, l))
]

pub start_is_falling : (f : FittedTrace) (run : List Step) → IsListed f run → (ps qs next : List ℕ) (t k : ℕ)
    → Consistent (machine_of f) (start_of f) run (cut_of ps) → t < length f.guest.entries
    → cut_of qs t ≡ min (cut_of ps t) k → ((u : ℕ) → u ≢ t → cut_of qs u ≡ cut_of ps u)
    → ((u : ℕ) → u < length f.guest.entries → AreRest f ps u (cut_of next u))
    → ((u e : ℕ) (l : Leave) → slice_get (placed_at (placed_of f) u).leaves e ≡ Some l → u < length f.guest.entries)
    → Falling f ps t k qs next run
start_is_falling f run list ps qs next t k con there own rest each known =
    let down : (u : ℕ) → cut_of qs u ≤ cut_of ps u =
    λ u. elim (cases_eq u t) [
      | inl same ↦ subst (λ z. cut_of qs z ≤ cut_of ps z) (sym same) (omega (arith, own))
      | inr ne ↦
          omega (arith, rest u ne)
    ] in
    record {
      below = down;
      reaches = omega (arith, own);
      greatest = λ c _ _ under reach u. elim (cases_eq u t) [
        | inl same ↦ subst (λ z. c z ≤ cut_of qs z) (sym same) (let a = under t in omega (arith, own, a, reach))
        | inr ne ↦ let a = under u in omega (arith, rest u ne, a)
      ];
      unmet = λ u e l past at.
          let less : u < length f.guest.entries = known u e l at in
          outside_smaller_cut f run (Needing l) (cut_of ps) (cut_of qs) down
          (needing_are_outside f run (cut_of ps) con u l.position (LeftAt l.object l.access l.version) (list.left u e l less at)
          ((each u less).outside e l past at));
    }

pub falling_step : (f : FittedTrace) (run : List Step) → IsListed f run → (ps qs qs' next next' : List ℕ) (t k u : ℕ) (x : Leave) (last : ℕ)
    → Falling f ps t k qs next run → u < length f.guest.entries → cut_of next u ≡ last + 1
    → slice_get (placed_at (placed_of f) u).leaves last ≡ Some x → cut_of qs u ≤ x.position → LoweredFor f run (Needing x) qs qs'
    → cut_of next' u ≡ last → ((w : ℕ) → w ≢ u → cut_of next' w ≡ cut_of next w)
    → Falling f ps t k qs' next' run
falling_step f run list ps qs qs' next next' t k u x last r there was at far lowered own rest = record {
  below = λ w. let a = r.below w in let b = lowered.below w in omega (arith, a, b);
  reaches = let a = r.reaches in let b = lowered.below t in omega (arith, a, b);
  greatest = λ c cut con under reach.
      let high = r.greatest c cut con under reach in
      lowered.greatest c high (needing_are_outside f run c con u x.position (LeftAt x.object x.access x.version) (list.left u last x there at)
      (let a = high u in omega (arith, a, far)));
  unmet = λ w e l past says. elim (cases_eq w u) [
    | inr ne ↦ outside_smaller_cut f run (Needing l) (cut_of qs) (cut_of qs') lowered.below (r.unmet w e l (omega (arith, past, rest w ne)) says)
    | inl same ↦
        let past' : last ≤ e = subst (λ z. z ≤ e) (ap (cut_of next') same ∙ own) past in
        let says' : slice_get (placed_at (placed_of f) u).leaves e ≡ Some l =
        subst (λ z. slice_get (placed_at (placed_of f) z).leaves e ≡ Some l) same says in
        elim (cases_lt last e) [
          | inl inside_event_is_counted ↦ outside_smaller_cut f run (Needing l) (cut_of qs) (cut_of qs') lowered.below
              (r.unmet u e l (omega (arith, was, inside_event_is_counted)) says')
          | inr equal ↦ subst (λ z. AreOutside f run (Needing z) (cut_of qs'))
              (slice_get_unique (placed_at (placed_of f) u).leaves last e x l (let d : last ≡ e = omega (arith, equal, past') in d) at says')
              lowered.outside
        ]
  ];
}

pub falling_end_is_greatest : (f : FittedTrace) → HasRun f → (run : List Step) → IsRunOf f.guest f.recorded run → IsListed f run
    → (ps qs next : List ℕ) (t k : ℕ) → IsCut (machine_of f) (start_of f) run (cut_of ps) → Falling f ps t k qs next run
    → ((u : ℕ) → u < length f.guest.entries → NoneAbove f qs next u)
    → IsGreatest (machine_of f) (start_of f) run (cut_of ps) t k (cut_of qs)
falling_end_is_greatest f h run is list ps qs next t k cut r none = record {
  cut = λ u. let a = r.below u in let b = cut u in omega (arith, a, b);
  consistent = λ u i w j a b at says n l.
      let there : w < length f.guest.entries = emitting_below_threads f h run is w j b says in
      let x = needed_label_is_leave b a n in
      let e = list.leave w j x.object x.access x.version (subst (Emits (machine_of f) (start_of f) run w j) x.is says) in
      elim (cases_lt e.0 (cut_of next w)) [
        | inl first ↦ none w there e.0 (record { position = j; object = x.object; access = x.access; version = x.version }) first e.1
        | inr past ↦ let out = r.unmet w e.0 (record { position = j; object = x.object; access = x.access; version = x.version }) past e.1 u
            i a at (subst (λ z. IsNeededBy z a) x.is n) in absurd (omega (arith, out, l))
      ];
  below = r.below;
  reaches = r.reaches;
  greatest = r.greatest;
}
