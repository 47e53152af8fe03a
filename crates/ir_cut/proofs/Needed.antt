-- What entries need, and what needs leaves.
use Rattle.std.proofs.Common.{◌≡◌, ℕ, suc, ◌+◌, ◌-◌, ◌<◌, ◌≤◌, ◌^◌, ◌⊎◌, ◌↔◌, Bool, false, List, length, refl, sym, ap, ◌∙◌, subst, arith, inl, inr, IsTrue}
use Rattle.ir_runs.specs.Machine.{Label, Quiet, Answer, EnteredAt, FailedTry, LeftAt}
use Rattle.ir_runs.specs.declared.access.Access.TheVariants.{Reading, Writing}
use Rattle.ir_runs.specs.declared.env_kind.EnvKind.{EnvKind}
use Rattle.ir_log.specs.Logging.{label_of}
use Rattle.ir_log.specs.declared.event.Event.{Event}
use Rattle.ir_log.specs.declared.event.Event.TheVariants.{Read, Write}
use Rattle.ir_runs.specs.Run.{Emits, IsNeededBy, Cut}
use Rattle.ir_fit.specs.Fit.{FittedTrace}
use Rattle.ir_fit.specs.Within.{IsFitted}
use Rattle.ir_fit.specs.declared.leave.Leave.{Leave}
use Rattle.ir_cut.specs.Moving.{EachPlace, IsRaised, IsLowered}
use Rattle.ir_cut.specs.Positions.{machine_of, start_of, cut_of, EachRun}
use Rattle.ir_cut.specs.Searching.{AreInside, RaisedFor, LoweredFor, NeededBy, Needing, IsEntryAt}
use Rattle.ir_fit.specs.Listed.{OnlyLeaves, AllLeaves, OnlyEntries, AllEntries}
use Rattle.ir_fit.specs.declared.place.Place.{Place}
use Rattle.ir_cut.proofs.Sought.{places_iff_leaves_inside, raised_for_leaves, lowered_for_entries, raised_for_union, raised_for_equivalent}
use Rattle.ir_cut.proofs.Sought.{no_label_no_raise, lowered_for_union, lowered_for_equivalent, no_label_no_lowering}
use Rattle.ir_cut.proofs.Again.{entered_version_is_word}

-- ---- an entry needs the leave that made its version

pub first_read_needs_none : (o v l : ℕ) → v ≡ 0 → (b : Label) → NeededBy (EnteredAt o Reading v l) b → ⊥
first_read_needs_none o v l is Quiet h = h
first_read_needs_none o v l is (Answer k x) h = h
first_read_needs_none o v l is (EnteredAt p a w i) h = h
first_read_needs_none o v l is (FailedTry p) h = h
first_read_needs_none o v l is (LeftAt p Reading w) h = h
first_read_needs_none o v l is (LeftAt p Writing w) h = let e = h.1 in omega (arith, is, e)

pub reading_needs_write_leave : (o v w l : ℕ) → v ≡ w + 1 → (b : Label) → NeededBy (EnteredAt o Reading v l) b → b ≡ LeftAt o Writing w
reading_needs_write_leave o v w l is Quiet h = absurd h
reading_needs_write_leave o v w l is (Answer k x) h = absurd h
reading_needs_write_leave o v w l is (EnteredAt p a u i) h = absurd h
reading_needs_write_leave o v w l is (FailedTry p) h = absurd h
reading_needs_write_leave o v w l is (LeftAt p Reading u) h = absurd h
reading_needs_write_leave o v w l is (LeftAt p Writing u) h = let e = h.1 in ap (λ z. LeftAt z Writing u) h.0
    ∙ ap (LeftAt o Writing) (let d : u ≡ w = omega (arith, is, e) in d)

pub write_leave_needed : (o v w l : ℕ) → v ≡ w + 1 → (b : Label) → b ≡ LeftAt o Writing w → NeededBy (EnteredAt o Reading v l) b
write_leave_needed o v w l is b e = subst (NeededBy (EnteredAt o Reading v l)) (sym e) (refl, (let d : v ≡ suc w = omega (arith, is) in d))

-- ---- one for writing needs the readers' leaves of its version beside

pub writing_needs_cases : (o v l : ℕ) (b : Label) → NeededBy (EnteredAt o Writing v l) b → NeededBy (EnteredAt o Reading v 0) b ⊎ (b ≡ LeftAt o Reading v)
writing_needs_cases o v l Quiet h = absurd h
writing_needs_cases o v l (Answer k x) h = absurd h
writing_needs_cases o v l (EnteredAt p a w i) h = absurd h
writing_needs_cases o v l (FailedTry p) h = absurd h
writing_needs_cases o v l (LeftAt p Reading w) h = inr (ap (λ z. LeftAt z Reading w) h.0 ∙ ap (LeftAt o Reading) (sym h.1))
writing_needs_cases o v l (LeftAt p Writing w) h = inl h

pub writing_needs_reading : (o v l : ℕ) (b : Label) → NeededBy (EnteredAt o Reading v 0) b → NeededBy (EnteredAt o Writing v l) b
writing_needs_reading o v l Quiet h = h
writing_needs_reading o v l (Answer k x) h = h
writing_needs_reading o v l (EnteredAt p a w i) h = h
writing_needs_reading o v l (FailedTry p) h = h
writing_needs_reading o v l (LeftAt p Reading w) h = absurd h
writing_needs_reading o v l (LeftAt p Writing w) h = h

pub read_leave_needed : (o v l : ℕ) (b : Label) → b ≡ LeftAt o Reading v → NeededBy (EnteredAt o Writing v l) b
read_leave_needed o v l b e = subst (NeededBy (EnteredAt o Writing v l)) (sym e) (refl, refl)

pub answer_needs_nothing : (kind : EnvKind) (x : ℕ) (b : Label) → NeededBy (Answer kind x) b → ⊥
answer_needs_nothing kind x Quiet h = h
answer_needs_nothing kind x (Answer k y) h = h
answer_needs_nothing kind x (EnteredAt p a w i) h = h
answer_needs_nothing kind x (FailedTry p) h = h
answer_needs_nothing kind x (LeftAt p Reading w) h = h
answer_needs_nothing kind x (LeftAt p Writing w) h = h

-- ---- whether what an event needs is inside

-- where each step of one kind is of the other
inside_of_implied : (f : FittedTrace) (P R : Label → Type 0) → ((k : Label) → R k → P k) → (c : Cut) → EachRun f (λ run. AreInside f run P c)
    → EachRun f (λ run. AreInside f run R c)
inside_of_implied f P R to c h run is t i k emits r = h run is t i k emits (to k r)

pub reading_needs_test : (f : FittedTrace) → IsFitted f → (o v w : ℕ) (ps : List Place) → OnlyLeaves f o Writing w ps → AllLeaves f o Writing w ps
    → (xs : List ℕ) (b : Bool) → (1 ≤ v) × (w ≡ v - 1)
    → IsTrue b ↔ EachPlace ps (length ps) (λ p. p.position < cut_of xs p.thread)
    → IsTrue b ↔ EachRun f (λ run. AreInside f run (NeededBy (EnteredAt o Reading v 0)) (cut_of xs))
reading_needs_test f k o v w ps only all xs b is test =
    let next : v ≡ w + 1 = (let some = is.0 in let less = is.1 in omega (arith, some, less)) in
    let leaves = places_iff_leaves_inside f k o Writing w ps only all xs in (
      (λ so. inside_of_implied f (λ z. z ≡ LeftAt o Writing w) (NeededBy (EnteredAt o Reading v 0)) (reading_needs_write_leave o v w 0 next) (cut_of xs)
          (leaves.0 (test.0 so))),
      (λ h. test.1 (leaves.1 (inside_of_implied f (NeededBy (EnteredAt o Reading v 0)) (λ z. z ≡ LeftAt o Writing w) (write_leave_needed o v w 0 next) (cut_of xs)
          h))),
    )

pub read_event_needs_test : (f : FittedTrace) (x : Event) (o v : ℕ) (xs : List ℕ) (b : Bool) → x ≡ Read o v
    → IsTrue b ↔ EachRun f (λ run. AreInside f run (NeededBy (EnteredAt o Reading v 0)) (cut_of xs))
    → IsTrue b ↔ EachRun f (λ run. AreInside f run (NeededBy (label_of x)) (cut_of xs))
read_event_needs_test f x o v xs b is h = subst (λ z. IsTrue b ↔ EachRun f (λ run. AreInside f run (NeededBy (label_of z)) (cut_of xs))) (sym is) h

pub write_event_needs_test : (f : FittedTrace) → IsFitted f → (x : Event) (o v l : ℕ) (ps : List Place) → OnlyLeaves f o Reading v ps
    → AllLeaves f o Reading v ps → (xs : List ℕ) (a b : Bool) → x ≡ Write o v l → IsTrue a
    → IsTrue a ↔ EachRun f (λ run. AreInside f run (NeededBy (EnteredAt o Reading v 0)) (cut_of xs))
    → IsTrue b ↔ EachPlace ps (length ps) (λ p. p.position < cut_of xs p.thread)
    → IsTrue b ↔ EachRun f (λ run. AreInside f run (NeededBy (label_of x)) (cut_of xs))
write_event_needs_test f k x o v l ps only all xs a b is so made test =
    let leaves = places_iff_leaves_inside f k o Reading v ps only all xs in
    subst (λ z. IsTrue b ↔ EachRun f (λ run. AreInside f run (NeededBy (label_of z)) (cut_of xs))) (sym is) (
      (λ read run is t i m emits n. elim (writing_needs_cases o v l m n)
          [ inl maker ↦ made.0 so run is t i m emits maker | inr reader ↦ leaves.0 (test.0 read) run is t i m emits reader ]),
      (λ h. test.1 (leaves.1 (inside_of_implied f (NeededBy (EnteredAt o Writing v l)) (λ z. z ≡ LeftAt o Reading v) (read_leave_needed o v l) (cut_of xs) h))),
    )

pub false_write_needs_test : (f : FittedTrace) (x : Event) (o v l : ℕ) (xs : List ℕ) (a : Bool) → x ≡ Write o v l → a ≡ false
    → IsTrue a ↔ EachRun f (λ run. AreInside f run (NeededBy (EnteredAt o Reading v 0)) (cut_of xs))
    → IsTrue a ↔ EachRun f (λ run. AreInside f run (NeededBy (label_of x)) (cut_of xs))
false_write_needs_test f x o v l xs a is no_maker made =
    subst (λ z. IsTrue a ↔ EachRun f (λ run. AreInside f run (NeededBy (label_of z)) (cut_of xs))) (sym is) (
      (λ so. absurd (cc (so, no_maker))),
      (λ h. made.1 (inside_of_implied f (NeededBy (EnteredAt o Writing v l)) (NeededBy (EnteredAt o Reading v 0)) (writing_needs_reading o v l) (cut_of xs) h)),
    )

-- ---- positions raised for it

pub raised_for_reading : (f : FittedTrace) → IsFitted f → (o v w : ℕ) (ps : List Place) → OnlyLeaves f o Writing w ps → AllLeaves f o Writing w ps
    → (old new : List ℕ) → (1 ≤ v) × (w ≡ v - 1) → IsRaised old new ps (length ps)
    → EachRun f (λ run. RaisedFor f run (NeededBy (EnteredAt o Reading v 0)) old new)
raised_for_reading f k o v w ps only all old new is r run ok =
    let next : v ≡ w + 1 = (let some = is.0 in let less = is.1 in omega (arith, some, less)) in
    raised_for_equivalent f run (λ z. z ≡ LeftAt o Writing w) (NeededBy (EnteredAt o Reading v 0)) (reading_needs_write_leave o v w 0 next) (write_leave_needed o v w 0 next) old new
    (raised_for_leaves f k o Writing w ps only all old new r run ok)

pub raised_for_write_event : (f : FittedTrace) → IsFitted f → (x : Event) (o v l : ℕ) (ps : List Place) → OnlyLeaves f o Reading v ps
    → AllLeaves f o Reading v ps → (old cur new : List ℕ) → x ≡ Write o v l
    → EachRun f (λ run. RaisedFor f run (NeededBy (EnteredAt o Reading v 0)) old cur) → IsRaised cur new ps (length ps)
    → EachRun f (λ run. RaisedFor f run (NeededBy (label_of x)) old new)
raised_for_write_event f k x o v l ps only all old cur new is made r run ok = subst (λ z. RaisedFor f run (NeededBy (label_of z)) old new) (sym is)
    (raised_for_union f run (NeededBy (EnteredAt o Reading v 0)) (λ z. z ≡ LeftAt o Reading v) (NeededBy (EnteredAt o Writing v l)) (writing_needs_cases o v l)
    (writing_needs_reading o v l) (read_leave_needed o v l) old cur new (made run ok) (raised_for_leaves f k o Reading v ps only all cur new r run ok))

pub raised_for_read_event : (f : FittedTrace) (x : Event) (o v : ℕ) (old new : List ℕ) → x ≡ Read o v
    → EachRun f (λ run. RaisedFor f run (NeededBy (EnteredAt o Reading v 0)) old new)
    → EachRun f (λ run. RaisedFor f run (NeededBy (label_of x)) old new)
raised_for_read_event f x o v old new is h run ok = subst (λ z. RaisedFor f run (NeededBy (label_of z)) old new) (sym is) (h run ok)

-- nothing is needed of the first version, and by a result
pub first_version_no_raise : (f : FittedTrace) (o v : ℕ) (xs : List ℕ) → v ≡ 0
    → EachRun f (λ run. RaisedFor f run (NeededBy (EnteredAt o Reading v 0)) xs xs)
first_version_no_raise f o v xs is run ok = no_label_no_raise f run (NeededBy (EnteredAt o Reading v 0)) (λ t i k emits n. first_read_needs_none o v 0 is k n) xs

-- ---- positions lowered from what needs a leave

entry_reads_or_writes : (o v : ℕ) (k : Label) → IsEntryAt o v k → ((l : ℕ) × (k ≡ EnteredAt o Reading v l)) ⊎ ((l : ℕ) × (k ≡ EnteredAt o Writing v l))
entry_reads_or_writes o v k (Reading, l, e) = inl (l, e)
entry_reads_or_writes o v k (Writing, l, e) = inr (l, e)

pub lowered_for_any_entry : (f : FittedTrace) → IsFitted f → (o v : ℕ) (ps qs : List Place) → OnlyEntries f o Reading v ps
    → AllEntries f o Reading v ps → OnlyEntries f o Writing v qs → AllEntries f o Writing v qs
    → (old cur new : List ℕ) → IsLowered old cur ps (length ps) → IsLowered cur new qs (length qs)
    → EachRun f (λ run. LoweredFor f run (IsEntryAt o v) old new)
lowered_for_any_entry f k o v ps qs only all only' all' old cur new r s run ok =
    lowered_for_union f run (λ z. (l : ℕ) × (z ≡ EnteredAt o Reading v l)) (λ z. (l : ℕ) × (z ≡ EnteredAt o Writing v l)) (IsEntryAt o v) (entry_reads_or_writes o v)
    (λ z e. (Reading, e.0, e.1)) (λ z e. (Writing, e.0, e.1)) old cur new
    (lowered_for_entries f k o Reading v ps only all old cur r run ok) (lowered_for_entries f k o Writing v qs only' all' cur new s run ok)

-- what needs a leave after reading is an entry for writing at its version
needs_read_leave_cases : (o w : ℕ) (k : Label) → IsNeededBy (LeftAt o Reading w) k → (l : ℕ) × (k ≡ EnteredAt o Writing w l)
needs_read_leave_cases o w Quiet h = absurd h
needs_read_leave_cases o w (Answer j x) h = absurd h
needs_read_leave_cases o w (EnteredAt p Reading v l) h = absurd h
needs_read_leave_cases o w (EnteredAt p Writing v l) h = (l, ap (λ z. EnteredAt z Writing v l) (sym h.0) ∙ ap (λ z. EnteredAt o Writing z l) h.1)
needs_read_leave_cases o w (FailedTry p) h = absurd h
needs_read_leave_cases o w (LeftAt p a v) h = absurd h

write_needs_read_leave : (o w : ℕ) (k : Label) → (l : ℕ) × (k ≡ EnteredAt o Writing w l) → IsNeededBy (LeftAt o Reading w) k
write_needs_read_leave o w k e = subst (IsNeededBy (LeftAt o Reading w)) (sym e.1) (refl, refl)

pub lowered_for_read_leave : (f : FittedTrace) → IsFitted f → (x : Leave) (ps : List Place) → OnlyEntries f x.object Writing x.version ps
    → AllEntries f x.object Writing x.version ps → (old new : List ℕ) → x.access ≡ Reading → IsLowered old new ps (length ps)
    → EachRun f (λ run. LoweredFor f run (Needing x) old new)
lowered_for_read_leave f k x ps only all old new is r run ok = subst (λ a. LoweredFor f run (IsNeededBy (LeftAt x.object a x.version)) old new) (sym is)
    (lowered_for_equivalent f run (λ z. (l : ℕ) × (z ≡ EnteredAt x.object Writing x.version l)) (IsNeededBy (LeftAt x.object Reading x.version))
    (needs_read_leave_cases x.object x.version) (write_needs_read_leave x.object x.version) old new
    (lowered_for_entries f k x.object Writing x.version ps only all old new r run ok))

-- what needs a leave after writing is an entry at the version that it made
needs_write_leave_cases : (o w v : ℕ) → v ≡ w + 1 → (k : Label) → IsNeededBy (LeftAt o Writing w) k → IsEntryAt o v k
needs_write_leave_cases o w v is Quiet h = absurd h
needs_write_leave_cases o w v is (Answer j x) h = absurd h
needs_write_leave_cases o w v is (EnteredAt p a u l) h = (
  a,
  l,
  ap (λ z. EnteredAt z a u l) (sym h.0)
      ∙ ap (λ z. EnteredAt o a z l) (let e = h.1 in let d : u ≡ v = omega (arith, is, e) in d),
)
needs_write_leave_cases o w v is (FailedTry p) h = absurd h
needs_write_leave_cases o w v is (LeftAt p a u) h = absurd h

entry_needs_write_leave : (o w v : ℕ) → v ≡ w + 1 → (k : Label) → IsEntryAt o v k → IsNeededBy (LeftAt o Writing w) k
entry_needs_write_leave o w v is k e = subst (IsNeededBy (LeftAt o Writing w)) (sym e.2) (refl, (let d : v ≡ suc w = omega (arith, is) in d))

pub lowered_for_write_leave : (f : FittedTrace) (x : Leave) (v : ℕ) (old new : List ℕ) → x.access ≡ Writing → v ≡ x.version + 1
    → EachRun f (λ run. LoweredFor f run (IsEntryAt x.object v) old new)
    → EachRun f (λ run. LoweredFor f run (Needing x) old new)
lowered_for_write_leave f x v old new is next r run ok = subst (λ a. LoweredFor f run (IsNeededBy (LeftAt x.object a x.version)) old new) (sym is)
    (lowered_for_equivalent f run (IsEntryAt x.object v) (IsNeededBy (LeftAt x.object Writing x.version)) (needs_write_leave_cases x.object x.version v next)
    (entry_needs_write_leave x.object x.version v next) old new (r run ok))

-- there is no version after the last that can be counted
pub last_leave_no_lowering : (f : FittedTrace) → IsFitted f → (x : Leave) (xs : List ℕ) → x.access ≡ Writing → (x.version + 1 < 2 ^ 32 → ⊥)
    → EachRun f (λ run. LoweredFor f run (Needing x) xs xs)
last_leave_no_lowering f k x xs is last run ok = subst (λ a. LoweredFor f run (IsNeededBy (LeftAt x.object a x.version)) xs xs) (sym is)
    (no_label_no_lowering f run (IsNeededBy (LeftAt x.object Writing x.version))
    (λ t i m emits n.
    let e = needs_write_leave_cases x.object x.version (x.version + 1) refl m n in
    last (entered_version_is_word f k.run k.within run ok t i x.object e.0 (x.version + 1) e.1
    (subst (Emits (machine_of f) (start_of f) run t i) e.2 emits)))
    xs)
