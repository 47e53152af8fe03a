-- What the events of a box need.
use Rattle.std.proofs.Common.{◌≡◌, ℕ, suc, zero, ◌+◌, ◌<◌, ◌≤◌, ◌⊎◌, inl, inr, Some, sym, subst, arith}
use Rattle.std.specs.Prelude.{slice_get}
use Rattle.std.proofs.lemmas.Bool.{cases_eq, cases_lt}
use Rattle.ir_log.specs.declared.event.Event.TheVariants.{Read, Try}
use Rattle.ir_trace.specs.Recorded.{Recorded, recorded_thread}
use Rattle.ir_picture.specs.Needs.{Needs}
use Rattle.ir_picture.specs.Boxes.{ReadsAgain, TriesAgain, IsBox}
use Rattle.ir_picture.specs.declared.event_box.EventBox.{EventBox}
use Rattle.ir_picture.proofs.Follows.{read_needs_its_maker, no_entry_no_needs}

-- what an event needs that reads again, the read entry before it needs too
pub read_needs_as_repeated : (r : Recorded) (t i u j : ℕ) (again : ReadsAgain (recorded_thread r t).events i) → Needs r t i u j → Needs r t again.before u j
read_needs_as_repeated r t i u j again needs =
    let m = read_needs_its_maker r t i again.object again.version u j again.read needs in
    inl record {
      object = again.object;
      version = m.0;
      readers = m.1;
      entry = inl (subst (λ z. slice_get (recorded_thread r t).events again.before ≡ Some (Read again.object z)) m.2 again.same);
      made = m.3;
    }

pub repeated_try_needs_none : (r : Recorded) (t i u j : ℕ) → TriesAgain (recorded_thread r t).events i → Needs r t i u j → ⊥
repeated_try_needs_none r t i u j again needs = no_entry_no_needs r t i u j (Try again.object) again.«try» (λ o v e. cc) (λ o v l e. cc) needs

-- what an event of a box needs, its first event needs, or an earlier event of the thread
pub box_needs_cases : (r : Recorded) (b : EventBox) → IsBox r b → (n i u j : ℕ) → i < n → b.event ≤ i → i < b.event + b.count → Needs r b.thread i u j
    → Needs r b.thread b.event u j ⊎ ((h : ℕ) × (h < b.event) × Needs r b.thread h u j)
box_needs_cases r b is zero i u j less from below needs = absurd (omega (arith, less))
box_needs_cases r b is (suc n) zero u j less from below needs =
    let first : b.event ≡ 0 = omega (arith, from) in
    inl (subst (λ z. Needs r b.thread z u j) (sym first) needs)
box_needs_cases r b is (suc n) (suc i) u j less from below needs = elim (cases_eq (suc i) b.event) [
  | inl first ↦ inl (subst (λ z. Needs r b.thread z u j) first needs)
  | inr later ↦ elim (is.folds i (omega (arith, from, later)) below).repeats [
    | inl reads ↦ before reads.1 (λ later_on. box_needs_cases r b is n reads.1.before u j (omega (arith, reads.1.earlier, less)) later_on
        (omega (arith, reads.1.earlier, below)) (read_needs_as_repeated r b.thread (suc i) u j reads.1 needs))
    | inr tries ↦ absurd (repeated_try_needs_none r b.thread (suc i) u j tries.1 needs)
  ]
]
  where
    before : (again : ReadsAgain (recorded_thread r b.thread).events (suc i))
        → (b.event ≤ again.before → Needs r b.thread b.event u j ⊎ ((h : ℕ) × (h < b.event) × Needs r b.thread h u j))
        → Needs r b.thread b.event u j ⊎ ((h : ℕ) × (h < b.event) × Needs r b.thread h u j)
    before again rest = elim (cases_lt again.before b.event) [
      | inl earlier ↦ inr (again.before, earlier, read_needs_as_repeated r b.thread (suc i) u j again needs)
      | inr not ↦ rest (omega (arith, not))
    ]
