-- What the next event of a thread needs.
use Rattle.std.proofs.Common.{◌≡◌, ◌≢◌, ℕ, ◌+◌, ◌<◌, ◌≤◌, inl, inr, Some, List, length, sym, ◌∙◌, subst, arith}
use Rattle.std.specs.Prelude.{slice_get}
use Rattle.std.proofs.lemmas.Bool.{cases_eq}
use Rattle.std.proofs.lemmas.Option.{same_Some, slice_get_within}
use Rattle.ir_trace.specs.Recorded.{Recorded}
use Rattle.ir_past.specs.Past.{AreReaders}
use Rattle.ir_past.specs.declared.place.Place.{Place}
use Rattle.ir_diff.specs.Common.{HasOthersReaders}

-- a read entry is of thread t, or among the first events
abbrev pub IsOwnOrAmongFirst : (ℕ → ℕ) → ℕ → Place → Type 0
IsOwnOrAmongFirst c t p = p.thread ≢ t → p.event < c p.thread

-- the first n of these are
abbrev pub AreOwnOrAmongFirst : List Place → ℕ → (ℕ → ℕ) → ℕ → Type 0
AreOwnOrAmongFirst places n c t = (k : ℕ) (p : Place) → k < n → slice_get places k ≡ Some p → IsOwnOrAmongFirst c t p

pub own_or_among_first_step : (places : List Place) (n : ℕ) (c : ℕ → ℕ) (t : ℕ) (p : Place) → AreOwnOrAmongFirst places n c t → slice_get places n ≡ Some p
    → IsOwnOrAmongFirst c t p → AreOwnOrAmongFirst places (n + 1) c t
own_or_among_first_step places n c t p h at own = λ k q less is. elim (cases_eq k n) [
  | inl here ↦ subst (IsOwnOrAmongFirst c t) (same_Some p q (sym at ∙ subst (λ z. slice_get places z ≡ Some q) here is)) own
  | inr ne ↦ h k q (omega (arith, less, ne)) is
]

-- all of them are
pub all_among_has_readers : (r : Recorded) (o v : ℕ) (places : List Place) (n : ℕ) (c : ℕ → ℕ) (t : ℕ) → AreReaders r o v places
    → AreOwnOrAmongFirst places n c t → length places ≤ n → HasOthersReaders r c t o v
all_among_has_readers r o v places n c t are h all = λ u j other read.
    let at = are.complete u j read in
    let inside = slice_get_within places at.number at.place at.there in
    let less = h at.number at.place (omega (arith, inside, all)) at.there (λ e. other (sym at.thread ∙ e)) in
    let thread : c at.place.thread ≡ c u = λ i. c (at.thread i) in
    let event = at.event in
    omega (arith, less, thread, event)

-- one of them isn't
pub lacks_others_readers : (r : Recorded) (o v : ℕ) (places : List Place) (k : ℕ) (p : Place) (c : ℕ → ℕ) (t : ℕ) → AreReaders r o v places
    → slice_get places k ≡ Some p → (IsOwnOrAmongFirst c t p → ⊥) → HasOthersReaders r c t o v → ⊥
lacks_others_readers r o v places k p c t are at none h = none (λ other. h p.thread p.event other (are.sound k p at))
