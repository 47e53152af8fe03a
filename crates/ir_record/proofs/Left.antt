-- Each step leaves fewer.
use Rattle.std.proofs.Common.{◌≡◌, ◌≢◌, ℕ, zero, suc, ◌+◌, ◌-◌, ◌<◌, ◌≤◌, List, length, Option, Some, None, refl, ap, ◌∙◌, arith, inl, inr}
use Rattle.std.proofs.lemmas.Bool.{cases_eq}
use Rattle.ir_thread.specs.Permitted.{Permits, held_count}
use Rattle.ir_thread.specs.State.{held_at, after_ask}
use Rattle.ir_runs.specs.Machine.{upd}
use Rattle.ir_thread.specs.State as thread
use Rattle.ir_thread.specs.declared.ask.Ask.{Ask}
use Rattle.ir_thread.specs.declared.ask.Ask.TheVariants.{Private, Env, Enter, Try, Leave, Get, Put, Print, End, Done}
use Rattle.ir_thread.specs.declared.ask.Reply.{Reply}
use Rattle.ir_thread.specs.declared.end.End as end
use Rattle.ir_thread.proofs.CallerLemmas.{held_count_after_leave, held_count_le_length}
use Rattle.ir_runs.proofs.CallerLemmas.{upd_at_own_place, upd_at_other_place}
use Rattle.ir_record.specs.Progress.{steps_left, steps_left_within, all_left}

-- a step of a thread that has not ended and continues
continuing_lowers_left : (most : ℕ) (ended : Option end.End) (x y : thread.ThreadState) → x.ended ≡ None → x.steps < x.budget → y.ended ≡ x.ended → y.budget ≡ x.budget
    → y.steps ≡ x.steps + 1 → steps_left_within most y.ended y + 1 ≤ steps_left_within most x.ended x
continuing_lowers_left most ended x y lives less same budget steps =
    let own : steps_left_within most x.ended x ≡ 1 + most + (x.budget - x.steps) = ap (λ e. steps_left_within most e x) lives in
    let new : steps_left_within most y.ended y ≡ 1 + most + (y.budget - y.steps) = ap (λ e. steps_left_within most e y) (same ∙ lives) in
    omega (arith, own, new, less, budget, steps)

leave_lowers_left : (most : ℕ) (ended : Option end.End) (x y : thread.ThreadState) (object : ℕ) → x.ended ≡ ended → (x.ended ≡ None → x.steps < x.budget)
    → y.ended ≡ x.ended → y.budget ≡ x.budget → y.steps ≡ x.steps + 1 → held_count x.held ≡ suc (held_count y.held)
    → steps_left_within most y.ended y + 1 ≤ steps_left_within most x.ended x
leave_lowers_left most None x y object is less same budget steps fewer = continuing_lowers_left most None x y is (less is) same budget steps
leave_lowers_left most (Some e) x y object is less same budget steps fewer =
    let own : steps_left_within most x.ended x ≡ held_count x.held = ap (λ z. steps_left_within most z x) is in
    let new : steps_left_within most y.ended y ≡ held_count y.held = ap (λ z. steps_left_within most z y) (same ∙ is) in
    omega (arith, own, new, fewer)

some_is_not_none : {A : Type 0} (x : Option A) (a : A) → x ≡ Some a → x ≢ None
some_is_not_none x a e n = cc (e, n)

-- each step leaves its thread fewer
pub permitted_lowers_left : (code : List ℕ) (most : ℕ) (x : thread.ThreadState) (q : Ask) (r : Reply) → length x.held ≤ most → Permits x q → q ≢ Done
    → steps_left_within most (after_ask code x q r).ended (after_ask code x q r) + 1 ≤ steps_left_within most x.ended x
permitted_lowers_left code most x Private r few p ne = continuing_lowers_left most x.ended x (after_ask code x Private r) p.lives p.has_budget refl refl refl
permitted_lowers_left code most x (Env kind) r few p ne = continuing_lowers_left most x.ended x (after_ask code x (Env kind) r) p.0.lives p.0.has_budget refl refl refl
permitted_lowers_left code most x (Enter object access) r few p ne =
    continuing_lowers_left most x.ended x (after_ask code x (Enter object access) r) p.0.lives p.0.has_budget refl refl refl
permitted_lowers_left code most x (Try object) r few p ne = continuing_lowers_left most x.ended x (after_ask code x (Try object) r) p.0.lives p.0.has_budget refl refl refl
permitted_lowers_left code most x (Leave object access) r few p ne =
    leave_lowers_left most x.ended x (after_ask code x (Leave object access) r) object refl p.0
    refl refl refl (held_count_after_leave x.held object p.1 (some_is_not_none (held_at x.held object) access p.2))
permitted_lowers_left code most x (Get object index) r few p ne =
    continuing_lowers_left most x.ended x (after_ask code x (Get object index) r) p.0.lives p.0.has_budget refl refl refl
permitted_lowers_left code most x (Put object index value) r few p ne =
    continuing_lowers_left most x.ended x (after_ask code x (Put object index value) r) p.0.lives p.0.has_budget refl refl refl
permitted_lowers_left code most x Print r few p ne = continuing_lowers_left most x.ended x (after_ask code x Print r) p.0.lives p.0.has_budget refl refl refl
permitted_lowers_left code most x (End e) r few p ne =
    let own : steps_left_within most x.ended x ≡ 1 + most + (x.budget - x.steps) = ap (λ z. steps_left_within most z x) p in
    let count = held_count_le_length x.held in
    omega (arith, own, count, few)
permitted_lowers_left code most x Done r few p ne = absurd (ne refl)

all_left_later_upd : (n : ℕ) (now : ℕ → thread.ThreadState) (t : ℕ) (y : thread.ThreadState) → n ≤ t → all_left n (upd now t y) ≡ all_left n now
all_left_later_upd zero now t y l = refl
all_left_later_upd (suc n) now t y l =
    let here : steps_left (upd now t y n).ended (upd now t y n) ≡ steps_left (now n).ended (now n) =
    ap (λ z. steps_left z.ended z) (upd_at_other_place now t n y (λ e. omega (arith, e, l))) in
    let rest = all_left_later_upd n now t y (omega arith) in
    omega (arith, here, rest)

-- what one thread has fewer, all have
pub all_left_falls : (n : ℕ) (now : ℕ → thread.ThreadState) (t : ℕ) (y : thread.ThreadState) → t < n
    → steps_left y.ended y + 1 ≤ steps_left (now t).ended (now t) → all_left n (upd now t y) + 1 ≤ all_left n now
all_left_falls zero now t y l less = absurd (omega arith)
all_left_falls (suc n) now t y l less = elim (cases_eq n t) [
  | inl e ↦
      let here : steps_left (upd now t y n).ended (upd now t y n) ≡ steps_left y.ended y =
      ap (λ z. steps_left z.ended z) (ap (upd now t y) e ∙ upd_at_own_place now t y) in
      let was : steps_left (now n).ended (now n) ≡ steps_left (now t).ended (now t) = ap (λ k. steps_left (now k).ended (now k)) e in
      let rest = all_left_later_upd n now t y (omega (arith, e)) in
      omega (arith, here, was, rest, less)
  | inr ne ↦
      let here : steps_left (upd now t y n).ended (upd now t y n) ≡ steps_left (now n).ended (now n) =
      ap (λ z. steps_left z.ended z) (upd_at_other_place now t n y ne) in
      let rest = all_left_falls n now t y (let h : t < n = omega (arith, l, ne) in h) less in
      omega (arith, here, rest)
]
