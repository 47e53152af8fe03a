-- Where points hit a thread of a run, by what they see of it before and after its steps.
use Rattle.std.proofs.Common.{◌≡◌, ◌⊎◌, ℕ, suc, ◌<◌, ◌≤◌, true, false, true≢false, List, length, Some, None, refl, sym, ap, ◌∙◌, subst, inl, inr, arith}
use Rattle.std.specs.Prelude.{◌≢◌, ◌+◌, ◌*◌, slice_get}
use Rattle.std.proofs.lemmas.Bool.{cases_lt, eqb-true}
use Rattle.std.proofs.lemmas.Option.{slice_get_within, slice_get_cases}
use Rattle.ir_lemmas.proofs.CallerLemmas.{true_is_not_false}
use Rattle.ir_mach.specs.Execution.{memory_word}
use Rattle.ir_runs.specs.Machine.{LeftAt}
use Rattle.ir_runs.specs.declared.access.Access.TheVariants.{Writing}
use Rattle.ir_runs.specs.Run.{Step}
use Rattle.ir_thread.specs.State.{ThreadState, ask_of}
use Rattle.ir_thread.specs.declared.ask.Ask.{Ask}
use Rattle.ir_thread.specs.declared.ask.Ask.TheVariants as ask
use Rattle.ir_fit.specs.Fit.{FittedTrace, IsRunOf}
use Rattle.ir_command.specs.declared.command.Point.{Point}
use Rattle.ir_command.specs.declared.command.Point.TheVariants.{Break, Watch, WatchObject}
use Rattle.ir_hits.specs.Hits.{Numbered, HitBy, HitByNumber, IsLowest, objects_start, object_size, puts_at, ChangesWord, PutsWord}
use Rattle.ir_cut.specs.Positions.{thread_at}
use Rattle.ir_hits.specs.Seeing.{Concerns, SomeConcerns, IsNoted, AllNoted, SeesHit, SeesHitAt, IsLowestOf, steps_of, LeavesWritten}
use Rattle.ir_hits.specs.declared.before.Before.{Before}
use Rattle.ir_hits.specs.declared.before.Before.TheVariants.{Nothing, Word, Putting, Inside}
use Rattle.ir_hits.proofs.Leaves.{emitting_below_count, last_step_same_thread, held_around_write_leave, lost_hold_leaves_written}

-- ---- one point

-- a point that hits thread t may hit it
hit_concerns_thread : (f : FittedTrace) (run : List Step) (t k : ℕ) (p : Point) → HitBy f run t k p → Concerns t p
hit_concerns_thread f run t k (Break u address) h = h.0
hit_concerns_thread f run t k (Watch u address) h = h.0
hit_concerns_thread f run t k (WatchObject object) h = tt

pub unconcerned_has_no_hit : (f : FittedTrace) (run : List Step) (points : List Numbered) (t k n : ℕ) → (SomeConcerns t points → ⊥)
    → HitByNumber f run points t k n → ⊥
unconcerned_has_no_hit f run points t k n none h = none (h.0, h.1, h.2, hit_concerns_thread f run t k h.1.point h.4)

-- what is put is put at the objects' addresses
put_is_at_objects : (address : ℕ) (q : Ask) → puts_at address q ≡ true → objects_start ≤ address
put_is_at_objects address (ask.Put object index value) at = let same = eqb-true (objects_start + object_size * object + 4 * index) address at in omega (arith, same)
put_is_at_objects address ask.Private at = absurd (true≢false (sym at))
put_is_at_objects address (ask.Env kind) at = absurd (true≢false (sym at))
put_is_at_objects address (ask.Enter object access) at = absurd (true≢false (sym at))
put_is_at_objects address (ask.Try object) at = absurd (true≢false (sym at))
put_is_at_objects address (ask.Leave object access) at = absurd (true≢false (sym at))
put_is_at_objects address (ask.Get object index) at = absurd (true≢false (sym at))
put_is_at_objects address ask.Print at = absurd (true≢false (sym at))
put_is_at_objects address (ask.End e) at = absurd (true≢false (sym at))
put_is_at_objects address ask.Done at = absurd (true≢false (sym at))

-- the watched word of thread t is written by step j
abbrev IsWritten : FittedTrace → List Step → ℕ → ℕ → ℕ → Type 0
IsWritten f run t address j = ChangesWord f run t address j ⊎ PutsWord f run t address j

-- by a step that the thread takes
word_written_below : (f : FittedTrace) (run : List Step) (t address j : ℕ) → IsWritten f run t address j → j < steps_of f run t
word_written_below f run t address j (inr puts) = puts.0
word_written_below f run t address j (inl changes) = elim (cases_lt j (steps_of f run t)) [
  | inl l ↦ l
  | inr past ↦ absurd (changes.1 (ap (λ (x : ThreadState). memory_word x.core.memory address) (last_step_same_thread f run t j past)))
]

-- no point hits after the last step
pub hit_step_below_steps : (f : FittedTrace) (run : List Step) (t j : ℕ) (p : Point) → HitBy f run t (suc j) p → j < steps_of f run t
hit_step_below_steps f run t j (Break u address) h = omega (arith, h.2)
hit_step_below_steps f run t j (Watch u address) h =
    let within = word_written_below f run t address h.1.0 h.1.2 in let is = h.1.1 in omega (arith, is, within)
hit_step_below_steps f run t j (WatchObject object) h =
    let within = emitting_below_count f run t h.0 (LeftAt object Writing h.2.0) h.2.1 in omega (arith, h.1, within)

-- a word that is noted as one that isn't put is written if it changes
noted_word_is_changed : (f : FittedTrace) (run : List Step) (t address j word : ℕ) → address < objects_start
    → word ≡ memory_word (thread_at f run t j).core.memory address → IsWritten f run t address j → word ≢ memory_word (thread_at f run t (suc j)).core.memory address
noted_word_is_changed f run t address j word low is (inl changes) = λ same. changes.1 (sym is ∙ same)
noted_word_is_changed f run t address j word low is (inr puts) =
    let high = put_is_at_objects address (ask_of f.guest.code (thread_at f run t j)) puts.1 in absurd (omega (arith, low, high))

-- none of the objects' that isn't put is
unput_is_not_written : (f : FittedTrace) (run : List Step) (t address j : ℕ) → objects_start ≤ address
    → puts_at address (ask_of f.guest.code (thread_at f run t j)) ≡ false → IsWritten f run t address j → ⊥
unput_is_not_written f run t address j high isnt (inl changes) = let low = changes.0 in omega (arith, low, high)
unput_is_not_written f run t address j high isnt (inr puts) = true_is_not_false _ puts.1 isnt

-- the step after which a watch hits
written_at_step : (f : FittedTrace) (run : List Step) (t j address : ℕ) → ((i : ℕ) × (suc j ≡ suc i) × IsWritten f run t address i) → IsWritten f run t address j
written_at_step f run t j address (i, is, written) = subst (IsWritten f run t address) (let e : i ≡ j = omega (arith, is) in e) written

-- what hits after step j is seen there
pub hit_after_step_is_seen : (f : FittedTrace) (run : List Step) → IsRunOf f.guest f.recorded run → (t j last : ℕ)
    → (thread_at f run t (suc j)).steps ≡ suc j → last ≡ steps_of f run t → (p : Point) (b : Before)
    → IsNoted f.guest.code t (thread_at f run t j) p b → HitBy f run t (suc j) p → SeesHit t last (thread_at f run t (suc j)) b p
hit_after_step_is_seen f run whole t j last steps all (Break u address) b k h = (h.0, h.1, omega (arith, h.2, steps, all))
hit_after_step_is_seen f run whole t j last steps all (Watch u address) Nothing k h =
    let none = k h.0 in unput_is_not_written f run t address j none.0 none.1 (written_at_step f run t j address h.1)
hit_after_step_is_seen f run whole t j last steps all (Watch u address) (Word word) k h =
    (k.1, noted_word_is_changed f run t address j word k.1 k.2 (written_at_step f run t j address h.1))
hit_after_step_is_seen f run whole t j last steps all (Watch u address) Putting k h = tt
hit_after_step_is_seen f run whole t j last steps all (Watch u address) Inside k h = k
hit_after_step_is_seen f run whole t j last steps all (WatchObject object) Nothing k h =
    k (held_around_write_leave f run whole t j object (subst (LeavesWritten f run t object) (let e : h.0 ≡ j = omega (arith, h.1) in e) h.2)).0
hit_after_step_is_seen f run whole t j last steps all (WatchObject object) (Word word) k h = k
hit_after_step_is_seen f run whole t j last steps all (WatchObject object) Putting k h = k
hit_after_step_is_seen f run whole t j last steps all (WatchObject object) Inside k h =
    (held_around_write_leave f run whole t j object (subst (LeavesWritten f run t object) (let e : h.0 ≡ j = omega (arith, h.1) in e) h.2)).1

-- and the other way round
pub seen_hit_is_hit : (f : FittedTrace) (run : List Step) → IsRunOf f.guest f.recorded run → (t j last : ℕ) → j < steps_of f run t
    → (thread_at f run t (suc j)).steps ≡ suc j → last ≡ steps_of f run t → (p : Point) (b : Before)
    → IsNoted f.guest.code t (thread_at f run t j) p b → SeesHit t last (thread_at f run t (suc j)) b p → HitBy f run t (suc j) p
seen_hit_is_hit f run whole t j last less steps all (Break u address) b k h = (h.0, h.1, omega (arith, h.2, steps, all))
seen_hit_is_hit f run whole t j last less steps all (Watch u address) Nothing k h = absurd h
seen_hit_is_hit f run whole t j last less steps all (Watch u address) (Word word) k h = (k.0, (j, refl, inl (k.1, λ same. h.1 (k.2 ∙ same))))
seen_hit_is_hit f run whole t j last less steps all (Watch u address) Putting k h = (k.0, (j, refl, inr (less, k.1)))
seen_hit_is_hit f run whole t j last less steps all (Watch u address) Inside k h = absurd h
seen_hit_is_hit f run whole t j last less steps all (WatchObject object) Nothing k h = absurd h
seen_hit_is_hit f run whole t j last less steps all (WatchObject object) (Word word) k h = absurd h
seen_hit_is_hit f run whole t j last less steps all (WatchObject object) Putting k h = absurd h
seen_hit_is_hit f run whole t j last less steps all (WatchObject object) Inside k h = (j, refl, lost_hold_leaves_written f run whole t j object less k h)

-- at the start there is no step to look back to
pub hit_at_start_is_seen : (f : FittedTrace) (run : List Step) (t last : ℕ) → (thread_at f run t 0).steps ≡ 0 → last ≡ steps_of f run t → (p : Point)
    → HitBy f run t 0 p → SeesHit t last (thread_at f run t 0) Nothing p
hit_at_start_is_seen f run t last steps all (Break u address) h = (h.0, h.1, omega (arith, h.2, steps, all))
hit_at_start_is_seen f run t last steps all (Watch u address) h = omega (arith, h.1.1)
hit_at_start_is_seen f run t last steps all (WatchObject object) h = omega (arith, h.1)

pub seen_start_hit_is_hit : (f : FittedTrace) (run : List Step) (t last : ℕ) → (thread_at f run t 0).steps ≡ 0 → last ≡ steps_of f run t → (p : Point)
    → SeesHit t last (thread_at f run t 0) Nothing p → HitBy f run t 0 p
seen_start_hit_is_hit f run t last steps all (Break u address) h = (h.0, h.1, omega (arith, h.2, steps, all))
seen_start_hit_is_hit f run t last steps all (Watch u address) h = absurd h
seen_start_hit_is_hit f run t last steps all (WatchObject object) h = absurd h

-- ---- all points

-- what is seen of thread t, which is y, is where the points hit it at position k
pub record AreHitsSeen (f : FittedTrace) (run : List Step) (points : List Numbered) (notes : List Before) (t k last : ℕ) (y : ThreadState)
    : Type 0 where
  pub size : length notes ≡ length points
  pub seen : (i : ℕ) (p : Numbered) (b : Before) → slice_get points i ≡ Some p → slice_get notes i ≡ Some b → HitBy f run t k p.point
      → SeesHit t last y b p.point
  pub hit : (i : ℕ) (p : Numbered) (b : Before) → slice_get points i ≡ Some p → slice_get notes i ≡ Some b → SeesHit t last y b p.point
      → HitBy f run t k p.point

-- each point noted something
point_has_note : (points : List Numbered) (notes : List Before) (i : ℕ) (p : Numbered) → length notes ≡ length points
    → slice_get points i ≡ Some p → (b : Before) × (slice_get notes i ≡ Some b)
point_has_note points notes i p size is = elim (slice_get_cases notes i).1 [
  | inl found ↦ (found.0, found.2)
  | inr past ↦ absurd (let within = slice_get_within points i p is in omega (arith, size, past.0, within))
]

listed_hit_is_seen : (f : FittedTrace) (run : List Step) (points : List Numbered) (notes : List Before) (t k last : ℕ) (y : ThreadState)
    → AreHitsSeen f run points notes t k last y → (i : ℕ) (p : Numbered) → slice_get points i ≡ Some p → HitBy f run t k p.point
    → SeesHitAt t last y notes points i p
listed_hit_is_seen f run points notes t k last y s i p is h =
    let b = point_has_note points notes i p s.size is in
    (is, b.0, b.1, s.seen i p b.0 is b.1 h)

-- the lowest number of those that are seen to hit
pub lowest_seen_is_lowest : (f : FittedTrace) (run : List Step) (points : List Numbered) (notes : List Before) (t k last : ℕ) (y : ThreadState) (m : ℕ)
    → AreHitsSeen f run points notes t k last y → IsLowestOf t last y notes points (length points) (Some m) → IsLowest f run points t k m
lowest_seen_is_lowest f run points notes t k last y m s found = record {
  hits = let h = found.0 in (h.0, h.1, h.2.0, h.3, s.hit h.0 h.1 h.2.1 h.2.0 h.2.2 h.2.3);
  lowest = λ n h. subst (λ z. m ≤ z) h.3 (found.1 h.0 h.1 (slice_get_within points h.0 h.1 h.2)
      (listed_hit_is_seen f run points notes t k last y s h.0 h.1 h.2 h.4));
}

-- or none of them does
pub no_hit_if_none_seen : (f : FittedTrace) (run : List Step) (points : List Numbered) (notes : List Before) (t k last : ℕ) (y : ThreadState)
    → AreHitsSeen f run points notes t k last y → IsLowestOf t last y notes points (length points) None → (n : ℕ)
    → HitByNumber f run points t k n → ⊥
no_hit_if_none_seen f run points notes t k last y s none n h =
    none h.0 h.1 (slice_get_within points h.0 h.1 h.2) (listed_hit_is_seen f run points notes t k last y s h.0 h.1 h.2 h.4)

-- ---- a step, and the start

-- after step j
pub hits_seen_after_step : (f : FittedTrace) (run : List Step) → IsRunOf f.guest f.recorded run → (points : List Numbered) (notes : List Before)
    → (t j last : ℕ) (x y : ThreadState) → x ≡ thread_at f run t j → y ≡ thread_at f run t (suc j) → y.steps ≡ suc j
    → last ≡ steps_of f run t → j < steps_of f run t → AllNoted f.guest.code t x points notes → AreHitsSeen f run points notes t (suc j) last y
hits_seen_after_step f run whole points notes t j last x y was is steps all less k =
    let at : (thread_at f run t (suc j)).steps ≡ suc j = ap (λ (z : ThreadState). z.steps) (sym is) ∙ steps in
    let before : AllNoted f.guest.code t (thread_at f run t j) points notes = subst (λ z. AllNoted f.guest.code t z points notes) was k in
    subst (AreHitsSeen f run points notes t (suc j) last) (sym is) (record {
      size = k.size;
      seen = λ i p b here there. hit_after_step_is_seen f run whole t j last at all p.point b (before.each i p b here there);
      hit = λ i p b here there. seen_hit_is_hit f run whole t j last less at all p.point b (before.each i p b here there);
    })

-- nothing is noted
abbrev pub AreNothingNoted : List Before → Type 0
AreNothingNoted notes = (i : ℕ) (b : Before) → slice_get notes i ≡ Some b → b ≡ Nothing

pub hits_seen_at_start : (f : FittedTrace) (run : List Step) (points : List Numbered) (notes : List Before) (t last : ℕ) (y : ThreadState)
    → y ≡ thread_at f run t 0 → y.steps ≡ 0 → last ≡ steps_of f run t → length notes ≡ length points → AreNothingNoted notes
    → AreHitsSeen f run points notes t 0 last y
hits_seen_at_start f run points notes t last y is steps all size none =
    let at : (thread_at f run t 0).steps ≡ 0 = ap (λ (z : ThreadState). z.steps) (sym is) ∙ steps in
    subst (AreHitsSeen f run points notes t 0 last) (sym is) (record {
      size = size;
      seen = λ i p b here there h. subst (λ z. SeesHit t last (thread_at f run t 0) z p.point) (sym (none i b there))
          (hit_at_start_is_seen f run t last at all p.point h);
      hit = λ i p b here there h. seen_start_hit_is_hit f run t last at all p.point
          (subst (λ z. SeesHit t last (thread_at f run t 0) z p.point) (none i b there) h);
    })
