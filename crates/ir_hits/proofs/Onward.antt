-- What a thread that advances shows of the points.
use Rattle.std.proofs.Common.{◌≡◌, ◌∙◌, ap, ℕ, zero, suc, ◌+◌, ◌-◌, ◌<◌, ◌≤◌, List, length, Option, Some, None, refl, sym, subst, inl, inr, arith}
use Rattle.std.specs.List.{slice_index_or}
use Rattle.ir_thread.specs.State.{ThreadState}
use Rattle.ir_thread.specs.Private.{UnmarkedSteps}
use Rattle.ir_mach.specs.Marks.{Marked}
use Rattle.ir_flat.specs.Flat.{idle, thread_of}
use Rattle.ir_runs.specs.Run.{Step}
use Rattle.ir_fit.specs.Fit.{FittedTrace, IsRunOf}
use Rattle.ir_cut.specs.Positions.{cut_of, EachRun, thread_at}
use Rattle.ir_weave.specs.Standing.{Standing, StandsAtCut, flat_in, positions}
use Rattle.ir_hits.specs.Hits.{Numbered, NoneWithin, IsLowest, IsLastHit}
use Rattle.ir_hits.specs.Searching.{AreLast, IsLastFrom, IsNextHit, IsStartHit, window_start}
use Rattle.ir_hits.specs.Passing.{AreCovered, HasPassed}
use Rattle.ir_hits.specs.Seeing.{AllNoted, IsLowestOf}
use Rattle.ir_hits.specs.declared.before.Before.{Before}
use Rattle.ir_command.specs.declared.hit.Hit.{Hit}
use Rattle.ir_hits.proofs.Hitting.{AreHitsSeen, AreNothingNoted, hits_seen_after_step, hits_seen_at_start, lowest_seen_is_lowest, no_hit_if_none_seen}
use Rattle.ir_hits.proofs.Standing.{standing_is_run_thread, last_position_is_steps}
use Rattle.ir_hits.proofs.Passing.{IsStretch, notes_hold_in_stretch, no_hit_within_stretch}
use Rattle.ir_hits.proofs.Windows.{no_hit_in_empty_window, no_hit_extends, start_hit_last_at_start, no_start_hit_last_none}
use Rattle.ir_hits.proofs.CallerLemmas.{no_hit_windows_join}

-- thread t has passed on, at least by a step; before that the points noted so much, and what they may hit at is marked
pub record IsPassage (f : FittedTrace) (last : List ℕ) (code : Marked) (points : List Numbered) (notes : List Before) (t to : ℕ)
    (old new : Standing) : Type 0 where
  pub ends : AreLast f last
  pub words : code.words ≡ f.guest.code
  pub covered : AreCovered code t points
  pub before : StandsAtCut f (positions (flat_in f old)) old
  pub after : StandsAtCut f (positions (flat_in f new)) new
  pub passed : HasPassed code t to (flat_in f old) (flat_in f new)
  pub all : AllNoted f.guest.code t (slice_index_or old.threads t idle) points notes

pub passed_is_passage : (f : FittedTrace) (last : List ℕ) (code : Marked) (points : List Numbered) (notes : List Before) (t to : ℕ)
    (old new : Standing) (words : List ℕ) (x : ThreadState) → words ≡ f.guest.code → x ≡ slice_index_or old.threads t idle → AreLast f last
    → code.words ≡ f.guest.code → AreCovered code t points → StandsAtCut f (positions (flat_in f old)) old → StandsAtCut f (positions (flat_in f new)) new
    → HasPassed code t to (flat_in f old) (flat_in f new) → AllNoted words t x points notes
    → IsPassage f last code points notes t to old new
passed_is_passage f last code points notes t to old new words x same is ends marked covered before after passed all = record {
  ends = ends;
  words = marked;
  covered = covered;
  before = before;
  after = after;
  passed = passed;
  all = subst (λ (z : List ℕ × ThreadState). AllNoted z.0 t z.1 points notes) (λ i. (same i, is i)) all;
}

-- the points noted so much of the thread before its k-th step, which comes at j or later, and hit it nowhere between
record ComesTo (f : FittedTrace) (run : List Step) (points : List Numbered) (notes : List Before) (t j k : ℕ) : Type 0 where
  pub all : AllNoted f.guest.code t (thread_at f run t k) points notes
  pub none : NoneWithin f run points t (suc j) (suc k)

-- by one step
passage_comes_to_start : (f : FittedTrace) (last : List ℕ) (code : Marked) (points : List Numbered) (notes : List Before) (t to : ℕ) (old new : Standing)
    → IsPassage f last code points notes t to old new → (run : List Step) → IsRunOf f.guest f.recorded run → (k : ℕ)
    → positions (flat_in f old) t ≡ k → ComesTo f run points notes t (positions (flat_in f old) t) k
passage_comes_to_start f last code points notes t to old new s run whole k at = record {
  all = subst (λ z. AllNoted f.guest.code t z points notes) (standing_is_run_thread f old s.before run whole t k at) s.all;
  none = no_hit_in_empty_window f run points t (suc (positions (flat_in f old) t)) (suc k) (omega (arith, at));
}

-- by several
stretch_comes_to_position : (f : FittedTrace) (last : List ℕ) (code : Marked) (points : List Numbered) (notes : List Before) (t to : ℕ) (old new : Standing)
    (s : IsPassage f last code points notes t to old new) → (run : List Step) → IsRunOf f.guest f.recorded run → (k : ℕ)
    → positions (flat_in f new) t ≡ suc k
    → UnmarkedSteps code s.passed.count (thread_of (flat_in f old) t) (thread_of (flat_in f new) t)
    → ComesTo f run points notes t (positions (flat_in f old) t) k
stretch_comes_to_position f last code points notes t to old new s run whole k next steps =
    let j : ℕ = positions (flat_in f old) t in
    let n : ℕ = s.passed.count in
    let x : ThreadState = slice_index_or old.threads t idle in
    let y : ThreadState = slice_index_or new.threads t idle in
    let sum : suc k ≡ j + n = omega (arith, next, s.passed.taken) in
    let on : j + (k - j) ≡ k = omega (arith, sum, s.passed.some) in
    let within = (s.after.at.each run whole).cut t in
    let stretch : IsStretch f run code points t j n x y = record {
      whole = whole;
      words = s.words;
      covered = s.covered;
      at = sym (standing_is_run_thread f old s.before run whole t j refl);
      within = omega (arith, within, next, sum);
      steps = steps;
    } in
    record {
      all = subst (λ i. AllNoted f.guest.code t (thread_at f run t i) points notes) on
          (notes_hold_in_stretch f run code points notes t j n (k - j) x y stretch (omega (arith, sum)) s.all);
      none = subst (NoneWithin f run points t (suc j)) (sym sum) (no_hit_within_stretch f run code points t j n x y stretch);
    }

passage_comes_to_position : (f : FittedTrace) (last : List ℕ) (code : Marked) (points : List Numbered) (notes : List Before) (t to : ℕ) (old new : Standing)
    → IsPassage f last code points notes t to old new → (run : List Step) → IsRunOf f.guest f.recorded run → (k : ℕ)
    → positions (flat_in f new) t ≡ suc k → ComesTo f run points notes t (positions (flat_in f old) t) k
passage_comes_to_position f last code points notes t to old new s run whole k next = elim s.passed.how [
  | inl one ↦ passage_comes_to_start f last code points notes t to old new s run whole k
      (let e : positions (flat_in f old) t ≡ k = omega (arith, one, next, s.passed.taken) in e)
  | inr steps ↦ stretch_comes_to_position f last code points notes t to old new s run whole k next steps
]

-- what is seen of the thread after it
pub record IsAfterPassage (f : FittedTrace) (run : List Step) (points : List Numbered) (notes : List Before) (t end : ℕ) (old new : Standing)
    : Type 0 where
  pub seen : AreHitsSeen f run points notes t (positions (flat_in f new) t) end (slice_index_or new.threads t idle)
  pub none : NoneWithin f run points t (suc (positions (flat_in f old) t)) (positions (flat_in f new) t)

after_passage_suc : (f : FittedTrace) (last : List ℕ) (code : Marked) (points : List Numbered) (notes : List Before) (t to : ℕ) (old new : Standing)
    (end k : ℕ) → IsPassage f last code points notes t to old new → end ≡ cut_of last t → (run : List Step)
    → IsRunOf f.guest f.recorded run → positions (flat_in f new) t ≡ suc k → IsAfterPassage f run points notes t end old new
after_passage_suc f last code points notes t to old new end k s is run whole next =
    let comes = passage_comes_to_position f last code points notes t to old new s run whole k next in
    let within = (s.after.at.each run whole).cut t in
    record {
      seen = subst (λ i. AreHitsSeen f run points notes t i end (slice_index_or new.threads t idle)) (sym next)
          (hits_seen_after_step f run whole points notes t k end (thread_at f run t k) (slice_index_or new.threads t idle) refl
          (standing_is_run_thread f new s.after run whole t (suc k) next) next (last_position_is_steps f last s.ends run whole t end is)
          (omega (arith, within, next)) comes.all);
      none = subst (NoneWithin f run points t (suc (positions (flat_in f old) t))) (sym next) comes.none;
    }

new_is_after_passage : (f : FittedTrace) (last : List ℕ) (code : Marked) (points : List Numbered) (notes : List Before) (t to : ℕ) (old new : Standing)
    (end : ℕ) → IsPassage f last code points notes t to old new → end ≡ cut_of last t → (run : List Step)
    → IsRunOf f.guest f.recorded run → IsAfterPassage f run points notes t end old new
new_is_after_passage f last code points notes t to old new end s is run whole =
    after_passage_suc f last code points notes t to old new end (positions (flat_in f new) t - 1) s is run whole
    (omega (arith, s.passed.taken, s.passed.some))

-- a point hits there
pub lowest_is_next_hit : (f : FittedTrace) (last : List ℕ) (code : Marked) (points : List Numbered) (notes : List Before) (t to : ℕ)
    (old new : Standing) (end p : ℕ) (y : ThreadState) (h : Hit) → y ≡ slice_index_or new.threads t idle
    → IsPassage f last code points notes t to old new
    → end ≡ cut_of last t → p ≤ positions (flat_in f old) t
    → EachRun f (λ run. NoneWithin f run points t (suc p) (suc (positions (flat_in f old) t)))
    → (found : Option ℕ) → found ≡ Some h.number → IsLowestOf t end y notes points (length points) found
    → h.position ≡ positions (flat_in f new) t → EachRun f (λ run. IsNextHit f run points t p to (Some h))
lowest_is_next_hit f last code points notes t to old new end p y h y_is s is low none found some all at run whole =
    let seen = new_is_after_passage f last code points notes t to old new end s is run whole in
    let lowest : IsLowestOf t end (slice_index_or new.threads t idle) notes points (length points) (Some h.number) =
    subst (λ (z : ThreadState × Option ℕ). IsLowestOf t end z.0 notes points (length points) z.1) (λ i. (y_is i, some i)) all in (
      omega (arith, at, low, s.passed.taken, s.passed.some),
      omega (arith, at, s.passed.within),
      subst (NoneWithin f run points t (suc p)) (sym at) (no_hit_windows_join f run points t (suc p) (suc (positions (flat_in f old) t))
          (positions (flat_in f new) t) (none run whole) seen.none),
      subst (λ k. IsLowest f run points t k h.number) (sym at) (lowest_seen_is_lowest f run points notes t (positions (flat_in f new) t) end
          (slice_index_or new.threads t idle) h.number seen.seen lowest),
    )

-- or none does
pub no_hit_through_passage : (f : FittedTrace) (last : List ℕ) (code : Marked) (points : List Numbered) (notes : List Before) (t to : ℕ)
    (old new : Standing) (end p : ℕ) (y : ThreadState) → y ≡ slice_index_or new.threads t idle
    → IsPassage f last code points notes t to old new → end ≡ cut_of last t
    → EachRun f (λ run. NoneWithin f run points t (suc p) (suc (positions (flat_in f old) t)))
    → (found : Option ℕ) → found ≡ None → IsLowestOf t end y notes points (length points) found
    → EachRun f (λ run. NoneWithin f run points t (suc p) (suc (positions (flat_in f new) t)))
no_hit_through_passage f last code points notes t to old new end p y y_is s is none found none_is all run whole =
    let seen = new_is_after_passage f last code points notes t to old new end s is run whole in
    no_hit_extends f run points t (suc p) (positions (flat_in f new) t)
    (no_hit_windows_join f run points t (suc p) (suc (positions (flat_in f old) t)) (positions (flat_in f new) t) (none run whole) seen.none)
    (no_hit_if_none_seen f run points notes t (positions (flat_in f new) t) end (slice_index_or new.threads t idle) seen.seen
    (subst (λ (z : ThreadState × Option ℕ). IsLowestOf t end z.0 notes points (length points) z.1) (λ i. (y_is i, none_is i)) all))

-- ---- the start

abbrev pub StandsAtThreadStart : FittedTrace → Standing → ℕ → Type 0
StandsAtThreadStart f s t = StandsAtCut f (positions (flat_in f s)) s × (positions (flat_in f s) t ≡ 0)

thread_start_hits_seen : (f : FittedTrace) (last : List ℕ) (points : List Numbered) (notes : List Before) (t : ℕ) (s : Standing) (end : ℕ)
    → AreLast f last → StandsAtThreadStart f s t → end ≡ cut_of last t → length notes ≡ length points → AreNothingNoted notes → (run : List Step)
    → IsRunOf f.guest f.recorded run → AreHitsSeen f run points notes t 0 end (slice_index_or s.threads t idle)
thread_start_hits_seen f last points notes t s end are start is size none run whole =
    hits_seen_at_start f run points notes t end (slice_index_or s.threads t idle) (standing_is_run_thread f s start.0 run whole t 0 start.1) start.1
    (last_position_is_steps f last are run whole t end is) size none

-- the hit at the start, if there is one, is the last so far
start_hit_is_last_hit : (f : FittedTrace) (last : List ℕ) (points : List Numbered) (notes : List Before) (t : ℕ) (s : Standing) (end : ℕ)
    (y : ThreadState) → y ≡ slice_index_or s.threads t idle → AreLast f last → StandsAtThreadStart f s t → end ≡ cut_of last t → length notes ≡ length points
    → AreNothingNoted notes → (found : Option Hit) → IsStartHit t end y notes points found
    → EachRun f (λ run. IsLastHit f run points t (positions (flat_in f s) t + 1) found)
start_hit_is_last_hit f last points notes t s end y y_is are start is size none None found run whole =
    no_start_hit_last_none f run points t (positions (flat_in f s) t) start.1
    (no_hit_if_none_seen f run points notes t 0 end (slice_index_or s.threads t idle)
    (thread_start_hits_seen f last points notes t s end are start is size none run whole)
    (subst (λ z. IsLowestOf t end z notes points (length points) None) y_is found))
start_hit_is_last_hit f last points notes t s end y y_is are start is size none (Some h) found run whole =
    start_hit_last_at_start f run points t (positions (flat_in f s) t) h start.1 found.0
    (lowest_seen_is_lowest f run points notes t 0 end (slice_index_or s.threads t idle) h.number
    (thread_start_hits_seen f last points notes t s end are start is size none run whole)
    (subst (λ z. IsLowestOf t end z notes points (length points) (Some h.number)) y_is found.1))

last_hit_from_start : (f : FittedTrace) (run : List Step) (points : List Numbered) (t p : ℕ) (found : Option Hit)
    → IsLastHit f run points t p found → IsLastFrom f run points t 0 p found
last_hit_from_start f run points t p (Some h) last = (omega arith, last.0, last.1, last.2)
last_hit_from_start f run points t p None last = last

-- ---- where a window begins

start_hit_at_position : (f : FittedTrace) (last : List ℕ) (points : List Numbered) (notes : List Before) (t : ℕ) (s : Standing) (end : ℕ)
    (y : ThreadState) → y ≡ slice_index_or s.threads t idle → AreLast f last → StandsAtCut f (positions (flat_in f s)) s → end ≡ cut_of last t
    → length notes ≡ length points → AreNothingNoted notes → (found : Option Hit) → (y.steps ≡ 0 → IsStartHit t end y notes points found)
    → (0 < y.steps → found ≡ None) → (p : ℕ) → positions (flat_in f s) t ≡ p
    → EachRun f (λ run. IsLastFrom f run points t (window_start p) (p + 1) found)
start_hit_at_position f last points notes t s end y y_is are stands is size none found start later zero at run whole =
    let first : y.steps ≡ 0 = ap (λ (z : ThreadState). z.steps) y_is ∙ at in
    last_hit_from_start f run points t 1 found
    (subst (λ k. IsLastHit f run points t (k + 1) found) at
    (start_hit_is_last_hit f last points notes t s end y y_is are (stands, at) is size none found (start first) run whole))
start_hit_at_position f last points notes t s end y y_is are stands is size none found start later (suc p) at run whole =
    let above : y.steps ≡ suc p = ap (λ (z : ThreadState). z.steps) y_is ∙ at in
    subst (IsLastFrom f run points t (suc (suc p)) (suc p + 1)) (sym (later (omega (arith, above))))
    (no_hit_in_empty_window f run points t (suc (suc p)) (suc p + 1) (omega arith))

-- the hit at the start, if the thread is there and there is one, is the last so far
pub start_hit_is_last : (f : FittedTrace) (last : List ℕ) (points : List Numbered) (notes : List Before) (t : ℕ) (s : Standing) (end : ℕ)
    (y : ThreadState) → y ≡ slice_index_or s.threads t idle → AreLast f last → StandsAtCut f (positions (flat_in f s)) s → end ≡ cut_of last t
    → length notes ≡ length points → AreNothingNoted notes → (found : Option Hit) → (y.steps ≡ 0 → IsStartHit t end y notes points found)
    → (0 < y.steps → found ≡ None)
    → EachRun f (λ run. IsLastFrom f run points t (window_start (positions (flat_in f s) t)) (positions (flat_in f s) t + 1) found)
start_hit_is_last f last points notes t s end y y_is are stands is size none found start later =
    start_hit_at_position f last points notes t s end y y_is are stands is size none found start later (positions (flat_in f s) t) refl
