-- Which number stops a thread where the lowest that hits is that of a breakpoint with conditions, in either direction.
use Rattle.std.proofs.Common.{◌≡◌, ◌≤◌, ◌+◌, ◌-◌, ◌∙◌, ℕ, Bool, true, List, length, Some, None, inl, inr, refl, sym, ap, subst, arith}
use Rattle.std.specs.Prelude.{slice_get, if◌then◌else◌}
use Rattle.std.proofs.lemmas.Bool.{cases_lt}
use Rattle.std.proofs.lemmas.Bool.Decides.{nat_tests}
use Rattle.ir_runs.specs.Run.{Step, Cut}
use Rattle.ir_fit.specs.Fit.{FittedTrace}
use Rattle.ir_cut.specs.Positions.{machine_of, start_of, cut_of, thread_at}
use Rattle.ir_command.specs.declared.command.Direction.{Direction}
use Rattle.ir_command.specs.declared.command.Direction.TheVariants.{Forwards, Backwards}
use Rattle.ir_command.specs.declared.command.Point.TheVariants.{Break}
use Rattle.ir_hits.specs.Hits.{Numbered, HitBy, HitByNumber, IsLowest}
use Rattle.ir_debug.specs.Machine.{StopsAt}
use Rattle.ir_agent.specs.Evaluation.{Seen}
use Rattle.ir_gdb.specs.Guards.{Guarded, is_guarded, guard_offset, has_guard, conditions_of, conditions_at}
use Rattle.ir_gdb.specs.Points.{watches_if, upwards_of, downwards_of}
use Rattle.ir_gdb.specs.Conditions.{seen_at, any_holds, IsMetAt, IsMetBy, IsLowestThat, is_met_at, first_met_at}
use Rattle.ir_gdb.specs.Stub.{Stub, most_stub_points}
use Rattle.ir_gdb.proofs.Farther.{one_least_cut, one_greatest_cut}
use Rattle.ir_gdb.proofs.HitBreaks.{IsHitGuarded, guarded_hit_upwards, guarded_hits_upwards, guarded_hit_downwards, guarded_hits_downwards}
use Rattle.ir_gdb.proofs.MetPlaces.{met_is_guarded_here, guarded_here_is_met, found_place_is_met, none_is_met_before_found, none_is_met_if_none_found}

-- a number's conditions are those of its breakpoint
number_is_guarded : (before n i : ℕ) → n ≡ before + i + guard_offset → has_guard n ≡ true
number_is_guarded before n i number = grind (arith, nat_tests, number)

conditions_of_guarded : (breaks : List Guarded) (before n i : ℕ) (b : Guarded) → slice_get breaks i ≡ Some b → n ≡ before + i + guard_offset
    → conditions_at breaks before n ≡ b.conditions
conditions_of_guarded breaks before n i b at number =
    let high = number_is_guarded before n i number in
    let less : n - guard_offset - before ≡ i = omega (arith, number) in
    ap (λ (g : Bool). conditions_of (slice_get breaks ((if g then n - guard_offset else n) - before))) high
    ∙ ap (λ (j : ℕ). conditions_of (slice_get breaks j)) less ∙ ap conditions_of at

-- ---- in either direction

-- the points of a thread, and how many are before the breakpoints
abbrev pub points_in : Direction → Stub → ℕ → Bool → List Numbered
points_in Forwards s t w = upwards_of s t w
points_in Backwards s t w = downwards_of s t w

abbrev pub before_breaks : Direction → Stub → Bool → ℕ
before_breaks Forwards s w = length (watches_if s w)
before_breaks Backwards s w = 0

-- the point of a number stops thread t at position k
abbrev pub StopsIn : Direction → List Step → Stub → ℕ → Bool → ℕ → ℕ → Type 0
StopsIn d run s t w k n = HitByNumber s.desk.fitted run (points_in d s t w) t k n
    × IsMetBy (has_guard n) run s d t k (conditions_at s.breaks (before_breaks d s w) n)

-- a thread comes to a position at a single cut
cut_unique : (run : List Step) (s : Stub) (d : Direction) (t k : ℕ) (cut other : List ℕ) → StopsAt run s.desk.fitted s.desk.at t d k cut
    → StopsAt run s.desk.fitted s.desk.at t d k other → cut_of cut ≡ cut_of other
cut_unique run s Forwards t k cut other one two =
    one_least_cut (machine_of s.desk.fitted) (start_of s.desk.fitted) run (cut_of s.desk.at) (cut_of cut) (cut_of other) t k one.1 two.1
cut_unique run s Backwards t k cut other one two =
    one_greatest_cut (machine_of s.desk.fitted) (start_of s.desk.fitted) run (cut_of s.desk.at) (cut_of cut) (cut_of other) t k one.1 two.1

hit_guarded : (run : List Step) (s : Stub) (d : Direction) (t k : ℕ) (w : Bool) (n : ℕ) → length s.breaks + length (watches_if s w) ≤ most_stub_points
    → has_guard n ≡ true → HitByNumber s.desk.fitted run (points_in d s t w) t k n
    → (i : ℕ) × (b : Guarded) × IsHitGuarded s.desk.fitted run t k (before_breaks d s w) s.breaks n i b
hit_guarded run s Forwards t k w n few guard hits = guarded_hit_upwards s.desk.fitted run t k (watches_if s w) s.breaks s.desk.points n few guard hits
hit_guarded run s Backwards t k w n few guard hits = guarded_hit_downwards s.desk.fitted run t k (watches_if s w) s.breaks s.desk.points n few guard hits

guarded_hits : (run : List Step) (s : Stub) (d : Direction) (t k : ℕ) (w : Bool) (i : ℕ) (b : Guarded) → slice_get s.breaks i ≡ Some b → is_guarded b ≡ true
    → HitBy s.desk.fitted run t k (Break t b.point.address)
    → HitByNumber s.desk.fitted run (points_in d s t w) t k (before_breaks d s w + i + guard_offset)
guarded_hits run s Forwards t k w i b at is hits = guarded_hits_upwards s.desk.fitted run t k (watches_if s w) s.breaks s.desk.points i b at is hits
guarded_hits run s Backwards t k w i b at is hits = guarded_hits_downwards s.desk.fitted run t k (watches_if s w) s.breaks s.desk.points i b at is hits

-- where thread t comes to a cut
module _ (run : List Step) (s : Stub) (d : Direction) (t : ℕ) (w : Bool) (k : ℕ) (cut : List ℕ)
    (comes : StopsAt run s.desk.fitted s.desk.at t d k cut) (there : cut_of cut t ≡ k)
    (few : length s.breaks + length (watches_if s w) ≤ most_stub_points) where
  abbrev f : FittedTrace
  f = s.desk.fitted

  abbrev seen : Seen
  seen = seen_at run f (cut_of cut) t

  abbrev pc : ℕ
  pc = (thread_at f run t (cut_of cut t)).core.pc

  abbrev before : ℕ
  before = before_breaks d s w

  holds_where_met : (conditions : List (List ℕ)) → IsMetAt run s d t k conditions → any_holds seen conditions ≡ true
  holds_where_met conditions (other, comes_too, met) =
      ap (λ (p : Cut). any_holds (seen_at run f p t) conditions) (cut_unique run s d t k cut other comes comes_too) ∙ met

  -- the breakpoint of a number
  pub record IsMetBreak (n i : ℕ) (b : Guarded) : Type 0 where
    pub at : slice_get s.breaks i ≡ Some b
    pub number : n ≡ before + i + guard_offset
    pub met : is_met_at seen pc b ≡ true

  -- a breakpoint with conditions that stops there has one that is met there
  pub guarded_stop_is_met : (n : ℕ) → has_guard n ≡ true → StopsIn d run s t w k n → (i : ℕ) × (b : Guarded) × IsMetBreak n i b
  guarded_stop_is_met n guard (hits, met) =
      let met_there = subst (λ (g : Bool). IsMetBy g run s d t k (conditions_at s.breaks before n)) guard met in
      let found = hit_guarded run s d t k w n few guard hits in
      let is = found.2 in
      let conditions = conditions_of_guarded s.breaks before n found.0 found.1 is.at is.number in
      let holds = holds_where_met found.1.conditions (subst (λ (cs : List (List ℕ)). IsMetAt run s d t k cs) conditions met_there) in
      let here = sym (ap (λ (j : ℕ). (thread_at f run t j).core.pc) there ∙ is.hits.1) in (
        found.0,
        found.1,
        record {
          at = is.at;
          number = is.number;
          met = guarded_here_is_met seen pc found.1 (record { guarded = is.guarded; here = here; holds = holds });
        },
      )

  -- a breakpoint with conditions hits there under the lowest number of all that do
  module _ (least : ℕ) (lowest : IsLowest s.desk.fitted run (points_in d s t w) t k least) (guard : has_guard least ≡ true) where
    number_is_high : (n : ℕ) → least ≤ n → has_guard n ≡ true
    number_is_high n low =
        let high : guard_offset ≤ least = grind (arith, nat_tests, guard) in
        let up : guard_offset ≤ n = omega (arith, low, high) in
        grind (arith, nat_tests, up)

    stop_is_met_break : (n : ℕ) → StopsIn d run s t w k n → (i : ℕ) × (b : Guarded) × IsMetBreak n i b
    stop_is_met_break n stops = guarded_stop_is_met n (number_is_high n (lowest.lowest n stops.0)) stops

    met_break_stops : (i : ℕ) (b : Guarded) → slice_get s.breaks i ≡ Some b → is_met_at seen pc b ≡ true → StopsIn d run s t w k (before + i + guard_offset)
    met_break_stops i b at met =
        let one = hit_guarded run s d t k w least few guard lowest.hits in
        let is = met_is_guarded_here seen pc b met in
        let here = ap (λ (j : ℕ). (thread_at f run t j).core.pc) (sym there) ∙ sym is.here in
        let hits : HitBy f run t k (Break t b.point.address) = (refl, here, one.2.hits.2) in
        let number : before + i + guard_offset ≡ before + i + guard_offset = refl in
        let conditions = conditions_of_guarded s.breaks before (before + i + guard_offset) i b at number in
        let stands : IsMetAt run s d t k b.conditions = (cut, comes, is.holds) in (
          guarded_hits run s d t k w i b at is.guarded hits,
          subst (λ (g : Bool). IsMetBy g run s d t k (conditions_at s.breaks before (before + i + guard_offset)))
              (sym (number_is_guarded before (before + i + guard_offset) i number))
              (subst (λ (cs : List (List ℕ)). IsMetAt run s d t k cs) (sym conditions) stands),
        )

    -- it stops at the first breakpoint of which a condition is met
    pub none_met_is_no_stop : first_met_at run s cut t ≡ None → (n : ℕ) → StopsIn d run s t w k n → ⊥
    none_met_is_no_stop none n stops =
        let found = stop_is_met_break n stops in
        none_is_met_if_none_found seen pc s.breaks none found.0 found.1 found.2.at found.2.met

    pub first_met_is_stop : (i : ℕ) → first_met_at run s cut t ≡ Some i → IsLowestThat (StopsIn d run s t w) k (before + i + guard_offset)
    first_met_is_stop i is =
        let found = found_place_is_met seen pc s.breaks i is in
        record {
          stops = met_break_stops i found.0 found.1 found.2;
          lowest = λ m stops.
              let other = stop_is_met_break m stops in
              let number = other.2.number in
              elim (cases_lt other.0 i) [
                | inl less ↦ absurd (none_is_met_before_found seen pc s.breaks i is other.0 other.1 less other.2.at other.2.met)
                | inr from ↦ omega (arith, number, from)
              ];
        }
