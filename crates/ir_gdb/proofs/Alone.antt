-- A thread that moves alone, and the command of a session that leads it there.
use Rattle.std.proofs.Common.{◌≡◌, ◌<◌, ◌≤◌, ◌+◌, ◌-◌, ◌⊎◌, ◌∙◌, ℕ, zero, suc, min, Bool, true, false, List, [], ◌++◌, length, Option, Some}
use Rattle.std.proofs.Common.{None, is_none, true≢false, inl, inr, refl, sym, ap, subst, arith}
use Rattle.std.specs.Prelude.{nat_lt, map, option_map, if◌then◌else◌}
use Rattle.std.proofs.lemmas.Bool.{false_from_ne_true}
use Rattle.std.proofs.lemmas.Bool.Decides.{nat_tests}
use Rattle.ir_runs.specs.Run.{Step}
use Rattle.ir_fit.specs.Fit.{FittedTrace}
use Rattle.ir_cut.specs.Positions.{last_of}
use Rattle.ir_command.specs.declared.command.Command.TheVariants as command
use Rattle.ir_command.specs.declared.command.Direction.TheVariants.{Forwards, Backwards}
use Rattle.ir_command.specs.declared.command.Move.TheVariants as move
use Rattle.ir_command.specs.declared.hit.Hit.{Hit}
use Rattle.ir_hits.specs.Hits.{IsFirstHit, IsLastHit}
use Rattle.ir_hits.specs.Searching.{IsNextHit}
use Rattle.ir_debug.specs.Machine.{stop_of}
use Rattle.ir_packet.specs.declared.reply.Reason.{Reason}
use Rattle.ir_packet.specs.declared.request.Motion.TheVariants as motion
use Rattle.ir_gdb.specs.Guards.{Guarded, place_of, without_conditions}
use Rattle.ir_gdb.specs.declared.point.Watched.{Watched}
use Rattle.ir_gdb.specs.declared.stopped.Stopped.{Stopped}
use Rattle.ir_gdb.specs.Points.{watch_points, break_points, points_upwards, points_downwards, watches_if}
use Rattle.ir_gdb.specs.Stub.{Stub, IsStub}
use Rattle.ir_gdb.specs.Stops.{stopped, position_of, break_reason, watch_reason, WatchNext, StepsBy, after_step, StepsBackBy, after_back}
use Rattle.ir_gdb.specs.Stops.{ContinuesBackBy, BackBy, StopsBelow, stop_above, end_above, stop_below, end_below}
use Rattle.ir_gdb.specs.Together.{Halt, Comes, MovesAlone}
use Rattle.ir_gdb.specs.Over.{PassesHit, stepped_over, StepsOver, LeadsBy}
use Rattle.ir_gdb.specs.Laws.{SessionGoes, LeadsLone, StaysWhereItIs}
use Rattle.ir_gdb.proofs.Finding.{position_in, upwards_as_session, downwards_as_session}
use Rattle.ir_gdb.proofs.Unguarded.{AreUnguarded, first_stop_is_first_hit, last_stop_is_last_hit}

-- ---- where no watch is set

no_hit_without_points : (f : FittedTrace) (run : List Step) (t p to : ℕ) (hit : Option Hit) → IsNextHit f run [] t p to hit → hit ≡ None
no_hit_without_points f run t p to None next = refl
no_hit_without_points f run t p to (Some h) next = let at = next.3.hits.2 in absurd (cc at)

no_watch_points : (t : ℕ) → watch_points t 0 [] ≡ []
unfolding watch_points
no_watch_points t = refl

pub no_watch_is_next : (run : List Step) (s : Stub) (t p : ℕ) (w : Bool) (why : Option Reason) → watches_if s w ≡ [] → WatchNext run s t w p why → why ≡ None
no_watch_is_next run s t p w why none (hit, next, is) =
    let bare = subst (λ (ws : List Watched). IsNextHit s.desk.fitted run (watch_points t 0 ws) t p (p + 1) hit) none next in
    let empty = subst (λ points. IsNextHit s.desk.fitted run points t p (p + 1) hit) (no_watch_points t) bare in
    is ∙ ap (λ (h : Option Hit). option_map (λ (x : Hit). watch_reason (watches_if s w) x.number) h)
    (no_hit_without_points s.desk.fitted run t p (p + 1) hit empty)

-- ---- the ends of searches

none_is_not_some : {k : ℕ} → ◌≡◌ {A = Option ℕ} None (Some k) → ⊥
none_is_not_some same = true≢false (ap is_none same)

pub stop_above_is_at_hit : (breaks : List Guarded) (h : Hit) → (stop_above [] breaks h).position ≡ h.position
stop_above_is_at_hit breaks h = by (nat_lt h.number 0)
    (false_from_ne_true (nat_lt h.number 0) (λ test. let less : h.number < 0 = grind (arith, nat_tests, test) in omega (arith, less)))
  where
    by : (b : Bool) → b ≡ false → (if b then stopped (h.position - 1) (watch_reason [] h.number) else stopped h.position (break_reason breaks (place_of h.number - 0))).position
        ≡ h.position
    by true is = absurd (true≢false is)
    by false is = refl

end_above_is_stop : (f : FittedTrace) (t : ℕ) (breaks : List Guarded) (hit other : Option Hit) → position_in hit ≡ position_in other
    → (end_above [] breaks (last_of f t) hit).position ≡ stop_of f t Forwards other
end_above_is_stop f t breaks None None same = refl
end_above_is_stop f t breaks None (Some k) same = absurd (none_is_not_some same)
end_above_is_stop f t breaks (Some h) None same = absurd (none_is_not_some (sym same))
end_above_is_stop f t breaks (Some h) (Some k) same = stop_above_is_at_hit breaks h ∙ cc same

pub stop_below_is_at_hit : (breaks : List Guarded) (h : Hit) → (stop_below [] breaks h).position ≡ h.position
stop_below_is_at_hit breaks h = by (nat_lt (place_of h.number) (length breaks))
  where
    by : (b : Bool) → (if b then stopped h.position (break_reason breaks (place_of h.number)) else stopped h.position (watch_reason [] (h.number - length breaks))).position
        ≡ h.position
    by true = refl
    by false = refl

end_below_is_stop : (f : FittedTrace) (t : ℕ) (breaks : List Guarded) (hit other : Option Hit) → position_in hit ≡ position_in other
    → (end_below [] breaks hit).position ≡ stop_of f t Backwards other
end_below_is_stop f t breaks None None same = refl
end_below_is_stop f t breaks None (Some k) same = absurd (none_is_not_some same)
end_below_is_stop f t breaks (Some h) None same = absurd (none_is_not_some (sym same))
end_below_is_stop f t breaks (Some h) (Some k) same = stop_below_is_at_hit breaks h ∙ cc same

-- ---- `c`

pub continue_as_session : (run : List Step) (s : Stub) (t : ℕ) (h : Halt) → IsStub s → AreUnguarded s.breaks → LeadsLone run s t motion.Continue h
    → (h.thread ≡ t) × SessionGoes run s t (command.Continue t Forwards) h.cut
continue_as_session run s t h stub free lone = by (subst (λ (b : Bool). LeadsBy b false run s t motion.Continue h) lone.free lone.leads)
  where
    f : FittedTrace
    f = s.desk.fitted

    by : MovesAlone run s t motion.Continue h → (h.thread ≡ t) × SessionGoes run s t (command.Continue t Forwards) h.cut
    by (to, (hit, finds, ends), comes, is) =
        let first = first_stop_is_first_hit run s t lone.watches free stub.few (position_of s t) hit finds in
        let bare = subst (λ (ws : List Watched). IsFirstHit f run (points_upwards t ws s.breaks s.desk.points) t (position_of s t) hit) lone.watches first in
        let found = upwards_as_session run f s.breaks s.desk.points t (position_of s t) (s.desk.last_point + 1) hit bare in
        let at = ap (λ (x : Stopped). x.position) (ends ∙ ap (λ (ws : List Watched). end_above ws s.breaks (last_of f t) hit) lone.watches)
        ∙ end_above_is_stop f t s.breaks hit found.0 found.2 in
        (ap (λ (x : Halt). x.thread) is, (_, (h.cut, found.0, (found.1, subst (λ (k : ℕ). Comes run s Forwards t k h.cut) at comes), (refl, refl))))

-- ---- `bc`

stops_below_as_session : (run : List Step) (s : Stub) (t n : ℕ) (to : Stopped) → IsStub s → AreUnguarded s.breaks → s.watches ≡ [] → n ≡ position_of s t
    → ContinuesBackBy run s t true n to
    → (hit : Option Hit) × IsLastHit s.desk.fitted run (s.desk.points ++ break_points t (s.desk.last_point + 1) (map without_conditions s.breaks)) t (position_of s t) hit
    × (to.position ≡ stop_of s.desk.fitted t Backwards hit)
stops_below_as_session run s t zero to stub unguarded none here is = (None, λ j n low high. absurd (omega (arith, high, here)), ap (λ (x : Stopped). x.position) is)
stops_below_as_session run s t (suc p) to stub unguarded none here (why, next, back) = by (subst (λ (w : Option Reason). BackBy run s t true (suc p) w to)
    (no_watch_is_next run s t p true why none next) back)
  where
    f : FittedTrace
    f = s.desk.fitted

    by : StopsBelow run s t true to → (hit : Option Hit)
        × IsLastHit s.desk.fitted run (s.desk.points ++ break_points t (s.desk.last_point + 1) (map without_conditions s.breaks)) t (position_of s t) hit
        × (to.position ≡ stop_of s.desk.fitted t Backwards hit)
    by (hit, finds, ends) =
        let last = last_stop_is_last_hit run s t none unguarded stub.few (position_of s t) hit finds in
        let bare = subst (λ (ws : List Watched). IsLastHit f run (points_downwards t ws s.breaks s.desk.points) t (position_of s t) hit) none last in
        let found = downwards_as_session run f s.breaks s.desk.points t (position_of s t) (s.desk.last_point + 1) hit bare in (
          found.0,
          found.1,
          ap (λ (x : Stopped). x.position) (ends ∙ ap (λ (ws : List Watched). end_below ws s.breaks hit) none)
              ∙ end_below_is_stop f t s.breaks hit found.0 found.2,
        )

pub continue_back_as_session : (run : List Step) (s : Stub) (t : ℕ) (h : Halt) → IsStub s → AreUnguarded s.breaks → LeadsLone run s t motion.ContinueBack h
    → (h.thread ≡ t) × SessionGoes run s t (command.Continue t Backwards) h.cut
continue_back_as_session run s t h stub unguarded lone = by (subst (λ (b : Bool). LeadsBy b false run s t motion.ContinueBack h) lone.free lone.leads)
  where
    by : MovesAlone run s t motion.ContinueBack h → (h.thread ≡ t) × SessionGoes run s t (command.Continue t Backwards) h.cut
    by (to, moves, comes, is) =
        let found = stops_below_as_session run s t (position_of s t) to stub unguarded lone.watches refl moves in
        (ap (λ (x : Halt). x.thread) is, (_, (h.cut, found.0, (found.1, subst (λ (k : ℕ). Comes run s Backwards t k h.cut) found.2 comes), (refl, refl))))

-- ---- `bs`

steps_back_one : (run : List Step) (s : Stub) (t n : ℕ) (to : Stopped) → s.watches ≡ [] → StepsBackBy run s t true n to → to.position ≡ n - 1
steps_back_one run s t zero to none is = ap (λ (x : Stopped). x.position) is
steps_back_one run s t (suc p) to none (why, next, is) =
    let less : p ≡ suc p - 1 = omega arith in
    ap (λ (x : Stopped). x.position) (is ∙ ap (λ (w : Option Reason). after_back p w) (no_watch_is_next run s t p true why none next)) ∙ less

pub step_back_as_session : (run : List Step) (s : Stub) (t : ℕ) (h : Halt) → LeadsLone run s t motion.StepBack h
    → (h.thread ≡ t) × SessionGoes run s t (command.Move (move.Back t 1)) h.cut
step_back_as_session run s t h lone = by (subst (λ (b : Bool). LeadsBy b false run s t motion.StepBack h) lone.free lone.leads)
  where
    by : MovesAlone run s t motion.StepBack h → (h.thread ≡ t) × SessionGoes run s t (command.Move (move.Back t 1)) h.cut
    by (to, moves, comes, is) =
        let at = steps_back_one run s t (position_of s t) to lone.watches moves in
        (ap (λ (x : Halt). x.thread) is, (_, (h.cut, subst (λ (k : ℕ). Comes run s Backwards t k h.cut) at comes, (refl, refl))))

-- ---- `s`

-- a thread with no step left comes to no position but its own
steps_one : (run : List Step) (s : Stub) (t p last : ℕ) (b : Bool) (to : Stopped) → s.watches ≡ [] → nat_lt p last ≡ b → p ≤ last
    → StepsBy b run s t true p to → to.position ≡ min (p + 1) last
steps_one run s t p last true to none test within (why, next, is) =
    let less : p < last = grind (arith, nat_tests, test) in
    let least : p + 1 ≡ min (p + 1) last = omega (arith, less) in
    ap (λ (x : Stopped). x.position) (is ∙ ap (λ (w : Option Reason). after_step p w) (no_watch_is_next run s t p true why none next)) ∙ least
steps_one run s t p last false to none test within is =
    let past : last ≤ p = grind (arith, nat_tests, test) in
    let least : p ≡ min (p + 1) last = omega (arith, past, within) in
    ap (λ (x : Stopped). x.position) is ∙ least

pub step_goes_as_session : (run : List Step) (s : Stub) (t : ℕ) (h : Halt) → LeadsLone run s t motion.Step h
    → ((h.thread ≡ t) × SessionGoes run s t (command.Move (move.Step t 1)) h.cut) ⊎ StaysWhereItIs run s t h
step_goes_as_session run s t h lone = over_steps (subst (λ (b : Bool). LeadsBy b true run s t motion.Step h) lone.free lone.leads)
  where
    Goes : Type 0
    Goes = ((h.thread ≡ t) × SessionGoes run s t (command.Move (move.Step t 1)) h.cut) ⊎ StaysWhereItIs run s t h

    here_within : (cut : List ℕ) (k : ℕ) → Comes run s Forwards t k cut → position_of s t ≤ last_of s.desk.fitted t
    here_within cut k comes = let up = comes.1.above t in let within = comes.1.cut t in let count = lone.whole.1.steps t lone.thread in omega (arith, up, within, count)

    by : (together passes : Bool) (to : Stopped) (cut : List ℕ) → s.together ≡ together → to.position ≡ min (position_of s t + 1) (last_of s.desk.fitted t)
        → Comes run s Forwards t to.position cut → PassesHit together passes run s cut t → h ≡ stepped_over passes s t cut to → Goes
    by true true to cut so at comes passes is = inr (so, is, (cut, (_, (cut, subst (λ (k : ℕ). Comes run s Forwards t k cut) at comes, (refl, refl))), passes))
    by false true to cut so at comes passes is = absurd (true≢false passes)
    by together false to cut so at comes passes is = inl (
      ap (λ (x : Halt). x.thread) is,
      (
        _,
        (
          h.cut,
          subst (λ (k : ℕ). Comes run s Forwards t k h.cut) at (subst (λ (c : List ℕ). Comes run s Forwards t to.position c) (sym (ap (λ (x : Halt). x.cut) is)) comes),
          (refl, refl),
        ),
      ),
    )

    over_steps : StepsOver run s t h → Goes
    over_steps (to, steps, (cut, comes, (passes, passed, is))) = by s.together passes to cut refl
        (steps_one run s t (position_of s t) (last_of s.desk.fitted t) (nat_lt (position_of s t) (last_of s.desk.fitted t)) to lone.watches refl
        (here_within cut to.position comes) steps)
        comes passed is
