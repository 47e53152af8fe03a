-- A step of one thread alone: facts found of a stub that has spoken, said of the one before.
use Rattle.std.proofs.Common.{◌≡◌, ◌≢◌, ◌≤◌, ◌<◌, ◌+◌, ◌∙◌, ℕ, Bool, true, false, List, ◌++◌, Option, Some, None, is_some, refl, sym, ap, subst, arith}
use Rattle.ir_fit.specs.Fit.{FittedTrace, HasRun}
use Rattle.ir_runs.specs.Run.{Step}
use Rattle.ir_cut.specs.Positions.{EachRun, cut_of, threads_of, last_of, thread_at}
use Rattle.ir_command.specs.declared.command.Direction.TheVariants.{Forwards}
use Rattle.ir_command.specs.declared.hit.Hit.{Hit}
use Rattle.ir_hits.specs.Hits.{Numbered}
use Rattle.ir_hits.specs.Searching.{IsNextHit}
use Rattle.ir_timeline.specs.Hand.{IsCutOf}
use Rattle.ir_packet.specs.declared.request.Motion.{Motion}
use Rattle.ir_packet.specs.declared.request.Motion.TheVariants as motion
use Rattle.ir_gdb.specs.Guards.{Guarded}
use Rattle.ir_gdb.specs.declared.point.Watched.{Watched}
use Rattle.ir_gdb.specs.declared.stopped.Moving.{Moving}
use Rattle.ir_gdb.specs.declared.stopped.Stopped.{Stopped}
use Rattle.ir_gdb.specs.Points.{points_upwards, with_stub_point}
use Rattle.ir_gdb.specs.Stub.{Stub, shared_breaks, stub_spoken}
use Rattle.ir_gdb.specs.Stops.{position_of, MovesTo}
use Rattle.ir_gdb.specs.Together.{Halt, Comes, MovesAlone}
use Rattle.ir_gdb.specs.Over.{pc_here, points_over, OnWay, HasHit, NoneHasHit, OtherHasHit, PassesHit, stepped_over, StepsOver, is_step, waits, no_more, LeadsBy, LeadsAlone}
use Rattle.ir_gdb.specs.Moves.{all_at_stop, arrived, told_text, MotionLeads, Moves, MovesBy, together_after, with_together}
use Rattle.ir_gdb.proofs.Together.{holds_below_except_one}

-- ---- hits of a thread on its way

pub cut_within_last : (f : FittedTrace) (cut : List ℕ) (t : ℕ) → HasRun f → IsCutOf f cut → t < threads_of f → cut_of cut t ≤ last_of f t
cut_within_last f cut t has is l = subst (λ (n : ℕ). cut_of cut t ≤ n) (has.whole.1.steps t l) ((is.1 has.run has.whole).0 t)

pub own_within_target : (to p t : ℕ) (here at : List ℕ) → p < to → here ≡ at → p ≡ cut_of at t → cut_of here t ≤ to
own_within_target to p t here at far is from = let same = ap (λ (x : List ℕ). cut_of x t) is in omega (arith, far, same, from)

has_hit_on_way : (run : List Step) (s : Stub) (pc u : ℕ) (cut : List ℕ) (hit : Option Hit) → OnWay run s pc cut u hit
    → HasHit (is_some hit) run s pc cut u
has_hit_on_way run s pc u cut None way = way
has_hit_on_way run s pc u cut (Some h) way = (h, way)

pub search_points_are_over : (s v : Stub) (pc u : ℕ) (points : List Numbered) (ws : List Watched) (bs : List Guarded) (own : List Numbered) → v ≡ stub_spoken s
    → points ≡ with_stub_point (points_upwards u ws bs own) u pc → ws ≡ shared_breaks v.watches → bs ≡ v.breaks → own ≡ v.desk.points → points ≡ points_over s pc u
search_points_are_over s v pc u points ws bs own same is watches breaks mine =
    is ∙ ap (λ (x : List Watched). with_stub_point (points_upwards u x bs own) u pc) (watches ∙ ap (λ (x : Stub). shared_breaks x.watches) same)
    ∙ ap (λ (x : List Guarded). with_stub_point (points_upwards u (shared_breaks s.watches) x own) u pc) (breaks ∙ ap (λ (x : Stub). x.breaks) same)
    ∙ ap (λ (x : List Numbered). with_stub_point (points_upwards u (shared_breaks s.watches) s.breaks x) u pc) (mine ∙ ap (λ (x : Stub). x.desk.points) same)

pub has_hit_by_found : (s : Stub) (f : FittedTrace) (pc u to : ℕ) (cut here : List ℕ) (points : List Numbered) (hit : Option Hit) (is : Bool)
    → f ≡ s.desk.fitted → here ≡ s.desk.at → to ≡ cut_of cut u → points ≡ points_over s pc u
    → EachRun f (λ run. IsNextHit f run points u (cut_of here u) to hit) → is ≡ is_some hit
    → EachRun s.desk.fitted (λ run. HasHit is run s pc cut u)
has_hit_by_found s f pc u to cut here points hit is same at ends are finds found run whole =
    let one = subst (λ (g : FittedTrace). EachRun g (λ r. IsNextHit g r points u (cut_of here u) to hit)) same finds run whole in
    let by_points = subst (λ (ps : List Numbered). IsNextHit s.desk.fitted run ps u (cut_of here u) to hit) are one in
    let by_here = subst (λ (xs : List ℕ). IsNextHit s.desk.fitted run (points_over s pc u) u (cut_of xs u) to hit) at by_points in
    let by_end = subst (λ (n : ℕ). IsNextHit s.desk.fitted run (points_over s pc u) u (position_of s u) n hit) ends by_here in
    subst (λ (b : Bool). HasHit b run s pc cut u) (sym found) (has_hit_on_way run s pc u cut hit by_end)

-- ---- hits of the others

has_hit_from_spoken : (is : Bool) (run : List Step) (s : Stub) (pc u : ℕ) (cut : List ℕ) → HasHit is run (stub_spoken s) pc cut u → HasHit is run s pc cut u
has_hit_from_spoken true run s pc u cut has = has
has_hit_from_spoken false run s pc u cut has = has

runs_hit_from_spoken : (s v : Stub) (is : Bool) (pc u : ℕ) (cut : List ℕ) → v ≡ stub_spoken s → EachRun v.desk.fitted (λ run. HasHit is run v pc cut u)
    → EachRun s.desk.fitted (λ run. HasHit is run s pc cut u)
runs_hit_from_spoken s v is pc u cut same has run whole =
    has_hit_from_spoken is run s pc u cut (subst (λ (x : Stub). EachRun x.desk.fitted (λ r. HasHit is r x pc cut u)) same has run whole)

pub none_has_hit_at_start : (s : Stub) (pc t : ℕ) (cut : List ℕ) → EachRun s.desk.fitted (λ run. NoneHasHit run s pc cut t 0)
none_has_hit_at_start s pc t cut run whole = λ u below other. absurd (omega (arith, below))

-- the mover itself is left out
pub none_has_hit_mover : (s : Stub) (pc t n : ℕ) (cut : List ℕ) → n ≡ t → EachRun s.desk.fitted (λ run. NoneHasHit run s pc cut t n)
    → EachRun s.desk.fitted (λ run. NoneHasHit run s pc cut t (n + 1))
none_has_hit_mover s pc t n cut same none run whole =
    holds_below_except_one (λ u. HasHit false run s pc cut u) t n (none run whole) (λ other. absurd (other same))

pub none_has_hit_step : (s v : Stub) (is : Bool) (pc t n : ℕ) (cut : List ℕ) → v ≡ stub_spoken s → is ≡ false
    → EachRun v.desk.fitted (λ run. HasHit is run v pc cut n) → EachRun s.desk.fitted (λ run. NoneHasHit run s pc cut t n)
    → EachRun s.desk.fitted (λ run. NoneHasHit run s pc cut t (n + 1))
none_has_hit_step s v is pc t n cut same lacks has none run whole =
    holds_below_except_one (λ u. HasHit false run s pc cut u) t n (none run whole)
    (λ other. subst (λ (b : Bool). HasHit b run s pc cut n) lacks (runs_hit_from_spoken s v is pc n cut same has run whole))

pub pc_is_pc_here : (s : Stub) (t p pc : ℕ) → p ≡ position_of s t → EachRun s.desk.fitted (λ run. pc ≡ (thread_at s.desk.fitted run t p).core.pc)
    → EachRun s.desk.fitted (λ run. pc ≡ pc_here run s t)
pc_is_pc_here s t p pc at is run whole = is run whole ∙ ap (λ (n : ℕ). (thread_at s.desk.fitted run t n).core.pc) at

pub other_has_hit_if_found : (s v : Stub) (is : Bool) (pc t n : ℕ) (cut : List ℕ) → v ≡ stub_spoken s → is ≡ true → n ≢ t → n < threads_of s.desk.fitted
    → EachRun s.desk.fitted (λ run. pc ≡ pc_here run s t) → EachRun v.desk.fitted (λ run. HasHit is run v pc cut n)
    → EachRun s.desk.fitted (λ run. OtherHasHit true run s (pc_here run s t) cut t)
other_has_hit_if_found s v is pc t n cut same hits other below at has run whole =
    let said = subst (λ (b : Bool). HasHit b run s pc cut n) hits (runs_hit_from_spoken s v is pc n cut same has run whole) in
    (n, below, other, subst (λ (a : ℕ). HasHit true run s a cut n) (at run whole) said)

pub no_other_has_hit : (s : Stub) (pc t n : ℕ) (cut : List ℕ) → threads_of s.desk.fitted ≤ n → EachRun s.desk.fitted (λ run. pc ≡ pc_here run s t)
    → EachRun s.desk.fitted (λ run. NoneHasHit run s pc cut t n) → EachRun s.desk.fitted (λ run. OtherHasHit false run s (pc_here run s t) cut t)
no_other_has_hit s pc t n cut all at none run whole =
    subst (λ (a : ℕ). NoneHasHit run s a cut t (threads_of s.desk.fitted)) (at run whole)
    (λ u below other. none run whole u (omega (arith, below, all)) other)

-- ---- whether one is passed

pub passes_hit_together : (s : Stub) (is : Bool) (t : ℕ) (cut : List ℕ) → s.together ≡ true
    → EachRun s.desk.fitted (λ run. OtherHasHit is run s (pc_here run s t) cut t) → EachRun s.desk.fitted (λ run. PassesHit s.together is run s cut t)
passes_hit_together s is t cut so has run whole = subst (λ (b : Bool). PassesHit b is run s cut t) (sym so) (has run whole)

pub apart_passes_no_hit : (s : Stub) (t : ℕ) (cut : List ℕ) → s.together ≡ false → EachRun s.desk.fitted (λ run. PassesHit s.together false run s cut t)
apart_passes_no_hit s t cut so run whole = subst (λ (b : Bool). PassesHit b false run s cut t) (sym so) refl

passes_hit_from_spoken : (b is : Bool) (run : List Step) (s : Stub) (t : ℕ) (cut : List ℕ) → PassesHit b is run (stub_spoken s) cut t → PassesHit b is run s cut t
passes_hit_from_spoken true true run s t cut passes = passes
passes_hit_from_spoken true false run s t cut passes = passes
passes_hit_from_spoken false is run s t cut passes = passes

-- ---- the step

pub steps_over_and_settles : (s u v w : Stub) (t : ℕ) (to : Stopped) (cut : List ℕ) (is : Bool) (h : Halt) → u ≡ stub_spoken s → v ≡ stub_spoken u
    → EachRun s.desk.fitted (λ run. MovesTo run s t motion.Step to) → EachRun u.desk.fitted (λ run. Comes run u Forwards t to.position cut)
    → EachRun u.desk.fitted (λ run. PassesHit u.together is run u cut t) → h ≡ stepped_over is s t cut to → w ≡ all_at_stop v h
    → (h : Halt) × EachRun s.desk.fitted (λ run. StepsOver run s t h) × (w ≡ all_at_stop s h)
steps_over_and_settles s u v w t to cut is h same again moves comes passes ends settles =
    let come = subst (λ (x : Stub). EachRun x.desk.fitted (λ run. Comes run x Forwards t to.position cut)) same comes in
    let pass = subst (λ (x : Stub). EachRun x.desk.fitted (λ run. PassesHit x.together is run x cut t)) same passes in
    let said : v ≡ stub_spoken s = again ∙ ap (λ (x : Stub). stub_spoken x) same in (
      h,
      λ run whole. (to, moves run whole, (cut, come run whole, (is, passes_hit_from_spoken s.together is run s t cut (pass run whole), ends))),
      settles ∙ ap (λ (x : Stub). all_at_stop x h) said,
    )

-- ---- a move alone

pub leads_alone_if_waiting : (s v : Stub) (t : ℕ) (m n : Motion) → waits s t ≡ true → n ≡ no_more m
    → ((h : Halt) × EachRun s.desk.fitted (λ run. MovesAlone run s t n h) × (v ≡ all_at_stop s h))
    → (h : Halt) × EachRun s.desk.fitted (λ run. LeadsAlone run s t m h) × (v ≡ all_at_stop s h)
leads_alone_if_waiting s v t m n so is (h, moves, settles) = (
  h,
  λ run whole. subst (λ (b : Bool). LeadsBy b (is_step m) run s t m h) (sym so) (subst (λ (x : Motion). MovesAlone run s t x h) is (moves run whole)),
  settles,
)

pub step_over_leads_alone : (s v : Stub) (t : ℕ) (m : Motion) → waits s t ≡ false → is_step m ≡ true
    → ((h : Halt) × EachRun s.desk.fitted (λ run. StepsOver run s t h) × (v ≡ all_at_stop s h))
    → (h : Halt) × EachRun s.desk.fitted (λ run. LeadsAlone run s t m h) × (v ≡ all_at_stop s h)
step_over_leads_alone s v t m free step (h, moves, settles) = (
  h,
  λ run whole. subst (λ (b : Bool). LeadsBy b (is_step m) run s t m h) (sym free) (subst (λ (b : Bool). LeadsBy false b run s t m h) (sym step) (moves run whole)),
  settles,
)

pub leads_alone_by_move : (s v : Stub) (t : ℕ) (m : Motion) → waits s t ≡ false → is_step m ≡ false
    → ((h : Halt) × EachRun s.desk.fitted (λ run. MovesAlone run s t m h) × (v ≡ all_at_stop s h))
    → (h : Halt) × EachRun s.desk.fitted (λ run. LeadsAlone run s t m h) × (v ≡ all_at_stop s h)
leads_alone_by_move s v t m free step (h, moves, settles) = (
  h,
  λ run whole. subst (λ (b : Bool). LeadsBy b (is_step m) run s t m h) (sym free) (subst (λ (b : Bool). LeadsBy false b run s t m h) (sym step) (moves run whole)),
  settles,
)

-- ---- a move, and its reply

pub uninterrupted_moves : (s u v x : Stub) (who : Moving) (m : Motion) (together : Bool) (old new : List ℕ) → s.interrupted ≡ false
    → ((h : Halt) × EachRun s.desk.fitted (λ run. MotionLeads run s who.among who.thread m h) × (u ≡ arrived s who.among h))
    → together ≡ together_after s who m → v ≡ with_together u together → EachRun v.desk.fitted (λ run. new ≡ old ++ told_text run v) → x ≡ v
    → (after : Stub) × EachRun s.desk.fitted (λ run. Moves run s who m after × (new ≡ old ++ told_text run after)) × (x ≡ after)
uninterrupted_moves s u v x who m together old new goes (h, leads, settles) says is told last =
    let after : Stub = with_together (arrived s who.among h) (together_after s who m) in
    let same : v ≡ after = is ∙ ap (λ (y : Stub). with_together y together) settles ∙ ap (λ (b : Bool). with_together (arrived s who.among h) b) says in
    let text = subst (λ (y : Stub). EachRun y.desk.fitted (λ run. new ≡ old ++ told_text run y)) same told in (
      after,
      λ run whole. (subst (λ (b : Bool). MovesBy b run s who m after) (sym goes) (h, leads run whole, refl), text run whole),
      last ∙ same,
    )
