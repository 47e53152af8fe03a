use Rattle.std.proofs.Common.{◌≡◌, ◌⊎◌, List, [], length, true, false, sym, ◌∙◌, subst}
use Rattle.std.specs.Prelude.{◌≢◌}
use Rattle.std.specs.String.{string_bytes}
use Rattle.std.proofs.lemmas.List.Folds.{list_all-map}
use Rattle.ir_record.specs.Recording.{order_of_turns}
use Rattle.ir_record.specs.declared.turns.Turns.{Turns}
use Rattle.ir_world.specs.Sources.{made_with, origins}
use Rattle.ir_world.proofs.CallerLemmas.{answered_by_own_origin}
use Rattle.ir_order.specs.Spelling.{Spells}
use Rattle.ir_schedule.specs.Conditions.{as_condition, fulfils, end_state}
use Rattle.ir_schedule.specs.Moments.{moment_of}
use Rattle.ir_hunt.specs.Hunt.{hunt_of}
use Rattle.ir_hunt.specs.Stale.{IsWanted}
use Rattle.ir_hunt.proofs.Found.{fulfilled_seed_is_found, fails_if_seed_run_does}
use Rattle.ir_hunt.proofs.seeker.Seeker.list_of_seed.Goals as goal

pub returns-then-is_found-clause-tried : goal.returns-then-is_found-clause-tried
returns-then-is_found-clause-tried g c =
    let s = c.args.self.now in
    let f = c.fulfils.new.self in
    let ran = c.in_ok-is_found.ensures in
    let made = f.origins ∙ (λ i. origins true (ran.plan i).now.record.random (ran.plan i).now.record.input (length (ran.image i).now.entries)) in
    let answered = answered_by_own_origin (λ w. made_with w.time w.seed w.file.now) (λ w. w.answers.items) (λ w. (w.sources, w.gave)) true
    s.plan.now.record.random s.plan.now.record.input f.runner.worlds.items (length s.image.now.entries) made in
    let holds = list_all-map (λ x. fulfils x (end_state f.runner.flat)) as_condition s.plan.now.conditions.now ∙ ran.each c.if-is_found.true in
    let spells = subst (λ (ts : List Turns). order_of_turns ts ≢ [] → Spells (string_bytes c.in_ok-list.list) (order_of_turns ts)) c.as_slice.ensures.value
    c.in_ok-list.ensures.spelled ran.some in
    fulfilled_seed_is_found (hunt_of s.image.now s.plan.now c.args.choices.now) c.args.seed (moment_of (λ w. w.answers.items) f.runner)
    (string_bytes c.in_ok-list.list) ran.ran answered holds (ran.wanted c.if-is_found.true) spells

pub returns-clause-tried : goal.returns-clause-tried
returns-clause-tried g c =
    let s = c.args.self.now in
    let f = c.fulfils.new.self in
    let ran = c.in_ok-is_found.ensures in
    let made = f.origins ∙ (λ i. origins true (ran.plan i).now.record.random (ran.plan i).now.record.input (length (ran.image i).now.entries)) in
    let answered = answered_by_own_origin (λ w. made_with w.time w.seed w.file.now) (λ w. w.answers.items) (λ w. (w.sources, w.gave)) true
    s.plan.now.record.random s.plan.now.record.input f.runner.worlds.items (length s.image.now.entries) made in
    let fails = subst (λ b. (b ≡ false) ⊎ IsWanted s.image.now s.plan.now.record (order_of_turns f.runner.turns.items) s.plan.now.stale false)
    (sym (list_all-map (λ x. fulfils x (end_state f.runner.flat)) as_condition s.plan.now.conditions.now)) (ran.other c.if-is_found.false) in
    fails_if_seed_run_does (hunt_of s.image.now s.plan.now c.args.choices.now) c.args.seed (moment_of (λ w. w.answers.items) f.runner) ran.ran answered fails
