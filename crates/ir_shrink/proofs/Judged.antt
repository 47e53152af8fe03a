-- What runs by items are judged to be.
use Rattle.std.proofs.Common.{◌≡◌, ◌≤◌, ◌<◌, ℕ, true, false, List, length, map, Some, sym, ap, ◌∙◌, subst, inl, inr}
use Rattle.std.specs.Prelude.{slice_get, option_map, IfSome}
use Rattle.std.specs.List.{list_all}
use Rattle.std.proofs.lemmas.List.Folds.{list_all-map}
use Rattle.std.proofs.lemmas.Option.{slice_get-map}
use Rattle.ir_flat.specs.Flat.{Flat}
use Rattle.ir_image.specs.Guest.{Guest}
use Rattle.ir_lemmas.proofs.CallerLemmas.{element_below_length}
use Rattle.ir_record.specs.Recording.{turns_of_items}
use Rattle.ir_record.specs.declared.item.Item.{Item}
use Rattle.ir_schedule.specs.Conditions.{as_condition, fulfils, end_state}
use Rattle.ir_schedule.specs.declared.condition.Condition as declared
use Rattle.ir_shrink.specs.Judging.{IsVerdict}
use Rattle.ir_shrink.specs.Played.{IsPlayed}
use Rattle.ir_shrink.specs.Shrinking.{goal_of, IsKeptRun, IsNoBetter}
use Rattle.ir_shrink.specs.Stale.{IsWantedInTurns}
use Rattle.ir_shrink.specs.Switches.{thread_changes, switch_count}
use Rattle.ir_shrink.specs.declared.judging.Verdict.TheVariants.{Good, Unmet, Stale}
use Rattle.ir_shrink.specs.declared.plan.ShrinkPlan.{ShrinkPlan}
use Rattle.ir_shrink.proofs.Recorded.{wanted_turns_fulfil, unwanted_turns_fail}

module _ (guest : Guest) (plan : ShrinkPlan) (items taken : List Item) (flat : Flat) (p : IsPlayed guest plan.record items taken flat) where
  -- the condition at a place isn't met
  pub unmet_is_verdict : (place : ℕ) (c : declared.Condition) → slice_get plan.conditions.now place ≡ Some c → fulfils (as_condition c) (end_state flat) ≡ false
      → IsVerdict (goal_of guest plan) p.run (Unmet place)
  unmet_is_verdict place c is fails = record {
    flat = flat;
    came = p.came;
    condition = as_condition c;
    is = slice_get-map as_condition plan.conditions.now place ∙ ap (option_map as_condition) is;
    fails = fails;
  }

  pub unmet_at_place : (place : ℕ) → place < length plan.conditions.now
      → IfSome (slice_get plan.conditions.now place) (λ c. fulfils (as_condition c) (end_state flat) ≡ false) → IsVerdict (goal_of guest plan) p.run (Unmet place)
  unmet_at_place place l h = let x = element_below_length plan.conditions.now place l in
      unmet_is_verdict place x.0 x.1 (subst (λ o. IfSome o (λ c. fulfils (as_condition c) (end_state flat) ≡ false)) x.1 h)

  -- each condition is met, and what is wanted of the stale writes
  pub met_is_verdict : list_all (λ c. fulfils (as_condition c) (end_state flat)) plan.conditions.now ≡ true
      → IsWantedInTurns guest plan.record (turns_of_items taken) plan.stale true → IsVerdict (goal_of guest plan) p.run Good
  met_is_verdict each wanted = record {
    flat = flat;
    came = p.came;
    each = list_all-map (λ x. fulfils x (end_state flat)) as_condition plan.conditions.now ∙ each;
    stale = wanted_turns_fulfil guest plan.record (turns_of_items taken) plan.stale p.run wanted p.in_turns;
  }

  pub unwanted_is_verdict : IsWantedInTurns guest plan.record (turns_of_items taken) plan.stale false → IsVerdict (goal_of guest plan) p.run Stale
  unwanted_is_verdict unwanted = unwanted_turns_fail guest plan.record (turns_of_items taken) plan.stale p.run unwanted p.in_turns

  -- how many switches it has
  pub switches_of_taken : (count : ℕ) → count ≡ thread_changes (map (λ t. t.0) (turns_of_items taken)) → switch_count p.run ≡ count
  switches_of_taken count is = ap thread_changes p.each ∙ sym is

  pub many_switches_no_better : (limit count : ℕ) → count ≡ thread_changes (map (λ t. t.0) (turns_of_items taken)) → limit ≤ count
      → IsNoBetter (goal_of guest plan) limit items
  many_switches_no_better limit count is l =
      record { run = p.run; by_items = p.by_items; why = inr (subst (λ n. limit ≤ n) (sym (switches_of_taken count is)) l) }

  pub unmet_is_no_better : (limit place : ℕ) → IsVerdict (goal_of guest plan) p.run (Unmet place) → IsNoBetter (goal_of guest plan) limit items
  unmet_is_no_better limit place v = record { run = p.run; by_items = p.by_items; why = inl (inl (place, v)) }

  pub stale_is_no_better : (limit : ℕ) → IsVerdict (goal_of guest plan) p.run Stale → IsNoBetter (goal_of guest plan) limit items
  stale_is_no_better limit v = record { run = p.run; by_items = p.by_items; why = inl (inr v) }

  -- and if it fulfils all
  pub good_is_kept : (count : ℕ) → count ≡ thread_changes (map (λ t. t.0) (turns_of_items taken)) → IsVerdict (goal_of guest plan) p.run Good
      → IsKeptRun (goal_of guest plan) taken count
  good_is_kept count is good = record {
    run = p.run;
    of_threads = p.of_threads;
    some = p.some;
    joined = p.joined;
    in_turns = p.in_turns;
    each = p.each;
    fulfilled = good;
    switches_are = switches_of_taken count is;
  }
