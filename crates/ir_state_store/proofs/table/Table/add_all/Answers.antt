use Rattle.std.proofs.Common.{◌≡◌, ◌<◌, ◌∙◌, sym, ap, subst, length, get_or, arith}
use Rattle.std.specs.Prelude.{slice_get, Some}
use Rattle.std.proofs.lemmas.Option.{slice_get_within, get_or_from_slice_get}
use Rattle.ir_lemmas.proofs.CallerLemmas.{all_of_push}
use Rattle.ir_world.specs.Sources.{Source}
use Rattle.ir_thread.specs.State.{ThreadState}
use Rattle.ir_state_store.specs.Table.{idle_beside, AreIn, threads_at, sources_at}
use Rattle.ir_state_store.proofs.Lists.{all_by_recursion_weaker, kept_element_is_equal, below_length_kept, map_equal_on_all, map_push_is_take}
use Rattle.ir_state_store.proofs.table.Table.add_all.Goals as goal

pub loop-t-preserved : goal.loop-t-preserved
loop-t-preserved c =
    let before = c.loop-t.invariant in
    let i = c.loop-t.t in
    let old = c.loop-t.self.items in
    let new = c.add.new.self.items in
    let keeps = c.add.ensures.keeps in
    let numbers = c.loop-t.numbers.items in
    let n = c.in_ok-number.number in
    let x : ThreadState × Source = (c.index-threads-t.result, c.index-sources-t.result) in
    let at : slice_get new n ≡ Some x = subst (λ k. slice_get new k ≡ Some x) (sym c.in_ok-number.ensures.same) c.in_ok-n.ensures.found in
    let is : get_or new n idle_beside ≡ x = get_or_from_slice_get new n x idle_beside at in
    let lt : i < length c.args.threads.now = (let a = c.loop-t-test.true in let b = c.loop-t.auto.t-end in omega (arith, a, b)) in
    let lt' : i < length c.args.sources.now = (let a = c.requires.each in omega (arith, lt, a)) in
    let was : threads_at new numbers ≡ threads_at old numbers =
    map_equal_on_all (λ k. (get_or new k idle_beside).0) (λ k. (get_or old k idle_beside).0) (λ k. k < length old) numbers
    (λ k less j. (kept_element_is_equal old new idle_beside keeps k less j).0) before.within in
    let were : sources_at new numbers ≡ sources_at old numbers =
    map_equal_on_all (λ k. (get_or new k idle_beside).1) (λ k. (get_or old k idle_beside).1) (λ k. k < length old) numbers
    (λ k less j. (kept_element_is_equal old new idle_beside keeps k less j).1) before.within in
    record {
      keeps = λ k s e. keeps k s (before.keeps k s e);
      looks = λ k s e. c.add.ensures.looks k s (before.looks k s e);
      form = c.add.ensures.form ∙ before.form;
      basis = c.add.ensures.basis ∙ before.basis;
      within = subst (AreIn new) (sym c.in_ok-push.ensures.items)
          (all_of_push (λ k. k < length new) numbers n
          (all_by_recursion_weaker (λ k. k < length old) (λ k. k < length new) numbers (below_length_kept old new idle_beside keeps) before.within)
          (slice_get_within new n x at));
      threads = ap (threads_at new) c.in_ok-push.ensures.items
          ∙ map_push_is_take (λ k. (get_or new k idle_beside).0) numbers n c.args.threads.now i x.0 lt (was ∙ before.threads)
          (ap (λ (z : ThreadState × Source). z.0) is ∙ c.index-threads-t.is);
      sources = ap (sources_at new) c.in_ok-push.ensures.items
          ∙ map_push_is_take (λ k. (get_or new k idle_beside).1) numbers n c.args.sources.now i x.1 lt' (were ∙ before.sources)
          (ap (λ (z : ThreadState × Source). z.1) is ∙ c.index-sources-t.is);
    }
