use Rattle.std.proofs.Common.{◌≡◌, ◌<◌, ◌∙◌, sym, ap, subst, length, Some}
use Rattle.std.specs.Prelude.{slice_get, slice_set}
use Rattle.std.proofs.lemmas.Option.{slice_get_within}
use Rattle.ir_lemmas.proofs.CallerLemmas.{all_of_set}
use Rattle.ir_world.specs.Sources.{Source}
use Rattle.ir_thread.specs.State.{ThreadState}
use Rattle.ir_state_store.specs.Table.{idle_beside, AreIn, threads_at, sources_at}
use Rattle.ir_state_store.proofs.Lists.{all_by_recursion_weaker, below_length_kept}
use Rattle.ir_state_store.proofs.Shared.{map_grown_and_set}
use Rattle.ir_state_store.proofs.table.Table.add_at.Goals as goal

pub returns-clause-within : goal.returns-clause-within
returns-clause-within c =
    let old = c.args.self.now.items in
    let new = c.add.new.self.items in
    let n = c.in_ok-number.number in
    let x : ThreadState × Source = (c.args.thread.now, c.args.source.now) in
    let at : slice_get new n ≡ Some x = subst (λ k. slice_get new k ≡ Some x) (sym c.in_ok-number.ensures.same) c.in_ok-n.ensures.found in
    subst (λ l. AreIn new (slice_set l c.args.t n)) (sym c.in_ok-changed.ensures.items)
    (all_of_set (λ k. k < length new) c.args.numbers.now c.args.t n
    (all_by_recursion_weaker (λ k. k < length old) (λ k. k < length new) c.args.numbers.now
    (below_length_kept old new idle_beside c.add.ensures.keeps) c.requires.numbers)
    (slice_get_within new n x at))

pub returns-clause-threads : goal.returns-clause-threads
returns-clause-threads c =
    let old = c.args.self.now.items in
    let new = c.add.new.self.items in
    let n = c.in_ok-number.number in
    let x : ThreadState × Source = (c.args.thread.now, c.args.source.now) in
    let at : slice_get new n ≡ Some x = subst (λ k. slice_get new k ≡ Some x) (sym c.in_ok-number.ensures.same) c.in_ok-n.ensures.found in
    ap (λ l. threads_at new (slice_set l c.args.t n)) c.in_ok-changed.ensures.items
    ∙ map_grown_and_set (λ (z : ThreadState × Source). z.0) old new c.args.numbers.now c.args.t n x c.add.ensures.keeps c.requires.numbers at

pub returns-clause-sources : goal.returns-clause-sources
returns-clause-sources c =
    let old = c.args.self.now.items in
    let new = c.add.new.self.items in
    let n = c.in_ok-number.number in
    let x : ThreadState × Source = (c.args.thread.now, c.args.source.now) in
    let at : slice_get new n ≡ Some x = subst (λ k. slice_get new k ≡ Some x) (sym c.in_ok-number.ensures.same) c.in_ok-n.ensures.found in
    ap (λ l. sources_at new (slice_set l c.args.t n)) c.in_ok-changed.ensures.items
    ∙ map_grown_and_set (λ (z : ThreadState × Source). z.1) old new c.args.numbers.now c.args.t n x c.add.ensures.keeps c.requires.numbers at
