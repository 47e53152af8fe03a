use Rattle.std.proofs.Common.{◌<◌, length, ap, ◌∙◌}
use Rattle.ir_checkpoint.specs.Keeping.{after_drop}
use Rattle.ir_checkpoint.specs.Store.{thread_count}
use Rattle.ir_checkpoint.proofs.Calls.{kept_place_below, is_store_after_drop, keeping_after_drop}
use Rattle.ir_checkpoint.proofs.keeper.Keeper.drop_kept.Goals as goal

pub take_away-requires-clause-below : goal.take_away-requires-clause-below
take_away-requires-clause-below c =
    kept_place_below c.args.n c.self.inside.last c.place_of-place.result c.self.inside.entries.items c.as_slice.result.now c.args.self.now
    c.self.view_is c.requires.kept c.as_slice.ensures.value c.place_of-place.ensures.value

pub invariant_of-self : goal.invariant_of-self
invariant_of-self c =
    let entries = c.self.inside.entries.items in
    let lt : c.place_of-place.result < length entries =
    kept_place_below c.args.n c.self.inside.last c.place_of-place.result entries c.as_slice.result.now c.args.self.now c.self.view_is
    c.requires.kept c.as_slice.ensures.value c.place_of-place.ensures.value
    in
    is_store_after_drop (thread_count entries) c.self.inside.last c.args.n c.place_of-place.result entries c.as_slice.result.now c.take_away.new.entries.items c.self.invariant c.requires.later lt
    c.as_slice.ensures.value c.place_of-place.ensures.value c.take_away.ensures

pub returns : goal.returns
returns c =
    let entries = c.self.inside.entries.items in
    let lt : c.place_of-place.result < length entries =
    kept_place_below c.args.n c.self.inside.last c.place_of-place.result entries c.as_slice.result.now c.args.self.now c.self.view_is
    c.requires.kept c.as_slice.ensures.value c.place_of-place.ensures.value
    in
    keeping_after_drop (thread_count entries) c.self.inside.last c.args.n c.place_of-place.result entries c.as_slice.result.now c.take_away.new.entries.items c.self.invariant lt
    c.as_slice.ensures.value c.place_of-place.ensures.value c.take_away.ensures
    ∙ ap (after_drop c.args.n) c.self.view_is
