use Rattle.std.proofs.Common.{◌<◌, length}
use Rattle.std.proofs.lemmas.Result.{IfOk-weaker}
use Rattle.ir_checkpoint.specs.Store.{thread_count}
use Rattle.ir_checkpoint.proofs.Calls.{kept_place_below, slice_is_older_entries, place_state_is_kept}
use Rattle.ir_checkpoint.proofs.keeper.Keeper.restore.Goals as goal

pub state_of-requires-clause-some : goal.state_of-requires-clause-some
state_of-requires-clause-some c =
    let entries = c.self.inside.entries.items in
    let lt : c.place_of-place.result < length entries =
    kept_place_below c.args.n c.self.inside.last c.place_of-place.result entries c.as_slice-entries.result.now c.args.self.now
    c.self.view_is c.requires c.as_slice-entries.ensures.value c.place_of-place.ensures.value
    in
    (slice_is_older_entries (thread_count entries) c.self.inside.last c.place_of-place.result entries c.as_slice-entries.result.now c.self.invariant lt c.as_slice-entries.ensures.value).some

pub state_of-requires-clause-few : goal.state_of-requires-clause-few
state_of-requires-clause-few c =
    let entries = c.self.inside.entries.items in
    let lt : c.place_of-place.result < length entries =
    kept_place_below c.args.n c.self.inside.last c.place_of-place.result entries c.as_slice-entries.result.now c.args.self.now
    c.self.view_is c.requires c.as_slice-entries.ensures.value c.place_of-place.ensures.value
    in
    (slice_is_older_entries (thread_count entries) c.self.inside.last c.place_of-place.result entries c.as_slice-entries.result.now c.self.invariant lt c.as_slice-entries.ensures.value).few

pub state_of-requires-clause-each : goal.state_of-requires-clause-each
state_of-requires-clause-each c =
    let entries = c.self.inside.entries.items in
    let lt : c.place_of-place.result < length entries =
    kept_place_below c.args.n c.self.inside.last c.place_of-place.result entries c.as_slice-entries.result.now c.args.self.now
    c.self.view_is c.requires c.as_slice-entries.ensures.value c.place_of-place.ensures.value
    in
    (slice_is_older_entries (thread_count entries) c.self.inside.last c.place_of-place.result entries c.as_slice-entries.result.now c.self.invariant lt c.as_slice-entries.ensures.value).each

pub state_of-requires-clause-full : goal.state_of-requires-clause-full
state_of-requires-clause-full c =
    let entries = c.self.inside.entries.items in
    let lt : c.place_of-place.result < length entries =
    kept_place_below c.args.n c.self.inside.last c.place_of-place.result entries c.as_slice-entries.result.now c.args.self.now
    c.self.view_is c.requires c.as_slice-entries.ensures.value c.place_of-place.ensures.value
    in
    (slice_is_older_entries (thread_count entries) c.self.inside.last c.place_of-place.result entries c.as_slice-entries.result.now c.self.invariant lt c.as_slice-entries.ensures.value).full

pub returns : goal.returns
returns c =
    let entries = c.self.inside.entries.items in
    let lt : c.place_of-place.result < length entries =
    kept_place_below c.args.n c.self.inside.last c.place_of-place.result entries c.as_slice-entries.result.now c.args.self.now
    c.self.view_is c.requires c.as_slice-entries.ensures.value c.place_of-place.ensures.value
    in
    IfOk-weaker c.state_of.result _ _
    (λ state is. place_state_is_kept c.self.inside.last c.args.n c.place_of-place.result entries c.as_slice-entries.result.now c.args.self.now state c.self.view_is c.as_slice-entries.ensures.value
    c.place_of-place.ensures.value lt is)
    c.state_of.ensures
