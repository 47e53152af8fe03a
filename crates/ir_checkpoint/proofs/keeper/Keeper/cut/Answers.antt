use Rattle.std.proofs.Common.{◌<◌, ◌≤◌, length, ap, ◌∙◌, arith}
use Rattle.ir_checkpoint.specs.Store.{Entry, thread_count}
use Rattle.ir_checkpoint.proofs.Calls.{place_cut_is_kept, no_cut_past_slice, past_end_not_kept, number_within_is_kept}
use Rattle.ir_checkpoint.proofs.keeper.Keeper.cut.Goals as goal

pub returns-then-place-len-clause-value : goal.returns-then-place-len-clause-value
returns-then-place-len-clause-value c =
    let entries = c.self.inside.entries.items in
    let le : length entries ≤ c.place_of-place.result =
    omega (arith, c.if-place-len.true, c.len.ensures, c.as_slice.ensures.len, ap length c.as_slice.ensures.value) in
    no_cut_past_slice c.self.inside.last c.args.n c.place_of-place.result entries c.as_slice.result.now c.args.self.now c.self.view_is c.as_slice.ensures.value c.place_of-place.ensures.value le

pub returns-clause-value : goal.returns-clause-value
returns-clause-value c =
    let entries = c.self.inside.entries.items in
    let lt : c.place_of-place.result < length entries =
    omega (arith, c.if-place-len.false, c.len.ensures, c.as_slice.ensures.len, ap length c.as_slice.ensures.value) in
    place_cut_is_kept (thread_count entries) c.self.inside.last c.args.n c.place_of-place.result entries c.as_slice.result.now
    c.index-entry.result.now c.args.self.now c.entry.inside.cut c.self.invariant c.self.view_is
    c.as_slice.ensures.value c.place_of-place.ensures.value lt (ap (λ (e : Entry). e.cut) (c.entry.view_is ∙ c.index-entry.ensures))

pub returns-then-place-len-clause-kept : goal.returns-then-place-len-clause-kept
returns-then-place-len-clause-kept c =
    let entries = c.self.inside.entries.items in
    let le : length entries ≤ c.place_of-place.result =
    omega (arith, c.if-place-len.true, c.len.ensures, c.as_slice.ensures.len, ap length c.as_slice.ensures.value) in
    past_end_not_kept c.self.inside.last c.args.n c.place_of-place.result entries c.as_slice.result.now c.args.self.now c.self.view_is c.as_slice.ensures.value c.place_of-place.ensures.value le

pub returns-clause-kept : goal.returns-clause-kept
returns-clause-kept c =
    let entries = c.self.inside.entries.items in
    let lt : c.place_of-place.result < length entries =
    omega (arith, c.if-place-len.false, c.len.ensures, c.as_slice.ensures.len, ap length c.as_slice.ensures.value) in
    number_within_is_kept c.self.inside.last c.args.n c.place_of-place.result entries c.as_slice.result.now c.args.self.now c.self.view_is c.as_slice.ensures.value c.place_of-place.ensures.value lt
