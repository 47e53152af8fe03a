use Rattle.std.proofs.Common.{Some, inl, inr}
use Rattle.std.specs.Prelude.{slice_set}
use Rattle.ir_graph.specs.Notes.{noted_in}
use Rattle.ir_graph.proofs.Entries.{noted_in_set_row, noted_in_set_cases, notes_kept_if_free}
use Rattle.ir_graph.proofs.notes.note.Goals as goal

pub returns-in_err-put-clause-only : goal.returns-in_err-put-clause-only
returns-in_err-put-clause-only c =
    noted_in_set_cases c.args.rows.now c.args.thread c.put.new.row c.index-rows-thread.result c.args.node c.args.next c.requires.thread
    c.put.ensures.others (inr c.in_err-put.ensures.err)

pub returns-in_err-put-clause-kept : goal.returns-in_err-put-clause-kept
returns-in_err-put-clause-kept c =
    notes_kept_if_free (noted_in c.args.rows.now) (noted_in (slice_set c.args.rows.now c.args.thread c.put.new.row)) c.args.thread c.args.node
    c.args.next c.requires.fresh
    (noted_in_set_cases c.args.rows.now c.args.thread c.put.new.row c.index-rows-thread.result c.args.node c.args.next c.requires.thread
    c.put.ensures.others (inr c.in_err-put.ensures.err))

pub returns-clause-found : goal.returns-clause-found
returns-clause-found c =
    noted_in_set_row c.args.rows.now c.args.thread c.put.new.row c.args.node (Some c.args.next) c.requires.thread c.in_ok-put.ensures.found

pub returns-clause-only : goal.returns-clause-only
returns-clause-only c =
    noted_in_set_cases c.args.rows.now c.args.thread c.put.new.row c.index-rows-thread.result c.args.node c.args.next c.requires.thread
    c.put.ensures.others (inl c.in_ok-put.ensures.found)

pub returns-clause-kept : goal.returns-clause-kept
returns-clause-kept c =
    notes_kept_if_free (noted_in c.args.rows.now) (noted_in (slice_set c.args.rows.now c.args.thread c.put.new.row)) c.args.thread c.args.node
    c.args.next c.requires.fresh
    (noted_in_set_cases c.args.rows.now c.args.thread c.put.new.row c.index-rows-thread.result c.args.node c.args.next c.requires.thread
    c.put.ensures.others (inl c.in_ok-put.ensures.found))
