use Rattle.std.proofs.Common.{◌≡◌, None, subst}
use Rattle.ir_graph.specs.Notes.{noted_by}
use Rattle.ir_graph.proofs.Grown.{unnoted_row_exists}
use Rattle.ir_graph.proofs.notes.note_way.Goals as goal

pub note-requires-clause-thread : goal.note-requires-clause-thread
note-requires-clause-thread c =
    let way = c.args.way in
    unnoted_row_exists c.args.refused_rows.now way.thread way.node
    (subst (λ z. noted_by c.args.rows.now c.args.refused_rows.now way.thread z way.node ≡ None) c.if-way.true c.requires.fresh)

pub note-requires-else-way-clause-thread : goal.note-requires-else-way-clause-thread
note-requires-else-way-clause-thread c =
    let way = c.args.way in
    unnoted_row_exists c.args.rows.now way.thread way.node
    (subst (λ z. noted_by c.args.rows.now c.args.refused_rows.now way.thread z way.node ≡ None) c.if-way.false c.requires.fresh)
