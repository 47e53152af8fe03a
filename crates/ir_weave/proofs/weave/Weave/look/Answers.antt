use Rattle.ir_lemmas.proofs.CallerLemmas.{refuted_by_false_test}
use Rattle.ir_weave.specs.Woven.{OpensTable}
use Rattle.ir_weave.proofs.Seats.{LookReport, seated_look_allowed, looked_reports, entered_word_in_table, open_look_is_granted, true_test_holds}
use Rattle.ir_weave.proofs.weave.Weave.look.Goals as goal
use Rattle.ir_weave.proofs.weave.Weave.look.Goals.{After-opens}

pub load-seen-requires : goal.load-seen-requires
load-seen-requires c = (
  c.requires.seat,
  entered_word_in_table c.args.self.now.table.shared.key c.args.thread.now c.args.seat.now.me.0 c.args.object _ c.args.access
      c.args.event c.requires.thread c.requires.entering c.args.self.now.words,
  seated_look_allowed c.args.self.now.table.shared.key _ _ c.args.object c.args.access c.args.event c.args.thread.now c.args.seat.now.me
      c.requires.thread c.requires.entering,
)

shown : (c : After-opens) → LookReport c.args.self.now.table.shared.key c.args.thread.now c.args.event c.args.seat.now.me
    c.load-seen.new.seat.me c.load-seen.result
shown c = looked_reports c.args.self.now.table.shared.key c.args.thread.now c.args.object c.args.access c.args.event c.args.seat.now.me
    c.load-seen.new.seat.me c.load-seen.result c.requires.thread c.requires.entering c.load-seen.ensures.2

pub returns-clause-granted : goal.returns-clause-granted
returns-clause-granted c on =
    let opened : OpensTable c.load-seen.result c.args.event =
    true_test_holds c.opens.result (OpensTable c.load-seen.result c.args.event) c.opens.ensures on in (
      (shown c).opened opened,
      open_look_is_granted c.args.self.now.table.shared.key c.args.thread.now c.args.event c.args.seat.now.me
          c.load-seen.new.seat.me c.load-seen.result c.requires.thread (shown c) opened,
    )

pub returns-clause-stopped : goal.returns-clause-stopped
returns-clause-stopped c off = (shown c).shut (refuted_by_false_test c.opens.result (OpensTable c.load-seen.result c.args.event) c.opens.ensures off)

pub returns-clause-rises : goal.returns-clause-rises
returns-clause-rises c = (shown c).rises
