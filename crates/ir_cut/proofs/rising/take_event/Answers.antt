use Rattle.ir_cut.proofs.Stepping.{rising_after_event, event_leaves_fewer}
use Rattle.ir_cut.proofs.rising.take_event.Goals as goal

pub returns-clause-fewer : goal.returns-clause-fewer
returns-clause-fewer c = event_leaves_fewer c.args.fitted.now c.args.positions.now.items c.args.next.now.items c.args.t c.index-i.result.now
    c.requires.each c.requires.thread c.requires.below c.index-i.ensures

pub returns-clause-rises : goal.returns-clause-rises
returns-clause-rises c = rising_after_event c.args.fitted.now c.requires.fitted c.args.positions.now.items c.raise_for.new.positions.items
    c.args.next.now.items c.args.t c.index-i.result.now c.log_of.result.now _ c.requires.each c.requires.thread c.requires.below
    c.index-i.ensures c.log_of.ensures.value c.log_of.ensures.size c.raise_for.ensures.raised
