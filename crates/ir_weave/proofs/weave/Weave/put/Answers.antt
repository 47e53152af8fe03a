use Rattle.std.proofs.Common.{arith}
use Rattle.ir_thread.specs.declared.ask.Ask.TheVariants.{Put}
use Rattle.ir_weave.proofs.Seats.{seated_put_allowed, stepped_on_reports, put_place_below_table}
use Rattle.ir_weave.proofs.weave.Weave.put.Goals as goal

pub store-requires : goal.store-requires
store-requires c = (
  c.requires.seat,
  put_place_below_table c.args.self.now.table.shared.key c.args.thread.now c.args.seat.now.me.0 c.args.object c.args.index c.args.value _
      c.requires.thread c.requires.asking c.args.self.now.words,
  seated_put_allowed c.args.self.now.table.shared.key _ _ c.args.object c.args.index c.args.value c.args.thread.now c.args.seat.now.me
      (omega (arith, c.ranges.value)) c.requires.thread c.requires.asking,
)

pub returns-clause-put : goal.returns-clause-put
returns-clause-put c = (stepped_on_reports c.args.self.now.table.shared.key c.args.thread.now (Put c.args.object c.args.index c.args.value)
    c.args.seat.now.me c.store.new.seat.me c.args.value c.requires.thread c.requires.asking.asks (λ b. b) c.store.ensures.2).view
