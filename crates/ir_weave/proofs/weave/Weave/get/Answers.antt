use Rattle.std.proofs.Common.{ℕ, ◌<◌, ◌^◌, Fits, w32, arith}
use Rattle.ir_thread.specs.declared.ask.Ask.TheVariants.{Get}
use Rattle.ir_weave.proofs.Seats.{ObjectStepReport, seated_get_allowed, stepped_on_reports, word_of_get_is_32_bits, get_place_below_table}
use Rattle.ir_weave.proofs.weave.Weave.get.Goals as goal
use Rattle.ir_weave.proofs.weave.Weave.get.Goals.{After-load}

pub load-requires : goal.load-requires
load-requires c = (
  c.requires.seat,
  get_place_below_table c.args.self.now.table.shared.key c.args.thread.now c.args.seat.now.me.0 c.args.object c.args.index _ c.requires.thread
      c.requires.asking c.args.self.now.words,
  seated_get_allowed c.args.self.now.table.shared.key _ _ c.args.object c.args.index c.args.thread.now c.args.seat.now.me c.requires.thread
      c.requires.asking,
)

-- a number below 2^32 is a word
fits_word : (n : ℕ) → n < 2 ^ 32 → Fits w32 n
fits_word n l = omega (arith, l)

emitted : (c : After-load) → ObjectStepReport c.args.self.now.table.shared.key c.args.thread.now c.args.seat.now.me c.load.new.seat.me c.load.result
emitted c = stepped_on_reports c.args.self.now.table.shared.key c.args.thread.now (Get c.args.object c.args.index) c.args.seat.now.me c.load.new.seat.me
    c.load.result c.requires.thread c.requires.asking.asks (λ b. b) c.load.ensures.2

pub overflow_cast-result : goal.overflow_cast-result
overflow_cast-result c = fits_word _ (word_of_get_is_32_bits c.args.self.now.table.shared.key c.args.thread.now c.args.seat.now.me.0 c.args.object
    c.args.index c.load.result c.requires.thread c.requires.asking (emitted c).answers)

pub returns-clause-read : goal.returns-clause-read
returns-clause-read c = (emitted c).view

pub returns-clause-value : goal.returns-clause-value
returns-clause-value c = (emitted c).answers
