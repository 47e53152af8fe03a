use Rattle.std.proofs.Common.{◌≡◌, ◌<◌, length, ap, ◌∙◌, arith, length-set}
use Rattle.ir_record.proofs.Kept.{kept_asks_step}
use Rattle.ir_record.proofs.in_order.recorder.Recorder.ask_all.Goals as goal

pub loop-number-init : goal.loop-number-init
loop-number-init g c = record { places = c.requires; asked = λ u l. absurd (omega (arith, l)) }

pub loop-number-preserved : goal.loop-number-preserved
loop-number-preserved g c =
    let e : length c.threads-number-end.result.now ≡ length c.args.self.now.guest.flat.threads = ap (λ xs. length xs) c.threads-number-end.ensures.value in
    let below : c.loop-number.number < length c.loop-number.asks.items = omega (arith, e, c.loop-number-test.true, c.loop-number.auto.number-end, c.loop-number.invariant.places) in
    record {
      places = length-set c.loop-number.asks.items c.loop-number.number _ ∙ c.loop-number.invariant.places;
      asked = kept_asks_step c.loop-number.asks.items c.args.self.now.guest.flat c.loop-number.number c.ask.result below c.ask.ensures.value
          c.loop-number.invariant.asked;
    }

pub returns : goal.returns
returns g c = record {
  flat = c.threads-number-end.ensures.within;
  places = c.loop-number.invariant.places;
  asked = λ u l.
      let e : length c.threads-number-end.result.now ≡ length c.args.self.now.guest.flat.threads =
      ap (λ xs. length xs) c.threads-number-end.ensures.value in
      c.loop-number.invariant.asked u (omega (arith, e, l, c.loop-number-test.false, c.loop-number.auto.number-end));
}
