use Rattle.std.proofs.Common.{inr, refl, subst}
use Rattle.ir_opened.specs.Opened.{IsFitOpened, IsUnfitFor, unfit_status, unfit_text}
use Rattle.ir_files.specs.Writers.{writer_of}
use Rattle.ir_commands.proofs.Printed.{stops_in_part}
use Rattle.ir_commands.proofs.shrink.fitting_trace.Goals as goal

pub returns-in-Ok-Refused-clause-stopped : goal.returns-in-Ok-Refused-clause-stopped
returns-in-Ok-Refused-clause-stopped g c =
    let why = c.in-Ok-Refused.why in
    let out = writer_of (g.O.Sink.written c.args.out.now) (g.O.Sink.written c.refuse.new.out) (g.O.Sink.broken c.refuse.new.out) in
    let because = subst (λ z. IsUnfitFor z c.args.given.now.trace.items why) c.as_slice-image.ensures.value
    (subst (λ z. IsUnfitFor c.as_slice-image.result.now z why) c.as_slice-trace.ensures.value
    (subst (λ o. IsFitOpened c.as_slice-image.result.now c.as_slice-trace.result.now o) c.in-Ok-Refused.field-0-is c.in-Ok-Refused.ensures)) in
    inr (
      refl,
      c.say.ensures.told c.requires.reports,
      inr (
        unfit_text why,
        (unfit_status why, record { why = why; because = because; status = refl; line = refl }),
        stops_in_part c.in-Err-refuse.why out (unfit_text why) c.in-Err-refuse.ensures.fails,
      ),
    )
