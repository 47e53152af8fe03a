use Rattle.std.proofs.Common.{List, refl, sym, ◌∙◌, subst, arith}
use Rattle.ir_past.specs.declared.place.Place.{Place}
use Rattle.ir_why.specs.Tables.{IsLatestIn}
use Rattle.ir_why.proofs.Linked.{no_other_needs_is_link, empty_needs_no_other}
use Rattle.ir_why.proofs.chain.link_from.Goals as goal

pub returns-in-Some : goal.returns-in-Some
returns-in-Some c = no_other_needs_is_link c.args.trace.now c.args.boxes.now c.args.here.thread c.args.here.event c.loop-needs.event c.in_ok-needs.needs.items
    (record { waiting = record { thread = c.args.here.thread; event = c.loop-needs.event }; needed = c.in-Some.needed })
    c.in_ok-needs.ensures.needs
    (subst (λ (ps : List Place). IsLatestIn c.args.boxes.now ps c.in-Some.needed) c.deref.ensures.value c.in-Some.ensures)
    refl refl c.loop-needs.invariant.within c.loop-needs.invariant.none

pub returns-then-event-eq0 : goal.returns-then-event-eq0
returns-then-event-eq0 c = λ m u j to other.
    empty_needs_no_other c.args.trace.now c.args.here.thread c.args.here.event c.loop-needs.event c.in_ok-needs.needs.items c.in_ok-needs.ensures.needs
    (sym c.deref.ensures.value ∙ c.in_default.ensures) c.loop-needs.invariant.none m u j (omega (arith, c.if-event-eq0.true)) to other

pub loop-needs-preserved : goal.loop-needs-preserved
loop-needs-preserved c = record {
  within = omega (arith, c.loop-needs.invariant.within);
  none = λ m u j from to other.
      empty_needs_no_other c.args.trace.now c.args.here.thread c.args.here.event c.loop-needs.event c.in_ok-needs.needs.items c.in_ok-needs.ensures.needs
      (sym c.deref.ensures.value ∙ c.in_default.ensures) c.loop-needs.invariant.none m u j (omega (arith, from, c.if-event-eq0.false)) to other;
}
