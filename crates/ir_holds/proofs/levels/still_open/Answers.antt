use Rattle.std.proofs.Common.{◌+◌, sym, subst}
use Rattle.std.proofs.lemmas.List.Elements.{Contains-get_or}
use Rattle.std.proofs.lemmas.Option.{slice_get-get_or}
use Rattle.ir_holds.proofs.Opened.{AreKeptTo, kept_late_of_no_numbers, kept_late_with_late_box, kept_late_past_other_box, kept_late_of_all}
use Rattle.ir_holds.proofs.levels.still_open.Goals.{then-is_late+in_ok-push, else-is_late}
use Rattle.ir_holds.proofs.levels.still_open.Goals as goal

pub is_late-requires : goal.is_late-requires
is_late-requires c = c.requires _ (Contains-get_or c.args.held.now c.loop-number.number-index 0 c.loop-number-test.true)

pub loop-number-init : goal.loop-number-init
loop-number-init c = subst (AreKeptTo c.args.spans.now c.args.held.now c.args.own.now 0) (sym c.new-still.ensures.items)
    (kept_late_of_no_numbers c.args.spans.now c.args.held.now c.args.own.now)

pub loop-number-preserved : goal.loop-number-preserved
loop-number-preserved c =
    let spans = c.args.spans.now in
    let held = c.args.held.now in
    let own = c.args.own.now in
    let i = c.loop-number.number-index in
    let at = slice_get-get_or held i 0 c.loop-number-test.true in
    elim c.if-is_late.branch [
      | then-is_late+in_ok-push w ↦ subst (λ v. AreKeptTo spans held own (i + 1) v.items) (sym w.still-is)
          (kept_late_with_late_box spans held own i _ c.loop-number.still.items w.push.new.self.items c.loop-number.invariant at w.in_ok-push.ensures.items)
      | else-is_late w ↦ subst (λ v. AreKeptTo spans held own (i + 1) v.items) (sym w.still-is)
          (kept_late_past_other_box spans held own i _ c.loop-number.still.items c.loop-number.invariant at (c.is_late.ensures.ended w.if-is_late.false))
    ]

pub returns-clause-all : goal.returns-clause-all
returns-clause-all c = kept_late_of_all c.args.spans.now c.args.held.now c.args.own.now c.loop-number.number-index c.loop-number.still.items
    c.loop-number-test.false c.loop-number.invariant
