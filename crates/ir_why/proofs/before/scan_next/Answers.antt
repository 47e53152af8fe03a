use Rattle.std.proofs.Common.{◌≡◌, ◌≢◌, List, Some, length, get_or, sym, ◌∙◌, subst, arith}
use Rattle.std.specs.Prelude.{slice_get}
use Rattle.std.proofs.lemmas.List.{get_or_read}
use Rattle.ir_past.specs.declared.place.Place.{Place}
use Rattle.ir_why.specs.Tables.{AreRaised}
use Rattle.ir_why.proofs.Gathered.{gathered_step}
use Rattle.ir_why.proofs.before.scan_next.Goals as goal

pub needs_of-requires-clause-event : goal.needs_of-requires-clause-event
needs_of-requires-clause-event c =
    let h = c.requires.gathered in
    let t = c.args.thread in
    let scanned = get_or_read c.args.past.now.scanned.items t c.index-event.result.now (omega (arith, c.requires.thread, h.sizes)) c.index-event.ensures 0 in
    let counted = get_or_read c.args.past.now.counts.items t c.index-count.result.now (omega (arith, c.requires.thread, h.size)) c.index-count.ensures 0 in
    omega (arith, scanned, counted, h.behind t, h.within t, c.if-event-count.false)

pub raise-requires : goal.raise-requires
raise-requires c = λ k p is.
    let there = c.in_ok-needs.ensures.there k p (subst (λ (ps : List Place). slice_get ps k ≡ Some p) c.deref.ensures.value is) in
    (omega (arith, there.0, c.requires.gathered.size), there.2)

pub overflow_add-event : goal.overflow_add-event
overflow_add-event c =
    let h = c.requires.gathered in
    let t = c.args.thread in
    let scanned = get_or_read c.args.past.now.scanned.items t c.index-event.result.now (omega (arith, c.requires.thread, h.sizes)) c.index-event.ensures 0 in
    let counted = get_or_read c.args.past.now.counts.items t c.index-count.result.now (omega (arith, c.requires.thread, h.size)) c.index-count.ensures 0 in
    omega (arith, scanned, counted, h.behind t, c.type_inv.count.fits, c.if-event-count.false)

pub returns-clause-gathered : goal.returns-clause-gathered
returns-clause-gathered c =
    let h = c.requires.gathered in
    let t = c.args.thread in
    let scanned = get_or_read c.args.past.now.scanned.items t c.index-event.result.now (omega (arith, c.requires.thread, h.sizes)) c.index-event.ensures 0 in
    let counted = get_or_read c.args.past.now.counts.items t c.index-count.result.now (omega (arith, c.requires.thread, h.size)) c.index-count.ensures 0 in
    let differ : c.index-event.result.now ≢ get_or c.args.past.now.counts.items t 0 = λ e. c.if-event-count.false (e ∙ sym counted) in
    gathered_step c.args.trace.now c.args.past.now.of.thread c.args.past.now.of.event t c.index-event.result.now c.args.past.now.counts.items c.args.past.now.scanned.items
    c.raise.new.counts.items c.in_ok-needs.needs.items h c.requires.thread (sym scanned) differ c.in_ok-needs.ensures.needs
    (subst (λ (ps : List Place). AreRaised c.args.past.now.counts.items c.raise.new.counts.items ps (length ps)) c.deref.ensures.value c.raise.ensures)
