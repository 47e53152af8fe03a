use Rattle.std.proofs.Common.{◌≡◌, List, Some, length, replicate, slice_set, ap, ◌∙◌, subst, arith}
use Rattle.std.specs.Prelude.{slice_get}
use Rattle.ir_past.specs.declared.place.Place.{Place}
use Rattle.ir_why.specs.Tables.{AreRaised}
use Rattle.ir_why.proofs.Gathered.{gathered_at_start, length_of_set}
use Rattle.ir_why.proofs.before.begin.Goals as goal

pub raise-requires : goal.raise-requires
raise-requires c = λ k p is.
    let there = c.in_ok-needs.ensures.there k p (subst (λ (ps : List Place). slice_get ps k ≡ Some p) c.deref.ensures.value is) in
    let size = length_of_set c.in_ok-counts.counts.items c.args.here.thread c.args.here.event in
    let threads = ap (λ ts. length ts) c.threads-threads.ensures.value in
    (omega (arith, there.0, size, threads, c.in_ok-counts.ensures.len, c.in_ok-counts.counts.ok.0), there.2)

pub returns-clause-gathered : goal.returns-clause-gathered
returns-clause-gathered c =
    let r = c.args.trace.now in
    let threads : length c.threads-threads.result.now ≡ length r.threads = ap (λ ts. length ts) c.threads-threads.ensures.value in
    let blank : c.in_ok-counts.counts.items ≡ replicate (length r.threads) 0 =
    c.in_ok-counts.ensures.items_if_clones_equal (λ y e. e) ∙ ap (λ n. replicate n 0) threads in
    let none : c.in_ok-scanned.scanned.items ≡ replicate (length r.threads) 0 =
    c.in_ok-scanned.ensures.items_if_clones_equal (λ y e. e) ∙ ap (λ n. replicate n 0) threads in
    gathered_at_start r c.args.here.thread c.args.here.event c.in_ok-counts.counts.items c.raise.new.counts.items c.in_ok-scanned.scanned.items
    c.in_ok-needs.needs.items blank none
    (omega (arith, c.in_ok-counts.ensures.len, c.in_ok-counts.counts.ok.0, threads))
    (omega (arith, c.in_ok-scanned.ensures.len, c.in_ok-scanned.scanned.ok.0, threads))
    c.requires.thread c.requires.event c.in_ok-needs.ensures.needs
    (subst (λ (ps : List Place). AreRaised (slice_set c.in_ok-counts.counts.items c.args.here.thread c.args.here.event) c.raise.new.counts.items ps (length ps)) c.deref.ensures.value c.raise.ensures)
