use Rattle.std.proofs.Common.{◌≡◌, ℕ, get_or, subst, arith}
use Rattle.std.proofs.lemmas.List.{get_or_read}
use Rattle.ir_fit.specs.Listed.{AddsAll}
use Rattle.ir_fit.specs.PartlyListed.{visits_between}
use Rattle.ir_fit.proofs.PartlyListed.{listed_step}
use Rattle.ir_fit.proofs.visiting.ListedVisits.list_to.Goals as goal

pub returns-in_ok-add-clause-listed : goal.returns-in_ok-add-clause-listed
returns-in_ok-add-clause-listed c =
    let run = c.args.run.now in
    let counts = c.args.self.now.counts.items in
    let x = c.args.self.now.visits in
    let y = c.add.new.visits in
    let t = c.args.t in
    let k : ℕ = c.min-to.result in
    let from : c.index-from.result.now ≡ get_or counts t 0 =
    get_or_read counts t c.index-from.result.now (omega (arith, c.requires.thread, c.requires.listed.each)) c.index-from.ensures 0 in
    listed_step run counts t k x y c.requires.thread (omega (arith, from, c.if-from-to.true))
    (subst (λ i. AddsAll x y (visits_between run t i k)) from c.in_ok-add.ensures) c.requires.listed
