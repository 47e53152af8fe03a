use Rattle.std.proofs.Common.{◌≡◌, ℕ, ◌<◌, Some, None, length, sym, ap, ◌∙◌, subst, arith}
use Rattle.ir_search.specs.Following.{IsNodeOpen}
use Rattle.ir_search.specs.Ways.{shut}
use Rattle.ir_outcomes.specs.Explored.{AreHangs}
use Rattle.ir_outcomes.specs.Hang.{IsFirstHang}
use Rattle.ir_outcomes.specs.declared.shown.Shown.{Shown}
use Rattle.ir_outcomes.proofs.Lost.{are_hangs}
use Rattle.ir_outcomes.proofs.exploring.Exploring.hangs.Goals as goal

pub returns-in-Ok-clause-hangs : goal.returns-in-Ok-clause-hangs
returns-in-Ok-clause-hangs c =
    let s = c.args.self.now.states in
    let setup = s.graph.setup in
    let flats = s.graph.flats.items in
    let origins = s.search.found.nodes.items in
    let marks = c.in_ok-marks.marks.items in
    let hang = c.in-Ok.hang in
    let between = (c.requires.is.going c.requires.stop).between in
    let none = subst (λ z. hang ≡ None → (v : ℕ) → v < length z → IsNodeOpen z v) c.as_slice-2.ensures.value c.in-Ok.ensures.none in
    let first = subst (λ z. (x : Shown) → hang ≡ Some x → IsFirstHang z x.node) c.as_slice-2.ensures.value c.in-Ok.ensures.first in
    subst (λ n. AreHangs setup flats n hang) (sym (c.count_lost-lost.ensures ∙ ap shut c.as_slice.ensures.value))
    (are_hangs setup flats origins marks c.in_ok-marks.ensures c.requires.whole.stand between.has.rising
    (let a = between.all in omega (arith, a)) hang none first c.in-Ok.ensures.level c.in-Ok.ensures.shown)
