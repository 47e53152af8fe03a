use Rattle.std.proofs.Common.{◌∙◌, ◌<◌, ℕ, List, length, sym, subst}
use Rattle.ir_cut.specs.Positions.{cut_of}
use Rattle.ir_cut.specs.Searching.{AreRest, IsGreatestCut}
use Rattle.ir_cut.proofs.Found.{falling_cut_is_greatest, greatest_cut_at_position}
use Rattle.ir_cut.proofs.falling.greatest.Goals as goal

found : (c : goal.After-drop-next-2) → IsGreatestCut c.args.fitted.now c.args.cut.now c.args.t c.args.k c.new.result
found c = subst (IsGreatestCut c.args.fitted.now c.args.cut.now c.args.t c.args.k) (sym c.new.ensures)
    (falling_cut_is_greatest c.args.fitted.now c.known.ensures c.args.cut.now c.in_ok-positions.positions.items c.in_ok-next.next.items
    c.fall.new.positions.items c.fall.new.next.items c.args.t c.args.k c.index.result.now c.min.result
    c.requires.size c.requires.consistent c.requires.thread (c.in_ok-positions.ensures.items ∙ c.positions-2.ensures) c.index.ensures
    c.min.ensures
    (subst (λ (xs : List ℕ). (u : ℕ) → u < length c.args.fitted.now.guest.entries
    → AreRest c.args.fitted.now xs u (cut_of c.in_ok-next.next.items u)) c.positions.ensures c.in_ok-next.ensures.rest)
    c.fall.ensures.falls c.fall.ensures.size c.fall.ensures.over)

pub returns-clause-greatest : goal.returns-clause-greatest
returns-clause-greatest c = found c

pub returns-clause-exact : goal.returns-clause-exact
returns-clause-exact c = greatest_cut_at_position c.args.fitted.now c.known.ensures c.args.cut.now c.new.result c.args.t c.args.k c.requires.consistent
    (found c)

pub returns-clause-below : goal.returns-clause-below
returns-clause-below c = let k = c.known.ensures.run in ((found c).1 k.run k.whole).below

pub returns-clause-consistent : goal.returns-clause-consistent
returns-clause-consistent c = λ run whole. let l = (found c).1 run whole in (l.cut, l.consistent)
