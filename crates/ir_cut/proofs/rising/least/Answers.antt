use Rattle.std.proofs.Common.{◌∙◌, ◌<◌, ℕ, List, length, sym, subst}
use Rattle.ir_cut.specs.Positions.{cut_of}
use Rattle.ir_cut.specs.Searching.{AreFirst, IsLeastCut}
use Rattle.ir_cut.proofs.Found.{rising_cut_is_least, least_cut_at_position}
use Rattle.ir_cut.proofs.rising.least.Goals as goal

found : (c : goal.After-drop-next-2) → IsLeastCut c.args.fitted.now c.args.cut.now c.args.t c.args.k c.new.result
found c = subst (IsLeastCut c.args.fitted.now c.args.cut.now c.args.t c.args.k) (sym c.new.ensures)
    (rising_cut_is_least c.args.fitted.now c.known.ensures c.args.cut.now c.in_ok-positions.positions.items c.in_ok-next.next.items
    c.rise.new.positions.items c.rise.new.next.items c.args.t c.args.k c.index.result.now c.max.result
    c.requires.size c.requires.consistent c.requires.thread c.requires.steps (c.in_ok-positions.ensures.items ∙ c.positions-2.ensures)
    c.index.ensures c.max.ensures c.in_ok-next.ensures.size
    (subst (λ (xs : List ℕ). (u : ℕ) → u < length c.args.fitted.now.guest.entries
    → AreFirst c.args.fitted.now xs u (cut_of c.in_ok-next.next.items u)) c.positions.ensures c.in_ok-next.ensures.first)
    c.rise.ensures.rises c.rise.ensures.size c.rise.ensures.over)

pub returns-clause-least : goal.returns-clause-least
returns-clause-least c = found c

pub returns-clause-exact : goal.returns-clause-exact
returns-clause-exact c = least_cut_at_position c.args.fitted.now c.known.ensures c.args.cut.now c.new.result c.args.t c.args.k c.requires.consistent
    c.requires.thread c.requires.steps (found c)

pub returns-clause-above : goal.returns-clause-above
returns-clause-above c = let k = c.known.ensures.run in ((found c).1 k.run k.whole).above

pub returns-clause-consistent : goal.returns-clause-consistent
returns-clause-consistent c = λ run whole. let l = (found c).1 run whole in (l.cut, l.consistent)
