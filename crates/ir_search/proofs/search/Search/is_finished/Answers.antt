use Rattle.std.proofs.Common.{leb-true}
use Rattle.ir_search.specs.Levels.{rows}
use Rattle.ir_search.proofs.Between.{empty_level_all_asked}
use Rattle.ir_search.proofs.search.Search.is_finished.Goals as goal

pub returns-clause-finished : goal.returns-clause-finished
returns-clause-finished c = λ over noted size between.
    empty_level_all_asked noted size c.args.self.now.found.nodes.items c.args.self.now.found.refusals.items
    (rows c.args.self.now.opened.items) c.args.self.now.level between
    (leb-true c.args.self.now.level.until c.args.self.now.level.first over)
