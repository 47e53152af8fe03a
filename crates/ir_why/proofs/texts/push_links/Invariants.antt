use Rattle.std.proofs.Common.{◌≡◌, ◌++◌, drop, flat_map}
use Rattle.ir_why.specs.Lines.{link_line}
use Rattle.ir_why.proofs.texts.push_links.Given as goal

abbrev pub invariant-loop-link : goal.invariant-loop-link
invariant-loop-link l = l.text.items ++ flat_map link_line (drop l.link-index l.links) ≡ l.fn.text.items ++ flat_map link_line l.links
