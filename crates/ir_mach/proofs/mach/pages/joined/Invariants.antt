use Rattle.std.proofs.Common.{◌≡◌, ℕ, List, take, flat_map, map}
use Rattle.ir_mach.proofs.mach.pages.joined.Given as goal

abbrev pub invariant-loop-page : goal.invariant-loop-page
invariant-loop-page l = l.memory.items ≡ flat_map (λ (page : List ℕ). page) (map (λ page. page.now) (take l.page-index l.pages))
