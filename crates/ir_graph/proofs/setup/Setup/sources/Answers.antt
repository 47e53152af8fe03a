use Rattle.std.proofs.Common.{◌≡◌, ℕ, ◌+◌, [], ◌∷◌, ◌++◌, sym, ap, ◌∙◌, arith}
use Rattle.std.specs.Prelude.{map}
use Rattle.std.specs.List.{range_with_len}
use Rattle.std.proofs.lemmas.List.FromFn.{map-range_with_len_more}
use Rattle.ir_world.specs.Sources.{Source, seed_of, source}
use Rattle.ir_graph.proofs.setup.Setup.sources.Goals as goal

pub loop-thread-preserved : goal.loop-thread-preserved
loop-thread-preserved c =
    let n = c.loop-thread.thread in
    let each : ℕ → Source = λ t. source (seed_of c.args.self.now.random t) c.args.self.now.input in
    let next : 0 + n ≡ n = omega arith in
    c.in_ok-push.ensures.items
    ∙ ap (λ z. z ++ c.source.result ∷ []) c.loop-thread.invariant
    ∙ ap (λ z. map each (range_with_len 0 n) ++ z ∷ []) c.source.ensures
    ∙ sym (map-range_with_len_more each 0 n n next)
