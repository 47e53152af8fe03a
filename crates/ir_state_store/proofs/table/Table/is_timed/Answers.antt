use Rattle.std.proofs.Common.{◌≡◌, ◌<◌, ℕ, inl, inr, sym, ap, ◌∙◌, subst, get_or, arith}
use Rattle.std.proofs.lemmas.Bool.{cases_lt}
use Rattle.std.proofs.lemmas.List.{get_or-map}
use Rattle.ir_world.specs.Sources.{Source}
use Rattle.ir_state_store.specs.Table.{idle_beside, no_source, sources_at}
use Rattle.ir_state_store.specs.Table as table
use Rattle.ir_state_store.proofs.table.Table.is_timed.Goals as goal

pub loop-t-preserved : goal.loop-t-preserved
loop-t-preserved c = λ u less.
    let items = c.args.self.now.items in
    let numbers = c.args.numbers.now in
    let t = c.loop-t.t in
    let below = c.loop-t-test.true in
    let own : (get_or (sources_at items numbers) t no_source).ticks ≡ c.ticks.result =
    ap (λ (z : Source). z.ticks) (get_or-map (λ n. (get_or items n idle_beside).1) numbers t 0 no_source below)
    ∙ sym (c.ticks.ensures ∙ ap (λ (z : table.Table). (get_or z.items (get_or numbers t 0) idle_beside).1.ticks) c.self.view_is) in
    let none = c.if-ticks-gt0.false in elim (cases_lt u t) [
      | inl l ↦ c.loop-t.invariant u l
      | inr l ↦ let same : u ≡ t = omega (arith, l, less) in
          subst (λ z. (get_or (sources_at items numbers) z no_source).ticks ≡ 0) (sym same) (omega (arith, own, none))
    ]
