use Rattle.std.proofs.Common.{◌≤◌, List, length, ltb, refl, ap, sym, subst, rules, arith}
use Rattle.std.specs.List.Sorted.{IsNonDecreasingBy}
use Rattle.std.proofs.lemmas.List.Sorted.{IsPartitionPoint-from_clause, IsPartitionedBy-ltb}
use Rattle.std.proofs.lemmas.Option.{slice_get_read}
use Rattle.ir_holds.specs.Held.{IsLeastFrom}
use Rattle.ir_holds.specs.Heights.{IsAmongFirst, IsLower}
use Rattle.ir_holds.specs.declared.heights.Height.{Height}
use Rattle.ir_holds.proofs.Tops.{top_before_partition}
use Rattle.ir_holds.proofs.heights.Heights.before.Goals as goal

pub returns : goal.returns
returns c =
    let each = c.deref.result.now in
    let tops = c.args.self.now.tops.items in
    let n = c.partition_point-count.result in
    let bound : n ≤ length each = c.partition_point-count.ensures.bound in
    let size = c.requires.size in
    let same = c.deref.ensures.value in
    let long = ap (λ (xs : List Height). length xs) same in
    subst (λ (xs : List Height). IsLeastFrom 0 (IsLower xs c.args.at) c.index.result.now) same
    (top_before_partition each n c.args.at c.index.result.now
    (IsPartitionPoint-from_clause (λ (y : Height). ltb y.at c.args.at) each n c.partition_point-count.ensures.partitioned
    (IsPartitionedBy-ltb (λ (h : Height). h.at) each c.args.at (subst (IsNonDecreasingBy (λ (h : Height). h.at)) (sym same) c.requires.rising)) (λ a r q k. search rules))
    bound (subst (λ (xs : List Height). IsLeastFrom 0 (IsAmongFirst xs n) c.index.result.now) (sym same) (c.requires.tops n c.index.result.now
    (slice_get_read tops (length tops) n c.index.result.now refl (omega (arith, bound, long, size)) c.index.ensures))))
