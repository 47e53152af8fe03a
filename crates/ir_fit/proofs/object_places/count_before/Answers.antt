use Rattle.std.proofs.Common.{◌-◌, ◌<◌, List, ltb, get_or, rules, arith}
use Rattle.std.proofs.lemmas.List.Sorted.{IsPartitionPoint-from_clause, IsPartitionedBy-ltb}
use Rattle.ir_fit.specs.declared.place.Place.{Place}
use Rattle.ir_fit.proofs.ByVersion.{version_start_by_neighbours, version_start_by_partition}
use Rattle.ir_fit.proofs.object_places.count_before.Goals.{then-guess-eq0-via-then-guess-eq0, then-guess-eq0-via-else-guess-eq0+then-places-guess-2}
use Rattle.ir_fit.proofs.object_places.count_before.Goals as goal

pub returns-then-guess-eq0-clause-point : goal.returns-then-guess-eq0-clause-point
returns-then-guess-eq0-clause-point c =
    let xs : List Place = c.args.places.now in
    let v = c.args.version in
    let d : Place = record { position = 0; version = 0; thread = 0 } in
    let low : 0 < v → (get_or xs (v - 1) d).version < v = elim c.then-guess-eq0.branch [
      | then-guess-eq0-via-then-guess-eq0 w ↦ λ l. absurd (omega (arith, l, w.if-guess-eq0.true))
      | then-guess-eq0-via-else-guess-eq0+then-places-guess-2 w ↦ λ l. w.if-places-guess-2.true
    ] in
    version_start_by_neighbours xs v v d c.requires c.if-guess-places.true c.if-places-guess.true low

pub returns-clause-point : goal.returns-clause-point
returns-clause-point c =
    let xs : List Place = c.args.places.now in
    let v = c.args.version in
    version_start_by_partition xs v c.partition_point.result
    (IsPartitionPoint-from_clause (λ (y : Place). ltb y.version v) xs _ c.partition_point.ensures.partitioned
    (IsPartitionedBy-ltb (λ (p : Place). p.version) xs v c.requires) (λ a r q k. search rules))
