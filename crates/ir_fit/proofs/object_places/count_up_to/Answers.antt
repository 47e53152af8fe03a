use Rattle.std.proofs.Common.{◌<◌, ◌≤◌, List, length, leb, get_or, rules, arith}
use Rattle.std.proofs.lemmas.Bool.Decides.{nat_tests}
use Rattle.std.proofs.lemmas.List.Sorted.{IsPartitionPoint-from_clause, IsPartitionedBy-leb}
use Rattle.ir_fit.specs.declared.place.Place.{Place}
use Rattle.ir_fit.proofs.ByVersion.{version_end_by_neighbours, version_end_by_partition}
use Rattle.ir_fit.proofs.object_places.count_up_to.Goals.{then-places-eq1-via-then-places-eq1, then-places-eq1-via-else-places-eq1+then-places-version-2}
use Rattle.ir_fit.proofs.object_places.count_up_to.Goals as goal

pub returns-then-places-eq1-clause-point : goal.returns-then-places-eq1-clause-point
returns-then-places-eq1-clause-point c =
    let xs : List Place = c.args.places.now in
    let v = c.args.version in
    let d : Place = record { position = 0; version = 0; thread = 0 } in
    let some : 1 ≤ length xs = grind (arith, nat_tests, c.if-is_empty.false, c.is_empty.ensures) in
    let high : 1 < length xs → v < (get_or xs 1 d).version = elim c.then-places-eq1.branch [
      | then-places-eq1-via-then-places-eq1 w ↦ λ l. absurd (omega (arith, l, w.if-places-eq1.true))
      | then-places-eq1-via-else-places-eq1+then-places-version-2 w ↦ λ l. w.if-places-version-2.true
    ] in
    version_end_by_neighbours xs v 1 d c.requires (λ l. some) (λ l. c.if-places-version.false) high

pub returns-clause-point : goal.returns-clause-point
returns-clause-point c =
    let xs : List Place = c.args.places.now in
    let v = c.args.version in
    version_end_by_partition xs v c.partition_point.result
    (IsPartitionPoint-from_clause (λ (y : Place). leb y.version v) xs _ c.partition_point.ensures.partitioned
    (IsPartitionedBy-leb (λ (p : Place). p.version) xs v c.requires) (λ a r q k. search rules))
