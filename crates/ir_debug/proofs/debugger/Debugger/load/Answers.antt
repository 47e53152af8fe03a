use Rattle.std.proofs.Common.{◌≡◌, Some, List, sym, ap, ◌∙◌}
use Rattle.std.specs.Prelude.{is_some}
use Rattle.ir_debug.specs.Debugging.{Debugging}
use Rattle.ir_debug.specs.Machine.{Kept, kept_cut}
use Rattle.ir_debug.proofs.KeptCuts.{kept_cut_is_found, found_cut_is_kept_cut, kept_of_number_is_cut}
use Rattle.ir_debug.proofs.Passed.{permitted_load_is_kept}
use Rattle.ir_debug.proofs.debugger.Debugger.load.Goals as goal

pub unwrap-requires : goal.unwrap-requires
unwrap-requires g c =
    kept_cut_is_found c.kept_cut.result (λ b. b.now) c.as_slice.result.now c.args.number c.kept_cut.ensures
    (ap (λ (z : List Kept). is_some (kept_cut z c.args.number)) (c.as_slice.ensures.value
    ∙ ap (λ (z : Debugging). z.desk.kept) c.self.view_is)
    ∙ permitted_load_is_kept c.args.self.now.desk c.args.number c.requires)

pub found : (g : _) (c : goal.After-go_to-arg-1 g) → kept_cut c.self.inside.kept.items c.args.number ≡ Some c.in_ok-cut.cut
found g c = ap (λ (z : List Kept). kept_cut z c.args.number) (sym c.as_slice.ensures.value)
    ∙ found_cut_is_kept_cut c.kept_cut.result (λ b. b.now) c.as_slice.result.now c.args.number c.unwrap.result c.kept_cut.ensures c.unwrap.ensures
    ∙ ap Some (sym c.in_ok-cut.ensures)

pub go_to-requires-clause-size : goal.go_to-requires-clause-size
go_to-requires-clause-size g c κs within =
    (kept_of_number_is_cut c.self.inside.timeline.fitted c.self.inside.kept.items c.args.number c.in_ok-cut.cut c.self.invariant.desk.kept (found g c)).0

pub go_to-requires-clause-consistent : goal.go_to-requires-clause-consistent
go_to-requires-clause-consistent g c κs within =
    (kept_of_number_is_cut c.self.inside.timeline.fitted c.self.inside.kept.items c.args.number c.in_ok-cut.cut c.self.invariant.desk.kept (found g c)).1
