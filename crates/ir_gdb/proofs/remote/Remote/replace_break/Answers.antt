use Rattle.std.proofs.Common.{◌≡◌, ◌<◌, ◌∙◌, ◌++◌, ◌∷◌, [], true, List, length, sym, ap, subst}
use Rattle.ir_gdb.specs.declared.point.Breakpoint.{Breakpoint}
use Rattle.ir_gdb.specs.Guards.{Guarded}
use Rattle.ir_gdb.specs.Serving.{Serving}
use Rattle.ir_gdb.specs.Setting.{breaks_without, has_break}
use Rattle.ir_gdb.specs.Stub.{IsStub, most_stub_points}
use Rattle.ir_gdb.proofs.Setting.{room_without_break, stub_with_replaced_break_is_stub}
use Rattle.ir_gdb.proofs.Stopping.{serving_seen}
use Rattle.ir_gdb.proofs.remote.Remote.replace_break.Goals as goal

pub set-requires : goal.set-requires
set-requires c =
    let s = (serving_seen c.self.view_is).stub in
    let p = c.args.guarded.point in
    let there = subst (λ (x : Serving). has_break x.stub.breaks p ≡ true) (sym c.self.view_is) c.requires in
    let are = c.clear.ensures ∙ ap (λ (x : Breakpoint). breaks_without s.breaks x) c.point.ensures in
    subst (λ (xs : List Guarded). length xs < most_stub_points) (sym are) (room_without_break s p c.self.invariant there)

pub invariant_of-self : goal.invariant_of-self
invariant_of-self c =
    let s = (serving_seen c.self.view_is).stub in
    let p = c.args.guarded.point in
    let there = subst (λ (x : Serving). has_break x.stub.breaks p ≡ true) (sym c.self.view_is) c.requires in
    let are = c.set.ensures ∙ ap (λ (xs : List Guarded). xs ++ c.args.guarded ∷ [])
    (c.clear.ensures ∙ ap (λ (x : Breakpoint). breaks_without s.breaks x) c.point.ensures) in
    subst (λ (xs : List Guarded). IsStub (record s { breaks = xs })) (sym are) (stub_with_replaced_break_is_stub s c.args.guarded c.self.invariant there)
