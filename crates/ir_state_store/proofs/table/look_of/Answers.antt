use Rattle.std.proofs.Common.{sym, subst, inr}
use Rattle.std.specs.Prelude.{IfSome}
use Rattle.ir_world.specs.Sources.{Source}
use Rattle.ir_thread.specs.State.{ThreadState}
use Rattle.ir_state_store.specs.Hashes.{IsFoundBy}
use Rattle.ir_state_store.specs.Table.{LooksLike}
use Rattle.ir_state_store.proofs.Alike.{look_found, look_is_like, look_stands_for}
use Rattle.ir_state_store.proofs.table.look_of.Goals as goal

pub returns-in-Some-clause-found : goal.returns-in-Some-clause-found
returns-in-Some-clause-found c =
    let t = c.args.rows.now in
    let x : ThreadState × Source = (c.args.thread.now, c.args.source.now) in
    let like : LooksLike t.basis t.items c.in-Some.m x = subst (λ o. IfSome o (λ m. LooksLike t.basis t.items m x)) c.in-Some.is c.look_for.ensures.like in
    subst (λ h. IsFoundBy c.args.seen.now h c.look.result) (sym c.requires.hash)
    (look_found t c.args.seen.now x c.in-Some.m c.look.result c.requires.look c.each.ensures.looks like c.look.ensures)

pub returns-in-Some-clause-like : goal.returns-in-Some-clause-like
returns-in-Some-clause-like c =
    let t = c.args.rows.now in
    let x : ThreadState × Source = (c.args.thread.now, c.args.source.now) in
    let like : LooksLike t.basis t.items c.in-Some.m x = subst (λ o. IfSome o (λ m. LooksLike t.basis t.items m x)) c.in-Some.is c.look_for.ensures.like in
    inr (look_is_like t c.args.seen.now x c.in-Some.m c.look.result c.requires.look c.each.ensures.looks like c.look.ensures)

pub returns-in-Some-clause-one : goal.returns-in-Some-clause-one
returns-in-Some-clause-one c =
    let t = c.args.rows.now in
    let x : ThreadState × Source = (c.args.thread.now, c.args.source.now) in
    let like : LooksLike t.basis t.items c.in-Some.m x = subst (λ o. IfSome o (λ m. LooksLike t.basis t.items m x)) c.in-Some.is c.look_for.ensures.like in
    look_stands_for t c.args.seen.now x c.in-Some.m c.look.result c.requires.look c.each.ensures.looks like c.look.ensures
