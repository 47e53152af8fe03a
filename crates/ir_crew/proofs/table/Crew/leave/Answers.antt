use Rattle.std.proofs.Common.{◌≡◌, ℕ, ◌∙◌, ◌/◌, ◌^◌, ap, sym, subst, arith, Some}
use Rattle.ir_runs.specs.declared.access.Access.TheVariants.{Writing}
use Rattle.ir_crew.specs.Plays.{M, history, inside_by}
use Rattle.ir_crew.proofs.Steps.{look_is_allowed, read_leave_is_allowed, word_write_leave_allowed, looked_version_entered, alone_if_same_seat}
use Rattle.ir_crew.proofs.table.Crew.leave.Goals as goal

pub fetch_add-requires : goal.fetch_add-requires
fetch_add-requires c = (
  c.requires.seat.0,
  (let o = c.requires.object in let w = c.args.self.now.words in omega (arith, o, w)),
  read_leave_is_allowed _ _ _ c.args.object c.args.seat.now.me c.requires.seat.1 c.requires.object (c.requires.inside ∙ ap Some c.in-Reading.is),
)

pub load-seen-requires : goal.load-seen-requires
load-seen-requires c = (
  c.requires.seat.0,
  (let o = c.requires.object in let w = c.args.self.now.words in omega (arith, o, w)),
  look_is_allowed _ _ _ c.args.object c.args.seat.now.me c.requires.seat.1 c.requires.object,
)

pub store-requires : goal.store-requires
store-requires c = let e = c.load-seen.ensures in let v : ℕ = c.load-seen.result / 2 ^ 32 in (
  e.0 ∙ c.requires.seat.0,
  (let o = c.requires.object in let w = c.args.self.now.words in omega (arith, o, w)),
  word_write_leave_allowed _ _ _ c.args.object v c.next_version-left.result.bits c.load-seen.new.seat.me
      (alone_if_same_seat _ c.args.seat.now.me e.2.0 c.requires.seat.1) c.requires.object
      (subst (λ (m : M). inside_by c.args.object (history m.0) ≡ Some Writing) (sym e.2.0) (c.requires.inside ∙ ap Some c.in-Writing.is))
      (looked_version_entered c.args.seat.now.me c.load-seen.new.seat.me c.args.object c.load-seen.result c.args.self.now.table.shared.table_id.slots
      e.2 (c.requires.inside ∙ ap Some c.in-Writing.is))
      (c.next_version-left.ensures ∙ omega arith),
)
