use Rattle.std.proofs.Common.{◌≡◌, ◌+◌, ◌*◌, Bool, true, List, arith, sym, ◌∙◌, subst}
use Rattle.ir_liveness.specs.Table.{is_marked}
use Rattle.ir_liveness.proofs.Anywhere.{anywhere_mark_has_word, no_mark_anywhere, slice_index_or_read}
use Rattle.ir_liveness.proofs.marks.Marks.is_marked_anywhere.Goals as goal

pub returns-clause-found : goal.returns-clause-found
returns-clause-found c = λ is.
    let size = c.self.invariant.0 in
    let read = slice_index_or_read c.self.inside.anywhere.items (c.args.number * 32 + c.args.register) c.index.result.now (omega arith) c.index.ensures in
    let found = anywhere_mark_has_word c.self.inside.marks.items c.self.inside.anywhere.items c.args.number c.args.register c.self.invariant.1
    c.requires.call c.requires.register (read ∙ is) in
    (found.0, found.1, subst (λ (z : List Bool). is_marked z (record { pc = found.0; number = c.args.number }) c.args.register ≡ true) c.self.view_is found.2)

pub returns-clause-none : goal.returns-clause-none
returns-clause-none c = λ unset next aligned is.
    let size = c.self.invariant.0 in
    let read = slice_index_or_read c.self.inside.anywhere.items (c.args.number * 32 + c.args.register) c.index.result.now (omega arith) c.index.ensures in
    no_mark_anywhere c.self.inside.marks.items c.self.inside.anywhere.items c.args.number c.args.register c.self.invariant.1
    c.requires.call c.requires.register (read ∙ unset) next aligned
    (subst (λ (z : List Bool). is_marked z (record { pc = next; number = c.args.number }) c.args.register ≡ true) (sym c.self.view_is) is)
