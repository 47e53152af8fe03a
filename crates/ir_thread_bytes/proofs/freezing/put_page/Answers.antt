use Rattle.std.proofs.Common.{true, refl}
use Rattle.std.proofs.lemmas.Bool.Decides.{Decides-eqb}
use Rattle.std.proofs.lemmas.Slice.Eq.{slice_eq-Decides}
use Rattle.ir_thread_bytes.specs.Frozen.{page_changes}
use Rattle.ir_thread_bytes.proofs.Written.{changes_of_equal, append_empty_same}
use Rattle.ir_thread_bytes.proofs.freezing.put_page.Goals as goal

pub returns-then-eq : goal.returns-then-eq
returns-then-eq c =
    append_empty_same c.args.out.now.items (page_changes c.args.first c.args.old.now c.args.new.now)
    (changes_of_equal c.args.first c.args.old.now c.args.new.now
    ((slice_eq-Decides Decides-eqb c.args.old.now c.args.new.now true c.if-eq.ensures).0 refl))
