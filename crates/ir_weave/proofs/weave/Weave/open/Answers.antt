use Rattle.std.proofs.Common.{rules, sym, subst, length}
use Rattle.ir_object.specs.Layout.{table_length}
use Rattle.ir_weave.specs.Table.{IsLaid}
use Rattle.ir_weave.proofs.Opening.{plan_opening_is_woven, opening_seat_is_seated, laid_words_are_table, guest_threads_positive}
use Rattle.ir_weave.proofs.weave.Weave.open.Goals as goal

pub of_words-requires : goal.of_words-requires
of_words-requires c =
    plan_opening_is_woven (record { fitted = c.of.result; opened = c.of-2.result }) c.args.fitted.now c.args.state.now c.as_slice.result.now
    c.of.ensures c.of-2.ensures c.image.ensures.within c.requires
    (laid_words_are_table c.args.state.now.objects c.as_slice.result.now
    (subst (λ ws. IsLaid c.args.state.now.objects ws (table_length (length c.args.state.now.objects))) (sym c.as_slice.ensures.value)
    (subst (λ cs. IsLaid cs c.in_ok-words.words.items (table_length (length cs))) c.objects.ensures c.in_ok-words.ensures))
    (λ o l. (c.requires.flat.objects o l).words))

pub deal-requires-clause-some : goal.deal-requires-clause-some
deal-requires-clause-some c = guest_threads_positive c.args.fitted.now c.args.state.now c.threads-count.result.now c.image.result.now
    c.code.ensures.within c.image.ensures.value c.threads-count.ensures c.requires.at.threads

pub returns-clause-seated : goal.returns-clause-seated
returns-clause-seated c = opening_seat_is_seated c.in_ok-table.table.shared.table_id c.in_ok-table.table.shared.key c.args.fitted.now c.args.state.now
    c.in_ok-seats.seats.items (search rules) (search rules) c.image.ensures.within c.requires c.in_ok-seats.ensures.0
