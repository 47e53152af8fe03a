use Rattle.std.proofs.Common.{◌∙◌, length, sym, ap, subst}
use Rattle.std.proofs.lemmas.List.{with_items_is}
use Rattle.std.proofs.lemmas.Result.{on_ok_weaker}
use Rattle.ir_fit.specs.Listed.{AreSorted}
use Rattle.ir_fit.proofs.visits.Visits.sort.Goals as goal

pub returns : goal.returns
returns c =
    let reading = c.self.inside.reading in
    let writing = c.self.inside.writing in
    let read = with_items_is reading c.sort_each.new.lists
    (c.in_ok-sort_each.ensures.length ∙ ap length c.deref_mut.ensures.value ∙ sym reading.ok.0) in
    let written = with_items_is writing c.sort_each-2.new.lists
    (c.sort_each-2.ensures.length ∙ ap length c.deref_mut-2.ensures.value ∙ sym writing.ok.0) in
    on_ok_weaker c.sort_each-2.result (λ h. (
      subst (AreSorted c.args.self.now.reading) (sym read)
          (subst (λ xs. AreSorted xs c.sort_each.new.lists) (c.deref_mut.ensures.value ∙ ap (λ v. v.reading) c.self.view_is)
          c.in_ok-sort_each.ensures.sorted),
      subst (AreSorted c.args.self.now.writing) (sym written)
          (subst (λ xs. AreSorted xs c.sort_each-2.new.lists) (c.deref_mut-2.ensures.value ∙ ap (λ v. v.writing) c.self.view_is) h),
    )) c.sort_each-2.ensures.sorted
