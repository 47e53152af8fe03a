use Rattle.std.proofs.Common.{◌≡◌, ◌∙◌, sym, ap, subst, get_or}
use Rattle.ir_lemmas.proofs.CallerLemmas.{all_of_push}
use Rattle.ir_thread.specs.State.{ThreadState}
use Rattle.ir_state_store.specs.Table.{HaveForm, idle_beside}
use Rattle.ir_state_store.specs.Table as table
use Rattle.ir_state_store.proofs.Lists.{push_is_map_take}
use Rattle.ir_state_store.proofs.table.Table.threads.Goals as goal

pub loop-n-preserved : goal.loop-n-preserved
loop-n-preserved c =
    let i = c.loop-n.n-index in
    let numbers = c.args.numbers.now in
    let items = c.args.self.now.items in
    let x = c.in_ok-thread.thread in
    record {
      value =
          c.in_ok-push.ensures.items
          ∙ push_is_map_take (λ k. (get_or items k idle_beside).0) numbers c.loop-n.threads.items x i 0 c.loop-n-test.true c.loop-n.invariant.value
          (c.in_ok-thread.ensures.found ∙ ap (λ (z : table.Table). (get_or z.items (get_or numbers i 0) idle_beside).0) c.self.view_is);
      form =
          subst (HaveForm c.args.self.now.form) (sym c.in_ok-push.ensures.items)
          (all_of_push (λ (s : ThreadState). s.form ≡ c.args.self.now.form) c.loop-n.threads.items x c.loop-n.invariant.form
          (c.in_ok-thread.ensures.form ∙ ap (λ (z : table.Table). z.form) c.self.view_is));
    }
