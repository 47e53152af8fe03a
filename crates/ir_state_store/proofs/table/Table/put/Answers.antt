use Rattle.std.proofs.Common.{◌≡◌, ◌∙◌, ◌++◌, ◌∷◌, [], ℕ, length, sym, ap, subst, Some}
use Rattle.std.specs.Prelude.{slice_get}
use Rattle.ir_lemmas.proofs.CallerLemmas.{added_element_is_last}
use Rattle.ir_world.specs.Sources.{Source}
use Rattle.ir_thread.specs.State.{ThreadState}
use Rattle.ir_state_store.specs.Hashes.{IsFoundBy}
use Rattle.ir_state_store.specs.Table.{Table, AreOnce, HaveOneLook, seen_hash, whole_hash}
use Rattle.ir_state_store.proofs.Alike.{one_look_after_notes, once_after_notes, one_look_after_push, once_after_push}
use Rattle.ir_state_store.proofs.Lists.{push_keeps_old_elements}
use Rattle.ir_state_store.proofs.table.Table.put.Goals as goal

pub invariant_of-self : goal.invariant_of-self
invariant_of-self c =
    (c.self.invariant.0, one_look_after_notes c.self.inside.seen c.look_of.new.seen c.self.inside.rows c.self.invariant.1 c.look_of.ensures.keeps)

pub invariant_of-self-in_err-note : goal.invariant_of-self-in_err-note
invariant_of-self-in_err-note c = (
  once_after_notes c.self.inside.index c.note.new.self c.self.inside.rows c.self.invariant.0 c.note.ensures.keeps,
  one_look_after_notes c.self.inside.seen c.look_of.new.seen c.self.inside.rows c.self.invariant.1 c.look_of.ensures.keeps,
)

pub invariant_of-self-in_err-push : goal.invariant_of-self-in_err-push
invariant_of-self-in_err-push c = subst (λ t. AreOnce c.note.new.self t × HaveOneLook c.look_of.new.seen t) (sym c.in_err-push.ensures.err) (
  once_after_notes c.self.inside.index c.note.new.self c.self.inside.rows c.self.invariant.0 c.note.ensures.keeps,
  one_look_after_notes c.self.inside.seen c.look_of.new.seen c.self.inside.rows c.self.invariant.1 c.look_of.ensures.keeps,
)

pub invariant_of-self-2 : goal.invariant_of-self-2
invariant_of-self-2 c =
    let t : Table = c.self.inside.rows in
    let x : ThreadState × Source = (c.args.thread.now, c.args.source.now) in
    let k = c.in_ok-look.look in
    let here : IsFoundBy c.note.new.self (whole_hash t.basis x) (length t.items) =
    subst (IsFoundBy c.note.new.self (whole_hash t.basis x)) c.len-n.ensures
    (subst (λ h. IsFoundBy c.note.new.self h c.len-n.result) (c.requires.whole ∙ ap (λ (z : Table). whole_hash z.basis x) (sym c.self.view_is)) c.in_ok-note.ensures.found) in
    let new : (n : ℕ) → slice_get t.items n ≡ Some x → ⊥ =
    subst (λ (z : Table). (n : ℕ) → slice_get z.items n ≡ Some x → ⊥) (sym c.self.view_is) c.requires.new in
    let found : IsFoundBy c.look_of.new.seen (seen_hash t.basis x) k =
    subst (λ h. IsFoundBy c.look_of.new.seen h k) (c.requires.seen ∙ ap (λ (z : Table). seen_hash z.basis x) (sym c.self.view_is)) c.in_ok-look.ensures.found in
    subst (λ z. AreOnce c.note.new.self z × HaveOneLook c.look_of.new.seen z) (sym c.in_ok-push.ensures.ok) (
      once_after_push c.self.inside.index c.note.new.self t x k c.self.invariant.0 c.note.ensures.keeps here new,
      one_look_after_push c.self.inside.seen c.look_of.new.seen t x k c.self.invariant.1 c.look_of.ensures.keeps found c.in_ok-look.ensures.one,
    )

pub returns-clause-keeps : goal.returns-clause-keeps
returns-clause-keeps c = λ n s at.
    subst (λ (z : Table). slice_get z.items n ≡ Some s) (sym c.in_ok-push.ensures.ok)
    (push_keeps_old_elements c.self.inside.rows.items (c.args.thread.now, c.args.source.now) n s
    (subst (λ (z : Table). slice_get z.items n ≡ Some s) (sym c.self.view_is) at))

pub returns-clause-looks : goal.returns-clause-looks
returns-clause-looks c = λ n s at.
    subst (λ (z : Table). slice_get z.looks n ≡ Some s) (sym c.in_ok-push.ensures.ok)
    (push_keeps_old_elements c.self.inside.rows.looks c.in_ok-look.look n s
    (subst (λ (z : Table). slice_get z.looks n ≡ Some s) (sym c.self.view_is) at))

pub returns-clause-found : goal.returns-clause-found
returns-clause-found c =
    let x : ThreadState × Source = (c.args.thread.now, c.args.source.now) in
    subst (λ (z : Table). slice_get z.items c.len-n.result ≡ Some x) (sym c.in_ok-push.ensures.ok)
    (ap (slice_get (c.self.inside.rows.items ++ x ∷ [])) c.len-n.ensures ∙ added_element_is_last c.self.inside.rows.items x)

pub returns-clause-one : goal.returns-clause-one
returns-clause-one c = λ m at.
    let x : ThreadState × Source = (c.args.thread.now, c.args.source.now) in
    (invariant_of-self-2 c).0.once m c.len-n.result x at (returns-clause-found c)
