use Rattle.std.proofs.Common.{◌∙◌, ◌+◌, List, ℕ, String, Global, Bor, sym, subst}
use Rattle.std.specs.String.{string_bytes}
use Rattle.ir_picture.proofs.Folded.{ArePairs, pairs_of_no_objects, pairs_after_read_object, pairs_past_unread_object}
use Rattle.ir_picture.proofs.folds.pairs_read.Goals as goal
use Rattle.ir_picture.proofs.folds.pairs_read.Goals.{in-Some+in_ok-read_pair+in_ok-push_str, in_default}

pub loop-object-init : goal.loop-object-init
loop-object-init c = pairs_of_no_objects c.args.events.now _ c.new-text.ensures.bytes

pub loop-object-preserved : goal.loop-object-preserved
loop-object-preserved c = elim c.match-version_read.branch [
  | in-Some+in_ok-read_pair+in_ok-push_str w ↦
      subst (λ (x : String Global). ArePairs (c.loop-object.object + 1) c.args.events.now c.match-version_read.comma.now (string_bytes x))
      (sym w.text-is)
      (subst (λ (x : Bor (List ℕ)). ArePairs (c.loop-object.object + 1) c.args.events.now x.now (string_bytes w.push_str.new.self)) (sym w.comma-is)
      (pairs_after_read_object c.loop-object.object w.in-Some.version c.args.events.now c.loop-object.comma.now (string_bytes c.loop-object.text)
      w.as_str.result.now (string_bytes w.push_str.new.self) c.loop-object.invariant (sym c.version_read.ensures ∙ w.in-Some.is)
      (w.as_str.ensures.value ∙ w.in_ok-read_pair.ensures) w.in_ok-push_str.ensures.bytes))
  | in_default w ↦
      subst (λ (x : String Global). ArePairs (c.loop-object.object + 1) c.args.events.now c.match-version_read.comma.now (string_bytes x))
      (sym w.text-is)
      (subst (λ (x : Bor (List ℕ)). ArePairs (c.loop-object.object + 1) c.args.events.now x.now (string_bytes c.loop-object.text)) (sym w.comma-is)
      (pairs_past_unread_object c.loop-object.object c.args.events.now c.loop-object.comma.now (string_bytes c.loop-object.text) c.loop-object.invariant
      (sym c.version_read.ensures ∙ w.in_default.is)))
]
