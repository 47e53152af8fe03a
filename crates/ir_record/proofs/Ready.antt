-- What holds before a turn holds after it.
use Rattle.std.proofs.Common.{◌≡◌, ℕ, Bool, List, [], ◌∷◌, length, Result, Ok, Err, IsErrAnd, sym, ◌∙◌, subst}
use Rattle.ir_record.specs.Progress.{Progress, TookIf, IsReadyToRecord, HasLogs}
use Rattle.ir_record.specs.Recorders.{NamesFirst, StaysReady}
use Rattle.ir_record.specs.Worlds.{AnsweredCall, AreSameWorlds, NoneFailed}
use Rattle.ir_record.specs.declared.in_order.recorder.Recorder.{Recorder}
use Rattle.ir_record.specs.declared.in_order.turn.Failed.{Failed}

pub ready_after_turn : (t : ℕ) (moved : Bool) (a b : Progress) (was failed : List Bool) → IsReadyToRecord a was → TookIf moved (t ∷ []) a b
    → HasLogs b.flat b.logs → length b.answers ≡ length a.answers → NoneFailed failed → IsReadyToRecord b failed
ready_after_turn t moved a b was failed ready took has_logs same works =
    record { has_logs = has_logs; worlds = same ∙ ready.worlds ∙ sym took.took.threads; works = works }

-- an error that a `?` hands on, after calls that kept the worlds
pub stays_ready_first_failed : {W O A : Type 0} (answers : W → List AnsweredCall) (broken : W → Bool) (origin : W → O) (old new : Recorder W)
    (r : Result A Failed) (e : Failed) → IsErrAnd r (λ x. x ≡ e) → NamesFirst broken new.worlds.items e
    → AreSameWorlds origin old.worlds.items new.worlds.items → StaysReady answers broken origin old new r
stays_ready_first_failed answers broken origin old new (Ok x) e is names same = absurd is
stays_ready_first_failed answers broken origin old new (Err x) e is names same = record {
  ready = tt;
  failed = subst (NamesFirst broken new.worlds.items) (sym is) names;
  same_worlds = same;
}

-- what a last call keeps, after calls that kept the worlds
pub stays_ready_from_middle : {W O A : Type 0} (answers : W → List AnsweredCall) (broken : W → Bool) (origin : W → O) (old mid new : Recorder W)
    (r : Result A Failed) → AreSameWorlds origin old.worlds.items mid.worlds.items → StaysReady answers broken origin mid new r
    → StaysReady answers broken origin old new r
stays_ready_from_middle answers broken origin old mid new r same stays = record {
  ready = stays.ready;
  failed = stays.failed;
  same_worlds = stays.same_worlds ∙ same;
}
