-- What a call that writes comes to.
use Rattle.std.specs.Prelude.{◌≡◌, ℕ, Bool, true, List, OnOk, OnErr}
use Rattle.std.specs.declared.option.Option.{Option}
use Rattle.std.specs.Io.KnownBytes.{Appends}
use Rattle.std.specs.declared.result.Result.{Result}
use Rattle.ir_stream.specs.Answers.{AppendsPrefix}

-- a call that writes: after an Ok all holds, and the device works if it did; after an Err a part holds, and the device has failed
pub record WritesOrFails {D A E : Type 0} (broken : D → Bool) (old new : D) (all part : Type 0) (result : Result A E) : Type 0 where
  pub ok : OnOk result all
  pub stays : OnOk result (broken new ≡ broken old)
  pub prefix : OnErr result part
  pub err : OnErr result (broken new ≡ true)

-- a call that writes a text: the device took all of it, or took a prefix of it and has failed
abbrev pub WritesText : {D A E : Type 0} → (D → Option (List ℕ)) → (D → Bool) → D → D → List ℕ → Result A E → Type 0
WritesText written broken old new text result =
    WritesOrFails broken old new (Appends (written old) (written new) text) (AppendsPrefix (written old) (written new) text) result
