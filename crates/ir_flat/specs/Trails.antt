-- What a thread that runs alone emits.
use Rattle.std.specs.Prelude.{ℕ, Bool, true, false, List, [], ◌∷◌}
use Rattle.ir_runs.specs.Machine.{Act, act_of, Silent, Replied, TryFailed, Never, Machine, Label, Quiet, Answer, FailedTry}
use Rattle.ir_runs.specs.Shared.{is_shared}

-- what a step of a thread alone emits, where ks is what its object steps emit
abbrev pub alone_label : Act → List Label → Label
alone_label Silent ks = Quiet
alone_label (Replied k v) ks = Answer k v
alone_label (TryFailed o) ks = FailedTry o
alone_label Never ks = Quiet
alone_label _ [] = Quiet
alone_label _ (k ∷ ks) = k

abbrev pub labels_left : Bool → List Label → List Label
labels_left false ks = ks
labels_left true [] = []
labels_left true (k ∷ ks) = ks

-- the steps of a thread alone, with what they emit
abbrev pub alone_trail : {T : Type 0} → Machine T → T → List ℕ → List Label → List (T × Label)
alone_trail m x [] ks = []
alone_trail m x (v ∷ vs) ks = (x, alone_label (act_of (m.ask x) v) ks)
    ∷ alone_trail m (m.take x v) vs (labels_left (is_shared (act_of (m.ask x) v)) ks)
