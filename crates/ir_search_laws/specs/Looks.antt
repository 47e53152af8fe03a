-- States that look the same to every thread.
use Rattle.std.specs.Prelude.{◌≡◌, ◌≢◌, ℕ}
use Rattle.ir_runs.specs.Machine.{Machine, Done}
use Rattle.ir_runs.specs.Run.{State}
use Rattle.ir_search_laws.specs.Counting.{AnswersCall}

-- that threads look the same: they ask the same, hold the same, are answered the same, and look the same after the same reply
pub record LookSame {T : Type 0} (m : Machine T) (answers : AnswersCall T) (Same : T → T → Type 0) : Type 0 where
  pub asks : (x y : T) → Same x y → m.ask x ≡ m.ask y
  pub holds : (x y : T) → Same x y → (o : ℕ) → m.held x o ≡ m.held y o
  pub answered : (x y : T) → Same x y → (t : ℕ) → answers t x ≡ answers t y
  pub takes : (x y : T) → Same x y → m.ask x ≢ Done → (r : ℕ) → Same (m.take x r) (m.take y r)
  pub backwards : (x y : T) → Same x y → Same y x
  pub onwards : (x y z : T) → Same x y → Same y z → Same x z

-- threads that look the same, and objects with the same threads inside and the same words; versions and readers that have left are no part
pub record Looks {T : Type 0} (Same : T → T → Type 0) (s v : State T) : Type 0 where
  pub threads : (t : ℕ) → Same (s.now t) (v.now t)
  pub inside : (o t : ℕ) → (s.objects o).inside t ≡ (v.objects o).inside t
  pub words : (o : ℕ) → (s.objects o).words ≡ (v.objects o).words
