-- Turns of a guest of one thread.
use Rattle.std.proofs.Common.{◌≡◌, ◌<◌, ◌≤◌, ◌+◌, ℕ, zero, suc, List, [], ◌∷◌, ◌++◌, Bool, true, Result, Ok, Err, OnOk, IfErr, arith, length, replicate, refl, ap, sym, subst, ◌∙◌}
use Rattle.std.proofs.lemmas.List.{replicate-append-replicate}
use Rattle.ir_thread.specs.State as thread
use Rattle.ir_flat.specs.Flat.{tables}
use Rattle.ir_runs.specs.Run.{State, rounds}
use Rattle.ir_record.specs.Failures.{StoppedAt}
use Rattle.ir_record.specs.Worlds.{AnsweredCall}
use Rattle.ir_record.specs.declared.in_order.turn.Failed.{Failed}
use Rattle.ir_record.specs.Progress.{Progress, TookSteps, TookIf, all_left}
use Rattle.ir_record.proofs.Following.{turns_of_thread_add_up}

-- rounds over one thread are its turns
pub rounds_of_one_thread : (count : ℕ) → rounds 1 count ≡ replicate count 0
rounds_of_one_thread zero = refl
rounds_of_one_thread (suc count) = ap (λ z. 0 ∷ z) (rounds_of_one_thread count)

-- turns of a thread, then private steps and a turn more
pub took_private_then_turn : (t n ran : ℕ) (a b c d : Progress) (moved : Bool) → TookSteps (replicate n t) a b → TookSteps (replicate ran t) b c
    → TookIf moved (t ∷ []) c d → TookSteps (replicate (n + ran + 1) t) a d
took_private_then_turn t n ran a b c d moved p q r =
    turns_of_thread_add_up t (n + ran) 1 (n + ran + 1) a c d refl (turns_of_thread_add_up t n ran (n + ran) a b c refl p q) r.took

-- as many turns, and one more
pub replicate_with_one_more : (t n : ℕ) → replicate n t ++ t ∷ [] ≡ replicate (n + 1) t
replicate_with_one_more t n = replicate-append-replicate n 1 t

-- a turn with a step leaves fewer steps
pub only_thread_lowers_left : (ran : ℕ) (b c d : Progress) (moved : Bool) → moved ≡ true → length b.flat.threads ≡ 1
    → TookSteps (replicate ran 0) b c → TookIf moved (0 ∷ []) c d → all_left 1 (tables d.flat).now < all_left 1 (tables b.flat).now
only_thread_lowers_left ran b c d moved is one q r =
    let x : all_left 1 (tables c.flat).now + length q.run ≤ all_left 1 (tables b.flat).now =
    subst (λ n. all_left n (tables c.flat).now + length q.run ≤ all_left n (tables b.flat).now) one q.fewer in
    let y : all_left 1 (tables d.flat).now + length r.took.run ≤ all_left 1 (tables c.flat).now =
    subst (λ n. all_left n (tables d.flat).now + length r.took.run ≤ all_left n (tables c.flat).now) (q.threads ∙ one) r.took.fewer in
    let s = r.some is in
    omega (arith, x, y, s)

-- the turns are rounds
pub only_thread_rounds_took : {A E : Type 0} (r : Result A E) (n : ℕ) (a b : Progress) → n ≡ 1 → OnOk r ((count : ℕ) × TookSteps (replicate count 0) a b)
    → OnOk r ((count : ℕ) × TookSteps (rounds n count) a b)
only_thread_rounds_took (Ok x) n a b one p = (
  p.0,
  subst (λ k. TookSteps (rounds k p.0) a b) (sym one) (subst (λ order. TookSteps order a b) (sym (rounds_of_one_thread p.0)) p.1),
)
only_thread_rounds_took (Err e) n a b one p = tt

-- turns that end because a world failed are of rounds that do
pub only_thread_rounds_stop : {A : Type 0} (r : Result A Failed) (n : ℕ) (s : State thread.ThreadState) (p : Progress) (answers : List (List AnsweredCall))
    → n ≡ 1 → IfErr r (λ f. (count : ℕ) × StoppedAt (replicate count 0) s p f.thread answers)
    → IfErr r (λ f. (count : ℕ) × StoppedAt (rounds n count) s p f.thread answers)
only_thread_rounds_stop (Ok x) n s p answers one h = tt
only_thread_rounds_stop (Err f) n s p answers one h = (
  h.0,
  subst (λ k. StoppedAt (rounds k h.0) s p f.thread answers) (sym one)
      (subst (λ order. StoppedAt order s p f.thread answers) (sym (rounds_of_one_thread h.0)) h.1),
)
