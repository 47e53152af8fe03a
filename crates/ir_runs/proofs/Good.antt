-- What holds in each state that a run reaches.
use Rattle.std.proofs.Common.{◌≡◌, ◌≢◌, ℕ, suc, zero, List, [], ◌∷◌, Option, Some, None, refl, sym, ap, ◌∙◌, subst, arith, le_refl}
use Rattle.std.proofs.lemmas.Bool.Decides.{nat_tests}
use Rattle.ir_runs.specs.Machine.{Ask, Private, Env, Enter, Try, Leave, Get, Put, Done, Act, act_of, Silent, Replied, Entered, TryFailed}
use Rattle.ir_runs.specs.Machine.{Left, Got, Stored, Never, Machine, upd, Object, target, Admits, acted, reply}
use Rattle.ir_runs.specs.Lawful.{Holds, held_after, IsLawful}
use Rattle.ir_runs.specs.declared.access.Access.{Access}
use Rattle.ir_runs.specs.declared.access.Access.TheVariants.{Reading, Writing}
use Rattle.ir_runs.proofs.Tables.{upd_at_own_place, upd_at_other_place, upd_by_cases}
use Rattle.ir_runs.specs.Run.{State, Step, asked, act, Can, after, IsRun, end}
use Rattle.ir_runs.specs.Bounds.{IsStart}

-- only one thread is inside, if it is there for writing
abbrev pub Exclusive : Object → Type 0
Exclusive b = (t u : ℕ) → t ≢ u → b.inside t ≡ Some Writing → b.inside u ≡ None

-- how a thread is inside the object that it asks about
abbrev pub InsideForAct : Act → Option Access → Type 0
InsideForAct Silent i = Unit {0}
InsideForAct (TryFailed _) i = Unit {0}
InsideForAct (Replied k res) i = Unit {0}
InsideForAct (Entered o a ans) i = i ≡ None
InsideForAct (Left o a) i = i ≡ Some a
InsideForAct (Got o j) i = i ≢ None
InsideForAct (Stored o j w) i = i ≡ Some Writing
InsideForAct Never i = Unit {0}

-- the threads hold what they are inside of
pub record StateInvariant {T : Type 0} (m : Machine T) (s : State T) : Type 0 where
  pub linked : (t o : ℕ) → (s.objects o).inside t ≡ m.held (s.now t) o
  pub exclusive : (o : ℕ) → Exclusive (s.objects o)

inside_for_act_if_holds : (q : Ask) (r : ℕ) (h : ℕ → Option Access) (i : Option Access) → i ≡ h (target (act_of q r)) → Holds q h → InsideForAct (act_of q r) i
inside_for_act_if_holds Private r h i e k = tt
inside_for_act_if_holds (Env _) r h i e k = tt
inside_for_act_if_holds (Enter o a) r h i e k = e ∙ k o (le_refl o)
inside_for_act_if_holds (Try o) zero h i e k = tt
inside_for_act_if_holds (Try o) (suc zero) h i e k = e ∙ k o (le_refl o)
inside_for_act_if_holds (Try o) (suc (suc r)) h i e k = tt
inside_for_act_if_holds (Leave o a) r h i e k = e ∙ k
inside_for_act_if_holds (Get o j) r h i e k = λ p. k (sym e ∙ p)
inside_for_act_if_holds (Put o j w) r h i e k = e ∙ k
inside_for_act_if_holds Done r h i e k = tt

-- what the thread holds goes by the answer as by the result
held_after_reply : (q : Ask) (r : ℕ) (b : Object) (h : ℕ → Option Access) (o : ℕ)
    → held_after (act_of q (reply (act_of q r) b)) h o ≡ held_after (act_of q r) h o
held_after_reply Private r b h o = refl
held_after_reply (Env k) r b h o = refl
held_after_reply (Enter i a) r b h o = refl
held_after_reply (Try i) zero b h o = refl
held_after_reply (Try i) (suc zero) b h o = refl
held_after_reply (Try i) (suc (suc r)) b h o = refl
held_after_reply (Leave i a) r b h o = refl
held_after_reply (Get i j) r b h o = refl
held_after_reply (Put i j w) r b h o = refl
held_after_reply Done r b h o = refl

pub inside_for_act_of_step : {T : Type 0} (m : Machine T) → IsLawful m → (s : State T) → StateInvariant m s → (e : Step)
    → InsideForAct (act m s e) ((s.objects (target (act m s e))).inside e.0)
inside_for_act_of_step m law s good e = inside_for_act_if_holds (asked m s e.0) e.1 (m.held (s.now e.0)) _ (good.linked e.0 (target (act m s e)))
    (law.holds (s.now e.0))

-- a step moves no other thread
acted_inside_other : (q : Act) (t : ℕ) (b : Object) (u : ℕ) → u ≢ t → (acted q t b).inside u ≡ b.inside u
acted_inside_other Silent t b u ne = refl
acted_inside_other (TryFailed _) t b u ne = refl
acted_inside_other (Replied k res) t b u ne = refl
acted_inside_other (Entered o a ans) t b u ne = upd_at_other_place b.inside t u (Some a) ne
acted_inside_other (Left o Reading) t b u ne = upd_at_other_place b.inside t u None ne
acted_inside_other (Left o Writing) t b u ne = upd_at_other_place b.inside t u None ne
acted_inside_other (Got o j) t b u ne = refl
acted_inside_other (Stored o j w) t b u ne = refl
acted_inside_other Never t b u ne = refl

acted_inside_own : (q : Act) (t : ℕ) (b : Object) (h : ℕ → Option Access) → b.inside t ≡ h (target q)
    → (acted q t b).inside t ≡ held_after q h (target q)
acted_inside_own Silent t b h e = e
acted_inside_own (TryFailed _) t b h e = e
acted_inside_own (Replied k res) t b h e = e
acted_inside_own (Entered o a ans) t b h e = upd_at_own_place b.inside t (Some a) ∙ sym (upd_at_own_place h o (Some a))
acted_inside_own (Left o Reading) t b h e = upd_at_own_place b.inside t None ∙ sym (upd_at_own_place h o None)
acted_inside_own (Left o Writing) t b h e = upd_at_own_place b.inside t None ∙ sym (upd_at_own_place h o None)
acted_inside_own (Got o j) t b h e = e
acted_inside_own (Stored o j w) t b h e = e
acted_inside_own Never t b h e = e

held_after_elsewhere : (q : Act) (h : ℕ → Option Access) (o : ℕ) → o ≢ target q → held_after q h o ≡ h o
held_after_elsewhere Silent h o ne = refl
held_after_elsewhere (TryFailed _) h o ne = refl
held_after_elsewhere (Replied k res) h o ne = refl
held_after_elsewhere (Entered i a ans) h o ne = upd_at_other_place h i o (Some a) ne
held_after_elsewhere (Left i a) h o ne = upd_at_other_place h i o None ne
held_after_elsewhere (Got i j) h o ne = refl
held_after_elsewhere (Stored i j w) h o ne = refl
held_after_elsewhere Never h o ne = refl

exclusive_after_write : (b : Object) (t : ℕ) → ((u : ℕ) → b.inside u ≡ None) → (v w : ℕ) → v ≢ w → upd b.inside t (Some Writing) v ≡ Some Writing
    → upd b.inside t (Some Writing) w ≡ None
unfolding upd
exclusive_after_write b t h v w ne e = grind (arith, nat_tests, h v, h w)

exclusive_after_read : (b : Object) (t : ℕ) → ((u : ℕ) → b.inside u ≢ Some Writing) → (v w : ℕ) → v ≢ w
    → upd b.inside t (Some Reading) v ≡ Some Writing → upd b.inside t (Some Reading) w ≡ None
unfolding upd
exclusive_after_read b t h v w ne e = grind (arith, nat_tests, h v)

exclusive_after_leave : (b : Object) (t : ℕ) → Exclusive b → (v w : ℕ) → v ≢ w → upd b.inside t None v ≡ Some Writing → upd b.inside t None w ≡ None
unfolding upd
exclusive_after_leave b t ex v w ne e = grind (arith, nat_tests, ex v w)

exclusive_after_act : {T : Type 0} (m : Machine T) (q : Act) (t : ℕ) (b : Object) → Exclusive b → Admits m q b → Exclusive (acted q t b)
exclusive_after_act m Silent t b ex h = ex
exclusive_after_act m (TryFailed _) t b ex h = ex
exclusive_after_act m (Replied k res) t b ex h = ex
exclusive_after_act m (Entered o Reading ans) t b ex h = exclusive_after_read b t h
exclusive_after_act m (Entered o Writing ans) t b ex h = exclusive_after_write b t h
exclusive_after_act m (Left o Reading) t b ex h = exclusive_after_leave b t ex
exclusive_after_act m (Left o Writing) t b ex h = exclusive_after_leave b t ex
exclusive_after_act m (Got o j) t b ex h = ex
exclusive_after_act m (Stored o j w) t b ex h = ex
exclusive_after_act m Never t b ex h = ex

inside_is_held_step : {T : Type 0} (m : Machine T) → IsLawful m → (s : State T) → StateInvariant m s → (e : Step) → (u o : ℕ)
    → ((after m s e).objects o).inside u ≡ m.held ((after m s e).now u) o
unfolding after
inside_is_held_step m law s good e u o =
    let t : ℕ = e.0 in
    let x = s.now t in
    let q : Act = act m s e in
    let b : Object = s.objects (target q) in
    let v : ℕ = reply q b in
    let takes : held_after q (m.held x) o ≡ m.held (m.take x v) o = sym (held_after_reply (m.ask x) e.1 b (m.held x) o) ∙ sym (law.takes x v o) in
    upd_by_cases s.now t (m.take x v) u (λ z. (upd s.objects (target q) (acted q t b) o).inside u ≡ m.held z o)
    (λ same. upd_by_cases s.objects (target q) (acted q t b) o (λ c. c.inside u ≡ m.held (m.take x v) o)
    (λ here. subst (λ z. (acted q t b).inside z ≡ m.held (m.take x v) o) (sym same)
    (acted_inside_own q t b (m.held x) (good.linked t (target q)) ∙ ap (held_after q (m.held x)) (sym here) ∙ takes))
    (λ other. subst (λ z. (s.objects o).inside z ≡ m.held (m.take x v) o) (sym same)
    (good.linked t o ∙ sym (held_after_elsewhere q (m.held x) o other) ∙ takes)))
    (λ differ. upd_by_cases s.objects (target q) (acted q t b) o (λ c. c.inside u ≡ m.held (s.now u) o)
    (λ here. acted_inside_other q t b u differ ∙ good.linked u (target q) ∙ ap (m.held (s.now u)) (sym here))
    (λ other. good.linked u o))

pub state_invariant_step : {T : Type 0} (m : Machine T) → IsLawful m → (s : State T) → StateInvariant m s → (e : Step) → Can m s e → StateInvariant m (after m s e)
unfolding after
state_invariant_step m law s good e can = record {
  linked = inside_is_held_step m law s good e;
  exclusive = λ o. upd_by_cases s.objects (target (act m s e)) (acted (act m s e) e.0 (s.objects (target (act m s e)))) o Exclusive
      (λ _. exclusive_after_act m (act m s e) e.0 (s.objects (target (act m s e))) (good.exclusive _) can)
      (λ _. good.exclusive o);
}

pub state_invariant_start : {T : Type 0} (m : Machine T) (s : State T) → IsStart m s → StateInvariant m s
state_invariant_start m s h = record { linked = λ t o. h.inside o t ∙ sym (h.held t o); exclusive = λ o t u ne w. h.inside o u }

-- what holds at the start holds at a run's end
pub state_invariant_run : {T : Type 0} (m : Machine T) → IsLawful m → (s : State T) → StateInvariant m s → (run : List Step) → IsRun m s run
    → StateInvariant m (end m s run)
state_invariant_run m law s good [] ok = good
state_invariant_run m law s good (e ∷ run) ok = state_invariant_run m law (after m s e) (state_invariant_step m law s good e ok.0) run ok.1
