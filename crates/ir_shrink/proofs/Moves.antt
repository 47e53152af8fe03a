-- Turns one after the other.
use Rattle.std.proofs.Common.{◌≡◌, ℕ, zero, suc, ◌+◌, ◌-◌, ◌<◌, ◌≤◌, ◌⊎◌, Bool, true, false, List, [], ◌∷◌, ◌++◌, length, map, replicate, take, get_or}
use Rattle.std.proofs.Common.{refl, sym, ap, ◌∙◌, subst, arith, inl, inr, append-nil, append_assoc}
use Rattle.std.proofs.lemmas.List.{replicate-append-replicate, get_or_past, take_more, take_all}
use Rattle.std.proofs.lemmas.Bool.{cases_eq}
use Rattle.std.specs.List.{AllByRecursion}
use Rattle.ir_flat.specs.Alone.{WentAlone}
use Rattle.ir_flat.specs.Flat.{tables, machine, idle}
use Rattle.ir_lemmas.proofs.CallerLemmas.{all_of_append}
use Rattle.ir_record.specs.Recording.{turns_of_items}
use Rattle.ir_record.specs.Refusing.{Turn, Tries, InTurns}
use Rattle.ir_record.specs.declared.item.Item.{Item}
use Rattle.ir_record.specs.Worlds.{answers_at, answers_in}
use Rattle.ir_record.proofs.CallerLemmas.{answers_in_append, in_turns_of_append}
use Rattle.ir_runs.specs.Machine.{Machine, Private, Try, Admits, act_of, target}
use Rattle.ir_runs.specs.Run.{State, Step, asked, after, IsRun, end, log, HasNone}
use Rattle.ir_runs.proofs.CallerLemmas.{end_append, log_append}
use Rattle.ir_shrink.specs.Items.{turns_of, plain_item, pass_of, passes_of}
use Rattle.ir_shrink.proofs.Items.{turns_of_items_append, pushed_item_turns}
use Rattle.ir_shrink.specs.Moments.{Moment, Took, Followed, EachTakes, HasNoStep, IsTurn}
use Rattle.ir_thread.specs.State.{thread_machine, ask_of, shared_ask}

-- ---- turns that take a step each

pub each_takes_append : {T : Type 0} (m : Machine T) (s : State T) (turns more : List Turn) (run rest : List Step) → EachTakes m s turns run
    → EachTakes m (end m s run) more rest → EachTakes m s (turns ++ more) (run ++ rest)
each_takes_append m s [] more [] rest h k = k
each_takes_append m s [] more (e ∷ run) rest h k = absurd h
each_takes_append m s (turn ∷ turns) more [] rest h k = absurd h
each_takes_append m s (turn ∷ turns) more (e ∷ run) rest h k =
    (h.0, h.1, h.2, each_takes_append m (after m s e) turns more run rest h.3 k)

pub in_turns_if_each : {T : Type 0} (m : Machine T) (s : State T) (turns : List Turn) (run : List Step) → EachTakes m s turns run → InTurns m s turns run
in_turns_if_each m s [] [] h = refl
in_turns_if_each m s [] (e ∷ run) h = absurd h
in_turns_if_each m s (turn ∷ turns) [] h = absurd h
in_turns_if_each m s ((t, refused) ∷ turns) ((u, r) ∷ run) h = subst (λ z. InTurns m s ((z, refused) ∷ turns) ((u, r) ∷ run)) h.0
    (inr (r, run, refl, h.1, h.2, in_turns_if_each m (after m s (u, r)) turns run h.3))

-- the threads of the steps are those of the turns
pub threads_of_each : {T : Type 0} (m : Machine T) (s : State T) (turns : List Turn) (run : List Step) → EachTakes m s turns run
    → map (λ e. e.0) run ≡ map (λ t. t.0) turns
threads_of_each m s [] [] h = refl
threads_of_each m s [] (e ∷ run) h = absurd h
threads_of_each m s (turn ∷ turns) [] h = absurd h
threads_of_each m s (turn ∷ turns) (e ∷ run) h =
    ap (λ z. z ∷ map (λ (x : Step). x.0) run) h.0 ∙ ap (λ z. turn.0 ∷ z) (threads_of_each m (after m s e) turns run h.3)

private_tries_nothing : {T : Type 0} (m : Machine T) (s : State T) (t : ℕ) (refused : Bool) → asked m s t ≡ Private → Tries m s refused (t, 0)
private_tries_nothing m s t true private = λ o tried. refl
private_tries_nothing m s t false private = λ o tried can. let e : Private ≡ Try o = sym private ∙ tried in absurd (cc e)

-- private steps
each_takes_private : {T : Type 0} (m : Machine T) (t k : ℕ) (refused : Bool) (s : State T) → IsRun m s (replicate k (t, 0))
    → ((j : ℕ) → j < k → m.ask ((end m s (replicate j (t, 0))).now t) ≡ Private) → EachTakes m s (replicate k (t, refused)) (replicate k (t, 0))
each_takes_private m t zero refused s ok each = tt
each_takes_private m t (suc k) refused s ok each = (
  refl,
  ok.0,
  private_tries_nothing m s t refused (each 0 (omega arith)),
  each_takes_private m t k refused (after m s (t, 0)) ok.1 (λ j less. each (suc j) (omega (arith, less))),
)

-- turns of a thread that has no step
none_takes_repeats : {T : Type 0} (m : Machine T) (s : State T) (t k : ℕ) (refused : Bool) → HasNone m s t → InTurns m s (replicate k (t, refused)) []
none_takes_repeats m s t zero refused none = refl
none_takes_repeats m s t (suc k) refused none = inl (none, none_takes_repeats m s t k refused none)

of_thread_repeated : (n t k : ℕ) (refused : Bool) → t < n → AllByRecursion (λ (x : Turn). x.0 < n) (replicate k (t, refused))
of_thread_repeated n t zero refused l = tt
of_thread_repeated n t (suc k) refused l = (l, of_thread_repeated n t k refused l)

-- ---- moments

-- the same run on the machine and state at which it begins
log_after_taken : (turns taken : List Turn) (a b : Moment) (more : List Step) (t : ℕ) (p : Took turns taken a b)
    → log (machine b.flat) (tables b.flat) more t ≡ log (machine a.flat) (end (machine a.flat) (tables a.flat) p.run) more t
log_after_taken turns taken a b more t p = ap (λ c. log (thread_machine c) (tables b.flat) more t) p.code
    ∙ ap (λ s. log (machine a.flat) s more t) p.ends

pub took_nothing : (a : Moment) → Took [] [] a a
took_nothing a = record {
  run = [];
  in_turns = refl;
  of_threads = tt;
  each = tt;
  ends = refl;
  code = refl;
  threads = refl;
  objects = refl;
  answers = λ t l. sym (append-nil (answers_at a.answers t));
}

pub took_append : (turns taken more also : List Turn) (a b c : Moment) → Took turns taken a b → Took more also b c
    → Took (turns ++ more) (taken ++ also) a c
took_append turns taken more also a b c p q = record {
  run = p.run ++ q.run;
  in_turns = in_turns_of_append (machine a.flat) (tables a.flat) turns more p.run q.run p.in_turns
      (subst (λ s. InTurns (machine a.flat) s more q.run) p.ends (subst (λ k. InTurns (thread_machine k) (tables b.flat) more q.run) p.code q.in_turns));
  of_threads = all_of_append (λ (x : Turn). x.0 < length a.flat.threads) taken also p.of_threads
      (subst (λ n. AllByRecursion (λ (x : Turn). x.0 < n) also) p.threads q.of_threads);
  each = each_takes_append (machine a.flat) (tables a.flat) taken also p.run q.run p.each
      (subst (λ s. EachTakes (machine a.flat) s also q.run) p.ends (subst (λ k. EachTakes (thread_machine k) (tables b.flat) also q.run) p.code q.each));
  ends = q.ends ∙ ap (λ k. end (thread_machine k) (tables b.flat) q.run) p.code ∙ ap (λ s. end (machine a.flat) s q.run) p.ends
      ∙ sym (end_append (machine a.flat) (tables a.flat) p.run q.run);
  code = q.code ∙ p.code;
  threads = q.threads ∙ p.threads;
  objects = q.objects ∙ p.objects;
  answers = λ t l.
      let logs = log_append (machine a.flat) (tables a.flat) p.run q.run t
      ∙ ap (λ z. log (machine a.flat) (tables a.flat) p.run t ++ z) (sym (log_after_taken turns taken a b q.run t p)) in
      q.answers t (let same = p.threads in omega (arith, l, same))
      ∙ ap (λ z. z ++ answers_in (log (machine b.flat) (tables b.flat) q.run t)) (p.answers t l)
      ∙ append_assoc (answers_at a.answers t) (answers_in (log (machine a.flat) (tables a.flat) p.run t))
      (answers_in (log (machine b.flat) (tables b.flat) q.run t))
      ∙ ap (λ z. answers_at a.answers t ++ z)
      (sym (answers_in_append (log (machine a.flat) (tables a.flat) p.run t) (log (machine b.flat) (tables b.flat) q.run t)) ∙ ap answers_in (sym logs));
}

pub took_no_repeats : (t k : ℕ) (refused : Bool) (a : Moment) → HasNoStep a t → Took (replicate k (t, refused)) [] a a
took_no_repeats t k refused a none = record {
  run = [];
  in_turns = none_takes_repeats (machine a.flat) (tables a.flat) t k refused none;
  of_threads = tt;
  each = tt;
  ends = refl;
  code = refl;
  threads = refl;
  objects = refl;
  answers = λ u l. sym (append-nil (answers_at a.answers u));
}

-- so many private steps of thread t
pub took_private_steps : (t k : ℕ) (refused : Bool) (a b : Moment) → t < length a.flat.threads → WentAlone a.flat b.flat t k → b.answers ≡ a.answers
    → Took (replicate k (t, refused)) (replicate k (t, refused)) a b
took_private_steps t k refused a b l w same =
    let each = each_takes_private (machine a.flat) t k refused (tables a.flat) w.runs (λ j less. ap shared_ask (w.each j less)) in
    record {
      run = replicate k (t, 0);
      in_turns = in_turns_if_each (machine a.flat) (tables a.flat) (replicate k (t, refused)) (replicate k (t, 0)) each;
      of_threads = of_thread_repeated (length a.flat.threads) t k refused l;
      each = each;
      ends = w.ends;
      code = w.code;
      threads = w.threads;
      objects = w.objects;
      answers = λ u below. ap (λ z. answers_at z u) same ∙ sym (append-nil (answers_at a.answers u))
          ∙ ap (λ z. answers_at a.answers u ++ answers_in z) (sym (w.quiet u));
    }

-- more turns of one thread
pub took_more_repeats : (t j k n : ℕ) (refused : Bool) (a b c : Moment) → j + k ≡ n → Took (replicate j (t, refused)) (replicate j (t, refused)) a b
    → Took (replicate k (t, refused)) (replicate k (t, refused)) b c → Took (replicate n (t, refused)) (replicate n (t, refused)) a c
took_more_repeats t j k n refused a b c e p q = subst (λ turns. Took turns turns a c)
    (replicate-append-replicate j k (t, refused) ∙ ap (λ i. replicate i (t, refused)) e)
    (took_append (replicate j (t, refused)) (replicate j (t, refused)) (replicate k (t, refused)) (replicate k (t, refused)) a b c p q)

-- a thread that has no step still has none where nothing is changed
pub no_step_there : (turns : List Turn) (a b : Moment) (t : ℕ) → Took turns [] a b → HasNoStep a t → HasNoStep b t
no_step_there turns a b t p none = subst (λ s. HasNone (machine b.flat) s t) (sym (same p.run p.each p.ends))
    (subst (λ c. HasNone (thread_machine c) (tables a.flat) t) (sym p.code) none)
  where
    same : (run : List Step) → EachTakes (machine a.flat) (tables a.flat) [] run → tables b.flat ≡ end (machine a.flat) (tables a.flat) run
        → tables b.flat ≡ tables a.flat
    same [] each ends = ends
    same (e ∷ run) each ends = absurd each

-- ---- turns of one thread, until it has no step

-- a turn more, of a thread that had a step
pub turns_and_one_more : (t taken ran : ℕ) (refused moved : Bool) (a b m n : Moment) → moved ≡ true
    → Took (replicate taken (t, refused)) (replicate taken (t, refused)) a b → Took (replicate ran (t, refused)) (replicate ran (t, refused)) b m
    → IsTurn moved t refused m n → Took (replicate (taken + ran + 1) (t, refused)) (replicate (taken + ran + 1) (t, refused)) a n
turns_and_one_more t taken ran refused moved a b m n e p q turn = took_more_repeats t (taken + ran) 1 (taken + ran + 1) refused a m n refl
    (took_more_repeats t taken ran (taken + ran) refused a b m refl p q) (subst (λ z. IsTurn z t refused m n) e turn)

-- no turn more, of one that had none
pub turns_until_none : (t taken ran : ℕ) (refused moved : Bool) (a b m n : Moment) → moved ≡ false
    → Took (replicate taken (t, refused)) (replicate taken (t, refused)) a b → Took (replicate ran (t, refused)) (replicate ran (t, refused)) b m
    → IsTurn moved t refused m n → Took (replicate (taken + ran) (t, refused)) (replicate (taken + ran) (t, refused)) a n × HasNoStep n t
turns_until_none t taken ran refused moved a b m n e p q turn =
    let rest = subst (λ z. IsTurn z t refused m n) e turn in (
      subst (Took (replicate (taken + ran) (t, refused)) (replicate (taken + ran) (t, refused)) a) (sym rest.1)
          (took_more_repeats t taken ran (taken + ran) refused a b m refl p q),
      subst (λ z. HasNoStep z t) (sym rest.1) rest.0,
    )

-- more turns than the thread has steps for
took_trimmed : (t k count : ℕ) (refused : Bool) (a b : Moment) → k ≤ count → Took (replicate k (t, refused)) (replicate k (t, refused)) a b
    → (k ≡ count) ⊎ HasNoStep b t → Took (replicate count (t, refused)) (replicate k (t, refused)) a b
took_trimmed t k count refused a b l p (inl e) = subst (λ z. Took (replicate z (t, refused)) (replicate k (t, refused)) a b) e p
took_trimmed t k count refused a b l p (inr none) =
    let sum : k + (count - k) ≡ count = omega (arith, l) in
    subst (λ z. Took (replicate count (t, refused)) z a b) (append-nil (replicate k (t, refused)))
    (subst (λ z. Took z (replicate k (t, refused) ++ []) a b)
    (replicate-append-replicate k (count - k) (t, refused) ∙ ap (λ n. replicate n (t, refused)) sum)
    (took_append (replicate k (t, refused)) (replicate k (t, refused)) (replicate (count - k) (t, refused)) [] a b b p
    (took_no_repeats t (count - k) refused b none)))

-- which turns are noted makes no difference
took_whatever_noted : (turns taken noted : List Turn) (a b : Moment) → Took turns taken a b → Took turns taken a (record b { turns = noted })
took_whatever_noted turns taken noted a b p = record {
  run = p.run;
  in_turns = p.in_turns;
  of_threads = p.of_threads;
  each = p.each;
  ends = p.ends;
  code = p.code;
  threads = p.threads;
  objects = p.objects;
  answers = p.answers;
}

-- ---- turns that are noted

-- the turns of an item
pub followed_item : (t k count : ℕ) (refused : Bool) (a b : Moment) (noted : List Turn) → k ≤ count
    → Took (replicate k (t, refused)) (replicate k (t, refused)) a b → (k ≡ count) ⊎ HasNoStep b t → noted ≡ a.turns ++ replicate k (t, refused)
    → Followed (replicate count (t, refused)) a (record b { turns = noted })
followed_item t k count refused a b noted l p rest is = record {
  taken = replicate k (t, refused);
  took = took_whatever_noted (replicate count (t, refused)) (replicate k (t, refused)) noted a b (took_trimmed t k count refused a b l p rest);
  noted = is;
}

-- those of what is no thread
pub followed_no_thread : (t count : ℕ) (refused : Bool) (a : Moment) → length a.flat.threads ≤ t → Followed (replicate count (t, refused)) a a × HasNoStep a t
followed_no_thread t count refused a past =
    let none : HasNoStep a t = λ r can. subst (λ x. Admits (machine a.flat) (act_of (shared_ask (ask_of a.flat.code x)) r)
    ((tables a.flat).objects (target (act_of (shared_ask (ask_of a.flat.code x)) r)))) (get_or_past a.flat.threads t idle past) can in (
      record { taken = []; took = took_no_repeats t count refused a none; noted = sym (append-nil a.turns) },
      none,
    )

-- a thread that took none of its turns has no step
pub none_after_no_turn : (t k count : ℕ) (refused : Bool) (a b : Moment) → k ≡ 0 → 0 < count → (k ≡ count) ⊎ HasNoStep b t → HasNoStep b t
none_after_no_turn t k count refused a b e some (inl all) = absurd (omega (arith, e, some, all))
none_after_no_turn t k count refused a b e some (inr none) = none

pub none_stays_after_no_turn : (t k u : ℕ) (refused : Bool) (a b : Moment) → k ≡ 0 → Took (replicate k (t, refused)) (replicate k (t, refused)) a b
    → HasNoStep a u → HasNoStep b u
none_stays_after_no_turn t k u refused a b e p none = no_step_there [] a b u (subst (λ z. Took (replicate z (t, refused)) (replicate z (t, refused)) a b) e p) none

pub followed_nothing : (a : Moment) → Followed [] a a
followed_nothing a = record { taken = []; took = took_nothing a; noted = sym (append-nil a.turns) }

pub followed_append : (turns more : List Turn) (a b c : Moment) → Followed turns a b → Followed more b c → Followed (turns ++ more) a c
followed_append turns more a b c p q = record {
  taken = p.taken ++ q.taken;
  took = took_append turns p.taken more q.taken a b c p.took q.took;
  noted = q.noted ∙ ap (λ z. z ++ q.taken) p.noted ∙ append_assoc a.turns p.taken q.taken;
}

-- the next of these items
pub followed_next_item : (items : List Item) (at : ℕ) (d : Item) (a b c : Moment) → at < length items → Followed (turns_of_items (take at items)) a b
    → Followed (turns_of (get_or items at d)) b c → Followed (turns_of_items (take (at + 1) items)) a c
followed_next_item items at d a b c l p q = subst (λ z. Followed z a c)
    (sym (pushed_item_turns (take at items) (take (at + 1) items) (get_or items at d) (take_more items at d l)))
    (followed_append (turns_of_items (take at items)) (turns_of (get_or items at d)) a b c p q)

pub followed_all_items : (items : List Item) (at : ℕ) (a b : Moment) → length items ≤ at → Followed (turns_of_items (take at items)) a b
    → Followed (turns_of_items items) a b
followed_all_items items at a b past p = subst (λ z. Followed (turns_of_items z) a b) (take_all at items past) p

-- the next thread of a pass
pub followed_next_thread : (t endless : ℕ) (a b c : Moment) → Followed (turns_of_items (pass_of t endless)) a b → Followed (replicate endless (t, false)) b c
    → Followed (turns_of_items (pass_of (t + 1) endless)) a c
followed_next_thread t endless a b c p q = subst (λ n. Followed (turns_of_items (pass_of n endless)) a c) (let e : suc t ≡ t + 1 = omega arith in e)
    (subst (λ z. Followed z a c) (sym (pushed_item_turns (pass_of t endless) (pass_of (suc t) endless) (plain_item endless t) refl))
    (followed_append (turns_of_items (pass_of t endless)) (replicate endless (t, false)) a b c p q))

pub none_of_one_more : (t : ℕ) (b c : Moment) → ((u : ℕ) → u < t → HasNoStep b u) → ((u : ℕ) → HasNoStep b u → HasNoStep c u) → HasNoStep c t
    → (u : ℕ) → u < t + 1 → HasNoStep c u
none_of_one_more t b c lower still here u l = elim (cases_eq u t) [
  | inl e ↦ subst (HasNoStep c) (sym e) here
  | inr ne ↦ still u (lower u (omega (arith, l, ne)))
]

-- the next pass
pub followed_next_pass : (n endless count : ℕ) (a b c : Moment) → n ≡ length b.flat.threads → Followed (turns_of_items (passes_of n endless count)) a b
    → Followed (turns_of_items (pass_of (length b.flat.threads) endless)) b c → Followed (turns_of_items (passes_of n endless (suc count))) a c
followed_next_pass n endless count a b c same p q =
    let q2 = subst (λ k. Followed (turns_of_items (pass_of k endless)) b c) (sym same) q in
    subst (λ z. Followed z a c) (sym (turns_of_items_append (passes_of n endless count) (pass_of n endless)))
    (followed_append (turns_of_items (passes_of n endless count)) (turns_of_items (pass_of n endless)) a b c p q2)
