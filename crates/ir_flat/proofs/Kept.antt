-- Each step keeps what is kept.
use Rattle.std.proofs.Common.{◌≡◌, ◌≢◌, ℕ, zero, suc, ◌+◌, ◌*◌, ◌<◌, ◌≤◌, List, length, length-set, Option, Some, None, refl, sym, le_refl, ap, ◌∙◌, arith, inl, inr}
use Rattle.std.proofs.lemmas.Bool.{cases_eq}
use Rattle.ir_thread.specs.Permitted.{Permits}
use Rattle.ir_thread.specs.State.{held_at, ask_of, held_after_try, after_ask, after_reply, most_events, shared_ask, reply_of, thread_machine}
use Rattle.ir_runs.specs.Machine.{act_of, upd, Object, target, Admits, acted, reply}
use Rattle.ir_thread.specs.State as thread
use Rattle.ir_runs.specs.declared.access.Access.{Access}
use Rattle.ir_runs.specs.declared.access.Access.TheVariants.{Reading, Writing}
use Rattle.ir_thread.specs.declared.ask.Ask.{Ask}
use Rattle.ir_thread.specs.declared.ask.Ask.TheVariants.{Private, Env, Enter, Try, Leave, Get, Put, Print, End, Done}
use Rattle.ir_thread.specs.declared.ask.Reply.{Reply}
use Rattle.ir_thread.specs.declared.ask.Reply.TheVariants.{Go, Value}
use Rattle.ir_thread.proofs.CallerLemmas.{ask_of_permitted, thread_machine_lawful, none_held_above, other_answer_keeps_held}
use Rattle.ir_object.specs.Cell.{has_writer, one_if_reading, is_writing}
use Rattle.ir_object.specs.Word.{bit_of}
use Rattle.ir_runs.proofs.CallerLemmas.{upd_at_own_place, upd_at_other_place, upd_by_cases, StateInvariant, state_invariant_step}
use Rattle.ir_object.proofs.CallerLemmas.{readers_by_old_and_new, none_writes_no_writer, has_writer_if_writer, has_writer_unchanged}
use Rattle.ir_flat.specs.Flat.{IsKept, events_below}
use Rattle.ir_flat.specs.Room.{entries_seen}
use Rattle.ir_runs.specs.Run.{State, Step, act, Can, after}

-- how many events a step adds
abbrev pub events_added_by : Ask → ℕ
events_added_by (Env kind) = 1
events_added_by (Enter object access) = 1
events_added_by (Try object) = 1
events_added_by _ = 0

pub events_after_ask : (code : List ℕ) (x : thread.ThreadState) (q : Ask) (r : Reply) → (after_ask code x q r).events ≡ x.events + events_added_by q
events_after_ask code x Private r = omega arith
events_after_ask code x (Env kind) r = refl
events_after_ask code x (Enter object access) r = refl
events_after_ask code x (Try object) r = refl
events_after_ask code x (Leave object access) r = omega arith
events_after_ask code x (Get object index) r = omega arith
events_after_ask code x (Put object index value) r = omega arith
events_after_ask code x Print r = omega arith
events_after_ask code x (End e) r = omega arith
events_after_ask code x Done r = omega arith

pub ask_events_within_most : (x : thread.ThreadState) (q : Ask) → Permits x q → x.events ≤ most_events → x.events + events_added_by q ≤ most_events
ask_events_within_most x Private p h = omega arith
ask_events_within_most x (Env kind) p h = omega (arith, p.1)
ask_events_within_most x (Enter object access) p h = omega (arith, p.1)
ask_events_within_most x (Try object) p h = omega (arith, p.1)
ask_events_within_most x (Leave object access) p h = omega arith
ask_events_within_most x (Get object index) p h = omega arith
ask_events_within_most x (Put object index value) p h = omega arith
ask_events_within_most x Print p h = omega arith
ask_events_within_most x (End e) p h = omega arith
ask_events_within_most x Done p h = omega arith

length-held_after_try : (held : List (Option Access)) (o v : ℕ) → length (held_after_try (Value v) o held) ≡ length held
length-held_after_try held o zero = refl
length-held_after_try held o (suc zero) = length-set held o (Some Writing)
length-held_after_try held o (suc (suc v)) = ap (λ (h : List (Option Access)). length h) (other_answer_keeps_held held o v)

pub length-held_after_ask : (code : List ℕ) (x : thread.ThreadState) (q : Ask) (r : Reply) → length (after_ask code x q r).held ≡ length x.held
length-held_after_ask code x Private r = refl
length-held_after_ask code x (Env kind) r = refl
length-held_after_ask code x (Enter object access) r = length-set x.held object (Some access)
length-held_after_ask code x (Try object) Go = refl
length-held_after_ask code x (Try object) (Value v) = length-held_after_try x.held object v
length-held_after_ask code x (Leave object access) r = length-set x.held object None
length-held_after_ask code x (Get object index) r = refl
length-held_after_ask code x (Put object index value) r = refl
length-held_after_ask code x Print r = refl
length-held_after_ask code x (End e) r = refl
length-held_after_ask code x Done r = refl

events_below_later_upd : (n : ℕ) (now : ℕ → thread.ThreadState) (t : ℕ) (y : thread.ThreadState) → n ≤ t → events_below n (upd now t y) ≡ events_below n now
events_below_later_upd zero now t y l = refl
events_below_later_upd (suc n) now t y l =
    let here : (upd now t y n).events ≡ (now n).events = ap (λ z. z.events) (upd_at_other_place now t n y (λ e. omega (arith, e, l))) in
    let rest = events_below_later_upd n now t y (omega arith) in
    omega (arith, here, rest)

pub events_below_upd : (n : ℕ) (now : ℕ → thread.ThreadState) (t : ℕ) (y : thread.ThreadState) → t < n
    → events_below n (upd now t y) + (now t).events ≡ events_below n now + y.events
events_below_upd zero now t y l = absurd (omega arith)
events_below_upd (suc n) now t y l = elim (cases_eq n t) [
  | inl e ↦
      let here : (upd now t y n).events ≡ y.events = ap (λ z. z.events) (ap (upd now t y) e ∙ upd_at_own_place now t y) in
      let was : (now n).events ≡ (now t).events = ap (λ z. (now z).events) e in
      let rest = events_below_later_upd n now t y (omega (arith, e)) in
      omega (arith, here, was, rest)
  | inr ne ↦
      let here : (upd now t y n).events ≡ (now n).events = ap (λ z. z.events) (upd_at_other_place now t n y ne) in
      let rest = events_below_upd n now t y (omega (arith, ne, l)) in
      omega (arith, here, rest)
]

pub events_below_within : (n : ℕ) (now : ℕ → thread.ThreadState) → ((t : ℕ) → t < n → (now t).events ≤ most_events) → events_below n now ≤ n * most_events
events_below_within zero now h = omega arith
events_below_within (suc n) now h = let rest = events_below_within n now (λ t l. h t (omega arith)) in let here = h n (omega arith) in
    omega (arith, rest, here)

-- a writer's entry is one more
entries_seen_write : (n : ℕ) (b : Object) (t : ℕ) → t < n → b.inside t ≡ None
    → entries_seen n (record b { inside = upd b.inside t (Some Writing) }) ≤ entries_seen n b + 1
entries_seen_write n b t l none =
    let sums = readers_by_old_and_new n b.inside t (Some Writing) l in
    let was : one_if_reading (b.inside t) ≡ 0 = ap one_if_reading none in
    let now : bit_of (has_writer n (upd b.inside t (Some Writing))) ≡ 1 =
    ap bit_of (has_writer_if_writer n (upd b.inside t (Some Writing)) t l (upd_at_own_place b.inside t (Some Writing))) in
    omega (arith, sums, was, now)

-- the entries that an object has seen grow by those that are logged
pub entries_seen_grow : (code : List ℕ) (n : ℕ) (x : thread.ThreadState) (r : ℕ) (b : Object) (t : ℕ) (q : Ask) → t < n → Permits x q
    → b.inside t ≡ held_at x.held (target (act_of (shared_ask q) r))
    → ((u v : ℕ) → u ≢ v → b.inside u ≡ Some Writing → b.inside v ≡ None)
    → Admits (thread_machine code) (act_of (shared_ask q) r) b
    → entries_seen n (acted (act_of (shared_ask q) r) t b) ≤ entries_seen n b + events_added_by q
entries_seen_grow code n x r b t Private l p link ex can = omega arith
entries_seen_grow code n x r b t (Env kind) l p link ex can = omega arith
entries_seen_grow code n x r b t (Get object index) l p link ex can = omega arith
entries_seen_grow code n x r b t (Put object index value) l p link ex can = omega arith
entries_seen_grow code n x r b t Print l p link ex can = omega arith
entries_seen_grow code n x r b t (End e) l p link ex can = omega arith
entries_seen_grow code n x r b t Done l p link ex can = absurd can
entries_seen_grow code n x r b t (Enter object Reading) l p link ex can =
    let none : b.inside t ≡ None = link ∙ none_held_above x.held object p.3 object (le_refl object) in
    let sums = readers_by_old_and_new n b.inside t (Some Reading) l in
    let was : one_if_reading (b.inside t) ≡ 0 = ap one_if_reading none in
    let same : bit_of (has_writer n (upd b.inside t (Some Reading))) ≡ bit_of (has_writer n b.inside) =
    ap bit_of (has_writer_unchanged n b.inside t (Some Reading) (sym (ap is_writing none))) in
    omega (arith, sums, was, same)
entries_seen_grow code n x r b t (Enter object Writing) l p link ex can =
    entries_seen_write n b t l (link ∙ none_held_above x.held object p.3 object (le_refl object))
entries_seen_grow code n x zero b t (Try object) l p link ex can = omega arith
entries_seen_grow code n x (suc zero) b t (Try object) l p link ex can =
    entries_seen_write n b t l (link ∙ none_held_above x.held object p.3 object (le_refl object))
entries_seen_grow code n x (suc (suc r)) b t (Try object) l p link ex can = absurd can
entries_seen_grow code n x r b t (Leave object Reading) l p link ex can =
    let is : b.inside t ≡ Some Reading = link ∙ p.2 in
    let sums = readers_by_old_and_new n b.inside t None l in
    let was : one_if_reading (b.inside t) ≡ 1 = ap one_if_reading is in
    let same : bit_of (has_writer n (upd b.inside t None)) ≡ bit_of (has_writer n b.inside) =
    ap bit_of (has_writer_unchanged n b.inside t None (sym (ap is_writing is))) in
    omega (arith, sums, was, same)
entries_seen_grow code n x r b t (Leave object Writing) l p link ex can =
    let is : b.inside t ≡ Some Writing = link ∙ p.2 in
    let sums = readers_by_old_and_new n b.inside t None l in
    let was : one_if_reading (b.inside t) ≡ 0 = ap one_if_reading is in
    let had : bit_of (has_writer n b.inside) ≡ 1 = ap bit_of (has_writer_if_writer n b.inside t l is) in
    let has : bit_of (has_writer n (upd b.inside t None)) ≡ 0 =
    ap bit_of (none_writes_no_writer n (upd b.inside t None) (λ u _ h. cc (nobody is u, h))) in
    omega (arith, sums, was, had, has)
  where
    nobody : b.inside t ≡ Some Writing → (u : ℕ) → upd b.inside t None u ≡ None
    nobody is u = upd_by_cases b.inside t None u (λ y. y ≡ None) (λ _. refl) (λ ne. ex t u (λ e. ne (sym e)) is)

pub kept_state_invariant : (code : List ℕ) (n : ℕ) (s : State thread.ThreadState) → IsKept n s → StateInvariant (thread_machine code) s
kept_state_invariant code n s k = record { linked = k.linked; exclusive = k.exclusive }

pub kept_after_step : (code : List ℕ) (n : ℕ) (s : State thread.ThreadState) (e : Step) → e.0 < n → IsKept n s → Can (thread_machine code) s e
    → IsKept n (after (thread_machine code) s e)
unfolding after after_reply
kept_after_step code n s e l k can =
    let m = thread_machine code in
    let t : ℕ = e.0 in
    let x : thread.ThreadState = s.now t in
    let q : Ask = ask_of code x in
    let o : ℕ = target (act m s e) in
    let b : Object = s.objects o in
    let y : thread.ThreadState = after_ask code x q (reply_of q (reply (act m s e) b)) in
    let good = state_invariant_step m (thread_machine_lawful code) s (kept_state_invariant code n s k) e can in
    let one : y.events ≡ x.events + events_added_by q = events_after_ask code x q (reply_of q (reply (act m s e) b)) in
    let sums : events_below n (upd s.now t y) + x.events ≡ events_below n s.now + y.events = events_below_upd n s.now t y l in
    let seen : entries_seen n (acted (act m s e) t b) ≤ entries_seen n b + events_added_by q =
    entries_seen_grow code n x e.1 b t q l (ask_of_permitted code x) (k.linked t o) (k.exclusive o) can in
    let more : events_below n (upd s.now t y) ≡ events_below n s.now + events_added_by q = omega (arith, one, sums) in
    record {
      linked = good.linked;
      exclusive = good.exclusive;
      others = λ u i h. good.linked u i ∙ ap (λ z. held_at z.held i) (upd_at_other_place s.now t u y (λ p. omega (arith, p, h, l)))
          ∙ sym (k.linked u i) ∙ k.others u i h;
      logged = λ i. upd_by_cases s.objects o (acted (act m s e) t b) i (λ z. entries_seen n z ≤ events_below n (upd s.now t y))
          (λ _. let was = k.logged o in omega (arith, seen, was, more))
          (λ _. let was = k.logged i in omega (arith, was, more));
      events = λ u h. upd_by_cases s.now t y u (λ z. z.events ≤ most_events)
          (λ _. let room = ask_events_within_most x q (ask_of_permitted code x) (k.events t l) in omega (arith, one, room))
          (λ _. k.events u h);
    }
