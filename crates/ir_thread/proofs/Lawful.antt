-- A thread enters in order, uses what it holds, and releases it after its end.
use Rattle.std.proofs.Common.{◌≡◌, ◌≢◌, ℕ, zero, suc, ◌<◌, List, length, get_or, set, Option, Some, None, refl, sym, ap, ◌∙◌, subst, inl}
use Rattle.std.proofs.Common.{inr, eqb, cond, eq-eqb, ne_eqb, get_or-set_same, get_or-set_other, arith}
use Rattle.std.proofs.lemmas.Bool.{cases_eq}
use Rattle.std.specs.Prelude.{option_map}
use Rattle.ir_thread.specs.Permitted.{Permits, held_count}
use Rattle.ir_thread.specs.State.{end_number, end_code, ThreadState, held_at, ask_of, held_after_try, after_ask, after_reply, shared_ask, reply_of, thread_machine}
use Rattle.ir_runs.specs.Machine.{Machine, act_of, upd}
use Rattle.ir_runs.specs.Lawful.{held_after, Holds, IsLawful, IsClosing}
use Rattle.ir_runs.specs.Machine as machine
use Rattle.ir_runs.specs.declared.access.Access.{Access}
use Rattle.ir_runs.specs.declared.access.Access.TheVariants.{Writing}
use Rattle.ir_thread.specs.declared.ask.Ask.{Ask}
use Rattle.ir_thread.specs.declared.ask.Ask.TheVariants.{Private, Env, Enter, Try, Leave, Get, Put, Print, End, Done}
use Rattle.ir_thread.specs.declared.ask.Reply.{Reply}
use Rattle.ir_thread.specs.declared.ask.Reply.TheVariants.{Value}
use Rattle.ir_thread.specs.declared.end.End as end
use Rattle.ir_thread.proofs.Asked.{ask_of_permitted}
use Rattle.ir_thread.proofs.Highest.{no_highest_holds_none, no_highest_count_zero, none_held_above, held_count_after_leave}

-- a write to the list is a change of the table
pub held_at_after_set : (held : List (Option Access)) (o : ℕ) (x : Option Access) (i : ℕ) → o < length held
    → held_at (set held o x) i ≡ upd (held_at held) o x i
unfolding upd
held_at_after_set held o x i l = elim (cases_eq i o) [
  | inl e ↦ subst (λ z. get_or (set held o x) z None ≡ cond (eqb z o) x (held_at held z)) (sym e)
      (get_or-set_same held o x None l ∙ sym (ap (λ b. cond b x (held_at held o)) (eq-eqb o o refl)))
  | inr ne ↦ get_or-set_other held o i x None ne ∙ sym (ap (λ b. cond b x (held_at held i)) (ne_eqb i o ne))
]

permitted_ask_holds : (s : ThreadState) (q : Ask) → Permits s q → Holds (shared_ask q) (held_at s.held)
permitted_ask_holds s Private p = tt
permitted_ask_holds s (Env kind) p = tt
permitted_ask_holds s (Enter object access) p = none_held_above s.held object p.3
permitted_ask_holds s (Try object) p = none_held_above s.held object p.3
permitted_ask_holds s (Leave object access) p = p.2
permitted_ask_holds s (Get object index) p = p.3
permitted_ask_holds s (Put object index value) p = p.3
permitted_ask_holds s Print p = tt
permitted_ask_holds s (End e) p = tt
permitted_ask_holds s Done p = no_highest_holds_none s.held p.1

-- any other value than 1 leaves what is held
pub other_answer_keeps_held : (held : List (Option Access)) (object value : ℕ) → held_after_try (Value (suc (suc value))) object held ≡ held
other_answer_keeps_held held object value = ap (λ b. cond b (set held object (Some Writing)) held) (ne_eqb (suc (suc value)) 1 (λ e. omega (arith, e)))

-- a try that is answered 1 enters, any other leaves what is held
held_after_try_is_act : (s : ThreadState) (object r i : ℕ) → object < length s.held
    → held_at (held_after_try (Value r) object s.held) i ≡ held_after (act_of (machine.Try object) r) (held_at s.held) i
held_after_try_is_act s object zero i l = refl
held_after_try_is_act s object (suc zero) i l = held_at_after_set s.held object (Some Writing) i l
held_after_try_is_act s object (suc (suc r)) i l = ap (λ held. held_at held i) (other_answer_keeps_held s.held object r)

held_after_ask_is_act : (code : List ℕ) (s : ThreadState) (r i : ℕ) (q : Ask) → Permits s q
    → held_at (after_ask code s q (reply_of q r)).held i ≡ held_after (act_of (shared_ask q) r) (held_at s.held) i
held_after_ask_is_act code s r i Private p = refl
held_after_ask_is_act code s r i (Env kind) p = refl
held_after_ask_is_act code s r i (Enter object access) p = held_at_after_set s.held object (Some access) i p.2
held_after_ask_is_act code s r i (Try object) p = held_after_try_is_act s object r i p.2
held_after_ask_is_act code s r i (Leave object access) p = held_at_after_set s.held object None i p.1
held_after_ask_is_act code s r i (Get object index) p = refl
held_after_ask_is_act code s r i (Put object index value) p = refl
held_after_ask_is_act code s r i Print p = refl
held_after_ask_is_act code s r i (End e) p = refl
held_after_ask_is_act code s r i Done p = refl

pub thread_machine_lawful : (code : List ℕ) → IsLawful (thread_machine code)
unfolding after_reply
thread_machine_lawful code = record {
  holds = λ s. permitted_ask_holds s (ask_of code s) (ask_of_permitted code s);
  takes = λ s r i. held_after_ask_is_act code s r i (ask_of code s) (ask_of_permitted code s);
}

-- the end's number and code, once there is one
abbrev pub end_number_and_code : Option end.End → Option (ℕ × ℕ)
end_number_and_code e = option_map (λ x. (end_number x, end_code x)) e

no_end_if_no_end_code : (e : Option end.End) → end_number_and_code e ≡ None → e ≡ None
no_end_if_no_end_code None h = refl
no_end_if_no_end_code (Some x) h = absurd (cc h)

end_code_if_end : (e : Option end.End) → e ≢ None → (p : ℕ × ℕ) × (end_number_and_code e ≡ Some p)
end_code_if_end None h = absurd (h refl)
end_code_if_end (Some x) h = ((end_number x, end_code x), refl)

end_if_end_code : (e : Option end.End) (p : ℕ × ℕ) → end_number_and_code e ≡ Some p → e ≢ None
end_if_end_code e p h none = cc (h, none)

ending_ask_is_private : (code : List ℕ) (s : ThreadState) (reply : Reply) (q : Ask) (p : ℕ × ℕ) → end_number_and_code s.ended ≡ None
    → end_number_and_code (after_ask code s q reply).ended ≡ Some p → (shared_ask q ≡ machine.Private)
    × (held_count (after_ask code s q reply).held ≡ held_count s.held)
ending_ask_is_private code s reply Private p h g = (refl, refl)
ending_ask_is_private code s reply (Env kind) p h g = absurd (end_if_end_code s.ended p g (no_end_if_no_end_code s.ended h))
ending_ask_is_private code s reply (Enter object access) p h g = absurd (end_if_end_code s.ended p g (no_end_if_no_end_code s.ended h))
ending_ask_is_private code s reply (Try object) p h g = absurd (end_if_end_code s.ended p g (no_end_if_no_end_code s.ended h))
ending_ask_is_private code s reply (Leave object access) p h g = absurd (end_if_end_code s.ended p g (no_end_if_no_end_code s.ended h))
ending_ask_is_private code s reply (Get object index) p h g = absurd (end_if_end_code s.ended p g (no_end_if_no_end_code s.ended h))
ending_ask_is_private code s reply (Put object index value) p h g = absurd (end_if_end_code s.ended p g (no_end_if_no_end_code s.ended h))
ending_ask_is_private code s reply Print p h g = (refl, refl)
ending_ask_is_private code s reply (End e) p h g = (refl, refl)
ending_ask_is_private code s reply Done p h g = absurd (end_if_end_code s.ended p g (no_end_if_no_end_code s.ended h))

ended_stays_ended : (code : List ℕ) (s : ThreadState) (reply : Reply) (q : Ask) (p : ℕ × ℕ) → Permits s q → end_number_and_code s.ended ≡ Some p
    → end_number_and_code (after_ask code s q reply).ended ≡ Some p
ended_stays_ended code s reply Private p k h = h
ended_stays_ended code s reply (Env kind) p k h = h
ended_stays_ended code s reply (Enter object access) p k h = h
ended_stays_ended code s reply (Try object) p k h = h
ended_stays_ended code s reply (Leave object access) p k h = h
ended_stays_ended code s reply (Get object index) p k h = h
ended_stays_ended code s reply (Put object index value) p k h = h
ended_stays_ended code s reply Print p k h = h
ended_stays_ended code s reply (End e) p k h = absurd (end_if_end_code s.ended p h k)
ended_stays_ended code s reply Done p k h = h

ended_asks_leave : (code : List ℕ) (s : ThreadState) (reply : Reply) (q : Ask) (p : ℕ × ℕ) → Permits s q → end_number_and_code s.ended ≡ Some p
    → shared_ask q ≢ machine.Done
    → (o : ℕ) × (a : Access) × (shared_ask q ≡ machine.Leave o a) × (held_count s.held ≡ suc (held_count (after_ask code s q reply).held))
ended_asks_leave code s reply Private p k h ne = absurd (end_if_end_code s.ended p h k.lives)
ended_asks_leave code s reply (Env kind) p k h ne = absurd (end_if_end_code s.ended p h k.0.lives)
ended_asks_leave code s reply (Enter object access) p k h ne = absurd (end_if_end_code s.ended p h k.0.lives)
ended_asks_leave code s reply (Try object) p k h ne = absurd (end_if_end_code s.ended p h k.0.lives)
ended_asks_leave code s reply (Leave object access) p k h ne = (object, access, refl, held_count_after_leave s.held object k.1 (λ none. cc (k.2, none)))
ended_asks_leave code s reply (Get object index) p k h ne = absurd (end_if_end_code s.ended p h k.0.lives)
ended_asks_leave code s reply (Put object index value) p k h ne = absurd (end_if_end_code s.ended p h k.0.lives)
ended_asks_leave code s reply Print p k h ne = absurd (end_if_end_code s.ended p h k.0.lives)
ended_asks_leave code s reply (End e) p k h ne = absurd (end_if_end_code s.ended p h k)
ended_asks_leave code s reply Done p k h ne = absurd (ne refl)

done_holds_nothing : (s : ThreadState) (q : Ask) → Permits s q → shared_ask q ≡ machine.Done → (p : ℕ × ℕ) × (end_number_and_code s.ended ≡ Some p)
    × (held_count s.held ≡ 0)
done_holds_nothing s Private k h = absurd (cc h)
done_holds_nothing s (Env kind) k h = absurd (cc h)
done_holds_nothing s (Enter object access) k h = absurd (cc h)
done_holds_nothing s (Try object) k h = absurd (cc h)
done_holds_nothing s (Leave object access) k h = absurd (cc h)
done_holds_nothing s (Get object index) k h = absurd (cc h)
done_holds_nothing s (Put object index value) k h = absurd (cc h)
done_holds_nothing s Print k h = absurd (cc h)
done_holds_nothing s (End e) k h = absurd (cc h)
done_holds_nothing s Done k h = let o = end_code_if_end s.ended k.0 in (o.0, o.1, no_highest_count_zero s.held k.1)

pub thread_machine_closing : (code : List ℕ) → IsClosing (thread_machine code)
unfolding after_reply
thread_machine_closing code = record {
  ends = λ s r p h g. ending_ask_is_private code s (reply_of (ask_of code s) r) (ask_of code s) p h g;
  stays = λ s r p h. ended_stays_ended code s (reply_of (ask_of code s) r) (ask_of code s) p (ask_of_permitted code s) h;
  leaves = λ s r p h ne. ended_asks_leave code s (reply_of (ask_of code s) r) (ask_of code s) p (ask_of_permitted code s) h ne;
  done = λ s h. done_holds_nothing s (ask_of code s) (ask_of_permitted code s) h;
}
