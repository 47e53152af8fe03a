-- Two steps of different threads commute, but for entries to one object of which one is for writing.
use Rattle.std.proofs.Common.{◌≡◌, ◌≢◌, ℕ, Option, Some, None, refl, sym, arith}
use Rattle.std.proofs.Math.Path.{fun_ext}
use Rattle.std.proofs.lemmas.Bool.Decides.{nat_tests}
use Rattle.ir_runs.specs.Machine.{Act, Silent, Replied, Entered, TryFailed, Left, Got, Stored, Never, Machine, upd, Object, Admits, acted, reply, emitted}
use Rattle.ir_runs.specs.declared.access.Access.{Access}
use Rattle.ir_runs.specs.declared.access.Access.TheVariants.{Reading, Writing}
use Rattle.ir_runs.proofs.Good.{Exclusive, InsideForAct}

pub upd_upd_other : {A : Type 0} (f : ℕ → A) (i j : ℕ) (v w : A) → i ≢ j → upd (upd f i v) j w ≡ upd (upd f j w) i v
unfolding upd
upd_upd_other f i j v w ne = fun_ext (λ k. grind (arith, nat_tests))

pub upd_twice_is_last_upd : {A : Type 0} (f : ℕ → A) (i : ℕ) (v w : A) → upd (upd f i v) i w ≡ upd f i w
unfolding upd
upd_twice_is_last_upd f i v w = fun_ext (λ k. grind (arith, nat_tests))

-- the two asks can't both be met: both enter, and one for writing
abbrev pub Clash : Act → Act → Type 0
Clash (Entered o Writing ans) (Entered p a ans') = Unit {0}
Clash (Entered o Reading ans) (Entered p Writing ans') = Unit {0}
Clash (Entered o Reading ans) (Entered p Reading ans') = ⊥
Clash (Entered o a ans) _ = ⊥
Clash _ _ = ⊥

abbrev pub IsEntry : Act → Type 0
IsEntry (Entered o a ans) = Unit {0}
IsEntry _ = ⊥

-- The step of u, which asks q, is what it was once f changed the object, and the order makes no difference.
pub record Commutes {T : Type 0} (m : Machine T) (b : Object) (f : Object → Object) (u : ℕ) (q : Act) : Type 0 where
  pub admits : Admits m q (f b)
  pub emitted_same : emitted q (f b) ≡ emitted q b
  pub reply_same : reply q (f b) ≡ reply q b
  pub order : acted q u (f b) ≡ f (acted q u b)

-- one that changes nothing
act_commutes_with_id : {T : Type 0} (m : Machine T) (b : Object) (u : ℕ) (q : Act) → Admits m q b → Commutes m b (λ c. c) u q
act_commutes_with_id m b u q h = record { admits = h; emitted_same = refl; reply_same = refl; order = refl }

-- beside one that is alone inside there are only asks about nothing
act_commutes_outside : {T : Type 0} (m : Machine T) (b : Object) (f : Object → Object) (u : ℕ) (q : Act) → b.inside u ≡ None → InsideForAct q (b.inside u)
    → Admits m q b → (IsEntry q → ⊥) → Commutes m b f u q
act_commutes_outside m b f u Silent none i h free = record { admits = tt; emitted_same = refl; reply_same = refl; order = refl }
act_commutes_outside m b f u (TryFailed _) none i h free = record { admits = tt; emitted_same = refl; reply_same = refl; order = refl }
act_commutes_outside m b f u (Replied k res) none i h free = record { admits = h; emitted_same = refl; reply_same = refl; order = refl }
act_commutes_outside m b f u (Entered o a ans) none i h free = absurd (free tt)
act_commutes_outside m b f u (Left o a) none i h free = absurd (cc (none, i))
act_commutes_outside m b f u (Got o j) none i h free = absurd (i none)
act_commutes_outside m b f u (Stored o j w) none i h free = absurd (cc (none, i))
act_commutes_outside m b f u Never none i h free = absurd h

-- no entry is admitted while another writes
no_entry_beside_writer : {T : Type 0} (m : Machine T) (b : Object) (t : ℕ) (q : Act) → b.inside t ≡ Some Writing → Admits m q b → IsEntry q → ⊥
no_entry_beside_writer m b t (Entered o Reading ans) w h _ = h t w
no_entry_beside_writer m b t (Entered o Writing ans) w h _ = cc (w, h t)
no_entry_beside_writer m b t Silent w h e = e
no_entry_beside_writer m b t (TryFailed _) w h e = e
no_entry_beside_writer m b t (Replied k res) w h e = e
no_entry_beside_writer m b t (Left o a) w h e = e
no_entry_beside_writer m b t (Got o j) w h e = e
no_entry_beside_writer m b t (Stored o j v) w h e = e
no_entry_beside_writer m b t Never w h e = e

pub objects_equal_by_parts : (b c : Object) → b.version ≡ c.version → b.left ≡ c.left → b.inside ≡ c.inside → b.words ≡ c.words → b ≡ c
objects_equal_by_parts b c p q r s = λ i. record { version = p i; left = q i; inside = r i; words = s i }

reading_is_not_writing : {x : Option Access} → x ≡ Some Reading → x ≡ Some Writing → ⊥
reading_is_not_writing p q = cc

no_writer_after_read : (b : Object) (t : ℕ) → ((u : ℕ) → b.inside u ≢ Some Writing) → (u : ℕ) → upd b.inside t (Some Reading) u ≢ Some Writing
unfolding upd
no_writer_after_read b t h u = grind (arith, nat_tests, h u)

no_writer_after_leave : (b : Object) (t : ℕ) → ((u : ℕ) → b.inside u ≢ Some Writing) → (u : ℕ) → upd b.inside t None u ≢ Some Writing
unfolding upd
no_writer_after_leave b t h u = grind (arith, nat_tests, h u)

pub acts_commute : {T : Type 0} (m : Machine T) (b : Object) (ex : Exclusive b) (t u : ℕ) → t ≢ u → (q q' : Act) → InsideForAct q (b.inside t)
    → InsideForAct q' (b.inside u) → Admits m q b → Admits m q' b → (Clash q q' → ⊥) → Commutes m b (acted q t) u q'
acts_commute m b ex t u ne Silent q' i i' h h' free = act_commutes_with_id m b u q' h'
acts_commute m b ex t u ne (TryFailed _) q' i i' h h' free = act_commutes_with_id m b u q' h'
acts_commute m b ex t u ne (Replied k res) q' i i' h h' free = act_commutes_with_id m b u q' h'
acts_commute m b ex t u ne (Got o j) q' i i' h h' free = act_commutes_with_id m b u q' h'
acts_commute m b ex t u ne Never q' i i' h h' free = absurd h
acts_commute m b ex t u ne (Stored o j w) q' i i' h h' free = act_commutes_outside m b (acted (Stored o j w) t) u q' (ex t u ne i) i' h' (no_entry_beside_writer m b t q' i h')
acts_commute m b ex t u ne (Left o Writing) q' i i' h h' free =
    act_commutes_outside m b (acted (Left o Writing) t) u q' (ex t u ne i) i' h' (no_entry_beside_writer m b t q' i h')
acts_commute m b ex t u ne (Entered o Writing ans) q' i i' h h' free =
    act_commutes_outside m b (acted (Entered o Writing ans) t) u q' (h u) i' h' (entry_clash q' free)
  where
    entry_clash : (q' : Act) → (Clash (Entered o Writing ans) q' → ⊥) → IsEntry q' → ⊥
    entry_clash (Entered p a ans') free e = free tt
    entry_clash Silent free e = e
    entry_clash (TryFailed _) free e = e
    entry_clash (Replied k res) free e = e
    entry_clash (Left o a) free e = e
    entry_clash (Got o j) free e = e
    entry_clash (Stored o j v) free e = e
    entry_clash Never free e = e
acts_commute m b ex t u ne (Entered o Reading ans) q' i i' h h' free = enter_read q' i' h' free
  where
    enter_read : (q' : Act) → InsideForAct q' (b.inside u) → Admits m q' b → (Clash (Entered o Reading ans) q' → ⊥)
        → Commutes m b (acted (Entered o Reading ans) t) u q'
    enter_read Silent i' h' free = record { admits = tt; emitted_same = refl; reply_same = refl; order = refl }
    enter_read (TryFailed _) i' h' free = record { admits = tt; emitted_same = refl; reply_same = refl; order = refl }
    enter_read (Replied k res) i' h' free = record { admits = h'; emitted_same = refl; reply_same = refl; order = refl }
    enter_read (Entered p Reading ans') i' h' free =
        record {
          admits = no_writer_after_read b t h';
          emitted_same = refl;
          reply_same = refl;
          order =
              objects_equal_by_parts _ _ refl refl (upd_upd_other b.inside t u _ _ ne) refl;
        }
    enter_read (Entered p Writing ans') i' h' free = absurd (free tt)
    enter_read (Left p Reading) i' h' free = record {
      admits = tt;
      emitted_same = refl;
      reply_same = refl;
      order =
          objects_equal_by_parts _ _ refl refl (upd_upd_other b.inside t u _ _ ne) refl;
    }
    enter_read (Left p Writing) i' h' free = absurd (h u i')
    enter_read (Got p j) i' h' free = record { admits = tt; emitted_same = refl; reply_same = refl; order = refl }
    enter_read (Stored p j w) i' h' free = absurd (h u i')
    enter_read Never i' h' free = absurd h'
acts_commute m b ex t u ne (Left o Reading) q' i i' h h' free = leave_read q' i' h'
  where
    leave_read : (q' : Act) → InsideForAct q' (b.inside u) → Admits m q' b → Commutes m b (acted (Left o Reading) t) u q'
    leave_read Silent i' h' = record { admits = tt; emitted_same = refl; reply_same = refl; order = refl }
    leave_read (TryFailed _) i' h' = record { admits = tt; emitted_same = refl; reply_same = refl; order = refl }
    leave_read (Replied k res) i' h' = record { admits = h'; emitted_same = refl; reply_same = refl; order = refl }
    leave_read (Entered p Reading ans') i' h' = record {
      admits = no_writer_after_leave b t h';
      emitted_same = refl;
      reply_same = refl;
      order =
          objects_equal_by_parts _ _ refl refl (upd_upd_other b.inside t u _ _ ne) refl;
    }
    leave_read (Entered p Writing ans') i' h' = absurd (cc (i, h' t))
    leave_read (Left p Reading) i' h' = record {
      admits = tt;
      emitted_same = refl;
      reply_same = refl;
      order =
          objects_equal_by_parts _ _ refl refl (upd_upd_other b.inside t u _ _ ne) refl;
    }
    leave_read (Left p Writing) i' h' = absurd (cc (ex u t (λ e. ne (sym e)) i', i))
    leave_read (Got p j) i' h' = record { admits = tt; emitted_same = refl; reply_same = refl; order = refl }
    leave_read (Stored p j w) i' h' = absurd (cc (ex u t (λ e. ne (sym e)) i', i))
    leave_read Never i' h' = absurd h'
