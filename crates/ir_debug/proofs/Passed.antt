-- What is known of what a command names that isn't refused.
use Rattle.std.proofs.Common.{◌≡◌, ◌<◌, ◌≤◌, ◌&&◌, ◌+◌, ◌*◌, ◌%◌, ◌==◌, ℕ, Bool, true, false, length, Option, Some, None, refl, sym, ap, ◌∙◌, arith}
use Rattle.std.specs.Prelude.{◌||◌, ◌^◌, not, nat_lt, nat_le, is_some, if◌then◌else◌}
use Rattle.std.proofs.lemmas.Bool.{ltb-true, leb-true}
use Rattle.std.proofs.lemmas.Bool.Decides.{nat_tests}
use Rattle.ir_lemmas.proofs.CallerLemmas.{left_of_true_and, right_of_true_and}
use Rattle.ir_image.specs.Guest.{Guest, code_start, memory_start, object_count}
use Rattle.ir_mach.specs.Core.{memory_size}
use Rattle.ir_mach.specs.Execution.{lies_in_memory}
use Rattle.ir_mach.specs.Within.{IsMemoryWord}
use Rattle.ir_command.specs.declared.command.Command.{Command}
use Rattle.ir_command.specs.declared.refusal.Refusal.TheVariants.{NoSuchThread, NoSuchObject, NoSuchNumber, BadAddress, Full}
use Rattle.ir_command.specs.declared.command.Command.TheVariants as command
use Rattle.ir_command.specs.declared.command.Keeping.TheVariants.{Keep, Load}
use Rattle.ir_command.specs.declared.command.Point.{Point}
use Rattle.ir_command.specs.declared.command.Point.TheVariants.{Break, Watch, WatchObject}
use Rattle.ir_hits.specs.Watchable.{IsWatchable}
use Rattle.ir_cut.specs.Positions.{threads_of}
use Rattle.ir_debug.specs.Machine.{Desk, kept_cut, most_kept, most_points, if_some, thread_named, object_named, lies_in_code, has_number, has_address, has_place, refusal_of}
use Rattle.ir_debug.specs.Debugging.{most_number}

-- the tests
pub record PassesTests (d : Desk) (c : Command) : Type 0 where
  pub thread : if_some (thread_named c) (λ t. nat_lt t (threads_of d.fitted)) ≡ true
  pub object : if_some (object_named c) (λ o. nat_lt o (object_count d.fitted.guest)) ≡ true
  pub number : has_number d c ≡ true
  pub address : has_address d.fitted.guest c ≡ true
  pub place : has_place d c ≡ true

not_refused_tests : (a b n c p : Bool)
    → (if not a then Some NoSuchThread else if not b then Some NoSuchObject else if not n then Some NoSuchNumber else
    if not c then Some BadAddress else if not p then Some Full else None) ≡ None
    → (a ≡ true) × (b ≡ true) × (n ≡ true) × (c ≡ true) × (p ≡ true)
not_refused_tests true true true true true e = (refl, refl, refl, refl, refl)
not_refused_tests true true true true false e = absurd cc
not_refused_tests true true true false p e = absurd cc
not_refused_tests true true false c p e = absurd cc
not_refused_tests true false n c p e = absurd cc
not_refused_tests false b n c p e = absurd cc

pub permitted_passes_tests : (d : Desk) (c : Command) → refusal_of d c ≡ None → PassesTests d c
unfolding refusal_of
permitted_passes_tests d c none =
    let t = not_refused_tests (if_some (thread_named c) (λ t. nat_lt t (threads_of d.fitted)))
    (if_some (object_named c) (λ o. nat_lt o (object_count d.fitted.guest))) (has_number d c) (has_address d.fitted.guest c)
    (has_place d c) none in
    record { thread = t.0; object = t.1; number = t.2; address = t.3; place = t.4 }

named_number_below : (n : ℕ) (named : Option ℕ) (x : ℕ) → if_some named (λ y. nat_lt y n) ≡ true → named ≡ Some x → x < n
named_number_below n (Some y) x test is = ltb-true x n (ap (λ z. if_some z (λ w. nat_lt w n)) (sym is) ∙ test)
named_number_below n None x test is = absurd cc

-- the thread is one of the guest's
pub named_thread_exists : (d : Desk) (c : Command) (t : ℕ) → refusal_of d c ≡ None → thread_named c ≡ Some t → t < threads_of d.fitted
named_thread_exists d c t none is = named_number_below (threads_of d.fitted) (thread_named c) t (permitted_passes_tests d c none).thread is

-- the object too
pub named_object_exists : (d : Desk) (c : Command) (o : ℕ) → refusal_of d c ≡ None → object_named c ≡ Some o → o < object_count d.fitted.guest
named_object_exists d c o none is = named_number_below (object_count d.fitted.guest) (object_named c) o (permitted_passes_tests d c none).object is

by_either_disjunct : (a b : Bool) (P : Type 0) → (a ≡ true → P) → (b ≡ true → P) → a || b ≡ true → P
by_either_disjunct true b P p q e = p refl
by_either_disjunct false b P p q e = q e

-- the addresses of code and private memory are low
pub guest_address_bound : (g : Guest) (size address : ℕ) → length g.code ≤ 16384
    → lies_in_code g size address || lies_in_memory size address ≡ true → address ≤ 2 ^ 31
guest_address_bound g size address short =
    by_either_disjunct (lies_in_code g size address) (lies_in_memory size address) (address ≤ 2 ^ 31)
    (λ e. let le = leb-true (address + size) (code_start + 4 * length g.code)
    (right_of_true_and (nat_le code_start address) (nat_le (address + size) (code_start + 4 * length g.code)) e) in
    omega (arith, le, short))
    (λ e. let le = leb-true (address + size) (memory_start + memory_size)
    (right_of_true_and (nat_le memory_start address) (nat_le (address + size) (memory_start + memory_size)) e) in
    omega (arith, le))

-- ---- kept cuts

pub permitted_load_is_kept : (d : Desk) (n : ℕ) → refusal_of d (command.Keeping (Load n)) ≡ None → is_some (kept_cut d.kept n) ≡ true
permitted_load_is_kept d n none = (permitted_passes_tests d (command.Keeping (Load n)) none).number

and_below_parts : (i m j n : ℕ) → nat_lt i m && nat_lt j n ≡ true → (i < m) × (j < n)
and_below_parts i m j n e = (ltb-true i m (left_of_true_and (nat_lt i m) (nat_lt j n) e), ltb-true j n (right_of_true_and (nat_lt i m) (nat_lt j n) e))

-- there is place for one more, and a number
pub permitted_keep_has_room : (d : Desk) → refusal_of d (command.Keeping Keep) ≡ None → (length d.kept < most_kept + 1) × (d.last_kept < most_number)
permitted_keep_has_room d none = and_below_parts _ _ _ _ (permitted_passes_tests d (command.Keeping Keep) none).place

-- ---- points

pub permitted_set_has_room : (d : Desk) (p : Point) → refusal_of d (command.Set p) ≡ None → (length d.points < most_points) × (d.last_point < most_number)
permitted_set_has_room d p none = and_below_parts _ _ _ _ (permitted_passes_tests d (command.Set p) none).place

aligned_is_memory_word : (address : ℕ) → (address % 4 == 0) && lies_in_memory 4 address ≡ true → IsMemoryWord address
aligned_is_memory_word address test =
    let whole = left_of_true_and (address % 4 == 0) (lies_in_memory 4 address) test in
    let inside = right_of_true_and (address % 4 == 0) (lies_in_memory 4 address) test in
    let low = leb-true memory_start address
    (left_of_true_and (nat_le memory_start address) (nat_le (address + 4) (memory_start + memory_size)) inside) in
    let high = leb-true (address + 4) (memory_start + memory_size)
    (right_of_true_and (nat_le memory_start address) (nat_le (address + 4) (memory_start + memory_size)) inside) in
    record { aligned = grind (arith, nat_tests, whole); low = low; high = omega (arith, high) }

-- the word that it watches is one of private memory
pub permitted_is_watchable : (d : Desk) (p : Point) → refusal_of d (command.Set p) ≡ None → IsWatchable p
permitted_is_watchable d (Break t address) none = tt
permitted_is_watchable d (Watch t address) none = λ low. aligned_is_memory_word address (permitted_passes_tests d (command.Set (Watch t address)) none).address
permitted_is_watchable d (WatchObject object) none = tt
