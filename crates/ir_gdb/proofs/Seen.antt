-- Bytes of the objects in hand.
use Rattle.std.proofs.Common.{◌≡◌, ◌≤◌, ◌<◌, ◌+◌, ◌-◌, ◌/◌, ◌%◌, ◌∙◌, ℕ, Bool, cond, List, length, Some, None, sym, ap, arith, le-ltb}
use Rattle.ir_image.specs.Guest.{object_count, object_words, most_objects}
use Rattle.ir_mach.specs.Execution.{byte_at}
use Rattle.ir_runs.specs.Run.{object_at}
use Rattle.ir_cut.specs.Positions.{EachRun, machine_of, start_of, cut_of}
use Rattle.ir_gdb.specs.Serving.{Serving, IsRemoteThere}
use Rattle.ir_hits.specs.Hits.{objects_start, object_size}
use Rattle.ir_gdb.specs.Reads.{object_byte, word_byte, byte_seen, current_of, bytes_there}
use Rattle.ir_gdb.proofs.Bytes.{bytes_end_at_missing}

-- behind the objects there is none
no_object_byte_past : (s : Serving) (offset : ℕ) → object_count s.stub.desk.fitted.guest ≤ offset / object_size
    → EachRun s.stub.desk.fitted (λ run. None ≡ object_byte run s.stub.desk.fitted (cut_of s.stub.desk.at) offset)
no_object_byte_past s offset past = λ run is. sym (ap (λ (t : Bool). cond t (Some (word_byte (object_words s.stub.desk.fitted.guest)
    (object_at (machine_of s.stub.desk.fitted) (start_of s.stub.desk.fitted) run (cut_of s.stub.desk.at) (offset / object_size)).words (offset % object_size))) None)
    (le-ltb (offset / object_size) (object_count s.stub.desk.fitted.guest) past))

-- addresses of 33 bits and more are behind the objects
pub no_byte_at_high : (s : Serving) (address : ℕ) → object_count s.stub.desk.fitted.guest ≤ most_objects → 0x100000000 ≤ address
    → EachRun s.stub.desk.fitted (λ run. byte_seen run s.stub address ≡ None)
no_byte_at_high s address few past = λ run is.
    let high : objects_start ≤ address = omega (arith, past) in
    let behind : object_count s.stub.desk.fitted.guest ≤ (address - objects_start) / object_size = omega (arith, few, past) in
    let near = byte_at s.stub.desk.fitted.guest.code (current_of run s.stub s.stub.general).core.memory address in
    ap (λ (t : Bool). cond t near (object_byte run s.stub.desk.fitted (cut_of s.stub.desk.at) (address - objects_start))) (le-ltb address objects_start high)
    ∙ sym (no_object_byte_past s (address - objects_start) behind run is)

-- where the next byte isn't there, those so far are all
pub bytes_end_at_unseen : (s : Serving) (xs : List ℕ) (n count address : ℕ) → n < count
    → EachRun s.stub.desk.fitted (λ run. xs ≡ bytes_there (byte_seen run s.stub) n address) → length xs ≡ n
    → EachRun s.stub.desk.fitted (λ run. None ≡ byte_seen run s.stub (address + n))
    → EachRun s.stub.desk.fitted (λ run. xs ≡ bytes_there (byte_seen run s.stub) count address)
bytes_end_at_unseen s xs n count address below are len none run whole =
    let is = are run whole in
    let full : length (bytes_there (byte_seen run s.stub) n address) ≡ n = ap (λ (ys : List ℕ). length ys) (sym is) ∙ len in
    let within : n ≤ count = omega (arith, below) in
    is ∙ sym (bytes_end_at_missing (byte_seen run s.stub) n count address within full (sym (none run whole)))

-- they end at the last address
pub bytes_end_at_last : (s : Serving) (xs : List ℕ) (n count address : ℕ) → IsRemoteThere s → n < count → (address + n < 0x100000000 → ⊥)
    → EachRun s.stub.desk.fitted (λ run. xs ≡ bytes_there (byte_seen run s.stub) n address) → length xs ≡ n
    → EachRun s.stub.desk.fitted (λ run. xs ≡ bytes_there (byte_seen run s.stub) count address)
bytes_end_at_last s xs n count address there below past are len =
    let fits = there.flat.few_objects in
    let objects = there.at.objects in
    let few : object_count s.stub.desk.fitted.guest ≤ most_objects = omega (arith, fits, objects) in
    let high : 0x100000000 ≤ address + n = grind (arith, past) in
    bytes_end_at_unseen s xs n count address below are len (λ run whole. sym (no_byte_at_high s (address + n) few high run whole))
