-- The first fault of a format is the fault that its reading meets.
use Rattle.std.proofs.Common.{◌≡◌, ℕ, zero, suc, Bool, true, false, cond, ltb, List, ◌∷◌, length, take, drop, Option, Some, None, Result, Ok, Err, refl, sym, ◌∙◌}
use Rattle.byteorder.specs.Endian.{little_number}
use Rattle.ir_bytes.specs.Reading.{◌>>=◌, Reader, Field, judged, number_at, field_at, bytes_at, fields_at}
use Rattle.ir_bytes.specs.Format.{Format, next, before, repeated, or_later, first_refused, fault_of, plain}

-- the fault of a reading, or else of what comes after it
abbrev pub after_reading : {A E : Type 0} → Result A E → (A → Option E) → Option E
after_reading (Ok x) later = later x
after_reading (Err e) later = Some e

-- a reader reads the fields that a format begins with, and what follows them goes by what it read
abbrev pub Follows : {X E : Type 0} → E → E → Reader X E → ((X → Format E) → Format E) → Type 0
Follows {X} {E} short trailing read begin = (after : X → Format E) (bytes : List ℕ)
    → first_refused short trailing (begin after) bytes ≡ after_reading (read bytes) (λ x. first_refused short trailing (after x.0) x.1)

-- the same, where what follows them doesn't depend on what was read
abbrev pub Begins : {X E : Type 0} → E → E → Reader X E → (Format E → Format E) → Type 0
Begins {X} {E} short trailing read begin = (rest : Format E) (bytes : List ℕ)
    → first_refused short trailing (begin rest) bytes ≡ after_reading (read bytes) (λ x. first_refused short trailing rest x.1)

-- a reading of all bytes meets the first fault of a format
abbrev pub Refuses : {Y E : Type 0} → E → E → (List ℕ → Result Y E) → Format E → Type 0
Refuses short trailing read format = (bytes : List ℕ) → fault_of (read bytes) ≡ first_refused short trailing format bytes

-- ---- one field

or_later_judged : {X E : Type 0} (o : Option E) (x : X) (later : X → Option E) → or_later o (later x) ≡ after_reading (judged o x) later
or_later_judged (Some e) x later = refl
or_later_judged None x later = refl

conditional_field_fault : {E : Type 0} (b : Bool) (short : E) (fault : ℕ → Option E) (x : ℕ × List ℕ) (later : ℕ × List ℕ → Option E)
    → cond b (Some short) (or_later (fault x.0) (later x)) ≡ after_reading (cond b (Err short) (Ok x) >>= λ n. judged (fault n.0) n) later
conditional_field_fault true short fault x later = refl
conditional_field_fault false short fault x later = or_later_judged (fault x.0) x later

pub field_at_follows_field : {E : Type 0} (short trailing : E) (f : Field E) → Follows short trailing (field_at short f) (next f)
unfolding field_at number_at
field_at_follows_field short trailing f after bytes =
    conditional_field_fault (ltb (length bytes) f.size) short f.fault (little_number f.size bytes, drop f.size bytes)
    (λ x. first_refused short trailing (after x.0) x.1)

conditional_number_fault : {A E : Type 0} (b : Bool) (short : E) (x : A) (later : A → Option E)
    → cond b (Some short) (later x) ≡ after_reading (cond b (Err short) (Ok x)) later
conditional_number_fault true short x later = refl
conditional_number_fault false short x later = refl

pub number_at_follows : {E : Type 0} (short trailing : E) (size : ℕ) → Follows short trailing (number_at short size) (next (plain size))
unfolding number_at
number_at_follows short trailing size after bytes =
    conditional_number_fault (ltb (length bytes) size) short (little_number size bytes, drop size bytes)
    (λ x. first_refused short trailing (after x.0) x.1)

pub bytes_at_begins : {E : Type 0} (short trailing : E) (n : ℕ) → Begins short trailing (bytes_at short n) (before (plain n))
unfolding bytes_at
bytes_at_begins short trailing n rest bytes =
    conditional_number_fault (ltb (length bytes) n) short (take n bytes, drop n bytes) (λ x. first_refused short trailing rest x.1)

pub field_at_begins : {E : Type 0} (short trailing : E) (f : Field E) → Begins short trailing (field_at short f) (before f)
field_at_begins short trailing f rest = field_at_follows_field short trailing f (λ _. rest)

pub number_at_begins : {E : Type 0} (short trailing : E) (size : ℕ) → Begins short trailing (number_at short size) (before (plain size))
number_at_begins short trailing size rest = number_at_follows short trailing size (λ _. rest)

-- ---- one after the other

after_reading_sequence : {A B E : Type 0} (r : Result A E) (s : A → Result B E) (now : A → Option E) (later : B → Option E)
    → ((a : A) → now a ≡ after_reading (s a) later) → after_reading r now ≡ after_reading (r >>= s) later
after_reading_sequence (Ok a) s now later h = h a
after_reading_sequence (Err e) s now later h = refl

fault_of_sequence : {A Y E : Type 0} (r : Result A E) (s : A → Result Y E) (later : A → Option E) → ((a : A) → fault_of (s a) ≡ later a)
    → fault_of (r >>= s) ≡ after_reading r later
fault_of_sequence (Ok a) s later h = h a
fault_of_sequence (Err e) s later h = refl

pub sequence_follows_fields : {X Y E : Type 0} (short trailing : E) (r : Reader X E) (first : (X → Format E) → Format E) (s : X → Reader Y E)
    (second : X → (Y → Format E) → Format E)
    → Follows short trailing r first → ((x : X) → Follows short trailing (s x) (second x))
    → Follows short trailing (λ bytes. r bytes >>= λ x. s x.0 x.1) (λ after. first (λ x. second x after))
sequence_follows_fields short trailing r first s second p q after bytes =
    p (λ x. second x after) bytes ∙ after_reading_sequence (r bytes) (λ x. s x.0 x.1) (λ x. first_refused short trailing (second x.0 after) x.1)
    (λ y. first_refused short trailing (after y.0) y.1) (λ x. q x.0 after x.1)

pub sequence_begins : {X Y E : Type 0} (short trailing : E) (r : Reader X E) (first : (X → Format E) → Format E) (s : X → Reader Y E)
    (second : X → Format E → Format E)
    → Follows short trailing r first → ((x : X) → Begins short trailing (s x) (second x))
    → Begins short trailing (λ bytes. r bytes >>= λ x. s x.0 x.1) (λ rest. first (λ x. second x rest))
sequence_begins short trailing r first s second p q rest bytes =
    p (λ x. second x rest) bytes ∙ after_reading_sequence (r bytes) (λ x. s x.0 x.1) (λ x. first_refused short trailing (second x.0 rest) x.1)
    (λ y. first_refused short trailing rest y.1) (λ x. q x.0 rest x.1)

pub sequence_begins_by_rest : {X Y E : Type 0} (short trailing : E) (r : Reader X E) (first : Format E → Format E) (s : X → Reader Y E)
    (second : Format E → Format E)
    → Begins short trailing r first → ((x : X) → Begins short trailing (s x) second)
    → Begins short trailing (λ bytes. r bytes >>= λ x. s x.0 x.1) (λ rest. first (second rest))
sequence_begins_by_rest short trailing r first s second p q rest bytes =
    p (second rest) bytes ∙ after_reading_sequence (r bytes) (λ x. s x.0 x.1) (λ x. first_refused short trailing (second rest) x.1)
    (λ y. first_refused short trailing rest y.1) (λ x. q x.0 rest x.1)

pub sequence_refuses_format : {X Y E : Type 0} (short trailing : E) (r : Reader X E) (first : (X → Format E) → Format E)
    (s : X → List ℕ → Result Y E) (second : X → Format E)
    → Follows short trailing r first → ((x : X) → Refuses short trailing (s x) (second x))
    → Refuses short trailing (λ bytes. r bytes >>= λ x. s x.0 x.1) (first second)
sequence_refuses_format short trailing r first s second p q bytes =
    fault_of_sequence (r bytes) (λ x. s x.0 x.1) (λ x. first_refused short trailing (second x.0) x.1) (λ x. q x.0 x.1) ∙ sym (p second bytes)

pub rest_refuses_format : {X Y E : Type 0} (short trailing : E) (r : Reader X E) (first : Format E → Format E) (s : X → List ℕ → Result Y E)
    (rest : Format E)
    → Begins short trailing r first → ((x : X) → Refuses short trailing (s x) rest)
    → Refuses short trailing (λ bytes. r bytes >>= λ x. s x.0 x.1) (first rest)
rest_refuses_format short trailing r first s rest p q bytes =
    fault_of_sequence (r bytes) (λ x. s x.0 x.1) (λ x. first_refused short trailing rest x.1) (λ x. q x.0 x.1) ∙ sym (p rest bytes)

-- nothing follows the last
pub fault_of_trailing_test : {Y E : Type 0} (trailing : E) (y : Y) (b : Bool) → fault_of (cond b (Ok y) (Err trailing)) ≡ cond b None (Some trailing)
fault_of_trailing_test trailing y true = refl
fault_of_trailing_test trailing y false = refl

pub fields_at_begins : {X E : Type 0} (short trailing : E) (r : Reader X E) (one : Format E → Format E) (n : ℕ) → Begins short trailing r one
    → Begins short trailing (fields_at r n) (repeated n one)
unfolding fields_at
fields_at_begins short trailing r one zero p rest bytes = refl
fields_at_begins {X} {E} short trailing r one (suc n) p rest bytes =
    sequence_begins_by_rest short trailing r one (λ x all. fields_at r n all >>= λ others. Ok (x ∷ others.0, others.1)) (repeated n one) p
    (λ x. sequence_begins_by_rest short trailing (fields_at r n) (repeated n one) (λ others all. Ok (x ∷ others, all)) (λ f. f)
    (fields_at_begins short trailing r one n p) (λ others f all. refl)) rest bytes
