-- A field that is read is the field that was written, and what was written is read again.
use Rattle.std.proofs.Common.{◌≡◌, ℕ, zero, suc, ◌^◌, ◌<◌, ◌≤◌, false, ltb, List, [], ◌∷◌, ◌++◌, length, take, drop, None, Ok, Err, refl}
use Rattle.std.proofs.Common.{sym, ap, subst, ◌∙◌, append_assoc, arith, length-append, length-take-le}
use Rattle.std.specs.List.{AllByRecursion, flat_map}
use Rattle.std.proofs.lemmas.Bool.{ltb-false, ltb-true, le-ltb}
use Rattle.std.proofs.lemmas.List.{take-append-drop}
use Rattle.std.proofs.lemmas.List.Concat.{flat_map-cons}
use Rattle.std.proofs.Math.Seq.{take-append_seam, drop-append_seam}
use Rattle.byteorder.specs.Endian.{little_bytes, little_number}
use Rattle.byteorder.specs.Numbers.{little_number-reads_back, length-bytes_low_first}
use Rattle.ir_bytes.specs.Reading.{Reader, Field, judged, number_at, field_at, bytes_at, fields_at}
use Rattle.ir_bytes.proofs.Numbers.{IsBytes, drop_of_bytes_is_bytes, take_of_bytes_is_bytes, prefix_encodes_number, little_bytes_1}
use Rattle.ir_bytes.proofs.Steps.{two_binds_are_ok, three_binds_are_ok, guard_passed_if_ok, no_fault_if_judged_ok, ok_is_injective, test_failed_if_error}

-- what a reader took from the prefix
pub record Takes (bytes text rest : List ℕ) : Type 0 where
  pub parts : bytes ≡ text ++ rest
  pub rest_fits : IsBytes rest

pub takes_append : (a x b y c : List ℕ) → Takes a x b → Takes b y c → Takes a (x ++ y) c
takes_append a x b y c p q = record
    { parts = p.parts ∙ ap (λ (t : List ℕ). x ++ t) q.parts ∙ sym (append_assoc x y c); rest_fits = q.rest_fits }

-- ---- numbers

pub number_at_takes_number : {E : Type 0} (short : E) (size : ℕ) (bytes : List ℕ) (n : ℕ × List ℕ) → IsBytes bytes
    → number_at short size bytes ≡ Ok n → Takes bytes (little_bytes size n.0) n.1 × (n.0 < 256 ^ size)
unfolding number_at
number_at_takes_number {E} short size bytes n fits e =
    let g = guard_passed_if_ok (ltb (length bytes) size) short (Ok (little_number size bytes, drop size bytes)) n e in
    let own = prefix_encodes_number size bytes fits (ltb-false (length bytes) size g.0) in
    subst (λ (x : ℕ × List ℕ). Takes bytes (little_bytes size x.0) x.1 × (x.0 < 256 ^ size))
    (ok_is_injective E (little_number size bytes, drop size bytes) n g.1)
    (record { parts = own.parts; rest_fits = drop_of_bytes_is_bytes size bytes fits }, own.fits)

pub number_at-little_bytes : {E : Type 0} (short : E) (size n : ℕ) (rest : List ℕ) → n < 256 ^ size
    → number_at short size (little_bytes size n ++ rest) ≡ Ok (n, rest)
unfolding number_at
number_at-little_bytes short size n rest fits =
    let count = length-bytes_low_first 0 size n in
    let long : ltb (length (little_bytes size n ++ rest)) size ≡ false = le-ltb _ _
    (omega (arith, length-append (little_bytes size n) rest, count)) in
    let back : little_number size (little_bytes size n ++ rest) ≡ n = little_number-reads_back size n rest fits in
    let left : drop size (little_bytes size n ++ rest) ≡ rest = ap (λ (k : ℕ). drop k (little_bytes size n ++ rest)) (sym count) ∙
    drop-append_seam (little_bytes size n) rest in
    rw (long, back, left) refl

-- what reading a field takes
pub record TakesField {E : Type 0} (f : Field E) (bytes : List ℕ) (n : ℕ × List ℕ) : Type 0 where
  pub takes : Takes bytes (little_bytes f.size n.0) n.1
  pub fits : n.0 < 256 ^ f.size
  pub passes : f.fault n.0 ≡ None

pub field_at_takes_field : {E : Type 0} (short : E) (f : Field E) (bytes : List ℕ) (n : ℕ × List ℕ) → IsBytes bytes
    → field_at short f bytes ≡ Ok n → TakesField f bytes n
unfolding field_at
field_at_takes_field {E} short f bytes n fits e =
    two_binds_are_ok (number_at short f.size bytes) (λ m. judged (f.fault m.0) m) n e (λ m e0 e1.
    let g = no_fault_if_judged_ok (f.fault m.0) m n e1 in
    let t = number_at_takes_number short f.size bytes m fits e0 in
    subst (λ (x : ℕ × List ℕ). TakesField f bytes x) g.1 (record { takes = t.0; fits = t.1; passes = g.0 }))

pub field_at-little_bytes : {E : Type 0} (short : E) (f : Field E) (n : ℕ) (rest : List ℕ) → n < 256 ^ f.size → f.fault n ≡ None
    → field_at short f (little_bytes f.size n ++ rest) ≡ Ok (n, rest)
unfolding field_at
field_at-little_bytes short f n rest fits passes = rw (number_at-little_bytes short f.size n rest fits, passes) refl

-- ---- single bytes

-- a byte that was taken as the number of one byte
pub takes_single_byte : (bytes : List ℕ) (n : ℕ × List ℕ) → Takes bytes (little_bytes 1 n.0) n.1 → n.0 < 256 → Takes bytes (n.0 ∷ []) n.1
takes_single_byte bytes n takes fits = subst (λ (x : List ℕ). Takes bytes x n.1) (little_bytes_1 n.0 fits) takes

pub number_at_takes_byte : {E : Type 0} (short : E) (bytes : List ℕ) (n : ℕ × List ℕ) → IsBytes bytes → number_at short 1 bytes ≡ Ok n
    → Takes bytes (n.0 ∷ []) n.1
number_at_takes_byte short bytes n fits e =
    let t = number_at_takes_number short 1 bytes n fits e in
    takes_single_byte bytes n t.0 t.1

pub number_at_of_byte : {E : Type 0} (short : E) (n : ℕ) (rest : List ℕ) → number_at short 1 (n ∷ rest) ≡ Ok (n, rest)
unfolding number_at
number_at_of_byte short n rest =
    let long : ltb (length (n ∷ rest)) 1 ≡ false = le-ltb _ _ (omega arith) in
    let same : little_number 1 (n ∷ rest) ≡ n = omega arith in
    rw (long, same) refl

-- a field of one byte
pub field_at_of_byte : {E : Type 0} (short : E) (f : Field E) (n : ℕ) (rest : List ℕ) → f.size ≡ 1 → f.fault n ≡ None
    → field_at short f (n ∷ rest) ≡ Ok (n, rest)
unfolding field_at
field_at_of_byte short f n rest one passes = rw (one, number_at_of_byte short n rest, passes) refl

-- ---- n bytes

pub record TakesBytes (n : ℕ) (bytes : List ℕ) (x : List ℕ × List ℕ) : Type 0 where
  pub takes : Takes bytes x.0 x.1
  pub count : length x.0 ≡ n
  pub fit : IsBytes x.0

pub bytes_at_takes_bytes : {E : Type 0} (short : E) (n : ℕ) (bytes : List ℕ) (x : List ℕ × List ℕ) → IsBytes bytes → bytes_at short n bytes ≡ Ok x
    → TakesBytes n bytes x
unfolding bytes_at
bytes_at_takes_bytes {E} short n bytes x fits e =
    let g = guard_passed_if_ok (ltb (length bytes) n) short (Ok (take n bytes, drop n bytes)) x e in
    subst (λ (y : List ℕ × List ℕ). TakesBytes n bytes y) (ok_is_injective E (take n bytes, drop n bytes) x g.1)
    (record {
      takes = record { parts = sym (take-append-drop n bytes); rest_fits = drop_of_bytes_is_bytes n bytes fits };
      count = length-take-le n
          bytes (ltb-false (length bytes) n g.0);
      fit = take_of_bytes_is_bytes n bytes fits;
    })

-- the bytes that were taken, and those that weren't
pub record AreParts (n : ℕ) (bytes : List ℕ) (x : List ℕ × List ℕ) : Type 0 where
  pub prefix : x.0 ≡ take n bytes
  pub back : x.1 ≡ drop n bytes
  pub long : n ≤ length bytes

pub bytes_at_gives_parts : {E : Type 0} (short : E) (n : ℕ) (bytes : List ℕ) (x : List ℕ × List ℕ) → bytes_at short n bytes ≡ Ok x
    → AreParts n bytes x
unfolding bytes_at
bytes_at_gives_parts {E} short n bytes x e =
    let g = guard_passed_if_ok (ltb (length bytes) n) short (Ok (take n bytes, drop n bytes)) x e in
    subst (λ (y : List ℕ × List ℕ). AreParts n bytes y) (ok_is_injective E (take n bytes, drop n bytes) x g.1)
    (record { prefix = refl; back = refl; long = ltb-false (length bytes) n g.0 })

-- fewer bytes than that
pub bytes_at_fails_if_short : {E : Type 0} (short e : E) (n : ℕ) (bytes : List ℕ) → bytes_at short n bytes ≡ Err e → (length bytes < n) × (short ≡ e)
unfolding bytes_at
bytes_at_fails_if_short short e n bytes h =
    let g = test_failed_if_error (ltb (length bytes) n) short e (take n bytes, drop n bytes) h in
    (ltb-true (length bytes) n g.0, g.1)

pub bytes_at_of_append : {E : Type 0} (short : E) (own rest : List ℕ) → bytes_at short (length own) (own ++ rest) ≡ Ok (own, rest)
unfolding bytes_at
bytes_at_of_append short own rest =
    let long : ltb (length (own ++ rest)) (length own) ≡ false = le-ltb _ _ (omega (arith, length-append own rest)) in
    rw (long, take-append_seam own rest, drop-append_seam own rest) refl

-- ---- n fields of one kind

pub record TakesFields {X : Type 0} (P : X → Type 0) (encode : X → List ℕ) (n : ℕ) (bytes : List ℕ) (x : List X × List ℕ) : Type 0 where
  pub takes : Takes bytes (flat_map encode x.0) x.1
  pub count : length x.0 ≡ n
  pub fit : AllByRecursion P x.0

takes_fields_step : {X : Type 0} (P : X → Type 0) (encode : X → List ℕ) (n : ℕ) (bytes : List ℕ) (first : X × List ℕ) (others : List X × List ℕ)
    → Takes bytes (encode first.0) first.1 × P first.0 → TakesFields P encode n first.1 others
    → TakesFields P encode (suc n) bytes (first.0 ∷ others.0, others.1)
takes_fields_step P encode n bytes first others a b =
    record {
      takes = rw flat_map-cons (takes_append bytes (encode first.0) first.1 (flat_map encode others.0) others.1 a.0 b.takes);
      count =
          ap suc b.count;
      fit = (a.1, b.fit);
    }

pub fields_at_takes_fields : {X E : Type 0} (P : X → Type 0) (encode : X → List ℕ) (read : Reader X E)
    → ((bytes : List ℕ) (n : X × List ℕ) → IsBytes bytes → read bytes ≡ Ok n → Takes bytes (encode n.0) n.1 × P n.0)
    → (n : ℕ) (bytes : List ℕ) (x : List X × List ℕ) → IsBytes bytes → fields_at read n bytes ≡ Ok x → TakesFields P encode n bytes x
unfolding fields_at
fields_at_takes_fields {X} {E} P encode read takes zero bytes x fits e =
    subst (λ (y : List X × List ℕ). TakesFields P encode 0 bytes y) (ok_is_injective E ([], bytes) x e)
    (record { takes = record { parts = refl; rest_fits = fits }; count = refl; fit = tt })
fields_at_takes_fields {X} {E} P encode read takes (suc n) bytes x fits e =
    three_binds_are_ok (read bytes) (λ first. fields_at read n first.1) (λ first others. Ok (first.0 ∷ others.0, others.1)) x e
    (λ first others e0 e1 e2.
    let a = takes bytes first fits e0 in
    subst (λ (y : List X × List ℕ). TakesFields P encode (suc n) bytes y) (ok_is_injective E (first.0 ∷ others.0, others.1) x e2)
    (takes_fields_step P encode n bytes first others a (fields_at_takes_fields P encode read takes n first.1 others a.0.rest_fits e1)))

pub fields_at_of_encodings : {X E : Type 0} (P : X → Type 0) (encode : X → List ℕ) (read : Reader X E)
    → ((n : X) (rest : List ℕ) → P n → read (encode n ++ rest) ≡ Ok (n, rest))
    → (ns : List X) (rest : List ℕ) → AllByRecursion P ns → fields_at read (length ns) (flat_map encode ns ++ rest) ≡ Ok (ns, rest)
unfolding fields_at
fields_at_of_encodings P encode read again [] rest fits = refl
fields_at_of_encodings P encode read again (n ∷ ns) rest fits =
    let regrouped : flat_map encode (n ∷ ns) ++ rest ≡ encode n ++ (flat_map encode ns ++ rest) = ap (λ (x : List ℕ). x ++ rest)
    (flat_map-cons encode n ns) ∙ append_assoc (encode n) (flat_map encode ns) rest in
    ap (fields_at read (suc (length ns))) regrouped ∙ rw
    (again n (flat_map encode ns ++ rest) fits.0, fields_at_of_encodings P encode read again ns rest fits.1) refl
