-- Lines that are taken byte by byte.
use Rattle.std.proofs.Common.{◌≡◌, ◌≤◌, ◌<◌, ◌+◌, ◌-◌, ℕ, Bool, true, false, List, [], ◌∷◌, ◌++◌, length, Option, Some, None, Result, Ok, Err, leb, refl, sym, ap, subst, ◌∙◌, arith, inl, inr}
use Rattle.std.specs.Prelude.{IfSome, IfErr}
use Rattle.std.specs.Io.KnownBytes.{Consumes, IsAtEnd, Keeps}
use Rattle.std.proofs.KnownBytes.{Consumes-kept}
use Rattle.std.proofs.lemmas.List.{append-nil, length-append, length-take}
use Rattle.std.proofs.lemmas.Bool.{lt-leb}
use Rattle.ir_command.specs.Commands.{without_return}
use Rattle.ir_program.specs.Bundle.{is_feed, line_of, after_line, bytes_of_line, most_digits, bundle_by, bundle_of, Bundled}
use Rattle.ir_debug.specs.Session.{Session, IfServed, most_input}
use Rattle.ir_debug.specs.declared.ended.Ended.{Ended}
use Rattle.ir_debug.specs.declared.ended.SessionErr.{SessionErr}
use Rattle.ir_debug.specs.declared.ended.SessionErr.TheVariants as err
use Rattle.ir_program.specs.Taking.{IsPlainLine, TakenReader, reader_of, TakesLine, TakesBytes, IsInLine, GivesNone, LineFails}
use Rattle.ir_files.specs.Writers.{Writer}
use Rattle.ir_program.specs.Leaving.{Serves, CameWhole, CameInPart, ComesToEnd, LeavesAfterFault, session_fault}
use Rattle.ir_program.specs.declared.fault.ProgramErr.{ProgramErr}
use Rattle.ir_program.specs.declared.fault.ProgramErr.TheVariants as fault
use Rattle.ir_stream.specs.Answers.{ReadsUpTo}

line_of_plain_prefix : (line rest : List ℕ) → IsPlainLine line → line_of (line ++ rest) ≡ line ++ line_of rest
unfolding line_of
line_of_plain_prefix [] rest plain = refl
line_of_plain_prefix (b ∷ line) rest plain = rw plain.0 (ap (λ (l : List ℕ). b ∷ l) (line_of_plain_prefix line rest plain.1))

after_line_past_plain : (line rest : List ℕ) → IsPlainLine line → after_line (line ++ rest) ≡ after_line rest
unfolding after_line
after_line_past_plain [] rest plain = refl
after_line_past_plain (b ∷ line) rest plain = rw plain.0 (after_line_past_plain line rest plain.1)

pub plain_after_byte : (line : List ℕ) (b : ℕ) → IsPlainLine line → is_feed b ≡ false → IsPlainLine (line ++ b ∷ [])
plain_after_byte [] b plain other = (other, tt)
plain_after_byte (a ∷ line) b plain other = (plain.0, plain_after_byte line b plain.1 other)

line_splits_at_feed : (line rest : List ℕ) → IsPlainLine line → (line ≡ line_of (line ++ 10 ∷ rest)) × (rest ≡ after_line (line ++ 10 ∷ rest))
unfolding line_of after_line
line_splits_at_feed line rest plain = (sym (line_of_plain_prefix line (10 ∷ rest) plain ∙ append-nil line), sym (after_line_past_plain line (10 ∷ rest) plain))

plain_line_is_whole : (line : List ℕ) → IsPlainLine line → (line ≡ line_of line) × ([] ≡ after_line line)
unfolding line_of after_line
plain_line_is_whole line plain =
    let whole = append-nil line in
    (sym (ap line_of (sym whole) ∙ line_of_plain_prefix line [] plain ∙ whole), sym (ap after_line (sym whole) ∙ after_line_past_plain line [] plain))

-- a line feed ends the line
pub takes_line_at_feed : (a b c : Option (List ℕ)) (line : List ℕ) → IsPlainLine line → Consumes a b line → Consumes b c (10 ∷ []) → TakesLine a c line
takes_line_at_feed None b c line plain p q = tt
takes_line_at_feed (Some xs) None c line plain p q = absurd p
takes_line_at_feed (Some xs) (Some ys) None line plain p q = absurd q
takes_line_at_feed (Some xs) (Some ys) (Some zs) line plain p q =
    let whole : xs ≡ line ++ 10 ∷ zs = p ∙ ap (λ (r : List ℕ). line ++ r) q in
    let cut = line_splits_at_feed line zs plain in
    (cut.0 ∙ ap line_of (sym whole), cut.1 ∙ ap after_line (sym whole))

-- the end of the input ends the line
pub takes_line_at_input_end : (a b c : Option (List ℕ)) (line : List ℕ) → IsPlainLine line → Consumes a b line → Consumes b c [] → IsAtEnd c
    → TakesLine a c line
takes_line_at_input_end None b c line plain p q e = tt
takes_line_at_input_end (Some xs) None c line plain p q e = absurd p
takes_line_at_input_end (Some xs) (Some ys) None line plain p q e = absurd q
takes_line_at_input_end (Some xs) (Some ys) (Some zs) line plain p q e =
    let whole : xs ≡ line = p ∙ ap (λ (r : List ℕ). line ++ r) (q ∙ e) ∙ append-nil line in
    let cut = plain_line_is_whole line plain in
    (cut.0 ∙ ap line_of (sym whole), e ∙ cut.1 ∙ ap after_line (sym whole))

-- what is read without a line feed is no longer than the line
pub consumed_long_line : (a b : Option (List ℕ)) (line : List ℕ) (n : ℕ) → IsPlainLine line → Consumes a b line → n < length line
    → IfSome a (λ input. n < length (line_of input))
consumed_long_line None b line n plain p long = tt
consumed_long_line (Some xs) None line n plain p long = absurd p
consumed_long_line (Some xs) (Some ys) line n plain p long =
    let e : length (line_of xs) ≡ length (line ++ line_of ys) = ap (λ (x : List ℕ). length (line_of x)) p
    ∙ ap (λ (x : List ℕ). length x) (line_of_plain_prefix line ys plain) in
    omega (arith, length-append line (line_of ys))

drops_one_byte_at_most : (line : List ℕ) → length line ≤ length (without_return line) + 1
drops_one_byte_at_most line = grind (arith, length-take (length line - 1) line)

-- a line of more bytes than the digits and a carriage return is no text in hexadecimal
pub too_long_has_no_bytes : (line : List ℕ) → most_digits + 1 < length line → bytes_of_line line ≡ None
unfolding bytes_of_line
too_long_has_no_bytes line long =
    let more = drops_one_byte_at_most line in
    let test : leb (length (without_return line)) most_digits ≡ false = lt-leb (length (without_return line)) most_digits (omega arith) in
    rw test refl

-- the same, for a byte that is a line feed
pub takes_line_at_feed_byte : (a b c : Option (List ℕ)) (line : List ℕ) (byte : ℕ) → byte ≡ 10 → IsPlainLine line → Consumes a b line
    → Consumes b c (byte ∷ []) → TakesLine a c line
takes_line_at_feed_byte a b c line byte feed plain p q =
    let P : ℕ → Type 0 = λ n. Consumes b c (n ∷ []) in
    takes_line_at_feed a b c line plain p (subst P feed q)

-- a line that is no text in hexadecimal is refused
pub no_bytes_is_refused : (a b : Option (List ℕ)) (line : List ℕ) → TakesLine a b line → bytes_of_line line ≡ None
    → IfSome a (λ input. bytes_of_line (line_of input) ≡ None)
no_bytes_is_refused None b line taken none = tt
no_bytes_is_refused (Some xs) None line taken none = absurd taken
no_bytes_is_refused (Some xs) (Some ys) line taken none = ap bytes_of_line (sym taken.0) ∙ none

pub too_long_is_refused : (a : Option (List ℕ)) → IfSome a (λ input. most_digits + 1 < length (line_of input))
    → IfSome a (λ input. bytes_of_line (line_of input) ≡ None)
too_long_is_refused None long = tt
too_long_is_refused (Some xs) long = too_long_has_no_bytes (line_of xs) long

-- nothing more was taken of a line
pub in_line_after_plain : (a b c : Option (List ℕ)) (line : List ℕ) → IsPlainLine line → Consumes a b line → Keeps b c → IsInLine a c
in_line_after_plain a b c line plain p drops_one_byte_at_most = (line, plain, Consumes-kept a b c line p drops_one_byte_at_most)

-- a line that was taken and gives no bytes
pub line_fails_if_no_bytes : {A : Type 0} (r : Result A ProgramErr) (a b : Option (List ℕ)) (line line' : List ℕ) (failed : Bool) → TakesLine a b line
    → line' ≡ line → failed ≡ false → IfErr r (λ e. GivesNone e line')
    → IfErr r (λ e. LineFails e (reader_of a b failed))
line_fails_if_no_bytes (Ok bytes) a b line line' failed taken same works gives = tt
line_fails_if_no_bytes (Err fault.BadLine) a b line line' failed taken same works gives =
    (no_bytes_is_refused a b line taken (ap bytes_of_line (sym same) ∙ gives), works)
line_fails_if_no_bytes (Err fault.NoMem) a b line line' failed taken same works gives = works
line_fails_if_no_bytes (Err fault.Read) a b line line' failed taken same works gives = absurd gives
line_fails_if_no_bytes (Err fault.Write) a b line line' failed taken same works gives = absurd gives
line_fails_if_no_bytes (Err fault.TooLong) a b line line' failed taken same works gives = absurd gives

-- ---- both lines

no_bundle_without_image : (image trace : Option (List ℕ)) (commands : List ℕ) → image ≡ None → bundle_by image trace commands ≡ None
no_bundle_without_image image trace commands e = rw e refl

no_bundle_without_trace : (image trace : Option (List ℕ)) (commands : List ℕ) → trace ≡ None → bundle_by image trace commands ≡ None
no_bundle_without_trace None trace commands e = refl
no_bundle_without_trace (Some bytes) trace commands e = rw e refl

pub no_bundle_by_image : (a : Option (List ℕ)) → IfSome a (λ input. bytes_of_line (line_of input) ≡ None)
    → IfSome a (λ input. bundle_of input ≡ None)
unfolding bundle_of
no_bundle_by_image None none = tt
no_bundle_by_image (Some xs) none = no_bundle_without_image (bytes_of_line (line_of xs)) (bytes_of_line (line_of (after_line xs))) (after_line (after_line xs))
    none

pub no_bundle_by_trace : (a b : Option (List ℕ)) (bytes : List ℕ) → TakesBytes a b bytes
    → IfSome b (λ input. bytes_of_line (line_of input) ≡ None) → IfSome a (λ input. bundle_of input ≡ None)
unfolding bundle_of
no_bundle_by_trace None b bytes taken none = tt
no_bundle_by_trace (Some xs) None bytes taken none = absurd taken.taken
no_bundle_by_trace (Some xs) (Some ys) bytes taken none =
    no_bundle_without_trace (bytes_of_line (line_of xs)) (bytes_of_line (line_of (after_line xs))) (after_line (after_line xs))
    (ap (λ (l : List ℕ). bytes_of_line (line_of l)) (sym taken.taken.1) ∙ none)

bundle_of_two_lines : (xs ys zs image trace : List ℕ) → TakesBytes (Some xs) (Some ys) image → TakesBytes (Some ys) (Some zs) trace
    → bundle_of xs ≡ Some (record { image = image; trace = trace; commands = zs })
unfolding bundle_of
bundle_of_two_lines xs ys zs image trace p q =
    let first : bytes_of_line (line_of xs) ≡ Some image = ap bytes_of_line (sym p.taken.0) ∙ p.wrote in
    let second : bytes_of_line (line_of (after_line xs)) ≡ Some trace = ap (λ (l : List ℕ). bytes_of_line (line_of l)) (sym p.taken.1)
    ∙ ap bytes_of_line (sym q.taken.0) ∙ q.wrote in
    let rest : after_line (after_line xs) ≡ zs = ap after_line (sym p.taken.1) ∙ sym q.taken.1 in
    rw (first, second, rest) refl

-- the session of a bundle
pub bundled_of_lines : (a b c old new : Option (List ℕ)) (image trace : List ℕ) (result : Result Ended SessionErr) → TakesBytes a b image
    → TakesBytes b c trace
    → IfSome c (Session image trace most_input result old new) → IfSome a (Bundled result old new)
bundled_of_lines None b c old new image trace result p q s = tt
bundled_of_lines (Some xs) None c old new image trace result p q s = absurd p.taken
bundled_of_lines (Some xs) (Some ys) None old new image trace result p q s = absurd q.taken
bundled_of_lines (Some xs) (Some ys) (Some zs) old new image trace result p q s = record {
  bundle = record { image = image; trace = trace; commands = zs };
  is = bundle_of_two_lines xs ys zs image trace p q;
  session = s;
}

-- the same, for slices of what was read, and a session that was served
pub bundled_of_equal_bytes : (a b c old new : Option (List ℕ)) (image trace image' trace' : List ℕ) (result : Result Ended SessionErr)
    → TakesBytes a b image → TakesBytes b c trace → image' ≡ image → trace' ≡ trace
    → IfSome c (Session image' trace' most_input result old new) → IfSome a (Bundled result old new)
bundled_of_equal_bytes a b c old new image trace image' trace' result p q same_image same_trace s =
    let P : List ℕ → List ℕ → Type 0 = λ x y. IfSome c (Session x y most_input result old new) in
    bundled_of_lines a b c old new image trace result p q (subst (P image) same_trace (subst (λ (x : List ℕ). P x trace') same_image s))

pub session_too_long : (result : Result Ended SessionErr) (c old new : Option (List ℕ)) (image trace : List ℕ) → result ≡ Err err.TooLong
    → IfServed result (IfSome c (Session image trace most_input result old new))
    → IfSome c (Session image trace most_input (Err err.TooLong) old new)
session_too_long result c old new image trace e served =
    let P : Result Ended SessionErr → Type 0 = λ r. IfServed r (IfSome c (Session image trace most_input r old new)) in
    subst P e served

-- ---- what a fault leaves

-- the line of the image gives no bytes
pub leaves_at_image_line : (e : ProgramErr) (a b : Option (List ℕ)) (failed : Bool) (w : Writer) (Same : Type 0) → w.failed ≡ false → Same
    → LineFails e (reader_of a b failed) → LeavesAfterFault e (reader_of a b failed) w Same
leaves_at_image_line fault.BadLine a b failed w Same works same h = (no_bundle_by_image a h.0, h.1, same)
leaves_at_image_line fault.NoMem a b failed w Same works same h = (h, same)
leaves_at_image_line fault.Read a b failed w Same works same h = (h.0, works, inl (inl h.1, same))
leaves_at_image_line fault.Write a b failed w Same works same h = absurd h
leaves_at_image_line fault.TooLong a b failed w Same works same h = absurd h

-- the line of the trace gives none
pub leaves_at_trace_line : (e : ProgramErr) (a b c : Option (List ℕ)) (failed : Bool) (w : Writer) (Same : Type 0) (image : List ℕ)
    → w.failed ≡ false → Same → TakesBytes a b image → LineFails e (reader_of b c failed) → LeavesAfterFault e (reader_of a c failed) w Same
leaves_at_trace_line fault.BadLine a b c failed w Same image works same taken h = (no_bundle_by_trace a b image taken h.0, h.1, same)
leaves_at_trace_line fault.NoMem a b c failed w Same image works same taken h = (h, same)
leaves_at_trace_line fault.Read a b c failed w Same image works same taken h = (h.0, works, inl (inr (image, b, taken, h.1), same))
leaves_at_trace_line fault.Write a b c failed w Same image works same taken h = absurd h
leaves_at_trace_line fault.TooLong a b c failed w Same image works same taken h = absurd h

-- both lines were taken, and this holds of slices of what they give
pub serves_after_both_lines : (a b c d : Option (List ℕ)) (image trace image' trace' : List ℕ) (P : List ℕ → List ℕ → List ℕ → Type 0) → TakesBytes a b image
    → TakesBytes b c trace → image' ≡ image → trace' ≡ trace
    → ReadsUpTo most_input c d (P image' trace') → Serves a d P
serves_after_both_lines a b c d image trace image' trace' P p q same_image same_trace reads = record {
  image = image;
  trace = trace;
  after_image = b;
  after_trace = c;
  image_line = p;
  trace_line = q;
  commands = subst (λ (x : List ℕ). ReadsUpTo most_input c d (P image x)) same_trace
      (subst (λ (x : List ℕ). ReadsUpTo most_input c d (P x trace')) same_image reads);
}

-- the session was stopped by a fault, which leaves what each of its kind does
pub leaves_if_session_fails : (e : SessionErr) (reader : TakenReader) (writer : Writer) (Same : Type 0)
    → (e ≡ err.NoMem → (reader.failed ≡ false) × Same)
    → (e ≡ err.Read → (reader.failed ≡ true) × (writer.failed ≡ false)
    × Serves reader.before reader.after (CameWhole writer.before writer.after))
    → (e ≡ err.Write → (reader.failed ≡ false) × (writer.failed ≡ true)
    × Serves reader.before reader.after (CameInPart reader.after writer.before writer.after))
    → (e ≡ err.TooLong → ComesToEnd (Err err.TooLong) reader writer) → LeavesAfterFault (session_fault e) reader writer Same
leaves_if_session_fails err.NoMem reader writer Same no_memory read write long = no_memory refl
leaves_if_session_fails err.Read reader writer Same no_memory read write long = let h = read refl in (h.0, h.1, inr h.2)
leaves_if_session_fails err.Write reader writer Same no_memory read write long = write refl
leaves_if_session_fails err.TooLong reader writer Same no_memory read write long = long refl
