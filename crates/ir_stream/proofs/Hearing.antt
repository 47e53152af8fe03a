-- The lines of an input that count, by where its bytes were cut, and what a session makes of them.
use Rattle.std.proofs.Common.{◌≡◌, ℕ, ◌+◌, ◌-◌, ◌<◌, ◌≤◌, suc, Bool, true, false, cond, ltb, List, [], ◌∷◌, ◌++◌, take, length, refl, sym}
use Rattle.std.proofs.Common.{ap, subst, ◌∙◌, append_assoc, arith, Some, None, IfSome, Ok, Err, length-append}
use Rattle.std.specs.Prelude.{Option, Result}
use Rattle.std.proofs.lemmas.Bool.{lt-ltb, le-ltb}
use Rattle.std.proofs.Math.Seq.{take-append-add, take-append_seam}
use Rattle.std.specs.Io.KnownBytes.{Consumes}
use Rattle.ir_stream.specs.declared.serving.Served.{Served}
use Rattle.ir_stream.specs.declared.serving.Served.TheVariants.{Quit, InputEnd}
use Rattle.ir_stream.specs.declared.serving.Fault.{Fault}
use Rattle.ir_stream.specs.declared.serving.Fault.TheVariants.{TooLong}
use Rattle.ir_stream.specs.Answers.{SplitBytes, split_lines, last_line, lines_of, heard, Replying, through, some_quits}
use Rattle.ir_stream.specs.Written.{Wrote}
use Rattle.ir_stream.specs.Endings.{served_after, LeadsTo}
use Rattle.ir_stream.proofs.Cuts.{split_ends_at_feed}
use Rattle.ir_stream.proofs.Replies.{some_quits_append, some_quits_first, through_append_no_quit, through_if_first_quits, through_keeps_last_line, through_none_quits}

-- whatever stays with the reader
pub consumed_input_satisfies : (old new : Option (List ℕ)) (bytes : List ℕ) (P : List ℕ → Type 0) → Consumes old new bytes
    → ((rest : List ℕ) → P (bytes ++ rest)) → IfSome old P
consumed_input_satisfies None new bytes P c h = tt
consumed_input_satisfies (Some x) None bytes P c h = absurd c
consumed_input_satisfies (Some x) (Some y) bytes P c h = subst P (sym c) (h y)

heard_short_is_all : (limit : ℕ) (input : List ℕ) → length input < limit → heard limit input ≡ lines_of input
heard_short_is_all limit input h = ap (λ (b : Bool). cond b (lines_of input) (split_lines (take limit input)).whole) (lt-ltb (length input) limit h)

heard_long_is_whole : (limit : ℕ) (input : List ℕ) → limit ≤ length input → heard limit input ≡ (split_lines (take limit input)).whole
heard_long_is_whole limit input h = ap (λ (b : Bool). cond b (lines_of input) (split_lines (take limit input)).whole) (le-ltb (length input) limit h)

take_past_feed : (limit : ℕ) (bytes left : List ℕ) → length bytes < limit → take limit (bytes ++ 10 ∷ left) ≡ bytes ++ 10
    ∷ take (limit - length bytes - 1) left
take_past_feed limit bytes left h =
    let n = limit - length bytes - 1 in
    let e : limit ≡ length bytes + suc n = omega arith in
    ap (λ (k : ℕ). take k (bytes ++ 10 ∷ left)) e ∙ take-append-add bytes (10 ∷ left) (suc n)

-- a line that ends below the limit counts, and those before it
conditional_heard_line : (limit : ℕ) (bytes left : List ℕ) → length bytes < limit → (b : Bool)
    → (more : List (List ℕ)) × (cond b (lines_of (bytes ++ 10 ∷ left)) (split_lines (take limit (bytes ++ 10 ∷ left))).whole ≡ (split_lines bytes).whole ++
    (split_lines bytes).rest ∷ more)
conditional_heard_line limit bytes left h true = (
  lines_of left,
  ap (λ (c : SplitBytes). c.whole ++ last_line c.rest) (split_ends_at_feed bytes left)
      ∙ append_assoc (split_lines bytes).whole ((split_lines bytes).rest ∷ (split_lines left).whole) (last_line (split_lines left).rest),
)
conditional_heard_line limit bytes left h false =
    let more = take (limit - length bytes - 1) left in
    ((split_lines more).whole, ap (λ (i : List ℕ). (split_lines i).whole) (take_past_feed limit bytes left h) ∙ ap (λ (c : SplitBytes). c.whole) (split_ends_at_feed bytes more))

heard_has_line : (limit : ℕ) (bytes left : List ℕ) → length bytes < limit → (more : List (List ℕ))
    × (heard limit (bytes ++ 10 ∷ left) ≡ (split_lines bytes).whole ++ (split_lines bytes).rest ∷ more)
heard_has_line limit bytes left h = conditional_heard_line limit bytes left h (ltb (length (bytes ++ 10 ∷ left)) limit)

abbrev ok_served : Served → Result Served Fault
ok_served e = Ok e

served_after_cond : (b : Bool) → ok_served (served_after b) ≡ cond b (ok_served Quit) (ok_served InputEnd)
served_after_cond true = refl
served_after_cond false = refl

module _ {S : Type 0} (R : Replying S) (quits : List ℕ → Bool) (s : S) (limit : ℕ) (old new : Option (List ℕ)) (bytes : List ℕ)
    (quiet : some_quits quits (split_lines bytes).whole ≡ false) where
  -- what was written of the lines that count
  counted : (input : List ℕ) (ls : List (List ℕ)) → through quits (heard limit input) ≡ ls → Wrote R s ls old new
      → Wrote R s (through quits (heard limit input)) old new
  counted input ls e wrote = let P : List (List ℕ) → Type 0 = λ x. Wrote R s x old new in subst P (sym e) wrote

  -- the line that a line feed ends quits
  pub leads_quit : (left : List ℕ) → length bytes < limit → quits (split_lines bytes).rest ≡ true
      → Wrote R s ((split_lines bytes).whole ++ (split_lines bytes).rest ∷ []) old new → LeadsTo R quits s limit (Ok Quit) old new (bytes ++ 10 ∷ left)
  leads_quit left below q wrote =
      let f = heard_has_line limit bytes left below in
      let some : some_quits quits (heard limit (bytes ++ 10 ∷ left)) ≡ true = ap (some_quits quits) f.1
      ∙ some_quits_append quits (split_lines bytes).whole ((split_lines bytes).rest ∷ f.0) quiet ∙ some_quits_first quits (split_lines bytes).rest f.0 q in
      let same : through quits (heard limit (bytes ++ 10 ∷ left)) ≡ (split_lines bytes).whole ++ (split_lines bytes).rest ∷ [] =
      ap (through quits) f.1 ∙ through_append_no_quit quits (split_lines bytes).whole ((split_lines bytes).rest ∷ f.0) quiet
      ∙ ap (λ (t : List (List ℕ)). (split_lines bytes).whole ++ t) (through_if_first_quits quits (split_lines bytes).rest f.0 q) in
      record {
        ending = sym (ap (λ (b : Bool). cond b (Ok Quit) (cond (ltb (length (bytes ++ 10 ∷ left)) limit) (Ok InputEnd) (Err TooLong)))
            some);
        wrote = counted (bytes ++ 10 ∷ left) ((split_lines bytes).whole ++ (split_lines bytes).rest ∷ []) same wrote;
      }

  -- the bytes are the whole input
  pub leads_end : (e : Served) → length bytes < limit → e ≡ served_after (some_quits quits (last_line (split_lines bytes).rest))
      → Wrote R s ((split_lines bytes).whole ++ last_line (split_lines bytes).rest) old new → LeadsTo R quits s limit (Ok e) old new bytes
  leads_end e below served wrote =
      let f = heard_short_is_all limit bytes below in
      let some : some_quits quits (heard limit bytes) ≡ some_quits quits (last_line (split_lines bytes).rest) = ap (some_quits quits) f
      ∙ some_quits_append quits (split_lines bytes).whole (last_line (split_lines bytes).rest) quiet in
      let same : through quits (heard limit bytes) ≡ (split_lines bytes).whole ++ last_line (split_lines bytes).rest =
      ap (through quits) f ∙ through_append_no_quit quits (split_lines bytes).whole (last_line (split_lines bytes).rest) quiet
      ∙ ap (λ (t : List (List ℕ)). (split_lines bytes).whole ++ t) (through_keeps_last_line quits (split_lines bytes).rest) in
      record {
        ending = ap ok_served served ∙ served_after_cond (some_quits quits (last_line (split_lines bytes).rest))
            ∙ sym (ap (λ (b : Bool). cond b (Ok Quit) (cond (ltb (length bytes) limit) (Ok InputEnd) (Err TooLong))) some
            ∙ ap (λ (b : Bool). cond (some_quits quits (last_line (split_lines bytes).rest)) (Ok Quit) (cond b (Ok InputEnd) (Err TooLong)))
            (lt-ltb (length bytes) limit below));
        wrote = counted bytes ((split_lines bytes).whole ++ last_line (split_lines bytes).rest) same wrote;
      }

  -- the limit came
  pub leads_long : (left : List ℕ) → length bytes ≡ limit → Wrote R s (split_lines bytes).whole old new
      → LeadsTo R quits s limit (Err TooLong) old new (bytes ++ left)
  leads_long left full wrote =
      let above : limit ≤ length (bytes ++ left) = omega (arith, length-append bytes left) in
      let f : heard limit (bytes ++ left) ≡ (split_lines bytes).whole = heard_long_is_whole limit (bytes ++ left) above
      ∙ ap (λ (i : List ℕ). (split_lines i).whole) (ap (λ (k : ℕ). take k (bytes ++ left)) (sym full) ∙ take-append_seam bytes left) in
      let none : some_quits quits (heard limit (bytes ++ left)) ≡ false = ap (some_quits quits) f ∙ quiet in
      record {
        ending = sym (ap (λ (b : Bool). cond b (Ok Quit) (cond (ltb (length (bytes ++ left)) limit) (Ok InputEnd) (Err TooLong))) none
            ∙ ap (λ (b : Bool). cond b (Ok InputEnd) (Err TooLong)) (le-ltb (length (bytes ++ left)) limit above));
        wrote = counted (bytes ++ left) (split_lines bytes).whole (ap (through quits) f ∙ through_none_quits quits (split_lines bytes).whole quiet) wrote;
      }
