-- What holds after each byte that was read, and at each end.
use Rattle.std.proofs.Common.{◌≡◌, ℕ, ◌+◌, ◌<◌, Bool, true, false, eqb, List, [], ◌∷◌, ◌++◌, take, length, refl, sym, ap, subst, ◌∙◌}
use Rattle.std.proofs.Common.{append_assoc, arith, IfSome, IfOk, IfErr, OnOk, OnErr, Ok, Err, length-append}
use Rattle.std.specs.Prelude.{Option, Result}
use Rattle.std.proofs.lemmas.List.{append-nil}
use Rattle.std.proofs.KnownBytes.{Consumes-nil, Consumes-trans, Consumes-kept, Consumes-whole, Appends-nil, Appends-trans}
use Rattle.std.specs.Io.KnownBytes.{Keeps, Appends, Consumes, IsAtEnd}
use Rattle.ir_stream.specs.declared.serving.Served.{Served}
use Rattle.ir_stream.specs.declared.serving.Served.TheVariants.{Quit}
use Rattle.ir_stream.specs.declared.serving.Fault.{Fault}
use Rattle.ir_stream.specs.declared.serving.Fault.TheVariants.{Read, Write, TooLong}
use Rattle.ir_stream.specs.Answers.{SplitBytes, split_lines, last_line, lines_of, Replying, LinesAnswered, RepliedPrefix, through, some_quits, ReadsUpTo, AppendsPrefix}
use Rattle.ir_stream.specs.Written.{most_kept_bytes, Wrote, WroteInPart, Replied}
use Rattle.ir_stream.specs.Endings.{served_after, IfEnded, LeadsTo}
use Rattle.ir_stream.proofs.Cuts.{split_ends_at_feed, split_adds_to_rest, take_append_inner_take}
use Rattle.ir_stream.proofs.Replies.{last_line_nonempty, lines_answered_append, answered_no_lines, answered_one_line}
use Rattle.ir_stream.proofs.Replies.{answered_last_by_prefix, some_quits_append, some_quits_of_one_line, some_quits_nil}
use Rattle.ir_stream.proofs.Replies.{through_append_no_quit, through_keeps_last_line, through_of_one_line, quits_ignores_take}
use Rattle.ir_stream.proofs.Replies.{appends_prefix_append}
use Rattle.ir_stream.proofs.Hearing.{consumed_input_satisfies, leads_quit, leads_end, leads_long}

-- after these bytes: what is left, what was written, the machine and the line that has begun
pub record IsSessionAt {S : Type 0} (R : Replying S) (quits : List ℕ → Bool) (s0 : S) (input w0 left written : Option (List ℕ)) (s : S)
    (line : List ℕ) (n : ℕ) : Type 0 where
  pub bytes : List ℕ
  pub count : length bytes ≡ n
  pub parts : Consumes input left bytes
  pub text : List ℕ
  pub answered : LinesAnswered R s0 (split_lines bytes).whole text s
  pub grown : Appends w0 written text
  pub begun : line ≡ take most_kept_bytes (split_lines bytes).rest
  pub quiet : some_quits quits (split_lines bytes).whole ≡ false

-- the line and the count under other names
pub session_at_equal_count : {S : Type 0} (R : Replying S) (quits : List ℕ → Bool) (s0 : S) (input w0 left written : Option (List ℕ)) (s : S)
    (line line' : List ℕ) (n n' : ℕ)
    → IsSessionAt R quits s0 input w0 left written s line n → line' ≡ line → n ≡ n' → IsSessionAt R quits s0 input w0 left written s line' n'
session_at_equal_count R quits s0 input w0 left written s line line' n n' at e f =
    record {
      bytes = at.bytes;
      count = at.count ∙ f;
      parts = at.parts;
      text = at.text;
      answered = at.answered;
      grown = at.grown;
      begun = e
          ∙ at.begun;
      quiet = at.quiet;
    }

module _ {S : Type 0} (R : Replying S) (quits : List ℕ → Bool)
    (long_replies : (s : S) (line text : List ℕ) (next : S) → R s (take most_kept_bytes line) text next → R s line text next)
    (long_quits : (line : List ℕ) → quits (take most_kept_bytes line) ≡ quits line) (s0 : S) (input w0 : Option (List ℕ)) where
  pub at_start : IsSessionAt R quits s0 input w0 input w0 s0 [] 0
  unfolding split_lines
  at_start = record {
    bytes = [];
    count = refl;
    parts = Consumes-nil input;
    text = [];
    answered = answered_no_lines R s0;
    grown =
        Appends-nil w0;
    begun = refl;
    quiet = some_quits_nil quits;
  }

  module _ (left left' written : Option (List ℕ)) (s : S) (line : List ℕ) (n : ℕ) (at : IsSessionAt R quits s0 input w0 left written s line n) where
    -- a byte that is no line feed
    pub at_byte : (line' : List ℕ) (b : ℕ) → Consumes left left' (b ∷ []) → eqb b 10 ≡ false → line' ≡ take most_kept_bytes (line ++ b ∷ [])
        → IsSessionAt R quits s0 input w0 left' written s line' (n + 1)
    at_byte line' b took ne kept =
        let k = split_adds_to_rest at.bytes b ne in
        let P : SplitBytes → Type 0 = λ c. LinesAnswered R s0 c.whole at.text s in
        record {
          bytes = at.bytes ++ b ∷ [];
          count = omega (arith, length-append at.bytes (b ∷ []), at.count);
          parts = Consumes-trans input left left' at.bytes (b ∷ []) at.parts took;
          text = at.text;
          answered = subst P (sym k) at.answered;
          grown = at.grown;
          begun = kept ∙ ap (λ (r : List ℕ). take most_kept_bytes (r ++ b ∷ [])) at.begun ∙ take_append_inner_take most_kept_bytes (split_lines at.bytes).rest (b ∷ [])
              ∙ ap (λ (c : SplitBytes). take most_kept_bytes c.rest) (sym k);
          quiet = ap (λ (c : SplitBytes). some_quits quits c.whole) k ∙ at.quiet;
        }

    -- the whole line may be answered as what was kept of it
    whole_reply : (text : List ℕ) (next : S) → R s line text next → R s (split_lines at.bytes).rest text next
    whole_reply text next is = let P : List ℕ → Type 0 = λ l. R s l text next in
        long_replies s (split_lines at.bytes).rest text next (subst P at.begun is)

    same_quits : quits line ≡ quits (split_lines at.bytes).rest
    same_quits = ap quits at.begun ∙ long_quits (split_lines at.bytes).rest

    -- the answers with that to the line whose line feed comes
    fed : (text : List ℕ) (next : S) → R s line text next
        → LinesAnswered R s0 ((split_lines at.bytes).whole ++ (split_lines at.bytes).rest ∷ []) (at.text ++ text) next
    fed text next is = lines_answered_append R s0 (split_lines at.bytes).whole ((split_lines at.bytes).rest ∷ []) at.text text s next at.answered
        (answered_one_line R s (split_lines at.bytes).rest text next (whole_reply text next is))

    fed_wrote : (next : S) (written' : Option (List ℕ)) → Replied R s line next written written'
        → Wrote R s0 ((split_lines at.bytes).whole ++ (split_lines at.bytes).rest ∷ []) w0 written'
    fed_wrote next written' p = record {
      text = at.text ++ p.text;
      last = next;
      answered = fed p.text next p.is;
      grown =
          Appends-trans w0 written written' at.text p.text at.grown p.grown;
    }

    fed_part : (written' : Option (List ℕ)) → RepliedPrefix R s line written written'
        → WroteInPart R s0 ((split_lines at.bytes).whole ++ (split_lines at.bytes).rest ∷ []) w0 written'
    fed_part written' p = record {
      before = (split_lines at.bytes).whole;
      line = (split_lines at.bytes).rest;
      are = refl;
      between = written;
      all = record { text = at.text; last = s; answered = at.answered; grown = at.grown };
      part = record { text = p.text; next = p.next; is = whole_reply p.text p.next p.is; grown = p.grown };
    }

    -- a line feed, whose line was answered and doesn't quit
    pub at_feed : (written' : Option (List ℕ)) (s' : S) → Consumes left left' (10 ∷ []) → Replied R s line s' written written'
        → quits line ≡ false → IsSessionAt R quits s0 input w0 left' written' s' [] (n + 1)
    unfolding split_lines
    at_feed written' s' took p q =
        let k = split_ends_at_feed at.bytes [] in
        let P : SplitBytes → Type 0 = λ c. LinesAnswered R s0 c.whole (at.text ++ p.text) s' in
        record {
          bytes = at.bytes ++ 10 ∷ [];
          count = omega (arith, length-append at.bytes (10 ∷ []), at.count);
          parts = Consumes-trans input left left' at.bytes (10 ∷ []) at.parts took;
          text = at.text ++ p.text;
          answered = subst P (sym k) (fed p.text s' p.is);
          grown = Appends-trans w0 written written' at.text p.text at.grown p.grown;
          begun = ap (λ (c : SplitBytes). take most_kept_bytes c.rest) (sym k);
          quiet = ap (λ (c : SplitBytes). some_quits quits c.whole) k
              ∙ some_quits_append quits (split_lines at.bytes).whole ((split_lines at.bytes).rest ∷ []) at.quiet ∙ some_quits_of_one_line quits (split_lines at.bytes).rest
              ∙ sym same_quits ∙ q;
        }

    module _ (limit : ℕ) (below : n < limit) where
      short : length at.bytes < limit
      short = omega (arith, at.count)

      -- a line feed, whose line was answered and quits
      pub quit_ended : (next : S) (written' : Option (List ℕ)) → Consumes left left' (10 ∷ []) → Replied R s line next written written'
          → quits line ≡ true → ReadsUpTo limit input left' (LeadsTo R quits s0 limit (Ok Quit) w0 written')
      quit_ended next written' took p q = record {
        consumed = at.bytes ++ 10 ∷ [];
        taken = Consumes-trans input left left' at.bytes (10 ∷ []) at.parts took;
        within = omega (arith, length-append at.bytes (10 ∷ []), at.count);
        holds = leads_quit R quits s0 limit w0 written' at.bytes at.quiet [] short (sym same_quits ∙ q) (fed_wrote next written' p);
      }

      pub quit_known : (next : S) (written' : Option (List ℕ)) → Consumes left left' (10 ∷ []) → Replied R s line next written written'
          → quits line ≡ true → IfSome input (LeadsTo R quits s0 limit (Ok Quit) w0 written')
      quit_known next written' took p q = consumed_input_satisfies input left' (at.bytes ++ 10 ∷ []) (LeadsTo R quits s0 limit (Ok Quit) w0 written')
          (Consumes-trans input left left' at.bytes (10 ∷ []) at.parts took)
          (λ (r : List ℕ). subst (LeadsTo R quits s0 limit (Ok Quit) w0 written') (sym (append_assoc at.bytes (10 ∷ []) r))
          (leads_quit R quits s0 limit w0 written' at.bytes at.quiet r short (sym same_quits ∙ q) (fed_wrote next written' p)))

      -- the writer failed in the answer to a line whose line feed came
      pub feed_failed : (written' : Option (List ℕ)) → Consumes left left' (10 ∷ []) → RepliedPrefix R s line written written'
          → ReadsUpTo limit input left' (λ consumed. (through quits (lines_of consumed) ≡ lines_of consumed)
          × (((split_lines consumed).rest ≡ [] → ⊥) → IsAtEnd left') × WroteInPart R s0 (lines_of consumed) w0 written')
      unfolding split_lines
      feed_failed written' took p =
          let k = split_ends_at_feed at.bytes [] in
          let lines : lines_of (at.bytes ++ 10 ∷ []) ≡ (split_lines at.bytes).whole ++ (split_lines at.bytes).rest ∷ [] =
          ap (λ (c : SplitBytes). c.whole ++ last_line c.rest) k ∙ append-nil ((split_lines at.bytes).whole ++ (split_lines at.bytes).rest ∷ []) in
          let none : (split_lines (at.bytes ++ 10 ∷ [])).rest ≡ [] = ap (λ (c : SplitBytes). c.rest) k in
          let P : List (List ℕ) → Type 0 = λ x. WroteInPart R s0 x w0 written' in
          record {
            consumed = at.bytes ++ 10 ∷ [];
            taken = Consumes-trans input left left' at.bytes (10 ∷ []) at.parts took;
            within = omega (arith, length-append at.bytes (10 ∷ []), at.count);
            holds = (
              ap (through quits) lines ∙ through_append_no_quit quits (split_lines at.bytes).whole ((split_lines at.bytes).rest ∷ []) at.quiet
                  ∙ ap (λ (t : List (List ℕ)). (split_lines at.bytes).whole ++ t) (through_of_one_line quits (split_lines at.bytes).rest) ∙ sym lines,
              λ some. absurd (some none),
              subst P (sym lines) (fed_part written' p),
            );
          }

      -- the reader failed
      pub read_failed : Keeps left left' → ReadsUpTo limit input left'
          (λ consumed. (some_quits quits (split_lines consumed).whole ≡ false) × Wrote R s0 (split_lines consumed).whole w0 written)
      read_failed kept = record {
        consumed = at.bytes;
        taken = Consumes-kept input left left' at.bytes at.parts kept;
        within = omega (arith, at.count);
        holds = (at.quiet, record { text = at.text; last = s; answered = at.answered; grown = at.grown });
      }

      last_quits : some_quits quits (last_line line) ≡ some_quits quits (last_line (split_lines at.bytes).rest)
      last_quits = ap (λ (l : List ℕ). some_quits quits (last_line l)) at.begun
          ∙ quits_ignores_take quits 1024 (split_lines at.bytes).rest long_quits

      -- the answers with that to what the input ended in
      all : (text : List ℕ) (last : S) → LinesAnswered R s (last_line line) text last → LinesAnswered R s0 (lines_of at.bytes) (at.text ++ text) last
      all text last done =
          let P : List ℕ → Type 0 = λ l. LinesAnswered R s (last_line l) text last in
          lines_answered_append R s0 (split_lines at.bytes).whole (last_line (split_lines at.bytes).rest) at.text text s last at.answered
          (answered_last_by_prefix R long_replies s (split_lines at.bytes).rest text last (subst P at.begun done))

      all_wrote : (written' : Option (List ℕ)) → Wrote R s (last_line line) written written' → Wrote R s0 (lines_of at.bytes) w0 written'
      all_wrote written' p = record {
        text = at.text ++ p.text;
        last = p.last;
        answered = all p.text p.last p.answered;
        grown =
            Appends-trans w0 written written' at.text p.text at.grown p.grown;
      }

      -- what the input ended in isn't empty, as what was kept of it isn't
      ended_line : (line ≡ [] → ⊥) → lines_of at.bytes ≡ (split_lines at.bytes).whole ++ (split_lines at.bytes).rest ∷ []
      ended_line some = ap (λ (ls : List (List ℕ)). (split_lines at.bytes).whole ++ ls)
          (last_line_nonempty (split_lines at.bytes).rest (λ none. some (at.begun ∙ ap (take most_kept_bytes) none)))

      module _ (took : Consumes left left' []) where
        ended_bytes : Consumes input left' at.bytes
        ended_bytes = subst (Consumes input left') (append-nil at.bytes) (Consumes-trans input left left' at.bytes [] at.parts took)

        -- the input ended, and what it ended in was answered
        end_leads : (e : Served) (written' : Option (List ℕ)) → Wrote R s (last_line line) written written'
            → e ≡ served_after (some_quits quits (last_line line)) → LeadsTo R quits s0 limit (Ok e) w0 written' at.bytes
        end_leads e written' p served = leads_end R quits s0 limit w0 written' at.bytes at.quiet e short
            (served ∙ ap served_after last_quits) (all_wrote written' p)

        pub end_ended : (e : Served) (written' : Option (List ℕ)) → Wrote R s (last_line line) written written'
            → e ≡ served_after (some_quits quits (last_line line)) → ReadsUpTo limit input left' (LeadsTo R quits s0 limit (Ok e) w0 written')
        end_ended e written' p served = record {
          consumed = at.bytes;
          taken = ended_bytes;
          within = omega (arith, at.count);
          holds =
              end_leads e written' p served;
        }

        pub end_known : (e : Served) (written' : Option (List ℕ)) → IsAtEnd left' → Wrote R s (last_line line) written written'
            → e ≡ served_after (some_quits quits (last_line line)) → IfSome input (LeadsTo R quits s0 limit (Ok e) w0 written')
        end_known e written' gone p served = Consumes-whole input left' at.bytes (LeadsTo R quits s0 limit (Ok e) w0 written') ended_bytes
            gone (end_leads e written' p served)

        -- the writer failed in the answer to what the input ended in
        pub end_failed : (written' : Option (List ℕ)) → IsAtEnd left' → (line ≡ [] → ⊥) → RepliedPrefix R s line written written'
            → ReadsUpTo limit input left' (λ consumed. (through quits (lines_of consumed) ≡ lines_of consumed)
            × (((split_lines consumed).rest ≡ [] → ⊥) → IsAtEnd left') × WroteInPart R s0 (lines_of consumed) w0 written')
        end_failed written' gone some p =
            let P : List (List ℕ) → Type 0 = λ x. WroteInPart R s0 x w0 written' in
            record {
              consumed = at.bytes;
              taken = ended_bytes;
              within = omega (arith, at.count);
              holds = (
                through_append_no_quit quits (split_lines at.bytes).whole (last_line (split_lines at.bytes).rest) at.quiet
                    ∙ ap (λ (t : List (List ℕ)). (split_lines at.bytes).whole ++ t) (through_keeps_last_line quits (split_lines at.bytes).rest),
                λ _. gone,
                subst P (sym (ended_line some)) (fed_part written' p),
              );
            }

        -- what finishing answered
        pub finish_ended : (result : Result Served Fault) (written' : Option (List ℕ))
            → OnOk result (Wrote R s (last_line line) written written')
            → IfOk result (λ e. e ≡ served_after (some_quits quits (last_line line)))
            → IfErr result (λ f. f ≡ Write) → IfEnded result (ReadsUpTo limit input left' (LeadsTo R quits s0 limit result w0 written'))
        finish_ended (Ok e) written' p served fault = end_ended e written' p served
        finish_ended (Err Read) written' p served fault = tt
        finish_ended (Err Write) written' p served fault = tt
        finish_ended (Err TooLong) written' p served fault = absurd cc

        pub finish_known : (result : Result Served Fault) (written' : Option (List ℕ)) → IsAtEnd left'
            → OnOk result (Wrote R s (last_line line) written written')
            → IfOk result (λ e. e ≡ served_after (some_quits quits (last_line line)))
            → IfErr result (λ f. f ≡ Write) → IfEnded result (IfSome input (LeadsTo R quits s0 limit result w0 written'))
        finish_known (Ok e) written' gone p served fault = end_known e written' gone p served
        finish_known (Err Read) written' gone p served fault = tt
        finish_known (Err Write) written' gone p served fault = tt
        finish_known (Err TooLong) written' gone p served fault = absurd cc

        pub finish_failed : (result : Result Served Fault) (written' : Option (List ℕ)) → IsAtEnd left' → result ≡ Err Write
            → OnErr result (line ≡ [] → ⊥) → OnErr result (RepliedPrefix R s line written written')
            → ReadsUpTo limit input left' (λ consumed. (through quits (lines_of consumed) ≡ lines_of consumed)
            × (((split_lines consumed).rest ≡ [] → ⊥) → IsAtEnd left') × WroteInPart R s0 (lines_of consumed) w0 written')
        finish_failed (Ok e) written' gone failed some p = absurd cc
        finish_failed (Err x) written' gone failed some p = end_failed written' gone some p

  -- the limit came
  module _ (left written : Option (List ℕ)) (s : S) (line : List ℕ) (limit : ℕ)
      (at : IsSessionAt R quits s0 input w0 left written s line limit) where
    so_far : Wrote R s0 (split_lines at.bytes).whole w0 written
    so_far = record { text = at.text; last = s; answered = at.answered; grown = at.grown }

    pub long_ended : ReadsUpTo limit input left (LeadsTo R quits s0 limit (Err TooLong) w0 written)
    long_ended = record {
      consumed = at.bytes;
      taken = at.parts;
      within = omega (arith, at.count);
      holds = subst (LeadsTo R quits s0 limit (Err TooLong) w0 written) (append-nil at.bytes)
          (leads_long R quits s0 limit w0 written at.bytes at.quiet [] at.count so_far);
    }

    pub long_known : IfSome input (LeadsTo R quits s0 limit (Err TooLong) w0 written)
    long_known = consumed_input_satisfies input left at.bytes (LeadsTo R quits s0 limit (Err TooLong) w0 written) at.parts
        (λ (r : List ℕ). leads_long R quits s0 limit w0 written at.bytes at.quiet r at.count so_far)

-- a prefix of a text after all of another, where a write may have failed
pub prefix_after_whole : {A E : Type 0} (r : Result A E) (a b c : Option (List ℕ)) (done text : List ℕ) → Appends a b done
    → OnErr r (AppendsPrefix b c text) → OnErr r (AppendsPrefix a c (done ++ text))
prefix_after_whole (Ok x) a b c done text begun f = tt
prefix_after_whole (Err e) a b c done text begun f = appends_prefix_append a b c done text begun f
