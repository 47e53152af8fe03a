-- What a stream holds byte by byte, and what is written for its items.
use Rattle.std.proofs.Common.{◌≡◌, ◌==◌, if◌then◌else◌, ◌≤◌, ◌<◌, ◌+◌, ◌-◌, ◌∙◌, ℕ, zero, suc, Bool, true, false, cond, ltb, List, [], ◌∷◌}
use Rattle.std.proofs.Common.{◌++◌, length, take, Option, Some, None, Ok, Err, IfSome, refl, sym, ap, subst, arith, append_assoc}
use Rattle.std.proofs.Common.{append-nil, length-append, ltb-false, lt-ltb, le-ltb, take_all}
use Rattle.std.specs.Io.KnownBytes.{Appends, Consumes, Keeps, IsAtEnd}
use Rattle.std.proofs.KnownBytes.{Consumes-nil, Consumes-trans, Consumes-kept, Consumes-whole, Appends-nil, Appends-trans}
use Rattle.ir_stream.specs.Answers.{ReadsUpTo}
use Rattle.ir_stream.specs.declared.serving.Served.TheVariants.{Quit, InputEnd}
use Rattle.ir_stream.specs.declared.serving.Fault.TheVariants as fault
use Rattle.ir_packet.specs.Packets.{unescaped, unescaped_from, escape, two_digits, checksum, is_number}
use Rattle.ir_packet.specs.Stream.{Item, Packet, TooLong, BadSum, Place, Between, Inside, Summing, Digit, packet_item, items_from, items, place_after, step}
use Rattle.ir_packet.specs.Stream as stream
use Rattle.ir_packet.specs.Reading.{kept, items_found, item_found}
use Rattle.ir_packet.specs.declared.found.Found.{Found}
use Rattle.ir_packet.specs.declared.found.Found.TheVariants as found
use Rattle.ir_packet.proofs.CallerLemmas.{ends_ignores_kept, kept_step_ignores_kept, items_from_of_append}
use Rattle.ir_gdb.specs.Connection.{Link, AnswersItem, Rest, RepliesToItems, item_ends, WroteReplies, Sent, SentInPart, before_reply, WroteRepliesInPart, LeadsToLink}
use Rattle.ir_stream.proofs.CallerLemmas.{consumed_input_satisfies}

-- ---- the payload of a packet that is found

unescaped_not_longer : (e : Bool) (raw : List ℕ) → length (unescaped_from e raw) ≤ length raw
unfolding unescaped_from
unescaped_not_longer e [] = omega arith
unescaped_not_longer true (b ∷ rest) = let few = unescaped_not_longer false rest in omega (arith, few)
unescaped_not_longer false (b ∷ rest) =
    let kept : length (unescaped_from false rest) ≤ length rest = unescaped_not_longer false rest in
    let begun : length (unescaped_from true rest) ≤ length rest = unescaped_not_longer true rest in
    by_escape (b == escape) rest b kept begun
  where
    by_escape : (t : Bool) (rest : List ℕ) (b : ℕ) → length (unescaped_from false rest) ≤ length rest → length (unescaped_from true rest) ≤ length rest
        → length (if t then unescaped_from true rest else b ∷ unescaped_from false rest) ≤ suc (length rest)
    by_escape true rest b p q = omega (arith, q)
    by_escape false rest b p q = omega (arith, p)

packet_payload_within : (raw : List ℕ) (a b : ℕ) (payload : List ℕ) (long is : Bool) → ltb 4096 (length raw) ≡ long → is_number (two_digits a b) (checksum raw) ≡ is
    → (if long then TooLong else if is then Packet (unescaped raw) else BadSum) ≡ Packet payload → length payload ≤ 4096
packet_payload_within raw a b payload true is l i e = absurd cc
packet_payload_within raw a b payload false true l i e =
    let same : unescaped raw ≡ payload = cc in
    let most : length raw ≤ 4096 = ltb-false 4096 (length raw) l in
    let few : length (unescaped raw) ≤ length raw = unescaped_not_longer false raw in
    let len : length (unescaped raw) ≡ length payload = ap (λ (xs : List ℕ). length xs) same in
    omega (arith, most, few, len)
packet_payload_within raw a b payload false false l i e = absurd cc

equal_lists_same_head : (x y : Item) (xs ys : List Item) → x ∷ xs ≡ y ∷ ys → x ≡ y
equal_lists_same_head x y xs ys e = cc

single_byte_no_packet : (b : ℕ) (payload : List ℕ) (one two three : Bool) → Packet payload ∷ [] ≡ (if one then stream.Interrupt ∷ [] else if two then stream.Acknowledged ∷ []
    else if three then stream.Refused ∷ [] else []) → ⊥
single_byte_no_packet b payload true two three e = absurd cc
single_byte_no_packet b payload false true three e = absurd cc
single_byte_no_packet b payload false false true e = absurd cc
single_byte_no_packet b payload false false false e = absurd cc

ended_payload_within : (p : Place) (b : ℕ) (payload : List ℕ) → Packet payload ∷ [] ≡ stream.ended_items p b → length payload ≤ 4096
ended_payload_within Between b payload e = absurd (single_byte_no_packet b payload (b == 3) (b == 43) (b == 45) e)
ended_payload_within (Inside raw) b payload e = absurd cc
ended_payload_within (Summing raw) b payload e = absurd cc
ended_payload_within (Digit raw a) b payload e = packet_payload_within raw a b payload (ltb 4096 (length raw)) (is_number (two_digits a b) (checksum raw)) refl refl
    (sym (equal_lists_same_head (Packet payload) (packet_item raw a b) [] [] e))

-- a payload that a reader has found is no longer than the most bytes of a packet
pub found_payload_within : (f : Found) (p : Place) (b : ℕ) (payload : List ℕ) → items_found (Some f) payload ≡ stream.ended_items p b → f ≡ found.Packet
    → length payload ≤ 4096
found_payload_within found.Packet p b payload e is = ended_payload_within p b payload e
found_payload_within found.BadSum p b payload e is = absurd cc
found_payload_within found.TooLong p b payload e is = absurd cc
found_payload_within found.Interrupt p b payload e is = absurd cc
found_payload_within found.Acknowledged p b payload e is = absurd cc
found_payload_within found.Refused p b payload e is = absurd cc

-- ---- answers to items, one list after the other

answers_to_no_items : (l : Link) → RepliesToItems l [] false [] l
unfolding RepliesToItems
answers_to_no_items l = (refl, refl, refl)

rest_of_appended_items : (b : Bool) (more after : Bool → List ℕ → Link → Type 0) (next : Link) (ended : Bool) (text text' : List ℕ) (mid last : Link)
    → ((more false text mid) → after ended (text ++ text') last) → Rest b more next false text mid → Rest b after next ended (text ++ text') last
rest_of_appended_items true more after next ended text text' mid last go p = absurd (true-not-false p.0)
  where
    true-not-false : false ≡ true → ⊥
    true-not-false e = absurd cc
rest_of_appended_items false more after next ended text text' mid last go p = go p

-- none of the first ends the connection
answers_appended_items : (l : Link) (xs ys : List Item) (ended : Bool) (text text' : List ℕ) (mid last : Link) → RepliesToItems l xs false text mid
    → RepliesToItems mid ys ended text' last → RepliesToItems l (xs ++ ys) ended (text ++ text') last
unfolding RepliesToItems
answers_appended_items l [] ys ended text text' mid last a b =
    subst (λ (m : Link). RepliesToItems m ys ended (text ++ text') last) a.2
    (subst (λ (t : List ℕ). RepliesToItems mid ys ended (t ++ text') last) (sym a.1) b)
answers_appended_items l (x ∷ xs) ys ended text text' mid last (first, next, rest, answers, more, is) b = (
  first,
  next,
  rest ++ text',
  answers,
  rest_of_appended_items (item_ends l x) (RepliesToItems next xs) (RepliesToItems next (xs ++ ys)) next ended rest text' mid last
      (λ p. answers_appended_items next xs ys ended rest text' mid last p b) more,
  ap (λ (t : List ℕ). t ++ text') is ∙ append_assoc first rest text',
)

rest_of_ended_items : (b : Bool) (more after : Bool → List ℕ → Link → Type 0) (next : Link) (text : List ℕ) (last : Link)
    → (more true text last → after true text last) → Rest b more next true text last → Rest b after next true text last
rest_of_ended_items true more after next text last go p = p
rest_of_ended_items false more after next text last go p = go p

-- behind one that ends the connection nothing counts
answers_past_ending : (l : Link) (xs ys : List Item) (text : List ℕ) (last : Link) → RepliesToItems l xs true text last → RepliesToItems l (xs ++ ys) true text last
unfolding RepliesToItems
answers_past_ending l [] ys text last a = absurd cc
answers_past_ending l (x ∷ xs) ys text last (first, next, rest, answers, more, is) = (
  first,
  next,
  rest,
  answers,
  rest_of_ended_items (item_ends l x) (RepliesToItems next xs) (RepliesToItems next (xs ++ ys)) next rest last (λ p. answers_past_ending next xs ys rest last p) more,
  is,
)

rest_of_single_item : (b : Bool) (next : Link) → Rest b (RepliesToItems next []) next b [] next
unfolding RepliesToItems
rest_of_single_item true next = (refl, refl, refl)
rest_of_single_item false next = (refl, refl, refl)

answers_to_single_item : (l : Link) (x : Item) (b : Bool) (text : List ℕ) (next : Link) → item_ends l x ≡ b → AnswersItem l x text next
    → RepliesToItems l (x ∷ []) b text next
unfolding RepliesToItems
answers_to_single_item l x b text next is a =
    (text, next, [], a, subst (λ (c : Bool). Rest c (RepliesToItems next []) next b [] next) (sym is) (rest_of_single_item b next), sym (append-nil text))

-- ---- after each byte

-- after these bytes: what is left, what was written, the connection, and the reader's place
pub record AfterBytes (l0 : Link) (input w0 left written : Option (List ℕ)) (l : Link) (place : Place) (n : ℕ) : Type 0 where
  pub bytes : List ℕ
  pub count : length bytes ≡ n
  pub parts : Consumes input left bytes
  pub text : List ℕ
  pub answers : RepliesToItems l0 (items bytes) false text l
  pub grown : Appends w0 written text
  pub stands : place ≡ kept (place_after Between bytes)

pub after_bytes_at_start : (l : Link) (input w0 : Option (List ℕ)) (place : Place) → place ≡ Between → AfterBytes l input w0 input w0 l place 0
unfolding items_from place_after
after_bytes_at_start l input w0 place begins = record {
  bytes = [];
  count = refl;
  parts = Consumes-nil input;
  text = [];
  answers = answers_to_no_items l;
  grown = Appends-nil w0;
  stands = begins;
}

items_from_single_byte : (p : Place) (b : ℕ) → items_from p (b ∷ []) ≡ stream.ended_items p b
unfolding items_from
items_from_single_byte p b = append-nil (stream.ended_items p b)

place_after_push : (p : Place) (bytes : List ℕ) (b : ℕ) → place_after p (bytes ++ b ∷ []) ≡ step (place_after p bytes) b
unfolding place_after
place_after_push p [] b = refl
place_after_push p (x ∷ bytes) b = place_after_push (step p x) bytes b

-- what a byte ends is found, whatever of the packet is kept
items_push : (bytes : List ℕ) (b : ℕ) (place : Place) (ended : List Item) → place ≡ kept (place_after Between bytes) → ended ≡ stream.ended_items place b
    → items (bytes ++ b ∷ []) ≡ items bytes ++ ended
items_push bytes b place ended is finds = items_from_of_append Between bytes (b ∷ [])
    ∙ ap (λ (xs : List Item). items bytes ++ xs) (items_from_single_byte (place_after Between bytes) b ∙ sym (ends_ignores_kept (place_after Between bytes) b)
    ∙ ap (λ (p : Place). stream.ended_items p b) (sym is) ∙ sym finds)

kept_place_push : (bytes : List ℕ) (b : ℕ) (place next : Place) → place ≡ kept (place_after Between bytes) → next ≡ kept (step place b)
    → next ≡ kept (place_after Between (bytes ++ b ∷ []))
kept_place_push bytes b place next is steps = steps ∙ ap (λ (p : Place). kept (step p b)) is ∙ kept_step_ignores_kept (place_after Between bytes) b
    ∙ ap kept (sym (place_after_push Between bytes b))

take_first_part : (xs rest : List ℕ) (n : ℕ) → length xs ≡ n → take n (xs ++ rest) ≡ xs
take_first_part [] rest n e = ap (λ (k : ℕ). take k rest) (sym e)
take_first_part (x ∷ xs) rest zero e = absurd (positive (length xs) e)
  where
    positive : (k : ℕ) → suc k ≡ 0 → ⊥
    positive k h = omega (arith, h)
take_first_part (x ∷ xs) rest (suc n) e = let less : length xs ≡ n = omega (arith, e) in ap (λ (ys : List ℕ). x ∷ ys) (take_first_part xs rest n less)

take_beyond_first_part : (xs rest : List ℕ) (limit : ℕ) → length xs ≤ limit → take limit (xs ++ rest) ≡ xs ++ take (limit - length xs) rest
take_beyond_first_part [] rest limit h = let all : limit ≡ limit - 0 = omega arith in ap (λ (k : ℕ). take k rest) all
take_beyond_first_part (x ∷ xs) rest zero h = absurd (none (length xs) h)
  where
    none : (k : ℕ) → suc k ≤ 0 → ⊥
    none k h = omega (arith, h)
take_beyond_first_part (x ∷ xs) rest (suc limit) h =
    let less : limit - length xs ≡ suc limit - suc (length xs) = omega arith in
    ap (λ (ys : List ℕ). x ∷ ys) (take_beyond_first_part xs rest limit (omega (arith, h))) ∙ ap (λ (k : ℕ). x ∷ (xs ++ take k rest)) less

module _ (l0 : Link) (input w0 left left' written : Option (List ℕ)) (l : Link) (place : Place) (n : ℕ)
    (at : AfterBytes l0 input w0 left written l place n) where
  -- a byte that ends nothing
  pub at_byte : (b : ℕ) (next : Place) (payload : List ℕ) → Consumes left left' (b ∷ []) → items_found None payload ≡ stream.ended_items place b
      → next ≡ kept (step place b) → AfterBytes l0 input w0 left' written l next (n + 1)
  at_byte b next payload took finds steps = record {
    bytes = at.bytes ++ b ∷ [];
    count = omega (arith, length-append at.bytes (b ∷ []), at.count);
    parts = Consumes-trans input left left' at.bytes (b ∷ []) at.parts took;
    text = at.text;
    answers = subst (λ (xs : List Item). RepliesToItems l0 xs false at.text l)
        (sym (items_push at.bytes b place [] at.stands finds ∙ append-nil (items at.bytes))) at.answers;
    grown = at.grown;
    stands = kept_place_push at.bytes b place next at.stands steps;
  }

  module _ (b : ℕ) (f : Found) (payload : List ℕ) (took : Consumes left left' (b ∷ []))
      (finds : items_found (Some f) payload ≡ stream.ended_items place b) where
    all_items : items (at.bytes ++ b ∷ []) ≡ items at.bytes ++ item_found f payload ∷ []
    all_items = items_push at.bytes b place (item_found f payload ∷ []) at.stands finds

    all_taken : Consumes input left' (at.bytes ++ b ∷ [])
    all_taken = Consumes-trans input left left' at.bytes (b ∷ []) at.parts took

    all_count : length (at.bytes ++ b ∷ []) ≡ n + 1
    all_count = omega (arith, length-append at.bytes (b ∷ []), at.count)

    -- the answers with that to the item which the byte ends
    all_answers : (next : Link) (written' : Option (List ℕ)) (e : Bool) → item_ends l (item_found f payload) ≡ e
        → (s : Sent (AnswersItem l (item_found f payload)) next written written') → RepliesToItems l0 (items (at.bytes ++ b ∷ [])) e (at.text ++ s.text) next
    all_answers next written' e is s = subst (λ (xs : List Item). RepliesToItems l0 xs e (at.text ++ s.text) next) (sym all_items)
        (answers_appended_items l0 (items at.bytes) (item_found f payload ∷ []) e at.text s.text l next at.answers
        (answers_to_single_item l (item_found f payload) e s.text next is s.is))

    pub at_item : (next : Link) (written' : Option (List ℕ)) (place' : Place) → place' ≡ kept (step place b)
        → item_ends l (item_found f payload) ≡ false → Sent (AnswersItem l (item_found f payload)) next written written'
        → AfterBytes l0 input w0 left' written' next place' (n + 1)
    at_item next written' place' steps goes s = record {
      bytes = at.bytes ++ b ∷ [];
      count = all_count;
      parts = all_taken;
      text = at.text ++ s.text;
      answers = all_answers next written' false goes s;
      grown = Appends-trans w0 written written' at.text s.text at.grown s.grown;
      stands = kept_place_push at.bytes b place place' at.stands steps;
    }

    module _ (limit : ℕ) (below : n < limit) where
      -- the first bytes that may be read are these and others
      within_limit : (rest : List ℕ) → take limit ((at.bytes ++ b ∷ []) ++ rest) ≡ (at.bytes ++ b ∷ []) ++ take (limit - length (at.bytes ++ b ∷ [])) rest
      within_limit rest = take_beyond_first_part (at.bytes ++ b ∷ []) rest limit (omega (arith, all_count, below))

      -- the item ended the connection
      quit_leads : (next : Link) (written' : Option (List ℕ)) (rest : List ℕ) → item_ends l (item_found f payload) ≡ true
          → Sent (AnswersItem l (item_found f payload)) next written written' → LeadsToLink l0 limit (Ok Quit) w0 written' ((at.bytes ++ b ∷ []) ++ rest)
      quit_leads next written' rest quits s = record {
        ended = true;
        ending = refl;
        wrote = record {
          text = at.text ++ s.text;
          last = next;
          answers = subst (λ (bytes : List ℕ). RepliesToItems l0 (items bytes) true (at.text ++ s.text) next) (sym (within_limit rest))
              (subst (λ (xs : List Item). RepliesToItems l0 xs true (at.text ++ s.text) next)
              (sym (items_from_of_append Between (at.bytes ++ b ∷ []) (take (limit - length (at.bytes ++ b ∷ [])) rest)))
              (answers_past_ending l0 (items (at.bytes ++ b ∷ [])) _ (at.text ++ s.text) next (all_answers next written' true quits s)));
          grown = Appends-trans w0 written written' at.text s.text at.grown s.grown;
        };
      }

      pub quit_ended : (next : Link) (written' : Option (List ℕ)) → item_ends l (item_found f payload) ≡ true
          → Sent (AnswersItem l (item_found f payload)) next written written' → ReadsUpTo limit input left' (LeadsToLink l0 limit (Ok Quit) w0 written')
      quit_ended next written' quits s = record {
        consumed = at.bytes ++ b ∷ [];
        taken = all_taken;
        within = omega (arith, all_count, below);
        holds = subst (LeadsToLink l0 limit (Ok Quit) w0 written') (append-nil (at.bytes ++ b ∷ [])) (quit_leads next written' [] quits s);
      }

      pub quit_known : (next : Link) (written' : Option (List ℕ)) → item_ends l (item_found f payload) ≡ true
          → Sent (AnswersItem l (item_found f payload)) next written written' → IfSome input (LeadsToLink l0 limit (Ok Quit) w0 written')
      quit_known next written' quits s = consumed_input_satisfies input left' (at.bytes ++ b ∷ []) (LeadsToLink l0 limit (Ok Quit) w0 written') all_taken
          (λ rest. quit_leads next written' rest quits s)

      -- the writer failed in the answer to the item
      pub write_failed : (written' : Option (List ℕ))
          → SentInPart (AnswersItem l (item_found f payload)) (before_reply l (item_found f payload)) written written'
          → ReadsUpTo limit input left' (λ consumed. WroteRepliesInPart l0 (items consumed) w0 written')
      write_failed written' s = record {
        consumed = at.bytes ++ b ∷ [];
        taken = all_taken;
        within = omega (arith, all_count, below);
        holds = record {
          before = items at.bytes;
          item = item_found f payload;
          are = all_items;
          between = written;
          all = record { text = at.text; last = l; answers = at.answers; grown = at.grown };
          part = s;
        };
      }

  module _ (limit : ℕ) (below : n < limit) where
    -- the reader failed
    pub read_failed : Keeps left left' → ReadsUpTo limit input left' (λ consumed. WroteReplies l0 (items consumed) false w0 written)
    read_failed kept = record {
      consumed = at.bytes;
      taken = Consumes-kept input left left' at.bytes at.parts kept;
      within = omega (arith, at.count, below);
      holds = record { text = at.text; last = l; answers = at.answers; grown = at.grown };
    }

    -- the input ended
    end_leads : LeadsToLink l0 limit (Ok InputEnd) w0 written at.bytes
    end_leads =
        let short : length at.bytes < limit = omega (arith, at.count, below) in
        record {
          ended = false;
          ending = ap (λ (t : Bool). cond t (Ok InputEnd) (Err fault.TooLong)) (sym (lt-ltb (length at.bytes) limit short));
          wrote = record {
            text = at.text;
            last = l;
            answers = subst (λ (bytes : List ℕ). RepliesToItems l0 (items bytes) false at.text l) (sym (take_all limit at.bytes (omega (arith, short)))) at.answers;
            grown = at.grown;
          };
        }

    ended_bytes : Consumes left left' [] → Consumes input left' at.bytes
    ended_bytes took = subst (Consumes input left') (append-nil at.bytes) (Consumes-trans input left left' at.bytes [] at.parts took)

    pub end_ended : Consumes left left' [] → ReadsUpTo limit input left' (LeadsToLink l0 limit (Ok InputEnd) w0 written)
    end_ended took = record {
      consumed = at.bytes;
      taken = ended_bytes took;
      within = omega (arith, at.count, below);
      holds = end_leads;
    }

    pub end_known : Consumes left left' [] → IsAtEnd left' → IfSome input (LeadsToLink l0 limit (Ok InputEnd) w0 written)
    end_known took gone = Consumes-whole input left' at.bytes (LeadsToLink l0 limit (Ok InputEnd) w0 written) (ended_bytes took) gone end_leads

-- the limit came
module _ (l0 : Link) (input w0 left written : Option (List ℕ)) (l : Link) (place : Place) (limit : ℕ)
    (at : AfterBytes l0 input w0 left written l place limit) where
  long_leads : (rest : List ℕ) → LeadsToLink l0 limit (Err fault.TooLong) w0 written (at.bytes ++ rest)
  long_leads rest =
      let long : limit ≤ length (at.bytes ++ rest) = omega (arith, length-append at.bytes rest, at.count) in
      record {
        ended = false;
        ending = ap (λ (t : Bool). cond t (Ok InputEnd) (Err fault.TooLong)) (sym (le-ltb (length (at.bytes ++ rest)) limit long));
        wrote = record {
          text = at.text;
          last = l;
          answers = subst (λ (bytes : List ℕ). RepliesToItems l0 (items bytes) false at.text l) (sym (take_first_part at.bytes rest limit at.count)) at.answers;
          grown = at.grown;
        };
      }

  pub long_ended : ReadsUpTo limit input left (LeadsToLink l0 limit (Err fault.TooLong) w0 written)
  long_ended = record {
    consumed = at.bytes;
    taken = at.parts;
    within = omega (arith, at.count);
    holds = subst (LeadsToLink l0 limit (Err fault.TooLong) w0 written) (append-nil at.bytes) (long_leads []);
  }

  pub long_known : IfSome input (LeadsToLink l0 limit (Err fault.TooLong) w0 written)
  long_known = consumed_input_satisfies input left at.bytes (LeadsToLink l0 limit (Err fault.TooLong) w0 written) at.parts long_leads
