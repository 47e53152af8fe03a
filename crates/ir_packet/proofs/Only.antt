-- A packet is cut off by the end of a stream or by `$`, and a stream has one list of such parts.
use Rattle.std.proofs.Common.{◌≡◌, ◌++◌, ◌∷◌, [], ℕ, List, Bool, true, false, cond, eqb, refl, sym, ap, ◌∙◌, subst, append_assoc, append-nil, ne_eqb}
use Rattle.std.specs.Prelude.{flat_map, ⊤}
use Rattle.std.specs.List.{AllByRecursion}
use Rattle.ir_packet.specs.Stream.{Place, Between, Inside, Summing, Digit, step}
use Rattle.ir_packet.specs.Parts.{Part, Byte, Whole, CutOff, bytes_of, begun_packet, parts_from, parts, IsPlain, IsPlainPlace, IsStreamPart, BeginsPacket, CutsOff, AreCutOff}
use Rattle.ir_packet.proofs.Cut.{inside_by, step_keeps_plain_place, not_between_by_test}

-- ---- each that is cut off is so

-- parts that begin with `$`, or none
abbrev AreBegun : List Part → Type 0
AreBegun [] = ⊤
AreBegun (p ∷ ps) = BeginsPacket p

-- from a place in a packet on
packet_parts_begun : (p : Place) (bytes : List ℕ) → (p ≡ Between → ⊥) → AreBegun (parts_from p bytes)
unfolding parts_from
packet_parts_begun Between bytes inside = absurd (inside refl)
packet_parts_begun (Inside raw) [] inside = tt
packet_parts_begun (Summing raw) [] inside = tt
packet_parts_begun (Digit raw a) [] inside = tt
packet_parts_begun (Digit raw a) (b ∷ bytes) inside = tt
packet_parts_begun (Summing raw) (b ∷ bytes) inside = packet_parts_begun (Digit raw b) bytes (not_between_by_test (Digit raw b) refl)
packet_parts_begun (Inside raw) (b ∷ bytes) inside = by (eqb b 36) (eqb b 35) (packet_parts_begun (Inside (raw ++ b ∷ [])) bytes (not_between_by_test (Inside (raw ++ b ∷ [])) refl))
    (packet_parts_begun (Summing raw) bytes (not_between_by_test (Summing raw) refl))
  where
    by : (t u : Bool) → AreBegun (parts_from (Inside (raw ++ b ∷ [])) bytes) → AreBegun (parts_from (Summing raw) bytes)
        → AreBegun (cond t (CutOff (36 ∷ raw) ∷ []) [] ++ parts_from (inside_by t u raw b) bytes)
    by true u on summing = tt
    by false true on summing = summing
    by false false on summing = on

cut_off_before_begun : (bytes : List ℕ) (raw : List ℕ) (rest : List Part) → bytes ≡ begun_packet (Inside raw) → IsPlain raw → AreBegun rest → CutsOff bytes rest
cut_off_before_begun bytes raw [] is plain begins = tt
cut_off_before_begun bytes raw (next ∷ rest) is plain begins = ((raw, is, plain), begins)

parts_from_are_cut_off : (p : Place) (bytes : List ℕ) → IsPlainPlace p → AreCutOff (parts_from p bytes)
unfolding parts_from AreCutOff
parts_from_are_cut_off Between [] plain = tt
parts_from_are_cut_off (Inside raw) [] plain = (tt, tt)
parts_from_are_cut_off (Summing raw) [] plain = (tt, tt)
parts_from_are_cut_off (Digit raw a) [] plain = (tt, tt)
parts_from_are_cut_off Between (b ∷ bytes) plain = by (eqb b 36) (parts_from_are_cut_off (step Between b) bytes (step_keeps_plain_place Between b plain))
  where
    by : (t : Bool) → AreCutOff (parts_from (step Between b) bytes) → AreCutOff (cond t [] (Byte b ∷ []) ++ parts_from (step Between b) bytes)
    by true rest = rest
    by false rest = rest
parts_from_are_cut_off (Inside raw) (b ∷ bytes) plain = by (eqb b 36) refl (parts_from_are_cut_off (step (Inside raw) b) bytes (step_keeps_plain_place (Inside raw) b plain))
  where
    begins : eqb b 36 ≡ true → AreBegun (parts_from (step (Inside raw) b) bytes)
    begins is = subst (λ (t : Bool). AreBegun (parts_from (inside_by t (eqb b 35) raw b) bytes)) (sym is)
        (packet_parts_begun (Inside []) bytes (not_between_by_test (Inside []) refl))

    by : (t : Bool) → eqb b 36 ≡ t → AreCutOff (parts_from (step (Inside raw) b) bytes)
        → AreCutOff (cond t (CutOff (36 ∷ raw) ∷ []) [] ++ parts_from (step (Inside raw) b) bytes)
    by true is rest = (cut_off_before_begun (36 ∷ raw) raw (parts_from (step (Inside raw) b) bytes) refl plain (begins is), rest)
    by false is rest = rest
parts_from_are_cut_off (Summing raw) (b ∷ bytes) plain = parts_from_are_cut_off (Digit raw b) bytes plain
parts_from_are_cut_off (Digit raw a) (b ∷ bytes) plain = parts_from_are_cut_off Between bytes tt

pub stream_parts_cut_off : (bytes : List ℕ) → AreCutOff (parts bytes)
stream_parts_cut_off bytes = parts_from_are_cut_off Between bytes tt

-- ---- no other parts are

-- plain bytes inside a packet are gathered
parts_past_plain : (raw more rest : List ℕ) → IsPlain more → parts_from (Inside raw) (more ++ rest) ≡ parts_from (Inside (raw ++ more)) rest
unfolding parts_from IsPlain
parts_past_plain raw [] rest plain = ap (λ (xs : List ℕ). parts_from (Inside xs) rest) (sym (append-nil raw))
parts_past_plain raw (b ∷ more) rest plain =
    ap (λ (t : Bool). cond t (CutOff (36 ∷ raw) ∷ []) [] ++ parts_from (inside_by t (eqb b 35) raw b) (more ++ rest)) (ne_eqb b 36 plain.0)
    ∙ ap (λ (u : Bool). parts_from (inside_by false u raw b) (more ++ rest)) (ne_eqb b 35 plain.1)
    ∙ parts_past_plain (raw ++ b ∷ []) more rest plain.2
    ∙ ap (λ (xs : List ℕ). parts_from (Inside xs) rest) (append_assoc raw (b ∷ []) more)

-- `$` begins a packet
parts_from_dollar : (rest : List ℕ) → parts_from Between (36 ∷ rest) ≡ parts_from (Inside []) rest
unfolding parts_from
parts_from_dollar rest = refl

parts_of_byte : (b : ℕ) (rest : List ℕ) → (b ≡ 36 → ⊥) → parts_from Between (b ∷ rest) ≡ Byte b ∷ parts_from Between rest
unfolding parts_from
parts_of_byte b rest other = ap (λ (t : Bool). cond t [] (Byte b ∷ []) ++ parts_from (cond t (Inside []) Between) rest) (ne_eqb b 36 other)

parts_of_whole : (raw rest : List ℕ) (a b : ℕ) → IsPlain raw
    → parts_from Between (bytes_of (Whole raw a b) ++ rest) ≡ Whole raw a b ∷ parts_from Between rest
unfolding parts_from
parts_of_whole raw rest a b plain =
    ap (λ (xs : List ℕ). parts_from (Inside []) xs) (append_assoc raw (35 ∷ a ∷ b ∷ []) rest) ∙ parts_past_plain [] raw (35 ∷ a ∷ b ∷ rest) plain

-- one that is cut off by `$`
parts_of_cut_off : (raw rest : List ℕ) → IsPlain raw → parts_from Between ((36 ∷ raw) ++ 36 ∷ rest) ≡ CutOff (36 ∷ raw) ∷ parts_from Between (36 ∷ rest)
unfolding parts_from
parts_of_cut_off raw rest plain = parts_past_plain [] raw (36 ∷ rest) plain

-- one that the end cuts off
parts_of_last : (p : Place) → IsPlainPlace p → (p ≡ Between → ⊥) → parts_from Between (begun_packet p) ≡ CutOff (begun_packet p) ∷ []
unfolding parts_from
parts_of_last Between plain inside = absurd (inside refl)
parts_of_last (Inside raw) plain inside = ap (λ (xs : List ℕ). parts_from (Inside []) xs) (sym (append-nil raw)) ∙ parts_past_plain [] raw [] plain
parts_of_last (Summing raw) plain inside = parts_past_plain [] raw (35 ∷ []) plain
parts_of_last (Digit raw a) plain inside = parts_past_plain [] raw (35 ∷ a ∷ []) plain

-- what begins with `$` has it as its first byte
first_byte_of_begun : (part : Part) → BeginsPacket part → IsStreamPart part → (rest : List ℕ) × (bytes_of part ≡ 36 ∷ rest)
first_byte_of_begun (Byte b) begins is = absurd begins
first_byte_of_begun (Whole raw a b) begins is = (raw ++ 35 ∷ a ∷ b ∷ [], refl)
first_byte_of_begun (CutOff bytes) begins (Between, same, plain, inside) = absurd (inside refl)
first_byte_of_begun (CutOff bytes) begins (Inside raw, same, plain, inside) = (raw, same)
first_byte_of_begun (CutOff bytes) begins (Summing raw, same, plain, inside) = (raw ++ 35 ∷ [], same)
first_byte_of_begun (CutOff bytes) begins (Digit raw a, same, plain, inside) = (raw ++ 35 ∷ a ∷ [], same)

parts_are_read_back : (those : List Part) → AllByRecursion IsStreamPart those → AreCutOff those → parts_from Between (flat_map bytes_of those) ≡ those
unfolding AreCutOff parts_from
parts_are_read_back [] all cut = refl
parts_are_read_back (Byte b ∷ rest) all cut = parts_of_byte b (flat_map bytes_of rest) all.0 ∙ ap (λ (ps : List Part). Byte b ∷ ps) (parts_are_read_back rest all.1 cut)
parts_are_read_back (Whole raw a b ∷ rest) all cut =
    parts_of_whole raw (flat_map bytes_of rest) a b all.0 ∙ ap (λ (ps : List Part). Whole raw a b ∷ ps) (parts_are_read_back rest all.1 cut)
parts_are_read_back (CutOff bytes ∷ []) all cut =
    let (p, same, plain, inside) = all.0 in
    ap (λ (xs : List ℕ). parts_from Between xs) (append-nil bytes)
    ∙ subst (λ (xs : List ℕ). parts_from Between xs ≡ CutOff xs ∷ []) (sym same) (parts_of_last p plain inside)
parts_are_read_back (CutOff bytes ∷ next ∷ rest) all cut =
    let (raw, same, plain) = cut.0.0 in
    let (more, first) = first_byte_of_begun next cut.0.1 all.1.0 in
    let dollar_first : flat_map bytes_of (next ∷ rest) ≡ 36 ∷ (more ++ flat_map bytes_of rest) = ap (λ (xs : List ℕ). xs ++ flat_map bytes_of rest) first in
    ap (λ (xs : List ℕ). parts_from Between (bytes ++ xs)) dollar_first
    ∙ ap (λ (xs : List ℕ). parts_from Between (xs ++ 36 ∷ (more ++ flat_map bytes_of rest))) same
    ∙ parts_of_cut_off raw (more ++ flat_map bytes_of rest) plain
    ∙ ap (λ (xs : List ℕ). CutOff (36 ∷ raw) ∷ parts_from Between xs) (sym dollar_first)
    ∙ ap (λ (ps : List Part). CutOff (36 ∷ raw) ∷ ps) (parts_are_read_back (next ∷ rest) all.1 cut.1)
    ∙ ap (λ (xs : List ℕ). CutOff xs ∷ next ∷ rest) (sym same)

pub such_parts_are_of_stream : (bytes : List ℕ) (those : List Part) → flat_map bytes_of those ≡ bytes → AllByRecursion IsStreamPart those → AreCutOff those
    → those ≡ parts bytes
such_parts_are_of_stream bytes those are all cut =
    sym (parts_are_read_back those all cut) ∙ ap (λ (xs : List ℕ). parts_from Between xs) are
