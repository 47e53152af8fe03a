-- Registers that packets name.
use Rattle.std.proofs.Common.{◌≡◌, ◌≤◌, ◌<◌, ℕ, Bool, true, false, leb, List, [], ◌∷◌, Option, Some, None, refl, sym, subst, arith, leb-true, if◌then◌else◌, drop}
use Rattle.std.specs.Prelude.{⊤, is_some}
use Rattle.ir_packet.specs.Numbers.{number, decimal_number, digit_index_of, number_before, behind, are_pairs}
use Rattle.ir_packet.specs.Requests.{without_argument, whatever, of_number, of_numbers, one_argument, two_with_comma, of_who, who_of}
use Rattle.ir_packet.specs.Requests.{thread, register_request, console, conditions, break_request_with, break_request, move_of, mover_of}
use Rattle.ir_packet.specs.Requests.{motion_of, thread_behind, others_of, first_action, actions, restart_with, restart, PacketRow, queries}
use Rattle.ir_packet.specs.Requests.{texts, restarts, commands, points, letters, after_name, request_by, asked_in, request_or_else}
use Rattle.ir_packet.specs.Requests.{or_unknown, asked_queries, asked_texts, asked_restarts, asked_commands, asked_named, asked_points}
use Rattle.ir_packet.specs.Requests.{asked_ends, asked_letters, request_of}
use Rattle.ir_packet.specs.Requests as requests
use Rattle.ir_packet.specs.declared.request.Request.{Request}
use Rattle.ir_packet.specs.declared.request.Request.TheVariants as request
use Rattle.ir_packet.specs.declared.request.Who.{Who}
use Rattle.ir_packet.specs.declared.request.Motion.{Motion}

-- the register of a request, if it is for one, is x0 to x31 or pc
abbrev pub HasKnownRegister : Request → Type 0
HasKnownRegister r = (n : ℕ) → r ≡ request.Register n → n < 33

abbrev pub HasKnownRegisterIfSome : Option Request → Type 0
HasKnownRegisterIfSome None = ⊤
HasKnownRegisterIfSome (Some r) = HasKnownRegister r

-- ---- what is made of the bytes behind a name

choice_known_register : (b : Bool) (x y : Request) → HasKnownRegister x → HasKnownRegister y → HasKnownRegister (if b then x else y)
choice_known_register true x y p q = p
choice_known_register false x y p q = q

malformed_known_register : HasKnownRegister request.Malformed
malformed_known_register = λ n e. absurd cc

plain_known_register : (r : Request) → HasKnownRegister r → (rest : List ℕ) → HasKnownRegister (without_argument r rest)
plain_known_register r p [] = p
plain_known_register r p (b ∷ rest) = malformed_known_register

of_number_known_register : (makes : ℕ → Request) → ((n : ℕ) → HasKnownRegister (makes n)) → (m : Option ℕ) → HasKnownRegister (of_number makes m)
of_number_known_register makes p None = malformed_known_register
of_number_known_register makes p (Some n) = p n

of_numbers_known_register : (makes : ℕ → ℕ → Request) → ((m n : ℕ) → HasKnownRegister (makes m n)) → (m n : Option ℕ) → HasKnownRegister (of_numbers makes m n)
of_numbers_known_register makes p None n = malformed_known_register
of_numbers_known_register makes p (Some m) None = malformed_known_register
of_numbers_known_register makes p (Some m) (Some n) = p m n

of_who_known_register : (makes : Who → Request) → ((w : Who) → HasKnownRegister (makes w)) → (w : Option Who) → HasKnownRegister (of_who makes w)
of_who_known_register makes p None = malformed_known_register
of_who_known_register makes p (Some w) = p w

one_number_known_register : (makes : ℕ → Request) → ((n : ℕ) → HasKnownRegister (makes n)) → (rest : List ℕ) → HasKnownRegister (one_argument makes rest)
unfolding one_argument
one_number_known_register makes p rest = of_number_known_register makes p (number rest)

two_numbers_known_register : (makes : ℕ → ℕ → Request) → ((m n : ℕ) → HasKnownRegister (makes m n)) → (rest : List ℕ) → HasKnownRegister (two_with_comma makes rest)
unfolding two_with_comma
two_numbers_known_register makes p rest = of_numbers_known_register makes p (number (number_before 44 rest)) (number (behind 44 rest))

thread_known_register : (makes : Who → Request) → ((w : Who) → HasKnownRegister (makes w)) → (rest : List ℕ) → HasKnownRegister (thread makes rest)
unfolding thread
thread_known_register makes p rest = of_who_known_register makes p (who_of rest)

tested_register_known : (n : ℕ) (b : Bool) → leb n 32 ≡ b → HasKnownRegister (if b then request.Register n else request.Malformed)
tested_register_known n true h = λ m e.
    let few : n ≤ 32 = leb-true n 32 h in
    let same : n ≡ m = cc in
    omega (arith, few, same)
tested_register_known n false h = malformed_known_register

register_known_register : (n : ℕ) → HasKnownRegister (register_request n)
register_known_register n = tested_register_known n (leb n 32) refl

console_known_register : (rest : List ℕ) → HasKnownRegister (console rest)
unfolding console
console_known_register rest = choice_known_register (are_pairs rest) request.Console request.Malformed (λ n e. absurd cc) malformed_known_register

break_with_conditions_known_register : (hardware : Bool) (place rest : List ℕ) → HasKnownRegister (break_request_with hardware place rest)
break_with_conditions_known_register hardware place [] = two_numbers_known_register (λ a kind. request.SetBreak a hardware) (λ a b n e. absurd cc) place
break_with_conditions_known_register hardware place (b ∷ text) = choice_known_register (is_some (conditions text)) _ request.Malformed
    (two_numbers_known_register (λ a kind. request.SetBreakIf a hardware) (λ a b n e. absurd cc) place) malformed_known_register

breakpoint_known_register : (hardware : Bool) (rest : List ℕ) → HasKnownRegister (break_request hardware rest)
unfolding break_request
breakpoint_known_register hardware rest = break_with_conditions_known_register hardware (number_before 59 rest) (drop (digit_index_of 59 rest) rest)

move_known_register : (m : Option Motion) (w : Option Who) (others : Option Bool) → HasKnownRegister (move_of m w others)
move_known_register None w others = malformed_known_register
move_known_register (Some m) None others = malformed_known_register
move_known_register (Some m) (Some w) None = malformed_known_register
move_known_register (Some m) (Some w) (Some others) = λ n e. absurd cc

actions_known_register : (rest : List ℕ) → HasKnownRegister (actions rest)
unfolding actions first_action
actions_known_register rest = move_known_register (motion_of (number_before 58 (number_before 59 rest))) (thread_behind (drop (digit_index_of 58 (number_before 59 rest)) (number_before 59 rest)))
    (others_of (drop (digit_index_of 59 rest) rest))

restart_argument_register : (argument : List ℕ) → HasKnownRegister (restart_with argument)
restart_argument_register [] = λ n e. absurd cc
restart_argument_register (b ∷ argument) = of_number_known_register request.RestartAt (λ m n e. absurd cc) (decimal_number argument)

restart_known_register : (rest : List ℕ) → HasKnownRegister (restart rest)
unfolding restart
restart_known_register rest = restart_argument_register (drop (digit_index_of 59 rest) rest)

-- ---- rows

abbrev pub AllMakeKnownRegisters : List PacketRow → Type 0
AllMakeKnownRegisters [] = ⊤
AllMakeKnownRegisters (r ∷ rows) = ((rest : List ℕ) → HasKnownRegister (r.makes rest)) × AllMakeKnownRegisters rows

pair_of_facts : {P Q : Type 0} → P → Q → P × Q
pair_of_facts p q = (p, q)

row_known_register : (r : PacketRow) (rest : Option (List ℕ)) (next : Option Request) → ((rest : List ℕ) → HasKnownRegister (r.makes rest)) → HasKnownRegisterIfSome next
    → HasKnownRegisterIfSome (request_by r rest next)
row_known_register r None next p q = q
row_known_register r (Some rest) next p q = p rest

rows_known_register : (rows : List PacketRow) (payload : List ℕ) → AllMakeKnownRegisters rows → HasKnownRegisterIfSome (asked_in rows payload)
rows_known_register [] payload all = tt
rows_known_register (r ∷ rows) payload all = row_known_register r (after_name r.name payload) (asked_in rows payload) all.0 (rows_known_register rows payload all.1)

or_else_known_register : (a b : Option Request) → HasKnownRegisterIfSome a → HasKnownRegisterIfSome b → HasKnownRegisterIfSome (request_or_else a b)
or_else_known_register None b p q = q
or_else_known_register (Some r) b p q = p

or_unknown_known_register : (a : Option Request) → HasKnownRegisterIfSome a → HasKnownRegister (or_unknown a)
or_unknown_known_register None p = λ n e. absurd cc
or_unknown_known_register (Some r) p = p

queries_known_registers : AllMakeKnownRegisters queries
queries_known_registers =
    pair_of_facts (λ rest n e. absurd cc)
    (pair_of_facts (plain_known_register request.NoAcknowledgements (λ n e. absurd cc))
    (pair_of_facts (λ rest n e. absurd cc)
    (pair_of_facts (plain_known_register request.Offsets (λ n e. absurd cc))
    (pair_of_facts (plain_known_register request.Symbols (λ n e. absurd cc)) tt))))

texts_known_registers : AllMakeKnownRegisters texts
texts_known_registers =
    pair_of_facts (two_numbers_known_register request.Description (λ a b n e. absurd cc))
    (pair_of_facts (two_numbers_known_register request.Threads (λ a b n e. absurd cc)) tt)

restarts_known_registers : AllMakeKnownRegisters restarts
restarts_known_registers =
    pair_of_facts (plain_known_register request.Extended (λ n e. absurd cc))
    (pair_of_facts restart_known_register
    (pair_of_facts (λ rest n e. absurd cc) tt))

commands_known_registers : AllMakeKnownRegisters commands
commands_known_registers =
    pair_of_facts console_known_register
    (pair_of_facts (plain_known_register request.Motions (λ n e. absurd cc))
    (pair_of_facts actions_known_register tt))

points_known_registers : AllMakeKnownRegisters points
points_known_registers =
    pair_of_facts (breakpoint_known_register false)
    (pair_of_facts (breakpoint_known_register true)
    (pair_of_facts (two_numbers_known_register request.SetWatch (λ a b n e. absurd cc))
    (pair_of_facts (two_numbers_known_register (λ a kind. request.ClearBreak a false) (λ a b n e. absurd cc))
    (pair_of_facts (two_numbers_known_register (λ a kind. request.ClearBreak a true) (λ a b n e. absurd cc))
    (pair_of_facts (two_numbers_known_register request.ClearWatch (λ a b n e. absurd cc)) tt)))))

letters_known_registers : AllMakeKnownRegisters letters
letters_known_registers =
    pair_of_facts (plain_known_register request.Reason (λ n e. absurd cc))
    (pair_of_facts (thread_known_register request.General (λ w n e. absurd cc))
    (pair_of_facts (thread_known_register request.Choose (λ w n e. absurd cc))
    (pair_of_facts (one_number_known_register request.Alive (λ a n e. absurd cc))
    (pair_of_facts (plain_known_register request.Registers (λ n e. absurd cc))
    (pair_of_facts (one_number_known_register register_request register_known_register)
    (pair_of_facts (two_numbers_known_register request.Memory (λ a b n e. absurd cc)) tt))))))

ends_known_registers : AllMakeKnownRegisters requests.bare_rows
ends_known_registers =
    pair_of_facts (λ rest n e. absurd cc)
    (pair_of_facts (λ rest n e. absurd cc)
    (pair_of_facts (λ rest n e. absurd cc)
    (pair_of_facts (plain_known_register _ (λ n e. absurd cc))
    (pair_of_facts (plain_known_register _ (λ n e. absurd cc))
    (pair_of_facts (plain_known_register _ (λ n e. absurd cc))
    (pair_of_facts (plain_known_register _ (λ n e. absurd cc))
    (pair_of_facts (λ rest n e. absurd cc)
    (pair_of_facts (λ rest n e. absurd cc) tt))))))))

named_known_register : (payload : List ℕ) → HasKnownRegisterIfSome (asked_named payload)
unfolding asked_named asked_queries asked_texts asked_restarts asked_commands
named_known_register payload = or_else_known_register (asked_in queries payload) _ (rows_known_register queries payload queries_known_registers)
    (or_else_known_register (asked_in texts payload) _ (rows_known_register texts payload texts_known_registers)
    (or_else_known_register (asked_in restarts payload) (asked_in commands payload) (rows_known_register restarts payload restarts_known_registers)
    (rows_known_register commands payload commands_known_registers)))

points_known_register : (payload : List ℕ) → HasKnownRegisterIfSome (asked_points payload)
unfolding asked_points
points_known_register payload = rows_known_register points payload points_known_registers

letters_known_register : (payload : List ℕ) → HasKnownRegisterIfSome (asked_letters payload)
unfolding asked_letters asked_ends
letters_known_register payload = or_else_known_register (asked_in letters payload) (asked_in requests.bare_rows payload) (rows_known_register letters payload letters_known_registers)
    (rows_known_register requests.bare_rows payload ends_known_registers)

pub request_known_register : (payload : List ℕ) → HasKnownRegister (request_of payload)
unfolding request_of
request_known_register payload = or_unknown_known_register (request_or_else (asked_named payload) (request_or_else (asked_points payload) (asked_letters payload)))
    (or_else_known_register (asked_named payload) _ (named_known_register payload)
    (or_else_known_register (asked_points payload) (asked_letters payload) (points_known_register payload) (letters_known_register payload)))

pub asked_register_below_33 : (payload : List ℕ) (r : Request) (n : ℕ) → r ≡ request_of payload → r ≡ request.Register n → n < 33
asked_register_below_33 payload r n is e = subst HasKnownRegister (sym is) (request_known_register payload) n e
