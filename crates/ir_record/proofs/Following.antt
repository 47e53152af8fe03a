-- Turns of one thread, and by an order.
use Rattle.std.proofs.Common.{◌≡◌, ℕ, zero, suc, ◌+◌, ◌-◌, ◌<◌, ◌≤◌, false, Bool, List, [], ◌∷◌, ◌++◌, length, take, drop, replicate}
use Rattle.std.proofs.Common.{get_or, Result, Ok, Err, OnOk, IfErr, refl, sym, ap, ◌∙◌, subst, arith, inl, inr, append-nil}
use Rattle.std.proofs.lemmas.List.{get_or_past, replicate-append-replicate, take-append-drop, take_all, take_more, length-drop}
use Rattle.std.proofs.lemmas.List.Concat.{flat_map-append}
use Rattle.ir_thread.specs.State.{ask_of, shared_ask}
use Rattle.ir_runs.specs.Machine.{act_of, target, Admits}
use Rattle.ir_flat.specs.Flat.{Flat, tables, machine, idle}
use Rattle.ir_runs.specs.Run.{end, HasNone}
use Rattle.ir_runs.specs.Orders.{InTurn}
use Rattle.ir_record.specs.Failures.{StoppedAt, StoppedTurns}
use Rattle.ir_record.specs.Progress.{Progress, TookSteps, TookIf, TookTurns}
use Rattle.ir_record.specs.Refusing.{Turn, plain_turns}
use Rattle.ir_record.specs.Worlds.{AnsweredCall}
use Rattle.ir_record.specs.Recording.{order_of_turns, turns_of_items}
use Rattle.ir_record.specs.declared.item.Item.{Item}
use Rattle.ir_record.specs.declared.in_order.turn.Failed.{Failed}
use Rattle.ir_record.specs.declared.turns.Turns.{Turns}
use Rattle.ir_record.proofs.Refusing.{plain_turns_of_append}
use Rattle.ir_record.proofs.Steps.{took_no_turns, took_append_of_orders, took_none_if_same, took_plain_turns, took_turns_of_append, took_turns_of_empty, took_turn_without_step}
use Rattle.ir_record.proofs.Stopped.{stopped_plain_turns}

-- what is no thread has no step
pub missing_has_no_step : (f : Flat) (t : ℕ) → length f.threads ≤ t → HasNone (machine f) (tables f) t
missing_has_no_step f t past r can = subst (λ x. Admits (machine f) (act_of (shared_ask (ask_of f.code x)) r)
    ((tables f).objects (target (act_of (shared_ask (ask_of f.code x)) r)))) (get_or_past f.threads t idle past) can

-- many turns of a thread that has no step
pub repeats_change_nothing : (t k : ℕ) (a : Progress) → HasNone (machine a.flat) (tables a.flat) t → TookSteps (replicate k t) a a
repeats_change_nothing t zero a none = took_no_turns a
repeats_change_nothing t (suc k) a none = took_append_of_orders (t ∷ []) (replicate k t) a a a (took_none_if_same t a a none refl).took (repeats_change_nothing t k a none)

-- a thread that took no step in its turn has none after it
pub passed_turn_leaves_none : (t : ℕ) (a b : Progress) (moved : Bool) → moved ≡ false → TookIf moved (t ∷ []) a b
    → HasNone (machine b.flat) (tables b.flat) t
passed_turn_leaves_none t a b moved e k =
    let still : tables b.flat ≡ tables a.flat = k.took.ends ∙ ap (end (machine a.flat) (tables a.flat)) (k.none e) in
    none_there (none_first (subst (InTurn (machine a.flat) (tables a.flat) (t ∷ [])) (k.none e) k.took.turns)) still k.took.code
  where
    none_first : InTurn (machine a.flat) (tables a.flat) (t ∷ []) [] → HasNone (machine a.flat) (tables a.flat) t
    none_first (inl none) = none.0
    none_first (inr some) = absurd (cc some.2)

    none_there : HasNone (machine a.flat) (tables a.flat) t → tables b.flat ≡ tables a.flat → b.flat.code ≡ a.flat.code
        → HasNone (machine b.flat) (tables b.flat) t
    none_there none same code = subst (λ s. HasNone (machine b.flat) s t) (sym same)
        (subst (λ c. HasNone (machine (record a.flat { code = c })) (tables a.flat) t) (sym code) none)

-- n turns of one thread
pub turns_of_thread_add_up : (t j k n : ℕ) (a b c : Progress) → j + k ≡ n → TookSteps (replicate j t) a b → TookSteps (replicate k t) b c
    → TookSteps (replicate n t) a c
turns_of_thread_add_up t j k n a b c e p q = subst (λ order. TookSteps order a c) (replicate-append-replicate j k t ∙ ap (λ i. replicate i t) e)
    (took_append_of_orders (replicate j t) (replicate k t) a b c p q)

-- the turns so far, and those that are left
pub took_all_repeats : (t count left : ℕ) (a b : Progress) → left ≤ count → TookSteps (replicate (count - left) t) a b
    → HasNone (machine b.flat) (tables b.flat) t → TookSteps (replicate count t) a b
took_all_repeats t count left a b l p none = turns_of_thread_add_up t (count - left) left count a b b (omega (arith, l)) p (repeats_change_nothing t left b none)

-- private steps and a turn more
pub took_private_and_turn : (t count left ran : ℕ) (a b c d : Progress) (moved : Bool) → left ≤ count → 0 < left → ran ≤ left - 1
    → TookSteps (replicate (count - left) t) a b → TookSteps (replicate ran t) b c → TookIf moved (t ∷ []) c d
    → TookSteps (replicate (count - (left - (ran + 1))) t) a d
took_private_and_turn t count left ran a b c d moved l some few p q r =
    let both : TookSteps (replicate (count - left + ran) t) a c = turns_of_thread_add_up t (count - left) ran (count - left + ran) a b c refl p q in
    turns_of_thread_add_up t (count - left + ran) 1 (count - (left - (ran + 1))) a c d (omega (arith, l, some, few)) both r.took

-- the order up to an entry, that entry, and others that are the same
take_append_replicate : (xs : List ℕ) (at more t : ℕ) → at < length xs → get_or xs at 0 ≡ t → take more (drop (suc at) xs) ≡ replicate more t
    → take at xs ++ replicate (suc more) t ≡ take (at + suc more) xs
take_append_replicate [] at more t l first same = absurd (omega arith)
take_append_replicate (x ∷ xs) zero more t l first same = ap (λ z. z ∷ replicate more t) (sym first) ∙ ap (λ z. x ∷ z) (sym same)
    ∙ ap (λ n. take n (x ∷ xs)) (let e : suc more ≡ 0 + suc more = omega arith in e)
take_append_replicate (x ∷ xs) (suc at) more t l first same = ap (λ z. x ∷ z) (take_append_replicate xs at more t (omega arith) first same)
    ∙ ap (λ n. take n (x ∷ xs)) (let e : suc (at + suc more) ≡ suc at + suc more = omega arith in e)

-- these turns, and then those of one thread more
order_of_turns_push : (turns : List Turns) (x : Turns) → order_of_turns (turns ++ x ∷ []) ≡ order_of_turns turns ++ replicate x.count x.thread
order_of_turns_push turns x = flat_map-append (λ (t : Turns). replicate t.count t.thread) turns (x ∷ [])
    ∙ ap (λ (z : List ℕ). order_of_turns turns ++ z) (append-nil (replicate x.count x.thread))

-- the turns of all entries that are the same
pub order_prefix_longer : (order : List ℕ) (at more t : ℕ) (turns new : List Turns) → at < length order → t ≡ get_or order at 0
    → take more (take (length order - (at + 1)) (drop (at + 1) order)) ≡ replicate more t
    → order_of_turns turns ≡ take at order → new ≡ turns ++ record { thread = t; count = more + 1 } ∷ []
    → order_of_turns new ≡ take (at + (more + 1)) order
order_prefix_longer order at more t turns new l first same before e =
    let rest : take (length order - (at + 1)) (drop (at + 1) order) ≡ drop (suc at) order =
    take_all (length order - (at + 1)) (drop (at + 1) order) (let n = length-drop (at + 1) order in omega (arith, n))
    ∙ ap (λ k. drop k order) (let e : at + 1 ≡ suc at = omega arith in e) in
    ap order_of_turns e ∙ order_of_turns_push turns (record { thread = t; count = more + 1 })
    ∙ ap (λ (z : List ℕ). z ++ replicate (more + 1) t) before
    ∙ ap (λ k. take at order ++ replicate k t) (let e : more + 1 ≡ suc more = omega arith in e)
    ∙ take_append_replicate order at more t l (sym first) (ap (take more) (sym rest) ∙ same)
    ∙ ap (λ k. take k order) (let e : at + suc more ≡ at + (more + 1) = omega arith in e)

pub prefix_within_order : (order : List ℕ) (at more : ℕ) → at < length order
    → more ≤ length (take (length order - (at + 1)) (drop (at + 1) order)) → at + (more + 1) ≤ length order
prefix_within_order order at more l h =
    let n = length-drop (at + 1) order in
    let rest : length (take (length order - (at + 1)) (drop (at + 1) order)) ≡ length (drop (at + 1) order) =
    ap (λ xs. length xs) (take_all (length order - (at + 1)) (drop (at + 1) order) (omega (arith, n))) in
    omega (arith, l, h, n, rest)

-- the turns of items, and those of one more
pub turns_of_items_push : (items : List Item) (x : Item) → turns_of_items (items ++ x ∷ []) ≡ turns_of_items items ++ replicate x.count (x.thread, x.refused)
turns_of_items_push items x = flat_map-append (λ (i : Item). replicate i.count (i.thread, i.refused)) items (x ∷ [])
    ∙ ap (λ (z : List Turn). turns_of_items items ++ z) (append-nil (replicate x.count (x.thread, x.refused)))

pub took_next_item : (items : List Item) (at : ℕ) (none : Item) (a b c : Progress) → at < length items
    → TookTurns (turns_of_items (take at items)) a b
    → TookTurns (replicate (get_or items at none).count ((get_or items at none).thread, (get_or items at none).refused)) b c
    → TookTurns (turns_of_items (take (at + 1) items)) a c
took_next_item items at none a b c l p q =
    let x : Item = get_or items at none in
    subst (λ z. TookTurns z a c) (sym (ap turns_of_items (take_more items at none l) ∙ turns_of_items_push (take at items) x))
    (took_turns_of_append (turns_of_items (take at items)) (replicate x.count (x.thread, x.refused)) a b c p q)

-- the turns of the items before one, its own, and those of the items after it
pub turns_split_at_item : (items : List Item) (at : ℕ) (none : Item) → at < length items
    → (turns_of_items (take at items) ++ replicate (get_or items at none).count ((get_or items at none).thread, (get_or items at none).refused))
    ++ turns_of_items (drop (at + 1) items) ≡ turns_of_items items
turns_split_at_item items at none l =
    let x : Item = get_or items at none in
    ap (λ (z : List Turn). z ++ turns_of_items (drop (at + 1) items))
    (sym (ap turns_of_items (take_more items at none l) ∙ turns_of_items_push (take at items) x))
    ∙ sym (flat_map-append (λ (i : Item). replicate i.count (i.thread, i.refused)) (take (at + 1) items) (drop (at + 1) items))
    ∙ ap turns_of_items (take-append-drop (at + 1) items)

pub took_all_items : (items : List Item) (at : ℕ) (a b : Progress) → length items ≤ at → TookTurns (turns_of_items (take at items)) a b
    → TookTurns (turns_of_items items) a b
took_all_items items at a b l = subst (λ z. TookTurns (turns_of_items z) a b) (take_all at items l)

pub plain_turns-replicate : (n t : ℕ) → plain_turns (replicate n t) ≡ replicate n (t, false)
plain_turns-replicate zero t = refl
plain_turns-replicate (suc n) t = ap (λ z. (t, false) ∷ z) (plain_turns-replicate n t)

-- the turns of an item in which no try is refused that may enter
took_turns_replicate : (n t : ℕ) (refused : Bool) (a b : Progress) → refused ≡ false → TookSteps (replicate n t) a b → TookTurns (replicate n (t, refused)) a b
took_turns_replicate n t refused a b e k = subst (λ f. TookTurns (replicate n (t, f)) a b) (sym e)
    (subst (λ z. TookTurns z a b) (plain_turns-replicate n t) (took_plain_turns (replicate n t) a b k))

stopped_turns_replicate : (n t : ℕ) (refused : Bool) (p : Progress) (named : ℕ) (answers : List (List AnsweredCall)) → refused ≡ false
    → StoppedAt (replicate n t) (tables p.flat) p named answers → StoppedTurns (replicate n (t, refused)) p named answers
stopped_turns_replicate n t refused p named answers e k = subst (λ f. StoppedTurns (replicate n (t, f)) p named answers) (sym e)
    (subst (λ z. StoppedTurns z p named answers) (plain_turns-replicate n t) (stopped_plain_turns (replicate n t) p named answers k))

-- as many turns, and one more
pub took_one_more_repeat : (one : Turn) (count left : ℕ) (a b c : Progress) → left ≤ count → 0 < left → TookTurns (replicate (count - left) one) a b
    → TookTurns (one ∷ []) b c → TookTurns (replicate (count - (left - 1)) one) a c
took_one_more_repeat one count left a b c l some p q = subst (λ z. TookTurns z a c)
    (replicate-append-replicate (count - left) 1 one ∙ ap (λ k. replicate k one) (let e : count - left + 1 ≡ count - (left - 1) = omega (arith, l, some) in e))
    (took_turns_of_append (replicate (count - left) one) (one ∷ []) a b c p q)

-- many turns of a thread that has no step
repeats_without_step_same : (t k : ℕ) (refused : Bool) (a : Progress) → HasNone (machine a.flat) (tables a.flat) t
    → TookTurns (replicate k (t, refused)) a a
repeats_without_step_same t zero refused a none = took_turns_of_empty a
repeats_without_step_same t (suc k) refused a none = took_turns_of_append ((t, refused) ∷ []) (replicate k (t, refused)) a a a (took_turn_without_step t refused a none)
    (repeats_without_step_same t k refused a none)

-- the turns so far, and those that are left, in which the thread has no step
pub took_all_without_step : (t count left : ℕ) (refused : Bool) (a b : Progress) → left ≤ count → TookTurns (replicate (count - left) (t, refused)) a b
    → HasNone (machine b.flat) (tables b.flat) t → TookTurns (replicate count (t, refused)) a b
took_all_without_step t count left refused a b l p none = subst (λ z. TookTurns z a b)
    (replicate-append-replicate (count - left) left (t, refused)
    ∙ ap (λ k. replicate k (t, refused)) (let e : count - left + left ≡ count = omega (arith, l) in e))
    (took_turns_of_append (replicate (count - left) (t, refused)) (replicate left (t, refused)) a b b p (repeats_without_step_same t left refused b none))

-- and those that are left
pub replicate_around : (one : Turn) (count left : ℕ) → left ≤ count → 0 < left
    → (replicate (count - left) one ++ one ∷ []) ++ replicate (left - 1) one ≡ replicate count one
replicate_around one count left l some = ap (λ z. z ++ replicate (left - 1) one) (replicate-append-replicate (count - left) 1 one)
    ∙ replicate-append-replicate (count - left + 1) (left - 1) one
    ∙ ap (λ k. replicate k one) (let e : count - left + 1 + (left - 1) ≡ count = omega (arith, l, some) in e)

-- the items of turns, and one more
pub turns_prefix_longer : (order : List Turns) (at : ℕ) (none : Turns) (items new : List Item) → at < length order
    → turns_of_items items ≡ plain_turns (order_of_turns (take at order))
    → new ≡ items ++ record { thread = (get_or order at none).thread; count = (get_or order at none).count; refused = false } ∷ []
    → turns_of_items new ≡ plain_turns (order_of_turns (take (at + 1) order))
turns_prefix_longer order at none items new l before e =
    let x : Turns = get_or order at none in
    let item : Item = record { thread = x.thread; count = x.count; refused = false } in
    ap turns_of_items e ∙ turns_of_items_push items item
    ∙ ap (λ (z : List Turn). z ++ replicate x.count (x.thread, false)) before
    ∙ ap (λ (z : List Turn). plain_turns (order_of_turns (take at order)) ++ z) (sym (plain_turns-replicate x.count x.thread))
    ∙ sym (plain_turns_of_append (order_of_turns (take at order)) (replicate x.count x.thread))
    ∙ ap plain_turns (sym (ap order_of_turns (take_more order at none l) ∙ order_of_turns_push (take at order) x))

-- the same of what a call hands back
pub on_ok_took_replicate : {A E : Type 0} (r : Result A E) (n t : ℕ) (refused : Bool) (a b : Progress) → refused ≡ false
    → OnOk r (TookSteps (replicate n t) a b) → OnOk r (TookTurns (replicate n (t, refused)) a b)
on_ok_took_replicate (Ok x) n t refused a b e h = took_turns_replicate n t refused a b e h
on_ok_took_replicate (Err x) n t refused a b e h = tt

pub if_err_stopped_replicate : {A : Type 0} (r : Result A Failed) (n t : ℕ) (refused : Bool) (p : Progress) (answers : List (List AnsweredCall)) → refused ≡ false
    → IfErr r (λ f. StoppedAt (replicate n t) (tables p.flat) p f.thread answers)
    → IfErr r (λ f. StoppedTurns (replicate n (t, refused)) p f.thread answers)
if_err_stopped_replicate (Ok x) n t refused p answers e h = tt
if_err_stopped_replicate (Err x) n t refused p answers e h = stopped_turns_replicate n t refused p x.thread answers e h

-- one entry more that is the same
pub take_is_replicate_step : (order : List ℕ) (index entry x : ℕ) → index < length order → x ≡ get_or order index x → x ≡ entry
    → take index order ≡ replicate index entry → take (index + 1) order ≡ replicate (index + 1) entry
take_is_replicate_step order index entry x l is same e =
    subst (λ n. take n order ≡ replicate n entry) (let s : suc index ≡ index + 1 = omega arith in s) (go order index l (sym is) e)
  where
    go : (xs : List ℕ) (i : ℕ) → i < length xs → get_or xs i x ≡ x → take i xs ≡ replicate i entry
        → take (suc i) xs ≡ replicate (suc i) entry
    go [] i l h e = absurd (omega arith)
    go (y ∷ xs) zero l h e = ap (λ z. z ∷ []) (h ∙ same)
    go (y ∷ xs) (suc i) l h e = let first : y ≡ entry = cc e in let rest : take i xs ≡ replicate i entry = cc e in
        ap (λ z. z ∷ take (suc i) xs) first ∙ ap (λ z. entry ∷ z) (go xs i (omega arith) h rest)
