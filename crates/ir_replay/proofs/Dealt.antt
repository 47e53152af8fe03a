-- Lists that are taken from their ends.
use Rattle.std.proofs.Common.{◌≡◌, ◌+◌, List, [], ◌∷◌, ◌++◌, length, refl, sym, ap, ◌∙◌, length-append, append-nil, append_assoc}
use Rattle.std.specs.List.{AllByRecursion}
use Rattle.atomic_table.specs.declared.shared.Seat.{Seat}
use Rattle.ir_thread.specs.State as thread
use Rattle.ir_weave.specs.Woven.{View}
use Rattle.ir_replay.specs.Rounds.{backwards, round_threads, seats_of, views_of}
use Rattle.ir_replay.specs.declared.worker.Worker.{Worker}

backwards_of_push : {A : Type 0} (xs : List A) (x : A) → backwards (xs ++ x ∷ []) ≡ x ∷ backwards xs
backwards_of_push [] x = refl
backwards_of_push (y ∷ xs) x = ap (λ z. z ++ y ∷ []) (backwards_of_push xs x)

threads_of_push : (ws : List Worker) (w : Worker) → round_threads (ws ++ w ∷ []) ≡ round_threads ws ++ w.thread ∷ []
threads_of_push [] w = refl
threads_of_push (v ∷ ws) w = ap (λ z. v.thread ∷ z) (threads_of_push ws w)

seats_of_push : (ws : List Worker) (w : Worker) → seats_of (ws ++ w ∷ []) ≡ seats_of ws ++ w.seat ∷ []
seats_of_push [] w = refl
seats_of_push (v ∷ ws) w = ap (λ z. v.seat ∷ z) (seats_of_push ws w)

move_keeps_whole : {A : Type 0} (old new back all : List A) (x : A) → old ≡ new ++ x ∷ [] → old ++ backwards back ≡ all
    → new ++ backwards (back ++ x ∷ []) ≡ all
move_keeps_whole old new back all x taken h = ap (λ z. new ++ z) (backwards_of_push back x) ∙ sym (append_assoc new (x ∷ []) (backwards back))
    ∙ ap (λ z. z ++ backwards back) (sym taken) ∙ h

pub threads_whole_if_moved : (old new all : List thread.ThreadState) (ws ws' : List Worker) (w : Worker) → old ≡ new ++ w.thread ∷ [] → ws' ≡ ws ++ w ∷ []
    → old ++ backwards (round_threads ws) ≡ all → new ++ backwards (round_threads ws') ≡ all
threads_whole_if_moved old new all ws ws' w taken made h = ap (λ z. new ++ backwards z) (ap round_threads made ∙ threads_of_push ws w)
    ∙ move_keeps_whole old new (round_threads ws) all w.thread taken h

pub seats_whole_if_moved : (old new all : List (Seat (Unit {0}) View)) (ws ws' : List Worker) (w : Worker) → old ≡ new ++ w.seat ∷ [] → ws' ≡ ws ++ w
    ∷ [] → old ++ backwards (seats_of ws) ≡ all → new ++ backwards (seats_of ws') ≡ all
seats_whole_if_moved old new all ws ws' w taken made h = ap (λ z. new ++ backwards z) (ap seats_of made ∙ seats_of_push ws w)
    ∙ move_keeps_whole old new (seats_of ws) all w.seat taken h

-- ---- and again

views_of_push : (ws : List Worker) (w : Worker) → views_of (ws ++ w ∷ []) ≡ w.seat.me.0 ++ views_of ws
views_of_push [] w = sym (append-nil w.seat.me.0)
views_of_push (v ∷ ws) w = ap (λ z. z ++ v.seat.me.0) (views_of_push ws w) ∙ append_assoc w.seat.me.0 (views_of ws) v.seat.me.0

pub views_of_last : (ws rest : List Worker) (w : Worker) → ws ≡ rest ++ w ∷ [] → w.seat.me.0 ++ views_of rest ≡ views_of ws
views_of_last ws rest w e = sym (views_of_push rest w) ∙ ap views_of (sym e)

-- a seat more is joined
pub joined_views_whole : (old rest : List Worker) (w : Worker) (all new : Seat (Unit {0}) View) (whole : View) → all.me.0 ++ views_of old ≡ whole
    → old ≡ rest ++ w ∷ [] → new.me ≡ (all.me.0 ++ w.seat.me.0, []) → new.me.0 ++ views_of rest ≡ whole
joined_views_whole old rest w all new whole h e is = ap (λ z. z.0 ++ views_of rest) is ∙ append_assoc all.me.0 w.seat.me.0 (views_of rest)
    ∙ ap (λ z. all.me.0 ++ z) (views_of_last old rest w e) ∙ h

-- a thread more rises
pub joined_threads_whole : (old rest : List Worker) (w : Worker) (xs ys whole : List thread.ThreadState) → xs ++ backwards (round_threads old) ≡ whole
    → old ≡ rest ++ w ∷ [] → ys ≡ xs ++ w.thread ∷ [] → ys ++ backwards (round_threads rest) ≡ whole
joined_threads_whole old rest w xs ys whole h e is =
    ap (λ z. z ++ backwards (round_threads rest)) is ∙ append_assoc xs (w.thread ∷ []) (backwards (round_threads rest))
    ∙ ap (λ z. xs ++ z) (sym (backwards_of_push (round_threads rest) w.thread) ∙ ap backwards (sym (threads_of_push rest w))
    ∙ ap (λ z. backwards (round_threads z)) (sym e)) ∙ h

pub length_after_push : {X : Type 0} (xs ys : List X) (x : X) → xs ≡ ys ++ x ∷ [] → length xs ≡ length ys + 1
length_after_push xs ys x e = ap (λ z. length z) e ∙ length-append ys (x ∷ [])
