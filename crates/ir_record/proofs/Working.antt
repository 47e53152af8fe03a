-- A thread alone, with one step more.
use Rattle.std.proofs.Common.{◌≡◌, ℕ, Bool, true, false, cond, eqb, List, [], ◌∷◌, ◌++◌, map, length, Option, Some, None, refl, sym, ap, ◌∙◌, subst, arith}
use Rattle.ir_runs.specs.Machine.{Act, act_of, Silent, Replied, Entered, TryFailed, Left, Got, Stored, Never, Machine, upd, target, Label, logged}
use Rattle.ir_runs.specs.Shared.{is_shared}
use Rattle.ir_runs.specs.Lawful.{held_after}
use Rattle.ir_runs.specs.declared.access.Access.{Access}
use Rattle.ir_object.specs.Order.{Shared, inside_then, inside_if}
use Rattle.ir_runs.specs.Run.{events, join_if}
use Rattle.ir_flat.specs.Splice.{shared_steps}
use Rattle.ir_flat.specs.Flat.{MayReply, MayRun, alone_after}
use Rattle.ir_flat.specs.Trails.{alone_label, labels_left, alone_trail}
use Rattle.ir_runs.proofs.CallerLemmas.{events_append, join_if-append}
use Rattle.ir_crew.specs.Rule.{label_by, label_by_rule}
use Rattle.ir_crew.specs.declared.deed.Deed.{Deed}
use Rattle.ir_crew.specs.declared.deed.Deed.TheVariants.{Enter, Try, Leave, Get, Put}
use Rattle.ir_crew.specs.declared.deed.ObjectStep.{ObjectStep}
use Rattle.ir_record.specs.Working.{Worked}
use Rattle.ir_record.specs.Recording.{answer_if, alone_answers}
use Rattle.ir_record.specs.Worlds.{AnsweredCall, answers_in}

may_run_push : {T : Type 0} (m : Machine T) (x : T) (vs : List ℕ) (v : ℕ) → MayRun m x vs → MayReply m (act_of (m.ask (alone_after m x vs)) v) v
    → MayRun m x (vs ++ v ∷ [])
may_run_push m x [] v h r = (r, tt)
may_run_push m x (u ∷ vs) v h r = (h.0, may_run_push m (m.take x u) vs v h.1 r)

alone_after_push : {T : Type 0} (m : Machine T) (x : T) (vs : List ℕ) (v : ℕ) → alone_after m x (vs ++ v ∷ []) ≡ m.take (alone_after m x vs) v
alone_after_push m x [] v = refl
alone_after_push m x (u ∷ vs) v = alone_after_push m (m.take x u) vs v

shared_steps_push : {T : Type 0} (m : Machine T) (x : T) (vs : List ℕ) (v : ℕ)
    → shared_steps m x (vs ++ v ∷ []) ≡ shared_steps m x vs ++ join_if (is_shared (act_of (m.ask (alone_after m x vs)) v))
    (act_of (m.ask (alone_after m x vs)) v, v) []
shared_steps_push m x [] v = refl
shared_steps_push m x (u ∷ vs) v = ap (join_if (is_shared (act_of (m.ask x) u)) (act_of (m.ask x) u, u)) (shared_steps_push m (m.take x u) vs v)
    ∙ join_if-append (is_shared (act_of (m.ask x) u)) (act_of (m.ask x) u, u) (shared_steps m (m.take x u) vs) _

own_label_ignores_labels : (q : Act) (ks ls : List Label) → is_shared q ≡ false → alone_label q ks ≡ alone_label q ls
own_label_ignores_labels Silent ks ls e = refl
own_label_ignores_labels (Replied k v) ks ls e = refl
own_label_ignores_labels (Entered o a v) ks ls e = absurd (cc e)
own_label_ignores_labels (TryFailed o) ks ls e = refl
own_label_ignores_labels (Left o a) ks ls e = absurd (cc e)
own_label_ignores_labels (Got o i) ks ls e = absurd (cc e)
own_label_ignores_labels (Stored o i w) ks ls e = absurd (cc e)
own_label_ignores_labels Never ks ls e = refl

alone_label_first : (q : Act) (k : Label) (ks ls : List Label) → alone_label q (k ∷ ks) ≡ alone_label q (k ∷ ls)
alone_label_first Silent k ks ls = refl
alone_label_first (Replied i v) k ks ls = refl
alone_label_first (Entered o a v) k ks ls = refl
alone_label_first (TryFailed o) k ks ls = refl
alone_label_first (Left o a) k ks ls = refl
alone_label_first (Got o i) k ks ls = refl
alone_label_first (Stored o i w) k ks ls = refl
alone_label_first Never k ks ls = refl

-- what the trail of more replies says
abbrev TrailWithReplyAdded : {T : Type 0} → Machine T → T → List ℕ → ℕ → List Label → List Label → Type 0
TrailWithReplyAdded m x vs v ks ls = alone_trail m x (vs ++ v ∷ []) (ks ++ ls) ≡ alone_trail m x vs ks ++
    (alone_after m x vs, alone_label (act_of (m.ask (alone_after m x vs)) v) ls) ∷ []

trail_reply_added_step : {T : Type 0} (m : Machine T) (x : T) (u : ℕ) (vs : List ℕ) (v : ℕ) (ls : List Label)
    → ((ks : List Label) → length ks ≡ length (shared_steps m (m.take x u) vs) → TrailWithReplyAdded m (m.take x u) vs v ks ls) → (b : Bool)
    → is_shared (act_of (m.ask x) u) ≡ b
    → (ks : List Label) → length ks ≡ length (join_if b (act_of (m.ask x) u, u) (shared_steps m (m.take x u) vs))
    → TrailWithReplyAdded m x (u ∷ vs) v ks ls
trail_reply_added_step m x u vs v ls rest false is ks n =
    let q = act_of (m.ask x) u in
    ap (λ z. (x, z) ∷ alone_trail m (m.take x u) (vs ++ v ∷ []) (labels_left (is_shared q) (ks ++ ls))) (own_label_ignores_labels q (ks ++ ls) ks is)
    ∙ ap (λ b. (x, alone_label q ks) ∷ alone_trail m (m.take x u) (vs ++ v ∷ []) (labels_left b (ks ++ ls))) is
    ∙ ap (λ z. (x, alone_label q ks) ∷ z) (rest ks n)
    ∙ sym (ap (λ b. ((x, alone_label q ks) ∷ alone_trail m (m.take x u) vs (labels_left b ks)) ++
    (alone_after m (m.take x u) vs, alone_label (act_of (m.ask (alone_after m (m.take x u) vs)) v) ls) ∷ []) is)
trail_reply_added_step m x u vs v ls rest true is [] n = absurd (omega (arith, n))
trail_reply_added_step m x u vs v ls rest true is (k ∷ ks) n =
    let q = act_of (m.ask x) u in
    ap (λ z. (x, z) ∷ alone_trail m (m.take x u) (vs ++ v ∷ []) (labels_left (is_shared q) (k ∷ ks ++ ls))) (alone_label_first q k (ks ++ ls) ks)
    ∙ ap (λ b. (x, alone_label q (k ∷ ks)) ∷ alone_trail m (m.take x u) (vs ++ v ∷ []) (labels_left b (k ∷ ks ++ ls))) is
    ∙ ap (λ z. (x, alone_label q (k ∷ ks)) ∷ z) (rest ks (omega (arith, n)))
    ∙ sym (ap (λ b. ((x, alone_label q (k ∷ ks)) ∷ alone_trail m (m.take x u) vs (labels_left b (k ∷ ks))) ++
    (alone_after m (m.take x u) vs, alone_label (act_of (m.ask (alone_after m (m.take x u) vs)) v) ls) ∷ []) is)

trail_with_reply_added : {T : Type 0} (m : Machine T) (x : T) (vs : List ℕ) (v : ℕ) (ks ls : List Label) → length ks ≡ length (shared_steps m x vs)
    → TrailWithReplyAdded m x vs v ks ls
trail_with_reply_added m x [] v [] ls e = refl
trail_with_reply_added m x [] v (k ∷ ks) ls e = absurd (omega (arith, e))
trail_with_reply_added m x (u ∷ vs) v ks ls e = trail_reply_added_step m x u vs v ls (λ is n. trail_with_reply_added m (m.take x u) vs v is ls n)
    (is_shared (act_of (m.ask x) u)) refl ks e

pub worked_by_no_replies : {T : Type 0} (m : Machine T) (x : T) → Worked m x x [] [] []
worked_by_no_replies m x = record { replies = []; may = tt; now = refl; steps_are = refl; logged = refl }

-- one step more: its object step, if it is one, with what it reported, and what is logged of it
pub worked_with_reply_added : {T : Type 0} (m : Machine T) (x y : T) (steps : List Shared) (labels log : List Label) (v : ℕ) (ls : List Label)
    → Worked m x y steps labels log → length labels ≡ length steps → MayReply m (act_of (m.ask y) v) v
    → Worked m x (m.take y v) (steps ++ join_if (is_shared (act_of (m.ask y) v)) (act_of (m.ask y) v, v) []) (labels ++ ls)
    (log ++ logged (alone_label (act_of (m.ask y) v) ls) [])
worked_with_reply_added m x y steps labels log v ls w n may = record {
  replies = w.replies ++ v ∷ [];
  may = may_run_push m x w.replies v w.may (subst (λ z. MayReply m (act_of (m.ask z) v) v) (sym w.now) may);
  now = alone_after_push m x w.replies v ∙ ap (λ z. m.take z v) w.now;
  steps_are = shared_steps_push m x w.replies v ∙ (λ i. w.steps_are i ++ join_if (is_shared (act_of (m.ask (w.now i)) v))
      (act_of (m.ask (w.now i)) v, v) []);
  logged = ap events (trail_with_reply_added m x w.replies v labels ls (n ∙ ap (λ z. length z) (sym w.steps_are)))
      ∙ events_append (alone_trail m x w.replies labels)
      ((alone_after m x w.replies, alone_label (act_of (m.ask (alone_after m x w.replies)) v) ls) ∷ [])
      ∙ (λ i. w.logged i ++ logged (alone_label (act_of (m.ask (w.now i)) v) ls) []);
}

-- ---- what a thread holds is what it is inside of

pub own_act_keeps_held : (q : Act) (h : ℕ → Option Access) (o : ℕ) → is_shared q ≡ false → held_after q h o ≡ h o
own_act_keeps_held Silent h o e = refl
own_act_keeps_held (Replied k v) h o e = refl
own_act_keeps_held (Entered i a v) h o e = absurd (cc e)
own_act_keeps_held (TryFailed i) h o e = refl
own_act_keeps_held (Left i a) h o e = absurd (cc e)
own_act_keeps_held (Got i j) h o e = absurd (cc e)
own_act_keeps_held (Stored i j w) h o e = absurd (cc e)
own_act_keeps_held Never h o e = refl

cond_is_inside_if : (b : Bool) (q : Act) (x : Option Access) (y : Option Access) → inside_then q y ≡ x → cond b x y ≡ inside_if b q y
cond_is_inside_if true q x y e = sym e
cond_is_inside_if false q x y e = refl

inside_if_unchanged : (b : Bool) (q : Act) (y : Option Access) → inside_then q y ≡ y → y ≡ inside_if b q y
inside_if_unchanged true q y e = sym e
inside_if_unchanged false q y e = refl

pub held_after_is_inside_if : (q : Act) (h : ℕ → Option Access) (o : ℕ) → is_shared q ≡ true → held_after q h o ≡ inside_if (eqb o (target q)) q (h o)
unfolding upd
held_after_is_inside_if Silent h o e = absurd (cc e)
held_after_is_inside_if (Replied k v) h o e = absurd (cc e)
held_after_is_inside_if (Entered i a v) h o e = cond_is_inside_if (eqb o i) (Entered i a v) (Some a) (h o) refl
held_after_is_inside_if (TryFailed i) h o e = absurd (cc e)
held_after_is_inside_if (Left i a) h o e = cond_is_inside_if (eqb o i) (Left i a) None (h o) refl
held_after_is_inside_if (Got i j) h o e = inside_if_unchanged (eqb o i) (Got i j) (h o) refl
held_after_is_inside_if (Stored i j w) h o e = inside_if_unchanged (eqb o i) (Stored i j w) (h o) refl
held_after_is_inside_if Never h o e = absurd (cc e)

-- ---- what is logged of object steps is no answer of the environment

deed_logs_no_answer : (o : ℕ) (d : Deed) (es : List Label) → answers_in (logged (label_by o d) es) ≡ answers_in es
deed_logs_no_answer o (Enter a v l) es = refl
deed_logs_no_answer o (Try v l) es = refl
deed_logs_no_answer o (Leave a v) es = refl
deed_logs_no_answer o (Get i w) es = refl
deed_logs_no_answer o (Put i w) es = refl

-- f labels is what is logged of the steps after this one when object steps report these labels
logged_answers_step : (q : Act) (f : List Label → List Label) (track : List ObjectStep) (others : List AnsweredCall)
    → ((later : List ObjectStep) → answers_in (f (map label_by_rule later)) ≡ others)
    → answers_in (logged (alone_label q (map label_by_rule track)) (f (labels_left (is_shared q) (map label_by_rule track)))) ≡ answer_if q others
logged_answers_step Silent f track others rest = rest track
logged_answers_step (Replied k v) f track others rest = ap (λ z. (k, v) ∷ z) (rest track)
logged_answers_step (TryFailed o) f track others rest = rest track
logged_answers_step Never f track others rest = rest track
logged_answers_step (Entered o a v) f [] others rest = rest []
logged_answers_step (Entered o a v) f (e ∷ track) others rest = deed_logs_no_answer e.object e.deed (f (map label_by_rule track)) ∙ rest track
logged_answers_step (Left o a) f [] others rest = rest []
logged_answers_step (Left o a) f (e ∷ track) others rest = deed_logs_no_answer e.object e.deed (f (map label_by_rule track)) ∙ rest track
logged_answers_step (Got o i) f [] others rest = rest []
logged_answers_step (Got o i) f (e ∷ track) others rest = deed_logs_no_answer e.object e.deed (f (map label_by_rule track)) ∙ rest track
logged_answers_step (Stored o i w) f [] others rest = rest []
logged_answers_step (Stored o i w) f (e ∷ track) others rest = deed_logs_no_answer e.object e.deed (f (map label_by_rule track)) ∙ rest track

-- the answers that a thread alone logs are those of its replies, whatever its object steps report
pub logged_answers_alone : {T : Type 0} (m : Machine T) (x : T) (vs : List ℕ) (track : List ObjectStep)
    → answers_in (events (alone_trail m x vs (map label_by_rule track))) ≡ alone_answers m x vs
logged_answers_alone m x [] track = refl
logged_answers_alone m x (v ∷ vs) track = logged_answers_step (act_of (m.ask x) v)
    (λ ks. events (alone_trail m (m.take x v) vs ks)) track (alone_answers m (m.take x v) vs) (logged_answers_alone m (m.take x v) vs)
