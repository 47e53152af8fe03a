-- No step tells states apart that look the same.
use Rattle.std.proofs.Common.{Some, None, ◌≡◌, ◌≢◌, ℕ, Bool, true, false, cond, eqb, refl, sym, ap, ◌∙◌, subst}
use Rattle.ir_runs.specs.Machine.{Ask, Done, Act, act_of, Silent, Replied, Entered, TryFailed, Left, Got, Stored, Never, Machine, upd, Object, target, Admits, acted, reply}
use Rattle.ir_runs.specs.declared.access.Access.TheVariants.{Reading, Writing}
use Rattle.ir_runs.specs.Run.{State, Step, asked, act, Can, after, after_act}
use Rattle.ir_runs.proofs.CallerLemmas.{StateInvariant}
use Rattle.ir_search_laws.specs.Counting.{AnswersCall}
use Rattle.ir_search_laws.specs.Looks.{LookSame, Looks}
use Rattle.ir_search_laws.specs.Nodes.{TellsNothing}

admits_if_inside_equal : {T : Type 0} (m : Machine T) (q : Act) (b c : Object) → ((u : ℕ) → b.inside u ≡ c.inside u) → Admits m q b → Admits m q c
admits_if_inside_equal m Silent b c same h = tt
admits_if_inside_equal m (Replied k v) b c same h = h
admits_if_inside_equal m (Entered o Reading v) b c same h = λ u e. h u (same u ∙ e)
admits_if_inside_equal m (Entered o Writing v) b c same h = λ u. sym (same u) ∙ h u
admits_if_inside_equal m (TryFailed o) b c same h = tt
admits_if_inside_equal m (Left o a) b c same h = tt
admits_if_inside_equal m (Got o i) b c same h = tt
admits_if_inside_equal m (Stored o i w) b c same h = tt
admits_if_inside_equal m Never b c same h = h

reply_by_equal_words : (q : Act) (b c : Object) → b.words ≡ c.words → reply q b ≡ reply q c
reply_by_equal_words Silent b c same = refl
reply_by_equal_words (Replied k v) b c same = refl
reply_by_equal_words (Entered o a v) b c same = refl
reply_by_equal_words (TryFailed o) b c same = refl
reply_by_equal_words (Left o a) b c same = refl
reply_by_equal_words (Got o i) b c same = ap (λ w. w i) same
reply_by_equal_words (Stored o i w) b c same = refl
reply_by_equal_words Never b c same = refl

acted_words_equal : (q : Act) (t : ℕ) (b c : Object) → b.words ≡ c.words → (acted q t b).words ≡ (acted q t c).words
acted_words_equal Silent t b c same = same
acted_words_equal (Replied k v) t b c same = same
acted_words_equal (Entered o a v) t b c same = same
acted_words_equal (TryFailed o) t b c same = same
acted_words_equal (Left o Reading) t b c same = same
acted_words_equal (Left o Writing) t b c same = same
acted_words_equal (Got o i) t b c same = same
acted_words_equal (Stored o i w) t b c same = ap (λ z. upd z i w) same
acted_words_equal Never t b c same = same

-- tables that are changed at one place
updates_related : {A : Type 0} (R : A → A → Type 0) (f g : ℕ → A) (i : ℕ) (x y : A) (j : ℕ) → R x y → R (f j) (g j) → R (upd f i x j) (upd g i y j)
unfolding upd
updates_related {A} R f g i x y j h k = by_test (eqb j i)
  where
    by_test : (b : Bool) → R (cond b x (f j)) (cond b y (g j))
    by_test true = h
    by_test false = k

acted_inside_equal : (q : Act) (t : ℕ) (b c : Object) → ((u : ℕ) → b.inside u ≡ c.inside u) → (u : ℕ)
    → (acted q t b).inside u ≡ (acted q t c).inside u
acted_inside_equal Silent t b c same u = same u
acted_inside_equal (Replied k v) t b c same u = same u
acted_inside_equal (Entered o a v) t b c same u = updates_related (λ x y. x ≡ y) b.inside c.inside t (Some a) (Some a) u refl (same u)
acted_inside_equal (TryFailed o) t b c same u = same u
acted_inside_equal (Left o Reading) t b c same u = updates_related (λ x y. x ≡ y) b.inside c.inside t None None u refl (same u)
acted_inside_equal (Left o Writing) t b c same u = updates_related (λ x y. x ≡ y) b.inside c.inside t None None u refl (same u)
acted_inside_equal (Got o i) t b c same u = same u
acted_inside_equal (Stored o i w) t b c same u = same u
acted_inside_equal Never t b c same u = same u

admitted_is_not_done : {T : Type 0} (m : Machine T) (q : Ask) (r : ℕ) (b : Object) → Admits m (act_of q r) b → q ≢ Done
admitted_is_not_done m q r b h e = subst (λ z. Admits m (act_of z r) b) e h

module _ {T : Type 0} (m : Machine T) (answers : AnswersCall T) (Same : T → T → Type 0) (same : LookSame m answers Same) where
  act_same : (s v : State T) → Looks Same s v → (e : Step) → act m s e ≡ act m v e
  act_same s v h e = ap (λ q. act_of q e.1) (same.asks (s.now e.0) (v.now e.0) (h.threads e.0))

  can_same : (s v : State T) → Looks Same s v → (e : Step) → Can m s e → Can m v e
  can_same s v h e can =
      subst (λ q. Admits m q (v.objects (target q))) (act_same s v h e)
      (admits_if_inside_equal m (act m s e) (s.objects (target (act m s e))) (v.objects (target (act m s e))) (h.inside (target (act m s e))) can)

  threads_same : (s v : State T) → Looks Same s v → (e : Step) → Can m s e → (u : ℕ) → Same ((after m s e).now u) ((after m v e).now u)
  unfolding after
  threads_same s v h e can u =
      let q : Act = act m s e in
      let one : reply q (s.objects (target q)) ≡ reply q (v.objects (target q)) =
      reply_by_equal_words q (s.objects (target q)) (v.objects (target q)) (h.words (target q)) in
      subst (λ z. Same ((after_act m s e.0 (s.now e.0) q).now u) ((after_act m v e.0 (v.now e.0) z).now u)) (act_same s v h e)
      (updates_related Same s.now v.now e.0 (m.take (s.now e.0) (reply q (s.objects (target q)))) (m.take (v.now e.0) (reply q (v.objects (target q)))) u
      (subst (λ z. Same (m.take (s.now e.0) (reply q (s.objects (target q)))) (m.take (v.now e.0) z)) one
      (same.takes (s.now e.0) (v.now e.0) (h.threads e.0) (admitted_is_not_done m (asked m s e.0) e.1 (s.objects (target q)) can)
      (reply q (s.objects (target q)))))
      (h.threads u))

  -- what holds of two objects before a step holds of them after it
  objects_same : (R : Object → Object → Type 0) → ((q : Act) (t : ℕ) (b c : Object) → R b c → R (acted q t b) (acted q t c))
      → (s v : State T) → Looks Same s v → ((o : ℕ) → R (s.objects o) (v.objects o)) → (e : Step) → (o : ℕ)
      → R ((after m s e).objects o) ((after m v e).objects o)
  unfolding after
  objects_same R keeps s v h all e o =
      let q : Act = act m s e in
      subst (λ z. R ((after_act m s e.0 (s.now e.0) q).objects o) ((after_act m v e.0 (v.now e.0) z).objects o)) (act_same s v h e)
      (updates_related R s.objects v.objects (target q) (acted q e.0 (s.objects (target q))) (acted q e.0 (v.objects (target q)))
      o (keeps q e.0 (s.objects (target q)) (v.objects (target q)) (all (target q))) (all o))

  -- states that look the same are alike
  pub looks_alike : TellsNothing m answers (Looks Same)
  looks_alike = record {
    asks = λ s v h t. same.asks (s.now t) (v.now t) (h.threads t);
    answered = λ s v h t. same.answered (s.now t) (v.now t) (h.threads t) t;
    can = can_same;
    steps = λ s v h e can. record {
      threads = threads_same s v h e can;
      inside = objects_same (λ b c. (u : ℕ) → b.inside u ≡ c.inside u) acted_inside_equal s v h h.inside e;
      words = objects_same (λ b c. b.words ≡ c.words) acted_words_equal s v h h.words e;
    };
    backwards = λ s v h. record {
      threads = λ t. same.backwards (s.now t) (v.now t) (h.threads t);
      inside = λ o t. sym (h.inside o t);
      words = λ o. sym (h.words o);
    };
    onwards = λ s v w h k. record {
      threads = λ t. same.onwards (s.now t) (v.now t) (w.now t) (h.threads t) (k.threads t);
      inside = λ o t. h.inside o t ∙ k.inside o t;
      words = λ o. h.words o ∙ k.words o;
    };
  }

  -- who is inside is who holds, so threads that look the same and objects of the same words are enough
  pub looks_by : (s v : State T) → StateInvariant m s → ((t : ℕ) → Same (s.now t) (v.now t))
      → ((o : ℕ) → (s.objects o).words ≡ (v.objects o).words) → ((t o : ℕ) → (v.objects o).inside t ≡ m.held (v.now t) o)
      → Looks Same s v
  looks_by s v good threads words linked = record {
    threads = threads;
    inside = λ o t. good.linked t o ∙ same.holds (s.now t) (v.now t) (threads t) o ∙ sym (linked t o);
    words = words;
  }
