-- What a template does: its parts are evaluated and made texts in order, and stand between its pieces of text.
use Rattle.std.proofs.Common.{◌≡◌, ℕ, suc, ◌+◌, List, [], ◌∷◌, ◌++◌, Option, Some, None, length, length-append, append_assoc, refl, sym, ap, ◌∙◌, arith}
use Rattle.mini_model.specs.declared.shape.Shape.TheVariants as shape
use Rattle.mini_model.specs.Paths.{append}
use Rattle.mini_model.specs.Tree.{Tree, Trees, none, ◌▸◌, listed, count}
use Rattle.mini_laws.specs.Value.{Value, Undefined, Null, Boolean, Number, String, Symbol, Object}
use Rattle.mini_laws.specs.State.{ForString, State, Completion, ok, stop, either, Environment}
use Rattle.mini_laws.specs.Demand.{Val, As, Texts}
use Rattle.mini_laws.specs.Command.{Naming, Command, ret, bind, shift, run}
use Rattle.mini_laws.specs.Conversion.{to_text}
use Rattle.mini_laws.specs.Expressions.{interleaved}
use Rattle.mini_laws.specs.Lists.{template_texts}
use Rattle.mini_laws.specs.Naming.{summaries, facts, texts_all, naming}
use Rattle.mini_laws.specs.Replies.{primitive, of_made}
use Rattle.mini_laws.specs.Step.{step, means, meaning}
use Rattle.mini_laws.proofs.Runs.{either_cong, either_assoc, either_ok, either_stop, run_bind, run_shift}
use Rattle.mini_terms.specs.Const.{made}
use Rattle.mini_rows.specs.Templates.{Piece, piece, pieces, template}
use Rattle.mini_rows.proofs.ChoiceRuns.{value, primitive_free, made_free}

-- ---- one after the other

abbrev pub next : {A B : Type 0} → Completion A → (A → State → Completion B) → Completion B
next y f = either y f (λ x z. stop x z)

pub next_cong : {A B : Type 0} (y : Completion A) (f g : A → State → Completion B) → ((a : A) (z : State) → f a z ≡ g a z) → next y f ≡ next y g
next_cong y f g h = either_cong y f g _ _ h (λ x z. refl)

pub next_assoc : {A B C : Type 0} (y : Completion A) (f : A → State → Completion B) (g : B → State → Completion C) → next (next y f) g ≡ next y (λ a z. next (f a z) g)
next_assoc y f g = either_assoc y f (λ x z. stop x z) g (λ x z. stop x z) ∙ either_cong y _ _ _ _ (λ a z. refl) (λ x z. either_stop x z g (λ x z. stop x z))

pub next_ok : {A B : Type 0} (a : A) (z : State) (f : A → State → Completion B) → next (ok a z) f ≡ f a z
next_ok a z f = either_ok a z f (λ x z. stop x z)

-- ---- pieces

abbrev pub cookeds : List Piece → List (List ℕ)
cookeds [] = []
cookeds (p ∷ ps) = p.cooked ∷ cookeds ps

pieces_texts : (ps : List Piece) → texts_all (facts (pieces ps)) ≡ cookeds ps
pieces_texts [] = refl
pieces_texts (p ∷ ps) = ap (λ r. p.cooked ∷ r) (pieces_texts ps)

pieces_append : (ps qs : List Piece) → append (pieces ps) (pieces qs) ≡ pieces (ps ++ qs)
pieces_append [] qs = refl
pieces_append (p ∷ ps) qs = ap (λ r. piece p ▸ r) (pieces_append ps qs)

cookeds_append : (ps qs : List Piece) → cookeds (ps ++ qs) ≡ cookeds ps ++ cookeds qs
cookeds_append [] qs = refl
cookeds_append (p ∷ ps) qs = ap (λ r. p.cooked ∷ r) (cookeds_append ps qs)

pub count_append : (ts us : Trees) → count (append ts us) ≡ count ts + count us
count_append none us = omega arith
count_append (t ▸ ts) us = let rest = count_append ts us in omega (arith, rest)

-- ---- the parts

abbrev text_in : Option (List ℕ) → List ℕ
text_in (Some t) = t
text_in None = []

module _ (e : Environment) where
  abbrev no_names : Naming
  no_names = naming shape.Listed Texts [] 0 []

  -- the text of a value (ECMA-262, "ToString")
  unfoldable pub text_made : Value → State → Completion (List ℕ)
  text_made v z = next (run {q = λ i. As Val} e no_names (λ i r z. meaning e none i (As Val) r z) (primitive ForString v) z) (λ x y. run {q = λ i. As Val} e no_names (λ i r z. meaning e none i (As Val) r z) (of_made (to_text x)) y)

  -- of a primitive value it is made without an event
  pub known_text : (v : Value) (t : List ℕ) → made (to_text v) ≡ Some t → (z : State) → text_made v z ≡ ok t z
  unfolding text_made either
  known_text Undefined t k z = ap (λ o. ok (text_in o) z) k
  known_text Null t k z = ap (λ o. ok (text_in o) z) k
  known_text (Boolean b) t k z = ap (λ o. ok (text_in o) z) k
  known_text (Number n) t k z = ap (λ o. ok (text_in o) z) k
  known_text (String s) t k z = ap (λ o. ok (text_in o) z) k
  known_text (Symbol n) t k z = absurd (cc k)
  known_text (Object n f) t k z = absurd (cc k)

  pub in_turn : Trees → State → Completion (List (List ℕ))
  in_turn none s = ok [] s
  in_turn (t ▸ ts) s = next (value e t s) (λ v z. next (text_made v z) (λ x y. next (in_turn ts y) (λ xs u. ok (x ∷ xs) u)))

  module _ (names : Naming) (t : Tree) (ts : Trees) where
    abbrev Run : {A : Type 0} → Command (λ i. As Val) A → State → Completion A
    Run c y = run {q = λ i. As Val} e names (λ i r z. meaning e (t ▸ ts) i (As Val) r z) c y

    abbrev rest : List ℕ → Command (λ i. As Val) (List (List ℕ))
    rest x = bind (shift {q = λ i. As Val} (template_texts (length (facts ts)))) (λ xs. ret (x ∷ xs))

    module _ (h : (s : State) → run {q = λ i. As Val} e names (λ i r z. meaning e ts i (As Val) r z) (template_texts (length (facts ts))) s ≡ in_turn ts s) where
      rest_done : (x : List ℕ) (y : State) → Run (rest x) y ≡ next (in_turn ts y) (λ xs u. ok (x ∷ xs) u)
      unfolding meaning
      rest_done x y =
          run_bind e names (shift {q = λ i. As Val} (template_texts (length (facts ts)))) (λ xs. ret (x ∷ xs)) (λ i r z. meaning e (t ▸ ts) i (As Val) r z) y
          ∙ ap (λ c. next c (λ xs u. ok (x ∷ xs) u)) (run_shift e names (λ i. As Val) (template_texts (length (facts ts))) (λ i r z. meaning e (t ▸ ts) i (As Val) r z) y ∙ h y)

      text_done : (v : Value) (y : State) → Run (bind (of_made (to_text v)) rest) y ≡ next (run {q = λ i. As Val} e no_names (λ i r z. meaning e none i (As Val) r z) (of_made (to_text v)) y) (λ x u. next (in_turn ts u) (λ xs k. ok (x ∷ xs) k))
      text_done v y =
          run_bind e names (of_made (to_text v)) rest (λ i r z. meaning e (t ▸ ts) i (As Val) r z) y
          ∙ ap (λ c. next c (λ x u. Run (rest x) u)) (made_free e names no_names (λ i. As Val) (λ i. As Val) (λ i r z. meaning e (t ▸ ts) i (As Val) r z) (λ i r z. meaning e none i (As Val) r z) (to_text v) y)
          ∙ next_cong _ _ _ rest_done

      part_done : (v : Value) (z : State) → Run (bind (primitive ForString v) (λ x. bind (of_made (to_text x)) rest)) z ≡ next (text_made v z) (λ x y. next (in_turn ts y) (λ xs u. ok (x ∷ xs) u))
      unfolding text_made
      part_done v z =
          run_bind e names (primitive ForString v) (λ x. bind (of_made (to_text x)) rest) (λ i r z. meaning e (t ▸ ts) i (As Val) r z) z
          ∙ ap (λ c. next c (λ x y. Run (bind (of_made (to_text x)) rest) y)) (primitive_free e names no_names (λ i. As Val) (λ i. As Val) (λ i r z. meaning e (t ▸ ts) i (As Val) r z) (λ i r z. meaning e none i (As Val) r z) ForString v z)
          ∙ next_cong _ _ _ text_done
          ∙ sym (next_assoc _ _ _)

  texts_run : (names : Naming) (ts : Trees) (s : State) → run {q = λ i. As Val} e names (λ i r z. meaning e ts i (As Val) r z) (template_texts (length (facts ts))) s ≡ in_turn ts s
  unfolding meaning in_turn
  texts_run names none s = refl
  texts_run names (t ▸ ts) s = next_cong (value e t s) _ _ (part_done names t ts (texts_run names ts))

  -- one part after the other, where what they give is known

  pub none_turn : (s : State) → in_turn none s ≡ ok [] s
  unfolding in_turn
  none_turn s = refl

  pub one_turn : (t : Tree) (ts : Trees) (v : Value) (x : List ℕ) (xs : List (List ℕ)) (s : State) → value e t s ≡ ok v s → text_made v s ≡ ok x s → in_turn ts s ≡ ok xs s → in_turn (t ▸ ts) s ≡ ok (x ∷ xs) s
  unfolding in_turn
  one_turn t ts v x xs s h k l =
      ap (λ c. next c (λ v z. next (text_made v z) (λ x y. next (in_turn ts y) (λ xs u. ok (x ∷ xs) u)))) h
      ∙ next_ok v s _
      ∙ ap (λ c. next c (λ x y. next (in_turn ts y) (λ xs u. ok (x ∷ xs) u))) k
      ∙ next_ok x s _
      ∙ ap (λ c. next c (λ xs u. ok (x ∷ xs) u)) l
      ∙ next_ok xs s _

  -- ---- the whole

  -- these texts with the parts between them
  abbrev pub between : List (List ℕ) → Trees → State → Completion (List ℕ)
  between cs ts s = next (in_turn ts s) (λ xs z. ok (interleaved cs xs) z)

  pub template_all : (ps ts : Trees) (s : State) → value e (template ps ts) s ≡ next (between (texts_all (facts (listed ps ▸ (listed ts ▸ none)))) ts s) (λ x z. ok (String x) z)
  unfolding means meaning step
  template_all ps ts s =
      ap (λ c. next c (λ xs z. ok (String (interleaved (texts_all (facts (listed ps ▸ (listed ts ▸ none)))) xs)) z)) (texts_run (naming shape.Listed Texts [] 0 (summaries ts)) ts s)
      ∙ sym (next_assoc (in_turn ts s) _ _ ∙ next_cong (in_turn ts s) _ _ (λ xs z. next_ok _ z _))

  pub more : (c : List ℕ) (cs : List (List ℕ)) (t : Tree) (ts : Trees) (s : State) → between (c ∷ cs) (t ▸ ts) s ≡ next (value e t s) (λ v z. next (text_made v z) (λ x y. next (between cs ts y) (λ r u. ok (c ++ (x ++ r)) u)))
  unfolding in_turn
  more c cs t ts s =
      next_assoc (value e t s) _ _
      ∙ next_cong (value e t s) _ _ (λ v z.
      next_assoc (text_made v z) _ _
      ∙ next_cong (text_made v z) _ _ (λ x y.
      next_assoc (in_turn ts y) _ _
      ∙ next_cong (in_turn ts y) _ _ (λ xs u. next_ok (x ∷ xs) u _)
      ∙ sym (next_assoc (in_turn ts y) _ _ ∙ next_cong (in_turn ts y) _ _ (λ xs u. next_ok _ u _))))

  pub nothing_between : (cs : List (List ℕ)) (s : State) → between cs none s ≡ ok (interleaved cs []) s
  unfolding in_turn
  nothing_between cs s = next_ok [] s _

  -- ---- texts before

  abbrev pub put_before : List ℕ → Completion (List ℕ) → Completion (List ℕ)
  put_before a y = next y (λ r u. ok (a ++ r) u)

  interleaved_before : (a b : List ℕ) (cs xs : List (List ℕ)) → interleaved ((a ++ b) ∷ cs) xs ≡ a ++ interleaved (b ∷ cs) xs
  interleaved_before a b cs [] = refl
  interleaved_before a b cs (x ∷ xs) = append_assoc a b (x ++ interleaved cs xs)

  pub text_before : (a b : List ℕ) (cs : List (List ℕ)) (ts : Trees) (s : State) → between ((a ++ b) ∷ cs) ts s ≡ put_before a (between (b ∷ cs) ts s)
  text_before a b cs ts s =
      next_cong (in_turn ts s) _ _ (λ xs z. ap (λ r. ok r z) (interleaved_before a b cs xs))
      ∙ sym (next_assoc (in_turn ts s) _ _ ∙ next_cong (in_turn ts s) _ _ (λ xs z. next_ok _ z _))

  -- ---- the pieces are as many as the parts, and one more

  -- what stands behind them is not read
  just : (p : Piece) (ps : List Piece) (junk : List (List ℕ)) (ts : Trees) → length ps ≡ count ts → (s : State) → between (cookeds (p ∷ ps) ++ junk) ts s ≡ between (cookeds (p ∷ ps)) ts s
  just p [] junk none h s = nothing_between (p.cooked ∷ junk) s ∙ sym (nothing_between (p.cooked ∷ []) s)
  just p (q ∷ ps) junk (t ▸ ts) h s =
      more p.cooked (cookeds (q ∷ ps) ++ junk) t ts s
      ∙ next_cong (value e t s) _ _ (λ v z. next_cong (text_made v z) _ _ (λ x y. ap (λ c. next c (λ r u. ok (p.cooked ++ (x ++ r)) u)) (just q ps junk ts (cc h) y)))
      ∙ sym (more p.cooked (cookeds (q ∷ ps)) t ts s)
  just p [] junk (t ▸ ts) h s = absurd (cc h)
  just p (q ∷ ps) junk none h s = absurd (cc h)

  of_pieces : (ps : List Piece) (ts : Trees) → length ps ≡ suc (count ts) → (s : State) → value e (template (pieces ps) ts) s ≡ next (between (cookeds ps) ts s) (λ x z. ok (String x) z)
  of_pieces [] ts h s = absurd (cc h)
  of_pieces (p ∷ ps) ts h s =
      template_all (pieces (p ∷ ps)) ts s
      ∙ ap (λ c. next (between (c ++ (texts_all (facts ts) ++ [])) ts s) (λ x z. ok (String x) z)) (pieces_texts (p ∷ ps))
      ∙ ap (λ c. next c (λ x z. ok (String x) z)) (just p ps (texts_all (facts ts) ++ []) ts (cc h) s)

  pub template_value : (ps qs : List Piece) (ts : Trees) → length ps + length qs ≡ suc (count ts) → (s : State) → value e (template (append (pieces ps) (pieces qs)) ts) s ≡ next (between (cookeds ps ++ cookeds qs) ts s) (λ x z. ok (String x) z)
  template_value ps qs ts h s =
      ap (λ c. value e (template c ts) s) (pieces_append ps qs)
      ∙ of_pieces (ps ++ qs) ts (length-append ps qs ∙ h) s
      ∙ ap (λ c. next (between c ts s) (λ x z. ok (String x) z)) (cookeds_append ps qs)

  -- ---- two in a row

  module _ (a b : List ℕ) (cs : List (List ℕ)) (us : Trees) where
    -- what comes first, and then the rest
    abbrev Behind : List ℕ → State → Completion (List ℕ)
    Behind x z = put_before x (between (b ∷ cs) us z)

    pub in_a_row : (ps : List Piece) (ts : Trees) → length ps ≡ count ts → (s : State) → between (cookeds ps ++ ((a ++ b) ∷ cs)) (append ts us) s ≡ next (between (cookeds ps ++ (a ∷ [])) ts s) Behind
    in_a_row [] none h s = text_before a b cs us s ∙ sym (ap (λ c. next c Behind) (nothing_between (a ∷ []) s) ∙ next_ok a s Behind)
    in_a_row (p ∷ ps) (t ▸ ts) h s =
        more p.cooked (cookeds ps ++ ((a ++ b) ∷ cs)) t (append ts us) s
        ∙ next_cong (value e t s) _ _ (λ v z. next_cong (text_made v z) _ _ (λ x y. ap (λ c. next c (λ r u. ok (p.cooked ++ (x ++ r)) u)) (in_a_row ps ts (cc h) y) ∙ next_assoc _ _ _ ∙ next_cong _ _ _ (λ r u. next_assoc _ _ _ ∙ next_cong _ _ _ (λ k l. next_ok _ l _ ∙ ap (λ o. ok o l) (regroup p.cooked x r k)) ∙ sym (next_ok (p.cooked ++ (x ++ r)) u Behind)) ∙ sym (next_assoc _ _ _)))
        ∙ sym (ap (λ c. next c Behind) (more p.cooked (cookeds ps ++ (a ∷ [])) t ts s) ∙ next_assoc _ _ _ ∙ next_cong (value e t s) _ _ (λ v z. next_assoc _ _ _))
      where
        regroup : (p x r k : List ℕ) → p ++ (x ++ (r ++ k)) ≡ (p ++ (x ++ r)) ++ k
        regroup p x r k = ap (λ o. p ++ o) (sym (append_assoc x r k)) ∙ sym (append_assoc p (x ++ r) k)
    in_a_row [] (t ▸ ts) h s = absurd (cc h)
    in_a_row (p ∷ ps) none h s = absurd (cc h)
