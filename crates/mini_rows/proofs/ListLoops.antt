-- What a `for..in` does after the expression on its right, and a `for` after a `var` in its head.
use Rattle.std.proofs.Common.{◌≡◌, ◌<◌, ℕ, zero, suc, Bool, true, false, [], ◌∷◌, Option, Some, None, refl, sym, ap, ◌∙◌, inl, inr, ⊎_elim, arith, true≢false}
use Rattle.std.specs.Prelude.{◌⊎◌, ◌||◌, ◌&&◌, nat_eq}
use Rattle.std.proofs.lemmas.Bool.{and_parts, eqb-true}
use Rattle.mini_model.specs.declared.kind.VariableDeclarationKind.{VariableDeclarationKind}
use Rattle.mini_model.specs.declared.kind.VariableDeclarationKind.TheVariants.{Var, Let, Const}
use Rattle.mini_model.specs.declared.shape.Shape.TheVariants as shape
use Rattle.mini_model.specs.Tree.{Tree, Trees, node, none, ◌▸◌, count, absent, is_absent, shape_of}
use Rattle.mini_laws.specs.Value.{Value, choose, is_nullish}
use Rattle.mini_laws.specs.State.{NextOf, KeysOf, IteratorOf, Item, State, Thrown, Returned, Broken, Continued, Short, Completion, ok, stop, Ends, done, ended, either, Environment}
use Rattle.mini_laws.specs.Demand.{Val, Unused, LoopTail, Demand, As, Stat, Heads, LabelSet}
use Rattle.mini_laws.specs.Command.{hide, turn, fuel, Naming, Command, ret, fails, op, kid, then, attempt, bind, repeat, loop, emit, Kids, act, run}
use Rattle.mini_laws.specs.Naming.{Declared, Variables, AClass, is_lexical, summary, facts, nth_absent}
use Rattle.mini_laws.specs.Asking.{for_demand, each_demand}
use Rattle.mini_laws.specs.Replies.{as_ended}
use Rattle.mini_laws.specs.Statements.{scoped}
use Rattle.mini_laws.specs.Loops.{after_body, has_label, copied, for_test, for_turn, for_turns, for_step, give_left, begin_left, each_turn, turn_of, next_of, on_next, keys_in, for_in_step, closing, values_of, for_of_step}
use Rattle.mini_laws.specs.Step.{step, means, meaning}
use Rattle.mini_laws.proofs.Runs.{either_cong, either_eta, either_ok, run_bind}
use Rattle.mini_laws.proofs.Stretching.{run_attempt}
use Rattle.mini_laws.proofs.Tailing.{finished, finish_none}
use Rattle.mini_rows.specs.Lists.{EachOf, each_loop, for_in, for_loop, declaration, declares_nothing, is_var_shape, is_bare_declarator, are_bare, is_bare_var, is_plain_left}
use Rattle.mini_rows.proofs.ListHeads.{nothing_by, for_names, for_kids, for_rest, scoped_is, leaving_nothing}
use Rattle.mini_rows.proofs.ListStatements.{declaration_is, declare_none}

-- ---- commands that do the same over two families of children

module _ (e : Environment) (names : Naming) (q p : ℕ → Demand) (K : Kids q) (L : Kids p) where
  abbrev pub Alike : {A : Type 0} → Command q A → Command p A → Type 0
  Alike c d = (z : State) → run {q = q} e names K c z ≡ run {q = p} e names L d z

  pub bind_alike : {A B : Type 0} (c : Command q A) (d : Command p A) (f : A → Command q B) (g : A → Command p B) → Alike c d → ((a : A) → Alike (f a) (g a)) → Alike (bind c f) (bind d g)
  bind_alike c d f g h k z =
      run_bind e names c f K z
      ∙ ap (λ x. either x (λ a z. run {q = q} e names K (f a) z) (λ x z. stop x z)) (h z)
      ∙ either_cong (run {q = p} e names L d z) _ _ _ _ (λ a y. k a y) (λ x y. refl)
      ∙ sym (run_bind e names d g L z)

  pub choose_alike : {A : Type 0} (b : Bool) (c c' : Command q A) (d d' : Command p A) → Alike c d → Alike c' d' → Alike (choose b c c') (choose b d d')
  choose_alike true c c' d d' h k = h
  choose_alike false c c' d d' h k = k

  pub after_alike : (labels : LabelSet) (x : Ends (Unit {0})) → Alike (after_body labels x) (after_body labels x)
  after_alike labels (done u) z = refl
  after_alike labels (ended (Broken None)) z = refl
  after_alike labels (ended (Continued None)) z = refl
  after_alike labels (ended (Continued (Some l))) z = choose_alike (has_label labels l) (ret true) (fails (Continued (Some l))) (ret true) (fails (Continued (Some l))) (λ z. refl) (λ z. refl) z
  after_alike labels (ended (Broken (Some l))) z = refl
  after_alike labels (ended (Thrown v)) z = refl
  after_alike labels (ended (Returned v)) z = refl
  after_alike labels (ended Short) z = refl

  repeat_alike : (n : ℕ) (c : Command q Bool) (d : Command p Bool) → Alike c d → Alike (repeat n c) (repeat n d)
  repeat_alike zero c d h z = refl
  repeat_alike (suc n) c d h z = bind_alike c d (λ b. choose b (repeat n c) (ret tt)) (λ b. choose b (repeat n d) (ret tt)) h (λ b. choose_alike b (repeat n c) (ret tt) (repeat n d) (ret tt) (repeat_alike n c d h) (λ z. refl)) z

  pub loop_alike : (c : Command q Bool) (d : Command p Bool) → Alike c d → Alike (loop c) (loop d)
  loop_alike c d h z = either_cong (act e names fuel z) _ _ _ _ (λ n y. repeat_alike (suc n) (op turn (then (λ u. c))) (op turn (then (λ u. d))) (λ x. either_cong (act e names turn x) _ _ _ _ (λ u w. h w) (λ s w. refl)) y) (λ x y. refl)

  pub attempt_alike : {A B : Type 0} (c : Command q A) (d : Command p A) (f : Ends A → Command q B) (g : Ends A → Command p B) → Alike c d → ((x : Ends A) → Alike (f x) (g x)) → Alike (attempt c f) (attempt d g)
  attempt_alike c d f g h k z =
      run_attempt e names c f K z
      ∙ ap (λ x. either x (λ a y. run {q = q} e names K (f (done a)) y) (λ x y. run {q = q} e names K (f (ended x)) y)) (h z)
      ∙ either_cong (run {q = p} e names L d z) _ _ _ _ (λ a y. k (done a) y) (λ x y. k (ended x) y)
      ∙ sym (run_attempt e names d g L z)

  as_ended_alike : {A : Type 0} (x : Ends A) → Alike (as_ended x) (as_ended x)
  as_ended_alike (done a) z = refl
  as_ended_alike (ended x) z = refl

  pub scoped_alike : {A : Type 0} (c : Command q A) (d : Command p A) → Alike c d → Alike (scoped c) (scoped d)
  scoped_alike c d h z = either_cong (act e names hide z) _ _ _ _ (λ u y. attempt_alike c d (λ x. op hide (then (λ u. as_ended x))) (λ x. op hide (then (λ u. as_ended x))) h (λ x w. either_cong (act e names hide w) _ _ _ _ (λ u v. as_ended_alike x v) (λ x v. refl)) y) (λ x y. refl)

-- ---- `for`

abbrev a_var : Option Declared
a_var = Some (Variables Var)

-- where no name is in scope none is copied
copies_none : (e : Environment) (d : Option Declared) (q : ℕ → Demand) (L : Kids q) {A : Type 0} (c : Command q A) (z : State) → run {q = q} e (for_names []) L c z ≡ run {q = q} e (for_names []) L (copied d c) z
unfolding act either
copies_none e (Some (Variables Var)) q L c z = refl
copies_none e (Some (Variables Let)) q L c z = refl
copies_none e (Some (Variables Const)) q L c z = refl
copies_none e (Some AClass) q L c z = refl
copies_none e None q L c z = refl

-- without an expression in its head, and with a declaration of no name in scope
module _ (e : Environment) (d : Option Declared) (has_no_test : Bool) (labels : LabelSet) (K : Kids (for_demand None)) (L : Kids (for_demand d)) where
  abbrev Both : {A : Type 0} → Command (for_demand None) A → Command (for_demand d) A → Type 0
  Both c c' = Alike e (for_names []) (for_demand None) (for_demand d) K L c c'

  abbrev again : Bool → Command (for_demand None) Bool
  again c = choose c (kid 2 tt (then (λ u. ret true))) (ret false)

  abbrev again_there : Bool → Command (for_demand d) Bool
  again_there c = choose c (copied d (kid 2 tt (then (λ u. ret true)))) (ret false)

  tests_alike : ((z : State) → K 1 tt z ≡ L 1 tt z) → (b : Bool) → Both (for_test None b) (for_test d b)
  tests_alike h true z = refl
  tests_alike h false z = ap (λ x. either x (λ a y. ok a y) (λ y w. stop y w)) (h z)

  updates_alike : ((z : State) → K 2 tt z ≡ L 2 tt z) → Both (kid 2 tt (then (λ u. ret true))) (copied d (kid 2 tt (then (λ u. ret true))))
  updates_alike h z = ap (λ x. either x (λ a y. ok true y) (λ y w. stop y w)) (h z) ∙ copies_none e d (for_demand d) L (kid 2 tt (then (λ u. ret true))) z

  ends_alike : ((z : State) → K 2 tt z ≡ L 2 tt z) → (x : Ends (Unit {0})) → Both (bind (after_body labels x) again) (bind (after_body labels x) again_there)
  ends_alike h x = bind_alike e (for_names []) (for_demand None) (for_demand d) K L (after_body labels x) (after_body labels x) again again_there (after_alike e (for_names []) (for_demand None) (for_demand d) K L labels x)
      (λ c. choose_alike e (for_names []) (for_demand None) (for_demand d) K L c (kid 2 tt (then (λ u. ret true))) (ret false) (copied d (kid 2 tt (then (λ u. ret true)))) (ret false) (updates_alike h) (λ z. refl))

  turn_alike : ((z : State) → K 1 tt z ≡ L 1 tt z) → ((z : State) → K 2 tt z ≡ L 2 tt z) → ((z : State) → K 3 [] z ≡ L 3 [] z) → Both (for_turn None has_no_test labels) (for_turn d has_no_test labels)
  turn_alike h1 h2 h3 =
      bind_alike e (for_names []) (for_demand None) (for_demand d) K L (for_test None has_no_test) (for_test d has_no_test) _ _ (tests_alike h1 has_no_test)
      (λ b. choose_alike e (for_names []) (for_demand None) (for_demand d) K L b _ _ _ _ (λ z. ap (λ x. either x (λ a y. run {q = for_demand None} e (for_names []) K (bind (after_body labels (done a)) again) y) (λ x y. run {q = for_demand None} e (for_names []) K (bind (after_body labels (ended x)) again) y)) (h3 z) ∙ either_cong (L 3 [] z) _ _ _ _ (λ a y. ends_alike h2 (done a) y) (λ x y. ends_alike h2 (ended x) y)) (λ z. refl))

  turns_alike : ((z : State) → K 1 tt z ≡ L 1 tt z) → ((z : State) → K 2 tt z ≡ L 2 tt z) → ((z : State) → K 3 [] z ≡ L 3 [] z) → Both (for_turns None has_no_test labels) (for_turns d has_no_test labels)
  turns_alike h1 h2 h3 z =
      loop_alike e (for_names []) (for_demand None) (for_demand d) K L (for_turn None has_no_test labels) (for_turn d has_no_test labels) (turn_alike h1 h2 h3) z
      ∙ copies_none e d (for_demand d) L (loop (for_turn d has_no_test labels)) z

module _ (e : Environment) (test update body : Tree) where
  -- with a declaration in its head that names nothing in scope
  for_declared_is : (k : VariableDeclarationKind) (ds : Trees) → (summary (declaration k ds)).lets ≡ [] → (r : LabelSet) (s : State) → means e (for_loop (declaration k ds) test update body) (Stat None) r s ≡ either (means e (declaration k ds) (Stat None) [] s) (λ u z. for_rest e test update body r z) (λ x z. stop x z)
  unfolding means meaning step for_rest
  for_declared_is k ds h r s =
      finished e (for_names (summary (declaration k ds)).lets) (for_demand (Some (Variables k))) (for_kids e test update body (declaration k ds) (Some (Variables k))) None (for_step (Some (Variables k)) (summary test).facts.absent r) s ∙ finish_none _
      ∙ ap (λ l. run {q = for_demand (Some (Variables k))} e (for_names l) (for_kids e test update body (declaration k ds) (Some (Variables k))) (for_step (Some (Variables k)) (summary test).facts.absent r) s) h
      ∙ scoped_is e (for_names []) {q = for_demand (Some (Variables k))} (kid 0 [] (then (λ u. for_turns (Some (Variables k)) (summary test).facts.absent r))) (for_kids e test update body (declaration k ds) (Some (Variables k))) s
      ∙ leaving_nothing (for_names []) refl _
      ∙ either_cong (means e (declaration k ds) (Stat None) [] s) _ _ _ _ (λ u z. sym (turns_alike e (Some (Variables k)) (summary test).facts.absent r (for_kids e test update body absent None) (for_kids e test update body (declaration k ds) (Some (Variables k))) (λ z. refl) (λ z. refl) (λ z. refl) z)) (λ x z. refl)

  -- with a `var` in its head
  pub for_var_is : (ds : Trees) (r : LabelSet) (s : State) → means e (for_loop (declaration Var ds) test update body) (Stat None) r s ≡ either (means e (declaration Var ds) (Stat None) [] s) (λ u z. for_rest e test update body r z) (λ x z. stop x z)
  for_var_is ds = for_declared_is Var ds refl

no_lets : (k : VariableDeclarationKind) → (summary (declaration k none)).lets ≡ []
no_lets Var = refl
no_lets Let = refl
no_lets Const = refl

absent_unused : (e : Environment) (s : State) → means e absent (As Unused) tt s ≡ ok tt s
unfolding means step
absent_unused e s = refl

-- with a declaration of no name it does what it does without one, whatever stands behind it
module _ (e : Environment) (k : VariableDeclarationKind) (rest : Trees) (labels : LabelSet) where
  abbrev with_kids : Kids (for_demand (Some (Variables k)))
  with_kids j r z = meaning e (declaration k none ▸ rest) j (for_demand (Some (Variables k)) j) r z

  abbrev without_kids : Kids (for_demand None)
  without_kids j r z = meaning e (absent ▸ rest) j (for_demand None j) r z

  abbrev no_test : Bool
  no_test = nth_absent (facts rest) 0

  begun_alike : Both e (Some (Variables k)) no_test labels without_kids with_kids (kid 0 tt (then (λ u. for_turns None no_test labels))) (kid 0 [] (then (λ u. for_turns (Some (Variables k)) no_test labels)))
  unfolding meaning
  begun_alike z =
      ap (λ x. either x (λ u y. run {q = for_demand None} e (for_names []) without_kids (for_turns None no_test labels) y) (λ x y. stop x y)) (absent_unused e z) ∙ either_ok tt z _ _
      ∙ turns_alike e (Some (Variables k)) no_test labels without_kids with_kids (λ z. refl) (λ z. refl) (λ z. refl) z
      ∙ sym (ap (λ x. either x (λ u y. run {q = for_demand (Some (Variables k))} e (for_names []) with_kids (for_turns (Some (Variables k)) no_test labels) y) (λ x y. stop x y)) (declaration_is e k none [] z ∙ declare_none e (is_lexical k) z) ∙ either_ok tt z _ _)

  pub for_none_is : (s : State) → means e (node shape.ForStatement [] 0 (declaration k none ▸ rest)) (Stat None) labels s ≡ means e (node shape.ForStatement [] 0 (absent ▸ rest)) (Stat None) labels s
  unfolding means step
  for_none_is s =
      finished e (for_names (summary (declaration k none)).lets) (for_demand (Some (Variables k))) with_kids None (for_step (Some (Variables k)) no_test labels) s ∙ finish_none _
      ∙ ap (λ l. run {q = for_demand (Some (Variables k))} e (for_names l) with_kids (for_step (Some (Variables k)) no_test labels) s) (no_lets k)
      ∙ sym (scoped_alike e (for_names []) (for_demand None) (for_demand (Some (Variables k))) without_kids with_kids (kid 0 tt (then (λ u. for_turns None no_test labels))) (kid 0 [] (then (λ u. for_turns (Some (Variables k)) no_test labels))) begun_alike s)
      ∙ sym (finished e (for_names []) (for_demand None) without_kids None (for_step None no_test labels) s ∙ finish_none _)

-- ---- `for..in`

module _ (e : Environment) (left body : Tree) (labels : LabelSet) (d : Option Declared) where
  abbrev in_kids : Tree → Kids (each_demand d)
  in_kids x i r z = meaning e (left ▸ (x ▸ (body ▸ none))) i (each_demand d i) r z

  abbrev Keyed : Tree → Tree → {A : Type 0} → Command (each_demand d) A → Type 0
  Keyed x y c = Alike e (for_names []) (each_demand d) (each_demand d) (in_kids x) (in_kids y) c c

  body_keyed : (x y : Tree) → Keyed x y (kid 2 [] (after_body labels))
  unfolding meaning
  body_keyed x y z = either_cong (means e body (Stat (Some LoopTail)) [] z) _ _ _ _ (λ a w. after_alike e (for_names []) (each_demand d) (each_demand d) (in_kids x) (in_kids y) labels (done a) w) (λ s w. after_alike e (for_names []) (each_demand d) (each_demand d) (in_kids x) (in_kids y) labels (ended s) w)

  module _ (x y : Tree) (give : (v : Value) → Keyed x y (give_left d v)) where
    turn_keyed : (v : Value) → Keyed x y (turn_of d labels v)
    turn_keyed v = scoped_alike e (for_names []) (each_demand d) (each_demand d) (in_kids x) (in_kids y) (each_turn d labels v) (each_turn d labels v)
        (bind_alike e (for_names []) (each_demand d) (each_demand d) (in_kids x) (in_kids y) (give_left d v) (give_left d v) (λ u. kid 2 [] (after_body labels)) (λ u. kid 2 [] (after_body labels)) (give v) (λ u. body_keyed x y))

    next_keyed : (o : Option Value) → Keyed x y (on_next (turn_of d labels) o)
    next_keyed None z = refl
    next_keyed (Some v) z = turn_keyed v z

    keys_keyed : (v : Value) → Keyed x y (keys_in d labels v)
    keys_keyed v =
        choose_alike e (for_names []) (each_demand d) (each_demand d) (in_kids x) (in_kids y) (is_nullish v) (ret tt) (bind (emit KeysOf (Item v ∷ [])) (λ iterator. loop (next_of iterator (turn_of d labels)))) (ret tt) (bind (emit KeysOf (Item v ∷ [])) (λ iterator. loop (next_of iterator (turn_of d labels)))) (λ z. refl)
        (bind_alike e (for_names []) (each_demand d) (each_demand d) (in_kids x) (in_kids y) (emit KeysOf (Item v ∷ [])) (emit KeysOf (Item v ∷ [])) (λ iterator. loop (next_of iterator (turn_of d labels))) (λ iterator. loop (next_of iterator (turn_of d labels))) (λ z. refl)
        (λ iterator. loop_alike e (for_names []) (each_demand d) (each_demand d) (in_kids x) (in_kids y) (next_of iterator (turn_of d labels)) (next_of iterator (turn_of d labels))
        (bind_alike e (for_names []) (each_demand d) (each_demand d) (in_kids x) (in_kids y) (emit NextOf (Item iterator ∷ [])) (emit NextOf (Item iterator ∷ [])) (on_next (turn_of d labels)) (on_next (turn_of d labels)) (λ z. refl) next_keyed)))

    -- of what an iterator gives

    closing_keyed : (iterator : Value) (c : Ends Bool) → Keyed x y (closing iterator c)
    closing_keyed iterator (done true) z = refl
    closing_keyed iterator (done false) z = refl
    closing_keyed iterator (ended (Thrown v)) z = refl
    closing_keyed iterator (ended (Returned v)) z = refl
    closing_keyed iterator (ended (Broken l)) z = refl
    closing_keyed iterator (ended (Continued l)) z = refl
    closing_keyed iterator (ended Short) z = refl

    abbrev valued : Value → Value → Command (each_demand d) Bool
    valued iterator v = attempt (turn_of d labels v) (closing iterator)

    next_valued : (iterator : Value) (o : Option Value) → Keyed x y (on_next (valued iterator) o)
    next_valued iterator None z = refl
    next_valued iterator (Some v) z = attempt_alike e (for_names []) (each_demand d) (each_demand d) (in_kids x) (in_kids y) (turn_of d labels v) (turn_of d labels v) (closing iterator) (closing iterator) (turn_keyed v) (closing_keyed iterator) z

    values_keyed : (v : Value) → Keyed x y (values_of d labels v)
    values_keyed v =
        bind_alike e (for_names []) (each_demand d) (each_demand d) (in_kids x) (in_kids y) (emit IteratorOf (Item v ∷ [])) (emit IteratorOf (Item v ∷ [])) (λ i. loop (next_of i (valued i))) (λ i. loop (next_of i (valued i))) (λ z. refl)
        (λ i. loop_alike e (for_names []) (each_demand d) (each_demand d) (in_kids x) (in_kids y) (next_of i (valued i)) (next_of i (valued i))
        (bind_alike e (for_names []) (each_demand d) (each_demand d) (in_kids x) (in_kids y) (emit NextOf (Item i ∷ [])) (emit NextOf (Item i ∷ [])) (on_next (valued i)) (on_next (valued i)) (λ z. refl) (next_valued i)))

give_keyed : (e : Environment) (left body : Tree) (labels : LabelSet) (d : Option Declared) (x y : Tree) (v : Value) → Keyed e left body labels d x y (give_left d v)
unfolding meaning
give_keyed e left body labels (Some (Variables Var)) x y v z = refl
give_keyed e left body labels (Some (Variables k)) x y v z = refl
give_keyed e left body labels (Some AClass) x y v z = refl
give_keyed e left body labels None x y v z = refl

-- a left side that does nothing before the right side is evaluated: a `var` has no initializer
abbrev pub Idle : Environment → Tree → Type 0
Idle e left = (summary left).facts.declared ≡ Some (Variables Var) → (z : State) → means e left Heads None z ≡ ok tt z

begin_idle : (e : Environment) (left body : Tree) (labels : LabelSet) (d : Option Declared) (x : Tree) → (d ≡ Some (Variables Var) → (z : State) → means e left Heads None z ≡ ok tt z) → (c : Command (each_demand d) (Unit {0})) (z : State) → run {q = each_demand d} e (for_names []) (in_kids e left body labels d x) (begin_left d c) z ≡ run {q = each_demand d} e (for_names []) (in_kids e left body labels d x) c z
unfolding meaning
begin_idle e left body labels (Some (Variables Var)) x h c z = ap (λ y. either y (λ u w. run {q = each_demand (Some (Variables Var))} e (for_names []) (in_kids e left body labels (Some (Variables Var)) x) c w) (λ y w. stop y w)) (h refl z) ∙ either_ok tt z _ _
begin_idle e left body labels (Some (Variables k)) x h c z = refl
begin_idle e left body labels (Some AClass) x h c z = refl
begin_idle e left body labels None x h c z = refl

too_many : (m k : ℕ) (b : Bool) → k < m → nat_eq m k && b ≡ true → ⊥
too_many m k b less h = let same = eqb-true m k (and_parts (nat_eq m k) b h).0 in omega (arith, less, same)

declarator_idle : (e : Environment) (d : Tree) → is_bare_declarator d ≡ true → (z : State) → means e d Heads None z ≡ ok tt z
unfolding means step
declarator_idle e (node shape.VariableDeclarator xs n none) h z = absurd (true≢false (sym h))
declarator_idle e (node shape.VariableDeclarator xs n (a ▸ none)) h z = absurd (true≢false (sym h))
declarator_idle e (node shape.VariableDeclarator xs n (a ▸ (node shape.Absent ys m us ▸ none))) h z = refl
declarator_idle e (node shape.VariableDeclarator xs n (a ▸ (node c ys m us ▸ none))) h z = absurd (true≢false (sym h))
declarator_idle e (node shape.VariableDeclarator xs n (a ▸ (b ▸ (c ▸ ts)))) h z = absurd (too_many (suc (suc (suc (count ts)))) 2 (is_absent b) (omega arith) h)
declarator_idle e (node c xs n ts) h z = absurd (true≢false (sym h))

declarators_idle : (e : Environment) (ds : Tree) → are_bare ds ≡ true → (z : State) → means e ds Heads None z ≡ ok tt z
unfolding means meaning step
declarators_idle e (node shape.Listed xs n none) h z = absurd (true≢false (sym h))
declarators_idle e (node shape.Listed xs n (d ▸ none)) h z = either_eta (means e d Heads None z) ∙ declarator_idle e d h z
declarators_idle e (node shape.Listed xs n (d ▸ (c ▸ ts))) h z = absurd (too_many (suc (suc (count ts))) 1 (is_bare_declarator d) (omega arith) h)
declarators_idle e (node c xs n ts) h z = absurd (true≢false (sym h))

pub var_idle : (e : Environment) (t : Tree) → is_bare_var t ≡ true → (z : State) → means e t Heads None z ≡ ok tt z
unfolding means meaning step
var_idle e (node (shape.VariableDeclaration Var) xs n none) h z = absurd (true≢false (sym h))
var_idle e (node (shape.VariableDeclaration Var) xs n (ds ▸ none)) h z = either_eta (means e ds Heads None z) ∙ declarators_idle e ds h z
var_idle e (node (shape.VariableDeclaration Var) xs n (ds ▸ (c ▸ ts))) h z = absurd (too_many (suc (suc (count ts))) 1 (are_bare ds) (omega arith) h)
var_idle e (node c xs n ts) h z = absurd (true≢false (sym h))

module _ (e : Environment) (left body : Tree) (labels : LabelSet) where
  unfoldable pub in_rest : Value → State → Completion (Unit {0})
  in_rest v z = run {q = each_demand (summary left).facts.declared} e (for_names []) (in_kids e left body labels (summary left).facts.declared absent) (keys_in (summary left).facts.declared labels v) z

  pub in_is : (summary left).lets ≡ [] → Idle e left → (x : Tree) (s : State) → means e (for_in left x body) (Stat None) labels s ≡ either (means e x (As Val) tt s) (λ v z. in_rest v z) (λ x z. stop x z)
  unfolding means meaning step in_rest
  in_is u idle x s =
      let d = (summary left).facts.declared in
      finished e (for_names (summary left).lets) (each_demand d) (in_kids e left body labels d x) None (for_in_step d labels) s ∙ finish_none _
      ∙ ap (λ l. run {q = each_demand d} e (for_names l) (in_kids e left body labels d x) (for_in_step d labels) s) u
      ∙ scoped_is e (for_names []) {q = each_demand d} (begin_left d (kid 1 tt (then (keys_in d labels)))) (in_kids e left body labels d x) s
      ∙ leaving_nothing (for_names []) refl _
      ∙ begin_idle e left body labels d x idle (kid 1 tt (then (keys_in d labels))) s
      ∙ either_cong (means e x (As Val) tt s) _ _ _ _ (λ v z. keys_keyed e left body labels d x absent (give_keyed e left body labels d x absent) v z) (λ y z. refl)

  unfoldable pub of_rest : Value → State → Completion (Unit {0})
  of_rest v z = run {q = each_demand (summary left).facts.declared} e (for_names []) (in_kids e left body labels (summary left).facts.declared absent) (values_of (summary left).facts.declared labels v) z

  pub of_is : (summary left).lets ≡ [] → (x : Tree) (s : State) → means e (each_loop EachOf left x body) (Stat None) labels s ≡ either (means e x (As Val) tt s) (λ v z. of_rest v z) (λ x z. stop x z)
  unfolding means meaning step of_rest
  of_is u x s =
      let d = (summary left).facts.declared in
      finished e (for_names (summary left).lets) (each_demand d) (in_kids e left body labels d x) None (for_of_step d labels) s ∙ finish_none _
      ∙ ap (λ l. run {q = each_demand d} e (for_names l) (in_kids e left body labels d x) (for_of_step d labels) s) u
      ∙ scoped_is e (for_names []) {q = each_demand d} (kid 1 tt (then (values_of d labels))) (in_kids e left body labels d x) s
      ∙ leaving_nothing (for_names []) refl _
      ∙ either_cong (means e x (As Val) tt s) _ _ _ _ (λ v z. values_keyed e left body labels d x absent (give_keyed e left body labels d x absent) v z) (λ y z. refl)

-- what such a left side declares is no lexical name

or_split : (a b : Bool) → a || b ≡ true → (a ≡ true) ⊎ (b ≡ true)
or_split true b h = inl refl
or_split false b h = inr h

pub var_lets : (t : Tree) → is_var_shape (shape_of t) ≡ true → (summary t).lets ≡ []
var_lets (node (shape.VariableDeclaration Var) xs n ts) h = refl
var_lets t h = absurd (true≢false (sym h))

pub left_lets : (t : Tree) → is_plain_left t ≡ true → (summary t).lets ≡ []
left_lets t h = ⊎_elim (λ e. (nothing_by t e).lets) (λ e. var_lets t (and_parts (is_var_shape (shape_of t)) _ e).0) (or_split (declares_nothing t) (is_bare_var t) h)

pub left_idle : (e : Environment) (t : Tree) → is_plain_left t ≡ true → Idle e t
left_idle e t h = ⊎_elim (λ n p z. absurd (cc (sym (nothing_by t n).declared ∙ p))) (λ b p z. var_idle e t b z) (or_split (declares_nothing t) (is_bare_var t) h)
