-- Loops over bodies that do the same where they end a turn.
use Rattle.std.proofs.Common.{◌≡◌, ℕ, zero, suc, Bool, true, false, [], ◌∷◌, Option, Some, None, refl, sym, ap, ◌∙◌, true≢false}
use Rattle.mini_model.specs.declared.kind.VariableDeclarationKind.TheVariants.{Var, Let, Const}
use Rattle.mini_model.specs.Tree.{Tree, none, ◌▸◌}
use Rattle.mini_laws.specs.Value.{Value, choose, is_nullish}
use Rattle.mini_laws.specs.State.{NextOf, KeysOf, IteratorOf, Item, State, Thrown, Returned, Broken, Continued, Short, ok, stop, Ends, done, ended, either, Environment}
use Rattle.mini_laws.specs.Demand.{Val, Test, Unused, LoopTail, Demand, As, Stat, Heads, LabelSet, Request, Reply}
use Rattle.mini_laws.specs.Command.{Naming, hide, Command, ret, fails, op, kid, copy, turn, fuel, then, attempt, bind, repeat, loop, emit, Kids, act, run}
use Rattle.mini_laws.specs.Naming.{Declared, Variables, AClass, summary}
use Rattle.mini_laws.specs.Asking.{first_demand, do_demand, for_demand, each_demand}
use Rattle.mini_laws.specs.Statements.{scoped}
use Rattle.mini_laws.specs.Replies.{as_ended}
use Rattle.mini_laws.specs.Loops.{has_label, after_body, while_step, do_step, copied, for_test, for_turn, for_turns, for_head, for_step, give_left, begin_left, each_turn, turn_of, next_of, on_next, keys_in, for_in_step, closing, values_of, for_of_step}
use Rattle.mini_laws.specs.Step.{step, means, meaning}
use Rattle.mini_laws.proofs.Runs.{either_cong, run_bind}
use Rattle.mini_laws.proofs.Stretching.{run_attempt}
use Rattle.mini_laws.proofs.Tailing.{finished, finish_none, tail_same}
use Rattle.mini_laws.specs.Tails.{ends_in}
use Rattle.mini_rows.specs.Lists.{block, is_unscoped}
use Rattle.mini_rows.specs.Branches.{Surrounding, Consequent, Alternate, WhileBody, DoBody, ForBody, InBody, OfBody, around, is_loop}
use Rattle.mini_rows.proofs.BranchMeaning.{SameStatement, equal_statement, one_unwrapped, row_79_consequent, row_79_alternate}

-- statements that do the same as the body of a loop
pub record SameTurn (c d : Tree) : Type 0 where
  pub by : (e : Environment) (s : State) → means e c (Stat (Some LoopTail)) [] s ≡ means e d (Stat (Some LoopTail)) [] s

unwrapped_turn : (c : Tree) → is_unscoped c ≡ true → SameTurn (block (c ▸ none)) c
unwrapped_turn c u = record { by = λ e s. tail_same e (block (c ▸ none)) (Some LoopTail) [] s ∙ ap (λ x. either x (λ u z. ok tt z) (ends_in (Some LoopTail))) (one_unwrapped e c u s) ∙ sym (tail_same e c (Some LoopTail) [] s) }

-- ---- commands that do the same over two families of children

module _ (e : Environment) (names : Naming) (q : ℕ → Demand) (K L : Kids q) where
  abbrev Alike : {A : Type 0} → Command q A → Type 0
  Alike c = (z : State) → run {q = q} e names K c z ≡ run {q = q} e names L c z

  bind_alike : {A B : Type 0} (c : Command q A) (f : A → Command q B) → Alike c → ((a : A) → Alike (f a)) → Alike (bind c f)
  bind_alike c f h k z =
      run_bind e names c f K z
      ∙ ap (λ x. either x (λ a z. run {q = q} e names K (f a) z) (λ x z. stop x z)) (h z)
      ∙ either_cong (run {q = q} e names L c z) _ _ _ _ (λ a y. k a y) (λ x y. refl)
      ∙ sym (run_bind e names c f L z)

  choose_alike : {A : Type 0} (b : Bool) (c d : Command q A) → Alike c → Alike d → Alike (choose b c d)
  choose_alike true c d h k = h
  choose_alike false c d h k = k

  after_alike : (labels : LabelSet) (x : Ends (Unit {0})) → Alike (after_body labels x)
  after_alike labels (done u) z = refl
  after_alike labels (ended (Broken None)) z = refl
  after_alike labels (ended (Continued None)) z = refl
  after_alike labels (ended (Continued (Some l))) z = choose_alike (has_label labels l) (ret true) (fails (Continued (Some l))) (λ z. refl) (λ z. refl) z
  after_alike labels (ended (Broken (Some l))) z = refl
  after_alike labels (ended (Thrown v)) z = refl
  after_alike labels (ended (Returned v)) z = refl
  after_alike labels (ended Short) z = refl

  repeat_alike : (n : ℕ) (c : Command q Bool) → Alike c → Alike (repeat n c)
  repeat_alike zero c h z = refl
  repeat_alike (suc n) c h z = bind_alike c (λ b. choose b (repeat n c) (ret tt)) h (λ b. choose_alike b (repeat n c) (ret tt) (repeat_alike n c h) (λ z. refl)) z

  loop_alike : (c : Command q Bool) → Alike c → Alike (loop c)
  loop_alike c h z = either_cong (act e names fuel z) _ _ _ _ (λ n y. repeat_alike (suc n) (op turn (then (λ u. c))) (λ x. either_cong (act e names turn x) _ _ _ _ (λ u w. h w) (λ s w. refl)) y) (λ x y. refl)

  kid_alike : {A : Type 0} (i : ℕ) (r : Request (q i)) (f : Ends (Reply (q i) r) → Command q A) → ((z : State) → K i r z ≡ L i r z) → ((x : Ends (Reply (q i) r)) → Alike (f x)) → Alike (kid i r f)
  kid_alike i r f h k z = ap (λ x. either x (λ a y. run {q = q} e names K (f (done a)) y) (λ x y. run {q = q} e names K (f (ended x)) y)) (h z) ∙ either_cong (L i r z) _ _ _ _ (λ a y. k (done a) y) (λ x y. k (ended x) y)

  attempt_alike : {A B : Type 0} (c : Command q A) (f : Ends A → Command q B) → Alike c → ((x : Ends A) → Alike (f x)) → Alike (attempt c f)
  attempt_alike c f h k z =
      run_attempt e names c f K z
      ∙ ap (λ x. either x (λ a y. run {q = q} e names K (f (done a)) y) (λ x y. run {q = q} e names K (f (ended x)) y)) (h z)
      ∙ either_cong (run {q = q} e names L c z) _ _ _ _ (λ a y. k (done a) y) (λ x y. k (ended x) y)
      ∙ sym (run_attempt e names c f L z)

  as_ended_alike : {A : Type 0} (x : Ends A) → Alike (as_ended x)
  as_ended_alike (done a) z = refl
  as_ended_alike (ended x) z = refl

  scoped_alike : {A : Type 0} (c : Command q A) → Alike c → Alike (scoped c)
  scoped_alike c h z = either_cong (act e names hide z) _ _ _ _ (λ u y. attempt_alike c (λ x. op hide (then (λ u. as_ended x))) h (λ x w. either_cong (act e names hide w) _ _ _ _ (λ u v. as_ended_alike x v) (λ x v. refl)) y) (λ x y. refl)

  then_alike : {A B : Type 0} (f : A → Command q B) → ((a : A) → Alike (f a)) → (x : Ends A) → Alike (then f x)
  then_alike f h (done a) = h a
  then_alike f h (ended x) = λ z. refl

  copied_alike : {A : Type 0} (d : Option Declared) (c : Command q A) → Alike c → Alike (copied d c)
  copied_alike None c h = h
  copied_alike (Some AClass) c h = h
  copied_alike (Some (Variables Var)) c h = h
  copied_alike (Some (Variables Const)) c h = h
  copied_alike (Some (Variables Let)) c h = λ z. either_cong (act e names copy z) _ _ _ _ (λ u y. h y) (λ x y. refl)

-- ---- each loop

module _ (e : Environment) (c d : Tree) (same : SameTurn c d) (r : LabelSet) (names : Naming) where
  module _ (test : Tree) where
    abbrev W : Tree → Kids (first_demand (As Test) (Stat (Some LoopTail)))
    W x i r z = meaning e (test ▸ (x ▸ none)) i (first_demand (As Test) (Stat (Some LoopTail)) i) r z

    while_alike : Alike e names (first_demand (As Test) (Stat (Some LoopTail))) (W c) (W d) (while_step r)
    unfolding meaning
    while_alike = loop_alike e names (first_demand (As Test) (Stat (Some LoopTail))) (W c) (W d) (kid 0 tt (then (λ b. choose b (kid 1 [] (after_body r)) (ret false)))) (kid_alike e names (first_demand (As Test) (Stat (Some LoopTail))) (W c) (W d) 0 tt (then (λ b. choose b (kid 1 [] (after_body r)) (ret false))) (λ z. refl)
        (then_alike e names (first_demand (As Test) (Stat (Some LoopTail))) (W c) (W d) (λ b. choose b (kid 1 [] (after_body r)) (ret false)) (λ b. choose_alike e names (first_demand (As Test) (Stat (Some LoopTail))) (W c) (W d) b (kid 1 [] (after_body r)) (ret false)
        (kid_alike e names (first_demand (As Test) (Stat (Some LoopTail))) (W c) (W d) 1 [] (after_body r) (λ z. same.by e z) (after_alike e names (first_demand (As Test) (Stat (Some LoopTail))) (W c) (W d) r)) (λ z. refl))))

    abbrev D : Tree → Kids do_demand
    D x i r z = meaning e (x ▸ (test ▸ none)) i (do_demand i) r z

    abbrev do_turn : Ends (Unit {0}) → Command do_demand Bool
    do_turn x = bind (after_body r x) (λ b. choose b (kid 1 tt (then ret)) (ret false))

    do_alike : Alike e names do_demand (D c) (D d) (do_step r)
    unfolding meaning
    do_alike = loop_alike e names do_demand (D c) (D d) (kid 0 [] do_turn) (kid_alike e names do_demand (D c) (D d) 0 [] do_turn (λ z. same.by e z)
        (λ x. bind_alike e names do_demand (D c) (D d) (after_body r x) (λ b. choose b (kid 1 tt (then ret)) (ret false)) (after_alike e names do_demand (D c) (D d) r x)
        (λ b. choose_alike e names do_demand (D c) (D d) b (kid 1 tt (then ret)) (ret false) (λ z. refl) (λ z. refl))))

  module _ (init test update : Tree) (k : Option Declared) (no_test : Bool) where
    abbrev F : Tree → Kids (for_demand k)
    F x i r z = meaning e (init ▸ (test ▸ (update ▸ (x ▸ none)))) i (for_demand k i) r z

    abbrev update_turn : Bool → Command (for_demand k) Bool
    update_turn b = choose b (copied k (kid 2 tt (then (λ u. ret true)))) (ret false)

    abbrev body_turn : Bool → Command (for_demand k) Bool
    body_turn b = choose b (kid 3 [] (λ x. bind (after_body r x) update_turn)) (ret false)

    test_same : (b : Bool) → Alike e names (for_demand k) (F c) (F d) (for_test k b)
    unfolding meaning
    test_same true = λ z. refl
    test_same false = λ z. refl

    for_alike : Alike e names (for_demand k) (F c) (F d) (for_turns k no_test r)
    unfolding meaning
    for_alike = copied_alike e names (for_demand k) (F c) (F d) k (loop (for_turn k no_test r)) (loop_alike e names (for_demand k) (F c) (F d) (for_turn k no_test r)
        (bind_alike e names (for_demand k) (F c) (F d) (for_test k no_test) body_turn (test_same no_test)
        (λ b. choose_alike e names (for_demand k) (F c) (F d) b (kid 3 [] (λ x. bind (after_body r x) update_turn)) (ret false)
        (kid_alike e names (for_demand k) (F c) (F d) 3 [] (λ x. bind (after_body r x) update_turn) (λ z. same.by e z)
        (λ x. bind_alike e names (for_demand k) (F c) (F d) (after_body r x) update_turn (after_alike e names (for_demand k) (F c) (F d) r x)
        (λ b. choose_alike e names (for_demand k) (F c) (F d) b (copied k (kid 2 tt (then (λ u. ret true)))) (ret false) (copied_alike e names (for_demand k) (F c) (F d) k (kid 2 tt (then (λ u. ret true))) (λ z. refl)) (λ z. refl))))
        (λ z. refl))))

  for_step_alike : (init test update : Tree) (k : Option Declared) (no_test : Bool) → Alike e names (for_demand k) (F init test update k no_test c) (F init test update k no_test d) (for_step k no_test r)
  unfolding meaning
  for_step_alike init test update (Some (Variables v)) no_test = scoped_alike e names (for_demand (Some (Variables v))) (F init test update (Some (Variables v)) no_test c) (F init test update (Some (Variables v)) no_test d) (for_head (Some (Variables v)) (for_turns (Some (Variables v)) no_test r)) (λ z. either_cong (means e init (Stat None) [] z) _ _ _ _ (λ u y. for_alike init test update (Some (Variables v)) no_test y) (λ x y. refl))
  for_step_alike init test update (Some AClass) no_test = scoped_alike e names (for_demand (Some AClass)) (F init test update (Some AClass) no_test c) (F init test update (Some AClass) no_test d) (for_head (Some AClass) (for_turns (Some AClass) no_test r)) (λ z. either_cong (means e init (As Unused) tt z) _ _ _ _ (λ u y. for_alike init test update (Some AClass) no_test y) (λ x y. refl))
  for_step_alike init test update None no_test = scoped_alike e names (for_demand None) (F init test update None no_test c) (F init test update None no_test d) (for_head None (for_turns None no_test r)) (λ z. either_cong (means e init (As Unused) tt z) _ _ _ _ (λ u y. for_alike init test update None no_test y) (λ x y. refl))

-- `for..in` and `for..of`

module _ (e : Environment) (c d : Tree) (same : SameTurn c d) (r : LabelSet) (left right : Tree) (k : Option Declared) (names : Naming) where
  abbrev I : Tree → Kids (each_demand k)
  I x i r z = meaning e (left ▸ (right ▸ (x ▸ none))) i (each_demand k i) r z

  abbrev Same : {A : Type 0} → Command (each_demand k) A → Type 0
  Same x = Alike e names (each_demand k) (I c) (I d) x

  binds : {A B : Type 0} (x : Command (each_demand k) A) (f : A → Command (each_demand k) B) → Same x → ((a : A) → Same (f a)) → Same (bind x f)
  binds x f h g = bind_alike e names (each_demand k) (I c) (I d) x f h g

  turn_body : Same (kid 2 [] (after_body r))
  unfolding meaning
  turn_body = kid_alike e names (each_demand k) (I c) (I d) 2 [] (after_body r) (λ z. same.by e z) (after_alike e names (each_demand k) (I c) (I d) r)

  next_same : (iterator : Value) (go : Value → Command (each_demand k) Bool) → ((v : Value) → Same (go v)) → Same (next_of iterator go)
  next_same iterator go h = binds (emit NextOf (Item iterator ∷ [])) (on_next go) (λ z. refl) (each_option h)
    where
      each_option : ((v : Value) → Same (go v)) → (o : Option Value) → Same (on_next go o)
      each_option h None = λ z. refl
      each_option h (Some v) = h v

  closing_same : (iterator : Value) (x : Ends Bool) → Same (closing iterator x)
  closing_same iterator (done true) = λ z. refl
  closing_same iterator (done false) = λ z. refl
  closing_same iterator (ended (Thrown v)) = λ z. refl
  closing_same iterator (ended x) = λ z. refl

  module _ (give : (v : Value) → Same (give_left k v)) (begin : (x : Command (each_demand k) (Unit {0})) → Same x → Same (begin_left k x)) where
    turn_same : (v : Value) → Same (turn_of k r v)
    turn_same v = scoped_alike e names (each_demand k) (I c) (I d) (each_turn k r v) (binds (give_left k v) (λ u. kid 2 [] (after_body r)) (give v) (λ u. turn_body))

    in_same : (v : Value) → Same (keys_in k r v)
    in_same v = choose_alike e names (each_demand k) (I c) (I d) (is_nullish v) (ret tt) (bind (emit KeysOf (Item v ∷ [])) (λ iterator. loop (next_of iterator (turn_of k r)))) (λ z. refl)
        (binds (emit KeysOf (Item v ∷ [])) (λ iterator. loop (next_of iterator (turn_of k r))) (λ z. refl) (λ iterator. loop_alike e names (each_demand k) (I c) (I d) (next_of iterator (turn_of k r)) (next_same iterator (turn_of k r) turn_same)))

    of_same : (v : Value) → Same (values_of k r v)
    of_same v = binds (emit IteratorOf (Item v ∷ [])) (λ iterator. loop (next_of iterator (λ w. attempt (turn_of k r w) (closing iterator)))) (λ z. refl) (λ iterator. loop_alike e names (each_demand k) (I c) (I d) (next_of iterator (λ w. attempt (turn_of k r w) (closing iterator)))
        (next_same iterator (λ w. attempt (turn_of k r w) (closing iterator)) (λ w. attempt_alike e names (each_demand k) (I c) (I d) (turn_of k r w) (closing iterator) (turn_same w) (closing_same iterator))))

    for_in_same : Same (for_in_step k r)
    unfolding meaning
    for_in_same = scoped_alike e names (each_demand k) (I c) (I d) (begin_left k (kid 1 tt (then (keys_in k r)))) (begin (kid 1 tt (then (keys_in k r))) (λ z. either_cong (means e right (As Val) tt z) _ _ _ _ (λ v y. in_same v y) (λ x y. refl)))

    for_of_same : Same (for_of_step k r)
    unfolding meaning
    for_of_same = scoped_alike e names (each_demand k) (I c) (I d) (kid 1 tt (then (values_of k r))) (λ z. either_cong (means e right (As Val) tt z) _ _ _ _ (λ v y. of_same v y) (λ x y. refl))

give_same : (e : Environment) (c d : Tree) (same : SameTurn c d) (r : LabelSet) (left right : Tree) (k : Option Declared) (names : Naming) (v : Value) → Same e c d same r left right k names (give_left k v)
unfolding meaning
give_same e c d same r left right (Some (Variables Var)) names v = λ z. refl
give_same e c d same r left right (Some (Variables k)) names v = λ z. refl
give_same e c d same r left right (Some AClass) names v = λ z. refl
give_same e c d same r left right None names v = λ z. refl

begin_same : (e : Environment) (c d : Tree) (same : SameTurn c d) (r : LabelSet) (left right : Tree) (k : Option Declared) (names : Naming) (x : Command (each_demand k) (Unit {0})) → Same e c d same r left right k names x → Same e c d same r left right k names (begin_left k x)
unfolding meaning
begin_same e c d same r left right (Some (Variables Var)) names x h = λ z. either_cong (means e left Heads None z) _ _ _ _ (λ u y. h y) (λ x y. refl)
begin_same e c d same r left right (Some (Variables k)) names x h = h
begin_same e c d same r left right (Some AClass) names x h = h
begin_same e c d same r left right None names x h = h

abbrev N : Naming
N = record { own = []; written = []; bound = []; number = 0; scope = []; functions = [] }

abbrev FN : Tree → Naming
FN init = record { own = []; written = []; bound = []; number = 0; scope = (summary init).lets; functions = [] }

module _ (c d : Tree) (same : SameTurn c d) (e : Environment) (r : LabelSet) (s : State) where
  while_does : (test : Tree) → means e (around (WhileBody test) c) (Stat None) r s ≡ means e (around (WhileBody test) d) (Stat None) r s
  unfolding means step
  while_does test =
      finished e N (first_demand (As Test) (Stat (Some LoopTail))) (W e c d same r N test c) None (while_step r) s ∙ finish_none _
      ∙ while_alike e c d same r N test s
      ∙ sym (finished e N (first_demand (As Test) (Stat (Some LoopTail))) (W e c d same r N test d) None (while_step r) s ∙ finish_none _)

  do_does : (test : Tree) → means e (around (DoBody test) c) (Stat None) r s ≡ means e (around (DoBody test) d) (Stat None) r s
  unfolding means step
  do_does test =
      finished e N do_demand (D e c d same r N test c) None (do_step r) s ∙ finish_none _
      ∙ do_alike e c d same r N test s
      ∙ sym (finished e N do_demand (D e c d same r N test d) None (do_step r) s ∙ finish_none _)

  for_does : (init test update : Tree) → means e (around (ForBody init test update) c) (Stat None) r s ≡ means e (around (ForBody init test update) d) (Stat None) r s
  unfolding means step
  for_does init test update =
      finished e (FN init) (for_demand (summary init).facts.declared) (F e c d same r (FN init) init test update (summary init).facts.declared (summary test).facts.absent c) None (for_step (summary init).facts.declared (summary test).facts.absent r) s ∙ finish_none _
      ∙ for_step_alike e c d same r (FN init) init test update (summary init).facts.declared (summary test).facts.absent s
      ∙ sym (finished e (FN init) (for_demand (summary init).facts.declared) (F e c d same r (FN init) init test update (summary init).facts.declared (summary test).facts.absent d) None (for_step (summary init).facts.declared (summary test).facts.absent r) s ∙ finish_none _)

  in_does : (left right : Tree) → means e (around (InBody left right) c) (Stat None) r s ≡ means e (around (InBody left right) d) (Stat None) r s
  unfolding means step
  in_does left right =
      finished e (FN left) (each_demand (summary left).facts.declared) (I e c d same r left right (summary left).facts.declared (FN left) c) None (for_in_step (summary left).facts.declared r) s ∙ finish_none _
      ∙ for_in_same e c d same r left right (summary left).facts.declared (FN left) (give_same e c d same r left right (summary left).facts.declared (FN left)) (begin_same e c d same r left right (summary left).facts.declared (FN left)) s
      ∙ sym (finished e (FN left) (each_demand (summary left).facts.declared) (I e c d same r left right (summary left).facts.declared (FN left) d) None (for_in_step (summary left).facts.declared r) s ∙ finish_none _)

  of_does : (left right : Tree) → means e (around (OfBody left right) c) (Stat None) r s ≡ means e (around (OfBody left right) d) (Stat None) r s
  unfolding means step
  of_does left right =
      finished e (FN left) (each_demand (summary left).facts.declared) (I e c d same r left right (summary left).facts.declared (FN left) c) None (for_of_step (summary left).facts.declared r) s ∙ finish_none _
      ∙ for_of_same e c d same r left right (summary left).facts.declared (FN left) (give_same e c d same r left right (summary left).facts.declared (FN left)) (begin_same e c d same r left right (summary left).facts.declared (FN left)) s
      ∙ sym (finished e (FN left) (each_demand (summary left).facts.declared) (I e c d same r left right (summary left).facts.declared (FN left) d) None (for_of_step (summary left).facts.declared r) s ∙ finish_none _)

-- ---- any of them

pub loop_same : (k : Surrounding) (c d : Tree) → is_loop k ≡ true → SameTurn c d → SameStatement (around k c) (around k d)
loop_same (Consequent a u) c d h same = absurd (true≢false (sym h))
loop_same (Alternate a s) c d h same = absurd (true≢false (sym h))
loop_same (WhileBody a) c d h same = equal_statement _ _ (λ e r s. while_does c d same e r s a) refl
loop_same (DoBody a) c d h same = equal_statement _ _ (λ e r s. do_does c d same e r s a) refl
loop_same (ForBody init test update) c d h same = equal_statement _ _ (λ e r s. for_does c d same e r s init test update) refl
loop_same (InBody left right) c d h same = equal_statement _ _ (λ e r s. in_does c d same e r s left right) refl
loop_same (OfBody left right) c d h same = equal_statement _ _ (λ e r s. of_does c d same e r s left right) refl

-- ---- 79, of branches and of bodies

pub row_79 : (k : Surrounding) (c : Tree) → is_unscoped c ≡ true → SameStatement (around k (block (c ▸ none))) (around k c)
row_79 (Consequent a u) c f = row_79_consequent a c u f
row_79 (Alternate a u) c f = row_79_alternate a c u f
row_79 k c f = loop_same k (block (c ▸ none)) c refl (unwrapped_turn c f)
