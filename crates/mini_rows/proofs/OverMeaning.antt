-- What a loop over keys or values goes over may be put there: its left side declares no lexical name, which that would be in the scope of.
use Rattle.std.specs.Prelude.{Option, ◌||◌, Bool}
use Rattle.std.proofs.Common.{◌≡◌, ℕ, zero, suc, true, false, List, [], ◌∷◌, None, Some, refl, sym, true≢false, ◌∙◌, subst₂}
use Rattle.std.proofs.lemmas.Bool.{and_parts}
use Rattle.mini_model.specs.declared.kind.VariableDeclarationKind.TheVariants.{Var}
use Rattle.mini_model.specs.declared.name.Name.{Name}
use Rattle.mini_model.specs.declared.shape.Shape.TheVariants as shape
use Rattle.mini_model.specs.Tree.{Tree, node, none, ◌▸◌, absent, identifier, shape_of}
use Rattle.mini_laws.specs.Value.{Value, Declared, VariableSet, Holds, is_nullish}
use Rattle.mini_laws.specs.State.{NextOf, KeysOf, IteratorOf, Item, Thrown, Returned, Broken, Continued, Short, State, Completion, Ends, done, ended, Environment, with_vars}
use Rattle.mini_laws.specs.Demand.{Val, As, Stat, LabelSet}
use Rattle.mini_laws.specs.Command.{set_var, turn, Command, ret, fails, op, kid, then, attempt, bind, repeat, loop, emit}
use Rattle.mini_laws.specs.Naming.{Declared as DeclaredKind, Variables, AClass, summary}
use Rattle.mini_laws.specs.Asking.{each_demand}
use Rattle.mini_laws.specs.Statements.{scoped}
use Rattle.mini_laws.specs.Loops.{after_body, has_label, give_left, each_turn, turn_of, on_next, next_of, keys_in, closing, values_of}
use Rattle.mini_laws.specs.Step.{means}
use Rattle.mini_laws.specs.Same.{Goes, Agree}
use Rattle.mini_laws.specs.Substitution.{alone}
use Rattle.mini_laws.proofs.Runs.{either_cong, either_assoc, either_stop}
use Rattle.mini_laws.proofs.Simulation.{goes_either}
use Rattle.mini_kept.specs.Without.{Unseen}
use Rattle.mini_rows.specs.Lists.{Each, EachIn, EachOf, each_loop, for_in, is_var_shape, is_bare_var}
use Rattle.mini_rows.specs.Unused.{names, any_names, resolved, is_target_shape, is_open_left}
use Rattle.mini_rows.proofs.ListLoops.{Idle, in_rest, in_is, of_rest, of_is, var_lets, var_idle}
use Rattle.mini_rows.proofs.SingleUse.{Step, led}
use Rattle.mini_rows.proofs.SingleMeaning.{Later, later_bind, later_attempt, later_choose, next, stopped, later_goes}
use Rattle.mini_rows.proofs.UnusedNames.{avoided, all_avoided}

-- ---- behind what it goes over a loop asks nothing of that any more

module _ (d : Option DeclaredKind) where
  abbrev Rest : {A : Type 0} → Command (each_demand d) A → Type 0
  Rest c = Later 1 {σ = each_demand d} c

  scoped_later : {A : Type 0} (c : Command (each_demand d) A) → Rest c → Rest (scoped c)
  scoped_later c h = (λ u. later_attempt 1 c _ h (λ a. (λ u. tt, λ y. tt)) (λ y. (λ u. tt, λ y. tt)), λ y. tt)

  repeat_later : (n : ℕ) (c : Command (each_demand d) Bool) → Rest c → Rest (repeat n c)
  repeat_later zero c h = tt
  repeat_later (suc n) c h = later_bind 1 c _ h (λ b. later_choose 1 b (repeat n c) (ret tt) (repeat_later n c h) tt)

  loop_later : (c : Command (each_demand d) Bool) → Rest c → Rest (loop c)
  loop_later c h = (λ n. repeat_later (suc n) (op turn (then (λ u. c))) (λ u. h, λ y. tt), λ y. tt)

  next_later : (iterator : Value) (f : Value → Command (each_demand d) Bool) → ((v : Value) → Rest (f v)) → Rest (next_of iterator f)
  next_later iterator f h = later_bind 1 (emit NextOf (Item iterator ∷ [])) (on_next f) (λ v. tt, λ y. tt) by
    where
      by : (o : Option Value) → Rest (on_next f o)
      by None = tt
      by (Some v) = h v

  after_later : (labels : LabelSet) (x : Ends (Unit {0})) → Rest (after_body labels x)
  after_later labels (done u) = tt
  after_later labels (ended (Broken None)) = tt
  after_later labels (ended (Broken (Some l))) = tt
  after_later labels (ended (Continued None)) = tt
  after_later labels (ended (Continued (Some l))) = later_choose 1 (has_label labels l) (ret true) (fails (Continued (Some l))) tt tt
  after_later labels (ended (Thrown v)) = tt
  after_later labels (ended (Returned v)) = tt
  after_later labels (ended Short) = tt

  closing_later : (iterator : Value) (x : Ends Bool) → Rest (closing iterator x)
  closing_later iterator (done true) = tt
  closing_later iterator (done false) = (λ v. tt, λ y. tt)
  closing_later iterator (ended (Thrown v)) = (λ u. tt, λ y. tt)
  closing_later iterator (ended (Returned v)) = (λ u. tt, λ y. tt)
  closing_later iterator (ended (Broken l)) = (λ u. tt, λ y. tt)
  closing_later iterator (ended (Continued l)) = (λ u. tt, λ y. tt)
  closing_later iterator (ended Short) = (λ u. tt, λ y. tt)

give_later : (d : Option DeclaredKind) (v : Value) → Rest d (give_left d v)
give_later (Some (Variables Var)) v = (tt, (λ a. tt, λ y. tt))
give_later (Some (Variables k)) v = (tt, (λ a. tt, λ y. tt))
give_later (Some AClass) v = (tt, (λ r. (tt, (λ a. tt, λ y. tt)), λ y. tt))
give_later None v = (tt, (λ r. (tt, (λ a. tt, λ y. tt)), λ y. tt))

module _ (d : Option DeclaredKind) (labels : LabelSet) where
  turn_later : (v : Value) → Rest d (turn_of d labels v)
  turn_later v = scoped_later d (each_turn d labels v) (later_bind 1 (give_left d v) (λ u. kid 2 [] (after_body labels)) (give_later d v) (λ u. (tt, (λ a. after_later d labels (done a), λ y. after_later d labels (ended y)))))

  keys_later : (v : Value) → Rest d (keys_in d labels v)
  keys_later v = later_choose 1 (is_nullish v) (ret tt) (bind (emit KeysOf (Item v ∷ [])) (λ i. loop (next_of i (turn_of d labels)))) tt (later_bind 1 {σ = each_demand d} (emit KeysOf (Item v ∷ [])) (λ i. loop (next_of i (turn_of d labels))) (λ i. tt, λ y. tt) (λ i. loop_later d (next_of i (turn_of d labels)) (next_later d i (turn_of d labels) turn_later)))

  valued_later : (i v : Value) → Rest d (attempt (turn_of d labels v) (closing i))
  valued_later i v = later_attempt 1 (turn_of d labels v) (closing i) (turn_later v) (λ a. closing_later d i (done a)) (λ y. closing_later d i (ended y))

  values_later : (v : Value) → Rest d (values_of d labels v)
  values_later v = later_bind 1 {σ = each_demand d} (emit IteratorOf (Item v ∷ [])) (λ i. loop (next_of i (λ w. attempt (turn_of d labels w) (closing i)))) (λ i. tt, λ y. tt) (λ i. loop_later d (next_of i (λ w. attempt (turn_of d labels w) (closing i))) (next_later d i (λ w. attempt (turn_of d labels w) (closing i)) (valued_later i)))

-- ---- the left side declares no lexical name

target_lets : (t : Tree) → is_target_shape (shape_of t) ≡ true → (summary t).lets ≡ []
target_lets (node shape.Identifier xs n ts) e = refl
target_lets (node (shape.StaticMemberExpression o) xs n ts) e = refl
target_lets (node (shape.ComputedMemberExpression o) xs n ts) e = refl
target_lets (node shape.ObjectAssignmentTarget xs n ts) e = refl
target_lets (node shape.ArrayAssignmentTarget xs n ts) e = refl
target_lets t e = absurd (true≢false (sym e))

open_lets : (t : Tree) → is_open_left t ≡ true → (summary t).lets ≡ []
open_lets t e = by (is_target_shape (shape_of t)) refl e
  where
    by : (b : Bool) → is_target_shape (shape_of t) ≡ b → b || is_bare_var t ≡ true → (summary t).lets ≡ []
    by true f g = target_lets t f
    by false f g = var_lets t (and_parts (is_var_shape (shape_of t)) _ g).0

target_declared : (t : Tree) → is_target_shape (shape_of t) ≡ true → (summary t).facts.declared ≡ None
target_declared (node shape.Identifier xs n ts) e = refl
target_declared (node (shape.StaticMemberExpression o) xs n ts) e = refl
target_declared (node (shape.ComputedMemberExpression o) xs n ts) e = refl
target_declared (node shape.ObjectAssignmentTarget xs n ts) e = refl
target_declared (node shape.ArrayAssignmentTarget xs n ts) e = refl
target_declared t e = absurd (true≢false (sym e))

open_idle : (e : Environment) (t : Tree) → is_open_left t ≡ true → Idle e t
open_idle e t h = by (is_target_shape (shape_of t)) refl h
  where
    by : (b : Bool) → is_target_shape (shape_of t) ≡ b → b || is_bare_var t ≡ true → Idle e t
    by true f g p z = absurd (cc (sym (target_declared t f) ∙ p))
    by false f g p z = var_idle e t g z

-- ---- the loops

module _ (e : Environment) (k : ℕ) (z : Unseen (alone (Declared k)) e) (x : Name) (named : x.symbol ≡ Some (record { 0 = k })) (spelling : List ℕ) (init : Tree) (ss : List Step) where
  abbrev D : VariableSet
  D = alone (Declared k)

  abbrev Go : {A : Type 0} → Completion A → Completion A → Type 0
  Go a b = Goes true (λ u. Agree D) (Agree D) (Agree D) a b

  abbrev after : Value → State → State
  after v s = with_vars s (set_var s.vars (Declared k) (Holds v))

  abbrev value : Tree
  value = led ss (identifier (resolved spelling k))

  abbrev put : Tree
  put = led ss init

  -- what is read may be put there from some states
  module _ (R : State → Type 0) (moves : (s : State) → R s → Go (next (means e init (As Val) tt s) (λ p t. means e value (As Val) tt (after p t))) (means e put (As Val) tt s)) where
    -- what follows, where the statement is run
    abbrev Moves : Tree → Tree → Type 0
    Moves head there = (s : State) → R s → Go (next (means e init (As Val) tt s) (λ v t. means e head (Stat None) [] (after v t))) (means e there (Stat None) [] s)

    module _ (left body : Tree) (other : names x left ≡ false) (later : any_names x (body ▸ none) ≡ false) where
      keys_go : (v : Value) (y y' : State) → Agree D y y' → Go (in_rest e left body [] v y) (in_rest e left body [] v y')
      unfolding in_rest
      keys_go v y y' a =
          let d = (summary left).facts.declared in
          later_goes e k z {σ = each_demand d} shape.ForInStatement (Stat None) [] (left ▸ none) absent absent (body ▸ none) (avoided x k named left other, tt) (all_avoided x k named (body ▸ none) later) (λ r h. absurd h) (keys_in d [] v) (keys_later d [] v) y y' a

      values_go : (v : Value) (y y' : State) → Agree D y y' → Go (of_rest e left body [] v y) (of_rest e left body [] v y')
      unfolding of_rest
      values_go v y y' a =
          let d = (summary left).facts.declared in
          later_goes e k z {σ = each_demand d} shape.ForOfStatement (Stat None) [] (left ▸ none) absent absent (body ▸ none) (avoided x k named left other, tt) (all_avoided x k named (body ▸ none) later) (λ r h. absurd h) (values_of d [] v) (values_later d [] v) y y' a

      -- a statement that asks for the value, and does the rest with it
      begun_goes : (head there : Tree) (rest : Value → State → Completion (Unit {0})) → ((y : State) → means e head (Stat None) [] y ≡ next (means e value (As Val) tt y) rest) → ((y : State) → means e there (Stat None) [] y ≡ next (means e put (As Val) tt y) rest) → ((v : Value) (y y' : State) → Agree D y y' → Go (rest v y) (rest v y')) → Moves head there
      begun_goes head there rest g h go t ready =
          let v = means e init (As Val) tt t in
          let begun = next v (λ p y. means e value (As Val) tt (after p y)) in
          subst₂ Go
          (sym (either_cong v _ _ _ _ (λ p y. g (after p y)) (λ y p. refl) ∙ sym (either_assoc v _ _ _ _ ∙ either_cong v _ _ _ _ (λ p y. refl) (λ y p. either_stop y p _ _))))
          (sym (h t))
          (goes_either true (λ p. Agree D) (Agree D) (Agree D) (λ p. Agree D) (Agree D) begun (means e put (As Val) tt t) _ _ _ _
          (moves t ready)
          (λ u y y' a. go u y y' a) (λ c y y' a. stopped e k z (Unit {0}) c y y' a))

      pub each_goes_by : (c : Each) → is_open_left left ≡ true → Moves (each_loop c left value body) (each_loop c left put body)
      each_goes_by EachIn o =
          let lets = open_lets left o in
          let idle = open_idle e left o in
          begun_goes (for_in left value body) (for_in left put body) (in_rest e left body []) (λ y. in_is e left body [] lets idle value y) (λ y. in_is e left body [] lets idle put y) keys_go
      each_goes_by EachOf o = let lets = open_lets left o in begun_goes (each_loop EachOf left value body) (each_loop EachOf left put body) (of_rest e left body []) (λ y. of_is e left body [] lets value y) (λ y. of_is e left body [] lets put y) values_go

    pub each_goes : (c : Each) (left body : Tree) → is_open_left left ≡ true → names x left ≡ false → any_names x (body ▸ none) ≡ false → Moves (each_loop c left value body) (each_loop c left put body)
    each_goes c left body o g h = each_goes_by left body g h c o
