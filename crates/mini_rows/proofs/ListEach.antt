-- A `for..in` or `for..of` that declares the name to which it assigns does what it does with the `var` before it.
use Rattle.std.proofs.Common.{◌≡◌, ℕ, Bool, true, false, List, [], ◌∷◌, Option, Some, None, refl, sym, ap, ◌∙◌}
use Rattle.mini_model.specs.declared.kind.VariableDeclarationKind.TheVariants.{Var}
use Rattle.mini_model.specs.Tree.{Tree, none, ◌▸◌, absent, listed, identifier}
use Rattle.mini_laws.specs.Value.{Value, is_nullish}
use Rattle.mini_laws.specs.State.{NextOf, KeysOf, IteratorOf, Item, Thrown, Returned, Broken, Continued, Short, State, Ends, done, ended, ok, stop, either, Environment}
use Rattle.mini_laws.specs.Demand.{LoopTail, AName, Target, Put, Stat, Binds, Heads, LabelSet}
use Rattle.mini_laws.specs.Command.{Command, ret, kid, then, attempt, bind, loop, emit, Kids, run}
use Rattle.mini_laws.specs.Naming.{Declared, Variables}
use Rattle.mini_laws.specs.Asking.{each_demand}
use Rattle.mini_laws.specs.Loops.{after_body, give_left, begin_left, each_turn, turn_of, on_next, next_of, keys_in, closing, values_of, for_in_step, for_of_step}
use Rattle.mini_laws.specs.Step.{step, means, meaning}
use Rattle.mini_laws.proofs.Runs.{either_cong, either_eta, either_ok}
use Rattle.mini_laws.proofs.Tailing.{finished, finish_none}
use Rattle.mini_rows.specs.Lists.{resolved, binding, declarator, Each, EachIn, EachOf, each_loop, bare_var}
use Rattle.mini_rows.proofs.ListStretches.{ReadSame, SameStretch, exec_one, exec_two}
use Rattle.mini_rows.proofs.ListStatements.{declaration_is}
use Rattle.mini_rows.proofs.ListHeads.{for_names}
use Rattle.mini_rows.proofs.ListLoops.{Alike, bind_alike, choose_alike, after_alike, loop_alike, attempt_alike, scoped_alike}
use Rattle.mini_rows.proofs.ListBegun.{put_is, prepared, bare_all}

abbrev a_var : Option Declared
a_var = Some (Variables Var)

module _ (e : Environment) (spelling target : List ℕ) (k : ℕ) (right body : Tree) (labels : LabelSet) where
  abbrev x : Tree
  x = identifier (resolved target k)

  abbrev var : Tree
  var = bare_var (resolved spelling k)

  -- such a `var` takes a value as its name does
  var_takes : (v : Value) (s : State) → means e var Heads (Some v) s ≡ means e (binding (resolved spelling k)) (Binds false) v s
  unfolding means meaning step
  var_takes v s =
      either_eta (means e (listed (declarator (binding (resolved spelling k)) absent ▸ none)) Heads (Some v) s)
      ∙ either_eta (means e (declarator (binding (resolved spelling k)) absent) Heads (Some v) s)
      ∙ either_eta (means e (binding (resolved spelling k)) (Binds false) v s)

  -- and does nothing before
  var_begins : (s : State) → means e var Heads None s ≡ ok tt s
  unfolding means meaning step either
  var_begins s = refl

  abbrev K : Kids (each_demand None)
  K i r z = meaning e (x ▸ (right ▸ (body ▸ none))) i (each_demand None i) r z

  abbrev L : Kids (each_demand a_var)
  L i r z = meaning e (var ▸ (right ▸ (body ▸ none))) i (each_demand a_var i) r z

  abbrev Both : {A : Type 0} → Command (each_demand None) A → Command (each_demand a_var) A → Type 0
  Both c d = Alike e (for_names []) (each_demand None) (each_demand a_var) K L c d

  given : (v : Value) → Both (give_left None v) (give_left a_var v)
  unfolding meaning
  given v z =
      ap (λ y. either y (λ r w. either (means e x Target (Put r v) w) (λ u t. ok u t) (λ c t. stop c t)) (λ c t. stop c t)) (prepared e spelling target k z)
      ∙ either_ok AName z _ _
      ∙ either_eta (means e x Target (Put AName v) z)
      ∙ put_is e spelling target k v z
      ∙ sym (either_eta (means e var Heads (Some v) z) ∙ var_takes v z)

  body_alike : Both (kid 2 [] (after_body labels)) (kid 2 [] (after_body labels))
  unfolding meaning
  body_alike z =
      either_cong (means e body (Stat (Some LoopTail)) [] z) _ _ _ _ (λ a w. after_alike e (for_names []) (each_demand None) (each_demand a_var) K L labels (done a) w) (λ s w. after_alike e (for_names []) (each_demand None) (each_demand a_var) K L labels (ended s) w)

  turn_alike : (v : Value) → Both (turn_of None labels v) (turn_of a_var labels v)
  turn_alike v =
      scoped_alike e (for_names []) (each_demand None) (each_demand a_var) K L (each_turn None labels v) (each_turn a_var labels v)
      (bind_alike e (for_names []) (each_demand None) (each_demand a_var) K L (give_left None v) (give_left a_var v) (λ u. kid 2 [] (after_body labels)) (λ u. kid 2 [] (after_body labels)) (given v) (λ u. body_alike))

  module _ (f : Value → Command (each_demand None) Bool) (g : Value → Command (each_demand a_var) Bool) (h : (v : Value) → Both (f v) (g v)) where
    on_next_alike : (o : Option Value) → Both (on_next f o) (on_next g o)
    on_next_alike None z = refl
    on_next_alike (Some v) z = h v z

    loop_over : (iterator : Value) → Both (loop (next_of iterator f)) (loop (next_of iterator g))
    loop_over iterator =
        loop_alike e (for_names []) (each_demand None) (each_demand a_var) K L (next_of iterator f) (next_of iterator g)
        (bind_alike e (for_names []) (each_demand None) (each_demand a_var) K L (emit NextOf (Item iterator ∷ [])) (emit NextOf (Item iterator ∷ [])) (on_next f) (on_next g) (λ z. refl) on_next_alike)

  keys_alike : (v : Value) → Both (keys_in None labels v) (keys_in a_var labels v)
  keys_alike v =
      let c = λ (i : Value). loop (next_of i (turn_of None labels)) in
      let d = λ (i : Value). loop (next_of i (turn_of a_var labels)) in
      choose_alike e (for_names []) (each_demand None) (each_demand a_var) K L (is_nullish v) (ret tt) (bind (emit KeysOf (Item v ∷ [])) c) (ret tt) (bind (emit KeysOf (Item v ∷ [])) d) (λ z. refl)
      (bind_alike e (for_names []) (each_demand None) (each_demand a_var) K L (emit KeysOf (Item v ∷ [])) (emit KeysOf (Item v ∷ [])) c d (λ z. refl) (loop_over (turn_of None labels) (turn_of a_var labels) turn_alike))

  closing_alike : (iterator : Value) (y : Ends Bool) → Both (closing iterator y) (closing iterator y)
  closing_alike iterator (done true) z = refl
  closing_alike iterator (done false) z = refl
  closing_alike iterator (ended (Thrown v)) z = refl
  closing_alike iterator (ended (Returned v)) z = refl
  closing_alike iterator (ended (Broken l)) z = refl
  closing_alike iterator (ended (Continued l)) z = refl
  closing_alike iterator (ended Short) z = refl

  value_alike : (iterator v : Value) → Both (attempt (turn_of None labels v) (closing iterator)) (attempt (turn_of a_var labels v) (closing iterator))
  value_alike iterator v = attempt_alike e (for_names []) (each_demand None) (each_demand a_var) K L (turn_of None labels v) (turn_of a_var labels v) (closing iterator) (closing iterator) (turn_alike v) (closing_alike iterator)

  values_alike : (v : Value) → Both (values_of None labels v) (values_of a_var labels v)
  values_alike v =
      let f = λ (i w : Value). attempt (turn_of None labels w) (closing i) in
      let g = λ (i w : Value). attempt (turn_of a_var labels w) (closing i) in
      bind_alike e (for_names []) (each_demand None) (each_demand a_var) K L (emit IteratorOf (Item v ∷ [])) (emit IteratorOf (Item v ∷ [])) (λ i. loop (next_of i (f i))) (λ i. loop (next_of i (g i))) (λ z. refl) (λ i. loop_over (f i) (g i) (value_alike i) i)

  in_alike : Both (for_in_step None labels) (for_in_step a_var labels)
  unfolding meaning
  in_alike = scoped_alike e (for_names []) (each_demand None) (each_demand a_var) K L (kid 1 tt (then (keys_in None labels))) (begin_left a_var (kid 1 tt (then (keys_in a_var labels))))
      (λ z. either_cong (meaning e (x ▸ (right ▸ (body ▸ none))) 1 (each_demand None 1) tt z) _ _ _ _ (λ v w. keys_alike v w) (λ c w. refl)
      ∙ sym (ap (λ y. either y (λ u w. run {q = each_demand a_var} e (for_names []) L (kid 1 tt (then (keys_in a_var labels))) w) (λ c w. stop c w)) (var_begins z) ∙ either_ok tt z _ _))

  of_alike : Both (for_of_step None labels) (for_of_step a_var labels)
  unfolding meaning
  of_alike = scoped_alike e (for_names []) (each_demand None) (each_demand a_var) K L (kid 1 tt (then (values_of None labels))) (kid 1 tt (then (values_of a_var labels))) (λ z. either_cong (meaning e (x ▸ (right ▸ (body ▸ none))) 1 (each_demand None 1) tt z) _ _ _ _ (λ v w. values_alike v w) (λ c w. refl))

  each_is : (c : Each) (s : State) → means e (each_loop c x right body) (Stat None) labels s ≡ means e (each_loop c var right body) (Stat None) labels s
  unfolding means meaning step
  each_is EachIn s =
      finished e (for_names []) (each_demand None) K None (for_in_step None labels) s ∙ finish_none _ ∙ in_alike s
      ∙ sym (finished e (for_names []) (each_demand a_var) L None (for_in_step a_var labels) s ∙ finish_none _)
  each_is EachOf s =
      finished e (for_names []) (each_demand None) K None (for_of_step None labels) s ∙ finish_none _ ∙ of_alike s
      ∙ sym (finished e (for_names []) (each_demand a_var) L None (for_of_step a_var labels) s ∙ finish_none _)

pub each_enters : (c : Each) (spelling target : List ℕ) (k : ℕ) (right body : Tree) → SameStretch (bare_var (resolved spelling k) ▸ (each_loop c (identifier (resolved target k)) right body ▸ none)) (each_loop c (bare_var (resolved spelling k)) right body ▸ none)
each_enters c spelling target k right body = record {
  by = λ e s.
      exec_two e (bare_var (resolved spelling k)) (each_loop c (identifier (resolved target k)) right body) s
      ∙ ap (λ y. either y (λ u z. means e (each_loop c (identifier (resolved target k)) right body) (Stat None) [] z) (λ y z. stop y z)) (declaration_is e Var (declarator (binding (resolved spelling k)) absent ▸ none) [] s ∙ bare_all e (declarator (binding (resolved spelling k)) absent ▸ none) refl s)
      ∙ either_ok tt s _ _
      ∙ each_is e spelling target k right body [] c s
      ∙ sym (exec_one e (each_loop c (bare_var (resolved spelling k)) right body) s);
  read = read c;
}
  where
    read : (c : Each) → ReadSame (bare_var (resolved spelling k) ▸ (each_loop c (identifier (resolved target k)) right body ▸ none)) (each_loop c (bare_var (resolved spelling k)) right body ▸ none)
    read EachIn = record { lets = refl; functions = refl; facts = refl; texts = refl }
    read EachOf = record { lets = refl; functions = refl; facts = refl; texts = refl }
