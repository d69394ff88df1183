-- What a `switch` of one case that declares names does, and the `if` in its place, where no event shows those names.
use Rattle.std.proofs.Common.{◌≡◌, Bool, true, false, List, [], ◌++◌, None, refl, sym, ap, ◌∙◌, subst, subst₂, inl, inr}
use Rattle.std.proofs.lemmas.List.{append-nil}
use Rattle.std.specs.Prelude.{◌⊎◌}
use Rattle.mini_model.specs.declared.operator.BinaryOperator.TheVariants.{StrictEquality}
use Rattle.mini_model.specs.declared.place.Position.TheVariants.{Stmt}
use Rattle.mini_model.specs.Tree.{Tree, Trees, none, ◌▸◌, absent, listed, if_alone}
use Rattle.mini_laws.specs.Value.{Value, Undefined, Null, Boolean, Number, String, Variable, VariableSet, choose}
use Rattle.mini_laws.specs.Operators.{strictly_equal}
use Rattle.mini_laws.specs.State.{State, Completion, ok, stop, out, either, Environment}
use Rattle.mini_laws.specs.Demand.{Val, As, Stat, Cases, LabelSet}
use Rattle.mini_laws.specs.Command.{Naming, run}
use Rattle.mini_laws.specs.Naming.{summary, summaries, facts, functions_all, function_facts, function_names}
use Rattle.mini_laws.specs.Statements.{create_functions}
use Rattle.mini_laws.specs.Step.{step, means, meaning}
use Rattle.mini_laws.specs.Same.{Goes}
use Rattle.mini_laws.specs.Congruence.{Apart}
use Rattle.mini_laws.proofs.Runs.{either_cong, either_assoc, either_ok, either_stop, either_out}
use Rattle.mini_rows.specs.Lists.{block, switch}
use Rattle.mini_rows.specs.Spellings.{PlainForm, a_number, a_text, a_boolean, a_null, a_big_int, a_template, a_void, plain, binary}
use Rattle.mini_rows.specs.Cases.{switch_case, one_case, ended, breaks_out}
use Rattle.mini_rows.specs.Lexical.{is_of, Row80Lexical, LexicalMeansSame}
use Rattle.mini_rows.specs.Fading.{Fades, Fading}
use Rattle.mini_rows.proofs.CaseMeaning.{caught, plain_written, equal_test, does, case_does}
use Rattle.mini_rows.proofs.Fading.{fades_itself, out_goes}
use Rattle.mini_rows.proofs.HeldNames.{HeldNames, held_names, names_in, ended_names, ended_functions, ended_facts, Is, is_of_is, covered}
use Rattle.mini_rows.proofs.LexicalLoops.{row_84_fades}
use Rattle.mini_rows.proofs.LexicalScopes.{gone, within, scoped_block, goes_on, ends, stops, both_gone, first_gone, within_goes, at_statement}
use Rattle.mini_rows.proofs.ListHeads.{Nothing, nothing_by, leave, leaving, no_kids, switch_names, switch_rest, switch_is}
use Rattle.mini_rows.proofs.ListStatements.{if_is, absent_is}

-- ---- a `switch` with one case that writes its test out

pub record Quiet (t : Tree) : Type 0 where
  pub lets : (summary t).lets ≡ []
  pub functions : (summary t).functions ≡ []
  pub facts : (summary t).facts.functions ≡ []

plain_quiet : (f : PlainForm) → Quiet (plain f)
plain_quiet (a_number n) = record { lets = refl; functions = refl; facts = refl }
plain_quiet (a_text s) = record { lets = refl; functions = refl; facts = refl }
plain_quiet (a_boolean b) = record { lets = refl; functions = refl; facts = refl }
plain_quiet a_null = record { lets = refl; functions = refl; facts = refl }
plain_quiet (a_big_int n) = record { lets = refl; functions = refl; facts = refl }
plain_quiet (a_template l raw s) = record { lets = refl; functions = refl; facts = refl }
plain_quiet a_void = record { lets = refl; functions = refl; facts = refl }

module _ (e : Environment) (t : Tree) (ts : Trees) (u : Quiet t) (h : functions_all (summaries ts) ≡ []) (k : function_facts (facts ts) ≡ []) where
  abbrev cases : Tree
  cases = listed (switch_case t ts ▸ none)

  abbrev here : Naming
  here = switch_names [] [] cases

  three : (xs : List Variable) → (([] ++ (xs ++ [])) ++ []) ++ [] ≡ xs
  three xs = append-nil ((xs ++ []) ++ []) ∙ append-nil (xs ++ []) ∙ append-nil xs

  switch_scope : here.scope ≡ names_in ts
  switch_scope =
      (λ i. (((u.lets i ++ (names_in ts ++ [])) ++ []) ++ []) ++ function_names (((u.functions i ++ (h i ++ [])) ++ []) ++ []))
      ∙ append-nil ((([] ++ (names_in ts ++ [])) ++ []) ++ []) ∙ three (names_in ts)

  pub scoped_switch : (v : Value) (z : State) → switch_rest e [] [] [] cases v z ≡ within (names_in ts) (caught (means e cases Cases v (gone (names_in ts) z)))
  unfolding switch_rest
  scoped_switch v z =
      ap (λ l. leaving here (either (run {q = λ i. Stat None} e here no_kids (create_functions true (l ++ []) 0) (leave here z)) (λ u y. caught (means e cases Cases v y)) (λ x y. stop x y))) (λ i. (u.facts i ++ (k i ++ [])) ++ [])
      ∙ ap (leaving here) (either_ok tt (leave here z) _ _)
      ∙ ap (λ xs. within xs (caught (means e cases Cases v (gone xs z)))) switch_scope

switch_by : (e : Environment) (d cases : Tree) → Nothing d → (r : LabelSet) (s : State) → means e (switch d cases) (Stat None) r s ≡ either (means e d (As Val) tt s) (λ v z. switch_rest e [] [] [] cases v z) (λ x z. stop x z)
switch_by e d cases u r s =
    switch_is e d cases r s
    ∙ ap (λ l. either (means e d (As Val) tt s) (λ v z. switch_rest e l (summary d).functions (summary d).facts.functions cases v z) (λ x z. stop x z)) u.lets
    ∙ ap (λ l. either (means e d (As Val) tt s) (λ v z. switch_rest e [] l (summary d).facts.functions cases v z) (λ x z. stop x z)) u.functions
    ∙ ap (λ l. either (means e d (As Val) tt s) (λ v z. switch_rest e [] [] l cases v z) (λ x z. stop x z)) u.facts

-- what is written out has its value in each state, or is outside the model
abbrev Gives : Environment → Tree → Type 0
Gives e t = ((z : State) → means e t (As Val) tt z ≡ out) ⊎ ((v : Value) × ((z : State) → means e t (As Val) tt z ≡ ok v z))

plain_gives : (e : Environment) (f : PlainForm) → Gives e (plain f)
unfolding means meaning step either
plain_gives e (a_number n) = inr (Number n, λ z. refl)
plain_gives e (a_text s) = inr (String s, λ z. refl)
plain_gives e (a_boolean b) = inr (Boolean b, λ z. refl)
plain_gives e a_null = inr (Null, λ z. refl)
plain_gives e (a_big_int n) = inl (λ z. refl)
plain_gives e (a_template l raw s) = inr (String s, λ z. refl)
plain_gives e a_void = inr (Undefined, λ z. refl)

-- ---- the case

module _ (V : VariableSet) (e : Environment) (apart : Apart e V) where
  abbrev Go : Completion (Unit {0}) → Completion (Unit {0}) → Type 0
  Go x y = Goes true (λ a. Fades V) (Fades V) (Fades V) x y

  -- the case is taken, or it isn't
  module _ (ts : Trees) (h : HeldNames (Is V) ts) where
    abbrev L : List Variable
    L = names_in ts

    chosen : (b : Bool) (s t : State) → Fades V s t → Go (within L (choose b (means e (listed ts) (Stat None) [] (gone L s)) (ok tt (gone L s)))) (choose b (means e (block ts) (Stat None) [] t) (ok tt t))
    chosen true s t f =
        subst (Go (within L (means e (listed ts) (Stat None) [] (gone L s)))) (sym (scoped_block e ts h.functions h.facts [] t))
        (within_goes V e apart L _ _ (fades_itself V e apart (Stat None) (listed ts) [] (gone L s) (gone L t) (both_gone V e apart L s t f)))
    chosen false s t f =
        let c = covered V L h.all in
        subst (λ x. Go x (ok tt t)) (sym (either_ok tt (gone L s) _ _)) (ends V e apart (gone L (gone L s)) t (first_gone V e apart L c (gone L s) t (first_gone V e apart L c s t f)))

    -- after its test
    abbrev tests : Tree → Value → State → Completion (Unit {0})
    tests t v z = either (means e t (As Val) tt z) (λ w z. choose (strictly_equal v w) (means e (block ts) (Stat None) [] z) (ok tt z)) (λ x z. stop x z)

    tested : (t : Tree) (stays : breaks_out (listed ts) ≡ false) (b : Bool) → Gives e t → (v : Value) (s z : State) → Fades V s z → Go (within L (does e ts b stays t v (gone L s))) (tests t v z)
    tested t stays b (inl o) v s z f =
        subst (λ x. Go x (tests t v z)) (sym (ap (λ x. within L (either x (λ w z. choose (strictly_equal v w) (means e (listed ts) (Stat None) [] z) (ok tt z)) (λ x z. stop x z))) (o (gone L s)) ∙ ap (within L) (either_out _ _) ∙ either_out _ _)) (out_goes V e apart (tests t v z))
    tested t stays b (inr (w, g)) v s z f =
        subst₂ Go (sym (ap (λ x. within L (either x (λ w z. choose (strictly_equal v w) (means e (listed ts) (Stat None) [] z) (ok tt z)) (λ x z. stop x z))) (g (gone L s)) ∙ ap (within L) (either_ok w (gone L s) _ _)))
        (sym (ap (λ x. either x (λ w z. choose (strictly_equal v w) (means e (block ts) (Stat None) [] z) (ok tt z)) (λ x z. stop x z)) (g z) ∙ either_ok w z _ _)) (chosen (strictly_equal v w) s z f)

-- ---- 80

module _ (V : VariableSet) (e : Environment) (apart : Apart e V) (d : Tree) (u : Nothing d) (g : PlainForm) (ts : Trees) (b : Bool) (h : HeldNames (Is V) ts) (stays : breaks_out (listed ts) ≡ false) where
  earlier : (r : LabelSet) (s : State) → means e (one_case d (plain g) (ended b ts)) (Stat None) r s ≡ either (means e d (As Val) tt s) (λ v z. within (names_in ts) (does e ts b stays (plain g) v (gone (names_in ts) z))) (λ x z. stop x z)
  earlier r s =
      switch_by e d (listed (switch_case (plain g) (ended b ts) ▸ none)) u r s
      ∙ either_cong (means e d (As Val) tt s) _ _ _ _
      (λ v z.
      scoped_switch e (plain g) (ended b ts) (plain_quiet g) (ended_functions b ts ∙ h.functions) (ended_facts b ts ∙ h.facts) v z
      ∙ ap (λ xs. within xs (caught (means e (listed (switch_case (plain g) (ended b ts) ▸ none)) Cases v (gone xs z)))) (ended_names b ts)
      ∙ ap (within (names_in ts)) (case_does e ts b stays (plain g) (plain_written g) v (gone (names_in ts) z)))
      (λ x z. refl)

  later : (r : LabelSet) (s : State) → means e (if_alone (binary StrictEquality d (plain g)) (block ts)) (Stat None) r s ≡ either (means e d (As Val) tt s) (λ v z. tests V e apart ts h (plain g) v z) (λ x z. stop x z)
  later r s =
      if_is e (binary StrictEquality d (plain g)) (block ts) absent r s
      ∙ ap (λ x. either x (λ c z. choose c (means e (block ts) (Stat None) [] z) (means e absent (Stat None) [] z)) (λ x z. stop x z)) (equal_test e d (plain g) s)
      ∙ either_assoc (means e d (As Val) tt s) _ _ _ _
      ∙ either_cong (means e d (As Val) tt s) _ _ _ _ (λ v z. outer v z) (λ x z. either_stop x z _ _)
    where
      taken : (c : Bool) (z : State) → choose c (means e (block ts) (Stat None) [] z) (means e absent (Stat None) [] z) ≡ choose c (means e (block ts) (Stat None) [] z) (ok tt z)
      taken true z = refl
      taken false z = absent_is e [] z

      outer : (v : Value) (z : State) → either (either (means e (plain g) (As Val) tt z) (λ w z. ok (strictly_equal v w) z) (λ x z. stop x z)) (λ c z. choose c (means e (block ts) (Stat None) [] z) (means e absent (Stat None) [] z)) (λ x z. stop x z) ≡ tests V e apart ts h (plain g) v z
      outer v z =
          either_assoc (means e (plain g) (As Val) tt z) _ _ _ _
          ∙ either_cong (means e (plain g) (As Val) tt z) _ _ _ _ (λ y z. either_ok (strictly_equal v y) z _ _ ∙ taken (strictly_equal v y) z) (λ x z. either_stop x z _ _)

  case_fades : Fading V e (Stat None) (one_case d (plain g) (ended b ts)) (if_alone (binary StrictEquality d (plain g)) (block ts))
  case_fades r s t f =
      subst₂ (Go V e apart) (sym (earlier r s)) (sym (later r t))
      (goes_on V e apart _ _ _ _ _ _ (fades_itself V e apart (As Val) d tt s t f)
      (λ v s t f. tested V e apart ts h (plain g) stays b (plain_gives e g) v s t f)
      (λ x s t f. stops V e apart x s t f))

row_80 : (V : VariableSet) (n w : Tree) → Row80Lexical V n w → (e : Environment) → Apart e V → Fading V e (Stat None) n w
row_80 V n w r e apart =
    subst₂ (Fading V e (Stat None)) (sym r.shape) (sym r.written)
    (case_fades V e apart r.discriminant (nothing_by r.discriminant r.value) r.test r.statements r.is_ended (held_names (is_of V) (Is V) (is_of_is V) r.statements r.held) r.stays)

pub lexical_same : LexicalMeansSame
lexical_same V (Stmt k) n w (inl r) e apart q f = at_statement V e apart n w (row_80 V n w r e apart) k q f
lexical_same V (Stmt k) n w (inr r) e apart q f = at_statement V e apart n w (row_84_fades V n w r e apart) k q f
lexical_same V p n w r e apart q f = absurd r
