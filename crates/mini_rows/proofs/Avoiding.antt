-- A tree that doesn't mention a variable doesn't write or bind it, creates no function of its name, and opens no scope that has it.
use Rattle.std.proofs.Common.{◌≡◌, ℕ, suc, Bool, true, false, List, [], ◌∷◌, ◌++◌, Option, Some, refl, sym, ap, ◌∙◌, subst, true≢false}
use Rattle.std.specs.Prelude.{nat_eq}
use Rattle.std.proofs.lemmas.Bool.{eq-eqb, eqb-true}
use Rattle.mini_model.specs.declared.operator.UnaryOperator.TheVariants.{LogicalNot}
use Rattle.mini_model.specs.declared.shape.Shape.{Shape}
use Rattle.mini_model.specs.declared.shape.Shape.TheVariants as shape
use Rattle.mini_model.specs.Tree.{Tree, Trees, node, none, ◌▸◌}
use Rattle.mini_laws.specs.Value.{Variable, Declared as Symbol, Global, VariableSet, choose, variables, variable_eq, is_in}
use Rattle.mini_laws.specs.Demand.{Demand, Target, Declares, Binds, Heads}
use Rattle.mini_laws.specs.Command.{Hoisted}
use Rattle.mini_laws.specs.Naming.{Declared, AClass, Summary, summary, summaries, summary_of, facts, facts_all, first_facts, lets_all, lets_first, functions_all, functions_first, first_name, first_variable, front, named_in, function_names, class_lets, is_lexical, lets_of, name_of, functions_of, written_of, bound_of, scope_of, created_by, naming}
use Rattle.mini_laws.specs.Asking.{demand}
use Rattle.mini_laws.specs.Congruence.{NoneIn, Avoids, AllAvoid}
use Rattle.mini_laws.specs.Steady.{SparedBy, Spares, AllSpare}
use Rattle.mini_laws.specs.Substitution.{alone}

module _ (k : ℕ) where
  abbrev pub D : VariableSet
  D = alone (Symbol k)

  abbrev pub Out : List Variable → Type 0
  Out xs = is_in (Symbol k) xs ≡ false

  turned : (y : Variable) → variable_eq (Symbol k) y ≡ false → variable_eq y (Symbol k) ≡ false
  turned (Global s) e = refl
  turned (Symbol m) e = by (nat_eq m k) refl
    where
      by : (b : Bool) → nat_eq m k ≡ b → nat_eq m k ≡ false
      by false f = f
      by true f = absurd (true≢false (sym (eq-eqb k m (sym (eqb-true m k f))) ∙ e))

  out : (ys : List Variable) → NoneIn D ys → Out ys
  out [] a = refl
  out (y ∷ ys) a = ap (λ b. choose b true (is_in (Symbol k) ys)) (turned y a.0) ∙ out ys a.1

  pub out_both : (xs ys : List Variable) → Out xs → Out ys → Out (xs ++ ys)
  out_both [] ys e f = f
  out_both (x ∷ xs) ys e f = by (variable_eq x (Symbol k)) e (out_both xs ys)
    where
      by : (b : Bool) → choose b true (is_in (Symbol k) xs) ≡ false → (Out xs → Out ys → Out (xs ++ ys)) → choose b true (is_in (Symbol k) (xs ++ ys)) ≡ false
      by true e g = absurd (true≢false e)
      by false e g = g e f

  out_chosen : (b : Bool) (xs : List Variable) → Out xs → Out (choose b xs [])
  out_chosen true xs e = e
  out_chosen false xs e = refl

  out_front : (xs : List Variable) → Out xs → Out (front xs)
  out_front [] e = refl
  out_front (x ∷ xs) e = by (variable_eq x (Symbol k)) e
    where
      by : (b : Bool) → choose b true (is_in (Symbol k) xs) ≡ false → choose b true false ≡ false
      by true e = e
      by false e = refl

  out_named : (xs : List Variable) → Out xs → Out (named_in (first_variable xs))
  out_named [] e = refl
  out_named (x ∷ xs) e = out_front (x ∷ xs) e

  out_class : (d : Option Declared) (xs : List Variable) → Out xs → Out (class_lets d xs)
  out_class (Some AClass) xs e = e
  out_class d xs e = refl

  out_functions : (fs gs : List Hoisted) → Out (function_names fs) → Out (function_names gs) → Out (function_names (fs ++ gs))
  out_functions [] gs e f = f
  out_functions (g ∷ fs) gs e f =
      subst Out (sym (names_both g fs gs)) (out_both (function_names (g ∷ fs)) (function_names gs) e f)
    where
      names_of_both : (fs gs : List Hoisted) → function_names (fs ++ gs) ≡ function_names fs ++ function_names gs
      names_of_both [] gs = refl
      names_of_both (f ∷ fs) gs = ap (λ l. named_in f.name ++ l) (names_of_both fs gs) ∙ sym (assoc (named_in f.name) (function_names fs) (function_names gs))
        where
          assoc : (a b c : List Variable) → (a ++ b) ++ c ≡ a ++ (b ++ c)
          assoc [] b c = refl
          assoc (x ∷ a) b c = ap (λ l. x ∷ l) (assoc a b c)

      names_both : (g : Hoisted) (fs gs : List Hoisted) → function_names ((g ∷ fs) ++ gs) ≡ function_names (g ∷ fs) ++ function_names gs
      names_both g fs gs = names_of_both (g ∷ fs) gs

  -- what a parent reads of a tree
  pub record Without (i : Summary) : Type 0 where
    pub lets : Out i.lets
    pub name : Out (named_in i.name)
    pub functions : Out (function_names i.functions)

  abbrev pub AllWithout : List Summary → Type 0
  AllWithout [] = Unit {0}
  AllWithout (i ∷ is) = Without i × AllWithout is

  all_lets : (is : List Summary) → AllWithout is → Out (lets_all is)
  all_lets [] a = refl
  all_lets (i ∷ is) a = out_both i.lets (lets_all is) a.0.lets (all_lets is a.1)

  first_lets : (is : List Summary) → AllWithout is → Out (lets_first is)
  first_lets [] a = refl
  first_lets (i ∷ is) a = a.0.lets

  first_named : (is : List Summary) → AllWithout is → Out (named_in (first_name is))
  first_named [] a = refl
  first_named (i ∷ is) a = a.0.name

  all_functions : (is : List Summary) → AllWithout is → Out (function_names (functions_all is))
  all_functions [] a = refl
  all_functions (i ∷ is) a = out_functions i.functions (functions_all is) a.0.functions (all_functions is a.1)

  first_functions : (is : List Summary) → AllWithout is → Out (function_names (functions_first is))
  first_functions [] a = refl
  first_functions (i ∷ is) a = a.0.functions

  lets_out : (h : Shape) (xs : List Variable) (is : List Summary) → Out xs → AllWithout is → Out (lets_of h xs is)
  lets_out shape.BindingIdentifier xs is e a = out_front xs e
  lets_out (shape.UnaryExpression LogicalNot) xs is e a = first_lets is a
  lets_out shape.Listed xs is e a = all_lets is a
  lets_out shape.ObjectPattern xs is e a = all_lets is a
  lets_out shape.ArrayPattern xs is e a = all_lets is a
  lets_out (shape.BindingProperty is_shorthand is_computed) xs is e a = all_lets is a
  lets_out shape.RestElement xs is e a = all_lets is a
  lets_out shape.AssignmentPattern xs is e a = first_lets is a
  lets_out shape.VariableDeclarator xs is e a = first_lets is a
  lets_out (shape.VariableDeclaration k) xs is e a = out_chosen (is_lexical k) (lets_first is) (first_lets is a)
  lets_out (shape.Class true) xs is e a = first_lets is a
  lets_out (shape.Class false) xs is e a = refl
  lets_out shape.SwitchCase xs is e a = all_lets is a
  lets_out shape.ExportNamedDeclaration xs is e a = first_lets is a
  lets_out shape.ExportDefaultDeclaration xs is e a = out_class (first_facts (facts_all is)).declared (lets_first is) (first_lets is a)
  lets_out h xs is e a = refl

  name_out : (h : Shape) (xs : List Variable) (is : List Summary) → Out xs → AllWithout is → Out (named_in (name_of h xs is))
  name_out shape.BindingIdentifier xs is e a = out_named xs e
  name_out (shape.UnaryExpression LogicalNot) xs is e a = first_named is a
  name_out h xs is e a = refl

  functions_out : (h : Shape) (n : ℕ) (is : List Summary) → AllWithout is → Out (function_names (functions_of h n is))
  functions_out (shape.Function true g ds) n is a = out_both (named_in (first_name is)) [] (first_named is a) refl
  functions_out (shape.Function false g ds) n is a = refl
  functions_out (shape.UnaryExpression LogicalNot) n is a = first_functions is a
  functions_out shape.Listed n is a = all_functions is a
  functions_out shape.SwitchCase n is a = all_functions is a
  functions_out shape.ExportNamedDeclaration n is a = first_functions is a
  functions_out shape.ExportDefaultDeclaration n is a = first_functions is a
  functions_out h n is a = refl

  pub node_without : (h : Shape) (xs : List Variable) (n : ℕ) (is : List Summary) → Out xs → AllWithout is → Without (summary_of h xs n is)
  node_without h xs n is own all = record { lets = lets_out h xs is own all; name = name_out h xs is own all; functions = functions_out h n is all }

  mutual
    pub without : (t : Tree) → Avoids D t → Without (summary t)
    without (node h xs n ts) a = node_without h (variables xs) n (summaries ts) (out (variables xs) a.0) (all_without ts a.1)

    pub all_without : (ts : Trees) → AllAvoid D ts → AllWithout (summaries ts)
    all_without none a = tt
    all_without (t ▸ ts) a = (without t a.0, all_without ts a.1)

  -- what its node names
  written_out : (h : Shape) (q : Demand) (xs : List Variable) → Out xs → Out (written_of h q xs)
  written_out shape.Identifier Target xs e = e
  written_out shape.BindingIdentifier (Binds lexical) xs e = e
  written_out shape.VariableDeclarator (Declares true) xs e = refl
  written_out shape.VariableDeclarator (Declares false) xs e = e
  written_out shape.VariableDeclarator Heads xs e = e
  written_out h q xs e = refl

  bound_out : (h : Shape) (q : Demand) (is : List Summary) → AllWithout is → Out (bound_of h q is)
  bound_out shape.ObjectPattern (Binds lexical) is a = all_lets is a
  bound_out shape.ArrayPattern (Binds lexical) is a = all_lets is a
  bound_out h q is a = refl

  scope_out : (h : Shape) (is : List Summary) → AllWithout is → Out (scope_of h is)
  scope_out (shape.Program false ds) is a = all_lets is a
  scope_out (shape.Program true ds) is a = out_both (lets_all is) (function_names (functions_all is)) (all_lets is a) (all_functions is a)
  scope_out shape.FunctionBody is a = all_lets is a
  scope_out shape.StaticBlock is a = all_lets is a
  scope_out shape.BlockStatement is a = out_both (lets_all is) (function_names (functions_all is)) (all_lets is a) (all_functions is a)
  scope_out shape.SwitchStatement is a = out_both (lets_all is) (function_names (functions_all is)) (all_lets is a) (all_functions is a)
  scope_out shape.ForStatement is a = first_lets is a
  scope_out shape.ForInStatement is a = first_lets is a
  scope_out shape.ForOfStatement is a = first_lets is a
  scope_out shape.CatchClause is a = first_lets is a
  scope_out h is a = refl

  created_out : (h : Shape) (is : List Summary) → AllWithout is → Out (function_names (created_by h is))
  created_out (shape.Program m ds) is a = all_functions is a
  created_out shape.FunctionBody is a = all_functions is a
  created_out shape.StaticBlock is a = all_functions is a
  created_out shape.BlockStatement is a = all_functions is a
  created_out shape.SwitchStatement is a = all_functions is a
  created_out h is a = refl

  pub spared_by : (h : Shape) (q : Demand) (xs : List Variable) (n : ℕ) (is : List Summary) → Out xs → AllWithout is → SparedBy (Symbol k) (naming h q xs n is)
  spared_by h q xs n is e a = record { written = written_out h q xs e; bound = bound_out h q is a; scope = scope_out h is a; functions = created_out h is a }

  mutual
    pub spares : (t : Tree) → Avoids D t → (q : Demand) → Spares (Symbol k) q t
    spares (node h xs n ts) a q = (spared_by h q (variables xs) n (summaries ts) (out (variables xs) a.0) (all_without ts a.1), all_spare ts a.1 (demand h (facts ts) q))

    pub all_spare : (ts : Trees) → AllAvoid D ts → (σ : ℕ → Demand) → AllSpare (Symbol k) σ ts
    all_spare none a σ = tt
    all_spare (t ▸ ts) a σ = (spares t a.0 (σ 0), all_spare ts a.1 (λ i. σ (suc i)))
