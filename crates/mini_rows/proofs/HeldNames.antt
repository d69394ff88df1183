-- The lexical names of statements pass a test where each that they bind does.
use Rattle.std.proofs.Common.{◌≡◌, ℕ, Bool, true, false, List, [], ◌∷◌, ◌++◌, Option, Some, None, refl, sym, ap, ◌∙◌, subst, true≢false}
use Rattle.std.proofs.lemmas.Bool.{and_parts, eqb-true}
use Rattle.std.specs.Prelude.{◌&&◌, nat_eq}
use Rattle.mini_model.specs.declared.kind.VariableDeclarationKind.TheVariants.{Var, Let, Const}
use Rattle.mini_model.specs.declared.name.Name.{Name}
use Rattle.mini_model.specs.declared.name.SymbolId.{SymbolId}
use Rattle.mini_model.specs.declared.operator.UnaryOperator.TheVariants.{LogicalNot}
use Rattle.mini_model.specs.declared.shape.Shape.TheVariants as shape
use Rattle.mini_model.specs.Tree.{Tree, Trees, node, none, ◌▸◌}
use Rattle.mini_laws.specs.declared.names.Declared.TheVariants as declared
use Rattle.mini_laws.specs.DeclaredNames.{names_of, first_names, all_names}
use Rattle.mini_laws.specs.Value.{Variable, Declared, Global, VariableSet, choose, is_in, variable_of, variable_by, variables}
use Rattle.mini_laws.specs.Naming.{Declared as DeclaredBy, AClass, Variables, facts_all, first_facts, class_lets, front, is_lexical, lets_all, lets_first, functions_all, function_facts, summary, summaries, facts}
use Rattle.mini_rows.specs.Cases.{ended}
use Rattle.mini_rows.specs.Lexical.{is_of, is_of_by, all_pass, binds_only, all_bind_only, first_binds_only, is_held, are_held}

abbrev pub AllOf : (Variable → Type 0) → List Variable → Type 0
AllOf Q [] = Unit {0}
AllOf Q (x ∷ xs) = Q x × AllOf Q xs

all_of_both : (Q : Variable → Type 0) (xs ys : List Variable) → AllOf Q xs → AllOf Q ys → AllOf Q (xs ++ ys)
all_of_both Q [] ys a b = b
all_of_both Q (x ∷ xs) ys a b = (a.0, all_of_both Q xs ys a.1 b)

pub pass_both : (P : Name → Bool) (xs ys : List Name) → all_pass P xs ≡ true → all_pass P ys ≡ true → all_pass P (xs ++ ys) ≡ true
pass_both P [] ys a b = b
pass_both P (x ∷ xs) ys a b = let (first, rest) = and_parts (P x) (all_pass P xs) a in ap (λ c. c && all_pass P (xs ++ ys)) first ∙ pass_both P xs ys rest b

-- ---- what a scope takes for its names

module _ (P : Name → Bool) (Q : Variable → Type 0) (f : (y : Name) → P y ≡ true → Q (variable_of y)) where
  own_front : (xs : List Name) → all_pass P xs ≡ true → AllOf Q (front (variables xs))
  own_front [] e = tt
  own_front (x ∷ xs) e = (f x (and_parts (P x) (all_pass P xs) e).0, tt)

  chosen : (b : Bool) (xs : List Variable) → AllOf Q xs → AllOf Q (choose b xs [])
  chosen true xs a = a
  chosen false xs a = tt

  of_class : (xs : List Variable) (k : Option DeclaredBy) → AllOf Q xs → AllOf Q (class_lets k xs)
  of_class xs (Some AClass) a = a
  of_class xs (Some (Variables k)) a = tt
  of_class xs None a = tt

  mutual
    pub lets_pass : (t : Tree) → binds_only P t ≡ true → AllOf Q (summary t).lets
    lets_pass (node shape.BindingIdentifier xs n ts) e = own_front xs e
    lets_pass (node shape.Listed xs n ts) e = all_lets_pass ts e
    lets_pass (node shape.ObjectPattern xs n ts) e = all_lets_pass ts e
    lets_pass (node shape.ArrayPattern xs n ts) e = all_lets_pass ts e
    lets_pass (node (shape.BindingProperty s c) xs n ts) e = all_lets_pass ts e
    lets_pass (node shape.RestElement xs n ts) e = all_lets_pass ts e
    lets_pass (node shape.AssignmentPattern xs n ts) e = front_lets_pass ts e
    lets_pass (node (shape.VariableDeclaration k) xs n ts) e = chosen (is_lexical k) (lets_first (summaries ts)) (front_lets_pass ts e)
    lets_pass (node shape.SwitchCase xs n ts) e = all_lets_pass ts e
    lets_pass (node shape.VariableDeclarator xs n ts) e = first_lets_pass ts e
    lets_pass (node (shape.Class true) xs n ts) e = first_lets_pass ts e
    lets_pass (node shape.ExportNamedDeclaration xs n ts) e = first_lets_pass ts e
    lets_pass (node shape.ExportDefaultDeclaration xs n ts) e = of_class (lets_first (summaries ts)) (first_facts (facts_all (summaries ts))).declared (first_lets_pass ts e)
    lets_pass (node (shape.UnaryExpression LogicalNot) xs n ts) e = first_lets_pass ts e
    lets_pass (node h xs n ts) e = tt

    all_lets_pass : (ts : Trees) → all_bind_only P ts ≡ true → AllOf Q (lets_all (summaries ts))
    all_lets_pass none e = tt
    all_lets_pass (t ▸ ts) e = let (first, rest) = and_parts (binds_only P t) (all_bind_only P ts) e in all_of_both Q (summary t).lets (lets_all (summaries ts)) (lets_pass t first) (all_lets_pass ts rest)

    first_lets_pass : (ts : Trees) → first_binds_only P ts ≡ true → AllOf Q (lets_first (summaries ts))
    first_lets_pass none e = tt
    first_lets_pass (t ▸ ts) e = lets_pass t e

    front_lets_pass : (ts : Trees) → all_bind_only P ts ≡ true → AllOf Q (lets_first (summaries ts))
    front_lets_pass none e = tt
    front_lets_pass (t ▸ ts) e = lets_pass t (and_parts (binds_only P t) (all_bind_only P ts) e).0

  -- ---- of statements

  record Reads (t : Tree) : Type 0 where
    lets : AllOf Q (summary t).lets
    functions : (summary t).functions ≡ []
    facts : (summary t).facts.functions ≡ []

  reads_one : (t : Tree) → is_held P t ≡ true → Reads t
  reads_one (node shape.ExpressionStatement xs n ts) h = record { lets = tt; functions = refl; facts = refl }
  reads_one (node shape.EmptyStatement xs n ts) h = record { lets = tt; functions = refl; facts = refl }
  reads_one (node shape.DebuggerStatement xs n ts) h = record { lets = tt; functions = refl; facts = refl }
  reads_one (node shape.BlockStatement xs n ts) h = record { lets = tt; functions = refl; facts = refl }
  reads_one (node shape.LabeledStatement xs n ts) h = record { lets = tt; functions = refl; facts = refl }
  reads_one (node shape.BreakStatement xs n ts) h = record { lets = tt; functions = refl; facts = refl }
  reads_one (node shape.ContinueStatement xs n ts) h = record { lets = tt; functions = refl; facts = refl }
  reads_one (node shape.ReturnStatement xs n ts) h = record { lets = tt; functions = refl; facts = refl }
  reads_one (node shape.ThrowStatement xs n ts) h = record { lets = tt; functions = refl; facts = refl }
  reads_one (node shape.IfStatement xs n ts) h = record { lets = tt; functions = refl; facts = refl }
  reads_one (node shape.SwitchStatement xs n ts) h = record { lets = tt; functions = refl; facts = refl }
  reads_one (node shape.TryStatement xs n ts) h = record { lets = tt; functions = refl; facts = refl }
  reads_one (node shape.WhileStatement xs n ts) h = record { lets = tt; functions = refl; facts = refl }
  reads_one (node shape.DoWhileStatement xs n ts) h = record { lets = tt; functions = refl; facts = refl }
  reads_one (node shape.ForStatement xs n ts) h = record { lets = tt; functions = refl; facts = refl }
  reads_one (node shape.ForInStatement xs n ts) h = record { lets = tt; functions = refl; facts = refl }
  reads_one (node shape.ForOfStatement xs n ts) h = record { lets = tt; functions = refl; facts = refl }
  reads_one (node (shape.VariableDeclaration Var) xs n ts) h = record { lets = tt; functions = refl; facts = refl }
  reads_one (node (shape.VariableDeclaration Let) xs n ts) h = record { lets = lets_pass (node (shape.VariableDeclaration Let) xs n ts) h; functions = refl; facts = refl }
  reads_one (node (shape.VariableDeclaration Const) xs n ts) h = record { lets = lets_pass (node (shape.VariableDeclaration Const) xs n ts) h; functions = refl; facts = refl }
  reads_one (node (shape.Class true) xs n ts) h = record { lets = lets_pass (node (shape.Class true) xs n ts) h; functions = refl; facts = refl }
  reads_one t h = absurd (true≢false (sym h))

-- the lexical names of statements
abbrev pub names_in : Trees → List Variable
names_in ts = lets_all (summaries ts)

pub record HeldNames (Q : Variable → Type 0) (ts : Trees) : Type 0 where
  pub all : AllOf Q (names_in ts)
  pub functions : functions_all (summaries ts) ≡ []
  pub facts : function_facts (facts ts) ≡ []

pub held_names : (P : Name → Bool) (Q : Variable → Type 0) → ((y : Name) → P y ≡ true → Q (variable_of y)) → (ts : Trees) → are_held P ts ≡ true → HeldNames Q ts
held_names P Q f none h = record { all = tt; functions = refl; facts = refl }
held_names P Q f (t ▸ ts) h =
    let (first, rest) = and_parts (is_held P t) (are_held P ts) h in
    let one = reads_one P Q f t first in
    let others = held_names P Q f ts rest in
    record { all = all_of_both Q (summary t).lets (names_in ts) one.lets others.all; functions = (λ i. one.functions i ++ others.functions i); facts = (λ i. one.facts i ++ others.facts i) }

-- with a `break;` after them they are the same
pub ended_names : (b : Bool) (ts : Trees) → names_in (ended b ts) ≡ names_in ts
ended_names false ts = refl
ended_names true none = refl
ended_names true (t ▸ ts) = ap (λ xs. (summary t).lets ++ xs) (ended_names true ts)

pub ended_functions : (b : Bool) (ts : Trees) → functions_all (summaries (ended b ts)) ≡ functions_all (summaries ts)
ended_functions false ts = refl
ended_functions true none = refl
ended_functions true (t ▸ ts) = ap (λ xs. (summary t).functions ++ xs) (ended_functions true ts)

pub ended_facts : (b : Bool) (ts : Trees) → function_facts (facts (ended b ts)) ≡ function_facts (facts ts)
ended_facts false ts = refl
ended_facts true none = refl
ended_facts true (t ▸ ts) = ap (λ xs. (summary t).facts.functions ++ xs) (ended_facts true ts)

-- ---- declared variables of a set

abbrev pub Is : VariableSet → Variable → Type 0
Is V (Declared k) = V (Declared k) ≡ true
Is V (Global s) = ⊥

pub is_of_is : (V : VariableSet) (y : Name) → is_of V y ≡ true → Is V (variable_of y)
is_of_is V y e = by y.symbol e
  where
    by : (s : Option SymbolId) → is_of_by V s ≡ true → Is V (variable_by y.spelling s)
    by None e = absurd (true≢false (sym e))
    by (Some s) e = e

abbrev pub Covered : VariableSet → List Variable → Type 0
Covered V xs = (x : Variable) → is_in x xs ≡ true → V x ≡ true

-- what holds of each holds of what is in them
pub in_all : (Q : Variable → Type 0) → ((s : List ℕ) → Q (Global s) → ⊥) → (xs : List Variable) → AllOf Q xs → (x : Variable) → is_in x xs ≡ true → Q x
in_all Q g [] a x e = absurd (true≢false (sym e))
in_all Q g (Global s ∷ xs) a x e = absurd (g s a.0)
in_all Q g (Declared k ∷ xs) a (Global s) e = in_all Q g xs a.1 (Global s) e
in_all Q g (Declared k ∷ xs) a (Declared m) e = by (nat_eq k m) refl e (in_all Q g xs a.1 (Declared m))
  where
    by : (b : Bool) → nat_eq k m ≡ b → choose b true (is_in (Declared m) xs) ≡ true → (is_in (Declared m) xs ≡ true → Q (Declared m)) → Q (Declared m)
    by true u e h = subst (λ j. Q (Declared j)) (eqb-true k m u) a.0
    by false u e h = h e

pub covered : (V : VariableSet) (xs : List Variable) → AllOf (Is V) xs → Covered V xs
covered V xs a x e = by x (in_all (Is V) (λ s f. f) xs a x e)
  where
    by : (x : Variable) → Is V x → V x ≡ true
    by (Declared k) h = h
    by (Global s) h = absurd h

-- ---- the names that are declared

module _ (P : Name → Bool) where
  mutual
    unfolding names_of

    bound_pass : (t : Tree) → binds_only P t ≡ true → all_pass P (names_of declared.Bound t) ≡ true
    bound_pass (node shape.BindingIdentifier xs n ts) e = e
    bound_pass (node shape.VariableDeclarator xs n ts) e = first_pass ts e
    bound_pass (node shape.Listed xs n ts) e = all_bound_pass ts e
    bound_pass (node shape.ObjectPattern xs n ts) e = all_bound_pass ts e
    bound_pass (node shape.ArrayPattern xs n ts) e = all_bound_pass ts e
    bound_pass (node (shape.BindingProperty s c) xs n ts) e = all_bound_pass ts e
    bound_pass (node shape.RestElement xs n ts) e = all_bound_pass ts e
    bound_pass (node shape.AssignmentPattern xs n ts) e = all_bound_pass ts e
    bound_pass (node shape.ImportSpecifier xs n ts) e = all_bound_pass ts e
    bound_pass (node shape.ImportDefaultSpecifier xs n ts) e = all_bound_pass ts e
    bound_pass (node shape.ImportNamespaceSpecifier xs n ts) e = all_bound_pass ts e
    bound_pass (node h xs n ts) e = refl

    first_pass : (ts : Trees) → first_binds_only P ts ≡ true → all_pass P (first_names ts) ≡ true
    first_pass none e = refl
    first_pass (t ▸ ts) e = bound_pass t e

    all_bound_pass : (ts : Trees) → all_bind_only P ts ≡ true → all_pass P (all_names declared.Bound ts) ≡ true
    all_bound_pass none e = refl
    all_bound_pass (t ▸ ts) e = let (first, rest) = and_parts (binds_only P t) (all_bind_only P ts) e in pass_both P (names_of declared.Bound t) (all_names declared.Bound ts) (bound_pass t first) (all_bound_pass ts rest)

  lexical_pass : (t : Tree) → is_held P t ≡ true → all_pass P (names_of declared.Lexical t) ≡ true
  unfolding names_of
  lexical_pass (node shape.ExpressionStatement xs n ts) h = refl
  lexical_pass (node shape.EmptyStatement xs n ts) h = refl
  lexical_pass (node shape.DebuggerStatement xs n ts) h = refl
  lexical_pass (node shape.BlockStatement xs n ts) h = refl
  lexical_pass (node shape.LabeledStatement xs n ts) h = refl
  lexical_pass (node shape.BreakStatement xs n ts) h = refl
  lexical_pass (node shape.ContinueStatement xs n ts) h = refl
  lexical_pass (node shape.ReturnStatement xs n ts) h = refl
  lexical_pass (node shape.ThrowStatement xs n ts) h = refl
  lexical_pass (node shape.IfStatement xs n ts) h = refl
  lexical_pass (node shape.SwitchStatement xs n ts) h = refl
  lexical_pass (node shape.TryStatement xs n ts) h = refl
  lexical_pass (node shape.WhileStatement xs n ts) h = refl
  lexical_pass (node shape.DoWhileStatement xs n ts) h = refl
  lexical_pass (node shape.ForStatement xs n ts) h = refl
  lexical_pass (node shape.ForInStatement xs n ts) h = refl
  lexical_pass (node shape.ForOfStatement xs n ts) h = refl
  lexical_pass (node (shape.VariableDeclaration Var) xs n ts) h = refl
  lexical_pass (node (shape.VariableDeclaration Let) xs n ts) h = all_bound_pass ts h
  lexical_pass (node (shape.VariableDeclaration Const) xs n ts) h = all_bound_pass ts h
  lexical_pass (node (shape.Class true) xs n ts) h = first_pass ts h
  lexical_pass t h = absurd (true≢false (sym h))

  pub lexicals_pass : (ts : Trees) → are_held P ts ≡ true → all_pass P (all_names declared.Lexical ts) ≡ true
  unfolding names_of
  lexicals_pass none h = refl
  lexicals_pass (t ▸ ts) h = let (first, rest) = and_parts (is_held P t) (are_held P ts) h in pass_both P (names_of declared.Lexical t) (all_names declared.Lexical ts) (lexical_pass t first) (lexicals_pass ts rest)
