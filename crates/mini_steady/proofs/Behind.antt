-- What begins behind a child of a node, as the code gathers it, is what does.
use Rattle.std.proofs.Common.{◌≡◌, ℕ, zero, suc, Bool, true, false, List, [], Option, Some, None, refl, sym, ap, ◌∙◌, arith}
use Rattle.std.specs.Prelude.{◌&&◌, ◌||◌, ◌==◌, if◌then◌else◌}
use Rattle.std.proofs.lemmas.Bool.{eqb-true}
use Rattle.mini_model.specs.declared.kind.VariableDeclarationKind.{VariableDeclarationKind}
use Rattle.mini_model.specs.declared.kind.VariableDeclarationKind.TheVariants.{Var, Let, Const}
use Rattle.mini_model.specs.declared.name.Name.{Name}
use Rattle.mini_model.specs.declared.name.SymbolId.{SymbolId}
use Rattle.mini_model.specs.declared.operator.UnaryOperator.TheVariants.{LogicalNot}
use Rattle.mini_model.specs.declared.place.Position.{Position}
use Rattle.mini_model.specs.declared.place.Position.TheVariants.{Expr, Stmt, StatementList, BodyList, CommaList, Elsewhere}
use Rattle.mini_model.specs.declared.shape.Shape.{Shape}
use Rattle.mini_model.specs.declared.shape.Shape.TheVariants as shape
use Rattle.mini_model.specs.Tree.{Tree, Trees, node, none, ◌▸◌, children, shape_of, child_or_absent}
use Rattle.mini_laws.specs.Naming.{Summary, AClass, Declared as What, Variables, is_lexical as is_lexical_kind, summary, summaries, first_facts, facts_all, facts_of}
use Rattle.mini_laws.specs.Value.{Variable, Declared, choose, is_in}
use Rattle.mini_rows.specs.Steady.{enters_lexical, Beginning, OfChild, OfHead, OfNone, beginning, nth_lets, lets_as, head_lets, begins_by}
use Rattle.mini_steady.specs.Declarations.{is_listed, is_negation, is_of_child, is_of_head, is_statement_list, is_comma_list, is_catch, is_for, is_for_each, is_lexical_shape, may_begin, is_export, is_lexical, is_lexical_first, lets_in, lets_if, begin_by}
use Rattle.mini_steady.proofs.Letting.{lets_there}

-- ---- where it is declared

apart_by : (b : Bool) (i k : ℕ) → (i == k) ≡ b → (i ≡ k → ⊥) → b ≡ false
apart_by true i k e h = absurd (h (eqb-true i k e))
apart_by false i k e h = refl

apart : (i k : ℕ) → (i ≡ k → ⊥) → (i == k) ≡ false
apart i k h = apart_by (i == k) i k refl h

catch_only : (c : Bool) (p : Position) (i : ℕ) → is_of_child (beginning c shape.CatchClause p i) ≡ (i == 0)
catch_only c p zero = refl
catch_only c p (suc i) = sym (apart (suc i) 0 (λ e. omega (arith, e)))

for_only : (c : Bool) (p : Position) (i : ℕ) → is_of_head (beginning c shape.ForStatement p i) ≡ ((i == 0) || false)
for_only c p zero = refl
for_only c p (suc i) = sym (ap (λ b. b || false) (apart (suc i) 0 (λ e. omega (arith, e))))

in_only : (c : Bool) (p : Position) (i : ℕ) → is_of_head (beginning c shape.ForInStatement p i) ≡ (i == 1)
in_only c p zero = refl
in_only c p (suc zero) = refl
in_only c p (suc (suc i)) = sym (apart (suc (suc i)) 1 (λ e. omega (arith, e)))

of_only : (c : Bool) (p : Position) (i : ℕ) → is_of_head (beginning c shape.ForOfStatement p i) ≡ (i == 1)
of_only c p zero = refl
of_only c p (suc zero) = refl
of_only c p (suc (suc i)) = sym (apart (suc (suc i)) 1 (λ e. omega (arith, e)))

comma_only : (c : Bool) → is_of_child (if c then OfChild else OfNone) ≡ (c || false)
comma_only true = refl
comma_only false = refl

no_head : (c : Bool) → is_of_head (if c then OfChild else OfNone) ≡ false
no_head true = refl
no_head false = refl

pub of_child : (c : Bool) (h : Shape) (p : Position) (i : ℕ) → is_of_child (beginning c h p i) ≡ (is_statement_list h p || ((is_comma_list h p && c) || (is_catch h && (i == 0))))
of_child c shape.Listed CommaList i = comma_only c
of_child c shape.Listed StatementList i = refl
of_child c shape.Listed BodyList i = refl
of_child c shape.CatchClause p i = catch_only c p i
of_child c shape.ForStatement p zero = refl
of_child c shape.ForStatement p (suc i) = refl
of_child c shape.ForInStatement p zero = refl
of_child c shape.ForInStatement p (suc zero) = refl
of_child c shape.ForInStatement p (suc (suc i)) = refl
of_child c shape.ForOfStatement p zero = refl
of_child c shape.ForOfStatement p (suc zero) = refl
of_child c shape.ForOfStatement p (suc (suc i)) = refl
of_child c h p i = refl

pub of_head : (c : Bool) (h : Shape) (p : Position) (i : ℕ) → is_of_head (beginning c h p i) ≡ ((is_for h && (i == 0)) || (is_for_each h && (i == 1)))
of_head c shape.Listed CommaList i = no_head c
of_head c shape.Listed StatementList i = refl
of_head c shape.Listed BodyList i = refl
of_head c shape.CatchClause p zero = refl
of_head c shape.CatchClause p (suc i) = refl
of_head c shape.ForStatement p i = for_only c p i
of_head c shape.ForInStatement p i = in_only c p i
of_head c shape.ForOfStatement p i = of_only c p i
of_head c h p i = refl

-- ---- a list of declarators

lists_kind : (v : VariableDeclarationKind) → is_lexical_kind v ≡ is_lexical_shape (shape.VariableDeclaration v)
lists_kind Var = refl
lists_kind Let = refl
lists_kind Const = refl

and_true : (b : Bool) → b ≡ (b && true)
and_true true = refl
and_true false = refl

and_none : (b : Bool) → false ≡ (b && false)
and_none true = refl
and_none false = refl

and_swap : (a b : Bool) → (a && b) ≡ (b && a)
and_swap true b = and_true b
and_swap false b = and_none b

pub enters_it : (b : Bool) (h : Shape) (p : Position) → enters_lexical b h p ≡ (is_export h || (is_lexical_shape h && may_begin b p))
enters_it b (shape.VariableDeclaration v) (Stmt q) = lists_kind v ∙ and_true (is_lexical_shape (shape.VariableDeclaration v))
enters_it b (shape.VariableDeclaration v) (Expr s) = ap (λ c. s.unused && c) (lists_kind v) ∙ and_swap s.unused (is_lexical_shape (shape.VariableDeclaration v))
enters_it b (shape.VariableDeclaration v) Elsewhere = ap (λ c. b && c) (lists_kind v) ∙ and_swap b (is_lexical_shape (shape.VariableDeclaration v))
enters_it b (shape.VariableDeclaration v) p = and_none (is_lexical_shape (shape.VariableDeclaration v))
enters_it b h p = refl

-- ---- a head that is a `let` or a `const`

pub opened_lexical : (t : Tree) → is_lexical t ≡ (is_lexical_shape (shape_of t) || (is_negation (shape_of t) && is_lexical_first (children t)))
opened_lexical (node h xs n ts) = refl

abbrev lexical_is : Option What → Bool
lexical_is (Some (Variables v)) = is_lexical_kind v
lexical_is o = false

lexical_by_facts : (h : Shape) (is : List Summary) (ts : Trees) (xs : List Name) (n : ℕ) → is_lexical_first ts ≡ lexical_is (first_facts (facts_all is)).declared → is_lexical (node h xs n ts) ≡ lexical_is (facts_of h (facts_all is)).declared
lexical_by_facts (shape.VariableDeclaration Var) is ts xs n e = refl
lexical_by_facts (shape.VariableDeclaration Let) is ts xs n e = refl
lexical_by_facts (shape.VariableDeclaration Const) is ts xs n e = refl
lexical_by_facts (shape.UnaryExpression LogicalNot) is ts xs n e = e
lexical_by_facts (shape.Function true g ds) is ts xs n e = refl
lexical_by_facts (shape.Class true) is ts xs n e = refl
lexical_by_facts h is ts xs n e = refl

mutual
  lexical_there : (t : Tree) → is_lexical t ≡ lexical_is (summary t).facts.declared
  lexical_there (node h xs n ts) = lexical_by_facts h (summaries ts) ts xs n (first_lexical ts)

  first_lexical : (ts : Trees) → is_lexical_first ts ≡ lexical_is (first_facts (facts_all (summaries ts))).declared
  first_lexical none = refl
  first_lexical (t ▸ ts) = lexical_there t

-- ---- what begins

module _ (k : ℕ) where
  abbrev In : List Variable → Bool
  In xs = is_in (Declared k) xs

  chosen : (b : Bool) (ss : List SymbolId) (xs : List Variable) → is_listed k ss ≡ In xs → is_listed k (if b then ss else []) ≡ In (choose b xs [])
  chosen true ss xs f = f
  chosen false ss xs f = refl

  as_lets : (o : Option What) (b : Bool) (ss : List SymbolId) (xs : List Variable) → b ≡ lexical_is o → is_listed k ss ≡ In xs → is_listed k (if b then ss else []) ≡ In (lets_as o xs)
  as_lets (Some (Variables v)) b ss xs e f = ap (λ c. is_listed k (if c then ss else [])) e ∙ chosen (is_lexical_kind v) ss xs f
  as_lets (Some AClass) b ss xs e f = ap (λ c. is_listed k (if c then ss else [])) e
  as_lets None b ss xs e f = ap (λ c. is_listed k (if c then ss else [])) e

  pub head_begins : (ts : Trees) → is_listed k (lets_if (is_lexical (child_or_absent ts 0)) (child_or_absent ts 0)) ≡ In (head_lets (summaries ts))
  head_begins none = refl
  head_begins (t ▸ ts) = as_lets (summary t).facts.declared (is_lexical t) (lets_in t) (summary t).lets (lexical_there t) (lets_there k t)

  child_begins : (ts : Trees) (i : ℕ) → is_listed k (lets_in (child_or_absent ts i)) ≡ In (nth_lets (summaries ts) i)
  child_begins none i = refl
  child_begins (t ▸ ts) zero = lets_there k t
  child_begins (t ▸ ts) (suc i) = child_begins ts i

  pub begins_there : (b : Beginning) (t : Tree) (i : ℕ) → is_listed k (begin_by b t i) ≡ In (begins_by b (summaries (children t)) i)
  begins_there OfChild (node h xs n ts) i = child_begins ts i
  begins_there OfHead (node h xs n ts) i = head_begins ts
  begins_there OfNone t i = refl
