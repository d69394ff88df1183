-- The symbols that a statement declares in the scope around it, as the code gathers them, are those that it lets; and what is begun in a list of statements.
use Rattle.std.proofs.Common.{◌≡◌, ◌≤◌, ℕ, Bool, true, false, List, [], ◌∷◌, length, slice_index_or, Option, Some, None, refl, sym, ap, ◌∙◌}
use Rattle.std.specs.Prelude.{◌&&◌, ◌||◌, ◌++◌, nat_eq, if◌then◌else◌}
use Rattle.std.proofs.lemmas.Bool.{false≢true}
use Rattle.std.proofs.lemmas.List.{append-nil}
use Rattle.mini_model.specs.declared.kind.VariableDeclarationKind.TheVariants.{Var, Let, Const}
use Rattle.mini_model.specs.declared.name.Name.{Name}
use Rattle.mini_model.specs.declared.name.SymbolId.{SymbolId}
use Rattle.mini_model.specs.declared.operator.UnaryOperator.TheVariants.{LogicalNot}
use Rattle.mini_model.specs.declared.shape.Shape.{Shape}
use Rattle.mini_model.specs.declared.shape.Shape.TheVariants as shape
use Rattle.mini_model.specs.Tree.{Tree, Trees, node, none, ◌▸◌, children, shape_of}
use Rattle.mini_laws.specs.Naming.{Summary, AClass, Declared as What, Variables, summary, summaries, lets_all, lets_first as first_lets, lets_of, class_lets, first_facts, facts_all, facts_of, front}
use Rattle.mini_laws.specs.Value.{Variable, Declared, choose, is_in, variable_by, variable_eq, variables}
use Rattle.mini_node.specs.Children.{names, names_of, trees_of}
use Rattle.mini_rows.specs.Past.{is_binding}
use Rattle.mini_steady.specs.Declarations.{symbol_of, symbols_of, is_listed, Lets, Itself, Each, First, OfClass, NoName, lets_at, is_each, is_first, is_of_class, is_class_shape, is_negation, is_class, is_class_first, front_symbols, lets_by, lets_in, lets_among, lets_first}
use Rattle.mini_steady.proofs.Declaring.{either_listed}
use Rattle.mini_steady.proofs.Gathering.{Gathers}
use Rattle.mini_steady.proofs.Rests.{rest_of, opened_list}

-- ---- the list, part by part

pub gathers : Gathers lets_in lets_among
gathers = record { at_none = refl; at_more = λ t ts. refl }

opened : (t : Tree) → lets_in t ≡ lets_by (lets_at (shape_of t)) (is_class_first (children t)) (front_symbols (names_of t)) (lets_among (children t)) (lets_first (children t))
opened (node h xs n ts) = refl

pub opened_class : (t : Tree) → is_class t ≡ (is_class_shape (shape_of t) || (is_negation (shape_of t) && is_class_first (children t)))
opened_class (node h xs n ts) = refl

abbrev is_itself : Lets → Bool
is_itself Itself = true
is_itself l = false

unnamed : (h : Shape) → is_binding h ≡ false → is_itself (lets_at h) ≡ false
unnamed shape.BindingIdentifier e = absurd (false≢true (sym e))
unnamed (shape.UnaryExpression LogicalNot) e = refl
unnamed (shape.VariableDeclaration Let) e = refl
unnamed (shape.VariableDeclaration Const) e = refl
unnamed (shape.Class true) e = refl
unnamed h e = refl

module _ (b : Bool) (own each first : List SymbolId) where
  of_each : (l : Lets) → is_each l ≡ true → lets_by l b own each first ≡ each
  of_each Each e = refl
  of_each l e = absurd (false≢true e)

  of_first : (l : Lets) → is_first l ≡ true → lets_by l b own each first ≡ first
  of_first First e = refl
  of_first l e = absurd (false≢true e)

  of_class : (l : Lets) → is_of_class l ≡ true → b ≡ true → lets_by l b own each first ≡ first
  of_class OfClass e f = ap (λ c. if c then first else []) f
  of_class l e f = absurd (false≢true e)

  by_kind : (l : Lets) → is_itself l ≡ false → is_each l ≡ false → is_first l ≡ false → (is_of_class l && b) ≡ false → lets_by l b own each first ≡ []
  by_kind Itself e f g i = absurd (false≢true (sym e))
  by_kind Each e f g i = absurd (false≢true (sym f))
  by_kind First e f g i = absurd (false≢true (sym g))
  by_kind OfClass e f g i = ap (λ c. if c then first else []) i
  by_kind NoName e f g i = refl

  of_none : (h : Shape) → is_binding h ≡ false → is_each (lets_at h) ≡ false → is_first (lets_at h) ≡ false → (is_of_class (lets_at h) && b) ≡ false → lets_by (lets_at h) b own each first ≡ []
  of_none h e f g i = by_kind (lets_at h) (unnamed h e) f g i

one_front : (o : Option Name) → front_symbols (names o) ≡ symbols_of (names o)
one_front (Some x) = sym (append-nil (symbol_of x.symbol))
one_front None = refl

itself : (h : Shape) (b : Bool) (own each first : List SymbolId) → is_binding h ≡ true → lets_by (lets_at h) b own each first ≡ own
itself shape.BindingIdentifier b own each first e = refl
itself h b own each first e = absurd (false≢true e)

pub by_itself : (t : Tree) (o : Option Name) → is_binding (shape_of t) ≡ true → names o ≡ names_of t → lets_in t ≡ symbols_of (names o)
by_itself t o e f = opened t ∙ itself (shape_of t) (is_class_first (children t)) (front_symbols (names_of t)) (lets_among (children t)) (lets_first (children t)) e ∙ ap front_symbols (sym f) ∙ one_front o

pub by_each : (t : Tree) → is_each (lets_at (shape_of t)) ≡ true → lets_in t ≡ lets_among (children t)
by_each t e = opened t ∙ of_each (is_class_first (children t)) (front_symbols (names_of t)) (lets_among (children t)) (lets_first (children t)) (lets_at (shape_of t)) e

pub by_first : (t : Tree) → is_first (lets_at (shape_of t)) ≡ true → lets_in t ≡ lets_first (children t)
by_first t e = opened t ∙ of_first (is_class_first (children t)) (front_symbols (names_of t)) (lets_among (children t)) (lets_first (children t)) (lets_at (shape_of t)) e

pub by_class : (t : Tree) → is_of_class (lets_at (shape_of t)) ≡ true → is_class_first (children t) ≡ true → lets_in t ≡ lets_first (children t)
by_class t e f = opened t ∙ of_class (is_class_first (children t)) (front_symbols (names_of t)) (lets_among (children t)) (lets_first (children t)) (lets_at (shape_of t)) e f

pub by_nothing : (t : Tree) → is_binding (shape_of t) ≡ false → is_each (lets_at (shape_of t)) ≡ false → is_first (lets_at (shape_of t)) ≡ false → (is_of_class (lets_at (shape_of t)) && is_class_first (children t)) ≡ false → lets_in t ≡ []
by_nothing t e f g i = opened t ∙ of_none (is_class_first (children t)) (front_symbols (names_of t)) (lets_among (children t)) (lets_first (children t)) (shape_of t) e f g i

-- ---- they are what it lets

module _ (k : ℕ) where
  abbrev In : List Variable → Bool
  In xs = is_in (Declared k) xs

  pub as_choose : (a b : Bool) → (a || b) ≡ choose a true b
  as_choose true b = refl
  as_choose false b = refl

  pub in_both : (xs ys : List Variable) → In (xs ++ ys) ≡ choose (In xs) true (In ys)
  in_both [] ys = refl
  in_both (x ∷ xs) ys = by (variable_eq x (Declared k)) (in_both xs ys)
    where
      by : (b : Bool) → In (xs ++ ys) ≡ choose (In xs) true (In ys) → choose b true (In (xs ++ ys)) ≡ choose (choose b true (In xs)) true (In ys)
      by true e = refl
      by false e = e

  one_symbol : (s : List ℕ) (o : Option SymbolId) → is_listed k (symbol_of o) ≡ choose (variable_eq (variable_by s o) (Declared k)) true false
  one_symbol s (Some y) = as_choose (nat_eq y.0 k) false
  one_symbol s None = refl

  front_listed : (xs : List Name) → is_listed k (front_symbols xs) ≡ In (front (variables xs))
  front_listed [] = refl
  front_listed (x ∷ xs) = one_symbol x.spelling x.symbol

  abbrev class_is : Option What → Bool
  class_is (Some AClass) = true
  class_is o = false

  class_either : (o : Option What) (b : Bool) (ss : List SymbolId) (xs : List Variable) → b ≡ class_is o → is_listed k ss ≡ In xs → is_listed k (if b then ss else []) ≡ In (class_lets o xs)
  class_either (Some AClass) b ss xs e f = ap (λ c. is_listed k (if c then ss else [])) e ∙ f
  class_either (Some (Variables v)) b ss xs e f = ap (λ c. is_listed k (if c then ss else [])) e
  class_either None b ss xs e f = ap (λ c. is_listed k (if c then ss else [])) e

  class_by_facts : (h : Shape) (is : List Summary) (b : Bool) → b ≡ class_is (first_facts (facts_all is)).declared → (t : Trees) → is_class_first t ≡ b → (xs : List Name) (n : ℕ) → is_class (node h xs n t) ≡ class_is (facts_of h (facts_all is)).declared
  class_by_facts (shape.Class true) is b e t f xs n = refl
  class_by_facts (shape.UnaryExpression LogicalNot) is b e t f xs n = f ∙ e
  class_by_facts (shape.Function true g ds) is b e t f xs n = refl
  class_by_facts h is b e t f xs n = refl

  mutual
    class_there : (t : Tree) → is_class t ≡ class_is (summary t).facts.declared
    class_there (node h xs n ts) = class_by_facts h (summaries ts) (is_class_first ts) (class_first ts) ts refl xs n

    class_first : (ts : Trees) → is_class_first ts ≡ class_is (first_facts (facts_all (summaries ts))).declared
    class_first none = refl
    class_first (t ▸ ts) = class_there t

  node_lets : (h : Shape) (xs : List Name) (ts : Trees) → is_listed k (lets_among ts) ≡ In (lets_all (summaries ts)) → is_listed k (lets_first ts) ≡ In (first_lets (summaries ts)) → is_listed k (lets_by (lets_at h) (is_class_first ts) (front_symbols xs) (lets_among ts) (lets_first ts)) ≡ In (lets_of h (variables xs) (summaries ts))
  node_lets shape.BindingIdentifier xs ts a f = front_listed xs
  node_lets shape.Listed xs ts a f = a
  node_lets shape.ObjectPattern xs ts a f = a
  node_lets shape.ArrayPattern xs ts a f = a
  node_lets (shape.BindingProperty s c) xs ts a f = a
  node_lets shape.RestElement xs ts a f = a
  node_lets shape.SwitchCase xs ts a f = a
  node_lets (shape.UnaryExpression LogicalNot) xs ts a f = f
  node_lets shape.AssignmentPattern xs ts a f = f
  node_lets shape.VariableDeclarator xs ts a f = f
  node_lets (shape.VariableDeclaration Var) xs ts a f = refl
  node_lets (shape.VariableDeclaration Let) xs ts a f = f
  node_lets (shape.VariableDeclaration Const) xs ts a f = f
  node_lets (shape.Class true) xs ts a f = f
  node_lets shape.ExportNamedDeclaration xs ts a f = f
  node_lets shape.ExportDefaultDeclaration xs ts a f = class_either (first_facts (facts_all (summaries ts))).declared (is_class_first ts) (lets_first ts) (first_lets (summaries ts)) (class_first ts) f
  node_lets h xs ts a f = refl

  mutual
    pub lets_there : (t : Tree) → is_listed k (lets_in t) ≡ In (summary t).lets
    lets_there (node h xs n ts) = node_lets h xs ts (all_lets ts) (first_there ts)

    all_lets : (ts : Trees) → is_listed k (lets_among ts) ≡ In (lets_all (summaries ts))
    all_lets none = refl
    all_lets (t ▸ ts) = either_listed k (lets_in t) (lets_among ts) ∙ as_choose (is_listed k (lets_in t)) (is_listed k (lets_among ts)) ∙ (λ i. choose (lets_there t i) true (all_lets ts i)) ∙ sym (in_both (summary t).lets (lets_all (summaries ts)))

    first_there : (ts : Trees) → is_listed k (lets_first ts) ≡ In (first_lets (summaries ts))
    first_there none = refl
    first_there (t ▸ ts) = lets_there t

-- ---- one symbol among them

module _ (k : ℕ) where
  or_none : (b : Bool) → (b || false) ≡ b
  or_none true = refl
  or_none false = refl

  pub some_listed : (x : Name) (s : SymbolId) → x.symbol ≡ Some s → is_listed k (symbols_of (x ∷ [])) ≡ nat_eq s.0 k
  some_listed x s e = ap (λ o. is_listed k (symbol_of o ++ [])) e ∙ or_none (nat_eq s.0 k)

  pub none_listed : (x : Name) → x.symbol ≡ None → is_listed k (symbols_of (x ∷ [])) ≡ false
  none_listed x e = ap (λ o. is_listed k (symbol_of o ++ [])) e

  pub listed_itself : (t : Tree) (o : Option Name) → is_binding (shape_of t) ≡ true → names o ≡ names_of t → is_listed k (lets_in t) ≡ is_listed k (symbols_of (names o))
  listed_itself t o e f = ap (is_listed k) (by_itself t o e f)

  pub listed_each : (t : Tree) → is_each (lets_at (shape_of t)) ≡ true → is_listed k (lets_in t) ≡ is_listed k (lets_among (children t))
  listed_each t e = ap (is_listed k) (by_each t e)

  pub listed_first : (t : Tree) → is_first (lets_at (shape_of t)) ≡ true → is_listed k (lets_in t) ≡ is_listed k (lets_first (children t))
  listed_first t e = ap (is_listed k) (by_first t e)

  pub listed_class : (t : Tree) → is_of_class (lets_at (shape_of t)) ≡ true → is_class_first (children t) ≡ true → is_listed k (lets_in t) ≡ is_listed k (lets_first (children t))
  listed_class t e f = ap (is_listed k) (by_class t e f)

  pub listed_nothing : (t : Tree) → is_binding (shape_of t) ≡ false → is_each (lets_at (shape_of t)) ≡ false → is_first (lets_at (shape_of t)) ≡ false → (is_of_class (lets_at (shape_of t)) && is_class_first (children t)) ≡ false → is_listed k (lets_in t) ≡ false
  listed_nothing t e f g i = ap (is_listed k) (by_nothing t e f g i)

  pub listed_more : (t : Tree) (ts : Trees) → is_listed k (lets_among (t ▸ ts)) ≡ (is_listed k (lets_in t) || is_listed k (lets_among ts))
  listed_more t ts = either_listed k (lets_in t) (lets_among ts)

  pub listed_rest : (xs : List Tree) (x : Tree) (b : Bool) → 1 ≤ length xs → x ≡ slice_index_or xs 0 x → false ≡ is_listed k (lets_in x) → b ≡ is_listed k (lets_among (rest_of xs)) → b ≡ is_listed k (lets_among (trees_of xs))
  listed_rest xs x b h e f g = g ∙ ap (λ c. c || is_listed k (lets_among (rest_of xs))) f ∙ sym (listed_more x (rest_of xs)) ∙ sym (ap (λ ts. is_listed k (lets_among ts)) (opened_list xs x h e))
