-- The symbols that a body declares, as a list, and what so is known in it.
use Rattle.std.specs.Prelude.{ℕ, Bool, true, false, not, ◌&&◌, ◌||◌, nat_eq, List, [], ◌∷◌, ◌++◌, Option, Some, None, if◌then◌else◌}
use Rattle.mini_model.specs.declared.name.Name.{Name}
use Rattle.mini_model.specs.declared.name.SymbolId.{SymbolId}
use Rattle.mini_model.specs.declared.kind.VariableDeclarationKind.TheVariants.{Let, Const}
use Rattle.mini_model.specs.declared.operator.UnaryOperator.TheVariants.{LogicalNot}
use Rattle.mini_model.specs.declared.shape.Shape.{Shape}
use Rattle.mini_model.specs.declared.shape.Shape.TheVariants as shape
use Rattle.mini_model.specs.declared.place.Position.{Position}
use Rattle.mini_model.specs.declared.place.Position.TheVariants.{Expr, Stmt, StatementList, BodyList, CommaList, Elsewhere}
use Rattle.mini_model.specs.Tree.{Tree, Trees, node, none, ◌▸◌, shape_of}
use Rattle.mini_laws.specs.Value.{Declared, Global, VariableSet}
use Rattle.mini_kept.specs.Without.{Assured, BodySets}
use Rattle.mini_rows.specs.Past.{is_binding}
use Rattle.mini_rows.specs.Steady.{Symbols, Begun, Beginning, OfChild, OfHead, OfNone, beginning}
use Rattle.mini_node.specs.Children.{part}
use Rattle.mini_steady.specs.declared.code.BodyCode.{BodyCode}

-- the symbols of some names
abbrev pub symbol_of : Option SymbolId → List SymbolId
symbol_of (Some s) = s ∷ []
symbol_of None = []

abbrev pub symbols_of : List Name → List SymbolId
symbols_of [] = []
symbols_of (x ∷ xs) = symbol_of x.symbol ++ symbols_of xs

abbrev pub own_symbols : Bool → List Name → List SymbolId
own_symbols true xs = symbols_of xs
own_symbols false xs = []

-- of those that are declared in a tree
abbrev mutual
  pub declared_in : Tree → List SymbolId
  declared_in (node h xs n ts) = own_symbols (is_binding h) xs ++ declared_among ts

  pub declared_among : Trees → List SymbolId
  declared_among none = []
  declared_among (t ▸ ts) = declared_in t ++ declared_among ts

abbrev pub is_listed : ℕ → List SymbolId → Bool
is_listed k [] = false
is_listed k (s ∷ ss) = nat_eq s.0 k || is_listed k ss

abbrev pub is_listed_twice : ℕ → List SymbolId → Bool
is_listed_twice k [] = false
is_listed_twice k (s ∷ ss) = if nat_eq s.0 k then is_listed k ss else is_listed_twice k ss

-- ---- of those that a statement declares in the scope around it (ECMA-262, "LexicallyDeclaredNames", "BoundNames")

-- where they stand
pub data Lets : Type 0 where
  Itself : Lets
  Each : Lets
  First : Lets
  OfClass : Lets
  NoName : Lets

abbrev pub lets_at : Shape → Lets
lets_at shape.BindingIdentifier = Itself
lets_at shape.Listed = Each
lets_at shape.ObjectPattern = Each
lets_at shape.ArrayPattern = Each
lets_at (shape.BindingProperty is_shorthand is_computed) = Each
lets_at shape.RestElement = Each
lets_at shape.SwitchCase = Each
lets_at (shape.UnaryExpression LogicalNot) = First
lets_at shape.AssignmentPattern = First
lets_at shape.VariableDeclarator = First
lets_at (shape.VariableDeclaration Let) = First
lets_at (shape.VariableDeclaration Const) = First
lets_at (shape.Class true) = First
lets_at shape.ExportNamedDeclaration = First
lets_at shape.ExportDefaultDeclaration = OfClass
lets_at h = NoName

abbrev pub is_each : Lets → Bool
is_each Each = true
is_each l = false

abbrev pub is_first : Lets → Bool
is_first First = true
is_first l = false

abbrev pub is_of_class : Lets → Bool
is_of_class OfClass = true
is_of_class l = false

-- a class that is declared
abbrev pub is_class_shape : Shape → Bool
is_class_shape (shape.Class true) = true
is_class_shape h = false

-- a `!` is read as its operand
abbrev pub is_negation : Shape → Bool
is_negation (shape.UnaryExpression LogicalNot) = true
is_negation h = false

abbrev mutual
  pub is_class : Tree → Bool
  is_class (node h xs n ts) = is_class_shape h || (is_negation h && is_class_first ts)

  pub is_class_first : Trees → Bool
  is_class_first none = false
  is_class_first (t ▸ ts) = is_class t

abbrev pub front_symbols : List Name → List SymbolId
front_symbols [] = []
front_symbols (x ∷ xs) = symbol_of x.symbol

abbrev pub lets_by : Lets → Bool → List SymbolId → List SymbolId → List SymbolId → List SymbolId
lets_by Itself is_class own each first = own
lets_by Each is_class own each first = each
lets_by First is_class own each first = first
lets_by OfClass is_class own each first = if is_class then first else []
lets_by NoName is_class own each first = []

abbrev mutual
  pub lets_in : Tree → List SymbolId
  lets_in (node h xs n ts) = lets_by (lets_at h) (is_class_first ts) (front_symbols xs) (lets_among ts) (lets_first ts)

  pub lets_among : Trees → List SymbolId
  lets_among none = []
  lets_among (t ▸ ts) = lets_in t ++ lets_among ts

  pub lets_first : Trees → List SymbolId
  lets_first none = []
  lets_first (t ▸ ts) = lets_in t

-- where that is asked
abbrev pub lets_if : Bool → Tree → List SymbolId
lets_if b t = if b then lets_in t else []

-- ---- of those that begin behind a child

abbrev pub is_of_child : Beginning → Bool
is_of_child OfChild = true
is_of_child b = false

abbrev pub is_of_head : Beginning → Bool
is_of_head OfHead = true
is_of_head b = false

abbrev pub is_statement_list : Shape → Position → Bool
is_statement_list shape.Listed StatementList = true
is_statement_list shape.Listed BodyList = true
is_statement_list h p = false

-- a list of other parts with commas between them
abbrev pub is_comma_list : Shape → Position → Bool
is_comma_list shape.Listed CommaList = true
is_comma_list h p = false

abbrev pub is_catch : Shape → Bool
is_catch shape.CatchClause = true
is_catch h = false

abbrev pub is_for : Shape → Bool
is_for shape.ForStatement = true
is_for h = false

-- a `for..in` or a `for..of`
abbrev pub is_for_each : Shape → Bool
is_for_each shape.ForInStatement = true
is_for_each shape.ForOfStatement = true
is_for_each h = false

-- a `let` or a `const`; a `!` is read as its operand
abbrev pub is_lexical_shape : Shape → Bool
is_lexical_shape (shape.VariableDeclaration Let) = true
is_lexical_shape (shape.VariableDeclaration Const) = true
is_lexical_shape h = false

-- where a declaration is a statement, the head of a `for`, or exported, if the node stands in an
-- export
abbrev pub may_begin : Bool → Position → Bool
may_begin b (Stmt q) = true
may_begin b (Expr s) = s.unused
may_begin b Elsewhere = b
may_begin b p = false

-- an export of a declaration, or of names
abbrev pub is_export : Shape → Bool
is_export shape.ExportNamedDeclaration = true
is_export h = false

abbrev mutual
  pub is_lexical : Tree → Bool
  is_lexical (node h xs n ts) = is_lexical_shape h || (is_negation h && is_lexical_first ts)

  pub is_lexical_first : Trees → Bool
  is_lexical_first none = false
  is_lexical_first (t ▸ ts) = is_lexical t

abbrev pub begin_by : Beginning → Tree → ℕ → List SymbolId
begin_by OfChild t i = lets_in (part t i)
begin_by OfHead t i = lets_if (is_lexical (part t 0)) (part t 0)
begin_by OfNone t i = []

-- behind the child at an index of a node at a place, which may be the list of a `let` or a `const`
abbrev pub begin_in : Bool → Position → Tree → ℕ → List SymbolId
begin_in b p t i = begin_by (beginning b (shape_of t) p i) t i

-- ---- what is known

-- the symbols that are begun, if the code declares them once, and the variables of X that no scope
-- there declares
abbrev pub unlisted : List SymbolId → Symbols → VariableSet → VariableSet
unlisted ss L X (Declared k) = (L k && not (is_listed_twice k ss)) || (X (Declared k) && not (is_listed k ss))
unlisted ss L X (Global s) = false

-- what is known in the body, of which S says what is known of it, where L is begun
abbrev pub known_there : BodySets → BodyCode → Begun → Assured
known_there S c L = record (S c.number) { initial = unlisted c.declared.items L.symbols (S c.number).initial }

-- what is begun in its code
abbrev pub begun_by : BodyCode → Begun
begun_by c = record { symbols = λ k. is_listed k c.begun.items; in_lexical = c.in_lexical }

abbrev pub known_of : BodySets → BodyCode → Assured
known_of S c = known_there S c (begun_by c)
