-- 70: `let a; a = 1;` becomes `let a = 1;`, and `let a; return a = 1, b;` becomes
-- `let a = 1; return b;`, where a can be written.
use Rattle.std.specs.Prelude.{◌≡◌, ℤ, zero, suc, pos, Bool, true, false, not, ◌&&◌, List, [], ◌∷◌, Option, Some, None}
use Rattle.mini_model.specs.declared.kind.VariableDeclarationKind.TheVariants.{Let}
use Rattle.mini_model.specs.declared.name.Name.{Name}
use Rattle.mini_model.specs.declared.name.SymbolId.{SymbolId}
use Rattle.mini_model.specs.declared.operator.UnaryOperator.{UnaryOperator}
use Rattle.mini_model.specs.declared.operator.UnaryOperator.TheVariants.{Void, LogicalNot}
use Rattle.mini_model.specs.declared.place.Position.{Position}
use Rattle.mini_model.specs.declared.place.Position.TheVariants.{StatementList, BodyList}
use Rattle.mini_model.specs.declared.shape.Shape.{Shape}
use Rattle.mini_model.specs.declared.shape.Shape.TheVariants as shape
use Rattle.mini_model.specs.Tree.{Tree, Trees, none, ◌▸◌, shape_of, children, absent, listed}
use Rattle.mini_model.specs.Paths.{append}
use Rattle.mini_laws.specs.Value.{Declared, Global, VariableSet}
use Rattle.mini_laws.specs.Writable.{writable_in}
use Rattle.mini_node.specs.Children.{part, with_part, is_bare, names_of}
use Rattle.mini_node.specs.Kinds.{number, unary_operator}
use Rattle.mini_tree.specs.declared.options.CompressOptions.{CompressOptions}
use Rattle.mini_tree.specs.Rule as rule
use Rattle.mini_context.specs.Facts.{Facts}
use Rattle.mini_context.specs.Tables.{mark_at}
use Rattle.mini_rows.specs.DeadLexicals.{Row77Lexical}
use Rattle.mini_rows.specs.Lets.{Row70Let, LetRow, LetContracts}
use Rattle.mini_rows.specs.Lists.{declaration, InList}
use Rattle.mini_stmt.specs.JoinAssignments.{declares_bare, beginning_of, assigns_first, left_of}
use Rattle.mini_stmt.specs.JoinGuards.{last_after}
use Rattle.mini_stmt.specs.JoinVars.{declares}

-- ---- a value that is written out

abbrev pub is_zero : Option ℤ → Bool
is_zero (Some (pos zero)) = true
is_zero _ = false

abbrev pub is_digit : Option ℤ → Bool
is_digit (Some (pos zero)) = true
is_digit (Some (pos (suc zero))) = true
is_digit _ = false

-- `void 0`, `!0` and `!1`
abbrev pub is_over_digit : Option UnaryOperator → Tree → Bool
is_over_digit (Some Void) a = is_zero (number a)
is_over_digit (Some LogicalNot) a = is_digit (number a)
is_over_digit _ a = false

abbrev pub is_known_by : Shape → Tree → Bool
is_known_by (shape.NumericLiteral n) t = is_bare t 0
is_known_by (shape.StringLiteral s) t = is_bare t 0
is_known_by shape.NullLiteral t = is_bare t 0
is_known_by (shape.UnaryExpression o) t = is_over_digit (unary_operator t) (part t 0)
is_known_by _ t = false

-- a number, a text, `null`, `void 0`, `!0` or `!1`
abbrev pub is_known : Tree → Bool
is_known t = is_known_by (shape_of t) t

-- ---- a name that can be written

-- the variables that a table marks, by symbol
abbrev pub marked : Facts → VariableSet
marked f (Declared k) = mark_at f.writable k
marked f (Global s) = false

abbrev pub may_write : VariableSet → Option SymbolId → Bool
may_write W (Some s) = W (Declared s.0)
may_write W None = false

abbrev pub may_write_in : VariableSet → List Name → Bool
may_write_in W (x ∷ []) = may_write W x.symbol
may_write_in W xs = false

-- `x = 1`, where x can be written
abbrev pub writes_value : VariableSet → Tree → Bool
writes_value W a = is_known (part a 1) && may_write_in W (names_of (part a 0))

-- ---- two neighbours

-- the last declarator has no initializer, and the name that is assigned to
abbrev pub takes_last : Tree → Trees → Bool
takes_last x ds = declares_bare (last_after absent ds) x

-- the statement begins by assigning to the last name of the declaration
abbrev pub assigns_last : Tree → Tree → Bool
assigns_last t u = assigns_first u && takes_last (part (beginning_of u) 0) (children (part t 0))

-- a `let` whose last name it is
abbrev pub may_join : Tree → Tree → Bool
may_join t u = declares Let t && assigns_last t u

-- and the value goes into it
abbrev pub joins_let : VariableSet → Tree → Tree → Bool
joins_let W t u = may_join t u && writes_value W (beginning_of u)

-- the `let` with the value, and what is left of the statement
pub record WithValue (t value made : Tree) : Type 0 where
  pub init : Trees
  pub last : Tree
  pub declared : children (part t 0) ≡ append init (last ▸ none)
  pub written : made ≡ declaration Let (append init (with_part last 1 value ▸ none))

pub record Joined (t u made : Tree) (left : Trees) : Type 0 where
  pub value : WithValue t (part (beginning_of u) 1) made
  pub rest : left ≡ left_of u

-- ---- a list

abbrev pub joins_first : VariableSet → Trees → Bool
joins_first W (t ▸ (u ▸ ts)) = joins_let W t u
joins_first W _ = false

-- no two neighbours
abbrev pub are_joined : VariableSet → Trees → Bool
are_joined W none = true
are_joined W (t ▸ ts) = not (joins_first W (t ▸ ts)) && are_joined W ts

-- the last of them, and the one after it
abbrev pub joins_last : VariableSet → Trees → Tree → Bool
joins_last W ts u = joins_let W (last_after absent ts) u

abbrev pub is_list_place : Position → Bool
is_list_place StatementList = true
is_list_place BodyList = true
is_list_place _ = false

-- whether the list changed: by steps of the row, or not at all
abbrev pub Changes : VariableSet → Trees → Trees → Bool → Type 0
Changes W t u true = (p : Position) → is_list_place p ≡ true → rule.Moves (LetContracts W) p (listed t) (listed u)
Changes W t u false = u ≡ t

-- a statement is put after the others, whatever comes after it
pub record PutJoined (W : VariableSet) (before : Trees) (t : Tree) (after : Trees) (changed : Bool) : Type 0 where
  pub changes : (rest : Trees) → Changes W (append before (t ▸ rest)) (append after rest) changed
  pub joined : changed ≡ false → are_joined W before ≡ true → are_joined W after ≡ true

-- a list changes, or there is nothing to do in it
pub record AllJoined (W : VariableSet) (t u : Trees) (changed : Bool) : Type 0 where
  pub changes : Changes W t u changed
  pub joined : changed ≡ false → are_joined W u ≡ true

-- ---- as a rule

-- over a program the rule makes what the row says of the variables that can be written in it
abbrev pub Gives : CompressOptions → Tree → Position → Tree → Tree → Type 0
Gives o q = LetContracts (writable_in q)

-- and rests where no row reads the node
abbrev pub RestsOver : VariableSet → Position → Tree → Type 0
RestsOver W p n = (w : Tree) → LetRow W p n w → ⊥

abbrev pub Rests : Tree → Position → Tree → Type 0
Rests q = RestsOver (writable_in q)

-- the node of a list
abbrev pub JoinsLets : VariableSet → Tree → Tree → Bool → Type 0
JoinsLets W t u changed = (p : Position) → is_list_place p ≡ true → rule.Applied (LetContracts W) (RestsOver W) p t u changed

-- ---- by one of the rows

abbrev pub InStatements : (Trees → Trees → Type 0) → Position → Tree → Tree → Type 0
InStatements R StatementList n w = InList R n w
InStatements R BodyList n w = InList R n w
InStatements R _ n w = ⊥

abbrev pub RestsBy : (Trees → Trees → Type 0) → Position → Tree → Type 0
RestsBy R p n = (w : Tree) → InStatements R p n w → ⊥

abbrev pub ChangesBy : VariableSet → (Trees → Trees → Type 0) → Tree → Tree → Bool → Type 0
ChangesBy W R t u changed = (p : Position) → is_list_place p ≡ true → rule.Applied (LetContracts W) (RestsBy R) p t u changed

-- the values that are assigned
abbrev pub JoinsValues : VariableSet → Tree → Tree → Bool → Type 0
JoinsValues W = ChangesBy W (Row70Let W)

-- what never runs, whichever names can be written
abbrev pub DropsLexicals : Tree → Tree → Bool → Type 0
DropsLexicals t u changed = (W : VariableSet) → ChangesBy W Row77Lexical t u changed
