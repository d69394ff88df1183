-- Row 71 past steady names of a `var` that stands further inside the body that it belongs to, with
-- the JavaScript before and after.
use Rattle.std.proofs.Common.{inl, inr}
use Rattle.std.specs.Prelude.{◌≡◌, ◌||◌, ◌&&◌, not, nat_lt, ℕ, Bool, true, false, List, [], ◌++◌}
use Rattle.mini_model.specs.declared.place.Position.{Position}
use Rattle.mini_model.specs.declared.shape.Shape.{Shape}
use Rattle.mini_model.specs.declared.shape.Shape.TheVariants as shape
use Rattle.mini_model.specs.Tree.{Tree, Trees, node, none, ◌▸◌, listed, is_absent}
use Rattle.mini_laws.specs.Naming.{is_lexical, lets_first, summary, summaries}
use Rattle.mini_laws.specs.Value.{Variable, Declared, Global, VariableSet, choose, is_in}
use Rattle.mini_laws.specs.Weights.{Lightens}
use Rattle.mini_kept.specs.Rooted.{LawfulRooted}
use Rattle.mini_kept.specs.Without.{Assured, BodySets}
use Rattle.mini_node.specs.Children.{number_of}
use Rattle.mini_rows.specs.declared.inside.Way.TheVariants as way
use Rattle.mini_rows.specs.Inside.{Ends, InsideOf, InsideAt}
use Rattle.mini_rows.specs.Past.{any_bind, PastRow}
use Rattle.mini_rows.specs.Steady.{all_bindings, head_lets}
use Rattle.mini_rows.specs.Switches.{Liberties}

-- ---- what has its value at the end of a way, by the nodes above it, each without what the way goes into

-- what the statements before the place declare (ECMA-262, "LexicallyDeclaredNames", functions
-- aside)
abbrev pub lets_before : Trees → List Variable
lets_before none = []
lets_before (t ▸ ts) = choose (is_absent t) [] ((summary t).lets ++ lets_before ts)

-- and so each node of such a shape: a list of statements; a `catch`, whose parameter has its value
-- in its block ("CatchClauseEvaluation"); and a loop, whose head has one in its body
-- ("ForLoopEvaluation", "ForIn/OfBodyEvaluation")
abbrev pub lets_around : Bool → Shape → Trees → List Variable
lets_around is_list shape.Listed ts = choose is_list (lets_before ts) []
lets_around is_list shape.CatchClause ts = lets_first (summaries ts)
lets_around is_list shape.ForStatement ts = head_lets (summaries ts)
lets_around is_list shape.ForInStatement ts = head_lets (summaries ts)
lets_around is_list shape.ForOfStatement ts = head_lets (summaries ts)
lets_around is_list h ts = []

-- what holds a list of statements; those of a switch hold its cases
abbrev pub holds_statements : Shape → Bool
holds_statements shape.BlockStatement = true
holds_statements shape.SwitchCase = true
holds_statements h = false

-- the symbol is declared so in one of some nodes, each below the one before
abbrev pub is_let_around : ℕ → Bool → Trees → Bool
is_let_around k is_list none = false
is_let_around k is_list (node h xs n ts ▸ us) = is_in (Declared k) (lets_around is_list h ts) || is_let_around k (holds_statements h) us

-- below the list of a body and some nodes in it: the variables that were declared so, if nothing
-- else there declares them, and of X, if they are initialised as the body starts, those that no
-- scope there declares
abbrev pub initial_below : Trees → VariableSet → VariableSet
initial_below a X (Declared k) = (is_let_around k true a && not (nat_lt 1 (all_bindings k a))) || (X (Declared k) && not (any_bind k a))
initial_below a X (Global s) = false

-- what is known there of a body of which this is known
abbrev pub known_below : Trees → Assured → Assured
known_below a V = record V { initial = initial_below a V.initial }

-- ---- the rows

-- what goes is a `var`
abbrev pub passes_var : {V : Assured} {W : Liberties} {o : Tree} {ts us : Trees} → PastRow V W o ts us → Bool
passes_var (inl r) = not (is_lexical r.kind)
passes_var (inr r) = not (is_lexical r.kind)

-- `{ var x = a(); return g(x); }` becomes `{ ; return g(a()); }`, and
-- `{ const y = a(); var x = b(); y(x, y); }` becomes `{ const y = a(); ; y(b(), y); }`: a list of
-- statements, from which a `var` goes, with what stands outside of it
pub record PastEnd (V : Assured) (W : Liberties) (o : Trees) (n w : Tree) : Type 0 where
  pub list : Trees
  pub left : Trees
  pub row : PastRow V W (listed o) list left
  pub var : passes_var row ≡ true
  pub shape : n ≡ listed list
  pub written : w ≡ listed left

-- `for (;;) var x = a(), y = g(x);` becomes `for (;;) var y = g(a());`, and
-- `for (var x = a(), y = g(x); y(); ) y(y);` becomes `for (var y = g(a()); y(); ) y(y);`: a `var`
-- in no list, and one that a `for` begins with, which are read like a list of this one statement
pub record PastOneEnd (V : Assured) (W : Liberties) (o : Trees) (n w : Tree) : Type 0 where
  pub row : PastRow V W (listed o) (n ▸ none) (w ▸ none)
  pub var : passes_var row ≡ true

-- what is read at the end of a way, below what holds the body and the nodes in it, over what S says
-- of the body with its number
abbrev pub past_ends : BodySets → Liberties → Ends
past_ends S W (o ▸ a) way.Statements n w = PastEnd (known_below a (S (number_of o))) W (o ▸ a) n w
past_ends S W (o ▸ a) way.Held n w = PastOneEnd (known_below a (S (number_of o))) W (o ▸ a) n w
past_ends S W (o ▸ a) way.Head n w = PastOneEnd (known_below a (S (number_of o))) W (o ▸ a) n w
past_ends S W o z n w = ⊥

-- `function f(g) { if (g) { var x = a(); return g(x); } }` becomes
-- `function f(g) { if (g) { ; return g(a()); } }`, and in a function
-- `for (const y of a()) { var x = b(); y(x, y); }` becomes `for (const y of a()) { ; y(b(), y); }`
abbrev pub PastInsideRow : BodySets → Liberties → Tree → Tree → Type 0
PastInsideRow S W = InsideOf (past_ends S W)

-- of an arrow function, of any other function, of a module and of a static block, where it weighs
-- less
abbrev pub PastInside : BodySets → Liberties → Position → Tree → Tree → Type 0
PastInside S W = InsideAt (past_ends S W)

-- ---- the laws

-- it makes the whole lighter
abbrev pub PastInsideLightens : Type 0
PastInsideLightens = (S : BodySets) (W : Liberties) → Lightens (PastInside S W)

-- and a program is kept but for a name that nothing mentions, where S says what is known of each
-- body and the variables W can be written, whichever functions and classes may lose their own name
abbrev pub PastInsideIsLawful : Type 0
PastInsideIsLawful = (K : Shape → Bool) (W : Liberties) (S : BodySets) → LawfulRooted K W.writable S (PastInside S W)
