-- What holds statements that lose a name behind held names, by whichever row: a function, an arrow function, a module and a static block.
use Rattle.std.specs.Prelude.{ℕ, ◌≡◌, Bool, true, List}
use Rattle.mini_model.specs.declared.place.Position.{Position}
use Rattle.mini_model.specs.declared.place.Position.TheVariants.{Expr, Stmt, Method, Elsewhere}
use Rattle.mini_model.specs.Tree.{Tree, Trees, none, ◌▸◌, listed, program}
use Rattle.mini_laws.specs.Value.{VariableSet}
use Rattle.mini_kept.specs.Without.{BodySets}
use Rattle.mini_rows.specs.Past.{PastFunctionRow, PastFunction}
use Rattle.mini_rows.specs.PastArrows.{PastArrow}
use Rattle.mini_rows.specs.PastModules.{PastModule}
use Rattle.mini_rows.specs.PastStatics.{PastStatic}
use Rattle.mini_rows.specs.Switches.{Liberties}
use Rattle.mini_rows.specs.Unused.{arrow_with, function_with, static_block}
use Rattle.mini_rows.proofs.PastStretches.{Behind, behind}

module _ (S : BodySets) (W : VariableSet) where
  pub record FunctionBehind (n w : Tree) : Type 0 where
    pub is_declared : Bool
    pub is_generator : Bool
    pub directives : List (List ℕ)
    pub number : ℕ
    pub name : Tree
    pub parameters : Trees
    pub before : Trees
    pub after : Trees
    pub there : Behind (S number) W (listed (name ▸ parameters)) before after
    pub shape : n ≡ function_with is_declared is_generator directives number name parameters before
    pub written : w ≡ function_with is_declared is_generator directives number name parameters after

  pub record ArrowBehind (n w : Tree) : Type 0 where
    pub directives : List (List ℕ)
    pub number : ℕ
    pub parameters : Trees
    pub before : Trees
    pub after : Trees
    pub there : Behind (S number) W (listed parameters) before after
    pub shape : n ≡ arrow_with directives number parameters before
    pub written : w ≡ arrow_with directives number parameters after

  pub record ModuleBehind (n w : Tree) : Type 0 where
    pub directives : List (List ℕ)
    pub before : Trees
    pub after : Trees
    pub there : Behind (S 0) W (listed none) before after
    pub shape : n ≡ program true directives before
    pub written : w ≡ program true directives after

  pub record StaticBehind (n w : Tree) : Type 0 where
    pub number : ℕ
    pub before : Trees
    pub after : Trees
    pub there : Behind (S number) W (listed none) before after
    pub shape : n ≡ static_block number before
    pub written : w ≡ static_block number after

  -- ---- where each stands

  abbrev pub FunctionsBehind : Position → Tree → Tree → Type 0
  FunctionsBehind (Stmt q) n w = FunctionBehind n w
  FunctionsBehind (Expr s) n w = FunctionBehind n w
  FunctionsBehind Method n w = FunctionBehind n w
  FunctionsBehind Elsewhere n w = FunctionBehind n w
  FunctionsBehind p n w = ⊥

  abbrev pub ArrowsBehind : Position → Tree → Tree → Type 0
  ArrowsBehind (Expr s) n w = ArrowBehind n w
  ArrowsBehind p n w = ⊥

  abbrev pub ModulesBehind : Position → Tree → Tree → Type 0
  ModulesBehind Elsewhere n w = ModuleBehind n w
  ModulesBehind p n w = ⊥

  abbrev pub StaticsBehind : Position → Tree → Tree → Type 0
  StaticsBehind Elsewhere n w = StaticBehind n w
  StaticsBehind p n w = ⊥

-- ---- those of the rows of their statements

module _ (S : BodySets) (W : Liberties) where
  function_behind : (n w : Tree) → PastFunctionRow S W n w → FunctionBehind S W.writable n w
  function_behind n w r = record {
    is_declared = r.is_declared;
    is_generator = r.is_generator;
    directives = r.directives;
    number = r.number;
    name = r.name;
    parameters = r.parameters;
    before = r.before;
    after = r.after;
    there = behind (S r.number) W (listed (r.name ▸ r.parameters)) r.before r.after r.row;
    shape = r.shape;
    written = r.written;
  }

  pub functions_behind : (p : Position) (n w : Tree) → PastFunction S W p n w → FunctionsBehind S W.writable p n w
  functions_behind (Stmt q) n w r = function_behind n w r
  functions_behind (Expr s) n w r = function_behind n w r
  functions_behind Method n w r = function_behind n w r
  functions_behind Elsewhere n w r = function_behind n w r
  functions_behind p n w r = absurd r

  pub arrows_behind : (p : Position) (n w : Tree) → PastArrow S W p n w → ArrowsBehind S W.writable p n w
  arrows_behind (Expr s) n w r = record { directives = r.directives; number = r.number; parameters = r.parameters; before = r.before; after = r.after; there = behind (S r.number) W (listed r.parameters) r.before r.after r.row; shape = r.shape; written = r.written }
  arrows_behind p n w r = absurd r

  pub modules_behind : (p : Position) (n w : Tree) → PastModule S W p n w → ModulesBehind S W.writable p n w
  modules_behind Elsewhere n w r = record { directives = r.directives; before = r.before; after = r.after; there = behind (S 0) W (listed none) r.before r.after r.row; shape = r.shape; written = r.written }
  modules_behind p n w r = absurd r

  pub statics_behind : (p : Position) (n w : Tree) → PastStatic S W p n w → StaticsBehind S W.writable p n w
  statics_behind Elsewhere n w r = record { number = r.number; before = r.before; after = r.after; there = behind (S r.number) W (listed none) r.before r.after r.row; shape = r.shape; written = r.written }
  statics_behind p n w r = absurd r
