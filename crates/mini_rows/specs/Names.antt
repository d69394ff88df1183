-- The row of the names of function and class expressions: a shape and what is written in its place,
-- with the JavaScript before and after.
use Rattle.std.specs.Prelude.{◌≡◌, ◌<◌, ℕ, Bool, true, false, List, []}
use Rattle.mini_model.specs.declared.place.Position.{Position}
use Rattle.mini_model.specs.declared.place.Position.TheVariants.{Expr}
use Rattle.mini_model.specs.declared.shape.Shape.{Shape}
use Rattle.mini_model.specs.declared.shape.Shape.TheVariants as shape
use Rattle.mini_model.specs.Tree.{Tree, Trees, node, none, ◌▸◌, absent}
use Rattle.mini_model.specs.Weight.{weight}
use Rattle.mini_laws.specs.ScopeList.{any_has_eval}
use Rattle.mini_laws.specs.Weights.{Lightens}
use Rattle.mini_kept.specs.Loosely.{LawfulLoosely}
use Rattle.mini_rows.specs.Declarations.{binding}
use Rattle.mini_rows.specs.Switches.{Switches, let_go}
use Rattle.mini_rows.specs.Unused.{any_names, resolved}

-- what may have a name of its own: a function expression, whether it is a generator, with its
-- directives, parameters and body; or a class expression, with what it extends and its body
pub data Nameable : Type 0 where
  AFunction : Bool → List (List ℕ) → Tree → Tree → Nameable
  AClass : Tree → Tree → Nameable

abbrev pub shape_by : Nameable → Shape
shape_by (AFunction is_generator directives params body) = shape.Function false is_generator directives
shape_by (AClass superclass body) = shape.Class false

-- what stands in it besides its name
abbrev pub inside_of : Nameable → Trees
inside_of (AFunction is_generator directives params body) = params ▸ (body ▸ none)
inside_of (AClass superclass body) = superclass ▸ (body ▸ (absent ▸ none))

-- with this number, and this name or none
abbrev pub nameable : Nameable → ℕ → Tree → Tree
nameable e number name = node (shape_by e) [] number (name ▸ inside_of e)

-- 62: `f(function g() { return 1; })` becomes `f(function () { return 1; })`, and `f(class C {})`
-- becomes `f(class {})`, where nothing in it has the symbol of the name or its spelling, no direct
-- eval stands there, which would see it, and the options let it go
pub record Row62 (o : Switches) (n w : Tree) : Type 0 where
  pub what : Nameable
  pub number : ℕ
  pub spelling : List ℕ
  pub symbol : ℕ
  pub let_it_go : let_go o (shape_by what) ≡ true
  pub unmentioned : any_names (resolved spelling symbol) (inside_of what) ≡ false
  pub unseen : any_has_eval (inside_of what) ≡ false
  pub shape : n ≡ nameable what number (binding (resolved spelling symbol))
  pub written : w ≡ nameable what number absent

-- a row reads n as w at this place
abbrev pub NameRow : Switches → Position → Tree → Tree → Type 0
NameRow o (Expr s) n w = Row62 o n w
NameRow o _ n w = ⊥

-- what it writes, where it weighs less
pub record NameContracts (o : Switches) (p : Position) (n w : Tree) : Type 0 where
  pub row : NameRow o p n w
  pub lighter : weight p w < weight p n

-- which is everywhere
abbrev pub NamesLighter : Type 0
NamesLighter = (o : Switches) (p : Position) (n w : Tree) → NameRow o p n w → weight p w < weight p n

abbrev pub NamesLighten : Type 0
NamesLighten = (o : Switches) → Lightens (NameContracts o)

-- it drops a name that nothing mentions
abbrev pub NamesAreLawful : Type 0
NamesAreLawful = (o : Switches) → LawfulLoosely (let_go o) (NameContracts o)
