-- The row of a `let` and the assignment of a value after it, as an equation: a shape and what is
-- written in its place, with the JavaScript before and after; and beside it that of a lexical
-- declaration that never runs. W has the variables that the program mentions and that can be
-- written in it: what a `let` declares is written by its initializer, and an assignment after it
-- writes only where the name can be written (ECMA-262, "SetMutableBinding").
use Rattle.std.specs.Prelude.{◌≡◌, ◌<◌, ◌⊎◌, ℕ, Bool, true, List}
use Rattle.mini_model.specs.declared.kind.VariableDeclarationKind.TheVariants.{Let}
use Rattle.mini_model.specs.declared.place.Position.{Position}
use Rattle.mini_model.specs.declared.place.Position.TheVariants.{StatementList, BodyList}
use Rattle.mini_model.specs.declared.shape.Shape.{Shape}
use Rattle.mini_model.specs.Tree.{Tree, Trees, none, ◌▸◌, absent}
use Rattle.mini_model.specs.Paths.{append}
use Rattle.mini_model.specs.Weight.{weight}
use Rattle.mini_laws.specs.Value.{Declared, VariableSet}
use Rattle.mini_laws.specs.Weights.{Lightens}
use Rattle.mini_kept.specs.Loosely.{LawfulWith}
use Rattle.mini_rows.specs.DeadCases.{Known, known}
use Rattle.mini_rows.specs.DeadLexicals.{Row77Lexical}
use Rattle.mini_rows.specs.Lists.{declaration, declarator, binding, resolved, assigned, Beginning, begun, begun_without, begins_well, InList}

-- 70: `let c, a; a = 1;` becomes `let c, a = 1;`, and `let a; return a = 1, d;` becomes
-- `let a = 1; return d;`. The value is written out, so that nothing happens between the two at
-- which a is seen
pub record Row70Let (W : VariableSet) (a b : Trees) : Type 0 where
  pub ds : Trees
  pub spelling : List ℕ
  pub symbol : ℕ
  pub value : Known
  pub beginning : Beginning
  pub writable : W (Declared symbol) ≡ true
  pub parts : begins_well beginning ≡ true
  pub shape : a ≡ declaration Let (append ds (declarator (binding (resolved spelling symbol)) absent ▸ none)) ▸ (begun beginning (assigned (resolved spelling symbol) (known value)) ▸ none)
  pub written : b ≡ declaration Let (append ds (declarator (binding (resolved spelling symbol)) (known value) ▸ none)) ▸ begun_without beginning

-- either row
abbrev pub LetsRow : VariableSet → Trees → Trees → Type 0
LetsRow W a b = Row70Let W a b ⊎ Row77Lexical a b

-- a row reads the list n at this place as w
abbrev pub LetRow : VariableSet → Position → Tree → Tree → Type 0
LetRow W StatementList n w = InList (LetsRow W) n w
LetRow W BodyList n w = InList (LetsRow W) n w
LetRow W _ n w = ⊥

-- what it writes, where it weighs less
pub record LetContracts (W : VariableSet) (p : Position) (n w : Tree) : Type 0 where
  pub row : LetRow W p n w
  pub lighter : weight p w < weight p n

-- which is everywhere
abbrev pub LetsLighter : Type 0
LetsLighter = (W : VariableSet) (p : Position) (n w : Tree) → LetRow W p n w → weight p w < weight p n

abbrev pub LetsLighten : Type 0
LetsLighten = (W : VariableSet) → Lightens (LetContracts W)

-- it keeps all that a program has to keep, where those variables can be written, whichever
-- functions and classes may lose their own name
abbrev pub LetsAreLawful : Type 0
LetsAreLawful = (K : Shape → Bool) (W : VariableSet) → LawfulWith K W (LetContracts W)
