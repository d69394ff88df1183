-- Rows of declarations: each is a shape and what is written in its place, with the JavaScript
-- before and after.
use Rattle.std.specs.Prelude.{◌≡◌, ◌<◌, []}
use Rattle.mini_model.specs.declared.kind.VariableDeclarationKind.TheVariants.{Let}
use Rattle.mini_model.specs.declared.name.Name.{Name}
use Rattle.mini_model.specs.declared.place.Position.{Position}
use Rattle.mini_model.specs.declared.place.Position.TheVariants.{Stmt, StatementList, BodyList}
use Rattle.mini_model.specs.declared.shape.Shape.TheVariants as shape
use Rattle.mini_model.specs.Tree.{Tree, Trees, node, none, ◌▸◌, absent}
use Rattle.mini_model.specs.Paths.{append}
use Rattle.mini_model.specs.Weight.{weight}
use Rattle.mini_rows.specs.Lists.{declaration, for_loop, InList}
pub use Rattle.mini_rows.specs.Lists.{binding, declarator}
use Rattle.mini_rows.specs.Spellings.{IsUndefined}

-- 61: `let x = undefined` and `let x = void 0` become `let x`
pub record Row61 (n w : Tree) : Type 0 where
  pub before : Trees
  pub name : Name
  pub init : Tree
  pub after : Trees
  pub undefined : IsUndefined init
  pub shape : n ≡ declaration Let (append before (declarator (binding name) init ▸ after))
  pub written : w ≡ declaration Let (append before (declarator (binding name) absent ▸ after))

-- how a declaration stands in a list of statements: by itself, or `export let x;`, with specifiers
-- and a source, of which it has none
pub data Item : Type 0 where
  Alone : Item
  Exported : Tree → Tree → Item

abbrev pub held : Item → Tree → Tree
held Alone d = d
held (Exported specifiers source) d = node shape.ExportNamedDeclaration [] 0 (d ▸ (specifiers ▸ (source ▸ none)))

-- `let x = undefined;` becomes `let x;`, and so where it is exported
pub record Row61Item (a b : Trees) : Type 0 where
  pub item : Item
  pub declared : Tree
  pub bare : Tree
  pub row : Row61 declared bare
  pub shape : a ≡ held item declared ▸ none
  pub written : b ≡ held item bare ▸ none

-- `for (let x = undefined; b; c) d` becomes `for (let x; b; c) d`
pub record Row61For (n w : Tree) : Type 0 where
  pub declared : Tree
  pub bare : Tree
  pub test : Tree
  pub update : Tree
  pub body : Tree
  pub row : Row61 declared bare
  pub shape : n ≡ for_loop declared test update body
  pub written : w ≡ for_loop bare test update body

-- a row reads n as w at this place
abbrev pub DeclarationRow : Position → Tree → Tree → Type 0
DeclarationRow StatementList n w = InList Row61Item n w
DeclarationRow BodyList n w = InList Row61Item n w
DeclarationRow (Stmt q) n w = Row61For n w
DeclarationRow _ n w = ⊥

-- what it writes, where it weighs less
pub record DeclarationContracts (p : Position) (n w : Tree) : Type 0 where
  pub row : DeclarationRow p n w
  pub lighter : weight p w < weight p n

-- which is everywhere
abbrev pub DeclarationsLighter : Type 0
DeclarationsLighter = (p : Position) (n w : Tree) → DeclarationRow p n w → weight p w < weight p n
