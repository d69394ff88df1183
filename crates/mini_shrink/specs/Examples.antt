-- `{ let x = 1; x; }` reads x after its declaration, `{ x; let x = 1; }` and `{ let x = x; }`
-- before, as the definition of the temporal dead zone over all moments says, too.
use Rattle.std.specs.Prelude.{◌≡◌, refl, pos, true, false, [], ◌∷◌, Some, codes}
use Rattle.mini_model.specs.declared.kind.VariableDeclarationKind.TheVariants.{Let}
use Rattle.mini_model.specs.declared.name.Name.{Name}
use Rattle.mini_model.specs.declared.shape.Shape.TheVariants as shape
use Rattle.mini_model.specs.Tree.{Tree, Trees, node, none, ◌▸◌, leaf, listed, program, identifier, expression_statement}
use Rattle.mini_laws.specs.declared.names.Use.TheVariants.{Read}
use Rattle.mini_laws.specs.DeclaredNames.{names_of}
use Rattle.mini_laws.specs.Mentions.{outermost}
use Rattle.mini_laws.specs.ScopeList.{by_symbol}
use Rattle.mini_laws.specs.Foreign.{is_read_early, moments}
use Rattle.mini_shrink.specs.Pace.{Silent, Reads, pace}
use Rattle.mini_shrink.specs.Questions.{at_program, early}

abbrev x : Name
x = record { spelling = codes "x"; symbol = Some (record { 0 = 0 }) }

abbrev let_x : Tree → Tree
let_x e = node (shape.VariableDeclaration Let) [] 0 (listed (node shape.VariableDeclarator [] 0 (node shape.BindingIdentifier (x ∷ []) 0 none ▸ (e ▸ none)) ▸ none) ▸ none)

abbrev block : Trees → Tree
block ts = program false [] (node shape.BlockStatement [] 0 (listed ts ▸ none) ▸ none)

abbrev one : Tree
one = leaf (shape.NumericLiteral (pos 1))

abbrev reads : Tree
reads = expression_statement (identifier x)

pub after_it : pace (early 0 0) at_program [] (block (let_x one ▸ (reads ▸ none))) ≡ Silent
unfolding pace names_of
after_it = refl

pub before_it : pace (early 0 0) at_program [] (block (reads ▸ (let_x one ▸ none))) ≡ Reads
unfolding pace names_of
before_it = refl

pub within_it : pace (early 0 0) at_program [] (block (let_x (identifier x) ▸ none)) ≡ Reads
unfolding pace names_of
within_it = refl

pub after_as_ever : is_read_early 0 (by_symbol 0) (moments Read outermost (block (let_x one ▸ (reads ▸ none)))) ≡ false
unfolding moments names_of
after_as_ever = refl

pub within_as_ever : is_read_early 0 (by_symbol 0) (moments Read outermost (block (let_x (identifier x) ▸ none))) ≡ true
unfolding moments names_of
within_as_ever = refl
