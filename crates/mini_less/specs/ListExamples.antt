-- `var x; x = 1;` gives x no value by its declarator, and `var x = 1;` does. The head of
-- `for (x of 1)` after `var x;` doesn't either, and that of `for (var x of 1)` does. Of each a node
-- writes x or a `var` gives it a value, which is one fact.
use Rattle.std.specs.Prelude.{◌≡◌, refl, pos, [], Some, codes}
use Rattle.mini_model.specs.declared.kind.VariableDeclarationKind.TheVariants.{Var}
use Rattle.mini_model.specs.declared.name.Name.{Name}
use Rattle.mini_model.specs.declared.shape.Shape.TheVariants as shape
use Rattle.mini_laws.specs.DeclaredNames.{names_of, with_names}
use Rattle.mini_laws.specs.Foreign.{is_write}
use Rattle.mini_laws.specs.Scopes.{scopes_by}
use Rattle.mini_model.specs.Tree.{Tree, none, ◌▸◌, leaf, listed, absent, identifier, expression_statement, empty_statement}
use Rattle.mini_rows.specs.Lists.{binding, declarator, declaration, assigned, each_loop, EachOf}
use Rattle.mini_shrink.specs.Facts.{Written, Given, question}
use Rattle.mini_shrink.specs.Pace.{Silent, Reads, pace}
use Rattle.mini_shrink.specs.Questions.{asks, at_program, gives_such}

abbrev pub x : Name
x = record { spelling = codes "x"; symbol = Some (record { 0 = 0 }) }

abbrev pub one : Tree
one = leaf (shape.NumericLiteral (pos 1))

abbrev bare : Tree
bare = declaration Var (declarator (binding x) absent ▸ none)

abbrev assigns : Tree
assigns = listed (bare ▸ (expression_statement (assigned x one) ▸ none))

abbrev declares : Tree
declares = listed (declaration Var (declarator (binding x) one ▸ none) ▸ none)

abbrev goes_over : Tree
goes_over = listed (bare ▸ (each_loop EachOf (identifier x) one empty_statement ▸ none))

abbrev declares_each : Tree
declares_each = listed (each_loop EachOf bare one empty_statement ▸ none)

pub assignment_gives_none : pace (asks (gives_such (is_write x))) at_program [] assigns ≡ Silent
unfolding pace names_of
assignment_gives_none = refl

pub assignment_gives_one : pace (question Given 0 0) at_program [] assigns ≡ Reads
unfolding pace names_of
assignment_gives_one = refl

pub declarator_gives_one : pace (question Given 0 0) at_program [] declares ≡ Reads
unfolding pace names_of
declarator_gives_one = refl

pub head_gives_none : pace (asks (gives_such (is_write x))) at_program [] goes_over ≡ Silent
unfolding pace names_of scopes_by with_names
head_gives_none = refl

pub head_gives_one : pace (question Given 0 0) at_program [] goes_over ≡ Reads
unfolding pace names_of scopes_by with_names
head_gives_one = refl

pub declared_head_gives_one : pace (question Given 0 0) at_program [] declares_each ≡ Reads
unfolding pace names_of scopes_by with_names
declared_head_gives_one = refl

-- what is so of either, that a node writes it, goes
pub assignment_writes : pace (question Written 0 0) at_program [] assigns ≡ Reads
unfolding pace
assignment_writes = refl
