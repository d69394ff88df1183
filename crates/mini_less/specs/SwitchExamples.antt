-- A `switch` of one case with a lexical name ends the declaration of that name at its own root.
-- The block that is written for it ends it one level deeper. Neither end is seen around them.
use Rattle.std.specs.Prelude.{◌≡◌, refl, []}
use Rattle.std.proofs.Common.{inl}
use Rattle.mini_model.specs.declared.kind.VariableDeclarationKind.TheVariants.{Let}
use Rattle.mini_model.specs.declared.place.Position.TheVariants.{Stmt}
use Rattle.mini_model.specs.declared.seat.StmtSeat.{StmtSeat}
use Rattle.mini_model.specs.Tree.{Tree, none, ◌▸◌, absent, expression_statement}
use Rattle.mini_laws.specs.DeclaredNames.{names_of, with_names}
use Rattle.mini_laws.specs.Scopes.{scopes_by}
use Rattle.mini_laws.specs.Value.{Declared}
use Rattle.mini_rows.specs.Cases.{one_case}
use Rattle.mini_rows.specs.Lists.{binding, block, declarator, declaration}
use Rattle.mini_shrink.specs.Facts.{ReadEarly, question}
use Rattle.mini_shrink.specs.Pace.{Ends, Silent, pace}
use Rattle.mini_shrink.specs.Questions.{at_program}
use Rattle.mini_shrink.specs.Shrinking.{LessAround}
use Rattle.mini_less.specs.ListExamples.{x, one}

-- `let x = 1;`
abbrev let_x : Tree
let_x = declaration Let (declarator (binding x) one ▸ none)

-- `switch (1) { default: let x = 1; }` and `{ 1; { let x = 1; } }`
abbrev read : Tree
read = one_case one absent (let_x ▸ none)

abbrev put : Tree
put = block (expression_statement one ▸ (block (let_x ▸ none) ▸ none))

pub switch_ends : pace (question ReadEarly 0 0) at_program [] read ≡ Ends
unfolding pace scopes_by names_of with_names
switch_ends = refl

pub block_is_silent : pace (question ReadEarly 0 0) at_program [] put ≡ Silent
unfolding pace scopes_by names_of with_names
block_is_silent = refl

pub block_shows_less : (q : StmtSeat) → LessAround (question ReadEarly 0 0) (Declared 0) (Stmt q) at_program [] read put
unfolding pace scopes_by names_of with_names
block_shows_less q = inl tt
