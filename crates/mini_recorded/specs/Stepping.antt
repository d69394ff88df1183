-- What the step of a row reads of its place and of the rest of its path.
use Rattle.std.specs.Prelude.{Bool, true, false}
use Rattle.mini_model.specs.declared.place.Position.{Position}
use Rattle.mini_model.specs.declared.place.Position.TheVariants.{Stmt}

abbrev pub is_statement_place : Position → Bool
is_statement_place (Stmt q) = true
is_statement_place _ = false
