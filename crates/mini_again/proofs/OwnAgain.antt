-- What has a body, whose own code takes a step, takes it where it is read again.
use Rattle.std.proofs.Common.{ap, inl, inr}
use Rattle.mini_kept.specs.Without.{BodySets}
use Rattle.mini_model.specs.declared.place.Position.{Position}
use Rattle.mini_model.specs.declared.place.Position.TheVariants.{Expr, Stmt, Method, Elsewhere, StatementList}
use Rattle.mini_model.specs.Position.{argument_seat}
use Rattle.mini_model.specs.Tree.{Tree}
use Rattle.mini_rows.specs.OwnArrows.{OwnArrow, OwnArrowRow, OwnCode}
use Rattle.mini_rows.specs.OwnParts.{OwnBlockRow, OwnInnerRow, OwnPart}
use Rattle.mini_rows.specs.OwnPrograms.{OwnProgram, OwnProgramRow}
use Rattle.mini_rows.specs.Steady.{OwnRows, OwnFunction, OwnFunctionRow, nothing_begun}
use Rattle.mini_again.specs.Again.{Renaming, again, other_number, sets_with_others}
use Rattle.mini_again.specs.Families.{OwnSurvives}
use Rattle.mini_again.proofs.Steps.{own_step_again}

module _ (F : OwnRows) (survives : OwnSurvives F) (ρ : Renaming) (S : BodySets) where
  function_again : (n w : Tree) → OwnFunctionRow F (sets_with_others ρ S) n w → OwnFunctionRow F S (again ρ n) (again ρ w)
  function_again n w r = record {
    is_declaration = r.is_declaration;
    is_generator = r.is_generator;
    directives = r.directives;
    number = other_number ρ r.number;
    name = again ρ r.name;
    parameters = again ρ r.parameters;
    before = again ρ r.before;
    after = again ρ r.after;
    step = own_step_again ρ F survives r.before (S (other_number ρ r.number)) nothing_begun Elsewhere r.before r.after r.step;
    shape = ap (again ρ) r.shape;
    written = ap (again ρ) r.written;
  }

  arrow_again : (n w : Tree) → OwnArrowRow F (sets_with_others ρ S) n w → OwnArrowRow F S (again ρ n) (again ρ w)
  arrow_again n w r = record {
    directives = r.directives;
    number = other_number ρ r.number;
    parameters = again ρ r.parameters;
    before = again ρ r.before;
    after = again ρ r.after;
    step = own_step_again ρ F survives r.before (S (other_number ρ r.number)) nothing_begun (Expr argument_seat) r.before r.after r.step;
    shape = ap (again ρ) r.shape;
    written = ap (again ρ) r.written;
  }

  program_again : (n w : Tree) → OwnProgramRow F (sets_with_others ρ S) n w → OwnProgramRow F S (again ρ n) (again ρ w)
  program_again n w r = record {
    is_module = r.is_module;
    directives = r.directives;
    number = other_number ρ r.number;
    before = again ρ r.before;
    after = again ρ r.after;
    step = own_step_again ρ F survives r.before (S (other_number ρ r.number)) nothing_begun StatementList r.before r.after r.step;
    shape = ap (again ρ) r.shape;
    written = ap (again ρ) r.written;
  }

  block_again : (n w : Tree) → OwnBlockRow F (sets_with_others ρ S) n w → OwnBlockRow F S (again ρ n) (again ρ w)
  block_again n w r = record {
    number = other_number ρ r.number;
    before = again ρ r.before;
    after = again ρ r.after;
    step = own_step_again ρ F survives r.before (S (other_number ρ r.number)) nothing_begun StatementList r.before r.after r.step;
    shape = ap (again ρ) r.shape;
    written = ap (again ρ) r.written;
  }

  inner_again : (p : Position) (n w : Tree) → OwnInnerRow F (sets_with_others ρ S) p n w → OwnInnerRow F S p (again ρ n) (again ρ w)
  inner_again p n w r = record {
    number = other_number ρ r.number;
    before = again ρ r.before;
    after = again ρ r.after;
    step = own_step_again ρ F survives r.before (S (other_number ρ r.number)) nothing_begun p r.before r.after r.step;
    shape = ap (again ρ) r.shape;
    written = ap (again ρ) r.written;
  }

  own_function_again : (p : Position) (n w : Tree) → OwnFunction F (sets_with_others ρ S) p n w → OwnFunction F S p (again ρ n) (again ρ w)
  own_function_again (Stmt q) n w r = function_again n w r
  own_function_again (Expr s) n w r = function_again n w r
  own_function_again Method n w r = function_again n w r
  own_function_again Elsewhere n w r = function_again n w r
  own_function_again p n w r = absurd r

  own_arrow_again : (p : Position) (n w : Tree) → OwnArrow F (sets_with_others ρ S) p n w → OwnArrow F S p (again ρ n) (again ρ w)
  own_arrow_again (Expr s) n w r = arrow_again n w r
  own_arrow_again p n w r = absurd r

  pub own_code_again : (p : Position) (n w : Tree) → OwnCode F (sets_with_others ρ S) p n w → OwnCode F S p (again ρ n) (again ρ w)
  own_code_again p n w (inl r) = inl (own_function_again p n w r)
  own_code_again p n w (inr r) = inr (own_arrow_again p n w r)

  pub own_program_again : (p : Position) (n w : Tree) → OwnProgram F (sets_with_others ρ S) p n w → OwnProgram F S p (again ρ n) (again ρ w)
  own_program_again Elsewhere n w r = program_again n w r
  own_program_again p n w r = absurd r

  pub own_part_again : (p : Position) (n w : Tree) → OwnPart F (sets_with_others ρ S) p n w → OwnPart F S p (again ρ n) (again ρ w)
  own_part_again p n w (inl r) = inl (block_again n w r)
  own_part_again p n w (inr r) = inr (inner_again p n w r)
