-- A step in the own code of a body by a row of one family is one by a row of another that reads as
-- much.
use Rattle.std.specs.Prelude.{ℕ}
use Rattle.std.proofs.Common.{inl, inr}
use Rattle.mini_model.specs.declared.place.Position.{Position}
use Rattle.mini_model.specs.declared.place.Position.TheVariants.{Expr, Stmt, Method, Elsewhere}
use Rattle.mini_model.specs.Tree.{Tree, Trees}
use Rattle.mini_kept.specs.Without.{Assured, BodySets}
use Rattle.mini_rows.specs.OwnArrows.{OwnArrow, OwnCode}
use Rattle.mini_rows.specs.OwnParts.{OwnPart}
use Rattle.mini_rows.specs.OwnPrograms.{OwnProgram}
use Rattle.mini_rows.specs.Steady.{Begun, OwnRows, OwnStep, own_here, own_inside, OwnStepIn, own_first, own_later, own_rows, OwnFunctionRow, OwnFunction}

module _ (R Q : Begun → Position → Tree → Tree → Type 0) (f : (L : Begun) (p : Position) (n w : Tree) → R L p n w → Q L p n w) where
  mutual
    pub step_narrowed : {L : Begun} {p : Position} {n w : Tree} → OwnStep R L p n w → OwnStep Q L p n w
    step_narrowed (own_here L p n w r) = own_here L p n w (f L p n w r)
    step_narrowed (own_inside L p h xs ts us e s) = own_inside L p h xs ts us e (step_in_narrowed s)

    step_in_narrowed : {Λ : ℕ → Begun} {π : ℕ → Position} {ts us : Trees} → OwnStepIn R Λ π ts us → OwnStepIn Q Λ π ts us
    step_in_narrowed (own_first Λ π t u ts s) = own_first Λ π t u ts (step_narrowed s)
    step_in_narrowed (own_later Λ π t ts us s) = own_later Λ π t ts us (step_in_narrowed s)

module _ (F G : OwnRows) (f : (V : Assured) (p : Position) (n w : Tree) → F V p n w → G V p n w) (S : BodySets) where
  narrowed : (t : Tree) (V : Assured) {L : Begun} {p : Position} {n w : Tree} → OwnStep (own_rows F t V) L p n w → OwnStep (own_rows G t V) L p n w
  narrowed t V s = step_narrowed (own_rows F t V) (own_rows G t V) (λ L. f _) s

  function_row : (n w : Tree) → OwnFunctionRow F S n w → OwnFunctionRow G S n w
  function_row n w r = record { is_declaration = r.is_declaration; is_generator = r.is_generator; directives = r.directives; number = r.number; name = r.name; parameters = r.parameters; before = r.before; after = r.after; step = narrowed r.before (S r.number) r.step; shape = r.shape; written = r.written }

  pub function_narrowed : (p : Position) (n w : Tree) → OwnFunction F S p n w → OwnFunction G S p n w
  function_narrowed (Stmt q) n w r = function_row n w r
  function_narrowed (Expr s) n w r = function_row n w r
  function_narrowed Method n w r = function_row n w r
  function_narrowed Elsewhere n w r = function_row n w r
  function_narrowed p n w r = absurd r

  arrow_narrowed : (p : Position) (n w : Tree) → OwnArrow F S p n w → OwnArrow G S p n w
  arrow_narrowed (Expr s) n w r = record { directives = r.directives; number = r.number; parameters = r.parameters; before = r.before; after = r.after; step = narrowed r.before (S r.number) r.step; shape = r.shape; written = r.written }
  arrow_narrowed p n w r = absurd r

  pub code_narrowed : (p : Position) (n w : Tree) → OwnCode F S p n w → OwnCode G S p n w
  code_narrowed p n w (inl r) = inl (function_narrowed p n w r)
  code_narrowed p n w (inr r) = inr (arrow_narrowed p n w r)

  pub program_narrowed : (p : Position) (n w : Tree) → OwnProgram F S p n w → OwnProgram G S p n w
  program_narrowed Elsewhere n w r = record { is_module = r.is_module; directives = r.directives; number = r.number; before = r.before; after = r.after; step = narrowed r.before (S r.number) r.step; shape = r.shape; written = r.written }
  program_narrowed p n w r = absurd r

  pub part_narrowed : (p : Position) (n w : Tree) → OwnPart F S p n w → OwnPart G S p n w
  part_narrowed p n w (inl r) = inl (record { number = r.number; before = r.before; after = r.after; step = narrowed r.before (S r.number) r.step; shape = r.shape; written = r.written })
  part_narrowed p n w (inr r) = inr (record { number = r.number; before = r.before; after = r.after; step = narrowed r.before (S r.number) r.step; shape = r.shape; written = r.written })
