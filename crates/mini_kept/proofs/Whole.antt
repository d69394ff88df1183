-- Any number of steps in a program.
use Rattle.std.specs.Prelude.{◌≡◌, refl, true, false, []}
use Rattle.std.proofs.Common.{arith, subst}
use Rattle.mini_model.specs.declared.place.Position.{Position}
use Rattle.mini_model.specs.declared.place.Position.TheVariants.{Elsewhere}
use Rattle.mini_model.specs.Tree.{Tree, shape_of}
use Rattle.mini_model.specs.Redex.{Contracts}
use Rattle.mini_model.specs.Rewriting.{Step, Reaches, done, more}
use Rattle.mini_accept.specs.WellShaped.{a_program, one, IsWellShaped}
use Rattle.mini_laws.specs.declared.names.Use.TheVariants.{Read}
use Rattle.mini_laws.specs.DeclaredNames.{is_inner}
use Rattle.mini_laws.specs.Early.{no_targets}
use Rattle.mini_kept.proofs.ShapeRows.{rows_keep_shapes}
use Rattle.mini_kept.proofs.Steps.{any_step_fits}
use Rattle.mini_kept.specs.KeepsNames.{Stands}
use Rattle.mini_kept.specs.KeepsLoosely.{KeepsLoosely}
use Rattle.mini_kept.specs.Lifted.{KeepsNames, ProgramKeeps}
use Rattle.mini_kept.specs.KeepsShapes.{KeepsShapes}
use Rattle.mini_kept.proofs.Using.{also}
use Rattle.mini_kept.proofs.Initializers.{init_stays}
use Rattle.mini_kept.proofs.Stepping.{step_keeps}
use Rattle.mini_kept.proofs.Instances.{contracts_keep}

program_stands : (t : Tree) → Stands Elsewhere Read t
program_stands t = also (is_inner (shape_of t)) true refl

no_step : (t : Tree) → ProgramKeeps t t
no_step t = record { shaped = λ e. e; scoped = λ e r. r; distinct = λ e r d. d; symbols = λ e r x. omega arith; numbers = λ e k. omega arith; once = λ e o. o; targets = λ e o. o }

both_steps : (t u v : Tree) → ProgramKeeps t u → ProgramKeeps u v → ProgramKeeps t v
both_steps t u v a b = record {
  shaped = λ e. b.shaped (a.shaped e);
  scoped = λ e r. b.scoped (a.shaped e) (a.scoped e r);
  distinct = λ e r d. b.distinct (a.shaped e) (a.scoped e r) (a.distinct e r d);
  symbols = λ e r x. omega (arith, a.symbols e r x, b.symbols (a.shaped e) (a.scoped e r) x);
  numbers = λ e k. omega (arith, a.numbers e k, b.numbers (a.shaped e) k);
  once = λ e o. b.once (a.shaped e) (a.once e o);
  targets = λ e o. b.targets (a.shaped e) (a.targets e o);
}

module _ (R : Position → Tree → Tree → Type 0) (l : KeepsNames R) (shapes : KeepsShapes R) where
  program_step : (t u : Tree) → Step R Elsewhere t u → IsWellShaped t → IsWellShaped u
  program_step t u s e = any_step_fits R l shapes s false (one a_program) refl e

  program_keeps : (t u : Tree) → Step R Elsewhere t u → IsWellShaped t → KeepsLoosely Elsewhere t u
  program_keeps t u s e = step_keeps R l (init_stays R shapes) s false (one a_program) refl e

  one_step : (t u : Tree) → Step R Elsewhere t u → ProgramKeeps t u
  one_step t u s = record {
    shaped = program_step t u s;
    scoped = λ e. (program_keeps t u s e).scoped Read [] (program_stands t);
    distinct = λ e r d x. omega (arith, (program_keeps t u s e).symbols Read [] (program_stands t) r x, d x);
    symbols = λ e r. (program_keeps t u s e).symbols Read [] (program_stands t) r;
    numbers = λ e. (program_keeps t u s e).numbers;
    once = λ e. (program_keeps t u s e).once [];
    targets = λ e. (program_keeps t u s e).targets no_targets [];
  }

  reached : (p : Position) (t u : Tree) → Reaches R p t u → p ≡ Elsewhere → ProgramKeeps t u
  reached _ _ _ (done p t) e = no_step t
  reached _ _ _ (more p t u v s r) e = both_steps t u v (one_step t u (subst (λ q. Step R q t u) e s)) (reached p u v r e)

  pub any_reaches_keep : (t u : Tree) → Reaches R Elsewhere t u → ProgramKeeps t u
  any_reaches_keep t u r = reached Elsewhere t u r refl

pub reaches_keep : (t u : Tree) → Reaches Contracts Elsewhere t u → ProgramKeeps t u
reaches_keep t u r = any_reaches_keep Contracts contracts_keep rows_keep_shapes t u r
