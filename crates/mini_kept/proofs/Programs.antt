-- Any number of steps leave a program one.
use Rattle.std.proofs.Common.{◌≡◌, false, refl, subst}
use Rattle.mini_model.specs.declared.place.Position.{Position}
use Rattle.mini_model.specs.declared.place.Position.TheVariants.{Elsewhere}
use Rattle.mini_model.specs.Tree.{Tree}
use Rattle.mini_model.specs.Redex.{Contracts}
use Rattle.mini_model.specs.Rewriting.{Step, Reaches, done, more}
use Rattle.mini_accept.specs.WellShaped.{a_program, one, IsWellShaped}
use Rattle.mini_kept.specs.KeepsShapes.{KeepsShapes}
use Rattle.mini_kept.specs.Lifted.{KeepsNames}
use Rattle.mini_kept.proofs.Instances.{contracts_keep}
use Rattle.mini_kept.proofs.ShapeRows.{rows_keep_shapes}
use Rattle.mini_kept.proofs.Steps.{any_step_fits}

module _ (R : Position → Tree → Tree → Type 0) (l : KeepsNames R) (shapes : KeepsShapes R) where
  reached : (p : Position) (t u : Tree) → Reaches R p t u → p ≡ Elsewhere → IsWellShaped t → IsWellShaped u
  reached _ _ _ (done p t) q e = e
  reached _ _ _ (more p t w u s r) q e = reached p w u r q (any_step_fits R l shapes (subst (λ x. Step R x t w) q s) false (one a_program) refl e)

  pub any_reaches_well_shaped : {t u : Tree} → Reaches R Elsewhere t u → IsWellShaped t → IsWellShaped u
  any_reaches_well_shaped {t} {u} r e = reached Elsewhere t u r refl e

pub reaches_well_shaped : {t u : Tree} → Reaches Contracts Elsewhere t u → IsWellShaped t → IsWellShaped u
reaches_well_shaped r e = any_reaches_well_shaped Contracts contracts_keep rows_keep_shapes r e
