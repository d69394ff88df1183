-- A step in the own code of a function, of an arrow function, of a program or of a part of a class
-- or a pattern is a rewrite, so it makes the whole lighter.
use Rattle.mini_kept.specs.Without.{BodySets}
use Rattle.mini_laws.proofs.Lighter.{any_step_lighter}
use Rattle.mini_rows.specs.OwnArrows.{OwnArrow}
use Rattle.mini_rows.specs.OwnParts.{OwnPart}
use Rattle.mini_rows.specs.OwnPrograms.{OwnProgram}
use Rattle.mini_rows.specs.Steady.{OwnFunction, OwnRows}
use Rattle.mini_rows.proofs.OwnLightens.{own_functions_lighten, own_arrows_lighten, own_parts_lighten, own_programs_lighten}
use Rattle.mini_steady.specs.Own.{KeepsEach}
use Rattle.mini_tree.specs.Rule.{IsLighter}

pub function_lighter : (F : OwnRows) → KeepsEach F → (S : BodySets) → IsLighter (OwnFunction F S)
function_lighter F keeps S = any_step_lighter (OwnFunction F S) (own_functions_lighten F (λ V. (keeps V).lightens) S)

pub arrow_lighter : (F : OwnRows) → KeepsEach F → (S : BodySets) → IsLighter (OwnArrow F S)
arrow_lighter F keeps S = any_step_lighter (OwnArrow F S) (own_arrows_lighten F (λ V. (keeps V).lightens) S)

pub program_lighter : (F : OwnRows) → KeepsEach F → (S : BodySets) → IsLighter (OwnProgram F S)
program_lighter F keeps S = any_step_lighter (OwnProgram F S) (own_programs_lighten F (λ V. (keeps V).lightens) S)

pub part_lighter : (F : OwnRows) → KeepsEach F → (S : BodySets) → IsLighter (OwnPart F S)
part_lighter F keeps S = any_step_lighter (OwnPart F S) (own_parts_lighten F (λ V. (keeps V).lightens) S)
