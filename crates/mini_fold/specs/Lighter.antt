-- A step of each rule makes the whole lighter.
use Rattle.mini_laws.proofs.Lighter.{any_step_lighter}
use Rattle.mini_rows.proofs.ConstantWeights as constant_weights
use Rattle.mini_rows.proofs.FoldWeights.{lightens}
use Rattle.mini_rows.proofs.OperandWeights as operand_weights
use Rattle.mini_rows.proofs.SequenceWeights as sequence_weights
use Rattle.mini_rows.proofs.TemplateWeights as template_weights
use Rattle.mini_tree.specs.Rule.{IsLighter}
use Rattle.mini_fold.specs.FoldConstants as constants
use Rattle.mini_fold.specs.FoldKnown as folding
use Rattle.mini_fold.specs.FoldOperands as operands
use Rattle.mini_fold.specs.FoldSequences as sequences
use Rattle.mini_fold.specs.FoldTemplates as templates

pub folds_lighter : IsLighter folding.Gives
folds_lighter = any_step_lighter folding.Gives lightens

pub constants_lighter : IsLighter constants.Gives
constants_lighter = any_step_lighter constants.Gives constant_weights.lightens

pub sequences_lighter : IsLighter sequences.Gives
sequences_lighter = any_step_lighter sequences.Gives sequence_weights.lightens

pub operands_lighter : IsLighter operands.Gives
operands_lighter = any_step_lighter operands.Gives operand_weights.lightens

pub templates_lighter : IsLighter templates.Gives
templates_lighter = any_step_lighter templates.Gives template_weights.lightens
