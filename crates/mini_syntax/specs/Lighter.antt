-- A step of each rule makes the whole lighter.
use Rattle.std.proofs.Common.{inl}
use Rattle.mini_model.specs.declared.place.Position.TheVariants.{Stmt}
use Rattle.mini_laws.proofs.Lighter.{any_step_lighter}
use Rattle.mini_rows.specs.Branches.{BranchContracts}
use Rattle.mini_rows.proofs.ArrowWeights.{arrows_lighten}
use Rattle.mini_rows.proofs.BranchWeights.{branches_lighten}
use Rattle.mini_rows.specs.Declarations.{DeclarationContracts}
use Rattle.mini_rows.proofs.DeclarationWeights.{declarations_lighten}
use Rattle.mini_rows.proofs.KeysJoined.{held_keys_lighten}
use Rattle.mini_rows.proofs.SpellKeyWeights as keys
use Rattle.mini_rows.proofs.SpellWeights.{lightens}
use Rattle.mini_tree.specs.Rule.{IsLighter}
use Rattle.mini_tree.specs.Wider.{step_of}
use Rattle.mini_syntax.specs.Spelled.{Gives}
use Rattle.mini_syntax.specs.SubstituteArrowExpression as arrow
use Rattle.mini_syntax.specs.SubstituteObjectProperty as keyed
use Rattle.mini_syntax.specs.SubstitutePropertyKey as holding
use Rattle.mini_syntax.specs.SubstituteReturnStatement as returning

pub spellings_lighter : IsLighter Gives
spellings_lighter = any_step_lighter Gives lightens

pub keys_lighter : IsLighter keyed.Gives
keys_lighter = any_step_lighter keyed.Gives keys.lightens

pub return_contracts : returning.GivesContracts
return_contracts (Stmt q) n w r = record { row = inl (inl r.0); lighter = r.1 }
return_contracts p n w r = absurd r

pub returns_lighter : IsLighter returning.Gives
returns_lighter p t u s = any_step_lighter BranchContracts branches_lighten p t u (step_of returning.Gives BranchContracts return_contracts p t u s)

pub declarations_lighter : IsLighter DeclarationContracts
declarations_lighter = any_step_lighter DeclarationContracts declarations_lighten

pub arrows_lighter : IsLighter arrow.Gives
arrows_lighter = any_step_lighter arrow.Gives arrows_lighten

pub held_keys_lighter : IsLighter holding.Gives
held_keys_lighter = any_step_lighter holding.Gives held_keys_lighten
