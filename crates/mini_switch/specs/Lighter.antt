-- A step of the rule makes the whole lighter.
use Rattle.std.proofs.Common.{inl, inr}
use Rattle.mini_model.specs.declared.place.Position.TheVariants.{Stmt}
use Rattle.mini_laws.proofs.Lighter.{any_step_lighter}
use Rattle.mini_rows.specs.Branches.{BranchContracts}
use Rattle.mini_rows.proofs.BranchWeights.{branches_lighten}
use Rattle.mini_tree.specs.Rule.{IsLighter}
use Rattle.mini_tree.specs.Wider.{step_of}
use Rattle.mini_switch.specs.MinimizeSwitchStatements as switching

pub switch_contracts : switching.GivesContracts
switch_contracts (Stmt q) n w r = record { row = inl (inr r.0); lighter = r.1 }
switch_contracts p n w r = absurd r

pub switches_lighter : IsLighter switching.Gives
switches_lighter p t u s = any_step_lighter BranchContracts branches_lighten p t u (step_of switching.Gives BranchContracts switch_contracts p t u s)
