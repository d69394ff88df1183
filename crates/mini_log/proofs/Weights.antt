-- Each entry of a log makes the program lighter.
use Rattle.std.proofs.Common.{◌≡◌, ◌<◌, ◌≤◌, subst, arith}
use Rattle.std.specs.Prelude.{◌+◌, List, [], ◌∷◌, length, Some}
use Rattle.std.proofs.lemmas.Option.{same_Some, option_and_then_some}
use Rattle.mini_model.specs.declared.place.Position.{Position}
use Rattle.mini_model.specs.declared.place.Position.TheVariants.{Elsewhere}
use Rattle.mini_model.specs.Paths.{Path}
use Rattle.mini_model.specs.Redex as first
use Rattle.mini_model.specs.Tree.{Tree}
use Rattle.mini_model.specs.Weight.{weight}
use Rattle.mini_laws.specs.Value.{VariableSet}
use Rattle.mini_laws.specs.Weights.{Lightens}
use Rattle.mini_laws.proofs.Lighter.{rows_lighten, any_step_lighter}
use Rattle.mini_rows.specs.Branches.{BranchContracts}
use Rattle.mini_rows.specs.Choices.{ChoiceContracts}
use Rattle.mini_rows.specs.Constants.{ConstantContracts}
use Rattle.mini_rows.specs.Declarations.{DeclarationContracts}
use Rattle.mini_rows.specs.Folding.{FoldingContracts}
use Rattle.mini_rows.specs.Lists.{ListContracts}
use Rattle.mini_rows.specs.Negations.{NegationContracts}
use Rattle.mini_rows.specs.Operands.{OperandContracts}
use Rattle.mini_rows.specs.Spellings.{SpellingContracts}
use Rattle.mini_rows.specs.Switches.{Switches}
use Rattle.mini_rows.specs.Turns.{TurnContracts}
use Rattle.mini_rows.specs.Writes.{WriteContracts}
use Rattle.mini_rows.proofs.BranchWeights as branch
use Rattle.mini_rows.proofs.ChoiceWeights as choice
use Rattle.mini_rows.proofs.ConstantWeights as constant
use Rattle.mini_rows.proofs.DeclarationWeights as declaration
use Rattle.mini_rows.proofs.FoldWeights as fold
use Rattle.mini_rows.proofs.ListWeights as list
use Rattle.mini_rows.proofs.NegationLawful as negation
use Rattle.mini_rows.proofs.OperandWeights as operand
use Rattle.mini_rows.proofs.SpellWeights as spelling
use Rattle.mini_rows.proofs.TurnWeights as turn
use Rattle.mini_rows.proofs.WriteWeights as write
use Rattle.mini_log.specs.declared.row.LogRow.{LogRow}
use Rattle.mini_log.specs.RowStep.{Entry, row_at, row_step, row_numbered, entry_step, replayed}
use Rattle.mini_log.proofs.Rows.{Known, of_first, of_spellings, of_branches, of_lists, of_choices, of_declarations, of_foldings, of_turns, of_constants, of_operands, of_negations, of_writes, Falls, falls}
use Rattle.mini_log.proofs.Walking.{walked}

-- a family of rows that lightens, with an instance of it
record Member (p : Position) (n w : Tree) : Type 1 where
  Family : Position → Tree → Tree → Type 0
  lightens : Lightens Family
  instance : Family p n w

module _ (o : Switches) (W : VariableSet) where
  member : (p : Position) (n w : Tree) → Falls o W p n w → Member p n w
  member p n w f = go f.row
    where
      less : weight p w < weight p n
      less = f.lighter

      go : Known o W p n w → Member p n w
      go (of_first r) = record { Family = first.Contracts; lightens = rows_lighten; instance = record { row = r; lighter = less } }
      go (of_spellings r) = record { Family = SpellingContracts; lightens = spelling.lightens; instance = record { row = r; lighter = less } }
      go (of_branches r) = record { Family = BranchContracts; lightens = branch.branches_lighten; instance = record { row = r; lighter = less } }
      go (of_lists r) = record { Family = ListContracts o; lightens = list.lists_lighten o; instance = record { row = r; lighter = less } }
      go (of_choices r) = record { Family = ChoiceContracts; lightens = choice.lightens; instance = record { row = r; lighter = less } }
      go (of_declarations r) = record { Family = DeclarationContracts; lightens = declaration.declarations_lighten; instance = record { row = r; lighter = less } }
      go (of_foldings r) = record { Family = FoldingContracts; lightens = fold.lightens; instance = record { row = r; lighter = less } }
      go (of_turns r) = record { Family = TurnContracts; lightens = turn.turns_lighten; instance = record { row = r; lighter = less } }
      go (of_constants r) = record { Family = ConstantContracts; lightens = constant.lightens; instance = record { row = r; lighter = less } }
      go (of_operands r) = record { Family = OperandContracts; lightens = operand.lightens; instance = record { row = r; lighter = less } }
      go (of_negations r) = record { Family = NegationContracts; lightens = negation.negations_lighten; instance = record { row = r; lighter = less } }
      go (of_writes r) = record { Family = WriteContracts W; lightens = write.writes_lighten W; instance = record { row = r; lighter = less } }

  falls_lighten : Lightens (Falls o W)
  falls_lighten = record {
    lighter = λ p n w f. f.lighter;
    absent = λ p n w f e. (let m = member p n w f in m.lightens.absent p n w m.instance e);
    items = λ p n w f e. (let m = member p n w f in m.lightens.items p n w m.instance e);
    is_zero = λ p n w f e. (let m = member p n w f in m.lightens.is_zero p n w m.instance e);
    chooses = λ p n w f e. (let m = member p n w f in m.lightens.chooses p n w m.instance e);
  }

  pub step_lighter : (r : LogRow) (t : Tree) (q : Path) (u : Tree) → row_step o.sequences W r t q ≡ Some u → weight Elsewhere u + 1 ≤ weight Elsewhere t
  step_lighter r t q u e =
      let less = any_step_lighter (Falls o W) falls_lighten Elsewhere t u (walked (row_at o.sequences W r) (Falls o W) (falls o W r) Elsewhere t q u e) in
      omega (arith, less)

  pub log_lighter : (t u : Tree) (log : List Entry) → replayed o.sequences W t log ≡ Some u → weight Elsewhere u + length log ≤ weight Elsewhere t
  log_lighter t u [] e = subst (λ v. weight Elsewhere v + 0 ≤ weight Elsewhere t) (same_Some t u e) (omega arith)
  log_lighter t u (x ∷ log) e =
      option_and_then_some (λ v. replayed o.sequences W v log) (entry_step o.sequences W t x) u e (λ v is rest.
      option_and_then_some (λ r. row_step o.sequences W r t x.at) (row_numbered x.row) v is (λ r known done.
      let less = step_lighter r t x.at v done in
      let others = log_lighter v u log rest in
      omega (arith, less, others)))
