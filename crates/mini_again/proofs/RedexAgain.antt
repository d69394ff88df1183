-- What all rows write for a node they write for the node that is read again.
use Rattle.mini_again.proofs.ArrowsAgain.{arrow_row_again}
use Rattle.mini_again.proofs.BooleansAgain.{boolean_row_again}
use Rattle.mini_again.proofs.BranchesAgain.{branch_row_again}
use Rattle.mini_again.proofs.CatchesAgain.{catch_contracts_again}
use Rattle.mini_again.proofs.ChoicesAgain.{choice_row_again, choice_in_again}
use Rattle.mini_again.proofs.ConstantsAgain.{constant_row_again}
use Rattle.mini_again.proofs.DeMorganAgain.{de_morgan_row_again}
use Rattle.mini_again.proofs.DeclarationsAgain.{declaration_row_again}
use Rattle.mini_again.proofs.FoldingAgain.{folding_row_again}
use Rattle.mini_again.proofs.KeyHoldersAgain.{held_key_row_again}
use Rattle.mini_again.proofs.LetsAgain.{let_contracts_again}
use Rattle.mini_again.proofs.ListsAgain.{list_row_again}
use Rattle.mini_again.proofs.LoopGuardsAgain.{loop_guard_row_again}
use Rattle.mini_again.proofs.ModelRedexAgain.{row_again as redex_row_again}
use Rattle.mini_again.proofs.ModelWeightAgain.{weight_again}
use Rattle.mini_again.proofs.NamesAgain.{name_contracts_again}
use Rattle.mini_again.proofs.NegationsAgain.{negation_row_again}
use Rattle.mini_again.proofs.OperandsAgain.{operand_row_again}
use Rattle.mini_again.proofs.SequencesAgain.{sequence_row_again}
use Rattle.mini_again.proofs.SpellKeysAgain.{key_row_again}
use Rattle.mini_again.proofs.SpellingsAgain.{spelling_row_again}
use Rattle.mini_again.proofs.TemplatesAgain.{template_row_again}
use Rattle.mini_again.proofs.TurnsAgain.{turn_row_again}
use Rattle.mini_again.proofs.UnusedAgain.{unused_contracts_again}
use Rattle.mini_again.proofs.WritesAgain.{writes_in_again}
use Rattle.mini_again.specs.Again.{Renaming, again, with_others_in}
use Rattle.mini_laws.specs.Value.{VariableSet}
use Rattle.mini_model.specs.Tree.{Tree}
use Rattle.mini_model.specs.declared.place.Position.{Position}
use Rattle.mini_rows.specs.Redex.{Contracts, Rewrites, Row, AsTest, AsSpelling, AsBranch, AsList, AsKey, AsChoice, AsDeclaration, AsFolding, AsTurn, AsArrow, AsConstant, AsHeldKey, AsBoolean, AsDeMorgan, AsSequence, AsOperand, AsNegation, AsTemplate, AsLoopGuard}
use Rattle.mini_rows.specs.Switches.{Switches, liberties}
use Rattle.std.proofs.Common.{inl, inr}

pub row_again : (ρ : Renaming) (o : Switches) (p : Position) (n w : Tree) → Row o p n w → Row o p (again ρ n) (again ρ w)
row_again ρ o p n w (AsTest r) = AsTest (redex_row_again ρ p n w r)
row_again ρ o p n w (AsSpelling r) = AsSpelling (spelling_row_again ρ p n w r)
row_again ρ o p n w (AsBranch r) = AsBranch (branch_row_again ρ p n w r)
row_again ρ o p n w (AsList r) = AsList (list_row_again ρ o p n w r)
row_again ρ o p n w (AsKey r) = AsKey (key_row_again ρ p n w r)
row_again ρ o p n w (AsChoice r e) = AsChoice (choice_row_again ρ p n w r) (choice_in_again o.edition ρ p n w r e)
row_again ρ o p n w (AsDeclaration r) = AsDeclaration (declaration_row_again ρ p n w r)
row_again ρ o p n w (AsFolding r) = AsFolding (folding_row_again ρ p n w r)
row_again ρ o p n w (AsTurn r) = AsTurn (turn_row_again ρ p n w r)
row_again ρ o p n w (AsArrow r) = AsArrow (arrow_row_again ρ p n w r)
row_again ρ o p n w (AsConstant r) = AsConstant (constant_row_again ρ p n w r)
row_again ρ o p n w (AsHeldKey r) = AsHeldKey (held_key_row_again ρ p n w r)
row_again ρ o p n w (AsBoolean r) = AsBoolean (boolean_row_again ρ p n w r)
row_again ρ o p n w (AsDeMorgan r) = AsDeMorgan (de_morgan_row_again ρ p n w r)
row_again ρ o p n w (AsSequence r) = AsSequence (sequence_row_again ρ p n w r)
row_again ρ o p n w (AsOperand r) = AsOperand (operand_row_again ρ p n w r)
row_again ρ o p n w (AsNegation r) = AsNegation (negation_row_again ρ p n w r)
row_again ρ o p n w (AsTemplate r) = AsTemplate (template_row_again ρ p n w r)
row_again ρ o p n w (AsLoopGuard r) = AsLoopGuard (loop_guard_row_again ρ o p n w r)

pub contracts_again : (ρ : Renaming) (o : Switches) (p : Position) (n w : Tree) → Contracts o p n w → Contracts o p (again ρ n) (again ρ w)
contracts_again ρ o p n w r = record {
  row = row_again ρ o p n w r.row;
  lighter = simp (weight_again ρ p w, weight_again ρ p n) r.lighter;
}

pub rewrites_again : (ρ : Renaming) (o : Switches) (W : VariableSet) (p : Position) (n w : Tree) → Rewrites o (with_others_in ρ W) p n w → Rewrites o W p (again ρ n) (again ρ w)
rewrites_again ρ o W p n w (inl r) = inl (contracts_again ρ o p n w r)
rewrites_again ρ o W p n w (inr (inl r)) = inr (inl (unused_contracts_again ρ (liberties o W) p n w r))
rewrites_again ρ o W p n w (inr (inr (inl r))) = inr (inr (inl (name_contracts_again ρ o p n w r)))
rewrites_again ρ o W p n w (inr (inr (inr (inl r)))) = inr (inr (inr (inl (catch_contracts_again ρ p n w r.0, r.1))))
rewrites_again ρ o W p n w (inr (inr (inr (inr (inl r))))) = inr (inr (inr (inr (inl (writes_in_again o.edition ρ W p n w r)))))
rewrites_again ρ o W p n w (inr (inr (inr (inr (inr r))))) = inr (inr (inr (inr (inr (let_contracts_again ρ W p n w r)))))
