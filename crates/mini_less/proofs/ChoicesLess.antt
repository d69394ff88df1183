-- Rows of choices ask less.
use Rattle.std.proofs.Common.{inl, inr, true}
use Rattle.mini_model.specs.declared.operator.AssignmentOperator.TheVariants.{Assign}
use Rattle.mini_model.specs.declared.place.Position.{Position}
use Rattle.mini_model.specs.declared.place.Position.TheVariants.{Expr}
use Rattle.mini_model.specs.Tree.{Tree, identifier}
use Rattle.mini_node.specs.Kinds.{computed_member}
use Rattle.mini_rows.specs.Choices.{ChoiceRow, ChoiceContracts, Shorter, TestedBranch, SharedBranch, OptionalChain, JoinedCall, ChainLink, ChainEnd, BothSides, ChosenIndexed, ZeroFirst}
use Rattle.mini_less.specs.Families.{LessAt, ChoicesReadLess}
use Rattle.mini_less.proofs.ChainsLess.{chain_less, chains_less, ends_less}
use Rattle.mini_less.proofs.ConditionalsLess.{lighter_less, own_less, held_less, calls_less, both_less, chosen_target_less, zero_less}
use Rattle.mini_less.proofs.LessRows.{reads_less_by}

row_less : (p : Position) (n w : Tree) → ChoiceRow p n w → LessAt p n w
row_less (Expr q) n w (Shorter r) = lighter_less q n w r
row_less (Expr q) n w (TestedBranch r) = own_less q n w r
row_less (Expr q) n w (SharedBranch r) = held_less q n w r
row_less (Expr q) n w (OptionalChain r) = chain_less q n w r
row_less (Expr q) n w (JoinedCall r) = calls_less q n w true r
row_less (Expr q) n w (ChainLink r) = chains_less q n w r
row_less (Expr q) n w (ChainEnd r) = ends_less q n w r
row_less (Expr q) n w (BothSides r) = both_less q n w r
row_less (Expr q) n w (ChosenIndexed r) = chosen_target_less q n w Assign (computed_member (identifier r.name) r.key) r.a r.b r.c r.shape r.written
row_less (Expr q) n w (ZeroFirst r) = zero_less q n w true r
row_less p n w r = absurd r

pub choices_read_less : ChoicesReadLess
choices_read_less = reads_less_by ChoiceContracts (λ p n w c. row_less p n w c.row)
