-- All families of which each row asks less, as one.
use Rattle.std.specs.Prelude.{◌⊎◌, ◌<◌}
use Rattle.std.proofs.Common.{inl, inr}
use Rattle.mini_model.specs.declared.place.Position.{Position}
use Rattle.mini_model.specs.Tree.{Tree}
use Rattle.mini_model.specs.Weight.{weight}
use Rattle.mini_laws.specs.Value.{VariableSet, nothing}
use Rattle.mini_model.specs.Redex.{Contracts}
use Rattle.mini_rows.specs.Spellings.{SpellingContracts}
use Rattle.mini_rows.specs.SpellKeys.{KeyContracts}
use Rattle.mini_rows.specs.Choices.{ChoiceContracts}
use Rattle.mini_rows.specs.Folding.{FoldingContracts}
use Rattle.mini_rows.specs.Turns.{TurnContracts}
use Rattle.mini_rows.specs.Constants.{ConstantContracts}
use Rattle.mini_rows.specs.Booleans.{BooleanContracts}
use Rattle.mini_rows.specs.DeMorgan.{DeMorganContracts}
use Rattle.mini_rows.specs.Sequences.{SequenceContracts}
use Rattle.mini_rows.specs.Operands.{OperandContracts}
use Rattle.mini_rows.specs.Negations.{NegationContracts}
use Rattle.mini_rows.specs.Templates.{TemplateContracts}
use Rattle.mini_rows.specs.Writes.{WriteContracts}
use Rattle.mini_rows.specs.Arrows.{ArrowContracts}
use Rattle.mini_rows.specs.Branches.{BranchContracts}
use Rattle.mini_rows.specs.Catches.{CatchContracts}
use Rattle.mini_rows.specs.Lists.{ListContracts}
use Rattle.mini_rows.specs.KeyHolders.{HeldKeyContracts}
use Rattle.mini_rows.specs.Declarations.{DeclarationContracts}
use Rattle.mini_rows.specs.Lets.{LetContracts}
use Rattle.mini_rows.specs.LoopGuards.{LoopGuardContracts}
use Rattle.mini_rows.specs.Redex.{Row, AsTest, AsSpelling, AsBranch, AsList, AsKey, AsChoice, AsDeclaration, AsFolding, AsTurn, AsArrow, AsConstant, AsHeldKey, AsBoolean, AsDeMorgan, AsSequence, AsOperand, AsNegation, AsTemplate, AsLoopGuard}
use Rattle.mini_rows.specs.Redex as rows
use Rattle.mini_rows.specs.Names.{NameContracts}
use Rattle.mini_rows.specs.Switches.{Switches}
use Rattle.mini_less.specs.Families.{WholeFamilies, WholeFamiliesReadLess}
use Rattle.mini_less.specs.Rows.{RowsReadLess}
use Rattle.mini_less.proofs.FirstRowsLess.{first_rows_read_less}
use Rattle.mini_less.proofs.SpellingsLess.{spellings_read_less}
use Rattle.mini_less.proofs.KeysLess.{keys_read_less}
use Rattle.mini_less.proofs.ChoicesLess.{choices_read_less}
use Rattle.mini_less.proofs.FoldingsLess.{foldings_read_less}
use Rattle.mini_less.proofs.TurnsLess.{turns_read_less}
use Rattle.mini_less.proofs.ConstantsLess.{constants_read_less}
use Rattle.mini_less.proofs.BooleansLess.{booleans_read_less}
use Rattle.mini_less.proofs.DeMorganLess.{de_morgan_reads_less}
use Rattle.mini_less.proofs.SequencesLess.{sequences_read_less}
use Rattle.mini_less.proofs.OperandsLess.{operands_read_less}
use Rattle.mini_less.proofs.NegationsLess.{negations_read_less}
use Rattle.mini_less.proofs.TemplatesLess.{templates_read_less}
use Rattle.mini_less.proofs.WritesLess.{writes_read_less}
use Rattle.mini_less.proofs.ArrowsLess.{arrows_read_less}
use Rattle.mini_less.proofs.DeclaredKeysLess.{held_keys_read_less}
use Rattle.mini_less.proofs.NamesLess.{names_read_less, catches_read_less}
use Rattle.mini_less.proofs.BranchesLess.{branches_read_less}
use Rattle.mini_less.proofs.Lists.{lists_read_less}
use Rattle.mini_less.proofs.DeclarationsLess.{declarations_read_less}
use Rattle.mini_less.proofs.FadedLess.{lets_read_less}
use Rattle.mini_less.proofs.LoopGuardsLess.{loop_guards_read_less}
use Rattle.mini_less.proofs.Joined.{reads_less_joins, reads_less_narrows}

module _ (o : Switches) (W : VariableSet) where
  abbrev From21 : Position → Tree → Tree → Type 0
  From21 p n w = LoopGuardContracts o p n w ⊎ LetContracts W p n w

  abbrev From20 : Position → Tree → Tree → Type 0
  From20 p n w = DeclarationContracts p n w ⊎ From21 p n w

  abbrev From19 : Position → Tree → Tree → Type 0
  From19 p n w = ListContracts o p n w ⊎ From20 p n w

  abbrev From18 : Position → Tree → Tree → Type 0
  From18 p n w = BranchContracts p n w ⊎ From19 p n w

  abbrev From17 : Position → Tree → Tree → Type 0
  From17 p n w = CatchContracts p n w ⊎ From18 p n w

  abbrev From16 : Position → Tree → Tree → Type 0
  From16 p n w = NameContracts o p n w ⊎ From17 p n w

  abbrev From15 : Position → Tree → Tree → Type 0
  From15 p n w = ArrowContracts p n w ⊎ From16 p n w

  abbrev From14 : Position → Tree → Tree → Type 0
  From14 p n w = HeldKeyContracts p n w ⊎ From15 p n w

  abbrev From13 : Position → Tree → Tree → Type 0
  From13 p n w = WriteContracts W p n w ⊎ From14 p n w

  abbrev From12 : Position → Tree → Tree → Type 0
  From12 p n w = TemplateContracts p n w ⊎ From13 p n w

  abbrev From11 : Position → Tree → Tree → Type 0
  From11 p n w = NegationContracts p n w ⊎ From12 p n w

  abbrev From10 : Position → Tree → Tree → Type 0
  From10 p n w = OperandContracts p n w ⊎ From11 p n w

  abbrev From9 : Position → Tree → Tree → Type 0
  From9 p n w = SequenceContracts p n w ⊎ From10 p n w

  abbrev From8 : Position → Tree → Tree → Type 0
  From8 p n w = DeMorganContracts p n w ⊎ From9 p n w

  abbrev From7 : Position → Tree → Tree → Type 0
  From7 p n w = BooleanContracts p n w ⊎ From8 p n w

  abbrev From6 : Position → Tree → Tree → Type 0
  From6 p n w = ConstantContracts p n w ⊎ From7 p n w

  abbrev From5 : Position → Tree → Tree → Type 0
  From5 p n w = TurnContracts p n w ⊎ From6 p n w

  abbrev From4 : Position → Tree → Tree → Type 0
  From4 p n w = FoldingContracts p n w ⊎ From5 p n w

  abbrev From3 : Position → Tree → Tree → Type 0
  From3 p n w = ChoiceContracts p n w ⊎ From4 p n w

  abbrev From2 : Position → Tree → Tree → Type 0
  From2 p n w = KeyContracts p n w ⊎ From3 p n w

  abbrev From1 : Position → Tree → Tree → Type 0
  From1 p n w = SpellingContracts p n w ⊎ From2 p n w

pub whole_families_read_less : WholeFamiliesReadLess
whole_families_read_less o W =
    reads_less_joins Contracts (From1 o W) first_rows_read_less
    (reads_less_joins SpellingContracts (From2 o W) spellings_read_less
    (reads_less_joins KeyContracts (From3 o W) keys_read_less
    (reads_less_joins ChoiceContracts (From4 o W) choices_read_less
    (reads_less_joins FoldingContracts (From5 o W) foldings_read_less
    (reads_less_joins TurnContracts (From6 o W) turns_read_less
    (reads_less_joins ConstantContracts (From7 o W) constants_read_less
    (reads_less_joins BooleanContracts (From8 o W) booleans_read_less
    (reads_less_joins DeMorganContracts (From9 o W) de_morgan_reads_less
    (reads_less_joins SequenceContracts (From10 o W) sequences_read_less
    (reads_less_joins OperandContracts (From11 o W) operands_read_less
    (reads_less_joins NegationContracts (From12 o W) negations_read_less
    (reads_less_joins TemplateContracts (From13 o W) templates_read_less
    (reads_less_joins (WriteContracts W) (From14 o W) (writes_read_less W)
    (reads_less_joins HeldKeyContracts (From15 o W) held_keys_read_less
    (reads_less_joins ArrowContracts (From16 o W) arrows_read_less
    (reads_less_joins (NameContracts o) (From17 o W) (names_read_less o)
    (reads_less_joins CatchContracts (From18 o W) catches_read_less
    (reads_less_joins BranchContracts (From19 o W) branches_read_less
    (reads_less_joins (ListContracts o) (From20 o W) (lists_read_less o).1
    (reads_less_joins DeclarationContracts (From21 o W) declarations_read_less
    (reads_less_joins (LoopGuardContracts o) (LetContracts W) (loop_guards_read_less o) (lets_read_less W))))))))))))))))))))))

-- ---- all rows that any program is rewritten by, but those of names

-- which of the families has the row
module _ (o : Switches) (p : Position) (n w : Tree) (lighter : weight p w < weight p n) where
  abbrev Whole : Type 0
  Whole = WholeFamilies o nothing p n w

  families : Row o p n w → Whole
  families (AsTest r) = inl (record { row = r; lighter = lighter })
  families (AsSpelling r) = inr (inl (record { row = r; lighter = lighter }))
  families (AsBranch r) = inr (inr (inr (inr (inr (inr (inr (inr (inr (inr (inr (inr (inr (inr (inr (inr (inr (inr (inl (record { row = r; lighter = lighter })))))))))))))))))))
  families (AsList r) = inr (inr (inr (inr (inr (inr (inr (inr (inr (inr (inr (inr (inr (inr (inr (inr (inr (inr (inr (inl (record { row = r; lighter = lighter }))))))))))))))))))))
  families (AsKey r) = inr (inr (inl (record { row = r; lighter = lighter })))
  families (AsChoice r e) = inr (inr (inr (inl (record { row = r; lighter = lighter }))))
  families (AsDeclaration r) = inr (inr (inr (inr (inr (inr (inr (inr (inr (inr (inr (inr (inr (inr (inr (inr (inr (inr (inr (inr (inl (record { row = r; lighter = lighter })))))))))))))))))))))
  families (AsFolding r) = inr (inr (inr (inr (inl (record { row = r; lighter = lighter })))))
  families (AsTurn r) = inr (inr (inr (inr (inr (inl (record { row = r; lighter = lighter }))))))
  families (AsArrow r) = inr (inr (inr (inr (inr (inr (inr (inr (inr (inr (inr (inr (inr (inr (inr (inl (record { row = r; lighter = lighter }))))))))))))))))
  families (AsConstant r) = inr (inr (inr (inr (inr (inr (inl (record { row = r; lighter = lighter })))))))
  families (AsHeldKey r) = inr (inr (inr (inr (inr (inr (inr (inr (inr (inr (inr (inr (inr (inr (inl (record { row = r; lighter = lighter })))))))))))))))
  families (AsBoolean r) = inr (inr (inr (inr (inr (inr (inr (inl (record { row = r; lighter = lighter }))))))))
  families (AsDeMorgan r) = inr (inr (inr (inr (inr (inr (inr (inr (inl (record { row = r; lighter = lighter })))))))))
  families (AsSequence r) = inr (inr (inr (inr (inr (inr (inr (inr (inr (inl (record { row = r; lighter = lighter }))))))))))
  families (AsOperand r) = inr (inr (inr (inr (inr (inr (inr (inr (inr (inr (inl (record { row = r; lighter = lighter })))))))))))
  families (AsNegation r) = inr (inr (inr (inr (inr (inr (inr (inr (inr (inr (inr (inl (record { row = r; lighter = lighter }))))))))))))
  families (AsTemplate r) = inr (inr (inr (inr (inr (inr (inr (inr (inr (inr (inr (inr (inl (record { row = r; lighter = lighter })))))))))))))
  families (AsLoopGuard r) = inr (inr (inr (inr (inr (inr (inr (inr (inr (inr (inr (inr (inr (inr (inr (inr (inr (inr (inr (inr (inr (inl (record { row = r; lighter = lighter }))))))))))))))))))))))

pub rows_read_less : RowsReadLess
rows_read_less o = reads_less_narrows (rows.Contracts o) (WholeFamilies o nothing) (λ p n w r. families o p n w r.lighter r.row) (whole_families_read_less o nothing)
