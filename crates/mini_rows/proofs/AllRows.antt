-- All rows are lawful.
use Rattle.std.proofs.Common.{◌⊎◌, inl, inr, ◌<◌, Bool}
use Rattle.mini_model.specs.declared.place.Position.{Position}
use Rattle.mini_model.specs.declared.shape.Shape.{Shape}
use Rattle.mini_model.specs.Tree.{Tree}
use Rattle.mini_model.specs.Weight.{weight}
use Rattle.mini_model.specs.Redex as first
use Rattle.mini_laws.specs.Value.{VariableSet, nothing}
use Rattle.mini_kept.specs.Lawful.{Lawful}
use Rattle.mini_kept.specs.Loosely.{LawfulWith, LawfulLoosely}
use Rattle.mini_kept.proofs.Lawful.{lawful_join, lawful_narrowed, rows_are_lawful}
use Rattle.mini_kept.proofs.Loosely.{lawful_is_loose, loose_join, loose_narrowed, loose_wider}
use Rattle.mini_kept.proofs.WithoutLists.{nothing_part}
use Rattle.mini_rows.specs.Switches.{Switches, let_go, liberties}
use Rattle.mini_rows.specs.Arranged.{SameFixed, WhereFixed}
use Rattle.mini_rows.specs.Spellings.{SpellingContracts}
use Rattle.mini_rows.specs.Branches.{BranchContracts}
use Rattle.mini_rows.specs.Lists.{ListContracts}
use Rattle.mini_rows.specs.SpellKeys.{KeyContracts}
use Rattle.mini_rows.specs.Choices.{ChoiceContracts}
use Rattle.mini_rows.specs.Declarations.{DeclarationContracts}
use Rattle.mini_rows.specs.Folding.{FoldingContracts}
use Rattle.mini_rows.specs.Turns.{TurnContracts}
use Rattle.mini_rows.specs.Arrows.{ArrowContracts}
use Rattle.mini_rows.specs.DeMorgan.{DeMorganContracts}
use Rattle.mini_rows.specs.Sequences.{SequenceContracts}
use Rattle.mini_rows.specs.Operands.{OperandContracts}
use Rattle.mini_rows.specs.Negations.{NegationContracts}
use Rattle.mini_rows.specs.Templates.{TemplateContracts}
use Rattle.mini_rows.specs.LoopGuards.{LoopGuardContracts}
use Rattle.mini_rows.specs.Booleans.{BooleanContracts}
use Rattle.mini_rows.specs.Constants.{ConstantContracts}
use Rattle.mini_rows.specs.KeyHolders.{HeldKeyContracts}
use Rattle.mini_rows.specs.Unused.{UnusedContracts}
use Rattle.mini_rows.specs.Names.{NameContracts}
use Rattle.mini_rows.specs.Catches.{CatchContracts}
use Rattle.mini_rows.specs.Writes.{WriteContracts}
use Rattle.mini_rows.specs.Editions.{CatchesIn, WritesIn}
use Rattle.mini_rows.specs.Lets.{LetContracts}
use Rattle.mini_rows.specs.Redex.{Row, Contracts, Rewrites, AsTest, AsSpelling, AsBranch, AsList, AsKey, AsChoice, AsDeclaration, AsFolding, AsTurn, AsArrow, AsConstant, AsHeldKey, AsBoolean, AsDeMorgan, AsSequence, AsOperand, AsNegation, AsTemplate, AsLoopGuard}
use Rattle.mini_rows.proofs.SpellKeyLawful as keys
use Rattle.mini_rows.proofs.FoldRows.{foldings_lawful, foldings_loose}
use Rattle.mini_rows.proofs.SpellLawful as spellings
use Rattle.mini_rows.proofs.BranchLawful.{branches_lawful, branches_loose}
use Rattle.mini_rows.proofs.ListLawful.{lists_lawful, lists_loose}
use Rattle.mini_rows.proofs.ChoiceLawful as choices
use Rattle.mini_rows.proofs.DeclarationLawful.{declarations_lawful}
use Rattle.mini_rows.proofs.TurnLawful.{turns_lawful}
use Rattle.mini_rows.proofs.ArrowLawful.{arrows_lawful}
use Rattle.mini_rows.proofs.DeMorganLawful.{de_morgan_lawful}
use Rattle.mini_rows.proofs.SequenceLawful.{sequences_lawful}
use Rattle.mini_rows.proofs.OperandLawful.{operands_lawful}
use Rattle.mini_rows.proofs.NegationLawful.{negations_lawful}
use Rattle.mini_rows.proofs.TemplateLawful.{templates_lawful}
use Rattle.mini_rows.proofs.LoopGuardsKept.{loop_guards_lawful}
use Rattle.mini_rows.proofs.BooleanLawful.{booleans_lawful}
use Rattle.mini_rows.proofs.JoinedLawful.{constants_lawful}
use Rattle.mini_rows.proofs.KeysJoined.{held_keys_lawful}
use Rattle.mini_rows.proofs.CatchLawful.{catches_lawful}
use Rattle.mini_rows.proofs.NameLawful.{names_lawful}
use Rattle.mini_rows.proofs.WriteLawful.{writes_lawful}
use Rattle.mini_rows.proofs.LetLawful.{lets_lawful}
use Rattle.mini_rows.proofs.FunctionBodyLawful.{unused_loose}

module _ (o : Switches) where
  -- by family

  abbrev Pieces : Position → Tree → Tree → Type 0
  Pieces p n w = TemplateContracts p n w ⊎ LoopGuardContracts o p n w

  abbrev Texts : Position → Tree → Tree → Type 0
  Texts p n w = NegationContracts p n w ⊎ Pieces p n w

  abbrev Answers : Position → Tree → Tree → Type 0
  Answers p n w = OperandContracts p n w ⊎ Texts p n w

  abbrev Parted : Position → Tree → Tree → Type 0
  Parted p n w = SequenceContracts p n w ⊎ Answers p n w

  abbrev Orders : Position → Tree → Tree → Type 0
  Orders p n w = DeMorganContracts p n w ⊎ Parted p n w

  abbrev Voids : Position → Tree → Tree → Type 0
  Voids p n w = BooleanContracts p n w ⊎ Orders p n w

  abbrev Truths : Position → Tree → Tree → Type 0
  Truths p n w = HeldKeyContracts p n w ⊎ Voids p n w

  abbrev Newest : Position → Tree → Tree → Type 0
  Newest p n w = ConstantContracts p n w ⊎ Truths p n w

  abbrev Ends : Position → Tree → Tree → Type 0
  Ends p n w = ArrowContracts p n w ⊎ Newest p n w

  abbrev Functions : Position → Tree → Tree → Type 0
  Functions p n w = TurnContracts p n w ⊎ Ends p n w

  abbrev End : Position → Tree → Tree → Type 0
  End p n w = FoldingContracts p n w ⊎ Functions p n w

  abbrev Known : Position → Tree → Tree → Type 0
  Known p n w = DeclarationContracts p n w ⊎ End p n w

  abbrev Final : Position → Tree → Tree → Type 0
  Final p n w = ChoiceContracts p n w ⊎ Known p n w

  abbrev Latest : Position → Tree → Tree → Type 0
  Latest p n w = KeyContracts p n w ⊎ Final p n w

  abbrev Last : Position → Tree → Tree → Type 0
  Last p n w = ListContracts o p n w ⊎ Latest p n w

  abbrev Late : Position → Tree → Tree → Type 0
  Late p n w = BranchContracts p n w ⊎ Last p n w

  abbrev Others : Position → Tree → Tree → Type 0
  Others p n w = SpellingContracts p n w ⊎ Late p n w

  abbrev pub Families : Position → Tree → Tree → Type 0
  Families p n w = first.Contracts p n w ⊎ Others p n w

  functions_lawful : Lawful Functions
  functions_lawful =
      lawful_join TurnContracts Ends turns_lawful
      (lawful_join ArrowContracts Newest arrows_lawful
      (lawful_join ConstantContracts Truths constants_lawful (lawful_join HeldKeyContracts Voids held_keys_lawful (lawful_join BooleanContracts Orders booleans_lawful (lawful_join DeMorganContracts Parted de_morgan_lawful (lawful_join SequenceContracts Answers sequences_lawful (lawful_join OperandContracts Texts operands_lawful (lawful_join NegationContracts Pieces negations_lawful (lawful_join TemplateContracts (LoopGuardContracts o) templates_lawful (loop_guards_lawful o))))))))))

  -- those that keep what a write of each variable does

  abbrev FixedEnd : Position → Tree → Tree → Type 0
  FixedEnd p n w = WhereFixed FoldingContracts p n w ⊎ Functions p n w

  abbrev FixedKnown : Position → Tree → Tree → Type 0
  FixedKnown p n w = DeclarationContracts p n w ⊎ FixedEnd p n w

  abbrev FixedFinal : Position → Tree → Tree → Type 0
  FixedFinal p n w = WhereFixed ChoiceContracts p n w ⊎ FixedKnown p n w

  abbrev FixedLatest : Position → Tree → Tree → Type 0
  FixedLatest p n w = KeyContracts p n w ⊎ FixedFinal p n w

  abbrev FixedLast : Position → Tree → Tree → Type 0
  FixedLast p n w = WhereFixed (ListContracts o) p n w ⊎ FixedLatest p n w

  abbrev FixedLate : Position → Tree → Tree → Type 0
  FixedLate p n w = WhereFixed BranchContracts p n w ⊎ FixedLast p n w

  abbrev FixedOthers : Position → Tree → Tree → Type 0
  FixedOthers p n w = SpellingContracts p n w ⊎ FixedLate p n w

  abbrev FixedFamilies : Position → Tree → Tree → Type 0
  FixedFamilies p n w = first.Contracts p n w ⊎ FixedOthers p n w

  latest_lawful : Lawful FixedLatest
  latest_lawful = lawful_join KeyContracts FixedFinal keys.lawful (lawful_join (WhereFixed ChoiceContracts) FixedKnown choices.lawful (lawful_join DeclarationContracts FixedEnd declarations_lawful (lawful_join (WhereFixed FoldingContracts) Functions foldings_lawful functions_lawful)))

  fixed_lawful : Lawful FixedFamilies
  fixed_lawful =
      lawful_join first.Contracts FixedOthers rows_are_lawful
      (lawful_join SpellingContracts FixedLate spellings.lawful (lawful_join (WhereFixed BranchContracts) FixedLast branches_lawful (lawful_join (WhereFixed (ListContracts o)) FixedLatest (lists_lawful o) latest_lawful)))

  where_fixed : (p : Position) (n w : Tree) → Families p n w → SameFixed p n w → FixedFamilies p n w
  where_fixed p n w (inl c) f = inl c
  where_fixed p n w (inr (inl c)) f = inr (inl c)
  where_fixed p n w (inr (inr (inl c))) f = inr (inr (inl (c, f)))
  where_fixed p n w (inr (inr (inr (inl c)))) f = inr (inr (inr (inl (c, f))))
  where_fixed p n w (inr (inr (inr (inr (inl c))))) f = inr (inr (inr (inr (inl c))))
  where_fixed p n w (inr (inr (inr (inr (inr (inl c)))))) f = inr (inr (inr (inr (inr (inl (c, f))))))
  where_fixed p n w (inr (inr (inr (inr (inr (inr (inl c))))))) f = inr (inr (inr (inr (inr (inr (inl c))))))
  where_fixed p n w (inr (inr (inr (inr (inr (inr (inr (inl c)))))))) f = inr (inr (inr (inr (inr (inr (inr (inl (c, f))))))))
  where_fixed p n w (inr (inr (inr (inr (inr (inr (inr (inr c)))))))) f = inr (inr (inr (inr (inr (inr (inr (inr c)))))))

  -- all of them, loosely
  families_loose : (K : Shape → Bool) → LawfulLoosely K Families
  families_loose K =
      loose_join first.Contracts Others K nothing (lawful_is_loose first.Contracts K nothing rows_are_lawful)
      (loose_join SpellingContracts Late K nothing (lawful_is_loose SpellingContracts K nothing spellings.lawful)
      (loose_join BranchContracts Last K nothing (branches_loose K)
      (loose_join (ListContracts o) Latest K nothing (lists_loose o K)
      (loose_join KeyContracts Final K nothing (lawful_is_loose KeyContracts K nothing keys.lawful)
      (loose_join ChoiceContracts Known K nothing (choices.loose K)
      (loose_join DeclarationContracts End K nothing (lawful_is_loose DeclarationContracts K nothing declarations_lawful)
      (loose_join FoldingContracts Functions K nothing (foldings_loose K) (lawful_is_loose Functions K nothing functions_lawful))))))))

  by_row : (p : Position) (n w : Tree) → Row o p n w → weight p w < weight p n → Families p n w
  by_row p n w (AsTest r) l = inl (record { row = r; lighter = l })
  by_row p n w (AsSpelling r) l = inr (inl (record { row = r; lighter = l }))
  by_row p n w (AsBranch r) l = inr (inr (inl (record { row = r; lighter = l })))
  by_row p n w (AsList r) l = inr (inr (inr (inl (record { row = r; lighter = l }))))
  by_row p n w (AsKey r) l = inr (inr (inr (inr (inl (record { row = r; lighter = l })))))
  by_row p n w (AsChoice r e) l = inr (inr (inr (inr (inr (inl (record { row = r; lighter = l }))))))
  by_row p n w (AsDeclaration r) l = inr (inr (inr (inr (inr (inr (inl (record { row = r; lighter = l })))))))
  by_row p n w (AsFolding r) l = inr (inr (inr (inr (inr (inr (inr (inl (record { row = r; lighter = l }))))))))
  by_row p n w (AsTurn r) l = inr (inr (inr (inr (inr (inr (inr (inr (inl (record { row = r; lighter = l })))))))))
  by_row p n w (AsArrow r) l = inr (inr (inr (inr (inr (inr (inr (inr (inr (inl (record { row = r; lighter = l }))))))))))
  by_row p n w (AsConstant r) l = inr (inr (inr (inr (inr (inr (inr (inr (inr (inr (inl (record { row = r; lighter = l })))))))))))
  by_row p n w (AsHeldKey r) l = inr (inr (inr (inr (inr (inr (inr (inr (inr (inr (inr (inl (record { row = r; lighter = l }))))))))))))
  by_row p n w (AsBoolean r) l = inr (inr (inr (inr (inr (inr (inr (inr (inr (inr (inr (inr (inl (record { row = r; lighter = l })))))))))))))
  by_row p n w (AsDeMorgan r) l = inr (inr (inr (inr (inr (inr (inr (inr (inr (inr (inr (inr (inr (inl (record { row = r; lighter = l }))))))))))))))
  by_row p n w (AsSequence r) l = inr (inr (inr (inr (inr (inr (inr (inr (inr (inr (inr (inr (inr (inr (inl (record { row = r; lighter = l })))))))))))))))
  by_row p n w (AsOperand r) l = inr (inr (inr (inr (inr (inr (inr (inr (inr (inr (inr (inr (inr (inr (inr (inl (record { row = r; lighter = l }))))))))))))))))
  by_row p n w (AsNegation r) l = inr (inr (inr (inr (inr (inr (inr (inr (inr (inr (inr (inr (inr (inr (inr (inr (inl (record { row = r; lighter = l })))))))))))))))))
  by_row p n w (AsTemplate r) l = inr (inr (inr (inr (inr (inr (inr (inr (inr (inr (inr (inr (inr (inr (inr (inr (inr (inl (record { row = r; lighter = l }))))))))))))))))))
  by_row p n w (AsLoopGuard r) l = inr (inr (inr (inr (inr (inr (inr (inr (inr (inr (inr (inr (inr (inr (inr (inr (inr (inr (record { row = r; lighter = l }))))))))))))))))))

  pub by_family : (p : Position) (n w : Tree) → Contracts o p n w → Families p n w
  by_family p n w c = by_row p n w c.row c.lighter

  pub all_lawful : Lawful (WhereFixed (Contracts o))
  all_lawful = lawful_narrowed (WhereFixed (Contracts o)) FixedFamilies (λ p n w c. where_fixed p n w (by_family p n w c.0) c.1) fixed_lawful

  contracts_loose : (K : Shape → Bool) → LawfulLoosely K (Contracts o)
  contracts_loose K = loose_narrowed (Contracts o) Families K nothing by_family (families_loose K)

  module _ (W : VariableSet) where
    abbrev Caught : Position → Tree → Tree → Type 0
    Caught = CatchesIn o.edition

    abbrev Assigned : Position → Tree → Tree → Type 0
    Assigned = WritesIn o.edition W

    abbrev Written : Position → Tree → Tree → Type 0
    Written p n w = Assigned p n w ⊎ LetContracts W p n w

    abbrev Named : Position → Tree → Tree → Type 0
    Named p n w = Caught p n w ⊎ Written p n w

    abbrev Dropping : Position → Tree → Tree → Type 0
    Dropping p n w = NameContracts o p n w ⊎ Named p n w

    abbrev Going : Position → Tree → Tree → Type 0
    Going p n w = UnusedContracts (liberties o W) p n w ⊎ Dropping p n w

    wider : (R : Position → Tree → Tree → Type 0) → LawfulLoosely (let_go o) R → LawfulWith (let_go o) W R
    wider R l = loose_wider R (let_go o) nothing W (nothing_part W) l

    -- with those of names that nothing mentions, and of names that can be written
    pub all_loose : LawfulWith (let_go o) W (Rewrites o W)
    all_loose =
        loose_join (Contracts o) Going (let_go o) W (wider (Contracts o) (contracts_loose (let_go o)))
        (loose_join (UnusedContracts (liberties o W)) Dropping (let_go o) W (unused_loose (let_go o) (liberties o W))
        (loose_join (NameContracts o) Named (let_go o) W (wider (NameContracts o) (names_lawful o))
        (loose_join Caught Written (let_go o) W (loose_narrowed Caught CatchContracts (let_go o) W (λ p n w c. c.0) (wider CatchContracts (catches_lawful (let_go o))))
        (loose_join Assigned (LetContracts W) (let_go o) W (loose_narrowed Assigned (WriteContracts W) (let_go o) W (λ p n w c. c.0) (writes_lawful (let_go o) W)) (lets_lawful (let_go o) W)))))
