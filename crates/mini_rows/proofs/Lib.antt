pub mod HiddenHeads
pub mod HiddenKept
pub mod HiddenMeaning
pub mod SpellAlike
pub mod SpellSymmetry
pub mod TemplateTexts
pub mod TypeofMeaning
pub mod TextLength
pub mod KnownLength
pub mod SpellMeaning
pub mod SpellWeights
pub mod SpellShapes
pub mod SpellLawful
pub mod SpellKeyMeaning
pub mod SpellKeyWeights
pub mod SpellKeyShapes
pub mod SpellFunctionKeys
pub mod SpellKeyLawful
pub mod HeldKeyMeaning
pub mod HeldKeyShapes
pub mod HeldKeyLawful
pub mod BareKeyMeaning
pub mod BareKeyShapes
pub mod BareKeyLawful
pub mod DeclaredKeyParts
pub mod DeclaredKeyLawful
pub mod ShorthandLawful
pub mod KeysJoined
pub mod Nests
pub mod Sunk
pub mod BodyLists
pub mod ListStretches
pub mod ListParts
pub mod ListStatements
pub mod ListHeads
pub mod ListBegun
pub mod WrittenNames
pub mod ListKeptValues
pub mod ListKeptSpots
pub mod ListKeptBegun
pub mod ListEach
pub mod ListKeptEach
pub mod ListKeptLeaps
pub mod Enclosing
pub mod UnreachedNames
pub mod ListKeptUnreached
pub mod ListLoops
pub mod ListEnds
pub mod ListTails
pub mod ListMeanings
pub mod ListWeights
pub mod BranchMeaning
pub mod BranchEnds
pub mod BranchLoops
pub mod BranchSame
pub mod BranchWeights
pub mod Arranging
pub mod ArrangedNames
pub mod ArrangedBodies
pub mod ArrangedValues
pub mod ArrangedMoves
pub mod ArrangedPlain
pub mod OwnNames
pub mod StatementUses
pub mod ArrangedUses
pub mod ArrangedTrees
pub mod ArrangedExpressions
pub mod ArrangedLawful
pub mod ArrangedGather
pub mod ArrangedFolds
pub mod ArrangedStatements
pub mod ArrangedRewritten
pub mod ArrangedNegations
pub mod ArrangedOthers
pub mod ArrangedRows
pub mod BranchInside
pub mod BranchAround
pub mod BranchParts
pub mod BranchLawful
pub mod ArrangedTwice
pub mod ArrangedBetween
pub mod ListKept
pub mod ListShapes
pub mod ListKeptStretch
pub mod ListKeptDeclarations
pub mod ListKeptHeads
pub mod ListKeptVars
pub mod ListKeptKeys
pub mod DeclarationMeaning
pub mod DeclarationWeights
pub mod DeclarationKept
pub mod DeclarationLawful
pub mod TurnMeaning
pub mod TurnWeights
pub mod TurnLawful
pub mod ArrowRuns
pub mod ArrowWeights
pub mod ArrowNames
pub mod ArrowLawful
pub mod AllRows
pub mod ListEndsKept
pub mod ListLawful
pub mod ChoiceRuns
pub mod CalmCommands
pub mod ChainCalm
pub mod ChainRuns
pub mod ChainReferences
pub mod ChainGuards
pub mod ChainLinkMeaning
pub mod SequenceStands
mod FirstParts
mod ChainHoles
pub mod ChainLawful
pub mod ChainLinkLawful
mod BothSides
mod Weaker
mod PlainRead
mod Vanishing
mod DecrementMeaning
mod ForRowKept
mod ForPartMeaning
pub mod ForPartKept
mod ChainEnds
mod ChainGone
mod ChainRest
mod ChainEndKept
mod ChoiceItems
mod ChoiceFree
mod IdleCallees
mod IdleWeights
pub mod ChoiceWeights
pub mod ChoiceCalls
pub mod ChoiceIndexed
pub mod ChoiceMeaning
pub mod ChoiceMembers
pub mod ChoiceLast
pub mod ChoiceShapes
mod ChoiceSpines
pub mod ChoiceLawful
mod KeptThis
mod ReadFirst
pub mod MemberRuns
mod MemberKept
mod IdleKept
mod StillKept
pub mod SteadyKept
pub mod SteadyLawful
pub mod OwnArrowLawful
pub mod Unbound
pub mod Valued
pub mod PastSpared
pub mod PastRuns
pub mod PastParts
pub mod PastMeaning
pub mod PastNext
pub mod PastHeads
pub mod PastLets
pub mod PastStretches
pub mod PastHolders
pub mod PastLawful
pub mod PastArrowLawful
pub mod PastModuleLawful
pub mod PastStaticLawful
pub mod PastLost
pub mod PastBound
pub mod PastBlockKept
pub mod PastCaseKept
pub mod PastHeadKept
pub mod PastKept
pub mod OwnLightens
pub mod OwnLosses
pub mod PastBlockLawful
pub mod PastPartLawful
pub mod PastBlockMore
pub mod PastInsideKnown
pub mod PastInsideKept
pub mod PastInsideLawful
pub mod FoldEqualities
mod FoldBranches
pub mod FoldMeaning
pub mod FoldWeights
pub mod FoldLawful
mod SideGone
mod FoldRows
pub mod BooleanRuns
mod ConversionRuns
pub mod BooleanMeaning
pub mod BooleanWeights
pub mod BooleanLawful
pub mod UnusedNames
pub mod SingleUse
pub mod SingleWeights
mod ItemReads
mod Passing
mod Avoiding
pub mod SingleMeaning
mod ConstantUse
pub mod SingleFits
pub mod DeclaredKept
pub mod Surrogates
pub mod LoneReads
pub mod ConstantRuns
pub mod ConstantMeaning
pub mod ConstantWeights
pub mod ConstantLawful
pub mod UnusedMeaning
pub mod FoundReads
pub mod UnusedKept
pub mod BlockPlaces
pub mod UnusedLawful
pub mod ForHeads
pub mod UnusedWeights
pub mod UnusedStretches
pub mod FunctionBodyKept
pub mod HeldStretches
pub mod ArrowBodyLawful
pub mod ModuleKept
pub mod ModuleLawful
pub mod StaticBlockKept
pub mod StaticBlockLawful
pub mod SwitchKept
pub mod SwitchLawful
pub mod ForHeadKept
pub mod ForHeadMeaning
pub mod ForHeadLawful
pub mod FunctionBodyLawful
pub mod DeMorganMeaning
pub mod DeMorganLawful
pub mod NegationMeaning
pub mod NegationKept
pub mod NegationLawful
pub mod SequenceIdle
pub mod SequenceCalls
mod CalledReads
pub mod SequenceYields
pub mod SequencePaths
pub mod SequenceMeaning
pub mod SequenceWeights
pub mod SequenceEnds
pub mod SequenceLawful
pub mod OperatorBits
pub mod OperatorMeaning
pub mod OperatorWeights
pub mod OperatorLawful
pub mod OperandMeaning
pub mod OperandWeights
pub mod OperandForms
pub mod BitNumbers
pub mod OperandLawful
pub mod TemplateRuns
pub mod TemplateMeaning
pub mod TemplateWeights
mod TemplatePieces
pub mod JoinedMeaning
pub mod JoinedLawful
pub mod TemplateFits
pub mod TemplateLawful
pub mod NameWeights
pub mod NextKept
pub mod NextMeaning
pub mod OpeningKept
pub mod OverKept
pub mod BegunKept
pub mod HeadKept
pub mod OpeningMeaning
pub mod OverMeaning
pub mod HeadMeaning
pub mod NameLawful
pub mod CatchWeights
pub mod CatchLawful
pub mod BodyTails
pub mod DoOnce
pub mod BodyEnds
pub mod JumpFree
pub mod LoopTests
pub mod LoopWeights
pub mod LoopLeaps
pub mod LoopSplits
pub mod LoopKept
pub mod WriteMeaning
pub mod WriteNullish
pub mod WriteChains
pub mod WriteWeights
pub mod WriteLawful
pub mod UnbrokenRuns
pub mod CaseMeaning
pub mod DeadCaseMeaning
pub mod CaseWeights
pub mod DeadCaseWeights
pub mod CaseKept
pub mod BlockItems
pub mod LoopGuards
pub mod LoopGuardsKept
pub mod LoopGuardWeights
pub mod DeadCaseParts
pub mod DeadCaseKept
pub mod DeadLexicalMeaning
pub mod DeadLexicalKept
pub mod DeadLexicalWeights
pub mod LetMeaning
pub mod LetWeights
pub mod LetLawful
pub mod Fading
pub mod FadingSteps
pub mod HeldNames
pub mod Unfilled
pub mod LexicalScopes
pub mod LexicalLoops
pub mod LexicalMeaning
pub mod LexicalKept
pub mod OwnProgramLawful
pub mod PartPlaces
pub mod PartRuns
pub mod OwnPartLawful
pub mod InsideStages
pub mod InsideKept
pub mod InsideNames
pub mod InsideLoses
pub mod InsideEnds
pub mod OneDeclaration
pub mod NextEnds
pub mod InsideMeaning
pub mod InsideLawful
pub mod InsideWeights
pub mod OwnNarrowed
pub mod Latest
