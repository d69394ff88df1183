-- What can be rewritten: each row is a shape and what is written in its place. A node is a redex
-- where a row names it, the options let the row act, and what is written weighs less there. No
-- order of rewriting is meant.
use Rattle.std.specs.Prelude.{◌<◌, ◌⊎◌}
use Rattle.mini_model.specs.declared.place.Position.{Position}
use Rattle.mini_model.specs.Tree.{Tree}
use Rattle.mini_model.specs.Weight.{weight}
use Rattle.mini_model.specs.Redex as first
use Rattle.mini_model.specs.Rewriting.{Everywhere}
use Rattle.mini_laws.specs.Value.{VariableSet}
use Rattle.mini_kept.specs.Lawful.{Lawful}
use Rattle.mini_kept.specs.Loosely.{LawfulWith}
use Rattle.mini_rows.specs.Switches.{Switches, let_go, liberties}
use Rattle.mini_rows.specs.Arranged.{WhereFixed}
use Rattle.mini_rows.specs.Spellings.{SpellingRow}
use Rattle.mini_rows.specs.Branches.{BranchRow}
use Rattle.mini_rows.specs.Lists.{ListRow}
use Rattle.mini_rows.specs.SpellKeys.{KeyRow}
use Rattle.mini_rows.specs.Choices.{ChoiceRow}
use Rattle.mini_rows.specs.Declarations.{DeclarationRow}
use Rattle.mini_rows.specs.Folding.{FoldingRow}
use Rattle.mini_rows.specs.Turns.{TurnRow}
use Rattle.mini_rows.specs.Arrows.{ArrowRow}
use Rattle.mini_rows.specs.Constants.{ConstantRow}
use Rattle.mini_rows.specs.KeyHolders.{HeldKeyRow}
use Rattle.mini_rows.specs.Booleans.{BooleanRow}
use Rattle.mini_rows.specs.DeMorgan.{DeMorganRow}
use Rattle.mini_rows.specs.Sequences.{SequenceRow}
use Rattle.mini_rows.specs.Operands.{OperandRow}
use Rattle.mini_rows.specs.Unused.{UnusedContracts}
use Rattle.mini_rows.specs.Names.{NameContracts}
use Rattle.mini_rows.specs.Editions.{ChoiceIn, CatchesIn, WritesIn}
use Rattle.mini_rows.specs.Lets.{LetContracts}
use Rattle.mini_rows.specs.Negations.{NegationRow}
use Rattle.mini_rows.specs.Templates.{TemplateRow}
use Rattle.mini_rows.specs.LoopGuards.{LoopGuardRow}

-- a row reads n as w at this place: one of negations and of `if` over expressions, of spellings, of
-- branches and bodies of loops, of lists of statements, of the keys of object literals, of choices,
-- of declarations, of what is known, of tests that are turned, of arrow functions, of constants, of
-- the keys of patterns and classes, of booleans, of De Morgan's laws, of sequences, of operands
-- whose value is known, of negations that reach into the operand, of templates, or of guards in the
-- bodies of loops. Where what a row writes is of a form newer than the edition of 2015, the edition
-- that is asked for has that form
pub data Row (o : Switches) (p : Position) (n w : Tree) : Type 0 where
  AsTest : first.Row p n w → Row o p n w
  AsSpelling : SpellingRow p n w → Row o p n w
  AsBranch : BranchRow p n w → Row o p n w
  AsList : ListRow o p n w → Row o p n w
  AsKey : KeyRow p n w → Row o p n w
  AsChoice : (r : ChoiceRow p n w) → ChoiceIn o.edition p n w r → Row o p n w
  AsDeclaration : DeclarationRow p n w → Row o p n w
  AsFolding : FoldingRow p n w → Row o p n w
  AsTurn : TurnRow p n w → Row o p n w
  AsArrow : ArrowRow p n w → Row o p n w
  AsConstant : ConstantRow p n w → Row o p n w
  AsHeldKey : HeldKeyRow p n w → Row o p n w
  AsBoolean : BooleanRow p n w → Row o p n w
  AsDeMorgan : DeMorganRow p n w → Row o p n w
  AsSequence : SequenceRow p n w → Row o p n w
  AsOperand : OperandRow p n w → Row o p n w
  AsNegation : NegationRow p n w → Row o p n w
  AsTemplate : TemplateRow p n w → Row o p n w
  AsLoopGuard : LoopGuardRow o p n w → Row o p n w

-- what a row writes, where it weighs less
pub record Contracts (o : Switches) (p : Position) (n w : Tree) : Type 0 where
  pub row : Row o p n w
  pub lighter : weight p w < weight p n

-- or what one of a name that nothing mentions writes, which goes, or one of a name that can be
-- written, a `let` with an assignment after it among them. W has those variables
abbrev pub Rewrites : Switches → VariableSet → Position → Tree → Tree → Type 0
Rewrites o W p n w = Contracts o p n w ⊎ (UnusedContracts (liberties o W) p n w ⊎ (NameContracts o p n w ⊎ (CatchesIn o.edition p n w ⊎ (WritesIn o.edition W p n w ⊎ LetContracts W p n w))))

-- a redex in its place
pub record Redex (o : Switches) (W : VariableSet) (p : Position) (n : Tree) : Type 0 where
  pub to : Tree
  pub contracts : Rewrites o W p n to

-- there is nothing to rewrite at the node in its place
abbrev pub IsSettled : Switches → VariableSet → Position → Tree → Type 0
IsSettled o W p n = Redex o W p n → ⊥

-- no node of the tree is a redex in its place
abbrev pub HasNoRedex : Switches → VariableSet → Position → Tree → Type 0
HasNoRedex o W p n = Everywhere (IsSettled o W) p n

-- what the rows make is lawful, whatever the options, where what a write of each variable does
-- stays
abbrev pub RowsAreLawful : Type 0
RowsAreLawful = (o : Switches) → Lawful (WhereFixed (Contracts o))

-- and loosely, where constants go that are declared in what goes, and names that nothing mentions,
-- and those variables can be written
abbrev pub RowsAreLoose : Type 0
RowsAreLoose = (o : Switches) (W : VariableSet) → LawfulWith (let_go o) W (Rewrites o W)
