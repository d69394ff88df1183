-- Families of which each row asks less, so that Shared and Foreign only shrink by any number of
-- their steps.
use Rattle.std.specs.Prelude.{ℕ, ◌≡◌, ◌⊎◌, Bool, true, false, []}
use Rattle.mini_model.specs.declared.place.Position.TheVariants.{Elsewhere, Expr, Stmt}
use Rattle.mini_model.specs.declared.seat.Seat.{Seat}
use Rattle.mini_model.specs.declared.seat.StmtSeat.{StmtSeat}
use Rattle.mini_model.specs.Redex.{Row40, Row82Else, Row82And, Row82Or, Contracts}
use Rattle.mini_model.specs.Tree.{Tree, Trees}
use Rattle.mini_model.specs.declared.place.Position.{Position}
use Rattle.mini_model.specs.Position.{callee_seat}
use Rattle.mini_laws.specs.ScopeList.{has_eval, is_eval_callee}
use Rattle.mini_kept.specs.Placed.{is_statement_list, fits_place}
use Rattle.mini_shrink.specs.Shrinking.{ShowsLess}
use Rattle.mini_rows.specs.Lists.{Head, Return, Throw, If, return_statement, throw_statement, bare_return, Row67, Row77, Row78, AtEnd, Row66Empty, Row66Joined, Row73, Row73Bare, Row76, Row79, InList, ListContracts}
use Rattle.mini_less.specs.Flags.{FlagsLess}
use Rattle.mini_model.specs.Rewriting.{Reaches}
use Rattle.mini_accept.specs.WellShaped.{Slot, fits, IsWellShaped}
use Rattle.mini_laws.specs.declared.names.Use.TheVariants.{Read}
use Rattle.mini_laws.specs.Scoped.{Scoped}
use Rattle.mini_laws.specs.Symbols.{declared_symbols, Distinct}
use Rattle.mini_laws.specs.Value.{Declared, VariableSet}
use Rattle.mini_kept.specs.Lawful.{Lawful}
use Rattle.mini_kept.specs.Loosely.{undeclared}
use Rattle.mini_shrink.specs.Pace.{AtMost, pace}
use Rattle.mini_shrink.specs.Questions.{at_program}
use Rattle.mini_shrink.specs.Facts.{Fact, question, ReadsLess}
use Rattle.mini_rows.specs.Loops.{Row84}
use Rattle.mini_rows.specs.Idle.{IdleRow, IdleStatement}
use Rattle.mini_rows.specs.Members.{MemberRow}
use Rattle.mini_kept.specs.Without.{Assured}
use Rattle.mini_rows.specs.Still.{StillRow}
use Rattle.mini_rows.specs.Turns.{TurnContracts}
use Rattle.mini_rows.specs.Branches.{BranchContracts, IfRow, Row60, Row79 as Row79InBody, Row78Whole, Row78Never}
use Rattle.mini_rows.specs.DeMorgan.{DeMorganContracts}
use Rattle.mini_rows.specs.Folding.{FoldingContracts}
use Rattle.mini_rows.specs.SpellKeys.{KeyContracts}
use Rattle.mini_rows.specs.Writes.{WriteContracts}
use Rattle.mini_rows.specs.Choices.{ChoiceContracts}
use Rattle.mini_rows.specs.Declarations.{DeclarationContracts}
use Rattle.mini_rows.specs.Lets.{LetContracts}
use Rattle.mini_rows.specs.LoopGuards.{LoopGuardContracts}
use Rattle.mini_rows.specs.Negations.{NegationContracts}
use Rattle.mini_rows.specs.Booleans.{BooleanContracts}
use Rattle.mini_rows.specs.Templates.{TemplateContracts}
use Rattle.mini_rows.specs.Sequences.{SequenceContracts}
use Rattle.mini_rows.specs.Spellings.{SpellingContracts}
use Rattle.mini_rows.specs.Operands.{OperandContracts}
use Rattle.mini_rows.specs.Constants.{ConstantContracts}
use Rattle.mini_rows.specs.Arrows.{ArrowContracts}
use Rattle.mini_rows.specs.Catches.{CatchContracts}
use Rattle.mini_rows.specs.KeyHolders.{HeldKeyContracts}
use Rattle.mini_rows.specs.Names.{NameContracts}
use Rattle.mini_rows.specs.Switches.{Switches}

-- tests that are turned
abbrev pub TurnsReadLess : Type 0
TurnsReadLess = ReadsLess TurnContracts

-- so a program after any number of their steps
abbrev pub TurnsShrink : Type 0
TurnsShrink =
    Lawful TurnContracts → (t u : Tree) → Reaches TurnContracts Elsewhere t u → IsWellShaped t → Scoped Read [] t → Distinct (declared_symbols t)
    → (f : Fact) (b s : ℕ) → undeclared u (Declared s) ≡ false → AtMost (pace (question f b s) at_program [] u) (pace (question f b s) at_program [] t)

-- what is written for a node holds a direct eval, names `arguments` and has a number only where the
-- node does, and where it is called it becomes the name `eval` only if it was
pub record FewerAt (p : Position) (n w : Tree) : Type 0 where
  pub eval : has_eval w ≡ true → has_eval n ≡ true
  pub flags : FlagsLess n w
  pub callee : p ≡ Expr callee_seat → is_eval_callee w ≡ true → is_eval_callee n ≡ true

-- what a relation has to keep of one node and what is written for it
pub record LessAt (p : Position) (n w : Tree) : Type 0 where
  pub asks : (g : Fact) (b k : ℕ) → ShowsLess (question g b k) (Declared k) p n w
  pub fewer : (strict : Bool) (s : Slot) → fits_place p s ≡ true → fits strict s n ≡ true → FewerAt p n w

-- ---- rows on neighbours in a list, wherever it stands

abbrev pub NeighboursLess : (Trees → Trees → Type 0) → Type 0
NeighboursLess R = (p : Position) → is_statement_list p ≡ true → (n w : Tree) → InList R n w → LessAt p n w

-- 66, 73, 76 and 79
pub record ListRowsLess : Type 0 where
  pub row_66_empty : NeighboursLess Row66Empty
  pub row_66_joined : NeighboursLess Row66Joined
  pub row_73_return : NeighboursLess (Row73 return_statement)
  pub row_73_throw : NeighboursLess (Row73 throw_statement)
  pub row_73_bare : NeighboursLess Row73Bare
  pub row_76 : NeighboursLess Row76
  pub row_79 : NeighboursLess Row79

-- 67, of the heads that open no scope and are no loops: `a; return b;` becomes `return a, b;`
abbrev pub is_short_head : Head → Bool
is_short_head Return = true
is_short_head Throw = true
is_short_head (If u v) = true
is_short_head h = false

pub record Row67Short (a b : Trees) : Type 0 where
  pub row : Row67 a b
  pub short : is_short_head row.head ≡ true

-- 67, 77 and 78, and 40 and 82 but for a negated test
pub record MoreRowsLess : Type 0 where
  pub row_67 : NeighboursLess Row67Short
  pub row_77 : NeighboursLess Row77
  pub row_78 : (p : Position) → is_statement_list p ≡ true → (n w : Tree) → AtEnd (Row78 bare_return) n w → LessAt p n w
  pub row_40 : (q : Seat) (n w : Tree) → Row40 n w → LessAt (Expr q) n w
  pub row_82_else : (q : StmtSeat) (n w : Tree) → Row82Else n w → LessAt (Stmt q) n w
  pub row_82_and : (q : StmtSeat) (n w : Tree) → Row82And n w → LessAt (Stmt q) n w

-- 82, of a negated test
abbrev pub Row82OrLess : Type 0
Row82OrLess = (q : StmtSeat) (n w : Tree) → Row82Or n w → LessAt (Stmt q) n w

-- all of the first rows: 23, 40 and 82
abbrev pub FirstRowsReadLess : Type 0
FirstRowsReadLess = ReadsLess Contracts

-- two relations that read less make one, and so does what makes no more than one
abbrev pub ReadsLessJoins : (Position → Tree → Tree → Type 0) → (Position → Tree → Tree → Type 0) → Type 0
ReadsLessJoins R S = ReadsLess R → ReadsLess S → ReadsLess (λ p t u. R p t u ⊎ S p t u)

abbrev pub ReadsLessNarrows : (Position → Tree → Tree → Type 0) → (Position → Tree → Tree → Type 0) → Type 0
ReadsLessNarrows R S = ((p : Position) (t u : Tree) → R p t u → S p t u) → ReadsLess S → ReadsLess R

abbrev pub ConstantsReadLess : Type 0
ConstantsReadLess = ReadsLess ConstantContracts

abbrev pub OperandsReadLess : Type 0
OperandsReadLess = ReadsLess OperandContracts

abbrev pub SpellingsReadLess : Type 0
SpellingsReadLess = ReadsLess SpellingContracts

abbrev pub SequencesReadLess : Type 0
SequencesReadLess = ReadsLess SequenceContracts

abbrev pub TemplatesReadLess : Type 0
TemplatesReadLess = ReadsLess TemplateContracts

abbrev pub BooleansReadLess : Type 0
BooleansReadLess = ReadsLess BooleanContracts

abbrev pub NegationsReadLess : Type 0
NegationsReadLess = ReadsLess NegationContracts

abbrev pub ChoicesReadLess : Type 0
ChoicesReadLess = ReadsLess ChoiceContracts

abbrev pub WritesReadLess : Type 0
WritesReadLess = (W : VariableSet) → ReadsLess (WriteContracts W)

abbrev pub KeysReadLess : Type 0
KeysReadLess = ReadsLess KeyContracts

abbrev pub FoldingsReadLess : Type 0
FoldingsReadLess = ReadsLess FoldingContracts

abbrev pub DeMorganReadsLess : Type 0
DeMorganReadsLess = ReadsLess DeMorganContracts

-- rows of `if`, 82 and 83, and 60
pub record IfRowsLess : Type 0 where
  pub ifs : (q : StmtSeat) (n w : Tree) → IfRow n w → LessAt (Stmt q) n w
  pub returns : (q : StmtSeat) (n w : Tree) → Row60 n w → LessAt (Stmt q) n w

-- rows of branches and of bodies of loops: 79, 84, and 78 where the body is a jump
pub record BodyRowsLess : Type 0 where
  pub row_79 : (q : StmtSeat) (n w : Tree) → Row79InBody n w → LessAt (Stmt q) n w
  pub row_84 : (q : StmtSeat) (n w : Tree) → Row84 n w → LessAt (Stmt q) n w
  pub row_78_whole : (q : StmtSeat) (n w : Tree) → Row78Whole n w → LessAt (Stmt q) n w
  pub row_78_never : (q : StmtSeat) (n w : Tree) → Row78Never n w → LessAt (Stmt q) n w

-- rows that rest on what is known of the body around, whatever is known: of members, and of `this`
pub record BodyRowsOfThisLess : Type 0 where
  pub members : (V : Assured) (q : Seat) (n w : Tree) → MemberRow V q n w → LessAt (Expr q) n w
  pub idle : (V : Assured) (q : Seat) (n w : Tree) → IdleRow V q n w → LessAt (Expr q) n w
  pub still : (V : Assured) (q : Seat) (n w : Tree) → StillRow V q n w → LessAt (Expr q) n w
  pub statements : (V : Assured) (q : StmtSeat) (n w : Tree) → IdleStatement V n w → LessAt (Stmt q) n w

-- ---- all families of which each row asks less

abbrev pub WholeFamilies : Switches → VariableSet → Position → Tree → Tree → Type 0
WholeFamilies o W p n w =
    Contracts p n w ⊎ (SpellingContracts p n w ⊎ (KeyContracts p n w ⊎ (ChoiceContracts p n w ⊎ (FoldingContracts p n w ⊎ (TurnContracts p n w ⊎ (ConstantContracts p n w
    ⊎ (BooleanContracts p n w ⊎ (DeMorganContracts p n w ⊎ (SequenceContracts p n w ⊎ (OperandContracts p n w ⊎ (NegationContracts p n w ⊎ (TemplateContracts p n w ⊎ (WriteContracts W p n w
    ⊎ (HeldKeyContracts p n w ⊎ (ArrowContracts p n w ⊎ (NameContracts o p n w ⊎ (CatchContracts p n w ⊎ (BranchContracts p n w ⊎ (ListContracts o p n w
    ⊎ (DeclarationContracts p n w ⊎ (LoopGuardContracts o p n w ⊎ LetContracts W p n w)))))))))))))))))))))

abbrev pub WholeFamiliesReadLess : Type 0
WholeFamiliesReadLess = (o : Switches) (W : VariableSet) → ReadsLess (WholeFamilies o W)
