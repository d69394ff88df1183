-- 71 past steady names of a block further inside a body, `substitute_past_in_block`: of
-- `function f(g) { if (g) { let x = a(); return g(x); } }` the block becomes
-- `{ ; return g(a()); }`; and of the cases of a switch and of the head of a `for`,
-- `substitute_past_in_statement`.
use Rattle.std.specs.Prelude.{◌≡◌, ◌≤◌, ℕ, Bool, true, false}
use Rattle.std.proofs.Common.{ap, inl, inr}
use Rattle.mini_model.specs.declared.place.Position.TheVariants.{Stmt, Elsewhere}
use Rattle.mini_model.specs.Tree.{Tree, count}
use Rattle.mini_kept.specs.Without.{Assured}
use Rattle.mini_rows.specs.PastBlocks.{PastBlockRow, PastCaseRow, PastHeadRow, PastStatementRow, PastBlocks}
use Rattle.mini_rows.proofs.PastKept.{blocks_lighten, blocks_read, blocks_declare, blocks_bound}
use Rattle.mini_rows.specs.Switches.{Switches}
use Rattle.mini_steady.specs.Chains.{Several}
use Rattle.mini_steady.specs.Own.{is_open, ReadsOpen, KeepsEach}

-- names go, one after another, or there is none, and then no row reads it
abbrev pub AppliedPastBlock : Switches → Assured → Tree → Tree → Bool → Type 0
AppliedPastBlock o V t u true = Several (PastBlockRow o V) t u
AppliedPastBlock o V t u false = (u ≡ t) × ((w : Tree) → PastBlockRow o V t w → ⊥)

-- and so of a switch, from the statements of the case at a place, and from those of the cases from
-- there on
abbrev pub AppliedPastCase : Switches → Assured → Tree → ℕ → Tree → Bool → Type 0
AppliedPastCase o V t i u true = Several (PastCaseRow o V) t u
AppliedPastCase o V t i u false = (u ≡ t) × ((w : Tree) (r : PastCaseRow o V t w) → count r.first ≡ i → ⊥)

abbrev pub AppliedPastCases : Switches → Assured → Tree → ℕ → Tree → Bool → Type 0
AppliedPastCases o V t i u true = Several (PastCaseRow o V) t u
AppliedPastCases o V t i u false = (u ≡ t) × ((w : Tree) (r : PastCaseRow o V t w) → i ≤ count r.first → ⊥)

-- and from the head of a `for`
abbrev pub AppliedPastHead : Switches → Assured → Tree → Tree → Bool → Type 0
AppliedPastHead o V t u true = Several (PastHeadRow o V) t u
AppliedPastHead o V t u false = (u ≡ t) × ((w : Tree) → PastHeadRow o V t w → ⊥)

-- of a statement, whichever of these it is
abbrev pub AppliedPastStatement : Switches → Assured → Tree → Tree → Bool → Type 0
AppliedPastStatement o V t u true = Several (PastStatementRow o V) t u
AppliedPastStatement o V t u false = (u ≡ t) × ((w : Tree) → PastStatementRow o V t w → ⊥)

-- it reads what has neither a body nor a number
pub blocks_open : (o : Switches) → ReadsOpen (PastBlocks o)
blocks_open o V (Stmt q) n w (inl r) = ap is_open r.shape
blocks_open o V (Stmt q) n w (inr (inl r)) = ap is_open r.shape
blocks_open o V (Stmt q) n w (inr (inr r)) = ap is_open r.shape
blocks_open o V Elsewhere n w r = ap is_open r.shape
blocks_open o V p n w r = absurd r

-- and what it writes is read alike, declares no other name and no symbol more often, and is lighter
pub blocks_keep : (o : Switches) → KeepsEach (PastBlocks o)
blocks_keep o V = record { reads = blocks_read o V; declared = blocks_declare o V; bound = blocks_bound o V; lightens = blocks_lighten o V }
