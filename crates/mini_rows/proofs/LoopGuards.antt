-- A guard in the body of a loop that goes on with the next turn: what the row writes means the same, is lighter, and is kept.
use Rattle.std.specs.Prelude.{◌≡◌, true}
use Rattle.std.proofs.Common.{ap, ◌∙◌, sym, inl, inr}
use Rattle.mini_model.specs.declared.place.Position.{Position}
use Rattle.mini_model.specs.declared.place.Position.TheVariants.{Stmt}
use Rattle.mini_model.specs.Tree.{Tree, Trees, none, ◌▸◌, child_or_absent}
use Rattle.mini_model.specs.Paths.{append}
use Rattle.mini_laws.specs.Demand.{LoopTail}
use Rattle.mini_laws.specs.Naming.{summary}
use Rattle.mini_laws.specs.Rows.{SameAt}
use Rattle.mini_laws.specs.Rewritten.{MeansSame}
use Rattle.mini_rows.specs.Switches.{Switches}
use Rattle.mini_rows.specs.Lists.{block, is_unscoped}
use Rattle.mini_rows.specs.Branches.{Surrounding, around, is_loop}
use Rattle.mini_rows.specs.LoopGuards.{TurnsGuard, Row75Loop, TurnsRow, LoopGuardRow, LoopGuardContracts}
use Rattle.mini_rows.proofs.ListTails.{SameEnd, row_75, row_75_block}
use Rattle.mini_rows.proofs.BodyTails.{ends_turn}
use Rattle.mini_rows.proofs.BranchLoops.{loop_same, row_79}
use Rattle.mini_rows.proofs.BranchMeaning.{SameStatement, statement_same, replaced}

-- ---- it means the same

turns_end : (a b : Trees) → TurnsGuard a b → SameEnd LoopTail a b
turns_end a b (inl r) = row_75 LoopTail a b r
turns_end a b (inr r) = row_75_block LoopTail a b r

loop_guard_same : (n w : Tree) → Row75Loop n w → SameStatement n w
loop_guard_same n w r =
    replaced n _ w _ r.shape r.written
    (loop_same r.place (block (append r.before r.read)) (block (append r.before r.put)) r.loop (ends_turn r.before r.read r.put (turns_end r.read r.put r.row)))

-- ---- where the guard is the whole body

same_first : (t u : Tree) (ts us : Trees) → (t ▸ ts) ≡ (u ▸ us) → t ≡ u
same_first t u ts us e = ap (λ xs. child_or_absent xs 0) e

-- what is read and what is written are each an `if`
pub guard_unscoped : (g m : Tree) → TurnsGuard (g ▸ none) (m ▸ none) → is_unscoped g ≡ true
guard_unscoped g m (inl r) = ap is_unscoped (same_first g _ none _ r.shape)
guard_unscoped g m (inr r) = ap is_unscoped (same_first g _ none _ r.shape)

pub made_unscoped : (g m : Tree) → TurnsGuard (g ▸ none) (m ▸ none) → is_unscoped m ≡ true
made_unscoped g m (inl r) = ap is_unscoped (same_first m _ none _ r.written)
made_unscoped g m (inr r) = ap is_unscoped (same_first m _ none _ r.written)

same_back : (n w : Tree) → SameStatement n w → SameStatement w n
same_back n w s = record { by = λ e t r z. sym (s.by e t r z); read = sym s.read }

same_on : (n m w : Tree) → SameStatement n m → SameStatement m w → SameStatement n w
same_on n m w s u = record { by = λ e t r z. s.by e t r z ∙ u.by e t r z; read = s.read ∙ u.read }

whole_guard_same : (k : Surrounding) (g m : Tree) → is_loop k ≡ true → TurnsGuard (g ▸ none) (m ▸ none) → SameStatement (around k g) (around k m)
whole_guard_same k g m h r =
    same_on (around k g) (around k (block (g ▸ none))) (around k m)
    (same_back (around k (block (g ▸ none))) (around k g) (row_79 k g (guard_unscoped g m r)))
    (same_on (around k (block (g ▸ none))) (around k (block (m ▸ none))) (around k m)
    (loop_same k (block (g ▸ none)) (block (m ▸ none)) h (ends_turn none (g ▸ none) (m ▸ none) (turns_end (g ▸ none) (m ▸ none) r)))
    (row_79 k m (made_unscoped g m r)))

turns_same : (n w : Tree) → TurnsRow n w → SameStatement n w
turns_same n w (inl r) = loop_guard_same n w r
turns_same n w (inr r) = replaced n _ w _ r.shape r.written (whole_guard_same r.place r.guard r.made r.loop r.row)

row_same : (o : Switches) (p : Position) (n w : Tree) → LoopGuardRow o p n w → SameAt p n w
row_same o (Stmt q) n w r = statement_same n w (turns_same n w r.1) q
row_same o p n w r = absurd r

row_reads : (o : Switches) (p : Position) (n w : Tree) → LoopGuardRow o p n w → summary n ≡ summary w
row_reads o (Stmt q) n w r = (turns_same n w r.1).read
row_reads o p n w r = absurd r

pub loop_guards_same : (o : Switches) → MeansSame (LoopGuardContracts o)
loop_guards_same o = record { same = λ p n w c. row_same o p n w c.row; reads = λ p n w c. row_reads o p n w c.row }
