-- A statement from which names go past steady ones is a block, a switch or a `for`.
use Rattle.std.proofs.Common.{◌≡◌, zero, Bool, true, false, [], refl, sym, ap, ◌∙◌, subst, inl, inr, true≢false, arith}
use Rattle.mini_model.specs.declared.place.Position.{Position}
use Rattle.mini_model.specs.declared.place.Position.TheVariants.{Stmt}
use Rattle.mini_model.specs.declared.seat.StmtSeat.{StmtSeat}
use Rattle.mini_model.specs.declared.shape.Shape.TheVariants as shape
use Rattle.mini_model.specs.Tree.{Tree, node}
use Rattle.mini_kept.specs.Without.{Assured}
use Rattle.mini_node.specs.Kinds.{is_block}
use Rattle.mini_rows.specs.PastBlocks.{PastBlockRow, PastCaseRow, PastStatementRow, PastBlocks}
use Rattle.mini_rows.specs.Switches.{Switches}
use Rattle.mini_steady.specs.Chains.{Several, once, again}
use Rattle.mini_steady.specs.Own.{AppliedHere}
use Rattle.mini_inside.specs.Holding.{is_switch, has_head}
use Rattle.mini_past.proofs.InHeads.{no_head}
use Rattle.mini_past.specs.PastInBlocks.{AppliedPastBlock, AppliedPastCases, AppliedPastHead, AppliedPastStatement}

several_as : (P Q : Tree → Tree → Type 0) → ((t u : Tree) → P t u → Q t u) → (t u : Tree) → Several P t u → Several Q t u
several_as P Q f _ _ (once t u r) = once t u (f t u r)
several_as P Q f _ _ (again t u v s r) = again t u v (several_as P Q f t u s) (f u v r)

module _ (options : Switches) (V : Assured) where
  no_block : (t : Tree) → is_block t ≡ false → (w : Tree) → PastBlockRow options V t w → ⊥
  no_block t e w r = true≢false (sym (ap is_block r.shape) ∙ e)

  no_switch : (t : Tree) → is_switch t ≡ false → (w : Tree) → PastCaseRow options V t w → ⊥
  no_switch t e w r = true≢false (sym (ap is_switch r.shape) ∙ e)

  apart_from_for : (t : Tree) → has_head t ≡ true → (is_block t ≡ false) × (is_switch t ≡ false)
  apart_from_for (node shape.ForStatement [] zero ts) e = (refl, refl)
  apart_from_for t e = absurd (true≢false (sym e))

  apart_from_switch : (t : Tree) → is_switch t ≡ true → is_block t ≡ false
  apart_from_switch (node shape.SwitchStatement [] zero ts) e = refl
  apart_from_switch t e = absurd (true≢false (sym e))

  pub of_for : (t u : Tree) (b : Bool) → has_head t ≡ true → AppliedPastHead options V t u b → AppliedPastStatement options V t u b
  of_for t u true h r = several_as _ (PastStatementRow options V) (λ t u r. inr (inr r)) t u r
  of_for t u false h r = (r.0, by)
    where
      by : (w : Tree) → PastStatementRow options V t w → ⊥
      by w (inl c) = no_block t (apart_from_for t h).0 w c
      by w (inr (inl c)) = no_switch t (apart_from_for t h).1 w c
      by w (inr (inr c)) = r.1 w c

  pub of_switch : (t u : Tree) (b : Bool) → has_head t ≡ false → is_switch t ≡ true → AppliedPastCases options V t 0 u b → AppliedPastStatement options V t u b
  of_switch t u true h s r = several_as _ (PastStatementRow options V) (λ t u r. inr (inl r)) t u r
  of_switch t u false h s r = (r.0, by)
    where
      by : (w : Tree) → PastStatementRow options V t w → ⊥
      by w (inl c) = no_block t (apart_from_switch t s) w c
      by w (inr (inl c)) = r.1 w c (omega arith)
      by w (inr (inr c)) = no_head options V t h w c

  pub of_other : (t u : Tree) (b : Bool) → has_head t ≡ false → is_switch t ≡ false → AppliedPastBlock options V t u b → AppliedPastStatement options V t u b
  of_other t u true h s r = several_as _ (PastStatementRow options V) (λ t u r. inl r) t u r
  of_other t u false h s r = (r.0, by)
    where
      by : (w : Tree) → PastStatementRow options V t w → ⊥
      by w (inl c) = r.1 w c
      by w (inr (inl c)) = no_switch t s w c
      by w (inr (inr c)) = no_head options V t h w c

  pub here_applied : (p : Position) (t u : Tree) (b : Bool) → AppliedPastStatement options V t u b → (q : StmtSeat) → p ≡ Stmt q → AppliedHere (PastBlocks options V) p t u b
  here_applied p t u true r q e = subst (λ o. AppliedHere (PastBlocks options V) o t u true) (sym e) r
  here_applied p t u false r q e = subst (λ o. AppliedHere (PastBlocks options V) o t u false) (sym e) r
