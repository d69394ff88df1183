-- One row, and where it reads a statement as nothing the other.
use Rattle.std.proofs.Common.{◌≡◌, Bool, true, false, sym, ◌∙◌, subst, inl, inr}
use Rattle.std.proofs.lemmas.Bool.{false≢true}
use Rattle.mini_model.specs.declared.place.Position.{Position}
use Rattle.mini_model.specs.declared.place.Position.TheVariants.{Stmt}
use Rattle.mini_model.specs.declared.seat.StmtSeat.{StmtSeat}
use Rattle.mini_model.specs.Tree.{Tree}
use Rattle.mini_kept.specs.Without.{Assured}
use Rattle.mini_laws.specs.Value.{VariableSet}
use Rattle.mini_rows.specs.Lexical.{LexicalStatement, Row80Lexical, Row84Lexical}
use Rattle.mini_rows.specs.Steady.{LexicalRows}
use Rattle.mini_steady.specs.Chains.{once}
use Rattle.mini_steady.specs.Own.{AppliedHere}
use Rattle.mini_lexical.specs.MinimizeLexicalStatement.{AppliedBy}

module _ (V : VariableSet) where
  pub first_applied : (t u : Tree) (b : Bool) → AppliedBy (Row80Lexical V) t u b → b ≡ true → AppliedBy (LexicalStatement V) t u true
  first_applied t u true r e = inl r
  first_applied t u false r e = absurd (false≢true e)

  pub second_applied : (t u v : Tree) (b c : Bool) → AppliedBy (Row80Lexical V) t u b → b ≡ false → AppliedBy (Row84Lexical V) u v c → AppliedBy (LexicalStatement V) t v c
  second_applied t u v true c r e s = absurd (false≢true (sym e))
  second_applied t u v false true r e s = inr (subst (λ n. Row84Lexical V n v) r.0 s)
  second_applied t u v false false r e s = (s.0 ∙ r.0, none)
    where
      none : (w : Tree) → LexicalStatement V t w → ⊥
      none w (inl x) = r.1 w x
      none w (inr x) = s.1 w (subst (λ n. Row84Lexical V n w) (sym r.0) x)

-- at a statement in its place
pub here_applied : (V : Assured) (p : Position) (t u : Tree) (b : Bool) → AppliedBy (LexicalStatement V.unshared) t u b → (q : StmtSeat) → p ≡ Stmt q → AppliedHere (LexicalRows V) p t u b
here_applied V p t u true r q e = subst (λ o. AppliedHere (LexicalRows V) o t u true) (sym e) (once t u r)
here_applied V p t u false r q e = subst (λ o. AppliedHere (LexicalRows V) o t u false) (sym e) r
