-- Each row reads what has neither a body nor a number, and what it writes is read alike, declares
-- no name that what stood there didn't and no symbol more often, and is lighter.
use Rattle.std.proofs.Common.{ap, inl, inr}
use Rattle.mini_model.specs.declared.place.Position.TheVariants.{Stmt}
use Rattle.mini_rows.specs.Steady.{LexicalRows}
use Rattle.mini_rows.proofs.LexicalKept.{lexical_own}
use Rattle.mini_steady.specs.Keeping.{kept_code}
use Rattle.mini_steady.specs.Own.{is_open, ReadsOpen, KeepsEach}

pub lexical_open : ReadsOpen LexicalRows
lexical_open V (Stmt q) n w (inl r) = ap is_open r.shape
lexical_open V (Stmt q) n w (inr r) = ap is_open r.shape
lexical_open V p n w r = absurd r

pub lexical_keeps : KeepsEach LexicalRows
lexical_keeps V = kept_code V (LexicalRows V) (lexical_own V)
