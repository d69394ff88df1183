-- What a row that turns a test writes means the same.
use Rattle.std.proofs.Common.{◌≡◌, Bool, true, false, [], None, refl, sym, ap, ◌∙◌, subst}
use Rattle.mini_model.specs.declared.place.Position.{Position}
use Rattle.mini_model.specs.declared.place.Position.TheVariants.{Expr, Stmt}
use Rattle.mini_model.specs.declared.seat.Seat.{Seat}
use Rattle.mini_model.specs.declared.shape.Shape.TheVariants as shape
use Rattle.mini_model.specs.Tree.{Tree, none, ◌▸◌, negation, conditional, if_else}
use Rattle.mini_laws.specs.Value.{choose}
use Rattle.mini_laws.specs.State.{stop, either}
use Rattle.mini_laws.specs.Demand.{Test, As, Stat}
use Rattle.mini_laws.specs.Step.{means}
use Rattle.mini_laws.specs.Naming.{summary}
use Rattle.mini_laws.specs.Rows.{SameAt}
use Rattle.mini_laws.specs.Rewritten.{MeansSame}
use Rattle.mini_laws.proofs.Negation.{equality_turns}
use Rattle.mini_laws.proofs.Rows.{equal_same, row_40}
use Rattle.mini_rows.specs.Spellings.{binary}
use Rattle.mini_rows.specs.Turns.{unequal, equal, Row40Unequal, TurnRow, TurnContracts}
use Rattle.mini_rows.proofs.ListStatements.{if_is}
use Rattle.mini_rows.proofs.SpellAlike.{SameTree, first_same}
use Rattle.mini_rows.proofs.BranchMeaning.{SameStatement, statement_same, equal_statement, replaced, not_test, by_negated}

-- ---- 40

tests_turn : (k : Bool) (a b : Tree) → SameTree (binary (unequal k) a b) (negation (binary (equal k) a b))
tests_turn true a b = record { by = λ e q r z. sym (equality_turns e true (equal true) refl [] 0 (a ▸ b ▸ none) q r z); read = refl }
tests_turn false a b = record { by = λ e q r z. sym (equality_turns e true (equal false) refl [] 0 (a ▸ b ▸ none) q r z); read = refl }

turned : (k : Bool) (a b c d : Tree) → SameTree (conditional (binary (unequal k) a b) c d) (conditional (negation (binary (equal k) a b)) c d)
turned k a b c d = first_same shape.ConditionalExpression [] 0 (binary (unequal k) a b) (negation (binary (equal k) a b)) (c ▸ (d ▸ none)) (tests_turn k a b)

unequal_same : (s : Seat) (k : Bool) (a b c d : Tree) → SameAt (Expr s) (conditional (binary (unequal k) a b) c d) (conditional (binary (equal k) a b) d c)
unequal_same s k a b c d = equal_same (Expr s) _ _ (record { by = λ e q f r z. (turned k a b c d).by e q r z ∙ (row_40 s (binary (equal k) a b) c d).by e q f r z })

row_40_same : (s : Seat) (n w : Tree) → Row40Unequal n w → SameAt (Expr s) n w
row_40_same s n w r = subst (λ x. SameAt (Expr s) x w) (sym r.shape) (subst (λ y. SameAt (Expr s) (conditional (binary (unequal r.is_strict) r.a r.b) r.c r.d) y) (sym r.written) (unequal_same s r.is_strict r.a r.b r.c r.d))

-- ---- 83

swapped : (a s u : Tree) → SameStatement (if_else (negation a) s u) (if_else a u s)
swapped a s u = equal_statement _ _ (λ e ls z.
    if_is e (negation a) s u ls z
    ∙ ap (λ x. either x (λ t y. choose t (means e s (Stat None) [] y) (means e u (Stat None) [] y)) (λ x y. stop x y)) (not_test e a z)
    ∙ by_negated (means e a (As Test) tt z) (λ y. means e s (Stat None) [] y) (λ y. means e u (Stat None) [] y)
    ∙ sym (if_is e a u s ls z)) refl

-- ---- all

row_same : (p : Position) (n w : Tree) → TurnRow p n w → SameAt p n w
row_same (Expr s) n w r = row_40_same s n w r
row_same (Stmt q) n w r = statement_same n w (replaced n _ w _ r.shape r.written (swapped r.a r.s r.u)) q
row_same p n w r = absurd r

row_reads : (p : Position) (n w : Tree) → TurnRow p n w → summary n ≡ summary w
row_reads (Expr s) n w r = ap summary r.shape ∙ (turned r.is_strict r.a r.b r.c r.d).read ∙ sym (ap summary r.written)
row_reads (Stmt q) n w r = (replaced n _ w _ r.shape r.written (swapped r.a r.s r.u)).read
row_reads p n w r = absurd r

pub turn_rows_same : MeansSame TurnRow
turn_rows_same = record { same = row_same; reads = row_reads }

pub turns_same : MeansSame TurnContracts
turns_same = record { same = λ p n w c. row_same p n w c.row; reads = λ p n w c. row_reads p n w c.row }
