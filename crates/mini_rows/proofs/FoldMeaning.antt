-- What a row on what is known writes means the same.
use Rattle.std.proofs.Common.{◌≡◌, true, refl, sym, ap, subst, ◌∙◌, inl, inr}
use Rattle.std.specs.Prelude.{◌&&◌, ◌||◌, not}
use Rattle.std.proofs.lemmas.Bool.{and_parts}
use Rattle.mini_model.specs.declared.operator.LogicalOperator.{LogicalOperator}
use Rattle.mini_model.specs.declared.place.Position.{Position}
use Rattle.mini_model.specs.declared.place.Position.TheVariants.{Expr, Stmt}
use Rattle.mini_model.specs.declared.seat.Seat.{Seat}
use Rattle.mini_model.specs.declared.seat.StmtSeat.{StmtSeat}
use Rattle.mini_model.specs.Tree.{Tree, logical, conditional, expression_statement, empty_statement}
use Rattle.mini_laws.specs.Value.{VariableSet}
use Rattle.mini_laws.specs.State.{Environment}
use Rattle.mini_laws.specs.Demand.{Demand, Stat}
use Rattle.mini_laws.specs.Naming.{summary}
use Rattle.mini_laws.specs.Fits.{Fits}
use Rattle.mini_laws.specs.Same.{Same}
use Rattle.mini_laws.specs.Rows.{SameAt}
use Rattle.mini_laws.specs.Rewritten.{MeansSame}
use Rattle.mini_terms.specs.Reading.{is_plain_part, is_read_by_value}
use Rattle.mini_terms.specs.Folds.{is_effect_free}
use Rattle.mini_terms.specs.Parts.{is_number, takes_numbers, suits}
use Rattle.mini_terms.proofs.Reading.{same_in_seat}
use Rattle.mini_terms.proofs.Dropping.{goes_on_same, stops_same, does_nothing}
use Rattle.mini_rows.specs.Folding.{Row12, Row13, Row28, Row49Idle, FoldingRow, FoldingContracts}
use Rattle.mini_rows.specs.Spellings.{binary}
use Rattle.mini_rows.proofs.FoldBranches.{branch_same}
use Rattle.mini_rows.proofs.FoldEqualities.{equality_same}
use Rattle.mini_rows.proofs.ForPartMeaning.{parts_same, parts_read}
pub use Rattle.mini_rows.proofs.PlainRead.{plain_read}
use Rattle.mini_rows.proofs.SpellAlike.{SameTree}
use Rattle.mini_rows.proofs.SpellMeaning.{tree_same, same_by}
use Rattle.mini_rows.proofs.TextLength.{length_same, length_read}

-- what a part that stays has

pub plain_of : (s : Seat) (t : Tree) → suits s t ≡ true → is_plain_part t ≡ true
plain_of s t h = (and_parts (is_plain_part t) (is_read_by_value s t && (takes_numbers s || not (is_number t))) h).0

pub value_of : (s : Seat) (t : Tree) → suits s t ≡ true → is_read_by_value s t ≡ true
value_of s t h = (and_parts (is_read_by_value s t) (takes_numbers s || not (is_number t)) (and_parts (is_plain_part t) (is_read_by_value s t && (takes_numbers s || not (is_number t))) h).1).0

pub number_of : (s : Seat) (t : Tree) → suits s t ≡ true → takes_numbers s || not (is_number t) ≡ true
number_of s t h = (and_parts (is_read_by_value s t) (takes_numbers s || not (is_number t)) (and_parts (is_plain_part t) (is_read_by_value s t && (takes_numbers s || not (is_number t))) h).1).1

pub logical_read : (o : LogicalOperator) (a b t : Tree) → is_plain_part t ≡ true → summary (logical o a b) ≡ summary t
logical_read o a b t e = sym (plain_read t e)

-- the rows

pub passed_same : (s : Seat) (n w : Tree) → Row13 s n w → SameAt (Expr s) n w
passed_same s n w r =
    subst (λ t. SameAt (Expr s) t w) (sym r.shape) (subst (SameAt (Expr s) (logical r.operator r.left r.right)) (sym r.written)
    (same_in_seat s (logical r.operator r.left r.right) r.right refl (value_of s r.right r.stays) (goes_on_same r.operator r.left r.right r.known r.effect_free)))

pub passed_read : (s : Seat) (n w : Tree) → Row13 s n w → summary n ≡ summary w
passed_read s n w r = ap summary r.shape ∙ logical_read r.operator r.left r.right r.right (plain_of s r.right r.stays) ∙ sym (ap summary r.written)

stopped_same : (s : Seat) (n w : Tree) → Row12 s n w → SameAt (Expr s) n w
stopped_same s n w r =
    subst (λ t. SameAt (Expr s) t w) (sym r.shape) (subst (SameAt (Expr s) (logical r.operator r.left r.right)) (sym r.written)
    (same_in_seat s (logical r.operator r.left r.right) r.left refl (value_of s r.left r.stays) (stops_same r.operator r.left r.right r.known)))

loosened_alike : (n w : Tree) → Row28 n w → SameTree n w
loosened_alike n w r = same_by n w (binary r.operator r.left r.right) (binary r.loose r.left r.right) r.shape r.written (equality_same r.operator r.loose r.loosens r.left r.right r.alike)

loosened_same : (s : Seat) (n w : Tree) → Row28 n w → SameAt (Expr s) n w
loosened_same s n w r = tree_same s n w (loosened_alike n w r)

branch_here : (s : Seat) (n w : Tree) → Row49Idle s n w → SameAt (Expr s) n w
branch_here s n w r =
    subst (λ t. SameAt (Expr s) t w) (sym r.shape) (subst (SameAt (Expr s) (conditional r.test r.branch r.branch)) (sym r.written)
    (same_in_seat s (conditional r.test r.branch r.branch) r.branch refl (value_of s r.branch r.stays) (branch_same r.test r.branch r.effect_free)))

branch_read : (s : Seat) (n w : Tree) → Row49Idle s n w → summary n ≡ summary w
branch_read s n w r = ap summary r.shape ∙ sym (ap summary r.written ∙ plain_read r.branch (plain_of s r.branch r.stays))

module _ (q : StmtSeat) (a : Tree) (h : is_effect_free a ≡ true) where
  nothing_by : (e : Environment) (D X : VariableSet) (d : Demand) → Fits (Stmt q) d → Same e D X d (expression_statement a) empty_statement
  nothing_by e D X (Stat t) f = does_nothing a h e D X t
  nothing_by e D X d f = absurd f

  nothing_same : SameAt (Stmt q) (expression_statement a) empty_statement
  nothing_same = record { by = nothing_by }

row_same : (p : Position) (n w : Tree) → FoldingRow p n w → SameAt p n w
row_same (Expr s) n w (inl r) = passed_same s n w r
row_same (Expr s) n w (inr (inl r)) = stopped_same s n w r
row_same (Expr s) n w (inr (inr (inl r))) = loosened_same s n w r
row_same (Expr s) n w (inr (inr (inr (inl r)))) = branch_here s n w r
row_same (Expr s) n w (inr (inr (inr (inr r)))) = length_same s n w r
row_same (Stmt q) n w (inr r) = parts_same q n w r
row_same (Stmt q) n w (inl r) = subst (λ t. SameAt (Stmt q) t w) (sym r.shape) (subst (SameAt (Stmt q) (expression_statement r.expression)) (sym r.written) (nothing_same q r.expression r.effect_free))
row_same p n w r = absurd r

row_read : (p : Position) (n w : Tree) → FoldingRow p n w → summary n ≡ summary w
row_read (Expr s) n w (inl r) = passed_read s n w r
row_read (Expr s) n w (inr (inl r)) = ap summary r.shape ∙ logical_read r.operator r.left r.right r.left (plain_of s r.left r.stays) ∙ sym (ap summary r.written)
row_read (Expr s) n w (inr (inr (inl r))) = (loosened_alike n w r).read
row_read (Expr s) n w (inr (inr (inr (inl r)))) = branch_read s n w r
row_read (Expr s) n w (inr (inr (inr (inr r)))) = length_read s n w r
row_read (Stmt q) n w (inr r) = parts_read n w r
row_read (Stmt q) n w (inl r) = ap summary r.shape ∙ sym (ap summary r.written)
row_read p n w r = absurd r

pub foldings_same : MeansSame FoldingContracts
foldings_same = record { same = λ p n w c. row_same p n w c.row; reads = λ p n w c. row_read p n w c.row }
