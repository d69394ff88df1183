-- What a row on what is known writes keeps all that a program has to keep.
use Rattle.std.proofs.Common.{◌≡◌, Bool, true, refl, sym, ap, subst, inl, inr}
use Rattle.mini_model.specs.declared.place.Position.{Position}
use Rattle.mini_model.specs.declared.place.Position.TheVariants.{Expr, Stmt}
use Rattle.mini_model.specs.Tree.{Tree, shape_of, logical, conditional, expression_statement}
use Rattle.mini_accept.specs.WellShaped.{Slot, fits}
use Rattle.mini_kept.specs.KeepsNames.{is_rewritten_place}
use Rattle.mini_kept.specs.KeepsShapes.{AskedAlike, KeepsShapes}
use Rattle.mini_kept.specs.KeepsFrames.{is_body_slot}
use Rattle.mini_kept.specs.Placed.{fits_place}
use Rattle.mini_kept.proofs.Expressions.{of_conditional, expression_taken}
use Rattle.mini_rows.specs.Arranged.{KeptLoosely}
use Rattle.mini_rows.specs.ForParts.{ForPartRow}
use Rattle.mini_rows.specs.Folding.{FoldingRow, FoldingContracts, FoldingsLawful, FoldingsLoose}
use Rattle.mini_rows.proofs.ArrangedLawful.{kept_loosely, fixed_is_lawful, kept_is_loose}
use Rattle.mini_rows.proofs.BranchAround.{is_plain}
use Rattle.mini_rows.proofs.BranchLawful.{is_read, taken, fits_there, body_slot, plain_asked}
use Rattle.mini_rows.proofs.FoldLawful.{passed_kept, stopped_kept, loosened_kept, branch_kept, statement_kept, operands, statement_taken, empty_taken, loosened_fits, loosened_formed, expression_slot, statement_slot, logical_asked, conditional_asked, statement_asked}
use Rattle.mini_rows.proofs.FoldMeaning.{foldings_same}
use Rattle.mini_rows.proofs.ForRowKept.{parts_kept, parts_fit}
use Rattle.mini_rows.proofs.SpellShapes.{formed_asked, formed_slot}
use Rattle.mini_rows.proofs.TextLength.{length_kept, length_taken, length_fits, length_asked}

-- ---- the same parts

kept : (p : Position) (n w : Tree) → FoldingRow p n w → KeptLoosely p n w
kept (Expr q) n w (inl r) = kept_loosely (Expr q) n w (passed_kept q n w r)
kept (Expr q) n w (inr (inl r)) = stopped_kept q n w r
kept (Expr q) n w (inr (inr (inl r))) = kept_loosely (Expr q) n w (loosened_kept q n w r)
kept (Expr q) n w (inr (inr (inr (inl r)))) = kept_loosely (Expr q) n w (branch_kept q n w r)
kept (Expr q) n w (inr (inr (inr (inr r)))) = kept_loosely (Expr q) n w (length_kept q n w r)
kept (Stmt q) n w (inl r) = kept_loosely (Stmt q) n w (statement_kept q n w r)
kept (Stmt q) n w (inr r) = kept_loosely (Stmt q) n w (parts_kept q n w r)
kept p n w r = absurd r

places : (p : Position) (n w : Tree) → FoldingRow p n w → is_rewritten_place p ≡ true
places (Expr q) n w r = refl
places (Stmt q) n w r = refl
places p n w r = absurd r

-- ---- where they stand

-- a `for` without a part of its head
part_read : (n w : Tree) → ForPartRow n w → is_read (shape_of n) ≡ true
part_read n w (inl r) = ap (λ t. is_read (shape_of t)) r.shape
part_read n w (inr r) = ap (λ t. is_read (shape_of t)) r.shape

part_plain : (n w : Tree) → ForPartRow n w → (is_plain (shape_of n) ≡ true) × (is_plain (shape_of w) ≡ true)
part_plain n w (inl r) = (ap (λ t. is_plain (shape_of t)) r.shape, ap (λ t. is_plain (shape_of t)) r.written)
part_plain n w (inr r) = (ap (λ t. is_plain (shape_of t)) r.shape, ap (λ t. is_plain (shape_of t)) r.written)

row_fits : (p : Position) (n w : Tree) → FoldingRow p n w → (strict : Bool) (s : Slot) → fits_place p s ≡ true → fits strict s n ≡ true → fits strict s w ≡ true
row_fits (Expr q) n w (inl r) strict s k e = let (takes, first, second) = operands strict s r.operator r.left r.right (subst (λ t. fits strict s t ≡ true) r.shape e) in subst (λ t. fits strict s t ≡ true) (sym r.written) (expression_taken strict s r.right takes second)
row_fits (Expr q) n w (inr (inr (inl r))) strict s k e = loosened_fits n w r strict s e
row_fits (Expr q) n w (inr (inr (inr (inl r)))) strict s k e = let (takes, (test, branch, again)) = of_conditional strict s r.test r.branch r.branch (subst (λ t. fits strict s t ≡ true) r.shape e) in subst (λ t. fits strict s t ≡ true) (sym r.written) (expression_taken strict s r.branch takes branch)
row_fits (Expr q) n w (inr (inr (inr (inr r)))) strict s k e = length_fits q n w r strict s k e
row_fits (Expr q) n w (inr (inl r)) strict s k e = let (takes, first, second) = operands strict s r.operator r.left r.right (subst (λ t. fits strict s t ≡ true) r.shape e) in subst (λ t. fits strict s t ≡ true) (sym r.written) (expression_taken strict s r.left takes first)
row_fits (Stmt q) n w (inr r) strict s k e = fits_there strict s n w (part_read n w r) (part_plain n w r).0 (part_plain n w r).1 (parts_fit strict n w r) e
row_fits (Stmt q) n w (inl r) strict s k e = subst (λ t. fits strict s t ≡ true) (sym r.written) (empty_taken strict s (statement_taken strict s r.expression (subst (λ t. fits strict s t ≡ true) r.shape e)))
row_fits p n w r strict s k e = absurd r

row_slot : (p : Position) (n w : Tree) → FoldingRow p n w → (strict : Bool) (s : Slot) → fits_place p s ≡ true → fits strict s n ≡ true → is_body_slot p s ≡ true
row_slot (Expr q) n w (inl r) strict s k e = expression_slot (Expr q) s (operands strict s r.operator r.left r.right (subst (λ t. fits strict s t ≡ true) r.shape e)).0
row_slot (Expr q) n w (inr (inr (inl r))) strict s k e = formed_slot (Expr q) n w (loosened_formed n w r) strict s e
row_slot (Expr q) n w (inr (inr (inr (inl r)))) strict s k e = expression_slot (Expr q) s (of_conditional strict s r.test r.branch r.branch (subst (λ t. fits strict s t ≡ true) r.shape e)).0
row_slot (Expr q) n w (inr (inr (inr (inr r)))) strict s k e = expression_slot (Expr q) s (length_taken q n w r strict s k e)
row_slot (Expr q) n w (inr (inl r)) strict s k e = expression_slot (Expr q) s (operands strict s r.operator r.left r.right (subst (λ t. fits strict s t ≡ true) r.shape e)).0
row_slot (Stmt q) n w (inr r) strict s k e = body_slot (Stmt q) s (taken strict s n (part_read n w r) e)
row_slot (Stmt q) n w (inl r) strict s k e = statement_slot (Stmt q) s (statement_taken strict s r.expression (subst (λ t. fits strict s t ≡ true) r.shape e))
row_slot p n w r strict s k e = absurd r

-- ---- what a parent asks of them

row_asked : (p : Position) (n w : Tree) → FoldingRow p n w → AskedAlike p n w
row_asked (Expr q) n w (inl r) = subst (λ t. AskedAlike (Expr q) t w) (sym r.shape) (subst (AskedAlike (Expr q) (logical r.operator r.left r.right)) (sym r.written) (logical_asked q r.operator r.left r.right r.right r.stays))
row_asked (Expr q) n w (inr (inr (inl r))) = formed_asked (Expr q) n w (loosened_formed n w r)
row_asked (Expr q) n w (inr (inr (inr (inl r)))) = subst (λ t. AskedAlike (Expr q) t w) (sym r.shape) (subst (AskedAlike (Expr q) (conditional r.test r.branch r.branch)) (sym r.written) (conditional_asked q r.test r.branch r.stays))
row_asked (Expr q) n w (inr (inr (inr (inr r)))) = length_asked q n w r
row_asked (Expr q) n w (inr (inl r)) = subst (λ t. AskedAlike (Expr q) t w) (sym r.shape) (subst (AskedAlike (Expr q) (logical r.operator r.left r.right)) (sym r.written) (logical_asked q r.operator r.left r.right r.left r.stays))
row_asked (Stmt q) n w (inr r) = plain_asked (Stmt q) n w (part_plain n w r).0 (part_plain n w r).1
row_asked (Stmt q) n w (inl r) = subst (λ t. AskedAlike (Stmt q) t w) (sym r.shape) (subst (AskedAlike (Stmt q) (expression_statement r.expression)) (sym r.written) (statement_asked q r.expression))
row_asked p n w r = absurd r

shapes : KeepsShapes FoldingContracts
shapes = record { fitting = λ p n w c strict s k e. row_fits p n w c.row strict s k e; asked = λ p n w c. row_asked p n w c.row }

pub foldings_lawful : FoldingsLawful
foldings_lawful = fixed_is_lawful FoldingContracts foldings_same shapes (λ p n w c. places p n w c.row) (λ p n w c strict s k e. row_slot p n w c.row strict s k e) (λ p n w c. kept p n w c.row)

pub foldings_loose : FoldingsLoose
foldings_loose K = kept_is_loose FoldingContracts foldings_same shapes (λ p n w c. places p n w c.row) (λ p n w c strict s k e. row_slot p n w c.row strict s k e) (λ p n w c. kept p n w c.row) K
