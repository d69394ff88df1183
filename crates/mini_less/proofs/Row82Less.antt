-- 82 of a negated test: `if (!a) b;` becomes `a || b;`.
use Rattle.std.specs.Prelude.{◌≡◌, refl, Bool, true}
use Rattle.std.proofs.Common.{sym, subst}
use Rattle.mini_model.specs.declared.operator.LogicalOperator.TheVariants.{Or}
use Rattle.mini_model.specs.declared.seat.Seat.{Seat}
use Rattle.mini_model.specs.Position.{statement_expression_seat, left_operand_seat}
use Rattle.mini_model.specs.Terms.{not_of}
use Rattle.mini_model.specs.Tree.{Tree, none, ◌▸◌, absent, expression_statement, logical}
use Rattle.mini_accept.specs.WellShaped.{Slot, fits}
use Rattle.mini_kept.proofs.Rows.{of_if}
use Rattle.mini_rows.specs.Sketches.{Logical, OfExpression, If, Asked, AsValue, AsWhole, AsBranch}
use Rattle.mini_less.specs.Families.{Row82OrLess}
use Rattle.mini_less.proofs.Made.{ByParts, made_statement_less}
use Rattle.mini_less.proofs.Negated.{not_kept}

abbrev seat : Seat
seat = left_operand_seat Or statement_expression_seat

pub row_82_or_less : Row82OrLess
row_82_or_less q n w r = made_statement_less q n w If OfExpression (r.a ▸ expression_statement r.b ▸ absent ▸ none) (logical Or (not_of seat r.a) r.b ▸ none) refl refl r.shape r.written tt made
  where
    made : (strict : Bool) (x : Slot) → fits strict x n ≡ true → (Q : Asked → Tree → Type 0) → ByParts Q → Q AsWhole n → Q AsWhole w
    made strict x fit Q l y =
        let (test, (body, rest)) = l.down If refl AsWhole (r.a ▸ expression_statement r.b ▸ absent ▸ none) tt (subst (Q AsWhole) r.shape y) in
        let does = l.down OfExpression refl AsBranch (r.b ▸ none) tt body in
        subst (Q AsWhole) (sym r.written) (l.up OfExpression refl AsWhole (logical Or (not_of seat r.a) r.b ▸ none) tt
        (l.up (Logical Or) refl AsValue (not_of seat r.a ▸ r.b ▸ none) tt (not_kept Q l strict r.a seat (of_if strict x r.a (expression_statement r.b) absent (subst (λ t. fits strict x t ≡ true) r.shape fit)).1.0 test, (does.0, tt)), tt))
