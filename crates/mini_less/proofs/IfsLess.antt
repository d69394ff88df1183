-- Rows of `if` ask less, and that of `return` without a value.
use Rattle.std.specs.Prelude.{◌≡◌, refl, Bool, true, false, [], ◌∷◌, if◌then◌else◌}
use Rattle.std.proofs.Common.{inl, inr, sym, subst, true≢false}
use Rattle.mini_model.specs.declared.operator.LogicalOperator.{LogicalOperator}
use Rattle.mini_model.specs.declared.operator.LogicalOperator.TheVariants.{Or, And}
use Rattle.mini_model.specs.declared.operator.UnaryOperator.TheVariants.{LogicalNot}
use Rattle.mini_model.specs.declared.place.Position.TheVariants.{Stmt}
use Rattle.mini_model.specs.declared.seat.StmtSeat.{StmtSeat}
use Rattle.mini_model.specs.declared.shape.Shape.TheVariants as shape
use Rattle.mini_model.specs.Position.{if_test_seat}
use Rattle.mini_model.specs.Paths.{append}
use Rattle.mini_model.specs.Terms.{not_of}
use Rattle.mini_model.specs.Tree.{Tree, node, none, ◌▸◌, listed, absent, expression_statement, if_else, if_alone, logical}
use Rattle.mini_accept.specs.WellShaped.{Slot, fits}
use Rattle.mini_kept.proofs.Rows.{of_if}
use Rattle.mini_rows.specs.Branches.{has_else, as_consequent, Row60, conjunct_seat, Ending, not_of_all, after, with_not, without_not, IfRow}
use Rattle.mini_rows.specs.Lists.{block, is_unscoped}
use Rattle.mini_rows.specs.Sketches.{AbsentPart, AList, OfExpression, Return, If, Block, part, under, list, end, ◌▹◌, no_items, item, Free, Asked, AsWhole, AsValue, AsBranch, AsItems}
use Rattle.mini_rows.proofs.ArrangedPlain.{is_plain}
use Rattle.mini_less.specs.Families.{LessAt, IfRowsLess}
use Rattle.mini_less.specs.Less.{Plain}
use Rattle.mini_less.proofs.Made.{ByParts, made_statement_less}
use Rattle.mini_less.proofs.Negated.{not_kept}
use Rattle.mini_less.proofs.Nodes.{unary_part, a_logical, sequence_parts, a_sequence, firsts, lasts, both_of}

-- a block of an unscoped statement is plain
abbrev first_moved : Free
first_moved = record { moved = 0 ∷ []; lists_moved = []; dropped = [] }

pub block_plain : (u : Tree) → is_unscoped u ≡ true → Plain Block (listed (u ▸ none) ▸ none)
block_plain u e = (is_plain first_moved (record { trees = u ▸ none; lists = [] }) ((e, tt), tt) AsBranch (under Block (list (item (part 0) no_items) ▹ end)) refl).0

unscoped_if : (t : Tree) → has_else t ≡ true → is_unscoped t ≡ true
unscoped_if (node shape.IfStatement xs n ts) e = refl
unscoped_if (node h xs n ts) e = absurd (true≢false (sym e))

module _ (Q : Asked → Tree → Type 0) (l : ByParts Q) where
  pub if_parts : (c : Asked) (a s u : Tree) → Q c (if_else a s u) → Q AsValue a × (Q AsBranch s × Q AsBranch u)
  if_parts c a s u y = let (x, (z, (v, r))) = l.down If refl c (a ▸ s ▸ u ▸ none) tt y in (x, (z, v))

  pub an_if : (c : Asked) (a s u : Tree) → Q AsValue a → Q AsBranch s → Q AsBranch u → Q c (if_else a s u)
  an_if c a s u x y z = l.up If refl c (a ▸ s ▸ u ▸ none) tt (x, (y, (z, tt)))

  pub said : (c : Asked) (a : Tree) → Q c (expression_statement a) → Q AsValue a
  said c a y = (l.down OfExpression refl c (a ▸ none) tt y).0

  pub says : (c : Asked) (a : Tree) → Q AsValue a → Q c (expression_statement a)
  says c a y = l.up OfExpression refl c (a ▸ none) tt (y, tt)

  pub nothing : (c : Asked) → Q c absent
  nothing c = l.up AbsentPart refl c none tt tt

  -- in a block
  pub blocked : (u : Tree) → is_unscoped u ≡ true → Q AsBranch u → Q AsBranch (block (u ▸ none))
  blocked u e y = l.up Block refl AsBranch (listed (u ▸ none) ▸ none) (block_plain u e) (l.up AList refl AsItems (u ▸ none) tt ((l.moved u e).0 y, tt), tt)

  consequent : (u : Tree) → Q AsBranch u → Q AsBranch (as_consequent u)
  consequent u y = by (has_else u) refl
    where
      by : (b : Bool) → has_else u ≡ b → Q AsBranch (if b then block (u ▸ none) else u)
      by true e = blocked u (unscoped_if u e) y
      by false e = y

  -- without the `!` that ends it
  ending : (e : Ending) → Q AsValue (with_not e) → Q AsValue (without_not e)
  ending (not_of_all a) y = unary_part Q l LogicalNot a y
  ending (after a bs c) y =
      let all = sequence_parts Q l (a ▸ append bs (with_not c ▸ none)) y in
      a_sequence Q l (a ▸ append bs (without_not c ▸ none)) (all.0, both_of Q l bs (without_not c ▸ none) (firsts Q l bs (with_not c ▸ none) all.1) (ending c (lasts Q l bs (with_not c ▸ none) all.1).0, tt))

module _ (q : StmtSeat) (n w : Tree) where
  -- an expression for an `if`
  joined_less : (o : LogicalOperator) (a s u b x : Tree) → n ≡ if_else a s u → w ≡ expression_statement (logical o x b) → ((strict : Bool) (y : Slot) → fits strict y n ≡ true → (Q : Asked → Tree → Type 0) → ByParts Q → Q AsValue a × (Q AsBranch s × Q AsBranch u) → Q AsValue x × Q AsValue b) → LessAt (Stmt q) n w
  joined_less o a s u b x e f made =
      made_statement_less q n w If OfExpression (a ▸ s ▸ u ▸ none) (logical o x b ▸ none) refl refl e f tt (λ strict y k Q l z.
      let (first, second) = made strict y k Q l (if_parts Q l AsWhole a s u (subst (Q AsWhole) e z)) in
      subst (Q AsWhole) (sym f) (says Q l AsWhole (logical o x b) (a_logical Q l o x b first second)))

  row_here : IfRow n w → LessAt (Stmt q) n w
  row_here (inl (inl r)) = joined_less Or r.a r.empty (expression_statement r.b) r.b r.a r.shape r.written (λ strict y k Q l p. (p.0, said Q l AsBranch r.b p.1.1))
  row_here (inl (inr r)) =
      joined_less And r.a r.empty (expression_statement r.b) r.b (not_of conjunct_seat r.a) r.shape r.written (λ strict y k Q l p.
      (not_kept Q l strict r.a conjunct_seat (of_if strict y r.a r.empty (expression_statement r.b) (subst (λ t. fits strict y t ≡ true) r.shape k)).1.0 p.0, said Q l AsBranch r.b p.1.1))
  row_here (inr (inr (inl r))) = joined_less Or (with_not (after r.first r.others r.last)) (expression_statement r.b) absent r.b (without_not (after r.first r.others r.last)) r.shape r.written (λ strict y k Q l p. (ending Q l (after r.first r.others r.last) p.0, said Q l AsBranch r.b p.1.0))
  row_here (inr (inr (inr r))) = joined_less And (with_not (after r.first r.others r.last)) r.empty (expression_statement r.b) r.b (without_not (after r.first r.others r.last)) r.shape r.written (λ strict y k Q l p. (ending Q l (after r.first r.others r.last) p.0, said Q l AsBranch r.b p.1.1))
  row_here (inr (inl (inl r))) =
      made_statement_less q n w If OfExpression (r.a ▸ r.empty ▸ absent ▸ none) (r.a ▸ none) refl refl r.shape r.written tt (λ strict y k Q l z.
      subst (Q AsWhole) (sym r.written) (says Q l AsWhole r.a (if_parts Q l AsWhole r.a r.empty absent (subst (Q AsWhole) r.shape z)).0))
  row_here (inr (inl (inr (inl r)))) =
      made_statement_less q n w If If (r.a ▸ r.empty ▸ r.u ▸ none) (not_of if_test_seat r.a ▸ as_consequent r.u ▸ absent ▸ none) refl refl r.shape r.written tt (λ strict y k Q l z.
      let there = subst (λ t. fits strict y t ≡ true) r.shape k in
      let (test, (first, second)) = if_parts Q l AsWhole r.a r.empty r.u (subst (Q AsWhole) r.shape z) in
      subst (Q AsWhole) (sym r.written) (an_if Q l AsWhole (not_of if_test_seat r.a) (as_consequent r.u) absent (not_kept Q l strict r.a if_test_seat (of_if strict y r.a r.empty r.u there).1.0 test) (consequent Q l r.u second) (nothing Q l AsBranch)))
  row_here (inr (inl (inr (inr (inl r))))) =
      made_statement_less q n w If If (r.a ▸ if_alone r.b r.s ▸ absent ▸ none) (logical And r.a r.b ▸ r.s ▸ absent ▸ none) refl refl r.shape r.written tt (λ strict y k Q l z.
      let (test, (first, second)) = if_parts Q l AsWhole r.a (if_alone r.b r.s) absent (subst (Q AsWhole) r.shape z) in
      let (inner, (body, none_there)) = if_parts Q l AsBranch r.b r.s absent first in
      subst (Q AsWhole) (sym r.written) (an_if Q l AsWhole (logical And r.a r.b) r.s absent (a_logical Q l And r.a r.b test inner) body second))
  row_here (inr (inl (inr (inr (inr r))))) =
      made_statement_less q n w If If (r.a ▸ r.c ▸ r.u ▸ none) (r.a ▸ block (r.c ▸ none) ▸ r.u ▸ none) refl refl r.shape r.written tt (λ strict y k Q l z.
      let (test, (first, second)) = if_parts Q l AsWhole r.a r.c r.u (subst (Q AsWhole) r.shape z) in
      subst (Q AsWhole) (sym r.written) (an_if Q l AsWhole r.a (block (r.c ▸ none)) r.u test (blocked Q l r.c (unscoped_if r.c r.chooses) first) second))

  returned_less : Row60 n w → LessAt (Stmt q) n w
  returned_less r = made_statement_less q n w Return Return (r.argument ▸ none) (absent ▸ none) refl refl r.shape r.written tt (λ strict y k Q l z. subst (Q AsWhole) (sym r.written) (l.up Return refl AsWhole (absent ▸ none) tt (nothing Q l AsValue, tt)))

pub if_rows_less : IfRowsLess
if_rows_less = record { ifs = λ q n w r. row_here q n w r; returns = λ q n w r. returned_less q n w r }
