-- Rows by De Morgan's laws ask less.
use Rattle.std.specs.Prelude.{◌≡◌, refl, true, Bool, []}
use Rattle.std.proofs.Common.{inl, inr, ◌∙◌, sym, subst}
use Rattle.mini_model.specs.declared.operator.LogicalOperator.{LogicalOperator}
use Rattle.mini_model.specs.declared.place.Position.{Position}
use Rattle.mini_model.specs.declared.place.Position.TheVariants.{Expr, Stmt}
use Rattle.mini_model.specs.declared.seat.Seat.{Seat}
use Rattle.mini_model.specs.declared.seat.StmtSeat.{StmtSeat}
use Rattle.mini_model.specs.Position.{left_operand_seat, statement_expression_seat}
use Rattle.mini_model.specs.Paths.{append}
use Rattle.mini_model.specs.Terms.{turned}
use Rattle.mini_model.specs.Tree.{Tree, Trees, none, ◌▸◌, listed, logical}
use Rattle.mini_accept.specs.WellShaped.{Slot, each, fits, fill}
use Rattle.mini_laws.specs.declared.names.Declared.TheVariants as declared
use Rattle.mini_laws.specs.DeclaredNames.{names_of}
use Rattle.mini_kept.proofs.Expressions.{expression}
use Rattle.mini_kept.proofs.Quiet.{no_names}
use Rattle.mini_rows.specs.DeMorgan.{turned_logical, VoidPlace, Alone, Begins, Turns, void_of, ended, DeMorganRow, DeMorganContracts}
use Rattle.mini_rows.specs.Lists.{sequence}
use Rattle.mini_rows.specs.Negations.{lightest}
use Rattle.mini_rows.specs.Sketches.{Sequence, OfExpression, Asked, AsValue, AsWhole}
use Rattle.mini_rows.proofs.DeMorganLawful.{in_head, place_inner}
use Rattle.mini_rows.proofs.SequenceStands.{of_sequence}
use Rattle.mini_less.specs.Families.{LessAt, DeMorganReadsLess}
use Rattle.mini_less.specs.Less.{AFor}
use Rattle.mini_less.proofs.LoopsLess.{loop_less}
use Rattle.mini_less.proofs.LessRows.{reads_less_by}
use Rattle.mini_less.proofs.Made.{ByParts, made_statement_less}
use Rattle.mini_less.proofs.NegationsLess.{operands_fit, parts_fit, one_fits, lightest_made}
use Rattle.mini_less.proofs.Nodes.{logical_parts, a_logical, sequence_parts, a_sequence, firsts, lasts, both_of, made_under}

module _ (strict : Bool) where
  abbrev Fits : Tree → Type 0
  Fits t = fits strict expression t ≡ true

  later_fit : (before ts : Trees) → fill strict (each expression) (append before ts) ≡ true → fill strict (each expression) ts ≡ true
  later_fit none ts e = e
  later_fit (p ▸ ps) ts e = later_fit ps ts (one_fits strict p (append ps ts) e).1

  ended_fits : (before : Trees) (t : Tree) → Fits (ended before t) → Fits t
  ended_fits none t e = e
  ended_fits (p ▸ ps) t e = (one_fits strict t none (later_fit ps (t ▸ none) (one_fits strict p (append ps (t ▸ none)) (parts_fit strict (p ▸ append ps (t ▸ none)) e)).1)).0

  module _ (Q : Asked → Tree → Type 0) (l : ByParts Q) where
    turned_made : (o : LogicalOperator) (a b : Tree) → Fits (logical o a b) → Q AsValue (logical o a b) → Q AsValue (turned_logical o a b)
    turned_made o a b e y =
        let (x, z) = logical_parts Q l o a b y in
        let s : Seat = left_operand_seat (turned o) statement_expression_seat in
        a_logical Q l (turned o) (lightest s a) b (lightest_made strict Q l s a (operands_fit strict o a b e).0 x) z

    ended_made : (before : Trees) (o : LogicalOperator) (a b : Tree) → Fits (ended before (logical o a b)) → Q AsValue (ended before (logical o a b)) → Q AsValue (ended before (turned_logical o a b))
    ended_made none o a b e y = turned_made o a b e y
    ended_made (p ▸ ps) o a b e y =
        let all = sequence_parts Q l (p ▸ append ps (logical o a b ▸ none)) y in
        a_sequence Q l (p ▸ append ps (turned_logical o a b ▸ none))
        (all.0, both_of Q l ps (turned_logical o a b ▸ none) (firsts Q l ps (logical o a b ▸ none) all.1) (turned_made o a b (ended_fits (p ▸ ps) (logical o a b) e) (lasts Q l ps (logical o a b ▸ none) all.1).0, tt))

    part_made : (before : Trees) (o : LogicalOperator) (a b next : Tree) (after : Trees) → Fits (sequence (append before (logical o a b ▸ (next ▸ after)))) → Q AsValue (sequence (append before (logical o a b ▸ (next ▸ after)))) → Q AsValue (sequence (append before (turned_logical o a b ▸ (next ▸ after))))
    part_made before o a b next after e y =
        let all = sequence_parts Q l (append before (logical o a b ▸ (next ▸ after))) y in
        let rest = lasts Q l before (logical o a b ▸ (next ▸ after)) all in
        let fit = (one_fits strict (logical o a b) (next ▸ after) (later_fit before (logical o a b ▸ (next ▸ after)) (parts_fit strict (append before (logical o a b ▸ (next ▸ after))) e))).0 in
        a_sequence Q l (append before (turned_logical o a b ▸ (next ▸ after))) (both_of Q l before (turned_logical o a b ▸ (next ▸ after)) (firsts Q l before (logical o a b ▸ (next ▸ after)) all) (turned_made o a b fit rest.0, rest.1))

-- it declares nothing
unnamed : (before : Trees) (o : LogicalOperator) (a b : Tree) → names_of declared.Lexical (ended before (logical o a b)) ≡ []
unnamed none o a b = no_names declared.Lexical (logical o a b) refl
unnamed (p ▸ ps) o a b = no_names declared.Lexical (sequence (p ▸ append ps (logical o a b ▸ none))) refl

module _ (q : StmtSeat) (n w : Tree) (before : Trees) (o : LogicalOperator) (a b : Tree) where
  abbrev read : Tree
  read = ended before (logical o a b)

  abbrev put : Tree
  put = ended before (turned_logical o a b)

  fit_there : (v : VoidPlace) (strict : Bool) (x : Slot) → n ≡ void_of v read → fits strict x n ≡ true → fits strict expression read ≡ true
  fit_there v strict x e k = place_inner strict x v read (in_head before o a b) (subst (λ t. fits strict x t ≡ true) e k)

  place_less : (v : VoidPlace) → n ≡ void_of v read → w ≡ void_of v put → LessAt (Stmt q) n w
  place_less Alone e f =
      made_statement_less q n w OfExpression OfExpression (read ▸ none) (put ▸ none) refl refl e f tt (λ strict x k Q l y.
      subst (Q AsWhole) (sym f) (l.up OfExpression refl AsWhole (put ▸ none) tt (ended_made strict Q l before o a b (fit_there Alone strict x e k) (l.down OfExpression refl AsWhole (read ▸ none) tt (subst (Q AsWhole) e y)).0, tt)))
  place_less (Begins t u c) e f =
      loop_less q n w AFor read put (t ▸ (u ▸ (c ▸ none))) (t ▸ (u ▸ (c ▸ none))) e f (unnamed before (turned o) _ b ∙ sym (unnamed before o a b)) (inr (unnamed before o a b)) (λ strict x k Q l y.
      (ended_made strict Q l before o a b (fit_there (Begins t u c) strict x e k) y.0, y.1))
  place_less (Turns i t c) e f =
      loop_less q n w AFor i i (t ▸ (read ▸ (c ▸ none))) (t ▸ (put ▸ (c ▸ none))) e f refl (inl (refl, refl)) (λ strict x k Q l y.
      (y.0, (y.1.0, (ended_made strict Q l before o a b (fit_there (Turns i t c) strict x e k) y.1.1.0, y.1.1.1))))

row_less : (p : Position) (n w : Tree) → DeMorganRow p n w → LessAt p n w
row_less (Stmt q) n w r = place_less q n w r.before r.operator r.a r.b r.place r.shape r.written
row_less (Expr q) n w r =
    made_under q n w Sequence (listed (append r.before (logical r.operator r.a r.b ▸ (r.next ▸ r.after))) ▸ none) refl r.shape tt Sequence (listed (append r.before (turned_logical r.operator r.a r.b ▸ (r.next ▸ r.after))) ▸ none) refl r.written (λ strict x k Q l y.
    subst (Q AsValue) (sym r.written) (part_made strict Q l r.before r.operator r.a r.b r.next r.after (of_sequence strict x (append r.before (logical r.operator r.a r.b ▸ (r.next ▸ r.after))) (subst (λ t. fits strict x t ≡ true) r.shape k)).1 (subst (Q AsValue) r.shape y)))
row_less p n w r = absurd r

pub de_morgan_reads_less : DeMorganReadsLess
de_morgan_reads_less = reads_less_by DeMorganContracts (λ p n w c. row_less p n w c.row)
