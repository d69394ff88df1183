-- Rows of branches and of bodies of loops ask less.
use Rattle.std.specs.Prelude.{◌≡◌, refl, Bool, true, [], ◌∷◌}
use Rattle.std.proofs.Common.{inl, inr, ap, sym, subst}
use Rattle.mini_model.specs.declared.operator.LogicalOperator.TheVariants.{And}
use Rattle.mini_model.specs.declared.operator.UnaryOperator.TheVariants.{LogicalNot}
use Rattle.mini_model.specs.declared.place.Position.TheVariants.{Stmt}
use Rattle.mini_model.specs.declared.seat.StmtSeat.{StmtSeat}
use Rattle.mini_model.specs.Paths.{append}
use Rattle.mini_model.specs.Tree.{Tree, Trees, none, ◌▸◌, listed, absent, empty_statement}
use Rattle.mini_accept.specs.WellShaped.{Slot, fits}
use Rattle.mini_rows.specs.Branches.{Surrounding, Consequent, Alternate, WhileBody, DoBody, ForBody, InBody, OfBody, around, bare_continue}
use Rattle.mini_rows.specs.Lists.{block, is_unscoped, are_unscoped}
use Rattle.mini_rows.specs.Loops.{bare_break, Tested, always, while_true, test_of, also, Leaving, alone, or_else, unless, leaves_by, goes_by, runs_on, Leading, whole, before, led, others_of, Row84}
use Rattle.mini_rows.specs.Sketches.{AList, Empty, If, Block, part, under, list, end, ◌▹◌, no_items, item, items, Free, Asked, AsWhole, AsValue, AsBranch, AsItems, AsItem}
use Rattle.mini_rows.proofs.Arranging.{All, all_of, of_all, Any}
use Rattle.mini_rows.proofs.ArrangedPlain.{is_plain}
use Rattle.mini_less.specs.Families.{LessAt, BodyRowsLess}
use Rattle.mini_less.specs.Less.{AFor, AWhile, ADo, AnIn, AnOf, Plain}
use Rattle.mini_less.proofs.IfsLess.{block_plain, if_parts, an_if}
use Rattle.mini_less.proofs.LoopsLess.{loop_less}
use Rattle.mini_less.proofs.Made.{ByParts, made_statement_less}
use Rattle.mini_less.proofs.Nodes.{a_unary, a_logical}

-- a branch, or the body of a loop, changes
pub around_less : (q : StmtSeat) (n w : Tree) (k : Surrounding) (c d : Tree) → n ≡ around k c → w ≡ around k d → ((strict : Bool) (x : Slot) → fits strict x n ≡ true → (Q : Asked → Tree → Type 0) → ByParts Q → Q AsBranch c → Q AsBranch d) → LessAt (Stmt q) n w
around_less q n w (Consequent a u) c d e f made =
    made_statement_less q n w If If (a ▸ c ▸ u ▸ none) (a ▸ d ▸ u ▸ none) refl refl e f tt (λ strict x k Q l y.
    let (test, (first, second)) = if_parts Q l AsWhole a c u (subst (Q AsWhole) e y) in
    subst (Q AsWhole) (sym f) (an_if Q l AsWhole a d u test (made strict x k Q l first) second))
around_less q n w (Alternate a s) c d e f made =
    made_statement_less q n w If If (a ▸ s ▸ c ▸ none) (a ▸ s ▸ d ▸ none) refl refl e f tt (λ strict x k Q l y.
    let (test, (first, second)) = if_parts Q l AsWhole a s c (subst (Q AsWhole) e y) in
    subst (Q AsWhole) (sym f) (an_if Q l AsWhole a s d test first (made strict x k Q l second)))
around_less q n w (WhileBody a) c d e f made = loop_less q n w AWhile a a (c ▸ none) (d ▸ none) e f refl (inr refl) (λ strict x k Q l y. (y.0, (made strict x k Q l y.1.0, tt)))
around_less q n w (DoBody a) c d e f made = loop_less q n w ADo c d (a ▸ none) (a ▸ none) e f refl (inr refl) (λ strict x k Q l y. (made strict x k Q l y.0, y.1))
around_less q n w (ForBody i t u) c d e f made = loop_less q n w AFor i i (t ▸ (u ▸ (c ▸ none))) (t ▸ (u ▸ (d ▸ none))) e f refl (inl (refl, refl)) (λ strict x k Q l y. (y.0, (y.1.0, (y.1.1.0, (made strict x k Q l y.1.1.1.0, tt)))))
around_less q n w (InBody a b) c d e f made = loop_less q n w AnIn a a (b ▸ (c ▸ none)) (b ▸ (d ▸ none)) e f refl (inl (refl, refl)) (λ strict x k Q l y. (y.0, (y.1.0, (made strict x k Q l y.1.1.0, tt))))
around_less q n w (OfBody a b) c d e f made = loop_less q n w AnOf a a (b ▸ (c ▸ none)) (b ▸ (d ▸ none)) e f refl (inl (refl, refl)) (λ strict x k Q l y. (y.0, (y.1.0, (made strict x k Q l y.1.1.0, tt))))

module _ (Q : Asked → Tree → Type 0) (l : ByParts Q) where
  an_empty : Q AsBranch empty_statement
  an_empty = l.up Empty refl AsBranch none tt tt

  unblocked : (s : Tree) → is_unscoped s ≡ true → Q AsBranch (block (s ▸ none)) → Q AsBranch s
  unblocked s e y = (l.moved s e).1 (l.down AList refl AsItems (s ▸ none) tt (l.down Block refl AsBranch (listed (s ▸ none) ▸ none) (block_plain s e) y).0).0

-- ---- 84

-- a block of unscoped statements is plain
abbrev all_moved : Free
all_moved = record { moved = 0 ∷ []; lists_moved = 0 ∷ []; dropped = [] }

append_nothing : (ts : Trees) → append ts none ≡ ts
append_nothing none = refl
append_nothing (t ▸ ts) = ap (λ us. t ▸ us) (append_nothing ts)

several_plain : (t : Tree) (ts : Trees) → is_unscoped t ≡ true → are_unscoped ts ≡ true → Plain Block (listed (t ▸ ts) ▸ none)
several_plain t ts e f = subst (λ us. Plain Block (listed (t ▸ us) ▸ none)) (append_nothing ts) (is_plain all_moved (record { trees = t ▸ none; lists = ts ∷ [] }) ((e, tt), (f, tt)) AsBranch (under Block (list (item (part 0) (items 0 no_items)) ▹ end)) refl).0

-- how the first statement of the body stands
abbrev led_asked : Leading → Asked
led_asked whole = AsBranch
led_asked (before ts) = AsItem

pub unscoped_leaving : (v : Leaving) (x : Tree) → is_unscoped (leaves_by v x) ≡ true
unscoped_leaving alone x = refl
unscoped_leaving (or_else s) x = refl
unscoped_leaving (unless s) x = refl

module _ (Q : Asked → Tree → Type 0) (l : ByParts Q) where
  led_parts : (k : Leading) (t : Tree) → is_unscoped t ≡ true → are_unscoped (others_of k) ≡ true → Q AsBranch (led k t) → Q (led_asked k) t × All Q AsItem (others_of k)
  led_parts whole t e f y = (y, tt)
  led_parts (before ts) t e f y =
      let all = all_of Any Q AsItem 0 (t ▸ ts) (l.down AList refl AsItems (t ▸ ts) tt (l.down Block refl AsBranch (listed (t ▸ ts) ▸ none) (several_plain t ts e f) y).0) in
      (all.0, all.1)

  leads : (k : Leading) (t : Tree) → is_unscoped t ≡ true → are_unscoped (others_of k) ≡ true → Q (led_asked k) t → All Q AsItem (others_of k) → Q AsBranch (led k t)
  leads whole t e f y z = y
  leads (before ts) t e f y z = l.up Block refl AsBranch (listed (t ▸ ts) ▸ none) (several_plain t ts e f) (l.up AList refl AsItems (t ▸ ts) tt (of_all Any Q AsItem 0 (t ▸ ts) (y, z)), tt)

  pub leaving_parts : (c : Asked) (v : Leaving) (x : Tree) → Q c (leaves_by v x) → Q AsValue x × Q AsBranch (runs_on v)
  leaving_parts c alone x y = ((if_parts Q l c x bare_break absent y).0, an_empty Q l)
  leaving_parts c (or_else s) x y = let (test, (first, second)) = if_parts Q l c x bare_break s y in (test, second)
  leaving_parts c (unless s) x y = let (test, (first, second)) = if_parts Q l c x s bare_break y in (test, first)

  pub goes : (v : Leaving) (x : Tree) → Q AsValue x → Q AsValue (goes_by v x)
  goes alone x y = a_unary Q l LogicalNot x y
  goes (or_else s) x y = a_unary Q l LogicalNot x y
  goes (unless s) x y = y

  pub beside : (t : Tested) (x : Tree) → Q AsValue (test_of t) → Q AsValue x → Q AsValue (also t x)
  beside always x y z = z
  beside (while_true t) x y z = a_logical Q l And t x y z

  placed : (k : Leading) (s : Tree) → is_unscoped s ≡ true → Q AsBranch s → Q (led_asked k) s
  placed whole s e y = y
  placed (before ts) s e y = (l.moved s e).0 y

row_84 : (q : StmtSeat) (n w : Tree) → Row84 n w → LessAt (Stmt q) n w
row_84 q n w r =
    let read : Tree = led r.leading (leaves_by r.leaving r.x) in
    let put : Tree = led r.leading (runs_on r.leaving) in
    loop_less q n w AFor r.init r.init (test_of r.test ▸ (r.update ▸ (read ▸ none))) (also r.test (goes_by r.leaving r.x) ▸ (r.update ▸ (put ▸ none))) r.shape r.written refl (inl (refl, refl)) (λ strict y k Q l z.
    let (first, others) = led_parts Q l r.leading (leaves_by r.leaving r.x) (unscoped_leaving r.leaving r.x) r.unscoped z.1.1.1.0 in
    let (test, body) = leaving_parts Q l (led_asked r.leading) r.leaving r.x first in
    (z.0, (beside Q l r.test (goes_by r.leaving r.x) z.1.0 (goes Q l r.leaving r.x test), (z.1.1.0, (leads Q l r.leading (runs_on r.leaving) r.loose r.unscoped (placed Q l r.leading (runs_on r.leaving) r.loose body) others, tt)))))

pub body_rows_less : BodyRowsLess
body_rows_less = record {
  row_79 = λ q n w r. around_less q n w r.place (block (r.statement ▸ none)) r.statement r.shape r.written (λ strict x k Q l y. unblocked Q l r.statement r.unscoped y);
  row_84 = row_84;
  row_78_whole = λ q n w r. around_less q n w r.place bare_continue empty_statement r.shape r.written (λ strict x k Q l y. an_empty Q l);
  row_78_never = λ q n w r. around_less q n w (DoBody r.test) bare_break empty_statement r.shape r.written (λ strict x k Q l y. an_empty Q l);
}
