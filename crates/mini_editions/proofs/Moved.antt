-- Rows of names that are read once, or not at all, move what they have, and write no form besides:
-- each is in what is written at most as often as in what is read.
use Rattle.std.proofs.Common.{◌≡◌, ◌≤◌, ◌+◌, arith, Bool, true, false, true≢false, refl, sym, ap, inl, inr}
use Rattle.std.specs.Prelude.{◌&&◌, if◌then◌else◌}
use Rattle.mini_model.specs.declared.kind.PropertyKind.TheVariants.{Init}
use Rattle.mini_model.specs.declared.kind.VariableDeclarationKind.{VariableDeclarationKind}
use Rattle.mini_model.specs.declared.name.Name.{Name}
use Rattle.mini_model.specs.declared.place.Position.{Position}
use Rattle.mini_model.specs.declared.place.Position.TheVariants.{Expr, Stmt, Method, Elsewhere}
use Rattle.mini_model.specs.declared.shape.Shape.{Shape}
use Rattle.mini_model.specs.declared.shape.Shape.TheVariants as shape
use Rattle.mini_model.specs.Paths.{append}
use Rattle.mini_model.specs.Tree.{Tree, Trees, node, none, ◌▸◌, listed, is_absent, expression_statement}
use Rattle.mini_terms.specs.Reading.{is_plain_part}
use Rattle.mini_rows.specs.Cases.{switch_case}
use Rattle.mini_rows.specs.Declarations.{binding, declarator}
use Rattle.mini_rows.specs.Forms.{Form, form_of, form_of_bare, is_form}
use Rattle.mini_rows.specs.Lists.{block, declaration}
use Rattle.mini_rows.specs.Switches.{Switches, Liberties, without_vars}
use Rattle.mini_rows.specs.Unused.{resolved, names, in_full, put_first, put_among, declared_among, declared_one, declared_left, head_left, may_move, Row71Next, BlockRow, ArrowBodyRow, FunctionBodyRow, ModuleRow, StaticBlockRow, switch_around, SwitchRow, ForHeadRow, UnusedRow}
use Rattle.mini_editions.proofs.Times.{own, own_by, times, all_times, Fewer, all_append}

pub left_true : (a b : Bool) → (a && b) ≡ true → a ≡ true
left_true true b e = refl
left_true false b e = absurd (true≢false (sym e))

pub plain_there : (t : Tree) → is_plain_part t ≡ true → is_absent t ≡ false
plain_there (node shape.Absent xs n ts) e = absurd (true≢false (sym e))
plain_there (node h xs n ts) e = refl

pub moved_there : (W : Liberties) (t : Tree) → may_move W.switches t ≡ true → is_absent t ≡ false
moved_there W t e = plain_there t (left_true (is_plain_part t) _ e)

module _ (f : Form) where
  abbrev pub Below : Tree → Tree → Type 0
  Below n w = times f w ≤ times f n

  abbrev pub AllBelow : Trees → Trees → Type 0
  AllBelow ts us = all_times f us ≤ all_times f ts

  pub below : {n w s t : Tree} → n ≡ s → w ≡ t → Below s t → Below n w
  below g k l = omega (arith, ap (times f) g, ap (times f) k, l)

  pub all_below : {a b s t : Trees} → a ≡ s → b ≡ t → AllBelow s t → AllBelow a b
  all_below g k l = omega (arith, ap (all_times f) g, ap (all_times f) k, l)

  pub below_fewer : (n w : Tree) → Below n w → Fewer f n w
  below_fewer n w l z = omega (arith, l, z)

  -- ---- another tree in the place of what is read first

  module _ (x : Name) (r : Tree) (there : is_absent r ≡ false) where
    absent_put : (t : Tree) → own_by (is_form f (form_of_bare (is_absent (put_first x r t)))) ≤ own_by (is_form f (form_of_bare (is_absent t)))
    absent_put (node h ys n none) = omega (arith, ap (λ b. own_by (is_form f (form_of_bare b))) there)
    absent_put (node (shape.ObjectProperty Init false true false) ys n (t ▸ ts)) = omega arith
    absent_put (node h ys n (t ▸ ts)) = omega arith

    own_put : (h : Shape) (b : Bool) (t : Tree) (ts us : Trees) → own f (form_of (in_full h) (if b then put_first x r t ▸ ts else t ▸ us)) ≤ own f (form_of h (t ▸ ts))
    own_put shape.CatchClause true t ts us = absent_put t
    own_put shape.CatchClause false t ts us = omega arith
    own_put (shape.ObjectProperty Init false true false) b t ts us = omega arith
    own_put h b t ts us = omega arith

    among_if : (b : Bool) (t p : Tree) (ts us : Trees) → times f p ≤ times f t + times f r → all_times f us ≤ all_times f ts + times f r → all_times f (if b then p ▸ ts else t ▸ us) ≤ (times f t + all_times f ts) + times f r
    among_if true t p ts us k l = omega (arith, k)
    among_if false t p ts us k l = omega (arith, l)

    mutual
      pub put_below : (t : Tree) → times f (put_first x r t) ≤ times f t + times f r
      put_below (node h ys n none) = omega arith
      put_below (node h ys n (t ▸ ts)) = omega (arith, own_put h (names x t) t ts (put_among x r ts), among_if (names x t) t (put_first x r t) ts (put_among x r ts) (put_below t) (among_below ts))

      among_below : (ts : Trees) → all_times f (put_among x r ts) ≤ all_times f ts + times f r
      among_below none = omega arith
      among_below (t ▸ ts) = among_if (names x t) t (put_first x r t) ts (put_among x r ts) (put_below t) (among_below ts)

  -- ---- in a block

  pub left_sum : (k : VariableDeclarationKind) (ds : Trees) → times f (declared_left k ds) ≡ all_times f ds
  left_sum k none = refl
  left_sum k (d ▸ ds) = omega arith

  pub head_left_sum : (k : VariableDeclarationKind) (ds : Trees) → times f (head_left k ds) ≡ all_times f ds
  head_left_sum k none = refl
  head_left_sum k (d ▸ ds) = omega arith

  pub next_below : (W : Liberties) (n w : Tree) → Row71Next W n w → Below n w
  next_below W n w r = below r.shape r.written (
      let x : Name = resolved r.spelling r.symbol in
      let ds = append r.first (declarator (binding x) r.init ▸ (declarator r.binds r.value ▸ r.last)) in
      let es = append r.first (declarator r.binds (put_first x r.init r.value) ▸ r.last) in
      omega (arith, all_append f r.before (declaration r.kind ds ▸ r.after), all_append f r.before (declaration r.kind es ▸ r.after), all_append f r.first (declarator (binding x) r.init ▸ (declarator r.binds r.value ▸ r.last)), all_append f r.first (declarator r.binds (put_first x r.init r.value) ▸ r.last), put_below x r.init (moved_there W r.init r.moves) r.value))

  pub block_below : (W : Liberties) (n w : Tree) → BlockRow W n w → Below n w
  block_below W n w (inl r) = below r.shape r.written (omega (arith, all_append f r.before (declared_one r.kind (resolved r.spelling r.symbol) r.init ▸ r.after), all_append f r.before (expression_statement r.init ▸ r.after)))
  block_below W n w (inr (inl r)) = below r.shape r.written (
      let x : Name = resolved r.spelling r.symbol in
      omega (arith, all_append f r.before (declared_among r.kind x r.first r.init r.last ▸ r.after), all_append f r.before (declared_left r.kind (append r.first r.last) ▸ r.after), all_append f r.first (declarator (binding x) r.init ▸ r.last), left_sum r.kind (append r.first r.last), all_append f r.first r.last))
  block_below W n w (inr (inr (inl r))) = below r.shape r.written (
      let x : Name = resolved r.spelling r.symbol in
      omega (arith, all_append f r.before (declared_among r.kind x r.first r.init none ▸ (r.head ▸ r.after)), all_append f r.before (declared_left r.kind r.first ▸ (put_first x r.init r.head ▸ r.after)), all_append f r.first (declarator (binding x) r.init ▸ none), left_sum r.kind r.first, put_below x r.init (moved_there W r.init r.moves) r.head))
  block_below W n w (inr (inr (inr r))) = next_below W n w r

  -- so in a list of statements, with what stands outside of it
  pub among_block : (W : Liberties) (o ts us : Trees) → BlockRow W (block (listed o ▸ ts)) (block (listed o ▸ us)) → AllBelow ts us
  among_block W o ts us r = let made = block_below W (block (listed o ▸ ts)) (block (listed o ▸ us)) r in omega (arith, made)

  -- ---- wherever they stand

  arrow_below : (W : Liberties) (n w : Tree) → ArrowBodyRow W n w → Below n w
  arrow_below W n w r = below r.shape r.written (let made = among_block W r.parameters r.before r.after r.row in omega (arith, made))

  function_below : (W : Liberties) (n w : Tree) → FunctionBodyRow W n w → Below n w
  function_below W n w r = below r.shape r.written (let made = among_block W (r.name ▸ r.parameters) r.before r.after r.row in omega (arith, made))

  module_below : (W : Liberties) (n w : Tree) → ModuleRow W n w → Below n w
  module_below W n w r = below r.shape r.written (let made = among_block W none r.before r.after r.row in omega (arith, made))

  static_below : (W : Liberties) (n w : Tree) → StaticBlockRow W n w → Below n w
  static_below W n w r = below r.shape r.written (let made = among_block W none r.before r.after r.row in omega (arith, made))

  switch_below : (o : Switches) (n w : Tree) → SwitchRow o n w → Below n w
  switch_below o n w r = below r.shape r.written (
      let made = among_block (without_vars o) (switch_around r.discriminant r.first r.test r.last ▸ none) r.before r.after r.row in
      omega (arith, made, all_append f r.first (switch_case r.test r.before ▸ r.last), all_append f r.first (switch_case r.test r.after ▸ r.last)))

  head_below : (o : Switches) (n w : Tree) → ForHeadRow o n w → Below n w
  head_below o n w (inl r) = below r.shape r.written (
      let x : Name = resolved r.spelling r.symbol in
      omega (arith, all_append f r.first (declarator (binding x) r.init ▸ r.last), head_left_sum r.kind (append r.first r.last), all_append f r.first r.last))
  head_below o n w (inr r) = below r.shape r.written (
      let after = r.test ▸ (r.update ▸ (r.body ▸ none)) in
      let made = next_below (without_vars o) (block (r.before ▸ after)) (block (r.after ▸ after)) r.row in
      omega (arith, made))

  pub unused_below : (W : Liberties) (p : Position) (n w : Tree) → UnusedRow W p n w → Below n w
  unused_below W (Stmt q) n w (inl r) = block_below (without_vars W.switches) n w r
  unused_below W (Stmt q) n w (inr (inl r)) = function_below W n w r
  unused_below W (Stmt q) n w (inr (inr (inl r))) = switch_below W.switches n w r
  unused_below W (Stmt q) n w (inr (inr (inr r))) = head_below W.switches n w r
  unused_below W (Expr s) n w (inl r) = arrow_below W n w r
  unused_below W (Expr s) n w (inr r) = function_below W n w r
  unused_below W Method n w r = function_below W n w r
  unused_below W Elsewhere n w (inl r) = function_below W n w r
  unused_below W Elsewhere n w (inr (inl r)) = module_below W n w r
  unused_below W Elsewhere n w (inr (inr (inl r))) = static_below W n w r
  unused_below W Elsewhere n w (inr (inr (inr r))) = block_below (without_vars W.switches) n w r
  unused_below W p n w r = absurd r
