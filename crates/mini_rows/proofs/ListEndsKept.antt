-- What the rows at the end of a function's body write keeps what a program has to keep.
use Rattle.std.proofs.Common.{◌≡◌, ℕ, Bool, true, false, List, [], ◌∷◌, refl, sym, ap, ◌∙◌, subst, inl, inr}
use Rattle.std.proofs.lemmas.Bool.{and_parts}
use Rattle.mini_model.specs.declared.kind.VariableDeclarationKind.TheVariants.{Var}
use Rattle.mini_model.specs.declared.name.Name.{Name}
use Rattle.mini_model.specs.declared.operator.UnaryOperator.TheVariants.{LogicalNot}
use Rattle.mini_model.specs.declared.place.Position.TheVariants.{StatementList}
use Rattle.mini_model.specs.declared.shape.Shape.TheVariants as shape
use Rattle.mini_model.specs.Tree.{Tree, Trees, node, none, ◌▸◌, absent, listed, if_else, if_alone, negation}
use Rattle.mini_model.specs.Paths.{append}
use Rattle.mini_accept.specs.WellShaped.{Depth, in_module, in_body, nested, a_statement, Slot, one_or_absent, each, fits, fill}
use Rattle.mini_kept.proofs.Bools.{both}
use Rattle.mini_kept.proofs.Placed.{statements_slot}
use Rattle.mini_kept.specs.Placed.{fits_place}
use Rattle.mini_node.specs.Walks.{append_none}
use Rattle.mini_rows.specs.Switches.{Switches}
use Rattle.mini_rows.specs.Arranged.{KeptAt}
use Rattle.mini_rows.specs.Lists.{block, is_unscoped, are_unscoped, alternate_of, Row75, Row75Block, Row78, AtEnd, EndRow, bare_return}
use Rattle.mini_rows.specs.Sketches.{Unary, AbsentPart, Return, If, Block, Sketch, Items, part, under, list, end, ◌▹◌, no_items, item, items, still}
use Rattle.mini_rows.proofs.ArrangedBetween.{between}
use Rattle.mini_rows.proofs.ListShapes.{expression, statement, Fits, AllFit, Fitting, first_fits, more_fit, append_fits, both_fit, of_if, if_fits, of_block}

-- ---- it is built anew of the same parts

module _ (before read put : Trees) where
  abbrev Kept : Type 0
  Kept = KeptAt StatementList (listed (append before (append read none))) (listed (append before (append put none)))

  abbrev bare : Sketch
  bare = under Return (under AbsentPart end ▹ end)

  row_78_kept : Row78 bare_return read put → Kept
  row_78_kept r = between still none before none [] (tt, tt, tt) (item bare no_items) no_items refl read put r.shape r.written

  row_75_kept : Row75 bare_return read put → Kept
  row_75_kept r =
      between (record { moved = []; lists_moved = 2 ∷ []; dropped = [] }) (r.test ▸ none) before none (r.rest ∷ []) (tt, (r.unscoped, tt), tt)
      (item (under If (part 0 ▹ bare ▹ under AbsentPart end ▹ end)) (items 2 no_items))
      (item (under If (under (Unary LogicalNot) (part 0 ▹ end) ▹ under Block (list (items 2 no_items) ▹ end) ▹ under AbsentPart end ▹ end)) no_items)
      refl read put
      (r.shape ∙ ap (λ ts. if_alone r.test bare_return ▸ ts) (sym (append_none r.rest)))
      (r.written ∙ ap (λ ts. if_alone (negation r.test) (block ts) ▸ none) (sym (append_none r.rest)))

  abbrev leaving_block : Items → Items
  leaving_block is = item (under If (part 0 ▹ under Block (list (items 2 (item bare no_items)) ▹ end) ▹ under AbsentPart end ▹ end)) is

  abbrev with_alternate : Sketch → Items
  with_alternate s = item (under If (part 0 ▹ under Block (list (items 2 no_items) ▹ end) ▹ s ▹ end)) no_items

  block_kept : (test : Tree) (body rest : Trees) → are_unscoped body ≡ true → are_unscoped rest ≡ true → read ≡ if_alone test (block (append body (bare_return ▸ none))) ▸ rest → put ≡ if_else test (block body) (alternate_of rest) ▸ none → Kept
  block_kept test body none l u s w =
      between (record { moved = []; lists_moved = 2 ∷ []; dropped = [] }) (test ▸ none) before none (body ∷ []) (tt, (l, tt), tt)
      (leaving_block no_items) (with_alternate (under AbsentPart end)) refl read put
      s
      (w ∙ ap (λ ts. if_alone test (block ts) ▸ none) (sym (append_none body)))
  block_kept test body (t ▸ ts) l u s w =
      between (record { moved = []; lists_moved = 2 ∷ 3 ∷ []; dropped = [] }) (test ▸ none) before none (body ∷ ((t ▸ ts) ∷ [])) (tt, (l, (u, tt)), tt)
      (leaving_block (items 3 no_items)) (with_alternate (under Block (list (items 3 no_items) ▹ end))) refl read put
      (s ∙ ap (λ us. if_alone test (block (append body (bare_return ▸ none))) ▸ us) (sym (append_none (t ▸ ts))))
      (w ∙ ap (λ us. if_else test (block us) (block (t ▸ ts)) ▸ none) (sym (append_none body)) ∙ ap (λ us. if_else test (block (append body none)) (block us) ▸ none) (sym (append_none (t ▸ ts))))

  row_75_block_kept : Row75Block bare_return read put → Kept
  row_75_block_kept r = block_kept r.test r.body r.rest r.loose r.unscoped r.shape r.written

  row_kept : (o : Switches) → EndRow o bare_return read put → Kept
  row_kept o (inl r) = row_78_kept r
  row_kept o (inr (s, inl r)) = row_75_kept r
  row_kept o (inr (s, inr r)) = row_75_block_kept r

pub end_kept : (o : Switches) (n w : Tree) → AtEnd (EndRow o bare_return) n w → KeptAt StatementList n w
end_kept o n w r =
    subst (λ t. KeptAt StatementList t w) (sym (r.shape ∙ ap (λ ts. listed (append r.before ts)) (sym (append_none r.read))))
    (subst (KeptAt StatementList (listed (append r.before (append r.read none)))) (sym (r.written ∙ ap (λ ts. listed (append r.before ts)) (sym (append_none r.put)))) (row_kept r.before r.read r.put o r.row))

-- ---- it may stand there

var_deeper : (strict : Bool) (d : Depth) (xs : List Name) (n : ℕ) (ts : Trees) → fits strict (statement d) (node (shape.VariableDeclaration Var) xs n ts) ≡ true → fits strict (statement nested) (node (shape.VariableDeclaration Var) xs n ts) ≡ true
var_deeper true in_module xs n ts e = e
var_deeper true in_body xs n ts e = e
var_deeper false in_module xs n ts e = e
var_deeper false in_body xs n ts e = e
var_deeper strict nested xs n ts e = e

module _ (strict : Bool) where
  -- what isn't scoped may stand deeper
  deeper : (d : Depth) (t : Tree) → is_unscoped t ≡ true → Fits strict (statement d) t → Fits strict (statement nested) t
  deeper d (node shape.ExpressionStatement xs n ts) u e = e
  deeper d (node shape.EmptyStatement xs n ts) u e = e
  deeper d (node shape.DebuggerStatement xs n ts) u e = e
  deeper d (node shape.BlockStatement xs n ts) u e = e
  deeper d (node shape.LabeledStatement xs n ts) u e = e
  deeper d (node shape.BreakStatement xs n ts) u e = e
  deeper d (node shape.ContinueStatement xs n ts) u e = e
  deeper d (node shape.ReturnStatement xs n ts) u e = e
  deeper d (node shape.ThrowStatement xs n ts) u e = e
  deeper d (node shape.IfStatement xs n ts) u e = e
  deeper d (node shape.SwitchStatement xs n ts) u e = e
  deeper d (node shape.TryStatement xs n ts) u e = e
  deeper d (node shape.WhileStatement xs n ts) u e = e
  deeper d (node shape.DoWhileStatement xs n ts) u e = e
  deeper d (node shape.ForStatement xs n ts) u e = e
  deeper d (node shape.ForInStatement xs n ts) u e = e
  deeper d (node shape.ForOfStatement xs n ts) u e = e
  deeper d (node (shape.VariableDeclaration Var) xs n ts) u e = var_deeper strict d xs n ts e
  deeper d t u e = absurd (cc u)

  all_deeper : (d : Depth) (ts : Trees) → are_unscoped ts ≡ true → AllFit strict (statement d) ts → AllFit strict (statement nested) ts
  all_deeper d none u e = refl
  all_deeper d (t ▸ ts) u e =
      let (x, y) = and_parts (is_unscoped t) (are_unscoped ts) u in
      let (f, g) = first_fits strict (statement d) t ts e in
      more_fit strict (statement nested) t ts (deeper d t x f) (all_deeper d ts y g)

  pub block_fits : (ts : Trees) → AllFit strict (statement nested) ts → Fits strict (statement nested) (block ts)
  block_fits ts e = both (fill strict (each (statement nested)) ts) true e refl

  not_fits : (a : Tree) → Fits strict expression a → Fits strict expression (negation a)
  not_fits a e = both (fits strict expression a) true e refl

  pub row_75_fits : (jump test : Tree) (rest : Trees) → are_unscoped rest ≡ true → Fitting strict (if_alone test jump ▸ rest) (if_alone (negation test) (block rest) ▸ none)
  row_75_fits jump test rest u d e =
      let (x, y) = first_fits strict (statement d) (if_alone test jump) rest e in
      let (a, b, c) = of_if strict d test jump absent x in
      more_fit strict (statement d) (if_alone (negation test) (block rest)) none (if_fits strict d (negation test) (block rest) absent (not_fits test a, block_fits rest (all_deeper d rest u y), refl)) refl

  alternate_fits : (ts : Trees) → AllFit strict (statement nested) ts → fits strict (one_or_absent (a_statement nested)) (alternate_of ts) ≡ true
  alternate_fits none e = refl
  alternate_fits (t ▸ ts) e = block_fits (t ▸ ts) e

  pub row_75_block_fits : (jump test : Tree) (body rest : Trees) → are_unscoped rest ≡ true → Fitting strict (if_alone test (block (append body (jump ▸ none))) ▸ rest) (if_else test (block body) (alternate_of rest) ▸ none)
  row_75_block_fits jump test body rest u d e =
      let (x, y) = first_fits strict (statement d) (if_alone test (block (append body (jump ▸ none)))) rest e in
      let (a, b, c) = of_if strict d test (block (append body (jump ▸ none))) absent x in
      let (f, g) = both_fit strict (statement nested) body (jump ▸ none) (of_block strict nested (append body (jump ▸ none)) b) in
      more_fit strict (statement d) (if_else test (block body) (alternate_of rest)) none (if_fits strict d test (block body) (alternate_of rest) (a, block_fits body f, alternate_fits rest (all_deeper d rest u y))) refl

  row_fits : (o : Switches) (a b : Trees) → EndRow o bare_return a b → Fitting strict a b
  row_fits o a b (inl r) d e = subst (AllFit strict (statement d)) (sym r.written) refl
  row_fits o a b (inr (s, inl r)) d e = subst (AllFit strict (statement d)) (sym r.written) (row_75_fits bare_return r.test r.rest r.unscoped d (subst (AllFit strict (statement d)) r.shape e))
  row_fits o a b (inr (s, inr r)) d e = subst (AllFit strict (statement d)) (sym r.written) (row_75_block_fits bare_return r.test r.body r.rest r.unscoped d (subst (AllFit strict (statement d)) r.shape e))

pub end_fits : (o : Switches) (n w : Tree) → AtEnd (EndRow o bare_return) n w → (strict : Bool) (s : Slot) → fits_place StatementList s ≡ true → fits strict s n ≡ true → fits strict s w ≡ true
end_fits o n w r strict s k e =
    let (d, q, f) = statements_slot strict s [] 0 (append r.before r.read) k (subst (λ t. fits strict s t ≡ true) r.shape e) in
    let (x, y) = both_fit strict (statement d) r.before r.read f in
    let made = append_fits strict (statement d) r.before r.put x (row_fits strict o r.read r.put r.row d y) in
    subst (λ t. fits strict s t ≡ true) (sym r.written) (subst (λ c. fits strict c (listed (append r.before r.put)) ≡ true) (sym q) (both true (fill strict (each (statement d)) (append r.before r.put)) refl made))
