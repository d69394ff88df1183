-- Rows on the heads of statements in a list, on declarations that join them, and on a jump and what
-- follows it ask less.
use Rattle.std.specs.Prelude.{◌≡◌, refl, Bool, true, ◌&&◌, [], ◌∷◌}
use Rattle.std.proofs.Common.{ap, ◌∙◌, sym, subst, true≢false}
use Rattle.std.proofs.lemmas.Bool.{and_parts}
use Rattle.mini_accept.specs.WellShaped.{Depth, a_statement, an_init, a_loop_left, an_expression, one, one_or_absent, each, fill, fits}
use Rattle.mini_model.specs.declared.kind.VariableDeclarationKind.TheVariants.{Var}
use Rattle.mini_model.specs.declared.operator.LogicalOperator.TheVariants.{Or}
use Rattle.mini_model.specs.declared.operator.UnaryOperator.TheVariants.{LogicalNot}
use Rattle.mini_model.specs.declared.place.Position.{Position}
use Rattle.mini_model.specs.declared.shape.Shape.TheVariants as shape
use Rattle.mini_model.specs.Paths.{append}
use Rattle.mini_model.specs.Tree.{Tree, Trees, node, none, ◌▸◌, listed, absent, shape_of, expression_statement, logical, negation}
use Rattle.mini_laws.specs.declared.names.Declared.TheVariants as declared
use Rattle.mini_laws.specs.DeclaredNames.{names_of}
use Rattle.mini_kept.specs.Placed.{is_statement_list}
use Rattle.mini_kept.proofs.Expressions.{refused_here}
use Rattle.mini_rows.specs.Lists.{block, declaration, is_unscoped, are_unscoped, of_parts, are_parts, is_one_part_shape, declares_nothing, with_head, for_loop, for_in, alternate_of, bare_return, leap, Breaks, Continues, Leap, Row67, Row67Absent, Row67In, Row68Free, Row68Init, Row74, Row75, Row75Block, Row77Leap, InList, AtEnd}
use Rattle.mini_rows.specs.Lists as row
use Rattle.mini_rows.specs.Sketches.{AList, Block, Return, Throw, under, list, end, ◌▹◌, no_items, items, Free, Asked, AsValue, AsBranch, AsItem, AsItems, AsWholeItem}
use Rattle.mini_rows.proofs.Arranging.{All, Any, all_of, of_all, first_all}
use Rattle.mini_rows.proofs.ArrangedPlain.{is_plain}
use Rattle.mini_rows.proofs.ArrangedValues.{is_value, value_fits}
use Rattle.mini_rows.proofs.ListKeptKeys.{left_lexical}
use Rattle.mini_less.specs.Families.{LessAt, NeighboursLess}
use Rattle.mini_less.specs.Less.{AFor, AnIn, Plain}
use Rattle.mini_less.proofs.ByLists.{ByLists, value_lexical}
use Rattle.mini_less.specs.TellsLists.{Every}
use Rattle.mini_less.proofs.IfsLess.{if_parts, an_if, nothing, said}
use Rattle.mini_less.proofs.ListMade.{ListMade, made_list_less}
use Rattle.mini_less.proofs.ListRowsLess.{append_none}
use Rattle.mini_less.proofs.Made.{ByParts}
use Rattle.mini_less.proofs.MoreRowsLess.{appended}
use Rattle.mini_less.proofs.Nodes.{a_logical, a_unary, sequence_parts, a_sequence, both_of}

-- a row on unscoped neighbours
pub neighbours_less : (R : Trees → Trees → Type 0) → ((a b : Trees) → R a b → are_unscoped a ≡ true) → ((a b : Trees) → R a b → ListMade a b) → NeighboursLess R
neighbours_less R loose made p l n w r = made_list_less p l r.before r.after r.read r.put n w r.shape r.written (loose r.read r.put r.row) (made r.read r.put r.row)

-- and on those at the end of a list
pub last_less : (R : Trees → Trees → Type 0) → ((a b : Trees) → R a b → are_unscoped a ≡ true) → ((a b : Trees) → R a b → ListMade a b) → (p : Position) → is_statement_list p ≡ true → (n w : Tree) → AtEnd R n w → LessAt p n w
last_less R loose made p l n w r = made_list_less p l r.before none r.read r.put n w (r.shape ∙ ap (λ ts. listed (append r.before ts)) (sym (append_none r.read))) (r.written ∙ ap (λ ts. listed (append r.before ts)) (sym (append_none r.put))) (loose r.read r.put r.row) (made r.read r.put r.row)

-- ---- expressions as parts in a row

module _ (Q : Asked → Tree → Type 0) (l : ByParts Q) where
  to_row : (p : Tree) (ps : Trees) → Q AsValue (of_parts p ps) → All Q AsValue (p ▸ ps)
  to_row p none y = (y, tt)
  to_row p (c ▸ ps) y = sequence_parts Q l (p ▸ (c ▸ ps)) y

  pub of_row : (p : Tree) (ps : Trees) → All Q AsValue (p ▸ ps) → Q AsValue (of_parts p ps)
  of_row p none y = y.0
  of_row p (c ▸ ps) y = a_sequence Q l (p ▸ (c ▸ ps)) y

  joined : (p : Tree) (ps : Trees) (q : Tree) (qs : Trees) → Q AsValue (of_parts p ps) → Q AsValue (of_parts q qs) → Q AsValue (of_parts p (append ps (q ▸ qs)))
  joined p ps q qs x y = of_row p (append ps (q ▸ qs)) (both_of Q l (p ▸ ps) (q ▸ qs) (to_row p ps x) (to_row q qs y))

joined_value : (p : Tree) (ps : Trees) (q : Tree) (qs : Trees) → is_value (shape_of (of_parts p (append ps (q ▸ qs)))) ≡ true
joined_value p none q qs = refl
joined_value p (c ▸ ps) q qs = refl

pub first_of : (x y : Bool) → (x && y) ≡ true → x ≡ true
first_of x y e = (and_parts x y e).0

-- the second of two statements fits
pub second_fits : (strict : Bool) (k : Depth) (t u : Tree) → fill strict (each (one (a_statement k))) (t ▸ (u ▸ none)) ≡ true → fits strict (one (a_statement k)) u ≡ true
second_fits strict k t u e = (and_parts (fits strict (one (a_statement k)) u) true (and_parts (fits strict (one (a_statement k)) t) (fits strict (one (a_statement k)) u && true) e).1).0

pub first_fits : (strict : Bool) (k : Depth) (t : Tree) (ts : Trees) → fill strict (each (one (a_statement k))) (t ▸ ts) ≡ true → fits strict (one (a_statement k)) t ≡ true
first_fits strict k t ts e = (and_parts (fits strict (one (a_statement k)) t) (fill strict (each (one (a_statement k))) ts) e).0

-- ---- 67

-- what a `for` begins with, where that declares nothing, declares no lexical name
init_lexical : (strict : Bool) (t : Tree) → declares_nothing t ≡ true → fits strict (one_or_absent an_init) t ≡ true → names_of declared.Lexical t ≡ []
unfolding names_of
init_lexical strict (node shape.ImportDeclaration xs n ts) e f = absurd (refused_here strict (one_or_absent an_init) shape.ImportDeclaration xs n ts refl f)
init_lexical strict (node (shape.VariableDeclaration k) xs n ts) e f = absurd (true≢false (sym e))
init_lexical strict (node (shape.Function true g ds) xs n ts) e f = absurd (true≢false (sym e))
init_lexical strict (node (shape.Class true) xs n ts) e f = absurd (true≢false (sym e))
init_lexical strict (node shape.ExportNamedDeclaration xs n ts) e f = absurd (true≢false (sym e))
init_lexical strict (node shape.ExportDefaultDeclaration xs n ts) e f = absurd (true≢false (sym e))
init_lexical strict (node shape.SwitchCase xs n ts) e f = absurd (true≢false (sym e))
init_lexical strict (node shape.Listed xs n ts) e f = absurd (true≢false (sym e))
init_lexical strict (node h xs n ts) e f = refl

row_lexical : (strict : Bool) (q : Tree) (qs : Trees) → are_parts q qs ≡ true → fits strict (one_or_absent an_init) (of_parts q qs) ≡ true → names_of declared.Lexical (of_parts q qs) ≡ []
unfolding names_of
row_lexical strict q none e f = init_lexical strict q (and_parts (is_one_part_shape (shape_of q)) (declares_nothing q) e).1 f
row_lexical strict q (c ▸ qs) e f = refl

-- a head with another expression
module _ (Q : Asked → Tree → Type 0) (l : ByLists Q) (strict : Bool) (k : Depth) where
  pub headed_parts : (h : row.Head) (q : Tree) (qs : Trees) (e : Tree) → are_parts q qs ≡ true → is_value (shape_of e) ≡ true → fits strict (one (a_statement k)) (with_head h (of_parts q qs)) ≡ true → Q AsWholeItem (with_head h (of_parts q qs)) → Q AsValue (of_parts q qs) × (Q AsValue e → Q AsWholeItem (with_head h e))
  headed_parts row.Return q qs e v u f y = ((l.parts.down Return refl AsWholeItem (of_parts q qs ▸ none) tt y).0, λ z. l.parts.up Return refl AsWholeItem (e ▸ none) tt (z, tt))
  headed_parts row.Throw q qs e v u f y = ((l.parts.down Throw refl AsWholeItem (of_parts q qs ▸ none) tt y).0, λ z. l.parts.up Throw refl AsWholeItem (e ▸ none) tt (z, tt))
  headed_parts (row.If s t) q qs e v u f y =
      let (test, (first, second)) = if_parts Q l.parts AsWholeItem (of_parts q qs) s t y in
      (test, λ z. an_if Q l.parts AsWholeItem e s t z first second)
  headed_parts (row.Switch cases) q qs e v u f y = l.switched (of_parts q qs) e cases (value_fits strict (one an_expression) (of_parts q qs) refl (first_of (fits strict (one an_expression) (of_parts q qs)) _ f)) u y
  headed_parts (row.For s t b) q qs e v u f y =
      let (init, rest) = l.loop_down AFor (of_parts q qs) (s ▸ (t ▸ (b ▸ none))) (row_lexical strict q qs v (first_of (fits strict (one_or_absent an_init) (of_parts q qs)) _ f)) y in
      (init, λ z. l.loop_up AFor e (s ▸ (t ▸ (b ▸ none))) (value_lexical e u) (z, rest))

pub head_unscoped : (h : row.Head) (e : Tree) → is_unscoped (with_head h e) ≡ true
head_unscoped row.Return e = refl
head_unscoped row.Throw e = refl
head_unscoped (row.If s t) e = refl
head_unscoped (row.Switch cases) e = refl
head_unscoped (row.For s t b) e = refl

pub row_67_less : NeighboursLess Row67
row_67_less = neighbours_less Row67 loose made
  where
    loose : (a b : Trees) → Row67 a b → are_unscoped a ≡ true
    loose a b r = ap are_unscoped r.shape ∙ λ j. head_unscoped r.head (of_parts r.q r.qs) j && true

    made : (a b : Trees) → Row67 a b → ListMade a b
    made a b r strict k f Q l y =
        let e : Tree = of_parts r.p (append r.ps (r.q ▸ r.qs)) in
        let z = subst (All Q AsWholeItem) r.shape y in
        let fit = second_fits strict k (expression_statement (of_parts r.p r.ps)) (with_head r.head (of_parts r.q r.qs)) (subst (λ ts. fill strict (each (one (a_statement k))) ts ≡ true) r.shape f) in
        let (test, whole) = headed_parts Q l strict k r.head r.q r.qs e r.second (joined_value r.p r.ps r.q r.qs) fit z.1.0 in
        subst (All Q AsWholeItem) (sym r.written) (whole (joined Q l.parts r.p r.ps r.q r.qs (said Q l.parts AsWholeItem (of_parts r.p r.ps) z.0) test), tt)

pub row_67_absent_less : NeighboursLess Row67Absent
row_67_absent_less = neighbours_less Row67Absent (λ a b r. ap are_unscoped r.shape) made
  where
    made : (a b : Trees) → Row67Absent a b → ListMade a b
    made a b r strict k f Q l y =
        let z = subst (All Q AsWholeItem) r.shape y in
        let fit = first_fits strict k (expression_statement (of_parts r.p r.ps)) (for_loop absent r.test r.update r.body ▸ none) (subst (λ ts. fill strict (each (one (a_statement k))) ts ≡ true) r.shape f) in
        let v = value_fits strict (one an_expression) (of_parts r.p r.ps) refl (first_of (fits strict (one an_expression) (of_parts r.p r.ps)) true fit) in
        let (init, rest) = l.loop_down AFor absent (r.test ▸ (r.update ▸ (r.body ▸ none))) (value_lexical absent refl) z.1.0 in
        subst (All Q AsWholeItem) (sym r.written) (l.loop_up AFor (of_parts r.p r.ps) (r.test ▸ (r.update ▸ (r.body ▸ none))) (value_lexical (of_parts r.p r.ps) v) (said Q l.parts AsWholeItem (of_parts r.p r.ps) z.0, rest), tt)

pub row_67_in_less : NeighboursLess Row67In
row_67_in_less = neighbours_less Row67In (λ a b r. ap are_unscoped r.shape) made
  where
    made : (a b : Trees) → Row67In a b → ListMade a b
    made a b r strict k f Q l y =
        let e : Tree = of_parts r.p (append r.ps (r.q ▸ r.qs)) in
        let z = subst (All Q AsWholeItem) r.shape y in
        let fit = second_fits strict k (expression_statement (of_parts r.p r.ps)) (for_in r.left (of_parts r.q r.qs) r.body) (subst (λ ts. fill strict (each (one (a_statement k))) ts ≡ true) r.shape f) in
        let quiet = left_lexical strict true r.left r.plain (first_of (fits strict (one (a_loop_left true)) r.left) _ fit) in
        let (left, (over, rest)) = l.loop_down AnIn r.left (of_parts r.q r.qs ▸ (r.body ▸ none)) quiet z.1.0 in
        subst (All Q AsWholeItem) (sym r.written) (l.loop_up AnIn r.left (e ▸ (r.body ▸ none)) quiet (left, (joined Q l.parts r.p r.ps r.q r.qs (said Q l.parts AsWholeItem (of_parts r.p r.ps) z.0) over, rest)), tt)

-- ---- 68, into the head of a `for`

pub both_every : (P : Tree → Type 0) (ts us : Trees) → Every P ts → Every P us → Every P (append ts us)
both_every P none us a b = b
both_every P (t ▸ ts) us a b = (a.0, both_every P ts us a.1 b)

pub var_lexical : (ds : Trees) → names_of declared.Lexical (declaration Var ds) ≡ []
unfolding names_of
var_lexical ds = refl

pub row_68_free_less : NeighboursLess Row68Free
row_68_free_less = neighbours_less Row68Free (λ a b r. ap are_unscoped r.shape) made
  where
    made : (a b : Trees) → Row68Free a b → ListMade a b
    made a b r strict k f Q l y =
        let z = subst (All Q AsWholeItem) r.shape y in
        let (init, rest) = l.loop_down AFor absent (r.test ▸ (r.update ▸ (r.body ▸ none))) (value_lexical absent refl) z.1.0 in
        subst (All Q AsWholeItem) (sym r.written) (l.loop_up AFor (declaration Var r.ds) (r.test ▸ (r.update ▸ (r.body ▸ none))) (var_lexical r.ds) (l.head_up r.ds (l.var_down r.ds z.0), rest), tt)

pub row_68_init_less : NeighboursLess Row68Init
row_68_init_less = neighbours_less Row68Init (λ a b r. ap are_unscoped r.shape) made
  where
    made : (a b : Trees) → Row68Init a b → ListMade a b
    made a b r strict k f Q l y =
        let z = subst (All Q AsWholeItem) r.shape y in
        let (init, rest) = l.loop_down AFor (declaration Var r.es) (r.test ▸ (r.update ▸ (r.body ▸ none))) (var_lexical r.es) z.1.0 in
        subst (All Q AsWholeItem) (sym r.written) (
          l.loop_up AFor (declaration Var (append r.ds r.es)) (r.test ▸ (r.update ▸ (r.body ▸ none))) (var_lexical (append r.ds r.es))
              (l.head_up (append r.ds r.es) (both_every l.Declared r.ds r.es (l.var_down r.ds z.0) (l.head_down r.es init)), rest),
          tt,
        )

-- ---- 74

pub row_74_less : NeighboursLess Row74
row_74_less = neighbours_less Row74 (λ a b r. ap are_unscoped r.shape) made
  where
    made : (a b : Trees) → Row74 a b → ListMade a b
    made a b r strict k f Q l y =
        let z = subst (All Q AsWholeItem) r.shape y in
        let (first, (s, none_there)) = if_parts Q l.parts AsWholeItem r.left r.s absent z.0 in
        let (second, (t, u)) = if_parts Q l.parts AsWholeItem r.right r.s r.u z.1.0 in
        subst (All Q AsWholeItem) (sym r.written) (an_if Q l.parts AsWholeItem (logical Or r.left r.right) r.s r.u (a_logical Q l.parts Or r.left r.right first second) t u, tt)

-- ---- 77, of a leap

pub row_77_leap_less : NeighboursLess Row77Leap
row_77_leap_less p l n w r =
    made_list_less p l (append r.before (r.row.first ▸ none)) r.after (leap r.row.leaping ▸ none) none n w
    (r.shape ∙ ap (λ ts. listed (append r.before (append ts r.after))) r.row.shape ∙ ap listed (sym (appended r.before r.row.first (leap r.row.leaping ▸ r.after))))
    (r.written ∙ ap (λ ts. listed (append r.before (append ts r.after))) r.row.written ∙ ap listed (sym (appended r.before r.row.first r.after)))
    (unscoped r.row.leaping) (λ strict k f Q l y. tt)
  where
    unscoped : (x : Leap) → are_unscoped (leap x ▸ none) ≡ true
    unscoped Breaks = refl
    unscoped Continues = refl

-- ---- 75

abbrev lists_moved : Free
lists_moved = record { moved = []; lists_moved = 0 ∷ []; dropped = [] }

-- a block of unscoped statements is plain
pub list_plain : (ts : Trees) → are_unscoped ts ≡ true → Plain Block (listed ts ▸ none)
list_plain ts f = subst (λ us. Plain Block (listed us ▸ none)) (append_none ts) (is_plain lists_moved (record { trees = none; lists = ts ∷ [] }) (tt, (f, tt)) AsBranch (under Block (list (items 0 no_items) ▹ end)) refl).0

pub all_unscoped : (ts us : Trees) → are_unscoped ts ≡ true → are_unscoped us ≡ true → are_unscoped (append ts us) ≡ true
all_unscoped none us e f = f
all_unscoped (t ▸ ts) us e f =
    let (x, y) = and_parts (is_unscoped t) (are_unscoped ts) e in
    λ j. x j && all_unscoped ts us y f j

-- a block of unscoped statements, of which each holds what the block does
module _ (Q : Asked → Tree → Type 0) (l : ByParts Q) where
  pub block_items : (ts : Trees) → are_unscoped ts ≡ true → Q AsBranch (block ts) → All Q AsItem ts
  block_items ts e y = all_of Any Q AsItem 0 ts (l.down AList refl AsItems ts tt (l.down Block refl AsBranch (listed ts ▸ none) (list_plain ts e) y).0)

  pub block_of_items : (ts : Trees) → are_unscoped ts ≡ true → All Q AsItem ts → Q AsBranch (block ts)
  block_of_items ts e y = l.up Block refl AsBranch (listed ts ▸ none) (list_plain ts e) (l.up AList refl AsItems ts tt (of_all Any Q AsItem 0 ts y), tt)

module _ (Q : Asked → Tree → Type 0) (l : ByLists Q) where
  block_parts : (ts : Trees) → are_unscoped ts ≡ true → Q AsBranch (block ts) → All Q AsItem ts
  block_parts ts e y = block_items Q l.parts ts e y

  a_block : (ts : Trees) → are_unscoped ts ≡ true → All Q AsItem ts → Q AsBranch (block ts)
  a_block ts e y = block_of_items Q l.parts ts e y

  all_placed : (ts : Trees) → are_unscoped ts ≡ true → All Q AsWholeItem ts → All Q AsItem ts
  all_placed none e a = tt
  all_placed (t ▸ ts) e a =
      let (x, y) = and_parts (is_unscoped t) (are_unscoped ts) e in
      ((l.placed t x).0 a.0, all_placed ts y a.1)

  an_alternate : (ts : Trees) → are_unscoped ts ≡ true → All Q AsItem ts → Q AsBranch (alternate_of ts)
  an_alternate none e a = nothing Q l.parts AsBranch
  an_alternate (t ▸ ts) e a = a_block (t ▸ ts) e a

pub row_75_made : (jump : Tree) (a b : Trees) → Row75 jump a b → ListMade a b
row_75_made jump a b r strict k f Q l y =
    let z = subst (All Q AsWholeItem) r.shape y in
    let (test, branches) = if_parts Q l.parts AsWholeItem r.test jump absent z.0 in
    subst (All Q AsWholeItem) (sym r.written)
    (an_if Q l.parts AsWholeItem (negation r.test) (block r.rest) absent (a_unary Q l.parts LogicalNot r.test test) (a_block Q l r.rest r.unscoped (all_placed Q l r.rest r.unscoped z.1)) (nothing Q l.parts AsBranch), tt)

pub row_75_block_made : (jump : Tree) → is_unscoped jump ≡ true → (a b : Trees) → Row75Block jump a b → ListMade a b
row_75_block_made jump u a b r strict k f Q l y =
    let z = subst (All Q AsWholeItem) r.shape y in
    let (test, (first, second)) = if_parts Q l.parts AsWholeItem r.test (block (append r.body (jump ▸ none))) absent z.0 in
    let body = first_all Any Q AsItem r.body (jump ▸ none) (block_parts Q l (append r.body (jump ▸ none)) (all_unscoped r.body (jump ▸ none) r.loose (λ j. u j && true)) first) in
    subst (All Q AsWholeItem) (sym r.written)
    (an_if Q l.parts AsWholeItem r.test (block r.body) (alternate_of r.rest) test (a_block Q l r.body r.loose body) (an_alternate Q l r.rest r.unscoped (all_placed Q l r.rest r.unscoped z.1)), tt)

pub row_75_less : (jump : Tree) (p : Position) → is_statement_list p ≡ true → (n w : Tree) → AtEnd (Row75 jump) n w → LessAt p n w
row_75_less jump = last_less (Row75 jump) (λ a b r. ap are_unscoped r.shape ∙ r.unscoped) (row_75_made jump)

pub row_75_block_less : (jump : Tree) → is_unscoped jump ≡ true → (p : Position) → is_statement_list p ≡ true → (n w : Tree) → AtEnd (Row75Block jump) n w → LessAt p n w
row_75_block_less jump u = last_less (Row75Block jump) (λ a b r. ap are_unscoped r.shape ∙ r.unscoped) (row_75_block_made jump u)

-- ---- what stands behind a jump

one_after_another : (ts us vs : Trees) → append (append ts us) vs ≡ append ts (append us vs)
one_after_another none us vs = refl
one_after_another (t ▸ ts) us vs = ap (λ ws. t ▸ ws) (one_after_another ts us vs)

-- what is between a jump and what never runs stands before that
pub behind : (before : Trees) (first : Tree) (between ts after : Trees) → append before (append (first ▸ append between ts) after) ≡ append (append before (first ▸ between)) (append ts after)
behind before first between ts after = ap (λ us. append before (first ▸ us)) (one_after_another between ts after) ∙ sym (one_after_another before (first ▸ between) (append ts after))
