-- Rows on a `var` and a statement that writes its name first ask less: the `var` gives the name its
-- value.
use Rattle.std.specs.Prelude.{ℕ, ◌≡◌, refl, Bool, true, false, ◌&&◌}
use Rattle.std.proofs.Common.{ap, ◌∙◌, sym, subst, true≢false}
use Rattle.std.proofs.lemmas.Bool.{and_parts}
use Rattle.mini_accept.specs.WellShaped.{Depth, a_statement, a_loop_left, an_expression, one, each, fill, fits}
use Rattle.mini_model.specs.declared.kind.VariableDeclarationKind.{VariableDeclarationKind}
use Rattle.mini_model.specs.declared.kind.VariableDeclarationKind.TheVariants.{Var, Let, Const}
use Rattle.mini_model.specs.declared.name.Name.{Name}
use Rattle.mini_model.specs.declared.operator.AssignmentOperator.TheVariants.{Assign}
use Rattle.mini_model.specs.declared.shape.Shape.TheVariants as shape
use Rattle.mini_model.specs.Paths.{append}
use Rattle.mini_model.specs.Tree.{Tree, Trees, node, none, ◌▸◌, listed, absent, is_absent, identifier, shape_of}
use Rattle.mini_laws.specs.DeclaredNames.{names_of}
use Rattle.mini_laws.specs.Naming.{is_lexical}
use Rattle.mini_laws.specs.Resolved.{Environment}
use Rattle.mini_laws.specs.declared.names.Use.TheVariants.{Read}
use Rattle.mini_shrink.specs.Pace.{Pace, Ends, Silent, Reads, followed, ends_if, ends_after, AtMost, Setting, pace}
use Rattle.mini_shrink.specs.Questions.{early}
use Rattle.mini_shrink.proofs.Paces.{same}
use Rattle.mini_rows.specs.Lists.{Each, EachIn, EachOf, Holder, Statement, Heading, Going, Declaring, Looping, holding, holds_well, Beginning, Alone, Init, Before, begun, begun_without, begins_well, each_loop, for_loop, for_in, binding, declarator, declaration, bare_var, assigned, of_parts, are_parts, is_unscoped, are_unscoped, with_head, resolved, sequence, Row69, Row70}
use Rattle.mini_rows.specs.Lists as row
use Rattle.mini_rows.specs.Sketches.{Asked, AsValue, AsTarget, AsWholeItem}
use Rattle.mini_rows.proofs.Arranging.{All}
use Rattle.mini_rows.proofs.ArrangedValues.{is_value, value_fits}
use Rattle.mini_rows.proofs.ListKeptKeys.{left_lexical}
use Rattle.mini_rows.proofs.ListShapes as shapes
use Rattle.mini_less.specs.Families.{NeighboursLess}
use Rattle.mini_less.specs.Less.{AFor, AnIn, AnOf}
use Rattle.mini_less.specs.Neighbours.{of_items, items_say}
use Rattle.mini_less.specs.TellsLists.{Every}
use Rattle.mini_less.proofs.ByLists.{ByLists, calm_lists, valued_calm, value_lexical}
use Rattle.mini_less.proofs.ConditionalsLess.{assigned_parts}
use Rattle.mini_less.proofs.IfsLess.{nothing, said, says}
use Rattle.mini_less.proofs.ListHeads.{both_every, headed_parts, head_unscoped, neighbours_less, of_row, second_fits, first_of, var_lexical}
use Rattle.mini_less.proofs.ListJoins as joins
use Rattle.mini_less.proofs.ListMade.{ListMade, SaysLess, StretchLess, made_stretch, made_in_order, stretch_less, one_says}
use Rattle.mini_less.proofs.Listing.{with_belongs}
use Rattle.mini_less.proofs.Nodes.{sequence_parts}
use Rattle.mini_less.proofs.Plainly.{is_reads, split, Calmly}

-- ---- the expression that is left

-- a head over a sequence holds it as an expression
headed_sequence : (strict : Bool) (k : Depth) (h : row.Head) (ts : Trees) → fits strict (one (a_statement k)) (with_head h (sequence ts)) ≡ true → fits strict (one an_expression) (sequence ts) ≡ true
headed_sequence strict k row.Return ts f = first_of (fits strict (one an_expression) (sequence ts)) _ f
headed_sequence strict k row.Throw ts f = first_of (fits strict (one an_expression) (sequence ts)) _ f
headed_sequence strict k (row.If u v) ts f = first_of (fits strict (one an_expression) (sequence ts)) _ f
headed_sequence strict k (row.Switch cases) ts f = first_of (fits strict (one an_expression) (sequence ts)) _ f
headed_sequence strict k (row.For u v w) ts f = first_of (fits strict (one an_expression) (sequence ts)) _ f

rest_value : (strict : Bool) (a q : Tree) (qs : Trees) → fits strict (one an_expression) (sequence (a ▸ (q ▸ qs))) ≡ true → is_value (shape_of (of_parts q qs)) ≡ true
rest_value strict a q none f = value_fits strict (one an_expression) q refl (first_of (fits strict (one an_expression) q) true (and_parts (fits strict (one an_expression) a) (fits strict (one an_expression) q && true) (shapes.parts_fit strict a (q ▸ none) f)).1)
rest_value strict a q (c ▸ qs) f = refl

-- the other parts are there
rest_there : (q : Tree) (qs : Trees) → are_parts q qs ≡ true → false ≡ is_absent (of_parts q qs)
rest_there (node shape.Absent xs n ts) none e = absurd (true≢false (sym e))
rest_there (node h xs n ts) none e = refl
rest_there q (r ▸ qs) e = refl

pub first_every : (P : Tree → Type 0) (ts us : Trees) → Every P (append ts us) → Every P ts
first_every P none us a = tt
first_every P (t ▸ ts) us a = (a.0, first_every P ts us a.1)

pub second_every : (P : Tree → Type 0) (ts us : Trees) → Every P (append ts us) → Every P us
second_every P none us a = a
second_every P (t ▸ ts) us a = second_every P ts us a.1

module _ (Q : Asked → Tree → Type 0) (l : ByLists Q) where
  -- what an assignment assigns to and its value
  abbrev Assigns : Name → Tree → Type 0
  Assigns x v = Q AsTarget (identifier x) × Q AsValue v

  first_assigns : (x : Name) (v q : Tree) (qs : Trees) → Q AsValue (sequence (assigned x v ▸ (q ▸ qs))) → Assigns x v × Q AsValue (of_parts q qs)
  first_assigns x v q qs y =
      let z = sequence_parts Q l.parts (assigned x v ▸ (q ▸ qs)) y in
      (assigned_parts Q l.parts Assign (identifier x) v z.0, of_row Q l.parts q qs z.1)

  -- the `var` gives the value
  given_var : (ds : Trees) (x : Name) (v : Tree) (es : Trees) → Assigns x v → Q AsWholeItem (declaration Var (append ds (declarator (binding x) absent ▸ es))) → Q AsWholeItem (declaration Var (append ds (declarator (binding x) v ▸ es)))
  given_var ds x v es a y =
      let z = l.var_down (append ds (declarator (binding x) absent ▸ es)) y in
      let rest = second_every l.Declared ds (declarator (binding x) absent ▸ es) z in
      l.var_up (append ds (declarator (binding x) v ▸ es)) (both_every l.Declared ds (declarator (binding x) v ▸ es) (first_every l.Declared ds (declarator (binding x) absent ▸ es) z) (l.given x v a.0 a.1 rest.0, rest.1))

  -- the statement without the assignment
  pub begun_parts : (strict : Bool) (k : Depth) (b : Beginning) (x : Name) (v : Tree) → begins_well b ≡ true → fits strict (one (a_statement k)) (begun b (assigned x v)) ≡ true → Q AsWholeItem (begun b (assigned x v)) → Assigns x v × All Q AsWholeItem (begun_without b)
  begun_parts strict k Alone x v e f y = (assigned_parts Q l.parts Assign (identifier x) v (said Q l.parts AsWholeItem (assigned x v) y), tt)
  begun_parts strict k (Init t u w) x v e f y =
      let (init, rest) = l.loop_down AFor (assigned x v) (t ▸ (u ▸ (w ▸ none))) (value_lexical (assigned x v) refl) y in
      (assigned_parts Q l.parts Assign (identifier x) v init, (l.loop_up AFor absent (t ▸ (u ▸ (w ▸ none))) (value_lexical absent refl) (nothing Q l.parts AsValue, rest), tt))
  begun_parts strict k (Before Statement q qs) x v e f y =
      let (a, z) = first_assigns x v q qs (said Q l.parts AsWholeItem (sequence (assigned x v ▸ (q ▸ qs))) y) in
      (a, (says Q l.parts AsWholeItem (of_parts q qs) z, tt))
  begun_parts strict k (Before (Heading h) q qs) x v e f y =
      let value = rest_value strict (assigned x v) q qs (headed_sequence strict k h (assigned x v ▸ (q ▸ qs)) f) in
      let (test, whole) = headed_parts Q l strict k h (assigned x v) (q ▸ qs) (of_parts q qs) refl value f y in
      let (a, z) = first_assigns x v q qs test in
      (a, (whole z, tt))
  begun_parts strict k (Before (Going EachIn left body) q qs) x v e f y =
      let quiet = left_lexical strict true left (first_of (holds_well (Going EachIn left body)) (are_parts q qs) e) (first_of (fits strict (one (a_loop_left true)) left) _ f) in
      let (head, (over, rest)) = l.loop_down AnIn left (sequence (assigned x v ▸ (q ▸ qs)) ▸ (body ▸ none)) quiet y in
      let (a, z) = first_assigns x v q qs over in
      (a, (l.loop_up AnIn left (of_parts q qs ▸ (body ▸ none)) quiet (head, (z, rest)), tt))
  begun_parts strict k (Before (Going EachOf left body) q qs) x v e f y =
      let quiet = left_lexical strict false left (first_of (holds_well (Going EachOf left body)) (are_parts q qs) e) (first_of (fits strict (one (a_loop_left false)) left) _ f) in
      let (head, (over, rest)) = l.loop_down AnOf left (sequence (assigned x v ▸ (q ▸ qs)) ▸ (body ▸ none)) quiet y in
      let (a, z) = first_assigns x v q qs over in
      (a, (l.loop_up AnOf left (of_parts q qs ▸ (body ▸ none)) quiet (head, (z, rest)), tt))
  begun_parts strict k (Before (Declaring kind id ds) q qs) x v e f y =
      let (value, whole) = l.initialised kind id (sequence (assigned x v ▸ (q ▸ qs))) (of_parts q qs) ds (rest_there q qs e) y in
      let (a, z) = first_assigns x v q qs value in
      (a, (whole z, tt))
  begun_parts strict k (Before (Looping id ds t u w) q qs) x v e f y =
      let s = sequence (assigned x v ▸ (q ▸ qs)) in
      let (init, rest) = l.loop_down AFor (declaration Var (declarator id s ▸ ds)) (t ▸ (u ▸ (w ▸ none))) (var_lexical (declarator id s ▸ ds)) y in
      let each = l.head_down (declarator id s ▸ ds) init in
      let (value, again) = l.valued id s (of_parts q qs) (rest_there q qs e) each.0 in
      let (a, z) = first_assigns x v q qs value in
      (a, (l.loop_up AFor (declaration Var (declarator id (of_parts q qs) ▸ ds)) (t ▸ (u ▸ (w ▸ none))) (var_lexical (declarator id (of_parts q qs) ▸ ds)) (l.head_up (declarator id (of_parts q qs) ▸ ds) (again z, each.1), rest), tt))

-- ---- 70

module _ (ds : Trees) (x : Name) (v : Tree) (es : Trees) (b : Beginning) where
  abbrev bare : Tree
  bare = declaration Var (append ds (declarator (binding x) absent ▸ es))

  abbrev valued : Tree
  valued = declaration Var (append ds (declarator (binding x) v ▸ es))

  abbrev two : Trees
  two = bare ▸ (begun b (assigned x v) ▸ none)

  abbrev put : Trees
  put = valued ▸ begun_without b

  given_made : begins_well b ≡ true → ListMade two put
  given_made well strict k f Q l y =
      let (a, rest) = begun_parts Q l strict k b x v well (second_fits strict k bare (begun b (assigned x v)) f) y.1.0 in
      (given_var Q l ds x v es a y.0, rest)

-- ---- 70, before a declaration of lexical names

pub reads_most : (p r : Pace) → is_reads r ≡ true → AtMost p r
reads_most Ends r e = tt
reads_most Silent Reads e = tt
reads_most Reads Reads e = tt
reads_most Silent Ends e = absurd (true≢false (sym e))
reads_most Silent Silent e = absurd (true≢false (sym e))
reads_most Reads Ends e = absurd (true≢false (sym e))
reads_most Reads Silent e = absurd (true≢false (sym e))

pub calm_ends : (e : Bool) (p : Pace) → is_reads p ≡ false → ends_after e p ≡ ends_if e
calm_ends e Ends a = refl
calm_ends e Silent a = refl
calm_ends e Reads a = absurd (true≢false a)

-- what comes first in what is calm is calm
pub first_calm : (e d : Bool) (p r : Pace) → is_reads (followed (ends_after e (followed (ends_after d p) r)) Silent) ≡ false → is_reads p ≡ false
first_calm e d Ends r a = refl
first_calm e d Silent r a = refl
first_calm e d Reads r a = absurd (true≢false a)

module _ (kind : VariableDeclarationKind) (scoped : is_lexical kind ≡ true) (ds : Trees) (x : Name) (v : Tree) (es : Trees) (id : Tree) (cs : Trees) (q : Tree) (qs : Trees) where
  abbrev beginning : Beginning
  beginning = Before (Declaring kind id cs) q qs

  abbrev s : Tree
  s = sequence (assigned x v ▸ (q ▸ qs))

  abbrev read : Trees
  read = two ds x v es beginning

  abbrev wrote : Trees
  wrote = put ds x v es beginning

  abbrev t : Tree
  t = declarator id s

  abbrev u : Tree
  u = declarator id (of_parts q qs)

  module _ (b n : ℕ) (c : Setting) (r : c.used ≡ Read) (env : Environment) (o : Bool) where
    abbrev k : Setting
    k = with_belongs c

    abbrev C : Asked → Tree → Type 0
    C = Calmly b n k env

    abbrev say : Trees → Pace
    say = items_say (early b n) (of_items o c) env

    abbrev loose : Tree → Pace
    loose y = pace (early b n) (of_items false c) env y

    abbrev around : Setting
    around = of_items o (joins.inside b n c env o)

    abbrev ended : Tree → Bool
    ended y = (early b n).ends around y

    abbrev last : Tree → Pace → Pace
    last y p = followed (ends_after (o && joins.declares b n c env (y ▸ cs)) (followed p (joins.items b n c env o cs))) Silent

    says_both : (first d : Tree) → is_unscoped first ≡ true → say (first ▸ (declaration kind (d ▸ cs) ▸ none)) ≡ followed (ends_after false (loose first)) (last d (ends_after (ended d) (pace (early b n) around env d)))
    says_both first d e = one_says b n c env o first (declaration kind (d ▸ cs) ▸ none) e ∙ (λ j. followed (ends_after false (loose first)) (followed (joins.one_says b n c env r kind scoped o (d ▸ cs) j) Silent))

    -- where nothing is read
    says_calm : (first d : Tree) → is_unscoped first ≡ true → is_reads (loose first) ≡ false → is_reads (pace (early b n) around env d) ≡ false → say (first ▸ (declaration kind (d ▸ cs) ▸ none)) ≡ last d (ends_if (ended d))
    says_calm first d e f g = says_both first d e ∙ (λ j. followed (calm_ends false (loose first) f j) (last d (calm_ends (ended d) (pace (early b n) around env d) g j)))

    same_last : last u (ends_if (ended u)) ≡ last t (ends_if (ended t))
    unfolding names_of
    same_last = refl

    scoped_in_order : SaysLess read wrote (early b n) c env o
    scoped_in_order = by (is_reads (say read)) refl
      where
        by : (z : Bool) → is_reads (say read) ≡ z → AtMost (say wrote) (say read)
        by true e = reads_most (say wrote) (say read) e
        by false e =
            let l = calm_lists b n k env r in
            let first = bare ds x v es beginning in
            let given = valued ds x v es beginning in
            let (y, z) = split (loose first) (last t (ends_after (ended t) (pace (early b n) around env t))) (sym (ap is_reads (says_both first t refl)) ∙ e) in
            let old = first_calm (o && joins.declares b n c env (t ▸ cs)) (ended t) (pace (early b n) around env t) (joins.items b n c env o cs) z in
            let (value, again) = valued_calm b n k env r Read id s (of_parts q qs) (sym (ap is_reads (joins.declarator_anywhere b n c env o id s)) ∙ old) in
            let (a, rest) = first_assigns C l x v q qs value in
            let new = ap is_reads (joins.declarator_anywhere b n c env o id (of_parts q qs)) ∙ again rest in
            same (say wrote) (say read) (says_calm given u refl (given_var C l ds x v es a y) new ∙ same_last ∙ sym (says_calm first t refl y old))

    -- the declaration by itself, without the assignment
    alone_says : (d : Tree) → say (declaration kind (d ▸ cs) ▸ none) ≡ last d (ends_after (ended d) (pace (early b n) around env d))
    alone_says d = λ j. followed (joins.one_says b n c env r kind scoped o (d ▸ cs) j) Silent

    pub alone_in_order : SaysLess (declaration kind (t ▸ cs) ▸ none) (declaration kind (u ▸ cs) ▸ none) (early b n) c env o
    alone_in_order = by (is_reads (say (declaration kind (t ▸ cs) ▸ none))) refl
      where
        by : (z : Bool) → is_reads (say (declaration kind (t ▸ cs) ▸ none)) ≡ z → AtMost (say (declaration kind (u ▸ cs) ▸ none)) (say (declaration kind (t ▸ cs) ▸ none))
        by true e = reads_most (say (declaration kind (u ▸ cs) ▸ none)) (say (declaration kind (t ▸ cs) ▸ none)) e
        by false e =
            let l = calm_lists b n k env r in
            let z = sym (ap is_reads (alone_says t)) ∙ e in
            let old = first_calm (o && joins.declares b n c env (t ▸ cs)) (ended t) (pace (early b n) around env t) (joins.items b n c env o cs) z in
            let (value, again) = valued_calm b n k env r Read id s (of_parts q qs) (sym (ap is_reads (joins.declarator_anywhere b n c env o id s)) ∙ old) in
            let (a, rest) = first_assigns C l x v q qs value in
            let new = ap is_reads (joins.declarator_anywhere b n c env o id (of_parts q qs)) ∙ again rest in
            same (say (declaration kind (u ▸ cs) ▸ none)) (say (declaration kind (t ▸ cs) ▸ none))
            (alone_says u ∙ ap (last u) (calm_ends (ended u) (pace (early b n) around env u) new) ∙ same_last ∙ sym (alone_says t ∙ ap (last t) (calm_ends (ended t) (pace (early b n) around env t) old)))

-- ---- each

stretch_70 : (ds : Trees) (x : Name) (v : Tree) (es : Trees) (b : Beginning) (well : begins_well b ≡ true) → StretchLess (two ds x v es b) (put ds x v es b)
stretch_70 ds x v es (Before (Declaring Let id cs) q qs) well = made_in_order (two ds x v es (Before (Declaring Let id cs) q qs)) (put ds x v es (Before (Declaring Let id cs) q qs)) (given_made ds x v es (Before (Declaring Let id cs) q qs) well) (λ strict f c r env o b n. scoped_in_order Let refl ds x v es id cs q qs b n c r env o)
stretch_70 ds x v es (Before (Declaring Const id cs) q qs) well = made_in_order (two ds x v es (Before (Declaring Const id cs) q qs)) (put ds x v es (Before (Declaring Const id cs) q qs)) (given_made ds x v es (Before (Declaring Const id cs) q qs) well) (λ strict f c r env o b n. scoped_in_order Const refl ds x v es id cs q qs b n c r env o)
stretch_70 ds x v es (Before (Declaring Var id cs) q qs) well = made_stretch (two ds x v es (Before (Declaring Var id cs) q qs)) (put ds x v es (Before (Declaring Var id cs) q qs)) refl (given_made ds x v es (Before (Declaring Var id cs) q qs) well)
stretch_70 ds x v es Alone well = made_stretch (two ds x v es Alone) (put ds x v es Alone) refl (given_made ds x v es Alone well)
stretch_70 ds x v es (Init t u w) well = made_stretch (two ds x v es (Init t u w)) (put ds x v es (Init t u w)) refl (given_made ds x v es (Init t u w) well)
stretch_70 ds x v es (Before Statement q qs) well = made_stretch (two ds x v es (Before Statement q qs)) (put ds x v es (Before Statement q qs)) refl (given_made ds x v es (Before Statement q qs) well)
stretch_70 ds x v es (Before (Heading h) q qs) well =
    made_stretch (two ds x v es (Before (Heading h) q qs)) (put ds x v es (Before (Heading h) q qs)) (λ j. head_unscoped h (sequence (assigned x v ▸ (q ▸ qs))) j && true) (given_made ds x v es (Before (Heading h) q qs) well)
stretch_70 ds x v es (Before (Going EachIn left body) q qs) well = made_stretch (two ds x v es (Before (Going EachIn left body) q qs)) (put ds x v es (Before (Going EachIn left body) q qs)) refl (given_made ds x v es (Before (Going EachIn left body) q qs) well)
stretch_70 ds x v es (Before (Going EachOf left body) q qs) well = made_stretch (two ds x v es (Before (Going EachOf left body) q qs)) (put ds x v es (Before (Going EachOf left body) q qs)) refl (given_made ds x v es (Before (Going EachOf left body) q qs) well)
stretch_70 ds x v es (Before (Looping id cs t u w) q qs) well = made_stretch (two ds x v es (Before (Looping id cs t u w) q qs)) (put ds x v es (Before (Looping id cs t u w) q qs)) refl (given_made ds x v es (Before (Looping id cs t u w) q qs) well)

pub row_70_less : NeighboursLess Row70
row_70_less p l n w r =
    let m = r.row in
    let x = resolved m.spelling m.symbol in
    stretch_less p l r.before r.after (two m.ds x m.value m.es m.beginning) (put m.ds x m.value m.es m.beginning) n w
    (r.shape ∙ ap (λ ts. listed (append r.before (append ts r.after))) m.shape) (r.written ∙ ap (λ ts. listed (append r.before (append ts r.after))) m.written)
    (stretch_70 m.ds x m.value m.es m.beginning m.parts)

-- ---- 69

row_69_made : (k : Each) (x : Name) (right body : Tree) → ListMade (bare_var x ▸ (each_loop k (identifier x) right body ▸ none)) (each_loop k (bare_var x) right body ▸ none)
row_69_made EachIn x right body strict k f Q l y =
    let (target, rest) = l.loop_down AnIn (identifier x) (right ▸ (body ▸ none)) (value_lexical (identifier x) refl) y.1.0 in
    (l.loop_up AnIn (bare_var x) (right ▸ (body ▸ none)) (var_lexical (declarator (binding x) absent ▸ none)) (l.target_up x target (l.var_down (declarator (binding x) absent ▸ none) y.0).0, rest), tt)
row_69_made EachOf x right body strict k f Q l y =
    let (target, rest) = l.loop_down AnOf (identifier x) (right ▸ (body ▸ none)) (value_lexical (identifier x) refl) y.1.0 in
    (l.loop_up AnOf (bare_var x) (right ▸ (body ▸ none)) (var_lexical (declarator (binding x) absent ▸ none)) (l.target_up x target (l.var_down (declarator (binding x) absent ▸ none) y.0).0, rest), tt)

pub row_69_less : (k : Each) → NeighboursLess (Row69 k)
row_69_less k = neighbours_less (Row69 k) (λ a b r. ap are_unscoped r.shape ∙ loose k (resolved r.spelling r.symbol) r.right r.body) (λ a b r strict d f Q l y.
    subst (All Q AsWholeItem) (sym r.written) (row_69_made k (resolved r.spelling r.symbol) r.right r.body strict d (subst (λ ts. fill strict (each (one (a_statement d))) ts ≡ true) r.shape f) Q l (subst (All Q AsWholeItem) r.shape y)))
  where
    loose : (k : Each) (x : Name) (right body : Tree) → are_unscoped (bare_var x ▸ (each_loop k (identifier x) right body ▸ none)) ≡ true
    loose EachIn x right body = refl
    loose EachOf x right body = refl
