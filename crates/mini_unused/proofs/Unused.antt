-- A block that loses a name is what the row says.
use Rattle.std.proofs.Common.{◌≡◌, ℕ, zero, suc, ◌<◌, ◌≤◌, Bool, true, false, List, [], ◌∷◌, refl, sym, ap, ◌∙◌, subst, inl, inr, true≢false, arith}
use Rattle.std.specs.Prelude.{not, ◌⊎◌, ◌&&◌, ◌||◌, Option, Some, None, is_some, if◌then◌else◌}
use Rattle.std.proofs.lemmas.Bool.{and_parts}
use Rattle.mini_model.specs.declared.kind.VariableDeclarationKind.{VariableDeclarationKind}
use Rattle.mini_model.specs.declared.name.Name.{Name}
use Rattle.mini_model.specs.declared.name.SymbolId.{SymbolId}
use Rattle.mini_model.specs.declared.shape.Shape.TheVariants as shape
use Rattle.mini_model.specs.Tree.{Tree, Trees, node, none, ◌▸◌, absent, listed, shape_of, children, count, child_or_absent, empty_statement, expression_statement}
use Rattle.mini_model.specs.Paths.{append}
use Rattle.mini_laws.specs.Naming as kinds
use Rattle.mini_laws.specs.ScopeList.{has_eval}
use Rattle.mini_node.specs.Children.{names_of, part, with_child, with_part, without, is_bare, first_children, rest_children}
use Rattle.mini_node.specs.Kinds.{is_block, is_listed_shape}
use Rattle.mini_node.specs.Made.{block_is}
use Rattle.mini_rows.specs.Lists.{block, declaration, declares_nothing}
use Rattle.mini_rows.specs.Declarations.{binding, declarator}
use Rattle.mini_rows.specs.Inside.{declares_var}
use Rattle.mini_rows.specs.Unused.{resolved, declared_among, declared_left, names, any_names, is_idle, lets_go, Alone, Row72, Row72Idle, Row71, Row71Next, BlockRow}
use Rattle.mini_rows.specs.Switches.{Liberties}
use Rattle.mini_unused.specs.RemoveUnusedDeclaration.{is_resolved_binding, is_declarator_shape, declares_name, is_lexical_shape, declares_list, is_var, may_declare, shows_vars, open_in, may_write, may_write_in, may_lose, is_free_at, may_go, is_alone, is_unused_declarator, list_at, is_unused, UnusedIn, UnusedOf, UnusedAt, let_left, statement_left, list_left}

-- ---- children

pub same_parts : (t : Tree) (i : ℕ) (x : Tree) → count (children (with_part t i x)) ≡ count (children t)
same_parts (node h xs n ts) i x = go ts i
  where
    go : (ts : Trees) (i : ℕ) → count (with_child ts i x) ≡ count ts
    go none i = refl
    go (t ▸ ts) zero = refl
    go (t ▸ ts) (suc i) = ap suc (go ts i)

pub part_twice : (t : Tree) (i : ℕ) (x y : Tree) → with_part (with_part t i x) i y ≡ with_part t i y
part_twice (node h xs n ts) i x y = ap (node h xs n) (go ts i)
  where
    go : (ts : Trees) (i : ℕ) → with_child (with_child ts i x) i y ≡ with_child ts i y
    go none i = refl
    go (t ▸ ts) zero = refl
    go (t ▸ ts) (suc i) = ap (λ us. t ▸ us) (go ts i)

pub part_with : (t : Tree) (i : ℕ) (x : Tree) → i < count (children t) → part (with_part t i x) i ≡ x
part_with (node h xs n ts) i x l = go ts i l
  where
    go : (ts : Trees) (i : ℕ) → i < count ts → child_or_absent (with_child ts i x) i ≡ x
    go none i h = absurd (omega (arith, h))
    go (t ▸ ts) zero h = refl
    go (t ▸ ts) (suc i) h = go ts i (omega (arith, h))

pub parts_of : (ts : Trees) (i : ℕ) → i < count ts → ts ≡ append (first_children i ts) (child_or_absent ts i ▸ rest_children (suc i) ts)
parts_of none i h = absurd (omega (arith, h))
parts_of (t ▸ none) zero h = refl
parts_of (t ▸ (u ▸ ts)) zero h = refl
parts_of (t ▸ ts) (suc i) h = ap (λ us. t ▸ us) (parts_of ts i (omega (arith, h)))

pub with_parts : (ts : Trees) (i : ℕ) (x : Tree) → i < count ts → with_child ts i x ≡ append (first_children i ts) (x ▸ rest_children (suc i) ts)
with_parts none i x h = absurd (omega (arith, h))
with_parts (t ▸ none) zero x h = refl
with_parts (t ▸ (u ▸ ts)) zero x h = refl
with_parts (t ▸ ts) (suc i) x h = ap (λ us. t ▸ us) (with_parts ts i x (omega (arith, h)))

-- the child after some others, and what stands around it

pub there_within : (ts : Trees) (d : Tree) (us : Trees) → count ts < count (append ts (d ▸ us))
there_within none d us = omega arith
there_within (t ▸ ts) d us = let within = there_within ts d us in omega (arith, within)

pub there_child : (ts : Trees) (d : Tree) (us : Trees) → child_or_absent (append ts (d ▸ us)) (count ts) ≡ d
there_child none d us = refl
there_child (t ▸ ts) d us = there_child ts d us

pub there_rest : (ts : Trees) (d : Tree) (us : Trees) → rest_children (suc (count ts)) (append ts (d ▸ us)) ≡ us
there_rest none d none = refl
there_rest none d (u ▸ us) = refl
there_rest (t ▸ ts) d us = there_rest ts d us

pub there_first : (ts : Trees) (d : Tree) (us : Trees) → first_children (count ts) (append ts (d ▸ us)) ≡ ts
there_first none d us = refl
there_first (t ▸ ts) d us = ap (λ vs. t ▸ vs) (there_first ts d us)

-- ---- a block, outside of whose statements nothing stands

abbrev pub no_outside : Tree
no_outside = node shape.BlockStatement [] 0 (absent ▸ none)

abbrev pub block_left : Tree → ℕ → ℕ → Tree
block_left t i j = with_part t 0 (list_left (part t 0) i j)

-- ---- what the tests say

and_none : (a : Bool) → (a && false) ≡ false
and_none true = refl
and_none false = refl

-- what is asked last where it stands first
pub last_true : (a b : Bool) → b ≡ true → a ≡ (a && b)
last_true true b e = sym e
last_true false b e = refl

pub last_false : (a b : Bool) → b ≡ false → false ≡ (a && b)
last_false true b e = sym e
last_false false b e = refl

pub and_both : (a b : Bool) → a ≡ true → b ≡ true → a && b ≡ true
and_both a b e f = ap (λ x. x && b) e ∙ f

pub not_true : (b : Bool) → not b ≡ true → b ≡ false
not_true true e = absurd (true≢false (sym e))
not_true false e = refl

abbrev name_with : List ℕ → Option SymbolId → Name
name_with s y = record { spelling = s; symbol = y }

named : (s : List ℕ) (y : Option SymbolId) → is_some y ≡ true → (k : ℕ) × (name_with s y ≡ resolved s k)
named s (Some y) e = (y.0, refl)
named s None e = absurd (true≢false (sym e))

pub binding_is : (t : Tree) → is_resolved_binding t ≡ true → (s : List ℕ) × (k : ℕ) × (t ≡ binding (resolved s k))
binding_is (node shape.BindingIdentifier (x ∷ []) zero none) e = let (k, same) = named x.spelling x.symbol e in (x.spelling, k, ap binding same)
binding_is t e = absurd (true≢false (sym e))

pub declarator_is : (d : Tree) → is_declarator_shape (shape_of d) && is_bare d 2 ≡ true → d ≡ declarator (part d 0) (part d 1)
declarator_is (node shape.VariableDeclarator [] zero (a ▸ (b ▸ none))) e = refl
declarator_is d e = absurd (true≢false (sym e))

-- of which kind it is
pub a_declaration : (t : Tree) → declares_list t ≡ true → (k : VariableDeclarationKind) × (t ≡ declaration k (children (part t 0)))
a_declaration (node (shape.VariableDeclaration k) [] zero (node shape.Listed [] zero ds ▸ none)) e = (k, refl)
a_declaration (node (shape.VariableDeclaration k) [] zero (u ▸ none)) e = absurd (true≢false (sym e))
a_declaration t e = absurd (true≢false (sym e))

-- a name by where it stands
pub open_name : (W : Liberties) (o : Tree) (xs : List Name) → may_write_in (open_in o W) xs ≡ (not (shows_vars (shape_of o)) && may_write_in W xs)
open_name W o [] = sym (and_none (not (shows_vars (shape_of o))))
open_name W o (x ∷ []) = by x.symbol
  where
    by : (k : Option SymbolId) → may_write (open_in o W) k ≡ (not (shows_vars (shape_of o)) && may_write W k)
    by (Some k) = refl
    by None = sym (and_none (not (shows_vars (shape_of o))))
open_name W o (x ∷ (y ∷ ys)) = sym (and_none (not (shows_vars (shape_of o))))

pub record Declares (d : Tree) : Type 0 where
  pub spelling : List ℕ
  pub symbol : ℕ
  pub is : d ≡ declarator (binding (resolved spelling symbol)) (part d 1)

pub declares : (d : Tree) → declares_name d ≡ true → Declares d
declares d e =
    let (a, r) = and_parts (is_declarator_shape (shape_of d)) (is_bare d 2 && is_resolved_binding (part d 0)) e in
    let (b, c) = and_parts (is_bare d 2) (is_resolved_binding (part d 0)) r in
    let (s, k, is) = binding_is (part d 0) c in
    record { spelling = s; symbol = k; is = declarator_is d (and_both (is_declarator_shape (shape_of d)) (is_bare d 2) a b) ∙ ap (λ x. declarator x (part d 1)) is }

-- nothing else mentions it
record Quiet (x : Name) (init : Tree) (ds : Trees) (j : ℕ) (ts : Trees) (i : ℕ) : Type 0 where
  initial : names x init ≡ false
  declared_later : any_names x (rest_children (suc j) ds) ≡ false
  later : any_names x (rest_children (suc i) ts) ≡ false
  declared_earlier : any_names x (first_children j ds) ≡ false
  earlier : any_names x (first_children i ts) ≡ false

quiet : (x : Name) (init : Tree) (ds : Trees) (j : ℕ) (ts : Trees) (i : ℕ) → is_alone (x ∷ []) no_outside init ds j ts i ≡ true → Quiet x init ds j ts i
quiet x init ds j ts i e =
    let a = names x init in
    let b = any_names x (rest_children (suc j) ds) in
    let c = any_names x (rest_children (suc i) ts) in
    let d = any_names x (first_children j ds) in
    let f = any_names x (first_children i ts) in
    let (p, q) = and_parts (not a) (not b && (not c && (not d && not f))) e in
    let (r, s) = and_parts (not b) (not c && (not d && not f)) q in
    let (t, u) = and_parts (not c) (not d && not f) s in
    let (v, w) = and_parts (not d) (not f) u in
    record { initial = not_true a p; declared_later = not_true b r; later = not_true c t; declared_earlier = not_true d v; earlier = not_true f w }

-- ---- what is written is what the row says

pub without_is : (ds : Trees) (j : ℕ) → without ds j ≡ append (first_children j ds) (rest_children (suc j) ds)
without_is none j = refl
without_is (t ▸ none) zero = refl
without_is (t ▸ (u ▸ ds)) zero = refl
without_is (t ▸ ds) (suc j) = ap (λ us. t ▸ us) (without_is ds j)

pub left_is : (k : VariableDeclarationKind) (ds : Trees) (j : ℕ) → j < count ds → (if is_bare (listed ds) 1 then empty_statement else declaration k (without ds j)) ≡ declared_left k (append (first_children j ds) (rest_children (suc j) ds))
left_is k none j h = absurd (omega (arith, h))
left_is k (t ▸ none) zero h = refl
left_is k (t ▸ none) (suc j) h = absurd (omega (arith, h))
left_is k (t ▸ (c ▸ ds)) zero h = refl
left_is k (t ▸ (c ▸ ds)) (suc j) h = ap (λ us. declaration k (t ▸ us)) (without_is (c ▸ ds) j)

only_one : (ds : Trees) (j : ℕ) → is_bare (listed ds) 1 ≡ true → j < count ds → (none ≡ first_children j ds) × (none ≡ rest_children (suc j) ds)
only_one none j e h = absurd (omega (arith, h))
only_one (t ▸ none) zero e h = (refl, refl)
only_one (t ▸ none) (suc j) e h = absurd (omega (arith, h))
only_one (t ▸ (c ▸ ds)) j e h = absurd (true≢false (sym e))

written : (t u : Tree) (i j : ℕ) → is_block t ≡ true → i < count (children (part t 0)) → u ≡ block_left t i j → u ≡ block (append (first_children i (children (part t 0))) (statement_left (child_or_absent (children (part t 0)) i) j ▸ rest_children (suc i) (children (part t 0))))
written t u i j b h f =
    let ts = children (part t 0) in
    f ∙ ap (λ v. block_left v i j) (block_is t b) ∙ ap block (with_parts ts i (statement_left (child_or_absent ts i) j) h)

-- a declaration from which names may go is one
pub declared_there : (o t : Tree) → may_declare o t ≡ true → declares_list t ≡ true
declared_there o t e = by (is_listed_shape (shape_of o)) e
  where
    by : (b : Bool) → (if b then is_var t else declares_list t) ≡ true → declares_list t ≡ true
    by true f = (and_parts (declares_list t) (not (is_lexical_shape (shape_of t))) f).0
    by false f = f

-- a block in which such a declarator stands
module _ (t : Tree) (i j : ℕ) (b : is_block t ≡ true) (h : i < count (children (part t 0))) (g : j < count (children (list_at (children (part t 0)) i))) (W : Liberties) (e : is_unused W no_outside (children (part t 0)) i j ≡ true) (v : has_eval t ≡ false) where
  abbrev ts : Trees
  ts = children (part t 0)

  abbrev pub statement : Tree
  statement = child_or_absent ts i

  abbrev pub ds : Trees
  ds = children (part statement 0)

  abbrev pub d : Tree
  d = child_or_absent ds j

  abbrev pub init : Tree
  init = part d 1

  abbrev before : Trees
  before = first_children i ts

  abbrev after : Trees
  after = rest_children (suc i) ts

  abbrev pub first : Trees
  first = first_children j ds

  abbrev pub last : Trees
  last = rest_children (suc j) ds

  abbrev alone_there : Bool
  alone_there = is_alone (names_of (part d 0)) no_outside init ds j ts i

  abbrev lost : Bool
  lost = may_lose (is_free_at ts i) W (names_of (part d 0))

  pub tests : (declares_list statement ≡ true) × (declares_name d ≡ true) × (may_go init (part statement 0) ≡ true) × (alone_there ≡ true) × (lost ≡ true)
  tests =
      let (a, p) = and_parts (declares_list statement) (declares_name d && (lost && (may_go init (part statement 0) && alone_there))) e in
      let (c, q) = and_parts (declares_name d) (lost && (may_go init (part statement 0) && alone_there)) p in
      let (l, m) = and_parts lost (may_go init (part statement 0) && alone_there) q in
      let (f, r) = and_parts (may_go init (part statement 0)) alone_there m in
      (a, c, f, r, l)

  abbrev pub kind : VariableDeclarationKind
  kind = (a_declaration statement tests.0).0

  pub let_there : statement ≡ declaration kind ds
  let_there = (a_declaration statement tests.0).1

  abbrev pub one : Declares d
  one = declares d tests.1

  abbrev pub x : Name
  x = resolved one.spelling one.symbol

  pub goes : lets_go W.writable kind one.symbol ≡ true
  goes = sym (λ k. may_lose (is_lexical_shape (shape_of (let_there k))) W (names_of (part (one.is k) 0))) ∙ tests.4

  nothing_else : Quiet x init ds j ts i
  nothing_else = quiet x init ds j ts i (sym (ap (λ y. is_alone (names_of (part y 0)) no_outside init ds j ts i) one.is) ∙ tests.3)

  pub statement_is : statement ≡ declared_among kind x first init last
  statement_is = let_there ∙ ap (declaration kind) (parts_of ds j g ∙ ap (λ y. append first (y ▸ last)) one.is)

  block_there : t ≡ block (append before (declared_among kind x first init last ▸ after))
  block_there = block_is t b ∙ ap block (parts_of ts i h ∙ ap (λ y. append before (y ▸ after)) statement_is)

  pub unused : Alone kind x before first init last after
  unused = record { earlier = nothing_else.earlier; declared_earlier = nothing_else.declared_earlier; initial = nothing_else.initial; declared_later = nothing_else.declared_later; later = nothing_else.later; unseen = sym (ap has_eval block_there) ∙ v }

  pub list_is : part statement 0 ≡ listed ds
  list_is = ap (λ y. part y 0) let_there

  abbrev left_by : Bool → Tree
  left_by c = if c then (if is_bare (part statement 0) 1 then empty_statement else let_left statement j) else expression_statement init

  left_idle : is_idle init ≡ true → statement_left statement j ≡ declared_left kind (append first last)
  left_idle c = ap left_by c ∙ ap (λ y. if is_bare (part y 0) 1 then empty_statement else let_left y j) let_there ∙ left_is kind ds j g

  left_value : is_idle init ≡ false → statement_left statement j ≡ expression_statement init
  left_value c = ap left_by c

  value : is_idle init ≡ false → (is_bare (listed ds) 1 ≡ true) × (declares_nothing init ≡ true)
  value c = let (p, q) = and_parts (is_bare (part statement 0) 1) (declares_nothing init) (sym (ap (λ a. a || (is_bare (part statement 0) 1 && declares_nothing init)) c) ∙ tests.2) in (sym (ap (λ l. is_bare l 1) list_is) ∙ p, q)

  kind_there : not (kinds.is_lexical kind) ≡ not (is_lexical_shape (shape_of statement))
  kind_there = ap (λ y. not (is_lexical_shape (shape_of y))) (sym let_there)

  -- the row, and whether it is of a `var`
  pub row_told : (u : Tree) → u ≡ block_left t i j → (r : BlockRow W t u) × (declares_var r ≡ not (is_lexical_shape (shape_of statement)))
  row_told u f = by (is_idle init) refl
    where
      by : (a : Bool) → is_idle init ≡ a → (r : BlockRow W t u) × (declares_var r ≡ not (is_lexical_shape (shape_of statement)))
      by true c = (
        inr (inl (record {
          before = before;
          kind = kind;
          first = first;
          spelling = one.spelling;
          symbol = one.symbol;
          init = init;
          last = last;
          after = after;
          goes = goes;
          idle = c;
          unused = unused;
          shape = block_there;
          written = written t u i j b h f ∙ ap (λ y. block (append before (y ▸ after))) (left_idle c);
        })),
        kind_there,
      )
      by false c =
          let (single, present) = value c in
          let (no_first, no_last) = only_one ds j single g in (
            inl (record {
              before = before;
              kind = kind;
              spelling = one.spelling;
              symbol = one.symbol;
              init = init;
              after = after;
              goes = goes;
              present = present;
              unused = subst (λ us. Alone kind x before us init none after) (sym no_first) (subst (λ us. Alone kind x before first init us after) (sym no_last) unused);
              shape = block_there ∙ sym (λ k. block (append before (declared_among kind x (no_first k) init (no_last k) ▸ after)));
              written = written t u i j b h f ∙ ap (λ y. block (append before (y ▸ after))) (left_value c);
            }),
            kind_there,
          )

  pub row_at : (u : Tree) → u ≡ block_left t i j → BlockRow W t u
  row_at u f = (row_told u f).0

-- ---- where nothing is written no row reads it

-- a block that a row reads
pub record Read (W : Liberties) (t : Tree) : Type 0 where
  pub before : Trees
  pub kind : VariableDeclarationKind
  pub first : Trees
  pub spelling : List ℕ
  pub symbol : ℕ
  pub init : Tree
  pub last : Trees
  pub after : Trees
  pub lost : lets_go W.writable kind symbol ≡ true
  pub goes : may_go init (listed (append first (declarator (binding (resolved spelling symbol)) init ▸ last))) ≡ true
  pub unused : Alone kind (resolved spelling symbol) before first init last after
  pub shape : t ≡ block (append before (declared_among kind (resolved spelling symbol) first init last ▸ after))

pub or_true : (b : Bool) → (b || true) ≡ true
or_true true = refl
or_true false = refl

unfoldable pub dropped : (W : Liberties) (t w : Tree) → Row72 W t w → Read W t
dropped W t w r = record { before = r.before; kind = r.kind; lost = r.goes; first = none; spelling = r.spelling; symbol = r.symbol; init = r.init; last = none; after = r.after; goes = ap (λ b. is_idle r.init || b) r.present ∙ or_true (is_idle r.init); unused = r.unused; shape = r.shape }

unfoldable pub dropped_idle : (W : Liberties) (t w : Tree) → Row72Idle W t w → Read W t
dropped_idle W t w r = record { before = r.before; kind = r.kind; lost = r.goes; first = r.first; spelling = r.spelling; symbol = r.symbol; init = r.init; last = r.last; after = r.after; goes = ap (λ b. b || (is_bare (listed (append r.first (declarator (binding (resolved r.spelling r.symbol)) r.init ▸ r.last))) 1 && declares_nothing r.init)) r.idle; unused = r.unused; shape = r.shape }

module _ (W : Liberties) (t : Tree) (r : Read W t) where
  abbrev named_there : Name
  named_there = resolved r.spelling r.symbol

  abbrev declarator_there : Tree
  declarator_there = declarator (binding named_there) r.init

  abbrev declarators_there : Trees
  declarators_there = append r.first (declarator_there ▸ r.last)

  abbrev pub statement_there : Tree
  statement_there = declaration r.kind declarators_there

  abbrev statements_there : Trees
  statements_there = append r.before (statement_there ▸ r.after)

  alone_is : is_alone (named_there ∷ []) no_outside r.init declarators_there (count r.first) statements_there (count r.before) ≡ true
  alone_is =
      let y = named_there in
      let all = λ (a b c d f : Bool). not a && (not b && (not c && (not d && not f))) in
      let rest_ds = ap (any_names y) (there_rest r.first declarator_there r.last) ∙ r.unused.declared_later in
      let rest_ts = ap (any_names y) (there_rest r.before statement_there r.after) ∙ r.unused.later in
      let first_ds = ap (any_names y) (there_first r.first declarator_there r.last) ∙ r.unused.declared_earlier in
      let first_ts = ap (any_names y) (there_first r.before statement_there r.after) ∙ r.unused.earlier in
      λ k. all (r.unused.initial k) (rest_ds k) (rest_ts k) (first_ds k) (first_ts k)

  pub unused_there : is_unused W no_outside (children (part t 0)) (count r.before) (count r.first) ≡ true
  unused_there =
      let ts = statements_there in
      let i = count r.before in
      let ds = declarators_there in
      let j = count r.first in
      ap (λ v. is_unused W no_outside (children (part v 0)) i j) r.shape
      ∙ ap (λ c. declares_list c && is_unused_declarator (is_lexical_shape (shape_of c)) W (part c 0) j no_outside ts i) (there_child r.before statement_there r.after)
      ∙ ap (λ c. declares_name c && (may_lose (kinds.is_lexical r.kind) W (names_of (part c 0)) && (may_go (part c 1) (listed ds) && is_alone (names_of (part c 0)) no_outside (part c 1) ds j ts i))) (there_child r.first declarator_there r.last)
      ∙ and_both (lets_go W.writable r.kind r.symbol) (may_go r.init (listed ds) && is_alone (named_there ∷ []) no_outside r.init ds j ts i) r.lost (and_both (may_go r.init (listed ds)) (is_alone (named_there ∷ []) no_outside r.init ds j ts i) r.goes alone_is)

  pub statement_within : count r.before < count (children (part t 0))
  statement_within = subst (λ v. count r.before < count (children (part v 0))) (sym r.shape) (there_within r.before statement_there r.after)

  pub declarator_within : count r.first < count (children (list_at (children (part t 0)) (count r.before)))
  declarator_within =
      subst (λ v. count r.first < count (children (list_at (children (part v 0)) (count r.before)))) (sym r.shape)
      (subst (λ c. count r.first < count (children (part c 0))) (sym (there_child r.before statement_there r.after)) (there_within r.first declarator_there r.last))

pub no_row : (W : Liberties) (t : Tree) → (Read W t → ⊥) → ((w : Tree) → Row71 W t w → ⊥) → ((w : Tree) → Row71Next W t w → ⊥) → (w : Tree) → BlockRow W t w → ⊥
no_row W t f g h w (inl r) = f (dropped W t w r)
no_row W t f g h w (inr (inl r)) = f (dropped_idle W t w r)
no_row W t f g h w (inr (inr (inl r))) = g w r
no_row W t f g h w (inr (inr (inr r))) = h w r

pub no_block : (W : Liberties) (t : Tree) → is_block t ≡ false → (w : Tree) → BlockRow W t w → ⊥
no_block W t e = no_row W t (λ r. true≢false (sym (ap is_block r.shape) ∙ e)) (λ w r. true≢false (sym (ap is_block r.shape) ∙ e)) (λ w r. true≢false (sym (ap is_block r.shape) ∙ e))

pub all_used : (W : Liberties) (t : Tree) → UnusedAt W no_outside (children (part t 0)) None → Read W t → ⊥
all_used W t f r = true≢false (sym (unused_there W t r) ∙ f (count r.before) (statement_within W t r) (count r.first) (declarator_within W t r))

pub seen_by_eval : (W : Liberties) (t : Tree) → has_eval t ≡ true → (w : Tree) → BlockRow W t w → ⊥
seen_by_eval W t e = no_row W t (λ r. true≢false (sym e ∙ ap has_eval r.shape ∙ r.unused.unseen)) (λ w r. true≢false (sym e ∙ ap has_eval r.shape ∙ r.unseen)) (λ w r. true≢false (sym e ∙ ap has_eval r.shape ∙ r.unseen))

-- ---- the first one

-- it holds of all up to a place
abbrev pub SoFar : (ℕ → Type 0) → ℕ → Type 0
SoFar P k = (i : ℕ) → i < k → P i

below_or : (j i : ℕ) → j < suc i → (j < i) ⊎ (j ≡ i)
below_or zero zero h = inr refl
below_or zero (suc i) h = inl (omega arith)
below_or (suc j) zero h = absurd (omega (arith, h))
below_or (suc j) (suc i) h = elim (below_or j i (omega (arith, h))) [ inl x ↦ inl (omega (arith, x)) | inr e ↦ inr (ap suc e) ]

module _ (P : ℕ → Type 0) where
  pub so_far_start : SoFar P 0
  so_far_start i h = absurd (omega (arith, h))

  pub so_far_on : (i k : ℕ) → k ≡ suc i → P i → SoFar P i → SoFar P k
  so_far_on i k e n f j h = elim (below_or j i (omega (arith, e, h))) [ inl x ↦ f j x | inr g ↦ subst P (sym g) n ]

  pub so_far_end : (n i : ℕ) → n ≤ i → SoFar P i → SoFar P n
  so_far_end n i g f j h = f j (omega (arith, g, h))

-- of one statement

pub none_of : (W : Liberties) (o : Tree) (ts : Trees) (i : ℕ) → may_declare o (child_or_absent ts i) ≡ false → UnusedOf W o ts i None
none_of W o ts i e j h = ap (λ b. b && is_unused_declarator (is_free_at ts i) W (list_at ts i) j o ts i) e

pub of_list : (W : Liberties) (o : Tree) (ts : Trees) (i : ℕ) (f : Option ℕ) → may_declare o (child_or_absent ts i) ≡ true → 0 < count (children (child_or_absent ts i)) → UnusedIn (is_free_at ts i) W (list_at ts i) o ts i f → UnusedOf W o ts i f
of_list W o ts i (Some j) e h u = (h, u.0, and_both (may_declare o (child_or_absent ts i)) (is_unused_declarator (is_free_at ts i) W (list_at ts i) j o ts i) e u.1)
of_list W o ts i None e h u = λ j g. ap (λ b. b && is_unused_declarator (is_free_at ts i) W (list_at ts i) j o ts i) e ∙ u j g
