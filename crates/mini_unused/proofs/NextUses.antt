-- A block in which a name is read once, in the next declarator.
use Rattle.std.proofs.Common.{◌≡◌, ℕ, zero, suc, ◌+◌, ◌<◌, Bool, true, false, [], ◌∷◌, refl, sym, ap, ◌∙◌, subst, true≢false, add-one, arith}
use Rattle.std.specs.Prelude.{not, ◌&&◌, ◌||◌, Option, Some, None}
use Rattle.std.proofs.lemmas.Bool.{and_parts}
use Rattle.mini_model.specs.declared.kind.VariableDeclarationKind.{VariableDeclarationKind}
use Rattle.mini_model.specs.declared.name.Name.{Name}
use Rattle.mini_model.specs.Tree.{Tree, Trees, node, none, ◌▸◌, shape_of, children, count, child_or_absent}
use Rattle.mini_model.specs.Paths.{append}
use Rattle.mini_laws.specs.Naming as kinds
use Rattle.mini_laws.specs.ScopeList.{has_eval}
use Rattle.mini_node.specs.Children.{names_of, like, part, with_child, with_part, without, first_children, rest_children}
use Rattle.mini_node.specs.Kinds.{is_block}
use Rattle.mini_node.specs.Made.{block_is}
use Rattle.mini_node.specs.Walks.{next_child}
use Rattle.mini_rows.specs.Lists.{block, declaration}
use Rattle.mini_rows.specs.Declarations.{binding, declarator}
use Rattle.mini_rows.specs.Unused.{resolved, declared_among, names, any_names, is_first, put_first, are_passed, may_move, lets_go, Row71Next}
use Rattle.mini_rows.specs.Switches.{Liberties}
use Rattle.mini_unused.specs.RemoveUnusedDeclaration.{declares_name, is_lexical_shape, declares_list, may_declare, may_lose, is_free_at, list_at}
use Rattle.mini_unused.specs.SubstituteNext.{is_declarator, reads_then, put_named, is_mentioned_beside, is_mentioned_elsewhere, is_read_then, is_read_by, is_read_by_next, is_next, NextIn, NextOf, NextAt, declarators_next, list_next}
use Rattle.mini_unused.proofs.SingleUses.{no_first, next_there as child_there, rest_there, within_there}
use Rattle.mini_unused.proofs.Unused.{no_outside, parts_of, with_parts, there_child, there_first, there_rest, there_within, and_both, Declares, declares, declarator_is, a_declaration, declared_there}

-- ---- what is looked for

pub two_parts : (d : Tree) → declares_name d ≡ true → count (children d) ≡ 2
two_parts d e = ap (λ t. count (children t)) (declares d e).is

pub declarator_parts : (d : Tree) → is_declarator d ≡ true → count (children d) ≡ 2
declarator_parts d e = ap (λ t. count (children t)) (declarator_is d e)

pub next_is : (free : Bool) (W : Liberties) (l : Tree) (j : ℕ) (o : Tree) (ts : Trees) (i : ℕ) → is_read_by free W (part l j) (part l (j + 1)) o (children l) j ts i ≡ is_read_by_next free W l j o ts i
next_is free W l j o ts i = ap (λ k. is_read_by free W (part l j) (part l k) o (children l) j ts i) (add-one j)

pub none_of : (W : Liberties) (o : Tree) (ts : Trees) (i : ℕ) → may_declare o (child_or_absent ts i) ≡ false → NextOf W o ts i None
none_of W o ts i e j h = ap (λ b. b && is_read_by_next (is_free_at ts i) W (list_at ts i) j o ts i) e

pub of_list : (W : Liberties) (o : Tree) (ts : Trees) (i : ℕ) (f : Option ℕ) → may_declare o (child_or_absent ts i) ≡ true → 0 < count (children (child_or_absent ts i)) → NextIn (is_free_at ts i) W (list_at ts i) o ts i f → NextOf W o ts i f
of_list W o ts i (Some j) e h u = (h, u.0, and_both (may_declare o (child_or_absent ts i)) (is_read_by_next (is_free_at ts i) W (list_at ts i) j o ts i) e u.1)
of_list W o ts i None e h u = λ j g. ap (λ b. b && is_read_by_next (is_free_at ts i) W (list_at ts i) j o ts i) e ∙ u j g

-- what it has
pub record Found (W : Liberties) (o : Tree) (ts : Trees) (i j : ℕ) : Type 0 where
  pub declared : declares_list (child_or_absent ts i) ≡ true
  pub one : declares_name (part (list_at ts i) j) ≡ true
  pub next : is_declarator (part (list_at ts i) (suc j)) ≡ true
  pub lost : may_lose (is_free_at ts i) W (names_of (part (part (list_at ts i) j) 0)) ≡ true
  pub moves : may_move W.switches (part (part (list_at ts i) j) 1) ≡ true
  pub read : is_read_then (names_of (part (part (list_at ts i) j) 0)) (part (list_at ts i) j) (part (list_at ts i) (suc j)) o (children (list_at ts i)) j ts i ≡ true

pub found : (W : Liberties) (o : Tree) (ts : Trees) (i j : ℕ) → is_next W o ts i j ≡ true → Found W o ts i j
found W o ts i j e =
    let l = list_at ts i in
    let lost = may_lose (is_free_at ts i) W (names_of (part (part l j) 0)) in
    let read = is_read_then (names_of (part (part l j) 0)) (part l j) (part l (suc j)) o (children l) j ts i in
    let (a, p) = and_parts (may_declare o (child_or_absent ts i)) (declares_name (part l j) && (is_declarator (part l (suc j)) && (lost && (may_move W.switches (part (part l j) 1) && read)))) e in
    let (b, q) = and_parts (declares_name (part l j)) (is_declarator (part l (suc j)) && (lost && (may_move W.switches (part (part l j) 1) && read))) p in
    let (c, r) = and_parts (is_declarator (part l (suc j))) (lost && (may_move W.switches (part (part l j) 1) && read)) q in
    let (d, s) = and_parts lost (may_move W.switches (part (part l j) 1) && read) r in
    let (f, g) = and_parts (may_move W.switches (part (part l j) 1)) read s in
    record { declared = declared_there o (child_or_absent ts i) a; one = b; next = c; lost = d; moves = f; read = g }

pub declares_there : (W : Liberties) (o : Tree) (ts : Trees) (i j : ℕ) → NextOf W o ts i (Some j) → declares_name (part (list_at ts i) j) ≡ true
declares_there W o ts i j n = (found W o ts i j n.2).one

pub next_declares_there : (W : Liberties) (o : Tree) (ts : Trees) (i j : ℕ) → NextOf W o ts i (Some j) → is_declarator (part (list_at ts i) (j + 1)) ≡ true
next_declares_there W o ts i j n = ap (λ k. is_declarator (part (list_at ts i) k)) (add-one j) ∙ (found W o ts i j n.2).next

-- ---- a declarator less

-- what stands behind the one that goes takes its place
pub next_left : (ds : Trees) (j : ℕ) (f : Tree → Tree) → suc j < count ds → with_child (without ds j) j (f (child_or_absent (without ds j) j)) ≡ append (first_children j ds) (f (child_or_absent ds (suc j)) ▸ rest_children (suc (suc j)) ds)
next_left none j f h = absurd (omega (arith, h))
next_left (t ▸ none) j f h = absurd (omega (arith, h))
next_left (t ▸ (u ▸ ds)) zero f h = ap (λ us. f u ▸ us) (sym (no_first ds))
next_left (t ▸ (u ▸ ds)) (suc j) f h = ap (λ us. t ▸ us) (next_left (u ▸ ds) j f (omega (arith, h)))

pub next_child_left : (ds : Trees) (j : ℕ) → child_or_absent (without ds j) j ≡ child_or_absent ds (suc j)
next_child_left none j = refl
next_child_left (t ▸ ds) zero = refl
next_child_left (t ▸ ds) (suc j) = next_child_left ds j

count_left : (ds : Trees) (j : ℕ) → suc j < count ds → j < count (without ds j)
count_left none j h = absurd (omega (arith, h))
count_left (t ▸ none) j h = absurd (omega (arith, h))
count_left (t ▸ (u ▸ ds)) zero h = omega arith
count_left (t ▸ (u ▸ ds)) (suc j) h = let rest = count_left (u ▸ ds) j (omega (arith, h)) in omega (arith, rest)

pub within_left : (t : Tree) (j : ℕ) → j + 1 < count (children t) → j < count (children (like t (without (children t) j)))
within_left (node h xs n ds) j g = count_left ds j (omega (arith, g))

pub parts_left : (t : Tree) (j : ℕ) → count (children (part t (j + 1))) ≡ 2 → 1 < count (children (part (like t (without (children t) j)) j))
parts_left (node h xs n ds) j g = let same = ap (λ u. count (children u)) (next_child_left ds j) in let next = ap (λ k. count (children (child_or_absent ds k))) (add-one j) in omega (arith, g, same, next)

-- ---- what is written is what the row says

neither : (a b : Bool) → not (a || b) ≡ true → (a ≡ false) × (b ≡ false)
neither true b e = absurd (true≢false (sym e))
neither false true e = absurd (true≢false (sym e))
neither false false e = (refl, refl)

record Once (x : Name) (d e : Tree) (ds : Trees) (j : ℕ) (ts : Trees) (i : ℕ) : Type 0 where
  once : is_first x false (part e 1) ≡ true
  passed : are_passed x (part d 1) (part e 1) ≡ true
  initial : names x (part d 1) ≡ false
  other : names x (part e 0) ≡ false
  declared_earlier : any_names x (first_children j ds) ≡ false
  declared_later : any_names x (rest_children (suc (suc j)) ds) ≡ false
  earlier : any_names x (first_children i ts) ≡ false
  later : any_names x (rest_children (suc i) ts) ≡ false

read_once : (x : Name) (d e : Tree) (ds : Trees) (j : ℕ) (ts : Trees) (i : ℕ) → is_read_then (x ∷ []) d e no_outside ds j ts i ≡ true → Once x d e ds j ts i
read_once x d e ds j ts i h =
    let (u, q) = and_parts (reads_then x (part d 1) e) (not (is_mentioned_beside x d e ds j) && not (is_mentioned_elsewhere x ts i)) h in
    let (r, s) = and_parts (not (is_mentioned_beside x d e ds j)) (not (is_mentioned_elsewhere x ts i)) q in
    let (a, b) = neither (names x (part d 1)) (names x (part e 0) || (any_names x (first_children j ds) || any_names x (rest_children (suc (suc j)) ds))) r in
    let (c, f) = neither (names x (part e 0)) (any_names x (first_children j ds) || any_names x (rest_children (suc (suc j)) ds)) (ap not b) in
    let (g, k) = neither (any_names x (first_children j ds)) (any_names x (rest_children (suc (suc j)) ds)) (ap not f) in
    let (m, n) = neither (any_names x (first_children i ts)) (any_names x (rest_children (suc i) ts)) s in
    let (p, v) = and_parts (is_first x false (part e 1)) (are_passed x (part d 1) (part e 1)) u in
    record { once = p; passed = v; initial = a; other = c; declared_earlier = g; declared_later = k; earlier = m; later = n }

abbrev pub block_next : Tree → ℕ → ℕ → Tree
block_next t i j = with_part t 0 (list_next (part t 0) i j)

module _ (t : Tree) (i j : ℕ) (b : is_block t ≡ true) (h : i < count (children (part t 0))) (g : suc j < count (children (list_at (children (part t 0)) i))) (W : Liberties) (e : is_next W no_outside (children (part t 0)) i j ≡ true) (v : has_eval t ≡ false) where
  abbrev ts : Trees
  ts = children (part t 0)

  abbrev statement : Tree
  statement = child_or_absent ts i

  abbrev ds : Trees
  ds = children (part statement 0)

  abbrev d : Tree
  d = child_or_absent ds j

  abbrev n : Tree
  n = child_or_absent ds (suc j)

  abbrev init : Tree
  init = part d 1

  abbrev value : Tree
  value = part n 1

  abbrev before : Trees
  before = first_children i ts

  abbrev after : Trees
  after = rest_children (suc i) ts

  abbrev first : Trees
  first = first_children j ds

  abbrev last : Trees
  last = rest_children (suc (suc j)) ds

  tests : Found W no_outside ts i j
  tests = found W no_outside ts i j e

  abbrev kind : VariableDeclarationKind
  kind = (a_declaration statement tests.declared).0

  let_there : statement ≡ declaration kind ds
  let_there = (a_declaration statement tests.declared).1

  abbrev one : Declares d
  one = declares d tests.one

  other : n ≡ declarator (part n 0) value
  other = declarator_is n tests.next

  abbrev x : Name
  x = resolved one.spelling one.symbol

  goes : lets_go W.writable kind one.symbol ≡ true
  goes = sym (λ k. may_lose (is_lexical_shape (shape_of (let_there k))) W (names_of (part (one.is k) 0))) ∙ tests.lost

  reading : Once x d n ds j ts i
  reading = read_once x d n ds j ts i (sym (ap (λ c. is_read_then (names_of (part c 0)) d n no_outside ds j ts i) one.is) ∙ tests.read)

  within : j < count ds
  within = let next = g in omega (arith, next)

  statement_is : statement ≡ declared_among kind x first init (declarator (part n 0) value ▸ last)
  statement_is = let_there ∙ ap (declaration kind) (parts_of ds j within ∙ ap (λ us. append first (d ▸ us)) (next_child ds (suc j) g)) ∙ (λ k. declaration kind (append first (one.is k ▸ (other k ▸ last))))

  block_there : t ≡ block (append before (declared_among kind x first init (declarator (part n 0) value ▸ last) ▸ after))
  block_there = block_is t b ∙ ap block (parts_of ts i h ∙ ap (λ c. append before (c ▸ after)) statement_is)

  -- the declaration that is left
  abbrev statement_left : Tree
  statement_left = with_part statement 0 (declarators_next (part statement 0) j)

  abbrev put : Tree → Tree
  put c = with_part c 1 (put_named (names_of (part d 0)) init (part c 1))

  statement_left_is : statement_left ≡ declaration kind (append first (declarator (part n 0) (put_first x init value) ▸ last))
  statement_left_is = ap (λ c. with_part c 0 (declarators_next (part c 0) j)) let_there ∙ ap (declaration kind) (next_left ds j put g) ∙ ap (λ c. declaration kind (append first (put c ▸ last))) other ∙ ap (λ c. declaration kind (append first (declarator (part n 0) (put_named (names_of (part c 0)) init value) ▸ last))) one.is

  written_there : (u : Tree) → u ≡ block_next t i j → u ≡ block (append before (declaration kind (append first (declarator (part n 0) (put_first x init value) ▸ last)) ▸ after))
  written_there u f = f ∙ ap (λ c. block_next c i j) (block_is t b) ∙ ap block (with_parts ts i statement_left h) ∙ ap (λ c. block (append before (c ▸ after))) statement_left_is

  pub next_row : (u : Tree) → u ≡ block_next t i j → Row71Next W t u
  next_row u f = record {
    before = before;
    kind = kind;
    first = first;
    spelling = one.spelling;
    symbol = one.symbol;
    init = init;
    binds = part n 0;
    value = value;
    last = last;
    after = after;
    goes = goes;
    moves = tests.moves;
    once = reading.once;
    passed = reading.passed;
    other = reading.other;
    earlier = reading.earlier;
    declared_earlier = reading.declared_earlier;
    initial = reading.initial;
    declared_later = reading.declared_later;
    later = reading.later;
    unseen = sym (ap has_eval block_there) ∙ v;
    shape = block_there;
    written = written_there u f;
  }

  -- which statement it reads
  pub next_begins : (u : Tree) (f : u ≡ block_next t i j) → (next_row u f).before ≡ before
  unfolding next_row
  next_begins u f = refl

  -- whether it is of a `var`
  pub next_told : (u : Tree) (f : u ≡ block_next t i j) → not (kinds.is_lexical (next_row u f).kind) ≡ not (is_lexical_shape (shape_of statement))
  unfolding next_row
  next_told u f = ap (λ y. not (is_lexical_shape (shape_of y))) (sym let_there)

-- ---- where nothing is written no row reads it

module _ (W : Liberties) (t w : Tree) (r : Row71Next W t w) where
  abbrev named : Name
  named = resolved r.spelling r.symbol

  abbrev declared : Tree
  declared = declarator (binding named) r.init

  abbrev following : Tree
  following = declarator r.binds r.value

  abbrev declarators : Trees
  declarators = append r.first (declared ▸ (following ▸ r.last))

  abbrev pub stated : Tree
  stated = declaration r.kind declarators

  abbrev statements : Trees
  statements = append r.before (stated ▸ r.after)

  then_is : is_read_then (named ∷ []) declared following no_outside declarators (count r.first) statements (count r.before) ≡ true
  then_is =
      let y = named in
      let all = λ (a b c d f p q : Bool). a && (not (b || (c || (d || f))) && not (p || q)) in
      let read = and_both (is_first y false r.value) (are_passed y r.init r.value) r.once r.passed in
      let first_ds = ap (any_names y) (there_first r.first declared (following ▸ r.last)) ∙ r.declared_earlier in
      let rest_ds = ap (any_names y) (rest_there r.first declared following r.last) ∙ r.declared_later in
      let first_ts = ap (any_names y) (there_first r.before stated r.after) ∙ r.earlier in
      let rest_ts = ap (any_names y) (there_rest r.before stated r.after) ∙ r.later in
      λ k. all (read k) (r.initial k) (r.other k) (first_ds k) (rest_ds k) (first_ts k) (rest_ts k)

  pub next_there : is_next W no_outside (children (part t 0)) (count r.before) (count r.first) ≡ true
  next_there =
      let i = count r.before in
      let j = count r.first in
      let last = may_move W.switches r.init && is_read_then (named ∷ []) declared following no_outside declarators j statements i in
      ap (λ v. is_next W no_outside (children (part v 0)) i j) r.shape
      ∙ ap (λ c. declares_list c && is_read_by_next (is_lexical_shape (shape_of c)) W (part c 0) j no_outside statements i) (there_child r.before stated r.after)
      ∙ (λ k. is_read_by (kinds.is_lexical r.kind) W (there_child r.first declared (following ▸ r.last) k) (child_there r.first declared following r.last k) no_outside declarators j statements i)
      ∙ and_both (lets_go W.writable r.kind r.symbol) last r.goes (and_both (may_move W.switches r.init) (is_read_then (named ∷ []) declared following no_outside declarators j statements i) r.moves then_is)

  pub next_within : suc (count r.first) < count (children (list_at (children (part t 0)) (count r.before)))
  next_within =
      subst (λ v. suc (count r.first) < count (children (list_at (children (part v 0)) (count r.before)))) (sym r.shape)
      (subst (λ c. suc (count r.first) < count (children (part c 0))) (sym (there_child r.before stated r.after)) (within_there r.first declared following r.last))

  pub statement_within : count r.before < count (children (part t 0))
  statement_within = subst (λ v. count r.before < count (children (part v 0))) (sym r.shape) (there_within r.before stated r.after)

pub none_next : (W : Liberties) (t : Tree) → NextAt W no_outside (children (part t 0)) None → (w : Tree) → Row71Next W t w → ⊥
none_next W t f w r = true≢false (sym (next_there W t w r) ∙ f (count r.before) (statement_within W t w r) (count r.first) (next_within W t w r))
