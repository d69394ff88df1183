-- What is written is what the row says, and where nothing is written no row reads the statements.
use Rattle.std.proofs.Common.{◌≡◌, ℕ, suc, ◌<◌, Bool, true, false, [], ◌∷◌, sym, ap, ◌∙◌, subst, true≢false, arith}
use Rattle.std.specs.Prelude.{not, ◌&&◌, ◌||◌}
use Rattle.std.proofs.lemmas.Bool.{and_parts}
use Rattle.mini_model.specs.declared.kind.VariableDeclarationKind.{VariableDeclarationKind}
use Rattle.mini_model.specs.declared.name.Name.{Name}
use Rattle.mini_model.specs.Tree.{Tree, Trees, none, ◌▸◌, listed, shape_of, children, count, child_or_absent}
use Rattle.mini_model.specs.Paths.{append}
use Rattle.mini_kept.specs.Without.{Assured}
use Rattle.mini_laws.specs.Naming.{is_lexical}
use Rattle.mini_laws.specs.ScopeList.{has_eval}
use Rattle.mini_node.specs.Children.{names_of, part, first_children, rest_children}
use Rattle.mini_node.specs.Walks.{next_child}
use Rattle.mini_rows.specs.Lists.{block, declaration}
use Rattle.mini_rows.specs.Declarations.{binding, declarator}
use Rattle.mini_rows.specs.Past.{held, are_past, Row71Past}
use Rattle.mini_rows.specs.Unused.{resolved, declared_among, declared_left, names, any_names, is_constant, reads_head, evaluated, put_first, may_move, lets_go}
use Rattle.mini_rows.specs.Switches.{Liberties}
use Rattle.mini_unused.specs.RemoveUnusedDeclaration.{declares_name, declares_list, may_declare, is_free_at, is_lexical_shape, list_at, may_lose}
use Rattle.mini_unused.specs.SubstituteNext.{put_named}
use Rattle.mini_unused.specs.SubstituteSingleUse.{last_place, is_declared_over, is_mentioned_around, declaration_left, list_single}
use Rattle.mini_unused.proofs.SingleUses.{last_is, last_rest, last_there, neither, next_there, none_after, rest_there, with_two, within_there}
use Rattle.mini_unused.proofs.Unused.{parts_of, there_child, there_first, and_both, not_true, Declares, declares, a_declaration, left_is}
use Rattle.mini_past.proofs.NextPlaces.{passing, declaring}
use Rattle.mini_past.proofs.Suiting.{suits_kind, kind_told, may_go}
use Rattle.mini_past.specs.SubstitutePast.{held_at, is_read_past, may_pass, may_pass_by, is_past_declarator, is_past}

-- ---- what is written

record Once (V : Assured) (x : Name) (o init : Tree) (ds : Trees) (j : ℕ) (ts : Trees) (i : ℕ) : Type 0 where
  outer : names x o ≡ false
  once : reads_head x (child_or_absent ts (suc i)) ≡ true
  passed : are_past (held_at V ts i ds j) x init (evaluated (child_or_absent ts (suc i))) ≡ true
  initial : names x init ≡ false
  declared_earlier : any_names x (first_children j ds) ≡ false
  earlier : any_names x (first_children i ts) ≡ false
  later : any_names x (rest_children (suc (suc i)) ts) ≡ false

read_once : (V : Assured) (x : Name) (o init : Tree) (ds : Trees) (j : ℕ) (ts : Trees) (i : ℕ) → is_read_past V (x ∷ []) o init ds j ts i ≡ true → Once V x o init ds j ts i
read_once V x o init ds j ts i e =
    let a = are_past (held_at V ts i ds j) x init (evaluated (child_or_absent ts (suc i))) in
    let around = not (is_declared_over x init ds j) && not (is_mentioned_around x ts i) in
    let (f, e) = and_parts (reads_head x (child_or_absent ts (suc i))) (not (names x o) && (a && around)) e in
    let (n, e) = and_parts (not (names x o)) (a && around) e in
    let (g, q) = and_parts a around e in
    let (r, s) = and_parts (not (is_declared_over x init ds j)) (not (is_mentioned_around x ts i)) q in
    let (t, u) = neither (names x init) (any_names x (first_children j ds)) r in
    let (w, v) = neither (any_names x (rest_children (suc (suc i)) ts)) (any_names x (first_children i ts)) s in
    record { outer = not_true (names x o) n; once = f; passed = g; initial = t; declared_earlier = u; earlier = v; later = w }

module _ (V : Assured) (W : Liberties) (o : Tree) (ts : Trees) (i : ℕ) (next : suc i < count ts) (some : 0 < count (children (list_at ts i))) (past : is_past V W o ts i ≡ true) (unseen : has_eval (block (o ▸ ts)) ≡ false) where
  abbrev statement : Tree
  statement = child_or_absent ts i

  abbrev ds : Trees
  ds = children (part statement 0)

  abbrev j : ℕ
  j = last_place ds

  abbrev d : Tree
  d = child_or_absent ds j

  abbrev init : Tree
  init = part d 1

  abbrev head : Tree
  head = child_or_absent ts (suc i)

  abbrev before : Trees
  before = first_children i ts

  abbrev after : Trees
  after = rest_children (suc (suc i)) ts

  abbrev first : Trees
  first = first_children j ds

  abbrev once_there : Bool
  once_there = is_read_past V (names_of (part d 0)) o init ds j ts i

  tests : (declares_list statement ≡ true) × (declares_name d ≡ true) × (may_lose (is_free_at ts i) W (names_of (part d 0)) ≡ true) × (may_move W.switches init ≡ true) × (is_constant init ≡ false) × (once_there ≡ true)
  tests =
      let passes = may_pass_by (is_free_at ts i) W d in
      let (a, p) = and_parts (may_declare o statement) (passes && once_there) past in
      let (b, q) = and_parts passes once_there p in
      let (c, f, g, h) = passing (is_free_at ts i) W d b in
      (declaring o statement a, c, f, g, h, q)

  abbrev kind : VariableDeclarationKind
  kind = (a_declaration statement tests.0).0

  let_there : statement ≡ declaration kind ds
  let_there = (a_declaration statement tests.0).1

  abbrev one : Declares d
  one = declares d tests.1

  abbrev x : Name
  x = resolved one.spelling one.symbol

  goes : lets_go W.writable kind one.symbol ≡ true
  goes = sym (λ k. may_lose (is_lexical_shape (shape_of (let_there k))) W (names_of (part (one.is k) 0))) ∙ tests.2

  reading : Once V x o init ds j ts i
  reading = read_once V x o init ds j ts i (sym (ap (λ y. is_read_past V (names_of (part y 0)) o init ds j ts i) one.is) ∙ tests.5)

  last_within : j < count ds
  last_within = let same = last_is ds some in omega (arith, same)

  statement_is : statement ≡ declared_among kind x first init none
  statement_is = let_there ∙ ap (declaration kind) (parts_of ds j last_within ∙ ap (λ us. append first (d ▸ us)) (last_rest ds) ∙ ap (λ y. append first (y ▸ none)) one.is)

  list_is : ts ≡ append before (declared_among kind x first init none ▸ (head ▸ after))
  list_is = parts_of ts i (let within = next in omega (arith, within)) ∙ ap (λ us. append before (statement ▸ us)) (next_child ts (suc i) next) ∙ ap (λ y. append before (y ▸ (head ▸ after))) statement_is

  left_there : declaration_left statement j ≡ declared_left kind first
  left_there = ap (λ y. declaration_left y j) let_there ∙ left_is kind ds j last_within ∙ ap (λ us. declared_left kind (append first us)) (last_rest ds) ∙ ap (declared_left kind) (none_after first)

  named_there : put_named (names_of (part d 0)) init head ≡ put_first x init head
  named_there = ap (λ y. put_named (names_of (part y 0)) init head) one.is

  written_is : children (list_single (listed ts) i j) ≡ append before (declared_left kind first ▸ (put_first x init head ▸ after))
  written_is = with_two ts i (declaration_left statement j) (put_named (names_of (part d 0)) init head) next ∙ (λ k. append before (left_there k ▸ (named_there k ▸ after)))

  -- what is held there is what the row says
  passed_there : are_past (held V ts before (is_lexical kind) first) x init (evaluated head) ≡ true
  passed_there = sym (ap (λ c. are_past (held V ts before (is_lexical_shape (shape_of c)) first) x init (evaluated head)) let_there) ∙ reading.passed

  -- where a list stands outside, it is a `var`
  -- and of a `var`, where a list stands outside
  pub row_there : (r : Row71Past V W o ts (children (list_single (listed ts) i j))) × (suits_kind o r.kind ≡ true)
  row_there = (
    record {
      before = before;
      kind = kind;
      first = first;
      spelling = one.spelling;
      symbol = one.symbol;
      init = init;
      head = head;
      after = after;
      goes = goes;
      moves = tests.3;
      varies = tests.4;
      once = reading.once;
      passed = passed_there;
      outer = reading.outer;
      earlier = reading.earlier;
      declared_earlier = reading.declared_earlier;
      initial = reading.initial;
      later = reading.later;
      unseen = unseen;
      shape = list_is;
      written = written_is;
    },
    kind_told o statement kind ds let_there (and_parts (may_declare o statement) (may_pass_by (is_free_at ts i) W d && once_there) past).0,
  )

-- ---- where nothing is written no row reads it

module _ (V : Assured) (W : Liberties) (o : Tree) (ts us : Trees) (r : Row71Past V W o ts us) (suits : suits_kind o r.kind ≡ true) where
  abbrev named : Name
  named = resolved r.spelling r.symbol

  abbrev declared : Tree
  declared = declarator (binding named) r.init

  abbrev declarators : Trees
  declarators = append r.first (declared ▸ none)

  abbrev stated : Tree
  stated = declaration r.kind declarators

  abbrev statements : Trees
  statements = append r.before (stated ▸ (r.head ▸ r.after))

  once_is : is_read_past V (named ∷ []) o r.init declarators (count r.first) statements (count r.before) ≡ true
  once_is =
      let y = named in
      let all = λ (h n a b c d f : Bool). h && (not n && (a && (not (b || c) && not (d || f)))) in
      let H = held_at V statements (count r.before) declarators (count r.first) in
      let there = λ (ts before : Trees) (l : Bool) (first : Trees). are_past (held V ts before l first) y r.init (evaluated r.head) in
      let lexical_there = ap (λ c. is_lexical_shape (shape_of c)) (there_child r.before stated (r.head ▸ r.after)) in
      let passed : are_past H y r.init (evaluated r.head) ≡ true =
      (λ k. there statements (there_first r.before stated (r.head ▸ r.after) k) (lexical_there k) (there_first r.first declared none k)) ∙ sym (ap (λ ts. there ts r.before (is_lexical r.kind) r.first) r.shape) ∙ r.passed in
      let head_there = ap (reads_head y) (next_there r.before stated r.head r.after) ∙ r.once in
      let past = ap (λ h. are_past H y r.init (evaluated h)) (next_there r.before stated r.head r.after) ∙ passed in
      let first_ds = ap (any_names y) (there_first r.first declared none) ∙ r.declared_earlier in
      let first_ts = ap (any_names y) (there_first r.before stated (r.head ▸ r.after)) ∙ r.earlier in
      let rest_ts = ap (any_names y) (rest_there r.before stated r.head r.after) ∙ r.later in
      λ k. all (head_there k) (r.outer k) (past k) (r.initial k) (first_ds k) (rest_ts k) (first_ts k)

  past_there : is_past V W o ts (count r.before) ≡ true
  past_there =
      let i = count r.before in
      let read = is_read_past V (named ∷ []) o r.init declarators (count r.first) statements i in
      let passes = and_both (may_move W.switches r.init) (not (is_constant r.init)) r.moves (ap not r.varies) in
      ap (λ v. is_past V W o v i) r.shape
      ∙ ap (λ c. may_declare o c && is_past_declarator V (is_lexical_shape (shape_of c)) W (part c 0) (last_place (children (part c 0))) o statements i) (there_child r.before stated (r.head ▸ r.after))
      ∙ ap (λ b. b && is_past_declarator V (is_lexical r.kind) W (part stated 0) (last_place (children (part stated 0))) o statements i) (may_go o r.kind declarators suits)
      ∙ ap (λ j. is_past_declarator V (is_lexical r.kind) W (part stated 0) j o statements i) (last_there r.first declared)
      ∙ ap (λ c. may_pass_by (is_lexical r.kind) W c && is_read_past V (names_of (part c 0)) o (part c 1) declarators (count r.first) statements i) (there_child r.first declared none)
      ∙ and_both (lets_go W.writable r.kind r.symbol && may_pass W.switches r.init) read (and_both (lets_go W.writable r.kind r.symbol) (may_pass W.switches r.init) r.goes passes) once_is

  past_within : suc (count r.before) < count ts
  past_within = subst (λ v. suc (count r.before) < count v) (sym r.shape) (within_there r.before stated r.head r.after)

pub none_past : (V : Assured) (W : Liberties) (o : Tree) (ts : Trees) → ((i : ℕ) → suc i < count ts → is_past V W o ts i ≡ false) → (us : Trees) (r : Row71Past V W o ts us) → suits_kind o r.kind ≡ true → ⊥
none_past V W o ts f us r s = true≢false (sym (past_there V W o ts us r s) ∙ f (count r.before) (past_within V W o ts us r s))
