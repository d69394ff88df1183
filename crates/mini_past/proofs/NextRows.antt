-- Where the next declarator reads the name, what is written is what the row says, and where nothing is written no row reads the statements.
use Rattle.std.proofs.Common.{◌≡◌, ℕ, suc, ◌<◌, Bool, true, false, [], ◌∷◌, sym, ap, ◌∙◌, subst, true≢false, arith}
use Rattle.std.specs.Prelude.{not, ◌&&◌, ◌||◌, None}
use Rattle.std.proofs.lemmas.Bool.{and_parts}
use Rattle.mini_model.specs.declared.kind.VariableDeclarationKind.{VariableDeclarationKind}
use Rattle.mini_model.specs.declared.name.Name.{Name}
use Rattle.mini_model.specs.Tree.{Tree, Trees, ◌▸◌, listed, shape_of, children, count, child_or_absent}
use Rattle.mini_model.specs.Paths.{append}
use Rattle.mini_kept.specs.Without.{Assured}
use Rattle.mini_laws.specs.Naming.{is_lexical}
use Rattle.mini_laws.specs.ScopeList.{has_eval}
use Rattle.mini_node.specs.Children.{names_of, part, with_part, first_children, rest_children}
use Rattle.mini_node.specs.Walks.{next_child}
use Rattle.mini_rows.specs.Lists.{block, declaration}
use Rattle.mini_rows.specs.Declarations.{binding, declarator}
use Rattle.mini_rows.specs.Past.{held, are_past, Row71PastNext}
use Rattle.mini_rows.specs.Unused.{resolved, declared_among, names, any_names, is_constant, is_first, put_first, may_move, lets_go}
use Rattle.mini_rows.specs.Switches.{Liberties}
use Rattle.mini_unused.specs.RemoveUnusedDeclaration.{is_lexical_shape, may_declare, list_at, may_lose}
use Rattle.mini_unused.specs.SubstituteNext.{put_named, is_mentioned_beside, is_mentioned_elsewhere, declarators_next, list_next}
use Rattle.mini_unused.proofs.NextUses.{next_left}
use Rattle.mini_unused.proofs.SingleUses.{neither, next_there as child_there, rest_there, within_there}
use Rattle.mini_unused.proofs.Unused.{parts_of, with_parts, there_child, there_first, there_rest, there_within, and_both, not_true, Declares, declares, declarator_is, a_declaration}
use Rattle.mini_past.proofs.NextPlaces.{Found, found}
use Rattle.mini_past.proofs.Suiting.{suits_kind, kind_told, may_go}
use Rattle.mini_past.specs.SubstitutePast.{held_at, may_pass, reads_past_in, is_read_past_then, is_past_by, is_past_by_next, is_past_next, PastNextAt}

-- ---- what is written

record Once (V : Assured) (x : Name) (d e o : Tree) (ds : Trees) (j : ℕ) (ts : Trees) (i : ℕ) : Type 0 where
  once : is_first x false (part e 1) ≡ true
  passed : are_past (held_at V ts i ds j) x (part d 1) (part e 1) ≡ true
  initial : names x (part d 1) ≡ false
  other : names x (part e 0) ≡ false
  outer : names x o ≡ false
  declared_earlier : any_names x (first_children j ds) ≡ false
  declared_later : any_names x (rest_children (suc (suc j)) ds) ≡ false
  earlier : any_names x (first_children i ts) ≡ false
  later : any_names x (rest_children (suc i) ts) ≡ false

read_once : (V : Assured) (x : Name) (d e o : Tree) (ds : Trees) (j : ℕ) (ts : Trees) (i : ℕ) → is_read_past_then V (x ∷ []) d e o ds j ts i ≡ true → Once V x d e o ds j ts i
read_once V x d e o ds j ts i h =
    let H = held_at V ts i ds j in
    let (u, q) = and_parts (reads_past_in H x (part d 1) (part e 1)) (not (is_mentioned_beside x d e ds j) && (not (names x o) && not (is_mentioned_elsewhere x ts i))) h in
    let (r, s) = and_parts (not (is_mentioned_beside x d e ds j)) (not (names x o) && not (is_mentioned_elsewhere x ts i)) q in
    let (w, t) = and_parts (not (names x o)) (not (is_mentioned_elsewhere x ts i)) s in
    let (a, b) = neither (names x (part d 1)) (names x (part e 0) || (any_names x (first_children j ds) || any_names x (rest_children (suc (suc j)) ds))) r in
    let (c, f) = neither (names x (part e 0)) (any_names x (first_children j ds) || any_names x (rest_children (suc (suc j)) ds)) (ap not b) in
    let (g, k) = neither (any_names x (first_children j ds)) (any_names x (rest_children (suc (suc j)) ds)) (ap not f) in
    let (m, n) = neither (any_names x (first_children i ts)) (any_names x (rest_children (suc i) ts)) t in
    let (p, v) = and_parts (is_first x false (part e 1)) (are_past H x (part d 1) (part e 1)) u in
    record { once = p; passed = v; initial = a; other = c; outer = not_true (names x o) w; declared_earlier = g; declared_later = k; earlier = m; later = n }

module _ (V : Assured) (W : Liberties) (o : Tree) (ts : Trees) (i j : ℕ) (h : i < count ts) (g : suc j < count (children (list_at ts i))) (past : is_past_next V W o ts i j ≡ true) (unseen : has_eval (block (o ▸ ts)) ≡ false) where
  abbrev statement : Tree
  statement = child_or_absent ts i

  abbrev ds : Trees
  ds = children (part statement 0)

  abbrev d : Tree
  d = child_or_absent ds j

  abbrev n : Tree
  n = child_or_absent ds (suc j)

  abbrev init : Tree
  init = part d 1

  abbrev value : Tree
  value = part n 1

  abbrev before : Trees
  before = first_children i ts

  abbrev after : Trees
  after = rest_children (suc i) ts

  abbrev first : Trees
  first = first_children j ds

  abbrev last : Trees
  last = rest_children (suc (suc j)) ds

  tests : Found V W o ts i j
  tests = found V W o ts i j past

  abbrev kind : VariableDeclarationKind
  kind = (a_declaration statement tests.declared).0

  let_there : statement ≡ declaration kind ds
  let_there = (a_declaration statement tests.declared).1

  abbrev one : Declares d
  one = declares d tests.one

  other : n ≡ declarator (part n 0) value
  other = declarator_is n tests.next

  abbrev x : Name
  x = resolved one.spelling one.symbol

  goes : lets_go W.writable kind one.symbol ≡ true
  goes = sym (λ k. may_lose (is_lexical_shape (shape_of (let_there k))) W (names_of (part (one.is k) 0))) ∙ tests.lost

  reading : Once V x d n o ds j ts i
  reading = read_once V x d n o ds j ts i (sym (ap (λ c. is_read_past_then V (names_of (part c 0)) d n o ds j ts i) one.is) ∙ tests.read)

  within : j < count ds
  within = let next = g in omega (arith, next)

  statement_is : statement ≡ declared_among kind x first init (declarator (part n 0) value ▸ last)
  statement_is = let_there ∙ ap (declaration kind) (parts_of ds j within ∙ ap (λ us. append first (d ▸ us)) (next_child ds (suc j) g)) ∙ (λ k. declaration kind (append first (one.is k ▸ (other k ▸ last))))

  list_is : ts ≡ append before (declared_among kind x first init (declarator (part n 0) value ▸ last) ▸ after)
  list_is = parts_of ts i h ∙ ap (λ c. append before (c ▸ after)) statement_is

  -- the declaration that is left
  abbrev statement_left : Tree
  statement_left = with_part statement 0 (declarators_next (part statement 0) j)

  abbrev put : Tree → Tree
  put c = with_part c 1 (put_named (names_of (part d 0)) init (part c 1))

  statement_left_is : statement_left ≡ declaration kind (append first (declarator (part n 0) (put_first x init value) ▸ last))
  statement_left_is = ap (λ c. with_part c 0 (declarators_next (part c 0) j)) let_there ∙ ap (declaration kind) (next_left ds j put g) ∙ ap (λ c. declaration kind (append first (put c ▸ last))) other ∙ ap (λ c. declaration kind (append first (declarator (part n 0) (put_named (names_of (part c 0)) init value) ▸ last))) one.is

  written_is : children (list_next (listed ts) i j) ≡ append before (declaration kind (append first (declarator (part n 0) (put_first x init value) ▸ last)) ▸ after)
  written_is = with_parts ts i statement_left h ∙ ap (λ c. append before (c ▸ after)) statement_left_is

  -- what is held there is what the row says
  passed_there : are_past (held V ts before (is_lexical kind) first) x init value ≡ true
  passed_there = sym (ap (λ c. are_past (held V ts before (is_lexical_shape (shape_of c)) first) x init value) let_there) ∙ reading.passed

  -- and of a `var`, where a list stands outside
  pub next_row : (r : Row71PastNext V W o ts (children (list_next (listed ts) i j))) × (suits_kind o r.kind ≡ true)
  next_row = (
    record {
      before = before;
      kind = kind;
      first = first;
      spelling = one.spelling;
      symbol = one.symbol;
      init = init;
      binds = part n 0;
      value = value;
      last = last;
      after = after;
      goes = goes;
      moves = tests.moves;
      varies = tests.varies;
      once = reading.once;
      passed = passed_there;
      other = reading.other;
      outer = reading.outer;
      earlier = reading.earlier;
      declared_earlier = reading.declared_earlier;
      initial = reading.initial;
      declared_later = reading.declared_later;
      later = reading.later;
      unseen = unseen;
      shape = list_is;
      written = written_is;
    },
    kind_told o statement kind ds let_there tests.declares,
  )

-- ---- where nothing is written no row reads it

module _ (V : Assured) (W : Liberties) (o : Tree) (ts us : Trees) (r : Row71PastNext V W o ts us) (suits : suits_kind o r.kind ≡ true) where
  abbrev named : Name
  named = resolved r.spelling r.symbol

  abbrev declared : Tree
  declared = declarator (binding named) r.init

  abbrev following : Tree
  following = declarator r.binds r.value

  abbrev declarators : Trees
  declarators = append r.first (declared ▸ (following ▸ r.last))

  abbrev stated : Tree
  stated = declaration r.kind declarators

  abbrev statements : Trees
  statements = append r.before (stated ▸ r.after)

  then_is : is_read_past_then V (named ∷ []) declared following o declarators (count r.first) statements (count r.before) ≡ true
  then_is =
      let y = named in
      let all = λ (a b c d f n p q : Bool). a && (not (b || (c || (d || f))) && (not n && not (p || q))) in
      let H = held_at V statements (count r.before) declarators (count r.first) in
      let there = λ (ts before : Trees) (l : Bool) (first : Trees). are_past (held V ts before l first) y r.init r.value in
      let lexical_there = ap (λ c. is_lexical_shape (shape_of c)) (there_child r.before stated r.after) in
      let passed : are_past H y r.init r.value ≡ true =
      (λ k. there statements (there_first r.before stated r.after k) (lexical_there k) (there_first r.first declared (following ▸ r.last) k)) ∙ sym (ap (λ ts. there ts r.before (is_lexical r.kind) r.first) r.shape) ∙ r.passed in
      let read = and_both (is_first y false r.value) (are_past H y r.init r.value) r.once passed in
      let first_ds = ap (any_names y) (there_first r.first declared (following ▸ r.last)) ∙ r.declared_earlier in
      let rest_ds = ap (any_names y) (rest_there r.first declared following r.last) ∙ r.declared_later in
      let first_ts = ap (any_names y) (there_first r.before stated r.after) ∙ r.earlier in
      let rest_ts = ap (any_names y) (there_rest r.before stated r.after) ∙ r.later in
      λ k. all (read k) (r.initial k) (r.other k) (first_ds k) (rest_ds k) (r.outer k) (first_ts k) (rest_ts k)

  next_there : is_past_next V W o ts (count r.before) (count r.first) ≡ true
  next_there =
      let i = count r.before in
      let j = count r.first in
      let read = is_read_past_then V (named ∷ []) declared following o declarators j statements i in
      let passes = and_both (may_move W.switches r.init) (not (is_constant r.init)) r.moves (ap not r.varies) in
      ap (λ v. is_past_next V W o v i j) r.shape
      ∙ ap (λ c. may_declare o c && is_past_by_next V (is_lexical_shape (shape_of c)) W (part c 0) j o statements i) (there_child r.before stated r.after)
      ∙ ap (λ b. b && is_past_by_next V (is_lexical r.kind) W (part stated 0) j o statements i) (may_go o r.kind declarators suits)
      ∙ (λ k. is_past_by V (is_lexical r.kind) W (there_child r.first declared (following ▸ r.last) k) (child_there r.first declared following r.last k) o declarators j statements i)
      ∙ and_both (lets_go W.writable r.kind r.symbol && may_pass W.switches r.init) read (and_both (lets_go W.writable r.kind r.symbol) (may_pass W.switches r.init) r.goes passes) then_is

  next_within : suc (count r.first) < count (children (list_at ts (count r.before)))
  next_within =
      subst (λ v. suc (count r.first) < count (children (list_at v (count r.before)))) (sym r.shape)
      (subst (λ c. suc (count r.first) < count (children (part c 0))) (sym (there_child r.before stated r.after)) (within_there r.first declared following r.last))

  statement_within : count r.before < count ts
  statement_within = subst (λ v. count r.before < count v) (sym r.shape) (there_within r.before stated r.after)

pub none_next : (V : Assured) (W : Liberties) (o : Tree) (ts : Trees) → PastNextAt V W o ts None → (us : Trees) (r : Row71PastNext V W o ts us) → suits_kind o r.kind ≡ true → ⊥
none_next V W o ts f us r s = true≢false (sym (next_there V W o ts us r s) ∙ f (count r.before) (statement_within V W o ts us r s) (count r.first) (next_within V W o ts us r s))
