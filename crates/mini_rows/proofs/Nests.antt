-- How deep nodes nest, by the parts of a node.
use Rattle.std.proofs.Common.{◌≡◌, ℕ, zero, suc, ◌+◌, ◌-◌, ◌<◌, ◌≤◌, Bool, true, false, refl, sym, ap, ◌∙◌, subst, subst₂, arith}
use Rattle.std.specs.Prelude.{◌&&◌, [], if◌then◌else◌}
use Rattle.std.proofs.lemmas.Bool.{and_parts, and_from, false≢true}
use Rattle.mini_model.specs.declared.name.Name.{Name}
use Rattle.mini_model.specs.declared.operator.LogicalOperator.{LogicalOperator}
use Rattle.mini_model.specs.declared.operator.LogicalOperator.TheVariants.{Or, And}
use Rattle.mini_model.specs.declared.operator.UnaryOperator.TheVariants.{LogicalNot}
use Rattle.mini_model.specs.declared.shape.Shape.{Shape}
use Rattle.mini_model.specs.declared.shape.Shape.TheVariants as shape
use Rattle.mini_model.specs.Tree.{Tree, Trees, node, none, ◌▸◌, children, count, child_or_absent, node_count, node_counts, absent, is_absent, if_else, if_alone, conditional, negation, logical}
use Rattle.mini_model.specs.Paths.{append}
use Rattle.mini_node.specs.Children.{rest_children}
use Rattle.mini_node.specs.Walks.{from_first, next_child, no_rest}
use Rattle.mini_rows.specs.Nesting.{is_shallow, are_shallow, fits_in, NoDeeper, DeeperByOne, NodeNoDeeper}
use Rattle.mini_rows.specs.Choices.{Row42And, Row42Or}
use Rattle.mini_rows.specs.Unused.{names, in_full, put_first, put_among}
use Rattle.mini_rows.specs.Lists.{block, return_statement, throw_statement, or_void, void_zero, alternate_of, Row73, Row74, Row75, Row75Block}

pub below : (t : Tree) → node_counts (children t) + 1 ≡ node_count t
below (node h xs n ts) = omega arith

pub none_shallow : (t : Tree) → is_shallow 0 t ≡ false
unfolding is_shallow
none_shallow t = refl

pub shallow_below : (k : ℕ) (t : Tree) → (k ≡ 0 → ⊥) → is_shallow k t ≡ are_shallow (k - 1) (rest_children 0 (children t))
unfolding is_shallow
shallow_below zero t z = absurd (z refl)
shallow_below (suc k) (node h xs n ts) z = let same : suc k - 1 ≡ k = omega arith in sym (ap (λ j. are_shallow j (rest_children 0 ts)) same ∙ ap (are_shallow k) (from_first ts))

module _ (k : ℕ) (ts : Trees) (b : Bool) where
  pub shallow_stops : (i : ℕ) → i < count ts → is_shallow k (child_or_absent ts i) ≡ false → are_shallow k (rest_children i ts) ≡ b → false ≡ b
  unfolding are_shallow
  shallow_stops i h e inv = sym (ap (λ c. c && are_shallow k (rest_children (suc i) ts)) e) ∙ sym (ap (are_shallow k) (next_child ts i h)) ∙ inv

  pub shallow_goes_on : (i : ℕ) → i < count ts → is_shallow k (child_or_absent ts i) ≡ true → are_shallow k (rest_children i ts) ≡ b → are_shallow k (rest_children (i + 1) ts) ≡ b
  unfolding are_shallow
  shallow_goes_on i h e inv = let next : i + 1 ≡ suc i = omega arith in ap (λ j. are_shallow k (rest_children j ts)) next ∙ sym (ap (λ c. c && are_shallow k (rest_children (suc i) ts)) e) ∙ sym (ap (are_shallow k) (next_child ts i h)) ∙ inv

  pub shallow_ends : (i : ℕ) → count ts ≤ i → are_shallow k (rest_children i ts) ≡ b → true ≡ b
  unfolding are_shallow
  shallow_ends i h inv = sym (ap (are_shallow k) (no_rest ts i h)) ∙ inv

-- ---- what nests so deep nests within more

mutual
  unfolding is_shallow are_shallow

  pub deeper : (k : ℕ) (t : Tree) → is_shallow k t ≡ true → is_shallow (suc k) t ≡ true
  deeper zero t e = absurd (false≢true e)
  deeper (suc k) (node h xs n ts) e = all_deeper k ts e

  pub all_deeper : (k : ℕ) (ts : Trees) → are_shallow k ts ≡ true → are_shallow (suc k) ts ≡ true
  all_deeper k none e = refl
  all_deeper k (t ▸ ts) e =
      let (first, others) = and_parts (is_shallow k t) (are_shallow k ts) e in
      and_from (is_shallow (suc k) t) (are_shallow (suc k) ts) (deeper k t first) (all_deeper k ts others)

within : (d k m : ℕ) (t : Tree) → m ≡ d + k → is_shallow k t ≡ true → is_shallow m t ≡ true
within zero k m t e h = subst (λ j. is_shallow j t ≡ true) {x = k} {y = m} (omega (arith, e)) h
within (suc d) k m t e h = subst (λ j. is_shallow j t ≡ true) {x = suc (d + k)} {y = m} (omega (arith, e)) (deeper (d + k) t (within d k (d + k) t refl h))

all_within : (d k m : ℕ) (ts : Trees) → m ≡ d + k → are_shallow k ts ≡ true → are_shallow m ts ≡ true
all_within zero k m ts e h = subst (λ j. are_shallow j ts ≡ true) {x = k} {y = m} (omega (arith, e)) h
all_within (suc d) k m ts e h = subst (λ j. are_shallow j ts ≡ true) {x = suc (d + k)} {y = m} (omega (arith, e)) (all_deeper (d + k) ts (all_within d k (d + k) ts refl h))

-- ---- nodes by their parts

one_in : (k : ℕ) (h : Shape) (a : Tree) → is_shallow k a ≡ true → is_shallow (suc k) (node h [] 0 (a ▸ none)) ≡ true
unfolding is_shallow are_shallow
one_in k h a e = and_from (is_shallow k a) true e refl

one_of : (k : ℕ) (h : Shape) (a : Tree) → is_shallow (suc k) (node h [] 0 (a ▸ none)) ≡ true → is_shallow k a ≡ true
unfolding is_shallow are_shallow
one_of k h a e = (and_parts (is_shallow k a) true e).0

two_in : (k : ℕ) (h : Shape) (a b : Tree) → is_shallow k a ≡ true → is_shallow k b ≡ true → is_shallow (suc k) (node h [] 0 (a ▸ (b ▸ none))) ≡ true
unfolding is_shallow are_shallow
two_in k h a b e f = and_from (is_shallow k a) (is_shallow k b && true) e (and_from (is_shallow k b) true f refl)

three_in : (k : ℕ) (h : Shape) (a b c : Tree) → is_shallow k a ≡ true → is_shallow k b ≡ true → is_shallow k c ≡ true → is_shallow (suc k) (node h [] 0 (a ▸ (b ▸ (c ▸ none)))) ≡ true
unfolding is_shallow are_shallow
three_in k h a b c e f g = and_from (is_shallow k a) (is_shallow k b && (is_shallow k c && true)) e (and_from (is_shallow k b) (is_shallow k c && true) f (and_from (is_shallow k c) true g refl))

three_of : (k : ℕ) (h : Shape) (a b c : Tree) → is_shallow (suc k) (node h [] 0 (a ▸ (b ▸ (c ▸ none)))) ≡ true → (is_shallow k a ≡ true) × (is_shallow k b ≡ true) × (is_shallow k c ≡ true)
unfolding is_shallow are_shallow
three_of k h a b c e =
    let (first, others) = and_parts (is_shallow k a) (is_shallow k b && (is_shallow k c && true)) e in
    let (second, last) = and_parts (is_shallow k b) (is_shallow k c && true) others in
    (first, second, (and_parts (is_shallow k c) true last).0)

list_in : (k : ℕ) (ts : Trees) → are_shallow k ts ≡ true → is_shallow (suc (suc k)) (block ts) ≡ true
unfolding is_shallow are_shallow
list_in k ts e = and_from (are_shallow k ts) true e refl

leaf_in : (k : ℕ) → is_shallow (suc k) absent ≡ true
unfolding is_shallow are_shallow
leaf_in k = refl

first_in : (k : ℕ) (t : Tree) → is_shallow k t ≡ true → are_shallow k (t ▸ none) ≡ true
unfolding is_shallow are_shallow
first_in k t e = and_from (is_shallow k t) true e refl

first_of : (k : ℕ) (t : Tree) (ts : Trees) → are_shallow k (t ▸ ts) ≡ true → (is_shallow k t ≡ true) × (are_shallow k ts ≡ true)
unfolding is_shallow are_shallow
first_of k t ts e = and_parts (is_shallow k t) (are_shallow k ts) e

before_of : (k : ℕ) (a b : Trees) → are_shallow k (append a b) ≡ true → are_shallow k a ≡ true
unfolding is_shallow are_shallow
before_of k none b e = refl
before_of k (t ▸ a) b e = let (first, others) = and_parts (is_shallow k t) (are_shallow k (append a b)) e in and_from (is_shallow k t) (are_shallow k a) first (before_of k a b others)

block_of : (k : ℕ) (ts : Trees) → is_shallow (suc (suc k)) (block ts) ≡ true → are_shallow k ts ≡ true
unfolding is_shallow are_shallow
block_of k ts e = (and_parts (are_shallow k ts) true e).0

void_in : (k : ℕ) (a : Tree) → is_shallow (suc (suc k)) a ≡ true → is_shallow (suc (suc k)) (or_void a) ≡ true
unfolding is_shallow are_shallow
void_in k a e = go (is_absent a)
  where
    go : (b : Bool) → is_shallow (suc (suc k)) (if b then void_zero else a) ≡ true
    go true = refl
    go false = e

-- ---- the rows, where j more than three levels are asked for

module _ (j : ℕ) (enough : 500 ≤ j) where
  sunk : (t : Tree) → is_shallow 500 t ≡ true → is_shallow j t ≡ true
  sunk t e = within (j - 500) 500 j t (omega (arith, enough)) e

  all_sunk : (ts : Trees) → are_shallow 500 ts ≡ true → are_shallow j ts ≡ true
  all_sunk ts e = all_within (j - 500) 500 j ts (omega (arith, enough)) e

  joined_in : (a b : Tree) → is_shallow 499 a && is_shallow 499 b ≡ true → (o : LogicalOperator) → is_shallow (suc j) (logical o a b) ≡ true
  joined_in a b e o =
      let (first, second) = and_parts (is_shallow 499 a) (is_shallow 499 b) e in
      two_in j (shape.LogicalExpression o) a b (within (j - 499) 499 j a (omega (arith, enough)) first) (within (j - 499) 499 j b (omega (arith, enough)) second)

  -- `if (a) return b; return c;`
  jump_joins : (h : Shape) (test left right : Tree) → is_shallow 500 right ≡ true → are_shallow (suc (suc (suc j))) (if_alone test (node h [] 0 (left ▸ none)) ▸ (node h [] 0 (right ▸ none) ▸ none)) ≡ true → are_shallow (suc (suc (suc (suc j)))) (node h [] 0 (conditional test (or_void left) right ▸ none) ▸ none) ≡ true
  jump_joins h test left right e f =
      let (guard, others) = first_of (suc (suc (suc j))) (if_alone test (node h [] 0 (left ▸ none))) (node h [] 0 (right ▸ none) ▸ none) f in
      let (first, second, third) = three_of (suc (suc j)) shape.IfStatement test (node h [] 0 (left ▸ none)) absent guard in
      let answer = one_of (suc j) h left second in
      first_in (suc (suc (suc (suc j)))) (node h [] 0 (conditional test (or_void left) right ▸ none))
      (one_in (suc (suc (suc j))) h (conditional test (or_void left) right)
      (three_in (suc (suc j)) shape.ConditionalExpression test (or_void left) right first (void_in j left (deeper (suc j) left answer)) (deeper (suc j) right (deeper j right (sunk right e)))))

  guards_join : (left right s u : Tree) → is_shallow 499 left && is_shallow 499 right ≡ true → are_shallow (suc (suc (suc j))) (if_alone left s ▸ (if_else right s u ▸ none)) ≡ true → are_shallow (suc (suc (suc j))) (if_else (logical Or left right) s u ▸ none) ≡ true
  guards_join left right s u e f =
      let (guard, others) = first_of (suc (suc (suc j))) (if_alone left s) (if_else right s u ▸ none) f in
      let (next, nothing) = first_of (suc (suc (suc j))) (if_else right s u) none others in
      let (test, branch, other) = three_of (suc (suc j)) shape.IfStatement right s u next in
      first_in (suc (suc (suc j))) (if_else (logical Or left right) s u) (three_in (suc (suc j)) shape.IfStatement (logical Or left right) s u (deeper (suc j) (logical Or left right) (joined_in left right e Or)) branch other)

  guard_turns : (jump test : Tree) (rest : Trees) → are_shallow 500 rest ≡ true → are_shallow (suc (suc (suc j))) (if_alone test jump ▸ rest) ≡ true → are_shallow (suc (suc (suc (suc j)))) (if_alone (negation test) (block rest) ▸ none) ≡ true
  guard_turns jump test rest e f =
      let (guard, others) = first_of (suc (suc (suc j))) (if_alone test jump) rest f in
      let (first, second, third) = three_of (suc (suc j)) shape.IfStatement test jump absent guard in
      first_in (suc (suc (suc (suc j)))) (if_alone (negation test) (block rest))
      (three_in (suc (suc (suc j))) shape.IfStatement (negation test) (block rest) absent
      (one_in (suc (suc j)) (shape.UnaryExpression LogicalNot) test first)
      (deeper (suc (suc j)) (block rest) (list_in j rest (all_sunk rest e)))
      (leaf_in (suc (suc j))))

  alternate_in : (rest : Trees) → are_shallow 500 rest ≡ true → is_shallow (suc (suc j)) (alternate_of rest) ≡ true
  alternate_in none e = leaf_in (suc j)
  alternate_in (t ▸ ts) e = list_in j (t ▸ ts) (all_sunk (t ▸ ts) e)

  block_turns : (jump test : Tree) (body rest : Trees) → are_shallow 500 rest ≡ true → are_shallow (suc (suc (suc j))) (if_alone test (block (append body (jump ▸ none))) ▸ rest) ≡ true → are_shallow (suc (suc (suc j))) (if_else test (block body) (alternate_of rest) ▸ none) ≡ true
  block_turns jump test body rest e f =
      let (guard, others) = first_of (suc (suc (suc j))) (if_alone test (block (append body (jump ▸ none)))) rest f in
      let (first, second, third) = three_of (suc (suc j)) shape.IfStatement test (block (append body (jump ▸ none))) absent guard in
      first_in (suc (suc (suc j))) (if_else test (block body) (alternate_of rest))
      (three_in (suc (suc j)) shape.IfStatement test (block body) (alternate_of rest) first (list_in j body (before_of j body (jump ▸ none) (block_of j (append body (jump ▸ none)) second))) (alternate_in rest e))

  -- `a ? b ? c : d : d`, and `a ? c : b ? c : d`
  and_chosen : (a b c d : Tree) → is_shallow 499 a && is_shallow 499 b ≡ true → is_shallow (suc (suc (suc j))) (conditional a (conditional b c d) d) ≡ true → is_shallow (suc (suc (suc j))) (conditional (logical And a b) c d) ≡ true
  and_chosen a b c d e f =
      let (first, second, third) = three_of (suc (suc j)) shape.ConditionalExpression a (conditional b c d) d f in
      let (test, inner, other) = three_of (suc j) shape.ConditionalExpression b c d second in
      three_in (suc (suc j)) shape.ConditionalExpression (logical And a b) c d (deeper (suc j) (logical And a b) (joined_in a b e And)) (deeper (suc j) c inner) third

  or_chosen : (a b c d : Tree) → is_shallow 499 a && is_shallow 499 b ≡ true → is_shallow (suc (suc (suc j))) (conditional a c (conditional b c d)) ≡ true → is_shallow (suc (suc (suc j))) (conditional (logical Or a b) c d) ≡ true
  or_chosen a b c d e f =
      let (first, second, third) = three_of (suc (suc j)) shape.ConditionalExpression a c (conditional b c d) f in
      let (test, inner, other) = three_of (suc j) shape.ConditionalExpression b c d third in
      three_in (suc (suc j)) shape.ConditionalExpression (logical Or a b) c d (deeper (suc j) (logical Or a b) (joined_in a b e Or)) second (deeper (suc j) d other)

-- ---- the laws

-- so many levels, and three
levels : (k : ℕ) → 503 ≤ k → suc (suc (suc (k - 3))) ≡ k
levels k e = omega (arith, e)

deep_enough : (k : ℕ) → 503 ≤ k → 500 ≤ k - 3
deep_enough k e = omega (arith, e)

by_levels : (P : ℕ → Type 0) (k : ℕ) (e : 503 ≤ k) → ((j : ℕ) → 500 ≤ j → P (suc (suc (suc j)))) → P k
by_levels P k e f = subst P (levels k e) (f (k - 3) (deep_enough k e))

jumps_deepen : (h : Shape) → DeeperByOne (Row73 (λ t. node h [] 0 (t ▸ none)))
jumps_deepen h a b r k e =
    subst₂ (λ x y. are_shallow k x ≡ true → are_shallow (suc k) y ≡ true) (sym r.shape) (sym r.written)
    (by_levels (λ m. are_shallow m (if_alone r.test (node h [] 0 (r.left ▸ none)) ▸ (node h [] 0 (r.right ▸ none) ▸ none)) ≡ true → are_shallow (suc m) (node h [] 0 (conditional r.test (or_void r.left) r.right ▸ none) ▸ none) ≡ true) k e (λ j l. jump_joins j l h r.test r.left r.right r.shallow))

pub returns_deepen : DeeperByOne (Row73 return_statement)
returns_deepen = jumps_deepen shape.ReturnStatement

pub throws_deepen : DeeperByOne (Row73 throw_statement)
throws_deepen = jumps_deepen shape.ThrowStatement

pub guards_stay : NoDeeper Row74
guards_stay a b r k e =
    subst₂ (λ x y. are_shallow k x ≡ true → are_shallow k y ≡ true) (sym r.shape) (sym r.written)
    (by_levels (λ m. are_shallow m (if_alone r.left r.s ▸ (if_else r.right r.s r.u ▸ none)) ≡ true → are_shallow m (if_else (logical Or r.left r.right) r.s r.u ▸ none) ≡ true) k e (λ j l. guards_join j l r.left r.right r.s r.u r.shallow))

pub turned_deepen : (jump : Tree) → DeeperByOne (Row75 jump)
turned_deepen jump a b r k e =
    subst₂ (λ x y. are_shallow k x ≡ true → are_shallow (suc k) y ≡ true) (sym r.shape) (sym r.written)
    (by_levels (λ m. are_shallow m (if_alone r.test jump ▸ r.rest) ≡ true → are_shallow (suc m) (if_alone (negation r.test) (block r.rest) ▸ none) ≡ true) k e (λ j l. guard_turns j l jump r.test r.rest r.shallow))

pub blocks_stay : (jump : Tree) → NoDeeper (Row75Block jump)
blocks_stay jump a b r k e =
    subst₂ (λ x y. are_shallow k x ≡ true → are_shallow k y ≡ true) (sym r.shape) (sym r.written)
    (by_levels (λ m. are_shallow m (if_alone r.test (block (append r.body (jump ▸ none))) ▸ r.rest) ≡ true → are_shallow m (if_else r.test (block r.body) (alternate_of r.rest) ▸ none) ≡ true) k e (λ j l. block_turns j l jump r.test r.body r.rest r.shallow))

pub and_stays : NodeNoDeeper Row42And
and_stays n w r k e =
    subst₂ (λ x y. is_shallow k x ≡ true → is_shallow k y ≡ true) (sym r.shape) (sym r.written)
    (by_levels (λ m. is_shallow m (conditional r.a (conditional r.b r.c r.d) r.d) ≡ true → is_shallow m (conditional (logical And r.a r.b) r.c r.d) ≡ true) k e (λ j l. and_chosen j l r.a r.b r.c r.d r.shallow))

pub or_stays : NodeNoDeeper Row42Or
or_stays n w r k e =
    subst₂ (λ x y. is_shallow k x ≡ true → is_shallow k y ≡ true) (sym r.shape) (sym r.written)
    (by_levels (λ m. is_shallow m (conditional r.a r.c (conditional r.b r.c r.d)) ≡ true → is_shallow m (conditional (logical Or r.a r.b) r.c r.d) ≡ true) k e (λ j l. or_chosen j l r.a r.b r.c r.d r.shallow))

-- ---- an initializer in the place of what reads it

put_by : (x : Name) (r t : Tree) (ts : Trees) (k m : ℕ) → m ≡ k + 250 → (b : Bool) → is_shallow k t ≡ true → are_shallow k ts ≡ true → is_shallow m (put_first x r t) ≡ true → are_shallow m (put_among x r ts) ≡ true → are_shallow m (if b then put_first x r t ▸ ts else t ▸ put_among x r ts) ≡ true
unfolding is_shallow are_shallow
put_by x r t ts k m e true part parts put others = and_from (is_shallow m (put_first x r t)) (are_shallow m ts) put (all_within 250 k m ts (omega (arith, e)) parts)
put_by x r t ts k m e false part parts put others = and_from (is_shallow m t) (are_shallow m (put_among x r ts)) (within 250 k m t (omega (arith, e)) part) others

mutual
  unfolding is_shallow are_shallow

  put_within : (x : Name) (r t : Tree) (k m : ℕ) → m ≡ k + 250 → is_shallow 250 r ≡ true → is_shallow k t ≡ true → is_shallow m (put_first x r t) ≡ true
  put_within x r t zero m e f g = absurd (false≢true g)
  put_within x r (node h ys n none) (suc k) m e f g = within (suc k) 250 m r e f
  put_within x r (node h ys n (t ▸ ts)) (suc k) m e f g =
      subst (λ j. is_shallow j (node (in_full h) ys n (put_among x r (t ▸ ts))) ≡ true) {x = suc (k + 250)} {y = m} (omega (arith, e)) (put_all_within x r (t ▸ ts) k (k + 250) refl f g)

  put_all_within : (x : Name) (r : Tree) (ts : Trees) (k m : ℕ) → m ≡ k + 250 → is_shallow 250 r ≡ true → are_shallow k ts ≡ true → are_shallow m (put_among x r ts) ≡ true
  put_all_within x r none k m e f g = refl
  put_all_within x r (t ▸ ts) k m e f g =
      let (part, parts) = and_parts (is_shallow k t) (are_shallow k ts) g in
      put_by x r t ts k m e (names x t) part parts (put_within x r t k m e f part) (put_all_within x r ts k m e f parts)

pub puts_within : (x : Name) (r t : Tree) → fits_in r t ≡ true → is_shallow 500 (put_first x r t) ≡ true
puts_within x r t e =
    let (part, whole) = and_parts (is_shallow 250 r) (is_shallow 250 t) e in
    put_within x r t 250 500 refl part whole
