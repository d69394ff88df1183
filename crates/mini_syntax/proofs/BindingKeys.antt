-- A pattern that is declared loses brackets as the row says, and keeps none that the row reads.
use Rattle.std.proofs.Common.{◌≡◌, ℕ, zero, suc, ◌<◌, ◌≤◌, Bool, true, false, [], refl, sym, ap, subst, ◌∙◌, arith}
use Rattle.std.specs.Prelude.{◌&&◌, ◌||◌, not, nat_eq, if◌then◌else◌}
use Rattle.std.proofs.lemmas.Bool.{and_parts, le-leb, eqb-true, false≢true}
use Rattle.mini_model.specs.Numerals.{max_safe_integer}
use Rattle.mini_model.specs.Paths.{append}
use Rattle.mini_model.specs.declared.shape.Shape.TheVariants as shape
use Rattle.mini_model.specs.Tree.{Tree, Trees, node, none, ◌▸◌, shape_of, children, count, child_or_absent, node_count, node_counts}
use Rattle.mini_node.specs.Children.{part, number_of, with_child}
use Rattle.mini_node.specs.Lends.{with_children}
use Rattle.mini_node.specs.Walks.{with_same}
use Rattle.mini_rows.specs.KeyHolders.{PlainKey, a_word, a_count, plain_key, IsPlainKey, is_pattern_part, bracketed, plain, Bares, bares_key, bares_within, declaring_shape, Row52Declared}
use Rattle.mini_syntax.specs.Forms.{is_inner, bracketed_key}
use Rattle.mini_syntax.specs.SubstituteObjectProperty.{is_literal_key}
use Rattle.mini_syntax.specs.SubstituteBindingProperty.{is_bracketed, is_numbered, drops_brackets, bare, bares, any_bares, bared, first_bared, is_declaring, declares_brackets, declared_bare}
use Rattle.mini_syntax.proofs.InnerKeys.{inner_is, literal_is}

or_true : (a : Bool) → a || true ≡ true
or_true true = refl
or_true false = refl

neither : (a b : Bool) → a || b ≡ false → (a ≡ false) × (b ≡ false)
neither true b e = absurd (false≢true (sym e))
neither false b e = (refl, e)

-- ---- what the tests say

bracketed_is : (t : Tree) → is_bracketed t ≡ true → t ≡ node (shape.BindingProperty false true) [] 0 (part t 0 ▸ part t 1 ▸ none)
bracketed_is (node (shape.BindingProperty false true) [] zero (k ▸ v ▸ none)) e = refl
bracketed_is t e = absurd (false≢true e)

record Numbered (n : ℕ) : Type 0 where
  below : ℕ
  is : n ≡ suc below

numbered_is : (n : ℕ) → not (nat_eq n 0) ≡ true → Numbered n
numbered_is zero e = absurd (false≢true e)
numbered_is (suc n) e = record { below = n; is = refl }

key_bares : (t : Tree) → drops_brackets t ≡ true → Bares t (bare t)
key_bares t e =
    let k = bracketed_key t in
    let (holds, others) = and_parts (is_bracketed t) (is_inner (part t 0) && (is_numbered (part t 0) && is_literal_key false k)) e in
    let (inner, rest) = and_parts (is_inner (part t 0)) (is_numbered (part t 0) && is_literal_key false k) others in
    let (numbered, literal) = and_parts (is_numbered (part t 0)) (is_literal_key false k) rest in
    let n = numbered_is (number_of (part t 0)) numbered in
    let l = literal_is k literal in
    let over = λ (i : Tree). node (shape.BindingProperty false true) [] 0 (i ▸ part t 1 ▸ none) in
    let from : t ≡ bracketed n.below l.key (part t 1) =
    bracketed_is t holds ∙ ap over (inner_is (part t 0) inner ∙ ap (λ m. node shape.InnerExpression [] m (k ▸ none)) n.is ∙ ap (λ x. node shape.InnerExpression [] (suc n.below) (x ▸ none)) l.is) in
    let to : bare t ≡ plain l.key (part t 1) = ap (λ x. node (shape.BindingProperty false false) [] 0 (x ▸ part t 1 ▸ none)) l.is in
    subst (λ u. Bares u (bare t)) (sym from) (subst (λ u. Bares (bracketed n.below l.key (part t 1)) u) (sym to) (bares_key n.below l.key (part t 1) l.is_key))

suc_numbered : (n : ℕ) → not (nat_eq (suc n) 0) ≡ true
suc_numbered n = go (nat_eq (suc n) 0) refl
  where
    go : (b : Bool) → nat_eq (suc n) 0 ≡ b → not (nat_eq (suc n) 0) ≡ true
    go true e = let same : suc n ≡ 0 = eqb-true (suc n) 0 e in absurd (omega (arith, same))
    go false e = ap not e

key_drops : (n : ℕ) (k : PlainKey) (v : Tree) → IsPlainKey k → drops_brackets (bracketed n k v) ≡ true
key_drops n (a_word s) v h = ap (λ b. b && true) (suc_numbered n)
key_drops n (a_count m) v h = ap (λ b. b && is_literal_key false (plain_key (a_count m))) (suc_numbered n) ∙ ap (λ b. b) (le-leb m max_safe_integer h)

-- ---- a part of a pattern is as the row says

record FirstBared (ts us : Trees) : Type 0 where
  before : Trees
  after : Trees
  at : Tree
  to : Tree
  bares : Bares at to
  from_is : ts ≡ append before (at ▸ after)
  to_is : us ≡ append before (to ▸ after)

mutual
  pub part_bares : (t : Tree) → bares t ≡ true → Bares t (bared t)
  part_bares (node h xs n ts) e = go (λ k. first_bares ts k) (drops_brackets (node h xs n ts)) (is_pattern_part h) refl refl e
    where
      T : Tree
      T = node h xs n ts

      go : (any_bares ts ≡ true → FirstBared ts (first_bared ts)) → (d p : Bool) → drops_brackets T ≡ d → is_pattern_part h ≡ p → d || (p && any_bares ts) ≡ true → Bares T (bared T)
      go below true p d q e = subst (Bares T) (sym (ap (λ b. if b then bare T else (if is_pattern_part h then node h xs n (first_bared ts) else T)) d)) (key_bares T d)
      go below false true d q e =
          let f = below e in
          let is : bared T ≡ node h xs n (first_bared ts) =
          ap (λ b. if b then bare T else (if is_pattern_part h then node h xs n (first_bared ts) else T)) d ∙ ap (λ b. if b then node h xs n (first_bared ts) else T) q in
          subst (Bares T) (sym (is ∙ ap (node h xs n) f.to_is)) (subst (λ us. Bares (node h xs n us) (node h xs n (append f.before (f.to ▸ f.after)))) (sym f.from_is) (bares_within h xs n f.before f.after f.at f.to q f.bares))
      go below false false d q e = absurd (false≢true e)

  first_bares : (ts : Trees) → any_bares ts ≡ true → FirstBared ts (first_bared ts)
  first_bares none e = absurd (false≢true e)
  first_bares (t ▸ ts) e = go (λ k. part_bares t k) (λ k. first_bares ts k) (bares t) refl e
    where
      go : (bares t ≡ true → Bares t (bared t)) → (any_bares ts ≡ true → FirstBared ts (first_bared ts)) → (b : Bool) → bares t ≡ b → b || any_bares ts ≡ true → FirstBared (t ▸ ts) (first_bared (t ▸ ts))
      go here later true h e = record { before = none; after = ts; at = t; to = bared t; bares = here h; from_is = refl; to_is = ap (λ b. if b then bared t ▸ ts else t ▸ first_bared ts) h }
      go here later false h e =
          let f = later e in
          record { before = t ▸ f.before; after = f.after; at = f.at; to = f.to; bares = f.bares; from_is = ap (λ us. t ▸ us) f.from_is; to_is = ap (λ b. if b then bared t ▸ ts else t ▸ first_bared ts) h ∙ ap (λ us. t ▸ us) f.to_is }

-- ---- and the row reads no other

any_there : (before after : Trees) (t : Tree) → bares t ≡ true → any_bares (append before (t ▸ after)) ≡ true
any_there none after t e = ap (λ b. b || any_bares after) e
any_there (c ▸ before) after t e = ap (λ b. bares c || b) (any_there before after t e) ∙ or_true (bares c)

pub reads_part : (t u : Tree) → Bares t u → bares t ≡ true
reads_part t u (bares_key n k v h) = ap (λ b. b || any_bares (children (bracketed n k v))) (key_drops n k v h)
reads_part t u (bares_within h xs n before after a b q r) =
    let ts = append before (a ▸ after) in
    ap (λ b. drops_brackets (node h xs n ts) || (b && any_bares ts)) q ∙ ap (λ b. drops_brackets (node h xs n ts) || b) (any_there before after a (reads_part a b r)) ∙ or_true (drops_brackets (node h xs n ts))

-- ---- where there is none it stays

mutual
  pub part_stays : (t : Tree) → bares t ≡ false → bared t ≡ t
  part_stays (node h xs n ts) e = go (λ k. all_stay ts k) (drops_brackets (node h xs n ts)) (is_pattern_part h) refl refl e
    where
      T : Tree
      T = node h xs n ts

      go : (any_bares ts ≡ false → first_bared ts ≡ ts) → (d p : Bool) → drops_brackets T ≡ d → is_pattern_part h ≡ p → d || (p && any_bares ts) ≡ false → bared T ≡ T
      go below true p d q e = absurd (false≢true (sym e))
      go below false true d q e =
          ap (λ b. if b then bare T else (if is_pattern_part h then node h xs n (first_bared ts) else T)) d ∙ ap (λ b. if b then node h xs n (first_bared ts) else T) q ∙ ap (node h xs n) (below e)
      go below false false d q e =
          ap (λ b. if b then bare T else (if is_pattern_part h then node h xs n (first_bared ts) else T)) d ∙ ap (λ b. if b then node h xs n (first_bared ts) else T) q

  pub all_stay : (ts : Trees) → any_bares ts ≡ false → first_bared ts ≡ ts
  all_stay none e = refl
  all_stay (t ▸ ts) e =
      let (here, later) = neither (bares t) (any_bares ts) e in
      ap (λ b. if b then bared t ▸ ts else t ▸ first_bared ts) here ∙ ap (λ us. t ▸ us) (all_stay ts later)

-- ---- one call at a part

pub part_dropped : (t u : Tree) → drops_brackets t ≡ true → u ≡ bare t → (u ≡ bared t) × (true ≡ bares t)
part_dropped (node h xs n ts) u d e =
    let T = node h xs n ts in
    ((e ∙ sym (ap (λ b. if b then bare T else (if is_pattern_part h then node h xs n (first_bared ts) else T)) d)), sym (ap (λ b. b || (is_pattern_part h && any_bares ts)) d))

pub part_aside : (t : Tree) → drops_brackets t ≡ false → is_pattern_part (shape_of t) ≡ false → (t ≡ bared t) × (false ≡ bares t)
part_aside (node h xs n ts) d q =
    let T = node h xs n ts in
    (sym (ap (λ b. if b then bare T else (if is_pattern_part h then node h xs n (first_bared ts) else T)) d ∙ ap (λ b. if b then node h xs n (first_bared ts) else T) q), sym (ap (λ b. b || (is_pattern_part h && any_bares ts)) d ∙ ap (λ b. b && any_bares ts) q))

pub part_below : (t : Tree) (us : Trees) (b : Bool) → drops_brackets t ≡ false → is_pattern_part (shape_of t) ≡ true → us ≡ first_bared (children t) → b ≡ any_bares (children t) → (with_children t us ≡ bared t) × (b ≡ bares t)
part_below (node h xs n ts) us b d q e f =
    let T = node h xs n ts in
    (ap (node h xs n) e ∙ sym (ap (λ b. if b then bare T else (if is_pattern_part h then node h xs n (first_bared ts) else T)) d ∙ ap (λ b. if b then node h xs n (first_bared ts) else T) q), f ∙ sym (ap (λ b. b || (is_pattern_part h && any_bares ts)) d ∙ ap (λ b. b && any_bares ts) q))

-- ---- a loop over the parts: there is none before a place

abbrev pub none_before : ℕ → Trees → Bool
none_before zero ts = true
none_before (suc i) none = true
none_before (suc i) (t ▸ ts) = not (bares t) && none_before i ts

-- the list is as it was, and has none before the place
pub record Sought (i : ℕ) (old now : Trees) : Type 0 where
  pub same : now ≡ old
  pub none_yet : none_before i old ≡ true

pub sought_first : (ts : Trees) → Sought 0 ts ts
sought_first ts = record { same = refl; none_yet = refl }

without : (t : Tree) → not (bares t) ≡ true → bares t ≡ false
without t e = go (bares t) refl e
  where
    go : (b : Bool) → bares t ≡ b → not b ≡ true → bares t ≡ false
    go true h e = absurd (false≢true e)
    go false h e = h

pub sought_next : (i : ℕ) (old now : Trees) (t u : Tree) (b : Bool) → i < count old → Sought i old now → t ≡ child_or_absent now i → u ≡ bared t → b ≡ bares t → b ≡ false → Sought (suc i) old (with_child now i u)
sought_next i old now t u b h s e f g o =
    let at = e ∙ ap (λ ts. child_or_absent ts i) s.same in
    let no = sym g ∙ o in
    record {
      same = ap (with_child now i) (f ∙ part_stays t no ∙ e) ∙ with_same now i ∙ s.same;
      none_yet = go old i h s.none_yet (ap bares (sym at) ∙ no);
    }
  where
    go : (ts : Trees) (i : ℕ) → i < count ts → none_before i ts ≡ true → bares (child_or_absent ts i) ≡ false → none_before (suc i) ts ≡ true
    go none i h e o = refl
    go (t ▸ ts) zero h e o = ap (λ b. not b && true) o
    go (t ▸ ts) (suc i) h e o =
        let (here, later) = and_parts (not (bares t)) (none_before i ts) e in
        ap (λ b. b && none_before (suc i) ts) here ∙ go ts i (omega (arith, h)) later o

pub sought_found : (i : ℕ) (old now : Trees) (t u : Tree) (b : Bool) → i < count old → Sought i old now → t ≡ child_or_absent now i → u ≡ bared t → b ≡ bares t → b ≡ true → (with_child now i u ≡ first_bared old) × (true ≡ any_bares old)
sought_found i old now t u b h s e f g o =
    let at = e ∙ ap (λ ts. child_or_absent ts i) s.same in
    let r = go old i h s.none_yet (ap bares (sym at) ∙ sym g ∙ o) in
    (ap (with_child now i) (f ∙ ap bared at) ∙ ap (λ ts. with_child ts i (bared (child_or_absent old i))) s.same ∙ r.0, r.1)
  where
    go : (ts : Trees) (i : ℕ) → i < count ts → none_before i ts ≡ true → bares (child_or_absent ts i) ≡ true → (with_child ts i (bared (child_or_absent ts i)) ≡ first_bared ts) × (true ≡ any_bares ts)
    go none i h e o = absurd (omega (arith, h))
    go (t ▸ ts) zero h e o = (sym (ap (λ b. if b then bared t ▸ ts else t ▸ first_bared ts) o), sym (ap (λ b. b || any_bares ts) o))
    go (t ▸ ts) (suc i) h e o =
        let (here, later) = and_parts (not (bares t)) (none_before i ts) e in
        let no = without t here in
        let r = go ts i (omega (arith, h)) later o in
        (ap (λ us. t ▸ us) r.0 ∙ sym (ap (λ b. if b then bared t ▸ ts else t ▸ first_bared ts) no), r.1 ∙ sym (ap (λ b. b || any_bares ts) no))

pub sought_all : (i : ℕ) (old now : Trees) → count old ≤ i → Sought i old now → (now ≡ first_bared old) × (false ≡ any_bares old)
sought_all i old now h s =
    let no = go old i h s.none_yet in
    (s.same ∙ sym (all_stay old no), sym no)
  where
    go : (ts : Trees) (i : ℕ) → count ts ≤ i → none_before i ts ≡ true → any_bares ts ≡ false
    go none i h e = refl
    go (t ▸ ts) zero h e = absurd (omega (arith, h))
    go (t ▸ ts) (suc i) h e =
        let (here, later) = and_parts (not (bares t)) (none_before i ts) e in
        ap (λ b. b || any_bares ts) (without t here) ∙ go ts i (omega (arith, h)) later

pub smaller_child : (i : ℕ) (old now : Trees) (t : Tree) → i < count old → Sought i old now → t ≡ child_or_absent now i → node_count t ≤ node_counts old
smaller_child i old now t h s e = let is = ap node_count (e ∙ ap (λ ts. child_or_absent ts i) s.same) in omega (arith, is, go old i h)
  where
    go : (ts : Trees) (i : ℕ) → i < count ts → node_count (child_or_absent ts i) ≤ node_counts ts
    go none i h = absurd (omega (arith, h))
    go (t ▸ ts) zero h = omega arith
    go (t ▸ ts) (suc i) h = let less = go ts i (omega (arith, h)) in omega (arith, less)

pub still_many : (i : ℕ) (old now : Trees) → Sought i old now → count now ≡ count old
still_many i old now s = ap count s.same

-- ---- what declares the pattern

record Declaring (t : Tree) : Type 0 where
  is_catch : Bool
  is : t ≡ node (declaring_shape is_catch) [] 0 (part t 0 ▸ part t 1 ▸ none)

declaring_is : (t : Tree) → is_declaring t ≡ true → Declaring t
declaring_is (node shape.VariableDeclarator [] zero (k ▸ v ▸ none)) e = record { is_catch = false; is = refl }
declaring_is (node shape.CatchClause [] zero (k ▸ v ▸ none)) e = record { is_catch = true; is = refl }
declaring_is t e = absurd (false≢true e)

declaring : (c : Bool) (p r : Tree) → is_declaring (node (declaring_shape c) [] 0 (p ▸ r ▸ none)) ≡ true
declaring true p r = refl
declaring false p r = refl

declared_as : (t : Tree) → is_declaring t ≡ true → declared_bare t ≡ node (shape_of t) [] 0 (bared (part t 0) ▸ part t 1 ▸ none)
declared_as t e = ap (λ b. if b then node (shape_of t) [] 0 (bared (part t 0) ▸ part t 1 ▸ none) else t) e

pub declared_row : (t : Tree) → declares_brackets t ≡ true → Row52Declared t (declared_bare t)
declared_row t e =
    let (holds, found) = and_parts (is_declaring t) (bares (part t 0)) e in
    let d = declaring_is t holds in
    record {
      is_catch = d.is_catch;
      pattern = part t 0;
      bared = bared (part t 0);
      rest = part t 1;
      bares = part_bares (part t 0) found;
      shape = d.is;
      written = declared_as t holds ∙ ap (λ h. node h [] 0 (bared (part t 0) ▸ part t 1 ▸ none)) (ap shape_of d.is);
    }

pub declared_reads : (t w : Tree) → Row52Declared t w → declares_brackets t ≡ true
declared_reads t w r = ap declares_brackets r.shape ∙ ap (λ b. b && bares r.pattern) (declaring r.is_catch r.pattern r.rest) ∙ reads_part r.pattern r.bared r.bares

pub declared_stays : (t : Tree) → declares_brackets t ≡ false → declared_bare t ≡ t
declared_stays t e = go (is_declaring t) refl e
  where
    go : (b : Bool) → is_declaring t ≡ b → b && bares (part t 0) ≡ false → declared_bare t ≡ t
    go true h k =
        let d = declaring_is t h in
        declared_as t h ∙ ap (λ p. node (shape_of t) [] 0 (p ▸ part t 1 ▸ none)) (part_stays (part t 0) k) ∙ ap (λ s. node s [] 0 (part t 0 ▸ part t 1 ▸ none)) (ap shape_of d.is) ∙ sym d.is
    go false h k = ap (λ b. if b then node (shape_of t) [] 0 (bared (part t 0) ▸ part t 1 ▸ none) else t) h

-- the pattern is written over in its place
pub pattern_over : (t p : Tree) → is_declaring t ≡ true → p ≡ bared (part t 0) → with_children t (with_child (children t) 0 p) ≡ declared_bare t
pattern_over t p h e =
    let d = declaring_is t h in
    let over = λ (q : Tree). node (declaring_shape d.is_catch) [] 0 (q ▸ part t 1 ▸ none) in
    ap (λ u. with_children u (with_child (children u) 0 p)) d.is ∙ ap over e ∙ sym (ap (λ s. node s [] 0 (bared (part t 0) ▸ part t 1 ▸ none)) (ap shape_of d.is)) ∙ sym (declared_as t h)
