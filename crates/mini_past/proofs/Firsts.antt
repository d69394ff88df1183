-- What holds of all nodes before an index.
use Rattle.std.proofs.Common.{◌≡◌, ℕ, zero, suc, ◌<◌, ◌≤◌, Bool, true, false, refl, sym, ap, ◌∙◌, arith}
use Rattle.std.specs.Prelude.{◌&&◌, ◌||◌, not}
use Rattle.mini_model.specs.declared.shape.Shape.{Shape}
use Rattle.mini_model.specs.declared.shape.Shape.TheVariants as shape
use Rattle.mini_model.specs.Tree.{Tree, Trees, none, ◌▸◌, count, child_or_absent, children, shape_of}
use Rattle.mini_node.specs.Children.{first_children, part}
use Rattle.mini_node.specs.Walks.{all_first}
use Rattle.mini_rows.specs.Inside.{is_lexical_shape}
use Rattle.mini_rows.specs.Past.{binds, all_of, lets_at_most, lets_here}
use Rattle.mini_rows.specs.Unused.{declares_list}
use Rattle.mini_unused.specs.RemoveUnusedDeclaration as listing

module _ (p : Tree → Bool) where
  pub all_start : (ts : Trees) → all_of p (first_children 0 ts) ≡ true
  all_start none = refl
  all_start (t ▸ ts) = refl

  pub all_step : (ts : Trees) (i k : ℕ) (t : Tree) → k ≡ suc i → i < count ts → t ≡ child_or_absent ts i → p t ≡ true → all_of p (first_children i ts) ≡ true → all_of p (first_children k ts) ≡ true
  all_step ts i k t f h e n q = ap (λ j. all_of p (first_children j ts)) f ∙ go ts i h (sym (ap p e) ∙ n) q
    where
      go : (ts : Trees) (i : ℕ) → i < count ts → p (child_or_absent ts i) ≡ true → all_of p (first_children i ts) ≡ true → all_of p (first_children (suc i) ts) ≡ true
      go none i h n q = absurd (omega (arith, h))
      go (t ▸ none) zero h n q = ap (λ b. b && true) n
      go (t ▸ (u ▸ ts)) zero h n q = ap (λ b. b && true) n
      go (t ▸ ts) (suc i) h n q = by (p t) (all_of p (first_children i ts)) q (go ts i (omega (arith, h)) n)
        where
          by : (a b : Bool) → (a && b) ≡ true → (b ≡ true → all_of p (first_children (suc i) ts) ≡ true) → (a && all_of p (first_children (suc i) ts)) ≡ true
          by true b q f = f q
          by false b q f = absurd (cc q)

  pub all_end : (ts : Trees) (i end : ℕ) → i ≤ end → end ≤ i → all_of p (first_children i ts) ≡ true → true ≡ all_of p (first_children end ts)
  all_end ts i end g h q = let same : i ≡ end = omega (arith, g, h) in sym q ∙ ap (λ k. all_of p (first_children k ts)) same

  pub all_stopped : (ts : Trees) (i end : ℕ) (t : Tree) → i < end → i < count ts → t ≡ child_or_absent ts i → p t ≡ false → false ≡ all_of p (first_children end ts)
  all_stopped ts i end t g h e n = sym (go ts i end g h (sym (ap p e) ∙ n))
    where
      second : (a b : Bool) → b ≡ false → (a && b) ≡ false
      second true b e = e
      second false b e = refl

      go : (ts : Trees) (i end : ℕ) → i < end → i < count ts → p (child_or_absent ts i) ≡ false → all_of p (first_children end ts) ≡ false
      go none i end g h n = absurd (omega (arith, h))
      go (t ▸ ts) i zero g h n = absurd (omega (arith, g))
      go (t ▸ ts) zero (suc end) g h n = ap (λ b. b && all_of p (first_children end ts)) n
      go (t ▸ ts) (suc i) (suc end) g h n = second (p t) (all_of p (first_children end ts)) (go ts i end (omega (arith, g)) (omega (arith, h)) n)

  pub all_children : (ts : Trees) (i : ℕ) → count ts ≤ i → all_of p (first_children i ts) ≡ all_of p ts
  all_children ts i h = ap (all_of p) (all_first ts i h)

-- ---- a declaration's declarators

pub lexical_is : (h : Shape) → is_lexical_shape h ≡ listing.is_lexical_shape h
lexical_is (shape.VariableDeclaration k) = refl
lexical_is h = refl

pub unbound_here : (k : ℕ) (t : Tree) → binds k t ≡ false → true ≡ lets_here k t
unbound_here k t e = sym (ap (λ b. not b || (declares_list t && all_of (lets_at_most (is_lexical_shape (shape_of t)) k) (children (part t 0)))) e)

pub no_list_here : (k : ℕ) (t : Tree) → binds k t ≡ true → declares_list t ≡ false → false ≡ lets_here k t
no_list_here k t e f = sym (λ i. not (e i) || (f i && all_of (lets_at_most (is_lexical_shape (shape_of t)) k) (children (part t 0))))

pub here_by : (k : ℕ) (t l : Tree) (is_lexical : Bool) (ds : Trees) (n : ℕ) (r : Bool) → binds k t ≡ true → declares_list t ≡ true → is_lexical ≡ listing.is_lexical_shape (shape_of t) → l ≡ part t 0 → ds ≡ children l → n ≡ count ds → r ≡ all_of (lets_at_most is_lexical k) (first_children n ds) → r ≡ lets_here k t
here_by k t l is_lexical ds n r b d e f g h i =
    let there : ds ≡ children (part t 0) = g ∙ ap children f in
    i ∙ all_children (lets_at_most is_lexical k) ds n (omega (arith, h))
    ∙ (λ j. all_of (lets_at_most ((e ∙ sym (lexical_is (shape_of t))) j) k) (there j))
    ∙ sym (λ j. not (b j) || (d j && all_of (lets_at_most (is_lexical_shape (shape_of t)) k) (children (part t 0))))
