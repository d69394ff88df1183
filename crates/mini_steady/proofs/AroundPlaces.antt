-- What is declared before a place, as the code tells it.
use Rattle.std.proofs.Common.{◌≡◌, ◌≤◌, ℕ, Bool, true, false, List, [], length, slice_index_or, refl, sym, ap, ◌∙◌}
use Rattle.std.specs.Prelude.{◌&&◌, ◌||◌, ◌++◌, not}
use Rattle.mini_model.specs.declared.shape.Shape.{Shape}
use Rattle.mini_model.specs.declared.shape.Shape.TheVariants as shape
use Rattle.mini_model.specs.Tree.{Tree, Trees, node, ◌▸◌, children, shape_of, is_absent, is_absent_shape}
use Rattle.mini_laws.specs.Naming.{lets_first as first_lets, summary, summaries}
use Rattle.mini_laws.specs.Value.{Variable, Declared, choose, is_in}
use Rattle.mini_node.specs.Children.{trees_of}
use Rattle.mini_rows.specs.PastInside.{lets_before, lets_around, holds_statements, is_let_around}
use Rattle.mini_rows.specs.Steady.{head_lets}
use Rattle.mini_steady.specs.Declarations.{is_listed, is_lexical, lets_in, lets_if}
use Rattle.mini_steady.proofs.Behind.{head_begins}
use Rattle.mini_steady.proofs.Letting.{as_choose, in_both, lets_there}
use Rattle.mini_steady.proofs.Rests.{rest_of, opened_list}

module _ (k : ℕ) where
  abbrev In : List Variable → Bool
  In xs = is_in (Declared k) xs

  unless : (b : Bool) (xs : List Variable) → In (choose b [] xs) ≡ (not b && In xs)
  unless true xs = refl
  unless false xs = refl

  absent_is : (t : Tree) → is_absent t ≡ is_absent_shape (shape_of t)
  absent_is (node h xs n ts) = refl

  pub before_more : (t : Tree) (ts : Trees) → In (lets_before (t ▸ ts)) ≡ (not (is_absent_shape (shape_of t)) && (is_listed k (lets_in t) || In (lets_before ts)))
  before_more t ts =
      unless (is_absent t) ((summary t).lets ++ lets_before ts) ∙ ap (λ b. not b && In ((summary t).lets ++ lets_before ts)) (absent_is t)
      ∙ ap (λ b. not (is_absent_shape (shape_of t)) && b) (in_both k (summary t).lets (lets_before ts) ∙ sym (as_choose k (In (summary t).lets) (In (lets_before ts))) ∙ ap (λ b. b || In (lets_before ts)) (sym (lets_there k t)))

  pub first_told : (t : Tree) (ts : Trees) → In (first_lets (summaries (t ▸ ts))) ≡ is_listed k (lets_in t)
  first_told t ts = sym (lets_there k t)

  pub before_rest : (xs : List Tree) (x : Tree) (b : Bool) → 1 ≤ length xs → x ≡ slice_index_or xs 0 x → is_absent_shape (shape_of x) ≡ false → false ≡ is_listed k (lets_in x) → b ≡ In (lets_before (rest_of xs)) → b ≡ In (lets_before (trees_of xs))
  before_rest xs x b h e f g i =
      i ∙ ap (λ c. c || In (lets_before (rest_of xs))) g ∙ ap (λ c. not c && (is_listed k (lets_in x) || In (lets_before (rest_of xs)))) (sym f) ∙ sym (before_more x (rest_of xs)) ∙ sym (ap (λ ts. In (lets_before ts)) (opened_list xs x h e))

  pub caught_there : (xs : List Tree) (x : Tree) (b : Bool) → 1 ≤ length xs → x ≡ slice_index_or xs 0 x → b ≡ is_listed k (lets_in x) → b ≡ In (first_lets (summaries (trees_of xs)))
  caught_there xs x b h e f = f ∙ sym (first_told x (rest_of xs)) ∙ sym (ap (λ ts. In (first_lets (summaries ts))) (opened_list xs x h e))

  if_listed : (b : Bool) (t : Tree) → is_listed k (lets_if b t) ≡ (b && is_listed k (lets_in t))
  if_listed true t = refl
  if_listed false t = refl

  pub head_told : (t : Tree) (ts : Trees) → In (head_lets (summaries (t ▸ ts))) ≡ (is_lexical t && is_listed k (lets_in t))
  head_told t ts = sym (head_begins k (t ▸ ts)) ∙ if_listed (is_lexical t) t

  pub head_there : (xs : List Tree) (x : Tree) (b c : Bool) → 1 ≤ length xs → x ≡ slice_index_or xs 0 x → c ≡ is_lexical x → b ≡ (c && is_listed k (lets_in x)) → b ≡ In (head_lets (summaries (trees_of xs)))
  head_there xs x b c h e f g = g ∙ ap (λ d. d && is_listed k (lets_in x)) f ∙ sym (head_told x (rest_of xs)) ∙ sym (ap (λ ts. In (head_lets (summaries ts))) (opened_list xs x h e))

  chosen : (b : Bool) (xs : List Variable) → In (choose b xs []) ≡ (b && In xs)
  chosen true xs = refl
  chosen false xs = refl

  pub in_list : (b : Bool) (ts : Trees) → In (choose b (lets_before ts) []) ≡ (b && In (lets_before ts))
  in_list b ts = chosen b (lets_before ts)

  pub around_more : (b : Bool) (t : Tree) (us : Trees) → is_let_around k b (t ▸ us) ≡ (In (lets_around b (shape_of t) (children t)) || is_let_around k (holds_statements (shape_of t)) us)
  around_more b (node h xs n ts) us = refl

-- of any other node none is
pub in_none : (k : ℕ) (b : Bool) (h : Shape) (ts : Trees) → (h ≡ shape.Listed → ⊥) → (h ≡ shape.CatchClause → ⊥) → (h ≡ shape.ForStatement → ⊥) → (h ≡ shape.ForInStatement → ⊥) → (h ≡ shape.ForOfStatement → ⊥) → is_in (Declared k) (lets_around b h ts) ≡ false
in_none k b shape.Listed ts f g i j l = absurd (f refl)
in_none k b shape.CatchClause ts f g i j l = absurd (g refl)
in_none k b shape.ForStatement ts f g i j l = absurd (i refl)
in_none k b shape.ForInStatement ts f g i j l = absurd (j refl)
in_none k b shape.ForOfStatement ts f g i j l = absurd (l refl)
in_none k b h ts f g i j l = refl
