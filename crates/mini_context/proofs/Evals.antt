-- Where a direct eval stands; and what is strict.
use Rattle.std.specs.Prelude.{ℕ, zero, suc, ◌+◌, ◌≡◌, ◌≤◌, ◌<◌, refl, Bool, false, ◌||◌, List, [], ◌∷◌, length, drop, slice_index_or, codes}
use Rattle.std.proofs.Common.{ap, ◌∙◌, arith, sym, add-one}
use Rattle.mini_model.specs.declared.shape.Shape.{Shape}
use Rattle.mini_model.specs.Tree.{Tree, Trees, node, ◌▸◌, count, child_or_absent, shape_of, children}
use Rattle.mini_model.specs.Weight.{same_text}
use Rattle.mini_node.specs.Children.{rest_children, trees_of}
use Rattle.mini_node.specs.Walks.{next_child, no_rest}
use Rattle.mini_laws.specs.ScopeList.{has_eval, any_has_eval, is_eval_call}
use Rattle.mini_laws.specs.Strict.{has_use_strict}

any_more : (t : Tree) (ts : Trees) → any_has_eval (t ▸ ts) ≡ (has_eval t || any_has_eval ts)
unfolding has_eval
any_more t ts = refl

pub evals_step : (ts : Trees) (i : ℕ) (t : Tree) → i < count ts → t ≡ child_or_absent ts i → any_has_eval (rest_children i ts) ≡ (has_eval t || any_has_eval (rest_children (i + 1) ts))
evals_step ts i t h e =
    ap any_has_eval (next_child ts i h) ∙ any_more (child_or_absent ts i) (rest_children (suc i) ts)
    ∙ ap (λ u. has_eval u || any_has_eval (rest_children (suc i) ts)) (sym e)
    ∙ ap (λ k. has_eval t || any_has_eval (rest_children k ts)) (sym (add-one i))

pub evals_end : (ts : Trees) (i : ℕ) → count ts ≤ i → any_has_eval (rest_children i ts) ≡ false
unfolding has_eval
evals_end ts i h = ap any_has_eval (no_rest ts i h)

opened : (n : Tree) → has_eval n ≡ (is_eval_call (shape_of n) (children n) || any_has_eval (children n))
unfolding has_eval
opened (node h xs m ts) = refl

pub call_first : (n : Tree) (h : Shape) (xs : List Tree) (v b : Bool) → v ≡ is_eval_call h (trees_of xs) → h ≡ shape_of n → trees_of xs ≡ children n → v ≡ b → has_eval n ≡ (b || any_has_eval (children n))
call_first n h xs v b e f g i =
    opened n ∙ ap (λ k. is_eval_call k (children n) || any_has_eval (children n)) (sym f)
    ∙ ap (λ us. is_eval_call h us || any_has_eval (children n)) (sym g)
    ∙ ap (λ w. w || any_has_eval (children n)) (sym e ∙ i)

step_by : (xs : List (List ℕ)) (i : ℕ) (d : List ℕ) → i < length xs → d ≡ slice_index_or xs i d → has_use_strict (drop i xs) ≡ (same_text d (codes "use strict") || has_use_strict (drop (suc i) xs))
step_by [] i d h e = absurd (omega arith)
step_by (x ∷ []) zero d h e = ap (λ s. same_text s (codes "use strict") || false) (sym e)
step_by (x ∷ (y ∷ xs)) zero d h e = ap (λ s. same_text s (codes "use strict") || has_use_strict (y ∷ xs)) (sym e)
step_by (x ∷ xs) (suc i) d h e = step_by xs i d (omega arith) e

pub strict_step : (xs : List (List ℕ)) (i : ℕ) (d : List ℕ) → i < length xs → d ≡ slice_index_or xs i d → has_use_strict (drop i xs) ≡ (same_text d (codes "use strict") || has_use_strict (drop (i + 1) xs))
strict_step xs i d h e = step_by xs i d h e ∙ ap (λ k. same_text d (codes "use strict") || has_use_strict (drop k xs)) (sym (add-one i))
