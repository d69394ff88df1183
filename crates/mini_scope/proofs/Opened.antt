-- The scopes of a node, as the code holds them and as they are defined.
use Rattle.std.specs.Prelude.{ℕ, zero, suc, ◌≡◌, ◌≤◌, ◌<◌, refl, Bool, List, [], ◌∷◌, ◌++◌, length, drop, slice_index_or, Result, IfOk}
use Rattle.std.proofs.Common.{ap, ◌∙◌, arith, sym}
use Rattle.std.proofs.lemmas.Result.{IfOk-weaker}
use Rattle.mini_model.specs.declared.memory.OutOfMemory.{OutOfMemory}
use Rattle.mini_model.specs.Tree.{Tree, Trees, none, ◌▸◌}
use Rattle.mini_node.specs.Children.{trees_of}
use Rattle.mini_laws.specs.declared.names.Binding.{Binding}
use Rattle.mini_laws.specs.declared.names.Opening.{Opening}
use Rattle.mini_laws.specs.declared.names.Opening.TheVariants as opening
use Rattle.mini_laws.specs.Scopes.{at_or_empty, scopes_by}
use Rattle.mini_scope.specs.declared.opening.OpenScopes.{OpenScopes}
use Rattle.mini_scope.specs.ScopeAt.{scope_at}

none_at : (o : OpenScopes) → o.first.items ≡ [] → o.second.items ≡ [] → o.third.items ≡ [] → (k : ℕ) → scope_at o k ≡ at_or_empty [] k
none_at o a b c zero = a
none_at o a b c (suc zero) = b
none_at o a b c (suc (suc zero)) = c
none_at o a b c (suc (suc (suc k))) = refl

pub no_scopes : (o : OpenScopes) → o.first.items ≡ [] → o.second.items ≡ [] → o.third.items ≡ [] → scope_at o ≡ at_or_empty []
no_scopes o a b c = λ i k. none_at o a b c k i

-- a slice by its first nodes
pub one_up : (xs : List Tree) (x : Tree) → 1 ≤ length xs → x ≡ slice_index_or xs 0 x → trees_of xs ≡ x ▸ trees_of (drop 1 xs)
one_up [] x h e = absurd (omega arith)
one_up (y ∷ ys) x h e = ap (λ z. z ▸ trees_of ys) (sym e)

pub two_up : (xs : List Tree) (x y : Tree) → 2 ≤ length xs → x ≡ slice_index_or xs 0 x → y ≡ slice_index_or xs 1 y → trees_of xs ≡ x ▸ (y ▸ trees_of (drop 2 xs))
two_up [] x y h e f = absurd (omega arith)
two_up (a ∷ xs) x y h e f = ap (λ z. z ▸ trees_of xs) (sym e) ∙ ap (λ r. x ▸ r) (one_up xs y (omega arith) f)

pub three_up : (xs : List Tree) (x y z : Tree) → 3 ≤ length xs → x ≡ slice_index_or xs 0 x → y ≡ slice_index_or xs 1 y → z ≡ slice_index_or xs 2 z → trees_of xs ≡ x ▸ (y ▸ (z ▸ trees_of (drop 3 xs)))
three_up [] x y z h e f g = absurd (omega arith)
three_up (a ∷ xs) x y z h e f g = ap (λ w. w ▸ trees_of xs) (sym e) ∙ ap (λ r. x ▸ r) (two_up xs y z (omega arith) f g)

pub four_up : (xs : List Tree) (x y z w : Tree) → 4 ≤ length xs → x ≡ slice_index_or xs 0 x → y ≡ slice_index_or xs 1 y → z ≡ slice_index_or xs 2 z → w ≡ slice_index_or xs 3 w → trees_of xs ≡ x ▸ (y ▸ (z ▸ (w ▸ trees_of (drop 4 xs))))
four_up [] x y z w h e f g k = absurd (omega arith)
four_up (a ∷ xs) x y z w h e f g k = ap (λ v. v ▸ trees_of xs) (sym e) ∙ ap (λ r. x ▸ r) (three_up xs y z w (omega arith) f g k)

-- too few nodes open no scope
pub few_for_one : (xs : List Tree) → length xs < 1 → trees_of xs ≡ none
few_for_one [] h = refl
few_for_one (x ∷ xs) h = absurd (omega arith)

pub few_for_arrow : (xs : List Tree) → length xs < 2 → scopes_by opening.Arrow (trees_of xs) ≡ []
unfolding scopes_by
few_for_arrow [] h = refl
few_for_arrow (x ∷ []) h = refl
few_for_arrow (x ∷ (y ∷ xs)) h = absurd (omega arith)

pub few_for_class : (own inside : Bool) (xs : List Tree) → length xs < 4 → scopes_by (opening.Class own inside) (trees_of xs) ≡ []
unfolding scopes_by
few_for_class own inside [] h = refl
few_for_class own inside (x ∷ []) h = refl
few_for_class own inside (x ∷ (y ∷ [])) h = refl
few_for_class own inside (x ∷ (y ∷ (z ∷ []))) h = refl
few_for_class own inside (x ∷ (y ∷ (z ∷ (w ∷ xs)))) h = absurd (omega arith)

pub few_for_second : (xs : List Tree) → length xs < 2 → scopes_by opening.Second (trees_of xs) ≡ []
unfolding scopes_by
few_for_second [] h = refl
few_for_second (x ∷ []) h = refl
few_for_second (x ∷ (y ∷ xs)) h = absurd (omega arith)

pub few_for_function : (own : Bool) (xs : List Tree) → length xs < 3 → scopes_by (opening.Function own) (trees_of xs) ≡ []
unfolding scopes_by
few_for_function own [] h = refl
few_for_function own (x ∷ []) h = refl
few_for_function own (x ∷ (y ∷ [])) h = refl
few_for_function own (x ∷ (y ∷ (z ∷ xs))) h = absurd (omega arith)

-- scopes that are these by definition, or these with empty ones after them
last_empty : (ss : List (List Binding)) (k : ℕ) → at_or_empty (ss ++ [] ∷ []) k ≡ at_or_empty ss k
last_empty [] zero = refl
last_empty [] (suc k) = refl
last_empty (s ∷ ss) zero = refl
last_empty (s ∷ ss) (suc k) = last_empty ss k

pub padded : (ss : List (List Binding)) → at_or_empty (ss ++ [] ∷ []) ≡ at_or_empty ss
padded ss = λ i k. last_empty ss k i

pub these_scopes : (p : Opening) (ts : Trees) (ss : List (List Binding)) (r : Result OpenScopes OutOfMemory) → scopes_by p ts ≡ ss → IfOk r (λ o. scope_at o ≡ at_or_empty ss) → IfOk r (λ o. scope_at o ≡ at_or_empty (scopes_by p ts))
these_scopes p ts ss r e h = IfOk-weaker r _ _ (λ o f. f ∙ ap at_or_empty (sym e)) h

pub no_scope : (o : OpenScopes) (p : Opening) (ts : Trees) → scopes_by p ts ≡ [] → scope_at o ≡ at_or_empty [] → scope_at o ≡ at_or_empty (scopes_by p ts)
no_scope o p ts e f = f ∙ ap at_or_empty (sym e)
