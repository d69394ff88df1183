-- Where an `arguments` is named.
use Rattle.std.specs.Prelude.{ℕ, suc, ◌+◌, ◌≡◌, ◌≤◌, ◌<◌, refl, Bool, true, false, not, ◌&&◌, ◌||◌, List, [], ◌∷◌, length, slice_index_or, if◌then◌else◌}
use Rattle.std.proofs.Common.{ap, ◌∙◌, arith, sym, add-one, subst}
use Rattle.mini_model.specs.declared.shape.Shape.{Shape}
use Rattle.mini_model.specs.declared.shape.Shape.TheVariants as shape
use Rattle.mini_model.specs.Tree.{Tree, Trees, node, none, ◌▸◌, count, child_or_absent, shape_of, children}
use Rattle.mini_node.specs.Children.{rest_children, names_of, trees_of}
use Rattle.mini_node.specs.Walks.{next_child, no_rest, from_first}
use Rattle.mini_laws.specs.Shared.{names_arguments, any_names_arguments, is_arguments, is_name_of_variable, is_of_function, reached_params}
use Rattle.mini_laws.specs.DeclaredNames.{bound_names}
use Rattle.mini_laws.specs.Early.{is_function_shape}
use Rattle.mini_laws.specs.Strict.{is_strict_in}
use Rattle.mini_context.specs.Tables.{Marked}
use Rattle.mini_context.proofs.Marking.{marks_add}

any_more : (f : ℕ → Bool) (i : ℕ) (t : Tree) (ts : Trees) → any_names_arguments f i (t ▸ ts) ≡ ((f i && names_arguments t) || any_names_arguments f (suc i) ts)
unfolding names_arguments
any_more f i t ts = refl

pub begins : (f : ℕ → Bool) (ts : Trees) → any_names_arguments f 0 ts ≡ any_names_arguments f 0 (rest_children 0 ts)
begins f ts = ap (any_names_arguments f 0) (sym (from_first ts))

pub step : (f : ℕ → Bool) (ts : Trees) (i : ℕ) (t : Tree) → i < count ts → t ≡ child_or_absent ts i → any_names_arguments f i (rest_children i ts) ≡ ((f i && names_arguments t) || any_names_arguments f (i + 1) (rest_children (i + 1) ts))
step f ts i t h e =
    ap (any_names_arguments f i) (next_child ts i h) ∙ any_more f i (child_or_absent ts i) (rest_children (suc i) ts)
    ∙ ap (λ u. (f i && names_arguments u) || any_names_arguments f (suc i) (rest_children (suc i) ts)) (sym e)
    ∙ ap (λ k. (f i && names_arguments t) || any_names_arguments f k (rest_children k ts)) (sym (add-one i))

pub ends : (f : ℕ → Bool) (ts : Trees) (i : ℕ) → count ts ≤ i → any_names_arguments f i (rest_children i ts) ≡ false
unfolding names_arguments
ends f ts i h = ap (any_names_arguments f i) (no_rest ts i h)

opened : (n : Tree) → names_arguments n ≡ ((is_name_of_variable (shape_of n) && is_arguments (names_of n)) || any_names_arguments (is_of_function (shape_of n)) 0 (children n))
unfolding names_arguments
opened (node h xs m ts) = refl

pub own_first : (n : Tree) (v b : Bool) → v ≡ (is_name_of_variable (shape_of n) && is_arguments (names_of n)) → v ≡ b → names_arguments n ≡ (b || any_names_arguments (is_of_function (shape_of n)) 0 (children n))
own_first n v b e f = opened n ∙ ap (λ w. w || any_names_arguments (is_of_function (shape_of n)) 0 (children n)) (sym e ∙ f)

-- what is reached of a function's parameters
reached_third : (strict : Bool) (h : Shape) (x y z : Tree) (ts : Trees) → reached_params strict h (x ▸ (y ▸ (z ▸ ts))) ≡ (if (is_function_shape h && not strict) && (names_arguments y || names_arguments z) then bound_names y else [])
reached_third strict (shape.Function d g ds) x y z ts = refl
reached_third strict h x y z ts = refl

reached : (strict : Bool) (h : Shape) (xs : List Tree) (p q : Tree) → 3 ≤ length xs → p ≡ slice_index_or xs 1 p → q ≡ slice_index_or xs 2 q → reached_params strict h (trees_of xs) ≡ (if (is_function_shape h && not strict) && (names_arguments p || names_arguments q) then bound_names p else [])
reached strict h [] p q l e f = absurd (omega arith)
reached strict h (x ∷ []) p q l e f = absurd (omega arith)
reached strict h (x ∷ (y ∷ [])) p q l e f = absurd (omega arith)
reached strict h (x ∷ (y ∷ (z ∷ xs))) p q l e f = reached_third strict h x y z (trees_of xs) ∙ ap (λ r. if (is_function_shape h && not strict) && (names_arguments r || names_arguments z) then bound_names r else []) (sym e) ∙ ap (λ r. if (is_function_shape h && not strict) && (names_arguments p || names_arguments r) then bound_names p else []) (sym f)

few : (b : Bool) (h : Shape) (xs : List Tree) → length xs < 3 → reached_params b h (trees_of xs) ≡ []
few b (shape.Function d g ds) [] e = refl
few b (shape.Function d g ds) (x ∷ []) e = refl
few b (shape.Function d g ds) (x ∷ (y ∷ [])) e = refl
few b (shape.Function d g ds) (x ∷ (y ∷ (z ∷ xs))) e = absurd (omega arith)
few b h xs e = refl

pub few_reached : (b : Bool) (n : Tree) (xs : List Tree) (marks : List Bool) → trees_of xs ≡ children n → length xs < 3 → Marked (reached_params b (shape_of n) (children n)) marks marks
few_reached b n xs marks e h = subst (λ ns. Marked ns marks marks) (sym (ap (reached_params b (shape_of n)) (sym e) ∙ few b (shape_of n) xs h)) (marks_add.nothing marks)

-- no sloppy function
none_reached : (strict : Bool) (h : Shape) (ts : Trees) → (is_function_shape h && not strict) ≡ false → reached_params strict h ts ≡ []
none_reached strict (shape.Function d g ds) none e = refl
none_reached strict (shape.Function d g ds) (x ▸ none) e = refl
none_reached strict (shape.Function d g ds) (x ▸ (y ▸ none)) e = refl
none_reached strict (shape.Function d g ds) (x ▸ (y ▸ (z ▸ ts))) e = ap (λ v. if v && (names_arguments y || names_arguments z) then bound_names y else []) e
none_reached strict h ts e = refl

pub other_reached : (strict : Bool) (n : Tree) (h : Shape) (v : Bool) (marks : List Bool) → h ≡ shape_of n → v ≡ (is_function_shape h && not (is_strict_in strict h)) → v ≡ false → Marked (reached_params (is_strict_in strict (shape_of n)) (shape_of n) (children n)) marks marks
other_reached strict n h v marks e f g =
    let k = shape_of n in
    subst (λ ns. Marked ns marks marks) (sym (none_reached (is_strict_in strict k) k (children n) (ap (λ r. is_function_shape r && not (is_strict_in strict r)) (sym e) ∙ sym f ∙ g))) (marks_add.nothing marks)

-- a sloppy function
pub own_reached : (strict : Bool) (n : Tree) (h : Shape) (v w : Bool) (xs : List Tree) (p q : Tree) (old new : List Bool) →
    h ≡ shape_of n → v ≡ (is_function_shape h && not (is_strict_in strict h)) → v ≡ true → trees_of xs ≡ children n → 3 ≤ length xs → p ≡ slice_index_or xs 1 p → q ≡ slice_index_or xs 2 q →
    w ≡ (names_arguments p || names_arguments q) → Marked (if w then bound_names p else []) old new → Marked (reached_params (is_strict_in strict (shape_of n)) (shape_of n) (children n)) old new
own_reached strict n h v w xs p q old new e f g i l j k o m =
    let r = shape_of n in
    let sloppy : (is_function_shape r && not (is_strict_in strict r)) ≡ true = ap (λ s. is_function_shape s && not (is_strict_in strict s)) (sym e) ∙ sym f ∙ g in
    subst (λ ns. Marked ns old new) (sym (ap (reached_params (is_strict_in strict r) r) (sym i) ∙ reached (is_strict_in strict r) r xs p q l j k ∙ ap (λ s. if s && (names_arguments p || names_arguments q) then bound_names p else []) sloppy ∙ ap (λ s. if s then bound_names p else []) (sym o))) m
