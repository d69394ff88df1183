-- Lists of what is written, item by item.
use Rattle.std.proofs.Common.{◌≡◌, ℕ, zero, suc, ◌+◌, ◌<◌, ◌≤◌, List, [], ◌∷◌, ◌++◌, length, get_or, drop, drop-cons, add-one, refl, ap, sym, ◌∙◌, arith}
use Rattle.std.proofs.lemmas.List.{drop_all}
use Rattle.serde_json.specs.Data.{Items, no_items, item}
use Rattle.serde_json.specs.View.{view, items_view}
use Rattle.serde_json.specs.declared.value.Value.{Value}
use Rattle.mini_model.specs.Texts.{bytes_of}
use Rattle.mini_model.specs.declared.name.Name.{Name}
use Rattle.mini_model.specs.declared.shape.Shape.{Shape}
use Rattle.mini_model.specs.Tree.{Tree, node, children, shape_of, node_count, node_counts}
use Rattle.mini_node.specs.Children.{names_of, trees_of}
use Rattle.mini_writer.specs.Objects.{directive}
use Rattle.mini_writer.specs.Written.{node_data, tree_data, trees_data, with_directives}

-- what was written of the items before
pub with_values : List Value → Items → Items
with_values [] ds = ds
with_values (v ∷ vs) ds = item (view v) (with_values vs ds)

with_values_push : (vs : List Value) (v : Value) (ds : Items) → with_values (vs ++ v ∷ []) ds ≡ with_values vs (item (view v) ds)
unfolding with_values
with_values_push [] v ds = refl
with_values_push (w ∷ vs) v ds = ap (item (view w)) (with_values_push vs v ds)

with_values_none : (vs : List Value) → with_values vs no_items ≡ items_view vs
unfolding with_values
with_values_none [] = refl
with_values_none (v ∷ vs) = ap (item (view v)) (with_values_none vs)

-- before the first item
pub items_begin : (vs : List Value) (ds : Items) → vs ≡ [] → with_values vs ds ≡ ds
unfolding with_values
items_begin vs ds e = rw e refl

-- a node more
pub item_step : (vs vs' : List Value) (v : Value) (xs : List Tree) (i : ℕ) (x : Tree) (whole : Items) → with_values vs (trees_data (trees_of (drop i xs))) ≡ whole → i < length xs → x ≡ get_or xs i x → view v ≡ tree_data x → vs' ≡ vs ++ v ∷ []
    → with_values vs' (trees_data (trees_of (drop (i + 1) xs))) ≡ whole
item_step vs vs' v xs i x whole before h is says new =
    let front : drop i xs ≡ x ∷ drop (i + 1) xs = rw (add-one, drop-cons xs i x, ← is) refl in
    let here : with_values vs' (trees_data (trees_of (drop (i + 1) xs))) ≡ with_values vs (trees_data (trees_of (drop i xs))) = rw (new, with_values_push, front) (ap (λ d. with_values vs (item d (trees_data (trees_of (drop (i + 1) xs))))) says) in
    here ∙ before

-- behind the last one
pub items_end : (vs : List Value) (xs : List Tree) (i : ℕ) (whole : Items) → length xs ≤ i → with_values vs (trees_data (trees_of (drop i xs))) ≡ whole → items_view vs ≡ whole
items_end vs xs i whole h e =
    let over : drop i xs ≡ [] = drop_all i xs h in
    sym (with_values_none vs) ∙ (sym (ap (λ ys. with_values vs (trees_data (trees_of ys))) over) ∙ e)

told : (t : Tree) → node_data (shape_of t) (names_of t) (trees_data (children t)) ≡ tree_data t
told (node h xs n ts) = refl

-- a node, of its shape, its names and what its children are written as
pub written_node : (t : Tree) (h : Shape) (xs : List Name) (ds : Items) → h ≡ shape_of t → xs ≡ names_of t → ds ≡ trees_data (children t) → node_data h xs ds ≡ tree_data t
written_node t h xs ds hh hx hd = rw (hh, hx, hd) (told t)

-- ---- directives before statements

pub directive_step : (vs vs' : List Value) (v : Value) (ss : List (List ℕ)) (i : ℕ) (s : List ℕ) (ds whole : Items) → with_values vs (with_directives (drop i ss) ds) ≡ whole → i < length ss → s ≡ get_or ss i s → view v ≡ directive (bytes_of s) → vs' ≡ vs ++ v ∷ []
    → with_values vs' (with_directives (drop (i + 1) ss) ds) ≡ whole
directive_step vs vs' v ss i s ds whole before h is says new =
    let front : drop i ss ≡ s ∷ drop (i + 1) ss = rw (add-one, drop-cons ss i s, ← is) refl in
    let here : with_values vs' (with_directives (drop (i + 1) ss) ds) ≡ with_values vs (with_directives (drop i ss) ds) = rw (new, with_values_push, front) (ap (λ d. with_values vs (item d (with_directives (drop (i + 1) ss) ds))) says) in
    here ∙ before

with_values_append : (vs ws : List Value) → items_view (vs ++ ws) ≡ with_values vs (items_view ws)
unfolding with_values
with_values_append [] ws = refl
with_values_append (v ∷ vs) ws = ap (item (view v)) (with_values_append vs ws)

-- the statements behind the last directive
pub behind_end : (vs ws vs' : List Value) (ss : List (List ℕ)) (i : ℕ) (whole : Items) → length ss ≤ i → with_values vs (with_directives (drop i ss) (items_view ws)) ≡ whole → vs' ≡ vs ++ ws → items_view vs' ≡ whole
behind_end vs ws vs' ss i whole h e new =
    let over : drop i ss ≡ [] = drop_all i ss h in
    rw new (with_values_append vs ws ∙ (sym (ap (λ ys. with_values vs (with_directives ys (items_view ws))) over) ∙ e))

-- ---- sizes

pub node_within : (xs : List Tree) (i : ℕ) (x : Tree) → i < length xs → x ≡ get_or xs i x → node_count x ≤ node_counts (trees_of xs)
node_within [] i x h is = absurd (omega (arith, h))
node_within (y ∷ ys) zero x h is = rw is (omega arith)
node_within (y ∷ ys) (suc i) x h is = let less : i < length ys = omega (arith, h) in omega (arith, node_within ys i x less is)
