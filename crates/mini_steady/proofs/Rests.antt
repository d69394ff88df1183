-- Some nodes by the first and the rest.
use Rattle.std.proofs.Common.{◌≡◌, ◌≤◌, ◌<◌, ◌-◌, List, [], ◌∷◌, length, take, drop, slice_index_or, sym, ap, ◌∙◌, arith}
use Rattle.std.proofs.lemmas.List.{take_rest}
use Rattle.mini_model.specs.Tree.{Tree, Trees, node, ◌▸◌, node_count, node_counts}
use Rattle.mini_node.specs.Children.{trees_of}

abbrev pub rest_of : List Tree → Trees
rest_of xs = trees_of (take (length xs - 1) (drop 1 xs))

pub opened_list : (xs : List Tree) (x : Tree) → 1 ≤ length xs → x ≡ slice_index_or xs 0 x → trees_of xs ≡ x ▸ rest_of xs
opened_list [] x h e = absurd (omega (arith, h))
opened_list (y ∷ ys) x h e = ap (λ z. z ▸ trees_of ys) (sym e) ∙ ap (λ zs. x ▸ trees_of zs) (sym (take_rest (y ∷ ys) 1))

some_nodes : (t : Tree) → 0 < node_count t
some_nodes (node h xs n ts) = omega arith

pub rest_smaller : (xs : List Tree) → 1 ≤ length xs → node_counts (rest_of xs) < node_counts (trees_of xs)
rest_smaller [] e = absurd (omega (arith, e))
rest_smaller (t ∷ ts) e =
    let some = some_nodes t in
    let same = ap (λ zs. node_counts (trees_of zs)) (take_rest (t ∷ ts) 1) in
    omega (arith, some, same)
