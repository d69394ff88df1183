-- What holds a list of statements has one.
use Rattle.std.proofs.Common.{◌≡◌, Bool, true, false, refl, sym, ap, ◌∙◌}
use Rattle.std.specs.Prelude.{◌&&◌, ◌||◌, nat_eq}
use Rattle.std.proofs.lemmas.Bool.{and_parts}
use Rattle.mini_model.specs.Tree.{Tree, shape_of, children, count}
use Rattle.mini_node.specs.Children.{names_of, part, is_bare}
use Rattle.mini_node.specs.Kinds.{is_block, is_block_shape, is_listed}
use Rattle.mini_inside.specs.Holding.{are_statements, are_no_names, is_body_shape, is_arrow_shape, has_statements, is_function_shape, is_function, is_module_shape, is_module, is_static_shape, is_static_block, holds_list, holds_statements}

pub in_block : (t : Tree) → is_block t ≡ true → is_listed (part t 0) ≡ true
in_block t e =
    let (a, b) = and_parts (is_block_shape (shape_of t)) (is_bare t 1 && is_listed (part t 0)) e in
    (and_parts (is_bare t 1) (is_listed (part t 0)) b).1

in_module : (t : Tree) → is_module t ≡ true → is_listed (part t 0) ≡ true
in_module t e =
    let (a, b) = and_parts (is_module_shape (shape_of t)) (is_bare t 1 && is_listed (part t 0)) e in
    (and_parts (is_bare t 1) (is_listed (part t 0)) b).1

in_static : (t : Tree) → is_static_block t ≡ true → is_listed (part t 0) ≡ true
in_static t e =
    let (a, p) = and_parts (is_static_shape (shape_of t)) (are_no_names (names_of t) && (nat_eq (count (children t)) 1 && is_listed (part t 0))) e in
    let (b, q) = and_parts (are_no_names (names_of t)) (nat_eq (count (children t)) 1 && is_listed (part t 0)) p in
    (and_parts (nat_eq (count (children t)) 1) (is_listed (part t 0)) q).1

in_holder : (t : Tree) → holds_list t ≡ true → is_listed (part t 0) ≡ true
in_holder t e = by (is_module t) refl
  where
    by : (b : Bool) → is_module t ≡ b → is_listed (part t 0) ≡ true
    by true m = in_module t m
    by false m = in_static t (sym (ap (λ b. b || is_static_block t) m) ∙ e)

pub in_statements : (t : Tree) → holds_statements t ≡ true → is_listed (part t 0) ≡ true
in_statements t e = by (is_block t) refl
  where
    by : (b : Bool) → is_block t ≡ b → is_listed (part t 0) ≡ true
    by true b = in_block t b
    by false b = in_holder t (sym (ap (λ c. c || holds_list t) b) ∙ e)

in_body : (t : Tree) → are_statements t ≡ true → is_listed (part t 0) ≡ true
in_body t e =
    let (a, b) = and_parts (is_body_shape (shape_of t)) (is_bare t 1 && is_listed (part t 0)) e in
    (and_parts (is_bare t 1) (is_listed (part t 0)) b).1

pub in_arrow : (t : Tree) → has_statements t ≡ true → is_listed (part (part t 1) 0) ≡ true
in_arrow t e =
    let (a, p) = and_parts (is_arrow_shape (shape_of t)) (are_no_names (names_of t) && (nat_eq (count (children t)) 2 && (is_listed (part t 0) && are_statements (part t 1)))) e in
    let (b, q) = and_parts (are_no_names (names_of t)) (nat_eq (count (children t)) 2 && (is_listed (part t 0) && are_statements (part t 1))) p in
    let (c, r) = and_parts (nat_eq (count (children t)) 2) (is_listed (part t 0) && are_statements (part t 1)) q in
    in_body (part t 1) (and_parts (is_listed (part t 0)) (are_statements (part t 1)) r).1

pub in_function : (t : Tree) → is_function t ≡ true → is_listed (part (part t 2) 0) ≡ true
in_function t e =
    let (a, p) = and_parts (is_function_shape (shape_of t)) (are_no_names (names_of t) && (nat_eq (count (children t)) 3 && (is_listed (part t 1) && are_statements (part t 2)))) e in
    let (b, q) = and_parts (are_no_names (names_of t)) (nat_eq (count (children t)) 3 && (is_listed (part t 1) && are_statements (part t 2))) p in
    let (c, r) = and_parts (nat_eq (count (children t)) 3) (is_listed (part t 1) && are_statements (part t 2)) q in
    in_body (part t 2) (and_parts (is_listed (part t 1)) (are_statements (part t 2)) r).1
