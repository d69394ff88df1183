-- The root of a well-shaped tree.
use Rattle.std.proofs.Common.{◌≡◌, ℕ, Bool, true, false, ◌&&◌, List, [], ◌∷◌, refl, ap, ◌∙◌}
use Rattle.std.specs.Prelude.{◌==◌, if◌then◌else◌}
use Rattle.std.proofs.lemmas.Bool.{and_parts, eqb-true}
use Rattle.mini_model.specs.declared.name.Name.{Name}
use Rattle.mini_model.specs.declared.shape.Shape.TheVariants as shape
use Rattle.mini_model.specs.Tree.{Tree, Trees, node, none, ◌▸◌, listed}
use Rattle.mini_accept.specs.WellShaped.{is_whole, has_names, fits, fill, these, each, one, many, filling, class_of, a_program, a_statement, is_strict_in, Depth, in_module, in_body}
use Rattle.mini_accept.specs.Programs.{WellShapedIsProgram}

-- a program has no names
no_names : (m : Bool) (ds : List (List ℕ)) (xs : List Name) → has_names (shape.Program m ds) xs ≡ true → xs ≡ []
no_names m ds [] e = refl
no_names m ds (x ∷ xs) e = absurd (cc e)

-- what fills a list's slot is a list
list_at : (strict : Bool) (d : Depth) (t : Tree) → fits strict (many (a_statement d)) t ≡ true → (ts : Trees) × (t ≡ listed ts)
list_at strict d (node shape.Listed [] n ts) e =
    let (w, f) = and_parts ((n == 0) && true) (fill strict (each (one (a_statement d))) ts) e in
    (ts, ap (λ k. node shape.Listed [] k ts) (eqb-true n 0 (and_parts (n == 0) true w).0))
list_at strict d (node shape.Listed (x ∷ xs) n ts) e = absurd (cc e)
list_at strict d (node h xs n ts) e = absurd (cc (and_parts (is_whole (class_of (many (a_statement d))) h xs n ts) false e).1)

one_list : (strict : Bool) (d : Depth) (ts : Trees) → fill strict (these (many (a_statement d) ∷ [])) ts ≡ true → (us : Trees) × (ts ≡ listed us ▸ none)
one_list strict d none e = absurd (cc e)
one_list strict d (t ▸ none) e =
    let (us, same) = list_at strict d t (and_parts (fits strict (many (a_statement d)) t) true e).0 in
    (us, ap (λ u. u ▸ none) same)
one_list strict d (t ▸ (u ▸ ts)) e = absurd (cc (and_parts (fits strict (many (a_statement d)) t) false e).1)

pub root : WellShapedIsProgram
root (node (shape.Program m ds) xs n ts) e =
    let (w, f) = and_parts (is_whole a_program (shape.Program m ds) xs n ts) (fill (is_strict_in false (shape.Program m ds)) (filling false (one a_program) (shape.Program m ds)) ts) e in
    let names = no_names m ds xs (and_parts (has_names (shape.Program m ds) xs) _ w).0 in
    let (us, same) = one_list (is_strict_in false (shape.Program m ds)) (if m then in_module else in_body) ts f in
    (m, ds, n, us, ap (λ ys. node (shape.Program m ds) ys n ts) names ∙ ap (λ vs. node (shape.Program m ds) [] n vs) same)
root (node h xs n ts) e = absurd (cc (and_parts (is_whole a_program h xs n ts) false e).1)
