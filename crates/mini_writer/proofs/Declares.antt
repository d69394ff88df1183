-- A tree declares at most three symbols for each name that stands in it, and has at most as many references.
use Rattle.std.proofs.Common.{◌≡◌, ℕ, suc, ◌+◌, ◌*◌, ◌≤◌, List, [], ◌∷◌, ◌++◌, length, drop, refl, Bool, true, false, arith, length-append, length-drop}
use Rattle.std.proofs.lemmas.List.{length-map}
use Rattle.std.specs.Prelude.{if◌then◌else◌}
use Rattle.mini_model.specs.declared.kind.VariableDeclarationKind.TheVariants.{Let, Const}
use Rattle.mini_model.specs.declared.name.Name.{Name}
use Rattle.mini_model.specs.declared.shape.Shape.{Shape}
use Rattle.mini_model.specs.declared.shape.Shape.TheVariants as shape
use Rattle.mini_model.specs.Tree.{Tree, node, Trees, none, ◌▸◌}
use Rattle.mini_laws.specs.declared.names.Use.{Use}
use Rattle.mini_laws.specs.declared.names.Binding.{Binding}
use Rattle.mini_laws.specs.declared.names.Declared.{Declared}
use Rattle.mini_laws.specs.declared.names.Declared.TheVariants as declared
use Rattle.mini_laws.specs.declared.names.Opening.{Opening}
use Rattle.mini_laws.specs.declared.names.Opening.TheVariants as opening
use Rattle.mini_laws.specs.declared.names.Place.{Place}
use Rattle.mini_laws.specs.declared.names.Place.TheVariants as place
use Rattle.mini_laws.specs.DeclaredNames.{bound_place, lexical_place, hoisted_place, place_of, names_by, names_of, first_names, all_names, is_statement_list, body_names, all_body_names, bound_names, is_spelled, with_name, with_names}
use Rattle.mini_laws.specs.References.{Reference, own_references, references, references_from}
use Rattle.mini_laws.specs.Resolved.{symbols, symbols_from}
use Rattle.mini_laws.specs.Scopes.{use_of, lexical_scope, body_scope, merged, is_alone, opening_of, name_if, scopes_by, at_or_empty, opened}
use Rattle.mini_writer.proofs.Loads.{name_count, name_counts}

-- ---- references

own_few : (u : Use) (h : Shape) (xs : List Name) → length (own_references u h xs) ≤ length xs
own_few u shape.Identifier xs = omega (arith, length-map {B = Reference} xs (λ x. record { name = x; used = u }))
own_few u h xs = omega arith

mutual
  unfolding references

  pub references_few : (u : Use) (t : Tree) → length (references u t) ≤ name_count t
  references_few u (node h xs n ts) = omega (arith, length-append (own_references u h xs) (references_from (use_of h u) 0 ts), own_few u h xs, references_few_from (use_of h u) 0 ts)

  references_few_from : (uses : ℕ → Use) (i : ℕ) (ts : Trees) → length (references_from uses i ts) ≤ name_counts ts
  references_few_from uses i none = omega arith
  references_few_from uses i (t ▸ ts) = omega (arith, length-append (references (uses i) t) (references_from uses (suc i) ts), references_few (uses i) t, references_few_from uses (suc i) ts)

-- ---- the names that trees declare

abbrev bound_in : Trees → ℕ
bound_in ts = length (all_names declared.Bound ts)

abbrev lexical_in : Trees → ℕ
lexical_in ts = length (all_names declared.Lexical ts)

abbrev hoisted_in : Trees → ℕ
hoisted_in ts = length (all_names declared.Hoisted ts)

abbrev body_in : Trees → ℕ
body_in ts = length (all_body_names ts)

abbrev first_in : Trees → ℕ
first_in ts = length (first_names ts)

first_few : (ts : Trees) → first_in ts ≤ bound_in ts
unfolding names_of
first_few none = omega arith
first_few (t ▸ ts) = omega (arith, length-append (names_of declared.Bound t) (all_names declared.Bound ts))

-- of a node, as they stand in it and its children
abbrev placed : Place → ℕ → ℕ → ℕ → ℕ → ℕ
placed place.Here own first bound below = own
placed place.FirstBound own first bound below = first
placed place.Bound own first bound below = bound
placed place.Below own first bound below = below
placed place.Nowhere own first bound below = 0

by_place : (p : Place) (a b c d : List Name) → length (names_by p a b c d) ≡ placed p (length a) (length b) (length c) (length d)
by_place place.Here a b c d = refl
by_place place.FirstBound a b c d = refl
by_place place.Bound a b c d = refl
by_place place.Below a b c d = refl
by_place place.Nowhere a b c d = refl

names_count : (d : Declared) (h : Shape) (xs : List Name) (n : ℕ) (ts : Trees)
    → length (names_of d (node h xs n ts)) ≡ placed (place_of d h) (length xs) (first_in ts) (bound_in ts) (length (all_names d ts))
unfolding names_of
names_count d h xs n ts = by_place (place_of d h) xs (first_names ts) (all_names declared.Bound ts) (all_names d ts)

none_count : (d : Declared) → length (all_names d none) ≡ 0
unfolding names_of
none_count d = refl

all_count : (d : Declared) (t : Tree) (ts : Trees) → length (all_names d (t ▸ ts)) ≡ length (names_of d t) + length (all_names d ts)
unfolding names_of
all_count d t ts = length-append (names_of d t) (all_names d ts)

-- of the statements of a body
abbrev in_body : Shape → ℕ → ℕ → ℕ → ℕ → ℕ → ℕ → ℕ
in_body h own first bound lexical hoisted body =
    if is_statement_list h then body else placed (lexical_place h) own first bound lexical + placed (hoisted_place h) own first bound hoisted

body_by : (b : Bool) (all ls hs : List Name) → length (if b then all else ls ++ hs) ≡ (if b then length all else length ls + length hs)
body_by true all ls hs = refl
body_by false all ls hs = length-append ls hs

body_count : (h : Shape) (xs : List Name) (n : ℕ) (ts : Trees) → length (body_names (node h xs n ts)) ≡ in_body h (length xs) (first_in ts) (bound_in ts) (lexical_in ts) (hoisted_in ts) (body_in ts)
unfolding body_names
body_count h xs n ts = rw (
  body_by (is_statement_list h) (all_body_names ts) (names_of declared.Lexical (node h xs n ts)) (names_of declared.Hoisted (node h xs n ts)),
  names_count declared.Lexical h xs n ts,
  names_count declared.Hoisted h xs n ts,
) refl

body_none : body_in none ≡ 0
unfolding body_names
body_none = refl

body_all : (t : Tree) (ts : Trees) → body_in (t ▸ ts) ≡ length (body_names t) + body_in ts
unfolding body_names
body_all t ts = length-append (body_names t) (all_body_names ts)

-- a body declares each of them
parts_most : (h : Shape) (own first bound lexical hoisted body : ℕ) → lexical + hoisted ≤ body
    → placed (lexical_place h) own first bound lexical + placed (hoisted_place h) own first bound hoisted ≤ in_body h own first bound lexical hoisted body
parts_most shape.Listed own first bound lexical hoisted body small = small
parts_most shape.FunctionBody own first bound lexical hoisted body small = omega arith
parts_most h own first bound lexical hoisted body small = omega arith

mutual
  body_most : (t : Tree) → length (names_of declared.Lexical t) + length (names_of declared.Hoisted t) ≤ length (body_names t)
  body_most (node h xs n ts) = omega (
    arith,
    names_count declared.Lexical h xs n ts,
    names_count declared.Hoisted h xs n ts,
    body_count h xs n ts,
    parts_most h (length xs) (first_in ts) (bound_in ts) (lexical_in ts) (hoisted_in ts) (body_in ts) (bodies_most ts),
  )

  bodies_most : (ts : Trees) → lexical_in ts + hoisted_in ts ≤ body_in ts
  bodies_most none = omega (arith, none_count declared.Lexical, none_count declared.Hoisted, body_none)
  bodies_most (t ▸ ts) = omega (arith, all_count declared.Lexical t ts, all_count declared.Hoisted t ts, body_all t ts, body_most t, bodies_most ts)

-- ---- scopes

with_one : (b : Bool) (seen : List Name) (x : Name) → length (if b then seen else seen ++ x ∷ []) ≤ length seen + 1
with_one true seen x = omega arith
with_one false seen x = omega (arith, length-append seen (x ∷ []))

with_few : (seen xs : List Name) → length (with_names seen xs) ≤ length seen + length xs
unfolding with_names
with_few seen [] = omega arith
with_few seen (x ∷ xs) = omega (arith, with_few (with_name seen x) xs, with_one (is_spelled x.spelling seen) seen x)

lexical_few : (xs : List Name) → length (lexical_scope xs) ≤ length xs
lexical_few xs = omega (arith, length-map {B = Binding} (with_names [] xs) (λ x. record { name = x; hoists = false }), with_few [] xs)

body_few : (params xs : List Name) → length (body_scope params xs) ≤ length xs
body_few params xs = omega (
  arith,
  length-map {B = Binding} (drop (length params) (with_names params xs)) (λ x. record { name = x; hoists = true }),
  length-drop (length params) (with_names params xs),
  with_few params xs,
)

own_name_few : (b : Bool) (t : Tree) → length (name_if b t) ≤ length (bound_names t)
own_name_few true t = omega arith
own_name_few false t = omega arith

abbrev total : List (List Binding) → ℕ
total [] = 0
total (s ∷ ss) = length s + total ss

-- the names among which those of the scopes are
abbrev room : Opening → ℕ → ℕ → ℕ → ℕ
room opening.Nothing bound lexical body = 0
room opening.Body bound lexical body = body
room (opening.Function own) bound lexical body = bound + body
room opening.Arrow bound lexical body = bound + body
room (opening.Class own inner) bound lexical body = bound
room opening.First bound lexical body = lexical
room opening.Second bound lexical body = lexical
room opening.Bound bound lexical body = bound

opening_few : (o : Opening) (ts : Trees) → total (scopes_by o ts) ≤ room o (bound_in ts) (lexical_in ts) (body_in ts)
unfolding scopes_by
opening_few opening.Body (body ▸ ts) = omega (arith, body_few [] (body_names body), body_all body ts)
opening_few (opening.Function own) (id ▸ params ▸ body ▸ ts) = omega (
  arith,
  lexical_few (name_if own id),
  own_name_few own id,
  body_few [] (bound_names params),
  body_few (merged params) (body_names body),
  all_count declared.Bound id (params ▸ body ▸ ts),
  all_count declared.Bound params (body ▸ ts),
  body_all id (params ▸ body ▸ ts),
  body_all params (body ▸ ts),
  body_all body ts,
)
opening_few opening.Arrow (params ▸ body ▸ ts) = omega (
  arith,
  body_few [] (bound_names params),
  body_few (merged params) (body_names body),
  all_count declared.Bound params (body ▸ ts),
  body_all params (body ▸ ts),
  body_all body ts,
)
opening_few (opening.Class own inner) (id ▸ super_class ▸ body ▸ again ▸ ts) = omega (
  arith,
  lexical_few (name_if own id),
  own_name_few own id,
  lexical_few (name_if inner again),
  own_name_few inner again,
  all_count declared.Bound id (super_class ▸ body ▸ again ▸ ts),
  all_count declared.Bound super_class (body ▸ again ▸ ts),
  all_count declared.Bound body (again ▸ ts),
  all_count declared.Bound again ts,
)
opening_few opening.First (t ▸ ts) = omega (arith, lexical_few (names_of declared.Lexical t), all_count declared.Lexical t ts)
opening_few opening.Second (a ▸ b ▸ ts) = omega (arith, lexical_few (names_of declared.Lexical b), all_count declared.Lexical a (b ▸ ts), all_count declared.Lexical b ts)
opening_few opening.Bound (t ▸ ts) = omega (arith, lexical_few (bound_names t), all_count declared.Bound t ts)
opening_few o ts = omega arith

-- ---- nodes

alone_few : (b : Bool) (bound lexical body : ℕ) → room (if b then opening.Bound else opening.Nothing) bound lexical body ≤ bound
alone_few true bound lexical body = omega arith
alone_few false bound lexical body = omega arith

-- what a node declares and what it opens scopes for, against what is declared in its children: each name is bound by one
-- declaration, and declared by it at most twice beside the scope of its own that it may have
shape_few : (u : Use) (h : Shape) (own first bound lexical hoisted body : ℕ) → first ≤ bound → lexical + hoisted ≤ body
    → room (opening_of u h) bound lexical body + 3 * placed (bound_place h) own first bound bound + placed (lexical_place h) own first bound lexical + in_body h own first bound lexical hoisted body
    ≤ 3 * own + 3 * bound + lexical + body
shape_few u (shape.VariableDeclaration Let) own first bound lexical hoisted body small parts = omega (arith, alone_few (is_alone u) bound lexical body)
shape_few u (shape.VariableDeclaration Const) own first bound lexical hoisted body small parts = omega (arith, alone_few (is_alone u) bound lexical body)
shape_few u (shape.Function true g ds) own first bound lexical hoisted body small parts = omega arith
shape_few u (shape.Class true) own first bound lexical hoisted body small parts = omega arith
shape_few u h own first bound lexical hoisted body small parts = omega arith

abbrev declares : Tree → ℕ
declares t = 3 * length (bound_names t) + length (names_of declared.Lexical t) + length (body_names t)

abbrev all_declare : Trees → ℕ
all_declare ts = 3 * bound_in ts + lexical_in ts + body_in ts

all_both : (t : Tree) (ts : Trees) → all_declare (t ▸ ts) ≡ declares t + all_declare ts
all_both t ts = omega (arith, all_count declared.Bound t ts, all_count declared.Lexical t ts, body_all t ts)

abbrev rest : List (List Binding) → List (List Binding)
rest [] = []
rest (s ∷ ss) = ss

rest_at : (ss : List (List Binding)) (j : ℕ) → at_or_empty ss (suc j) ≡ at_or_empty (rest ss) j
rest_at [] j = refl
rest_at (s ∷ ss) j = refl

first_scope : (scope : ℕ → List Binding) (i : ℕ) (ss : List (List Binding)) → ((j : ℕ) → scope (i + j) ≡ at_or_empty ss j) → length (scope i) + total (rest ss) ≡ total ss
first_scope scope i [] there = let same : i ≡ i + 0 = omega arith in rw (same, there 0) refl
first_scope scope i (s ∷ ss) there = let same : i ≡ i + 0 = omega arith in rw (same, there 0) refl

later : (scope : ℕ → List Binding) (i : ℕ) (ss : List (List Binding)) → ((j : ℕ) → scope (i + j) ≡ at_or_empty ss j) → (j : ℕ) → scope (suc i + j) ≡ at_or_empty (rest ss) j
later scope i ss there j = let same : suc i + j ≡ i + suc j = omega arith in rw (same, there (suc j)) (rest_at ss j)

mutual
  unfolding symbols

  few : (u : Use) (t : Tree) → symbols u t + declares t ≤ 3 * name_count t
  few u (node h xs n ts) = omega (
    arith,
    few_from (opened u h ts) (use_of h u) 0 (scopes_by (opening_of u h) ts) ts (λ j. let same : 0 + j ≡ j = omega arith in rw same refl),
    opening_few (opening_of u h) ts,
    shape_few u h (length xs) (first_in ts) (bound_in ts) (lexical_in ts) (hoisted_in ts) (body_in ts) (first_few ts) (bodies_most ts),
    names_count declared.Bound h xs n ts,
    names_count declared.Lexical h xs n ts,
    body_count h xs n ts,
  )

  -- the scopes from an index on are these
  few_from : (scope : ℕ → List Binding) (uses : ℕ → Use) (i : ℕ) (ss : List (List Binding)) (ts : Trees) → ((j : ℕ) → scope (i + j) ≡ at_or_empty ss j)
      → symbols_from scope uses i ts + all_declare ts ≤ total ss + 3 * name_counts ts
  few_from scope uses i ss none there = omega (arith, none_count declared.Bound, none_count declared.Lexical, body_none)
  few_from scope uses i ss (t ▸ ts) there = omega (arith, first_scope scope i ss there, few (uses i) t, few_from scope uses (suc i) (rest ss) ts (later scope i ss there), all_both t ts)

pub symbols_few : (u : Use) (t : Tree) → symbols u t ≤ 3 * name_count t
symbols_few u t = omega (arith, few u t)
