-- The `var` names that are left of what goes.
use Rattle.std.specs.Prelude.{◌≡◌, refl, ◌&&◌, ◌||◌, Bool, true, false, List, [], ◌∷◌, ◌++◌, Contains}
use Rattle.std.proofs.Common.{◌<◌, ap, ◌∙◌, sym, subst, inl, inr, ◌⊎◌, true≢false, arith}
use Rattle.std.proofs.lemmas.Bool.{and_parts}
use Rattle.std.proofs.lemmas.List.Elements.{Contains-append_left, Contains-append_right, Contains-append_cases}
use Rattle.mini_model.specs.declared.kind.VariableDeclarationKind.TheVariants.{Var}
use Rattle.mini_model.specs.declared.name.Name.{Name}
use Rattle.mini_model.specs.declared.shape.Shape.{Shape}
use Rattle.mini_model.specs.declared.shape.Shape.TheVariants as shape
use Rattle.mini_model.specs.Tree.{Tree, Trees, node, none, ◌▸◌}
use Rattle.mini_accept.specs.WellShaped.{Slot, is_name, has_names, is_quasi, are_quasis, Tagging, Filling, refused, these, each, each_or_last, pieces, is_whole, class_of, is_last, is_strict_in, filling, fits, fill}
use Rattle.mini_laws.specs.declared.names.Declared.{Declared}
use Rattle.mini_laws.specs.declared.names.Declared.TheVariants as declared
use Rattle.mini_laws.specs.declared.names.Place.{Place}
use Rattle.mini_laws.specs.declared.names.Place.TheVariants as place
use Rattle.mini_laws.specs.DeclaredNames.{place_of, names_by, names_of, first_names, all_names}
use Rattle.mini_kept.specs.Declaring.{declared as names_declared, declared_all}
use Rattle.mini_kept.proofs.Bools.{left}
use Rattle.mini_rows.specs.Lists.{is_declarator_shape}

-- ---- what a tree declares it declares by binding identifiers

none_in : {A : Type 0} {x : A} → Contains [] x → ⊥
none_in c = let none : c.0 < 0 = c.1 in omega (arith, none)

either_in : (xs ys zs ws : List Name) (x : Name) → (Contains xs x → Contains zs x) → (Contains ys x → Contains ws x) → Contains (xs ++ ys) x → Contains (zs ++ ws) x
either_in xs ys zs ws x f g c = by (Contains-append_cases xs ys x c)
  where
    by : Contains xs x ⊎ Contains ys x → Contains (zs ++ ws) x
    by (inl b) = Contains-append_left zs ws x (f b)
    by (inr b) = Contains-append_right zs ws x (g b)

mutual
  unfolding names_of

  bound_there : (t : Tree) (x : Name) → Contains (names_of declared.Bound t) x → Contains (names_declared t) x
  bound_there (node shape.BindingIdentifier xs n ts) x c = Contains-append_left xs (declared_all ts) x c
  bound_there (node shape.VariableDeclarator xs n ts) x c = first_there ts x c
  bound_there (node shape.Listed xs n ts) x c = all_bound_there ts x c
  bound_there (node shape.ObjectPattern xs n ts) x c = all_bound_there ts x c
  bound_there (node shape.ArrayPattern xs n ts) x c = all_bound_there ts x c
  bound_there (node (shape.BindingProperty shorthand computed) xs n ts) x c = all_bound_there ts x c
  bound_there (node shape.RestElement xs n ts) x c = all_bound_there ts x c
  bound_there (node shape.AssignmentPattern xs n ts) x c = all_bound_there ts x c
  bound_there (node shape.ImportSpecifier xs n ts) x c = all_bound_there ts x c
  bound_there (node shape.ImportDefaultSpecifier xs n ts) x c = all_bound_there ts x c
  bound_there (node shape.ImportNamespaceSpecifier xs n ts) x c = all_bound_there ts x c
  bound_there (node h xs n ts) x c = absurd (none_in c)

  first_there : (ts : Trees) (x : Name) → Contains (first_names ts) x → Contains (declared_all ts) x
  first_there none x c = c
  first_there (t ▸ ts) x c = Contains-append_left (names_declared t) (declared_all ts) x (bound_there t x c)

  all_bound_there : (ts : Trees) (x : Name) → Contains (all_names declared.Bound ts) x → Contains (declared_all ts) x
  all_bound_there none x c = c
  all_bound_there (t ▸ ts) x c = either_in (names_of declared.Bound t) (all_names declared.Bound ts) (names_declared t) (declared_all ts) x (bound_there t x) (all_bound_there ts x) c

mutual
  unfolding names_of

  pub hoisted_there : (t : Tree) (x : Name) → Contains (names_of declared.Hoisted t) x → Contains (names_declared t) x
  hoisted_there (node (shape.VariableDeclaration Var) xs n ts) x c = all_bound_there ts x c
  hoisted_there (node shape.Listed xs n ts) x c = all_hoisted_there ts x c
  hoisted_there (node shape.BlockStatement xs n ts) x c = all_hoisted_there ts x c
  hoisted_there (node shape.IfStatement xs n ts) x c = all_hoisted_there ts x c
  hoisted_there (node shape.WhileStatement xs n ts) x c = all_hoisted_there ts x c
  hoisted_there (node shape.DoWhileStatement xs n ts) x c = all_hoisted_there ts x c
  hoisted_there (node shape.ForStatement xs n ts) x c = all_hoisted_there ts x c
  hoisted_there (node shape.ForInStatement xs n ts) x c = all_hoisted_there ts x c
  hoisted_there (node shape.ForOfStatement xs n ts) x c = all_hoisted_there ts x c
  hoisted_there (node shape.LabeledStatement xs n ts) x c = all_hoisted_there ts x c
  hoisted_there (node shape.SwitchStatement xs n ts) x c = all_hoisted_there ts x c
  hoisted_there (node shape.SwitchCase xs n ts) x c = all_hoisted_there ts x c
  hoisted_there (node shape.TryStatement xs n ts) x c = all_hoisted_there ts x c
  hoisted_there (node shape.CatchClause xs n ts) x c = all_hoisted_there ts x c
  hoisted_there (node shape.FunctionBody xs n ts) x c = all_hoisted_there ts x c
  hoisted_there (node shape.ExportNamedDeclaration xs n ts) x c = all_hoisted_there ts x c
  hoisted_there (node h xs n ts) x c = absurd (none_in c)

  all_hoisted_there : (ts : Trees) (x : Name) → Contains (all_names declared.Hoisted ts) x → Contains (declared_all ts) x
  all_hoisted_there none x c = c
  all_hoisted_there (t ▸ ts) x c = either_in (names_of declared.Hoisted t) (all_names declared.Hoisted ts) (names_declared t) (declared_all ts) x (hoisted_there t x) (all_hoisted_there ts x) c

-- ---- and each is a name where the tree fits

abbrev pub AllNamed : List Name → Type 0
AllNamed [] = Unit {0}
AllNamed (x ∷ xs) = (is_name x.spelling ≡ true) × AllNamed xs

both_named : (xs ys : List Name) → AllNamed xs → AllNamed ys → AllNamed (xs ++ ys)
both_named [] ys a b = b
both_named (x ∷ xs) ys a b = (a.0, both_named xs ys a.1 b)

-- but a declarator's own, which isn't declared by it
own_named : (h : Shape) (xs : List Name) → is_declarator_shape h ≡ false → has_names h xs ≡ true → AllNamed xs
own_named shape.Identifier (x ∷ []) d e = (e, tt)
own_named shape.BindingIdentifier (x ∷ []) d e = (e, tt)
own_named shape.VariableDeclarator xs d e = absurd (cc d)
own_named h [] d e = tt
own_named h (x ∷ xs) d e = absurd (cc e)

by_named : (k : Place) (own first bound below : List Name) → AllNamed own → AllNamed first → AllNamed bound → AllNamed below → AllNamed (names_by k own first bound below)
by_named place.Here own first bound below a b c d = a
by_named place.FirstBound own first bound below a b c d = b
by_named place.Bound own first bound below a b c d = c
by_named place.Below own first bound below a b c d = d
by_named place.Nowhere own first bound below a b c d = tt

-- the names of a declarator are those that its parts declare
names_beside : (d : Declared) (xs first bound below : List Name) → names_by (place_of d shape.VariableDeclarator) xs first bound below ≡ names_by (place_of d shape.VariableDeclarator) [] first bound below
names_beside declared.Bound xs first bound below = refl
names_beside declared.Lexical xs first bound below = refl
names_beside declared.Hoisted xs first bound below = refl

node_named : (d : Declared) (h : Shape) (xs first bound below : List Name) → has_names h xs ≡ true → AllNamed first → AllNamed bound → AllNamed below → AllNamed (names_by (place_of d h) xs first bound below)
node_named d h xs first bound below e f g k = by (is_declarator_shape h) refl
  where
    declarator : (h : Shape) → is_declarator_shape h ≡ true → AllNamed (names_by (place_of d h) xs first bound below)
    declarator shape.VariableDeclarator c = subst AllNamed (sym (names_beside d xs first bound below)) (by_named (place_of d shape.VariableDeclarator) [] first bound below tt f g k)
    declarator h c = absurd (cc c)

    by : (b : Bool) → is_declarator_shape h ≡ b → AllNamed (names_by (place_of d h) xs first bound below)
    by true c = declarator h c
    by false c = by_named (place_of d h) xs first bound below (own_named h xs c e) f g k

no_names : (k : Place) → names_by k [] [] [] [] ≡ []
no_names place.Here = refl
no_names place.FirstBound = refl
no_names place.Bound = refl
no_names place.Below = refl
no_names place.Nowhere = refl

quasi_named : (d : Declared) (g : Tagging) (last : Bool) (t : Tree) → is_quasi g last t ≡ true → names_of d t ≡ []
unfolding names_of
quasi_named d g last (node h [] n none) e = no_names (place_of d h)
quasi_named d g last (node h (x ∷ xs) n ts) e = absurd (true≢false (sym e))
quasi_named d g last (node h [] n (t ▸ ts)) e = absurd (true≢false (sym e))

quasis_named : (d : Declared) (g : Tagging) (ts : Trees) → are_quasis g ts ≡ true → all_names d ts ≡ []
unfolding names_of
quasis_named d g none e = refl
quasis_named d g (t ▸ none) e = ap (λ r. r ++ []) (quasi_named d g true t e)
quasis_named d g (t ▸ (u ▸ ts)) e =
    let (first, rest) = and_parts (is_quasi g false t) (are_quasis g (u ▸ ts)) e in
    ap (λ r. r ++ all_names d (u ▸ ts)) (quasi_named d g false t first) ∙ quasis_named d g (u ▸ ts) rest

first_quasi : (g : Tagging) (ts : Trees) → are_quasis g ts ≡ true → first_names ts ≡ []
unfolding names_of
first_quasi g none e = refl
first_quasi g (t ▸ none) e = quasi_named declared.Bound g true t e
first_quasi g (t ▸ (u ▸ ts)) e = quasi_named declared.Bound g false t (and_parts (is_quasi g false t) (are_quasis g (u ▸ ts)) e).0

none_named : (xs : List Name) → xs ≡ [] → AllNamed xs
none_named xs e = subst AllNamed (sym e) tt

either_of : {P : Type 0} (x b y : Bool) → (x || (b && y)) ≡ true → (x ≡ true → P) → (y ≡ true → P) → P
either_of true b y e f g = f refl
either_of false true true e f g = g refl
either_of false true false e f g = absurd (true≢false (sym e))
either_of false false y e f g = absurd (true≢false (sym e))

mutual
  unfolding names_of

  pub names_named : (d : Declared) (strict : Bool) (s : Slot) (t : Tree) → fits strict s t ≡ true → AllNamed (names_of d t)
  names_named d strict s (node h xs n ts) e =
      let (whole, below) = and_parts (is_whole (class_of s) h xs n ts) (fill (is_strict_in strict h) (filling strict s h) ts) e in
      let f = filling strict s h in
      let inner = is_strict_in strict h in
      node_named d h xs (first_names ts) (all_names declared.Bound ts) (all_names d ts) (left (has_names h xs) _ whole) (first_named inner f ts below) (all_named declared.Bound inner f ts below) (all_named d inner f ts below)

  first_named : (strict : Bool) (f : Filling) (ts : Trees) → fill strict f ts ≡ true → AllNamed (first_names ts)
  first_named strict f none e = tt
  first_named strict refused (t ▸ ts) e = absurd (true≢false (sym e))
  first_named strict (these []) (t ▸ ts) e = absurd (true≢false (sym e))
  first_named strict (these (s ∷ ss)) (t ▸ ts) e = names_named declared.Bound strict s t (left (fits strict s t) (fill strict (these ss) ts) e)
  first_named strict (each s) (t ▸ ts) e = names_named declared.Bound strict s t (left (fits strict s t) (fill strict (each s) ts) e)
  first_named strict (each_or_last s l) (t ▸ ts) e = either_of (fits strict s t) (is_last ts) (fits strict l t) (left (fits strict s t || (is_last ts && fits strict l t)) (fill strict (each_or_last s l) ts) e) (names_named declared.Bound strict s t) (names_named declared.Bound strict l t)
  first_named strict (pieces g) (t ▸ ts) e = none_named (names_of declared.Bound t) (first_quasi g (t ▸ ts) e)

  all_named : (d : Declared) (strict : Bool) (f : Filling) (ts : Trees) → fill strict f ts ≡ true → AllNamed (all_names d ts)
  all_named d strict f none e = tt
  all_named d strict refused (t ▸ ts) e = absurd (true≢false (sym e))
  all_named d strict (these []) (t ▸ ts) e = absurd (true≢false (sym e))
  all_named d strict (these (s ∷ ss)) (t ▸ ts) e =
      let (first, rest) = and_parts (fits strict s t) (fill strict (these ss) ts) e in
      both_named (names_of d t) (all_names d ts) (names_named d strict s t first) (all_named d strict (these ss) ts rest)
  all_named d strict (each s) (t ▸ ts) e =
      let (first, rest) = and_parts (fits strict s t) (fill strict (each s) ts) e in
      both_named (names_of d t) (all_names d ts) (names_named d strict s t first) (all_named d strict (each s) ts rest)
  all_named d strict (each_or_last s l) (t ▸ ts) e =
      let (first, rest) = and_parts (fits strict s t || (is_last ts && fits strict l t)) (fill strict (each_or_last s l) ts) e in
      both_named (names_of d t) (all_names d ts) (either_of (fits strict s t) (is_last ts) (fits strict l t) first (names_named d strict s t) (names_named d strict l t)) (all_named d strict (each_or_last s l) ts rest)
  all_named d strict (pieces g) (t ▸ ts) e = none_named (all_names d (t ▸ ts)) (quasis_named d g (t ▸ ts) e)
