-- In a tree in which no name is bound as a symbol, no scope declares it: neither do the names that
-- its nodes declare have it, nor those of the scopes that they open.
use Rattle.std.specs.Prelude.{ℕ, zero, suc, ◌≡◌, refl, Bool, true, false, List, [], ◌∷◌, ◌++◌, length, drop, map, if◌then◌else◌}
use Rattle.std.proofs.Common.{sym, true≢false}
use Rattle.mini_model.specs.declared.kind.VariableDeclarationKind.TheVariants.{Var}
use Rattle.mini_model.specs.declared.name.Name.{Name}
use Rattle.mini_model.specs.declared.shape.Shape.{Shape}
use Rattle.mini_model.specs.declared.shape.Shape.TheVariants as shape
use Rattle.mini_model.specs.Tree.{Tree, Trees, node, none, ◌▸◌}
use Rattle.mini_laws.specs.declared.names.Use.{Use}
use Rattle.mini_laws.specs.declared.names.Declared.{Declared}
use Rattle.mini_laws.specs.declared.names.Declared.TheVariants as declared
use Rattle.mini_laws.specs.declared.names.Opening.{Opening}
use Rattle.mini_laws.specs.declared.names.Opening.TheVariants as opening
use Rattle.mini_laws.specs.declared.names.Place.{Place}
use Rattle.mini_laws.specs.declared.names.Place.TheVariants as place
use Rattle.mini_laws.specs.DeclaredNames.{place_of, names_by, names_of, first_names, all_names, is_statement_list, body_names, all_body_names, bound_names, has_inner, is_spelled, with_name, with_names}
use Rattle.mini_laws.specs.Mentions.{same_variable}
use Rattle.mini_laws.specs.ScopeList.{names_in, by_symbol}
use Rattle.mini_laws.specs.Scopes.{opening_of, scopes_by, at_or_empty, opened, name_if, merged}

abbrev is_here : Place → Bool
is_here place.Here = true
is_here p = false

abbrev pub bound_at : Shape → List Name → List Name
bound_at shape.BindingIdentifier xs = xs
bound_at h xs = []

module _ (k : ℕ) where
  abbrev x : Name
  x = by_symbol k

  abbrev pub Other : List Name → Type 0
  Other [] = Unit {0}
  Other (y ∷ ys) = (same_variable x y ≡ false) × Other ys

  pub both : (ys zs : List Name) → Other ys → Other zs → Other (ys ++ zs)
  both [] zs o p = p
  both (y ∷ ys) zs o p = (o.0, both ys zs o.1 p)

  pub pick : (b : Bool) (ys zs : List Name) → Other ys → Other zs → Other (if b then ys else zs)
  pick true ys zs o p = o
  pick false ys zs o p = p

  by_place : (p : Place) (xs first bound below : List Name) → (is_here p ≡ true → Other xs) → Other first → Other bound → Other below → Other (names_by p xs first bound below)
  by_place place.Here xs first bound below a b c d = a refl
  by_place place.FirstBound xs first bound below a b c d = b
  by_place place.Bound xs first bound below a b c d = c
  by_place place.Below xs first bound below a b c d = d
  by_place place.Nowhere xs first bound below a b c d = tt

  own_bound : (d : Declared) (h : Shape) (xs : List Name) → Other (bound_at h xs) → is_here (place_of d h) ≡ true → Other xs
  own_bound declared.Bound shape.BindingIdentifier xs o e = o
  own_bound declared.Bound h xs o e = absurd (true≢false (sym e))
  own_bound declared.Lexical (shape.VariableDeclaration Var) xs o e = absurd (true≢false (sym e))
  own_bound declared.Lexical (shape.Function true g ds) xs o e = absurd (true≢false (sym e))
  own_bound declared.Lexical (shape.Function false g ds) xs o e = absurd (true≢false (sym e))
  own_bound declared.Lexical (shape.Class true) xs o e = absurd (true≢false (sym e))
  own_bound declared.Lexical (shape.Class false) xs o e = absurd (true≢false (sym e))
  own_bound declared.Lexical h xs o e = absurd (true≢false (sym e))
  own_bound declared.Hoisted (shape.VariableDeclaration Var) xs o e = absurd (true≢false (sym e))
  own_bound declared.Hoisted h xs o e = absurd (true≢false (sym e))

  -- no name in it is bound as this
  abbrev mutual
    pub Unbound : Tree → Type 0
    Unbound (node h xs n ts) = Other (bound_at h xs) × AllUnbound ts

    pub AllUnbound : Trees → Type 0
    AllUnbound none = Unit {0}
    AllUnbound (t ▸ ts) = Unbound t × AllUnbound ts

  mutual
    unfolding names_of

    pub named : (d : Declared) (t : Tree) → Unbound t → Other (names_of d t)
    named d (node h xs n ts) a = by_place (place_of d h) xs (first_names ts) (all_names declared.Bound ts) (all_names d ts) (own_bound d h xs a.0) (first_named ts a.1) (all_named declared.Bound ts a.1) (all_named d ts a.1)

    pub first_named : (ts : Trees) → AllUnbound ts → Other (first_names ts)
    first_named none a = tt
    first_named (t ▸ ts) a = named declared.Bound t a.0

    pub all_named : (d : Declared) (ts : Trees) → AllUnbound ts → Other (all_names d ts)
    all_named d none a = tt
    all_named d (t ▸ ts) a = both (names_of d t) (all_names d ts) (named d t a.0) (all_named d ts a.1)

  mutual
    unfolding body_names

    body_named : (t : Tree) → Unbound t → Other (body_names t)
    body_named (node h xs n ts) a =
        let lexical = names_of declared.Lexical (node h xs n ts) in
        let hoisted = names_of declared.Hoisted (node h xs n ts) in
        pick (is_statement_list h) (all_body_names ts) (lexical ++ hoisted) (all_body_named ts a.1) (both lexical hoisted (named declared.Lexical (node h xs n ts) a) (named declared.Hoisted (node h xs n ts) a))

    all_body_named : (ts : Trees) → AllUnbound ts → Other (all_body_names ts)
    all_body_named none a = tt
    all_body_named (t ▸ ts) a = both (body_names t) (all_body_names ts) (body_named t a.0) (all_body_named ts a.1)

  -- ---- scopes

  with_named : (seen xs : List Name) → Other seen → Other xs → Other (with_names seen xs)
  unfolding with_names
  with_named seen [] o p = o
  with_named seen (y ∷ ys) o p = with_named (with_name seen y) ys (by (is_spelled y.spelling seen)) p.1
    where
      by : (b : Bool) → Other (if b then seen else seen ++ y ∷ [])
      by true = o
      by false = both seen (y ∷ []) o (p.0, tt)

  dropped : (n : ℕ) (xs : List Name) → Other xs → Other (drop n xs)
  dropped zero xs o = o
  dropped (suc n) [] o = o
  dropped (suc n) (y ∷ ys) o = dropped n ys o.1

  bound_as : (h : Bool) (xs : List Name) → Other xs → Other (names_in (map (λ y. record { name = y; hoists = h }) xs))
  bound_as h [] o = tt
  bound_as h (y ∷ ys) o = (o.0, bound_as h ys o.1)

  lexical : (xs : List Name) → Other xs → Other (names_in (map (λ y. record { name = y; hoists = false }) (with_names [] xs)))
  lexical xs o = bound_as false (with_names [] xs) (with_named [] xs tt o)

  bodily : (params xs : List Name) → Other params → Other xs → Other (names_in (map (λ y. record { name = y; hoists = true }) (drop (length params) (with_names params xs))))
  bodily params xs o p = bound_as true (drop (length params) (with_names params xs)) (dropped (length params) (with_names params xs) (with_named params xs o p))

  if_named : (b : Bool) (t : Tree) → Unbound t → Other (name_if b t)
  if_named true t a = named declared.Bound t a
  if_named false t a = tt

  merged_named : (t : Tree) → Unbound t → Other (merged t)
  merged_named t a = by (has_inner t)
    where
      by : (b : Bool) → Other (if b then [] else bound_names t)
      by true = tt
      by false = named declared.Bound t a

  scope_named : (o : Opening) (ts : Trees) → AllUnbound ts → (i : ℕ) → Other (names_in (at_or_empty (scopes_by o ts) i))
  unfolding scopes_by
  scope_named opening.Nothing none a i = tt
  scope_named opening.Nothing (t ▸ ts) a i = tt
  scope_named opening.Body none a i = tt
  scope_named opening.Body (t ▸ ts) a zero = bodily [] (body_names t) tt (body_named t a.0)
  scope_named opening.Body (t ▸ ts) a (suc i) = tt
  scope_named opening.First none a i = tt
  scope_named opening.First (t ▸ ts) a zero = lexical (names_of declared.Lexical t) (named declared.Lexical t a.0)
  scope_named opening.First (t ▸ ts) a (suc i) = tt
  scope_named opening.Bound none a i = tt
  scope_named opening.Bound (t ▸ ts) a zero = lexical (bound_names t) (named declared.Bound t a.0)
  scope_named opening.Bound (t ▸ ts) a (suc i) = tt
  scope_named opening.Second none a i = tt
  scope_named opening.Second (t ▸ none) a i = tt
  scope_named opening.Second (t ▸ (u ▸ ts)) a zero = tt
  scope_named opening.Second (t ▸ (u ▸ ts)) a (suc zero) = lexical (names_of declared.Lexical u) (named declared.Lexical u a.1.0)
  scope_named opening.Second (t ▸ (u ▸ ts)) a (suc (suc i)) = tt
  scope_named opening.Arrow none a i = tt
  scope_named opening.Arrow (p ▸ none) a i = tt
  scope_named opening.Arrow (p ▸ (t ▸ ts)) a zero = bodily [] (bound_names p) tt (named declared.Bound p a.0)
  scope_named opening.Arrow (p ▸ (t ▸ ts)) a (suc zero) = bodily (merged p) (body_names t) (merged_named p a.0) (body_named t a.1.0)
  scope_named opening.Arrow (p ▸ (t ▸ ts)) a (suc (suc i)) = tt
  scope_named (opening.Class own inner) none a i = tt
  scope_named (opening.Class own inner) (t ▸ none) a i = tt
  scope_named (opening.Class own inner) (t ▸ (b ▸ none)) a i = tt
  scope_named (opening.Class own inner) (t ▸ (b ▸ (c ▸ none))) a i = tt
  scope_named (opening.Class own inner) (t ▸ (b ▸ (c ▸ (d ▸ ts)))) a zero = lexical (name_if own t) (if_named own t a.0)
  scope_named (opening.Class own inner) (t ▸ (b ▸ (c ▸ (d ▸ ts)))) a (suc zero) = lexical (name_if inner d) (if_named inner d a.1.1.1.0)
  scope_named (opening.Class own inner) (t ▸ (b ▸ (c ▸ (d ▸ ts)))) a (suc (suc i)) = tt
  scope_named (opening.Function own) none a i = tt
  scope_named (opening.Function own) (t ▸ none) a i = tt
  scope_named (opening.Function own) (t ▸ (p ▸ none)) a i = tt
  scope_named (opening.Function own) (t ▸ (p ▸ (b ▸ ts))) a zero = lexical (name_if own t) (if_named own t a.0)
  scope_named (opening.Function own) (t ▸ (p ▸ (b ▸ ts))) a (suc zero) = bodily [] (bound_names p) tt (named declared.Bound p a.1.0)
  scope_named (opening.Function own) (t ▸ (p ▸ (b ▸ ts))) a (suc (suc zero)) = bodily (merged p) (body_names b) (merged_named p a.1.0) (body_named b a.1.1.0)
  scope_named (opening.Function own) (t ▸ (p ▸ (b ▸ ts))) a (suc (suc (suc i))) = tt

  pub scope_here : (u : Use) (h : Shape) (ts : Trees) → AllUnbound ts → (i : ℕ) → Other (names_in (opened u h ts i))
  scope_here u h ts a i = scope_named (opening_of u h) ts a i
