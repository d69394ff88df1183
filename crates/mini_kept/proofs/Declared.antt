-- Each name that a rewritten tree declares is one that it declared before.
use Rattle.std.specs.Prelude.{ℕ, ◌≡◌, ◌⊎◌, ◌<◌, refl, Bool, true, false, ◌&&◌, ◌||◌, List, [], ◌∷◌, ◌++◌, Contains}
use Rattle.std.proofs.Common.{ap, ◌∙◌, sym, subst, inl, inr, arith}
use Rattle.std.proofs.lemmas.Bool.{and_parts}
use Rattle.std.proofs.lemmas.List.Elements.{Contains-append_left, Contains-append_right, Contains-append_cases}
use Rattle.mini_model.specs.declared.name.Name.{Name}
use Rattle.mini_model.specs.declared.place.Position.{Position}
use Rattle.mini_model.specs.Tree.{Tree, Trees, node, none, ◌▸◌}
use Rattle.mini_model.specs.Redex.{Contracts}
use Rattle.mini_model.specs.Rewriting.{Step, StepIn, here, inside, first, later, Reaches, done, more}
use Rattle.mini_kept.specs.SameNames.{is_name, is_among}
use Rattle.mini_kept.proofs.SameScopes.{same_name, name_itself}
use Rattle.mini_kept.specs.Declaring.{declared_by, declared, declared_all}
use Rattle.mini_kept.specs.Nodes.{Test, each_node, each_nodes}
use Rattle.mini_kept.specs.Kept.{AdmitsWritten}
use Rattle.mini_kept.proofs.Bools.{both}
use Rattle.mini_kept.proofs.Counts.{first_or_other, at_first, at_other}
use Rattle.mini_kept.proofs.Each.{reaches_each}

-- ---- names among others

abbrev are_among : List Name → List Name → Bool
are_among xs [] = true
are_among xs (y ∷ ys) = is_among xs y && are_among xs ys

either : (a b : Bool) → (a || b) ≡ true → (a ≡ true) ⊎ (b ≡ true)
either true b e = inl refl
either false b e = inr e

or_left : (a b : Bool) → a ≡ true → (a || b) ≡ true
or_left true b e = refl
or_left false b e = absurd (cc e)

or_right : (a b : Bool) → b ≡ true → (a || b) ≡ true
or_right true b e = refl
or_right false b e = e

there : (xs : List Name) (y : Name) → is_among xs y ≡ true → Contains xs y
there [] y e = absurd (cc e)
there (x ∷ xs) y e = elim (either (is_name x y) (is_among xs y) e) [ inl a ↦ at_first y x xs (same_name x y a) | inr b ↦ at_other y x xs (there xs y b) ]

among : (xs : List Name) (y : Name) → Contains xs y → is_among xs y ≡ true
among [] y c = let none : c.0 < 0 = c.1 in absurd (omega (arith, none))
among (x ∷ xs) y c = elim (first_or_other y x xs c) [
  | inl e ↦ or_left (is_name x y) (is_among xs y) (subst (λ z. is_name x z ≡ true) e (name_itself x))
  | inr d ↦ or_right (is_name x y) (is_among xs y) (among xs y d)
]

all_among : (xs ys : List Name) → ((y : Name) → Contains ys y → Contains xs y) → are_among xs ys ≡ true
all_among xs [] f = refl
all_among xs (y ∷ ys) f = both (is_among xs y) (are_among xs ys) (among xs y (f y (at_first y y ys refl))) (all_among xs ys (λ z c. f z (at_other z y ys c)))

one_among : (xs ys : List Name) (y : Name) → are_among xs ys ≡ true → Contains ys y → Contains xs y
one_among xs [] y e c = let none : c.0 < 0 = c.1 in absurd (omega (arith, none))
one_among xs (z ∷ ys) y e c =
    let (own, rest) = and_parts (is_among xs z) (are_among xs ys) e in
    elim (first_or_other y z ys c) [ inl s ↦ there xs y (subst (λ v. is_among xs v ≡ true) s own) | inr d ↦ one_among xs ys y rest d ]

-- ---- trees all of whose declared names are among some

abbrev declares : List Name → Test
declares xs h ys n = are_among xs (declared_by h ys)

admits : (xs : List Name) → AdmitsWritten (declares xs)
admits xs = record { negation = refl; conditional = refl; or = refl; and = refl; statement = refl; turned = λ ys n. refl; equality = λ o ys n. refl }

among_both : (xs ys zs : List Name) → are_among xs (ys ++ zs) ≡ (are_among xs ys && are_among xs zs)
among_both xs [] zs = refl
among_both xs (y ∷ ys) zs = ap (λ b. is_among xs y && b) (among_both xs ys zs) ∙ grouped (is_among xs y) (are_among xs ys) (are_among xs zs)
  where
    grouped : (a b c : Bool) → (a && (b && c)) ≡ ((a && b) && c)
    grouped true b c = refl
    grouped false b c = refl

mutual
  each_declared : (xs : List Name) (t : Tree) → each_node (declares xs) t ≡ are_among xs (declared t)
  each_declared xs (node h ys n ts) = ap (λ b. are_among xs (declared_by h ys) && b) (all_declared xs ts) ∙ sym (among_both xs (declared_by h ys) (declared_all ts))

  all_declared : (xs : List Name) (ts : Trees) → each_nodes (declares xs) ts ≡ are_among xs (declared_all ts)
  all_declared xs none = refl
  all_declared xs (t ▸ ts) = (λ k. each_declared xs t k && all_declared xs ts k) ∙ sym (among_both xs (declared t) (declared_all ts))

still_declared : {p : Position} (t u : Tree) → Reaches Contracts p t u → (x : Name) → Contains (declared u) x → Contains (declared t) x
still_declared t u r x c =
    let before = each_declared (declared t) t ∙ all_among (declared t) (declared t) (λ y d. d) in
    one_among (declared t) (declared u) x (sym (each_declared (declared t) u) ∙ reaches_each (declares (declared t)) (admits (declared t)) r before) c

-- ---- what a row writes

pub rows_declare : (p : Position) (n w : Tree) → Contracts p n w → (x : Name) → Contains (declared w) x → Contains (declared n) x
rows_declare p n w c = still_declared n w (more p n w w (here p n w c) (done p w))

-- ---- steps of any relation

-- each name of the later list is one of the earlier
abbrev Among : List Name → List Name → Type 0
Among xs ys = (x : Name) → Contains ys x → Contains xs x

both_among : (xs xs' ys ys' : List Name) → Among xs ys → Among xs' ys' → Among (xs ++ xs') (ys ++ ys')
both_among xs xs' ys ys' k l x c = by (Contains-append_cases ys ys' x c)
  where
    by : Contains ys x ⊎ Contains ys' x → Contains (xs ++ xs') x
    by (inl d) = Contains-append_left xs xs' x (k x d)
    by (inr d) = Contains-append_right xs xs' x (l x d)

module _ (R : Position → Tree → Tree → Type 0) (each : (p : Position) (n w : Tree) → R p n w → Among (declared n) (declared w)) where
  mutual
    step_declared : {p : Position} {t u : Tree} → Step R p t u → Among (declared t) (declared u)
    step_declared (here p n w r) = each p n w r
    step_declared (inside p h xs n ts us s) = both_among (declared_by h xs) (declared_all ts) (declared_by h xs) (declared_all us) (λ x c. c) (steps_declared s)

    steps_declared : {π : ℕ → Position} {ts us : Trees} → StepIn R π ts us → Among (declared_all ts) (declared_all us)
    steps_declared (first π t u ts s) = both_among (declared t) (declared_all ts) (declared u) (declared_all ts) (step_declared s) (λ x c. c)
    steps_declared (later π t ts us s) = both_among (declared t) (declared_all ts) (declared t) (declared_all us) (λ x c. c) (steps_declared s)

  pub reaches_declared : {p : Position} {t u : Tree} → Reaches R p t u → Among (declared t) (declared u)
  reaches_declared (done p t) x c = c
  reaches_declared (more p t u v s r) x c = step_declared s x (reaches_declared r x c)
