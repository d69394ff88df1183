-- The symbols of names that a scope has just declared.
use Rattle.std.specs.Prelude.{ℕ, suc, ◌≡◌, refl, nat_eq, Bool, true, false, ◌||◌, ◌&&◌, List, [], ◌∷◌, ◌++◌, map, Option, Some, None, if◌then◌else◌}
use Rattle.std.proofs.Common.{ap, ◌∙◌, sym, append_assoc, eq-eqb, inl, inr, ◌⊎◌}
use Rattle.std.proofs.lemmas.List.{append-nil}
use Rattle.std.proofs.lemmas.Bool.{eqb-true}
use Rattle.mini_model.specs.declared.name.Name.{Name}
use Rattle.mini_model.specs.declared.name.SymbolId.{SymbolId}
use Rattle.mini_model.specs.Weight.{same_text}
use Rattle.mini_laws.specs.declared.names.Use.{Use}
use Rattle.mini_laws.specs.declared.names.Use.TheVariants.{Read, Hoisted}
use Rattle.mini_laws.specs.declared.names.Binding.{Binding}
use Rattle.mini_laws.specs.DeclaredNames.{is_spelled, with_names}
use Rattle.mini_laws.specs.Resolved.{Environment, or_else, serves, own_symbol, symbol_of, with_symbol, numbered}

pub or_none : (x : Option SymbolId) → or_else x None ≡ x
or_none None = refl
or_none (Some x) = refl

or_or : (x y z : Option SymbolId) → or_else (or_else x y) z ≡ or_else x (or_else y z)
or_or None y z = refl
or_or (Some x) y z = refl

pub symbol_of_both : (u : Use) (s : List ℕ) (xs ys : Environment) → symbol_of u s (xs ++ ys) ≡ or_else (symbol_of u s ys) (symbol_of u s xs)
symbol_of_both u s [] ys = sym (or_none (symbol_of u s ys))
symbol_of_both u s (x ∷ xs) ys = ap (λ r. or_else r (own_symbol u s x)) (symbol_of_both u s xs ys) ∙ or_or (symbol_of u s ys) (symbol_of u s xs) (own_symbol u s x)

-- names as the bindings of a scope
abbrev pub bound : Bool → List Name → List Binding
bound h xs = map (λ x. record { name = x; hoists = h }) xs

-- with the numbers from here on
abbrev pub counted : ℕ → List Name → List Name
counted n [] = []
counted n (x ∷ xs) = record { spelling = x.spelling; symbol = Some (record { 0 = n }) } ∷ counted (suc n) xs

pub numbered_bound : (h : Bool) (n : ℕ) (xs : List Name) → numbered n (bound h xs) ≡ bound h (counted n xs)
numbered_bound h n [] = refl
numbered_bound h n (x ∷ xs) = ap (λ r. record { name = record { spelling = x.spelling; symbol = Some (record { 0 = n }) }; hoists = h } ∷ r) (numbered_bound h (suc n) xs)

-- names of which each is spelled differently from those after it
abbrev pub Distinct : List Name → Type 0
Distinct [] = Unit {0}
Distinct (x ∷ xs) = (is_spelled x.spelling xs ≡ false) × Distinct xs

or_false : (a b : Bool) → (a || b) ≡ false → (a ≡ false) × (b ≡ false)
or_false true b e = (e, cc)
or_false false b e = (refl, e)

not_for : (b c : Bool) → b ≡ false → (c && b) ≡ false
not_for b true e = e
not_for b false e = refl

pub none_if : (b : Bool) (s : Option SymbolId) → b ≡ false → (if b then s else None) ≡ None
none_if true s e = ap (λ c. if c then s else None) e
none_if false s e = refl

some_if : (b : Bool) (s : Option SymbolId) → b ≡ true → (if b then s else None) ≡ s
some_if true s e = refl
some_if false s e = ap (λ c. if c then s else None) e

-- a spelling that none of them has
pub not_found : (u : Use) (s : List ℕ) (h : Bool) (n : ℕ) (xs : List Name) → is_spelled s xs ≡ false → symbol_of u s (bound h (counted n xs)) ≡ None
not_found u s h n [] e = refl
not_found u s h n (x ∷ xs) e =
    let apart = or_false (same_text x.spelling s) (is_spelled s xs) e in
    ap (λ r. or_else r (own_symbol u s (record { name = record { spelling = x.spelling; symbol = Some (record { 0 = n }) }; hoists = h }))) (not_found u s h (suc n) xs apart.1)
    ∙ none_if (serves u (record { name = record { spelling = x.spelling; symbol = Some (record { 0 = n }) }; hoists = h }) && same_text x.spelling s) (Some (record { 0 = n })) (not_for (same_text x.spelling s) (serves u (record { name = record { spelling = x.spelling; symbol = Some (record { 0 = n }) }; hoists = h })) apart.0)

same_self : (s : List ℕ) → same_text s s ≡ true
same_self [] = refl
same_self (x ∷ xs) = ap (λ b. b && same_text xs xs) (eq-eqb x x refl) ∙ same_self xs

-- a name that has just been declared has its number
pub numbers : (u : Use) (h : Bool) → ((x : Name) → serves u (record { name = x; hoists = h }) ≡ true) → (n : ℕ) (env : Environment) (xs : List Name) → Distinct xs → map (with_symbol u (env ++ bound h (counted n xs))) xs ≡ counted n xs
numbers u h v n env [] d = refl
numbers u h v n env (x ∷ xs) d =
    let y : Name = record { spelling = x.spelling; symbol = Some (record { 0 = n }) } in
    let b : Binding = record { name = y; hoists = h } in
    let rest = bound h (counted (suc n) xs) in
    let own : own_symbol u x.spelling b ≡ Some (record { 0 = n }) = some_if (serves u b && same_text x.spelling x.spelling) (Some (record { 0 = n })) (ap (λ c. c && same_text x.spelling x.spelling) (v y) ∙ same_self x.spelling) in
    let here : symbol_of u x.spelling (env ++ b ∷ rest) ≡ Some (record { 0 = n }) =
    symbol_of_both u x.spelling env (b ∷ rest)
    ∙ ap (λ r. or_else (or_else r (own_symbol u x.spelling b)) (symbol_of u x.spelling env)) (not_found u x.spelling h (suc n) xs d.0)
    ∙ ap (λ r. or_else r (symbol_of u x.spelling env)) own in
    ap (λ q. record { spelling = x.spelling; symbol = q } ∷ map (with_symbol u (env ++ b ∷ rest)) xs) here
    ∙ ap (λ r. y ∷ r) (ap (λ e. map (with_symbol u e) xs) (sym (append_assoc env (b ∷ []) rest)) ∙ numbers u h v (suc n) (env ++ b ∷ []) xs d.1)

-- ---- names that are new

abbrev pub fresh : List Name → List Name → List Name
fresh seen [] = []
fresh seen (x ∷ xs) = if is_spelled x.spelling seen then fresh seen xs else x ∷ fresh (seen ++ x ∷ []) xs

or_assoc : (a b c : Bool) → (a || (b || c)) ≡ ((a || b) || c)
or_assoc true b c = refl
or_assoc false b c = refl

with_fresh_by : (seen : List Name) (x : Name) (xs : List Name) (b : Bool) → with_names seen xs ≡ seen ++ fresh seen xs → with_names (seen ++ x ∷ []) xs ≡ (seen ++ x ∷ []) ++ fresh (seen ++ x ∷ []) xs → with_names (if b then seen else seen ++ x ∷ []) xs ≡ seen ++ (if b then fresh seen xs else x ∷ fresh (seen ++ x ∷ []) xs)
with_fresh_by seen x xs true e f = e
with_fresh_by seen x xs false e f = f ∙ append_assoc seen (x ∷ []) (fresh (seen ++ x ∷ []) xs)

pub with_fresh : (seen xs : List Name) → with_names seen xs ≡ seen ++ fresh seen xs
unfolding with_names
with_fresh seen [] = sym (append-nil seen)
with_fresh seen (x ∷ xs) = with_fresh_by seen x xs (is_spelled x.spelling seen) (with_fresh seen xs) (with_fresh (seen ++ x ∷ []) xs)

and_true : (a b : Bool) → (a && b) ≡ true → (a ≡ true) × (b ≡ true)
and_true true b e = (refl, e)
and_true false b e = (e, cc)

same_texts : (s r : List ℕ) → same_text s r ≡ true → s ≡ r
same_texts [] [] e = refl
same_texts [] (y ∷ r) e = cc
same_texts (x ∷ s) [] e = cc
same_texts (x ∷ s) (y ∷ r) e = let both = and_true (nat_eq x y) (same_text s r) e in ap (λ z. z ∷ s) (eqb-true x y both.0) ∙ ap (λ t. y ∷ t) (same_texts s r both.1)

spelled_in : (s : List ℕ) (xs ys : List Name) → is_spelled s (xs ++ ys) ≡ (is_spelled s xs || is_spelled s ys)
spelled_in s [] ys = refl
spelled_in s (x ∷ xs) ys = ap (λ b. same_text x.spelling s || b) (spelled_in s xs ys) ∙ or_assoc (same_text x.spelling s) (is_spelled s xs) (is_spelled s ys)

spelled_other : (s : List ℕ) (y : Name) (seen : List Name) (b : Bool) → same_text y.spelling s ≡ b → is_spelled y.spelling seen ≡ false → is_spelled s seen ≡ true → b ≡ false
spelled_other s y seen true e f g = let same = ap (λ r. is_spelled r seen) (same_texts y.spelling s e) in cc
spelled_other s y seen false e f g = refl

or_true : (a b : Bool) → a ≡ true → (a || b) ≡ true
or_true true b e = refl
or_true false b e = cc

false_or : (a b : Bool) → a ≡ false → b ≡ false → (a || b) ≡ false
false_or true b e f = e
false_or false b e f = f

not_fresh_by : (s : List ℕ) (seen : List Name) (x : Name) (xs : List Name) (b : Bool) → is_spelled s (fresh seen xs) ≡ false → is_spelled s (fresh (seen ++ x ∷ []) xs) ≡ false → is_spelled x.spelling seen ≡ b → is_spelled s seen ≡ true → is_spelled s (if b then fresh seen xs else x ∷ fresh (seen ++ x ∷ []) xs) ≡ false
not_fresh_by s seen x xs true m n f e = m
not_fresh_by s seen x xs false m n f e = false_or (same_text x.spelling s) (is_spelled s (fresh (seen ++ x ∷ []) xs)) (spelled_other s x seen (same_text x.spelling s) refl f e) n

-- what is spelled among the seen names is spelled among no new one
pub not_fresh : (s : List ℕ) (seen xs : List Name) → is_spelled s seen ≡ true → is_spelled s (fresh seen xs) ≡ false
not_fresh s seen [] e = refl
not_fresh s seen (x ∷ xs) e = not_fresh_by s seen x xs (is_spelled x.spelling seen) (not_fresh s seen xs e) (not_fresh s (seen ++ x ∷ []) xs (spelled_in s seen (x ∷ []) ∙ or_true (is_spelled s seen) (is_spelled s (x ∷ [])) e)) refl e

true_or : (a b : Bool) → b ≡ true → (a || b) ≡ true
true_or true b e = refl
true_or false b e = e

spelled_last : (seen : List Name) (x : Name) → is_spelled x.spelling (seen ++ x ∷ []) ≡ true
spelled_last seen x = spelled_in x.spelling seen (x ∷ []) ∙ true_or (is_spelled x.spelling seen) (is_spelled x.spelling (x ∷ [])) (or_true (same_text x.spelling x.spelling) false (same_self x.spelling))

fresh_distinct_by : (seen : List Name) (x : Name) (xs : List Name) (b : Bool) → Distinct (fresh seen xs) → Distinct (fresh (seen ++ x ∷ []) xs) → Distinct (if b then fresh seen xs else x ∷ fresh (seen ++ x ∷ []) xs)
fresh_distinct_by seen x xs true m n = m
fresh_distinct_by seen x xs false m n = (not_fresh x.spelling (seen ++ x ∷ []) xs (spelled_last seen x), n)

pub fresh_distinct : (seen xs : List Name) → Distinct (fresh seen xs)
fresh_distinct seen [] = tt
fresh_distinct seen (x ∷ xs) = fresh_distinct_by seen x xs (is_spelled x.spelling seen) (fresh_distinct seen xs) (fresh_distinct (seen ++ x ∷ []) xs)

-- ---- the same names with other symbols

abbrev pub Alike : (Name → Name → Type 0) → List Name → List Name → Type 0
Alike R [] [] = Unit {0}
Alike R [] (y ∷ ys) = ⊥
Alike R (x ∷ xs) [] = ⊥
Alike R (x ∷ xs) (y ∷ ys) = R x y × Alike R xs ys

abbrev pub SameSpelling : (Name → Name → Type 0) → Type 0
SameSpelling R = (x y : Name) → R x y → x.spelling ≡ y.spelling

abbrev pub SameSpellings : List Name → List Name → Type 0
SameSpellings xs ys = (s : List ℕ) → is_spelled s xs ≡ is_spelled s ys

both_longer : (xs ys : List Name) (x y : Name) → SameSpellings xs ys → x.spelling ≡ y.spelling → SameSpellings (xs ++ x ∷ []) (ys ++ y ∷ [])
both_longer xs ys x y e f s = spelled_in s xs (x ∷ []) ∙ ap (λ b. b || is_spelled s (x ∷ [])) (e s) ∙ ap (λ r. is_spelled s ys || (same_text r s || false)) f ∙ sym (spelled_in s ys (y ∷ []))

fresh_alike_by : (R : Name → Name → Type 0) (seen seen' : List Name) (x y : Name) (xs ys : List Name) (b c : Bool) → b ≡ c → R x y → Alike R (fresh seen xs) (fresh seen' ys) → Alike R (fresh (seen ++ x ∷ []) xs) (fresh (seen' ++ y ∷ []) ys) → Alike R (if b then fresh seen xs else x ∷ fresh (seen ++ x ∷ []) xs) (if c then fresh seen' ys else y ∷ fresh (seen' ++ y ∷ []) ys)
fresh_alike_by R seen seen' x y xs ys true true f r m n = m
fresh_alike_by R seen seen' x y xs ys true false f r m n = cc
fresh_alike_by R seen seen' x y xs ys false true f r m n = cc
fresh_alike_by R seen seen' x y xs ys false false f r m n = (r, n)

pub fresh_alike : (R : Name → Name → Type 0) → SameSpelling R → (seen seen' xs ys : List Name) → SameSpellings seen seen' → Alike R xs ys → Alike R (fresh seen xs) (fresh seen' ys)
fresh_alike R k seen seen' [] [] e a = tt
fresh_alike R k seen seen' [] (y ∷ ys) e a = absurd a
fresh_alike R k seen seen' (x ∷ xs) [] e a = absurd a
fresh_alike R k seen seen' (x ∷ xs) (y ∷ ys) e a =
    fresh_alike_by R seen seen' x y xs ys (is_spelled x.spelling seen) (is_spelled y.spelling seen') (e x.spelling ∙ ap (λ r. is_spelled r seen') (k x y a.0)) a.0 (fresh_alike R k seen seen' xs ys e a.1) (fresh_alike R k (seen ++ x ∷ []) (seen' ++ y ∷ []) xs ys (both_longer seen seen' x y e (k x y a.0)) a.1)

-- names that have their symbols from an environment, as they are used
pub record From (env : Environment) (x y : Name) : Type 0 where
  pub by : (y ≡ with_symbol Read env x) ⊎ (y ≡ with_symbol Hoisted env x)

pub from_spelling : (env : Environment) → SameSpelling (From env)
from_spelling env x y f = elim f.by as (λ v. x.spelling ≡ y.spelling) [ inl e ↦ ap (λ z. z.spelling) (sym e) | inr e ↦ ap (λ z. z.spelling) (sym e) ]

tail_of : List Name → List Name
tail_of [] = []
tail_of (x ∷ xs) = xs

pub settled : (env : Environment) (xs ys zs : List Name) → Alike (From env) xs ys → map (with_symbol Read env) xs ≡ zs → map (with_symbol Hoisted env) xs ≡ zs → ys ≡ zs
unfolding tail_of
settled env [] [] zs a e f = e
settled env [] (y ∷ ys) zs a e f = absurd a
settled env (x ∷ xs) [] zs a e f = absurd a
settled env (x ∷ xs) (y ∷ ys) zs a e f =
    let rest = settled env xs ys (tail_of zs) a.1 (ap tail_of e) (ap tail_of f) in
    elim a.0.by as (λ v. y ∷ ys ≡ zs) [ inl g ↦ ap (λ r. y ∷ r) (rest ∙ sym (ap tail_of e)) ∙ ap (λ z. z ∷ map (with_symbol Read env) xs) g ∙ e | inr g ↦ ap (λ r. y ∷ r) (rest ∙ sym (ap tail_of f)) ∙ ap (λ z. z ∷ map (with_symbol Hoisted env) xs) g ∙ f ]
