-- The name of the variable that a declarator writes, in another environment and over other children.
use Rattle.std.specs.Prelude.{ℕ, zero, suc, ◌≡◌, ◌≤◌, ◌+◌, refl, nat_eq, Bool, true, false, List, [], ◌∷◌, ◌++◌, map, is_some, slice_index_or, Option, Some, None, if◌then◌else◌}
use Rattle.std.proofs.Common.{ap, ◌∙◌, sym, subst, arith, true≢false}
use Rattle.std.proofs.lemmas.Bool.{eqb-true, eq-eqb}
use Rattle.mini_model.specs.declared.name.Name.{Name}
use Rattle.mini_model.specs.declared.name.SymbolId.{SymbolId}
use Rattle.mini_model.specs.declared.shape.Shape.{Shape}
use Rattle.mini_model.specs.declared.shape.Shape.TheVariants as shape
use Rattle.mini_model.specs.Tree.{Tree, Trees, node, none, ◌▸◌, is_absent}
use Rattle.mini_laws.specs.declared.names.Use.{Use}
use Rattle.mini_laws.specs.declared.names.Use.TheVariants.{Read}
use Rattle.mini_laws.specs.declared.names.Binding.{Binding}
use Rattle.mini_laws.specs.Resolved.{Environment, symbol_of, with_symbol, gives_value, plain_name, other_name, written_name}
use Rattle.mini_laws.specs.Scoped.{NamesScoped, AreNames, OwnScoped, Differs, NoneCarries}
use Rattle.mini_laws.specs.Symbols.{is_same, times, most, Distinct, with_new, new_symbol}
use Rattle.mini_laws.proofs.Lookups.{symbol_without}

-- ---- names

pub same_symbols : (o q : Option SymbolId) → is_same o q ≡ true → o ≡ q
same_symbols None None e = refl
same_symbols None (Some y) e = absurd (cc e)
same_symbols (Some x) None e = absurd (cc e)
same_symbols (Some x) (Some y) e = ap (λ n. Some (record { 0 = n })) (eqb-true x.0 y.0 e)

pub symbol_itself : (o : Option SymbolId) → is_same o o ≡ true
symbol_itself None = refl
symbol_itself (Some x) = eq-eqb x.0 x.0 refl

pub are_themselves : (xs : List Name) → AreNames xs xs
are_themselves [] = tt
are_themselves (x ∷ xs) = (refl, are_themselves xs)

pub same_lists : (xs ys : List Name) → AreNames xs ys → xs ≡ ys
same_lists [] [] a = refl
same_lists [] (y ∷ ys) a = absurd a
same_lists (x ∷ xs) [] a = absurd a
same_lists (x ∷ xs) (y ∷ ys) a = λ k. a.0 k ∷ same_lists xs ys a.1 k

-- the plain name that the first of some children is
abbrev pub first_plain : Trees → List Name
first_plain none = []
first_plain (id ▸ ts) = plain_name id

-- ---- another environment

-- it gives the first of these names the same symbols
abbrev pub FoundAlike : Use → Environment → Environment → List Name → Type 0
FoundAlike u env env' [] = Unit {0}
FoundAlike u env env' (x ∷ xs) = (symbol_of Read x.spelling env ≡ symbol_of Read x.spelling env') × (symbol_of u x.spelling env ≡ symbol_of u x.spelling env')

pub all_found : (u : Use) (env env' : Environment) → ((v : Use) (s : List ℕ) → symbol_of v s env ≡ symbol_of v s env') → (xs : List Name) → FoundAlike u env env' xs
all_found u env env' e [] = tt
all_found u env env' e (x ∷ xs) = (e Read x.spelling, e u x.spelling)

other_alike : (u : Use) (env env' : Environment) (xs : List Name) → FoundAlike u env env' xs → other_name u env xs ≡ other_name u env' xs
other_alike u env env' [] f = refl
other_alike u env env' (x ∷ xs) f = λ k. if is_same (f.0 k) (f.1 k) then [] else record { spelling = x.spelling; symbol = f.0 k } ∷ []

pub written_alike : (u : Use) (env env' : Environment) (ts : Trees) → FoundAlike u env env' (first_plain ts) → written_name u env ts ≡ written_name u env' ts
written_alike u env env' none f = refl
written_alike u env env' (id ▸ none) f = refl
written_alike u env env' (id ▸ (init ▸ ts)) f = ap (λ xs. if gives_value u (is_absent init) then xs else []) (other_alike u env env' (plain_name id) f)

pub own_moved : (u : Use) (env env' : Environment) (h : Shape) (xs : List Name) (ts : Trees) → (NamesScoped u env xs → NamesScoped u env' xs) → FoundAlike u env env' (first_plain ts) → OwnScoped u env h xs ts → OwnScoped u env' h xs ts
own_moved u env env' shape.VariableDeclarator xs ts m f a = subst (AreNames xs) (written_alike u env env' ts f) a
own_moved u env env' h xs ts m f a = m a

-- ---- an environment without a binding

-- that the plain name, and the name of the declarator, don't have
found_without : (u : Use) (outer inner : Environment) (b : Binding) (x : Name) (xs : List Name) → x.symbol ≡ symbol_of u x.spelling (outer ++ b ∷ inner) → Differs b x → NoneCarries b xs → AreNames xs (other_name u (outer ++ b ∷ inner) (x ∷ [])) → FoundAlike u (outer ++ b ∷ inner) (outer ++ inner) (x ∷ [])
found_without u outer inner b x xs e d c a = (reads (is_same there own) refl c a, sym e ∙ symbol_without u x.spelling outer inner b x.symbol e d)
  where
    there : Option SymbolId
    there = symbol_of Read x.spelling (outer ++ b ∷ inner)

    own : Option SymbolId
    own = symbol_of u x.spelling (outer ++ b ∷ inner)

    without : (b.name.symbol ≡ there → ⊥) → there ≡ symbol_of Read x.spelling (outer ++ inner)
    without f = symbol_without Read x.spelling outer inner b there refl f

    carried : (ys : List Name) → NoneCarries b ys → AreNames ys (with_symbol Read (outer ++ b ∷ inner) x ∷ []) → b.name.symbol ≡ there → ⊥
    carried [] k z f = absurd z
    carried (y ∷ ys) k z f = k.0 (f ∙ ap (λ w. w.symbol) (sym z.0))

    reads : (same : Bool) → is_same there own ≡ same → NoneCarries b xs → AreNames xs (if is_same there own then [] else with_symbol Read (outer ++ b ∷ inner) x ∷ []) → there ≡ symbol_of Read x.spelling (outer ++ inner)
    reads true f k z = without (λ g. d (g ∙ same_symbols there own f ∙ sym e))
    reads false f k z = without (carried xs k (subst (λ c. AreNames xs (if c then [] else with_symbol Read (outer ++ b ∷ inner) x ∷ [])) f z))

other_without : (u : Use) (outer inner : Environment) (b : Binding) (xs ys : List Name) → NamesScoped u (outer ++ b ∷ inner) ys → NoneCarries b ys → NoneCarries b xs → AreNames xs (other_name u (outer ++ b ∷ inner) ys) → AreNames xs (other_name u (outer ++ inner) ys)
other_without u outer inner b xs [] e d c a = a
other_without u outer inner b xs (y ∷ ys) e d c a = subst (AreNames xs) (other_alike u (outer ++ b ∷ inner) (outer ++ inner) (y ∷ ys) (found_without u outer inner b y xs e.0 d.0 c a)) a

pub written_without : (u : Use) (outer inner : Environment) (b : Binding) (xs : List Name) (ts : Trees) → NamesScoped u (outer ++ b ∷ inner) (first_plain ts) → NoneCarries b (first_plain ts) → NoneCarries b xs → AreNames xs (written_name u (outer ++ b ∷ inner) ts) → AreNames xs (written_name u (outer ++ inner) ts)
written_without u outer inner b xs none e d c a = a
written_without u outer inner b xs (id ▸ none) e d c a = a
written_without u outer inner b xs (id ▸ (init ▸ ts)) e d c a = by (gives_value u (is_absent init)) a
  where
    by : (g : Bool) → AreNames xs (if g then other_name u (outer ++ b ∷ inner) (plain_name id) else []) → AreNames xs (if g then other_name u (outer ++ inner) (plain_name id) else [])
    by true z = other_without u outer inner b xs (plain_name id) e d c z
    by false z = z

-- ---- other children

-- names that are spelled alike
abbrev pub SpelledAlike : List Name → List Name → Type 0
SpelledAlike [] [] = Unit {0}
SpelledAlike [] (y ∷ ys) = ⊥
SpelledAlike (x ∷ xs) [] = ⊥
SpelledAlike (x ∷ xs) (y ∷ ys) = x.spelling ≡ y.spelling

other_spelled : (u : Use) (env : Environment) (xs ys : List Name) → SpelledAlike xs ys → other_name u env xs ≡ other_name u env ys
other_spelled u env [] [] e = refl
other_spelled u env [] (y ∷ ys) e = absurd e
other_spelled u env (x ∷ xs) [] e = absurd e
other_spelled u env (x ∷ xs) (y ∷ ys) e = λ k. if is_same (symbol_of Read (e k) env) (symbol_of u (e k) env) then [] else record { spelling = e k; symbol = symbol_of Read (e k) env } ∷ []

pub written_over : (u : Use) (env : Environment) (id id' init init' : Tree) (ts us : Trees) → SpelledAlike (plain_name id) (plain_name id') → is_absent init ≡ is_absent init' → written_name u env (id ▸ (init ▸ ts)) ≡ written_name u env (id' ▸ (init' ▸ us))
written_over u env id id' init init' ts us e f = λ k. if gives_value u (f k) then other_spelled u env (plain_name id) (plain_name id') e k else []

-- ---- other symbols

-- f gives two of its symbols only where two were
abbrev pub Apart : (Option SymbolId → Option SymbolId) → Type 0
Apart f = (a b : SymbolId) → is_some (f (Some a)) ≡ true → is_some (f (Some b)) ≡ true → is_same (f (Some a)) (f (Some b)) ≡ nat_eq a.0 b.0

-- of a list in which each stands once
once : (ss : List (Option SymbolId)) (k : ℕ) (y : SymbolId) → slice_index_or ss k None ≡ Some y → 1 ≤ times (Some y) ss
once [] k y e = absurd (cc e)
once (x ∷ ss) zero y e = omega (arith, ap (λ o. (if is_same (Some y) o then 1 else 0) + times (Some y) ss) e, ap (λ b. (if b then 1 else 0) + times (Some y) ss) (symbol_itself (Some y)))
once (x ∷ ss) (suc k) y e = omega (arith, once ss k y e)

twice : (ss : List (Option SymbolId)) (j k : ℕ) (y : SymbolId) → slice_index_or ss j None ≡ Some y → slice_index_or ss k None ≡ Some y → times (Some y) ss ≤ 1 → j ≡ k
twice [] j k y e f d = absurd (cc e)
twice (x ∷ ss) zero zero y e f d = refl
twice (x ∷ ss) zero (suc k) y e f d = absurd (omega (arith, d, once ss k y f, ap (λ o. (if is_same (Some y) o then 1 else 0) + times (Some y) ss) e, ap (λ b. (if b then 1 else 0) + times (Some y) ss) (symbol_itself (Some y))))
twice (x ∷ ss) (suc j) zero y e f d = absurd (omega (arith, d, once ss j y e, ap (λ o. (if is_same (Some y) o then 1 else 0) + times (Some y) ss) f, ap (λ b. (if b then 1 else 0) + times (Some y) ss) (symbol_itself (Some y))))
twice (x ∷ ss) (suc j) (suc k) y e f d = ap suc (twice ss j k y e f (omega (arith, d)))

pub apart : (ss : List (Option SymbolId)) → Distinct ss → Apart (new_symbol ss)
apart ss d a b p q = by (slice_index_or ss a.0 None) (slice_index_or ss b.0 None) refl refl p q
  where
    by : (x y : Option SymbolId) → slice_index_or ss a.0 None ≡ x → slice_index_or ss b.0 None ≡ y → is_some x ≡ true → is_some y ≡ true → is_same (slice_index_or ss a.0 None) (slice_index_or ss b.0 None) ≡ nat_eq a.0 b.0
    by None y e f g h = absurd (cc g)
    by (Some x) None e f g h = absurd (cc h)
    by (Some x) (Some y) e f g h = (λ k. is_same (e k) (f k)) ∙ same (nat_eq x.0 y.0) (nat_eq a.0 b.0) refl refl
      where
        same : (m n : Bool) → nat_eq x.0 y.0 ≡ m → nat_eq a.0 b.0 ≡ n → nat_eq x.0 y.0 ≡ nat_eq a.0 b.0
        same true true i j = i ∙ sym j
        same false false i j = i ∙ sym j
        same true false i j =
            let z : Some x ≡ Some y = ap (λ n. Some (record { 0 = n })) (eqb-true x.0 y.0 i) in
            let w : a.0 ≡ b.0 = twice ss a.0 b.0 x e (f ∙ sym z) (d (Some x)) in
            absurd (true≢false (sym (eq-eqb a.0 b.0 w) ∙ j))
        same false true i j =
            let z : Some x ≡ Some y = sym e ∙ ap (λ n. slice_index_or ss n None) (eqb-true a.0 b.0 j) ∙ f in
            absurd (true≢false (sym (symbol_itself (Some x)) ∙ ap (is_same (Some x)) z ∙ i))
