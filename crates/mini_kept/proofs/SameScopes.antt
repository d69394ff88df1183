-- A scope is told by the first name of each spelling.
use Rattle.std.specs.Prelude.{ℕ, ◌+◌, ◌≤◌, ◌≡◌, refl, Bool, true, false, ◌&&◌, ◌||◌, nat_eq, List, [], ◌∷◌, ◌++◌, length, drop, map, Option, Some, None, if◌then◌else◌}
use Rattle.std.proofs.Common.{ap, ◌∙◌, sym, subst, arith}
use Rattle.std.proofs.lemmas.Bool.{and_parts, eqb-true, eq-eqb}
use Rattle.mini_model.specs.declared.name.Name.{Name}
use Rattle.mini_model.specs.declared.name.SymbolId.{SymbolId}
use Rattle.mini_model.specs.Weight.{same_text}
use Rattle.mini_laws.specs.declared.names.Use.{Use}
use Rattle.mini_laws.specs.declared.names.Use.TheVariants.{Read, Write, ReadWrite, Hoisted, Headed, Alone}
use Rattle.mini_laws.specs.DeclaredNames.{is_spelled}
use Rattle.mini_laws.specs.Scopes.{body_scope}
use Rattle.mini_laws.specs.Resolved.{Environment, or_else, serves, own_symbol, symbol_of}
use Rattle.mini_laws.specs.Scoped.{NamesScoped}
use Rattle.mini_laws.specs.Symbols.{symbols_in, is_same, times, Within}
use Rattle.mini_laws.proofs.Numbers.{or_none, bound, Distinct, fresh, with_fresh, fresh_distinct}
use Rattle.mini_kept.specs.SameNames.{is_name, is_among, SameNames, first_symbol, SameScope}
use Rattle.mini_kept.proofs.Bools.{both}

-- ---- texts and names

pub same_texts : (s r : List ℕ) → same_text s r ≡ true → s ≡ r
same_texts [] [] e = refl
same_texts [] (y ∷ r) e = absurd (cc e)
same_texts (x ∷ s) [] e = absurd (cc e)
same_texts (x ∷ s) (y ∷ r) e =
    let (own, rest) = and_parts (nat_eq x y) (same_text s r) e in
    λ k. eqb-true x y own k ∷ same_texts s r rest k

pub text_itself : (s : List ℕ) → same_text s s ≡ true
text_itself [] = refl
text_itself (x ∷ s) = both (nat_eq x x) (same_text s s) (eq-eqb x x refl) (text_itself s)

same_symbol : (o q : Option SymbolId) → is_same o q ≡ true → o ≡ q
same_symbol None None e = refl
same_symbol None (Some y) e = absurd (cc e)
same_symbol (Some x) None e = absurd (cc e)
same_symbol (Some x) (Some y) e = λ k. Some (record { 0 = eqb-true x.0 y.0 e k })

symbol_itself : (o : Option SymbolId) → is_same o o ≡ true
symbol_itself None = refl
symbol_itself (Some x) = eq-eqb x.0 x.0 refl

pub same_name : (x y : Name) → is_name x y ≡ true → x ≡ y
same_name x y e =
    let (texts, symbols) = and_parts (same_text x.spelling y.spelling) (is_same x.symbol y.symbol) e in
    λ k. record { spelling = same_texts x.spelling y.spelling texts k; symbol = same_symbol x.symbol y.symbol symbols k }

pub name_itself : (x : Name) → is_name x x ≡ true
name_itself x = both (same_text x.spelling x.spelling) (is_same x.symbol x.symbol) (text_itself x.spelling) (symbol_itself x.symbol)

-- a spelling that one has and another hasn't
apart : (s r : List ℕ) (xs : List Name) → same_text r s ≡ true → is_spelled r xs ≡ is_spelled s xs
apart s r xs e = ap (λ q. is_spelled q xs) (same_texts r s e)

-- ---- the first name of a spelling

abbrev or_first : Option (Option SymbolId) → Option (Option SymbolId) → Option (Option SymbolId)
or_first None y = y
or_first (Some x) y = Some x

first_by : (b : Bool) (x y z : Option (Option SymbolId)) → x ≡ or_first y z → (q : Option SymbolId) → (if b then Some q else x) ≡ or_first (if b then Some q else y) z
first_by true x y z e q = refl
first_by false x y z e q = e

pub first_both : (s : List ℕ) (xs ys : List Name) → first_symbol s (xs ++ ys) ≡ or_first (first_symbol s xs) (first_symbol s ys)
first_both s [] ys = refl
first_both s (x ∷ xs) ys = first_by (same_text x.spelling s) (first_symbol s (xs ++ ys)) (first_symbol s xs) (first_symbol s ys) (first_both s xs ys) x.symbol

pub scope_both : (xs ys xs' ys' : List Name) → SameScope xs xs' → SameScope ys ys' → SameScope (xs ++ ys) (xs' ++ ys')
scope_both xs ys xs' ys' e f s = first_both s xs ys ∙ (λ k. or_first (e s k) (f s k)) ∙ sym (first_both s xs' ys')

-- ---- of the names that are new

chosen_none : (b : Bool) (o : Option (Option SymbolId)) → o ≡ None → o ≡ (if b then None else o)
chosen_none true o e = e
chosen_none false o e = refl

spelled_both : (s : List ℕ) (xs : List Name) (y : Name) → is_spelled s (xs ++ y ∷ []) ≡ (is_spelled s xs || (same_text y.spelling s || false))
spelled_both s [] y = refl
spelled_both s (x ∷ xs) y = ap (λ b. same_text x.spelling s || b) (spelled_both s xs y) ∙ grouped (same_text x.spelling s) (is_spelled s xs) (same_text y.spelling s || false)
  where
    grouped : (a b c : Bool) → (a || (b || c)) ≡ ((a || b) || c)
    grouped true b c = refl
    grouped false b c = refl

or_not : (a b : Bool) → b ≡ false → (a || (b || false)) ≡ a
or_not true b e = refl
or_not false true e = e
or_not false false e = refl

fresh_by : (s : List ℕ) (seen : List Name) (x : Name) (xs : List Name) (a b : Bool) → is_spelled x.spelling seen ≡ a → same_text x.spelling s ≡ b
    → first_symbol s (fresh seen xs) ≡ (if is_spelled s seen then None else first_symbol s xs)
    → first_symbol s (fresh (seen ++ x ∷ []) xs) ≡ (if is_spelled s (seen ++ x ∷ []) then None else first_symbol s xs)
    → first_symbol s (if a then fresh seen xs else x ∷ fresh (seen ++ x ∷ []) xs) ≡ (if is_spelled s seen then None else (if b then Some x.symbol else first_symbol s xs))
fresh_by s seen x xs true true e f i j =
    let seen_it : is_spelled s seen ≡ true = sym (apart s x.spelling seen f) ∙ e in
    i ∙ ap (λ c. if c then None else first_symbol s xs) seen_it ∙ sym (ap (λ c. if c then None else Some x.symbol) seen_it)
fresh_by s seen x xs true false e f i j = i
fresh_by s seen x xs false true e f i j =
    let unseen : is_spelled s seen ≡ false = sym (apart s x.spelling seen f) ∙ e in
    ap (λ c. if c then Some x.symbol else first_symbol s (fresh (seen ++ x ∷ []) xs)) f ∙ sym (ap (λ c. if c then None else Some x.symbol) unseen)
fresh_by s seen x xs false false e f i j =
    ap (λ c. if c then Some x.symbol else first_symbol s (fresh (seen ++ x ∷ []) xs)) f ∙ j
    ∙ ap (λ c. if c then None else first_symbol s xs) (spelled_both s seen x ∙ or_not (is_spelled s seen) (same_text x.spelling s) f)

first_fresh : (s : List ℕ) (seen xs : List Name) → first_symbol s (fresh seen xs) ≡ (if is_spelled s seen then None else first_symbol s xs)
first_fresh s seen [] = chosen_none (is_spelled s seen) None refl
first_fresh s seen (x ∷ xs) = fresh_by s seen x xs (is_spelled x.spelling seen) (same_text x.spelling s) refl refl (first_fresh s seen xs) (first_fresh s (seen ++ x ∷ []) xs)

fresh_same : (p xs ys : List Name) → SameScope ys xs → SameScope (fresh p ys) (fresh p xs)
fresh_same p xs ys e s = first_fresh s p ys ∙ ap (λ o. if is_spelled s p then None else o) (e s) ∙ sym (first_fresh s p xs)

-- ---- the symbol that is found

abbrev given : Option (Option SymbolId) → Option SymbolId
given None = None
given (Some x) = x

serves_all : (u : Use) (x : Name) → serves u (record { name = x; hoists = true }) ≡ true
serves_all Read x = refl
serves_all Write x = refl
serves_all ReadWrite x = refl
serves_all Hoisted x = refl
serves_all Headed x = refl
serves_all Alone x = refl

none_first : (s : List ℕ) (xs : List Name) → is_spelled s xs ≡ false → first_symbol s xs ≡ None
none_first s [] e = refl
none_first s (x ∷ xs) e = by (λ f. none_first s xs f) (same_text x.spelling s) refl
  where
    by : (is_spelled s xs ≡ false → first_symbol s xs ≡ None) → (b : Bool) → same_text x.spelling s ≡ b → (if same_text x.spelling s then Some x.symbol else first_symbol s xs) ≡ None
    by rest true f = absurd (cc (sym e ∙ ap (λ c. c || is_spelled s xs) f))
    by rest false f = ap (λ c. if c then Some x.symbol else first_symbol s xs) f ∙ rest (ap (λ c. c || is_spelled s xs) (sym f) ∙ e)

found_by : (s : List ℕ) (x : Name) (xs : List Name) (b : Bool) → same_text x.spelling s ≡ b → is_spelled x.spelling xs ≡ false → or_else (given (first_symbol s xs)) (if b then x.symbol else None) ≡ given (if b then Some x.symbol else first_symbol s xs)
found_by s x xs true e d = ap (λ o. or_else (given o) x.symbol) (none_first s xs (sym (apart s x.spelling xs e) ∙ d))
found_by s x xs false e d = or_none (given (first_symbol s xs))

found : (u : Use) (s : List ℕ) (xs : List Name) → Distinct xs → symbol_of u s (bound true xs) ≡ given (first_symbol s xs)
found u s [] d = refl
found u s (x ∷ xs) d =
    ap (λ o. or_else o (own_symbol u s (record { name = x; hoists = true }))) (found u s xs d.1)
    ∙ ap (λ c. or_else (given (first_symbol s xs)) (if c && same_text x.spelling s then x.symbol else None)) (serves_all u x)
    ∙ found_by s x xs (same_text x.spelling s) refl d.0

-- ---- and how often a symbol is declared

-- without the first name of a spelling
abbrev less : List ℕ → List Name → List Name
less s [] = []
less s (x ∷ xs) = if same_text x.spelling s then xs else x ∷ less s xs

abbrev symbols : List Name → List (Option SymbolId)
symbols xs = map (λ x. x.symbol) xs

abbrev once : Bool → ℕ
once b = if b then 1 else 0

less_times : (x : Option SymbolId) (s : List ℕ) (q : Option SymbolId) (ys : List Name) → first_symbol s ys ≡ Some q → times x (symbols ys) ≡ once (is_same x q) + times x (symbols (less s ys))
less_times x s q [] e = absurd (cc e)
less_times x s q (y ∷ ys) e = by (λ f. less_times x s q ys f) (same_text y.spelling s) refl
  where
    by : (first_symbol s ys ≡ Some q → times x (symbols ys) ≡ once (is_same x q) + times x (symbols (less s ys))) → (b : Bool) → same_text y.spelling s ≡ b → once (is_same x y.symbol) + times x (symbols ys) ≡ once (is_same x q) + times x (symbols (if same_text y.spelling s then ys else y ∷ less s ys))
    by rest true f =
        let same : y.symbol ≡ q = ap given (sym (ap (λ c. if c then Some y.symbol else first_symbol s ys) f) ∙ e) in
        ap (λ o. once (is_same x o) + times x (symbols ys)) same ∙ sym (ap (λ c. once (is_same x q) + times x (symbols (if c then ys else y ∷ less s ys))) f)
    by rest false f =
        let others : times x (symbols ys) ≡ once (is_same x q) + times x (symbols (less s ys)) = rest (sym (ap (λ c. if c then Some y.symbol else first_symbol s ys) f) ∙ e) in
        let moved : once (is_same x y.symbol) + times x (symbols ys) ≡ once (is_same x q) + (once (is_same x y.symbol) + times x (symbols (less s ys))) = omega (arith, others) in
        moved ∙ sym (ap (λ c. once (is_same x q) + times x (symbols (if c then ys else y ∷ less s ys))) f)

less_first : (s r : List ℕ) (ys : List Name) → same_text r s ≡ false → first_symbol s (less r ys) ≡ first_symbol s ys
less_first s r [] e = refl
less_first s r (y ∷ ys) e = by (less_first s r ys e) (same_text y.spelling r) refl
  where
    by : first_symbol s (less r ys) ≡ first_symbol s ys → (b : Bool) → same_text y.spelling r ≡ b → first_symbol s (if same_text y.spelling r then ys else y ∷ less r ys) ≡ (if same_text y.spelling s then Some y.symbol else first_symbol s ys)
    by rest true f =
        let other : same_text y.spelling s ≡ false = ap (λ q. same_text q s) (same_texts y.spelling r f) ∙ e in
        ap (λ c. first_symbol s (if c then ys else y ∷ less r ys)) f ∙ sym (ap (λ c. if c then Some y.symbol else first_symbol s ys) other)
    by rest false f = ap (λ c. first_symbol s (if c then ys else y ∷ less r ys)) f ∙ ap (λ o. if same_text y.spelling s then Some y.symbol else o) rest

-- of names that are spelled differently, each of which is the first with its spelling there
within : (x : Option SymbolId) (xs ys : List Name) → Distinct xs → ((s : List ℕ) (q : Option SymbolId) → first_symbol s xs ≡ Some q → first_symbol s ys ≡ Some q) → times x (symbols xs) ≤ times x (symbols ys)
within x [] ys d f = omega arith
within x (a ∷ xs) ys d f =
    let here = f a.spelling a.symbol (ap (λ c. if c then Some a.symbol else first_symbol a.spelling xs) (text_itself a.spelling)) in
    omega (arith, less_times x a.spelling a.symbol ys here, within x xs (less a.spelling ys) d.1 rest)
  where
    rest : (s : List ℕ) (q : Option SymbolId) → first_symbol s xs ≡ Some q → first_symbol s (less a.spelling ys) ≡ Some q
    rest s q e = by (same_text a.spelling s) refl
      where
        by : (b : Bool) → same_text a.spelling s ≡ b → first_symbol s (less a.spelling ys) ≡ Some q
        by true g = absurd (cc (sym e ∙ none_first s xs (sym (apart s a.spelling xs g) ∙ d.0)))
        by false g = less_first s a.spelling ys g ∙ f s q (ap (λ c. if c then Some a.symbol else first_symbol s xs) g ∙ e)

-- ---- scopes of bodies

after_names : (p xs : List Name) → drop (length p) (p ++ xs) ≡ xs
after_names [] xs = refl
after_names (x ∷ p) xs = after_names p xs

body_is : (p xs : List Name) → body_scope p xs ≡ bound true (fresh p xs)
body_is p xs = ap (bound true) (ap (drop (length p)) (with_fresh p xs) ∙ after_names p (fresh p xs))

symbols_are : (xs : List Name) → symbols_in (bound true xs) ≡ symbols xs
symbols_are [] = refl
symbols_are (x ∷ xs) = ap (λ r. x.symbol ∷ r) (symbols_are xs)

pub body_found : (p xs ys : List Name) → SameScope ys xs → (u : Use) (s : List ℕ) → symbol_of u s (body_scope p xs) ≡ symbol_of u s (body_scope p ys)
body_found p xs ys e u s =
    ap (symbol_of u s) (body_is p xs) ∙ found u s (fresh p xs) (fresh_distinct p xs) ∙ ap given (sym (fresh_same p xs ys e s))
    ∙ sym (ap (symbol_of u s) (body_is p ys) ∙ found u s (fresh p ys) (fresh_distinct p ys))

pub body_within : (p xs ys : List Name) → SameScope ys xs → Within (symbols_in (body_scope p ys)) (symbols_in (body_scope p xs))
body_within p xs ys e x =
    let here = ap (λ bs. times x (symbols_in bs)) (body_is p ys) ∙ ap (times x) (symbols_are (fresh p ys)) in
    let there = ap (λ bs. times x (symbols_in bs)) (body_is p xs) ∙ ap (times x) (symbols_are (fresh p xs)) in
    omega (arith, here, there, within x (fresh p ys) (fresh p xs) (fresh_distinct p ys) (λ s q f. sym (fresh_same p xs ys e s) ∙ f))

-- ---- names that have their symbols from one environment

abbrev name_in : Use → Environment → List ℕ → Name
name_in u env s = record { spelling = s; symbol = symbol_of u s env }

spelled_among : (u : Use) (env : Environment) (s : List ℕ) (xs : List Name) → NamesScoped u env xs → is_among xs (name_in u env s) ≡ is_spelled s xs
spelled_among u env s [] h = refl
spelled_among u env s (x ∷ xs) h = (λ k. by (same_text x.spelling s) refl k || spelled_among u env s xs h.1 k)
  where
    by : (b : Bool) → same_text x.spelling s ≡ b → (same_text x.spelling s && is_same x.symbol (symbol_of u s env)) ≡ same_text x.spelling s
    by true e =
        let same : is_same x.symbol (symbol_of u s env) ≡ true = ap (λ o. is_same o (symbol_of u s env)) (h.0 ∙ ap (λ r. symbol_of u r env) (same_texts x.spelling s e)) ∙ symbol_itself (symbol_of u s env) in
        ap (λ c. same_text x.spelling s && c) same ∙ whole (same_text x.spelling s)
      where
        whole : (c : Bool) → (c && true) ≡ c
        whole true = refl
        whole false = refl
    by false e = ap (λ c. c && is_same x.symbol (symbol_of u s env)) e ∙ sym e

first_scoped : (u : Use) (env : Environment) (s : List ℕ) (xs : List Name) → NamesScoped u env xs → first_symbol s xs ≡ (if is_spelled s xs then Some (symbol_of u s env) else None)
first_scoped u env s [] h = refl
first_scoped u env s (x ∷ xs) h = by (first_scoped u env s xs h.1) (same_text x.spelling s) refl
  where
    by : first_symbol s xs ≡ (if is_spelled s xs then Some (symbol_of u s env) else None) → (b : Bool) → same_text x.spelling s ≡ b → (if same_text x.spelling s then Some x.symbol else first_symbol s xs) ≡ (if same_text x.spelling s || is_spelled s xs then Some (symbol_of u s env) else None)
    by rest true e =
        ap (λ c. if c then Some x.symbol else first_symbol s xs) e
        ∙ ap Some (h.0 ∙ ap (λ r. symbol_of u r env) (same_texts x.spelling s e))
        ∙ sym (ap (λ c. if c || is_spelled s xs then Some (symbol_of u s env) else None) e)
    by rest false e =
        ap (λ c. if c then Some x.symbol else first_symbol s xs) e
        ∙ rest
        ∙ sym (ap (λ c. if c || is_spelled s xs then Some (symbol_of u s env) else None) e)

scoped_among : (u : Use) (env : Environment) (xs : List Name) (y : Name) → NamesScoped u env xs → is_among xs y ≡ true → y.symbol ≡ symbol_of u y.spelling env
scoped_among u env [] y h e = absurd (cc e)
scoped_among u env (x ∷ xs) y h e = by (λ f. scoped_among u env xs y h.1 f) (is_name x y) refl
  where
    by : (is_among xs y ≡ true → y.symbol ≡ symbol_of u y.spelling env) → (b : Bool) → is_name x y ≡ b → y.symbol ≡ symbol_of u y.spelling env
    by rest true f = subst (λ z. z.symbol ≡ symbol_of u z.spelling env) (same_name x y f) h.0
    by rest false f = rest (ap (λ c. c || is_among xs y) (sym f) ∙ e)

all_scoped : (u : Use) (env : Environment) (xs ys : List Name) → NamesScoped u env xs → ((y : Name) → is_among ys y ≡ true → is_among xs y ≡ true) → NamesScoped u env ys
all_scoped u env xs [] h f = tt
all_scoped u env xs (y ∷ ys) h f = (scoped_among u env xs y h (f y (ap (λ c. c || is_among ys y) (name_itself y))), all_scoped u env xs ys h (λ z e. f z (also (is_name y z) (is_among ys z) e)))
  where
    also : (a b : Bool) → b ≡ true → (a || b) ≡ true
    also true b e = refl
    also false b e = e

-- the same names, with the symbols that one environment gives, make the same scope
pub scope_of_names : (u : Use) (env : Environment) (xs ys : List Name) → NamesScoped u env xs → SameNames ys xs → SameScope ys xs
scope_of_names u env xs ys h e s =
    let k : NamesScoped u env ys = all_scoped u env xs ys h (λ y f. sym (e y) ∙ f) in
    first_scoped u env s ys k
    ∙ ap (λ c. if c then Some (symbol_of u s env) else None) (sym (spelled_among u env s ys k) ∙ e (name_in u env s) ∙ spelled_among u env s xs h)
    ∙ sym (first_scoped u env s xs h)
