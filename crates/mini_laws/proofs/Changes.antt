-- Edits that declare no symbol more often.
use Rattle.std.specs.Prelude.{ℕ, zero, suc, ◌+◌, ◌≡◌, refl, Bool, true, false, ◌||◌, List, [], ◌∷◌, ◌++◌, map, Option, if◌then◌else◌}
use Rattle.std.proofs.Common.{ap, ◌∙◌, arith}
use Rattle.mini_model.specs.declared.name.Name.{Name}
use Rattle.mini_model.specs.declared.name.SymbolId.{SymbolId}
use Rattle.mini_model.specs.declared.shape.Shape.{Shape}
use Rattle.mini_model.specs.Tree.{Tree, Trees, node, none, ◌▸◌, negation, conditional}
use Rattle.mini_laws.specs.declared.names.Use.{Use}
use Rattle.mini_laws.specs.declared.names.Use.TheVariants.{Read}
use Rattle.mini_laws.specs.declared.names.Binding.{Binding}
use Rattle.mini_laws.specs.declared.names.Declared.{Declared}
use Rattle.mini_laws.specs.declared.names.Declared.TheVariants as declared
use Rattle.mini_laws.specs.declared.names.Opening.{Opening}
use Rattle.mini_laws.specs.declared.names.Opening.TheVariants as opening
use Rattle.mini_laws.specs.DeclaredNames.{place_of, names_by, names_of, first_names, all_names, is_statement_list, body_names, all_body_names, with_names, is_inner, has_inner, any_inner}
use Rattle.mini_laws.specs.Scopes.{use_of, opening_of, scopes_by, at_or_empty, opened, name_if, lexical_scope, body_scope, merged}
use Rattle.mini_laws.specs.NameMoves.{let_alone, block}
use Rattle.mini_laws.specs.Symbols.{symbols_in, declared as declared_in, declared_from, times, Distinct, Within}
use Rattle.mini_laws.specs.Edits.{Kept, AllKept}

pub distinct : (u : Use) (t t' : Tree) → Kept t t' → Distinct (declared_in u t) → Distinct (declared_in u t')
distinct u t t' k d = λ x. omega (arith, k.symbols u x, d x)

pub twice : (t t' t'' : Tree) → Kept t t' → Kept t' t'' → Kept t t''
twice t t' t'' k m = record { names = λ d. m.names d ∙ k.names d; body = m.body ∙ k.body; inner = m.inner ∙ k.inner; symbols = λ u x. omega (arith, k.symbols u x, m.symbols u x) }

pub as_it_is : (t : Tree) → Kept t t
as_it_is t = record { names = λ d. refl; body = refl; inner = refl; symbols = λ u x. omega arith }

-- ---- what stands around

pub all_names_kept : (d : Declared) (ts ts' : Trees) → AllKept ts ts' → all_names d ts' ≡ all_names d ts
unfolding names_of
all_names_kept d none none k = refl
all_names_kept d none (t' ▸ ts') k = absurd k
all_names_kept d (t ▸ ts) none k = absurd k
all_names_kept d (t ▸ ts) (t' ▸ ts') k = ap (λ r. r ++ all_names d ts') (k.0.names d) ∙ ap (λ r. names_of d t ++ r) (all_names_kept d ts ts' k.1)

first_kept : (ts ts' : Trees) → AllKept ts ts' → first_names ts' ≡ first_names ts
unfolding names_of
first_kept none none k = refl
first_kept none (t' ▸ ts') k = absurd k
first_kept (t ▸ ts) none k = absurd k
first_kept (t ▸ ts) (t' ▸ ts') k = k.0.names declared.Bound

names_kept : (d : Declared) (h : Shape) (xs : List Name) (n : ℕ) (ts ts' : Trees) → AllKept ts ts' → names_of d (node h xs n ts') ≡ names_of d (node h xs n ts)
unfolding names_of
names_kept d h xs n ts ts' k =
    ap (λ a. names_by (place_of d h) xs a (all_names declared.Bound ts') (all_names d ts')) (first_kept ts ts' k)
    ∙ ap (λ b. names_by (place_of d h) xs (first_names ts) b (all_names d ts')) (all_names_kept declared.Bound ts ts' k)
    ∙ ap (λ c. names_by (place_of d h) xs (first_names ts) (all_names declared.Bound ts) c) (all_names_kept d ts ts' k)

all_body_kept : (ts ts' : Trees) → AllKept ts ts' → all_body_names ts' ≡ all_body_names ts
unfolding body_names
all_body_kept none none k = refl
all_body_kept none (t' ▸ ts') k = absurd k
all_body_kept (t ▸ ts) none k = absurd k
all_body_kept (t ▸ ts) (t' ▸ ts') k = ap (λ r. r ++ all_body_names ts') k.0.body ∙ ap (λ r. body_names t ++ r) (all_body_kept ts ts' k.1)

body_kept : (h : Shape) (xs : List Name) (n : ℕ) (ts ts' : Trees) → AllKept ts ts' → body_names (node h xs n ts') ≡ body_names (node h xs n ts)
unfolding body_names
body_kept h xs n ts ts' k =
    let by = λ (a b c : List Name). (if is_statement_list h then a else b ++ c) in
    let lexical' = names_of declared.Lexical (node h xs n ts') in
    let hoisted' = names_of declared.Hoisted (node h xs n ts') in
    ap (λ a. by a lexical' hoisted') (all_body_kept ts ts' k)
    ∙ ap (λ b. by (all_body_names ts) b hoisted') (names_kept declared.Lexical h xs n ts ts' k)
    ∙ ap (λ c. by (all_body_names ts) (names_of declared.Lexical (node h xs n ts)) c) (names_kept declared.Hoisted h xs n ts ts' k)

any_inner_kept : (ts ts' : Trees) → AllKept ts ts' → any_inner ts' ≡ any_inner ts
unfolding has_inner
any_inner_kept none none k = refl
any_inner_kept none (t' ▸ ts') k = absurd k
any_inner_kept (t ▸ ts) none k = absurd k
any_inner_kept (t ▸ ts) (t' ▸ ts') k = ap (λ b. b || any_inner ts') k.0.inner ∙ ap (λ b. has_inner t || b) (any_inner_kept ts ts' k.1)

inner_kept : (h : Shape) (xs : List Name) (n : ℕ) (ts ts' : Trees) → AllKept ts ts' → has_inner (node h xs n ts') ≡ has_inner (node h xs n ts)
unfolding has_inner
inner_kept h xs n ts ts' k = ap (λ b. is_inner h || b) (any_inner_kept ts ts' k)

-- ---- scopes

scope_by : (t t' : Tree) (d : Declared) → Kept t t' → lexical_scope (names_of d t') ≡ lexical_scope (names_of d t)
scope_by t t' d k = ap (λ r. lexical_scope r) (k.names d)

name_scope : (own : Bool) (t t' : Tree) → Kept t t' → lexical_scope (name_if own t') ≡ lexical_scope (name_if own t)
name_scope own t t' k = ap (λ r. lexical_scope (if own then r else [])) (k.names declared.Bound)

params_scope : (t t' : Tree) → Kept t t' → body_scope [] (names_of declared.Bound t') ≡ body_scope [] (names_of declared.Bound t)
params_scope t t' k = ap (λ r. body_scope [] r) (k.names declared.Bound)

own_scope : (p p' t t' : Tree) → Kept p p' → Kept t t' → body_scope (merged p') (body_names t') ≡ body_scope (merged p) (body_names t)
own_scope p p' t t' k m =
    ap (λ r. body_scope (merged p') r) m.body
    ∙ ap (λ b. body_scope (if b then [] else names_of declared.Bound p') (body_names t)) k.inner
    ∙ ap (λ r. body_scope (if has_inner p then [] else r) (body_names t)) (k.names declared.Bound)

abbrev pub Same : List (List Binding) → List (List Binding) → Type 0
Same [] [] = Unit {0}
Same [] (r ∷ rs) = ⊥
Same (s ∷ ss) [] = ⊥
Same (s ∷ ss) (r ∷ rs) = (r ≡ s) × Same ss rs

same_self : (ss : List (List Binding)) → Same ss ss
same_self [] = tt
same_self (s ∷ ss) = (refl, same_self ss)

pub scopes_kept : (o : Opening) (ts ts' : Trees) → AllKept ts ts' → Same (scopes_by o ts) (scopes_by o ts')
unfolding scopes_by
scopes_kept o none none k = same_self (scopes_by o none)
scopes_kept o none (t' ▸ ts') k = absurd k
scopes_kept o (t ▸ ts) none k = absurd k
scopes_kept opening.Nothing (t ▸ ts) (t' ▸ ts') k = tt
scopes_kept opening.Body (t ▸ ts) (t' ▸ ts') k = (ap (λ r. body_scope [] r) k.0.body, tt)
scopes_kept opening.First (t ▸ ts) (t' ▸ ts') k = (scope_by t t' declared.Lexical k.0, tt)
scopes_kept opening.Bound (t ▸ ts) (t' ▸ ts') k = (scope_by t t' declared.Bound k.0, tt)
scopes_kept opening.Second (a ▸ none) (a' ▸ none) k = tt
scopes_kept opening.Second (a ▸ none) (a' ▸ (t' ▸ ts')) k = absurd k.1
scopes_kept opening.Second (a ▸ (t ▸ ts)) (a' ▸ none) k = absurd k.1
scopes_kept opening.Second (a ▸ (t ▸ ts)) (a' ▸ (t' ▸ ts')) k = (refl, (scope_by t t' declared.Lexical k.1.0, tt))
scopes_kept (opening.Class own inside) (a ▸ none) (a' ▸ none) k = tt
scopes_kept (opening.Class own inside) (a ▸ none) (a' ▸ (t' ▸ ts')) k = absurd k.1
scopes_kept (opening.Class own inside) (a ▸ (h ▸ ts)) (a' ▸ none) k = absurd k.1
scopes_kept (opening.Class own inside) (a ▸ (h ▸ none)) (a' ▸ (h' ▸ none)) k = tt
scopes_kept (opening.Class own inside) (a ▸ (h ▸ none)) (a' ▸ (h' ▸ (b' ▸ ts'))) k = absurd k.1.1
scopes_kept (opening.Class own inside) (a ▸ (h ▸ (b ▸ ts))) (a' ▸ (h' ▸ none)) k = absurd k.1.1
scopes_kept (opening.Class own inside) (a ▸ (h ▸ (b ▸ none))) (a' ▸ (h' ▸ (b' ▸ none))) k = tt
scopes_kept (opening.Class own inside) (a ▸ (h ▸ (b ▸ none))) (a' ▸ (h' ▸ (b' ▸ (t' ▸ ts')))) k = absurd k.1.1.1
scopes_kept (opening.Class own inside) (a ▸ (h ▸ (b ▸ (t ▸ ts)))) (a' ▸ (h' ▸ (b' ▸ none))) k = absurd k.1.1.1
scopes_kept (opening.Class own inside) (a ▸ (h ▸ (b ▸ (t ▸ ts)))) (a' ▸ (h' ▸ (b' ▸ (t' ▸ ts')))) k = (name_scope own a a' k.0, (name_scope inside t t' k.1.1.1.0, tt))
scopes_kept opening.Arrow (a ▸ none) (a' ▸ none) k = tt
scopes_kept opening.Arrow (a ▸ none) (a' ▸ (t' ▸ ts')) k = absurd k.1
scopes_kept opening.Arrow (a ▸ (t ▸ ts)) (a' ▸ none) k = absurd k.1
scopes_kept opening.Arrow (a ▸ (t ▸ ts)) (a' ▸ (t' ▸ ts')) k = (params_scope a a' k.0, (own_scope a a' t t' k.0 k.1.0, tt))
scopes_kept (opening.Function own) (a ▸ none) (a' ▸ none) k = tt
scopes_kept (opening.Function own) (a ▸ none) (a' ▸ (p' ▸ ts')) k = absurd k.1
scopes_kept (opening.Function own) (a ▸ (p ▸ ts)) (a' ▸ none) k = absurd k.1
scopes_kept (opening.Function own) (a ▸ (p ▸ none)) (a' ▸ (p' ▸ none)) k = tt
scopes_kept (opening.Function own) (a ▸ (p ▸ none)) (a' ▸ (p' ▸ (t' ▸ ts'))) k = absurd k.1.1
scopes_kept (opening.Function own) (a ▸ (p ▸ (t ▸ ts))) (a' ▸ (p' ▸ none)) k = absurd k.1.1
scopes_kept (opening.Function own) (a ▸ (p ▸ (t ▸ ts))) (a' ▸ (p' ▸ (t' ▸ ts'))) k = (name_scope own a a' k.0, (params_scope p p' k.1.0, (own_scope p p' t t' k.1.0 k.1.1.0, tt)))

pub at_same : (ss rs : List (List Binding)) (i : ℕ) → Same ss rs → at_or_empty rs i ≡ at_or_empty ss i
at_same [] [] i e = refl
at_same [] (r ∷ rs) i e = absurd e
at_same (s ∷ ss) [] i e = absurd e
at_same (s ∷ ss) (r ∷ rs) zero e = e.0
at_same (s ∷ ss) (r ∷ rs) (suc i) e = at_same ss rs i e.1

-- ---- symbols

pub times_both : (x : Option SymbolId) (xs ys : List (Option SymbolId)) → times x (xs ++ ys) ≡ times x xs + times x ys
times_both x [] ys = omega arith
times_both x (y ∷ xs) ys = omega (arith, times_both x xs ys)

pub times_three : (x : Option SymbolId) (xs ys zs : List (Option SymbolId)) → times x (xs ++ (ys ++ zs)) ≡ times x xs + times x ys + times x zs
times_three x xs ys zs = omega (arith, times_both x xs (ys ++ zs), times_both x ys zs)

all_symbols_kept : (sc sc' : ℕ → List Binding) → ((i : ℕ) → sc' i ≡ sc i) → (us : ℕ → Use) (i : ℕ) (ts ts' : Trees) → AllKept ts ts' → Within (declared_from sc' us i ts') (declared_from sc us i ts)
unfolding declared_in
all_symbols_kept sc sc' e us i none none k x = omega arith
all_symbols_kept sc sc' e us i none (t' ▸ ts') k x = absurd k
all_symbols_kept sc sc' e us i (t ▸ ts) none k x = absurd k
all_symbols_kept sc sc' e us i (t ▸ ts) (t' ▸ ts') k x =
    omega (
      arith,
      times_three x (symbols_in (sc i)) (declared_in (us i) t) (declared_from sc us (suc i) ts),
      times_three x (symbols_in (sc' i)) (declared_in (us i) t') (declared_from sc' us (suc i) ts'),
      ap (λ bs. times x (symbols_in bs)) (e i),
      k.0.symbols (us i) x,
      all_symbols_kept sc sc' e us (suc i) ts ts' k.1 x,
    )

symbols_kept : (h : Shape) (xs : List Name) (n : ℕ) (ts ts' : Trees) → AllKept ts ts' → (u : Use) → Within (declared_in u (node h xs n ts')) (declared_in u (node h xs n ts))
unfolding declared_in
symbols_kept h xs n ts ts' k u = all_symbols_kept (opened u h ts) (opened u h ts') (λ i. at_same (scopes_by (opening_of u h) ts) (scopes_by (opening_of u h) ts') i (scopes_kept (opening_of u h) ts ts' k)) (use_of h u) 0 ts ts' k

pub below : (h : Shape) (xs : List Name) (n : ℕ) (ts ts' : Trees) → AllKept ts ts' → Kept (node h xs n ts) (node h xs n ts')
below h xs n ts ts' k = record { names = λ d. names_kept d h xs n ts ts' k; body = body_kept h xs n ts ts' k; inner = inner_kept h xs n ts ts' k; symbols = symbols_kept h xs n ts ts' k }

-- ---- two edits

abbrev quiet : Use → Trees → List (Option SymbolId)
quiet u ts = declared_from (λ k. []) (λ k. u) 0 ts

shifted : (i j : ℕ) (ts : Trees) → declared_from (λ k. []) (λ k. Read) i ts ≡ declared_from (λ k. []) (λ k. Read) j ts
unfolding declared_in
shifted i j none = refl
shifted i j (t ▸ ts) = ap (λ r. declared_in Read t ++ r) (shifted (suc i) (suc j) ts)

swap_inner : (a b c : Bool) → (a || (c || (b || false))) ≡ ((a || false) || (b || (c || false)))
swap_inner true b c = refl
swap_inner false true true = refl
swap_inner false true false = refl
swap_inner false false true = refl
swap_inner false false false = refl

swapped_names : (a b c : Tree) → (d : Declared) → names_of d (conditional a c b) ≡ names_of d (conditional (negation a) b c)
unfolding names_of
swapped_names a b c declared.Bound = refl
swapped_names a b c declared.Lexical = refl
swapped_names a b c declared.Hoisted = refl

swapped_body : (a b c : Tree) → body_names (conditional a c b) ≡ body_names (conditional (negation a) b c)
unfolding body_names names_of
swapped_body a b c = refl

swapped_inner : (a b c : Tree) → has_inner (conditional a c b) ≡ has_inner (conditional (negation a) b c)
unfolding has_inner
swapped_inner a b c = swap_inner (has_inner a) (has_inner b) (has_inner c)

swapped_symbols : (a b c : Tree) (u : Use) → Within (declared_in u (conditional a c b)) (declared_in u (conditional (negation a) b c))
unfolding declared_in scopes_by
swapped_symbols a b c u x =
    let da = declared_in Read a in
    let db = declared_in Read b in
    let dc = declared_in Read c in
    let one = times_three x da dc (db ++ []) in
    let two = times_three x (da ++ []) db (dc ++ []) in
    omega (arith, one, two, times_both x da [], times_both x db [], times_both x dc [])

pub by_swap : (a b c : Tree) → Kept (conditional (negation a) b c) (conditional a c b)
by_swap a b c = record { names = swapped_names a b c; body = swapped_body a b c; inner = swapped_inner a b c; symbols = swapped_symbols a b c }

dropped_names : (x : Name) (rest : Trees) (d : Declared) → names_of d (block rest) ≡ names_of d (block (let_alone x ▸ rest))
unfolding names_of
dropped_names x rest declared.Bound = refl
dropped_names x rest declared.Lexical = refl
dropped_names x rest declared.Hoisted = refl

dropped_body : (x : Name) (rest : Trees) → body_names (block rest) ≡ body_names (block (let_alone x ▸ rest))
unfolding body_names names_of
dropped_body x rest = refl

dropped_inner : (x : Name) (rest : Trees) → has_inner (block rest) ≡ has_inner (block (let_alone x ▸ rest))
unfolding has_inner
dropped_inner x rest = refl

dropped_symbols : (x : Name) (rest : Trees) → with_names (x ∷ []) (all_names declared.Lexical rest) ≡ x ∷ with_names [] (all_names declared.Lexical rest) → (u : Use) → Within (declared_in u (block rest)) (declared_in u (block (let_alone x ▸ rest)))
unfolding declared_in scopes_by names_of with_names
dropped_symbols x rest e u s =
    let bind = λ (y : Name). (let b : Binding = record { name = y; hoists = false } in b) in
    let own = symbols_in (map bind (with_names [] (all_names declared.Lexical rest))) in
    let own' = symbols_in (map bind (with_names (x ∷ []) (all_names declared.Lexical rest))) in
    let old = declared_from (λ k. []) (λ k. Read) 1 rest in
    let new = declared_from (λ k. []) (λ k. Read) 0 rest in
    omega (arith, times_three s own' old [], times_three s own new [], ap (times s) (shifted 1 0 rest), ap (λ ys. times s (symbols_in (map bind ys))) e)

pub by_drop : (x : Name) (rest : Trees) → with_names (x ∷ []) (all_names declared.Lexical rest) ≡ x ∷ with_names [] (all_names declared.Lexical rest) → Kept (block (let_alone x ▸ rest)) (block rest)
by_drop x rest e = record { names = dropped_names x rest; body = dropped_body x rest; inner = dropped_inner x rest; symbols = dropped_symbols x rest e }
