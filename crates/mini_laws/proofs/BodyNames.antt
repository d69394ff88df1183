-- The names of the body of a resolved tree, and the scopes of a resolved node.
use Rattle.std.specs.Prelude.{ℕ, suc, ◌+◌, ◌≡◌, refl, Bool, true, false, ◌||◌, List, [], ◌∷◌, ◌++◌, length, drop, map, if◌then◌else◌}
use Rattle.std.proofs.Common.{ap, ◌∙◌, sym, subst, inl, inr}
use Rattle.std.proofs.lemmas.List.{append-nil}
use Rattle.mini_model.specs.declared.name.Name.{Name}
use Rattle.mini_model.specs.declared.shape.Shape.TheVariants as shape
use Rattle.mini_model.specs.Tree.{Tree, Trees, node, none, ◌▸◌}
use Rattle.mini_model.specs.Weight.{same_text}
use Rattle.mini_laws.specs.declared.names.Use.{Use}
use Rattle.mini_laws.specs.declared.names.Use.TheVariants.{Read, Hoisted}
use Rattle.mini_laws.specs.declared.names.Binding.{Binding}
use Rattle.mini_laws.specs.declared.names.Declared.TheVariants as declared
use Rattle.mini_laws.specs.DeclaredNames.{names_of, body_names, all_body_names, is_inner, has_inner, any_inner}
use Rattle.mini_laws.specs.Scopes.{use_of, is_alone, opened, scopes_by, lexical_scope, body_scope, merged}
use Rattle.mini_laws.specs.Resolved.{Environment, serves, with_symbol, numbered, symbols, resolved, resolved_from}
use Rattle.mini_laws.proofs.Numbers.{bound, counted, numbered_bound, numbers, fresh, with_fresh, fresh_distinct, Alike, SameSpellings, fresh_alike, From, from_spelling, settled}
use Rattle.mini_laws.proofs.Kept.{lexical_kept, hoisted_kept}

-- ---- names that have their symbols from an environment

from_read : (env : Environment) (xs : List Name) → Alike (From env) xs (map (with_symbol Read env) xs)
from_read env [] = tt
from_read env (x ∷ xs) = (record { by = inl refl }, from_read env xs)

from_hoisted : (env : Environment) (xs : List Name) → Alike (From env) xs (map (with_symbol Hoisted env) xs)
from_hoisted env [] = tt
from_hoisted env (x ∷ xs) = (record { by = inr refl }, from_hoisted env xs)

alike_both : (R : Name → Name → Type 0) (xs ys vs ws : List Name) → Alike R xs vs → Alike R ys ws → Alike R (xs ++ ys) (vs ++ ws)
alike_both R [] ys [] ws a b = b
alike_both R [] ys (v ∷ vs) ws a b = absurd a
alike_both R (x ∷ xs) ys [] ws a b = absurd a
alike_both R (x ∷ xs) ys (v ∷ vs) ws a b = (a.0, alike_both R xs ys vs ws a.1 b)

statement_kept : (u : Use) → is_alone u ≡ false → (env : Environment) (s : ℕ) (t : Tree) → Alike (From env) (names_of declared.Lexical t ++ names_of declared.Hoisted t) (names_of declared.Lexical (resolved u env s t) ++ names_of declared.Hoisted (resolved u env s t))
statement_kept u e env s t =
    alike_both (From env) (names_of declared.Lexical t) (names_of declared.Hoisted t) _ _
    (subst (Alike (From env) (names_of declared.Lexical t)) (sym (lexical_kept u e env s t)) (from_read env (names_of declared.Lexical t)))
    (subst (Alike (From env) (names_of declared.Hoisted t)) (sym (hoisted_kept u env s t)) (from_hoisted env (names_of declared.Hoisted t)))

mutual
  unfolding body_names resolved scopes_by

  pub body_kept : (u : Use) → is_alone u ≡ false → (env : Environment) (s : ℕ) (t : Tree) → Alike (From env) (body_names t) (body_names (resolved u env s t))
  body_kept u e env s (node shape.Listed xs n ts) = all_body_kept u e 0 env s ts
  body_kept u e env s (node shape.FunctionBody xs n ts) = all_body_kept Read refl 0 env s ts
  body_kept u e env s (node h xs n ts) = statement_kept u e env s (node h xs n ts)

  pub all_body_kept : (u : Use) → is_alone u ≡ false → (i : ℕ) (env : Environment) (s : ℕ) (ts : Trees) → Alike (From env) (all_body_names ts) (all_body_names (resolved_from (λ k. []) (λ k. u) i env s ts))
  all_body_kept u e i env s none = tt
  all_body_kept u e i env s (t ▸ ts) =
      subst (λ v. Alike (From v) (body_names t ++ all_body_names ts) (all_body_names (resolved_from (λ k. []) (λ k. u) i env s (t ▸ ts)))) (append-nil env)
      (alike_both (From (env ++ [])) (body_names t) (all_body_names ts) _ _ (body_kept u e (env ++ []) (s + 0) t) (all_body_kept u e (suc i) (env ++ []) (s + 0 + symbols u t) ts))

-- ---- scopes

read_serves : (h : Bool) (x : Name) → serves Read (record { name = x; hoists = h }) ≡ true
read_serves h x = refl

hoisted_serves : (x : Name) → serves Hoisted (record { name = x; hoists = true }) ≡ true
hoisted_serves x = refl

after_names : (p xs : List Name) → drop (length p) (p ++ xs) ≡ xs
after_names [] xs = refl
after_names (x ∷ p) xs = after_names p xs

lexical_is : (xs : List Name) → lexical_scope xs ≡ bound false (fresh [] xs)
lexical_is xs = ap (bound false) (with_fresh [] xs)

body_is : (p xs : List Name) → body_scope p xs ≡ bound true (fresh p xs)
body_is p xs = ap (bound true) (ap (drop (length p)) (with_fresh p xs) ∙ after_names p (fresh p xs))

-- names that are read from the environment into which they are declared
only_read : (env : Environment) (xs ys : List Name) → Alike (λ x y. y ≡ with_symbol Read env x) xs ys → ys ≡ map (with_symbol Read env) xs
only_read env [] [] a = refl
only_read env [] (y ∷ ys) a = absurd a
only_read env (x ∷ xs) [] a = absurd a
only_read env (x ∷ xs) (y ∷ ys) a = ap (λ z. z ∷ ys) a.0 ∙ ap (λ r. with_symbol Read env x ∷ r) (only_read env xs ys a.1)

read_alike : (env : Environment) (xs : List Name) → Alike (λ x y. y ≡ with_symbol Read env x) xs (map (with_symbol Read env) xs)
read_alike env [] = tt
read_alike env (x ∷ xs) = (refl, read_alike env xs)

fresh_read : (env : Environment) (xs : List Name) → fresh [] (map (with_symbol Read env) xs) ≡ map (with_symbol Read env) (fresh [] xs)
fresh_read env xs = only_read env (fresh [] xs) (fresh [] (map (with_symbol Read env) xs)) (fresh_alike (λ x y. y ≡ with_symbol Read env x) (λ x y e. ap (λ z. z.spelling) (sym e)) [] [] xs (map (with_symbol Read env) xs) (λ r. refl) (read_alike env xs))

-- a scope whose names are read in it
pub read_scope : (h : Bool) (env : Environment) (s : ℕ) (xs ys : List Name) → ys ≡ map (with_symbol Read (env ++ numbered s (bound h (fresh [] xs)))) xs → bound h (fresh [] ys) ≡ numbered s (bound h (fresh [] xs))
read_scope h env s xs ys e =
    let inner = env ++ numbered s (bound h (fresh [] xs)) in
    ap (λ r. bound h (fresh [] r)) e
    ∙ ap (bound h) (fresh_read inner xs
    ∙ ap (λ v. map (with_symbol Read (env ++ v)) (fresh [] xs)) (numbered_bound h s (fresh [] xs))
    ∙ numbers Read h (read_serves h) s env (fresh [] xs) (fresh_distinct [] xs))
    ∙ sym (numbered_bound h s (fresh [] xs))

pub lexical_scope_kept : (env : Environment) (s : ℕ) (xs ys : List Name) → ys ≡ map (with_symbol Read (env ++ numbered s (lexical_scope xs))) xs → lexical_scope ys ≡ numbered s (lexical_scope xs)
lexical_scope_kept env s xs ys e =
    lexical_is ys ∙ read_scope false env s xs ys (e ∙ ap (λ v. map (with_symbol Read (env ++ numbered s v)) xs) (lexical_is xs)) ∙ ap (numbered s) (sym (lexical_is xs))

pub params_scope_kept : (env : Environment) (s : ℕ) (xs ys : List Name) → ys ≡ map (with_symbol Read (env ++ numbered s (body_scope [] xs))) xs → body_scope [] ys ≡ numbered s (body_scope [] xs)
params_scope_kept env s xs ys e =
    body_is [] ys ∙ read_scope true env s xs ys (e ∙ ap (λ v. map (with_symbol Read (env ++ numbered s v)) xs) (body_is [] xs)) ∙ ap (numbered s) (sym (body_is [] xs))

-- the scope of a body
pub body_scope_kept : (env : Environment) (s : ℕ) (p q xs ys : List Name) → SameSpellings p q → Alike (From (env ++ numbered s (body_scope p xs))) xs ys → body_scope q ys ≡ numbered s (body_scope p xs)
body_scope_kept env s p q xs ys e a =
    let names = fresh p xs in
    let inner = env ++ numbered s (body_scope p xs) in
    let same : inner ≡ env ++ bound true (counted s names) = ap (λ v. env ++ numbered s v) (body_is p xs) ∙ ap (λ v. env ++ v) (numbered_bound true s names) in
    body_is q ys
    ∙ ap (bound true) (settled inner names (fresh q ys) (counted s names) (fresh_alike (From inner) (from_spelling inner) p q xs ys e a)
    (ap (λ v. map (with_symbol Read v) names) same ∙ numbers Read true (read_serves true) s env names (fresh_distinct p xs))
    (ap (λ v. map (with_symbol Hoisted v) names) same ∙ numbers Hoisted true hoisted_serves s env names (fresh_distinct p xs)))
    ∙ sym (numbered_bound true s names)
    ∙ ap (numbered s) (sym (body_is p xs))

-- ---- parameters

mutual
  unfolding has_inner resolved

  inner_kept : (u : Use) (env : Environment) (s : ℕ) (t : Tree) → has_inner (resolved u env s t) ≡ has_inner t
  inner_kept u env s (node h xs n ts) = ap (λ b. is_inner h || b) (any_inner_kept (opened u h ts) (use_of h u) 0 env s ts)

  any_inner_kept : (sc : ℕ → List Binding) (us : ℕ → Use) (i : ℕ) (env : Environment) (s : ℕ) (ts : Trees) → any_inner (resolved_from sc us i env s ts) ≡ any_inner ts
  any_inner_kept sc us i env s none = refl
  any_inner_kept sc us i env s (t ▸ ts) =
      let inner = env ++ numbered s (sc i) in
      ap (λ b. b || any_inner (resolved_from sc us (suc i) inner (s + length (sc i) + symbols (us i) t) ts)) (inner_kept (us i) inner (s + length (sc i)) t)
      ∙ ap (λ b. has_inner t || b) (any_inner_kept sc us (suc i) inner (s + length (sc i) + symbols (us i) t) ts)

same_spellings : (u : Use) (env : Environment) (xs : List Name) → SameSpellings xs (map (with_symbol u env) xs)
same_spellings u env [] r = refl
same_spellings u env (x ∷ xs) r = ap (λ b. same_text x.spelling r || b) (same_spellings u env xs r)

merged_by : (b c : Bool) (xs ys : List Name) → b ≡ c → SameSpellings xs ys → SameSpellings (if b then [] else xs) (if c then [] else ys)
merged_by true true xs ys e f = λ r. refl
merged_by true false xs ys e f = cc
merged_by false true xs ys e f = cc
merged_by false false xs ys e f = f

pub merged_kept : (u : Use) (env : Environment) (s : ℕ) (t : Tree) → names_of declared.Bound (resolved u env s t) ≡ map (with_symbol u env) (names_of declared.Bound t) → SameSpellings (merged t) (merged (resolved u env s t))
merged_kept u env s t e =
    merged_by (has_inner t) (has_inner (resolved u env s t)) (names_of declared.Bound t) (names_of declared.Bound (resolved u env s t)) (sym (inner_kept u env s t)) (subst (SameSpellings (names_of declared.Bound t)) (sym e) (same_spellings u env (names_of declared.Bound t)))
