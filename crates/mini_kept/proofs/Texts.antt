-- A tree as it is written, without its numbers and symbols. Resolution gives symbols alone.
use Rattle.std.specs.Prelude.{ℕ, suc, ◌+◌, ◌≡◌, refl, true, not, List, [], ◌∷◌, ◌++◌, length, map, is_some, Option, Some, None}
use Rattle.std.proofs.Common.{ap, ◌∙◌, sym}
use Rattle.std.proofs.lemmas.Bool.{and_parts}
use Rattle.mini_model.specs.declared.name.Name.{Name}
use Rattle.mini_model.specs.declared.name.SymbolId.{SymbolId}
use Rattle.mini_model.specs.declared.shape.Shape.{Shape}
use Rattle.mini_model.specs.declared.shape.Shape.TheVariants as shape
use Rattle.mini_model.specs.Tree.{Tree, Trees, node, none, ◌▸◌}
use Rattle.mini_laws.specs.declared.names.Use.{Use}
use Rattle.mini_laws.specs.declared.names.Use.TheVariants.{Read}
use Rattle.mini_laws.specs.declared.names.Binding.{Binding}
use Rattle.mini_laws.specs.Scopes.{use_of, opened}
use Rattle.mini_laws.specs.Resolved.{Environment, names_in, with_symbol, numbered, symbols, resolved, resolved_from, resolved_program}
use Rattle.mini_laws.specs.Symbols.{with_new, no_symbol, bare_names, bare, all_bare}
use Rattle.mini_accept.specs.Symbols.{are_unresolved, are_as_written, has_no_symbol, have_no_symbol}
use Rattle.mini_kept.specs.Carried.{renumbered, all_renumbered}

abbrev pub text : Tree → Tree
text t = renumbered (λ n. 0) (bare t)

abbrev pub texts : Trees → Trees
texts ts = all_renumbered (λ n. 0) (all_bare ts)

-- ---- the symbols of resolution are no part of it

symbols_gone : (u : Use) (env : Environment) (xs : List Name) → map (with_new no_symbol) (map (with_symbol u env) xs) ≡ map (with_new no_symbol) xs
symbols_gone u env [] = refl
symbols_gone u env (x ∷ xs) = λ k. with_new no_symbol x ∷ symbols_gone u env xs k

names_bare : (u : Use) (env : Environment) (h : Shape) (xs : List Name) (ts : Trees) → bare_names h (names_in u env h xs ts) ≡ bare_names h xs
names_bare u env shape.VariableDeclarator xs ts = refl
names_bare u env h xs ts = symbols_gone u env xs

mutual
  unfolding resolved bare

  bare_tree : (u : Use) (env : Environment) (s : ℕ) (t : Tree) → bare (resolved u env s t) ≡ bare t
  bare_tree u env s (node h xs n ts) = λ k. node h (names_bare u env h xs ts k) n (bare_trees (opened u h ts) (use_of h u) 0 env s ts k)

  bare_trees : (sc : ℕ → List Binding) (us : ℕ → Use) (i : ℕ) (env : Environment) (s : ℕ) (ts : Trees) → all_bare (resolved_from sc us i env s ts) ≡ all_bare ts
  bare_trees sc us i env s none = refl
  bare_trees sc us i env s (t ▸ ts) =
      let inner = env ++ numbered s (sc i) in
      let r = s + length (sc i) in
      λ k. bare_tree (us i) inner r t k ▸ bare_trees sc us (suc i) inner (r + symbols (us i) t) ts k

pub bare_resolved : (t : Tree) → bare (resolved_program t) ≡ bare t
bare_resolved t = bare_tree Read [] 0 t

-- so what doesn't look at symbols doesn't look at resolution
pub read_resolved : {A : Type 0} (f : Tree → A) → ((t : Tree) → f (bare t) ≡ f t) → (t : Tree) → f (resolved_program t) ≡ f t
read_resolved f blind t = sym (blind (resolved_program t)) ∙ ap f (bare_resolved t) ∙ blind t

pub text_resolved : (t : Tree) → text (resolved_program t) ≡ text t
text_resolved t = ap (renumbered (λ n. 0)) (bare_resolved t)

-- and what looks at neither reads two trees alike that are written alike
pub read_alike : {A : Type 0} (f : Tree → A) → ((t : Tree) → f (text t) ≡ f t) → (t u : Tree) → text t ≡ text u → f t ≡ f u
read_alike f blind t u e = sym (blind t) ∙ ap f e ∙ blind u

-- ---- a tree without symbols

none_so : {A : Type 0} (o : Option A) → not (is_some o) ≡ true → None ≡ o
none_so None e = refl
none_so (Some x) e = absurd (cc e)

names_same : (xs : List Name) → are_unresolved xs ≡ true → map (with_new no_symbol) xs ≡ xs
names_same [] e = refl
names_same (x ∷ xs) e =
    let (own, rest) = and_parts (not (is_some x.symbol)) (are_unresolved xs) e in
    λ k. record { spelling = x.spelling; symbol = none_so x.symbol own k } ∷ names_same xs rest k

as_written : (h : Shape) (xs : List Name) → are_as_written h xs ≡ true → bare_names h xs ≡ xs
as_written shape.VariableDeclarator [] e = refl
as_written shape.VariableDeclarator (x ∷ xs) e = absurd (cc e)
as_written h [] e = refl
as_written h (x ∷ xs) e = names_same (x ∷ xs) e

mutual
  unfolding bare

  pub bare_same : (t : Tree) → has_no_symbol t ≡ true → bare t ≡ t
  bare_same (node h xs n ts) e =
      let (own, below) = and_parts (are_as_written h xs) (have_no_symbol ts) e in
      λ k. node h (as_written h xs own k) n (bares_same ts below k)

  bares_same : (ts : Trees) → have_no_symbol ts ≡ true → all_bare ts ≡ ts
  bares_same none e = refl
  bares_same (t ▸ ts) e =
      let (own, rest) = and_parts (has_no_symbol t) (have_no_symbol ts) e in
      λ k. bare_same t own k ▸ bares_same ts rest k
