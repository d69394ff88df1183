-- Resolution keeps the references of a tree, but for their symbols.
use Rattle.std.specs.Prelude.{ℕ, suc, ◌+◌, ◌≡◌, refl, List, [], ◌∷◌, ◌++◌, length, map}
use Rattle.std.proofs.Common.{ap, ◌∙◌, sym, arith}
use Rattle.std.proofs.lemmas.List.{length-append}
use Rattle.mini_model.specs.declared.name.Name.{Name}
use Rattle.mini_model.specs.declared.shape.Shape.{Shape}
use Rattle.mini_model.specs.declared.shape.Shape.TheVariants as shape
use Rattle.mini_model.specs.Tree.{Tree, Trees, node, none, ◌▸◌}
use Rattle.mini_laws.specs.declared.names.Use.{Use}
use Rattle.mini_laws.specs.declared.names.Binding.{Binding}
use Rattle.mini_laws.specs.Scopes.{use_of, opened}
use Rattle.mini_laws.specs.Resolved.{Environment, with_symbol, names_in, numbered, symbols, resolved, resolved_from}
use Rattle.mini_laws.specs.References.{own_references, references, references_from}

mapped_count : {A B : Type 0} (g : B → A) (xs : List B) → length (map g xs) ≡ length xs
mapped_count g [] = refl
mapped_count g (x ∷ xs) = ap suc (mapped_count g xs)

own_kept : (v u : Use) (env : Environment) (h : Shape) (xs : List Name) (ts : Trees) → length (own_references v h (names_in u env h xs ts)) ≡ length (own_references v h xs)
own_kept v u env shape.Identifier xs ts = mapped_count (λ x. record { name = x; used = v }) (map (with_symbol u env) xs) ∙ mapped_count (with_symbol u env) xs ∙ sym (mapped_count (λ x. record { name = x; used = v }) xs)
own_kept v u env h xs ts = refl

mutual
  unfolding references resolved

  pub references_kept : (v u : Use) (env : Environment) (s : ℕ) (t : Tree) → length (references v (resolved u env s t)) ≡ length (references v t)
  references_kept v u env s (node h xs n ts) =
      let sc = opened u h ts in
      let us = use_of h u in
      omega (arith, length-append (own_references v h (names_in u env h xs ts)) (references_from (use_of h v) 0 (resolved_from sc us 0 env s ts)), length-append (own_references v h xs) (references_from (use_of h v) 0 ts), own_kept v u env h xs ts, all_references_kept (use_of h v) sc us 0 0 env s ts)

  all_references_kept : (vs : ℕ → Use) (sc : ℕ → List Binding) (us : ℕ → Use) (j i : ℕ) (env : Environment) (s : ℕ) (ts : Trees) → length (references_from vs j (resolved_from sc us i env s ts)) ≡ length (references_from vs j ts)
  all_references_kept vs sc us j i env s none = refl
  all_references_kept vs sc us j i env s (t ▸ ts) =
      let inner = env ++ numbered s (sc i) in
      let r = s + length (sc i) in
      let q = r + symbols (us i) t in
      omega (arith, length-append (references (vs j) (resolved (us i) inner r t)) (references_from vs (suc j) (resolved_from sc us (suc i) inner q ts)), length-append (references (vs j) t) (references_from vs (suc j) ts), references_kept (vs j) (us i) inner r t, all_references_kept vs sc us (suc j) (suc i) inner q ts)
