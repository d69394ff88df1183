-- Resolution doesn't look at numbers.
use Rattle.std.specs.Prelude.{ℕ, suc, ◌+◌, ◌≡◌, refl, Bool, true, false, ◌||◌, List, [], ◌∷◌, ◌++◌, length, map, if◌then◌else◌}
use Rattle.std.proofs.Common.{ap, ◌∙◌}
use Rattle.mini_model.specs.declared.name.Name.{Name}
use Rattle.mini_model.specs.declared.shape.Shape.{Shape}
use Rattle.mini_model.specs.declared.shape.Shape.TheVariants as shape
use Rattle.mini_model.specs.Tree.{Tree, Trees, node, none, ◌▸◌, is_absent}
use Rattle.mini_laws.specs.declared.names.Use.{Use}
use Rattle.mini_laws.specs.declared.names.Use.TheVariants.{Read}
use Rattle.mini_laws.specs.declared.names.Binding.{Binding}
use Rattle.mini_laws.specs.declared.names.Declared.{Declared}
use Rattle.mini_laws.specs.declared.names.Declared.TheVariants as declared
use Rattle.mini_laws.specs.declared.names.Opening.{Opening}
use Rattle.mini_laws.specs.declared.names.Opening.TheVariants as opening
use Rattle.mini_laws.specs.DeclaredNames.{place_of, names_by, names_of, first_names, all_names, is_statement_list, body_names, all_body_names, is_inner, has_inner, any_inner}
use Rattle.mini_laws.specs.Scopes.{use_of, opening_of, scopes_by, at_or_empty, opened, name_if, lexical_scope, body_scope, merged}
use Rattle.mini_laws.specs.Resolved.{Environment, gives_value, plain_name, other_name, written_name, names_in, numbered, symbols, symbols_from, resolved, resolved_from, resolved_program}
use Rattle.mini_kept.specs.Carried.{renumbered, all_renumbered}

mutual
  unfolding names_of renumbered

  pub same_names : (f : ℕ → ℕ) (d : Declared) (t : Tree) → names_of d (renumbered f t) ≡ names_of d t
  same_names f d (node h xs n ts) =
      ap (λ a. names_by (place_of d h) xs a (all_names declared.Bound (all_renumbered f ts)) (all_names d (all_renumbered f ts))) (same_first f ts)
      ∙ ap (λ b. names_by (place_of d h) xs (first_names ts) b (all_names d (all_renumbered f ts))) (same_all_names f declared.Bound ts)
      ∙ ap (names_by (place_of d h) xs (first_names ts) (all_names declared.Bound ts)) (same_all_names f d ts)

  same_first : (f : ℕ → ℕ) (ts : Trees) → first_names (all_renumbered f ts) ≡ first_names ts
  same_first f none = refl
  same_first f (t ▸ ts) = same_names f declared.Bound t

  same_all_names : (f : ℕ → ℕ) (d : Declared) (ts : Trees) → all_names d (all_renumbered f ts) ≡ all_names d ts
  same_all_names f d none = refl
  same_all_names f d (t ▸ ts) = ap (λ a. a ++ all_names d (all_renumbered f ts)) (same_names f d t) ∙ ap (λ b. names_of d t ++ b) (same_all_names f d ts)

mutual
  unfolding body_names renumbered

  same_body : (f : ℕ → ℕ) (t : Tree) → body_names (renumbered f t) ≡ body_names t
  same_body f (node h xs n ts) =
      ap (λ a. if is_statement_list h then a else names_of declared.Lexical (renumbered f (node h xs n ts)) ++ names_of declared.Hoisted (renumbered f (node h xs n ts))) (same_all_body f ts)
      ∙ ap (λ a. if is_statement_list h then all_body_names ts else a ++ names_of declared.Hoisted (renumbered f (node h xs n ts))) (same_names f declared.Lexical (node h xs n ts))
      ∙ ap (λ a. if is_statement_list h then all_body_names ts else names_of declared.Lexical (node h xs n ts) ++ a) (same_names f declared.Hoisted (node h xs n ts))

  same_all_body : (f : ℕ → ℕ) (ts : Trees) → all_body_names (all_renumbered f ts) ≡ all_body_names ts
  same_all_body f none = refl
  same_all_body f (t ▸ ts) = ap (λ a. a ++ all_body_names (all_renumbered f ts)) (same_body f t) ∙ ap (λ b. body_names t ++ b) (same_all_body f ts)

mutual
  unfolding has_inner renumbered

  same_inner : (f : ℕ → ℕ) (t : Tree) → has_inner (renumbered f t) ≡ has_inner t
  same_inner f (node h xs n ts) = ap (λ b. is_inner h || b) (same_any_inner f ts)

  same_any_inner : (f : ℕ → ℕ) (ts : Trees) → any_inner (all_renumbered f ts) ≡ any_inner ts
  same_any_inner f none = refl
  same_any_inner f (t ▸ ts) = ap (λ b. b || any_inner (all_renumbered f ts)) (same_inner f t) ∙ ap (λ b. has_inner t || b) (same_any_inner f ts)

-- ---- scopes

same_name_if : (f : ℕ → ℕ) (b : Bool) (t : Tree) → name_if b (renumbered f t) ≡ name_if b t
same_name_if f true t = same_names f declared.Bound t
same_name_if f false t = refl

same_merged : (f : ℕ → ℕ) (t : Tree) → merged (renumbered f t) ≡ merged t
same_merged f t = ap (λ b. if b then [] else names_of declared.Bound (renumbered f t)) (same_inner f t) ∙ ap (λ a. if has_inner t then [] else a) (same_names f declared.Bound t)

own_scope : (f : ℕ → ℕ) (p t : Tree) → body_scope (merged (renumbered f p)) (body_names (renumbered f t)) ≡ body_scope (merged p) (body_names t)
own_scope f p t = ap (λ a. body_scope a (body_names (renumbered f t))) (same_merged f p) ∙ ap (body_scope (merged p)) (same_body f t)

same_scopes : (f : ℕ → ℕ) (o : Opening) (ts : Trees) → scopes_by o (all_renumbered f ts) ≡ scopes_by o ts
unfolding scopes_by renumbered
same_scopes f opening.Nothing ts = refl
same_scopes f opening.Body none = refl
same_scopes f opening.Body (t ▸ ts) = ap (λ a. body_scope [] a ∷ []) (same_body f t)
same_scopes f opening.First none = refl
same_scopes f opening.First (t ▸ ts) = ap (λ a. lexical_scope a ∷ []) (same_names f declared.Lexical t)
same_scopes f opening.Bound none = refl
same_scopes f opening.Bound (t ▸ ts) = ap (λ a. lexical_scope a ∷ []) (same_names f declared.Bound t)
same_scopes f opening.Second none = refl
same_scopes f opening.Second (a ▸ none) = refl
same_scopes f opening.Second (a ▸ (t ▸ ts)) = ap (λ b. [] ∷ lexical_scope b ∷ []) (same_names f declared.Lexical t)
same_scopes f (opening.Class own inside) none = refl
same_scopes f (opening.Class own inside) (id ▸ none) = refl
same_scopes f (opening.Class own inside) (id ▸ (h ▸ none)) = refl
same_scopes f (opening.Class own inside) (id ▸ (h ▸ (b ▸ none))) = refl
same_scopes f (opening.Class own inside) (id ▸ (h ▸ (b ▸ (t ▸ ts)))) =
    ap (λ a. lexical_scope a ∷ lexical_scope (name_if inside (renumbered f t)) ∷ []) (same_name_if f own id) ∙ ap (λ a. lexical_scope (name_if own id) ∷ lexical_scope a ∷ []) (same_name_if f inside t)
same_scopes f opening.Arrow none = refl
same_scopes f opening.Arrow (p ▸ none) = refl
same_scopes f opening.Arrow (p ▸ (t ▸ ts)) =
    ap (λ a. body_scope [] a ∷ body_scope (merged (renumbered f p)) (body_names (renumbered f t)) ∷ []) (same_names f declared.Bound p) ∙ ap (λ a. body_scope [] (names_of declared.Bound p) ∷ a ∷ []) (own_scope f p t)
same_scopes f (opening.Function own) none = refl
same_scopes f (opening.Function own) (id ▸ none) = refl
same_scopes f (opening.Function own) (id ▸ (p ▸ none)) = refl
same_scopes f (opening.Function own) (id ▸ (p ▸ (t ▸ ts))) =
    ap (λ a. lexical_scope a ∷ body_scope [] (names_of declared.Bound (renumbered f p)) ∷ body_scope (merged (renumbered f p)) (body_names (renumbered f t)) ∷ []) (same_name_if f own id)
    ∙ ap (λ a. lexical_scope (name_if own id) ∷ body_scope [] a ∷ body_scope (merged (renumbered f p)) (body_names (renumbered f t)) ∷ []) (same_names f declared.Bound p)
    ∙ ap (λ a. lexical_scope (name_if own id) ∷ body_scope [] (names_of declared.Bound p) ∷ a ∷ []) (own_scope f p t)

same_opened : (f : ℕ → ℕ) (u : Use) (h : Shape) (ts : Trees) (i : ℕ) → opened u h (all_renumbered f ts) i ≡ opened u h ts i
same_opened f u h ts i = ap (λ ss. at_or_empty ss i) (same_scopes f (opening_of u h) ts)

-- ---- resolution

mutual
  unfolding symbols renumbered

  pub same_symbols : (f : ℕ → ℕ) (u : Use) (t : Tree) → symbols u (renumbered f t) ≡ symbols u t
  same_symbols f u (node h xs n ts) = same_all_symbols f (opened u h ts) (opened u h (all_renumbered f ts)) (same_opened f u h ts) (use_of h u) 0 ts

  same_all_symbols : (f : ℕ → ℕ) (sc sc' : ℕ → List Binding) → ((i : ℕ) → sc' i ≡ sc i) → (us : ℕ → Use) (i : ℕ) (ts : Trees) → symbols_from sc' us i (all_renumbered f ts) ≡ symbols_from sc us i ts
  same_all_symbols f sc sc' e us i none = refl
  same_all_symbols f sc sc' e us i (t ▸ ts) =
      ap (λ k. length k + symbols (us i) (renumbered f t) + symbols_from sc' us (suc i) (all_renumbered f ts)) (e i)
      ∙ ap (λ k. length (sc i) + k + symbols_from sc' us (suc i) (all_renumbered f ts)) (same_symbols f (us i) t)
      ∙ ap (λ k. length (sc i) + symbols (us i) t + k) (same_all_symbols f sc sc' e us (suc i) ts)

plain_renumbered : (f : ℕ → ℕ) (t : Tree) → plain_name (renumbered f t) ≡ plain_name t
unfolding renumbered
plain_renumbered f (node shape.BindingIdentifier xs n ts) = refl
plain_renumbered f (node h xs n ts) = refl

absent_renumbered : (f : ℕ → ℕ) (t : Tree) → is_absent (renumbered f t) ≡ is_absent t
unfolding renumbered
absent_renumbered f (node shape.Absent xs n ts) = refl
absent_renumbered f (node h xs n ts) = refl

written_renumbered : (f : ℕ → ℕ) (u : Use) (env : Environment) (ts : Trees) → written_name u env (all_renumbered f ts) ≡ written_name u env ts
unfolding renumbered
written_renumbered f u env none = refl
written_renumbered f u env (id ▸ none) = refl
written_renumbered f u env (id ▸ (init ▸ ts)) = λ k. if gives_value u (absent_renumbered f init k) then other_name u env (plain_renumbered f id k) else []

names_renumbered : (f : ℕ → ℕ) (u : Use) (env : Environment) (h : Shape) (xs : List Name) (ts : Trees) → names_in u env h xs (all_renumbered f ts) ≡ names_in u env h xs ts
names_renumbered f u env shape.VariableDeclarator xs ts = written_renumbered f u env ts
names_renumbered f u env h xs ts = refl

mutual
  unfolding resolved renumbered

  resolved_renumbered : (f : ℕ → ℕ) (u : Use) (env : Environment) (s : ℕ) (t : Tree) → resolved u env s (renumbered f t) ≡ renumbered f (resolved u env s t)
  resolved_renumbered f u env s (node h xs n ts) =
      ap (λ ys. node h ys (f n) (resolved_from (opened u h (all_renumbered f ts)) (use_of h u) 0 env s (all_renumbered f ts))) (names_renumbered f u env h xs ts)
      ∙ ap (node h (names_in u env h xs ts) (f n)) (all_resolved_renumbered f (opened u h ts) (opened u h (all_renumbered f ts)) (same_opened f u h ts) (use_of h u) 0 env s ts)

  all_resolved_renumbered : (f : ℕ → ℕ) (sc sc' : ℕ → List Binding) → ((i : ℕ) → sc' i ≡ sc i) → (us : ℕ → Use) (i : ℕ) (env : Environment) (s : ℕ) (ts : Trees) → resolved_from sc' us i env s (all_renumbered f ts) ≡ all_renumbered f (resolved_from sc us i env s ts)
  all_resolved_renumbered f sc sc' e us i env s none = refl
  all_resolved_renumbered f sc sc' e us i env s (t ▸ ts) =
      let both = λ (v : List Binding) (j : ℕ). resolved (us i) (env ++ numbered s v) (s + length v) (renumbered f t) ▸ resolved_from sc' us (suc i) (env ++ numbered s v) (s + length v + j) (all_renumbered f ts) in
      let inner = env ++ numbered s (sc i) in
      let r = s + length (sc i) in
      ap (λ v. both v (symbols (us i) (renumbered f t))) (e i)
      ∙ ap (λ j. both (sc i) j) (same_symbols f (us i) t)
      ∙ ap (λ x. x ▸ resolved_from sc' us (suc i) inner (r + symbols (us i) t) (all_renumbered f ts)) (resolved_renumbered f (us i) inner r t)
      ∙ ap (λ x. renumbered f (resolved (us i) inner r t) ▸ x) (all_resolved_renumbered f sc sc' e us (suc i) inner (r + symbols (us i) t) ts)

pub program_renumbered : (f : ℕ → ℕ) (t : Tree) → resolved_program (renumbered f t) ≡ renumbered f (resolved_program t)
program_renumbered f t = resolved_renumbered f Read [] 0 t
