-- A resolved tree is scoped.
use Rattle.std.specs.Prelude.{ℕ, zero, suc, ◌+◌, ◌≡◌, ◌≤◌, refl, Bool, true, false, List, [], ◌∷◌, ◌++◌, length, map, if◌then◌else◌}
use Rattle.std.proofs.Common.{ap, ◌∙◌, sym, subst, arith}
use Rattle.std.proofs.lemmas.List.{append-nil}
use Rattle.mini_model.specs.declared.kind.VariableDeclarationKind.TheVariants.{Var, Let, Const}
use Rattle.mini_model.specs.declared.name.Name.{Name}
use Rattle.mini_model.specs.declared.shape.Shape.{Shape}
use Rattle.mini_model.specs.declared.shape.Shape.TheVariants as shape
use Rattle.mini_model.specs.Tree.{Tree, Trees, node, none, ◌▸◌, is_absent}
use Rattle.mini_laws.specs.declared.names.Use.{Use}
use Rattle.mini_laws.specs.declared.names.Use.TheVariants.{Read}
use Rattle.mini_laws.specs.declared.names.Binding.{Binding}
use Rattle.mini_laws.specs.declared.names.Declared.TheVariants as declared
use Rattle.mini_laws.specs.declared.names.Opening.{Opening}
use Rattle.mini_laws.specs.declared.names.Opening.TheVariants as opening
use Rattle.mini_laws.specs.DeclaredNames.{names_of, body_names}
use Rattle.mini_laws.specs.Scopes.{use_of, is_alone, opening_of, scopes_by, at_or_empty, opened, name_if, lexical_scope, body_scope, merged}
use Rattle.mini_laws.specs.Resolved.{Environment, plain_name, written_name, names_in, with_symbol, numbered, symbols, resolved, resolved_from}
use Rattle.mini_laws.specs.Scoped.{NamesScoped, AreNames, OwnScoped, Scoped, AllScoped}
use Rattle.mini_laws.proofs.Kept.{bound_kept, lexical_kept}
use Rattle.mini_laws.proofs.Writing.{are_themselves, SpelledAlike, written_over}
use Rattle.mini_laws.proofs.BodyNames.{body_kept, lexical_scope_kept, params_scope_kept, body_scope_kept, merged_kept}

names_scoped : (u : Use) (env : Environment) (xs : List Name) → NamesScoped u env (map (with_symbol u env) xs)
names_scoped u env [] = tt
names_scoped u env (x ∷ xs) = (refl, names_scoped u env xs)

spelled_resolved : (u : Use) (env : Environment) (xs : List Name) → SpelledAlike xs (map (with_symbol u env) xs)
spelled_resolved u env [] = tt
spelled_resolved u env (x ∷ xs) = refl

plain_resolved : (u : Use) (env : Environment) (s : ℕ) (t : Tree) → SpelledAlike (plain_name t) (plain_name (resolved u env s t))
unfolding resolved
plain_resolved u env s (node shape.BindingIdentifier xs n ts) = spelled_resolved u env xs
plain_resolved u env s (node h xs n ts) = tt

absent_resolved : (u : Use) (env : Environment) (s : ℕ) (t : Tree) → is_absent t ≡ is_absent (resolved u env s t)
unfolding resolved
absent_resolved u env s (node shape.Absent xs n ts) = refl
absent_resolved u env s (node h xs n ts) = refl

written_resolved : (sc : ℕ → List Binding) (us : ℕ → Use) (u : Use) (env env' : Environment) (s : ℕ) (ts : Trees) → written_name u env ts ≡ written_name u env (resolved_from sc us 0 env' s ts)
unfolding resolved
written_resolved sc us u env env' s none = refl
written_resolved sc us u env env' s (id ▸ none) = refl
written_resolved sc us u env env' s (id ▸ (init ▸ ts)) =
    let inner = env' ++ numbered s (sc 0) in
    let r = s + length (sc 0) in
    let innermost = inner ++ numbered (r + symbols (us 0) id) (sc 1) in
    let q = r + symbols (us 0) id + length (sc 1) in
    written_over u env id (resolved (us 0) inner r id) init (resolved (us 1) innermost q init) ts (resolved_from sc us 2 innermost (q + symbols (us 1) init) ts) (plain_resolved (us 0) inner r id) (absent_resolved (us 1) innermost q init)

own_scoped : (u : Use) (env : Environment) (s : ℕ) (h : Shape) (xs : List Name) (ts : Trees) → OwnScoped u env h (names_in u env h xs ts) (resolved_from (opened u h ts) (use_of h u) 0 env s ts)
own_scoped u env s shape.VariableDeclarator xs ts = subst (AreNames (written_name u env ts)) (written_resolved (opened u shape.VariableDeclarator ts) (use_of shape.VariableDeclarator u) u env env s ts) (are_themselves (written_name u env ts))
own_scoped u env s h xs ts = names_scoped u env xs

-- the scopes of a resolved node are those of the node with their numbers
abbrev pub Matches : (sc sc' : ℕ → List Binding) (us : ℕ → Use) → ℕ → ℕ → Trees → Type 0
Matches sc sc' us i s none = Unit {0}
Matches sc sc' us i s (t ▸ ts) = (sc' i ≡ numbered s (sc i)) × Matches sc sc' us (suc i) (s + length (sc i) + symbols (us i) t) ts

quiet : (m : ℕ) (sc sc' : ℕ → List Binding) (us : ℕ → Use) → ((k : ℕ) → m ≤ k → sc k ≡ []) → ((k : ℕ) → m ≤ k → sc' k ≡ []) → (i s : ℕ) (ts : Trees) → m ≤ i → Matches sc sc' us i s ts
quiet m sc sc' us a b i s none h = tt
quiet m sc sc' us a b i s (t ▸ ts) h = (b i h ∙ sym (ap (numbered s) (a i h)), quiet m sc sc' us a b (suc i) (s + length (sc i) + symbols (us i) t) ts (omega arith))

past_one : (x : List Binding) (k : ℕ) → 1 ≤ k → at_or_empty (x ∷ []) k ≡ []
past_one x zero h = absurd (omega arith)
past_one x (suc k) h = refl

past_two : (x y : List Binding) (k : ℕ) → 2 ≤ k → at_or_empty (x ∷ (y ∷ [])) k ≡ []
past_two x y zero h = absurd (omega arith)
past_two x y (suc k) h = past_one y k (omega arith)

past_three : (x y z : List Binding) (k : ℕ) → 3 ≤ k → at_or_empty (x ∷ (y ∷ (z ∷ []))) k ≡ []
past_three x y z zero h = absurd (omega arith)
past_three x y z (suc k) h = past_two y z k (omega arith)

-- how the children are used
abbrev Side : Opening → (ℕ → Use) → Type 0
Side opening.Nothing us = Unit {0}
Side opening.Body us = us 0 ≡ Read
Side (opening.Function own) us = (us 0 ≡ Read) × (us 1 ≡ Read) × (us 2 ≡ Read)
Side opening.Arrow us = (us 0 ≡ Read) × (us 1 ≡ Read)
Side (opening.Class own inside) us = (us 0 ≡ Read) × (us 3 ≡ Read)
Side opening.First us = is_alone (us 0) ≡ false
Side opening.Second us = is_alone (us 1) ≡ false
Side opening.Bound us = us 0 ≡ Read

side_if : (b : Bool) → Side (if b then opening.Bound else opening.Nothing) (λ k. Read)
side_if true = refl
side_if false = tt

pub side_of : (u : Use) (h : Shape) → Side (opening_of u h) (use_of h u)
side_of u (shape.Program is_module ds) = refl
side_of u shape.StaticBlock = refl
side_of u (shape.Function d g ds) = (refl, refl, refl)
side_of u (shape.ArrowFunctionExpression ds) = (refl, refl)
side_of u (shape.Class d) = (refl, refl)
side_of u shape.BlockStatement = refl
side_of u shape.ForStatement = refl
side_of u shape.ForInStatement = refl
side_of u shape.ForOfStatement = refl
side_of u shape.SwitchStatement = refl
side_of u shape.CatchClause = refl
side_of u (shape.VariableDeclaration Var) = tt
side_of u (shape.VariableDeclaration Let) = side_if (is_alone u)
side_of u (shape.VariableDeclaration Const) = side_if (is_alone u)
side_of u h = tt

-- names that a child binds which is read
read_kept : (u : Use) (env : Environment) (s : ℕ) (t : Tree) → u ≡ Read → names_of declared.Bound (resolved u env s t) ≡ map (with_symbol Read env) (names_of declared.Bound t)
read_kept u env s t e = bound_kept u env s t ∙ ap (λ v. map (with_symbol v env) (names_of declared.Bound t)) e

name_kept : (b : Bool) (u : Use) (env : Environment) (s : ℕ) (t : Tree) → u ≡ Read → name_if b (resolved u env s t) ≡ map (with_symbol Read env) (name_if b t)
name_kept true u env s t e = read_kept u env s t e
name_kept false u env s t e = refl

-- the scopes of a function from its parameters on
after_params : (us : ℕ → Use) (i j : ℕ) (env : Environment) (s : ℕ) (params body : Tree) → us i ≡ Read → us j ≡ Read →
    let P = body_scope [] (names_of declared.Bound params) in
    let B = body_scope (merged params) (body_names body) in
    let inner = env ++ numbered s P in
    let r = s + length P + symbols (us i) params in
    let params' = resolved (us i) inner (s + length P) params in
    let body' = resolved (us j) (inner ++ numbered r B) (r + length B) body in
    (body_scope [] (names_of declared.Bound params') ≡ numbered s P) × (body_scope (merged params') (body_names body') ≡ numbered r B)
after_params us i j env s params body e f =
    let P = body_scope [] (names_of declared.Bound params) in
    let B = body_scope (merged params) (body_names body) in
    let inner = env ++ numbered s P in
    let r = s + length P + symbols (us i) params in (
      params_scope_kept env s (names_of declared.Bound params) _ (read_kept (us i) inner (s + length P) params e),
      body_scope_kept inner r (merged params) _ (body_names body) _ (merged_kept (us i) inner (s + length P) params (bound_kept (us i) inner (s + length P) params)) (body_kept (us j) (ap is_alone f) (inner ++ numbered r B) (r + length B) body),
    )

pub matches_by : (o : Opening) (us : ℕ → Use) (env : Environment) (s : ℕ) (ts : Trees) → Side o us → Matches (at_or_empty (scopes_by o ts)) (at_or_empty (scopes_by o (resolved_from (at_or_empty (scopes_by o ts)) us 0 env s ts))) us 0 s ts
unfolding scopes_by resolved
matches_by opening.Nothing us env s ts d = quiet 0 (λ k. []) (λ k. []) us (λ k h. refl) (λ k h. refl) 0 s ts (omega arith)
matches_by opening.Body us env s none d = tt
matches_by opening.Body us env s (t ▸ ts) d =
    let B = body_scope [] (body_names t) in (
      body_scope_kept env s [] [] (body_names t) _ (λ r. refl) (body_kept (us 0) (ap is_alone d) (env ++ numbered s B) (s + length B) t),
      quiet 1 _ _ us (past_one _) (past_one _) 1 _ ts (omega arith),
    )
matches_by opening.First us env s none d = tt
matches_by opening.First us env s (t ▸ ts) d =
    let L = lexical_scope (names_of declared.Lexical t) in (
      lexical_scope_kept env s (names_of declared.Lexical t) _ (lexical_kept (us 0) d (env ++ numbered s L) (s + length L) t),
      quiet 1 _ _ us (past_one _) (past_one _) 1 _ ts (omega arith),
    )
matches_by opening.Bound us env s none d = tt
matches_by opening.Bound us env s (t ▸ ts) d =
    let L = lexical_scope (names_of declared.Bound t) in (
      lexical_scope_kept env s (names_of declared.Bound t) _ (read_kept (us 0) (env ++ numbered s L) (s + length L) t d),
      quiet 1 _ _ us (past_one _) (past_one _) 1 _ ts (omega arith),
    )
matches_by opening.Second us env s none d = tt
matches_by opening.Second us env s (a ▸ none) d = (refl, tt)
matches_by opening.Second us env s (a ▸ (t ▸ ts)) d =
    let r = s + 0 + symbols (us 0) a in
    let L = lexical_scope (names_of declared.Lexical t) in (
      refl,
      (
        lexical_scope_kept (env ++ []) r (names_of declared.Lexical t) _ (lexical_kept (us 1) d ((env ++ []) ++ numbered r L) (r + length L) t),
        quiet 2 _ _ us (past_two _ _) (past_two _ _) 2 _ ts (omega arith),
      ),
    )
matches_by (opening.Class own inside) us env s none d = tt
matches_by (opening.Class own inside) us env s (id ▸ none) d = (refl, tt)
matches_by (opening.Class own inside) us env s (id ▸ (super_class ▸ none)) d = (refl, (refl, tt))
matches_by (opening.Class own inside) us env s (id ▸ (super_class ▸ (body ▸ none))) d = (refl, (refl, (refl, tt)))
matches_by (opening.Class own inside) us env s (id ▸ (super_class ▸ (body ▸ (again ▸ ts)))) d =
    let L = lexical_scope (name_if own id) in
    let inner = env ++ numbered s L in
    let r = s + length L + symbols (us 0) id in
    let M = lexical_scope (name_if inside again) in
    let innermost = inner ++ numbered r M in
    let q = r + length M + symbols (us 1) super_class + 0 + symbols (us 2) body + 0 in
    let same : (innermost ++ []) ++ [] ≡ innermost = append-nil (innermost ++ []) ∙ append-nil innermost in (
      lexical_scope_kept env s (name_if own id) _ (name_kept own (us 0) inner (s + length L) id d.0),
      (
        lexical_scope_kept inner r (name_if inside again) _ (name_kept inside (us 3) ((innermost ++ []) ++ []) q again d.1 ∙ ap (λ v. map (with_symbol Read v) (name_if inside again)) same),
        quiet 2 _ _ us (past_two _ _) (past_two _ _) 2 _ (body ▸ (again ▸ ts)) (omega arith),
      ),
    )
matches_by opening.Arrow us env s none d = tt
matches_by opening.Arrow us env s (params ▸ none) d = (refl, tt)
matches_by opening.Arrow us env s (params ▸ (body ▸ ts)) d =
    let both = after_params us 0 1 env s params body d.0 d.1 in
    (both.0, (both.1, quiet 2 _ _ us (past_two _ _) (past_two _ _) 2 _ ts (omega arith)))
matches_by (opening.Function own) us env s none d = tt
matches_by (opening.Function own) us env s (id ▸ none) d = (refl, tt)
matches_by (opening.Function own) us env s (id ▸ (params ▸ none)) d = (refl, (refl, tt))
matches_by (opening.Function own) us env s (id ▸ (params ▸ (body ▸ ts))) d =
    let L = lexical_scope (name_if own id) in
    let inner = env ++ numbered s L in
    let both = after_params us 1 2 inner (s + length L + symbols (us 0) id) params body d.1 d.2 in
    (lexical_scope_kept env s (name_if own id) _ (name_kept own (us 0) inner (s + length L) id d.0), (both.0, (both.1, quiet 3 _ _ us (past_three _ _ _) (past_three _ _ _) 3 _ ts (omega arith))))

mutual
  unfolding Scoped resolved

  pub scoped : (u : Use) (env : Environment) (s : ℕ) (t : Tree) → Scoped u env (resolved u env s t)
  scoped u env s (node h xs n ts) = (own_scoped u env s h xs ts, all_scoped (opened u h ts) (opened u h (resolved_from (opened u h ts) (use_of h u) 0 env s ts)) (use_of h u) 0 env s ts (matches_by (opening_of u h) (use_of h u) env s ts (side_of u h)))

  all_scoped : (sc sc' : ℕ → List Binding) (us : ℕ → Use) (i : ℕ) (env : Environment) (s : ℕ) (ts : Trees) → Matches sc sc' us i s ts → AllScoped sc' us i env (resolved_from sc us i env s ts)
  all_scoped sc sc' us i env s none m = tt
  all_scoped sc sc' us i env s (t ▸ ts) m =
      let inner = env ++ numbered s (sc i) in
      let r = s + length (sc i) in (
        subst (λ bs. Scoped (us i) (env ++ bs) (resolved (us i) inner r t)) (sym m.0) (scoped (us i) inner r t),
        subst (λ bs. AllScoped sc' us (suc i) (env ++ bs) (resolved_from sc us (suc i) inner (r + symbols (us i) t) ts)) (sym m.0) (all_scoped sc sc' us (suc i) inner (r + symbols (us i) t) ts m.1),
      )
