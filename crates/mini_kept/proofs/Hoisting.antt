-- The names that a scoped tree hoists have the symbols that the scopes around it give.
use Rattle.std.specs.Prelude.{ℕ, zero, suc, ◌≡◌, refl, Bool, true, false, ◌&&◌, List, [], ◌∷◌, ◌++◌, map, None}
use Rattle.std.proofs.Common.{ap, ◌∙◌, subst}
use Rattle.std.proofs.lemmas.List.{append-nil}
use Rattle.mini_model.specs.declared.kind.VariableDeclarationKind.TheVariants.{Var}
use Rattle.mini_model.specs.declared.name.Name.{Name}
use Rattle.mini_model.specs.declared.shape.Shape.TheVariants as shape
use Rattle.mini_model.specs.Tree.{Tree, Trees, node, none, ◌▸◌}
use Rattle.mini_model.specs.Weight.{same_text}
use Rattle.mini_laws.specs.declared.names.Use.{Use}
use Rattle.mini_laws.specs.declared.names.Use.TheVariants.{Write, Hoisted, Headed}
use Rattle.mini_laws.specs.declared.names.Binding.{Binding}
use Rattle.mini_laws.specs.declared.names.Declared.TheVariants as declared
use Rattle.mini_laws.specs.declared.names.Opening.{Opening}
use Rattle.mini_laws.specs.declared.names.Opening.TheVariants as opening
use Rattle.mini_laws.specs.DeclaredNames.{names_of, first_names, all_names}
use Rattle.mini_laws.specs.Scopes.{hoisted_by, use_of, opening_of, scopes_by, at_or_empty, opened}
use Rattle.mini_laws.specs.Resolved.{Environment, or_else, own_symbol, symbol_of}
use Rattle.mini_laws.specs.Scoped.{NamesScoped, Scoped, AllScoped}
use Rattle.mini_laws.proofs.Numbers.{none_if, symbol_of_both}
use Rattle.mini_laws.proofs.Kept.{NoHoists}

both_scoped : (u : Use) (env : Environment) (xs ys : List Name) → NamesScoped u env xs → NamesScoped u env ys → NamesScoped u env (xs ++ ys)
both_scoped u env [] ys a b = b
both_scoped u env (x ∷ xs) ys a b = (a.0, both_scoped u env xs ys a.1 b)

-- ---- the names that are bound

mutual
  unfolding names_of Scoped scopes_by

  pub bound_scoped : (u : Use) (env : Environment) (t : Tree) → Scoped u env t → NamesScoped u env (names_of declared.Bound t)
  bound_scoped u env (node shape.BindingIdentifier xs n ts) a = a.0
  bound_scoped u env (node shape.VariableDeclarator xs n ts) a = first_scoped u (use_of shape.VariableDeclarator u) env ts refl a.1
  bound_scoped u env (node shape.Listed xs n ts) a = all_bound_scoped u 0 env ts a.1
  bound_scoped u env (node shape.ObjectPattern xs n ts) a = all_bound_scoped u 0 env ts a.1
  bound_scoped u env (node shape.ArrayPattern xs n ts) a = all_bound_scoped u 0 env ts a.1
  bound_scoped u env (node (shape.BindingProperty shorthand computed) xs n ts) a = all_bound_scoped u 0 env ts a.1
  bound_scoped u env (node shape.RestElement xs n ts) a = all_bound_scoped u 0 env ts a.1
  bound_scoped u env (node shape.AssignmentPattern xs n ts) a = all_bound_scoped u 0 env ts a.1
  bound_scoped u env (node shape.ImportSpecifier xs n ts) a = all_bound_scoped u 0 env ts a.1
  bound_scoped u env (node shape.ImportDefaultSpecifier xs n ts) a = all_bound_scoped u 0 env ts a.1
  bound_scoped u env (node shape.ImportNamespaceSpecifier xs n ts) a = all_bound_scoped u 0 env ts a.1
  bound_scoped u env (node h xs n ts) a = tt

  first_scoped : (u : Use) (us : ℕ → Use) (env : Environment) (ts : Trees) → us 0 ≡ u → AllScoped (λ k. []) us 0 env ts → NamesScoped u env (first_names ts)
  first_scoped u us env none e a = tt
  first_scoped u us env (t ▸ ts) e a = subst (λ v. NamesScoped u v (names_of declared.Bound t)) (append-nil env) (bound_scoped u (env ++ []) t (subst (λ v. Scoped v (env ++ []) t) e a.0))

  all_bound_scoped : (u : Use) (i : ℕ) (env : Environment) (ts : Trees) → AllScoped (λ k. []) (λ k. u) i env ts → NamesScoped u env (all_names declared.Bound ts)
  all_bound_scoped u i env none a = tt
  all_bound_scoped u i env (t ▸ ts) a =
      subst (λ v. NamesScoped u v (names_of declared.Bound t ++ all_names declared.Bound ts)) (append-nil env)
      (both_scoped u (env ++ []) (names_of declared.Bound t) (all_names declared.Bound ts) (bound_scoped u (env ++ []) t a.0) (all_bound_scoped u (suc i) (env ++ []) ts a.1))

-- ---- past scopes to which no `var` goes

not_hoisted : (s : List ℕ) (bs : List Binding) → NoHoists bs → symbol_of Hoisted s bs ≡ None
not_hoisted s [] h = refl
not_hoisted s (b ∷ bs) h =
    ap (λ r. or_else r (own_symbol Hoisted s b)) (not_hoisted s bs h.1)
    ∙ none_if (b.hoists && same_text b.name.spelling s) b.name.symbol (ap (λ v. v && same_text b.name.spelling s) h.0)

hoisted_past : (env : Environment) (bs : List Binding) → NoHoists bs → (xs : List Name) → NamesScoped Hoisted (env ++ bs) xs → NamesScoped Hoisted env xs
hoisted_past env bs h [] a = tt
hoisted_past env bs h (x ∷ xs) a =
    (a.0 ∙ symbol_of_both Hoisted x.spelling env bs ∙ ap (λ r. or_else r (symbol_of Hoisted x.spelling env)) (not_hoisted x.spelling bs h), hoisted_past env bs h xs a.1)

none_hoisted : (xs : List Name) → NoHoists (map (λ x. record { name = x; hoists = false }) xs)
none_hoisted [] = tt
none_hoisted (x ∷ xs) = (refl, none_hoisted xs)

abbrev is_block : Opening → Bool
is_block opening.Nothing = true
is_block opening.First = true
is_block opening.Second = true
is_block opening.Bound = true
is_block o = false

block_opening : (o : Opening) (ts : Trees) (k : ℕ) → is_block o ≡ true → NoHoists (at_or_empty (scopes_by o ts) k)
unfolding scopes_by
block_opening opening.Nothing ts k e = tt
block_opening opening.First none k e = tt
block_opening opening.First (t ▸ ts) zero e = none_hoisted _
block_opening opening.First (t ▸ ts) (suc k) e = tt
block_opening opening.Bound none k e = tt
block_opening opening.Bound (t ▸ ts) zero e = none_hoisted _
block_opening opening.Bound (t ▸ ts) (suc k) e = tt
block_opening opening.Second none k e = tt
block_opening opening.Second (a ▸ none) k e = tt
block_opening opening.Second (a ▸ (b ▸ ts)) zero e = tt
block_opening opening.Second (a ▸ (b ▸ ts)) (suc zero) e = none_hoisted _
block_opening opening.Second (a ▸ (b ▸ ts)) (suc (suc k)) e = tt
block_opening o ts k e = absurd (cc e)

-- ---- the names that are hoisted

headed_same : (s : List ℕ) (env : Environment) → symbol_of Headed s env ≡ symbol_of Hoisted s env
headed_same s [] = refl
headed_same s (b ∷ env) = ap (λ r. or_else r (own_symbol Hoisted s b)) (headed_same s env)

headed_scoped : (env : Environment) (xs : List Name) → NamesScoped Headed env xs → NamesScoped Hoisted env xs
headed_scoped env [] a = tt
headed_scoped env (x ∷ xs) a = (a.0 ∙ headed_same x.spelling env, headed_scoped env xs a.1)

by_hoisted : (u : Use) (env : Environment) (xs : List Name) → NamesScoped (hoisted_by u) env xs → NamesScoped Hoisted env xs
by_hoisted Write env xs a = headed_scoped env xs a
by_hoisted u env xs a = a

var_scoped : (u : Use) (env : Environment) (ts : Trees) → AllScoped (opened u (shape.VariableDeclaration Var) ts) (λ k. hoisted_by u) 0 env ts → NamesScoped Hoisted env (all_names declared.Bound ts)
unfolding scopes_by
var_scoped u env ts a = by_hoisted u env (all_names declared.Bound ts) (all_bound_scoped (hoisted_by u) 0 env ts a)

mutual
  unfolding names_of Scoped

  pub hoisted_scoped : (u : Use) (env : Environment) (t : Tree) → Scoped u env t → NamesScoped Hoisted env (names_of declared.Hoisted t)
  hoisted_scoped u env (node (shape.VariableDeclaration Var) xs n ts) a = var_scoped u env ts a.1
  hoisted_scoped u env (node shape.Listed xs n ts) a = all_hoisted_scoped (opened u shape.Listed ts) (use_of shape.Listed u) 0 env ts (λ k. block_opening (opening_of u shape.Listed) ts k refl) a.1
  hoisted_scoped u env (node shape.BlockStatement xs n ts) a = all_hoisted_scoped (opened u shape.BlockStatement ts) (use_of shape.BlockStatement u) 0 env ts (λ k. block_opening (opening_of u shape.BlockStatement) ts k refl) a.1
  hoisted_scoped u env (node shape.IfStatement xs n ts) a = all_hoisted_scoped (opened u shape.IfStatement ts) (use_of shape.IfStatement u) 0 env ts (λ k. block_opening (opening_of u shape.IfStatement) ts k refl) a.1
  hoisted_scoped u env (node shape.WhileStatement xs n ts) a = all_hoisted_scoped (opened u shape.WhileStatement ts) (use_of shape.WhileStatement u) 0 env ts (λ k. block_opening (opening_of u shape.WhileStatement) ts k refl) a.1
  hoisted_scoped u env (node shape.DoWhileStatement xs n ts) a = all_hoisted_scoped (opened u shape.DoWhileStatement ts) (use_of shape.DoWhileStatement u) 0 env ts (λ k. block_opening (opening_of u shape.DoWhileStatement) ts k refl) a.1
  hoisted_scoped u env (node shape.ForStatement xs n ts) a = all_hoisted_scoped (opened u shape.ForStatement ts) (use_of shape.ForStatement u) 0 env ts (λ k. block_opening (opening_of u shape.ForStatement) ts k refl) a.1
  hoisted_scoped u env (node shape.ForInStatement xs n ts) a = all_hoisted_scoped (opened u shape.ForInStatement ts) (use_of shape.ForInStatement u) 0 env ts (λ k. block_opening (opening_of u shape.ForInStatement) ts k refl) a.1
  hoisted_scoped u env (node shape.ForOfStatement xs n ts) a = all_hoisted_scoped (opened u shape.ForOfStatement ts) (use_of shape.ForOfStatement u) 0 env ts (λ k. block_opening (opening_of u shape.ForOfStatement) ts k refl) a.1
  hoisted_scoped u env (node shape.LabeledStatement xs n ts) a = all_hoisted_scoped (opened u shape.LabeledStatement ts) (use_of shape.LabeledStatement u) 0 env ts (λ k. block_opening (opening_of u shape.LabeledStatement) ts k refl) a.1
  hoisted_scoped u env (node shape.SwitchStatement xs n ts) a = all_hoisted_scoped (opened u shape.SwitchStatement ts) (use_of shape.SwitchStatement u) 0 env ts (λ k. block_opening (opening_of u shape.SwitchStatement) ts k refl) a.1
  hoisted_scoped u env (node shape.SwitchCase xs n ts) a = all_hoisted_scoped (opened u shape.SwitchCase ts) (use_of shape.SwitchCase u) 0 env ts (λ k. block_opening (opening_of u shape.SwitchCase) ts k refl) a.1
  hoisted_scoped u env (node shape.TryStatement xs n ts) a = all_hoisted_scoped (opened u shape.TryStatement ts) (use_of shape.TryStatement u) 0 env ts (λ k. block_opening (opening_of u shape.TryStatement) ts k refl) a.1
  hoisted_scoped u env (node shape.CatchClause xs n ts) a = all_hoisted_scoped (opened u shape.CatchClause ts) (use_of shape.CatchClause u) 0 env ts (λ k. block_opening (opening_of u shape.CatchClause) ts k refl) a.1
  hoisted_scoped u env (node shape.FunctionBody xs n ts) a = all_hoisted_scoped (opened u shape.FunctionBody ts) (use_of shape.FunctionBody u) 0 env ts (λ k. block_opening (opening_of u shape.FunctionBody) ts k refl) a.1
  hoisted_scoped u env (node shape.ExportNamedDeclaration xs n ts) a = all_hoisted_scoped (opened u shape.ExportNamedDeclaration ts) (use_of shape.ExportNamedDeclaration u) 0 env ts (λ k. block_opening (opening_of u shape.ExportNamedDeclaration) ts k refl) a.1
  hoisted_scoped u env (node h xs n ts) a = tt

  all_hoisted_scoped : (sc : ℕ → List Binding) (us : ℕ → Use) (i : ℕ) (env : Environment) (ts : Trees) → ((k : ℕ) → NoHoists (sc k)) → AllScoped sc us i env ts → NamesScoped Hoisted env (all_names declared.Hoisted ts)
  all_hoisted_scoped sc us i env none h a = tt
  all_hoisted_scoped sc us i env (t ▸ ts) h a =
      hoisted_past env (sc i) (h i) (names_of declared.Hoisted t ++ all_names declared.Hoisted ts)
      (both_scoped Hoisted (env ++ sc i) (names_of declared.Hoisted t) (all_names declared.Hoisted ts) (hoisted_scoped (us i) (env ++ sc i) t a.0) (all_hoisted_scoped sc us (suc i) (env ++ sc i) ts h a.1))
