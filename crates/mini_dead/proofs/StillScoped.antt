-- Each name of a scoped tree keeps its symbol where items go.
use Rattle.std.proofs.Common.{◌≡◌, ℕ, zero, suc, Bool, true, false, List, [], ◌∷◌, ◌++◌, Option, refl, sym, ap, ◌∙◌, subst, append_assoc, arith}
use Rattle.std.specs.Prelude.{◌≤◌, if◌then◌else◌}
use Rattle.std.proofs.lemmas.List.{append-nil}
use Rattle.mini_model.specs.declared.kind.VariableDeclarationKind.TheVariants.{Var}
use Rattle.mini_model.specs.declared.name.Name.{Name}
use Rattle.mini_model.specs.declared.name.SymbolId.{SymbolId}
use Rattle.mini_model.specs.declared.shape.Shape.{Shape}
use Rattle.mini_model.specs.declared.shape.Shape.TheVariants as shape
use Rattle.mini_model.specs.Tree.{Tree, Trees, node, none, ◌▸◌, is_absent}
use Rattle.mini_laws.specs.declared.names.Use.{Use}
use Rattle.mini_laws.specs.declared.names.Use.TheVariants.{Read}
use Rattle.mini_laws.specs.declared.names.Binding.{Binding}
use Rattle.mini_laws.specs.declared.names.Declared.TheVariants as declared
use Rattle.mini_laws.specs.declared.names.Opening.TheVariants as opening
use Rattle.mini_laws.specs.DeclaredNames.{names_of, has_inner, body_names, bound_names}
use Rattle.mini_laws.specs.Scopes.{is_alone, use_of, scopes_by, at_or_empty, opened, lexical_scope, body_scope, merged, name_if}
use Rattle.mini_laws.specs.Resolved.{Environment, plain_name, written_name}
use Rattle.mini_laws.specs.Scoped.{NamesScoped, AreNames, OwnScoped, Scoped, AllScoped}
use Rattle.mini_laws.specs.Symbols.{symbols_in, declared as declared_in, declared_from, times, Within}
use Rattle.mini_laws.specs.Value.{Global, VariableSet}
use Rattle.mini_laws.specs.Congruence.{Avoids, AllAvoid}
use Rattle.mini_laws.proofs.Changes.{times_three}
use Rattle.mini_laws.proofs.Writing.{SpelledAlike, written_over}
use Rattle.mini_kept.proofs.Hoisting.{bound_scoped}
use Rattle.mini_dead.specs.Pruned.{Spot, Elsewhere, Role, role, spot_below, Pruned, prune, Prunings, end, stays, goes, declarator_goes, earlier, earlier_all, later, later_all}
use Rattle.mini_dead.proofs.Sparing.{Tidy, AllTidy, AllStay, is_list, list_or_not, children_stay, names_spared, body_spared, bound_stays}
use Rattle.mini_dead.proofs.SparedScopes.{lexical_scoped, by_reads, body_found, spared_bindings, body_scope_spared, lexical_scope_spared, bindings_both, fewer_symbols, spared_scoped}

-- ---- the parameters of functions have the inner expressions that they had

abbrev pub ParamsKept : Shape → Prunings → Type 0
ParamsKept (shape.Function d g ds) (stays id (stays params ps)) = has_inner (later params) ≡ has_inner (earlier params)
ParamsKept (shape.ArrowFunctionExpression ds) (stays params ps) = has_inner (later params) ≡ has_inner (earlier params)
ParamsKept h ps = Unit {0}

abbrev mutual
  pub KeepsParams : Pruned → Type 0
  KeepsParams (prune h xs n ps) = ParamsKept h ps × AllKeepParams ps

  pub AllKeepParams : Prunings → Type 0
  AllKeepParams end = Unit {0}
  AllKeepParams (stays x ps) = KeepsParams x × AllKeepParams ps
  AllKeepParams (goes c ps) = AllKeepParams ps
  AllKeepParams (declarator_goes c ps) = AllKeepParams ps

-- ---- what a node says of its own names

spelled_itself : (xs : List Name) → SpelledAlike xs xs
spelled_itself [] = tt
spelled_itself (x ∷ xs) = refl

same_plain : (x : Pruned) → SpelledAlike (plain_name (earlier x)) (plain_name (later x))
same_plain (prune shape.BindingIdentifier xs n ps) = spelled_itself xs
same_plain (prune h xs n ps) = tt

same_absent : (x : Pruned) → is_absent (earlier x) ≡ is_absent (later x)
same_absent (prune shape.Absent xs n ps) = refl
same_absent (prune h xs n ps) = refl

written_still : (u : Use) (env : Environment) (ps : Prunings) → AllStay ps → written_name u env (earlier_all ps) ≡ written_name u env (later_all ps)
written_still u env end s = refl
written_still u env (stays x end) s = refl
written_still u env (stays x (stays y ps)) s = written_over u env (earlier x) (later x) (earlier y) (later y) (earlier_all ps) (later_all ps) (same_plain x) (same_absent y)
written_still u env (stays x (goes c ps)) s = absurd s
written_still u env (stays x (declarator_goes c ps)) s = absurd s
written_still u env (goes c ps) s = absurd s
written_still u env (declarator_goes c ps) s = absurd s

own_still : (u : Use) (env : Environment) (h : Shape) (xs : List Name) (ps : Prunings) → (is_list h ≡ false → AllStay ps) → OwnScoped u env h xs (earlier_all ps) → OwnScoped u env h xs (later_all ps)
own_still u env shape.VariableDeclarator xs ps s a = subst (AreNames xs) (written_still u env ps (s refl)) a
own_still u env h xs ps s a = a

module _ (D : VariableSet) (only : (s : List ℕ) → D (Global s) ≡ false) where
  -- ---- the scopes that a node opens

  abbrev Spared : (ℕ → List Binding) → (ℕ → List Binding) → Type 0
  Spared sc sc' = (j : ℕ) → sc' j ≡ spared_bindings D only (sc j)

  named_scope : (env : Environment) (own : Bool) (p : Spot) (x : Pruned) → Tidy D p x → Avoids D (later x) → (own ≡ true → NamesScoped Read (env ++ lexical_scope (bound_names (earlier x))) (bound_names (earlier x)))
      → lexical_scope (name_if own (later x)) ≡ spared_bindings D only (lexical_scope (name_if own (earlier x)))
  named_scope env false p x a v f = lexical_scope_spared D only env [] tt
  named_scope env true p x a v f = ap lexical_scope (names_spared D declared.Bound p x a v) ∙ lexical_scope_spared D only env (bound_names (earlier x)) (f refl)

  lexical_here : (u : Use) → is_alone u ≡ false → (env : Environment) (p : Spot) (x : Pruned) → Tidy D p x → Avoids D (later x) → Scoped u (env ++ lexical_scope (names_of declared.Lexical (earlier x))) (earlier x)
      → lexical_scope (names_of declared.Lexical (later x)) ≡ spared_bindings D only (lexical_scope (names_of declared.Lexical (earlier x)))
  lexical_here u e env p x a v s =
      ap lexical_scope (names_spared D declared.Lexical p x a v)
      ∙ lexical_scope_spared D only env (names_of declared.Lexical (earlier x)) (lexical_scoped u e (env ++ lexical_scope (names_of declared.Lexical (earlier x))) (earlier x) s)

  body_here : (env : Environment) (params params' : List Name) (p : Spot) (x : Pruned) → params' ≡ params → Tidy D p x → Avoids D (later x) → Scoped Read (env ++ body_scope params (body_names (earlier x))) (earlier x)
      → body_scope params' (body_names (later x)) ≡ spared_bindings D only (body_scope params (body_names (earlier x)))
  body_here env params params' p x e a v s =
      ap (λ ys. body_scope ys (body_names (later x))) e ∙ ap (body_scope params) (body_spared D p x a v)
      ∙ body_scope_spared D only env params (body_names (earlier x)) (body_found Read refl (env ++ body_scope params (body_names (earlier x))) (earlier x) s)

  params_here : (env : Environment) (p : Spot) (x : Pruned) → Tidy D p x → Avoids D (later x) → Scoped Read (env ++ body_scope [] (bound_names (earlier x))) (earlier x)
      → body_scope [] (bound_names (later x)) ≡ spared_bindings D only (body_scope [] (bound_names (earlier x)))
  params_here env p x a v s =
      ap (body_scope []) (names_spared D declared.Bound p x a v)
      ∙ body_scope_spared D only env [] (bound_names (earlier x)) (by_reads true (env ++ body_scope [] (bound_names (earlier x))) (bound_names (earlier x)) (bound_scoped Read (env ++ body_scope [] (bound_names (earlier x))) (earlier x) s))

  merged_still : (x : Pruned) → Tidy D Elsewhere x → has_inner (later x) ≡ has_inner (earlier x) → merged (later x) ≡ merged (earlier x)
  merged_still x a e = ap (λ b. if b then [] else bound_names (later x)) e ∙ ap (λ xs. if has_inner (earlier x) then [] else xs) (bound_stays D x a)

  body_scopes : (p : Spot) (env : Environment) (r : Role) (ps : Prunings) → AllStay ps → AllTidy D r 0 ps → AllAvoid D (later_all ps) → AllScoped (at_or_empty (scopes_by opening.Body (earlier_all ps))) (λ k. Read) 0 env (earlier_all ps)
      → Spared (at_or_empty (scopes_by opening.Body (earlier_all ps))) (at_or_empty (scopes_by opening.Body (later_all ps)))
  unfolding scopes_by Scoped
  body_scopes p env r end s a v c j = refl
  body_scopes p env r (stays x ps) s a v c zero = body_here env [] [] (spot_below r 0) x refl a.0 v.0 c.0
  body_scopes p env r (stays x ps) s a v c (suc j) = refl
  body_scopes p env r (goes i ps) s a v c j = absurd s
  body_scopes p env r (declarator_goes i ps) s a v c j = absurd s

  first_scopes : (env : Environment) (us : ℕ → Use) → is_alone (us 0) ≡ false → (r : Role) (ps : Prunings) → AllStay ps → AllTidy D r 0 ps → AllAvoid D (later_all ps) → AllScoped (at_or_empty (scopes_by opening.First (earlier_all ps))) us 0 env (earlier_all ps)
      → Spared (at_or_empty (scopes_by opening.First (earlier_all ps))) (at_or_empty (scopes_by opening.First (later_all ps)))
  unfolding scopes_by Scoped
  first_scopes env us e r end s a v c j = refl
  first_scopes env us e r (stays x ps) s a v c zero = lexical_here (us 0) e env (spot_below r 0) x a.0 v.0 c.0
  first_scopes env us e r (stays x ps) s a v c (suc j) = refl
  first_scopes env us e r (goes i ps) s a v c j = absurd s
  first_scopes env us e r (declarator_goes i ps) s a v c j = absurd s

  bound_scopes : (env : Environment) (r : Role) (ps : Prunings) → AllStay ps → AllTidy D r 0 ps → AllAvoid D (later_all ps) → AllScoped (at_or_empty (scopes_by opening.Bound (earlier_all ps))) (λ k. Read) 0 env (earlier_all ps)
      → Spared (at_or_empty (scopes_by opening.Bound (earlier_all ps))) (at_or_empty (scopes_by opening.Bound (later_all ps)))
  unfolding scopes_by Scoped
  bound_scopes env r end s a v c j = refl
  bound_scopes env r (stays x ps) s a v c zero = named_scope env true (spot_below r 0) x a.0 v.0 (λ e. bound_scoped Read (env ++ lexical_scope (bound_names (earlier x))) (earlier x) c.0)
  bound_scopes env r (stays x ps) s a v c (suc j) = refl
  bound_scopes env r (goes i ps) s a v c j = absurd s
  bound_scopes env r (declarator_goes i ps) s a v c j = absurd s

  second_scopes : (env : Environment) (r : Role) (ps : Prunings) → AllStay ps → AllTidy D r 0 ps → AllAvoid D (later_all ps) → AllScoped (at_or_empty (scopes_by opening.Second (earlier_all ps))) (λ k. Read) 0 env (earlier_all ps)
      → Spared (at_or_empty (scopes_by opening.Second (earlier_all ps))) (at_or_empty (scopes_by opening.Second (later_all ps)))
  unfolding scopes_by Scoped
  second_scopes env r end s a v c j = refl
  second_scopes env r (stays x end) s a v c j = refl
  second_scopes env r (stays x (stays y ps)) s a v c zero = refl
  second_scopes env r (stays x (stays y ps)) s a v c (suc zero) = lexical_here Read refl (env ++ []) (spot_below r 1) y a.1.0 v.1.0 c.1.0
  second_scopes env r (stays x (stays y ps)) s a v c (suc (suc j)) = refl
  second_scopes env r (stays x (goes i ps)) s a v c j = absurd s
  second_scopes env r (stays x (declarator_goes i ps)) s a v c j = absurd s
  second_scopes env r (goes i ps) s a v c j = absurd s
  second_scopes env r (declarator_goes i ps) s a v c j = absurd s

  arrow_scopes : (env : Environment) (ds : List (List ℕ)) (ps : Prunings) → AllStay ps → AllTidy D Role.Plain 0 ps → AllAvoid D (later_all ps) → ParamsKept (shape.ArrowFunctionExpression ds) ps → AllScoped (at_or_empty (scopes_by opening.Arrow (earlier_all ps))) (λ k. Read) 0 env (earlier_all ps)
      → Spared (at_or_empty (scopes_by opening.Arrow (earlier_all ps))) (at_or_empty (scopes_by opening.Arrow (later_all ps)))
  unfolding scopes_by Scoped
  arrow_scopes env ds end s a v k c j = refl
  arrow_scopes env ds (stays x end) s a v k c j = refl
  arrow_scopes env ds (stays x (stays y ps)) s a v k c zero = params_here env Elsewhere x a.0 v.0 c.0
  arrow_scopes env ds (stays x (stays y ps)) s a v k c (suc zero) = body_here (env ++ body_scope [] (bound_names (earlier x))) (merged (earlier x)) (merged (later x)) Elsewhere y (merged_still x a.0 k) a.1.0 v.1.0 c.1.0
  arrow_scopes env ds (stays x (stays y ps)) s a v k c (suc (suc j)) = refl
  arrow_scopes env ds (stays x (goes i ps)) s a v k c j = absurd s
  arrow_scopes env ds (stays x (declarator_goes i ps)) s a v k c j = absurd s
  arrow_scopes env ds (goes i ps) s a v k c j = absurd s
  arrow_scopes env ds (declarator_goes i ps) s a v k c j = absurd s

  own_named : (env : Environment) (own : Bool) (t : Tree) → own ≡ true → Scoped Read (env ++ lexical_scope (name_if own t)) t → NamesScoped Read (env ++ lexical_scope (bound_names t)) (bound_names t)
  own_named env own t e s = bound_scoped Read (env ++ lexical_scope (bound_names t)) t (subst (λ b. Scoped Read (env ++ lexical_scope (name_if b t)) t) e s)

  function_scopes : (env : Environment) (own d g : Bool) (ds : List (List ℕ)) (ps : Prunings) → AllStay ps → AllTidy D Role.Plain 0 ps → AllAvoid D (later_all ps) → ParamsKept (shape.Function d g ds) ps → AllScoped (at_or_empty (scopes_by (opening.Function own) (earlier_all ps))) (λ k. Read) 0 env (earlier_all ps)
      → Spared (at_or_empty (scopes_by (opening.Function own) (earlier_all ps))) (at_or_empty (scopes_by (opening.Function own) (later_all ps)))
  unfolding scopes_by Scoped
  function_scopes env own d g ds end s a v k c j = refl
  function_scopes env own d g ds (stays x end) s a v k c j = refl
  function_scopes env own d g ds (stays x (stays y end)) s a v k c j = refl
  function_scopes env own d g ds (stays x (stays y (stays z ps))) s a v k c zero = named_scope env own Elsewhere x a.0 v.0 (λ e. own_named env own (earlier x) e c.0)
  function_scopes env own d g ds (stays x (stays y (stays z ps))) s a v k c (suc zero) = params_here (env ++ lexical_scope (name_if own (earlier x))) Elsewhere y a.1.0 v.1.0 c.1.0
  function_scopes env own d g ds (stays x (stays y (stays z ps))) s a v k c (suc (suc zero)) =
      body_here ((env ++ lexical_scope (name_if own (earlier x))) ++ body_scope [] (bound_names (earlier y))) (merged (earlier y)) (merged (later y)) Elsewhere z (merged_still y a.1.0 k) a.1.1.0 v.1.1.0 c.1.1.0
  function_scopes env own d g ds (stays x (stays y (stays z ps))) s a v k c (suc (suc (suc j))) = refl
  function_scopes env own d g ds (stays x (stays y (goes i ps))) s a v k c j = absurd s
  function_scopes env own d g ds (stays x (stays y (declarator_goes i ps))) s a v k c j = absurd s
  function_scopes env own d g ds (stays x (goes i ps)) s a v k c j = absurd s
  function_scopes env own d g ds (stays x (declarator_goes i ps)) s a v k c j = absurd s
  function_scopes env own d g ds (goes i ps) s a v k c j = absurd s
  function_scopes env own d g ds (declarator_goes i ps) s a v k c j = absurd s

  class_scopes : (env : Environment) (own inside : Bool) (ps : Prunings) → AllStay ps → AllTidy D Role.Plain 0 ps → AllAvoid D (later_all ps) → AllScoped (at_or_empty (scopes_by (opening.Class own inside) (earlier_all ps))) (λ k. Read) 0 env (earlier_all ps)
      → Spared (at_or_empty (scopes_by (opening.Class own inside) (earlier_all ps))) (at_or_empty (scopes_by (opening.Class own inside) (later_all ps)))
  unfolding scopes_by Scoped
  class_scopes env own inside end s a v c j = refl
  class_scopes env own inside (stays x end) s a v c j = refl
  class_scopes env own inside (stays x (stays y end)) s a v c j = refl
  class_scopes env own inside (stays x (stays y (stays z end))) s a v c j = refl
  class_scopes env own inside (stays x (stays y (stays z (stays w ps)))) s a v c zero = named_scope env own Elsewhere x a.0 v.0 (λ e. own_named env own (earlier x) e c.0)
  class_scopes env own inside (stays x (stays y (stays z (stays w ps)))) s a v c (suc zero) =
      let outer = env ++ lexical_scope (name_if own (earlier x)) in
      let inner = outer ++ lexical_scope (name_if inside (earlier w)) in
      named_scope outer inside Elsewhere w a.1.1.1.0 v.1.1.1.0
      (λ e. own_named outer inside (earlier w) e (subst (λ b. Scoped Read b (earlier w)) (append-nil (inner ++ []) ∙ append-nil inner) c.1.1.1.0))
  class_scopes env own inside (stays x (stays y (stays z (stays w ps)))) s a v c (suc (suc j)) = refl
  class_scopes env own inside (stays x (stays y (stays z (goes i ps)))) s a v c j = absurd s
  class_scopes env own inside (stays x (stays y (stays z (declarator_goes i ps)))) s a v c j = absurd s
  class_scopes env own inside (stays x (stays y (goes i ps))) s a v c j = absurd s
  class_scopes env own inside (stays x (stays y (declarator_goes i ps))) s a v c j = absurd s
  class_scopes env own inside (stays x (goes i ps)) s a v c j = absurd s
  class_scopes env own inside (stays x (declarator_goes i ps)) s a v c j = absurd s
  class_scopes env own inside (goes i ps) s a v c j = absurd s
  class_scopes env own inside (declarator_goes i ps) s a v c j = absurd s

  variable_scopes : (b : Bool) (env : Environment) (r : Role) (ps : Prunings) → AllStay ps → AllTidy D r 0 ps → AllAvoid D (later_all ps)
      → AllScoped (at_or_empty (scopes_by (if b then opening.Bound else opening.Nothing) (earlier_all ps))) (λ k. Read) 0 env (earlier_all ps)
      → Spared (at_or_empty (scopes_by (if b then opening.Bound else opening.Nothing) (earlier_all ps))) (at_or_empty (scopes_by (if b then opening.Bound else opening.Nothing) (later_all ps)))
  unfolding scopes_by
  variable_scopes true env r ps s a v c j = bound_scopes env r ps s a v c j
  variable_scopes false env r ps s a v c j = refl

  scopes_still : (h : Shape) (p : Spot) (u : Use) (env : Environment) (ps : Prunings) → (is_list h ≡ false → AllStay ps) → AllTidy D (role h p) 0 ps → AllAvoid D (later_all ps) → ParamsKept h ps → AllScoped (opened u h (earlier_all ps)) (use_of h u) 0 env (earlier_all ps)
      → Spared (opened u h (earlier_all ps)) (opened u h (later_all ps))
  unfolding scopes_by
  scopes_still (shape.Program m ds) p u env ps s a v k c j = body_scopes p env (role (shape.Program m ds) p) ps (s refl) a v c j
  scopes_still shape.StaticBlock p u env ps s a v k c j = body_scopes p env (role shape.StaticBlock p) ps (s refl) a v c j
  scopes_still (shape.ArrowFunctionExpression ds) p u env ps s a v k c j = arrow_scopes env ds ps (s refl) a v k c j
  scopes_still shape.BlockStatement p u env ps s a v k c j = first_scopes env (use_of shape.BlockStatement u) refl (role shape.BlockStatement p) ps (s refl) a v c j
  scopes_still shape.ForStatement p u env ps s a v k c j = first_scopes env (use_of shape.ForStatement u) refl (role shape.ForStatement p) ps (s refl) a v c j
  scopes_still shape.ForInStatement p u env ps s a v k c j = first_scopes env (use_of shape.ForInStatement u) refl (role shape.ForInStatement p) ps (s refl) a v c j
  scopes_still shape.ForOfStatement p u env ps s a v k c j = first_scopes env (use_of shape.ForOfStatement u) refl (role shape.ForOfStatement p) ps (s refl) a v c j
  scopes_still shape.SwitchStatement p u env ps s a v k c j = second_scopes env (role shape.SwitchStatement p) ps (s refl) a v c j
  scopes_still shape.CatchClause p u env ps s a v k c j = bound_scopes env (role shape.CatchClause p) ps (s refl) a v c j
  scopes_still (shape.Function true g ds) p u env ps s a v k c j = function_scopes env (is_alone u) true g ds ps (s refl) a v k c j
  scopes_still (shape.Function false g ds) p u env ps s a v k c j = function_scopes env true false g ds ps (s refl) a v k c j
  scopes_still (shape.Class true) p u env ps s a v k c j = class_scopes env (is_alone u) true ps (s refl) a v c j
  scopes_still (shape.Class false) p u env ps s a v k c j = class_scopes env true false ps (s refl) a v c j
  scopes_still (shape.VariableDeclaration Var) p u env ps s a v k c j = refl
  scopes_still (shape.VariableDeclaration q) p u env ps s a v k c j = variable_scopes (is_alone u) env (role (shape.VariableDeclaration q) p) ps (s refl) a v c j
  scopes_still h p u env ps s a v k c j = refl

  -- ---- children that are scoped in the scopes that were, and in those that are left

  all_spared : (sc sc' : ℕ → List Binding) → Spared sc sc' → (us : ℕ → Use) (i : ℕ) (outer inner : Environment) (ts : Trees) → AllAvoid D ts → AllScoped sc us i (outer ++ inner) ts → AllScoped sc' us i (outer ++ spared_bindings D only inner) ts
  unfolding Scoped
  all_spared sc sc' e us i outer inner none v a = tt
  all_spared sc sc' e us i outer inner (t ▸ ts) v a = (
    subst (λ env. Scoped (us i) env t) (joined sc sc' e i outer inner) (spared_scoped D only (us i) outer (inner ++ sc i) t v.0 (subst (λ env. Scoped (us i) env t) (append_assoc outer inner (sc i)) a.0)),
    subst (λ env. AllScoped sc' us (suc i) env ts) (joined sc sc' e i outer inner) (all_spared sc sc' e us (suc i) outer (inner ++ sc i) ts v.1 (subst (λ env. AllScoped sc us (suc i) env ts) (append_assoc outer inner (sc i)) a.1)),
  )
    where
      joined : (sc sc' : ℕ → List Binding) → Spared sc sc' → (i : ℕ) (outer inner : Environment) → outer ++ spared_bindings D only (inner ++ sc i) ≡ (outer ++ spared_bindings D only inner) ++ sc' i
      joined sc sc' e i outer inner =
          ap (λ bs. outer ++ bs) (bindings_both D only inner (sc i) ∙ ap (λ bs. spared_bindings D only inner ++ bs) (sym (e i)))
          ∙ sym (append_assoc outer (spared_bindings D only inner) (sc' i))

  all_fewer : (x : Option SymbolId) (sc sc' : ℕ → List Binding) → Spared sc sc' → (us : ℕ → Use) (i : ℕ) (ts : Trees) → times x (declared_from sc' us i ts) ≤ times x (declared_from sc us i ts)
  unfolding declared_in
  all_fewer x sc sc' e us i none = omega arith
  all_fewer x sc sc' e us i (t ▸ ts) =
      omega (
        arith,
        times_three x (symbols_in (sc i)) (declared_in (us i) t) (declared_from sc us (suc i) ts),
        times_three x (symbols_in (sc' i)) (declared_in (us i) t) (declared_from sc' us (suc i) ts),
        ap (λ bs. times x (symbols_in bs)) (e i),
        fewer_symbols D only x (sc i),
        all_fewer x sc sc' e us (suc i) ts,
      )

  -- ---- the whole

  -- a later tree is scoped where the earlier was, and declares no symbol more often
  pub record StillScoped (u : Use) (env : Environment) (t t' : Tree) : Type 0 where
    pub scoped : Scoped u env t'
    pub within : Within (declared_in u t') (declared_in u t)

  record ChildrenScoped (sc : ℕ → List Binding) (us : ℕ → Use) (i j : ℕ) (env : Environment) (ts ts' : Trees) : Type 0 where
    scoped : AllScoped sc us j env ts'
    within : Within (declared_from sc us j ts') (declared_from sc us i ts)

  stay_scoped : (sc : ℕ → List Binding) (us : ℕ → Use) (i j : ℕ) (env : Environment) (t t' : Tree) (ts ts' : Trees) → sc i ≡ sc j → us i ≡ us j → StillScoped (us i) (env ++ sc i) t t' → ChildrenScoped sc us (suc i) (suc j) (env ++ sc i) ts ts' → ChildrenScoped sc us i j env (t ▸ ts) (t' ▸ ts')
  unfolding Scoped declared_in
  stay_scoped sc us i j env t t' ts ts' e f a b = record {
    scoped = (subst (λ bs. Scoped (us j) (env ++ bs) t') e (subst (λ v. Scoped v (env ++ sc i) t') f a.scoped), subst (λ bs. AllScoped sc us (suc j) (env ++ bs) ts') e b.scoped);
    within = λ x.
        omega (
          arith,
          times_three x (symbols_in (sc i)) (declared_in (us i) t) (declared_from sc us (suc i) ts),
          times_three x (symbols_in (sc j)) (declared_in (us j) t') (declared_from sc us (suc j) ts'),
          ap (λ bs. times x (symbols_in bs)) e,
          ap (λ v. times x (declared_in v t')) f,
          a.within x,
          b.within x,
        );
  }

  goes_scoped : (u : Use) (i j : ℕ) (env : Environment) (t : Tree) (ts ts' : Trees) → ChildrenScoped (λ k. []) (λ k. u) (suc i) j env ts ts' → ChildrenScoped (λ k. []) (λ k. u) i j env (t ▸ ts) ts'
  unfolding declared_in
  goes_scoped u i j env t ts ts' b = record {
    scoped = b.scoped;
    within = λ x. omega (arith, times_three x [] (declared_in u t) (declared_from (λ k. []) (λ k. u) (suc i) ts), b.within x);
  }

  in_list : (u : Use) (i : ℕ) (env : Environment) (ts : Trees) → AllScoped (λ k. []) (λ k. u) i (env ++ []) ts → AllScoped (λ k. []) (λ k. u) i env ts
  in_list u i env ts a = subst (λ v. AllScoped (λ k. []) (λ k. u) i v ts) (append-nil env) a

  list_scoped : (xs : List Name) (n : ℕ) (ps : Prunings) (u : Use) (env : Environment) → ChildrenScoped (λ k. []) (λ k. u) 0 0 env (earlier_all ps) (later_all ps) → NamesScoped u env xs → StillScoped u env (node shape.Listed xs n (earlier_all ps)) (node shape.Listed xs n (later_all ps))
  unfolding Scoped declared_in scopes_by
  list_scoped xs n ps u env b o = record { scoped = (o, b.scoped); within = b.within }

  node_scoped : (h : Shape) (xs : List Name) (n : ℕ) (p : Spot) (ps : Prunings) (u : Use) (env : Environment) → AllStay ps → AllTidy D (role h p) 0 ps → AllAvoid D (later_all ps) → ParamsKept h ps → Scoped u env (node h xs n (earlier_all ps)) → ChildrenScoped (opened u h (earlier_all ps)) (use_of h u) 0 0 env (earlier_all ps) (later_all ps)
      → StillScoped u env (node h xs n (earlier_all ps)) (node h xs n (later_all ps))
  unfolding Scoped declared_in
  node_scoped h xs n p ps u env s a v k c b =
      let e = scopes_still h p u env ps (λ q. s) a v k c.1 in
      record {
        scoped = (
          own_still u env h xs ps (λ q. s) c.0,
          subst (λ w. AllScoped (opened u h (later_all ps)) (use_of h u) 0 w (later_all ps)) (append-nil env)
              (all_spared (opened u h (earlier_all ps)) (opened u h (later_all ps)) e (use_of h u) 0 env [] (later_all ps) v (subst (λ w. AllScoped (opened u h (earlier_all ps)) (use_of h u) 0 w (later_all ps)) (sym (append-nil env)) b.scoped)),
        );
        within = λ x. omega (arith, all_fewer x (opened u h (earlier_all ps)) (opened u h (later_all ps)) e (use_of h u) 0 (later_all ps), b.within x);
      }

  mutual
    unfolding Scoped declared_in scopes_by

    pub still_scoped : (p : Spot) (x : Pruned) (u : Use) (env : Environment) → Tidy D p x → Avoids D (later x) → KeepsParams x → Scoped u env (earlier x) → StillScoped u env (earlier x) (later x)
    still_scoped p (prune h xs n ps) u env a v k c =
        list_or_not h (StillScoped u env (node h xs n (earlier_all ps)) (node h xs n (later_all ps)))
        (λ e. subst (λ g. StillScoped u env (node g xs n (earlier_all ps)) (node g xs n (later_all ps))) (sym e)
        (list_scoped xs n ps u env (all_in_list (role h p) 0 0 ps u env a v.1 k.1 (subst (λ g. Scoped u env (node g xs n (earlier_all ps))) e c).1) (subst (λ g. Scoped u env (node g xs n (earlier_all ps))) e c).0))
        (λ e. node_scoped h xs n p ps u env (children_stay D h p ps e a) a v.1 k.0 c (all_still (opened u h (earlier_all ps)) (use_of h u) (role h p) 0 ps env (children_stay D h p ps e a) a v.1 k.1 c.1))

    all_still : (sc : ℕ → List Binding) (us : ℕ → Use) (r : Role) (i : ℕ) (ps : Prunings) (env : Environment) → AllStay ps → AllTidy D r i ps → AllAvoid D (later_all ps) → AllKeepParams ps → AllScoped sc us i env (earlier_all ps) → ChildrenScoped sc us i i env (earlier_all ps) (later_all ps)
    all_still sc us r i end env s a v k c = record { scoped = tt; within = λ x. omega arith }
    all_still sc us r i (stays x ps) env s a v k c =
        stay_scoped sc us i i env (earlier x) (later x) (earlier_all ps) (later_all ps) refl refl (still_scoped (spot_below r i) x (us i) (env ++ sc i) a.0 v.0 k.0 c.0) (all_still sc us r (suc i) ps (env ++ sc i) s a.1 v.1 k.1 c.1)
    all_still sc us r i (goes g ps) env s a v k c = absurd s
    all_still sc us r i (declarator_goes g ps) env s a v k c = absurd s

    all_in_list : (r : Role) (i j : ℕ) (ps : Prunings) (u : Use) (env : Environment) → AllTidy D r i ps → AllAvoid D (later_all ps) → AllKeepParams ps → AllScoped (λ k. []) (λ k. u) i env (earlier_all ps) → ChildrenScoped (λ k. []) (λ k. u) i j env (earlier_all ps) (later_all ps)
    all_in_list r i j end u env a v k c = record { scoped = tt; within = λ x. omega arith }
    all_in_list r i j (stays x ps) u env a v k c =
        stay_scoped (λ k. []) (λ k. u) i j env (earlier x) (later x) (earlier_all ps) (later_all ps) refl refl (still_scoped (spot_below r i) x u (env ++ []) a.0 v.0 k.0 c.0) (all_in_list r (suc i) (suc j) ps u (env ++ []) a.1 v.1 k.1 c.1)
    all_in_list r i j (goes g ps) u env a v k c = goes_scoped u i j env _ (earlier_all ps) (later_all ps) (all_in_list r (suc i) j ps u env a.2 v k (in_list u (suc i) env (earlier_all ps) c.1))
    all_in_list r i j (declarator_goes g ps) u env a v k c = goes_scoped u i j env _ (earlier_all ps) (later_all ps) (all_in_list r (suc i) j ps u env a.2 v k (in_list u (suc i) env (earlier_all ps) c.1))
