-- A variable that no name of a program stands for is neither shared nor foreign to any body of it.
use Rattle.std.specs.Prelude.{ℕ, zero, suc, ◌≡◌, refl, Bool, true, false, ◌&&◌, ◌||◌, not, List, [], ◌∷◌, ◌++◌, map, Option, Some, None, if◌then◌else◌}
use Rattle.std.specs.List.{list_any}
use Rattle.std.proofs.Common.{ap, ◌∙◌}
use Rattle.mini_model.specs.declared.kind.VariableDeclarationKind.TheVariants.{Var}
use Rattle.mini_model.specs.declared.name.Name.{Name}
use Rattle.mini_model.specs.declared.name.SymbolId.{SymbolId}
use Rattle.mini_model.specs.declared.shape.Shape.{Shape}
use Rattle.mini_model.specs.declared.shape.Shape.TheVariants as shape
use Rattle.mini_model.specs.Tree.{Tree, Trees, node, none, ◌▸◌, is_absent}
use Rattle.mini_laws.specs.declared.names.Use.{Use}
use Rattle.mini_laws.specs.declared.names.Use.TheVariants.{Read, Write}
use Rattle.mini_laws.specs.declared.names.Around.{Around}
use Rattle.mini_laws.specs.declared.names.Binding.{Binding}
use Rattle.mini_laws.specs.declared.names.Declared.{Declared}
use Rattle.mini_laws.specs.declared.names.Declared.TheVariants as declared
use Rattle.mini_laws.specs.DeclaredNames.{names_of, first_names, all_names, bound_names, is_spelled}
use Rattle.mini_laws.specs.Foreign.{imported_by, imported_names, all_imported_names, own_pattern_names, pattern_names, all_pattern_names, is_body_by, own_lexical, lexical_variables, all_lexical_variables, has_number, own_params_around, params_around, all_params_around, is_write, is_declared_in, switched, is_read_early, moments, is_foreign}
use Rattle.mini_laws.specs.Mentions.{Mention, own_mentions, around_child, outermost, mentions, mentions_from, program_mentions, is_elsewhere, same_variable, is_among}
use Rattle.mini_laws.specs.References.{writes}
use Rattle.mini_laws.specs.Resolved.{Environment, or_else, is_for, own_symbol, symbol_of, with_symbol, gives_value}
use Rattle.mini_laws.specs.ScopeList.{Scope, with_names_alone, entered, names_in, least_scopes, scope_list, scope_list_from, any_has_eval, scopes_of, seen_in, seen_by_eval}
use Rattle.mini_laws.specs.Scopes.{use_of, opened}
use Rattle.mini_laws.specs.Shared.{script_tops, module_names_by, module_names, all_module_names, names_arguments, reached_params, reached_by_arguments, all_reached_by_arguments, spelled_among, own_caught, caught, all_caught, written_by, given_values, write_at, var_writes, var_writes_from, program_var_writes, names_in_pattern, own_pattern_writes, pattern_writes, pattern_writes_from, program_pattern_writes, is_shared}
use Rattle.mini_laws.specs.Strict.{is_strict_in}
use Rattle.mini_laws.specs.Value.{Declared as Variable, variables, variable_eq, variable_by}
use Rattle.mini_laws.specs.Congruence.{NoneIn, Avoids, AllAvoid}
use Rattle.mini_laws.specs.Substitution.{alone}
use Rattle.mini_kept.specs.Loosely.{symbol}
use Rattle.mini_kept.proofs.Unbound.{bound_at, Other as OtherThan, both as others_both, pick as others_pick, Unbound, AllUnbound, named as other_named, first_named as other_first, all_named as all_other, scope_here as scope_other}

module _ (k : ℕ) where
  abbrev x : Name
  x = record { spelling = []; symbol = symbol k }

  -- ---- names

  abbrev Other : List Name → Type 0
  Other ys = OtherThan k ys

  both : (ys zs : List Name) → Other ys → Other zs → Other (ys ++ zs)
  both ys zs o p = others_both k ys zs o p

  pick : (b : Bool) (ys zs : List Name) → Other ys → Other zs → Other (if b then ys else zs)
  pick b ys zs o p = others_pick k b ys zs o p

  none_among : (ys : List Name) → Other ys → is_among x ys ≡ false
  none_among [] o = refl
  none_among (y ∷ ys) o = ap (λ b. b || is_among x ys) o.0 ∙ none_among ys o.1

  other_name : (s : List ℕ) (y : Option SymbolId) → variable_eq (Variable k) (variable_by s y) ≡ false → same_variable x (record { spelling = s; symbol = y }) ≡ false
  other_name s None e = refl
  other_name s (Some y) e = e

  own : (xs : List Name) → NoneIn (alone (Variable k)) (variables xs) → Other xs
  own [] a = tt
  own (y ∷ ys) a = (other_name y.spelling y.symbol a.0, own ys a.1)

  -- no name is bound as it
  at_node : (h : Shape) (xs : List Name) → Other xs → Other (bound_at h xs)
  at_node shape.BindingIdentifier xs o = o
  at_node h xs o = tt

  mutual
    unbound : (t : Tree) → Avoids (alone (Variable k)) t → Unbound k t
    unbound (node h xs n ts) a = (at_node h xs (own xs a.0), all_unbound ts a.1)

    all_unbound : (ts : Trees) → AllAvoid (alone (Variable k)) ts → AllUnbound k ts
    all_unbound none a = tt
    all_unbound (t ▸ ts) a = (unbound t a.0, all_unbound ts a.1)

  named : (d : Declared) (t : Tree) → Avoids (alone (Variable k)) t → Other (names_of d t)
  named d t a = other_named k d t (unbound t a)

  first_named : (ts : Trees) → AllAvoid (alone (Variable k)) ts → Other (first_names ts)
  first_named ts a = other_first k ts (all_unbound ts a)

  all_named : (d : Declared) (ts : Trees) → AllAvoid (alone (Variable k)) ts → Other (all_names d ts)
  all_named d ts a = all_other k d ts (all_unbound ts a)

  scope_here : (u : Use) (h : Shape) (ts : Trees) → AllAvoid (alone (Variable k)) ts → (i : ℕ) → Other (names_in (opened u h ts i))
  scope_here u h ts a i = scope_other k u h ts (all_unbound ts a) i

  -- ---- what a direct eval can see

  abbrev AllOther : List Scope → Type 0
  AllOther [] = Unit {0}
  AllOther (r ∷ rs) = Other r.names × AllOther rs

  all_both : (rs ss : List Scope) → AllOther rs → AllOther ss → AllOther (rs ++ ss)
  all_both [] ss o p = p
  all_both (r ∷ rs) ss o p = (o.0, all_both rs ss o.1 p)

  entered_other : (n : ℕ) (s : Scope) → Other s.names → AllOther (entered n s)
  entered_other zero s o = by s.names
    where
      by : (ys : List Name) → AllOther (with_names_alone ys s)
      by [] = tt
      by (y ∷ ys) = (o, tt)
  entered_other (suc zero) s o = (o, tt)
  entered_other (suc (suc n)) s o = (tt, (o, tt))

  mutual
    unfolding scope_list

    listed_other : (u : Use) (strict : Bool) (t : Tree) → Avoids (alone (Variable k)) t → AllOther (scope_list u strict t)
    listed_other u strict (node h xs n ts) a = all_listed (opened u h ts) (scope_here u h ts a.1) (use_of h u) (least_scopes h) (is_strict_in strict h) 0 ts a.1

    all_listed : (sc : ℕ → List Binding) → ((i : ℕ) → Other (names_in (sc i))) → (us : ℕ → Use) (least : ℕ → ℕ) (strict : Bool) (i : ℕ) (ts : Trees) → AllAvoid (alone (Variable k)) ts → AllOther (scope_list_from sc us least strict i ts)
    all_listed sc o us least strict i none a = tt
    all_listed sc o us least strict i (t ▸ ts) a =
        let here : Scope = record { names = names_in (sc i); strict = strict; evals = any_has_eval (t ▸ ts) } in
        all_both (entered (least i) here) (scope_list (us i) strict t ++ scope_list_from sc us least strict (suc i) ts) (entered_other (least i) here (o i))
        (all_both (scope_list (us i) strict t) (scope_list_from sc us least strict (suc i) ts) (listed_other (us i) strict t a.0) (all_listed sc o us least strict (suc i) ts a.1))

  seen_other : (rs : List Scope) → AllOther rs → Other (seen_in rs)
  seen_other [] o = tt
  seen_other (r ∷ rs) o = let rest = seen_other rs o.1 in pick r.evals (r.names ++ seen_in rs) (seen_in rs) (both r.names (seen_in rs) o.0 rest) rest

  -- ---- the other lists of names

  tops_other : (t : Tree) → Avoids (alone (Variable k)) t → Other (script_tops t)
  tops_other (node (shape.Program false ds) xs n ts) a = scope_here Read (shape.Program false ds) ts a.1 0
  tops_other (node (shape.Program true ds) xs n ts) a = tt
  tops_other (node h xs n ts) a = tt

  module_by : (h : Shape) (xs lexical hoisted below : List Name) → Other xs → Other lexical → Other hoisted → Other below → Other (module_names_by h xs lexical hoisted below)
  module_by shape.Listed xs l q r a b c d = d
  module_by (shape.Program is_module ds) xs l q r a b c d = d
  module_by shape.ImportDeclaration xs l q r a b c d = b
  module_by shape.ExportNamedDeclaration xs l q r a b c d = both (l ++ q) r (both l q b c) d
  module_by shape.ExportDefaultDeclaration xs l q r a b c d = b
  module_by shape.ExportSpecifier xs l q r a b c d = d
  module_by shape.Identifier xs l q r a b c d = a
  module_by h xs l q r a b c d = tt

  imports_by : (h : Shape) (lexical below : List Name) → Other lexical → Other below → Other (imported_by h lexical below)
  imports_by (shape.Program is_module ds) l r b d = d
  imports_by shape.Listed l r b d = d
  imports_by shape.ImportDeclaration l r b d = b
  imports_by h l r b d = tt

  mutual
    unfolding module_names imported_names

    module_other : (t : Tree) → Avoids (alone (Variable k)) t → Other (module_names t)
    module_other (node h xs n ts) a = module_by h xs (names_of declared.Lexical (node h xs n ts)) (names_of declared.Hoisted (node h xs n ts)) (all_module_names ts) (own xs a.0) (named declared.Lexical (node h xs n ts) a) (named declared.Hoisted (node h xs n ts) a) (all_module_other ts a.1)

    all_module_other : (ts : Trees) → AllAvoid (alone (Variable k)) ts → Other (all_module_names ts)
    all_module_other none a = tt
    all_module_other (t ▸ ts) a = both (module_names t) (all_module_names ts) (module_other t a.0) (all_module_other ts a.1)

    imported_other : (t : Tree) → Avoids (alone (Variable k)) t → Other (imported_names t)
    imported_other (node h xs n ts) a = imports_by h (names_of declared.Lexical (node h xs n ts)) (all_imported_names ts) (named declared.Lexical (node h xs n ts) a) (all_imported_other ts a.1)

    all_imported_other : (ts : Trees) → AllAvoid (alone (Variable k)) ts → Other (all_imported_names ts)
    all_imported_other none a = tt
    all_imported_other (t ▸ ts) a = both (imported_names t) (all_imported_names ts) (imported_other t a.0) (all_imported_other ts a.1)

  if_other : (b : Bool) (ys : List Name) → Other ys → Other (if b then ys else [])
  if_other true ys o = o
  if_other false ys o = tt

  reached_own : (strict : Bool) (h : Shape) (ts : Trees) → AllAvoid (alone (Variable k)) ts → Other (reached_params strict h ts)
  reached_own strict (shape.Function d g ds) none a = tt
  reached_own strict (shape.Function d g ds) (t ▸ none) a = tt
  reached_own strict (shape.Function d g ds) (t ▸ (p ▸ none)) a = tt
  reached_own strict (shape.Function d g ds) (t ▸ (p ▸ (b ▸ ts))) a = if_other (not strict && (names_arguments p || names_arguments b)) (bound_names p) (named declared.Bound p a.1.0)
  reached_own strict h ts a = tt

  spelled_other : (xs ys : List Name) → Other ys → Other (spelled_among xs ys)
  spelled_other xs [] o = tt
  spelled_other xs (y ∷ ys) o = let rest = spelled_other xs ys o.1 in pick (is_spelled y.spelling xs) (y ∷ spelled_among xs ys) (spelled_among xs ys) (o.0, rest) rest

  caught_own : (h : Shape) (ts : Trees) → AllAvoid (alone (Variable k)) ts → Other (own_caught h ts)
  caught_own shape.CatchClause none a = tt
  caught_own shape.CatchClause (p ▸ ts) a = spelled_other (bound_names p) (all_names declared.Hoisted ts) (all_named declared.Hoisted ts a.1)
  caught_own h ts a = tt

  pattern_own : (h : Shape) (n : ℕ) (ts : Trees) → AllAvoid (alone (Variable k)) ts → Other (own_pattern_names h n ts)
  pattern_own shape.ObjectPattern n ts a = all_named declared.Bound ts a
  pattern_own shape.ArrayPattern n ts a = all_named declared.Bound ts a
  pattern_own shape.AssignmentPattern zero ts a = tt
  pattern_own shape.AssignmentPattern (suc n) ts a = all_named declared.Bound ts a
  pattern_own h n ts a = tt

  lexical_own : (b : Bool) (h : Shape) (ts : Trees) → AllAvoid (alone (Variable k)) ts → Other (own_lexical b h ts)
  lexical_own b (shape.VariableDeclaration Var) ts a = tt
  lexical_own b (shape.VariableDeclaration q) ts a = all_named declared.Bound ts a
  lexical_own true (shape.Function true g ds) ts a = tt
  lexical_own true (shape.Function false g ds) ts a = first_named ts a
  lexical_own false (shape.Function d g ds) ts a = first_named ts a
  lexical_own b (shape.Class d) none a = tt
  lexical_own b (shape.Class d) (t ▸ none) a = tt
  lexical_own b (shape.Class d) (t ▸ (u ▸ none)) a = tt
  lexical_own b (shape.Class d) (t ▸ (u ▸ (v ▸ none))) a = tt
  lexical_own b (shape.Class d) (t ▸ (u ▸ (v ▸ (w ▸ ts)))) a = both (bound_names t) (bound_names w) (named declared.Bound t a.0) (named declared.Bound w a.1.1.1.0)
  lexical_own b shape.CatchClause ts a = first_named ts a
  lexical_own b shape.ImportDeclaration ts a = all_named declared.Bound ts a
  lexical_own b h ts a = tt

  params_own : (b : ℕ) (h : Shape) (ts : Trees) → AllAvoid (alone (Variable k)) ts → Other (own_params_around b h ts)
  params_own b (shape.Function d g ds) none a = tt
  params_own b (shape.Function d g ds) (t ▸ none) a = tt
  params_own b (shape.Function d g ds) (t ▸ (p ▸ ts)) a = if_other (has_number b p) (bound_names p) (named declared.Bound p a.1.0)
  params_own b (shape.ArrowFunctionExpression ds) none a = tt
  params_own b (shape.ArrowFunctionExpression ds) (p ▸ ts) a = if_other (has_number b p) (bound_names p) (named declared.Bound p a.0)
  params_own b h ts a = tt

  mutual
    unfolding reached_by_arguments caught pattern_names lexical_variables params_around

    reached_other : (strict : Bool) (t : Tree) → Avoids (alone (Variable k)) t → Other (reached_by_arguments strict t)
    reached_other strict (node h xs n ts) a = both (reached_params (is_strict_in strict h) h ts) (all_reached_by_arguments (is_strict_in strict h) ts) (reached_own (is_strict_in strict h) h ts a.1) (all_reached_other (is_strict_in strict h) ts a.1)

    all_reached_other : (strict : Bool) (ts : Trees) → AllAvoid (alone (Variable k)) ts → Other (all_reached_by_arguments strict ts)
    all_reached_other strict none a = tt
    all_reached_other strict (t ▸ ts) a = both (reached_by_arguments strict t) (all_reached_by_arguments strict ts) (reached_other strict t a.0) (all_reached_other strict ts a.1)

    caught_other : (t : Tree) → Avoids (alone (Variable k)) t → Other (caught t)
    caught_other (node h xs n ts) a = both (own_caught h ts) (all_caught ts) (caught_own h ts a.1) (all_caught_other ts a.1)

    all_caught_other : (ts : Trees) → AllAvoid (alone (Variable k)) ts → Other (all_caught ts)
    all_caught_other none a = tt
    all_caught_other (t ▸ ts) a = both (caught t) (all_caught ts) (caught_other t a.0) (all_caught_other ts a.1)

    pattern_other : (t : Tree) → Avoids (alone (Variable k)) t → Other (pattern_names t)
    pattern_other (node h xs n ts) a = both (own_pattern_names h n ts) (all_pattern_names ts) (pattern_own h n ts a.1) (all_pattern_other ts a.1)

    all_pattern_other : (ts : Trees) → AllAvoid (alone (Variable k)) ts → Other (all_pattern_names ts)
    all_pattern_other none a = tt
    all_pattern_other (t ▸ ts) a = both (pattern_names t) (all_pattern_names ts) (pattern_other t a.0) (all_pattern_other ts a.1)

    lexical_other : (b : Bool) (t : Tree) → Avoids (alone (Variable k)) t → Other (lexical_variables b t)
    lexical_other b (node h xs n ts) a = both (own_lexical b h ts) (all_lexical_variables (is_body_by h b) ts) (lexical_own b h ts a.1) (all_lexical_other (is_body_by h b) ts a.1)

    all_lexical_other : (b : Bool) (ts : Trees) → AllAvoid (alone (Variable k)) ts → Other (all_lexical_variables b ts)
    all_lexical_other b none a = tt
    all_lexical_other b (t ▸ ts) a = both (lexical_variables b t) (all_lexical_variables b ts) (lexical_other b t a.0) (all_lexical_other b ts a.1)

    params_other : (b : ℕ) (t : Tree) → Avoids (alone (Variable k)) t → Other (params_around b t)
    params_other b (node h xs n ts) a = both (own_params_around b h ts) (all_params_around b ts) (params_own b h ts a.1) (all_params_other b ts a.1)

    all_params_other : (b : ℕ) (ts : Trees) → AllAvoid (alone (Variable k)) ts → Other (all_params_around b ts)
    all_params_other b none a = tt
    all_params_other b (t ▸ ts) a = both (params_around b t) (all_params_around b ts) (params_other b t a.0) (all_params_other b ts a.1)

  -- ---- mentions, and what a `var` writes

  abbrev Unmentioned : List Mention → Type 0
  Unmentioned [] = Unit {0}
  Unmentioned (m ∷ ms) = (same_variable x m.name ≡ false) × Unmentioned ms

  mention_both : (ms ns : List Mention) → Unmentioned ms → Unmentioned ns → Unmentioned (ms ++ ns)
  mention_both [] ns o p = p
  mention_both (m ∷ ms) ns o p = (o.0, mention_both ms ns o.1 p)

  names_mentioned : (u : Use) (b : Bool) (r : Around) (xs : List Name) → Other xs → Unmentioned (map (λ y. record { name = y; used = u; binds = b; around = r }) xs)
  names_mentioned u b r [] o = tt
  names_mentioned u b r (y ∷ ys) o = (o.0, names_mentioned u b r ys o.1)

  own_mentioned : (u : Use) (r : Around) (h : Shape) (xs : List Name) → Other xs → Unmentioned (own_mentions u r h xs)
  own_mentioned u r shape.Identifier xs o = names_mentioned u false r xs o
  own_mentioned u r shape.BindingIdentifier xs o = names_mentioned u true r xs o
  own_mentioned u r h xs o = tt

  mutual
    unfolding mentions

    mentioned_other : (u : Use) (r : Around) (t : Tree) → Avoids (alone (Variable k)) t → Unmentioned (mentions u r t)
    mentioned_other u r (node h xs n ts) a = mention_both (own_mentions u r h xs) (mentions_from (use_of h u) (around_child h r n) 0 ts) (own_mentioned u r h xs (own xs a.0)) (all_mentioned_other (use_of h u) (around_child h r n) 0 ts a.1)

    all_mentioned_other : (us : ℕ → Use) (rs : ℕ → Around) (i : ℕ) (ts : Trees) → AllAvoid (alone (Variable k)) ts → Unmentioned (mentions_from us rs i ts)
    all_mentioned_other us rs i none a = tt
    all_mentioned_other us rs i (t ▸ ts) a = mention_both (mentions (us i) (rs i) t) (mentions_from us rs (suc i) ts) (mentioned_other (us i) (rs i) t a.0) (all_mentioned_other us rs (suc i) ts a.1)

  -- of a name that is found in an environment
  abbrev Unfound : Option SymbolId → Type 0
  Unfound y = same_variable x (record { spelling = []; symbol = y }) ≡ false

  any_spelling : (s : List ℕ) (y : Option SymbolId) → Unfound y → same_variable x (record { spelling = s; symbol = y }) ≡ false
  any_spelling s None e = refl
  any_spelling s (Some y) e = e

  no_spelling : (y : Name) → same_variable x y ≡ false → Unfound y.symbol
  no_spelling y e = by y.spelling y.symbol e
    where
      by : (s : List ℕ) (z : Option SymbolId) → same_variable x (record { spelling = s; symbol = z }) ≡ false → Unfound z
      by s None e = refl
      by s (Some z) e = e

  either_unfound : (y z : Option SymbolId) → Unfound y → Unfound z → Unfound (or_else y z)
  either_unfound None z p q = q
  either_unfound (Some y) z p q = p

  if_unfound : (b : Bool) (y : Option SymbolId) → Unfound y → Unfound (if b then y else None)
  if_unfound true y p = p
  if_unfound false y p = refl

  unfound : (u : Use) (s : List ℕ) (env : Environment) → Other (names_in env) → Unfound (symbol_of u s env)
  unfound u s [] o = refl
  unfound u s (b ∷ env) o = either_unfound (symbol_of u s env) (own_symbol u s b) (unfound u s env o.1) (if_unfound (is_for u s b) b.name.symbol (no_spelling b.name o.0))

  env_both : (env bs : Environment) → Other (names_in env) → Other (names_in bs) → Other (names_in (env ++ bs))
  env_both [] bs o p = p
  env_both (b ∷ env) bs o p = (o.0, env_both env bs o.1 p)

  found_other : (env : Environment) → Other (names_in env) → (ys : List Name) → Other (map (with_symbol Read env) ys)
  found_other env o [] = tt
  found_other env o (y ∷ ys) = (any_spelling y.spelling (symbol_of Read y.spelling env) (unfound Read y.spelling env o), found_other env o ys)

  patterned_own : (u : Use) (env : Environment) → Other (names_in env) → (h : Shape) (ts : Trees) → Other (own_pattern_writes u env h ts)
  patterned_own u env o shape.VariableDeclarator none = tt
  patterned_own u env o shape.VariableDeclarator (t ▸ none) = tt
  patterned_own u env o shape.VariableDeclarator (t ▸ (init ▸ ts)) = if_other (gives_value u (is_absent init)) (map (with_symbol Read env) (names_in_pattern t)) (found_other env o (names_in_pattern t))
  patterned_own u env o h ts = tt

  given_own : (u : Use) (h : Shape) (xs : List Name) (ts : Trees) → Other xs → AllAvoid (alone (Variable k)) ts → Other (given_values u h xs ts)
  given_own u shape.VariableDeclarator xs none o a = tt
  given_own u shape.VariableDeclarator xs (t ▸ none) o a = tt
  given_own u shape.VariableDeclarator [] (t ▸ (init ▸ ts)) o a = if_other (gives_value u (is_absent init)) (written_by [] t) (named declared.Bound t a.0)
  given_own u shape.VariableDeclarator (y ∷ ys) (t ▸ (init ▸ ts)) o a = if_other (gives_value u (is_absent init)) (written_by (y ∷ ys) t) o
  given_own u h xs ts o a = tt

  mutual
    unfolding var_writes pattern_writes

    writes_other : (u : Use) (r : Around) (t : Tree) → Avoids (alone (Variable k)) t → Unmentioned (var_writes u r t)
    writes_other u r (node h xs n ts) a = mention_both (map (write_at r) (given_values u h xs ts)) (var_writes_from (use_of h u) (around_child h r n) 0 ts) (names_mentioned Write false r (given_values u h xs ts) (given_own u h xs ts (own xs a.0) a.1)) (all_writes_other (use_of h u) (around_child h r n) 0 ts a.1)

    all_writes_other : (us : ℕ → Use) (rs : ℕ → Around) (i : ℕ) (ts : Trees) → AllAvoid (alone (Variable k)) ts → Unmentioned (var_writes_from us rs i ts)
    all_writes_other us rs i none a = tt
    all_writes_other us rs i (t ▸ ts) a = mention_both (var_writes (us i) (rs i) t) (var_writes_from us rs (suc i) ts) (writes_other (us i) (rs i) t a.0) (all_writes_other us rs (suc i) ts a.1)

    patterned_other : (u : Use) (env : Environment) → Other (names_in env) → (t : Tree) → Avoids (alone (Variable k)) t → Other (pattern_writes u env t)
    patterned_other u env o (node h xs n ts) a = both (own_pattern_writes u env h ts) (pattern_writes_from (opened u h ts) (use_of h u) 0 env ts) (patterned_own u env o h ts) (all_patterned_other (opened u h ts) (scope_here u h ts a.1) (use_of h u) 0 env o ts a.1)

    all_patterned_other : (sc : ℕ → List Binding) → ((i : ℕ) → Other (names_in (sc i))) → (us : ℕ → Use) (i : ℕ) (env : Environment) → Other (names_in env) → (ts : Trees) → AllAvoid (alone (Variable k)) ts → Other (pattern_writes_from sc us i env ts)
    all_patterned_other sc p us i env o none a = tt
    all_patterned_other sc p us i env o (t ▸ ts) a =
        let inner = env_both env (sc i) o (p i) in
        both (pattern_writes (us i) (env ++ sc i) t) (pattern_writes_from sc us (suc i) (env ++ sc i) ts) (patterned_other (us i) (env ++ sc i) inner t a.0) (all_patterned_other sc p us (suc i) (env ++ sc i) inner ts a.1)

  -- no test that asks for the variable holds of one of them
  none_passes : (p : Mention → Bool) (ms : List Mention) → Unmentioned ms → list_any (λ m. same_variable x m.name && p m) ms ≡ false
  none_passes p [] o = refl
  none_passes p (m ∷ ms) o = ap (λ b. (b && p m) || list_any (λ n. same_variable x n.name && p n) ms) o.0 ∙ none_passes p ms o.1

  none_written : (ms : List Mention) → Unmentioned ms → list_any (is_write x) ms ≡ false
  none_written [] o = refl
  none_written (m ∷ ms) o = ap (λ b. (b && not m.binds && writes m.used) || list_any (is_write x) ms) o.0 ∙ none_written ms o.1

  -- ---- the whole

  module _ (t : Tree) (a : Avoids (alone (Variable k)) t) where
    tops : is_among x (script_tops t) ≡ false
    tops = none_among (script_tops t) (tops_other t a)

    evals : is_among x (seen_by_eval t) ≡ false
    evals = none_among (seen_by_eval t) (seen_other (scopes_of t) (listed_other Read false t a))

    arguments : is_among x (reached_by_arguments false t) ≡ false
    arguments = none_among (reached_by_arguments false t) (reached_other false t a)

    patterned : is_among x (program_pattern_writes t) ≡ false
    patterned = none_among (program_pattern_writes t) (patterned_other Read [] tt t a)

    mentioned : Unmentioned (program_mentions t)
    mentioned = mentioned_other Read outermost t a

    written : Unmentioned (program_var_writes t ++ program_mentions t)
    written = mention_both (program_var_writes t) (program_mentions t) (writes_other Read outermost t a) mentioned

    pub unshared : (b : ℕ) → is_shared t b x ≡ false
    unshared b =
        let modules = none_among (module_names t) (module_other t a) in
        let under = none_among (caught t) (caught_other t a) in
        let outside = none_passes (λ m. is_elsewhere b m.around) (program_mentions t) mentioned in
        λ j. (false || tops j || modules j || evals j || arguments j || under j || patterned j) || outside j

    pub native : (b : ℕ) → is_foreign t b x ≡ false
    native b =
        let imports = none_among (imported_names t) (imported_other t a) in
        let patterns = none_among (pattern_names t) (pattern_other t a) in
        let writes_none = none_written (program_var_writes t ++ program_mentions t) written in
        let lexicals = none_among (lexical_variables false t) (lexical_other false t a) in
        let around = none_among (params_around b t) (params_other b t a) in
        (λ j. (false || imports j || tops j || evals j || arguments j || patterns j || patterned j)
        || (unshared b j && list_any (λ m. is_write x m && is_elsewhere b m.around) (program_var_writes t ++ program_mentions t))
        || (not (is_declared_in t b x) && writes_none j)
        || ((lexicals j && (not (is_declared_in t b x) || is_among x (switched t) || is_read_early b x (moments Read outermost t))) || around j))
        ∙ by (is_declared_in t b x)
      where
        by : (c : Bool) → ((not c && false) || false) ≡ false
        by true = refl
        by false = refl

    pub never_written : list_any (is_write x) (program_var_writes t ++ program_mentions t) ≡ false
    never_written = none_written (program_var_writes t ++ program_mentions t) written

    pub never_lexical : is_among x (lexical_variables false t) ≡ false
    never_lexical = none_among (lexical_variables false t) (lexical_other false t a)
