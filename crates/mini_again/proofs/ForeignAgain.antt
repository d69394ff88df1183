-- What is shared with a body and foreign to it, in a program that is read again.
use Rattle.std.specs.Prelude.{◌≡◌, refl, ℕ, zero, suc, Bool, true, false, not, ◌&&◌, ◌||◌, List, [], ◌∷◌, ◌++◌, map, if◌then◌else◌}
use Rattle.std.specs.List.{list_any}
use Rattle.std.proofs.Common.{ap, ◌∙◌, sym}
use Rattle.std.proofs.lemmas.List.{map-append}
use Rattle.mini_laws.specs.Foreign.{Moment, reads_at, ends_at, ended_by, joined, in_order, moments, moments_from, is_read_early, is_declared_in, may_be_uninitialised, is_write, all_writes, is_foreign_always, is_foreign, lexical_variables, switched, imported_names, pattern_names, params_around}
use Rattle.mini_laws.specs.Mentions.{Mention, own_mentions, around_child, outermost, program_mentions, is_elsewhere, same_variable, is_among, is_variable, is_value_spelling}
use Rattle.mini_laws.specs.References.{reads, writes}
use Rattle.mini_laws.specs.Renaming.{rename_name, TellsApart}
use Rattle.mini_laws.specs.Resolved.{with_symbol, gives_value}
use Rattle.mini_laws.specs.ScopeList.{Scope, with_names_alone, entered, names_in, scope_list, scope_list_from, scopes_of, seen_in, seen_by_eval, least_scopes, any_has_eval}
use Rattle.mini_laws.specs.Scopes.{opened, use_of}
use Rattle.mini_laws.specs.Shared.{script_tops, is_shared_always, is_shared, own_pattern_writes, pattern_writes, pattern_writes_from, program_pattern_writes, program_var_writes, names_in_pattern, is_pattern, module_names, reached_by_arguments, caught}
use Rattle.mini_laws.specs.Strict.{is_strict_in}
use Rattle.mini_laws.specs.DeclaredNames.{bound_names}
use Rattle.mini_laws.specs.declared.names.Around.{Around}
use Rattle.mini_laws.specs.declared.names.Binding.{Binding}
use Rattle.mini_laws.specs.declared.names.Declared.TheVariants as declared
use Rattle.mini_laws.specs.declared.names.Use.{Use}
use Rattle.mini_laws.specs.declared.names.Use.TheVariants.{Read}
use Rattle.mini_model.specs.declared.name.Name.{Name}
use Rattle.mini_model.specs.declared.shape.Shape.{Shape}
use Rattle.mini_model.specs.declared.shape.Shape.TheVariants as shape
use Rattle.mini_model.specs.Tree.{Tree, Trees, node, none, ◌▸◌, is_absent, shape_of}
use Rattle.mini_again.specs.Again.{Renaming, again, all_again, other_number}
use Rattle.mini_again.specs.Families.{ToldSurvives}
use Rattle.mini_again.proofs.Bindings.{others, binding_again, bindings_again, opened_again, with_symbol_again}
use Rattle.mini_again.proofs.LawDeclaredNamesAgain.{names_of_again}
use Rattle.mini_again.proofs.LawForeignAgain.{ended_by_again, imported_names_again, lexical_variables_again, pattern_names_again, switched_again}
use Rattle.mini_again.proofs.LawScopeListAgain.{any_has_eval_again}
use Rattle.mini_again.proofs.LawSharedAgain.{caught_again, module_names_again, reached_by_arguments_again}
use Rattle.mini_again.proofs.MentionsAgain.{any_again, around_again, around_child_again, is_among_again, is_elsewhere_again, mention_again, mentions_again, own_mentions_again, params_around_again, same_variable_again, var_writes_again}
use Rattle.mini_again.proofs.ModelTreeAgain.{is_absent_again, shape_of_again}
use Rattle.mini_again.proofs.Names.{if_names_again, none_again}

module _ (ρ : Renaming) where
  joined_names : (a a' b b' : List Name) → a' ≡ others ρ a → b' ≡ others ρ b → (a' ++ b') ≡ others ρ (a ++ b)
  joined_names a a' b b' e f = ap (λ xs. xs ++ b') e ∙ ap (λ ys. others ρ a ++ ys) f ∙ sym (map-append (rename_name ρ.symbol) a b)

  -- ---- what a direct eval sees

  abbrev scope_again : Scope → Scope
  scope_again s = record { names = others ρ s.names; strict = s.strict; evals = s.evals }

  abbrev scopes : List Scope → List Scope
  scopes ss = map scope_again ss

  joined_scopes : (a a' b b' : List Scope) → a' ≡ scopes a → b' ≡ scopes b → (a' ++ b') ≡ scopes (a ++ b)
  joined_scopes a a' b b' e f = ap (λ xs. xs ++ b') e ∙ ap (λ ys. scopes a ++ ys) f ∙ sym (map-append scope_again a b)

  alone_again : (xs : List Name) (s : Scope) → with_names_alone (others ρ xs) (scope_again s) ≡ scopes (with_names_alone xs s)
  alone_again [] s = refl
  alone_again (x ∷ xs) s = refl

  entered_again : (n : ℕ) (s : Scope) → entered n (scope_again s) ≡ scopes (entered n s)
  entered_again zero s = alone_again s.names s
  entered_again (suc zero) s = refl
  entered_again (suc (suc n)) s = refl

  names_in_again : (bs : List Binding) → names_in (bindings_again ρ bs) ≡ others ρ (names_in bs)
  names_in_again [] = refl
  names_in_again (b ∷ bs) = ap (λ xs. rename_name ρ.symbol b.name ∷ xs) (names_in_again bs)

  mutual
    unfolding scope_list

    scope_list_again : (u : Use) (strict : Bool) (t : Tree) → scope_list u strict (again ρ t) ≡ scopes (scope_list u strict t)
    scope_list_again u strict (node h xs n ts) = scope_list_from_again (opened u h ts) (opened u h (all_again ρ ts)) (opened_again ρ u h ts) (use_of h u) (least_scopes h) (is_strict_in strict h) 0 ts

    scope_list_from_again : (scope later : ℕ → List Binding) → ((i : ℕ) → later i ≡ bindings_again ρ (scope i)) → (uses : ℕ → Use) (least : ℕ → ℕ) (strict : Bool) (i : ℕ) (ts : Trees) → scope_list_from later uses least strict i (all_again ρ ts) ≡ scopes (scope_list_from scope uses least strict i ts)
    scope_list_from_again scope later e uses least strict i none = refl
    scope_list_from_again scope later e uses least strict i (t ▸ ts) =
        joined_scopes _ _ _ _
        ((λ j. entered (least i) (record { names = (ap names_in (e i) ∙ names_in_again (scope i)) j; strict = strict; evals = any_has_eval_again ρ (t ▸ ts) j })) ∙ entered_again (least i) (record { names = names_in (scope i); strict = strict; evals = any_has_eval (t ▸ ts) }))
        (joined_scopes _ _ _ _ (scope_list_again (uses i) strict t) (scope_list_from_again scope later e uses least strict (suc i) ts))

  seen_in_again : (ss : List Scope) → seen_in (scopes ss) ≡ others ρ (seen_in ss)
  seen_in_again [] = refl
  seen_in_again (s ∷ ss) =
      ap (λ xs. if s.evals then others ρ s.names ++ xs else xs) (seen_in_again ss)
      ∙ ap (λ xs. if s.evals then xs else others ρ (seen_in ss)) (sym (map-append (rename_name ρ.symbol) s.names (seen_in ss))) ∙ if_names_again ρ s.evals (s.names ++ seen_in ss) (seen_in ss)

  seen_again : (t : Tree) → seen_by_eval (again ρ t) ≡ others ρ (seen_by_eval t)
  seen_again t = ap seen_in (scope_list_again Read false t) ∙ seen_in_again (scopes_of t)

  -- ---- what patterns write

  in_pattern_again : (t : Tree) → names_in_pattern (again ρ t) ≡ others ρ (names_in_pattern t)
  in_pattern_again t = simp (shape_of_again ρ t, names_of_again ρ declared.Bound t) (if_names_again ρ (is_pattern (shape_of t)) (bound_names t) [])

  with_symbols_again : (u : Use) (env : List Binding) (xs : List Name) → map (with_symbol u (bindings_again ρ env)) (others ρ xs) ≡ others ρ (map (with_symbol u env) xs)
  with_symbols_again u env [] = refl
  with_symbols_again u env (x ∷ xs) = λ i. with_symbol_again ρ u env x i ∷ with_symbols_again u env xs i

  own_writes_again : (u : Use) (env : List Binding) (h : Shape) (ts : Trees) → own_pattern_writes u (bindings_again ρ env) h (all_again ρ ts) ≡ others ρ (own_pattern_writes u env h ts)
  own_writes_again u env shape.VariableDeclarator (id ▸ (init ▸ ts)) =
      ap (λ b. if gives_value u b then map (with_symbol Read (bindings_again ρ env)) (names_in_pattern (again ρ id)) else []) (is_absent_again ρ init)
      ∙ ap (λ xs. if gives_value u (is_absent init) then xs else []) (ap (map (with_symbol Read (bindings_again ρ env))) (in_pattern_again id) ∙ with_symbols_again Read env (names_in_pattern id))
      ∙ if_names_again ρ (gives_value u (is_absent init)) (map (with_symbol Read env) (names_in_pattern id)) []
  own_writes_again u env h ts = refl

  mutual
    unfolding pattern_writes

    pattern_writes_again : (u : Use) (env : List Binding) (t : Tree) → pattern_writes u (bindings_again ρ env) (again ρ t) ≡ others ρ (pattern_writes u env t)
    pattern_writes_again u env (node h xs n ts) = joined_names _ _ _ _ (own_writes_again u env h ts) (pattern_writes_from_again (opened u h ts) (opened u h (all_again ρ ts)) (opened_again ρ u h ts) (use_of h u) 0 env ts)

    pattern_writes_from_again : (scope later : ℕ → List Binding) → ((i : ℕ) → later i ≡ bindings_again ρ (scope i)) → (uses : ℕ → Use) (i : ℕ) (env : List Binding) (ts : Trees) → pattern_writes_from later uses i (bindings_again ρ env) (all_again ρ ts) ≡ others ρ (pattern_writes_from scope uses i env ts)
    pattern_writes_from_again scope later e uses i env none = refl
    pattern_writes_from_again scope later e uses i env (t ▸ ts) =
        let around = ap (λ s. bindings_again ρ env ++ s) (e i) ∙ sym (map-append (binding_again ρ) env (scope i)) in
        joined_names _ _ _ _
        (ap (λ v. pattern_writes (uses i) v (again ρ t)) around ∙ pattern_writes_again (uses i) (env ++ scope i) t)
        (ap (λ v. pattern_writes_from later uses (suc i) v (all_again ρ ts)) around ∙ pattern_writes_from_again scope later e uses (suc i) (env ++ scope i) ts)

  -- ---- what is shared

  script_tops_again : (t : Tree) → script_tops (again ρ t) ≡ others ρ (script_tops t)
  script_tops_again (node (shape.Program false ds) xs n ts) = ap names_in (opened_again ρ Read (shape.Program false ds) ts 0) ∙ names_in_again (opened Read (shape.Program false ds) ts 0)
  script_tops_again t = refl

  among : (x : Name) (xs ys : List Name) → ys ≡ others ρ xs → is_among (rename_name ρ.symbol x) ys ≡ is_among x xs
  among x xs ys e = ap (is_among (rename_name ρ.symbol x)) e ∙ is_among_again ρ x xs

  or_again : {a b c d : Bool} → a ≡ c → b ≡ d → (a || b) ≡ (c || d)
  or_again e f = λ i. e i || f i

  and_again : {a b c d : Bool} → a ≡ c → b ≡ d → (a && b) ≡ (c && d)
  and_again e f = λ i. e i && f i

  is_variable_again : (x : Name) → is_variable (rename_name ρ.symbol x) ≡ is_variable x
  is_variable_again x = ap (λ b. not (b && is_value_spelling x.spelling)) (none_again ρ x.symbol)

  shared_always_again : (t : Tree) (x : Name) → is_shared_always (again ρ t) (rename_name ρ.symbol x) ≡ is_shared_always t x
  shared_always_again t x =
      simp (none_again ρ x.symbol, among x (script_tops t) (script_tops (again ρ t)) (script_tops_again t), among x (module_names t) (module_names (again ρ t)) (module_names_again ρ t), among x (seen_by_eval t) (seen_by_eval (again ρ t)) (seen_again t), among x (reached_by_arguments false t) (reached_by_arguments false (again ρ t)) (reached_by_arguments_again ρ false t), among x (caught t) (caught (again ρ t)) (caught_again ρ t), among x (program_pattern_writes t) (program_pattern_writes (again ρ t)) (pattern_writes_again Read [] t))

  pub lexical_again : (b : Bool) (t : Tree) (x : Name) → is_among (rename_name ρ.symbol x) (lexical_variables b (again ρ t)) ≡ is_among x (lexical_variables b t)
  lexical_again b t x = among x (lexical_variables b t) (lexical_variables b (again ρ t)) (lexical_variables_again ρ b t)

  -- ---- what is written

  program_mentions_again : (t : Tree) → program_mentions (again ρ t) ≡ map (mention_again ρ) (program_mentions t)
  program_mentions_again t = mentions_again ρ Read outermost t

  all_writes_again : (t : Tree) → all_writes (again ρ t) ≡ map (mention_again ρ) (all_writes t)
  all_writes_again t = (λ i. var_writes_again ρ Read outermost t i ++ program_mentions_again t i) ∙ sym (map-append (mention_again ρ) (program_var_writes t) (program_mentions t))

  is_write_again : (x : Name) (m : Mention) → is_write (rename_name ρ.symbol x) (mention_again ρ m) ≡ is_write x m
  is_write_again x m = ap (λ b. b && not m.binds && writes m.used) (same_variable_again ρ x m.name)

  pub written_again : (t : Tree) (x : Name) → list_any (is_write (rename_name ρ.symbol x)) (all_writes (again ρ t)) ≡ list_any (is_write x) (all_writes t)
  written_again t x = ap (list_any (is_write (rename_name ρ.symbol x))) (all_writes_again t) ∙ any_again (mention_again ρ) (is_write (rename_name ρ.symbol x)) (is_write x) (is_write_again x) (all_writes t)

  -- by references alone
  pub assigned_again : (t : Tree) (x : Name) → list_any (is_write (rename_name ρ.symbol x)) (program_mentions (again ρ t)) ≡ list_any (is_write x) (program_mentions t)
  assigned_again t x = ap (list_any (is_write (rename_name ρ.symbol x))) (program_mentions_again t) ∙ any_again (mention_again ρ) (is_write (rename_name ρ.symbol x)) (is_write x) (is_write_again x) (program_mentions t)

-- ---- by the number of a body, where numbers are told apart

module _ (ρ : Renaming) (far : TellsApart ρ.number) where
  elsewhere_again : (b : ℕ) (x : Name) (m : Mention) → (same_variable (rename_name ρ.symbol x) (mention_again ρ m).name && is_elsewhere (other_number ρ b) (mention_again ρ m).around) ≡ (same_variable x m.name && is_elsewhere b m.around)
  elsewhere_again b x m = and_again ρ (same_variable_again ρ x m.name) (is_elsewhere_again ρ far b m.around)

  pub shared_again : (t : Tree) (b : ℕ) (x : Name) → is_shared (again ρ t) (other_number ρ b) (rename_name ρ.symbol x) ≡ is_shared t b x
  shared_again t b x =
      let later = λ (m : Mention). same_variable (rename_name ρ.symbol x) m.name && is_elsewhere (other_number ρ b) m.around in
      let before = λ (m : Mention). same_variable x m.name && is_elsewhere b m.around in
      and_again ρ (is_variable_again ρ x) (or_again ρ (shared_always_again ρ t x) (ap (list_any later) (program_mentions_again ρ t) ∙ any_again (mention_again ρ) later before (elsewhere_again b x) (program_mentions t)))

  declared_in_again : (t : Tree) (b : ℕ) (x : Name) → is_declared_in (again ρ t) (other_number ρ b) (rename_name ρ.symbol x) ≡ is_declared_in t b x
  declared_in_again t b x =
      let later = λ (m : Mention). same_variable (rename_name ρ.symbol x) m.name && m.binds && not (is_elsewhere (other_number ρ b) m.around) in
      let before = λ (m : Mention). same_variable x m.name && m.binds && not (is_elsewhere b m.around) in
      ap (list_any later) (program_mentions_again ρ t)
      ∙ any_again (mention_again ρ) later before (λ m. λ i. same_variable_again ρ x m.name i && m.binds && not (is_elsewhere_again ρ far b m.around i)) (program_mentions t)

  -- ---- the order of evaluation

  abbrev moment_again : Moment → Moment
  moment_again m = record { name = rename_name ρ.symbol m.name; ends = m.ends; around = around_again ρ m.around }

  abbrev all_moments : List Moment → List Moment
  all_moments ms = map moment_again ms

  read_if : (b : Bool) (m : Moment) (ms ns : List Moment) → ns ≡ all_moments ms → (if b then moment_again m ∷ ns else ns) ≡ all_moments (if b then m ∷ ms else ms)
  read_if true m ms ns e = ap (λ xs. moment_again m ∷ xs) e
  read_if false m ms ns e = e

  reads_at_again : (ms : List Mention) → reads_at (map (mention_again ρ) ms) ≡ all_moments (reads_at ms)
  reads_at_again [] = refl
  reads_at_again (m ∷ ms) = read_if (not m.binds && reads m.used) (record { name = m.name; ends = false; around = m.around }) (reads_at ms) (reads_at (map (mention_again ρ) ms)) (reads_at_again ms)

  ends_at_again : (a : Around) (xs : List Name) → ends_at (around_again ρ a) (others ρ xs) ≡ all_moments (ends_at a xs)
  ends_at_again a [] = refl
  ends_at_again a (x ∷ xs) = ap (λ ms. moment_again (record { name = x; ends = true; around = a }) ∷ ms) (ends_at_again a xs)

  joined_again : (ls : List (List Moment)) → joined (map all_moments ls) ≡ all_moments (joined ls)
  joined_again [] = refl
  joined_again (l ∷ ls) = ap (λ ms. all_moments l ++ ms) (joined_again ls) ∙ sym (map-append moment_again l (joined ls))

  in_order_again : (h : Shape) (ls : List (List Moment)) (ends : List Moment) → in_order h (map all_moments ls) (all_moments ends) ≡ all_moments (in_order h ls ends)
  in_order_again shape.ForInStatement (left ∷ (right ∷ rest)) ends = simp (joined_again rest, map-append)
  in_order_again shape.ForOfStatement (left ∷ (right ∷ rest)) ends = simp (joined_again rest, map-append)
  in_order_again shape.CatchClause (param ∷ rest) ends = simp (joined_again rest, map-append)
  in_order_again h ls ends = ap (λ ms. ms ++ all_moments ends) (joined_again ls) ∙ sym (map-append moment_again (joined ls) ends)

  mutual
    unfolding moments

    moments_again : (u : Use) (a : Around) (t : Tree) → moments u (around_again ρ a) (again ρ t) ≡ all_moments (moments u a t)
    moments_again u a (node h xs n ts) =
        (λ i. (ap reads_at (own_mentions_again ρ u a h xs) ∙ reads_at_again (own_mentions u a h xs)) i ++ in_order h (moments_from_again (use_of h u) (around_child h a n) (around_child h (around_again ρ a) (other_number ρ n)) (around_child_again ρ h a n) 0 ts i) ((ap (ends_at (around_again ρ a)) (ended_by_again ρ h ts) ∙ ends_at_again a (ended_by h ts)) i))
        ∙ ap (λ ms. all_moments (reads_at (own_mentions u a h xs)) ++ ms) (in_order_again h (moments_from (use_of h u) (around_child h a n) 0 ts) (ends_at a (ended_by h ts)))
        ∙ sym (map-append moment_again (reads_at (own_mentions u a h xs)) (in_order h (moments_from (use_of h u) (around_child h a n) 0 ts) (ends_at a (ended_by h ts))))

    moments_from_again : (uses : ℕ → Use) (arounds laters : ℕ → Around) → ((i : ℕ) → laters i ≡ around_again ρ (arounds i)) → (i : ℕ) (ts : Trees) → moments_from uses laters i (all_again ρ ts) ≡ map all_moments (moments_from uses arounds i ts)
    moments_from_again uses arounds laters e i none = refl
    moments_from_again uses arounds laters e i (t ▸ ts) = λ j. (ap (λ a. moments (uses i) a (again ρ t)) (e i) ∙ moments_again (uses i) (arounds i) t) j ∷ moments_from_again uses arounds laters e (suc i) ts j

  read_early_again : (b : ℕ) (x : Name) (ms : List Moment) → is_read_early (other_number ρ b) (rename_name ρ.symbol x) (all_moments ms) ≡ is_read_early b x ms
  read_early_again b x [] = refl
  read_early_again b x (m ∷ ms) = λ i. if same_variable_again ρ x m.name i then (if m.ends then false else (not (is_elsewhere_again ρ far b m.around i) || read_early_again b x ms i)) else read_early_again b x ms i

  -- ---- what is foreign

  uninitialised_again : (t : Tree) (b : ℕ) (x : Name) → may_be_uninitialised (again ρ t) (other_number ρ b) (rename_name ρ.symbol x) ≡ may_be_uninitialised t b x
  uninitialised_again t b x =
      or_again ρ
      (and_again ρ (lexical_again ρ false t x) (λ i. not (declared_in_again t b x i) || among ρ x (switched t) (switched (again ρ t)) (switched_again ρ t) i || (ap (is_read_early (other_number ρ b) (rename_name ρ.symbol x)) (moments_again Read outermost t) ∙ read_early_again b x (moments Read outermost t)) i))
      (among ρ x (params_around b t) (params_around (other_number ρ b) (again ρ t)) (params_around_again ρ far b t))

  foreign_always_again : (t : Tree) (x : Name) → is_foreign_always (again ρ t) (rename_name ρ.symbol x) ≡ is_foreign_always t x
  foreign_always_again t x =
      simp (none_again ρ x.symbol, among ρ x (imported_names t) (imported_names (again ρ t)) (imported_names_again ρ t), among ρ x (script_tops t) (script_tops (again ρ t)) (script_tops_again ρ t), among ρ x (seen_by_eval t) (seen_by_eval (again ρ t)) (seen_again ρ t), among ρ x (reached_by_arguments false t) (reached_by_arguments false (again ρ t)) (reached_by_arguments_again ρ false t), among ρ x (pattern_names t) (pattern_names (again ρ t)) (pattern_names_again ρ t), among ρ x (program_pattern_writes t) (program_pattern_writes (again ρ t)) (pattern_writes_again ρ Read [] t))

  pub foreign_again : (t : Tree) (b : ℕ) (x : Name) → is_foreign (again ρ t) (other_number ρ b) (rename_name ρ.symbol x) ≡ is_foreign t b x
  foreign_again t b x =
      let later = λ (m : Mention). is_write (rename_name ρ.symbol x) m && is_elsewhere (other_number ρ b) m.around in
      let before = λ (m : Mention). is_write x m && is_elsewhere b m.around in
      let written : list_any later (all_writes (again ρ t)) ≡ list_any before (all_writes t) =
      ap (list_any later) (all_writes_again ρ t) ∙ any_again (mention_again ρ) later before (λ m. and_again ρ (is_write_again ρ x m) (is_elsewhere_again ρ far b m.around)) (all_writes t) in
      λ i. is_variable_again ρ x i && (foreign_always_again t x i || (shared_again t b x i && written i) || (not (declared_in_again t b x i) && written_again ρ t x i) || uninitialised_again t b x i)

pub told_survives : ToldSurvives
told_survives ρ far t = record { shared = shared_again ρ far t; foreign = foreign_again ρ far t; written = written_again ρ t; lexical = λ b. lexical_again ρ b t }
