-- The scopes that a node opens, of a node that is read again.
use Rattle.std.specs.Prelude.{◌≡◌, refl, ℕ, zero, suc, Bool, true, false, List, [], ◌∷◌, ◌++◌, map, length, drop, if◌then◌else◌, Option, Some, None, ◌&&◌}
use Rattle.std.proofs.Common.{ap, ◌∙◌, sym}
use Rattle.std.proofs.lemmas.List.{map-append}
use Rattle.mini_laws.specs.DeclaredNames.{with_name, with_names, is_spelled, bound_names, lexical_names, body_names, has_inner}
use Rattle.mini_laws.specs.Renaming.{rename_name, rename_symbol}
use Rattle.mini_laws.specs.Resolved.{symbol_of, own_symbol, or_else, is_for, with_symbol, serves}
use Rattle.mini_laws.specs.Scopes.{lexical_scope, body_scope, merged, name_if, scopes_by, at_or_empty, opened, opening_of}
use Rattle.mini_laws.specs.declared.names.Binding.{Binding}
use Rattle.mini_laws.specs.declared.names.Declared.TheVariants as declared
use Rattle.mini_laws.specs.declared.names.Opening.{Opening}
use Rattle.mini_laws.specs.declared.names.Opening.TheVariants as opening
use Rattle.mini_laws.specs.declared.names.Use.{Use}
use Rattle.mini_laws.specs.declared.names.Use.TheVariants as use_variants
use Rattle.mini_model.specs.Weight.{same_text}
use Rattle.mini_model.specs.declared.name.Name.{Name}
use Rattle.mini_model.specs.declared.name.SymbolId.{SymbolId}
use Rattle.mini_model.specs.declared.shape.Shape.{Shape}
use Rattle.mini_model.specs.Tree.{Tree, Trees, none, ◌▸◌}
use Rattle.mini_again.specs.Again.{Renaming, again, all_again}
use Rattle.mini_again.proofs.LawDeclaredNamesAgain.{body_names_again, has_inner_again, is_spelled_again, names_of_again}
use Rattle.mini_again.proofs.Names.{if_names_again}

-- the names with their other symbols, and what declares them
abbrev pub others : Renaming → List Name → List Name
others ρ xs = map (rename_name ρ.symbol) xs

abbrev pub binding_again : Renaming → Binding → Binding
binding_again ρ b = record { name = rename_name ρ.symbol b.name; hoists = b.hoists }

abbrev pub bindings_again : Renaming → List Binding → List Binding
bindings_again ρ bs = map (binding_again ρ) bs

-- ---- lists of names

module _ (ρ : Renaming) where
  with_name_again : (seen : List Name) (x : Name) → with_name (others ρ seen) (rename_name ρ.symbol x) ≡ others ρ (with_name seen x)
  with_name_again seen x =
      ap (λ b. if b then others ρ seen else others ρ seen ++ rename_name ρ.symbol x ∷ []) (is_spelled_again ρ x.spelling seen)
      ∙ ap (λ zs. if is_spelled x.spelling seen then others ρ seen else zs) (sym (map-append (rename_name ρ.symbol) seen (x ∷ [])))
      ∙ if_names_again ρ (is_spelled x.spelling seen) seen (seen ++ x ∷ [])

  with_names_again : (seen xs : List Name) → with_names (others ρ seen) (others ρ xs) ≡ others ρ (with_names seen xs)
  unfolding with_names
  with_names_again seen [] = refl
  with_names_again seen (x ∷ xs) = ap (λ zs. with_names zs (others ρ xs)) (with_name_again seen x) ∙ with_names_again (with_name seen x) xs

  drop_again : (n : ℕ) (xs : List Name) → drop n (others ρ xs) ≡ others ρ (drop n xs)
  drop_again zero xs = refl
  drop_again (suc n) [] = refl
  drop_again (suc n) (x ∷ xs) = drop_again n xs

  length_again : (xs : List Name) → length (others ρ xs) ≡ length xs
  length_again [] = refl
  length_again (x ∷ xs) = ap suc (length_again xs)

  declared_again : (b : Bool) (xs : List Name) → map (λ (x : Name). let d : Binding = record { name = x; hoists = b } in d) (others ρ xs) ≡ bindings_again ρ (map (λ (x : Name). let d : Binding = record { name = x; hoists = b } in d) xs)
  declared_again b [] = refl
  declared_again b (x ∷ xs) = ap (λ ds. binding_again ρ (record { name = x; hoists = b }) ∷ ds) (declared_again b xs)

  lexical_again : (xs : List Name) → lexical_scope (others ρ xs) ≡ bindings_again ρ (lexical_scope xs)
  lexical_again xs = ap (map (λ (x : Name). let d : Binding = record { name = x; hoists = false } in d)) (with_names_again [] xs) ∙ declared_again false (with_names [] xs)

  body_again : (params xs : List Name) → body_scope (others ρ params) (others ρ xs) ≡ bindings_again ρ (body_scope params xs)
  body_again params xs =
      ap (map (λ (x : Name). let d : Binding = record { name = x; hoists = true } in d)) (ap (λ n. drop n (with_names (others ρ params) (others ρ xs))) (length_again params) ∙ ap (drop (length params)) (with_names_again params xs) ∙ drop_again (length params) (with_names params xs))
      ∙ declared_again true (drop (length params) (with_names params xs))

  merged_again : (t : Tree) → merged (again ρ t) ≡ others ρ (merged t)
  merged_again t = simp (has_inner_again ρ t, names_of_again ρ declared.Bound t) (if_names_again ρ (has_inner t) [] (bound_names t))

  named_again : (b : Bool) (t : Tree) → name_if b (again ρ t) ≡ others ρ (name_if b t)
  named_again true t = names_of_again ρ declared.Bound t
  named_again false t = refl

  -- ---- scopes

  bound_scope : (t : Tree) → lexical_scope (bound_names (again ρ t)) ≡ bindings_again ρ (lexical_scope (bound_names t))
  bound_scope t = ap lexical_scope (names_of_again ρ declared.Bound t) ∙ lexical_again (bound_names t)

  lexical_names_scope : (t : Tree) → lexical_scope (lexical_names (again ρ t)) ≡ bindings_again ρ (lexical_scope (lexical_names t))
  lexical_names_scope t = ap lexical_scope (names_of_again ρ declared.Lexical t) ∙ lexical_again (lexical_names t)

  name_scope : (b : Bool) (t : Tree) → lexical_scope (name_if b (again ρ t)) ≡ bindings_again ρ (lexical_scope (name_if b t))
  name_scope b t = ap lexical_scope (named_again b t) ∙ lexical_again (name_if b t)

  params_scope : (t : Tree) → body_scope [] (bound_names (again ρ t)) ≡ bindings_again ρ (body_scope [] (bound_names t))
  params_scope t = ap (body_scope []) (names_of_again ρ declared.Bound t) ∙ body_again [] (bound_names t)

  alone_scope : (t : Tree) → body_scope [] (body_names (again ρ t)) ≡ bindings_again ρ (body_scope [] (body_names t))
  alone_scope t = ap (body_scope []) (body_names_again ρ t) ∙ body_again [] (body_names t)

  own_scope : (p t : Tree) → body_scope (merged (again ρ p)) (body_names (again ρ t)) ≡ bindings_again ρ (body_scope (merged p) (body_names t))
  own_scope p t = ap (λ xs. body_scope xs (body_names (again ρ t))) (merged_again p) ∙ ap (body_scope (others ρ (merged p))) (body_names_again ρ t) ∙ body_again (merged p) (body_names t)

  one : {s r : List Binding} → s ≡ r → (s ∷ []) ≡ (r ∷ [])
  one e = ap (λ s. s ∷ []) e

  two : {s r s' r' : List Binding} → s ≡ r → s' ≡ r' → (s ∷ s' ∷ []) ≡ (r ∷ r' ∷ [])
  two e e' = λ i. e i ∷ e' i ∷ []

  scopes_again : (o : Opening) (ts : Trees) → scopes_by o (all_again ρ ts) ≡ map (bindings_again ρ) (scopes_by o ts)
  unfolding scopes_by
  scopes_again opening.Nothing ts = refl
  scopes_again opening.Body none = refl
  scopes_again opening.Body (t ▸ ts) = one (alone_scope t)
  scopes_again opening.First none = refl
  scopes_again opening.First (t ▸ ts) = one (lexical_names_scope t)
  scopes_again opening.Bound none = refl
  scopes_again opening.Bound (t ▸ ts) = one (bound_scope t)
  scopes_again opening.Second none = refl
  scopes_again opening.Second (a ▸ none) = refl
  scopes_again opening.Second (a ▸ (t ▸ ts)) = ap (λ s. [] ∷ s ∷ []) (lexical_names_scope t)
  scopes_again (opening.Class own inside) none = refl
  scopes_again (opening.Class own inside) (id ▸ none) = refl
  scopes_again (opening.Class own inside) (id ▸ (h ▸ none)) = refl
  scopes_again (opening.Class own inside) (id ▸ (h ▸ (b ▸ none))) = refl
  scopes_again (opening.Class own inside) (id ▸ (h ▸ (b ▸ (t ▸ ts)))) = two (name_scope own id) (name_scope inside t)
  scopes_again opening.Arrow none = refl
  scopes_again opening.Arrow (p ▸ none) = refl
  scopes_again opening.Arrow (p ▸ (t ▸ ts)) = two (params_scope p) (own_scope p t)
  scopes_again (opening.Function own) none = refl
  scopes_again (opening.Function own) (id ▸ none) = refl
  scopes_again (opening.Function own) (id ▸ (p ▸ none)) = refl
  scopes_again (opening.Function own) (id ▸ (p ▸ (t ▸ ts))) = λ i. name_scope own id i ∷ two (params_scope p) (own_scope p t) i

  at_again : (ss : List (List Binding)) (i : ℕ) → at_or_empty (map (bindings_again ρ) ss) i ≡ bindings_again ρ (at_or_empty ss i)
  at_again [] i = refl
  at_again (s ∷ ss) zero = refl
  at_again (s ∷ ss) (suc i) = at_again ss i

  pub opened_again : (u : Use) (h : Shape) (ts : Trees) (i : ℕ) → opened u h (all_again ρ ts) i ≡ bindings_again ρ (opened u h ts i)
  opened_again u h ts i = ap (λ ss. at_or_empty ss i) (scopes_again (opening_of u h) ts) ∙ at_again (scopes_by (opening_of u h) ts) i

  -- ---- resolution

  or_else_again : (r s : Option SymbolId) → or_else (rename_symbol ρ.symbol r) (rename_symbol ρ.symbol s) ≡ rename_symbol ρ.symbol (or_else r s)
  or_else_again None s = refl
  or_else_again (Some r) s = refl

  chosen_symbol : (b : Bool) (s : Option SymbolId) → (if b then rename_symbol ρ.symbol s else None) ≡ rename_symbol ρ.symbol (if b then s else None)
  chosen_symbol true s = refl
  chosen_symbol false s = refl

  served_again : (u : Use) (b : Binding) → serves u (binding_again ρ b) ≡ serves u b
  served_again use_variants.Hoisted b = refl
  served_again use_variants.Headed b = refl
  served_again u b = refl

  own_symbol_again : (u : Use) (s : List ℕ) (b : Binding) → own_symbol u s (binding_again ρ b) ≡ rename_symbol ρ.symbol (own_symbol u s b)
  own_symbol_again u s b = ap (λ c. if c && same_text b.name.spelling s then rename_symbol ρ.symbol b.name.symbol else None) (served_again u b) ∙ chosen_symbol (is_for u s b) b.name.symbol

  symbol_again : (u : Use) (s : List ℕ) (env : List Binding) → symbol_of u s (bindings_again ρ env) ≡ rename_symbol ρ.symbol (symbol_of u s env)
  symbol_again u s [] = refl
  symbol_again u s (b ∷ env) =
      ap (λ r. or_else r (own_symbol u s (binding_again ρ b))) (symbol_again u s env) ∙ ap (or_else (rename_symbol ρ.symbol (symbol_of u s env))) (own_symbol_again u s b)
      ∙ or_else_again (symbol_of u s env) (own_symbol u s b)

  pub with_symbol_again : (u : Use) (env : List Binding) (x : Name) → with_symbol u (bindings_again ρ env) (rename_name ρ.symbol x) ≡ rename_name ρ.symbol (with_symbol u env x)
  with_symbol_again u env x = λ i. record { spelling = x.spelling; symbol = symbol_again u x.spelling env i }
