-- A step in a program imports and exports what it did, and a step in a script gives it no more top
-- names: by the places at which a relation rewrites.
use Rattle.std.specs.Prelude.{ℕ, zero, suc, ◌≡◌, refl, ◌||◌, ◌&&◌, Bool, true, false, List, [], ◌∷◌, ◌++◌, None, if◌then◌else◌}
use Rattle.std.proofs.Common.{ap, ◌∙◌, sym, subst, true≢false}
use Rattle.std.proofs.lemmas.Bool.{eqb-true}
use Rattle.std.proofs.lemmas.List.{append-nil}
use Rattle.mini_model.specs.declared.name.Name.{Name}
use Rattle.mini_model.specs.declared.shape.Shape.{Shape}
use Rattle.mini_model.specs.declared.shape.Shape.TheVariants as shape
use Rattle.mini_model.specs.Tree.{Tree, Trees, node, none, ◌▸◌, shape_of}
use Rattle.mini_accept.specs.WellShaped.{Depth, in_module, in_body, nested, Class, a_statement, an_import, an_export, a_module_name, an_exported_name, a_binding, a_string, an_exported_declaration, a_default_export, Slot, one, one_or_absent, many, these, each, filling_by, none_if, in_depth, statement_slots, is_whole, is_sloppy_function, has_names, has_its_number, has_plain_fields, has_its_parts, fits, fill}
use Rattle.mini_laws.specs.declared.names.Declared.{Declared}
use Rattle.mini_laws.specs.declared.names.Declared.TheVariants as declared
use Rattle.mini_laws.specs.DeclaredNames.{names_of, first_names, all_names, body_names, own_names}
use Rattle.mini_laws.specs.ScopeList.{by_symbol}
use Rattle.mini_laws.specs.Mentions.{same_variable, is_among}
use Rattle.mini_laws.specs.Foreign.{imported_names, all_imported_names}
use Rattle.mini_laws.specs.Shared.{module_names, all_module_names}
use Rattle.mini_kept.specs.Frames.{showing, shown_from, is_port, declaration, own, ports, part, parts, in_full, keyed}
use Rattle.mini_kept.proofs.Bools.{left, right}
use Rattle.mini_kept.proofs.Expressions.{refused_here}
use Rattle.mini_shrink.proofs.Alone.{nothing_there}
use Rattle.mini_shrink.proofs.Finding.{any_both}
use Rattle.mini_shrink.proofs.Regulars.{no_import}

-- ---- what an import shows in the frame of a program

counted : (c : Class) (h : Shape) (xs : List Name) (n : ℕ) (ts : Trees) → (has_its_number c h n ≡ true → n ≡ 0) → is_whole c h xs n ts ≡ true → n ≡ 0
counted c h xs n ts f e = f (left (has_its_number c h n) (has_plain_fields h && has_its_parts c h ts) (right (has_names h xs) (has_its_number c h n && (has_plain_fields h && has_its_parts c h ts)) e))

-- the classes of what stands in an import and in the list of an export
abbrev is_specifier : Class → Bool
is_specifier an_import = true
is_specifier an_export = true
is_specifier a_module_name = true
is_specifier an_exported_name = true
is_specifier a_binding = true
is_specifier a_string = true
is_specifier c = false

abbrev specifier_slot : Slot → Bool
specifier_slot (one c) = is_specifier c
specifier_slot (one_or_absent a_string) = true
specifier_slot (many an_import) = true
specifier_slot (many an_export) = true
specifier_slot s = false

abbrev specifier_slots : List Slot → Bool
specifier_slots [] = true
specifier_slots (s ∷ ss) = specifier_slot s && specifier_slots ss

-- no node there has a number or a key, so a frame shows all of it
node_part : (c : Class) (h : Shape) (xs : List Name) (n : ℕ) (ts : Trees) → (has_its_number c h n ≡ true → n ≡ 0) → in_full h ≡ h → ((us : Trees) → keyed h us ≡ us) → is_whole c h xs n ts ≡ true → parts ts ≡ ts → part (node h xs n ts) ≡ node h xs n ts
node_part c h xs n ts f i k w p = by n (counted c h xs n ts f w)
  where
    by : (m : ℕ) → m ≡ 0 → part (node h xs m ts) ≡ node h xs m ts
    by zero e = (λ j. node (i j) xs 0 (k (parts ts) j)) ∙ ap (node h xs 0) p
    by (suc m) e = absurd (cc e)

mutual
  specifier_part : (strict : Bool) (s : Slot) (t : Tree) → specifier_slot s ≡ true → fits strict s t ≡ true → part t ≡ t
  specifier_part strict (one a_binding) (node shape.BindingIdentifier xs n ts) k e = node_part a_binding shape.BindingIdentifier xs n ts (eqb-true n 0) refl (λ us. refl) (left _ (fill strict (these []) ts) e) (specifiers_part strict [] ts refl (right (is_whole a_binding shape.BindingIdentifier xs n ts) _ e))
  specifier_part strict (one a_string) (node (shape.StringLiteral v) xs n ts) k e = node_part a_string (shape.StringLiteral v) xs n ts (eqb-true n 0) refl (λ us. refl) (left _ (fill strict (these []) ts) e) (specifiers_part strict [] ts refl (right (is_whole a_string (shape.StringLiteral v) xs n ts) _ e))
  specifier_part strict (one a_module_name) (node (shape.IdentifierName v) xs n ts) k e = node_part a_module_name (shape.IdentifierName v) xs n ts (eqb-true n 0) refl (λ us. refl) (left _ (fill strict (these []) ts) e) (specifiers_part strict [] ts refl (right (is_whole a_module_name (shape.IdentifierName v) xs n ts) _ e))
  specifier_part strict (one a_module_name) (node (shape.StringLiteral v) xs n ts) k e = node_part a_module_name (shape.StringLiteral v) xs n ts (eqb-true n 0) refl (λ us. refl) (left _ (fill strict (these []) ts) e) (specifiers_part strict [] ts refl (right (is_whole a_module_name (shape.StringLiteral v) xs n ts) _ e))
  specifier_part strict (one an_exported_name) (node (shape.IdentifierName v) xs n ts) k e = node_part an_exported_name (shape.IdentifierName v) xs n ts (eqb-true n 0) refl (λ us. refl) (left _ (fill strict (these []) ts) e) (specifiers_part strict [] ts refl (right (is_whole an_exported_name (shape.IdentifierName v) xs n ts) _ e))
  specifier_part strict (one an_exported_name) (node (shape.StringLiteral v) xs n ts) k e = node_part an_exported_name (shape.StringLiteral v) xs n ts (eqb-true n 0) refl (λ us. refl) (left _ (fill strict (these []) ts) e) (specifiers_part strict [] ts refl (right (is_whole an_exported_name (shape.StringLiteral v) xs n ts) _ e))
  specifier_part strict (one an_exported_name) (node shape.Identifier xs n ts) k e = node_part an_exported_name shape.Identifier xs n ts (eqb-true n 0) refl (λ us. refl) (left _ (fill strict (these []) ts) e) (specifiers_part strict [] ts refl (right (is_whole an_exported_name shape.Identifier xs n ts) _ e))
  specifier_part strict (one an_import) (node shape.ImportSpecifier xs n ts) k e = node_part an_import shape.ImportSpecifier xs n ts (eqb-true n 0) refl (λ us. refl) (left _ (fill strict (these (one a_module_name ∷ one a_binding ∷ [])) ts) e) (specifiers_part strict (one a_module_name ∷ one a_binding ∷ []) ts refl (right (is_whole an_import shape.ImportSpecifier xs n ts) _ e))
  specifier_part strict (one an_import) (node shape.ImportDefaultSpecifier xs n ts) k e = node_part an_import shape.ImportDefaultSpecifier xs n ts (eqb-true n 0) refl (λ us. refl) (left _ (fill strict (these (one a_binding ∷ [])) ts) e) (specifiers_part strict (one a_binding ∷ []) ts refl (right (is_whole an_import shape.ImportDefaultSpecifier xs n ts) _ e))
  specifier_part strict (one an_import) (node shape.ImportNamespaceSpecifier xs n ts) k e = node_part an_import shape.ImportNamespaceSpecifier xs n ts (eqb-true n 0) refl (λ us. refl) (left _ (fill strict (these (one a_binding ∷ [])) ts) e) (specifiers_part strict (one a_binding ∷ []) ts refl (right (is_whole an_import shape.ImportNamespaceSpecifier xs n ts) _ e))
  specifier_part strict (one an_export) (node shape.ExportSpecifier xs n ts) k e = node_part an_export shape.ExportSpecifier xs n ts (eqb-true n 0) refl (λ us. refl) (left _ (fill strict (these (one a_module_name ∷ one an_exported_name ∷ [])) ts) e) (specifiers_part strict (one a_module_name ∷ one an_exported_name ∷ []) ts refl (right (is_whole an_export shape.ExportSpecifier xs n ts) _ e))
  specifier_part strict (one a_binding) (node h xs n ts) k e = absurd (refused_here strict (one a_binding) h xs n ts refl e)
  specifier_part strict (one a_string) (node h xs n ts) k e = absurd (refused_here strict (one a_string) h xs n ts refl e)
  specifier_part strict (one a_module_name) (node h xs n ts) k e = absurd (refused_here strict (one a_module_name) h xs n ts refl e)
  specifier_part strict (one an_exported_name) (node h xs n ts) k e = absurd (refused_here strict (one an_exported_name) h xs n ts refl e)
  specifier_part strict (one an_import) (node h xs n ts) k e = absurd (refused_here strict (one an_import) h xs n ts refl e)
  specifier_part strict (one an_export) (node h xs n ts) k e = absurd (refused_here strict (one an_export) h xs n ts refl e)
  specifier_part strict (one_or_absent a_string) (node shape.Absent xs n ts) k e = node_part a_string shape.Absent xs n ts (eqb-true n 0) refl (λ us. refl) (left _ (fill strict (these []) ts) e) (specifiers_part strict [] ts refl (right (is_whole a_string shape.Absent xs n ts) _ e))
  specifier_part strict (one_or_absent a_string) (node (shape.StringLiteral v) xs n ts) k e = node_part a_string (shape.StringLiteral v) xs n ts (eqb-true n 0) refl (λ us. refl) (left _ (fill strict (these []) ts) e) (specifiers_part strict [] ts refl (right (is_whole a_string (shape.StringLiteral v) xs n ts) _ e))
  specifier_part strict (one_or_absent a_string) (node h xs n ts) k e = absurd (refused_here strict (one_or_absent a_string) h xs n ts refl e)
  specifier_part strict (many an_import) (node shape.Listed xs n ts) k e = node_part an_import shape.Listed xs n ts (eqb-true n 0) refl (λ us. refl) (left _ (fill strict (each (one an_import)) ts) e) (each_part strict an_import ts refl (right (is_whole an_import shape.Listed xs n ts) _ e))
  specifier_part strict (many an_export) (node shape.Listed xs n ts) k e = node_part an_export shape.Listed xs n ts (eqb-true n 0) refl (λ us. refl) (left _ (fill strict (each (one an_export)) ts) e) (each_part strict an_export ts refl (right (is_whole an_export shape.Listed xs n ts) _ e))
  specifier_part strict (many an_import) (node h xs n ts) k e = absurd (refused_here strict (many an_import) h xs n ts refl e)
  specifier_part strict (many an_export) (node h xs n ts) k e = absurd (refused_here strict (many an_export) h xs n ts refl e)
  specifier_part strict s t k e = absurd (true≢false (sym k))

  specifiers_part : (strict : Bool) (ss : List Slot) (ts : Trees) → specifier_slots ss ≡ true → fill strict (these ss) ts ≡ true → parts ts ≡ ts
  specifiers_part strict [] none k e = refl
  specifiers_part strict [] (t ▸ ts) k e = absurd (true≢false (sym e))
  specifiers_part strict (s ∷ ss) none k e = refl
  specifiers_part strict (s ∷ ss) (t ▸ ts) k e = λ j. specifier_part strict s t (left (specifier_slot s) (specifier_slots ss) k) (left (fits strict s t) (fill strict (these ss) ts) e) j ▸ specifiers_part strict ss ts (right (specifier_slot s) (specifier_slots ss) k) (right (fits strict s t) (fill strict (these ss) ts) e) j

  each_part : (strict : Bool) (c : Class) (ts : Trees) → is_specifier c ≡ true → fill strict (each (one c)) ts ≡ true → parts ts ≡ ts
  each_part strict c none k e = refl
  each_part strict c (t ▸ ts) k e = λ j. specifier_part strict (one c) t k (left (fits strict (one c) t) (fill strict (each (one c)) ts) e) j ▸ each_part strict c ts k (right (fits strict (one c) t) (fill strict (each (one c)) ts) e) j

-- ---- where they stand

import_parts : (strict : Bool) (d : Depth) (xs : List Name) (n : ℕ) (ts : Trees) → fits strict (one (a_statement d)) (node shape.ImportDeclaration xs n ts) ≡ true → parts ts ≡ ts
import_parts true in_module xs n ts e = specifiers_part true (many an_import ∷ one a_string ∷ []) ts refl (right (is_whole (a_statement in_module) shape.ImportDeclaration xs n ts) _ e)
import_parts false in_module xs n ts e = specifiers_part false (many an_import ∷ one a_string ∷ []) ts refl (right (is_whole (a_statement in_module) shape.ImportDeclaration xs n ts) _ e)
import_parts strict in_body xs n ts e = absurd (refused_here strict (one (a_statement in_body)) shape.ImportDeclaration xs n ts (ap filling_by (no_import strict (a_statement in_body) refl)) e)
import_parts strict nested xs n ts e = absurd (refused_here strict (one (a_statement nested)) shape.ImportDeclaration xs n ts (ap filling_by (no_import strict (a_statement nested) refl)) e)

pub no_list_there : (strict : Bool) (d : Depth) (xs : List Name) (n : ℕ) (ts : Trees) → fits strict (one (a_statement d)) (node shape.Listed xs n ts) ≡ true → ⊥
no_list_there strict d xs n ts e = refused_here strict (one (a_statement d)) shape.Listed xs n ts (ap filling_by (nothing_there (is_sloppy_function strict d shape.Listed) d)) e

pub no_program_there : (strict : Bool) (d : Depth) (m : Bool) (ds : List (List ℕ)) (xs : List Name) (n : ℕ) (ts : Trees) → fits strict (one (a_statement d)) (node (shape.Program m ds) xs n ts) ≡ true → ⊥
no_program_there strict d m ds xs n ts e = refused_here strict (one (a_statement d)) (shape.Program m ds) xs n ts (ap filling_by (nothing_there (is_sloppy_function strict d (shape.Program m ds)) d)) e

pub import_shown : (ts : Trees) → shown_from (showing shape.ImportDeclaration) 0 ts ≡ parts ts
import_shown ts = whole_from 0 ts
  where
    whole_from : (i : ℕ) (us : Trees) → shown_from (showing shape.ImportDeclaration) i us ≡ parts us
    whole_from i none = refl
    whole_from i (u ▸ us) = ap (λ vs. part u ▸ vs) (whole_from (suc i) us)

-- the imports of some statements are those that the frame shows
pub all_imports_shown : (strict : Bool) (d : Depth) (ts : Trees) → fill strict (each (one (a_statement d))) ts ≡ true → all_imported_names ts ≡ all_imported_names (ports true ts)
unfolding imported_names
all_imports_shown strict d none e = refl
all_imports_shown strict d (node shape.ImportDeclaration xs n us ▸ ts) e =
    let same = import_shown us ∙ import_parts strict d xs n us (left (fits strict (one (a_statement d)) (node shape.ImportDeclaration xs n us)) (fill strict (each (one (a_statement d))) ts) e) in
    λ j. imported_names (node shape.ImportDeclaration xs n (sym same j)) ++ all_imports_shown strict d ts (right (fits strict (one (a_statement d)) (node shape.ImportDeclaration xs n us)) (fill strict (each (one (a_statement d))) ts) e) j
all_imports_shown strict d (node shape.Listed xs n us ▸ ts) e = absurd (no_list_there strict d xs n us (left (fits strict (one (a_statement d)) (node shape.Listed xs n us)) (fill strict (each (one (a_statement d))) ts) e))
all_imports_shown strict d (node (shape.Program m ds) xs n us ▸ ts) e = absurd (no_program_there strict d m ds xs n us (left (fits strict (one (a_statement d)) (node (shape.Program m ds) xs n us)) (fill strict (each (one (a_statement d))) ts) e))
all_imports_shown strict d (node h xs n us ▸ ts) e = all_imports_shown strict d ts (right (fits strict (one (a_statement d)) (node h xs n us)) (fill strict (each (one (a_statement d))) ts) e)

abbrev is_bound : Declared → Bool
is_bound declared.Bound = true
is_bound d = false

-- what stands in the list of an export declares nothing
quiet_specifiers : (strict : Bool) (d : Declared) (ts : Trees) → is_bound d ≡ false → fill strict (each (one an_export)) ts ≡ true → all_names d ts ≡ []
unfolding names_of
quiet_specifiers strict d none k e = refl
quiet_specifiers strict declared.Bound (t ▸ ts) k e = absurd (true≢false k)
quiet_specifiers strict declared.Lexical (node shape.ExportSpecifier xs n us ▸ ts) k e = quiet_specifiers strict declared.Lexical ts k (right (fits strict (one an_export) (node shape.ExportSpecifier xs n us)) (fill strict (each (one an_export)) ts) e)
quiet_specifiers strict declared.Hoisted (node shape.ExportSpecifier xs n us ▸ ts) k e = quiet_specifiers strict declared.Hoisted ts k (right (fits strict (one an_export) (node shape.ExportSpecifier xs n us)) (fill strict (each (one an_export)) ts) e)
quiet_specifiers strict d (node h xs n us ▸ ts) k e = absurd (refused_here strict (one an_export) h xs n us refl (left (fits strict (one an_export) (node h xs n us)) (fill strict (each (one an_export)) ts) e))

quiet_list : (strict : Bool) (d : Declared) (t : Tree) → is_bound d ≡ false → fits strict (many an_export) t ≡ true → names_of d t ≡ []
unfolding names_of
quiet_list strict declared.Bound t k e = absurd (true≢false k)
quiet_list strict declared.Lexical (node shape.Listed xs n ts) k e = quiet_specifiers strict declared.Lexical ts k (right (is_whole an_export shape.Listed xs n ts) (fill strict (each (one an_export)) ts) e)
quiet_list strict declared.Hoisted (node shape.Listed xs n ts) k e = quiet_specifiers strict declared.Hoisted ts k (right (is_whole an_export shape.Listed xs n ts) (fill strict (each (one an_export)) ts) e)
quiet_list strict d (node h xs n ts) k e = absurd (refused_here strict (many an_export) h xs n ts refl e)

-- nor does a source
pub quiet_source : (strict : Bool) (t : Tree) → fits strict (one_or_absent a_string) t ≡ true → (names_of declared.Lexical t ≡ []) × (names_of declared.Hoisted t ≡ []) × (module_names t ≡ [])
unfolding names_of module_names
quiet_source strict (node shape.Absent xs n ts) e = (refl, refl, refl)
quiet_source strict (node (shape.StringLiteral v) xs n ts) e = (refl, refl, refl)
quiet_source strict (node h xs n ts) e = absurd (refused_here strict (one_or_absent a_string) h xs n ts refl e)

-- a declaration that is exported exports nothing more
pub quiet_declared : (strict : Bool) (t : Tree) → fits strict (one_or_absent an_exported_declaration) t ≡ true → module_names t ≡ []
unfolding module_names
quiet_declared strict (node shape.Absent xs n ts) e = refl
quiet_declared strict (node (shape.VariableDeclaration k) xs n ts) e = refl
quiet_declared strict (node (shape.Function true g ds) xs n ts) e = refl
quiet_declared strict (node (shape.Class true) xs n ts) e = refl
quiet_declared strict (node h xs n ts) e = absurd (refused_here strict (one_or_absent an_exported_declaration) h xs n ts refl e)

nothing_more : (b : Bool) → (b || false) ≡ b
nothing_more true = refl
nothing_more false = refl

module _ (s : ℕ) where
  abbrev x : Name
  x = by_symbol s

  abbrev declares : Tree → Bool
  declares t = is_among x (names_of declared.Lexical t) || is_among x (names_of declared.Hoisted t)

  -- a frame shows its names
  declared_shown : (strict : Bool) (t : Tree) → fits strict (one_or_absent an_exported_declaration) t ≡ true → is_among x (own_names (declaration t)) ≡ declares t
  unfolding body_names names_of
  declared_shown strict (node shape.Absent xs n ts) e = refl
  declared_shown strict (node (shape.VariableDeclaration k) xs n ts) e = any_both (same_variable x) (names_of declared.Lexical (node (shape.VariableDeclaration k) xs n ts)) (names_of declared.Hoisted (node (shape.VariableDeclaration k) xs n ts))
  declared_shown strict (node (shape.Function true g ds) xs n ts) e = any_both (same_variable x) (names_of declared.Lexical (node (shape.Function true g ds) xs n ts)) []
  declared_shown strict (node (shape.Class true) xs n ts) e = any_both (same_variable x) (names_of declared.Lexical (node (shape.Class true) xs n ts)) []
  declared_shown strict (node h xs n ts) e = absurd (refused_here strict (one_or_absent an_exported_declaration) h xs n ts refl e)

  default_shown : (strict : Bool) (t : Tree) → fits strict (one a_default_export) t ≡ true → is_among x (own_names (declaration t)) ≡ is_among x (names_of declared.Lexical t)
  unfolding body_names names_of
  default_shown strict (node (shape.Function true g ds) xs n ts) e = any_both (same_variable x) (first_names ts) [] ∙ nothing_more (is_among x (first_names ts))
  default_shown strict (node (shape.Class true) xs n ts) e = any_both (same_variable x) (first_names ts) [] ∙ nothing_more (is_among x (first_names ts))
  default_shown strict (node (shape.VariableDeclaration k) xs n ts) e = absurd (refused_here strict (one a_default_export) (shape.VariableDeclaration k) xs n ts refl e)
  default_shown strict (node shape.ImportDeclaration xs n ts) e = absurd (refused_here strict (one a_default_export) shape.ImportDeclaration xs n ts refl e)
  default_shown strict (node shape.ExportNamedDeclaration xs n ts) e = absurd (refused_here strict (one a_default_export) shape.ExportNamedDeclaration xs n ts refl e)
  default_shown strict (node shape.ExportDefaultDeclaration xs n ts) e = absurd (refused_here strict (one a_default_export) shape.ExportDefaultDeclaration xs n ts refl e)
  default_shown strict (node shape.SwitchCase xs n ts) e = absurd (refused_here strict (one a_default_export) shape.SwitchCase xs n ts refl e)
  default_shown strict (node shape.Listed xs n ts) e = absurd (refused_here strict (one a_default_export) shape.Listed xs n ts refl e)
  default_shown strict (node h xs n ts) e = refl

  -- the names of an export are those of its declaration and of its list
  named_shown : (strict : Bool) (xs : List Name) (n : ℕ) (d l r : Tree) → fits strict (one_or_absent an_exported_declaration) d ≡ true → fits strict (many an_export) l ≡ true → fits strict (one_or_absent a_string) r ≡ true
      → is_among x (module_names (node shape.ExportNamedDeclaration xs n (d ▸ (l ▸ (r ▸ none))))) ≡ (declares d || is_among x (module_names l))
  unfolding module_names names_of
  named_shown strict xs n d l r fd fl fr =
      let (a, b, c) = quiet_source strict r fr in
      (λ j. is_among x (((names_of declared.Lexical d ++ (quiet_list strict declared.Lexical l refl fl j ++ (a j ++ []))) ++ (names_of declared.Hoisted d ++ (quiet_list strict declared.Hoisted l refl fl j ++ (b j ++ [])))) ++ (quiet_declared strict d fd j ++ (module_names l ++ (c j ++ [])))))
      ∙ (λ j. is_among x (((append-nil (names_of declared.Lexical d)) j ++ (append-nil (names_of declared.Hoisted d)) j) ++ append-nil (module_names l) j))
      ∙ any_both (same_variable x) (names_of declared.Lexical d ++ names_of declared.Hoisted d) (module_names l)
      ∙ ap (λ v. v || is_among x (module_names l)) (any_both (same_variable x) (names_of declared.Lexical d) (names_of declared.Hoisted d))

  -- ---- the names of a module are those that its frame shows

  abbrev pub shows_name : Tree → Bool
  shows_name (node shape.ExportNamedDeclaration xs n (d ▸ (l ▸ ts))) = is_among x (own_names d) || is_among x (module_names l)
  shows_name (node shape.ExportDefaultDeclaration xs n (d ▸ ts)) = is_among x (own_names d)
  shows_name t = is_among x (module_names t)

  abbrev pub shows_names : Trees → Bool
  shows_names none = false
  shows_names (t ▸ ts) = shows_name t || shows_names ts

  abbrev pub Exported : Bool → Trees → Type 0
  Exported strict ts = (d : Tree) × (l : Tree) × (r : Tree) × (ts ≡ d ▸ (l ▸ (r ▸ none))) × (fits strict (one_or_absent an_exported_declaration) d ≡ true) × (fits strict (many an_export) l ≡ true) × (fits strict (one_or_absent a_string) r ≡ true)

  three : (strict : Bool) (ts : Trees) → fill strict (these (one_or_absent an_exported_declaration ∷ many an_export ∷ one_or_absent a_string ∷ [])) ts ≡ true → Exported strict ts
  three strict none e = absurd (true≢false (sym e))
  three strict (d ▸ none) e = absurd (true≢false (sym (right (fits strict (one_or_absent an_exported_declaration) d) false e)))
  three strict (d ▸ (l ▸ none)) e = absurd (true≢false (sym (right (fits strict (many an_export) l) false (right (fits strict (one_or_absent an_exported_declaration) d) _ e))))
  three strict (d ▸ (l ▸ (r ▸ none))) e =
      let rest = right (fits strict (one_or_absent an_exported_declaration) d) _ e in
      let last = right (fits strict (many an_export) l) _ rest in
      (d, l, r, refl, left (fits strict (one_or_absent an_exported_declaration) d) _ e, left (fits strict (many an_export) l) _ rest, left (fits strict (one_or_absent a_string) r) _ last)
  three strict (d ▸ (l ▸ (r ▸ (t ▸ ts)))) e = absurd (true≢false (sym (right (fits strict (one_or_absent a_string) r) false (right (fits strict (many an_export) l) _ (right (fits strict (one_or_absent an_exported_declaration) d) _ e)))))

  no_named_there : (strict b : Bool) → none_if b None ≡ None
  no_named_there strict true = refl
  no_named_there strict false = refl

  pub exported_of : (strict : Bool) (d : Depth) (xs : List Name) (n : ℕ) (ts : Trees) → fits strict (one (a_statement d)) (node shape.ExportNamedDeclaration xs n ts) ≡ true → Exported strict ts
  exported_of true in_module xs n ts e = three true ts (right (is_whole (a_statement in_module) shape.ExportNamedDeclaration xs n ts) _ e)
  exported_of false in_module xs n ts e = three false ts (right (is_whole (a_statement in_module) shape.ExportNamedDeclaration xs n ts) _ e)
  exported_of strict in_body xs n ts e = absurd (refused_here strict (one (a_statement in_body)) shape.ExportNamedDeclaration xs n ts (ap filling_by (no_named_there strict (is_sloppy_function strict in_body shape.ExportNamedDeclaration))) e)
  exported_of strict nested xs n ts e = absurd (refused_here strict (one (a_statement nested)) shape.ExportNamedDeclaration xs n ts (ap filling_by (no_named_there strict (is_sloppy_function strict nested shape.ExportNamedDeclaration))) e)

  abbrev Default : Bool → Trees → Type 0
  Default strict ts = (t : Tree) × (ts ≡ t ▸ none) × (fits strict (one a_default_export) t ≡ true)

  single : (strict : Bool) (ts : Trees) → fill strict (these (one a_default_export ∷ [])) ts ≡ true → Default strict ts
  single strict none e = absurd (true≢false (sym e))
  single strict (t ▸ none) e = (t, refl, left (fits strict (one a_default_export) t) _ e)
  single strict (t ▸ (u ▸ ts)) e = absurd (true≢false (sym (right (fits strict (one a_default_export) t) false e)))

  default_of : (strict : Bool) (d : Depth) (xs : List Name) (n : ℕ) (ts : Trees) → fits strict (one (a_statement d)) (node shape.ExportDefaultDeclaration xs n ts) ≡ true → Default strict ts
  default_of true in_module xs n ts e = single true ts (right (is_whole (a_statement in_module) shape.ExportDefaultDeclaration xs n ts) _ e)
  default_of false in_module xs n ts e = single false ts (right (is_whole (a_statement in_module) shape.ExportDefaultDeclaration xs n ts) _ e)
  default_of strict in_body xs n ts e = absurd (refused_here strict (one (a_statement in_body)) shape.ExportDefaultDeclaration xs n ts (ap filling_by (no_named_there strict (is_sloppy_function strict in_body shape.ExportDefaultDeclaration))) e)
  default_of strict nested xs n ts e = absurd (refused_here strict (one (a_statement nested)) shape.ExportDefaultDeclaration xs n ts (ap filling_by (no_named_there strict (is_sloppy_function strict nested shape.ExportDefaultDeclaration))) e)

  -- one statement's names, and whether the frame shows them
  abbrev ShownAlike : Tree → Type 0
  ShownAlike t = is_among x (module_names t) ≡ shows_names (if is_port true (shape_of t) then own t ▸ none else none)

  pub no_names_there : (strict : Bool) (d : Depth) (h : Shape) (xs : List Name) (n : ℕ) (ts : Trees) → none_if (is_sloppy_function strict d h) (in_depth d None) ≡ statement_slots strict d h → fits strict (one (a_statement d)) (node h xs n ts) ≡ true → ⊥
  no_names_there strict d h xs n ts f e = refused_here strict (one (a_statement d)) h xs n ts (ap filling_by (sym f ∙ nothing_there (is_sloppy_function strict d h) d)) e

  pub statement_shown : (strict : Bool) (d : Depth) (t : Tree) → fits strict (one (a_statement d)) t ≡ true → ShownAlike t
  unfolding module_names names_of
  statement_shown strict d (node shape.ImportDeclaration xs n ts) e =
      let same = import_shown ts ∙ import_parts strict d xs n ts e in
      (λ j. is_among x (module_names (node shape.ImportDeclaration xs n (sym same j)))) ∙ sym (nothing_more (is_among x (module_names (own (node shape.ImportDeclaration xs n ts)))))
  statement_shown strict d (node shape.ExportNamedDeclaration xs n ts) e =
      let (c, l, r, are, fc, fl, fr) = exported_of strict d xs n ts e in
      subst (λ us. ShownAlike (node shape.ExportNamedDeclaration xs n us)) (sym are)
      (named_shown strict xs n c l r fc fl fr ∙ (λ j. sym (declared_shown strict c fc) j || is_among x (module_names (sym (specifier_part strict (many an_export) l refl fl) j))) ∙ sym (nothing_more (is_among x (own_names (declaration c)) || is_among x (module_names (part l)))))
  statement_shown strict d (node shape.ExportDefaultDeclaration xs n ts) e =
      let (c, are, fc) = default_of strict d xs n ts e in
      subst (λ us. ShownAlike (node shape.ExportDefaultDeclaration xs n us)) (sym are)
      (default_names c ∙ sym (default_shown strict c fc) ∙ sym (nothing_more (is_among x (own_names (declaration c)))))
    where
      default_names : (c : Tree) → is_among x (all_names declared.Lexical (c ▸ none)) ≡ is_among x (names_of declared.Lexical c)
      default_names c = ap (is_among x) (append-nil (names_of declared.Lexical c))
  statement_shown strict d (node shape.Listed xs n ts) e = absurd (no_list_there strict d xs n ts e)
  statement_shown strict d (node (shape.Program m ds) xs n ts) e = absurd (no_program_there strict d m ds xs n ts e)
  statement_shown strict d (node shape.ExportSpecifier xs n ts) e = absurd (no_names_there strict d shape.ExportSpecifier xs n ts refl e)
  statement_shown strict d (node shape.Identifier xs n ts) e = absurd (no_names_there strict d shape.Identifier xs n ts refl e)
  statement_shown strict d (node h xs n ts) e = refl

  pub statements_shown : (strict : Bool) (d : Depth) (ts : Trees) → fill strict (each (one (a_statement d))) ts ≡ true → is_among x (all_module_names ts) ≡ shows_names (ports true ts)
  unfolding module_names
  statements_shown strict d none e = refl
  statements_shown strict d (t ▸ ts) e =
      any_both (same_variable x) (module_names t) (all_module_names ts)
      ∙ (λ j. statement_shown strict d t (left (fits strict (one (a_statement d)) t) (fill strict (each (one (a_statement d))) ts) e) j || statements_shown strict d ts (right (fits strict (one (a_statement d)) t) (fill strict (each (one (a_statement d))) ts) e) j)
      ∙ by (is_port true (shape_of t))
    where
      by : (b : Bool) → (shows_names (if b then own t ▸ none else none) || shows_names (ports true ts)) ≡ shows_names (if b then own t ▸ ports true ts else ports true ts)
      by true = ap (λ b. b || shows_names (ports true ts)) (nothing_more (shows_name (own t)))
      by false = refl
