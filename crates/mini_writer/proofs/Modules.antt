-- Imports, exports and whole programs come back, where smaller trees do.
use Rattle.std.proofs.Common.{◌≡◌, ℕ, suc, ◌+◌, ◌≤◌, arith, List, [], ◌∷◌, refl, ap, sym, ◌∙◌, Bool, true, false, ◌&&◌, ◌||◌}
use Rattle.std.specs.Prelude.{Some, nat_eq, not, codes}
use Rattle.std.proofs.lemmas.Bool.{and_parts, eqb-true, false_from_ne_true, false≢true}
use Rattle.serde_json.specs.Data.{Data, array}
use Rattle.mini_model.specs.declared.shape.Shape.TheVariants as shape
use Rattle.mini_model.specs.Tree.{Tree, node, Trees, none, ◌▸◌, count, children, child_or_absent, is_absent, node_count, node_counts}
use Rattle.mini_accept.specs.WellShaped as shaped
use Rattle.mini_accept.specs.WellShaped.{Class, in_module, in_body, a_statement, these, each, fits, fill, is_same_flag, is_reference, are_locals, are_paired, has_use_strict}
use Rattle.mini_accept.specs.declared.kind.Kind.TheVariants as kind
use Rattle.mini_accept.specs.Places.{field, at, an_exported}
use Rattle.mini_accept.specs.Fields.{is_there, no_item}
use Rattle.mini_accept.specs.Plans as plans
use Rattle.mini_accept.specs.Plans.{node_of, one, tree_at}
use Rattle.mini_accept.specs.Statements as statement
use Rattle.mini_accept.specs.Modules.{export_part, local_place}
use Rattle.mini_accept.proofs.Wholes.{not_absent}
use Rattle.mini_writer.specs.Objects as objects
use Rattle.mini_writer.specs.Written.{tree_data, trees_data, node_data, with_directives}
use Rattle.mini_writer.proofs.Units.{all_are_units, has_units, have_units}
use Rattle.mini_writer.proofs.Read.{ReadsBack, node_back, plain_back, one_child, list_child, no_children, ◌&◌, tree_back}
use Rattle.mini_writer.proofs.Fitting.{Fit, Filled, node_fits, fit_more, and_false, with_one, with_two, with_three, with_list, with_optional}
use Rattle.mini_writer.proofs.Slots.{Back, AllBack, is_apart, child_back, optional_back, each_back, items_back, fit_object, there_given}
use Rattle.mini_writer.proofs.Entry.{require_is}
use Rattle.mini_writer.proofs.Statements.{Comes}
use Rattle.mini_writer.proofs.AcceptedBodies.{directives_back, whole_body}
use Rattle.mini_writer.proofs.Names.{module_name, local_name, other_name}

module _ (k : ℕ) (back : Back k) (strict : Bool) where
  -- ---- imports

  pub import : (ts : Trees) → Filled k strict (these (shaped.many shaped.an_import ∷ shaped.one shaped.a_string ∷ [])) ts → Comes k strict (a_statement in_module) shape.ImportDeclaration ts
  import = with_two k strict (shaped.many shaped.an_import) (shaped.one shaped.a_string) (Comes k strict (a_statement in_module) shape.ImportDeclaration)
      (λ a b fa fb. with_list k strict (shaped.many shaped.an_import) (λ v. Comes k strict (a_statement in_module) shape.ImportDeclaration (v ▸ b ▸ none)) refl
      (λ l ts w m n. plain_back (suc (suc k)) strict (a_statement in_module) _ kind.ImportDeclaration shape.ImportDeclaration _ m _ refl refl refl refl
      (each_back k back strict _ shaped.an_import (plans.each shaped.an_import) (codes "specifiers") l ts refl (λ last e s. refl) refl w & child_back k back strict _ shaped.a_string b refl fb (codes "source") refl & no_children) n) a fa)

  pub import_specifier : (ts : Trees) → Filled k strict (these (shaped.one shaped.a_module_name ∷ shaped.one shaped.a_binding ∷ [])) ts → Comes k strict shaped.an_import shape.ImportSpecifier ts
  import_specifier = with_two k strict (shaped.one shaped.a_module_name) (shaped.one shaped.a_binding) (Comes k strict shaped.an_import shape.ImportSpecifier)
      (λ a b f g m n. plain_back (suc (suc k)) strict shaped.an_import _ kind.ImportSpecifier shape.ImportSpecifier _ m _ refl refl refl refl
      (child_back k back strict _ shaped.a_module_name a refl f (codes "imported") refl & child_back k back strict _ shaped.a_binding b refl g (codes "local") refl & no_children) n)

  pub import_default : (ts : Trees) → Filled k strict (these (shaped.one shaped.a_binding ∷ [])) ts → Comes k strict shaped.an_import shape.ImportDefaultSpecifier ts
  import_default = with_one k strict (shaped.one shaped.a_binding) (Comes k strict shaped.an_import shape.ImportDefaultSpecifier)
      (λ a f m n. plain_back (suc (suc k)) strict shaped.an_import _ kind.ImportDefaultSpecifier shape.ImportDefaultSpecifier _ m _ refl refl refl refl
      (child_back k back strict _ shaped.a_binding a refl f (codes "local") refl & no_children) n)

  pub import_namespace : (ts : Trees) → Filled k strict (these (shaped.one shaped.a_binding ∷ [])) ts → Comes k strict shaped.an_import shape.ImportNamespaceSpecifier ts
  import_namespace = with_one k strict (shaped.one shaped.a_binding) (Comes k strict shaped.an_import shape.ImportNamespaceSpecifier)
      (λ a f m n. plain_back (suc (suc k)) strict shaped.an_import _ kind.ImportNamespaceSpecifier shape.ImportNamespaceSpecifier _ m _ refl refl refl refl
      (child_back k back strict _ shaped.a_binding a refl f (codes "local") refl & no_children) n)

  -- ---- exports

  pub export_default : (ts : Trees) → Filled k strict (these (shaped.one shaped.a_default_export ∷ [])) ts → Comes k strict (a_statement in_module) shape.ExportDefaultDeclaration ts
  export_default = with_one k strict (shaped.one shaped.a_default_export) (Comes k strict (a_statement in_module) shape.ExportDefaultDeclaration)
      (λ a f m n. plain_back (suc (suc k)) strict (a_statement in_module) _ kind.ExportDefaultDeclaration shape.ExportDefaultDeclaration _ m _ refl refl refl refl
      (child_back k back strict _ shaped.a_default_export a refl f (codes "declaration") refl & no_children) n)

  pub export_all : (ts : Trees) → Filled k strict (these (shaped.one_or_absent shaped.a_module_name ∷ shaped.one shaped.a_string ∷ [])) ts → Comes k strict (a_statement in_module) shape.ExportAllDeclaration ts
  export_all = with_two k strict (shaped.one_or_absent shaped.a_module_name) (shaped.one shaped.a_string) (Comes k strict (a_statement in_module) shape.ExportAllDeclaration)
      (λ a b f g m n. plain_back (suc (suc k)) strict (a_statement in_module) _ kind.ExportAllDeclaration shape.ExportAllDeclaration _ m _ refl refl refl refl
      (optional_back k back strict _ shaped.a_module_name a refl f (codes "exported") refl & child_back k back strict _ shaped.a_string b refl g (codes "source") refl & no_children) n)

  local_part : (own : Bool) (t : Tree) → is_same_flag own (is_reference t) ≡ true → Fit k strict (shaped.one shaped.an_exported_name) t → (n : ℕ) → ReadsBack (suc k) strict (local_place (an_exported own)) n (tree_data t) t
  local_part true t e f n = local_name k k strict t e f n
  local_part false t e f n = module_name k k strict t (other_name k k strict t (not_so (is_reference t) e) f) n
    where
      not_so : (b : Bool) → not b ≡ true → b ≡ false
      not_so true e = sym e
      not_so false e = refl

  specified : (own : Bool) (ts : Trees) → Filled k strict (these (shaped.one shaped.a_module_name ∷ shaped.one shaped.an_exported_name ∷ [])) ts → is_same_flag own (is_reference (child_or_absent ts 1)) ≡ true
      → (m n : ℕ) → ReadsBack (suc (suc k)) strict (an_exported own) n (node_data shape.ExportSpecifier [] (trees_data ts)) (node shape.ExportSpecifier [] m ts)
  specified own = with_two k strict (shaped.one shaped.a_module_name) (shaped.one shaped.an_exported_name) (λ ts. is_same_flag own (is_reference (child_or_absent ts 1)) ≡ true → (m n : ℕ) → ReadsBack (suc (suc k)) strict (an_exported own) n (node_data shape.ExportSpecifier [] (trees_data ts)) (node shape.ExportSpecifier [] m ts))
      (λ a b f g e m n. node_back (suc k) strict (an_exported own) (objects.export_specifier (tree_data a) (tree_data b)) kind.ExportSpecifier
      (record { shape = shape.ExportSpecifier; names = []; children = plans.child (codes "exported") shaped.a_module_name ∷ one (tree_at (field (codes "local")) (local_place (an_exported own))) ∷ [] }) [] m (a ▸ b ▸ none) refl refl refl refl refl
      (one_child (tree_back (suc k) strict _ (field (codes "exported")) (at shaped.a_module_name) (tree_data a) a refl (module_name k k strict a f))
      & one_child (tree_back (suc k) strict _ (field (codes "local")) (local_place (an_exported own)) (tree_data b) b refl (local_part own b e g)) & no_children) n)

  specifier : (own : Bool) (t : Tree) → is_same_flag own (is_reference (child_or_absent (children t) 1)) ≡ true → Fit k strict (shaped.one shaped.an_export) t → (n : ℕ) → ReadsBack (suc (suc k)) strict (an_exported own) n (tree_data t) t
  specifier own (node shape.ExportSpecifier [] m ts) e f n = specified own ts (node_fits k strict shaped.an_export shape.ExportSpecifier [] m ts (fit_more k (suc k) strict (shaped.one shaped.an_export) (node shape.ExportSpecifier [] m ts) (omega arith) f)).filled e m n
  specifier own (node shape.ExportSpecifier (x ∷ xs) m ts) e f n = absurd (false≢true f.fits)
  specifier own (node h xs m ts) e f n = absurd (and_false _ f.fits)

  all_exports : (d : Data) (own : Bool) (ts : Trees) → are_locals own ts ≡ true → Filled k strict (each (shaped.one shaped.an_export)) ts → AllBack k back strict d (export_part own) ts
  all_exports d own none e w = tt
  all_exports d own (t ▸ ts) e w =
      let (first, rest) = and_parts (fits strict (shaped.one shaped.an_export) t) (fill strict (each (shaped.one shaped.an_export)) ts) w.fills in
      let (unit, units) = and_parts (has_units t) (have_units ts) w.units in
      let (local, locals) = and_parts (is_same_flag own (is_reference (child_or_absent (children t) 1))) (are_locals own ts) e in
      let small : node_count t + node_counts ts ≤ k = w.small in
      let fit : Fit k strict (shaped.one shaped.an_export) t = record { fits = first; units = unit; small = omega arith } in
      (λ s there. tree_back (suc (suc k)) strict d s (an_exported own) (tree_data t) t there (specifier own t local fit), all_exports d own ts locals (record { fills = rest; units = units; small = omega arith }))

  absent_told : (c : Class) (t : Tree) → is_apart c ≡ false → Fit k strict (shaped.one_or_absent c) t → not (is_there (Some (tree_data t))) ≡ is_absent t
  absent_told c t a f = with_optional k strict c (λ v. not (is_there (Some (tree_data v))) ≡ is_absent v) (λ n. refl)
      (λ v g. ap not (there_given (Some (tree_data v)) (tree_data v) refl (fit_object k back strict c v a g)) ∙ sym (not_absent strict c v g.fits)) t f

  none_told : (ts : Trees) → no_item (trees_data ts) ≡ nat_eq (count ts) 0
  none_told none = refl
  none_told (t ▸ ts) = sym (false_from_ne_true (nat_eq (suc (count ts)) 0) (λ e. (let same : suc (count ts) ≡ 0 = eqb-true (suc (count ts)) 0 e in omega arith)))

  pub export_named : (ts : Trees) → Filled k strict (these (shaped.one_or_absent shaped.an_exported_declaration ∷ shaped.many shaped.an_export ∷ shaped.one_or_absent shaped.a_string ∷ [])) ts → shaped.is_whole_export ts ≡ true → Comes k strict (a_statement in_module) shape.ExportNamedDeclaration ts
  export_named = with_three k strict (shaped.one_or_absent shaped.an_exported_declaration) (shaped.many shaped.an_export) (shaped.one_or_absent shaped.a_string) (λ ts. shaped.is_whole_export ts ≡ true → Comes k strict (a_statement in_module) shape.ExportNamedDeclaration ts)
      (λ a b c fa fb fc. with_list k strict (shaped.many shaped.an_export) (λ v. shaped.is_whole_export (a ▸ v ▸ c ▸ none) ≡ true → Comes k strict (a_statement in_module) shape.ExportNamedDeclaration (a ▸ v ▸ c ▸ none)) refl
      (λ l ts w e m n.
      (let (whole, locals) = and_parts (is_absent a || (nat_eq (count ts) 0 && is_absent c)) (are_locals (is_absent c) ts) e in
      let own : not (is_there (Some (tree_data c))) ≡ is_absent c = absent_told shaped.a_string c refl fc in
      let bare : not (is_there (Some (tree_data a))) ≡ is_absent a = absent_told shaped.an_exported_declaration a refl fa in
      let test : (not (is_there (Some (tree_data a))) || (no_item (trees_data ts) && not (is_there (Some (tree_data c))))) ≡ true =
      ap (λ q. q || (no_item (trees_data ts) && not (is_there (Some (tree_data c))))) bare ∙ (ap (λ q. is_absent a || (q && not (is_there (Some (tree_data c))))) (none_told ts) ∙ (ap (λ q. is_absent a || (nat_eq (count ts) 0 && q)) own ∙ whole)) in
      let d = objects.export_named_declaration (tree_data a) (array (trees_data ts)) (tree_data c) in
      plain_back (suc (suc k)) strict (a_statement in_module) d kind.ExportNamedDeclaration shape.ExportNamedDeclaration _ m _ refl refl refl
      (require_is (not (is_there (Some (tree_data a))) || (no_item (trees_data ts) && not (is_there (Some (tree_data c))))) _ _ test refl)
      (optional_back k back strict d shaped.an_exported_declaration a refl fa (codes "declaration") refl
      & items_back k back strict d (export_part (not (is_there (Some (tree_data c))))) (codes "specifiers") l ts refl (all_exports d (not (is_there (Some (tree_data c)))) ts (ap (λ q. are_locals q ts) own ∙ locals) w)
      & optional_back k back strict d shaped.a_string c refl fc (codes "source") refl & no_children) n)) b fb)

-- ---- programs

module _ (k : ℕ) (back : Back k) (ss : List (List ℕ)) (p : are_paired ss ≡ true) (u : all_are_units ss ≡ true) where
  pub module_back : (ts : Trees) → Filled k true (these (shaped.many (a_statement in_module) ∷ [])) ts → Comes k false shaped.a_program (shape.Program true ss) ts
  module_back = with_one k true (shaped.many (a_statement in_module)) (Comes k false shaped.a_program (shape.Program true ss))
      (λ a. with_list k true (shaped.many (a_statement in_module)) (λ v. Comes k false shaped.a_program (shape.Program true ss) (v ▸ none)) refl
      (λ l ts w m n. (let d = objects.program_object true (array (with_directives ss (trees_data ts))) in
      plain_back (suc (suc k)) false shaped.a_program d kind.Program (shape.Program true ss) (statement.body in_module (with_directives ss (trees_data ts)) ∷ []) m _ refl refl refl
      (ap (λ q. node_of (shape.Program true q) (statement.body in_module (with_directives ss (trees_data ts)) ∷ [])) (directives_back k back true in_module ss ts p u w))
      (list_child l (whole_body k back true in_module d ss ts refl p u w) & no_children) n)) a)

  pub script_back : (ts : Trees) → Filled k (has_use_strict ss) (these (shaped.many (a_statement in_body) ∷ [])) ts → Comes k false shaped.a_program (shape.Program false ss) ts
  script_back = with_one k (has_use_strict ss) (shaped.many (a_statement in_body)) (Comes k false shaped.a_program (shape.Program false ss))
      (λ a. with_list k (has_use_strict ss) (shaped.many (a_statement in_body)) (λ v. Comes k false shaped.a_program (shape.Program false ss) (v ▸ none)) refl
      (λ l ts w m n. (let d = objects.program_object false (array (with_directives ss (trees_data ts))) in
      plain_back (suc (suc k)) false shaped.a_program d kind.Program (shape.Program false ss) (statement.body in_body (with_directives ss (trees_data ts)) ∷ []) m _ refl refl refl
      (ap (λ q. node_of (shape.Program false q) (statement.body in_body (with_directives ss (trees_data ts)) ∷ [])) (directives_back k back (has_use_strict ss) in_body ss ts p u w))
      (list_child l (whole_body k back (has_use_strict ss) in_body d ss ts refl p u w) & no_children) n)) a)
