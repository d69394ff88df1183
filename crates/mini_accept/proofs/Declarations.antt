-- The plans of functions, classes, imports and exports.
use Rattle.std.proofs.Common.{◌≡◌, ℕ, suc, List, [], ◌∷◌, refl, ap, sym, ◌∙◌, Bool, true, false, ◌&&◌, ◌||◌}
use Rattle.std.specs.Prelude.{Option, Some, None, is_some, not, codes, if◌then◌else◌}
use Rattle.std.proofs.lemmas.Bool.{and_from, and_parts, or_right, or_parts, not-true, false≢true, true≢false}
use Rattle.serde_json.specs.Data.{Data, Items, no_items, item}
use Rattle.serde_json.specs.Find.{get}
use Rattle.mini_model.specs.declared.kind.MethodDefinitionKind.{MethodDefinitionKind}
use Rattle.mini_model.specs.declared.kind.MethodDefinitionKind.TheVariants as method
use Rattle.mini_model.specs.declared.shape.Shape.{Shape}
use Rattle.mini_model.specs.declared.shape.Shape.TheVariants as shape
use Rattle.mini_model.specs.Texts.{units_of}
use Rattle.mini_model.specs.Tree.{Tree, node, children, child_or_absent, is_absent}
use Rattle.mini_accept.specs.WellShaped as shaped
use Rattle.mini_accept.specs.WellShaped.{Class, Depth, in_module, in_body, nested, Slot, slots_of, is_sloppy_function, is_strict_in, is_same_flag, is_same_spelling, has_its_number, has_names, has_plain_fields, has_its_parts, none_if, fits}
use Rattle.mini_accept.specs.Places.{down, field, place, Place, at, an_exported, a_local_name}
use Rattle.mini_accept.specs.Fields.{is_given, is_there_with, flag_at, list_at, no_item, has_type}
use Rattle.mini_accept.specs.Standing.{is_unread, is_unread_form, is_method}
use Rattle.mini_accept.specs.Plans.{hole, tree_at, inner_at, Child, one, child, inner_key, optional, optional_inner, node_of, parts_from, list, each}
use Rattle.mini_accept.specs.Words.{word_at, method_kinds}
use Rattle.mini_accept.specs.Functions as function
use Rattle.mini_accept.specs.Functions.{directives_below, parameter}
use Rattle.mini_accept.specs.Modules as module'
use Rattle.mini_accept.proofs.Fitting.{KnownBelow, known_fits, OfParts, trees_of_parts, OfChildren, trees_of_children, PartFits, AllFit, ChildrenFit}
use Rattle.mini_accept.proofs.Gathered.{Numbered, WholeIf}
use Rattle.mini_accept.proofs.Wholes.{bind_whole, require_whole, list_whole, inner_one, inner_fits, if_fits, optional_fits, optional_inner_fits, absent_fits, absent_or, not_absent, all_fit, none_if_false, whole_by, whole_at}
use Rattle.mini_accept.proofs.Types.{some_same, text_is}
use Rattle.mini_accept.proofs.Plains.{below_paired, parameters_fit}
use Rattle.mini_accept.proofs.Statements.{is_function, not_sloppy}

-- ---- functions

-- a name that has to be there
named : (d : Data) → is_given (codes "id") d ≡ true → PartFits (shaped.one shaped.a_binding) (if is_given (codes "id") d then tree_at (field (codes "id")) (at shaped.a_binding) else hole)
named d is = if_fits (shaped.one shaped.a_binding) (is_given (codes "id") d) (tree_at (field (codes "id")) (at shaped.a_binding)) hole (λ y s t h. h) (λ n. absurd (true≢false (sym is ∙ n)))

perhaps_named : (d : Data) → PartFits (shaped.one_or_absent shaped.a_binding) (if is_given (codes "id") d then tree_at (field (codes "id")) (at shaped.a_binding) else hole)
perhaps_named d = optional_fits shaped.a_binding (is_given (codes "id") d) (field (codes "id")) (at shaped.a_binding) (λ s t h. h)

extends_fits : (d : Data) → PartFits (shaped.one_or_absent (shaped.an_inner shaped.an_expression)) (if is_given (codes "superClass") d then inner_at (field (codes "superClass")) (at shaped.an_expression) else hole)
extends_fits d = optional_inner_fits (shaped.an_inner shaped.an_expression) (is_given (codes "superClass") d) (field (codes "superClass")) (at shaped.an_expression) (λ s n t h. inner_fits n _ h)

-- a function of sloppy code that isn't directly in a body isn't read
not_loose : (strict : Bool) (depth : Depth) (d : Data) (g : Bool) (ds : List (List ℕ)) → has_type (codes "FunctionDeclaration") d ≡ true → is_unread strict (at (shaped.a_statement depth)) d ≡ false → is_sloppy_function strict depth (shape.Function true g ds) ≡ false
not_loose true depth d g ds typed read = refl
not_loose false in_module d g ds typed read = refl
not_loose false in_body d g ds typed read = refl
not_loose false nested d g ds typed read = absurd (true≢false (sym typed ∙ (or_parts (is_unread_form (at (shaped.a_statement nested)) d) (has_type (codes "FunctionDeclaration") d) read).1))

module _ (strict : Bool) (d : Data) where
  function_by : (declaration : Bool) (p : Place) → ((g : Bool) (ds : Items) → function.is_named declaration p d ≡ true → WholeIf strict p d (node_of (shape.Function declaration g (directives_below d)) (optional (codes "id") shaped.a_binding d ∷ list parameter (codes "params") ds ∷ child (codes "body") shaped.a_function_body ∷ [])))
      → WholeIf strict p d (function.function declaration p d)
  function_by declaration p f = bind_whole strict p d (flag_at (codes "generator") d) _ (λ g is. list_whole strict p d parameter (codes "params") _ (λ ds.
      require_whole strict p d (is_some (flag_at (codes "async") d) && function.is_named declaration p d) _ (λ e. f g ds (and_parts (is_some (flag_at (codes "async") d)) (function.is_named declaration p d) e).1)))

  pub function_statement : (depth : Depth) → has_type (codes "FunctionDeclaration") d ≡ true → is_unread strict (at (shaped.a_statement depth)) d ≡ false → WholeIf strict (at (shaped.a_statement depth)) d (function.function true (at (shaped.a_statement depth)) d)
  function_statement depth typed read = function_by true (at (shaped.a_statement depth)) (λ g ds is. whole_by strict (at (shaped.a_statement depth)) (shaped.a_statement depth) d (shape.Function true g (directives_below d)) [] _ _ (λ t e. e) (λ n e. e)
      (none_if_false (is_sloppy_function strict depth (shape.Function true g (directives_below d))) _ (not_loose strict depth d g (directives_below d) typed read)) refl (below_paired d) (λ w. refl)
      (named d is, (parameters_fit (codes "params") ds, (λ s t h. h, tt))) (λ w n. tt))

  pub exported_function : WholeIf strict (at shaped.an_exported_declaration) d (function.function true (at shaped.an_exported_declaration) d)
  exported_function = function_by true (at shaped.an_exported_declaration) (λ g ds is. whole_at strict (at shaped.an_exported_declaration) shaped.an_exported_declaration d (shape.Function true g (directives_below d)) [] _ (λ t e. e) (λ n e. e) refl (below_paired d) (λ w. refl)
      (named d is, (parameters_fit (codes "params") ds, (λ s t h. h, tt))) (λ w n. tt))

  pub default_function : WholeIf strict (at shaped.a_default_export) d (function.function true (at shaped.a_default_export) d)
  default_function = function_by true (at shaped.a_default_export) (λ g ds is. whole_at strict (at shaped.a_default_export) shaped.a_default_export d (shape.Function true g (directives_below d)) [] _ (λ t e. e) (λ n e. e) refl (below_paired d) (λ w. refl)
      (perhaps_named d, (parameters_fit (codes "params") ds, (λ s t h. h, tt))) (λ w n. tt))

  method_by : (g : Bool) (ds : Items) (given : Bool) → given ≡ false
      → WholeIf strict (at shaped.a_method) d (node_of (shape.Function false g (directives_below d)) (one (if given then tree_at (field (codes "id")) (at shaped.a_binding) else hole) ∷ list parameter (codes "params") ds ∷ child (codes "body") shaped.a_function_body ∷ []))
  method_by g ds true bare = absurd (true≢false bare)
  method_by g ds false bare = whole_at strict (at shaped.a_method) shaped.a_method d (shape.Function false g (directives_below d)) [] _ (λ t e. e) (λ n e. e) refl (below_paired d) (λ w. refl)
      (λ s. absent_fits s shaped.a_binding, (parameters_fit (codes "params") ds, (λ s t h. h, tt))) (λ w n. tt)

  -- a method's value has no name
  pub method_value : is_method d ≡ true → WholeIf strict (at shaped.a_method) d (function.function false (at shaped.a_method) d)
  method_value is = function_by false (at shaped.a_method) (λ g ds e. method_by g ds (is_given (codes "id") d) (not-true (is_given (codes "id") d) (and_parts (has_type (codes "FunctionExpression") d) (not (is_given (codes "id") d)) is).1))

  -- ---- classes

  -- the name that a declaration holds once more is read of the same field
  name_repeated : (o : Option Data) (t u : Tree) → KnownBelow true (at shaped.a_binding) o t → KnownBelow true (at shaped.a_binding) o u
      → (if not (is_absent t) then is_same_spelling (shaped.spelling t) (shaped.spelling u) else is_absent u) ≡ true
  name_repeated None t u k l = absurd k
  name_repeated (Some e) t u k l =
      ap (λ b. if not b then is_same_spelling (shaped.spelling t) (shaped.spelling u) else is_absent u) (not_absent true shaped.a_binding t k.0)
      ∙ (ap (λ o. is_same_spelling o (shaped.spelling u)) k.1.2
      ∙ (ap (is_same_spelling (Some (units_of k.1.0))) l.1.2 ∙ text_is (units_of k.1.0) (units_of l.1.0) (ap units_of (some_same k.1.0 l.1.0 (sym k.1.1 ∙ l.1.1)))))

  abbrev class_children : Bool → Bool → List Child
  class_children has_name extends = one (if has_name then tree_at (field (codes "id")) (at shaped.a_binding) else hole) ∷ one (if extends then inner_at (field (codes "superClass")) (at shaped.an_expression) else hole)
      ∷ child (codes "body") shaped.a_class_body ∷ one (if has_name then tree_at (field (codes "id")) (at shaped.a_binding) else hole) ∷ []

  name_held : (has_name extends : Bool) (w : OfChildren true d (class_children has_name extends)) → shaped.holds_its_name true (trees_of_children true d (class_children has_name extends) w) ≡ true
  name_held true true w = name_repeated (get (codes "id") d) w.0.0 w.1.1.1.0.0 w.0.1 w.1.1.1.0.1
  name_held true false w = name_repeated (get (codes "id") d) w.0.0 w.1.1.1.0.0 w.0.1 w.1.1.1.0.1
  name_held false true w = refl
  name_held false false w = refl

  class_by : (p : Place) → (function.is_named true p d ≡ true → WholeIf strict p d (node_of (shape.Class true) (optional (codes "id") shaped.a_binding d ∷ optional_inner (codes "superClass") shaped.an_expression d ∷ child (codes "body") shaped.a_class_body ∷ function.name_held true d ∷ [])))
      → WholeIf strict p d (function.class true p d)
  class_by p f = require_whole strict p d (function.is_named true p d) _ f

  pub class_statement : (depth : Depth) → WholeIf strict (at (shaped.a_statement depth)) d (function.class true (at (shaped.a_statement depth)) d)
  class_statement depth = class_by (at (shaped.a_statement depth)) (λ is. whole_by strict (at (shaped.a_statement depth)) (shaped.a_statement depth) d (shape.Class true) [] _ _ (λ t e. e) (λ n e. e)
      (none_if_false (is_sloppy_function strict depth (shape.Class true)) _ (not_sloppy strict depth (shape.Class true) refl)) refl refl (name_held (is_given (codes "id") d) (is_given (codes "superClass") d)) (named d is, (extends_fits d, (λ s t h. h, (perhaps_named d, tt)))) (λ w n. tt))

  pub exported_class : WholeIf strict (at shaped.an_exported_declaration) d (function.class true (at shaped.an_exported_declaration) d)
  exported_class = class_by (at shaped.an_exported_declaration) (λ is. whole_at strict (at shaped.an_exported_declaration) shaped.an_exported_declaration d (shape.Class true) [] _ (λ t e. e) (λ n e. e) refl refl (name_held (is_given (codes "id") d) (is_given (codes "superClass") d)) (named d is, (extends_fits d, (λ s t h. h, (perhaps_named d, tt)))) (λ w n. tt))

  pub default_class : WholeIf strict (at shaped.a_default_export) d (function.class true (at shaped.a_default_export) d)
  default_class = whole_at strict (at shaped.a_default_export) shaped.a_default_export d (shape.Class true) [] (optional (codes "id") shaped.a_binding d ∷ optional_inner (codes "superClass") shaped.an_expression d ∷ child (codes "body") shaped.a_class_body ∷ function.name_held true d ∷ []) (λ t e. e) (λ n e. e) refl refl (name_held (is_given (codes "id") d) (is_given (codes "superClass") d)) (perhaps_named d, (extends_fits d, (λ s t h. h, (perhaps_named d, tt)))) (λ w n. tt)

  pub class_body : WholeIf strict (at shaped.a_class_body) d (function.class_body d)
  class_body = list_whole strict (at shaped.a_class_body) d (each shaped.a_class_member) (codes "body") _ (λ ds. whole_at strict (at shaped.a_class_body) shaped.a_class_body d shape.ClassBody [] _ (λ t e. e) (λ n e. e) refl refl (λ w. refl)
      (all_fit (shaped.one shaped.a_class_member) (each shaped.a_class_member) (codes "body") 0 ds (λ last e q s t h. h), tt) (λ w n. tt))

  -- a method is the constructor by the tree as it is by the value
  key_seen : (o : Option Data) (t : Tree) → KnownBelow strict (at (shaped.a_private_or_key false)) o t → shaped.names_constructor t ≡ is_there_with function.names_constructor o
  key_seen None t k = absurd k
  key_seen (Some e) t k = k.1

  kind_same : (k : MethodDefinitionKind) (computed is_static : Bool) (t : Tree) → shaped.has_its_kind k computed is_static t ≡ function.has_its_kind k (not is_static && (not computed && shaped.names_constructor t))
  kind_same method.Constructor computed is_static t = refl
  kind_same method.Method computed is_static t = refl
  kind_same method.Get computed is_static t = refl
  kind_same method.Set computed is_static t = refl

  member_by : (k : MethodDefinitionKind) (computed is_static : Bool) → function.has_its_kind k (function.is_constructor computed is_static d) ≡ true
      → WholeIf strict (at shaped.a_class_member) d (node_of (shape.MethodDefinition k computed is_static) (inner_key computed (shaped.a_private_or_key false) ∷ child (codes "value") shaped.a_method ∷ []))
  member_by k true is_static e = whole_at strict (at shaped.a_class_member) shaped.a_class_member d (shape.MethodDefinition k true is_static) [] _ (λ t e. e) (λ n e. e) refl refl
      (λ w. kind_same k true is_static _ ∙ e) (λ s n t h. inner_fits n _ h, (λ s t h. h, tt)) (λ w n. tt)
  member_by k false is_static e = whole_at strict (at shaped.a_class_member) shaped.a_class_member d (shape.MethodDefinition k false is_static) [] _ (λ t e. e) (λ n e. e) refl refl
      (λ w. kind_same k false is_static w.0.0 ∙ (ap (λ b. function.has_its_kind k (not is_static && b)) (key_seen (get (codes "key") d) w.0.0 w.0.1) ∙ e)) (λ s t h. h, (λ s t h. h, tt)) (λ w n. tt)

  pub method_definition : WholeIf strict (at shaped.a_class_member) d (function.method_definition d)
  method_definition = bind_whole strict (at shaped.a_class_member) d (word_at method_kinds (codes "kind") d) _ (λ k is. bind_whole strict (at shaped.a_class_member) d (flag_at (codes "computed") d) _ (λ computed c. bind_whole strict (at shaped.a_class_member) d (flag_at (codes "static") d) _ (λ is_static s.
      require_whole strict (at shaped.a_class_member) d _ _ (λ e. member_by k computed is_static e))))

  value_fits : PartFits (shaped.one_or_absent (shaped.an_inner shaped.an_expression)) (if is_given (codes "value") d then inner_at (field (codes "value")) (at shaped.an_expression) else hole)
  value_fits = optional_inner_fits (shaped.an_inner shaped.an_expression) (is_given (codes "value") d) (field (codes "value")) (at shaped.an_expression) (λ s n t h. inner_fits n _ h)

  property_by : (computed is_static : Bool) → WholeIf strict (at shaped.a_class_member) d (node_of (shape.PropertyDefinition computed is_static) (inner_key computed (shaped.a_private_or_key false) ∷ optional_inner (codes "value") shaped.an_expression d ∷ []))
  property_by true is_static = whole_at strict (at shaped.a_class_member) shaped.a_class_member d (shape.PropertyDefinition true is_static) [] (inner_key true (shaped.a_private_or_key false) ∷ optional_inner (codes "value") shaped.an_expression d ∷ []) (λ t e. e) (λ n e. e) refl refl (λ w. refl) (λ s n t h. inner_fits n _ h, (value_fits, tt)) (λ w n. tt)
  property_by false is_static = whole_at strict (at shaped.a_class_member) shaped.a_class_member d (shape.PropertyDefinition false is_static) [] (inner_key false (shaped.a_private_or_key false) ∷ optional_inner (codes "value") shaped.an_expression d ∷ []) (λ t e. e) (λ n e. e) refl refl (λ w. refl) (λ s t h. h, (value_fits, tt)) (λ w n. tt)

  pub property_definition : WholeIf strict (at shaped.a_class_member) d (function.property_definition d)
  property_definition = bind_whole strict (at shaped.a_class_member) d (flag_at (codes "computed") d) _ (λ computed c. bind_whole strict (at shaped.a_class_member) d (flag_at (codes "static") d) _ (λ is_static s. property_by computed is_static))

  pub static_block : WholeIf strict (at shaped.a_class_member) d (function.static_block d)
  static_block = list_whole strict (at shaped.a_class_member) d (each (shaped.a_statement in_body)) (codes "body") _ (λ ds. whole_at strict (at shaped.a_class_member) shaped.a_class_member d shape.StaticBlock [] _ (λ t e. e) (λ n e. e) refl refl (λ w. refl)
      (all_fit (shaped.one (shaped.a_statement in_body)) (each (shaped.a_statement in_body)) (codes "body") 0 ds (λ last e q s t h. h), tt) (λ w n. tt))

-- ---- imports and exports

same_flag : (own b : Bool) → b ≡ own → is_same_flag own b ≡ true
same_flag true b e = e
same_flag false b e = ap not e

exported_seen : (strict own : Bool) (o : Option Data) (t : Tree) → KnownBelow strict (an_exported own) o t → shaped.is_reference (child_or_absent (children t) 1) ≡ own
exported_seen strict own None t k = absurd k
exported_seen strict own (Some e) t k = k.1

locals : (strict own : Bool) (d : Data) (i : ℕ) (ds : Items) (w : OfParts strict d (parts_from (module'.export_part own) (codes "specifiers") i ds)) → shaped.are_locals own (trees_of_parts strict d (parts_from (module'.export_part own) (codes "specifiers") i ds) w) ≡ true
locals strict own d i no_items w = refl
locals strict own d i (item e ds) w = and_from _ _ (same_flag own _ (exported_seen strict own (down (place (codes "specifiers") i) d) w.0.0 w.0.1)) (locals strict own d (suc i) ds w.1)

-- a name that another module has for it
name_exported : (strict : Bool) (t : Tree) → fits strict (shaped.one shaped.a_module_name) t ≡ true → fits strict (shaped.one shaped.an_exported_name) t ≡ true
name_exported strict (node (shape.IdentifierName s) xs n ts) e = e
name_exported strict (node (shape.StringLiteral s) xs n ts) e = e
name_exported strict (node h xs n ts) e = absurd (false≢true (and_parts _ false e).1)

no_reference : (strict : Bool) (t : Tree) → fits strict (shaped.one shaped.a_module_name) t ≡ true → shaped.is_reference t ≡ false
no_reference strict (node shape.Identifier xs n ts) e = absurd (false≢true (and_parts _ false e).1)
no_reference strict (node h xs n ts) e = refl

local_seen : (strict : Bool) (o : Option Data) (t : Tree) → KnownBelow strict a_local_name o t → shaped.is_reference t ≡ true
local_seen strict None t k = absurd k
local_seen strict (Some e) t k = k.1

module _ (strict : Bool) (d : Data) where
  -- a node of modules
  modular : (h : Shape) (cs : List Child) (slots : List Slot) → slots_of strict (shaped.a_statement in_module) h ≡ none_if (is_sloppy_function strict in_module h) (Some slots) → is_function h ≡ false → (has_names h [] && has_plain_fields h) ≡ true
      → ((n : ℕ) → Numbered (at (shaped.a_statement in_module)) h n → has_its_number (shaped.a_statement in_module) h n ≡ true)
      → ((w : OfChildren (is_strict_in strict h) d cs) → has_its_parts (shaped.a_statement in_module) h (trees_of_children (is_strict_in strict h) d cs w) ≡ true) → ChildrenFit slots cs → WholeIf strict (at (shaped.a_statement in_module)) d (node_of h cs)
  modular h cs slots stands bare is counted parts fit =
      let (names, fields) = and_parts (has_names h []) (has_plain_fields h) is in
      whole_by strict (at (shaped.a_statement in_module)) (shaped.a_statement in_module) d h [] cs slots (λ t e. e) counted (stands ∙ none_if_false (is_sloppy_function strict in_module h) (Some slots) (not_sloppy strict in_module h bare)) names fields parts fit (λ w n. tt)

  pub import : WholeIf strict (at (shaped.a_statement in_module)) d (module'.import d)
  import = list_whole strict (at (shaped.a_statement in_module)) d (each shaped.an_import) (codes "specifiers") _ (λ ds. require_whole strict (at (shaped.a_statement in_module)) d _ _ (λ e. modular shape.ImportDeclaration _ _ refl refl refl (λ n e. e) (λ w. refl)
      (all_fit (shaped.one shaped.an_import) (each shaped.an_import) (codes "specifiers") 0 ds (λ last e q s t h. h), (λ s t h. h, tt))))

  pub import_specifier : WholeIf strict (at shaped.an_import) d (module'.import_specifier d)
  import_specifier = whole_at strict (at shaped.an_import) shaped.an_import d shape.ImportSpecifier [] _ (λ t e. e) (λ n e. e) refl refl (λ w. refl) (λ s t h. h, (λ s t h. h, tt)) (λ w n. tt)

  pub import_default : WholeIf strict (at shaped.an_import) d (module'.import_default d)
  import_default = whole_at strict (at shaped.an_import) shaped.an_import d shape.ImportDefaultSpecifier [] _ (λ t e. e) (λ n e. e) refl refl (λ w. refl) (λ s t h. h, tt) (λ w n. tt)

  pub import_namespace : WholeIf strict (at shaped.an_import) d (module'.import_namespace d)
  import_namespace = whole_at strict (at shaped.an_import) shaped.an_import d shape.ImportNamespaceSpecifier [] _ (λ t e. e) (λ n e. e) refl refl (λ w. refl) (λ s t h. h, tt) (λ w n. tt)

  pub export_default : WholeIf strict (at (shaped.a_statement in_module)) d (module'.export_default d)
  export_default = modular shape.ExportDefaultDeclaration _ _ refl refl refl (λ n e. e) (λ w. refl) (λ s t h. h, tt)

  pub export_all : WholeIf strict (at (shaped.a_statement in_module)) d (module'.export_all d)
  export_all = require_whole strict (at (shaped.a_statement in_module)) d _ _ (λ e. modular shape.ExportAllDeclaration (optional (codes "exported") shaped.a_module_name d ∷ child (codes "source") shaped.a_string ∷ []) _ refl refl refl (λ n e. e) (λ w. refl)
      (optional_fits shaped.a_module_name (is_given (codes "exported") d) (field (codes "exported")) (at shaped.a_module_name) (λ s t h. h), (λ s t h. h, tt)))

  pub export_specifier : (own : Bool) → WholeIf strict (an_exported own) d (module'.export_specifier (an_exported own) d)
  export_specifier true = whole_at strict (an_exported true) shaped.an_export d shape.ExportSpecifier [] _ (λ t e. e) (λ n e. e) refl refl (λ w. refl) (λ s t h. h, (λ s t h. h, tt)) (λ w n. local_seen strict (get (codes "local") d) w.1.0.0 w.1.0.1)
  export_specifier false = whole_at strict (an_exported false) shaped.an_export d shape.ExportSpecifier [] _ (λ t e. e) (λ n e. e) refl refl (λ w. refl) (λ s t h. h, (λ s t h. name_exported s t h, tt))
      (λ w n. no_reference strict w.1.0.0 (known_fits strict (at shaped.a_module_name) (get (codes "local") d) w.1.0.0 w.1.0.1))

  specifiers_fit : (own : Bool) (ds : Items) → AllFit (shaped.one shaped.an_export) (parts_from (module'.export_part own) (codes "specifiers") 0 ds)
  specifiers_fit own ds = all_fit (shaped.one shaped.an_export) (module'.export_part own) (codes "specifiers") 0 ds (λ last e q s t h. h)

  export_by : (declared sourced : Bool) (ds : Items) → (not declared || (no_item ds && not sourced)) ≡ true
      → WholeIf strict (at (shaped.a_statement in_module)) d (node_of shape.ExportNamedDeclaration (one (if declared then tree_at (field (codes "declaration")) (at shaped.an_exported_declaration) else hole) ∷ list (module'.export_part (not sourced)) (codes "specifiers") ds ∷ one (if sourced then tree_at (field (codes "source")) (at shaped.a_string) else hole) ∷ []))
  export_by true true ds e = absurd (false≢true (and_parts (no_item ds) false e).1)
  export_by true false (item f ds) e = absurd (false≢true e)
  export_by true false no_items e = modular shape.ExportNamedDeclaration _ _ refl refl refl (λ n e. e) (λ w. inner_one _ (or_right _ _ refl))
      (λ s t h. absent_or s shaped.an_exported_declaration t h, (tt, (λ s. absent_fits s shaped.a_string, tt)))
  export_by false true ds e = modular shape.ExportNamedDeclaration _ _ refl refl refl (λ n e. e)
      (λ w. ap (λ b. shaped.are_locals b (trees_of_parts strict d (parts_from (module'.export_part false) (codes "specifiers") 0 ds) w.1.0)) (not_absent strict shaped.a_string w.1.1.0.0 (known_fits strict (at shaped.a_string) (get (codes "source") d) w.1.1.0.0 w.1.1.0.1)) ∙ locals strict false d 0 ds w.1.0)
      (λ s. absent_fits s shaped.an_exported_declaration, (specifiers_fit false ds, (λ s t h. absent_or s shaped.a_string t h, tt)))
  export_by false false ds e = modular shape.ExportNamedDeclaration _ _ refl refl refl (λ n e. e) (λ w. locals strict true d 0 ds w.1.0)
      (λ s. absent_fits s shaped.an_exported_declaration, (specifiers_fit true ds, (λ s. absent_fits s shaped.a_string, tt)))

  pub export_named : WholeIf strict (at (shaped.a_statement in_module)) d (module'.export_named d)
  export_named = bind_whole strict (at (shaped.a_statement in_module)) d (list_at (codes "specifiers") d) _ (λ ds is. require_whole strict (at (shaped.a_statement in_module)) d (module'.has_attributes d && module'.is_whole_export d ds) _
      (λ e. export_by (is_given (codes "declaration") d) (is_given (codes "source") d) ds (and_parts (module'.has_attributes d) (module'.is_whole_export d ds) e).1))
