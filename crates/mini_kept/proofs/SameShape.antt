-- A tree fits whatever symbols its names have, so a program stays one when it is resolved.
use Rattle.std.specs.Prelude.{ℕ, zero, suc, ◌≡◌, refl, Bool, true, false, ◌&&◌, ◌||◌, not, nat_eq, nat_le, List, [], ◌∷◌, length, map, Option, Some, if◌then◌else◌}
use Rattle.std.proofs.Common.{ap, ◌∙◌, sym}
use Rattle.mini_model.specs.declared.kind.MethodDefinitionKind.{MethodDefinitionKind}
use Rattle.mini_model.specs.declared.kind.MethodDefinitionKind.TheVariants as method
use Rattle.mini_model.specs.declared.kind.PropertyKind.{PropertyKind}
use Rattle.mini_model.specs.declared.kind.VariableDeclarationKind.{VariableDeclarationKind}
use Rattle.mini_model.specs.declared.name.Name.{Name}
use Rattle.mini_model.specs.declared.operator.UnaryOperator.TheVariants.{UnaryNegation}
use Rattle.mini_model.specs.declared.shape.Shape.{Shape}
use Rattle.mini_model.specs.declared.shape.Shape.TheVariants as shape
use Rattle.mini_model.specs.Tree.{Tree, Trees, node, none, ◌▸◌, count, children, child_or_absent, shape_of, is_absent}
use Rattle.mini_laws.specs.Resolved.{resolved_program}
use Rattle.mini_laws.specs.Symbols.{with_new, no_symbol, bare_names, bare, all_bare}
use Rattle.mini_accept.specs.WellShaped.{Tagging, untagged, tagged, Class, a_program, a_loop_left, a_method, Slot, one, Filling, refused, these, each, each_or_last, pieces, filling, class_of, is_function_body, is_reference, first_item, is_initialized, is_var, is_head_by, spelling_of_names, spelling_by, spelling, is_same_spelling, without_default, repeats_key, holds_its_name, names_constructor, has_its_kind, is_init, has_optional, has_optional_by, is_not_positive_number, is_same_flag, has_its_number, has_names, has_plain_fields, are_locals, is_whole_export, is_whole_property, has_its_parts, is_whole, is_strict_in, is_quasi, are_quasis, is_last, fits, fill, IsWellShaped}
use Rattle.mini_kept.proofs.Texts.{read_resolved}

-- ---- what a node asks of its children

child_bare : (ts : Trees) (i : ℕ) → child_or_absent (all_bare ts) i ≡ bare (child_or_absent ts i)
unfolding bare
child_bare none i = refl
child_bare (t ▸ ts) zero = refl
child_bare (t ▸ ts) (suc i) = child_bare ts i

children_bare : (t : Tree) → children (bare t) ≡ all_bare (children t)
unfolding bare
children_bare (node h xs n ts) = refl

shape_bare : (t : Tree) → shape_of (bare t) ≡ shape_of t
unfolding bare
shape_bare (node h xs n ts) = refl

absent_bare : (t : Tree) → is_absent (bare t) ≡ is_absent t
unfolding bare
absent_bare (node h xs n ts) = refl

count_bare : (ts : Trees) → count (all_bare ts) ≡ count ts
unfolding bare
count_bare none = refl
count_bare (t ▸ ts) = ap suc (count_bare ts)

-- the child at a place: whether it is absent, its children, how many it has
absent_child : (ts : Trees) (i : ℕ) → is_absent (child_or_absent (all_bare ts) i) ≡ is_absent (child_or_absent ts i)
absent_child ts i = ap is_absent (child_bare ts i) ∙ absent_bare (child_or_absent ts i)

below_child : (ts : Trees) (i : ℕ) → children (child_or_absent (all_bare ts) i) ≡ all_bare (children (child_or_absent ts i))
below_child ts i = ap children (child_bare ts i) ∙ children_bare (child_or_absent ts i)

count_child : (ts : Trees) (i : ℕ) → count (children (child_or_absent (all_bare ts) i)) ≡ count (children (child_or_absent ts i))
count_child ts i = ap count (below_child ts i) ∙ count_bare (children (child_or_absent ts i))

at_child : {A : Type 0} (g : Tree → A) → ((t : Tree) → g (bare t) ≡ g t) → (ts : Trees) (i : ℕ) → g (child_or_absent (all_bare ts) i) ≡ g (child_or_absent ts i)
at_child g blind ts i = ap g (child_bare ts i) ∙ blind (child_or_absent ts i)

initialized_bare : (t : Tree) → is_initialized (bare t) ≡ is_initialized t
initialized_bare t = ap (λ us. not (is_absent (child_or_absent us 1))) (children_bare t) ∙ ap not (absent_child (children t) 1)

head_bare : (enumerates : Bool) (k : VariableDeclarationKind) (ts : Trees) → is_head_by enumerates k (all_bare ts) ≡ is_head_by enumerates k ts
unfolding bare
head_bare enumerates k none = refl
head_bare enumerates k (d ▸ none) = ap (λ b. not b || (enumerates && is_var k)) (initialized_bare d)
head_bare enumerates k (d ▸ (t ▸ ts)) = refl

spelled_bare : (xs : List Name) → spelling_of_names (map (with_new no_symbol) xs) ≡ spelling_of_names xs
spelled_bare [] = refl
spelled_bare (x ∷ xs) = refl

spelling_by_bare : (h : Shape) (xs : List Name) → spelling_by h (bare_names h xs) ≡ spelling_by h xs
spelling_by_bare shape.Identifier xs = ap Some (spelled_bare xs)
spelling_by_bare shape.BindingIdentifier xs = ap Some (spelled_bare xs)
spelling_by_bare h xs = refl

spelling_bare : (t : Tree) → spelling (bare t) ≡ spelling t
unfolding bare
spelling_bare (node h xs n ts) = spelling_by_bare h xs

default_bare : (t : Tree) → without_default (bare t) ≡ bare (without_default t)
unfolding bare
default_bare (node shape.AssignmentPattern xs n ts) = child_bare ts 0
default_bare (node h xs n ts) = refl

value_bare : (t : Tree) → spelling (without_default (bare t)) ≡ spelling (without_default t)
value_bare t = ap spelling (default_bare t) ∙ spelling_bare (without_default t)

repeats_bare : (ts : Trees) → repeats_key (all_bare ts) ≡ repeats_key ts
repeats_bare ts = λ k. is_same_spelling (at_child spelling spelling_bare ts 0 k) (at_child (λ t. spelling (without_default t)) value_bare ts 1 k)

holds_bare : (declaration : Bool) (ts : Trees) → holds_its_name declaration (all_bare ts) ≡ holds_its_name declaration ts
holds_bare declaration ts =
    λ k. if declaration && not (absent_child ts 0 k) then is_same_spelling (at_child spelling spelling_bare ts 0 k) (at_child spelling spelling_bare ts 3 k) else absent_child ts 3 k

constructor_bare : (t : Tree) → names_constructor (bare t) ≡ names_constructor t
unfolding bare
constructor_bare (node (shape.IdentifierName s) xs n ts) = refl
constructor_bare (node (shape.StringLiteral s) xs n ts) = refl
constructor_bare (node h xs n ts) = refl

mutual
  unfolding bare

  optional_bare : (t : Tree) → has_optional (bare t) ≡ has_optional t
  optional_bare (node h xs n ts) = optional_by_bare h ts

  optional_by_bare : (h : Shape) (ts : Trees) → has_optional_by h (all_bare ts) ≡ has_optional_by h ts
  optional_by_bare (shape.CallExpression b) (t ▸ ts) = ap (λ c. b || c) (optional_bare t)
  optional_by_bare (shape.StaticMemberExpression b) (t ▸ ts) = ap (λ c. b || c) (optional_bare t)
  optional_by_bare (shape.ComputedMemberExpression b) (t ▸ ts) = ap (λ c. b || c) (optional_bare t)
  optional_by_bare (shape.PrivateFieldExpression b) (t ▸ ts) = ap (λ c. b || c) (optional_bare t)
  optional_by_bare shape.InnerExpression (t ▸ ts) = optional_bare t
  optional_by_bare h ts = refl

positive_bare : (t : Tree) → is_not_positive_number (bare t) ≡ is_not_positive_number t
unfolding bare
positive_bare (node (shape.NumericLiteral k) xs n ts) = refl
positive_bare (node h xs n ts) = refl

body_bare : (t : Tree) → is_function_body (bare t) ≡ is_function_body t
unfolding bare
body_bare (node h xs n ts) = refl

reference_bare : (t : Tree) → is_reference (bare t) ≡ is_reference t
unfolding bare
reference_bare (node h xs n ts) = refl

local_bare : (t : Tree) → is_reference (child_or_absent (children (bare t)) 1) ≡ is_reference (child_or_absent (children t) 1)
local_bare t = ap (λ us. is_reference (child_or_absent us 1)) (children_bare t) ∙ at_child is_reference reference_bare (children t) 1

locals_bare : (own : Bool) (ts : Trees) → are_locals own (all_bare ts) ≡ are_locals own ts
unfolding bare
locals_bare own none = refl
locals_bare own (t ▸ ts) = λ k. is_same_flag own (local_bare t k) && locals_bare own ts k

export_bare : (ts : Trees) → is_whole_export (all_bare ts) ≡ is_whole_export ts
export_bare ts =
    let locals : are_locals (is_absent (child_or_absent (all_bare ts) 2)) (children (child_or_absent (all_bare ts) 1)) ≡ are_locals (is_absent (child_or_absent ts 2)) (children (child_or_absent ts 1)) =
    ap (are_locals (is_absent (child_or_absent (all_bare ts) 2))) (below_child ts 1) ∙ (locals_bare (is_absent (child_or_absent (all_bare ts) 2)) (children (child_or_absent ts 1)) ∙ ap (λ b. are_locals b (children (child_or_absent ts 1))) (absent_child ts 2)) in
    λ k. (absent_child ts 0 k || (nat_eq (count_child ts 1 k) 0 && absent_child ts 2 k)) && locals k

property_bare : (p : PropertyKind) (is_method shorthand computed : Bool) (ts : Trees) → is_whole_property p is_method shorthand computed (all_bare ts) ≡ is_whole_property p is_method shorthand computed ts
property_bare p is_method shorthand computed ts =
    ap (λ b. (is_init p || not (is_method || shorthand)) && (not (is_method && shorthand) && (not shorthand || (not computed && b)))) (repeats_bare ts)

kind_bare : (k : MethodDefinitionKind) (computed is_static : Bool) (t : Tree) → has_its_kind k computed is_static (bare t) ≡ has_its_kind k computed is_static t
kind_bare method.Constructor computed is_static t = ap (λ b. not is_static && (not computed && b)) (constructor_bare t)
kind_bare method.Method computed is_static t = ap (λ b. not (not is_static && (not computed && b))) (constructor_bare t)
kind_bare k computed is_static t = refl

-- of a node that is no method and no head of a loop, at whichever place
plain_parts : (h : Shape) (ts : Trees) → has_its_parts a_program h (all_bare ts) ≡ has_its_parts a_program h ts
plain_parts (shape.VariableDeclaration k) ts = ap (nat_le 1) (count_child ts 0)
plain_parts shape.TryStatement ts = λ k. not (absent_child ts 1 k && absent_child ts 2 k)
plain_parts (shape.ArrowFunctionExpression ds) ts = ap (λ b. nat_eq (length ds) 0 || b) (at_child is_function_body body_bare ts 1)
plain_parts (shape.Class declaration) ts = holds_bare declaration ts
plain_parts (shape.MethodDefinition k computed is_static) ts = at_child (has_its_kind k computed is_static) (kind_bare k computed is_static) ts 0
plain_parts (shape.ObjectProperty k is_method shorthand computed) ts = property_bare k is_method shorthand computed ts
plain_parts (shape.BindingProperty shorthand computed) ts = ap (λ b. not shorthand || (not computed && b)) (repeats_bare ts)
plain_parts shape.AssignmentTargetPropertyIdentifier ts = repeats_bare ts
plain_parts shape.SequenceExpression ts = ap (nat_le 2) (count_child ts 0)
plain_parts (shape.UnaryExpression UnaryNegation) ts = at_child is_not_positive_number positive_bare ts 0
plain_parts shape.ChainExpression ts = at_child has_optional optional_bare ts 0
plain_parts shape.TemplateLiteral ts = λ k. nat_eq (count_child ts 0 k) (suc (count_child ts 1 k))
plain_parts shape.ExportNamedDeclaration ts = export_bare ts
plain_parts h ts = refl

loop_parts : (enumerates : Bool) (h : Shape) (ts : Trees) → has_its_parts (a_loop_left enumerates) h (all_bare ts) ≡ has_its_parts (a_loop_left enumerates) h ts
loop_parts enumerates (shape.VariableDeclaration k) ts = ap (is_head_by enumerates k) (below_child ts 0) ∙ head_bare enumerates k (children (first_item ts))
loop_parts enumerates h ts = plain_parts h ts

method_parts : (h : Shape) (ts : Trees) → has_its_parts a_method h (all_bare ts) ≡ has_its_parts a_method h ts
method_parts (shape.Function d g ds) ts = absent_child ts 0
method_parts h ts = plain_parts h ts

parts_bare : (c : Class) (h : Shape) (ts : Trees) → has_its_parts c h (all_bare ts) ≡ has_its_parts c h ts
parts_bare (a_loop_left enumerates) h ts = loop_parts enumerates h ts
parts_bare a_method h ts = method_parts h ts
parts_bare c h ts = plain_parts h ts

names_bare : (h : Shape) (xs : List Name) → has_names h (bare_names h xs) ≡ has_names h xs
names_bare shape.Identifier [] = refl
names_bare shape.Identifier (x ∷ []) = refl
names_bare shape.Identifier (x ∷ (y ∷ xs)) = refl
names_bare shape.BindingIdentifier [] = refl
names_bare shape.BindingIdentifier (x ∷ []) = refl
names_bare shape.BindingIdentifier (x ∷ (y ∷ xs)) = refl
names_bare shape.VariableDeclarator xs = refl
names_bare h [] = refl
names_bare h (x ∷ xs) = refl

whole_bare : (c : Class) (h : Shape) (xs : List Name) (n : ℕ) (ts : Trees) → is_whole c h (bare_names h xs) n (all_bare ts) ≡ is_whole c h xs n ts
whole_bare c h xs n ts = λ k. names_bare h xs k && (has_its_number c h n && (has_plain_fields h && parts_bare c h ts k))

-- ---- trees

no_quasi : (g : Tagging) (last : Bool) (xs : List Name) (n : ℕ) (ts : Trees) → is_quasi g last (node shape.VariableDeclarator xs n ts) ≡ false
no_quasi untagged last [] n none = refl
no_quasi tagged last [] n none = refl
no_quasi g last [] n (t ▸ ts) = refl
no_quasi g last (x ∷ xs) n ts = refl

quasi_bare : (g : Tagging) (last : Bool) (t : Tree) → is_quasi g last (bare t) ≡ is_quasi g last t
unfolding bare
quasi_bare g last (node shape.VariableDeclarator xs n ts) = no_quasi g last [] n (all_bare ts) ∙ sym (no_quasi g last xs n ts)
quasi_bare g last (node h [] n none) = refl
quasi_bare g last (node h [] n (t ▸ ts)) = refl
quasi_bare g last (node h (x ∷ xs) n ts) = refl

quasis_bare : (g : Tagging) (ts : Trees) → are_quasis g (all_bare ts) ≡ are_quasis g ts
unfolding bare
quasis_bare g none = refl
quasis_bare g (t ▸ none) = quasi_bare g true t
quasis_bare g (t ▸ (u ▸ ts)) = λ k. quasi_bare g false t k && quasis_bare g (u ▸ ts) k

last_bare : (ts : Trees) → is_last (all_bare ts) ≡ is_last ts
unfolding bare
last_bare none = refl
last_bare (t ▸ ts) = refl

mutual
  unfolding bare

  pub fits_bare : (strict : Bool) (s : Slot) (t : Tree) → fits strict s (bare t) ≡ fits strict s t
  fits_bare strict s (node h xs n ts) = λ k. whole_bare (class_of s) h xs n ts k && fill_bare (is_strict_in strict h) (filling strict s h) ts k

  fill_bare : (strict : Bool) (g : Filling) (ts : Trees) → fill strict g (all_bare ts) ≡ fill strict g ts
  fill_bare strict refused ts = refl
  fill_bare strict (these []) none = refl
  fill_bare strict (these []) (t ▸ ts) = refl
  fill_bare strict (these (s ∷ ss)) none = refl
  fill_bare strict (these (s ∷ ss)) (t ▸ ts) = λ k. fits_bare strict s t k && fill_bare strict (these ss) ts k
  fill_bare strict (each s) none = refl
  fill_bare strict (each s) (t ▸ ts) = λ k. fits_bare strict s t k && fill_bare strict (each s) ts k
  fill_bare strict (each_or_last s l) none = refl
  fill_bare strict (each_or_last s l) (t ▸ ts) = λ k. (fits_bare strict s t k || (last_bare ts k && fits_bare strict l t k)) && fill_bare strict (each_or_last s l) ts k
  fill_bare strict (pieces g) none = refl
  fill_bare strict (pieces g) (t ▸ ts) = quasis_bare g (t ▸ ts)

pub fits_resolved : (strict : Bool) (s : Slot) (t : Tree) → fits strict s (resolved_program t) ≡ fits strict s t
fits_resolved strict s t = read_resolved (fits strict s) (fits_bare strict s) t

pub shaped_resolved : (t : Tree) → IsWellShaped t → IsWellShaped (resolved_program t)
shaped_resolved t e = fits_resolved false (one a_program) t ∙ e
