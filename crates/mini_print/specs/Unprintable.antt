-- The nodes that have no text, and what keeps them from it: a name that is a reserved word, a text
-- that can't be written as it is, or parts that stand together in no text.
use Rattle.std.specs.Prelude.{ℕ, ◌+◌, ◌≡◌, refl, Bool, true, false, ◌&&◌, ◌||◌, not, List, [], ◌∷◌, ◌++◌, map, codes, Option, Some, None, if◌then◌else◌}
use Rattle.mini_model.specs.declared.name.Name.{Name}
use Rattle.mini_model.specs.declared.kind.MethodDefinitionKind.{MethodDefinitionKind}
use Rattle.mini_model.specs.declared.kind.MethodDefinitionKind.TheVariants as method
use Rattle.mini_model.specs.declared.kind.PropertyKind.{PropertyKind}
use Rattle.mini_model.specs.declared.kind.PropertyKind.TheVariants as property
use Rattle.mini_model.specs.declared.operator.AssignmentOperator.TheVariants.{Assign}
use Rattle.mini_model.specs.declared.shape.Shape.{Shape}
use Rattle.mini_model.specs.declared.shape.Shape.TheVariants as shape
use Rattle.mini_model.specs.Tree.{Tree, Trees, node, none, ◌▸◌, leaf, listed, identifier, unresolved, expression_statement}
use Rattle.mini_model.specs.Paths.{Path, child_at, standing, by_standing, width}
use Rattle.mini_print.specs.Grammar.{is_reserved}
pub use Rattle.mini_print.specs.Text.{is_pattern, are_letters, has_no_line_end, starts_with, is_raw, holds_bare, ends_escaped}

pub data Cause : Type 0 where
  -- an identifier that reads, writes, binds or labels is named by a reserved word
  Reserved : Cause
  -- a regular expression, a directive or a piece of a template that can't be written; an import whose
  -- default isn't first or whose namespace has another name beside it; an accessor that is a
  -- generator; or an object that is assigned to and whose rest is a pattern
  BadText : Cause

-- ---- texts that are written as they are

-- a directive stands in double quotes or in single ones, so it holds one of them at most
abbrev pub is_directive : List ℕ → Bool
is_directive s = has_no_line_end s && (not (ends_escaped false s) && not (holds_bare 34 false s && holds_bare 39 false s))

abbrev pub are_directives : List (List ℕ) → Bool
are_directives [] = true
are_directives (s ∷ ss) = is_directive s && are_directives ss

abbrev pub is_raw_piece : Tree → Bool
is_raw_piece (node (shape.TemplateElement b s c) xs n us) = is_raw false s
is_raw_piece _ = true

abbrev pub are_raw : Trees → Bool
are_raw none = true
are_raw (t ▸ ts) = is_raw_piece t && are_raw ts

-- the items of a list field
abbrev pub items_of : Tree → Trees
items_of (node shape.Listed xs n us) = us
items_of _ = none

abbrev pub first_list : Trees → Trees
first_list none = none
first_list (t ▸ ts) = items_of t

-- what an import brings (16.2.2): a default, and behind it either a namespace or names
abbrev pub is_default : Tree → Bool
is_default (node shape.ImportDefaultSpecifier xs n us) = true
is_default _ = false

abbrev pub is_namespace : Tree → Bool
is_namespace (node shape.ImportNamespaceSpecifier xs n us) = true
is_namespace _ = false

abbrev pub are_names : Trees → Bool
are_names none = true
are_names (t ▸ ts) = (not (is_default t) && not (is_namespace t)) && are_names ts

abbrev pub is_namespace_alone : Trees → Bool
is_namespace_alone none = false
is_namespace_alone (t ▸ none) = is_namespace t
is_namespace_alone (t ▸ (u ▸ ts)) = false

-- behind a default
abbrev pub is_rest : Trees → Bool
is_rest ts = is_namespace_alone ts || are_names ts

abbrev pub are_specifiers : Trees → Bool
are_specifiers none = true
are_specifiers (t ▸ ts) = if is_default t then is_rest ts else is_rest (t ▸ ts)

-- the function of an accessor is no generator (13.2.5, 15.4)
abbrev pub is_accessor : PropertyKind → Bool
is_accessor property.Get = true
is_accessor property.Set = true
is_accessor _ = false

abbrev pub is_class_accessor : MethodDefinitionKind → Bool
is_class_accessor method.Get = true
is_class_accessor method.Set = true
is_class_accessor _ = false

abbrev pub generates : Tree → Bool
generates (node (shape.Function d g ds) xs n us) = g
generates _ = false

abbrev pub is_generator : Option Tree → Bool
is_generator None = false
is_generator (Some t) = generates t

-- what takes the other properties of an object is no pattern, where it is assigned to (13.15.5)
abbrev pub is_pattern_target : Tree → Bool
is_pattern_target (node shape.ObjectAssignmentTarget xs n us) = true
is_pattern_target (node shape.ArrayAssignmentTarget xs n us) = true
is_pattern_target _ = false

abbrev pub is_pattern_in : Option Tree → Bool
is_pattern_in None = false
is_pattern_in (Some t) = is_pattern_target t

abbrev pub is_pattern_rest : Tree → Bool
is_pattern_rest (node shape.RestElement xs n us) = is_pattern_in (child_at us 0)
is_pattern_rest _ = false

abbrev pub are_plain_rests : Trees → Bool
are_plain_rests none = true
are_plain_rests (t ▸ ts) = not (is_pattern_rest t) && are_plain_rests ts

-- ---- a node's own cause

abbrev pub has_text : Shape → Trees → Bool
has_text (shape.RegExpLiteral p f) ts = is_pattern p && are_letters f
has_text (shape.Program b ds) ts = are_directives ds
has_text (shape.Function d g ds) ts = are_directives ds
has_text (shape.ArrowFunctionExpression ds) ts = are_directives ds
has_text shape.TemplateLiteral ts = are_raw (first_list ts)
has_text shape.ImportDeclaration ts = are_specifiers (first_list ts)
has_text (shape.ObjectProperty k m s c) ts = not (is_accessor k && is_generator (child_at ts 1))
has_text (shape.MethodDefinition k c s) ts = not (is_class_accessor k && is_generator (child_at ts 1))
has_text shape.ObjectAssignmentTarget ts = are_plain_rests (first_list ts)
has_text _ ts = true

-- a name, which is a label or not
abbrev pub is_reserved_name : Bool → Shape → List Name → Bool
is_reserved_name l shape.Identifier (x ∷ []) = is_reserved x.spelling
is_reserved_name l shape.BindingIdentifier (x ∷ []) = is_reserved x.spelling
is_reserved_name true (shape.IdentifierName s) xs = is_reserved s
is_reserved_name l _ xs = false

abbrev pub has_label : Shape → Bool
has_label shape.LabeledStatement = true
has_label shape.BreakStatement = true
has_label shape.ContinueStatement = true
has_label _ = false

abbrev pub cause_of : Bool → Shape → List Name → Trees → Option Cause
cause_of l h xs ts = if is_reserved_name l h xs then Some Reserved else (if has_text h ts then None else Some BadText)

-- ---- all causes of a tree, in preorder, with the paths of their nodes

pub record Fault : Type 0 where
  pub at : Path
  pub cause : Cause

abbrev pub faults_by : Option Cause → List Fault
faults_by None = []
faults_by (Some c) = record { at = []; cause = c } ∷ []

abbrev pub below : ℕ → Fault → Fault
below i f = record { at = i ∷ f.at; cause = f.cause }

abbrev mutual
  -- of a tree whose first node is the child of this index, which may be a label
  pub faults_inside : Bool → Tree → ℕ → List Fault
  faults_inside l (node h xs n ts) i = by_standing (standing h) (map (below i) (faults_by (cause_of l h xs ts) ++ faults_among (has_label h) ts 0)) (faults_among false ts i) []

  pub faults_among : Bool → Trees → ℕ → List Fault
  faults_among l none i = []
  faults_among l (t ▸ ts) i = faults_inside l t i ++ faults_among l ts (i + width t)

-- of a node of ESTree, which may be a label, and of what stands below it
abbrev pub faults_at : Bool → Tree → List Fault
faults_at l (node h xs n ts) = faults_by (cause_of l h xs ts) ++ faults_among (has_label h) ts 0

abbrev pub faults_of : Tree → List Fault
faults_of = faults_at false

abbrev pub head : List Fault → Option Fault
head [] = None
head (f ∷ fs) = Some f

-- the first node, in preorder, that has no text, if there is one
abbrev pub first_fault : Tree → Option Fault
first_fault t = head (faults_of t)

-- ---- examples

-- a program of this directive and one statement
program_of : List (List ℕ) → Tree → Tree
program_of ds t = node (shape.Program false ds) [] 0 (listed (t ▸ none) ▸ none)

-- an identifier named `if`, in a call behind one that isn't
of_a_name : first_fault (program_of [] (expression_statement (node (shape.CallExpression false) [] 0 (identifier (unresolved (codes "a")) ▸ listed (identifier (unresolved (codes "if")) ▸ none) ▸ none)))) ≡ Some (record { at = 0 ∷ 0 ∷ 1 ∷ []; cause = Reserved })
unfolding program_of
of_a_name = refl

-- a label, but no property of that name
of_a_label : first_fault (program_of [] (node shape.LabeledStatement [] 0 (leaf (shape.IdentifierName (codes "do")) ▸ leaf shape.EmptyStatement ▸ none))) ≡ Some (record { at = 0 ∷ 0 ∷ []; cause = Reserved })
unfolding program_of
of_a_label = refl

of_a_property : first_fault (program_of [] (expression_statement (node (shape.StaticMemberExpression false) [] 0 (identifier (unresolved (codes "a")) ▸ leaf (shape.IdentifierName (codes "if")) ▸ none)))) ≡ None
unfolding program_of
of_a_property = refl

-- an empty pattern, and a pattern that ends in a class
of_an_empty_pattern : first_fault (program_of [] (expression_statement (leaf (shape.RegExpLiteral [] (codes "g"))))) ≡ Some (record { at = 0 ∷ 0 ∷ []; cause = BadText })
unfolding program_of
of_an_empty_pattern = refl

of_a_class : first_fault (program_of [] (expression_statement (leaf (shape.RegExpLiteral (codes "[a") (codes "g"))))) ≡ Some (record { at = 0 ∷ 0 ∷ []; cause = BadText })
unfolding program_of
of_a_class = refl

-- a directive with both quotes is the program's own fault, and one behind a backslash is none
of_directives : (first_fault (program_of (codes "a\"b'c" ∷ []) (leaf shape.EmptyStatement)) ≡ Some (record { at = []; cause = BadText })) × (first_fault (program_of (codes "a\"b\\'c" ∷ []) (leaf shape.EmptyStatement)) ≡ None)
unfolding program_of
of_directives = (refl, refl)

-- a template with a bare `${`
of_a_template : first_fault (program_of [] (expression_statement (node shape.TemplateLiteral [] 0 (listed (leaf (shape.TemplateElement true (codes "a${") None) ▸ none) ▸ listed none ▸ none)))) ≡ Some (record { at = 0 ∷ 0 ∷ []; cause = BadText })
unfolding program_of
of_a_template = refl

-- a default behind a name, and a namespace beside one
name_of : List ℕ → Name
name_of s = unresolved s

imported : Trees → Tree
imported ts = program_of [] (node shape.ImportDeclaration [] 0 (listed ts ▸ leaf (shape.StringLiteral (codes "m")) ▸ none))

bound : List ℕ → Tree
bound s = node shape.BindingIdentifier (name_of s ∷ []) 0 none

default_of : List ℕ → Tree
default_of s = node shape.ImportDefaultSpecifier [] 0 (bound s ▸ none)

all_of : List ℕ → Tree
all_of s = node shape.ImportNamespaceSpecifier [] 0 (bound s ▸ none)

one_of : List ℕ → Tree
one_of s = node shape.ImportSpecifier [] 0 (leaf (shape.IdentifierName s) ▸ bound s ▸ none)

of_imports : (first_fault (imported (one_of (codes "a") ▸ default_of (codes "b") ▸ none)) ≡ Some (record { at = 0 ∷ []; cause = BadText })) × (first_fault (imported (all_of (codes "a") ▸ one_of (codes "b") ▸ none)) ≡ Some (record { at = 0 ∷ []; cause = BadText })) × (first_fault (imported (default_of (codes "a") ▸ all_of (codes "b") ▸ none)) ≡ None) × (first_fault (imported (default_of (codes "a") ▸ one_of (codes "b") ▸ one_of (codes "c") ▸ none)) ≡ None)
unfolding program_of name_of imported bound default_of all_of one_of
of_imports = (refl, refl, refl, refl)

-- an accessor that is a generator, and one that isn't; and a pattern as the rest of an object
function_of : Bool → Tree
function_of g = node (shape.Function false g []) [] 1 (leaf shape.Absent ▸ listed none ▸ node shape.FunctionBody [] 0 (listed none ▸ none) ▸ none)

accessor_of : Bool → Tree
accessor_of g = program_of [] (expression_statement (node shape.ObjectExpression [] 0 (listed (node (shape.ObjectProperty property.Get false false false) [] 0 (leaf (shape.IdentifierName (codes "a")) ▸ function_of g ▸ none) ▸ none) ▸ none)))

class_accessor_of : Bool → Tree
class_accessor_of g = node (shape.MethodDefinition method.Get false false) [] 0 (leaf (shape.IdentifierName (codes "a")) ▸ function_of g ▸ none)

of_accessors : (first_fault (accessor_of true) ≡ Some (record { at = 0 ∷ 0 ∷ 0 ∷ []; cause = BadText })) × (first_fault (accessor_of false) ≡ None) × (first_fault (class_accessor_of true) ≡ Some (record { at = []; cause = BadText })) × (first_fault (class_accessor_of false) ≡ None)
unfolding program_of function_of accessor_of class_accessor_of
of_accessors = (refl, refl, refl, refl)

rest_of : Tree → Tree
rest_of t = program_of [] (expression_statement (node (shape.AssignmentExpression Assign) [] 0 (node shape.ObjectAssignmentTarget [] 1 (listed (node shape.RestElement [] 0 (t ▸ none) ▸ none) ▸ none) ▸ identifier (name_of (codes "b")) ▸ none)))

of_rests : (first_fault (rest_of (node shape.ArrayAssignmentTarget [] 2 (listed none ▸ none))) ≡ Some (record { at = 0 ∷ 0 ∷ 0 ∷ []; cause = BadText })) × (first_fault (rest_of (identifier (name_of (codes "a")))) ≡ None)
unfolding program_of name_of rest_of
of_rests = (refl, refl)
