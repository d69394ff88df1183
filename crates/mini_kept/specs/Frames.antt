-- What of a program stands in no body: the frame of each node that has a number. A function's has
-- its kind, its directives, its name and its parameters, and a carried node's all but the bodies in
-- it; of a key it has the property that the key names, and of a shorthand that is assigned to what
-- it is short for. In both a node that has a number stands for all that is in it, since it has a
-- frame of its own. A program's has its imports and exports, and of a script the names that it
-- gives the global object.
use Rattle.std.specs.Prelude.{ℕ, zero, suc, Bool, true, false, not, List, [], ◌∷◌, ◌++◌, Contains, Option, Some, None, if◌then◌else◌}
use Rattle.std.specs.Fmt.{signed_decimal}
use Rattle.mini_model.specs.declared.kind.PropertyKind.{PropertyKind}
use Rattle.mini_model.specs.declared.kind.PropertyKind.TheVariants.{Init}
use Rattle.mini_model.specs.declared.name.Name.{Name}
use Rattle.mini_model.specs.declared.shape.Shape.{Shape}
use Rattle.mini_model.specs.declared.shape.Shape.TheVariants as shape
use Rattle.mini_model.specs.Tree.{Tree, Trees, node, none, ◌▸◌, absent, shape_of, children, child_or_absent}
use Rattle.mini_laws.specs.declared.names.Declared.TheVariants as declared
use Rattle.mini_kept.specs.SameNames.{is_among}
use Rattle.mini_laws.specs.DeclaredNames.{all_names, body_names}

-- what a node's frame shows of a child: all in it, the names that it declares, or nothing, since it
-- is a body
pub data Showing : Type 0 where
  Whole : Showing
  Named : Showing
  Hidden : Showing

abbrev pub showing : Shape → ℕ → Showing
showing (shape.Function is_declared is_generator directives) (suc (suc i)) = Hidden
showing (shape.ArrowFunctionExpression directives) (suc i) = Hidden
showing shape.StaticBlock i = Hidden
showing shape.InnerExpression i = Hidden
showing shape.ExportNamedDeclaration zero = Named
showing shape.ExportDefaultDeclaration i = Named
showing h i = Whole

-- a key without brackets as the property that it names, in quotes: a name, a text and a number that
-- give the same property key are one (ECMA-262, "Runtime Semantics: Evaluation" of
-- LiteralPropertyName). A private name is another
abbrev pub property_key : Tree → Tree
property_key (node (shape.IdentifierName s) xs n ts) = node (shape.StringLiteral s) xs n ts
property_key (node (shape.NumericLiteral k) xs n ts) = node (shape.StringLiteral (signed_decimal k)) xs n ts
property_key t = t

-- what has a key as its first child: a property of a pattern or of what is assigned to (a shorthand
-- too), a method or a field. One in brackets is an inner expression
abbrev pub has_key : Shape → Bool
has_key (shape.BindingProperty is_shorthand is_computed) = true
has_key (shape.AssignmentTargetPropertyProperty is_computed) = true
has_key shape.AssignmentTargetPropertyIdentifier = true
has_key (shape.MethodDefinition k is_computed is_static) = true
has_key (shape.PropertyDefinition is_computed is_static) = true
has_key h = false

-- what has a key, without brackets; and what is assigned to written in full, `x: x` for `x`
abbrev pub unbracketed : Shape → Shape
unbracketed (shape.BindingProperty is_shorthand is_computed) = shape.BindingProperty is_shorthand false
unbracketed (shape.AssignmentTargetPropertyProperty is_computed) = shape.AssignmentTargetPropertyProperty false
unbracketed shape.AssignmentTargetPropertyIdentifier = shape.AssignmentTargetPropertyProperty false
unbracketed (shape.MethodDefinition k is_computed is_static) = shape.MethodDefinition k false is_static
unbracketed (shape.PropertyDefinition is_computed is_static) = shape.PropertyDefinition false is_static
unbracketed h = h

abbrev pub first_as_key : Trees → Trees
first_as_key none = none
first_as_key (t ▸ ts) = property_key t ▸ ts

abbrev pub keyed : Shape → Trees → Trees
keyed h ts = if has_key h then first_as_key ts else ts

-- a property that is assigned to as it is in full: `x` stands for `x: x`, and `x = d` for
-- `x: x = d` (ECMA-262, "Runtime Semantics: PropertyDestructuringAssignmentEvaluation")
abbrev pub in_full : Shape → Shape
in_full shape.AssignmentTargetPropertyIdentifier = shape.AssignmentTargetPropertyProperty false
in_full h = h

-- a tree down to the nodes that have a number
abbrev mutual
  pub part : Tree → Tree
  part (node h xs zero ts) = node (in_full h) xs 0 (keyed h (parts ts))
  part (node h xs (suc n) ts) = node h xs (suc n) none

  pub parts : Trees → Trees
  parts none = none
  parts (t ▸ ts) = part t ▸ parts ts

-- what is exported by its declaration: its kind, the names that it declares, and its number, if it
-- has one. An expression that is exported is the program's body's (ECMA-262, "Exports")
abbrev pub is_declaration : Shape → Bool
is_declaration (shape.VariableDeclaration k) = true
is_declaration (shape.Function is_declared is_generator directives) = is_declared
is_declaration (shape.Class is_declared) = is_declared
is_declaration h = false

abbrev pub declaration : Tree → Tree
declaration (node h xs n ts) = if is_declaration h then node h (body_names (node h xs n ts)) n none else absent

abbrev pub shown : Showing → Tree → Tree
shown Whole t = part t
shown Named t = declaration t
shown Hidden t = absent

abbrev pub shown_from : (ℕ → Showing) → ℕ → Trees → Trees
shown_from σ i none = none
shown_from σ i (t ▸ ts) = shown (σ i) t ▸ shown_from σ (suc i) ts

-- a node with what its frame shows of its children
abbrev pub own : Tree → Tree
own (node h xs n ts) = node h xs n (shown_from (showing h) 0 ts)

-- of the statements of a program its imports and exports, and of a script the functions that it
-- declares (ECMA-262, "Imports", "Exports" and "GlobalDeclarationInstantiation")
abbrev pub is_port : Bool → Shape → Bool
is_port is_module shape.ImportDeclaration = true
is_port is_module shape.ExportNamedDeclaration = true
is_port is_module shape.ExportDefaultDeclaration = true
is_port is_module shape.ExportAllDeclaration = true
is_port is_module (shape.Function is_declared is_generator directives) = not is_module
is_port is_module h = false

abbrev pub ports : Bool → Trees → Trees
ports is_module none = none
ports is_module (t ▸ ts) = if is_port is_module (shape_of t) then own t ▸ ports is_module ts else ports is_module ts

-- what a frame holds of its node: of a program these
abbrev pub outline : Shape → List Name → ℕ → Trees → Tree
outline (shape.Program is_module directives) xs n ts = node (shape.Program is_module directives) [] n (ports is_module (children (child_or_absent ts 0)))
outline h xs n ts = own (node h xs n ts)

-- and of a script the names that `var` declares in it
abbrev pub globals : Shape → Trees → List Name
globals (shape.Program is_module directives) ts = if is_module then [] else all_names declared.Hoisted ts
globals h ts = []

pub record Frame : Type 0 where
  pub number : ℕ
  -- of the function of a method (Init), a getter or a setter in an object literal: which
  pub property : Option PropertyKind
  pub outline : Tree
  -- the names that it gives the global object, in any order
  pub globals : Name → Bool

-- ECMA-262, "MethodDefinition": an object literal has no number, so the frame of the function tells
-- it
abbrev pub property_below : Shape → ℕ → Option PropertyKind
property_below (shape.ObjectProperty Init false is_shorthand is_computed) i = None
property_below (shape.ObjectProperty k is_method is_shorthand is_computed) (suc i) = Some k
property_below h i = None

-- the frame of a node that has a number; a program's is 0
abbrev pub frame_of : Option PropertyKind → Shape → ℕ → Tree → List Name → List Frame
frame_of k (shape.Program is_module directives) n o xs = record { number = n; property = k; outline = o; globals = is_among xs } ∷ []
frame_of k h zero o xs = []
frame_of k h (suc n) o xs = record { number = suc n; property = k; outline = o; globals = is_among xs } ∷ []

-- all frames in a tree, in preorder
abbrev mutual
  pub frames : Option PropertyKind → Tree → List Frame
  frames k (node h xs n ts) = frame_of k h n (outline h xs n ts) (globals h ts) ++ frames_from (property_below h) 0 ts

  pub frames_from : (ℕ → Option PropertyKind) → ℕ → Trees → List Frame
  frames_from kind i none = []
  frames_from kind i (t ▸ ts) = frames (kind i) t ++ frames_from kind (suc i) ts

abbrev pub frames_in : Tree → List Frame
frames_in t = frames None t

-- each later frame is one of the earlier
abbrev pub FramesKept : List Frame → List Frame → Type 0
FramesKept fs gs = (f : Frame) → Contains gs f → Contains fs f
