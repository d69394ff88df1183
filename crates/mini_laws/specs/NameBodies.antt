-- What `this` and `arguments` are in each body, and which names can be written.
use Rattle.std.specs.Prelude.{ℕ, suc, nat_eq, Bool, true, false, ◌&&◌, not, List, [], ◌∷◌, ◌++◌}
use Rattle.std.specs.List.{list_any}
use Rattle.mini_model.specs.declared.kind.MethodDefinitionKind.TheVariants.{Constructor}
use Rattle.mini_model.specs.declared.kind.VariableDeclarationKind.TheVariants.{Const}
use Rattle.mini_model.specs.declared.name.Name.{Name}
use Rattle.mini_model.specs.declared.shape.Shape.{Shape}
use Rattle.mini_model.specs.declared.shape.Shape.TheVariants as shape
use Rattle.mini_model.specs.Tree.{Tree, Trees, node, none, ◌▸◌, is_absent}
use Rattle.mini_laws.specs.declared.names.Declared.TheVariants as declared
use Rattle.mini_laws.specs.DeclaredNames.{all_names, first_names, bound_names}
use Rattle.mini_laws.specs.declared.names.Numbering.{Numbering}
use Rattle.mini_laws.specs.declared.names.Numbering.TheVariants as numbering
use Rattle.mini_laws.specs.Mentions.{numbering_of, is_among}

-- what holds of a place: whether the class right around it has a superclass; whether it is a
-- constructor of such a class; whether `this` is bound by `super()` there (ECMA-262,
-- "BindThisValue"); and whether the body around it has an `arguments` (ECMA-262,
-- "FunctionDeclarationInstantiation")
pub record Frame : Type 0 where
  pub extends : Bool
  pub constructs : Bool
  pub binds_this : Bool
  pub has_arguments : Bool

abbrev pub no_frame : Frame
no_frame = record { extends = false; constructs = false; binds_this = false; has_arguments = false }

abbrev pub has_superclass : Trees → Bool
has_superclass (id ▸ super_class ▸ ts) = not (is_absent super_class)
has_superclass ts = false

-- what holds in the body of a node, given what holds around the node
abbrev pub frame_of_body : Shape → Frame → Frame
frame_of_body (shape.Program is_module ds) f = no_frame
frame_of_body shape.StaticBlock f = no_frame
frame_of_body (shape.Function d g ds) f = record no_frame { binds_this = f.constructs; has_arguments = true }
frame_of_body (shape.ArrowFunctionExpression ds) f = record no_frame { binds_this = f.binds_this; has_arguments = f.has_arguments }
frame_of_body shape.InnerExpression f = record no_frame { binds_this = f.binds_this }
frame_of_body h f = f

-- what holds of the child at an index: a field's value is no part of what is around the class
abbrev pub frame_at : Shape → Frame → Trees → ℕ → Frame
frame_at (shape.Class d) f ts i = record f { extends = has_superclass ts }
frame_at (shape.MethodDefinition Constructor computed is_static) f ts (suc i) = record f { constructs = f.extends }
frame_at (shape.PropertyDefinition computed is_static) f ts (suc i) = no_frame
frame_at h f ts i = frame_of_body h f

-- a body with its number
pub record Body : Type 0 where
  pub number : ℕ
  pub frame : Frame

abbrev pub own_body : Numbering → ℕ → Frame → List Body
own_body numbering.Body n f = record { number = n; frame = f } ∷ []
own_body k n f = []

unfoldable mutual
  pub bodies : Frame → Tree → List Body
  bodies f (node h xs n ts) = own_body (numbering_of h n) n (frame_of_body h f) ++ bodies_from (frame_at h f ts) 0 ts

  pub bodies_from : (ℕ → Frame) → ℕ → Trees → List Body
  bodies_from frames i none = []
  bodies_from frames i (t ▸ ts) = bodies (frames i) t ++ bodies_from frames (suc i) ts

-- whether `this` in a body is the event of reading what `super()` binds: in the constructors of
-- classes with a superclass, arrows and inner expressions in them included
abbrev pub this_has_event : Tree → ℕ → Bool
this_has_event t b = list_any (λ r. nat_eq r.number b && r.frame.binds_this) (bodies no_frame t)

-- whether a body is that of a function that is neither an arrow nor a static block, or of an arrow
-- which stands in such a body by arrows alone
abbrev pub has_arguments : Tree → ℕ → Bool
has_arguments t b = list_any (λ r. nat_eq r.number b && r.frame.has_arguments) (bodies no_frame t)

-- ---- names that can't be written (ECMA-262, "CreateImmutableBinding"): those of `const`, imports, the own names of function
-- expressions, and the names that classes hold inside

abbrev pub own_fixed : Shape → Trees → List Name
own_fixed (shape.VariableDeclaration Const) ts = all_names declared.Bound ts
own_fixed shape.ImportDeclaration ts = all_names declared.Bound ts
own_fixed (shape.Function false g ds) ts = first_names ts
own_fixed (shape.Class false) ts = first_names ts
own_fixed (shape.Class true) (id ▸ super_class ▸ body ▸ again ▸ ts) = bound_names again
own_fixed h ts = []

unfoldable mutual
  pub fixed_names : Tree → List Name
  fixed_names (node h xs n ts) = own_fixed h ts ++ all_fixed_names ts

  pub all_fixed_names : Trees → List Name
  all_fixed_names none = []
  all_fixed_names (t ▸ ts) = fixed_names t ++ all_fixed_names ts

abbrev pub is_writable : Tree → Name → Bool
is_writable t x = not (is_among x (fixed_names t))
