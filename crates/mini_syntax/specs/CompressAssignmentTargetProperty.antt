-- 53, `compress_assignment_target_property`: a property that is assigned to whose key is the name
-- assigned to, with a default or without, becomes the shorthand.
use Rattle.std.specs.Prelude.{ℕ, Bool, true, false, ◌&&◌, List, [], ◌∷◌, Option, Some, if◌then◌else◌}
use Rattle.mini_model.specs.declared.name.Name.{Name}
use Rattle.mini_model.specs.declared.shape.Shape.{Shape}
use Rattle.mini_model.specs.declared.shape.Shape.TheVariants as shape
use Rattle.mini_model.specs.Tree.{Tree, node, none, ◌▸◌, shape_of}
use Rattle.mini_model.specs.Weight.{same_text}
use Rattle.mini_node.specs.Children.{part, is_bare, names_of}
use Rattle.mini_node.specs.Kinds.{is_identifier}
use Rattle.mini_syntax.specs.SubstituteObjectProperty.{key_name}

abbrev pub is_target_shape : Shape → Bool
is_target_shape (shape.AssignmentTargetPropertyProperty false) = true
is_target_shape _ = false

-- `k: v` of what is assigned to
abbrev pub is_target : Tree → Bool
is_target t = is_target_shape (shape_of t) && is_bare t 2

abbrev pub is_defaulted_shape : Shape → Bool
is_defaulted_shape shape.AssignmentPattern = true
is_defaulted_shape _ = false

-- `v = d`
abbrev pub is_defaulted : Tree → Bool
is_defaulted v = is_defaulted_shape (shape_of v) && is_bare v 2

-- a key is spelled as a name
abbrev pub spells : Option (List ℕ) → List Name → Bool
spells (Some s) (x ∷ []) = same_text s x.spelling
spells _ _ = false

abbrev pub is_key_of : Tree → Tree → Bool
is_key_of k v = is_identifier v && spells (key_name k) (names_of v)

-- the name without its default
abbrev pub repeats_key : Tree → Tree → Bool
repeats_key k v = if is_defaulted v then is_key_of k (part v 0) else is_key_of k v

-- `x: x` and `x: x = d`
abbrev pub is_doubled : Tree → Bool
is_doubled t = is_target t && repeats_key (part t 0) (part t 1)

abbrev pub shorthand : Tree → Tree
shorthand t = node shape.AssignmentTargetPropertyIdentifier [] 0 (part t 0 ▸ part t 1 ▸ none)

abbrev pub compressed : Tree → Tree
compressed t = if is_doubled t then shorthand t else t
