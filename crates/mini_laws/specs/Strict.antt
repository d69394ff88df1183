-- Strict code (ECMA-262, "Strict Mode Code").
use Rattle.std.specs.Prelude.{ℕ, Bool, true, false, ◌||◌, List, [], ◌∷◌, codes}
use Rattle.mini_model.specs.declared.shape.Shape.{Shape}
use Rattle.mini_model.specs.declared.shape.Shape.TheVariants as shape
use Rattle.mini_model.specs.Weight.{same_text}

-- whether `use strict` is among some directives
abbrev pub has_use_strict : List (List ℕ) → Bool
has_use_strict [] = false
has_use_strict (s ∷ ss) = same_text s (codes "use strict") || has_use_strict ss

-- whether what stands in a node is strict code, given whether the node does: all of a module and of
-- a class is, and so is a program or a function with that directive
abbrev pub is_strict_in : Bool → Shape → Bool
is_strict_in strict (shape.Program is_module ds) = is_module || has_use_strict ds
is_strict_in strict (shape.Function d g ds) = strict || has_use_strict ds
is_strict_in strict (shape.ArrowFunctionExpression ds) = strict || has_use_strict ds
is_strict_in strict (shape.Class d) = true
is_strict_in strict _ = strict
