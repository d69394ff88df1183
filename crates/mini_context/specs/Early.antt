-- Reads of variables before their declarations have ended, in the order of evaluation.
use Rattle.std.specs.Prelude.{ℕ, suc, ◌≡◌, ◌<◌, not, ◌&&◌, ◌||◌, Bool, true, List, length}
use Rattle.std.specs.List.{list_any}
use Rattle.mini_model.specs.declared.shape.Shape.{Shape}
use Rattle.mini_model.specs.declared.shape.Shape.TheVariants as shape
use Rattle.mini_laws.specs.Mentions.{same_variable}
use Rattle.mini_laws.specs.Foreign.{Moment, is_read_early}
use Rattle.mini_context.specs.declared.early.Moments.{Moments}
use Rattle.mini_context.specs.declared.early.Order.{Order}
use Rattle.mini_context.specs.declared.early.Order.TheVariants as order
use Rattle.mini_context.specs.declared.parts.Part.{Part}
use Rattle.mini_context.specs.declared.parts.Part.TheVariants as part
use Rattle.mini_context.specs.Lists.{holds}
use Rattle.mini_context.specs.Tables.{mark_at, named}

-- in which order a node of a shape with so many children evaluates them, and where the declarations
-- that end with it end
abbrev pub order_of : Shape → ℕ → Order
order_of shape.ForInStatement (suc (suc n)) = order.RightFirst
order_of shape.ForOfStatement (suc (suc n)) = order.RightFirst
order_of shape.CatchClause (suc n) = order.ParamFirst
order_of h n = order.InOrder

-- whose declaration ends with a node of a shape
abbrev pub ended_part : Shape → Part
ended_part shape.VariableDeclarator = part.At 0
ended_part (shape.Function true g ds) = part.At 0
ended_part (shape.Class true) = part.At 0
ended_part shape.CatchClause = part.At 0
ended_part h = part.Nothing

-- whether the declaration of a symbol ends at one of these moments
abbrev pub is_ended_in : ℕ → List Moment → Bool
is_ended_in s ms = list_any (λ m. same_variable (named s) m.name && m.ends) ms

-- these moments passed
pub record Passed (ms : List Moment) (old new : Moments) : Type 0 where
  pub symbols : length new.ended.items ≡ length old.ended.items
  pub lists : length new.early.items ≡ length old.early.items
  pub ends : (s : ℕ) → s < length old.ended.items → mark_at new.ended.items s ≡ (mark_at old.ended.items s || is_ended_in s ms)
  pub reads : (s : ℕ) → s < length old.ended.items → s < length old.early.items → (b : ℕ) → holds new.early.items s b ≡ (holds old.early.items s b || (not (mark_at old.ended.items s) && is_read_early b (named s) ms))
