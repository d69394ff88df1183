-- Which bodies ask the world for `this`.
use Rattle.std.specs.Prelude.{ℕ, suc, ◌≡◌, nat_eq, Bool, true, false, not, ◌&&◌, ◌||◌, List, Option, Some, None}
use Rattle.std.specs.List.{list_any}
use Rattle.mini_model.specs.declared.shape.Shape.{Shape}
use Rattle.mini_model.specs.declared.shape.Shape.TheVariants as shape
use Rattle.mini_model.specs.declared.kind.MethodDefinitionKind.TheVariants.{Constructor}
use Rattle.mini_model.specs.declared.operator.UnaryOperator.TheVariants.{LogicalNot}
use Rattle.mini_model.specs.Tree.{Tree, Trees}
use Rattle.mini_laws.specs.Bodies.{Around, Body}
use Rattle.mini_laws.specs.Naming.{facts, nth_absent, summary}
use Rattle.mini_context.specs.declared.asking.Absence.{Absence}
use Rattle.mini_context.specs.declared.asking.Absence.TheVariants as absence
use Rattle.mini_context.specs.declared.asking.Asking.{Asking}
use Rattle.mini_context.specs.Tables.{mark_at}

-- a body with this number does
abbrev pub asks_as : ℕ → Body → Bool
asks_as n b = nat_eq b.number n && b.asks_this

-- the part of what nodes around say of the bodies below that this rests on
pub record Like (asking : Asking) (a : Around) : Type 0 where
  pub asks : a.asks_this ≡ asking.asks
  pub extends : a.extends ≡ asking.extends
  pub constructs : a.constructs ≡ asking.constructs

-- what is around the child at an index
abbrev pub asking_by : Shape → Asking → Trees → ℕ → Asking
asking_by (shape.Function d g ds) k ts i = record { asks = k.constructs; extends = k.extends; constructs = false }
asking_by shape.StaticBlock k ts i = record { asks = false; extends = k.extends; constructs = false }
asking_by (shape.PropertyDefinition computed is_static) k ts (suc i) = record { asks = false; extends = k.extends; constructs = false }
asking_by (shape.Class d) k ts i = record { asks = k.asks; extends = not (nth_absent (facts ts) 1); constructs = false }
asking_by (shape.MethodDefinition Constructor computed is_static) k ts (suc i) = record { asks = k.asks; extends = k.extends; constructs = k.extends }
asking_by h k ts i = record { asks = k.asks; extends = k.extends; constructs = false }

-- where a parent reads whether a node of a shape is absent
abbrev pub absence_of : Shape → Absence
absence_of shape.Absent = absence.Here
absence_of (shape.UnaryExpression LogicalNot) = absence.OfFirst false
absence_of shape.SwitchCase = absence.OfFirst true
absence_of h = absence.Nowhere

abbrev pub read_of : Option Tree → Bool → Bool
read_of (Some t) missing = (summary t).facts.absent
read_of None missing = missing

-- whether the body of a node of a shape does
abbrev pub own_asks : Shape → Bool → Bool → Bool
own_asks (shape.Function d g ds) asks constructs = constructs
own_asks (shape.ArrowFunctionExpression ds) asks constructs = asks
own_asks shape.InnerExpression asks constructs = asks
own_asks h asks constructs = false

-- the numbers of those of these bodies were marked that do
abbrev pub PutAsking : List Body → List Bool → List Bool → Type 0
PutAsking bs old new = (b : ℕ) → mark_at new b ≡ (mark_at old b || list_any (asks_as b) bs)
