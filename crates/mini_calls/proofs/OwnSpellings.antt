-- What the calls of spellings write is what their own rows say, and where they write nothing none of these reads the expression.
use Rattle.std.proofs.Common.{◌≡◌, false, Option, Some, None, refl, sym, ap, subst, ◌∙◌, inl, inr, true≢false}
use Rattle.std.specs.Fmt.{signed_decimal}
use Rattle.mini_model.specs.declared.shape.Shape.TheVariants as shape
use Rattle.mini_model.specs.Tree.{Tree, node}
use Rattle.mini_rows.specs.Spellings.{text, assignment, computed_member, Row19, Row36, Row33, Row54, Row55Value, Row60Yield, Row65}
use Rattle.mini_syntax.specs.ConvertToDottedProperties as dotted
use Rattle.mini_syntax.specs.SubstituteBoolean as substituted
use Rattle.mini_syntax.specs.SubstituteLooseEqualsUndefined as loose
use Rattle.mini_syntax.specs.SubstituteSwapBinaryExpressions as swap
use Rattle.mini_syntax.specs.SubstituteTemplateLiteral as templates
use Rattle.mini_syntax.specs.SubstituteTypeofUndefined as typeof
use Rattle.mini_syntax.specs.SubstituteTypeofValue as by_value
use Rattle.mini_syntax.specs.MinimizeAssignmentToUpdateExpression as stepping
use Rattle.mini_syntax.specs.SubstituteYieldExpression as yielding
use Rattle.mini_syntax.proofs.FormsAre.{undefined_passes}
use Rattle.mini_syntax.proofs.Spelled.{boolean_follows, turned_follows, turned_misses, assigned_follows, updated_follows, loose_row, unwritten_sides, swap_row, swap_misses, value_row, value_unwritten, typeof_row, typeof_misses, value_misses, yield_row, template_row, template_misses, step_row, step_misses}
use Rattle.mini_calls.proofs.OwnOperators.{nothing}
use Rattle.mini_calls.specs.OwnRows.{Own, DottedRow, LooseRow, UndefinedRow}

pub boolean_own : Own substituted.written Row65
boolean_own = record { written = boolean_follows; unwritten = λ n e w r. nothing (sym (sym (ap substituted.written r.shape) ∙ e)) }

-- ---- 33

dotted_said : (n w : Tree) → dotted.written n ≡ Some w → DottedRow n w
dotted_said (node (shape.ComputedMemberExpression o) xs n ts) w e = inl (turned_follows (node (shape.ComputedMemberExpression o) xs n ts) w e)
dotted_said (node (shape.AssignmentExpression o) xs n ts) w e = inr (inl (assigned_follows (node (shape.AssignmentExpression o) xs n ts) w e))
dotted_said (node (shape.UpdateExpression o l) xs n ts) w e = inr (inr (updated_follows (node (shape.UpdateExpression o l) xs n ts) w e))
dotted_said (node h xs n ts) w e = nothing e

member_rest : (n w : Tree) → Row33 n w → dotted.written n ≡ None → ⊥
member_rest n w (inl r) e = turned_misses (computed_member r.is_optional r.object (text r.name)) w (subst (λ x. Row33 x w) r.shape (inl r)) (sym (ap dotted.written r.shape) ∙ e)
member_rest n w (inr r) e = turned_misses (computed_member false r.object (text (signed_decimal r.number))) w (subst (λ x. Row33 x w) r.shape (inr r)) (sym (ap dotted.written r.shape) ∙ e)

dotted_rest : (n w : Tree) → DottedRow n w → dotted.written n ≡ None → ⊥
dotted_rest n w (inl r) e = member_rest n w r e
dotted_rest n w (inr (inl r)) e = go (dotted.turned r.target) refl (sym (ap dotted.written r.shape) ∙ e)
  where
    go : (m : Option Tree) → dotted.turned r.target ≡ m → dotted.assigned_by (Some r.operator) (dotted.turned r.target) (assignment r.operator r.target r.value) ≡ None → ⊥
    go None h f = turned_misses r.target r.turned r.member h
    go (Some m) h f = nothing (sym (sym (ap (λ x. dotted.assigned_by (Some r.operator) x (assignment r.operator r.target r.value)) h) ∙ f))
dotted_rest n w (inr (inr r)) e = go (dotted.turned r.target) refl (sym (ap dotted.written r.shape) ∙ e)
  where
    go : (m : Option Tree) → dotted.turned r.target ≡ m → dotted.updated_by (Some (r.operator, r.is_prefix)) (dotted.turned r.target) ≡ None → ⊥
    go None h f = turned_misses r.target r.turned r.member h
    go (Some m) h f = nothing (sym (sym (ap (dotted.updated_by (Some (r.operator, r.is_prefix))) h) ∙ f))

pub dotted_own : Own dotted.written DottedRow
dotted_own = record { written = dotted_said; unwritten = λ n e w r. dotted_rest n w r e }

-- ---- 58 and 54

loose_rest : (n w : Tree) → LooseRow n w → loose.written n ≡ None → ⊥
loose_rest n w (inl r) e = true≢false (sym (undefined_passes r.left r.undefined) ∙ (unwritten_sides r.operator r.left r.right r.loose (sym (ap loose.written r.shape) ∙ e)).0)
loose_rest n w (inr r) e = true≢false (sym (undefined_passes r.right r.undefined) ∙ (unwritten_sides r.operator r.left r.right r.loose (sym (ap loose.written r.shape) ∙ e)).1)

pub loose_own : Own loose.written LooseRow
loose_own = record { written = loose_row; unwritten = λ n e w r. loose_rest n w r e }

pub swap_own : Own swap.written Row54
swap_own = record { written = swap_row; unwritten = λ n e w r. swap_misses n w r e }

-- ---- 55

pub value_own : Own by_value.written Row55Value
value_own = record { written = value_row; unwritten = λ n e w r. value_unwritten n w r e }

undefined_rest : (n w : Tree) → UndefinedRow n w → typeof.written n ≡ None → ⊥
undefined_rest n w (inl r) e = typeof_misses n w r e
undefined_rest n w (inr r) e = value_misses n w r e

pub undefined_own : Own typeof.written UndefinedRow
undefined_own = record { written = typeof_row; unwritten = λ n e w r. undefined_rest n w r e }

-- ---- 60 and 19

pub step_own : Own stepping.written Row36
step_own = record { written = step_row; unwritten = λ n e w r. step_misses n w r e }

pub yield_own : Own yielding.written Row60Yield
yield_own = record { written = yield_row; unwritten = λ n e w r. nothing (sym (sym (ap yielding.written r.shape) ∙ e)) }

pub template_own : Own templates.written Row19
template_own = record { written = template_row; unwritten = λ n e w r. template_misses r.is_tail r.raw r.content r.shorter (sym (ap templates.written r.shape) ∙ e) }
