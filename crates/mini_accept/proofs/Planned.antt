-- What a plan says: it is never of a node that is too deep, and each node below stands where it may.
use Rattle.std.proofs.Common.{◌≡◌, refl, subst, ◌∙◌, Bool, true, false}
use Rattle.std.specs.Prelude.{Option, Some, None, Result, Ok, Err}
use Rattle.serde_json.specs.Data.{Data}
use Rattle.mini_accept.specs.WellShaped.{is_strict_in}
use Rattle.mini_accept.specs.Faults.{Defect, bad_shape, unsupported, too_deep}
use Rattle.mini_accept.specs.Kind.{Kind}
use Rattle.mini_accept.specs.Places.{Place}
use Rattle.mini_accept.specs.Fields.{kind_of}
use Rattle.mini_accept.specs.Standing.{may_stand, is_unread}
use Rattle.mini_accept.specs.Plans.{Plan}
use Rattle.mini_accept.specs.Entries.{entry}
use Rattle.mini_accept.specs.Accept.{are_placed, plan_if, placed_plan, plan_by, plan_unless, plan}
use Rattle.mini_accept.proofs.Results.{ok_same, err_same}

-- no plan, for want of depth
abbrev NotDeep : Result Plan Defect → Type 0
NotDeep o = (x : Defect) → o ≡ Err x → x ≡ too_deep → ⊥

of_shape : NotDeep (Err bad_shape)
of_shape x e h = cc (err_same {A = Plan} bad_shape x e ∙ h)

of_form : NotDeep (Err unsupported)
of_form x e h = cc (err_same {A = Plan} unsupported x e ∙ h)

if_not_deep : (b : Bool) (y : Plan) → NotDeep (plan_if b y)
if_not_deep true y x e h = cc e
if_not_deep false y x e h = of_shape x e h

placed_not_deep : (strict : Bool) (d : Data) (o : Option Plan) → NotDeep (placed_plan strict d o)
placed_not_deep strict d None x e h = of_shape x e h
placed_not_deep strict d (Some y) x e h = if_not_deep (are_placed (is_strict_in strict y.shape) d y.children) y x e h

by_not_deep : (strict : Bool) (p : Place) (d : Data) (o : Option Kind) → NotDeep (plan_by strict p d o)
by_not_deep strict p d None x e h = of_shape x e h
by_not_deep strict p d (Some k) x e h = placed_not_deep strict d (entry k p d) x e h

unless_not_deep : (a b : Bool) (o : Result Plan Defect) → NotDeep o → NotDeep (plan_unless a b o)
unless_not_deep true b o n x e h = of_form x e h
unless_not_deep false true o n x e h = n x e h
unless_not_deep false false o n x e h = of_shape x e h

pub plan_not_deep : (strict : Bool) (p : Place) (d : Data) → NotDeep (plan strict p d)
plan_not_deep strict p d = unless_not_deep (is_unread strict p d) (may_stand p d) (plan_by strict p d (kind_of d)) (by_not_deep strict p d (kind_of d))

-- the nodes below a plan's node stand where they may
abbrev Placed : Bool → Data → Result Plan Defect → Type 0
Placed strict d o = (x : Plan) → o ≡ Ok x → are_placed (is_strict_in strict x.shape) d x.children ≡ true

if_placed : (b : Bool) (y x : Plan) → plan_if b y ≡ Ok x → (b ≡ true) × (y ≡ x)
if_placed true y x e = (refl, ok_same {E = Defect} y x e)
if_placed false y x e = absurd (cc e)

placed_placed : (strict : Bool) (d : Data) (o : Option Plan) → Placed strict d (placed_plan strict d o)
placed_placed strict d None x e = absurd (cc e)
placed_placed strict d (Some y) x e =
    let (is, same) = if_placed (are_placed (is_strict_in strict y.shape) d y.children) y x e in
    subst (λ z. are_placed (is_strict_in strict z.shape) d z.children ≡ true) same is

by_placed : (strict : Bool) (p : Place) (d : Data) (o : Option Kind) → Placed strict d (plan_by strict p d o)
by_placed strict p d None x e = absurd (cc e)
by_placed strict p d (Some k) x e = placed_placed strict d (entry k p d) x e

unless_placed : (strict : Bool) (d : Data) (a b : Bool) (o : Result Plan Defect) → Placed strict d o → Placed strict d (plan_unless a b o)
unless_placed strict d true b o h x e = absurd (cc e)
unless_placed strict d false true o h x e = h x e
unless_placed strict d false false o h x e = absurd (cc e)

pub plan_placed : (strict : Bool) (p : Place) (d : Data) → Placed strict d (plan strict p d)
plan_placed strict p d = unless_placed strict d (is_unread strict p d) (may_stand p d) (plan_by strict p d (kind_of d)) (by_placed strict p d (kind_of d))
