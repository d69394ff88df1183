use Rattle.std.proofs.Common.{◌≡◌, sym, subst}
use Rattle.std.proofs.lemmas.Result.{IfOk-weaker}
use Rattle.mini_log.specs.RowStep.{first_lighter, node_forms}
use Rattle.mini_checker.specs.Forms.{marked}
use Rattle.mini_recorded.proofs.row_steps.made_at.Goals as goal

pub returns-in-Row1 : goal.returns-in-Row1
returns-in-Row1 c =
    IfOk-weaker c.row_1.result _ _
    (λ w h. subst (λ r. w ≡ first_lighter c.args.place c.args.node.now (node_forms (marked c.args.scopes.now.writable) r c.args.place c.args.node.now)) (sym c.in-Row1.is) (h (marked c.args.scopes.now.writable)))
    c.row_1.ensures

pub returns-in-Row3 : goal.returns-in-Row3
returns-in-Row3 c =
    IfOk-weaker c.row_3.result _ _
    (λ w h. subst (λ r. w ≡ first_lighter c.args.place c.args.node.now (node_forms (marked c.args.scopes.now.writable) r c.args.place c.args.node.now)) (sym c.in-Row3.is) (h (marked c.args.scopes.now.writable)))
    c.row_3.ensures

pub returns-in-Row7 : goal.returns-in-Row7
returns-in-Row7 c =
    IfOk-weaker c.row_7.result _ _
    (λ w h. subst (λ r. w ≡ first_lighter c.args.place c.args.node.now (node_forms (marked c.args.scopes.now.writable) r c.args.place c.args.node.now)) (sym c.in-Row7.is) (h (marked c.args.scopes.now.writable)))
    c.row_7.ensures

pub returns-in-Row12 : goal.returns-in-Row12
returns-in-Row12 c =
    IfOk-weaker c.row_12.result _ _
    (λ w h. subst (λ r. w ≡ first_lighter c.args.place c.args.node.now (node_forms (marked c.args.scopes.now.writable) r c.args.place c.args.node.now)) (sym c.in-Row12.is) (h (marked c.args.scopes.now.writable)))
    c.row_12.ensures

pub returns-in-Row13 : goal.returns-in-Row13
returns-in-Row13 c =
    IfOk-weaker c.row_13.result _ _
    (λ w h. subst (λ r. w ≡ first_lighter c.args.place c.args.node.now (node_forms (marked c.args.scopes.now.writable) r c.args.place c.args.node.now)) (sym c.in-Row13.is) (h (marked c.args.scopes.now.writable)))
    c.row_13.ensures

pub returns-in-Row15 : goal.returns-in-Row15
returns-in-Row15 c =
    IfOk-weaker c.row_15.result _ _
    (λ w h. subst (λ r. w ≡ first_lighter c.args.place c.args.node.now (node_forms (marked c.args.scopes.now.writable) r c.args.place c.args.node.now)) (sym c.in-Row15.is) (h (marked c.args.scopes.now.writable)))
    c.row_15.ensures

pub returns-in-Row19 : goal.returns-in-Row19
returns-in-Row19 c =
    IfOk-weaker c.row_19.result _ _
    (λ w h. subst (λ r. w ≡ first_lighter c.args.place c.args.node.now (node_forms (marked c.args.scopes.now.writable) r c.args.place c.args.node.now)) (sym c.in-Row19.is) (h (marked c.args.scopes.now.writable)))
    c.row_19.ensures

pub returns-in-Row23 : goal.returns-in-Row23
returns-in-Row23 c =
    IfOk-weaker c.row_23.result _ _
    (λ w h. subst (λ r. w ≡ first_lighter c.args.place c.args.node.now (node_forms (marked c.args.scopes.now.writable) r c.args.place c.args.node.now)) (sym c.in-Row23.is) (h (marked c.args.scopes.now.writable)))
    c.row_23.ensures

pub returns-in-Row33 : goal.returns-in-Row33
returns-in-Row33 c =
    IfOk-weaker c.row_33.result _ _
    (λ w h. subst (λ r. w ≡ first_lighter c.args.place c.args.node.now (node_forms (marked c.args.scopes.now.writable) r c.args.place c.args.node.now)) (sym c.in-Row33.is) (h (marked c.args.scopes.now.writable)))
    c.row_33.ensures

pub returns-in-Row39 : goal.returns-in-Row39
returns-in-Row39 c =
    IfOk-weaker c.row_39.result _ _
    (λ w h. subst (λ r. w ≡ first_lighter c.args.place c.args.node.now (node_forms (marked c.args.scopes.now.writable) r c.args.place c.args.node.now)) (sym c.in-Row39.is) (h (marked c.args.scopes.now.writable)))
    c.row_39.ensures

pub returns-in-Row40 : goal.returns-in-Row40
returns-in-Row40 c =
    IfOk-weaker c.row_40.result _ _
    (λ w h. subst (λ r. w ≡ first_lighter c.args.place c.args.node.now (node_forms (marked c.args.scopes.now.writable) r c.args.place c.args.node.now)) (sym c.in-Row40.is) (h (marked c.args.scopes.now.writable)))
    c.row_40.ensures

pub returns-in-Row41 : goal.returns-in-Row41
returns-in-Row41 c =
    IfOk-weaker c.row_41.result _ _
    (λ w h. subst (λ r. w ≡ first_lighter c.args.place c.args.node.now (node_forms (marked c.args.scopes.now.writable) r c.args.place c.args.node.now)) (sym c.in-Row41.is) (h (marked c.args.scopes.now.writable)))
    c.row_41.ensures

pub returns-in-Row42 : goal.returns-in-Row42
returns-in-Row42 c =
    IfOk-weaker c.row_42.result _ _
    (λ w h. subst (λ r. w ≡ first_lighter c.args.place c.args.node.now (node_forms (marked c.args.scopes.now.writable) r c.args.place c.args.node.now)) (sym c.in-Row42.is) (h (marked c.args.scopes.now.writable)))
    c.row_42.ensures

pub returns-in-Row49 : goal.returns-in-Row49
returns-in-Row49 c =
    IfOk-weaker c.row_49.result _ _
    (λ w h. subst (λ r. w ≡ first_lighter c.args.place c.args.node.now (node_forms (marked c.args.scopes.now.writable) r c.args.place c.args.node.now)) (sym c.in-Row49.is) (h (marked c.args.scopes.now.writable)))
    c.row_49.ensures

pub returns-in-Row54 : goal.returns-in-Row54
returns-in-Row54 c =
    IfOk-weaker c.row_54.result _ _
    (λ w h. subst (λ r. w ≡ first_lighter c.args.place c.args.node.now (node_forms (marked c.args.scopes.now.writable) r c.args.place c.args.node.now)) (sym c.in-Row54.is) (h (marked c.args.scopes.now.writable)))
    c.row_54.ensures

pub returns-in-Row55 : goal.returns-in-Row55
returns-in-Row55 c =
    IfOk-weaker c.row_55.result _ _
    (λ w h. subst (λ r. w ≡ first_lighter c.args.place c.args.node.now (node_forms (marked c.args.scopes.now.writable) r c.args.place c.args.node.now)) (sym c.in-Row55.is) (h (marked c.args.scopes.now.writable)))
    c.row_55.ensures

pub returns-in-Row58 : goal.returns-in-Row58
returns-in-Row58 c =
    IfOk-weaker c.row_58.result _ _
    (λ w h. subst (λ r. w ≡ first_lighter c.args.place c.args.node.now (node_forms (marked c.args.scopes.now.writable) r c.args.place c.args.node.now)) (sym c.in-Row58.is) (h (marked c.args.scopes.now.writable)))
    c.row_58.ensures

pub returns-in-Row60 : goal.returns-in-Row60
returns-in-Row60 c =
    IfOk-weaker c.row_60.result _ _
    (λ w h. subst (λ r. w ≡ first_lighter c.args.place c.args.node.now (node_forms (marked c.args.scopes.now.writable) r c.args.place c.args.node.now)) (sym c.in-Row60.is) (h (marked c.args.scopes.now.writable)))
    c.row_60.ensures

pub returns-in-Row65 : goal.returns-in-Row65
returns-in-Row65 c =
    IfOk-weaker c.row_65.result _ _
    (λ w h. subst (λ r. w ≡ first_lighter c.args.place c.args.node.now (node_forms (marked c.args.scopes.now.writable) r c.args.place c.args.node.now)) (sym c.in-Row65.is) (h (marked c.args.scopes.now.writable)))
    c.row_65.ensures

pub returns-in-Row82 : goal.returns-in-Row82
returns-in-Row82 c =
    IfOk-weaker c.row_82.result _ _
    (λ w h. subst (λ r. w ≡ first_lighter c.args.place c.args.node.now (node_forms (marked c.args.scopes.now.writable) r c.args.place c.args.node.now)) (sym c.in-Row82.is) (h (marked c.args.scopes.now.writable)))
    c.row_82.ensures
