use Rattle.std.proofs.Common.{◌∙◌, refl, sym}
use Rattle.std.specs.Prelude.{◌&&◌, nat_eq}
use Rattle.mini_model.specs.Tree.{children, shape_of}
use Rattle.mini_node.specs.Children.{is_bare, with_child}
use Rattle.mini_log.specs.ListRows.{is_for_shape}
use Rattle.mini_log.specs.Walk.{spot}
use Rattle.mini_recorded.proofs.DeclarationForms.{held_made, not_held}
use Rattle.mini_recorded.proofs.declarations.bare_head.Goals as goal

pub returns-then-not-has_head : goal.returns-then-not-has_head
returns-then-not-has_head c =
    not_held c.args.node.now (nat_eq (spot (children c.args.node.now) c.args.index) 0 && (is_for_shape (shape_of c.args.node.now) && is_bare c.args.node.now 4)) (sym c.has_head.ensures.kind ∙ c.if-not-has_head.true)

pub returns : goal.returns
returns c =
    held_made c.args.node.now c.child_mut.result.now c.bare_let.new.node c.children_mut.result.now (with_child c.children_mut.result.now 0 c.bare_let.new.node) c.bare_let.result
    (nat_eq (spot (children c.args.node.now) c.args.index) 0 && (is_for_shape (shape_of c.args.node.now) && is_bare c.args.node.now 4)) (sym c.has_head.ensures.kind ∙ c.if-not-has_head.false) c.children_mut.ensures.value c.child_mut.ensures.value refl c.bare_let.ensures
