use Rattle.std.proofs.Common.{◌∙◌, refl, sym}
use Rattle.std.specs.Prelude.{◌&&◌}
use Rattle.mini_model.specs.Tree.{shape_of}
use Rattle.mini_node.specs.Children.{is_bare, with_child}
use Rattle.mini_log.specs.ListRows.{is_export_shape}
use Rattle.mini_recorded.proofs.DeclarationForms.{held_made, not_held}
use Rattle.mini_recorded.proofs.declarations.bare_export.Goals as goal

pub returns-then-not-is_export : goal.returns-then-not-is_export
returns-then-not-is_export c = not_held c.args.node.now (is_export_shape (shape_of c.args.node.now) && is_bare c.args.node.now 3) (sym c.is_export.ensures.kind ∙ c.if-not-is_export.true)

pub returns : goal.returns
returns c =
    held_made c.args.node.now c.child_mut.result.now c.bare_let.new.node c.children_mut.result.now (with_child c.children_mut.result.now 0 c.bare_let.new.node) c.bare_let.result (is_export_shape (shape_of c.args.node.now) && is_bare c.args.node.now 3)
    (sym c.is_export.ensures.kind ∙ c.if-not-is_export.false) c.children_mut.ensures.value c.child_mut.ensures.value refl c.bare_let.ensures
