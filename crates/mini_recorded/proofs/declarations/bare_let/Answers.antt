use Rattle.std.proofs.Common.{◌∙◌, refl, sym}
use Rattle.mini_recorded.proofs.DeclarationForms.{let_made, no_let}
use Rattle.mini_recorded.proofs.declarations.bare_let.Goals as goal

pub returns-then-not-is_let : goal.returns-then-not-is_let
returns-then-not-is_let c = no_let c.args.node.now (sym c.is_let.ensures.kind ∙ c.if-not-is_let.true)

pub returns : goal.returns
returns c =
    let_made c.args.node.now c.child_mut-list.result.now c.children_mut.result.now c.children_mut-2.result.now c.bare_first.new.declarators _ c.bare_first.result (sym c.is_let.ensures.kind ∙ c.if-not-is_let.false) c.children_mut.ensures.value
    c.child_mut-list.ensures.value c.children_mut-2.ensures.value refl c.bare_first.ensures
