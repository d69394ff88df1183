use Rattle.std.proofs.Common.{◌∙◌, ap, sym}
use Rattle.mini_unused.specs.RemoveUnusedDeclaration.{is_lexical_shape}
use Rattle.mini_past.proofs.Firsts.{unbound_here, no_list_here, here_by}
use Rattle.mini_past.proofs.lets.lets_here.Goals as goal

pub returns-then-not-binds : goal.returns-then-not-binds
returns-then-not-binds c = unbound_here c.args.symbol.0 c.args.statement.now (sym c.if-not-binds.ensures)

pub returns-then-not-declares_list : goal.returns-then-not-declares_list
returns-then-not-declares_list c = no_list_here c.args.symbol.0 c.args.statement.now (sym c.if-not-binds.ensures) (sym c.if-not-declares_list.ensures.kind)

pub returns : goal.returns
returns c =
    here_by c.args.symbol.0 c.args.statement.now c.child.result.now c.is_lexical.result c.children-declarators.result.now c.len-end.result c.all_let.result (sym c.if-not-binds.ensures) (sym c.if-not-declares_list.ensures.kind) (c.is_lexical.ensures ∙ ap is_lexical_shape c.shape.ensures) c.child.ensures.value
    c.children-declarators.ensures c.len-end.ensures c.all_let.ensures
