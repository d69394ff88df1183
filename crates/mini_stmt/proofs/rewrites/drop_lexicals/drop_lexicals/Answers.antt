use Rattle.std.proofs.Common.{sym, subst}
use Rattle.std.specs.Prelude.{IfOk}
use Rattle.mini_stmt.specs.DropUnreached.{LeftBehind}
use Rattle.mini_stmt.specs.declared.rewrites.drop_unreached.Going.TheVariants.{Lexicals}
use Rattle.mini_stmt.proofs.LexicalDrops.{node_drops, no_drops}
use Rattle.mini_stmt.proofs.rewrites.drop_lexicals.drop_lexicals.Goals as goal

pub returns-then-not-is_listed : goal.returns-then-not-is_listed
returns-then-not-is_listed c = no_drops c.args.node.now (sym c.if-not-is_listed.ensures)

pub returns : goal.returns
returns c =
    node_drops c.args.node.now c.drop_behind.new.list c.drop_behind.result (sym c.if-not-is_listed.ensures)
    (subst (λ ts. IfOk c.drop_behind.result (LeftBehind Lexicals ts c.drop_behind.new.list)) c.children_mut.ensures.value c.drop_behind.ensures)
