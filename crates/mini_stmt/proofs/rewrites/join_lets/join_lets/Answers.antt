use Rattle.std.proofs.Common.{◌∙◌, ap, sym, subst}
use Rattle.std.specs.Prelude.{IfOk}
use Rattle.mini_stmt.specs.JoinLets.{marked, are_joined, AllJoined}
use Rattle.mini_stmt.proofs.LetJoins.{node_joined, not_joined, no_list}
use Rattle.mini_stmt.proofs.rewrites.join_lets.join_lets.Goals.{then-not-is_listed-via-then-not-is_listed, then-not-is_listed-via-else-not-is_listed+then-are_joined}
use Rattle.mini_stmt.proofs.rewrites.join_lets.join_lets.Goals as goal

pub returns-then-not-is_listed : goal.returns-then-not-is_listed
returns-then-not-is_listed c =
    let W = marked c.args.scopes.now in
    let t = c.args.node.now in
    elim c.then-not-is_listed.branch [
      | then-not-is_listed-via-then-not-is_listed w ↦ no_list W t (sym w.if-not-is_listed.ensures)
      | then-not-is_listed-via-else-not-is_listed+then-are_joined w ↦ not_joined W t (sym w.if-not-is_listed.ensures) (sym (w.if-are_joined.ensures ∙ ap (are_joined W) w.children.ensures))
    ]

pub returns : goal.returns
returns c =
    let t = c.args.node.now in
    node_joined (marked c.args.scopes.now) t c.join_all.new.list c.join_all.result (sym c.if-not-is_listed.ensures)
    (subst (λ ts. IfOk c.join_all.result (λ b. AllJoined (marked c.args.scopes.now) ts c.join_all.new.list b)) c.children_mut.ensures.value c.join_all.ensures)
