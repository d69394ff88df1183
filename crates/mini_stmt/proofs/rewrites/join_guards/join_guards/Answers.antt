use Rattle.std.proofs.Common.{◌∙◌, sym, subst}
use Rattle.std.specs.Prelude.{IfOk}
use Rattle.mini_stmt.specs.MinimizeStatements.{switches_of}
use Rattle.mini_stmt.specs.JoinGuards.{Settled}
use Rattle.mini_stmt.proofs.Parts.{not_true, not_false}
use Rattle.mini_stmt.proofs.Guards.{node_settled, no_list, no_sequences}
use Rattle.mini_stmt.proofs.rewrites.join_guards.join_guards.Goals.{then-not-options-via-then-not-options, then-not-options-via-else-not-options+then-not-is_listed}
use Rattle.mini_stmt.proofs.rewrites.join_guards.join_guards.Goals as goal

pub returns-then-not-options : goal.returns-then-not-options
returns-then-not-options c =
    let o = switches_of c.args.options in
    let t = c.args.node.now in
    elim c.then-not-options.branch [
      | then-not-options-via-then-not-options w ↦ no_sequences o t (not_true c.args.options.sequences w.if-not-options.true)
      | then-not-options-via-else-not-options+then-not-is_listed w ↦ no_list o t (sym w.is_listed.ensures ∙ w.if-not-is_listed.true)
    ]

pub returns : goal.returns
returns c =
    let t = c.args.node.now in
    node_settled (switches_of c.args.options) t c.settle.new.list c.settle.result (not_false c.args.options.sequences c.if-not-options.false) (sym c.if-not-is_listed.ensures)
    (subst (λ ts. IfOk c.settle.result (λ b. Settled ts c.settle.new.list b)) c.children_mut.ensures.value c.settle.ensures)
