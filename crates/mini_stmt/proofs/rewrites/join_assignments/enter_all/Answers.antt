use Rattle.std.proofs.Common.{◌∙◌, ap, sym, subst, arith}
use Rattle.mini_model.specs.Paths.{append}
use Rattle.mini_node.specs.Walks.{append_none}
use Rattle.mini_stmt.specs.MinimizeStatements.{switches_of, Changes, reversed}
use Rattle.mini_stmt.specs.JoinAssignments.{are_entered}
use Rattle.mini_stmt.proofs.Guards.{both_unchanged}
use Rattle.mini_stmt.proofs.Quiet.{reversed_push}
use Rattle.mini_stmt.proofs.Stepping.{changes_on}
use Rattle.mini_stmt.proofs.rewrites.join_assignments.enter_all.Goals as goal

pub statements-init : goal.statements-init
statements-init c =
    let empty = c.replace-whole.ensures.after ∙ c.new.ensures in
    let whole = c.in_ok-put_reversed.ensures.list ∙ ap (λ x. append c.replace-whole.result (reversed x)) c.new-rest.ensures ∙ append_none c.replace-whole.result ∙ c.replace-whole.ensures.value in
    record {
      changes = ap (λ x. append x (reversed c.put_reversed.new.rest)) empty ∙ whole;
      entered = λ e. ap (are_entered (switches_of c.args.options)) empty;
    }

pub statements-smaller : goal.statements-smaller
statements-smaller c =
    let small = c.in_ok-entered.ensures.smaller in
    let popped = c.in-Some.ensures.nodes in
    omega (arith, small, popped)

pub statements-preserved : goal.statements-preserved
statements-preserved c =
    let o = switches_of c.args.options in
    let rest = ap reversed c.in-Some.ensures.value ∙ reversed_push c.pop.new.self c.in-Some.statement in
    record {
      changes =
          changes_on o c.args.list.now (append c.statements.list (reversed c.statements.rest)) (append c.put_entered.new.before (reversed c.put_entered.new.rest)) c.statements.changed c.in_ok-entered.entered c.statements.invariant.changes
          (subst (λ x. Changes o (append c.statements.list x) (append c.put_entered.new.before (reversed c.put_entered.new.rest)) c.in_ok-entered.entered) (sym rest) c.in_ok-entered.ensures.changes);
      entered = λ e. let both = both_unchanged c.statements.changed c.in_ok-entered.entered e in c.in_ok-entered.ensures.entered both.1 (c.statements.invariant.entered both.0);
    }

pub returns : goal.returns
returns c =
    let end = ap (λ x. append c.statements.list (reversed x)) c.in_default.ensures.value.0 ∙ append_none c.statements.list in
    record {
      changes = subst (λ x. Changes (switches_of c.args.options) c.args.list.now x c.statements.changed) end c.statements.invariant.changes;
      entered = c.statements.invariant.entered;
    }
