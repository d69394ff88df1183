use Rattle.std.proofs.Common.{◌∙◌, ap, sym, subst, arith}
use Rattle.mini_model.specs.Paths.{append}
use Rattle.mini_node.specs.Walks.{append_none}
use Rattle.mini_stmt.specs.MinimizeStatements.{switches_of, Changes, is_quiet, reversed}
use Rattle.mini_stmt.proofs.Quiet.{reversed_push}
use Rattle.mini_stmt.proofs.Stepping.{changes_on}
use Rattle.mini_stmt.proofs.statements.minimize_all.Goals as goal

pub statements-init : goal.statements-init
statements-init c =
    let empty = c.replace-whole.ensures.after ∙ c.new.ensures in
    let whole = c.in_ok-put_reversed.ensures.list ∙ ap (λ x. append c.replace-whole.result (reversed x)) c.new-rest.ensures ∙ append_none c.replace-whole.result ∙ c.replace-whole.ensures.value in
    record {
      changes = ap (λ x. append x (reversed c.put_reversed.new.rest)) empty ∙ whole;
      quiet = ap (is_quiet (switches_of c.args.options)) empty;
    }

pub statements-smaller : goal.statements-smaller
statements-smaller c =
    let small = c.in_ok-next.ensures.smaller in
    let popped = c.in-Some.ensures.nodes in
    omega (arith, small, popped)

pub statements-preserved : goal.statements-preserved
statements-preserved c =
    let o = switches_of c.args.options in
    let rest = ap reversed c.in-Some.ensures.value ∙ reversed_push c.pop.new.self c.in-Some.statement in
    record {
      changes = changes_on o c.args.list.now (append c.statements.list (reversed c.statements.rest)) (append c.minimize_next.new.before (reversed c.minimize_next.new.rest)) c.statements.changed c.in_ok-next.next c.statements.invariant.changes
          (subst (λ x. Changes o (append c.statements.list x) (append c.minimize_next.new.before (reversed c.minimize_next.new.rest)) c.in_ok-next.next) (sym rest) c.in_ok-next.ensures.changes);
      quiet = c.in_ok-next.ensures.quiet c.statements.invariant.quiet;
    }

pub returns : goal.returns
returns c =
    let o = switches_of c.args.options in
    let end = ap (λ x. append c.statements.list (reversed x)) c.in_default.ensures.value.0 ∙ append_none c.statements.list in
    record {
      changes = subst (λ x. Changes o c.args.list.now x c.statements.changed) end c.statements.invariant.changes;
      quiet = c.statements.invariant.quiet;
    }
