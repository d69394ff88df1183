use Rattle.std.proofs.Common.{◌∙◌, ap, sym, subst, arith}
use Rattle.mini_model.specs.Paths.{append}
use Rattle.mini_node.specs.Walks.{append_none}
use Rattle.mini_stmt.specs.MinimizeStatements.{reversed}
use Rattle.mini_stmt.specs.JoinLets.{marked, Changes, are_joined}
use Rattle.mini_stmt.proofs.Guards.{both_unchanged}
use Rattle.mini_stmt.proofs.Parts.{below}
use Rattle.mini_stmt.proofs.Quiet.{reversed_push}
use Rattle.mini_stmt.proofs.LetJoins.{changes_on}
use Rattle.mini_stmt.proofs.rewrites.join_lets.join_all.Goals as goal

pub statements-init : goal.statements-init
statements-init c =
    let empty = c.replace-whole.ensures.after ∙ c.new.ensures in
    let whole = c.in_ok-put_reversed.ensures.list ∙ ap (λ x. append c.replace-whole.result (reversed x)) c.new-rest.ensures ∙ append_none c.replace-whole.result ∙ c.replace-whole.ensures.value in
    record {
      changes = ap (λ x. append x (reversed c.put_reversed.new.rest)) empty ∙ whole;
      joined = λ e. ap (are_joined (marked c.args.scopes.now)) empty;
    }

pub statements-smaller : goal.statements-smaller
statements-smaller c =
    let popped = c.in-Some.ensures.nodes in
    let own = below c.in-Some.statement in
    omega (arith, popped, own)

pub statements-preserved : goal.statements-preserved
statements-preserved c =
    let W = marked c.args.scopes.now in
    let rest = ap reversed c.in-Some.ensures.value ∙ reversed_push c.pop.new.self c.in-Some.statement in
    record {
      changes =
          changes_on W c.args.list.now (append c.statements.list (reversed c.statements.rest)) (append c.put_joined.new.before (reversed c.pop.new.self)) c.statements.changed c.in_ok-joined.joined c.statements.invariant.changes
          (subst (λ x. Changes W (append c.statements.list x) (append c.put_joined.new.before (reversed c.pop.new.self)) c.in_ok-joined.joined) (sym rest) (c.in_ok-joined.ensures.changes (reversed c.pop.new.self)));
      joined = λ e. let both = both_unchanged c.statements.changed c.in_ok-joined.joined e in c.in_ok-joined.ensures.joined both.1 (c.statements.invariant.joined both.0);
    }

pub returns : goal.returns
returns c =
    let end = ap (λ x. append c.statements.list (reversed x)) c.in_default.ensures.value.0 ∙ append_none c.statements.list in
    record {
      changes = subst (λ x. Changes (marked c.args.scopes.now) c.args.list.now x c.statements.changed) end c.statements.invariant.changes;
      joined = c.statements.invariant.joined;
    }
