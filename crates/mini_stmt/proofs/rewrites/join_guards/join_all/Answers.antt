use Rattle.std.proofs.Common.{◌∙◌, ap, sym, subst, arith}
use Rattle.mini_model.specs.Tree.{count}
use Rattle.mini_model.specs.Paths.{append}
use Rattle.mini_node.specs.Walks.{append_none}
use Rattle.mini_stmt.specs.MinimizeStatements.{Changes, reversed}
use Rattle.mini_stmt.specs.JoinGuards.{are_apart}
use Rattle.mini_stmt.proofs.Guards.{both_unchanged}
use Rattle.mini_stmt.proofs.Quiet.{count_push, reversed_push}
use Rattle.mini_stmt.proofs.Stepping.{changes_on}
use Rattle.mini_stmt.proofs.rewrites.join_guards.join_all.Goals as goal

pub statements-init : goal.statements-init
statements-init c =
    let empty = c.replace-whole.ensures.after ∙ c.new.ensures in
    let whole = c.in_ok-put_reversed.ensures.list ∙ ap (λ x. append c.replace-whole.result (reversed x)) c.new-rest.ensures ∙ append_none c.replace-whole.result ∙ c.replace-whole.ensures.value in
    record {
      changes = λ o s. ap (λ x. append x (reversed c.put_reversed.new.rest)) empty ∙ whole;
      apart = λ e. ap are_apart empty;
    }

pub statements-smaller : goal.statements-smaller
statements-smaller c =
    let same = ap count c.in-Some.ensures.value ∙ count_push c.pop.new.self c.in-Some.statement in
    omega (arith, same)

pub statements-preserved : goal.statements-preserved
statements-preserved c =
    let rest = ap reversed c.in-Some.ensures.value ∙ reversed_push c.pop.new.self c.in-Some.statement in
    record {
      changes = λ o s.
          changes_on o c.args.list.now (append c.statements.list (reversed c.statements.rest)) (append c.put_joined.new.before (reversed c.pop.new.self)) c.statements.changed c.in_ok-joined.joined (c.statements.invariant.changes o s)
          (subst (λ x. Changes o (append c.statements.list x) (append c.put_joined.new.before (reversed c.pop.new.self)) c.in_ok-joined.joined) (sym rest) (c.in_ok-joined.ensures.changes (reversed c.pop.new.self) o s));
      apart = λ e. let both = both_unchanged c.statements.changed c.in_ok-joined.joined e in c.in_ok-joined.ensures.apart both.1 (c.statements.invariant.apart both.0);
    }

pub returns : goal.returns
returns c =
    let end = ap (λ x. append c.statements.list (reversed x)) c.in_default.ensures.value.0 ∙ append_none c.statements.list in
    record {
      changes = λ o s. subst (λ x. Changes o c.args.list.now x c.statements.changed) end (c.statements.invariant.changes o s);
      apart = c.statements.invariant.apart;
    }
