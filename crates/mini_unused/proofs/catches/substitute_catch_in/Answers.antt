use Rattle.std.proofs.Common.{subst, sym, arith}
use Rattle.mini_unused.specs.SubstituteCatchClause.{AppliedIn}
use Rattle.mini_unused.proofs.Catching.{in_edition, too_early, elsewhere}
use Rattle.mini_unused.proofs.catches.substitute_catch_in.Goals as goal

pub returns-then-edition-lt-BARE_CATCH : goal.returns-then-edition-lt-BARE_CATCH
returns-then-edition-lt-BARE_CATCH c = too_early c.args.edition (omega arith) c.args.place c.args.node.now

pub returns-in-Elsewhere : goal.returns-in-Elsewhere
returns-in-Elsewhere c =
    let made = in_edition c.args.edition (omega arith) c.args.node.now c.substitute_catch_clause.new.node c.substitute_catch_clause.result c.substitute_catch_clause.ensures in
    subst (λ p. AppliedIn c.args.edition p c.args.node.now c.substitute_catch_clause.new.node c.substitute_catch_clause.result) (sym c.in-Elsewhere.is) made
