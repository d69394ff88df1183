use Rattle.std.proofs.Common.{◌∙◌, subst, sym}
use Rattle.mini_laws.specs.ScopeList.{entered, names_in}
use Rattle.mini_context.specs.Tables.{Listed}
use Rattle.mini_context.proofs.Listings.{lists_none}
use Rattle.mini_context.proofs.listing.push_entered.Goals as goal

pub push_scopes-requires : goal.push_scopes-requires
push_scopes-requires c = sym c.enters_none.ensures ∙ c.if-enters_none.false

pub returns-clause-listed : goal.returns-clause-listed
returns-clause-listed c = subst (λ v. Listed (entered c.args.least (record { names = names_in c.args.scope.now; strict = c.args.strict; evals = v })) c.args.tables.now c.push_scopes.new.tables) c.evals_from-evals.ensures c.in_ok-push_scopes.ensures

pub returns-clause-evals : goal.returns-clause-evals
returns-clause-evals c = λ e. sym c.evals_from-evals.ensures ∙ e

pub returns-then-enters_none-clause-listed : goal.returns-then-enters_none-clause-listed
returns-then-enters_none-clause-listed c = lists_none c.args.least c.args.scope.now c.args.strict _ c.args.tables.now (sym c.enters_none.ensures ∙ c.if-enters_none.true)

pub returns-then-enters_none-clause-evals : goal.returns-then-enters_none-clause-evals
returns-then-enters_none-clause-evals c = c.requires
