use Rattle.std.proofs.Common.{◌∙◌, ap, sym}
use Rattle.mini_stmt.specs.MinimizeStatements.{switches_of, joins}
use Rattle.mini_stmt.proofs.Follows.{declaration_taken}
use Rattle.mini_stmt.proofs.statements.joined_to.Goals as goal

pub with_declaration-requires : goal.with_declaration-requires
with_declaration-requires c = declaration_taken (switches_of c.args.options) c.in-Declaration.kind c.args.next (sym (ap (λ l. joins (switches_of c.args.options) l c.args.next) c.in-Declaration.is) ∙ c.requires)
