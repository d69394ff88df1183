use Rattle.mini_context.proofs.Told.{scopes_found}
use Rattle.mini_context.proofs.scopes.list_program.Goals as goal

pub returns : goal.returns
returns c =
    scopes_found c.args.symbols c.first_reading.result c.new-environment.result c.args.program.now c.open_scopes.new.tables c.list_scopes.new.tables c.in_ok-pattern_writes.field-0.items c.list_scopes.new.pattern_writes.items
    c.first_reading.ensures c.new-environment.ensures c.in_ok-open_scopes.ensures c.in_ok-pattern_writes.ensures c.list_scopes.result c.list_scopes.ensures.listed c.list_scopes.ensures.patterns
