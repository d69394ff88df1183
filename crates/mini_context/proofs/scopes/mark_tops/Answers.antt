use Rattle.std.proofs.Common.{subst}
use Rattle.mini_laws.specs.ScopeList.{names_in}
use Rattle.mini_context.specs.Tables.{Marked}
use Rattle.mini_context.proofs.Told.{no_tops, some_tops}
use Rattle.mini_context.proofs.scopes.mark_tops.Goals as goal

pub returns-then-not-is_script : goal.returns-then-not-is_script
returns-then-not-is_script c = no_tops c.args.symbols c.args.program.now c.shape.result.now c.is_script.result c.in_ok-tops.field-0.items c.shape.ensures c.is_script.ensures c.if-not-is_script.true c.in_ok-tops.ensures

pub returns : goal.returns
returns c = some_tops c.args.symbols c.args.program.now c.shape.result.now c.is_script.result c.in_ok-scopes.scopes c.in_ok-tops.field-0.items c.mark_bindings.new.marks.items c.shape.ensures c.is_script.ensures c.if-not-is_script.false c.in_ok-scopes.ensures c.in_ok-tops.ensures
    (subst (λ bs. Marked (names_in bs) c.in_ok-tops.field-0.items c.mark_bindings.new.marks.items) c.as_slice.ensures.value c.mark_bindings.ensures)
