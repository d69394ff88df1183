use Rattle.std.proofs.Common.{None, Some, sym, ap, ◌∙◌}
use Rattle.std.specs.Prelude.{not}
use Rattle.mini_fields.specs.Cooking.{state_of, step_of, units_left}
use Rattle.mini_fields.proofs.Cooked.{next_unit, next_utf8, no_unit, some_step, some_end}
use Rattle.mini_fields.proofs.cooking.is_malformed.Goals as goal

pub returns-in-None-next_state : goal.returns-in-None-next_state
returns-in-None-next_state c =
    let s = c.loop-unit.unit-iterator in let t = c.next.new.self in
    let front = next_unit s t c.in-Some.unit c.in-Some.ensures.steps c.loop-unit.invariant.utf8 in
    sym (ap not (c.loop-unit.invariant.same ∙ some_step (units_left s) (units_left t) (state_of c.loop-unit.state) c.in-Some.unit (step_of c.read.result) None front c.read.ensures c.in-None-next_state.ensures))

pub loop-unit-preserved : goal.loop-unit-preserved
loop-unit-preserved c =
    let s = c.loop-unit.unit-iterator in let t = c.next.new.self in
    let front = next_unit s t c.in-Some.unit c.in-Some.ensures.steps c.loop-unit.invariant.utf8 in
    record {
      same = c.loop-unit.invariant.same ∙ some_step (units_left s) (units_left t) (state_of c.loop-unit.state) c.in-Some.unit (step_of c.read.result) (Some (state_of c.in-Some-next_state.next)) front c.read.ensures c.in-Some-next_state.ensures;
      utf8 = next_utf8 s t c.in-Some.unit c.in-Some.ensures.steps c.loop-unit.invariant.utf8;
    }

pub returns : goal.returns
returns c =
    let s = c.loop-unit.unit-iterator in
    ap not (c.may_end.ensures ∙ sym (c.loop-unit.invariant.same ∙ some_end (units_left s) (state_of c.loop-unit.state) (no_unit s c.next.new.self c.in-None.ensures.steps)))
