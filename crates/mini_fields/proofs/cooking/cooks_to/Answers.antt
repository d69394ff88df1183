use Rattle.std.proofs.Common.{[], ◌≡◌, true, false, None, Some, sym, ap, ◌∙◌}
use Rattle.std.specs.Prelude.{◌&&◌}
use Rattle.mini_accept.specs.WellShaped.{is_text}
use Rattle.mini_model.specs.Templates.{may_end}
use Rattle.mini_fields.specs.Cooking.{state_of, step_of, units_left}
use Rattle.mini_fields.proofs.Cooked.{next_unit, next_utf8, no_unit, same_step, text_end, is_no_text, not_other}
use Rattle.mini_fields.proofs.cooking.cooks_to.Goals as goal

pub returns-in-None-follow : goal.returns-in-None-follow
returns-in-None-follow c =
    let s = c.loop-unit.unit-iterator in let t = c.next.new.self in
    let front = next_unit s t c.in-Some.unit c.in-Some.ensures.steps c.loop-unit.invariant.raw_utf8 in
    sym (c.loop-unit.invariant.same
    ∙ same_step (units_left c.loop-unit.rest) (units_left c.follow.new.rest) (units_left s) (units_left t) (state_of c.loop-unit.state) c.in-Some.unit (step_of c.read.result) None front c.read.ensures c.in-None-follow.ensures.same)

pub loop-unit-preserved : goal.loop-unit-preserved
loop-unit-preserved c =
    let s = c.loop-unit.unit-iterator in let t = c.next.new.self in
    let front = next_unit s t c.in-Some.unit c.in-Some.ensures.steps c.loop-unit.invariant.raw_utf8 in
    record {
      same =
          c.loop-unit.invariant.same
          ∙ same_step (units_left c.loop-unit.rest) (units_left c.follow.new.rest) (units_left s) (units_left t) (state_of c.loop-unit.state) c.in-Some.unit (step_of c.read.result) (Some (state_of c.in-Some-follow.next)) front c.read.ensures c.in-Some-follow.ensures.same;
      raw_utf8 = next_utf8 s t c.in-Some.unit c.in-Some.ensures.steps c.loop-unit.invariant.raw_utf8;
      text_utf8 = c.in-Some-follow.ensures.utf8;
    }

pub returns-then-may_end : goal.returns-then-may_end
returns-then-may_end c =
    let s = c.loop-unit.unit-iterator in
    let ends : may_end (state_of c.loop-unit.state) ≡ true = sym c.may_end.ensures ∙ c.if-may_end.true in
    not_other _ _ c.is_none.ensures
    ∙ sym (c.loop-unit.invariant.same ∙ (text_end (units_left c.loop-unit.rest) (units_left s) (state_of c.loop-unit.state) (no_unit s c.next.new.self c.in-None.ensures.steps)
    ∙ (ap (λ b. b && is_text (units_left c.loop-unit.rest) []) ends ∙ is_no_text c.loop-unit.rest c.next-then-may_end.new.self c.next-then-may_end.result c.next-then-may_end.ensures.steps c.loop-unit.invariant.text_utf8)))

pub returns-else-may_end : goal.returns-else-may_end
returns-else-may_end c =
    let s = c.loop-unit.unit-iterator in
    let ends : may_end (state_of c.loop-unit.state) ≡ false = sym c.may_end.ensures ∙ c.if-may_end.false in
    c.if-may_end.false
    ∙ sym (c.loop-unit.invariant.same ∙ (text_end (units_left c.loop-unit.rest) (units_left s) (state_of c.loop-unit.state) (no_unit s c.next.new.self c.in-None.ensures.steps)
    ∙ ap (λ b. b && is_text (units_left c.loop-unit.rest) []) ends))
