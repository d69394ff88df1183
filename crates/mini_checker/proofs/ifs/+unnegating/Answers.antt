use Rattle.std.proofs.Common.{◌-◌, ◌∙◌, ap, sym, arith}
use Rattle.std.specs.Prelude.{option_map}
use Rattle.std.proofs.lemmas.Result.{IfOk-weaker}
use Rattle.mini_model.specs.Tree.{children}
use Rattle.mini_node.specs.Kinds.{sequence}
use Rattle.mini_log.specs.ChoiceRows.{unnegated, unnegated_last}
use Rattle.mini_checker.proofs.Unnegated.{of_several, of_other, last_some, last_none}
use Rattle.mini_checker.proofs.ifs.+unnegating.Goals as goal

pub unnegated-returns-then-is_several : goal.unnegated-returns-then-is_several
unnegated-returns-then-is_several t c =
    IfOk-weaker c.unnegated_sequence.result _ _
    (λ w e. e ∙ ap (λ us. option_map sequence (unnegated_last us)) (c.children.ensures ∙ ap children c.child-then-is_several.ensures.value) ∙ sym (of_several c.args.node.now (sym c.is_several.ensures.kind ∙ c.if-is_several.true)))
    c.unnegated_sequence.ensures

pub unnegated-returns-else-is_several : goal.unnegated-returns-else-is_several
unnegated-returns-else-is_several t c = of_other c.args.node.now (sym c.is_negation.ensures.kind ∙ c.if-is_negation.false) (sym c.is_several.ensures.kind ∙ c.if-is_several.false)

pub unnegated_sequence-returns-in_ok-sequence-in-Some : goal.unnegated_sequence-returns-in_ok-sequence-in-Some
unnegated_sequence-returns-in_ok-sequence-in-Some t c =
    last_some c.args.parts.now (c.len-last.result - 1) c.in_ok-other.field-0 c.in-Some.other c.in_ok-sequence-in-Some.field-0 c.in_ok-copies-in-Some.copies c.replace.new.self (omega (arith, c.len-last.ensures, c.requires))
    (c.in_ok-other.ensures ∙ ap unnegated c.child.ensures.value) c.in-Some.is c.in_ok-copies-in-Some.ensures c.replace.ensures.rest c.in_ok-sequence-in-Some.ensures

pub unnegated_sequence-returns-in-None : goal.unnegated_sequence-returns-in-None
unnegated_sequence-returns-in-None t c =
    last_none c.args.parts.now (c.len-last.result - 1) c.in_ok-other.field-0 (omega (arith, c.len-last.ensures, c.requires)) (c.in_ok-other.ensures ∙ ap unnegated c.child.ensures.value) c.in-None.is
