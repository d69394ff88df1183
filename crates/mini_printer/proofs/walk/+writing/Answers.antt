use Rattle.std.proofs.Common.{◌≡◌, ◌-◌, [], sym, ap, subst, ◌∙◌, arith}
use Rattle.std.specs.Prelude.{OnOk, not, Some, option_map}
use Rattle.mini_node.specs.Children.{trees_of}
use Rattle.mini_print.specs.Printed.{printer, enclosed, printers, by_production, lay}
use Rattle.mini_grammar.specs.Pieces.{piece_parts}
use Rattle.mini_tokens.specs.Styles.{style_of}
use Rattle.mini_places.specs.Standing.{is_yield}
use Rattle.mini_grammar.specs.Views.{rule_of, place_of, aim_of}
use Rattle.mini_printer.proofs.Sizes.{node_within}
use Rattle.mini_places.proofs.Stands.{only_yield}
use Rattle.mini_printer.proofs.Walked.{negative_done, rule_done, mark_piece}
use Rattle.mini_printer.proofs.walk.+writing.Goals as goal

pub write_block-write_node-requires : goal.write_block-write_node-requires
write_block-write_node-requires t c = (omega (arith, c.decreases, node_within c.args.items.now (c.loop-left.left - 1) c.index-items-left.result (omega (arith, c.loop-left.invariant.0, c.loop-left-test.true)) c.index-items-left.is), tt)

pub write_items-write_item-requires : goal.write_items-write_item-requires
write_items-write_item-requires t c = (omega (arith, c.decreases, node_within c.args.items.now (c.loop-left.left - 1) c.index-items-left.result (omega (arith, c.loop-left.invariant.0, c.loop-left-test.true)) c.index-items-left.is), tt)

pub write_node-returns-in-Some-below_zero : goal.write_node-returns-in-Some-below_zero
write_node-returns-in-Some-below_zero t c =
    subst (λ ts. OnOk c.write_negative.result (c.write_negative.new.tokens ≡ ts))
    (negative_done (style_of c.args.style) c.args.node.now (place_of c.args.there) c.args.tokens.now (rule_of c.in-Some.rule) c.in-Some-below_zero.number (aim_of c.plain.result) (option_map rule_of c.rule_in.result) (place_of c.seated-there.result) c.plain.ensures c.rule_in.ensures (ap (option_map rule_of) c.in-Some.is) c.seated-there.ensures (sym c.shape.ensures ∙ c.in-Some-below_zero.ensures))
    c.write_negative.ensures

pub write_node-returns-in-None : goal.write_node-returns-in-None
write_node-returns-in-None t c =
    subst (λ ts. OnOk c.write_rule.result (c.write_rule.new.tokens ≡ ts))
    (rule_done (style_of c.args.style) c.args.node.now (place_of c.args.there) c.args.tokens.now (rule_of c.in-Some.rule) (rule_of c.styled.result) (aim_of c.plain.result) (option_map rule_of c.rule_in.result) (place_of c.seated-there.result) c.shape.result.now (trees_of c.parts-parts.result.now) c.plain.ensures c.rule_in.ensures (ap (option_map rule_of) c.in-Some.is) c.seated-there.ensures c.shape.ensures c.in-None.ensures c.parts-parts.ensures.value c.styled.ensures)
    c.write_rule.ensures

pub write_pieces-returns-then-is_mark : goal.write_pieces-returns-then-is_mark
write_pieces-returns-then-is_mark t c =
    let k = style_of c.args.style in
    let g = aim_of c.args.goal in
    let h = rule_of c.args.rule in
    let x = c.in-Some.piece.now in
    subst (λ ts. OnOk c.write_mark.result (c.write_mark.new.tokens ≡ ts))
    (ap (λ m. lay k g (piece_parts h x []) [] m) c.in_ok-write_pieces.ensures ∙ sym (mark_piece k g h x c.in-Some.others.now c.args.pieces.now (printers k (trees_of c.args.parts.now)) c.args.tokens.now c.in-Some.ensures.cases.0 (sym c.is_mark.ensures ∙ c.if-is_mark.true)))
    (c.write_mark.ensures g)

pub write_rule-returns-in-Yield : goal.write_rule-returns-in-Yield
write_rule-returns-in-Yield t c =
    let s = style_of c.args.style in
    subst (λ k. OnOk c.write_yield.result (c.write_yield.new.tokens ≡ by_production s (Some k) (printers s (trees_of c.args.parts.now)) (place_of c.args.there) c.args.tokens.now))
    (sym (only_yield (rule_of c.args.rule) (ap is_yield (sym c.standing_of.ensures ∙ c.in-Yield.is))))
    (c.write_yield.ensures (printers s (trees_of c.args.parts.now)))

pub write_restricted-returns-then-begins_forbidden : goal.write_restricted-returns-then-begins_forbidden
write_restricted-returns-then-begins_forbidden t c =
    let k = printer (style_of c.args.style) c.args.part.now in
    let p = place_of c.args.there in
    subst (λ b. OnOk c.write_enclosed.result (c.write_enclosed.new.tokens ≡ enclosed b k p c.args.tokens.now)) (sym (ap not (c.begins_forbidden.ensures c.if-begins_forbidden.true c.args.tokens.now))) c.write_enclosed.ensures
