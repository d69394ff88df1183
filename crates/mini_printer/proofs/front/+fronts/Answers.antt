use Rattle.std.proofs.Common.{sym, ap, ◌∙◌}
use Rattle.std.specs.Prelude.{Some, option_map}
use Rattle.mini_node.specs.Children.{trees_of}
use Rattle.mini_print.specs.Printed.{printer, printers, by_production}
use Rattle.mini_grammar.specs.Views.{rule_of, place_of, aim_of, token_of}
use Rattle.mini_tokens.specs.Styles.{style_of}
use Rattle.mini_printer.proofs.Fronts.{front_same, enclosed_front, open_front, marked_front, parted_front}
use Rattle.mini_printer.proofs.Walked.{rule_done, takes_by}
use Rattle.mini_printer.proofs.front.+fronts.Goals as goal

pub front_of-returns-in-None : goal.front_of-returns-in-None
front_of-returns-in-None t c =
    let s = style_of c.args.style in
    front_same (option_map token_of c.rule_front.result) (λ r. (printer s c.args.node.now).one (place_of c.args.there) r) (λ r. by_production s (Some (rule_of c.styled.result)) (printers s (trees_of c.parts-parts.result.now)) (place_of c.seated.result) r)
    (λ r. rule_done s c.args.node.now (place_of c.args.there) r (rule_of c.in-Some.rule) (rule_of c.styled.result) (aim_of c.plain.result) (option_map rule_of c.rule_in.result) (place_of c.seated.result) c.shape.result.now (trees_of c.parts-parts.result.now) c.plain.ensures c.rule_in.ensures (ap (option_map rule_of) c.in-Some.is) c.seated.ensures c.shape.ensures c.in-None.ensures c.parts-parts.ensures.value c.styled.ensures)
    c.rule_front.ensures

pub pieces_front-returns-then-is_mark : goal.pieces_front-returns-then-is_mark
pieces_front-returns-then-is_mark t c =
    let s = style_of c.args.style in
    let g = aim_of c.args.goal in
    marked_front (option_map token_of c.mark_front.result) s g (rule_of c.args.rule) c.in-Some.piece.now c.in-Some.field-0-1.now c.args.pieces.now c.args.parts.now c.in-Some.ensures.cases.0
    (sym c.is_mark.ensures ∙ c.if-is_mark.true) (c.mark_front.ensures s g)

pub pieces_front-returns : goal.pieces_front-returns
pieces_front-returns t c =
    let s = style_of c.args.style in
    let x = c.in-Some.piece.now in
    parted_front (option_map token_of c.part_front.result) s (aim_of c.args.goal) (rule_of c.args.rule) x c.in-Some.field-0-1.now c.args.pieces.now c.in-Some-split_first.part.now c.in-Some-split_first.field-0-1.now c.args.parts.now c.in-Some.ensures.cases.0
    (takes_by x (sym c.is_end.ensures ∙ c.if-is_end.false) (sym c.is_mark.ensures ∙ c.if-is_mark.false))
    c.in-Some-split_first.ensures.cases.0 c.part_front.ensures

pub production_front-returns-then-is_enclosed : goal.production_front-returns-then-is_enclosed
production_front-returns-then-is_enclosed t c =
    enclosed_front (style_of c.args.style) (rule_of c.args.rule) c.args.parts.now (place_of c.args.there) c.requires (sym c.if-is_enclosed.true ∙ c.is_enclosed.ensures)

pub production_front-returns : goal.production_front-returns
production_front-returns t c =
    open_front (option_map token_of c.pieces_front.result) (style_of c.args.style) (rule_of c.args.rule) c.pieces_of.result.now c.args.parts.now (place_of c.args.there) c.requires c.pieces_of.ensures.value
    (sym c.if-is_enclosed.false ∙ c.is_enclosed.ensures) c.pieces_front.ensures
