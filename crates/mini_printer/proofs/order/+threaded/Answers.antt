use Rattle.std.proofs.Common.{sym, ap, ◌∙◌, arith}
use Rattle.mini_model.specs.Tree.{absent, count}
use Rattle.mini_node.specs.Walks.{count_with}
use Rattle.mini_printer.proofs.Orders.{threaded_by, thread_single, thread_left}
use Rattle.mini_printer.proofs.order.+threaded.Goals as goal

pub threaded-requires : goal.threaded-requires
threaded-requires t c =
    let within = c.is_piece_at.ensures.within c.if-not-is_piece_at.false in
    let left = ap count c.take-piece.ensures.rest ∙ count_with c.args.quasis.now c.args.at absent in
    omega (arith, within, left, c.decreases)

pub returns-in_ok-parts : goal.returns-in_ok-parts
returns-in_ok-parts t c =
    threaded_by c.args.quasis.now c.args.expressions.now c.take-piece.new.self c.take-expression.new.self c.args.at c.take-piece.result c.take-expression.result c.in_ok-rest.rest c.over.result c.in_ok-parts.parts
    (c.is_piece_at.ensures.within c.if-not-is_piece_at.false) (omega (arith, c.if-at-len.true, c.len.ensures))
    (sym c.is_piece_at.ensures.kind ∙ c.if-not-is_piece_at.false)
    c.take-piece.ensures.value c.take-expression.ensures.value c.take-piece.ensures.rest c.take-expression.ensures.rest
    c.in_ok-rest.ensures c.in_ok-parts.ensures c.over.ensures

pub returns-then-at-count : goal.returns-then-at-count
returns-then-at-count t c =
    c.take-piece.ensures.value
    ∙ thread_single c.args.quasis.now c.args.expressions.now c.args.at (omega arith) (omega arith) (sym c.is_piece_at.ensures.kind ∙ c.if-not-is_piece_at.false)

pub returns-else-at-count : goal.returns-else-at-count
returns-else-at-count t c =
    let within = c.is_piece_at.ensures.within c.if-not-is_piece_at.false in
    c.absent-else-at-count.ensures
    ∙ thread_left c.args.quasis.now c.args.expressions.now c.args.at (omega (arith, within)) (omega arith)
