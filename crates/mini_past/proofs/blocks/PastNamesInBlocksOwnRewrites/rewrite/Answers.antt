use Rattle.mini_steady.specs.Declarations.{known_of}
use Rattle.mini_unused.specs.Allowed.{switches_of}
use Rattle.mini_steady.specs.Own.{AppliedHere}
use Rattle.mini_rows.specs.PastBlocks.{PastBlocks}
use Rattle.mini_inside.proofs.Holders.{where_ok}
use Rattle.mini_past.proofs.InBlocks.{elsewhere_applied}
use Rattle.mini_past.proofs.InStatements.{here_applied}
use Rattle.mini_past.specs.PastInBlocks.{AppliedPastStatement}
use Rattle.mini_past.proofs.blocks.PastNamesInBlocksOwnRewrites.rewrite.Goals as goal

pub returns-in-Stmt : goal.returns-in-Stmt
returns-in-Stmt g c =
    let o = switches_of (g.S.SteadyNames.orders c.args.steady.now) in
    let V = known_of (g.S.SteadyNames.sets c.args.steady.now) c.args.body.now in
    let u = c.substitute_past_in_statement.new.node in
    where_ok c.substitute_past_in_statement.result (λ b. AppliedPastStatement o V c.args.node.now u b) (λ b. AppliedHere (PastBlocks o V) c.args.place c.args.node.now u b)
    (λ b r. here_applied o V c.args.place _ _ b r c.in-Stmt.field-0 c.in-Stmt.is) c.substitute_past_in_statement.ensures

pub returns-in-Elsewhere : goal.returns-in-Elsewhere
returns-in-Elsewhere g c = elsewhere_applied (switches_of (g.S.SteadyNames.orders c.args.steady.now)) (known_of (g.S.SteadyNames.sets c.args.steady.now) c.args.body.now) c.args.place _ _ _ c.substitute_past_in_block.ensures c.in-Elsewhere.is
