use Rattle.std.proofs.Common.{true, false, refl}
use Rattle.mini_stmt.proofs.Bodies.{turned_lighter, turns_more}
use Rattle.mini_stmt.proofs.rewrites.minimize_body.turn_guards.Goals as goal

pub turning-init : goal.turning-init
turning-init c = λ o s. refl

pub turning-smaller : goal.turning-smaller
turning-smaller c = turned_lighter (record { sequences = true; join_vars = true; keep_function_names = false; keep_class_names = false; edition = 2022 }) refl c.turning.list c.turn_at.new.list c.in-Some.at c.in-Some.ensures.0 c.in_ok-turn_at.ensures

pub turning-preserved : goal.turning-preserved
turning-preserved c = λ o s. turns_more o c.args.list.now c.turning.list c.turn_at.new.list c.turning.changed c.in-Some.at s (c.turning.invariant o s) c.in-Some.ensures.0 c.in_ok-turn_at.ensures

pub returns : goal.returns
returns c = record { changes = c.turning.invariant; rests = c.in_default.ensures }
