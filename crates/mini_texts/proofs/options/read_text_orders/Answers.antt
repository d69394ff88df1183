use Rattle.std.proofs.Common.{◌≡◌, false, arith}
use Rattle.std.specs.Prelude.{◌||◌}
use Rattle.std.proofs.lemmas.Grind.{common_steps}
use Rattle.mini_texts.specs.Options.{all_name_depths}
use Rattle.mini_texts.proofs.Ordered.{none_allowed, none_named}
use Rattle.mini_texts.proofs.options.read_text_orders.Goals as goal

pub returns-then-not-may_stand : goal.returns-then-not-may_stand
returns-then-not-may_stand c =
    let other : (c.take-minify.result || all_name_depths c.take-minify.new.self) ≡ false = (let h = c.may_stand.ensures in let k = c.if-not-may_stand.true in grind (arith, common_steps)) in
    none_allowed c.args.words.now c.take-spaced.new.self c.take-minify.new.self c.take-spaced.result c.take-minify.result c.take-spaced.ensures c.take-minify.ensures other

pub returns-in_err-options : goal.returns-in_err-options
returns-in_err-options c =
    rw c.from_residual.ensures (none_named c.args.words.now c.take-spaced.new.self c.take-minify.new.self c.take-spaced.result c.take-minify.result c.take-spaced.ensures c.take-minify.ensures c.in_err-options.ensures)
