use Rattle.std.proofs.Common.{◌+◌, ◌-◌, ap, ◌∙◌}
use Rattle.std.proofs.lemmas.Result.{on_ok_weaker}
use Rattle.mini_model.specs.Tree.{none, ◌▸◌}
use Rattle.mini_model.specs.Paths.{append}
use Rattle.mini_run.specs.Generated.{statements}
use Rattle.mini_run.proofs.Filled.{no_more, one_more}
use Rattle.mini_run.proofs.generated.+fill.Goals as goal

pub returns-then-more-eq0 : goal.returns-then-more-eq0
returns-then-more-eq0 t c = no_more c.args.list.now c.args.from c.args.more c.if-more-eq0.true

pub returns : goal.returns
returns t c =
    let list = c.args.list.now in
    let rest = statements (c.args.from + 1) (c.args.more - 1) in
    let one = ap (λ s. append (append list (s ▸ none)) rest) c.in_ok-made.ensures in
    on_ok_weaker c.fill.result (λ is. is ∙ ap (λ l. append l rest) c.in_ok-push.ensures.ok ∙ one ∙ one_more list c.args.from c.args.more c.if-more-eq0.false) c.fill.ensures
