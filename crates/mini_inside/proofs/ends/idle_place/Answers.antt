use Rattle.std.proofs.Common.{◌∙◌, ap, sym, subst}
use Rattle.mini_model.specs.Tree.{children}
use Rattle.mini_node.specs.Children.{part}
use Rattle.mini_unused.specs.RemoveUnusedDeclaration.{allowed, open_in, UnusedOf}
use Rattle.mini_inside.specs.Holding.{is_idle_at}
use Rattle.mini_laws.specs.ScopeList.{has_eval}
use Rattle.std.specs.Prelude.{◌≡◌, ◌&&◌, ◌||◌, not, true, false, Some, None}
use Rattle.mini_inside.proofs.FurtherSteps.{found_some, found_missed, found_none}
use Rattle.mini_inside.proofs.ends.idle_place.Goals as goal

pub returns-then-goes_alone : goal.returns-then-goes_alone
returns-then-goes_alone c =
    let W = allowed c.args.context.now in
    let o = c.args.above.now in
    let t = part c.args.list.now 0 in
    let j = c.in-Some.which in
    let n = subst (λ us. UnusedOf (open_in o W) o us 0 (Some j)) (c.children.ensures ∙ ap children c.requires.alone) c.in-Some.ensures in
    found_some W o t j n (subst (λ l. (is_idle_at (part (part l 0) 0) j && not (has_eval o || has_eval l)) ≡ true) c.requires.alone (sym c.if-goes_alone.ensures))

pub returns-else-goes_alone : goal.returns-else-goes_alone
returns-else-goes_alone c =
    let W = allowed c.args.context.now in
    let o = c.args.above.now in
    let t = part c.args.list.now 0 in
    let j = c.in-Some.which in
    let n = subst (λ us. UnusedOf (open_in o W) o us 0 (Some j)) (c.children.ensures ∙ ap children c.requires.alone) c.in-Some.ensures in
    found_missed W o t j c.requires.above c.requires.var n (subst (λ l. (is_idle_at (part (part l 0) 0) j && not (has_eval o || has_eval l)) ≡ false) c.requires.alone (sym c.if-goes_alone.ensures))

pub returns-in-None : goal.returns-in-None
returns-in-None c =
    let W = allowed c.args.context.now in
    let o = c.args.above.now in
    let t = part c.args.list.now 0 in
    found_none W o t c.requires.above c.requires.var (subst (λ us. UnusedOf (open_in o W) o us 0 None) (c.children.ensures ∙ ap children c.requires.alone) c.in-None.ensures)
