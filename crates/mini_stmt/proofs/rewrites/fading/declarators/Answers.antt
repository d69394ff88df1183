use Rattle.std.proofs.Common.{◌≡◌, ◌∙◌, ap, sym, length, arith}
use Rattle.std.proofs.lemmas.Grind.{common_steps}
use Rattle.std.specs.Vec.Iter.{into_iter_items}
use Rattle.mini_model.specs.Tree.{none, ◌▸◌}
use Rattle.mini_model.specs.Paths.{append}
use Rattle.mini_rows.specs.DeadLexicals.{declarators}
use Rattle.mini_stmt.proofs.Fading.{names_turn, names_end}
use Rattle.mini_stmt.proofs.rewrites.fading.declarators.Goals as goal

pub loop-name-preserved : goal.loop-name-preserved
loop-name-preserved c =
    names_turn c.args.kind c.loop-name.made c.push.new.self c.in-Some.name (into_iter_items c.next.new.self) c.args.names.items
    (sym (ap (λ xs. append c.loop-name.made (declarators c.args.kind xs)) c.in-Some.ensures.steps.0) ∙ c.loop-name.invariant)
    (c.in_ok-push.ensures.ok ∙ ap (λ t. append c.loop-name.made (t ▸ none)) c.in_ok-declarator.ensures)

pub returns : goal.returns
returns c =
    let nothing : length (into_iter_items c.loop-name.name-iterator) ≡ 0 = grind (arith, common_steps) in
    names_end c.args.kind c.loop-name.made (into_iter_items c.loop-name.name-iterator) c.args.names.items nothing c.loop-name.invariant
