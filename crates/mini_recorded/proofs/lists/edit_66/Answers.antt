use Rattle.std.proofs.Common.{subst}
use Rattle.std.proofs.lemmas.Result.{IfOk-weaker}
use Rattle.mini_log.specs.ListRows.{gone, joined, within}
use Rattle.mini_recorded.specs.Edited.{Edited}
use Rattle.mini_recorded.proofs.ListEdits.{first_edited, second_edited}
use Rattle.mini_recorded.proofs.lists.edit_66.Goals as goal

pub returns-then-drop_empty : goal.returns-then-drop_empty
returns-then-drop_empty c =
    first_edited (within gone c.args.nodes.now c.args.at) (within (joined c.args.sequences) c.args.nodes.now c.args.at) c.args.nodes.now c.drop_empty.new.nodes
    (subst (λ b. Edited (within gone c.args.nodes.now c.args.at) c.args.nodes.now c.drop_empty.new.nodes b) c.if-drop_empty.true c.drop_empty.ensures)

pub returns : goal.returns
returns c =
    IfOk-weaker c.join_next.result _ _
    (λ b m.
    second_edited (within gone c.args.nodes.now c.args.at) (λ ts. within (joined c.args.sequences) ts c.args.at) c.args.nodes.now c.drop_empty.new.nodes c.join_next.new.nodes b
    (subst (λ d. Edited (within gone c.args.nodes.now c.args.at) c.args.nodes.now c.drop_empty.new.nodes d) c.if-drop_empty.false c.drop_empty.ensures) m)
    c.join_next.ensures
