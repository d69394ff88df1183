use Rattle.std.proofs.Common.{◌∙◌, sym, ap}
use Rattle.mini_rows.specs.Unused.{is_like_one}
use Rattle.mini_unused.proofs.Looks.{named_itself, unread}
use Rattle.mini_unused.proofs.first_reads.look_at_own.Goals as goal

pub returns-then-is_like : goal.returns-then-is_like
returns-then-is_like c = (sym (c.if-is_like.ensures ∙ ap (is_like_one c.args.name.now) c.name.ensures ∙ named_itself c.args.name.now c.args.node.now c.requires.none), sym (unread c.args.name.now c.args.in_list c.args.node.now c.requires.some c.requires.none))

pub returns-else-is_like : goal.returns-else-is_like
returns-else-is_like c = sym (c.if-is_like.ensures ∙ ap (is_like_one c.args.name.now) c.name.ensures ∙ named_itself c.args.name.now c.args.node.now c.requires.none)
