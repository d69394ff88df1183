use Rattle.std.proofs.Common.{◌∙◌, sym, ap}
use Rattle.mini_rows.specs.Unused.{is_like_one}
use Rattle.mini_unused.proofs.Looks.{named_itself, put_own}
use Rattle.mini_unused.proofs.single_uses.put_at_own.Goals as goal

pub returns : goal.returns
returns c = (sym (c.if-not-is_like.ensures ∙ ap (is_like_one c.args.name.now) c.name.ensures ∙ named_itself c.args.name.now c.args.node.now c.requires.none), put_own c.args.name.now c.args.value c.args.node.now c.spell_in_full.new.node c.requires.some c.requires.none c.spell_in_full.ensures)
