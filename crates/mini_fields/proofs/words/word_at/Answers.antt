use Rattle.std.proofs.Common.{ap, ◌∙◌, map}
use Rattle.std.specs.Prelude.{option_and_then}
use Rattle.mini_accept.specs.Fields.{word_in}
use Rattle.mini_fields.proofs.words.word_at.Goals as goal

pub returns : goal.returns
returns g c = c.word_in.ensures ∙ ap (option_and_then (word_in (map (λ w. (w.0.now, w.1)) c.args.table.now))) c.in_ok-text_at.ensures
