use Rattle.mini_fields.proofs.kind.kind_of.Goals as goal

pub returns : goal.returns
returns c = c.word_at.ensures
