use Rattle.mini_printable.proofs.Voiced.{faultless_text, faultless_compact}
use Rattle.mini_printable.proofs.program_texts_are_paired.Goals as goal

pub returns-clause-spaced : goal.returns-clause-spaced
returns-clause-spaced c = faultless_text

pub returns-clause-compact : goal.returns-clause-compact
returns-clause-compact c = faultless_compact
