use Rattle.mini_model.specs.Redex.{Contracts}
use Rattle.mini_kept.proofs.BodyRows as lemma
use Rattle.mini_kept.proofs.Lawful.{lawful_keeps, rows_are_lawful}
use Rattle.mini_kept.proofs.rows_keep_bodies.Goals as goal

pub returns-clause-rows : goal.returns-clause-rows
returns-clause-rows c = lemma.rows_keep_bodies

pub returns-clause-program : goal.returns-clause-program
returns-clause-program c t u r e = (lawful_keeps Contracts rows_are_lawful t u r e).bodies
