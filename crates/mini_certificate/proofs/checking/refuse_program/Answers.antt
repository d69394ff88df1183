use Rattle.std.specs.Prelude.{codes}
use Rattle.mini_model.specs.Faults.{fault_of}
use Rattle.mini_certificate.proofs.Told.{told_under}
use Rattle.mini_certificate.proofs.checking.refuse_program.Goals as goal

pub returns : goal.returns
returns c = told_under (codes "program") (fault_of c.args.error) (fault_of c.under.result) c.refuse_unread.result c.under.ensures c.refuse_unread.ensures
