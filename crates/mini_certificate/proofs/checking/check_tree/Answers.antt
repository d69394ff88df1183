use Rattle.std.specs.Prelude.{string_bytes}
use Rattle.std.proofs.lemmas.Result.{IfOk-weaker}
use Rattle.mini_model.specs.Faults.{fault_of}
use Rattle.mini_certificate.proofs.Told.{holds, fails, fails_early, told_weaker, refused_weaker}
use Rattle.mini_certificate.proofs.checking.check_tree.Goals as goal

pub returns-in-Ok-clause-answered : goal.returns-in-Ok-clause-answered
returns-in-Ok-clause-answered c =
    IfOk-weaker c.tell.result _ _
    (λ text h. holds c.args.options.now c.args.tree.now c.judge.new.tree c.args.log.now c.in-Ok.verdict c.in-Ok.ensures.free c.in-Ok.ensures.judged c.requires.shaped c.in-Ok.ensures.upheld (string_bytes text) h)
    c.tell.ensures.answered

pub returns-in-Ok-clause-refused : goal.returns-in-Ok-clause-refused
returns-in-Ok-clause-refused c = refused_weaker c.tell.result _ _ (λ line h. fails c.args.options.now c.args.tree.now c.judge.new.tree c.args.log.now c.in-Ok.verdict c.in-Ok.ensures.free c.in-Ok.ensures.judged line h) c.tell.ensures.refused

pub returns-in-Err-clause-refused : goal.returns-in-Err-clause-refused
returns-in-Err-clause-refused c = told_weaker c.refuse_program.result _ _ (λ line h. fails_early c.args.options.now c.args.tree.now c.args.log.now (fault_of c.in-Err.error) c.in-Err.ensures.refused line h) c.refuse_program.ensures
