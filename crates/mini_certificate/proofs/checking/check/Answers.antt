use Rattle.std.proofs.Common.{inl, inr}
use Rattle.std.proofs.lemmas.Result.{IfOk-weaker}
use Rattle.serde_json.specs.View.{view}
use Rattle.mini_model.specs.Faults.{fault_of}
use Rattle.mini_accept.proofs.Shaped.{program_shaped}
use Rattle.mini_certificate.proofs.Members.{countable_program}
use Rattle.mini_certificate.proofs.Told.{fault_is, told_weaker, refused_weaker}
use Rattle.mini_certificate.proofs.checking.check.Goals as goal

pub check_read-requires-clause-shaped : goal.check_read-requires-clause-shaped
check_read-requires-clause-shaped c =
    let (x, n, read, few) = countable_program c.args.options.now.max_depth (view c.args.value) c.in-Ok.certificate.program c.in-Ok.certificate.log c.requires c.in-Ok.ensures in
    program_shaped c.args.options.now.max_depth x c.in-Ok.certificate.program n read

pub check_read-requires-clause-symbols : goal.check_read-requires-clause-symbols
check_read-requires-clause-symbols c =
    let (x, n, read, few) = countable_program c.args.options.now.max_depth (view c.args.value) c.in-Ok.certificate.program c.in-Ok.certificate.log c.requires c.in-Ok.ensures in
    few.symbols

pub check_read-requires-clause-references : goal.check_read-requires-clause-references
check_read-requires-clause-references c =
    let (x, n, read, few) = countable_program c.args.options.now.max_depth (view c.args.value) c.in-Ok.certificate.program c.in-Ok.certificate.log c.requires c.in-Ok.ensures in
    few.references

pub returns-in-Ok-clause-answered : goal.returns-in-Ok-clause-answered
returns-in-Ok-clause-answered c = IfOk-weaker c.check_read.result _ _ (λ text h. record { first = c.in-Ok.certificate.program; log = c.in-Ok.certificate.log; read = c.in-Ok.ensures; holds = h }) c.check_read.ensures.answered

pub returns-in-Ok-clause-refused : goal.returns-in-Ok-clause-refused
returns-in-Ok-clause-refused c = refused_weaker c.check_read.result _ _ (λ line h. inr (record { first = c.in-Ok.certificate.program; log = c.in-Ok.certificate.log; read = c.in-Ok.ensures; holds = h })) c.check_read.ensures.refused

pub returns-in-Err-clause-refused : goal.returns-in-Err-clause-refused
returns-in-Err-clause-refused c = told_weaker c.refuse_unread.result _ _ (λ line h. let (f, is, told) = h in inl (record { fault = f; read = fault_is (fault_of c.in-Err.error) _ f c.in-Err.ensures is; told = told })) c.refuse_unread.ensures
