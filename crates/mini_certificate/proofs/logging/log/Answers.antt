use Rattle.std.proofs.Common.{inl, inr}
use Rattle.std.proofs.lemmas.Result.{IfOk-weaker}
use Rattle.serde_json.specs.View.{view}
use Rattle.mini_model.specs.Faults.{fault_of}
use Rattle.mini_accept.proofs.Shaped.{program_shaped}
use Rattle.mini_certificate.proofs.BothEnds.{accepts_tree}
use Rattle.mini_certificate.proofs.Members.{countable_tree}
use Rattle.mini_certificate.proofs.Told.{fault_is, told_weaker, refused_weaker}
use Rattle.mini_certificate.proofs.logging.log.Goals as goal

pub log_read-requires-clause-shaped : goal.log_read-requires-clause-shaped
log_read-requires-clause-shaped c =
    let (n, read, few) = countable_tree c.args.options.now.max_depth (view c.args.value) c.in-Ok.tree c.requires c.in-Ok.ensures in
    program_shaped c.args.options.now.max_depth (view c.args.value) c.in-Ok.tree n read

pub log_read-requires-clause-symbols : goal.log_read-requires-clause-symbols
log_read-requires-clause-symbols c = let (n, read, few) = countable_tree c.args.options.now.max_depth (view c.args.value) c.in-Ok.tree c.requires c.in-Ok.ensures in few.symbols

pub log_read-requires-clause-references : goal.log_read-requires-clause-references
log_read-requires-clause-references c = let (n, read, few) = countable_tree c.args.options.now.max_depth (view c.args.value) c.in-Ok.tree c.requires c.in-Ok.ensures in few.references

pub log_read-requires-clause-read : goal.log_read-requires-clause-read
log_read-requires-clause-read c = (view c.args.value, accepts_tree c.args.options.now.max_depth (view c.args.value) c.in-Ok.tree c.in-Ok.ensures)

pub returns-in-Ok-clause-answered : goal.returns-in-Ok-clause-answered
returns-in-Ok-clause-answered c = IfOk-weaker c.log_read.result _ _ (λ text h. record { first = c.in-Ok.tree; read = c.in-Ok.ensures; holds = h }) c.log_read.ensures.answered

pub returns-in-Ok-clause-refused : goal.returns-in-Ok-clause-refused
returns-in-Ok-clause-refused c = refused_weaker c.log_read.result _ _ (λ line h. inr (record { first = c.in-Ok.tree; read = c.in-Ok.ensures; holds = h })) c.log_read.ensures.refused

pub returns-in-Err-clause-refused : goal.returns-in-Err-clause-refused
returns-in-Err-clause-refused c = told_weaker c.refuse_unread.result _ _ (λ line h. let (f, is, told) = h in inl (record { fault = f; read = fault_is (fault_of c.in-Err.error) _ f c.in-Err.ensures is; told = told })) c.refuse_unread.ensures
