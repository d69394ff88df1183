use Rattle.std.proofs.Common.{ap, ◌∙◌}
use Rattle.std.specs.Prelude.{codes}
use Rattle.std.proofs.lemmas.Result.{IfOk-weaker}
use Rattle.serde_json.specs.Data.{object, member, no_members}
use Rattle.mini_model.specs.Faults.{fault_of}
use Rattle.mini_writer.proofs.Programs.{units_accepted}
use Rattle.mini_writer.proofs.Units.{shaped_units}
use Rattle.mini_certificate.specs.Certificates.{line_of}
use Rattle.mini_certificate.specs.Logs.{log_data}
use Rattle.mini_certificate.proofs.BothEnds.{agreed}
use Rattle.mini_certificate.proofs.Floats.{program_plain}
use Rattle.mini_certificate.proofs.Told.{fault_early, told_weaker, refused_weaker}
use Rattle.mini_certificate.proofs.logging.log_tree.Goals as goal

pub tell_certificate-requires : goal.tell_certificate-requires
tell_certificate-requires c = rw c.in-Ok.ensures (program_plain c.args.tree.now)

pub returns-in-Ok-make_steps-clause-answered : goal.returns-in-Ok-make_steps-clause-answered
returns-in-Ok-make_steps-clause-answered c =
    let log = c.in-Ok-make_steps.log in
    IfOk-weaker c.tell_certificate.result _ _
    (λ text h. record {
      free = c.in-Ok-make_steps.ensures.free;
      log = log;
      last = c.make_steps.new.tree;
      leads = c.in-Ok-make_steps.ensures.replays;
      upheld = c.in-Ok-make_steps.ensures.upheld;
      complete = c.in-Ok-make_steps.ensures.all;
      written = h.is ∙ ap (λ d. line_of (object (member (codes "log") (log_data log) (member (codes "program") d no_members)))) c.in-Ok.ensures;
      accepted = units_accepted c.args.tree.now c.requires.shaped (shaped_units c.args.tree.now c.requires.shaped);
      agreed = λ p u same read.
          agreed c.accepted_logs_keep.ensures.keeps c.accepted_logs_keep.ensures.lighter c.args.options.now p c.requires.read.0 c.args.tree.now c.make_steps.new.tree u log c.requires.shaped c.requires.read.1 h.small
          c.in-Ok-make_steps.ensures.free c.in-Ok-make_steps.ensures.replays same read;
    })
    c.tell_certificate.ensures.text

pub returns-in-Ok-make_steps-clause-refused : goal.returns-in-Ok-make_steps-clause-refused
returns-in-Ok-make_steps-clause-refused c = refused_weaker c.tell_certificate.result _ _ (λ line h. absurd h) c.tell_certificate.ensures.memory

pub returns-in-Err-make_steps-clause-refused : goal.returns-in-Err-make_steps-clause-refused
returns-in-Err-make_steps-clause-refused c =
    told_weaker c.refuse_unread.result _ _
    (λ line h. let (f, is, told) = h in record { fault = f; early = fault_early (fault_of c.in-Err-make_steps.error) c.args.tree.now f c.in-Err-make_steps.ensures.refused is; told = told })
    c.refuse_unread.ensures
