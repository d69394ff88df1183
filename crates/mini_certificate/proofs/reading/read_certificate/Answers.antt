use Rattle.std.proofs.Common.{rules}
use Rattle.std.specs.Prelude.{codes}
use Rattle.serde_json.specs.Find.{get}
use Rattle.serde_json.specs.View.{view}
use Rattle.mini_model.specs.Faults.{Fails, under}
use Rattle.mini_certificate.specs.Certificates.{certificate_at, member_or, tree_at}
use Rattle.mini_certificate.specs.Logs.{log_at}
use Rattle.mini_certificate.proofs.Parts.{first_fails, second_fails, third_fails, fourth_fails, all_read}
use Rattle.mini_certificate.proofs.reading.read_certificate.Goals as goal

pub returns-in_err-entries : goal.returns-in_err-entries
returns-in_err-entries c =
    let stop : Fails c.in_err-entries.field-0.0 (certificate_at c.args.max_depth (view c.args.value.now)) =
    first_fails c.in_err-entries.field-0.0 log_at (λ p. under (codes "program") (tree_at c.args.max_depth p)) (member_or (get (codes "log") (view c.args.value.now))) (member_or (get (codes "program") (view c.args.value.now))) c.in_err-entries.ensures in
    search (rules, stop)

pub returns-in_err-program : goal.returns-in_err-program
returns-in_err-program c =
    let stop : Fails c.in_err-program.field-0.0 (certificate_at c.args.max_depth (view c.args.value.now)) =
    second_fails c.in_err-program.field-0.0 log_at (λ p. under (codes "program") (tree_at c.args.max_depth p)) (member_or (get (codes "log") (view c.args.value.now))) (member_or (get (codes "program") (view c.args.value.now)))
    (view c.in_ok-entries.entries.now) c.in_ok-entries.ensures c.in_err-program.ensures in
    search (rules, stop)

pub returns-in_err-log : goal.returns-in_err-log
returns-in_err-log c =
    let stop : Fails c.in_err-log.field-0.0 (certificate_at c.args.max_depth (view c.args.value.now)) =
    third_fails c.in_err-log.field-0.0 log_at (λ p. under (codes "program") (tree_at c.args.max_depth p)) (member_or (get (codes "log") (view c.args.value.now))) (member_or (get (codes "program") (view c.args.value.now)))
    (view c.in_ok-entries.entries.now) (view c.in_ok-program.program.now) c.in_ok-entries.ensures c.in_ok-program.ensures c.in_err-log.ensures in
    search (rules, stop)

pub returns-in_err-tree : goal.returns-in_err-tree
returns-in_err-tree c =
    let stop : Fails c.in_err-tree.field-0.0 (certificate_at c.args.max_depth (view c.args.value.now)) =
    fourth_fails c.in_err-tree.field-0.0 log_at (λ p. under (codes "program") (tree_at c.args.max_depth p)) (member_or (get (codes "log") (view c.args.value.now))) (member_or (get (codes "program") (view c.args.value.now)))
    (view c.in_ok-entries.entries.now) (view c.in_ok-program.program.now) c.in_ok-log.log c.in_ok-entries.ensures c.in_ok-program.ensures c.in_ok-log.ensures c.in_err-tree.ensures in
    search (rules, stop)

pub returns : goal.returns
returns c =
    all_read log_at (λ p. under (codes "program") (tree_at c.args.max_depth p)) (member_or (get (codes "log") (view c.args.value.now))) (member_or (get (codes "program") (view c.args.value.now)))
    (view c.in_ok-entries.entries.now) (view c.in_ok-program.program.now) c.in_ok-log.log c.in_ok-tree.tree c.in_ok-entries.ensures c.in_ok-program.ensures c.in_ok-log.ensures c.in_ok-tree.ensures
