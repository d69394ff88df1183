use Rattle.std.proofs.Common.{subst, sym}
use Rattle.std.proofs.lemmas.List.{append-nil}
use Rattle.std.proofs.lemmas.Result.{on_ok_weaker}
use Rattle.mini_context.specs.Enclosing.{Enclosed}
use Rattle.mini_context.specs.Lists.{Housed}
use Rattle.mini_context.specs.Mentioned.{Joined}
use Rattle.mini_context.specs.Tables.{Marked, Noted}
use Rattle.mini_context.specs.Visits.{Visit, binds_at, bodies_at, caught_at, enclosing_at, exchanged_at, fixed_at, imported_at, lexical_at, mentions_at, patterns_at, reached_at, switched_at, values_at, writes_at}
use Rattle.mini_context.proofs.Marking.{fixed_marks, pattern_marks, switched_marks}
use Rattle.mini_context.proofs.survey.visit.Goals as goal

pub returns : goal.returns
returns c =
    let v : Visit = record { standing = c.args.standing; tree = c.args.node.now } in
    let old = c.args.tables.now in
    let n = c.args.node.now in
    on_ok_weaker c.enclose.result (λ enclosed. record {
      fixed = subst (λ ns. Marked ns old.fixed.items c.mark_part.new.marks.items) (sym (append-nil (fixed_at v))) (fixed_marks n c.shape-shape.result.now c.fixed_part.result c.children-nodes.result.now old.fixed.items c.mark_part.new.marks.items c.shape-shape.ensures c.fixed_part.ensures c.children-nodes.ensures c.mark_part.ensures);
      exchanged = subst (λ ns. Marked ns old.exchanged.items c.mark_exchanged.new.marks.items) (sym (append-nil (exchanged_at v))) c.mark_exchanged.ensures;
      reached = subst (λ ns. Marked ns old.reached.items c.mark_reached.new.marks.items) (sym (append-nil (reached_at v))) c.mark_reached.ensures;
      imported = subst (λ ns. Marked ns old.imported.items c.mark_imported.new.marks.items) (sym (append-nil (imported_at v))) c.mark_imported.ensures;
      patterns = subst (λ ns. Marked ns old.patterns.items c.mark_part-3.new.marks.items) (sym (append-nil (patterns_at v))) (pattern_marks n c.shape-shape.result.now c.number.result c.pattern_part-pattern.result c.children-nodes.result.now old.patterns.items c.mark_part-3.new.marks.items c.shape-shape.ensures c.number.ensures c.pattern_part-pattern.ensures c.children-nodes.ensures c.mark_part-3.ensures);
      lexical = subst (λ ns. Marked ns old.lexical.items c.mark_lexical.new.marks.items) (sym (append-nil (lexical_at v))) c.mark_lexical.ensures;
      switched = subst (λ ns. Marked ns old.switched.items c.mark_part-2.new.marks.items) (sym (append-nil (switched_at v))) (switched_marks n c.shape-shape.result.now c.switched_part.result c.children-nodes.result.now old.switched.items c.mark_part-2.new.marks.items c.shape-shape.ensures c.switched_part.ensures c.children-nodes.ensures c.mark_part-2.ensures);
      caught = subst (λ ns. Marked ns old.caught.items c.mark_caught.new.marks.items) (sym (append-nil (caught_at v))) c.in_ok-mark_caught.ensures;
      mentions = subst (λ ms. Joined ms old.mentioned.items c.join_own.new.table.items) (sym (append-nil (mentions_at v))) c.join_own.ensures;
      written = subst (λ ms. Joined ms old.written.items c.join_write.new.table.items) (sym (append-nil (writes_at v))) c.join_write.ensures;
      values = subst (λ ms. Joined ms old.given.items c.join_values.new.given.items) (sym (append-nil (values_at v))) c.in_ok-join_values.ensures;
      homes = subst (λ ms. Housed ms old.homes.items c.put_home.new.homes.items) (sym (append-nil (binds_at v))) c.in_ok-put_home.ensures;
      enclosing = subst (λ ps. Enclosed ps old.enclosing c.enclose.new.params) (sym (append-nil (enclosing_at v))) enclosed;
      this_events = subst (λ bs. Noted (λ f. f.binds_this) bs old.this_events.items c.mark_body.new.this_events.items) (sym (append-nil (bodies_at v))) c.in_ok-mark_body.ensures.this_events;
      arguments = subst (λ bs. Noted (λ f. f.has_arguments) bs old.arguments.items c.mark_body.new.arguments.items) (sym (append-nil (bodies_at v))) c.in_ok-mark_body.ensures.arguments;
    }) c.enclose.ensures
