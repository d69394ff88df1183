use Rattle.std.proofs.Common.{ap, sym, ◌∙◌}
use Rattle.serde_json.specs.Find.{get}
use Rattle.serde_json.specs.View.{view}
use Rattle.mini_plan.proofs.Marks.{mark_here, mark_below, no_mark, off_chain}
use Rattle.mini_plan.proofs.calls.+has_mark.Goals as goal

pub returns-then-not-is_chain_link : goal.returns-then-not-is_chain_link
returns-then-not-is_chain_link t c = sym (off_chain (view c.args.value.now) (sym c.is_chain_link.ensures ∙ c.if-not-is_chain_link.true))

pub returns-then-has_true : goal.returns-then-has_true
returns-then-has_true t c = sym (mark_here (view c.args.value.now) (sym c.is_chain_link.ensures ∙ c.if-not-is_chain_link.false) (sym c.has_true.ensures ∙ c.if-has_true.true))

pub returns-in-None : goal.returns-in-None
returns-in-None t c =
    let d = view c.args.value.now in
    sym (no_mark d (sym c.is_chain_link.ensures ∙ c.if-not-is_chain_link.false) (sym c.has_true.ensures ∙ c.if-has_true.false) (ap (λ k. get k d) (sym c.link_key.ensures) ∙ sym c.in-None.ensures))

pub returns-in-Some : goal.returns-in-Some
returns-in-Some t c =
    let d = view c.args.value.now in
    c.has_mark.ensures
    ∙ sym (mark_below d (view c.in-Some.next.now) (sym c.is_chain_link.ensures ∙ c.if-not-is_chain_link.false) (sym c.has_true.ensures ∙ c.if-has_true.false) (ap (λ k. get k d) (sym c.link_key.ensures) ∙ sym c.in-Some.ensures))
