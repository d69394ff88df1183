use Rattle.std.proofs.Common.{◌≡◌, ◌∙◌, ap, refl, sym, false}
use Rattle.std.proofs.lemmas.Result.{on_ok_weaker}
use Rattle.mini_context.specs.Lists.{Put}
use Rattle.mini_context.specs.Tables.{mark_at}
use Rattle.mini_context.proofs.Passing.{carried_unnoted, noted, unnoted}
use Rattle.mini_context.proofs.early.note_read.Goals as goal
use Rattle.mini_context.proofs.early.note_read.Goals.{then-around-via-then-around, then-around-via-else-around+then-is_marked}

pub returns : goal.returns
returns c =
    let open_now : mark_at c.args.moments.now.ended.items c.args.symbol.0 ≡ false = ap (λ r. mark_at r c.args.symbol.0) (sym c.as_slice.ensures.value) ∙ sym c.is_marked.ensures ∙ c.if-is_marked.false in
    record {
      ended = on_ok_weaker _ (λ (p : Put c.args.symbol.0 c.args.around.number c.args.moments.now.early.items c.put_number.new.lists.items). refl) c.put_number.ensures;
      lists = on_ok_weaker _ (λ (p : Put c.args.symbol.0 c.args.around.number c.args.moments.now.early.items c.put_number.new.lists.items). p.lists) c.put_number.ensures;
      reads = on_ok_weaker _ (noted c.args.moments.now.ended.items c.args.moments.now.early.items c.put_number.new.lists.items c.args.symbol.0 c.args.around c.if-around.false open_now) c.put_number.ensures;
    }

pub returns-then-around : goal.returns-then-around
returns-then-around c =
    elim c.then-around.branch [
      | then-around-via-then-around w ↦ record { ended = refl; lists = refl; reads = λ s h b. carried_unnoted c.args.moments.now.ended.items c.args.moments.now.early.items c.args.symbol.0 c.args.around w.if-around.true s b }
      | then-around-via-else-around+then-is_marked w ↦ record { ended = refl; lists = refl; reads = λ s h b. unnoted c.args.moments.now.ended.items c.args.moments.now.early.items c.args.symbol.0 c.args.around (ap (λ r. mark_at r c.args.symbol.0) (sym w.as_slice.ensures.value) ∙ sym w.is_marked.ensures ∙ w.if-is_marked.true) s b }
    ]
