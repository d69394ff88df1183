use Rattle.std.proofs.Common.{◌≡◌, false, ◌∙◌, sym, ap}
use Rattle.std.specs.Prelude.{◌&&◌, not}
use Rattle.mini_rows.specs.Past.{binds, lets_at_most}
use Rattle.mini_past.specs.LetPlaces.{is_plain}
use Rattle.mini_past.proofs.FirstPlaces.{marked_by, on_ok, hidden_plain, hidden_otherwise}
use Rattle.mini_past.proofs.let_places.mark_hidden.Goals as goal
use Rattle.mini_past.proofs.let_places.mark_hidden.Goals.{else-is_lexical-via-then-is_lexical+else-is_plain, else-is_lexical-via-else-is_lexical}

pub returns-then-is_plain : goal.returns-then-is_plain
returns-then-is_plain c =
    let d = c.args.declarator.now in
    on_ok c.mark_names.result
    (λ m. marked_by (λ k. binds k c.child.result.now) (λ k. not (lets_at_most c.args.is_lexical k d)) c.args.place c.args.places.now c.mark_names.new.places
    (λ k. hidden_plain k c.args.is_lexical d c.child.result.now c.if-is_lexical.true (sym c.is_plain.ensures.kind ∙ c.if-is_plain.true) c.child.ensures.value) m)
    c.mark_names.ensures

pub returns : goal.returns
returns c =
    let d = c.args.declarator.now in
    let other : (c.args.is_lexical && is_plain d) ≡ false =
    elim c.else-is_lexical.branch [
      | else-is_lexical-via-then-is_lexical+else-is_plain w ↦ ap (λ b. b && is_plain d) w.if-is_lexical.true ∙ sym w.is_plain.ensures.kind ∙ w.if-is_plain.false
      | else-is_lexical-via-else-is_lexical w ↦ ap (λ b. b && is_plain d) w.if-is_lexical.false
    ] in
    on_ok c.mark_names-2.result
    (λ m. marked_by (λ k. binds k d) (λ k. not (lets_at_most c.args.is_lexical k d)) c.args.place c.args.places.now c.mark_names-2.new.places (λ k. hidden_otherwise k c.args.is_lexical d other) m)
    c.mark_names-2.ensures
