use Rattle.std.proofs.Common.{◌∙◌, sym, ap}
use Rattle.std.specs.Prelude.{not}
use Rattle.mini_rows.specs.Past.{binds, all_of, lets_at_most, lets_here}
use Rattle.mini_unused.specs.RemoveUnusedDeclaration as listing
use Rattle.mini_past.proofs.FirstPlaces.{marked_by, on_ok, here_listed, here_unlisted}
use Rattle.mini_past.proofs.let_places.mark_hidden_here.Goals as goal

pub returns-then-not-declares_list : goal.returns-then-not-declares_list
returns-then-not-declares_list c =
    let t = c.args.statement.now in
    on_ok c.mark_names.result
    (λ m. marked_by (λ k. binds k t) (λ k. not (lets_here k t)) 0 c.args.places.now c.mark_names.new.places (λ k. here_unlisted k t (sym c.if-not-declares_list.ensures.kind)) m)
    c.mark_names.ensures

pub returns : goal.returns
returns c =
    let t = c.args.statement.now in
    let is_lexical = c.is_lexical-is_lexical.result in
    let ds = c.children.result.now in
    on_ok c.mark_all_hidden.result
    (λ m. marked_by (λ k. not (all_of (lets_at_most is_lexical k) ds)) (λ k. not (lets_here k t)) 0 c.args.places.now c.mark_all_hidden.new.places
    (λ k. here_listed k t c.child.result.now is_lexical ds (sym c.if-not-declares_list.ensures.kind) (c.is_lexical-is_lexical.ensures ∙ ap listing.is_lexical_shape c.shape.ensures) c.child.ensures.value c.children.ensures) m)
    c.mark_all_hidden.ensures
