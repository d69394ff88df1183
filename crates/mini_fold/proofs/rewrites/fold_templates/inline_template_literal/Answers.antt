use Rattle.std.proofs.Common.{◌<◌, ◌≡◌, Some, refl, sym, ap, subst, ◌∙◌}
use Rattle.std.specs.Prelude.{◌+◌}
use Rattle.mini_model.specs.declared.place.Position.TheVariants.{Expr}
use Rattle.mini_model.specs.Tree.{children, count}
use Rattle.mini_tree.specs.Rule.{Moves}
use Rattle.mini_fold.specs.FoldTemplates.{texts_of, parts_of, sewn_at, inlined, spare, Gives}
use Rattle.mini_fold.proofs.Templates.{no_whole, whole_counts, found_in, moved, at_rest}
use Rattle.mini_fold.proofs.rewrites.fold_templates.inline_template_literal.Goals as goal

pub returns-then-not-is_whole : goal.returns-then-not-is_whole
returns-then-not-is_whole c = (refl, no_whole c.args.seat c.args.node.now (sym c.is_whole.ensures.kind ∙ c.if-not-is_whole.true))

pub inline_part-requires-clause-counts : goal.inline_part-requires-clause-counts
inline_part-requires-clause-counts c =
    subst (λ t. count (texts_of t) ≡ count (parts_of t) + 1) (sym c.taken.ensures.value) (whole_counts c.args.node.now (sym c.is_whole.ensures.kind ∙ c.if-not-is_whole.false))

pub returns-in_ok-node-in-Some : goal.returns-in_ok-node-in-Some
returns-in_ok-node-in-Some c =
    let is = sym c.is_whole.ensures.kind ∙ c.if-not-is_whole.false in
    let counted = c.len.ensures ∙ ap count (c.children.ensures ∙ ap children c.child.ensures.value) in
    let spared = c.spare-spared.ensures ∙ ap (spare c.args.seat) counted in
    let texts = c.children-2.ensures ∙ ap children c.child-2.ensures.value in
    let parts = c.children-3.ensures ∙ ap children c.child-3.ensures.value in
    let x = c.in-Some.found in
    let within = found_in (λ x. x.0 < count c.children-3.result.now) c.in_ok-found.field-0 x c.in-Some.is c.in_ok-found.ensures.found in
    let made = found_in (λ x. Some x.1 ≡ sewn_at c.spare-spared.result c.children-2.result.now c.children-3.result.now x.0) c.in_ok-found.field-0 x c.in-Some.is c.in_ok-found.ensures.made in
    subst (Moves Gives (Expr c.args.seat) c.args.node.now) (sym (c.in_ok-node-in-Some.ensures ∙ ap (λ t. inlined x.0 x.1 t) c.taken.ensures.value))
    (moved c.args.seat c.args.node.now is c.spare-spared.result c.children-2.result.now c.children-3.result.now spared texts parts x.0 x.1 within made)

pub returns-in-None : goal.returns-in-None
returns-in-None c =
    let is = sym c.is_whole.ensures.kind ∙ c.if-not-is_whole.false in
    let counted = c.len.ensures ∙ ap count (c.children.ensures ∙ ap children c.child.ensures.value) in
    let spared = c.spare-spared.ensures ∙ ap (spare c.args.seat) counted in
    let texts = c.children-2.ensures ∙ ap children c.child-2.ensures.value in
    let parts = c.children-3.ensures ∙ ap children c.child-3.ensures.value in
    (refl, at_rest c.args.seat c.args.node.now is c.spare-spared.result c.children-2.result.now c.children-3.result.now spared texts parts c.in_ok-found.field-0 c.in-None.is c.in_ok-found.ensures.any)
