use Rattle.std.proofs.Common.{Bool, ◌≡◌, true, false, refl, sym, subst, ◌∙◌}
use Rattle.mini_steady.specs.Idle.{Loses}
use Rattle.mini_steady.proofs.IdleRows.{parts_lose, no_still}
use Rattle.mini_steady.proofs.idle.drop_some.Goals as goal

pub returns : goal.returns
returns c = go c.in_ok-changed.changed refl
  where
    go : (b : Bool) → c.in_ok-changed.changed ≡ b → Loses c.args.seat c.args.node.now c.drop_parts.new.node b
    go true e = subst (λ u. Loses c.args.seat c.args.node.now u true) (sym (c.in_ok-changed.ensures.left e)) (parts_lose c.args.seat c.args.node.now c.requires.kind (sym c.in_ok-changed.ensures.said ∙ e) c.requires.several)
    go false e = subst (λ u. Loses c.args.seat c.args.node.now u false) (sym (c.in_ok-changed.ensures.same e)) (no_still c.args.seat c.args.node.now c.requires.kind c.requires.several (sym c.in_ok-changed.ensures.said ∙ e))
