use Rattle.std.proofs.Common.{◌≡◌, ◌≤◌, ◌<◌, ◌-◌, ◌∙◌, ap, sym, refl, arith, ℕ, suc, Bool, false, nat_lt, if◌then◌else◌}
use Rattle.mini_model.specs.declared.shape.Shape.{Shape}
use Rattle.mini_model.specs.Tree.{Tree, Trees, node, none, ◌▸◌, count, node_count, child_or_absent, shape_of, children}
use Rattle.mini_laws.specs.Early.{is_labeled, is_loop_shape, is_loop, last_is_loop, last_by}
use Rattle.mini_scope.proofs.EarlyWalk.{child_smaller}
use Rattle.mini_scope.proofs.targets.+loops.Goals as goal

opened : (n : Tree) → is_loop n ≡ (if is_labeled (shape_of n) then last_is_loop (children n) else is_loop_shape (shape_of n))
unfolding is_loop
opened (node h xs m ts) = refl

held : (n : Tree) (h : Shape) (v : Bool) → v ≡ is_labeled h → h ≡ shape_of n → is_loop n ≡ (if v then last_is_loop (children n) else is_loop_shape (shape_of n))
held n h v e s = opened n ∙ ap (λ w. if w then last_is_loop (children n) else is_loop_shape (shape_of n)) (sym (e ∙ ap is_labeled s))

last_after : (t : Tree) (ts : Trees) → last_by (is_loop t) ts ≡ is_loop (child_or_absent (t ▸ ts) (count ts))
unfolding is_loop
last_after t none = refl
last_after t (u ▸ us) = last_after u us

last_child : (ts : Trees) (i : ℕ) → suc i ≡ count ts → last_is_loop ts ≡ is_loop (child_or_absent ts i)
unfolding is_loop
last_child none i e = absurd (omega arith)
last_child (t ▸ ts) i e = let same : count ts ≡ i = omega arith in last_after t ts ∙ ap (λ k. is_loop (child_or_absent (t ▸ ts) k)) same

no_last : (ts : Trees) → count ts ≤ 0 → last_is_loop ts ≡ false
unfolding is_loop
no_last none h = refl
no_last (t ▸ ts) h = absurd (omega arith)

pub is_loop-returns-then-is_labeled : goal.is_loop-returns-then-is_labeled
is_loop-returns-then-is_labeled t c = c.last_is_loop.ensures ∙ ap last_is_loop c.children.ensures ∙ sym (held c.args.node.now _ _ c.if-is_labeled.ensures c.shape.ensures)

pub is_loop-returns-else-is_labeled : goal.is_loop-returns-else-is_labeled
is_loop-returns-else-is_labeled t c = c.is_loop.ensures ∙ ap is_loop_shape c.shape-else-is_labeled.ensures ∙ sym (held c.args.node.now _ _ c.if-is_labeled.ensures c.shape.ensures)

pub last_is_loop-is_loop-requires : goal.last_is_loop-is_loop-requires
last_is_loop-is_loop-requires t c =
    let at = c.len-length.result - 1 in
    let within : at < count c.args.nodes.now = omega arith in
    (omega (arith, ap node_count c.child.ensures.value, child_smaller c.args.nodes.now at within), tt)

pub last_is_loop-returns-then-length-gt0 : goal.last_is_loop-returns-then-length-gt0
last_is_loop-returns-then-length-gt0 t c = c.is_loop.ensures ∙ ap is_loop c.child.ensures.value ∙ sym (last_child c.args.nodes.now (c.len-length.result - 1) (omega arith))

pub last_is_loop-returns-else-length-gt0 : goal.last_is_loop-returns-else-length-gt0
last_is_loop-returns-else-length-gt0 t c =
    let nothing : c.len-length.result ≡ 0 = omega arith in
    ap (nat_lt 0) nothing ∙ sym (no_last c.args.nodes.now (omega arith))
