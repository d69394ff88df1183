use Rattle.std.proofs.Common.{◌≡◌, ℕ, Bool, ◌+◌, ◌-◌, ◌<◌, ◌≤◌, ◌⊎◌, suc, refl, sym, ap, ◌∙◌, subst, arith}
use Rattle.std.specs.Prelude.{true, false, ◌&&◌, nat_le}
use Rattle.std.proofs.Common.{inl, inr}
use Rattle.mini_model.specs.Tree.{Trees, none, ◌▸◌, absent, count, child_or_absent}
use Rattle.mini_model.specs.Paths.{append}
use Rattle.mini_node.specs.Children.{rest_children, with_child}
use Rattle.mini_node.specs.Walks.{from_first, count_with, rest_with}
use Rattle.mini_held.specs.Parts.{left_after}
use Rattle.mini_held.proofs.PartsGone.{same_child, same_rest, turn_gone, turn_kept, all_turned}
use Rattle.mini_held.proofs.parts.left_of.Goals.{then-is_gone, else-is_gone+in_ok-push}
use Rattle.mini_held.proofs.parts.left_of.Goals as goal

pub loop-at-init : goal.loop-at-init
loop-at-init g c =
    let I = g.I.IdleParts.idle in
    (refl, refl, ap (λ us. append us (left_after I (count us) (rest_children 0 c.args.parts))) c.in_ok-left.ensures ∙ ap (left_after I 0) (from_first c.args.parts))

pub overflow_sub-after : goal.overflow_sub-after
overflow_sub-after g c =
    let (counted, others, whole) = c.loop-at.invariant in
    let taken = c.len-in-loop-at.ensures ∙ ap count c.take-part.ensures.rest ∙ count_with c.loop-at.parts c.loop-at.at absent in
    omega (arith, counted, taken, c.len-at-end.ensures, c.loop-at-test.true)

pub overflow_sub-after-in-loop-at : goal.overflow_sub-after-in-loop-at
overflow_sub-after-in-loop-at g c =
    let (counted, others, whole) = c.loop-at.invariant in
    let taken = c.len-in-loop-at.ensures ∙ ap count c.take-part.ensures.rest ∙ count_with c.loop-at.parts c.loop-at.at absent in
    omega (arith, counted, taken, c.len-at-end.ensures, c.loop-at-test.true)

stayed : {m n : ℕ} {b e : Bool} → (m ≤ 0) ⊎ (b ≡ false) → m ≡ n → b ≡ e → (n ≤ 0) ⊎ (e ≡ false)
stayed (inl h) p q = inl (omega (arith, h, p))
stayed (inr h) p q = inr (sym q ∙ h)

pub loop-at-preserved : goal.loop-at-preserved
loop-at-preserved g c =
    let I = g.I.IdleParts.idle in
    let ts : Trees = c.args.parts in
    let i = c.loop-at.at in
    let (counted, others, whole) = c.loop-at.invariant in
    let next : i + 1 ≡ suc i = omega arith in
    let now = ap count c.take-part.ensures.rest ∙ count_with c.loop-at.parts i absent in
    let below : i < count ts = omega (arith, c.len-at-end.ensures, c.loop-at-test.true) in
    let there : i < count c.loop-at.parts = omega (arith, counted, below) in
    let after : c.len-in-loop-at.result - i - 1 ≡ count ts - i - 1 = ap (λ n. n - i - 1) (c.len-in-loop-at.ensures ∙ now ∙ counted) in
    let part : c.take-part.result ≡ child_or_absent ts i = c.take-part.ensures.value ∙ same_child c.loop-at.parts ts i there below others in
    let told : nat_le 2 (c.len-in-loop-at-2.result + (c.len-in-loop-at.result - i - 1)) && I c.take-part.result ≡ nat_le 2 (count c.loop-at.left + (count ts - i - 1)) && I (child_or_absent ts i) =
    ap (λ k. nat_le 2 (k + (c.len-in-loop-at.result - i - 1)) && I c.take-part.result) c.len-in-loop-at-2.ensures ∙ ap (λ k. nat_le 2 (count c.loop-at.left + k) && I c.take-part.result) after ∙ ap (λ t. nat_le 2 (count c.loop-at.left + (count ts - i - 1)) && I t) part in (
      now ∙ counted,
      ap (λ us. rest_children (i + 1) us) c.take-part.ensures.rest ∙ ap (λ k. rest_children k (with_child c.loop-at.parts i absent)) next ∙ rest_with c.loop-at.parts i absent ∙ same_rest c.loop-at.parts ts i there below others ∙ ap (λ k. rest_children k ts) (sym next),
      elim c.if-is_gone.branch [
        | then-is_gone w ↦
            let (some, gone) = c.is_gone.ensures.goes w.if-is_gone.true in
            subst (λ us. append us (left_after I (count us) (rest_children (i + 1) ts)) ≡ left_after I 0 ts) (sym w.left-is)
            (turn_gone I ts c.loop-at.left i below (subst (λ n. 0 < n) after some) (sym told ∙ gone) whole)
        | else-is_gone+in_ok-push w ↦
            subst (λ us. append us (left_after I (count us) (rest_children (i + 1) ts)) ≡ left_after I 0 ts) (sym w.left-is)
            (turn_kept I ts c.loop-at.left _ i below (stayed (c.is_gone.ensures.stays w.if-is_gone.false) after told) (w.in_ok-push.ensures.ok ∙ ap (λ t. append c.loop-at.left (t ▸ none)) part) whole)
      ],
    )

pub returns : goal.returns
returns g c =
    let (counted, others, whole) = c.loop-at.invariant in
    all_turned g.I.IdleParts.idle c.args.parts c.loop-at.left c.loop-at.at (omega (arith, c.len-at-end.ensures, c.loop-at-test.false)) whole
