use Rattle.std.proofs.Common.{◌≡◌, ℕ, zero, suc, ◌<◌, ◌≤◌, List, [], ◌++◌, refl, ap, sym, ◌∙◌, append_assoc, arith}
use Rattle.mini_model.specs.Tree.{Tree, Trees, node, children, count}
use Rattle.mini_node.specs.Children.{number_of}
use Rattle.mini_kept.specs.Carried.{with_number, numbers, all_numbers}
use Rattle.mini_peephole.proofs.Gathered.{Gathers, all_rest, turn, ended}
use Rattle.mini_peephole.proofs.named.+numbers.Goals as goal

gathers : Gathers (λ i t. numbers t) (λ i ts. all_numbers ts)
unfolding numbers
gathers = record { at_none = λ i. refl; at_more = λ i t ts. refl }

own_first : (n : ℕ) (ns : List ℕ) → with_number n ns ≡ with_number n [] ++ ns
own_first zero ns = refl
own_first (suc n) ns = refl

-- its own number, and those below
node_numbers : (t : Tree) (n : ℕ) (ts : Trees) → n ≡ number_of t → ts ≡ children t → numbers t ≡ with_number n [] ++ all_numbers ts
unfolding numbers
node_numbers (node h xs k us) n ts e f = rw (e, f) (own_first k (all_numbers us))

pub push_all_numbers-loop-at-init : goal.push_all_numbers-loop-at-init
push_all_numbers-loop-at-init t c = ap (λ ts. c.args.found.now ++ all_numbers ts) (all_rest c.args.nodes.now)

pub push_all_numbers-loop-at-preserved : goal.push_all_numbers-loop-at-preserved
push_all_numbers-loop-at-preserved t c =
    let within : c.loop-at.at < count c.args.nodes.now = omega arith in
    turn _ _ gathers c.args.nodes.now c.loop-at.at c.loop-at.found c.push_numbers.new.found _ within (c.in_ok-push_numbers.ensures ∙ ap (λ u. c.loop-at.found ++ numbers u) c.child.ensures.value) c.loop-at.invariant

pub push_all_numbers-returns : goal.push_all_numbers-returns
push_all_numbers-returns t c =
    let over : count c.args.nodes.now ≤ c.loop-at.at = omega arith in
    ended _ _ gathers c.args.nodes.now c.loop-at.at c.loop-at.found _ over c.loop-at.invariant

pub push_numbers-returns : goal.push_numbers-returns
push_numbers-returns t c =
    let n = c.number.result in
    let kids = c.children.result.now in
    let whole : c.args.found.now ++ numbers c.args.node.now ≡ c.push_number.new.found ++ all_numbers kids =
    ap (λ r. c.args.found.now ++ r) (node_numbers c.args.node.now n kids c.number.ensures c.children.ensures)
    ∙ sym (append_assoc c.args.found.now (with_number n []) (all_numbers kids))
    ∙ ap (λ r. r ++ all_numbers kids) (sym c.in_ok-push_number.ensures) in
    rw whole c.push_all_numbers.ensures
