-- Two calls that differ in their first argument: what is written for a choice between them is what a row says, and where nothing is
-- written no row reads it.
use Rattle.std.proofs.Common.{◌≡◌, ℕ, zero, suc, [], ◌+◌, ◌<◌, ◌≤◌, Bool, true, false, refl, sym, ap, ◌∙◌, true≢false, arith}
use Rattle.std.specs.Prelude.{◌&&◌, ◌||◌, if◌then◌else◌}
use Rattle.std.proofs.lemmas.Bool.{and_parts, false≢true}
use Rattle.mini_model.specs.declared.shape.Shape.TheVariants as shape
use Rattle.mini_model.specs.Tree.{Tree, Trees, node, none, ◌▸◌, listed, count, children, child_or_absent, first_or_absent, conditional, call}
use Rattle.mini_node.specs.Children.{part, without, with_inserted, rest_children}
use Rattle.mini_node.specs.Equal.{same_root, same_tree, same_trees}
use Rattle.mini_node.specs.Kinds.{is_call_expression, is_conditional}
use Rattle.mini_node.specs.Made.{call_expression_is, conditional_is}
use Rattle.mini_node.specs.Walks.{from_first, next_child, no_rest}
use Rattle.mini_node.proofs.Equality.{by_root, tree_itself, tree_same, trees_same}
use Rattle.mini_node.proofs.Equality as equality
use Rattle.mini_terms.specs.Effects.{ef}
use Rattle.mini_terms.specs.Reading.{is_item, is_plain_part}
use Rattle.mini_rows.specs.Choices.{spread, argument, CallRow}
use Rattle.mini_choices.specs.Calling.{is_spread, begins_with_item, begins_with_spread, begin_alike, are_others_same, is_idle, are_alike, calls_either, chosen_first, called}
use Rattle.mini_choices.proofs.Trials.{both_true}

-- ---- arguments

pub none_first : (ts : Trees) → count ts ≤ 0 → begins_with_item ts ≡ false
none_first none e = refl
none_first (t ▸ ts) e = absurd (omega (arith, e))

pub some_first : (ts : Trees) → begins_with_item ts ≡ true → 0 < count ts
some_first none e = absurd (true≢false (sym e))
some_first (t ▸ ts) e = omega arith

pub none_spread : (ts : Trees) → count ts ≤ 0 → begins_with_spread ts ≡ false
none_spread none e = refl
none_spread (t ▸ ts) e = absurd (omega (arith, e))

pub some_spread : (ts : Trees) → begins_with_spread ts ≡ true → 0 < count ts
some_spread none e = absurd (true≢false (sym e))
some_spread (t ▸ ts) e = omega arith

pub other_counts : (ts us : Trees) → 0 < count ts → 0 < count us → (count ts ≡ count us → ⊥) → false ≡ are_others_same ts us
other_counts none us h k n = absurd (omega (arith, h))
other_counts (t ▸ ts) none h k n = absurd (omega (arith, k))
other_counts (t ▸ ts) (u ▸ us) h k n = sym (equality.other_counts ts us (λ e. n (ap suc e)))

rest_is : (ts : Trees) → rest_children 1 ts ≡ without ts 0
rest_is none = refl
rest_is (t ▸ ts) = from_first ts

pub from_second : (ts us : Trees) → same_trees (rest_children 1 ts) (rest_children 1 us) ≡ are_others_same ts us
from_second ts us = λ i. same_trees (rest_is ts i) (rest_is us i)

pub each_stops : (ts us : Trees) (i : ℕ) → i < count ts → i < count us → same_tree (child_or_absent ts i) (child_or_absent us i) ≡ false → (b : Bool) → same_trees (rest_children i ts) (rest_children i us) ≡ b → false ≡ b
each_stops ts us i h k e b inv =
    sym (ap (λ c. c && same_trees (rest_children (suc i) ts) (rest_children (suc i) us)) e)
    ∙ sym (λ j. same_trees (next_child ts i h j) (next_child us i k j)) ∙ inv

pub each_goes_on : (ts us : Trees) (i : ℕ) → i < count ts → i < count us → same_tree (child_or_absent ts i) (child_or_absent us i) ≡ true → (b : Bool) → same_trees (rest_children i ts) (rest_children i us) ≡ b → same_trees (rest_children (i + 1) ts) (rest_children (i + 1) us) ≡ b
each_goes_on ts us i h k e b inv =
    let next : i + 1 ≡ suc i = omega arith in
    (λ j. same_trees (rest_children (next j) ts) (rest_children (next j) us))
    ∙ sym (ap (λ c. c && same_trees (rest_children (suc i) ts) (rest_children (suc i) us)) e)
    ∙ sym (λ j. same_trees (next_child ts i h j) (next_child us i k j)) ∙ inv

pub each_ends : (ts us : Trees) (i : ℕ) → count ts ≤ i → count us ≤ i → (b : Bool) → same_trees (rest_children i ts) (rest_children i us) ≡ b → true ≡ b
each_ends ts us i h k b inv = sym (λ j. same_trees (no_rest ts i h j) (no_rest us i k j)) ∙ inv

-- ---- what is written is what a row says

-- a list whose first item is there is of that and of the rest
begins : (ts : Trees) → 0 < count ts → ts ≡ child_or_absent ts 0 ▸ without ts 0
begins none e = absurd (omega (arith, e))
begins (t ▸ ts) e = refl

first_is : (ts : Trees) → first_or_absent ts ≡ child_or_absent ts 0
first_is none = refl
first_is (t ▸ ts) = refl

inserted_first : (ts : Trees) (t : Tree) → with_inserted ts 0 t ≡ t ▸ ts
inserted_first none t = refl
inserted_first (u ▸ ts) t = refl

spread_is : (t : Tree) → is_spread t ≡ true → t ≡ spread (part t 0)
spread_is (node shape.SpreadElement [] zero (a ▸ none)) e = refl
spread_is t e = absurd (false≢true e)

spread_is_no_item : (t : Tree) → is_item t ≡ true → is_spread t ≡ false
spread_is_no_item (node shape.SpreadElement xs n ts) e = absurd (true≢false (sym e))
spread_is_no_item (node h xs n ts) e = refl

-- two first arguments of which both are expressions, or both spread
record Firsts (a x y : Tree) : Type 0 where
  is_spread : Bool
  p : Tree
  q : Tree
  first : is_spread || is_item p ≡ true
  second : is_spread || is_item q ≡ true
  first_is : x ≡ argument is_spread p
  second_is : y ≡ argument is_spread q
  chosen : chosen_first a x y ≡ argument is_spread (conditional a p q)

both_items : (a x y : Tree) → is_item x ≡ true → is_item y ≡ true → Firsts a x y
both_items a x y e f = record { is_spread = false; p = x; q = y; first = e; second = f; first_is = refl; second_is = refl; chosen = ap (λ b. if b then spread (conditional a (part x 0) (part y 0)) else conditional a x y) (spread_is_no_item x e) }

both_spread : (a x y : Tree) → is_spread x ≡ true → is_spread y ≡ true → Firsts a x y
both_spread a x y e f = record { is_spread = true; p = part x 0; q = part y 0; first = refl; second = refl; first_is = spread_is x e; second_is = spread_is y f; chosen = ap (λ b. if b then spread (conditional a (part x 0) (part y 0)) else conditional a x y) e }

record Begun (a : Tree) (ts us : Trees) : Type 0 where
  firsts : Firsts a (child_or_absent ts 0) (child_or_absent us 0)
  some : 0 < count ts
  others : 0 < count us

begun : (a : Tree) (ts us : Trees) → begin_alike ts us ≡ true → Begun a ts us
begun a ts us e = go (begins_with_item ts && begins_with_item us) refl e
  where
    go : (b : Bool) → begins_with_item ts && begins_with_item us ≡ b → b || (begins_with_spread ts && begins_with_spread us) ≡ true → Begun a ts us
    go true h e =
        let (x, y) = and_parts (begins_with_item ts) (begins_with_item us) h in
        record { firsts = both_items a (child_or_absent ts 0) (child_or_absent us 0) x y; some = some_first ts x; others = some_first us y }
    go false h e =
        let (x, y) = and_parts (begins_with_spread ts) (begins_with_spread us) e in
        record { firsts = both_spread a (child_or_absent ts 0) (child_or_absent us 0) x y; some = some_spread ts x; others = some_spread us y }

-- a call is of its first argument and of the others
call_of : (t : Tree) → is_call_expression t ≡ true → 0 < count (children (part t 1)) → t ≡ call false (part t 0) (child_or_absent (children (part t 1)) 0 ▸ without (children (part t 1)) 0)
call_of t e some = call_expression_is t e ∙ ap (call false (part t 0)) (begins (children (part t 1)) some)

pub called_row : (asked : Bool) (n : Tree) → calls_either asked n ≡ true → CallRow asked n (called n)
called_row asked n e =
    let yes = part n 1 in
    let no = part n 2 in
    let first = children (part yes 1) in
    let second = children (part no 1) in
    let (chooses, e1) = and_parts (is_conditional n) (is_call_expression yes && (is_call_expression no && (are_alike asked yes no && ef asked (part n 0)))) e in
    let (left, e2) = and_parts (is_call_expression yes) (is_call_expression no && (are_alike asked yes no && ef asked (part n 0))) e1 in
    let (right, e3) = and_parts (is_call_expression no) (are_alike asked yes no && ef asked (part n 0)) e2 in
    let (alike, free) = and_parts (are_alike asked yes no) (ef asked (part n 0)) e3 in
    let (begin, e4) = and_parts (begin_alike first second) (same_tree (part yes 0) (part no 0) && (is_idle asked (part yes 0) && are_others_same first second)) alike in
    let (same, e5) = and_parts (same_tree (part yes 0) (part no 0)) (is_idle asked (part yes 0) && are_others_same first second) e4 in
    let (idle, others) = and_parts (is_idle asked (part yes 0)) (are_others_same first second) e5 in
    let (plain, still) = and_parts (is_plain_part (part yes 0)) (ef asked (part yes 0)) idle in
    let one = tree_same (part yes 0) (part no 0) same in
    let b = begun (part n 0) first second begin in
    let f = b.firsts in
    let rest = trees_same (without first 0) (without second 0) others in
    let before : yes ≡ call false (part yes 0) (argument f.is_spread f.p ▸ without first 0) = call_of yes left b.some ∙ ap (λ t. call false (part yes 0) (t ▸ without first 0)) f.first_is in
    let after : no ≡ call false (part yes 0) (argument f.is_spread f.q ▸ without first 0) = call_of no right b.others ∙ (λ j. call false (sym one j) (f.second_is j ▸ sym rest j)) in
    let arguments : with_inserted (without first 0) 0 (chosen_first (part n 0) (first_or_absent first) (child_or_absent second 0)) ≡ argument f.is_spread (conditional (part n 0) f.p f.q) ▸ without first 0 =
    inserted_first (without first 0) (chosen_first (part n 0) (first_or_absent first) (child_or_absent second 0)) ∙ ap (λ t. chosen_first (part n 0) t (child_or_absent second 0) ▸ without first 0) (first_is first) ∙ ap (λ t. t ▸ without first 0) f.chosen in
    record {
      a = part n 0;
      callee = part yes 0;
      is_spread = f.is_spread;
      p = f.p;
      q = f.q;
      others = without first 0;
      plain = plain;
      idle = still;
      effect_free = free;
      first = f.first;
      second = f.second;
      shape = conditional_is n chooses ∙ (λ i. conditional (part n 0) (before i) (after i));
      written = ap (call false (part yes 0)) arguments;
    }

-- ---- and what the row reads is written

trees_itself : (ts : Trees) → same_trees ts ts ≡ true
trees_itself ts = (and_parts (same_root (listed ts) (listed ts)) (same_trees ts ts) (sym (by_root (listed ts) (listed ts)) ∙ tree_itself (listed ts))).1

or_true : (b c : Bool) → c ≡ true → b || c ≡ true
or_true true c e = refl
or_true false c e = e

both_begin : (b : Bool) (p q : Tree) (ts : Trees) → b || is_item p ≡ true → b || is_item q ≡ true → begin_alike (argument b p ▸ ts) (argument b q ▸ ts) ≡ true
both_begin false p q ts e f = ap (λ c. c || (begins_with_spread (p ▸ ts) && begins_with_spread (q ▸ ts))) (both_true (is_item p) (is_item q) e f)
both_begin true p q ts e f = or_true (begins_with_item (argument true p ▸ ts) && begins_with_item (argument true q ▸ ts)) true refl

pub called_passes : (asked : Bool) (n w : Tree) (r : CallRow asked n w) → calls_either asked (conditional r.a (call false r.callee (argument r.is_spread r.p ▸ r.others)) (call false r.callee (argument r.is_spread r.q ▸ r.others))) ≡ true
called_passes asked n w r =
    let ts : Trees = argument r.is_spread r.p ▸ r.others in
    let us : Trees = argument r.is_spread r.q ▸ r.others in
    both_true (are_alike asked (call false r.callee ts) (call false r.callee us)) (ef asked r.a)
    (both_true (begin_alike ts us) _ (both_begin r.is_spread r.p r.q r.others r.first r.second)
    (both_true (same_tree r.callee r.callee) _ (tree_itself r.callee) (both_true (is_idle asked r.callee) (same_trees r.others r.others) (both_true (is_plain_part r.callee) (ef asked r.callee) r.plain r.idle) (trees_itself r.others))))
    r.effect_free
