-- A loop over the children of a node that resolves one after another.
use Rattle.std.specs.Prelude.{ℕ, zero, suc, ◌+◌, ◌≡◌, ◌≤◌, ◌<◌, refl, List, ◌++◌, length, take}
use Rattle.std.proofs.Common.{ap, ◌∙◌, arith, sym, add-one}
use Rattle.std.proofs.lemmas.List.{length-append, take-append-le, take_all}
use Rattle.mini_model.specs.Tree.{Tree, Trees, none, ◌▸◌, node_count, node_counts, count, child_or_absent}
use Rattle.mini_model.specs.Paths.{append}
use Rattle.mini_node.specs.Children.{with_child, first_children, rest_children}
use Rattle.mini_laws.specs.declared.names.Use.{Use}
use Rattle.mini_laws.specs.declared.names.Binding.{Binding}
use Rattle.mini_laws.specs.Resolved.{numbered, symbols, symbols_from, resolved, resolved_from}

pub first_with : (ts : Trees) (i : ℕ) (x : Tree) → i < count ts → first_children (suc i) (with_child ts i x) ≡ append (first_children i ts) (x ▸ none)
first_with none i x h = absurd (omega arith)
first_with (t ▸ none) zero x h = refl
first_with (t ▸ (u ▸ ts)) zero x h = refl
first_with (t ▸ ts) (suc i) x h = ap (λ r. t ▸ r) (first_with ts i x (omega arith))

pub rest_with : (ts : Trees) (i : ℕ) (x : Tree) → rest_children (suc i) (with_child ts i x) ≡ rest_children (suc i) ts
rest_with none i x = refl
rest_with (t ▸ ts) zero x = refl
rest_with (t ▸ ts) (suc i) x = rest_with ts i x

pub count_with : (ts : Trees) (i : ℕ) (x : Tree) → count (with_child ts i x) ≡ count ts
count_with none i x = refl
count_with (t ▸ ts) zero x = refl
count_with (t ▸ ts) (suc i) x = ap suc (count_with ts i x)

pub append_one : (ts : Trees) (x : Tree) (us : Trees) → append (append ts (x ▸ none)) us ≡ append ts (x ▸ us)
append_one none x us = refl
append_one (t ▸ ts) x us = ap (λ r. t ▸ r) (append_one ts x us)

pub append_none : (ts : Trees) → append ts none ≡ ts
append_none none = refl
append_none (t ▸ ts) = ap (λ r. t ▸ r) (append_none ts)

pub next_child : (ts : Trees) (i : ℕ) → i < count ts → rest_children i ts ≡ child_or_absent ts i ▸ rest_children (suc i) ts
next_child none i h = absurd (omega arith)
next_child (t ▸ none) zero h = refl
next_child (t ▸ (u ▸ ts)) zero h = refl
next_child (t ▸ ts) (suc i) h = next_child ts i (omega arith)

pub all_first : (ts : Trees) (i : ℕ) → count ts ≤ i → first_children i ts ≡ ts
all_first none i h = refl
all_first (t ▸ ts) zero h = absurd (omega arith)
all_first (t ▸ ts) (suc i) h = ap (λ r. t ▸ r) (all_first ts i (omega arith))

pub no_rest : (ts : Trees) (i : ℕ) → count ts ≤ i → rest_children i ts ≡ none
no_rest none i h = refl
no_rest (t ▸ ts) zero h = absurd (omega arith)
no_rest (t ▸ ts) (suc i) h = no_rest ts i (omega arith)

pub from_first : (ts : Trees) → rest_children 0 ts ≡ ts
from_first none = refl
from_first (t ▸ ts) = refl

pub rest_smaller : (ts : Trees) (i : ℕ) → node_counts (rest_children i ts) ≤ node_counts ts
rest_smaller none i = omega arith
rest_smaller (t ▸ ts) zero = omega arith
rest_smaller (t ▸ ts) (suc i) = omega (arith, rest_smaller ts i)

-- heads and tails of lists of trees
head : Trees → Tree → Tree
head none d = d
head (t ▸ ts) d = t

tail : Trees → Trees
tail none = none
tail (t ▸ ts) = ts

-- the child at an index of trees whose rest from there on is that of others is theirs, and is followed by the same
pub same_child : (ts us : Trees) (i : ℕ) → i < count ts → i < count us → rest_children i ts ≡ rest_children i us → child_or_absent ts i ≡ child_or_absent us i
unfolding head
same_child ts us i h k e = ap (λ r. head r (child_or_absent ts i)) (sym (next_child ts i h) ∙ e ∙ next_child us i k)

pub same_rest : (ts us : Trees) (i : ℕ) → i < count ts → i < count us → rest_children i ts ≡ rest_children i us → rest_children (suc i) ts ≡ rest_children (suc i) us
unfolding tail
same_rest ts us i h k e = ap tail (sym (next_child ts i h) ∙ e ∙ next_child us i k)

pub child_smaller : (ts : Trees) (i : ℕ) → i < count ts → node_count (child_or_absent ts i) ≤ node_counts ts
child_smaller none i h = absurd (omega arith)
child_smaller (t ▸ ts) zero h = omega arith
child_smaller (t ▸ ts) (suc i) h = omega (arith, child_smaller ts i (omega arith))

pub symbols_split : (sc : ℕ → List Binding) (us : ℕ → Use) (ts : Trees) (i : ℕ) → i < count ts → symbols_from sc us i (rest_children i ts) ≡ length (sc i) + symbols (us i) (child_or_absent ts i) + symbols_from sc us (suc i) (rest_children (suc i) ts)
unfolding symbols
symbols_split sc us ts i h = ap (symbols_from sc us i) (next_child ts i h)

pub resolved_split : (sc : ℕ → List Binding) (us : ℕ → Use) (ts : Trees) (i : ℕ) (env : List Binding) (s : ℕ) → i < count ts → resolved_from sc us i env s (rest_children i ts) ≡ resolved (us i) (env ++ numbered s (sc i)) (s + length (sc i)) (child_or_absent ts i) ▸ resolved_from sc us (suc i) (env ++ numbered s (sc i)) (s + length (sc i) + symbols (us i) (child_or_absent ts i)) (rest_children (suc i) ts)
unfolding resolved
resolved_split sc us ts i env s h = ap (resolved_from sc us i env s) (next_child ts i h)

-- where a loop stands that has resolved the children before an index
pub record Walked (sc : ℕ → List Binding) (us : ℕ → Use) (s0 : ℕ) (env0 : List Binding) (ts0 : Trees) (i s : ℕ) (env : List Binding) (ts : Trees) : Type 0 where
  pub done : resolved_from sc us 0 env0 s0 ts0 ≡ append (first_children i ts) (resolved_from sc us i env s (rest_children i ts0))
  pub left : rest_children i ts ≡ rest_children i ts0
  pub counted : s0 + symbols_from sc us 0 ts0 ≡ s + symbols_from sc us i (rest_children i ts0)
  pub around : take (length env0) env ≡ env0
  pub longer : length env0 ≤ length env
  pub same_count : count ts ≡ count ts0

start : (F : Trees → Trees) (ts : Trees) → F ts ≡ append (first_children 0 ts) (F (rest_children 0 ts))
start F none = refl
start F (t ▸ ts) = refl

pub begins : (sc : ℕ → List Binding) (us : ℕ → Use) (s0 : ℕ) (env0 : List Binding) (ts0 : Trees) → Walked sc us s0 env0 ts0 0 s0 env0 ts0
begins sc us s0 env0 ts0 = record {
  done = start (resolved_from sc us 0 env0 s0) ts0;
  left = refl;
  counted = ap (λ r. s0 + symbols_from sc us 0 r) (sym (from_first ts0));
  around = take_all (length env0) env0 (omega arith);
  longer = omega arith;
  same_count = refl;
}

pub turn : (sc : ℕ → List Binding) (us : ℕ → Use) (s0 : ℕ) (env0 : List Binding) (ts0 : Trees) (i s : ℕ) (env : List Binding) (ts : Trees) →
    Walked sc us s0 env0 ts0 i s env ts → i < count ts0 →
    (scope : List Binding) (u : Use) (env' : List Binding) (s' s'' : ℕ) (x x' : Tree) →
    scope ≡ sc i → u ≡ us i → env' ≡ env ++ numbered s scope → s' ≡ s + length scope → x ≡ child_or_absent ts i → x' ≡ resolved u env' s' x → s'' ≡ s' + symbols u x →
    Walked sc us s0 env0 ts0 (i + 1) s'' env' (with_child ts i x')
turn sc us s0 env0 ts0 i s env ts w h scope u env' s' s'' x x' e1 e2 e3 e4 e5 e6 e7 =
    let k : i < count ts = omega (arith, w.same_count) in
    let one : i + 1 ≡ suc i = add-one i in
    let c : child_or_absent ts i ≡ child_or_absent ts0 i = same_child ts ts0 i k h w.left in
    let done = w.done in
    let split = resolved_split sc us ts0 i env s h in
    let put = first_with ts i x' k in
    let joined = append_one (first_children i ts) x' (resolved_from sc us (suc i) env' s'' (rest_children (suc i) ts0)) in
    record {
      done = cc;
      left = ap (λ j. rest_children j (with_child ts i x')) one ∙ rest_with ts i x' ∙ same_rest ts ts0 i k h w.left ∙ ap (λ j. rest_children j ts0) (sym one);
      counted = omega (arith, w.counted, symbols_split sc us ts0 i h, ap length e1, ap (λ v. symbols v x) e2 ∙ ap (symbols (us i)) (e5 ∙ c), e4, e7, ap (λ j. symbols_from sc us j (rest_children j ts0)) one);
      around = ap (take (length env0)) e3 ∙ take-append-le (length env0) env (numbered s scope) w.longer ∙ w.around;
      longer = omega (arith, w.longer, ap length e3, length-append env (numbered s scope));
      same_count = count_with ts i x' ∙ w.same_count;
    }
