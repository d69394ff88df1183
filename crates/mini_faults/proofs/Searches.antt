-- The search for the first fault: what a search among the nodes of a tree gives, from what those
-- among its parts give.
use Rattle.std.proofs.Common.{◌≡◌, ℕ, zero, suc, ◌+◌, ◌<◌, ◌≤◌, Bool, true, false, List, [], ◌∷◌, ◌++◌, refl, sym, ap, subst, ◌∙◌, arith}
use Rattle.std.specs.Prelude.{reverse, Some, map}
use Rattle.std.proofs.lemmas.Bool.{false≢true}
use Rattle.std.proofs.lemmas.List.{reverse-append, append_assoc, append-nil}
use Rattle.std.proofs.lemmas.Option.{none-some}
use Rattle.mini_model.specs.declared.shape.Shape.{Shape}
use Rattle.mini_model.specs.Tree.{Tree, Trees, node, none, ◌▸◌, count, child_or_absent, children, node_count, node_counts}
use Rattle.mini_model.specs.Paths.{append, stands_for, spread, Standing, Node, Holder, Missing, standing, by_standing, is_node, width}
use Rattle.mini_node.specs.Children.{rest_children}
use Rattle.mini_node.specs.Walks.{from_first, next_child, no_rest}
use Rattle.mini_print.specs.Unprintable.{Fault, below, faults_inside, faults_among, faults_at, head}
use Rattle.mini_faults.specs.Faults.{is_missing, widths, found, Seeks, SeeksNode}
use Rattle.mini_faults.specs.declared.defects.Found.{Found}
use Rattle.mini_faults.specs.declared.defects.Sought.{Sought}
use Rattle.mini_faults.specs.declared.defects.Sought.TheVariants.{Past, At}

-- ---- the sizes of trees

pub children_within : (t : Tree) → node_counts (children t) < node_count t
children_within (node h xs n ts) = omega arith

count_append : (ts us : Trees) → count (append ts us) ≡ count ts + count us
count_append none us = omega arith
count_append (t ▸ ts) us = let e = count_append ts us in omega (arith, e)

widths_are : (ts : Trees) → count (spread ts) ≡ widths ts
widths_are none = refl
widths_are (t ▸ ts) = count_append (stands_for t) (spread ts) ∙ ap (λ n. width t + n) (widths_are ts)

-- ---- where a tree stands

node_stands : (h : Shape) → by_standing (standing h) true false false ≡ true → standing h ≡ Node
node_stands h e = go (standing h) e
  where
    go : (k : Standing) → by_standing k true false false ≡ true → k ≡ Node
    go Node e = refl
    go Holder e = absurd (false≢true e)
    go Missing e = absurd (false≢true e)

missing_stands : (h : Shape) → by_standing (standing h) false false true ≡ true → standing h ≡ Missing
missing_stands h e = go (standing h) e
  where
    go : (k : Standing) → by_standing k false false true ≡ true → k ≡ Missing
    go Node e = absurd (false≢true e)
    go Holder e = absurd (false≢true e)
    go Missing e = refl

holder_stands : (h : Shape) → by_standing (standing h) true false false ≡ false → by_standing (standing h) false false true ≡ false → standing h ≡ Holder
holder_stands h e d = go (standing h) e d
  where
    go : (k : Standing) → by_standing k true false false ≡ false → by_standing k false false true ≡ false → k ≡ Holder
    go Node e d = absurd (false≢true (sym e))
    go Holder e d = refl
    go Missing e d = absurd (false≢true (sym d))

-- ---- one tree

pub seeks_same : (s : Sought) (fs gs : List Fault) (m n : ℕ) → fs ≡ gs → m ≡ n → Seeks s fs m → Seeks s gs n
seeks_same s fs gs m n e d h = subst (λ fs. Seeks s fs n) e (subst (λ m. Seeks s fs m) d h)

from_node : (s : Sought) (fs : List Fault) (i : ℕ) → SeeksNode s fs i → Seeks s (map (below i) fs) (i + 1)
from_node (Past next) fs i h = (ap (map (below i)) h.0, h.1)
from_node (At f) [] i h = absurd h
from_node (At f) (g ∷ fs) i h = ap Some h

pub seeks_node : (s : Sought) (l : Bool) (t : Tree) (i : ℕ) → is_node t ≡ true → SeeksNode s (faults_at l t) i → Seeks s (faults_inside l t i) (i + width t)
seeks_node s l (node h xs n ts) i e d =
    let k = node_stands h e in
    seeks_same s (map (below i) (faults_at l (node h xs n ts))) (faults_inside l (node h xs n ts) i) (i + 1) (i + width (node h xs n ts))
    (sym (ap (λ k. by_standing k (map (below i) (faults_at l (node h xs n ts))) (faults_among false ts i) []) k))
    (sym (ap (λ k. i + count (by_standing k (node h xs n ts ▸ none) (spread ts) none)) k ∙ one))
    (from_node s (faults_at l (node h xs n ts)) i d)
  where
    one : i + suc zero ≡ i + 1
    one = omega arith

pub seeks_missing : (l : Bool) (t : Tree) (i : ℕ) → is_missing t ≡ true → Seeks (Past i) (faults_inside l t i) (i + width t)
seeks_missing l (node h xs n ts) i e =
    let k = missing_stands h e in
    seeks_same (Past i) [] (faults_inside l (node h xs n ts) i) i (i + width (node h xs n ts))
    (sym (ap (λ k. by_standing k (map (below i) (faults_at l (node h xs n ts))) (faults_among false ts i) []) k))
    (sym (ap (λ k. i + count (by_standing k (node h xs n ts ▸ none) (spread ts) none)) k ∙ nothing))
    (refl, refl)
  where
    nothing : i + 0 ≡ i
    nothing = omega arith

pub seeks_holder : (s : Sought) (l : Bool) (t : Tree) (i : ℕ) → is_node t ≡ false → is_missing t ≡ false → Seeks s (faults_among false (children t) i) (i + widths (children t)) → Seeks s (faults_inside l t i) (i + width t)
seeks_holder s l (node h xs n ts) i e m d =
    let k = holder_stands h e m in
    seeks_same s (faults_among false ts i) (faults_inside l (node h xs n ts) i) (i + widths ts) (i + width (node h xs n ts))
    (sym (ap (λ k. by_standing k (map (below i) (faults_at l (node h xs n ts))) (faults_among false ts i) []) k))
    (sym (ap (λ k. i + count (by_standing k (node h xs n ts ▸ none) (spread ts) none)) k ∙ ap (λ n. i + n) (widths_are ts)))
    d

-- ---- trees one after another

pub record Left (l : Bool) (ts : Trees) (at i place : ℕ) : Type 0 where
  pub faults : faults_among l (rest_children i ts) place ≡ faults_among l ts at
  pub behind : place + widths (rest_children i ts) ≡ at + widths ts

pub all_left : (l : Bool) (ts : Trees) (at : ℕ) → Left l ts at 0 at
all_left l ts at = record { faults = ap (λ us. faults_among l us at) (from_first ts); behind = ap (λ us. at + widths us) (from_first ts) }

step_faults : (l : Bool) (ts : Trees) (at i place : ℕ) → i < count ts → Left l ts at i place → faults_inside l (child_or_absent ts i) place ++ faults_among l (rest_children (suc i) ts) (place + width (child_or_absent ts i)) ≡ faults_among l ts at
step_faults l ts at i place h w = sym (ap (λ us. faults_among l us place) (next_child ts i h)) ∙ w.faults

pub goes_past : (l : Bool) (ts : Trees) (at i place next : ℕ) → i < count ts → Seeks (Past next) (faults_inside l (child_or_absent ts i) place) (place + width (child_or_absent ts i)) → Left l ts at i place → Left l ts at (i + 1) next
goes_past l ts at i place next h d w =
    let one : i + 1 ≡ suc i = omega arith in
    record {
      faults = (λ j. faults_among l (rest_children (one j) ts) (d.1 j))
          ∙ sym (ap (λ fs. fs ++ faults_among l (rest_children (suc i) ts) (place + width (child_or_absent ts i))) d.0)
          ∙ step_faults l ts at i place h w;
      behind = (λ j. d.1 j + widths (rest_children (one j) ts))
          ∙ grouped place (width (child_or_absent ts i)) (widths (rest_children (suc i) ts))
          ∙ sym (ap (λ us. place + widths us) (next_child ts i h))
          ∙ w.behind;
    }
  where
    grouped : (a b c : ℕ) → a + b + c ≡ a + (b + c)
    grouped a b c = omega arith

head_first : (fs gs : List Fault) (f : Fault) → head fs ≡ Some f → head (fs ++ gs) ≡ Some f
head_first [] gs f e = absurd (none-some f e)
head_first (g ∷ fs) gs f e = e

pub stops_at : (l : Bool) (ts : Trees) (at i place : ℕ) (f : Found) → i < count ts → head (faults_inside l (child_or_absent ts i) place) ≡ Some (found f) → Left l ts at i place → head (faults_among l ts at) ≡ Some (found f)
stops_at l ts at i place f h e w =
    sym (ap head (step_faults l ts at i place h w))
    ∙ head_first (faults_inside l (child_or_absent ts i) place) (faults_among l (rest_children (suc i) ts) (place + width (child_or_absent ts i))) (found f) e

pub ends_past : (l : Bool) (ts : Trees) (at i place : ℕ) → count ts ≤ i → Left l ts at i place → Seeks (Past place) (faults_among l ts at) (at + widths ts)
ends_past l ts at i place h w =
    (sym w.faults ∙ ap (λ us. faults_among l us place) (no_rest ts i h), sym (sym w.behind ∙ ap (λ us. place + widths us) (no_rest ts i h) ∙ nothing place))
  where
    nothing : (n : ℕ) → n + 0 ≡ n
    nothing n = omega arith

-- ---- paths

pub turns : (back rest path : List ℕ) (x : ℕ) (all : List ℕ) → back ≡ rest ++ x ∷ [] → path ++ reverse back ≡ reverse all → (path ++ x ∷ []) ++ reverse rest ≡ reverse all
turns back rest path x all e inv = append_assoc path (x ∷ []) (reverse rest) ∙ ap (λ r. path ++ r) (sym (ap reverse e ∙ reverse-append rest (x ∷ []))) ∙ inv

pub turns_end : (back path all : List ℕ) → back ≡ [] → path ++ reverse back ≡ reverse all → path ≡ reverse all
turns_end back path all e inv = sym (append-nil path) ∙ ap (λ r. path ++ reverse r) (sym e) ∙ inv

-- ---- as the code asks

pub goes : (l : Bool) (ts : Trees) (at i place next : ℕ) (s : Sought) (x : Tree) → i < count ts → s ≡ Past next → x ≡ child_or_absent ts i → Seeks s (faults_inside l x place) (place + width x) → Left l ts at i place → Left l ts at (i + 1) next
goes l ts at i place next s x h e d k w = goes_past l ts at i place next h (subst (λ x. Seeks (Past next) (faults_inside l x place) (place + width x)) d (subst (λ s. Seeks s (faults_inside l x place) (place + width x)) e k)) w

pub stops : (l : Bool) (ts : Trees) (at i place : ℕ) (f : Found) (s : Sought) (x : Tree) → i < count ts → s ≡ At f → x ≡ child_or_absent ts i → Seeks s (faults_inside l x place) (place + width x) → Left l ts at i place → head (faults_among l ts at) ≡ Some (found f)
stops l ts at i place f s x h e d k w = stops_at l ts at i place f h (subst (λ x. Seeks (At f) (faults_inside l x place) (place + width x)) d (subst (λ s. Seeks s (faults_inside l x place) (place + width x)) e k)) w
