-- A chain of which what stands before its links stays, and undefined is written behind it: the same parts, but for those of the links.
use Rattle.std.proofs.Common.{◌≡◌, ℕ, suc, Bool, true, false, List, [], ◌∷◌, refl, sym, ap, ◌∙◌, inr}
use Rattle.std.specs.Prelude.{not, ◌||◌, ◌++◌, nat_eq, pos, if◌then◌else◌}
use Rattle.std.proofs.Common.{eq-eqb}
use Rattle.std.proofs.lemmas.List.{append-nil}
use Rattle.mini_model.specs.declared.operator.UnaryOperator.TheVariants.{Void}
use Rattle.mini_model.specs.declared.place.Position.TheVariants.{Expr}
use Rattle.mini_model.specs.declared.seat.Seat.{Seat}
use Rattle.mini_model.specs.declared.shape.Shape.TheVariants as shape
use Rattle.mini_model.specs.Tree.{Tree, Trees, node, none, ◌▸◌, child_or_absent}
use Rattle.mini_kept.proofs.Bools.{both}
use Rattle.mini_kept.specs.KeepsLoosely.{has_member}
use Rattle.mini_kept.specs.Loosely.{FixedKept}
use Rattle.mini_rows.specs.Arranged.{KeptLoosely}
use Rattle.mini_rows.specs.Sketches.{Unary, Number, Sequence, Call, StaticMember, ComputedMember, Chain, Head, Sketch, part, under, list, end, ◌▹◌, item, no_items, Parts, filled, Asked, AsValue, AsValues, AsWord, Hole, Part, parts_of, Free, is_among, staying, all_settled, has_each, is_rearranged, stands_well, rearranges_expression}
use Rattle.mini_rows.specs.Chains.{Link, a_member, a_computed, a_call, linked, chain}
use Rattle.mini_rows.specs.ChainLinks.{Marked, marked, links_over}
use Rattle.mini_rows.specs.ChainEnds.{key_of, keys_over}
use Rattle.mini_rows.proofs.ArrangedExpressions.{expressions_arranged_loosely}

-- ---- links as sketches, from the last one on, each with what stands in it as the part at the next index

abbrev head_of : Bool → Link → Head
head_of o (a_member k) = StaticMember o
head_of o (a_computed k) = ComputedMember o
head_of o (a_call ts) = Call o

abbrev link_sketch : Bool → ℕ → Link → Sketch → Sketch
link_sketch o i l t = under (head_of o l) (t ▹ part i ▹ end)

abbrev sketch_over : ℕ → List Marked → Sketch → Sketch
sketch_over i [] t = t
sketch_over i (marked o l ∷ ms) t = link_sketch o i l (sketch_over (suc i) ms t)

abbrev asked_in : Link → Asked
asked_in (a_member k) = AsWord
asked_in (a_computed k) = AsValue
asked_in (a_call ts) = AsValues

-- their parts, in order
abbrev keys_in : ℕ → List Marked → List Hole
keys_in i [] = []
keys_in i (marked o l ∷ ms) = keys_in (suc i) ms ++ (Part i (asked_in l) ∷ [])

link_holes : (o : Bool) (i : ℕ) (l : Link) (t : Sketch) (hs : List Hole) → parts_of AsValue t ≡ hs → parts_of AsValue (link_sketch o i l t) ≡ hs ++ (Part i (asked_in l) ∷ [])
link_holes o i (a_member k) t hs e = ap (λ gs. gs ++ (Part i AsWord ∷ [])) e
link_holes o i (a_computed k) t hs e = ap (λ gs. gs ++ (Part i AsValue ∷ [])) e
link_holes o i (a_call ts) t hs e = ap (λ gs. gs ++ (Part i AsValues ∷ [])) e

over_holes : (i : ℕ) (ms : List Marked) (t : Sketch) (h : Hole) (hs : List Hole) → parts_of AsValue t ≡ h ∷ hs → parts_of AsValue (sketch_over i ms t) ≡ h ∷ (hs ++ keys_in i ms)
over_holes i [] t h hs e = e ∙ ap (λ gs. h ∷ gs) (sym (append-nil hs))
over_holes i (marked o l ∷ ms) t h hs e = link_holes o i l (sketch_over (suc i) ms t) (h ∷ (hs ++ keys_in (suc i) ms)) (over_holes (suc i) ms t h hs e) ∙ ap (λ gs. h ∷ gs) (joined hs (keys_in (suc i) ms) (Part i (asked_in l) ∷ []))
  where
    joined : (a b c : List Hole) → (a ++ b) ++ c ≡ a ++ (b ++ c)
    joined [] b c = refl
    joined (x ∷ a) b c = ap (λ gs. x ∷ gs) (joined a b c)

link_stands : (f : Free) (o : Bool) (i : ℕ) (l : Link) (t : Sketch) → stands_well f AsValue t ≡ true → stands_well f AsValue (link_sketch o i l t) ≡ true
link_stands f o i (a_member k) t e = both (stands_well f AsValue t) true e refl
link_stands f o i (a_computed k) t e = both (stands_well f AsValue t) true e refl
link_stands f o i (a_call ts) t e = both (stands_well f AsValue t) true e refl

over_stands : (f : Free) (i : ℕ) (ms : List Marked) (t : Sketch) → stands_well f AsValue t ≡ true → stands_well f AsValue (sketch_over i ms t) ≡ true
over_stands f i [] t e = e
over_stands f i (marked o l ∷ ms) t e = link_stands f o i l (sketch_over (suc i) ms t) (over_stands f (suc i) ms t e)

-- ---- they are filled to the links

link_filled : (ps : Parts) (o : Bool) (i : ℕ) (l : Link) (t : Sketch) (u : Tree) → filled ps t ≡ u → child_or_absent ps.trees i ≡ key_of l → filled ps (link_sketch o i l t) ≡ linked o l u
link_filled ps o i (a_member k) t u e f = λ j. linked o (a_member (f j)) (e j)
link_filled ps o i (a_computed k) t u e f = λ j. linked o (a_computed (f j)) (e j)
link_filled ps o i (a_call ts) t u e f = λ j. node (shape.CallExpression o) [] 0 (e j ▸ f j ▸ none)

-- the parts from i on are what stands in the links
abbrev Stand : Trees → ℕ → List Marked → Type 0
Stand ts i [] = Unit {0}
Stand ts i (marked o l ∷ ms) = (child_or_absent ts i ≡ key_of l) × Stand ts (suc i) ms

behind : (x : Tree) (ts : Trees) (i : ℕ) (ms : List Marked) → Stand ts i ms → Stand (x ▸ ts) (suc i) ms
behind x ts i [] h = tt
behind x ts i (marked o l ∷ ms) h = (h.0, behind x ts (suc i) ms h.1)

themselves : (ms : List Marked) → Stand (keys_over ms) 0 ms
themselves [] = tt
themselves (marked o l ∷ ms) = (refl, behind (key_of l) (keys_over ms) 0 ms (themselves ms))

over_filled : (ps : Parts) (i : ℕ) (ms : List Marked) (t : Sketch) (u : Tree) → filled ps t ≡ u → Stand ps.trees i ms → filled ps (sketch_over i ms t) ≡ links_over ms u
over_filled ps i [] t u e h = e
over_filled ps i (marked o l ∷ ms) t u e h = link_filled ps o i l (sketch_over (suc i) ms t) (links_over ms u) (over_filled ps (suc i) ms t u e h.1) h.0

-- ---- what goes

abbrev numbers_from : ℕ → List Marked → List ℕ
numbers_from i [] = []
numbers_from i (m ∷ ms) = i ∷ numbers_from (suc i) ms

abbrev without_them : List ℕ → Free
without_them is = record { moved = []; lists_moved = []; dropped = is }

-- parts that are all dropped
abbrev Gone : List ℕ → List Hole → Type 0
Gone is [] = Unit {0}
Gone is (Part i c ∷ hs) = (is_among is i ≡ true) × Gone is hs
Gone is (h ∷ hs) = ⊥

gone_both : (is : List ℕ) (hs gs : List Hole) → Gone is hs → Gone is gs → Gone is (hs ++ gs)
gone_both is [] gs a b = b
gone_both is (Part i c ∷ hs) gs a b = (a.0, gone_both is hs gs a.1 b)
gone_both is (h ∷ hs) gs a b = absurd a

among_more : (j : ℕ) (is : List ℕ) (i : ℕ) → is_among is i ≡ true → is_among (j ∷ is) i ≡ true
among_more j is i e = or_last (nat_eq j i) e
  where
    or_last : (b : Bool) {c : Bool} → c ≡ true → b || c ≡ true
    or_last true e = refl
    or_last false e = e

gone_more : (j : ℕ) (is : List ℕ) (hs : List Hole) → Gone is hs → Gone (j ∷ is) hs
gone_more j is [] a = tt
gone_more j is (Part i c ∷ hs) a = (among_more j is i a.0, gone_more j is hs a.1)
gone_more j is (h ∷ hs) a = absurd a

first_among : (i : ℕ) (is : List ℕ) → is_among (i ∷ is) i ≡ true
first_among i is = ap (λ b. b || is_among is i) (eq-eqb i i refl)

keys_gone : (i : ℕ) (ms : List Marked) → Gone (numbers_from i ms) (keys_in i ms)
keys_gone i [] = tt
keys_gone i (marked o l ∷ ms) =
    let is = numbers_from (suc i) ms in
    gone_both (i ∷ is) (keys_in (suc i) ms) (Part i (asked_in l) ∷ []) (gone_more i is (keys_in (suc i) ms) (keys_gone (suc i) ms)) (first_among i is, tt)

none_stays : (is : List ℕ) (hs : List Hole) → Gone is hs → staying (without_them is) (all_settled (without_them is) hs) ≡ []
none_stays is [] a = refl
none_stays is (Part i c ∷ hs) a = ap (λ b. if not b then Part i c ∷ staying (without_them is) (all_settled (without_them is) hs) else staying (without_them is) (all_settled (without_them is) hs)) a.0 ∙ none_stays is hs a.1
none_stays is (h ∷ hs) a = absurd a

-- ---- the row

abbrev chained : Sketch → Sketch
chained s = under Chain (s ▹ end)

-- `a, void 0`
abbrev then_void : Sketch
then_void = under Sequence (list (item (part 0) (item (under (Unary Void) (under (Number (pos 0)) end ▹ end)) no_items)) ▹ end)

module _ (ms : List Marked) where
  abbrev numbers : List ℕ
  numbers = numbers_from 1 ms

  abbrev before : Sketch
  before = chained (sketch_over 1 ms (part 0))

  before_holes : parts_of AsValue before ≡ Part 0 AsValue ∷ keys_in 1 ms
  before_holes = ap (λ gs. gs ++ []) (over_holes 1 ms (part 0) (Part 0 AsValue) [] refl) ∙ append-nil (Part 0 AsValue ∷ keys_in 1 ms)

  only_first : is_rearranged (without_them numbers) (Part 0 AsValue ∷ keys_in 1 ms) (Part 0 AsValue ∷ []) ≡ true
  only_first = go (is_among numbers 0) refl
    where
      go : (b : Bool) → is_among numbers 0 ≡ b → has_each (Part 0 AsValue ∷ []) (if not b then Part 0 AsValue ∷ staying (without_them numbers) (all_settled (without_them numbers) (keys_in 1 ms)) else staying (without_them numbers) (all_settled (without_them numbers) (keys_in 1 ms))) ≡ true
      go true e = ap (has_each (Part 0 AsValue ∷ [])) (none_stays numbers (keys_in 1 ms) (keys_gone 1 ms))
      go false e = ap (λ hs. has_each (Part 0 AsValue ∷ []) (Part 0 AsValue ∷ hs)) (none_stays numbers (keys_in 1 ms) (keys_gone 1 ms))

  rearranged : rearranges_expression (without_them numbers) before then_void ≡ true
  rearranged =
      both (stands_well (without_them numbers) AsValue before) _ (both (stands_well (without_them numbers) AsValue (sketch_over 1 ms (part 0))) true (over_stands (without_them numbers) 1 ms (part 0) refl) refl)
      (ap (λ hs. is_rearranged (without_them numbers) hs (Part 0 AsValue ∷ [])) before_holes ∙ only_first)

  pub rest_kept : (q : Seat) (x : Tree) (n w : Tree) → n ≡ chain (links_over ms x) → w ≡ filled (record { trees = x ▸ keys_over ms; lists = [] }) then_void → FixedKept (Expr q) n w → KeptLoosely (Expr q) n w
  rest_kept q x n w f g k =
      let ps : Parts = record { trees = x ▸ keys_over ms; lists = [] } in
      expressions_arranged_loosely (without_them numbers) ps (tt, tt) before then_void rearranged q n w
      (f ∙ sym (ap chain (over_filled ps 1 ms (part 0) x refl (behind x (keys_over ms) 0 ms (themselves ms))))) g (inr (ap has_member f)) k
