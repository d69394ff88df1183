-- Members and calls over a name as sketches: the parts of a conditional that asks for the name, and those of the chain.
use Rattle.std.proofs.Common.{◌≡◌, ℕ, suc, ◌≤◌, Bool, true, false, List, [], ◌∷◌, refl, sym, ap, subst, ◌∙◌, arith, eq-eqb, true≢false}
use Rattle.std.specs.Prelude.{◌++◌, ◌&&◌, ◌||◌, nat_eq, if◌then◌else◌}
use Rattle.std.proofs.lemmas.Bool.{and_parts, ne_eqb}
use Rattle.std.proofs.lemmas.List.{append-nil}
use Rattle.mini_model.specs.declared.operator.BinaryOperator.TheVariants as binary_operator
use Rattle.mini_model.specs.Tree.{Tree, Trees, none, ◌▸◌, absent, child_or_absent}
use Rattle.mini_model.specs.Paths.{append}
use Rattle.mini_kept.proofs.Bools.{both}
use Rattle.mini_rows.specs.Sketches.{Binary, Null, Conditional, Call, StaticMember, ComputedMember, Chain, Sketch, part, under, list, end, ◌▹◌, no_items, items, Parts, list_at, filled, AsValue, AsWord, Asked, Hole, Part, Stretch, Leaps, Leap, Returning, Yielding, parts_of, asked_number, is_same_leap, is_same_hole, stands_in, without, has_as_often, has_each, Free, all_settled, stays, staying, is_rearranged, stands_well, rearranges_expression}
use Rattle.mini_rows.specs.Chains.{Link, a_member, a_computed, a_call, call, linked, spine}
use Rattle.mini_rows.specs.Spellings.{static_member, computed_member}
use Rattle.mini_rows.proofs.Arranging.{often_each}

-- ---- sketches, of links from the last one on, each with the part at the next index

abbrev pub link_sketch : Bool → ℕ → Link → Sketch → Sketch
link_sketch o i (a_member k) t = under (StaticMember o) (t ▹ part i ▹ end)
link_sketch o i (a_computed k) t = under (ComputedMember o) (t ▹ part i ▹ end)
link_sketch o i (a_call ts) t = under (Call o) (t ▹ list (items i no_items) ▹ end)

-- over what stands before them
abbrev pub sketch_of : Sketch → Bool → ℕ → Link → List Link → Sketch
sketch_of b o i l [] = link_sketch o i l b
sketch_of b o i l (m ∷ ls) = link_sketch false i l (sketch_of b o (suc i) m ls)

-- which is the part 0
abbrev pub sketch : Bool → ℕ → Link → List Link → Sketch
sketch o i l ls = sketch_of (part 0) o i l ls

abbrev pub tree_of : Link → Tree
tree_of (a_member k) = k
tree_of (a_computed k) = k
tree_of (a_call ts) = absent

abbrev pub list_of : Link → Trees
list_of (a_call ts) = ts
list_of l = none

abbrev pub trees_of : Link → List Link → Trees
trees_of l [] = tree_of l ▸ none
trees_of l (m ∷ ls) = tree_of l ▸ trees_of m ls

abbrev pub lists_of : Link → List Link → List Trees
lists_of l [] = list_of l ∷ []
lists_of l (m ∷ ls) = list_of l ∷ lists_of m ls

-- the parts from i on are those of the links
abbrev pub Stand : Trees → List Trees → ℕ → Link → List Link → Type 0
Stand ts tss i l [] = (child_or_absent ts i ≡ tree_of l) × (list_at tss i ≡ list_of l)
Stand ts tss i l (m ∷ ls) = ((child_or_absent ts i ≡ tree_of l) × (list_at tss i ≡ list_of l)) × Stand ts tss (suc i) m ls

pub behind : (x : Tree) (xs : Trees) (ts : Trees) (tss : List Trees) (i : ℕ) (l : Link) (ls : List Link) → Stand ts tss i l ls → Stand (x ▸ ts) (xs ∷ tss) (suc i) l ls
behind x xs ts tss i l [] h = h
behind x xs ts tss i l (m ∷ ls) h = (h.0, behind x xs ts tss (suc i) m ls h.1)

pub themselves : (l : Link) (ls : List Link) → Stand (trees_of l ls) (lists_of l ls) 0 l ls
themselves l [] = (refl, refl)
themselves l (m ∷ ls) = ((refl, refl), behind (tree_of l) (list_of l) (trees_of m ls) (lists_of m ls) 0 m ls (themselves m ls))

append_none : (ts : Trees) → append ts none ≡ ts
append_none none = refl
append_none (t ▸ ts) = ap (λ us. t ▸ us) (append_none ts)

pub filled_link : (ps : Parts) (o : Bool) (i : ℕ) (l : Link) (t : Sketch) (u : Tree) → filled ps t ≡ u → child_or_absent ps.trees i ≡ tree_of l → list_at ps.lists i ≡ list_of l → filled ps (link_sketch o i l t) ≡ linked o l u
filled_link ps o i (a_member k) t u e f g = λ j. static_member o (e j) (f j)
filled_link ps o i (a_computed k) t u e f g = λ j. computed_member o (e j) (f j)
filled_link ps o i (a_call ts) t u e f g = λ j. call o (e j) ((ap (λ us. append us none) g ∙ append_none ts) j)

pub filled_of : (ps : Parts) (b : Sketch) (o : Bool) (x : Tree) → filled ps b ≡ x → (i : ℕ) (l : Link) (ls : List Link) → Stand ps.trees ps.lists i l ls → filled ps (sketch_of b o i l ls) ≡ spine o x l ls
filled_of ps b o x e i l [] h = filled_link ps o i l b x e h.0 h.1
filled_of ps b o x e i l (m ∷ ls) h = filled_link ps false i l (sketch_of b o (suc i) m ls) (spine o x m ls) (filled_of ps b o x e (suc i) m ls h.1) h.0.0 h.0.1

pub filled_sketch : (ps : Parts) (o : Bool) (x : Tree) → child_or_absent ps.trees 0 ≡ x → (i : ℕ) (l : Link) (ls : List Link) → Stand ps.trees ps.lists i l ls → filled ps (sketch o i l ls) ≡ spine o x l ls
filled_sketch ps o x e = filled_of ps (part 0) o x e

-- ---- their parts, in order

abbrev pub hole : ℕ → Link → Hole
hole i (a_member k) = Part i AsWord
hole i (a_computed k) = Part i AsValue
hole i (a_call ts) = Stretch i AsValue

abbrev pub holes : ℕ → Link → List Link → List Hole
holes i l [] = hole i l ∷ []
holes i l (m ∷ ls) = holes (suc i) m ls ++ (hole i l ∷ [])

pub link_holes : (o : Bool) (i : ℕ) (l : Link) (t : Sketch) (hs : List Hole) → parts_of AsValue t ≡ hs → parts_of AsValue (link_sketch o i l t) ≡ hs ++ (hole i l ∷ [])
link_holes o i (a_member k) t hs e = ap (λ gs. gs ++ (Part i AsWord ∷ [])) e
link_holes o i (a_computed k) t hs e = ap (λ gs. gs ++ (Part i AsValue ∷ [])) e
link_holes o i (a_call ts) t hs e = ap (λ gs. gs ++ (Stretch i AsValue ∷ [])) e

pub sketch_holes : (o : Bool) (i : ℕ) (l : Link) (ls : List Link) → parts_of AsValue (sketch o i l ls) ≡ Part 0 AsValue ∷ holes i l ls
sketch_holes o i l [] = link_holes o i l (part 0) (Part 0 AsValue ∷ []) refl
sketch_holes o i l (m ∷ ls) = link_holes false i l (sketch o (suc i) m ls) (Part 0 AsValue ∷ holes (suc i) m ls) (sketch_holes o (suc i) m ls)

-- ---- what the second of two has of the first

same_leap : (l : Leap) → is_same_leap l l ≡ true
same_leap Returning = refl
same_leap Yielding = refl

same_itself : (h : Hole) → is_same_hole h h ≡ true
same_itself (Part i c) = both (nat_eq i i) (nat_eq (asked_number c) (asked_number c)) (eq-eqb i i refl) (eq-eqb (asked_number c) (asked_number c) refl)
same_itself (Stretch i c) = both (nat_eq i i) (nat_eq (asked_number c) (asked_number c)) (eq-eqb i i refl) (eq-eqb (asked_number c) (asked_number c) refl)
same_itself (Leaps l) = same_leap l

pub often_itself : (hs : List Hole) → has_as_often hs hs ≡ true
often_itself [] = refl
often_itself (h ∷ hs) = subst (λ b. (b || stands_in hs h) && has_as_often (if b then hs else h ∷ without hs h) hs ≡ true) (sym (same_itself h)) (often_itself hs)

-- no hole of these is this one
abbrev pub Apart : Hole → List Hole → Type 0
Apart g [] = Unit {0}
Apart g (h ∷ hs) = (is_same_hole g h ≡ false) × Apart g hs

apart_both : (g : Hole) (hs ks : List Hole) → Apart g hs → Apart g ks → Apart g (hs ++ ks)
apart_both g [] ks a b = b
apart_both g (h ∷ hs) ks a b = (a.0, apart_both g hs ks a.1 b)

-- so it may stand before what has them
pub skipped : (g : Hole) (gs hs : List Hole) → Apart g hs → has_as_often gs hs ≡ true → has_as_often (g ∷ gs) hs ≡ true
skipped g gs [] a e = refl
skipped g gs (h ∷ hs) a e =
    let (first, rest) = and_parts (stands_in gs h) (has_as_often (without gs h) hs) e in
    subst (λ b. (b || stands_in gs h) && has_as_often (if b then gs else g ∷ without gs h) hs ≡ true) (sym a.0)
    (both (stands_in gs h) (has_as_often (g ∷ without gs h) hs) first (skipped g (without gs h) hs a.1 rest))

stands_more : (gs ks : List Hole) (h : Hole) → stands_in gs h ≡ true → stands_in (gs ++ ks) h ≡ true
stands_more [] ks h e = absurd (true≢false (sym e))
stands_more (g ∷ gs) ks h e = go (is_same_hole g h) (stands_more gs ks h) e
  where
    go : (b : Bool) → (stands_in gs h ≡ true → stands_in (gs ++ ks) h ≡ true) → b || stands_in gs h ≡ true → b || stands_in (gs ++ ks) h ≡ true
    go true more e = refl
    go false more e = more e

without_more : (gs ks : List Hole) (h : Hole) → stands_in gs h ≡ true → without (gs ++ ks) h ≡ without gs h ++ ks
without_more [] ks h e = absurd (true≢false (sym e))
without_more (g ∷ gs) ks h e = go (is_same_hole g h) (without_more gs ks h) e
  where
    go : (b : Bool) → (stands_in gs h ≡ true → without (gs ++ ks) h ≡ without gs h ++ ks) → b || stands_in gs h ≡ true → (if b then gs ++ ks else g ∷ without (gs ++ ks) h) ≡ (if b then gs else g ∷ without gs h) ++ ks
    go true more e = refl
    go false more e = ap (λ hs. g ∷ hs) (more e)

pub often_more : (gs ks hs : List Hole) → has_as_often gs hs ≡ true → has_as_often (gs ++ ks) hs ≡ true
often_more gs ks [] e = refl
often_more gs ks (h ∷ hs) e =
    let (first, rest) = and_parts (stands_in gs h) (has_as_often (without gs h) hs) e in
    both (stands_in (gs ++ ks) h) (has_as_often (without (gs ++ ks) h) hs) (stands_more gs ks h first)
    (subst (λ us. has_as_often us hs ≡ true) (sym (without_more gs ks h first)) (often_more (without gs h) ks hs rest))

-- the links have no part before their own
no_part : (k i : ℕ) (c d : ℕ) → suc k ≤ i → nat_eq k i && nat_eq c d ≡ false
no_part k i c d h = ap (λ b. b && nat_eq c d) (ne_eqb k i (λ e. omega (arith, h, e)))

apart_hole : (k i : ℕ) (c : Asked) (l : Link) → suc k ≤ i → is_same_hole (Part k c) (hole i l) ≡ false
apart_hole k i c (a_member t) h = no_part k i (asked_number c) (asked_number AsWord) h
apart_hole k i c (a_computed t) h = no_part k i (asked_number c) (asked_number AsValue) h
apart_hole k i c (a_call ts) h = refl

pub apart_from : (k i : ℕ) (c : Asked) → suc k ≤ i → (l : Link) (ls : List Link) → Apart (Part k c) (holes i l ls)
apart_from k i c h l [] = (apart_hole k i c l h, tt)
apart_from k i c h l (m ∷ ls) = apart_both (Part k c) (holes (suc i) m ls) (hole i l ∷ []) (apart_from k (suc i) c (omega (arith, h)) m ls) (apart_hole k i c l h, tt)

-- ---- some parts are dropped

abbrev pub dropping : List ℕ → Free
dropping ds = record { moved = []; lists_moved = []; dropped = ds }

abbrev pub second_dropped : Free
second_dropped = dropping (1 ∷ [])

module _ (ds : List ℕ) where
  settled_same : (hs : List Hole) → all_settled (dropping ds) hs ≡ hs
  settled_same [] = refl
  settled_same (Part i c ∷ hs) = ap (λ gs. Part i c ∷ gs) (settled_same hs)
  settled_same (Stretch i c ∷ hs) = ap (λ gs. Stretch i c ∷ gs) (settled_same hs)
  settled_same (Leaps l ∷ hs) = ap (λ gs. Leaps l ∷ gs) (settled_same hs)

  pub staying_each : (gs hs : List Hole) → has_each gs hs ≡ true → has_each gs (staying (dropping ds) hs) ≡ true
  staying_each gs [] e = refl
  staying_each gs (h ∷ hs) e = let (first, rest) = and_parts (stands_in gs h) (has_each gs hs) e in go (stays (dropping ds) h) first (staying_each gs hs rest)
    where
      go : (b : Bool) → stands_in gs h ≡ true → has_each gs (staying (dropping ds) hs) ≡ true → has_each gs (if b then h ∷ staying (dropping ds) hs else staying (dropping ds) hs) ≡ true
      go true first rest = both (stands_in gs h) (has_each gs (staying (dropping ds) hs)) first rest
      go false first rest = rest

  pub staying_more : (hs ks : List Hole) → staying (dropping ds) (hs ++ ks) ≡ staying (dropping ds) hs ++ staying (dropping ds) ks
  staying_more [] ks = refl
  staying_more (h ∷ hs) ks = go (stays (dropping ds) h) (staying_more hs ks)
    where
      go : (b : Bool) → staying (dropping ds) (hs ++ ks) ≡ staying (dropping ds) hs ++ staying (dropping ds) ks → (if b then h ∷ staying (dropping ds) (hs ++ ks) else staying (dropping ds) (hs ++ ks)) ≡ (if b then h ∷ staying (dropping ds) hs else staying (dropping ds) hs) ++ staying (dropping ds) ks
      go true rest = ap (λ gs. h ∷ gs) rest
      go false rest = rest

  pub rearranged_as : (ks gs : List Hole) → has_as_often ks gs ≡ true → has_each gs (staying (dropping ds) ks) ≡ true → is_rearranged (dropping ds) ks gs ≡ true
  rearranged_as ks gs e f =
      (λ j. has_as_often (settled_same ks j) (settled_same gs j) && has_each (settled_same gs j) (staying (dropping ds) (settled_same ks j)))
      ∙ both (has_as_often ks gs) (has_each gs (staying (dropping ds) ks)) e f

-- the name, its test, and what is missing, before the links or after them
abbrev before : List Hole → List Hole
before hs = Part 0 AsValue ∷ Part 1 AsValue ∷ Part 0 AsValue ∷ hs

abbrev after : List Hole → List Hole
after hs = Part 0 AsValue ∷ Part 0 AsValue ∷ (hs ++ (Part 1 AsValue ∷ []))

module _ (l : Link) (ls : List Link) where
  abbrev hs : List Hole
  hs = holes 2 l ls

  abbrev gs : List Hole
  gs = Part 0 AsValue ∷ hs

  each_itself : has_each gs gs ≡ true
  each_itself = often_each gs gs (often_itself gs)

  rearranged_before : is_rearranged second_dropped (before hs) gs ≡ true
  rearranged_before =
      rearranged_as (1 ∷ []) (before hs) gs (skipped (Part 1 AsValue) gs hs (apart_from 1 2 AsValue (omega arith) l ls) (skipped (Part 0 AsValue) hs hs (apart_from 0 2 AsValue (omega arith) l ls) (often_itself hs))) (staying_each (1 ∷ []) gs gs each_itself)

  rearranged_after : is_rearranged second_dropped (after hs) gs ≡ true
  rearranged_after =
      rearranged_as (1 ∷ []) (after hs) gs (skipped (Part 0 AsValue) (hs ++ (Part 1 AsValue ∷ [])) hs (apart_from 0 2 AsValue (omega arith) l ls) (often_more hs (Part 1 AsValue ∷ []) hs (often_itself hs)))
      (subst (λ ks. has_each gs (Part 0 AsValue ∷ ks) ≡ true) (sym (staying_more (1 ∷ []) hs (Part 1 AsValue ∷ []) ∙ append-nil (staying second_dropped hs))) (staying_each (1 ∷ []) gs gs each_itself))

-- ---- where they stand

pub stands_link : (f : Free) (o : Bool) (i : ℕ) (l : Link) (t : Sketch) → stands_well f AsValue t ≡ true → stands_well f AsValue (link_sketch o i l t) ≡ true
stands_link f o i (a_member k) t e = both (stands_well f AsValue t) true e refl
stands_link f o i (a_computed k) t e = both (stands_well f AsValue t) true e refl
stands_link f o i (a_call ts) t e = both (stands_well f AsValue t) true e refl

pub stands_of : (f : Free) (b : Sketch) → stands_well f AsValue b ≡ true → (o : Bool) (i : ℕ) (l : Link) (ls : List Link) → stands_well f AsValue (sketch_of b o i l ls) ≡ true
stands_of f b e o i l [] = stands_link f o i l b e
stands_of f b e o i l (m ∷ ls) = stands_link f false i l (sketch_of b o (suc i) m ls) (stands_of f b e o (suc i) m ls)

stands_sketch : (f : Free) (o : Bool) (i : ℕ) (l : Link) (ls : List Link) → stands_well f AsValue (sketch o i l ls) ≡ true
stands_sketch f = stands_of f (part 0) refl

-- ---- the conditional, and the chain

abbrev pub asked_before : Sketch → Sketch
asked_before s = under Conditional (under (Binary binary_operator.Equality) (part 0 ▹ under Null end ▹ end) ▹ part 1 ▹ s ▹ end)

abbrev pub asked_after : Sketch → Sketch
asked_after s = under Conditional (under (Binary binary_operator.Inequality) (part 0 ▹ under Null end ▹ end) ▹ s ▹ part 1 ▹ end)

abbrev pub chained : Sketch → Sketch
chained s = under Chain (s ▹ end)

module _ (l : Link) (ls : List Link) where
  abbrev plain : Sketch
  plain = sketch false 2 l ls

  abbrev optional : Sketch
  optional = sketch true 2 l ls

  chained_holes : parts_of AsValue (chained optional) ≡ Part 0 AsValue ∷ holes 2 l ls
  chained_holes = ap (λ hs. hs ++ []) (sketch_holes true 2 l ls) ∙ append-nil (Part 0 AsValue ∷ holes 2 l ls)

  before_holes : parts_of AsValue (asked_before plain) ≡ before (holes 2 l ls)
  before_holes = ap (λ hs. Part 0 AsValue ∷ Part 1 AsValue ∷ (hs ++ [])) (sketch_holes false 2 l ls) ∙ ap (λ hs. Part 0 AsValue ∷ Part 1 AsValue ∷ hs) (append-nil (Part 0 AsValue ∷ holes 2 l ls))

  after_holes : parts_of AsValue (asked_after plain) ≡ after (holes 2 l ls)
  after_holes = ap (λ hs. Part 0 AsValue ∷ (hs ++ (Part 1 AsValue ∷ []))) (sketch_holes false 2 l ls)

  chained_stands : stands_well second_dropped AsValue (chained optional) ≡ true
  chained_stands = both (stands_well second_dropped AsValue optional) true (stands_sketch second_dropped true 2 l ls) refl

  pub before_rearranged : rearranges_expression second_dropped (asked_before plain) (chained optional) ≡ true
  before_rearranged =
      both (stands_well second_dropped AsValue (asked_before plain)) _ (both (stands_well second_dropped AsValue plain) true (stands_sketch second_dropped false 2 l ls) refl)
      (both (stands_well second_dropped AsValue (chained optional)) _ chained_stands
      ((λ j. is_rearranged second_dropped (before_holes j) (chained_holes j)) ∙ rearranged_before l ls))

  pub after_rearranged : rearranges_expression second_dropped (asked_after plain) (chained optional) ≡ true
  after_rearranged =
      both (stands_well second_dropped AsValue (asked_after plain)) _ (both (stands_well second_dropped AsValue plain) true (stands_sketch second_dropped false 2 l ls) refl)
      (both (stands_well second_dropped AsValue (chained optional)) _ chained_stands
      ((λ j. is_rearranged second_dropped (after_holes j) (chained_holes j)) ∙ rearranged_after l ls))
