-- What is read of the parts of a plan is a small load against the values that they are read of.
use Rattle.std.proofs.Common.{◌≡◌, ℕ, zero, suc, ◌+◌, ◌-◌, ◌*◌, ◌≤◌, List, [], ◌∷◌, length, refl, ap, sym, subst, Bool, false, arith}
use Rattle.std.specs.Prelude.{⊤, Option, Some, None, Result, Ok}
use Rattle.serde_json.specs.Data.{Data, Items, no_items, item}
use Rattle.serde_json.specs.Find.{get, get_item}
use Rattle.mini_model.specs.declared.shape.Shape.TheVariants as shape
use Rattle.mini_model.specs.Paths.{append}
use Rattle.mini_model.specs.Tree.{Tree, node, Trees, none, ◌▸◌, absent, listed, count}
use Rattle.mini_model.specs.declared.place.Position.{Position}
use Rattle.mini_model.specs.Position.{child_position}
use Rattle.mini_model.specs.Weight.{outlines, directives_weight}
use Rattle.mini_accept.specs.WellShaped as shaped
use Rattle.mini_accept.specs.Faults.{Fault}
use Rattle.mini_accept.specs.Places.{Step, field, place, step_text, down, Place, at}
use Rattle.mini_accept.specs.Fields.{list_at}
use Rattle.mini_accept.specs.Standing.{is_unread}
use Rattle.mini_accept.specs.Plans.{Part, hole, tree_at, inner_at, checked, Child, one, many}
use Rattle.mini_accept.specs.Functions.{directives_in}
use Rattle.mini_accept.specs.Accept.{Reader, below_by, read_below, read_part, read_parts, read_child, read_children}
use Rattle.mini_accept.proofs.Results.{ok_same, bind_ok, under_ok}
use Rattle.mini_writer.proofs.Amounts.{amount, items_amount, found, found_items, found_at, some_amount, items_within}
use Rattle.mini_writer.proofs.Loads.{load, loads}
use Rattle.mini_writer.proofs.Written.{own_light, list_light}

-- ---- readers

-- the texts of a function's directives stand in its shape, and their values in its body
abbrev pub extra : Place → Data → ℕ
extra (at shaped.a_function_body) d = directives_weight (directives_in d)
extra (at shaped.an_arrow_body) d = directives_weight (directives_in d)
extra p d = 0

pub record IsLight (r : Reader) : Type 0 where
  -- what it reads isn't a form that is not read, and is a small load wherever it stands
  pub whole : (strict : Bool) (p : Place) (n : ℕ) (d : Data) (x : Tree × ℕ) → r strict p n d ≡ Ok x → (is_unread strict p d ≡ false) × ((π : Position) → load π x.0 + extra p d + 14 ≤ amount d)
  -- a name that is declared is no more than a name and what a place adds
  pub binding : (strict : Bool) (n : ℕ) (d : Data) (x : Tree × ℕ) → r strict (at shaped.a_binding) n d ≡ Ok x → (π : Position) → load π x.0 ≤ 11

abbrev pub extra_at : Place → Option Data → ℕ
extra_at p None = 0
extra_at p (Some d) = extra p d

-- what is left over of the values of a part
abbrev pub spare : Data → Part → ℕ
spare d hole = 0
spare d (tree_at s p) = extra_at p (down s d)
spare d (inner_at s p) = 0
spare d (checked s p) = found (down s d) - 28

abbrev pub spares : Data → List Part → ℕ
spares d [] = 0
spares d (x ∷ xs) = spare d x + spares d xs

abbrev pub child_spare : Data → Child → ℕ
child_spare d (one x) = spare d x
child_spare d (many xs) = spares d xs

abbrev pub children_spare : Data → List Child → ℕ
children_spare d [] = 0
children_spare d (c ∷ cs) = child_spare d c + children_spare d cs

-- ---- trees

pub absent_light : (π : Position) → load π absent ≤ 6
absent_light π = omega (arith, own_light 0 π shape.Absent [] [] (omega arith))

pub outline_count : (ts : Trees) → length (outlines ts) ≡ count ts
outline_count none = refl
outline_count (t ▸ ts) = ap suc (outline_count ts)

append_count : (a b : Trees) → count (append a b) ≡ count a + count b
append_count none b = omega arith
append_count (t ▸ a) b = omega (arith, append_count a b)

append_light : (a b : Trees) (m : ℕ) → ((ω : ℕ → Position) → loads ω b ≤ m) → (ω : ℕ → Position) → loads ω (append a b) ≤ loads ω a + m
append_light none b m small ω = omega (arith, small ω)
append_light (t ▸ a) b m small ω = omega (arith, append_light a b m small (λ i. ω (suc i)))

pub trees_same : (y z : Trees × ℕ) → ◌≡◌ {A = Result (Trees × ℕ) Fault} (Ok y) (Ok z) → z.0 ≡ y.0
trees_same y z e = ap (λ v. v.0) (sym (ok_same {E = Fault} y z e))

-- ---- parts

-- the part is of the node at the step
abbrev pub PartOf : Step → Part → Type 0
PartOf s hole = ⊤
PartOf s (tree_at t p) = t ≡ s
PartOf s (inner_at t p) = t ≡ s
PartOf s (checked t p) = t ≡ s

-- each part is of the item at its place
abbrev pub PartsAt : List ℕ → ℕ → List Part → Items → Type 0
PartsAt key i [] no_items = ⊤
PartsAt key i [] (item d ds) = ⊥
PartsAt key i (x ∷ xs) no_items = ⊥
PartsAt key i (x ∷ xs) (item d ds) = PartOf (place key i) x × PartsAt key (suc i) xs ds

-- what a part costs, with 8 for its tree
abbrev cost : Data → Part → ℕ
cost d hole = 14
cost d (tree_at s p) = found (down s d)
cost d (inner_at s p) = found (down s d)
cost d (checked s p) = found (down s d)

abbrev LightTrees : Trees → ℕ → ℕ → Type 0
LightTrees ts more n = (ω : ℕ → Position) → loads ω ts + 8 * count ts + more ≤ n

lighter : (ts us : Trees) (more n : ℕ) → ts ≡ us → LightTrees us more n → LightTrees ts more n
lighter ts us more n e small = subst (λ (vs : Trees). LightTrees vs more n) (sym e) small

-- ---- items

-- what is found from a place on
abbrev pub From : Data → List ℕ → ℕ → Items → Type 0
From d key i ds = (j : ℕ) → down (place key (i + j)) d ≡ get_item j ds

pub from_next : (d : Data) (key : List ℕ) (i : ℕ) (e : Data) (ds : Items) → From d key i (item e ds) → From d key (suc i) ds
from_next d key i e ds h j = let same : suc i + j ≡ i + suc j = omega arith in rw same (h (suc j))

pub from_first : (d : Data) (key : List ℕ) (i : ℕ) (e : Data) (ds : Items) → From d key i (item e ds) → down (place key i) d ≡ Some e
from_first d key i e ds h = let same : i ≡ i + 0 = omega arith in rw same (h 0)

pub starts : (d : Data) (key : List ℕ) (ds : Items) → list_at key d ≡ Some ds → From d key 0 ds
starts d key ds e j = let same : 0 + j ≡ j = omega arith in rw (same, e) refl

pub within : (d : Data) (key : List ℕ) (ds : Items) → list_at key d ≡ Some ds → items_amount ds ≤ found (get key d)
within d key ds e = let h : found_items (list_at key d) ≤ found (get key d) = items_within (get key d) in subst (λ (o : Option Items). found_items o ≤ found (get key d)) e h

-- the child is of the node at the key, or of the items of the list there
abbrev pub ChildAt : Data → List ℕ → Child → Type 0
ChildAt d key (one x) = PartOf (field key) x
ChildAt d key (many xs) = (ds : Items) × (list_at key d ≡ Some ds) × PartsAt key 0 xs ds

-- a name that is read once more, or nothing
abbrev pub IsHeld : Child → Type 0
IsHeld (one hole) = ⊤
IsHeld (one (tree_at s (at shaped.a_binding))) = ⊤
IsHeld c = ⊥

-- the children stand at keys of their own, but for one that may be held besides
abbrev pub ChildrenAt : Data → List (List ℕ) → List Child → Type 0
ChildrenAt d [] [] = ⊤
ChildrenAt d [] (c ∷ []) = IsHeld c
ChildrenAt d [] (c ∷ b ∷ cs) = ⊥
ChildrenAt d (k ∷ ks) [] = ⊥
ChildrenAt d (k ∷ ks) (c ∷ cs) = ChildAt d k c × ChildrenAt d ks cs

module _ (r : Reader) (light : IsLight r) where
  below_light : (strict : Bool) (p : Place) (n : ℕ) (s : Step) (o : Option Data) (x : Tree × ℕ) → below_by r strict p n s o ≡ Ok x → (π : Position) → load π x.0 + extra_at p o + 14 ≤ found o
  below_light strict p n s None x e = absurd (cc e)
  below_light strict p n s (Some d) x e = (light.whole strict p n d x (under_ok (step_text s) (r strict p n d) x e)).1

  below_some : (strict : Bool) (p : Place) (n : ℕ) (s : Step) (o : Option Data) (x : Tree × ℕ) → below_by r strict p n s o ≡ Ok x → found o - 28 + 8 ≤ found o
  below_some strict p n s None x e = absurd (cc e)
  below_some strict p n s (Some d) x e = omega (arith, some_amount d)

  part_light : (strict : Bool) (d : Data) (n : ℕ) (x : Part) (y : Trees × ℕ) → read_part r strict d n x ≡ Ok y → LightTrees y.0 (spare d x) (cost d x)
  part_light strict d n hole y e = lighter y.0 (absent ▸ none) 0 14 (trees_same (absent ▸ none, n) y e) (λ ω. omega (arith, absent_light (ω zero)))
  part_light strict d n (tree_at s p) y e =
      let (x, read, same) = bind_ok (read_below r strict n d s p) _ y e in
      let small = below_light strict p n s (down s d) x read in
      lighter y.0 (x.0 ▸ none) (spare d (tree_at s p)) (cost d (tree_at s p)) (trees_same (x.0 ▸ none, x.1) y same) (λ ω. omega (arith, small (ω zero)))
  part_light strict d n (inner_at s p) y e =
      let (x, read, same) = bind_ok (read_below r strict (suc n) d s p) _ y e in
      let small = below_light strict p (suc n) s (down s d) x read in
      lighter y.0 (node shape.InnerExpression [] n (x.0 ▸ none) ▸ none) 0 (cost d (inner_at s p)) (trees_same (node shape.InnerExpression [] n (x.0 ▸ none) ▸ none, x.1) y same)
      (λ ω. let t = x.0 in let whole = small (child_position shape.InnerExpression (ω zero) 1 0) in omega (arith, own_light 0 (ω zero) shape.InnerExpression [] (outlines (t ▸ none)) (omega arith), whole))
  part_light strict d n (checked s p) y e =
      let (x, read, same) = bind_ok (read_below r strict n d s p) _ y e in
      let some = below_some strict p n s (down s d) x read in
      lighter y.0 none (spare d (checked s p)) (cost d (checked s p)) (trees_same (none, n) y same) (λ ω. omega (arith, some))

  -- ---- lists

  item_cost : (d : Data) (key : List ℕ) (i : ℕ) (e : Data) (x : Part) → down (place key i) d ≡ Some e → PartOf (place key i) x → cost d x ≤ amount e
  item_cost d key i e hole is of = omega (arith, some_amount e)
  item_cost d key i e (tree_at s p) is of = rw (of, is) (omega arith)
  item_cost d key i e (inner_at s p) is of = rw (of, is) (omega arith)
  item_cost d key i e (checked s p) is of = rw (of, is) (omega arith)

  both_light : (a b : Trees) (m n k l : ℕ) → LightTrees a m k → LightTrees b n l → LightTrees (append a b) (m + n) (k + l)
  both_light a b m n k l small others ω = let rest : ((υ : ℕ → Position) → loads υ b ≤ l - n - 8 * count b) = (λ υ. omega (arith, others υ)) in omega (arith, small ω, others ω, append_count a b, append_light a b (l - n - 8 * count b) rest ω)

  parts_light : (strict : Bool) (d : Data) (key : List ℕ) (i : ℕ) (xs : List Part) (ds : Items) (n : ℕ) (y : Trees × ℕ) → PartsAt key i xs ds → From d key i ds → read_parts r strict d n xs ≡ Ok y → LightTrees y.0 (spares d xs) (items_amount ds)
  parts_light strict d key i [] no_items n y of from e = lighter y.0 none 0 0 (trees_same (none, n) y e) (λ ω. omega arith)
  parts_light strict d key i [] (item a ds) n y of from e = absurd of
  parts_light strict d key i (x ∷ xs) no_items n y of from e = absurd of
  parts_light strict d key i (x ∷ xs) (item a ds) n y of from e =
      let (z, first, after) = bind_ok (read_part r strict d n x) _ y e in
      let (v, rest, same) = bind_ok (read_parts r strict d z.1 xs) _ y after in
      let one = part_light strict d n x z first in
      let others = parts_light strict d key (suc i) xs ds z.1 v of.1 (from_next d key i a ds from) rest in
      let both = both_light z.0 v.0 (spare d x) (spares d xs) (cost d x) (items_amount ds) one others in
      lighter y.0 (append z.0 v.0) (spares d (x ∷ xs)) (items_amount (item a ds)) (trees_same (append z.0 v.0, v.1) y same)
      (λ ω. omega (arith, both ω, item_cost d key i a x (from_first d key i a ds from) of.0))

  -- a list, with 6 for each of its trees
  pub list_read : (strict : Bool) (d : Data) (key : List ℕ) (n : ℕ) (xs : List Part) (y : Trees × ℕ) → ChildAt d key (many xs) → read_child r strict d n (many xs) ≡ Ok y
      → (us : Trees) × (y.0 ≡ listed us ▸ none) × ((π : Position) → load π (listed us) + 6 * count us + spares d xs ≤ 6 + found (get key d))
  list_read strict d key n xs y (ds, there, parts) e =
      let (x, read, same) = bind_ok (read_parts r strict d n xs) _ y e in
      let us = x.0 in
      let all = parts_light strict d key 0 xs ds n x parts (starts d key ds there) read in (
        us,
        trees_same (listed us ▸ none, x.1) y same,
        λ π. omega (
          arith,
          own_light (2 * length (outlines us)) π shape.Listed [] (outlines us) (list_light π (outlines us)),
          outline_count us,
          all (child_position shape.Listed π (count us)),
          within d key ds there,
        ),
      )

  one_light : (strict : Bool) (d : Data) (key : List ℕ) (n : ℕ) (x : Part) (y : Trees × ℕ) → PartOf (field key) x → read_part r strict d n x ≡ Ok y → (ω : ℕ → Position) → loads ω y.0 + spare d x ≤ 6 + found (get key d)
  one_light strict d key n hole y of e ω = let h = part_light strict d n hole y e in omega (arith, h ω, hole_count y (trees_same (absent ▸ none, n) y e))
    where
      hole_count : (z : Trees × ℕ) → z.0 ≡ absent ▸ none → count z.0 ≡ 1
      hole_count z same = ap count same
  one_light strict d key n (tree_at s p) y of e ω = let h = part_light strict d n (tree_at s p) y e in let same : found (down s d) ≡ found (get key d) = rw of refl in omega (arith, h ω, same)
  one_light strict d key n (inner_at s p) y of e ω = let h = part_light strict d n (inner_at s p) y e in let same : found (down s d) ≡ found (get key d) = rw of refl in omega (arith, h ω, same)
  one_light strict d key n (checked s p) y of e ω = let h = part_light strict d n (checked s p) y e in let same : found (down s d) ≡ found (get key d) = rw of refl in omega (arith, h ω, same)

  listed_light : (us : Trees) (ω : ℕ → Position) (m n : ℕ) → ((π : Position) → load π (listed us) + m ≤ n) → loads ω (listed us ▸ none) + m ≤ n
  listed_light us ω m n small = omega (arith, small (ω zero))

  child_light : (strict : Bool) (d : Data) (key : List ℕ) (n : ℕ) (c : Child) (y : Trees × ℕ) → ChildAt d key c → read_child r strict d n c ≡ Ok y → (ω : ℕ → Position) → loads ω y.0 + child_spare d c ≤ 6 + found (get key d)
  child_light strict d key n (one x) y there e ω = one_light strict d key n x y there e ω
  child_light strict d key n (many xs) y there e ω =
      let (us, same, small) = list_read strict d key n xs y there e in
      rw same (listed_light us ω (spares d xs) (6 + found (get key d)) (λ π. omega (arith, small π)))

  -- ---- a name that is held

  binding_light : (strict : Bool) (n : ℕ) (s : Step) (o : Option Data) (x : Tree × ℕ) → below_by r strict (at shaped.a_binding) n s o ≡ Ok x → (π : Position) → load π x.0 + extra_at (at shaped.a_binding) o ≤ 11
  binding_light strict n s None x e π = absurd (cc e)
  binding_light strict n s (Some d) x e π = omega (arith, light.binding strict n d x (under_ok (step_text s) (r strict (at shaped.a_binding) n d) x e) π)

  held_light : (strict : Bool) (d : Data) (n : ℕ) (c : Child) (y : Trees × ℕ) → IsHeld c → read_child r strict d n c ≡ Ok y → (ω : ℕ → Position) → loads ω y.0 + child_spare d c ≤ 11
  held_light strict d n (one hole) y held e ω = rw (trees_same (absent ▸ none, n) y e) (omega (arith, absent_light (ω zero)))
  held_light strict d n (one (tree_at s (at shaped.a_binding))) y held e ω =
      let (x, read, same) = bind_ok (read_below r strict n d s (at shaped.a_binding)) _ y e in
      rw (trees_same (x.0 ▸ none, x.1) y same) (omega (arith, binding_light strict n s (down s d) x read (ω zero)))
  held_light strict d n c y held e ω = absurd held

  pub children_light : (strict : Bool) (d : Data) (keys : List (List ℕ)) (n : ℕ) (cs : List Child) (y : Trees × ℕ) → ChildrenAt d keys cs → read_children r strict d n cs ≡ Ok y
      → (ω : ℕ → Position) → loads ω y.0 + children_spare d cs ≤ 11 + 6 * length keys + found_at keys d
  children_light strict d [] n [] y there e ω = rw (trees_same (none, n) y e) (omega arith)
  children_light strict d [] n (c ∷ []) y held e ω =
      let (z, first, after) = bind_ok (read_child r strict d n c) _ y e in
      rw (trees_same (append z.0 none, z.1) y after) (omega (arith, held_light strict d n c z held first ω, append_light z.0 none 0 (λ υ. omega arith) ω))
  children_light strict d [] n (c ∷ b ∷ cs) y there e ω = absurd there
  children_light strict d (k ∷ ks) n [] y there e ω = absurd there
  children_light strict d (k ∷ ks) n (c ∷ cs) y there e ω =
      let (z, first, after) = bind_ok (read_child r strict d n c) _ y e in
      let (v, rest, same) = bind_ok (read_children r strict d z.1 cs) _ y after in
      let one = child_light strict d k n c z there.0 first in
      let others = children_light strict d ks z.1 cs v there.1 rest in
      let left : (υ : ℕ → Position) → loads υ v.0 ≤ 11 + 6 * length ks + found_at ks d - children_spare d cs = (λ υ. omega (arith, others υ)) in
      rw (trees_same (append z.0 v.0, v.1) y same) (omega (arith, one ω, others ω, append_light z.0 v.0 (11 + 6 * length ks + found_at ks d - children_spare d cs) left ω))
