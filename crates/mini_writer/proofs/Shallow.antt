-- A value nests no deeper than it has values, so within as many it is read.
use Rattle.std.proofs.Common.{◌≡◌, ℕ, zero, suc, ◌≤◌, List, [], ◌∷◌, refl, Bool, true, false, arith}
use Rattle.std.specs.Prelude.{Option, Some, None, option_and_then, Result, Ok, Err}
use Rattle.serde_json.specs.Data.{Data, Items, no_items, item}
use Rattle.serde_json.specs.Find.{get, get_item, as_array}
use Rattle.mini_model.specs.declared.name.Name.{Name}
use Rattle.mini_model.specs.declared.shape.Shape.{Shape}
use Rattle.mini_model.specs.Tree.{Tree, Trees}
use Rattle.mini_accept.specs.WellShaped.{a_program, is_strict_in}
use Rattle.mini_accept.specs.Faults.{Defect}
use Rattle.mini_accept.specs.Places.{Step, field, place, step_text, down, Place, at}
use Rattle.mini_accept.specs.Plans.{Part, hole, tree_at, inner_at, checked, Child, one, many, Plan}
use Rattle.mini_accept.specs.Accept.{plan, Read, Reader, takes_number, below_by, read_below, read_part, read_parts, read_child, read_children, with_children, numbered, read_plan, reads, program_at, Accepts}
use Rattle.mini_accept.proofs.Results.{bind_ok, under_ok}
use Rattle.mini_writer.specs.Fits.{Fits, values_in, values_in_items}
use Rattle.mini_writer.proofs.SizedKeys.{values_found, values_below, values_of_items, array_within, some_value}

-- of the values that are at most so large, the second reader reads whatever the first does
abbrev pub Covers : ℕ → Reader → Reader → Type 0
Covers m r q = (strict : Bool) (p : Place) (n : ℕ) (d : Data) (x : Tree × ℕ) → values_in d ≤ m → r strict p n d ≡ Ok x → q strict p n d ≡ Ok x

item_found : (i : ℕ) (ds : Items) → values_found (get_item i ds) ≤ values_in_items ds
item_found i no_items = omega arith
item_found zero (item d ds) = omega arith
item_found (suc i) (item d ds) = omega (arith, item_found i ds)

item_within : (i : ℕ) (o : Option Items) → values_found (option_and_then (get_item i) o) ≤ values_of_items o
item_within i None = omega arith
item_within i (Some ds) = item_found i ds

-- what stands below has fewer values
pub below_smaller : (m : ℕ) (d : Data) (s : Step) → values_in d ≤ suc m → values_found (down s d) ≤ m
below_smaller m d (field key) small = omega (arith, values_below (key ∷ []) d (tt, tt))
below_smaller m d (place key i) small = omega (arith, values_below (key ∷ []) d (tt, tt), array_within key d, item_within i (option_and_then as_array (get key d)))

module _ (m : ℕ) (r q : Reader) (covers : Covers m r q) where
  below_covered : (strict : Bool) (p : Place) (n : ℕ) (s : Step) (o : Option Data) (x : Tree × ℕ) → values_found o ≤ m → below_by r strict p n s o ≡ Ok x → below_by q strict p n s o ≡ Ok x
  below_covered strict p n s None x small e = e
  below_covered strict p n s (Some d) x small e = rw (covers strict p n d x small (under_ok (step_text s) (r strict p n d) x e)) refl

  with_covered : (h : Shape) (xs : List Name) (l : ℕ) (a b : Read Trees) → ((y : Trees × ℕ) → a ≡ Ok y → b ≡ Ok y) → (x : Tree × ℕ) → with_children h xs l a ≡ Ok x → with_children h xs l b ≡ Ok x
  with_covered h xs l a b more x e =
      let (y, read, whole) = bind_ok a _ x e in
      rw (more y read) whole

  numbered_covered : (b : Bool) (n : ℕ) (h : Shape) (xs : List Name) (f g : ℕ → Read Trees) → ((l : ℕ) (y : Trees × ℕ) → f l ≡ Ok y → g l ≡ Ok y) → (x : Tree × ℕ) → numbered b n h xs f ≡ Ok x → numbered b n h xs g ≡ Ok x
  numbered_covered true n h xs f g more x e = with_covered h xs n (f (suc n)) (g (suc n)) (more (suc n)) x e
  numbered_covered false n h xs f g more x e = with_covered h xs 0 (f n) (g n) (more n) x e

  module _ (d : Data) (small : values_in d ≤ suc m) where
    part_covered : (strict : Bool) (n : ℕ) (c : Part) (y : Trees × ℕ) → read_part r strict d n c ≡ Ok y → read_part q strict d n c ≡ Ok y
    part_covered strict n hole y e = e
    part_covered strict n (tree_at s p) y e =
        let (x, read, whole) = bind_ok (read_below r strict n d s p) _ y e in
        rw (below_covered strict p n s (down s d) x (below_smaller m d s small) read) whole
    part_covered strict n (inner_at s p) y e =
        let (x, read, whole) = bind_ok (read_below r strict (suc n) d s p) _ y e in
        rw (below_covered strict p (suc n) s (down s d) x (below_smaller m d s small) read) whole
    part_covered strict n (checked s p) y e =
        let (x, read, whole) = bind_ok (read_below r strict n d s p) _ y e in
        rw (below_covered strict p n s (down s d) x (below_smaller m d s small) read) whole

    parts_covered : (strict : Bool) (n : ℕ) (cs : List Part) (y : Trees × ℕ) → read_parts r strict d n cs ≡ Ok y → read_parts q strict d n cs ≡ Ok y
    parts_covered strict n [] y e = e
    parts_covered strict n (c ∷ cs) y e =
        let (x, first, after) = bind_ok (read_part r strict d n c) _ y e in
        let (z, rest, whole) = bind_ok (read_parts r strict d x.1 cs) _ y after in
        rw (part_covered strict n c x first, parts_covered strict x.1 cs z rest) whole

    child_covered : (strict : Bool) (n : ℕ) (c : Child) (y : Trees × ℕ) → read_child r strict d n c ≡ Ok y → read_child q strict d n c ≡ Ok y
    child_covered strict n (one c) y e = part_covered strict n c y e
    child_covered strict n (many cs) y e =
        let (x, read, whole) = bind_ok (read_parts r strict d n cs) _ y e in
        rw (parts_covered strict n cs x read) whole

    children_covered : (strict : Bool) (n : ℕ) (cs : List Child) (y : Trees × ℕ) → read_children r strict d n cs ≡ Ok y → read_children q strict d n cs ≡ Ok y
    children_covered strict n [] y e = e
    children_covered strict n (c ∷ cs) y e =
        let (x, first, after) = bind_ok (read_child r strict d n c) _ y e in
        let (z, rest, whole) = bind_ok (read_children r strict d x.1 cs) _ y after in
        rw (child_covered strict n c x first, children_covered strict x.1 cs z rest) whole

    plan_covered : (strict : Bool) (p : Place) (n : ℕ) (o : Result Plan Defect) (x : Tree × ℕ) → read_plan r strict p n d o ≡ Ok x → read_plan q strict p n d o ≡ Ok x
    plan_covered strict p n (Err b) x e = absurd (cc e)
    plan_covered strict p n (Ok o) x e =
        numbered_covered (takes_number p o.shape) n o.shape o.names (λ l. read_children r (is_strict_in strict o.shape) d l o.children) (λ l. read_children q (is_strict_in strict o.shape) d l o.children)
        (λ l y h. children_covered (is_strict_in strict o.shape) l o.children y h) x e

reads_covered : (k m : ℕ) → Covers m (reads k) (reads m)
reads_covered zero m strict p n d x small e = absurd (cc e)
reads_covered (suc k) zero strict p n d x small e = absurd (omega (arith, some_value d))
reads_covered (suc k) (suc m) strict p n d x small e = plan_covered m (reads k) (reads m) (reads_covered k m) d small strict p n (plan strict p d) x e

-- within as many levels as there are values
shallow : (d : Data) (t : Tree) (m : ℕ) → Accepts d t → values_in d ≤ m → (numbers : ℕ) × (program_at m d ≡ Ok (t, numbers))
unfolding program_at
shallow d t m (k, n, e) small = (n, reads_covered k m false (at a_program) 0 d (t, n) small e)

pub fitting_read : (d : Data) (t : Tree) → Accepts d t → Fits d → (numbers : ℕ) × (program_at 4294967295 d ≡ Ok (t, numbers))
fitting_read d t accepted small = let h = small.values in shallow d t 4294967295 accepted (omega arith)
