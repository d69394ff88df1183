-- What is read of the parts of a plan is known of each part, where it is known of each node below.
use Rattle.std.proofs.Common.{◌≡◌, ℕ, zero, suc, ◌≤◌, List, [], ◌∷◌, refl, ap, sym, ◌∙◌, subst, arith, Bool, true, false}
use Rattle.std.proofs.Math.Dec.{eqb-suc-zero}
use Rattle.std.specs.Prelude.{⊤, ◌==◌, not, Option, Some, None, Result, Ok, if◌then◌else◌}
use Rattle.serde_json.specs.Data.{Data}
use Rattle.mini_model.specs.declared.name.Name.{Name}
use Rattle.mini_model.specs.declared.shape.Shape.{Shape}
use Rattle.mini_model.specs.declared.shape.Shape.TheVariants as shape
use Rattle.mini_model.specs.Paths.{append}
use Rattle.mini_model.specs.Tree.{Tree, node, Trees, none, ◌▸◌, absent, listed}
use Rattle.mini_accept.specs.WellShaped as shaped
use Rattle.mini_accept.specs.WellShaped.{a_program, is_strict_in, fits}
use Rattle.mini_accept.specs.Faults.{Fault}
use Rattle.mini_accept.specs.Places.{Step, step_text, down, Place, at}
use Rattle.mini_accept.specs.Plans.{Part, hole, tree_at, inner_at, checked, Child, one, many, Plan}
use Rattle.mini_accept.specs.Accept.{Read, Reader, takes_number, below_by, read_below, read_part, read_parts, read_child, read_children, numbered, read_plan}
use Rattle.mini_accept.proofs.Results.{ok_same, bind_ok, under_ok}
use Rattle.mini_accept.proofs.Numbers.{Counting, Counts, part_counts, child_counts}
use Rattle.mini_accept.proofs.Fitting.{Known, KnownBelow, Of, trees_of, OfParts, trees_of_parts, OfChild, trees_of_child, OfChildren, trees_of_children}

-- what is known of each node below the program, where the next number is at least 1
abbrev pub Knowing : Reader → Type 0
Knowing r = (strict : Bool) (p : Place) (n : ℕ) (d : Data) (x : Tree × ℕ) → 1 ≤ n → r strict p n d ≡ Ok x → Known strict p d x.0

-- ---- parts

trees_same : (y z : Trees × ℕ) → ◌≡◌ {A = Result (Trees × ℕ) Fault} (Ok y) (Ok z) → z.0 ≡ y.0
trees_same y z e = ap (λ v. v.0) (sym (ok_same {E = Fault} y z e))

both : (a b c d : Trees) → a ≡ c → b ≡ d → append a b ≡ append c d
both a b c d x y = cc

module _ (r : Reader) (knows : Knowing r) (counting : Counting r) (strict : Bool) where
  below_known : (p : Place) (n : ℕ) (s : Step) (o : Option Data) (x : Tree × ℕ) → 1 ≤ n → below_by r strict p n s o ≡ Ok x → KnownBelow strict p o x.0
  below_known p n s None x h e = absurd (cc e)
  below_known p n s (Some d) x h e = knows strict p n d x h (under_ok (step_text s) (r strict p n d) x e)

  inner_gathered : (d : Data) (n : ℕ) (s : Step) (p : Place) (x : Tree × ℕ) → 1 ≤ n → read_below r strict (suc n) d s p ≡ Ok x → (w : Of strict d (inner_at s p)) × (node shape.InnerExpression [] n (x.0 ▸ none) ▸ none ≡ trees_of strict d (inner_at s p) w)
  inner_gathered d zero s p x h e = absurd (omega arith)
  inner_gathered d (suc n) s p x h e = ((n, x.0, below_known p (suc (suc n)) s (down s d) x (omega arith) e), refl)

  part_gathered : (d : Data) (n : ℕ) (x : Part) (y : Trees × ℕ) → 1 ≤ n → read_part r strict d n x ≡ Ok y → (w : Of strict d x) × (y.0 ≡ trees_of strict d x w)
  part_gathered d n hole y h e = (tt, trees_same (absent ▸ none, n) y e)
  part_gathered d n (tree_at s p) y h e =
      let (x, read, same) = bind_ok (read_below r strict n d s p) _ y e in
      ((x.0, below_known p n s (down s d) x h read), trees_same (x.0 ▸ none, x.1) y same)
  part_gathered d n (inner_at s p) y h e =
      let (x, read, same) = bind_ok (read_below r strict (suc n) d s p) _ y e in
      let (w, is) = inner_gathered d n s p x h read in
      (w, trees_same (node shape.InnerExpression [] n (x.0 ▸ none) ▸ none, x.1) y same ∙ is)
  part_gathered d n (checked s p) y h e =
      let (x, read, same) = bind_ok (read_below r strict n d s p) _ y e in
      ((x.0, below_known p n s (down s d) x h read), trees_same (none, n) y same)

  parts_gathered : (d : Data) (n : ℕ) (xs : List Part) (y : Trees × ℕ) → 1 ≤ n → read_parts r strict d n xs ≡ Ok y → (w : OfParts strict d xs) × (y.0 ≡ trees_of_parts strict d xs w)
  parts_gathered d n [] y h e = (tt, trees_same (none, n) y e)
  parts_gathered d n (c ∷ cs) y h e =
      let (x, first, after) = bind_ok (read_part r strict d n c) _ y e in
      let (z, rest, same) = bind_ok (read_parts r strict d x.1 cs) _ y after in
      let counts : Counts n x = part_counts r counting strict d n c x h first in
      let (w, is) = part_gathered d n c x h first in
      let (v, are) = parts_gathered d x.1 cs z (omega (arith, h, counts.1)) rest in
      ((w, v), trees_same (append x.0 z.0, z.1) y same ∙ both x.0 z.0 (trees_of strict d c w) (trees_of_parts strict d cs v) is are)

  child_gathered : (d : Data) (n : ℕ) (c : Child) (y : Trees × ℕ) → 1 ≤ n → read_child r strict d n c ≡ Ok y → (w : OfChild strict d c) × (y.0 ≡ trees_of_child strict d c w)
  child_gathered d n (one x) y h e = part_gathered d n x y h e
  child_gathered d n (many xs) y h e =
      let (x, read, same) = bind_ok (read_parts r strict d n xs) _ y e in
      let (w, are) = parts_gathered d n xs x h read in
      (w, trees_same (listed x.0 ▸ none, x.1) y same ∙ ap (λ ts. listed ts ▸ none) are)

  children_gathered : (d : Data) (n : ℕ) (cs : List Child) (y : Trees × ℕ) → 1 ≤ n → read_children r strict d n cs ≡ Ok y → (w : OfChildren strict d cs) × (y.0 ≡ trees_of_children strict d cs w)
  children_gathered d n [] y h e = (tt, trees_same (none, n) y e)
  children_gathered d n (c ∷ cs) y h e =
      let (x, first, after) = bind_ok (read_child r strict d n c) _ y e in
      let (z, rest, same) = bind_ok (read_children r strict d x.1 cs) _ y after in
      let counts : Counts n x = child_counts r counting strict d n c x h first in
      let (w, is) = child_gathered d n c x h first in
      let (v, are) = children_gathered d x.1 cs z (omega (arith, h, counts.1)) rest in
      ((w, v), trees_same (append x.0 z.0, z.1) y same ∙ both x.0 z.0 (trees_of_child strict d c w) (trees_of_children strict d cs v) is are)

-- ---- nodes

-- a node that takes a number has another than 0, and any other has 0
abbrev pub has_number : Bool → ℕ → Bool
has_number b n = if b then not (n == 0) else n == 0

-- the number of a node that is read in a place; of the program's nothing is known but that it is the first
abbrev pub Numbered : Place → Shape → ℕ → Type 0
Numbered (at a_program) h n = ⊤
Numbered p h n = has_number (takes_number p h) n ≡ true

-- a tree that is read by a plan is known, whatever is read of its parts
abbrev pub Whole : Bool → Place → Data → Plan → Type 0
Whole strict p d x = (w : OfChildren (is_strict_in strict x.shape) d x.children) (n : ℕ) → Numbered p x.shape n
    → Known strict p d (node x.shape x.names n (trees_of_children (is_strict_in strict x.shape) d x.children w))

abbrev pub WholePlan : Bool → Place → Data → Option Plan → Type 0
WholePlan strict p d None = ⊤
WholePlan strict p d (Some x) = Whole strict p d x

pub record WholeIf (strict : Bool) (p : Place) (d : Data) (o : Option Plan) : Type 0 where
  pub known : WholePlan strict p d o

tree_same : (y z : Tree × ℕ) → ◌≡◌ {A = Result (Tree × ℕ) Fault} (Ok y) (Ok z) → z.0 ≡ y.0
tree_same y z e = ap (λ v. v.0) (sym (ok_same {E = Fault} y z e))

number_in_place : (p : Place) (h : Shape) (n : ℕ) → has_number (takes_number p h) n ≡ true → Numbered p h n
number_in_place (at a_program) h n e = tt
number_in_place p h n e = e

positive : (n : ℕ) → 1 ≤ n → not (n == 0) ≡ true
positive zero h = absurd (omega arith)
positive (suc n) h = ap not (eqb-suc-zero n)

-- the number and the children of a node that is read
numbered_read : (b : Bool) (n : ℕ) (h : Shape) (xs : List Name) (f : ℕ → Read Trees) (x : Tree × ℕ) → 1 ≤ n → numbered b n h xs f ≡ Ok x
    → (m : ℕ) × (l : ℕ) × (y : Trees × ℕ) × (f l ≡ Ok y) × (1 ≤ l) × (has_number b m ≡ true) × (x.0 ≡ node h xs m y.0)
numbered_read true n h xs f x some e =
    let (y, read, same) = bind_ok (f (suc n)) _ x e in
    (n, suc n, y, read, omega arith, positive n some, tree_same (node h xs n y.0, y.1) x same)
numbered_read false n h xs f x some e =
    let (y, read, same) = bind_ok (f n) _ x e in
    (0, n, y, read, some, refl, tree_same (node h xs 0 y.0, y.1) x same)

pub plan_known : (r : Reader) → Knowing r → Counting r → (strict : Bool) (p : Place) (n : ℕ) (d : Data) (o : Plan) (x : Tree × ℕ) → Whole strict p d o → 1 ≤ n → read_plan r strict p n d (Ok o) ≡ Ok x → Known strict p d x.0
plan_known r knows counting strict p n d o x whole some e =
    let (m, l, y, read, more, number, same) = numbered_read (takes_number p o.shape) n o.shape o.names (λ m. read_children r (is_strict_in strict o.shape) d m o.children) x some e in
    let (w, are) = children_gathered r knows counting (is_strict_in strict o.shape) d l o.children y more read in
    subst (Known strict p d) (sym (same ∙ ap (node o.shape o.names m) are)) (whole w m (number_in_place p o.shape m number))

-- the program, which has the number 0
pub program_known : (r : Reader) → Knowing r → Counting r → (d : Data) (o : Plan) (x : Tree × ℕ) → Whole false (at a_program) d o → read_plan r false (at a_program) 0 d (Ok o) ≡ Ok x → fits false (shaped.one a_program) x.0 ≡ true
program_known r knows counting d o x whole e =
    let (y, read, same) = bind_ok (read_children r (is_strict_in false o.shape) d 1 o.children) _ x e in
    let (w, are) = children_gathered r knows counting (is_strict_in false o.shape) d 1 o.children y (omega arith) read in
    subst (λ t. fits false (shaped.one a_program) t ≡ true) (sym (tree_same (node o.shape o.names 0 y.0, y.1) x same ∙ ap (node o.shape o.names 0) are)) ((whole w 0 tt).0 refl)
