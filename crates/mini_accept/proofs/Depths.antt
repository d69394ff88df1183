-- A greater limit of depth reads the same tree.
use Rattle.std.proofs.Common.{◌≡◌, ℕ, zero, suc, ◌≤◌, List, [], ◌∷◌, refl, ap, sym, ◌∙◌, Bool, true, false, arith}
use Rattle.std.specs.Prelude.{Option, Some, None, Result, Ok, Err, max}
use Rattle.serde_json.specs.Data.{Data}
use Rattle.mini_model.specs.declared.name.Name.{Name}
use Rattle.mini_model.specs.declared.shape.Shape.{Shape}
use Rattle.mini_model.specs.Tree.{Tree, Trees}
use Rattle.mini_accept.specs.WellShaped.{a_program, is_strict_in}
use Rattle.mini_accept.specs.Faults.{Defect, Fault}
use Rattle.mini_accept.specs.Places.{Step, step_text, down, Place, at}
use Rattle.mini_accept.specs.Plans.{Part, hole, tree_at, inner_at, checked, Child, one, many, Plan}
use Rattle.mini_accept.specs.Accept.{plan, Read, Reader, takes_number, below_by, read_below, read_part, read_parts, read_child, read_children, with_children, numbered, read_plan, reads, program_at, Accepts}
use Rattle.mini_accept.proofs.Results.{ok_same, bind_ok, under_ok}

-- the second reader reads whatever the first does
abbrev pub Extends : Reader → Reader → Type 0
Extends r q = (strict : Bool) (p : Place) (n : ℕ) (d : Data) (x : Tree × ℕ) → r strict p n d ≡ Ok x → q strict p n d ≡ Ok x

pub below_more : (r q : Reader) → Extends r q → (strict : Bool) (p : Place) (n : ℕ) (s : Step) (o : Option Data) (x : Tree × ℕ) → below_by r strict p n s o ≡ Ok x → below_by q strict p n s o ≡ Ok x
below_more r q more strict p n s None x e = e
below_more r q more strict p n s (Some d) x e = rw (more strict p n d x (under_ok (step_text s) (r strict p n d) x e)) refl

pub part_more : (r q : Reader) → Extends r q → (strict : Bool) (d : Data) (n : ℕ) (c : Part) (y : Trees × ℕ) → read_part r strict d n c ≡ Ok y → read_part q strict d n c ≡ Ok y
part_more r q more strict d n hole y e = e
part_more r q more strict d n (tree_at s p) y e =
    let (x, read, whole) = bind_ok (read_below r strict n d s p) _ y e in
    rw (below_more r q more strict p n s (down s d) x read) whole
part_more r q more strict d n (inner_at s p) y e =
    let (x, read, whole) = bind_ok (read_below r strict (suc n) d s p) _ y e in
    rw (below_more r q more strict p (suc n) s (down s d) x read) whole
part_more r q more strict d n (checked s p) y e =
    let (x, read, whole) = bind_ok (read_below r strict n d s p) _ y e in
    rw (below_more r q more strict p n s (down s d) x read) whole

pub parts_more : (r q : Reader) → Extends r q → (strict : Bool) (d : Data) (n : ℕ) (cs : List Part) (y : Trees × ℕ) → read_parts r strict d n cs ≡ Ok y → read_parts q strict d n cs ≡ Ok y
parts_more r q more strict d n [] y e = e
parts_more r q more strict d n (c ∷ cs) y e =
    let (x, first, after) = bind_ok (read_part r strict d n c) _ y e in
    let (z, rest, whole) = bind_ok (read_parts r strict d x.1 cs) _ y after in
    rw (part_more r q more strict d n c x first, parts_more r q more strict d x.1 cs z rest) whole

pub child_more : (r q : Reader) → Extends r q → (strict : Bool) (d : Data) (n : ℕ) (c : Child) (y : Trees × ℕ) → read_child r strict d n c ≡ Ok y → read_child q strict d n c ≡ Ok y
child_more r q more strict d n (one c) y e = part_more r q more strict d n c y e
child_more r q more strict d n (many cs) y e =
    let (x, read, whole) = bind_ok (read_parts r strict d n cs) _ y e in
    rw (parts_more r q more strict d n cs x read) whole

pub children_more : (r q : Reader) → Extends r q → (strict : Bool) (d : Data) (n : ℕ) (cs : List Child) (y : Trees × ℕ) → read_children r strict d n cs ≡ Ok y → read_children q strict d n cs ≡ Ok y
children_more r q more strict d n [] y e = e
children_more r q more strict d n (c ∷ cs) y e =
    let (x, first, after) = bind_ok (read_child r strict d n c) _ y e in
    let (z, rest, whole) = bind_ok (read_children r strict d x.1 cs) _ y after in
    rw (child_more r q more strict d n c x first, children_more r q more strict d x.1 cs z rest) whole

with_more : (h : Shape) (xs : List Name) (m : ℕ) (a b : Read Trees) → ((y : Trees × ℕ) → a ≡ Ok y → b ≡ Ok y) → (x : Tree × ℕ) → with_children h xs m a ≡ Ok x → with_children h xs m b ≡ Ok x
with_more h xs m a b more x e =
    let (y, read, whole) = bind_ok a _ x e in
    rw (more y read) whole

numbered_more : (b : Bool) (n : ℕ) (h : Shape) (xs : List Name) (f g : ℕ → Read Trees) → ((m : ℕ) (y : Trees × ℕ) → f m ≡ Ok y → g m ≡ Ok y) → (x : Tree × ℕ) → numbered b n h xs f ≡ Ok x → numbered b n h xs g ≡ Ok x
numbered_more true n h xs f g more x e = with_more h xs n (f (suc n)) (g (suc n)) (more (suc n)) x e
numbered_more false n h xs f g more x e = with_more h xs 0 (f n) (g n) (more n) x e

plan_more : (r q : Reader) → Extends r q → (strict : Bool) (p : Place) (n : ℕ) (d : Data) (o : Result Plan Defect) (x : Tree × ℕ) → read_plan r strict p n d o ≡ Ok x → read_plan q strict p n d o ≡ Ok x
plan_more r q more strict p n d (Err b) x e = absurd (cc e)
plan_more r q more strict p n d (Ok o) x e =
    numbered_more (takes_number p o.shape) n o.shape o.names (λ m. read_children r (is_strict_in strict o.shape) d m o.children) (λ m. read_children q (is_strict_in strict o.shape) d m o.children)
    (λ m y h. children_more r q more (is_strict_in strict o.shape) d m o.children y h) x e

pub reads_more : (k l : ℕ) → k ≤ l → Extends (reads k) (reads l)
reads_more zero l h strict p n d x e = absurd (cc e)
reads_more (suc k) zero h strict p n d x e = absurd (omega arith)
reads_more (suc k) (suc l) h strict p n d x e = plan_more (reads k) (reads l) (reads_more k l (omega arith)) strict p n d (plan strict p d) x e

pub deeper : (k l : ℕ) (d : Data) (t : Tree) (n : ℕ) → program_at k d ≡ Ok (t, n) → k ≤ l → program_at l d ≡ Ok (t, n)
unfolding program_at
deeper k l d t n e h = reads_more k l h false (at a_program) 0 d (t, n) e

pub one_tree : (d : Data) (t u : Tree) → Accepts d t → Accepts d u → t ≡ u
one_tree d t u (k, n, a) (l, m, b) =
    ap (λ x. x.0) (ok_same {E = Fault} (t, n) (u, m) (sym (deeper k (max k l) d t n a (omega arith)) ∙ deeper l (max k l) d u m b (omega arith)))
