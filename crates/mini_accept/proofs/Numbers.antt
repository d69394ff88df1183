-- The numbers of a tree that is read are those from 0 on, in preorder.
use Rattle.std.proofs.Common.{◌≡◌, ℕ, zero, suc, ◌≤◌, List, [], ◌∷◌, refl, ap, sym, subst, arith, Bool, true, false}
use Rattle.std.proofs.lemmas.Bool.{eq-eqb}
use Rattle.std.proofs.Math.Dec.{eqb-zero-suc}
use Rattle.std.specs.Prelude.{nat_eq, Option, Some, None, option_and_then, unwrap_or, Result, Ok, Err}
use Rattle.serde_json.specs.Data.{Data}
use Rattle.mini_model.specs.declared.name.Name.{Name}
use Rattle.mini_model.specs.declared.shape.Shape.{Shape}
use Rattle.mini_model.specs.declared.shape.Shape.TheVariants as shape
use Rattle.mini_model.specs.Paths.{append}
use Rattle.mini_model.specs.Tree.{Tree, node, Trees, none, ◌▸◌, absent, listed}
use Rattle.mini_accept.specs.WellShaped.{a_program, is_strict_in}
use Rattle.mini_accept.specs.Faults.{Defect, Fault}
use Rattle.mini_accept.specs.Places.{Step, step_text, down, Place, at}
use Rattle.mini_accept.specs.Plans.{Part, hole, tree_at, inner_at, checked, Child, one, many, Plan}
use Rattle.mini_accept.specs.Accept.{plan, Read, Reader, takes_number, below_by, read_below, read_part, read_parts, read_child, read_children, with_children, numbered, read_plan, reads, program_at}
use Rattle.mini_accept.specs.Numbered.{number_after, next_after, next_among}
use Rattle.mini_accept.proofs.Results.{ok_same, bind_ok, under_ok}

-- what was read has the numbers from n on, up to the next one
abbrev pub Counts : ℕ → Trees × ℕ → Type 0
Counts n y = (next_among y.0 n ≡ Some y.1) × (n ≤ y.1)

abbrev pub CountsOne : ℕ → Tree × ℕ → Type 0
CountsOne n x = (next_after x.0 n ≡ Some x.1) × (n ≤ x.1)

abbrev pub Counting : Reader → Type 0
Counting r = (strict : Bool) (p : Place) (n : ℕ) (d : Data) (x : Tree × ℕ) → 1 ≤ n → r strict p n d ≡ Ok x → CountsOne n x

same_number : (n : ℕ) → nat_eq n n ≡ true
same_number n = eq-eqb n n refl

numbered_after : (n : ℕ) → number_after n n ≡ Some (suc n)
numbered_after n = rw (same_number n) refl

unnumbered_after : (n : ℕ) → 1 ≤ n → number_after 0 n ≡ Some n
unnumbered_after zero h = absurd (omega arith)
unnumbered_after (suc n) h = rw (eqb-zero-suc n) refl

some_same : (n m : ℕ) → Some n ≡ Some m → n ≡ m
some_same n m e = ap (λ o. unwrap_or o 0) e

then_some : (f : ℕ → Option ℕ) (o : Option ℕ) (m : ℕ) → option_and_then f o ≡ Some m → (k : ℕ) × (o ≡ Some k) × (f k ≡ Some m)
then_some f None m e = absurd (cc e)
then_some f (Some k) m e = (k, refl, e)

next_append : (ts us : Trees) (n m l : ℕ) → next_among ts n ≡ Some m → next_among us m ≡ Some l → next_among (append ts us) n ≡ Some l
next_append none us n m l a b = subst (λ k. next_among us k ≡ Some l) (sym (some_same n m a)) b
next_append (t ▸ ts) us n m l a b =
    let (k, first, rest) = then_some (next_among ts) (next_after t n) m a in
    rw first (next_append ts us k m l rest b)

-- ---- parts

below_counts : (r : Reader) → Counting r → (strict : Bool) (p : Place) (n : ℕ) (s : Step) (o : Option Data) (x : Tree × ℕ) → 1 ≤ n → below_by r strict p n s o ≡ Ok x → CountsOne n x
below_counts r counting strict p n s None x h e = absurd (cc e)
below_counts r counting strict p n s (Some d) x h e = counting strict p n d x h (under_ok (step_text s) (r strict p n d) x e)

alone : (n : ℕ) (x : Tree × ℕ) → CountsOne n x → Counts n (x.0 ▸ none, x.1)
alone n x (a, b) = (rw a refl, b)

inside : (n : ℕ) (x : Tree × ℕ) → CountsOne (suc n) x → Counts n (node shape.InnerExpression [] n (x.0 ▸ none) ▸ none, x.1)
inside n x (a, b) = (rw (numbered_after n, a) refl, omega (arith, b))

whole : (n : ℕ) (y z : Trees × ℕ) → Counts n y → ◌≡◌ {A = Result (Trees × ℕ) Fault} (Ok y) (Ok z) → Counts n z
whole n y z c e = subst (Counts n) (ok_same {E = Fault} y z e) c

pub part_counts : (r : Reader) → Counting r → (strict : Bool) (d : Data) (n : ℕ) (c : Part) (y : Trees × ℕ) → 1 ≤ n → read_part r strict d n c ≡ Ok y → Counts n y
part_counts r counting strict d n hole y h e = whole n (absent ▸ none, n) y (rw (unnumbered_after n h) refl, omega arith) e
part_counts r counting strict d n (tree_at s p) y h e =
    let (x, read, same) = bind_ok (read_below r strict n d s p) _ y e in
    whole n (x.0 ▸ none, x.1) y (alone n x (below_counts r counting strict p n s (down s d) x h read)) same
part_counts r counting strict d n (inner_at s p) y h e =
    let (x, read, same) = bind_ok (read_below r strict (suc n) d s p) _ y e in
    whole n (node shape.InnerExpression [] n (x.0 ▸ none) ▸ none, x.1) y (inside n x (below_counts r counting strict p (suc n) s (down s d) x (omega arith) read)) same
part_counts r counting strict d n (checked s p) y h e =
    let (x, read, same) = bind_ok (read_below r strict n d s p) _ y e in
    whole n (none, n) y (refl, omega arith) same

both : (n : ℕ) (x z : Trees × ℕ) → Counts n x → Counts x.1 z → Counts n (append x.0 z.0, z.1)
both n x z (a, b) (c, d) = (next_append x.0 z.0 n x.1 z.1 a c, omega (arith, b, d))

parts_counts : (r : Reader) → Counting r → (strict : Bool) (d : Data) (n : ℕ) (cs : List Part) (y : Trees × ℕ) → 1 ≤ n → read_parts r strict d n cs ≡ Ok y → Counts n y
parts_counts r counting strict d n [] y h e = whole n (none, n) y (refl, omega arith) e
parts_counts r counting strict d n (c ∷ cs) y h e =
    let (x, first, after) = bind_ok (read_part r strict d n c) _ y e in
    let (z, rest, same) = bind_ok (read_parts r strict d x.1 cs) _ y after in
    let a : Counts n x = part_counts r counting strict d n c x h first in
    let b : Counts x.1 z = parts_counts r counting strict d x.1 cs z (omega (arith, h, a.1)) rest in
    whole n (append x.0 z.0, z.1) y (both n x z a b) same

in_list : (n : ℕ) (x : Trees × ℕ) → 1 ≤ n → Counts n x → Counts n (listed x.0 ▸ none, x.1)
in_list n x h (a, b) = (rw (unnumbered_after n h, a) refl, b)

pub child_counts : (r : Reader) → Counting r → (strict : Bool) (d : Data) (n : ℕ) (c : Child) (y : Trees × ℕ) → 1 ≤ n → read_child r strict d n c ≡ Ok y → Counts n y
child_counts r counting strict d n (one c) y h e = part_counts r counting strict d n c y h e
child_counts r counting strict d n (many cs) y h e =
    let (x, read, same) = bind_ok (read_parts r strict d n cs) _ y e in
    whole n (listed x.0 ▸ none, x.1) y (in_list n x h (parts_counts r counting strict d n cs x h read)) same

children_counts : (r : Reader) → Counting r → (strict : Bool) (d : Data) (n : ℕ) (cs : List Child) (y : Trees × ℕ) → 1 ≤ n → read_children r strict d n cs ≡ Ok y → Counts n y
children_counts r counting strict d n [] y h e = whole n (none, n) y (refl, omega arith) e
children_counts r counting strict d n (c ∷ cs) y h e =
    let (x, first, after) = bind_ok (read_child r strict d n c) _ y e in
    let (z, rest, same) = bind_ok (read_children r strict d x.1 cs) _ y after in
    let a : Counts n x = child_counts r counting strict d n c x h first in
    let b : Counts x.1 z = children_counts r counting strict d x.1 cs z (omega (arith, h, a.1)) rest in
    whole n (append x.0 z.0, z.1) y (both n x z a b) same

-- ---- nodes

one_whole : (n : ℕ) (y z : Tree × ℕ) → CountsOne n y → ◌≡◌ {A = Result (Tree × ℕ) Fault} (Ok y) (Ok z) → CountsOne n z
one_whole n y z c e = subst (CountsOne n) (ok_same {E = Fault} y z e) c

with_number : (n : ℕ) (h : Shape) (xs : List Name) (r : Read Trees) (x : Tree × ℕ) → ((y : Trees × ℕ) → r ≡ Ok y → Counts (suc n) y) → with_children h xs n r ≡ Ok x → CountsOne n x
with_number n h xs r x counts e =
    let (y, read, same) = bind_ok r _ x e in
    let (a, b) = counts y read in
    one_whole n (node h xs n y.0, y.1) x (rw (numbered_after n, a) refl, omega (arith, b)) same

without_number : (n : ℕ) → 1 ≤ n → (h : Shape) (xs : List Name) (r : Read Trees) (x : Tree × ℕ) → ((y : Trees × ℕ) → r ≡ Ok y → Counts n y) → with_children h xs 0 r ≡ Ok x → CountsOne n x
without_number n positive h xs r x counts e =
    let (y, read, same) = bind_ok r _ x e in
    let (a, b) = counts y read in
    one_whole n (node h xs 0 y.0, y.1) x (rw (unnumbered_after n positive, a) refl, b) same

node_counts : (b : Bool) (n : ℕ) → 1 ≤ n → (h : Shape) (xs : List Name) (r : ℕ → Read Trees) (x : Tree × ℕ) → ((m : ℕ) (y : Trees × ℕ) → 1 ≤ m → r m ≡ Ok y → Counts m y) → numbered b n h xs r ≡ Ok x → CountsOne n x
node_counts true n positive h xs r x counts e = with_number n h xs (r (suc n)) x (λ y. counts (suc n) y (omega arith)) e
node_counts false n positive h xs r x counts e = without_number n positive h xs (r n) x (λ y. counts n y positive) e

plan_counts : (r : Reader) → Counting r → (strict : Bool) (p : Place) (n : ℕ) (d : Data) (o : Result Plan Defect) (x : Tree × ℕ) → 1 ≤ n → read_plan r strict p n d o ≡ Ok x → CountsOne n x
plan_counts r counting strict p n d (Err b) x h e = absurd (cc e)
plan_counts r counting strict p n d (Ok o) x h e =
    node_counts (takes_number p o.shape) n h o.shape o.names (λ m. read_children r (is_strict_in strict o.shape) d m o.children) x (λ m y positive read. children_counts r counting (is_strict_in strict o.shape) d m o.children y positive read) e

pub reads_count : (k : ℕ) → Counting (reads k)
reads_count zero strict p n d x h e = absurd (cc e)
reads_count (suc k) strict p n d x h e = plan_counts (reads k) (reads_count k) strict p n d (plan strict p d) x h e

root_counts : (r : Reader) → Counting r → (d : Data) (o : Result Plan Defect) (x : Tree × ℕ) → read_plan r false (at a_program) 0 d o ≡ Ok x → CountsOne 0 x
root_counts r counting d (Err b) x e = absurd (cc e)
root_counts r counting d (Ok o) x e =
    with_number 0 o.shape o.names (read_children r (is_strict_in false o.shape) d 1 o.children) x (λ y read. children_counts r counting (is_strict_in false o.shape) d 1 o.children y (omega arith) read) e

program_counts : (k : ℕ) (d : Data) (x : Tree × ℕ) → reads k false (at a_program) 0 d ≡ Ok x → CountsOne 0 x
program_counts zero d x e = absurd (cc e)
program_counts (suc k) d x e = root_counts (reads k) (reads_count k) d (plan false (at a_program) d) x e

pub program_numbered : (k : ℕ) (d : Data) (t : Tree) (n : ℕ) → program_at k d ≡ Ok (t, n) → next_after t 0 ≡ Some n
unfolding program_at
program_numbered k d t n e = (program_counts k d (t, n) e).0
