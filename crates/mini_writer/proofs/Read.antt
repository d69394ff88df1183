-- What is read back: of a value is read this tree, but for numbers and symbols, whatever the next number is.
use Rattle.std.proofs.Common.{◌≡◌, ℕ, zero, suc, List, [], ◌∷◌, refl, ap, sym, ◌∙◌, Bool, true, false, ◌&&◌, ◌||◌}
use Rattle.std.specs.Prelude.{Option, Some, None, is_some, not, codes, Result, Ok, Err}
use Rattle.std.proofs.lemmas.Bool.{and_from, false≢true, true≢false, false_from_ne_true}
use Rattle.serde_json.specs.Data.{Data, null, boolean, number, string, array, object}
use Rattle.mini_model.specs.declared.name.Name.{Name}
use Rattle.mini_model.specs.declared.shape.Shape.{Shape}
use Rattle.mini_model.specs.declared.shape.Shape.TheVariants as shape
use Rattle.mini_model.specs.Paths.{append}
use Rattle.mini_model.specs.Tree.{Tree, node, Trees, none, ◌▸◌, absent, listed, shape_of}
use Rattle.mini_accept.specs.WellShaped.{Class, a_program, is_strict_in}
use Rattle.mini_accept.specs.Faults.{Defect, Fault, ◌>>=◌}
use Rattle.mini_accept.specs.declared.kind.Kind.{Kind}
use Rattle.mini_accept.specs.Places.{Step, step_text, down, Place, at}
use Rattle.mini_accept.specs.Fields.{is_object, kind_of, has_type, is_one_of}
use Rattle.mini_accept.specs.Literals.{is_big_int_literal}
use Rattle.mini_accept.specs.Standing.{may_stand, is_unread, is_unread_form, is_misplaced, is_key, is_nested}
use Rattle.mini_accept.specs.Plans.{Part, hole, tree_at, inner_at, checked, Child, one, many, Plan}
use Rattle.mini_accept.specs.Entries.{entry}
use Rattle.mini_accept.specs.Accept.{is_placed_by, is_part_placed, are_parts_placed, is_child_placed, are_placed, plan_if, placed_plan, plan_by, plan_unless, plan, Read, takes_number, below_by, read_below, read_part, read_parts, read_child, read_children, numbered, read_plan, reads}
use Rattle.mini_accept.proofs.Results.{ok_same, bind_ok, under_ok}
use Rattle.mini_accept.proofs.Types.{Typed, kind_typed, type_name, typed_has, typed_there, text_same, types_at}
use Rattle.mini_laws.specs.Symbols.{bare_names}
use Rattle.mini_writer.specs.Bare.{bare, bares}

pub record ReadsBack (k : ℕ) (strict : Bool) (p : Place) (n : ℕ) (d : Data) (t : Tree) : Type 0 where
  pub tree : Tree
  pub next : ℕ
  pub read : reads k strict p n d ≡ Ok (tree, next)
  pub same : bare tree ≡ bare t

pub record TreesBack (r : Read Trees) (ts : Trees) : Type 0 where
  pub trees : Trees
  pub next : ℕ
  pub read : r ≡ Ok (trees, next)
  pub same : bares trees ≡ bares ts

pub record PartBack (k : ℕ) (strict : Bool) (d : Data) (x : Part) (ts : Trees) : Type 0 where
  pub back : (n : ℕ) → TreesBack (read_part (reads k) strict d n x) ts

pub record PartsBack (k : ℕ) (strict : Bool) (d : Data) (xs : List Part) (ts : Trees) : Type 0 where
  pub back : (n : ℕ) → TreesBack (read_parts (reads k) strict d n xs) ts

pub record ChildBack (k : ℕ) (strict : Bool) (d : Data) (c : Child) (ts : Trees) : Type 0 where
  pub back : (n : ℕ) → TreesBack (read_child (reads k) strict d n c) ts

pub record ChildrenBack (k : ℕ) (strict : Bool) (d : Data) (cs : List Child) (ts : Trees) : Type 0 where
  pub back : (n : ℕ) → TreesBack (read_children (reads k) strict d n cs) ts

bares_append : (ts us : Trees) → bares (append ts us) ≡ append (bares ts) (bares us)
bares_append none us = refl
bares_append (t ▸ ts) us = ap (λ x. bare t ▸ x) (bares_append ts us)

both_same : (a b c d : Trees) → bares a ≡ bares c → bares b ≡ bares d → bares (append a b) ≡ bares (append c d)
both_same a b c d e f = bares_append a b ∙ (ap (λ x. append x (bares b)) e ∙ (ap (append (bares c)) f ∙ sym (bares_append c d)))

-- ---- parts

pub hole_back : (k : ℕ) (strict : Bool) (d : Data) → PartBack k strict d hole (absent ▸ none)
hole_back k strict d = record { back = λ n. record { trees = absent ▸ none; next = n; read = refl; same = refl } }

below_read : (k : ℕ) (strict : Bool) (p : Place) (n : ℕ) (s : Step) (o : Option Data) (e : Data) (x : Tree × ℕ) → o ≡ Some e → reads k strict p n e ≡ Ok x → below_by (reads k) strict p n s o ≡ Ok x
below_read k strict p n s None e x there is = absurd (cc there)
below_read k strict p n s (Some d) e x there is = let same : d ≡ e = cc in rw (same, is) refl

pub tree_back : (k : ℕ) (strict : Bool) (d : Data) (s : Step) (p : Place) (e : Data) (t : Tree) → down s d ≡ Some e → ((n : ℕ) → ReadsBack k strict p n e t) → PartBack k strict d (tree_at s p) (t ▸ none)
tree_back k strict d s p e t there back = record { back = λ n. at_number n (back n) }
  where
    at_number : (n : ℕ) → ReadsBack k strict p n e t → TreesBack (read_part (reads k) strict d n (tree_at s p)) (t ▸ none)
    at_number n r = record { trees = r.tree ▸ none; next = r.next; read = ap (λ o. o >>= (λ q. Ok (q.0 ▸ none, q.1))) (below_read k strict p n s (down s d) e (r.tree, r.next) there r.read); same = ap (λ x. x ▸ none) r.same }

pub checked_back : (k : ℕ) (strict : Bool) (d : Data) (s : Step) (p : Place) (e : Data) (t : Tree) → down s d ≡ Some e → ((n : ℕ) → ReadsBack k strict p n e t) → PartBack k strict d (checked s p) none
checked_back k strict d s p e t there back = record { back = λ n. at_number n (back n) }
  where
    at_number : (n : ℕ) → ReadsBack k strict p n e t → TreesBack (read_part (reads k) strict d n (checked s p)) none
    at_number n r = record { trees = none; next = n; read = ap (λ o. o >>= (λ q. Ok (none, n))) (below_read k strict p n s (down s d) e (r.tree, r.next) there r.read); same = refl }

pub inner_back : (k : ℕ) (strict : Bool) (d : Data) (s : Step) (p : Place) (e : Data) (t : Tree) (m : ℕ) → down s d ≡ Some e → ((n : ℕ) → ReadsBack k strict p n e t) → PartBack k strict d (inner_at s p) (node shape.InnerExpression [] m (t ▸ none) ▸ none)
inner_back k strict d s p e t m there back = record { back = λ n. at_number n (back (suc n)) }
  where
    at_number : (n : ℕ) → ReadsBack k strict p (suc n) e t → TreesBack (read_part (reads k) strict d n (inner_at s p)) (node shape.InnerExpression [] m (t ▸ none) ▸ none)
    at_number n r = record { trees = node shape.InnerExpression [] n (r.tree ▸ none) ▸ none; next = r.next; read = ap (λ o. o >>= (λ q. Ok (node shape.InnerExpression [] n (q.0 ▸ none) ▸ none, q.1))) (below_read k strict p (suc n) s (down s d) e (r.tree, r.next) there r.read); same = ap (λ x. node shape.InnerExpression [] 0 (x ▸ none) ▸ none) r.same }

-- ---- lists of parts and children

pub no_parts : (k : ℕ) (strict : Bool) (d : Data) → PartsBack k strict d [] none
no_parts k strict d = record { back = λ n. record { trees = none; next = n; read = refl; same = refl } }

Joined : Trees × ℕ → (ℕ → Read Trees) → Read Trees
Joined r f = f r.1 >>= λ q. Ok (append r.0 q.0, q.1)

joined : (m : Read Trees) (f : ℕ → Read Trees) (ts us : Trees) → TreesBack m ts → ((n : ℕ) → TreesBack (f n) us) → TreesBack (m >>= (λ r. f r.1 >>= λ q. Ok (append r.0 q.0, q.1))) (append ts us)
joined m f ts us first rest =
    let then = rest first.next in
    record {
      trees = append first.trees then.trees;
      next = then.next;
      read = ap (λ o. o >>= (λ r. f r.1 >>= λ q. Ok (append r.0 q.0, q.1))) first.read ∙ ap (λ o. o >>= (λ q. Ok (append first.trees q.0, q.1))) then.read;
      same = both_same first.trees then.trees ts us first.same then.same;
    }

pub more_parts : {k : ℕ} {strict : Bool} {d : Data} {x : Part} {xs : List Part} {ts us : Trees} → PartBack k strict d x ts → PartsBack k strict d xs us → PartsBack k strict d (x ∷ xs) (append ts us)
more_parts {k} {strict} {d} {x} {xs} {ts} {us} first rest = record { back = λ n. joined (read_part (reads k) strict d n x) (λ m. read_parts (reads k) strict d m xs) ts us (first.back n) rest.back }

pub one_child : {k : ℕ} {strict : Bool} {d : Data} {x : Part} {ts : Trees} → PartBack k strict d x ts → ChildBack k strict d (one x) ts
one_child b = record { back = b.back }

pub list_child : {k : ℕ} {strict : Bool} {d : Data} {xs : List Part} {ts : Trees} (m : ℕ) → PartsBack k strict d xs ts → ChildBack k strict d (many xs) (node shape.Listed [] m ts ▸ none)
list_child {k} {strict} {d} {xs} {ts} m b = record { back = λ n. at_number n (b.back n) }
  where
    at_number : (n : ℕ) → TreesBack (read_parts (reads k) strict d n xs) ts → TreesBack (read_child (reads k) strict d n (many xs)) (node shape.Listed [] m ts ▸ none)
    at_number n r = record { trees = listed r.trees ▸ none; next = r.next; read = ap (λ o. o >>= (λ q. Ok (listed q.0 ▸ none, q.1))) r.read; same = ap (λ x. node shape.Listed [] 0 x ▸ none) r.same }

pub no_children : {k : ℕ} {strict : Bool} {d : Data} → ChildrenBack k strict d [] none
no_children = record { back = λ n. record { trees = none; next = n; read = refl; same = refl } }

infixr 60 ◌&◌
pub ◌&◌ : {k : ℕ} {strict : Bool} {d : Data} {c : Child} {cs : List Child} {ts us : Trees} → ChildBack k strict d c ts → ChildrenBack k strict d cs us → ChildrenBack k strict d (c ∷ cs) (append ts us)
◌&◌ {k} {strict} {d} {c} {cs} {ts} {us} first rest = record { back = λ n. joined (read_child (reads k) strict d n c) (λ m. read_children (reads k) strict d m cs) ts us (first.back n) rest.back }

-- ---- what is read stands where it may

if_planned : (b : Bool) (y x : Plan) → plan_if b y ≡ Ok x → y ≡ x
if_planned true y x e = ok_same {E = Defect} y x e
if_planned false y x e = absurd (cc e)

planned : (unread stands : Bool) (o : Result Plan Defect) (x : Plan) → plan_unless unread stands o ≡ Ok x → (unread ≡ false) × (stands ≡ true) × (o ≡ Ok x)
planned true stands o x e = absurd (cc e)
planned false true o x e = (refl, refl, e)
planned false false o x e = absurd (cc e)

placed_same : (strict : Bool) (d : Data) (o : Option Plan) (y : Plan) → placed_plan strict d o ≡ Ok y → o ≡ Some y
placed_same strict d None y e = absurd (cc e)
placed_same strict d (Some x) y e = ap Some (if_planned (are_placed (is_strict_in strict x.shape) d x.children) x y e)

kind_there : (strict : Bool) (p : Place) (d : Data) (o : Option Kind) (y : Plan) → plan_by strict p d o ≡ Ok y → (k : Kind) × (o ≡ Some k) × (entry k p d ≡ Some y)
kind_there strict p d None y e = absurd (cc e)
kind_there strict p d (Some k) y e = (k, refl, placed_same strict d (entry k p d) y e)

plan_there : (k : ℕ) (strict : Bool) (p : Place) (n : ℕ) (d : Data) (o : Result Plan Defect) (x : Tree × ℕ) → read_plan (reads k) strict p n d o ≡ Ok x → (y : Plan) × (o ≡ Ok y)
plan_there k strict p n d (Err f) x e = absurd (cc e)
plan_there k strict p n d (Ok y) x e = (y, refl)

typed_object : (d : Data) (s : List ℕ) → Typed d s → is_object d ≡ true
typed_object null s e = absurd (cc e)
typed_object (boolean b) s e = absurd (cc e)
typed_object (number m) s e = absurd (cc e)
typed_object (string r) s e = absurd (cc e)
typed_object (array ds) s e = absurd (cc e)
typed_object (object ms) s e = refl

-- a value that is read
pub record Stands (p : Place) (d : Data) : Type 0 where
  pub stands : may_stand p d ≡ true
  pub kind : Kind
  pub is_kind : kind_of d ≡ Some kind
  pub plan : Plan
  pub is_planned : entry kind p d ≡ Some plan

shape_counted : (b : Bool) (n : ℕ) (h : Shape) (xs : List Name) (f : ℕ → Read Trees) (x : Tree × ℕ) → numbered b n h xs f ≡ Ok x → shape_of x.0 ≡ h
shape_counted true n h xs f x e =
    let (y, read, same) = bind_ok (f (suc n)) _ x e in
    ap (λ v. shape_of v.0) (sym (ok_same {E = Fault} (node h xs n y.0, y.1) x same))
shape_counted false n h xs f x e =
    let (y, read, same) = bind_ok (f n) _ x e in
    ap (λ v. shape_of v.0) (sym (ok_same {E = Fault} (node h xs 0 y.0, y.1) x same))

shape_planned : (k : ℕ) (strict : Bool) (p : Place) (n : ℕ) (d : Data) (o : Result Plan Defect) (y : Plan) (x : Tree × ℕ) → o ≡ Ok y → read_plan (reads k) strict p n d o ≡ Ok x → shape_of x.0 ≡ y.shape
shape_planned k strict p n d (Err f) y x is e = absurd (cc is)
shape_planned k strict p n d (Ok z) y x is e = shape_counted (takes_number p z.shape) n z.shape z.names (λ m. read_children (reads k) (is_strict_in strict z.shape) d m z.children) x e ∙ ap (λ v. v.shape) (ok_same {E = Defect} z y is)

pub read_planned : (k : ℕ) (strict : Bool) (p : Place) (n : ℕ) (d : Data) (x : Tree × ℕ) → reads k strict p n d ≡ Ok x → (s : Stands p d) × (shape_of x.0 ≡ s.plan.shape)
read_planned zero strict p n d x e = absurd (cc e)
read_planned (suc k) strict p n d x e =
    let (y, is) = plan_there k strict p n d (plan strict p d) x e in
    let (read, stands, by) = planned (is_unread strict p d) (may_stand p d) (plan_by strict p d (kind_of d)) y is in
    let (w, named, entered) = kind_there strict p d (kind_of d) y by in
    (record { stands = stands; kind = w; is_kind = named; plan = y; is_planned = entered }, shape_planned k strict p n d (plan strict p d) y x is e)

pub read_stands : (k : ℕ) (strict : Bool) (p : Place) (n : ℕ) (d : Data) (x : Tree × ℕ) → reads k strict p n d ≡ Ok x → Stands p d
read_stands k strict p n d x e = (read_planned k strict p n d x e).0

pub stands_object : (p : Place) (d : Data) → Stands p d → is_object d ≡ true
stands_object p d s = typed_object d (type_name s.kind) (kind_typed d s.kind s.is_kind)

-- it is of none of the types that don't stand there
pub stands_apart : (p : Place) (d : Data) (w : List ℕ) → Stands p d → is_one_of (types_at p) w ≡ false → has_type w d ≡ false
stands_apart p d w s e =
    let typed = kind_typed d s.kind s.is_kind in
    let there = typed_there p d (type_name s.kind) typed s.stands in
    typed_has d (type_name s.kind) w typed ∙ false_from_ne_true _ (λ is. true≢false (sym there ∙ (ap (is_one_of (types_at p)) (sym (text_same w (type_name s.kind) is)) ∙ e)))

right_false : (a b : Bool) → (a && (b && false)) ≡ false
right_false true true = refl
right_false true false = refl
right_false false b = refl

pub stands_placed : (strict : Bool) (p : Place) (d : Data) → Stands p d → is_misplaced strict p d ≡ false
stands_placed strict p d s = rw (stands_object p d s, s.stands) (right_false (not (is_unread strict p d)) (is_some (kind_of d)))

below_placed : (k : ℕ) (strict : Bool) (p : Place) (n : ℕ) (s : Step) (o : Option Data) (x : Tree × ℕ) → below_by (reads k) strict p n s o ≡ Ok x → is_placed_by strict p o ≡ true
below_placed k strict p n s None x e = absurd (cc e)
below_placed k strict p n s (Some d) x e = ap not (stands_placed strict p d (read_stands k strict p n d x (under_ok (step_text s) (reads k strict p n d) x e)))

part_placed : (k : ℕ) (strict : Bool) (d : Data) (n : ℕ) (c : Part) (y : Trees × ℕ) → read_part (reads k) strict d n c ≡ Ok y → is_part_placed strict d c ≡ true
part_placed k strict d n hole y e = refl
part_placed k strict d n (tree_at s p) y e = let (x, read, whole) = bind_ok (read_below (reads k) strict n d s p) _ y e in below_placed k strict p n s (down s d) x read
part_placed k strict d n (inner_at s p) y e = let (x, read, whole) = bind_ok (read_below (reads k) strict (suc n) d s p) _ y e in below_placed k strict p (suc n) s (down s d) x read
part_placed k strict d n (checked s p) y e = let (x, read, whole) = bind_ok (read_below (reads k) strict n d s p) _ y e in below_placed k strict p n s (down s d) x read

parts_placed : (k : ℕ) (strict : Bool) (d : Data) (n : ℕ) (cs : List Part) (y : Trees × ℕ) → read_parts (reads k) strict d n cs ≡ Ok y → are_parts_placed strict d cs ≡ true
parts_placed k strict d n [] y e = refl
parts_placed k strict d n (c ∷ cs) y e =
    let (x, first, after) = bind_ok (read_part (reads k) strict d n c) _ y e in
    let (z, rest, whole) = bind_ok (read_parts (reads k) strict d x.1 cs) _ y after in
    and_from _ _ (part_placed k strict d n c x first) (parts_placed k strict d x.1 cs z rest)

child_placed : (k : ℕ) (strict : Bool) (d : Data) (n : ℕ) (c : Child) (y : Trees × ℕ) → read_child (reads k) strict d n c ≡ Ok y → is_child_placed strict d c ≡ true
child_placed k strict d n (one c) y e = part_placed k strict d n c y e
child_placed k strict d n (many cs) y e = let (x, read, whole) = bind_ok (read_parts (reads k) strict d n cs) _ y e in parts_placed k strict d n cs x read

children_placed : (k : ℕ) (strict : Bool) (d : Data) (n : ℕ) (cs : List Child) (y : Trees × ℕ) → read_children (reads k) strict d n cs ≡ Ok y → are_placed strict d cs ≡ true
children_placed k strict d n [] y e = refl
children_placed k strict d n (c ∷ cs) y e =
    let (x, first, after) = bind_ok (read_child (reads k) strict d n c) _ y e in
    let (z, rest, whole) = bind_ok (read_children (reads k) strict d x.1 cs) _ y after in
    and_from _ _ (child_placed k strict d n c x first) (children_placed k strict d x.1 cs z rest)

-- ---- nodes

counted : (k : ℕ) (b : Bool) (n : ℕ) (h : Shape) (xs ys : List Name) (m : ℕ) (f : ℕ → Read Trees) (ts : Trees) → bare_names h xs ≡ bare_names h ys → ((l : ℕ) → TreesBack (f l) ts)
    → (t : Tree) × (l : ℕ) × (numbered b n h xs f ≡ Ok (t, l)) × (bare t ≡ bare (node h ys m ts))
counted k true n h xs ys m f ts names below =
    let r = below (suc n) in
    (node h xs n r.trees, r.next, ap (λ o. o >>= (λ q. Ok (node h xs n q.0, q.1))) r.read, ap (λ w. node h w 0 (bares r.trees)) names ∙ ap (node h (bare_names h ys) 0) r.same)
counted k false n h xs ys m f ts names below =
    let r = below n in
    (node h xs 0 r.trees, r.next, ap (λ o. o >>= (λ q. Ok (node h xs 0 q.0, q.1))) r.read, ap (λ w. node h w 0 (bares r.trees)) names ∙ ap (node h (bare_names h ys) 0) r.same)

plan_is : (strict : Bool) (p : Place) (d : Data) (kind : Kind) (x : Plan) → is_unread strict p d ≡ false → may_stand p d ≡ true → kind_of d ≡ Some kind → entry kind p d ≡ Some x → are_placed (is_strict_in strict x.shape) d x.children ≡ true → plan strict p d ≡ Ok x
plan_is strict p d kind x read stands is planned placed =
    ap (λ b. plan_unless b (may_stand p d) (plan_by strict p d (kind_of d))) read
    ∙ (ap (λ b. plan_unless false b (plan_by strict p d (kind_of d))) stands
    ∙ (ap (plan_by strict p d) is
    ∙ (ap (placed_plan strict d) planned
    ∙ ap (λ b. plan_if b x) placed)))

-- a node whose entry in the table is this plan, and whose children come back
pub node_back : (k : ℕ) (strict : Bool) (p : Place) (d : Data) (kind : Kind) (x : Plan) (xs : List Name) (m : ℕ) (ts : Trees) → is_unread strict p d ≡ false → may_stand p d ≡ true → kind_of d ≡ Some kind → entry kind p d ≡ Some x
    → bare_names x.shape x.names ≡ bare_names x.shape xs → ChildrenBack k (is_strict_in strict x.shape) d x.children ts → (n : ℕ) → ReadsBack (suc k) strict p n d (node x.shape xs m ts)
node_back k strict p d kind x xs m ts read stands is planned names below n =
    let first = below.back 0 in
    let placed = children_placed k (is_strict_in strict x.shape) d 0 x.children (first.trees, first.next) first.read in
    let (t, l, counts, same) = counted k (takes_number p x.shape) n x.shape x.names xs m (λ m. read_children (reads k) (is_strict_in strict x.shape) d m x.children) ts names below.back in
    record { tree = t; next = l; read = ap (read_plan (reads k) strict p n d) (plan_is strict p d kind x read stands is planned placed) ∙ counts; same = same }

-- ---- forms that are read wherever they stand

abbrev pub is_quiet : Data → Bool
is_quiet d = not (is_unread_form (at a_program) d || (is_big_int_literal d || has_type (codes "FunctionDeclaration") d))

all_quiet : (a b c k n s : Bool) → not (a || (b || c)) ≡ true → (a || ((k && b) || (s && (n && c)))) ≡ false
all_quiet true b c k n s e = absurd (false≢true e)
all_quiet false true c k n s e = absurd (false≢true e)
all_quiet false false true k n s e = absurd (false≢true e)
all_quiet false false false true true true e = refl
all_quiet false false false true true false e = refl
all_quiet false false false true false true e = refl
all_quiet false false false true false false e = refl
all_quiet false false false false true true e = refl
all_quiet false false false false true false e = refl
all_quiet false false false false false true e = refl
all_quiet false false false false false false e = refl

pub quiet_read : (strict : Bool) (c : Class) (d : Data) → is_quiet d ≡ true → is_unread strict (at c) d ≡ false
quiet_read strict c d e = all_quiet (is_unread_form (at a_program) d) (is_big_int_literal d) (has_type (codes "FunctionDeclaration") d) (is_key c) (is_nested c) (not strict) e

-- a node without names
pub plain_back : (k : ℕ) (strict : Bool) (c : Class) (d : Data) (kind : Kind) (h : Shape) (cs : List Child) (m : ℕ) (ts : Trees) → is_quiet d ≡ true → may_stand (at c) d ≡ true → kind_of d ≡ Some kind
    → entry kind (at c) d ≡ Some (record { shape = h; names = []; children = cs }) → ChildrenBack k (is_strict_in strict h) d cs ts → (n : ℕ) → ReadsBack (suc k) strict (at c) n d (node h [] m ts)
plain_back k strict c d kind h cs m ts quiet stands is planned below n = node_back k strict (at c) d kind (record { shape = h; names = []; children = cs }) [] m ts (quiet_read strict c d quiet) stands is planned refl below n
