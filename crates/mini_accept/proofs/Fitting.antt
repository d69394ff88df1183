-- When the parts of a plan fill the slots of a shape, and that the trees which are read of them fill these.
use Rattle.std.proofs.Common.{◌≡◌, ℕ, suc, List, [], ◌∷◌, refl, inl, inr, Bool, true, false}
use Rattle.std.specs.Prelude.{◌⊎◌, ⊤, ◌==◌, Option, Some, None, ℤ, codes}
use Rattle.std.proofs.lemmas.Bool.{and_from, or_left, or_right, true≢false}
use Rattle.serde_json.specs.Data.{Data}
use Rattle.mini_model.specs.Texts.{units_of}
use Rattle.mini_model.specs.declared.shape.Shape.{Shape}
use Rattle.mini_model.specs.declared.shape.Shape.TheVariants as shape
use Rattle.mini_model.specs.Paths.{append}
use Rattle.mini_model.specs.Tree.{Tree, node, Trees, none, ◌▸◌, absent, listed, children, child_or_absent}
use Rattle.mini_accept.specs.WellShaped as shaped
use Rattle.mini_accept.specs.WellShaped.{Class, Tagging, Slot, these, each, each_or_last, pieces, fits, fill, is_quasi}
use Rattle.mini_accept.specs.Places.{down, Place, at, a_directive, a_directive_text, a_quasi, an_exported, a_local_name}
use Rattle.mini_accept.specs.Fields.{text_at, has_type, is_given}
use Rattle.mini_accept.specs.Literals.{with_minus}
use Rattle.mini_accept.specs.Plans.{Part, hole, tree_at, inner_at, checked, Child, one, many}
use Rattle.mini_accept.specs.Expressions.{has_mark, identifier_text, is_same_name, is_name_with_default}
use Rattle.mini_accept.specs.Functions as function

-- ---- what is known of a tree that is read in a place

-- the class of what is read there: without brackets a key is read in a place of its own
abbrev pub class_at : Place → Class
class_at (at (shaped.a_private_or_key computed)) = shaped.a_private_or_key false
class_at (at (shaped.an_inner_key computed)) = shaped.an_inner_key false
class_at (at c) = c
class_at (an_exported own) = shaped.an_export
class_at a_local_name = shaped.an_exported_name
class_at p = shaped.an_expression

abbrev pub has_no_number : Tree → Bool
has_no_number (node h xs n ts) = n == 0

-- it may stand there
abbrev pub Fits : Bool → Place → Tree → Type 0
Fits strict (a_quasi g last) t = is_quasi g last t ≡ true
Fits strict a_directive t = ⊤
Fits strict a_directive_text t = ⊤
-- a chain has a mark: `super.a` alone is none
Fits strict (at shaped.a_chain) t = shaped.has_optional t ≡ true → fits strict (shaped.one shaped.a_chain) t ≡ true
-- a program has no number
Fits strict (at shaped.a_program) t = has_no_number t ≡ true → fits strict (shaped.one shaped.a_program) t ≡ true
-- a word is one of the first 128 characters
Fits strict (at (shaped.a_word w)) t = units_of w ≡ w → fits strict (shaped.one (shaped.a_word w)) t ≡ true
Fits strict p t = fits strict (shaped.one (class_at p)) t ≡ true

-- what the node above has to know of it beside that

abbrev pub Spelled : Data → Tree → Type 0
Spelled d t = (s : List ℕ) → identifier_text d ≡ Some s → shaped.spelling t ≡ Some (units_of s)

abbrev pub Named : Data → Tree → Type 0
Named d t = (s : List ℕ) → is_same_name (Some s) d ≡ true → shaped.spelling t ≡ Some (units_of s)

abbrev pub NamedBefore : Data → Tree → Type 0
NamedBefore d t = (s : List ℕ) → is_name_with_default (Some s) d ≡ true → shaped.spelling (shaped.without_default t) ≡ Some (units_of s)

abbrev pub Bound : Data → Tree → Type 0
Bound d t = (s : List ℕ) × (text_at (codes "name") d ≡ Some s) × (shaped.spelling t ≡ Some (units_of s))

abbrev pub Marked : Data → Tree → Type 0
Marked d t = has_mark d ≡ true → shaped.has_optional t ≡ true

pub record Expressed (d : Data) (t : Tree) : Type 0 where
  pub not_positive : with_minus d ≡ None → shaped.is_not_positive_number t ≡ true
  pub safe : (z : ℤ) → with_minus d ≡ Some z → shaped.is_safe z ≡ true
  pub named : NamedBefore d t

abbrev pub Seen : Place → Data → Tree → Type 0
Seen (at (shaped.a_private_or_key computed)) d t = shaped.names_constructor t ≡ function.names_constructor d
Seen (at shaped.a_link) d t = Marked d t
Seen (at shaped.a_chain) d t = Marked d t
Seen (at shaped.an_expression) d t = Expressed d t
Seen (at shaped.an_arrow_body) d t = has_type (codes "BlockStatement") d ≡ true → shaped.is_function_body t ≡ true
Seen (at (shaped.a_key false)) d t = Spelled d t
Seen (at (shaped.an_inner_key computed)) d t = Spelled d t
Seen (at shaped.a_label) d t = Spelled d t
Seen (at shaped.a_pattern_element) d t = NamedBefore d t
Seen (at shaped.a_named_target) d t = NamedBefore d t
Seen (at shaped.a_pattern) d t = Named d t
Seen (at shaped.a_target_name) d t = Named d t
Seen (at shaped.a_binding) d t = Bound d t
Seen (at shaped.a_declarator) d t = is_given (codes "init") d ≡ false → shaped.is_initialized t ≡ false
Seen (an_exported own) d t = shaped.is_reference (child_or_absent (children t) 1) ≡ own
Seen a_local_name d t = shaped.is_reference t ≡ true
Seen p d t = ⊤

abbrev pub Known : Bool → Place → Data → Tree → Type 0
Known strict p d t = Fits strict p t × Seen p d t

abbrev pub KnownBelow : Bool → Place → Option Data → Tree → Type 0
KnownBelow strict p None t = ⊥
KnownBelow strict p (Some d) t = Known strict p d t

pub known_fits : (strict : Bool) (p : Place) (o : Option Data) (t : Tree) → KnownBelow strict p o t → Fits strict p t
known_fits strict p None t k = absurd k
known_fits strict p (Some d) t k = k.0

-- ---- what was read of the parts of a plan, and its trees

abbrev pub Of : Bool → Data → Part → Type 0
Of strict d hole = ⊤
Of strict d (tree_at s p) = (t : Tree) × KnownBelow strict p (down s d) t
-- an inner expression has a number other than 0
Of strict d (inner_at s p) = (n : ℕ) × (t : Tree) × KnownBelow strict p (down s d) t
Of strict d (checked s p) = (t : Tree) × KnownBelow strict p (down s d) t

abbrev pub trees_of : (strict : Bool) (d : Data) (x : Part) → Of strict d x → Trees
trees_of strict d hole w = absent ▸ none
trees_of strict d (tree_at s p) w = w.0 ▸ none
trees_of strict d (inner_at s p) w = node shape.InnerExpression [] (suc w.0) (w.1 ▸ none) ▸ none
trees_of strict d (checked s p) w = none

abbrev pub OfParts : Bool → Data → List Part → Type 0
OfParts strict d [] = ⊤
OfParts strict d (x ∷ xs) = Of strict d x × OfParts strict d xs

abbrev pub trees_of_parts : (strict : Bool) (d : Data) (xs : List Part) → OfParts strict d xs → Trees
trees_of_parts strict d [] w = none
trees_of_parts strict d (x ∷ xs) w = append (trees_of strict d x w.0) (trees_of_parts strict d xs w.1)

abbrev pub OfChild : Bool → Data → Child → Type 0
OfChild strict d (one x) = Of strict d x
OfChild strict d (many xs) = OfParts strict d xs

abbrev pub trees_of_child : (strict : Bool) (d : Data) (c : Child) → OfChild strict d c → Trees
trees_of_child strict d (one x) w = trees_of strict d x w
trees_of_child strict d (many xs) w = listed (trees_of_parts strict d xs w) ▸ none

abbrev pub OfChildren : Bool → Data → List Child → Type 0
OfChildren strict d [] = ⊤
OfChildren strict d (c ∷ cs) = OfChild strict d c × OfChildren strict d cs

abbrev pub trees_of_children : (strict : Bool) (d : Data) (cs : List Child) → OfChildren strict d cs → Trees
trees_of_children strict d [] w = none
trees_of_children strict d (c ∷ cs) w = append (trees_of_child strict d c w.0) (trees_of_children strict d cs w.1)

-- ---- which parts fill a slot

abbrev pub PartFits : Slot → Part → Type 0
PartFits s hole = (strict : Bool) → fits strict s absent ≡ true
PartFits s (tree_at q p) = (strict : Bool) (t : Tree) → Fits strict p t → fits strict s t ≡ true
PartFits s (inner_at q p) = (strict : Bool) (n : ℕ) (t : Tree) → Fits strict p t → fits strict s (node shape.InnerExpression [] (suc n) (t ▸ none)) ≡ true
PartFits s (checked q p) = ⊥

-- in a list a part that is no tree fills nothing
abbrev pub ItemFits : Slot → Part → Type 0
ItemFits s (checked q p) = ⊤
ItemFits s x = PartFits s x

pub item_fits : (s : Slot) (x : Part) → PartFits s x → ItemFits s x
item_fits s (checked q p) f = tt
item_fits s x f = f

abbrev pub AllFit : Slot → List Part → Type 0
AllFit s [] = ⊤
AllFit s (x ∷ xs) = ItemFits s x × AllFit s xs

abbrev pub IsEnd : List Part → Type 0
IsEnd [] = ⊤
IsEnd (x ∷ xs) = ⊥

abbrev pub AllFitOrLast : Slot → Slot → List Part → Type 0
AllFitOrLast s l [] = ⊤
AllFitOrLast s l (x ∷ xs) = (PartFits s x ⊎ (IsEnd xs × PartFits l x)) × AllFitOrLast s l xs

-- what is read of them are the pieces of a template
abbrev pub ArePieces : Tagging → List Part → Type 0
ArePieces g xs = (strict : Bool) (d : Data) (w : OfParts strict d xs) → fill strict (pieces g) (trees_of_parts strict d xs w) ≡ true

abbrev pub ChildFits : Slot → Child → Type 0
ChildFits s (one x) = PartFits s x
ChildFits (shaped.many c) (many xs) = AllFit (shaped.one c) xs
ChildFits (shaped.many_or_holes c) (many xs) = AllFit (shaped.one_or_absent c) xs
ChildFits (shaped.many_and_rest c r) (many xs) = AllFitOrLast (shaped.one c) (shaped.one r) xs
ChildFits (shaped.many_or_holes_and_rest c r) (many xs) = AllFitOrLast (shaped.one_or_absent c) (shaped.one r) xs
ChildFits (shaped.quasis g) (many xs) = ArePieces g xs
ChildFits s (many xs) = ⊥

abbrev pub ChildrenFit : List Slot → List Child → Type 0
ChildrenFit [] [] = ⊤
ChildrenFit (s ∷ ss) [] = ⊥
-- a part that is no tree fills no slot
ChildrenFit [] (one (checked q p) ∷ cs) = ChildrenFit [] cs
ChildrenFit [] (c ∷ cs) = ⊥
ChildrenFit (s ∷ ss) (c ∷ cs) = ChildFits s c × ChildrenFit ss cs

-- ---- what is read of them fills the slots

each_filled : (strict : Bool) (d : Data) (s : Slot) (xs : List Part) (w : OfParts strict d xs) → AllFit s xs → fill strict (each s) (trees_of_parts strict d xs w) ≡ true
each_filled strict d s [] w f = refl
each_filled strict d s (hole ∷ xs) w f = and_from _ _ (f.0 strict) (each_filled strict d s xs w.1 f.1)
each_filled strict d s (tree_at q p ∷ xs) w f = and_from _ _ (f.0 strict w.0.0 (known_fits strict p (down q d) w.0.0 w.0.1)) (each_filled strict d s xs w.1 f.1)
each_filled strict d s (inner_at q p ∷ xs) w f = and_from _ _ (f.0 strict w.0.0 w.0.1 (known_fits strict p (down q d) w.0.1 w.0.2)) (each_filled strict d s xs w.1 f.1)
each_filled strict d s (checked q p ∷ xs) w f = each_filled strict d s xs w.1 f.1

-- one item, which fills the slot, or is the last and fills the other
item_filled : (strict : Bool) (d : Data) (s l : Slot) (x : Part) (xs : List Part) (w : Of strict d x) (v : OfParts strict d xs) → (PartFits s x ⊎ (IsEnd xs × PartFits l x))
    → fill strict (each_or_last s l) (trees_of_parts strict d xs v) ≡ true → fill strict (each_or_last s l) (append (trees_of strict d x w) (trees_of_parts strict d xs v)) ≡ true
item_filled strict d s l hole xs w v (inl f) r = and_from _ _ (or_left _ _ (f strict)) r
item_filled strict d s l (tree_at q p) xs w v (inl f) r = and_from _ _ (or_left _ _ (f strict w.0 (known_fits strict p (down q d) w.0 w.1))) r
item_filled strict d s l (inner_at q p) xs w v (inl f) r = and_from _ _ (or_left _ _ (f strict w.0 w.1 (known_fits strict p (down q d) w.1 w.2))) r
item_filled strict d s l hole [] w v (inr f) r = and_from _ _ (or_right _ _ (f.1 strict)) r
item_filled strict d s l (tree_at q p) [] w v (inr f) r = and_from _ _ (or_right _ _ (f.1 strict w.0 (known_fits strict p (down q d) w.0 w.1))) r
item_filled strict d s l (inner_at q p) [] w v (inr f) r = and_from _ _ (or_right _ _ (f.1 strict w.0 w.1 (known_fits strict p (down q d) w.1 w.2))) r
item_filled strict d s l (checked q p) xs w v (inl f) r = absurd f
item_filled strict d s l (checked q p) [] w v (inr f) r = absurd f.1
item_filled strict d s l x (y ∷ ys) w v (inr f) r = absurd f.0

each_or_last_filled : (strict : Bool) (d : Data) (s l : Slot) (xs : List Part) (w : OfParts strict d xs) → AllFitOrLast s l xs → fill strict (each_or_last s l) (trees_of_parts strict d xs w) ≡ true
each_or_last_filled strict d s l [] w f = refl
each_or_last_filled strict d s l (x ∷ xs) w f = item_filled strict d s l x xs w.0 w.1 f.0 (each_or_last_filled strict d s l xs w.1 f.1)

-- the rules of children that go by no class
abbrev pub is_ruled_by_class : Shape → Bool
is_ruled_by_class (shape.VariableDeclaration k) = true
is_ruled_by_class (shape.Function d g ds) = true
is_ruled_by_class h = false

pub parts_by_shape : (c : Class) (h : Shape) (ts : Trees) → is_ruled_by_class h ≡ false → shaped.has_its_parts c h ts ≡ shaped.has_its_parts shaped.a_program h ts
parts_by_shape (shaped.a_loop_left enumerates) (shape.VariableDeclaration k) ts e = absurd (true≢false e)
parts_by_shape shaped.a_method (shape.Function d g ds) ts e = absurd (true≢false e)
parts_by_shape c h ts e = refl

list_filled : (strict : Bool) (d : Data) (s : Slot) (xs : List Part) (w : OfParts strict d xs) → ChildFits s (many xs) → fits strict s (listed (trees_of_parts strict d xs w)) ≡ true
list_filled strict d (shaped.one c) xs w f = absurd f
list_filled strict d (shaped.one_or_absent c) xs w f = absurd f
list_filled strict d (shaped.many c) xs w f = and_from _ _ (parts_by_shape c shape.Listed _ refl) (each_filled strict d (shaped.one c) xs w f)
list_filled strict d (shaped.many_or_holes c) xs w f = and_from _ _ (parts_by_shape c shape.Listed _ refl) (each_filled strict d (shaped.one_or_absent c) xs w f)
list_filled strict d (shaped.many_and_rest c r) xs w f = and_from _ _ (parts_by_shape c shape.Listed _ refl) (each_or_last_filled strict d (shaped.one c) (shaped.one r) xs w f)
list_filled strict d (shaped.many_or_holes_and_rest c r) xs w f = and_from _ _ (parts_by_shape c shape.Listed _ refl) (each_or_last_filled strict d (shaped.one_or_absent c) (shaped.one r) xs w f)
list_filled strict d (shaped.quasis g) xs w f = f strict d w

pub children_filled : (strict : Bool) (d : Data) (slots : List Slot) (cs : List Child) (w : OfChildren strict d cs) → ChildrenFit slots cs → fill strict (these slots) (trees_of_children strict d cs w) ≡ true
children_filled strict d [] [] w f = refl
children_filled strict d (s ∷ ss) [] w f = absurd f
children_filled strict d [] (one (checked q p) ∷ cs) w f = children_filled strict d [] cs w.1 f
children_filled strict d [] (c ∷ cs) w f = absurd f
children_filled strict d (s ∷ ss) (one (checked q p) ∷ cs) w f = absurd f.0
children_filled strict d (s ∷ ss) (one hole ∷ cs) w f = and_from _ _ (f.0 strict) (children_filled strict d ss cs w.1 f.1)
children_filled strict d (s ∷ ss) (one (tree_at q p) ∷ cs) w f = and_from _ _ (f.0 strict w.0.0 (known_fits strict p (down q d) w.0.0 w.0.1)) (children_filled strict d ss cs w.1 f.1)
children_filled strict d (s ∷ ss) (one (inner_at q p) ∷ cs) w f = and_from _ _ (f.0 strict w.0.0 w.0.1 (known_fits strict p (down q d) w.0.1 w.0.2)) (children_filled strict d ss cs w.1 f.1)
children_filled strict d (s ∷ ss) (many xs ∷ cs) w f = and_from _ _ (list_filled strict d s xs w.0 f.0) (children_filled strict d ss cs w.1 f.1)
