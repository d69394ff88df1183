-- How a node is read: as a shape over parts, each of which is read of the nodes below.
use Rattle.std.specs.Prelude.{ℕ, suc, List, [], ◌∷◌, Bool, ◌&&◌, Option, Some, option_map, is_some, if◌then◌else◌, codes}
use Rattle.serde_json.specs.Data.{Data, Items, no_items, item}
use Rattle.serde_json.specs.Find.{as_null}
use Rattle.mini_model.specs.declared.name.Name.{Name}
use Rattle.mini_model.specs.declared.shape.Shape.{Shape}
use Rattle.mini_accept.specs.WellShaped as shaped
use Rattle.mini_accept.specs.WellShaped.{Class}
use Rattle.mini_accept.specs.Places.{Step, field, place, Place, at}
use Rattle.mini_accept.specs.Fields.{is_given, list_at, no_item, child_has_type, has_type}

-- what stands for a node below
pub data Part : Type 0 where
  -- no node: a part that is absent, or a hole
  hole : Part
  -- the tree of the node
  tree_at : Step → Place → Part
  -- an inner expression over the tree of the node
  inner_at : Step → Place → Part
  -- nothing: the node is read, and is none of the tree
  checked : Step → Place → Part

-- a child of the shape
pub data Child : Type 0 where
  one : Part → Child
  -- a list
  many : List Part → Child

pub record Plan : Type 0 where
  pub shape : Shape
  pub names : List Name
  pub children : List Child

abbrev pub node_of : Shape → List Child → Option Plan
node_of h cs = Some (record { shape = h; names = []; children = cs })

-- ---- children

abbrev pub child : List ℕ → Class → Child
child key c = one (tree_at (field key) (at c))

abbrev pub inner : List ℕ → Class → Child
inner key c = one (inner_at (field key) (at c))

abbrev pub optional : List ℕ → Class → Data → Child
optional key c d = one (if is_given key d then tree_at (field key) (at c) else hole)

abbrev pub optional_inner : List ℕ → Class → Data → Child
optional_inner key c d = one (if is_given key d then inner_at (field key) (at c) else hole)

-- ---- lists

-- the part of an item; whether it is the last one comes first
abbrev pub ItemPart : Type 0
ItemPart = Bool → Data → Step → Part

abbrev pub parts_from : ItemPart → List ℕ → ℕ → Items → List Part
parts_from part key i no_items = []
parts_from part key i (item d ds) = part (no_item ds) d (place key i) ∷ parts_from part key (suc i) ds

abbrev pub list : ItemPart → List ℕ → Items → Child
list part key ds = many (parts_from part key 0 ds)

abbrev pub each : Class → ItemPart
each c last d s = tree_at s (at c)

-- null among the elements is a hole
abbrev pub or_hole : ItemPart → ItemPart
or_hole part last d s = if is_some (as_null d) then hole else part last d s

-- the last may be a rest
abbrev pub or_rest : ItemPart → Class → ItemPart
or_rest part rest last d s = if last && has_type (codes "RestElement") d then tree_at s (at rest) else part last d s

-- a list field
abbrev pub list_child : ItemPart → List ℕ → Data → Option Child
list_child part key d = option_map (list part key) (list_at key d)

-- ---- keys

-- the key of a carried node
abbrev pub inner_key : Bool → Class → Child
inner_key computed c = if computed then inner (codes "key") shaped.an_expression else child (codes "key") c

-- what a pattern assigns to: a member is an inner expression
abbrev pub target_part : Class → ItemPart
target_part c last d s = if has_type (codes "MemberExpression") d then inner_at s (at shaped.a_member_target) else tree_at s (at c)

abbrev pub target : List ℕ → Class → Data → Child
target key c d = if child_has_type key (codes "MemberExpression") d then inner key shaped.a_member_target else child key c
