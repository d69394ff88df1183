-- How a plan is shown to be a small load.
use Rattle.std.proofs.Common.{◌≡◌, ℕ, suc, ◌+◌, ◌*◌, ◌≤◌, List, [], length, refl, codes, Bool, true, false, arith}
use Rattle.std.specs.Prelude.{⊤, Option, Some, None, option_map, Ok, is_some, if◌then◌else◌, ◌&&◌}
use Rattle.serde_json.specs.Data.{Data, Items, no_items, item}
use Rattle.serde_json.specs.Find.{as_null}
use Rattle.mini_model.specs.declared.name.Name.{Name}
use Rattle.mini_model.specs.declared.shape.Shape.{Shape}
use Rattle.mini_model.specs.Tree.{Trees}
use Rattle.mini_model.specs.declared.place.Position.{Position}
use Rattle.mini_model.specs.Weight.{Outline, outlines, own_weight, text_weight, names_weight}
use Rattle.mini_accept.specs.WellShaped as shaped
use Rattle.mini_accept.specs.WellShaped.{Class}
use Rattle.mini_accept.specs.Places.{Step, field, place, at}
use Rattle.mini_accept.specs.Fields.{◌>>=◌, require, list_at, no_item, has_type, child_has_type}
use Rattle.mini_accept.specs.Plans.{Part, hole, tree_at, inner_at, Child, Plan, node_of, child, inner, ItemPart, parts_from, list, list_child, each, or_hole, or_rest, inner_key, target_part, target}
use Rattle.mini_accept.specs.Accept.{Reader, read_children}
use Rattle.mini_writer.proofs.Amounts.{amount, found_at, amounts_below, are_few, few_different, few_count}
use Rattle.mini_writer.proofs.Loads.{loads}
use Rattle.mini_writer.proofs.Written.{own_light, wordy, text_light}
use Rattle.mini_writer.proofs.AcceptedLists.{IsLight, children_spare, PartOf, PartsAt, ChildAt, ChildrenAt, children_light}

-- whatever is read of its parts, the node is a load 14 less than the value is worth, and e less
abbrev pub Holds : Data → ℕ → Plan → Type 0
Holds d e x = (r : Reader) → IsLight r → (strict : Bool) (n : ℕ) (y : Trees × ℕ) → read_children r strict d n x.children ≡ Ok y
    → (π : Position) (ω : ℕ → Position) → own_weight π x.shape x.names (outlines y.0) + loads ω y.0 + 3 * length x.names + e + 15 ≤ amount d

abbrev HoldsIf : Data → ℕ → Option Plan → Type 0
HoldsIf d e None = ⊤
HoldsIf d e (Some x) = Holds d e x

pub record LightIf (d : Data) (e : ℕ) (o : Option Plan) : Type 0 where
  pub holds : HoldsIf d e o

-- ---- nodes

pub node_bound : (d : Data) (keys : List (List ℕ)) (e : ℕ) (x : Plan) → ChildrenAt d keys x.children → are_few keys ≡ true → (r : Reader) → IsLight r → (strict : Bool) (n : ℕ) (y : Trees × ℕ)
    → read_children r strict d n x.children ≡ Ok y → names_weight x.names + 3 * length x.names + wordy x.shape (outlines y.0) + e ≤ 18 + children_spare d x.children
    → (π : Position) (ω : ℕ → Position) → own_weight π x.shape x.names (outlines y.0) + loads ω y.0 + 3 * length x.names + e + 15 ≤ amount d
node_bound d keys e x there few r light strict n y read small π ω =
    let os = outlines y.0 in
    omega (
      arith,
      small,
      own_light (40 + names_weight x.names + wordy x.shape os) π x.shape x.names os (text_light x.shape x.names π os),
      children_light r light strict d keys n x.children y there read ω,
      amounts_below keys d (few_different keys few),
      few_count keys few,
    )

-- a node whose texts are made up for by what its parts leave over
pub node_light : (d : Data) (keys : List (List ℕ)) (e : ℕ) (x : Plan) → ChildrenAt d keys x.children → are_few keys ≡ true
    → ((os : List Outline) → names_weight x.names + 3 * length x.names + wordy x.shape os + e ≤ 18 + children_spare d x.children) → LightIf d e (Some x)
node_light d keys e x there few small = record { holds = λ r light strict n y read. node_bound d keys e x there few r light strict n y read (small (outlines y.0)) }

-- a node without texts
pub plain : (d : Data) (keys : List (List ℕ)) (h : Shape) (cs : List Child) → ChildrenAt d keys cs → are_few keys ≡ true → ((os : List Outline) → wordy h os ≡ 0) → LightIf d 0 (node_of h cs)
plain d keys h cs there few bare = node_light d keys 0 (record { shape = h; names = []; children = cs }) there few (λ os. omega (arith, bare os))

-- a node without children, whose texts stand at the keys
pub leaf_light : (d : Data) (keys : List (List ℕ)) (h : Shape) (xs : List Name) → are_few keys ≡ true → ((π : Position) (os : List Outline) → text_weight h xs π os + 3 * length xs ≤ 90 + found_at keys d)
    → LightIf d 0 (Some (record { shape = h; names = xs; children = [] }))
leaf_light d keys h xs few small = record {
  holds = λ r light strict n y read π ω. omega (
    arith,
    own_light (text_weight h xs π (outlines y.0)) π h xs (outlines y.0) (omega arith),
    small π (outlines y.0),
    children_light r light strict d [] n [] y tt read ω,
    amounts_below keys d (few_different keys few),
  );
}

-- ---- what an entry does before it plans

module _ (d : Data) (e : ℕ) where
  pub nothing : LightIf d e None
  nothing = record { holds = tt }

  pub bind_light : {A : Type 0} (o : Option A) (f : A → Option Plan) → ((x : A) → o ≡ Some x → LightIf d e (f x)) → LightIf d e (o >>= f)
  bind_light None f h = nothing
  bind_light (Some x) f h = h x refl

  pub require_light : (b : Bool) (o : Option Plan) → LightIf d e o → LightIf d e (require b o)
  require_light true o h = h
  require_light false o h = nothing

  pub either_light : (b : Bool) (x y : Option Plan) → LightIf d e x → LightIf d e y → LightIf d e (if b then x else y)
  either_light true x y h k = h
  either_light false x y h k = k

-- ---- children

pub optional_at : (key : List ℕ) (c : Class) (b : Bool) → PartOf (field key) (if b then tree_at (field key) (at c) else hole)
optional_at key c true = refl
optional_at key c false = tt

pub optional_inner_at : (key : List ℕ) (c : Class) (b : Bool) → PartOf (field key) (if b then inner_at (field key) (at c) else hole)
optional_inner_at key c true = refl
optional_inner_at key c false = tt

pub either_at : (d : Data) (key : List ℕ) (b : Bool) (x y : Child) → ChildAt d key x → ChildAt d key y → ChildAt d key (if b then x else y)
either_at d key true x y h k = h
either_at d key false x y h k = k

pub inner_key_at : (d : Data) (b : Bool) (c : Class) → ChildAt d (codes "key") (inner_key b c)
inner_key_at d b c = either_at d (codes "key") b (inner (codes "key") shaped.an_expression) (child (codes "key") c) refl refl

pub target_at : (d : Data) (key : List ℕ) (c : Class) → ChildAt d key (target key c d)
target_at d key c = either_at d key (child_has_type key (codes "MemberExpression") d) (inner key shaped.a_member_target) (child key c) refl refl

-- ---- lists

abbrev pub IsItemPart : ItemPart → Type 0
IsItemPart f = (last : Bool) (a : Data) (s : Step) → PartOf s (f last a s)

pub either_item : (s : Step) (b : Bool) (x y : Part) → PartOf s x → PartOf s y → PartOf s (if b then x else y)
either_item s true x y h k = h
either_item s false x y h k = k

pub each_item : (c : Class) → IsItemPart (each c)
each_item c last a s = refl

pub hole_item : (f : ItemPart) → IsItemPart f → IsItemPart (or_hole f)
hole_item f h last a s = either_item s (is_some (as_null a)) hole (f last a s) tt (h last a s)

pub rest_item : (f : ItemPart) (c : Class) → IsItemPart f → IsItemPart (or_rest f c)
rest_item f c h last a s = either_item s (last && has_type (codes "RestElement") a) (tree_at s (at c)) (f last a s) refl (h last a s)

pub target_item : (c : Class) → IsItemPart (target_part c)
target_item c last a s = either_item s (has_type (codes "MemberExpression") a) (inner_at s (at shaped.a_member_target)) (tree_at s (at c)) refl refl

from_at : (f : ItemPart) → IsItemPart f → (key : List ℕ) (i : ℕ) (ds : Items) → PartsAt key i (parts_from f key i ds) ds
from_at f h key i no_items = tt
from_at f h key i (item a ds) = (h (no_item ds) a (place key i), from_at f h key (suc i) ds)

pub list_is_at : (d : Data) (f : ItemPart) (key : List ℕ) (ds : Items) → IsItemPart f → list_at key d ≡ Some ds → ChildAt d key (list f key ds)
list_is_at d f key ds h e = (ds, e, from_at f h key 0 ds)

map_light : (d : Data) (e : ℕ) (f : ItemPart) (key : List ℕ) (o : Option Items) (g : Child → Option Plan) → IsItemPart f → list_at key d ≡ o → ((c : Child) → ChildAt d key c → LightIf d e (g c)) → LightIf d e (option_map (list f key) o >>= g)
map_light d e f key None g h is k = nothing d e
map_light d e f key (Some ds) g h is k = k (list f key ds) (list_is_at d f key ds h is)

pub list_light : (d : Data) (e : ℕ) (f : ItemPart) (key : List ℕ) (g : Child → Option Plan) → IsItemPart f → ((c : Child) → ChildAt d key c → LightIf d e (g c)) → LightIf d e (list_child f key d >>= g)
list_light d e f key g h k = map_light d e f key (list_at key d) g h refl k
