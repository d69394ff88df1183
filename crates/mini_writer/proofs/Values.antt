-- The values of children, by how many there are.
use Rattle.std.proofs.Common.{◌≡◌, Bool, List, [], ◌∷◌, ◌++◌, refl}
use Rattle.serde_json.specs.Data.{Data, null}
use Rattle.serde_json.specs.View.{view, items_view}
use Rattle.serde_json.specs.declared.value.Value.{Value}
use Rattle.mini_writer.specs.Written.{of_one, of_two, of_four, class}

pub only_one : (f : Data → Data) (vs rest : List Value) (v : Value) → vs ≡ rest ++ v ∷ [] → rest ≡ [] → of_one f (items_view vs) ≡ f (view v)
only_one f vs rest v is none = rw (is, none) refl

more_by : (f : Data → Data) (rest : List Value) (v : Value) → (rest ≡ [] → ⊥) → of_one f (items_view (rest ++ v ∷ [])) ≡ null
more_by f [] v h = absurd (h refl)
more_by f (x ∷ []) v h = refl
more_by f (x ∷ y ∷ ys) v h = refl

pub more_than_one : (f : Data → Data) (vs rest : List Value) (v : Value) → vs ≡ rest ++ v ∷ [] → (rest ≡ [] → ⊥) → of_one f (items_view vs) ≡ null
more_than_one f vs rest v is some = rw is (more_by f rest v some)

pub none_of_one : (f : Data → Data) (vs : List Value) → vs ≡ [] → of_one f (items_view vs) ≡ null
none_of_one f vs is = rw is refl

-- ---- none where a node has others

pub none_of_two : (f : Data → Data → Data) (vs : List Value) → vs ≡ [] → of_two f (items_view vs) ≡ null
none_of_two f vs is = rw is refl

pub none_of_class : (declaration : Bool) (vs : List Value) → vs ≡ [] → of_four (class declaration) (items_view vs) ≡ null
none_of_class declaration vs is = rw is refl
