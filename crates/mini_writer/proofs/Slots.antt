-- What stands in a slot comes back, where smaller trees do.
use Rattle.std.proofs.Common.{◌≡◌, ℕ, suc, ◌+◌, ◌≤◌, List, [], ◌∷◌, refl, ap, sym, ◌∙◌, subst, inl, inr, arith, Bool, true, false, ◌&&◌, ◌||◌}
use Rattle.std.specs.Prelude.{⊤, Option, Some, None, option_and_then, is_some, not, codes, nat_lt, Ok, if◌then◌else◌}
use Rattle.std.proofs.lemmas.Bool.{and_parts, or_cases, false≢true, true≢false}
use Rattle.serde_json.specs.Data.{Data, null, boolean, number, string, array, object, Items, no_members, member}
use Rattle.serde_json.specs.Find.{get, get_item, as_array, as_null}
use Rattle.mini_model.specs.declared.shape.Shape.{Shape}
use Rattle.mini_model.specs.declared.shape.Shape.TheVariants as shape
use Rattle.mini_model.specs.Tree.{Tree, node, Trees, none, ◌▸◌, absent, node_count, node_counts, shape_of}
use Rattle.mini_accept.specs.WellShaped as shaped
use Rattle.mini_accept.specs.WellShaped.{Class, fits, fill, is_last}
use Rattle.mini_accept.specs.Faults.{Fault}
use Rattle.mini_accept.specs.Places.{Step, step_text, field, place, down, Place, at}
use Rattle.mini_accept.specs.Fields.{is_object, is_there, is_given, has_type, is_one_of, no_item}
use Rattle.mini_accept.specs.Plans.{Part, hole, tree_at, inner_at, one, ItemPart, parts_from, list, or_hole, or_rest}
use Rattle.mini_accept.specs.Accept.{Read, read_below, below_by, reads}
use Rattle.mini_accept.proofs.Results.{ok_same, bind_ok, under_ok}
use Rattle.mini_accept.proofs.Types.{types_at}
use Rattle.mini_writer.specs.Written.{tree_data, trees_data}
use Rattle.mini_writer.specs.Bare.{bare, bares}
use Rattle.mini_writer.proofs.Units.{has_units, have_units}
use Rattle.mini_writer.proofs.Read.{PartBack, PartsBack, ChildBack, no_parts, more_parts, one_child, list_child, Stands, read_planned, read_stands, stands_object, stands_apart}
use Rattle.mini_writer.proofs.Fitting.{Fit, Filled, with_optional}

-- ---- the part of a node below that stands in a slot for one

abbrev pub is_inner_in : Class → Data → Bool
is_inner_in (shaped.an_inner c) e = true
is_inner_in (shaped.a_private_or_key true) e = true
is_inner_in (shaped.an_inner_key true) e = true
is_inner_in shaped.an_element_target e = has_type (codes "MemberExpression") e
is_inner_in shaped.a_target_element e = has_type (codes "MemberExpression") e
is_inner_in shaped.an_inner_argument e = not (has_type (codes "SpreadElement") e)
is_inner_in c e = false

abbrev pub inner_class : Class → Class
inner_class (shaped.an_inner c) = c
inner_class shaped.an_element_target = shaped.a_member_target
inner_class shaped.a_target_element = shaped.a_member_target
inner_class c = shaped.an_expression

abbrev pub part_of : Class → Step → Data → Part
part_of c s e = if is_inner_in c e then inner_at s (at (inner_class c)) else tree_at s (at c)

abbrev pub are_ascii : List ℕ → Bool
are_ascii [] = true
are_ascii (u ∷ us) = nat_lt u 128 && are_ascii us

-- what isn't read as such a part; a word is one of the first 128 characters
abbrev pub is_apart : Class → Bool
is_apart shaped.a_program = true
is_apart shaped.a_function_body = true
is_apart shaped.an_arrow_body = true
is_apart shaped.an_export = true
is_apart shaped.an_exported_name = true
is_apart (shaped.an_inner shaped.an_expression) = false
is_apart (shaped.an_inner shaped.a_link) = false
is_apart (shaped.an_inner c) = true
is_apart (shaped.a_word w) = not (are_ascii w)
is_apart c = false

-- trees of at most so many nodes come back
abbrev pub Back : ℕ → Type 0
Back k = (strict : Bool) (c : Class) (t : Tree) → is_apart c ≡ false → Fit k strict (shaped.one c) t → (d : Data) (s : Step) → down s d ≡ Some (tree_data t) → PartBack (suc (suc k)) strict d (part_of c s (tree_data t)) (t ▸ none)

-- ---- what is known of a part that comes back

below_there : (k : ℕ) (strict : Bool) (p : Place) (n : ℕ) (s : Step) (o : Option Data) (e : Data) (x : Tree × ℕ) → o ≡ Some e → below_by (reads k) strict p n s o ≡ Ok x → Stands p e
below_there k strict p n s None e x there is = absurd (cc there)
below_there k strict p n s (Some d) e x there is =
    let same : d ≡ e = cc in
    subst (Stands p) same (read_stands k strict p n d x (under_ok (step_text s) (reads k strict p n d) x is))

pub part_stands : (k : ℕ) (strict : Bool) (d : Data) (s : Step) (b : Bool) (p q : Place) (ts : Trees) (e : Data) → PartBack k strict d (if b then inner_at s p else tree_at s q) ts → down s d ≡ Some e → Stands (if b then p else q) e
part_stands k strict d s true p q ts e back there =
    let r = back.back 0 in
    let (x, read, whole) = bind_ok (read_below (reads k) strict 1 d s p) _ (r.trees, r.next) r.read in
    below_there k strict p 1 s (down s d) e x there read
part_stands k strict d s false p q ts e back there =
    let r = back.back 0 in
    let (x, read, whole) = bind_ok (read_below (reads k) strict 0 d s q) _ (r.trees, r.next) r.read in
    below_there k strict q 0 s (down s d) e x there read

-- what a node below is planned as, and the tree's shape
pub record Planned (p : Place) (e : Data) (t : Tree) : Type 0 where
  pub stands : Stands p e
  pub shape : shape_of t ≡ stands.plan.shape

below_planned : (k : ℕ) (strict : Bool) (p : Place) (n : ℕ) (s : Step) (o : Option Data) (e : Data) (x : Tree × ℕ) (t : Tree) → shape_of t ≡ shape_of x.0 → o ≡ Some e → below_by (reads k) strict p n s o ≡ Ok x → Planned p e t
below_planned k strict p n s None e x t h there is = absurd (cc there)
below_planned k strict p n s (Some d) e x t h there is =
    let same : d ≡ e = cc in
    let (stands, shape) = read_planned k strict p n d x (under_ok (step_text s) (reads k strict p n d) x is) in
    subst (λ v. Planned p v t) same (record { stands = stands; shape = h ∙ shape })

first_shape : Trees → Shape
first_shape none = shape.Absent
first_shape (t ▸ ts) = shape_of t

bare_shape : (t : Tree) → shape_of (bare t) ≡ shape_of t
bare_shape (node h xs n ts) = refl

same_shape : (ts : Trees) (x t : Tree) (m n : ℕ) → ◌≡◌ {A = Read Trees} (Ok (x ▸ none, m)) (Ok (ts, n)) → bares ts ≡ bares (t ▸ none) → shape_of t ≡ shape_of x
unfolding first_shape
same_shape ts x t m n e f =
    let are : x ▸ none ≡ ts = ap (λ v. v.0) (ok_same {E = Fault} (x ▸ none, m) (ts, n) e) in
    sym (sym (bare_shape x) ∙ (ap first_shape (ap bares are ∙ f) ∙ bare_shape t))

pub part_planned : (k : ℕ) (strict : Bool) (d : Data) (s : Step) (p : Place) (t : Tree) (e : Data) → PartBack k strict d (tree_at s p) (t ▸ none) → down s d ≡ Some e → Planned p e t
part_planned k strict d s p t e back there =
    let r = back.back 0 in
    let (x, read, whole) = bind_ok (read_below (reads k) strict 0 d s p) _ (r.trees, r.next) r.read in
    below_planned k strict p 0 s (down s d) e x t (same_shape r.trees x.0 t x.1 r.next whole r.same) there read

alone : Data → Data
alone e = object (member [] e no_members)

alone_there : (e : Data) → down (field []) (alone e) ≡ Some e
unfolding alone
alone_there e = refl

pub there_given : (o : Option Data) (e : Data) → o ≡ Some e → is_object e ≡ true → is_there o ≡ true
there_given None e there is = absurd (cc there)
there_given (Some null) e there is = absurd (let same : null ≡ e = cc in false≢true (ap is_object same ∙ is))
there_given (Some (boolean b)) e there is = refl
there_given (Some (number b)) e there is = refl
there_given (Some (string b)) e there is = refl
there_given (Some (array b)) e there is = refl
there_given (Some (object b)) e there is = refl

not_null : (e : Data) → is_object e ≡ true → is_some (as_null e) ≡ false
not_null null is = absurd (false≢true is)
not_null (boolean b) is = refl
not_null (number b) is = refl
not_null (string b) is = refl
not_null (array b) is = refl
not_null (object b) is = refl

module _ (k : ℕ) (back : Back k) (strict : Bool) where
  -- where a tree stands
  pub fit_stands : (c : Class) (t : Tree) → is_apart c ≡ false → Fit k strict (shaped.one c) t → Stands (if is_inner_in c (tree_data t) then at (inner_class c) else at c) (tree_data t)
  fit_stands c t a f = part_stands (suc (suc k)) strict (alone (tree_data t)) (field []) (is_inner_in c (tree_data t)) (at (inner_class c)) (at c) (t ▸ none) (tree_data t) (back strict c t a f (alone (tree_data t)) (field []) (alone_there (tree_data t))) (alone_there (tree_data t))

  pub fit_planned : (c : Class) (t : Tree) → is_apart c ≡ false → ((e : Data) → is_inner_in c e ≡ false) → Fit k strict (shaped.one c) t → Planned (at c) (tree_data t) t
  fit_planned c t a plain f =
      part_planned (suc (suc k)) strict (alone (tree_data t)) (field []) (at c) t (tree_data t)
      (subst (λ b. PartBack (suc (suc k)) strict (alone (tree_data t)) (if b then inner_at (field []) (at (inner_class c)) else tree_at (field []) (at c)) (t ▸ none)) (plain (tree_data t)) (back strict c t a f (alone (tree_data t)) (field []) (alone_there (tree_data t))))
      (alone_there (tree_data t))

  stood_object : (b : Bool) (p q : Place) (e : Data) → Stands (if b then p else q) e → is_object e ≡ true
  stood_object true p q e s = stands_object p e s
  stood_object false p q e s = stands_object q e s

  stood_apart : (b : Bool) (p q : Place) (e : Data) (w : List ℕ) → Stands (if b then p else q) e → is_one_of (types_at p) w ≡ false → is_one_of (types_at q) w ≡ false → has_type w e ≡ false
  stood_apart true p q e w s f g = stands_apart p e w s f
  stood_apart false p q e w s f g = stands_apart q e w s g

  pub fit_object : (c : Class) (t : Tree) → is_apart c ≡ false → Fit k strict (shaped.one c) t → is_object (tree_data t) ≡ true
  fit_object c t a f = stood_object (is_inner_in c (tree_data t)) (at (inner_class c)) (at c) (tree_data t) (fit_stands c t a f)

  -- it is of none of the types that don't stand there
  pub fit_apart : (c : Class) (t : Tree) (w : List ℕ) → is_apart c ≡ false → Fit k strict (shaped.one c) t → is_one_of (types_at (at (inner_class c))) w ≡ false → is_one_of (types_at (at c)) w ≡ false → has_type w (tree_data t) ≡ false
  fit_apart c t w a f x y = stood_apart (is_inner_in c (tree_data t)) (at (inner_class c)) (at c) (tree_data t) w (fit_stands c t a f) x y

  module _ (d : Data) where
    -- ---- one child

    pub child_back : (c : Class) (t : Tree) → is_apart c ≡ false → Fit k strict (shaped.one c) t → (key : List ℕ) → get key d ≡ Some (tree_data t) → ChildBack (suc (suc k)) strict d (one (part_of c (field key) (tree_data t))) (t ▸ none)
    child_back c t a f key there = one_child (back strict c t a f d (field key) there)

    given_by : (b : Bool) (x : Part) (ts : Trees) → b ≡ true → PartBack (suc (suc k)) strict d x ts → ChildBack (suc (suc k)) strict d (one (if b then x else hole)) ts
    given_by true x ts e p = one_child p
    given_by false x ts e p = absurd (false≢true e)

    absent_by : (b : Bool) (x : Part) (n : ℕ) → b ≡ false → ChildBack (suc (suc k)) strict d (one (if b then x else hole)) (node shape.Absent [] n none ▸ none)
    absent_by true x n e = absurd (true≢false e)
    absent_by false x n e = record { back = λ m. record { trees = absent ▸ none; next = m; read = refl; same = refl } }

    pub optional_back : (c : Class) (t : Tree) → is_apart c ≡ false → Fit k strict (shaped.one_or_absent c) t → (key : List ℕ) → get key d ≡ Some (tree_data t) → ChildBack (suc (suc k)) strict d (one (if is_given key d then part_of c (field key) (tree_data t) else hole)) (t ▸ none)
    optional_back c t a f key there =
        with_optional k strict c (λ u. get key d ≡ Some (tree_data u) → ChildBack (suc (suc k)) strict d (one (if is_given key d then part_of c (field key) (tree_data u) else hole)) (u ▸ none))
        (λ n is. absent_by (is_given key d) (part_of c (field key) null) n (ap is_there is))
        (λ u g is. given_by (is_given key d) (part_of c (field key) (tree_data u)) (u ▸ none) (there_given (get key d) (tree_data u) is (fit_object c u a g)) (back strict c u a g d (field key) is))
        t f there

    -- ---- items

    -- what is read of each item comes back
    abbrev pub AllBack : ItemPart → Trees → Type 0
    AllBack part none = ⊤
    AllBack part (t ▸ ts) = ((s : Step) → down s d ≡ Some (tree_data t) → PartBack (suc (suc k)) strict d (part (no_item (trees_data ts)) (tree_data t) s) (t ▸ none)) × AllBack part ts

    parts_back : (part : ItemPart) (key : List ℕ) (all : Items) (i : ℕ) (ts : Trees) → get key d ≡ Some (array all) → ((j m : ℕ) → m ≡ j + i → get_item m all ≡ get_item j (trees_data ts)) → AllBack part ts → PartsBack (suc (suc k)) strict d (parts_from part key i (trees_data ts)) ts
    parts_back part key all i none there items w = no_parts (suc (suc k)) strict d
    parts_back part key all i (t ▸ ts) there items w =
        more_parts (w.0 (place key i) (ap (λ o. option_and_then (get_item i) (option_and_then as_array o)) there ∙ items 0 i (omega arith)))
        (parts_back part key all (suc i) ts there (λ j m e. items (suc j) m (omega arith)) w.1)

    pub items_back : (part : ItemPart) (key : List ℕ) (n : ℕ) (ts : Trees) → get key d ≡ Some (array (trees_data ts)) → AllBack part ts → ChildBack (suc (suc k)) strict d (list part key (trees_data ts)) (node shape.Listed [] n ts ▸ none)
    items_back part key n ts there w = list_child n (parts_back part key (trees_data ts) 0 ts there (λ j m e. ap (λ i. get_item i (trees_data ts)) (let same : m ≡ j = omega arith in same)) w)

    -- how an item is read, by its class
    abbrev pub Reads : Class → ItemPart → Type 0
    Reads c part = (last : Bool) (e : Data) (s : Step) → part_of c s e ≡ part last e s

    abbrev pub OneBack : ItemPart → Bool → Tree → Type 0
    OneBack part last t = (s : Step) → down s d ≡ Some (tree_data t) → PartBack (suc (suc k)) strict d (part last (tree_data t) s) (t ▸ none)

    one_back : (c : Class) (part : ItemPart) (last : Bool) (t : Tree) → is_apart c ≡ false → Reads c part → Fit k strict (shaped.one c) t → OneBack part last t
    one_back c part last t a r f s there = subst (λ x. PartBack (suc (suc k)) strict d x (t ▸ none)) (r last (tree_data t) s) (back strict c t a f d s there)

    pub all_each : (c : Class) (part : ItemPart) → is_apart c ≡ false → Reads c part → (ts : Trees) → Filled k strict (shaped.each (shaped.one c)) ts → AllBack part ts
    all_each c part a r none w = tt
    all_each c part a r (t ▸ ts) w =
        let (first, rest) = and_parts (fits strict (shaped.one c) t) (fill strict (shaped.each (shaped.one c)) ts) w.fills in
        let (unit, units) = and_parts (has_units t) (have_units ts) w.units in
        let small : node_count t + node_counts ts ≤ k = w.small in
        (one_back c part (no_item (trees_data ts)) t a r (record { fits = first; units = unit; small = omega arith }), all_each c part a r ts (record { fills = rest; units = units; small = omega arith }))

    hole_by : (b : Bool) (x : Part) (t : Tree) → b ≡ false → PartBack (suc (suc k)) strict d x (t ▸ none) → PartBack (suc (suc k)) strict d (if b then hole else x) (t ▸ none)
    hole_by true x t e p = absurd (true≢false e)
    hole_by false x t e p = p

    or_hole_back : (c : Class) (part : ItemPart) (last : Bool) → is_apart c ≡ false → ((t : Tree) → Fit k strict (shaped.one c) t → OneBack part last t) → (t : Tree) → Fit k strict (shaped.one_or_absent c) t → OneBack (or_hole part) last t
    or_hole_back c part last a f = with_optional k strict c (OneBack (or_hole part) last)
        (λ n s there. record { back = λ m. record { trees = absent ▸ none; next = m; read = refl; same = refl } })
        (λ t g s there. hole_by (is_some (as_null (tree_data t))) (part last (tree_data t) s) t (not_null (tree_data t) (fit_object c t a g)) (f t g s there))

    pub all_holes : (c : Class) (part : ItemPart) → is_apart c ≡ false → Reads c part → (ts : Trees) → Filled k strict (shaped.each (shaped.one_or_absent c)) ts → AllBack (or_hole part) ts
    all_holes c part a r none w = tt
    all_holes c part a r (t ▸ ts) w =
        let (first, rest) = and_parts (fits strict (shaped.one_or_absent c) t) (fill strict (shaped.each (shaped.one_or_absent c)) ts) w.fills in
        let (unit, units) = and_parts (has_units t) (have_units ts) w.units in
        let small : node_count t + node_counts ts ≤ k = w.small in
        (or_hole_back c part (no_item (trees_data ts)) a (λ u. one_back c part (no_item (trees_data ts)) u a r) t (record { fits = first; units = unit; small = omega arith }), all_holes c part a r ts (record { fills = rest; units = units; small = omega arith }))

    -- ---- items of which the last may be a rest

    no_rest_by : (last b : Bool) (x y : Part) (t : Tree) → b ≡ false → PartBack (suc (suc k)) strict d y (t ▸ none) → PartBack (suc (suc k)) strict d (if last && b then x else y) (t ▸ none)
    no_rest_by true true x y t e p = absurd (true≢false e)
    no_rest_by true false x y t e p = p
    no_rest_by false b x y t e p = p

    rest_by : (b : Bool) (x y : Part) (t : Tree) → b ≡ true → PartBack (suc (suc k)) strict d x (t ▸ none) → PartBack (suc (suc k)) strict d (if true && b then x else y) (t ▸ none)
    rest_by true x y t e p = p
    rest_by false x y t e p = absurd (false≢true e)

    -- a class of items, and one of rests
    pub record Rested (c r : Class) (part : ItemPart) : Type 0 where
      pub one_apart : is_apart c ≡ false
      pub rest_apart : is_apart r ≡ false
      pub reads : Reads c part
      pub rest_reads : (e : Data) (s : Step) → part_of r s e ≡ tree_at s (at r)
      pub inner_type : is_one_of (types_at (at (inner_class c))) (codes "RestElement") ≡ false
      pub type : is_one_of (types_at (at c)) (codes "RestElement") ≡ false
      pub is_rest : (t : Tree) → Fit k strict (shaped.one r) t → has_type (codes "RestElement") (tree_data t) ≡ true

    plain_item : (c r : Class) (part : ItemPart) (last : Bool) → Rested c r part → (t : Tree) → Fit k strict (shaped.one c) t → OneBack (or_rest part r) last t
    plain_item c r part last w t f s there =
        no_rest_by last (has_type (codes "RestElement") (tree_data t)) (tree_at s (at r)) (part last (tree_data t) s) t (fit_apart c t (codes "RestElement") w.one_apart f w.inner_type w.type) (one_back c part last t w.one_apart w.reads f s there)

    rest_item : (c r : Class) (part : ItemPart) → Rested c r part → (t : Tree) → Fit k strict (shaped.one r) t → OneBack (or_rest part r) true t
    rest_item c r part w t f s there =
        rest_by (has_type (codes "RestElement") (tree_data t)) (tree_at s (at r)) (part true (tree_data t) s) t (w.is_rest t f) (subst (λ x. PartBack (suc (suc k)) strict d x (t ▸ none)) (w.rest_reads (tree_data t) s) (back strict r t w.rest_apart f d s there))

    -- a slot that the last item may fill, and another that any may
    module _ (s r : shaped.Slot) (part : ItemPart) (plain : (last : Bool) (t : Tree) → Fit k strict s t → OneBack part last t) (ending : (t : Tree) → Fit k strict r t → OneBack part true t) where
      at_end : (t : Tree) (ts : Trees) → has_units t ≡ true → node_count t ≤ k → (is_last ts && fits strict r t) ≡ true → OneBack part (no_item (trees_data ts)) t
      at_end t none unit small e = ending t (record { fits = e; units = unit; small = small })
      at_end t (u ▸ ts) unit small e = absurd (false≢true e)

      pub all_or_last : (ts : Trees) → Filled k strict (shaped.each_or_last s r) ts → AllBack part ts
      all_or_last none w = tt
      all_or_last (t ▸ ts) w =
          let (first, rest) = and_parts (fits strict s t || (is_last ts && fits strict r t)) (fill strict (shaped.each_or_last s r) ts) w.fills in
          let (unit, units) = and_parts (has_units t) (have_units ts) w.units in
          let small : node_count t + node_counts ts ≤ k = w.small in
          let alone_small : node_count t ≤ k = omega arith in
          let here : OneBack part (no_item (trees_data ts)) t = elim (or_cases (fits strict s t) (is_last ts && fits strict r t) first) [
            | inl is ↦ plain (no_item (trees_data ts)) t (record { fits = is; units = unit; small = alone_small })
            | inr is ↦ at_end t ts unit alone_small is
          ] in
          (here, all_or_last ts (record { fills = rest; units = units; small = omega arith }))

    pub all_and_rest : (c r : Class) (part : ItemPart) → Rested c r part → (ts : Trees) → Filled k strict (shaped.each_or_last (shaped.one c) (shaped.one r)) ts → AllBack (or_rest part r) ts
    all_and_rest c r part w ts f = all_or_last (shaped.one c) (shaped.one r) (or_rest part r) (λ last. plain_item c r part last w) (rest_item c r part w) ts f

    pub all_holes_and_rest : (c r : Class) (part : ItemPart) → Rested c r part → (ts : Trees) → Filled k strict (shaped.each_or_last (shaped.one_or_absent c) (shaped.one r)) ts → AllBack (or_hole (or_rest part r)) ts
    all_holes_and_rest c r part w ts f = all_or_last (shaped.one_or_absent c) (shaped.one r) (or_hole (or_rest part r))
        (λ last. or_hole_back c (or_rest part r) last w.one_apart (plain_item c r part last w))
        (λ t g s there. hole_by (is_some (as_null (tree_data t))) (or_rest part r true (tree_data t) s) t (not_null (tree_data t) (fit_object r t w.rest_apart g)) (rest_item c r part w t g s there))
        ts f

    -- ---- lists, whole

    pub each_back : (c : Class) (part : ItemPart) (key : List ℕ) (n : ℕ) (ts : Trees) → is_apart c ≡ false → Reads c part → get key d ≡ Some (array (trees_data ts)) → Filled k strict (shaped.each (shaped.one c)) ts → ChildBack (suc (suc k)) strict d (list part key (trees_data ts)) (node shape.Listed [] n ts ▸ none)
    each_back c part key n ts a r there w = items_back part key n ts there (all_each c part a r ts w)

    pub holes_back : (c : Class) (part : ItemPart) (key : List ℕ) (n : ℕ) (ts : Trees) → is_apart c ≡ false → Reads c part → get key d ≡ Some (array (trees_data ts)) → Filled k strict (shaped.each (shaped.one_or_absent c)) ts → ChildBack (suc (suc k)) strict d (list (or_hole part) key (trees_data ts)) (node shape.Listed [] n ts ▸ none)
    holes_back c part key n ts a r there w = items_back (or_hole part) key n ts there (all_holes c part a r ts w)

    pub rest_back : (c r : Class) (part : ItemPart) (key : List ℕ) (n : ℕ) (ts : Trees) → Rested c r part → get key d ≡ Some (array (trees_data ts)) → Filled k strict (shaped.each_or_last (shaped.one c) (shaped.one r)) ts → ChildBack (suc (suc k)) strict d (list (or_rest part r) key (trees_data ts)) (node shape.Listed [] n ts ▸ none)
    rest_back c r part key n ts w there f = items_back (or_rest part r) key n ts there (all_and_rest c r part w ts f)

    pub holes_rest_back : (c r : Class) (part : ItemPart) (key : List ℕ) (n : ℕ) (ts : Trees) → Rested c r part → get key d ≡ Some (array (trees_data ts)) → Filled k strict (shaped.each_or_last (shaped.one_or_absent c) (shaped.one r)) ts → ChildBack (suc (suc k)) strict d (list (or_hole (or_rest part r)) key (trees_data ts)) (node shape.Listed [] n ts ▸ none)
    holes_rest_back c r part key n ts w there f = items_back (or_hole (or_rest part r)) key n ts there (all_holes_and_rest c r part w ts f)
