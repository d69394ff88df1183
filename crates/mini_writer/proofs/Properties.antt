-- Properties, spread elements and the members of classes come back, where smaller trees do.
use Rattle.std.proofs.Common.{◌≡◌, ℕ, suc, List, [], ◌∷◌, refl, ap, sym, ◌∙◌, arith, Bool, true, false, ◌&&◌, ◌||◌}
use Rattle.std.specs.Prelude.{Some, not, codes, if◌then◌else◌, pos}
use Rattle.serde_json.specs.Data.{Data}
use Rattle.serde_json.specs.Find.{get}
use Rattle.mini_model.specs.declared.name.Name.{Name}
use Rattle.mini_model.specs.declared.kind.MethodDefinitionKind.{MethodDefinitionKind}
use Rattle.mini_model.specs.declared.kind.MethodDefinitionKind.TheVariants as method
use Rattle.mini_model.specs.declared.kind.PropertyKind.{PropertyKind}
use Rattle.mini_model.specs.declared.shape.Shape.{Shape}
use Rattle.mini_model.specs.declared.shape.Shape.TheVariants as shape
use Rattle.mini_model.specs.Tree.{Tree, node, Trees, none, ◌▸◌}
use Rattle.mini_accept.specs.WellShaped as shaped
use Rattle.mini_accept.specs.WellShaped.{Class, these, in_body, a_statement, fits, is_init, is_same_spelling, spelling, without_default, value_class, names_constructor, slots_of}
use Rattle.mini_accept.specs.declared.kind.Kind.TheVariants as kind
use Rattle.mini_accept.specs.Places.{at, field}
use Rattle.mini_accept.specs.Standing.{stands_as}
use Rattle.mini_accept.specs.Plans as plans
use Rattle.mini_accept.specs.Plans.{tree_at, one}
use Rattle.mini_accept.specs.Expressions as table
use Rattle.mini_accept.specs.Expressions.{identifier_text, is_name_with_default}
use Rattle.mini_accept.specs.Functions as function
use Rattle.mini_writer.specs.Objects as objects
use Rattle.mini_writer.specs.Written.{tree_data, trees_data, node_data}
use Rattle.mini_writer.proofs.Read.{ChildBack, no_children, ◌&◌, plain_back}
use Rattle.mini_writer.proofs.Fitting.{Fit, Filled, node_fits, fit_more, and_false, with_one, with_two, with_list}
use Rattle.mini_writer.proofs.Slots.{Back, child_back, optional_back, each_back}
use Rattle.mini_writer.proofs.Entry.{bind_is, require_is, property_back, method_back}
use Rattle.mini_writer.proofs.Statements.{Comes}
use Rattle.mini_writer.proofs.Keys.{is_named, fit_named, repeats_plain, repeats_default, is_plain_key, key_constructs}

-- ---- shorthands

pub whole_moves : (a b s o r q : Bool) → (a && (b && (not s || (o && r)))) ≡ true → (s ≡ true → o ≡ true → r ≡ true → q ≡ true) → (a && (b && (not s || (o && q)))) ≡ true
whole_moves true true true true r q e f = f refl refl e
whole_moves true true true false r q e f = e
whole_moves true true false o r q e f = refl
whole_moves true false s o r q e f = e
whole_moves false b s o r q e f = e

no_default : (strict b : Bool) (t : Tree) → fits strict (shaped.one (if b then shaped.a_method else shaped.an_expression)) t ≡ true → without_default t ≡ t
no_default strict true (node shape.AssignmentPattern xs n ts) e = absurd (and_false _ e)
no_default strict false (node shape.AssignmentPattern xs n ts) e = absurd (and_false _ e)
no_default strict b (node h xs n ts) e = refl

-- a name, or a name with a default
pub repeats_element : (k : ℕ) (strict : Bool) (c left : Class) → slots_of strict c shape.AssignmentPattern ≡ Some (shaped.one left ∷ shaped.one (shaped.an_inner shaped.an_expression) ∷ []) → (key value : Tree) → is_named key ≡ true → Fit k strict (shaped.one c) value
    → is_same_spelling (spelling key) (spelling (without_default value)) ≡ true → is_name_with_default (identifier_text (tree_data key)) (tree_data value) ≡ true
repeats_element k strict c left slots key (node shape.AssignmentPattern xs n ts) named f e =
    let w = node_fits k strict c shape.AssignmentPattern xs n ts (fit_more k (suc k) strict (shaped.one c) (node shape.AssignmentPattern xs n ts) (omega arith) f) in
    let filled : Filled k strict (these (shaped.one left ∷ shaped.one (shaped.an_inner shaped.an_expression) ∷ [])) ts = record { fills = ap (λ o. shaped.fill strict (shaped.filling_by o) ts) (sym slots) ∙ w.filled.fills; units = w.filled.units; small = w.filled.small } in
    with_two k strict (shaped.one left) (shaped.one (shaped.an_inner shaped.an_expression)) (λ us. is_same_spelling (spelling key) (spelling (shaped.first_item us)) ≡ true → is_name_with_default (identifier_text (tree_data key)) (node_data shape.AssignmentPattern xs (trees_data us)) ≡ true)
    (λ a b x y same. repeats_default key a b named (fit_named k strict (shaped.one left) a x) same) ts filled e
repeats_element k strict c left slots key (node h xs n ts) named f e = repeats_plain key (node h xs n ts) named (fit_named k strict (shaped.one c) (node h xs n ts) f) e

-- ---- keys and values

module _ (k : ℕ) (back : Back k) (strict : Bool) where
  pub pattern_key : (computed : Bool) (d : Data) (a : Tree) → Fit k strict (shaped.one (shaped.an_inner_key computed)) a → get (codes "key") d ≡ Some (tree_data a) → ChildBack (suc (suc k)) strict d (plans.inner_key computed (shaped.an_inner_key false)) (a ▸ none)
  pattern_key true d a f there = child_back k back strict d (shaped.an_inner_key true) a refl f (codes "key") there
  pattern_key false d a f there = child_back k back strict d (shaped.an_inner_key false) a refl f (codes "key") there

  member_key : (computed : Bool) (d : Data) (a : Tree) → Fit k strict (shaped.one (shaped.a_private_or_key computed)) a → get (codes "key") d ≡ Some (tree_data a) → ChildBack (suc (suc k)) strict d (plans.inner_key computed (shaped.a_private_or_key false)) (a ▸ none)
  member_key true d a f there = child_back k back strict d (shaped.a_private_or_key true) a refl f (codes "key") there
  member_key false d a f there = child_back k back strict d (shaped.a_private_or_key false) a refl f (codes "key") there

  value_child : (b : Bool) (d : Data) (a : Tree) → Fit k strict (shaped.one (if b then shaped.a_method else shaped.an_expression)) a → get (codes "value") d ≡ Some (tree_data a) → ChildBack (suc (suc k)) strict d (one (tree_at (field (codes "value")) (at (if b then shaped.a_method else shaped.an_expression)))) (a ▸ none)
  value_child true d a f there = child_back k back strict d shaped.a_method a refl f (codes "value") there
  value_child false d a f there = child_back k back strict d shaped.an_expression a refl f (codes "value") there

  -- ---- object literals

  pub object_property : (o : PropertyKind) (is_method shorthand computed : Bool) (ts : Trees) → Filled k strict (these (shaped.one (shaped.a_key computed) ∷ shaped.one (value_class o is_method) ∷ [])) ts
      → shaped.is_whole_property o is_method shorthand computed ts ≡ true → Comes k strict shaped.an_object_property (shape.ObjectProperty o is_method shorthand computed) ts
  object_property o is_method shorthand computed = with_two k strict (shaped.one (shaped.a_key computed)) (shaped.one (value_class o is_method)) (λ ts. shaped.is_whole_property o is_method shorthand computed ts ≡ true → Comes k strict shaped.an_object_property (shape.ObjectProperty o is_method shorthand computed) ts)
      (λ a b f g e m n. plain_back (suc (suc k)) strict shaped.an_object_property (objects.property o is_method shorthand computed (tree_data a) (tree_data b)) kind.Property (shape.ObjectProperty o is_method shorthand computed) _ m _ refl refl refl
      (bind_is _ o _ _ (property_back o) (require_is (table.is_whole_property o is_method shorthand computed (objects.property o is_method shorthand computed (tree_data a) (tree_data b))) _ _
      (whole_moves (is_init o || not (is_method || shorthand)) (not (is_method && shorthand)) shorthand (not computed) _ _ e
      (λ s c same. repeats_plain a b (fit_named k strict (shaped.one (shaped.a_key computed)) a f) (fit_named k strict (shaped.one (value_class o is_method)) b g)
      (ap (λ t. is_same_spelling (spelling a) (spelling t)) (sym (no_default strict (is_method || not (is_init o)) b g.fits)) ∙ same))) refl))
      (child_back k back strict _ (shaped.a_key computed) a refl f (codes "key") refl & value_child (is_method || not (is_init o)) _ b g refl & no_children) n)

  pub spread : (c : Class) → table.is_inner_argument (at c) ≡ false → ((d : Data) → stands_as c (objects.spread_element d) ≡ true) → (ts : Trees) → Filled k strict (these (shaped.one shaped.an_expression ∷ [])) ts → Comes k strict c shape.SpreadElement ts
  spread c is stands = with_one k strict (shaped.one shaped.an_expression) (Comes k strict c shape.SpreadElement)
      (λ a f m n. plain_back (suc (suc k)) strict c _ kind.SpreadElement shape.SpreadElement _ m _ refl (stands (tree_data a)) refl
      (ap (λ b. plans.node_of shape.SpreadElement ((if b then plans.inner (codes "argument") shaped.an_expression else plans.child (codes "argument") shaped.an_expression) ∷ [])) is)
      (child_back k back strict _ shaped.an_expression a refl f (codes "argument") refl & no_children) n)

  pub inner_spread : (ts : Trees) → Filled k strict (these (shaped.one (shaped.an_inner shaped.an_expression) ∷ [])) ts → Comes k strict shaped.an_inner_argument shape.SpreadElement ts
  inner_spread = with_one k strict (shaped.one (shaped.an_inner shaped.an_expression)) (Comes k strict shaped.an_inner_argument shape.SpreadElement)
      (λ a f m n. plain_back (suc (suc k)) strict shaped.an_inner_argument _ kind.SpreadElement shape.SpreadElement _ m _ refl refl refl refl
      (child_back k back strict _ (shaped.an_inner shaped.an_expression) a refl f (codes "argument") refl & no_children) n)

-- ---- the members of a class

plain_key_of : (strict : Bool) (h : Shape) (xs : List Name) (n : ℕ) (ts : Trees) → fits strict (shaped.one (shaped.a_private_or_key false)) (node h xs n ts) ≡ true → is_plain_key h ≡ true
plain_key_of strict (shape.IdentifierName s) xs n ts e = refl
plain_key_of strict (shape.StringLiteral s) xs n ts e = refl
plain_key_of strict (shape.NumericLiteral (pos m)) xs n ts e = refl
plain_key_of strict (shape.PrivateIdentifier s) xs n ts e = refl
plain_key_of strict (shape.NumericLiteral m) xs n ts e = absurd (and_false _ e)
plain_key_of strict h xs n ts e = absurd (and_false _ e)

key_names : (k : ℕ) (strict : Bool) (a : Tree) → Fit k strict (shaped.one (shaped.a_private_or_key false)) a → names_constructor a ≡ function.names_constructor (tree_data a)
key_names k strict (node h xs n ts) f =
    let w = node_fits k strict (shaped.a_private_or_key false) h xs n ts (fit_more k (suc k) strict (shaped.one (shaped.a_private_or_key false)) (node h xs n ts) (omega arith) f) in
    key_constructs h xs n ts (plain_key_of strict h xs n ts f.fits) w.fields w.field_units

constructs : (k : ℕ) (strict computed is_static : Bool) (a : Tree) → Fit k strict (shaped.one (shaped.a_private_or_key computed)) a → shaped.is_constructor computed is_static a ≡ (not is_static && (not computed && function.names_constructor (tree_data a)))
constructs k strict true is_static a f = refl
constructs k strict false is_static a f = ap (λ b. not is_static && b) (key_names k strict a f)

kind_moves : (o : MethodDefinitionKind) (computed is_static b : Bool) (a : Tree) → shaped.is_constructor computed is_static a ≡ b → shaped.has_its_kind o computed is_static a ≡ function.has_its_kind o b
kind_moves method.Constructor computed is_static b a e = e
kind_moves method.Method computed is_static b a e = ap not e
kind_moves method.Get computed is_static b a e = refl
kind_moves method.Set computed is_static b a e = refl

module _ (k : ℕ) (back : Back k) (strict : Bool) where
  pub method_definition : (o : MethodDefinitionKind) (computed is_static : Bool) (ts : Trees) → Filled k strict (these (shaped.one (shaped.a_private_or_key computed) ∷ shaped.one shaped.a_method ∷ [])) ts
      → shaped.has_its_kind o computed is_static (shaped.first_item ts) ≡ true → Comes k strict shaped.a_class_member (shape.MethodDefinition o computed is_static) ts
  method_definition o computed is_static = with_two k strict (shaped.one (shaped.a_private_or_key computed)) (shaped.one shaped.a_method) (λ ts. shaped.has_its_kind o computed is_static (shaped.first_item ts) ≡ true → Comes k strict shaped.a_class_member (shape.MethodDefinition o computed is_static) ts)
      (λ a b f g e m n. plain_back (suc (suc k)) strict shaped.a_class_member (objects.method_definition o computed is_static (tree_data a) (tree_data b)) kind.MethodDefinition (shape.MethodDefinition o computed is_static) _ m _ refl refl refl
      (bind_is _ o _ _ (method_back o) (require_is (function.has_its_kind o (not is_static && (not computed && function.names_constructor (tree_data a)))) _ _
      (sym (kind_moves o computed is_static _ a (constructs k strict computed is_static a f)) ∙ e) refl))
      (member_key k back strict computed _ a f refl & child_back k back strict _ shaped.a_method b refl g (codes "value") refl & no_children) n)

  pub property_definition : (computed is_static : Bool) (ts : Trees) → Filled k strict (these (shaped.one (shaped.a_private_or_key computed) ∷ shaped.one_or_absent (shaped.an_inner shaped.an_expression) ∷ [])) ts → Comes k strict shaped.a_class_member (shape.PropertyDefinition computed is_static) ts
  property_definition computed is_static = with_two k strict (shaped.one (shaped.a_private_or_key computed)) (shaped.one_or_absent (shaped.an_inner shaped.an_expression)) (Comes k strict shaped.a_class_member (shape.PropertyDefinition computed is_static))
      (λ a b f g m n. plain_back (suc (suc k)) strict shaped.a_class_member (objects.property_definition computed is_static (tree_data a) (tree_data b)) kind.PropertyDefinition (shape.PropertyDefinition computed is_static) _ m _ refl refl refl refl
      (member_key k back strict computed _ a f refl & optional_back k back strict _ (shaped.an_inner shaped.an_expression) b refl g (codes "value") refl & no_children) n)

  pub static_block : (ts : Trees) → Filled k strict (these (shaped.many (a_statement in_body) ∷ [])) ts → Comes k strict shaped.a_class_member shape.StaticBlock ts
  static_block = with_one k strict (shaped.many (a_statement in_body)) (Comes k strict shaped.a_class_member shape.StaticBlock)
      (λ a. with_list k strict (shaped.many (a_statement in_body)) (λ u. Comes k strict shaped.a_class_member shape.StaticBlock (u ▸ none)) refl
      (λ l ts w m n. plain_back (suc (suc k)) strict shaped.a_class_member _ kind.StaticBlock shape.StaticBlock _ m _ refl refl refl refl
      (each_back k back strict _ (a_statement in_body) (plans.each (a_statement in_body)) (codes "body") l ts refl (λ last e s. refl) refl w & no_children) n) a)

  pub class_body : (ts : Trees) → Filled k strict (these (shaped.many shaped.a_class_member ∷ [])) ts → Comes k strict shaped.a_class_body shape.ClassBody ts
  class_body = with_one k strict (shaped.many shaped.a_class_member) (Comes k strict shaped.a_class_body shape.ClassBody)
      (λ a. with_list k strict (shaped.many shaped.a_class_member) (λ u. Comes k strict shaped.a_class_body shape.ClassBody (u ▸ none)) refl
      (λ l ts w m n. plain_back (suc (suc k)) strict shaped.a_class_body _ kind.ClassBody shape.ClassBody _ m _ refl refl refl refl
      (each_back k back strict _ shaped.a_class_member (plans.each shaped.a_class_member) (codes "body") l ts refl (λ last e s. refl) refl w & no_children) n) a)
