-- The plans of names, expressions and patterns weigh little.
use Rattle.std.proofs.Common.{◌≡◌, ℕ, List, [], ◌∷◌, refl, codes, Bool, true, false, arith}
use Rattle.std.specs.Prelude.{Option, Some, None, option_map, ◌&&◌}
use Rattle.serde_json.specs.Data.{Data}
use Rattle.mini_model.specs.declared.kind.MetaPropertyKind.TheVariants.{NewTarget, ImportMeta}
use Rattle.mini_model.specs.declared.shape.Shape.{Shape}
use Rattle.mini_model.specs.declared.shape.Shape.TheVariants as shape
use Rattle.mini_model.specs.Tree.{unresolved}
use Rattle.mini_model.specs.Weight.{Outline}
use Rattle.mini_accept.specs.WellShaped as shaped
use Rattle.mini_accept.specs.WellShaped.{Class}
use Rattle.mini_accept.specs.Places.{Place, at}
use Rattle.mini_accept.specs.Fields.{is_given, flag_at, list_at, name_at, has_type, child_has_type}
use Rattle.mini_accept.specs.Words.{word_at, assignment_operators, binary_operators, logical_operators, property_kinds, update_operators}
use Rattle.mini_accept.specs.Plans.{tree_at, inner_at, Child, node_of, child, inner, optional, each, or_hole}
use Rattle.mini_accept.specs.Expressions as expression
use Rattle.mini_writer.proofs.Amounts.{are_few}
use Rattle.mini_writer.proofs.Written.{spelled_light, wordy}
use Rattle.mini_writer.proofs.AcceptedLists.{ChildAt, ChildrenAt}
use Rattle.mini_writer.proofs.Plans.{LightIf, plain, leaf_light, nothing, bind_light, require_light, either_light, optional_at, either_at, each_item, hole_item, either_item, IsItemPart, list_is_at, list_light}

module _ (d : Data) where
  -- the parts stand at keys of their own
  of : (keys : List (List ℕ)) (h : Shape) (cs : List Child) → ChildrenAt d keys cs → are_few keys ≡ true → ((os : List Outline) → wordy h os ≡ 0) → LightIf d 0 (node_of h cs)
  of keys h cs there few bare = plain d keys h cs there few bare

  two : (a b : List ℕ) (h : Shape) (x y : Child) → ChildAt d a x → ChildAt d b y → are_few (a ∷ b ∷ []) ≡ true → ((os : List Outline) → wordy h os ≡ 0) → LightIf d 0 (node_of h (x ∷ y ∷ []))
  two a b h x y p q few bare = plain d (a ∷ b ∷ []) h (x ∷ y ∷ []) (p, (q, tt)) few bare

  -- ---- names

  variable : (s : List ℕ) → LightIf d 0 (Some (expression.identifier_by shape.Identifier s))
  variable s = leaf_light d [] shape.Identifier (unresolved s ∷ []) refl (λ π os. omega (arith, spelled_light s))

  declared : (s : List ℕ) → LightIf d 0 (Some (expression.identifier_by shape.BindingIdentifier s))
  declared s = leaf_light d [] shape.BindingIdentifier (unresolved s ∷ []) refl (λ π os. omega arith)

  word : (s : List ℕ) → LightIf d 0 (Some (expression.word_plan s))
  word s = leaf_light d [] (shape.IdentifierName s) [] refl (λ π os. omega arith)

  named_as : (c : Class) (s : List ℕ) → LightIf d 0 (Some (expression.identifier_as c s))
  named_as shaped.a_pattern s = declared s
  named_as shaped.a_pattern_element s = declared s
  named_as shaped.a_parameter s = declared s
  named_as shaped.a_binding s = declared s
  named_as shaped.a_label s = word s
  named_as (shaped.a_key false) s = word s
  named_as (shaped.a_key true) s = variable s
  named_as (shaped.a_private_or_key computed) s = word s
  named_as (shaped.an_inner_key computed) s = word s
  named_as shaped.a_module_name s = word s
  named_as (shaped.a_word w) s = word s
  named_as c s = variable s

  named_in : (p : Place) (s : List ℕ) → LightIf d 0 (Some (expression.identifier_in p s))
  named_in (at c) s = named_as c s
  named_in p s = variable s

  named : (p : Place) (o : Option (List ℕ)) → LightIf d 0 (option_map (expression.identifier_in p) o)
  named p None = nothing d 0
  named p (Some s) = named_in p s

  pub identifier : (p : Place) → LightIf d 0 (expression.identifier p d)
  identifier p = named p (name_at d)

  pub private_identifier : LightIf d 0 (expression.private_identifier d)
  private_identifier = bind_light d 0 (name_at d) _ (λ s e. of [] (shape.PrivateIdentifier s) [] tt refl (λ os. refl))

  -- ---- arrays and objects

  argument_item : IsItemPart expression.argument
  argument_item = each_item shaped.an_argument

  pub array_expression : LightIf d 0 (expression.array_expression d)
  array_expression = list_light d 0 (or_hole expression.argument) (codes "elements") _ (hole_item expression.argument argument_item) (λ c there. of (codes "elements" ∷ []) shape.ArrayExpression (c ∷ []) (there, tt) refl (λ os. refl))

  pub object_expression : LightIf d 0 (expression.object_expression d)
  object_expression = list_light d 0 (each shaped.an_object_property) (codes "properties") _ (each_item shaped.an_object_property) (λ c there. of (codes "properties" ∷ []) shape.ObjectExpression (c ∷ []) (there, tt) refl (λ os. refl))

  pub object_property : LightIf d 0 (expression.object_property d)
  object_property =
      bind_light d 0 (word_at property_kinds (codes "kind") d) _ (λ k x. bind_light d 0 (flag_at (codes "method") d) _ (λ is_method y. bind_light d 0 (flag_at (codes "shorthand") d) _ (λ shorthand z. bind_light d 0 (flag_at (codes "computed") d) _
      (λ computed w. require_light d 0 _ _ (of (codes "key" ∷ codes "value" ∷ []) (shape.ObjectProperty k is_method shorthand computed) _ (refl, (refl, tt)) refl (λ os. refl))))))

  pub spread : (p : Place) → LightIf d 0 (expression.spread p d)
  spread p = of (codes "argument" ∷ []) shape.SpreadElement _ (either_at d (codes "argument") (expression.is_inner_argument p) (inner (codes "argument") shaped.an_expression) (child (codes "argument") shaped.an_expression) refl refl, tt) refl (λ os. refl)

  -- ---- operators

  pub update : LightIf d 0 (expression.update d)
  update = bind_light d 0 (word_at update_operators (codes "operator") d) _ (λ o x. bind_light d 0 (flag_at (codes "prefix") d) _ (λ prefix y. of (codes "argument" ∷ []) (shape.UpdateExpression o prefix) _ (refl, tt) refl (λ os. refl)))

  pub binary : LightIf d 0 (expression.binary d)
  binary = bind_light d 0 (word_at binary_operators (codes "operator") d) _ (λ o x. either_light d 0 (expression.is_in o && child_has_type (codes "left") (codes "PrivateIdentifier") d) _ _
      (of (codes "left" ∷ codes "right" ∷ []) shape.PrivateInExpression _ (refl, (refl, tt)) refl (λ os. refl)) (of (codes "left" ∷ codes "right" ∷ []) (shape.BinaryExpression o) _ (refl, (refl, tt)) refl (λ os. refl)))

  pub logical : LightIf d 0 (expression.logical d)
  logical = bind_light d 0 (word_at logical_operators (codes "operator") d) _ (λ o x. of (codes "left" ∷ codes "right" ∷ []) (shape.LogicalExpression o) _ (refl, (refl, tt)) refl (λ os. refl))

  pub assignment : LightIf d 0 (expression.assignment d)
  assignment = bind_light d 0 (word_at assignment_operators (codes "operator") d) _ (λ o x. of (codes "left" ∷ codes "right" ∷ []) (shape.AssignmentExpression o) _ (refl, (refl, tt)) refl (λ os. refl))

  pub conditional : LightIf d 0 (expression.conditional d)
  conditional = of (codes "test" ∷ codes "consequent" ∷ codes "alternate" ∷ []) shape.ConditionalExpression _ (refl, (refl, (refl, tt))) refl (λ os. refl)

  pub sequence : LightIf d 0 (expression.sequence d)
  sequence = bind_light d 0 (list_at (codes "expressions") d) _ (λ ds e. require_light d 0 _ _ (of (codes "expressions" ∷ []) shape.SequenceExpression _ (list_is_at d (each shaped.an_expression) (codes "expressions") ds (each_item shaped.an_expression) e, tt) refl (λ os. refl)))

  -- ---- calls and members

  inner_item : IsItemPart expression.inner_argument
  inner_item last a s = either_item s (has_type (codes "SpreadElement") a) (tree_at s (at shaped.an_inner_argument)) (inner_at s (at shaped.an_expression)) refl refl

  super_call : (optional : Bool) → LightIf d 0 (expression.super_call optional d)
  super_call optional = list_light d 0 expression.inner_argument (codes "arguments") _ inner_item (λ c there. require_light d 0 _ _ (two (codes "callee") (codes "arguments") shape.SuperCallExpression (child (codes "callee") shaped.a_super) c refl there refl (λ os. refl)))

  plain_call : (optional : Bool) (p : Place) → LightIf d 0 (expression.plain_call optional p d)
  plain_call optional p = list_light d 0 expression.argument (codes "arguments") _ argument_item (λ c there. require_light d 0 _ _ (two (codes "callee") (codes "arguments") (shape.CallExpression optional) (child (codes "callee") (expression.link_class p)) c refl there refl (λ os. refl)))

  pub call : (p : Place) → LightIf d 0 (expression.call p d)
  call p = bind_light d 0 (flag_at (codes "optional") d) _ (λ optional x. either_light d 0 (child_has_type (codes "callee") (codes "Super") d) _ _ (super_call optional) (plain_call optional p))

  pub new : LightIf d 0 (expression.new d)
  new = list_light d 0 expression.argument (codes "arguments") _ argument_item (λ c there. two (codes "callee") (codes "arguments") shape.NewExpression (child (codes "callee") shaped.an_expression) c refl there refl (λ os. refl))

  super_member : (computed : Bool) → LightIf d 0 (expression.super_member computed)
  super_member computed = either_light d 0 computed _ _
      (two (codes "object") (codes "property") shape.SuperComputedMemberExpression _ _ refl refl refl (λ os. refl)) (two (codes "object") (codes "property") shape.SuperStaticMemberExpression _ _ refl refl refl (λ os. refl))

  named_member : (optional : Bool) (c : Class) → LightIf d 0 (expression.named_member optional c d)
  named_member optional c = either_light d 0 (child_has_type (codes "property") (codes "PrivateIdentifier") d) _ _
      (two (codes "object") (codes "property") (shape.PrivateFieldExpression optional) _ _ refl refl refl (λ os. refl)) (two (codes "object") (codes "property") (shape.StaticMemberExpression optional) _ _ refl refl refl (λ os. refl))

  plain_member : (optional computed : Bool) (p : Place) → LightIf d 0 (expression.plain_member optional computed p d)
  plain_member optional computed p = require_light d 0 _ _ (either_light d 0 computed _ _
      (two (codes "object") (codes "property") (shape.ComputedMemberExpression optional) _ _ refl refl refl (λ os. refl)) (named_member optional (expression.link_class p)))

  pub member_expression : (p : Place) → LightIf d 0 (expression.member_expression p d)
  member_expression p = bind_light d 0 (flag_at (codes "optional") d) _ (λ optional x. bind_light d 0 (flag_at (codes "computed") d) _ (λ computed y.
      either_light d 0 (child_has_type (codes "object") (codes "Super") d) _ _ (require_light d 0 _ _ (super_member computed)) (plain_member optional computed p)))

  pub chain : LightIf d 0 (expression.chain d)
  chain = require_light d 0 _ _ (of (codes "expression" ∷ []) shape.ChainExpression _ (refl, tt) refl (λ os. refl))

  -- ---- others

  pub yield : LightIf d 0 (expression.yield d)
  yield = bind_light d 0 (flag_at (codes "delegate") d) _ (λ delegate x. require_light d 0 _ _ (of (codes "argument" ∷ []) (shape.YieldExpression delegate) _ (optional_at (codes "argument") shaped.an_expression (is_given (codes "argument") d), tt) refl (λ os. refl)))

  pub tagged_template : LightIf d 0 (expression.tagged_template d)
  tagged_template = two (codes "tag") (codes "quasi") shape.TaggedTemplateExpression _ _ refl refl refl (λ os. refl)

  pub meta_property : LightIf d 0 (expression.meta_property d)
  meta_property = either_light d 0 (expression.has_meta (codes "new") d) _ _ (two (codes "meta") (codes "property") (shape.MetaProperty NewTarget) _ _ refl refl refl (λ os. refl))
      (either_light d 0 (expression.has_meta (codes "import") d) _ _ (two (codes "meta") (codes "property") (shape.MetaProperty ImportMeta) _ _ refl refl refl (λ os. refl)) (nothing d 0))

  pub import_expression : LightIf d 0 (expression.import_expression d)
  import_expression = of (codes "source" ∷ []) shape.ImportExpression _ (refl, tt) refl (λ os. refl)
