-- Expressions come back, where smaller trees do.
use Rattle.std.proofs.Common.{◌≡◌, ℕ, suc, List, [], ◌∷◌, refl, ap, sym, ◌∙◌, Bool, true, false, ◌&&◌}
use Rattle.std.specs.Prelude.{Option, Some, None, option_and_then, codes, nat_le, not, if◌then◌else◌, pos}
use Rattle.std.proofs.lemmas.Bool.{and_parts, false≢true}
use Rattle.serde_json.specs.Data.{Data}
use Rattle.serde_json.specs.Find.{get}
use Rattle.mini_model.specs.declared.kind.MetaPropertyKind.TheVariants.{NewTarget, ImportMeta}
use Rattle.mini_model.specs.declared.operator.AssignmentOperator.{AssignmentOperator}
use Rattle.mini_model.specs.declared.operator.AssignmentOperator.TheVariants.{Assign}
use Rattle.mini_model.specs.declared.operator.BinaryOperator.{BinaryOperator}
use Rattle.mini_model.specs.declared.operator.LogicalOperator.{LogicalOperator}
use Rattle.mini_model.specs.declared.operator.UnaryOperator.{UnaryOperator}
use Rattle.mini_model.specs.declared.operator.UnaryOperator.TheVariants as unary
use Rattle.mini_model.specs.declared.operator.UpdateOperator.{UpdateOperator}
use Rattle.mini_model.specs.declared.shape.Shape.{Shape}
use Rattle.mini_model.specs.declared.shape.Shape.TheVariants as shape
use Rattle.mini_model.specs.Tree.{Tree, node, Trees, none, ◌▸◌, count, children, shape_of}
use Rattle.mini_accept.specs.WellShaped as shaped
use Rattle.mini_accept.specs.WellShaped.{Class, these, is_strict_in, is_not_positive_number}
use Rattle.mini_accept.specs.declared.kind.Kind.TheVariants as kind
use Rattle.mini_accept.specs.declared.kind.Kind.{Kind}
use Rattle.mini_accept.specs.Kind.{types}
use Rattle.mini_accept.specs.Places.{at}
use Rattle.mini_accept.specs.Fields.{kind_of, is_there, has_type, word_in, text_at, has_text, is_text_by, item_count}
use Rattle.mini_accept.specs.Literals.{literal, negative_of, with_minus}
use Rattle.mini_accept.specs.Standing.{stands_as, is_expression, is_key}
use Rattle.mini_accept.specs.Plans as plans
use Rattle.mini_accept.specs.Plans.{Child, node_of}
use Rattle.mini_accept.specs.Entries.{entry}
use Rattle.mini_accept.specs.Expressions as table
use Rattle.mini_accept.specs.Expressions.{identifier_by, identifier_as, is_link, minus_below, tagging_of, target_class}
use Rattle.mini_accept.proofs.Types.{text_same, some_same, kind_typed, type_name}
use Rattle.mini_accept.proofs.Wholes.{absent_or}
use Rattle.mini_writer.specs.Objects as objects
use Rattle.mini_writer.specs.Written.{tree_data, trees_data}
use Rattle.mini_writer.proofs.Read.{ReadsBack, ChildrenBack, no_children, ◌&◌, plain_back, is_quiet}
use Rattle.mini_writer.proofs.Fitting.{Fit, Filled, with_none, with_one, with_two, with_three, with_list}
use Rattle.mini_writer.proofs.Slots.{Back, is_apart, Planned, child_back, optional_back, each_back, holes_back, fit_object, fit_apart, fit_stands, fit_planned, there_given}
use Rattle.mini_writer.proofs.Entry.{bind_is, require_is, then_is, else_is, unary_back, update_back, binary_back, logical_back, assignment_back}
use Rattle.mini_writer.proofs.Statements.{Comes}

-- the link of a chain, or any expression
abbrev pub link_of : Bool → Class
link_of linked = if linked then shaped.a_link else shaped.an_expression

-- where an expression may stand, and whether it is a link there
pub record Expressive (c : Class) (linked : Bool) : Type 0 where
  pub stands : (d : Data) → is_expression d ≡ true → stands_as c d ≡ true
  pub link : is_link (at c) ≡ linked
  pub names : (s : List ℕ) → identifier_as c s ≡ identifier_by shape.Identifier s
  pub untagged : tagging_of (at c) ≡ shaped.untagged
  pub no_key : is_key c ≡ false

-- ---- a minus is over no number above 0

literal_kind : (d : Data) (t : Tree) (p : Planned (at shaped.an_expression) d t) (h : Shape) → has_type (codes "Literal") d ≡ true → literal d ≡ Some h → shape_of t ≡ h
literal_kind d t p h typed is =
    let s = p.stands in
    let named : text_at (codes "type") d ≡ Some (type_name s.kind) = kind_typed d s.kind s.is_kind in
    let same : codes "Literal" ≡ type_name s.kind = text_same _ _ (sym (ap (λ o. by_text o) named) ∙ typed) in
    let same_kind : Some s.kind ≡ Some kind.Literal = sym s.is_kind ∙ (ap (option_and_then (word_in types)) (named ∙ ap Some (sym same))) in
    let planned : entry kind.Literal (at shaped.an_expression) d ≡ Some s.plan = ap (λ q. entry q (at shaped.an_expression) d) (sym (some_same s.kind kind.Literal same_kind)) ∙ s.is_planned in
    let whole : Some s.plan ≡ Some (record { shape = h; names = []; children = [] }) = sym planned ∙ bind_is (literal d) h (λ g. node_of g []) _ is refl in
    p.shape ∙ ap (λ y. y.shape) (some_same s.plan _ whole)
  where
    by_text : Option (List ℕ) → Bool
    by_text None = false
    by_text (Some r) = shaped.is_text (codes "Literal") r

abbrev not_positive_shape : Shape → Bool
not_positive_shape (shape.NumericLiteral n) = not (shaped.is_positive n)
not_positive_shape h = true

by_its_shape : (t : Tree) → is_not_positive_number t ≡ not_positive_shape (shape_of t)
by_its_shape (node (shape.NumericLiteral n) xs m ts) = refl
by_its_shape (node h xs m ts) = refl

module _ (t : Tree) (e : is_not_positive_number t ≡ true) where
  no_minus : (d : Data) → ((h : Shape) → literal d ≡ Some h → shape_of t ≡ h) → negative_of (literal d) ≡ None
  no_minus d shaped_so = by_literal (literal d) refl
    where
      by_shape : (h : Shape) → shape_of t ≡ h → negative_of (Some h) ≡ None
      by_shape (shape.NumericLiteral (pos (suc n))) is = absurd (false≢true (sym (ap not_positive_shape is) ∙ (sym (by_its_shape t) ∙ e)))
      by_shape (shape.NumericLiteral n) is = refl
      by_shape h is = refl

      by_literal : (o : Option Shape) → literal d ≡ o → negative_of o ≡ None
      by_literal None is = refl
      by_literal (Some h) is = by_shape h (shaped_so h is)

  literal_minus : (d : Data) → Planned (at shaped.an_expression) d t → with_minus d ≡ None
  literal_minus d p = by_type (has_type (codes "Literal") d) refl
    where
      by_type : (b : Bool) → has_type (codes "Literal") d ≡ b → (if b then negative_of (literal d) else None) ≡ None
      by_type true is = no_minus d (λ h said. literal_kind d t p h is said)
      by_type false is = refl

minus_none : (o : UnaryOperator) (d : Data) (e : Data) → get (codes "argument") d ≡ Some e → (o ≡ unary.UnaryNegation → with_minus e ≡ None) → minus_below o d ≡ None
minus_none unary.UnaryNegation d e there f = ap (option_and_then with_minus) there ∙ f refl
minus_none unary.UnaryPlus d e there f = refl
minus_none unary.LogicalNot d e there f = refl
minus_none unary.BitwiseNot d e there f = refl
minus_none unary.Typeof d e there f = refl
minus_none unary.Void d e there f = refl
minus_none unary.Delete d e there f = refl

module _ (k : ℕ) (back : Back k) (strict : Bool) (c : Class) (linked : Bool) (x : Expressive c linked) where
  expression : (d : Data) (kind : Kind) (h : Shape) (cs : List Child) (m : ℕ) (ts : Trees) → is_quiet d ≡ true → is_expression d ≡ true → kind_of d ≡ Some kind
      → entry kind (at c) d ≡ Some (record { shape = h; names = []; children = cs }) → ChildrenBack (suc (suc k)) (is_strict_in strict h) d cs ts → (n : ℕ) → ReadsBack (suc (suc (suc k))) strict (at c) n d (node h [] m ts)
  expression d kind h cs m ts quiet stands is planned below n = plain_back (suc (suc k)) strict c d kind h cs m ts quiet (x.stands d stands) is planned below n

  pub this_expression : (ts : Trees) → Filled k strict (these []) ts → Comes k strict c shape.ThisExpression ts
  this_expression = with_none k strict (Comes k strict c shape.ThisExpression) (λ m n. expression _ kind.ThisExpression shape.ThisExpression _ m _ refl refl refl refl no_children n)

  pub array_expression : (ts : Trees) → Filled k strict (these (shaped.many_or_holes shaped.an_argument ∷ [])) ts → Comes k strict c shape.ArrayExpression ts
  array_expression = with_one k strict (shaped.many_or_holes shaped.an_argument) (Comes k strict c shape.ArrayExpression)
      (λ a. with_list k strict (shaped.many_or_holes shaped.an_argument) (λ u. Comes k strict c shape.ArrayExpression (u ▸ none)) refl
      (λ l ts w m n. expression _ kind.ArrayExpression shape.ArrayExpression _ m _ refl refl refl refl
      (holes_back k back strict _ shaped.an_argument (plans.each shaped.an_argument) (codes "elements") l ts refl (λ last e s. refl) refl w & no_children) n) a)

  pub object_expression : (ts : Trees) → Filled k strict (these (shaped.many shaped.an_object_property ∷ [])) ts → Comes k strict c shape.ObjectExpression ts
  object_expression = with_one k strict (shaped.many shaped.an_object_property) (Comes k strict c shape.ObjectExpression)
      (λ a. with_list k strict (shaped.many shaped.an_object_property) (λ u. Comes k strict c shape.ObjectExpression (u ▸ none)) refl
      (λ l ts w m n. expression _ kind.ObjectExpression shape.ObjectExpression _ m _ refl refl refl refl
      (each_back k back strict _ shaped.an_object_property (plans.each shaped.an_object_property) (codes "properties") l ts refl (λ last e s. refl) refl w & no_children) n) a)

  -- ---- operators

  minus_of : (o : UnaryOperator) (a : Tree) → Fit k strict (shaped.one shaped.an_expression) a → (o ≡ unary.UnaryNegation → is_not_positive_number a ≡ true) → minus_below o (objects.unary_expression o (tree_data a)) ≡ None
  minus_of o a f some = minus_none o _ (tree_data a) refl (λ is. literal_minus a (some is) (tree_data a) (fit_planned k back strict shaped.an_expression a refl (λ e. refl) f))

  pub unary_expression : (o : UnaryOperator) (ts : Trees) → Filled k strict (these (shaped.one shaped.an_expression ∷ [])) ts → (o ≡ unary.UnaryNegation → is_not_positive_number (shaped.first_item ts) ≡ true) → Comes k strict c (shape.UnaryExpression o) ts
  unary_expression o = with_one k strict (shaped.one shaped.an_expression) (λ ts. (o ≡ unary.UnaryNegation → is_not_positive_number (shaped.first_item ts) ≡ true) → Comes k strict c (shape.UnaryExpression o) ts)
      (λ a f some m n. expression _ kind.UnaryExpression (shape.UnaryExpression o) _ m _ refl refl refl
      (bind_is _ o _ _ (unary_back o) (ap (table.unary_plan o) (minus_of o a f some)))
      (child_back k back strict _ shaped.an_expression a refl f (codes "argument") refl & no_children) n)

  pub update_expression : (o : UpdateOperator) (prefix : Bool) (ts : Trees) → Filled k strict (these (shaped.one shaped.a_simple_target ∷ [])) ts → Comes k strict c (shape.UpdateExpression o prefix) ts
  update_expression o prefix = with_one k strict (shaped.one shaped.a_simple_target) (Comes k strict c (shape.UpdateExpression o prefix))
      (λ a f m n. expression _ kind.UpdateExpression (shape.UpdateExpression o prefix) _ m _ refl refl refl (bind_is _ o _ _ (update_back o) refl)
      (child_back k back strict _ shaped.a_simple_target a refl f (codes "argument") refl & no_children) n)

  not_private : (o : BinaryOperator) (a : Tree) → Fit k strict (shaped.one shaped.an_expression) a → (table.is_in o && has_type (codes "PrivateIdentifier") (tree_data a)) ≡ false
  not_private o a f = ap (λ b. table.is_in o && b) (fit_apart k back strict shaped.an_expression a (codes "PrivateIdentifier") refl f refl refl) ∙ none_of (table.is_in o)
    where
      none_of : (b : Bool) → (b && false) ≡ false
      none_of true = refl
      none_of false = refl

  pub binary_expression : (o : BinaryOperator) (ts : Trees) → Filled k strict (these (shaped.one shaped.an_expression ∷ shaped.one shaped.an_expression ∷ [])) ts → Comes k strict c (shape.BinaryExpression o) ts
  binary_expression o = with_two k strict (shaped.one shaped.an_expression) (shaped.one shaped.an_expression) (Comes k strict c (shape.BinaryExpression o))
      (λ a b f g m n. expression _ kind.BinaryExpression (shape.BinaryExpression o) _ m _ refl refl refl
      (bind_is _ o _ _ (binary_back o) (else_is (table.is_in o && has_type (codes "PrivateIdentifier") (tree_data a)) _ _ _ (not_private o a f) refl))
      (child_back k back strict _ shaped.an_expression a refl f (codes "left") refl & child_back k back strict _ shaped.an_expression b refl g (codes "right") refl & no_children) n)

  pub private_in : (ts : Trees) → Filled k strict (these (shaped.one shaped.a_private_name ∷ shaped.one (shaped.an_inner shaped.an_expression) ∷ [])) ts → Comes k strict c shape.PrivateInExpression ts
  private_in = with_two k strict (shaped.one shaped.a_private_name) (shaped.one (shaped.an_inner shaped.an_expression)) (Comes k strict c shape.PrivateInExpression)
      (λ a b f g m n. expression _ kind.BinaryExpression shape.PrivateInExpression _ m _ refl refl refl
      (then_is (has_type (codes "PrivateIdentifier") (tree_data a)) _ _ _ (fit_stands k back strict shaped.a_private_name a refl f).stands refl)
      (child_back k back strict _ shaped.a_private_name a refl f (codes "left") refl & child_back k back strict _ (shaped.an_inner shaped.an_expression) b refl g (codes "right") refl & no_children) n)

  pub logical_expression : (o : LogicalOperator) (ts : Trees) → Filled k strict (these (shaped.one shaped.an_expression ∷ shaped.one shaped.an_expression ∷ [])) ts → Comes k strict c (shape.LogicalExpression o) ts
  logical_expression o = with_two k strict (shaped.one shaped.an_expression) (shaped.one shaped.an_expression) (Comes k strict c (shape.LogicalExpression o))
      (λ a b f g m n. expression _ kind.LogicalExpression (shape.LogicalExpression o) _ m _ refl refl refl (bind_is _ o _ _ (logical_back o) refl)
      (child_back k back strict _ shaped.an_expression a refl f (codes "left") refl & child_back k back strict _ shaped.an_expression b refl g (codes "right") refl & no_children) n)

  pub assigns : (ts : Trees) → Filled k strict (these (shaped.one shaped.a_target ∷ shaped.one shaped.an_expression ∷ [])) ts → Comes k strict c (shape.AssignmentExpression Assign) ts
  assigns = with_two k strict (shaped.one shaped.a_target) (shaped.one shaped.an_expression) (Comes k strict c (shape.AssignmentExpression Assign))
      (λ a b f g m n. expression _ kind.AssignmentExpression (shape.AssignmentExpression Assign) _ m _ refl refl refl refl
      (child_back k back strict _ shaped.a_target a refl f (codes "left") refl & child_back k back strict _ shaped.an_expression b refl g (codes "right") refl & no_children) n)

  -- by another operator
  pub assigns_by : (o : AssignmentOperator) → target_class o ≡ shaped.a_simple_target → (ts : Trees) → Filled k strict (these (shaped.one shaped.a_simple_target ∷ shaped.one shaped.an_expression ∷ [])) ts → Comes k strict c (shape.AssignmentExpression o) ts
  assigns_by o is = with_two k strict (shaped.one shaped.a_simple_target) (shaped.one shaped.an_expression) (Comes k strict c (shape.AssignmentExpression o))
      (λ a b f g m n. expression _ kind.AssignmentExpression (shape.AssignmentExpression o) _ m _ refl refl refl
      (bind_is _ o _ _ (assignment_back o) (ap (λ q. node_of (shape.AssignmentExpression o) (plans.child (codes "left") q ∷ plans.child (codes "right") shaped.an_expression ∷ [])) is))
      (child_back k back strict _ shaped.a_simple_target a refl f (codes "left") refl & child_back k back strict _ shaped.an_expression b refl g (codes "right") refl & no_children) n)

  pub conditional : (ts : Trees) → Filled k strict (these (shaped.one shaped.an_expression ∷ shaped.one shaped.an_expression ∷ shaped.one shaped.an_expression ∷ [])) ts → Comes k strict c shape.ConditionalExpression ts
  conditional = with_three k strict (shaped.one shaped.an_expression) (shaped.one shaped.an_expression) (shaped.one shaped.an_expression) (Comes k strict c shape.ConditionalExpression)
      (λ a b d f g h m n. expression _ kind.ConditionalExpression shape.ConditionalExpression _ m _ refl refl refl refl
      (child_back k back strict _ shaped.an_expression a refl f (codes "test") refl & child_back k back strict _ shaped.an_expression b refl g (codes "consequent") refl & child_back k back strict _ shaped.an_expression d refl h (codes "alternate") refl & no_children) n)

  items_counted : (ts : Trees) → item_count (trees_data ts) ≡ count ts
  items_counted none = refl
  items_counted (t ▸ ts) = ap suc (items_counted ts)

  pub sequence : (ts : Trees) → Filled k strict (these (shaped.many shaped.an_expression ∷ [])) ts → nat_le 2 (count (children (shaped.first_item ts))) ≡ true → Comes k strict c shape.SequenceExpression ts
  sequence = with_one k strict (shaped.many shaped.an_expression) (λ ts. nat_le 2 (count (children (shaped.first_item ts))) ≡ true → Comes k strict c shape.SequenceExpression ts)
      (λ a. with_list k strict (shaped.many shaped.an_expression) (λ u. nat_le 2 (count (children (shaped.first_item (u ▸ none)))) ≡ true → Comes k strict c shape.SequenceExpression (u ▸ none)) refl
      (λ l ts w two m n. expression _ kind.SequenceExpression shape.SequenceExpression _ m _ refl refl refl
      (require_is (nat_le 2 (item_count (trees_data ts))) _ _ (ap (nat_le 2) (items_counted ts) ∙ two) refl)
      (each_back k back strict _ shaped.an_expression (plans.each shaped.an_expression) (codes "expressions") l ts refl (λ last e s. refl) refl w & no_children) n) a)

  pub new : (ts : Trees) → Filled k strict (these (shaped.one shaped.an_expression ∷ shaped.many shaped.an_argument ∷ [])) ts → Comes k strict c shape.NewExpression ts
  new = with_two k strict (shaped.one shaped.an_expression) (shaped.many shaped.an_argument) (Comes k strict c shape.NewExpression)
      (λ a b f. with_list k strict (shaped.many shaped.an_argument) (λ u. Comes k strict c shape.NewExpression (a ▸ u ▸ none)) refl
      (λ l ts w m n. expression _ kind.NewExpression shape.NewExpression _ m _ refl refl refl refl
      (child_back k back strict _ shaped.an_expression a refl f (codes "callee") refl & each_back k back strict _ shaped.an_argument (plans.each shaped.an_argument) (codes "arguments") l ts refl (λ last e s. refl) refl w & no_children) n) b)

  -- ---- others

  given : (a : Tree) → Fit k strict (shaped.one shaped.an_expression) a → is_there (Some (tree_data a)) ≡ true
  given a f = there_given (Some (tree_data a)) (tree_data a) refl (fit_object k back strict shaped.an_expression a refl f)

  absent_allowed : (a : Tree) → Fit k strict (shaped.one shaped.an_expression) a → Fit k strict (shaped.one_or_absent shaped.an_expression) a
  absent_allowed a f = record { fits = absent_or strict shaped.an_expression a f.fits; units = f.units; small = f.small }

  pub delegates : (ts : Trees) → Filled k strict (these (shaped.one shaped.an_expression ∷ [])) ts → Comes k strict c (shape.YieldExpression true) ts
  delegates = with_one k strict (shaped.one shaped.an_expression) (Comes k strict c (shape.YieldExpression true))
      (λ a f m n. expression _ kind.YieldExpression (shape.YieldExpression true) _ m _ refl refl refl
      (require_is (is_there (Some (tree_data a))) _ _ (given a f) refl)
      (optional_back k back strict _ shaped.an_expression a refl (absent_allowed a f) (codes "argument") refl & no_children) n)

  pub yields : (ts : Trees) → Filled k strict (these (shaped.one_or_absent shaped.an_expression ∷ [])) ts → Comes k strict c (shape.YieldExpression false) ts
  yields = with_one k strict (shaped.one_or_absent shaped.an_expression) (Comes k strict c (shape.YieldExpression false))
      (λ a f m n. expression _ kind.YieldExpression (shape.YieldExpression false) _ m _ refl refl refl refl
      (optional_back k back strict _ shaped.an_expression a refl f (codes "argument") refl & no_children) n)

  pub tagged_template : (ts : Trees) → Filled k strict (these (shaped.one (shaped.an_inner shaped.an_expression) ∷ shaped.one shaped.a_tagged_template ∷ [])) ts → Comes k strict c shape.TaggedTemplateExpression ts
  tagged_template = with_two k strict (shaped.one (shaped.an_inner shaped.an_expression)) (shaped.one shaped.a_tagged_template) (Comes k strict c shape.TaggedTemplateExpression)
      (λ a b f g m n. expression _ kind.TaggedTemplateExpression shape.TaggedTemplateExpression _ m _ refl refl refl refl
      (child_back k back strict _ (shaped.an_inner shaped.an_expression) a refl f (codes "tag") refl & child_back k back strict _ shaped.a_tagged_template b refl g (codes "quasi") refl & no_children) n)

  pub import_expression : (ts : Trees) → Filled k strict (these (shaped.one (shaped.an_inner shaped.an_expression) ∷ [])) ts → Comes k strict c shape.ImportExpression ts
  import_expression = with_one k strict (shaped.one (shaped.an_inner shaped.an_expression)) (Comes k strict c shape.ImportExpression)
      (λ a f m n. expression _ kind.ImportExpression shape.ImportExpression _ m _ refl refl refl refl
      (child_back k back strict _ (shaped.an_inner shaped.an_expression) a refl f (codes "source") refl & no_children) n)

  -- ---- the keywords of meta properties

  word_of : (w : List ℕ) (a : Tree) → is_apart (shaped.a_word w) ≡ false → Fit k strict (shaped.one (shaped.a_word w)) a → has_text (codes "name") w (tree_data a) ≡ true
  word_of w a apart f = (and_parts _ _ (fit_stands k back strict (shaped.a_word w) a apart f).stands).1

  other_word : (w v : List ℕ) (d : Data) → has_text (codes "name") w d ≡ true → shaped.is_text v w ≡ false → has_text (codes "name") v d ≡ false
  other_word w v d e f = by_word (text_at (codes "name") d) e
    where
      by_word : (o : Option (List ℕ)) → is_text_by w o ≡ true → is_text_by v o ≡ false
      by_word None is = refl
      by_word (Some r) is = ap (shaped.is_text v) (sym (text_same w r is)) ∙ f

  pub new_target : (ts : Trees) → Filled k strict (these (shaped.one (shaped.a_word (codes "new")) ∷ shaped.one (shaped.a_word (codes "target")) ∷ [])) ts → Comes k strict c (shape.MetaProperty NewTarget) ts
  new_target = with_two k strict (shaped.one (shaped.a_word (codes "new"))) (shaped.one (shaped.a_word (codes "target"))) (Comes k strict c (shape.MetaProperty NewTarget))
      (λ a b f g m n. expression _ kind.MetaProperty (shape.MetaProperty NewTarget) _ m _ refl refl refl
      (then_is (has_text (codes "name") (codes "new") (tree_data a)) _ _ _ (word_of (codes "new") a refl f) refl)
      (child_back k back strict _ (shaped.a_word (codes "new")) a refl f (codes "meta") refl & child_back k back strict _ (shaped.a_word (codes "target")) b refl g (codes "property") refl & no_children) n)

  pub import_meta : (ts : Trees) → Filled k strict (these (shaped.one (shaped.a_word (codes "import")) ∷ shaped.one (shaped.a_word (codes "meta")) ∷ [])) ts → Comes k strict c (shape.MetaProperty ImportMeta) ts
  import_meta = with_two k strict (shaped.one (shaped.a_word (codes "import"))) (shaped.one (shaped.a_word (codes "meta"))) (Comes k strict c (shape.MetaProperty ImportMeta))
      (λ a b f g m n. expression _ kind.MetaProperty (shape.MetaProperty ImportMeta) _ m _ refl refl refl
      (else_is (has_text (codes "name") (codes "new") (tree_data a)) _ _ _ (other_word (codes "import") (codes "new") (tree_data a) (word_of (codes "import") a refl f) refl)
      (then_is (has_text (codes "name") (codes "import") (tree_data a)) _ _ _ (word_of (codes "import") a refl f) refl))
      (child_back k back strict _ (shaped.a_word (codes "import")) a refl f (codes "meta") refl & child_back k back strict _ (shaped.a_word (codes "meta")) b refl g (codes "property") refl & no_children) n)
