-- What a node asks of its children beside their slots holds after a step in one of them.
use Rattle.std.proofs.Common.{◌≡◌, ℕ, suc, Bool, true, false, List, [], refl, sym, ap, ◌∙◌, subst, inl, inr}
use Rattle.std.specs.Prelude.{◌⊎◌, ◌&&◌, ◌||◌, not, nat_eq, nat_le, length, Option, Some, None, if◌then◌else◌}
use Rattle.std.proofs.lemmas.Bool.{and_parts}
use Rattle.mini_model.specs.declared.kind.MethodDefinitionKind.TheVariants as method
use Rattle.mini_model.specs.declared.kind.PropertyKind.{PropertyKind}
use Rattle.mini_model.specs.declared.operator.UnaryOperator.TheVariants.{UnaryNegation}
use Rattle.mini_model.specs.declared.place.Position.{Position}
use Rattle.mini_model.specs.declared.place.Position.TheVariants.{Expr}
use Rattle.mini_model.specs.declared.seat.Seat.{Seat}
use Rattle.mini_model.specs.declared.shape.Shape.{Shape}
use Rattle.mini_model.specs.declared.shape.Shape.TheVariants as shape
use Rattle.mini_model.specs.Tree.{Tree, Trees, node, none, count, children, shape_of, child_or_absent, is_absent}
use Rattle.mini_model.specs.Position.{child_position, unary_operand_seat}
use Rattle.mini_model.specs.Rewriting.{Step, here, inside, StepIn, first, later}
use Rattle.mini_accept.specs.WellShaped.{Class, a_loop_left, a_method, an_expression, is_function_body, is_function_body_shape, first_item, spelling, spelling_by, is_same_spelling, without_default, repeats_key, names_constructor, is_init, has_optional, has_optional_by, is_not_positive_number, is_whole_property, has_its_parts}
use Rattle.mini_kept.proofs.Bools.{both}
use Rattle.mini_kept.specs.KeepsShapes.{is_default, KeepsShapes}
use Rattle.mini_kept.specs.Lifted.{KeepsNames}
use Rattle.mini_kept.specs.Frames.{unbracketed}
use Rattle.mini_kept.proofs.Unbracketed.{same_by, body_plain, spelling_plain, default_plain}
use Rattle.mini_kept.proofs.Moved.{names_of, part, Moved, SameRoot, Alike, cases, still, absent_alike}

-- a declaration by `let`, `const` or `var`, and an export by name: what of their parts is absent, or a name, matters to
-- the whole
abbrev pub is_declaring : Shape → Bool
is_declaring (shape.VariableDeclaration k) = true
is_declaring shape.ExportNamedDeclaration = true
is_declaring _ = false

-- ---- what is read of a child by its shape alone

abbrev constructor_by : Shape → Bool
constructor_by h = names_constructor (node h [] 0 none)

constructor_is : (t : Tree) → names_constructor t ≡ constructor_by (shape_of t)
constructor_is (node (shape.IdentifierName s) xs n ts) = refl
constructor_is (node (shape.StringLiteral s) xs n ts) = refl
constructor_is (node h xs n ts) = refl

constructor_plain : (h : Shape) → constructor_by (unbracketed h) ≡ constructor_by h
constructor_plain (shape.BindingProperty s c) = refl
constructor_plain (shape.AssignmentTargetPropertyProperty c) = refl
constructor_plain shape.AssignmentTargetPropertyIdentifier = refl
constructor_plain (shape.MethodDefinition k c s) = refl
constructor_plain (shape.PropertyDefinition c s) = refl
constructor_plain h = refl

-- ---- a negative number

abbrev positive_by : Shape → Bool
positive_by h = is_not_positive_number (node h [] 0 none)

positive_is : (t : Tree) → is_not_positive_number t ≡ positive_by (shape_of t)
positive_is (node (shape.NumericLiteral k) xs n ts) = refl
positive_is (node h xs n ts) = refl

positive_plain : (h : Shape) → positive_by (unbracketed h) ≡ positive_by h
positive_plain (shape.BindingProperty s c) = refl
positive_plain (shape.AssignmentTargetPropertyProperty c) = refl
positive_plain shape.AssignmentTargetPropertyIdentifier = refl
positive_plain (shape.MethodDefinition k c s) = refl
positive_plain (shape.PropertyDefinition c s) = refl
positive_plain h = refl

-- ---- an optional link

second : (b a c : Bool) → (a ≡ true → c ≡ true) → (b || a) ≡ true → (b || c) ≡ true
second true a c f e = refl
second false a c f e = f e

-- ---- the spelling of a key and of a value

spelling_is : (t : Tree) → spelling t ≡ spelling_by (shape_of t) (names_of t)
spelling_is (node h xs n ts) = refl

some_spelling : (o q : Option (List ℕ)) → is_same_spelling o q ≡ true → (s : List ℕ) × (q ≡ Some s)
some_spelling None None e = absurd (cc e)
some_spelling (Some s) None e = absurd (cc e)
some_spelling None (Some s) e = absurd (cc e)
some_spelling (Some r) (Some s) e = (s, refl)

undefaulted : (t : Tree) → without_default t ≡ (if is_default (shape_of t) then part t 0 else t)
undefaulted (node shape.AssignmentPattern xs n ts) = refl
undefaulted (node h xs n ts) = refl

-- what is spelled is no pattern
spelled_plain : (t : Tree) (s : List ℕ) → spelling t ≡ Some s → is_default (shape_of t) ≡ false
spelled_plain (node shape.AssignmentPattern xs n ts) s e = absurd (cc e)
spelled_plain (node h xs n ts) s e = refl

-- the two names of a class
named : (a b c d : Tree) (declaration : Bool) → is_absent a ≡ is_absent b → spelling a ≡ spelling b → is_absent c ≡ is_absent d → spelling c ≡ spelling d
    → (if declaration && not (is_absent a) then is_same_spelling (spelling a) (spelling c) else is_absent c) ≡ (if declaration && not (is_absent b) then is_same_spelling (spelling b) (spelling d) else is_absent d)
named a b c d declaration x y z w = cc

-- ---- the parts of each shape

module _ (R : Position → Tree → Tree → Type 0) (l : KeepsNames R) (shapes : KeepsShapes R) where
  body_kept : {p : Position} {t u : Tree} → Moved R p t u → is_function_body t ≡ true → is_function_body u ≡ true
  body_kept {p} {t} {u} m e = so (cases R m)
    where
      so : Alike R p t u ⊎ R p t u → is_function_body u ≡ true
      so (inl a) = sym (same_by is_function_body_shape body_plain (shape_of t) (shape_of u) a.root.shape) ∙ e
      so (inr r) = (shapes.asked p t u r).body e

  constructor_alike : {t u : Tree} → SameRoot t u → names_constructor t ≡ names_constructor u
  constructor_alike {t} {u} a = constructor_is t ∙ same_by constructor_by constructor_plain (shape_of t) (shape_of u) a.shape ∙ sym (constructor_is u)

  number_kept : (s : Seat) → s.boolean || not s.minus ≡ false → (t u : Tree) → Moved R (Expr s) t u → is_not_positive_number t ≡ true → is_not_positive_number u ≡ true
  number_kept s e t u m k = so (cases R m)
    where
      so : Alike R (Expr s) t u ⊎ R (Expr s) t u → is_not_positive_number u ≡ true
      so (inl a) = positive_is u ∙ sym (same_by positive_by positive_plain (shape_of t) (shape_of u) a.root.shape) ∙ sym (positive_is t) ∙ k
      so (inr r) = (shapes.asked (Expr s) t u r).number e k

  mutual
    optional_step : {p : Position} {t u : Tree} → Step R p t u → has_optional t ≡ true → has_optional u ≡ true
    optional_step (here p t u r) e = (shapes.asked p t u r).optional e
    optional_step (inside p h xs n ts us s) e = optional_step_in h s e

    optional_step_in : (h : Shape) {π : ℕ → Position} {ts us : Trees} → StepIn R π ts us → has_optional_by h ts ≡ true → has_optional_by h us ≡ true
    optional_step_in (shape.CallExpression b) (first π t u ts s) e = second b (has_optional t) (has_optional u) (optional_step s) e
    optional_step_in (shape.StaticMemberExpression b) (first π t u ts s) e = second b (has_optional t) (has_optional u) (optional_step s) e
    optional_step_in (shape.ComputedMemberExpression b) (first π t u ts s) e = second b (has_optional t) (has_optional u) (optional_step s) e
    optional_step_in (shape.PrivateFieldExpression b) (first π t u ts s) e = second b (has_optional t) (has_optional u) (optional_step s) e
    optional_step_in shape.InnerExpression (first π t u ts s) e = optional_step s e
    optional_step_in (shape.CallExpression b) (later π t ts us s) e = e
    optional_step_in (shape.StaticMemberExpression b) (later π t ts us s) e = e
    optional_step_in (shape.ComputedMemberExpression b) (later π t ts us s) e = e
    optional_step_in (shape.PrivateFieldExpression b) (later π t ts us s) e = e
    optional_step_in shape.InnerExpression (later π t ts us s) e = e
    optional_step_in h s e = e

  optional_kept : {p : Position} {t u : Tree} → Moved R p t u → has_optional t ≡ true → has_optional u ≡ true
  optional_kept (inl q) e = subst (λ x. has_optional x ≡ true) q e
  optional_kept (inr s) e = optional_step s e

  spelling_alike : {t u : Tree} → SameRoot t u → spelling t ≡ spelling u
  spelling_alike {t} {u} a = spelling_is t ∙ same_by (λ h. spelling_by h (names_of t)) (spelling_plain (names_of t)) (shape_of t) (shape_of u) a.shape ∙ ap (spelling_by (shape_of u)) a.names ∙ sym (spelling_is u)

  -- a child that is spelled like something stays spelled so
  spelled_kept : {p : Position} {t u : Tree} (o : Option (List ℕ)) → Moved R p t u → is_same_spelling o (spelling t) ≡ true → spelling t ≡ spelling u
  spelled_kept {p} {t} {u} o m e = so (cases R m)
    where
      so : Alike R p t u ⊎ R p t u → spelling t ≡ spelling u
      so (inl a) = spelling_alike a.root
      so (inr r) = let (s, same) = some_spelling o (spelling t) e in same ∙ sym ((shapes.asked p t u r).spelled s same)

  value_by : {p : Position} {t u : Tree} (o : Option (List ℕ)) (b : Bool) → is_default (shape_of t) ≡ b → Moved R p t u → is_same_spelling o (spelling (if b then part t 0 else t)) ≡ true → (is_default (shape_of u) ≡ b) × (spelling (if b then part t 0 else t) ≡ spelling (if b then part u 0 else u))
  value_by {p} {t} {u} o true d m e = so (cases R m)
    where
      so : Alike R p t u ⊎ R p t u → (is_default (shape_of u) ≡ true) × (spelling (part t 0) ≡ spelling (part u 0))
      so (inl a) = (sym (same_by is_default default_plain (shape_of t) (shape_of u) a.root.shape) ∙ d, spelled_kept o (a.parts 0) e)
      so (inr r) = absurd (cc (sym d ∙ (shapes.asked p t u r).plain))
  value_by {p} {t} {u} o false d m e = so (cases R m)
    where
      so : Alike R p t u ⊎ R p t u → (is_default (shape_of u) ≡ false) × (spelling t ≡ spelling u)
      so (inl a) = (sym (same_by is_default default_plain (shape_of t) (shape_of u) a.root.shape) ∙ d, spelling_alike a.root)
      so (inr r) = let (s, same) = some_spelling o (spelling t) e in let new = (shapes.asked p t u r).spelled s same in (spelled_plain u s new, same ∙ sym new)

  value_kept : {p : Position} {t u : Tree} (o : Option (List ℕ)) → Moved R p t u → is_same_spelling o (spelling (without_default t)) ≡ true → spelling (without_default t) ≡ spelling (without_default u)
  value_kept {p} {t} {u} o m e =
      let b = is_default (shape_of t) in
      let (d, same) = value_by o b refl m (subst (λ x. is_same_spelling o (spelling x) ≡ true) (undefaulted t) e) in
      ap spelling (undefaulted t) ∙ same ∙ ap (λ c. spelling (if c then part u 0 else u)) (sym d) ∙ sym (ap spelling (undefaulted u))

  repeats_kept : {q : Position} (ts us : Trees) → SameRoot (child_or_absent ts 0) (child_or_absent us 0) → Moved R q (child_or_absent ts 1) (child_or_absent us 1) → repeats_key ts ≡ true → repeats_key us ≡ true
  repeats_kept ts us a m e =
      let key = spelling_alike a in
      let value = value_kept (spelling (child_or_absent ts 0)) m e in
      sym (ap (λ k. is_same_spelling k (spelling (without_default (child_or_absent us 1)))) key) ∙ sym (ap (is_same_spelling (spelling (child_or_absent ts 0))) value) ∙ e

  module _ (p : Position) (ts us : Trees) where
    abbrev AllMoved : Shape → Type 0
    AllMoved h = (i : ℕ) → Moved R (child_position h p (count ts) i) (child_or_absent ts i) (child_or_absent us i)

    property_kept : (k : PropertyKind) (is_method shorthand computed : Bool) → AllMoved (shape.ObjectProperty k is_method shorthand computed) → is_whole_property k is_method shorthand computed ts ≡ true → is_whole_property k is_method shorthand computed us ≡ true
    property_kept k is_method false computed m e = e
    property_kept k is_method true true m e = e
    property_kept k is_method true false m e =
        let (accessor, others) = and_parts (is_init k || not (is_method || true)) (not (is_method && true) && repeats_key ts) e in
        let (shorthand, repeats) = and_parts (not (is_method && true)) (repeats_key ts) others in
        both (is_init k || not (is_method || true)) (not (is_method && true) && repeats_key us) accessor
        (both (not (is_method && true)) (repeats_key us) shorthand (repeats_kept ts us (still R l refl (m 0)) (m 1) repeats))

    -- in an expression's place
    parts_kept : (h : Shape) → is_declaring h ≡ false → AllMoved h → has_its_parts an_expression h ts ≡ true → has_its_parts an_expression h us ≡ true
    parts_kept (shape.VariableDeclaration k) d m e = absurd (cc d)
    parts_kept shape.ExportNamedDeclaration d m e = absurd (cc d)
    parts_kept shape.TryStatement d m e =
        let handler = absent_alike R (still R l refl (m 1)) in
        let finalizer = absent_alike R (still R l refl (m 2)) in
        sym (ap (λ b. not (b && is_absent (child_or_absent us 2))) handler) ∙ sym (ap (λ b. not (is_absent (child_or_absent ts 1) && b)) finalizer) ∙ e
    parts_kept (shape.ArrowFunctionExpression ds) d m e = second (nat_eq (length ds) 0) _ _ (body_kept (m 1)) e
    parts_kept (shape.Class declaration) d m e =
        let first = still R l refl (m 0) in
        let second = still R l refl (m 3) in
        sym (named (child_or_absent ts 0) (child_or_absent us 0) (child_or_absent ts 3) (child_or_absent us 3) declaration (absent_alike R first) (spelling_alike first) (absent_alike R second) (spelling_alike second)) ∙ e
    parts_kept (shape.MethodDefinition method.Constructor true is_static) d m e = e
    parts_kept (shape.MethodDefinition method.Method true is_static) d m e = e
    parts_kept (shape.MethodDefinition method.Constructor false is_static) d m e = sym (ap (λ b. not is_static && b) (constructor_alike (still R l refl (m 0)))) ∙ e
    parts_kept (shape.MethodDefinition method.Method false is_static) d m e = sym (ap (λ b. not (not is_static && b)) (constructor_alike (still R l refl (m 0)))) ∙ e
    parts_kept (shape.MethodDefinition k computed is_static) d m e = refl
    parts_kept (shape.ObjectProperty k is_method shorthand computed) d m e = property_kept k is_method shorthand computed m e
    parts_kept (shape.BindingProperty false computed) d m e = refl
    parts_kept (shape.BindingProperty true true) d m e = absurd (cc e)
    parts_kept (shape.BindingProperty true false) d m e = repeats_kept ts us (still R l refl (m 0)) (m 1) e
    parts_kept shape.AssignmentTargetPropertyIdentifier d m e = repeats_kept ts us (still R l refl (m 0)) (m 1) e
    parts_kept shape.SequenceExpression d m e = sym (ap (nat_le 2) (still R l refl (m 0)).counted) ∙ e
    parts_kept (shape.UnaryExpression UnaryNegation) d m e = number_kept (unary_operand_seat UnaryNegation) refl _ _ (m 0) e
    parts_kept shape.ChainExpression d m e = optional_kept (m 0) e
    parts_kept shape.TemplateLiteral d m e =
        let texts = (still R l refl (m 0)).counted in
        let expressions = (still R l refl (m 1)).counted in
        sym (ap (λ k. nat_eq k (suc (count (children (child_or_absent us 1))))) texts) ∙ sym (ap (λ k. nat_eq (count (children (first_item ts))) (suc k)) expressions) ∙ e
    parts_kept h d m e = refl

    -- in any other
    pub any_parts_kept : (c : Class) (h : Shape) → is_declaring h ≡ false → AllMoved h → has_its_parts c h ts ≡ true → has_its_parts c h us ≡ true
    any_parts_kept (a_loop_left b) (shape.VariableDeclaration k) d m e = absurd (cc d)
    any_parts_kept (a_loop_left b) h d m e = parts_kept h d m e
    any_parts_kept a_method (shape.Function g b ds) d m e = sym (absent_alike R (still R l refl (m 0))) ∙ e
    any_parts_kept a_method h d m e = parts_kept h d m e
    any_parts_kept c h d m e = parts_kept h d m e
