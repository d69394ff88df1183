-- Trees are the same exactly where they are equal.
use Rattle.std.proofs.Common.{◌≡◌, ℕ, suc, ◌+◌, ◌<◌, ◌≤◌, Bool, true, false, List, [], ◌∷◌, get_or, refl, sym, ap, ◌∙◌, subst, arith, rules}
use Rattle.std.specs.Prelude.{◌&&◌, nat_eq}
use Rattle.std.specs.Bool.{Decides}
use Rattle.std.specs.Str.{bytes_eq}
use Rattle.std.proofs.lemmas.Bool.{and_parts, eqb-true, eq-eqb, false≢true}
use Rattle.std.proofs.lemmas.Slice.Eq.{bytes_eq-Decides}
use base.Stored.{Gv, gnil, gnum, gcons}
use Rattle.mini_model.specs.declared.name.Name.{Name}
use Rattle.mini_model.specs.declared.shape.Shape.{Shape}
use Rattle.mini_model.specs.declared.shape.Shape.TheVariants as shape
use Rattle.mini_model.specs.contracts.shape.Shape as shape'
use Rattle.mini_model.specs.declared.kind.VariableDeclarationKind.TheVariants as kind
use Rattle.mini_model.specs.declared.kind.MetaPropertyKind.TheVariants as meta
use Rattle.mini_model.specs.declared.operator.LogicalOperator.TheVariants as logical
use Rattle.mini_model.specs.declared.operator.UnaryOperator.TheVariants as unary
use Rattle.mini_model.specs.declared.operator.UpdateOperator.TheVariants as update
use Rattle.mini_model.specs.Tree.{Tree, Trees, node, none, ◌▸◌, count, child_or_absent, children}
use Rattle.mini_node.specs.Children.{rest_children}
use Rattle.mini_node.specs.Walks.{from_first, next_child, no_rest}
use Rattle.mini_node.specs.Equal.{plain_number, same_code, same_shape, names_code, same_names, same_root, same_tree, same_trees, SameIsEqual, EachIsItself}

both : (a b : Bool) → a ≡ true → b ≡ true → (a && b) ≡ true
both a b e f = ap (λ c. c && b) e ∙ f

-- ---- codes

code_same : (x y : Gv) → same_code x y ≡ true → x ≡ y
code_same gnil gnil e = refl
code_same (gnum m) (gnum n) e = ap gnum (eqb-true m n e)
code_same (gcons a b) (gcons c d) e =
    let (x, y) = and_parts (same_code a c) (same_code b d) e in
    λ i. gcons (code_same a c x i) (code_same b d y i)
code_same gnil (gnum n) e = absurd (false≢true e)
code_same gnil (gcons c d) e = absurd (false≢true e)
code_same (gnum m) gnil e = absurd (false≢true e)
code_same (gnum m) (gcons c d) e = absurd (false≢true e)
code_same (gcons a b) gnil e = absurd (false≢true e)
code_same (gcons a b) (gnum n) e = absurd (false≢true e)

code_itself : (x : Gv) → same_code x x ≡ true
code_itself gnil = refl
code_itself (gnum n) = eq-eqb n n refl
code_itself (gcons a b) = both (same_code a a) (same_code b b) (code_itself a) (code_itself b)

-- ---- plain fields

shape_same : (h g : Shape) → same_shape h g ≡ true → h ≡ g
unfolding same_shape
shape_same h g e = shape'.the_row.coded.inj h g (code_same (shape'.the_row.coded.code h) (shape'.the_row.coded.code g) e)

shape_itself : (h : Shape) → same_shape h h ≡ true
unfolding same_shape
shape_itself h = code_itself (shape'.the_row.coded.code h)

names_same : (xs ys : List Name) → same_names xs ys ≡ true → xs ≡ ys
unfolding same_names
names_same xs ys e = names_code.inj xs ys (code_same (names_code.code xs) (names_code.code ys) e)

names_itself : (xs : List Name) → same_names xs xs ≡ true
unfolding same_names
names_itself xs = code_itself (names_code.code xs)

-- ---- shapes with a number

plain_shapes : List Shape
plain_shapes = shape.Absent ∷ shape.Absent ∷ shape.Listed ∷ shape.InnerExpression ∷ shape.ExpressionStatement ∷ shape.EmptyStatement ∷ shape.DebuggerStatement ∷ shape.BlockStatement ∷ shape.LabeledStatement ∷ shape.BreakStatement ∷ shape.ContinueStatement ∷ shape.ReturnStatement ∷ shape.ThrowStatement ∷ shape.IfStatement ∷ shape.SwitchStatement ∷ shape.SwitchCase ∷ shape.TryStatement ∷ shape.CatchClause ∷ shape.WhileStatement ∷ shape.DoWhileStatement ∷ shape.ForStatement ∷ shape.ForInStatement ∷ shape.ForOfStatement ∷ shape.VariableDeclarator ∷ shape.FunctionBody ∷ shape.ClassBody ∷ shape.StaticBlock ∷ shape.ImportDeclaration ∷ shape.ImportSpecifier ∷ shape.ImportDefaultSpecifier ∷ shape.ImportNamespaceSpecifier ∷ shape.ExportNamedDeclaration ∷ shape.ExportSpecifier ∷ shape.ExportDefaultDeclaration ∷ shape.ExportAllDeclaration ∷ shape.Identifier ∷ shape.BindingIdentifier ∷ shape.NullLiteral ∷ shape.ThisExpression ∷ shape.Super ∷ shape.ArrayExpression ∷ shape.ObjectExpression ∷ shape.SpreadElement ∷ shape.PrivateInExpression ∷ shape.ConditionalExpression ∷ shape.SequenceExpression ∷ shape.SuperCallExpression ∷ shape.NewExpression ∷ shape.SuperStaticMemberExpression ∷ shape.SuperComputedMemberExpression ∷ shape.ChainExpression ∷ shape.TemplateLiteral ∷ shape.TaggedTemplateExpression ∷ shape.ImportExpression ∷ shape.ObjectPattern ∷ shape.ArrayPattern ∷ shape.RestElement ∷ shape.AssignmentPattern ∷ shape.ObjectAssignmentTarget ∷ shape.ArrayAssignmentTarget ∷ shape.AssignmentTargetPropertyIdentifier ∷ (shape.Class false) ∷ (shape.Class true) ∷ (shape.BooleanLiteral false) ∷ (shape.BooleanLiteral true) ∷ (shape.CallExpression false) ∷ (shape.CallExpression true) ∷ (shape.StaticMemberExpression false) ∷ (shape.StaticMemberExpression true) ∷ (shape.ComputedMemberExpression false) ∷ (shape.ComputedMemberExpression true) ∷ (shape.PrivateFieldExpression false) ∷ (shape.PrivateFieldExpression true) ∷ (shape.YieldExpression false) ∷ (shape.YieldExpression true) ∷ (shape.AssignmentTargetPropertyProperty false) ∷ (shape.AssignmentTargetPropertyProperty true) ∷ (shape.PropertyDefinition false false) ∷ (shape.PropertyDefinition false true) ∷ (shape.PropertyDefinition true false) ∷ (shape.PropertyDefinition true true) ∷ (shape.BindingProperty false false) ∷ (shape.BindingProperty false true) ∷ (shape.BindingProperty true false) ∷ (shape.BindingProperty true true) ∷ (shape.VariableDeclaration kind.Var) ∷ (shape.VariableDeclaration kind.Let) ∷ (shape.VariableDeclaration kind.Const) ∷ (shape.LogicalExpression logical.Or) ∷ (shape.LogicalExpression logical.And) ∷ (shape.LogicalExpression logical.Coalesce) ∷ (shape.MetaProperty meta.NewTarget) ∷ (shape.MetaProperty meta.ImportMeta) ∷ (shape.UnaryExpression unary.UnaryPlus) ∷ (shape.UnaryExpression unary.UnaryNegation) ∷ (shape.UnaryExpression unary.LogicalNot) ∷ (shape.UnaryExpression unary.BitwiseNot) ∷ (shape.UnaryExpression unary.Typeof) ∷ (shape.UnaryExpression unary.Void) ∷ (shape.UnaryExpression unary.Delete) ∷ (shape.UpdateExpression update.Increment false) ∷ (shape.UpdateExpression update.Increment true) ∷ (shape.UpdateExpression update.Decrement false) ∷ (shape.UpdateExpression update.Decrement true) ∷ []

of_number : (h : Shape) → (plain_number h ≡ 0 → ⊥) → get_or plain_shapes (plain_number h) shape.Absent ≡ h
unfolding plain_shapes
of_number shape.Absent n = refl
of_number shape.Listed n = refl
of_number shape.InnerExpression n = refl
of_number shape.ExpressionStatement n = refl
of_number shape.EmptyStatement n = refl
of_number shape.DebuggerStatement n = refl
of_number shape.BlockStatement n = refl
of_number shape.LabeledStatement n = refl
of_number shape.BreakStatement n = refl
of_number shape.ContinueStatement n = refl
of_number shape.ReturnStatement n = refl
of_number shape.ThrowStatement n = refl
of_number shape.IfStatement n = refl
of_number shape.SwitchStatement n = refl
of_number shape.SwitchCase n = refl
of_number shape.TryStatement n = refl
of_number shape.CatchClause n = refl
of_number shape.WhileStatement n = refl
of_number shape.DoWhileStatement n = refl
of_number shape.ForStatement n = refl
of_number shape.ForInStatement n = refl
of_number shape.ForOfStatement n = refl
of_number shape.VariableDeclarator n = refl
of_number shape.FunctionBody n = refl
of_number shape.ClassBody n = refl
of_number shape.StaticBlock n = refl
of_number shape.ImportDeclaration n = refl
of_number shape.ImportSpecifier n = refl
of_number shape.ImportDefaultSpecifier n = refl
of_number shape.ImportNamespaceSpecifier n = refl
of_number shape.ExportNamedDeclaration n = refl
of_number shape.ExportSpecifier n = refl
of_number shape.ExportDefaultDeclaration n = refl
of_number shape.ExportAllDeclaration n = refl
of_number shape.Identifier n = refl
of_number shape.BindingIdentifier n = refl
of_number shape.NullLiteral n = refl
of_number shape.ThisExpression n = refl
of_number shape.Super n = refl
of_number shape.ArrayExpression n = refl
of_number shape.ObjectExpression n = refl
of_number shape.SpreadElement n = refl
of_number shape.PrivateInExpression n = refl
of_number shape.ConditionalExpression n = refl
of_number shape.SequenceExpression n = refl
of_number shape.SuperCallExpression n = refl
of_number shape.NewExpression n = refl
of_number shape.SuperStaticMemberExpression n = refl
of_number shape.SuperComputedMemberExpression n = refl
of_number shape.ChainExpression n = refl
of_number shape.TemplateLiteral n = refl
of_number shape.TaggedTemplateExpression n = refl
of_number shape.ImportExpression n = refl
of_number shape.ObjectPattern n = refl
of_number shape.ArrayPattern n = refl
of_number shape.RestElement n = refl
of_number shape.AssignmentPattern n = refl
of_number shape.ObjectAssignmentTarget n = refl
of_number shape.ArrayAssignmentTarget n = refl
of_number shape.AssignmentTargetPropertyIdentifier n = refl
of_number (shape.Class false) n = refl
of_number (shape.Class true) n = refl
of_number (shape.BooleanLiteral false) n = refl
of_number (shape.BooleanLiteral true) n = refl
of_number (shape.CallExpression false) n = refl
of_number (shape.CallExpression true) n = refl
of_number (shape.StaticMemberExpression false) n = refl
of_number (shape.StaticMemberExpression true) n = refl
of_number (shape.ComputedMemberExpression false) n = refl
of_number (shape.ComputedMemberExpression true) n = refl
of_number (shape.PrivateFieldExpression false) n = refl
of_number (shape.PrivateFieldExpression true) n = refl
of_number (shape.YieldExpression false) n = refl
of_number (shape.YieldExpression true) n = refl
of_number (shape.AssignmentTargetPropertyProperty false) n = refl
of_number (shape.AssignmentTargetPropertyProperty true) n = refl
of_number (shape.PropertyDefinition false false) n = refl
of_number (shape.PropertyDefinition false true) n = refl
of_number (shape.PropertyDefinition true false) n = refl
of_number (shape.PropertyDefinition true true) n = refl
of_number (shape.BindingProperty false false) n = refl
of_number (shape.BindingProperty false true) n = refl
of_number (shape.BindingProperty true false) n = refl
of_number (shape.BindingProperty true true) n = refl
of_number (shape.VariableDeclaration kind.Var) n = refl
of_number (shape.VariableDeclaration kind.Let) n = refl
of_number (shape.VariableDeclaration kind.Const) n = refl
of_number (shape.LogicalExpression logical.Or) n = refl
of_number (shape.LogicalExpression logical.And) n = refl
of_number (shape.LogicalExpression logical.Coalesce) n = refl
of_number (shape.MetaProperty meta.NewTarget) n = refl
of_number (shape.MetaProperty meta.ImportMeta) n = refl
of_number (shape.UnaryExpression unary.UnaryPlus) n = refl
of_number (shape.UnaryExpression unary.UnaryNegation) n = refl
of_number (shape.UnaryExpression unary.LogicalNot) n = refl
of_number (shape.UnaryExpression unary.BitwiseNot) n = refl
of_number (shape.UnaryExpression unary.Typeof) n = refl
of_number (shape.UnaryExpression unary.Void) n = refl
of_number (shape.UnaryExpression unary.Delete) n = refl
of_number (shape.UpdateExpression update.Increment false) n = refl
of_number (shape.UpdateExpression update.Increment true) n = refl
of_number (shape.UpdateExpression update.Decrement false) n = refl
of_number (shape.UpdateExpression update.Decrement true) n = refl
of_number _ n = absurd (n refl)

pub plain_decided : (h g : Shape) → (plain_number h ≡ 0 → ⊥) → Decides (nat_eq (plain_number h) (plain_number g)) (h ≡ g)
plain_decided h g n = (
  λ e. let same = eqb-true (plain_number h) (plain_number g) e in
      sym (of_number h n) ∙ ap (λ k. get_or plain_shapes k shape.Absent) same ∙ of_number g (λ z. n (same ∙ z)),
  λ e. eq-eqb (plain_number h) (plain_number g) (ap plain_number e),
)

-- two tests that are met alike
alike : (r q : Bool) → (r ≡ true → q ≡ true) → (q ≡ true → r ≡ true) → r ≡ q
alike true q f g = sym (f refl)
alike false true f g = absurd (false≢true (g refl))
alike false false f g = refl

pub shape_told : (h g : Shape) (r : Bool) → Decides r (h ≡ g) → r ≡ same_shape h g
shape_told h g r d = alike r (same_shape h g) (λ e. subst (λ x. same_shape h x ≡ true) (d.0 e) (shape_itself h)) (λ e. d.1 (shape_same h g e))

pub names_told : (xs ys : List Name) (r : Bool) → Decides r (xs ≡ ys) → r ≡ same_names xs ys
names_told xs ys r d = alike r (same_names xs ys) (λ e. subst (λ x. same_names xs x ≡ true) (d.0 e) (names_itself xs)) (λ e. d.1 (names_same xs ys e))

-- ---- trees

mutual
  pub tree_same : SameIsEqual
  tree_same (node h xs n ts) (node g ys m us) e =
      let (root, below) = and_parts (same_shape h g && (nat_eq n m && same_names xs ys)) (same_trees ts us) e in
      let (shape, plain) = and_parts (same_shape h g) (nat_eq n m && same_names xs ys) root in
      let (number, name) = and_parts (nat_eq n m) (same_names xs ys) plain in
      λ i. node (shape_same h g shape i) (names_same xs ys name i) (eqb-true n m number i) (trees_same ts us below i)

  pub trees_same : (ts us : Trees) → same_trees ts us ≡ true → ts ≡ us
  trees_same none none e = refl
  trees_same none (u ▸ us) e = absurd (false≢true e)
  trees_same (t ▸ ts) none e = absurd (false≢true e)
  trees_same (t ▸ ts) (u ▸ us) e =
      let (first, rest) = and_parts (same_tree t u) (same_trees ts us) e in
      λ i. tree_same t u first i ▸ trees_same ts us rest i

mutual
  pub tree_itself : EachIsItself
  tree_itself (node h xs n ts) = both (same_shape h h && (nat_eq n n && same_names xs xs)) (same_trees ts ts) (both (same_shape h h) (nat_eq n n && same_names xs xs) (shape_itself h) (both (nat_eq n n) (same_names xs xs) (eq-eqb n n refl) (names_itself xs))) (trees_itself ts)

  trees_itself : (ts : Trees) → same_trees ts ts ≡ true
  trees_itself none = refl
  trees_itself (t ▸ ts) = both (same_tree t t) (same_trees ts ts) (tree_itself t) (trees_itself ts)

pub by_root : (t u : Tree) → same_tree t u ≡ same_root t u && same_trees (children t) (children u)
by_root (node h xs n ts) (node g ys m us) = refl

-- ---- texts

pub text_decided : (xs ys : List ℕ) (r : Bool) → r ≡ bytes_eq xs ys → Decides r (xs ≡ ys)
text_decided xs ys r e = search (rules, bytes_eq-Decides)

-- ---- children, one after another

pub other_counts : (ts us : Trees) → (count ts ≡ count us → ⊥) → same_trees ts us ≡ false
other_counts none none n = absurd (n refl)
other_counts none (u ▸ us) n = refl
other_counts (t ▸ ts) none n = refl
other_counts (t ▸ ts) (u ▸ us) n = ap (λ b. same_tree t u && b) (other_counts ts us (λ e. n (ap suc e))) ∙ and_none (same_tree t u)
  where
    and_none : (b : Bool) → b && false ≡ false
    and_none true = refl
    and_none false = refl

pub both_first : (ts us : Trees) → same_trees (rest_children 0 ts) (rest_children 0 us) ≡ same_trees ts us
both_first ts us = λ i. same_trees (from_first ts i) (from_first us i)

pub each_stops : (ts us : Trees) (i : ℕ) → i < count ts → i < count us → same_tree (child_or_absent ts i) (child_or_absent us i) ≡ false → same_trees (rest_children i ts) (rest_children i us) ≡ same_trees ts us → false ≡ same_trees ts us
each_stops ts us i h k e inv =
    sym (ap (λ b. b && same_trees (rest_children (suc i) ts) (rest_children (suc i) us)) e)
    ∙ sym (λ j. same_trees (next_child ts i h j) (next_child us i k j)) ∙ inv

pub each_goes_on : (ts us : Trees) (i : ℕ) → i < count ts → i < count us → same_tree (child_or_absent ts i) (child_or_absent us i) ≡ true → same_trees (rest_children i ts) (rest_children i us) ≡ same_trees ts us → same_trees (rest_children (i + 1) ts) (rest_children (i + 1) us) ≡ same_trees ts us
each_goes_on ts us i h k e inv =
    let next : i + 1 ≡ suc i = omega arith in
    (λ j. same_trees (rest_children (next j) ts) (rest_children (next j) us))
    ∙ sym (ap (λ b. b && same_trees (rest_children (suc i) ts) (rest_children (suc i) us)) e)
    ∙ sym (λ j. same_trees (next_child ts i h j) (next_child us i k j)) ∙ inv

pub each_ends : (ts us : Trees) (i : ℕ) → count ts ≤ i → count us ≤ i → same_trees (rest_children i ts) (rest_children i us) ≡ same_trees ts us → true ≡ same_trees ts us
each_ends ts us i h k inv = sym (λ j. same_trees (no_rest ts i h j) (no_rest us i k j)) ∙ inv
