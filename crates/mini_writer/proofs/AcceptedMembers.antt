-- Calls and members come back, where smaller trees do.
use Rattle.std.proofs.Common.{◌≡◌, ℕ, suc, List, [], ◌∷◌, refl, ap, ◌∙◌, Bool, true, false, ◌||◌}
use Rattle.std.specs.Prelude.{codes, not, if◌then◌else◌, Some}
use Rattle.std.proofs.lemmas.Bool.{false≢true, true≢false}
use Rattle.serde_json.specs.Data.{Data, array}
use Rattle.serde_json.specs.Find.{get}
use Rattle.mini_model.specs.declared.shape.Shape.TheVariants as shape
use Rattle.mini_model.specs.Tree.{Tree, Trees, none, ◌▸◌}
use Rattle.mini_accept.specs.WellShaped as shaped
use Rattle.mini_accept.specs.WellShaped.{Class, these}
use Rattle.mini_accept.specs.declared.kind.Kind.TheVariants as kind
use Rattle.mini_accept.specs.Places.{at, field}
use Rattle.mini_accept.specs.Fields.{has_type}
use Rattle.mini_accept.specs.Standing.{stands_as}
use Rattle.mini_accept.specs.Plans as plans
use Rattle.mini_accept.specs.Plans.{Part, tree_at, inner_at, one}
use Rattle.mini_accept.specs.Expressions as table
use Rattle.mini_accept.specs.Expressions.{is_link}
use Rattle.mini_writer.specs.Objects as objects
use Rattle.mini_writer.specs.Written.{tree_data, trees_data}
use Rattle.mini_writer.proofs.Read.{ChildBack, no_children, ◌&◌, plain_back}
use Rattle.mini_writer.proofs.Fitting.{Fit, Filled, with_two, with_list}
use Rattle.mini_writer.proofs.Slots.{Back, child_back, each_back, fit_apart, fit_stands}
use Rattle.mini_writer.proofs.Entry.{require_is, then_is, else_is}
use Rattle.mini_writer.proofs.Statements.{Comes}
use Rattle.mini_writer.proofs.Expressions.{link_of}

flipped : (b : Bool) (x y : Part) → (if not b then x else y) ≡ (if b then y else x)
flipped true x y = refl
flipped false x y = refl

module _ (k : ℕ) (back : Back k) (strict : Bool) where
  -- ---- the link below

  link_by : (b linked : Bool) → b ≡ linked → (d : Data) (a : Tree) → Fit k strict (shaped.one (link_of linked)) a → (key : List ℕ) → get key d ≡ Some (tree_data a) → ChildBack (suc (suc k)) strict d (one (tree_at (field key) (at (if b then shaped.a_link else shaped.an_expression)))) (a ▸ none)
  link_by true true e d a f key there = child_back k back strict d shaped.a_link a refl f key there
  link_by false false e d a f key there = child_back k back strict d shaped.an_expression a refl f key there
  link_by true false e d a f key there = absurd (true≢false e)
  link_by false true e d a f key there = absurd (false≢true e)

  inner_by : (b linked : Bool) → b ≡ linked → (d : Data) (a : Tree) → Fit k strict (shaped.one (shaped.an_inner (link_of linked))) a → (key : List ℕ) → get key d ≡ Some (tree_data a) → ChildBack (suc (suc k)) strict d (one (inner_at (field key) (at (if b then shaped.a_link else shaped.an_expression)))) (a ▸ none)
  inner_by true true e d a f key there = child_back k back strict d (shaped.an_inner shaped.a_link) a refl f key there
  inner_by false false e d a f key there = child_back k back strict d (shaped.an_inner shaped.an_expression) a refl f key there
  inner_by true false e d a f key there = absurd (true≢false e)
  inner_by false true e d a f key there = absurd (false≢true e)

  no_super : (linked : Bool) (a : Tree) → Fit k strict (shaped.one (link_of linked)) a → has_type (codes "Super") (tree_data a) ≡ false
  no_super true a f = fit_apart k back strict shaped.a_link a (codes "Super") refl f refl refl
  no_super false a f = fit_apart k back strict shaped.an_expression a (codes "Super") refl f refl refl

  no_inner_super : (linked : Bool) (a : Tree) → Fit k strict (shaped.one (shaped.an_inner (link_of linked))) a → has_type (codes "Super") (tree_data a) ≡ false
  no_inner_super true a f = fit_apart k back strict (shaped.an_inner shaped.a_link) a (codes "Super") refl f refl refl
  no_inner_super false a f = fit_apart k back strict (shaped.an_inner shaped.an_expression) a (codes "Super") refl f refl refl

  module _ (c : Class) where
    -- ---- `super`

    pub super_call : ((callee arguments : Data) → stands_as c (objects.call_expression false callee arguments) ≡ true) → (ts : Trees) → Filled k strict (these (shaped.one shaped.a_super ∷ shaped.many shaped.an_inner_argument ∷ [])) ts → Comes k strict c shape.SuperCallExpression ts
    super_call stands = with_two k strict (shaped.one shaped.a_super) (shaped.many shaped.an_inner_argument) (Comes k strict c shape.SuperCallExpression)
        (λ a b f. with_list k strict (shaped.many shaped.an_inner_argument) (λ u. Comes k strict c shape.SuperCallExpression (a ▸ u ▸ none)) refl
        (λ l ts w m n. plain_back (suc (suc k)) strict c _ kind.CallExpression shape.SuperCallExpression _ m _ refl (stands (tree_data a) (array (trees_data ts))) refl
        (then_is (has_type (codes "Super") (tree_data a)) _ _ _ (fit_stands k back strict shaped.a_super a refl f).stands refl)
        (child_back k back strict _ shaped.a_super a refl f (codes "callee") refl & each_back k back strict _ shaped.an_inner_argument table.inner_argument (codes "arguments") l ts refl (λ last e s. flipped (has_type (codes "SpreadElement") e) _ _) refl w & no_children) n) b)

    pub super_static : ((base key : Data) → stands_as c (objects.member_expression false false base key) ≡ true) → (ts : Trees) → Filled k strict (these (shaped.one shaped.a_super ∷ shaped.one shaped.a_label ∷ [])) ts → Comes k strict c shape.SuperStaticMemberExpression ts
    super_static stands = with_two k strict (shaped.one shaped.a_super) (shaped.one shaped.a_label) (Comes k strict c shape.SuperStaticMemberExpression)
        (λ a b f g m n. plain_back (suc (suc k)) strict c _ kind.MemberExpression shape.SuperStaticMemberExpression _ m _ refl (stands (tree_data a) (tree_data b)) refl
        (then_is (has_type (codes "Super") (tree_data a)) _ _ _ (fit_stands k back strict shaped.a_super a refl f).stands refl)
        (child_back k back strict _ shaped.a_super a refl f (codes "object") refl & child_back k back strict _ shaped.a_label b refl g (codes "property") refl & no_children) n)

    pub super_computed : ((base key : Data) → stands_as c (objects.member_expression true false base key) ≡ true) → (ts : Trees) → Filled k strict (these (shaped.one shaped.a_super ∷ shaped.one (shaped.an_inner shaped.an_expression) ∷ [])) ts → Comes k strict c shape.SuperComputedMemberExpression ts
    super_computed stands = with_two k strict (shaped.one shaped.a_super) (shaped.one (shaped.an_inner shaped.an_expression)) (Comes k strict c shape.SuperComputedMemberExpression)
        (λ a b f g m n. plain_back (suc (suc k)) strict c _ kind.MemberExpression shape.SuperComputedMemberExpression _ m _ refl (stands (tree_data a) (tree_data b)) refl
        (then_is (has_type (codes "Super") (tree_data a)) _ _ _ (fit_stands k back strict shaped.a_super a refl f).stands refl)
        (child_back k back strict _ shaped.a_super a refl f (codes "object") refl & child_back k back strict _ (shaped.an_inner shaped.an_expression) b refl g (codes "property") refl & no_children) n)

    -- ---- links

    module _ (linked : Bool) (link : is_link (at c) ≡ linked) (optional : Bool) (allowed : (not optional || linked) ≡ true) where
      permitted : (not optional || is_link (at c)) ≡ true
      permitted = ap (λ b. not optional || b) link ∙ allowed

      pub call : ((callee arguments : Data) → stands_as c (objects.call_expression optional callee arguments) ≡ true) → (ts : Trees) → Filled k strict (these (shaped.one (link_of linked) ∷ shaped.many shaped.an_argument ∷ [])) ts → Comes k strict c (shape.CallExpression optional) ts
      call stands = with_two k strict (shaped.one (link_of linked)) (shaped.many shaped.an_argument) (Comes k strict c (shape.CallExpression optional))
          (λ a b f. with_list k strict (shaped.many shaped.an_argument) (λ u. Comes k strict c (shape.CallExpression optional) (a ▸ u ▸ none)) refl
          (λ l ts w m n. plain_back (suc (suc k)) strict c _ kind.CallExpression (shape.CallExpression optional) _ m _ refl (stands (tree_data a) (array (trees_data ts))) refl
          (else_is (has_type (codes "Super") (tree_data a)) _ _ _ (no_super linked a f) (require_is (not optional || is_link (at c)) _ _ permitted refl))
          (link_by (is_link (at c)) linked link _ a f (codes "callee") refl & each_back k back strict _ shaped.an_argument (plans.each shaped.an_argument) (codes "arguments") l ts refl (λ last e s. refl) refl w & no_children) n) b)

      pub static_member : ((base key : Data) → stands_as c (objects.member_expression false optional base key) ≡ true) → (ts : Trees) → Filled k strict (these (shaped.one (link_of linked) ∷ shaped.one shaped.a_label ∷ [])) ts → Comes k strict c (shape.StaticMemberExpression optional) ts
      static_member stands = with_two k strict (shaped.one (link_of linked)) (shaped.one shaped.a_label) (Comes k strict c (shape.StaticMemberExpression optional))
          (λ a b f g m n. plain_back (suc (suc k)) strict c _ kind.MemberExpression (shape.StaticMemberExpression optional) _ m _ refl (stands (tree_data a) (tree_data b)) refl
          (else_is (has_type (codes "Super") (tree_data a)) _ _ _ (no_super linked a f) (require_is (not optional || is_link (at c)) _ _ permitted
          (else_is (has_type (codes "PrivateIdentifier") (tree_data b)) _ _ _ (fit_apart k back strict shaped.a_label b (codes "PrivateIdentifier") refl g refl refl) refl)))
          (link_by (is_link (at c)) linked link _ a f (codes "object") refl & child_back k back strict _ shaped.a_label b refl g (codes "property") refl & no_children) n)

      pub computed_member : ((base key : Data) → stands_as c (objects.member_expression true optional base key) ≡ true) → (ts : Trees) → Filled k strict (these (shaped.one (link_of linked) ∷ shaped.one shaped.an_expression ∷ [])) ts → Comes k strict c (shape.ComputedMemberExpression optional) ts
      computed_member stands = with_two k strict (shaped.one (link_of linked)) (shaped.one shaped.an_expression) (Comes k strict c (shape.ComputedMemberExpression optional))
          (λ a b f g m n. plain_back (suc (suc k)) strict c _ kind.MemberExpression (shape.ComputedMemberExpression optional) _ m _ refl (stands (tree_data a) (tree_data b)) refl
          (else_is (has_type (codes "Super") (tree_data a)) _ _ _ (no_super linked a f) (require_is (not optional || is_link (at c)) _ _ permitted refl))
          (link_by (is_link (at c)) linked link _ a f (codes "object") refl & child_back k back strict _ shaped.an_expression b refl g (codes "property") refl & no_children) n)

      pub private_field : ((base key : Data) → stands_as c (objects.member_expression false optional base key) ≡ true) → (ts : Trees) → Filled k strict (these (shaped.one (shaped.an_inner (link_of linked)) ∷ shaped.one shaped.a_private_name ∷ [])) ts → Comes k strict c (shape.PrivateFieldExpression optional) ts
      private_field stands = with_two k strict (shaped.one (shaped.an_inner (link_of linked))) (shaped.one shaped.a_private_name) (Comes k strict c (shape.PrivateFieldExpression optional))
          (λ a b f g m n. plain_back (suc (suc k)) strict c _ kind.MemberExpression (shape.PrivateFieldExpression optional) _ m _ refl (stands (tree_data a) (tree_data b)) refl
          (else_is (has_type (codes "Super") (tree_data a)) _ _ _ (no_inner_super linked a f) (require_is (not optional || is_link (at c)) _ _ permitted
          (then_is (has_type (codes "PrivateIdentifier") (tree_data b)) _ _ _ (fit_stands k back strict shaped.a_private_name b refl g).stands refl)))
          (inner_by (is_link (at c)) linked link _ a f (codes "object") refl & child_back k back strict _ shaped.a_private_name b refl g (codes "property") refl & no_children) n)
