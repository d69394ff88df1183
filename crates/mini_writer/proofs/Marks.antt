-- What is written for a chain has the mark that its tree has, and comes back.
use Rattle.std.proofs.Common.{◌≡◌, ℕ, zero, suc, ◌+◌, ◌≤◌, List, [], ◌∷◌, refl, arith, Bool, true, false, ◌||◌}
use Rattle.std.specs.Prelude.{codes}
use Rattle.std.proofs.lemmas.Bool.{false≢true}
use Rattle.mini_model.specs.declared.name.Name.{Name}
use Rattle.mini_model.specs.declared.shape.Shape.{Shape}
use Rattle.mini_model.specs.declared.shape.Shape.TheVariants as shape
use Rattle.mini_model.specs.Tree.{Tree, node, Trees, node_counts}
use Rattle.mini_accept.specs.WellShaped as shaped
use Rattle.mini_accept.specs.WellShaped.{Class, these, filling_by, expression_slots, is_strict_in, has_optional, has_optional_by}
use Rattle.mini_accept.specs.declared.kind.Kind.TheVariants as kind
use Rattle.mini_accept.specs.Expressions.{has_mark}
use Rattle.mini_writer.specs.Written.{tree_data, trees_data, node_data}
use Rattle.mini_writer.proofs.Read.{no_children, ◌&◌, plain_back}
use Rattle.mini_writer.proofs.Fitting.{Fit, Filled, node_fits, with_one, with_two, with_inner, unless_filled}
use Rattle.mini_writer.proofs.Slots.{Back, child_back}
use Rattle.mini_writer.proofs.Entry.{require_is}
use Rattle.mini_writer.proofs.Statements.{Comes}
use Rattle.mini_writer.proofs.Expressions.{Expressive}

either : (b x y : Bool) → (x ≡ true → y ≡ true) → (b || x) ≡ true → (b || y) ≡ true
either true x y f e = refl
either false x y f e = f e

Marked : Tree → Type 0
Marked t = has_optional t ≡ true → has_mark (tree_data t) ≡ true

-- the links of a chain, where those below are marked as their trees are
module _ (k : ℕ) (strict : Bool) (below : (t : Tree) → Fit k strict (shaped.one shaped.a_link) t → Marked t) where
  inner_marked : (t : Tree) → Fit k strict (shaped.one (shaped.an_inner shaped.a_link)) t → Marked t
  unfolding Marked
  inner_marked t = with_inner k strict shaped.a_link Marked (λ n u f. below u f) t

  link_marked : (h : Shape) (xs : List Name) (ts : Trees) → Filled k (is_strict_in strict h) (filling_by (expression_slots shaped.a_link h)) ts → has_optional_by h ts ≡ true → has_mark (node_data h xs (trees_data ts)) ≡ true
  unfolding Marked
  link_marked (shape.CallExpression b) xs ts = with_two k strict (shaped.one shaped.a_link) (shaped.many shaped.an_argument) (λ us. has_optional_by (shape.CallExpression b) us ≡ true → has_mark (node_data (shape.CallExpression b) xs (trees_data us)) ≡ true)
      (λ a l f g e. either b (has_optional a) (has_mark (tree_data a)) (below a f) e) ts
  link_marked (shape.StaticMemberExpression b) xs ts = with_two k strict (shaped.one shaped.a_link) (shaped.one shaped.a_label) (λ us. has_optional_by (shape.StaticMemberExpression b) us ≡ true → has_mark (node_data (shape.StaticMemberExpression b) xs (trees_data us)) ≡ true)
      (λ a l f g e. either b (has_optional a) (has_mark (tree_data a)) (below a f) e) ts
  link_marked (shape.ComputedMemberExpression b) xs ts = with_two k strict (shaped.one shaped.a_link) (shaped.one shaped.an_expression) (λ us. has_optional_by (shape.ComputedMemberExpression b) us ≡ true → has_mark (node_data (shape.ComputedMemberExpression b) xs (trees_data us)) ≡ true)
      (λ a l f g e. either b (has_optional a) (has_mark (tree_data a)) (below a f) e) ts
  link_marked (shape.PrivateFieldExpression b) xs ts = with_two k strict (shaped.one (shaped.an_inner shaped.a_link)) (shaped.one shaped.a_private_name) (λ us. has_optional_by (shape.PrivateFieldExpression b) us ≡ true → has_mark (node_data (shape.PrivateFieldExpression b) xs (trees_data us)) ≡ true)
      (λ a l f g e. either b (has_optional a) (has_mark (tree_data a)) (inner_marked a f) e) ts
  link_marked shape.InnerExpression xs ts = λ w e. absurd (false≢true w.fills)
  link_marked h xs ts = λ w e. absurd (false≢true e)

marked : (k : ℕ) (strict : Bool) (t : Tree) → Fit k strict (shaped.one shaped.a_link) t → Marked t
unfolding Marked
marked zero strict (node h xs n ts) f e = absurd (let small : 1 + node_counts ts ≤ 0 = f.small in omega arith)
marked (suc k) strict (node h xs n ts) f e = link_marked k strict (marked k strict) h xs ts (node_fits k strict shaped.a_link h xs n ts f).filled e

chain_marked : (k : ℕ) (strict : Bool) (t : Tree) → Fit k strict (shaped.one shaped.a_chain) t → has_optional t ≡ true → has_mark (tree_data t) ≡ true
chain_marked zero strict (node h xs n ts) f e = absurd (let small : 1 + node_counts ts ≤ 0 = f.small in omega arith)
chain_marked (suc k) strict (node h xs n ts) f e =
    link_marked k strict (marked k strict) h xs ts (unless_filled k (is_strict_in strict h) _ _ ts (node_fits k strict shaped.a_chain h xs n ts f).filled).1 e

module _ (k : ℕ) (back : Back k) (strict : Bool) (c : Class) (linked : Bool) (x : Expressive c linked) where
  pub chain : (ts : Trees) → Filled k strict (these (shaped.one shaped.a_chain ∷ [])) ts → has_optional (shaped.first_item ts) ≡ true → Comes k strict c shape.ChainExpression ts
  chain = with_one k strict (shaped.one shaped.a_chain) (λ ts. has_optional (shaped.first_item ts) ≡ true → Comes k strict c shape.ChainExpression ts)
      (λ a f e m n. plain_back (suc (suc k)) strict c _ kind.ChainExpression shape.ChainExpression _ m _ refl (x.stands _ refl) refl
      (require_is (has_mark (tree_data a)) _ _ (chain_marked k strict a f e) refl)
      (child_back k back strict _ shaped.a_chain a refl f (codes "expression") refl & no_children) n)
