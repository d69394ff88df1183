-- The code's test is that of `may_go`.
use Rattle.std.proofs.Common.{◌≡◌, ℕ, zero, suc, Bool, true, false, List, [], ◌∷◌, ◌++◌, Some, None, refl, sym, ap, ◌∙◌}
use Rattle.std.specs.Prelude.{not, ◌&&◌, map}
use Rattle.std.specs.List.{list_any}
use Rattle.mini_model.specs.declared.name.Name.{Name}
use Rattle.mini_model.specs.declared.shape.Shape.{Shape}
use Rattle.mini_model.specs.declared.shape.Shape.TheVariants as shape
use Rattle.mini_model.specs.Tree.{Tree, Trees, node, none, ◌▸◌, children, child_or_absent, shape_of, absent}
use Rattle.mini_model.specs.Paths.{child_at}
use Rattle.mini_node.specs.Children.{names_of, rest_children}
use Rattle.mini_node.specs.Walks.{from_first}
use Rattle.mini_laws.specs.declared.names.Use.{Use}
use Rattle.mini_laws.specs.declared.names.Use.TheVariants.{Read}
use Rattle.mini_laws.specs.Scopes.{use_of}
use Rattle.mini_laws.specs.References.{Reference, references, references_from, own_references}
use Rattle.mini_dead.specs.Pruned.{Spot, Role, StatementList, DeclaratorList, role, spot_below, initializer_tree, Declarator, declarator, declarator_tree, declarator_trees, Item, function_item, declaration_item, lone_item, item_tree}
use Rattle.mini_dead.specs.Dead.{has_name}
use Rattle.mini_dead.specs.Drops.{round_of, item_count}
use Rattle.mini_dead.specs.Marked.{Mark, no_item, an_item, a_declarator, mark, refers_later, declarator_may_go, declarators_may_go, item_may_go, mark_may_go, may_go, all_may_go}
use Rattle.mini_dead.proofs.Marking.{MarkStands, mark_stands}
use Rattle.mini_drop.specs.Going.{name_later, names_later, own_later, later_in, all_later, declarator_later, declarators_later, part_later, part_may_go, part_goes}
use Rattle.mini_drop.proofs.Told.{mark_count, items_told}
use Rattle.mini_drop.proofs.Every.{Every}

step : (a b c : Bool) → ((a && b) && c) ≡ (a && (b && c))
step true b c = refl
step false b c = refl

some_is : (t u : Tree) → Some t ≡ Some u → t ≡ u
some_is t u e = cc

none_is : (t : Tree) → None ≡ Some t → ⊥
none_is t e = cc

pub got_child : (ts : Trees) (i : ℕ) (t : Tree) → Some t ≡ child_at ts i → t ≡ child_or_absent ts i
got_child none i t e = absurd (none_is t (sym e))
got_child (u ▸ ts) zero t e = some_is t u e
got_child (u ▸ ts) (suc i) t e = got_child ts i t e

pub got_none : (ts : Trees) (i : ℕ) → None ≡ child_at ts i → absent ≡ child_or_absent ts i
got_none none i e = refl
got_none (u ▸ ts) zero e = absurd (none_is u e)
got_none (u ▸ ts) (suc i) e = got_none ts i e

module _ (S : ℕ → Bool) (R : ℕ → ℕ) where
  both_later : (k : ℕ) (rs qs : List Reference) → refers_later S R k (rs ++ qs) ≡ (refers_later S R k rs && refers_later S R k qs)
  both_later k [] qs = refl
  both_later k (r ∷ rs) qs = ap (λ b. name_later S R k r.name && b) (both_later k rs qs) ∙ sym (step (name_later S R k r.name) (refers_later S R k rs) (refers_later S R k qs))

  mapped_later : (k : ℕ) (u : Use) (xs : List Name) → refers_later S R k (map (λ x. record { name = x; used = u }) xs) ≡ names_later S R k xs
  mapped_later k u [] = refl
  mapped_later k u (x ∷ xs) = ap (λ b. name_later S R k x && b) (mapped_later k u xs)

  own_is : (k : ℕ) (u : Use) (h : Shape) (xs : List Name) → refers_later S R k (own_references u h xs) ≡ own_later S R k h xs
  own_is k u shape.Identifier xs = mapped_later k u xs
  own_is k u h xs = refl

  mutual
    unfolding references

    later_is : (k : ℕ) (u : Use) (t : Tree) → refers_later S R k (references u t) ≡ later_in S R k t
    later_is k u (node h xs n ts) =
        both_later k (own_references u h xs) (references_from (use_of h u) 0 ts)
        ∙ ap (λ b. b && refers_later S R k (references_from (use_of h u) 0 ts)) (own_is k u h xs)
        ∙ ap (λ b. own_later S R k h xs && b) (all_later_is k (use_of h u) 0 ts)

    all_later_is : (k : ℕ) (us : ℕ → Use) (i : ℕ) (ts : Trees) → refers_later S R k (references_from us i ts) ≡ all_later S R k ts
    all_later_is k us i none = refl
    all_later_is k us i (t ▸ ts) =
        both_later k (references (us i) t) (references_from us (suc i) ts)
        ∙ ap (λ b. b && refers_later S R k (references_from us (suc i) ts)) (later_is k (us i) t)
        ∙ ap (λ b. later_in S R k t && b) (all_later_is k us (suc i) ts)

  declarator_is : (c : Declarator) → declarator_may_go S R c ≡ declarator_later S R (declarator_tree c)
  declarator_is (declarator n x m init) = later_is (round_of R x) Read (initializer_tree init)

  declarators_are : (cs : List Declarator) → declarators_may_go S R cs ≡ declarators_later S R (declarator_trees cs)
  declarators_are [] = refl
  declarators_are (c ∷ cs) = ap (λ b. b && declarators_may_go S R cs) (declarator_is c) ∙ ap (λ b. declarator_later S R (declarator_tree c) && b) (declarators_are cs)

  item_is : (i : Item) → item_may_go S R i ≡ part_later S R StatementList (item_tree i)
  item_is (function_item g ds xs n x m ts) = all_later_is (round_of R x) (λ i. Read) 0 ts ∙ ap (all_later S R (round_of R x)) (sym (from_first ts))
  item_is (declaration_item k xs n ys m c cs) = declarators_are (c ∷ cs)
  item_is (lone_item xs n f) = refl

  counted_goes : (i : Item) (b g : Bool) → g ≡ part_may_go S R (item_count i) b g
  counted_goes (function_item gen ds xs n x m ts) b g = refl
  counted_goes (declaration_item k xs n ys m c cs) b g = refl
  counted_goes (lone_item xs n f) b g = refl

  part_by : (r : Role) (t : Tree) (b : Bool) (m : Mark) → MarkStands S r m t → mark_may_go S R m b ≡ part_may_go S R (mark_count m) b (part_later S R r t)
  part_by r t b no_item w = refl
  part_by StatementList t b (an_item i) w = item_is i ∙ ap (part_later S R StatementList) w.1.same ∙ counted_goes i b (part_later S R StatementList t)
  part_by r t b (an_item i) w = absurd w.0
  part_by (DeclaratorList lexical) t b (a_declarator c) w = declarator_is c ∙ ap (declarator_later S R) w.1.same
  part_by r t b (a_declarator c) w = absurd w.0

  part_is : (r : Role) (i : ℕ) (t : Tree) → mark_may_go S R (mark S r t) (may_go S R (spot_below r i) t) ≡ part_goes S R r i t
  part_is r i t =
      part_by r t (may_go S R (spot_below r i) t) (mark S r t) (mark_stands S r t)
      ∙ ap (λ n. part_may_go S R n (may_go S R (spot_below r i) t) (part_later S R r t)) (sym (items_told S r t))

  pub parts_every : (r : Role) → Every (part_goes S R r) (all_may_go S R r)
  unfolding may_go
  parts_every r = record { at_none = λ i. refl; at_more = λ i t ts. ap (λ b. b && all_may_go S R r (suc i) ts) (part_is r i t) }

  pub later_every : (k : ℕ) → Every (λ i t. later_in S R k t) (λ i ts. all_later S R k ts)
  later_every k = record { at_none = λ i. refl; at_more = λ i t ts. refl }

  pub declarators_every : Every (λ i t. declarator_later S R t) (λ i ts. declarators_later S R ts)
  declarators_every = record { at_none = λ i. refl; at_more = λ i t ts. refl }

  pub node_is : (k : ℕ) (t : Tree) (h : Shape) (xs : List Name) (ts : Trees) → h ≡ shape_of t → xs ≡ names_of t → ts ≡ children t → (own_later S R k h xs && all_later S R k (rest_children 0 ts)) ≡ later_in S R k t
  node_is k (node h ys n us) h' xs ts e f g =
      ap (λ c. own_later S R k c xs && all_later S R k (rest_children 0 ts)) e
      ∙ ap (λ c. own_later S R k h c && all_later S R k (rest_children 0 ts)) f
      ∙ ap (λ c. own_later S R k h ys && all_later S R k c) (from_first ts ∙ g)

  pub whole_is : (p : Spot) (t : Tree) (h : Shape) (xs : List Name) (r : Role) (ts : Trees) → xs ≡ names_of t → r ≡ role h p → h ≡ shape_of t → ts ≡ children t → (not (list_any (has_name S) xs) && all_may_go S R r 0 (rest_children 0 ts)) ≡ may_go S R p t
  unfolding may_go
  whole_is p (node h ys n us) h' xs r ts e f g i =
      ap (λ c. not (list_any (has_name S) c) && all_may_go S R r 0 (rest_children 0 ts)) e
      ∙ ap (λ c. not (list_any (has_name S) ys) && all_may_go S R c 0 (rest_children 0 ts)) (f ∙ ap (λ k. role k p) g)
      ∙ ap (λ c. not (list_any (has_name S) ys) && all_may_go S R (role h p) 0 c) (from_first ts ∙ i)
