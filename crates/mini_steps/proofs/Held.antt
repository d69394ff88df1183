-- What a call comes to at the list of statements that a node holds.
use Rattle.std.specs.Prelude.{ℕ, ◌≡◌, ◌<◌, ◌≤◌, refl, Bool, true, false, Option, Some, None}
use Rattle.std.proofs.Common.{sym, ap, ◌∙◌, subst, arith}
use Rattle.std.proofs.lemmas.Option.{same_Some, none-some}
use Rattle.mini_model.specs.declared.place.Position.{Position}
use Rattle.mini_model.specs.declared.place.Position.TheVariants.{Stmt, StatementList, BodyList, Elsewhere}
use Rattle.mini_model.specs.declared.seat.StmtSeat.{StmtSeat}
use Rattle.mini_model.specs.declared.shape.Shape.{Shape}
use Rattle.mini_model.specs.Rewriting.{Reaches}
use Rattle.mini_model.specs.Rewriting as rewriting
use Rattle.mini_model.specs.Tree.{Tree, Trees, node, count, children, shape_of, child_or_absent}
use Rattle.mini_laws.specs.Value.{VariableSet}
use Rattle.mini_node.specs.Children.{part, with_part, with_child}
use Rattle.mini_node.specs.Lends.{with_children}
use Rattle.mini_node.specs.Walks.{with_same}
use Rattle.mini_rows.specs.Lists.{ListRow, ListContracts}
use Rattle.mini_rows.specs.Switches.{Switches}
use Rattle.mini_tree.specs.Rule.{Moves}
use Rattle.mini_stmt.specs.MinimizeStatements.{MinimizesList}
use Rattle.mini_steps.specs.declared.names.RuleName.{RuleName}
use Rattle.mini_steps.specs.declared.names.RuleName.TheVariants as name
use Rattle.mini_steps.specs.Called.{Relation, Called}
use Rattle.mini_steps.specs.ListCalled.{ListCalled, in_list, no_list}
use Rattle.mini_steps.specs.Rows.{HeldListRow, list_index, CallRow, CallRows}
use Rattle.mini_steps.specs.Steps.{place_in}
use Rattle.mini_steps.proofs.Families.{list_stands}
use Rattle.mini_steps.proofs.Following.{step_at, steps_at, step_more, reaches_more}

same_part : (t : Tree) (k : ℕ) → with_part t k (part t k) ≡ t
same_part (node h xs n ts) k = ap (node h xs n) (with_same ts k)

-- steps of a child, and at least one, are steps of the node
lifted : (R : Relation) (p : Position) (t v : Tree) (k : ℕ) → k < count (children t) → Moves R (place_in p t k) (part t k) v → Moves R p t (with_part t k v)
lifted R p (node h xs n ts) v k l m = record {
  next = node h xs n (with_child ts k m.next);
  step = subst (λ us. rewriting.Step R p (node h xs n us) (node h xs n (with_child ts k m.next))) (with_same ts k) (step_at R p h xs n ts k (child_or_absent ts k) m.next l m.step);
  others = steps_at R p h xs n ts k refl l m.others;
}

module _ (o : Switches) (W : VariableSet) where
  abbrev Rows : Relation
  Rows = CallRows o W name.MinimizeStatements

  of_lists : (p : Position) (n w : Tree) → ListContracts o p n w → Rows p n w
  of_lists StatementList n w c = record { row = c.row; lighter = c.lighter }
  of_lists BodyList n w c = record { row = c.row; lighter = c.lighter }
  of_lists _ n w c = absurd c.row

  moved : (p : Position) (t u : Tree) → Moves (ListContracts o) p t u → Moves Rows p t u
  moved p t u m = record { next = m.next; step = step_more (ListContracts o) Rows of_lists m.step; others = reaches_more (ListContracts o) Rows of_lists m.others }

  module _ (p : Position) (t : Tree) (of_holder : (w : Tree) → CallRow o W name.MinimizeStatements p t w → HeldListRow o t w) where
    in_the_list : (k : ℕ) (v : Tree) (b : Bool) → list_index (shape_of t) ≡ Some k → k < count (children t) → MinimizesList o (part t k) v b → Called Rows p t (with_part t k v) b
    in_the_list k v true e l m =
        lifted Rows p t v k l (subst (λ s. Moves Rows s (part t k) v) (sym (list_stands (shape_of t) p (count (children t)) k e)) (moved StatementList (part t k) v m))
    in_the_list k v false e l m = (
      ap (with_part t k) m.0 ∙ same_part t k,
      λ small w c.
          let r = of_holder w c.row in
          let same : r.at ≡ k = same_Some r.at k (sym r.holds ∙ e) in
          m.1 r.list (subst (λ i. ListRow o StatementList (part t i) r.list) same r.row),
    )

    held : (u : Tree) (b : Bool) → ListCalled o t u b → Called Rows p t u b
    held _ _ (in_list k v b e l m) = in_the_list k v b e l m
    held _ _ (no_list f) = (refl, λ small w c. (let r = of_holder w c.row in absurd (omega (arith, r.there, f r.at r.holds))))

  pub held_statement : (r : RuleName) (q : StmtSeat) (t u : Tree) → r ≡ name.MinimizeStatements → (b : Bool) → ListCalled o t u b → Called (CallRows o W r) (Stmt q) t u b
  held_statement r q t u e b m = subst (λ x. Called (CallRows o W x) (Stmt q) t u b) (sym e) (held (Stmt q) t (λ w row. row) u b m)

  pub held_part : (r : RuleName) (t u : Tree) → r ≡ name.MinimizeStatements → (b : Bool) → ListCalled o t u b → Called (CallRows o W r) Elsewhere t u b
  held_part r t u e b m = subst (λ x. Called (CallRows o W x) Elsewhere t u b) (sym e) (held Elsewhere t (λ w row. row) u b m)

edited : (t : Tree) (k : ℕ) (u : Tree) → with_children t (with_child (children t) k u) ≡ with_part t k u
edited (node h xs n ts) k u = refl

-- as code finds the list
pub found_list : (o : Switches) (t : Tree) (i : ℕ) (h : Shape) (n : ℕ) (ts : Trees) (c v : Tree) (b : Bool) → h ≡ shape_of t → list_index h ≡ Some i → n ≡ count (children t) → i < n → ts ≡ children t → c ≡ child_or_absent ts i → MinimizesList o c v b → ListCalled o t (with_children t (with_child ts i v)) b
found_list o t i h n ts c v b shaped holds counted inside list child m =
    let there : c ≡ part t i = child ∙ ap (λ vs. child_or_absent vs i) list in
    let whole : ListCalled o t (with_part t i v) b = in_list i v b (ap list_index (sym shaped) ∙ holds) (subst (λ k. i < k) counted inside) (subst (λ x. MinimizesList o x v b) there m) in
    subst (λ vs. ListCalled o t (with_children t (with_child vs i v)) b) (sym list) (subst (λ x. ListCalled o t x b) (sym (edited t i v)) whole)

pub none_held : (o : Switches) (t : Tree) (h : Shape) (r : Option ℕ) → h ≡ shape_of t → r ≡ list_index h → r ≡ None → ListCalled o t t false
none_held o t h r shaped told none = no_list (λ k e. absurd (none-some k (sym none ∙ told ∙ ap list_index shaped ∙ e)))

pub past_list : (o : Switches) (t : Tree) (h : Shape) (r : Option ℕ) (i n : ℕ) → h ≡ shape_of t → r ≡ list_index h → r ≡ Some i → n ≡ count (children t) → n ≤ i → ListCalled o t t false
past_list o t h r i n shaped told is counted past = no_list (λ k e. (let same : i ≡ k = same_Some i k (sym is ∙ told ∙ ap list_index shaped ∙ e) in omega (arith, same, counted, past)))

pub list_is : (h : Shape) (r : Option ℕ) (i : ℕ) → r ≡ list_index h → r ≡ Some i → list_index h ≡ Some i
list_is h r i told is = sym told ∙ is
