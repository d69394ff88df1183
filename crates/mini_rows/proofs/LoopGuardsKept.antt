-- What is written for a guard in the body of a loop keeps what a program has to keep: the jump goes first, and then the block is
-- built anew of the same parts.
use Rattle.std.specs.Prelude.{◌≡◌, refl, ◌&&◌, Bool, true, false, [], ◌∷◌}
use Rattle.std.proofs.Common.{ap, ◌∙◌, sym, subst, inl, inr, true≢false}
use Rattle.std.proofs.lemmas.Bool.{and_parts}
use Rattle.mini_model.specs.declared.operator.UnaryOperator.TheVariants.{LogicalNot}
use Rattle.mini_model.specs.declared.place.Position.{Position}
use Rattle.mini_model.specs.declared.place.Position.TheVariants.{Stmt, StatementList}
use Rattle.mini_model.specs.declared.shape.Shape.TheVariants as shape
use Rattle.mini_model.specs.Tree.{Tree, Trees, none, ◌▸◌, absent, listed, empty_statement, if_else, if_alone, negation}
use Rattle.mini_model.specs.Paths.{append}
use Rattle.mini_accept.specs.WellShaped.{nested, a_statement, a_loop_left, an_init, an_expression, one, one_or_absent, many, fits}
use Rattle.mini_laws.specs.declared.names.Use.TheVariants.{Read}
use Rattle.mini_laws.specs.State.{Writable}
use Rattle.mini_laws.specs.Fixity.{stricter}
use Rattle.mini_kept.specs.Lawful.{Lawful}
use Rattle.mini_kept.specs.Declaring.{declared as declared_names}
use Rattle.mini_kept.proofs.Bools.{left, right}
use Rattle.mini_kept.proofs.Fixed.{of_children}
use Rattle.mini_rows.specs.Switches.{Switches}
use Rattle.mini_rows.specs.Arranged.{AllVanish, AreFree, AreLoose}
use Rattle.mini_rows.specs.Lists.{block, are_unscoped, alternate_of}
use Rattle.mini_rows.specs.Branches.{Surrounding, Consequent, Alternate, WhileBody, DoBody, ForBody, InBody, OfBody, around, is_loop, bare_continue}
use Rattle.mini_rows.specs.LoopGuards.{TurnsGuard, LoopGuardRow, LoopGuardContracts}
use Rattle.mini_rows.specs.Sketches.{Unary, AbsentPart, Empty, If, Block, Free, Parts, Items, part, under, list, end, ◌▹◌, no_items, item, items, items_filled, AsWholeList, AsWholeItem, items_stand_well, parts_in, is_rearranged, keeps_statements, rearranges_list}
use Rattle.mini_rows.proofs.ArrangedStatements.{parts_kept, names_kept, list_parts, same_loop}
use Rattle.mini_rows.proofs.ArrangedMoves.{loosened}
use Rattle.mini_rows.proofs.ArrangedTrees.{same_fixed, same_declared, same_frames, same_bodies}
use Rattle.mini_rows.proofs.ArrangedBetween.{append_none}
use Rattle.mini_rows.proofs.BodyEnds.{continue_idle, emptied, shortened}
use Rattle.mini_rows.proofs.BlockItems.{item_inside, InList, list_inside, inside_then}
use Rattle.mini_rows.proofs.BranchInside.{Inside, wrapped_inside, unwrapped_inside}
use Rattle.mini_rows.proofs.BranchAround.{Said, first_among, around_core, around_said, around_says, around_plain}
use Rattle.mini_rows.proofs.BranchLawful.{Kind, kind_along, around_fits, around_read, block_fit, in_block_fit, last_fit, one_fit, unscoped_there, kinds_lawful, IsKind}
use Rattle.mini_rows.proofs.ListEndsKept.{row_75_fits, row_75_block_fits, block_fits}
use Rattle.mini_rows.proofs.ListShapes.{expression, statement, AllFit, first_fits, more_fit, append_fits, both_fit, of_if, if_fits, of_block}
use Rattle.mini_rows.proofs.LoopGuards.{guard_unscoped, made_unscoped, loop_guards_same}

-- ---- a block whose list is built anew

module _ (f : Free) (ps : Parts) (u : AreLoose ps f) (g : AllVanish ps.trees f.dropped) (is js : Items) (e : rearranges_list f is js ≡ true) where
  abbrev old : Trees
  old = items_filled ps is

  abbrev new : Trees
  new = items_filled ps js

  stand : (items_stand_well f AsWholeItem is ≡ true) × ((items_stand_well f AsWholeItem js ≡ true) × (keeps_statements f (parts_in AsWholeItem is) (parts_in AsWholeItem js) ≡ true))
  stand =
      let (x, y) = and_parts (items_stand_well f AsWholeItem is) (items_stand_well f AsWholeItem js && keeps_statements f (parts_in AsWholeItem is) (parts_in AsWholeItem js)) e in
      (x, and_parts (items_stand_well f AsWholeItem js) (keeps_statements f (parts_in AsWholeItem is) (parts_in AsWholeItem js)) y)

  rearranged : is_rearranged f (parts_in AsWholeItem is) (parts_in AsWholeItem js) ≡ true
  rearranged = parts_kept f ps u AsWholeList StatementList refl (list is) (list js) stand.0 stand.1.0 stand.1.1

  list_said : Said (listed old) (listed new)
  list_said = record {
    fixed = same_fixed f ps u AsWholeList (list is) (list js) stand.0 stand.1.0 rearranged g;
    declared = same_declared f ps u AsWholeList (list is) (list js) stand.0 stand.1.0 rearranged;
  }

  in_list : (strict : Bool) → fits strict (many (a_statement nested)) (listed old) ≡ true → InList old new
  in_list strict k =
      let v = list_parts f ps u is js stand.0 stand.1.0 rearranged strict (many (a_statement nested)) refl k in
      let keeps = names_kept f ps u AsWholeList StatementList refl (list is) (list js) stand.0 stand.1.0 stand.1.1 v refl g (same_loop old new) in
      record {
        kept = keeps.kept;
        scoped = λ env x. keeps.scoped Read env refl x;
        numbers = keeps.numbers;
        declared_as_body = keeps.declared_as_body false;
        once = keeps.once;
        targets = keeps.targets;
        bodies = λ a. same_bodies f ps u AsWholeList (list is) (list js) stand.0 stand.1.0 rearranged a;
        frames = same_frames f ps u AsWholeList (list is) (list js) stand.0 stand.1.0 rearranged;
      }

  block_said : Said (block old) (block new)
  block_said = record {
    fixed = λ z. of_children shape.BlockStatement [] 0 (listed old ▸ none) z refl ∙ ap (λ g. stricter g Writable) (list_said.fixed z) ∙ sym (of_children shape.BlockStatement [] 0 (listed new ▸ none) z refl);
    declared = first_among (declared_names (listed old)) (declared_names (listed new)) [] list_said.declared;
  }

  block_inside : (strict : Bool) → fits strict (statement nested) (block old) ≡ true → Inside (block old) (block new)
  block_inside strict k = list_inside old new (in_list strict (of_block strict nested old k)) list_said

-- ---- what a block keeps, by whether it fits

pub record Turned (n w : Tree) : Type 0 where
  pub inside : (strict : Bool) → fits strict (statement nested) n ≡ true → Inside n w
  pub said : Said n w

turned_along : (n n' w w' : Tree) → n ≡ n' → w ≡ w' → Turned n' w' → Turned n w
turned_along n n' w w' e f t = subst (λ x. Turned x w) (sym e) (subst (λ y. Turned n' y) (sym f) t)

rebuilt : (f : Free) (ps : Parts) → AreFree ps f → (is js : Items) → rearranges_list f is js ≡ true → (n w : Tree) → n ≡ block (items_filled ps is) → w ≡ block (items_filled ps js) → Turned n w
rebuilt f ps u is js e n w a b = turned_along n _ w _ a b (record { inside = λ strict k. block_inside f ps (loosened f ps u) u.2 is js e strict k; said = block_said f ps (loosened f ps u) u.2 is js e })

said_of : (n w : Tree) → Inside n w → Said n w
said_of n w i = record { fixed = i.fixed; declared = i.declared }

turned_then : (n m w : Tree) → Inside n m → ((strict : Bool) → fits strict (statement nested) n ≡ true → fits strict (statement nested) m ≡ true) → Turned m w → Turned n w
turned_then n m w i f t = record {
  inside = λ strict k. inside_then n m w i (t.inside strict (f strict k));
  said = record { fixed = λ z. i.fixed z ∙ t.said.fixed z; declared = λ z c. i.declared z (t.said.declared z c) };
}

-- ---- the guards

module _ (before rest : Trees) (test : Tree) where
  -- the guard with another branch
  abbrev guarded : Tree → Tree
  guarded t = block (append before (if_alone test t ▸ rest))

  branch_inside : (x y : Tree) → Inside x y → Inside (guarded x) (guarded y)
  branch_inside x y i = item_inside (if_alone test x) (if_alone test y) (around_core x y i (Consequent test absent)) (around_said x y i (Consequent test absent)) refl refl rest before

  branch_fits : (x y : Tree) → ((strict : Bool) → fits strict (statement nested) x ≡ true → fits strict (statement nested) y ≡ true) → (strict : Bool) → fits strict (statement nested) (guarded x) ≡ true → fits strict (statement nested) (guarded y) ≡ true
  branch_fits x y f strict e =
      let (a, b) = both_fit strict (statement nested) before (if_alone test x ▸ rest) (of_block strict nested (append before (if_alone test x ▸ rest)) e) in
      let (g, c) = first_fits strict (statement nested) (if_alone test x) rest b in
      let (t, s, z) = of_if strict nested test x absent g in
      block_fits strict (append before (if_alone test y ▸ rest))
      (append_fits strict (statement nested) before (if_alone test y ▸ rest) a (more_fit strict (statement nested) (if_alone test y) rest (if_fits strict nested test y absent (t, f strict s, z)) c))

-- `{ a(); if (b); c(); }`, and with what follows in the branch
row_75_turned : (before rest : Trees) (test : Tree) → are_unscoped rest ≡ true → Turned (guarded before rest test bare_continue) (block (append before (if_alone (negation test) (block rest) ▸ none)))
row_75_turned before rest test h =
    turned_then (guarded before rest test bare_continue) (guarded before rest test empty_statement) (block (append before (if_alone (negation test) (block rest) ▸ none)))
    (branch_inside before rest test bare_continue empty_statement (emptied bare_continue continue_idle))
    (branch_fits before rest test bare_continue empty_statement (λ strict e. refl))
    (rebuilt (record { moved = []; lists_moved = 1 ∷ []; dropped = [] }) (record { trees = test ▸ none; lists = before ∷ rest ∷ [] }) (tt, (h, tt), tt)
    (items 0 (item (under If (part 0 ▹ under Empty end ▹ under AbsentPart end ▹ end)) (items 1 no_items)))
    (items 0 (item (under If (under (Unary LogicalNot) (part 0 ▹ end) ▹ under Block (list (items 1 no_items) ▹ end) ▹ under AbsentPart end ▹ end)) no_items))
    refl _ _
    (ap (λ ts. block (append before (if_alone test empty_statement ▸ ts))) (sym (append_none rest)))
    (ap (λ ts. block (append before (if_alone (negation test) (block ts) ▸ none))) (sym (append_none rest))))

-- `{ a(); if (b) { c(); } d(); }`, and with what follows as the alternate
block_turned : (before body rest : Trees) (test : Tree) → are_unscoped body ≡ true → are_unscoped rest ≡ true → Turned (guarded before rest test (block body)) (block (append before (if_else test (block body) (alternate_of rest) ▸ none)))
block_turned before body none test l h =
    rebuilt (record { moved = []; lists_moved = 1 ∷ []; dropped = [] }) (record { trees = test ▸ none; lists = before ∷ body ∷ [] }) (tt, (l, tt), tt)
    (items 0 (item (under If (part 0 ▹ under Block (list (items 1 no_items) ▹ end) ▹ under AbsentPart end ▹ end)) no_items))
    (items 0 (item (under If (part 0 ▹ under Block (list (items 1 no_items) ▹ end) ▹ under AbsentPart end ▹ end)) no_items))
    refl _ _
    (ap (λ ts. block (append before (if_alone test (block ts) ▸ none))) (sym (append_none body)))
    (ap (λ ts. block (append before (if_alone test (block ts) ▸ none))) (sym (append_none body)))
block_turned before body (t ▸ ts) test l h =
    rebuilt (record { moved = []; lists_moved = 1 ∷ 2 ∷ []; dropped = [] }) (record { trees = test ▸ none; lists = before ∷ body ∷ (t ▸ ts) ∷ [] }) (tt, (l, (h, tt)), tt)
    (items 0 (item (under If (part 0 ▹ under Block (list (items 1 no_items) ▹ end) ▹ under AbsentPart end ▹ end)) (items 2 no_items)))
    (items 0 (item (under If (part 0 ▹ under Block (list (items 1 no_items) ▹ end) ▹ under Block (list (items 2 no_items) ▹ end) ▹ end)) no_items))
    refl _ _
    (ap (λ us. block (append before (if_alone test (block us) ▸ (t ▸ ts)))) (sym (append_none body)) ∙ ap (λ us. block (append before (if_alone test (block (append body none)) ▸ us))) (sym (append_none (t ▸ ts))))
    (ap (λ us. block (append before (if_else test (block us) (block (t ▸ ts)) ▸ none))) (sym (append_none body)) ∙ ap (λ us. block (append before (if_else test (block (append body none)) (block us) ▸ none))) (sym (append_none (t ▸ ts))))

row_75_block_turned : (before body rest : Trees) (test : Tree) → are_unscoped body ≡ true → are_unscoped rest ≡ true → Turned (guarded before rest test (block (append body (bare_continue ▸ none)))) (block (append before (if_else test (block body) (alternate_of rest) ▸ none)))
row_75_block_turned before body rest test l h =
    turned_then (guarded before rest test (block (append body (bare_continue ▸ none)))) (guarded before rest test (block body)) (block (append before (if_else test (block body) (alternate_of rest) ▸ none)))
    (branch_inside before rest test (block (append body (bare_continue ▸ none))) (block body) (shortened bare_continue continue_idle body))
    (branch_fits before rest test (block (append body (bare_continue ▸ none))) (block body) (λ strict e. block_fits strict body (both_fit strict (statement nested) body (bare_continue ▸ none) (of_block strict nested (append body (bare_continue ▸ none)) e)).0))
    (block_turned before body rest test l h)

pub turned : (before a b : Trees) → TurnsGuard a b → Turned (block (append before a)) (block (append before b))
turned before a b (inl r) =
    turned_along _ _ _ _ (ap (λ ts. block (append before ts)) r.shape) (ap (λ ts. block (append before ts)) r.written) (row_75_turned before r.rest r.test r.unscoped)
turned before a b (inr r) =
    turned_along _ _ _ _ (ap (λ ts. block (append before ts)) r.shape) (ap (λ ts. block (append before ts)) r.written) (row_75_block_turned before r.body r.rest r.test r.loose r.unscoped)

-- ---- the loop

turned_fit : (strict : Bool) (a b : Trees) → TurnsGuard a b → AllFit strict (statement nested) a → AllFit strict (statement nested) b
turned_fit strict a b (inl r) e = subst (AllFit strict (statement nested)) (sym r.written) (row_75_fits strict bare_continue r.test r.rest r.unscoped nested (subst (AllFit strict (statement nested)) r.shape e))
turned_fit strict a b (inr r) e = subst (AllFit strict (statement nested)) (sym r.written) (row_75_block_fits strict bare_continue r.test r.body r.rest r.unscoped nested (subst (AllFit strict (statement nested)) r.shape e))

body_fits : (strict : Bool) (before a b : Trees) → TurnsGuard a b → fits strict (statement nested) (block (append before a)) ≡ true → fits strict (statement nested) (block (append before b)) ≡ true
body_fits strict before a b r e =
    let (x, y) = both_fit strict (statement nested) before a (of_block strict nested (append before a) e) in
    block_fits strict (append before b) (append_fits strict (statement nested) before b x (turned_fit strict a b r y))

-- the body of a loop that fits
pub in_loop : (strict : Bool) (k : Surrounding) (x : Tree) → is_loop k ≡ true → fits strict (statement nested) (around k x) ≡ true → fits strict (statement nested) x ≡ true
in_loop strict (Consequent a u) x h e = absurd (true≢false (sym h))
in_loop strict (Alternate a s) x h e = absurd (true≢false (sym h))
in_loop strict (WhileBody a) x h e = left (fits strict (statement nested) x) true (right (fits strict expression a) (fits strict (statement nested) x && true) e)
in_loop strict (DoBody a) x h e = left (fits strict (statement nested) x) (fits strict expression a && true) e
in_loop strict (ForBody a b c) x h e =
    left (fits strict (statement nested) x) true
    (right (fits strict (one_or_absent an_expression) c) _ (right (fits strict (one_or_absent an_expression) b) _ (right (fits strict (one_or_absent an_init) a) _ e)))
in_loop strict (InBody a b) x h e = left (fits strict (statement nested) x) true (right (fits strict expression b) _ (right (fits strict (one (a_loop_left true)) a) _ e))
in_loop strict (OfBody a b) x h e = left (fits strict (statement nested) x) true (right (fits strict expression b) _ (right (fits strict (one (a_loop_left false)) a) _ e))

loop_kind : (k : Surrounding) (before a b : Trees) → is_loop k ≡ true → TurnsGuard a b → Kind (around k (block (append before a))) (around k (block (append before b)))
loop_kind k before a b h r =
    let x = block (append before a) in
    let y = block (append before b) in
    let t = turned before a b r in
    record {
      read = around_read k x;
      before = around_plain k x;
      after = around_plain k y;
      fitting = λ strict. around_fits strict x y (body_fits strict before a b r) (body_fits strict before a b r) k;
      core = λ strict e. around_core x y (t.inside strict (in_loop strict k x h e)) k;
      said = around_says x y t.said k;
    }

-- ---- where the guard is the whole body

whole_kind : (k : Surrounding) (g m : Tree) → is_loop k ≡ true → TurnsGuard (g ▸ none) (m ▸ none) → Kind (around k g) (around k m)
whole_kind k g m h r =
    let loose = guard_unscoped g m r in
    let free = made_unscoped g m r in
    let t = turned none (g ▸ none) (m ▸ none) r in
    let wrapped = wrapped_inside g loose in
    let bare = unwrapped_inside m free in
    let fit : (strict : Bool) → fits strict (statement nested) g ≡ true → fits strict (statement nested) m ≡ true =
    λ strict e. block_fit strict m (body_fits strict none (g ▸ none) (m ▸ none) r (in_block_fit strict g e)) in
    record {
      read = around_read k g;
      before = around_plain k g;
      after = around_plain k m;
      fitting = λ strict. around_fits strict g m (fit strict) (λ e. last_fit strict m (unscoped_there m free) (fit strict (one_fit strict g (unscoped_there g loose) e))) k;
      core = λ strict e.
          around_core g m
          (inside_then g (block (g ▸ none)) m wrapped (inside_then (block (g ▸ none)) (block (m ▸ none)) m (t.inside strict (in_block_fit strict g (in_loop strict k g h e))) bare)) k;
      said = around_says g m (record { fixed = λ z. wrapped.fixed z ∙ t.said.fixed z ∙ bare.fixed z; declared = λ z c. wrapped.declared z (t.said.declared z (bare.declared z c)) }) k;
    }

guard_kind : (o : Switches) (p : Position) (n w : Tree) → LoopGuardContracts o p n w → IsKind p n w
guard_kind o p n w c = go p n w c.row
  where
    go : (p : Position) (n w : Tree) → LoopGuardRow o p n w → IsKind p n w
    go (Stmt q) n w (s, inl r) = kind_along n _ w _ r.shape r.written (loop_kind r.place r.before r.read r.put r.loop r.row)
    go (Stmt q) n w (s, inr r) = kind_along n _ w _ r.shape r.written (whole_kind r.place r.guard r.made r.loop r.row)
    go p n w r = absurd r

pub loop_guards_lawful : (o : Switches) → Lawful (LoopGuardContracts o)
loop_guards_lawful o = kinds_lawful (LoopGuardContracts o) (loop_guards_same o) (guard_kind o)
