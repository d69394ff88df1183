-- The rewrite of guards in the bodies of loops is its row, and always lighter.
use Rattle.std.proofs.Common.{◌≡◌, ℕ, zero, suc, Bool, true, false, [], refl, sym, ap, subst, ◌∙◌, inl, inr, true≢false}
use Rattle.std.specs.Prelude.{Some, None, Result, Ok, IfOk}
use Rattle.std.proofs.lemmas.Bool.{false≢true}
use Rattle.std.proofs.lemmas.Option.{none-some}
use Rattle.mini_model.specs.declared.memory.OutOfMemory.{OutOfMemory}
use Rattle.mini_model.specs.declared.place.Position.TheVariants.{Stmt}
use Rattle.mini_model.specs.declared.seat.StmtSeat.{StmtSeat}
use Rattle.mini_model.specs.declared.shape.Shape.TheVariants as shape
use Rattle.mini_model.specs.Tree.{Tree, Trees, node, none, ◌▸◌, children, child_or_absent, absent, if_alone}
use Rattle.mini_model.specs.Paths.{append}
use Rattle.mini_node.specs.Children.{part, like, with_child, first_children, rest_children}
use Rattle.mini_node.specs.Kinds.{is_block, block}
use Rattle.mini_node.specs.Made.{block_is}
use Rattle.mini_tree.specs.Rule.{Applied}
use Rattle.mini_tree.proofs.Reaching.{moves_once}
use Rattle.mini_rows.specs.Switches.{Switches}
use Rattle.mini_rows.specs.Nesting.{are_shallow}
use Rattle.mini_rows.specs.Branches.{Surrounding, Consequent, Alternate, WhileBody, DoBody, ForBody, InBody, OfBody, around, is_loop, bare_continue}
use Rattle.mini_rows.specs.LoopGuards.{TurnsGuard, TurnsRow, LoopGuardRow, LoopGuardContracts}
use Rattle.mini_rows.proofs.LoopGuardWeights.{loop_guards_lighter}
use Rattle.mini_stmt.specs.MinimizeBody.{is_guard, may_nest, leaves_early, EarlyAt}
use Rattle.mini_stmt.specs.SpreadBlock.{body_of}
use Rattle.mini_stmt.specs.TurnLoopGuards.{body_place, TurnedIn, TurnedWhole, TurnsLoop}
use Rattle.mini_stmt.proofs.Bodies.{nests, by_block, early_in, parts_there}

-- ---- the body in its place

with_twice : (ts : Trees) (k : ℕ) (x y : Tree) → with_child (with_child ts k x) k y ≡ with_child ts k y
with_twice none k x y = refl
with_twice (t ▸ ts) zero x y = refl
with_twice (t ▸ ts) (suc k) x y = ap (λ us. t ▸ us) (with_twice ts k x y)

pub like_twice : (t : Tree) (us vs : Trees) → like (like t us) vs ≡ like t vs
like_twice (node h xs n ts) us vs = refl

-- what is made where the body is taken out and another put back
pub put_back : (t u m : Tree) (i : ℕ) (us vs list : Trees) → us ≡ with_child (children t) i absent → vs ≡ with_child us i m → m ≡ block list → u ≡ like t vs → u ≡ like t (with_child (children t) i (block list))
put_back t u m i us vs list a b c d =
    d ∙ ap (like t) (b ∙ ap (λ ws. with_child ws i m) a ∙ with_twice (children t) i absent m ∙ ap (with_child (children t) i) c)

record Looped (t : Tree) (i : ℕ) : Type 0 where
  place : Surrounding
  loop : is_loop place ≡ true
  is : t ≡ around place (part t i)
  put : (c : Tree) → like t (with_child (children t) i c) ≡ around place c

looped : (t : Tree) (i : ℕ) → body_place t ≡ Some i → Looped t i
looped (node shape.WhileStatement [] zero (a ▸ (b ▸ none))) i e = let at : 1 ≡ i = cc e in subst (Looped (around (WhileBody a) b)) at (record { place = WhileBody a; loop = refl; is = refl; put = λ c. refl })
looped (node shape.DoWhileStatement [] zero (b ▸ (a ▸ none))) i e = let at : 0 ≡ i = cc e in subst (Looped (around (DoBody a) b)) at (record { place = DoBody a; loop = refl; is = refl; put = λ c. refl })
looped (node shape.ForStatement [] zero (x ▸ (y ▸ (z ▸ (b ▸ none))))) i e = let at : 3 ≡ i = cc e in subst (Looped (around (ForBody x y z) b)) at (record { place = ForBody x y z; loop = refl; is = refl; put = λ c. refl })
looped (node shape.ForInStatement [] zero (x ▸ (y ▸ (b ▸ none)))) i e = let at : 2 ≡ i = cc e in subst (Looped (around (InBody x y) b)) at (record { place = InBody x y; loop = refl; is = refl; put = λ c. refl })
looped (node shape.ForOfStatement [] zero (x ▸ (y ▸ (b ▸ none)))) i e = let at : 2 ≡ i = cc e in subst (Looped (around (OfBody x y) b)) at (record { place = OfBody x y; loop = refl; is = refl; put = λ c. refl })
looped t i e = absurd (none-some i e)

-- ---- what is written is what the row writes

pub turned_loop : (t u : Tree) (i g : ℕ) → body_place t ≡ Some i → is_block (part t i) ≡ true → EarlyAt true (body_of (part t i)) (Some g) → TurnedIn t i g u → TurnsLoop t u true
turned_loop t u i g e b early d =
    let l = looped t i e in
    inl (record {
      place = l.place;
      before = first_children g (body_of (part t i));
      read = child_or_absent (body_of (part t i)) g ▸ rest_children (suc g) (body_of (part t i));
      put = d.turned.made ▸ none;
      loop = l.loop;
      row = d.turned.row;
      shape = l.is ∙ ap (around l.place) (block_is (part t i) b ∙ ap block (parts_there (body_of (part t i)) g early.0));
      written = d.is ∙ l.put (block d.list) ∙ ap (λ ts. around l.place (block ts)) d.turned.is;
    })

-- of a guard that is the whole body
pub whole_loop : (t u : Tree) (i : ℕ) → body_place t ≡ Some i → TurnedWhole t i u → TurnsLoop t u true
whole_loop t u i e d =
    let l = looped t i e in
    inr (record { place = l.place; guard = part t i; made = d.made; loop = l.loop; row = d.turned; shape = l.is; written = d.is ∙ l.put d.made })

pub nothing_nests : may_nest none ≡ true
unfolding are_shallow
nothing_nests = refl

-- what is made where the guard is taken out and another statement put back
pub put_whole : (t u m : Tree) (i : ℕ) (us vs : Trees) → us ≡ with_child (children t) i absent → vs ≡ with_child us i m → u ≡ like t vs → u ≡ like t (with_child (children t) i m)
put_whole t u m i us vs a b d = d ∙ ap (like t) (b ∙ ap (λ ws. with_child ws i m) a ∙ with_twice (children t) i absent m)

pub turned_then : (t : Tree) (i g : ℕ) (r : Result Tree OutOfMemory) → IfOk r (TurnedIn t i g) → (u : Tree) → r ≡ Ok u → TurnedIn t i g u
turned_then t i g r h u e = subst (λ x. IfOk x (TurnedIn t i g)) e h

-- ---- where nothing is written the row reads nothing

reads_early : (before a b : Trees) → TurnsGuard a b → leaves_early true (append before a) ≡ true
reads_early before a b (inl r) = ap (λ ts. leaves_early true (append before ts)) r.shape ∙ early_in true before r.rest (if_alone r.test bare_continue) refl (nests r.rest r.unscoped r.shallow)
reads_early before a b (inr r) =
    ap (λ ts. leaves_early true (append before ts)) r.shape
    ∙ early_in true before r.rest (if_alone r.test (block (append r.body (bare_continue ▸ none)))) (by_block true r.test r.body r.loose) (nests r.rest r.unscoped r.shallow)

-- the place of a loop's body, and what stands there
record Found (t c : Tree) : Type 0 where
  at : ℕ
  place : body_place t ≡ Some at
  there : part t at ≡ c

found : (k : Surrounding) (c : Tree) → is_loop k ≡ true → Found (around k c) c
found (Consequent a u) c h = absurd (false≢true h)
found (Alternate a s) c h = absurd (false≢true h)
found (WhileBody a) c h = record { at = 1; place = refl; there = refl }
found (DoBody a) c h = record { at = 0; place = refl; there = refl }
found (ForBody x y z) c h = record { at = 3; place = refl; there = refl }
found (InBody x y) c h = record { at = 2; place = refl; there = refl }
found (OfBody x y) c h = record { at = 2; place = refl; there = refl }

-- of what a row reads
abbrev body_of_row : (t w : Tree) → TurnsRow t w → Tree
body_of_row t w (inl r) = block (append r.before r.read)
body_of_row t w (inr r) = r.guard

found_in : (t w : Tree) (r : TurnsRow t w) → Found t (body_of_row t w r)
found_in t w (inl r) = subst (λ x. Found x (block (append r.before r.read))) (sym r.shape) (found r.place (block (append r.before r.read)) r.loop)
found_in t w (inr r) = subst (λ x. Found x r.guard) (sym r.shape) (found r.place r.guard r.loop)

pub no_loop : (t : Tree) → body_place t ≡ None → TurnsLoop t t false
no_loop t e = (refl, λ w r. let f = found_in t w r in none-some f.at (sym e ∙ f.place))

same_place : (i j : ℕ) → Some i ≡ Some j → i ≡ j
same_place i j e = cc e

-- at the place of the body
read_at : (t w : Tree) (i : ℕ) → body_place t ≡ Some i → (r : TurnsRow t w) → part t i ≡ body_of_row t w r
read_at t w i e r = let f = found_in t w r in ap (part t) (same_place i f.at (sym e ∙ f.place)) ∙ f.there

-- a guard is an `if`, and no block
is_a_guard : (g m : Tree) → TurnsGuard (g ▸ none) (m ▸ none) → is_guard true g ≡ true
is_a_guard g m (inl r) = ap (is_guard true) (ap (λ xs. child_or_absent xs 0) r.shape)
is_a_guard g m (inr r) = ap (is_guard true) (ap (λ xs. child_or_absent xs 0) r.shape) ∙ by_block true r.test r.body r.loose

no_block_there : (g m : Tree) → TurnsGuard (g ▸ none) (m ▸ none) → is_block g ≡ false
no_block_there g m (inl r) = ap is_block (ap (λ xs. child_or_absent xs 0) r.shape)
no_block_there g m (inr r) = ap is_block (ap (λ xs. child_or_absent xs 0) r.shape)

pub no_whole : (t : Tree) (i : ℕ) → body_place t ≡ Some i → is_block (part t i) ≡ false → is_guard true (part t i) ≡ false → TurnsLoop t t false
no_whole t i e b n = (refl, λ w r. go w r)
  where
    go : (w : Tree) → TurnsRow t w → ⊥
    go w (inl r) = false≢true (sym b ∙ ap is_block (read_at t w i e (inl r)))
    go w (inr r) = false≢true (sym n ∙ ap (is_guard true) (read_at t w i e (inr r)) ∙ is_a_guard r.guard r.made r.row)

pub no_guard : (t : Tree) (i : ℕ) → body_place t ≡ Some i → is_block (part t i) ≡ true → EarlyAt true (body_of (part t i)) None → TurnsLoop t t false
no_guard t i e b n = (refl, λ w r. go w r)
  where
    go : (w : Tree) → TurnsRow t w → ⊥
    go w (inl r) = true≢false (sym (reads_early r.before r.read r.put r.row) ∙ sym (ap (λ x. leaves_early true (body_of x)) (read_at t w i e (inl r))) ∙ n)
    go w (inr r) = false≢true (sym (no_block_there r.guard r.made r.row) ∙ sym (ap is_block (read_at t w i e (inr r))) ∙ b)

-- ---- the rule

pub applied : (o : Switches) (q : StmtSeat) (t u : Tree) (b : Bool) → o.sequences ≡ true → TurnsLoop t u b → Applied (LoopGuardContracts o) (λ p x. (w : Tree) → LoopGuardRow o p x w → ⊥) (Stmt q) t u b
applied o q t u true s r =
    let row : LoopGuardRow o (Stmt q) t u = (s, r) in
    moves_once (LoopGuardContracts o) (Stmt q) t u (record { row = row; lighter = loop_guards_lighter o (Stmt q) t u row })
applied o q t u false s r = (r.0, λ w x. r.1 w x.1)
