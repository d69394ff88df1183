-- What holds the statements of a list: a block, or a function, which is read like a block that begins with what stands before its
-- statements: its name and its parameters. A module and a static block are read like a function without them.
use Rattle.std.proofs.Common.{◌≡◌, ℕ, zero, suc, ◌<◌, Bool, true, false, List, [], ◌∷◌, refl, sym, ap, ◌∙◌, subst, inl, inr, true≢false, arith}
use Rattle.std.specs.Prelude.{not, ◌⊎◌, ◌&&◌, ◌||◌, nat_eq, None, Result, Ok, Err, IfOk, if◌then◌else◌}
use Rattle.std.proofs.lemmas.Bool.{and_parts, eqb-true}
use Rattle.mini_model.specs.declared.name.Name.{Name}
use Rattle.mini_model.specs.declared.place.Position.{Position}
use Rattle.mini_model.specs.declared.place.Position.TheVariants.{Expr, Stmt, Method, Elsewhere}
use Rattle.mini_model.specs.declared.seat.Seat.{Seat}
use Rattle.mini_model.specs.declared.seat.StmtSeat.{StmtSeat}
use Rattle.mini_model.specs.declared.shape.Shape.TheVariants as shape
use Rattle.mini_model.specs.Tree.{Tree, Trees, node, none, ◌▸◌, absent, listed, program, shape_of, children, count, child_or_absent}
use Rattle.mini_laws.specs.ScopeList.{has_eval, any_has_eval}
use Rattle.mini_laws.specs.Value.{Variable, Declared, Global}
use Rattle.mini_node.specs.Children.{names_of, number_of, part, with_part, first_children, rest_children}
use Rattle.mini_node.specs.Kinds.{is_block, is_listed, is_listed_shape}
use Rattle.mini_node.specs.Made.{block_is, listed_is}
use Rattle.mini_laws.specs.Naming as kinds
use Rattle.mini_rows.specs.Lists.{block}
use Rattle.mini_rows.specs.Unused.{names, any_names, may_move, statements, arrow_with, ArrowBodyRow, function_with, FunctionBodyRow, ModuleRow, static_block, StaticBlockRow, SwitchRow, ForHeadRow, BlockRow, UnusedRow}
use Rattle.mini_tree.specs.declared.options.CompressOptions.{CompressOptions}
use Rattle.mini_tree.specs.Rule as rule
use Rattle.mini_context.specs.declared.context.TraverseCtx.{TraverseCtx}
use Rattle.mini_context.specs.Known.{Knows}
use Rattle.mini_laws.specs.Writable.{writable_in}
use Rattle.mini_unused.specs.RemoveUnusedDeclaration.{declares_name, declares_list, is_var, may_declare, is_unused_declarator, is_free_at, may_lose, may_go, open_in, is_alone, list_at, is_unused, UnusedAt, allowed}
use Rattle.mini_unused.specs.SubstituteNext.{is_declarator, reads_then, is_mentioned_beside, is_read_then, is_read_by_next, is_next, NextAt, NextGone}
use Rattle.mini_unused.specs.SubstituteSingleUse.{last_place, is_declared_over, reads_next, is_read_once, is_single_declarator, is_single, SingleAt, NameGone, ReadGone, Gone, Removed}
use Rattle.mini_unused.specs.Chains.{Several}
use Rattle.mini_unused.proofs.Chains.{several_over}
use Rattle.mini_unused.proofs.Unused.{no_outside, and_both, declared_there, part_twice, row_at, no_row, no_block, all_used, seen_by_eval}
use Rattle.mini_inside.specs.Holding.{is_arrow_shape, are_statements, are_no_names, has_statements, is_function_shape, is_function, is_module, is_static_block, holds_list, is_switch, is_for_shape, has_head, Applied, AppliedInFunction, Gives, Rests, holds_statements}
use Rattle.mini_inside.proofs.Moves.{several_moves}
use Rattle.mini_rows.proofs.ForHeads.{is_read}
use Rattle.mini_rows.proofs.UnusedMeaning.{lexical_alone}
use Rattle.mini_rows.proofs.UnusedNames.{or_parts}
use Rattle.mini_rows.specs.Switches.{Switches, Liberties, without_vars, liberties}
use Rattle.mini_unused.proofs.SingleUses.{row_there, none_single}
use Rattle.mini_unused.proofs.NextUses.{next_row, none_next}
use Rattle.mini_unused.specs.Allowed.{allowed_in, marked, switches_of}

-- ---- a block

pub next_within : (i n : ℕ) → i < n → suc i < suc n
next_within i n h = omega (arith, h)

pub or_none : (b : Bool) → (b || false) ≡ b
or_none true = refl
or_none false = refl

pub block_seen : (ts : Trees) → has_eval (block ts) ≡ (has_eval no_outside || has_eval (listed ts))
unfolding has_eval
block_seen ts = or_none (any_has_eval ts)

abbrev pub held : Tree → Tree
held m = node shape.BlockStatement [] 0 (m ▸ none)

gone_row : (W : Liberties) (ts : Trees) (m : Tree) → Gone W no_outside (listed ts) m → BlockRow W (block ts) (held m)
gone_row W ts m r = by r.name
  where
    by : NameGone W no_outside (listed ts) m ⊎ (ReadGone W no_outside (listed ts) m ⊎ NextGone W no_outside (listed ts) m) → BlockRow W (block ts) (held m)
    by (inl g) = row_at (block ts) g.at g.which refl g.unused.0 g.unused.1.1 W g.unused.1.2 (block_seen ts ∙ r.unseen) (held m) (ap held g.left)
    by (inr (inl g)) = inr (inr (inl (row_there (block ts) g.at refl g.next g.declares W g.single (block_seen ts ∙ r.unseen) (held m) (ap held g.left))))
    by (inr (inr g)) = inr (inr (inr (next_row (block ts) g.at g.which refl g.there.0 g.there.1.1 W g.there.1.2 (block_seen ts ∙ r.unseen) (held m) (ap held g.left))))

rests : (W : Liberties) (ts : Trees) (m : Tree) → Removed W no_outside (listed ts) m false → (w : Tree) → BlockRow W (block ts) w → ⊥
rests W ts m r = by r.1
  where
    by : ((has_eval no_outside || has_eval (listed ts)) ≡ true) ⊎ (UnusedAt W no_outside ts None × SingleAt W no_outside ts None × NextAt W no_outside ts None) → (w : Tree) → BlockRow W (block ts) w → ⊥
    by (inl e) = seen_by_eval W (block ts) (block_seen ts ∙ e)
    by (inr u) = no_row W (block ts) (all_used W (block ts) u.0) (none_single W (block ts) u.1) (none_next W (block ts) u.2)

-- what is left of a list is one
pub left_listed : (W : Liberties) (o : Tree) (ts : Trees) (m : Tree) → Gone W o (listed ts) m → m ≡ listed (children m)
left_listed W o ts m r = by r.name
  where
    by : NameGone W o (listed ts) m ⊎ (ReadGone W o (listed ts) m ⊎ NextGone W o (listed ts) m) → m ≡ listed (children m)
    by (inl g) = g.left ∙ sym (ap (λ l. listed (children l)) g.left)
    by (inr (inl g)) = g.left ∙ sym (ap (λ l. listed (children l)) g.left)
    by (inr (inr g)) = g.left ∙ sym (ap (λ l. listed (children l)) g.left)

abbrev is_list : Tree → Type 0
is_list l = l ≡ listed (children l)

-- names that go from a list one after another go so from what holds it
pub several_in : (W : Liberties) (o : Tree) (S : Tree → Tree → Type 0) (over : Tree → Tree) → ((ts : Trees) (m : Tree) → Gone W o (listed ts) m → S (over (listed ts)) (over m)) → (ts : Trees) (m : Tree) → Several (Gone W o) (listed ts) m → Several S (over (listed ts)) (over m)
several_in W o S over on ts m = several_over (Gone W o) S is_list over by (listed ts) m refl
  where
    by : (t u : Tree) → is_list t → Gone W o t u → S (over t) (over u) × is_list u
    by t u i r =
        let there = subst (λ v. Gone W o v u) i r in
        (subst (λ v. S (over v) (over u)) (sym i) (on (children t) u there), left_listed W o (children t) u there)

-- no other holder
pub no_function : (W : Liberties) (t : Tree) → is_function t ≡ false → (w : Tree) → FunctionBodyRow W t w → ⊥
no_function W t e w r = true≢false (sym (ap is_function r.shape) ∙ e)

no_arrow : (W : Liberties) (t : Tree) → has_statements t ≡ false → (w : Tree) → ArrowBodyRow W t w → ⊥
no_arrow W t e w r = true≢false (sym (ap has_statements r.shape) ∙ e)

-- a `for` that a row reads has a head
row_has_head : (o : Switches) (t w : Tree) → ForHeadRow o t w → has_head t ≡ true
row_has_head o t w (inl r) = ap has_head r.shape ∙ and_both (kinds.is_lexical r.kind) true r.lexical refl
row_has_head o t w (inr r) = ap has_head (is_read o t w r) ∙ and_both (kinds.is_lexical r.row.kind) true (lexical_alone r.row.kind r.row.goes) refl

pub no_head : (o : Switches) (t : Tree) → has_head t ≡ false → (w : Tree) → ForHeadRow o t w → ⊥
no_head o t e w r = true≢false (sym (row_has_head o t w r) ∙ e)

-- and is a `for`
pub no_for : (o : Switches) (t : Tree) → is_for_shape (shape_of t) ≡ false → (w : Tree) → ForHeadRow o t w → ⊥
no_for o t e w (inl r) = true≢false (sym (ap (λ u. is_for_shape (shape_of u)) r.shape) ∙ e)
no_for o t e w (inr r) = true≢false (sym (ap (λ u. is_for_shape (shape_of u)) r.shape) ∙ e)

pub no_switch : {o : Switches} (t : Tree) → is_switch t ≡ false → (w : Tree) → SwitchRow o t w → ⊥
no_switch t e w r = true≢false (sym (ap is_switch r.shape) ∙ e)

-- where its row is one, and no other reads it
module _ (W : Liberties) (p : Position) (read : (t u : Tree) → BlockRow (without_vars W.switches) t u → UnusedRow W p t u) (alone : (ts : Trees) (w : Tree) → UnusedRow W p (block ts) w → BlockRow (without_vars W.switches) (block ts) w) where
  block_applied : (ts : Trees) (m : Tree) (c : Bool) → Removed (without_vars W.switches) no_outside (listed ts) m c → Applied W p (block ts) (held m) c
  block_applied ts m true r = several_moves W p (BlockRow (without_vars W.switches)) read (block ts) (held m) (several_in (without_vars W.switches) no_outside (BlockRow (without_vars W.switches)) held (gone_row (without_vars W.switches)) ts m r)
  block_applied ts m false r = (ap held r.0, λ w a. rests (without_vars W.switches) ts m r w (alone ts w a))

  applied_there : (t m : Tree) (c : Bool) → is_block t ≡ true → Removed (open_in (with_part t 0 absent) W) (with_part t 0 absent) (part t 0) m c → (u : Tree) → u ≡ with_part t 0 m → Applied W p t u c
  applied_there t m c b r u f =
      let is = block_is t b in
      let ts = children (part t 0) in
      let there = subst (λ v. Removed (open_in (with_part v 0 absent) W) (with_part v 0 absent) (part v 0) m c) is r in
      subst (λ v. Applied W p v u c) (sym is) (subst (λ v. Applied W p (block ts) v c) (sym (f ∙ ap (λ v. with_part v 0 m) is)) (block_applied ts m c there))

pub of_block : (W : Liberties) (t m : Tree) (c : Bool) → is_block t ≡ true → Removed (open_in (with_part t 0 absent) W) (with_part t 0 absent) (part t 0) m c → (u : Tree) → u ≡ with_part t 0 m → (q : StmtSeat) → Applied W (Stmt q) t u c
of_block W t m c b r u f q = applied_there W (Stmt q) (λ t u b. inl b) by t m c b r u f
  where
    by : (ts : Trees) (w : Tree) → UnusedRow W (Stmt q) (block ts) w → BlockRow (without_vars W.switches) (block ts) w
    by ts w (inl b) = b
    by ts w (inr (inl f)) = absurd (no_function W (block ts) refl w f)
    by ts w (inr (inr (inl s))) = absurd (no_switch (block ts) refl w s)
    by ts w (inr (inr (inr v))) = absurd (no_for W.switches (block ts) refl w v)

-- ---- a function: what its statements stand behind is read before them

and_false : (a : Bool) → (a && false) ≡ false
and_false true = refl
and_false false = refl

alone_pulled : (p a b c d f : Bool) → (not p && (not a && (not b && (not c && (not d && not f))))) ≡ (not a && (not b && (not c && (not d && not (p || f)))))
alone_pulled false a b c d f = refl
alone_pulled true a b c d f =
    sym (ap (λ v. not a && (not b && (not c && v))) (and_false (not d)) ∙ ap (λ v. not a && (not b && v)) (and_false (not c)) ∙ ap (λ v. not a && v) (and_false (not b)) ∙ and_false (not a))

read_pulled : (p r q f c : Bool) → (not p && (r && (not q && not (c || f)))) ≡ (r && (not q && not (c || (p || f))))
read_pulled false r q f c = refl
read_pulled true r q f true = sym (ap (λ v. r && v) (and_false (not q)) ∙ and_false r)
read_pulled true r q f false = sym (ap (λ v. r && v) (and_false (not q)) ∙ and_false r)

then_pulled : (p r m f c : Bool) → (r && (not m && (not p && not (f || c)))) ≡ (r && (not m && not ((p || f) || c)))
then_pulled false r m f c = refl
then_pulled true r m f c = refl

-- what is outside of the statements, and as a list before them
module _ (W : Liberties) (outside : Tree) (front ts : Trees) (mentions : (x : Name) → names x outside ≡ any_names x front) (evals : has_eval outside ≡ any_has_eval front) where
  -- as a block
  abbrev pub behind : Trees
  behind = listed front ▸ ts

  alone_there : (xs : List Name) (init : Tree) (ds : Trees) (j i : ℕ) → is_alone xs outside init ds j ts i ≡ is_alone xs no_outside init ds j behind (suc i)
  alone_there [] init ds j i = refl
  alone_there (x ∷ xs) init ds j i =
      let a = names x init in
      let b = any_names x (rest_children (suc j) ds) in
      let c = any_names x (rest_children (suc i) ts) in
      let d = any_names x (first_children j ds) in
      let f = any_names x (first_children i ts) in
      ap (λ p. not p && (not a && (not b && (not c && (not d && not f))))) (mentions x) ∙ alone_pulled (any_names x front) a b c d f

  -- a declarator that the tests find there, and behind that list
  pub unused_within : (i j : ℕ) → is_unused_declarator (is_free_at ts i) W (list_at ts i) j outside ts i ≡ is_unused_declarator (is_free_at ts i) W (list_at ts i) j no_outside behind (suc i)
  unused_within i j =
      let l = list_at ts i in
      ap (λ b. declares_name (part l j) && (may_lose (is_free_at ts i) W (names_of (part (part l j) 0)) && (may_go (part (part l j) 1) l && b))) (alone_there (names_of (part (part l j) 0)) (part (part l j) 1) (children l) j i)

  read_there : (xs : List Name) (init : Tree) (ds : Trees) (j i : ℕ) → is_read_once xs outside init ds j ts i ≡ is_read_once xs no_outside init ds j behind (suc i)
  read_there [] init ds j i = refl
  read_there (x ∷ xs) init ds j i =
      let r = reads_next x init ts i in
      let q = is_declared_over x init ds j in
      let f = any_names x (first_children i ts) in
      let c = any_names x (rest_children (suc (suc i)) ts) in
      ap (λ p. not p && (r && (not q && not (c || f)))) (mentions x) ∙ read_pulled (any_names x front) r q f c

  pub single_within : (i : ℕ) → is_single_declarator (is_free_at ts i) W (list_at ts i) (last_place (children (list_at ts i))) outside ts i ≡ is_single_declarator (is_free_at ts i) W (list_at ts i) (last_place (children (list_at ts i))) no_outside behind (suc i)
  single_within i =
      let l = list_at ts i in
      let j = last_place (children l) in
      ap (λ b. declares_name (part l j) && (may_lose (is_free_at ts i) W (names_of (part (part l j) 0)) && (may_move W.switches (part (part l j) 1) && b))) (read_there (names_of (part (part l j) 0)) (part (part l j) 1) (children l) j i)

  then_there : (xs : List Name) (d e : Tree) (ds : Trees) (j i : ℕ) → is_read_then xs d e outside ds j ts i ≡ is_read_then xs d e no_outside ds j behind (suc i)
  then_there [] d e ds j i = refl
  then_there (x ∷ xs) d e ds j i =
      let r = reads_then x (part d 1) e in
      let m = is_mentioned_beside x d e ds j in
      let f = any_names x (first_children i ts) in
      let c = any_names x (rest_children (suc i) ts) in
      ap (λ p. r && (not m && (not p && not (f || c)))) (mentions x) ∙ then_pulled (any_names x front) r m f c

  pub next_within_there : (i j : ℕ) → is_read_by_next (is_free_at ts i) W (list_at ts i) j outside ts i ≡ is_read_by_next (is_free_at ts i) W (list_at ts i) j no_outside behind (suc i)
  next_within_there i j =
      let l = list_at ts i in
      let d = part l j in
      let e = part l (suc j) in
      ap (λ b. declares_name d && (is_declarator e && (may_lose (is_free_at ts i) W (names_of (part d 0)) && (may_move W.switches (part d 1) && b)))) (then_there (names_of (part d 0)) d e (children l) j i)

  abbrev declared_at : ℕ → Tree
  declared_at i = child_or_absent ts i

  -- what is read there is read behind that list
  pub unused_goes : (i j : ℕ) → is_unused W outside ts i j ≡ true → is_unused W no_outside behind (suc i) j ≡ true
  unused_goes i j e =
      let (d, r) = and_parts (may_declare outside (declared_at i)) (is_unused_declarator (is_free_at ts i) W (list_at ts i) j outside ts i) e in
      and_both (declares_list (declared_at i)) (is_unused_declarator (is_free_at ts i) W (list_at ts i) j no_outside behind (suc i)) (declared_there outside (declared_at i) d) (sym (unused_within i j) ∙ r)

  pub single_goes : (i : ℕ) → is_single W outside ts i ≡ true → is_single W no_outside behind (suc i) ≡ true
  single_goes i e =
      let l = list_at ts i in
      let (d, r) = and_parts (may_declare outside (declared_at i)) (is_single_declarator (is_free_at ts i) W l (last_place (children l)) outside ts i) e in
      and_both (declares_list (declared_at i)) (is_single_declarator (is_free_at ts i) W l (last_place (children l)) no_outside behind (suc i)) (declared_there outside (declared_at i) d) (sym (single_within i) ∙ r)

  pub next_goes : (i j : ℕ) → is_next W outside ts i j ≡ true → is_next W no_outside behind (suc i) j ≡ true
  next_goes i j e =
      let (d, r) = and_parts (may_declare outside (declared_at i)) (is_read_by_next (is_free_at ts i) W (list_at ts i) j outside ts i) e in
      and_both (declares_list (declared_at i)) (is_read_by_next (is_free_at ts i) W (list_at ts i) j no_outside behind (suc i)) (declared_there outside (declared_at i) d) (sym (next_within_there i j) ∙ r)

  pub seen_there : (has_eval no_outside || has_eval (listed behind)) ≡ (has_eval outside || has_eval (listed ts))
  unfolding has_eval
  seen_there = ap (λ b. b || any_has_eval ts) (sym evals)

  -- the list that is left, behind what stands before it
  abbrev pub left : Tree → Tree
  left m = listed (listed front ▸ children m)

  gone_there : (m : Tree) → Gone W outside (listed ts) m → Gone W no_outside (listed behind) (left m)
  gone_there m r = record { unseen = seen_there ∙ r.unseen; name = by r.name }
    where
      by : NameGone W outside (listed ts) m ⊎ (ReadGone W outside (listed ts) m ⊎ NextGone W outside (listed ts) m) → NameGone W no_outside (listed behind) (left m) ⊎ (ReadGone W no_outside (listed behind) (left m) ⊎ NextGone W no_outside (listed behind) (left m))
      by (inl g) = inl (record { at = suc g.at; which = g.which; unused = (next_within g.at (count ts) g.unused.0, (g.unused.1.0, g.unused.1.1, unused_goes g.at g.which g.unused.1.2)); left = ap left g.left })
      by (inr (inl g)) = inr (inl (record { at = suc g.at; next = next_within (suc g.at) (count ts) g.next; declares = g.declares; single = single_goes g.at g.single; left = ap left g.left }))
      by (inr (inr g)) = inr (inr (record { at = suc g.at; which = g.which; there = (next_within g.at (count ts) g.there.0, (g.there.1.0, g.there.1.1, next_goes g.at g.which g.there.1.2)); left = ap left g.left }))

  pub row_behind : (m : Tree) → Gone W outside (listed ts) m → BlockRow W (block behind) (block (listed front ▸ children m))
  row_behind m r = gone_row W behind (left m) (gone_there m r)

-- where that is no list, nothing else is read behind it
module _ (W : Liberties) (outside : Tree) (front ts : Trees) (mentions : (x : Name) → names x outside ≡ any_names x front) (evals : has_eval outside ≡ any_has_eval front) (shut : is_listed_shape (shape_of outside) ≡ false) where
  abbrev there : Trees
  there = behind W outside front ts mentions evals

  same_declaration : (i : ℕ) → may_declare outside (child_or_absent ts i) ≡ declares_list (child_or_absent ts i)
  same_declaration i = ap (λ b. if b then is_var (child_or_absent ts i) else declares_list (child_or_absent ts i)) shut

  unused_there : (i j : ℕ) → is_unused W outside ts i j ≡ is_unused W no_outside there (suc i) j
  unused_there i j = λ k. same_declaration i k && unused_within W outside front ts mentions evals i j k

  single_there : (i : ℕ) → is_single W outside ts i ≡ is_single W no_outside there (suc i)
  single_there i = λ k. same_declaration i k && single_within W outside front ts mentions evals i k

  next_there : (i j : ℕ) → is_next W outside ts i j ≡ is_next W no_outside there (suc i) j
  next_there i j = λ k. same_declaration i k && next_within_there W outside front ts mentions evals i j k

  none_unused : UnusedAt W outside ts None → UnusedAt W no_outside there None
  none_unused u zero h = λ j g. refl
  none_unused u (suc i) h = λ j g. sym (unused_there i j) ∙ u i (omega (arith, h)) j g

  none_read : SingleAt W outside ts None → SingleAt W no_outside there None
  none_read u zero h = refl
  none_read u (suc i) h = sym (single_there i) ∙ u i (omega (arith, h))

  none_by_next : NextAt W outside ts None → NextAt W no_outside there None
  none_by_next u zero h = λ j g. refl
  none_by_next u (suc i) h = λ j g. sym (next_there i j) ∙ u i (omega (arith, h)) j g

  stays_there : (m : Tree) → Removed W outside (listed ts) m false → Removed W no_outside (listed there) (left W outside front ts mentions evals m) false
  stays_there m r = (ap (left W outside front ts mentions evals) r.0, by r.1)
    where
      by : ((has_eval outside || has_eval (listed ts)) ≡ true) ⊎ (UnusedAt W outside ts None × SingleAt W outside ts None × NextAt W outside ts None) → ((has_eval no_outside || has_eval (listed there)) ≡ true) ⊎ (UnusedAt W no_outside there None × SingleAt W no_outside there None × NextAt W no_outside there None)
      by (inl e) = inl (seen_there W outside front ts mentions evals ∙ e)
      by (inr u) = inr (none_unused u.0, none_read u.1, none_by_next u.2)

  pub none_behind : (m : Tree) → Removed W outside (listed ts) m false → (us : Trees) → us ≡ there → (w : Tree) → BlockRow W (block us) w → ⊥
  none_behind m r us e w row = rests W there (left W outside front ts mentions evals m) (stays_there m r) w (subst (λ v. BlockRow W (block v) w) e row)

-- ---- an arrow function: its parameters stand before its statements

module _ (W : Liberties) (directives : List (List ℕ)) (number : ℕ) (ps : Trees) where
  abbrev outside_arrow : Tree
  outside_arrow = node (shape.ArrowFunctionExpression directives) [] number (listed ps ▸ (absent ▸ none))

  arrow_mentions : (x : Name) → names x outside_arrow ≡ any_names x ps
  arrow_mentions x = or_none (any_names x ps)

  arrow_evals : has_eval outside_arrow ≡ any_has_eval ps
  unfolding has_eval
  arrow_evals = or_none (any_has_eval ps)

  -- the function, over the list that is left
  abbrev over : Tree → Tree
  over m = node (shape.ArrowFunctionExpression directives) [] number (listed ps ▸ (node shape.FunctionBody [] 0 (m ▸ none) ▸ none))

  arrow_over : (ts : Trees) (m : Tree) → Gone W outside_arrow (listed ts) m → ArrowBodyRow W (over (listed ts)) (over m)
  arrow_over ts m r =
      record { directives = directives; number = number; parameters = ps; before = ts; after = children m; row = row_behind W outside_arrow ps ts arrow_mentions arrow_evals m r; shape = refl; written = ap over (left_listed W outside_arrow ts m r) }

  arrow_rests : (ts : Trees) (m : Tree) → Removed W outside_arrow (listed ts) m false → (w : Tree) → ArrowBodyRow W (arrow_with directives number ps ts) w → ⊥
  arrow_rests ts m r w row =
      let parameters : listed row.parameters ≡ listed ps = sym (ap (λ t. part t 0) row.shape) in
      let before : row.before ≡ ts = sym (ap (λ t. children (part (part t 1) 0)) row.shape) in
      none_behind W outside_arrow ps ts arrow_mentions arrow_evals refl m r (listed row.parameters ▸ row.before) (λ k. parameters k ▸ before k) (block (listed row.parameters ▸ row.after)) row.row

  arrow_applied : (ts : Trees) (m : Tree) (c : Bool) → Removed W outside_arrow (listed ts) m c → (s : Seat) → Applied W (Expr s) (arrow_with directives number ps ts) (over m) c
  arrow_applied ts m true r s = several_moves W (Expr s) (ArrowBodyRow W) (λ t u a. inl a) (arrow_with directives number ps ts) (over m) (several_in W outside_arrow (ArrowBodyRow W) over arrow_over ts m r)
  arrow_applied ts m false r s = (ap over r.0, by)
    where
      by : (w : Tree) → UnusedRow W (Expr s) (arrow_with directives number ps ts) w → ⊥
      by w (inl a) = arrow_rests ts m r w a
      by w (inr f) = no_function W (arrow_with directives number ps ts) refl w f

-- ---- any other function: its name and its parameters do

module _ (W : Liberties) (d g : Bool) (directives : List (List ℕ)) (number : ℕ) (name : Tree) (ps : Trees) where
  abbrev outside_function : Tree
  outside_function = node (shape.Function d g directives) [] number (name ▸ (listed ps ▸ (absent ▸ none)))

  function_mentions : (x : Name) → names x outside_function ≡ any_names x (name ▸ ps)
  function_mentions x = ap (λ b. names x name || b) (or_none (any_names x ps))

  function_evals : has_eval outside_function ≡ any_has_eval (name ▸ ps)
  unfolding has_eval
  function_evals = ap (λ b. has_eval name || b) (or_none (any_has_eval ps))

  abbrev function_with_list : Tree → Tree
  function_with_list m = node (shape.Function d g directives) [] number (name ▸ (listed ps ▸ (node shape.FunctionBody [] 0 (m ▸ none) ▸ none)))

  function_over : (ts : Trees) (m : Tree) → Gone W outside_function (listed ts) m → FunctionBodyRow W (function_with_list (listed ts)) (function_with_list m)
  function_over ts m r = record {
    is_declared = d;
    is_generator = g;
    directives = directives;
    number = number;
    name = name;
    parameters = ps;
    before = ts;
    after = children m;
    row = row_behind W outside_function (name ▸ ps) ts function_mentions function_evals m r;
    shape = refl;
    written = ap function_with_list (left_listed W outside_function ts m r);
  }

  function_rests : (ts : Trees) (m : Tree) → Removed W outside_function (listed ts) m false → (w : Tree) → FunctionBodyRow W (function_with d g directives number name ps ts) w → ⊥
  function_rests ts m r w row =
      let named : row.name ≡ name = sym (ap (λ t. part t 0) row.shape) in
      let parameters : row.parameters ≡ ps = sym (ap (λ t. children (part t 1)) row.shape) in
      let before : row.before ≡ ts = sym (ap (λ t. children (part (part t 2) 0)) row.shape) in
      none_behind W outside_function (name ▸ ps) ts function_mentions function_evals refl m r (listed (row.name ▸ row.parameters) ▸ row.before) (λ k. listed (named k ▸ parameters k) ▸ before k) (block (listed (row.name ▸ row.parameters) ▸ row.after)) row.row

  function_applied : (ts : Trees) (m : Tree) (c : Bool) → Removed W outside_function (listed ts) m c → AppliedInFunction W (function_with d g directives number name ps ts) (function_with_list m) c
  function_applied ts m true r = several_in W outside_function (FunctionBodyRow W) function_with_list function_over ts m r
  function_applied ts m false r = (ap function_with_list r.0, function_rests ts m r)

-- ---- a module and a static block: nothing stands before their statements

no_static : (W : Liberties) (t : Tree) → is_static_block t ≡ false → (w : Tree) → StaticBlockRow W t w → ⊥
no_static W t e w r = true≢false (sym (ap is_static_block r.shape) ∙ e)

no_module : (W : Liberties) (t : Tree) → is_module t ≡ false → (w : Tree) → ModuleRow W t w → ⊥
no_module W t e w r = true≢false (sym (ap is_module r.shape) ∙ e)

module _ (W : Liberties) (directives : List (List ℕ)) where
  abbrev outside_module : Tree
  outside_module = node (shape.Program true directives) [] 0 (absent ▸ none)

  module_mentions : (x : Name) → names x outside_module ≡ any_names x none
  module_mentions x = refl

  module_evals : has_eval outside_module ≡ any_has_eval none
  unfolding has_eval
  module_evals = refl

  abbrev with_list : Tree → Tree
  with_list m = node (shape.Program true directives) [] 0 (m ▸ none)

  module_over : (ts : Trees) (m : Tree) → Gone W outside_module (listed ts) m → ModuleRow W (with_list (listed ts)) (with_list m)
  module_over ts m r = record { directives = directives; before = ts; after = children m; row = row_behind W outside_module none ts module_mentions module_evals m r; shape = refl; written = ap with_list (left_listed W outside_module ts m r) }

  module_rests : (ts : Trees) (m : Tree) → Removed W outside_module (listed ts) m false → (w : Tree) → ModuleRow W (program true directives ts) w → ⊥
  module_rests ts m r w row =
      let before : row.before ≡ ts = sym (ap (λ t. children (part t 0)) row.shape) in
      none_behind W outside_module none ts module_mentions module_evals refl m r (listed none ▸ row.before) (λ k. listed none ▸ before k) (block (listed none ▸ row.after)) row.row

  module_applied : (ts : Trees) (m : Tree) (c : Bool) → Removed W outside_module (listed ts) m c → Applied W Elsewhere (program true directives ts) (with_list m) c
  module_applied ts m true r = several_moves W Elsewhere (ModuleRow W) (λ t u a. inr (inl a)) (program true directives ts) (with_list m) (several_in W outside_module (ModuleRow W) with_list module_over ts m r)
  module_applied ts m false r = (ap with_list r.0, by)
    where
      by : (w : Tree) → UnusedRow W Elsewhere (program true directives ts) w → ⊥
      by w (inl f) = no_function W (program true directives ts) refl w f
      by w (inr (inl a)) = module_rests ts m r w a
      by w (inr (inr (inl a))) = no_static W (program true directives ts) refl w a
      by w (inr (inr (inr b))) = no_block (without_vars W.switches) (program true directives ts) refl w b

pub module_is : (t : Tree) → is_module t ≡ true → (directives : List (List ℕ)) × (t ≡ program true directives (children (part t 0)))
module_is (node (shape.Program true directives) [] zero (node shape.Listed [] zero ts ▸ none)) e = (directives, refl)
module_is (node (shape.Program true directives) [] zero (u ▸ none)) e = absurd (true≢false (sym e))
module_is t e = absurd (true≢false (sym e))

of_module : (W : Liberties) (t m : Tree) (c : Bool) → is_module t ≡ true → Removed (open_in (with_part t 0 absent) W) (with_part t 0 absent) (part t 0) m c → (u : Tree) → u ≡ with_part t 0 m → Applied W Elsewhere t u c
of_module W t m c h r u f =
    let (directives, is) = module_is t h in
    let ts = children (part t 0) in
    let there = subst (λ v. Removed (open_in (with_part v 0 absent) W) (with_part v 0 absent) (part v 0) m c) is r in
    subst (λ v. Applied W Elsewhere v u c) (sym is) (subst (λ v. Applied W Elsewhere (program true directives ts) v c) (sym (f ∙ ap (λ v. with_part v 0 m) is)) (module_applied W directives ts m c there))

module _ (W : Liberties) (number : ℕ) where
  abbrev outside_static : Tree
  outside_static = node shape.StaticBlock [] number (absent ▸ none)

  static_mentions : (x : Name) → names x outside_static ≡ any_names x none
  static_mentions x = refl

  static_evals : has_eval outside_static ≡ any_has_eval none
  unfolding has_eval
  static_evals = refl

  abbrev static_over : Tree → Tree
  static_over m = node shape.StaticBlock [] number (m ▸ none)

  static_gone : (ts : Trees) (m : Tree) → Gone W outside_static (listed ts) m → StaticBlockRow W (static_over (listed ts)) (static_over m)
  static_gone ts m r = record { number = number; before = ts; after = children m; row = row_behind W outside_static none ts static_mentions static_evals m r; shape = refl; written = ap static_over (left_listed W outside_static ts m r) }

  static_rests : (ts : Trees) (m : Tree) → Removed W outside_static (listed ts) m false → (w : Tree) → StaticBlockRow W (static_block number ts) w → ⊥
  static_rests ts m r w row =
      let before : row.before ≡ ts = sym (ap (λ t. children (part t 0)) row.shape) in
      none_behind W outside_static none ts static_mentions static_evals refl m r (listed none ▸ row.before) (λ k. listed none ▸ before k) (block (listed none ▸ row.after)) row.row

  static_applied : (ts : Trees) (m : Tree) (c : Bool) → Removed W outside_static (listed ts) m c → Applied W Elsewhere (static_block number ts) (static_over m) c
  static_applied ts m true r = several_moves W Elsewhere (StaticBlockRow W) (λ t u a. inr (inr (inl a))) (static_block number ts) (static_over m) (several_in W outside_static (StaticBlockRow W) static_over static_gone ts m r)
  static_applied ts m false r = (ap static_over r.0, by)
    where
      by : (w : Tree) → UnusedRow W Elsewhere (static_block number ts) w → ⊥
      by w (inl f) = no_function W (static_block number ts) refl w f
      by w (inr (inl a)) = no_module W (static_block number ts) refl w a
      by w (inr (inr (inl a))) = static_rests ts m r w a
      by w (inr (inr (inr b))) = no_block (without_vars W.switches) (static_block number ts) refl w b

pub static_is : (t : Tree) → is_static_block t ≡ true → t ≡ static_block (number_of t) (children (part t 0))
static_is (node shape.StaticBlock [] n (node shape.Listed [] zero ts ▸ none)) e = refl
static_is (node shape.StaticBlock [] n (u ▸ none)) e = absurd (true≢false (sym e))
static_is (node shape.StaticBlock [] n (u ▸ (v ▸ ts))) e = let one = (and_parts (nat_eq (count (u ▸ (v ▸ ts))) 1) (is_listed u) e).0 in let same = eqb-true (count (u ▸ (v ▸ ts))) 1 one in absurd (omega (arith, same))
static_is (node shape.StaticBlock [] n none) e = absurd (true≢false (sym e))
static_is (node shape.StaticBlock (x ∷ xs) n ts) e = absurd (true≢false (sym e))
static_is t e = absurd (true≢false (sym e))

of_static : (W : Liberties) (t m : Tree) (c : Bool) → is_static_block t ≡ true → Removed (open_in (with_part t 0 absent) W) (with_part t 0 absent) (part t 0) m c → (u : Tree) → u ≡ with_part t 0 m → Applied W Elsewhere t u c
of_static W t m c h r u f =
    let is = static_is t h in
    let ts = children (part t 0) in
    let there = subst (λ v. Removed (open_in (with_part v 0 absent) W) (with_part v 0 absent) (part v 0) m c) is r in
    subst (λ v. Applied W Elsewhere v u c) (sym is) (subst (λ v. Applied W Elsewhere (static_block (number_of t) ts) v c) (sym (f ∙ ap (λ v. with_part v 0 m) is)) (static_applied W (number_of t) ts m c there))

of_holder : (W : Liberties) (t m : Tree) (c : Bool) → holds_list t ≡ true → Removed (open_in (with_part t 0 absent) W) (with_part t 0 absent) (part t 0) m c → (u : Tree) → u ≡ with_part t 0 m → Applied W Elsewhere t u c
of_holder W t m c h r u f = by (is_module t) refl
  where
    by : (b : Bool) → is_module t ≡ b → Applied W Elsewhere t u c
    by true e = of_module W t m c e r u f
    by false e = of_static W t m c (sym (ap (λ b. b || is_static_block t) e) ∙ h) r u f

-- a block that is no statement
of_try_block : (W : Liberties) (t m : Tree) (c : Bool) → is_block t ≡ true → Removed (open_in (with_part t 0 absent) W) (with_part t 0 absent) (part t 0) m c → (u : Tree) → u ≡ with_part t 0 m → Applied W Elsewhere t u c
of_try_block W t m c b r u f = applied_there W Elsewhere (λ t u b. inr (inr (inr b))) by t m c b r u f
  where
    by : (ts : Trees) (w : Tree) → UnusedRow W Elsewhere (block ts) w → BlockRow (without_vars W.switches) (block ts) w
    by ts w (inl f) = absurd (no_function W (block ts) refl w f)
    by ts w (inr (inl a)) = absurd (no_module W (block ts) refl w a)
    by ts w (inr (inr (inl a))) = absurd (no_static W (block ts) refl w a)
    by ts w (inr (inr (inr b))) = b

pub of_statements : (W : Liberties) (t m : Tree) (c : Bool) → holds_statements t ≡ true → Removed (open_in (with_part t 0 absent) W) (with_part t 0 absent) (part t 0) m c → (u : Tree) → u ≡ with_part t 0 m → Applied W Elsewhere t u c
of_statements W t m c h r u f = by (is_block t) refl
  where
    by : (b : Bool) → is_block t ≡ b → Applied W Elsewhere t u c
    by true e = of_try_block W t m c e r u f
    by false e = of_holder W t m c (sym (ap (λ b. b || holds_list t) e) ∙ h) r u f

-- ---- what has such statements

body_is : (t : Tree) → are_statements t ≡ true → t ≡ statements (children (part t 0))
body_is (node shape.FunctionBody [] zero (node shape.Listed [] zero ts ▸ none)) e = refl
body_is (node shape.FunctionBody [] zero (u ▸ none)) e = absurd (true≢false (sym e))
body_is t e = absurd (true≢false (sym e))

arrow_parts : (t : Tree) → is_arrow_shape (shape_of t) ≡ true → are_no_names (names_of t) ≡ true → nat_eq (count (children t)) 2 ≡ true → (directives : List (List ℕ)) × (t ≡ node (shape.ArrowFunctionExpression directives) [] (number_of t) (part t 0 ▸ (part t 1 ▸ none)))
arrow_parts (node (shape.ArrowFunctionExpression directives) (x ∷ xs) n ts) e f g = absurd (true≢false (sym f))
arrow_parts (node (shape.ArrowFunctionExpression directives) [] n (a ▸ (b ▸ none))) e f g = (directives, refl)
arrow_parts (node (shape.ArrowFunctionExpression directives) [] n none) e f g = absurd (true≢false (sym g))
arrow_parts (node (shape.ArrowFunctionExpression directives) [] n (a ▸ none)) e f g = absurd (true≢false (sym g))
arrow_parts (node (shape.ArrowFunctionExpression directives) [] n (a ▸ (b ▸ (c ▸ ts)))) e f g = let two = eqb-true (count (a ▸ (b ▸ (c ▸ ts)))) 2 g in absurd (omega (arith, two))
arrow_parts t e f g = absurd (true≢false (sym e))

pub arrow_is : (t : Tree) → has_statements t ≡ true → (directives : List (List ℕ)) × (t ≡ arrow_with directives (number_of t) (children (part t 0)) (children (part (part t 1) 0)))
arrow_is t e =
    let (a, p) = and_parts (is_arrow_shape (shape_of t)) (are_no_names (names_of t) && (nat_eq (count (children t)) 2 && (is_listed (part t 0) && are_statements (part t 1)))) e in
    let (b, q) = and_parts (are_no_names (names_of t)) (nat_eq (count (children t)) 2 && (is_listed (part t 0) && are_statements (part t 1))) p in
    let (c, r) = and_parts (nat_eq (count (children t)) 2) (is_listed (part t 0) && are_statements (part t 1)) q in
    let (d, f) = and_parts (is_listed (part t 0)) (are_statements (part t 1)) r in
    let (directives, is) = arrow_parts t a b c in
    (directives, is ∙ (λ k. node (shape.ArrowFunctionExpression directives) [] (number_of t) (listed_is (part t 0) d k ▸ (body_is (part t 1) f k ▸ none))))

pub of_arrow : (W : Liberties) (t m : Tree) (c : Bool) → has_statements t ≡ true → Removed (open_in (with_part t 1 absent) W) (with_part t 1 absent) (part (part t 1) 0) m c → (u : Tree) → u ≡ with_part t 1 (with_part (part t 1) 0 m) → (s : Seat) → Applied W (Expr s) t u c
of_arrow W t m c h r u f s =
    let (directives, is) = arrow_is t h in
    let n = number_of t in
    let ps = children (part t 0) in
    let ts = children (part (part t 1) 0) in
    let there = subst (λ v. Removed (open_in (with_part v 1 absent) W) (with_part v 1 absent) (part (part v 1) 0) m c) is r in
    subst (λ v. Applied W (Expr s) v u c) (sym is)
    (subst (λ v. Applied W (Expr s) (arrow_with directives n ps ts) v c) (sym (f ∙ ap (λ v. with_part v 1 (with_part (part v 1) 0 m)) is)) (arrow_applied W directives n ps ts m c there s))

function_parts : (t : Tree) → is_function_shape (shape_of t) ≡ true → are_no_names (names_of t) ≡ true → nat_eq (count (children t)) 3 ≡ true → (d : Bool) × (g : Bool) × (directives : List (List ℕ)) × (t ≡ node (shape.Function d g directives) [] (number_of t) (part t 0 ▸ (part t 1 ▸ (part t 2 ▸ none))))
function_parts (node (shape.Function d g directives) (x ∷ xs) n ts) e f h = absurd (true≢false (sym f))
function_parts (node (shape.Function d g directives) [] n (a ▸ (b ▸ (c ▸ none)))) e f h = (d, g, directives, refl)
function_parts (node (shape.Function d g directives) [] n none) e f h = absurd (true≢false (sym h))
function_parts (node (shape.Function d g directives) [] n (a ▸ none)) e f h = absurd (true≢false (sym h))
function_parts (node (shape.Function d g directives) [] n (a ▸ (b ▸ none))) e f h = absurd (true≢false (sym h))
function_parts (node (shape.Function d g directives) [] n (a ▸ (b ▸ (c ▸ (u ▸ ts))))) e f h = let three = eqb-true (count (a ▸ (b ▸ (c ▸ (u ▸ ts))))) 3 h in absurd (omega (arith, three))
function_parts t e f h = absurd (true≢false (sym e))

pub function_is : (t : Tree) → is_function t ≡ true → (d : Bool) × (g : Bool) × (directives : List (List ℕ)) × (t ≡ function_with d g directives (number_of t) (part t 0) (children (part t 1)) (children (part (part t 2) 0)))
function_is t e =
    let (a, p) = and_parts (is_function_shape (shape_of t)) (are_no_names (names_of t) && (nat_eq (count (children t)) 3 && (is_listed (part t 1) && are_statements (part t 2)))) e in
    let (b, q) = and_parts (are_no_names (names_of t)) (nat_eq (count (children t)) 3 && (is_listed (part t 1) && are_statements (part t 2))) p in
    let (c, r) = and_parts (nat_eq (count (children t)) 3) (is_listed (part t 1) && are_statements (part t 2)) q in
    let (l, f) = and_parts (is_listed (part t 1)) (are_statements (part t 2)) r in
    let (d, g, directives, is) = function_parts t a b c in
    (d, g, directives, is ∙ (λ k. node (shape.Function d g directives) [] (number_of t) (part t 0 ▸ (listed_is (part t 1) l k ▸ (body_is (part t 2) f k ▸ none)))))

pub of_function : (W : Liberties) (t m : Tree) (c : Bool) → is_function t ≡ true → Removed (open_in (with_part t 2 absent) W) (with_part t 2 absent) (part (part t 2) 0) m c → (u : Tree) → u ≡ with_part t 2 (with_part (part t 2) 0 m) → AppliedInFunction W t u c
of_function W t m c h r u f =
    let (d, g, directives, is) = function_is t h in
    let n = number_of t in
    let name = part t 0 in
    let ps = children (part t 1) in
    let ts = children (part (part t 2) 0) in
    let there = subst (λ v. Removed (open_in (with_part v 2 absent) W) (with_part v 2 absent) (part (part v 2) 0) m c) is r in
    subst (λ v. AppliedInFunction W v u c) (sym is)
    (subst (λ v. AppliedInFunction W (function_with d g directives n name ps ts) v c) (sym (f ∙ ap (λ v. with_part v 2 (with_part (part v 2) 0 m)) is)) (function_applied W d g directives n name ps ts m c there))

pub stays : (W : Liberties) (t : Tree) → is_function t ≡ false → AppliedInFunction W t t false
stays W t e = (refl, no_function W t e)

-- ---- where a function stands

pub as_statement : (W : Liberties) (t u : Tree) (c : Bool) → has_head t ≡ false → is_switch t ≡ false → is_block t ≡ false → AppliedInFunction W t u c → (q : StmtSeat) → Applied W (Stmt q) t u c
as_statement W t u true h s e r q = several_moves W (Stmt q) (FunctionBodyRow W) (λ t u f. inr (inl f)) t u r
as_statement W t u false h s e r q = (r.0, by)
  where
    by : (w : Tree) → UnusedRow W (Stmt q) t w → ⊥
    by w (inl b) = no_block (without_vars W.switches) t e w b
    by w (inr (inl f)) = r.1 w f
    by w (inr (inr (inl v))) = no_switch t s w v
    by w (inr (inr (inr v))) = no_head W.switches t h w v

pub as_expression : (W : Liberties) (t u : Tree) (c : Bool) → has_statements t ≡ false → AppliedInFunction W t u c → (s : Seat) → Applied W (Expr s) t u c
as_expression W t u true e r s = several_moves W (Expr s) (FunctionBodyRow W) (λ t u f. inr f) t u r
as_expression W t u false e r s = (r.0, by)
  where
    by : (w : Tree) → UnusedRow W (Expr s) t w → ⊥
    by w (inl a) = no_arrow W t e w a
    by w (inr f) = r.1 w f

pub as_method : (W : Liberties) (t u : Tree) (c : Bool) → AppliedInFunction W t u c → Applied W Method t u c
as_method W t u true r = several_moves W Method (FunctionBodyRow W) (λ t u f. f) t u r
as_method W t u false r = r

pub as_exported : (W : Liberties) (t u : Tree) (c : Bool) → holds_statements t ≡ false → AppliedInFunction W t u c → Applied W Elsewhere t u c
as_exported W t u true e r = several_moves W Elsewhere (FunctionBodyRow W) (λ t u f. inl f) t u r
as_exported W t u false e r = (r.0, by (or_parts (is_block t) (holds_list t) e))
  where
    by : (is_block t ≡ false) × (holds_list t ≡ false) → (w : Tree) → UnusedRow W Elsewhere t w → ⊥
    by (b, l) w (inl f) = r.1 w f
    by (b, l) w (inr (inl a)) = no_module W t (or_parts (is_module t) (is_static_block t) l).0 w a
    by (b, l) w (inr (inr (inl a))) = no_static W t (or_parts (is_module t) (is_static_block t) l).1 w a
    by (b, l) w (inr (inr (inr a))) = no_block (without_vars W.switches) t b w a

-- anywhere else
pub elsewhere : (W : Liberties) (p : Position) (t : Tree) → ((q : StmtSeat) → p ≡ Stmt q → ⊥) → ((s : Seat) → p ≡ Expr s → ⊥) → (p ≡ Method → ⊥) → (p ≡ Elsewhere → ⊥) → Applied W p t t false
elsewhere W (Stmt q) t f g h i = absurd (f q refl)
elsewhere W (Expr s) t f g h i = absurd (g s refl)
elsewhere W Method t f g h i = absurd (h refl)
elsewhere W Elsewhere t f g h i = absurd (i refl)
elsewhere W p t f g h i = (refl, λ w r. absurd r)

-- ---- the context

-- its tables tell what can be written in the program that it knows, and it has these options
pub told : (c : TraverseCtx) (o : CompressOptions) (q : Tree) → Knows c o q → allowed c ≡ allowed_in o q
told c o q k = λ j. liberties (switches_of (k.options j)) (λ x. by x j)
  where
    by : (x : Variable) → marked c.scopes x ≡ writable_in q x
    by (Declared s) = k.refreshed.told.writable_told s
    by (Global s) = refl

pub known : (c : TraverseCtx) (p : Position) (t u : Tree) (b : Bool) → Applied (allowed c) p t u b → (o : CompressOptions) (q : Tree) → Knows c o q → rule.Applied (Gives o q) (Rests o q) p t u b
known c p t u b r o q k = subst (λ W. Applied W p t u b) (told c o q k) r

-- ---- where memory does not run out

pub where_ok : {E : Type 0} (r : Result Bool E) (P Q : Bool → Type 0) → ((c : Bool) → P c → Q c) → IfOk r P → IfOk r Q
where_ok (Ok c) P Q f p = f c p
where_ok (Err e) P Q f p = p

-- what is put back at a place
pub put_back : (t : Tree) (i : ℕ) (m u v : Tree) → u ≡ with_part t i absent → v ≡ with_part u i m → v ≡ with_part t i m
put_back t i m u v e f = f ∙ ap (λ w. with_part w i m) e ∙ part_twice t i absent m
