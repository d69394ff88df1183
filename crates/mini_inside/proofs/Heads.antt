-- The head of a `for`: its parts are read like the statements of a block, of which its declaration is the first.
use Rattle.std.proofs.Common.{◌≡◌, ℕ, zero, suc, ◌<◌, Bool, true, false, List, [], ◌∷◌, refl, sym, ap, ◌∙◌, subst, inl, inr, true≢false, arith}
use Rattle.std.specs.Prelude.{◌⊎◌, ◌&&◌, ◌||◌, Some, None, if◌then◌else◌}
use Rattle.std.proofs.lemmas.Bool.{and_parts}
use Rattle.mini_model.specs.declared.kind.VariableDeclarationKind.{VariableDeclarationKind}
use Rattle.mini_model.specs.declared.name.Name.{Name}
use Rattle.mini_model.specs.declared.place.Position.TheVariants.{Stmt}
use Rattle.mini_model.specs.declared.seat.StmtSeat.{StmtSeat}
use Rattle.mini_model.specs.declared.shape.Shape.TheVariants as shape
use Rattle.mini_model.specs.Tree.{Tree, Trees, node, none, ◌▸◌, absent, listed, shape_of, children, count, child_or_absent, empty_statement}
use Rattle.mini_model.specs.Paths.{append}
use Rattle.mini_laws.specs.ScopeList.{has_eval, any_has_eval}
use Rattle.mini_node.specs.Children.{names_of, part, with_part, without, is_bare, first_children, rest_children}
use Rattle.mini_node.specs.Kinds.{is_block}
use Rattle.mini_rows.specs.Declarations.{binding, declarator}
use Rattle.mini_rows.specs.Lists.{block, declaration, declares_nothing, for_loop}
use Rattle.mini_rows.specs.Unused.{resolved, declared_among, head_left, is_idle, may_move, UnusedRow, ForRow, ForNextRow, ForHeadRow}
use Rattle.mini_rows.specs.Switches.{Switches, Liberties, without_vars}
use Rattle.mini_unused.specs.RemoveUnusedDeclaration.{declares_name, declares_list, is_lexical_shape, is_free_at, may_lose, may_go, is_alone, is_unused_declarator, list_at, is_unused, UnusedOf, open_in}
use Rattle.mini_unused.specs.SubstituteNext.{is_declarator, is_read_then, is_read_by_next, is_next, NextOf, declarators_next, list_next}
use Rattle.mini_unused.specs.Chains.{still}
use Rattle.mini_unused.proofs.Unused.{no_outside, and_both, without_is, ds, d, init, first, last, kind, let_there, one, x, unused, statement_is, Read, unused_there, declarator_within, no_block}
use Rattle.mini_unused.proofs.NextUses.{block_next, next_row, next_begins, next_there, next_within}
use Rattle.mini_inside.specs.Holding.{is_function, is_switch, is_for_shape, has_head, is_idle_at, head_without, Applied, AppliedIdle, AppliedNext, AppliedInHead, IdleDropped}
use Rattle.mini_inside.proofs.Moves.{several_moves}
use Rattle.mini_inside.proofs.Holders.{or_none, no_function, no_switch}

-- 72 of a `let` or a `const` reads the same whatever lets a `var` go, and whatever names are kept
abbrev closed : Liberties
closed = without_vars (record { sequences = false; join_vars = false; keep_function_names = true; keep_class_names = true; edition = 2022 })

-- ---- what is outside of it mentions nothing

alone_same : (xs : List Name) (v : Tree) (us : Trees) (j : ℕ) (ts : Trees) (i : ℕ) → is_alone xs empty_statement v us j ts i ≡ is_alone xs no_outside v us j ts i
alone_same [] v us j ts i = refl
alone_same (y ∷ xs) v us j ts i = refl

same_test : (W : Liberties) (ts : Trees) (j : ℕ) → is_lexical_shape (shape_of (child_or_absent ts 0)) ≡ true → is_unused (open_in empty_statement W) empty_statement ts 0 j ≡ is_unused closed no_outside ts 0 j
same_test W ts j e =
    let c = child_or_absent ts 0 in
    let l = list_at ts 0 in
    let p = part l j in
    ap (λ f. declares_list c && is_unused_declarator f (open_in empty_statement W) l j empty_statement ts 0) e
    ∙ ap (λ b. declares_list c && (declares_name p && (true && (may_go (part p 1) l && b)))) (alone_same (names_of (part p 0)) (part p 1) (children l) j ts 0)
    ∙ sym (ap (λ f. declares_list c && is_unused_declarator f closed l j no_outside ts 0) e)

-- ---- a `for`

record Head (t : Tree) : Type 0 where
  is : t ≡ for_loop (part t 0) (part t 1) (part t 2) (part t 3)
  lexical : is_lexical_shape (shape_of (part t 0)) ≡ true
  declares : declares_list (part t 0) ≡ true

for_is : (t : Tree) → is_for_shape (shape_of t) && is_bare t 4 ≡ true → t ≡ for_loop (part t 0) (part t 1) (part t 2) (part t 3)
for_is (node shape.ForStatement [] zero (a ▸ (b ▸ (c ▸ (e ▸ none))))) h = refl
for_is t h = absurd (true≢false (sym h))

head : (t : Tree) → has_head t ≡ true → Head t
head t h =
    let (a, p) = and_parts (is_for_shape (shape_of t)) (is_bare t 4 && (is_lexical_shape (shape_of (part t 0)) && declares_list (part t 0))) h in
    let (b, q) = and_parts (is_bare t 4) (is_lexical_shape (shape_of (part t 0)) && declares_list (part t 0)) p in
    let (c, e) = and_parts (is_lexical_shape (shape_of (part t 0))) (declares_list (part t 0)) q in
    record { is = for_is t (and_both (is_for_shape (shape_of t)) (is_bare t 4) a b); lexical = c; declares = e }

-- what is left of the declarators
pub head_left_is : (k : VariableDeclarationKind) (us : Trees) (j : ℕ) → j < count us → (if is_bare (listed us) 1 then absent else declaration k (without us j)) ≡ head_left k (append (first_children j us) (rest_children (suc j) us))
head_left_is k none j h = absurd (omega (arith, h))
head_left_is k (t ▸ none) zero h = refl
head_left_is k (t ▸ none) (suc j) h = absurd (omega (arith, h))
head_left_is k (t ▸ (c ▸ us)) zero h = refl
head_left_is k (t ▸ (c ▸ us)) (suc j) h = ap (λ vs. declaration k (t ▸ vs)) (without_is (c ▸ us) j)

block_evals : (ts : Trees) → has_eval (block ts) ≡ any_has_eval ts
unfolding has_eval
block_evals ts = or_none (any_has_eval ts)

for_evals : (a b c e : Tree) → has_eval (for_loop a b c e) ≡ any_has_eval (a ▸ (b ▸ (c ▸ (e ▸ none))))
unfolding has_eval
for_evals a b c e = refl

-- ---- such a declarator is what the row says

module _ (a b c e : Tree) (lexical : is_lexical_shape (shape_of a) ≡ true) (j : ℕ) (g : j < count (children (part a 0))) (idle : is_idle (part (part (part a 0) j) 1) ≡ true) (u : is_unused closed no_outside (a ▸ (b ▸ (c ▸ (e ▸ none)))) 0 j ≡ true) (v : has_eval (for_loop a b c e) ≡ false) where
  abbrev all : Trees
  all = a ▸ (b ▸ (c ▸ (e ▸ none)))

  abbrev as_block : Tree
  as_block = block all

  within : 0 < count all
  within = omega arith

  unseen : has_eval as_block ≡ false
  unseen = block_evals all ∙ sym (for_evals a b c e) ∙ v

  abbrev there : Tree
  there = declared_among (kind as_block 0 j refl within g closed u unseen) (x as_block 0 j refl within g closed u unseen) (first as_block 0 j refl within g closed u unseen) (init as_block 0 j refl within g closed u unseen) (last as_block 0 j refl within g closed u unseen)

  is_there : a ≡ there
  is_there = statement_is as_block 0 j refl within g closed u unseen

  in_head : ForRow (for_loop a b c e) (for_loop (head_without a j) b c e)
  in_head =
      let k = kind as_block 0 j refl within g closed u unseen in
      let s = one as_block 0 j refl within g closed u unseen in
      let f = first as_block 0 j refl within g closed u unseen in
      let l = last as_block 0 j refl within g closed u unseen in
      let alone_there = unused as_block 0 j refl within g closed u unseen in
      let us = ds as_block 0 j refl within g closed u unseen in
      record {
        kind = k;
        first = f;
        spelling = s.spelling;
        symbol = s.symbol;
        init = init as_block 0 j refl within g closed u unseen;
        last = l;
        test = b;
        update = c;
        body = e;
        lexical = sym (ap (λ y. is_lexical_shape (shape_of y)) is_there) ∙ lexical;
        idle = idle;
        declared_earlier = alone_there.declared_earlier;
        initial = alone_there.initial;
        declared_later = alone_there.declared_later;
        later = alone_there.later;
        unseen = sym (ap (λ y. has_eval (for_loop y b c e)) is_there) ∙ v;
        shape = ap (λ y. for_loop y b c e) is_there;
        written = ap (λ y. for_loop (head_without y j) b c e) (let_there as_block 0 j refl within g closed u unseen) ∙ ap (λ h. for_loop h b c e) (head_left_is k us j g);
      }

dropped_there : (W : Liberties) (t : Tree) (j : ℕ) → has_head t ≡ true → UnusedOf (open_in empty_statement W) empty_statement (children t) 0 (Some j) → (u : Tree) → IdleDropped t j u true → AppliedIdle t u true
dropped_there W t j h n u d =
    let r = head t h in
    let a = part t 0 in
    let b = part t 1 in
    let c = part t 2 in
    let z = part t 3 in
    let ts = ap children r.is in
    let idle = (and_parts (declares_name (part (part a 0) j)) (is_idle (part (part (part a 0) j) 1)) d.0).1 in
    let found = sym (same_test W (a ▸ (b ▸ (c ▸ (z ▸ none)))) j r.lexical) ∙ sym (ap (λ us. is_unused (open_in empty_statement W) empty_statement us 0 j) ts) ∙ n.2 in
    let inside = subst (λ us. j < count (children (list_at us 0))) ts n.1 in
    let row = in_head a b c z r.lexical j inside idle found (sym (ap has_eval r.is) ∙ d.1) in
    subst (λ y. ForRow y u) (sym r.is) (subst (ForRow (for_loop a b c z)) (sym (d.2 ∙ ap (λ y. with_part y 0 (head_without a j)) r.is)) row)

-- ---- where there is none, no row reads it

as_read : (t w : Tree) (r : ForRow t w) → Read closed (block (declared_among r.kind (resolved r.spelling r.symbol) r.first r.init r.last ▸ (r.test ▸ (r.update ▸ (r.body ▸ none)))))
as_read t w r =
    let a = declared_among r.kind (resolved r.spelling r.symbol) r.first r.init r.last in
    record {
      before = none;
      kind = r.kind;
      first = r.first;
      spelling = r.spelling;
      symbol = r.symbol;
      init = r.init;
      last = r.last;
      after = r.test ▸ (r.update ▸ (r.body ▸ none));
      lost = ap (λ b. b || false) r.lexical;
      goes = ap (λ b. b || (is_bare (listed (append r.first (declarator (binding (resolved r.spelling r.symbol)) r.init ▸ r.last))) 1 && declares_nothing r.init)) r.idle;
      unused = record { earlier = refl; declared_earlier = r.declared_earlier; initial = r.initial; declared_later = r.declared_later; later = r.later; unseen = block_evals (a ▸ (r.test ▸ (r.update ▸ (r.body ▸ none)))) ∙ sym (for_evals a r.test r.update r.body) ∙ r.unseen };
      shape = refl;
    }

pub none_there : (W : Liberties) (t : Tree) → has_head t ≡ true → UnusedOf (open_in empty_statement W) empty_statement (children t) 0 None → AppliedIdle t t false
unfolding as_read
none_there W t h n = (refl, by)
  where
    by : (w : Tree) → ForRow t w → ⊥
    by w r =
        let a = declared_among r.kind (resolved r.spelling r.symbol) r.first r.init r.last in
        let ts : Trees = a ▸ (r.test ▸ (r.update ▸ (r.body ▸ none))) in
        let read = as_read t w r in
        let here = unused_there closed (block ts) read in
        let inside = declarator_within closed (block ts) read in
        let moved = subst (λ us. UnusedOf (open_in empty_statement W) empty_statement us 0 None) (ap children r.shape) n in
        true≢false (sym (same_test W ts (count r.first) r.lexical ∙ here) ∙ moved (count r.first) inside)

seen_there : (t : Tree) → has_eval t ≡ true → AppliedIdle t t false
seen_there t e = (refl, λ w r. true≢false (sym e ∙ ap has_eval r.shape ∙ r.unseen))

-- and where something misses the initializer of the first that nothing mentions, it is the only one

single_there : (first : Trees) (c : Tree) (last : Trees) → is_bare (listed (append first (c ▸ last))) 1 ≡ true → (j : ℕ) → j < count (append first (c ▸ last)) → child_or_absent (append first (c ▸ last)) j ≡ c
single_there none c none e zero h = refl
single_there none c none e (suc j) h = absurd (omega (arith, h))
single_there none c (b ▸ last) e j h = absurd (true≢false (sym e))
single_there (a ▸ none) c last e j h = absurd (true≢false (sym e))
single_there (a ▸ (b ▸ first)) c last e j h = absurd (true≢false (sym e))

pub missed_declarator : (free : Bool) (W : Liberties) (o : Tree) (x : Name) (first : Trees) (v : Tree) (last ts : Trees) (i j : ℕ) → j < count (append first (declarator (binding x) v ▸ last)) → is_unused_declarator free W (listed (append first (declarator (binding x) v ▸ last))) j o ts i ≡ true → is_idle_at (listed (append first (declarator (binding x) v ▸ last))) j ≡ false → is_idle v ≡ true → ⊥
missed_declarator free W o x first v last ts i j inside u f idle =
    let d = declarator (binding x) v in
    let us = append first (d ▸ last) in
    let l = listed us in
    let z = part (part l j) 1 in
    let lost = may_lose free W (names_of (part (part l j) 0)) in
    let alone_there = is_alone (names_of (part (part l j) 0)) o z us j ts i in
    let (named, p) = and_parts (declares_name (part l j)) (lost && (may_go z l && alone_there)) u in
    let (y, q) = and_parts lost (may_go z l && alone_there) p in
    let (goes, y) = and_parts (may_go z l) alone_there q in
    let missed : is_idle z ≡ false = sym (ap (λ b. b && is_idle z) named) ∙ f in
    let (single, present) = and_parts (is_bare l 1) (declares_nothing z) (sym (ap (λ b. b || (is_bare l 1 && declares_nothing z)) missed) ∙ goes) in
    true≢false (sym idle ∙ sym (ap (λ y. is_idle (part y 1)) (single_there first d last single j inside)) ∙ missed)

missed_there : (W : Liberties) (t : Tree) (j : ℕ) → UnusedOf (open_in empty_statement W) empty_statement (children t) 0 (Some j) → is_idle_at (part (part t 0) 0) j ≡ false → AppliedIdle t t false
missed_there W t j n e = (refl, by)
  where
    by : (w : Tree) → ForRow t w → ⊥
    by w r =
        let x = resolved r.spelling r.symbol in
        let us = append r.first (declarator (binding x) r.init ▸ r.last) in
        let ts = children (for_loop (declared_among r.kind x r.first r.init r.last) r.test r.update r.body) in
        let inside : j < count us = subst (λ us. j < count (children (list_at us 0))) (ap children r.shape) n.1 in
        let u = sym (ap (λ us. is_unused (open_in empty_statement W) empty_statement us 0 j) (ap children r.shape)) ∙ n.2 in
        missed_declarator (is_free_at ts 0) (open_in empty_statement W) empty_statement x r.first r.init r.last ts 0 j inside u (sym (ap (λ y. is_idle_at (part (part y 0) 0) j) r.shape) ∙ e) r.idle

pub idle_dropped : (W : Liberties) (t : Tree) (j : ℕ) → has_head t ≡ true → UnusedOf (open_in empty_statement W) empty_statement (children t) 0 (Some j) → (u : Tree) (b : Bool) → IdleDropped t j u b → AppliedIdle t u b
idle_dropped W t j h n u true d = dropped_there W t j h n u d
idle_dropped W t j h n u false d = by d.1
  where
    by : (is_idle_at (part (part t 0) 0) j ≡ false) ⊎ (has_eval t ≡ true) → AppliedIdle t u false
    by (inl e) = (d.0, (missed_there W t j n e).1)
    by (inr e) = (d.0, (seen_there t e).1)

-- ---- a name that the next declarator reads

then_same : (xs : List Name) (d e : Tree) (us : Trees) (j : ℕ) (ts : Trees) (i : ℕ) → is_read_then xs d e empty_statement us j ts i ≡ is_read_then xs d e no_outside us j ts i
then_same [] d e us j ts i = refl
then_same (y ∷ xs) d e us j ts i = refl

next_same : (W : Liberties) (ts : Trees) (j : ℕ) → is_lexical_shape (shape_of (child_or_absent ts 0)) ≡ true → is_next (open_in empty_statement W) empty_statement ts 0 j ≡ is_next (without_vars W.switches) no_outside ts 0 j
next_same W ts j e =
    let c = child_or_absent ts 0 in
    let l = list_at ts 0 in
    let d = part l j in
    let n = part l (suc j) in
    ap (λ f. declares_list c && is_read_by_next f (open_in empty_statement W) l j empty_statement ts 0) e
    ∙ ap (λ b. declares_list c && (declares_name d && (is_declarator n && (true && (may_move W.switches (part d 1) && b))))) (then_same (names_of (part d 0)) d n (children l) j ts 0)
    ∙ sym (ap (λ f. declares_list c && is_read_by_next f (without_vars W.switches) l j no_outside ts 0) e)

module _ (o : Switches) (a b c e : Tree) (j : ℕ) (g : suc j < count (children (part a 0))) (u : is_next (without_vars o) no_outside (a ▸ (b ▸ (c ▸ (e ▸ none)))) 0 j ≡ true) (v : has_eval (for_loop a b c e) ≡ false) where
  abbrev next_block : Tree
  next_block = block (a ▸ (b ▸ (c ▸ (e ▸ none))))

  within_block : 0 < count (children (part next_block 0))
  within_block = omega arith

  next_unseen : has_eval next_block ≡ false
  next_unseen = block_evals (children (part next_block 0)) ∙ sym (for_evals a b c e) ∙ v

  next_in_head : ForNextRow o (for_loop a b c e) (for_loop (with_part a 0 (declarators_next (part a 0) j)) b c e)
  next_in_head = record {
    before = a;
    after = with_part a 0 (declarators_next (part a 0) j);
    test = b;
    update = c;
    body = e;
    row = next_row next_block 0 j refl within_block g (without_vars o) u next_unseen (block_next next_block 0 j) refl;
    begins = next_begins next_block 0 j refl within_block g (without_vars o) u next_unseen (block_next next_block 0 j) refl;
    shape = refl;
    written = refl;
  }

pub next_gone : (W : Liberties) (t : Tree) (j : ℕ) → has_head t ≡ true → NextOf (open_in empty_statement W) empty_statement (children t) 0 (Some j) → has_eval t ≡ false → (u : Tree) → u ≡ list_next t 0 j → AppliedNext W.switches t u true
next_gone W t j h n v u f =
    let r = head t h in
    let a = part t 0 in
    let b = part t 1 in
    let c = part t 2 in
    let z = part t 3 in
    let o = W.switches in
    let ts = ap children r.is in
    let found = sym (next_same W (a ▸ (b ▸ (c ▸ (z ▸ none)))) j r.lexical) ∙ sym (ap (λ us. is_next (open_in empty_statement W) empty_statement us 0 j) ts) ∙ n.2 in
    let inside = subst (λ us. suc j < count (children (list_at us 0))) ts n.1 in
    let row = next_in_head o a b c z j inside found (sym (ap has_eval r.is) ∙ v) in
    subst (λ y. ForNextRow o y u) (sym r.is) (subst (ForNextRow o (for_loop a b c z)) (sym (f ∙ ap (λ y. list_next y 0 j) r.is)) row)

pub none_by_next : (W : Liberties) (t : Tree) → has_head t ≡ true → NextOf (open_in empty_statement W) empty_statement (children t) 0 None → AppliedNext W.switches t t false
none_by_next W t h n = (refl, by)
  where
    by : (w : Tree) → ForNextRow W.switches t w → ⊥
    by w r =
        let V = without_vars W.switches in
        let c = r.row in
        let j = count c.first in
        let ts : Trees = r.before ▸ (r.test ▸ (r.update ▸ (r.body ▸ none))) in
        let us : Trees = r.after ▸ (r.test ▸ (r.update ▸ (r.body ▸ none))) in
        let here = subst (λ i. is_next V no_outside ts i j ≡ true) (ap count r.begins) (next_there V (block ts) (block us) c) in
        let inside = subst (λ i. suc j < count (children (list_at ts i))) (ap count r.begins) (next_within V (block ts) (block us) c) in
        let moved = subst (λ us. NextOf (open_in empty_statement W) empty_statement us 0 None) (ap children r.shape) n in
        let lexical = sym (ap (λ y. is_lexical_shape (shape_of (part y 0))) r.shape) ∙ (head t h).lexical in
        true≢false (sym (next_same W ts j lexical ∙ here) ∙ moved j inside)

pub seen_by_eval : (o : Switches) (t : Tree) → has_eval t ≡ true → AppliedNext o t t false
seen_by_eval o t e = (refl, by)
  where
    by : (w : Tree) → ForNextRow o t w → ⊥
    by w r = true≢false (sym e ∙ ap has_eval r.shape ∙ for_evals r.before r.test r.update r.body ∙ sym (block_evals (r.before ▸ (r.test ▸ (r.update ▸ (r.body ▸ none))))) ∙ ap has_eval r.row.shape ∙ r.row.unseen)

-- where neither a name goes nor the next declarator reads one, no row reads it
pub of_both : (o : Switches) (t v u : Tree) (b : Bool) → AppliedIdle t v false → AppliedNext o v u b → AppliedInHead o t u b
of_both o t v u true f s = inr (subst (λ y. ForNextRow o y u) f.0 s)
of_both o t v u false f s = (s.0 ∙ f.0, by)
  where
    by : (w : Tree) → ForHeadRow o t w → ⊥
    by w (inl r) = f.1 w r
    by w (inr r) = subst (λ y. (w : Tree) → ForNextRow o y w → ⊥) f.0 s.1 w r

-- ---- as a statement

pub of_head : (W : Liberties) (t u : Tree) (b : Bool) → has_head t ≡ true → AppliedInHead W.switches t u b → (q : StmtSeat) → Applied W (Stmt q) t u b
of_head W t u true h r q = several_moves W (Stmt q) (ForHeadRow W.switches) (λ t u r. inr (inr (inr r))) t u (record { next = u; first = r; others = still u })
of_head W t u false h r q = (r.0, by)
  where
    no_other : (t : Tree) → has_head t ≡ true → (is_block t ≡ false) × (is_function t ≡ false) × (is_switch t ≡ false)
    no_other (node shape.ForStatement xs n ts) e = (refl, refl, refl)
    no_other t e = absurd (true≢false (sym e))

    by : (w : Tree) → UnusedRow W (Stmt q) t w → ⊥
    by w (inl k) = no_block (without_vars W.switches) t (no_other t h).0 w k
    by w (inr (inl f)) = no_function W t (no_other t h).1 w f
    by w (inr (inr (inl s))) = no_switch t (no_other t h).2 w s
    by w (inr (inr (inr v))) = r.1 w v
