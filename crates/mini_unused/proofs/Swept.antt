-- Names that go from a list one after another.
use Rattle.std.proofs.Common.{◌≡◌, ℕ, zero, suc, ◌+◌, ◌<◌, Bool, true, false, [], ◌∷◌, refl, sym, ap, ◌∙◌, subst, inl, inr, add-one, arith}
use Rattle.std.specs.Prelude.{◌≤◌, ◌&&◌, ◌||◌, if◌then◌else◌, Some, Result, Ok, Err, OnOk}
use Rattle.std.proofs.lemmas.Bool.{and_parts}
use Rattle.mini_model.specs.Tree.{Tree, Trees, node, none, ◌▸◌, absent, listed, shape_of, children, count, child_or_absent}
use Rattle.mini_laws.specs.ScopeList.{has_eval}
use Rattle.mini_node.specs.Children.{names_of, part}
use Rattle.mini_rows.specs.Unused.{resolved, may_move}
use Rattle.mini_rows.specs.Switches.{Liberties}
use Rattle.mini_unused.specs.Chains.{Chain, still, Several}
use Rattle.mini_unused.specs.RemoveUnusedDeclaration.{declares_name, may_lose, may_go, is_alone, declares_list, may_declare, is_lexical_shape, is_free_at, is_unused_declarator, list_at, list_left, UnusedOf, UnusedAt}
use Rattle.mini_unused.specs.SubstituteNext.{is_declarator, is_read_then, is_read_by_next, list_next, NextOf, NextAt}
use Rattle.mini_unused.specs.SubstituteSingleUse.{is_read_once, is_single_declarator, is_single, last_place, list_single, SingleAt, Gone}
use Rattle.mini_unused.specs.Sweep.{declarators_of, may_go_at, may_move_at, Calm, Swept}
use Rattle.mini_unused.specs.Tallies.{Tallied, AreRare, AreRead, AreReadIn}
use Rattle.mini_unused.specs.declared.tallies.Tallies.{Tallies}
use Rattle.mini_unused.proofs.Chains.{chain_joined, chain_once}
use Rattle.mini_unused.proofs.Unused.{and_both, Declares, declares, declarator_is}
use Rattle.mini_unused.proofs.SingleUses.{last_is, single_by}
use Rattle.mini_unused.proofs.Uneval.{still_unseen}
use Rattle.mini_unused.proofs.Rare.{still_tallied, rare_alone, rare_read, rare_next}

-- ---- the declarator that the tests find

three_and_one : (a b c d : Bool) → (a && (b && c)) ≡ true → d ≡ true → (a && (b && (c && d))) ≡ true
three_and_one a b c d e f =
    let (x, y) = and_parts a (b && c) e in
    let (z, v) = and_parts b c y in
    and_both a (b && (c && d)) x (and_both b (c && d) z (and_both c d v f))

pub unused_there : (W : Liberties) (o : Tree) (ts : Trees) (i j : ℕ) (statement l : Tree) (free : Bool) → statement ≡ child_or_absent ts i → may_declare o statement ≡ true → 0 < count (children statement) → l ≡ part statement 0 → j < count (children l) → free ≡ is_lexical_shape (shape_of statement)
    → may_go_at free W l j ≡ true → is_alone (names_of (part (part l j) 0)) o (part (part l j) 1) (children l) j ts i ≡ true → UnusedOf W o ts i (Some j)
unused_there W o ts i j statement l free s d h f g z e t =
    let there : l ≡ list_at ts i = f ∙ ap (λ u. part u 0) s in
    let is_free : free ≡ is_free_at ts i = z ∙ ap (λ u. is_lexical_shape (shape_of u)) s in
    let unused : is_unused_declarator free W l j o ts i ≡ true = three_and_one (declares_name (part l j)) (may_lose free W (names_of (part (part l j) 0))) (may_go (part (part l j) 1) l) (is_alone (names_of (part (part l j) 0)) o (part (part l j) 1) (children l) j ts i) e t in (
      subst (λ u. 0 < count (children u)) s h,
      subst (λ u. j < count (children u)) there g,
      and_both (may_declare o (child_or_absent ts i)) (is_unused_declarator (is_free_at ts i) W (list_at ts i) j o ts i) (sym (ap (may_declare o) s) ∙ d) (sym (λ k. is_unused_declarator (is_free k) W (there k) j o ts i) ∙ unused),
    )

pub single_there : (W : Liberties) (o : Tree) (ts : Trees) (i j : ℕ) (statement l : Tree) (free : Bool) → statement ≡ child_or_absent ts i → may_declare o statement ≡ true → l ≡ part statement 0 → j + 1 ≡ count (children l) → free ≡ is_lexical_shape (shape_of statement)
    → may_move_at free W l j ≡ true → is_read_once (names_of (part (part l j) 0)) o (part (part l j) 1) (children l) j ts i ≡ true → is_single W o ts i ≡ true
single_there W o ts i j statement l free s d f g z e t =
    let single : is_single_declarator free W l j o ts i ≡ true = three_and_one (declares_name (part l j)) (may_lose free W (names_of (part (part l j) 0))) (may_move W.switches (part (part l j) 1)) (is_read_once (names_of (part (part l j) 0)) o (part (part l j) 1) (children l) j ts i) e t in
    let last : j ≡ last_place (children l) = omega (arith, g, last_is (children l) (omega (arith, g))) in
    sym (single_by W o ts i statement l j free true s d f last z (sym single))

pub some_declarator : (ts : Trees) (i j : ℕ) (statement l : Tree) → statement ≡ child_or_absent ts i → l ≡ part statement 0 → j + 1 ≡ count (children l) → 0 < count (children (list_at ts i))
some_declarator ts i j statement l s f g = subst (λ u. 0 < count (children u)) (f ∙ ap (λ u. part u 0) s) (omega (arith, g))

-- the tables tell that nothing else mentions its name

named_is : (d : Tree) (one : Declares d) → names_of (part d 0) ≡ resolved one.spelling one.symbol ∷ []
named_is d one = ap (λ u. names_of (part u 0)) one.is

module _ (T : Tallies) (o : Tree) (ts : Trees) (i j : ℕ) (h : i < count ts) (d : declares_list (child_or_absent ts i) ≡ true) (told : Tallied T o (listed ts)) where
  alone_in : j < count (children (list_at ts i)) → (one : Declares (part (list_at ts i) j)) → AreRare T (names_of (part (part (list_at ts i) j) 0)) 1 → is_alone (names_of (part (part (list_at ts i) j) 0)) o (part (part (list_at ts i) j) 1) (children (list_at ts i)) j ts i ≡ true
  alone_in g one r =
      let named = named_is (part (list_at ts i) j) one in
      subst (λ xs. is_alone xs o (part (part (list_at ts i) j) 1) (children (list_at ts i)) j ts i ≡ true) (sym named) (rare_alone T o ts i j h d g one told (subst (λ xs. AreRare T xs 1) named r))

  pub alone_there : (l : Tree) → l ≡ list_at ts i → j < count (children l) → declares_name (part l j) ≡ true → AreRare T (names_of (part (part l j) 0)) 1 → is_alone (names_of (part (part l j) 0)) o (part (part l j) 1) (children l) j ts i ≡ true
  alone_there l e =
      subst (λ u. j < count (children u) → declares_name (part u j) ≡ true → AreRare T (names_of (part (part u j) 0)) 1 → is_alone (names_of (part (part u j) 0)) o (part (part u j) 1) (children u) j ts i ≡ true) (sym e)
      (λ g n r. alone_in g (declares (part (list_at ts i) j) n) r)

  read_in : suc i < count ts → j < count (children (list_at ts i)) → (one : Declares (part (list_at ts i) j)) → AreRead T (names_of (part (part (list_at ts i) j) 0)) (part (part (list_at ts i) j) 1) (child_or_absent ts (suc i)) → is_read_once (names_of (part (part (list_at ts i) j) 0)) o (part (part (list_at ts i) j) 1) (children (list_at ts i)) j ts i ≡ true
  read_in next g one r =
      let named = named_is (part (list_at ts i) j) one in
      let rare = subst (λ xs. AreRead T xs (part (part (list_at ts i) j) 1) (child_or_absent ts (suc i))) named r in
      subst (λ xs. is_read_once xs o (part (part (list_at ts i) j) 1) (children (list_at ts i)) j ts i ≡ true) (sym named) (rare_read T o ts i j h d g one told next rare.1 rare.2 rare.0)

  pub read_there : suc i < count ts → (l : Tree) → l ≡ list_at ts i → j < count (children l) → declares_name (part l j) ≡ true → AreRead T (names_of (part (part l j) 0)) (part (part l j) 1) (child_or_absent ts (suc i)) → is_read_once (names_of (part (part l j) 0)) o (part (part l j) 1) (children l) j ts i ≡ true
  read_there next l e =
      subst (λ u. j < count (children u) → declares_name (part u j) ≡ true → AreRead T (names_of (part (part u j) 0)) (part (part u j) 1) (child_or_absent ts (suc i)) → is_read_once (names_of (part (part u j) 0)) o (part (part u j) 1) (children u) j ts i ≡ true) (sym e)
      (λ g n r. read_in next g (declares (part (list_at ts i) j) n) r)

-- the next one reads it

read_by_both : (a b c d e : Bool) → (a && (c && d)) ≡ true → b ≡ true → e ≡ true → (a && (b && (c && (d && e)))) ≡ true
read_by_both a b c d e f g h =
    let (x, y) = and_parts a (c && d) f in
    let (z, v) = and_parts c d y in
    and_both a (b && (c && (d && e))) x (and_both b (c && (d && e)) g (and_both c (d && e) z (and_both d e v h)))

pub next_there : (W : Liberties) (o : Tree) (ts : Trees) (i j : ℕ) (statement l : Tree) (free : Bool) → statement ≡ child_or_absent ts i → may_declare o statement ≡ true → 0 < count (children statement) → l ≡ part statement 0 → j + 1 < count (children l) → free ≡ is_lexical_shape (shape_of statement)
    → may_move_at free W l j ≡ true → is_declarator (part l (j + 1)) ≡ true → is_read_then (names_of (part (part l j) 0)) (part l j) (part l (j + 1)) o (children l) j ts i ≡ true → NextOf W o ts i (Some j)
next_there W o ts i j statement l free s d h f g z e n t =
    let there : l ≡ list_at ts i = f ∙ ap (λ u. part u 0) s in
    let is_free : free ≡ is_free_at ts i = z ∙ ap (λ u. is_lexical_shape (shape_of u)) s in
    let one = add-one j in
    let read : is_read_by_next free W l j o ts i ≡ true =
    read_by_both (declares_name (part l j)) (is_declarator (part l (suc j))) (may_lose free W (names_of (part (part l j) 0))) (may_move W.switches (part (part l j) 1)) (is_read_then (names_of (part (part l j) 0)) (part l j) (part l (suc j)) o (children l) j ts i) e
    (sym (ap (λ k. is_declarator (part l k)) one) ∙ n) (sym (ap (λ k. is_read_then (names_of (part (part l j) 0)) (part l j) (part l k) o (children l) j ts i) one) ∙ t) in (
      subst (λ u. 0 < count (children u)) s h,
      subst (λ u. suc j < count (children u)) there (omega (arith, g)),
      and_both (may_declare o (child_or_absent ts i)) (is_read_by_next (is_free_at ts i) W (list_at ts i) j o ts i) (sym (ap (may_declare o) s) ∙ d) (sym (λ k. is_read_by_next (is_free k) W (there k) j o ts i) ∙ read),
    )

module _ (T : Tallies) (o : Tree) (ts : Trees) (i j : ℕ) (h : i < count ts) (d : declares_list (child_or_absent ts i) ≡ true) (told : Tallied T o (listed ts)) where
  next_in : suc j < count (children (list_at ts i)) → (one : Declares (part (list_at ts i) j)) → is_declarator (part (list_at ts i) (suc j)) ≡ true → AreReadIn T (names_of (part (part (list_at ts i) j) 0)) (part (part (list_at ts i) j) 1) (part (part (list_at ts i) (suc j)) 1) → is_read_then (names_of (part (part (list_at ts i) j) 0)) (part (list_at ts i) j) (part (list_at ts i) (suc j)) o (children (list_at ts i)) j ts i ≡ true
  next_in g one other r =
      let named = named_is (part (list_at ts i) j) one in
      let rare = subst (λ xs. AreReadIn T xs (part (part (list_at ts i) j) 1) (part (part (list_at ts i) (suc j)) 1)) named r in
      subst (λ xs. is_read_then xs (part (list_at ts i) j) (part (list_at ts i) (suc j)) o (children (list_at ts i)) j ts i ≡ true) (sym named) (rare_next T o ts i j h d (omega (arith, g)) one told g (declarator_is (part (list_at ts i) (suc j)) other) rare.1 rare.2 rare.0)

  pub read_by_next : (l : Tree) → l ≡ list_at ts i → j + 1 < count (children l) → declares_name (part l j) ≡ true → is_declarator (part l (j + 1)) ≡ true → AreReadIn T (names_of (part (part l j) 0)) (part (part l j) 1) (part (part l (j + 1)) 1) → is_read_then (names_of (part (part l j) 0)) (part l j) (part l (j + 1)) o (children l) j ts i ≡ true
  read_by_next l e =
      subst (λ u. j + 1 < count (children u) → declares_name (part u j) ≡ true → is_declarator (part u (j + 1)) ≡ true → AreReadIn T (names_of (part (part u j) 0)) (part (part u j) 1) (part (part u (j + 1)) 1) → is_read_then (names_of (part (part u j) 0)) (part u j) (part u (j + 1)) o (children u) j ts i ≡ true) (sym e)
      (subst (λ k. k < count (children (list_at ts i)) → declares_name (part (list_at ts i) j) ≡ true → is_declarator (part (list_at ts i) k) ≡ true → AreReadIn T (names_of (part (part (list_at ts i) j) 0)) (part (part (list_at ts i) j) 1) (part (part (list_at ts i) k) 1) → is_read_then (names_of (part (part (list_at ts i) j) 0)) (part (list_at ts i) j) (part (list_at ts i) k) o (children (list_at ts i)) j ts i ≡ true) (sym (add-one j))
      (λ g n m r. next_in g (declares (part (list_at ts i) j) n) m r))

-- ---- a list that has lost a name

pub name_gone : (W : Liberties) (o l m : Tree) (ts : Trees) (at which : ℕ) → ts ≡ children l → UnusedAt W o ts (Some (at, which)) → (has_eval o || has_eval l) ≡ false → m ≡ list_left l at which → Gone W o l m
name_gone W o l m ts at which e u v f = record { unseen = v; name = inl (record { at = at; which = which; unused = subst (λ us. UnusedAt W o us (Some (at, which))) e u; left = f }) }

pub read_gone : (W : Liberties) (o l m : Tree) (ts : Trees) (at last : ℕ) → ts ≡ children l → SingleAt W o ts (Some at) → (has_eval o || has_eval l) ≡ false → last ≡ last_place (children (list_at (children l) at)) → m ≡ list_single l at last → Gone W o l m
read_gone W o l m ts at last e u v g f =
    let single = subst (λ us. SingleAt W o us (Some at)) e u in
    record { unseen = v; name = inr (inl (record { at = at; next = single.0; declares = single.3; single = single.4; left = f ∙ ap (list_single l at) g })) }

pub next_gone : (W : Liberties) (o l m : Tree) (ts : Trees) (at which : ℕ) → ts ≡ children l → NextAt W o ts (Some (at, which)) → (has_eval o || has_eval l) ≡ false → m ≡ list_next l at which → Gone W o l m
next_gone W o l m ts at which e u v f = record { unseen = v; name = inr (inr (record { at = at; which = which; there = subst (λ us. NextAt W o us (Some (at, which))) e u; left = f })) }

-- ---- a list that has lost some names

pub swept_none : (W : Liberties) (T : Tallies) (o l : Tree) → Calm T o l → Swept W T o l l
swept_none W T o l c = record { gone = still l; calm = c }

pub swept_one : (W : Liberties) (T : Tallies) (o l m : Tree) → Calm T o l → Gone W o l m → Swept W T o l m
swept_one W T o l m c g =
    let there = still_unseen W o l m (record { is_list = c.is_list; unseen = c.unseen }) g in
    record { gone = chain_once (Gone W o) l m g; calm = record { is_list = there.is_list; unseen = there.unseen; tallied = still_tallied T W o l m g c.tallied } }

pub swept_on : (W : Liberties) (T : Tallies) (o l k m : Tree) → Swept W T o l k → Swept W T o k m → Swept W T o l m
swept_on W T o l k m s t = record { gone = chain_joined (Gone W o) l k m s.gone t.gone; calm = t.calm }

pub some_gone : (W : Liberties) (o l k m : Tree) → Gone W o l k → Chain (Gone W o) k m → Several (Gone W o) l m
some_gone W o l k m g s = record { next = k; first = g; others = s }

pub on_ok : {A E : Type 0} (r : Result A E) (P Q : Type 0) → (P → Q) → OnOk r P → OnOk r Q
on_ok (Ok a) P Q f p = f p
on_ok (Err e) P Q f p = p

-- ---- how many declarators a statement has

none_there : (ts : Trees) (i : ℕ) → count ts ≤ i → child_or_absent ts i ≡ absent
none_there none i h = refl
none_there (t ▸ ts) zero h = absurd (omega (arith, h))
none_there (t ▸ ts) (suc i) h = none_there ts i (omega (arith, h))

-- none behind the last
pub none_behind : (l : Tree) (i : ℕ) → count (children l) ≤ i → declarators_of (part l i) ≡ 0
none_behind (node h xs n ts) i e = ap declarators_of (none_there ts i e)

pub no_declarators : (t : Tree) → declares_list t ≡ false → declarators_of t ≡ 0
no_declarators t e = ap (λ b. if b then count (children (part t 0)) else 0) e
