-- A name whose buckets hold its declaration and one read alone is mentioned nowhere else.
use Rattle.std.proofs.Common.{◌≡◌, ℕ, suc, ◌<◌, Bool, true, false, [], ◌∷◌, sym, ap, subst, arith}
use Rattle.std.specs.Prelude.{not, ◌&&◌, ◌||◌}
use Rattle.std.proofs.lemmas.Bool.{and_parts}
use Rattle.mini_model.specs.Tree.{Tree, Trees, listed, children, count, child_or_absent}
use Rattle.mini_kept.specs.Without.{Assured}
use Rattle.mini_node.specs.Children.{names_of, part}
use Rattle.mini_rows.specs.Past.{are_past}
use Rattle.mini_rows.specs.Switches.{Liberties}
use Rattle.mini_rows.specs.Unused.{resolved, is_first}
use Rattle.mini_unused.specs.declared.tallies.Tallies.{Tallies}
use Rattle.mini_unused.specs.RemoveUnusedDeclaration.{declares_list, list_at}
use Rattle.mini_unused.specs.SubstituteNext.{is_declarator}
use Rattle.mini_unused.specs.Tallies.{Tallied}
use Rattle.mini_unused.proofs.Rare.{rare_around_head, rare_beside}
use Rattle.mini_unused.proofs.Unused.{and_both, Declares, declares, declarator_is}
use Rattle.mini_past.proofs.NextPlaces.{passing}
use Rattle.mini_past.specs.SubstitutePast.{held_at, may_pass_by, is_read_past, is_read_past_then, is_past_declarator, is_past_by_next}
use Rattle.mini_past.specs.RareReads.{AreRareAtHead, AreRareInNext}

named_is : (d : Tree) (one : Declares d) → names_of (part d 0) ≡ resolved one.spelling one.symbol ∷ []
named_is d one = ap (λ u. names_of (part u 0)) one.is

module _ (T : Tallies) (V : Assured) (o : Tree) (ts : Trees) (i j : ℕ) (h : i < count ts) (d : declares_list (child_or_absent ts i) ≡ true) (told : Tallied T o (listed ts)) where
  abbrev l : Tree
  l = list_at ts i

  abbrev init : Tree
  init = part (part l j) 1

  read_in : suc i < count ts → j < count (children l) → Declares (part l j) → AreRareAtHead T (held_at V ts i (children l) j) (names_of (part (part l j) 0)) init (child_or_absent ts (suc i)) → is_read_past V (names_of (part (part l j) 0)) o init (children l) j ts i ≡ true
  read_in next g one r =
      let named = named_is (part l j) one in
      let rare = subst (λ xs. AreRareAtHead T (held_at V ts i (children l) j) xs init (child_or_absent ts (suc i))) named r in
      let (p, q, u, v, w) = rare_around_head T o ts i j h d g one told next rare.1 rare.0.1 rare.0.0 in
      subst (λ xs. is_read_past V xs o init (children l) j ts i ≡ true) (sym named) (λ k. rare.1 k && (not (p k) && (rare.2 k && (not (q k || u k) && not (w k || v k)))))

  next_in : suc j < count (children l) → Declares (part l j) → is_declarator (part l (suc j)) ≡ true → AreRareInNext T (held_at V ts i (children l) j) (names_of (part (part l j) 0)) init (part (part l (suc j)) 1) → is_read_past_then V (names_of (part (part l j) 0)) (part l j) (part l (suc j)) o (children l) j ts i ≡ true
  next_in g one other r =
      let value = part (part l (suc j)) 1 in
      let named = named_is (part l j) one in
      let x = resolved one.spelling one.symbol in
      let rare = subst (λ xs. AreRareInNext T (held_at V ts i (children l) j) xs init value) named r in
      let first = (and_parts (is_first x false value) (are_past (held_at V ts i (children l) j) x init value) rare.1).0 in
      let beside = rare_beside T o ts i j h d (omega (arith, g)) one told g (declarator_is (part l (suc j)) other) first rare.0.1 rare.0.0 in
      subst (λ xs. is_read_past_then V xs (part l j) (part l (suc j)) o (children l) j ts i ≡ true) (sym named) (λ k. rare.1 k && beside k)

  pub read_past : (W : Liberties) (free : Bool) (m : Tree) → m ≡ l → suc i < count ts → j < count (children m) → may_pass_by free W (part m j) ≡ true → AreRareAtHead T (held_at V ts i (children m) j) (names_of (part (part m j) 0)) (part (part m j) 1) (child_or_absent ts (suc i)) → is_past_declarator V free W m j o ts i ≡ true
  read_past W free m e next =
      subst (λ u. j < count (children u) → may_pass_by free W (part u j) ≡ true → AreRareAtHead T (held_at V ts i (children u) j) (names_of (part (part u j) 0)) (part (part u j) 1) (child_or_absent ts (suc i)) → is_past_declarator V free W u j o ts i ≡ true) (sym e)
      (λ g may r. and_both (may_pass_by free W (part l j)) (is_read_past V (names_of (part (part l j) 0)) o init (children l) j ts i) may (read_in next g (declares (part l j) (passing free W (part l j) may).0) r))

  pub next_past : (W : Liberties) (free : Bool) (m : Tree) → m ≡ l → suc j < count (children m) → may_pass_by free W (part m j) ≡ true → is_declarator (part m (suc j)) ≡ true → AreRareInNext T (held_at V ts i (children m) j) (names_of (part (part m j) 0)) (part (part m j) 1) (part (part m (suc j)) 1) → is_past_by_next V free W m j o ts i ≡ true
  next_past W free m e =
      subst (λ u. suc j < count (children u) → may_pass_by free W (part u j) ≡ true → is_declarator (part u (suc j)) ≡ true → AreRareInNext T (held_at V ts i (children u) j) (names_of (part (part u j) 0)) (part (part u j) 1) (part (part u (suc j)) 1) → is_past_by_next V free W u j o ts i ≡ true) (sym e)
      (λ g may other r.
      let read = next_in g (declares (part l j) (passing free W (part l j) may).0) other r in
      and_both (is_declarator (part l (suc j))) (may_pass_by free W (part l j) && is_read_past_then V (names_of (part (part l j) 0)) (part l j) (part l (suc j)) o (children l) j ts i) other (and_both (may_pass_by free W (part l j)) (is_read_past_then V (names_of (part (part l j) 0)) (part l j) (part l (suc j)) o (children l) j ts i) may read))
