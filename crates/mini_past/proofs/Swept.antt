-- Names that go from a list one after another; where one does, no direct eval comes about.
use Rattle.std.proofs.Common.{◌≡◌, ◌≤◌, ℕ, suc, Bool, true, false, List, [], ◌∷◌, refl, sym, ap, ◌∙◌, subst, inl, inr, true≢false, arith}
use Rattle.std.specs.Prelude.{not, ◌⊎◌, ◌&&◌, ◌||◌, Some, if◌then◌else◌}
use Rattle.std.proofs.lemmas.Bool.{and_parts}
use Rattle.mini_model.specs.declared.name.Name.{Name}
use Rattle.mini_model.specs.declared.shape.Shape.{Shape}
use Rattle.mini_model.specs.Tree.{Tree, Trees, node, none, ◌▸◌, children, child_or_absent}
use Rattle.mini_kept.specs.Without.{Assured}
use Rattle.mini_laws.specs.ScopeList.{has_eval}
use Rattle.mini_node.specs.Children.{names_of, part, with_part}
use Rattle.mini_rows.proofs.Sunk.{value_past}
use Rattle.mini_rows.specs.Past.{Kept, passes_any_at, is_certain, are_past_in, are_past, all_past}
use Rattle.mini_rows.specs.declared.gathered.Gathered.{Gathered}
use Rattle.mini_rows.specs.declared.gathered.Gathered.TheVariants.{Values as OfValues}
use Rattle.mini_rows.specs.Unused.{names, begins_with, suits, is_sure, is_placed, gathered_below, is_first, reads_head, evaluated}
use Rattle.mini_rows.specs.Switches.{Liberties}
use Rattle.mini_unused.specs.Chains.{Chain, still, Several}
use Rattle.mini_unused.specs.RemoveUnusedDeclaration.{may_declare, is_free_at, list_at}
use Rattle.mini_unused.specs.SubstituteNext.{put_named, is_mentioned_beside, is_mentioned_elsewhere, declarators_next, list_next}
use Rattle.mini_unused.specs.SubstituteSingleUse.{declaration_left, last_place, is_declared_over, is_mentioned_around, list_single}
use Rattle.mini_unused.specs.Sweep.{Calm}
use Rattle.mini_unused.specs.Tallies.{tally}
use Rattle.mini_unused.specs.declared.tallies.Tallies.{Tallies}
use Rattle.mini_unused.proofs.Chains.{chain_joined, chain_once}
use Rattle.mini_unused.proofs.Rare.{list_moved, list_next_fewer, fewer_tallied}
use Rattle.mini_unused.proofs.Uneval.{Unseen, part_of, declaration_without, suits_along, suits_among, put_there, put_along_head, next_without, unseen_with, in_list}
use Rattle.mini_past.proofs.NextPlaces.{declaring, found}
use Rattle.mini_past.specs.SubstitutePast.{held_at, may_pass_by, reads_past_in, is_read_past, is_read_past_then, PastAt, PastNextAt, ReadPast, NextPast, PastGone, Swept}

-- ---- no direct eval comes about

mutual
  past_along : (H : Kept) (x : Name) (m : Gathered) (r t : Tree) → are_past_in H x m r t ≡ true → suits_along x r t ≡ true
  past_along H x m r (node h ys n ts) e =
      let (a, b) = and_parts (is_certain x m r h ts) (all_past H x m r h 0 ts) e in
      ap (λ c. c && suits_among x r ts) (and_parts (suits x r h ts) (is_placed m false h && (is_sure false h || begins_with x ts)) a).0 ∙ past_among H x m r h 0 ts b

  past_among : (H : Kept) (x : Name) (m : Gathered) (r : Tree) (h : Shape) (i : ℕ) (ts : Trees) → all_past H x m r h i ts ≡ true → suits_among x r ts ≡ true
  past_among H x m r h i none e = refl
  past_among H x m r h i (t ▸ ts) e = by (names x t) e (past_along H x (gathered_below m h i) r t) (past_among H x m r h (suc i) ts)
    where
      by : (c : Bool) → (if c then are_past_in H x (gathered_below m h i) r t else (passes_any_at H m r h t && all_past H x m r h (suc i) ts)) ≡ true → (are_past_in H x (gathered_below m h i) r t ≡ true → suits_along x r t ≡ true) → (all_past H x m r h (suc i) ts ≡ true → suits_among x r ts ≡ true) → (if c then suits_along x r t else suits_among x r ts) ≡ true
      by true e f g = f e
      by false e f g = g (and_parts (passes_any_at H m r h t) (all_past H x m r h (suc i) ts) e).1

once_put : (V : Assured) (xs : List Name) (o init : Tree) (ds : Trees) (j : ℕ) (ts : Trees) (i : ℕ) → is_read_past V xs o init ds j ts i ≡ true → has_eval init ≡ false → has_eval (child_or_absent ts (suc i)) ≡ false → has_eval (put_named xs init (child_or_absent ts (suc i))) ≡ false
once_put V [] o init ds j ts i e f g = absurd (true≢false (sym e))
once_put V (x ∷ xs) o init ds j ts i e f g =
    let head = child_or_absent ts (suc i) in
    let a = are_past (held_at V ts i ds j) x init (evaluated head) in
    let around = not (is_declared_over x init ds j) && not (is_mentioned_around x ts i) in
    let (first, p) = and_parts (reads_head x head) (not (names x o) && (a && around)) e in
    let (n, q) = and_parts (not (names x o)) (a && around) p in
    let (past, r) = and_parts a around q in
    put_along_head x init head first (past_along (held_at V ts i ds j) x OfValues init (evaluated head) (value_past (held_at V ts i ds j) x init (evaluated head) past)) f g

then_put : (V : Assured) (xs : List Name) (d e o : Tree) (ds : Trees) (j : ℕ) (ts : Trees) (i : ℕ) → is_read_past_then V xs d e o ds j ts i ≡ true → has_eval (part d 1) ≡ false → has_eval (part e 1) ≡ false → has_eval (put_named xs (part d 1) (part e 1)) ≡ false
then_put V [] d e o ds j ts i h f g = absurd (true≢false (sym h))
then_put V (x ∷ xs) d e o ds j ts i h f g =
    let reads = reads_past_in (held_at V ts i ds j) x (part d 1) (part e 1) in
    let (read, q) = and_parts reads (not (is_mentioned_beside x d e ds j) && (not (names x o) && not (is_mentioned_elsewhere x ts i))) h in
    let (first, past) = and_parts (is_first x false (part e 1)) (are_past (held_at V ts i ds j) x (part d 1) (part e 1)) read in
    put_there x false (part d 1) (part e 1) first (past_along (held_at V ts i ds j) x OfValues (part d 1) (part e 1) (value_past (held_at V ts i ds j) x (part d 1) (part e 1) past)) f g

module _ (V : Assured) (W : Liberties) (o l m : Tree) (c : Unseen o l) where
  read_gone : ReadPast V W o l m → Unseen o m
  read_gone g =
      let ts = children l in
      let ds = list_at ts g.at in
      let j = last_place (children ds) in
      let d = part ds j in
      let init = part d 1 in
      let once = is_read_past V (names_of (part d 0)) o init (children ds) j ts g.at in
      let passes = may_pass_by (is_free_at ts g.at) W d in
      let (may, p) = and_parts (may_declare o (child_or_absent ts g.at)) (passes && once) g.there in
      let declares = declaring o (child_or_absent ts g.at) may in
      let (a, f) = and_parts passes once p in
      let there = in_list o l g.at c in
      let value : has_eval init ≡ false = part_of d 1 (part_of ds j (part_of (part l g.at) 0 there)) in
      let left = unseen_with o l g.at (declaration_left (part l g.at) j) c (declaration_without (part l g.at) j declares there) in
      let head = once_put V (names_of (part d 0)) o init (children ds) j ts g.at f value (in_list o l (suc g.at) c) in
      subst (Unseen o) (sym g.left) (unseen_with o (with_part l g.at (declaration_left (part l g.at) j)) (suc g.at) (put_named (names_of (part d 0)) init (part l (suc g.at))) left head)

  next_gone : NextPast V W o l m → Unseen o m
  next_gone g =
      let t = found V W o (children l) g.at g.which g.there.1.2 in
      let ds = list_at (children l) g.at in
      let one = part ds g.which in
      let following = part ds (suc g.which) in
      let there = part_of (part l g.at) 0 (in_list o l g.at c) in
      let put = then_put V (names_of (part one 0)) one following o (children ds) g.which (children l) g.at t.read (part_of one 1 (part_of ds g.which there)) (part_of following 1 (part_of ds (suc g.which) there)) in
      subst (Unseen o) (sym g.left) (unseen_with o l g.at (with_part (part l g.at) 0 (declarators_next (part (part l g.at) 0) g.which)) c (next_without (part l g.at) g.which t.declared t.next put (in_list o l g.at c)))

  gone_unseen : ReadPast V W o l m ⊎ NextPast V W o l m → Unseen o m
  gone_unseen (inl r) = read_gone r
  gone_unseen (inr n) = next_gone n

pub still_unseen : (V : Assured) (W : Liberties) (o l m : Tree) → Unseen o l → PastGone V W o l m → Unseen o m
still_unseen V W o l m c g = gone_unseen V W o l m c g.name

-- ---- a list that has lost a name

pub read_past : (V : Assured) (W : Liberties) (o l m : Tree) (ts : Trees) (at last : ℕ) → ts ≡ children l → PastAt V W o ts (Some at) → (has_eval o || has_eval l) ≡ false → last ≡ last_place (children (list_at (children l) at)) → m ≡ list_single l at last → PastGone V W o l m
read_past V W o l m ts at last e u v g f =
    let there = subst (λ us. PastAt V W o us (Some at)) e u in
    record { unseen = v; name = inl (record { at = at; next = there.0; declares = there.3; there = there.4; left = f ∙ ap (list_single l at) g }) }

pub next_past : (V : Assured) (W : Liberties) (o l m : Tree) (ts : Trees) (at which : ℕ) → ts ≡ children l → PastNextAt V W o ts (Some (at, which)) → (has_eval o || has_eval l) ≡ false → m ≡ list_next l at which → PastGone V W o l m
next_past V W o l m ts at which e u v f = record { unseen = v; name = inr (record { at = at; which = which; there = subst (λ us. PastNextAt V W o us (Some (at, which))) e u; left = f }) }

-- ---- a list that has lost some names

module _ (V : Assured) (W : Liberties) (o : Tree) where
  -- no name stands more often in what is left
  left_fewer : (l m : Tree) → PastGone V W o l m → (f : Name → ℕ) (b : ℕ) → tally f b m ≤ tally f b l
  left_fewer l m g f b = by g.name
    where
      by : ReadPast V W o l m ⊎ NextPast V W o l m → tally f b m ≤ tally f b l
      by (inl r) = let less = list_moved f b l r.at (last_place (children (list_at (children l) r.at))) in let same = ap (tally f b) r.left in omega (arith, less, same)
      by (inr n) = let less = list_next_fewer f b l n.at n.which in let same = ap (tally f b) n.left in omega (arith, less, same)

  module _ (T : Tallies) where
    pub swept_none : (l : Tree) → Calm T o l → Swept V W T o l l
    swept_none l c = record { gone = still l; calm = c }

    pub swept_one : (l m : Tree) → Calm T o l → PastGone V W o l m → Swept V W T o l m
    swept_one l m c g =
        let u = gone_unseen V W o l m (record { is_list = c.is_list; unseen = c.unseen }) g.name in
        record { gone = chain_once (PastGone V W o) l m g; calm = record { is_list = u.is_list; unseen = u.unseen; tallied = fewer_tallied T o l m (left_fewer l m g) c.tallied } }

    pub swept_on : (l k m : Tree) → Swept V W T o l k → Swept V W T o k m → Swept V W T o l m
    swept_on l k m s t = record { gone = chain_joined (PastGone V W o) l k m s.gone t.gone; calm = t.calm }

  pub some_gone : (l k m : Tree) → PastGone V W o l k → Chain (PastGone V W o) k m → Several (PastGone V W o) l m
  some_gone l k m g s = record { next = k; first = g; others = s }
