-- A walk over the own code of a body: over the children of a node, one after another, and then over the node.
use Rattle.std.proofs.Common.{◌≡◌, ℕ, zero, suc, ◌+◌, ◌<◌, ◌≤◌, Bool, true, false, List, ◌∷◌, refl, sym, ap, ◌∙◌, subst, subst₂, arith}
use Rattle.std.specs.Prelude.{◌||◌, ◌==◌, not}
use Rattle.std.proofs.lemmas.Bool.{and_parts, eqb-true, false≢true}
use borrow.Author.Count.{below_more}
use Rattle.mini_model.specs.declared.name.Name.{Name}
use Rattle.mini_model.specs.declared.shape.Shape.{Shape}
use Rattle.mini_model.specs.Tree.{Tree, Trees, node, none, ◌▸◌, count, children, shape_of, child_or_absent}
use Rattle.mini_model.specs.declared.place.Position.{Position}
use Rattle.mini_model.specs.Position.{child_position}
use Rattle.mini_laws.specs.Naming.{summary, summary_of, summaries}
use Rattle.mini_laws.specs.Value.{variables}
use Rattle.mini_node.specs.Children.{with_child, with_part, part}
use Rattle.mini_node.specs.Lends.{with_children}
use Rattle.mini_rows.specs.Steady.{Begun, passing, Beginning, OfChild, OfHead, OfNone, beginning, nth_lets, head_lets, begins_by, begun_at, has_body, OwnStep, own_here, own_inside, OwnStepIn, own_first, own_later}
use Rattle.mini_tree.proofs.Edits.{count_with, others_with, with_same}
use Rattle.mini_steady.specs.Chains.{Several, once, again}
use Rattle.mini_steady.specs.Own.{is_open, place_in, begun_in, OwnRests, OwnWalked, OwnWalkedBelow, AppliedHere}

-- ---- steps, one after another

module _ (R : Tree → Tree → Type 0) where
  pub several_then : (t u v : Tree) → Several R t u → Several R u v → Several R t v
  several_then t u v a (once _ _ r) = again t u v a r
  several_then t u v a (again _ w _ b r) = again t w v (several_then t u w a b) r

module _ (R S : Tree → Tree → Type 0) (over : Tree → Tree) (on : (t u : Tree) → R t u → S (over t) (over u)) where
  pub several_over : (t u : Tree) → Several R t u → Several S (over t) (over u)
  several_over _ _ (once t u r) = once (over t) (over u) (on t u r)
  several_over _ _ (again t u v a r) = again (over t) (over u) (over v) (several_over t u a) (on u v r)

-- ---- a node that is open

not_true : (b : Bool) → not b ≡ true → b ≡ false
not_true true e = absurd (false≢true e)
not_true false e = refl

-- ---- what is begun at a child is begun there whatever stands at the child's place

nth_there : (ts : Trees) (at i : ℕ) (v : Tree) → i < at → nth_lets (summaries (with_child ts at v)) i ≡ nth_lets (summaries ts) i
nth_there none at i v k = refl
nth_there (t ▸ ts) zero i v k = absurd (omega (arith, k))
nth_there (t ▸ ts) (suc at) zero v k = refl
nth_there (t ▸ ts) (suc at) (suc i) v k = nth_there ts at i v (omega (arith, k))

head_there : (ts : Trees) (at i : ℕ) (v : Tree) → i < at → head_lets (summaries (with_child ts at v)) ≡ head_lets (summaries ts)
head_there none at i v k = refl
head_there (t ▸ ts) zero i v k = absurd (omega (arith, k))
head_there (t ▸ ts) (suc at) i v k = refl

begins_there : (b : Beginning) (ts : Trees) (at i : ℕ) (v : Tree) → i < at → begins_by b (summaries (with_child ts at v)) i ≡ begins_by b (summaries ts) i
begins_there OfChild ts at i v k = nth_there ts at i v k
begins_there OfHead ts at i v k = head_there ts at i v k
begins_there OfNone ts at i v k = refl

begun_before : (h : Shape) (p : Position) (L : Begun) (ts : Trees) (at i : ℕ) (v : Tree) → i ≤ at → begun_at h p L (summaries (with_child ts at v)) i ≡ begun_at h p L (summaries ts) i
begun_before h p L ts at zero v k = refl
begun_before h p L ts at (suc i) v k =
    (λ j. let before = begun_before h p L ts at i v (omega (arith, k)) j in record before { symbols = passing before.symbols (begins_there (beginning L.in_lexical h p i) ts at i v (omega (arith, k)) j) })

begun_there : (h : Shape) (p : Position) (L : Begun) (ts : Trees) (at : ℕ) (v : Tree) → begun_at h p L (summaries (with_child ts at v)) at ≡ begun_at h p L (summaries ts) at
begun_there h p L ts at v = begun_before h p L ts at at v (omega arith)

summaries_with : (ts : Trees) (at : ℕ) (v : Tree) → summary v ≡ summary (child_or_absent ts at) → summaries (with_child ts at v) ≡ summaries ts
summaries_with none at v e = refl
summaries_with (t ▸ ts) zero v e = ap (λ s. s ∷ summaries ts) e
summaries_with (t ▸ ts) (suc at) v e = ap (λ is. summary t ∷ is) (summaries_with ts at v e)

-- a node with another child has as many
pub edited_count : (u : Tree) (ts : Trees) (at : ℕ) (v : Tree) (k : ℕ) → ts ≡ children u → count (children u) ≡ k → count (children (with_children u (with_child ts at v))) ≡ k
edited_count (node h xs n us) ts at v k e f = count_with ts at v ∙ ap count e ∙ f

-- ---- the children, one after another

module _ (R : Begun → Position → Tree → Tree → Type 0) where
  abbrev pub FirstWalked : Begun → Position → ℕ → Tree → Tree → Bool → Type 0
  FirstWalked L p at t u true = Several (OwnStep R L p) t u
  FirstWalked L p at t u false = (u ≡ t) × ((i : ℕ) → i < at → OwnRests R (begun_in p L t i) (place_in p t i) (part t i))

  -- the first so many children are walked over, and the others are as they were
  pub record OwnWalkedTo (L : Begun) (p : Position) (at : ℕ) (t u : Tree) (changed : Bool) : Type 0 where
    pub walked : FirstWalked L p at t u changed
    pub rest : (i : ℕ) → at ≤ i → part u i ≡ part t i
    pub shape : shape_of u ≡ shape_of t
    pub counted : count (children u) ≡ count (children t)
    pub read : summaries (children u) ≡ summaries (children t)
    pub opens : is_open u ≡ true

-- ---- a step of a child is one of the node

module _ (R : Begun → Position → Tree → Tree → Type 0) (reads : (L : Begun) (p : Position) (n w : Tree) → R L p n w → summary n ≡ summary w) where
  -- what a parent reads stays
  mutual
    step_read : {L : Begun} {p : Position} {t u : Tree} → OwnStep R L p t u → summary t ≡ summary u
    step_read (own_here L p n w r) = reads L p n w r
    step_read (own_inside L p h xs ts us b s) = ap (λ is. summary_of h (variables xs) 0 is) (steps_read s)

    steps_read : {Λ : ℕ → Begun} {π : ℕ → Position} {ts us : Trees} → OwnStepIn R Λ π ts us → summaries ts ≡ summaries us
    steps_read (own_first Λ π t u ts s) = ap (λ i. i ∷ summaries ts) (step_read s)
    steps_read (own_later Λ π t ts us s) = ap (λ is. summary t ∷ is) (steps_read s)

  several_read : (L : Begun) (p : Position) (t u : Tree) → Several (OwnStep R L p) t u → summary t ≡ summary u
  several_read L p _ _ (once t u r) = step_read r
  several_read L p _ _ (again t u v m r) = several_read L p t u m ∙ step_read r

  pub walked_read : (L : Begun) (p : Position) (t u : Tree) (b : Bool) → OwnWalked R L p t u b → summary u ≡ summary t
  walked_read L p t u true m = sym (several_read L p t u m)
  walked_read L p t u false m = ap summary m.0

  step_in_at : (Λ : ℕ → Begun) (π : ℕ → Position) (at : ℕ) (ts : Trees) (v w : Tree) → at < count ts → OwnStep R (Λ at) (π at) v w → OwnStepIn R Λ π (with_child ts at v) (with_child ts at w)
  step_in_at Λ π at none v w h s = absurd (omega arith)
  step_in_at Λ π zero (t ▸ ts) v w h s = own_first Λ π v w ts s
  step_in_at Λ π (suc at) (t ▸ ts) v w h s = own_later Λ π t (with_child ts at v) (with_child ts at w) (step_in_at (λ i. Λ (suc i)) (λ i. π (suc i)) at ts v w (omega arith) s)

  step_at : (L : Begun) (p : Position) (h : Shape) (xs : List Name) (ts : Trees) (at : ℕ) → has_body h ≡ false → at < count ts → (v w : Tree) → OwnStep R (begun_at h p L (summaries ts) at) (child_position h p (count ts) at) v w → OwnStep R L p (node h xs 0 (with_child ts at v)) (node h xs 0 (with_child ts at w))
  step_at L p h xs ts at b k v w s =
      let π = λ (c : ℕ). child_position h p c in
      let Λ = begun_at h p L (summaries (with_child ts at v)) in
      own_inside L p h xs (with_child ts at v) (with_child ts at w) b
      (subst (λ c. OwnStepIn R Λ (π c) (with_child ts at v) (with_child ts at w)) (sym (count_with ts at v)) (step_in_at Λ (π (count ts)) at ts v w k (subst (λ M. OwnStep R M (child_position h p (count ts) at) v w) (sym (begun_there h p L ts at v)) s)))

  steps_in : (L : Begun) (p : Position) (h : Shape) (xs : List Name) (ts : Trees) (at : ℕ) (u : Tree) → has_body h ≡ false → at < count ts → Several (OwnStep R (begun_at h p L (summaries ts) at) (child_position h p (count ts) at)) (child_or_absent ts at) u → Several (OwnStep R L p) (node h xs 0 ts) (node h xs 0 (with_child ts at u))
  steps_in L p h xs ts at u b k m =
      subst (λ vs. Several (OwnStep R L p) (node h xs 0 vs) (node h xs 0 (with_child ts at u))) (with_same ts at)
      (several_over (OwnStep R (begun_at h p L (summaries ts) at) (child_position h p (count ts) at)) (OwnStep R L p) (λ v. node h xs 0 (with_child ts at v)) (step_at L p h xs ts at b k) (child_or_absent ts at) u m)

  steps_at : (L : Begun) (p : Position) (t : Tree) (at : ℕ) (u : Tree) → is_open t ≡ true → at < count (children t) → Several (OwnStep R (begun_in p L t at) (place_in p t at)) (part t at) u → Several (OwnStep R L p) t (with_part t at u)
  steps_at L p (node h xs n ts) at u o k m =
      let (numberless, bodiless) = and_parts (n == 0) (not (has_body h)) o in
      subst (λ i. Several (OwnStep R L p) (node h xs i ts) (node h xs i (with_child ts at u))) (sym (eqb-true n 0 numberless)) (steps_in L p h xs ts at u (not_true (has_body h) bodiless) k m)

  -- ---- the children, one after another

  pub walked_none : (L : Begun) (p : Position) (t : Tree) → is_open t ≡ true → OwnWalkedTo R L p 0 t t false
  walked_none L p t o = record { walked = (refl, λ i h. absurd (omega arith)); rest = λ i h. refl; shape = refl; counted = refl; read = refl; opens = o }

  part_same : (t : Tree) (at : ℕ) → with_part t at (part t at) ≡ t
  part_same (node h xs n ts) at = ap (node h xs n) (with_same ts at)

  first_next : (L M : Begun) (p q : Position) (at : ℕ) (t u v : Tree) (a b : Bool) → is_open u ≡ true → at < count (children u) → q ≡ place_in p u at → q ≡ place_in p t at → M ≡ begun_in p L u at → M ≡ begun_in p L t at → FirstWalked R L p at t u a → part u at ≡ part t at → OwnWalked R M q (part u at) v b → FirstWalked R L p (at + 1) t (with_part u at v) (a || b)
  first_next L M p q at t u v true true o h z z' y y' x e m = several_then (OwnStep R L p) t u (with_part u at v) x (steps_at L p u at v o h (subst₂ (λ N z. Several (OwnStep R N z) (part u at) v) y z m))
  first_next L M p q at t u v true false o h z z' y y' x e m = subst (Several (OwnStep R L p) t) (sym (ap (with_part u at) m.0 ∙ part_same u at)) x
  first_next L M p q at t u v false true o h z z' y y' x e m = subst (λ w. Several (OwnStep R L p) w (with_part u at v)) x.0 (steps_at L p u at v o h (subst₂ (λ N z. Several (OwnStep R N z) (part u at) v) y z m))
  first_next L M p q at t u v false false o h z z' y y' x e m = (
    ap (with_part u at) m.0 ∙ part_same u at ∙ x.0,
    λ i k. below_more (λ j. OwnRests R (begun_in p L t j) (place_in p t j) (part t j)) at x.1 (subst₂ (λ N z. OwnRests R N z (part t at)) y' z' (subst (OwnRests R M q) e m.1)) i k,
  )

  like_with : (t : Tree) (at : ℕ) (u : Tree) → (shape_of (with_part t at u) ≡ shape_of t) × ((count (children (with_part t at u)) ≡ count (children t)) × (is_open (with_part t at u) ≡ is_open t))
  like_with (node h xs n ts) at u = (refl, (count_with ts at u, refl))

  read_with : (t : Tree) (at : ℕ) (u : Tree) → summary u ≡ summary (part t at) → summaries (children (with_part t at u)) ≡ summaries (children t)
  read_with (node h xs n ts) at u e = summaries_with ts at u e

  others_as_before : (t : Tree) (at : ℕ) (u : Tree) (i : ℕ) → at < i → part (with_part t at u) i ≡ part t i
  others_as_before (node h xs n ts) at u i k = others_with ts at u i k

  edited : (t : Tree) (ts : Trees) (at : ℕ) (u : Tree) → ts ≡ children t → with_children t (with_child ts at u) ≡ with_part t at u
  edited (node h xs n us) ts at u e = ap (λ vs. node h xs n (with_child vs at u)) e

  walked_next : (L M : Begun) (p : Position) (at : ℕ) (t u v : Tree) (a b : Bool) → M ≡ begun_in p L t at → at < count (children t) → OwnWalkedTo R L p at t u a → OwnWalked R M (place_in p t at) (part u at) v b → OwnWalkedTo R L p (at + 1) t (with_part u at v) (a || b)
  walked_next L M p at t u v a b y h w x =
      let kept = like_with u at v in
      let placed = ap (λ g. child_position g p (count (children t)) at) (sym w.shape) ∙ ap (λ c. child_position (shape_of u) p c at) (sym w.counted) in
      let begun = y ∙ ap (λ g. begun_at g p L (summaries (children t)) at) (sym w.shape) ∙ ap (λ is. begun_at (shape_of u) p L is at) (sym w.read) in record {
        walked = first_next L M p (place_in p t at) at t u v a b w.opens (omega (arith, h, w.counted)) placed refl begun y w.walked (w.rest at (omega arith)) x;
        rest = λ i k. others_as_before u at v i (omega (arith, k)) ∙ w.rest i (omega (arith, k));
        shape = kept.0 ∙ w.shape;
        counted = kept.1.0 ∙ w.counted;
        read = read_with u at v (walked_read M (place_in p t at) (part u at) v b x) ∙ w.read;
        opens = kept.1.1 ∙ w.opens;
      }

  -- the same, as the code names the parts: the child, its place and the children that it stands in
  pub walked_child : (L M : Begun) (p q : Position) (h : Shape) (k at : ℕ) (t u x v : Tree) (ts : Trees) (a b : Bool) → (q ≡ child_position h p k at) × (h ≡ shape_of u) × (k ≡ count (children t)) × (ts ≡ children u) × (x ≡ child_or_absent ts at) → M ≡ begun_in p L t at → at < k → OwnWalkedTo R L p at t u a → OwnWalked R M q x v b → OwnWalkedTo R L p (at + 1) t (with_children u (with_child ts at v)) (a || b)
  walked_child L M p q h k at t u x v ts a b (placed, shaped, counted, these, child) begun below w m =
      let stands : q ≡ place_in p t at = placed ∙ ap (λ g. child_position g p k at) (shaped ∙ w.shape) ∙ ap (λ c. child_position (shape_of t) p c at) counted in
      let stood = subst (λ o. OwnWalked R M o x v b) stands m in
      let there = subst (λ o. OwnWalked R M (place_in p t at) o v b) (child ∙ ap (λ us. child_or_absent us at) these) stood in
      subst (λ o. OwnWalkedTo R L p (at + 1) t o (a || b)) (sym (edited u ts at v these)) (walked_next L M p at t u v a b begun (omega (arith, below, counted)) w there)

  first_all : (L : Begun) (p : Position) (t u : Tree) (a : Bool) → FirstWalked R L p (count (children t)) t u a → OwnWalkedBelow R L p t u a
  first_all L p t u true x = x
  first_all L p t u false x = x

  pub walked_all : (L : Begun) (p : Position) (at : ℕ) (t u : Tree) (a : Bool) → at ≡ count (children t) → OwnWalkedTo R L p at t u a → OwnWalkedBelow R L p t u a
  walked_all L p at t u a e w = first_all L p t u a (subst (λ k. FirstWalked R L p k t u a) e w.walked)

  -- ---- the node

  none_in : (Λ : ℕ → Begun) (π : ℕ → Position) (ts us : Trees) → ((i : ℕ) → i < count ts → OwnRests R (Λ i) (π i) (child_or_absent ts i)) → OwnStepIn R Λ π ts us → ⊥
  none_in _ _ _ _ f (own_first Λ π t u ts s) = f 0 (omega arith) u s
  none_in _ _ _ _ f (own_later Λ π t ts us s) = none_in (λ i. Λ (suc i)) (λ i. π (suc i)) ts us (λ i k. f (suc i) (omega (arith, k))) s

  rests : (L : Begun) (p : Position) (t w : Tree) → ((w : Tree) → R L p t w → ⊥) → ((i : ℕ) → i < count (children t) → OwnRests R (begun_in p L t i) (place_in p t i) (part t i)) → OwnStep R L p t w → ⊥
  rests _ _ _ _ f g (own_here L p n w r) = f w r
  rests _ _ _ _ f g (own_inside L p h xs ts us b s) = none_in (begun_at h p L (summaries ts)) (child_position h p (count ts)) ts us g s

  -- steps at the node are steps in its code
  all_here : (L : Begun) (p : Position) (t u : Tree) → Several (R L p) t u → Several (OwnStep R L p) t u
  all_here L p = several_over (R L p) (OwnStep R L p) (λ t. t) (own_here L p)

  pub walked_both : (L : Begun) (p : Position) (t u v : Tree) (a b : Bool) → OwnWalkedBelow R L p t u a → AppliedHere (R L) p u v b → OwnWalked R L p t v (a || b)
  walked_both L p t u v true true x y = several_then (OwnStep R L p) t u v x (all_here L p u v y)
  walked_both L p t u v true false x y = subst (Several (OwnStep R L p) t) (sym y.0) x
  walked_both L p t u v false true x y = subst (λ w. Several (OwnStep R L p) w v) x.0 (all_here L p u v y)
  walked_both L p t u v false false x y = (y.0 ∙ x.0, λ w s. rests L p t w (subst (λ z. (w : Tree) → R L p z w → ⊥) x.0 y.1) x.1 s)

  -- ---- what isn't open

  module _ (opens : (L : Begun) (p : Position) (n w : Tree) → R L p n w → is_open n ≡ true) where
    pub closed_rests : (L : Begun) (p : Position) (t : Tree) → is_open t ≡ false → OwnRests R L p t
    closed_rests L p t e w s = go s e
      where
        go : {L : Begun} {p : Position} {t w : Tree} → OwnStep R L p t w → is_open t ≡ false → ⊥
        go (own_here L p n w r) e = false≢true (sym e ∙ opens L p n w r)
        go (own_inside L p h xs ts us b s) e = false≢true (sym e ∙ ap not b)

    pub walked_closed : (L : Begun) (p : Position) (t : Tree) → is_open t ≡ false → OwnWalked R L p t t false
    walked_closed L p t e = (refl, closed_rests L p t e)
