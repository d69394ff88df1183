-- Bodies, frames, declared names and what a write does: of a tree they are those of its parts, where plain heads are above them.
use Rattle.std.specs.Prelude.{ℕ, suc, ◌≤◌, ◌<◌, ◌≡◌, refl, Bool, true, false, List, [], ◌∷◌, ◌++◌, Contains, Option, None}
use Rattle.std.proofs.Common.{ap, ◌∙◌, sym, subst, arith, inl, inr, ◌⊎◌}
use Rattle.std.proofs.lemmas.List.Elements.{Contains-append_left, Contains-append_right, Contains-append_cases}
use Rattle.mini_model.specs.declared.kind.PropertyKind.{PropertyKind}
use Rattle.mini_model.specs.declared.name.Name.{Name}
use Rattle.mini_model.specs.Tree.{Tree, Trees, node, none, ◌▸◌}
use Rattle.mini_laws.specs.Value.{Variable, choose, is_in}
use Rattle.mini_laws.specs.State.{Fixed, Writable, Constant, KeepsOld}
use Rattle.mini_laws.specs.Naming.{summaries}
use Rattle.mini_laws.specs.Fixity.{fixity_by, declared_by as declares_by, stricter, fixed_by, fixed_by_any}
use Rattle.mini_laws.specs.Bodies.{Around, Body, below, body_of, bodies, bodies_from}
use Rattle.mini_kept.specs.AlikeBodies.{BodiesKept}
use Rattle.mini_kept.specs.Declaring.{declared_by, declared, declared_all}
use Rattle.mini_kept.specs.Frames.{Frame, frame_of, outline, globals, property_below, frames, frames_from, FramesKept}
use Rattle.mini_kept.proofs.BodyLists.{both_of as both_bodies}
use Rattle.mini_kept.proofs.FrameLists.{both_of as both_frames}
use Rattle.mini_rows.specs.Sketches.{Head, AList, shape_by, Asked, asked_below, leaps}
use Rattle.mini_rows.proofs.Arranging.{Below, Any, Local}
use Rattle.mini_rows.proofs.ArrangedNames.{nothing_asked}

none_in : {A : Type 0} {x : A} → Contains [] x → ⊥
none_in c = let none : c.0 < 0 = c.1 in omega (arith, none)

-- ---- bodies, where no constructor stands and nothing is assigned to

abbrev pub quiet : Around → Around
quiet a = record a { constructs = false; is_assigned = false }

no_body : (a : Around) (h : Head) (n : ℕ) (t : Tree) (ts : Trees) → body_of a (shape_by h) n t ts ≡ []
no_body a AList n t ts = refl
no_body a h n t ts = refl

still_quiet : (a : Around) (h : Head) (ts : Trees) (i : ℕ) → below (quiet a) (shape_by h) ts i ≡ quiet a
still_quiet a AList ts i = refl
still_quiet a h ts i = refl

pub split_bodies : (bs cs ds : List Body) → BodiesKept bs (cs ++ ds) → BodiesKept bs cs × BodiesKept bs ds
split_bodies bs [] ds k = (tt, k)
split_bodies bs (c ∷ cs) ds k =
    let (x, y) = split_bodies bs cs ds k.1 in
    ((k.0, x), y)

module _ (all : List Body) (a : Around) where
  abbrev pub HasBodies : Asked → Tree → Type 0
  HasBodies c t = BodiesKept all (bodies (quiet a) t)

  pub bodies_below : (cs : ℕ → Asked) (around : ℕ → Around) → ((j : ℕ) → around j ≡ quiet a) → (i : ℕ) (ts : Trees) → BodiesKept all (bodies_from around i ts) → Below HasBodies cs i ts
  bodies_below cs around z i none k = tt
  bodies_below cs around z i (t ▸ ts) k =
      let (x, y) = split_bodies all (bodies (around i) t) (bodies_from around (suc i) ts) k in
      (subst (λ r. BodiesKept all (bodies r t)) (z i) x, bodies_below cs around z (suc i) ts y)

  pub below_bodies : (cs : ℕ → Asked) (around : ℕ → Around) → ((j : ℕ) → around j ≡ quiet a) → (i : ℕ) (ts : Trees) → Below HasBodies cs i ts → BodiesKept all (bodies_from around i ts)
  below_bodies cs around z i none k = tt
  below_bodies cs around z i (t ▸ ts) k =
      both_bodies all (bodies (around i) t) (bodies_from around (suc i) ts) (subst (λ r. BodiesKept all (bodies r t)) (sym (z i)) k.0) (below_bodies cs around z (suc i) ts k.1)

  pub bodies_local : Local Any HasBodies
  bodies_local = record {
    down = λ h c ts p k. (nothing_asked (leaps h), bodies_below (asked_below h c) (below (quiet a) (shape_by h) ts) (still_quiet a h ts) 0 ts (subst (λ bs. BodiesKept all (bs ++ bodies_from (below (quiet a) (shape_by h) ts) 0 ts)) (no_body (quiet a) h 0 (node (shape_by h) [] 0 ts) ts) k));
    up = λ h c ts p l k. subst (λ bs. BodiesKept all (bs ++ bodies_from (below (quiet a) (shape_by h) ts) 0 ts)) (sym (no_body (quiet a) h 0 (node (shape_by h) [] 0 ts) ts)) (below_bodies (asked_below h c) (below (quiet a) (shape_by h) ts) (still_quiet a h ts) 0 ts k);
  }

-- ---- frames

no_frame : (h : Head) (o : Tree) (xs : List Name) → frame_of None (shape_by h) 0 o xs ≡ []
no_frame AList o xs = refl
no_frame h o xs = refl

no_property : (h : Head) (i : ℕ) → property_below (shape_by h) i ≡ None
no_property AList i = refl
no_property h i = refl

pub split_frames : (all fs gs : List Frame) → FramesKept all (fs ++ gs) → FramesKept all fs × FramesKept all gs
split_frames all fs gs k = (λ f x. k f (Contains-append_left fs gs f x), λ f x. k f (Contains-append_right fs gs f x))

module _ (all : List Frame) where
  abbrev pub HasFrames : Asked → Tree → Type 0
  HasFrames c t = FramesKept all (frames None t)

  pub frames_below : (cs : ℕ → Asked) (kind : ℕ → Option PropertyKind) → ((j : ℕ) → kind j ≡ None) → (i : ℕ) (ts : Trees) → FramesKept all (frames_from kind i ts) → Below HasFrames cs i ts
  frames_below cs kind z i none k = tt
  frames_below cs kind z i (t ▸ ts) k =
      let (x, y) = split_frames all (frames (kind i) t) (frames_from kind (suc i) ts) k in
      (subst (λ r. FramesKept all (frames r t)) (z i) x, frames_below cs kind z (suc i) ts y)

  pub below_frames : (cs : ℕ → Asked) (kind : ℕ → Option PropertyKind) → ((j : ℕ) → kind j ≡ None) → (i : ℕ) (ts : Trees) → Below HasFrames cs i ts → FramesKept all (frames_from kind i ts)
  below_frames cs kind z i none k = λ f x. absurd (none_in x)
  below_frames cs kind z i (t ▸ ts) k =
      both_frames all (frames (kind i) t) (frames_from kind (suc i) ts) (subst (λ r. FramesKept all (frames r t)) (sym (z i)) k.0) (below_frames cs kind z (suc i) ts k.1)

  pub frames_local : Local Any HasFrames
  frames_local = record {
    down = λ h c ts p k. (nothing_asked (leaps h), frames_below (asked_below h c) (property_below (shape_by h)) (no_property h) 0 ts (split_frames all (frame_of None (shape_by h) 0 (outline (shape_by h) [] 0 ts) (globals (shape_by h) ts)) (frames_from (property_below (shape_by h)) 0 ts) k).1);
    up = λ h c ts p l k. subst (λ fs. FramesKept all (fs ++ frames_from (property_below (shape_by h)) 0 ts)) (sym (no_frame h (outline (shape_by h) [] 0 ts) (globals (shape_by h) ts))) (below_frames (asked_below h c) (property_below (shape_by h)) (no_property h) 0 ts k);
  }

-- ---- declared names

none_declared : (h : Head) → declared_by (shape_by h) [] ≡ []
none_declared AList = refl
none_declared h = refl

module _ (all : List Name) where
  abbrev pub Among : List Name → Type 0
  Among xs = (x : Name) → Contains xs x → Contains all x

  abbrev pub Declares : Asked → Tree → Type 0
  Declares c t = Among (declared t)

  pub split_names : (xs ys : List Name) → Among (xs ++ ys) → Among xs × Among ys
  split_names xs ys k = (λ x c. k x (Contains-append_left xs ys x c), λ x c. k x (Contains-append_right xs ys x c))

  pub both_names : (xs ys : List Name) → Among xs → Among ys → Among (xs ++ ys)
  both_names xs ys k l x c = by (Contains-append_cases xs ys x c)
    where
      by : Contains xs x ⊎ Contains ys x → Contains all x
      by (inl d) = k x d
      by (inr d) = l x d

  pub declares_below : (cs : ℕ → Asked) (i : ℕ) (ts : Trees) → Among (declared_all ts) → Below Declares cs i ts
  declares_below cs i none k = tt
  declares_below cs i (t ▸ ts) k =
      let (x, y) = split_names (declared t) (declared_all ts) k in
      (x, declares_below cs (suc i) ts y)

  pub below_declares : (cs : ℕ → Asked) (i : ℕ) (ts : Trees) → Below Declares cs i ts → Among (declared_all ts)
  below_declares cs i none k = λ x c. absurd (none_in c)
  below_declares cs i (t ▸ ts) k = both_names (declared t) (declared_all ts) k.0 (below_declares cs (suc i) ts k.1)

  pub declares_local : Local Any Declares
  declares_local = record {
    down = λ h c ts p k. (nothing_asked (leaps h), declares_below (asked_below h c) 0 ts (split_names (declared_by (shape_by h) []) (declared_all ts) k).1);
    up = λ h c ts p l k. subst (λ xs. Among (xs ++ declared_all ts)) (sym (none_declared h)) (below_declares (asked_below h c) 0 ts k);
  }

-- ---- what a write does

abbrev pub rank : Fixed → ℕ
rank Writable = 0
rank KeepsOld = 1
rank Constant = 2

pub by_rank : (f g : Fixed) → rank f ≤ rank g → rank g ≤ rank f → f ≡ g
by_rank Writable Writable a b = refl
by_rank Writable KeepsOld a b = absurd (omega (arith, b))
by_rank Writable Constant a b = absurd (omega (arith, b))
by_rank KeepsOld Writable a b = absurd (omega (arith, a))
by_rank KeepsOld KeepsOld a b = refl
by_rank KeepsOld Constant a b = absurd (omega (arith, b))
by_rank Constant Writable a b = absurd (omega (arith, a))
by_rank Constant KeepsOld a b = absurd (omega (arith, a))
by_rank Constant Constant a b = refl

all_writable : (h : Head) → fixity_by (shape_by h) ≡ Writable
all_writable AList = refl
all_writable h = refl

both_writable : (b : Bool) → choose b Writable Writable ≡ Writable
both_writable true = refl
both_writable false = refl

module _ (x : Variable) (k : ℕ) where
  abbrev pub FixedBy : Asked → Tree → Type 0
  FixedBy c t = rank (fixed_by t x) ≤ k

  split_rank : (f g : Fixed) → rank (stricter f g) ≤ k → (rank f ≤ k) × (rank g ≤ k)
  split_rank Writable g e = (omega arith, e)
  split_rank KeepsOld Writable e = (e, omega arith)
  split_rank KeepsOld KeepsOld e = (e, e)
  split_rank KeepsOld Constant e = (omega (arith, e), e)
  split_rank Constant Writable e = (e, omega arith)
  split_rank Constant KeepsOld e = (e, omega (arith, e))
  split_rank Constant Constant e = (e, e)

  both_rank : (f g : Fixed) → rank f ≤ k → rank g ≤ k → rank (stricter f g) ≤ k
  both_rank Writable g e d = d
  both_rank KeepsOld Writable e d = e
  both_rank KeepsOld KeepsOld e d = e
  both_rank KeepsOld Constant e d = d
  both_rank Constant Writable e d = e
  both_rank Constant KeepsOld e d = e
  both_rank Constant Constant e d = e

  pub fixed_below : (cs : ℕ → Asked) (i : ℕ) (ts : Trees) → rank (fixed_by_any ts x) ≤ k → Below FixedBy cs i ts
  fixed_below cs i none e = tt
  fixed_below cs i (t ▸ ts) e =
      let (a, b) = split_rank (fixed_by t x) (fixed_by_any ts x) e in
      (a, fixed_below cs (suc i) ts b)

  pub below_fixed : (cs : ℕ → Asked) (i : ℕ) (ts : Trees) → Below FixedBy cs i ts → rank (fixed_by_any ts x) ≤ k
  below_fixed cs i none a = omega arith
  below_fixed cs i (t ▸ ts) a = both_rank (fixed_by t x) (fixed_by_any ts x) a.0 (below_fixed cs (suc i) ts a.1)

  of_children : (h : Head) (ts : Trees) → fixed_by (node (shape_by h) [] 0 ts) x ≡ fixed_by_any ts x
  of_children h ts =
      let b = is_in x (declares_by (shape_by h) (summaries ts)) in
      ap (λ f. stricter (choose b f Writable) (fixed_by_any ts x)) (all_writable h) ∙ ap (λ f. stricter f (fixed_by_any ts x)) (both_writable b)

  pub fixed_local : Local Any FixedBy
  fixed_local = record {
    down = λ h c ts p e. (nothing_asked (leaps h), fixed_below (asked_below h c) 0 ts (subst (λ f. rank f ≤ k) (of_children h ts) e));
    up = λ h c ts p l a. subst (λ f. rank f ≤ k) (sym (of_children h ts)) (below_fixed (asked_below h c) 0 ts a);
  }
