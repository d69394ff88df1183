-- A block has the same in it where one of its statements is another that keeps what the first has.
use Rattle.std.specs.Prelude.{ℕ, suc, ◌≤◌, ◌≡◌, refl, not, ◌&&◌, Bool, true, false, List, [], ◌∷◌, ◌++◌, None}
use Rattle.std.proofs.Common.{ap, ◌∙◌, sym, subst, arith}
use Rattle.mini_model.specs.declared.shape.Shape.TheVariants as shape
use Rattle.mini_model.specs.Tree.{Tree, Trees, none, ◌▸◌, listed, shape_of}
use Rattle.mini_model.specs.Paths.{append}
use Rattle.mini_laws.specs.declared.names.Use.{Use}
use Rattle.mini_laws.specs.declared.names.Use.TheVariants.{Read, Alone}
use Rattle.mini_laws.specs.declared.names.Binding.{Binding}
use Rattle.mini_laws.specs.declared.names.Declared.TheVariants as declared
use Rattle.mini_laws.specs.declared.names.Targets.{Targets}
use Rattle.mini_laws.specs.Scopes.{use_of, lexical_scope, opened, scopes_by}
use Rattle.mini_laws.specs.Resolved.{Environment}
use Rattle.mini_laws.specs.Scoped.{Scoped, AllScoped}
use Rattle.mini_laws.specs.Edits.{Kept, AllKept}
use Rattle.mini_laws.specs.Early.{Path, own_declarations, body_declarations, in_body, scope_declarations, clashing, early_names, all_early_names, targets_of, early_jumps, all_early_jumps}
use Rattle.mini_laws.specs.Value.{Variable}
use Rattle.mini_laws.specs.State.{Writable}
use Rattle.mini_laws.specs.Fixity.{stricter, fixed_by, fixed_by_any}
use Rattle.mini_laws.specs.Bodies.{Around, bodies, bodies_from}
use Rattle.mini_laws.proofs.Changes.{as_it_is, below, twice}
use Rattle.mini_kept.specs.AlikeBodies.{BodiesKept}
use Rattle.mini_kept.specs.Carried.{numbers, all_numbers}
use Rattle.mini_kept.specs.Declaring.{declared as declared_names, declared_all}
use Rattle.mini_kept.specs.Frames.{frames, frames_from, FramesKept}
use Rattle.mini_kept.specs.KeepsNames.{unplaced, count_of}
use Rattle.mini_kept.proofs.Below.{empty_both, both_empty}
use Rattle.mini_kept.proofs.BodyLists.{kept_itself, kept_on, each_of as each_body}
use Rattle.mini_kept.proofs.Fixed.{of_children}
use Rattle.mini_kept.proofs.FrameLists.{each_of as each_frame}
use Rattle.mini_kept.proofs.Unplaced.{as_body, all_as_body, body_same, free_same}
use Rattle.mini_rows.specs.Lists.{block}
use Rattle.mini_rows.proofs.BranchInside.{quiet, Inside}
use Rattle.mini_rows.proofs.BranchAround.{is_plain, Core, Said, Among, as_its_names, first_count, later_count, first_empty, later_empty, first_among, later_among}

module _ (x y : Tree) (c : Core x y) (s : Said x y) (p : is_plain (shape_of x) ≡ true) (q : is_plain (shape_of y) ≡ true) (after : Trees) where
  abbrev old : Trees → Trees
  old before = append before (x ▸ after)

  abbrev new : Trees → Trees
  new before = append before (y ▸ after)

  -- names and symbols

  rest_kept : (ts : Trees) → AllKept ts ts
  rest_kept none = tt
  rest_kept (t ▸ ts) = (as_it_is t, rest_kept ts)

  all_kept : (before : Trees) → AllKept (old before) (new before)
  all_kept none = (c.kept, rest_kept after)
  all_kept (t ▸ ts) = (as_it_is t, all_kept ts)

  list_kept : (before : Trees) → Kept (listed (old before)) (listed (new before))
  list_kept before = below shape.Listed [] 0 (old before) (new before) (all_kept before)

  all_scoped : (scope : ℕ → List Binding) (uses : ℕ → Use) (n : ℕ) (env : Environment) (before : Trees) → AllScoped scope uses n env (old before) → AllScoped scope uses n env (new before)
  unfolding Scoped
  all_scoped scope uses n env none r = (c.scoped _ _ r.0, r.1)
  all_scoped scope uses n env (t ▸ ts) r = (r.0, all_scoped scope uses (suc n) (env ++ scope n) ts r.1)

  block_scoped : (env : Environment) (before : Trees) → Scoped Alone env (block (old before)) → Scoped Alone env (block (new before))
  unfolding Scoped scopes_by
  block_scoped env before r =
      (tt, ((tt, subst (λ bs. AllScoped (opened Read shape.Listed (new before)) (use_of shape.Listed Read) 0 (env ++ bs) (new before)) (sym (ap lexical_scope ((list_kept before).names declared.Lexical))) (all_scoped (opened Read shape.Listed (new before)) (use_of shape.Listed Read) 0 _ before r.1.0.1)), tt))

  -- numbers, bodies, frames, what a write does

  all_numbered : (k : ℕ) (before : Trees) → count_of k (all_numbers (new before)) ≤ count_of k (all_numbers (old before))
  unfolding numbers
  all_numbered k none = first_count k (numbers x) (numbers y) (all_numbers after) (c.numbers k)
  all_numbered k (t ▸ ts) = later_count k (numbers t) (all_numbers (old ts)) (all_numbers (new ts)) (all_numbered k ts)

  block_numbers : (k : ℕ) (before : Trees) → count_of k (numbers (block (new before))) ≤ count_of k (numbers (block (old before)))
  unfolding numbers
  block_numbers k before = first_count k (all_numbers (old before)) (all_numbers (new before)) [] (all_numbered k before)

  all_bodies : (around : ℕ → Around) (n : ℕ) (before : Trees) → BodiesKept (bodies_from around n (old before)) (bodies_from around n (new before))
  all_bodies around n none = each_body (bodies (around n) x) (bodies_from around (suc n) after) (bodies (around n) y) (bodies_from around (suc n) after) (c.bodies (around n)) (kept_itself (bodies_from around (suc n) after))
  all_bodies around n (t ▸ ts) = each_body (bodies (around n) t) (bodies_from around (suc n) (old ts)) (bodies (around n) t) (bodies_from around (suc n) (new ts)) (kept_itself (bodies (around n) t)) (all_bodies around (suc n) ts)

  block_bodies : (a : Around) (before : Trees) → BodiesKept (bodies (quiet a) (block (old before))) (bodies (quiet a) (block (new before)))
  block_bodies a before = each_body (bodies_from (λ n. quiet a) 0 (old before)) [] (bodies_from (λ n. quiet a) 0 (new before)) [] (all_bodies (λ n. quiet a) 0 before) tt

  all_frames : (n : ℕ) (before : Trees) → FramesKept (frames_from (λ i. None) n (old before)) (frames_from (λ i. None) n (new before))
  all_frames n none = each_frame (frames None x) (frames_from (λ i. None) (suc n) after) (frames None y) (frames_from (λ i. None) (suc n) after) c.frames (λ f m. m)
  all_frames n (t ▸ ts) = each_frame (frames None t) (frames_from (λ i. None) (suc n) (old ts)) (frames None t) (frames_from (λ i. None) (suc n) (new ts)) (λ f m. m) (all_frames (suc n) ts)

  block_frames : (before : Trees) → FramesKept (frames None (block (old before))) (frames None (block (new before)))
  block_frames before = each_frame (frames_from (λ i. None) 0 (old before)) [] (frames_from (λ i. None) 0 (new before)) [] (all_frames 0 before) (λ f m. m)

  all_fixed : (z : Variable) (before : Trees) → fixed_by_any (old before) z ≡ fixed_by_any (new before) z
  all_fixed z none = ap (λ f. stricter f (fixed_by_any after z)) (s.fixed z)
  all_fixed z (t ▸ ts) = ap (stricter (fixed_by t z)) (all_fixed z ts)

  block_fixed : (before : Trees) (z : Variable) → fixed_by (block (old before)) z ≡ fixed_by (block (new before)) z
  block_fixed before z =
      of_children shape.BlockStatement [] 0 (listed (old before) ▸ none) z refl
      ∙ ap (λ f. stricter f Writable) (of_children shape.Listed [] 0 (old before) z refl ∙ all_fixed z before ∙ sym (of_children shape.Listed [] 0 (new before) z refl))
      ∙ sym (of_children shape.BlockStatement [] 0 (listed (new before) ▸ none) z refl)

  all_said : (before : Trees) → Among (declared_all (old before)) (declared_all (new before))
  all_said none = first_among (declared_names x) (declared_names y) (declared_all after) s.declared
  all_said (t ▸ ts) = later_among (declared_names t) (declared_all (old ts)) (declared_all (new ts)) (all_said ts)

  block_said : (before : Trees) → Among (declared_names (block (old before))) (declared_names (block (new before)))
  block_said before = first_among (declared_all (old before)) (declared_all (new before)) [] (all_said before)

  -- early errors

  item_as_body : (b : Bool) → as_body b y ≡ as_body b x
  item_as_body b =
      as_its_names b y q
      ∙ (λ i. own_declarations (not (b && false)) [] (c.kept.names declared.Lexical i) ++ own_declarations false [] (c.kept.names declared.Hoisted i))
      ∙ sym (as_its_names b x p)

  every_as_body : (b : Bool) (before : Trees) → all_as_body b (new before) ≡ all_as_body b (old before)
  every_as_body b none = ap (λ ds. ds ++ all_as_body b after) (item_as_body b)
  every_as_body b (t ▸ ts) = ap (λ ds. as_body b t ++ ds) (every_as_body b ts)

  own_once : (r : Path) (before : Trees) → clashing [] (in_body false r (listed (old before) ▸ none) 0) ≡ [] → clashing [] (in_body false r (listed (new before) ▸ none) 0) ≡ []
  own_once r before e =
      free_same (in_body false r (listed (old before) ▸ none) 0) (in_body false r (listed (new before) ▸ none) 0)
      (body_same false (r ++ 0 ∷ []) (r ++ 0 ∷ []) (listed (old before)) (listed (new before)) (every_as_body false before)) e

  all_once : (r : Path) (n : ℕ) (before : Trees) → all_early_names r n (old before) ≡ [] → all_early_names r n (new before) ≡ []
  unfolding early_names
  all_once r n none e = first_empty (early_names (r ++ n ∷ []) x) (early_names (r ++ n ∷ []) y) (all_early_names r (suc n) after) (c.once (r ++ n ∷ [])) e
  all_once r n (t ▸ ts) e = later_empty (early_names (r ++ n ∷ []) t) (all_early_names r (suc n) (old ts)) (all_early_names r (suc n) (new ts)) (all_once r (suc n) ts) e

  block_once : (r : Path) (before : Trees) → early_names r (block (old before)) ≡ [] → early_names r (block (new before)) ≡ []
  unfolding early_names scope_declarations
  block_once r before e =
      let (own, below) = empty_both (clashing [] (in_body false r (listed (old before) ▸ none) 0)) (all_early_names (r ++ 0 ∷ []) 0 (old before) ++ []) e in
      both_empty (clashing [] (in_body false r (listed (new before) ▸ none) 0)) (all_early_names (r ++ 0 ∷ []) 0 (new before) ++ []) (own_once r before own)
      (first_empty (all_early_names (r ++ 0 ∷ []) 0 (old before)) (all_early_names (r ++ 0 ∷ []) 0 (new before)) [] (all_once (r ++ 0 ∷ []) 0 before) below)

  all_aimed : (targets : ℕ → Targets) (r : Path) (n : ℕ) (before : Trees) → all_early_jumps targets r n (old before) ≡ [] → all_early_jumps targets r n (new before) ≡ []
  unfolding early_jumps
  all_aimed targets r n none e = first_empty (early_jumps (targets n) (r ++ n ∷ []) x) (early_jumps (targets n) (r ++ n ∷ []) y) (all_early_jumps targets r (suc n) after) (c.targets (targets n) (r ++ n ∷ [])) e
  all_aimed targets r n (t ▸ ts) e = later_empty (early_jumps (targets n) (r ++ n ∷ []) t) (all_early_jumps targets r (suc n) (old ts)) (all_early_jumps targets r (suc n) (new ts)) (all_aimed targets r (suc n) ts) e

  block_aimed : (g : Targets) (r : Path) (before : Trees) → early_jumps g r (block (old before)) ≡ [] → early_jumps g r (block (new before)) ≡ []
  unfolding early_jumps targets_of
  block_aimed g r before e = first_empty (all_early_jumps (λ n. g) (r ++ 0 ∷ []) 0 (old before)) (all_early_jumps (λ n. g) (r ++ 0 ∷ []) 0 (new before)) [] (all_aimed (λ n. g) (r ++ 0 ∷ []) 0 before) e

  pub item_inside : (before : Trees) → Inside (block (old before)) (block (new before))
  item_inside before = record {
    kept = below shape.BlockStatement [] 0 (listed (old before) ▸ none) (listed (new before) ▸ none) (list_kept before, tt);
    scoped = λ env r. block_scoped env before r;
    numbers = λ k. block_numbers k before;
    once = λ r e. block_once r before e;
    targets = λ g r e. block_aimed g r before e;
    bodies = λ a. block_bodies a before;
    frames = block_frames before;
    fixed = block_fixed before;
    declared = block_said before;
  }

-- ---- a block over a list that keeps what another has

pub record InList (a b : Trees) : Type 0 where
  pub kept : Kept (listed a) (listed b)
  pub scoped : (env : Environment) → Scoped Read env (listed a) → Scoped Read env (listed b)
  pub numbers : (k : ℕ) → count_of k (numbers (listed b)) ≤ count_of k (numbers (listed a))
  pub declared_as_body : (r : Path) → unplaced (body_declarations false r (listed b)) ≡ unplaced (body_declarations false r (listed a))
  pub once : (r : Path) → early_names r (listed a) ≡ [] → early_names r (listed b) ≡ []
  pub targets : (g : Targets) (r : Path) → early_jumps g r (listed a) ≡ [] → early_jumps g r (listed b) ≡ []
  pub bodies : (a' : Around) → BodiesKept (bodies (quiet a') (listed a)) (bodies (quiet a') (listed b))
  pub frames : FramesKept (frames None (listed a)) (frames None (listed b))

module _ (a b : Trees) (i : InList a b) (s : Said (listed a) (listed b)) where
  list_scoped : (env : Environment) → Scoped Alone env (block a) → Scoped Alone env (block b)
  unfolding Scoped scopes_by
  list_scoped env r =
      (tt, (subst (λ bs. Scoped Read (env ++ bs) (listed b)) (sym (ap lexical_scope (i.kept.names declared.Lexical))) (i.scoped _ r.1.0), tt))

  list_numbers : (k : ℕ) → count_of k (numbers (block b)) ≤ count_of k (numbers (block a))
  unfolding numbers
  list_numbers k = first_count k (numbers (listed a)) (numbers (listed b)) [] (i.numbers k)

  list_once : (r : Path) → early_names r (block a) ≡ [] → early_names r (block b) ≡ []
  unfolding early_names scope_declarations
  list_once r e =
      let (own, below) = empty_both (clashing [] (in_body false r (listed a ▸ none) 0)) (early_names (r ++ 0 ∷ []) (listed a) ++ []) e in
      both_empty (clashing [] (in_body false r (listed b ▸ none) 0)) (early_names (r ++ 0 ∷ []) (listed b) ++ [])
      (free_same (in_body false r (listed a ▸ none) 0) (in_body false r (listed b ▸ none) 0) (i.declared_as_body (r ++ 0 ∷ [])) own)
      (first_empty (early_names (r ++ 0 ∷ []) (listed a)) (early_names (r ++ 0 ∷ []) (listed b)) [] (i.once (r ++ 0 ∷ [])) below)

  list_aimed : (g : Targets) (r : Path) → early_jumps g r (block a) ≡ [] → early_jumps g r (block b) ≡ []
  unfolding early_jumps targets_of
  list_aimed g r e = first_empty (early_jumps g (r ++ 0 ∷ []) (listed a)) (early_jumps g (r ++ 0 ∷ []) (listed b)) [] (i.targets g (r ++ 0 ∷ [])) e

  pub list_says : Said (block a) (block b)
  list_says = record {
    fixed = λ z. of_children shape.BlockStatement [] 0 (listed a ▸ none) z refl ∙ ap (λ f. stricter f Writable) (s.fixed z) ∙ sym (of_children shape.BlockStatement [] 0 (listed b ▸ none) z refl);
    declared = first_among (declared_names (listed a)) (declared_names (listed b)) [] s.declared;
  }

  pub list_inside : Inside (block a) (block b)
  list_inside = record {
    kept = below shape.BlockStatement [] 0 (listed a ▸ none) (listed b ▸ none) (i.kept, tt);
    scoped = λ env r. list_scoped env r;
    numbers = list_numbers;
    once = λ r e. list_once r e;
    targets = λ g r e. list_aimed g r e;
    bodies = λ x. each_body (bodies (quiet x) (listed a)) [] (bodies (quiet x) (listed b)) [] (i.bodies x) tt;
    frames = each_frame (frames None (listed a)) [] (frames None (listed b)) [] i.frames (λ f m. m);
    fixed = list_says.fixed;
    declared = list_says.declared;
  }

-- what is inside after one change and after another
pub inside_then : (x y z : Tree) → Inside x y → Inside y z → Inside x z
inside_then x y z i j = record {
  kept = twice x y z i.kept j.kept;
  scoped = λ env r. j.scoped env (i.scoped env r);
  numbers = λ k. omega (arith, i.numbers k, j.numbers k);
  once = λ r e. j.once r (i.once r e);
  targets = λ g r e. j.targets g r (i.targets g r e);
  bodies = λ a. kept_on (bodies (quiet a) x) (bodies (quiet a) y) (bodies (quiet a) z) (i.bodies a) (j.bodies a);
  frames = λ f m. i.frames f (j.frames f m);
  fixed = λ v. i.fixed v ∙ j.fixed v;
  declared = λ v m. i.declared v (j.declared v m);
}
