-- A tree without early errors has none once items are gone: fewer names are declared, and each jump
-- keeps its target.
use Rattle.std.proofs.Common.{◌≡◌, ℕ, suc, Bool, true, false, List, [], ◌∷◌, ◌++◌, refl, sym, ap, ◌∙◌, subst, subst₂, arith}
use Rattle.std.specs.Prelude.{not, ◌&&◌, unwrap_or, if◌then◌else◌}
use Rattle.mini_model.specs.declared.name.Name.{Name}
use Rattle.mini_model.specs.declared.shape.Shape.{Shape}
use Rattle.mini_model.specs.declared.shape.Shape.TheVariants as shape
use Rattle.mini_model.specs.Tree.{Trees, node, shape_of, child_or_absent}
use Rattle.mini_laws.specs.declared.names.Clash.{Clash}
use Rattle.mini_laws.specs.declared.names.Clash.TheVariants as clash
use Rattle.mini_laws.specs.declared.names.Declaration.{Declaration}
use Rattle.mini_laws.specs.declared.names.Declared.{Declared}
use Rattle.mini_laws.specs.declared.names.Declared.TheVariants as declared
use Rattle.mini_laws.specs.declared.names.Place.{Place}
use Rattle.mini_laws.specs.declared.names.Place.TheVariants as place
use Rattle.mini_laws.specs.declared.names.Targets.{Targets}
use Rattle.mini_laws.specs.declared.names.Turn.{Turn}
use Rattle.mini_laws.specs.declared.names.Turn.TheVariants as turn
use Rattle.mini_laws.specs.DeclaredNames.{place_of}
use Rattle.mini_laws.specs.Early.{Path, choose_by, own_declarations, declarations, first_declarations, all_declarations, is_function_shape, statement_declarations, holds_statements, body_declarations, all_body_declarations, is_pattern_shape, clash_of, at_child, in_body, children_of_node, in_param, in_block, declarations_by, scope_declarations, clashing, early_names, all_early_names, label_by, is_loop, last_is_loop, last_by, turn_of, turned, targets_of, jump_of, is_bad, is_bad_jump, early_jumps, all_early_jumps}
use Rattle.mini_laws.specs.Value.{VariableSet}
use Rattle.mini_kept.specs.KeepsNames.{unplaced}
use Rattle.mini_kept.specs.SameNames.{NoMoreClash}
use Rattle.mini_kept.proofs.Clashes.{no_more_same, no_more_both, still_free}
use Rattle.mini_dead.specs.Pruned.{Spot, Elsewhere, Role, Plain, role, spot_below, Pruned, prune, Prunings, end, stays, goes, declarator_goes, earlier, earlier_all, later, later_all, item_tree, declarator_tree}
use Rattle.mini_dead.proofs.Sparing.{Tidy, AllTidy, AllStay, is_list, list_or_not, children_stay, elsewhere_stay, pick, pick_earlier, pick_later, same_shape, shape_at, pick_tidy, pick_plain}

-- ---- no more declarations clash

none_clash : (ds : List Declaration) → NoMoreClash [] ds
none_clash ds s = (omega arith, λ z. refl)

gone_first : (ds es fs : List Declaration) → NoMoreClash fs es → NoMoreClash fs (ds ++ es)
gone_first ds es fs a = no_more_both ds [] es fs (none_clash ds) a

own_alike : (l : Bool) (q q' : Path) (xs : List Name) → unplaced (own_declarations l q' xs) ≡ unplaced (own_declarations l q xs)
own_alike l q q' [] = refl
own_alike l q q' (x ∷ xs) = ap (λ r. record { spelling = x.spelling; is_lexical = l; at = [] } ∷ r) (own_alike l q q' xs)

by_place : (p : Place) (own own' first first' bound bound' below below' : List Declaration) → NoMoreClash own' own → NoMoreClash first' first → NoMoreClash bound' bound → NoMoreClash below' below → NoMoreClash (choose_by p own' first' bound' below') (choose_by p own first bound below)
by_place place.Here own own' first first' bound bound' below below' a b c d = a
by_place place.FirstBound own own' first first' bound bound' below below' a b c d = b
by_place place.Bound own own' first first' bound bound' below below' a b c d = c
by_place place.Below own own' first first' bound bound' below below' a b c d = d
by_place place.Nowhere own own' first first' bound bound' below below' a b c d = none_clash []

picked : (b : Bool) (ds ds' es es' : List Declaration) → NoMoreClash ds' ds → NoMoreClash es' es → NoMoreClash (if b then ds' else es') (if b then ds else es)
picked true ds ds' es es' a c = a
picked false ds ds' es es' a c = c

listed : (d : Declared) (l : Bool) (q : Path) (xs : List Name) (n : ℕ) (ts : Trees) → declarations d l q (node shape.Listed xs n ts) ≡ all_declarations d l q 0 ts
unfolding declarations
listed declared.Bound l q xs n ts = refl
listed declared.Lexical l q xs n ts = refl
listed declared.Hoisted l q xs n ts = refl

-- ---- parts of lists that are empty

empty_parts : (xs ys : List Path) → xs ++ ys ≡ [] → (xs ≡ []) × (ys ≡ [])
empty_parts [] ys e = (refl, e)
empty_parts (x ∷ xs) ys e = absurd (cc e)

both_empty : (xs ys : List Path) → xs ≡ [] → ys ≡ [] → xs ++ ys ≡ []
both_empty xs ys e f = ap (λ r. r ++ ys) e ∙ f

not_bad : (b : Bool) (q : Path) → (if b then q ∷ [] else []) ≡ [] → b ≡ false
not_bad true q e = absurd (cc e)
not_bad false q e = refl

module _ (D : VariableSet) where
  mutual
    unfolding declarations

    declarations_still : (d : Declared) (l : Bool) (q q' : Path) (p : Spot) (x : Pruned) → Tidy D p x → NoMoreClash (declarations d l q' (later x)) (declarations d l q (earlier x))
    declarations_still d l q q' p (prune h xs n ps) a =
        list_or_not h (NoMoreClash (declarations d l q' (node h xs n (later_all ps))) (declarations d l q (node h xs n (earlier_all ps))))
        (λ e. subst (λ k. NoMoreClash (declarations d l q' (node k xs n (later_all ps))) (declarations d l q (node k xs n (earlier_all ps)))) (sym e)
        (subst₂ (λ es ds. NoMoreClash es ds) (sym (listed d l q' xs n (later_all ps))) (sym (listed d l q xs n (earlier_all ps))) (all_declarations_still d l q q' (role h p) 0 0 0 ps a)))
        (λ e. by_place (place_of d h) (own_declarations l q xs) (own_declarations l q' xs) (first_declarations l q (earlier_all ps)) (first_declarations l q' (later_all ps)) (all_declarations declared.Bound l q 0 (earlier_all ps)) (all_declarations declared.Bound l q' 0 (later_all ps)) (all_declarations d l q 0 (earlier_all ps)) (all_declarations d l q' 0 (later_all ps))
        (no_more_same (own_declarations l q xs) (own_declarations l q' xs) (own_alike l q q' xs)) (first_declarations_still l q q' (role h p) 0 ps (children_stay D h p ps e a) a)
        (all_declarations_still declared.Bound l q q' (role h p) 0 0 0 ps a) (all_declarations_still d l q q' (role h p) 0 0 0 ps a))

    first_declarations_still : (l : Bool) (q q' : Path) (r : Role) (i : ℕ) (ps : Prunings) → AllStay ps → AllTidy D r i ps → NoMoreClash (first_declarations l q' (later_all ps)) (first_declarations l q (earlier_all ps))
    first_declarations_still l q q' r i end s a = none_clash []
    first_declarations_still l q q' r i (stays x ps) s a = declarations_still declared.Bound l (q ++ 0 ∷ []) (q' ++ 0 ∷ []) (spot_below r i) x a.0
    first_declarations_still l q q' r i (goes c ps) s a = absurd s
    first_declarations_still l q q' r i (declarator_goes c ps) s a = absurd s

    all_declarations_still : (d : Declared) (l : Bool) (q q' : Path) (r : Role) (k i j : ℕ) (ps : Prunings) → AllTidy D r k ps → NoMoreClash (all_declarations d l q' j (later_all ps)) (all_declarations d l q i (earlier_all ps))
    all_declarations_still d l q q' r k i j end a = none_clash []
    all_declarations_still d l q q' r k i j (stays x ps) a =
        no_more_both (declarations d l (q ++ i ∷ []) (earlier x)) (declarations d l (q' ++ j ∷ []) (later x)) (all_declarations d l q (suc i) (earlier_all ps)) (all_declarations d l q' (suc j) (later_all ps))
        (declarations_still d l (q ++ i ∷ []) (q' ++ j ∷ []) (spot_below r k) x a.0) (all_declarations_still d l q q' r (suc k) (suc i) (suc j) ps a.1)
    all_declarations_still d l q q' r k i j (goes c ps) a = gone_first (declarations d l (q ++ i ∷ []) (item_tree c)) (all_declarations d l q (suc i) (earlier_all ps)) (all_declarations d l q' j (later_all ps)) (all_declarations_still d l q q' r (suc k) (suc i) j ps a.2)
    all_declarations_still d l q q' r k i j (declarator_goes c ps) a = gone_first (declarations d l (q ++ i ∷ []) (declarator_tree c)) (all_declarations d l q (suc i) (earlier_all ps)) (all_declarations d l q' j (later_all ps)) (all_declarations_still d l q q' r (suc k) (suc i) j ps a.2)

  statement_still : (b : Bool) (q q' : Path) (p : Spot) (x : Pruned) → Tidy D p x → NoMoreClash (statement_declarations b q' (later x)) (statement_declarations b q (earlier x))
  statement_still b q q' p x a =
      let kind : ℕ → Bool = λ i. not (b && is_function_shape (shape_of (earlier x))) in
      subst (λ h. NoMoreClash (declarations declared.Lexical (not (b && is_function_shape h)) q' (later x) ++ declarations declared.Hoisted false q' (later x)) (statement_declarations b q (earlier x))) (sym (same_shape x))
      (no_more_both (declarations declared.Lexical (kind 0) q (earlier x)) (declarations declared.Lexical (kind 0) q' (later x)) (declarations declared.Hoisted false q (earlier x)) (declarations declared.Hoisted false q' (later x))
      (declarations_still declared.Lexical (kind 0) q q' p x a) (declarations_still declared.Hoisted false q q' p x a))

  mutual
    unfolding body_declarations

    body_still : (b : Bool) (q q' : Path) (p : Spot) (x : Pruned) → Tidy D p x → NoMoreClash (body_declarations b q' (later x)) (body_declarations b q (earlier x))
    body_still b q q' p (prune h xs n ps) a =
        picked (holds_statements h) (all_body_declarations b q 0 (earlier_all ps)) (all_body_declarations b q' 0 (later_all ps)) (statement_declarations b q (node h xs n (earlier_all ps))) (statement_declarations b q' (node h xs n (later_all ps)))
        (all_body_still b q q' (role h p) 0 0 0 ps a) (statement_still b q q' p (prune h xs n ps) a)

    all_body_still : (b : Bool) (q q' : Path) (r : Role) (k i j : ℕ) (ps : Prunings) → AllTidy D r k ps → NoMoreClash (all_body_declarations b q' j (later_all ps)) (all_body_declarations b q i (earlier_all ps))
    all_body_still b q q' r k i j end a = none_clash []
    all_body_still b q q' r k i j (stays x ps) a =
        no_more_both (body_declarations b (q ++ i ∷ []) (earlier x)) (body_declarations b (q' ++ j ∷ []) (later x)) (all_body_declarations b q (suc i) (earlier_all ps)) (all_body_declarations b q' (suc j) (later_all ps))
        (body_still b (q ++ i ∷ []) (q' ++ j ∷ []) (spot_below r k) x a.0) (all_body_still b q q' r (suc k) (suc i) (suc j) ps a.1)
    all_body_still b q q' r k i j (goes c ps) a = gone_first (body_declarations b (q ++ i ∷ []) (item_tree c)) (all_body_declarations b q (suc i) (earlier_all ps)) (all_body_declarations b q' j (later_all ps)) (all_body_still b q q' r (suc k) (suc i) j ps a.2)
    all_body_still b q q' r k i j (declarator_goes c ps) a = gone_first (body_declarations b (q ++ i ∷ []) (declarator_tree c)) (all_body_declarations b q (suc i) (earlier_all ps)) (all_body_declarations b q' j (later_all ps)) (all_body_still b q q' r (suc k) (suc i) j ps a.2)

  -- ---- the scopes that a node opens

  module _ (q q' : Path) (r : Role) (ps : Prunings) (s : AllStay ps) (a : AllTidy D r 0 ps) where
    child_still : (d : Declared) (l : Bool) (i : ℕ) → NoMoreClash (at_child d l q' (later_all ps) i) (at_child d l q (earlier_all ps) i)
    child_still d l i =
        let spot = pick_tidy D r 0 i ps a in
        subst₂ (λ u t. NoMoreClash (declarations d l (q' ++ i ∷ []) u) (declarations d l (q ++ i ∷ []) t)) (pick_later i ps s) (pick_earlier i ps s) (declarations_still d l (q ++ i ∷ []) (q' ++ i ∷ []) spot.0 (pick i ps) spot.1)

    in_body_still : (b : Bool) (i : ℕ) → NoMoreClash (in_body b q' (later_all ps) i) (in_body b q (earlier_all ps) i)
    in_body_still b i =
        let spot = pick_tidy D r 0 i ps a in
        subst₂ (λ u t. NoMoreClash (body_declarations b (q' ++ i ∷ []) u) (body_declarations b (q ++ i ∷ []) t)) (pick_later i ps s) (pick_earlier i ps s) (body_still b (q ++ i ∷ []) (q' ++ i ∷ []) spot.0 (pick i ps) spot.1)

  block_still : (q q' : Path) (x : Pruned) → Tidy D Elsewhere x → NoMoreClash (in_body false q' (children_of_node (later x)) 0) (in_body false q (children_of_node (earlier x)) 0)
  block_still q q' (prune h xs n ps) a = in_body_still q q' (role h Elsewhere) ps (elsewhere_stay D h ps a) a false 0

  catch_still : (q q' : Path) (ps : Prunings) → AllStay ps → AllTidy D Plain 0 ps → NoMoreClash (declarations_by clash.Catch q' (later_all ps)) (declarations_by clash.Catch q (earlier_all ps))
  catch_still q q' ps s a =
      no_more_both (in_param q (earlier_all ps)) (in_param q' (later_all ps)) (in_block q (earlier_all ps)) (in_block q' (later_all ps))
      (subst (λ h. NoMoreClash (at_child declared.Bound (is_pattern_shape h) q' (later_all ps) 0) (in_param q (earlier_all ps))) (sym (shape_at 0 ps s)) (child_still q q' Plain ps s a declared.Bound (is_pattern_shape (shape_of (child_or_absent (earlier_all ps) 0))) 0))
      (subst₂ (λ u t. NoMoreClash (in_body false (q' ++ 1 ∷ []) (children_of_node u) 0) (in_body false (q ++ 1 ∷ []) (children_of_node t) 0)) (pick_later 1 ps s) (pick_earlier 1 ps s)
      (block_still (q ++ 1 ∷ []) (q' ++ 1 ∷ []) (pick 1 ps) (pick_plain D 0 1 ps a)))

  by_clash : (c : Clash) (q q' : Path) (r : Role) (ps : Prunings) → (c ≡ clash.Catch → r ≡ Plain) → AllStay ps → AllTidy D r 0 ps → NoMoreClash (declarations_by c q' (later_all ps)) (declarations_by c q (earlier_all ps))
  by_clash clash.Nothing q q' r ps f s a = none_clash []
  by_clash (clash.Body b) q q' r ps f s a = in_body_still q q' r ps s a b 0
  by_clash (clash.Function i j) q q' r ps f s a =
      no_more_both (at_child declared.Bound false q (earlier_all ps) i) (at_child declared.Bound false q' (later_all ps) i) (in_body true q (earlier_all ps) j) (in_body true q' (later_all ps) j)
      (child_still q q' r ps s a declared.Bound false i) (in_body_still q q' r ps s a true j)
  by_clash clash.Switch q q' r ps f s a = in_body_still q q' r ps s a false 1
  by_clash clash.Catch q q' r ps f s a = catch_still q q' ps s (subst (λ w. AllTidy D w 0 ps) (f refl) a)
  by_clash (clash.Loop i) q q' r ps f s a =
      no_more_both (at_child declared.Lexical true q (earlier_all ps) 0) (at_child declared.Lexical true q' (later_all ps) 0) (at_child declared.Hoisted false q (earlier_all ps) i) (at_child declared.Hoisted false q' (later_all ps) i)
      (child_still q q' r ps s a declared.Lexical true 0) (child_still q q' r ps s a declared.Hoisted false i)

  catch_role : (h : Shape) (p : Spot) → clash_of h ≡ clash.Catch → role h p ≡ Plain
  catch_role shape.CatchClause p e = refl
  catch_role h p e = absurd (cc e)

  scope_still : (q q' : Path) (h : Shape) (p : Spot) (ps : Prunings) → (is_list h ≡ false → AllStay ps) → AllTidy D (role h p) 0 ps → clashing [] (scope_declarations h q (earlier_all ps)) ≡ [] → clashing [] (scope_declarations h q' (later_all ps)) ≡ []
  unfolding scope_declarations
  scope_still q q' shape.Listed p ps s a e = refl
  scope_still q q' h p ps s a e = still_free (declarations_by (clash_of h) q (earlier_all ps)) (declarations_by (clash_of h) q' (later_all ps)) (by_clash (clash_of h) q q' (role h p) ps (catch_role h p) (s refl) a) e

  mutual
    unfolding early_names

    pub names_still : (q q' : Path) (p : Spot) (x : Pruned) → Tidy D p x → early_names q (earlier x) ≡ [] → early_names q' (later x) ≡ []
    names_still q q' p (prune h xs n ps) a e =
        let parts = empty_parts (clashing [] (scope_declarations h q (earlier_all ps))) (all_early_names q 0 (earlier_all ps)) e in
        both_empty (clashing [] (scope_declarations h q' (later_all ps))) (all_early_names q' 0 (later_all ps)) (scope_still q q' h p ps (λ k. children_stay D h p ps k a) a parts.0) (all_names_still q q' (role h p) 0 0 0 ps a parts.1)

    all_names_still : (q q' : Path) (r : Role) (k i j : ℕ) (ps : Prunings) → AllTidy D r k ps → all_early_names q i (earlier_all ps) ≡ [] → all_early_names q' j (later_all ps) ≡ []
    all_names_still q q' r k i j end a e = refl
    all_names_still q q' r k i j (stays x ps) a e =
        let parts = empty_parts (early_names (q ++ i ∷ []) (earlier x)) (all_early_names q (suc i) (earlier_all ps)) e in
        both_empty (early_names (q' ++ j ∷ []) (later x)) (all_early_names q' (suc j) (later_all ps)) (names_still (q ++ i ∷ []) (q' ++ j ∷ []) (spot_below r k) x a.0 parts.0) (all_names_still q q' r (suc k) (suc i) (suc j) ps a.1 parts.1)
    all_names_still q q' r k i j (goes c ps) a e = all_names_still q q' r (suc k) (suc i) j ps a.2 (empty_parts (early_names (q ++ i ∷ []) (item_tree c)) (all_early_names q (suc i) (earlier_all ps)) e).1
    all_names_still q q' r k i j (declarator_goes c ps) a e = all_names_still q q' r (suc k) (suc i) j ps a.2 (empty_parts (early_names (q ++ i ∷ []) (declarator_tree c)) (all_early_names q (suc i) (earlier_all ps)) e).1

  -- ---- jumps

  mutual
    unfolding is_loop

    loop_still : (p : Spot) (x : Pruned) → Tidy D p x → is_loop (later x) ≡ is_loop (earlier x)
    loop_still p (prune shape.LabeledStatement xs n ps) a = last_still (role shape.LabeledStatement p) 0 ps (children_stay D shape.LabeledStatement p ps refl a) a
    loop_still p (prune h xs n ps) a = refl

    last_still : (r : Role) (k : ℕ) (ps : Prunings) → AllStay ps → AllTidy D r k ps → last_is_loop (later_all ps) ≡ last_is_loop (earlier_all ps)
    last_still r k end s a = refl
    last_still r k (stays x ps) s a = last_by_still r (suc k) (is_loop (later x)) (is_loop (earlier x)) ps (loop_still (spot_below r k) x a.0) s a.1
    last_still r k (goes c ps) s a = absurd s
    last_still r k (declarator_goes c ps) s a = absurd s

    last_by_still : (r : Role) (k : ℕ) (b c : Bool) (ps : Prunings) → b ≡ c → AllStay ps → AllTidy D r k ps → last_by b (later_all ps) ≡ last_by c (earlier_all ps)
    last_by_still r k b c end e s a = e
    last_by_still r k b c (stays x ps) e s a = last_by_still r (suc k) (is_loop (later x)) (is_loop (earlier x)) ps (loop_still (spot_below r k) x a.0) s a.1
    last_by_still r k b c (goes g ps) e s a = absurd s
    last_by_still r k b c (declarator_goes g ps) e s a = absurd s

  module _ (r : Role) (ps : Prunings) (s : AllStay ps) (a : AllTidy D r 0 ps) where
    loop_at : (i : ℕ) → is_loop (child_or_absent (later_all ps) i) ≡ is_loop (child_or_absent (earlier_all ps) i)
    loop_at i = let spot = pick_tidy D r 0 i ps a in sym (ap is_loop (pick_later i ps s)) ∙ loop_still spot.0 (pick i ps) spot.1 ∙ ap is_loop (pick_earlier i ps s)

    turned_still : (t : Turn) (b : Targets) → turned t (later_all ps) b ≡ turned t (earlier_all ps) b
    turned_still turn.Labeled b = λ k. record b { labels = b.labels ++ record { name = unwrap_or (label_by (shape_at 0 ps s k)) []; is_loop = loop_at 1 k } ∷ [] }
    turned_still t b = refl

    bad_still : (h : Shape) (b : Targets) → is_bad_jump h (later_all ps) b ≡ is_bad_jump h (earlier_all ps) b
    bad_still h b = ap (λ g. is_bad (jump_of h) (label_by g) b) (shape_at 0 ps s)

  bad_in : (h : Shape) (p : Spot) (ps : Prunings) (b : Targets) → AllTidy D (role h p) 0 ps → is_bad_jump h (earlier_all ps) b ≡ false → is_bad_jump h (later_all ps) b ≡ false
  bad_in shape.Listed p ps b a e = refl
  bad_in h p ps b a e = bad_still (role h p) ps (children_stay D h p ps refl a) a h b ∙ e

  mutual
    unfolding early_jumps targets_of

    pub jumps_still : (b : Targets) (q q' : Path) (p : Spot) (x : Pruned) → Tidy D p x → early_jumps b q (earlier x) ≡ [] → early_jumps b q' (later x) ≡ []
    jumps_still b q q' p (prune h xs n ps) a e =
        let parts = empty_parts (if is_bad_jump h (earlier_all ps) b then q ∷ [] else []) (all_early_jumps (targets_of h (earlier_all ps) b) q 0 (earlier_all ps)) e in
        both_empty (if is_bad_jump h (later_all ps) b then q' ∷ [] else []) (all_early_jumps (targets_of h (later_all ps) b) q' 0 (later_all ps))
        (ap (λ c. if c then q' ∷ [] else []) (bad_in h p ps b a (not_bad (is_bad_jump h (earlier_all ps) b) q parts.0)))
        (list_or_not h (all_early_jumps (targets_of h (later_all ps) b) q' 0 (later_all ps) ≡ [])
        (λ k. subst (λ g. all_early_jumps (targets_of g (later_all ps) b) q' 0 (later_all ps) ≡ []) (sym k)
        (list_jumps b q q' (role h p) 0 0 0 ps a (subst (λ g. all_early_jumps (targets_of g (earlier_all ps) b) q 0 (earlier_all ps) ≡ []) k parts.1)))
        (λ k. let s = children_stay D h p ps k a in
        all_jumps_still (targets_of h (earlier_all ps) b) (targets_of h (later_all ps) b) (λ i. turned_still (role h p) ps s a (turn_of h i) b) q q' (role h p) 0 ps s a parts.1))

    all_jumps_still : (ts ts' : ℕ → Targets) → ((i : ℕ) → ts' i ≡ ts i) → (q q' : Path) (r : Role) (i : ℕ) (ps : Prunings) → AllStay ps → AllTidy D r i ps → all_early_jumps ts q i (earlier_all ps) ≡ [] → all_early_jumps ts' q' i (later_all ps) ≡ []
    all_jumps_still ts ts' f q q' r i end s a e = refl
    all_jumps_still ts ts' f q q' r i (stays x ps) s a e =
        let parts = empty_parts (early_jumps (ts i) (q ++ i ∷ []) (earlier x)) (all_early_jumps ts q (suc i) (earlier_all ps)) e in
        both_empty (early_jumps (ts' i) (q' ++ i ∷ []) (later x)) (all_early_jumps ts' q' (suc i) (later_all ps))
        (subst (λ b. early_jumps b (q' ++ i ∷ []) (later x) ≡ []) (sym (f i)) (jumps_still (ts i) (q ++ i ∷ []) (q' ++ i ∷ []) (spot_below r i) x a.0 parts.0)) (all_jumps_still ts ts' f q q' r (suc i) ps s a.1 parts.1)
    all_jumps_still ts ts' f q q' r i (goes c ps) s a e = absurd s
    all_jumps_still ts ts' f q q' r i (declarator_goes c ps) s a e = absurd s

    list_jumps : (b : Targets) (q q' : Path) (r : Role) (k i j : ℕ) (ps : Prunings) → AllTidy D r k ps → all_early_jumps (λ m. b) q i (earlier_all ps) ≡ [] → all_early_jumps (λ m. b) q' j (later_all ps) ≡ []
    list_jumps b q q' r k i j end a e = refl
    list_jumps b q q' r k i j (stays x ps) a e =
        let parts = empty_parts (early_jumps b (q ++ i ∷ []) (earlier x)) (all_early_jumps (λ m. b) q (suc i) (earlier_all ps)) e in
        both_empty (early_jumps b (q' ++ j ∷ []) (later x)) (all_early_jumps (λ m. b) q' (suc j) (later_all ps)) (jumps_still b (q ++ i ∷ []) (q' ++ j ∷ []) (spot_below r k) x a.0 parts.0) (list_jumps b q q' r (suc k) (suc i) (suc j) ps a.1 parts.1)
    list_jumps b q q' r k i j (goes c ps) a e = list_jumps b q q' r (suc k) (suc i) j ps a.2 (empty_parts (early_jumps b (q ++ i ∷ []) (item_tree c)) (all_early_jumps (λ m. b) q (suc i) (earlier_all ps)) e).1
    list_jumps b q q' r k i j (declarator_goes c ps) a e = list_jumps b q q' r (suc k) (suc i) j ps a.2 (empty_parts (early_jumps b (q ++ i ∷ []) (declarator_tree c)) (all_early_jumps (λ m. b) q (suc i) (earlier_all ps)) e).1
