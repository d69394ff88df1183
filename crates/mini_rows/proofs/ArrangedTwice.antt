-- A list of statements in which a branch stands twice, one right after the other, is kept where it is written once: what it
-- hoists is declared once in place of twice.
use Rattle.std.specs.Prelude.{ℕ, ◌≡◌, refl, ◌&&◌, ◌||◌, Bool, true, false, List, [], ◌∷◌, ◌++◌, Option, Some, None, if◌then◌else◌}
use Rattle.std.proofs.Common.{inl, ap, ◌∙◌, sym, subst, arith}
use Rattle.std.proofs.lemmas.Bool.{and_parts}
use Rattle.mini_model.specs.declared.name.Name.{Name}
use Rattle.mini_model.specs.declared.name.SymbolId.{SymbolId}
use Rattle.mini_model.specs.declared.place.Position.TheVariants.{StatementList}
use Rattle.mini_model.specs.Tree.{Tree, listed, child_or_absent}
use Rattle.mini_model.specs.Weight.{same_text}
use Rattle.mini_laws.specs.declared.names.Declaration.{Declaration}
use Rattle.mini_laws.specs.declared.names.Declared.TheVariants as declared
use Rattle.mini_laws.specs.DeclaredNames.{names_of, body_names}
use Rattle.mini_laws.specs.Early.{body_declarations}
use Rattle.mini_kept.specs.KeepsLoosely.{KeepsLoosely}
use Rattle.mini_kept.specs.KeepsNames.{unplaced}
use Rattle.mini_kept.specs.SameNames.{is_among, SameNames, first_symbol, SameScope, NoMoreClash}
use Rattle.mini_kept.proofs.Clashes.{no_more_same, no_more_both}
use Rattle.mini_kept.proofs.SameScopes.{scope_both}
use Rattle.mini_kept.proofs.Statements.{among_both}
use Rattle.mini_kept.proofs.Unplaced.{as_body, body_is}
use Rattle.mini_kept.specs.Frames.{ports as ports_of}
use Rattle.mini_rows.specs.Sketches.{list, Items, Parts, items_filled, AsWholeList, AsWholeItem, parts_in, Free, is_rearranged, all_settled, items_stand_well, statements, has_branch_twice}
use Rattle.mini_rows.specs.Arranged.{KeptAt, AllVanish, AreLoose, ListsArrangedOnce}
use Rattle.mini_rows.proofs.Arranging.{Any, Each}
use Rattle.mini_rows.proofs.ArrangedValues.{Valued}
use Rattle.mini_rows.proofs.ArrangedMoves.{loosened}
use Rattle.mini_rows.proofs.ArrangedTrees.{same_inner, same_once, same_targets, same_scoped, same_symbols, same_numbers}
use Rattle.mini_rows.proofs.ArrangedGather.{Fold, Twice, branch_twice, gives_each, gives_once, gives_twice}
use Rattle.mini_rows.proofs.ArrangedFolds.{bound_fold, lexical_fold, hoisted_fold, body_fold, hoists, declared_fold, same_trees, port, ports_in, ports_fold}
use Rattle.mini_rows.proofs.ArrangedStatements.{statement_used, list_valued, list_kept_by, same_loop}

-- ---- once in place of twice

names_twice : (xs ys zs : List Name) → SameNames (xs ++ (ys ++ zs)) (xs ++ (ys ++ (ys ++ zs)))
names_twice xs ys zs y =
    among_both xs (ys ++ zs) y
    ∙ ap (λ b. is_among xs y || b) (among_both ys zs y ∙ twice (is_among ys y) (is_among zs y) ∙ ap (λ b. is_among ys y || b) (sym (among_both ys zs y)) ∙ sym (among_both ys (ys ++ zs) y))
    ∙ sym (among_both xs (ys ++ (ys ++ zs)) y)
  where
    twice : (a b : Bool) → (a || b) ≡ (a || (a || b))
    twice true b = refl
    twice false b = refl

abbrev or_first : Option (Option SymbolId) → Option (Option SymbolId) → Option (Option SymbolId)
or_first None y = y
or_first (Some x) y = Some x

first_or : (s : List ℕ) (xs ys : List Name) → first_symbol s (xs ++ ys) ≡ or_first (first_symbol s xs) (first_symbol s ys)
first_or s [] ys = refl
first_or s (x ∷ xs) ys = by (same_text x.spelling s) (first_or s xs ys)
  where
    by : (b : Bool) → first_symbol s (xs ++ ys) ≡ or_first (first_symbol s xs) (first_symbol s ys) → (if b then Some x.symbol else first_symbol s (xs ++ ys)) ≡ or_first (if b then Some x.symbol else first_symbol s xs) (first_symbol s ys)
    by true e = refl
    by false e = e

scope_twice : (xs ys zs : List Name) → SameScope (xs ++ (ys ++ zs)) (xs ++ (ys ++ (ys ++ zs)))
scope_twice xs ys zs =
    scope_both xs (ys ++ zs) xs (ys ++ (ys ++ zs)) (λ s. refl)
    (λ s. first_or s ys zs ∙ twice (first_symbol s ys) (first_symbol s zs) ∙ ap (or_first (first_symbol s ys)) (sym (first_or s ys zs)) ∙ sym (first_or s ys (ys ++ zs)))
  where
    twice : (a b : Option (Option SymbolId)) → or_first a b ≡ or_first a (or_first a b)
    twice None b = refl
    twice (Some a) b = refl

no_more_none : (ds : List Declaration) → NoMoreClash [] ds
no_more_none ds s = (omega arith, λ z. refl)

declared_twice : (xs ys zs : List Declaration) → NoMoreClash (xs ++ (ys ++ zs)) (xs ++ (ys ++ (ys ++ zs)))
declared_twice xs ys zs = no_more_both xs xs (ys ++ (ys ++ zs)) (ys ++ zs) (no_more_same xs xs refl) (no_more_both ys [] (ys ++ zs) (ys ++ zs) (no_more_none ys) (no_more_same (ys ++ zs) (ys ++ zs) refl))

no_more_on : (ds es fs : List Declaration) → NoMoreClash es ds → NoMoreClash fs es → NoMoreClash fs ds
no_more_on ds es fs a b s = let x = (a s).0 in let y = (b s).0 in (omega (arith, x, y), λ z. (b s).1 ((a s).1 z))

unplaced_twice : (ds : List Declaration) → unplaced (unplaced ds) ≡ unplaced ds
unplaced_twice [] = refl
unplaced_twice (d ∷ ds) = ap (λ r. record d { at = [] } ∷ r) (unplaced_twice ds)

-- declarations clash as they do without their paths
no_more_placed : (ds es ds' es' : List Declaration) → unplaced ds ≡ ds' → unplaced es ≡ es' → NoMoreClash es' ds' → NoMoreClash es ds
no_more_placed ds es ds' es' e f k =
    no_more_on ds ds' es (no_more_same ds ds' (sym (ap unplaced e) ∙ unplaced_twice ds))
    (no_more_on ds' es' es k (no_more_same es' es (sym (unplaced_twice es) ∙ ap unplaced f)))

-- ---- the list

module _ (f : Free) (ps : Parts) (u : AreLoose ps f) (is js : Items) (sn : items_stand_well f AsWholeItem is ≡ true) (sr : items_stand_well f AsWholeItem js ≡ true) (y : is_rearranged f (parts_in AsWholeItem is) (parts_in AsWholeItem js) ≡ true) (t : Twice (statements (all_settled f (parts_in AsWholeItem js))) (statements (all_settled f (parts_in AsWholeItem is)))) where
  abbrev n : Tree
  n = listed (items_filled ps is)

  abbrev w : Tree
  w = listed (items_filled ps js)

  abbrev branch : Tree
  branch = child_or_absent ps.trees t.branch

  module _ (v : Each Any Valued ps (parts_in AsWholeItem is)) where
    put : (A : Type 0) (L B H : Tree → List A) (k : Fold A L B H) → L w ≡ gives_each A L B H k ps t.before ++ (H branch ++ gives_each A L B H k ps t.after)
    put A L B H k = gives_once A L B H k f ps u AsWholeList (list js) (statements (all_settled f (parts_in AsWholeItem is))) t sr (list_valued f ps u is js sn sr y v)

    read : (A : Type 0) (L B H : Tree → List A) (k : Fold A L B H) → L n ≡ gives_each A L B H k ps t.before ++ (H branch ++ (H branch ++ gives_each A L B H k ps t.after))
    read A L B H k = gives_twice A L B H k f ps u AsWholeList (list is) (statements (all_settled f (parts_in AsWholeItem js))) t sn v

    -- what isn't hoisted is the same
    direct : (A : Type 0) (L B : Tree → List A) → Fold A L B (λ x. []) → L w ≡ L n
    direct A L B k = put A L B (λ x. []) k ∙ sym (read A L B (λ x. []) k)

    same_hoisted : SameNames (names_of declared.Hoisted w) (names_of declared.Hoisted n)
    same_hoisted =
        let X = gives_each Name (names_of declared.Hoisted) (names_of declared.Hoisted) (names_of declared.Hoisted) hoisted_fold ps in
        subst (λ r. SameNames r (names_of declared.Hoisted n)) (sym (put Name (names_of declared.Hoisted) (names_of declared.Hoisted) (names_of declared.Hoisted) hoisted_fold))
        (subst (SameNames (X t.before ++ (names_of declared.Hoisted branch ++ X t.after))) (sym (read Name (names_of declared.Hoisted) (names_of declared.Hoisted) (names_of declared.Hoisted) hoisted_fold)) (names_twice (X t.before) (names_of declared.Hoisted branch) (X t.after)))

    same_body : SameScope (body_names w) (body_names n)
    same_body =
        let X = gives_each Name body_names body_names (names_of declared.Hoisted) body_fold ps in
        subst (λ r. SameScope r (body_names n)) (sym (put Name body_names body_names (names_of declared.Hoisted) body_fold))
        (subst (SameScope (X t.before ++ (names_of declared.Hoisted branch ++ X t.after))) (sym (read Name body_names body_names (names_of declared.Hoisted) body_fold)) (scope_twice (X t.before) (names_of declared.Hoisted branch) (X t.after)))

    same_declared_as : (o : Bool) → NoMoreClash (as_body o w) (as_body o n)
    same_declared_as o =
        let X = gives_each Declaration (as_body o) (as_body o) hoists (declared_fold o) ps in
        subst (λ r. NoMoreClash r (as_body o n)) (sym (put Declaration (as_body o) (as_body o) hoists (declared_fold o)))
        (subst (NoMoreClash (X t.before ++ (hoists branch ++ X t.after))) (sym (read Declaration (as_body o) (as_body o) hoists (declared_fold o))) (declared_twice (X t.before) (hoists branch) (X t.after)))

    keeps : AllVanish ps.trees f.dropped → KeepsLoosely StatementList n w
    keeps g = record {
      bound = direct Name (names_of declared.Bound) (names_of declared.Bound) bound_fold;
      lexical = direct Name (names_of declared.Lexical) (names_of declared.Lexical) lexical_fold;
      hoisted = same_hoisted;
      body = λ o env st k. same_body;
      inner = inl (same_inner f ps u AsWholeList (list is) (list js) sn sr y g);
      scoped = λ o env st k. same_scoped f ps u AsWholeList (list is) (list js) sn sr y v o (statement_used AsWholeList StatementList refl o n refl st) env k;
      symbols = λ o env st k x. same_symbols f ps u AsWholeList (list is) (list js) sn sr y v o x;
      numbers = same_numbers f ps u AsWholeList (list is) (list js) sn sr y v;
      declared_as_body = λ o q. no_more_placed (body_declarations o q n) (body_declarations o q w) (as_body o n) (as_body o w) (body_is o q n) (body_is o q w) (same_declared_as o);
      once = same_once f ps u AsWholeList (list is) (list js) sn sr y;
      targets = same_targets f ps u AsWholeList (list is) (list js) sn sr y;
      loop = same_loop (items_filled ps is) (items_filled ps js);
      root = λ e. absurd (cc e);
      block = λ e b q. absurd (cc e);
    }

    same_ports : (m : Bool) → ports_of m (items_filled ps is) ≡ ports_of m (items_filled ps js)
    same_ports m = sym (same_trees (ports_of m (items_filled ps js)) (ports_of m (items_filled ps is)) (direct Tree (ports_in m) (port m) (ports_fold m)))

  pub list_kept_once : AllVanish ps.trees f.dropped → KeptAt StatementList n w
  list_kept_once g = list_kept_by f ps u is js sn sr y g (λ v. keeps v g) (λ m v. same_ports v m)

pub lists_arranged_once : ListsArrangedOnce
lists_arranged_once f ps u is js e n w a b =
    let hs = parts_in AsWholeItem is in
    let gs = parts_in AsWholeItem js in
    let (sn, x) = and_parts (items_stand_well f AsWholeItem is) (items_stand_well f AsWholeItem js && (is_rearranged f hs gs && has_branch_twice (statements (all_settled f gs)) (statements (all_settled f hs)))) e in
    let (sr, z) = and_parts (items_stand_well f AsWholeItem js) (is_rearranged f hs gs && has_branch_twice (statements (all_settled f gs)) (statements (all_settled f hs))) x in
    let (y, t) = and_parts (is_rearranged f hs gs) (has_branch_twice (statements (all_settled f gs)) (statements (all_settled f hs))) z in
    subst (λ r. KeptAt StatementList r w) (sym a) (subst (KeptAt StatementList (listed (items_filled ps is))) (sym b) (list_kept_once f ps (loosened f ps u) is js sn sr y (branch_twice (statements (all_settled f gs)) (statements (all_settled f hs)) t) u.2))
