-- A statement that never runs leaves only its `var` names behind, and the list asks less.
use Rattle.std.specs.Prelude.{ℕ, suc, ◌≡◌, refl, Bool, true, false, ◌&&◌, ◌||◌, not, List, [], ◌∷◌, ◌++◌}
use Rattle.std.proofs.Common.{ap, ◌∙◌}
use Rattle.mini_accept.specs.WellShaped.{a_statement, one}
use Rattle.mini_model.specs.declared.kind.VariableDeclarationKind.TheVariants.{Var}
use Rattle.mini_model.specs.declared.name.Name.{Name}
use Rattle.mini_model.specs.declared.shape.Shape.TheVariants as shape
use Rattle.mini_model.specs.Paths.{append}
use Rattle.mini_model.specs.Tree.{Tree, Trees, none, ◌▸◌, listed, absent}
use Rattle.mini_laws.specs.declared.names.Declared.TheVariants as declared
use Rattle.mini_laws.specs.declared.names.Use.TheVariants.{Read, Hoisted}
use Rattle.mini_laws.specs.DeclaredNames.{names_of}
use Rattle.mini_laws.specs.Foreign.{has_number, any_has_number}
use Rattle.mini_laws.specs.Mentions.{is_elsewhere, same_variable}
use Rattle.mini_laws.specs.Resolved.{Environment}
use Rattle.mini_laws.specs.ScopeList.{has_eval, any_has_eval, by_symbol}
use Rattle.mini_laws.specs.Scopes.{scopes_by}
use Rattle.mini_laws.specs.Shared.{is_arguments, is_of_function, names_arguments, any_names_arguments}
use Rattle.mini_shrink.specs.Pace.{Silent, reads_if, followed, ends_after, Setting, below, pace}
use Rattle.mini_shrink.specs.Questions.{Own, finds, early}
use Rattle.mini_rows.specs.Lists.{binding, declaration, declarator, bare_declarators, declared_bare, left_behind, is_unscoped, Row77Unreached}
use Rattle.mini_rows.specs.Sketches.{AbsentPart, Asked, AsWholeItem}
use Rattle.mini_rows.proofs.Arranging.{All}
use Rattle.mini_less.specs.Families.{NeighboursLess}
use Rattle.mini_less.specs.Neighbours.{of_items, items_say}
use Rattle.mini_less.specs.TellsLists.{Every, Names, TellsLists}
use Rattle.mini_less.proofs.ByLists.{lacks_vars, calm_vars}
use Rattle.mini_less.proofs.Finding.{Lacks, setting}
use Rattle.mini_less.proofs.Flags.{none_of, unlike}
use Rattle.mini_less.proofs.HoistedNames.{hoisted_sparing}
use Rattle.mini_less.proofs.LessRows.{any_names}
use Rattle.mini_less.proofs.ListHeads.{behind, first_fits}
use Rattle.mini_less.proofs.ListMade.{StretchLess, stretch_less, unscoped_ended}
use Rattle.mini_less.proofs.Listing.{with_belongs, say, to_lacks, of_lacks, none_ended, loosely, loosely_more, of_calm}
use Rattle.mini_less.proofs.Plainly.{is_reads, less_by, Calmly}
use Rattle.mini_shrink.proofs.Paces.{through}

-- whatever holds of each declarator without a value holds of the `var`
left_made : (Q : Asked → Tree → Type 0) (D : Tree → Type 0) → ((ds : Trees) → Every D ds → Q AsWholeItem (declaration Var ds)) → (P : Name → Type 0) → ((x : Name) → P x → D (declarator (binding x) absent)) → (xs : List Name) → Names P xs → All Q AsWholeItem (declared_bare xs)
left_made Q D up P f [] a = tt
left_made Q D up P f (x ∷ xs) a = (up (bare_declarators (x ∷ xs)) (each_one (x ∷ xs) a), tt)
  where
    each_one : (ys : List Name) → Names P ys → Every D (bare_declarators ys)
    each_one [] b = tt
    each_one (y ∷ ys) b = (f y b.0, each_one ys b.1)

whatever : (xs : List Name) → Names (λ x. Unit {0}) xs
whatever [] = tt
whatever (x ∷ xs) = (tt, whatever xs)

-- ---- what is found in such a declarator

module _ (o : Own) (t : TellsLists o) (c : Setting) (env : Environment) where
  abbrev around : Setting
  around = record { used = Hoisted; around = c.around; strict = c.strict; is_body = false; belongs = c.belongs; ordered = false }

  abbrev inside : Setting
  inside = below false around shape.VariableDeclarator 0 0

  declarator_lacks : (x : Name) → o inside (env ++ []) shape.BindingIdentifier (x ∷ []) 0 none ≡ false → finds o around env (declarator (binding x) absent) ≡ false
  unfolding finds scopes_by
  declarator_lacks x q = λ j. t.bare around env x refl j || ((q j || false) || ((t.plainly.plain (below false around shape.VariableDeclarator 0 1) ((env ++ []) ++ []) AbsentPart none tt j || false) || false))

-- ---- and read early

never_read : (b d : Bool) → (((b && false) && true) && d) ≡ false
never_read true d = refl
never_read false d = refl

abbrev around_early : Setting → Setting
around_early c = record { used = Hoisted; around = c.around; strict = c.strict; is_body = false; belongs = c.belongs; ordered = false }

calm_declarator : (m s : ℕ) (c : Setting) (env : Environment) (x : Name) → is_reads (pace (early m s) (record { used = Hoisted; around = c.around; strict = c.strict; is_body = false; belongs = c.belongs; ordered = false }) env (declarator (binding x) absent)) ≡ false
unfolding pace scopes_by
calm_declarator m s c env x = λ j. is_reads (followed (ends_after false (followed (reads_if (never_read (same_variable (by_symbol s) x) (not (is_elsewhere m c.around)) j || false)) Silent)) Silent)

-- ---- what is left tells besides names

pub evals_left : (xs : List Name) → any_has_eval (declared_bare xs) ≡ false
unfolding has_eval
evals_left [] = refl
evals_left (x ∷ xs) = λ j. (in_each (x ∷ xs) j || false) || false
  where
    in_each : (ys : List Name) → any_has_eval (bare_declarators ys) ≡ false
    in_each [] = refl
    in_each (y ∷ ys) = in_each ys

pub arguments_left : (xs : List Name) → Names (λ x. is_arguments (x ∷ []) ≡ false) xs → any_names (declared_bare xs) ≡ false
unfolding names_arguments
arguments_left [] a = refl
arguments_left (x ∷ xs) a = λ j. (in_each 0 (x ∷ xs) a j || false) || false
  where
    in_each : (i : ℕ) (ys : List Name) → Names (λ x. is_arguments (x ∷ []) ≡ false) ys → any_names_arguments (is_of_function shape.Listed) i (bare_declarators ys) ≡ false
    in_each i [] b = refl
    in_each i (y ∷ ys) b = λ j. ((b.0 j || false) || false) || in_each (suc i) ys b.1 j

pub numbers_left : (b : ℕ) (xs : List Name) → any_has_number (suc b) (declared_bare xs) ≡ false
unfolding has_number
numbers_left b [] = refl
numbers_left b (x ∷ xs) = λ j. (unlike b j || ((unlike b j || in_each (x ∷ xs) j) || false)) || false
  where
    in_each : (ys : List Name) → any_has_number (suc b) (bare_declarators ys) ≡ false
    in_each [] = refl
    in_each (y ∷ ys) = λ j. (unlike b j || ((unlike b j || false) || ((unlike b j || false) || false))) || in_each ys j

-- where something holds of a statement it holds of what is left

pub left_lacks : (o : Own) (p : TellsLists o) (k : Setting) (env : Environment) → k.used ≡ Read → (t : Tree) → Lacks o p.plainly k env AsWholeItem t → All (Lacks o p.plainly k env) AsWholeItem (left_behind t)
left_lacks o p k env r t y =
    let there = inside o p k env in
    left_made (Lacks o p.plainly k env) (λ d. finds o (around o p k env) env d ≡ false) (lacks_vars o p k env r) (λ x. o there (env ++ []) shape.BindingIdentifier (x ∷ []) 0 none ≡ false) (declarator_lacks o p k env) (names_of declared.Hoisted t)
    (p.left (setting o p.plainly k env AsWholeItem) env t y there (env ++ []) refl refl)

pub left_calm : (m s : ℕ) (k : Setting) (env : Environment) → k.used ≡ Read → (t : Tree) → All (Calmly m s k env) AsWholeItem (left_behind t)
left_calm m s k env r t = left_made (Calmly m s k env) (λ d. is_reads (pace (early m s) (around_early k) env d) ≡ false) (calm_vars m s k env r) (λ x. Unit {0}) (λ x q. calm_declarator m s k env x) (names_of declared.Hoisted t) (whatever (names_of declared.Hoisted t))

-- ---- 77

left_stretch : (t : Tree) → is_unscoped t ≡ true → StretchLess (t ▸ none) (left_behind t)
left_stretch t u = record {
  asked = λ strict f c r env x o p z.
      less_by (say o p.plainly z x c env (left_behind t)) (say o p.plainly z x c env (t ▸ none))
      (λ y. of_lacks o p.plainly z x c env (left_behind t) (left_lacks o p (with_belongs c) env r t (to_lacks o p.plainly z x c env (t ▸ none) y).0))
      (none_ended o p.plainly z x c env (t ▸ none));
  in_order = λ strict f c r env x b s.
      let first = items_say (early b s) (of_items x c) env (t ▸ none) in
      through (items_say (early b s) (of_items x c) env (left_behind t)) (loosely b s c env (left_behind t)) first (loosely_more b s c env x (left_behind t))
      (less_by (loosely b s c env (left_behind t)) first (λ y. of_calm b s c env (left_behind t) (left_calm b s (with_belongs c) env r t))
      (unscoped_ended b s c env x (t ▸ none) (λ j. u j && true)));
  evals = λ strict f y. evals_left (names_of declared.Hoisted t);
  arguments = λ strict f y. arguments_left (names_of declared.Hoisted t) (hoisted_sparing strict (one (a_statement f.depth)) t (first_fits strict f.depth t none f.fit) (none_of (names_arguments t) false y).0);
  numbers = λ strict f b y. numbers_left b (names_of declared.Hoisted t);
}

pub row_77_unreached_less : NeighboursLess Row77Unreached
row_77_unreached_less p l n w r =
    let x = r.row in
    stretch_less p l (append r.before (x.first ▸ x.between)) r.after (x.gone ▸ none) (left_behind x.gone) n w
    (r.shape ∙ ap (λ ts. listed (append r.before (append ts r.after))) x.shape ∙ ap listed (behind r.before x.first x.between (x.gone ▸ none) r.after))
    (r.written ∙ ap (λ ts. listed (append r.before (append ts r.after))) x.written ∙ ap listed (behind r.before x.first x.between (left_behind x.gone) r.after))
    (left_stretch x.gone x.unscoped)
