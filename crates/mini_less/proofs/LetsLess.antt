-- A `let` and an assignment of a value after it ask less as one.
use Rattle.std.specs.Prelude.{ℕ, ℤ, ◌≡◌, refl, nat_eq, Bool, true, false, ◌||◌, ◌&&◌, List, [], ◌++◌}
use Rattle.std.proofs.Common.{ap, ◌∙◌, arith, sym, true≢false}
use Rattle.mini_model.specs.declared.kind.VariableDeclarationKind.TheVariants.{Var, Let, Const}
use Rattle.mini_model.specs.declared.name.Name.{Name}
use Rattle.mini_model.specs.declared.shape.Shape.TheVariants as shape
use Rattle.mini_model.specs.Paths.{append}
use Rattle.mini_model.specs.Tree.{Tree, Trees, none, ◌▸◌, listed, absent}
use Rattle.mini_laws.specs.declared.names.Declared.{Declared}
use Rattle.mini_laws.specs.declared.names.Declared.TheVariants as declared
use Rattle.mini_laws.specs.declared.names.Use.{Use}
use Rattle.mini_laws.specs.declared.names.Use.TheVariants.{Read}
use Rattle.mini_laws.specs.DeclaredNames.{names_of, body_names, has_inner}
use Rattle.mini_laws.specs.Edits.{Kept}
use Rattle.mini_laws.specs.Foreign.{has_number}
use Rattle.mini_laws.specs.Resolved.{Environment}
use Rattle.mini_laws.specs.ScopeList.{has_eval}
use Rattle.mini_laws.specs.Scopes.{scopes_by}
use Rattle.mini_laws.specs.Shared.{names_arguments}
use Rattle.mini_laws.specs.Symbols.{declared as declared_in, times}
use Rattle.mini_laws.specs.Value.{VariableSet}
use Rattle.mini_shrink.specs.Facts.{Fact, question}
use Rattle.mini_shrink.specs.Pace.{Silent, followed, ends_after, Setting, pace}
use Rattle.mini_shrink.proofs.Owns.{or_implied}
use Rattle.mini_shrink.proofs.Paces.{same}
use Rattle.mini_rows.specs.DeadCases.{Known, a_number, a_text, a_truth, a_null, undefined, known}
use Rattle.mini_rows.specs.Lets.{Row70Let}
use Rattle.mini_rows.specs.Lists.{EachIn, EachOf, Statement, Heading, Going, Declaring, Looping, Beginning, Alone, Init, Before, begun, begun_without, begins_well, binding, declarator, declaration, assigned, resolved, sequence, are_unscoped}
use Rattle.mini_rows.specs.Unused.{is_closed}
use Rattle.mini_less.specs.Families.{NeighboursLess}
use Rattle.mini_less.proofs.ClosedTold.{closed_silent}
use Rattle.mini_less.proofs.DeclarationsLess.{IsRead, at, valued, root_silent, valued_says, absent_silent}
use Rattle.mini_less.proofs.EntersLess.{alone_in_order, begun_parts}
use Rattle.mini_less.proofs.LessTold.{Likewise, LessTold, over_less}
use Rattle.mini_less.proofs.ListHeads.{first_fits, head_unscoped}
use Rattle.mini_less.proofs.ListMade.{ListMade, StretchLess, made_stretch, made_in_order}
use Rattle.mini_less.proofs.StretchTold.{of_stretch, of_one, in_turn, stretch_told_less}

-- ---- a value that is written out tells nothing

-- whatever is so of each form of it
each_known : (P : Tree → Type 0) → ((n : ℤ) → P (known (a_number n))) → ((s : List ℕ) → P (known (a_text s))) → P (known (a_truth true)) → P (known (a_truth false)) → P (known a_null) → P (known undefined) → (k : Known) → P (known k)
each_known P a b c d e f (a_number n) = a n
each_known P a b c d e f (a_text s) = b s
each_known P a b c d e f (a_truth true) = c
each_known P a b c d e f (a_truth false) = d
each_known P a b c d e f a_null = e
each_known P a b c d e f undefined = f

pub known_silent : (g : Fact) (b s : ℕ) (c : Setting) (env : Environment) (k : Known) → pace (question g b s) c env (known k) ≡ Silent
known_silent g b s c env k = closed_silent g b s (known k) (each_known (λ t. is_closed t ≡ true) (λ n. refl) (λ s. refl) refl refl refl refl k) c env

known_inner : (k : Known) → has_inner (known k) ≡ false
unfolding has_inner
known_inner k = each_known (λ t. has_inner t ≡ false) (λ n. refl) (λ s. refl) refl refl refl refl k

known_eval : (k : Known) → has_eval (known k) ≡ false
unfolding has_eval
known_eval k = each_known (λ t. has_eval t ≡ false) (λ n. refl) (λ s. refl) refl refl refl refl k

known_arguments : (k : Known) → names_arguments (known k) ≡ false
unfolding names_arguments
known_arguments k = each_known (λ t. names_arguments t ≡ false) (λ n. refl) (λ s. refl) refl refl refl refl k

known_symbols : (v : Use) (k : Known) → declared_in v (known k) ≡ []
unfolding declared_in scopes_by
known_symbols v k = each_known (λ t. declared_in v t ≡ []) (λ n. refl) (λ s. refl) refl refl refl refl k

once : (z : Bool) → (z || false) ≡ true → z ≡ true
once true e = refl
once false e = e

twice : (z : Bool) → (z || ((z || false) || false)) ≡ true → z ≡ true
twice true e = refl
twice false e = e

known_number : (b : ℕ) (k : Known) → has_number b (known k) ≡ true → nat_eq 0 b ≡ true
unfolding has_number
known_number b k = each_known (λ t. has_number b t ≡ true → nat_eq 0 b ≡ true) (λ n. once (nat_eq 0 b)) (λ s. once (nat_eq 0 b)) (twice (nat_eq 0 b)) (twice (nat_eq 0 b)) (once (nat_eq 0 b)) (twice (nat_eq 0 b)) k

-- so a declarator tells no more with it
module _ (x : Name) (k : Known) where
  same_names : (d : Declared) → names_of d (valued x (known k)) ≡ names_of d (valued x absent)
  unfolding names_of
  same_names declared.Bound = refl
  same_names declared.Lexical = refl
  same_names declared.Hoisted = refl

  kept : Kept (valued x absent) (valued x (known k))
  unfolding body_names names_of has_inner declared_in scopes_by
  kept = record {
    names = same_names;
    body = refl;
    inner = λ j. known_inner k j || false;
    symbols = λ w y. let e = ap (λ ss. times y (ss ++ [])) (known_symbols Read k) in omega (arith, e);
  }

  numbers : (z i r : Bool) → (r ≡ true → z ≡ true) → (z || (i || (r || false))) ≡ true → (z || (i || ((z || false) || false))) ≡ true
  numbers true i r f e = refl
  numbers false true r f e = refl
  numbers false false true f e = f refl
  numbers false false false f e = e

  likewise : Likewise (valued x absent) (valued x (known k))
  unfolding has_eval names_arguments has_number
  likewise = record {
    kept = kept;
    absent = refl;
    pattern = refl;
    eval = λ e. absurd (true≢false (sym e ∙ λ j. known_eval k j || false));
    callee = λ e. absurd (true≢false (sym e));
    arguments = or_implied (names_arguments (binding x)) (names_arguments (known k) || false) (names_arguments (binding x)) false (λ e. e) (λ e. sym (ap (λ b. b || false) (known_arguments k)) ∙ e);
    number = λ b. numbers (nat_eq 0 b) (has_number b (binding x)) (has_number b (known k)) (known_number b k);
  }

  said : (g : Fact) (b s : ℕ) (c : Setting) → IsRead c.used → (env : Environment) → pace (question g b s) c env (valued x (known k)) ≡ pace (question g b s) c env (valued x absent)
  said g b s c r env =
      let name = ends_after false (pace (question g b s) (at x c 0) env (binding x)) in
      valued_says x g b s c env (known k) (root_silent x g b s c r env (known k)) ∙ ap (λ p. followed name (followed (ends_after false p) Silent)) (known_silent g b s (at x c 1) env k ∙ sym (absent_silent g b s (at x c 1) env))
      ∙ sym (valued_says x g b s c env absent (root_silent x g b s c r env absent))

  given_told : LessTold IsRead (valued x absent) (valued x (known k))
  given_told = record { likewise = likewise; said = λ g b s c r env. same _ _ (said g b s c r env) }

  -- and the `let`
  let_told : (ds : Trees) → LessTold IsRead (declaration Let (append ds (valued x absent ▸ none))) (declaration Let (append ds (valued x (known k) ▸ none)))
  let_told ds =
      over_less IsRead IsRead (listed (append ds (valued x absent ▸ none))) (listed (append ds (valued x (known k) ▸ none))) (over_less IsRead IsRead (valued x absent) (valued x (known k)) given_told ds none shape.Listed [] 0 (λ v e. e)) none none (shape.VariableDeclaration Let) [] 0 (λ v e. refl)

-- ---- the statement without the assignment

module _ (x : Name) (v : Tree) where
  abbrev read : Beginning → Trees
  read b = begun b (assigned x v) ▸ none

  without_made : (b : Beginning) → begins_well b ≡ true → ListMade (read b) (begun_without b)
  without_made b well strict k f Q l y = (begun_parts Q l strict k b x v well (first_fits strict k (begun b (assigned x v)) none f) y.0).1

  loosely : (b : Beginning) → begins_well b ≡ true → are_unscoped (read b) ≡ true → StretchLess (read b) (begun_without b)
  loosely b well u = made_stretch (read b) (begun_without b) u (without_made b well)

  without_stretch : (b : Beginning) → begins_well b ≡ true → StretchLess (read b) (begun_without b)
  without_stretch (Before (Declaring Let id cs) q qs) well = made_in_order (read (Before (Declaring Let id cs) q qs)) (begun_without (Before (Declaring Let id cs) q qs)) (without_made (Before (Declaring Let id cs) q qs) well) (λ strict f c r env o b n. alone_in_order Let refl none x v none id cs q qs b n c r env o)
  without_stretch (Before (Declaring Const id cs) q qs) well = made_in_order (read (Before (Declaring Const id cs) q qs)) (begun_without (Before (Declaring Const id cs) q qs)) (without_made (Before (Declaring Const id cs) q qs) well) (λ strict f c r env o b n. alone_in_order Const refl none x v none id cs q qs b n c r env o)
  without_stretch (Before (Declaring Var id cs) q qs) well = loosely (Before (Declaring Var id cs) q qs) well refl
  without_stretch Alone well = loosely Alone well refl
  without_stretch (Init t u w) well = loosely (Init t u w) well refl
  without_stretch (Before Statement q qs) well = loosely (Before Statement q qs) well refl
  without_stretch (Before (Heading h) q qs) well = loosely (Before (Heading h) q qs) well (λ j. head_unscoped h (sequence (assigned x v ▸ (q ▸ qs))) j && true)
  without_stretch (Before (Going EachIn left body) q qs) well = loosely (Before (Going EachIn left body) q qs) well refl
  without_stretch (Before (Going EachOf left body) q qs) well = loosely (Before (Going EachOf left body) q qs) well refl
  without_stretch (Before (Looping id cs t u w) q qs) well = loosely (Before (Looping id cs t u w) q qs) well refl

-- ---- 70

pub row_70_let_less : (W : VariableSet) → NeighboursLess (Row70Let W)
row_70_let_less W p l n w r =
    let m = r.row in
    let x = resolved m.spelling m.symbol in
    let old = declaration Let (append m.ds (declarator (binding x) absent ▸ none)) in
    let new = declaration Let (append m.ds (declarator (binding x) (known m.value) ▸ none)) in
    stretch_told_less p l r.before r.after (old ▸ read x (known m.value) m.beginning) (new ▸ begun_without m.beginning) n w
    (r.shape ∙ ap (λ ts. listed (append r.before (append ts r.after))) m.shape) (r.written ∙ ap (λ ts. listed (append r.before (append ts r.after))) m.written)
    (in_turn (old ▸ none) (new ▸ none) (read x (known m.value) m.beginning) (begun_without m.beginning) (of_one old new (let_told x m.value m.ds)) (of_stretch (read x (known m.value) m.beginning) (begun_without m.beginning) (without_stretch x (known m.value) m.beginning m.parts)))
