-- A step in the own code of a function, of an arrow function, of a program, of a static block or of an inner expression makes the whole lighter, by rows
-- of any family that do.
use Rattle.std.specs.Prelude.{ℕ, ◌≡◌, ◌<◌, refl, []}
use Rattle.std.proofs.Common.{ap, ◌∙◌, sym, subst, inl, inr}
use Rattle.mini_model.specs.declared.place.Position.{Position}
use Rattle.mini_model.specs.declared.place.Position.TheVariants.{Expr, Stmt, Method, Elsewhere}
use Rattle.mini_model.specs.declared.shape.Shape.TheVariants as shape
use Rattle.mini_model.specs.Tree.{Tree, Trees, none, ◌▸◌}
use Rattle.mini_model.specs.Rewriting.{Step, here, inside, StepIn, first, later}
use Rattle.mini_model.specs.Weight.{outline, weight}
use Rattle.mini_laws.specs.Weights.{Lightens}
use Rattle.mini_laws.proofs.Lighter.{any_step_lighter}
use Rattle.mini_kept.specs.Without.{Assured, BodySets}
use Rattle.mini_rows.specs.OwnArrows.{OwnArrow}
use Rattle.mini_rows.specs.OwnParts.{OwnPart}
use Rattle.mini_rows.specs.OwnPrograms.{OwnProgram}
use Rattle.mini_rows.specs.Steady.{Begun, known_in, own_rows, OwnRows, OwnStep, own_here, own_inside, OwnStepIn, own_first, own_later, OwnFunctionRow, OwnFunction}
use Rattle.mini_rows.proofs.SteadyLawful.{AnyRow}

-- a step in the code of a body itself is one, by what each of its rows is
module _ (R : Begun → Position → Tree → Tree → Type 0) (Q : Position → Tree → Tree → Type 0) (of : (L : Begun) (p : Position) (n w : Tree) → R L p n w → Q p n w) where
  mutual
    pub as_step : {L : Begun} {p : Position} {t u : Tree} → OwnStep R L p t u → Step Q p t u
    as_step (own_here L p n w r) = here p n w (of L p n w r)
    as_step (own_inside L p h xs ts us b s) = inside p h xs 0 ts us (as_steps s)

    as_steps : {Λ : ℕ → Begun} {π : ℕ → Position} {ts us : Trees} → OwnStepIn R Λ π ts us → StepIn Q π ts us
    as_steps (own_first Λ π t u ts s) = first π t u ts (as_step s)
    as_steps (own_later Λ π t ts us s) = later π t ts us (as_steps s)

-- by rows of a family it is one by some row of it
pub some_row : (F : OwnRows) (c : Tree) (V : Assured) {L : Begun} {p : Position} {t u : Tree} → OwnStep (own_rows F c V) L p t u → Step (AnyRow F) p t u
some_row F c V = as_step (own_rows F c V) (AnyRow F) (λ L p n w r. (known_in c V L, r))

pub any_lightens : (F : OwnRows) → ((V : Assured) → Lightens (F V)) → Lightens (AnyRow F)
any_lightens F lightens = record {
  lighter = λ p n w r. (lightens r.0).lighter p n w r.1;
  absent = λ p n w r. (lightens r.0).absent p n w r.1;
  items = λ p n w r. (lightens r.0).items p n w r.1;
  is_zero = λ p n w r. (lightens r.0).is_zero p n w r.1;
  chooses = λ p n w r. (lightens r.0).chooses p n w r.1;
}

-- what is written is lighter, and stands as what was read
abbrev Falls : Position → Tree → Tree → Type 0
Falls p n w = (weight p w < weight p n) × (outline n ≡ outline w)

lightens_by : (Q : Position → Tree → Tree → Type 0) → ((p : Position) (n w : Tree) → Q p n w → Falls p n w) → Lightens Q
lightens_by Q f = record {
  lighter = λ p n w r. (f p n w r).0;
  absent = λ p n w r a. ap (λ o. o.absent) (f p n w r).1;
  items = λ p n w r a. ap (λ o. o.items) (f p n w r).1;
  is_zero = λ p n w r a. inl (ap (λ o. o.is_zero) (f p n w r).1);
  chooses = λ p n w r a. inl (λ h. sym (ap (λ o. o.chooses) (f p n w r).1) ∙ h);
}

moved : (p : Position) (n w n' w' : Tree) → n ≡ n' → w ≡ w' → Falls p n' w' → Falls p n w
moved p n w n' w' e f h = subst (λ v. Falls p v w) (sym e) (subst (Falls p n') (sym f) h)

module _ (F : OwnRows) (lightens : (V : Assured) → Lightens (F V)) (S : BodySets) where
  fall : (p : Position) (t u : Tree) → Step (AnyRow F) p t u → weight p u < weight p t
  fall p t u s = any_step_lighter (AnyRow F) (any_lightens F lightens) p t u s

  -- ---- functions

  function_falls : (p : Position) (n w : Tree) → OwnFunctionRow F S n w → Falls p n w
  function_falls p n w r =
      let h = shape.Function r.is_declaration r.is_generator r.directives in
      let these = r.name ▸ (r.parameters ▸ (r.before ▸ none)) in
      let those = r.name ▸ (r.parameters ▸ (r.after ▸ none)) in
      moved p n w _ _ r.shape r.written (fall p _ _ (inside p h [] r.number these those (later _ r.name _ _ (later _ r.parameters _ _ (first _ r.before r.after none (some_row F r.before (S r.number) r.step))))), refl)

  functions_fall : (p : Position) (n w : Tree) → OwnFunction F S p n w → Falls p n w
  functions_fall (Stmt q) n w r = function_falls (Stmt q) n w r
  functions_fall (Expr q) n w r = function_falls (Expr q) n w r
  functions_fall Method n w r = function_falls Method n w r
  functions_fall Elsewhere n w r = function_falls Elsewhere n w r
  functions_fall p n w r = absurd r

  pub own_functions_lighten : Lightens (OwnFunction F S)
  own_functions_lighten = lightens_by (OwnFunction F S) functions_fall

  -- ---- arrow functions

  arrows_fall : (p : Position) (n w : Tree) → OwnArrow F S p n w → Falls p n w
  arrows_fall (Expr q) n w r =
      let these = r.parameters ▸ (r.before ▸ none) in
      let those = r.parameters ▸ (r.after ▸ none) in
      moved (Expr q) n w _ _ r.shape r.written (fall (Expr q) _ _ (inside (Expr q) (shape.ArrowFunctionExpression r.directives) [] r.number these those (later _ r.parameters _ _ (first _ r.before r.after none (some_row F r.before (S r.number) r.step)))), refl)
  arrows_fall p n w r = absurd r

  pub own_arrows_lighten : Lightens (OwnArrow F S)
  own_arrows_lighten = lightens_by (OwnArrow F S) arrows_fall

  -- ---- programs

  programs_fall : (p : Position) (n w : Tree) → OwnProgram F S p n w → Falls p n w
  programs_fall Elsewhere n w r =
      moved Elsewhere n w _ _ r.shape r.written (fall Elsewhere _ _ (inside Elsewhere (shape.Program r.is_module r.directives) [] r.number (r.before ▸ none) (r.after ▸ none) (first _ r.before r.after none (some_row F r.before (S r.number) r.step))), refl)
  programs_fall p n w r = absurd r

  pub own_programs_lighten : Lightens (OwnProgram F S)
  own_programs_lighten = lightens_by (OwnProgram F S) programs_fall

  -- ---- static blocks and inner expressions

  parts_fall : (p : Position) (n w : Tree) → OwnPart F S p n w → Falls p n w
  parts_fall p n w (inl r) =
      moved p n w _ _ r.shape r.written (fall p _ _ (inside p shape.StaticBlock [] r.number (r.before ▸ none) (r.after ▸ none) (first _ r.before r.after none (some_row F r.before (S r.number) r.step))), refl)
  parts_fall p n w (inr r) =
      moved p n w _ _ r.shape r.written (fall p _ _ (inside p shape.InnerExpression [] r.number (r.before ▸ none) (r.after ▸ none) (first _ r.before r.after none (some_row F r.before (S r.number) r.step))), refl)

  pub own_parts_lighten : Lightens (OwnPart F S)
  own_parts_lighten = lightens_by (OwnPart F S) parts_fall
