-- A step in the own code of a body writes no newer form where its row writes none, and neither does
-- what has that body.
use Rattle.std.proofs.Common.{◌≡◌, ◌<◌, ℕ, zero, arith, true, false, true≢false, sym, ap, subst, ◌∙◌, inl, inr}
use Rattle.mini_model.specs.declared.place.Position.{Position}
use Rattle.mini_model.specs.declared.place.Position.TheVariants.{Expr, Stmt, Method, Elsewhere}
use Rattle.mini_model.specs.declared.shape.Shape.{Shape}
use Rattle.mini_model.specs.declared.shape.Shape.TheVariants as shape
use Rattle.mini_model.specs.Tree.{Tree, Trees, is_absent, count}
use Rattle.mini_kept.specs.Without.{Assured, BodySets}
use Rattle.mini_rows.specs.Forms.{Form, year, form_of}
use Rattle.mini_rows.specs.OwnArrows.{OwnArrow, OwnCode}
use Rattle.mini_rows.specs.OwnParts.{OwnPart}
use Rattle.mini_rows.specs.OwnPrograms.{OwnProgram}
use Rattle.mini_rows.specs.Steady.{OwnRows, Begun, OwnStep, own_here, own_inside, OwnStepIn, own_first, own_later, own_rows, known_in, OwnFunctionRow, OwnFunction}
use Rattle.mini_editions.specs.Kept.{IsThere, Stays, StaysWithin}
use Rattle.mini_editions.proofs.Times.{own, all_times, FewerNewer, within, fewer_within, written}
use Rattle.mini_editions.proofs.Steps.{FirstAt, first_at, bare_fewer}

module _ (e : ℕ) (R : Begun → Position → Tree → Tree → Type 0) (k : (L : Begun) → StaysWithin e (R L)) where
  mutual
    own_step_fewer : {L : Begun} {p : Position} {t u : Tree} → OwnStep R L p t u → FewerNewer e t u
    own_step_fewer (own_here L p t u r) f newer z = fewer_within e t u (k L p t u r).within f newer z
    own_step_fewer (own_inside L p h xs ts us bodiless s) f newer z =
        let others = own_steps_fewer s f newer (omega (arith, z)) in
        let kept = own_form_fewer f h s (first_at h p (count ts)) (omega (arith, z)) in
        omega (arith, others, kept)

    own_form_fewer : (f : Form) (h : Shape) {Λ : ℕ → Begun} {π : ℕ → Position} {ts us : Trees} → OwnStepIn R Λ π ts us → FirstAt h (π zero) → own f (form_of h ts) ≡ 0 → own f (form_of h us) ≡ 0
    own_form_fewer f shape.CatchClause (own_first Λ π t u ts s) at z = bare_fewer f (is_absent t) (is_absent u) (own_step_absent s at) z
    own_form_fewer f shape.CatchClause (own_later Λ π t ts us s) at z = z
    own_form_fewer f h s at z = z

    own_steps_fewer : {Λ : ℕ → Begun} {π : ℕ → Position} {ts us : Trees} → OwnStepIn R Λ π ts us → (f : Form) → e < year f → all_times f ts ≡ 0 → all_times f us ≡ 0
    own_steps_fewer (own_first Λ π t u ts s) f newer z = let a = own_step_fewer s f newer (omega (arith, z)) in omega (arith, a, z)
    own_steps_fewer (own_later Λ π t ts us s) f newer z = let a = own_steps_fewer s f newer (omega (arith, z)) in omega (arith, a, z)

    own_step_absent : {L : Begun} {p : Position} {t u : Tree} → OwnStep R L p t u → p ≡ Elsewhere → is_absent u ≡ true → is_absent t ≡ true
    own_step_absent (own_here L p t u r) at a = absurd (true≢false (sym a ∙ subst (λ q. IsThere q u) at (k L p t u r).there))
    own_step_absent (own_inside L p h xs ts us bodiless s) at a = a

  pub own_fewer : {L : Begun} {p : Position} {t u : Tree} → OwnStep R L p t u → FewerNewer e t u
  own_fewer s f newer z = own_step_fewer s f newer z

-- each row of a family, whatever is known of the body
abbrev pub FamilyStays : ℕ → OwnRows → Type 0
FamilyStays e F = (V : Assured) → StaysWithin e (F V)

pub anywhere : (p : Position) (w : Tree) → is_absent w ≡ false → IsThere p w
anywhere Elsewhere w a = a
anywhere p w a = tt

module _ (e : ℕ) (F : OwnRows) (k : FamilyStays e F) where
  rows_stay : (t : Tree) (V : Assured) (L : Begun) → StaysWithin e (own_rows F t V L)
  rows_stay t V L = k (known_in t V L)

  own_function_stays : (S : BodySets) (p : Position) (n w : Tree) → OwnFunctionRow F S n w → Stays e p n w
  own_function_stays S p n w r = record {
    within = within e n w (λ f newer. written f r.shape r.written (λ z. let made = own_fewer e (own_rows F r.before (S r.number)) (rows_stay r.before (S r.number)) r.step f newer (omega (arith, z)) in omega (arith, z, made)));
    there = anywhere p w (ap is_absent r.written);
  }

  pub own_functions_stay : (S : BodySets) → StaysWithin e (OwnFunction F S)
  own_functions_stay S (Stmt q) n w r = own_function_stays S (Stmt q) n w r
  own_functions_stay S (Expr s) n w r = own_function_stays S (Expr s) n w r
  own_functions_stay S Method n w r = own_function_stays S Method n w r
  own_functions_stay S Elsewhere n w r = own_function_stays S Elsewhere n w r
  own_functions_stay S p n w r = absurd r

  own_arrows_stay : (S : BodySets) → StaysWithin e (OwnArrow F S)
  own_arrows_stay S (Expr s) n w r = record {
    within = within e n w (λ f newer. written f r.shape r.written (λ z. let made = own_fewer e (own_rows F r.before (S r.number)) (rows_stay r.before (S r.number)) r.step f newer (omega (arith, z)) in omega (arith, z, made)));
    there = tt;
  }
  own_arrows_stay S p n w r = absurd r

  pub own_code_stays : (S : BodySets) → StaysWithin e (OwnCode F S)
  own_code_stays S p n w (inl r) = own_functions_stay S p n w r
  own_code_stays S p n w (inr r) = own_arrows_stay S p n w r

  pub own_programs_stay : (S : BodySets) → StaysWithin e (OwnProgram F S)
  own_programs_stay S Elsewhere n w r = record {
    within = within e n w (λ f newer. written f r.shape r.written (λ z. let made = own_fewer e (own_rows F r.before (S r.number)) (rows_stay r.before (S r.number)) r.step f newer (omega (arith, z)) in omega (arith, z, made)));
    there = ap is_absent r.written;
  }
  own_programs_stay S p n w r = absurd r

  pub own_parts_stay : (S : BodySets) → StaysWithin e (OwnPart F S)
  own_parts_stay S p n w (inl r) = record {
    within = within e n w (λ f newer. written f r.shape r.written (λ z. let made = own_fewer e (own_rows F r.before (S r.number)) (rows_stay r.before (S r.number)) r.step f newer (omega (arith, z)) in omega (arith, z, made)));
    there = anywhere p w (ap is_absent r.written);
  }
  own_parts_stay S p n w (inr r) = record {
    within = within e n w (λ f newer. written f r.shape r.written (λ z. let made = own_fewer e (own_rows F r.before (S r.number)) (rows_stay r.before (S r.number)) r.step f newer (omega (arith, z)) in omega (arith, z, made)));
    there = anywhere p w (ap is_absent r.written);
  }
