-- A step inside a tree holds no newer form than the tree where what is written in its place holds none.
use Rattle.std.proofs.Common.{◌≡◌, ◌<◌, ℕ, zero, arith, Bool, true, false, true≢false, List, refl, sym, subst, ◌∙◌}
use Rattle.mini_model.specs.declared.name.Name.{Name}
use Rattle.mini_model.specs.declared.place.Position.{Position}
use Rattle.mini_model.specs.declared.shape.Shape.{Shape}
use Rattle.mini_model.specs.declared.shape.Shape.TheVariants as shape
use Rattle.mini_model.specs.declared.place.Position.TheVariants.{Elsewhere}
use Rattle.mini_model.specs.Position.{child_position}
use Rattle.mini_model.specs.Rewriting.{Step, here, inside, StepIn, first, later, Reaches, done, more}
use Rattle.mini_model.specs.Tree.{Tree, Trees, node, is_absent, count}
use Rattle.mini_rows.specs.Forms.{Form, year, form_of, form_of_bare}
use Rattle.mini_editions.specs.Kept.{IsThere, StaysWithin, StepsStayWithin}
use Rattle.mini_editions.proofs.Times.{own, times, all_times, FewerNewer, within, fewer_within}

-- where the first child of a `catch` stands
abbrev pub FirstAt : Shape → Position → Type 0
FirstAt shape.CatchClause p = p ≡ Elsewhere
FirstAt h p = Unit {0}

pub first_at : (h : Shape) (p : Position) (m : ℕ) → FirstAt h (child_position h p m zero)
first_at shape.CatchClause p m = refl
first_at h p m = tt

module _ (f : Form) where
  pub bare_fewer : (a b : Bool) → (b ≡ true → a ≡ true) → own f (form_of_bare a) ≡ 0 → own f (form_of_bare b) ≡ 0
  bare_fewer true true k z = z
  bare_fewer true false k z = refl
  bare_fewer false true k z = absurd (true≢false (sym (k refl)))
  bare_fewer false false k z = z

module _ (e : ℕ) (R : Position → Tree → Tree → Type 0) (k : StaysWithin e R) where
  -- a node whose children lose a form has lost it
  node_fewer : (f : Form) (h : Shape) (xs : List Name) (n : ℕ) (ts us : Trees) → own f (form_of h us) ≡ 0 → all_times f us ≡ 0 → times f (node h xs n us) ≡ 0
  node_fewer f h xs n ts us a b = omega (arith, a, b)

  mutual
    step_fewer : {p : Position} {t u : Tree} → Step R p t u → FewerNewer e t u
    step_fewer (here p t u r) f newer z = fewer_within e t u (k p t u r).within f newer z
    step_fewer (inside p h xs n ts us s) f newer z =
        let others = steps_fewer s f newer (omega (arith, z)) in
        let kept = own_fewer f h s (first_at h p (count ts)) (omega (arith, z)) in
        omega (arith, others, kept)

    -- only of a `catch` the form is told by what stands in it: by whether its first child is there
    own_fewer : (f : Form) (h : Shape) {π : ℕ → Position} {ts us : Trees} → StepIn R π ts us → FirstAt h (π zero) → own f (form_of h ts) ≡ 0 → own f (form_of h us) ≡ 0
    own_fewer f shape.CatchClause (first π t u ts s) at z = bare_fewer f (is_absent t) (is_absent u) (step_absent s at) z
    own_fewer f shape.CatchClause (later π t ts us s) at z = z
    own_fewer f h s at z = z

    steps_fewer : {π : ℕ → Position} {ts us : Trees} → StepIn R π ts us → (f : Form) → e < year f → all_times f ts ≡ 0 → all_times f us ≡ 0
    steps_fewer (first π t u ts s) f newer z = let a = step_fewer s f newer (omega (arith, z)) in omega (arith, a, z)
    steps_fewer (later π t ts us s) f newer z = let a = steps_fewer s f newer (omega (arith, z)) in omega (arith, a, z)

    step_absent : {p : Position} {t u : Tree} → Step R p t u → p ≡ Elsewhere → is_absent u ≡ true → is_absent t ≡ true
    step_absent (here p t u r) at a = absurd (true≢false (sym a ∙ subst (λ q. IsThere q u) at (k p t u r).there))
    step_absent (inside p h xs n ts us s) at a = a

  reach_fewer : {p : Position} {t u : Tree} → Reaches R p t u → FewerNewer e t u
  reach_fewer (done p t) f newer z = z
  reach_fewer (more p t u v s r) f newer z = reach_fewer r f newer (step_fewer s f newer z)

pub steps_stay_within : (R : Position → Tree → Tree → Type 0) → StepsStayWithin R
steps_stay_within R e k p t u r = within e t u (reach_fewer e R k r)
