-- A step in an initializer leaves one there, and the `id` beside it is the same name, or a pattern still: so the declarator has the
-- name of the same variable.
use Rattle.std.specs.Prelude.{ℕ, zero, suc, ◌≡◌, refl, ◌&&◌, Bool, true, false, List, [], ◌∷◌, if◌then◌else◌}
use Rattle.std.proofs.Common.{ap, ◌∙◌, sym, subst, true≢false}
use Rattle.mini_model.specs.declared.name.Name.{Name}
use Rattle.mini_model.specs.declared.place.Position.{Position}
use Rattle.mini_model.specs.declared.place.Position.TheVariants.{Expr}
use Rattle.mini_model.specs.declared.shape.Shape.{Shape}
use Rattle.mini_model.specs.declared.shape.Shape.TheVariants as shape
use Rattle.mini_model.specs.Tree.{Tree, Trees, node, none, ◌▸◌, count, shape_of, is_absent}
use Rattle.mini_model.specs.Position.{argument_seat, child_position}
use Rattle.mini_model.specs.Rewriting.{Step, here, inside, StepIn, first, later}
use Rattle.mini_accept.specs.WellShaped.{Depth, in_module, in_body, nested, Class, a_statement, a_declarator, a_key, a_private_or_key, an_inner_key, an_expression, Slot, one, one_or_absent, refused, these, filling, class_of, is_whole, is_strict_in, fits, fill}
use Rattle.mini_laws.specs.declared.names.Use.{Use}
use Rattle.mini_laws.specs.declared.names.Declared.TheVariants as declared
use Rattle.mini_laws.specs.DeclaredNames.{names_of}
use Rattle.mini_laws.specs.Resolved.{Environment, gives_value, plain_name, other_name, written_name}
use Rattle.mini_laws.specs.Scoped.{AreNames, OwnScoped}
use Rattle.mini_kept.specs.Frames.{unbracketed}
use Rattle.mini_kept.specs.KeepsShapes.{KeepsShapes}
use Rattle.mini_kept.specs.KeepsLoosely.{KeepsLoosely}
use Rattle.mini_kept.specs.Lifted.{InitStays}
use Rattle.mini_kept.proofs.Bools.{left, right, and_false}
use Rattle.mini_kept.proofs.Expressions.{refused_here}
use Rattle.mini_kept.proofs.LooseScopes.{AllKeep}

-- ---- what keeps shapes keeps an initializer

present_fits : (strict : Bool) (c : Class) (t : Tree) → is_absent t ≡ false → fits strict (one_or_absent c) t ≡ true → fits strict (one c) t ≡ true
present_fits strict c (node shape.Absent xs n ts) a e = absurd (true≢false a)
present_fits strict c (node h xs n ts) a e = e

fits_present : (strict : Bool) (t : Tree) → fits strict (one an_expression) t ≡ true → is_absent t ≡ false
fits_present strict (node shape.Absent xs n ts) e = absurd (refused_here strict (one an_expression) shape.Absent xs n ts refl e)
fits_present strict (node h xs n ts) e = refl

pub init_stays : (R : Position → Tree → Tree → Type 0) → KeepsShapes R → InitStays R
init_stays R q n w r strict e = by (is_absent n) refl
  where
    by : (b : Bool) → is_absent n ≡ b → is_absent n ≡ is_absent w
    by true a = a ∙ sym ((q.asked (Expr argument_seat) n w r).absent a)
    by false a = a ∙ sym (fits_present strict w (q.fitting (Expr argument_seat) n w r strict (one an_expression) refl (present_fits strict an_expression n a e)))

-- ---- a declarator has a pattern and an initializer, or none

no_declarator : (strict : Bool) (d : Depth) → filling strict (one (a_statement d)) shape.VariableDeclarator ≡ refused
no_declarator true in_module = refl
no_declarator true in_body = refl
no_declarator true nested = refl
no_declarator false in_module = refl
no_declarator false in_body = refl
no_declarator false nested = refl

abbrev Parts : Bool → Trees → Type 0
Parts strict ts = (id : Tree) × (init : Tree) × (ts ≡ id ▸ (init ▸ none)) × (fits strict (one_or_absent an_expression) init ≡ true)

two : (strict : Bool) (s : Slot) (ts : Trees) → fill strict (these (s ∷ (one_or_absent an_expression ∷ []))) ts ≡ true → Parts strict ts
two strict s none e = absurd (true≢false (sym e))
two strict s (a ▸ none) e = absurd (and_false (fits strict s a) e)
two strict s (a ▸ (b ▸ none)) e = (a, b, refl, left (fits strict (one_or_absent an_expression) b) true (right (fits strict s a) (fits strict (one_or_absent an_expression) b && true) e))
two strict s (a ▸ (b ▸ (c ▸ ts))) e = absurd (and_false (fits strict (one_or_absent an_expression) b) (right (fits strict s a) (fits strict (one_or_absent an_expression) b && false) e))

parts_in : (strict : Bool) (c : Class) (xs : List Name) (n : ℕ) (ts : Trees) → fits strict (one c) (node shape.VariableDeclarator xs n ts) ≡ true → Parts strict ts
parts_in strict a_declarator xs n ts e = two strict _ ts (right (is_whole a_declarator shape.VariableDeclarator xs n ts) _ e)
parts_in strict (a_statement d) xs n ts e = absurd (refused_here strict (one (a_statement d)) shape.VariableDeclarator xs n ts (no_declarator strict d) e)
parts_in strict (a_key true) xs n ts e = absurd (refused_here strict (one (a_key true)) shape.VariableDeclarator xs n ts refl e)
parts_in strict (a_key false) xs n ts e = absurd (refused_here strict (one (a_key false)) shape.VariableDeclarator xs n ts refl e)
parts_in strict (a_private_or_key true) xs n ts e = absurd (refused_here strict (one (a_private_or_key true)) shape.VariableDeclarator xs n ts refl e)
parts_in strict (a_private_or_key false) xs n ts e = absurd (refused_here strict (one (a_private_or_key false)) shape.VariableDeclarator xs n ts refl e)
parts_in strict (an_inner_key true) xs n ts e = absurd (refused_here strict (one (an_inner_key true)) shape.VariableDeclarator xs n ts refl e)
parts_in strict (an_inner_key false) xs n ts e = absurd (refused_here strict (one (an_inner_key false)) shape.VariableDeclarator xs n ts refl e)
parts_in strict c xs n ts e = absurd (refused_here strict (one c) shape.VariableDeclarator xs n ts refl e)

parts : (strict : Bool) (s : Slot) (xs : List Name) (n : ℕ) (ts : Trees) → fits strict s (node shape.VariableDeclarator xs n ts) ≡ true → Parts strict ts
parts strict (one c) xs n ts e = parts_in strict c xs n ts e
parts strict (one_or_absent c) xs n ts e = parts_in strict c xs n ts e
parts strict s xs n ts e = absurd (refused_here strict s shape.VariableDeclarator xs n ts refl e)

-- ---- a step in it

-- the second of some children is there, or isn't, as it was
abbrev pub SecondStays : Trees → Trees → Type 0
SecondStays (a ▸ (b ▸ ts)) (a' ▸ (b' ▸ us)) = is_absent b ≡ is_absent b'
SecondStays ts us = Unit {0}

abbrev pub InitKept : Shape → Trees → Trees → Type 0
InitKept shape.VariableDeclarator ts us = SecondStays ts us
InitKept h ts us = Unit {0}

root_absent : (h : Shape) (xs : List Name) (n : ℕ) (ts us : Trees) → is_absent (node h xs n ts) ≡ is_absent (node h xs n us)
root_absent shape.Absent xs n ts us = refl
root_absent h xs n ts us = refl

module _ (R : Position → Tree → Tree → Type 0) (stays : InitStays R) where
  step_absent : {p : Position} {t u : Tree} → Step R p t u → p ≡ Expr argument_seat → (strict : Bool) → fits strict (one_or_absent an_expression) t ≡ true → is_absent t ≡ is_absent u
  step_absent (here p n w r) e strict f = stays n w (subst (λ q. R q n w) e r) strict f
  step_absent (inside p h xs n ts us s) e strict f = root_absent h xs n ts us

  no_step : {σ : ℕ → Position} {ts us : Trees} → StepIn R σ ts us → ts ≡ none → ⊥
  no_step (first σ t u ts s) e = cc e
  no_step (later σ t ts us s) e = cc e

  two_steps : (p : Position) (strict : Bool) (id init : Tree) (us : Trees) → fits strict (one_or_absent an_expression) init ≡ true → StepIn R (child_position shape.VariableDeclarator p 2) (id ▸ (init ▸ none)) us → SecondStays (id ▸ (init ▸ none)) us
  two_steps p strict id init us f (first π t u ts s) = refl
  two_steps p strict id init us f (later π t ts vs (first ρ b c bs s)) = step_absent s refl strict f
  two_steps p strict id init us f (later π t ts vs (later ρ b bs cs s)) = absurd (no_step s refl)

  pub init_kept : (strict : Bool) (s : Slot) (p : Position) (h : Shape) (xs : List Name) (n : ℕ) (ts us : Trees) → fits strict s (node h xs n ts) ≡ true → StepIn R (child_position h p (count ts)) ts us → InitKept h ts us
  init_kept strict s p shape.VariableDeclarator xs n ts us e st =
      let (id, init, are, fit) = parts strict s xs n ts e in
      subst (λ vs. StepIn R (child_position shape.VariableDeclarator p (count vs)) vs us → SecondStays vs us) (sym are) (λ z. two_steps p strict id init us fit z) st
  init_kept strict s p h xs n ts us e st = tt

-- ---- the names of a declarator

abbrev is_name : Shape → Bool
is_name shape.BindingIdentifier = true
is_name h = false

plain_kept : (t u : Tree) → unbracketed (shape_of u) ≡ unbracketed (shape_of t) → names_of declared.Bound u ≡ names_of declared.Bound t → plain_name t ≡ plain_name u
unfolding names_of
plain_kept (node shape.BindingIdentifier xs n ts) (node shape.BindingIdentifier ys m us) e b = sym b
plain_kept (node shape.BindingIdentifier xs n ts) (node h ys m us) e b = absurd (true≢false (sym (ap is_name e)))
plain_kept (node h xs n ts) (node shape.BindingIdentifier ys m us) e b = absurd (true≢false (ap is_name e))
plain_kept (node h xs n ts) (node k ys m us) e b = refl

written_kept : (p : Position) (m : ℕ) (v : Use) (env : Environment) (ts us : Trees) → AllKeep (child_position shape.VariableDeclarator p m) 0 ts us → SecondStays ts us → written_name v env ts ≡ written_name v env us
written_kept p m v env none none k s = refl
written_kept p m v env none (u ▸ us) k s = absurd k
written_kept p m v env (t ▸ ts) none k s = absurd k
written_kept p m v env (a ▸ none) (b ▸ none) k s = refl
written_kept p m v env (a ▸ none) (b ▸ (u ▸ us)) k s = absurd k.1
written_kept p m v env (a ▸ (t ▸ ts)) (b ▸ none) k s = absurd k.1
written_kept p m v env (a ▸ (t ▸ ts)) (b ▸ (u ▸ us)) k s = λ j. if gives_value v (s j) then other_name v env (plain_kept a b (k.0.root refl) k.0.bound j) else []

pub own_kept : (p : Position) (h : Shape) (xs : List Name) (v : Use) (env : Environment) (ts us : Trees) → AllKeep (child_position h p (count ts)) 0 ts us → InitKept h ts us → OwnScoped v env h xs ts → OwnScoped v env h xs us
own_kept p shape.VariableDeclarator xs v env ts us k s a = subst (AreNames xs) (written_kept p (count ts) v env ts us k s) a
own_kept p h xs v env ts us k s a = a
