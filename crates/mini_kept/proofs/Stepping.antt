-- A step at any place of a tree keeps what the node that is replaced does.
use Rattle.std.specs.Prelude.{ℕ, suc, ◌≡◌, refl, ◌||◌, ◌&&◌, ◌==◌, Bool, true, false, List, [], ◌∷◌}
use Rattle.std.proofs.Common.{ap, ◌∙◌, sym, subst}
use Rattle.mini_model.specs.declared.name.Name.{Name}
use Rattle.mini_model.specs.declared.place.Position.{Position}
use Rattle.mini_model.specs.declared.shape.Shape.{Shape}
use Rattle.mini_model.specs.declared.shape.Shape.TheVariants as shape
use Rattle.mini_model.specs.Tree.{Tree, Trees, node, none, ◌▸◌, count, shape_of}
use Rattle.mini_model.specs.Position.{child_position}
use Rattle.mini_model.specs.Rewriting.{Step, here, inside, StepIn, first, later}
use Rattle.mini_accept.specs.WellShaped.{Tagging, untagged, tagged, Depth, in_module, in_body, nested, Class, a_statement, a_parameter, a_pattern_element, a_target_element, a_named_target, a_pattern_property, a_target_property, an_inner, a_key, a_private_or_key, an_inner_key, an_expression, Slot, one, one_or_absent, Filling, refused, these, each, each_or_last, pieces, filling, class_of, is_whole, is_strict_in, is_quasi_by, is_quasi, are_quasis, has_plain_fields, is_last, fits, fill}
use Rattle.mini_laws.specs.declared.names.Use.{Use}
use Rattle.mini_laws.specs.DeclaredNames.{is_inner}
use Rattle.mini_laws.specs.Scopes.{use_of}
use Rattle.mini_kept.proofs.Bools.{left, right, and_false}
use Rattle.mini_kept.proofs.Expressions.{refused_here}
use Rattle.mini_kept.specs.KeepsNames.{Stands, is_used}
use Rattle.mini_kept.specs.KeepsLoosely.{KeepsLoosely}
use Rattle.mini_kept.specs.Lifted.{is_piece, KeepsNames, InitStays}
use Rattle.mini_kept.specs.Placed.{fits_place}
use Rattle.mini_kept.proofs.Placed.{Placed, placed_below}
use Rattle.mini_kept.proofs.Using.{is_patterned, stands_plainly, also}
use Rattle.mini_kept.proofs.LooseScopes.{AllKeep, AllStand}
use Rattle.mini_kept.proofs.Below.{keeps_itself, keeps_below}
use Rattle.mini_kept.proofs.Initializers.{init_kept}
use Rattle.mini_kept.proofs.Members.{merges}

-- ---- inner expressions in patterns

inner_fits : (strict : Bool) (c : Class) (t : Tree) → fits strict (one (an_inner c)) t ≡ true → is_inner (shape_of t) ≡ true
inner_fits strict c (node shape.InnerExpression xs n ts) e = refl
inner_fits strict c (node h xs n ts) e = absurd (refused_here strict (one (an_inner c)) h xs n ts refl e)

key_fits : (strict : Bool) (t : Tree) → fits strict (one (an_inner_key true)) t ≡ true → is_inner (shape_of t) ≡ true
key_fits strict (node shape.InnerExpression xs n ts) e = refl
key_fits strict (node h xs n ts) e = absurd (refused_here strict (one (an_inner_key true)) h xs n ts refl e)

-- two children, of which each has a slot
abbrev Two : Bool → Slot → Slot → Trees → Type 0
Two strict s r ts = (a : Tree) × (b : Tree) × (ts ≡ a ▸ (b ▸ none)) × (fits strict s a ≡ true) × (fits strict r b ≡ true)

two : (strict : Bool) (s r : Slot) (ts : Trees) → fill strict (these (s ∷ (r ∷ []))) ts ≡ true → Two strict s r ts
two strict s r none e = absurd (cc e)
two strict s r (a ▸ none) e = absurd (and_false (fits strict s a) e)
two strict s r (a ▸ (b ▸ none)) e = (a, b, refl, left (fits strict s a) (fits strict r b && true) e, left (fits strict r b) true (right (fits strict s a) (fits strict r b && true) e))
two strict s r (a ▸ (b ▸ (c ▸ ts))) e = absurd (and_false (fits strict r b) (right (fits strict s a) (fits strict r b && false) e))

-- no statement

no_default : (strict : Bool) (d : Depth) → filling strict (one (a_statement d)) shape.AssignmentPattern ≡ refused
no_default true in_module = refl
no_default true in_body = refl
no_default true nested = refl
no_default false in_module = refl
no_default false in_body = refl
no_default false nested = refl

no_property : (strict : Bool) (d : Depth) (sh k : Bool) → filling strict (one (a_statement d)) (shape.BindingProperty sh k) ≡ refused
no_property true in_module sh k = refl
no_property true in_body sh k = refl
no_property true nested sh k = refl
no_property false in_module sh k = refl
no_property false in_body sh k = refl
no_property false nested sh k = refl

no_target : (strict : Bool) (d : Depth) (k : Bool) → filling strict (one (a_statement d)) (shape.AssignmentTargetPropertyProperty k) ≡ refused
no_target true in_module k = refl
no_target true in_body k = refl
no_target true nested k = refl
no_target false in_module k = refl
no_target false in_body k = refl
no_target false nested k = refl

-- a default is an inner expression
abbrev Defaulted : Trees → Type 0
Defaulted ts = (a : Tree) × (b : Tree) × (ts ≡ a ▸ (b ▸ none)) × (is_inner (shape_of b) ≡ true)

defaulted_by : (strict : Bool) (r : Slot) (w : Bool) (ts : Trees) → (w && fill strict (these (r ∷ (one (an_inner an_expression) ∷ []))) ts) ≡ true → Defaulted ts
defaulted_by strict r w ts e =
    let (a, b, shape, first_fits, second_fits) = two strict r (one (an_inner an_expression)) ts (right w (fill strict (these (r ∷ (one (an_inner an_expression) ∷ []))) ts) e) in
    (a, b, shape, inner_fits strict an_expression b second_fits)

defaulted_in : (strict : Bool) (c : Class) (xs : List Name) (n : ℕ) (ts : Trees) → fits strict (one c) (node shape.AssignmentPattern xs n ts) ≡ true → Defaulted ts
defaulted_in strict a_parameter xs n ts e = defaulted_by strict _ (is_whole a_parameter shape.AssignmentPattern xs n ts) ts e
defaulted_in strict a_pattern_element xs n ts e = defaulted_by strict _ (is_whole a_pattern_element shape.AssignmentPattern xs n ts) ts e
defaulted_in strict a_target_element xs n ts e = defaulted_by strict _ (is_whole a_target_element shape.AssignmentPattern xs n ts) ts e
defaulted_in strict a_named_target xs n ts e = defaulted_by strict _ (is_whole a_named_target shape.AssignmentPattern xs n ts) ts e
defaulted_in strict (a_statement d) xs n ts e = absurd (refused_here strict (one (a_statement d)) shape.AssignmentPattern xs n ts (no_default strict d) e)
defaulted_in strict (a_key true) xs n ts e = absurd (refused_here strict (one (a_key true)) shape.AssignmentPattern xs n ts refl e)
defaulted_in strict (a_key false) xs n ts e = absurd (refused_here strict (one (a_key false)) shape.AssignmentPattern xs n ts refl e)
defaulted_in strict (a_private_or_key true) xs n ts e = absurd (refused_here strict (one (a_private_or_key true)) shape.AssignmentPattern xs n ts refl e)
defaulted_in strict (a_private_or_key false) xs n ts e = absurd (refused_here strict (one (a_private_or_key false)) shape.AssignmentPattern xs n ts refl e)
defaulted_in strict (an_inner_key true) xs n ts e = absurd (refused_here strict (one (an_inner_key true)) shape.AssignmentPattern xs n ts refl e)
defaulted_in strict (an_inner_key false) xs n ts e = absurd (refused_here strict (one (an_inner_key false)) shape.AssignmentPattern xs n ts refl e)
defaulted_in strict c xs n ts e = absurd (refused_here strict (one c) shape.AssignmentPattern xs n ts refl e)

defaulted : (strict : Bool) (s : Slot) (xs : List Name) (n : ℕ) (ts : Trees) → fits strict s (node shape.AssignmentPattern xs n ts) ≡ true → Defaulted ts
defaulted strict (one c) xs n ts e = defaulted_in strict c xs n ts e
defaulted strict (one_or_absent c) xs n ts e = defaulted_in strict c xs n ts e
defaulted strict s xs n ts e = absurd (refused_here strict s shape.AssignmentPattern xs n ts refl e)

-- a bracketed key is one
abbrev Keyed : Bool → Trees → Type 0
Keyed computed ts = (a : Tree) × (b : Tree) × (ts ≡ a ▸ (b ▸ none)) × (computed ≡ true → is_inner (shape_of a) ≡ true)

keyed_by : (strict : Bool) (r : Slot) (w computed : Bool) (ts : Trees) → (w && fill strict (these (one (an_inner_key computed) ∷ (r ∷ []))) ts) ≡ true → Keyed computed ts
keyed_by strict r w computed ts e =
    let (a, b, shape, first_fits, second_fits) = two strict (one (an_inner_key computed)) r ts (right w (fill strict (these (one (an_inner_key computed) ∷ (r ∷ []))) ts) e) in
    (a, b, shape, λ c. key_fits strict a (subst (λ k. fits strict (one (an_inner_key k)) a ≡ true) c first_fits))

property_in : (strict : Bool) (c : Class) (shorthand computed : Bool) (xs : List Name) (n : ℕ) (ts : Trees) → fits strict (one c) (node (shape.BindingProperty shorthand computed) xs n ts) ≡ true → Keyed computed ts
property_in strict a_pattern_property shorthand computed xs n ts e = keyed_by strict _ (is_whole a_pattern_property (shape.BindingProperty shorthand computed) xs n ts) computed ts e
property_in strict (a_statement d) sh k xs n ts e = absurd (refused_here strict (one (a_statement d)) (shape.BindingProperty sh k) xs n ts (no_property strict d sh k) e)
property_in strict (a_key true) sh k xs n ts e = absurd (refused_here strict (one (a_key true)) (shape.BindingProperty sh k) xs n ts refl e)
property_in strict (a_key false) sh k xs n ts e = absurd (refused_here strict (one (a_key false)) (shape.BindingProperty sh k) xs n ts refl e)
property_in strict (a_private_or_key true) sh k xs n ts e = absurd (refused_here strict (one (a_private_or_key true)) (shape.BindingProperty sh k) xs n ts refl e)
property_in strict (a_private_or_key false) sh k xs n ts e = absurd (refused_here strict (one (a_private_or_key false)) (shape.BindingProperty sh k) xs n ts refl e)
property_in strict (an_inner_key true) sh k xs n ts e = absurd (refused_here strict (one (an_inner_key true)) (shape.BindingProperty sh k) xs n ts refl e)
property_in strict (an_inner_key false) sh k xs n ts e = absurd (refused_here strict (one (an_inner_key false)) (shape.BindingProperty sh k) xs n ts refl e)
property_in strict c sh k xs n ts e = absurd (refused_here strict (one c) (shape.BindingProperty sh k) xs n ts refl e)

property_keyed : (strict : Bool) (s : Slot) (shorthand computed : Bool) (xs : List Name) (n : ℕ) (ts : Trees) → fits strict s (node (shape.BindingProperty shorthand computed) xs n ts) ≡ true → Keyed computed ts
property_keyed strict (one c) sh k xs n ts e = property_in strict c sh k xs n ts e
property_keyed strict (one_or_absent c) sh k xs n ts e = property_in strict c sh k xs n ts e
property_keyed strict s sh k xs n ts e = absurd (refused_here strict s (shape.BindingProperty sh k) xs n ts refl e)

target_in : (strict : Bool) (c : Class) (computed : Bool) (xs : List Name) (n : ℕ) (ts : Trees) → fits strict (one c) (node (shape.AssignmentTargetPropertyProperty computed) xs n ts) ≡ true → Keyed computed ts
target_in strict a_target_property computed xs n ts e = keyed_by strict _ (is_whole a_target_property (shape.AssignmentTargetPropertyProperty computed) xs n ts) computed ts e
target_in strict (a_statement d) k xs n ts e = absurd (refused_here strict (one (a_statement d)) (shape.AssignmentTargetPropertyProperty k) xs n ts (no_target strict d k) e)
target_in strict (a_key true) k xs n ts e = absurd (refused_here strict (one (a_key true)) (shape.AssignmentTargetPropertyProperty k) xs n ts refl e)
target_in strict (a_key false) k xs n ts e = absurd (refused_here strict (one (a_key false)) (shape.AssignmentTargetPropertyProperty k) xs n ts refl e)
target_in strict (a_private_or_key true) k xs n ts e = absurd (refused_here strict (one (a_private_or_key true)) (shape.AssignmentTargetPropertyProperty k) xs n ts refl e)
target_in strict (a_private_or_key false) k xs n ts e = absurd (refused_here strict (one (a_private_or_key false)) (shape.AssignmentTargetPropertyProperty k) xs n ts refl e)
target_in strict (an_inner_key true) k xs n ts e = absurd (refused_here strict (one (an_inner_key true)) (shape.AssignmentTargetPropertyProperty k) xs n ts refl e)
target_in strict (an_inner_key false) k xs n ts e = absurd (refused_here strict (one (an_inner_key false)) (shape.AssignmentTargetPropertyProperty k) xs n ts refl e)
target_in strict c k xs n ts e = absurd (refused_here strict (one c) (shape.AssignmentTargetPropertyProperty k) xs n ts refl e)

target_keyed : (strict : Bool) (s : Slot) (computed : Bool) (xs : List Name) (n : ℕ) (ts : Trees) → fits strict s (node (shape.AssignmentTargetPropertyProperty computed) xs n ts) ≡ true → Keyed computed ts
target_keyed strict (one c) k xs n ts e = target_in strict c k xs n ts e
target_keyed strict (one_or_absent c) k xs n ts e = target_in strict c k xs n ts e
target_keyed strict s k xs n ts e = absurd (refused_here strict s (shape.AssignmentTargetPropertyProperty k) xs n ts refl e)

-- ---- how the names of all children are used

plainly : (h : Shape) (p : Position) (v : Use) (m i : ℕ) (ts : Trees) → is_patterned h ≡ false → (is_inner h || is_used p v) ≡ true → AllStand (child_position h p m) (use_of h v) i ts
plainly h p v m i none d e = tt
plainly h p v m i (t ▸ ts) d e = (stands_plainly h p v m i t d e, plainly h p v m (suc i) ts d e)

inner_stands : (p : Position) (v : Use) (t : Tree) → is_inner (shape_of t) ≡ true → Stands p v t
inner_stands p v t e = ap (λ b. b || is_used p v) e

key_stands : (shorthand computed : Bool) (p : Position) (v : Use) (m : ℕ) (t : Tree) → (computed ≡ true → is_inner (shape_of t) ≡ true) → Stands (child_position (shape.BindingProperty shorthand computed) p m 0) v t
key_stands true computed p v m t f = also (is_inner (shape_of t)) true refl
key_stands false false p v m t f = also (is_inner (shape_of t)) true refl
key_stands false true p v m t f = inner_stands (child_position (shape.BindingProperty false true) p m 0) v t (f refl)

target_key_stands : (computed : Bool) (p : Position) (v : Use) (m : ℕ) (t : Tree) → (computed ≡ true → is_inner (shape_of t) ≡ true) → Stands (child_position (shape.AssignmentTargetPropertyProperty computed) p m 0) v t
target_key_stands false p v m t f = also (is_inner (shape_of t)) true refl
target_key_stands true p v m t f = inner_stands (child_position (shape.AssignmentTargetPropertyProperty true) p m 0) v t (f refl)

pub all_stand : (strict : Bool) (s : Slot) (h : Shape) (xs : List Name) (n : ℕ) (ts : Trees) → fits strict s (node h xs n ts) ≡ true → (p : Position) (m : ℕ) (v : Use) → Stands p v (node h xs n ts) → AllStand (child_position h p m) (use_of h v) 0 ts
all_stand strict s shape.AssignmentPattern xs n ts e p m v st =
    let (a, b, parts, inner) = defaulted strict s xs n ts e in
    subst (λ us. AllStand (child_position shape.AssignmentPattern p m) (use_of shape.AssignmentPattern v) 0 us) (sym parts) (also (is_inner (shape_of a)) true refl, (inner_stands (child_position shape.AssignmentPattern p m 1) v b inner, tt))
all_stand strict s (shape.BindingProperty shorthand computed) xs n ts e p m v st =
    let (a, b, parts, inner) = property_keyed strict s shorthand computed xs n ts e in
    subst (λ us. AllStand (child_position (shape.BindingProperty shorthand computed) p m) (use_of (shape.BindingProperty shorthand computed) v) 0 us) (sym parts) (key_stands shorthand computed p v m a inner, (also (is_inner (shape_of b)) true refl, tt))
all_stand strict s (shape.AssignmentTargetPropertyProperty computed) xs n ts e p m v st =
    let (a, b, parts, inner) = target_keyed strict s computed xs n ts e in
    subst (λ us. AllStand (child_position (shape.AssignmentTargetPropertyProperty computed) p m) (use_of (shape.AssignmentTargetPropertyProperty computed) v) 0 us) (sym parts) (target_key_stands computed p v m a inner, (also (is_inner (shape_of b)) true refl, tt))
all_stand strict s h xs n ts e p m v st = plainly h p v m 0 ts refl st

-- ---- steps

all_itself : (π : ℕ → Position) (i : ℕ) (ts : Trees) → AllKeep π i ts ts
all_itself π i none = tt
all_itself π i (t ▸ ts) = (keeps_itself (π i) t, all_itself π (suc i) ts)

shifted : (π : ℕ → Position) (j : ℕ) (ts us : Trees) → AllKeep (λ i. π (suc i)) j ts us → AllKeep π (suc j) ts us
shifted π j none none k = tt
shifted π j none (u ▸ us) k = absurd k
shifted π j (t ▸ ts) none k = absurd k
shifted π j (t ▸ ts) (u ▸ us) k = (k.0, shifted π (suc j) ts us k.1)

no_piece : (g : Tagging) (last : Bool) (h : Shape) → is_piece h ≡ false → is_quasi_by g last h ≡ false
no_piece untagged last (shape.TemplateElement tail raw c) e = absurd (cc e)
no_piece tagged last (shape.TemplateElement tail raw c) e = absurd (cc e)
no_piece untagged last h e = refl
no_piece tagged last h e = refl

piece_by : (g : Tagging) (last : Bool) (h : Shape) (xs : List Name) (n : ℕ) (ts : Trees) → is_quasi g last (node h xs n ts) ≡ true → (is_quasi_by g last h ≡ true) × (ts ≡ none)
piece_by g last h [] n none e = (left (is_quasi_by g last h) ((n == 0) && has_plain_fields h) e, refl)
piece_by g last h [] n (t ▸ ts) e = absurd (cc e)
piece_by g last h (x ∷ xs) n ts e = absurd (cc e)

some_child : (R : Position → Tree → Tree → Type 0) {π : ℕ → Position} {ts us : Trees} → StepIn R π ts us → ts ≡ none → ⊥
some_child R (first π t u ts s) e = cc e
some_child R (later π t ts us s) e = cc e

module _ (R : Position → Tree → Tree → Type 0) (l : KeepsNames R) where
  -- no step is made in the text of a template
  no_step : {p : Position} {t u : Tree} (g : Tagging) (last : Bool) → Step R p t u → is_quasi g last t ≡ true → ⊥
  no_step g last (here p (node h xs n ts) u r) e = cc (sym (piece_by g last h xs n ts e).0 ∙ no_piece g last h (l.pieces p (node h xs n ts) u r))
  no_step g last (inside p h xs n ts us s) e = some_child R s (piece_by g last h xs n ts e).1

  pub no_steps : {π : ℕ → Position} {ts us : Trees} (g : Tagging) → StepIn R π ts us → are_quasis g ts ≡ true → ⊥
  no_steps g (first π t u none s) e = no_step g true s e
  no_steps g (first π t u (v ▸ ts) s) e = no_step g false s (left (is_quasi g false t) (are_quasis g (v ▸ ts)) e)
  no_steps g (later π t none us s) e = some_child R s refl
  no_steps g (later π t (v ▸ ts) us s) e = no_steps g s (right (is_quasi g false t) (are_quasis g (v ▸ ts)) e)

  pub one_of : (p : Position) (strict : Bool) (s r : Slot) (b : Bool) (t : Tree) → fits_place p s ≡ true → fits_place p r ≡ true → (fits strict s t || (b && fits strict r t)) ≡ true → (q : Slot) × (fits_place p q ≡ true) × (fits strict q t ≡ true)
  one_of p strict s r b t x y e = by (fits strict s t) refl
    where
      by : (c : Bool) → fits strict s t ≡ c → (q : Slot) × (fits_place p q ≡ true) × (fits strict q t ≡ true)
      by true f = (s, x, f)
      by false f = (r, y, right b (fits strict r t) (sym (ap (λ c. c || (b && fits strict r t)) f) ∙ e))

  module _ (stays : InitStays R) where
    mutual
      pub step_keeps : {p : Position} {t u : Tree} → Step R p t u → (strict : Bool) (s : Slot) → fits_place p s ≡ true → fits strict s t ≡ true → KeepsLoosely p t u
      step_keeps (here p t u r) strict s k e = l.keeps p t u r strict s k e
      step_keeps (inside p h xs n ts us st) strict s k e =
          keeps_below p h xs n ts us (init_kept R stays strict s p h xs n ts us e st) (merges strict s h xs n ts e) (steps_keep st (is_strict_in strict h) (filling strict s h) (placed_below strict s h p (count ts) k) (right (is_whole (class_of s) h xs n ts) (fill (is_strict_in strict h) (filling strict s h) ts) e)) (all_stand strict s h xs n ts e p (count ts))

      pub steps_keep : {π : ℕ → Position} {ts us : Trees} → StepIn R π ts us → (strict : Bool) (g : Filling) → Placed π g → fill strict g ts ≡ true → AllKeep π 0 ts us
      steps_keep (first π t u ts st) strict refused k e = absurd (cc e)
      steps_keep (first π t u ts st) strict (these []) k e = absurd (cc e)
      steps_keep (first π t u ts st) strict (these (s ∷ ss)) k e = (step_keeps st strict s k.0 (left (fits strict s t) (fill strict (these ss) ts) e), all_itself π 1 ts)
      steps_keep (first π t u ts st) strict (each s) k e = (step_keeps st strict s (k 0) (left (fits strict s t) (fill strict (each s) ts) e), all_itself π 1 ts)
      steps_keep (first π t u ts st) strict (each_or_last s r) k e =
          let (q, z, f) = one_of (π 0) strict s r (is_last ts) t (k 0).0 (k 0).1 (left (fits strict s t || (is_last ts && fits strict r t)) (fill strict (each_or_last s r) ts) e) in
          (step_keeps st strict q z f, all_itself π 1 ts)
      steps_keep (first π t u ts st) strict (pieces g) k e = absurd (no_steps g (first π t u ts st) e)
      steps_keep (later π t ts us st) strict refused k e = absurd (cc e)
      steps_keep (later π t ts us st) strict (these []) k e = absurd (cc e)
      steps_keep (later π t ts us st) strict (these (s ∷ ss)) k e = (keeps_itself (π 0) t, shifted π 0 ts us (steps_keep st strict (these ss) k.1 (right (fits strict s t) (fill strict (these ss) ts) e)))
      steps_keep (later π t ts us st) strict (each s) k e = (keeps_itself (π 0) t, shifted π 0 ts us (steps_keep st strict (each s) (λ j. k (suc j)) (right (fits strict s t) (fill strict (each s) ts) e)))
      steps_keep (later π t ts us st) strict (each_or_last s r) k e =
          (keeps_itself (π 0) t, shifted π 0 ts us (steps_keep st strict (each_or_last s r) (λ j. k (suc j)) (right (fits strict s t || (is_last ts && fits strict r t)) (fill strict (each_or_last s r) ts) e)))
      steps_keep (later π t ts us st) strict (pieces g) k e = absurd (no_steps g (later π t ts us st) e)
