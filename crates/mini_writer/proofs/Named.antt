-- Identifiers come back at each place.
use Rattle.std.proofs.Common.{◌≡◌, ℕ, suc, List, [], ◌∷◌, refl, Bool, true, false}
use Rattle.std.proofs.lemmas.Bool.{false≢true, true≢false}
use Rattle.mini_model.specs.declared.name.Name.{Name}
use Rattle.mini_model.specs.declared.shape.Shape.{Shape}
use Rattle.mini_model.specs.declared.shape.Shape.TheVariants as shape
use Rattle.mini_model.specs.Tree.{node, Trees}
use Rattle.mini_accept.specs.WellShaped as shaped
use Rattle.mini_accept.specs.WellShaped.{Class, these, a_statement}
use Rattle.mini_accept.specs.Places.{at}
use Rattle.mini_accept.specs.Standing.{stands_as}
use Rattle.mini_accept.specs.Expressions.{identifier_by, identifier_as}
use Rattle.mini_writer.specs.Written.{name}
use Rattle.mini_writer.proofs.Read.{ReadsBack}
use Rattle.mini_writer.proofs.Fitting.{Filled, NodeFits, with_none}
use Rattle.mini_writer.proofs.Slots.{is_apart}
use Rattle.mini_writer.proofs.Leaves.{identifier_back}
use Rattle.mini_writer.proofs.Names.{units_of_one}
use Rattle.mini_writer.proofs.AnyStatement.{no_statement}

module _ (k : ℕ) (strict : Bool) where
  -- it comes back, whatever its number is
  abbrev pub NameComes : Class → Shape → Name → Trees → Type 0
  NameComes c h x ts = (m n : ℕ) → ReadsBack (suc (suc (suc k))) strict (at c) n (name x.spelling) (node h (x ∷ []) m ts)

  reference : (c : Class) (x : Name) (ts : Trees) → NodeFits k strict c shape.Identifier (x ∷ []) ts → ((s : List ℕ) → identifier_as c s ≡ identifier_by shape.Identifier s) → stands_as c (name x.spelling) ≡ true → Filled k strict (these []) ts → NameComes c shape.Identifier x ts
  reference c x ts w named stands = with_none k strict (NameComes c shape.Identifier x) (λ m n. identifier_back (suc (suc k)) strict c shape.Identifier x m named stands w.names (units_of_one _ w.name_units) n) ts

  binding : (c : Class) (x : Name) (ts : Trees) → NodeFits k strict c shape.BindingIdentifier (x ∷ []) ts → ((s : List ℕ) → identifier_as c s ≡ identifier_by shape.BindingIdentifier s) → stands_as c (name x.spelling) ≡ true → Filled k strict (these []) ts → NameComes c shape.BindingIdentifier x ts
  binding c x ts w named stands = with_none k strict (NameComes c shape.BindingIdentifier x) (λ m n. identifier_back (suc (suc k)) strict c shape.BindingIdentifier x m named stands w.names (units_of_one _ w.name_units) n) ts

  pub reference_comes : (c : Class) (x : Name) (ts : Trees) → is_apart c ≡ false → NodeFits k strict c shape.Identifier (x ∷ []) ts → NameComes c shape.Identifier x ts
  reference_comes shaped.an_init x ts a w = reference shaped.an_init x ts w (λ s. refl) refl w.filled
  reference_comes (shaped.a_loop_left enumerates) x ts a w = reference (shaped.a_loop_left enumerates) x ts w (λ s. refl) refl w.filled
  reference_comes shaped.an_expression x ts a w = reference shaped.an_expression x ts w (λ s. refl) refl w.filled
  reference_comes shaped.a_link x ts a w = reference shaped.a_link x ts w (λ s. refl) refl w.filled
  reference_comes shaped.an_argument x ts a w = reference shaped.an_argument x ts w (λ s. refl) refl w.filled
  reference_comes (shaped.a_key true) x ts a w = reference (shaped.a_key true) x ts w (λ s. refl) refl w.filled
  reference_comes shaped.a_default_export x ts a w = reference shaped.a_default_export x ts w (λ s. refl) refl w.filled
  reference_comes shaped.a_target x ts a w = reference shaped.a_target x ts w (λ s. refl) refl w.filled
  reference_comes shaped.a_simple_target x ts a w = reference shaped.a_simple_target x ts w (λ s. refl) refl w.filled
  reference_comes shaped.an_element_target x ts a w = reference shaped.an_element_target x ts w (λ s. refl) refl w.filled
  reference_comes shaped.a_target_element x ts a w = reference shaped.a_target_element x ts w (λ s. refl) refl w.filled
  reference_comes shaped.a_named_target x ts a w = reference shaped.a_named_target x ts w (λ s. refl) refl w.filled
  reference_comes shaped.a_target_name x ts a w = reference shaped.a_target_name x ts w (λ s. refl) refl w.filled
  reference_comes (a_statement depth) x ts a w = absurd (no_statement k _ _ depth ts w.filled)
  reference_comes shaped.an_exported_name x ts a w = absurd (true≢false a)
  reference_comes shaped.an_arrow_body x ts a w = absurd (true≢false a)
  reference_comes (shaped.a_private_or_key true) x ts a w = absurd (false≢true w.filled.fills)
  reference_comes (shaped.a_private_or_key false) x ts a w = absurd (false≢true w.filled.fills)
  reference_comes (shaped.an_inner_key true) x ts a w = absurd (false≢true w.filled.fills)
  reference_comes (shaped.an_inner_key false) x ts a w = absurd (false≢true w.filled.fills)
  reference_comes c x ts a w = absurd (false≢true w.filled.fills)

  pub arrow_reference : (x : Name) (ts : Trees) → NodeFits k strict shaped.an_arrow_body shape.Identifier (x ∷ []) ts → NameComes shaped.an_arrow_body shape.Identifier x ts
  arrow_reference x ts w = reference shaped.an_arrow_body x ts w (λ s. refl) refl w.filled

  pub binding_comes : (c : Class) (x : Name) (ts : Trees) → NodeFits k strict c shape.BindingIdentifier (x ∷ []) ts → NameComes c shape.BindingIdentifier x ts
  binding_comes shaped.a_pattern x ts w = binding shaped.a_pattern x ts w (λ s. refl) refl w.filled
  binding_comes shaped.a_pattern_element x ts w = binding shaped.a_pattern_element x ts w (λ s. refl) refl w.filled
  binding_comes shaped.a_parameter x ts w = binding shaped.a_parameter x ts w (λ s. refl) refl w.filled
  binding_comes shaped.a_binding x ts w = binding shaped.a_binding x ts w (λ s. refl) refl w.filled
  binding_comes (a_statement depth) x ts w = absurd (no_statement k _ _ depth ts w.filled)
  binding_comes (shaped.a_key true) x ts w = absurd (false≢true w.filled.fills)
  binding_comes (shaped.a_key false) x ts w = absurd (false≢true w.filled.fills)
  binding_comes (shaped.a_private_or_key true) x ts w = absurd (false≢true w.filled.fills)
  binding_comes (shaped.a_private_or_key false) x ts w = absurd (false≢true w.filled.fills)
  binding_comes (shaped.an_inner_key true) x ts w = absurd (false≢true w.filled.fills)
  binding_comes (shaped.an_inner_key false) x ts w = absurd (false≢true w.filled.fills)
  binding_comes c x ts w = absurd (false≢true w.filled.fills)
