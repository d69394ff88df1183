-- What an identifier is, by what it is to its name.
use Rattle.std.proofs.Common.{◌≡◌, ℕ, List, Bool, true, false, refl, sym, ap, ◌∙◌}
use Rattle.std.specs.Prelude.{if◌then◌else◌}
use Rattle.mini_model.specs.declared.shape.Shape.TheVariants as shape
use Rattle.mini_accept.specs.Plans.{Plan}
use Rattle.mini_accept.specs.Expressions.{identifier_by, word_plan, identifier_in}
use Rattle.mini_fields.specs.declared.place.Class.TheVariants as class
use Rattle.mini_fields.specs.declared.place.Place.{Place}
use Rattle.mini_fields.specs.declared.place.Place.TheVariants as place
use Rattle.mini_fields.specs.Views.{place_of}
use Rattle.mini_plan.specs.Named.{is_declared, is_word}

abbrev by_name : Bool → Bool → List ℕ → Plan
by_name declares names s = if declares then identifier_by shape.BindingIdentifier s else if names then word_plan s else identifier_by shape.Identifier s

told : (p : Place) (s : List ℕ) → by_name (is_declared p) (is_word p) s ≡ identifier_in (place_of p) s
told (place.At (class.Key true)) s = refl
told (place.At (class.Key false)) s = refl
told (place.At c) s = refl
told p s = refl

pub declared : (p : Place) (s : List ℕ) → is_declared p ≡ true → identifier_by shape.BindingIdentifier s ≡ identifier_in (place_of p) s
declared p s is = sym (ap (λ b. by_name b (is_word p) s) is) ∙ told p s

pub word : (p : Place) (s : List ℕ) → is_declared p ≡ false → is_word p ≡ true → word_plan s ≡ identifier_in (place_of p) s
word p s none is = sym (ap (λ b. by_name b (is_word p) s) none ∙ ap (λ b. by_name false b s) is) ∙ told p s

pub read : (p : Place) (s : List ℕ) → is_declared p ≡ false → is_word p ≡ false → identifier_by shape.Identifier s ≡ identifier_in (place_of p) s
read p s none is = sym (ap (λ b. by_name b (is_word p) s) none ∙ ap (λ b. by_name false b s) is) ∙ told p s
