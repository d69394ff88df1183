-- The plans of names.
use Rattle.std.proofs.Common.{◌≡◌, ℕ, List, [], ◌∷◌, refl, ap, sym, ◌∙◌, subst, Bool, true, false, ◌&&◌, ◌||◌}
use Rattle.std.specs.Prelude.{Option, Some, None, option_and_then, option_map, not, codes, if◌then◌else◌}
use Rattle.std.proofs.lemmas.Bool.{and_parts, false≢true, true≢false}
use Rattle.serde_json.specs.Data.{Data}
use Rattle.serde_json.specs.Find.{get}
use Rattle.mini_model.specs.Texts.{units_of}
use Rattle.mini_model.specs.declared.shape.Shape.TheVariants as shape
use Rattle.mini_model.specs.Tree.{Tree, node, none, unresolved}
use Rattle.mini_accept.specs.WellShaped as shaped
use Rattle.mini_accept.specs.WellShaped.{in_module, is_text, is_name}
use Rattle.mini_accept.specs.Places.{Place, at, a_local_name}
use Rattle.mini_accept.specs.Fields.{require, is_there_with, text_at, has_text, has_units, is_text_by, name_of_units, name_at, has_type, is_one_of}
use Rattle.mini_accept.specs.Literals.{literal, is_string_shape, is_string_literal}
use Rattle.mini_accept.specs.Standing.{is_identifier, may_stand}
use Rattle.mini_accept.specs.Plans.{Plan}
use Rattle.mini_accept.specs.Functions as function
use Rattle.mini_accept.specs.Expressions as expression
use Rattle.mini_accept.proofs.Fitting.{Spelled, Named, NamedBefore, Marked, Expressed}
use Rattle.mini_accept.proofs.Gathered.{WholeIf}
use Rattle.mini_accept.proofs.Types.{some_same, text_same, text_is, text_turned, Typed, typed_has, types_at}
use Rattle.mini_accept.proofs.Wholes.{bind_whole, none_if_false, unmarked, fits_at, whole_at}

-- ---- texts

pub text_symmetric : (s r : List ℕ) → is_text s r ≡ is_text r s
text_symmetric s r = by_cases (is_text s r) (is_text r s) (text_turned s r) (text_turned r s)
  where
    by_cases : (a b : Bool) → (a ≡ true → b ≡ true) → (b ≡ true → a ≡ true) → a ≡ b
    by_cases true b f g = sym (f refl)
    by_cases false true f g = g refl
    by_cases false false f g = refl

pub or_false : (b : Bool) → (b || false) ≡ b
or_false true = refl
or_false false = refl

-- the units of a name are those of its text
name_of : (o : Option (List ℕ)) (s : List ℕ) → option_and_then (λ x. name_of_units (units_of x)) o ≡ Some s → is_name s ≡ true
name_of None s e = absurd (cc e)
name_of (Some r) s e = by_test (is_name (units_of r)) (units_of r) refl e
  where
    by_test : (b : Bool) (u : List ℕ) → is_name u ≡ b → require b (Some u) ≡ Some s → is_name s ≡ true
    by_test true u is same = subst (λ x. is_name x ≡ true) (some_same u s same) is
    by_test false u is same = absurd (cc same)

pub name_is : (d : Data) (s : List ℕ) → name_at d ≡ Some s → is_name s ≡ true
name_is d s e = name_of (text_at (codes "name") d) s e

by_name : (strict : Bool) (p : Place) (d : Data) (f : List ℕ → Plan) (b : Bool) (u : List ℕ) → is_name u ≡ b → (is_name u ≡ true → WholeIf strict p d (Some (f u))) → WholeIf strict p d (option_map f (require b (Some u)))
by_name strict p d f true u is h = h is
by_name strict p d f false u is h = record { known = tt }

by_text : (strict : Bool) (p : Place) (d : Data) (f : List ℕ → Plan) (o : Option (List ℕ)) → ((r : List ℕ) → o ≡ Some r → is_name (units_of r) ≡ true → WholeIf strict p d (Some (f (units_of r))))
    → WholeIf strict p d (option_map f (option_and_then (λ x. name_of_units (units_of x)) o))
by_text strict p d f None h = record { known = tt }
by_text strict p d f (Some r) h = by_name strict p d f (is_name (units_of r)) (units_of r) refl (h r refl)

-- ---- identifiers

module _ (d : Data) (typed : Typed d (codes "Identifier")) (r : List ℕ) (text : text_at (codes "name") d ≡ Some r) where
  units_same : (s : List ℕ) → r ≡ s → ◌≡◌ {A = Option (List ℕ)} (Some (units_of r)) (Some (units_of s))
  units_same s e = ap (λ x. Some (units_of x)) e

  spelled : (t : Tree) → shaped.spelling t ≡ Some (units_of r) → Spelled d t
  spelled t e s is = e ∙ units_same s (some_same r s (sym text ∙ (sym (ap (λ b. if b then text_at (codes "name") d else None) (typed_has d (codes "Identifier") (codes "Identifier") typed)) ∙ is)))

  named : (t : Tree) → shaped.spelling t ≡ Some (units_of r) → Named d t
  named t e s is = e ∙ units_same s (sym (text_same s r (sym (ap (is_text_by s) text) ∙ (and_parts (is_identifier d) (has_text (codes "name") s d) is).1)))

  named_before : (t : Tree) → shaped.spelling (shaped.without_default t) ≡ Some (units_of r) → NamedBefore d t
  named_before t e s is =
      let same = sym (ap (λ b. if b then is_there_with (expression.is_same_name (Some s)) (get (codes "left") d) else expression.is_same_name (Some s) d) (typed_has d (codes "Identifier") (codes "AssignmentPattern") typed)) ∙ is in
      e ∙ units_same s (sym (text_same s r (sym (ap (is_text_by s) text) ∙ (and_parts (is_identifier d) (has_text (codes "name") s d) same).1)))

  unlinked : (t : Tree) → Marked d t
  unlinked t m = absurd (true≢false (sym m ∙ unmarked d (typed_has d (codes "Identifier") (codes "CallExpression") typed) (typed_has d (codes "Identifier") (codes "MemberExpression") typed)))

  expressed : (t : Tree) → shaped.is_not_positive_number t ≡ true → shaped.spelling (shaped.without_default t) ≡ Some (units_of r) → Expressed d t
  expressed t positive e =
      let bare : has_type (codes "Literal") d ≡ false = typed_has d (codes "Identifier") (codes "Literal") typed in
      record { not_positive = λ z. positive; safe = λ z is. absurd (cc (bare, is)); named = named_before t e }

  constructs : is_text (units_of r) (codes "constructor") ≡ function.names_constructor d
  constructs =
      let bare : has_type (codes "Literal") d ≡ false = typed_has d (codes "Identifier") (codes "Literal") typed in
      let is : has_type (codes "Identifier") d ≡ true = typed_has d (codes "Identifier") (codes "Identifier") typed in
      let no_string : is_string_literal d ≡ false = ap (λ b. b && is_string_shape (literal d)) bare in
      text_symmetric (units_of r) (codes "constructor") ∙ (sym (ap (λ o. is_text_by (codes "constructor") (option_map units_of o)) text) ∙ (sym (or_false (has_units (codes "name") (codes "constructor") d))
      ∙ (sym (ap (λ b. has_units (codes "name") (codes "constructor") d || (b && has_units (codes "value") (codes "constructor") d)) no_string) ∙ sym (ap (λ b. (b && has_units (codes "name") (codes "constructor") d) || (is_string_literal d && has_units (codes "value") (codes "constructor") d)) is))))

  module _ (strict : Bool) (test : is_name (units_of r) ≡ true) where
    -- a word that the place asks for
    word_whole : (w : List ℕ) → (is_identifier d && has_text (codes "name") w d) ≡ true → WholeIf strict (at (shaped.a_word w)) d (Some (expression.word_plan (units_of r)))
    word_whole w stands =
        let same : w ≡ r = text_same w r (sym (ap (is_text_by w) text) ∙ (and_parts (is_identifier d) (has_text (codes "name") w d) stands).1) in
        record { known = λ v n numbered. (λ ascii. fits_at strict (shaped.a_word w) (shape.IdentifierName (units_of r)) [] n d [] [] tt (none_if_false (not (is_text (units_of r) w)) (Some []) (ap not (text_is (units_of r) w (ap units_of (sym same) ∙ ascii)))) numbered refl test refl tt, tt) }

    at_place : (p : Place) → is_one_of (types_at p) (codes "Identifier") ≡ true → may_stand p d ≡ true → WholeIf strict p d (Some (expression.identifier_in p (units_of r)))
    at_place (at shaped.an_init) e stands = whole_at strict (at shaped.an_init) shaped.an_init d shape.Identifier (unresolved (units_of r) ∷ []) [] (λ t h. h) (λ n h. h) test refl (λ w. refl) tt (λ w n. tt)
    at_place (at shaped.an_arrow_body) e stands = whole_at strict (at shaped.an_arrow_body) shaped.an_arrow_body d shape.Identifier (unresolved (units_of r) ∷ []) [] (λ t h. h) (λ n h. h) test refl (λ w. refl) tt (λ w n b. absurd (true≢false (sym b ∙ typed_has d (codes "Identifier") (codes "BlockStatement") typed)))
    at_place (at shaped.an_expression) e stands = whole_at strict (at shaped.an_expression) shaped.an_expression d shape.Identifier (unresolved (units_of r) ∷ []) [] (λ t h. h) (λ n h. h) test refl (λ w. refl) tt (λ w n. expressed (node shape.Identifier (unresolved (units_of r) ∷ []) n none) refl refl)
    at_place (at shaped.a_link) e stands = whole_at strict (at shaped.a_link) shaped.a_link d shape.Identifier (unresolved (units_of r) ∷ []) [] (λ t h. h) (λ n h. h) test refl (λ w. refl) tt (λ w n. unlinked (node shape.Identifier (unresolved (units_of r) ∷ []) n none))
    at_place (at shaped.an_argument) e stands = whole_at strict (at shaped.an_argument) shaped.an_argument d shape.Identifier (unresolved (units_of r) ∷ []) [] (λ t h. h) (λ n h. h) test refl (λ w. refl) tt (λ w n. tt)
    at_place (at (shaped.a_key true)) e stands = whole_at strict (at (shaped.a_key true)) (shaped.a_key true) d shape.Identifier (unresolved (units_of r) ∷ []) [] (λ t h. h) (λ n h. h) test refl (λ w. refl) tt (λ w n. tt)
    at_place (at shaped.a_default_export) e stands = whole_at strict (at shaped.a_default_export) shaped.a_default_export d shape.Identifier (unresolved (units_of r) ∷ []) [] (λ t h. h) (λ n h. h) test refl (λ w. refl) tt (λ w n. tt)
    at_place (at (shaped.a_loop_left enumerates)) e stands = whole_at strict (at (shaped.a_loop_left enumerates)) (shaped.a_loop_left enumerates) d shape.Identifier (unresolved (units_of r) ∷ []) [] (λ t h. h) (λ n h. h) test refl (λ w. refl) tt (λ w n. tt)
    at_place (at shaped.a_target) e stands = whole_at strict (at shaped.a_target) shaped.a_target d shape.Identifier (unresolved (units_of r) ∷ []) [] (λ t h. h) (λ n h. h) test refl (λ w. refl) tt (λ w n. tt)
    at_place (at shaped.a_simple_target) e stands = whole_at strict (at shaped.a_simple_target) shaped.a_simple_target d shape.Identifier (unresolved (units_of r) ∷ []) [] (λ t h. h) (λ n h. h) test refl (λ w. refl) tt (λ w n. tt)
    at_place (at shaped.an_element_target) e stands = whole_at strict (at shaped.an_element_target) shaped.an_element_target d shape.Identifier (unresolved (units_of r) ∷ []) [] (λ t h. h) (λ n h. h) test refl (λ w. refl) tt (λ w n. tt)
    at_place (at shaped.a_named_target) e stands = whole_at strict (at shaped.a_named_target) shaped.a_named_target d shape.Identifier (unresolved (units_of r) ∷ []) [] (λ t h. h) (λ n h. h) test refl (λ w. refl) tt (λ w n. named_before (node shape.Identifier (unresolved (units_of r) ∷ []) n none) refl)
    at_place (at shaped.a_target_name) e stands = whole_at strict (at shaped.a_target_name) shaped.a_target_name d shape.Identifier (unresolved (units_of r) ∷ []) [] (λ t h. h) (λ n h. h) test refl (λ w. refl) tt (λ w n. named (node shape.Identifier (unresolved (units_of r) ∷ []) n none) refl)
    at_place (at shaped.a_target_element) e stands = whole_at strict (at shaped.a_target_element) shaped.a_target_element d shape.Identifier (unresolved (units_of r) ∷ []) [] (λ t h. h) (λ n h. h) test refl (λ w. refl) tt (λ w n. tt)
    at_place a_local_name e stands = whole_at strict a_local_name shaped.an_exported_name d shape.Identifier (unresolved (units_of r) ∷ []) [] (λ t h. h) (λ n h. h) test refl (λ w. refl) tt (λ w n. refl)
    at_place (at shaped.a_pattern) e stands = whole_at strict (at shaped.a_pattern) shaped.a_pattern d shape.BindingIdentifier (unresolved (units_of r) ∷ []) [] (λ t h. h) (λ n h. h) test refl (λ w. refl) tt (λ w n. named (node shape.BindingIdentifier (unresolved (units_of r) ∷ []) n none) refl)
    at_place (at shaped.a_pattern_element) e stands = whole_at strict (at shaped.a_pattern_element) shaped.a_pattern_element d shape.BindingIdentifier (unresolved (units_of r) ∷ []) [] (λ t h. h) (λ n h. h) test refl (λ w. refl) tt (λ w n. named_before (node shape.BindingIdentifier (unresolved (units_of r) ∷ []) n none) refl)
    at_place (at shaped.a_parameter) e stands = whole_at strict (at shaped.a_parameter) shaped.a_parameter d shape.BindingIdentifier (unresolved (units_of r) ∷ []) [] (λ t h. h) (λ n h. h) test refl (λ w. refl) tt (λ w n. tt)
    at_place (at shaped.a_binding) e stands = whole_at strict (at shaped.a_binding) shaped.a_binding d shape.BindingIdentifier (unresolved (units_of r) ∷ []) [] (λ t h. h) (λ n h. h) test refl (λ w. refl) tt (λ w n. (r, text, refl))
    at_place (at shaped.a_label) e stands = whole_at strict (at shaped.a_label) shaped.a_label d (shape.IdentifierName (units_of r)) [] [] (λ t h. h) (λ n h. h) refl test (λ w. refl) tt (λ w n. spelled (node (shape.IdentifierName (units_of r)) [] n none) refl)
    at_place (at (shaped.a_key false)) e stands = whole_at strict (at (shaped.a_key false)) (shaped.a_key false) d (shape.IdentifierName (units_of r)) [] [] (λ t h. h) (λ n h. h) refl test (λ w. refl) tt (λ w n. spelled (node (shape.IdentifierName (units_of r)) [] n none) refl)
    at_place (at (shaped.a_private_or_key computed)) e stands = whole_at strict (at (shaped.a_private_or_key computed)) (shaped.a_private_or_key false) d (shape.IdentifierName (units_of r)) [] [] (λ t h. h) (λ n h. h) refl test (λ w. refl) tt (λ w n. constructs)
    at_place (at (shaped.an_inner_key computed)) e stands = whole_at strict (at (shaped.an_inner_key computed)) (shaped.an_inner_key false) d (shape.IdentifierName (units_of r)) [] [] (λ t h. h) (λ n h. h) refl test (λ w. refl) tt (λ w n. spelled (node (shape.IdentifierName (units_of r)) [] n none) refl)
    at_place (at shaped.a_module_name) e stands = whole_at strict (at shaped.a_module_name) shaped.a_module_name d (shape.IdentifierName (units_of r)) [] [] (λ t h. h) (λ n h. h) refl test (λ w. refl) tt (λ w n. tt)
    at_place (at (shaped.a_word w)) e stands = word_whole w stands
    at_place (at (shaped.a_statement in_module)) e stands = absurd (false≢true e)
    at_place p e stands = absurd (false≢true e)

pub identifier : (strict : Bool) (p : Place) (d : Data) → Typed d (codes "Identifier") → is_one_of (types_at p) (codes "Identifier") ≡ true → may_stand p d ≡ true → WholeIf strict p d (expression.identifier p d)
identifier strict p d typed e stands = by_text strict p d (expression.identifier_in p) (text_at (codes "name") d) (λ r text test. at_place d typed r text strict test p e stands)

-- ---- private names

private_key : (d : Data) → Typed d (codes "PrivateIdentifier") → false ≡ function.names_constructor d
private_key d typed =
    let no_name : has_type (codes "Identifier") d ≡ false = typed_has d (codes "PrivateIdentifier") (codes "Identifier") typed in
    let no_string : is_string_literal d ≡ false = ap (λ b. b && is_string_shape (literal d)) (typed_has d (codes "PrivateIdentifier") (codes "Literal") typed) in
    sym (ap (λ b. (b && has_units (codes "name") (codes "constructor") d) || (is_string_literal d && has_units (codes "value") (codes "constructor") d)) no_name ∙ ap (λ b. b && has_units (codes "value") (codes "constructor") d) no_string)

pub private_identifier : (strict : Bool) (p : Place) (d : Data) → Typed d (codes "PrivateIdentifier") → is_one_of (types_at p) (codes "PrivateIdentifier") ≡ true → WholeIf strict p d (expression.private_identifier d)
private_identifier strict (at shaped.a_private_name) d typed e = bind_whole strict (at shaped.a_private_name) d (name_at d) _ (λ s is. whole_at strict (at shaped.a_private_name) shaped.a_private_name d (shape.PrivateIdentifier s) [] [] (λ t h. h) (λ n h. h) refl (name_is d s is) (λ w. refl) tt (λ w n. tt))
private_identifier strict (at (shaped.a_private_or_key computed)) d typed e = bind_whole strict (at (shaped.a_private_or_key computed)) d (name_at d) _ (λ s is. whole_at strict (at (shaped.a_private_or_key computed)) (shaped.a_private_or_key false) d (shape.PrivateIdentifier s) [] [] (λ t h. h) (λ n h. h) refl (name_is d s is) (λ w. refl) tt (λ w n. private_key d typed))
private_identifier strict (at (shaped.a_statement in_module)) d typed e = absurd (false≢true e)
private_identifier strict (at (shaped.a_key true)) d typed e = absurd (false≢true e)
private_identifier strict p d typed e = absurd (false≢true e)
