-- What is known of a node whose type is known, or isn't in the kind.
use Rattle.std.proofs.Common.{◌≡◌, ℕ, List, [], ◌∷◌, Bool, true, false, refl, sym, ap, ap₂, ◌∙◌, Option, Some, None}
use Rattle.std.specs.Prelude.{◌&&◌, ◌||◌, not, is_some, codes, option_and_then, option_map, unwrap_or}
use Rattle.serde_json.specs.Data.{Data}
use Rattle.mini_accept.specs.WellShaped.{is_text}
use Rattle.mini_accept.specs.declared.kind.Kind.TheVariants as kind
use Rattle.mini_accept.specs.declared.kind.Kind.{Kind}
use Rattle.mini_accept.specs.Kind.{types}
use Rattle.mini_accept.specs.Places.{Place, at, a_directive, a_directive_text, a_quasi, an_exported, a_local_name}
use Rattle.mini_accept.specs.Fields.{text_at, kind_of, has_type, has_one_of, is_one_of, is_bare, is_text_by, word_in, has_text, is_given}
use Rattle.mini_accept.specs.Literals.{literal, is_big_int_shape, is_big_int_literal, is_unread_literal}
use Rattle.mini_accept.specs.Standing.{may_stand, has_unread_type, has_unread_field, has_true, unread_types, begins_with, is_key, is_nested, is_unread, is_unread_form, is_unread_there}
use Rattle.mini_accept.proofs.Types.{type_name, kind_typed, typed_has, typed_one}
use Rattle.mini_accept.proofs.Identifiers.{text_symmetric}
use Rattle.mini_accept.proofs.Marks.{typed_by}
use Rattle.mini_fields.specs.Unread.{is_for_text, is_literal, is_function_declaration, has_unread_field_of, is_unread_itself, is_unread_at, is_unread_of}

-- ---- types that are known

pub one_by : (ws : List (List ℕ)) (k : Kind) (d : Data) → kind_of d ≡ Some k → has_one_of ws d ≡ is_one_of ws (type_name k)
one_by ws k d is = typed_one d (type_name k) ws (kind_typed d k is)

pub type_by : (w : List ℕ) (k : Kind) (d : Data) → kind_of d ≡ Some k → has_type w d ≡ is_text w (type_name k)
type_by w k d is = typed_has d (type_name k) w (kind_typed d k is)

-- no type of the table is one that isn't read
is_unread_word : List ℕ → Bool
is_unread_word s = is_one_of unread_types s || (begins_with (codes "TS") s || begins_with (codes "JSX") s)

no_type_unread : (k : Kind) → is_unread_word (type_name k) ≡ false
unfolding is_unread_word
no_type_unread kind.Program = refl
no_type_unread k = refl

has_read_type : (d : Data) (k : Kind) → kind_of d ≡ Some k → has_unread_type d ≡ false
unfolding is_unread_word
has_read_type d k is =
    ap (λ o. unwrap_or (option_map (is_one_of unread_types) o) false || unwrap_or (option_map (λ s. begins_with (codes "TS") s || begins_with (codes "JSX") s) o) false) (kind_typed d k is)
    ∙ no_type_unread k

abbrev functions : List (List ℕ)
functions = codes "FunctionDeclaration" ∷ codes "FunctionExpression" ∷ codes "ArrowFunctionExpression" ∷ []

abbrev modules : List (List ℕ)
modules = codes "ImportDeclaration" ∷ codes "ExportNamedDeclaration" ∷ codes "ExportAllDeclaration" ∷ []

or_nothing : (b : Bool) → b || false ≡ b
or_nothing true = refl
or_nothing false = refl

and_nothing : (b : Bool) → b && false ≡ false
and_nothing true = refl
and_nothing false = refl

-- the fields that say that a form isn't read, by the name of its type
abbrev by_name : List ℕ → Bool → Bool → Bool → Bool → Bool → Bool
by_name s x y z v w = (is_one_of functions s && x) || ((is_text (codes "ForOfStatement") s && y) || ((is_text (codes "VariableDeclaration") s && z) || ((is_one_of modules s && v) || (is_text (codes "ImportExpression") s && w))))

field_named : (k : Kind) (d : Data) → by_name (type_name k) (has_true (codes "async") d) (has_true (codes "await") d) (has_text (codes "kind") (codes "using") d || has_text (codes "kind") (codes "await using") d) (not (is_bare (codes "attributes") d)) (is_given (codes "options") d) ≡ has_unread_field_of k d
field_named kind.FunctionDeclaration d = or_nothing (has_true (codes "async") d)
field_named kind.FunctionExpression d = or_nothing (has_true (codes "async") d)
field_named kind.ArrowFunctionExpression d = or_nothing (has_true (codes "async") d)
field_named kind.ForOfStatement d = or_nothing (has_true (codes "await") d)
field_named kind.VariableDeclaration d = or_nothing (has_text (codes "kind") (codes "using") d || has_text (codes "kind") (codes "await using") d)
field_named kind.ImportDeclaration d = or_nothing (not (is_bare (codes "attributes") d))
field_named kind.ExportNamedDeclaration d = or_nothing (not (is_bare (codes "attributes") d))
field_named kind.ExportAllDeclaration d = or_nothing (not (is_bare (codes "attributes") d))
field_named k d = refl

field_by : (k : Kind) (d : Data) → kind_of d ≡ Some k → has_unread_field d ≡ has_unread_field_of k d
field_by k d is =
    rw (one_by functions k d is, type_by (codes "ForOfStatement") k d is, type_by (codes "VariableDeclaration") k d is, one_by modules k d is, type_by (codes "ImportExpression") k d is)
    (field_named k d)

literal_named : (k : Kind) → is_text (codes "Literal") (type_name k) ≡ is_literal k
literal_named kind.Literal = refl
literal_named k = refl

function_named : (k : Kind) → is_text (codes "FunctionDeclaration") (type_name k) ≡ is_function_declaration k
function_named kind.FunctionDeclaration = refl
function_named k = refl

itself_by : (k : Kind) (d : Data) → kind_of d ≡ Some k → has_unread_field d || (not (is_bare (codes "decorators") d) || (has_type (codes "Literal") d && is_unread_literal d)) ≡ is_unread_itself k d
itself_by k d is = rw (field_by k d is, type_by (codes "Literal") k d is, literal_named k) refl

form_by : (p : Place) (k : Kind) (d : Data) → kind_of d ≡ Some k → is_unread_form p d ≡ not (is_for_text p) && is_unread_itself k d
form_by (at c) k d is = ap₂ ◌||◌ (has_read_type d k is) (itself_by k d is)
form_by a_directive k d is = ap₂ ◌||◌ (has_read_type d k is) (itself_by k d is)
form_by a_directive_text k d is = has_read_type d k is
form_by (a_quasi g last) k d is = ap₂ ◌||◌ (has_read_type d k is) (itself_by k d is)
form_by (an_exported own) k d is = ap₂ ◌||◌ (has_read_type d k is) (itself_by k d is)
form_by a_local_name k d is = ap₂ ◌||◌ (has_read_type d k is) (itself_by k d is)

there_by : (strict : Bool) (p : Place) (k : Kind) (d : Data) → kind_of d ≡ Some k → is_unread_there strict p d ≡ is_unread_at strict p k d
there_by strict (at c) k d is = ap (λ b. (is_key c && is_big_int_literal d) || (not strict && (is_nested c && b))) (type_by (codes "FunctionDeclaration") k d is ∙ function_named k)
there_by strict a_directive k d is = refl
there_by strict a_directive_text k d is = refl
there_by strict (a_quasi g last) k d is = refl
there_by strict (an_exported own) k d is = refl
there_by strict a_local_name k d is = refl

-- what isn't read, by the type
pub unread_by : (strict : Bool) (p : Place) (k : Kind) (d : Data) → kind_of d ≡ Some k → is_unread strict p d ≡ is_unread_of strict p k d
unread_by strict p k d is = ap₂ ◌||◌ (form_by p k d is) (there_by strict p k d is)

-- ---- types that aren't the table's

pub if_not : (b : Bool) → (b ≡ true → ⊥) → b ≡ false
if_not true h = absurd (h refl)
if_not false h = refl

pub unknown_type : (w : List ℕ) (k : Kind) (d : Data) → word_in types w ≡ Some k → kind_of d ≡ None → has_type w d ≡ false
unknown_type w k d word is = if_not (has_type w d) (λ e. absurd (cc (sym is ∙ (ap (option_and_then (word_in types)) (typed_by d w e) ∙ word))))

three_words : (a b c : List ℕ) (o : Option (List ℕ)) → unwrap_or (option_map (is_one_of (a ∷ b ∷ c ∷ [])) o) false ≡ is_text_by a o || (is_text_by b o || is_text_by c o)
three_words a b c None = refl
three_words a b c (Some s) = ap₂ ◌||◌ (text_symmetric s a) (ap₂ ◌||◌ (text_symmetric s b) (or_nothing (is_text s c) ∙ text_symmetric s c))

pub one_of_three : (a b c : List ℕ) (d : Data) → has_one_of (a ∷ b ∷ c ∷ []) d ≡ has_type a d || (has_type b d || has_type c d)
one_of_three a b c d = three_words a b c (text_at (codes "type") d)

nothing_unread : (f o u i m x y z v w : Bool) → f ≡ false → o ≡ false → u ≡ false → i ≡ false → m ≡ false → (f && x) || ((o && y) || ((u && z) || ((i && v) || (m && w)))) ≡ false
nothing_unread f o u i m x y z v w ef eo eu ei em = rw (ef, eo, eu, ei, em) refl

no_type_of_three : (a b c : List ℕ) (d : Data) → has_type a d ≡ false → has_type b d ≡ false → has_type c d ≡ false → has_one_of (a ∷ b ∷ c ∷ []) d ≡ false
no_type_of_three a b c d ea eb ec = one_of_three a b c d ∙ ap₂ ◌||◌ ea (ap₂ ◌||◌ eb ec)

unknown_field : (d : Data) → kind_of d ≡ None → has_unread_field d ≡ false
unknown_field d is =
    nothing_unread (has_one_of functions d) (has_type (codes "ForOfStatement") d) (has_type (codes "VariableDeclaration") d) (has_one_of modules d) (has_type (codes "ImportExpression") d)
    (has_true (codes "async") d) (has_true (codes "await") d) (has_text (codes "kind") (codes "using") d || has_text (codes "kind") (codes "await using") d) (not (is_bare (codes "attributes") d)) (is_given (codes "options") d)
    (no_type_of_three (codes "FunctionDeclaration") (codes "FunctionExpression") (codes "ArrowFunctionExpression") d (unknown_type (codes "FunctionDeclaration") kind.FunctionDeclaration d refl is) (unknown_type (codes "FunctionExpression") kind.FunctionExpression d refl is) (unknown_type (codes "ArrowFunctionExpression") kind.ArrowFunctionExpression d refl is))
    (unknown_type (codes "ForOfStatement") kind.ForOfStatement d refl is)
    (unknown_type (codes "VariableDeclaration") kind.VariableDeclaration d refl is)
    (no_type_of_three (codes "ImportDeclaration") (codes "ExportNamedDeclaration") (codes "ExportAllDeclaration") d (unknown_type (codes "ImportDeclaration") kind.ImportDeclaration d refl is) (unknown_type (codes "ExportNamedDeclaration") kind.ExportNamedDeclaration d refl is) (unknown_type (codes "ExportAllDeclaration") kind.ExportAllDeclaration d refl is))
    (unknown_type (codes "ImportExpression") kind.ImportExpression d refl is)

settled : (t b k n s : Bool) → (t || (b || false)) || ((k && false) || (s && (n && false))) ≡ t || b
settled t b k n s = rw (or_nothing b, and_nothing k, and_nothing n, and_nothing s, or_nothing (t || b)) refl

unread_at : (t f b l q k r n s e : Bool) → f ≡ false → l ≡ false → e ≡ false → (t || (f || (b || (l && q)))) || ((k && (l && r)) || (s && (n && e))) ≡ t || b
unread_at t f b l q k r n s e ef el ee = rw (ef, el, ee) (settled t b k n s)

unread_else : (t f b l q : Bool) → f ≡ false → l ≡ false → (t || (f || (b || (l && q)))) || false ≡ t || b
unread_else t f b l q ef el = rw (ef, el, or_nothing b, or_nothing (t || b)) refl

unread_elsewhere : (d : Data) → kind_of d ≡ None → (has_unread_type d || (has_unread_field d || (not (is_bare (codes "decorators") d) || (has_type (codes "Literal") d && is_unread_literal d)))) || false ≡ has_unread_type d || not (is_bare (codes "decorators") d)
unread_elsewhere d is = unread_else (has_unread_type d) (has_unread_field d) (not (is_bare (codes "decorators") d)) (has_type (codes "Literal") d) (is_unread_literal d) (unknown_field d is) (unknown_type (codes "Literal") kind.Literal d refl is)

-- by the type or by decorators alone
pub unknown_unread : (strict : Bool) (p : Place) (d : Data) → kind_of d ≡ None → is_unread strict p d ≡ has_unread_type d || (not (is_for_text p) && not (is_bare (codes "decorators") d))
unknown_unread strict (at c) d is =
    unread_at (has_unread_type d) (has_unread_field d) (not (is_bare (codes "decorators") d)) (has_type (codes "Literal") d) (is_unread_literal d) (is_key c) (is_big_int_shape (literal d)) (is_nested c) (not strict) (has_type (codes "FunctionDeclaration") d)
    (unknown_field d is) (unknown_type (codes "Literal") kind.Literal d refl is) (unknown_type (codes "FunctionDeclaration") kind.FunctionDeclaration d refl is)
unknown_unread strict a_directive d is = unread_elsewhere d is
unknown_unread strict a_directive_text d is = refl
unknown_unread strict (a_quasi g last) d is = unread_elsewhere d is
unknown_unread strict (an_exported own) d is = unread_elsewhere d is
unknown_unread strict a_local_name d is = unread_elsewhere d is

pub unknown_stands : (strict : Bool) (p : Place) (d : Data) → kind_of d ≡ None → not (is_unread strict p d) && (is_some (kind_of d) && not (may_stand p d)) ≡ false
unknown_stands strict p d is = rw (is) (and_nothing (not (is_unread strict p d)))
