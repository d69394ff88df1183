-- Names that are repeated, and keys that name a constructor, in what is written as in the tree.
use Rattle.std.proofs.Common.{◌≡◌, ℕ, List, [], ◌∷◌, refl, ap, sym, ◌∙◌, subst, Bool, true, false, ◌&&◌, ◌||◌}
use Rattle.std.specs.Prelude.{Option, Some, None, codes, pos, negsuc}
use Rattle.std.proofs.lemmas.Bool.{and_parts, false≢true}
use Rattle.mini_model.specs.Texts.{bytes_of, are_units}
use Rattle.mini_model.specs.declared.name.Name.{Name}
use Rattle.mini_model.specs.declared.shape.Shape.{Shape}
use Rattle.mini_model.specs.declared.shape.Shape.TheVariants as shape
use Rattle.mini_model.specs.Tree.{Tree, node, Trees}
use Rattle.mini_accept.specs.WellShaped.{Slot, is_text, is_paired, spelling, spelling_by, is_same_spelling, has_names, has_plain_fields, names_constructor, is_name}
use Rattle.mini_accept.specs.Fields.{has_units}
use Rattle.mini_accept.specs.Expressions.{identifier_text, is_same_name, is_name_with_default}
use Rattle.mini_accept.specs.Functions as function
use Rattle.mini_accept.proofs.Types.{text_same, text_is, some_same}
use Rattle.mini_accept.proofs.Identifiers.{text_symmetric}
use Rattle.mini_writer.specs.Objects as objects
use Rattle.mini_writer.specs.Written.{tree_data, trees_data, node_data, name}
use Rattle.mini_writer.proofs.Units.{fields_are_units}
use Rattle.mini_writer.proofs.Fitting.{Fit}
use Rattle.mini_writer.proofs.Texts.{text_back, name_back}
use Rattle.mini_writer.proofs.Leaves.{is_text_literal}

-- ---- repeated names

-- what is spelled is written as its spelling
spelled_by : (h : Shape) (xs : List Name) (ts : Trees) (s : List ℕ) → has_names h xs ≡ true → spelling_by h xs ≡ Some s → node_data h xs (trees_data ts) ≡ name s
spelled_by shape.Identifier [] ts s e is = absurd (false≢true e)
spelled_by shape.Identifier (x ∷ []) ts s e is = ap name (some_same x.spelling s is)
spelled_by shape.Identifier (x ∷ y ∷ xs) ts s e is = absurd (false≢true e)
spelled_by shape.BindingIdentifier [] ts s e is = absurd (false≢true e)
spelled_by shape.BindingIdentifier (x ∷ []) ts s e is = ap name (some_same x.spelling s is)
spelled_by shape.BindingIdentifier (x ∷ y ∷ xs) ts s e is = absurd (false≢true e)
spelled_by (shape.IdentifierName r) xs ts s e is = ap name (some_same r s is)
spelled_by h xs ts s e is = absurd (cc is)

-- the names of a node are those of its shape
abbrev pub is_named : Tree → Bool
is_named (node h xs n ts) = has_names h xs

pub fit_named : (k : ℕ) (strict : Bool) (s : Slot) (t : Tree) → Fit k strict s t → is_named t ≡ true
fit_named k strict s (node h xs n ts) f = (and_parts (has_names h xs) _ (and_parts _ _ f.fits).0).0

pub spelled_data : (t : Tree) (s : List ℕ) → is_named t ≡ true → spelling t ≡ Some s → tree_data t ≡ name s
spelled_data (node h xs n ts) s e is = spelled_by h xs ts s e is

same_name : (s r : List ℕ) → is_text s r ≡ true → is_same_name (Some (bytes_of s)) (name r) ≡ true
same_name s r e = text_is (bytes_of s) (bytes_of r) (ap bytes_of (text_same s r e))

-- both are spelled
both_spelled : (o q : Option (List ℕ)) → is_same_spelling o q ≡ true → (s r : List ℕ) × (o ≡ Some s) × (q ≡ Some r) × (is_text s r ≡ true)
both_spelled None None e = absurd (false≢true e)
both_spelled None (Some r) e = absurd (false≢true e)
both_spelled (Some s) None e = absurd (false≢true e)
both_spelled (Some s) (Some r) e = (s, r, refl, refl, e)

-- what is spelled alike is written alike
pub same_written : (t u : Tree) → is_named t ≡ true → is_named u ≡ true → is_same_spelling (spelling t) (spelling u) ≡ true → tree_data t ≡ tree_data u
same_written t u k v e =
    let (s, r, said, is, same) = both_spelled (spelling t) (spelling u) e in
    spelled_data t s k said ∙ (ap name (text_same s r same) ∙ sym (spelled_data u r v is))

-- the value of a shorthand property repeats its key
pub repeats_plain : (key value : Tree) → is_named key ≡ true → is_named value ≡ true → is_same_spelling (spelling key) (spelling value) ≡ true → is_name_with_default (identifier_text (tree_data key)) (tree_data value) ≡ true
repeats_plain key value k v e =
    let (s, r, said, is, same) = both_spelled (spelling key) (spelling value) e in
    subst (λ d. is_name_with_default (identifier_text d) (tree_data value) ≡ true) (sym (spelled_data key s k said))
    (subst (λ d. is_name_with_default (Some (bytes_of s)) d ≡ true) (sym (spelled_data value r v is)) (same_name s r same))

pub repeats_default : (key left right : Tree) → is_named key ≡ true → is_named left ≡ true → is_same_spelling (spelling key) (spelling left) ≡ true → is_name_with_default (identifier_text (tree_data key)) (objects.assignment_pattern (tree_data left) (tree_data right)) ≡ true
repeats_default key left right k v e =
    let (s, r, said, is, same) = both_spelled (spelling key) (spelling left) e in
    subst (λ d. is_name_with_default (identifier_text d) (objects.assignment_pattern (tree_data left) (tree_data right)) ≡ true) (sym (spelled_data key s k said))
    (subst (λ d. is_same_name (Some (bytes_of s)) d ≡ true) (sym (spelled_data left r v is)) (same_name s r same))

-- ---- the key of a constructor

or_none : (b : Bool) → (b || false) ≡ b
or_none true = refl
or_none false = refl

word_constructs : (s : List ℕ) → is_name s ≡ true → are_units s ≡ true → is_text s (codes "constructor") ≡ function.names_constructor (name s)
word_constructs s named units = text_symmetric s (codes "constructor") ∙ (ap (is_text (codes "constructor")) (sym (name_back s named units)) ∙ sym (or_none _))

text_constructs : (s : List ℕ) → is_paired s ≡ true → are_units s ≡ true → is_text s (codes "constructor") ≡ function.names_constructor (objects.string_literal (bytes_of s))
text_constructs s paired units = text_symmetric s (codes "constructor") ∙ (ap (is_text (codes "constructor")) (sym (text_back s paired units)) ∙ sym (ap (λ b. b && has_units (codes "value") (codes "constructor") (objects.string_literal (bytes_of s))) (is_text_literal 0 true s paired units)))

-- what may be a key of a class without brackets
abbrev pub is_plain_key : Shape → Bool
is_plain_key (shape.IdentifierName s) = true
is_plain_key (shape.StringLiteral s) = true
is_plain_key (shape.NumericLiteral (pos n)) = true
is_plain_key (shape.PrivateIdentifier s) = true
is_plain_key h = false

pub key_constructs : (h : Shape) (xs : List Name) (n : ℕ) (ts : Trees) → is_plain_key h ≡ true → has_plain_fields h ≡ true → fields_are_units h ≡ true → names_constructor (node h xs n ts) ≡ function.names_constructor (node_data h xs (trees_data ts))
key_constructs (shape.IdentifierName s) xs n ts e f u = word_constructs s f u
key_constructs (shape.StringLiteral s) xs n ts e f u = text_constructs s f u
key_constructs (shape.NumericLiteral (pos m)) xs n ts e f u = refl
key_constructs (shape.PrivateIdentifier s) xs n ts e f u = refl
key_constructs (shape.NumericLiteral (negsuc m)) xs n ts e f u = absurd (false≢true e)
key_constructs h xs n ts e f u = absurd (false≢true e)
