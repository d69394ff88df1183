-- The rewrite of keys is that of the rows, one property at a time, and where it writes nothing no row reads the literal.
use Rattle.std.proofs.Common.{◌≡◌, ℕ, zero, suc, ◌<◌, ◌≤◌, Bool, true, false, List, [], ◌∷◌, Option, Some, None, refl, sym, ap, subst, ◌∙◌, inl, inr, arith}
use Rattle.std.specs.Prelude.{◌⊎◌, ◌&&◌, ◌||◌, not, is_some, if◌then◌else◌, ℤ, pos, negsuc}
use Rattle.std.specs.Fmt.{signed_decimal}
use Rattle.std.proofs.lemmas.Bool.{and_parts, or_parts, leb-true, le-leb, false≢true, eq-eqb}
use Rattle.mini_model.specs.Texts.{is_identifier_name}
use Rattle.mini_model.specs.Numerals.{max_safe_integer, IsSafe, safe_number}
use Rattle.mini_model.proofs.Safe.{text_of_number, number_of_text}
use Rattle.mini_model.specs.declared.kind.PropertyKind.{PropertyKind}
use Rattle.mini_model.specs.declared.kind.PropertyKind.TheVariants.{Init, Get, Set}
use Rattle.mini_model.specs.declared.name.Name.{Name}
use Rattle.mini_model.specs.declared.place.Position.TheVariants.{Expr}
use Rattle.mini_model.specs.declared.seat.Seat.{Seat}
use Rattle.mini_model.specs.declared.shape.Shape.{Shape}
use Rattle.mini_model.specs.declared.shape.Shape.TheVariants as shape
use Rattle.mini_model.specs.Paths.{append}
use Rattle.mini_model.specs.Tree.{Tree, shape_of, Trees, node, none, ◌▸◌, leaf, identifier, children, count, child_or_absent}
use Rattle.mini_model.specs.Weight.{same_text}
use Rattle.mini_node.specs.Children.{part, is_bare, names_of, with_child}
use Rattle.mini_node.specs.Kinds.{string, is_identifier}
use Rattle.mini_node.specs.Lends.{with_children}
use Rattle.mini_node.specs.Made.{string_is, identifier_is}
use Rattle.mini_node.specs.Walks.{append_one}
use Rattle.mini_rows.specs.Spellings.{numeral, text, key}
use Rattle.mini_rows.specs.SpellKeys.{object_literal, property, is_proto, KeyForm, a_name, a_whole, a_text_in_brackets, a_whole_in_brackets, IsSpelled, is_bracketed_form, read_key, written_key, function_property, is_function_kind, PropertyRow, RowInObject, KeyContracts}
use Rattle.mini_rows.proofs.SpellKeyWeights.{lighter}
use Rattle.mini_tree.specs.Rule.{Applied, Moves}
use Rattle.mini_tree.proofs.Reaching.{moves_once, moves_trans}
use Rattle.mini_syntax.specs.ConvertToDottedProperties as dotted
use Rattle.mini_syntax.specs.ConvertToDottedProperties.{as_name}
use Rattle.mini_syntax.specs.SubstituteObjectProperty.{is_open, is_bracketed, is_plain_shape, is_plain, opened_shape, with_key, is_plain_open, is_whole, is_literal_key, drops_brackets, unbracketed, is_key_text, names_key, whole_of, key_number, named, numbered, respelled_by, respelled, respells, key_name, spells, is_doubled, shortened, turned, turns, all_turned, any_turns, is_object_literal, properties, written, is_written, Gives, Rests, WrittenIsReached, UnwrittenRests}
use Rattle.mini_syntax.proofs.FormsAre.{same_texts}

some_is : {A : Type 0} (x y : A) → Some x ≡ Some y → x ≡ y
some_is x y e = cc e

not_so : (b : Bool) → not b ≡ true → b ≡ false
not_so false e = refl
not_so true e = absurd (false≢true e)

-- ---- what the tests say of a property

-- it is one of this kind
record Property (t : Tree) (is_computed : Bool) : Type 0 where
  kind : PropertyKind
  is_method : Bool
  shape : t ≡ function_property kind is_method is_computed (part t 0) (part t 1)

open_is : (t : Tree) → is_open t ≡ true → Property t false
open_is (node (shape.ObjectProperty kind is_method false false) [] zero (k ▸ v ▸ none)) e = record { kind = kind; is_method = is_method; shape = refl }
open_is t e = absurd (false≢true e)

bracketed_is : (t : Tree) → is_bracketed t ≡ true → Property t true
bracketed_is (node (shape.ObjectProperty kind is_method false true) [] zero (k ▸ v ▸ none)) e = record { kind = kind; is_method = is_method; shape = refl }
bracketed_is t e = absurd (false≢true e)

plain_open_is : (t : Tree) → is_plain_open t ≡ true → t ≡ property false false (part t 0) (part t 1)
plain_open_is (node (shape.ObjectProperty Init false false false) [] zero (k ▸ v ▸ none)) e = refl
plain_open_is t e = absurd (false≢true e)

-- a plain one is no function
plain_kind : (k : PropertyKind) (m c : Bool) → is_function_kind k m ≡ false → is_plain_shape (shape.ObjectProperty k m false c) ≡ true
plain_kind Init false c e = refl
plain_kind Init true c e = absurd (cc e)
plain_kind Get m c e = absurd (cc e)
plain_kind Set m c e = absurd (cc e)

function_kind : (k : PropertyKind) (m c : Bool) → is_function_kind k m ≡ true → is_plain_shape (shape.ObjectProperty k m false c) ≡ false
function_kind Init true c e = refl
function_kind Init false c e = absurd (cc e)
function_kind Get m c e = refl
function_kind Set m c e = refl

-- where the text is not to be `__proto__`
abbrev NoPrototype : KeyForm → Type 0
NoPrototype (a_name s) = is_proto s ≡ false
NoPrototype (a_whole n) = Unit {0}
NoPrototype (a_text_in_brackets s) = is_proto s ≡ false
NoPrototype (a_whole_in_brackets n) = Unit {0}

form_row : (k : PropertyKind) (m : Bool) (f : KeyForm) (v : Tree) → IsSpelled f → (is_function_kind k m ≡ false → NoPrototype f) → PropertyRow (function_property k m (is_bracketed_form f) (read_key f) v) (function_property k m false (written_key f) v)
form_row Init false (a_name s) v h o = inr (inl (record { name = s; value = v; is_name = h; other = o refl; shape = refl; written = refl }))
form_row Init false (a_whole n) v h o = inr (inr (inl (record { number = n; value = v; is_safe = h; shape = refl; written = refl })))
form_row Init false (a_text_in_brackets s) v h o = inr (inr (inr (inl (record { name = s; value = v; other = o refl; shape = refl; written = refl }))))
form_row Init false (a_whole_in_brackets n) v h o = inr (inr (inr (inr (inl (record { number = n; value = v; is_safe = h; shape = refl; written = refl })))))
form_row Init true f v h o = inr (inr (inr (inr (inr (record { kind = Init; is_method = true; form = f; value = v; is_function = refl; is_spelled = h; shape = refl; written = refl })))))
form_row Get m f v h o = inr (inr (inr (inr (inr (record { kind = Get; is_method = m; form = f; value = v; is_function = refl; is_spelled = h; shape = refl; written = refl })))))
form_row Set m f v h o = inr (inr (inr (inr (inr (record { kind = Set; is_method = m; form = f; value = v; is_function = refl; is_spelled = h; shape = refl; written = refl })))))

-- of a property whose key has this form
module _ (t : Tree) (f : KeyForm) (p : Property t (is_bracketed_form f)) where
  key_row : part t 0 ≡ read_key f → IsSpelled f → (is_plain t ≡ true → NoPrototype f) → PropertyRow t (with_key t (written_key f))
  key_row is h o =
      let c = is_bracketed_form f in
      let n = function_property p.kind p.is_method c (read_key f) (part t 1) in
      let whole : t ≡ n = p.shape ∙ ap (λ k. function_property p.kind p.is_method c k (part t 1)) is in
      let made : with_key t (written_key f) ≡ function_property p.kind p.is_method false (written_key f) (part t 1) = ap (λ x. node (opened_shape (shape_of x)) [] 0 (written_key f ▸ part t 1 ▸ none)) p.shape in
      subst (λ x. PropertyRow x (with_key t (written_key f))) (sym whole)
      (subst (PropertyRow n) (sym made) (form_row p.kind p.is_method f (part t 1) h (λ e. o (ap is_plain p.shape ∙ plain_kind p.kind p.is_method c e))))

bare_is : (h : Shape) (xs : List Name) (n : ℕ) (ts : Trees) → is_bare (node h xs n ts) 0 ≡ true → node h xs n ts ≡ leaf h
bare_is h [] zero none e = refl
bare_is h xs n ts e = absurd (false≢true e)

whole_is : (n : ℤ) → is_whole n ≡ true → (m : ℕ) × ((n ≡ pos m) × IsSafe (pos m))
whole_is (pos m) e = (m, (refl, leb-true m max_safe_integer e))
whole_is (negsuc m) e = absurd (false≢true e)

abbrev pub OtherText : Bool → Tree → Type 0
OtherText plain k = (s : List ℕ) × ((k ≡ text s) × (plain && is_proto s ≡ false))

abbrev pub SafeNumber : Tree → Type 0
SafeNumber k = (n : ℕ) × ((k ≡ numeral (pos n)) × IsSafe (pos n))

pub literal_key_is : (plain : Bool) (k : Tree) → is_literal_key plain k ≡ true → OtherText plain k ⊎ SafeNumber k
literal_key_is plain (node (shape.StringLiteral s) xs n ts) e =
    let (bare, other) = and_parts (is_bare (node (shape.StringLiteral s) xs n ts) 0) (not (plain && is_proto s)) e in
    inl (s, (bare_is (shape.StringLiteral s) xs n ts bare, not_so (plain && is_proto s) other))
literal_key_is plain (node (shape.NumericLiteral m) xs n ts) e =
    let (bare, whole) = and_parts (is_bare (node (shape.NumericLiteral m) xs n ts) 0) (is_whole m) e in
    let (i, (is, safe)) = whole_is m whole in
    inr (i, (bare_is (shape.NumericLiteral m) xs n ts bare ∙ ap numeral is, safe))
literal_key_is plain k e = absurd (false≢true e)

-- of a plain property
in_plain : (plain p : Bool) → plain && p ≡ false → plain ≡ true → p ≡ false
in_plain plain p e h = ap (λ b. b && p) (sym h) ∙ e

pub key_is : (k : Tree) (s : List ℕ) → key_name k ≡ Some s → k ≡ key s
key_is (node (shape.IdentifierName r) [] zero none) s e = ap key (some_is r s e)
key_is k s e = absurd (cc e)

-- ---- each change of a property is a row's

unbracketed_row : (t : Tree) → drops_brackets t ≡ true → PropertyRow t (with_key t (part t 0))
unbracketed_row t e =
    let (bracketed, literal) = and_parts (is_bracketed t) (is_literal_key (is_plain t) (part t 0)) e in
    go (bracketed_is t bracketed) (literal_key_is (is_plain t) (part t 0) literal)
  where
    by : (f : KeyForm) → Property t (is_bracketed_form f) → part t 0 ≡ read_key f → read_key f ≡ written_key f → IsSpelled f → (is_plain t ≡ true → NoPrototype f) → PropertyRow t (with_key t (part t 0))
    by f p is same h o = subst (λ k. PropertyRow t (with_key t k)) (sym (is ∙ same)) (key_row t f p is h o)

    go : Property t true → OtherText (is_plain t) (part t 0) ⊎ SafeNumber (part t 0) → PropertyRow t (with_key t (part t 0))
    go p (inl (s, (is, other))) = by (a_text_in_brackets s) p is refl tt (in_plain (is_plain t) (is_proto s) other)
    go p (inr (n, (is, safe))) = by (a_whole_in_brackets n) p is refl safe (λ h. tt)

named_row : (t : Tree) → names_key t ≡ true → PropertyRow t (named t)
named_row t e =
    let (opened, spelled) = and_parts (is_open t) (is_key_text (is_plain t) (string (part t 0))) e in
    go (open_is t opened) (string (part t 0)) refl spelled
  where
    go : Property t false → (o : Option (List ℕ)) → string (part t 0) ≡ o → is_key_text (is_plain t) o ≡ true → PropertyRow t (named t)
    go p (Some s) h k =
        let (name, other) = and_parts (is_identifier_name s) (not (is_plain t && is_proto s)) k in
        let is = string_is (part t 0) s h in
        subst (λ x. PropertyRow t (with_key t (as_name x))) (sym is) (key_row t (a_name s) p is name (in_plain (is_plain t) (is_proto s) (not_so (is_plain t && is_proto s) other)))
    go p None h k = absurd (false≢true k)

numbered_row : (t : Tree) (n : ℤ) → key_number t ≡ Some n → PropertyRow t (numbered n t)
numbered_row t n e = opening (is_open t) refl e
  where
    whole : is_open t ≡ true → (s : List ℕ) → string (part t 0) ≡ Some s → (o : Option ℤ) → safe_number s ≡ o → whole_of o ≡ Some n → PropertyRow t (numbered n t)
    whole h s i (Some (pos m)) j k =
        let (safe, spelled) = text_of_number s (pos m) j in
        subst (λ x. PropertyRow t (with_key t (numeral x))) (some_is (pos m) n k) (key_row t (a_whole m) (open_is t h) (string_is (part t 0) s i ∙ ap text spelled) safe (λ x. tt))
    whole h s i o j k = absurd (cc k)

    texts : is_open t ≡ true → (o : Option (List ℕ)) → string (part t 0) ≡ o → whole_of (dotted.number_of_text o) ≡ Some n → PropertyRow t (numbered n t)
    texts h (Some s) i k = whole h s i (safe_number s) refl k
    texts h None i k = absurd (cc k)

    opening : (b : Bool) → is_open t ≡ b → (if b then whole_of (dotted.number_of_text (string (part t 0))) else None) ≡ Some n → PropertyRow t (numbered n t)
    opening true h k = texts h (string (part t 0)) refl k
    opening false h k = absurd (cc k)

doubled_row : (t : Tree) → is_doubled t ≡ true → PropertyRow t (property true false (part t 0) (part t 1))
doubled_row t e = go (identifier_is (part t 1) named) (key_name (part t 0)) refl spelled
  where
    opened : is_plain_open t ≡ true
    opened = (and_parts (is_plain_open t) (is_identifier (part t 1) && spells (key_name (part t 0)) (names_of (part t 1))) e).0

    rest : is_identifier (part t 1) && spells (key_name (part t 0)) (names_of (part t 1)) ≡ true
    rest = (and_parts (is_plain_open t) (is_identifier (part t 1) && spells (key_name (part t 0)) (names_of (part t 1))) e).1

    named : is_identifier (part t 1) ≡ true
    named = (and_parts (is_identifier (part t 1)) (spells (key_name (part t 0)) (names_of (part t 1))) rest).0

    spelled : spells (key_name (part t 0)) (names_of (part t 1)) ≡ true
    spelled = (and_parts (is_identifier (part t 1)) (spells (key_name (part t 0)) (names_of (part t 1))) rest).1

    go : (x : Name) × (part t 1 ≡ identifier x) → (o : Option (List ℕ)) → key_name (part t 0) ≡ o → spells o (names_of (part t 1)) ≡ true → PropertyRow t (property true false (part t 0) (part t 1))
    go (x, is) (Some s) h k =
        let (same, other) = and_parts (same_text s x.spelling) (not (is_proto s)) (ap (λ v. spells (Some s) (names_of v)) (sym is) ∙ k) in
        let spelling = same_texts s x.spelling same in
        let its_key = key_is (part t 0) s h ∙ ap key spelling in
        inl (record {
          name = x;
          other = sym (ap is_proto spelling) ∙ not_so (is_proto s) other;
          shape = plain_open_is t opened ∙ ap (λ k. property false false k (part t 1)) its_key ∙ ap (property false false (key x.spelling)) is;
          written = ap (λ k. property true false k (part t 1)) its_key ∙ ap (property true false (key x.spelling)) is;
        })
    go (x, is) None h k = absurd (cc k)

-- ---- a property that stays is read by no row

or_true : (a : Bool) → a || true ≡ true
or_true true = refl
or_true false = refl

or_false : (a : Bool) → a || false ≡ a
or_false true = refl
or_false false = refl

or_assoc : (a b c : Bool) → (a || b) || c ≡ a || (b || c)
or_assoc true b c = refl
or_assoc false b c = refl

record Stays (t : Tree) : Type 0 where
  brackets : drops_brackets t ≡ false
  spelling : respells t ≡ false
  doubled : is_doubled t ≡ false
  same : turned t ≡ t

respelled_same : (t : Tree) (b : Bool) (o : Option ℤ) → b || is_some o ≡ false → respelled_by b o t ≡ t
respelled_same t false None e = refl
respelled_same t false (Some n) e = absurd (cc e)
respelled_same t true o e = absurd (cc e)

stays : (t : Tree) → turns t ≡ false → Stays t
stays t e =
    let (first, third) = or_parts (drops_brackets t || respells (unbracketed t)) (is_doubled (respelled (unbracketed t))) e in
    let (brackets, second) = or_parts (drops_brackets t) (respells (unbracketed t)) first in
    let as_was : unbracketed t ≡ t = ap (λ b. if b then with_key t (part t 0) else t) brackets in
    let spelling : respells t ≡ false = sym (ap respells as_was) ∙ second in
    let spelled : respelled (unbracketed t) ≡ t = ap respelled as_was ∙ respelled_same t (names_key t) (key_number t) spelling in
    let doubled : is_doubled t ≡ false = sym (ap is_doubled spelled) ∙ third in
    record { brackets = brackets; spelling = spelling; doubled = doubled; same = ap shortened spelled ∙ ap (λ b. if b then property true false (part t 0) (part t 1) else t) doubled }

pub same_text_refl : (s : List ℕ) → same_text s s ≡ true
same_text_refl [] = refl
same_text_refl (c ∷ s) = ap (λ b. b && same_text s s) (eq-eqb c c refl) ∙ same_text_refl s

function_misses : (n : Tree) (p : PropertyKind) (m : Bool) (f : KeyForm) (v : Tree) → n ≡ function_property p m (is_bracketed_form f) (read_key f) v → is_function_kind p m ≡ true → IsSpelled f → Stays n → ⊥
function_misses n p m (a_name s) v e i h k =
    let rest : Bool = is_some (key_number (function_property p m false (text s) v)) in
    let reads : respells n ≡ true = ap respells e ∙ ap (λ b. (b && not (is_plain_shape (shape.ObjectProperty p m false false) && is_proto s)) || rest) h ∙ ap (λ b. not (b && is_proto s) || rest) (function_kind p m false i) in
    false≢true (sym k.spelling ∙ reads)
function_misses n p m (a_whole i) v e f h k =
    let s = signed_decimal (pos i) in
    let named : Bool = is_identifier_name s && not (is_plain_shape (shape.ObjectProperty p m false false) && is_proto s) in
    let reads : respells n ≡ true = ap respells e ∙ ap (λ o. named || is_some (whole_of o)) (number_of_text s (pos i) (h, refl)) ∙ or_true named in
    false≢true (sym k.spelling ∙ reads)
function_misses n p m (a_text_in_brackets s) v e i h k =
    let reads : drops_brackets n ≡ true = ap drops_brackets e ∙ ap (λ b. not (b && is_proto s)) (function_kind p m true i) in
    false≢true (sym k.brackets ∙ reads)
function_misses n p m (a_whole_in_brackets i) v e f h k =
    let reads : drops_brackets n ≡ true = ap drops_brackets e ∙ le-leb i max_safe_integer h in
    false≢true (sym k.brackets ∙ reads)

misses : (n w : Tree) → PropertyRow n w → Stays n → ⊥
misses n w (inl r) k =
    let reads : is_doubled n ≡ true = ap is_doubled r.shape ∙ ap (λ b. b && not (is_proto r.name.spelling)) (same_text_refl r.name.spelling) ∙ ap not r.other in
    false≢true (sym k.doubled ∙ reads)
misses n w (inr (inl r)) k =
    let reads : respells n ≡ true = ap respells r.shape ∙ ap (λ b. (b && not (is_proto r.name)) || is_some (key_number (property false false (text r.name) r.value))) r.is_name ∙ ap (λ b. not b || is_some (key_number (property false false (text r.name) r.value))) r.other in
    false≢true (sym k.spelling ∙ reads)
misses n w (inr (inr (inl r))) k =
    let s = signed_decimal (pos r.number) in
    let reads : respells n ≡ true = ap respells r.shape ∙ ap (λ o. (is_identifier_name s && not (is_proto s)) || is_some (whole_of o)) (number_of_text s (pos r.number) (r.is_safe, refl)) ∙ or_true (is_identifier_name s && not (is_proto s)) in
    false≢true (sym k.spelling ∙ reads)
misses n w (inr (inr (inr (inl r)))) k =
    let reads : drops_brackets n ≡ true = ap drops_brackets r.shape ∙ ap not r.other in
    false≢true (sym k.brackets ∙ reads)
misses n w (inr (inr (inr (inr (inr r))))) k = function_misses n r.kind r.is_method r.form r.value r.shape r.is_function r.is_spelled k
misses n w (inr (inr (inr (inr (inl r))))) k =
    let reads : drops_brackets n ≡ true = ap drops_brackets r.shape ∙ le-leb r.number max_safe_integer r.is_safe in
    false≢true (sym k.brackets ∙ reads)

one_stays : (before : Trees) (t : Tree) (after : Trees) → any_turns (append before (t ▸ after)) ≡ false → turns t ≡ false
one_stays none t after e = (or_parts (turns t) (any_turns after) e).0
one_stays (u ▸ before) t after e = one_stays before t after (or_parts (turns u) (any_turns (append before (t ▸ after))) e).1

all_stay : (ts : Trees) → any_turns ts ≡ false → all_turned ts ≡ ts
all_stay none e = refl
all_stay (t ▸ ts) e =
    let (first, rest) = or_parts (turns t) (any_turns ts) e in
    ap (λ u. u ▸ all_turned ts) (stays t first).same ∙ ap (λ us. t ▸ us) (all_stay ts rest)

literal_is : (t : Tree) → is_object_literal t ≡ true → t ≡ object_literal (properties t)
literal_is (node shape.ObjectExpression [] zero (node shape.Listed [] zero ps ▸ none)) e = refl
literal_is (node shape.ObjectExpression [] zero (u ▸ none)) e = absurd (false≢true e)
literal_is t e = absurd (false≢true e)

pub unwritten_rests : UnwrittenRests
unwritten_rests s n e = go (is_object_literal n) refl e
  where
    go : (b : Bool) → is_object_literal n ≡ b → b && any_turns (properties n) ≡ false → (written n ≡ n) × Rests (Expr s) n
    go true h k = (
      ap (λ b. if b then object_literal (all_turned (properties n)) else n) h ∙ ap object_literal (all_stay (properties n) k) ∙ sym (literal_is n h),
      λ w r. misses r.from r.to r.row (stays r.from (one_stays r.before r.from r.after (sym (ap (λ t. any_turns (properties t)) r.shape) ∙ k))),
    )
    go false h k = (ap (λ b. if b then object_literal (all_turned (properties n)) else n) h, λ w r. false≢true (sym h ∙ ap is_object_literal r.shape))

-- ---- what is written is reached

module _ (s : Seat) where
  abbrev Changes : Tree → Tree → Bool → Type 0
  Changes t u true = Moves KeyContracts (Expr s) t u
  Changes t u false = u ≡ t

  changes_on : (t u v : Tree) (a b : Bool) → Changes t u a → Changes u v b → Changes t v (a || b)
  changes_on t u v true true m n = moves_trans KeyContracts m n
  changes_on t u v true false m e = subst (Moves KeyContracts (Expr s) t) (sym e) m
  changes_on t u v false b e n = subst (λ x. Changes x v b) e n

  -- whatever stands before and after it
  abbrev Turning : Tree → Tree → Bool → Type 0
  Turning t u b = (before after : Trees) → Changes (object_literal (append before (t ▸ after))) (object_literal (append before (u ▸ after))) b

  turning_on : (t u v : Tree) (a b : Bool) → Turning t u a → Turning u v b → Turning t v (a || b)
  turning_on t u v a b f g before after = changes_on (object_literal (append before (t ▸ after))) (object_literal (append before (u ▸ after))) (object_literal (append before (v ▸ after))) a b (f before after) (g before after)

  in_literal : (before : Trees) (t u : Tree) (after : Trees) → PropertyRow t u → RowInObject (object_literal (append before (t ▸ after))) (object_literal (append before (u ▸ after)))
  in_literal before t u after r = record { before = before; from = t; to = u; after = after; row = r; shape = refl; written = refl }

  by_row : (t u : Tree) → PropertyRow t u → Turning t u true
  by_row t u r before after =
      let n = object_literal (append before (t ▸ after)) in
      let w = object_literal (append before (u ▸ after)) in
      let row = in_literal before t u after r in
      moves_once KeyContracts (Expr s) n w (record { row = row; lighter = lighter (Expr s) n w row })

  by_test : (t u : Tree) (b : Bool) → (b ≡ true → PropertyRow t u) → Turning t (if b then u else t) b
  by_test t u true f before after = by_row t u (f refl) before after
  by_test t u false f before after = refl

  by_spelling : (t : Tree) (b : Bool) (o : Option ℤ) → names_key t ≡ b → key_number t ≡ o → Turning t (respelled_by b o t) (b || is_some o)
  by_spelling t true o h k before after = by_row t (named t) (named_row t h) before after
  by_spelling t false (Some n) h k before after = by_row t (numbered n t) (numbered_row t n k) before after
  by_spelling t false None h k before after = refl

  turning : (t : Tree) → Turning t (turned t) (turns t)
  turning t =
      let u = unbracketed t in
      let v = respelled u in
      turning_on t v (shortened v) (drops_brackets t || respells u) (is_doubled v)
      (turning_on t u v (drops_brackets t) (respells u) (by_test t (with_key t (part t 0)) (drops_brackets t) (unbracketed_row t)) (by_spelling u (names_key u) (key_number u) refl refl))
      (by_test v (property true false (part v 0) (part v 1)) (is_doubled v) (doubled_row v))

  all_change : (before ts : Trees) → Changes (object_literal (append before ts)) (object_literal (append before (all_turned ts))) (any_turns ts)
  all_change before none = refl
  all_change before (t ▸ ts) =
      changes_on (object_literal (append before (t ▸ ts))) (object_literal (append before (turned t ▸ ts))) (object_literal (append before (turned t ▸ all_turned ts))) (turns t) (any_turns ts)
      (turning t before ts)
      (subst (λ x. Changes (object_literal x) (object_literal (append before (turned t ▸ all_turned ts))) (any_turns ts)) (append_one before (turned t) ts)
      (subst (λ x. Changes (object_literal (append (append before (turned t ▸ none)) ts)) (object_literal x) (any_turns ts)) (append_one before (turned t) (all_turned ts))
      (all_change (append before (turned t ▸ none)) ts)))

pub written_is_reached : WrittenIsReached
written_is_reached s n e =
    let (literal, some) = and_parts (is_object_literal n) (any_turns (properties n)) e in
    let whole = subst (Changes s (object_literal (properties n)) (object_literal (all_turned (properties n)))) some (all_change s none (properties n)) in
    subst (λ x. Moves KeyContracts (Expr s) x (written n)) (sym (literal_is n literal))
    (subst (Moves KeyContracts (Expr s) (object_literal (properties n))) (sym (ap (λ b. if b then object_literal (all_turned (properties n)) else n) literal)) whole)

-- ---- the rule

pub applied : (s : Seat) (t u : Tree) (b : Bool) → u ≡ written t → b ≡ is_written t → Applied Gives Rests (Expr s) t u b
applied s t u b e f = subst (λ v. Applied Gives Rests (Expr s) t v b) (sym e) (subst (Applied Gives Rests (Expr s) t (written t)) (sym f) (go (is_written t) refl))
  where
    go : (c : Bool) → is_written t ≡ c → Applied Gives Rests (Expr s) t (written t) c
    go true h = written_is_reached s t h
    go false h = unwritten_rests s t h

-- ---- the loop over the properties

-- the first ones, up to a place, have been done
abbrev pub first_turned : ℕ → Trees → Trees
first_turned n none = none
first_turned zero (t ▸ ts) = t ▸ ts
first_turned (suc n) (t ▸ ts) = turned t ▸ first_turned n ts

abbrev pub any_first_turns : ℕ → Trees → Bool
any_first_turns n none = false
any_first_turns zero (t ▸ ts) = false
any_first_turns (suc n) (t ▸ ts) = turns t || any_first_turns n ts

pub first_count : (n : ℕ) (ts : Trees) → count (first_turned n ts) ≡ count ts
first_count n none = refl
first_count zero (t ▸ ts) = refl
first_count (suc n) (t ▸ ts) = ap suc (first_count n ts)

next_turned : (n : ℕ) (ts : Trees) → n < count ts → with_child (first_turned n ts) n (turned (child_or_absent (first_turned n ts) n)) ≡ first_turned (suc n) ts
next_turned n none h = absurd (omega (arith, h))
next_turned zero (t ▸ none) h = refl
next_turned zero (t ▸ (u ▸ ts)) h = refl
next_turned (suc n) (t ▸ ts) h = ap (λ us. turned t ▸ us) (next_turned n ts (omega (arith, h)))

next_turns : (n : ℕ) (ts : Trees) → n < count ts → any_first_turns n ts || turns (child_or_absent (first_turned n ts) n) ≡ any_first_turns (suc n) ts
next_turns n none h = absurd (omega (arith, h))
next_turns zero (t ▸ none) h = sym (or_false (turns t))
next_turns zero (t ▸ (u ▸ ts)) h = sym (or_false (turns t))
next_turns (suc n) (t ▸ ts) h = or_assoc (turns t) (any_first_turns n ts) (turns (child_or_absent (first_turned n ts) n)) ∙ ap (λ b. turns t || b) (next_turns n ts (omega (arith, h)))

all_first : (n : ℕ) (ts : Trees) → count ts ≤ n → first_turned n ts ≡ all_turned ts
all_first n none h = refl
all_first zero (t ▸ ts) h = absurd (omega (arith, h))
all_first (suc n) (t ▸ ts) h = ap (λ us. turned t ▸ us) (all_first n ts (omega (arith, h)))

any_first : (n : ℕ) (ts : Trees) → count ts ≤ n → any_first_turns n ts ≡ any_turns ts
any_first n none h = refl
any_first zero (t ▸ ts) h = absurd (omega (arith, h))
any_first (suc n) (t ▸ ts) h = ap (λ b. turns t || b) (any_first n ts (omega (arith, h)))

-- what the loop has come to at a place
pub record TurnedTo (n : ℕ) (ts us : Trees) (changed : Bool) : Type 0 where
  pub done : us ≡ first_turned n ts
  pub said : changed ≡ any_first_turns n ts

none_first : (ts : Trees) → ts ≡ first_turned 0 ts
none_first none = refl
none_first (t ▸ ts) = refl

none_said : (ts : Trees) → false ≡ any_first_turns 0 ts
none_said none = refl
none_said (t ▸ ts) = refl

pub turned_none : (ts : Trees) → TurnedTo 0 ts ts false
turned_none ts = record { done = none_first ts; said = none_said ts }

pub turned_next : (n m : ℕ) (ts us vs : Trees) (changed more : Bool) (t u : Tree) → n < count ts → m ≡ suc n → TurnedTo n ts us changed → t ≡ child_or_absent us n → u ≡ turned t → more ≡ turns t → vs ≡ with_child us n u → TurnedTo m ts vs (changed || more)
turned_next n m ts us vs changed more t u h i k is made said put =
    let here : t ≡ child_or_absent (first_turned n ts) n = is ∙ ap (λ xs. child_or_absent xs n) k.done in
    record {
      done = put ∙ ap (λ xs. with_child xs n u) k.done ∙ ap (with_child (first_turned n ts) n) (made ∙ ap turned here) ∙ next_turned n ts h ∙ ap (λ x. first_turned x ts) (sym i);
      said = ap (λ b. b || more) k.said ∙ ap (λ b. any_first_turns n ts || b) (said ∙ ap turns here) ∙ next_turns n ts h ∙ ap (λ x. any_first_turns x ts) (sym i);
    }

pub turned_all : (n : ℕ) (ts us : Trees) (changed : Bool) → count ts ≤ n → TurnedTo n ts us changed → (us ≡ all_turned ts) × (changed ≡ any_turns ts)
turned_all n ts us changed h k = (k.done ∙ all_first n ts h, k.said ∙ any_first n ts h)

-- the literal whose properties were written over in their place
pub written_over : (t : Tree) (ps : Trees) → is_object_literal t ≡ true → ps ≡ all_turned (properties t) → with_children t (with_child (children t) 0 (with_children (part t 0) ps)) ≡ written t
written_over t ps e made =
    let over : Tree → Tree = λ x. with_children x (with_child (children x) 0 (with_children (part x 0) ps)) in
    ap over (literal_is t e) ∙ ap object_literal made ∙ sym (ap (λ b. if b then object_literal (all_turned (properties t)) else t) e)
