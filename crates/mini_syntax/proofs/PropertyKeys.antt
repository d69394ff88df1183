-- The rewrite of keys of patterns and classes is that of the row, and where it writes nothing the row doesn't read the node.
use Rattle.std.proofs.Common.{◌≡◌, ℕ, zero, Bool, true, false, List, [], Option, Some, None, refl, sym, ap, subst, ◌∙◌, inl, inr}
use Rattle.std.specs.Prelude.{◌&&◌, ◌||◌, not, is_some, if◌then◌else◌, ℤ, pos}
use Rattle.std.specs.Fmt.{signed_decimal}
use Rattle.std.proofs.lemmas.Bool.{and_parts, le-leb, false≢true}
use Rattle.mini_model.specs.Texts.{is_identifier_name}
use Rattle.mini_model.specs.Numerals.{max_safe_integer, safe_number}
use Rattle.mini_model.proofs.Safe.{text_of_number, number_of_text}
use Rattle.mini_model.specs.declared.place.Position.{Position}
use Rattle.mini_model.specs.declared.place.Position.TheVariants.{Elsewhere}
use Rattle.mini_model.specs.declared.shape.Shape.TheVariants as shape
use Rattle.mini_model.specs.Tree.{Tree, node, none, ◌▸◌, shape_of, children}
use Rattle.mini_node.specs.Children.{part, number_of, with_child}
use Rattle.mini_node.specs.Kinds.{string}
use Rattle.mini_node.specs.Lends.{with_children}
use Rattle.mini_node.specs.Made.{string_is}
use Rattle.mini_rows.specs.Spellings.{numeral, text}
use Rattle.mini_rows.specs.KeyHolders.{Holder, a_binding, a_target, a_method, a_field, holding, Spelling, of_name, of_whole, IsSpelling, quoted, unquoted, Row52Held, Member, of_target, of_method, of_field, member_shape, in_brackets, PlainKey, a_word, a_count, plain_key, IsPlainKey, loses_brackets, Row52Bare, Row52Declared, Row53, HeldKeyRow}
use Rattle.mini_rows.proofs.KeysJoined.{held_keys_lighter}
use Rattle.mini_tree.specs.Rule.{Applied}
use Rattle.mini_tree.proofs.Reaching.{moves_once}
use Rattle.mini_syntax.specs.CompressAssignmentTargetProperty.{is_doubled, shorthand, compressed}
use Rattle.mini_syntax.specs.ConvertToDottedProperties as dotted
use Rattle.mini_syntax.specs.ConvertToDottedProperties.{is_name_text, as_name}
use Rattle.mini_syntax.specs.SubstituteObjectProperty.{is_literal_key, whole_of}
use Rattle.mini_syntax.specs.Forms.{is_inner, bracketed_key}
use Rattle.mini_syntax.specs.SubstituteBindingProperty.{declares_brackets, declared_bare}
use Rattle.mini_syntax.proofs.InnerKeys.{inner_is, literal_is}
use Rattle.mini_syntax.proofs.BindingKeys.{declared_row, declared_reads, declared_stays}
use Rattle.mini_syntax.proofs.ShorthandTargets.{doubled_row, doubled_reads, compressed_stays}
use Rattle.mini_syntax.specs.SubstitutePropertyKey.{is_holder, names_key, key_number, respelled_by, respelled, respells, with_key, spelled, is_spelled, is_bracketed, keeps, drops_brackets, bare_shape, bare, held_written, is_held_written, key_written, is_key_written, written, is_written, Gives, Rests, WrittenIsRow, UnwrittenRests, target_written, is_target_written}

-- ---- what the tests say

record Held (t : Tree) : Type 0 where
  holder : Holder
  shape : t ≡ holding holder (part t 0) (part t 1)

held_is : (t : Tree) → is_holder t ≡ true → Held t
held_is (node (shape.BindingProperty false false) [] zero (k ▸ v ▸ none)) e = record { holder = a_binding; shape = refl }
held_is (node (shape.AssignmentTargetPropertyProperty false) [] zero (k ▸ v ▸ none)) e = record { holder = a_target; shape = refl }
held_is (node (shape.MethodDefinition kind false is_static) [] zero (k ▸ v ▸ none)) e = record { holder = a_method kind is_static; shape = refl }
held_is (node (shape.PropertyDefinition false is_static) [] zero (k ▸ v ▸ none)) e = record { holder = a_field is_static; shape = refl }
held_is t e = absurd (false≢true e)

held : (h : Holder) (k v : Tree) → is_holder (holding h k v) ≡ true
held a_binding k v = refl
held a_target k v = refl
held (a_method kind is_static) k v = refl
held (a_field is_static) k v = refl

record Spelled (k l : Tree) : Type 0 where
  spelling : Spelling
  is_spelling : IsSpelling spelling
  read : k ≡ quoted spelling
  made : l ≡ unquoted spelling

some_is : {A : Type 0} (x y : A) → Some x ≡ Some y → x ≡ y
some_is x y e = cc e

name_spelled : (k : Tree) (o : Option (List ℕ)) → string k ≡ o → is_name_text o ≡ true → Spelled k (as_name k)
name_spelled k (Some s) h e = let is = string_is k s h in record { spelling = of_name s; is_spelling = e; read = is; made = ap as_name is }
name_spelled k None h e = absurd (false≢true e)

number_spelled : (k : Tree) (n : ℤ) → key_number k ≡ Some n → Spelled k (numeral n)
number_spelled k n e = texts (string k) refl e
  where
    whole : (s : List ℕ) → string k ≡ Some s → (o : Option ℤ) → safe_number s ≡ o → whole_of o ≡ Some n → Spelled k (numeral n)
    whole s i (Some (pos m)) j h =
        let (safe, spelled) = text_of_number s (pos m) j in
        record { spelling = of_whole m; is_spelling = safe; read = string_is k s i ∙ ap text spelled; made = sym (ap numeral (some_is (pos m) n h)) }
    whole s i o j h = absurd (cc h)

    texts : (o : Option (List ℕ)) → string k ≡ o → whole_of (dotted.number_of_text o) ≡ Some n → Spelled k (numeral n)
    texts (Some s) i h = whole s i (safe_number s) refl h
    texts None i h = absurd (cc h)

spelled_by : (k : Tree) (b : Bool) (o : Option ℤ) → names_key k ≡ b → key_number k ≡ o → b || is_some o ≡ true → Spelled k (respelled_by b o k)
spelled_by k true o h i e = name_spelled k (string k) refl h
spelled_by k false (Some n) h i e = number_spelled k n i
spelled_by k false None h i e = absurd (false≢true e)

key_spelled : (k : Tree) → respells k ≡ true → Spelled k (respelled k)
key_spelled k e = spelled_by k (names_key k) (key_number k) refl refl e

-- ---- what is written

spelled_held : (t : Tree) → is_holder t ≡ true → spelled t ≡ with_key t (respelled (part t 0))
spelled_held t e = ap (λ b. if b then with_key t (respelled (part t 0)) else t) e

pub spelled_row : (n : Tree) → is_spelled n ≡ true → Row52Held n (spelled n)
spelled_row n e =
    let (holds, spells) = and_parts (is_holder n) (respells (part n 0)) e in
    let h = held_is n holds in
    let s = key_spelled (part n 0) spells in
    record {
      holder = h.holder;
      spelling = s.spelling;
      value = part n 1;
      is_spelling = s.is_spelling;
      shape = h.shape ∙ ap (λ k. holding h.holder k (part n 1)) s.read;
      written = spelled_held n holds ∙ ap (λ t. with_key t (respelled (part n 0))) h.shape ∙ ap (λ k. holding h.holder k (part n 1)) s.made;
    }

-- ---- brackets that go

record Bracketed (t : Tree) : Type 0 where
  member : Member
  shape : t ≡ node (member_shape true member) [] 0 (part t 0 ▸ part t 1 ▸ none)

bracketed_is : (t : Tree) → is_bracketed t ≡ true → Bracketed t
bracketed_is (node (shape.AssignmentTargetPropertyProperty true) [] zero (k ▸ v ▸ none)) e = record { member = of_target; shape = refl }
bracketed_is (node (shape.MethodDefinition kind true is_static) [] zero (k ▸ v ▸ none)) e = record { member = of_method kind is_static; shape = refl }
bracketed_is (node (shape.PropertyDefinition true is_static) [] zero (k ▸ v ▸ none)) e = record { member = of_field is_static; shape = refl }
bracketed_is t e = absurd (false≢true e)

loses : (m : Member) (k : PlainKey) → not (keeps (member_shape true m) (shape_of (plain_key k))) ≡ loses_brackets m k
loses of_target (a_word s) = refl
loses of_target (a_count n) = refl
loses (of_method kind is_static) (a_word s) = refl
loses (of_method kind is_static) (a_count n) = refl
loses (of_field is_static) (a_word s) = refl
loses (of_field is_static) (a_count n) = refl

bare_shape_is : (m : Member) → bare_shape (member_shape true m) ≡ member_shape false m
bare_shape_is of_target = refl
bare_shape_is (of_method kind is_static) = refl
bare_shape_is (of_field is_static) = refl

pub bare_row : (n : Tree) → drops_brackets n ≡ true → Row52Bare n (bare n)
bare_row n e =
    let (bracketed, others) = and_parts (is_bracketed n) (is_inner (part n 0) && (is_literal_key false (bracketed_key n) && not (keeps (shape_of n) (shape_of (bracketed_key n))))) e in
    let (inner, rest) = and_parts (is_inner (part n 0)) (is_literal_key false (bracketed_key n) && not (keeps (shape_of n) (shape_of (bracketed_key n)))) others in
    let (literal, lost) = and_parts (is_literal_key false (bracketed_key n)) (not (keeps (shape_of n) (shape_of (bracketed_key n)))) rest in
    let b = bracketed_is n bracketed in
    let l = literal_is (bracketed_key n) literal in
    let i = number_of (part n 0) in
    record {
      member = b.member;
      number = i;
      key = l.key;
      value = part n 1;
      is_key = l.is_key;
      loses = sym (loses b.member l.key) ∙ sym (ap (λ h. not (keeps h (shape_of (plain_key l.key)))) (ap shape_of b.shape)) ∙ sym (ap (λ k. not (keeps (shape_of n) (shape_of k))) l.is) ∙ lost;
      shape = b.shape ∙ ap (λ k. node (member_shape true b.member) [] 0 (k ▸ part n 1 ▸ none)) (inner_is (part n 0) inner ∙ ap (λ k. node shape.InnerExpression [] i (k ▸ none)) l.is);
      written = ap (λ h. node (bare_shape h) [] 0 (bracketed_key n ▸ part n 1 ▸ none)) (ap shape_of b.shape) ∙ ap (λ h. node h [] 0 (bracketed_key n ▸ part n 1 ▸ none)) (bare_shape_is b.member) ∙ ap (λ k. node (member_shape false b.member) [] 0 (k ▸ part n 1 ▸ none)) l.is;
    }

dropped : (m : Member) (i : ℕ) (k : PlainKey) (v : Tree) → IsPlainKey k → loses_brackets m k ≡ true → drops_brackets (in_brackets m i (plain_key k) v) ≡ true
dropped of_target i (a_word s) v h l = refl
dropped of_target i (a_count n) v h l = ap (λ b. b && true) (le-leb n max_safe_integer h)
dropped (of_method kind is_static) i (a_word s) v h l = l
dropped (of_method kind is_static) i (a_count n) v h l = ap (λ b. b && true) (le-leb n max_safe_integer h)
dropped (of_field is_static) i (a_word s) v h l = l
dropped (of_field is_static) i (a_count n) v h l = ap (λ b. b && true) (le-leb n max_safe_integer h)

held_row : (n : Tree) → is_held_written n ≡ true → HeldKeyRow Elsewhere n (held_written n)
held_row n e = go (drops_brackets n) refl e
  where
    go : (b : Bool) → drops_brackets n ≡ b → b || is_spelled n ≡ true → HeldKeyRow Elsewhere n (held_written n)
    go true d h = inr (inl (subst (Row52Bare n) (sym (ap (λ b. if b then bare n else spelled n) d)) (bare_row n d)))
    go false d h = inl (subst (Row52Held n) (sym (ap (λ b. if b then bare n else spelled n) d)) (spelled_row n h))

key_row : (n : Tree) → is_key_written n ≡ true → HeldKeyRow Elsewhere n (key_written n)
key_row n e = go (declares_brackets n) refl e
  where
    go : (b : Bool) → declares_brackets n ≡ b → b || is_held_written n ≡ true → HeldKeyRow Elsewhere n (key_written n)
    go true d h = inr (inr (inl (subst (Row52Declared n) (sym (ap (λ b. if b then declared_bare n else held_written n) d)) (declared_row n d))))
    go false d h = subst (HeldKeyRow Elsewhere n) (sym (ap (λ b. if b then declared_bare n else held_written n) d)) (held_row n h)

pub written_is_row : WrittenIsRow
written_is_row n e = go (is_doubled n) refl e
  where
    go : (b : Bool) → is_doubled n ≡ b → b || is_key_written n ≡ true → HeldKeyRow Elsewhere n (written n)
    go true d h = inr (inr (inr (subst (Row53 n) (sym (ap (λ b. if b then (if b then shorthand n else n) else key_written n) d)) (doubled_row n d))))
    go false d h = subst (HeldKeyRow Elsewhere n) (sym (ap (λ b. if b then compressed n else key_written n) d)) (key_row n h)

-- what is made where no pattern loses brackets, and where one does
pub held_instead : (t u v : Tree) → false ≡ declares_brackets t → u ≡ declared_bare t → v ≡ held_written u → v ≡ key_written t
held_instead t u v d e f = f ∙ ap held_written (e ∙ declared_stays t (sym d)) ∙ sym (ap (λ b. if b then declared_bare t else held_written t) (sym d))

pub held_said : (t u : Tree) (b : Bool) → false ≡ declares_brackets t → u ≡ declared_bare t → b ≡ is_held_written u → b ≡ is_key_written t
held_said t u b d e f = f ∙ ap is_held_written (e ∙ declared_stays t (sym d)) ∙ sym (ap (λ c. c || is_held_written t) (sym d))

pub bared_instead : (t u : Tree) → true ≡ declares_brackets t → u ≡ declared_bare t → u ≡ key_written t
bared_instead t u d e = e ∙ sym (ap (λ b. if b then declared_bare t else held_written t) (sym d))

-- what is made where no shorthand is, and where one is
pub key_instead : (t u v : Tree) → false ≡ is_doubled t → u ≡ compressed t → v ≡ key_written u → v ≡ written t
key_instead t u v d e f = f ∙ ap key_written (e ∙ compressed_stays t (sym d)) ∙ sym (ap (λ b. if b then compressed t else key_written t) (sym d))

pub key_said : (t u : Tree) (b : Bool) → false ≡ is_doubled t → u ≡ compressed t → b ≡ is_key_written u → b ≡ is_written t
key_said t u b d e f = f ∙ ap is_key_written (e ∙ compressed_stays t (sym d)) ∙ sym (ap (λ c. c || is_key_written t) (sym d))

pub doubled_instead : (t u : Tree) → true ≡ is_doubled t → u ≡ compressed t → u ≡ written t
doubled_instead t u d e = e ∙ sym (ap (λ b. if b then compressed t else key_written t) (sym d))

pub target_instead : (t u v : Tree) → false ≡ is_doubled t → u ≡ compressed t → v ≡ held_written u → v ≡ target_written t
target_instead t u v d e f = f ∙ ap held_written (e ∙ compressed_stays t (sym d)) ∙ sym (ap (λ b. if b then compressed t else held_written t) (sym d))

pub target_said : (t u : Tree) (b : Bool) → false ≡ is_doubled t → u ≡ compressed t → b ≡ is_held_written u → b ≡ is_target_written t
target_said t u b d e f = f ∙ ap is_held_written (e ∙ compressed_stays t (sym d)) ∙ sym (ap (λ c. c || is_held_written t) (sym d))

pub shorthand_instead : (t u : Tree) → true ≡ is_doubled t → u ≡ compressed t → u ≡ target_written t
shorthand_instead t u d e = e ∙ sym (ap (λ b. if b then compressed t else held_written t) (sym d))

-- ---- what stays

or_true : (a : Bool) → a || true ≡ true
or_true true = refl
or_true false = refl

quoted_respells : (s : Spelling) → IsSpelling s → respells (quoted s) ≡ true
quoted_respells (of_name s) i = ap (λ b. b || is_some (key_number (text s))) i
quoted_respells (of_whole n) i =
    let s = signed_decimal (pos n) in
    ap (λ o. is_identifier_name s || is_some (whole_of o)) (number_of_text s (pos n) (i, refl)) ∙ or_true (is_identifier_name s)

pub held_reads : (n w : Tree) → Row52Held n w → is_spelled n ≡ true
held_reads n w r = ap is_spelled r.shape ∙ ap (λ b. b && respells (part (holding r.holder (quoted r.spelling) r.value) 0)) (held r.holder (quoted r.spelling) r.value) ∙ quoted_respells r.spelling r.is_spelling

still_by : (k : Tree) (b : Bool) (o : Option ℤ) → b || is_some o ≡ false → respelled_by b o k ≡ k
still_by k false None e = refl
still_by k false (Some n) e = absurd (cc e)
still_by k true o e = absurd (cc e)

pub bare_reads : (n w : Tree) → Row52Bare n w → drops_brackets n ≡ true
bare_reads n w r = ap drops_brackets r.shape ∙ dropped r.member r.number r.key r.value r.is_key r.loses

later_said : (a b : Bool) → b ≡ true → a || b ≡ true
later_said a b e = ap (λ c. a || c) e ∙ or_true a

key_read : (n : Tree) → is_key_written n ≡ true → is_written n ≡ true
key_read n e = later_said (is_doubled n) (is_key_written n) e

reads : (p : Position) (n w : Tree) → HeldKeyRow p n w → is_written n ≡ true
reads Elsewhere n w (inl r) = key_read n (later_said (declares_brackets n) (is_held_written n) (later_said (drops_brackets n) (is_spelled n) (held_reads n w r)))
reads Elsewhere n w (inr (inl r)) = key_read n (later_said (declares_brackets n) (is_held_written n) (ap (λ b. b || is_spelled n) (bare_reads n w r)))
reads Elsewhere n w (inr (inr (inl r))) = key_read n (ap (λ b. b || is_held_written n) (declared_reads n w r))
reads Elsewhere n w (inr (inr (inr r))) = ap (λ b. b || is_key_written n) (doubled_reads n w r)
reads p n w r = absurd r

rests : (p : Position) (n : Tree) → is_written n ≡ false → Rests p n
rests p n e w r = false≢true (sym e ∙ reads p n w r)

same_key : (t : Tree) → is_holder t ≡ true → respelled (part t 0) ≡ part t 0 → with_key t (respelled (part t 0)) ≡ t
same_key t h e = let x = held_is t h in ap (λ k. with_key t k) e ∙ ap (λ u. with_key u (part t 0)) x.shape ∙ sym x.shape

pub unspelled : (n : Tree) → is_spelled n ≡ false → spelled n ≡ n
unspelled n e = go (is_holder n) refl e
  where
    go : (b : Bool) → is_holder n ≡ b → b && respells (part n 0) ≡ false → spelled n ≡ n
    go true h k = spelled_held n h ∙ same_key n h (still_by (part n 0) (names_key (part n 0)) (key_number (part n 0)) k)
    go false h k = ap (λ b. if b then with_key n (respelled (part n 0)) else n) h

pub neither : (a b : Bool) → a || b ≡ false → (a ≡ false) × (b ≡ false)
neither true b e = absurd (false≢true (sym e))
neither false b e = (refl, e)

pub unwritten_rests : UnwrittenRests
unwritten_rests p n e =
    let (short, key) = neither (is_doubled n) (is_key_written n) e in
    let (declared, held) = neither (declares_brackets n) (is_held_written n) key in
    let (d, s) = neither (drops_brackets n) (is_spelled n) held in
    (ap (λ b. if b then compressed n else key_written n) short ∙ ap (λ b. if b then declared_bare n else held_written n) declared ∙ ap (λ b. if b then bare n else spelled n) d ∙ unspelled n s, rests p n e)

-- ---- the rule

pub applied : (t u : Tree) (b : Bool) → u ≡ written t → b ≡ is_written t → Applied Gives Rests Elsewhere t u b
applied t u b e f = subst (λ v. Applied Gives Rests Elsewhere t v b) (sym e) (subst (Applied Gives Rests Elsewhere t (written t)) (sym f) (go (is_written t) refl))
  where
    go : (c : Bool) → is_written t ≡ c → Applied Gives Rests Elsewhere t (written t) c
    go true h = let row = written_is_row t h in moves_once Gives Elsewhere t (written t) (record { row = row; lighter = held_keys_lighter Elsewhere t (written t) row })
    go false h = unwritten_rests Elsewhere t h

-- the key is written over in its place
pub written_over : (t k : Tree) → is_holder t ≡ true → k ≡ respelled (part t 0) → with_children t (with_child (children t) 0 k) ≡ spelled t
written_over t k h e =
    let x = held_is t h in
    ap (λ u. with_children u (with_child (children u) 0 k)) x.shape ∙ ap (λ l. holding x.holder l (part t 1)) e ∙ sym (ap (λ u. with_key u (respelled (part t 0))) x.shape) ∙ sym (spelled_held t h)
