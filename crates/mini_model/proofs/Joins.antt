-- Raw texts that are joined cook to what they cook to, joined.
use Rattle.std.proofs.Common.{◌≡◌, ℕ, ◌-◌, ◌==◌, inl, inr, Bool, true, false, cond, nat_lt, List, [], ◌∷◌, ◌++◌, Option, Some, None, length, take, map, codes, refl, sym, ap, subst, ◌∙◌, append_assoc, append-nil}
use Rattle.std.specs.Char.Escape.{encode_utf16}
use Rattle.std.specs.List.{concat}
use Rattle.std.proofs.lemmas.Bool.Decides.{eqb_tells}
use Rattle.mini_model.specs.Templates.{Place, Characters, Escape, Zero, Digits, Unicode, Brace, CodePoint, Step, Malformed, Gives, is_digit, is_line_end, with_digit, digit_step, brace_step, escape_step, character_step, step, may_end, before, then_rest, cooked_from, cooked}
use Rattle.mini_model.specs.Joined.{Ending, Backslash, Null, Dollar, Other, ending_in, ending_with, ending_from, ending_of, readied, with_part, with_parts, joined}
use Rattle.mini_model.proofs.Ends.{take-front, null_front}
use Rattle.mini_model.proofs.Raw.{before-nil, before-append}

-- what a place and an ending have in common: an open backslash, or `\0`
abbrev class : Place → Ending
class Characters = Other
class Escape = Backslash
class Zero = Null
class (Digits left value) = Other
class Unicode = Other
class Brace = Other
class (CodePoint value) = Other

abbrev merged : Ending → Ending
merged Backslash = Backslash
merged Null = Null
merged Dollar = Other
merged Other = Other

abbrev AgreesAfter : Step → Ending → Type 0
AgreesAfter Malformed ending = Unit {0}
AgreesAfter (Gives units place) ending = class place ≡ merged ending

both : (b : Bool) (s t : Step) (ending : Ending) → AgreesAfter s ending → AgreesAfter t ending → AgreesAfter (cond b s t) ending
both true s t ending first second = first
both false s t ending first second = second

merged-ending_in : (u : ℕ) → (u == 92) ≡ false → Other ≡ merged (ending_in u)
merged-ending_in u apart = elim (eqb_tells u 36) [ inl same ↦ rw (apart, same.0) refl | inr other ↦ rw (apart, other.0) refl ]

character_agrees : (u : ℕ) → AgreesAfter (character_step u) (ending_in u)
character_agrees u = elim (eqb_tells u 92) [
  | inl same ↦ rw same.0 refl
  | inr other ↦ elim (eqb_tells u 36) [ inl dollar ↦ rw (other.0, dollar.0) refl | inr rest ↦ rw (other.0, rest.0) refl ]
]

-- after a backslash, where no `0` comes
escape_rest : (digit line x u b t n v f r : Bool) (unit : ℕ)
    → AgreesAfter (cond digit Malformed (cond line (Gives [] Characters) (cond x (Gives [] (Digits 2 0)) (cond u (Gives [] Unicode)
    (cond b (Gives (8 ∷ []) Characters) (cond t (Gives (9 ∷ []) Characters) (cond n (Gives (10 ∷ []) Characters) (cond v (Gives (11 ∷ []) Characters)
    (cond f (Gives (12 ∷ []) Characters) (cond r (Gives (13 ∷ []) Characters) (Gives (unit ∷ []) Characters))))))))))) Other
escape_rest true line x u b t n v f r unit = tt
escape_rest false true x u b t n v f r unit = refl
escape_rest false false true u b t n v f r unit = refl
escape_rest false false false true b t n v f r unit = refl
escape_rest false false false false true t n v f r unit = refl
escape_rest false false false false false true n v f r unit = refl
escape_rest false false false false false false true v f r unit = refl
escape_rest false false false false false false false true f r unit = refl
escape_rest false false false false false false false false true r unit = refl
escape_rest false false false false false false false false false true unit = refl
escape_rest false false false false false false false false false false unit = refl

escape_agrees : (u : ℕ) → AgreesAfter (escape_step u) (ending_with Backslash u)
escape_agrees u = elim (eqb_tells u 48) [
  | inl same ↦ rw same.0 refl
  | inr other ↦ rw other.0 (escape_rest (is_digit u) (is_line_end u) (u == 120) (u == 117) (u == 98) (u == 116) (u == 110) (u == 118) (u == 102) (u == 114) u)
]

digit_agrees : (left : ℕ) (o : Option ℕ) (ending : Ending) → Other ≡ merged ending → AgreesAfter (digit_step left o) ending
digit_agrees left None ending is = tt
digit_agrees left (Some value) ending is = both (nat_lt 1 left) (Gives [] (Digits (left - 1) value)) (Gives (encode_utf16 value) Characters) ending is is

brace_agrees : (o : Option ℕ) (ending : Ending) → Other ≡ merged ending → AgreesAfter (brace_step o) ending
brace_agrees None ending is = tt
brace_agrees (Some value) ending is = is

-- a place where no backslash may come
in_digits : (f : ℕ → Step) → AgreesAfter (f 92) Backslash → ((u : ℕ) (ending : Ending) → Other ≡ merged ending → AgreesAfter (f u) ending)
    → (u : ℕ) → AgreesAfter (f u) (ending_in u)
in_digits f backslash rest u = elim (eqb_tells u 92) [
  | inl same ↦ let P : ℕ → Type 0 = λ v. AgreesAfter (f v) (ending_in v) in subst P (sym same.1) backslash
  | inr other ↦ rest u (ending_in u) (merged-ending_in u other.0)
]

ending_with-in : (ending : Ending) (u : ℕ) → (merged ending ≡ Backslash → ⊥) → ending_with ending u ≡ ending_in u
ending_with-in Backslash u apart = absurd (apart refl)
ending_with-in Null u apart = refl
ending_with-in Dollar u apart = refl
ending_with-in Other u apart = refl

from_merged-backslash : (ending : Ending) → Backslash ≡ merged ending → Backslash ≡ ending
from_merged-backslash Backslash is = refl
from_merged-backslash Null is = cc
from_merged-backslash Dollar is = cc
from_merged-backslash Other is = cc

from_merged-null : (ending : Ending) → Null ≡ merged ending → ending ≡ Null
from_merged-null Backslash is = cc
from_merged-null Null is = refl
from_merged-null Dollar is = cc
from_merged-null Other is = cc

agrees_in : (s : Step) (ending : Ending) (u : ℕ) → (merged ending ≡ Backslash → ⊥) → AgreesAfter s (ending_in u) → AgreesAfter s (ending_with ending u)
agrees_in s ending u apart agrees = let P : Ending → Type 0 = λ e. AgreesAfter s e in subst P (sym (ending_with-in ending u apart)) agrees

step_agrees : (place : Place) (ending : Ending) (u : ℕ) → class place ≡ merged ending → AgreesAfter (step place u) (ending_with ending u)
step_agrees Characters ending u is = agrees_in _ ending u (λ b. cc) (character_agrees u)
step_agrees Escape ending u is = let P : Ending → Type 0 = λ e. AgreesAfter (escape_step u) (ending_with e u) in subst P (from_merged-backslash ending is) (escape_agrees u)
step_agrees Zero ending u is = agrees_in _ ending u (λ b. cc) (both (is_digit u) Malformed (character_step u) (ending_in u) tt (character_agrees u))
step_agrees (Digits left value) ending u is =
    agrees_in _ ending u (λ b. cc) (in_digits (step (Digits left value)) tt (λ v e other. digit_agrees left (with_digit value v) e other) u)
step_agrees Unicode ending u is =
    agrees_in _ ending u (λ b. cc) (in_digits (step Unicode) tt (λ v e other. both (v == 123) (Gives [] Brace) (digit_step 4 (with_digit 0 v)) e other (digit_agrees 4 (with_digit 0 v) e other)) u)
step_agrees Brace ending u is =
    agrees_in _ ending u (λ b. cc) (in_digits (step Brace) tt (λ v e other. brace_agrees (with_digit 0 v) e other) u)
step_agrees (CodePoint value) ending u is =
    agrees_in _ ending u (λ b. cc) (in_digits (step (CodePoint value)) tt (λ v e other. both (v == 125) (Gives (encode_utf16 value) Characters) (brace_step (with_digit value v)) e other (brace_agrees (with_digit value v) e other)) u)

-- the front of a raw text, read from a place: where the reader stands behind it, and what it gave
record Reads (place : Place) (ending : Ending) (front : List ℕ) : Type 0 where
  behind : Place
  given : List ℕ
  agrees : class behind ≡ merged (ending_from ending front)
  reads : (rest : List ℕ) → cooked_from place (front ++ rest) ≡ before given (cooked_from behind rest)

before_some : (units : List ℕ) (o : Option (List ℕ)) (text : List ℕ) → before units o ≡ Some text → (rest : List ℕ) × (o ≡ Some rest)
before_some units None text is = cc
before_some units (Some rest) text is = (rest, refl)

front_reads_step : (s : Step) (u : ℕ) (us rest : List ℕ) (place : Place) (ending : Ending) (text : List ℕ) → step place u ≡ s
    → AgreesAfter s (ending_with ending u) → then_rest s (λ next. cooked_from next (us ++ rest)) ≡ Some text
    → ((next : Place) (after : Ending) (more : List ℕ) → class next ≡ merged after → cooked_from next (us ++ rest) ≡ Some more → Reads next after us)
    → Reads place ending (u ∷ us)
front_reads_step Malformed u us rest place ending text s_is agrees is more = cc
front_reads_step (Gives units next) u us rest place ending text s_is agrees is more =
    let some = before_some units _ text is in
    let r = more next (ending_with ending u) some.0 agrees some.1 in
    record {
      behind = r.behind;
      given = units ++ r.given;
      agrees = r.agrees;
      reads = λ tail.
          ap (λ s. then_rest s (λ q. cooked_from q (us ++ tail))) s_is ∙ ap (before units) (r.reads tail) ∙ sym (before-append units r.given _);
    }

front_reads : (front rest : List ℕ) (place : Place) (ending : Ending) (text : List ℕ) → class place ≡ merged ending
    → cooked_from place (front ++ rest) ≡ Some text → Reads place ending front
front_reads [] rest place ending text agrees is = record { behind = place; given = []; agrees = agrees; reads = λ tail. sym (before-nil _) }
front_reads (u ∷ us) rest place ending text agrees is =
    front_reads_step (step place u) u us rest place ending text refl (step_agrees place ending u agrees) is
    (λ next after more a i. front_reads us rest next after more a i)

-- where a well-formed raw text ends
ended : (place : Place) (given text : List ℕ) → before given (cooked_from place []) ≡ Some text → (may_end place ≡ true) × (given ≡ text)
ended Characters given text is = (refl, sym (append-nil given) ∙ from_some _ _ is)
  where
    from_some : (a b : List ℕ) → Some a ≡ Some b → a ≡ b
    from_some a b same = cc
ended Zero given text is = (refl, sym (append-nil given) ∙ from_some _ _ is)
  where
    from_some : (a b : List ℕ) → Some a ≡ Some b → a ≡ b
    from_some a b same = cc
ended Escape given text is = cc
ended (Digits left value) given text is = cc
ended Unicode given text is = cc
ended Brace given text is = cc
ended (CodePoint value) given text is = cc

anew : (place : Place) (u : ℕ) (us : List ℕ) → may_end place ≡ true → (Null ≡ class place → is_digit u ≡ false)
    → cooked_from place (u ∷ us) ≡ cooked (u ∷ us)
anew Characters u us may no_digit = refl
anew Zero u us may no_digit = rw (no_digit refl) refl
anew Escape u us may no_digit = cc
anew (Digits left value) u us may no_digit = cc
anew Unicode u us may no_digit = cc
anew Brace u us may no_digit = cc
anew (CodePoint value) u us may no_digit = cc

-- raw texts side by side
side_by_side : (raw : List ℕ) (u : ℕ) (us text more : List ℕ) → cooked raw ≡ Some text → cooked (u ∷ us) ≡ Some more
    → (ending_of raw ≡ Null → is_digit u ≡ false) → cooked (raw ++ u ∷ us) ≡ Some (text ++ more)
side_by_side raw u us text more raw_is part_is no_digit =
    let r = front_reads raw [] Characters Other text refl (ap cooked (append-nil raw) ∙ raw_is) in
    let end = ended r.behind r.given text (sym (r.reads []) ∙ ap cooked (append-nil raw) ∙ raw_is) in
    r.reads (u ∷ us)
    ∙ ap (before r.given) (anew r.behind u us end.0 (λ null. no_digit (from_merged-null (ending_of raw) (null ∙ r.agrees))) ∙ part_is)
    ∙ ap (λ t. Some (t ++ more)) end.1

from_class-backslash : (place : Place) → class place ≡ Backslash → place ≡ Escape
from_class-backslash Characters is = cc
from_class-backslash Escape is = refl
from_class-backslash Zero is = cc
from_class-backslash (Digits left value) is = cc
from_class-backslash Unicode is = cc
from_class-backslash Brace is = cc
from_class-backslash (CodePoint value) is = cc

-- `\x00` in place of `\0`
null_cooks : (raw : List ℕ) (u : ℕ) (us text more : List ℕ) → ending_of raw ≡ Null → cooked raw ≡ Some text → cooked (u ∷ us) ≡ Some more
    → cooked ((take (length raw - 1) raw ++ codes "x00") ++ u ∷ us) ≡ Some (text ++ more)
null_cooks raw u us text more null raw_is part_is =
    let f = null_front raw null in
    let r = front_reads f.0 (48 ∷ []) Characters Other text refl (ap cooked (sym f.1.0) ∙ raw_is) in
    let open_is : r.behind ≡ Escape = from_class-backslash r.behind (r.agrees ∙ ap merged f.1.1) in
    let zero_is : Some (r.given ++ 0 ∷ []) ≡ Some text =
    ap (λ q. before r.given (cooked_from q (48 ∷ []))) (sym open_is) ∙ sym (r.reads (48 ∷ [])) ∙ ap cooked (sym f.1.0) ∙ raw_is in
    let text_is : text ≡ r.given ++ 0 ∷ [] = cc in
    ap (λ front. cooked ((front ++ codes "x00") ++ u ∷ us)) (ap (λ l. take (length l - 1) l) f.1.0 ∙ take-front f.0 48)
    ∙ ap cooked (append_assoc f.0 (codes "x00") (u ∷ us))
    ∙ r.reads (codes "x00" ++ u ∷ us)
    ∙ ap (λ q. before r.given (cooked_from q (codes "x00" ++ u ∷ us))) open_is
    ∙ ap (λ o. before r.given (before [] (before [] (before (0 ∷ []) o)))) part_is
    ∙ ap Some (sym (append_assoc r.given (0 ∷ []) more))
    ∙ ap (λ t. Some (t ++ more)) (sym text_is)

readied_cooks : (ending : Ending) (raw : List ℕ) (u : ℕ) (us text more : List ℕ) → ending_of raw ≡ ending → cooked raw ≡ Some text
    → cooked (u ∷ us) ≡ Some more → cooked (readied ending raw u ++ u ∷ us) ≡ Some (text ++ more)
readied_cooks Backslash raw u us text more ends raw_is part_is = side_by_side raw u us text more raw_is part_is (λ null. cc)
readied_cooks Other raw u us text more ends raw_is part_is = side_by_side raw u us text more raw_is part_is (λ null. cc)
readied_cooks Dollar raw u us text more ends raw_is part_is = elim (eqb_tells u 123) [
  | inl same ↦
      let brace : cooked (92 ∷ u ∷ us) ≡ Some more =
      ap (λ v. cooked (92 ∷ v ∷ us)) same.1 ∙ before-nil _ ∙ ap (λ v. cooked (v ∷ us)) (sym same.1) ∙ part_is in
      rw (same.0, append_assoc) (side_by_side raw 92 (u ∷ us) text more raw_is brace (λ null. refl))
  | inr other ↦ rw other.0 (side_by_side raw u us text more raw_is part_is (λ null. cc))
]
readied_cooks Null raw u us text more ends raw_is part_is = before_unit (is_digit u) refl
  where
    before_unit : (b : Bool) → is_digit u ≡ b → cooked (cond b (take (length raw - 1) raw ++ codes "x00") raw ++ u ∷ us) ≡ Some (text ++ more)
    before_unit true digit = null_cooks raw u us text more ends raw_is part_is
    before_unit false no_digit = side_by_side raw u us text more raw_is part_is (λ null. no_digit)

part_cooks : (raw part text more : List ℕ) → cooked raw ≡ Some text → cooked part ≡ Some more → cooked (with_part raw part) ≡ Some (text ++ more)
part_cooks raw [] text more raw_is part_is = let nil : more ≡ [] = cc in raw_is ∙ ap Some (sym (ap (λ m. text ++ m) nil ∙ append-nil text))
part_cooks raw (u ∷ us) text more raw_is part_is = readied_cooks (ending_of raw) raw u us text more refl raw_is part_is

parts_cook : (parts texts : List (List ℕ)) (raw text : List ℕ) → cooked raw ≡ Some text → map cooked parts ≡ map Some texts
    → cooked (with_parts raw parts) ≡ Some (text ++ concat texts)
parts_cook [] [] raw text raw_is parts_are = raw_is ∙ ap Some (sym (append-nil text))
parts_cook [] (t ∷ ts) raw text raw_is parts_are = cc
parts_cook (p ∷ ps) [] raw text raw_is parts_are = cc
parts_cook (p ∷ ps) (t ∷ ts) raw text raw_is parts_are =
    let first : cooked p ≡ Some t = cc in
    let rest : map cooked ps ≡ map Some ts = cc in
    parts_cook ps ts (with_part raw p) (text ++ t) (part_cooks raw p text t raw_is first) rest ∙ ap Some (append_assoc text t (concat ts))

-- the join of raw texts that cook
pub joined_cooks : (parts texts : List (List ℕ)) → map cooked parts ≡ map Some texts → cooked (joined parts) ≡ Some (concat texts)
joined_cooks parts texts parts_are = parts_cook parts texts [] [] refl parts_are
