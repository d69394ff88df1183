-- What a row on templates writes means the same.
use Rattle.std.proofs.Common.{◌≡◌, ℕ, zero, suc, inl, inr, true≢false, ◌+◌, arith, List, [], ◌∷◌, ◌++◌, Option, Some, None, length, append_assoc, append-nil, refl, sym, ap, subst, ◌∙◌}
use Rattle.std.specs.Prelude.{◌||◌, Bool, true, false, is_some, codes}
use Rattle.std.specs.Fmt.{signed_decimal}
use Rattle.mini_model.specs.declared.operator.BinaryOperator.TheVariants.{Addition}
use Rattle.mini_model.specs.declared.place.Position.{Position}
use Rattle.mini_model.specs.declared.place.Position.TheVariants.{Expr}
use Rattle.mini_model.specs.declared.seat.Seat.{Seat}
use Rattle.mini_model.specs.Paths.{append}
use Rattle.mini_model.specs.Tree.{Tree, Trees, none, ◌▸◌, count}
use Rattle.mini_node.specs.Children.{part}
use Rattle.mini_laws.specs.Value.{Value, Undefined, Null, Boolean, Number, String, Symbol, Object}
use Rattle.mini_laws.specs.State.{State, Completion, ok, Environment}
use Rattle.mini_laws.specs.Command.{run}
use Rattle.mini_laws.specs.Conversion.{to_text, text_of_boolean}
use Rattle.mini_laws.specs.Demand.{Val, As}
use Rattle.mini_laws.specs.Expressions.{operate_by}
use Rattle.mini_laws.specs.Naming.{summary}
use Rattle.mini_laws.specs.Rows.{SameAt}
use Rattle.mini_laws.specs.Rewritten.{MeansSame}
use Rattle.mini_terms.specs.declared.kinds.Kind.{Kind}
use Rattle.mini_terms.specs.declared.kinds.Kind.TheVariants.{Undefined as IsUndefined, Null as IsNull, Boolean as IsBoolean, Number as IsNumber, String as IsString}
use Rattle.mini_terms.specs.Kind.{is_primitive, kind, OfKind}
use Rattle.mini_terms.specs.Reading.{stands}
use Rattle.mini_terms.specs.Sound.{Gives}
use Rattle.mini_terms.proofs.Dropping.{after_cong}
use Rattle.mini_terms.proofs.KindTable.{kind_sound}
use Rattle.mini_terms.specs.Calculated.{operand_value}
use Rattle.mini_terms.specs.Const.{made, text_of}
use Rattle.mini_node.specs.Walks.{append_none}
use Rattle.mini_rows.specs.Spellings.{binary}
use Rattle.mini_rows.specs.Templates.{Piece, piece, pieces, template, pair, spelled, told, Row18, Row5, Row6, TemplateRow, TemplateContracts}
use Rattle.mini_rows.proofs.ConstantRuns.{operand_done}
use Rattle.mini_rows.proofs.ChoiceRuns.{value, sides, binary_names, binary_value}
use Rattle.mini_rows.proofs.OperandMeaning.{added_twice}
use Rattle.mini_rows.proofs.SequenceMeaning.{same_value}
use Rattle.mini_rows.proofs.SpellAlike.{SameTree}
use Rattle.mini_rows.proofs.SpellMeaning.{tree_same, same_by}
use Rattle.mini_rows.proofs.TemplateRuns.{next, next_cong, next_assoc, next_ok, text_made, known_text, between, more, put_before, text_before, nothing_between, cookeds, count_append, template_value, in_a_row}

pub nothing : {A : Type 0} {a : A} {B : Type 0} → None ≡ Some a → B
nothing e = cc e

-- ---- the text of what is calculated

abbrev text_in : Option (List ℕ) → List ℕ
text_in (Some t) = t
text_in None = []

-- an expression whose value has this text
pub record Told (p : Tree) (t : List ℕ) : Type 0 where
  pub its_value : Value
  pub is : operand_value p ≡ Some its_value
  pub reads : made (to_text its_value) ≡ Some t

pub told_is : (p : Tree) (t : List ℕ) → told p ≡ Some t → Told p t
told_is p t k = go (operand_value p) refl k
  where
    go : (o : Option Value) → operand_value p ≡ o → text_of o ≡ Some t → Told p t
    go (Some v) h k = record { its_value = v; is = h; reads = k }
    go None h k = nothing k

-- what `+` does with two values
abbrev ends_with : Environment → Tree → Tree → Value → Value → State → Completion Value
ends_with e a b v u y = run {q = λ i. As Val} e (binary_names Addition a b) (sides e a b) (operate_by Addition v u) y

-- ---- 18

module _ (e : Environment) where
  -- the text of the part stands before the text behind it
  part_spelled : (p : Tree) (m : List ℕ) → told p ≡ Some m → (q : List ℕ) (cs : List (List ℕ)) (ts : Trees) (s : State) → between e ([] ∷ (q ∷ cs)) (p ▸ ts) s ≡ between e ((m ++ q) ∷ cs) ts s
  part_spelled p m k q cs ts s =
      let t : Told p m = told_is p m k in
      more e [] (q ∷ cs) p ts s
      ∙ ap (λ c. next c (λ v z. next (text_made e v z) (λ x y. next (between e (q ∷ cs) ts y) (λ r u. ok (x ++ r) u)))) (operand_done e p t.its_value t.is s)
      ∙ next_ok t.its_value s _
      ∙ ap (λ c. next c (λ x y. next (between e (q ∷ cs) ts y) (λ r u. ok (x ++ r) u))) (known_text e t.its_value m t.reads s)
      ∙ next_ok m s _
      ∙ sym (text_before e m q cs ts s)

  module _ (before : List Piece) (p q : Piece) (after : List Piece) (earlier : Trees) (a : Tree) (later : Trees) (m : List ℕ) (k : told a ≡ Some m) (starts : length before ≡ count earlier) where
    abbrev rest : List (List ℕ)
    rest = cookeds after

    -- what is said up to the part, and then what is behind it
    abbrev Split : State → Completion (List ℕ)
    Split s = next (between e (cookeds before ++ (p.cooked ∷ [])) earlier s) (λ x z. put_before e x (between e ((m ++ q.cooked) ∷ rest) later z))

    read_split : (s : State) → between e (cookeds before ++ (p.cooked ∷ (q.cooked ∷ rest))) (append earlier (a ▸ later)) s ≡ Split s
    read_split s =
        ap (λ c. between e (cookeds before ++ (c ∷ (q.cooked ∷ rest))) (append earlier (a ▸ later)) s) (sym (append-nil p.cooked))
        ∙ in_a_row e p.cooked [] (q.cooked ∷ rest) (a ▸ later) before earlier starts s
        ∙ next_cong (between e (cookeds before ++ (p.cooked ∷ [])) earlier s) _ _ (λ x z. ap (put_before e x) (part_spelled a m k q.cooked rest later z))

    written_split : (s : State) → between e (cookeds before ++ (((p.cooked ++ m) ++ q.cooked) ∷ rest)) (append earlier later) s ≡ Split s
    written_split s =
        ap (λ c. between e (cookeds before ++ (c ∷ rest)) (append earlier later) s) (append_assoc p.cooked m q.cooked)
        ∙ in_a_row e p.cooked (m ++ q.cooked) rest later before earlier starts s

    module _ (ends : length after ≡ count later) where
      abbrev read : Tree
      read = template (append (pieces before) (piece p ▸ (piece q ▸ pieces after))) (append earlier (a ▸ later))

      abbrev put : Tree
      put = template (append (pieces before) (piece (pair (pair p (spelled m)) q) ▸ pieces after)) (append earlier later)

      inlined_value : (s : State) → value e read s ≡ value e put s
      inlined_value s =
          let many : length before + suc (suc (length after)) ≡ suc (count (append earlier (a ▸ later))) = let counts = count_append earlier (a ▸ later) in omega (arith, starts, ends, counts) in
          let fewer : length before + suc (length after) ≡ suc (count (append earlier later)) = let counts = count_append earlier later in omega (arith, starts, ends, counts) in
          template_value e before (p ∷ (q ∷ after)) (append earlier (a ▸ later)) many s
          ∙ ap (λ c. next c (λ x z. ok (String x) z)) (read_split s ∙ sym (written_split s))
          ∙ sym (template_value e before (pair (pair p (spelled m)) q ∷ after) (append earlier later) fewer s)

inlined_same : (n w : Tree) → Row18 n w → SameTree n w
inlined_same n w r = same_by n w _ _ r.shape r.written (same_value _ _ refl refl refl (λ e s. inlined_value e r.before r.first r.second r.after r.earlier r.part r.later r.text r.known r.starts r.ends s))

-- ---- 5

module _ (e : Environment) where
  -- what `+` does with a text and what writes a value out
  pub with_tail : (a b : Tree) (x : List ℕ) (v : Value) (t : List ℕ) → made (to_text v) ≡ Some t → (z : State) → ends_with e a b (String x) v z ≡ ok (String (x ++ t)) z
  with_tail a b x Undefined t k z = ap (λ o. ok (String (x ++ text_in o)) z) k
  with_tail a b x Null t k z = ap (λ o. ok (String (x ++ text_in o)) z) k
  with_tail a b x (Boolean c) t k z = ap (λ o. ok (String (x ++ text_in o)) z) k
  with_tail a b x (Number n) t k z = ap (λ o. ok (String (x ++ text_in o)) z) k
  with_tail a b x (String s) t k z = ap (λ o. ok (String (x ++ text_in o)) z) k
  with_tail a b x (Symbol n) t k z = nothing k
  with_tail a b x (Object n f) t k z = nothing k

  with_head : (a b : Tree) (v : Value) (t x : List ℕ) → made (to_text v) ≡ Some t → (z : State) → ends_with e a b v (String x) z ≡ ok (String (t ++ x)) z
  with_head a b Undefined t x k z = ap (λ o. ok (String (text_in o ++ x)) z) k
  with_head a b Null t x k z = ap (λ o. ok (String (text_in o ++ x)) z) k
  with_head a b (Boolean c) t x k z = ap (λ o. ok (String (text_in o ++ x)) z) k
  with_head a b (Number n) t x k z = ap (λ o. ok (String (text_in o ++ x)) z) k
  with_head a b (String s) t x k z = ap (λ o. ok (String (text_in o ++ x)) z) k
  with_head a b (Symbol n) t x k z = nothing k
  with_head a b (Object n f) t x k z = nothing k

  abbrev as_string : Completion (List ℕ) → Completion Value
  as_string y = next y (λ x z. ok (String x) z)

  after_string : {A : Type 0} (y : Completion (List ℕ)) (f : Value → State → Completion A) → next (as_string y) f ≡ next y (λ x z. f (String x) z)
  after_string y f = next_assoc y (λ x z. ok (String x) z) f ∙ next_cong y _ _ (λ x z. next_ok (String x) z f)

  -- of two texts in a row
  both_strings : (y : Completion (List ℕ)) (g : State → Completion (List ℕ)) → as_string (next y (λ x z. put_before e x (g z))) ≡ next y (λ x z. next (g z) (λ r u. ok (String (x ++ r)) u))
  both_strings y g = next_assoc y _ _ ∙ next_cong y _ _ (λ x z. next_assoc (g z) _ _ ∙ next_cong (g z) _ _ (λ r u. next_ok (x ++ r) u _))

  joined_value : (before : List Piece) (p : Piece) (earlier : Trees) (q : Piece) (after : List Piece) (later : Trees) → length before ≡ count earlier → length after ≡ count later → (s : State) → value e (binary Addition (template (append (pieces before) (piece p ▸ none)) earlier) (template (piece q ▸ pieces after) later)) s ≡ value e (template (append (pieces before) (piece (pair p q) ▸ pieces after)) (append earlier later)) s
  joined_value before p earlier q after later h k s =
      let a : Tree = template (append (pieces before) (piece p ▸ none)) earlier in
      let b : Tree = template (piece q ▸ pieces after) later in
      let left : length before + suc zero ≡ suc (count earlier) = omega (arith, h) in
      let right : zero + suc (length after) ≡ suc (count later) = omega (arith, k) in
      let whole : length before + suc (length after) ≡ suc (count (append earlier later)) = let counts = count_append earlier later in omega (arith, h, k, counts) in
      binary_value e Addition a b s
      ∙ ap (λ c. next c (λ v z. next (value e b z) (λ u y. ends_with e a b v u y))) (template_value e before (p ∷ []) earlier left s)
      ∙ after_string (between e (cookeds before ++ (p.cooked ∷ [])) earlier s) _
      ∙ next_cong (between e (cookeds before ++ (p.cooked ∷ [])) earlier s) _ _ (λ x z. ap (λ c. next c (λ u y. ends_with e a b (String x) u y)) (template_value e [] (q ∷ after) later right z) ∙ after_string (between e (q.cooked ∷ cookeds after) later z) _)
      ∙ sym (template_value e before (pair p q ∷ after) (append earlier later) whole s
      ∙ ap as_string (in_a_row e p.cooked q.cooked (cookeds after) later before earlier h s)
      ∙ both_strings (between e (cookeds before ++ (p.cooked ∷ [])) earlier s) (λ z. between e (q.cooked ∷ cookeds after) later z))

  tail_value : (before : List Piece) (p : Piece) (earlier : Trees) (t : Tree) (m : List ℕ) → told t ≡ Some m → length before ≡ count earlier → (s : State) → value e (binary Addition (template (append (pieces before) (piece p ▸ none)) earlier) t) s ≡ value e (template (append (pieces before) (piece (pair p (spelled m)) ▸ none)) earlier) s
  tail_value before p earlier t m k h s =
      let a : Tree = template (append (pieces before) (piece p ▸ none)) earlier in
      let is : Told t m = told_is t m k in
      let left : length before + suc zero ≡ suc (count earlier) = omega (arith, h) in
      binary_value e Addition a t s
      ∙ ap (λ c. next c (λ v z. next (value e t z) (λ u y. ends_with e a t v u y))) (template_value e before (p ∷ []) earlier left s)
      ∙ after_string (between e (cookeds before ++ (p.cooked ∷ [])) earlier s) _
      ∙ next_cong (between e (cookeds before ++ (p.cooked ∷ [])) earlier s) _ _ (λ x z. ap (λ c. next c (λ u y. ends_with e a t (String x) u y)) (operand_done e t is.its_value is.is z) ∙ next_ok is.its_value z _ ∙ with_tail a t x is.its_value m is.reads z)
      ∙ sym (template_value e before (pair p (spelled m) ∷ []) earlier left s
      ∙ ap (λ ts. as_string (between e (cookeds before ++ ((p.cooked ++ m) ∷ [])) ts s)) (sym (append_none earlier))
      ∙ ap as_string (in_a_row e p.cooked m [] none before earlier h s)
      ∙ both_strings (between e (cookeds before ++ (p.cooked ∷ [])) earlier s) (λ z. between e (m ∷ []) none z)
      ∙ next_cong (between e (cookeds before ++ (p.cooked ∷ [])) earlier s) _ _ (λ x z. ap (λ c. next c (λ r u. ok (String (x ++ r)) u)) (nothing_between e (m ∷ []) z) ∙ next_ok m z _))

  head_value : (t : Tree) (m : List ℕ) → told t ≡ Some m → (q : Piece) (after : List Piece) (later : Trees) → length after ≡ count later → (s : State) → value e (binary Addition t (template (piece q ▸ pieces after) later)) s ≡ value e (template (piece (pair (spelled m) q) ▸ pieces after) later) s
  head_value t m k q after later h s =
      let b : Tree = template (piece q ▸ pieces after) later in
      let is : Told t m = told_is t m k in
      let right : zero + suc (length after) ≡ suc (count later) = omega (arith, h) in
      binary_value e Addition t b s
      ∙ ap (λ c. next c (λ v z. next (value e b z) (λ u y. ends_with e t b v u y))) (operand_done e t is.its_value is.is s)
      ∙ next_ok is.its_value s _
      ∙ ap (λ c. next c (λ u y. ends_with e t b is.its_value u y)) (template_value e [] (q ∷ after) later right s)
      ∙ after_string (between e (q.cooked ∷ cookeds after) later s) _
      ∙ next_cong (between e (q.cooked ∷ cookeds after) later s) _ _ (λ x z. with_head t b is.its_value m x is.reads z)
      ∙ sym (template_value e [] (pair (spelled m) q ∷ after) later right s
      ∙ ap as_string (text_before e m q.cooked (cookeds after) later s)
      ∙ next_assoc (between e (q.cooked ∷ cookeds after) later s) _ _
      ∙ next_cong (between e (q.cooked ∷ cookeds after) later s) _ _ (λ r u. next_ok (m ++ r) u _))

  sum_value : (n w : Tree) → Row5 n w → (s : State) → value e n s ≡ value e w s
  sum_value n w (inl r) s = ap (λ t. value e t s) r.shape ∙ joined_value r.before r.last r.earlier r.first r.after r.later r.starts r.ends s ∙ sym (ap (λ t. value e t s) r.written)
  sum_value n w (inr (inl r)) s = ap (λ t. value e t s) r.shape ∙ tail_value r.before r.last r.earlier r.tail r.text r.known r.starts s ∙ sym (ap (λ t. value e t s) r.written)
  sum_value n w (inr (inr r)) s = ap (λ t. value e t s) r.shape ∙ head_value r.head r.text r.known r.first r.after r.later r.ends s ∙ sym (ap (λ t. value e t s) r.written)

  -- ---- 6

  -- the text of a value that is primitive
  primitive_text : (k : Kind) (v : Value) → is_primitive k ≡ true → OfKind k v → (t : List ℕ) × (made (to_text v) ≡ Some t)
  primitive_text IsUndefined Undefined h p = (codes "undefined", refl)
  primitive_text IsNull Null h p = (codes "null", refl)
  primitive_text IsBoolean (Boolean b) h p = (text_of_boolean b, refl)
  primitive_text IsNumber (Number n) h p = (signed_decimal n, refl)
  primitive_text IsString (String s) h p = (s, refl)
  primitive_text IsUndefined v h p = absurd p
  primitive_text IsNull v h p = absurd p
  primitive_text IsBoolean v h p = absurd p
  primitive_text IsNumber v h p = absurd p
  primitive_text IsString v h p = absurd p
  primitive_text k v h p = absurd (true≢false (sym h))

  module _ (a t u w : Tree) (known : kind t ≡ IsString) (h : (s : State) → value e (binary Addition t u) s ≡ value e w s) where
    -- what follows the value of the first operand
    abbrev First : Value → State → Completion Value
    First v z = next (next (value e t z) (λ x y. ends_with e a t v x y)) (λ p y. next (value e u y) (λ q k. ends_with e (binary Addition a t) u p q k))

    abbrev Second : Value → State → Completion Value
    Second v z = next (next (value e t z) (λ x y. next (value e u y) (λ q k. ends_with e t u x q k))) (λ r l. ends_with e a w v r l)

    opened : (s : State) → value e (binary Addition (binary Addition a t) u) s ≡ next (value e a s) First
    opened s =
        binary_value e Addition (binary Addition a t) u s
        ∙ ap (λ c. next c (λ p y. next (value e u y) (λ q k. ends_with e (binary Addition a t) u p q k))) (binary_value e Addition a t s)
        ∙ next_assoc (value e a s) _ _

    written_opened : (s : State) → value e (binary Addition a w) s ≡ next (value e a s) Second
    written_opened s =
        binary_value e Addition a w s
        ∙ next_cong (value e a s) _ _ (λ v z. ap (λ c. next c (λ r l. ends_with e a w v r l)) (sym (h z) ∙ binary_value e Addition t u z))

    -- by the text of the inner operand
    by_text : (v : Value) → ((x : List ℕ) (y : State) → next (ends_with e a t v (String x) y) (λ p y. next (value e u y) (λ q k. ends_with e (binary Addition a t) u p q k)) ≡ next (next (value e u y) (λ q k. ends_with e t u (String x) q k)) (λ r l. ends_with e a w v r l)) → (z : State) → First v z ≡ Second v z
    by_text v f z =
        next_assoc (value e t z) _ _
        ∙ after_cong (OfKind IsString) (value e t z) _ _ (subst (λ j. Gives (OfKind j) (value e t z)) known (kind_sound t e z)) (λ x p y. of_string x p y)
        ∙ sym (next_assoc (value e t z) _ _)
      where
        of_string : (x : Value) → OfKind IsString x → (y : State) → next (ends_with e a t v x y) (λ p y. next (value e u y) (λ q k. ends_with e (binary Addition a t) u p q k)) ≡ next (next (value e u y) (λ q k. ends_with e t u x q k)) (λ r l. ends_with e a w v r l)
        of_string (String x) p y = f x y
        of_string x p y = absurd p

    -- the last operand writes a value out
    constant_last : (m : List ℕ) → told u ≡ Some m → (s : State) → value e (binary Addition (binary Addition a t) u) s ≡ value e (binary Addition a w) s
    constant_last m k s = opened s ∙ next_cong (value e a s) _ _ (λ v z. by_text v (twice v) z) ∙ sym (written_opened s)
      where
        is : Told u m
        is = told_is u m k

        twice : (v : Value) (x : List ℕ) (y : State) → next (ends_with e a t v (String x) y) (λ p y. next (value e u y) (λ q k. ends_with e (binary Addition a t) u p q k)) ≡ next (next (value e u y) (λ q k. ends_with e t u (String x) q k)) (λ r l. ends_with e a w v r l)
        twice v x y =
            next_cong (ends_with e a t v (String x) y) _ (λ p y. ends_with e (binary Addition a t) u p (Told.its_value is) y) (λ p y. ap (λ c. next c (λ q k. ends_with e (binary Addition a t) u p q k)) (operand_done e u is.its_value is.is y) ∙ next_ok is.its_value y _)
            ∙ added_twice e (binary_names Addition a t) (binary_names Addition a w) (sides e a t) (sides e a w) x m (λ p y. ends_with e (binary Addition a t) u p is.its_value y) (λ r y. with_tail (binary Addition a t) u r is.its_value m is.reads y) v y
            ∙ sym (ap (λ c. next (next c (λ q k. ends_with e t u (String x) q k)) (λ r l. ends_with e a w v r l)) (operand_done e u is.its_value is.is y)
            ∙ ap (λ c. next c (λ r l. ends_with e a w v r l)) (next_ok is.its_value y _ ∙ with_tail t u x is.its_value m is.reads y)
            ∙ next_ok (String (x ++ m)) y _)

    -- the first operand is primitive
    primitive_first : is_primitive (kind a) ≡ true → kind u ≡ IsString → (s : State) → value e (binary Addition (binary Addition a t) u) s ≡ value e (binary Addition a w) s
    primitive_first k l s = opened s ∙ after_cong (OfKind (kind a)) (value e a s) First Second (kind_sound a e s) (λ v p z. by_text v (in_order v p) z) ∙ sym (written_opened s)
      where
        in_order : (v : Value) → OfKind (kind a) v → (x : List ℕ) (y : State) → next (ends_with e a t v (String x) y) (λ p y. next (value e u y) (λ q k. ends_with e (binary Addition a t) u p q k)) ≡ next (next (value e u y) (λ q k. ends_with e t u (String x) q k)) (λ r l. ends_with e a w v r l)
        in_order v p x y =
            let (tv, reads) = primitive_text (kind a) v k p in
            ap (λ c. next c (λ p y. next (value e u y) (λ q k. ends_with e (binary Addition a t) u p q k))) (with_head a t v tv x reads y)
            ∙ next_ok (String (tv ++ x)) y _
            ∙ after_cong (OfKind IsString) (value e u y) _ _ (subst (λ j. Gives (OfKind j) (value e u y)) l (kind_sound u e y)) (λ q o z. last_string tv reads q o z)
            ∙ sym (next_assoc (value e u y) _ _)
          where
            last_string : (tv : List ℕ) → made (to_text v) ≡ Some tv → (q : Value) → OfKind IsString q → (z : State) → ends_with e (binary Addition a t) u (String (tv ++ x)) q z ≡ next (ends_with e t u (String x) q z) (λ r l. ends_with e a w v r l)
            last_string tv reads (String q) o z =
                with_tail (binary Addition a t) u (tv ++ x) (String q) q refl z
                ∙ ap (λ o. ok (String o) z) (append_assoc tv x q)
                ∙ sym (with_head a w v tv (x ++ q) reads z)
                ∙ sym (ap (λ c. next c (λ r l. ends_with e a w v r l)) (with_tail t u x (String q) q refl z) ∙ next_ok (String (x ++ q)) z _)
            last_string tv reads q o z = absurd o

  -- a last operand that writes no value out is a template
  no_constant : (t u w : Tree) → Row5 (binary Addition t u) w → told u ≡ None → kind u ≡ IsString
  no_constant t u w (inl r) k = ap (λ x. kind (part x 1)) r.shape
  no_constant t u w (inr (inl r)) k = nothing (sym k ∙ ap (λ x. told (part x 1)) r.shape ∙ r.known)
  no_constant t u w (inr (inr r)) k = ap (λ x. kind (part x 1)) r.shape

  nested_value : (n w : Tree) → Row6 n w → (s : State) → value e n s ≡ value e w s
  nested_value n w r s = ap (λ t. value e t s) r.shape ∙ go (told r.tail) refl r.settled ∙ sym (ap (λ t. value e t s) r.written)
    where
      same : (z : State) → value e (binary Addition r.inner r.tail) z ≡ value e r.joined z
      same = sum_value (binary Addition r.inner r.tail) r.joined r.sum

      plain : (b : Bool) → (b || false) ≡ true → b ≡ true
      plain true e = refl
      plain false e = e

      go : (o : Option (List ℕ)) → told r.tail ≡ o → (is_primitive (kind r.left) || is_some o) ≡ true → value e (binary Addition (binary Addition r.left r.inner) r.tail) s ≡ value e (binary Addition r.left r.joined) s
      go (Some m) k h = constant_last r.left r.inner r.tail r.joined r.known same m k s
      go None k h = primitive_first r.left r.inner r.tail r.joined r.known same (plain (is_primitive (kind r.left)) h) (no_constant r.inner r.tail r.joined r.sum k) s

-- ---- all

sum_same : (n w : Tree) → Row5 n w → SameTree n w
sum_same n w (inl r) = same_by n w _ _ r.shape r.written (same_value _ _ refl refl refl (λ e s. joined_value e r.before r.last r.earlier r.first r.after r.later r.starts r.ends s))
sum_same n w (inr (inl r)) = same_by n w _ _ r.shape r.written (same_value _ _ refl refl refl (λ e s. tail_value e r.before r.last r.earlier r.tail r.text r.known r.starts s))
sum_same n w (inr (inr r)) = same_by n w _ _ r.shape r.written (same_value _ _ refl refl refl (λ e s. head_value e r.head r.text r.known r.first r.after r.later r.ends s))

expression_same : (s : Seat) (n w : Tree) → TemplateRow (Expr s) n w → SameTree n w
expression_same s n w (inl r) = inlined_same n w r
expression_same s n w (inr (inl r)) = sum_same n w r
expression_same s n w (inr (inr r)) = same_value n w (ap stands r.shape) (ap stands r.written) (ap summary r.shape ∙ sym (ap summary r.written)) (λ e s. nested_value e n w r s)

means_same : (p : Position) (n w : Tree) → TemplateRow p n w → SameAt p n w
means_same (Expr s) n w r = tree_same s n w (expression_same s n w r)
means_same p n w r = absurd r

reads : (p : Position) (n w : Tree) → TemplateRow p n w → summary n ≡ summary w
reads (Expr s) n w r = (expression_same s n w r).read
reads p n w r = absurd r

pub templates_same : MeansSame TemplateContracts
templates_same = record { same = λ p n w c. means_same p n w c.row; reads = λ p n w c. reads p n w c.row }
