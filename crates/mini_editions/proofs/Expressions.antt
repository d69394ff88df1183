-- Rows of expressions write no form that the expression lacks, but what an edition has.
use Rattle.std.proofs.Common.{◌≡◌, ◌<◌, ◌≤◌, ℕ, arith, Bool, true, false, Option, Some, None, refl, ap, subst, inl, inr}
use Rattle.std.specs.Prelude.{◌⊎◌, not, IfSome}
use Rattle.mini_model.specs.declared.operator.AssignmentOperator.{AssignmentOperator}
use Rattle.mini_model.specs.declared.operator.BinaryOperator.{BinaryOperator}
use Rattle.mini_model.specs.declared.operator.BinaryOperator.TheVariants as binary_operator
use Rattle.mini_model.specs.declared.operator.LogicalOperator.{LogicalOperator}
use Rattle.mini_model.specs.declared.seat.Guard.{Guard}
use Rattle.mini_model.specs.declared.seat.Seat.{Seat}
use Rattle.mini_model.specs.declared.name.Name.{Name}
use Rattle.mini_model.specs.Redex as first
use Rattle.mini_model.specs.Tree.{Tree, Trees, none, ◌▸◌, logical}
use Rattle.mini_terms.specs.Exact.{is_guarded, by_value, kept_by_value}
use Rattle.mini_rows.specs.Forms.{Form, Coalescing, year, form_of_binary, form_of_logical, form_of_assignment}
use Rattle.mini_rows.specs.Spellings.{PlainForm, a_number, a_text, a_boolean, a_null, a_big_int, a_template, a_void, plain, negated_digit, ordered, strict_operator, Row33, Spelling, ShortBoolean, DottedMember, DottedTarget, DottedUpdate, LooseLeft, LooseRight, SwappedEquality, BareYield, OrderedTypeof, PlainTemplate, ComparedWithVoid, Stepped}
use Rattle.mini_rows.specs.Choices.{joined, strictly, loosely, joining, computing, Key, Named, Spelled, Numbered, member_on, ended, asks_object, null_compared, held, argument, LighterRow, OwnRow, HeldRow, Rotated, Decided, Combined, NullishIfEqual, NullishIfUnequal, Chosen, LooseNull, LooseNullAfter, ObjectTest, ObjectTestAfter, CombinedMember, ChosenMember, DecidedLast, OrTest, AndTest, AndBoth, OrEither, LastAfterOr, LastAfterAnd, AndThenOr, OrThenAnd, Alike}
use Rattle.mini_rows.specs.Editions.{LighterIn}
use Rattle.mini_editions.proofs.Times.{own, times, Fewer, written, no_later, choice_lacks}
use Rattle.mini_editions.proofs.Negated.{neg_lacks}

module _ (f : Form) where
  -- ---- operators

  pub own_loose : (b : Bool) → own f (form_of_binary (loosely b)) ≡ 0
  own_loose true = refl
  own_loose false = refl

  own_strict : (b : Bool) → own f (form_of_binary (strictly b)) ≡ 0
  own_strict true = refl
  own_strict false = refl

  own_joining : (b : Bool) → own f (form_of_logical (joining b)) ≡ 0
  own_joining true = refl
  own_joining false = refl

  own_ordered : (o : BinaryOperator) → own f (form_of_binary (ordered o)) ≡ 0
  own_ordered binary_operator.Equality = refl
  own_ordered binary_operator.StrictEquality = refl
  own_ordered o = refl

  own_strict_of : (o : BinaryOperator) → own f (form_of_binary (strict_operator o)) ≡ 0
  own_strict_of binary_operator.Equality = refl
  own_strict_of binary_operator.StrictEquality = refl
  own_strict_of o = refl

  -- an assignment that computes is the form that the operator is
  computes_form : (o : BinaryOperator) → IfSome (computing o) (λ c. form_of_assignment c ≡ form_of_binary o)
  computes_form binary_operator.Addition = refl
  computes_form binary_operator.Subtraction = refl
  computes_form binary_operator.Multiplication = refl
  computes_form binary_operator.Division = refl
  computes_form binary_operator.Remainder = refl
  computes_form binary_operator.Exponential = refl
  computes_form binary_operator.ShiftLeft = refl
  computes_form binary_operator.ShiftRight = refl
  computes_form binary_operator.ShiftRightZeroFill = refl
  computes_form binary_operator.BitwiseAnd = refl
  computes_form binary_operator.BitwiseXor = refl
  computes_form binary_operator.BitwiseOr = refl
  computes_form o = tt

  pub computed_form : (o : BinaryOperator) (c : AssignmentOperator) → computing o ≡ Some c → own f (form_of_assignment c) ≡ own f (form_of_binary o)
  computed_form o c e = ap (own f) (subst (λ x. IfSome x (λ c. form_of_assignment c ≡ form_of_binary o)) e (computes_form o))

  -- ---- spellings

  pub plain_times : (p : PlainForm) → times f (plain p) ≡ 0
  plain_times (a_number n) = refl
  plain_times (a_text s) = refl
  plain_times (a_boolean b) = refl
  plain_times a_null = refl
  plain_times (a_big_int n) = refl
  plain_times (a_template is_tail raw cooked) = refl
  plain_times a_void = refl

  pub digit_times : (b : Bool) → times f (negated_digit b) ≡ 0
  digit_times true = refl
  digit_times false = refl

  dotted : (n w : Tree) → Row33 n w → Fewer f n w
  dotted n w (inl r) = written f r.shape r.written (λ z. omega (arith, z))
  dotted n w (inr r) = written f r.shape r.written (λ z. omega (arith, z))

  pub spelling_fewer : (n w : Tree) → Spelling n w → Fewer f n w
  spelling_fewer n w (ShortBoolean r) = written f r.shape r.written (λ z. digit_times r.value)
  spelling_fewer n w (DottedMember r) = dotted n w r
  spelling_fewer n w (DottedTarget r) = written f r.shape r.written (λ z. let turned = dotted r.target r.turned r.member (omega (arith, z)) in omega (arith, turned, z))
  spelling_fewer n w (DottedUpdate r) = written f r.shape r.written (λ z. let turned = dotted r.target r.turned r.member (omega (arith, z)) in omega (arith, turned))
  spelling_fewer n w (LooseLeft r) = written f r.shape r.written (λ z. omega (arith, z))
  spelling_fewer n w (LooseRight r) = written f r.shape r.written (λ z. omega (arith, z))
  spelling_fewer n w (SwappedEquality r) = written f r.shape r.written (λ z. omega (arith, z))
  spelling_fewer n w (BareYield r) = written f r.shape r.written (λ z. refl)
  spelling_fewer n w (OrderedTypeof r) = written f r.shape r.written (λ z. omega (arith, own_ordered r.operator))
  spelling_fewer n w (PlainTemplate r) = written f r.shape r.written (λ z. refl)
  spelling_fewer n w (ComparedWithVoid r) = written f r.shape r.written (λ z. omega (arith, z, own_strict_of r.operator))
  spelling_fewer n w (Stepped r) = written f r.shape r.written (λ z. omega (arith, z))

  -- ---- the first rows

  pub first_fewer : (s : Seat) (n w : Tree) → first.Row23 s n w ⊎ first.Row40 n w → Fewer f n w
  first_fewer s n w (inl r) = written f r.shape r.written (λ z. neg_lacks f s r.e (omega (arith, z)))
  first_fewer s n w (inr r) = written f r.shape r.written (λ z. omega (arith, z))

  -- ---- choices

  joined_parts : (o : LogicalOperator) (b : Tree) (cs : Trees) → times f (joined o b cs) ≡ 0 → (times f b ≡ 0) × ((a : Tree) → times f a ≡ 0 → times f (joined o a cs) ≡ 0)
  joined_parts o b none z = (z, λ a q. q)
  joined_parts o b (c ▸ cs) z =
      let (x, k) = joined_parts o b cs (omega (arith, z)) in
      (x, λ a q. let more = k a q in omega (arith, more, z))

  pub member_times : (t : Tree) (k : Key) → times f (member_on t k) ≡ times f t
  member_times t (Named s) = omega arith
  member_times t (Spelled s) = omega arith
  member_times t (Numbered n) = omega arith

  pub ended_parts : (o : LogicalOperator) (b : Option Tree) (t : Tree) → times f (ended o b t) ≡ 0 → (times f t ≡ 0) × ((u : Tree) → times f u ≡ 0 → times f (ended o b u) ≡ 0)
  ended_parts o None t z = (z, λ u q. q)
  ended_parts o (Some b) t z = (omega (arith, z), λ u q. omega (arith, z, q))

  object_times : (b : Bool) (x : Name) → times f (asks_object b x) ≡ 0
  object_times true x = refl
  object_times false x = refl

  null_times : (a b : Bool) (x : Name) → times f (null_compared a b x) ≡ 0
  null_times true true x = refl
  null_times true false x = refl
  null_times false true x = refl
  null_times false false x = refl

  held_times : (b : Bool) (x : Name) → times f (held b x) ≡ 0
  held_times true x = refl
  held_times false x = refl

  pub argument_times : (b : Bool) (t : Tree) → times f (argument b t) ≡ times f t
  argument_times true t = omega arith
  argument_times false t = refl

  pub guarded_lacks : (g : Guard) (t : Tree) → times f t ≡ 0 → times f (kept_by_value g t) ≡ 0
  guarded_lacks g t z = choice_lacks f (is_guarded g t) (by_value t) t (omega (arith, z)) z

  pub coalescing_lacks : (e : ℕ) → e < year f → 2020 ≤ e → own f (Some Coalescing) ≡ 0
  coalescing_lacks e newer late = by f newer
    where
      by : (g : Form) → e < year g → own g (Some Coalescing) ≡ 0
      by Coalescing newer = absurd (omega (arith, newer, late))
      by g newer = refl

  -- where an edition has the form of what is written
  pub lighter_fewer : (e : ℕ) → e < year f → (s : Seat) (n w : Tree) (r : LighterRow s n w) → LighterIn e s n w r → Fewer f n w
  lighter_fewer e newer s n w (Rotated r) a = written f r.shape r.written (λ z.
      let (x, k) = joined_parts r.operator r.b (r.last ▸ r.others) (omega (arith, z)) in
      k (logical r.operator r.a r.b) (omega (arith, x, z)))
  lighter_fewer e newer s n w (Decided r) a = absurd (let l = no_later f in omega (arith, a, newer, l))
  lighter_fewer e newer s n w (Combined r) a = written f r.shape r.written (λ z. omega (arith, z, computed_form r.operator r.combined r.computes))
  lighter_fewer e newer s n w (NullishIfEqual r) a = written f r.shape r.written (λ z. let l = coalescing_lacks e newer a in omega (arith, l, z))
  lighter_fewer e newer s n w (NullishIfUnequal r) a = written f r.shape r.written (λ z. let l = coalescing_lacks e newer a in omega (arith, l, z))
  lighter_fewer e newer s n w (Chosen r) a = written f r.shape r.written (λ z. omega (arith, z))
  lighter_fewer e newer s n w (LooseNull r) a = written f r.shape r.written (λ z. omega (arith, own_loose r.equal))
  lighter_fewer e newer s n w (LooseNullAfter r) a = written f r.shape r.written (λ z. omega (arith, z, own_loose r.equal))
  lighter_fewer e newer s n w (ObjectTest r) a = written f r.shape r.written (λ z. omega (arith, z, held_times r.there r.name))
  lighter_fewer e newer s n w (ObjectTestAfter r) a = written f r.shape r.written (λ z.
      let (x, k) = ended_parts (joining (not r.there)) r.before (null_compared r.strict (not r.there) r.name) (omega (arith, z)) in
      let front = k (held r.there r.name) (held_times r.there r.name) in
      omega (arith, z, front))
  lighter_fewer e newer s n w (CombinedMember r) a = written f r.shape r.written (λ z. omega (arith, z, computed_form r.operator r.combined r.computes))
  lighter_fewer e newer s n w (ChosenMember r) a = written f r.shape r.written (λ z. omega (arith, z))
  lighter_fewer e newer s n w (DecidedLast r) a = absurd (let l = no_later f in omega (arith, a, newer, l))

  pub own_row_fewer : (n w : Tree) → OwnRow n w → Fewer f n w
  own_row_fewer n w (OrTest r) = written f r.shape r.written (λ z. omega (arith, z))
  own_row_fewer n w (AndTest r) = written f r.shape r.written (λ z. omega (arith, z))

  pub held_row_fewer : (n w : Tree) → HeldRow n w → Fewer f n w
  held_row_fewer n w (AndBoth r) = written f r.shape r.written (λ z. omega (arith, z))
  held_row_fewer n w (OrEither r) = written f r.shape r.written (λ z. omega (arith, z))
  held_row_fewer n w (LastAfterOr r) = written f r.shape r.written (λ z. omega (arith, z))
  held_row_fewer n w (LastAfterAnd r) = written f r.shape r.written (λ z. omega (arith, z))
  held_row_fewer n w (AndThenOr r) = written f r.shape r.written (λ z. omega (arith, z))
  held_row_fewer n w (OrThenAnd r) = written f r.shape r.written (λ z. omega (arith, z))
  held_row_fewer n w (Alike r) = written f r.shape r.written (λ z. omega (arith, z))
