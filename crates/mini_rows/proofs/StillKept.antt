-- What is written in the place of what has no effect where a body has its `this` means the same there, keeps what a program has to keep, and is lighter.
use Rattle.std.proofs.Common.{◌≡◌, ◌≤◌, ℕ, Bool, true, false, [], refl, sym, ap, subst, subst₂, ◌∙◌, inl, inr, arith, ltb-true, true≢false, ◌<◌}
use Rattle.std.specs.Prelude.{pos, length, ◌⊎◌, ℤ, not, ◌&&◌}
use Rattle.std.specs.Fmt.{signed_decimal}
use Rattle.std.proofs.lemmas.Fmt.{decimal_digit}
use Rattle.mini_model.specs.declared.operator.UnaryOperator.TheVariants.{Void, Typeof, LogicalNot}
use Rattle.mini_model.specs.declared.place.Position.TheVariants.{Expr}
use Rattle.mini_model.specs.declared.seat.Seat.{Seat}
use Rattle.mini_model.specs.declared.shape.Shape.TheVariants as shape
use Rattle.mini_model.specs.Tree.{Tree, Trees, none, ◌▸◌, unary, conditional, call, shape_of, identifier, leaf}
use Rattle.mini_model.specs.Position.{passed_part_seat, unary_operand_seat, is_equality}
use Rattle.mini_model.specs.Weight.{outline, outlines, weight, is_awkward}
use Rattle.mini_laws.specs.Bodies.{arrow_kind}
use Rattle.mini_laws.specs.Demand.{Val, Unused}
use Rattle.mini_laws.specs.Same.{Goes, Agree}
use Rattle.mini_laws.specs.State.{Completion, ok, State, Environment}
use Rattle.mini_laws.specs.Value.{Value, Undefined, nothing}
use Rattle.mini_laws.proofs.Rows.{goes_refl}
use Rattle.mini_kept.specs.Frames.{frames, FramesKept}
use Rattle.mini_kept.specs.KeepsShapes.{AskedAlike}
use Rattle.mini_kept.specs.Without.{Assured, Steadies}
use Rattle.mini_kept.proofs.Expressions.{expression_taken}
use Rattle.mini_kept.proofs.FrameRows.{expression_slot}
use Rattle.mini_terms.specs.Effects.{ef}
use Rattle.mini_terms.specs.Exact.{by_value as behind_zero}
use Rattle.mini_terms.specs.Parts.{leaves_nothing}
use Rattle.mini_terms.specs.Sound.{Gives}
use Rattle.mini_terms.proofs.ConstTable.{const_sound}
use Rattle.mini_terms.proofs.Dropping.{weak}
use Rattle.mini_terms.proofs.EffectsTable.{effect_free_sound}
use Rattle.mini_terms.proofs.Reading.{same_by_value}
use Rattle.mini_rows.specs.Choices.{pair, argument, CallRow, ZeroRow, member_of, ChosenRow, ChosenMemberRow, ChosenIndexedRow}
use Rattle.mini_rows.specs.Sketches.{Sequence, Unary, Number, part, under, list, end, ◌▹◌, no_items, item}
use Rattle.mini_rows.specs.Spellings.{void_zero, binary, assignment, negated_digit}
use Rattle.mini_rows.specs.Steady.{bindings}
use Rattle.mini_rows.specs.Still.{outweighs_zero, StillRow}
use Rattle.mini_rows.proofs.ArrangedExpressions.{expressions_arranged_freely, CodeKept, code_arranged}
use Rattle.mini_rows.proofs.ChainGuards.{zero_number}
use Rattle.mini_rows.proofs.ChoiceCalls.{row_tells, row_read, idle_chosen, calls_kept, calls_code, row_falls}
use Rattle.mini_rows.proofs.ChainEnds.{void_value}
use Rattle.mini_rows.proofs.ChoiceRuns.{value, conditional_tells, assignment_tells}
use Rattle.mini_rows.proofs.FoldWeights.{mark_at_most}
use Rattle.mini_rows.proofs.ForPartKept.{in_nothing}
use Rattle.mini_rows.proofs.ListWeights.{sequence_weighs}
use Rattle.mini_rows.proofs.ChoiceFree.{Told, told_there}
use Rattle.mini_rows.proofs.ChoiceShapes.{called_fits, called_choosing, choosing_asked, chosen_formed, chosen_fits, chosen_member_fits, chosen_indexed_fits, chosen_row_formed, chosen_member_formed, chosen_indexed_formed}
use Rattle.mini_rows.proofs.ConstantLawful.{unary_at, binary_at}
use Rattle.mini_rows.proofs.FirstParts.{zero_row_fits, zero_row_slot, zero_row_asked, zero_row_kept}
use Rattle.mini_rows.proofs.IdleKept.{Idles, along}
use Rattle.mini_rows.proofs.SequenceIdle.{zero_near}
use Rattle.mini_rows.proofs.SpellShapes.{formed_slot, Formed, formed_asked}
use Rattle.mini_rows.proofs.Vanishing.{vanishes, first_dropped}
use Rattle.mini_rows.proofs.WriteMeaning.{same_where}
use Rattle.mini_model.specs.declared.operator.AssignmentOperator.{AssignmentOperator}
use Rattle.mini_model.specs.declared.operator.AssignmentOperator.TheVariants.{Assign}
use Rattle.mini_model.specs.declared.operator.BinaryOperator.{BinaryOperator}
use Rattle.mini_accept.specs.WellShaped.{Slot, fits, is_safe}
use Rattle.mini_node.specs.Kinds.{computed_member}
use Rattle.mini_rows.specs.Arranged.{KeptAt}
use Rattle.mini_rows.specs.Operators.{says_equal, TypeRow}
use Rattle.mini_rows.proofs.ChoiceIndexed.{indexed_there, indexed_kept, indexed_code, indexed_falls}
use Rattle.mini_rows.proofs.ChoiceLawful.{chosen_kept, chosen_code, chosen_member_kept, chosen_member_code}
use Rattle.mini_rows.proofs.ChoiceMeaning.{chosen_there}
use Rattle.mini_rows.proofs.ChoiceMembers.{member_chosen_there}
use Rattle.mini_rows.proofs.ChoiceWeights.{chosen_falls, chosen_member_falls}
use Rattle.mini_rows.proofs.OperatorLawful.{type_kept}
use Rattle.mini_rows.proofs.OperatorMeaning.{type_near}
use Rattle.mini_rows.proofs.OperatorWeights.{boolean_falls}

-- ---- 1

-- a value that is undefined where there is one
undefined_near : (s : State) (x : Completion Value) → Told x s → Gives (λ v. v ≡ Undefined) x → Goes true (λ v. Agree nothing) (Agree nothing) (Agree nothing) x (ok Undefined s)
unfolding Gives
undefined_near s x (inl o) g = subst (λ y. Goes true (λ v. Agree nothing) (Agree nothing) (Agree nothing) y (ok Undefined s)) (sym o) (weak nothing (ok Undefined s))
undefined_near s x (inr (v, k)) g =
    let is : v ≡ Undefined = subst (Gives (λ v. v ≡ Undefined)) k g in
    subst (λ y. Goes true (λ v. Agree nothing) (Agree nothing) (Agree nothing) y (ok Undefined s)) (sym (k ∙ ap (λ v. ok v s) is)) (goes_refl nothing (ok Undefined s))

void_asked : (s : Seat) (a : Tree) → AskedAlike (Expr s) (unary Void a) void_zero
void_asked s a = record {
  absent = λ e. absurd (true≢false (sym e));
  body = λ e. absurd (true≢false (sym e));
  optional = λ e. absurd (true≢false (sym e));
  number = λ asks e. refl;
  spelled = λ s e. absurd (cc e);
  plain = refl;
}

one_digit : length (signed_decimal (pos 0)) ≡ 1
one_digit = ap length (decimal_digit 0 (omega arith))

module _ (V : Assured) (has : V.has_this ≡ true) (s : Seat) where
  module _ (a : Tree) (free : ef false a ≡ true) (dropped : leaves_nothing a ≡ true) where
    void_idles : outweighs_zero (unary_operand_seat Void) a ≡ true → Idles V (Expr s) (unary Void a) void_zero
    void_idles heavy = record {
      same = λ e z q f. same_by_value e nothing V.initial (unary Void a) void_zero refl refl (record {
        by = λ r y i.
            subst (Goes true (λ v. Agree nothing) (Agree nothing) (Agree nothing) (value e (unary Void a) y)) (sym (void_value e y))
            (undefined_near y (value e (unary Void a) y) (told_there e false (λ g. z.has_this has) (unary Void a) free y) (const_sound (unary Void a) e y));
      }) q;
      read = refl;
      kind = refl;
      fit = λ strict c f. expression_taken strict c void_zero (unary_at strict Void a c f).0 refl;
      slot = λ strict c f. expression_slot (Expr s) c (unary_at strict Void a c f).0;
      asked = void_asked s a;
      kept = expressions_arranged_freely first_dropped (record { trees = a ▸ none; lists = [] }) (tt, tt, (vanishes a dropped, tt)) (under (Unary Void) (part 0 ▹ end)) (under (Unary Void) (under (Number (pos 0)) end ▹ end)) refl s (unary Void a) void_zero refl refl;
      bound = λ k. omega arith;
      bodies = λ b z. tt;
      frames = λ k z f c. in_nothing (frames k (unary Void a)) f c;
      lighter = let more = ltb-true 3 (weight (Expr (unary_operand_seat Void)) a) heavy in let mark = mark_at_most (is_awkward s (shape.UnaryExpression Void) (outlines (zero_number ▸ none))) in omega (arith, more, mark, one_digit);
      absent = refl;
      is_zero = inl refl;
      chooses = refl;
    }

    -- ---- 21

    zero_code : (t : Tree) → CodeKept (pair a t) (behind_zero t)
    zero_code t = code_arranged first_dropped (record { trees = a ▸ t ▸ none; lists = [] }) (tt, tt) Sequence Sequence (list (item (part 0) (item (part 1) no_items)) ▹ end) (list (item (under (Number (pos 0)) end) (item (part 1) no_items)) ▹ end) refl (pair a t) (behind_zero t) refl refl

    zero_idles : (t : Tree) → outweighs_zero passed_part_seat a ≡ true → Idles V (Expr s) (pair a t) (behind_zero t)
    zero_idles t heavy =
        let row : ZeroRow false (pair a t) (behind_zero t) = record { idle = a; last = t; effect_free = free; dropped = dropped; shape = refl; written = refl } in
        let code = zero_code t in record {
          same = λ e z q f. same_by_value e nothing V.initial (pair a t) (behind_zero t) refl refl (record { by = λ r y i. zero_near nothing e a (λ x. effect_free_sound a e false (λ g. z.has_this has) free Unused x) t Val y }) q;
          read = refl;
          kind = refl;
          fit = zero_row_fits s (pair a t) (behind_zero t) row;
          slot = zero_row_slot s (pair a t) (behind_zero t) row;
          asked = zero_row_asked s (pair a t) (behind_zero t) row;
          kept = zero_row_kept s (pair a t) (behind_zero t) row;
          bound = λ k. omega arith;
          bodies = λ b z. code.bodied b (z refl);
          frames = λ k z. subst (λ j. FramesKept (frames j (pair a t)) (frames j (behind_zero t))) (sym (z refl)) code.framed;
          lighter = let more = ltb-true 3 (weight (Expr passed_part_seat) a) heavy in omega (arith, more, one_digit, sequence_weighs s a (t ▸ none), sequence_weighs s zero_number (t ▸ none));
          absent = refl;
          is_zero = inl refl;
          chooses = refl;
        }

  -- ---- 44

  calls_bound : (b : Bool) (f a p q : Tree) (ts : Trees) (k : ℕ) → bindings k (call false f (argument b (conditional a p q) ▸ ts)) ≤ bindings k (conditional a (call false f (argument b p ▸ ts)) (call false f (argument b q ▸ ts)))
  calls_bound false f a p q ts k = omega arith
  calls_bound true f a p q ts k = omega arith

  -- of a conditional that becomes a call
  call_read : {A : Type 0} (g : Tree → A) (n w : Tree) (r : CallRow false n w) → ((f a p q : Tree) (ts us : Trees) → g (conditional a p q) ≡ g (call false f ts)) → g n ≡ g w
  call_read g n w r h = ap g r.shape ∙ h r.callee r.a _ _ (argument r.is_spread (conditional r.a r.p r.q) ▸ r.others) none ∙ sym (ap g r.written)

  call_idles : (n w : Tree) → CallRow false n w → Idles V (Expr s) n w
  call_idles n w r =
      let (t, u) = row_tells false n w r in
      let code = calls_code false n w r in record {
        same = λ e z q f. same_where e V.initial n w t u (λ y i. idle_chosen e false (λ g. z.has_this has) n w r y) q;
        read = row_read false n w r;
        kind = call_read (λ t. arrow_kind (shape_of t)) n w r (λ f a p q ts us. refl);
        fit = λ strict c. called_fits strict c n w r;
        slot = formed_slot (Expr s) n n (chosen_formed n w (called_choosing n w r));
        asked = choosing_asked (Expr s) n w (called_choosing n w r);
        kept = calls_kept false s n w r;
        bound = λ k. subst₂ (λ t u. bindings k u ≤ bindings k t) (sym r.shape) (sym r.written) (calls_bound r.is_spread r.callee r.a r.p r.q r.others k);
        bodies = λ b z. code.bodied b (z refl);
        frames = λ k z. subst (λ j. FramesKept (frames j n) (frames j w)) (sym (z refl)) code.framed;
        lighter = row_falls false s n w r;
        absent = call_read (λ t. (outline t).absent) n w r (λ f a p q ts us. refl);
        is_zero = inl (call_read (λ t. (outline t).is_zero) n w r (λ f a p q ts us. refl));
        chooses = call_read (λ t. (outline t).chooses) n w r (λ f a p q ts us. refl);
      }

  -- ---- 17

  module _ (o : BinaryOperator) (equality : is_equality o ≡ true) (a b : Tree) where
    abbrev compared : Tree
    compared = binary o (unary Typeof a) b

    abbrev negated : ℤ → Tree
    negated m = unary LogicalNot (leaf (shape.NumericLiteral m))

    digit_idles : (m : ℤ) → is_safe m ≡ true → ((e : Environment) → Steadies V e → (y : State) → Goes true (λ v. Agree nothing) (Agree nothing) (Agree nothing) (value e compared y) (value e (negated m) y)) → weight (Expr s) (negated m) < weight (Expr s) compared → KeptAt (Expr s) compared (negated m) → Idles V (Expr s) compared (negated m)
    digit_idles m safe near lighter kept = record {
      same = λ e z q f. same_by_value e nothing V.initial compared (negated m) refl refl (record { by = λ r y i. near e z y }) q;
      read = refl;
      kind = refl;
      fit = λ strict c f. expression_taken strict c (negated m) (binary_at strict o (unary Typeof a) b c f).0 (ap (λ b. ((b && true) && true) && true) safe);
      slot = λ strict c f. expression_slot (Expr s) c (binary_at strict o (unary Typeof a) b c f).0;
      asked = record {
        absent = λ e. absurd (true≢false (sym e));
        body = λ e. absurd (true≢false (sym e));
        optional = λ e. absurd (true≢false (sym e));
        number = λ asks e. refl;
        spelled = λ s e. absurd (cc e);
        plain = refl;
      };
      kept = kept;
      bound = λ k. omega arith;
      bodies = λ b z. tt;
      frames = λ k z f c. in_nothing (frames k compared) f c;
      lighter = lighter;
      absent = refl;
      is_zero = inl refl;
      chooses = refl;
    }

    boolean_idles : (c : Bool) → ((e : Environment) → Steadies V e → (y : State) → Goes true (λ v. Agree nothing) (Agree nothing) (Agree nothing) (value e compared y) (value e (negated_digit c) y)) → KeptAt (Expr s) compared (negated_digit c) → Idles V (Expr s) compared (negated_digit c)
    boolean_idles true near kept = digit_idles (pos 0) refl near (boolean_falls s o equality a b true) kept
    boolean_idles false near kept = digit_idles (pos 1) refl near (boolean_falls s o equality a b false) kept

  type_idles : (n w : Tree) → TypeRow false n w → Idles V (Expr s) n w
  type_idles n w r =
      let c : Bool = not (says_equal r.operator) in
      along V (Expr s) n w _ _ r.shape r.written
      (boolean_idles r.operator r.equality r.operand r.right c
      (λ e z y. type_near e r.operator r.equality r.operand r.right r.known y (effect_free_sound (compared r.operator r.equality r.operand r.right) e false (λ g. z.has_this has) r.effect_free Val y))
      (subst₂ (KeptAt (Expr s)) r.shape r.written (type_kept false s n w r)))

  -- ---- 45

  module _ (o : AssignmentOperator) (t a b c : Tree) where
    abbrev assigned_each : Tree
    assigned_each = conditional a (assignment o t b) (assignment o t c)

    abbrev assigned_once : Tree
    assigned_once = assignment o t (conditional a b c)

    -- what is told of all three
    record Chosen : Type 0 where
      same : (e : Environment) → Steadies V e → (y : State) → value e assigned_each y ≡ value e assigned_once y
      fit : (strict : Bool) (d : Slot) → fits strict d assigned_each ≡ true → fits strict d assigned_once ≡ true
      formed : Formed assigned_each assigned_once
      kept : KeptAt (Expr s) assigned_each assigned_once
      code : CodeKept assigned_each assigned_once
      lighter : weight (Expr s) assigned_once < weight (Expr s) assigned_each

    chosen_idles : Chosen → Idles V (Expr s) assigned_each assigned_once
    chosen_idles k = record {
      same = λ e z q f. same_where e V.initial assigned_each assigned_once (conditional_tells a (assignment o t b) (assignment o t c)) (assignment_tells o t (conditional a b c)) (λ y i. k.same e z y) q;
      read = refl;
      kind = refl;
      fit = k.fit;
      slot = formed_slot (Expr s) assigned_each assigned_once k.formed;
      asked = formed_asked (Expr s) assigned_each assigned_once k.formed;
      kept = k.kept;
      bound = λ i. omega arith;
      bodies = λ d z. k.code.bodied d (z refl);
      frames = λ d z. subst (λ j. FramesKept (frames j assigned_each) (frames j assigned_once)) (sym (z refl)) k.code.framed;
      lighter = k.lighter;
      absent = refl;
      is_zero = inl refl;
      chooses = refl;
    }

  name_idles : (n w : Tree) → ChosenRow false s n w → Idles V (Expr s) n w
  name_idles n w r =
      let t : Tree = identifier r.name in
      along V (Expr s) n w _ _ r.shape r.written
      (chosen_idles r.operator t r.a r.b r.c (record {
        same = λ e z y. chosen_there e false (λ g. z.has_this has) s n w r y;
        fit = λ strict d g. subst (λ u. fits strict d u ≡ true) r.written (chosen_fits strict d false s n w r (subst (λ u. fits strict d u ≡ true) (sym r.shape) g));
        formed = subst₂ Formed r.shape r.written (chosen_row_formed false s n w r);
        kept = subst₂ (KeptAt (Expr s)) r.shape r.written (chosen_kept false s n w r);
        code = subst₂ CodeKept r.shape r.written (chosen_code false s n w r);
        lighter = chosen_falls s r.seated r.operator r.a r.name r.b r.c;
      }))

  member_idles : (n w : Tree) → ChosenMemberRow false s n w → Idles V (Expr s) n w
  member_idles n w r =
      let t : Tree = member_of r.name r.key in
      along V (Expr s) n w _ _ r.shape r.written
      (chosen_idles Assign t r.a r.b r.c (record {
        same = λ e z y. member_chosen_there e false (λ g. z.has_this has) s n w r y;
        fit = λ strict d g. subst (λ u. fits strict d u ≡ true) r.written (chosen_member_fits strict d false s n w r (subst (λ u. fits strict d u ≡ true) (sym r.shape) g));
        formed = subst₂ Formed r.shape r.written (chosen_member_formed false s n w r);
        kept = subst₂ (KeptAt (Expr s)) r.shape r.written (chosen_member_kept false s n w r);
        code = subst₂ CodeKept r.shape r.written (chosen_member_code false s n w r);
        lighter = chosen_member_falls s r.seated r.a (identifier r.name) r.key r.b r.c;
      }))

  indexed_idles : (n w : Tree) → ChosenIndexedRow false s n w → Idles V (Expr s) n w
  indexed_idles n w r =
      let t : Tree = computed_member (identifier r.name) r.key in
      along V (Expr s) n w _ _ r.shape r.written
      (chosen_idles Assign t r.a r.b r.c (record {
        same = λ e z y. indexed_there e false (λ g. z.has_this has) s n w r y;
        fit = λ strict d g. subst (λ u. fits strict d u ≡ true) r.written (chosen_indexed_fits strict d false s n w r (subst (λ u. fits strict d u ≡ true) (sym r.shape) g));
        formed = subst₂ Formed r.shape r.written (chosen_indexed_formed false s n w r);
        kept = subst₂ (KeptAt (Expr s)) r.shape r.written (indexed_kept false s n w r);
        code = subst₂ CodeKept r.shape r.written (indexed_code false s n w r);
        lighter = indexed_falls s r.seated t r.a r.b r.c;
      }))

pub stills_idle : (V : Assured) (s : Seat) (n w : Tree) → StillRow V s n w → Idles V (Expr s) n w
stills_idle V s n w (inl r) = along V (Expr s) n w _ _ r.row.shape r.row.written (zero_idles V r.kept s r.row.idle r.row.effect_free r.row.dropped r.row.last r.heavy)
stills_idle V s n w (inr (inl r)) = along V (Expr s) n w _ _ r.shape r.written (void_idles V r.kept s r.operand r.effect_free r.dropped r.heavy)
stills_idle V s n w (inr (inr (inl r))) = call_idles V r.kept s n w r.row
stills_idle V s n w (inr (inr (inr (inl r)))) = type_idles V r.kept s n w r.row
stills_idle V s n w (inr (inr (inr (inr r)))) = chosen_by r.row
  where
    chosen_by : ChosenRow false s n w ⊎ (ChosenMemberRow false s n w ⊎ ChosenIndexedRow false s n w) → Idles V (Expr s) n w
    chosen_by (inl c) = name_idles V r.kept s n w c
    chosen_by (inr (inl c)) = member_idles V r.kept s n w c
    chosen_by (inr (inr c)) = indexed_idles V r.kept s n w c
