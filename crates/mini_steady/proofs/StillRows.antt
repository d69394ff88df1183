-- What stands for what has no effect where a body has its `this` is what a row says, and where nothing does no row reads the node.
use Rattle.std.proofs.Common.{◌≡◌, ℕ, Bool, true, false, Option, Some, None, refl, sym, ap, subst, ◌∙◌, inl, inr, true≢false, arith, ltb-true, ltb-false}
use Rattle.std.specs.Prelude.{◌&&◌, is_some, unwrap_or, nat_lt, ◌||◌, not, ◌⊎◌, if◌then◌else◌}
use Rattle.std.proofs.lemmas.Bool.{and_parts, false≢true}
use Rattle.mini_model.specs.declared.operator.UnaryOperator.{UnaryOperator}
use Rattle.mini_model.specs.declared.operator.UnaryOperator.TheVariants.{Void}
use Rattle.mini_model.specs.declared.place.Position.TheVariants.{Expr}
use Rattle.mini_model.specs.declared.seat.Seat.{Seat}
use Rattle.mini_model.specs.Tree.{Tree, unary}
use Rattle.mini_model.specs.Position.{passed_part_seat, unary_operand_seat, is_equality}
use Rattle.mini_model.specs.Weight.{capped}
use Rattle.mini_terms.specs.Effects.{ef}
use Rattle.mini_terms.specs.Parts.{leaves_nothing}
use Rattle.mini_kept.specs.Without.{Assured}
use Rattle.mini_node.specs.Children.{part}
use Rattle.mini_node.specs.Kinds.{unary_operator, binary_operator}
use Rattle.mini_node.specs.Made.{unary_is, binary_is}
use Rattle.mini_rows.specs.Idle.{IdleRow}
use Rattle.mini_rows.specs.Spellings.{void_zero, negated_digit}
use Rattle.mini_rows.specs.Editions.{SteadyRowsIn}
use Rattle.mini_rows.specs.Still.{outweighs_zero, StillRow}
use Rattle.mini_choices.specs.Calling.{calls_either, called}
use Rattle.mini_choices.specs.MinimizeFirstPart.{behind_zero}
use Rattle.mini_choices.specs.MinimizeHeldBranches.{is_pair, item}
use Rattle.mini_choices.proofs.Calls.{called_row, called_passes}
use Rattle.mini_choices.proofs.HeldBranches.{pair_is}
use Rattle.mini_choices.proofs.Trials.{both_true, first_true, later_true}
use Rattle.mini_steady.specs.Chains.{once}
use Rattle.mini_steady.specs.Idle.{LosesIn}
use Rattle.mini_steady.specs.Members as members
use Rattle.mini_steady.specs.Own.{AppliedHere}
use Rattle.mini_steady.specs.Still.{is_idle, follows_idle, is_void, voids_idle, call_written, void_written, written, written_in, never_equal, told_by, assigns_choice, type_written, assignment_written}
use Rattle.mini_steady.proofs.IdleRows.{tried, chosen, chosen_is}
use Rattle.mini_steady.proofs.MemberRows.{unwritten_rests}
use Rattle.mini_model.specs.declared.operator.BinaryOperator.{BinaryOperator}
use Rattle.mini_rows.specs.Choices.{ChosenRow, ChosenMemberRow, ChosenIndexedRow}
use Rattle.mini_rows.specs.Operators.{says_equal}
use Rattle.mini_held.specs.Types.{is_never_type}
use Rattle.mini_held.proofs.NeverEqual.{never_row, never_passes}
use Rattle.mini_choices.specs.MinimizeConditionalBranches.{assigns_either, indexes_either, is_seated, assigned}
use Rattle.mini_choices.proofs.AssignedIndexed.{indexed_row, indexed_passes}
use Rattle.mini_choices.proofs.Choices.{chosen_row, chosen_passes, chosen_member_passes}

-- a weight that is capped is more than 3 where it is
pub capped_more : (k : ℕ) → nat_lt 3 (capped k) ≡ nat_lt 3 k
capped_more k = go (nat_lt 3 (capped k)) (nat_lt 3 k) refl refl
  where
    go : (b c : Bool) → nat_lt 3 (capped k) ≡ b → nat_lt 3 k ≡ c → b ≡ c
    go true true e f = refl
    go false false e f = refl
    go true false e f = absurd (omega (arith, ltb-true 3 (capped k) e, ltb-false 3 k f))
    go false true e f = absurd (omega (arith, ltb-false 3 (capped k) e, ltb-true 3 k f))

or_true : (b c : Bool) → c ≡ true → b || c ≡ true
or_true true c e = refl
or_true false c e = e

-- ---- what is written is what a row says

module _ (V : Assured) (has : V.has_this ≡ true) (s : Seat) (n : Tree) where
  zero_row : follows_idle n ≡ true → StillRow V s n (behind_zero n)
  zero_row h =
      let (two, rest) = and_parts (is_pair n) (is_idle (item n 0) && outweighs_zero passed_part_seat (item n 0)) h in
      let (idle, heavy) = and_parts (is_idle (item n 0)) (outweighs_zero passed_part_seat (item n 0)) rest in
      let (free, dropped) = and_parts (ef false (item n 0)) (leaves_nothing (item n 0)) idle in
      inl (record { kept = has; row = record { idle = item n 0; last = item n 1; effect_free = free; dropped = dropped; shape = pair_is n two; written = refl }; heavy = heavy })

  voids : is_void (unary_operator n) ≡ true → n ≡ unary Void (part n 0)
  voids = go (unary_operator n) refl
    where
      go : (o : Option UnaryOperator) → unary_operator n ≡ o → is_void o ≡ true → n ≡ unary Void (part n 0)
      go (Some Void) h e = unary_is n Void h
      go o h e = absurd (false≢true e)

  void_row : voids_idle n ≡ true → StillRow V s n void_zero
  void_row h =
      let (is, rest) = and_parts (is_void (unary_operator n)) (is_idle (part n 0) && outweighs_zero (unary_operand_seat Void) (part n 0)) h in
      let (idle, heavy) = and_parts (is_idle (part n 0)) (outweighs_zero (unary_operand_seat Void) (part n 0)) rest in
      let (free, dropped) = and_parts (ef false (part n 0)) (leaves_nothing (part n 0)) idle in
      inr (inl (record { operand = part n 0; kept = has; effect_free = free; dropped = dropped; heavy = heavy; shape = voids is; written = refl }))

  call_row : calls_either false n ≡ true → StillRow V s n (called n)
  call_row h = inr (inr (inl (record { kept = has; row = called_row false n h })))

  choice_row : assigns_choice s n ≡ true → StillRow V s n (assigned n)
  choice_row h =
      let (seated, either) = and_parts (is_seated s) (assigns_either false n || indexes_either false n) h in
      inr (inr (inr (inr (record { kept = has; row = by seated (assigns_either false n) refl either }))))
    where
      of_two : ChosenRow false s n (assigned n) ⊎ ChosenMemberRow false s n (assigned n) → ChosenRow false s n (assigned n) ⊎ (ChosenMemberRow false s n (assigned n) ⊎ ChosenIndexedRow false s n (assigned n))
      of_two (inl r) = inl r
      of_two (inr r) = inr (inl r)

      by : is_seated s ≡ true → (b : Bool) → assigns_either false n ≡ b → b || indexes_either false n ≡ true → ChosenRow false s n (assigned n) ⊎ (ChosenMemberRow false s n (assigned n) ⊎ ChosenIndexedRow false s n (assigned n))
      by seated true k e = of_two (chosen_row false s n (both_true (is_seated s) (assigns_either false n) seated k))
      by seated false k e = inr (inr (indexed_row false s n (both_true (is_seated s) (indexes_either false n) seated e)))

  type_row : (w : Tree) → type_written n ≡ Some w → StillRow V s n w
  type_row w e = go (binary_operator n) refl e
    where
      by : (o : BinaryOperator) → binary_operator n ≡ Some o → (b : Bool) → never_equal o n ≡ b → (if b then Some (negated_digit (not (says_equal o))) else None) ≡ Some w → StillRow V s n w
      by o h true k f =
          let (equality, never) = and_parts (is_equality o) (is_never_type false n) k in
          subst (StillRow V s n) {x = negated_digit (not (says_equal o))} {y = w} (cc f) (inr (inr (inr (inl (record { kept = has; row = never_row false n o (binary_is n o h) equality never })))))
      by o h false k f = absurd (cc f)

      go : (o : Option BinaryOperator) → binary_operator n ≡ o → told_by o n ≡ Some w → StillRow V s n w
      go (Some o) h f = by o h (never_equal o n) refl f
      go None h f = absurd (cc f)

written_row : (V : Assured) (s : Seat) (n w : Tree) → V.has_this ≡ true → written s n ≡ Some w → StillRow V s n w
written_row V s n w has =
    tried (StillRow V s n) (follows_idle n) (behind_zero n) (void_written s n) w (zero_row V has s n)
    (tried (StillRow V s n) (voids_idle n) void_zero (call_written s n) w (void_row V has s n)
    (tried (StillRow V s n) (calls_either false n) (called n) (assignment_written s n) w (call_row V has s n)
    (tried (StillRow V s n) (assigns_choice s n) (assigned n) (type_written n) w (choice_row V has s n) (type_row V has s n w))))

-- ---- and what a row reads is written

-- behind those that come first
module _ (s : Seat) (n : Tree) where
  after_void : is_some (call_written s n) ≡ true → is_some (written s n) ≡ true
  after_void h = later_true (follows_idle n) (behind_zero n) (void_written s n) (later_true (voids_idle n) void_zero (call_written s n) h)

  after_call : is_some (assignment_written s n) ≡ true → is_some (written s n) ≡ true
  after_call h = after_void (later_true (calls_either false n) (called n) (assignment_written s n) h)

  by_choice : assigns_choice s n ≡ true → is_some (written s n) ≡ true
  by_choice h = after_call (first_true (assigns_choice s n) (assigned n) (type_written n) h)

  -- of an assignment
  by_either : is_seated s && assigns_either false n ≡ true → is_some (written s n) ≡ true
  by_either h = let (seated, either) = and_parts (is_seated s) (assigns_either false n) h in by_choice (both_true (is_seated s) (assigns_either false n || indexes_either false n) seated (ap (λ b. b || indexes_either false n) either))

  by_indexed : is_seated s && indexes_either false n ≡ true → is_some (written s n) ≡ true
  by_indexed h = let (seated, either) = and_parts (is_seated s) (indexes_either false n) h in by_choice (both_true (is_seated s) (assigns_either false n || indexes_either false n) seated (or_true (assigns_either false n) (indexes_either false n) either))

passes : (V : Assured) (s : Seat) (n w : Tree) → StillRow V s n w → is_some (written s n) ≡ true
passes V s n w (inl r) =
    first_true (follows_idle n) (behind_zero n) (void_written s n)
    (ap follows_idle r.row.shape
    ∙ both_true (is_idle r.row.idle) (outweighs_zero passed_part_seat r.row.idle) (both_true (ef false r.row.idle) (leaves_nothing r.row.idle) r.row.effect_free r.row.dropped) r.heavy)
passes V s n w (inr (inl r)) =
    later_true (follows_idle n) (behind_zero n) (void_written s n) (first_true (voids_idle n) void_zero (call_written s n)
    (ap voids_idle r.shape
    ∙ both_true (is_idle r.operand) (outweighs_zero (unary_operand_seat Void) r.operand) (both_true (ef false r.operand) (leaves_nothing r.operand) r.effect_free r.dropped) r.heavy))
passes V s n w (inr (inr (inl r))) = after_void s n (first_true (calls_either false n) (called n) (assignment_written s n) (ap (calls_either false) r.row.shape ∙ called_passes false n w r.row))
passes V s n w (inr (inr (inr (inl r)))) =
    after_call s n (later_true (assigns_choice s n) (assigned n) (type_written n)
    (ap (λ t. is_some (type_written t)) r.row.shape
    ∙ ap (λ b. is_some (if b then Some (negated_digit (not (says_equal r.row.operator))) else None)) (both_true (is_equality r.row.operator) _ r.row.equality (never_passes false n w r.row))))
passes V s n w (inr (inr (inr (inr r)))) = chosen r.row
  where
    chosen : ChosenRow false s n w ⊎ (ChosenMemberRow false s n w ⊎ ChosenIndexedRow false s n w) → is_some (written s n) ≡ true
    chosen (inl c) = by_either s n (ap (λ t. is_seated s && assigns_either false t) c.shape ∙ chosen_passes false s c.seated c.operator c.a c.name c.b c.c c.chosen)
    chosen (inr (inl c)) = by_either s n (ap (λ t. is_seated s && assigns_either false t) c.shape ∙ chosen_member_passes false s c.seated c.a c.name c.key c.b c.c c.declared c.effect_free)
    chosen (inr (inr c)) = by_indexed s n (ap (λ t. is_seated s && indexes_either false t) c.shape ∙ indexed_passes false s n w c)

has_it : (V : Assured) (s : Seat) (n w : Tree) → StillRow V s n w → V.has_this ≡ true
has_it V s n w (inl r) = r.kept
has_it V s n w (inr (inl r)) = r.kept
has_it V s n w (inr (inr (inl r))) = r.kept
has_it V s n w (inr (inr (inr (inl r)))) = r.kept
has_it V s n w (inr (inr (inr (inr r)))) = r.kept

unread : (V : Assured) (s : Seat) (n : Tree) → written_in V s n ≡ None → (w : Tree) → StillRow V s n w → ⊥
unread V s n e w r = true≢false (sym (chosen V.has_this (written s n) (has_it V s n w r) (passes V s n w r)) ∙ ap is_some e)

-- ---- at an expression in its seat

none_there : (o : Option Tree) → false ≡ is_some o → o ≡ None
none_there None f = refl
none_there (Some w) f = absurd (true≢false (sym f))

-- where no row of members reads it, and no part of it goes
pub still_applied : (edition : ℕ) (V : Assured) (s : Seat) (t m l u : Tree) (b : Bool) → m ≡ unwrap_or (members.written edition V s t) t → false ≡ is_some (members.written edition V s t) → LosesIn V s m l false → u ≡ unwrap_or (written_in V s l) l → b ≡ is_some (written_in V s l) → AppliedHere (SteadyRowsIn edition V) (Expr s) t u b
still_applied edition V s t m l u b e f g h k =
    let absent = none_there (members.written edition V s t) f in
    let first = e ∙ ap (λ o. unwrap_or o t) absent in
    let same = g.0 ∙ first in
    go (written_in V s t) refl absent (subst (λ x. (w : Tree) → IdleRow V s x w → ⊥) first g.1) (h ∙ ap (λ x. unwrap_or (written_in V s x) x) same) (k ∙ ap (λ x. is_some (written_in V s x)) same)
  where
    go : (o : Option Tree) → written_in V s t ≡ o → members.written edition V s t ≡ None → ((w : Tree) → IdleRow V s t w → ⊥) → u ≡ unwrap_or (written_in V s t) t → b ≡ is_some (written_in V s t) → AppliedHere (SteadyRowsIn edition V) (Expr s) t u b
    go (Some w) p absent rests h k =
        let (has, made) = chosen_is V.has_this (written s t) w p in
        subst (AppliedHere (SteadyRowsIn edition V) (Expr s) t u) (sym (k ∙ ap is_some p)) (once t u (inr (inr (subst (StillRow V s t) (sym (h ∙ ap (λ o. unwrap_or o t) p)) (written_row V s t w has made))), tt))
    go None p absent rests h k = subst (AppliedHere (SteadyRowsIn edition V) (Expr s) t u) (sym (k ∙ ap is_some p)) (h ∙ ap (λ o. unwrap_or o t) p, none)
      where
        none : (w : Tree) → SteadyRowsIn edition V (Expr s) t w → ⊥
        none w (inl r, a) = unwritten_rests edition V s t absent w (r, a)
        none w (inr (inl r), a) = rests w r
        none w (inr (inr r), a) = unread V s t p w r
