-- Rows of which only the truth is asked read a node that is read again.
use Rattle.mini_again.proofs.ModelTermsAgain.{not_of_again}
use Rattle.mini_again.proofs.Names.{if_again}
use Rattle.mini_again.proofs.SpellingsAgain.{negated_digit_again}
use Rattle.mini_again.proofs.TermEffectsAgain.{ef_again}
use Rattle.mini_again.proofs.TermEvidentAgain.{evidence_again}
use Rattle.mini_again.proofs.TermFoldsAgain.{goes_on_again}
use Rattle.mini_again.proofs.TermKindAgain.{kind_again}
use Rattle.mini_again.proofs.TermPartsAgain.{leaves_nothing_again, weighs_again}
use Rattle.mini_again.proofs.TermReadingAgain.{is_plain_part_again, stands_again}
use Rattle.mini_again.specs.Again.{Renaming, again}
use Rattle.mini_model.specs.Position.{left_operand_seat}
use Rattle.mini_model.specs.Tree.{Tree, negation}
use Rattle.mini_model.specs.declared.place.Position.{Position}
use Rattle.mini_model.specs.declared.place.Position.TheVariants.{Expr}
use Rattle.mini_model.specs.declared.seat.Seat.{Seat}
use Rattle.mini_rows.specs.Booleans.{BooleanRow, ConvertedRow, JoinedRow, KnownBranch, LighterRow, Row24, Row25, Row26, Row47, Row47Both, Row48, as_boolean, chosen, digit, giving, is_truth, is_turned, plus_seat, tested, truth_of}
use Rattle.std.proofs.Common.{ap, inl, inr}
use Rattle.std.specs.Prelude.{Bool, false, not, refl, true, ◌≡◌}

pub truth_of_again : (ρ : Renaming) (b : Bool) (a : Tree) → truth_of b (again ρ a) ≡ again ρ (truth_of b a)
truth_of_again ρ true a = simp (if_again ρ (is_truth a) a (negation (negation a)), kind_again ρ a, stands_again ρ a)
truth_of_again ρ false a = refl

pub row47_both_again : (ρ : Renaming) (n w : Tree) → Row47Both n w → Row47Both (again ρ n) (again ρ w)
row47_both_again ρ n w r = record {
  truth = r.truth;
  test = again ρ r.test;
  consequent = again ρ r.consequent;
  alternate = again ρ r.alternate;
  known = simp (evidence_again ρ r.consequent, kind_again ρ r.consequent) r.known;
  otherwise = simp (evidence_again ρ r.alternate, kind_again ρ r.alternate) r.otherwise;
  effect_free = simp (ef_again ρ true r.consequent, ef_again ρ true r.alternate) r.effect_free;
  dropped = simp (leaves_nothing_again ρ r.consequent, leaves_nothing_again ρ r.alternate) r.dropped;
  boolean = simp (kind_again ρ r.consequent, kind_again ρ r.alternate) r.boolean;
  plain = simp (is_plain_part_again ρ r.test) r.plain;
  shape = ap (again ρ) r.shape;
  written = simp (← (truth_of_again ρ r.truth r.test)) at (ap (again ρ) r.written);
}

pub as_boolean_again : (ρ : Renaming) (b : Bool) (a : Tree) → as_boolean b (again ρ a) ≡ again ρ (as_boolean b a)
as_boolean_again ρ true a = simp (truth_of_again ρ true a)
as_boolean_again ρ false a = simp (not_of_again ρ plus_seat a)

pub digit_again : (ρ : Renaming) (b : Bool) → again ρ (digit b) ≡ digit b
digit_again ρ true = refl
digit_again ρ false = refl

pub row48_again : (ρ : Renaming) (n w : Tree) → Row48 n w → Row48 (again ρ n) (again ρ w)
row48_again ρ n w r = record {
  truth = r.truth;
  test = again ρ r.test;
  shape = simp (digit_again ρ r.truth, digit_again ρ (not r.truth)) at (ap (again ρ) r.shape);
  written = simp (← (as_boolean_again ρ r.truth r.test)) at (ap (again ρ) r.written);
}

pub converted_row_again : (ρ : Renaming) (n w : Tree) → ConvertedRow n w → ConvertedRow (again ρ n) (again ρ w)
converted_row_again ρ n w (inl r) = inl (row47_both_again ρ n w r)
converted_row_again ρ n w (inr r) = inr (row48_again ρ n w r)

pub chosen_again : (ρ : Renaming) (b : Bool) (a known t : Tree) → chosen b (again ρ a) (again ρ known) (again ρ t) ≡ again ρ (chosen b a known t)
chosen_again ρ true a known b = refl
chosen_again ρ false a known b = refl

pub tested_again : (ρ : Renaming) (s : Seat) (b : Bool) (a : Tree) → tested s b (again ρ a) ≡ again ρ (tested s b a)
tested_again ρ s true a = simp (not_of_again ρ s a)
tested_again ρ s false a = refl

pub known_branch_again : (ρ : Renaming) (s : Seat) (n w : Tree) → KnownBranch s n w → KnownBranch s (again ρ n) (again ρ w)
known_branch_again ρ s n w r = record {
  is_consequent = r.is_consequent;
  truth = r.truth;
  test = again ρ r.test;
  branch = again ρ r.branch;
  other = again ρ r.other;
  known = simp (evidence_again ρ r.branch, kind_again ρ r.branch) r.known;
  effect_free = simp (ef_again ρ true r.branch) r.effect_free;
  dropped = simp (leaves_nothing_again ρ r.branch) r.dropped;
  shape = simp (← (chosen_again ρ r.is_consequent r.test r.branch r.other)) at (ap (again ρ) r.shape);
  written = simp (← (tested_again ρ (left_operand_seat (giving r.truth) s) (is_turned r.is_consequent r.truth) r.test)) at (ap (again ρ) r.written);
}

pub row26_again : (ρ : Renaming) (s : Seat) (n w : Tree) → Row26 s n w → Row26 s (again ρ n) (again ρ w)
row26_again ρ s n w r = record {
  form = known_branch_again ρ s n w r.form;
  asked = r.asked;
}

pub row47_again : (ρ : Renaming) (s : Seat) (n w : Tree) → Row47 s n w → Row47 s (again ρ n) (again ρ w)
unfolding known_branch_again
row47_again ρ s n w r = record {
  form = known_branch_again ρ s n w r.form;
  boolean = simp (kind_again ρ r.form.branch) r.boolean;
  told = simp (kind_again ρ r.form.test) r.told;
}

pub joined_row_again : (ρ : Renaming) (s : Seat) (n w : Tree) → JoinedRow s n w → JoinedRow s (again ρ n) (again ρ w)
joined_row_again ρ s n w (inl r) = inl (row26_again ρ s n w r)
joined_row_again ρ s n w (inr r) = inr (row47_again ρ s n w r)

pub row24_again : (ρ : Renaming) (s : Seat) (n w : Tree) → Row24 s n w → Row24 s (again ρ n) (again ρ w)
row24_again ρ s n w r = record {
  truth = r.truth;
  asked = r.asked;
  shape = simp (negated_digit_again ρ r.truth) at (ap (again ρ) r.shape);
  written = simp (digit_again ρ r.truth) at (ap (again ρ) r.written);
}

pub row25_again : (ρ : Renaming) (s : Seat) (n w : Tree) → Row25 s n w → Row25 s (again ρ n) (again ρ w)
row25_again ρ s n w r = record {
  operator = r.operator;
  left = again ρ r.left;
  right = again ρ r.right;
  asked = r.asked;
  tells = r.tells;
  known = simp (goes_on_again ρ r.operator r.right) r.known;
  effect_free = simp (ef_again ρ true r.right) r.effect_free;
  dropped = simp (leaves_nothing_again ρ r.right) r.dropped;
  heavy = simp (weighs_again ρ r.right) r.heavy;
  plain = simp (is_plain_part_again ρ r.left) r.plain;
  shape = ap (again ρ) r.shape;
  written = ap (again ρ) r.written;
}

pub lighter_row_again : (ρ : Renaming) (s : Seat) (n w : Tree) → LighterRow s n w → LighterRow s (again ρ n) (again ρ w)
lighter_row_again ρ s n w (inl r) = inl (row24_again ρ s n w r)
lighter_row_again ρ s n w (inr r) = inr (row25_again ρ s n w r)

pub boolean_row_again : (ρ : Renaming) (p : Position) (n w : Tree) → BooleanRow p n w → BooleanRow p (again ρ n) (again ρ w)
boolean_row_again ρ (Expr s) n w (inl r) = inl (lighter_row_again ρ s n w r)
boolean_row_again ρ (Expr s) n w (inr (inl r)) = inr (inl (joined_row_again ρ s n w r))
boolean_row_again ρ (Expr s) n w (inr (inr r)) = inr (inr (converted_row_again ρ n w r))
boolean_row_again ρ p0 n w r = absurd r
