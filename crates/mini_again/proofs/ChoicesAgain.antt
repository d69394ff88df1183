-- Rows of choices read a node that is read again.
use Rattle.mini_again.proofs.ChainEndsAgain.{end_row_again}
use Rattle.mini_again.proofs.ChainLinksAgain.{chain_row_again}
use Rattle.mini_again.proofs.ChainsAgain.{row46_chain_again}
use Rattle.mini_again.proofs.ModelPathsAgain.{append_again}
use Rattle.mini_again.proofs.Names.{none_again}
use Rattle.mini_again.proofs.NestingAgain.{is_shallow_again}
use Rattle.mini_again.proofs.SpellingsAgain.{is_undefined_again}
use Rattle.mini_again.proofs.TermEffectsAgain.{ef_again}
use Rattle.mini_again.proofs.TermFoldsAgain.{goes_on_again}
use Rattle.mini_again.proofs.TermPartsAgain.{leaves_nothing_again}
use Rattle.mini_again.proofs.TermReadingAgain.{is_item_again, is_plain_part_again}
use Rattle.mini_again.specs.Again.{Renaming, again, all_again, option_again}
use Rattle.mini_laws.specs.Renaming.{rename_name}
use Rattle.mini_model.specs.Tree.{Tree, Trees, conditional, identifier, logical, node, none, ◌▸◌}
use Rattle.mini_model.specs.declared.name.Name.{Name}
use Rattle.mini_model.specs.declared.operator.LogicalOperator.{LogicalOperator}
use Rattle.mini_model.specs.declared.place.Position.{Position}
use Rattle.mini_model.specs.declared.place.Position.TheVariants.{Expr}
use Rattle.mini_model.specs.declared.seat.Seat.{Seat}
use Rattle.mini_rows.specs.Editions.{LighterIn, ChoiceIn}
use Rattle.mini_rows.specs.Choices.{AreNullish, CallRow, ChoiceRow, ChosenIndexedRow, ChosenMemberRow, ChosenRow, HeldRow, Key, LighterRow, Named, Numbered, OwnRow, Row13Both, Row21Zero, Row35, Row35Member, Row37, Row37After, Row38, Row38Last, Row39, Row41And, Row41Or, Row42And, Row42Or, Row43And, Row43AndThen, Row43Or, Row43OrThen, Row44, Row45, Row45Indexed, Row45Member, Row46Equal, Row46Unequal, Row49, Row57, Row57Null, Spelled, ZeroRow, argument, asks_object, assign, ended, held, is_grouped, joined, joining, member_on, null_compared, Shorter, TestedBranch, SharedBranch, OptionalChain, JoinedCall, ChainLink, ChainEnd, BothSides, ChosenIndexed, ZeroFirst, Rotated, Decided, Combined, NullishIfEqual, NullishIfUnequal, Chosen, LooseNull, LooseNullAfter, ObjectTest, ObjectTestAfter, CombinedMember, ChosenMember, DecidedLast, OrTest, AndTest, AndBoth, OrEither, LastAfterOr, LastAfterAnd, AndThenOr, OrThenAnd, Alike}
use Rattle.std.proofs.Common.{ap, inl, inr}
use Rattle.std.specs.Prelude.{ℕ, Bool, None, Option, Some, false, not, refl, true, ◌≡◌}
use Rattle.mini_model.specs.declared.shape.Shape.TheVariants as shape

pub are_nullish_again : (ρ : Renaming) (a b : Tree) → AreNullish a b → AreNullish (again ρ a) (again ρ b)
are_nullish_again ρ a b (inl r) = inl ((ap (again ρ) r.0, is_undefined_again ρ b r.1))
are_nullish_again ρ a b (inr r) = inr ((is_undefined_again ρ a r.0, ap (again ρ) r.1))

pub argument_again : (ρ : Renaming) (b : Bool) (p : Tree) → argument b (again ρ p) ≡ again ρ (argument b p)
argument_again ρ false p = refl
argument_again ρ true p = refl

pub call_row_again : (ρ : Renaming) (asked : Bool) (n w : Tree) → CallRow asked n w → CallRow asked (again ρ n) (again ρ w)
call_row_again ρ asked n w r = record {
  a = again ρ r.a;
  callee = again ρ r.callee;
  is_spread = r.is_spread;
  p = again ρ r.p;
  q = again ρ r.q;
  others = all_again ρ r.others;
  plain = simp (is_plain_part_again ρ r.callee) r.plain;
  idle = simp (ef_again ρ asked r.callee) r.idle;
  effect_free = simp (ef_again ρ asked r.a) r.effect_free;
  first = simp (is_item_again ρ r.p) r.first;
  second = simp (is_item_again ρ r.q) r.second;
  shape = simp (← (argument_again ρ r.is_spread r.p), ← (argument_again ρ r.is_spread r.q)) at (ap (again ρ) r.shape);
  written = simp (← (argument_again ρ r.is_spread (conditional r.a r.p r.q))) at (ap (again ρ) r.written);
}

pub row42_and_again : (ρ : Renaming) (n w : Tree) → Row42And n w → Row42And (again ρ n) (again ρ w)
row42_and_again ρ n w r = record {
  a = again ρ r.a;
  b = again ρ r.b;
  c = again ρ r.c;
  d = again ρ r.d;
  shallow = simp (is_shallow_again ρ 499 r.a, is_shallow_again ρ 499 r.b) r.shallow;
  shape = ap (again ρ) r.shape;
  written = ap (again ρ) r.written;
}

pub row42_or_again : (ρ : Renaming) (n w : Tree) → Row42Or n w → Row42Or (again ρ n) (again ρ w)
row42_or_again ρ n w r = record {
  a = again ρ r.a;
  b = again ρ r.b;
  c = again ρ r.c;
  d = again ρ r.d;
  shallow = simp (is_shallow_again ρ 499 r.a, is_shallow_again ρ 499 r.b) r.shallow;
  shape = ap (again ρ) r.shape;
  written = ap (again ρ) r.written;
}

pub row43_and_again : (ρ : Renaming) (n w : Tree) → Row43And n w → Row43And (again ρ n) (again ρ w)
row43_and_again ρ n w r = record {
  a = again ρ r.a;
  b = again ρ r.b;
  c = again ρ r.c;
  shape = ap (again ρ) r.shape;
  written = ap (again ρ) r.written;
}

pub row43_and_then_again : (ρ : Renaming) (n w : Tree) → Row43AndThen n w → Row43AndThen (again ρ n) (again ρ w)
row43_and_then_again ρ n w r = record {
  a = again ρ r.a;
  b = again ρ r.b;
  c = again ρ r.c;
  shape = ap (again ρ) r.shape;
  written = ap (again ρ) r.written;
}

pub row43_or_again : (ρ : Renaming) (n w : Tree) → Row43Or n w → Row43Or (again ρ n) (again ρ w)
row43_or_again ρ n w r = record {
  a = again ρ r.a;
  b = again ρ r.b;
  c = again ρ r.c;
  shape = ap (again ρ) r.shape;
  written = ap (again ρ) r.written;
}

pub row43_or_then_again : (ρ : Renaming) (n w : Tree) → Row43OrThen n w → Row43OrThen (again ρ n) (again ρ w)
row43_or_then_again ρ n w r = record {
  a = again ρ r.a;
  b = again ρ r.b;
  c = again ρ r.c;
  shape = ap (again ρ) r.shape;
  written = ap (again ρ) r.written;
}

pub row49_again : (ρ : Renaming) (n w : Tree) → Row49 n w → Row49 (again ρ n) (again ρ w)
row49_again ρ n w r = record {
  a = again ρ r.a;
  b = again ρ r.b;
  shape = ap (again ρ) r.shape;
  written = ap (again ρ) r.written;
}

pub held_row_again : (ρ : Renaming) (n w : Tree) → HeldRow n w → HeldRow (again ρ n) (again ρ w)
held_row_again ρ n w (AndBoth r) = AndBoth (row42_and_again ρ n w r)
held_row_again ρ n w (OrEither r) = OrEither (row42_or_again ρ n w r)
held_row_again ρ n w (LastAfterOr r) = LastAfterOr (row43_or_again ρ n w r)
held_row_again ρ n w (LastAfterAnd r) = LastAfterAnd (row43_and_again ρ n w r)
held_row_again ρ n w (AndThenOr r) = AndThenOr (row43_and_then_again ρ n w r)
held_row_again ρ n w (OrThenAnd r) = OrThenAnd (row43_or_then_again ρ n w r)
held_row_again ρ n w (Alike r) = Alike (row49_again ρ n w r)

pub row35_again : (ρ : Renaming) (n w : Tree) → Row35 n w → Row35 (again ρ n) (again ρ w)
row35_again ρ n w r = record {
  operator = r.operator;
  combined = r.combined;
  name = rename_name ρ.symbol r.name;
  b = again ρ r.b;
  computes = r.computes;
  shape = ap (again ρ) r.shape;
  written = ap (again ρ) r.written;
}

pub member_on_again : (ρ : Renaming) (t : Tree) (k : Key) → member_on (again ρ t) k ≡ again ρ (member_on t k)
member_on_again ρ t (Named s) = refl
member_on_again ρ t (Spelled s) = refl
member_on_again ρ t (Numbered k) = refl

pub row35_member_again : (ρ : Renaming) (n w : Tree) → Row35Member n w → Row35Member (again ρ n) (again ρ w)
row35_member_again ρ n w r = record {
  operator = r.operator;
  combined = r.combined;
  name = rename_name ρ.symbol r.name;
  key = r.key;
  b = again ρ r.b;
  computes = r.computes;
  declared = simp (none_again ρ r.name.symbol) r.declared;
  shape = simp (← (member_on_again ρ (identifier r.name) r.key)) at (ap (again ρ) r.shape);
  written = simp (← (member_on_again ρ (identifier r.name) r.key)) at (ap (again ρ) r.written);
}

pub row37_again : (ρ : Renaming) (n w : Tree) → Row37 n w → Row37 (again ρ n) (again ρ w)
row37_again ρ n w r = record {
  equal = r.equal;
  name = rename_name ρ.symbol r.name;
  first = again ρ r.first;
  second = again ρ r.second;
  nullish = are_nullish_again ρ r.first r.second r.nullish;
  shape = ap (again ρ) r.shape;
  written = ap (again ρ) r.written;
}

pub row37_after_again : (ρ : Renaming) (n w : Tree) → Row37After n w → Row37After (again ρ n) (again ρ w)
row37_after_again ρ n w r = record {
  equal = r.equal;
  before = again ρ r.before;
  name = rename_name ρ.symbol r.name;
  first = again ρ r.first;
  second = again ρ r.second;
  nullish = are_nullish_again ρ r.first r.second r.nullish;
  shape = ap (again ρ) r.shape;
  written = ap (again ρ) r.written;
}

pub row38_again : (ρ : Renaming) (n w : Tree) → Row38 n w → Row38 (again ρ n) (again ρ w)
row38_again ρ n w r = record {
  operator = r.operator;
  name = rename_name ρ.symbol r.name;
  b = again ρ r.b;
  shape = ap (again ρ) r.shape;
  written = ap (again ρ) r.written;
}

pub row38_last_again : (ρ : Renaming) (s : Seat) (n w : Tree) → Row38Last s n w → Row38Last s (again ρ n) (again ρ w)
row38_last_again ρ s n w r = record {
  operator = r.operator;
  name = rename_name ρ.symbol r.name;
  first = again ρ r.first;
  others = all_again ρ r.others;
  b = again ρ r.b;
  seated = r.seated;
  shape = simp (← (append_again ρ r.others (assign r.name r.b ▸ none))) at (ap (again ρ) r.shape);
  written = simp (← (append_again ρ r.others (r.b ▸ none))) at (ap (again ρ) r.written);
}

pub is_grouped_again : (ρ : Renaming) (o : LogicalOperator) (t : Tree) → is_grouped o (again ρ t) ≡ is_grouped o t
is_grouped_again ρ o (node (shape.LogicalExpression p) xs n ts) = refl
is_grouped_again ρ o (node shape.InnerExpression xs n ts) = refl
is_grouped_again ρ o _ = refl

pub joined_again : (ρ : Renaming) (o : LogicalOperator) (b : Tree) (ts : Trees) → joined o (again ρ b) (all_again ρ ts) ≡ again ρ (joined o b ts)
joined_again ρ o b none = refl
joined_again ρ o b (c ▸ cs) = simp (joined_again ρ o b cs)

pub row39_again : (ρ : Renaming) (n w : Tree) → Row39 n w → Row39 (again ρ n) (again ρ w)
row39_again ρ n w r = record {
  operator = r.operator;
  a = again ρ r.a;
  b = again ρ r.b;
  last = again ρ r.last;
  others = all_again ρ r.others;
  ungrouped = simp (is_grouped_again ρ r.operator r.b) r.ungrouped;
  shape = simp (← (joined_again ρ r.operator r.b (r.last ▸ r.others))) at (ap (again ρ) r.shape);
  written = simp (← (joined_again ρ r.operator (logical r.operator r.a r.b) (r.last ▸ r.others))) at (ap (again ρ) r.written);
}

pub chosen_row_again : (ρ : Renaming) (asked : Bool) (s : Seat) (n w : Tree) → ChosenRow asked s n w → ChosenRow asked s (again ρ n) (again ρ w)
chosen_row_again ρ asked s n w r = record {
  operator = r.operator;
  a = again ρ r.a;
  name = rename_name ρ.symbol r.name;
  b = again ρ r.b;
  c = again ρ r.c;
  chosen = simp (none_again ρ r.name.symbol, ef_again ρ asked r.a) r.chosen;
  seated = r.seated;
  shape = ap (again ρ) r.shape;
  written = ap (again ρ) r.written;
}

pub row45_again : (ρ : Renaming) (s : Seat) (t u : Tree) → Row45 s t u → Row45 s (again ρ t) (again ρ u)
row45_again ρ r = chosen_row_again ρ true r

pub chosen_member_row_again : (ρ : Renaming) (asked : Bool) (s : Seat) (n w : Tree) → ChosenMemberRow asked s n w → ChosenMemberRow asked s (again ρ n) (again ρ w)
chosen_member_row_again ρ asked s n w r = record {
  a = again ρ r.a;
  name = rename_name ρ.symbol r.name;
  key = r.key;
  b = again ρ r.b;
  c = again ρ r.c;
  declared = simp (none_again ρ r.name.symbol) r.declared;
  effect_free = simp (ef_again ρ asked r.a) r.effect_free;
  seated = r.seated;
  shape = simp (← (member_on_again ρ (identifier r.name) r.key)) at (ap (again ρ) r.shape);
  written = simp (← (member_on_again ρ (identifier r.name) r.key)) at (ap (again ρ) r.written);
}

pub row45_member_again : (ρ : Renaming) (s : Seat) (t u : Tree) → Row45Member s t u → Row45Member s (again ρ t) (again ρ u)
row45_member_again ρ r = chosen_member_row_again ρ true r

pub row46_equal_again : (ρ : Renaming) (n w : Tree) → Row46Equal n w → Row46Equal (again ρ n) (again ρ w)
row46_equal_again ρ n w r = record {
  name = rename_name ρ.symbol r.name;
  b = again ρ r.b;
  declared = simp (none_again ρ r.name.symbol) r.declared;
  shape = ap (again ρ) r.shape;
  written = ap (again ρ) r.written;
}

pub row46_unequal_again : (ρ : Renaming) (n w : Tree) → Row46Unequal n w → Row46Unequal (again ρ n) (again ρ w)
row46_unequal_again ρ n w r = record {
  name = rename_name ρ.symbol r.name;
  b = again ρ r.b;
  declared = simp (none_again ρ r.name.symbol) r.declared;
  shape = ap (again ρ) r.shape;
  written = ap (again ρ) r.written;
}

pub ended_again : (ρ : Renaming) (o : LogicalOperator) (t : Option Tree) (u : Tree) → ended o (option_again ρ t) (again ρ u) ≡ again ρ (ended o t u)
ended_again ρ o None t = refl
ended_again ρ o (Some b) t = refl

pub held_again : (ρ : Renaming) (b : Bool) (x : Name) → held b (rename_name ρ.symbol x) ≡ again ρ (held b x)
held_again ρ true x = refl
held_again ρ false x = refl

pub null_compared_again : (ρ : Renaming) (b equal : Bool) (x : Name) → null_compared b equal (rename_name ρ.symbol x) ≡ again ρ (null_compared b equal x)
null_compared_again ρ true equal x = refl
null_compared_again ρ false equal x = refl

pub row57_again : (ρ : Renaming) (n w : Tree) → Row57 n w → Row57 (again ρ n) (again ρ w)
row57_again ρ n w r = record {
  there = r.there;
  strict = r.strict;
  before = option_again ρ r.before;
  name = rename_name ρ.symbol r.name;
  declared = simp (none_again ρ r.name.symbol) r.declared;
  shape = simp (← (ended_again ρ (joining (not r.there)) r.before (asks_object r.there r.name)), ← (null_compared_again ρ r.strict (not r.there) r.name)) at (ap (again ρ) r.shape);
  written = simp (← (ended_again ρ (joining (not r.there)) r.before (asks_object r.there r.name)), ← (held_again ρ r.there r.name)) at (ap (again ρ) r.written);
}

pub row57_null_again : (ρ : Renaming) (n w : Tree) → Row57Null n w → Row57Null (again ρ n) (again ρ w)
row57_null_again ρ n w r = record {
  there = r.there;
  strict = r.strict;
  before = option_again ρ r.before;
  name = rename_name ρ.symbol r.name;
  declared = simp (none_again ρ r.name.symbol) r.declared;
  shape = simp (← (null_compared_again ρ r.strict (not r.there) r.name), ← (ended_again ρ (joining (not r.there)) r.before (null_compared r.strict (not r.there) r.name))) at (ap (again ρ) r.shape);
  written = simp (← (held_again ρ r.there r.name), ← (ended_again ρ (joining (not r.there)) r.before (held r.there r.name))) at (ap (again ρ) r.written);
}

pub lighter_row_again : (ρ : Renaming) (s : Seat) (n w : Tree) → LighterRow s n w → LighterRow s (again ρ n) (again ρ w)
lighter_row_again ρ s n w (Rotated r) = Rotated (row39_again ρ n w r)
lighter_row_again ρ s n w (Decided r) = Decided (row38_again ρ n w r)
lighter_row_again ρ s n w (Combined r) = Combined (row35_again ρ n w r)
lighter_row_again ρ s n w (NullishIfEqual r) = NullishIfEqual (row46_equal_again ρ n w r)
lighter_row_again ρ s n w (NullishIfUnequal r) = NullishIfUnequal (row46_unequal_again ρ n w r)
lighter_row_again ρ s n w (Chosen r) = Chosen (row45_again ρ s n w r)
lighter_row_again ρ s n w (LooseNull r) = LooseNull (row37_again ρ n w r)
lighter_row_again ρ s n w (LooseNullAfter r) = LooseNullAfter (row37_after_again ρ n w r)
lighter_row_again ρ s n w (ObjectTest r) = ObjectTest (row57_again ρ n w r)
lighter_row_again ρ s n w (ObjectTestAfter r) = ObjectTestAfter (row57_null_again ρ n w r)
lighter_row_again ρ s n w (CombinedMember r) = CombinedMember (row35_member_again ρ n w r)
lighter_row_again ρ s n w (ChosenMember r) = ChosenMember (row45_member_again ρ s n w r)
lighter_row_again ρ s n w (DecidedLast r) = DecidedLast (row38_last_again ρ s n w r)

pub row41_and_again : (ρ : Renaming) (n w : Tree) → Row41And n w → Row41And (again ρ n) (again ρ w)
row41_and_again ρ n w r = record {
  name = rename_name ρ.symbol r.name;
  b = again ρ r.b;
  shape = ap (again ρ) r.shape;
  written = ap (again ρ) r.written;
}

pub row41_or_again : (ρ : Renaming) (n w : Tree) → Row41Or n w → Row41Or (again ρ n) (again ρ w)
row41_or_again ρ n w r = record {
  name = rename_name ρ.symbol r.name;
  b = again ρ r.b;
  shape = ap (again ρ) r.shape;
  written = ap (again ρ) r.written;
}

pub own_row_again : (ρ : Renaming) (n w : Tree) → OwnRow n w → OwnRow (again ρ n) (again ρ w)
own_row_again ρ n w (OrTest r) = OrTest (row41_or_again ρ n w r)
own_row_again ρ n w (AndTest r) = AndTest (row41_and_again ρ n w r)

pub row13_both_again : (ρ : Renaming) (n w : Tree) → Row13Both n w → Row13Both (again ρ n) (again ρ w)
row13_both_again ρ n w r = record {
  operator = r.operator;
  left = again ρ r.left;
  right = again ρ r.right;
  known = simp (goes_on_again ρ r.operator r.left) r.known;
  shape = ap (again ρ) r.shape;
  written = ap (again ρ) r.written;
}

unfoldable pub zero_row_again : (ρ : Renaming) (asked : Bool) (n w : Tree) → ZeroRow asked n w → ZeroRow asked (again ρ n) (again ρ w)
zero_row_again ρ asked n w r = record {
  idle = again ρ r.idle;
  last = again ρ r.last;
  effect_free = simp (ef_again ρ asked r.idle) r.effect_free;
  dropped = simp (leaves_nothing_again ρ r.idle) r.dropped;
  shape = ap (again ρ) r.shape;
  written = ap (again ρ) r.written;
}

pub row21_zero_again : (ρ : Renaming) (t u : Tree) → Row21Zero t u → Row21Zero (again ρ t) (again ρ u)
row21_zero_again ρ r = zero_row_again ρ true r

pub row44_again : (ρ : Renaming) (t u : Tree) → Row44 t u → Row44 (again ρ t) (again ρ u)
row44_again ρ r = call_row_again ρ true r

pub chosen_indexed_row_again : (ρ : Renaming) (asked : Bool) (s : Seat) (n w : Tree) → ChosenIndexedRow asked s n w → ChosenIndexedRow asked s (again ρ n) (again ρ w)
chosen_indexed_row_again ρ asked s n w r = record {
  a = again ρ r.a;
  name = rename_name ρ.symbol r.name;
  key = again ρ r.key;
  b = again ρ r.b;
  c = again ρ r.c;
  declared = simp (none_again ρ r.name.symbol) r.declared;
  effect_free = simp (ef_again ρ asked r.a) r.effect_free;
  idle = simp (ef_again ρ asked r.key) r.idle;
  seated = r.seated;
  shape = ap (again ρ) r.shape;
  written = ap (again ρ) r.written;
}

pub row45_indexed_again : (ρ : Renaming) (s : Seat) (t u : Tree) → Row45Indexed s t u → Row45Indexed s (again ρ t) (again ρ u)
row45_indexed_again ρ r = chosen_indexed_row_again ρ true r

pub choice_row_again : (ρ : Renaming) (p : Position) (n w : Tree) → ChoiceRow p n w → ChoiceRow p (again ρ n) (again ρ w)
choice_row_again ρ (Expr s) n w (Shorter r) = Shorter (lighter_row_again ρ s n w r)
choice_row_again ρ (Expr s) n w (TestedBranch r) = TestedBranch (own_row_again ρ n w r)
choice_row_again ρ (Expr s) n w (SharedBranch r) = SharedBranch (held_row_again ρ n w r)
choice_row_again ρ (Expr s) n w (OptionalChain r) = OptionalChain (row46_chain_again ρ s n w r)
choice_row_again ρ (Expr s) n w (JoinedCall r) = JoinedCall (row44_again ρ n w r)
choice_row_again ρ (Expr s) n w (ChainLink r) = ChainLink (chain_row_again ρ s n w r)
choice_row_again ρ (Expr s) n w (ChainEnd r) = ChainEnd (end_row_again ρ n w r)
choice_row_again ρ (Expr s) n w (BothSides r) = BothSides (row13_both_again ρ n w r)
choice_row_again ρ (Expr s) n w (ChosenIndexed r) = ChosenIndexed (row45_indexed_again ρ s n w r)
choice_row_again ρ (Expr s) n w (ZeroFirst r) = ZeroFirst (row21_zero_again ρ n w r)
choice_row_again ρ p0 n w r = absurd r

-- the edition that has the form of what it writes has that of what is written again

lighter_in_again : (e : ℕ) (ρ : Renaming) (s : Seat) (n w : Tree) (r : LighterRow s n w) → LighterIn e s n w r → LighterIn e s (again ρ n) (again ρ w) (lighter_row_again ρ s n w r)
unfolding lighter_row_again
lighter_in_again e ρ s n w (Decided r) a = a
lighter_in_again e ρ s n w (DecidedLast r) a = a
lighter_in_again e ρ s n w (NullishIfEqual r) a = a
lighter_in_again e ρ s n w (NullishIfUnequal r) a = a
lighter_in_again e ρ s n w r a = tt

pub choice_in_again : (e : ℕ) (ρ : Renaming) (p : Position) (n w : Tree) (r : ChoiceRow p n w) → ChoiceIn e p n w r → ChoiceIn e p (again ρ n) (again ρ w) (choice_row_again ρ p n w r)
unfolding choice_row_again
choice_in_again e ρ (Expr s) n w (Shorter r) a = lighter_in_again e ρ s n w r a
choice_in_again e ρ (Expr s) n w (OptionalChain r) a = a
choice_in_again e ρ p n w r a = tt
