-- Rows of names that can be written read a node that is read again.
use Rattle.mini_again.proofs.ChainsAgain.{again_link, are_calm_links_again, is_calm_again, spine_again}
use Rattle.mini_again.proofs.ChoicesAgain.{are_nullish_again, ended_again}
use Rattle.mini_again.proofs.ModelWeightAgain.{weight_again}
use Rattle.mini_again.proofs.Names.{if_again}
use Rattle.mini_again.proofs.SpellingsAgain.{is_undefined_again}
use Rattle.mini_again.proofs.TermExactAgain.{is_guarded_again}
use Rattle.mini_again.specs.Again.{Renaming, again, option_again, with_others_in}
use Rattle.mini_laws.specs.Value.{VariableSet}
use Rattle.mini_model.specs.Tree.{Tree, identifier, null_literal}
use Rattle.mini_model.specs.declared.place.Position.{Position}
use Rattle.mini_model.specs.declared.place.Position.TheVariants.{Expr}
use Rattle.mini_model.specs.declared.seat.Seat.{Seat}
use Rattle.mini_rows.specs.Chains.{chain, spine}
use Rattle.mini_rows.specs.Choices.{assign, joining, loosely, strictly}
use Rattle.mini_rows.specs.Lists.{resolved}
use Rattle.mini_rows.specs.Spellings.{binary}
use Rattle.mini_rows.specs.Editions.{WriteIn, WritesIn}
use Rattle.mini_rows.specs.Writes.{Row34, Row37Assigned, Row46Assigned, Row46AssignedChain, WriteContracts, WriteRow, if_null}
use Rattle.mini_terms.specs.Exact.{by_value, is_guarded}
use Rattle.std.proofs.Common.{ap, inl, inr}
use Rattle.std.specs.Prelude.{ℕ, Bool, false, map, refl, true, ◌≡◌}

pub row34_again : (ρ : Renaming) (W : VariableSet) (n w : Tree) → Row34 (with_others_in ρ W) n w → Row34 W (again ρ n) (again ρ w)
row34_again ρ W n w r = record {
  operator = r.operator;
  spelling = r.spelling;
  symbol = ρ.symbol r.symbol;
  b = again ρ r.b;
  writable = r.writable;
  shape = ap (again ρ) r.shape;
  written = ap (again ρ) r.written;
}

pub row37_assigned_again : (ρ : Renaming) (W : VariableSet) (n w : Tree) → Row37Assigned (with_others_in ρ W) n w → Row37Assigned W (again ρ n) (again ρ w)
row37_assigned_again ρ W n w r = record {
  equal = r.equal;
  before = option_again ρ r.before;
  spelling = r.spelling;
  symbol = ρ.symbol r.symbol;
  a = again ρ r.a;
  first = again ρ r.first;
  second = again ρ r.second;
  writable = r.writable;
  nullish = are_nullish_again ρ r.first r.second r.nullish;
  shape = simp (← (ended_again ρ (joining r.equal) r.before (binary (strictly r.equal) (assign (resolved r.spelling r.symbol) r.a) r.first))) at (ap (again ρ) r.shape);
  written = simp (← (ended_again ρ (joining r.equal) r.before (binary (loosely r.equal) (assign (resolved r.spelling r.symbol) r.a) null_literal))) at (ap (again ρ) r.written);
}

pub if_null_again : (ρ : Renaming) (b : Bool) (t u y : Tree) → if_null b (again ρ t) (again ρ u) (again ρ y) ≡ again ρ (if_null b t u y)
if_null_again ρ true t b y = refl
if_null_again ρ false t b y = refl

pub row46_assigned_again : (ρ : Renaming) (W : VariableSet) (n w : Tree) → Row46Assigned (with_others_in ρ W) n w → Row46Assigned W (again ρ n) (again ρ w)
row46_assigned_again ρ W n w r = record {
  equal = r.equal;
  spelling = r.spelling;
  symbol = ρ.symbol r.symbol;
  a = again ρ r.a;
  b = again ρ r.b;
  writable = r.writable;
  shape = simp (← (if_null_again ρ r.equal (assign (resolved r.spelling r.symbol) r.a) r.b (identifier (resolved r.spelling r.symbol)))) at (ap (again ρ) r.shape);
  written = ap (again ρ) r.written;
}

pub row46_assigned_chain_again : (ρ : Renaming) (W : VariableSet) (s : Seat) (n w : Tree) → Row46AssignedChain (with_others_in ρ W) s n w → Row46AssignedChain W s (again ρ n) (again ρ w)
row46_assigned_chain_again ρ W s n w r = record {
  equal = r.equal;
  spelling = r.spelling;
  symbol = ρ.symbol r.symbol;
  a = again ρ r.a;
  missing = again ρ r.missing;
  last = again_link ρ r.last;
  others = map (again_link ρ) r.others;
  writable = r.writable;
  indirect = r.indirect;
  undefined = is_undefined_again ρ r.missing r.undefined;
  calm_value = simp (is_calm_again ρ r.a) r.calm_value;
  calm = simp (are_calm_links_again ρ r.last r.others) r.calm;
  shape = simp (← (spine_again ρ false (identifier (resolved r.spelling r.symbol)) r.last r.others), ← (if_null_again ρ r.equal (assign (resolved r.spelling r.symbol) r.a) r.missing (spine false (identifier (resolved r.spelling r.symbol)) r.last r.others))) at (ap (again ρ) r.shape);
  written = simp (← (is_guarded_again ρ s.guard (chain (spine true (assign (resolved r.spelling r.symbol) r.a) r.last r.others)))) at (simp (← (if_again ρ (is_guarded s.guard (chain (spine true (assign (resolved r.spelling r.symbol) r.a) r.last r.others))) (by_value (chain (spine true (assign (resolved r.spelling r.symbol) r.a) r.last r.others))) (chain (spine true (assign (resolved r.spelling r.symbol) r.a) r.last r.others))), ← (spine_again ρ true (assign (resolved r.spelling r.symbol) r.a) r.last r.others)) at (ap (again ρ) r.written));
}

pub write_row_again : (ρ : Renaming) (W : VariableSet) (p : Position) (n w : Tree) → WriteRow (with_others_in ρ W) p n w → WriteRow W p (again ρ n) (again ρ w)
write_row_again ρ W (Expr s) n w (inl r) = inl (row34_again ρ W n w r)
write_row_again ρ W (Expr s) n w (inr (inl r)) = inr (inl (row46_assigned_again ρ W n w r))
write_row_again ρ W (Expr s) n w (inr (inr (inl r))) = inr (inr (inl (row37_assigned_again ρ W n w r)))
write_row_again ρ W (Expr s) n w (inr (inr (inr r))) = inr (inr (inr (row46_assigned_chain_again ρ W s n w r)))
write_row_again ρ W p1 n w r = absurd r

pub write_contracts_again : (ρ : Renaming) (W : VariableSet) (p : Position) (n w : Tree) → WriteContracts (with_others_in ρ W) p n w → WriteContracts W p (again ρ n) (again ρ w)
write_contracts_again ρ W p n w r = record {
  row = write_row_again ρ W p n w r.row;
  lighter = simp (weight_again ρ p w, weight_again ρ p n) r.lighter;
}

-- the edition that has the form of what it writes has that of what is written again
pub write_in_again : (e : ℕ) (ρ : Renaming) (W : VariableSet) (p : Position) (n w : Tree) (r : WriteRow (with_others_in ρ W) p n w) → WriteIn e (with_others_in ρ W) p n w r → WriteIn e W p (again ρ n) (again ρ w) (write_row_again ρ W p n w r)
unfolding write_row_again
write_in_again e ρ W (Expr s) n w (inl r) a = a
write_in_again e ρ W (Expr s) n w (inr (inl r)) a = a
write_in_again e ρ W (Expr s) n w (inr (inr (inl r))) a = tt
write_in_again e ρ W (Expr s) n w (inr (inr (inr r))) a = a
write_in_again e ρ W p n w r a = absurd r

pub writes_in_again : (e : ℕ) (ρ : Renaming) (W : VariableSet) (p : Position) (n w : Tree) → WritesIn e (with_others_in ρ W) p n w → WritesIn e W p (again ρ n) (again ρ w)
unfolding write_contracts_again
writes_in_again e ρ W p n w r = (write_contracts_again ρ W p n w r.0, write_in_again e ρ W p n w r.0.row r.1)
