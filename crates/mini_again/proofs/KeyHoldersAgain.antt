-- Rows of the keys of patterns and classes read a node that is read again.
use Rattle.mini_again.proofs.BaresAgain.{bares_again}
use Rattle.mini_again.specs.Again.{Renaming, again, other_number}
use Rattle.mini_laws.specs.Renaming.{rename_name}
use Rattle.mini_model.specs.Tree.{Tree}
use Rattle.mini_model.specs.declared.name.Name.{Name}
use Rattle.mini_model.specs.declared.place.Position.{Position}
use Rattle.mini_model.specs.declared.place.Position.TheVariants.{Elsewhere}
use Rattle.mini_rows.specs.KeyHolders.{Assigned, HeldKeyRow, PlainKey, Row52Bare, Row52Declared, Row52Held, Row53, Spelling, a_count, a_word, alone, assigned_to, of_name, of_whole, plain_key, quoted, unquoted, with_default}
use Rattle.std.proofs.Common.{ap, inl, inr}
use Rattle.std.specs.Prelude.{refl, ◌≡◌}

abbrev pub again_assigned : Renaming → Assigned → Assigned
again_assigned ρ alone = alone
again_assigned ρ (with_default a) = with_default (again ρ a)

pub plain_key_again : (ρ : Renaming) (p : PlainKey) → again ρ (plain_key p) ≡ plain_key p
plain_key_again ρ (a_word s) = refl
plain_key_again ρ (a_count n) = refl

pub row52_bare_again : (ρ : Renaming) (n w : Tree) → Row52Bare n w → Row52Bare (again ρ n) (again ρ w)
row52_bare_again ρ n w r = record {
  member = r.member;
  number = other_number ρ r.number;
  key = r.key;
  value = again ρ r.value;
  is_key = r.is_key;
  loses = r.loses;
  shape = simp (plain_key_again ρ r.key) at (ap (again ρ) r.shape);
  written = simp (plain_key_again ρ r.key) at (ap (again ρ) r.written);
}

pub row52_declared_again : (ρ : Renaming) (n w : Tree) → Row52Declared n w → Row52Declared (again ρ n) (again ρ w)
row52_declared_again ρ n w r = record {
  is_catch = r.is_catch;
  pattern = again ρ r.pattern;
  bared = again ρ r.bared;
  rest = again ρ r.rest;
  bares = bares_again ρ r.pattern r.bared r.bares;
  shape = ap (again ρ) r.shape;
  written = ap (again ρ) r.written;
}

pub quoted_again : (ρ : Renaming) (s : Spelling) → again ρ (quoted s) ≡ quoted s
quoted_again ρ (of_name s) = refl
quoted_again ρ (of_whole n) = refl

pub unquoted_again : (ρ : Renaming) (s : Spelling) → again ρ (unquoted s) ≡ unquoted s
unquoted_again ρ (of_name s) = refl
unquoted_again ρ (of_whole n) = refl

pub row52_held_again : (ρ : Renaming) (n w : Tree) → Row52Held n w → Row52Held (again ρ n) (again ρ w)
row52_held_again ρ n w r = record {
  holder = r.holder;
  spelling = r.spelling;
  value = again ρ r.value;
  is_spelling = r.is_spelling;
  shape = simp (quoted_again ρ r.spelling) at (ap (again ρ) r.shape);
  written = simp (unquoted_again ρ r.spelling) at (ap (again ρ) r.written);
}

pub assigned_to_again : (ρ : Renaming) (x : Name) (alone : Assigned) → assigned_to (rename_name ρ.symbol x) (again_assigned ρ alone) ≡ again ρ (assigned_to x alone)
assigned_to_again ρ x alone = refl
assigned_to_again ρ x (with_default d) = refl

pub row53_again : (ρ : Renaming) (n w : Tree) → Row53 n w → Row53 (again ρ n) (again ρ w)
row53_again ρ n w r = record {
  name = rename_name ρ.symbol r.name;
  value = again_assigned ρ r.value;
  shape = simp (← (assigned_to_again ρ r.name r.value)) at (ap (again ρ) r.shape);
  written = simp (← (assigned_to_again ρ r.name r.value)) at (ap (again ρ) r.written);
}

pub held_key_row_again : (ρ : Renaming) (p : Position) (n w : Tree) → HeldKeyRow p n w → HeldKeyRow p (again ρ n) (again ρ w)
held_key_row_again ρ Elsewhere n w (inl r) = inl (row52_held_again ρ n w r)
held_key_row_again ρ Elsewhere n w (inr (inl r)) = inr (inl (row52_bare_again ρ n w r))
held_key_row_again ρ Elsewhere n w (inr (inr (inl r))) = inr (inr (inl (row52_declared_again ρ n w r)))
held_key_row_again ρ Elsewhere n w (inr (inr (inr r))) = inr (inr (inr (row53_again ρ n w r)))
held_key_row_again ρ p0 n w r = absurd r
