-- Rows of the keys of object literals read a node that is read again.
use Rattle.mini_again.proofs.ModelPathsAgain.{append_again}
use Rattle.mini_again.specs.Again.{Renaming, again, all_again}
use Rattle.mini_laws.specs.Renaming.{rename_name}
use Rattle.mini_model.specs.Tree.{Tree, ◌▸◌}
use Rattle.mini_model.specs.declared.place.Position.{Position}
use Rattle.mini_model.specs.declared.place.Position.TheVariants.{Expr}
use Rattle.mini_rows.specs.SpellKeys.{KeyForm, KeyRow, PropertyRow, Row51, Row52Function, Row52Name, Row52Number, Row52Numeral, Row52Text, RowInObject, a_name, a_text_in_brackets, a_whole, a_whole_in_brackets, read_key, written_key}
use Rattle.std.proofs.Common.{ap, inl, inr}
use Rattle.std.specs.Prelude.{refl, ◌≡◌}

pub row51_again : (ρ : Renaming) (n w : Tree) → Row51 n w → Row51 (again ρ n) (again ρ w)
row51_again ρ n w r = record {
  name = rename_name ρ.symbol r.name;
  other = r.other;
  shape = ap (again ρ) r.shape;
  written = ap (again ρ) r.written;
}

pub read_key_again : (ρ : Renaming) (k : KeyForm) → again ρ (read_key k) ≡ read_key k
read_key_again ρ (a_name s) = refl
read_key_again ρ (a_whole n) = refl
read_key_again ρ (a_text_in_brackets s) = refl
read_key_again ρ (a_whole_in_brackets n) = refl

pub written_key_again : (ρ : Renaming) (k : KeyForm) → again ρ (written_key k) ≡ written_key k
written_key_again ρ (a_name s) = refl
written_key_again ρ (a_whole n) = refl
written_key_again ρ (a_text_in_brackets s) = refl
written_key_again ρ (a_whole_in_brackets n) = refl

pub row52_function_again : (ρ : Renaming) (n w : Tree) → Row52Function n w → Row52Function (again ρ n) (again ρ w)
row52_function_again ρ n w r = record {
  kind = r.kind;
  is_method = r.is_method;
  form = r.form;
  value = again ρ r.value;
  is_function = r.is_function;
  is_spelled = r.is_spelled;
  shape = simp (read_key_again ρ r.form) at (ap (again ρ) r.shape);
  written = simp (written_key_again ρ r.form) at (ap (again ρ) r.written);
}

pub row52_name_again : (ρ : Renaming) (n w : Tree) → Row52Name n w → Row52Name (again ρ n) (again ρ w)
row52_name_again ρ n w r = record {
  name = r.name;
  value = again ρ r.value;
  is_name = r.is_name;
  other = r.other;
  shape = ap (again ρ) r.shape;
  written = ap (again ρ) r.written;
}

pub row52_number_again : (ρ : Renaming) (n w : Tree) → Row52Number n w → Row52Number (again ρ n) (again ρ w)
row52_number_again ρ n w r = record {
  number = r.number;
  value = again ρ r.value;
  is_safe = r.is_safe;
  shape = ap (again ρ) r.shape;
  written = ap (again ρ) r.written;
}

pub row52_numeral_again : (ρ : Renaming) (n w : Tree) → Row52Numeral n w → Row52Numeral (again ρ n) (again ρ w)
row52_numeral_again ρ n w r = record {
  number = r.number;
  value = again ρ r.value;
  is_safe = r.is_safe;
  shape = ap (again ρ) r.shape;
  written = ap (again ρ) r.written;
}

pub row52_text_again : (ρ : Renaming) (n w : Tree) → Row52Text n w → Row52Text (again ρ n) (again ρ w)
row52_text_again ρ n w r = record {
  name = r.name;
  value = again ρ r.value;
  other = r.other;
  shape = ap (again ρ) r.shape;
  written = ap (again ρ) r.written;
}

pub property_row_again : (ρ : Renaming) (n w : Tree) → PropertyRow n w → PropertyRow (again ρ n) (again ρ w)
property_row_again ρ n w (inl r) = inl (row51_again ρ n w r)
property_row_again ρ n w (inr (inl r)) = inr (inl (row52_name_again ρ n w r))
property_row_again ρ n w (inr (inr (inl r))) = inr (inr (inl (row52_number_again ρ n w r)))
property_row_again ρ n w (inr (inr (inr (inl r)))) = inr (inr (inr (inl (row52_text_again ρ n w r))))
property_row_again ρ n w (inr (inr (inr (inr (inl r))))) = inr (inr (inr (inr (inl (row52_numeral_again ρ n w r)))))
property_row_again ρ n w (inr (inr (inr (inr (inr r))))) = inr (inr (inr (inr (inr (row52_function_again ρ n w r)))))

pub row_in_object_again : (ρ : Renaming) (n w : Tree) → RowInObject n w → RowInObject (again ρ n) (again ρ w)
row_in_object_again ρ n w r = record {
  before = all_again ρ r.before;
  from = again ρ r.from;
  to = again ρ r.to;
  after = all_again ρ r.after;
  row = property_row_again ρ r.from r.to r.row;
  shape = simp (← (append_again ρ r.before (r.from ▸ r.after))) at (ap (again ρ) r.shape);
  written = simp (← (append_again ρ r.before (r.to ▸ r.after))) at (ap (again ρ) r.written);
}

pub key_row_again : (ρ : Renaming) (p : Position) (n w : Tree) → KeyRow p n w → KeyRow p (again ρ n) (again ρ w)
key_row_again ρ (Expr s) n w r = row_in_object_again ρ n w r
key_row_again ρ p0 n w r = absurd r
