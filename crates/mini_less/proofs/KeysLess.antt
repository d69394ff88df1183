-- Rows on the keys of object literals ask less.
use Rattle.std.specs.Prelude.{ℕ, refl, pos, Bool, true, false, List}
use Rattle.std.specs.Fmt.{signed_decimal}
use Rattle.std.proofs.Common.{inl, inr, sym, subst}
use Rattle.mini_model.specs.declared.place.Position.{Position}
use Rattle.mini_model.specs.declared.place.Position.TheVariants.{Expr}
use Rattle.mini_model.specs.Paths.{append}
use Rattle.mini_model.specs.Tree.{Tree, Trees, none, ◌▸◌, listed, identifier}
use Rattle.mini_rows.specs.Sketches.{AList, Object, Property, Number, String as Text, PropertyName, Asked, AsValue, AsValues, AsWord}
use Rattle.mini_rows.specs.SpellKeys.{property, object_literal, KeyForm, a_name, a_whole, a_text_in_brackets, a_whole_in_brackets, is_bracketed_form, read_key, written_key, PropertyRow, KeyRow, KeyContracts}
use Rattle.mini_rows.specs.Spellings.{text, numeral, key}
use Rattle.mini_rows.proofs.Arranging.{all_of, of_all, first_all, second_all, both_all, Any}
use Rattle.mini_less.specs.Families.{LessAt, KeysReadLess}
use Rattle.mini_less.proofs.LessRows.{reads_less_by}
use Rattle.mini_less.proofs.Made.{ByParts}
use Rattle.mini_less.proofs.Nodes.{made_under}

module _ (Q : Asked → Tree → Type 0) (l : ByParts Q) where
  a_word : (s : List ℕ) → Q AsWord (key s)
  a_word s = l.up (PropertyName s) refl AsWord none tt tt

  written_word : (f : KeyForm) → Q AsWord (written_key f)
  written_word (a_name s) = a_word s
  written_word (a_whole n) = l.up (Number (pos n)) refl AsWord none tt tt
  written_word (a_text_in_brackets s) = l.up (Text s) refl AsWord none tt tt
  written_word (a_whole_in_brackets n) = l.up (Number (pos n)) refl AsWord none tt tt

  -- another key, without brackets
  keyed : (b : Bool) (k k' v : Tree) → Q AsWord k' → Q AsValue (property false b k v) → Q AsValue (property false false k' v)
  keyed b k k' v q y = l.up (Property false false) refl AsValue (k' ▸ v ▸ none) tt (q, (l.down (Property false b) refl AsValue (k ▸ v ▸ none) tt y).1)

  property_made : (n w : Tree) → PropertyRow n w → Q AsValue n → Q AsValue w
  property_made n w (inl r) y = subst (Q AsValue) (sym r.written) (l.up (Property true false) refl AsValue (key r.name.spelling ▸ identifier r.name ▸ none) tt (l.down (Property false false) refl AsValue (key r.name.spelling ▸ identifier r.name ▸ none) tt (subst (Q AsValue) r.shape y)))
  property_made n w (inr (inl r)) y = subst (Q AsValue) (sym r.written) (keyed false (text r.name) (key r.name) r.value (a_word r.name) (subst (Q AsValue) r.shape y))
  property_made n w (inr (inr (inl r))) y = subst (Q AsValue) (sym r.written) (keyed false (text (signed_decimal (pos r.number))) (numeral (pos r.number)) r.value (l.up (Number (pos r.number)) refl AsWord none tt tt) (subst (Q AsValue) r.shape y))
  property_made n w (inr (inr (inr (inl r)))) y = subst (Q AsValue) (sym r.written) (keyed true (text r.name) (text r.name) r.value (l.up (Text r.name) refl AsWord none tt tt) (subst (Q AsValue) r.shape y))
  property_made n w (inr (inr (inr (inr (inl r))))) y = subst (Q AsValue) (sym r.written) (keyed true (numeral (pos r.number)) (numeral (pos r.number)) r.value (l.up (Number (pos r.number)) refl AsWord none tt tt) (subst (Q AsValue) r.shape y))
  property_made n w (inr (inr (inr (inr (inr r))))) y =
      let (to, of) = l.properties r.kind r.is_method in
      let plain = to AsValue false (is_bracketed_form r.form) (read_key r.form ▸ r.value ▸ none) (subst (Q AsValue) r.shape y) in
      subst (Q AsValue) (sym r.written) (of AsValue false false (written_key r.form ▸ r.value ▸ none) (keyed (is_bracketed_form r.form) (read_key r.form) (written_key r.form) r.value (written_word r.form) plain))

  object_made : (before : Trees) (n w : Tree) (after : Trees) → PropertyRow n w → Q AsValue (object_literal (append before (n ▸ after))) → Q AsValue (object_literal (append before (w ▸ after)))
  object_made before n w after r y =
      let all = all_of Any Q AsValue 0 (append before (n ▸ after)) (l.down AList refl AsValues (append before (n ▸ after)) tt (l.down Object refl AsValue (listed (append before (n ▸ after)) ▸ none) tt y).0) in
      let rest = second_all Any Q AsValue before (n ▸ after) all in
      l.up Object refl AsValue (listed (append before (w ▸ after)) ▸ none) tt
      (l.up AList refl AsValues (append before (w ▸ after)) tt (of_all Any Q AsValue 0 (append before (w ▸ after)) (both_all Any Q AsValue before (w ▸ after) (first_all Any Q AsValue before (n ▸ after) all) (property_made n w r rest.0, rest.1))), tt)

row_less : (p : Position) (n w : Tree) → KeyRow p n w → LessAt p n w
row_less (Expr q) n w r =
    made_under q n w Object (listed (append r.before (r.from ▸ r.after)) ▸ none) refl r.shape tt Object (listed (append r.before (r.to ▸ r.after)) ▸ none) refl r.written (λ strict x k Q l y.
    subst (Q AsValue) (sym r.written) (object_made Q l r.before r.from r.to r.after r.row (subst (Q AsValue) r.shape y)))
row_less p n w r = absurd r

pub keys_read_less : KeysReadLess
keys_read_less = reads_less_by KeyContracts (λ p n w c. row_less p n w c.row)
