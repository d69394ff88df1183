-- The rewrite of a key that is the name assigned to is that of the row, which reads no other property.
use Rattle.std.proofs.Common.{◌≡◌, ℕ, zero, Bool, true, false, List, [], Option, Some, None, refl, sym, ap, ◌∙◌}
use Rattle.std.specs.Prelude.{if◌then◌else◌}
use Rattle.std.proofs.lemmas.Bool.{and_parts, false≢true}
use Rattle.mini_model.specs.declared.name.Name.{Name}
use Rattle.mini_model.specs.declared.shape.Shape.TheVariants as shape
use Rattle.mini_model.specs.Tree.{Tree, node, none, ◌▸◌, identifier}
use Rattle.mini_node.specs.Children.{part, names_of}
use Rattle.mini_node.specs.Kinds.{is_identifier}
use Rattle.mini_node.specs.Made.{identifier_is}
use Rattle.mini_rows.specs.Spellings.{key}
use Rattle.mini_rows.specs.KeyHolders.{Assigned, alone, with_default, assigned_to, doubled, Row53}
use Rattle.mini_syntax.specs.SubstituteObjectProperty.{key_name}
use Rattle.mini_syntax.specs.CompressAssignmentTargetProperty.{is_target, is_defaulted, spells, is_key_of, repeats_key, is_doubled, shorthand, compressed}
use Rattle.mini_syntax.proofs.FormsAre.{same_texts}
use Rattle.mini_syntax.proofs.Keys.{key_is, same_text_refl}

-- ---- what the tests say

target_is : (t : Tree) → is_target t ≡ true → t ≡ node (shape.AssignmentTargetPropertyProperty false) [] 0 (part t 0 ▸ part t 1 ▸ none)
target_is (node (shape.AssignmentTargetPropertyProperty false) [] zero (k ▸ v ▸ none)) e = refl
target_is t e = absurd (false≢true e)

defaulted_is : (v : Tree) → is_defaulted v ≡ true → v ≡ node shape.AssignmentPattern [] 0 (part v 0 ▸ part v 1 ▸ none)
defaulted_is (node shape.AssignmentPattern [] zero (a ▸ d ▸ none)) e = refl
defaulted_is v e = absurd (false≢true e)

-- a key and what it names
record Named (k v : Tree) : Type 0 where
  name : Name
  its_key : k ≡ key name.spelling
  target : v ≡ identifier name

key_names : (k v : Tree) → is_key_of k v ≡ true → Named k v
key_names k v e =
    let (named, spelled) = and_parts (is_identifier v) (spells (key_name k) (names_of v)) e in
    go (identifier_is v named) (key_name k) refl spelled
  where
    go : (x : Name) × (v ≡ identifier x) → (o : Option (List ℕ)) → key_name k ≡ o → spells o (names_of v) ≡ true → Named k v
    go (x, is) (Some s) h q = record { name = x; its_key = key_is k s h ∙ ap key (same_texts s x.spelling (ap (λ y. spells (Some s) (names_of y)) (sym is) ∙ q)); target = is }
    go (x, is) None h q = absurd (cc q)

-- ---- what is written

row_of : (t : Tree) (x : Name) (a : Assigned) → is_target t ≡ true → part t 0 ≡ key x.spelling → part t 1 ≡ assigned_to x a → Row53 t (shorthand t)
row_of t x a h k v = record {
  name = x;
  value = a;
  shape = target_is t h ∙ ap (λ y. node (shape.AssignmentTargetPropertyProperty false) [] 0 (y ▸ part t 1 ▸ none)) k ∙ ap (λ y. node (shape.AssignmentTargetPropertyProperty false) [] 0 (key x.spelling ▸ y ▸ none)) v;
  written = ap (λ y. node shape.AssignmentTargetPropertyIdentifier [] 0 (y ▸ part t 1 ▸ none)) k ∙ ap (λ y. node shape.AssignmentTargetPropertyIdentifier [] 0 (key x.spelling ▸ y ▸ none)) v;
}

pub doubled_row : (t : Tree) → is_doubled t ≡ true → Row53 t (shorthand t)
doubled_row t e =
    let (target, repeats) = and_parts (is_target t) (repeats_key (part t 0) (part t 1)) e in
    go target (is_defaulted (part t 1)) refl repeats
  where
    go : is_target t ≡ true → (b : Bool) → is_defaulted (part t 1) ≡ b → (if b then is_key_of (part t 0) (part (part t 1) 0) else is_key_of (part t 0) (part t 1)) ≡ true → Row53 t (shorthand t)
    go h true d q =
        let x = key_names (part t 0) (part (part t 1) 0) q in
        row_of t x.name (with_default (part (part t 1) 1)) h x.its_key (defaulted_is (part t 1) d ∙ ap (λ y. node shape.AssignmentPattern [] 0 (y ▸ part (part t 1) 1 ▸ none)) x.target)
    go h false d q = let x = key_names (part t 0) (part t 1) q in row_of t x.name alone h x.its_key x.target

-- ---- what stays

pub compressed_stays : (t : Tree) → is_doubled t ≡ false → compressed t ≡ t
compressed_stays t e = ap (λ b. if b then shorthand t else t) e

pub doubled_reads : (n w : Tree) → Row53 n w → is_doubled n ≡ true
doubled_reads n w r = ap is_doubled r.shape ∙ by r.value
  where
    by : (a : Assigned) → is_doubled (doubled r.name a) ≡ true
    by alone = same_text_refl r.name.spelling
    by (with_default d) = same_text_refl r.name.spelling
