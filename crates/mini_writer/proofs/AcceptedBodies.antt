-- Bodies come back: directives, which are nodes of ESTree alone, and the statements after them.
use Rattle.std.proofs.Common.{◌≡◌, ℕ, suc, ◌+◌, ◌≤◌, List, [], ◌∷◌, refl, ap, sym, ◌∙◌, subst, arith, Bool, true, false, ◌&&◌}
use Rattle.std.specs.Prelude.{Option, Some, None, option_and_then, is_some, not, codes, if◌then◌else◌}
use Rattle.std.proofs.lemmas.Bool.{and_parts, true≢false}
use Rattle.serde_json.specs.Data.{Data, null, boolean, number, string, array, object, Items}
use Rattle.serde_json.specs.Find.{get, get_item, as_array, as_str}
use Rattle.mini_model.specs.Texts.{units_of, bytes_of, are_units}
use Rattle.mini_model.specs.declared.shape.Shape.TheVariants as shape
use Rattle.mini_model.specs.Tree.{Tree, node, Trees, none, ◌▸◌, node_count, node_counts}
use Rattle.mini_accept.specs.WellShaped as shaped
use Rattle.mini_accept.specs.WellShaped.{Class, Depth, in_body, a_statement, these, each, is_paired, are_paired, fits, fill}
use Rattle.mini_accept.specs.declared.kind.Kind.TheVariants as kind
use Rattle.mini_accept.specs.declared.kind.Kind.{Kind}
use Rattle.mini_accept.specs.Kind.{types}
use Rattle.mini_accept.specs.Places.{field, place, down, Place, at, a_directive, a_directive_text}
use Rattle.mini_accept.specs.Fields.{is_given, is_there, has_type, text_at, units_at, paired_units, require, is_text_by, word_in}
use Rattle.mini_accept.specs.Plans.{one, tree_at}
use Rattle.mini_accept.specs.Entries.{entry}
use Rattle.mini_accept.specs.Standing.{stands_as}
use Rattle.mini_accept.specs.Statements as statement
use Rattle.mini_accept.specs.Statements.{directive_text, directives_of, directives_before, body_part, body_parts}
use Rattle.mini_accept.proofs.Types.{text_same, some_same, kind_typed, type_name}
use Rattle.mini_writer.specs.Objects as objects
use Rattle.mini_writer.specs.Written.{tree_data, trees_data, with_directives, body}
use Rattle.mini_writer.proofs.Units.{all_are_units, has_units, have_units}
use Rattle.mini_writer.proofs.Read.{ReadsBack, PartsBack, Stands, node_back, plain_back, no_children, no_parts, more_parts, one_child, list_child, ◌&◌, tree_back, checked_back}
use Rattle.mini_writer.proofs.Fitting.{Fit, Filled, with_one, with_list}
use Rattle.mini_writer.proofs.Slots.{Back, Planned, fit_planned}
use Rattle.mini_writer.proofs.Texts.{text_read}

-- ---- directives

text_data : (j : ℕ) (strict : Bool) (r : List ℕ) (n : ℕ) → ReadsBack (suc j) strict a_directive_text n (objects.string_literal r) (node (shape.StringLiteral (units_of r)) [] 0 none)
text_data j strict r n = node_back j strict a_directive_text (objects.string_literal r) kind.Literal (record { shape = shape.StringLiteral (units_of r); names = []; children = [] }) [] 0 none refl refl refl refl refl no_children n

directive_back : (j : ℕ) (strict : Bool) (r : List ℕ) (n : ℕ) → ReadsBack (suc (suc j)) strict a_directive n (objects.directive r) (node shape.ExpressionStatement [] 0 (node (shape.StringLiteral (units_of r)) [] 0 none ▸ none))
directive_back j strict r n =
    node_back (suc j) strict a_directive (objects.directive r) kind.ExpressionStatement (record { shape = shape.ExpressionStatement; names = []; children = one (tree_at (field (codes "expression")) a_directive_text) ∷ [] }) [] 0 (node (shape.StringLiteral (units_of r)) [] 0 none ▸ none) refl refl refl refl refl
    (one_child (tree_back (suc j) strict (objects.directive r) (field (codes "expression")) a_directive_text (objects.string_literal r) (node (shape.StringLiteral (units_of r)) [] 0 none) refl (text_data j strict r)) & no_children) n

directive_said : (s : List ℕ) → is_paired s ≡ true → are_units s ≡ true → directive_text (objects.directive (bytes_of s)) ≡ Some s
directive_said s paired units = text_read s paired units

-- ---- a statement is no directive

pub kind_of_type : (p : Place) (d : Data) (s : Stands p d) (w : List ℕ) (q : Kind) → word_in types w ≡ Some q → has_type w d ≡ true → s.kind ≡ q
kind_of_type p d s w q word typed =
    let named : text_at (codes "type") d ≡ Some (type_name s.kind) = kind_typed d s.kind s.is_kind in
    let same : w ≡ type_name s.kind = text_same _ _ (sym (ap (is_text_by w) named) ∙ typed) in
    some_same s.kind q (sym s.is_kind ∙ (ap (option_and_then (word_in types)) (named ∙ ap Some (sym same)) ∙ word))

ungiven : (o : Option Data) → is_there o ≡ false → option_and_then paired_units (option_and_then as_str o) ≡ None
ungiven None e = refl
ungiven (Some null) e = refl
ungiven (Some (boolean b)) e = refl
ungiven (Some (number m)) e = refl
ungiven (Some (string s)) e = absurd (true≢false e)
ungiven (Some (array ds)) e = refl
ungiven (Some (object ms)) e = refl

required : {A : Type 0} (b : Bool) (o : Option A) (x : A) → require b o ≡ Some x → b ≡ true
required true o x e = refl
required false o x e = absurd (cc e)

not_given : (b : Bool) → not b ≡ true → b ≡ false
not_given true e = sym e
not_given false e = refl

no_directive : (depth : Depth) (d : Data) (t : Tree) → Planned (at (a_statement depth)) d t → directive_text d ≡ None
no_directive depth d t p = by_type (has_type (codes "ExpressionStatement") d) refl
  where
    by_type : (b : Bool) → has_type (codes "ExpressionStatement") d ≡ b → (if b then units_at (codes "directive") d else None) ≡ None
    by_type false is = refl
    by_type true is =
        let s = p.stands in
        let same = kind_of_type (at (a_statement depth)) d s (codes "ExpressionStatement") kind.ExpressionStatement refl is in
        let planned : entry kind.ExpressionStatement (at (a_statement depth)) d ≡ Some s.plan = ap (λ q. entry q (at (a_statement depth)) d) (sym same) ∙ s.is_planned in
        ungiven (get (codes "directive") d) (not_given (is_given (codes "directive") d) (required (not (is_given (codes "directive") d)) _ s.plan planned))

-- ---- the parts of a body

module _ (k : ℕ) (back : Back k) (strict : Bool) (depth : Depth) where
  statement_told : (t : Tree) → Fit k strict (shaped.one (a_statement depth)) t → directive_text (tree_data t) ≡ None
  statement_told t f = no_directive depth (tree_data t) t (fit_planned k back strict (a_statement depth) t refl (λ e. refl) f)

  pub directives_back : (ss : List (List ℕ)) (ts : Trees) → are_paired ss ≡ true → all_are_units ss ≡ true → Filled k strict (each (shaped.one (a_statement depth))) ts → directives_of (with_directives ss (trees_data ts)) ≡ ss
  directives_back (s ∷ ss) ts p u w =
      let (paired, others) = and_parts (is_paired s) (are_paired ss) p in
      let (unit, units) = and_parts (are_units s) (all_are_units ss) u in
      ap (λ o. directives_before o (directives_of (with_directives ss (trees_data ts)))) (directive_said s paired unit) ∙ ap (λ r. s ∷ r) (directives_back ss ts others units w)
  directives_back [] none p u w = refl
  directives_back [] (t ▸ ts) p u w =
      let (first, rest) = and_parts (fits strict (shaped.one (a_statement depth)) t) (fill strict (each (shaped.one (a_statement depth))) ts) w.fills in
      let (unit, units) = and_parts (has_units t) (have_units ts) w.units in
      let small : node_count t + node_counts ts ≤ k = w.small in
      ap (λ o. directives_before o (directives_of (trees_data ts))) (statement_told t (record { fits = first; units = unit; small = omega arith }))

  module _ (d : Data) (all : Items) (there : get (codes "body") d ≡ Some (array all)) where
    item_there : (i : ℕ) (e : Data) → get_item i all ≡ Some e → down (place (codes "body") i) d ≡ Some e
    item_there i e is = ap (λ o. option_and_then (get_item i) (option_and_then as_array o)) there ∙ is

    none_leads : (b c : Bool) → c ≡ false → (b && c) ≡ false
    none_leads true c e = e
    none_leads false c e = refl

    statements_back : (leading : Bool) (i : ℕ) (ts : Trees) → ((j m : ℕ) → m ≡ j + i → get_item m all ≡ get_item j (trees_data ts)) → Filled k strict (each (shaped.one (a_statement depth))) ts → PartsBack (suc (suc k)) strict d (body_parts depth leading i (trees_data ts)) ts
    statements_back leading i none items w = no_parts (suc (suc k)) strict d
    statements_back leading i (t ▸ ts) items w =
        let (first, rest) = and_parts (fits strict (shaped.one (a_statement depth)) t) (fill strict (each (shaped.one (a_statement depth))) ts) w.fills in
        let (unit, units) = and_parts (has_units t) (have_units ts) w.units in
        let small : node_count t + node_counts ts ≤ k = w.small in
        let fit : Fit k strict (shaped.one (a_statement depth)) t = record { fits = first; units = unit; small = omega arith } in
        subst (λ b. PartsBack (suc (suc k)) strict d (body_part depth b i ∷ body_parts depth b (suc i) (trees_data ts)) (t ▸ ts)) (sym (none_leads leading (is_some (directive_text (tree_data t))) (ap is_some (statement_told t fit))))
        (more_parts (back strict (a_statement depth) t refl fit d (place (codes "body") i) (item_there i (tree_data t) (items 0 i (omega arith))))
        (statements_back false (suc i) ts (λ j m e. items (suc j) m (omega arith)) (record { fills = rest; units = units; small = omega arith })))

    body_back : (ss : List (List ℕ)) (i : ℕ) (ts : Trees) → ((j m : ℕ) → m ≡ j + i → get_item m all ≡ get_item j (with_directives ss (trees_data ts))) → are_paired ss ≡ true → all_are_units ss ≡ true
        → Filled k strict (each (shaped.one (a_statement depth))) ts → PartsBack (suc (suc k)) strict d (body_parts depth true i (with_directives ss (trees_data ts))) ts
    body_back [] i ts items p u w = statements_back true i ts items w
    body_back (s ∷ ss) i ts items p u w =
        let (paired, others) = and_parts (is_paired s) (are_paired ss) p in
        let (unit, units) = and_parts (are_units s) (all_are_units ss) u in
        subst (λ b. PartsBack (suc (suc k)) strict d (body_part depth b i ∷ body_parts depth b (suc i) (with_directives ss (trees_data ts))) ts) (sym (ap is_some (directive_said s paired unit)))
        (more_parts (checked_back (suc (suc k)) strict d (place (codes "body") i) a_directive (objects.directive (bytes_of s)) _ (item_there i (objects.directive (bytes_of s)) (items 0 i (omega arith))) (directive_back k strict (bytes_of s)))
        (body_back ss (suc i) ts (λ j m e. items (suc j) m (omega arith)) others units w))

  -- from the first item on
  pub whole_body : (d : Data) (ss : List (List ℕ)) (ts : Trees) → get (codes "body") d ≡ Some (array (with_directives ss (trees_data ts))) → are_paired ss ≡ true → all_are_units ss ≡ true
      → Filled k strict (each (shaped.one (a_statement depth))) ts → PartsBack (suc (suc k)) strict d (body_parts depth true 0 (with_directives ss (trees_data ts))) ts
  whole_body d ss ts there p u w = body_back d (with_directives ss (trees_data ts)) there ss 0 ts (λ j m e. ap (λ i. get_item i (with_directives ss (trees_data ts))) (let same : m ≡ j = omega arith in same)) p u w

-- ---- the body of a function

abbrev pub is_body : Class → Bool
is_body shaped.a_function_body = true
is_body shaped.an_arrow_body = true
is_body c = false

-- bodies of at most so many nodes come back
abbrev pub BodiesBack : ℕ → Type 0
BodiesBack k = (strict : Bool) (c : Class) (t : Tree) → is_body c ≡ true → Fit k strict (shaped.one c) t → (ss : List (List ℕ)) → are_paired ss ≡ true → all_are_units ss ≡ true → (n : ℕ) → ReadsBack (suc (suc k)) strict (at c) n (body ss (tree_data t)) t

module _ (k : ℕ) (back : Back k) (strict : Bool) (c : Class) (same : (d : Data) → statement.block_in (at c) d ≡ statement.function_body d) (stands : (d : Data) → stands_as c (objects.block_statement d) ≡ true) where
  pub function_body_back : (ss : List (List ℕ)) → are_paired ss ≡ true → all_are_units ss ≡ true → (ts : Trees) → Filled k strict (these (shaped.many (a_statement in_body) ∷ [])) ts
      → (m n : ℕ) → ReadsBack (suc (suc (suc k))) strict (at c) n (body ss (tree_data (node shape.FunctionBody [] m ts))) (node shape.FunctionBody [] m ts)
  function_body_back ss p u = with_one k strict (shaped.many (a_statement in_body)) (λ ts. (m n : ℕ) → ReadsBack (suc (suc (suc k))) strict (at c) n (body ss (tree_data (node shape.FunctionBody [] m ts))) (node shape.FunctionBody [] m ts))
      (λ a. with_list k strict (shaped.many (a_statement in_body)) (λ v. (m n : ℕ) → ReadsBack (suc (suc (suc k))) strict (at c) n (body ss (tree_data (node shape.FunctionBody [] m (v ▸ none)))) (node shape.FunctionBody [] m (v ▸ none))) refl
      (λ l ts w m n. plain_back (suc (suc k)) strict c (objects.block_statement (array (with_directives ss (trees_data ts)))) kind.BlockStatement shape.FunctionBody _ m _ refl (stands (array (with_directives ss (trees_data ts)))) refl (same (objects.block_statement (array (with_directives ss (trees_data ts)))))
      (list_child l (whole_body k back strict in_body (objects.block_statement (array (with_directives ss (trees_data ts)))) ss ts refl p u w) & no_children) n) a)
