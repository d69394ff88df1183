-- What becomes of a `switch` of one case whose names are held is what row 80 of lexical names says.
use Rattle.std.proofs.Common.{◌≡◌, true, false, refl, sym, ap, ◌∙◌, subst}
use Rattle.std.specs.Prelude.{◌&&◌, not, if◌then◌else◌}
use Rattle.std.proofs.lemmas.Bool.{and_parts, false≢true}
use Rattle.mini_model.specs.declared.name.Name.{Name}
use Rattle.mini_model.specs.declared.operator.BinaryOperator.TheVariants.{StrictEquality}
use Rattle.mini_model.specs.Tree.{Tree, Trees, children, expression_statement, if_alone, ◌▸◌}
use Rattle.mini_laws.specs.Value.{VariableSet}
use Rattle.mini_node.specs.Children.{part}
use Rattle.mini_node.specs.Kinds.{is_absent_part}
use Rattle.mini_rows.specs.Cases.{one_case, switch_case, ended}
use Rattle.mini_rows.specs.Lexical.{Row80Lexical, are_held, is_of, is_of_outside}
use Rattle.mini_rows.specs.Lists.{block, declares_nothing}
use Rattle.mini_rows.specs.Spellings.{PlainForm, a_number, a_text, a_boolean, a_null, a_big_int, a_template, a_void, plain, binary}
use Rattle.mini_rows.specs.Unused.{names}
use Rattle.mini_syntax.specs.Forms.{is_plain}
use Rattle.mini_syntax.proofs.FormsAre.{plain_is, plain_passes}
use Rattle.mini_switch.specs.MinimizeSwitchStatements.{ends_in_break, unbroken_count, before_break, some_breaks, is_case, holds_one_case, the_case, enclosed, written_for, inlined, stay_inside}
use Rattle.mini_switch.proofs.Switches.{not_true, switch_is, statements_are, listed_breaks, before_is}
use Rattle.mini_lexical.specs.MinimizeLexicalStatement.{AppliedBy, can_be_branch, inlines}
use Rattle.mini_lexical.proofs.HeldNames.{and_one, both_true, held_first, held_ended}

-- a value that is written out names nothing

names_none : (y : Name) (f : PlainForm) → names y (plain f) ≡ false
names_none y (a_number n) = refl
names_none y (a_text s) = refl
names_none y (a_boolean b) = refl
names_none y a_null = refl
names_none y (a_big_int n) = refl
names_none y (a_template is_tail raw cooked) = refl
names_none y a_void = refl

outside_none : (V : VariableSet) (f : PlainForm) → is_of_outside V (plain f) ≡ is_of V
outside_none V f = (λ i y. (ap (λ b. is_of V y && not b) (names_none y f) ∙ and_one (is_of V y)) i)

-- it is no absent part
there : (f : PlainForm) → is_absent_part (plain f) ≡ false
there (a_number n) = refl
there (a_text s) = refl
there (a_boolean b) = refl
there a_null = refl
there (a_big_int n) = refl
there (a_template is_tail raw cooked) = refl
there a_void = refl

module _ (V : VariableSet) where
  row_of : (t : Tree) → inlines V t ≡ true → Row80Lexical V t (inlined t)
  row_of t h =
      let (one, rest) = and_parts (holds_one_case t) (declares_nothing (part t 0) && can_be_branch V (the_case t)) h in
      let (value, branch) = and_parts (declares_nothing (part t 0)) (can_be_branch V (the_case t)) rest in
      let (case, more) = and_parts (is_case (the_case t)) (is_plain test && (are_held (is_of_outside V test) statements && stay_inside statements)) branch in
      let (written_out, inside) = and_parts (is_plain test) (are_held (is_of_outside V test) statements && stay_inside statements) more in
      let (held, stays) = and_parts (are_held (is_of_outside V test) statements) (stay_inside statements) inside in
      let (form, is_form) = plain_is test written_out in
      let left = before_break statements in
      record {
        discriminant = part t 0;
        test = form;
        statements = left;
        is_ended = ends_in_break statements;
        value = value;
        held = held_first (is_of V) (unbroken_count statements) statements (sym (ap (λ P. are_held P statements) (ap (is_of_outside V) is_form ∙ outside_none V form)) ∙ held);
        stays = listed_breaks 0 left ∙ not_true (some_breaks left) stays;
        shape = switch_is t one case ∙ ap (one_case (part t 0) test) (statements_are statements) ∙ ap (λ x. one_case (part t 0) x (ended (ends_in_break statements) left)) is_form;
        written = chosen test form is_form left;
      }
    where
      test : Tree
      test = part (the_case t) 0

      statements : Trees
      statements = children (part (the_case t) 1)

      chosen : (x : Tree) (f : PlainForm) → x ≡ plain f → (ss : Trees) → written_for (part t 0) x ss ≡ if_alone (binary StrictEquality (part t 0) (plain f)) (block ss)
      chosen x f e ss =
          ap (λ y. written_for (part t 0) y ss) e
          ∙ ap (λ b. if b then block (expression_statement (part t 0) ▸ enclosed ss) else if_alone (binary StrictEquality (part t 0) (plain f)) (block ss)) (there f)

  passes : (n w : Tree) → Row80Lexical V n w → inlines V n ≡ true
  passes n w r =
      let calm = sym (listed_breaks 0 r.statements) ∙ r.stays in
      let left = ended r.is_ended r.statements in
      ap (inlines V) r.shape
      ∙ both_true (declares_nothing r.discriminant) (can_be_branch V (switch_case (plain r.test) left)) r.value
      (both_true (is_plain (plain r.test)) (are_held (is_of_outside V (plain r.test)) left && stay_inside left) (plain_passes r.test)
      (both_true (are_held (is_of_outside V (plain r.test)) left) (stay_inside left) (ap (λ P. are_held P left) (outside_none V r.test) ∙ held_ended (is_of V) r.is_ended r.statements r.held)
      (ap not (ap some_breaks (before_is r.is_ended r.statements calm) ∙ calm))))

  pub switched : (t u : Tree) → inlines V t ≡ true → u ≡ inlined t → AppliedBy (Row80Lexical V) t u true
  switched t u h e = subst (Row80Lexical V t) (sym e) (row_of t h)

  pub not_switched : (t : Tree) → inlines V t ≡ false → AppliedBy (Row80Lexical V) t t false
  not_switched t h = (refl, λ w r. false≢true (sym h ∙ passes t w r))
