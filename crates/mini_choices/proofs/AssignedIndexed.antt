-- Two assignments to a member of a name with a key in brackets: what is written for a choice between them is what a row says, and what a
-- row reads is written.
use Rattle.std.proofs.Common.{◌≡◌, true, false, Option, Some, refl, sym, ap, ◌∙◌, Bool}
use Rattle.std.specs.Prelude.{◌&&◌, not, nat_eq, is_none, unwrap_or}
use Rattle.std.proofs.lemmas.Bool.{and_parts}
use Rattle.mini_model.specs.declared.name.Name.{Name}
use Rattle.mini_model.specs.declared.operator.AssignmentOperator.{AssignmentOperator}
use Rattle.mini_model.specs.declared.operator.AssignmentOperator.TheVariants.{Assign}
use Rattle.mini_model.specs.declared.seat.Seat.{Seat}
use Rattle.mini_model.specs.Tree.{Tree, identifier, conditional}
use Rattle.mini_model.specs.Position.{conditional_level}
use Rattle.mini_node.specs.Children.{part}
use Rattle.mini_node.specs.Equal.{same_tree}
use Rattle.mini_node.specs.Kinds.{assignment, computed_member, assignment_operator, is_conditional, is_identifier, is_computed_member}
use Rattle.mini_node.specs.Made.{assignment_is, conditional_is, identifier_is, computed_member_is}
use Rattle.mini_node.proofs.Equality.{tree_same, tree_itself}
use Rattle.mini_terms.specs.Effects.{ef}
use Rattle.mini_rows.specs.Choices.{ChosenIndexedRow}
use Rattle.mini_choices.specs.Assigning.{is_plain, is_declared, is_indexed_name, is_same_indexed}
use Rattle.mini_choices.specs.MinimizeConditionalBranches as branches
use Rattle.mini_choices.specs.MinimizeConditionalBranches.{assigns_indexed, indexes_either}
use Rattle.mini_choices.proofs.Trials.{not_true, both_true}

record OfName (asked : Bool) (t : Tree) : Type 0 where
  name : Name
  declared : is_none name.symbol ≡ false
  idle : ef asked (part t 1) ≡ true
  is : t ≡ computed_member (identifier name) (part t 1)

of_name : (asked : Bool) (t : Tree) → is_indexed_name asked t ≡ true → OfName asked t
of_name asked t e =
    let (member, rest) = and_parts (is_computed_member t && ef asked (part t 1)) (is_identifier (part t 0) && is_declared (part t 0)) e in
    let (is, idle) = and_parts (is_computed_member t) (ef asked (part t 1)) member in
    let (named, declared) = and_parts (is_identifier (part t 0)) (is_declared (part t 0)) rest in
    let (x, h) = identifier_is (part t 0) named in
    record {
      name = x;
      declared = not_true (is_none x.symbol) (sym (ap is_declared h) ∙ declared);
      idle = idle;
      is = computed_member_is t is ∙ ap (λ f. computed_member f (part t 1)) h;
    }

plain_is : (t : Tree) → is_plain (assignment_operator t) ≡ true → (assignment_operator t ≡ Some Assign) × (t ≡ assignment Assign (part t 0) (part t 1))
plain_is t e = by (assignment_operator t) refl e
  where
    by : (o : Option AssignmentOperator) → assignment_operator t ≡ o → is_plain o ≡ true → (assignment_operator t ≡ Some Assign) × (t ≡ assignment Assign (part t 0) (part t 1))
    by (Some Assign) h e = (h, assignment_is t Assign h)
    by o h e = absurd (cc e)

pub indexed_row : (asked : Bool) (s : Seat) (n : Tree) → branches.is_seated s && indexes_either asked n ≡ true → ChosenIndexedRow asked s n (branches.assigned n)
indexed_row asked s n k =
    let yes = part n 1 in
    let no = part n 2 in
    let (seated, e1) = and_parts (branches.is_seated s) (indexes_either asked n) k in
    let (chooses, e2) = and_parts (is_conditional n) (assigns_indexed asked yes no && ef asked (part n 0)) e1 in
    let (both, free) = and_parts (assigns_indexed asked yes no) (ef asked (part n 0)) e2 in
    let (plain, e3) = and_parts (is_plain (assignment_operator yes)) (is_plain (assignment_operator no) && is_same_indexed asked (part yes 0) (part no 0)) both in
    let (second, one) = and_parts (is_plain (assignment_operator no)) (is_same_indexed asked (part yes 0) (part no 0)) e3 in
    let (member, same) = and_parts (is_indexed_name asked (part yes 0)) (same_tree (part yes 0) (part no 0)) one in
    let t = of_name asked (part yes 0) member in
    let (operator, left) = plain_is yes plain in
    let right = (plain_is no second).1 in
    let other = sym (tree_same (part yes 0) (part no 0) same) in
    record {
      a = part n 0;
      name = t.name;
      key = part (part yes 0) 1;
      b = part yes 1;
      c = part no 1;
      declared = t.declared;
      effect_free = free;
      idle = t.idle;
      seated = not_true (nat_eq s.level conditional_level) seated;
      shape = conditional_is n chooses ∙ (λ i. conditional (part n 0) ((left ∙ ap (λ u. assignment Assign u (part yes 1)) t.is) i) ((right ∙ ap (λ u. assignment Assign u (part no 1)) (other ∙ t.is)) i));
      written = ap (λ o. assignment (unwrap_or o Assign) (part yes 0) (conditional (part n 0) (part yes 1) (part no 1))) operator ∙ ap (λ u. assignment Assign u (conditional (part n 0) (part yes 1) (part no 1))) t.is;
    }

pub indexed_passes : (asked : Bool) (s : Seat) (n w : Tree) (r : ChosenIndexedRow asked s n w) → branches.is_seated s && indexes_either asked (conditional r.a (assignment Assign (computed_member (identifier r.name) r.key) r.b) (assignment Assign (computed_member (identifier r.name) r.key) r.c)) ≡ true
indexed_passes asked s n w r =
    let t = computed_member (identifier r.name) r.key in
    let u = conditional r.a (assignment Assign t r.b) (assignment Assign t r.c) in
    both_true (branches.is_seated s) (indexes_either asked u) (ap not r.seated)
    (both_true (assigns_indexed asked (assignment Assign t r.b) (assignment Assign t r.c)) (ef asked r.a)
    (both_true (is_indexed_name asked t) (same_tree t t) (both_true (ef asked r.key) (is_declared (identifier r.name)) r.idle (ap not r.declared)) (tree_itself t)) r.effect_free)
