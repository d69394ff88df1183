-- What the combined assignment writes is what a row says (35), and where it writes nothing no row of it reads the assignment.
use Rattle.std.proofs.Common.{◌≡◌, ℕ, ℤ, Bool, true, false, Option, Some, None, List, [], zero, refl, sym, ap, ◌∙◌, inl, inr}
use Rattle.std.specs.Prelude.{◌⊎◌, ◌&&◌, ◌||◌, not, is_none, is_some, if◌then◌else◌}
use Rattle.std.proofs.lemmas.Bool.{and_parts, false≢true}
use Rattle.mini_model.specs.declared.name.Name.{Name}
use Rattle.mini_model.specs.declared.operator.AssignmentOperator.{AssignmentOperator}
use Rattle.mini_model.specs.declared.operator.AssignmentOperator.TheVariants.{Assign}
use Rattle.mini_model.specs.declared.operator.BinaryOperator.{BinaryOperator}
use Rattle.mini_model.specs.declared.shape.Shape.TheVariants as shape
use Rattle.mini_model.specs.Tree.{Tree, node, leaf, none, identifier}
use Rattle.mini_node.specs.Children.{part}
use Rattle.mini_node.specs.Equal.{same_tree}
use Rattle.mini_node.specs.Kinds.{binary, assignment, static_member, computed_member, is_identifier, is_static_member, is_computed_member, string, number, binary_operator, assignment_operator}
use Rattle.mini_node.specs.Made.{assignment_is, binary_is, identifier_is, static_member_is, computed_member_is, string_is, number_is}
use Rattle.mini_node.proofs.Equality.{tree_same, tree_itself}
use Rattle.mini_rows.specs.Choices.{assign, Key, Named, Spelled, Numbered, member_on, member_of, computing, Row35, Row35Member}
use Rattle.mini_choices.specs.Assigning.{is_plain, is_declared, is_property, is_written_key, has_written_key, is_member_of_name, is_same_target}
use Rattle.mini_choices.specs.MinimizeNormalAssignmentToCombinedAssignment as combine
use Rattle.mini_choices.proofs.Trials.{some_is, not_true}

pub plainly_is : (t : Tree) → is_plain (assignment_operator t) ≡ true → t ≡ assignment Assign (part t 0) (part t 1)
plainly_is t e = go (assignment_operator t) refl e
  where
    go : (o : Option AssignmentOperator) → assignment_operator t ≡ o → is_plain o ≡ true → t ≡ assignment Assign (part t 0) (part t 1)
    go (Some Assign) h e = assignment_is t Assign h
    go o h e = absurd (cc e)

-- ---- members of names

-- the key of a member
pub record Keyed (t : Tree) : Type 0 where
  pub key : Key
  pub is : (o : Tree) → part t 0 ≡ o → t ≡ member_on o key

property_is : (t : Tree) → is_property t ≡ true → (s : List ℕ) × (t ≡ leaf (shape.IdentifierName s))
property_is (node (shape.IdentifierName s) [] zero none) e = (s, refl)
property_is t e = absurd (false≢true e)

static_key : (t : Tree) → is_static_member t && is_property (part t 1) ≡ true → Keyed t
static_key t e =
    let (member, property) = and_parts (is_static_member t) (is_property (part t 1)) e in
    let (s, h) = property_is (part t 1) property in
    record { key = Named s; is = λ x i. static_member_is t member ∙ (λ j. static_member (i j) (h j)) }

computed_key : (t : Tree) → is_computed_member t ≡ true → (a : Option (List ℕ)) → string (part t 1) ≡ a → (b : Option ℤ) → number (part t 1) ≡ b → (is_some a || is_some b) ≡ true → Keyed t
computed_key t member (Some s) h b k e = record { key = Spelled s; is = λ x i. computed_member_is t member ∙ (λ j. computed_member (i j) (string_is (part t 1) s h j)) }
computed_key t member None h (Some n) k e = record { key = Numbered n; is = λ x i. computed_member_is t member ∙ (λ j. computed_member (i j) (number_is (part t 1) n k j)) }
computed_key t member None h None k e = absurd (false≢true e)

keyed : (t : Tree) (b : Bool) → is_static_member t && is_property (part t 1) ≡ b → b || (is_computed_member t && is_written_key (part t 1)) ≡ true → Keyed t
keyed t true h e = static_key t h
keyed t false h e =
    let (member, key) = and_parts (is_computed_member t) (is_written_key (part t 1)) e in
    computed_key t member (string (part t 1)) refl (number (part t 1)) refl key

pub written_key : (t : Tree) → has_written_key t ≡ true → Keyed t
written_key t e = keyed t (is_static_member t && is_property (part t 1)) refl e

pub record OneMember (t : Tree) : Type 0 where
  pub name : Name
  pub key : Key
  pub declared : is_none name.symbol ≡ false
  pub is : t ≡ member_of name key

pub one_member : (t : Tree) → is_member_of_name t ≡ true → OneMember t
one_member t e =
    let (written, named) = and_parts (has_written_key t) (is_identifier (part t 0) && is_declared (part t 0)) e in
    let (named', declared) = and_parts (is_identifier (part t 0)) (is_declared (part t 0)) named in
    let (x, h) = identifier_is (part t 0) named' in
    let k = written_key t written in
    record {
      name = x;
      key = k.key;
      declared = not_true (is_none x.symbol) (sym (ap is_declared h) ∙ declared);
      is = k.is (identifier x) h;
    }

-- ---- the row

-- what is written, whatever is assigned to
record Combined (n w : Tree) : Type 0 where
  operator : BinaryOperator
  combined : AssignmentOperator
  computes : computing operator ≡ Some combined
  shape : n ≡ assignment Assign (part n 0) (binary operator (part n 0) (part (part n 1) 1))
  written : w ≡ assignment combined (part n 0) (part (part n 1) 1)
  target : (is_identifier (part n 0) || is_member_of_name (part n 0)) ≡ true

is_combined : (n w : Tree) → combine.written n ≡ Some w → Combined n w
is_combined n w e = by (is_plain (assignment_operator n) && is_same_target (part n 0) (part (part n 1) 0)) refl e
  where
    made : (o : BinaryOperator) → is_plain (assignment_operator n) ≡ true → is_same_target (part n 0) (part (part n 1) 0) ≡ true → binary_operator (part n 1) ≡ Some o → (c : Option AssignmentOperator) → computing o ≡ c → combine.written_by c n ≡ Some w → Combined n w
    made o plain target h (Some c) k e =
        let (may, same) = and_parts (is_identifier (part n 0) || is_member_of_name (part n 0)) (same_tree (part n 0) (part (part n 1) 0)) target in
        record {
          operator = o;
          combined = c;
          computes = k;
          shape = plainly_is n plain ∙ ap (assignment Assign (part n 0)) (binary_is (part n 1) o h ∙ ap (λ t. binary o t (part (part n 1) 1)) (sym (tree_same (part n 0) (part (part n 1) 0) same)));
          written = sym (some_is (combine.combined c n) w e);
          target = may;
        }
    made o plain target h None k e = absurd (cc e)

    go : is_plain (assignment_operator n) ≡ true → is_same_target (part n 0) (part (part n 1) 0) ≡ true → (o : Option BinaryOperator) → binary_operator (part n 1) ≡ o → combine.written_by (combine.computing_in o) n ≡ Some w → Combined n w
    go plain target (Some o) h e = made o plain target h (computing o) refl e
    go plain target None h e = absurd (cc e)

    by : (b : Bool) → is_plain (assignment_operator n) && is_same_target (part n 0) (part (part n 1) 0) ≡ b → combine.written_by (if b then combine.computing_in (binary_operator (part n 1)) else None) n ≡ Some w → Combined n w
    by true k e =
        let (plain, target) = and_parts (is_plain (assignment_operator n)) (is_same_target (part n 0) (part (part n 1) 0)) k in
        go plain target (binary_operator (part n 1)) refl e
    by false k e = absurd (cc e)

pub combined_row : (n w : Tree) → combine.written n ≡ Some w → Row35 n w ⊎ Row35Member n w
combined_row n w e = by (is_identifier (part n 0)) refl (is_combined n w e).target
  where
    c : Combined n w
    c = is_combined n w e

    right : Tree
    right = part (part n 1) 1

    by : (b : Bool) → is_identifier (part n 0) ≡ b → (b || is_member_of_name (part n 0)) ≡ true → Row35 n w ⊎ Row35Member n w
    by true h k =
        let (x, i) = identifier_is (part n 0) h in
        inl (record {
          operator = c.operator;
          combined = c.combined;
          name = x;
          b = right;
          computes = c.computes;
          shape = c.shape ∙ ap (λ t. assignment Assign t (binary c.operator t right)) i;
          written = c.written ∙ ap (λ t. assignment c.combined t right) i;
        })
    by false h k =
        let one = one_member (part n 0) k in
        inr (record {
          operator = c.operator;
          combined = c.combined;
          name = one.name;
          key = one.key;
          b = right;
          computes = c.computes;
          declared = one.declared;
          shape = c.shape ∙ ap (λ t. assignment Assign t (binary c.operator t right)) one.is;
          written = c.written ∙ ap (λ t. assignment c.combined t right) one.is;
        })

pub combined_passes : (o : BinaryOperator) (c : AssignmentOperator) → computing o ≡ Some c → (x : Name) (b : Tree) → combine.written (assign x (binary o (identifier x) b)) ≡ Some (assignment c (identifier x) b)
combined_passes o c h x b =
    ap (λ g. combine.written_by (if g then computing o else None) (assign x (binary o (identifier x) b))) (tree_itself (identifier x)) ∙ ap (λ m. combine.written_by m (assign x (binary o (identifier x) b))) h

is_member : (x : Name) → is_none x.symbol ≡ false → (k : Key) → (is_identifier (member_of x k) || is_member_of_name (member_of x k)) ≡ true
is_member x d (Named s) = ap not d
is_member x d (Spelled s) = ap not d
is_member x d (Numbered n) = ap not d

pub combined_member_passes : (o : BinaryOperator) (c : AssignmentOperator) → computing o ≡ Some c → (x : Name) → is_none x.symbol ≡ false → (k : Key) (b : Tree) → combine.written (assignment Assign (member_of x k) (binary o (member_of x k) b)) ≡ Some (assignment c (member_of x k) b)
combined_member_passes o c h x d k b =
    let n : Tree = assignment Assign (member_of x k) (binary o (member_of x k) b) in
    ap (λ g. combine.written_by (if g && same_tree (member_of x k) (member_of x k) then computing o else None) n) (is_member x d k)
    ∙ ap (λ g. combine.written_by (if g then computing o else None) n) (tree_itself (member_of x k))
    ∙ ap (λ m. combine.written_by m n) h

pub member_there : (x : Name) → is_none x.symbol ≡ false → (k : Key) → is_member_of_name (member_of x k) ≡ true
member_there x d (Named s) = ap not d
member_there x d (Spelled s) = ap not d
member_there x d (Numbered n) = ap not d

pub key_there : (t : Tree) (k : Key) → has_written_key (member_on t k) ≡ true
key_there t (Named s) = refl
key_there t (Spelled s) = refl
key_there t (Numbered n) = refl
