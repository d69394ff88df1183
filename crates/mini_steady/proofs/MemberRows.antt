-- What is written of members is what a row says, and where nothing is written no row reads the expression.
use Rattle.std.proofs.Common.{◌≡◌, ℕ, ◌≤◌, zero, Bool, true, false, Option, Some, None, List, [], refl, sym, ap, subst, ◌∙◌, inl, inr}
use Rattle.std.specs.Prelude.{◌&&◌, ◌||◌, not, nat_eq, nat_le, is_some, unwrap_or, if◌then◌else◌}
use Rattle.std.proofs.lemmas.Bool.{and_parts, false≢true, le-leb, leb-true}
use Rattle.mini_model.specs.declared.place.Position.TheVariants.{Expr}
use Rattle.mini_model.specs.declared.name.Name.{Name}
use Rattle.mini_model.specs.declared.name.SymbolId.{SymbolId}
use Rattle.mini_model.specs.declared.operator.AssignmentOperator.{AssignmentOperator}
use Rattle.mini_model.specs.declared.operator.AssignmentOperator.TheVariants.{Assign}
use Rattle.mini_model.specs.declared.operator.BinaryOperator.{BinaryOperator}
use Rattle.mini_model.specs.declared.operator.LogicalOperator.{LogicalOperator}
use Rattle.mini_model.specs.declared.operator.LogicalOperator.TheVariants.{Or}
use Rattle.mini_model.specs.declared.seat.Seat.{Seat}
use Rattle.mini_model.specs.declared.shape.Shape.TheVariants as shape
use Rattle.mini_model.specs.Tree.{Tree, Trees, node, none, ◌▸◌, child_or_absent, identifier, logical, conditional}
use Rattle.mini_model.specs.Paths.{append}
use Rattle.mini_model.specs.Position.{conditional_level}
use Rattle.mini_laws.specs.Value.{Declared, VariableSet}
use Rattle.mini_kept.specs.Without.{Assured}
use Rattle.mini_node.specs.Children.{part, names_of, first_children}
use Rattle.mini_node.specs.Equal.{same_tree}
use Rattle.mini_node.specs.Kinds.{assignment, assignment_operator, binary, binary_operator, computed_member, is_computed_member, is_conditional, is_identifier, is_sequence, logical_operator, sequence}
use Rattle.mini_node.specs.Made.{binary_is, computed_member_is, conditional_is, identifier_is, logical_is, sequence_is}
use Rattle.mini_node.proofs.Equality.{tree_same, tree_itself}
use Rattle.mini_rows.specs.Editions.{SteadyIn}
use Rattle.mini_rows.specs.Choices.{Key, Named, Spelled, Numbered, member_on, computing, deciding, keeps_parentheses}
use Rattle.mini_rows.specs.Members.{this, Object, OfThis, OfName, object, is_kept, are_left, is_ready, Index, Written, Held, member_at, is_kept_index, is_ready_index, Row38Member, Row38MemberLast, Row35This, Row45Kept, MemberRow}
use Rattle.mini_rows.specs.Past.{leaves}
use Rattle.mini_rows.specs.Unused.{resolved}
use Rattle.mini_choices.specs.Assigning.{is_plain, has_written_key}
use Rattle.mini_choices.specs.MinimizeConditionalBranches.{is_seated, assigned}
use Rattle.mini_choices.specs.MinimizeLogicalSequence as lasting
use Rattle.mini_choices.specs.MinimizeNormalAssignmentToCombinedAssignment.{computing_in}
use Rattle.mini_choices.proofs.CombinedAssignment.{plainly_is, written_key, key_there}
use Rattle.mini_choices.proofs.LogicalSequence.{but_last, ends, ends_with, last_there, several_there}
use Rattle.mini_choices.proofs.Trials.{some_is, not_true, both_true, first_true, later_true}
use Rattle.mini_steady.specs.Leaving.{all_leave, is_this}
use Rattle.mini_steady.specs.Members as row
use Rattle.mini_steady.specs.Members.{MembersAreRows, UnwrittenMembersRest}

-- ---- what has members

abbrev named : List ℕ → Option SymbolId → Name
named s o = record { spelling = s; symbol = o }

-- a name that is steady has a symbol
record Steadied (S : VariableSet) (x : Name) : Type 0 where
  symbol : ℕ
  is : x ≡ resolved x.spelling symbol
  steady : S (Declared symbol) ≡ true

steadied : (S : VariableSet) (x : Name) → row.is_steady_symbol S x.symbol ≡ true → Steadied S x
steadied S x e = go x.symbol refl e
  where
    go : (o : Option SymbolId) → x.symbol ≡ o → row.is_steady_symbol S o ≡ true → Steadied S x
    go (Some i) h e = record { symbol = i.0; is = ap (named x.spelling) h; steady = e }
    go None h e = absurd (false≢true e)

this_is : (t : Tree) → is_this t ≡ true → t ≡ this
this_is (node shape.ThisExpression [] zero none) e = refl
this_is t e = absurd (false≢true e)

-- what keeps its value
record KeptObject (V : Assured) (t : Tree) : Type 0 where
  of : Object
  kept : is_kept V of ≡ true
  is : t ≡ object of

kept_object : (V : Assured) (t : Tree) → row.is_kept_object V t ≡ true → KeptObject V t
kept_object V t e = by (is_this t && V.has_this) refl e
  where
    by : (b : Bool) → is_this t && V.has_this ≡ b → (b || (is_identifier t && row.is_steady_in V.steady (names_of t))) ≡ true → KeptObject V t
    by true h e =
        let (there, has) = and_parts (is_this t) V.has_this h in
        record { of = OfThis; kept = has; is = this_is t there }
    by false h e =
        let (name, steady) = and_parts (is_identifier t) (row.is_steady_in V.steady (names_of t)) e in
        let (x, i) = identifier_is t name in
        let s = steadied V.steady x (sym (ap (λ u. row.is_steady_in V.steady (names_of u)) i) ∙ steady) in
        record { of = OfName x.spelling s.symbol; kept = s.steady; is = i ∙ ap identifier s.is }

record KeptMember (V : Assured) (t : Tree) : Type 0 where
  of : Object
  key : Key
  kept : is_kept V of ≡ true
  object_is : part t 0 ≡ object of
  is : t ≡ member_on (object of) key

kept_member : (V : Assured) (t : Tree) → row.is_kept_member V t ≡ true → KeptMember V t
kept_member V t e =
    let (written, kept) = and_parts (has_written_key t) (row.is_kept_object V (part t 0)) e in
    let k = written_key t written in
    let o = kept_object V (part t 0) kept in
    record { of = o.of; key = k.key; kept = o.kept; object_is = o.is; is = k.is (object o.of) o.is }

record ThisMember (V : Assured) (t : Tree) : Type 0 where
  key : Key
  kept : V.has_this ≡ true
  is : t ≡ member_on this key

this_member : (V : Assured) (t : Tree) → row.is_this_member V t ≡ true → ThisMember V t
this_member V t e =
    let (written, rest) = and_parts (has_written_key t) (is_this (part t 0) && V.has_this) e in
    let (there, has) = and_parts (is_this (part t 0)) V.has_this rest in
    let k = written_key t written in
    record { key = k.key; kept = has; is = k.is this (this_is (part t 0) there) }

-- an object of a member
owner : (o : Tree) (k : Key) → part (member_on o k) 0 ≡ o
owner o (Named s) = refl
owner o (Spelled s) = refl
owner o (Numbered n) = refl

object_passes : (V : Assured) (of : Object) → is_kept V of ≡ true → row.is_kept_object V (object of) ≡ true
object_passes V OfThis h = ap (λ b. b || false) h
object_passes V (OfName spelling symbol) h = h

member_passes : (V : Assured) (of : Object) (k : Key) → is_kept V of ≡ true → row.is_kept_member V (member_on (object of) k) ≡ true
member_passes V of k h =
    both_true (has_written_key (member_on (object of) k)) (row.is_kept_object V (part (member_on (object of) k) 0)) (key_there (object of) k)
    (ap (row.is_kept_object V) (owner (object of) k) ∙ object_passes V of h)

this_passes : (V : Assured) (k : Key) → V.has_this ≡ true → row.is_this_member V (member_on this k) ≡ true
this_passes V k h =
    both_true (has_written_key (member_on this k)) (is_this (part (member_on this k) 0) && V.has_this) (key_there this k)
    (ap (λ t. is_this t && V.has_this) (owner this k) ∙ h)

-- ---- an assignment to one

record AssignsKept (V : Assured) (m t : Tree) : Type 0 where
  member : KeptMember V m
  is : t ≡ assignment Assign m (part t 1)
  target : part t 0 ≡ m

assigns_kept : (V : Assured) (m t : Tree) → row.assigns_kept V m t ≡ true → AssignsKept V m t
assigns_kept V m t e =
    let (plain, rest) = and_parts (is_plain (assignment_operator t)) (same_tree m (part t 0) && row.is_kept_member V m) e in
    let (same, kept) = and_parts (same_tree m (part t 0)) (row.is_kept_member V m) rest in
    let there = sym (tree_same m (part t 0) same) in
    record { member = kept_member V m kept; is = plainly_is t plain ∙ ap (λ u. assignment Assign u (part t 1)) there; target = there }

assigns_passes : (V : Assured) (of : Object) (k : Key) (b : Tree) → is_kept V of ≡ true → row.assigns_kept V (member_on (object of) k) (assignment Assign (member_on (object of) k) b) ≡ true
assigns_passes V of k b h =
    let m = member_on (object of) k in
    both_true (same_tree m m) (row.is_kept_member V m) (tree_itself m) (member_passes V of k h)

-- ---- what stands before the last part

front : (t : Tree) (ts : Trees) → first_children (lasting.last_place (t ▸ ts)) (t ▸ ts) ≡ but_last t ts
front t none = refl
front t (u ▸ us) = ap (λ vs. t ▸ vs) (front u us)

front_of : (p : Tree) (ps : Trees) (l : Tree) → first_children (lasting.last_place (p ▸ append ps (l ▸ none))) (p ▸ append ps (l ▸ none)) ≡ p ▸ ps
front_of p none l = refl
front_of p (q ▸ qs) l = ap (λ vs. p ▸ vs) (front_of q qs l)

alike : (of : Object) (ts : Trees) → all_leave (object of) ts ≡ are_left of ts
alike of none = refl
alike OfThis (t ▸ ts) = alike OfThis ts
alike (OfName spelling symbol) (t ▸ ts) = ap (λ b. leaves t (resolved spelling symbol) symbol && b) (alike (OfName spelling symbol) ts)

ready_alike : (V : Assured) (of : Object) (t : Tree) → row.is_ready_before V (object of) t ≡ is_ready V of t
ready_alike V OfThis t = refl
ready_alike V (OfName spelling symbol) t = refl

-- a member whose parts may be evaluated before a test
record ReadyMember (V : Assured) (a t : Tree) : Type 0 where
  of : Object
  index : Index
  kept : is_kept V of ≡ true
  held : is_kept_index V index ≡ true
  ready : is_ready V of a ≡ true
  soon : is_ready_index V index a ≡ true
  is : t ≡ member_at (object of) index

of_ready : (V : Assured) (a t : Tree) (of : Object) → t ≡ object of → row.is_ready_before V t a ≡ true → is_ready V of a ≡ true
of_ready V a t of e h = sym (ready_alike V of a) ∙ sym (ap (λ o. row.is_ready_before V o a) e) ∙ h

ready_member : (V : Assured) (a t : Tree) → row.is_ready_member V a t ≡ true → ReadyMember V a t
ready_member V a t e = by (row.is_kept_member V t && row.is_ready_before V (part t 0) a) refl e
  where
    by : (b : Bool) → row.is_kept_member V t && row.is_ready_before V (part t 0) a ≡ b → (b || (row.is_held_member V t && (row.is_ready_before V (part t 0) a && row.is_ready_before V (part t 1) a))) ≡ true → ReadyMember V a t
    by true h e =
        let (member, ready) = and_parts (row.is_kept_member V t) (row.is_ready_before V (part t 0) a) h in
        let m = kept_member V t member in
        record { of = m.of; index = Written m.key; kept = m.kept; held = refl; ready = of_ready V a (part t 0) m.of m.object_is ready; soon = refl; is = m.is }
    by false h e =
        let (member, ready) = and_parts (row.is_held_member V t) (row.is_ready_before V (part t 0) a && row.is_ready_before V (part t 1) a) e in
        let (there, kept) = and_parts (is_computed_member t) (row.is_kept_object V (part t 0) && row.is_kept_object V (part t 1)) member in
        let (first, second) = and_parts (row.is_kept_object V (part t 0)) (row.is_kept_object V (part t 1)) kept in
        let (before, soon) = and_parts (row.is_ready_before V (part t 0) a) (row.is_ready_before V (part t 1) a) ready in
        let o = kept_object V (part t 0) first in
        let i = kept_object V (part t 1) second in
        record { of = o.of; index = Held i.of; kept = o.kept; held = i.kept; ready = of_ready V a (part t 0) o.of o.is before; soon = of_ready V a (part t 1) i.of i.is soon; is = computed_member_is t there ∙ (λ j. computed_member (o.is j) (i.is j)) }

or_left : (a b : Bool) → a ≡ true → (a || b) ≡ true
or_left true b e = refl
or_left false b e = absurd (false≢true e)

or_right : (a b : Bool) → b ≡ true → (a || b) ≡ true
or_right true b e = refl
or_right false b e = e

ready_passes : (V : Assured) (a : Tree) (of : Object) (index : Index) → is_kept V of ≡ true → is_kept_index V index ≡ true → is_ready V of a ≡ true → is_ready_index V index a ≡ true → row.is_ready_member V a (member_at (object of) index) ≡ true
ready_passes V a of (Written k) kept held ready soon =
    let m = member_on (object of) k in
    or_left (row.is_kept_member V m && row.is_ready_before V (part m 0) a) _
    (both_true (row.is_kept_member V m) (row.is_ready_before V (part m 0) a) (member_passes V of k kept)
    (ap (λ o. row.is_ready_before V o a) (owner (object of) k) ∙ ready_alike V of a ∙ ready))
ready_passes V a of (Held i) kept held ready soon =
    let m = computed_member (object of) (object i) in
    or_right (row.is_kept_member V m && row.is_ready_before V (object of) a) _
    (both_true (row.is_kept_object V (object of) && row.is_kept_object V (object i)) (row.is_ready_before V (object of) a && row.is_ready_before V (object i) a)
    (both_true (row.is_kept_object V (object of)) (row.is_kept_object V (object i)) (object_passes V of kept) (object_passes V i held))
    (both_true (row.is_ready_before V (object of) a) (row.is_ready_before V (object i) a) (ready_alike V of a ∙ ready) (ready_alike V i a ∙ soon)))

some_of : {A : Type 0} (x : Option A) (d : A) → is_some x ≡ true → x ≡ Some (unwrap_or x d)
some_of (Some a) d e = refl
some_of None d e = absurd (false≢true e)

-- ---- 38

module _ (V : Assured) (n : Tree) where
  abbrev o : LogicalOperator
  o = row.operator_of n

  member_row : row.decides_member V n ≡ true → Row38Member V n (row.member_decided n)
  member_row e =
      let (operator, rest) = and_parts (is_some (logical_operator n)) (row.assigns_kept V (part n 0) (part n 1)) e in
      let a = assigns_kept V (part n 0) (part n 1) rest in
      let m = a.member in
      record {
        operator = o;
        of = m.of;
        key = m.key;
        b = part (part n 1) 1;
        kept = m.kept;
        shape = logical_is n o (some_of (logical_operator n) Or operator) ∙ ap (logical o (part n 0)) a.is ∙ ap (λ t. logical o t (assignment Assign t (part (part n 1) 1))) m.is;
        written = ap (λ t. assignment (deciding o) t (part (part n 1) 1)) (a.target ∙ m.is);
      }

  last_row : (s : Seat) → row.decides_last V s n ≡ true → Row38MemberLast V s n (row.last_decided n)
  last_row s e =
      let (operator, r1) = and_parts (is_some (logical_operator n)) (keeps_parentheses o s && (is_sequence (part n 1) && row.assigns_last V (part n 0) (lasting.parts_of n))) e in
      let (keeps, r2) = and_parts (keeps_parentheses o s) (is_sequence (part n 1) && row.assigns_last V (part n 0) (lasting.parts_of n)) r1 in
      let (several, last) = and_parts (is_sequence (part n 1)) (row.assigns_last V (part n 0) (lasting.parts_of n)) r2 in
      made (logical_is n o (some_of (logical_operator n) Or operator)) keeps (sequence_is (part n 1) several) (lasting.parts_of n) refl last
    where
      made : n ≡ logical o (part n 0) (part n 1) → keeps_parentheses o s ≡ true → part n 1 ≡ sequence (lasting.parts_of n) → (us : Trees) → lasting.parts_of n ≡ us → row.assigns_last V (part n 0) us ≡ true → Row38MemberLast V s n (row.last_decided n)
      made h k q (a ▸ (b ▸ us)) f e =
          let l : Tree = child_or_absent (b ▸ us) (lasting.last_place (b ▸ us)) in
          let before : Trees = first_children (lasting.last_place (a ▸ (b ▸ us))) (a ▸ (b ▸ us)) in
          let (there, leaving) = and_parts (row.assigns_kept V (part n 0) l) (all_leave (part (part n 0) 0) before) e in
          let x = assigns_kept V (part n 0) l there in
          let m = x.member in
          let value : Tree = part l 1 in
          record {
            operator = o;
            of = m.of;
            key = m.key;
            first = a;
            others = but_last b us;
            b = value;
            kept = m.kept;
            left = sym (alike m.of (a ▸ but_last b us)) ∙ sym (ap (λ t. all_leave t (a ▸ but_last b us)) m.object_is) ∙ sym (ap (all_leave (part (part n 0) 0)) (front a (b ▸ us))) ∙ leaving;
            seated = k;
            shape =
                h
                ∙ ap (logical o (part n 0)) (q ∙ ap sequence (f ∙ ap (λ vs. a ▸ vs) (ends b us ∙ ap (λ t. append (but_last b us) (t ▸ none)) x.is)))
                ∙ ap (λ t. logical o t (sequence (a ▸ append (but_last b us) (assignment Assign t value ▸ none)))) m.is;
            written =
                ap (λ vs. assignment (deciding o) (part n 0) (sequence (lasting.with_value vs))) f
                ∙ (λ j. assignment (deciding o) (m.is j) (sequence (a ▸ ends_with b us value j)));
          }
      made h k q none f e = absurd (false≢true e)
      made h k q (a ▸ none) f e = absurd (false≢true e)

  -- ---- 35

  computed_row : row.computes_this V n ≡ true → Row35This V n (row.member_combined n)
  computed_row e =
      let (plain, r1) = and_parts (is_plain (assignment_operator n)) (is_some (row.computing_operator (part n 1)) && (same_tree (part n 0) (part (part n 1) 0) && row.is_this_member V (part n 0))) e in
      let (computes, r2) = and_parts (is_some (row.computing_operator (part n 1))) (same_tree (part n 0) (part (part n 1) 0) && row.is_this_member V (part n 0)) r1 in
      let (same, member) = and_parts (same_tree (part n 0) (part (part n 1) 0)) (row.is_this_member V (part n 0)) r2 in
      made (plainly_is n plain) (sym (tree_same (part n 0) (part (part n 1) 0) same)) (this_member V (part n 0) member) (binary_operator (part n 1)) refl computes
    where
      right : Tree
      right = part (part n 1) 1

      combines : (p : Option BinaryOperator) → Tree
      combines p = assignment (unwrap_or (computing_in p) Assign) (part n 0) right

      made : n ≡ assignment Assign (part n 0) (part n 1) → part (part n 1) 0 ≡ part n 0 → ThisMember V (part n 0) → (p : Option BinaryOperator) → binary_operator (part n 1) ≡ p → is_some (computing_in p) ≡ true → Row35This V n (row.member_combined n)
      made h same m (Some p) i e =
          let c : AssignmentOperator = unwrap_or (computing p) Assign in
          record {
            operator = p;
            combined = c;
            key = m.key;
            b = right;
            computes = some_of (computing p) Assign e;
            kept = m.kept;
            shape = h ∙ ap (assignment Assign (part n 0)) (binary_is (part n 1) p i ∙ ap (λ t. binary p t right) same) ∙ ap (λ t. assignment Assign t (binary p t right)) m.is;
            written = ap combines i ∙ ap (λ t. assignment c t right) m.is;
          }
      made h same m None i e = absurd (false≢true e)

  -- ---- 45

  chosen_row : (s : Seat) → row.chooses_member V s n ≡ true → Row45Kept V s n (assigned n)
  chosen_row s e =
      let test : Tree = part n 0 in
      let yes : Tree = part n 1 in
      let no : Tree = part n 2 in
      let t : Tree = part yes 0 in
      let (seated, r1) = and_parts (is_seated s) (is_conditional n && row.assigns_either V test yes no) e in
      let (choice, r2) = and_parts (is_conditional n) (row.assigns_either V test yes no) r1 in
      let (first, r3) = and_parts (is_plain (assignment_operator yes)) (is_plain (assignment_operator no) && (same_tree t (part no 0) && row.is_ready_member V test t)) r2 in
      let (second, r4) = and_parts (is_plain (assignment_operator no)) (same_tree t (part no 0) && row.is_ready_member V test t) r3 in
      let (same, member) = and_parts (same_tree t (part no 0)) (row.is_ready_member V test t) r4 in
      let m = ready_member V test t member in
      let one = plainly_is yes first ∙ ap (λ u. assignment Assign u (part yes 1)) m.is in
      let other = plainly_is no second ∙ ap (λ u. assignment Assign u (part no 1)) (sym (tree_same t (part no 0) same) ∙ m.is) in
      record {
        a = test;
        of = m.of;
        index = m.index;
        b = part yes 1;
        c = part no 1;
        kept = m.kept;
        held = m.held;
        ready = m.ready;
        soon = m.soon;
        seated = not_true (nat_eq s.level conditional_level) seated;
        shape = conditional_is n choice ∙ (λ j. conditional test (one j) (other j));
        written = ap (λ p. assignment (unwrap_or p Assign) t (conditional test (part yes 1) (part no 1))) (plain_operator yes first) ∙ ap (λ u. assignment Assign u (conditional test (part yes 1) (part no 1))) m.is;
      }
    where
      plain_operator : (t : Tree) → is_plain (assignment_operator t) ≡ true → assignment_operator t ≡ Some Assign
      plain_operator t e = go (assignment_operator t) e
        where
          go : (p : Option AssignmentOperator) → is_plain p ≡ true → p ≡ Some Assign
          go (Some Assign) e = refl
          go p e = absurd (cc e)

-- ---- one after another

tried : (P : Tree → Type 0) (b : Bool) (made : Tree) (next : Option Tree) (w : Tree) → (b ≡ true → P made) → (next ≡ Some w → P w) → (if b then Some made else next) ≡ Some w → P w
tried P true made next w f g e = subst P (some_is made w e) (f refl)
tried P false made next w f g e = g e

-- told whether the edition has `||=` and its like

members_by : (late : Bool) (e : ℕ) → (late ≡ true → 2021 ≤ e) → (V : Assured) (s : Seat) (n w : Tree) → row.written_by late V s n ≡ Some w → row.MemberIn e V s n w
members_by late e has V s n w =
    let P : Tree → Type 0 = row.MemberIn e V s n in
    tried P (late && row.decides_member V n) (row.member_decided n) (row.last_written late V s n) w (λ h. let (k, h) = and_parts late (row.decides_member V n) h in (inl (member_row V n h), has k))
    (tried P (late && row.decides_last V s n) (row.last_decided n) (row.combined_written V s n) w (λ h. let (k, h) = and_parts late (row.decides_last V s n) h in (inr (inl (last_row V n s h)), has k))
    (tried P (row.computes_this V n) (row.member_combined n) (row.chosen_written V s n) w (λ h. (inr (inr (inl (computed_row V n h))), tt))
    (tried P (row.chooses_member V s n) (assigned n) None w (λ h. (inr (inr (inr (chosen_row V n s h))), tt)) (λ e. absurd (cc e)))))

pub members_are_rows : MembersAreRows
members_are_rows e V s n w = members_by (nat_le 2021 e) e (leb-true 2021 e) V s n w

-- ---- each such expression passes

module _ (late : Bool) (V : Assured) (s : Seat) (n w : Tree) where
  by_member : late ≡ true → Row38Member V n w → is_some (row.written_by late V s n) ≡ true
  by_member k r =
      first_true (late && row.decides_member V n) (row.member_decided n) (row.last_written late V s n)
      (both_true late (row.decides_member V n) k (ap (row.decides_member V) r.shape ∙ assigns_passes V r.of r.key r.b r.kept))

  after_member : is_some (row.last_written late V s n) ≡ true → is_some (row.written_by late V s n) ≡ true
  after_member = later_true (late && row.decides_member V n) (row.member_decided n) (row.last_written late V s n)

  by_last : late ≡ true → Row38MemberLast V s n w → is_some (row.written_by late V s n) ≡ true
  by_last k r =
      let m : Tree = member_on (object r.of) r.key in
      let l : Tree = assignment Assign m r.b in
      let ts : Trees = r.first ▸ append r.others (l ▸ none) in
      after_member (first_true (late && row.decides_last V s n) (row.last_decided n) (row.combined_written V s n)
      (both_true late (row.decides_last V s n) k (ap (row.decides_last V s) r.shape
      ∙ both_true (keeps_parentheses r.operator s) (row.assigns_last V m ts) r.seated
      (both_true (lasting.are_several ts) (row.assigns_kept V m (child_or_absent ts (lasting.last_place ts)) && all_leave (part m 0) (first_children (lasting.last_place ts) ts)) (several_there r.first r.others l)
      (both_true (row.assigns_kept V m (child_or_absent ts (lasting.last_place ts))) (all_leave (part m 0) (first_children (lasting.last_place ts) ts))
      (ap (row.assigns_kept V m) (last_there r.first r.others l) ∙ assigns_passes V r.of r.key r.b r.kept)
      (ap (λ o. all_leave o (first_children (lasting.last_place ts) ts)) (owner (object r.of) r.key) ∙ ap (all_leave (object r.of)) (front_of r.first r.others l) ∙ alike r.of (r.first ▸ r.others) ∙ r.left))))))

  after_last : is_some (row.combined_written V s n) ≡ true → is_some (row.written_by late V s n) ≡ true
  after_last e = after_member (later_true (late && row.decides_last V s n) (row.last_decided n) (row.combined_written V s n) e)

  by_computed : Row35This V n w → is_some (row.written_by late V s n) ≡ true
  by_computed r =
      let m : Tree = member_on this r.key in
      after_last (first_true (row.computes_this V n) (row.member_combined n) (row.chosen_written V s n)
      (ap (row.computes_this V) r.shape
      ∙ both_true (is_some (computing r.operator)) (same_tree m m && row.is_this_member V m) (ap is_some r.computes)
      (both_true (same_tree m m) (row.is_this_member V m) (tree_itself m) (this_passes V r.key r.kept))))

  by_chosen : Row45Kept V s n w → is_some (row.written_by late V s n) ≡ true
  by_chosen r =
      let m : Tree = member_at (object r.of) r.index in
      after_last (later_true (row.computes_this V n) (row.member_combined n) (row.chosen_written V s n)
      (first_true (row.chooses_member V s n) (assigned n) None
      (ap (row.chooses_member V s) r.shape
      ∙ both_true (is_seated s) (same_tree m m && row.is_ready_member V r.a m) (ap not r.seated)
      (both_true (same_tree m m) (row.is_ready_member V r.a m) (tree_itself m) (ready_passes V r.a r.of r.index r.kept r.held r.ready r.soon)))))

  passes : (e : ℕ) → (2021 ≤ e → late ≡ true) → (r : MemberRow V s n w) → SteadyIn e V (Expr s) n w (inl r) → is_some (row.written_by late V s n) ≡ true
  passes e has (inl r) a = by_member (has a) r
  passes e has (inr (inl r)) a = by_last (has a) r
  passes e has (inr (inr (inl r))) a = by_computed r
  passes e has (inr (inr (inr r))) a = by_chosen r

pub unwritten_rests : UnwrittenMembersRest
unwritten_rests e V s n h w r = absurd (cc (sym (passes (nat_le 2021 e) V s n w e (le-leb 2021 e) r.0 r.1) ∙ ap is_some h))
