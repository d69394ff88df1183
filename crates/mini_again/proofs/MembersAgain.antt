-- Rows of members of what keeps its value read a node that is read again.
use Rattle.mini_again.proofs.ChoicesAgain.{member_on_again}
use Rattle.mini_again.proofs.Equal.{same_identifier}
use Rattle.mini_again.proofs.ModelPathsAgain.{append_again}
use Rattle.mini_again.proofs.PastAgain.{binds_again, writes_again}
use Rattle.mini_again.proofs.UnusedAgain.{is_childless_again}
use Rattle.mini_again.specs.Again.{Renaming, again, all_again, assured_with_others}
use Rattle.mini_kept.specs.Without.{Assured}
use Rattle.mini_laws.specs.Renaming.{rename_name}
use Rattle.mini_model.specs.Tree.{Tree, Trees, identifier, node, none, ◌▸◌}
use Rattle.mini_model.specs.declared.name.Name.{Name}
use Rattle.mini_model.specs.declared.operator.AssignmentOperator.TheVariants.{Assign}
use Rattle.mini_model.specs.declared.seat.Seat.{Seat}
use Rattle.mini_model.specs.declared.shape.Shape.{Shape}
use Rattle.mini_rows.specs.Choices.{member_on}
use Rattle.mini_rows.specs.Lists.{resolved}
use Rattle.mini_rows.specs.Members.{Held, Index, MemberRow, Object, OfName, OfThis, Row35This, Row38Member, Row38MemberLast, Row45Kept, Written, are_left, begins_at, begins_in, is_kept, is_kept_index, is_left, is_ready, is_ready_index, member_at, object, this}
use Rattle.mini_rows.specs.Spellings.{assignment}
use Rattle.std.proofs.Common.{ap, inl, inr}
use Rattle.std.specs.Prelude.{refl, ◌≡◌}

abbrev pub again_object : Renaming → Object → Object
again_object ρ OfThis = OfThis
again_object ρ (OfName a0 a1) = OfName a0 (ρ.symbol a1)

abbrev pub again_index : Renaming → Index → Index
again_index ρ (Written a) = Written a
again_index ρ (Held a) = Held (again_object ρ a)

pub row35_this_again : (ρ : Renaming) (V : Assured) (n w : Tree) → Row35This (assured_with_others ρ V) n w → Row35This V (again ρ n) (again ρ w)
row35_this_again ρ V n w r = record {
  operator = r.operator;
  combined = r.combined;
  key = r.key;
  b = again ρ r.b;
  computes = r.computes;
  kept = r.kept;
  shape = simp (← (member_on_again ρ this r.key)) at (ap (again ρ) r.shape);
  written = simp (← (member_on_again ρ this r.key)) at (ap (again ρ) r.written);
}

pub is_kept_again : (ρ : Renaming) (V : Assured) (o : Object) → is_kept V (again_object ρ o) ≡ is_kept (assured_with_others ρ V) o
is_kept_again ρ V OfThis = refl
is_kept_again ρ V (OfName spelling symbol) = refl

pub object_again : (ρ : Renaming) (o : Object) → object (again_object ρ o) ≡ again ρ (object o)
object_again ρ OfThis = refl
object_again ρ (OfName spelling symbol) = refl

pub row38_member_again : (ρ : Renaming) (V : Assured) (n w : Tree) → Row38Member (assured_with_others ρ V) n w → Row38Member V (again ρ n) (again ρ w)
row38_member_again ρ V n w r = record {
  operator = r.operator;
  of = again_object ρ r.of;
  key = r.key;
  b = again ρ r.b;
  kept = simp (is_kept_again ρ V r.of) r.kept;
  shape = simp (← (object_again ρ r.of), ← (member_on_again ρ (object r.of) r.key)) at (ap (again ρ) r.shape);
  written = simp (← (object_again ρ r.of), ← (member_on_again ρ (object r.of) r.key)) at (ap (again ρ) r.written);
}

pub is_left_again : (ρ : Renaming) (o : Object) (t : Tree) → is_left (again_object ρ o) (again ρ t) ≡ is_left o t
is_left_again ρ OfThis t = refl
is_left_again ρ (OfName spelling symbol) t = simp (binds_again ρ symbol t, writes_again ρ (resolved spelling symbol) t)

pub are_left_again : (ρ : Renaming) (of : Object) (ts : Trees) → are_left (again_object ρ of) (all_again ρ ts) ≡ are_left of ts
are_left_again ρ of none = refl
are_left_again ρ of (t ▸ ts) = simp (is_left_again ρ of t, are_left_again ρ of ts)

pub row38_member_last_again : (ρ : Renaming) (V : Assured) (s : Seat) (n w : Tree) → Row38MemberLast (assured_with_others ρ V) s n w → Row38MemberLast V s (again ρ n) (again ρ w)
row38_member_last_again ρ V s n w r = record {
  operator = r.operator;
  of = again_object ρ r.of;
  key = r.key;
  first = again ρ r.first;
  others = all_again ρ r.others;
  b = again ρ r.b;
  kept = simp (is_kept_again ρ V r.of) r.kept;
  left = simp (are_left_again ρ r.of (r.first ▸ r.others)) r.left;
  seated = r.seated;
  shape = simp (← (object_again ρ r.of), ← (member_on_again ρ (object r.of) r.key), ← (append_again ρ r.others (assignment Assign (member_on (object r.of) r.key) r.b ▸ none))) at (ap (again ρ) r.shape);
  written = simp (← (object_again ρ r.of), ← (member_on_again ρ (object r.of) r.key), ← (append_again ρ r.others (r.b ▸ none))) at (ap (again ρ) r.written);
}

pub is_kept_index_again : (ρ : Renaming) (V : Assured) (i : Index) → is_kept_index V (again_index ρ i) ≡ is_kept_index (assured_with_others ρ V) i
is_kept_index_again ρ V (Written key) = refl
is_kept_index_again ρ V (Held of) = simp (is_kept_again ρ V of)

mutual
  pub begins_at_again : (ρ : Renaming) (x : Name) (t : Tree) → begins_at (identifier (rename_name ρ.symbol x)) (again ρ t) ≡ begins_at (identifier x) t
  begins_at_again ρ x (node h ys n none) = same_identifier ρ x (node h ys n none)
  begins_at_again ρ x (node h ys n (t ▸ ts)) = begins_in_again ρ x h (t ▸ ts)

  pub begins_in_again : (ρ : Renaming) (x : Name) (h : Shape) (ts : Trees) → begins_in (identifier (rename_name ρ.symbol x)) h (all_again ρ ts) ≡ begins_in (identifier x) h ts
  begins_in_again ρ x h none = refl
  begins_in_again ρ x h (t ▸ ts) = simp (is_childless_again ρ t, begins_at_again ρ x t)

pub is_ready_again : (ρ : Renaming) (V : Assured) (o : Object) (t : Tree) → is_ready V (again_object ρ o) (again ρ t) ≡ is_ready (assured_with_others ρ V) o t
is_ready_again ρ V OfThis t = refl
is_ready_again ρ V (OfName spelling symbol) t = simp (begins_at_again ρ (resolved spelling symbol) t, binds_again ρ symbol t, writes_again ρ (resolved spelling symbol) t)

pub is_ready_index_again : (ρ : Renaming) (V : Assured) (i : Index) (t : Tree) → is_ready_index V (again_index ρ i) (again ρ t) ≡ is_ready_index (assured_with_others ρ V) i t
is_ready_index_again ρ V (Written key) t = refl
is_ready_index_again ρ V (Held of) t = simp (is_ready_again ρ V of t)

pub member_at_again : (ρ : Renaming) (t : Tree) (i : Index) → member_at (again ρ t) (again_index ρ i) ≡ again ρ (member_at t i)
member_at_again ρ t (Written key) = simp (member_on_again ρ t key)
member_at_again ρ t (Held of) = simp (object_again ρ of)

pub row45_kept_again : (ρ : Renaming) (V : Assured) (s : Seat) (n w : Tree) → Row45Kept (assured_with_others ρ V) s n w → Row45Kept V s (again ρ n) (again ρ w)
row45_kept_again ρ V s n w r = record {
  a = again ρ r.a;
  of = again_object ρ r.of;
  index = again_index ρ r.index;
  b = again ρ r.b;
  c = again ρ r.c;
  kept = simp (is_kept_again ρ V r.of) r.kept;
  held = simp (is_kept_index_again ρ V r.index) r.held;
  ready = simp (is_ready_again ρ V r.of r.a) r.ready;
  soon = simp (is_ready_index_again ρ V r.index r.a) r.soon;
  seated = r.seated;
  shape = simp (← (object_again ρ r.of), ← (member_at_again ρ (object r.of) r.index)) at (ap (again ρ) r.shape);
  written = simp (← (object_again ρ r.of), ← (member_at_again ρ (object r.of) r.index)) at (ap (again ρ) r.written);
}

unfoldable pub member_row_again : (ρ : Renaming) (V : Assured) (s : Seat) (n w : Tree) → MemberRow (assured_with_others ρ V) s n w → MemberRow V s (again ρ n) (again ρ w)
member_row_again ρ V s n w (inl r) = inl (row38_member_again ρ V n w r)
member_row_again ρ V s n w (inr (inl r)) = inr (inl (row38_member_last_again ρ V s n w r))
member_row_again ρ V s n w (inr (inr (inl r))) = inr (inr (inl (row35_this_again ρ V n w r)))
member_row_again ρ V s n w (inr (inr (inr r))) = inr (inr (inr (row45_kept_again ρ V s n w r)))
