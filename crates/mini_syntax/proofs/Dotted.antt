-- What a member is assigned to or updated by changes in its place.
use Rattle.std.proofs.Common.{◌≡◌, zero, true, false, [], Option, Some, None, refl, sym, ap, ◌∙◌}
use Rattle.std.specs.Prelude.{is_some, unwrap_or}
use Rattle.std.proofs.lemmas.Bool.{false≢true}
use Rattle.mini_model.specs.declared.shape.Shape.TheVariants as shape
use Rattle.mini_model.specs.Tree.{Tree, node, none, ◌▸◌, children}
use Rattle.mini_node.specs.Children.{part, with_child}
use Rattle.mini_node.specs.Kinds.{assignment_operator}
use Rattle.mini_node.specs.Lends.{with_children}
use Rattle.mini_rows.specs.Spellings.{assignment, update}
use Rattle.mini_syntax.specs.ConvertToDottedProperties.{turned, assigned_by, assigned, update_operator, updated_by, updated}

-- of an assignment

pub assigned_over : (t u : Tree) → is_some (assignment_operator t) ≡ true → u ≡ unwrap_or (turned (part t 0)) (part t 0) → with_children t (with_child (children t) 0 u) ≡ unwrap_or (assigned t) t
assigned_over (node (shape.AssignmentExpression o) [] zero (k ▸ v ▸ none)) u h e = go (turned k) refl
  where
    go : (m : Option Tree) → turned k ≡ m → assignment o u v ≡ unwrap_or (assigned_by (Some o) (turned k) (assignment o k v)) (assignment o k v)
    go None i = ap (λ x. assignment o x v) (e ∙ ap (λ m. unwrap_or m k) i) ∙ sym (ap (λ m. unwrap_or (assigned_by (Some o) m (assignment o k v)) (assignment o k v)) i)
    go (Some w) i = ap (λ x. assignment o x v) (e ∙ ap (λ m. unwrap_or m k) i) ∙ sym (ap (λ m. unwrap_or (assigned_by (Some o) m (assignment o k v)) (assignment o k v)) i)
assigned_over t u h e = absurd (false≢true h)

assigned_some : (o : Option Tree) (f : Option Tree → Option Tree) → is_some (f None) ≡ false → ((w : Tree) → is_some (f (Some w)) ≡ true) → is_some o ≡ is_some (f o)
assigned_some None f a b = sym a
assigned_some (Some w) f a b = sym (b w)

pub assigned_said : (t : Tree) → is_some (assignment_operator t) ≡ true → is_some (turned (part t 0)) ≡ is_some (assigned t)
assigned_said (node (shape.AssignmentExpression o) [] zero (k ▸ v ▸ none)) h = assigned_some (turned k) (λ m. assigned_by (Some o) m (assignment o k v)) refl (λ w. refl)
assigned_said t h = absurd (false≢true h)

unassigned : (t : Tree) (o : Option Tree) → is_some (assignment_operator t) ≡ false → assigned_by (assignment_operator t) o t ≡ None
unassigned (node (shape.AssignmentExpression p) [] zero (k ▸ v ▸ none)) o h = absurd (false≢true (sym h))
unassigned t o h = refl

pub no_assignment : (t : Tree) → is_some (assignment_operator t) ≡ false → assigned t ≡ None
no_assignment t h = unassigned t (turned (part t 0)) h

-- of an update

pub updated_over : (t u : Tree) → is_some (update_operator t) ≡ true → u ≡ unwrap_or (turned (part t 0)) (part t 0) → with_children t (with_child (children t) 0 u) ≡ unwrap_or (updated t) t
updated_over (node (shape.UpdateExpression o p) [] zero (k ▸ none)) u h e = go (turned k) refl
  where
    go : (m : Option Tree) → turned k ≡ m → update o p u ≡ unwrap_or (updated_by (Some (o, p)) (turned k)) (update o p k)
    go None i = ap (update o p) (e ∙ ap (λ m. unwrap_or m k) i) ∙ sym (ap (λ m. unwrap_or (updated_by (Some (o, p)) m) (update o p k)) i)
    go (Some w) i = ap (update o p) (e ∙ ap (λ m. unwrap_or m k) i) ∙ sym (ap (λ m. unwrap_or (updated_by (Some (o, p)) m) (update o p k)) i)
updated_over t u h e = absurd (false≢true h)

pub updated_said : (t : Tree) → is_some (update_operator t) ≡ true → is_some (turned (part t 0)) ≡ is_some (updated t)
updated_said (node (shape.UpdateExpression o p) [] zero (k ▸ none)) h = assigned_some (turned k) (λ m. updated_by (Some (o, p)) m) refl (λ w. refl)
updated_said t h = absurd (false≢true h)

not_updated : (t : Tree) (o : Option Tree) → is_some (update_operator t) ≡ false → updated_by (update_operator t) o ≡ None
not_updated (node (shape.UpdateExpression p q) [] zero (k ▸ none)) o h = absurd (false≢true (sym h))
not_updated t o h = refl

pub no_update : (t : Tree) → is_some (update_operator t) ≡ false → updated t ≡ None
no_update t h = not_updated t (turned (part t 0)) h
