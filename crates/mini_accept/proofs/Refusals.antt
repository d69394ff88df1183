-- A greater limit of depth refuses the same values, but those that were refused for want of depth.
use Rattle.std.proofs.Common.{◌≡◌, ℕ, zero, suc, ◌≤◌, List, [], ◌∷◌, refl, ap, sym, ◌∙◌, inl, inr, Bool, true, false, arith}
use Rattle.std.specs.Prelude.{Option, Some, None, Result, Ok, Err}
use Rattle.serde_json.specs.Data.{Data}
use Rattle.mini_model.specs.declared.name.Name.{Name}
use Rattle.mini_model.specs.declared.shape.Shape.{Shape}
use Rattle.mini_model.specs.Tree.{Tree, Trees}
use Rattle.mini_accept.specs.WellShaped.{a_program, is_strict_in}
use Rattle.mini_accept.specs.Faults.{Defect, too_deep, Fault}
use Rattle.mini_accept.specs.Places.{Step, step_text, down, Place, at}
use Rattle.mini_accept.specs.Plans.{Part, hole, tree_at, inner_at, checked, Child, one, many, Plan}
use Rattle.mini_accept.specs.Accept.{plan, Read, Reader, takes_number, below_by, read_below, read_part, read_parts, read_child, read_children, with_children, numbered, read_plan, reads, program_at}
use Rattle.mini_accept.proofs.Results.{err_same, bind_err, under_err}
use Rattle.mini_accept.proofs.Depths.{Extends, part_more, child_more, reads_more}

-- a defect that a greater depth doesn't mend
abbrev Lasting : Fault → Type 0
Lasting f = f.defect ≡ too_deep → ⊥

-- the second reader reads whatever the first does, and refuses whatever the first does, but for want of depth
record Follows (r q : Reader) : Type 0 where
  more : Extends r q
  refused : (strict : Bool) (p : Place) (n : ℕ) (d : Data) (f : Fault) → Lasting f → r strict p n d ≡ Err f → q strict p n d ≡ Err f

below_refused : (r q : Reader) → Follows r q → (strict : Bool) (p : Place) (n : ℕ) (s : Step) (o : Option Data) (f : Fault) → Lasting f → below_by r strict p n s o ≡ Err f → below_by q strict p n s o ≡ Err f
below_refused r q follows strict p n s None f lasts e = e
below_refused r q follows strict p n s (Some d) f lasts e =
    let (g, bad, moved) = under_err (step_text s) (r strict p n d) f e in
    rw (follows.refused strict p n d g (λ h. lasts (ap (λ x. x.defect) moved ∙ h)) bad) (ap (λ x. Err x) (sym moved))

part_refused : (r q : Reader) → Follows r q → (strict : Bool) (d : Data) (n : ℕ) (c : Part) (f : Fault) → Lasting f → read_part r strict d n c ≡ Err f → read_part q strict d n c ≡ Err f
part_refused r q follows strict d n hole f lasts e = absurd (cc e)
part_refused r q follows strict d n (tree_at s p) f lasts e = elim (bind_err (read_below r strict n d s p) _ f e) [
  | inl bad ↦ rw (below_refused r q follows strict p n s (down s d) f lasts bad) refl
  | inr more ↦ absurd (cc more.2)
]
part_refused r q follows strict d n (inner_at s p) f lasts e = elim (bind_err (read_below r strict (suc n) d s p) _ f e) [
  | inl bad ↦ rw (below_refused r q follows strict p (suc n) s (down s d) f lasts bad) refl
  | inr more ↦ absurd (cc more.2)
]
part_refused r q follows strict d n (checked s p) f lasts e = elim (bind_err (read_below r strict n d s p) _ f e) [
  | inl bad ↦ rw (below_refused r q follows strict p n s (down s d) f lasts bad) refl
  | inr more ↦ absurd (cc more.2)
]

parts_refused : (r q : Reader) → Follows r q → (strict : Bool) (d : Data) (n : ℕ) (cs : List Part) (f : Fault) → Lasting f → read_parts r strict d n cs ≡ Err f → read_parts q strict d n cs ≡ Err f
parts_refused r q follows strict d n [] f lasts e = absurd (cc e)
parts_refused r q follows strict d n (c ∷ cs) f lasts e = elim (bind_err (read_part r strict d n c) _ f e) [
  | inl bad ↦ rw (part_refused r q follows strict d n c f lasts bad) refl
  | inr later ↦ elim (bind_err (read_parts r strict d later.0.1 cs) _ f later.2) [
    | inl bad ↦ rw (part_more r q follows.more strict d n c later.0 later.1, parts_refused r q follows strict d later.0.1 cs f lasts bad) refl
    | inr more ↦ absurd (cc more.2)
  ]
]

child_refused : (r q : Reader) → Follows r q → (strict : Bool) (d : Data) (n : ℕ) (c : Child) (f : Fault) → Lasting f → read_child r strict d n c ≡ Err f → read_child q strict d n c ≡ Err f
child_refused r q follows strict d n (one c) f lasts e = part_refused r q follows strict d n c f lasts e
child_refused r q follows strict d n (many cs) f lasts e = elim (bind_err (read_parts r strict d n cs) _ f e) [
  | inl bad ↦ rw (parts_refused r q follows strict d n cs f lasts bad) refl
  | inr more ↦ absurd (cc more.2)
]

children_refused : (r q : Reader) → Follows r q → (strict : Bool) (d : Data) (n : ℕ) (cs : List Child) (f : Fault) → Lasting f → read_children r strict d n cs ≡ Err f → read_children q strict d n cs ≡ Err f
children_refused r q follows strict d n [] f lasts e = absurd (cc e)
children_refused r q follows strict d n (c ∷ cs) f lasts e = elim (bind_err (read_child r strict d n c) _ f e) [
  | inl bad ↦ rw (child_refused r q follows strict d n c f lasts bad) refl
  | inr later ↦ elim (bind_err (read_children r strict d later.0.1 cs) _ f later.2) [
    | inl bad ↦ rw (child_more r q follows.more strict d n c later.0 later.1, children_refused r q follows strict d later.0.1 cs f lasts bad) refl
    | inr more ↦ absurd (cc more.2)
  ]
]

with_refused : (h : Shape) (xs : List Name) (m : ℕ) (a b : Read Trees) (f : Fault) → (a ≡ Err f → b ≡ Err f) → with_children h xs m a ≡ Err f → with_children h xs m b ≡ Err f
with_refused h xs m a b f same e = elim (bind_err a _ f e) [
  | inl bad ↦ rw (same bad) refl
  | inr more ↦ absurd (cc more.2)
]

numbered_refused : (b : Bool) (n : ℕ) (h : Shape) (xs : List Name) (a c : ℕ → Read Trees) (f : Fault) → ((m : ℕ) → a m ≡ Err f → c m ≡ Err f) → numbered b n h xs a ≡ Err f → numbered b n h xs c ≡ Err f
numbered_refused true n h xs a c f same e = with_refused h xs n (a (suc n)) (c (suc n)) f (same (suc n)) e
numbered_refused false n h xs a c f same e = with_refused h xs 0 (a n) (c n) f (same n) e

plan_refused : (r q : Reader) → Follows r q → (strict : Bool) (p : Place) (n : ℕ) (d : Data) (o : Result Plan Defect) (f : Fault) → Lasting f → read_plan r strict p n d o ≡ Err f → read_plan q strict p n d o ≡ Err f
plan_refused r q follows strict p n d (Err b) f lasts e = e
plan_refused r q follows strict p n d (Ok o) f lasts e =
    numbered_refused (takes_number p o.shape) n o.shape o.names (λ m. read_children r (is_strict_in strict o.shape) d m o.children) (λ m. read_children q (is_strict_in strict o.shape) d m o.children) f
    (λ m bad. children_refused r q follows (is_strict_in strict o.shape) d m o.children f lasts bad) e

reads_refused : (k l : ℕ) → k ≤ l → (strict : Bool) (p : Place) (n : ℕ) (d : Data) (f : Fault) → Lasting f → reads k strict p n d ≡ Err f → reads l strict p n d ≡ Err f
reads_refused zero l h strict p n d f lasts e = absurd (lasts (ap (λ x. x.defect) (sym (err_same {A = Tree × ℕ} _ f e))))
reads_refused (suc k) zero h strict p n d f lasts e = absurd (omega arith)
reads_refused (suc k) (suc l) h strict p n d f lasts e =
    plan_refused (reads k) (reads l) (record { more = reads_more k l (omega arith); refused = λ s q m x g stays bad. reads_refused k l (omega arith) s q m x g stays bad }) strict p n d (plan strict p d) f lasts e

pub refused_deeper : (k l : ℕ) (d : Data) (f : Fault) → program_at k d ≡ Err f → Lasting f → k ≤ l → program_at l d ≡ Err f
unfolding program_at
refused_deeper k l d f e lasts h = reads_refused k l h false (at a_program) 0 d f lasts e
