-- Each fault is a defect of the node at its pointer.
use Rattle.std.proofs.Common.{◌≡◌, ℕ, zero, suc, List, [], ◌∷◌, ◌++◌, refl, ap, sym, ◌∙◌, subst, inl, inr, arith, Bool, true, false}
use Rattle.std.proofs.lemmas.Bool.{and_parts}
use Rattle.std.specs.Prelude.{◌⊎◌, Option, Some, None, Result, Ok, Err}
use Rattle.serde_json.specs.Data.{Data}
use Rattle.mini_model.specs.declared.name.Name.{Name}
use Rattle.mini_model.specs.declared.shape.Shape.{Shape}
use Rattle.mini_model.specs.Tree.{Tree, Trees}
use Rattle.mini_accept.specs.WellShaped.{a_program, is_strict_in}
use Rattle.mini_accept.specs.Faults.{Defect, Fault, fault_under}
use Rattle.mini_accept.specs.Places.{Step, step_text, down, Place, at}
use Rattle.mini_accept.specs.Plans.{Part, hole, tree_at, inner_at, checked, Child, one, many, Plan}
use Rattle.mini_accept.specs.Accept.{is_placed_by, is_part_placed, are_parts_placed, is_child_placed, are_placed, plan, Read, takes_number, below_by, read_below, read_part, read_parts, read_child, read_children, with_children, numbered, read_plan, reads, program_at}
use Rattle.mini_accept.specs.Located.{IsPart, HasPart, IsBelow, HasChild, Located}
use Rattle.mini_accept.proofs.Results.{err_same, bind_err, under_err}
use Rattle.mini_accept.proofs.Planned.{plan_not_deep, plan_placed}

-- the fault is that of a node below, which is read at a step and in a place such as these
record Below (k : ℕ) (strict : Bool) (d : Data) (f : Fault) (has : Step → Place → Type 0) : Type 0 where
  step : Step
  place : Place
  number : ℕ
  found : Data
  told : Fault
  in_plan : has step place
  there : down step d ≡ Some found
  read : reads k strict place number found ≡ Err told
  moved : f ≡ fault_under (step_text step) told

wider : (k : ℕ) (strict : Bool) (d : Data) (f : Fault) (a b : Step → Place → Type 0) → ((s : Step) (p : Place) → a s p → b s p) → Below k strict d f a → Below k strict d f b
wider k strict d f a b grow w = record { step = w.step; place = w.place; number = w.number; found = w.found; told = w.told; in_plan = grow w.step w.place w.in_plan; there = w.there; read = w.read; moved = w.moved }

below_err : (k : ℕ) (strict : Bool) (d : Data) (f : Fault) (n : ℕ) (s : Step) (p : Place) → is_placed_by strict p (down s d) ≡ true → read_below (reads k) strict n d s p ≡ Err f → Below k strict d f (λ r q. (r ≡ s) × (q ≡ p))
below_err k strict d f n s p is e =
    let go : (o : Option Data) → down s d ≡ o → is_placed_by strict p o ≡ true → below_by (reads k) strict p n s o ≡ Err f → Below k strict d f (λ r q. (r ≡ s) × (q ≡ p)) = λ o. elim o as (λ v. down s d ≡ v → is_placed_by strict p v ≡ true → below_by (reads k) strict p n s v ≡ Err f → Below k strict d f (λ r q. (r ≡ s) × (q ≡ p))) [
      | None ↦ (λ same stands h. absurd (cc stands))
      | Some x ↦ (λ same stands h. (let (g, read, moved) = under_err (step_text s) (reads k strict p n x) f h in
          record { step = s; place = p; number = n; found = x; told = g; in_plan = (refl, refl); there = same; read = read; moved = moved }))
    ] in
    go (down s d) refl is e

part_err : (k : ℕ) (strict : Bool) (d : Data) (f : Fault) (n : ℕ) (c : Part) → is_part_placed strict d c ≡ true → read_part (reads k) strict d n c ≡ Err f → Below k strict d f (IsPart c)
part_err k strict d f n hole is e = absurd (cc e)
part_err k strict d f n (tree_at s p) is e = elim (bind_err (read_below (reads k) strict n d s p) _ f e) [
  | inl bad ↦ below_err k strict d f n s p is bad
  | inr more ↦ absurd (cc more.2)
]
part_err k strict d f n (inner_at s p) is e = elim (bind_err (read_below (reads k) strict (suc n) d s p) _ f e) [
  | inl bad ↦ below_err k strict d f (suc n) s p is bad
  | inr more ↦ absurd (cc more.2)
]
part_err k strict d f n (checked s p) is e = elim (bind_err (read_below (reads k) strict n d s p) _ f e) [
  | inl bad ↦ below_err k strict d f n s p is bad
  | inr more ↦ absurd (cc more.2)
]

parts_err : (k : ℕ) (strict : Bool) (d : Data) (f : Fault) (n : ℕ) (cs : List Part) → are_parts_placed strict d cs ≡ true → read_parts (reads k) strict d n cs ≡ Err f → Below k strict d f (HasPart cs)
parts_err k strict d f n [] is e = absurd (cc e)
parts_err k strict d f n (c ∷ cs) is e =
    let (first, rest) = and_parts (is_part_placed strict d c) (are_parts_placed strict d cs) is in
    elim (bind_err (read_part (reads k) strict d n c) _ f e) [
      | inl bad ↦ wider k strict d f (IsPart c) (HasPart (c ∷ cs)) (λ s p h. inl h) (part_err k strict d f n c first bad)
      | inr later ↦ elim (bind_err (read_parts (reads k) strict d later.0.1 cs) _ f later.2) [
        | inl bad ↦ wider k strict d f (HasPart cs) (HasPart (c ∷ cs)) (λ s p h. inr h) (parts_err k strict d f later.0.1 cs rest bad)
        | inr more ↦ absurd (cc more.2)
      ]
    ]

child_err : (k : ℕ) (strict : Bool) (d : Data) (f : Fault) (n : ℕ) (c : Child) → is_child_placed strict d c ≡ true → read_child (reads k) strict d n c ≡ Err f → Below k strict d f (IsBelow c)
child_err k strict d f n (one c) is e = part_err k strict d f n c is e
child_err k strict d f n (many cs) is e = elim (bind_err (read_parts (reads k) strict d n cs) _ f e) [
  | inl bad ↦ parts_err k strict d f n cs is bad
  | inr more ↦ absurd (cc more.2)
]

children_err : (k : ℕ) (strict : Bool) (d : Data) (f : Fault) (n : ℕ) (cs : List Child) → are_placed strict d cs ≡ true → read_children (reads k) strict d n cs ≡ Err f → Below k strict d f (HasChild cs)
children_err k strict d f n [] is e = absurd (cc e)
children_err k strict d f n (c ∷ cs) is e =
    let (first, rest) = and_parts (is_child_placed strict d c) (are_placed strict d cs) is in
    elim (bind_err (read_child (reads k) strict d n c) _ f e) [
      | inl bad ↦ wider k strict d f (IsBelow c) (HasChild (c ∷ cs)) (λ s p h. inl h) (child_err k strict d f n c first bad)
      | inr later ↦ elim (bind_err (read_children (reads k) strict d later.0.1 cs) _ f later.2) [
        | inl bad ↦ wider k strict d f (HasChild cs) (HasChild (c ∷ cs)) (λ s p h. inr h) (children_err k strict d f later.0.1 cs rest bad)
        | inr more ↦ absurd (cc more.2)
      ]
    ]

-- ---- nodes

with_err : (h : Shape) (xs : List Name) (m : ℕ) (r : Read Trees) (f : Fault) → with_children h xs m r ≡ Err f → r ≡ Err f
with_err h xs m r f e = elim (bind_err r _ f e) [
  | inl bad ↦ bad
  | inr more ↦ absurd (cc more.2)
]

numbered_err : (b : Bool) (n : ℕ) (h : Shape) (xs : List Name) (r : ℕ → Read Trees) (f : Fault) → numbered b n h xs r ≡ Err f → (m : ℕ) × (r m ≡ Err f)
numbered_err true n h xs r f e = (suc n, with_err h xs n (r (suc n)) f e)
numbered_err false n h xs r f e = (n, with_err h xs 0 (r n) f e)

-- the plan is a defect, or the fault is one of a node below
Origin : ℕ → Bool → Place → Data → Fault → Type 0
Origin k strict p d f = ((f.at ≡ []) × (plan strict p d ≡ Err f.defect)) ⊎ ((x : Plan) × (plan strict p d ≡ Ok x) × Below k (is_strict_in strict x.shape) d f (HasChild x.children))

node_err : (k : ℕ) (strict : Bool) (p : Place) (n : ℕ) (d : Data) (f : Fault) → reads (suc k) strict p n d ≡ Err f → Origin k strict p d f
unfolding Origin
node_err k strict p n d f h =
    let go : (o : Result Plan Defect) → plan strict p d ≡ o → read_plan (reads k) strict p n d o ≡ Err f → Origin k strict p d f = λ o. elim o as (λ v. plan strict p d ≡ v → read_plan (reads k) strict p n d v ≡ Err f → Origin k strict p d f) [
      | Ok x ↦ (λ same e. (let (m, bad) = numbered_err (takes_number p x.shape) n x.shape x.names (λ m. read_children (reads k) (is_strict_in strict x.shape) d m x.children) f e in
          inr (x, same, children_err k (is_strict_in strict x.shape) d f m x.children (plan_placed strict p d x same) bad)))
      | Err y ↦ (λ same e. (let own : record { defect = y; at = [] } ≡ f = err_same {A = Tree × ℕ} _ f e in
          inl (ap (λ g. g.at) (sym own), same ∙ ap (λ g. Err g.defect) own)))
    ] in
    go (plan strict p d) refl h

below_located : (k : ℕ) (strict : Bool) (p : Place) (d : Data) (f : Fault) (x : Plan) → plan strict p d ≡ Ok x → (b : Below k (is_strict_in strict x.shape) d f (HasChild x.children)) → Located k (is_strict_in strict x.shape) b.place b.found b.told → Located (suc k) strict p d f
below_located k strict p d f x is b l =
    subst (Located (suc k) strict p d) (sym b.moved)
    (record { path = b.step ∷ l.path; text = ap (λ t. 47 ∷ (step_text b.step ++ t)) l.text; strict_there = l.strict_there; place_there = l.place_there; found = l.found; leads = (x, b.place, b.found, is, b.in_plan, b.there, l.leads); left = l.left; depth = omega (arith, l.depth); defect = l.defect; deep = l.deep })

located : (k : ℕ) (strict : Bool) (p : Place) (n : ℕ) (d : Data) (f : Fault) → reads k strict p n d ≡ Err f → Located k strict p d f
unfolding Origin
located zero strict p n d f e =
    subst (Located zero strict p d) (err_same {A = Tree × ℕ} _ f e)
    (record { path = []; text = refl; strict_there = strict; place_there = p; found = d; leads = (refl, refl, refl); left = 0; depth = refl; defect = refl; deep = λ h. refl })
located (suc k) strict p n d f e = elim (node_err k strict p n d f e) [
  | inl own ↦ record { path = []; text = own.0; strict_there = strict; place_there = p; found = d; leads = (refl, refl, refl); left = suc k; depth = omega arith; defect = own.1; deep = λ h. absurd (plan_not_deep strict p d f.defect own.1 h) }
  | inr w ↦ below_located k strict p d f w.0 w.1 w.2 (located k (is_strict_in strict w.0.shape) w.2.place w.2.number w.2.found w.2.told w.2.read)
]

pub program_located : (k : ℕ) (d : Data) (f : Fault) → program_at k d ≡ Err f → Located k false (at a_program) d f
unfolding program_at
program_located k d f e = located k false (at a_program) 0 d f e
