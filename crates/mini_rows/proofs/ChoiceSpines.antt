-- The operands that an operator joins, as sketches: what is joined on the right may be joined from the left.
use Rattle.std.proofs.Common.{◌≡◌, append_assoc, eq-eqb, ℕ, suc, Bool, true, List, [], ◌∷◌, refl, sym, ap, subst, ◌∙◌}
use Rattle.std.specs.Prelude.{◌++◌, ◌&&◌, ◌||◌, nat_eq, if◌then◌else◌}
use Rattle.std.proofs.lemmas.List.{append-nil}
use Rattle.mini_model.specs.declared.operator.LogicalOperator.{LogicalOperator}
use Rattle.mini_model.specs.Tree.{Tree, Trees, none, ◌▸◌, child_or_absent, logical}
use Rattle.mini_kept.proofs.Bools.{both}
use Rattle.mini_rows.specs.Choices.{joined}
use Rattle.mini_rows.specs.Sketches.{Logical, Sketch, part, under, end, ◌▹◌, Parts, filled, Part, AsValue, Hole, parts_of, stands_in, without, has_as_often, has_each, still, all_settled, staying, is_rearranged, stands_well, rearranges_expression}
use Rattle.mini_rows.proofs.Arranging.{often_each}

-- what is joined to a sketch: the parts from i on
abbrev pub spine : LogicalOperator → ℕ → Trees → Sketch → Sketch
spine o i none t = t
spine o i (c ▸ cs) t = under (Logical o) (spine o (suc i) cs t ▹ part i ▹ end)

-- the parts from i on are these trees
abbrev pub Stand : Trees → ℕ → Trees → Type 0
Stand ts i none = Unit {0}
Stand ts i (c ▸ cs) = (child_or_absent ts i ≡ c) × Stand ts (suc i) cs

pub behind : (x : Tree) (ts : Trees) (i : ℕ) (cs : Trees) → Stand ts i cs → Stand (x ▸ ts) (suc i) cs
behind x ts i none h = tt
behind x ts i (c ▸ cs) h = (h.0, behind x ts (suc i) cs h.1)

pub themselves : (cs : Trees) → Stand cs 0 cs
themselves none = tt
themselves (c ▸ cs) = (refl, behind c cs 0 cs (themselves cs))

pub filled_spine : (ps : Parts) (o : LogicalOperator) (i : ℕ) (cs : Trees) (t : Sketch) → Stand ps.trees i cs → filled ps (spine o i cs t) ≡ joined o (filled ps t) cs
filled_spine ps o i none t h = refl
filled_spine ps o i (c ▸ cs) t h = ap (λ x. logical o x (child_or_absent ps.trees i)) (filled_spine ps o (suc i) cs t h.1) ∙ ap (logical o (joined o (filled ps t) cs)) h.0

-- ---- the parts in order, all of them asked for their values

abbrev values : List ℕ → List Hole
values [] = []
values (i ∷ is) = Part i AsValue ∷ values is

values_append : (is js : List ℕ) → values (is ++ js) ≡ values is ++ values js
values_append [] js = refl
values_append (i ∷ is) js = ap (λ hs. Part i AsValue ∷ hs) (values_append is js)

abbrev tail : ℕ → Trees → List ℕ
tail i none = []
tail i (c ▸ cs) = tail (suc i) cs ++ (i ∷ [])

holes_spine : (o : LogicalOperator) (i : ℕ) (cs : Trees) (t : Sketch) (is : List ℕ) → parts_of AsValue t ≡ values is → parts_of AsValue (spine o i cs t) ≡ values (is ++ tail i cs)
holes_spine o i none t is h = h ∙ ap values (sym (append-nil is))
holes_spine o i (c ▸ cs) t is h =
    ap (λ hs. hs ++ (Part i AsValue ∷ [])) (holes_spine o (suc i) cs t is h)
    ∙ sym (values_append (is ++ tail (suc i) cs) (i ∷ []))
    ∙ ap values (append_assoc is (tail (suc i) cs) (i ∷ []))

-- ---- a list of parts is one that is rearranged

abbrev Holds : ℕ → List ℕ → Bool → Type 0
Holds i is b = (b || stands_in (values is) (Part i AsValue)) && has_as_often (if b then values is else Part i AsValue ∷ without (values is) (Part i AsValue)) (values is) ≡ true

has_itself : (is : List ℕ) → has_as_often (values is) (values is) ≡ true
has_itself [] = refl
has_itself (i ∷ is) = subst (Holds i is) (sym (both (nat_eq i i) (nat_eq 3 3) (eq-eqb i i refl) refl)) (has_itself is)

settled_values : (is : List ℕ) → all_settled still (values is) ≡ values is
settled_values [] = refl
settled_values (i ∷ is) = ap (λ hs. Part i AsValue ∷ hs) (settled_values is)

staying_values : (is : List ℕ) → staying still (values is) ≡ values is
staying_values [] = refl
staying_values (i ∷ is) = ap (λ hs. Part i AsValue ∷ hs) (staying_values is)

rearranged : (is : List ℕ) → is_rearranged still (values is) (values is) ≡ true
rearranged is =
    let vs = values is in
    ap (λ hs. has_as_often hs hs && has_each hs (staying still hs)) (settled_values is)
    ∙ ap (λ hs. has_as_often (values is) (values is) && has_each (values is) hs) (staying_values is)
    ∙ both (has_as_often (values is) (values is)) (has_each (values is) (values is)) (has_itself is) (often_each (values is) (values is) (has_itself is))

stands_spine : (o : LogicalOperator) (i : ℕ) (cs : Trees) (t : Sketch) → stands_well still AsValue t ≡ true → stands_well still AsValue (spine o i cs t) ≡ true
stands_spine o i none t h = h
stands_spine o i (c ▸ cs) t h = both (stands_well still AsValue (spine o (suc i) cs t)) true (stands_spine o (suc i) cs t h) refl

-- a, and what is joined to the part 1 on the right of it
abbrev pub apart : LogicalOperator → Trees → Sketch
apart o cs = under (Logical o) (part 0 ▹ spine o 2 cs (part 1) ▹ end)

-- and all of them from the left
abbrev pub first_two : LogicalOperator → Sketch
first_two o = under (Logical o) (part 0 ▹ part 1 ▹ end)

pub spines_rearranged : (o : LogicalOperator) (c : Tree) (cs : Trees) → rearranges_expression still (apart o (c ▸ cs)) (spine o 2 (c ▸ cs) (first_two o)) ≡ true
spines_rearranged o c cs =
    let before : parts_of AsValue (apart o (c ▸ cs)) ≡ values (0 ∷ 1 ∷ tail 2 (c ▸ cs)) = ap (λ hs. Part 0 AsValue ∷ (hs ++ [])) (holes_spine o 2 (c ▸ cs) (part 1) (1 ∷ []) refl) ∙ append-nil (values (0 ∷ 1 ∷ tail 2 (c ▸ cs))) in
    let after : parts_of AsValue (spine o 2 (c ▸ cs) (first_two o)) ≡ values (0 ∷ 1 ∷ tail 2 (c ▸ cs)) = holes_spine o 2 (c ▸ cs) (first_two o) (0 ∷ 1 ∷ []) refl in
    let alike : is_rearranged still (parts_of AsValue (apart o (c ▸ cs))) (parts_of AsValue (spine o 2 (c ▸ cs) (first_two o))) ≡ true = (λ j. is_rearranged still (before j) (after j)) ∙ rearranged (0 ∷ 1 ∷ tail 2 (c ▸ cs)) in
    both (stands_well still AsValue (apart o (c ▸ cs))) _ (both (stands_well still AsValue (spine o 2 (c ▸ cs) (part 1))) true (stands_spine o 2 (c ▸ cs) (part 1) refl) refl)
    (both (stands_well still AsValue (spine o 2 (c ▸ cs) (first_two o))) _ (stands_spine o 2 (c ▸ cs) (first_two o) refl) alike)
