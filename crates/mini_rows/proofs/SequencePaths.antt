-- Nodes one in the first operand of the other, as sketches: what is lifted out of the innermost is built of the same parts.
use Rattle.std.proofs.Common.{◌≡◌, append_assoc, eq-eqb, ℕ, suc, Bool, true, false, List, [], ◌∷◌, refl, sym, ap, subst, ◌∙◌}
use Rattle.std.specs.Prelude.{◌++◌, ◌&&◌, ◌||◌, nat_eq, if◌then◌else◌}
use Rattle.std.proofs.lemmas.Bool.{and_parts}
use Rattle.std.proofs.lemmas.List.{append-nil}
use Rattle.mini_model.specs.declared.operator.UnaryOperator.TheVariants.{LogicalNot}
use Rattle.mini_model.specs.Tree.{Tree, Trees, none, ◌▸◌, child_or_absent, unary, negation, logical, conditional}
use Rattle.mini_model.specs.Paths.{append}
use Rattle.mini_kept.proofs.Bools.{both}
use Rattle.mini_rows.specs.Lists.{sequence}
use Rattle.mini_rows.specs.Sequences.{conversion_operator, Operation, Decides, Chooses, Negates, Operates, Converts, Yields, along, yielded}
use Rattle.mini_rows.specs.Sketches.{Unary, Binary, Logical, Conditional, Sequence, Yield, Sketch, part, under, list, end, ◌▹◌, no_items, item, items, Parts, filled, Leap, Returning, Yielding, leap_holes, Part, Stretch, Leaps, AsValue, Hole, is_same_hole, parts_of, stands_in, without, has_as_often, has_each, still, all_settled, staying, is_rearranged, stands_well, rearranges_expression}
use Rattle.mini_rows.specs.Spellings.{binary}
use Rattle.mini_rows.proofs.Arranging.{often_each}
use Rattle.mini_rows.proofs.ChoiceSpines.{Stand, themselves, behind}

-- ---- the nodes

-- what they have besides their first operands, from the outside in
abbrev pub besides : List Operation → Trees
besides [] = none
besides (Decides o b ∷ rs) = b ▸ besides rs
besides (Chooses b c ∷ rs) = b ▸ (c ▸ besides rs)
besides (Negates ∷ rs) = besides rs
besides (Operates o b ∷ rs) = b ▸ besides rs
besides (Converts c ∷ rs) = besides rs
besides (Yields d ∷ rs) = besides rs

-- the nodes over a sketch, where that is the parts from i on
abbrev pub path : ℕ → List Operation → Sketch → Sketch
path i [] t = t
path i (Decides o b ∷ rs) t = under (Logical o) (path (suc i) rs t ▹ part i ▹ end)
path i (Chooses b c ∷ rs) t = under Conditional (path (suc (suc i)) rs t ▹ part i ▹ part (suc i) ▹ end)
path i (Negates ∷ rs) t = under (Unary LogicalNot) (path i rs t ▹ end)
path i (Operates o b ∷ rs) t = under (Binary o) (path (suc i) rs t ▹ part i ▹ end)
path i (Converts c ∷ rs) t = under (Unary (conversion_operator c)) (path i rs t ▹ end)
path i (Yields d ∷ rs) t = under (Yield d) (path i rs t ▹ end)

pub filled_path : (ps : Parts) (i : ℕ) (rs : List Operation) (t : Sketch) → Stand ps.trees i (besides rs) → filled ps (path i rs t) ≡ along rs (filled ps t)
filled_path ps i [] t h = refl
filled_path ps i (Decides o b ∷ rs) t h = ap (λ x. logical o x (child_or_absent ps.trees i)) (filled_path ps (suc i) rs t h.1) ∙ ap (logical o (along rs (filled ps t))) h.0
filled_path ps i (Chooses b c ∷ rs) t h =
    ap (λ x. conditional x (child_or_absent ps.trees i) (child_or_absent ps.trees (suc i))) (filled_path ps (suc (suc i)) rs t h.1.1)
    ∙ ap (λ x. conditional (along rs (filled ps t)) x (child_or_absent ps.trees (suc i))) h.0
    ∙ ap (conditional (along rs (filled ps t)) b) h.1.0
filled_path ps i (Negates ∷ rs) t h = ap negation (filled_path ps i rs t h)
filled_path ps i (Operates o b ∷ rs) t h = ap (λ x. binary o x (child_or_absent ps.trees i)) (filled_path ps (suc i) rs t h.1) ∙ ap (binary o (along rs (filled ps t))) h.0
filled_path ps i (Converts c ∷ rs) t h = ap (unary (conversion_operator c)) (filled_path ps i rs t h)
filled_path ps i (Yields d ∷ rs) t h = ap (yielded d) (filled_path ps i rs t h)

-- ---- their parts in order

abbrev jumps : List Operation → List Leap
jumps [] = []
jumps (Decides o b ∷ rs) = jumps rs
jumps (Chooses b c ∷ rs) = jumps rs
jumps (Negates ∷ rs) = jumps rs
jumps (Operates o b ∷ rs) = jumps rs
jumps (Converts c ∷ rs) = jumps rs
jumps (Yields d ∷ rs) = Yielding ∷ jumps rs

abbrev rest : ℕ → List Operation → List Hole
rest i [] = []
rest i (Decides o b ∷ rs) = rest (suc i) rs ++ (Part i AsValue ∷ [])
rest i (Chooses b c ∷ rs) = rest (suc (suc i)) rs ++ (Part i AsValue ∷ Part (suc i) AsValue ∷ [])
rest i (Negates ∷ rs) = rest i rs
rest i (Operates o b ∷ rs) = rest (suc i) rs ++ (Part i AsValue ∷ [])
rest i (Converts c ∷ rs) = rest i rs
rest i (Yields d ∷ rs) = rest i rs

-- some more after them
ended : (hs a b c d : List Hole) → hs ≡ a ++ (b ++ c) → hs ++ d ≡ a ++ (b ++ (c ++ d))
ended hs a b c d e = ap (λ xs. xs ++ d) e ∙ append_assoc a (b ++ c) d ∙ ap (λ xs. a ++ xs) (append_assoc b c d)

holes_path : (i : ℕ) (rs : List Operation) (t : Sketch) → parts_of AsValue (path i rs t) ≡ leap_holes (jumps rs) ++ (parts_of AsValue t ++ rest i rs)
holes_path i [] t = sym (append-nil (parts_of AsValue t))
holes_path i (Decides o b ∷ rs) t = ended (parts_of AsValue (path (suc i) rs t)) (leap_holes (jumps rs)) (parts_of AsValue t) (rest (suc i) rs) (Part i AsValue ∷ []) (holes_path (suc i) rs t)
holes_path i (Chooses b c ∷ rs) t = ended (parts_of AsValue (path (suc (suc i)) rs t)) (leap_holes (jumps rs)) (parts_of AsValue t) (rest (suc (suc i)) rs) (Part i AsValue ∷ Part (suc i) AsValue ∷ []) (holes_path (suc (suc i)) rs t)
holes_path i (Negates ∷ rs) t = append-nil (parts_of AsValue (path i rs t)) ∙ holes_path i rs t
holes_path i (Operates o b ∷ rs) t = ended (parts_of AsValue (path (suc i) rs t)) (leap_holes (jumps rs)) (parts_of AsValue t) (rest (suc i) rs) (Part i AsValue ∷ []) (holes_path (suc i) rs t)
holes_path i (Converts c ∷ rs) t = append-nil (parts_of AsValue (path i rs t)) ∙ holes_path i rs t
holes_path i (Yields d ∷ rs) t = ap (λ hs. Leaps Yielding ∷ hs) (append-nil (parts_of AsValue (path i rs t)) ∙ holes_path i rs t)

-- ---- parts that are the same but for where the jumps stand among them

same_leap : (l : Leap) → is_same_hole (Leaps l) (Leaps l) ≡ true
same_leap Returning = refl
same_leap Yielding = refl

same_hole : (h : Hole) → is_same_hole h h ≡ true
same_hole (Part i c) = both (nat_eq i i) _ (eq-eqb i i refl) (eq-eqb _ _ refl)
same_hole (Stretch i c) = both (nat_eq i i) _ (eq-eqb i i refl) (eq-eqb _ _ refl)
same_hole (Leaps l) = same_leap l

abbrev Holds : Hole → List Hole → Bool → Type 0
Holds h hs b = (b || stands_in hs h) && has_as_often (if b then hs else h ∷ without hs h) hs ≡ true

has_itself : (hs : List Hole) → has_as_often hs hs ≡ true
has_itself [] = refl
has_itself (h ∷ hs) = subst (Holds h hs) (sym (same_hole h)) (has_itself hs)

settled_same : (hs : List Hole) → all_settled still hs ≡ hs
settled_same [] = refl
settled_same (Part i c ∷ hs) = ap (λ ks. Part i c ∷ ks) (settled_same hs)
settled_same (Stretch i c ∷ hs) = ap (λ ks. Stretch i c ∷ ks) (settled_same hs)
settled_same (Leaps l ∷ hs) = ap (λ ks. Leaps l ∷ ks) (settled_same hs)

abbrev first_part : Hole
first_part = Part 0 AsValue

abbrev others : Hole
others = Stretch 0 AsValue

-- behind jumps stands what stands without them
part_behind : (ls : List Leap) (hs : List Hole) → stands_in (leap_holes ls ++ (first_part ∷ hs)) first_part ≡ true
part_behind [] hs = refl
part_behind (l ∷ ls) hs = part_behind ls hs

others_behind : (ls : List Leap) (hs : List Hole) → stands_in (leap_holes ls ++ (others ∷ hs)) others ≡ true
others_behind [] hs = refl
others_behind (l ∷ ls) hs = others_behind ls hs

without_part : (ls : List Leap) (hs : List Hole) → without (leap_holes ls ++ (first_part ∷ hs)) first_part ≡ leap_holes ls ++ hs
without_part [] hs = refl
without_part (l ∷ ls) hs = ap (λ ks. Leaps l ∷ ks) (without_part ls hs)

without_others : (ls : List Leap) (hs : List Hole) → without (leap_holes ls ++ (others ∷ hs)) others ≡ leap_holes ls ++ hs
without_others [] hs = refl
without_others (l ∷ ls) hs = ap (λ ks. Leaps l ∷ ks) (without_others ls hs)

staying_behind : (ls : List Leap) (hs : List Hole) → staying still (leap_holes ls ++ hs) ≡ staying still hs
staying_behind [] hs = refl
staying_behind (l ∷ ls) hs = staying_behind ls hs

each_behind : (ls : List Leap) (gs hs : List Hole) → has_each gs (leap_holes ls ++ hs) ≡ true → has_each gs hs ≡ true
each_behind [] gs hs e = e
each_behind (l ∷ ls) gs hs e = each_behind ls gs hs (and_parts (stands_in gs (Leaps l)) (has_each gs (leap_holes ls ++ hs)) e).1

or_right : (b c : Bool) → c ≡ true → b || c ≡ true
or_right true c e = refl
or_right false c e = e

each_in_more : (g : Hole) (gs hs : List Hole) → has_each gs hs ≡ true → has_each (g ∷ gs) hs ≡ true
each_in_more g gs [] e = refl
each_in_more g gs (h ∷ hs) e =
    let (here, later) = and_parts (stands_in gs h) (has_each gs hs) e in
    both (stands_in (g ∷ gs) h) (has_each (g ∷ gs) hs) (or_right (is_same_hole g h) (stands_in gs h) here) (each_in_more g gs hs later)

each_staying : (gs hs : List Hole) → has_each gs hs ≡ true → has_each gs (staying still hs) ≡ true
each_staying gs [] e = refl
each_staying gs (Part i c ∷ hs) e =
    let (here, later) = and_parts (stands_in gs (Part i c)) (has_each gs hs) e in
    both (stands_in gs (Part i c)) (has_each gs (staying still hs)) here (each_staying gs hs later)
each_staying gs (Stretch i c ∷ hs) e =
    let (here, later) = and_parts (stands_in gs (Stretch i c)) (has_each gs hs) e in
    both (stands_in gs (Stretch i c)) (has_each gs (staying still hs)) here (each_staying gs hs later)
each_staying gs (Leaps l ∷ hs) e = each_staying gs hs (and_parts (stands_in gs (Leaps l)) (has_each gs hs) e).1

module _ (ls : List Leap) (hs : List Hole) where
  -- the jumps before the first parts, and after them
  abbrev before : List Hole
  before = leap_holes ls ++ (first_part ∷ (others ∷ hs))

  abbrev after : List Hole
  after = first_part ∷ (others ∷ (leap_holes ls ++ hs))

  as_often : has_as_often before after ≡ true
  as_often =
      both (stands_in before first_part) _ (part_behind ls (others ∷ hs))
      (subst (λ xs. has_as_often xs (others ∷ (leap_holes ls ++ hs)) ≡ true) (sym (without_part ls (others ∷ hs)))
      (both (stands_in (leap_holes ls ++ (others ∷ hs)) others) _ (others_behind ls hs)
      (subst (λ xs. has_as_often xs (leap_holes ls ++ hs) ≡ true) (sym (without_others ls hs)) (has_itself (leap_holes ls ++ hs)))))

  all_there : has_each after (staying still before) ≡ true
  all_there =
      let behind_them : has_each (leap_holes ls ++ hs) hs ≡ true = each_behind ls (leap_holes ls ++ hs) hs (often_each (leap_holes ls ++ hs) (leap_holes ls ++ hs) (has_itself (leap_holes ls ++ hs))) in
      ap (has_each after) (staying_behind ls (first_part ∷ (others ∷ hs)))
      ∙ each_staying after hs (each_in_more first_part (others ∷ (leap_holes ls ++ hs)) hs (each_in_more others (leap_holes ls ++ hs) hs behind_them))

  moved : is_rearranged still before after ≡ true
  moved =
      ap (λ xs. has_as_often xs (all_settled still after) && has_each (all_settled still after) (staying still xs)) (settled_same before)
      ∙ ap (λ xs. has_as_often before xs && has_each xs (staying still before)) (settled_same after)
      ∙ both (has_as_often before after) (has_each after (staying still before)) as_often all_there

-- ---- a sequence is lifted out

-- the first part, some others, and a last one
abbrev pub in_order : Sketch → Sketch
in_order last = under Sequence (list (item (part 0) (items 0 (item last no_items))) ▹ end)

stands_path : (i : ℕ) (rs : List Operation) (t : Sketch) → stands_well still AsValue t ≡ true → stands_well still AsValue (path i rs t) ≡ true
stands_path i [] t h = h
stands_path i (Decides o b ∷ rs) t h = both (stands_well still AsValue (path (suc i) rs t)) true (stands_path (suc i) rs t h) refl
stands_path i (Chooses b c ∷ rs) t h = both (stands_well still AsValue (path (suc (suc i)) rs t)) true (stands_path (suc (suc i)) rs t h) refl
stands_path i (Negates ∷ rs) t h = both (stands_well still AsValue (path i rs t)) true (stands_path i rs t h) refl
stands_path i (Operates o b ∷ rs) t h = both (stands_well still AsValue (path (suc i) rs t)) true (stands_path (suc i) rs t h) refl
stands_path i (Converts c ∷ rs) t h = both (stands_well still AsValue (path i rs t)) true (stands_path i rs t h) refl
stands_path i (Yields d ∷ rs) t h = both (stands_well still AsValue (path i rs t)) true (stands_path i rs t h) refl

module _ (rs : List Operation) where
  abbrev nested : Sketch
  nested = path 2 rs (in_order (part 1))

  abbrev flat : Sketch
  flat = in_order (path 2 rs (part 1))

  flat_stands : stands_well still AsValue flat ≡ true
  flat_stands = both (stands_well still AsValue (path 2 rs (part 1)) && true) true (both (stands_well still AsValue (path 2 rs (part 1))) true (stands_path 2 rs (part 1) refl) refl) refl

  flat_holes : parts_of AsValue flat ≡ after (jumps rs) (Part 1 AsValue ∷ rest 2 rs)
  flat_holes =
      ap (λ hs. first_part ∷ (others ∷ hs)) (append-nil ((parts_of AsValue (path 2 rs (part 1)) ++ [])) ∙ append-nil (parts_of AsValue (path 2 rs (part 1))) ∙ holes_path 2 rs (part 1))

  alike : is_rearranged still (parts_of AsValue nested) (parts_of AsValue flat) ≡ true
  alike =
      ap (λ hs. is_rearranged still hs (parts_of AsValue flat)) (holes_path 2 rs (in_order (part 1)))
      ∙ ap (is_rearranged still (before (jumps rs) (Part 1 AsValue ∷ rest 2 rs))) flat_holes
      ∙ moved (jumps rs) (Part 1 AsValue ∷ rest 2 rs)

  stood : stands_well still AsValue nested && (stands_well still AsValue flat && is_rearranged still (parts_of AsValue nested) (parts_of AsValue flat)) ≡ true
  stood =
      both (stands_well still AsValue nested) _ (stands_path 2 rs (in_order (part 1)) refl)
      (both (stands_well still AsValue flat) _ flat_stands alike)

pub path_rearranged : (r : Operation) (rs : List Operation) → rearranges_expression still (path 2 (r ∷ rs) (in_order (part 1))) (in_order (path 2 (r ∷ rs) (part 1))) ≡ true
path_rearranged (Decides o b) rs = stood (Decides o b ∷ rs)
path_rearranged (Chooses b c) rs = stood (Chooses b c ∷ rs)
path_rearranged Negates rs = stood (Negates ∷ rs)
path_rearranged (Operates o b) rs = stood (Operates o b ∷ rs)
path_rearranged (Converts c) rs = stood (Converts c ∷ rs)
path_rearranged (Yields d) rs = stood (Yields d ∷ rs)

-- the parts
abbrev pub parts_along : List Operation → Tree → Trees → Tree → Parts
parts_along rs p ps l = record { trees = p ▸ (l ▸ besides rs); lists = ps ∷ [] }

pub nested_filled : (rs : List Operation) (p : Tree) (ps : Trees) (l : Tree) → filled (parts_along rs p ps l) (path 2 rs (in_order (part 1))) ≡ along rs (sequence (p ▸ append ps (l ▸ none)))
nested_filled rs p ps l = filled_path (parts_along rs p ps l) 2 rs (in_order (part 1)) (behind p (l ▸ besides rs) 1 (besides rs) (behind l (besides rs) 0 (besides rs) (themselves (besides rs))))

pub flat_filled : (rs : List Operation) (p : Tree) (ps : Trees) (l : Tree) → filled (parts_along rs p ps l) (in_order (path 2 rs (part 1))) ≡ sequence (p ▸ append ps (along rs l ▸ none))
flat_filled rs p ps l = ap (λ x. sequence (p ▸ append ps (x ▸ none))) (filled_path (parts_along rs p ps l) 2 rs (part 1) (behind p (l ▸ besides rs) 1 (besides rs) (behind l (besides rs) 0 (besides rs) (themselves (besides rs)))))
