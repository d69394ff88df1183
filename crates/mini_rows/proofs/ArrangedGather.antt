-- What a tree declares around it, in order, by its parts.
use Rattle.std.specs.Prelude.{ℕ, zero, suc, ◌≡◌, refl, Bool, true, false, ◌&&◌, ◌||◌, List, [], ◌∷◌, ◌++◌, if◌then◌else◌}
use Rattle.std.proofs.Common.{ap, ◌∙◌, sym, append_assoc}
use Rattle.std.proofs.lemmas.Bool.{and_parts, false≢true}
use Rattle.std.proofs.lemmas.List.{append-nil}
use Rattle.mini_model.specs.declared.operator.AssignmentOperator.{AssignmentOperator}
use Rattle.mini_model.specs.declared.operator.AssignmentOperator.TheVariants.{Assign}
use Rattle.mini_model.specs.Tree.{Tree, Trees, node, none, ◌▸◌, listed, shape_of, child_or_absent}
use Rattle.mini_model.specs.Paths.{append}
use Rattle.mini_kept.proofs.Bools.{left, right}
use Rattle.mini_rows.specs.Lists.{is_unscoped, are_unscoped}
use Rattle.mini_rows.specs.Sketches.{Head, AbsentPart, AList, Call, New, StaticMember, Property, Spread, Interpolation, Assignment, Empty, OfExpression, Throw, Return, If, Block, shape_by, Sketch, part, under, list, Sketches, end, ◌▹◌, Items, no_items, item, items, Parts, list_at, filled, all_filled, items_filled, Asked, AsWhole, AsWholeList, AsWholeItem, AsValue, AsValues, AsWord, AsHeld, AsTarget, AsUpdated, AsBranch, AsItems, AsItem, item_asked, target_asked, asked_below, Leap, leaps, Hole, Part, Stretch, Leaps, leap_holes, parts_of, parts_from, parts_in, is_same_hole, Free, is_among, settled_as, all_settled, is_operand_head, is_statement_head, is_absent_head, is_member_head, is_word_head, is_piece_head, stands_as, is_list_asked, stands_well, all_stand_well, items_stand_well, are_loose, is_declaring, is_declaring_hole, statements, are_same_holes, is_branch_hole, has_branch_twice}
use Rattle.mini_rows.specs.Arranged.{AreLoose}
use Rattle.mini_rows.proofs.Arranging.{Any, Below, Each, first_each, second_each, same_hole}
use Rattle.mini_rows.proofs.ArrangedValues.{is_value, is_calm, Valued}
use Rattle.mini_rows.proofs.ArrangedMoves.{unscoped_among, lists_unscoped_among}

abbrev is_quiet_head : Head → Bool
is_quiet_head AList = false
is_quiet_head If = false
is_quiet_head Block = false
is_quiet_head h = true

-- ---- a tree of valued parts is valued

value_head : (h : Head) → is_operand_head h ≡ true → is_value (shape_by h) ≡ true
value_head AList e = absurd (cc e)
value_head If e = absurd (cc e)
value_head Block e = absurd (cc e)
value_head h e = refl

calm_head : (h : Head) → (is_statement_head h || is_absent_head h) ≡ true → is_calm (shape_by h) ≡ true
calm_head AList e = absurd (cc e)
calm_head h e = refl

statement_head : (h : Head) → is_statement_head h ≡ true → (is_statement_head h || is_absent_head h) ≡ true
statement_head h e = ap (λ b. b || is_absent_head h) e

valued_head : (c : Asked) (h : Head) (ts : Trees) → stands_as c h ≡ true → Valued c (node (shape_by h) [] 0 ts)
valued_head AsValue h ts e = value_head h e
valued_head AsBranch h ts e = (refl, calm_head h e)
valued_head AsWholeItem h ts e = (refl, calm_head h (statement_head h e))
valued_head AsItem h ts e = (refl, calm_head h (statement_head h e))
valued_head c h ts e = tt

valued_list : (c : Asked) (ts : Trees) → is_list_asked c ≡ true → Valued c (listed ts)
valued_list AsValue ts e = absurd (cc e)
valued_list AsBranch ts e = absurd (cc e)
valued_list AsWholeItem ts e = absurd (cc e)
valued_list AsItem ts e = absurd (cc e)
valued_list c ts e = tt

module _ (f : Free) (ps : Parts) where
  pub filled_valued : (c : Asked) (s : Sketch) → stands_well f c s ≡ true → Each Any Valued ps (parts_of c s) → Valued c (filled ps s)
  filled_valued c (part i) e v = v.0
  filled_valued c (under h ss) e v = valued_head c h (all_filled ps ss) (left (stands_as c h) (all_stand_well f (asked_below h c) 0 ss) e)
  filled_valued c (list is) e v = valued_list c (items_filled ps is) (left (is_list_asked c) (items_stand_well f (item_asked c) is) e)

  pub below_valued : (cs : ℕ → Asked) (i : ℕ) (ss : Sketches) → all_stand_well f cs i ss ≡ true → Each Any Valued ps (parts_from cs i ss) → Below Valued cs i (all_filled ps ss)
  below_valued cs i end e v = tt
  below_valued cs i (s ▹ ss) e v =
      let (x, y) = and_parts (stands_well f (cs i) s) (all_stand_well f cs (suc i) ss) e in
      (filled_valued (cs i) s x (first_each Any Valued ps (parts_of (cs i) s) (parts_from cs (suc i) ss) v), below_valued cs (suc i) ss y (second_each Any Valued ps (parts_of (cs i) s) (parts_from cs (suc i) ss) v))

-- ---- lists over parts

abbrev pub concat : {A : Type 0} → (Tree → List A) → Trees → List A
concat g none = []
concat g (t ▸ ts) = g t ++ concat g ts

concat_append : {A : Type 0} (g : Tree → List A) (ts us : Trees) → concat g (append ts us) ≡ concat g ts ++ concat g us
concat_append g none us = refl
concat_append g (t ▸ ts) us = ap (λ r. g t ++ r) (concat_append g ts us) ∙ sym (append_assoc (g t) (concat g ts) (concat g us))

pub concat_nothing : {A : Type 0} (ts : Trees) → concat {A = A} (λ t. []) ts ≡ []
concat_nothing none = refl
concat_nothing (t ▸ ts) = concat_nothing ts

-- a list of what stands directly in the whole list, or in the whole, and what is hoisted to there
pub record Fold (A : Type 0) (L B H : Tree → List A) : Type 0 where
  pub whole : (ts : Trees) → L (listed ts) ≡ concat B ts
  pub hoisted : (ts : Trees) → H (listed ts) ≡ concat H ts
  pub direct : (h : Head) (ts : Trees) → is_statement_head h ≡ true → B (node (shape_by h) [] 0 ts) ≡ H (node (shape_by h) [] 0 ts)
  pub of_if : (ts : Trees) → H (node (shape_by If) [] 0 ts) ≡ concat H ts
  pub of_block : (ts : Trees) → H (node (shape_by Block) [] 0 ts) ≡ concat H ts
  pub of_empty : (ts : Trees) → H (node (shape_by Empty) [] 0 ts) ≡ []
  pub of_expression : (ts : Trees) → H (node (shape_by OfExpression) [] 0 ts) ≡ []
  pub of_throw : (ts : Trees) → H (node (shape_by Throw) [] 0 ts) ≡ []
  pub of_return : (ts : Trees) → H (node (shape_by Return) [] 0 ts) ≡ []
  pub of_value : (t : Tree) → is_value (shape_of t) ≡ true → H t ≡ []
  pub of_moved : (t : Tree) → is_unscoped t ≡ true → B t ≡ H t

same_holes : (hs gs : List Hole) → are_same_holes hs gs ≡ true → hs ≡ gs
same_holes [] [] e = refl
same_holes [] (g ∷ gs) e = absurd (cc e)
same_holes (h ∷ hs) [] e = absurd (cc e)
same_holes (h ∷ hs) (g ∷ gs) e =
    let (x, y) = and_parts (is_same_hole h g) (are_same_holes hs gs) e in
    λ i. same_hole h g x i ∷ same_holes hs gs y i

-- a branch that stands twice, between others
pub record Twice (gs hs : List Hole) : Type 0 where
  pub before : List Hole
  pub branch : ℕ
  pub after : List Hole
  pub once : gs ≡ before ++ (Part branch AsBranch ∷ after)
  pub twice : hs ≡ before ++ (Part branch AsBranch ∷ (Part branch AsBranch ∷ after))

twice_here : (g h k : Hole) (gs hs : List Hole) → is_same_hole g h ≡ true → is_branch_hole h ≡ true → is_same_hole h k ≡ true → gs ≡ hs → Twice (g ∷ gs) (h ∷ (k ∷ hs))
twice_here g (Part i AsBranch) k gs hs e b f s = record {
  before = [];
  branch = i;
  after = hs;
  once = λ j. same_hole g (Part i AsBranch) e j ∷ s j;
  twice = λ j. Part i AsBranch ∷ (sym (same_hole (Part i AsBranch) k f) j ∷ hs);
}
twice_here g h k gs hs e b f s = absurd (cc b)

twice_later : (g h : Hole) (gs hs : List Hole) → is_same_hole g h ≡ true → Twice gs hs → Twice (g ∷ gs) (h ∷ hs)
twice_later g h gs hs e t = record {
  before = h ∷ t.before;
  branch = t.branch;
  after = t.after;
  once = λ j. same_hole g h e j ∷ t.once j;
  twice = ap (λ r. h ∷ r) t.twice;
}

pub branch_twice : (gs hs : List Hole) → has_branch_twice gs hs ≡ true → Twice gs hs
branch_twice [] hs e = absurd (false≢true e)
branch_twice (g ∷ gs) [] e = absurd (false≢true e)
branch_twice (g ∷ gs) (h ∷ []) e = absurd (false≢true e)
branch_twice (g ∷ gs) (h ∷ (k ∷ hs)) e =
    let (same, rest) = and_parts (is_same_hole g h) ((is_branch_hole h && (is_same_hole h k && are_same_holes gs hs)) || has_branch_twice gs (k ∷ hs)) e in
    by same (is_branch_hole h && (is_same_hole h k && are_same_holes gs hs)) refl rest (branch_twice gs (k ∷ hs))
  where
    by : is_same_hole g h ≡ true → (b : Bool) → (is_branch_hole h && (is_same_hole h k && are_same_holes gs hs)) ≡ b → (b || has_branch_twice gs (k ∷ hs)) ≡ true → (has_branch_twice gs (k ∷ hs) ≡ true → Twice gs (k ∷ hs)) → Twice (g ∷ gs) (h ∷ (k ∷ hs))
    by same true e r later =
        let (branch, x) = and_parts (is_branch_hole h) (is_same_hole h k && are_same_holes gs hs) e in
        let (again, others) = and_parts (is_same_hole h k) (are_same_holes gs hs) x in
        twice_here g h k gs hs same branch again (same_holes gs hs others)
    by same false e r later = twice_later g h gs (k ∷ hs) same (later r)

module _ (A : Type 0) (L B H : Tree → List A) (k : Fold A L B H) where
  abbrev pub Gives : Asked → Tree → List A
  Gives AsWholeList t = L t
  Gives AsWhole t = B t
  Gives AsWholeItem t = B t
  Gives AsBranch t = H t
  Gives AsItems t = H t
  Gives AsItem t = H t
  Gives c t = []

  abbrev gives_below : (ℕ → Asked) → ℕ → Trees → List A
  gives_below cs i none = []
  gives_below cs i (t ▸ ts) = Gives (cs i) t ++ gives_below cs (suc i) ts

  abbrev pub gives_hole : Parts → Hole → List A
  gives_hole ps (Part i c) = Gives c (child_or_absent ps.trees i)
  gives_hole ps (Stretch i c) = concat (Gives c) (list_at ps.lists i)
  gives_hole ps (Leaps l) = []

  abbrev pub gives_each : Parts → List Hole → List A
  gives_each ps [] = []
  gives_each ps (h ∷ hs) = gives_hole ps h ++ gives_each ps hs

  -- ---- heads

  silent : (cs : ℕ → Asked) → ((j : ℕ) (t : Tree) → Gives (cs j) t ≡ []) → (i : ℕ) (ts : Trees) → gives_below cs i ts ≡ []
  silent cs e i none = refl
  silent cs e i (t ▸ ts) = ap (λ r. r ++ gives_below cs (suc i) ts) (e i t) ∙ silent cs e (suc i) ts

  steady_below : (c : Asked) (g : Tree → List A) → ((t : Tree) → Gives c t ≡ g t) → (i : ℕ) (ts : Trees) → gives_below (λ j. c) i ts ≡ concat g ts
  steady_below c g e i none = refl
  steady_below c g e i (t ▸ ts) = ap (λ r. r ++ gives_below (λ j. c) (suc i) ts) (e t) ∙ ap (λ r. g t ++ r) (steady_below c g e (suc i) ts)

  of_target : (o : AssignmentOperator) (t : Tree) → Gives (target_asked o) t ≡ []
  of_target Assign t = refl
  of_target o t = refl

  value_silent : (h : Head) (c : Asked) → is_quiet_head h ≡ true → (j : ℕ) (t : Tree) → Gives (asked_below h c j) t ≡ []
  value_silent AList c e j t = absurd (cc e)
  value_silent If c e j t = absurd (cc e)
  value_silent Block c e j t = absurd (cc e)
  value_silent (Call b) c e zero t = refl
  value_silent (Call b) c e (suc j) t = refl
  value_silent New c e zero t = refl
  value_silent New c e (suc j) t = refl
  value_silent (StaticMember b) c e zero t = refl
  value_silent (Property b true) c e zero t = refl
  value_silent (Property b false) c e zero t = refl
  value_silent Spread AsValue e j t = refl
  value_silent Spread c e j t = refl
  value_silent Interpolation c e zero t = refl
  value_silent Interpolation AsValue e (suc j) t = refl
  value_silent Interpolation c e (suc j) t = refl
  value_silent (Property b d) c e (suc j) t = refl
  value_silent (StaticMember b) c e (suc j) t = refl
  value_silent (Assignment o) c e zero t = of_target o t
  value_silent (Assignment o) c e (suc j) t = refl
  value_silent h c e j t = refl

  branches : (c : Asked) (i : ℕ) (ts : Trees) → gives_below (asked_below If c) (suc i) ts ≡ concat H ts
  branches c i none = refl
  branches c i (t ▸ ts) = ap (λ r. H t ++ r) (branches c (suc i) ts)

  of_choice : (c : Asked) (ts : Trees) → Below Valued (asked_below If c) 0 ts → concat H ts ≡ gives_below (asked_below If c) 0 ts
  of_choice c none v = refl
  of_choice c (t ▸ ts) v = ap (λ r. r ++ concat H ts) (k.of_value t v.0) ∙ sym (branches c 0 ts)

  closed : (h : Head) (c : Asked) (ts : Trees) → is_quiet_head h ≡ true → H (node (shape_by h) [] 0 ts) ≡ [] → H (node (shape_by h) [] 0 ts) ≡ gives_below (asked_below h c) 0 ts
  closed h c ts e a = a ∙ sym (silent (asked_below h c) (value_silent h c e) 0 ts)

  hoisted_head : (h : Head) (c : Asked) (ts : Trees) → is_statement_head h ≡ true → Below Valued (asked_below h c) 0 ts → H (node (shape_by h) [] 0 ts) ≡ gives_below (asked_below h c) 0 ts
  hoisted_head If c ts e v = k.of_if ts ∙ of_choice c ts v
  hoisted_head Block c ts e v = k.of_block ts ∙ sym (steady_below AsItems H (λ t. refl) 0 ts)
  hoisted_head Empty c ts e v = closed Empty c ts refl (k.of_empty ts)
  hoisted_head OfExpression c ts e v = closed OfExpression c ts refl (k.of_expression ts)
  hoisted_head Throw c ts e v = closed Throw c ts refl (k.of_throw ts)
  hoisted_head Return c ts e v = closed Return c ts refl (k.of_return ts)
  hoisted_head h c ts e v = absurd (cc e)

  branch_head : (h : Head) (ts : Trees) → (is_statement_head h || is_absent_head h) ≡ true → Below Valued (asked_below h AsBranch) 0 ts → H (node (shape_by h) [] 0 ts) ≡ gives_below (asked_below h AsBranch) 0 ts
  branch_head AbsentPart ts e v = closed AbsentPart AsBranch ts refl (k.of_value (node (shape_by AbsentPart) [] 0 ts) refl)
  branch_head If ts e v = hoisted_head If AsBranch ts refl v
  branch_head Block ts e v = hoisted_head Block AsBranch ts refl v
  branch_head Empty ts e v = hoisted_head Empty AsBranch ts refl v
  branch_head OfExpression ts e v = hoisted_head OfExpression AsBranch ts refl v
  branch_head Throw ts e v = hoisted_head Throw AsBranch ts refl v
  branch_head Return ts e v = hoisted_head Return AsBranch ts refl v
  branch_head h ts e v = absurd (cc e)

  expression_head : (h : Head) → is_operand_head h ≡ true → is_quiet_head h ≡ true
  expression_head AList e = absurd (cc e)
  expression_head If e = absurd (cc e)
  expression_head Block e = absurd (cc e)
  expression_head h e = refl

  member_head : (h : Head) → is_member_head h ≡ true → is_quiet_head h ≡ true
  member_head AList e = absurd (cc e)
  member_head If e = absurd (cc e)
  member_head Block e = absurd (cc e)
  member_head h e = refl

  word_head : (h : Head) → is_word_head h ≡ true → is_quiet_head h ≡ true
  word_head AList e = absurd (cc e)
  word_head If e = absurd (cc e)
  word_head Block e = absurd (cc e)
  word_head h e = refl

  piece_head : (h : Head) → is_piece_head h ≡ true → is_quiet_head h ≡ true
  piece_head AList e = absurd (cc e)
  piece_head If e = absurd (cc e)
  piece_head Block e = absurd (cc e)
  piece_head h e = refl

  gives_head : (h : Head) (c : Asked) (ts : Trees) → stands_as c h ≡ true → Below Valued (asked_below h c) 0 ts → Gives c (node (shape_by h) [] 0 ts) ≡ gives_below (asked_below h c) 0 ts
  gives_head h AsValue ts e v = sym (silent (asked_below h AsValue) (value_silent h AsValue (expression_head h e)) 0 ts)
  gives_head h AsWord ts e v = sym (silent (asked_below h AsWord) (value_silent h AsWord (word_head h e)) 0 ts)
  gives_head h AsHeld ts e v = sym (silent (asked_below h AsHeld) (value_silent h AsHeld (piece_head h e)) 0 ts)
  gives_head h AsTarget ts e v = sym (silent (asked_below h AsTarget) (value_silent h AsTarget (member_head h e)) 0 ts)
  gives_head h AsUpdated ts e v = sym (silent (asked_below h AsUpdated) (value_silent h AsUpdated (member_head h e)) 0 ts)
  gives_head h AsBranch ts e v = branch_head h ts e v
  gives_head h AsItem ts e v = hoisted_head h AsItem ts e v
  gives_head h AsWhole ts e v = k.direct h ts e ∙ hoisted_head h AsWhole ts e v
  gives_head h AsWholeItem ts e v = k.direct h ts e ∙ hoisted_head h AsWholeItem ts e v
  gives_head h c ts e v = absurd (cc e)

  gives_list : (c : Asked) (ts : Trees) → is_list_asked c ≡ true → Gives c (listed ts) ≡ concat (Gives (item_asked c)) ts
  gives_list AsWholeList ts e = k.whole ts
  gives_list AsItems ts e = k.hoisted ts
  gives_list AsValues ts e = sym (concat_nothing ts)
  gives_list AsHeld ts e = sym (concat_nothing ts)
  gives_list c ts e = absurd (cc e)

  -- ---- trees

  gives_leaps : (ps : Parts) (ls : List Leap) (hs : List Hole) → gives_each ps (leap_holes ls ++ hs) ≡ gives_each ps hs
  gives_leaps ps [] hs = refl
  gives_leaps ps (l ∷ ls) hs = gives_leaps ps ls hs

  gives_both : (ps : Parts) (hs gs : List Hole) → gives_each ps (hs ++ gs) ≡ gives_each ps hs ++ gives_each ps gs
  gives_both ps [] gs = refl
  gives_both ps (h ∷ hs) gs = ap (λ r. gives_hole ps h ++ r) (gives_both ps hs gs) ∙ sym (append_assoc (gives_hole ps h) (gives_each ps hs) (gives_each ps gs))

  module _ (f : Free) (ps : Parts) (u : AreLoose ps f) where
    mutual
      pub gives_of : (c : Asked) (s : Sketch) → stands_well f c s ≡ true → Each Any Valued ps (parts_of c s) → Gives c (filled ps s) ≡ gives_each ps (parts_of c s)
      gives_of c (part i) e v = sym (append-nil (Gives c (child_or_absent ps.trees i)))
      gives_of c (under h ss) e v =
          let (x, y) = and_parts (stands_as c h) (all_stand_well f (asked_below h c) 0 ss) e in
          let w = second_each Any Valued ps (leap_holes (leaps h)) (parts_from (asked_below h c) 0 ss) v in
          gives_head h c (all_filled ps ss) x (below_valued f ps (asked_below h c) 0 ss y w) ∙ gives_from (asked_below h c) 0 ss y w ∙ sym (gives_leaps ps (leaps h) (parts_from (asked_below h c) 0 ss))
      gives_of c (list is) e v =
          let (x, y) = and_parts (is_list_asked c) (items_stand_well f (item_asked c) is) e in
          gives_list c (items_filled ps is) x ∙ gives_in (item_asked c) is y v

      gives_from : (cs : ℕ → Asked) (i : ℕ) (ss : Sketches) → all_stand_well f cs i ss ≡ true → Each Any Valued ps (parts_from cs i ss) → gives_below cs i (all_filled ps ss) ≡ gives_each ps (parts_from cs i ss)
      gives_from cs i end e v = refl
      gives_from cs i (s ▹ ss) e v =
          let (x, y) = and_parts (stands_well f (cs i) s) (all_stand_well f cs (suc i) ss) e in
          let a = gives_of (cs i) s x (first_each Any Valued ps (parts_of (cs i) s) (parts_from cs (suc i) ss) v) in
          let b = gives_from cs (suc i) ss y (second_each Any Valued ps (parts_of (cs i) s) (parts_from cs (suc i) ss) v) in
          ap (λ r. r ++ gives_below cs (suc i) (all_filled ps ss)) a ∙ ap (λ r. gives_each ps (parts_of (cs i) s) ++ r) b ∙ sym (gives_both ps (parts_of (cs i) s) (parts_from cs (suc i) ss))

      gives_in : (c : Asked) (is : Items) → items_stand_well f c is ≡ true → Each Any Valued ps (parts_in c is) → concat (Gives c) (items_filled ps is) ≡ gives_each ps (parts_in c is)
      gives_in c no_items e v = refl
      gives_in c (item s is) e v =
          let (x, y) = and_parts (stands_well f c s) (items_stand_well f c is) e in
          let a = gives_of c s x (first_each Any Valued ps (parts_of c s) (parts_in c is) v) in
          let b = gives_in c is y (second_each Any Valued ps (parts_of c s) (parts_in c is) v) in
          ap (λ r. r ++ concat (Gives c) (items_filled ps is)) a ∙ ap (λ r. gives_each ps (parts_of c s) ++ r) b ∙ sym (gives_both ps (parts_of c s) (parts_in c is))
      gives_in c (items i is) e v =
          concat_append (Gives c) (list_at ps.lists i) (items_filled ps is) ∙ ap (λ r. concat (Gives c) (list_at ps.lists i) ++ r) (gives_in c is (right (are_loose f c i) (items_stand_well f c is) e) v.1)

    -- ---- parts that are moved

    gives_settled : (b : Bool) (c : Asked) (t : Tree) → (b ≡ true → is_unscoped t ≡ true) → Gives (settled_as b c) t ≡ Gives c t
    gives_settled false c t j = refl
    gives_settled true AsWholeItem t j = sym (k.of_moved t (j refl))
    gives_settled true AsBranch t j = refl
    gives_settled true AsItem t j = refl
    gives_settled true c t j = refl

    all_gives_settled : (b : Bool) (c : Asked) (ts : Trees) → (b ≡ true → are_unscoped ts ≡ true) → concat (Gives (settled_as b c)) ts ≡ concat (Gives c) ts
    all_gives_settled b c none j = refl
    all_gives_settled b c (t ▸ ts) j = λ x. gives_settled b c t (λ e. left (is_unscoped t) (are_unscoped ts) (j e)) x ++ all_gives_settled b c ts (λ e. right (is_unscoped t) (are_unscoped ts) (j e)) x

    each_gives_settled : (hs : List Hole) → gives_each ps (all_settled f hs) ≡ gives_each ps hs
    each_gives_settled [] = refl
    each_gives_settled (Part i c ∷ hs) = λ x. gives_settled (is_among f.moved i) c (child_or_absent ps.trees i) (unscoped_among f ps u i) x ++ each_gives_settled hs x
    each_gives_settled (Stretch i c ∷ hs) = λ x. all_gives_settled (is_among f.lists_moved i) c (list_at ps.lists i) (lists_unscoped_among f ps u i) x ++ each_gives_settled hs x
    each_gives_settled (Leaps l ∷ hs) = each_gives_settled hs

    -- ---- those that declare nothing

    undeclaring : (c : Asked) (t : Tree) → is_declaring c ≡ false → Gives c t ≡ []
    undeclaring AsWhole t e = absurd (cc e)
    undeclaring AsWholeList t e = absurd (cc e)
    undeclaring AsWholeItem t e = absurd (cc e)
    undeclaring AsBranch t e = absurd (cc e)
    undeclaring AsItems t e = absurd (cc e)
    undeclaring AsItem t e = absurd (cc e)
    undeclaring c t e = refl

    all_undeclaring : (c : Asked) (ts : Trees) → is_declaring c ≡ false → concat (Gives c) ts ≡ []
    all_undeclaring c none e = refl
    all_undeclaring c (t ▸ ts) e = ap (λ r. r ++ concat (Gives c) ts) (undeclaring c t e) ∙ all_undeclaring c ts e

    no_hole : (h : Hole) → is_declaring_hole h ≡ false → gives_hole ps h ≡ []
    no_hole (Part i c) e = undeclaring c (child_or_absent ps.trees i) e
    no_hole (Stretch i c) e = all_undeclaring c (list_at ps.lists i) e
    no_hole (Leaps l) e = refl

    gives_statements : (hs : List Hole) → gives_each ps (statements hs) ≡ gives_each ps hs
    gives_statements [] = refl
    gives_statements (h ∷ hs) = by (is_declaring_hole h) refl (gives_statements hs)
      where
        by : (b : Bool) → is_declaring_hole h ≡ b → gives_each ps (statements hs) ≡ gives_each ps hs → gives_each ps (if b then h ∷ statements hs else statements hs) ≡ gives_hole ps h ++ gives_each ps hs
        by true e a = ap (λ r. gives_hole ps h ++ r) a
        by false e a = a ∙ sym (ap (λ r. r ++ gives_each ps hs) (no_hole h e))

    by_statements : (hs : List Hole) → gives_each ps hs ≡ gives_each ps (statements (all_settled f hs))
    by_statements hs = sym (each_gives_settled hs) ∙ sym (gives_statements (all_settled f hs))

    -- so two trees that have the same of them, in order, declare the same
    pub gives_same : (c : Asked) (s r : Sketch) → stands_well f c s ≡ true → stands_well f c r ≡ true → are_same_holes (statements (all_settled f (parts_of c r))) (statements (all_settled f (parts_of c s))) ≡ true → Each Any Valued ps (parts_of c s) → Each Any Valued ps (parts_of c r) → Gives c (filled ps r) ≡ Gives c (filled ps s)
    gives_same c s r sn sr e v w =
        gives_of c r sr w ∙ by_statements (parts_of c r) ∙ ap (gives_each ps) (same_holes (statements (all_settled f (parts_of c r))) (statements (all_settled f (parts_of c s))) e) ∙ sym (by_statements (parts_of c s)) ∙ sym (gives_of c s sn v)

    -- and those where a branch stands twice in one
    pub gives_once : (c : Asked) (r : Sketch) (hs : List Hole) (t : Twice (statements (all_settled f (parts_of c r))) hs) → stands_well f c r ≡ true → Each Any Valued ps (parts_of c r) → Gives c (filled ps r) ≡ gives_each ps t.before ++ (H (child_or_absent ps.trees t.branch) ++ gives_each ps t.after)
    gives_once c r hs t sr w = gives_of c r sr w ∙ by_statements (parts_of c r) ∙ ap (gives_each ps) t.once ∙ gives_both ps t.before (Part t.branch AsBranch ∷ t.after)

    pub gives_twice : (c : Asked) (s : Sketch) (gs : List Hole) (t : Twice gs (statements (all_settled f (parts_of c s)))) → stands_well f c s ≡ true → Each Any Valued ps (parts_of c s) → Gives c (filled ps s) ≡ gives_each ps t.before ++ (H (child_or_absent ps.trees t.branch) ++ (H (child_or_absent ps.trees t.branch) ++ gives_each ps t.after))
    gives_twice c s gs t sn v = gives_of c s sn v ∙ by_statements (parts_of c s) ∙ ap (gives_each ps) t.twice ∙ gives_both ps t.before (Part t.branch AsBranch ∷ (Part t.branch AsBranch ∷ t.after))
