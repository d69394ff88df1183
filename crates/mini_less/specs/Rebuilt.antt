-- What is built anew of the same parts, whatever their order, and which of them it calls.
use Rattle.std.specs.Prelude.{ℕ, ◌≡◌, Bool, true, false, ◌&&◌, List, [], ◌∷◌, ◌++◌}
use Rattle.mini_kept.specs.Placed.{is_statement_list}
use Rattle.mini_model.specs.declared.place.Position.{Position}
use Rattle.mini_model.specs.declared.place.Position.TheVariants.{Stmt}
use Rattle.mini_model.specs.declared.seat.StmtSeat.{StmtSeat}
use Rattle.mini_model.specs.Tree.{Tree, Trees, listed}
use Rattle.mini_model.specs.Paths.{append}
use Rattle.mini_laws.specs.Value.{Declared}
use Rattle.mini_laws.specs.ScopeList.{has_eval}
use Rattle.mini_shrink.specs.Shrinking.{AsksLess}
use Rattle.mini_shrink.specs.Facts.{Fact, question}
use Rattle.mini_rows.specs.Sketches.{Head, Call, Sketch, part, under, list, Sketches, end, ◌▹◌, Items, no_items, item, items, Parts, filled, items_filled, Asked, AsWhole, AsWholeItem, parts_of, parts_in, Free, is_among, is_rearranged, stands_well, items_stand_well}
use Rattle.mini_rows.specs.Arranged.{AreLoose}
use Rattle.mini_less.specs.Flags.{FlagsLess}
use Rattle.mini_less.specs.Neighbours.{are_headed}

abbrev pub rebuilds : Free → Asked → Sketch → Sketch → Bool
rebuilds f c s r = stands_well f c s && (stands_well f c r && is_rearranged f (parts_of c s) (parts_of c r))

-- ---- the parts that are called, as `f` of `f(a)`

abbrev pub own_callee : Head → Sketches → List ℕ
own_callee (Call false) (part i ▹ ss) = i ∷ []
own_callee h ss = []

abbrev mutual
  pub callees : Sketch → List ℕ
  callees (part i) = []
  callees (under h ss) = own_callee h ss ++ callees_from ss
  callees (list is) = callees_in is

  pub callees_from : Sketches → List ℕ
  callees_from end = []
  callees_from (s ▹ ss) = callees s ++ callees_from ss

  pub callees_in : Items → List ℕ
  callees_in no_items = []
  callees_in (item s is) = callees s ++ callees_in is
  callees_in (items i is) = callees_in is

abbrev pub are_among : List ℕ → List ℕ → Bool
are_among is [] = true
are_among is (j ∷ js) = is_among is j && are_among is js

-- it calls only parts that were called
abbrev pub calls_no_more : Sketch → Sketch → Bool
calls_no_more s r = are_among (callees s) (callees r)

-- ---- the laws

-- no direct eval comes to stand in it
abbrev pub RebuiltEvalsLess : Type 0
RebuiltEvalsLess = (f : Free) (ps : Parts) → AreLoose ps f → (c : Asked) (s r : Sketch) → rebuilds f c s r ≡ true → calls_no_more s r ≡ true → (n w : Tree) → n ≡ filled ps s → w ≡ filled ps r → has_eval w ≡ true → has_eval n ≡ true

abbrev pub RebuiltFlagsLess : Type 0
RebuiltFlagsLess = (f : Free) (ps : Parts) → AreLoose ps f → (c : Asked) (h : Head) (ss : Sketches) (r : Sketch) → rebuilds f c (under h ss) r ≡ true → (n w : Tree) → n ≡ filled ps (under h ss) → w ≡ filled ps r → FlagsLess n w

-- a statement for a statement, neither a mere part; the order of what stands in them is free
abbrev pub rebuilds_statement : Free → Sketch → Sketch → Bool
rebuilds_statement f (under h ss) (under g rs) = rebuilds f AsWhole (under h ss) (under g rs)
rebuilds_statement f s r = false

-- each fact of it
abbrev pub StatementsAskLess : Type 0
StatementsAskLess =
    (f : Free) (ps : Parts) → AreLoose ps f → (s r : Sketch) → rebuilds_statement f s r ≡ true → (q : StmtSeat) (n w : Tree) → n ≡ filled ps s → w ≡ filled ps r
    → (g : Fact) (b k : ℕ) → AsksLess (question g b k) (Declared k) (Stmt q) n w

-- some neighbours for others
abbrev pub rebuilds_list : Free → Items → Items → Bool
rebuilds_list f is js = items_stand_well f AsWholeItem is && (items_stand_well f AsWholeItem js && is_rearranged f (parts_in AsWholeItem is) (parts_in AsWholeItem js))

-- of neighbours in a list none of which is itself a statement of it, each fact
abbrev pub ListsAskLess : Type 0
ListsAskLess =
    (f : Free) (ps : Parts) → AreLoose ps f → (is js : Items) → rebuilds_list f is js ≡ true → are_headed is ≡ true → (p : Position) → is_statement_list p ≡ true → (before after a d : Trees) → a ≡ items_filled ps is → d ≡ items_filled ps js
    → (n w : Tree) → n ≡ listed (append before (append a after)) → w ≡ listed (append before (append d after)) → (g : Fact) (b k : ℕ) → AsksLess (question g b k) (Declared k) p n w
