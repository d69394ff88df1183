-- What is built anew of the same parts keeps all that a program has to keep, but for its meaning
-- and its shape.
use Rattle.std.specs.Prelude.{ℕ, ◌≤◌, ◌≡◌, ◌⊎◌, List, [], ◌∷◌, Bool, true, false, Contains, None}
use Rattle.mini_model.specs.declared.name.Name.{Name}
use Rattle.mini_model.specs.declared.place.Position.{Position}
use Rattle.mini_model.specs.declared.place.Position.TheVariants.{Expr, Stmt, StatementList}
use Rattle.mini_model.specs.declared.seat.Seat.{Seat}
use Rattle.mini_model.specs.declared.seat.StmtSeat.{StmtSeat}
use Rattle.mini_model.specs.Tree.{Tree, Trees, listed, shape_of, children, child_or_absent}
use Rattle.mini_model.specs.Redex.{Row40, Row82Else, Row82And, Row82Or}
use Rattle.mini_accept.specs.WellShaped.{Depth, an_expression, a_statement, a_default_export, Slot, one, many, fits}
use Rattle.mini_laws.specs.declared.names.Targets.{Targets}
use Rattle.mini_laws.specs.declared.names.Use.TheVariants.{Read}
use Rattle.mini_laws.specs.DeclaredNames.{has_inner}
use Rattle.mini_laws.specs.Resolved.{Environment}
use Rattle.mini_laws.specs.Scoped.{Scoped}
use Rattle.mini_laws.specs.Symbols.{declared as declared_in, Within}
use Rattle.mini_laws.specs.Value.{Variable}
use Rattle.mini_laws.specs.State.{Writable}
use Rattle.mini_laws.specs.Fixity.{fixed_by}
use Rattle.mini_laws.specs.Bodies.{Around, bodies, arrow_kind}
use Rattle.mini_laws.specs.Rewritten.{MeansSame}
use Rattle.mini_kept.specs.AlikeBodies.{BodiesKept}
use Rattle.mini_kept.specs.Declaring.{declared}
use Rattle.mini_kept.specs.Frames.{is_declaration, is_port, ports as ports_of, frames, FramesKept}
use Rattle.mini_kept.specs.KeepsLoosely.{InnerKept, KeepsLoosely}
use Rattle.mini_kept.specs.KeepsNames.{is_rewritten_place, NamesOnce, HasTargets, count_of}
use Rattle.mini_kept.specs.Carried.{numbers}
use Rattle.mini_kept.specs.KeepsFrames.{is_body_slot}
use Rattle.mini_kept.specs.KeepsShapes.{KeepsShapes}
use Rattle.mini_kept.specs.Lawful.{Lawful}
use Rattle.mini_kept.specs.Lifted.{is_piece}
use Rattle.mini_kept.specs.Loosely.{FixedKept}
use Rattle.mini_kept.specs.Placed.{is_statement_list, fits_place}
use Rattle.mini_kept.specs.Standing.{Stands}
use Rattle.mini_rows.specs.Lists.{is_unscoped, are_unscoped, return_statement, throw_statement, Row66Empty, Row66Joined, Row79, Row73, Row73Bare, Row76, InList}
use Rattle.mini_rows.specs.Sketches.{Sketch, Items, Parts, Hole, Part, Stretch, Leaps, AsWhole, AsValue, parts_of, list_at, filled, items_filled, Free, rearranges_expression, rearranges_statement, rearranges_list, rearranges_list_once}

-- of one node and what is written for it: what a lawful relation keeps of it, where F says what it
-- keeps of what a write of a variable does
pub record KeptBy (F : Position → Tree → Tree → Type 0) (p : Position) (n w : Tree) : Type 0 where
  pub keeps : (strict : Bool) (s : Slot) → fits_place p s ≡ true → fits strict s n ≡ true → KeepsLoosely p n w
  pub piece : is_piece (shape_of n) ≡ false
  pub kind : (strict : Bool) (s : Slot) → fits strict s n ≡ true → arrow_kind (shape_of n) ≡ arrow_kind (shape_of w)
  pub bodies : (strict : Bool) (s : Slot) → fits_place p s ≡ true → fits strict s n ≡ true → (a : Around) → Stands s p a → BodiesKept (bodies a n) (bodies a w)
  pub ports : (strict : Bool) (d : Depth) → fits strict (one (a_statement d)) n ≡ true → (is_module : Bool) → (is_port is_module (shape_of n) ≡ false) × (is_port is_module (shape_of w) ≡ false)
  pub listed : is_statement_list p ≡ true → (strict : Bool) (d : Depth) → fits strict (many (a_statement d)) n ≡ true → (is_module : Bool) → ports_of is_module (children n) ≡ ports_of is_module (children w)
  pub exported : (strict : Bool) → fits strict (one a_default_export) n ≡ true → (is_declaration (shape_of n) ≡ false) × (is_declaration (shape_of w) ≡ false)
  pub frames : (strict : Bool) (s : Slot) → fits_place p s ≡ true → fits strict s n ≡ true → FramesKept (frames None n) (frames None w)
  pub fixed : F p n w
  pub declared : (x : Name) → Contains (declared w) x → Contains (declared n) x

-- all of it
abbrev pub SameFixed : Position → Tree → Tree → Type 0
SameFixed p n w = (x : Variable) → fixed_by n x ≡ fixed_by w x

abbrev pub KeptAt : Position → Tree → Tree → Type 0
KeptAt = KeptBy SameFixed

-- the instances of a relation that keep it
abbrev pub WhereFixed : (Position → Tree → Tree → Type 0) → Position → Tree → Tree → Type 0
WhereFixed R p n w = R p n w × SameFixed p n w

-- what it does of variables that are still declared
abbrev pub KeptLoosely : Position → Tree → Tree → Type 0
KeptLoosely = KeptBy FixedKept

-- ---- what is asked of parts that are moved or dropped

-- it has no inner expression, and declares nothing that can't be written
pub record Vanishes (t : Tree) : Type 0 where
  pub inner : has_inner t ≡ false
  pub fixed : (x : Variable) → fixed_by t x ≡ Writable

abbrev pub AllUnscoped : Trees → List ℕ → Type 0
AllUnscoped ts [] = Unit {0}
AllUnscoped ts (i ∷ is) = (is_unscoped (child_or_absent ts i) ≡ true) × AllUnscoped ts is

abbrev pub ListsUnscoped : List Trees → List ℕ → Type 0
ListsUnscoped tss [] = Unit {0}
ListsUnscoped tss (i ∷ is) = (are_unscoped (list_at tss i) ≡ true) × ListsUnscoped tss is

abbrev pub AllVanish : Trees → List ℕ → Type 0
AllVanish ts [] = Unit {0}
AllVanish ts (i ∷ is) = Vanishes (child_or_absent ts i) × AllVanish ts is

abbrev pub AreFree : Parts → Free → Type 0
AreFree ps f = AllUnscoped ps.trees f.moved × ListsUnscoped ps.lists f.lists_moved × AllVanish ps.trees f.dropped

-- what is dropped may be anything
abbrev pub AreLoose : Parts → Free → Type 0
AreLoose ps f = AllUnscoped ps.trees f.moved × ListsUnscoped ps.lists f.lists_moved

-- ---- the laws

-- an expression that is built anew of the parts of another is kept
abbrev pub ExpressionsArranged : Type 0
ExpressionsArranged =
    (f : Free) (ps : Parts) → AreFree ps f → (s r : Sketch) → rearranges_expression f s r ≡ true → (q : Seat) (n w : Tree) → n ≡ filled ps s → w ≡ filled ps r → KeptAt (Expr q) n w

-- so is one of which any parts are dropped, where it is no parameter, but for what a write of each
-- variable does
abbrev pub ExpressionsArrangedLoosely : Type 0
ExpressionsArrangedLoosely =
    (f : Free) (ps : Parts) → AreLoose ps f → (s r : Sketch) → rearranges_expression f s r ≡ true → (q : Seat) (n w : Tree) → n ≡ filled ps s → w ≡ filled ps r → InnerKept n w → FixedKept (Expr q) n w → KeptLoosely (Expr q) n w

-- a statement that is built anew of the parts of another, which keep their order where they declare
-- names
abbrev pub StatementsArranged : Type 0
StatementsArranged =
    (f : Free) (ps : Parts) → AreFree ps f → (s r : Sketch) → rearranges_statement f s r ≡ true → (q : StmtSeat) (n w : Tree) → n ≡ filled ps s → w ≡ filled ps r → KeptAt (Stmt q) n w

-- and a list of statements
abbrev pub ListsArranged : Type 0
ListsArranged =
    (f : Free) (ps : Parts) → AreFree ps f → (is js : Items) → rearranges_list f is js ≡ true → (n w : Tree) → n ≡ listed (items_filled ps is) → w ≡ listed (items_filled ps js) → KeptAt StatementList n w

-- and so is a list in which a branch stands twice, one right after the other, and is written once
abbrev pub ListsArrangedOnce : Type 0
ListsArrangedOnce =
    (f : Free) (ps : Parts) → AreFree ps f → (is js : Items) → rearranges_list_once f is js ≡ true → (n w : Tree) → n ≡ listed (items_filled ps is) → w ≡ listed (items_filled ps js) → KeptAt StatementList n w

-- ---- a part for which another expression is written

-- it keeps what the part has
pub record WrittenFor (t u : Tree) : Type 0 where
  pub fitting : (strict : Bool) → fits strict (one an_expression) t ≡ true → fits strict (one an_expression) u ≡ true
  pub inner : has_inner u ≡ has_inner t
  pub scoped : (env : Environment) → Scoped Read env t → Scoped Read env u
  pub symbols : Within (declared_in Read u) (declared_in Read t)
  pub numbers : (k : ℕ) → count_of k (numbers u) ≤ count_of k (numbers t)
  pub once : NamesOnce [] t → NamesOnce [] u
  pub targets : (g : Targets) → HasTargets g [] t → HasTargets g [] u
  pub bodies : (strict : Bool) → fits strict (one an_expression) t ≡ true → (a : Around) → a.constructs ≡ false → a.is_assigned ≡ false → BodiesKept (bodies a t) (bodies a u)
  pub frames : (strict : Bool) → fits strict (one an_expression) t ≡ true → FramesKept (frames None t) (frames None u)
  pub fixed : (x : Variable) → fixed_by u x ≡ fixed_by t x
  pub declared : (x : Name) → Contains (declared u) x → Contains (declared t) x

-- for the parts that are expressions others are written, and the other parts are the same
abbrev pub Rewritten : Parts → Parts → List Hole → Type 0
Rewritten ps qs [] = Unit {0}
Rewritten ps qs (Part i AsValue ∷ hs) = WrittenFor (child_or_absent ps.trees i) (child_or_absent qs.trees i) × Rewritten ps qs hs
Rewritten ps qs (Part i c ∷ hs) = (child_or_absent ps.trees i ≡ child_or_absent qs.trees i) × Rewritten ps qs hs
Rewritten ps qs (Stretch i c ∷ hs) = (list_at ps.lists i ≡ list_at qs.lists i) × Rewritten ps qs hs
Rewritten ps qs (Leaps l ∷ hs) = Rewritten ps qs hs

-- those parts are expressions
abbrev pub AreExpressions : Bool → Parts → List Hole → Type 0
AreExpressions strict ps [] = Unit {0}
AreExpressions strict ps (Part i AsValue ∷ hs) = (fits strict (one an_expression) (child_or_absent ps.trees i) ≡ true) × AreExpressions strict ps hs
AreExpressions strict ps (h ∷ hs) = AreExpressions strict ps hs

-- so a statement that is built anew of these parts, with others written for some, is kept
abbrev pub StatementsRewritten : Type 0
StatementsRewritten =
    (f : Free) (ps qs : Parts) → AreFree ps f → AreFree qs f → (s r : Sketch) → rearranges_statement f s r ≡ true → Rewritten ps qs (parts_of AsWhole r) → (q : StmtSeat) (n w : Tree) → n ≡ filled ps s → w ≡ filled qs r
    → ((strict : Bool) (x : Slot) → fits strict x n ≡ true → AreExpressions strict ps (parts_of AsWhole r))
    → KeptAt (Stmt q) n w

-- so is what the row 40 writes, `a ? c : b` for `!a ? b : c`
abbrev pub Row40Kept : Type 0
Row40Kept = (q : Seat) (n w : Tree) → Row40 n w → KeptAt (Expr q) n w

-- and what the row 82 writes: `a ? b : c;` for `if (a) b; else c;`, and `a && b;` for `if (a) b;`
abbrev pub Row82ElseKept : Type 0
Row82ElseKept = (q : StmtSeat) (n w : Tree) → Row82Else n w → KeptAt (Stmt q) n w

abbrev pub Row82AndKept : Type 0
Row82AndKept = (q : StmtSeat) (n w : Tree) → Row82And n w → KeptAt (Stmt q) n w

-- and `a || b;` for `if (!a) b;`
abbrev pub Row82OrKept : Type 0
Row82OrKept = (q : StmtSeat) (n w : Tree) → Row82Or n w → KeptAt (Stmt q) n w

-- and so are rows of neighbours in a list of statements, whatever stands before and after them
abbrev pub NeighboursRow : Trees → Trees → Type 0
NeighboursRow a b = Row66Empty a b ⊎ (Row66Joined a b ⊎ (Row79 a b ⊎ (Row73 return_statement a b ⊎ (Row73 throw_statement a b ⊎ (Row73Bare a b ⊎ Row76 a b)))))

abbrev pub NeighboursKept : Type 0
NeighboursKept = (n w : Tree) → InList NeighboursRow n w → KeptAt StatementList n w

-- a relation is lawful if each of its instances is kept, means the same and keeps its shape, where
-- it is made at expressions, statements and lists of statements, in the slots where a body has them
abbrev pub KeptIsLawful : (Position → Tree → Tree → Type 0) → Type 0
KeptIsLawful R =
    MeansSame R → KeepsShapes R → ((p : Position) (n w : Tree) → R p n w → is_rewritten_place p ≡ true)
    → ((p : Position) (n w : Tree) → R p n w → (strict : Bool) (s : Slot) → fits_place p s ≡ true → fits strict s n ≡ true → is_body_slot p s ≡ true)
    → ((p : Position) (n w : Tree) → R p n w → KeptAt p n w)
    → Lawful R
