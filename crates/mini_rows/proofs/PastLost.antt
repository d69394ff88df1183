-- What it is for a node in the code of a body to lose a name that it declares in a scope of its own, and what so is kept of a program.
use Rattle.std.specs.Prelude.{ℕ, ◌+◌, ◌≤◌, ◌≡◌, ◌⊎◌, Bool, true, false, List, Contains, Option, None}
use Rattle.std.proofs.Common.{refl, inl, inr}
use Rattle.mini_model.specs.declared.name.Name.{Name}
use Rattle.mini_model.specs.declared.place.Position.{Position}
use Rattle.mini_model.specs.declared.place.Position.TheVariants.{Stmt}
use Rattle.mini_model.specs.declared.seat.StmtSeat.{StmtSeat}
use Rattle.mini_model.specs.Tree.{Tree, Trees, shape_of}
use Rattle.mini_accept.specs.WellShaped.{Depth, a_statement, a_default_export, Slot, one, fits}
use Rattle.mini_laws.specs.declared.names.Use.{Use}
use Rattle.mini_laws.specs.Edits.{Kept}
use Rattle.mini_laws.specs.Symbols.{declared as declared_in, times}
use Rattle.mini_laws.specs.Value.{Variable, Declared, VariableSet, nothing}
use Rattle.mini_laws.specs.State.{Environment}
use Rattle.mini_laws.specs.Demand.{Tail, Demand, Stat}
use Rattle.mini_laws.specs.Fits.{Fits}
use Rattle.mini_laws.specs.Same.{Same}
use Rattle.mini_laws.specs.Skeleton.{Within, Off, hidden}
use Rattle.mini_laws.specs.Substitution.{alone}
use Rattle.mini_laws.specs.Naming.{summary}
use Rattle.mini_laws.specs.Fixity.{fixed_by}
use Rattle.mini_laws.specs.Bodies.{Around, bodies, arrow_kind}
use Rattle.mini_kept.specs.AlikeBodies.{BodiesKept}
use Rattle.mini_kept.specs.Declaring.{declared}
use Rattle.mini_kept.specs.Frames.{frames, FramesKept}
use Rattle.mini_kept.specs.KeepsFrames.{is_body_slot, IsShownAlike, NoPort, NoDeclaration, KeepsFunction, KeepsHolder, KeepsPlaces}
use Rattle.mini_kept.specs.KeepsLoosely.{KeepsLoosely}
use Rattle.mini_kept.specs.KeepsNames.{is_rewritten_place}
use Rattle.mini_kept.specs.KeepsShapes.{KeepsShapes, AskedAlike}
use Rattle.mini_kept.specs.Lifted.{is_piece, KeepsRoot, KeepsNames}
use Rattle.mini_kept.specs.Loosely.{symbol}
use Rattle.mini_kept.specs.Placed.{fits_place, is_statement_list}
use Rattle.mini_kept.specs.Without.{Assured, Steadies, Permits}
use Rattle.mini_rows.specs.Switches.{Switches, without_vars}
use Rattle.mini_rows.specs.Past.{PastRow}
use Rattle.mini_rows.specs.Unused.{resolved}
use Rattle.mini_rows.proofs.HeadKept.{head_names}
use Rattle.mini_rows.proofs.NextKept.{next_names}
use Rattle.mini_rows.proofs.PastStretches.{behind, of_head, of_next}
use Rattle.mini_rows.proofs.UnusedKept.{NamesThere}
use Rattle.mini_rows.proofs.UnusedMeaning.{movable, lexical_alone}

-- ---- what its shape tells, there where it stands

pub record Stands (p : Position) (n w : Tree) : Type 0 where
  pub placed : (is_rewritten_place p ≡ true) ⊎ KeepsRoot p n w
  pub no_list : is_statement_list p ≡ true → ⊥
  pub no_piece : is_piece (shape_of n) ≡ false
  pub asked : AskedAlike p n w
  pub ported : (m : Bool) → NoPort m n w
  pub undeclared : NoDeclaration n w
  pub read : summary n ≡ summary w
  pub kind : arrow_kind (shape_of n) ≡ arrow_kind (shape_of w)

-- ---- the name with a symbol goes from it; it means the same where nobody else sees the name, from states in which what is known has its value, if
-- no scope in it hides that

pub record Lost (V : Assured) (k : ℕ) (p : Position) (n w : Tree) : Type 0 where
  pub stands : Stands p n w
  pub fitting : (strict : Bool) (s : Slot) → fits strict s n ≡ true → (fits strict s w ≡ true) × (is_body_slot p s ≡ true)
  pub keeps : KeepsLoosely p n w
  pub kept : Kept n w
  pub less : (v : Use) → times (symbol k) (declared_in v w) + 1 ≤ times (symbol k) (declared_in v n)
  pub fixed : (y : Variable) → alone (Declared k) y ≡ false → fixed_by n y ≡ fixed_by w y
  pub declares : (y : Name) → Contains (declared w) y → Contains (declared n) y
  pub framed : FramesKept (frames None n) (frames None w)
  pub bodied : (a : Around) → BodiesKept (bodies a n) (bodies a w)
  pub means : (e : Environment) → Permits nothing (alone (Declared k)) e → Steadies V e → Off (hidden n) V.initial → (d : Demand) → Fits p d → Same e (alone (Declared k)) V.initial d n w

-- what hides none of some variables hides none of fewer
pub off_within : (xs : List Variable) (X Y : VariableSet) → Within X Y → Off xs Y → Off xs X
unfolding Off Within
off_within xs X Y w o x e = o x (w x e)

-- what holds of a statement at each end holds of it whatever is asked there
pub in_statement : (e : Environment) (q : StmtSeat) (D X : VariableSet) (n w : Tree) → ((t : Option Tail) → Same e D X (Stat t) n w) → (d : Demand) → Fits (Stmt q) d → Same e D X d n w
in_statement e q D X n w h (Stat t) f = h t
in_statement e q D X n w h d f = elim f [ ]

-- what is declared there is a lexical name
pub names_there : {options : Switches} (V : Assured) (o : Tree) (a b : Trees) (r : PastRow V (without_vars options) o a b) → let t = behind V (without_vars options) o a b r in NamesThere (resolved t.spelling t.symbol) t.d t.w
unfolding behind of_head of_next
names_there {options = options} V o a b (inl r) = head_names r.kind (resolved r.spelling r.symbol) r.symbol refl r.first r.init r.head (movable options r.init r.moves) r.once r.initial r.declared_earlier (lexical_alone r.kind r.goes)
names_there {options = options} V o a b (inr r) = next_names r.kind (resolved r.spelling r.symbol) r.symbol refl r.first r.init r.binds r.value r.last r.once r.declared_earlier r.initial r.other r.declared_later (lexical_alone r.kind r.goes)

-- whatever is known
abbrev pub Loses : ℕ → Position → Tree → Tree → Type 0
Loses k p n w = (V : Assured) × Lost V k p n w

-- ---- those of a symbol

module _ (k : ℕ) where
  -- what holds of each
  pub at_lost : (P : Position → Tree → Tree → Type 0) → ((V : Assured) (p : Position) (n w : Tree) → Lost V k p n w → P p n w) → (p : Position) (n w : Tree) → Loses k p n w → P p n w
  at_lost P f p n w (V, r) = f V p n w r

  pub loses_names : KeepsNames (Loses k)
  loses_names = record {
    places = at_lost (λ p n w. (is_rewritten_place p ≡ true) ⊎ KeepsRoot p n w) (λ V q n w r. r.stands.placed);
    pieces = at_lost (λ p n w. is_piece (shape_of n) ≡ false) (λ V q n w r. r.stands.no_piece);
    keeps = at_lost (λ p n w. (strict : Bool) (s : Slot) → fits_place p s ≡ true → fits strict s n ≡ true → KeepsLoosely p n w) (λ V q n w r strict s z e. r.keeps);
  }

  pub loses_shapes : KeepsShapes (Loses k)
  loses_shapes = record {
    fitting = at_lost (λ p n w. (strict : Bool) (s : Slot) → fits_place p s ≡ true → fits strict s n ≡ true → fits strict s w ≡ true) (λ V q n w r strict s z e. (r.fitting strict s e).0);
    asked = at_lost AskedAlike (λ V q n w r. r.stands.asked);
  }

  pub loses_places : KeepsPlaces (Loses k)
  loses_places = record {
    names = loses_names;
    slots = at_lost (λ p n w. (strict : Bool) (s : Slot) → fits_place p s ≡ true → fits strict s n ≡ true → ((is_body_slot p s ≡ true) ⊎ IsShownAlike s n w) ⊎ KeepsHolder n w) (λ V q n w r strict s z e. inl (inl (r.fitting strict s e).1));
    ports = at_lost (λ p n w. (strict : Bool) (d : Depth) → fits strict (one (a_statement d)) n ≡ true → (m : Bool) → NoPort m n w ⊎ KeepsFunction n w) (λ V q n w r strict d e m. inl (r.stands.ported m));
    listed = λ p n w e r. absurd (at_lost (λ p n w. is_statement_list p ≡ true → ⊥) (λ V q n w r. r.stands.no_list) p n w r e);
    exported = at_lost (λ p n w. (strict : Bool) → fits strict (one a_default_export) n ≡ true → NoDeclaration n w ⊎ KeepsFunction n w) (λ V q n w r strict e. inl r.stands.undeclared);
  }

  pub loses_read : (p : Position) (n w : Tree) → Loses k p n w → summary n ≡ summary w
  loses_read = at_lost (λ p n w. summary n ≡ summary w) (λ V q n w r. r.stands.read)

  pub loses_kind : (p : Position) (n w : Tree) → Loses k p n w → arrow_kind (shape_of n) ≡ arrow_kind (shape_of w)
  loses_kind = at_lost (λ p n w. arrow_kind (shape_of n) ≡ arrow_kind (shape_of w)) (λ V q n w r. r.stands.kind)
