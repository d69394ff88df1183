-- What is kept of a list of statements is kept where it is the list of a function's body.
use Rattle.std.proofs.Common.{◌≡◌, true, refl}
use Rattle.mini_model.specs.declared.place.Position.{Position}
use Rattle.mini_model.specs.declared.place.Position.TheVariants.{StatementList, BodyList}
use Rattle.mini_model.specs.Tree.{Tree}
use Rattle.mini_accept.specs.WellShaped.{a_statement, Slot, one, one_or_absent, many, many_or_holes, many_and_rest, many_or_holes_and_rest, quasis}
use Rattle.mini_laws.specs.Bodies.{Around}
use Rattle.mini_laws.specs.Demand.{Demand, Stat}
use Rattle.mini_laws.specs.Fits.{Fits}
use Rattle.mini_laws.specs.Rows.{SameAt}
use Rattle.mini_kept.specs.KeepsFrames.{is_body_slot}
use Rattle.mini_kept.specs.KeepsLoosely.{KeepsLoosely}
use Rattle.mini_kept.specs.Placed.{fits_place}
use Rattle.mini_kept.specs.Standing.{stands_whole, Stands}
use Rattle.mini_kept.specs.Loosely.{FixedKept}
use Rattle.mini_rows.specs.Arranged.{SameFixed, KeptBy, KeptAt, KeptLoosely}

-- where it stands
pub same_place : (s : Slot) → fits_place BodyList s ≡ true → fits_place StatementList s ≡ true
same_place (many (a_statement d)) e = refl
same_place s e = e

pub same_slot : (s : Slot) → is_body_slot StatementList s ≡ true → is_body_slot BodyList s ≡ true
same_slot (many (a_statement d)) e = refl
same_slot s e = e

same_whole : (s : Slot) → stands_whole s BodyList ≡ true → stands_whole s StatementList ≡ true
same_whole (one c) e = e
same_whole (one_or_absent c) e = e
same_whole (many c) e = e
same_whole (many_or_holes c) e = e
same_whole (many_and_rest c rest) e = e
same_whole (many_or_holes_and_rest c rest) e = e
same_whole (quasis g) e = e

same_stands : (s : Slot) (a : Around) → Stands s BodyList a → Stands s StatementList a
same_stands s a st = record { whole = same_whole s st.whole; assigned = λ e. refl; function = st.function }

-- its names
loosely : (n w : Tree) → KeepsLoosely StatementList n w → KeepsLoosely BodyList n w
loosely n w k = record {
  bound = k.bound;
  lexical = k.lexical;
  hoisted = k.hoisted;
  body = k.body;
  inner = k.inner;
  scoped = k.scoped;
  symbols = k.symbols;
  numbers = k.numbers;
  declared_as_body = k.declared_as_body;
  once = k.once;
  targets = k.targets;
  loop = k.loop;
  root = k.root;
  block = k.block;
}

-- and all else
body_kept_by : (F : Position → Tree → Tree → Type 0) (n w : Tree) → (F StatementList n w → F BodyList n w) → KeptBy F StatementList n w → KeptBy F BodyList n w
body_kept_by F n w f k = record {
  keeps = λ strict s o f. loosely n w (k.keeps strict s (same_place s o) f);
  piece = k.piece;
  kind = k.kind;
  bodies = λ strict s o f a st. k.bodies strict s (same_place s o) f a (same_stands s a st);
  ports = k.ports;
  listed = λ l. k.listed refl;
  exported = k.exported;
  frames = λ strict s o f. k.frames strict s (same_place s o) f;
  fixed = f k.fixed;
  declared = k.declared;
}

pub body_kept : (n w : Tree) → KeptAt StatementList n w → KeptAt BodyList n w
body_kept n w = body_kept_by SameFixed n w (λ f. f)

pub body_loosely : (n w : Tree) → KeptLoosely StatementList n w → KeptLoosely BodyList n w
body_loosely n w = body_kept_by FixedKept n w (λ f. record { by = λ strict s o e v env st a x. f.by strict s (same_place s o) e v env st a x })

-- what it means, whichever end it has
body_asked : (q : Demand) → Fits BodyList q → Fits StatementList q
body_asked (Stat t) f = tt
body_asked q f = absurd f

pub body_same : (n w : Tree) → SameAt StatementList n w → SameAt BodyList n w
body_same n w s = record { by = λ e D X q f. s.by e D X q (body_asked q f) }
