-- What the row of a `var` further inside a body writes is loosely lawful.
use Rattle.std.specs.Prelude.{◌≡◌, refl, ◌||◌, Bool, true, false}
use Rattle.std.proofs.Common.{ap, ◌∙◌, inl, inr, true≢false}
use Rattle.mini_model.specs.declared.name.Name.{Name}
use Rattle.mini_model.specs.declared.place.Position.{Position}
use Rattle.mini_model.specs.declared.place.Position.TheVariants.{Expr, Stmt, Method, Elsewhere}
use Rattle.mini_model.specs.Tree.{Tree, Trees, none, ◌▸◌, absent, listed}
use Rattle.mini_model.specs.Paths.{append}
use Rattle.mini_laws.specs.Path.{plug}
use Rattle.mini_kept.proofs.Loosely.{loose_narrowed}
use Rattle.mini_rows.specs.Inside.{above, Holder, Arrow, Function, Module, Static, over, stands_at, InsideRow, InsideContracts, InsideIsLawful}
use Rattle.mini_rows.specs.Unused.{resolved, names, any_names}
use Rattle.mini_rows.specs.Switches.{Liberties}
use Rattle.mini_rows.proofs.FunctionBodyLawful.{OfUnused, held_loose}
use Rattle.mini_rows.proofs.InsideMeaning.{EndLoses, end_loses}
use Rattle.mini_rows.proofs.UnusedNames.{or_parts}
use Rattle.mini_rows.proofs.UnusedStretches.{Stretch}

-- ---- nothing else in the body mentions it

pub appended : (x : Name) (first : Trees) (t : Tree) (last : Trees) → any_names x (append first (t ▸ last)) ≡ false → (any_names x first ≡ false) × (names x t ≡ false) × (any_names x last ≡ false)
appended x none t last e = let (a, b) = or_parts (names x t) (any_names x last) e in (refl, a, b)
appended x (u ▸ first) t last e =
    let (a, b) = or_parts (names x u) (any_names x (append first (t ▸ last))) e in
    let (f, g, h) = appended x first t last b in
    (ap (λ c. c || any_names x first) a ∙ f, g, h)

once : (b : Bool) → (b || false) ≡ false → b ≡ false
once true e = absurd (true≢false e)
once false e = refl

-- nor of its holder
abbrev pub front : Holder → Tree
front (Arrow directives n parameters) = listed parameters
front (Function is_declared is_generator directives n name parameters) = listed (name ▸ parameters)
front (Module directives) = listed none
front (Static n) = listed none

pub in_front : (x : Name) (o : Holder) → names x (over o absent) ≡ false → names x (front o) ≡ false
in_front x (Arrow ds n ps) e = once (any_names x ps) e
in_front x (Function d g ds n name ps) e =
    let (a, b) = or_parts (names x name) (any_names x ps || false) e in
    ap (λ q. q || any_names x ps) a ∙ once (any_names x ps) b
in_front x (Module ds) e = refl
in_front x (Static n) e = refl

-- ---- so its statements lose the name

module _ (W : Liberties) (n w : Tree) (r : InsideRow W n w) where
  abbrev outer : Trees
  outer = over r.holder absent ▸ (listed (append r.first (absent ▸ r.last)) ▸ above r.place)

  abbrev inner : EndLoses W.writable r.end outer r.read r.put
  inner = end_loses W r.end outer r.read r.put r.row

  abbrev x : Name
  x = resolved inner.spelling inner.symbol

  abbrev earlier : Trees
  earlier = append r.first (plug r.place r.read ▸ r.last)

  abbrev later : Trees
  later = append r.first (plug r.place r.put ▸ r.last)

  stretch : Stretch W.writable (front r.holder) earlier later
  stretch =
      let (held_free, rest) = or_parts (names x (over r.holder absent)) (any_names x (listed (append r.first (absent ▸ r.last)) ▸ above r.place)) inner.outside in
      let (list_free, own) = or_parts (any_names x (append r.first (absent ▸ r.last))) (any_names x (above r.place)) rest in
      let (before, none_there, after) = appended x r.first absent r.last list_free in
      record {
        spelling = inner.spelling;
        symbol = inner.symbol;
        before = r.first;
        after = r.last;
        d = plug r.place r.read ▸ none;
        w = plug r.place r.put ▸ none;
        loses = inner.loses r.place r.there own;
        outside = in_front x r.holder held_free;
        earlier = before;
        later = after;
        read_is = refl;
        written_is = refl;
      }

-- ---- whatever holds them

either_holder : (W : Liberties) (p : Position) (n w : Tree) → InsideContracts W p n w → OfUnused W p n w
either_holder W p n w c = by c.row.holder p c.stands (stretch W n w c.row) c.row.shape c.row.written
  where
    by : (o : Holder) (p : Position) → stands_at o p ≡ true → {a b : Trees} → Stretch W.writable (front o) a b → n ≡ over o (listed a) → w ≡ over o (listed b) → OfUnused W p n w
    by (Arrow ds k ps) (Expr s) e {a} {b} t f g = inr (inl (record { directives = ds; number = k; parameters = ps; before = a; after = b; there = t; shape = f; written = g }))
    by (Arrow ds k ps) p e t f g = absurd (cc e)
    by (Function d g ds k name ps) (Stmt q) e {a} {b} t f h = inr (inr (inl (refl, record { is_declared = d; is_generator = g; directives = ds; number = k; name = name; parameters = ps; before = a; after = b; there = t; shape = f; written = h })))
    by (Function d g ds k name ps) (Expr q) e {a} {b} t f h = inr (inr (inl (refl, record { is_declared = d; is_generator = g; directives = ds; number = k; name = name; parameters = ps; before = a; after = b; there = t; shape = f; written = h })))
    by (Function d g ds k name ps) Method e {a} {b} t f h = inr (inr (inl (refl, record { is_declared = d; is_generator = g; directives = ds; number = k; name = name; parameters = ps; before = a; after = b; there = t; shape = f; written = h })))
    by (Function d g ds k name ps) Elsewhere e {a} {b} t f h = inr (inr (inl (refl, record { is_declared = d; is_generator = g; directives = ds; number = k; name = name; parameters = ps; before = a; after = b; there = t; shape = f; written = h })))
    by (Function d g ds k name ps) p e t f h = absurd (cc e)
    by (Module ds) Elsewhere e {a} {b} t f g = inr (inr (inr (inl (record { directives = ds; before = a; after = b; there = t; shape = f; written = g }))))
    by (Module ds) p e t f g = absurd (cc e)
    by (Static k) Elsewhere e {a} {b} t f g = inr (inr (inr (inr (record { number = k; before = a; after = b; there = t; shape = f; written = g }))))
    by (Static k) p e t f g = absurd (cc e)

pub inside_loose : InsideIsLawful
inside_loose K W = loose_narrowed (InsideContracts W) (OfUnused W) K W.writable (either_holder W) (held_loose K W)
