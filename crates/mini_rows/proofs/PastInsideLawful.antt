-- What the row of a `var` further inside a body that goes past names that keep their value writes is lighter, and keeps the program where that is so
-- which is known of the body.
use Rattle.std.specs.Prelude.{◌+◌, ◌≤◌, ◌≡◌, ◌⊎◌, refl, Bool, true}
use Rattle.std.proofs.Common.{ap, ◌∙◌, sym, inl, inr, arith}
use Rattle.mini_model.specs.declared.place.Position.{Position}
use Rattle.mini_model.specs.declared.place.Position.TheVariants.{Expr, Stmt, Method, Elsewhere}
use Rattle.mini_model.specs.declared.shape.Shape.{Shape}
use Rattle.mini_model.specs.Tree.{Tree, Trees, none, ◌▸◌, absent, listed}
use Rattle.mini_model.specs.Paths.{append}
use Rattle.mini_model.specs.Weight.{outline}
use Rattle.mini_laws.specs.Path.{plug}
use Rattle.mini_kept.specs.Rooted.{LawfulRooted}
use Rattle.mini_kept.specs.Without.{Assured, BodySets}
use Rattle.mini_kept.proofs.Loosely.{steady_join}
use Rattle.mini_kept.proofs.Rooted.{steady_is_rooted, rooted_join, rooted_narrowed}
use Rattle.mini_node.specs.Children.{number_of}
use Rattle.mini_rows.specs.declared.inside.Way.TheVariants as way
use Rattle.mini_rows.specs.Declarations.{declarator}
use Rattle.mini_rows.specs.Inside.{Holder, Arrow, Function, Module, Static, over, stands_at, EndsLighten}
use Rattle.mini_rows.specs.Lists.{declaration}
use Rattle.mini_rows.specs.Past.{PastRow}
use Rattle.mini_rows.specs.PastInside.{known_below, past_ends, PastInsideRow, PastInside, PastInsideLightens, PastInsideIsLawful}
use Rattle.mini_rows.specs.Unused.{resolved, declared_among, declared_left, put_first}
use Rattle.mini_rows.specs.Switches.{Liberties}
use Rattle.mini_rows.proofs.InsideLawful.{front, in_front}
use Rattle.mini_rows.proofs.InsideWeights.{Falls, one_outline, two_outlines, lists_fall, one_falls, heading_falls, held_lightens, holders_lighten}
use Rattle.mini_rows.proofs.ListWeights.{total, list_is}
use Rattle.mini_rows.proofs.NextEnds.{next_simple, next_simple_left, next_lighter}
use Rattle.mini_rows.proofs.PastArrowLawful.{arrows_lawful}
use Rattle.mini_rows.proofs.PastHolders.{FunctionsBehind, ArrowsBehind, ModulesBehind, StaticsBehind}
use Rattle.mini_rows.proofs.PastInsideKept.{one_next, inside_behind}
use Rattle.mini_rows.proofs.PastLawful.{functions_behind_lawful, list_lighter}
use Rattle.mini_rows.proofs.PastModuleLawful.{modules_lawful}
use Rattle.mini_rows.proofs.PastStaticLawful.{statics_lawful}
use Rattle.mini_rows.proofs.PastStretches.{Behind}

-- ---- lighter

same_outline : (V : Assured) (W : Liberties) (o : Tree) (ts us : Trees) → PastRow V W o ts us → outline (listed ts) ≡ outline (listed us)
same_outline V W o ts us (inl r) =
    let x = resolved r.spelling r.symbol in
    ap (λ vs. outline (listed vs)) r.shape ∙ two_outlines r.before r.after (declared_among r.kind x r.first r.init none) r.head (declared_left r.kind r.first) (put_first x r.init r.head) ∙ sym (ap (λ vs. outline (listed vs)) r.written)
same_outline V W o ts us (inr r) =
    let x = resolved r.spelling r.symbol in
    ap (λ vs. outline (listed vs)) r.shape
    ∙ one_outline r.before r.after (declared_among r.kind x r.first r.init (declarator r.binds r.value ▸ r.last)) (declaration r.kind (append r.first (declarator r.binds (put_first x r.init r.value) ▸ r.last))) refl
    ∙ sym (ap (λ vs. outline (listed vs)) r.written)

total_falls : (S : BodySets) (W : Liberties) (V : Assured) (o : Tree) (ts us : Trees) → PastRow V W o ts us → total us + 1 ≤ total ts
total_falls S W V o ts us r = let less = list_lighter S W V o ts us r in omega (arith, less, list_is ts, list_is us)

past_falls : (S : BodySets) (W : Liberties) → Falls (past_ends S W)
past_falls S W way.Statements (o ▸ us) a b r =
    let V = known_below us (S (number_of o)) in
    lists_fall r.list r.left (same_outline V W (listed (o ▸ us)) r.list r.left r.row) (total_falls S W V (listed (o ▸ us)) r.list r.left r.row) a b r.shape r.written
past_falls S W way.Held (o ▸ us) a b r =
    let V = known_below us (S (number_of o)) in
    let t = one_next V W (listed (o ▸ us)) a b r.row r.var in
    one_falls a b (next_simple t.spelling t.symbol a b t.next) (next_simple_left t.spelling t.symbol a b t.next) (total_falls S W V (listed (o ▸ us)) (a ▸ none) (b ▸ none) r.row)
past_falls S W way.Head (o ▸ us) a b r =
    let t = one_next (known_below us (S (number_of o))) W (listed (o ▸ us)) a b r.row r.var in
    heading_falls a b (next_lighter t.spelling t.symbol a b t.next)
past_falls S W z none a b r = absurd r
past_falls S W z (o ▸ us) a b r = absurd r

pub past_inside_lighter : (S : BodySets) (W : Liberties) → EndsLighten (past_ends S W)
past_inside_lighter S W = held_lightens (past_ends S W) (past_falls S W)

pub past_inside_lightens : PastInsideLightens
past_inside_lightens S W = holders_lighten (past_ends S W) (past_falls S W)

-- ---- whatever holds the list

module _ (S : BodySets) (W : Liberties) where
  abbrev pub Holds : Position → Tree → Tree → Type 0
  Holds p n w = (FunctionsBehind S W.writable p n w ⊎ ArrowsBehind S W.writable p n w) ⊎ (ModulesBehind S W.writable p n w ⊎ StaticsBehind S W.writable p n w)

  body_behind : (n w : Tree) (r : PastInsideRow S W n w) → Behind (S (number_of (over r.holder absent))) W.writable (front r.holder) (append r.first (plug r.place r.read ▸ r.last)) (append r.first (plug r.place r.put ▸ r.last))
  body_behind n w r = inside_behind S W (over r.holder absent) r.first r.place r.last r.end r.read r.put r.row r.there (front r.holder) (λ y. in_front y r.holder)

  held_by : (o : Holder) (p : Position) → stands_at o p ≡ true → {a b : Trees} {n w : Tree} → Behind (S (number_of (over o absent))) W.writable (front o) a b → n ≡ over o (listed a) → w ≡ over o (listed b) → Holds p n w
  held_by (Arrow ds k ps) (Expr s) e {a} {b} t f g = inl (inr (record { directives = ds; number = k; parameters = ps; before = a; after = b; there = t; shape = f; written = g }))
  held_by (Arrow ds k ps) p e t f g = absurd (cc e)
  held_by (Function d y ds k name ps) (Stmt q) e {a} {b} t f g = inl (inl (record { is_declared = d; is_generator = y; directives = ds; number = k; name = name; parameters = ps; before = a; after = b; there = t; shape = f; written = g }))
  held_by (Function d y ds k name ps) (Expr q) e {a} {b} t f g = inl (inl (record { is_declared = d; is_generator = y; directives = ds; number = k; name = name; parameters = ps; before = a; after = b; there = t; shape = f; written = g }))
  held_by (Function d y ds k name ps) Method e {a} {b} t f g = inl (inl (record { is_declared = d; is_generator = y; directives = ds; number = k; name = name; parameters = ps; before = a; after = b; there = t; shape = f; written = g }))
  held_by (Function d y ds k name ps) Elsewhere e {a} {b} t f g = inl (inl (record { is_declared = d; is_generator = y; directives = ds; number = k; name = name; parameters = ps; before = a; after = b; there = t; shape = f; written = g }))
  held_by (Function d y ds k name ps) p e t f g = absurd (cc e)
  held_by (Module ds) Elsewhere e {a} {b} t f g = inr (inl (record { directives = ds; before = a; after = b; there = t; shape = f; written = g }))
  held_by (Module ds) p e t f g = absurd (cc e)
  held_by (Static k) Elsewhere e {a} {b} t f g = inr (inr (record { number = k; before = a; after = b; there = t; shape = f; written = g }))
  held_by (Static k) p e t f g = absurd (cc e)

  pub held : (p : Position) (n w : Tree) → PastInside S W p n w → Holds p n w
  held p n w c = held_by c.row.holder p c.stands (body_behind n w c.row) c.row.shape c.row.written

  pub holders_lawful : (K : Shape → Bool) → LawfulRooted K W.writable S (PastInside S W)
  holders_lawful K =
      let V = W.writable in
      let F = FunctionsBehind S V in
      let A = ArrowsBehind S V in
      rooted_narrowed (PastInside S W) Holds K V S held
      (rooted_join (λ p n w. F p n w ⊎ A p n w) (λ p n w. ModulesBehind S V p n w ⊎ StaticsBehind S V p n w) K V S
      (steady_is_rooted (λ p n w. F p n w ⊎ A p n w) K V S (steady_join F A K V S (functions_behind_lawful S V K) (arrows_lawful S V K)))
      (rooted_join (ModulesBehind S V) (StaticsBehind S V) K V S (modules_lawful S V K) (statics_lawful S V K)))

pub past_inside_is_lawful : PastInsideIsLawful
past_inside_is_lawful K W S = holders_lawful S W K
