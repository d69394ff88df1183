-- What is known of the bodies of a program is known of them after a step of a relation that reads
-- less; and it is so by the definitions of Shared and Foreign.
use Rattle.std.specs.Prelude.{ℕ, ◌≡◌, refl, Bool, true, false, not, ◌&&◌}
use Rattle.std.proofs.Common.{sym, true≢false}
use Rattle.std.proofs.lemmas.Bool.{and_parts}
use Rattle.mini_model.specs.declared.place.Position.{Position}
use Rattle.mini_model.specs.declared.place.Position.TheVariants.{Elsewhere}
use Rattle.mini_model.specs.declared.shape.Shape.{Shape}
use Rattle.mini_model.specs.Tree.{Tree}
use Rattle.mini_model.specs.Rewriting.{Step, Reaches, done, more}
use Rattle.mini_laws.specs.Bodies.{bodies_in}
use Rattle.mini_laws.specs.Foreign.{is_declared_in, is_foreign, lexical_variables}
use Rattle.mini_laws.specs.Mentions.{is_among}
use Rattle.mini_laws.specs.ScopeList.{by_symbol}
use Rattle.mini_laws.specs.Value.{Variable, Declared, Global, VariableSet}
use Rattle.mini_kept.specs.KeepsFrames.{KeepsPlaces}
use Rattle.mini_kept.specs.KeepsShapes.{KeepsShapes}
use Rattle.mini_kept.specs.Loosely.{LawfulUnder, undeclared, ProgramIsKeptUnder}
use Rattle.mini_kept.specs.Rooted.{LawfulRooted}
use Rattle.mini_kept.specs.Without.{BodySets, Within}
use Rattle.mini_kept.proofs.Rooted.{rooted_keeps, steady_is_rooted}
use Rattle.mini_shrink.specs.Exact.{exactly_of}
use Rattle.mini_shrink.specs.Facts.{ReadsLess}
use Rattle.mini_shrink.specs.ToldOn.{AskNoMore}
use Rattle.mini_shrink.proofs.Exact.{exact_is_so, exactly_within}
use Rattle.mini_shrink.proofs.Either.{false_not}
use Rattle.mini_shrink.proofs.ToldOn.{told_on}
use Rattle.mini_shrink.proofs.Tops.{shows_less}
use Rattle.mini_shrink.proofs.Within.{asks_less}
use Rattle.mini_shrink.specs.SameForeign.{DeclaresOnce}
use Rattle.mini_peephole.specs.AnyPasses.{KeepsKnown}
use Rattle.mini_peephole.specs.Environments.{steady_in}

-- ---- after steps

module _ (Q : Position → Tree → Tree → Type 0) (places : KeepsPlaces Q) (shapes : KeepsShapes Q) (reads : ReadsLess Q) where
  known_after : (t u : Tree) → Reaches Q Elsewhere t u → DeclaresOnce t → AskNoMore t u → (b : ℕ) → Within (exactly_of t b) (exactly_of u b)
  known_after t u r e asks b =
      let shows = shows_less Q places shapes in
      exactly_within Q places.names shapes reads shows t u r e.shaped e.scoped e.distinct b (told_on Q places.names shapes reads shows t u r e.shaped e.scoped e.distinct asks b)

module _ (K : Shape → Bool) (W : VariableSet) (S : BodySets) where
  -- of a lawful relation whose steps are steps of one that keeps places and shapes and reads less
  pub known_by_less : (R Q : Position → Tree → Tree → Type 0) → LawfulRooted K W S R → ((t u : Tree) → Step R Elsewhere t u → Step Q Elsewhere t u) → KeepsPlaces Q → KeepsShapes Q → ReadsLess Q → KeepsKnown exactly_of R
  known_by_less R Q l of places shapes reads t u s e b =
      let kept : ProgramIsKeptUnder K W S t u = rooted_keeps R K W S l t u (more Elsewhere t u u s (done Elsewhere u)) e.shaped in
      let bodies = kept.bodies e.scoped e.distinct in
      known_after Q places shapes reads t u (more Elsewhere t u u (of t u s) (done Elsewhere u)) e (λ n f. asks_less W (undeclared u) S n (bodies_in t) (bodies_in u) bodies f) b

  pub less_is_known : (R : Position → Tree → Tree → Type 0) → LawfulUnder K W S R → ReadsLess R → KeepsKnown exactly_of R
  less_is_known R l reads = known_by_less R R (steady_is_rooted R K W S l) (λ t u s. s) l.places l.shapes reads

-- ---- it is so

-- what is nowhere lexical the body doesn't declare as lexical
not_both : (l d : Bool) → not l ≡ true → not (l && d) ≡ true
not_both false d e = refl
not_both true d e = absurd (true≢false (sym e))

all_so : (g h : Bool) → g ≡ true → h ≡ true → (g && h) ≡ true
all_so true h e f = f
all_so false h e f = absurd (true≢false (sym e))

module _ (t : Tree) (e : DeclaresOnce t) (b : ℕ) where
  native : (s : ℕ) → (exactly_of t b).steady (Declared s) ≡ true → not (is_foreign t b (by_symbol s)) ≡ true
  native s h = false_not (is_foreign t b (by_symbol s)) ((exact_is_so t b s e.shaped e.scoped).steady h)

  steady_so : (x : Variable) → (exactly_of t b).steady x ≡ true → (steady_in t b).steady x ≡ true
  steady_so (Declared s) h = native s h
  steady_so (Global s) h = absurd (true≢false (sym h))

  unshared_so : (x : Variable) → (exactly_of t b).unshared x ≡ true → (steady_in t b).unshared x ≡ true
  unshared_so (Declared s) h = h
  unshared_so (Global s) h = absurd (true≢false (sym h))

  initial_so : (x : Variable) → (exactly_of t b).initial x ≡ true → (steady_in t b).initial x ≡ true
  initial_so (Declared s) h =
      let lexical = is_among (by_symbol s) (lexical_variables false t) in
      let (steady, nowhere) = and_parts _ (not lexical) h in
      all_so (not (is_foreign t b (by_symbol s))) (not (lexical && is_declared_in t b (by_symbol s))) (native s steady) (not_both lexical (is_declared_in t b (by_symbol s)) nowhere)
  initial_so (Global s) h = absurd (true≢false (sym h))

  pub known_is_so : Within (exactly_of t b) (steady_in t b)
  known_is_so = record { steady = steady_so; unshared = unshared_so; initial = initial_so; has_this = λ h. h }
