-- What is known of the bodies of a program is known of them after each step of the rules.
use Rattle.std.specs.Prelude.{Bool}
use Rattle.std.proofs.Common.{inl, inr}
use Rattle.mini_model.specs.declared.place.Position.{Position}
use Rattle.mini_model.specs.declared.shape.Shape.{Shape}
use Rattle.mini_model.specs.Tree.{Tree}
use Rattle.mini_laws.specs.Value.{VariableSet}
use Rattle.mini_kept.specs.KeepsFrames.{KeepsPlaces}
use Rattle.mini_kept.specs.KeepsShapes.{KeepsShapes}
use Rattle.mini_kept.specs.Without.{BodySets, none_steady}
use Rattle.mini_kept.proofs.Loosely.{loose_is_steady}
use Rattle.mini_kept.proofs.Rooted.{step_either, step_on}
use Rattle.mini_tree.specs.Rule.{Either}
use Rattle.mini_rows.specs.Editions.{SteadyRowsIn}
use Rattle.mini_rows.specs.Inside.{InsideContracts}
use Rattle.mini_rows.specs.PastInside.{PastInside}
use Rattle.mini_rows.specs.PastModules.{PastModule}
use Rattle.mini_rows.specs.PastStatics.{PastStatic}
use Rattle.mini_rows.specs.Past.{PastFunction}
use Rattle.mini_rows.specs.PastArrows.{PastArrow}
use Rattle.mini_rows.specs.PastBlocks.{PastBlocks}
use Rattle.mini_rows.specs.Steady.{LexicalRows, SteadyRow}
use Rattle.mini_rows.specs.Switches.{Liberties}
use Rattle.mini_rows.proofs.InsideLawful.{inside_loose}
use Rattle.mini_rows.proofs.OwnProgramLawful.{steady_places, lexical_places}
use Rattle.mini_rows.proofs.PastArrowLawful.{arrows_lawful}
use Rattle.mini_rows.proofs.PastHolders.{FunctionsBehind, ArrowsBehind, ModulesBehind, StaticsBehind, modules_behind, statics_behind}
use Rattle.mini_rows.proofs.PastInsideLawful.{Holds, held, past_inside_is_lawful}
use Rattle.mini_rows.proofs.PastLawful.{functions_behind_lawful}
use Rattle.mini_rows.proofs.PastModuleLawful.{module_places, module_shapes, past_modules_are_lawful}
use Rattle.mini_rows.proofs.PastStaticLawful.{static_places, static_shapes, past_statics_are_lawful}
use Rattle.mini_past.proofs.Lawful.{past_code_lawful}
use Rattle.mini_less.proofs.InsideLess.{past_inside_reads_less}
use Rattle.mini_less.proofs.InsideUnused.{inside_reads_less}
use Rattle.mini_less.proofs.PastBlocksLess.{blocks_shapes, block_rows_read_less}
use Rattle.mini_less.proofs.PastLess.{past_read_less}
use Rattle.mini_peephole.specs.AnyPasses.{KeepsKnown}
use Rattle.mini_peephole.specs.SteadyRows.{AnyCode, PastCode, InsideCode, SteadyRewrites}
use Rattle.mini_peephole.proofs.CodeLawful.{in_edition, steady_code, lexical_code, block_code}
use Rattle.mini_peephole.proofs.Known.{known_by_less, less_is_known}
use Rattle.mini_peephole.proofs.Own.{code_known, steady_shapes, lexical_shapes, block_places}
use Rattle.mini_peephole.proofs.Placing.{places_join, shapes_join, places_narrowed, shapes_narrowed}
use Rattle.mini_less.proofs.Joined.{reads_less_joins}
use Rattle.mini_less.proofs.LexicalLess.{lexical_names_read_less}
use Rattle.mini_less.proofs.OwnLess.{steady_rows_read_less}
use Rattle.mini_shrink.specs.Exact.{exactly_of}

-- of two relations that keep it
pub known_join : (R Q : Position → Tree → Tree → Type 0) → KeepsKnown exactly_of R → KeepsKnown exactly_of Q → KeepsKnown exactly_of (Either R Q)
known_join R Q f g t u s e b = elim (step_either R Q s) [ inl x ↦ f t u x e b | inr y ↦ g t u y e b ]

pub known_narrowed : (R Q : Position → Tree → Tree → Type 0) → ((p : Position) (n w : Tree) → R p n w → Q p n w) → KeepsKnown exactly_of Q → KeepsKnown exactly_of R
known_narrowed R Q f g t u s e b = g t u (step_on f s) e b

module _ (K : Shape → Bool) (S : BodySets) (L : Liberties) where
  abbrev W : VariableSet
  W = L.writable

  -- ---- in the own code of whatever has a body

  -- those of members, where the edition has them
  abbrev Members : Position → Tree → Tree → Type 0
  Members = AnyCode (SteadyRowsIn L.switches.edition) S

  own_known : KeepsKnown exactly_of (Either Members (AnyCode LexicalRows S))
  own_known =
      known_join Members (AnyCode LexicalRows S) (known_narrowed Members (AnyCode SteadyRow S) (in_edition L.switches.edition S) (code_known SteadyRow S K W (steady_code K W S) steady_places steady_shapes steady_rows_read_less))
      (code_known LexicalRows S K W (lexical_code K W S) lexical_places lexical_shapes lexical_names_read_less)

  -- ---- of names that are read past others

  code_past : KeepsKnown exactly_of (Either (PastFunction S L) (PastArrow S L))
  code_past = less_is_known K W S (Either (PastFunction S L) (PastArrow S L)) (past_code_lawful K L S) (reads_less_joins (PastFunction S L) (PastArrow S L) (past_read_less.functions S L) (past_read_less.arrows S L))

  modules_past : KeepsKnown exactly_of (PastModule S L)
  modules_past =
      let R = PastModule S L in
      let Q = ModulesBehind S W in
      known_by_less K W S R R (past_modules_are_lawful K L S) (λ t u s. s) (places_narrowed R Q (modules_behind S L) (module_places S W)) (shapes_narrowed R Q (modules_behind S L) (module_shapes S W)) (past_read_less.modules S L)

  statics_past : KeepsKnown exactly_of (PastStatic S L)
  statics_past =
      let R = PastStatic S L in
      let Q = StaticsBehind S W in
      known_by_less K W S R R (past_statics_are_lawful K L S) (λ t u s. s) (places_narrowed R Q (statics_behind S L) (static_places S W)) (shapes_narrowed R Q (statics_behind S L) (static_shapes S W)) (past_read_less.statics S L)

  blocks_past : KeepsKnown exactly_of (AnyCode (PastBlocks L.switches) S)
  blocks_past = code_known (PastBlocks L.switches) S K W (block_code L.switches K W S) (block_places L.switches) (blocks_shapes L.switches) (block_rows_read_less L.switches)

  past_known : KeepsKnown exactly_of (PastCode S L)
  past_known =
      let Code = Either (PastFunction S L) (PastArrow S L) in
      let Others = Either (PastModule S L) (PastStatic S L) in
      known_join (Either Code Others) (AnyCode (PastBlocks L.switches) S) (known_join Code Others code_past (known_join (PastModule S L) (PastStatic S L) modules_past statics_past)) blocks_past

  -- ---- of a `var` further inside a body

  abbrev Functions : Position → Tree → Tree → Type 0
  Functions = FunctionsBehind S W

  abbrev Arrows : Position → Tree → Tree → Type 0
  Arrows = ArrowsBehind S W

  abbrev Modules : Position → Tree → Tree → Type 0
  Modules = ModulesBehind S W

  abbrev Statics : Position → Tree → Tree → Type 0
  Statics = StaticsBehind S W

  holds_places : KeepsPlaces (Holds S L)
  holds_places =
      places_join (Either Functions Arrows) (Either Modules Statics) (places_join Functions Arrows (functions_behind_lawful S W K).places (arrows_lawful S W K).places)
      (places_join Modules Statics (module_places S W) (static_places S W))

  holds_shapes : KeepsShapes (Holds S L)
  holds_shapes =
      shapes_join (Either Functions Arrows) (Either Modules Statics) (shapes_join Functions Arrows (functions_behind_lawful S W K).shapes (arrows_lawful S W K).shapes)
      (shapes_join Modules Statics (module_shapes S W) (static_shapes S W))

  inside_past : KeepsKnown exactly_of (PastInside S L)
  inside_past =
      let R = PastInside S L in
      known_by_less K W S R R (past_inside_is_lawful K L S) (λ t u s. s) (places_narrowed R (Holds S L) (held S L) holds_places) (shapes_narrowed R (Holds S L) (held S L) holds_shapes) (past_inside_reads_less S L)

  inside_known : KeepsKnown exactly_of (InsideCode S L)
  inside_known =
      known_join (InsideContracts L) (PastInside S L) (less_is_known K W none_steady (InsideContracts L) (loose_is_steady (InsideContracts L) K W none_steady (inside_loose K L)) (inside_reads_less L)) inside_past

  -- ---- all that rest on what is known of bodies

  pub steady_known : KeepsKnown exactly_of (SteadyRewrites S L)
  steady_known = known_join (Either Members (AnyCode LexicalRows S)) (Either (PastCode S L) (InsideCode S L)) own_known (known_join (PastCode S L) (InsideCode S L) past_known inside_known)
