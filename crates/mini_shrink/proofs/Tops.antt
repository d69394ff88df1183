-- A step in a script gives it no more top names, so a program shows no more.
use Rattle.std.specs.Prelude.{ℕ, ◌≡◌, refl, true, false, []}
use Rattle.std.proofs.Common.{ap, ◌∙◌, sym, true≢false}
use Rattle.mini_model.specs.declared.place.Position.{Position}
use Rattle.mini_model.specs.declared.place.Position.TheVariants.{Elsewhere}
use Rattle.mini_model.specs.declared.shape.Shape.{Shape}
use Rattle.mini_model.specs.declared.shape.Shape.TheVariants as shape
use Rattle.mini_model.specs.Tree.{Tree, count}
use Rattle.mini_model.specs.Position.{child_position}
use Rattle.mini_model.specs.Rewriting.{Step, here, inside}
use Rattle.mini_accept.specs.WellShaped.{one, a_program, filling, class_of, is_whole, is_strict_in, fill, IsWellShaped}
use Rattle.mini_laws.specs.declared.names.Use.TheVariants.{Read}
use Rattle.mini_laws.specs.Scopes.{use_of, opening_of, opened}
use Rattle.mini_laws.specs.Scoped.{Scoped}
use Rattle.mini_laws.specs.ScopeList.{by_symbol}
use Rattle.mini_laws.specs.Mentions.{is_among}
use Rattle.mini_laws.specs.Shared.{script_tops, module_names}
use Rattle.mini_laws.specs.Foreign.{imported_names}
use Rattle.mini_kept.specs.KeepsShapes.{KeepsShapes}
use Rattle.mini_kept.specs.KeepsFrames.{KeepsPlaces}
use Rattle.mini_kept.specs.KeepsNames.{is_used}
use Rattle.mini_kept.specs.Placed.{fits_place}
use Rattle.mini_kept.proofs.Bools.{right}
use Rattle.mini_kept.proofs.Initializers.{init_stays}
use Rattle.mini_kept.proofs.LooseScopes.{children_alike}
use Rattle.mini_kept.proofs.Members.{merges}
use Rattle.mini_kept.proofs.Placed.{placed_below}
use Rattle.mini_kept.proofs.Stepping.{all_stand, steps_keep}
use Rattle.mini_shrink.specs.ToldOn.{PlacesShow}
use Rattle.mini_shrink.proofs.Deeper.{among_within}
use Rattle.mini_shrink.proofs.Owns.{or_implied}
use Rattle.mini_shrink.proofs.PortSteps.{root_module, program_less}

module _ (R : Position → Tree → Tree → Type 0) (l : KeepsPlaces R) (shapes : KeepsShapes R) (s : ℕ) where
  step_tops : (p : Position) (t u : Tree) → Step R p t u → p ≡ Elsewhere → IsWellShaped t → Scoped Read [] t → is_among (by_symbol s) (script_tops u) ≡ true → is_among (by_symbol s) (script_tops t) ≡ true
  unfolding Scoped
  step_tops _ _ _ (here p n w r) q e a f = let m = root_module R l shapes s p n w r q e in absurd (true≢false (sym f ∙ ap (λ v. is_among (by_symbol s) (script_tops v)) m.after))
  step_tops _ _ _ (inside p (shape.Program false ds) xs n ts us z) q e a f =
      let h : Shape = shape.Program false ds in
      let π = child_position h p (count ts) in
      let below_fits = right (is_whole (class_of (one a_program)) h xs n ts) (fill (is_strict_in false h) (filling false (one a_program) h) ts) e in
      let placed = placed_below false (one a_program) h p (count ts) (ap (λ o. fits_place o (one a_program)) q) in
      let stand = all_stand false (one a_program) h xs n ts e p (count ts) Read (ap (λ o. is_used o Read) q) in
      let kept = steps_keep R l.names (init_stays R shapes) z (is_strict_in false h) (filling false (one a_program) h) placed below_fits in
      among_within s (opened Read h ts 0) (opened Read h us 0) (children_alike (opening_of Read h) π (use_of h Read) [] ts us (merges false (one a_program) h xs n ts e Read) kept stand a.1 0) f
  step_tops _ _ _ (inside p (shape.Program true ds) xs n ts us z) q e a f = absurd (true≢false (sym f))
  step_tops _ _ _ (inside p h xs n ts us z) q e a f = absurd (true≢false (sym f))

pub shows_less : (R : Position → Tree → Tree → Type 0) → PlacesShow R
shows_less R l shapes = record {
  shown = λ t u z e a s. or_implied (is_among (by_symbol s) (script_tops u)) (is_among (by_symbol s) (module_names u)) (is_among (by_symbol s) (script_tops t)) (is_among (by_symbol s) (module_names t)) (step_tops R l shapes s Elsewhere t u z refl e a) (program_less R l shapes s Elsewhere t u z refl e).1;
  lent = λ t u z e a s. or_implied (is_among (by_symbol s) (imported_names u)) (is_among (by_symbol s) (script_tops u)) (is_among (by_symbol s) (imported_names t)) (is_among (by_symbol s) (script_tops t)) (program_less R l shapes s Elsewhere t u z refl e).0 (step_tops R l shapes s Elsewhere t u z refl e a);
}
