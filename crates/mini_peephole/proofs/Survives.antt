-- What is left to rewrite doesn't depend on symbols and numbers.
use Rattle.std.proofs.Common.{inl, inr}
use Rattle.mini_model.specs.declared.place.Position.{Position}
use Rattle.mini_model.specs.declared.place.Position.TheVariants.{Elsewhere}
use Rattle.mini_model.specs.Tree.{Tree}
use Rattle.mini_model.specs.Rewriting.{Everywhere}
use Rattle.mini_laws.specs.Renaming.{TellsApart}
use Rattle.mini_laws.specs.Writable.{writable_in}
use Rattle.mini_kept.specs.Without.{BodySets}
use Rattle.mini_rows.specs.Switches.{Liberties}
use Rattle.mini_rows.proofs.InsideWeights.{inside_lighter}
use Rattle.mini_rows.proofs.PastInsideLawful.{past_inside_lighter}
use Rattle.mini_again.specs.Again.{Renaming, again}
use Rattle.mini_again.proofs.Bodies.{nothing_is_left_in_bodies}
use Rattle.mini_again.proofs.Everywhere.{nothing_is_left}
use Rattle.mini_again.proofs.Writable.{writable_survives}
use Rattle.mini_steady.specs.Told.{told_in}
use Rattle.mini_tree.specs.declared.options.CompressOptions.{CompressOptions}
use Rattle.mini_unused.specs.Allowed.{allowed_in}
use Rattle.mini_peephole.specs.Faithful.{switches, IsRewritten}
use Rattle.mini_peephole.specs.SteadyRows.{SteadyRewrites, IsSteadilySettled}
use Rattle.mini_peephole.proofs.Everywhere.{everywhere_with}
use Rattle.mini_peephole.proofs.Faith.{ReadsNothing, read_by_none}
use Rattle.mini_peephole.proofs.ToldAgain.{told_again}

-- ---- a node that no row reads which rests on bodies is settled

settled_of : (S : BodySets) (W : Liberties) (p : Position) (n : Tree) → ReadsNothing (SteadyRewrites S W) p n → IsSteadilySettled S W p n
settled_of S W p n f = (
  (
    (((λ w c. f w (inl (inl (inl (inl (inl c))))), λ w c. f w (inl (inl (inl (inl (inr c)))))), λ w c. f w (inl (inl (inl (inr c))))), λ w c. f w (inl (inl (inr c)))),
    (((λ w c. f w (inl (inr (inl (inl (inl c))))), λ w c. f w (inl (inr (inl (inl (inr c)))))), λ w c. f w (inl (inr (inl (inr c))))), λ w c. f w (inl (inr (inr c)))),
  ),
  (
    (
      ((λ w c. f w (inr (inl (inl (inl (inl c))))), λ w c. f w (inr (inl (inl (inl (inr c)))))), (λ w c. f w (inr (inl (inl (inr (inl c))))), λ w c. f w (inr (inl (inl (inr (inr c))))))),
      (((λ w c. f w (inr (inl (inr (inl (inl (inl c)))))), λ w c. f w (inr (inl (inr (inl (inl (inr c))))))), λ w c. f w (inr (inl (inr (inl (inr c)))))), λ w c. f w (inr (inl (inr (inr c))))),
    ),
    (λ w r e. f w (inr (inr (inl (record { row = r; stands = e; lighter = inside_lighter W p n w r e })))), λ w r e. f w (inr (inr (inr (record { row = r; stands = e; lighter = past_inside_lighter S W p n w r e }))))),
  ),
)

-- ---- nothing is left in a program, if nothing is in the program with other symbols and numbers

module _ (ρ : Renaming) (far : TellsApart ρ.number) (o : CompressOptions) (t : Tree) where
  abbrev u : Tree
  u = again ρ t

  steady_survives : Everywhere (IsSteadilySettled (told_in u) (allowed_in o u)) Elsewhere u → Everywhere (IsSteadilySettled (told_in t) (allowed_in o t)) Elsewhere t
  steady_survives f =
      let settled = IsSteadilySettled (told_in u) (allowed_in o u) in
      let unread : Everywhere (ReadsNothing (SteadyRewrites (told_in u) (allowed_in o u))) Elsewhere u = everywhere_with settled settled (ReadsNothing (SteadyRewrites (told_in u) (allowed_in o u))) (λ p n x y. read_by_none (told_in u) (allowed_in o u) p n x) Elsewhere u f f in
      let here : Everywhere (ReadsNothing (SteadyRewrites (told_in t) (allowed_in o t))) Elsewhere t = nothing_is_left_in_bodies ρ (told_in t) (told_in u) (told_again ρ far t) (switches o) (writable_in t) (writable_in u) (writable_survives ρ t) Elsewhere t unread in
      everywhere_with (ReadsNothing (SteadyRewrites (told_in t) (allowed_in o t))) (ReadsNothing (SteadyRewrites (told_in t) (allowed_in o t))) (IsSteadilySettled (told_in t) (allowed_in o t)) (λ p n x y. settled_of (told_in t) (allowed_in o t) p n x) Elsewhere t here here

  pub rewritten_survives : IsRewritten o u → IsRewritten o t
  rewritten_survives (plain, steady) = (nothing_is_left ρ (switches o) (writable_in t) (writable_in u) (writable_survives ρ t) Elsewhere t plain, steady_survives steady)
