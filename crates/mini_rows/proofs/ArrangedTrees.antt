-- What two trees of the same parts have alike.
use Rattle.std.specs.Prelude.{ℕ, ◌≤◌, ◌≡◌, refl, ◌||◌, Bool, true, false, [], Contains, Option, None}
use Rattle.std.proofs.Common.{ap, arith}
use Rattle.mini_model.specs.declared.name.Name.{Name}
use Rattle.mini_model.specs.declared.name.SymbolId.{SymbolId}
use Rattle.mini_model.specs.Tree.{Tree, child_or_absent}
use Rattle.mini_laws.specs.declared.names.Use.{Use}
use Rattle.mini_laws.specs.declared.names.Targets.{Targets}
use Rattle.mini_laws.specs.DeclaredNames.{has_inner}
use Rattle.mini_laws.specs.Resolved.{Environment}
use Rattle.mini_laws.specs.Scoped.{Scoped}
use Rattle.mini_laws.specs.Symbols.{declared as declared_in, times}
use Rattle.mini_laws.specs.Early.{Path, early_names, early_jumps}
use Rattle.mini_laws.specs.Value.{Variable}
use Rattle.mini_laws.specs.Fixity.{fixed_by}
use Rattle.mini_laws.specs.Bodies.{Around, bodies}
use Rattle.mini_kept.specs.AlikeBodies.{BodiesKept}
use Rattle.mini_kept.specs.Carried.{numbers}
use Rattle.mini_kept.specs.Declaring.{declared}
use Rattle.mini_kept.specs.Frames.{frames, FramesKept}
use Rattle.mini_kept.specs.KeepsNames.{is_statement_use, count_of}
use Rattle.mini_kept.proofs.Anywhere.{once_anywhere, targets_anywhere}
use Rattle.mini_kept.proofs.BodyLists.{kept_itself}
use Rattle.mini_rows.specs.Sketches.{Sketch, Parts, filled, Asked, use_by, Leap, is_among, parts_of, Free, is_rearranged, stands_well}
use Rattle.mini_rows.specs.Arranged.{AllVanish, AreLoose}
use Rattle.mini_rows.proofs.Arranging.{Any, Each, Local, to_parts, of_parts, sum_of}
use Rattle.mini_rows.proofs.ArrangedNames.{ScopedAs, scoped_local, symbol_times, symbols_summed, number_times, numbers_summed, inner_local, once_local, HasTarget, aimed_local}
use Rattle.mini_rows.proofs.ArrangedBodies.{quiet, bodies_local, frames_local, declares_local, rank, by_rank, fixed_local}
use Rattle.mini_rows.proofs.ArrangedValues.{Valued}
use Rattle.mini_rows.proofs.ArrangedMoves.{vanishes_among, forth, sum_forth, valued_there, anyhow_forth, anyhow_over}
use Rattle.mini_rows.proofs.ArrangedPlain.{is_plain}
use Rattle.mini_rows.proofs.ArrangedUses.{scoped_moves, symbols_moves}

pub both_same : (x y : Bool) → (y || x) ≡ x → (x || y) ≡ y → y ≡ x
both_same true true e f = refl
both_same true false e f = absurd (cc f)
both_same false true e f = absurd (cc e)
both_same false false e f = refl

pub itself : (b : Bool) → (b || b) ≡ b
itself true = refl
itself false = refl

module _ (f : Free) (ps : Parts) (u : AreLoose ps f) (c : Asked) (s r : Sketch) (sn : stands_well f c s ≡ true) (sr : stands_well f c r ≡ true) (z : is_rearranged f (parts_of c s) (parts_of c r) ≡ true) where
  abbrev n : Tree
  n = filled ps s

  abbrev w : Tree
  w = filled ps r

  across : (J : Leap → Type 0) (P : Tree → Type 0) → Local J (λ d t. P t) → P n → P w
  across J P l a = of_parts J (λ d t. P t) l ps c r (is_plain f ps u c r sr) (anyhow_forth P f ps u (parts_of c s) (parts_of c r) z J (to_parts J (λ d t. P t) l ps c s (is_plain f ps u c s sn) a))

  over : (P : Tree → Type 0) → Local Any (λ d t. P t) → ((i : ℕ) → is_among f.dropped i ≡ true → P (child_or_absent ps.trees i)) → P w → P n
  over P l k a = of_parts Any (λ d t. P t) l ps c s (is_plain f ps u c s sn) (anyhow_over P f ps u (parts_of c s) (parts_of c r) z k (to_parts Any (λ d t. P t) l ps c r (is_plain f ps u c r sr) a))

  -- where what is dropped has no inner expression
  pub same_inner : AllVanish ps.trees f.dropped → has_inner w ≡ has_inner n
  same_inner g =
      both_same (has_inner n) (has_inner w) (across Any (λ t. (has_inner t || has_inner n) ≡ has_inner n) (inner_local (has_inner n)) (itself (has_inner n)))
      (over (λ t. (has_inner t || has_inner w) ≡ has_inner w) (inner_local (has_inner w)) (λ i e. ap (λ b. b || has_inner w) ((vanishes_among f ps g i e).inner)) (itself (has_inner w)))

  -- where what is dropped declares nothing that can't be written
  pub same_fixed : AllVanish ps.trees f.dropped → (y : Variable) → fixed_by n y ≡ fixed_by w y
  same_fixed g y =
      by_rank (fixed_by n y) (fixed_by w y) (over (λ t. rank (fixed_by t y) ≤ rank (fixed_by w y)) (fixed_local y (rank (fixed_by w y))) vanished (omega arith))
      (across Any (λ t. rank (fixed_by t y) ≤ rank (fixed_by n y)) (fixed_local y (rank (fixed_by n y))) (omega arith))
    where
      vanished : (i : ℕ) → is_among f.dropped i ≡ true → rank (fixed_by (child_or_absent ps.trees i) y) ≤ rank (fixed_by w y)
      vanished i e = let z : rank (fixed_by (child_or_absent ps.trees i) y) ≡ 0 = ap rank ((vanishes_among f ps g i e).fixed y) in omega (arith, z)

  pub same_declared : (x : Name) → Contains (declared w) x → Contains (declared n) x
  same_declared = across Any (λ t. (x : Name) → Contains (declared t) x → Contains (declared n) x) (declares_local (declared n)) (λ x k. k)

  pub same_frames : FramesKept (frames None n) (frames None w)
  same_frames = across Any (λ t. FramesKept (frames None n) (frames None t)) (frames_local (frames None n)) (λ x k. k)

  pub same_bodies : (a : Around) → BodiesKept (bodies (quiet a) n) (bodies (quiet a) w)
  same_bodies a = across Any (λ t. BodiesKept (bodies (quiet a) n) (bodies (quiet a) t)) (bodies_local (bodies (quiet a) n) a) (kept_itself (bodies (quiet a) n))

  pub same_once : (p : Path) → early_names p n ≡ [] → early_names p w ≡ []
  same_once p k = once_anywhere [] p w (across Any (λ t. early_names [] t ≡ []) once_local (once_anywhere p [] n k))

  pub same_targets : (g : Targets) (p : Path) → early_jumps g p n ≡ [] → early_jumps g p w ≡ []
  same_targets g p k = targets_anywhere g [] p w (across (HasTarget g) (λ t. early_jumps g [] t ≡ []) (aimed_local g) (targets_anywhere g p [] n k))

  module _ (v : Each Any Valued ps (parts_of c s)) where
    pub parts_valued : Each Any Valued ps (parts_of c r)
    parts_valued = valued_there f ps u (parts_of c s) (parts_of c r) z v

    pub same_scoped : (x : Use) → is_statement_use x ≡ true → (env : Environment) → Scoped (use_by x c) env n → Scoped (use_by x c) env w
    same_scoped x y env a =
        of_parts Any (ScopedAs x env) (scoped_local x env) ps c r (is_plain f ps u c r sr) (forth f ps u (parts_of c s) (parts_of c r) z Any (ScopedAs x env) (scoped_moves x y env) v (to_parts Any (ScopedAs x env) (scoped_local x env) ps c s (is_plain f ps u c s sn) a))

    pub same_symbols : (x : Use) (y : Option SymbolId) → times y (declared_in (use_by x c) w) ≤ times y (declared_in (use_by x c) n)
    same_symbols x y =
        let m = symbol_times x y in
        omega (arith, sum_of m (symbols_summed x y) ps c s (is_plain f ps u c s sn), sum_of m (symbols_summed x y) ps c r (is_plain f ps u c r sr), sum_forth f ps u m (symbols_moves x y) (parts_of c s) (parts_of c r) z v)

    pub same_numbers : (k : ℕ) → count_of k (numbers w) ≤ count_of k (numbers n)
    same_numbers k =
        let m = number_times k in
        omega (arith, sum_of m (numbers_summed k) ps c s (is_plain f ps u c s sn), sum_of m (numbers_summed k) ps c r (is_plain f ps u c r sr), sum_forth f ps u m (λ a b x y t e i. refl) (parts_of c s) (parts_of c r) z v)
