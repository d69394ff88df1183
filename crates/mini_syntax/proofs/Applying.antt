-- The rule makes what the rows contract, and rests where no row reads the expression.
use Rattle.std.proofs.Common.{◌≡◌, Bool, true, false, Option, Some, None, refl, sym, ap, subst, ◌∙◌}
use Rattle.std.specs.Prelude.{is_some, unwrap_or}
use Rattle.mini_model.specs.declared.place.Position.TheVariants.{Expr}
use Rattle.mini_model.specs.declared.seat.Seat.{Seat}
use Rattle.mini_model.specs.Tree.{Tree}
use Rattle.mini_rows.proofs.SpellWeights.{lighter}
use Rattle.mini_tree.specs.Rule.{Applied}
use Rattle.mini_tree.proofs.Reaching.{moves_once}
use Rattle.mini_syntax.specs.Forms.{first_of}
use Rattle.mini_syntax.specs.Spelled.{written, Gives, Rests}
use Rattle.mini_syntax.proofs.Spelled.{written_is_row, unwritten_rests}

pub applied : (s : Seat) (t u : Tree) (b : Bool) → u ≡ unwrap_or (written t) t → b ≡ is_some (written t) → Applied Gives Rests (Expr s) t u b
applied s t u b e f = subst (λ v. Applied Gives Rests (Expr s) t v b) (sym e) (subst (Applied Gives Rests (Expr s) t (unwrap_or (written t) t)) (sym f) (go (written t) refl))
  where
    go : (o : Option Tree) → written t ≡ o → Applied Gives Rests (Expr s) t (unwrap_or o t) (is_some o)
    go None h = (refl, unwritten_rests s t h)
    go (Some w) h = let row = written_is_row s t w h in moves_once Gives (Expr s) t w (record { row = row; lighter = lighter (Expr s) t w row })

-- ---- two rewrites of one expression, of which the second is tried where the first writes nothing

none_written : (o : Option Tree) → false ≡ is_some o → o ≡ None
none_written None e = refl
none_written (Some w) e = absurd (cc e)

some_made : (a b : Option Tree) (t u : Tree) → u ≡ unwrap_or a t → true ≡ is_some a → u ≡ unwrap_or (first_of a b) t
some_made (Some w) b t u e f = e
some_made None b t u e f = absurd (cc f)

some_said : (a b : Option Tree) → true ≡ is_some a → true ≡ is_some (first_of a b)
some_said (Some w) b f = refl
some_said None b f = absurd (cc f)

module _ (first second : Tree → Option Tree) (t u : Tree) where
  -- what the two write
  abbrev either : Option Tree
  either = first_of (first t) (second t)

  left_as_it_was : u ≡ unwrap_or (first t) t → false ≡ is_some (first t) → u ≡ t
  left_as_it_was e f = e ∙ ap (λ o. unwrap_or o t) (none_written (first t) f)

  pub second_written : u ≡ unwrap_or (first t) t → false ≡ is_some (first t) → second u ≡ either
  second_written e f = ap second (left_as_it_was e f) ∙ sym (ap (λ o. first_of o (second t)) (none_written (first t) f))

  pub second_made : u ≡ unwrap_or (first t) t → false ≡ is_some (first t) → unwrap_or (second u) u ≡ unwrap_or either t
  second_made e f = ap (λ o. unwrap_or o u) (second_written e f) ∙ ap (unwrap_or either) (left_as_it_was e f)

  -- where the first one wrote something, that is what is written
  pub first_made : u ≡ unwrap_or (first t) t → true ≡ is_some (first t) → u ≡ unwrap_or either t
  first_made e f = some_made (first t) (second t) t u e f

  pub first_said : true ≡ is_some (first t) → true ≡ is_some either
  first_said f = some_said (first t) (second t) f
