-- What is calculated makes what its rows say, and rests where no row makes the expression lighter.
use Rattle.std.proofs.Common.{◌≡◌, ◌<◌, ◌^◌, Bool, true, false, refl, sym, ap, subst, ◌∙◌, true≢false, inl, inr}
use Rattle.std.specs.Prelude.{◌&&◌, Option, Some, None, is_some, unwrap_or, if◌then◌else◌, Result, Ok, Err, OnOk, IfOk}
use Rattle.std.proofs.lemmas.Bool.{and_parts}
use Rattle.mini_model.specs.declared.memory.OutOfMemory.{OutOfMemory}
use Rattle.mini_model.specs.declared.place.Position.TheVariants.{Expr}
use Rattle.mini_model.specs.declared.seat.Seat.{Seat}
use Rattle.mini_model.specs.Tree.{Tree}
use Rattle.mini_model.specs.Weight.{weight}
use Rattle.mini_laws.specs.Value.{Value}
use Rattle.mini_terms.specs.Calculated.{calculated}
use Rattle.mini_terms.specs.Parts.{suits, leaves_nothing}
use Rattle.mini_terms.specs.Plain.{lit}
use Rattle.mini_rows.specs.Constants.{RowConstant, ConstantRow, ConstantContracts}
use Rattle.mini_tree.specs.Rule.{Applied}
use Rattle.mini_tree.proofs.Reaching.{moves_once}
use Rattle.mini_fold.specs.FoldConstants.{is_lighter, replaces, written_by, literal_written, first_written, length_written, other_written, written, Gives, Rests, WrittenIsRow, UnwrittenRests}
use Rattle.mini_fold.specs.JoinConstants.{literal_of, joined_written}
use Rattle.mini_fold.proofs.Gains.{nothing, lighter_is, falls, lighter_test}
use Rattle.mini_fold.proofs.Joins.{joined_is_row, joined_rests}
use Rattle.mini_fold.proofs.KnownLengths.{length_is_row, length_rests}

both_true : (b c : Bool) → b ≡ true → c ≡ true → b && c ≡ true
both_true true c e f = f
both_true false c e f = e

module _ (s : Seat) (n w : Tree) where
  row_of : (v : Value) → calculated n ≡ Some v → lit v ≡ Some w → replaces s n w ≡ true → RowConstant s n w
  row_of v k l e =
      let (dropped, rest) = and_parts (leaves_nothing n) (suits s w && is_lighter s w n) e in
      let (stays, lighter) = and_parts (suits s w) (is_lighter s w n) rest in
      record { value = v; known = k; literal = l; dropped = dropped; stays = stays; gains = lighter_is s w n lighter }

  by_literal : (v : Value) → calculated n ≡ Some v → (l : Option Tree) → lit v ≡ l → written_by s n l ≡ Some w → RowConstant s n w
  by_literal v k (Some u) h e = go (replaces s n u) refl e
    where
      go : (b : Bool) → replaces s n u ≡ b → (if b then Some u else None) ≡ Some w → RowConstant s n w
      go true f e = let same : u ≡ w = cc e in row_of v k (h ∙ ap (λ x. Some x) same) (subst (λ x. replaces s n x ≡ true) same f)
      go false f e = nothing e
  by_literal v k None h e = nothing e

  pub by_value : (c : Option Value) → calculated n ≡ c → written_by s n (literal_of c) ≡ Some w → RowConstant s n w
  by_value (Some v) k e = by_literal v k (lit v) refl e
  by_value None k e = nothing e

contracts_of : (s : Seat) (n w : Tree) → ConstantRow (Expr s) n w → ConstantContracts (Expr s) n w
contracts_of s n w (inl r) = record { row = inl r; lighter = falls (Expr s) n w r.gains }
contracts_of s n w (inr (inl r)) = record { row = inr (inl r); lighter = r.gains }
contracts_of s n w (inr (inr r)) = record { row = inr (inr r); lighter = falls (Expr s) n w r.gains }

pub written_is_row : WrittenIsRow
written_is_row s n w e = contracts_of s n w (go (literal_written s n) refl e)
  where
    other : (o : Option Tree) → length_written s n ≡ o → first_written o (joined_written n) ≡ Some w → ConstantRow (Expr s) n w
    other (Some u) h e = inr (inr (length_is_row s n w (h ∙ e)))
    other None h e = inr (inl (joined_is_row s n w e))

    go : (o : Option Tree) → literal_written s n ≡ o → first_written o (other_written s n) ≡ Some w → ConstantRow (Expr s) n w
    go (Some u) h e = inl (by_value s n w (calculated n) refl (h ∙ e))
    go None h e = other (length_written s n) refl e

-- where a row makes it lighter, something is written
passed : (b : Bool) (w : Tree) → b ≡ true → (if b then Some w else None) ≡ None → ⊥
passed true w h e = cc e
passed false w h e = true≢false (sym h)

never : (s : Seat) (n w : Tree) (l : Option Tree) → l ≡ Some w → replaces s n w ≡ true → written_by s n l ≡ None → ⊥
never s n w (Some u) h e f = passed (replaces s n u) u (subst (λ x. replaces s n x ≡ true) {x = w} {y = u} (cc h) e) f
never s n w None h e f = nothing h

pub literal_rests : (s : Seat) (n w : Tree) → literal_written s n ≡ None → weight (Expr s) n < 2 ^ 64 → RowConstant s n w → ⊥
literal_rests s n w e small r =
    never s n w (literal_of (calculated n)) (ap literal_of r.known ∙ r.literal)
    (both_true (leaves_nothing n) (suits s w && is_lighter s w n) r.dropped (both_true (suits s w) (is_lighter s w n) r.stays (lighter_test s w n small r.gains)))
    e

none_first : (o p : Option Tree) → first_written o p ≡ None → o ≡ None
none_first None p e = refl
none_first (Some w) p e = nothing (sym e)

none_second : (o p : Option Tree) → first_written o p ≡ None → p ≡ None
none_second None p e = e
none_second (Some w) p e = nothing (sym e)

pub unwritten_rests : UnwrittenRests
unwritten_rests s n e small w c = go c.row
  where
    others : other_written s n ≡ None
    others = none_second (literal_written s n) (other_written s n) e

    go : ConstantRow (Expr s) n w → ⊥
    go (inl r) = literal_rests s n w (none_first (literal_written s n) (other_written s n) e) small r
    go (inr (inl r)) = joined_rests s n w r small (none_second (length_written s n) (joined_written n) others)
    go (inr (inr r)) = length_rests s n w r small (none_first (length_written s n) (joined_written n) others)

-- the one after the other

pub first_tree : (n u : Tree) (o p : Option Tree) → u ≡ unwrap_or o n → true ≡ is_some o → u ≡ unwrap_or (first_written o p) n
first_tree n u (Some w) p e f = e
first_tree n u None p e f = absurd (true≢false f)

pub first_said : (o p : Option Tree) → true ≡ is_some o → true ≡ is_some (first_written o p)
first_said (Some w) p f = refl
first_said None p f = absurd (true≢false f)

module _ (f : Tree → Option Tree) (n m : Tree) where
  next_tree : (u : Tree) (o : Option Tree) → m ≡ unwrap_or o n → false ≡ is_some o → u ≡ unwrap_or (f m) m → u ≡ unwrap_or (first_written o (f n)) n
  next_tree u None e g h = h ∙ ap (λ x. unwrap_or (f x) x) e
  next_tree u (Some w) e g h = absurd (true≢false (sym g))

  next_said : (c : Bool) (o : Option Tree) → m ≡ unwrap_or o n → false ≡ is_some o → c ≡ is_some (f m) → c ≡ is_some (first_written o (f n))
  next_said c None e g h = h ∙ ap (λ x. is_some (f x)) e
  next_said c (Some w) e g h = absurd (true≢false (sym g))

pub then_tree : (n m u : Tree) (o : Option Tree) → m ≡ unwrap_or o n → false ≡ is_some o → u ≡ unwrap_or (joined_written m) m → u ≡ unwrap_or (first_written o (joined_written n)) n
then_tree n m u o e g h = next_tree joined_written n m u o e g h

pub then_said : (n m : Tree) (c : Bool) (o : Option Tree) → m ≡ unwrap_or o n → false ≡ is_some o → c ≡ is_some (joined_written m) → c ≡ is_some (first_written o (joined_written n))
then_said n m c o e g h = next_said joined_written n m c o e g h

module _ (s : Seat) (n m : Tree) (o : Option Tree) (is : m ≡ unwrap_or o n) (none : false ≡ is_some o) where
  pub others_tree : (u : Tree) (r : Result Bool OutOfMemory) → OnOk r (u ≡ unwrap_or (other_written s m) m) → OnOk r (u ≡ unwrap_or (first_written o (other_written s n)) n)
  others_tree u (Ok b) h = next_tree (other_written s) n m u o is none h
  others_tree u (Err e) h = h

  pub others_said : (r : Result Bool OutOfMemory) → IfOk r (λ c. c ≡ is_some (other_written s m)) → IfOk r (λ c. c ≡ is_some (first_written o (other_written s n)))
  others_said (Ok c) h = next_said (other_written s) n m c o is none h
  others_said (Err e) h = h

pub applied : (s : Seat) (t u : Tree) (b : Bool) → u ≡ unwrap_or (written s t) t → b ≡ is_some (written s t) → Applied Gives Rests (Expr s) t u b
applied s t u b e f = subst (λ v. Applied Gives Rests (Expr s) t v b) (sym e) (subst (Applied Gives Rests (Expr s) t (unwrap_or (written s t) t)) (sym f) (go (written s t) refl))
  where
    go : (o : Option Tree) → written s t ≡ o → Applied Gives Rests (Expr s) t (unwrap_or o t) (is_some o)
    go None h = (refl, unwritten_rests s t h)
    go (Some w) h = moves_once Gives (Expr s) t w (written_is_row s t w h)
