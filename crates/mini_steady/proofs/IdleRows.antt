-- What goes that has no effect where a body has its `this` is what a row says, and where nothing does no row reads the node.
use Rattle.std.proofs.Common.{◌≡◌, ◌⊎◌, ℕ, zero, Bool, true, false, Option, Some, None, [], refl, sym, ap, subst, ◌∙◌, inl, inr, true≢false, arith}
use Rattle.std.specs.Prelude.{◌&&◌, nat_eq, nat_le, is_some, unwrap_or, if◌then◌else◌}
use Rattle.std.proofs.lemmas.Bool.{and_parts, false≢true, le-leb, leb-true, eqb-true}
use Rattle.mini_model.specs.declared.place.Position.TheVariants.{Expr, Stmt}
use Rattle.mini_model.specs.declared.seat.Seat.{Seat}
use Rattle.mini_model.specs.declared.seat.StmtSeat.{StmtSeat}
use Rattle.mini_model.specs.declared.shape.Shape.TheVariants as shape
use Rattle.mini_model.specs.Tree.{Tree, Trees, node, none, ◌▸◌, child_or_absent, children, count, empty_statement}
use Rattle.mini_model.specs.Paths.{append}
use Rattle.mini_kept.specs.Without.{Assured}
use Rattle.mini_node.specs.Children.{part}
use Rattle.mini_node.specs.Kinds.{is_expression_statement, is_sequence, sequence}
use Rattle.mini_node.specs.Made.{expression_statement_is, sequence_is}
use Rattle.mini_held.specs.Parts.{idle_before_last, left_after}
use Rattle.mini_held.proofs.PartsGone.{count_with, found, parts_go}
use Rattle.mini_rows.specs.Idle.{is_still, is_still_part, IdleRow, IdleStatement}
use Rattle.mini_rows.specs.Lists.{for_loop}
use Rattle.mini_rows.specs.Sequences.{takes_alone, stays_alone}
use Rattle.mini_rows.specs.Editions.{SteadyRowsIn}
use Rattle.mini_steady.specs.Chains.{Several, once}
use Rattle.mini_steady.specs.Idle.{does_nothing, is_for, begins_still, turns_still, headless, turn_written, head_written, statement_written, written_in, is_left, loses_part, Loses, LosesIn}
use Rattle.mini_steady.specs.Members as members
use Rattle.mini_steady.specs.Own.{AppliedHere}
use Rattle.mini_steady.proofs.MemberRows.{members_are_rows}
use Rattle.mini_steady.proofs.Owning.{several_over, several_then}

-- ---- 22

for_is : (t : Tree) → is_for t ≡ true → t ≡ for_loop (part t 0) (part t 1) (part t 2) (part t 3)
for_is (node shape.ForStatement [] zero (a ▸ (b ▸ (c ▸ (d ▸ none))))) e = refl
for_is t e = absurd (false≢true e)

module _ (V : Assured) (has : V.has_this ≡ true) (n : Tree) where
  statement_row : does_nothing n ≡ true → IdleStatement V n empty_statement
  statement_row h =
      let (is, still) = and_parts (is_expression_statement n) (is_still (part n 0)) h in
      inl (record { expression = part n 0; kept = has; still = still; shape = expression_statement_is n is; written = refl })

  init_row : begins_still n ≡ true → IdleStatement V n (headless 0 n)
  init_row h =
      let (kind, still) = and_parts (is_for n) (is_still_part (part n 0)) h in
      inr (inl (record { init = part n 0; test = part n 1; update = part n 2; body = part n 3; kept = has; still = still; shape = for_is n kind; written = ap (headless 0) (for_is n kind) }))

  update_row : turns_still n ≡ true → IdleStatement V n (headless 2 n)
  update_row h =
      let (kind, still) = and_parts (is_for n) (is_still_part (part n 2)) h in
      inr (inr (record { init = part n 0; test = part n 1; update = part n 2; body = part n 3; kept = has; still = still; shape = for_is n kind; written = ap (headless 2) (for_is n kind) }))

-- one after another
pub tried : (P : Tree → Type 0) (b : Bool) (made : Tree) (next : Option Tree) (w : Tree) → (b ≡ true → P made) → (next ≡ Some w → P w) → (if b then Some made else next) ≡ Some w → P w
tried P true made next w f g e = let is : made ≡ w = cc e in subst P is (f refl)
tried P false made next w f g e = g e

written_row : (V : Assured) (n w : Tree) → V.has_this ≡ true → statement_written n ≡ Some w → IdleStatement V n w
written_row V n w has =
    tried (IdleStatement V n) (does_nothing n) empty_statement (head_written n) w (statement_row V has n)
    (tried (IdleStatement V n) (begins_still n) (headless 0 n) (turn_written n) w (init_row V has n)
    (tried (IdleStatement V n) (turns_still n) (headless 2 n) None w (update_row V has n) (λ e. absurd (cc e))))

first_true : (b : Bool) (made : Tree) (next : Option Tree) → b ≡ true → is_some (if b then Some made else next) ≡ true
first_true true made next e = refl
first_true false made next e = absurd (false≢true e)

later_true : (b : Bool) (made : Tree) (next : Option Tree) → is_some next ≡ true → is_some (if b then Some made else next) ≡ true
later_true true made next e = refl
later_true false made next e = e

passes : (V : Assured) (n w : Tree) → IdleStatement V n w → is_some (statement_written n) ≡ true
passes V n w (inl r) = first_true (does_nothing n) empty_statement (head_written n) (ap does_nothing r.shape ∙ r.still)
passes V n w (inr (inl r)) = later_true (does_nothing n) empty_statement (head_written n) (first_true (begins_still n) (headless 0 n) (turn_written n) (ap begins_still r.shape ∙ r.still))
passes V n w (inr (inr r)) =
    later_true (does_nothing n) empty_statement (head_written n) (later_true (begins_still n) (headless 0 n) (turn_written n) (first_true (turns_still n) (headless 2 n) None (ap turns_still r.shape ∙ r.still)))

has_it : (V : Assured) (n w : Tree) → IdleStatement V n w → V.has_this ≡ true
has_it V n w (inl r) = r.kept
has_it V n w (inr (inl r)) = r.kept
has_it V n w (inr (inr r)) = r.kept

pub chosen : (b : Bool) (x : Option Tree) → b ≡ true → is_some x ≡ true → is_some (if b then x else None) ≡ true
chosen true x e f = f
chosen false x e f = e

pub chosen_is : (b : Bool) (x : Option Tree) (w : Tree) → (if b then x else None) ≡ Some w → (b ≡ true) × (x ≡ Some w)
chosen_is true x w e = (refl, e)
chosen_is false x w e = absurd (cc e)

-- at a statement

pub statement_applied : (e : ℕ) (V : Assured) (q : StmtSeat) (t u : Tree) (b : Bool) → u ≡ unwrap_or (written_in V t) t → b ≡ is_some (written_in V t) → AppliedHere (SteadyRowsIn e V) (Stmt q) t u b
statement_applied e V q t u b h f =
    subst (λ v. AppliedHere (SteadyRowsIn e V) (Stmt q) t v b) (sym h)
    (subst (AppliedHere (SteadyRowsIn e V) (Stmt q) t (unwrap_or (written_in V t) t)) (sym f) (go (written_in V t) refl))
  where
    go : (o : Option Tree) → written_in V t ≡ o → AppliedHere (SteadyRowsIn e V) (Stmt q) t (unwrap_or o t) (is_some o)
    go None h = (refl, λ w r. true≢false (sym (chosen V.has_this (statement_written t) (has_it V t w r.0) (passes V t w r.0)) ∙ ap is_some h))
    go (Some w) h = let (has, made) = chosen_is V.has_this (statement_written t) w h in once t w (written_row V t w has made, tt)

-- ---- 21

both_true : (b c : Bool) → b ≡ true → c ≡ true → b && c ≡ true
both_true true c e f = f
both_true false c e f = e

-- a part goes, and others after it
still_goes : (V : Assured) (s : Seat) → V.has_this ≡ true → (before : Trees) (a q : Tree) (qs : Trees) (v : Tree) → is_still a ≡ true → nat_le 2 (count (append before (q ▸ qs))) ≡ true → (sequence (append before (q ▸ qs)) ≡ v) ⊎ Several (IdleRow V s) (sequence (append before (q ▸ qs))) v → Several (IdleRow V s) (sequence (append before (a ▸ (q ▸ qs)))) v
still_goes V s has before a q qs v e several others = go others
  where
    first : IdleRow V s (sequence (append before (a ▸ (q ▸ qs)))) (sequence (append before (q ▸ qs)))
    first = inl (record { before = before; idle = a; next = q; after = qs; kept = has; still = e; several = several; shape = refl; written = refl })

    go : (sequence (append before (q ▸ qs)) ≡ v) ⊎ Several (IdleRow V s) (sequence (append before (q ▸ qs))) v → Several (IdleRow V s) (sequence (append before (a ▸ (q ▸ qs)))) v
    go (inl same) = once (sequence (append before (a ▸ (q ▸ qs)))) v (subst (IdleRow V s (sequence (append before (a ▸ (q ▸ qs))))) same first)
    go (inr more) = several_then (IdleRow V s) (sequence (append before (a ▸ (q ▸ qs)))) (sequence (append before (q ▸ qs))) v (once (sequence (append before (a ▸ (q ▸ qs)))) (sequence (append before (q ▸ qs))) first) more

pub parts_lose : (s : Seat) (t : Tree) → is_sequence t ≡ true → idle_before_last is_still (children (part t 0)) ≡ true → nat_le 3 (count (children (part t 0))) ≡ true → Loses s t (sequence (left_after is_still 0 (children (part t 0)))) true
parts_lose s t is e k V has =
    subst (λ u. Several (IdleRow V s) u (sequence (left_after is_still 0 (children (part t 0))))) (sym (sequence_is t is))
    (parts_go is_still (λ u v. (u ≡ v) ⊎ Several (IdleRow V s) u v) (Several (IdleRow V s)) (λ u. inl refl) (still_goes V s has) (λ u v m. inr m) (children (part t 0)) e k)

pub last_loses : (s : Seat) (t : Tree) → is_sequence t ≡ true → is_left s (children (part t 0)) ≡ true → Loses s t (child_or_absent (children (part t 0)) 1) true
last_loses s t is e V has = go (children (part t 0)) refl e
  where
    go : (ts : Trees) → children (part t 0) ≡ ts → is_left s ts ≡ true → Several (IdleRow V s) t (child_or_absent (children (part t 0)) 1)
    go (a ▸ (b ▸ none)) h e =
        let (seated, rest) = and_parts (takes_alone s) (is_still a && stays_alone s b) e in
        let (still, stays) = and_parts (is_still a) (stays_alone s b) rest in
        once t (child_or_absent (children (part t 0)) 1) (inr (record { idle = a; last = b; kept = has; still = still; seated = seated; stays = stays; shape = sequence_is t is ∙ ap sequence h; written = ap (λ us. child_or_absent us 1) h }))
    go none h e = absurd (true≢false (sym e))
    go (a ▸ none) h e = absurd (true≢false (sym e))
    go (a ▸ (b ▸ (c ▸ ts))) h e =
        let two = eqb-true (count (a ▸ (b ▸ (c ▸ ts)))) 2 (and_parts (nat_eq (count (a ▸ (b ▸ (c ▸ ts)))) 2) (takes_alone s && (is_still a && stays_alone s b)) e).0 in absurd (omega (arith, two))

loses_still : (s : Seat) (before : Trees) (a q : Tree) (qs : Trees) → is_still a ≡ true → nat_le 2 (count (append before (q ▸ qs))) ≡ true → loses_part s (sequence (append before (a ▸ (q ▸ qs)))) ≡ true
loses_still s before a q qs e h =
    let ts : Trees = append before (a ▸ (q ▸ qs)) in
    ap (λ b. if b then idle_before_last is_still ts else is_left s ts) (le-leb 3 (count ts) (omega (arith, count_with before a q qs, leb-true 2 (count (append before (q ▸ qs))) h)))
    ∙ found is_still before a q qs e

rests : (s : Seat) (t : Tree) → loses_part s t ≡ false → (V : Assured) (w : Tree) → IdleRow V s t w → ⊥
rests s t l V w (inl r) = true≢false (sym (loses_still s r.before r.idle r.next r.after r.still r.several) ∙ sym (ap (loses_part s) r.shape) ∙ l)
rests s t l V w (inr r) =
    true≢false (sym (both_true (takes_alone s) (is_still r.idle && stays_alone s r.last) r.seated
    (both_true (is_still r.idle) (stays_alone s r.last) r.still r.stays))
    ∙ sym (ap (loses_part s) r.shape) ∙ l)

-- what is no sequence loses no part
pub no_sequence : (s : Seat) (t : Tree) → is_sequence t ≡ false → Loses s t t false
no_sequence s t e = (refl, rests s t (ap (λ b. b && (if nat_le 3 (count (children (part t 0))) then idle_before_last is_still (children (part t 0)) else is_left s (children (part t 0)))) e))

pub no_still : (s : Seat) (t : Tree) → is_sequence t ≡ true → nat_le 3 (count (children (part t 0))) ≡ true → idle_before_last is_still (children (part t 0)) ≡ false → Loses s t t false
no_still s t is k e = (
  refl,
  rests s t
      (ap (λ b. b && (if nat_le 3 (count (children (part t 0))) then idle_before_last is_still (children (part t 0)) else is_left s (children (part t 0)))) is
      ∙ ap (λ b. if b then idle_before_last is_still (children (part t 0)) else is_left s (children (part t 0))) k
      ∙ e),
)

pub not_left : (s : Seat) (t : Tree) → is_sequence t ≡ true → nat_le 3 (count (children (part t 0))) ≡ false → is_left s (children (part t 0)) ≡ false → Loses s t t false
not_left s t is k e = (
  refl,
  rests s t
      (ap (λ b. b && (if nat_le 3 (count (children (part t 0))) then idle_before_last is_still (children (part t 0)) else is_left s (children (part t 0)))) is
      ∙ ap (λ b. if b then idle_before_last is_still (children (part t 0)) else is_left s (children (part t 0))) k
      ∙ e),
)

-- in a body of which this is known

pub without_this : (V : Assured) (s : Seat) (t : Tree) → V.has_this ≡ false → LosesIn V s t t false
without_this V s t h = (refl, unread)
  where
    unread : (w : Tree) → IdleRow V s t w → ⊥
    unread w (inl r) = true≢false (sym r.kept ∙ h)
    unread w (inr r) = true≢false (sym r.kept ∙ h)

pub with_this : (V : Assured) (s : Seat) (t u : Tree) (b : Bool) → V.has_this ≡ true → Loses s t u b → LosesIn V s t u b
with_this V s t u true h l = l V h
with_this V s t u false h l = (l.0, λ w r. l.1 V w r)

-- ---- at an expression in its seat

pub member_applied : (e : ℕ) (V : Assured) (s : Seat) (t u : Tree) → u ≡ unwrap_or (members.written e V s t) t → true ≡ is_some (members.written e V s t) → AppliedHere (SteadyRowsIn e V) (Expr s) t u true
member_applied e V s t u h f = subst (λ v. AppliedHere (SteadyRowsIn e V) (Expr s) t v true) (sym h) (go (members.written e V s t) refl f)
  where
    go : (o : Option Tree) → members.written e V s t ≡ o → true ≡ is_some o → AppliedHere (SteadyRowsIn e V) (Expr s) t (unwrap_or o t) true
    go None h f = absurd (true≢false f)
    go (Some w) h f = let (r, a) = members_are_rows e V s t w h in once t w (inl r, a)

pub idle_applied : (e : ℕ) (V : Assured) (s : Seat) (t m u : Tree) → m ≡ unwrap_or (members.written e V s t) t → false ≡ is_some (members.written e V s t) → LosesIn V s m u true → AppliedHere (SteadyRowsIn e V) (Expr s) t u true
idle_applied e V s t m u h f l = go (members.written e V s t) refl f (subst (λ v. LosesIn V s v u true) h l)
  where
    go : (o : Option Tree) → members.written e V s t ≡ o → false ≡ is_some o → LosesIn V s (unwrap_or o t) u true → AppliedHere (SteadyRowsIn e V) (Expr s) t u true
    go None h f l = several_over (IdleRow V s) (SteadyRowsIn e V (Expr s)) (λ v. v) (λ v w r. (inr (inl r), tt)) t u l
    go (Some w) h f l = absurd (true≢false (sym f))
