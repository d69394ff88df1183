-- What the rows of names that are read behind held names make of the statements of a case, in a switch in the code of a body.
use Rattle.std.specs.Prelude.{ℕ, ◌<◌, ◌≤◌, ◌≡◌, refl, ◌||◌, Bool, true, false, [], Option}
use Rattle.std.proofs.Common.{ap, ◌∙◌, sym, subst, subst₂, arith, inl, true≢false}
use Rattle.mini_model.specs.declared.name.Name.{Name}
use Rattle.mini_model.specs.declared.place.Position.TheVariants.{Stmt}
use Rattle.mini_model.specs.declared.seat.StmtSeat.{StmtSeat}
use Rattle.mini_model.specs.declared.seat.StmtSeat.TheVariants as stmt_seat
use Rattle.mini_model.specs.declared.shape.Shape.TheVariants as shape
use Rattle.mini_model.specs.Tree.{Tree, Trees, none, ◌▸◌, listed}
use Rattle.mini_model.specs.Paths.{append}
use Rattle.mini_model.specs.Weight.{weight}
use Rattle.mini_accept.specs.WellShaped.{nested, each, fill}
use Rattle.mini_laws.specs.declared.names.Declared.TheVariants.{Lexical}
use Rattle.mini_laws.specs.Value.{Declared, VariableSet, nothing}
use Rattle.mini_laws.specs.State.{Environment}
use Rattle.mini_laws.specs.Demand.{Tail, Stat}
use Rattle.mini_laws.specs.Same.{Same}
use Rattle.mini_laws.specs.Skeleton.{Off, hidden}
use Rattle.mini_laws.specs.Path.{here, inside}
use Rattle.mini_laws.specs.Substitution.{alone}
use Rattle.mini_laws.proofs.Congruent.{congruent_same, weaker}
use Rattle.mini_laws.proofs.Simulation.{within_refl}
use Rattle.mini_kept.specs.Without.{Assured, Steadies, Permits}
use Rattle.mini_kept.proofs.InOrder.{in_order}
use Rattle.mini_rows.specs.Cases.{switch_case}
use Rattle.mini_rows.specs.Lists.{switch}
use Rattle.mini_rows.specs.Switches.{Switches, without_vars}
use Rattle.mini_rows.specs.Past.{begun}
use Rattle.mini_rows.specs.PastBlocks.{PastCaseRow}
use Rattle.mini_rows.specs.Steady.{bindings}
use Rattle.mini_rows.specs.Unused.{resolved, switch_around}
use Rattle.mini_rows.proofs.ListWeights.{list_is}
use Rattle.mini_rows.proofs.PastBlockKept.{list_same, falls}
use Rattle.mini_rows.proofs.PastBound.{all_bindings_both, rows_bound}
use Rattle.mini_rows.proofs.PastLawful.{list_fits}
use Rattle.mini_rows.proofs.PastLost.{Stands, Lost, off_within, in_statement, names_there}
use Rattle.mini_rows.proofs.PastMeaning.{held_begins}
use Rattle.mini_rows.proofs.PastStretches.{Behind, behind}
use Rattle.mini_rows.proofs.SwitchKept.{case_leaves, case_names, switch_less, switch_kept, switch_keeps, switch_fixed, switch_frames, switch_bodies, switch_declares}
use Rattle.mini_rows.proofs.SwitchLawful.{Around, around, in_slot}
use Rattle.mini_rows.proofs.UnusedKept.{LeavesThere, NamesThere}
use Rattle.mini_rows.proofs.UnusedLawful.{gone}
use Rattle.mini_rows.proofs.UnusedMeaning.{all_join, join_is, list_read}
use Rattle.mini_rows.proofs.UnusedNames.{all_unmentioned, all_other, avoided, all_avoided}
use Rattle.mini_rows.proofs.UnusedStretches.{item_in}
use Rattle.mini_rows.proofs.UnusedWeights.{switch_weighs}

module _ (V : Assured) (discriminant : Tree) (first : Trees) (test : Tree) (last a b : Trees) (t : Behind V nothing (switch_around discriminant first test last) a b) where
  abbrev x : Name
  x = resolved t.spelling t.symbol

  abbrev k : ℕ
  k = t.symbol

  abbrev D : VariableSet
  D = alone (Declared k)

  abbrev A : Trees
  A = append t.before (append t.d t.after)

  abbrev B : Trees
  B = append t.before (append t.w t.after)

  abbrev over : Trees → Tree
  over ts = switch discriminant (listed (append first (switch_case test ts ▸ last)))

  unread : Around x discriminant first test last
  unread = around x discriminant first test last (ap (λ c. c || false) t.outer)

  -- ---- it means the same where nobody else sees the name

  module _ (e : Environment) (u : Permits nothing D e) (s : Steadies V e) (off : Off (hidden (over A)) V.initial) where
    abbrev H : VariableSet
    H = begun V A

    in_tail : (tail : Option Tail) → Same e D H (Stat tail) (over A) (over B)
    in_tail tail =
        let there = inside shape.SwitchStatement [] 0 (discriminant ▸ none) (inside shape.Listed [] 0 first (inside shape.SwitchCase [] 0 (test ▸ none) here none) last) none in
        let kept_off = off_within (hidden (over A)) H V.initial (held_begins V A V.initial (λ y h. h)) off in
        let join = λ (ts : Trees). join_is first (switch_case test ts) last in
        subst₂ (λ c d. Same e D H (Stat tail) (switch discriminant (listed c)) (switch discriminant (listed d))) (join A) (join B)
        (congruent_same e D u.unseen.shared there (listed A) (listed B) (tt, (avoided x k refl discriminant unread.asked, tt), (tt, all_avoided x k refl first unread.earlier, (tt, (avoided x k refl test unread.tested, tt), tt, tt), all_avoided x k refl last unread.later), tt)
        (tt, all_join D t.before (append t.w t.after) (all_avoided x k refl t.before t.earlier) (all_join D t.w t.after t.avoids (all_avoided x k refl t.after t.later)))
        (list_read e t.spelling k u.unseen t.before t.after t.d t.w t.read) H (Stat tail) (subst (λ c. Off (hidden (switch discriminant (listed c))) H) (sym (join A)) kept_off)
        (list_same e V nothing (switch_around discriminant first test last) a b t u s))

    same : (tail : Option Tail) → Same e D V.initial (Stat tail) (over A) (over B)
    same tail = weaker e D D H V.initial (within_refl D) (held_begins V A V.initial (λ y h. h)) (Stat tail) (over A) (over B) (in_tail tail)

  -- ---- it loses the name

  module _ (q : StmtSeat) (n : NamesThere x t.d t.w) where
    abbrev those : Trees
    those = switch_case test A ▸ none

    abbrev these : Trees
    these = switch_case test B ▸ none

    leaves : LeavesThere x those these
    leaves = case_leaves x k refl test t.before t.after t.d t.w t.leaves unread.tested t.earlier t.later

    named : NamesThere x those these
    named = case_names x k refl test t.before t.after t.d t.w t.leaves unread.tested t.earlier t.later n (all_other x Lexical t.before t.earlier) (all_other x Lexical t.after t.later)

    lists_fit : (strict : Bool) → fill strict (each (item_in nested)) A ≡ true → fill strict (each (item_in nested)) B ≡ true
    lists_fit strict e = sym (ap (fill strict (each (item_in nested))) t.written_is) ∙ list_fits V nothing (switch_around discriminant first test last) a b t nested strict (ap (fill strict (each (item_in nested))) t.read_is ∙ e)

    stands : Stands (Stmt q) (over A) (over B)
    stands = record {
      placed = inl refl;
      no_list = λ e. true≢false (sym e);
      no_piece = refl;
      asked = record { absent = λ g. absurd (true≢false (sym g)); body = λ g. absurd (true≢false (sym g)); optional = λ g. absurd (true≢false (sym g)); number = λ g h. refl; spelled = λ r g. absurd (cc g); plain = refl };
      ported = λ m. (refl, refl);
      undeclared = (refl, refl);
      read = refl;
      kind = refl;
    }

    lost_there : Lost V k (Stmt q) (over A) (over B)
    lost_there =
        let o = all_other x Lexical first unread.earlier in
        let p = all_other x Lexical last unread.later in
        let m = gone (record { name = x; hoists = false }) first last these (all_unmentioned x k refl first unread.earlier) leaves.unmentioned (all_unmentioned x k refl last unread.later) in
        record {
          stands = stands;
          fitting = λ strict s e. in_slot discriminant first test last A B lists_fit strict (Stmt q) s e;
          keeps = in_order (Stmt q) (over A) (over B) (switch_keeps x discriminant first last those these leaves named o p m q);
          kept = switch_kept x discriminant first last those these leaves named o p;
          less = switch_less x discriminant first last those these leaves named o p k refl;
          fixed = switch_fixed x discriminant first last those these leaves named o p;
          declares = switch_declares x discriminant first last those these leaves named o p;
          framed = switch_frames x discriminant first last those these leaves named o p;
          bodied = switch_bodies x discriminant first last those these leaves named o p;
          means = λ e u s off. in_statement e q D V.initial (over A) (over B) (same e u s off);
        }

pub lost_in_case : {options : Switches} (V : Assured) (q : StmtSeat) (n w : Tree) → PastCaseRow options V n w → (k : ℕ) × Lost V k (Stmt q) n w
lost_in_case {options = options} V q n w r =
    let o = switch_around r.discriminant r.first r.test r.last in
    let over = λ (ts : Trees). switch r.discriminant (listed (append r.first (switch_case r.test ts ▸ r.last))) in
    let t = behind V (without_vars options) o r.before r.after r.row in
    let there = lost_there V r.discriminant r.first r.test r.last r.before r.after t q (names_there V o r.before r.after r.row) in
    (t.symbol, subst₂ (Lost V t.symbol (Stmt q)) (sym (r.shape ∙ ap over t.read_is)) (sym (r.written ∙ ap over t.written_is)) there)

-- it is lighter, and declares no symbol more often

pub case_lighter : {options : Switches} (V : Assured) (q : StmtSeat) (n w : Tree) → PastCaseRow options V n w → weight (Stmt q) w < weight (Stmt q) n
case_lighter V q n w r =
    omega (
      arith,
      falls V (switch_around r.discriminant r.first r.test r.last) stmt_seat.List r.before r.after r.row,
      list_is r.before,
      list_is r.after,
      switch_weighs q r.discriminant r.first r.test r.before r.last,
      switch_weighs q r.discriminant r.first r.test r.after r.last,
      ap (weight (Stmt q)) r.shape,
      ap (weight (Stmt q)) r.written,
    )

pub case_bound : {options : Switches} (V : Assured) (n w : Tree) → PastCaseRow options V n w → (k : ℕ) → bindings k w ≤ bindings k n
case_bound V n w r k =
    omega (
      arith,
      rows_bound V (switch_around r.discriminant r.first r.test r.last) r.before r.after r.row k,
      all_bindings_both k r.first (switch_case r.test r.before ▸ r.last),
      all_bindings_both k r.first (switch_case r.test r.after ▸ r.last),
      ap (bindings k) r.shape,
      ap (bindings k) r.written,
    )
