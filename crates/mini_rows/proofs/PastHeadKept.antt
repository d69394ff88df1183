-- What the rows of names that are read behind held names make of the head of a `for` in the code of a body.
use Rattle.std.specs.Prelude.{ℕ, ◌<◌, ◌≤◌, ◌≡◌, refl, Bool, true, false, [], Option, None}
use Rattle.std.proofs.Common.{ap, ◌∙◌, sym, subst₂, arith, inl, inr, true≢false}
use Rattle.mini_model.specs.declared.name.Name.{Name}
use Rattle.mini_model.specs.declared.place.Position.TheVariants.{Stmt}
use Rattle.mini_model.specs.declared.seat.StmtSeat.{StmtSeat}
use Rattle.mini_model.specs.declared.shape.Shape.TheVariants as shape
use Rattle.mini_model.specs.Tree.{Tree, Trees, none, ◌▸◌, absent, listed, child_or_absent}
use Rattle.mini_model.specs.Paths.{append}
use Rattle.mini_model.specs.Weight.{outlines, weight}
use Rattle.mini_accept.specs.WellShaped.{an_init, one_or_absent, fits}
use Rattle.mini_laws.specs.Value.{Declared, VariableSet, nothing}
use Rattle.mini_laws.specs.State.{Environment}
use Rattle.mini_laws.specs.Demand.{Tail, Stat}
use Rattle.mini_laws.specs.Naming.{summary}
use Rattle.mini_laws.specs.Same.{Same}
use Rattle.mini_laws.specs.Skeleton.{Off, hidden}
use Rattle.mini_laws.specs.Path.{here, inside}
use Rattle.mini_laws.specs.Congruence.{ReadAlike}
use Rattle.mini_laws.specs.Substitution.{alone}
use Rattle.mini_laws.proofs.Congruent.{congruent_same, weaker}
use Rattle.mini_laws.proofs.Simulation.{within_refl}
use Rattle.mini_kept.specs.Without.{Assured, Steadies, Permits}
use Rattle.mini_kept.proofs.InOrder.{in_order}
use Rattle.mini_rows.specs.Lists.{declaration, for_loop}
use Rattle.mini_rows.specs.Declarations.{binding, declarator}
use Rattle.mini_rows.specs.Switches.{Switches, Liberties, without_vars}
use Rattle.mini_rows.specs.Past.{begun, Row71PastNext, PastRow}
use Rattle.mini_rows.specs.PastBlocks.{PastHeadRow}
use Rattle.mini_rows.specs.Steady.{bindings}
use Rattle.mini_rows.specs.Unused.{resolved, names, any_names, declared_among, put_first}
use Rattle.mini_rows.proofs.ForHeadKept.{for_less, for_kept, for_keeps, for_fixed, for_frames, for_bodies, for_declares}
use Rattle.mini_rows.proofs.ForHeadLawful.{in_slot, next_head_fits}
use Rattle.mini_rows.proofs.ForHeadMeaning.{head_read}
use Rattle.mini_rows.proofs.NextKept.{next_leaves, next_names}
use Rattle.mini_rows.proofs.NextMeaning.{next_read}
use Rattle.mini_rows.proofs.OneDeclaration.{one_same}
use Rattle.mini_rows.proofs.PastBound.{rows_bound}
use Rattle.mini_rows.proofs.PastLost.{Stands, Lost, off_within, in_statement}
use Rattle.mini_rows.proofs.PastMeaning.{held_begins}
use Rattle.mini_rows.proofs.PastStretches.{Behind, of_next}
use Rattle.mini_rows.proofs.SingleFits.{no_number_there}
use Rattle.mini_rows.proofs.SingleWeights.{next_falls}
use Rattle.mini_rows.proofs.UnusedKept.{LeavesThere, NamesThere}
use Rattle.mini_rows.proofs.UnusedMeaning.{movable, lexical_alone}
use Rattle.mini_rows.proofs.UnusedNames.{or_parts, unmentioned, all_avoided}
use Rattle.mini_rows.proofs.UnusedWeights.{own_for}

-- ---- of a list of one statement a row reads two of its declarators

tail : Trees → Trees
tail none = none
tail (t ▸ ts) = ts

pub no_second : (a b : Trees) (t u c : Tree) → c ▸ none ≡ append a (t ▸ (u ▸ b)) → ⊥
no_second none b t u c e = cc e
no_second (d ▸ none) b t u c e = cc e
no_second (d ▸ (f ▸ a)) b t u c e = cc e

pub record Alone (a b : Trees) (t c : Tree) : Type 0 where
  pub before : a ≡ none
  pub after : b ≡ none
  pub same : c ≡ t

pub alone_there : (a b : Trees) (t c : Tree) → c ▸ none ≡ append a (t ▸ b) → Alone a b t c
unfolding tail
alone_there none b t c e = record { before = refl; after = sym (ap tail e); same = ap (λ ts. child_or_absent ts 0) e }
alone_there (d ▸ none) b t c e = absurd (cc e)
alone_there (d ▸ (f ▸ a)) b t c e = absurd (cc e)

module _ {options : Switches} (V : Assured) (test update body before after : Tree) (r : Row71PastNext V (without_vars options) (for_loop absent test update body) (before ▸ none) (after ▸ none)) (nothing_before : r.before ≡ none) (nothing_after : r.after ≡ none) where
  abbrev x : Name
  x = resolved r.spelling r.symbol

  abbrev D : VariableSet
  D = alone (Declared r.symbol)

  abbrev these : Trees
  these = append r.first (declarator (binding x) r.init ▸ (declarator r.binds r.value ▸ r.last))

  abbrev those : Trees
  those = append r.first (declarator r.binds (put_first x r.init r.value) ▸ r.last)

  abbrev d : Tree
  d = declaration r.kind these

  abbrev w : Tree
  w = declaration r.kind those

  abbrev rest : Trees
  rest = test ▸ (update ▸ (body ▸ none))

  abbrev over : Tree → Tree
  over t = for_loop t test update body

  unread : any_names x rest ≡ false
  unread = r.outer

  -- ---- it means the same where nobody else sees the name

  module _ (e : Environment) (u : Permits nothing D e) (s : Steadies V e) where
    abbrev H : VariableSet
    H = begun V (before ▸ none)

    there : Behind V nothing (for_loop absent test update body) (before ▸ none) (after ▸ none)
    there = of_next V (without_vars options) (for_loop absent test update body) (before ▸ none) (after ▸ none) r

    alone_same : Same e D H (Stat None) (listed (d ▸ none)) (listed (w ▸ none))
    unfolding there of_next
    alone_same = subst₂ (λ a b. Same e D H (Stat None) (listed (append a (append (d ▸ none) b))) (listed (append a (append (w ▸ none) b)))) nothing_before nothing_after (there.same e u s)

    alike : ReadAlike D e (summary d) (summary w)
    alike = head_read e r.spelling r.symbol u.unseen r.kind these those (next_read r.kind r.spelling r.symbol r.first r.last r.init r.binds r.value (put_first x r.init r.value))

    module _ (off : Off (hidden (over d)) V.initial) where
      in_tail : (t : Option Tail) → Same e D H (Stat t) (over d) (over w)
      unfolding there of_next
      in_tail t =
          congruent_same e D u.unseen.shared (inside shape.ForStatement [] 0 none here rest) d w (tt, tt, tt, all_avoided x r.symbol refl rest unread) there.avoids.0 alike H (Stat t)
          (off_within (hidden (over d)) H V.initial (held_begins V (before ▸ none) V.initial (λ y h. h)) off) (one_same e D r.kind H these those alone_same)

      same : (t : Option Tail) → Same e D V.initial (Stat t) (over d) (over w)
      same t = weaker e D D H V.initial (within_refl D) (held_begins V (before ▸ none) V.initial (λ y h. h)) (Stat t) (over d) (over w) (in_tail t)

  -- ---- it loses the name

  leaves : LeavesThere x (d ▸ none) (w ▸ none)
  leaves = next_leaves r.kind x r.symbol refl r.first r.init r.binds r.value r.last r.once r.declared_earlier r.initial r.other r.declared_later (movable options r.init r.moves)

  named : NamesThere x (d ▸ none) (w ▸ none)
  named = next_names r.kind x r.symbol refl r.first r.init r.binds r.value r.last r.once r.declared_earlier r.initial r.other r.declared_later (lexical_alone r.kind r.goes)

  in_test : (names x test ≡ false) × (any_names x (update ▸ (body ▸ none)) ≡ false)
  in_test = or_parts (names x test) (any_names x (update ▸ (body ▸ none))) unread

  in_update : (names x update ≡ false) × (any_names x (body ▸ none) ≡ false)
  in_update = or_parts (names x update) (any_names x (body ▸ none)) in_test.1

  in_body_free : names x body ≡ false
  in_body_free = (or_parts (names x body) false in_update.1).0

  fitting : (strict : Bool) → fits strict (one_or_absent an_init) d ≡ true → fits strict (one_or_absent an_init) w ≡ true
  fitting strict = next_head_fits strict r.kind x r.first r.init r.binds r.value r.last (movable options r.init r.moves) r.once (no_number_there x r.init r.value r.varies)

  stands : (q : StmtSeat) → Stands (Stmt q) (over d) (over w)
  stands q = record {
    placed = inl refl;
    no_list = λ e. true≢false (sym e);
    no_piece = refl;
    asked = record { absent = λ g. absurd (true≢false (sym g)); body = λ g. absurd (true≢false (sym g)); optional = λ g. absurd (true≢false (sym g)); number = λ g h. refl; spelled = λ o g. absurd (cc g); plain = refl };
    ported = λ m. (refl, refl);
    undeclared = (refl, refl);
    read = refl;
    kind = refl;
  }

  lost_there : (q : StmtSeat) → Lost V r.symbol (Stmt q) (over d) (over w)
  lost_there q =
      let a = unmentioned x r.symbol refl test in_test.0 in
      let b = unmentioned x r.symbol refl update in_update.0 in
      let c = unmentioned x r.symbol refl body in_body_free in
      record {
        stands = stands q;
        fitting = λ strict s e. in_slot d w test update body fitting strict (Stmt q) s e;
        keeps = in_order (Stmt q) (over d) (over w) (for_keeps x d w leaves named test update body a b c q);
        kept = for_kept x d w leaves named test update body a b c;
        less = for_less x d w leaves named test update body r.symbol refl;
        fixed = for_fixed x d w leaves named test update body;
        declares = for_declares x d w leaves named test update body;
        framed = for_frames x d w leaves named test update body;
        bodied = for_bodies x d w leaves named test update body;
        means = λ e u s off. in_statement e q D V.initial (over d) (over w) (same e u s off);
      }

  -- ---- it is lighter

  lighter_there : (q : StmtSeat) → weight (Stmt q) (over w) < weight (Stmt q) (over d)
  lighter_there q = omega (arith, own_for (Stmt q) (outlines (w ▸ rest)) (outlines (d ▸ rest)), next_falls r.kind r.spelling r.symbol r.first r.init r.binds r.value r.last (movable options r.init r.moves) r.once)

-- ---- all

module _ {options : Switches} (V : Assured) (P : Tree → Tree → Type 0) (f : (test update body before after : Tree) (r : Row71PastNext V (without_vars options) (for_loop absent test update body) (before ▸ none) (after ▸ none)) → r.before ≡ none → r.after ≡ none → let x = resolved r.spelling r.symbol in P (for_loop (declared_among r.kind x r.first r.init (declarator r.binds r.value ▸ r.last)) test update body) (for_loop (declaration r.kind (append r.first (declarator r.binds (put_first x r.init r.value) ▸ r.last))) test update body)) where
  pub of_head : (n w : Tree) → PastHeadRow options V n w → P n w
  of_head n w r = by r.row
    where
      by : PastRow V (without_vars options) (for_loop absent r.test r.update r.body) (r.before ▸ none) (r.after ▸ none) → P n w
      by (inl c) = absurd (no_second c.before c.after _ c.head r.before c.shape)
      by (inr c) =
          let over = λ (h : Tree). for_loop h r.test r.update r.body in
          let a = alone_there c.before c.after _ r.before c.shape in
          let b = alone_there c.before c.after _ r.after c.written in
          subst₂ P (sym (r.shape ∙ ap over a.same)) (sym (r.written ∙ ap over b.same)) (f r.test r.update r.body r.before r.after c a.before a.after)

-- what is left of the list is a list of one
pub one_left : (V : Assured) (W : Liberties) (q h : Tree) (us : Trees) → PastRow V W q (h ▸ none) us → us ≡ child_or_absent us 0 ▸ none
one_left V W q h us (inl c) = absurd (no_second c.before c.after _ c.head h c.shape)
one_left V W q h us (inr c) =
    let a = alone_there c.before c.after _ h c.shape in
    let left = declaration c.kind (append c.first (declarator c.binds (put_first (resolved c.spelling c.symbol) c.init c.value) ▸ c.last)) in
    let there : us ≡ left ▸ none = c.written ∙ (λ i. append (a.before i) (left ▸ a.after i)) in
    there ∙ ap (λ t. t ▸ none) (sym (ap (λ ts. child_or_absent ts 0) there))

pub lost_in_head : {options : Switches} (V : Assured) (q : StmtSeat) (n w : Tree) → PastHeadRow options V n w → (k : ℕ) × Lost V k (Stmt q) n w
lost_in_head V q = of_head V (λ n w. (k : ℕ) × Lost V k (Stmt q) n w) (λ test update body before after r f g. (r.symbol, lost_there V test update body before after r f g q))

pub head_lighter : {options : Switches} (V : Assured) (q : StmtSeat) (n w : Tree) → PastHeadRow options V n w → weight (Stmt q) w < weight (Stmt q) n
head_lighter V q = of_head V (λ n w. weight (Stmt q) w < weight (Stmt q) n) (λ test update body before after r f g. lighter_there V test update body before after r f g q)

-- it declares no symbol more often
pub head_bound : {options : Switches} (V : Assured) (n w : Tree) → PastHeadRow options V n w → (k : ℕ) → bindings k w ≤ bindings k n
head_bound V n w r k = omega (arith, rows_bound V (for_loop absent r.test r.update r.body) (r.before ▸ none) (r.after ▸ none) r.row k, ap (bindings k) r.shape, ap (bindings k) r.written)
