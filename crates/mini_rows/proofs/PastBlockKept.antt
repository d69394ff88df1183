-- What the rows of names that are read behind held names make of a block in the code of a body.
use Rattle.std.specs.Prelude.{ℕ, ◌+◌, ◌<◌, ◌≤◌, ◌≡◌, refl, ◌||◌, Bool, true, false, [], Option, None}
use Rattle.std.proofs.Common.{ap, ◌∙◌, sym, subst, subst₂, arith, inl, inr}
use Rattle.mini_model.specs.declared.name.Name.{Name}
use Rattle.mini_model.specs.declared.place.Position.{Position}
use Rattle.mini_model.specs.declared.place.Position.TheVariants.{Stmt, Elsewhere}
use Rattle.mini_model.specs.declared.seat.StmtSeat.{StmtSeat}
use Rattle.mini_model.specs.declared.seat.StmtSeat.TheVariants as stmt_seat
use Rattle.mini_model.specs.declared.shape.Shape.TheVariants as shape
use Rattle.mini_model.specs.Tree.{Tree, Trees, none, ◌▸◌, listed}
use Rattle.mini_model.specs.Paths.{append}
use Rattle.mini_model.specs.Weight.{weight}
use Rattle.mini_accept.specs.WellShaped.{nested, each, fill}
use Rattle.mini_laws.specs.declared.names.Declared.TheVariants.{Lexical}
use Rattle.mini_laws.specs.Value.{Declared, VariableSet, nothing, is_in}
use Rattle.mini_laws.specs.State.{Environment}
use Rattle.mini_laws.specs.Demand.{Demand, Tail, Stat}
use Rattle.mini_laws.specs.Same.{Same}
use Rattle.mini_laws.specs.Skeleton.{hidden}
use Rattle.mini_laws.specs.Path.{here, inside}
use Rattle.mini_laws.specs.Substitution.{alone}
use Rattle.mini_laws.proofs.Anywhere.{in_each_tail}
use Rattle.mini_laws.proofs.Congruent.{congruent_same, weaker}
use Rattle.mini_laws.proofs.Simulation.{within_refl}
use Rattle.mini_kept.specs.Without.{Assured, Steadies, Permits}
use Rattle.mini_rows.specs.Lists.{block, declaration}
use Rattle.mini_rows.specs.Declarations.{declarator}
use Rattle.mini_rows.specs.Switches.{Switches, without_vars}
use Rattle.mini_rows.specs.Past.{any_bind, begun, PastRow}
use Rattle.mini_rows.specs.PastBlocks.{PastBlockRow}
use Rattle.mini_rows.specs.Steady.{bindings}
use Rattle.mini_rows.specs.Unused.{resolved, declared_among, put_first}
use Rattle.mini_rows.proofs.BlockPlaces.{holds_block, no_list, block_placed, block_asked, elsewhere_weighs}
use Rattle.mini_rows.proofs.PastBound.{rows_bound}
use Rattle.mini_rows.proofs.PastLawful.{list_fits}
use Rattle.mini_rows.proofs.PastLost.{Stands, Lost, names_there}
use Rattle.mini_rows.proofs.PastMeaning.{held_begins, held_off}
use Rattle.mini_rows.proofs.PastStretches.{Behind, behind}
use Rattle.mini_rows.proofs.SingleWeights.{single_falls, next_falls}
use Rattle.mini_rows.proofs.Unbound.{unhidden}
use Rattle.mini_rows.proofs.UnusedKept.{NamesThere, block_kept, block_less}
use Rattle.mini_rows.proofs.UnusedLawful.{item, in_slot, block_bodies, block_frames, block_fixed, block_declares, block_keeps_there, blocks_asked}
use Rattle.mini_rows.proofs.UnusedMeaning.{movable, all_join, list_read}
use Rattle.mini_rows.proofs.UnusedNames.{all_avoided, all_other}
use Rattle.mini_rows.proofs.UnusedWeights.{block_falls}

-- ---- of a list of statements, it means the same where nobody else sees the name

module _ (e : Environment) (V : Assured) (W : VariableSet) (o : Tree) (a b : Trees) (t : Behind V W o a b) (u : Permits W (alone (Declared t.symbol)) e) (s : Steadies V e) where
  abbrev D : VariableSet
  D = alone (Declared t.symbol)

  abbrev ts : Trees
  ts = append t.before (append t.d t.after)

  abbrev us : Trees
  us = append t.before (append t.w t.after)

  abbrev H : VariableSet
  H = begun V ts

  pub list_same : Same e D H (Stat None) (listed ts) (listed us)
  list_same = subst (λ l. Same e D (begun V l) (Stat None) (listed ts) (listed us)) t.read_is (t.same e u s)

-- ---- and of a block

module _ (e : Environment) (V : Assured) (W : VariableSet) (a b : Trees) (t : Behind V W (listed none) a b) (u : Permits W (alone (Declared t.symbol)) e) (s : Steadies V e) where
  abbrev E : VariableSet
  E = alone (Declared t.symbol)

  abbrev A : Trees
  A = append t.before (append t.d t.after)

  abbrev B : Trees
  B = append t.before (append t.w t.after)

  abbrev G : VariableSet
  G = begun V A

  unhidden_there : (j : ℕ) → any_bind j A ≡ false → is_in (Declared j) (hidden (block A)) ≡ false
  unhidden_there j f = unhidden j (block A) (ap (λ b. b || false) f)

  in_tail : (tail : Option Tail) → Same e E G (Stat tail) (block A) (block B)
  in_tail tail =
      let x = resolved t.spelling t.symbol in
      congruent_same e E u.unseen.shared (inside shape.BlockStatement [] 0 none here none) (listed A) (listed B) (tt, tt, tt, tt) (tt, all_join E t.before (append t.w t.after) (all_avoided x t.symbol refl t.before t.earlier) (all_join E t.w t.after t.avoids (all_avoided x t.symbol refl t.after t.later)))
      (list_read e t.spelling t.symbol u.unseen t.before t.after t.d t.w t.read) G (Stat tail) (held_off V A (hidden (block A)) unhidden_there) (in_each_tail e E G (listed A) (listed B) (list_same e V W (listed none) a b t u s) tail)

  at_demand : (d : Demand) → Same e E V.initial d (block A) (block B)
  at_demand = block_asked e E V.initial A B (λ tail. weaker e E E G V.initial (within_refl E) (held_begins V A V.initial (λ x h. h)) (Stat tail) (block A) (block B) (in_tail tail))

-- ---- a block that loses the name with a symbol

module _ (V : Assured) (p : Position) (there : holds_block p ≡ true) (a b : Trees) (t : Behind V nothing (listed none) a b) (n : NamesThere (resolved t.spelling t.symbol) t.d t.w) where
  abbrev x : Name
  x = resolved t.spelling t.symbol

  abbrev first_list : Trees
  first_list = append t.before (append t.d t.after)

  abbrev second_list : Trees
  second_list = append t.before (append t.w t.after)

  these_fit : (strict : Bool) → fill strict (each item) first_list ≡ true → fill strict (each item) second_list ≡ true
  these_fit strict e = sym (ap (fill strict (each item)) t.written_is) ∙ list_fits V nothing (listed none) a b t nested strict (ap (fill strict (each item)) t.read_is ∙ e)

  stands : Stands p (block first_list) (block second_list)
  stands = record {
    placed = block_placed p there first_list second_list;
    no_list = no_list p there;
    no_piece = refl;
    asked = blocks_asked p first_list second_list;
    ported = λ m. (refl, refl);
    undeclared = (refl, refl);
    read = refl;
    kind = refl;
  }

  lost_there : Lost V t.symbol p (block first_list) (block second_list)
  lost_there =
      let f = all_other x Lexical t.before t.earlier in
      let g = all_other x Lexical t.after t.later in
      record {
        stands = stands;
        fitting = λ strict s e. in_slot first_list second_list these_fit strict p s e;
        keeps = block_keeps_there t.spelling t.symbol t.before t.after t.d t.w t.leaves n t.earlier t.later t.declares p there;
        kept = block_kept x t.before t.after t.d t.w t.leaves n f g;
        less = block_less x t.before t.after t.d t.w t.leaves n f g t.symbol refl;
        fixed = block_fixed t.spelling t.symbol t.before t.after t.d t.w t.leaves n t.earlier t.later;
        declares = block_declares t.spelling t.symbol t.before t.after t.d t.w t.leaves n t.earlier t.later;
        framed = block_frames t.spelling t.symbol t.before t.after t.d t.w t.leaves n t.earlier t.later;
        bodied = block_bodies t.spelling t.symbol t.before t.after t.d t.w t.leaves n t.earlier t.later;
        means = λ e u s o d f. at_demand e V nothing a b t u s d;
      }

pub lost_in_block : {options : Switches} (V : Assured) (p : Position) → holds_block p ≡ true → (n w : Tree) → PastBlockRow options V n w → (k : ℕ) × Lost V k p n w
lost_in_block {options = options} V p h n w r =
    let t = behind V (without_vars options) (listed none) r.before r.after r.row in
    let there = lost_there V p h r.before r.after t (names_there V (listed none) r.before r.after r.row) in
    (t.symbol, subst₂ (Lost V t.symbol p) (sym (r.shape ∙ ap block t.read_is)) (sym (r.written ∙ ap block t.written_is)) there)

-- ---- lighter

pub falls : {options : Switches} (V : Assured) (o : Tree) (q : StmtSeat) (ts us : Trees) → PastRow V (without_vars options) o ts us → weight (Stmt q) (block us) + 1 ≤ weight (Stmt q) (block ts)
falls {options = options} V o q ts us (inl r) =
    let less = single_falls q r.before r.kind r.first r.spelling r.symbol r.init r.head r.after (movable options r.init r.moves) r.once in
    omega (arith, less, ap (λ l. weight (Stmt q) (block l)) r.shape, ap (λ l. weight (Stmt q) (block l)) r.written)
falls {options = options} V o q ts us (inr r) =
    let x = resolved r.spelling r.symbol in
    let less = block_falls q r.before r.after (declared_among r.kind x r.first r.init (declarator r.binds r.value ▸ r.last)) (declaration r.kind (append r.first (declarator r.binds (put_first x r.init r.value) ▸ r.last))) refl (next_falls r.kind r.spelling r.symbol r.first r.init r.binds r.value r.last (movable options r.init r.moves) r.once) in
    omega (arith, less, ap (λ l. weight (Stmt q) (block l)) r.shape, ap (λ l. weight (Stmt q) (block l)) r.written)

pub block_lighter : {options : Switches} (V : Assured) (p : Position) → holds_block p ≡ true → (n w : Tree) → PastBlockRow options V n w → weight p w < weight p n
block_lighter V (Stmt q) h n w r = omega (arith, falls V (listed none) q r.before r.after r.row, ap (weight (Stmt q)) r.shape, ap (weight (Stmt q)) r.written)
block_lighter V Elsewhere h n w r = omega (arith, falls V (listed none) stmt_seat.Body r.before r.after r.row, elsewhere_weighs r.before, elsewhere_weighs r.after, ap (weight Elsewhere) r.shape, ap (weight Elsewhere) r.written)
block_lighter V p h n w r = absurd (cc h)

-- it declares no symbol more often
pub block_bound : {options : Switches} (V : Assured) (n w : Tree) → PastBlockRow options V n w → (k : ℕ) → bindings k w ≤ bindings k n
block_bound V n w r k = omega (arith, rows_bound V (listed none) r.before r.after r.row k, ap (bindings k) r.shape, ap (bindings k) r.written)
