-- A statement that is built anew of the parts of another asks less.
use Rattle.std.specs.Prelude.{ℕ, zero, suc, ◌≡◌, refl, Bool, true, false, ◌&&◌, ◌||◌, []}
use Rattle.std.proofs.Common.{ap, ◌∙◌, sym, subst, inl}
use Rattle.std.proofs.lemmas.Bool.{and_parts}
use Rattle.mini_accept.specs.WellShaped.{Slot, fits}
use Rattle.mini_model.specs.declared.place.Position.TheVariants.{Stmt}
use Rattle.mini_model.specs.declared.seat.StmtSeat.{StmtSeat}
use Rattle.mini_model.specs.Tree.{Tree, Trees, node, shape_of}
use Rattle.mini_laws.specs.Scopes.{opened}
use Rattle.mini_laws.specs.Resolved.{Environment}
use Rattle.mini_laws.specs.ScopeList.{by_symbol}
use Rattle.mini_laws.specs.Mentions.{is_among}
use Rattle.mini_laws.specs.Value.{Declared}
use Rattle.mini_laws.specs.Shared.{names_arguments}
use Rattle.mini_laws.specs.Foreign.{has_number}
use Rattle.mini_shrink.specs.Pace.{AtMost, Setting, below, pace, paces, followed, in_turn}
use Rattle.mini_shrink.specs.Questions.{Own, asks, finds, hands_on, listed_names, early}
use Rattle.mini_shrink.specs.Shrinking.{AsksLess}
use Rattle.mini_shrink.specs.Facts.{Fact, question}
use Rattle.mini_rows.specs.Sketches.{Head, AList, Spread, Interpolation, shape_by, Sketch, part, under, list, Sketches, Parts, filled, all_filled, Asked, AsWhole, parts_of, Free, is_rearranged, stands_well, all_stand_well, asked_below, is_statement_head}
use Rattle.mini_rows.specs.Arranged.{AreLoose}
use Rattle.mini_less.specs.Less.{TellsPlainly}
use Rattle.mini_less.specs.Rebuilt.{rebuilds, RebuiltFlagsLess, StatementsAskLess}
use Rattle.mini_less.specs.Flags.{FlagsLess}
use Rattle.mini_rows.proofs.Arranging.{Any, Each, Local, to_parts, of_parts}
use Rattle.mini_rows.proofs.ArrangedMoves.{forth, anyhow_forth}
use Rattle.mini_rows.proofs.ArrangedPlain.{is_plain}
use Rattle.mini_rows.proofs.ArrangedValues.{suits_anywhere, Valued, head_valued}
use Rattle.mini_kept.specs.KeepsNames.{is_statement_use}
use Rattle.mini_laws.specs.declared.names.Use.{Use}
use Rattle.mini_laws.specs.DeclaredNames.{is_inner}
use Rattle.mini_less.proofs.EachFact.{Unordered, unordered, by_fact, found_less}
use Rattle.mini_less.proofs.Finding.{Lacks, lacks_local, lacks_moves, never}
use Rattle.mini_less.proofs.Flags.{spares_local, numbers_local, root_number}
use Rattle.mini_less.proofs.Headed.{hands_nothing}
use Rattle.mini_less.proofs.Plainly.{is_reads, less_by, Calmly, calm_local, calm_moves, root_ended}

not_listed : (h : Head) → is_statement_head h ≡ true → suits_anywhere h ≡ true
not_listed AList e = absurd (cc e)
not_listed Spread e = absurd (cc e)
not_listed Interpolation e = absurd (cc e)
not_listed h e = refl

not_inner : (h : Head) → is_statement_head h ≡ true → is_inner (shape_by h) ≡ false
not_inner AList e = absurd (cc e)
not_inner h e = refl

-- where a statement stands in a list of declarations doesn't matter to it
pub alone : (b k : ℕ) (c : Setting) (env : Environment) (h : Head) (ts : Trees) → is_statement_head h ≡ true → pace (early b k) c env (node (shape_by h) [] 0 ts) ≡ pace (early b k) (record c { ordered = false }) env (node (shape_by h) [] 0 ts)
unfolding pace
alone b k c env h ts e = λ j. followed ((early b k).before c env (shape_by h) [] 0 ts) (in_turn (shape_by h) (paces (early b k) (opened c.used (shape_by h) ts) (below (by c.ordered j || is_among (by_symbol k) (listed_names c.used (shape_by h) ts)) c (shape_by h) 0) 0 env ts))
  where
    by : (x : Bool) → (hands_on (shape_by h) && x) ≡ (hands_on (shape_by h) && false)
    by x = ap (λ y. y && x) (hands_nothing h e) ∙ sym (ap (λ y. y && false) (hands_nothing h e))

module _ (f : Free) (ps : Parts) (u : AreLoose ps f) (h g : Head) (ss rs : Sketches) (e : rebuilds f AsWhole (under h ss) (under g rs) ≡ true) (q : StmtSeat) (n w : Tree) (a : n ≡ filled ps (under h ss)) (qs : Parts) (v : AreLoose qs f) (change : (strict : Bool) (x : Slot) → fits strict x n ≡ true → (Q : Asked → Tree → Type 0) → Local Any Q → Each Any Q ps (parts_of AsWhole (under g rs)) → Each Any Q qs (parts_of AsWhole (under g rs))) (b : w ≡ filled qs (under g rs)) where
  abbrev s : Sketch
  s = under h ss

  abbrev r : Sketch
  r = under g rs

  sn : stands_well f AsWhole s ≡ true
  sn = (and_parts (stands_well f AsWhole s) (stands_well f AsWhole r && is_rearranged f (parts_of AsWhole s) (parts_of AsWhole r)) e).0

  after : (stands_well f AsWhole r ≡ true) × (is_rearranged f (parts_of AsWhole s) (parts_of AsWhole r) ≡ true)
  after = and_parts (stands_well f AsWhole r) (is_rearranged f (parts_of AsWhole s) (parts_of AsWhole r)) (and_parts (stands_well f AsWhole s) (stands_well f AsWhole r && is_rearranged f (parts_of AsWhole s) (parts_of AsWhole r)) e).1

  first : is_statement_head h ≡ true
  first = (and_parts (is_statement_head h) (all_stand_well f (asked_below h AsWhole) 0 ss) sn).0

  second : is_statement_head g ≡ true
  second = (and_parts (is_statement_head g) (all_stand_well f (asked_below g AsWhole) 0 rs) after.0).0

  valued : (strict : Bool) (x : Slot) → fits strict x n ≡ true → Each Any Valued ps (parts_of AsWhole s)
  valued strict x fit = head_valued ps strict AsWhole x h ss (not_listed h first) (subst (λ t. fits strict x t ≡ true) a fit)

  stands : (v : Use) → (is_inner (shape_of n) || is_statement_use v) ≡ true → is_statement_use v ≡ true
  stands v st = sym (ap (λ b. b || is_statement_use v) (ap (λ t. is_inner (shape_of t)) a ∙ not_inner h first)) ∙ st

  asks_less : (k : ℕ) (o : Own) → TellsPlainly o → Unordered o → AsksLess (asks o) (Declared k) (Stmt q) n w
  asks_less k o p z = record {
    by = λ strict x _ fit c env st _.
        let d : Setting = record c { ordered = false } in
        let less : finds o d env (filled ps s) ≡ false → finds o d env (filled qs r) ≡ false = λ y.
        of_parts Any (Lacks o p c env) (lacks_local o p c env) qs AsWhole r (is_plain f qs v AsWhole r after.0)
        (change strict x fit (Lacks o p c env) (lacks_local o p c env) (forth f ps u (parts_of AsWhole s) (parts_of AsWhole r) after.1 Any (Lacks o p c env) (lacks_moves o p c env (stands c.used st)) (valued strict x fit) (to_parts Any (Lacks o p c env) (lacks_local o p c env) ps AsWhole s (is_plain f ps u AsWhole s sn) y))) in
        inl (found_less o c env n w (never (finds o c env n) (finds o c env w) (λ y.
        unordered o z c false env w ∙ ap (finds o d env) b ∙ less (sym (ap (finds o d env) a) ∙ sym (unordered o z c false env n) ∙ y))));
  }

  early_less : (x m k : ℕ) → AsksLess (early m k) (Declared x) (Stmt q) n w
  early_less x m k = record {
    by = λ strict slot _ fit c env st _.
        let d : Setting = record c { ordered = false } in
        let plain = is_plain f ps u AsWhole s sn in
        let n_is : pace (early m k) c env n ≡ pace (early m k) d env (filled ps s) = ap (pace (early m k) c env) a ∙ alone m k c env h (all_filled ps ss) first in
        let w_is : pace (early m k) c env w ≡ pace (early m k) d env (filled qs r) = ap (pace (early m k) c env) b ∙ alone m k c env g (all_filled qs rs) second in
        let less : is_reads (pace (early m k) d env (filled ps s)) ≡ false → is_reads (pace (early m k) d env (filled qs r)) ≡ false = λ y.
        of_parts Any (Calmly m k c env) (calm_local m k c env) qs AsWhole r (is_plain f qs v AsWhole r after.0)
        (change strict slot fit (Calmly m k c env) (calm_local m k c env) (forth f ps u (parts_of AsWhole s) (parts_of AsWhole r) after.1 Any (Calmly m k c env) (calm_moves m k c env (stands c.used st)) (valued strict slot fit) (to_parts Any (Calmly m k c env) (calm_local m k c env) ps AsWhole s plain y))) in
        inl (subst (λ p. AtMost p (pace (early m k) c env n)) (sym w_is) (subst (AtMost (pace (early m k) d env (filled qs r))) (sym n_is)
        (less_by (pace (early m k) d env (filled qs r)) (pace (early m k) d env (filled ps s)) less (root_ended m k c env AsWhole h (all_filled ps ss) plain.0))));
  }

-- with other parts in place of some, that hold nothing of which those hold nothing
pub changed_asks_less : (f : Free) (ps : Parts) (u : AreLoose ps f) (h g : Head) (ss rs : Sketches) → rebuilds f AsWhole (under h ss) (under g rs) ≡ true → (q : StmtSeat) (n w : Tree) → n ≡ filled ps (under h ss) → (qs : Parts) → AreLoose qs f → ((strict : Bool) (x : Slot) → fits strict x n ≡ true → (Q : Asked → Tree → Type 0) → Local Any Q → Each Any Q ps (parts_of AsWhole (under g rs)) → Each Any Q qs (parts_of AsWhole (under g rs))) → w ≡ filled qs (under g rs) → (x : Fact) (c k : ℕ) → AsksLess (question x c k) (Declared k) (Stmt q) n w
changed_asks_less f ps u h g ss rs e q n w a qs v m b x c k = by_fact (λ y. AsksLess y (Declared k) (Stmt q) n w) (λ o p z. asks_less f ps u h g ss rs e q n w a qs v m b k o p z) (early_less f ps u h g ss rs e q n w a qs v m b k) x c k

pub statements_ask_less : StatementsAskLess
statements_ask_less f ps u (under h ss) (under g rs) e q n w a b x c k = changed_asks_less f ps u h g ss rs e q n w a ps u (λ strict s fit Q l y. y) b x c k
statements_ask_less f ps u (under h ss) (part i) e q n w a b x c k = absurd (cc e)
statements_ask_less f ps u (under h ss) (list is) e q n w a b x c k = absurd (cc e)
statements_ask_less f ps u (part i) r e q n w a b x c k = absurd (cc e)
statements_ask_less f ps u (list is) r e q n w a b x c k = absurd (cc e)

-- ---- `arguments`, and numbers

pub rebuilt_flags : (f : Free) (ps : Parts) → AreLoose ps f → (c : Asked) (s r : Sketch) → rebuilds f c s r ≡ true → has_number 0 (filled ps s) ≡ true → (n w : Tree) → n ≡ filled ps s → w ≡ filled ps r → FlagsLess n w
rebuilt_flags f ps u c s r e x n w a b =
    let (first, y) = and_parts (stands_well f c s) (stands_well f c r && is_rearranged f (parts_of c s) (parts_of c r)) e in
    let (second, z) = and_parts (stands_well f c r) (is_rearranged f (parts_of c s) (parts_of c r)) y in
    record { arguments = never (names_arguments n) (names_arguments w) (λ q. subst (λ t. names_arguments t ≡ false) (sym b) (go first second z (λ t. names_arguments t ≡ false) spares_local (subst (λ t. names_arguments t ≡ false) a q))); number = numbered first second z }
  where
    go : stands_well f c s ≡ true → stands_well f c r ≡ true → is_rearranged f (parts_of c s) (parts_of c r) ≡ true → (P : Tree → Type 0) → Local Any (λ d t. P t) → P (filled ps s) → P (filled ps r)
    go first second z P l q = of_parts Any (λ d t. P t) l ps c r (is_plain f ps u c r second) (anyhow_forth P f ps u (parts_of c s) (parts_of c r) z Any (to_parts Any (λ d t. P t) l ps c s (is_plain f ps u c s first) q))

    numbered : stands_well f c s ≡ true → stands_well f c r ≡ true → is_rearranged f (parts_of c s) (parts_of c r) ≡ true → (k : ℕ) → has_number k w ≡ true → has_number k n ≡ true
    numbered first second z zero v = ap (has_number 0) a ∙ x
    numbered first second z (suc k) v = never (has_number (suc k) n) (has_number (suc k) w) (λ q. subst (λ t. has_number (suc k) t ≡ false) (sym b) (go first second z (λ t. has_number (suc k) t ≡ false) (numbers_local k) (subst (λ t. has_number (suc k) t ≡ false) a q))) v

pub rebuilt_flags_less : RebuiltFlagsLess
rebuilt_flags_less f ps u c h ss r e n w a b = rebuilt_flags f ps u c (under h ss) r e (root_number h (all_filled ps ss)) n w a b
