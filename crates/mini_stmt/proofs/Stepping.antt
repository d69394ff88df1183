-- Steps of the rows over a list.
use Rattle.std.proofs.Common.{◌≡◌, ◌<◌, Bool, true, false, refl, sym, ap, ◌∙◌, subst, inl, arith}
use Rattle.std.specs.Prelude.{◌||◌}
use Rattle.std.proofs.lemmas.Bool.{and_parts}
use Rattle.mini_model.specs.declared.place.Position.TheVariants.{StatementList}
use Rattle.mini_model.specs.Tree.{Tree, Trees, node, none, ◌▸◌, listed, children, node_count, node_counts}
use Rattle.mini_model.specs.Paths.{append}
use Rattle.mini_model.specs.Rewriting.{Step, here, Reaches, done, more}
use Rattle.mini_node.specs.Children.{part}
use Rattle.mini_node.specs.Kinds.{is_listed, is_empty_statement, is_if_statement}
use Rattle.mini_node.specs.Made.{listed_is, if_statement_is}
use Rattle.mini_node.specs.Walks.{append_one}
use Rattle.mini_rows.specs.Switches.{Switches}
use Rattle.mini_rows.specs.Lists.{StretchRow, NeighbourRow, ListRow, ListContracts}
use Rattle.mini_rows.proofs.ListWeights.{lists_lighter}
use Rattle.mini_stmt.specs.declared.lead.Lead.{Lead}
use Rattle.mini_stmt.specs.JoinJumps.{test_alone}
use Rattle.mini_stmt.specs.SplitIf.{splits, without_alternate}
use Rattle.mini_stmt.specs.SpreadBlock.{spreads, body_of}
use Rattle.mini_stmt.specs.MinimizeStatements.{Moves, Changes, Minimized, JoinsStatements, Placed, is_read, lead_of, joins, joined_to, jumps_anyway, is_quiet, last_lead, StretchRests}
use Rattle.mini_stmt.proofs.Parts.{below}
use Rattle.mini_stmt.proofs.Follows.{joins_are, jumps_are, empty_row, spread_row, split_row}
use Rattle.mini_stmt.proofs.Quiet.{last_of, quiet_push, quiet_pop, quiet_tested, quiet_rests}

in_list : (o : Switches) (before a b after : Trees) → NeighbourRow o a b → ListRow o StatementList (listed (append before (append a after))) (listed (append before (append b after)))
in_list o before a b after r = record { before = before; read = a; put = b; after = after; row = r; shape = refl; written = refl }

pub neighbours_in : (o : Switches) (before a b after : Trees) → NeighbourRow o a b → Step (ListContracts o) StatementList (listed (append before (append a after))) (listed (append before (append b after)))
neighbours_in o before a b after r =
    let row = in_list o before a b after r in
    here StatementList (listed (append before (append a after))) (listed (append before (append b after))) (record { row = row; lighter = lists_lighter o StatementList _ _ row })

pub step_in : (o : Switches) (before a b after : Trees) → StretchRow o a b → Step (ListContracts o) StatementList (listed (append before (append a after))) (listed (append before (append b after)))
step_in o before a b after r = neighbours_in o before a b after (inl r)

reaches_on : (o : Switches) (t u v : Tree) → Reaches (ListContracts o) StatementList t u → Reaches (ListContracts o) StatementList u v → Reaches (ListContracts o) StatementList t v
reaches_on o t u v (done p x) r = r
reaches_on o t u v (more p x y z s k) r = more StatementList x y v s (reaches_on o y z v k r)

moves_on : (o : Switches) (t u v : Tree) → Moves o t u → Reaches (ListContracts o) StatementList u v → Moves o t v
moves_on o t u v m r = record { next = m.next; step = m.step; others = reaches_on o m.next u v m.others r }

moves_reach : (o : Switches) (t u : Tree) → Moves o t u → Reaches (ListContracts o) StatementList t u
moves_reach o t u m = more StatementList t m.next u m.step m.others

-- one after another
pub changes_on : (o : Switches) (t u v : Trees) (a b : Bool) → Changes o t u a → Changes o u v b → Changes o t v (a || b)
changes_on o t u v true true m n = moves_on o (listed t) (listed u) (listed v) m (moves_reach o (listed u) (listed v) n)
changes_on o t u v true false m e = subst (λ x. Moves o (listed t) (listed x)) (sym e) m
changes_on o t u v false b e n = subst (λ x. Changes o x v b) e n

-- by a step
pub steps_on : (o : Switches) (t u : Trees) → Step (ListContracts o) StatementList (listed t) (listed u) → Changes o t u true
steps_on o t u s = record { next = listed u; step = s; others = done StatementList (listed u) }

pub changes_step : (o : Switches) (t u v : Trees) (a : Bool) → Changes o t u a → Step (ListContracts o) StatementList (listed u) (listed v) → Changes o t v true
changes_step o t u v true m s = changes_on o t u v true true m (steps_on o u v s)
changes_step o t u v false e s = changes_on o t u v false true e (steps_on o u v s)

-- the node of the list
pub node_minimized : (o : Switches) (t u : Tree) (b : Bool) → is_listed t ≡ true → u ≡ listed (children u) → Minimized o (children t) (children u) b → JoinsStatements o t u b
node_minimized o t u true l e m = subst (λ x. Moves o x u) (sym (listed_is t l)) (subst (Moves o (listed (children t))) (sym e) m.changes)
node_minimized o t u false l e m = (e ∙ ap listed m.changes ∙ sym (listed_is t l), subst (StretchRests o StatementList) (sym (listed_is t l)) (quiet_rests o (children t) (sym (ap (is_quiet o) m.changes) ∙ m.quiet) StatementList))

pub quiet_minimized : (o : Switches) (t : Tree) → is_listed t ≡ true → is_quiet o (children t) ≡ true → JoinsStatements o t t false
quiet_minimized o t l q = (refl, subst (StretchRests o StatementList) (sym (listed_is t l)) (quiet_rests o (children t) q StatementList))

-- no row reads what is no list
pub other_minimized : (o : Switches) (t : Tree) → is_listed t ≡ false → JoinsStatements o t t false
other_minimized o t l = (refl, λ w r. absurd (cc (sym (ap is_listed r.shape) ∙ l)))

-- ---- a statement after the others

pub placed_apart : (o : Switches) (before : Trees) (t : Tree) (after : Trees) → joins o (last_lead before) t ≡ false → jumps_anyway o (last_lead before) t ≡ false → after ≡ append before (t ▸ none) → Placed o before t after false
placed_apart o before t after h k e = record {
  changes = λ rest. ap (λ x. append x rest) e ∙ append_one before t rest;
  quiet = λ q r. ap (is_quiet o) e ∙ quiet_push o before t q r h k;
}

pub placed_tested : (o : Switches) (before init : Trees) (last t : Tree) (mid after : Trees) → jumps_anyway o (last_lead before) t ≡ true → before ≡ append init (last ▸ none) → mid ≡ append init (test_alone last ▸ none) → after ≡ append mid (t ▸ none) → Placed o before t after true
placed_tested o before init last t mid after h e f g =
    let lead = ap last_lead e ∙ last_of init last in
    let jumps = sym (ap (λ l. jumps_anyway o l t) lead) ∙ h in
    let tested = jumps_are o last t jumps in
    record {
      changes = λ rest. subst (λ x. Changes o x (append after rest) true) (sym (ap (λ x. append x (t ▸ rest)) e ∙ append_one init last (t ▸ rest)))
          (subst (λ x. Changes o (append init (last ▸ (t ▸ rest))) x true) (sym (ap (λ x. append x rest) g ∙ append_one mid t rest ∙ ap (λ x. append x (t ▸ rest)) f ∙ append_one init (test_alone last) (t ▸ rest)))
          (steps_on o (append init (last ▸ (t ▸ rest))) (append init (test_alone last ▸ (t ▸ rest))) (step_in o init (last ▸ (t ▸ none)) (test_alone last ▸ (t ▸ none)) rest tested.row)));
      quiet = λ q r. ap (is_quiet o) (g ∙ ap (λ x. append x (t ▸ none)) f) ∙ quiet_tested o init last t jumps (sym (ap (is_quiet o) e) ∙ q) r;
    }

-- a statement on its way: what stands before it, and what it was joined to
pub record Joining (o : Switches) (start : Trees) (t : Tree) (before : Trees) (current : Tree) (lead : Lead) (changed : Bool) : Type 0 where
  pub lead_is : lead ≡ last_lead before
  pub changes : (rest : Trees) → Changes o (append start (t ▸ rest)) (append before (current ▸ rest)) changed
  pub quiet : is_quiet o start ≡ true → is_quiet o before ≡ true
  pub read : is_read o t ≡ false → is_read o current ≡ false

pub joining_start : (o : Switches) (start : Trees) (t : Tree) (lead : Lead) → lead ≡ last_lead start → Joining o start t start t lead false
joining_start o start t lead e = record { lead_is = e; changes = λ rest. refl; quiet = λ q. q; read = λ r. r }

pub joining_next : (o : Switches) (start : Trees) (t : Tree) (before : Trees) (current : Tree) (lead : Lead) (changed : Bool) (init : Trees) (last w : Tree) (next : Lead) → Joining o start t before current lead changed → joins o lead current ≡ true → before ≡ append init (last ▸ none) → w ≡ joined_to lead last current → next ≡ last_lead init → Joining o start t init w next true
joining_next o start t before current lead changed init last w next j h e f g =
    let is = j.lead_is ∙ ap last_lead e ∙ last_of init last in
    let joined = joins_are o last current (sym (ap (λ l. joins o l current) is) ∙ h) in
    let made = f ∙ ap (λ l. joined_to l last current) is in
    record {
      lead_is = g;
      changes = λ rest. changes_step o (append start (t ▸ rest)) (append before (current ▸ rest)) (append init (w ▸ rest)) changed (j.changes rest)
          (subst (λ x. Step (ListContracts o) StatementList (listed x) (listed (append init (w ▸ rest)))) (sym (ap (λ x. append x (current ▸ rest)) e ∙ append_one init last (current ▸ rest)))
          (subst (λ x. Step (ListContracts o) StatementList (listed (append init (last ▸ (current ▸ rest)))) (listed (append init (x ▸ rest)))) (sym made)
          (step_in o init (last ▸ (current ▸ none)) (joined_to (lead_of last) last current ▸ none) rest joined.row)));
      quiet = λ q. (quiet_pop o init last (sym (ap (is_quiet o) e) ∙ j.quiet q)).quiet;
      read = λ r. ap (is_read o) made ∙ joined.rests (j.read r);
    }

pub joining_end : (o : Switches) (start : Trees) (t : Tree) (before : Trees) (current : Tree) (lead : Lead) (a : Bool) (after : Trees) (b : Bool) → Joining o start t before current lead a → Placed o before current after b → Placed o start t after (a || b)
joining_end o start t before current lead a after b j p = record {
  changes = λ rest. changes_on o (append start (t ▸ rest)) (append before (current ▸ rest)) (append after rest) a b (j.changes rest) (p.changes rest);
  quiet = λ q r. p.quiet (j.quiet q) (j.read r);
}

-- ---- the next statement

pub empty_goes : (o : Switches) (before : Trees) (t : Tree) (rest : Trees) → is_empty_statement t ≡ true → Changes o (append before (t ▸ rest)) (append before rest) true
empty_goes o before t rest e = steps_on o (append before (t ▸ rest)) (append before rest) (step_in o before (t ▸ none) none rest (empty_row o t e))

pub block_goes : (o : Switches) (before : Trees) (t : Tree) (rest others : Trees) → spreads t ≡ true → others ≡ append (body_of t) rest → Changes o (append before (t ▸ rest)) (append before others) true
block_goes o before t rest others e f = subst (λ x. Changes o (append before (t ▸ rest)) (append before x) true) (sym f) (steps_on o (append before (t ▸ rest)) (append before (append (body_of t) rest)) (step_in o before (t ▸ none) (body_of t) rest (spread_row o t e)))

pub alternate_goes : (o : Switches) (before : Trees) (t first other : Tree) (rest others after : Trees) (b : Bool) → o.sequences ≡ true → splits t ≡ true → first ≡ without_alternate t → other ≡ part t 2 → others ≡ other ▸ rest → Placed o before first after b → Changes o (append before (t ▸ rest)) (append after others) true
alternate_goes o before t first other rest others after b s e f g h p =
    let split = steps_on o (append before (t ▸ rest)) (append before (without_alternate t ▸ (part t 2 ▸ rest))) (step_in o before (t ▸ none) (without_alternate t ▸ (part t 2 ▸ none)) rest (split_row o t s e)) in
    let there = subst (λ x. Changes o (append before (t ▸ rest)) (append before (x ▸ (part t 2 ▸ rest))) true) (sym f) split in
    let here = subst (λ x. Changes o (append before (t ▸ rest)) (append before (first ▸ x)) true) (sym (h ∙ ap (λ x. x ▸ rest) g)) there in
    changes_on o (append before (t ▸ rest)) (append before (first ▸ others)) (append after others) true b here (p.changes others)

pub body_smaller : (t : Tree) → node_counts (body_of t) < node_count t
body_smaller (node h xs n none) = omega arith
body_smaller (node h xs n (c ▸ ts)) = let inner = below c in omega (arith, inner)

pub alternate_smaller : (t : Tree) → splits t ≡ true → node_count (part t 2) < node_count t
alternate_smaller t e = let same = ap node_count (if_statement_is t (and_parts (is_if_statement t) _ e).0) in omega (arith, same)
