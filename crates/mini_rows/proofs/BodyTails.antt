-- The body of a loop does the same where the list in it does at the end of a turn, so also without the `continue;` that ends it.
use Rattle.std.proofs.Common.{◌≡◌, true, List, [], ◌∷◌, Option, Some, refl, sym, ap, ◌∙◌}
use Rattle.mini_model.specs.declared.shape.Shape.TheVariants as shape
use Rattle.mini_model.specs.Tree.{Tree, Trees, none, ◌▸◌, listed, empty_statement}
use Rattle.mini_model.specs.Paths.{append}
use Rattle.mini_laws.specs.State.{State, Completion, stop, either, Environment}
use Rattle.mini_laws.specs.Demand.{Tail, LoopTail, Stat, LabelSet}
use Rattle.mini_laws.specs.Command.{Naming, attempt, run}
use Rattle.mini_laws.specs.Naming.{Summary, summary, facts_all, function_facts, naming}
use Rattle.mini_laws.specs.Replies.{merged}
use Rattle.mini_laws.specs.Statements.{create_functions, block_step}
use Rattle.mini_laws.specs.Step.{step, means, meaning}
use Rattle.mini_laws.proofs.Runs.{either_cong}
use Rattle.mini_laws.proofs.Tailing.{finish, finished, hidden, closed, creates_alone, block_runs}
use Rattle.mini_rows.specs.Lists.{block}
use Rattle.mini_rows.specs.Branches.{Surrounding, around, is_loop, bare_continue}
use Rattle.mini_rows.proofs.BranchMeaning.{SameStatement}
use Rattle.mini_rows.proofs.BranchLoops.{SameTurn, loop_same}
use Rattle.mini_rows.proofs.ListTails.{SameEnd, row_78, end_does, ends_read}

-- ---- a block over a list

module _ (e : Environment) (t : Option Tail) where
  abbrev named : List Summary → Naming
  named is = naming shape.BlockStatement (Stat t) [] 0 is

  in_block : List Summary → Tree → State → Completion (Unit {0})
  in_block is l s = run {q = λ i. Stat t} e (named is) (λ i r z. meaning e (l ▸ none) i (Stat t) r z) (attempt (block_step t (facts_all is)) (merged t)) s

  abbrev created : List Summary → Tree → State → Completion (Unit {0})
  created is l s = run {q = λ i. Stat t} e (named is) (λ i r z. meaning e (l ▸ none) i (Stat t) r z) (create_functions true (function_facts (facts_all is)) 0) s

  in_block_is : (is : List Summary) (l : Tree) (s : State) → in_block is l s ≡ finish t (closed e (named is) (either (created is l (hidden e (named is) s)) (λ u z. means e l (Stat t) [] z) (λ x z. stop x z)))
  unfolding in_block meaning
  in_block_is is l s =
      finished e (named is) (λ i. Stat t) (λ i r z. meaning e (l ▸ none) i (Stat t) r z) t (block_step t (facts_all is)) s
      ∙ ap (finish t) (block_runs e (named is) (λ i q r z. meaning e (l ▸ none) i q r z) t (facts_all is) s)

  lists_alike : (is : List Summary) (l m : Tree) → ((z : State) → means e l (Stat t) [] z ≡ means e m (Stat t) [] z) → (s : State) → in_block is l s ≡ in_block is m s
  lists_alike is l m h s =
      in_block_is is l s
      ∙ ap (λ c. finish t (closed e (named is) (either c (λ u z. means e l (Stat t) [] z) (λ x z. stop x z)))) (creates_alone e (named is) (λ i. Stat t) (λ i. Stat t) _ _ true (function_facts (facts_all is)) 0 (hidden e (named is) s))
      ∙ ap (λ c. finish t (closed e (named is) c)) (either_cong (created is m (hidden e (named is) s)) _ _ _ _ (λ u z. h z) (λ x z. refl))
      ∙ sym (in_block_is is m s)

  -- lists that do the same in a tail, and are read alike
  blocks_alike : (a b : Trees) → summary (listed a) ≡ summary (listed b) → ((z : State) → means e (listed a) (Stat t) [] z ≡ means e (listed b) (Stat t) [] z) → (r : LabelSet) (s : State) → means e (block a) (Stat t) r s ≡ means e (block b) (Stat t) r s
  unfolding means step in_block
  blocks_alike a b u h r s = ap (λ i. in_block (i ∷ []) (listed a) s) u ∙ lists_alike (summary (listed b) ∷ []) (listed a) (listed b) h s

-- ---- statements at the end of a turn

pub ends_turn : (before a b : Trees) → SameEnd LoopTail a b → SameTurn (block (append before a)) (block (append before b))
ends_turn before a b same = record { by = λ e s. blocks_alike e (Some LoopTail) (append before a) (append before b) (ends_read before a b same.read) (λ z. end_does LoopTail before a b same e [] z) [] s }

append_none : (ts : Trees) → append ts none ≡ ts
append_none none = refl
append_none (t ▸ ts) = ap (λ us. t ▸ us) (append_none ts)

-- 78
pub row_78_block : (k : Surrounding) (ts : Trees) → is_loop k ≡ true → SameStatement (around k (block (append ts (bare_continue ▸ none)))) (around k (block ts))
row_78_block k ts h =
    loop_same k (block (append ts (bare_continue ▸ none))) (block ts) h
    (record { by = λ e s. (ends_turn ts (bare_continue ▸ none) none (row_78 LoopTail (bare_continue ▸ none) none (record { shape = refl; written = refl }))).by e s ∙ ap (λ us. means e (block us) (Stat (Some LoopTail)) [] s) (append_none ts) })

continue_is : (e : Environment) (s : State) → means e bare_continue (Stat (Some LoopTail)) [] s ≡ means e empty_statement (Stat (Some LoopTail)) [] s
unfolding means meaning step either
continue_is e s = refl

pub row_78_whole : (k : Surrounding) → is_loop k ≡ true → SameStatement (around k bare_continue) (around k empty_statement)
row_78_whole k h = loop_same k bare_continue empty_statement h (record { by = continue_is })
