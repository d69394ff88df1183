-- The body of a `do` whose test is false is run once, so also without the `break;` that ends it.
use Rattle.std.proofs.Common.{◌≡◌, [], Some, None, refl, sym, ap, ◌∙◌, inl, inr}
use Rattle.mini_model.specs.Tree.{Tree, Trees, none, ◌▸◌, empty_statement}
use Rattle.mini_model.specs.Paths.{append}
use Rattle.mini_laws.specs.Value.{Value, truth}
use Rattle.mini_laws.specs.State.{State, ok, either, Environment}
use Rattle.mini_laws.specs.Demand.{Test, LoopTail, Stat}
use Rattle.mini_laws.specs.Step.{means}
use Rattle.mini_laws.specs.Stretches as stretch
use Rattle.mini_laws.specs.Tails.{ends_in, GivesFalse}
use Rattle.mini_laws.specs.Truth.{told}
use Rattle.mini_laws.proofs.Breaking.{do_same}
use Rattle.mini_laws.proofs.Tailing.{tail_same}
use Rattle.mini_laws.proofs.Truth.{coherent}
use Rattle.mini_rows.specs.Branches.{DoBody, around, IsFalse}
use Rattle.mini_rows.specs.Lists.{block}
use Rattle.mini_rows.specs.Loops.{bare_break}
use Rattle.mini_rows.proofs.BranchLoops.{loop_same, row_79}
use Rattle.mini_rows.proofs.BranchMeaning.{SameStatement, equal_statement, empty_does}
use Rattle.mini_rows.proofs.ConstantRuns.{operand_done}

-- a test that gives a false value in each state fails in each
told_value : (v : Value) (s : State) → told Test (ok v s) ≡ ok (truth v) s
unfolding told either
told_value v s = refl

gives_false : (e : Environment) (t : Tree) → IsFalse t → GivesFalse e t
gives_false e t h s =
    coherent t Test e s
    ∙ ap (told Test) (operand_done e t h.value h.is s)
    ∙ told_value h.value s
    ∙ ap (λ b. ok b s) h.fails

appended : (a b : Trees) → append a b ≡ stretch.append a b
appended none b = refl
appended (t ▸ a) b = ap (λ us. t ▸ us) (appended a b)

-- 78
pub row_78_once : (test : Tree) (ts : Trees) → IsFalse test → SameStatement (around (DoBody test) (block (append ts (bare_break ▸ none)))) (around (DoBody test) (block ts))
row_78_once test ts h = equal_statement _ _ (λ e r s. ap (λ us. means e (around (DoBody test) (block us)) (Stat None) r s) (appended ts (bare_break ▸ none)) ∙ do_same e test (gives_false e test h) r ts s) refl

empty_turn : (e : Environment) (s : State) → means e (block none) (Stat (Some LoopTail)) [] s ≡ means e empty_statement (Stat (Some LoopTail)) [] s
empty_turn e s =
    tail_same e (block none) (Some LoopTail) [] s
    ∙ ap (λ x. either x (λ u z. ok tt z) (ends_in (Some LoopTail))) (empty_does e (block none) (inr refl) [] s ∙ sym (empty_does e empty_statement (inl refl) [] s))
    ∙ sym (tail_same e empty_statement (Some LoopTail) [] s)

pub row_78_never : (test : Tree) → IsFalse test → SameStatement (around (DoBody test) bare_break) (around (DoBody test) empty_statement)
row_78_never test h =
    let wrapped = row_79 (DoBody test) bare_break refl in
    let once = row_78_once test none h in
    let emptied = loop_same (DoBody test) (block none) empty_statement refl (record { by = empty_turn }) in
    record { by = λ e t r s. sym (wrapped.by e t r s) ∙ once.by e t r s ∙ emptied.by e t r s; read = refl }
