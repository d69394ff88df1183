-- What is done in the list of statements of a program is done in the program.
use Rattle.std.proofs.Common.{◌≡◌, ℕ, Bool, true, false, List, [], refl, sym, ap, ◌∙◌, subst, subst₂, arith}
use Rattle.std.proofs.lemmas.Bool.{eqb-true, false≢true}
use Rattle.mini_kept.specs.Without.{Assured, BodySets}
use Rattle.mini_model.specs.declared.place.Position.{Position}
use Rattle.mini_model.specs.declared.place.Position.TheVariants.{Elsewhere, StatementList}
use Rattle.mini_model.specs.declared.shape.Shape.TheVariants as shape
use Rattle.mini_model.specs.Tree.{Tree, Trees, node, none, ◌▸◌, count, children, child_or_absent}
use Rattle.mini_node.specs.Children.{part, number_of, with_child}
use Rattle.mini_node.specs.Lends.{with_children}
use Rattle.mini_rows.specs.OwnPrograms.{program_over, OwnProgram, OwnProgramRow}
use Rattle.mini_rows.specs.Steady.{Begun, nothing_begun, own_rows, OwnRows, ReadsMore, OwnStep}
use Rattle.mini_tree.specs.Rule.{Moves, Applied}
use Rattle.mini_tree.proofs.Reaching.{moves_once, moves_trans}
use Rattle.mini_steady.specs.Chains.{Several, once, again}
use Rattle.mini_steady.specs.Declarations.{declared_in, begun_by}
use Rattle.mini_steady.specs.Own.{KeepsEach, rows_there, OwnWalked}
use Rattle.mini_steady.specs.declared.code.BodyCode.{BodyCode}
use Rattle.mini_steady.specs.Programs.{is_program, AppliedInProgram, ProgramRests, holds_program}
use Rattle.mini_steady.proofs.Declaring.{all_known, several_known}

module _ (F : OwnRows) (keeps : KeepsEach F) (wide : ReadsMore F) (S : BodySets) (m : Bool) (ds : List (List ℕ)) (k : ℕ) where
  step_in : (t u : Tree) → OwnStep (own_rows F t (S k)) nothing_begun StatementList t u → OwnProgramRow F S (program_over m ds k t) (program_over m ds k u)
  step_in t u s = record { is_module = m; directives = ds; number = k; before = t; after = u; step = s; shape = refl; written = refl }

  walked_in : (t u : Tree) (b : Bool) → OwnWalked (own_rows F t (S k)) nothing_begun StatementList t u b → AppliedInProgram F S (program_over m ds k t) (program_over m ds k u) b
  walked_in t u true s = several_known F keeps wide (S k) StatementList (OwnProgramRow F S) (program_over m ds k) step_in t u s
  walked_in t u false (e, rests) =
      (ap (program_over m ds k) e, λ w r. rests r.after (subst (λ z. OwnStep (own_rows F z (S k)) nothing_begun StatementList z r.after) (sym (ap (λ z. part z 0) r.shape)) (subst (λ n. OwnStep (own_rows F r.before (S n)) nothing_begun StatementList r.before r.after) (sym (ap number_of r.shape)) r.step)))

-- a program has one part

one : (ts : Trees) → count ts ≡ 1 → ts ≡ child_or_absent ts 0 ▸ none
one none e = absurd (omega (arith, e))
one (a ▸ none) e = refl
one (a ▸ (b ▸ ts)) e = absurd (omega (arith, e))

record IsProgram (t : Tree) : Type 0 where
  is_module : Bool
  directives : List (List ℕ)
  is : t ≡ program_over is_module directives (number_of t) (part t 0)

program_is : (t : Tree) → is_program t ≡ true → IsProgram t
program_is (node (shape.Program m ds) [] n ts) e = record { is_module = m; directives = ds; is = ap (node (shape.Program m ds) [] n) (one ts (eqb-true (count ts) 1 e)) }
program_is t e = absurd (false≢true e)

pub walked_program : (F : OwnRows) → KeepsEach F → ReadsMore F → (S : BodySets) (t u x : Tree) (c : BodyCode) (ts : Trees) (b : Bool) → is_program t ≡ true → c.number ≡ number_of t → c.declared.items ≡ declared_in (part t 0) → begun_by c ≡ nothing_begun → ts ≡ children t → x ≡ child_or_absent ts 0 → OwnWalked (rows_there F S c) (begun_by c) StatementList x u b → AppliedInProgram F S t (with_children t (with_child ts 0 u)) b
walked_program F keeps wide S t u x c ts b f e d z these child s =
    let P = program_is t f in
    let there = subst (λ z. OwnWalked (rows_there F S c) (begun_by c) StatementList z u b) (child ∙ ap (λ vs. child_or_absent vs 0) these) s in
    let inside = subst₂ (λ (K : Begun → Assured) (L : Begun). OwnWalked (λ M. F (K M)) L StatementList (part t 0) u b) (all_known S c (number_of t) (part t 0) e d) z there in
    subst (λ vs. AppliedInProgram F S t (with_children t (with_child vs 0 u)) b) (sym these)
    (subst (λ z. AppliedInProgram F S z (with_children z (with_child (children z) 0 u)) b) (sym P.is)
    (walked_in F keeps wide S P.is_module P.directives (number_of t) (part t 0) u b inside))

-- ---- as steps of the rule, at a root

module _ (F : OwnRows) (S : BodySets) where
  moves : (t u : Tree) → Several (OwnProgramRow F S) t u → Moves (OwnProgram F S) Elsewhere t u
  moves _ _ (once t u r) = moves_once (OwnProgram F S) Elsewhere t u r
  moves _ _ (again t u v s r) = moves_trans (OwnProgram F S) (moves t u s) (moves_once (OwnProgram F S) Elsewhere u v r)

pub program_applied : (F : OwnRows) (S : BodySets) (p : Position) (t u : Tree) (b : Bool) → holds_program p ≡ true → AppliedInProgram F S t u b → Applied (OwnProgram F S) (ProgramRests F S) p t u b
program_applied F S Elsewhere t u true e s = moves F S t u s
program_applied F S Elsewhere t u false e (same, f) = (same, λ w r. f w r)
program_applied F S p t u b e a = absurd (false≢true e)
