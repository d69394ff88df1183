-- What is lighter wherever it is made is the first of two that is there.
use Rattle.std.proofs.Common.{◌≡◌, ◌<◌, refl, sym, ap, ◌∙◌, subst, inl, inr}
use Rattle.std.proofs.lemmas.Bool.{lt-ltb}
use Rattle.std.specs.Prelude.{ℕ, Bool, true, [], ◌∷◌, Option, Some, None, if◌then◌else◌}
use Rattle.mini_model.specs.declared.place.Position.{Position}
use Rattle.mini_model.specs.declared.place.Position.TheVariants.{Stmt}
use Rattle.mini_model.specs.declared.seat.StmtSeat.{StmtSeat}
use Rattle.mini_model.specs.Tree.{Tree}
use Rattle.mini_model.specs.Weight.{weight}
use Rattle.mini_rows.specs.Switches.{Switches}
use Rattle.mini_rows.proofs.BranchWeights.{branch_lighter}
use Rattle.mini_rows.proofs.DeclarationWeights.{declarations_lighter}
use Rattle.mini_rows.proofs.ListWeights.{lists_lighter}
use Rattle.mini_log.specs.ListRows.{bare_export, bare_head, bare_let, first_by, gone, in_list, joined, spread, unwrapped}
use Rattle.mini_log.specs.RowStep.{first_lighter, or_lighter}
use Rattle.mini_log.specs.Walk.{or_else}
use Rattle.mini_log.proofs.ListForms.{bares_export, bares_head, bares_let, goes_in_list, joins_in_list, spreads_in_list, unwraps}
use Rattle.mini_checker.specs.Made.{Made}

-- wherever it is there, it is lighter
abbrev pub IsLighter : Position → Tree → Option Tree → Type 0
IsLighter p t o = (u : Tree) → o ≡ Some u → weight p u < weight p t

or_lighter_is : (p : Position) (t : Tree) (o rest : Option Tree) → IsLighter p t o → or_lighter p t o rest ≡ or_else o rest
or_lighter_is p t None rest l = refl
or_lighter_is p t (Some u) rest l = ap (λ b. if b then Some u else rest) (lt-ltb (weight p u) (weight p t) (l u refl))

or_nothing : (o : Option Tree) → or_else o None ≡ o
or_nothing None = refl
or_nothing (Some u) = refl

one_is : (p : Position) (t : Tree) (o : Option Tree) → IsLighter p t o → first_lighter p t (o ∷ []) ≡ o
one_is p t o l = or_lighter_is p t o None l ∙ or_nothing o

two_are : (p : Position) (t : Tree) (o q : Option Tree) → IsLighter p t o → IsLighter p t q → first_lighter p t (o ∷ q ∷ []) ≡ or_else o q
two_are p t o q l m = or_lighter_is p t o (or_lighter p t q None) l ∙ ap (or_else o) (one_is p t q m)

pub one_made : (p : Position) (t u : Tree) (o : Option Tree) (b : Bool) → IsLighter p t o → Made o t u b → Made (first_lighter p t (o ∷ [])) t u b
one_made p t u o b l m = subst (λ x. Made x t u b) (sym (one_is p t o l)) m

pub both_made : (p : Position) (t u : Tree) (o q : Option Tree) (b : Bool) → IsLighter p t o → IsLighter p t q → Made (or_else o q) t u b → Made (first_lighter p t (o ∷ q ∷ [])) t u b
both_made p t u o q b l m n = subst (λ x. Made x t u b) (sym (two_are p t o q l m)) n

-- ---- each form in a list, or of a branch or a body, is

abbrev joining : Bool → Switches
joining b = record { sequences = b; join_vars = b; keep_function_names = b; keep_class_names = b; edition = 2022 }

pub gone_lighter : (p : Position) (t : Tree) (i : ℕ) → IsLighter p t (in_list gone p t i)
gone_lighter p t i u e = lists_lighter (joining true) p t u (goes_in_list (joining true) p t i u e)

pub joined_lighter : (b : Bool) (p : Position) (t : Tree) (i : ℕ) → IsLighter p t (in_list (joined b) p t i)
joined_lighter b p t i u e = lists_lighter (joining b) p t u (joins_in_list (joining b) p t i u e)

pub spread_lighter : (p : Position) (t : Tree) (i : ℕ) → IsLighter p t (in_list spread p t i)
spread_lighter p t i u e = lists_lighter (joining true) p t u (spreads_in_list (joining true) p t i u e)

pub let_lighter : (p : Position) (t : Tree) (i : ℕ) → IsLighter p t (in_list (first_by bare_let) p t i)
let_lighter p t i u e = declarations_lighter p t u (bares_let p t i u e)

pub export_lighter : (p : Position) (t : Tree) (i : ℕ) → IsLighter p t (in_list (first_by bare_export) p t i)
export_lighter p t i u e = declarations_lighter p t u (bares_export p t i u e)

pub head_lighter : (q : StmtSeat) (t : Tree) (i : ℕ) → IsLighter (Stmt q) t (bare_head t i)
head_lighter q t i u e = declarations_lighter (Stmt q) t u (bares_head t i u e)

pub unwrapped_lighter : (q : StmtSeat) (t : Tree) (i : ℕ) → IsLighter (Stmt q) t (unwrapped t i)
unwrapped_lighter q t i u e = branch_lighter (Stmt q) t u (inr (inl (inl (unwraps t i u e))))
