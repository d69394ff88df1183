-- A row of a log writes what a row of the rewrites says.
use Rattle.std.proofs.Common.{◌≡◌, ◌<◌, ◌⊎◌, refl, subst, inl, inr, arith}
use Rattle.std.specs.Prelude.{ℕ, zero, suc, nat_lt, Bool, true, false, List, [], ◌∷◌, Option, Some, None, if◌then◌else◌}
use Rattle.std.proofs.lemmas.Bool.{ltb-true}
use Rattle.std.proofs.lemmas.Option.{none-some, same_Some}
use Rattle.mini_model.specs.declared.place.Position.{Position}
use Rattle.mini_model.specs.declared.place.Position.TheVariants.{Expr, Stmt}
use Rattle.mini_model.specs.Paths.{Path}
use Rattle.mini_model.specs.Position.{is_and_or}
use Rattle.mini_model.specs.Redex as first
use Rattle.mini_model.specs.Tree.{Tree}
use Rattle.mini_model.specs.Weight.{weight}
use Rattle.mini_laws.specs.Value.{VariableSet}
use Rattle.mini_rows.specs.Branches.{BranchRow}
use Rattle.mini_rows.specs.Choices.{ChoiceRow, Shorter, TestedBranch, SharedBranch, BothSides, Rotated, OrTest, AndTest, AndBoth, OrEither, Alike}
use Rattle.mini_rows.specs.Constants.{ConstantRow}
use Rattle.mini_rows.specs.Declarations.{DeclarationRow}
use Rattle.mini_rows.specs.Editions.{HasEach}
use Rattle.mini_rows.proofs.Latest.{latest_has_each}
use Rattle.mini_rows.specs.Folding.{FoldingRow}
use Rattle.mini_rows.specs.Lists.{ListRow}
use Rattle.mini_rows.specs.Negations.{NegationRow}
use Rattle.mini_rows.specs.Operands.{OperandRow, EmptyText}
use Rattle.mini_rows.specs.Redex.{Row, Rewrites, AsTest, AsSpelling, AsBranch, AsList, AsChoice, AsDeclaration, AsFolding, AsTurn, AsConstant, AsOperand, AsNegation}
use Rattle.mini_rows.specs.Spellings.{SpellingRow, ShortBoolean, DottedMember, DottedTarget, DottedUpdate, LooseLeft, LooseRight, SwappedEquality, BareYield, OrderedTypeof, PlainTemplate, ComparedWithVoid}
use Rattle.mini_rows.specs.Switches.{Switches, of_every_edition}
use Rattle.mini_rows.specs.Turns.{TurnRow}
use Rattle.mini_rows.specs.Writes.{WriteRow}
use Rattle.mini_log.specs.declared.row.LogRow.{LogRow}
use Rattle.mini_log.specs.declared.row.LogRow.TheVariants as row
use Rattle.mini_log.specs.KnownRows.{is_coalesce}
use Rattle.mini_log.specs.RowStep.{node_forms, held_forms, export_forms, forms, first_lighter, row_at}
use Rattle.mini_log.proofs.KnownForms.{folds_unary, folds_binary, stays_before, stays_behind, stops_at, passes, evaluates_both, holds_one, holds_both}
use Rattle.mini_log.proofs.ChoiceForms.{negates, rotates, swaps, swaps_equal, owns_consequent, owns_alternate, holds_alternate, holds_consequent}
use Rattle.mini_log.proofs.IfForms.{chooses_between, disjoins, conjoins, else_conjoins, else_disjoins}
use Rattle.mini_log.proofs.SpellingForms.{untemplates, dots, dots_target, dots_update, combines, turns, orders, compares, nulls_left, nulls_right, returns_bare, yields_bare, spells_digit}
use Rattle.mini_log.proofs.ListForms.{bares_let, bares_export, bares_head, goes_in_list, joins_in_list, spreads_in_list, unwraps}

-- the families of which the rows of a log are
pub data Known (o : Switches) (W : VariableSet) (p : Position) (n w : Tree) : Type 0 where
  of_first : first.Row p n w → Known o W p n w
  of_spellings : SpellingRow p n w → Known o W p n w
  of_branches : BranchRow p n w → Known o W p n w
  of_lists : ListRow o p n w → Known o W p n w
  of_choices : ChoiceRow p n w → Known o W p n w
  of_declarations : DeclarationRow p n w → Known o W p n w
  of_foldings : FoldingRow p n w → Known o W p n w
  of_turns : TurnRow p n w → Known o W p n w
  of_constants : ConstantRow p n w → Known o W p n w
  of_operands : OperandRow p n w → Known o W p n w
  of_negations : NegationRow p n w → Known o W p n w
  of_writes : WriteRow W p n w → Known o W p n w

-- each form that is there and lighter is one
abbrev EachIs : (Tree → Type 0) → Position → Tree → List (Option Tree) → Type 0
EachIs R p t [] = Unit {0}
EachIs R p t (x ∷ xs) = ((w : Tree) → x ≡ Some w → weight p w < weight p t → R w) × EachIs R p t xs

lighter_or : (R : Tree → Type 0) (p : Position) (t v : Tree) (rest : Option Tree) (w : Tree) (b : Bool) → nat_lt (weight p v) (weight p t) ≡ b → (weight p v < weight p t → R v) → (if b then Some v else rest) ≡ Some w →
    (rest ≡ Some w → R w × (weight p w < weight p t)) → R w × (weight p w < weight p t)
lighter_or R p t v rest w true less r e k =
    let falls : weight p v < weight p t = omega (arith, ltb-true (weight p v) (weight p t) less) in
    subst (λ u. R u × (weight p u < weight p t)) (same_Some v w e) (r falls, falls)
lighter_or R p t v rest w false less r e k = k e

is_lighter : (R : Tree → Type 0) (p : Position) (t : Tree) (xs : List (Option Tree)) → EachIs R p t xs → (w : Tree) → first_lighter p t xs ≡ Some w → R w × (weight p w < weight p t)
is_lighter R p t [] each w e = absurd (none-some w e)
is_lighter R p t (None ∷ xs) (x, each) w e = is_lighter R p t xs each w e
is_lighter R p t (Some v ∷ xs) (x, each) w e = lighter_or R p t v (first_lighter p t xs) w (nat_lt (weight p v) (weight p t)) refl (x v refl) e (is_lighter R p t xs each w)

module _ (o : Switches) (W : VariableSet) where
  -- of a sum of two rows
  either_row : {A B : Type 0} (p : Position) (t w : Tree) → (A → Known o W p t w) → (B → Known o W p t w) → A ⊎ B → Known o W p t w
  either_row p t w f g (inl r) = f r
  either_row p t w f g (inr r) = g r

  node_rows : (r : LogRow) (p : Position) (t : Tree) → EachIs (Known o W p t) p t (node_forms W r p t)
  node_rows row.Row1 (Expr s) t = (λ w e l. of_constants (inl (folds_unary s t w e)), tt)
  node_rows row.Row3 (Expr s) t = (λ w e l. of_constants (inl (folds_binary s t w e)), tt)
  node_rows row.Row7 (Expr s) t = (λ w e l. of_operands (EmptyText (stays_before s t w e)), (λ w e l. of_operands (EmptyText (stays_behind s t w e)), tt))
  node_rows row.Row12 (Expr s) t = (λ w e l. of_foldings (inr (inl (stops_at is_and_or s t w e))), tt)
  node_rows row.Row13 (Expr s) t = (λ w e l. of_foldings (inl (passes is_and_or s t w e)), (λ w e l. of_choices (BothSides (evaluates_both is_and_or t w e)), tt))
  node_rows row.Row15 (Expr s) t = (λ w e l. of_foldings (inl (passes is_coalesce s t w e)), (λ w e l. of_choices (BothSides (evaluates_both is_coalesce t w e)), (λ w e l. of_foldings (inr (inl (stops_at is_coalesce s t w e))), tt)))
  node_rows row.Row19 (Expr s) t = (λ w e l. of_spellings (PlainTemplate (untemplates t w e)), tt)
  node_rows row.Row23 (Expr s) t = (λ w e l. either_row (Expr s) t w (λ r. of_first (inl r)) of_negations (negates s t w e l), tt)
  node_rows row.Row33 (Expr s) t = (λ w e l. of_spellings (DottedMember (dots t w e)), (λ w e l. of_spellings (DottedTarget (dots_target t w e)), (λ w e l. of_spellings (DottedUpdate (dots_update t w e)), tt)))
  node_rows row.Row34 (Expr s) t = (λ w e l. of_writes (inl (combines W t w e)), tt)
  node_rows row.Row39 (Expr s) t = (λ w e l. of_choices (Shorter (Rotated (rotates t w e))), tt)
  node_rows row.Row40 (Expr s) t = (λ w e l. of_first (inr (swaps t w e)), (λ w e l. of_turns (swaps_equal t w e), tt))
  node_rows row.Row41 (Expr s) t = (λ w e l. of_choices (TestedBranch (OrTest (owns_consequent t w e))), (λ w e l. of_choices (TestedBranch (AndTest (owns_alternate t w e))), tt))
  node_rows row.Row42 (Expr s) t = (λ w e l. of_choices (SharedBranch (AndBoth (holds_alternate t w e))), (λ w e l. of_choices (SharedBranch (OrEither (holds_consequent t w e))), tt))
  node_rows row.Row49 (Expr s) t = (λ w e l. of_foldings (inr (inr (inr (inl (holds_one s t w e))))), (λ w e l. of_choices (SharedBranch (Alike (holds_both t w e))), tt))
  node_rows row.Row54 (Expr s) t = (λ w e l. of_spellings (SwappedEquality (turns t w e)), tt)
  node_rows row.Row55 (Expr s) t = (λ w e l. of_spellings (OrderedTypeof (orders t w e)), (λ w e l. of_spellings (ComparedWithVoid (compares t w e)), tt))
  node_rows row.Row58 (Expr s) t = (λ w e l. of_spellings (LooseLeft (nulls_left t w e)), (λ w e l. of_spellings (LooseRight (nulls_right t w e)), tt))
  node_rows row.Row60 (Expr s) t = (λ w e l. of_spellings (BareYield (yields_bare t w e)), tt)
  node_rows row.Row60 (Stmt q) t = (λ w e l. of_branches (inl (inl (returns_bare t w e))), tt)
  node_rows row.Row65 (Expr s) t = (λ w e l. of_spellings (ShortBoolean (spells_digit t w e)), tt)
  node_rows row.Row82 (Stmt q) t = (λ w e l. of_first (inl (chooses_between t w e)), (λ w e l. either_row (Stmt q) t w (λ r. of_first (inr (inr r))) (λ r. of_branches (inr (inr (inr (inr (inl r)))))) (disjoins t w e), (λ w e l. of_first (inr (inl (conjoins t w e))), (λ w e l. either_row (Stmt q) t w (λ r. of_branches (inr (inr (inl (inr r))))) (λ r. of_branches (inr (inr (inr (inr (inr r)))))) (else_conjoins t w e), (λ w e l. of_branches (inr (inr (inl (inl (else_disjoins t w e))))), tt)))))
  node_rows _ _ t = tt

  held_rows : (r : LogRow) (p : Position) (t : Tree) (i : ℕ) → EachIs (Known o W p t) p t (held_forms o.sequences r p t i)
  held_rows row.Row61 (Stmt q) t i = (λ w e l. of_declarations (bares_head t i w e), tt)
  held_rows row.Row61 p t i = (λ w e l. of_declarations (bares_let p t i w e), tt)
  held_rows row.Row66 p t i = (λ w e l. of_lists (goes_in_list o p t i w e), (λ w e l. of_lists (joins_in_list o p t i w e), tt))
  held_rows row.Row79 (Stmt q) t i = (λ w e l. of_branches (inr (inl (inl (unwraps t i w e)))), tt)
  held_rows row.Row79 p t i = (λ w e l. of_lists (spreads_in_list o p t i w e), tt)
  held_rows _ p t i = tt

  export_rows : (r : LogRow) (p : Position) (t : Tree) (i : ℕ) → EachIs (Known o W p t) p t (export_forms r p t i)
  export_rows row.Row61 p t i = (λ w e l. of_declarations (bares_export p t i w e), tt)
  export_rows _ p t i = tt

  rows_of : (r : LogRow) (p : Position) (t : Tree) (q : Path) → EachIs (Known o W p t) p t (forms o.sequences W r p t q)
  rows_of r p t [] = node_rows r p t
  rows_of r p t (i ∷ []) = held_rows r p t i
  rows_of r p t (i ∷ (zero ∷ [])) = export_rows r p t i
  rows_of r p t (i ∷ (zero ∷ (k ∷ q))) = tt
  rows_of r p t (i ∷ (suc j ∷ q)) = tt

  -- what a row of a log writes
  pub record Falls (p : Position) (t w : Tree) : Type 0 where
    pub row : Known o W p t w
    pub lighter : weight p w < weight p t

  pub falls : (r : LogRow) (p : Position) (t : Tree) (q : Path) (w : Tree) → row_at o.sequences W r p t q ≡ Some w → Falls p t w
  falls r p t q w e =
      let (row, less) = is_lighter (Known o W p t) p t (forms o.sequences W r p t q) (rows_of r p t q) w e in
      record { row = row; lighter = less }

  pub rewrites : (p : Position) (n w : Tree) → Known o W p n w → weight p w < weight p n → Rewrites (of_every_edition o) W p n w
  rewrites p n w k l = go k
    where
      latest : HasEach 2022
      latest = latest_has_each 2022 (omega arith)

      by : Row (of_every_edition o) p n w → Rewrites (of_every_edition o) W p n w
      by r = inl (record { row = r; lighter = l })

      go : Known o W p n w → Rewrites (of_every_edition o) W p n w
      go (of_first r) = by (AsTest r)
      go (of_spellings r) = by (AsSpelling r)
      go (of_branches r) = by (AsBranch r)
      go (of_lists r) = by (AsList r)
      go (of_choices r) = by (AsChoice r (latest.choices p n w r))
      go (of_declarations r) = by (AsDeclaration r)
      go (of_foldings r) = by (AsFolding r)
      go (of_turns r) = by (AsTurn r)
      go (of_constants r) = by (AsConstant r)
      go (of_operands r) = by (AsOperand r)
      go (of_negations r) = by (AsNegation r)
      go (of_writes r) = inr (inr (inr (inr (inl (record { row = r; lighter = l }, latest.writes W p n w r)))))
