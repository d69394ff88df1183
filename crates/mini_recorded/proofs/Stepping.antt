-- The step of a row, by its place and by the rest of its path.
use Rattle.std.proofs.Common.{◌≡◌, ℕ, zero, suc, Bool, true, false, refl, sym, arith}
use Rattle.std.specs.Prelude.{List, [], ◌∷◌, length}
use Rattle.std.proofs.lemmas.Bool.{false≢true}
use Rattle.mini_model.specs.declared.place.Position.{Position}
use Rattle.mini_model.specs.declared.place.Position.TheVariants.{Stmt}
use Rattle.mini_model.specs.Tree.{Tree}
use Rattle.mini_laws.specs.Value.{VariableSet}
use Rattle.mini_log.specs.declared.row.LogRow.{LogRow}
use Rattle.mini_log.specs.declared.row.LogRow.TheVariants.{Row61, Row66, Row79}
use Rattle.mini_log.specs.ListRows.{bare_export, bare_head, bare_let, first_by, gone, in_list, joined, spread, unwrapped}
use Rattle.mini_log.specs.RowStep.{export_forms, first_lighter, held_forms, row_at}
use Rattle.mini_log.specs.Walk.{or_else}
use Rattle.mini_checker.specs.Made.{Made}
use Rattle.mini_recorded.specs.Stepping.{is_statement_place}
use Rattle.mini_recorded.proofs.Lighter.{one_made, both_made, gone_lighter, joined_lighter, spread_lighter, let_lighter, export_lighter, head_lighter, unwrapped_lighter}

pub head_made : (p : Position) (t u : Tree) (i : ℕ) (b : Bool) → is_statement_place p ≡ true → Made (bare_head t i) t u b → (s : Bool) → Made (first_lighter p t (held_forms s Row61 p t i)) t u b
head_made (Stmt q) t u i b e m s = one_made (Stmt q) t u (bare_head t i) b (head_lighter q t i) m
head_made p t u i b e m s = absurd (false≢true e)

pub statement_made : (p : Position) (t u : Tree) (i : ℕ) (b : Bool) → is_statement_place p ≡ false → Made (in_list (first_by bare_let) p t i) t u b → (s : Bool) → Made (first_lighter p t (held_forms s Row61 p t i)) t u b
statement_made (Stmt q) t u i b e m s = absurd (false≢true (sym e))
statement_made p t u i b e m s = one_made p t u (in_list (first_by bare_let) p t i) b (let_lighter p t i) m

pub unwrapped_made : (p : Position) (t u : Tree) (i : ℕ) (b : Bool) → is_statement_place p ≡ true → Made (unwrapped t i) t u b → (s : Bool) → Made (first_lighter p t (held_forms s Row79 p t i)) t u b
unwrapped_made (Stmt q) t u i b e m s = one_made (Stmt q) t u (unwrapped t i) b (unwrapped_lighter q t i) m
unwrapped_made p t u i b e m s = absurd (false≢true e)

pub spread_made : (p : Position) (t u : Tree) (i : ℕ) (b : Bool) → is_statement_place p ≡ false → Made (in_list spread p t i) t u b → (s : Bool) → Made (first_lighter p t (held_forms s Row79 p t i)) t u b
spread_made (Stmt q) t u i b e m s = absurd (false≢true (sym e))
spread_made p t u i b e m s = one_made p t u (in_list spread p t i) b (spread_lighter p t i) m

pub joined_made : (s : Bool) (p : Position) (t u : Tree) (i : ℕ) (b : Bool) → Made (or_else (in_list gone p t i) (in_list (joined s) p t i)) t u b → Made (first_lighter p t (held_forms s Row66 p t i)) t u b
joined_made s p t u i b m = both_made p t u (in_list gone p t i) (in_list (joined s) p t i) b (gone_lighter p t i) (joined_lighter s p t i) m

pub nothing_held : (s : Bool) (r : LogRow) (p : Position) (t : Tree) (i : ℕ) → (r ≡ Row61 → ⊥) → (r ≡ Row66 → ⊥) → (r ≡ Row79 → ⊥) → Made (first_lighter p t (held_forms s r p t i)) t t false
nothing_held s Row61 p t i e f g = absurd (e refl)
nothing_held s Row66 p t i e f g = absurd (f refl)
nothing_held s Row79 p t i e f g = absurd (g refl)
nothing_held s r p t i e f g = record { said = refl; tree = refl }

pub exported_made : (p : Position) (t u : Tree) (i : ℕ) (b : Bool) → Made (in_list (first_by bare_export) p t i) t u b → Made (first_lighter p t (export_forms Row61 p t i)) t u b
exported_made p t u i b m = one_made p t u (in_list (first_by bare_export) p t i) b (export_lighter p t i) m

pub nothing_exported : (r : LogRow) (p : Position) (t : Tree) (i : ℕ) → (r ≡ Row61 → ⊥) → Made (first_lighter p t (export_forms r p t i)) t t false
nothing_exported Row61 p t i e = absurd (e refl)
nothing_exported r p t i e = record { said = refl; tree = refl }

pub export_alone : (r : LogRow) (p : Position) (t u : Tree) (i f : ℕ) (os : List ℕ) (d : Bool) → f ≡ 0 → length os ≡ 0 → Made (first_lighter p t (export_forms r p t i)) t u d → (b : Bool) (W : VariableSet) → Made (row_at b W r p t (i ∷ f ∷ os)) t u d
export_alone r p t u i zero [] d e h m b W = m
export_alone r p t u i zero (k ∷ os) d e h m b W = absurd (omega (arith, h))
export_alone r p t u i (suc f) os d e h m b W = absurd (omega (arith, e))

pub export_not : (r : LogRow) (p : Position) (t : Tree) (i f : ℕ) (os : List ℕ) → (f ≡ 0 → length os ≡ 0 → ⊥) → (b : Bool) (W : VariableSet) → Made (row_at b W r p t (i ∷ f ∷ os)) t t false
export_not r p t i zero [] e b W = absurd (e refl refl)
export_not r p t i zero (k ∷ os) e b W = record { said = refl; tree = refl }
export_not r p t i (suc f) os e b W = record { said = refl; tree = refl }
