-- 77: what would initialize a class, a `let` or a `const` that never runs goes.
use Rattle.std.proofs.Common.{◌≡◌, Bool, true, false, refl, sym, ap, ◌∙◌, subst, inr, true≢false}
use Rattle.std.specs.Prelude.{Result, Ok, Err, IfOk}
use Rattle.std.proofs.lemmas.Bool.{and_parts}
use Rattle.mini_model.specs.declared.memory.OutOfMemory.{OutOfMemory}
use Rattle.mini_model.specs.declared.place.Position.{Position}
use Rattle.mini_model.specs.declared.place.Position.TheVariants.{StatementList, BodyList}
use Rattle.mini_model.specs.Tree.{Tree, Trees, none, ◌▸◌, listed, children}
use Rattle.mini_model.specs.Paths.{append}
use Rattle.mini_laws.specs.Value.{VariableSet}
use Rattle.mini_node.specs.Lends.{with_children}
use Rattle.mini_node.specs.Kinds.{is_listed}
use Rattle.mini_node.specs.Made.{listed_is}
use Rattle.mini_node.specs.Walks.{append_one}
use Rattle.mini_rows.specs.DeadLexicals.{may_fade, faded, is_lighter_faded, Row77Lexical}
use Rattle.mini_rows.specs.Lists.{is_terminated, InList}
use Rattle.mini_stmt.specs.declared.rewrites.drop_unreached.Going.TheVariants.{Lexicals}
use Rattle.mini_stmt.specs.DropUnreached.{goes, stays_behind, LeftBehind}
use Rattle.mini_stmt.specs.JoinLets.{Changes, RestsBy, DropsLexicals}
use Rattle.mini_stmt.proofs.LetJoins.{changes_on, step_on}
use Rattle.mini_stmt.proofs.Unreached.{Goes, behind_steps, behind_same, behind_stays, row_goes, and_true}

-- ---- steps of the row

lexical_row : (first : Tree) (between : Trees) (t : Tree) → is_terminated first ≡ true → goes Lexicals t ≡ true → Row77Lexical (first ▸ append between (t ▸ none)) (first ▸ append between (faded t))
lexical_row first between t e f =
    let (may, lighter) = and_parts (may_fade t) (is_lighter_faded t) f in
    record { first = first; between = between; gone = t; terminated = e; fades = may; lighter = lighter; shape = refl; written = refl }

lexical_step : (W : VariableSet) (before : Trees) (first : Tree) → is_terminated first ≡ true → Goes Lexicals (Changes W) (λ ts. refl) (changes_on W) before first
lexical_step W before first e between t ts f =
    subst (λ x. Changes W (append before (first ▸ x)) (append before (first ▸ append (append between (faded t)) ts)) true) (append_one between t ts)
    (step_on W before (first ▸ append between (t ▸ none)) (first ▸ append between (faded t)) ts (inr (lexical_row first between t e f)))

-- ---- the row reads what goes

lexical_goes : (ts : Trees) (w : Tree) → InList Row77Lexical (listed ts) w → stays_behind Lexicals ts ≡ false
lexical_goes ts w r = row_goes Lexicals ts r.before r.row.first r.row.between r.row.gone r.read r.after r.row.terminated (and_true (may_fade r.row.gone) (is_lighter_faded r.row.gone) r.row.fades r.row.lighter) r.row.shape (ap children r.shape)

stays_rests : (ts : Trees) → stays_behind Lexicals ts ≡ true → (p : Position) → RestsBy Row77Lexical p (listed ts)
stays_rests ts e StatementList w r = true≢false (sym e ∙ lexical_goes ts w r)
stays_rests ts e BodyList w r = true≢false (sym e ∙ lexical_goes ts w r)
stays_rests ts e p w r = absurd r

-- ---- the node

list_drops : (ts us : Trees) (b : Bool) → LeftBehind Lexicals ts us b → DropsLexicals (listed ts) (listed us) b
list_drops ts us true l W p q = behind_steps Lexicals (Changes W) (λ t. refl) (changes_on W) (lexical_step W) ts us true l p q
list_drops ts us false l W p q = let same = behind_same Lexicals ts us false l refl in (ap listed same, stays_rests ts (sym (ap (stays_behind Lexicals) same) ∙ behind_stays Lexicals ts us false l refl) p)

pub node_drops : (t : Tree) (us : Trees) (r : Result Bool OutOfMemory) → is_listed t ≡ true → IfOk r (LeftBehind Lexicals (children t) us) → IfOk r (DropsLexicals t (with_children t us))
node_drops t us (Err e) l m = m
node_drops t us (Ok b) l m =
    let is = listed_is t l in
    subst (λ x. DropsLexicals x (with_children t us) b) (sym is) (subst (λ x. DropsLexicals (listed (children t)) x b) (sym (ap (λ x. with_children x us) is)) (list_drops (children t) us b m))

other_rests : (t : Tree) → is_listed t ≡ false → (p : Position) → RestsBy Row77Lexical p t
other_rests t l StatementList w r = true≢false (sym (ap is_listed r.shape) ∙ l)
other_rests t l BodyList w r = true≢false (sym (ap is_listed r.shape) ∙ l)
other_rests t l p w r = absurd r

pub no_drops : (t : Tree) → is_listed t ≡ false → DropsLexicals t t false
no_drops t l W p q = (refl, other_rests t l p)
