-- A `for` in which the next declarator of the head reads a name means the same without that.
use Rattle.std.specs.Prelude.{ℕ, refl, [], List, Option, None}
use Rattle.mini_model.specs.declared.kind.VariableDeclarationKind.{VariableDeclarationKind}
use Rattle.mini_model.specs.declared.shape.Shape.TheVariants as shape
use Rattle.mini_model.specs.Tree.{Tree, Trees, none, ◌▸◌}
use Rattle.mini_laws.specs.Value.{Declared, nothing}
use Rattle.mini_laws.specs.State.{Environment}
use Rattle.mini_laws.specs.Demand.{Tail, Stat}
use Rattle.mini_laws.specs.Naming.{summary}
use Rattle.mini_laws.specs.Same.{Same}
use Rattle.mini_laws.specs.Path.{here, inside}
use Rattle.mini_laws.specs.Congruence.{ReadAlike}
use Rattle.mini_laws.specs.Substitution.{alone}
use Rattle.mini_laws.proofs.Congruent.{congruent_same, weaker, no_off, no_within}
use Rattle.mini_laws.proofs.Simulation.{within_refl}
use Rattle.mini_kept.specs.Without.{Unseen}
use Rattle.mini_rows.proofs.Sunk.{value_passed}
use Rattle.mini_rows.specs.Lists.{declaration}
use Rattle.mini_rows.specs.Switches.{Switches}
use Rattle.mini_rows.specs.Unused.{put_first, ForNextRow}
use Rattle.mini_rows.proofs.ForHeads.{named, read, left, over, unread}
use Rattle.mini_rows.proofs.OneDeclaration.{one_same, one_alike}
use Rattle.mini_rows.proofs.NextMeaning.{next_read, next_same, next_avoids}
use Rattle.mini_rows.proofs.UnusedMeaning.{ReadAs, read_alone, list_read, movable, never_written, lexical_alone}
use Rattle.mini_rows.proofs.UnusedNames.{avoided, all_avoided}

pub head_read : (e : Environment) (spelling : List ℕ) (k : ℕ) → Unseen (alone (Declared k)) e → (K : VariableDeclarationKind) (these those : Trees) → ReadAs k (declaration K these) (declaration K those) → ReadAlike (alone (Declared k)) e (summary (declaration K these)) (summary (declaration K those))
head_read e spelling k u K these those r =
    let d = declaration K these in
    let w = declaration K those in
    one_alike e (alone (Declared k)) K these those (list_read e spelling k u none none (d ▸ none) (w ▸ none) (read_alone k d w r))

-- ---- a `for` in which the next declarator reads a name

pub for_next_same : (o : Switches) (n w : Tree) (r : ForNextRow o n w) (e : Environment) → Unseen (alone (Declared r.row.symbol)) e → (t : Option Tail) → Same e (alone (Declared r.row.symbol)) nothing (Stat t) (over o n w r (read o n w r)) (over o n w r (left o n w r))
for_next_same o n w r e u t =
    let c = r.row in
    let k = c.symbol in
    let D = alone (Declared k) in
    let x = named o n w r in
    let d = read o n w r in
    let v = left o n w r in
    let rest : Trees = r.test ▸ (r.update ▸ (r.body ▸ none)) in
    let id = avoided x k refl c.binds c.other in
    let last = all_avoided x k refl c.last c.declared_later in
    let one = next_same e c.spelling k u c.kind c.init c.binds c.value c.last (movable o c.init c.moves) c.once (value_passed x c.init c.value c.passed) id last (never_written c.kind e k (lexical_alone c.kind c.goes)) c.first in
    let alike = head_read e c.spelling k u c.kind _ _ (next_read c.kind c.spelling k c.first c.last c.init c.binds c.value (put_first x c.init c.value)) in
    congruent_same e D u.shared (inside shape.ForStatement [] 0 none here rest) d v (tt, tt, tt, all_avoided x k refl rest (unread o n w r)) (next_avoids x k refl c.kind c.first c.init c.binds c.value c.last c.once c.declared_earlier c.initial c.other c.declared_later) alike nothing (Stat t) (no_off _)
    (weaker e D D nothing _ (within_refl D) (no_within _) (Stat None) d v (one_same e D c.kind nothing _ _ one))
