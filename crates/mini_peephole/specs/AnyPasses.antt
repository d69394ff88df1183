-- Passes of any lawful rule are faithful. What it makes may rest on facts of the bodies of the
-- program over which a pass is made, as that no answer changes a name while the body runs: on none
-- (`no_facts`), on all that are told (`exactly_of`, mini_shrink), or on others.
use Rattle.std.specs.Prelude.{◌≡◌, ℕ, Bool, None}
use Rattle.serde_json.specs.Data.{Data}
use Rattle.mini_model.specs.declared.place.Position.{Position}
use Rattle.mini_model.specs.declared.place.Position.TheVariants.{Elsewhere}
use Rattle.mini_model.specs.declared.shape.Shape.{Shape}
use Rattle.mini_model.specs.Tree.{Tree}
use Rattle.mini_model.specs.Rewriting.{Step, Everywhere}
use Rattle.mini_accept.specs.Accept.{Accepts}
use Rattle.mini_laws.specs.Resolved.{resolved_program}
use Rattle.mini_laws.specs.Value.{VariableSet}
use Rattle.mini_laws.specs.Writable.{writable_in}
use Rattle.mini_kept.specs.Loosely.{LawfulUnder}
use Rattle.mini_kept.specs.Rooted.{LawfulRooted}
use Rattle.mini_kept.specs.Without.{BodySets, none_steady, Within}
use Rattle.mini_rows.specs.Switches.{let_go}
use Rattle.mini_scope.specs.Pointers.{early_fault}
use Rattle.mini_shrink.specs.Exact.{exactly_of}
use Rattle.mini_shrink.specs.Facts.{ReadsLess}
use Rattle.mini_shrink.specs.SameForeign.{DeclaresOnce}
use Rattle.mini_tree.specs.Passes.{PassesReach, no_pass, one_more}
use Rattle.mini_tree.specs.declared.options.CompressOptions.{CompressOptions}
use Rattle.mini_peephole.specs.Environments.{steady_in}
use Rattle.mini_peephole.specs.Faithful.{switches, FaithfulUnder}
use Rattle.mini_peephole.specs.Minified.{IsWritten}
use Rattle.mini_peephole.specs.declared.minify.Minified.{Minified}

-- ---- facts

-- what is said of the bodies of each program
abbrev pub Facts : Type 0
Facts = Tree → BodySets

-- nothing
abbrev pub no_facts : Facts
no_facts q = none_steady

-- what is said of each body of one program is said of that of another
abbrev pub AllKnown : BodySets → BodySets → Type 0
AllKnown S T = (b : ℕ) → Within (S b) (T b)

-- where each name of a program is declared once, all that the one says of it the other says too
abbrev pub AreAmong : Facts → Facts → Type 0
AreAmong S T = (q : Tree) → DeclaresOnce q → AllKnown (S q) (T q)

-- and that is so, by Shared and Foreign
abbrev pub AreSo : Facts → Type 0
AreSo S = AreAmong S steady_in

-- what is said of such a program is said of it after a step
abbrev pub KeepsKnown : Facts → (Position → Tree → Tree → Type 0) → Type 0
KeepsKnown S R = (t u : Tree) → Step R Elsewhere t u → DeclaresOnce t → AllKnown (S t) (S u)

-- so is all that is told, where each step is lawful and reads less
abbrev pub LessIsKnown : (Position → Tree → Tree → Type 0) → Type 0
LessIsKnown R = (K : Shape → Bool) (W : VariableSet) (S : BodySets) → LawfulUnder K W S R → ReadsLess R → KeepsKnown exactly_of R

-- ---- rules

-- What a rule makes is lawful by these facts, and may drop names that nothing mentions, under any
-- options and over any program at which its context has looked and which declares each name once:
-- names of functions and classes where the options let them go. It may rest on it that the
-- variables can be written that this program mentions and lets be written; of the program itself
-- it may give another, by what is known of its own body. What is lawful without that is so
-- (`LawfulIsLoose`, `LooseIsSteady`, `SteadyIsRooted`, mini_kept).
--
-- This is asked wherever a node may stand, in any tree. What rests on numbers of names, as on there
-- being one read of a variable in the program, is lawful only in what steps make of that program:
-- for such a rule the law has to be weakened to the nodes of a tree that steps of the same pass
-- reach from it, the program being well shaped and its names scoped.
abbrev pub LawfulFor : Facts → (CompressOptions → Tree → Position → Tree → Tree → Type 0) → Type 0
LawfulFor S G = (o : CompressOptions) (q : Tree) → DeclaresOnce q → LawfulRooted (let_go (switches o)) (writable_in q) (S q) (G o q)

-- and what is known of the bodies of any program stays so
abbrev pub KnownStays : Facts → (CompressOptions → Tree → Position → Tree → Tree → Type 0) → Type 0
KnownStays S G = (o : CompressOptions) (q : Tree) → KeepsKnown S (G o q)

-- where the passes settled the rule has nothing left to do in the last program, by what is known of
-- that program itself
abbrev pub NothingLeft : (Tree → Position → Tree → Type 0) → Tree → Type 0
NothingLeft D u = Everywhere (D u) Elsewhere u

-- ---- passes

-- what holds of each program at which a pass begins
abbrev pub EachBegins : (Tree → Type 0) → {G : Tree → Position → Tree → Tree → Type 0} {n : ℕ} {t u : Tree} → PassesReach G n t u → Type 0
EachBegins P (no_pass t) = Unit {0}
EachBegins P (one_more n t u v r s) = EachBegins P r × P u

-- Passes over a program that is accepted and has no early error, resolved, are faithful under T, if
-- the rule is lawful by S, and all that S says of each program at which a pass began T says of the
-- last one, of which it is so.
abbrev pub PassesFaithful : (CompressOptions → Tree → Position → Tree → Tree → Type 0) → (CompressOptions → Tree → Position → Tree → Type 0) → Type 0
PassesFaithful G D =
    (S T : Facts) → LawfulFor S G → AreSo T → (d : Data) (o : CompressOptions) (m : Minified) (t : Tree) → Accepts d t → early_fault t ≡ None
    → (r : IsWritten (G o) (D o) (resolved_program t) o.passes m) → EachBegins (λ q. AllKnown (S q) (T r.output)) r.passes.reached → FaithfulUnder T (NothingLeft (D o)) d o m

-- any such passes of a rule are faithful under T
abbrev pub AllFaithful : Facts → (CompressOptions → Tree → Position → Tree → Tree → Type 0) → (CompressOptions → Tree → Position → Tree → Type 0) → Type 0
AllFaithful T G D =
    (d : Data) (o : CompressOptions) (m : Minified) (t : Tree) → Accepts d t → early_fault t ≡ None → IsWritten (G o) (D o) (resolved_program t) o.passes m → FaithfulUnder T (NothingLeft (D o)) d o m

-- so they are if each step of the rule leaves what S says, and T says that too
abbrev pub StepsFaithful : (CompressOptions → Tree → Position → Tree → Tree → Type 0) → (CompressOptions → Tree → Position → Tree → Type 0) → Type 0
StepsFaithful G D = (S T : Facts) → LawfulFor S G → KnownStays S G → AreAmong S T → AreSo T → AllFaithful T G D

-- a rule that rests on nothing that is known of bodies is asked nothing but that it is lawful
abbrev pub PlainFaithful : (CompressOptions → Tree → Position → Tree → Tree → Type 0) → (CompressOptions → Tree → Position → Tree → Type 0) → Type 0
PlainFaithful G D = LawfulFor no_facts G → AllFaithful no_facts G D

-- one that rests on all that is told of them is faithful by Shared and Foreign
abbrev pub ToldFaithful : (CompressOptions → Tree → Position → Tree → Tree → Type 0) → (CompressOptions → Tree → Position → Tree → Type 0) → Type 0
ToldFaithful G D = LawfulFor exactly_of G → KnownStays exactly_of G → AllFaithful steady_in G D
