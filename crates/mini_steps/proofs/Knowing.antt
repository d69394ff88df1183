-- What the context knows of a program, as the calls read it.
use Rattle.std.proofs.Common.{◌≡◌, refl, sym, subst}
use Rattle.std.specs.Prelude.{ℕ, length, List}
use Rattle.mini_model.specs.Tree.{Tree}
use Rattle.mini_laws.specs.References.{reads, writes, counts_of}
use Rattle.mini_laws.specs.Value.{Variable, Declared, Global}
use Rattle.mini_laws.specs.Writable.{writable_in}
use Rattle.mini_tree.specs.declared.options.CompressOptions.{CompressOptions}
use Rattle.mini_context.specs.declared.context.TraverseCtx.{TraverseCtx}
use Rattle.mini_context.specs.Known.{Knows}
use Rattle.mini_context.proofs.Known.{told_length}
use Rattle.mini_choices.specs.MinimizeNormalAssignmentToCombinedLogicalAssignment.{marked}
use Rattle.mini_stmt.specs.MinimizeStatements.{switches_of}
use Rattle.mini_steps.specs.declared.names.Step.{Step}
use Rattle.mini_steps.specs.Rows.{CallRows}
use Rattle.mini_steps.specs.Steps.{Followed}

-- the names that it marks can be written in that program
pub told : (c : TraverseCtx) (o : CompressOptions) (q : Tree) → Knows c o q → marked c.scopes ≡ writable_in q
told c o q k = λ j x. by x j
  where
    by : (x : Variable) → marked c.scopes x ≡ writable_in q x
    by (Declared s) = k.refreshed.told.writable_told s
    by (Global s) = refl

pub reads_told : (c : TraverseCtx) (o : CompressOptions) (t : Tree) → Knows c o t → c.scopes.reads ≡ counts_of reads (length c.scopes.reads) t
reads_told c o t k = subst (λ n. c.scopes.reads ≡ counts_of reads n t) (sym (told_length c.scopes (length k.told.reads) t k.refreshed.told)) k.refreshed.told.reads_told

pub writes_told : (c : TraverseCtx) (o : CompressOptions) (t : Tree) → Knows c o t → c.scopes.writes ≡ counts_of writes (length c.scopes.reads) t
writes_told c o t k = subst (λ n. c.scopes.writes ≡ counts_of writes n t) (sym (told_length c.scopes (length k.told.reads) t k.refreshed.told)) k.refreshed.told.writes_told

-- the steps that were taken with these names are steps over that program
pub followed_so : (c : TraverseCtx) (t u : Tree) (ss steps : List Step) (n : ℕ) → ss ≡ steps → Knows c c.options t → Followed (CallRows (switches_of c.options) (marked c.scopes)) ss t u n → Followed (CallRows (switches_of c.options) (writable_in t)) steps t u n
followed_so c t u ss steps n e k f = subst (λ xs. Followed (CallRows (switches_of c.options) (writable_in t)) xs t u n) e (subst (λ W. Followed (CallRows (switches_of c.options) W) ss t u n) (told c c.options t k) f)
