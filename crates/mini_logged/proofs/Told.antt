-- What a context tells of a program, as the rows of a log read it.
use Rattle.std.proofs.Common.{◌≡◌, refl, sym, ap, ◌∙◌, subst}
use Rattle.std.specs.Prelude.{length}
use Rattle.mini_model.specs.Tree.{Tree}
use Rattle.mini_laws.specs.References.{reads, writes, counts_of}
use Rattle.mini_laws.specs.Value.{Variable, Declared, Global}
use Rattle.mini_laws.specs.Writable.{writable_in}
use Rattle.mini_tree.specs.declared.options.CompressOptions.{CompressOptions}
use Rattle.mini_context.specs.declared.context.TraverseCtx.{TraverseCtx}
use Rattle.mini_context.specs.Known.{Knows}
use Rattle.mini_context.proofs.Known.{told_length}
use Rattle.mini_log.specs.RowStep.{row_at}
use Rattle.mini_checker.specs.Forms.{marked}
use Rattle.mini_replay.specs.Checking.{CountedAnew}

-- the tables tell what can be written in the program that the context knows
told : (c : TraverseCtx) (o : CompressOptions) (q : Tree) → Knows c o q → marked c.scopes.writable ≡ writable_in q
told c o q k = λ j x. by x j
  where
    by : (x : Variable) → marked c.scopes.writable x ≡ writable_in q x
    by (Declared s) = k.refreshed.told.writable_told s
    by (Global s) = refl

-- the rows of the context are those of its options and of the program
pub rows_told : (c : TraverseCtx) (o : CompressOptions) (q : Tree) → Knows c o q → row_at c.options.sequences (marked c.scopes.writable) ≡ row_at o.sequences (writable_in q)
rows_told c o q k = ap (λ p. row_at p.sequences (marked c.scopes.writable)) k.options ∙ ap (row_at o.sequences) (told c o q k)

pub counted_anew : (c : TraverseCtx) (o : CompressOptions) (t : Tree) → Knows c o t → CountedAnew c.scopes t
counted_anew c o t k =
    let long = sym (told_length c.scopes (length k.told.reads) t k.refreshed.told) in
    record {
      reads = subst (λ n. c.scopes.reads ≡ counts_of reads n t) long k.refreshed.told.reads_told;
      writes = subst (λ n. c.scopes.writes ≡ counts_of writes n t) long k.refreshed.told.writes_told;
    }
