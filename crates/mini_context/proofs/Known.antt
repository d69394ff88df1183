-- What the context of rewrites knows, at first and when it has looked anew.
use Rattle.std.proofs.Common.{◌≡◌, refl, ap, sym, ◌∙◌, subst, ℕ, zero, suc, ◌+◌, ◌<◌, ◌≤◌, Bool, true, false, List, [], ◌∷◌, ◌++◌, length, arith}
use Rattle.std.specs.Prelude.{replicate, slice_index_or, Option, Some, None, if◌then◌else◌}
use Rattle.mini_model.specs.declared.name.Name.{Name}
use Rattle.mini_model.specs.declared.name.SymbolId.{SymbolId}
use Rattle.mini_model.specs.declared.shape.Shape.{Shape}
use Rattle.mini_model.specs.declared.shape.Shape.TheVariants as shape
use Rattle.mini_model.specs.Tree.{Tree, Trees, node, none, ◌▸◌, shape_of, children, node_count, node_counts}
use Rattle.mini_laws.specs.declared.names.Use.{Use}
use Rattle.mini_laws.specs.declared.names.Use.TheVariants.{Read}
use Rattle.mini_laws.specs.References.{Reference, references, references_from, own_references, reads as is_read, one_more, with_reference, counted, counts_of}
use Rattle.mini_laws.specs.Scopes.{use_of}
use Rattle.mini_node.specs.Children.{trees_of, names_of}
use Rattle.mini_tree.specs.declared.options.CompressOptions.{CompressOptions}
use Rattle.mini_context.specs.declared.context.TraverseCtx.{TraverseCtx}
use Rattle.mini_context.specs.Facts.{Facts, Told, Tells, Refreshed}
use Rattle.mini_context.specs.Known.{Knows, own_reference_count, reference_count, reference_counts}
use Rattle.mini_context.proofs.Numbers.{set_length}

-- ---- how many references there are

own_length : (u : Use) (h : Shape) (xs : List Name) → length (own_references u h xs) ≡ own_reference_count h xs
own_length u shape.Identifier [] = refl
own_length u shape.Identifier (x ∷ xs) = ap suc (own_length u shape.Identifier xs)
own_length u h xs = refl

appended : {A : Type 0} (xs ys : List A) → length (xs ++ ys) ≡ length xs + length ys
appended [] ys = omega arith
appended (x ∷ xs) ys = omega (arith, appended xs ys)

mutual
  unfolding references

  pub references_counted : (u : Use) (t : Tree) → length (references u t) ≡ reference_count t
  references_counted u (node h xs n ts) = omega (arith, appended (own_references u h xs) (references_from (use_of h u) 0 ts), own_length u h xs, references_in (use_of h u) 0 ts)

  references_in : (us : ℕ → Use) (i : ℕ) (ts : Trees) → length (references_from us i ts) ≡ reference_counts ts
  references_in us i none = refl
  references_in us i (t ▸ ts) = omega (arith, appended (references (us i) t) (references_from us (suc i) ts), references_counted (us i) t, references_in us (suc i) ts)

pub count_of : (t : Tree) → reference_count t ≡ own_reference_count (shape_of t) (names_of t) + reference_counts (children t)
count_of (node h xs n ts) = refl

-- an item of a list is a smaller tree
pub item_within : (xs : List Tree) (i : ℕ) (d : Tree) → i < length xs → node_count (slice_index_or xs i d) ≤ node_counts (trees_of xs)
item_within [] i d h = absurd (omega arith)
item_within (x ∷ xs) zero d h = omega arith
item_within (x ∷ xs) (suc i) d h = omega (arith, item_within xs i d (omega arith))

-- ---- how many symbols

one_length : (c : List ℕ) (o : Option SymbolId) → length (one_more c o) ≡ length c
one_length c None = refl
one_length c (Some x) = set_length c x.0 _

with_length : (b : Bool) (c : List ℕ) (o : Option SymbolId) → length (if b then one_more c o else c) ≡ length c
with_length true c o = one_length c o
with_length false c o = refl

counted_length : (p : Use → Bool) (rs : List Reference) (c : List ℕ) → length (counted p rs c) ≡ length c
unfolding counted
counted_length p [] c = refl
counted_length p (r ∷ rs) c = counted_length p rs (with_reference p c r) ∙ with_length (p r.used) c r.name.symbol

replicated : (n : ℕ) → length {A = ℕ} (replicate n 0) ≡ n
replicated zero = refl
replicated (suc n) = ap suc (replicated n)

counts_length : (p : Use → Bool) (n : ℕ) (t : Tree) → length (counts_of p n t) ≡ n
counts_length p n t = counted_length p (references Read t) (replicate n 0) ∙ replicated n

pub told_length : (f : Facts) (n : ℕ) (t : Tree) → Told f n t → length f.reads ≡ n
told_length f n t w = ap length w.reads_told ∙ counts_length is_read n t

-- ---- at first, and anew

pub refreshed_by : (old new : Facts) (n : ℕ) (t : Tree) → n ≡ length old.reads → new.tops ≡ old.tops → Told new n t → Refreshed old new t
refreshed_by old new n t e f k = record { told = subst (λ l. Told new l t) e k; tops_kept = f }

told_at_first : (f : Facts) (n m : ℕ) (t : Tree) → m ≡ n → m ≡ length f.reads → Tells f n t → Refreshed f f t
told_at_first f n m t e d k = record {
  told = subst (λ l. Told f l t) (sym e ∙ d) k.told;
  tops_kept = refl;
}

pub known_at_first : (c : TraverseCtx) (o : CompressOptions) (n : ℕ) (t : Tree) → c.options ≡ o → Tells c.scopes n t → Knows c o t
known_at_first c o n t e k = record {
  options = e;
  first = t;
  symbols = n;
  told = c.scopes;
  tells = k;
  refreshed = told_at_first c.scopes n n t refl (sym (ap length k.told.reads_told ∙ counts_length is_read n t)) k;
}

told_again : (f g h : Facts) (t u : Tree) → Refreshed f g t → Refreshed g h u → Refreshed f h u
told_again f g h t u k l = record {
  told = subst (λ n. Told h n u) (ap length k.told.reads_told ∙ counts_length is_read (length f.reads) t) l.told;
  tops_kept = l.tops_kept ∙ k.tops_kept;
}

pub known_anew : (c d : TraverseCtx) (o : CompressOptions) (t u : Tree) → d.options ≡ c.options → Refreshed c.scopes d.scopes u → Knows c o t → Knows d o u
known_anew c d o t u e r k = record {
  options = e ∙ k.options;
  first = k.first;
  symbols = k.symbols;
  told = k.told;
  tells = k.tells;
  refreshed = told_again k.told c.scopes d.scopes t u k.refreshed r;
}
