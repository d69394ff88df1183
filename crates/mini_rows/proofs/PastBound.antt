-- The rows of names that are read behind held names declare no symbol more often.
use Rattle.std.specs.Prelude.{ℕ, ◌+◌, ◌≤◌, ◌≡◌, refl, if◌then◌else◌, Bool, true, false}
use Rattle.std.proofs.Common.{ap, arith, inl, inr}
use Rattle.mini_model.specs.declared.kind.PropertyKind.TheVariants.{Init}
use Rattle.mini_model.specs.declared.kind.VariableDeclarationKind.{VariableDeclarationKind}
use Rattle.mini_model.specs.declared.name.Name.{Name}
use Rattle.mini_model.specs.declared.shape.Shape.{Shape}
use Rattle.mini_model.specs.declared.shape.Shape.TheVariants as shape
use Rattle.mini_model.specs.Tree.{Tree, Trees, node, none, ◌▸◌}
use Rattle.mini_model.specs.Paths.{append}
use Rattle.mini_kept.specs.Without.{Assured}
use Rattle.mini_rows.specs.Lists.{declaration}
use Rattle.mini_rows.specs.Declarations.{binding, declarator}
use Rattle.mini_rows.specs.Switches.{Switches, without_vars}
use Rattle.mini_rows.specs.Past.{is_binding, PastRow}
use Rattle.mini_rows.specs.Steady.{times_named, bindings, all_bindings}
use Rattle.mini_rows.specs.Unused.{resolved, names, is_short, declared_among, declared_left, put_first, put_among}

pub all_bindings_both : (k : ℕ) (ts us : Trees) → all_bindings k (append ts us) ≡ all_bindings k ts + all_bindings k us
all_bindings_both k none us = omega arith
all_bindings_both k (t ▸ ts) us = omega (arith, all_bindings_both k ts us)

full_bound : (b : Bool) (h : Shape) (m : ℕ) → (if is_binding (if b then shape.ObjectProperty Init false false false else h) then m else 0) ≤ (if is_binding h then m else 0)
full_bound true h m = omega arith
full_bound false h m = omega arith

module _ (k : ℕ) (x : Name) (r : Tree) where
  mutual
    put_bound : (t : Tree) → bindings k (put_first x r t) ≤ bindings k r + bindings k t
    put_bound (node h ys n none) = omega arith
    put_bound (node h ys n (t ▸ ts)) = omega (arith, full_bound (is_short h) h (times_named k ys), put_among_bound (t ▸ ts))

    put_among_bound : (ts : Trees) → all_bindings k (put_among x r ts) ≤ bindings k r + all_bindings k ts
    put_among_bound none = omega arith
    put_among_bound (t ▸ ts) = by (names x t) (put_bound t) (put_among_bound ts)
      where
        by : (b : Bool) → bindings k (put_first x r t) ≤ bindings k r + bindings k t → all_bindings k (put_among x r ts) ≤ bindings k r + all_bindings k ts → all_bindings k (if b then put_first x r t ▸ ts else t ▸ put_among x r ts) ≤ bindings k r + all_bindings k (t ▸ ts)
        by true e f = omega (arith, e)
        by false e f = omega (arith, f)

left_bound : (k : ℕ) (kind : VariableDeclarationKind) (ds : Trees) → bindings k (declared_left kind ds) ≡ all_bindings k ds
left_bound k kind none = refl
left_bound k kind (d ▸ ds) = omega arith

pub rows_bound : {options : Switches} (V : Assured) (o : Tree) (ts us : Trees) → PastRow V (without_vars options) o ts us → (k : ℕ) → all_bindings k us ≤ all_bindings k ts
rows_bound V o ts us (inl r) k =
    let x = resolved r.spelling r.symbol in
    omega (
      arith,
      ap (all_bindings k) r.shape,
      ap (all_bindings k) r.written,
      put_bound k x r.init r.head,
      left_bound k r.kind r.first,
      all_bindings_both k r.before (declared_among r.kind x r.first r.init none ▸ (r.head ▸ r.after)),
      all_bindings_both k r.before (declared_left r.kind r.first ▸ (put_first x r.init r.head ▸ r.after)),
      all_bindings_both k r.first (declarator (binding x) r.init ▸ none),
    )
rows_bound V o ts us (inr r) k =
    let x = resolved r.spelling r.symbol in
    omega (
      arith,
      ap (all_bindings k) r.shape,
      ap (all_bindings k) r.written,
      put_bound k x r.init r.value,
      all_bindings_both k r.before (declared_among r.kind x r.first r.init (declarator r.binds r.value ▸ r.last) ▸ r.after),
      all_bindings_both k r.before (declaration r.kind (append r.first (declarator r.binds (put_first x r.init r.value) ▸ r.last)) ▸ r.after),
      all_bindings_both k r.first (declarator (binding x) r.init ▸ (declarator r.binds r.value ▸ r.last)),
      all_bindings_both k r.first (declarator r.binds (put_first x r.init r.value) ▸ r.last),
    )
