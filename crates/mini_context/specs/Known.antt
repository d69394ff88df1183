-- What the context of rewrites knows of a program.
use Rattle.std.specs.Prelude.{ℕ, ◌≡◌, ◌+◌, List, length}
use Rattle.mini_model.specs.declared.name.Name.{Name}
use Rattle.mini_model.specs.declared.shape.Shape.{Shape}
use Rattle.mini_model.specs.declared.shape.Shape.TheVariants as shape
use Rattle.mini_model.specs.Tree.{Tree, Trees, node, none, ◌▸◌}
use Rattle.mini_tree.specs.declared.options.CompressOptions.{CompressOptions}
use Rattle.mini_context.specs.declared.context.TraverseCtx.{TraverseCtx}
use Rattle.mini_context.specs.Facts.{Facts, Tells, Refreshed}

-- its options are these, and of the program it has what was told of one at first, and then set to
-- what this one tells
pub record Knows (c : TraverseCtx) (o : CompressOptions) (q : Tree) : Type 0 where
  pub options : c.options ≡ o
  pub first : Tree
  pub symbols : ℕ
  pub told : Facts
  pub tells : Tells told symbols first
  pub refreshed : Refreshed told c.scopes q

-- how many references there are in a tree, whatever their use
abbrev pub own_reference_count : Shape → List Name → ℕ
own_reference_count shape.Identifier xs = length xs
own_reference_count h xs = 0

abbrev mutual
  pub reference_count : Tree → ℕ
  reference_count (node h xs n ts) = own_reference_count h xs + reference_counts ts

  pub reference_counts : Trees → ℕ
  reference_counts none = 0
  reference_counts (t ▸ ts) = reference_count t + reference_counts ts
