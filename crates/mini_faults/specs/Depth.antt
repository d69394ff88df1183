-- How deep the text of a tree nests: each piece of a template stands in the one before it.
use Rattle.std.specs.Prelude.{ℕ, ◌-◌, nat_le, Bool, true, false, ◌&&◌, if◌then◌else◌}
use Rattle.mini_model.specs.declared.shape.Shape.{Shape}
use Rattle.mini_model.specs.declared.shape.Shape.TheVariants as shape
use Rattle.mini_model.specs.Tree.{Tree, Trees, node, none, ◌▸◌, count, children, shape_of}
use Rattle.mini_node.specs.Children.{part}

abbrev pub is_template : Shape → Bool
is_template shape.TemplateLiteral = true
is_template _ = false

-- the levels of a node: one, or one for each piece of a template
abbrev pub own_levels : Tree → ℕ
own_levels t = if is_template (shape_of t) then count (children (part t 0)) else 1

-- whether a tree has at most so many levels
abbrev mutual
  pub nests_within : ℕ → Tree → Bool
  nests_within k (node h xs n ts) = nat_le (own_levels (node h xs n ts)) k && all_nest_within (k - own_levels (node h xs n ts)) ts

  pub all_nest_within : ℕ → Trees → Bool
  all_nest_within k none = true
  all_nest_within k (t ▸ ts) = nests_within k t && all_nest_within k ts

-- what a program that is printed has at most
abbrev pub may_print : Tree → Bool
may_print = nests_within 1000
