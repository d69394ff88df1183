-- What a parent reads of an expression of which it reads no more than that it is there.
use Rattle.std.proofs.Common.{◌≡◌, Bool, true, false, [], None, sym, refl, ap, true≢false}
use Rattle.mini_model.specs.declared.operator.UnaryOperator.TheVariants.{LogicalNot}
use Rattle.mini_model.specs.declared.shape.Shape.TheVariants as shape
use Rattle.mini_model.specs.Tree.{Tree, node, none, ◌▸◌}
use Rattle.mini_laws.specs.Naming.{Summary, no_facts, summary}
use Rattle.mini_terms.specs.Reading.{is_plain_part}

-- a parent reads nothing of it

abbrev pub plain_summary : Summary
plain_summary = record { facts = no_facts; lets = []; name = None; functions = [] }

-- of a link of a chain a parent reads whether one below is optional
abbrev link_summary : Bool → Summary
link_summary b = record plain_summary { facts = record no_facts { shortens = b } }

linked : (t : Tree) → summary t ≡ plain_summary → link_summary (summary t).facts.shortens ≡ plain_summary
linked t e = ap (λ i. link_summary i.facts.shortens) e

pub plain_read : (t : Tree) → is_plain_part t ≡ true → summary t ≡ plain_summary
plain_read (node (shape.CallExpression true) xs n ts) e = absurd (true≢false (sym e))
plain_read (node (shape.CallExpression false) xs n none) e = absurd (true≢false (sym e))
plain_read (node (shape.CallExpression false) xs n (t ▸ ts)) e = linked t (plain_read t e)
plain_read (node (shape.StaticMemberExpression true) xs n ts) e = absurd (true≢false (sym e))
plain_read (node (shape.StaticMemberExpression false) xs n none) e = absurd (true≢false (sym e))
plain_read (node (shape.StaticMemberExpression false) xs n (t ▸ ts)) e = linked t (plain_read t e)
plain_read (node (shape.ComputedMemberExpression true) xs n ts) e = absurd (true≢false (sym e))
plain_read (node (shape.ComputedMemberExpression false) xs n none) e = absurd (true≢false (sym e))
plain_read (node (shape.ComputedMemberExpression false) xs n (t ▸ ts)) e = linked t (plain_read t e)
plain_read (node (shape.PrivateFieldExpression b) xs n ts) e = absurd (true≢false (sym e))
plain_read (node (shape.UnaryExpression LogicalNot) xs n none) e = absurd (true≢false (sym e))
plain_read (node (shape.UnaryExpression LogicalNot) xs n (t ▸ ts)) e = plain_read t e
plain_read (node shape.Absent xs n ts) e = absurd (true≢false (sym e))
plain_read (node shape.InnerExpression xs n ts) e = absurd (true≢false (sym e))
plain_read (node shape.Listed xs n ts) e = absurd (true≢false (sym e))
plain_read (node (shape.Function true g ds) xs n ts) e = absurd (true≢false (sym e))
plain_read (node (shape.Class true) xs n ts) e = absurd (true≢false (sym e))
plain_read (node (shape.VariableDeclaration k) xs n ts) e = absurd (true≢false (sym e))
plain_read (node shape.VariableDeclarator xs n ts) e = absurd (true≢false (sym e))
plain_read (node shape.SwitchCase xs n ts) e = absurd (true≢false (sym e))
plain_read (node shape.ExportNamedDeclaration xs n ts) e = absurd (true≢false (sym e))
plain_read (node shape.ExportDefaultDeclaration xs n ts) e = absurd (true≢false (sym e))
plain_read (node (shape.TemplateElement l raw cooked) xs n ts) e = absurd (true≢false (sym e))
plain_read (node shape.BindingIdentifier xs n ts) e = absurd (true≢false (sym e))
plain_read (node shape.ObjectPattern xs n ts) e = absurd (true≢false (sym e))
plain_read (node shape.ArrayPattern xs n ts) e = absurd (true≢false (sym e))
plain_read (node (shape.BindingProperty l c) xs n ts) e = absurd (true≢false (sym e))
plain_read (node shape.RestElement xs n ts) e = absurd (true≢false (sym e))
plain_read (node shape.AssignmentPattern xs n ts) e = absurd (true≢false (sym e))
plain_read (node h xs n ts) e = refl
