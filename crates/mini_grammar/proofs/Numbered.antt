-- The kind of a production is that of a goal where their numbers are the same.
use Rattle.std.proofs.Common.{◌≡◌, refl}
use Rattle.std.specs.Prelude.{nat_eq}
use Rattle.mini_print.specs.Grammar as grammar
use Rattle.mini_print.specs.Grammar.{sort, same_sort}
use Rattle.mini_grammar.specs.Sorts.{sort_of, number_of}
use Rattle.mini_grammar.specs.Views.{goal_of}
use Rattle.mini_grammar.specs.declared.grammar.Goal.{Goal}
use Rattle.mini_grammar.specs.declared.grammar.Goal.TheVariants as goal

pub same_by : (g : Goal) (s : grammar.Sort) → same_sort (sort (goal_of g)) s ≡ nat_eq (number_of (sort_of (sort (goal_of g)))) (number_of (sort_of s))
same_by goal.Anything grammar.Values = refl
same_by goal.Anything s = refl
same_by goal.WithoutIn grammar.Values = refl
same_by goal.WithoutIn s = refl
same_by goal.Callee grammar.Values = refl
same_by goal.Callee s = refl
same_by goal.AfterDot grammar.Names = refl
same_by goal.AfterDot s = refl
same_by goal.Binding grammar.Bindings = refl
same_by goal.Binding s = refl
same_by goal.Statement grammar.Statements = refl
same_by goal.Statement s = refl
same_by goal.Declared grammar.Declarators = refl
same_by goal.Declared s = refl
same_by goal.Element grammar.Values = refl
same_by goal.Element s = refl
same_by goal.Property grammar.Properties = refl
same_by goal.Property s = refl
same_by goal.Body grammar.Bodies = refl
same_by goal.Body s = refl
same_by goal.Bound grammar.Bindings = refl
same_by goal.Bound s = refl
same_by goal.Parameter grammar.BoundElements = refl
same_by goal.Parameter s = refl
same_by goal.BoundProperty grammar.BoundProperties = refl
same_by goal.BoundProperty s = refl
same_by goal.HeadDeclaration grammar.HeadDeclarations = refl
same_by goal.HeadDeclaration s = refl
same_by goal.HeadDeclared grammar.Declarators = refl
same_by goal.HeadDeclared s = refl
same_by goal.MethodValue grammar.Methods = refl
same_by goal.MethodValue s = refl
same_by goal.GeneratorValue grammar.GeneratorMethods = refl
same_by goal.GeneratorValue s = refl
same_by goal.KeyName grammar.KeyNames = refl
same_by goal.KeyName s = refl
same_by goal.LabelName grammar.Names = refl
same_by goal.LabelName s = refl
same_by goal.CaseItem grammar.Cases = refl
same_by goal.CaseItem s = refl
same_by goal.Catching grammar.Catches = refl
same_by goal.Catching s = refl
same_by goal.BlockOnly grammar.BlockParts = refl
same_by goal.BlockOnly s = refl
same_by goal.TemplateRest grammar.TemplateRests = refl
same_by goal.TemplateRest s = refl
same_by goal.TagTemplate grammar.TagTemplates = refl
same_by goal.TagTemplate s = refl
same_by goal.FirstLink grammar.FirstLinks = refl
same_by goal.FirstLink s = refl
same_by goal.Link grammar.Links = refl
same_by goal.Link s = refl
same_by goal.BoundElement grammar.BoundElements = refl
same_by goal.BoundElement s = refl
same_by goal.ClassBraces grammar.ClassBodies = refl
same_by goal.ClassBraces s = refl
same_by goal.ClassElement grammar.ClassElements = refl
same_by goal.ClassElement s = refl
same_by goal.PlainElement grammar.ClassElements = refl
same_by goal.PlainElement s = refl
same_by goal.ClassKey grammar.KeyNames = refl
same_by goal.ClassKey s = refl
same_by goal.TargetPattern grammar.Patterns = refl
same_by goal.TargetPattern s = refl
same_by goal.Target grammar.Values = refl
same_by goal.Target s = refl
same_by goal.TargetElement grammar.TargetElements = refl
same_by goal.TargetElement s = refl
same_by goal.TargetProperty grammar.TargetProperties = refl
same_by goal.TargetProperty s = refl
same_by goal.Leading grammar.Leadings = refl
same_by goal.Leading s = refl
same_by goal.ModuleItem grammar.Statements = refl
same_by goal.ModuleItem s = refl
same_by goal.SourceText grammar.KeyNames = refl
same_by goal.SourceText s = refl
same_by goal.ModuleName grammar.KeyNames = refl
same_by goal.ModuleName s = refl
same_by goal.ImportItem grammar.ImportItems = refl
same_by goal.ImportItem s = refl
same_by goal.Exportable grammar.Declarations = refl
same_by goal.Exportable s = refl
same_by goal.DefaultDeclared grammar.DefaultDeclarations = refl
same_by goal.DefaultDeclared s = refl
same_by goal.ExportItem grammar.ExportItems = refl
same_by goal.ExportItem s = refl
same_by goal.ForwardItem grammar.ForwardItems = refl
same_by goal.ForwardItem s = refl
