-- The kinds of productions, in the code and by number.
use Rattle.std.specs.Prelude.{ℕ}
use Rattle.mini_print.specs.Grammar as grammar
use Rattle.mini_grammar.specs.declared.sorts.Sort.{Sort}
use Rattle.mini_grammar.specs.declared.sorts.Sort.TheVariants as sorts

abbrev pub sort_of : grammar.Sort → Sort
sort_of grammar.Values = sorts.Values
sort_of grammar.Names = sorts.Names
sort_of grammar.Bindings = sorts.Bindings
sort_of grammar.Statements = sorts.Statements
sort_of grammar.Declarators = sorts.Declarators
sort_of grammar.Properties = sorts.Properties
sort_of grammar.Bodies = sorts.Bodies
sort_of grammar.Cases = sorts.Cases
sort_of grammar.Catches = sorts.Catches
sort_of grammar.BlockParts = sorts.BlockParts
sort_of grammar.BoundProperties = sorts.BoundProperties
sort_of grammar.HeadDeclarations = sorts.HeadDeclarations
sort_of grammar.Methods = sorts.Methods
sort_of grammar.GeneratorMethods = sorts.GeneratorMethods
sort_of grammar.KeyNames = sorts.KeyNames
sort_of grammar.TemplateRests = sorts.TemplateRests
sort_of grammar.TagTemplates = sorts.TagTemplates
sort_of grammar.FirstLinks = sorts.FirstLinks
sort_of grammar.Links = sorts.Links
sort_of grammar.BoundElements = sorts.BoundElements
sort_of grammar.ClassBodies = sorts.ClassBodies
sort_of grammar.ClassElements = sorts.ClassElements
sort_of grammar.Leadings = sorts.Leadings
sort_of grammar.Patterns = sorts.Patterns
sort_of grammar.TargetElements = sorts.TargetElements
sort_of grammar.TargetProperties = sorts.TargetProperties
sort_of grammar.Declarations = sorts.Declarations
sort_of grammar.DefaultDeclarations = sorts.DefaultDeclarations
sort_of grammar.ImportItems = sorts.ImportItems
sort_of grammar.ExportItems = sorts.ExportItems
sort_of grammar.ForwardItems = sorts.ForwardItems
sort_of (grammar.DefaultsOf b s) = sorts.Defaults

abbrev pub number_of : Sort → ℕ
number_of sorts.Values = 0
number_of sorts.Names = 1
number_of sorts.Bindings = 2
number_of sorts.Statements = 3
number_of sorts.Declarators = 4
number_of sorts.Properties = 5
number_of sorts.Bodies = 6
number_of sorts.Cases = 7
number_of sorts.Catches = 8
number_of sorts.BlockParts = 9
number_of sorts.BoundProperties = 10
number_of sorts.HeadDeclarations = 11
number_of sorts.Methods = 12
number_of sorts.GeneratorMethods = 13
number_of sorts.KeyNames = 14
number_of sorts.TemplateRests = 15
number_of sorts.TagTemplates = 16
number_of sorts.FirstLinks = 17
number_of sorts.Links = 18
number_of sorts.BoundElements = 19
number_of sorts.ClassBodies = 20
number_of sorts.ClassElements = 21
number_of sorts.Leadings = 22
number_of sorts.Patterns = 23
number_of sorts.TargetElements = 24
number_of sorts.TargetProperties = 25
number_of sorts.Declarations = 26
number_of sorts.DefaultDeclarations = 27
number_of sorts.ImportItems = 28
number_of sorts.ExportItems = 29
number_of sorts.ForwardItems = 30
number_of sorts.Defaults = 31
