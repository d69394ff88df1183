-- What the values of the code are in the grammar's definitions.
use Rattle.std.specs.Prelude.{ℕ, List, [], ◌∷◌, codes}
use Rattle.mini_print.specs.Text.{escaped}
use Rattle.mini_print.specs.Token as tokens
use Rattle.mini_print.specs.Token.{binary_token, logical_token, unary_token, update_token}
use Rattle.mini_print.specs.Grammar as grammar
use Rattle.mini_print.specs.Grammar.{kind_token}
use Rattle.mini_grammar.specs.declared.keyword.Keyword.{Keyword}
use Rattle.mini_grammar.specs.declared.keyword.Keyword.TheVariants as keyword
use Rattle.mini_grammar.specs.declared.token.Punct.{Punct}
use Rattle.mini_grammar.specs.declared.token.Punct.TheVariants as punct
use Rattle.mini_grammar.specs.declared.token.Token.{Token}
use Rattle.mini_grammar.specs.declared.token.Token.TheVariants as token
use Rattle.mini_grammar.specs.declared.grammar.Goal.{Goal}
use Rattle.mini_grammar.specs.declared.grammar.Goal.TheVariants as goal
use Rattle.mini_grammar.specs.declared.grammar.Aim.{Aim}
use Rattle.mini_grammar.specs.declared.grammar.Aim.TheVariants as aim
use Rattle.mini_grammar.specs.declared.grammar.Rule.{Rule}
use Rattle.mini_grammar.specs.declared.grammar.Rule.TheVariants as rule
use Rattle.mini_grammar.specs.declared.grammar.Fixed.{Fixed}
use Rattle.mini_grammar.specs.declared.grammar.Fixed.TheVariants as fixed
use Rattle.mini_grammar.specs.declared.grammar.Place as place_type

abbrev pub word_text : Keyword → List ℕ
word_text keyword.As = codes "as"
word_text keyword.Async = codes "async"
word_text keyword.Await = codes "await"
word_text keyword.Break = codes "break"
word_text keyword.Case = codes "case"
word_text keyword.Catch = codes "catch"
word_text keyword.Class = codes "class"
word_text keyword.Const = codes "const"
word_text keyword.Continue = codes "continue"
word_text keyword.Debugger = codes "debugger"
word_text keyword.Default = codes "default"
word_text keyword.Delete = codes "delete"
word_text keyword.Do = codes "do"
word_text keyword.Else = codes "else"
word_text keyword.Enum = codes "enum"
word_text keyword.Export = codes "export"
word_text keyword.Extends = codes "extends"
word_text keyword.False = codes "false"
word_text keyword.Finally = codes "finally"
word_text keyword.For = codes "for"
word_text keyword.From = codes "from"
word_text keyword.Function = codes "function"
word_text keyword.Get = codes "get"
word_text keyword.If = codes "if"
word_text keyword.Import = codes "import"
word_text keyword.In = codes "in"
word_text keyword.Instanceof = codes "instanceof"
word_text keyword.Let = codes "let"
word_text keyword.Meta = codes "meta"
word_text keyword.New = codes "new"
word_text keyword.Null = codes "null"
word_text keyword.Of = codes "of"
word_text keyword.Return = codes "return"
word_text keyword.Set = codes "set"
word_text keyword.Static = codes "static"
word_text keyword.Super = codes "super"
word_text keyword.Switch = codes "switch"
word_text keyword.Target = codes "target"
word_text keyword.This = codes "this"
word_text keyword.Throw = codes "throw"
word_text keyword.True = codes "true"
word_text keyword.Try = codes "try"
word_text keyword.Typeof = codes "typeof"
word_text keyword.Var = codes "var"
word_text keyword.Void = codes "void"
word_text keyword.While = codes "while"
word_text keyword.With = codes "with"
word_text keyword.Yield = codes "yield"

abbrev pub word_texts : List Keyword → List (List ℕ)
word_texts [] = []
word_texts (w ∷ ws) = word_text w ∷ word_texts ws

abbrev pub punctuator : Punct → tokens.Punctuator
punctuator punct.LeftParen = tokens.LeftParen
punctuator punct.RightParen = tokens.RightParen
punctuator punct.LeftBracket = tokens.LeftBracket
punctuator punct.RightBracket = tokens.RightBracket
punctuator punct.LeftBrace = tokens.LeftBrace
punctuator punct.RightBrace = tokens.RightBrace
punctuator punct.Comma = tokens.Comma
punctuator punct.Semicolon = tokens.Semicolon
punctuator punct.Colon = tokens.Colon
punctuator punct.Question = tokens.Question
punctuator punct.Dot = tokens.Dot
punctuator punct.Ellipsis = tokens.Ellipsis
punctuator punct.OptionalDot = tokens.OptionalDot
punctuator punct.Arrow = tokens.Arrow
punctuator punct.Plus = tokens.Plus
punctuator punct.Minus = tokens.Minus
punctuator punct.Times = tokens.Times
punctuator punct.Slash = tokens.Slash
punctuator punct.Percent = tokens.Percent
punctuator punct.Power = tokens.Power
punctuator punct.PlusPlus = tokens.PlusPlus
punctuator punct.MinusMinus = tokens.MinusMinus
punctuator punct.Bang = tokens.Bang
punctuator punct.Tilde = tokens.Tilde
punctuator punct.Ampersand = tokens.Ampersand
punctuator punct.Bar = tokens.Bar
punctuator punct.Caret = tokens.Caret
punctuator punct.AndAnd = tokens.AndAnd
punctuator punct.BarBar = tokens.BarBar
punctuator punct.QuestionQuestion = tokens.QuestionQuestion
punctuator punct.ShiftL = tokens.ShiftL
punctuator punct.ShiftR = tokens.ShiftR
punctuator punct.ShiftRR = tokens.ShiftRR
punctuator punct.Less = tokens.Less
punctuator punct.LessEqual = tokens.LessEqual
punctuator punct.Greater = tokens.Greater
punctuator punct.GreaterEqual = tokens.GreaterEqual
punctuator punct.EqualEqual = tokens.EqualEqual
punctuator punct.BangEqual = tokens.BangEqual
punctuator punct.EqualEqualEqual = tokens.EqualEqualEqual
punctuator punct.BangEqualEqual = tokens.BangEqualEqual
punctuator (punct.Assigns o) = tokens.Assigns o

abbrev pub token_of : Token → tokens.Token
token_of (token.Word s) = tokens.Word s.now
token_of (token.Mark p) = tokens.Punct (punctuator p)
token_of (token.Number n) = tokens.Number n
token_of (token.BigInt n) = tokens.BigInt n
token_of (token.Quoted s) = tokens.Quoted s.now
token_of (token.Text s) = tokens.Quoted (escaped s.now)
token_of (token.Pattern p f) = tokens.Pattern p.now f.now
token_of (token.Private s) = tokens.Private s.now
token_of (token.TemplateWhole s) = tokens.TemplateWhole s.now
token_of (token.TemplateHead s) = tokens.TemplateHead s.now
token_of (token.TemplateMiddle s) = tokens.TemplateMiddle s.now
token_of (token.TemplateTail s) = tokens.TemplateTail s.now

-- of tokens that were put one before the other, the last one first
abbrev pub before : List Token → List tokens.Token → List tokens.Token
before [] ts = ts
before (x ∷ xs) ts = before xs (token_of x ∷ ts)

abbrev pub goal_of : Goal → grammar.Goal
goal_of goal.Anything = grammar.Anything
goal_of goal.WithoutIn = grammar.WithoutIn
goal_of goal.Callee = grammar.Callee
goal_of goal.AfterDot = grammar.AfterDot
goal_of goal.Binding = grammar.Binding
goal_of goal.Statement = grammar.Statement
goal_of goal.Declared = grammar.Declared
goal_of goal.Element = grammar.Element
goal_of goal.Property = grammar.Property
goal_of goal.Body = grammar.Body
goal_of goal.Bound = grammar.Bound
goal_of goal.Parameter = grammar.Parameter
goal_of goal.BoundProperty = grammar.BoundProperty
goal_of goal.HeadDeclaration = grammar.HeadDeclaration
goal_of goal.HeadDeclared = grammar.HeadDeclared
goal_of goal.MethodValue = grammar.MethodValue
goal_of goal.GeneratorValue = grammar.GeneratorValue
goal_of goal.KeyName = grammar.KeyName
goal_of goal.LabelName = grammar.LabelName
goal_of goal.CaseItem = grammar.CaseItem
goal_of goal.Catching = grammar.Catching
goal_of goal.BlockOnly = grammar.BlockOnly
goal_of goal.TemplateRest = grammar.TemplateRest
goal_of goal.TagTemplate = grammar.TagTemplate
goal_of goal.FirstLink = grammar.FirstLink
goal_of goal.Link = grammar.Link
goal_of goal.BoundElement = grammar.BoundElement
goal_of goal.ClassBraces = grammar.ClassBraces
goal_of goal.ClassElement = grammar.ClassElement
goal_of goal.PlainElement = grammar.PlainElement
goal_of goal.ClassKey = grammar.ClassKey
goal_of goal.TargetPattern = grammar.TargetPattern
goal_of goal.Target = grammar.Target
goal_of goal.TargetElement = grammar.TargetElement
goal_of goal.TargetProperty = grammar.TargetProperty
goal_of goal.Leading = grammar.Leading
goal_of goal.ModuleItem = grammar.ModuleItem
goal_of goal.SourceText = grammar.SourceText
goal_of goal.ModuleName = grammar.ModuleName
goal_of goal.ImportItem = grammar.ImportItem
goal_of goal.Exportable = grammar.Exportable
goal_of goal.DefaultDeclared = grammar.DefaultDeclared
goal_of goal.ExportItem = grammar.ExportItem
goal_of goal.ForwardItem = grammar.ForwardItem

abbrev pub aim_of : Aim → grammar.Goal
aim_of (aim.Plain g) = goal_of g
aim_of (aim.DefaultOf b s) = grammar.DefaultOf b s.now

abbrev pub place_of : place_type.Place → grammar.Place
place_of p = record { goal = aim_of p.goal; level = p.level; around = p.around }

abbrev pub fixed_of : Fixed → grammar.Rule
fixed_of fixed.Null = grammar.Null
fixed_of fixed.This = grammar.This
fixed_of fixed.True = grammar.True
fixed_of fixed.False = grammar.False
fixed_of fixed.Array = grammar.Array
fixed_of fixed.Object = grammar.Object
fixed_of fixed.KeyValue = grammar.KeyValue
fixed_of fixed.Computed = grammar.Computed
fixed_of fixed.Spread = grammar.Spread
fixed_of fixed.SpreadItem = grammar.SpreadItem
fixed_of fixed.Member = grammar.Member
fixed_of fixed.Index = grammar.Index
fixed_of fixed.New = grammar.New
fixed_of fixed.NewBare = grammar.NewBare
fixed_of fixed.Call = grammar.Call
fixed_of fixed.Import = grammar.Import
fixed_of fixed.Conditional = grammar.Conditional
fixed_of fixed.Sequence = grammar.Sequence
fixed_of fixed.Arrow = grammar.Arrow
fixed_of fixed.ArrowBlock = grammar.ArrowBlock
fixed_of fixed.Block = grammar.Block
fixed_of fixed.Declarator = grammar.Declarator
fixed_of fixed.Empty = grammar.Empty
fixed_of fixed.ExpressionStatement = grammar.ExpressionStatement
fixed_of fixed.If = grammar.If
fixed_of fixed.DoWhile = grammar.DoWhile
fixed_of fixed.While = grammar.While
fixed_of fixed.For = grammar.For
fixed_of fixed.Return = grammar.Return
fixed_of fixed.Throw = grammar.Throw
fixed_of fixed.Debugger = grammar.Debugger
fixed_of fixed.Break = grammar.Break
fixed_of fixed.Continue = grammar.Continue
fixed_of fixed.FunctionExpression = grammar.FunctionExpression
fixed_of fixed.FunctionDeclaration = grammar.FunctionDeclaration
fixed_of fixed.FunctionBody = grammar.FunctionBody
fixed_of fixed.GeneratorExpression = grammar.GeneratorExpression
fixed_of fixed.GeneratorDeclaration = grammar.GeneratorDeclaration
fixed_of fixed.Yield = grammar.Yield
fixed_of fixed.YieldFrom = grammar.YieldFrom
fixed_of fixed.YieldBare = grammar.YieldBare
fixed_of fixed.SuperMember = grammar.SuperMember
fixed_of fixed.SuperIndex = grammar.SuperIndex
fixed_of fixed.SuperCall = grammar.SuperCall
fixed_of fixed.NewTarget = grammar.NewTarget
fixed_of fixed.ImportMeta = grammar.ImportMeta
fixed_of fixed.Switch = grammar.Switch
fixed_of fixed.Case = grammar.Case
fixed_of fixed.DefaultCase = grammar.DefaultCase
fixed_of fixed.Try = grammar.Try
fixed_of fixed.CatchParam = grammar.CatchParam
fixed_of fixed.CatchBare = grammar.CatchBare
fixed_of fixed.BlockPart = grammar.BlockPart
fixed_of fixed.ObjectPattern = grammar.ObjectPattern
fixed_of fixed.ArrayPattern = grammar.ArrayPattern
fixed_of fixed.Rest = grammar.Rest
fixed_of fixed.BoundKeyValue = grammar.BoundKeyValue
fixed_of fixed.BoundComputed = grammar.BoundComputed
fixed_of fixed.BoundRest = grammar.BoundRest
fixed_of fixed.ForIn = grammar.ForIn
fixed_of fixed.ForOf = grammar.ForOf
fixed_of fixed.ForDeclared = grammar.ForDeclared
fixed_of fixed.ForDeclaredIn = grammar.ForDeclaredIn
fixed_of fixed.ForDeclaredOf = grammar.ForDeclaredOf
fixed_of fixed.ForPatternIn = grammar.ForPatternIn
fixed_of fixed.ForPatternOf = grammar.ForPatternOf
fixed_of fixed.MethodProperty = grammar.MethodProperty
fixed_of fixed.Getter = grammar.Getter
fixed_of fixed.Setter = grammar.Setter
fixed_of fixed.GeneratorProperty = grammar.GeneratorProperty
fixed_of fixed.MethodFunction = grammar.MethodFunction
fixed_of fixed.GeneratorMethod = grammar.GeneratorMethod
fixed_of fixed.TaggedTemplate = grammar.TaggedTemplate
fixed_of fixed.Chain = grammar.Chain
fixed_of fixed.FirstMember = grammar.FirstMember
fixed_of fixed.FirstIndex = grammar.FirstIndex
fixed_of fixed.FirstCall = grammar.FirstCall
fixed_of fixed.LinkMember = grammar.LinkMember
fixed_of fixed.LinkIndex = grammar.LinkIndex
fixed_of fixed.LinkCall = grammar.LinkCall
fixed_of fixed.OptionalMember = grammar.OptionalMember
fixed_of fixed.OptionalIndex = grammar.OptionalIndex
fixed_of fixed.OptionalCall = grammar.OptionalCall
fixed_of fixed.Defaulted = grammar.Defaulted
fixed_of fixed.ClassPlain = grammar.ClassPlain
fixed_of fixed.ClassBody = grammar.ClassBody
fixed_of fixed.ClassMethod = grammar.ClassMethod
fixed_of fixed.ClassComputedMethod = grammar.ClassComputedMethod
fixed_of fixed.ClassGenerator = grammar.ClassGenerator
fixed_of fixed.ClassComputedGenerator = grammar.ClassComputedGenerator
fixed_of fixed.ClassGetter = grammar.ClassGetter
fixed_of fixed.ClassComputedGetter = grammar.ClassComputedGetter
fixed_of fixed.ClassSetter = grammar.ClassSetter
fixed_of fixed.ClassComputedSetter = grammar.ClassComputedSetter
fixed_of fixed.Field = grammar.Field
fixed_of fixed.ComputedField = grammar.ComputedField
fixed_of fixed.StaticElement = grammar.StaticElement
fixed_of fixed.StaticInit = grammar.StaticInit
fixed_of fixed.PatternAssignment = grammar.PatternAssignment
fixed_of fixed.ArrayTarget = grammar.ArrayTarget
fixed_of fixed.ObjectTarget = grammar.ObjectTarget
fixed_of fixed.PatternItem = grammar.PatternItem
fixed_of fixed.ValueItem = grammar.ValueItem
fixed_of fixed.PatternRest = grammar.PatternRest
fixed_of fixed.ValueRest = grammar.ValueRest
fixed_of fixed.TargetKeyValue = grammar.TargetKeyValue
fixed_of fixed.TargetComputed = grammar.TargetComputed
fixed_of fixed.TargetPropertyRest = grammar.TargetPropertyRest
fixed_of fixed.ComputedMethod = grammar.ComputedMethod
fixed_of fixed.ComputedGetter = grammar.ComputedGetter
fixed_of fixed.ComputedSetter = grammar.ComputedSetter
fixed_of fixed.ComputedGenerator = grammar.ComputedGenerator
fixed_of fixed.ImportNames = grammar.ImportNames
fixed_of fixed.ImportNamespace = grammar.ImportNamespace
fixed_of fixed.ImportAs = grammar.ImportAs
fixed_of fixed.ExportNames = grammar.ExportNames
fixed_of fixed.ExportFrom = grammar.ExportFrom
fixed_of fixed.ExportAll = grammar.ExportAll
fixed_of fixed.ExportDeclared = grammar.ExportDeclared
fixed_of fixed.ExportValue = grammar.ExportValue
fixed_of fixed.ExportDefault = grammar.ExportDefault
fixed_of fixed.ForwardAs = grammar.ForwardAs
fixed_of fixed.DeclaredFunction = grammar.DeclaredFunction
fixed_of fixed.DeclaredGenerator = grammar.DeclaredGenerator
fixed_of fixed.DefaultFunction = grammar.DefaultFunction
fixed_of fixed.DefaultGenerator = grammar.DefaultGenerator
fixed_of fixed.DefaultClass = grammar.DefaultClass

abbrev pub rule_of : Rule → grammar.Rule
rule_of (rule.Fixed x) = fixed_of x
rule_of (rule.Reference s) = grammar.Reference s.now
rule_of (rule.NumberLiteral s) = grammar.NumberLiteral s
rule_of (rule.BigIntLiteral s) = grammar.BigIntLiteral s
rule_of (rule.TextLiteral s) = grammar.TextLiteral s.now
rule_of (rule.RegExpLiteral s f) = grammar.RegExpLiteral s.now f.now
rule_of (rule.PropertyName s) = grammar.PropertyName s.now
rule_of (rule.Postfix s) = grammar.Postfix s
rule_of (rule.Prefix s) = grammar.Prefix s
rule_of (rule.Unary s) = grammar.Unary s
rule_of (rule.Binary s) = grammar.Binary s
rule_of (rule.Logical s) = grammar.Logical s
rule_of (rule.Assignment s) = grammar.Assignment s
rule_of (rule.BindingName s) = grammar.BindingName s.now
rule_of (rule.Variables s) = grammar.Variables s
rule_of (rule.PrivateName s) = grammar.PrivateName s.now
rule_of (rule.PrivateIn s) = grammar.PrivateIn s.now
rule_of (rule.Label s) = grammar.Label s.now
rule_of (rule.HeadVariables s) = grammar.HeadVariables s
rule_of (rule.KeyWord s) = grammar.KeyWord s.now
rule_of (rule.KeyText s) = grammar.KeyText s.now
rule_of (rule.KeyNumber s) = grammar.KeyNumber s
rule_of (rule.BoundShorthand s) = grammar.BoundShorthand s.now
rule_of (rule.Shorthand s) = grammar.Shorthand s.now
rule_of (rule.WholeTemplate s) = grammar.WholeTemplate s.now
rule_of (rule.Template s) = grammar.Template s.now
rule_of (rule.MiddlePiece s) = grammar.MiddlePiece s.now
rule_of (rule.TailPiece s) = grammar.TailPiece s.now
rule_of (rule.TagWhole s) = grammar.TagWhole s.now
rule_of (rule.TagParts s) = grammar.TagParts s.now
rule_of (rule.BoundDefault s) = grammar.BoundDefault s.now
rule_of (rule.NamedDefault s f) = grammar.NamedDefault s f.now
rule_of (rule.ClassNamed s) = grammar.ClassNamed s.now
rule_of (rule.ClassDeclared s) = grammar.ClassDeclared s.now
rule_of (rule.PrivateKey s) = grammar.PrivateKey s.now
rule_of (rule.TargetShorthand s) = grammar.TargetShorthand s.now
rule_of (rule.TargetDefault s) = grammar.TargetDefault s.now
rule_of (rule.Directive s) = grammar.Directive s.now
rule_of (rule.ImportBare s) = grammar.ImportBare s.now
rule_of (rule.ImportDefault s) = grammar.ImportDefault s.now
rule_of (rule.ImportDefaultNames s) = grammar.ImportDefaultNames s.now
rule_of (rule.ImportDefaultNamespace s) = grammar.ImportDefaultNamespace s.now
rule_of (rule.ImportShort s) = grammar.ImportShort s.now
rule_of (rule.ExportShort s) = grammar.ExportShort s.now
rule_of (rule.ExportAs s) = grammar.ExportAs s.now
rule_of (rule.ForwardName s) = grammar.ForwardName s.now
rule_of (rule.ForwardText s) = grammar.ForwardText s.now
rule_of (rule.DeclaredVariables s) = grammar.DeclaredVariables s
rule_of (rule.DeclaredClass s) = grammar.DeclaredClass s.now
rule_of (rule.DefaultClassNamed s) = grammar.DefaultClassNamed s.now
rule_of (rule.ArrowName s) = grammar.ArrowName s.now
rule_of (rule.ArrowNameBlock s) = grammar.ArrowNameBlock s.now
