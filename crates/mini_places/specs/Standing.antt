-- How productions stand: which are expressions, how tightly those bind, and where they don't stand.
use Rattle.std.specs.Prelude.{ℕ, Bool, true, false, ◌||◌, ◌&&◌, not, nat_le}
use Rattle.mini_model.specs.Position.{logical_level, binary_level}
use Rattle.mini_model.specs.declared.operator.AssignmentOperator.{AssignmentOperator}
use Rattle.mini_model.specs.declared.operator.AssignmentOperator.TheVariants as assignment
use Rattle.mini_model.specs.declared.operator.BinaryOperator.{BinaryOperator}
use Rattle.mini_model.specs.declared.operator.BinaryOperator.TheVariants as binary
use Rattle.mini_model.specs.declared.operator.LogicalOperator.{LogicalOperator}
use Rattle.mini_model.specs.declared.operator.LogicalOperator.TheVariants as logical
use Rattle.mini_model.specs.declared.seat.Mix.{Mix}
use Rattle.mini_model.specs.declared.seat.Mix.TheVariants as mix
use Rattle.mini_print.specs.Token.{Token, Word}
use Rattle.mini_print.specs.Grammar as grammar
use Rattle.mini_print.specs.Grammar.{Goal, Rule, Place, Values, sort, same_sort, is_of, is_reserved}
use Rattle.mini_print.specs.Printed.{is_fit}
use Rattle.mini_places.specs.declared.standing.Barred.{Barred}
use Rattle.mini_places.specs.declared.standing.Barred.TheVariants as barred
use Rattle.mini_places.specs.declared.standing.Standing.{Standing}
use Rattle.mini_places.specs.declared.standing.Standing.TheVariants as standing

abbrev pub in_barred : BinaryOperator → Barred
in_barred binary.In = barred.In
in_barred _ = barred.Never

abbrev pub mix_barred : LogicalOperator → Barred
mix_barred logical.Coalesce = barred.Coalesce
mix_barred logical.Or = barred.AndOr
mix_barred logical.And = barred.AndOr

abbrev pub assign_barred : AssignmentOperator → Barred
assign_barred assignment.Assign = barred.Pattern
assign_barred _ = barred.Never

abbrev pub standing_of : Rule → Standing
standing_of (grammar.Reference s) = standing.Named 18
standing_of (grammar.NumberLiteral s) = standing.Value 18 barred.Never
standing_of (grammar.BigIntLiteral s) = standing.Value 18 barred.Never
standing_of (grammar.TextLiteral s) = standing.Value 18 barred.Never
standing_of (grammar.RegExpLiteral s f) = standing.Value 18 barred.Never
standing_of grammar.Null = standing.Value 18 barred.Never
standing_of grammar.This = standing.Value 18 barred.Never
standing_of grammar.True = standing.Value 18 barred.Never
standing_of grammar.False = standing.Value 18 barred.Never
standing_of grammar.Parenthesized = standing.Value 18 barred.Never
standing_of grammar.Array = standing.Value 17 barred.Pattern
standing_of grammar.Object = standing.Value 17 barred.Pattern
standing_of grammar.KeyValue = standing.Plain
standing_of grammar.Computed = standing.Plain
standing_of grammar.Spread = standing.Plain
standing_of grammar.SpreadItem = standing.Value 1 barred.Spread
standing_of grammar.Member = standing.Value 18 barred.Never
standing_of grammar.Index = standing.Value 18 barred.Never
standing_of grammar.New = standing.Value 18 barred.Never
standing_of grammar.NewBare = standing.Value 16 barred.Chain
standing_of grammar.Call = standing.Value 18 barred.Call
standing_of grammar.Import = standing.Value 18 barred.Call
standing_of (grammar.PropertyName s) = standing.Plain
standing_of (grammar.Postfix s) = standing.Value 15 barred.Never
standing_of (grammar.Prefix s) = standing.Value 15 barred.Never
standing_of (grammar.Unary s) = standing.Value 14 barred.Never
standing_of (grammar.Binary s) = standing.Value (binary_level s) (in_barred s)
standing_of (grammar.Logical s) = standing.Value (logical_level s) (mix_barred s)
standing_of grammar.Conditional = standing.Value 1 barred.Never
standing_of (grammar.Assignment s) = standing.Value (1) (assign_barred s)
standing_of grammar.Sequence = standing.Value 0 barred.Never
standing_of grammar.Arrow = standing.Value 1 barred.Never
standing_of grammar.ArrowBlock = standing.Value 1 barred.Never
standing_of (grammar.ArrowName s) = standing.Named 1
standing_of (grammar.ArrowNameBlock s) = standing.Named 1
standing_of (grammar.BindingName s) = standing.Plain
standing_of grammar.Block = standing.Plain
standing_of (grammar.Variables s) = standing.Plain
standing_of grammar.Declarator = standing.Plain
standing_of grammar.Empty = standing.Plain
standing_of grammar.ExpressionStatement = standing.Plain
standing_of grammar.If = standing.If
standing_of grammar.DoWhile = standing.Plain
standing_of grammar.While = standing.Plain
standing_of grammar.For = standing.Plain
standing_of grammar.Return = standing.Plain
standing_of grammar.Throw = standing.Plain
standing_of grammar.Debugger = standing.Plain
standing_of grammar.Break = standing.Plain
standing_of grammar.Continue = standing.Plain
standing_of grammar.FunctionExpression = standing.Value 18 barred.Never
standing_of grammar.FunctionDeclaration = standing.Plain
standing_of grammar.FunctionBody = standing.Plain
standing_of grammar.GeneratorExpression = standing.Value 18 barred.Never
standing_of grammar.GeneratorDeclaration = standing.Plain
standing_of grammar.Yield = standing.Value 1 barred.Never
standing_of grammar.YieldFrom = standing.Value 1 barred.Never
standing_of grammar.YieldBare = standing.Yield
standing_of grammar.SuperMember = standing.Value 18 barred.Never
standing_of grammar.SuperIndex = standing.Value 18 barred.Never
standing_of grammar.SuperCall = standing.Value 18 barred.Call
standing_of grammar.NewTarget = standing.Value 18 barred.Never
standing_of grammar.ImportMeta = standing.Value 18 barred.Never
standing_of (grammar.PrivateName s) = standing.Plain
standing_of (grammar.PrivateIn s) = standing.Value 9 barred.In
standing_of (grammar.Label s) = standing.Plain
standing_of grammar.Switch = standing.Plain
standing_of grammar.Case = standing.Plain
standing_of grammar.DefaultCase = standing.Plain
standing_of grammar.Try = standing.Plain
standing_of grammar.CatchParam = standing.Plain
standing_of grammar.CatchBare = standing.Plain
standing_of grammar.BlockPart = standing.Plain
standing_of grammar.ObjectPattern = standing.Plain
standing_of grammar.ArrayPattern = standing.Plain
standing_of grammar.Rest = standing.Plain
standing_of grammar.BoundKeyValue = standing.Plain
standing_of grammar.BoundComputed = standing.Plain
standing_of grammar.BoundRest = standing.Plain
standing_of grammar.ForIn = standing.Plain
standing_of grammar.ForOf = standing.Plain
standing_of grammar.ForDeclared = standing.Plain
standing_of grammar.ForDeclaredIn = standing.Plain
standing_of grammar.ForDeclaredOf = standing.Plain
standing_of grammar.ForPatternIn = standing.Plain
standing_of grammar.ForPatternOf = standing.Plain
standing_of (grammar.HeadVariables s) = standing.Plain
standing_of grammar.MethodProperty = standing.Plain
standing_of grammar.Getter = standing.Plain
standing_of grammar.Setter = standing.Plain
standing_of grammar.GeneratorProperty = standing.Plain
standing_of grammar.MethodFunction = standing.Plain
standing_of grammar.GeneratorMethod = standing.Plain
standing_of (grammar.KeyWord s) = standing.Plain
standing_of (grammar.KeyText s) = standing.Plain
standing_of (grammar.KeyNumber s) = standing.Plain
standing_of (grammar.BoundShorthand s) = standing.Plain
standing_of (grammar.Shorthand s) = standing.Plain
standing_of (grammar.WholeTemplate s) = standing.Value 18 barred.Never
standing_of (grammar.Template s) = standing.Value 18 barred.Never
standing_of (grammar.MiddlePiece s) = standing.Plain
standing_of (grammar.TailPiece s) = standing.Plain
standing_of grammar.TaggedTemplate = standing.Value 18 barred.Never
standing_of (grammar.TagWhole s) = standing.Plain
standing_of (grammar.TagParts s) = standing.Plain
standing_of grammar.Chain = standing.Value 16 barred.Chain
standing_of grammar.FirstMember = standing.Plain
standing_of grammar.FirstIndex = standing.Plain
standing_of grammar.FirstCall = standing.Plain
standing_of grammar.LinkMember = standing.Plain
standing_of grammar.LinkIndex = standing.Plain
standing_of grammar.LinkCall = standing.Plain
standing_of grammar.OptionalMember = standing.Plain
standing_of grammar.OptionalIndex = standing.Plain
standing_of grammar.OptionalCall = standing.Plain
standing_of grammar.Defaulted = standing.Plain
standing_of (grammar.BoundDefault s) = standing.Plain
standing_of (grammar.NamedDefault s f) = standing.Plain
standing_of grammar.ClassPlain = standing.Value 18 barred.Never
standing_of (grammar.ClassNamed s) = standing.Named 18
standing_of (grammar.ClassDeclared s) = standing.Plain
standing_of grammar.ClassBody = standing.Plain
standing_of grammar.ClassMethod = standing.Plain
standing_of grammar.ClassComputedMethod = standing.Plain
standing_of grammar.ClassGenerator = standing.Plain
standing_of grammar.ClassComputedGenerator = standing.Plain
standing_of grammar.ClassGetter = standing.Plain
standing_of grammar.ClassComputedGetter = standing.Plain
standing_of grammar.ClassSetter = standing.Plain
standing_of grammar.ClassComputedSetter = standing.Plain
standing_of grammar.Field = standing.Plain
standing_of grammar.ComputedField = standing.Plain
standing_of grammar.StaticElement = standing.Plain
standing_of grammar.StaticInit = standing.Plain
standing_of (grammar.PrivateKey s) = standing.Plain
standing_of grammar.PatternAssignment = standing.Value 1 barred.Pattern
standing_of grammar.ArrayTarget = standing.Plain
standing_of grammar.ObjectTarget = standing.Plain
standing_of grammar.PatternItem = standing.Plain
standing_of grammar.ValueItem = standing.Plain
standing_of grammar.PatternRest = standing.Plain
standing_of grammar.ValueRest = standing.Plain
standing_of (grammar.TargetShorthand s) = standing.Plain
standing_of (grammar.TargetDefault s) = standing.Plain
standing_of grammar.TargetKeyValue = standing.Plain
standing_of grammar.TargetComputed = standing.Plain
standing_of grammar.TargetPropertyRest = standing.Plain
standing_of (grammar.Directive s) = standing.Plain
standing_of grammar.ComputedMethod = standing.Plain
standing_of grammar.ComputedGetter = standing.Plain
standing_of grammar.ComputedSetter = standing.Plain
standing_of grammar.ComputedGenerator = standing.Plain
standing_of (grammar.ImportBare s) = standing.Plain
standing_of grammar.ImportNames = standing.Plain
standing_of grammar.ImportNamespace = standing.Plain
standing_of (grammar.ImportDefault s) = standing.Plain
standing_of (grammar.ImportDefaultNames s) = standing.Plain
standing_of (grammar.ImportDefaultNamespace s) = standing.Plain
standing_of (grammar.ImportShort s) = standing.Plain
standing_of grammar.ImportAs = standing.Plain
standing_of grammar.ExportNames = standing.Plain
standing_of grammar.ExportFrom = standing.Plain
standing_of grammar.ExportAll = standing.Plain
standing_of grammar.ExportDeclared = standing.Plain
standing_of grammar.ExportValue = standing.Plain
standing_of grammar.ExportDefault = standing.Plain
standing_of (grammar.ExportShort s) = standing.Plain
standing_of (grammar.ExportAs s) = standing.Plain
standing_of (grammar.ForwardName s) = standing.Plain
standing_of (grammar.ForwardText s) = standing.Plain
standing_of grammar.ForwardAs = standing.Plain
standing_of (grammar.DeclaredVariables s) = standing.Plain
standing_of grammar.DeclaredFunction = standing.Plain
standing_of grammar.DeclaredGenerator = standing.Plain
standing_of (grammar.DeclaredClass s) = standing.Plain
standing_of grammar.DefaultFunction = standing.Plain
standing_of grammar.DefaultGenerator = standing.Plain
standing_of grammar.DefaultClass = standing.Plain
standing_of (grammar.DefaultClassNamed s) = standing.Plain

abbrev pub barred_of : Standing → Barred
barred_of (standing.Value n b) = b
barred_of _ = barred.Never

-- the goals of values
abbrev pub is_value_goal : Goal → Bool
is_value_goal g = same_sort (sort g) Values

abbrev pub is_barred : Goal → Barred → Bool
is_barred grammar.WithoutIn barred.In = true
is_barred grammar.WithoutIn barred.Spread = true
is_barred grammar.Callee barred.Call = true
is_barred grammar.Callee barred.Chain = true
is_barred grammar.Callee barred.Spread = true
is_barred grammar.Target barred.Pattern = true
is_barred grammar.Target barred.Chain = true
is_barred grammar.Target barred.Spread = true
is_barred grammar.Anything barred.Spread = true
is_barred _ b = false

abbrev pub is_mixed : Mix → Barred → Bool
is_mixed mix.InCoalesce barred.AndOr = true
is_mixed mix.InAndOr barred.Coalesce = true
is_mixed _ b = false

-- whether a value that binds so tightly stands in a place as it is
abbrev pub fits : Place → ℕ → Barred → Bool
fits p n b = is_value_goal p.goal && (not (is_barred p.goal b) && (nat_le p.level n && not (is_mixed p.around b)))

abbrev pub is_reserved_token : Token → Bool
is_reserved_token (Word s) = is_reserved s
is_reserved_token _ = false

-- whether a production, whose own token is this, stands in a place without parentheses
abbrev pub opened : Standing → Token → Place → Bool
opened standing.If x p = true
opened standing.Plain x p = true
opened standing.Yield x p = fits p 1 barred.Never
opened (standing.Named n) x p = fits p n barred.Never || is_reserved_token x
opened (standing.Value n b) x p = fits p n b

-- what the definitions ask
abbrev pub is_open : Place → Rule → Bool
is_open p h = not (is_of Values h) || is_fit p h

abbrev pub is_yield : Standing → Bool
is_yield standing.Yield = true
is_yield _ = false

-- whether a production, whose own token is this, is one of a value
abbrev pub value_by : Standing → Token → Bool
value_by standing.If x = false
value_by standing.Plain x = false
value_by standing.Yield x = true
value_by (standing.Named n) x = not (is_reserved_token x)
value_by (standing.Value n b) x = true

abbrev pub is_special : Standing → Bool
is_special standing.If = true
is_special standing.Yield = true
is_special _ = false
