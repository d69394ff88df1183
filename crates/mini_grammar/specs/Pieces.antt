-- What stands in each production, as the table in the code has it, and that it is what the grammar
-- has.
use Rattle.std.specs.Prelude.{ℕ, ◌+◌, ◌||◌, not, Bool, true, false, List, [], ◌∷◌, Some, None, option_map}
use Rattle.mini_model.specs.Position.{left_level, right_level, logical_level, mix_of}
use Rattle.mini_model.specs.declared.seat.Mix.{Mix}
use Rattle.mini_model.specs.declared.seat.Mix.TheVariants as mix
use Rattle.mini_model.specs.declared.operator.AssignmentOperator.TheVariants as assignment
use Rattle.mini_print.specs.Token.{Token, Word, Punct, Number, BigInt, Quoted, Pattern, Private, TemplateWhole, TemplateHead, TemplateMiddle, TemplateTail, Semicolon, RightBrace, binary_token, logical_token, unary_token, update_token, assignment_token}
use Rattle.mini_print.specs.Text.{escaped}
use Rattle.mini_print.specs.Grammar as grammar
use Rattle.mini_print.specs.Grammar.{Rule, Part, Silent, Lookahead, Opener, Least, left, part, commas, perhaps, option, statements, unwritten, lookahead, fork, form, kind_token, named, NameOf, BindingOf, ReferenceOf, PrivateOf, SuperHere, PieceOf, TextOf, NoItems, ParameterOf, Nothing}
use Rattle.mini_grammar.specs.Views.{word_text, punctuator, goal_of}
use Rattle.mini_grammar.specs.declared.keyword.Keyword.TheVariants as keyword
use Rattle.mini_grammar.specs.declared.token.Punct.TheVariants as punct
use Rattle.mini_grammar.specs.declared.grammar.Goal.TheVariants as goal
use Rattle.mini_grammar.specs.declared.grammar.Lookahead as lookahead_type
use Rattle.mini_grammar.specs.declared.grammar.Lookahead.TheVariants as look
use Rattle.mini_grammar.specs.declared.grammar.Ending as ending_type
use Rattle.mini_grammar.specs.declared.grammar.Ending.TheVariants as ending
use Rattle.mini_grammar.specs.declared.grammar.Opener as opener_type
use Rattle.mini_grammar.specs.declared.grammar.Opener.TheVariants as opener
use Rattle.mini_grammar.specs.declared.grammar.Least as least_type
use Rattle.mini_grammar.specs.declared.grammar.Least.TheVariants as least
use Rattle.mini_grammar.specs.declared.grammar.Silent as silent_type
use Rattle.mini_grammar.specs.declared.grammar.Silent.TheVariants as silent
use Rattle.mini_grammar.specs.declared.grammar.Piece.{Piece}
use Rattle.mini_grammar.specs.declared.grammar.Piece.TheVariants as piece

-- the token that a production itself has
abbrev pub own : Rule → Token
own (grammar.Reference s) = Word s
own (grammar.NumberLiteral n) = Number n
own (grammar.BigIntLiteral n) = BigInt n
own (grammar.TextLiteral s) = Quoted (escaped s)
own (grammar.RegExpLiteral p f) = Pattern p f
own (grammar.PropertyName s) = Word s
own (grammar.Postfix o) = update_token o
own (grammar.Prefix o) = update_token o
own (grammar.Unary o) = unary_token o
own (grammar.Binary o) = binary_token o
own (grammar.Logical o) = logical_token o
own (grammar.Assignment o) = assignment_token o
own (grammar.BindingName s) = Word s
own (grammar.Variables k) = kind_token k
own (grammar.PrivateName s) = Private s
own (grammar.PrivateIn s) = Private s
own (grammar.Label s) = Word s
own (grammar.BoundShorthand s) = Word s
own (grammar.Shorthand s) = Word s
own (grammar.HeadVariables k) = kind_token k
own (grammar.KeyWord s) = Word s
own (grammar.KeyText s) = Quoted (escaped s)
own (grammar.KeyNumber n) = Number n
own (grammar.WholeTemplate s) = TemplateWhole s
own (grammar.TargetShorthand s) = Word s
own (grammar.TargetDefault s) = Word s
own (grammar.Directive s) = Quoted s
own (grammar.ClassNamed s) = Word s
own (grammar.ClassDeclared s) = Word s
own (grammar.PrivateKey s) = Private s
own (grammar.BoundDefault s) = Word s
own (grammar.Template s) = TemplateHead s
own (grammar.MiddlePiece s) = TemplateMiddle s
own (grammar.TailPiece s) = TemplateTail s
own (grammar.TagWhole s) = TemplateWhole s
own (grammar.TagParts s) = TemplateHead s
own (grammar.ImportBare s) = Quoted (escaped s)
own (grammar.ImportDefault s) = Word s
own (grammar.ImportDefaultNames s) = Word s
own (grammar.ImportDefaultNamespace s) = Word s
own (grammar.ImportShort s) = Word s
own (grammar.ExportShort s) = Word s
own (grammar.ExportAs s) = Word s
own (grammar.ForwardName s) = Word s
own (grammar.ForwardText s) = Quoted (escaped s)
own (grammar.DeclaredVariables k) = kind_token k
own (grammar.DeclaredClass s) = Word s
own (grammar.DefaultClassNamed s) = Word s
own (grammar.ArrowName s) = Word s
own (grammar.ArrowNameBlock s) = Word s
own _ = Punct Semicolon

-- the name of a production
abbrev pub own_text : Rule → List ℕ
own_text (grammar.Reference s) = s
own_text (grammar.TextLiteral s) = s
own_text (grammar.PropertyName s) = s
own_text (grammar.BindingName s) = s
own_text (grammar.PrivateName s) = s
own_text (grammar.PrivateIn s) = s
own_text (grammar.Label s) = s
own_text (grammar.KeyWord s) = s
own_text (grammar.KeyText s) = s
own_text (grammar.BoundShorthand s) = s
own_text (grammar.Shorthand s) = s
own_text (grammar.WholeTemplate s) = s
own_text (grammar.Template s) = s
own_text (grammar.MiddlePiece s) = s
own_text (grammar.TailPiece s) = s
own_text (grammar.TagWhole s) = s
own_text (grammar.TagParts s) = s
own_text (grammar.BoundDefault s) = s
own_text (grammar.ClassNamed s) = s
own_text (grammar.ClassDeclared s) = s
own_text (grammar.PrivateKey s) = s
own_text (grammar.TargetShorthand s) = s
own_text (grammar.TargetDefault s) = s
own_text (grammar.Directive s) = s
own_text (grammar.ImportBare s) = s
own_text (grammar.ImportDefault s) = s
own_text (grammar.ImportDefaultNames s) = s
own_text (grammar.ImportDefaultNamespace s) = s
own_text (grammar.ImportShort s) = s
own_text (grammar.ExportShort s) = s
own_text (grammar.ExportAs s) = s
own_text (grammar.ForwardName s) = s
own_text (grammar.ForwardText s) = s
own_text (grammar.DeclaredClass s) = s
own_text (grammar.DefaultClassNamed s) = s
own_text (grammar.ArrowName s) = s
own_text (grammar.ArrowNameBlock s) = s
own_text (grammar.NamedDefault b s) = s
own_text _ = []

-- how tightly the operands of a production's operator bind, and what is around them
abbrev pub left_operand : Rule → ℕ
left_operand (grammar.Binary o) = left_level o
left_operand (grammar.Logical o) = logical_level o
left_operand _ = 0

abbrev pub right_operand : Rule → ℕ
right_operand (grammar.Binary o) = right_level o
right_operand (grammar.Logical o) = logical_level o + 1
right_operand _ = 0

abbrev pub operand_mix : Rule → Mix
operand_mix (grammar.Logical o) = mix_of o
operand_mix _ = mix.None

abbrev pub flag_of : Rule → Bool
flag_of (grammar.NamedDefault b s) = b
flag_of _ = false

abbrev pub look_of : lookahead_type.Lookahead → Lookahead
look_of look.NoStatement = grammar.NoStatement
look_of look.NoBrace = grammar.NoBrace
look_of look.Key = grammar.Key
look_of look.NotAsync = grammar.NotAsync
look_of look.NoDeclaration = grammar.NoDeclaration

abbrev pub ending_of : ending_type.Ending → Lookahead
ending_of ending.Ended = grammar.Ended
ending_of ending.HeadEnd = grammar.HeadEnd
ending_of ending.CaseEnd = grammar.CaseEnd
ending_of ending.YieldEnd = grammar.YieldEnd

abbrev pub opener_of : opener_type.Opener → Opener
opener_of opener.Equals = grammar.Equals
opener_of opener.Else = grammar.Else
opener_of opener.Catch = grammar.Catch
opener_of opener.Finally = grammar.Finally
opener_of opener.Extends = grammar.Extends
opener_of opener.As = grammar.As

abbrev pub least_of : least_type.Least → Least
least_of least.Zero = grammar.Zero
least_of least.One = grammar.One
least_of least.Two = grammar.Two
least_of least.Gaps = grammar.Gaps

abbrev pub silent_of : Rule → silent_type.Silent → Silent
silent_of h silent.Nothing = Nothing
silent_of h silent.Super = SuperHere
silent_of h silent.Name = NameOf (own_text h)
silent_of h silent.Binding = BindingOf (own_text h)
silent_of h silent.Reference = ReferenceOf (own_text h)
silent_of h silent.Private = PrivateOf (own_text h)
silent_of h silent.Named = named (flag_of h) (own_text h)
silent_of h (silent.Piece b) = PieceOf b (own_text h)
silent_of h (silent.Word w) = NameOf (word_text w)
silent_of h silent.Text = TextOf (own_text h)
silent_of h silent.NoItems = NoItems
silent_of h silent.Parameter = ParameterOf (own_text h)

-- a piece of a production, before others
abbrev pub piece_parts : Rule → Piece → List Part → List Part
piece_parts h (piece.Word w) ps = grammar.token (Word (word_text w)) ∷ ps
piece_parts h (piece.Mark p) ps = grammar.token (Punct (punctuator p)) ∷ ps
piece_parts h piece.Own ps = grammar.token (own h) ∷ ps
piece_parts h (piece.Left n) ps = left grammar.Anything n mix.None ∷ ps
piece_parts h piece.LeftOperand ps = left grammar.Anything (left_operand h) (operand_mix h) ∷ ps
piece_parts h piece.RightOperand ps = part None (right_operand h) (operand_mix h) ∷ ps
piece_parts h (piece.Part o n) ps = part (option_map goal_of o) n mix.None ∷ ps
piece_parts h (piece.Default b) ps = part (Some (grammar.DefaultOf b (own_text h))) 0 mix.None ∷ ps
piece_parts h (piece.Restricted c o n) ps = lookahead (look_of c) ∷ part (option_map goal_of o) n mix.None ∷ ps
piece_parts h (piece.Commas o l) ps = commas (option_map goal_of o) (least_of l) ∷ ps
piece_parts h (piece.Perhaps i) ps = perhaps (goal_of i) ∷ ps
piece_parts h (piece.Option w o n) ps = option (opener_of w) (option_map goal_of o) n ∷ ps
piece_parts h (piece.Statements i) ps = statements (goal_of i) ∷ ps
piece_parts h piece.Undirected ps = lookahead grammar.NoDirective ∷ statements grammar.Statement ∷ grammar.token (Punct RightBrace) ∷ ps
piece_parts h (piece.Silent v) ps = unwritten (silent_of h v) ∷ ps
piece_parts h piece.Fork ps = fork ∷ ps
piece_parts h piece.Semicolon ps = grammar.semicolon ∷ ps
piece_parts h (piece.End c) ps = lookahead (ending_of c) ∷ []

-- a piece that is a token or nothing, and one that takes a part
abbrev pub is_mark : Piece → Bool
is_mark (piece.Word w) = true
is_mark (piece.Mark p) = true
is_mark piece.Own = true
is_mark piece.Fork = true
is_mark piece.Semicolon = true
is_mark _ = false

abbrev pub is_end : Piece → Bool
is_end (piece.End c) = true
is_end _ = false

abbrev pub takes_part : Piece → Bool
takes_part x = not (is_mark x || is_end x)

abbrev pub parts_in : Rule → List Piece → List Part
parts_in h [] = []
parts_in h (x ∷ xs) = piece_parts h x (parts_in h xs)

abbrev pub pieces_of : Rule → List Piece
pieces_of (grammar.Reference s) = piece.Own ∷ []
pieces_of (grammar.NumberLiteral n) = piece.Own ∷ []
pieces_of (grammar.BigIntLiteral n) = piece.Own ∷ []
pieces_of (grammar.TextLiteral s) = piece.Own ∷ []
pieces_of (grammar.RegExpLiteral p f) = piece.Own ∷ []
pieces_of grammar.Null = piece.Word keyword.Null ∷ []
pieces_of grammar.This = piece.Word keyword.This ∷ []
pieces_of grammar.True = piece.Word keyword.True ∷ []
pieces_of grammar.False = piece.Word keyword.False ∷ []
pieces_of grammar.Parenthesized = piece.Mark punct.LeftParen ∷ piece.Part (Some goal.Anything) 0 ∷ piece.Mark punct.RightParen ∷ []
pieces_of grammar.Array = piece.Mark punct.LeftBracket ∷ piece.Commas (Some goal.Element) least.Gaps ∷ piece.Mark punct.RightBracket ∷ []
pieces_of grammar.Object = piece.Mark punct.LeftBrace ∷ piece.Commas (Some goal.Property) least.Zero ∷ piece.Mark punct.RightBrace ∷ []
pieces_of grammar.KeyValue = piece.Restricted look.Key (Some goal.KeyName) 0 ∷ piece.Mark punct.Colon ∷ piece.Part None 1 ∷ []
pieces_of grammar.Computed = piece.Mark punct.LeftBracket ∷ piece.Part (Some goal.Anything) 1 ∷ piece.Mark punct.RightBracket ∷ piece.Mark punct.Colon ∷ piece.Part None 1 ∷ []
pieces_of grammar.Spread = piece.Mark punct.Ellipsis ∷ piece.Part None 1 ∷ []
pieces_of grammar.SpreadItem = piece.Mark punct.Ellipsis ∷ piece.Part None 1 ∷ []
pieces_of grammar.Member = piece.Left 17 ∷ piece.Mark punct.Dot ∷ piece.Part (Some goal.AfterDot) 0 ∷ []
pieces_of grammar.Index = piece.Left 17 ∷ piece.Mark punct.LeftBracket ∷ piece.Part (Some goal.Anything) 0 ∷ piece.Mark punct.RightBracket ∷ []
pieces_of grammar.New = piece.Word keyword.New ∷ piece.Part (Some goal.Callee) 16 ∷ piece.Fork ∷ piece.Mark punct.LeftParen ∷ piece.Commas (Some goal.Element) least.Zero ∷ piece.Mark punct.RightParen ∷ []
pieces_of grammar.NewBare = piece.Word keyword.New ∷ piece.Part (Some goal.Callee) 16 ∷ piece.Fork ∷ piece.Silent silent.NoItems ∷ []
pieces_of grammar.Import = piece.Word keyword.Import ∷ piece.Mark punct.LeftParen ∷ piece.Part (Some goal.Anything) 1 ∷ piece.Mark punct.RightParen ∷ []
pieces_of grammar.Call = piece.Left 17 ∷ piece.Mark punct.LeftParen ∷ piece.Commas (Some goal.Element) least.Zero ∷ piece.Mark punct.RightParen ∷ []
pieces_of (grammar.PropertyName s) = piece.Own ∷ []
pieces_of (grammar.Postfix o) = piece.Left 18 ∷ piece.Own ∷ []
pieces_of (grammar.Prefix o) = piece.Own ∷ piece.Part None 16 ∷ []
pieces_of (grammar.Unary o) = piece.Own ∷ piece.Part None 14 ∷ []
pieces_of (grammar.Binary o) = piece.LeftOperand ∷ piece.Own ∷ piece.RightOperand ∷ []
pieces_of (grammar.Logical o) = piece.LeftOperand ∷ piece.Own ∷ piece.RightOperand ∷ []
pieces_of grammar.Conditional = piece.Left 3 ∷ piece.Mark punct.Question ∷ piece.Part (Some goal.Anything) 1 ∷ piece.Mark punct.Colon ∷ piece.Part None 1 ∷ []
pieces_of (grammar.Assignment o) = piece.Left 18 ∷ piece.Own ∷ piece.Part None 1 ∷ []
pieces_of grammar.Sequence = piece.Commas None least.Two ∷ []
pieces_of grammar.Arrow = piece.Mark punct.LeftParen ∷ piece.Commas (Some goal.Parameter) least.Zero ∷ piece.Mark punct.RightParen ∷ piece.Mark punct.Arrow ∷ piece.Restricted look.NoBrace None 1 ∷ []
pieces_of grammar.ArrowBlock = piece.Mark punct.LeftParen ∷ piece.Commas (Some goal.Parameter) least.Zero ∷ piece.Mark punct.RightParen ∷ piece.Mark punct.Arrow ∷ piece.Part (Some goal.Body) 0 ∷ []
pieces_of (grammar.ArrowName s) = piece.Own ∷ piece.Mark punct.Arrow ∷ piece.Silent silent.Parameter ∷ piece.Restricted look.NoBrace None 1 ∷ []
pieces_of (grammar.ArrowNameBlock s) = piece.Own ∷ piece.Mark punct.Arrow ∷ piece.Silent silent.Parameter ∷ piece.Part (Some goal.Body) 0 ∷ []
pieces_of (grammar.BindingName s) = piece.Own ∷ []
pieces_of grammar.Block = piece.Mark punct.LeftBrace ∷ piece.Statements goal.Statement ∷ piece.Mark punct.RightBrace ∷ []
pieces_of (grammar.Variables k) = piece.Own ∷ piece.Commas (Some goal.Declared) least.One ∷ piece.Semicolon ∷ []
pieces_of grammar.Declarator = piece.Part (Some goal.Bound) 0 ∷ piece.Option opener.Equals None 1 ∷ []
pieces_of grammar.Empty = piece.Mark punct.Semicolon ∷ []
pieces_of grammar.ExpressionStatement = piece.Restricted look.NoStatement (Some goal.Anything) 0 ∷ piece.Semicolon ∷ []
pieces_of grammar.If = piece.Word keyword.If ∷ piece.Mark punct.LeftParen ∷ piece.Part (Some goal.Anything) 0 ∷ piece.Mark punct.RightParen ∷ piece.Part (Some goal.Statement) 0 ∷ piece.Option opener.Else (Some goal.Statement) 0 ∷ []
pieces_of grammar.DoWhile = piece.Word keyword.Do ∷ piece.Part (Some goal.Statement) 0 ∷ piece.Word keyword.While ∷ piece.Mark punct.LeftParen ∷ piece.Part (Some goal.Anything) 0 ∷ piece.Mark punct.RightParen ∷ piece.Semicolon ∷ []
pieces_of grammar.While = piece.Word keyword.While ∷ piece.Mark punct.LeftParen ∷ piece.Part (Some goal.Anything) 0 ∷ piece.Mark punct.RightParen ∷ piece.Part (Some goal.Statement) 0 ∷ []
pieces_of grammar.For = piece.Word keyword.For ∷ piece.Mark punct.LeftParen ∷ piece.Perhaps goal.WithoutIn ∷ piece.Fork ∷ piece.Mark punct.Semicolon ∷ piece.Perhaps goal.Anything ∷ piece.Mark punct.Semicolon ∷ piece.Perhaps goal.Anything ∷ piece.Mark punct.RightParen ∷ piece.Part (Some goal.Statement) 0 ∷ []
pieces_of grammar.Return = piece.Word keyword.Return ∷ piece.Perhaps goal.Anything ∷ piece.Semicolon ∷ []
pieces_of grammar.Throw = piece.Word keyword.Throw ∷ piece.Part (Some goal.Anything) 0 ∷ piece.Semicolon ∷ []
pieces_of grammar.Debugger = piece.Word keyword.Debugger ∷ piece.Semicolon ∷ []
pieces_of grammar.Break = piece.Word keyword.Break ∷ piece.Perhaps goal.LabelName ∷ piece.Semicolon ∷ []
pieces_of grammar.Continue = piece.Word keyword.Continue ∷ piece.Perhaps goal.LabelName ∷ piece.Semicolon ∷ []
pieces_of grammar.FunctionExpression = piece.Word keyword.Function ∷ piece.Perhaps goal.Binding ∷ piece.Mark punct.LeftParen ∷ piece.Commas (Some goal.Parameter) least.Zero ∷ piece.Mark punct.RightParen ∷ piece.Part (Some goal.Body) 0 ∷ []
pieces_of grammar.FunctionDeclaration = piece.Word keyword.Function ∷ piece.Part (Some goal.Binding) 0 ∷ piece.Mark punct.LeftParen ∷ piece.Commas (Some goal.Parameter) least.Zero ∷ piece.Mark punct.RightParen ∷ piece.Part (Some goal.Body) 0 ∷ []
pieces_of grammar.GeneratorExpression = piece.Word keyword.Function ∷ piece.Mark punct.Times ∷ piece.Perhaps goal.Binding ∷ piece.Mark punct.LeftParen ∷ piece.Commas (Some goal.Parameter) least.Zero ∷ piece.Mark punct.RightParen ∷ piece.Part (Some goal.Body) 0 ∷ []
pieces_of grammar.GeneratorDeclaration = piece.Word keyword.Function ∷ piece.Mark punct.Times ∷ piece.Part (Some goal.Binding) 0 ∷ piece.Mark punct.LeftParen ∷ piece.Commas (Some goal.Parameter) least.Zero ∷ piece.Mark punct.RightParen ∷ piece.Part (Some goal.Body) 0 ∷ []
pieces_of grammar.Yield = piece.Word keyword.Yield ∷ piece.Part None 1 ∷ []
pieces_of grammar.YieldBare = piece.Word keyword.Yield ∷ piece.Silent silent.Nothing ∷ piece.End ending.YieldEnd ∷ []
pieces_of grammar.YieldFrom = piece.Word keyword.Yield ∷ piece.Mark punct.Times ∷ piece.Part None 1 ∷ []
pieces_of grammar.SuperMember = piece.Word keyword.Super ∷ piece.Mark punct.Dot ∷ piece.Silent silent.Super ∷ piece.Part (Some goal.AfterDot) 0 ∷ []
pieces_of grammar.SuperIndex = piece.Word keyword.Super ∷ piece.Mark punct.LeftBracket ∷ piece.Silent silent.Super ∷ piece.Part (Some goal.Anything) 0 ∷ piece.Mark punct.RightBracket ∷ []
pieces_of grammar.SuperCall = piece.Word keyword.Super ∷ piece.Mark punct.LeftParen ∷ piece.Silent silent.Super ∷ piece.Commas (Some goal.Element) least.Zero ∷ piece.Mark punct.RightParen ∷ []
pieces_of grammar.NewTarget = piece.Word keyword.New ∷ piece.Mark punct.Dot ∷ piece.Word keyword.Target ∷ piece.Silent (silent.Word keyword.New) ∷ piece.Silent (silent.Word keyword.Target) ∷ []
pieces_of grammar.ImportMeta = piece.Word keyword.Import ∷ piece.Mark punct.Dot ∷ piece.Word keyword.Meta ∷ piece.Silent (silent.Word keyword.Import) ∷ piece.Silent (silent.Word keyword.Meta) ∷ []
pieces_of (grammar.PrivateName s) = piece.Own ∷ []
pieces_of (grammar.PrivateIn s) = piece.Own ∷ piece.Word keyword.In ∷ piece.Silent silent.Private ∷ piece.Part None 10 ∷ []
pieces_of (grammar.Label s) = piece.Own ∷ piece.Mark punct.Colon ∷ piece.Silent silent.Name ∷ piece.Part (Some goal.Statement) 0 ∷ []
pieces_of grammar.Switch = piece.Word keyword.Switch ∷ piece.Mark punct.LeftParen ∷ piece.Part (Some goal.Anything) 0 ∷ piece.Mark punct.RightParen ∷ piece.Mark punct.LeftBrace ∷ piece.Statements goal.CaseItem ∷ piece.Mark punct.RightBrace ∷ []
pieces_of grammar.Case = piece.Word keyword.Case ∷ piece.Part (Some goal.Anything) 0 ∷ piece.Mark punct.Colon ∷ piece.Statements goal.Statement ∷ piece.End ending.CaseEnd ∷ []
pieces_of grammar.DefaultCase = piece.Word keyword.Default ∷ piece.Mark punct.Colon ∷ piece.Silent silent.Nothing ∷ piece.Statements goal.Statement ∷ piece.End ending.CaseEnd ∷ []
pieces_of grammar.Try = piece.Word keyword.Try ∷ piece.Part (Some goal.BlockOnly) 0 ∷ piece.Option opener.Catch (Some goal.Catching) 0 ∷ piece.Option opener.Finally (Some goal.BlockOnly) 0 ∷ []
pieces_of grammar.CatchParam = piece.Mark punct.LeftParen ∷ piece.Part (Some goal.Bound) 0 ∷ piece.Mark punct.RightParen ∷ piece.Part (Some goal.BlockOnly) 0 ∷ []
pieces_of grammar.CatchBare = piece.Silent silent.Nothing ∷ piece.Part (Some goal.BlockOnly) 0 ∷ []
pieces_of grammar.ObjectPattern = piece.Mark punct.LeftBrace ∷ piece.Commas (Some goal.BoundProperty) least.Zero ∷ piece.Mark punct.RightBrace ∷ []
pieces_of grammar.ArrayPattern = piece.Mark punct.LeftBracket ∷ piece.Commas (Some goal.Parameter) least.Gaps ∷ piece.Mark punct.RightBracket ∷ []
pieces_of grammar.Rest = piece.Mark punct.Ellipsis ∷ piece.Part (Some goal.Bound) 0 ∷ []
pieces_of grammar.BoundRest = piece.Mark punct.Ellipsis ∷ piece.Part (Some goal.Bound) 0 ∷ []
pieces_of grammar.BoundKeyValue = piece.Restricted look.Key (Some goal.KeyName) 0 ∷ piece.Mark punct.Colon ∷ piece.Part (Some goal.BoundElement) 0 ∷ []
pieces_of grammar.BoundComputed = piece.Mark punct.LeftBracket ∷ piece.Part (Some goal.Anything) 1 ∷ piece.Mark punct.RightBracket ∷ piece.Mark punct.Colon ∷ piece.Part (Some goal.BoundElement) 0 ∷ []
pieces_of (grammar.BoundShorthand s) = piece.Own ∷ piece.Silent silent.Name ∷ piece.Silent silent.Binding ∷ piece.End ending.Ended ∷ []
pieces_of (grammar.Shorthand s) = piece.Own ∷ piece.Silent silent.Name ∷ piece.Silent silent.Reference ∷ piece.End ending.Ended ∷ []
pieces_of grammar.ForIn = piece.Word keyword.For ∷ piece.Mark punct.LeftParen ∷ piece.Part (Some goal.WithoutIn) 18 ∷ piece.Fork ∷ piece.Word keyword.In ∷ piece.Part (Some goal.Anything) 0 ∷ piece.Mark punct.RightParen ∷ piece.Part (Some goal.Statement) 0 ∷ []
pieces_of grammar.ForOf = piece.Word keyword.For ∷ piece.Mark punct.LeftParen ∷ piece.Restricted look.NotAsync (Some goal.WithoutIn) 18 ∷ piece.Fork ∷ piece.Word keyword.Of ∷ piece.Part (Some goal.Anything) 1 ∷ piece.Mark punct.RightParen ∷ piece.Part (Some goal.Statement) 0 ∷ []
pieces_of grammar.ForDeclared = piece.Word keyword.For ∷ piece.Mark punct.LeftParen ∷ piece.Part (Some goal.HeadDeclaration) 0 ∷ piece.Fork ∷ piece.Mark punct.Semicolon ∷ piece.Perhaps goal.Anything ∷ piece.Mark punct.Semicolon ∷ piece.Perhaps goal.Anything ∷ piece.Mark punct.RightParen ∷ piece.Part (Some goal.Statement) 0 ∷ []
pieces_of grammar.ForDeclaredIn = piece.Word keyword.For ∷ piece.Mark punct.LeftParen ∷ piece.Part (Some goal.HeadDeclaration) 0 ∷ piece.Fork ∷ piece.Word keyword.In ∷ piece.Part (Some goal.Anything) 0 ∷ piece.Mark punct.RightParen ∷ piece.Part (Some goal.Statement) 0 ∷ []
pieces_of grammar.ForDeclaredOf = piece.Word keyword.For ∷ piece.Mark punct.LeftParen ∷ piece.Part (Some goal.HeadDeclaration) 0 ∷ piece.Fork ∷ piece.Word keyword.Of ∷ piece.Part (Some goal.Anything) 1 ∷ piece.Mark punct.RightParen ∷ piece.Part (Some goal.Statement) 0 ∷ []
pieces_of grammar.ForPatternIn = piece.Word keyword.For ∷ piece.Mark punct.LeftParen ∷ piece.Part (Some goal.TargetPattern) 0 ∷ piece.Word keyword.In ∷ piece.Part (Some goal.Anything) 0 ∷ piece.Mark punct.RightParen ∷ piece.Part (Some goal.Statement) 0 ∷ []
pieces_of grammar.ForPatternOf = piece.Word keyword.For ∷ piece.Mark punct.LeftParen ∷ piece.Part (Some goal.TargetPattern) 0 ∷ piece.Word keyword.Of ∷ piece.Part (Some goal.Anything) 1 ∷ piece.Mark punct.RightParen ∷ piece.Part (Some goal.Statement) 0 ∷ []
pieces_of (grammar.HeadVariables k) = piece.Own ∷ piece.Commas (Some goal.HeadDeclared) least.One ∷ piece.End ending.HeadEnd ∷ []
pieces_of grammar.MethodProperty = piece.Restricted look.Key (Some goal.KeyName) 0 ∷ piece.Part (Some goal.MethodValue) 0 ∷ []
pieces_of grammar.Getter = piece.Word keyword.Get ∷ piece.Restricted look.Key (Some goal.KeyName) 0 ∷ piece.Part (Some goal.MethodValue) 0 ∷ []
pieces_of grammar.Setter = piece.Word keyword.Set ∷ piece.Restricted look.Key (Some goal.KeyName) 0 ∷ piece.Part (Some goal.MethodValue) 0 ∷ []
pieces_of grammar.GeneratorProperty = piece.Mark punct.Times ∷ piece.Restricted look.Key (Some goal.KeyName) 0 ∷ piece.Part (Some goal.GeneratorValue) 0 ∷ []
pieces_of grammar.MethodFunction = piece.Silent silent.Nothing ∷ piece.Mark punct.LeftParen ∷ piece.Commas (Some goal.Parameter) least.Zero ∷ piece.Mark punct.RightParen ∷ piece.Part (Some goal.Body) 0 ∷ []
pieces_of grammar.GeneratorMethod = piece.Silent silent.Nothing ∷ piece.Mark punct.LeftParen ∷ piece.Commas (Some goal.Parameter) least.Zero ∷ piece.Mark punct.RightParen ∷ piece.Part (Some goal.Body) 0 ∷ []
pieces_of (grammar.KeyWord s) = piece.Own ∷ []
pieces_of (grammar.KeyText s) = piece.Own ∷ []
pieces_of (grammar.KeyNumber n) = piece.Own ∷ []
pieces_of grammar.BlockPart = piece.Mark punct.LeftBrace ∷ piece.Statements goal.Statement ∷ piece.Mark punct.RightBrace ∷ []
pieces_of grammar.FunctionBody = piece.Mark punct.LeftBrace ∷ piece.Statements goal.Leading ∷ piece.Undirected ∷ []
pieces_of (grammar.WholeTemplate s) = piece.Own ∷ piece.Silent (silent.Piece true) ∷ []
pieces_of grammar.Defaulted = piece.Part (Some goal.Bound) 0 ∷ piece.Option opener.Equals (Some goal.Anything) 1 ∷ piece.End ending.Ended ∷ []
pieces_of grammar.PatternAssignment = piece.Part (Some goal.TargetPattern) 0 ∷ piece.Mark (punct.Assigns assignment.Assign) ∷ piece.Part None 1 ∷ []
pieces_of grammar.ArrayTarget = piece.Mark punct.LeftBracket ∷ piece.Commas (Some goal.TargetElement) least.Gaps ∷ piece.Mark punct.RightBracket ∷ []
pieces_of grammar.ObjectTarget = piece.Mark punct.LeftBrace ∷ piece.Commas (Some goal.TargetProperty) least.Zero ∷ piece.Mark punct.RightBrace ∷ []
pieces_of grammar.PatternItem = piece.Part (Some goal.TargetPattern) 0 ∷ piece.Option opener.Equals (Some goal.Anything) 1 ∷ piece.End ending.Ended ∷ []
pieces_of grammar.ValueItem = piece.Part (Some goal.Target) 16 ∷ piece.Option opener.Equals (Some goal.Anything) 1 ∷ piece.End ending.Ended ∷ []
pieces_of grammar.PatternRest = piece.Mark punct.Ellipsis ∷ piece.Part (Some goal.TargetPattern) 0 ∷ []
pieces_of grammar.ValueRest = piece.Mark punct.Ellipsis ∷ piece.Part (Some goal.Target) 16 ∷ piece.End ending.Ended ∷ []
pieces_of (grammar.TargetShorthand s) = piece.Own ∷ piece.Silent silent.Name ∷ piece.Silent silent.Reference ∷ piece.End ending.Ended ∷ []
pieces_of (grammar.TargetDefault s) = piece.Own ∷ piece.Silent silent.Name ∷ piece.Default false ∷ []
pieces_of grammar.TargetKeyValue = piece.Restricted look.Key (Some goal.KeyName) 0 ∷ piece.Mark punct.Colon ∷ piece.Part (Some goal.TargetElement) 0 ∷ []
pieces_of grammar.TargetComputed = piece.Mark punct.LeftBracket ∷ piece.Part (Some goal.Anything) 1 ∷ piece.Mark punct.RightBracket ∷ piece.Mark punct.Colon ∷ piece.Part (Some goal.TargetElement) 0 ∷ []
pieces_of grammar.TargetPropertyRest = piece.Mark punct.Ellipsis ∷ piece.Part (Some goal.Target) 16 ∷ piece.End ending.Ended ∷ []
pieces_of (grammar.Directive s) = piece.Own ∷ piece.Semicolon ∷ []
pieces_of grammar.ClassPlain = piece.Word keyword.Class ∷ piece.Silent silent.Nothing ∷ piece.Option opener.Extends (Some goal.Anything) 16 ∷ piece.Part (Some goal.ClassBraces) 0 ∷ piece.Silent silent.Nothing ∷ []
pieces_of (grammar.ClassNamed s) = piece.Word keyword.Class ∷ piece.Own ∷ piece.Silent silent.Binding ∷ piece.Option opener.Extends (Some goal.Anything) 16 ∷ piece.Part (Some goal.ClassBraces) 0 ∷ piece.Silent silent.Nothing ∷ []
pieces_of (grammar.ClassDeclared s) = piece.Word keyword.Class ∷ piece.Own ∷ piece.Silent silent.Binding ∷ piece.Option opener.Extends (Some goal.Anything) 16 ∷ piece.Part (Some goal.ClassBraces) 0 ∷ piece.Silent silent.Binding ∷ []
pieces_of grammar.ClassBody = piece.Mark punct.LeftBrace ∷ piece.Statements goal.ClassElement ∷ piece.Mark punct.RightBrace ∷ []
pieces_of grammar.ClassMethod = piece.Part (Some goal.ClassKey) 0 ∷ piece.Part (Some goal.MethodValue) 0 ∷ []
pieces_of grammar.ClassComputedMethod = piece.Mark punct.LeftBracket ∷ piece.Part (Some goal.Anything) 1 ∷ piece.Mark punct.RightBracket ∷ piece.Part (Some goal.MethodValue) 0 ∷ []
pieces_of grammar.ClassGenerator = piece.Mark punct.Times ∷ piece.Part (Some goal.ClassKey) 0 ∷ piece.Part (Some goal.GeneratorValue) 0 ∷ []
pieces_of grammar.ClassComputedGenerator = piece.Mark punct.Times ∷ piece.Mark punct.LeftBracket ∷ piece.Part (Some goal.Anything) 1 ∷ piece.Mark punct.RightBracket ∷ piece.Part (Some goal.GeneratorValue) 0 ∷ []
pieces_of grammar.ClassGetter = piece.Word keyword.Get ∷ piece.Part (Some goal.ClassKey) 0 ∷ piece.Part (Some goal.MethodValue) 0 ∷ []
pieces_of grammar.ClassComputedGetter = piece.Word keyword.Get ∷ piece.Mark punct.LeftBracket ∷ piece.Part (Some goal.Anything) 1 ∷ piece.Mark punct.RightBracket ∷ piece.Part (Some goal.MethodValue) 0 ∷ []
pieces_of grammar.ClassSetter = piece.Word keyword.Set ∷ piece.Part (Some goal.ClassKey) 0 ∷ piece.Part (Some goal.MethodValue) 0 ∷ []
pieces_of grammar.ClassComputedSetter = piece.Word keyword.Set ∷ piece.Mark punct.LeftBracket ∷ piece.Part (Some goal.Anything) 1 ∷ piece.Mark punct.RightBracket ∷ piece.Part (Some goal.MethodValue) 0 ∷ []
pieces_of grammar.Field = piece.Part (Some goal.ClassKey) 0 ∷ piece.Option opener.Equals (Some goal.Anything) 1 ∷ piece.Semicolon ∷ []
pieces_of grammar.ComputedField = piece.Mark punct.LeftBracket ∷ piece.Part (Some goal.Anything) 1 ∷ piece.Mark punct.RightBracket ∷ piece.Option opener.Equals (Some goal.Anything) 1 ∷ piece.Semicolon ∷ []
pieces_of grammar.StaticElement = piece.Word keyword.Static ∷ piece.Part (Some goal.PlainElement) 0 ∷ []
pieces_of grammar.StaticInit = piece.Word keyword.Static ∷ piece.Mark punct.LeftBrace ∷ piece.Statements goal.Statement ∷ piece.Mark punct.RightBrace ∷ []
pieces_of (grammar.PrivateKey s) = piece.Own ∷ []
pieces_of (grammar.BoundDefault s) = piece.Own ∷ piece.Silent silent.Name ∷ piece.Default true ∷ []
pieces_of (grammar.NamedDefault b s) = piece.Mark (punct.Assigns assignment.Assign) ∷ piece.Silent silent.Named ∷ piece.Part (Some goal.Anything) 1 ∷ piece.End ending.Ended ∷ []
pieces_of grammar.ComputedMethod = piece.Mark punct.LeftBracket ∷ piece.Part (Some goal.Anything) 1 ∷ piece.Mark punct.RightBracket ∷ piece.Part (Some goal.MethodValue) 0 ∷ []
pieces_of grammar.ComputedGetter = piece.Word keyword.Get ∷ piece.Mark punct.LeftBracket ∷ piece.Part (Some goal.Anything) 1 ∷ piece.Mark punct.RightBracket ∷ piece.Part (Some goal.MethodValue) 0 ∷ []
pieces_of grammar.ComputedSetter = piece.Word keyword.Set ∷ piece.Mark punct.LeftBracket ∷ piece.Part (Some goal.Anything) 1 ∷ piece.Mark punct.RightBracket ∷ piece.Part (Some goal.MethodValue) 0 ∷ []
pieces_of grammar.ComputedGenerator = piece.Mark punct.Times ∷ piece.Mark punct.LeftBracket ∷ piece.Part (Some goal.Anything) 1 ∷ piece.Mark punct.RightBracket ∷ piece.Part (Some goal.GeneratorValue) 0 ∷ []
pieces_of (grammar.Template s) = piece.Own ∷ piece.Silent (silent.Piece false) ∷ piece.Part (Some goal.Anything) 0 ∷ piece.Part (Some goal.TemplateRest) 0 ∷ []
pieces_of (grammar.MiddlePiece s) = piece.Own ∷ piece.Part (Some goal.Anything) 0 ∷ piece.Part (Some goal.TemplateRest) 0 ∷ []
pieces_of (grammar.TailPiece s) = piece.Own ∷ []
pieces_of grammar.TaggedTemplate = piece.Left 17 ∷ piece.Part (Some goal.TagTemplate) 0 ∷ []
pieces_of (grammar.TagWhole s) = piece.Own ∷ piece.Silent (silent.Piece true) ∷ []
pieces_of (grammar.TagParts s) = piece.Own ∷ piece.Silent (silent.Piece false) ∷ piece.Part (Some goal.Anything) 0 ∷ piece.Part (Some goal.TemplateRest) 0 ∷ []
pieces_of grammar.Chain = piece.Left 17 ∷ piece.Mark punct.OptionalDot ∷ piece.Part (Some goal.FirstLink) 0 ∷ piece.Statements goal.Link ∷ []
pieces_of grammar.FirstMember = piece.Silent silent.Nothing ∷ piece.Part (Some goal.AfterDot) 0 ∷ []
pieces_of grammar.FirstIndex = piece.Mark punct.LeftBracket ∷ piece.Silent silent.Nothing ∷ piece.Part (Some goal.Anything) 0 ∷ piece.Mark punct.RightBracket ∷ []
pieces_of grammar.FirstCall = piece.Mark punct.LeftParen ∷ piece.Silent silent.Nothing ∷ piece.Commas (Some goal.Element) least.Zero ∷ piece.Mark punct.RightParen ∷ []
pieces_of grammar.LinkMember = piece.Mark punct.Dot ∷ piece.Silent silent.Nothing ∷ piece.Part (Some goal.AfterDot) 0 ∷ []
pieces_of grammar.LinkIndex = piece.Mark punct.LeftBracket ∷ piece.Silent silent.Nothing ∷ piece.Part (Some goal.Anything) 0 ∷ piece.Mark punct.RightBracket ∷ []
pieces_of grammar.LinkCall = piece.Mark punct.LeftParen ∷ piece.Silent silent.Nothing ∷ piece.Commas (Some goal.Element) least.Zero ∷ piece.Mark punct.RightParen ∷ []
pieces_of grammar.OptionalMember = piece.Mark punct.OptionalDot ∷ piece.Silent silent.Nothing ∷ piece.Part (Some goal.AfterDot) 0 ∷ []
pieces_of grammar.OptionalIndex = piece.Mark punct.OptionalDot ∷ piece.Mark punct.LeftBracket ∷ piece.Silent silent.Nothing ∷ piece.Part (Some goal.Anything) 0 ∷ piece.Mark punct.RightBracket ∷ []
pieces_of grammar.OptionalCall = piece.Mark punct.OptionalDot ∷ piece.Mark punct.LeftParen ∷ piece.Silent silent.Nothing ∷ piece.Commas (Some goal.Element) least.Zero ∷ piece.Mark punct.RightParen ∷ []
pieces_of (grammar.ImportBare s) = piece.Word keyword.Import ∷ piece.Own ∷ piece.Silent silent.Nothing ∷ piece.Silent silent.Nothing ∷ piece.Silent silent.NoItems ∷ piece.Silent silent.Text ∷ piece.Semicolon ∷ []
pieces_of grammar.ImportNames = piece.Word keyword.Import ∷ piece.Mark punct.LeftBrace ∷ piece.Silent silent.Nothing ∷ piece.Silent silent.Nothing ∷ piece.Commas (Some goal.ImportItem) least.Zero ∷ piece.Mark punct.RightBrace ∷ piece.Word keyword.From ∷ piece.Part (Some goal.SourceText) 0 ∷ piece.Semicolon ∷ []
pieces_of grammar.ImportNamespace = piece.Word keyword.Import ∷ piece.Mark punct.Times ∷ piece.Word keyword.As ∷ piece.Silent silent.Nothing ∷ piece.Part (Some goal.Binding) 0 ∷ piece.Silent silent.NoItems ∷ piece.Word keyword.From ∷ piece.Part (Some goal.SourceText) 0 ∷ piece.Semicolon ∷ []
pieces_of (grammar.ImportDefault s) = piece.Word keyword.Import ∷ piece.Own ∷ piece.Silent silent.Binding ∷ piece.Silent silent.Nothing ∷ piece.Silent silent.NoItems ∷ piece.Word keyword.From ∷ piece.Part (Some goal.SourceText) 0 ∷ piece.Semicolon ∷ []
pieces_of (grammar.ImportDefaultNames s) = piece.Word keyword.Import ∷ piece.Own ∷ piece.Mark punct.Comma ∷ piece.Mark punct.LeftBrace ∷ piece.Silent silent.Binding ∷ piece.Silent silent.Nothing ∷ piece.Commas (Some goal.ImportItem) least.Zero ∷ piece.Mark punct.RightBrace ∷ piece.Word keyword.From ∷ piece.Part (Some goal.SourceText) 0 ∷ piece.Semicolon ∷ []
pieces_of (grammar.ImportDefaultNamespace s) = piece.Word keyword.Import ∷ piece.Own ∷ piece.Mark punct.Comma ∷ piece.Mark punct.Times ∷ piece.Word keyword.As ∷ piece.Silent silent.Binding ∷ piece.Part (Some goal.Binding) 0 ∷ piece.Silent silent.NoItems ∷ piece.Word keyword.From ∷ piece.Part (Some goal.SourceText) 0 ∷ piece.Semicolon ∷ []
pieces_of (grammar.ImportShort s) = piece.Own ∷ piece.Silent silent.Name ∷ piece.Silent silent.Binding ∷ piece.End ending.Ended ∷ []
pieces_of grammar.ImportAs = piece.Part (Some goal.ModuleName) 0 ∷ piece.Word keyword.As ∷ piece.Part (Some goal.Binding) 0 ∷ []
pieces_of grammar.ExportNames = piece.Word keyword.Export ∷ piece.Mark punct.LeftBrace ∷ piece.Silent silent.Nothing ∷ piece.Commas (Some goal.ExportItem) least.Zero ∷ piece.Mark punct.RightBrace ∷ piece.Silent silent.Nothing ∷ piece.Semicolon ∷ []
pieces_of grammar.ExportFrom = piece.Word keyword.Export ∷ piece.Mark punct.LeftBrace ∷ piece.Silent silent.Nothing ∷ piece.Commas (Some goal.ForwardItem) least.Zero ∷ piece.Mark punct.RightBrace ∷ piece.Word keyword.From ∷ piece.Part (Some goal.SourceText) 0 ∷ piece.Semicolon ∷ []
pieces_of grammar.ExportAll = piece.Word keyword.Export ∷ piece.Mark punct.Times ∷ piece.Option opener.As (Some goal.ModuleName) 0 ∷ piece.Word keyword.From ∷ piece.Part (Some goal.SourceText) 0 ∷ piece.Semicolon ∷ []
pieces_of grammar.ExportDeclared = piece.Word keyword.Export ∷ piece.Part (Some goal.Exportable) 0 ∷ piece.Silent silent.NoItems ∷ piece.Silent silent.Nothing ∷ []
pieces_of grammar.ExportValue = piece.Word keyword.Export ∷ piece.Word keyword.Default ∷ piece.Restricted look.NoDeclaration (Some goal.Anything) 1 ∷ piece.Semicolon ∷ []
pieces_of grammar.ExportDefault = piece.Word keyword.Export ∷ piece.Word keyword.Default ∷ piece.Part (Some goal.DefaultDeclared) 0 ∷ []
pieces_of (grammar.ExportShort s) = piece.Own ∷ piece.Silent silent.Reference ∷ piece.Silent silent.Name ∷ piece.End ending.Ended ∷ []
pieces_of (grammar.ExportAs s) = piece.Own ∷ piece.Word keyword.As ∷ piece.Silent silent.Reference ∷ piece.Part (Some goal.ModuleName) 0 ∷ []
pieces_of (grammar.ForwardName s) = piece.Own ∷ piece.Silent silent.Name ∷ piece.Silent silent.Name ∷ piece.End ending.Ended ∷ []
pieces_of (grammar.ForwardText s) = piece.Own ∷ piece.Silent silent.Text ∷ piece.Silent silent.Text ∷ piece.End ending.Ended ∷ []
pieces_of grammar.ForwardAs = piece.Part (Some goal.ModuleName) 0 ∷ piece.Word keyword.As ∷ piece.Part (Some goal.ModuleName) 0 ∷ []
pieces_of (grammar.DeclaredVariables k) = piece.Own ∷ piece.Commas (Some goal.Declared) least.One ∷ piece.Semicolon ∷ []
pieces_of grammar.DeclaredFunction = piece.Word keyword.Function ∷ piece.Part (Some goal.Binding) 0 ∷ piece.Mark punct.LeftParen ∷ piece.Commas (Some goal.Parameter) least.Zero ∷ piece.Mark punct.RightParen ∷ piece.Part (Some goal.Body) 0 ∷ []
pieces_of grammar.DeclaredGenerator = piece.Word keyword.Function ∷ piece.Mark punct.Times ∷ piece.Part (Some goal.Binding) 0 ∷ piece.Mark punct.LeftParen ∷ piece.Commas (Some goal.Parameter) least.Zero ∷ piece.Mark punct.RightParen ∷ piece.Part (Some goal.Body) 0 ∷ []
pieces_of (grammar.DeclaredClass s) = piece.Word keyword.Class ∷ piece.Own ∷ piece.Silent silent.Binding ∷ piece.Option opener.Extends (Some goal.Anything) 16 ∷ piece.Part (Some goal.ClassBraces) 0 ∷ piece.Silent silent.Binding ∷ []
pieces_of grammar.DefaultFunction = piece.Word keyword.Function ∷ piece.Perhaps goal.Binding ∷ piece.Mark punct.LeftParen ∷ piece.Commas (Some goal.Parameter) least.Zero ∷ piece.Mark punct.RightParen ∷ piece.Part (Some goal.Body) 0 ∷ []
pieces_of grammar.DefaultGenerator = piece.Word keyword.Function ∷ piece.Mark punct.Times ∷ piece.Perhaps goal.Binding ∷ piece.Mark punct.LeftParen ∷ piece.Commas (Some goal.Parameter) least.Zero ∷ piece.Mark punct.RightParen ∷ piece.Part (Some goal.Body) 0 ∷ []
pieces_of grammar.DefaultClass = piece.Word keyword.Class ∷ piece.Silent silent.Nothing ∷ piece.Option opener.Extends (Some goal.Anything) 16 ∷ piece.Part (Some goal.ClassBraces) 0 ∷ piece.Silent silent.Nothing ∷ []
pieces_of (grammar.DefaultClassNamed s) = piece.Word keyword.Class ∷ piece.Own ∷ piece.Silent silent.Binding ∷ piece.Option opener.Extends (Some goal.Anything) 16 ∷ piece.Part (Some goal.ClassBraces) 0 ∷ piece.Silent silent.Binding ∷ []
