-- The tokens of a part stand before those that follow, which stay as they are.
use Rattle.std.proofs.Common.{◌≡◌, ℕ, suc, ◌+◌, ◌-◌, Bool, true, false, refl, sym, ◌∙◌, ap, subst, List, [], ◌∷◌, ◌++◌, length, drop, arith, Option, Some, None}
use Rattle.std.specs.Prelude.{negsuc, ◌&&◌, if◌then◌else◌, codes}
use Rattle.std.proofs.lemmas.List.{drop_at}
use Rattle.mini_model.specs.declared.shape.Shape.{Shape}
use Rattle.mini_model.specs.declared.shape.Shape.TheVariants as shape
use Rattle.mini_model.specs.Tree.{Tree, Trees, node, none, ◌▸◌}
use Rattle.mini_print.specs.Token.{Token, Punct, Quoted, Word, LeftParen, RightParen, LeftBrace, RightBrace, Comma, Semicolon}
use Rattle.mini_print.specs.Grammar as grammar
use Rattle.mini_print.specs.Grammar.{Goal, Rule, Place, Part, form, place, permits, opens, ends_yield, ends_statement, inserts, opener, Anything}
use Rattle.mini_print.specs.Printed.{Style, Full, Short, Printer, terminated, lay, lay_block, lay_items, by_production, parenthesized, braced, third_is_absent, printer, printers, parts_of, number_printer, enclosed, undirected, rule_in, styled_of, plain, seated, is_fit}
use Rattle.mini_grammar.specs.Pieces.{parts_in, pieces_of}
use Rattle.mini_places.specs.Standing.{is_special, standing_of, is_open}
use Rattle.mini_grammar.specs.declared.grammar.Piece.{Piece}
use Rattle.mini_grammar.specs.declared.grammar.Piece.TheVariants as piece
use Rattle.mini_grammar.specs.declared.grammar.Lookahead.TheVariants as look
use Rattle.mini_printer.proofs.Laid.{laid_end}
use Rattle.mini_grammar.proofs.Same.{same_form}
use Rattle.mini_places.proofs.Stands.{produced}

abbrev pub Ends : List Token → List Token → Type 0
Ends r ts = (u : List Token) × (u ++ r ≡ ts)

here : (r : List Token) → Ends r r
here r = ([], refl)

there : (x : Token) (r ts : List Token) → Ends r ts → Ends r (x ∷ ts)
there x r ts (u, e) = (x ∷ u, ap (λ us. x ∷ us) e)

joined : (u v r : List Token) → (u ++ v) ++ r ≡ u ++ (v ++ r)
joined [] v r = refl
joined (x ∷ u) v r = ap (λ us. x ∷ us) (joined u v r)

after : (r m ts : List Token) → Ends r m → Ends m ts → Ends r ts
after r m ts (u, e) (v, f) = (v ++ u, joined v u r ∙ (ap (λ us. v ++ us) e ∙ f))

ends_if : (b : Bool) (r x y : List Token) → Ends r x → Ends r y → Ends r (if b then x else y)
ends_if true r x y e f = e
ends_if false r x y e f = f

-- what a printer writes ends in what follows
abbrev pub Tame : Printer → Type 0
Tame k = ((p : Place) (r : List Token) → Ends r (k.one p r)) × ((g : Goal) (b : Bool) (r : List Token) → Ends r (k.items g b r)) × ((g : Goal) (r : List Token) → Ends r (k.block g r))

abbrev pub AllTame : List Printer → Type 0
AllTame [] = Unit {0}
AllTame (k ∷ ks) = Tame k × AllTame ks

enclosed_ends : (b : Bool) (k : Printer) (p : Place) (r : List Token) → Tame k → Ends r (enclosed b k p r)
enclosed_ends false k p r t = t.0 p r
enclosed_ends true k p r t = there (Punct LeftParen) r _ (after r (Punct RightParen ∷ r) _ (there (Punct RightParen) r r (here r)) (t.0 (place Anything 0) (Punct RightParen ∷ r)))

undirected_ends : (u m : List Token) → Ends m (undirected (u ++ Punct RightBrace ∷ m))
undirected_ends [] m = (Punct RightBrace ∷ [], refl)
undirected_ends (Quoted s ∷ u) m =
    let ts = u ++ Punct RightBrace ∷ m in
    let behind : Ends m ts = (u ++ Punct RightBrace ∷ [], joined u (Punct RightBrace ∷ []) m) in
    ends_if (ends_statement ts) m _ _ (there (Punct LeftParen) m _ (there (Quoted s) m _ (there (Punct RightParen) m ts behind))) (there (Quoted s) m ts behind)
undirected_ends (x ∷ u) m = ((x ∷ u) ++ Punct RightBrace ∷ [], joined (x ∷ u) (Punct RightBrace ∷ []) m)

terminated_ends : (style : Style) (r m : List Token) → Ends r m → Ends r (terminated style m)
terminated_ends Full r m e = there (Punct Semicolon) r m e
terminated_ends Short r m e = ends_if (inserts m) r m _ e (there (Punct Semicolon) r m e)

block_ends : (i : Goal) (ks : List Printer) (r : List Token) → AllTame ks → Ends r (lay_block i ks r)
block_ends i [] r a = here r
block_ends i (k ∷ ks) r a = after r (lay_block i ks r) _ (block_ends i ks r a.1) (a.0.0 (place i 0) (lay_block i ks r))

item_ends : (b : Bool) (g : Goal) (k : Printer) (m : List Token) → Tame k → Ends m (if b then Punct Comma ∷ m else k.one (place g 1) (Punct Comma ∷ m))
item_ends b g k m t = ends_if b m _ _ (there (Punct Comma) m m (here m)) (after m (Punct Comma ∷ m) _ (there (Punct Comma) m m (here m)) (t.0 (place g 1) (Punct Comma ∷ m)))

items_end : (g : Goal) (gaps : Bool) (ks : List Printer) (r : List Token) → AllTame ks → Ends r (lay_items g gaps ks r)
items_end g gaps [] r a = here r
items_end g gaps (k ∷ []) r a = ends_if (gaps && k.absent) r _ _ (there (Punct Comma) r r (here r)) (a.0.0 (place g 1) r)
items_end g gaps (k ∷ l ∷ ks) r a = after r (lay_items g gaps (l ∷ ks) r) _ (items_end g gaps (l ∷ ks) r a.1) (item_ends (gaps && k.absent) g k (lay_items g gaps (l ∷ ks) r) a.0)

pieces_end : (style : Style) (g : Goal) (h : Rule) (xs : List Piece) (ks : List Printer) (r : List Token) → AllTame ks → Ends r (lay style g (parts_in h xs) ks r)
pieces_end style g h [] ks r a = here r
pieces_end style g h (piece.Word w ∷ xs) ks r a = there _ r _ (pieces_end style g h xs ks r a)
pieces_end style g h (piece.Mark p ∷ xs) ks r a = there _ r _ (pieces_end style g h xs ks r a)
pieces_end style g h (piece.Own ∷ xs) ks r a = there _ r _ (pieces_end style g h xs ks r a)
pieces_end style g h (piece.Fork ∷ xs) ks r a = pieces_end style g h xs ks r a
pieces_end style g h (piece.Semicolon ∷ xs) ks r a = terminated_ends style r _ (pieces_end style g h xs ks r a)
pieces_end style g h (piece.End c ∷ xs) ks r a = subst (λ ts. Ends r ts) (sym (laid_end style g h c (parts_in h xs) ks r)) (here r)
pieces_end style g h (piece.Left n ∷ xs) [] r a = here r
pieces_end style g h (piece.Left n ∷ xs) (k ∷ ks) r a = after r _ _ (pieces_end style g h xs ks r a.1) (a.0.0 _ _)
pieces_end style g h (piece.LeftOperand ∷ xs) [] r a = here r
pieces_end style g h (piece.LeftOperand ∷ xs) (k ∷ ks) r a = after r _ _ (pieces_end style g h xs ks r a.1) (a.0.0 _ _)
pieces_end style g h (piece.RightOperand ∷ xs) [] r a = here r
pieces_end style g h (piece.RightOperand ∷ xs) (k ∷ ks) r a = after r _ _ (pieces_end style g h xs ks r a.1) (a.0.0 _ _)
pieces_end style g h (piece.Part o n ∷ xs) [] r a = here r
pieces_end style g h (piece.Part o n ∷ xs) (k ∷ ks) r a = after r _ _ (pieces_end style g h xs ks r a.1) (a.0.0 _ _)
pieces_end style g h (piece.Default b ∷ xs) [] r a = here r
pieces_end style g h (piece.Default b ∷ xs) (k ∷ ks) r a = after r _ _ (pieces_end style g h xs ks r a.1) (a.0.0 _ _)
pieces_end style g h (piece.Restricted look.NoStatement o n ∷ xs) [] r a = here r
pieces_end style g h (piece.Restricted look.NoBrace o n ∷ xs) [] r a = here r
pieces_end style g h (piece.Restricted look.Key o n ∷ xs) [] r a = here r
pieces_end style g h (piece.Restricted look.NotAsync o n ∷ xs) [] r a = here r
pieces_end style g h (piece.Restricted look.NoDeclaration o n ∷ xs) [] r a = here r
pieces_end style g h (piece.Restricted look.NoStatement o n ∷ xs) (k ∷ ks) r a = after r _ _ (pieces_end style g h xs ks r a.1) (enclosed_ends _ k _ _ a.0)
pieces_end style g h (piece.Restricted look.NoBrace o n ∷ xs) (k ∷ ks) r a = after r _ _ (pieces_end style g h xs ks r a.1) (enclosed_ends _ k _ _ a.0)
pieces_end style g h (piece.Restricted look.Key o n ∷ xs) (k ∷ ks) r a = after r _ _ (pieces_end style g h xs ks r a.1) (enclosed_ends _ k _ _ a.0)
pieces_end style g h (piece.Restricted look.NotAsync o n ∷ xs) (k ∷ ks) r a = after r _ _ (pieces_end style g h xs ks r a.1) (enclosed_ends _ k _ _ a.0)
pieces_end style g h (piece.Restricted look.NoDeclaration o n ∷ xs) (k ∷ ks) r a = after r _ _ (pieces_end style g h xs ks r a.1) (enclosed_ends _ k _ _ a.0)
pieces_end style g h (piece.Commas o l ∷ xs) [] r a = here r
pieces_end style g h (piece.Commas o l ∷ xs) (k ∷ ks) r a = after r _ _ (pieces_end style g h xs ks r a.1) (a.0.1 _ _ _)
pieces_end style g h (piece.Perhaps i ∷ xs) [] r a = here r
pieces_end style g h (piece.Perhaps i ∷ xs) (k ∷ ks) r a = after r _ _ (pieces_end style g h xs ks r a.1) (ends_if k.absent _ _ _ (here _) (a.0.0 _ _))
pieces_end style g h (piece.Option w o n ∷ xs) [] r a = here r
pieces_end style g h (piece.Option w o n ∷ xs) (k ∷ ks) r a = after r _ _ (pieces_end style g h xs ks r a.1) (ends_if k.absent _ _ _ (here _) (there _ _ _ (a.0.0 _ _)))
pieces_end style g h (piece.Statements i ∷ xs) [] r a = here r
pieces_end style g h (piece.Statements i ∷ xs) (k ∷ ks) r a = after r _ _ (pieces_end style g h xs ks r a.1) (a.0.2 _ _)
pieces_end style g h (piece.Undirected ∷ xs) [] r a = here r
pieces_end style g h (piece.Undirected ∷ xs) (k ∷ ks) r a =
    let m = lay style g (parts_in h xs) ks r in
    let ended = a.0.2 grammar.Statement (Punct RightBrace ∷ m) in
    after r m _ (pieces_end style g h xs ks r a.1) (subst (λ ts. Ends m (undirected ts)) ended.1 (undirected_ends ended.0 m))
pieces_end style g h (piece.Silent v ∷ xs) [] r a = here r
pieces_end style g h (piece.Silent v ∷ xs) (k ∷ ks) r a = pieces_end style g h xs ks r a.1

form_ends : (style : Style) (g : Goal) (h : Rule) (ks : List Printer) (r : List Token) → AllTame ks → Ends r (lay style g (form h) ks r)
form_ends style g h ks r a = subst (λ ps. Ends r (lay style g ps ks r)) (same_form h) (pieces_end style g h (pieces_of h) ks r a)

parenthesized_ends : (b : Bool) (g : Goal) (f : Goal → List Token → List Token) (r : List Token) → ((i : Goal) (m : List Token) → Ends m (f i m)) → Ends r (parenthesized b g f r)
parenthesized_ends true g f r e = e g r
parenthesized_ends false g f r e = there (Punct LeftParen) r _ (after r (Punct RightParen ∷ r) _ (there (Punct RightParen) r r (here r)) (e Anything (Punct RightParen ∷ r)))

braced_ends : (style : Style) (b : Bool) (ks : List Printer) (r : List Token) → AllTame ks → Ends r (braced style b ks r)
braced_ends style true ks r a = there (Punct LeftBrace) r _ (after r (Punct RightBrace ∷ r) _ (there (Punct RightBrace) r r (here r)) (form_ends style grammar.Statement grammar.If ks (Punct RightBrace ∷ r) a))
braced_ends style false ks r a = form_ends style grammar.Statement grammar.If ks r a

-- of a production that is neither an `if` nor a bare `yield`
plainly : (style : Style) (h : Rule) (ks : List Printer) (p : Place) (r : List Token) → AllTame ks → is_special (standing_of h) ≡ false → Ends r (by_production style (Some h) ks p r)
plainly style h ks p r a e = subst (λ ts. Ends r ts) (sym (produced style h ks p r e)) (parenthesized_ends (is_open p h) p.goal (λ g m. lay style g (form h) ks m) r (λ g m. form_ends style g h ks m a))

rule_ends : (style : Style) (h : Rule) (ks : List Printer) (p : Place) (r : List Token) → AllTame ks → Ends r (by_production style (Some h) ks p r)
rule_ends style (grammar.Reference s) ks p r a = plainly style (grammar.Reference s) ks p r a refl
rule_ends style (grammar.NumberLiteral s) ks p r a = plainly style (grammar.NumberLiteral s) ks p r a refl
rule_ends style (grammar.BigIntLiteral s) ks p r a = plainly style (grammar.BigIntLiteral s) ks p r a refl
rule_ends style (grammar.TextLiteral s) ks p r a = plainly style (grammar.TextLiteral s) ks p r a refl
rule_ends style (grammar.RegExpLiteral s f) ks p r a = plainly style (grammar.RegExpLiteral s f) ks p r a refl
rule_ends style grammar.Null ks p r a = plainly style grammar.Null ks p r a refl
rule_ends style grammar.This ks p r a = plainly style grammar.This ks p r a refl
rule_ends style grammar.True ks p r a = plainly style grammar.True ks p r a refl
rule_ends style grammar.False ks p r a = plainly style grammar.False ks p r a refl
rule_ends style grammar.Parenthesized ks p r a = plainly style grammar.Parenthesized ks p r a refl
rule_ends style grammar.Array ks p r a = plainly style grammar.Array ks p r a refl
rule_ends style grammar.Object ks p r a = plainly style grammar.Object ks p r a refl
rule_ends style grammar.KeyValue ks p r a = plainly style grammar.KeyValue ks p r a refl
rule_ends style grammar.Computed ks p r a = plainly style grammar.Computed ks p r a refl
rule_ends style grammar.Spread ks p r a = plainly style grammar.Spread ks p r a refl
rule_ends style grammar.SpreadItem ks p r a = plainly style grammar.SpreadItem ks p r a refl
rule_ends style grammar.Member ks p r a = plainly style grammar.Member ks p r a refl
rule_ends style grammar.Index ks p r a = plainly style grammar.Index ks p r a refl
rule_ends style grammar.New ks p r a = plainly style grammar.New ks p r a refl
rule_ends style grammar.NewBare ks p r a = plainly style grammar.NewBare ks p r a refl
rule_ends style grammar.Call ks p r a = plainly style grammar.Call ks p r a refl
rule_ends style grammar.Import ks p r a = plainly style grammar.Import ks p r a refl
rule_ends style (grammar.PropertyName s) ks p r a = plainly style (grammar.PropertyName s) ks p r a refl
rule_ends style (grammar.Postfix s) ks p r a = plainly style (grammar.Postfix s) ks p r a refl
rule_ends style (grammar.Prefix s) ks p r a = plainly style (grammar.Prefix s) ks p r a refl
rule_ends style (grammar.Unary s) ks p r a = plainly style (grammar.Unary s) ks p r a refl
rule_ends style (grammar.Binary s) ks p r a = plainly style (grammar.Binary s) ks p r a refl
rule_ends style (grammar.Logical s) ks p r a = plainly style (grammar.Logical s) ks p r a refl
rule_ends style grammar.Conditional ks p r a = plainly style grammar.Conditional ks p r a refl
rule_ends style (grammar.Assignment s) ks p r a = plainly style (grammar.Assignment s) ks p r a refl
rule_ends style grammar.Sequence ks p r a = plainly style grammar.Sequence ks p r a refl
rule_ends style grammar.Arrow ks p r a = plainly style grammar.Arrow ks p r a refl
rule_ends style grammar.ArrowBlock ks p r a = plainly style grammar.ArrowBlock ks p r a refl
rule_ends style (grammar.ArrowName s) ks p r a = plainly style (grammar.ArrowName s) ks p r a refl
rule_ends style (grammar.ArrowNameBlock s) ks p r a = plainly style (grammar.ArrowNameBlock s) ks p r a refl
rule_ends style (grammar.BindingName s) ks p r a = plainly style (grammar.BindingName s) ks p r a refl
rule_ends style grammar.Block ks p r a = plainly style grammar.Block ks p r a refl
rule_ends style (grammar.Variables s) ks p r a = plainly style (grammar.Variables s) ks p r a refl
rule_ends style grammar.Declarator ks p r a = plainly style grammar.Declarator ks p r a refl
rule_ends style grammar.Empty ks p r a = plainly style grammar.Empty ks p r a refl
rule_ends style grammar.ExpressionStatement ks p r a = plainly style grammar.ExpressionStatement ks p r a refl
rule_ends style grammar.If ks p r a = braced_ends style (third_is_absent ks && opens grammar.Else r) ks r a
rule_ends style grammar.DoWhile ks p r a = plainly style grammar.DoWhile ks p r a refl
rule_ends style grammar.While ks p r a = plainly style grammar.While ks p r a refl
rule_ends style grammar.For ks p r a = plainly style grammar.For ks p r a refl
rule_ends style grammar.Return ks p r a = plainly style grammar.Return ks p r a refl
rule_ends style grammar.Throw ks p r a = plainly style grammar.Throw ks p r a refl
rule_ends style grammar.Debugger ks p r a = plainly style grammar.Debugger ks p r a refl
rule_ends style grammar.Break ks p r a = plainly style grammar.Break ks p r a refl
rule_ends style grammar.Continue ks p r a = plainly style grammar.Continue ks p r a refl
rule_ends style grammar.FunctionExpression ks p r a = plainly style grammar.FunctionExpression ks p r a refl
rule_ends style grammar.FunctionDeclaration ks p r a = plainly style grammar.FunctionDeclaration ks p r a refl
rule_ends style grammar.FunctionBody ks p r a = plainly style grammar.FunctionBody ks p r a refl
rule_ends style grammar.GeneratorExpression ks p r a = plainly style grammar.GeneratorExpression ks p r a refl
rule_ends style grammar.GeneratorDeclaration ks p r a = plainly style grammar.GeneratorDeclaration ks p r a refl
rule_ends style grammar.Yield ks p r a = plainly style grammar.Yield ks p r a refl
rule_ends style grammar.YieldFrom ks p r a = plainly style grammar.YieldFrom ks p r a refl
rule_ends style grammar.YieldBare ks p r a = parenthesized_ends (is_fit p grammar.YieldBare && ends_yield r) p.goal (λ g m. Word (codes "yield") ∷ m) r (λ g m. there (Word (codes "yield")) m m (here m))
rule_ends style grammar.SuperMember ks p r a = plainly style grammar.SuperMember ks p r a refl
rule_ends style grammar.SuperIndex ks p r a = plainly style grammar.SuperIndex ks p r a refl
rule_ends style grammar.SuperCall ks p r a = plainly style grammar.SuperCall ks p r a refl
rule_ends style grammar.NewTarget ks p r a = plainly style grammar.NewTarget ks p r a refl
rule_ends style grammar.ImportMeta ks p r a = plainly style grammar.ImportMeta ks p r a refl
rule_ends style (grammar.PrivateName s) ks p r a = plainly style (grammar.PrivateName s) ks p r a refl
rule_ends style (grammar.PrivateIn s) ks p r a = plainly style (grammar.PrivateIn s) ks p r a refl
rule_ends style (grammar.Label s) ks p r a = plainly style (grammar.Label s) ks p r a refl
rule_ends style grammar.Switch ks p r a = plainly style grammar.Switch ks p r a refl
rule_ends style grammar.Case ks p r a = plainly style grammar.Case ks p r a refl
rule_ends style grammar.DefaultCase ks p r a = plainly style grammar.DefaultCase ks p r a refl
rule_ends style grammar.Try ks p r a = plainly style grammar.Try ks p r a refl
rule_ends style grammar.CatchParam ks p r a = plainly style grammar.CatchParam ks p r a refl
rule_ends style grammar.CatchBare ks p r a = plainly style grammar.CatchBare ks p r a refl
rule_ends style grammar.BlockPart ks p r a = plainly style grammar.BlockPart ks p r a refl
rule_ends style grammar.ObjectPattern ks p r a = plainly style grammar.ObjectPattern ks p r a refl
rule_ends style grammar.ArrayPattern ks p r a = plainly style grammar.ArrayPattern ks p r a refl
rule_ends style grammar.Rest ks p r a = plainly style grammar.Rest ks p r a refl
rule_ends style grammar.BoundKeyValue ks p r a = plainly style grammar.BoundKeyValue ks p r a refl
rule_ends style grammar.BoundComputed ks p r a = plainly style grammar.BoundComputed ks p r a refl
rule_ends style grammar.BoundRest ks p r a = plainly style grammar.BoundRest ks p r a refl
rule_ends style grammar.ForIn ks p r a = plainly style grammar.ForIn ks p r a refl
rule_ends style grammar.ForOf ks p r a = plainly style grammar.ForOf ks p r a refl
rule_ends style grammar.ForDeclared ks p r a = plainly style grammar.ForDeclared ks p r a refl
rule_ends style grammar.ForDeclaredIn ks p r a = plainly style grammar.ForDeclaredIn ks p r a refl
rule_ends style grammar.ForDeclaredOf ks p r a = plainly style grammar.ForDeclaredOf ks p r a refl
rule_ends style grammar.ForPatternIn ks p r a = plainly style grammar.ForPatternIn ks p r a refl
rule_ends style grammar.ForPatternOf ks p r a = plainly style grammar.ForPatternOf ks p r a refl
rule_ends style (grammar.HeadVariables s) ks p r a = plainly style (grammar.HeadVariables s) ks p r a refl
rule_ends style grammar.MethodProperty ks p r a = plainly style grammar.MethodProperty ks p r a refl
rule_ends style grammar.Getter ks p r a = plainly style grammar.Getter ks p r a refl
rule_ends style grammar.Setter ks p r a = plainly style grammar.Setter ks p r a refl
rule_ends style grammar.GeneratorProperty ks p r a = plainly style grammar.GeneratorProperty ks p r a refl
rule_ends style grammar.MethodFunction ks p r a = plainly style grammar.MethodFunction ks p r a refl
rule_ends style grammar.GeneratorMethod ks p r a = plainly style grammar.GeneratorMethod ks p r a refl
rule_ends style (grammar.KeyWord s) ks p r a = plainly style (grammar.KeyWord s) ks p r a refl
rule_ends style (grammar.KeyText s) ks p r a = plainly style (grammar.KeyText s) ks p r a refl
rule_ends style (grammar.KeyNumber s) ks p r a = plainly style (grammar.KeyNumber s) ks p r a refl
rule_ends style (grammar.BoundShorthand s) ks p r a = plainly style (grammar.BoundShorthand s) ks p r a refl
rule_ends style (grammar.Shorthand s) ks p r a = plainly style (grammar.Shorthand s) ks p r a refl
rule_ends style (grammar.WholeTemplate s) ks p r a = plainly style (grammar.WholeTemplate s) ks p r a refl
rule_ends style (grammar.Template s) ks p r a = plainly style (grammar.Template s) ks p r a refl
rule_ends style (grammar.MiddlePiece s) ks p r a = plainly style (grammar.MiddlePiece s) ks p r a refl
rule_ends style (grammar.TailPiece s) ks p r a = plainly style (grammar.TailPiece s) ks p r a refl
rule_ends style grammar.TaggedTemplate ks p r a = plainly style grammar.TaggedTemplate ks p r a refl
rule_ends style (grammar.TagWhole s) ks p r a = plainly style (grammar.TagWhole s) ks p r a refl
rule_ends style (grammar.TagParts s) ks p r a = plainly style (grammar.TagParts s) ks p r a refl
rule_ends style grammar.Chain ks p r a = plainly style grammar.Chain ks p r a refl
rule_ends style grammar.FirstMember ks p r a = plainly style grammar.FirstMember ks p r a refl
rule_ends style grammar.FirstIndex ks p r a = plainly style grammar.FirstIndex ks p r a refl
rule_ends style grammar.FirstCall ks p r a = plainly style grammar.FirstCall ks p r a refl
rule_ends style grammar.LinkMember ks p r a = plainly style grammar.LinkMember ks p r a refl
rule_ends style grammar.LinkIndex ks p r a = plainly style grammar.LinkIndex ks p r a refl
rule_ends style grammar.LinkCall ks p r a = plainly style grammar.LinkCall ks p r a refl
rule_ends style grammar.OptionalMember ks p r a = plainly style grammar.OptionalMember ks p r a refl
rule_ends style grammar.OptionalIndex ks p r a = plainly style grammar.OptionalIndex ks p r a refl
rule_ends style grammar.OptionalCall ks p r a = plainly style grammar.OptionalCall ks p r a refl
rule_ends style grammar.Defaulted ks p r a = plainly style grammar.Defaulted ks p r a refl
rule_ends style (grammar.BoundDefault s) ks p r a = plainly style (grammar.BoundDefault s) ks p r a refl
rule_ends style (grammar.NamedDefault s f) ks p r a = plainly style (grammar.NamedDefault s f) ks p r a refl
rule_ends style grammar.ClassPlain ks p r a = plainly style grammar.ClassPlain ks p r a refl
rule_ends style (grammar.ClassNamed s) ks p r a = plainly style (grammar.ClassNamed s) ks p r a refl
rule_ends style (grammar.ClassDeclared s) ks p r a = plainly style (grammar.ClassDeclared s) ks p r a refl
rule_ends style grammar.ClassBody ks p r a = plainly style grammar.ClassBody ks p r a refl
rule_ends style grammar.ClassMethod ks p r a = plainly style grammar.ClassMethod ks p r a refl
rule_ends style grammar.ClassComputedMethod ks p r a = plainly style grammar.ClassComputedMethod ks p r a refl
rule_ends style grammar.ClassGenerator ks p r a = plainly style grammar.ClassGenerator ks p r a refl
rule_ends style grammar.ClassComputedGenerator ks p r a = plainly style grammar.ClassComputedGenerator ks p r a refl
rule_ends style grammar.ClassGetter ks p r a = plainly style grammar.ClassGetter ks p r a refl
rule_ends style grammar.ClassComputedGetter ks p r a = plainly style grammar.ClassComputedGetter ks p r a refl
rule_ends style grammar.ClassSetter ks p r a = plainly style grammar.ClassSetter ks p r a refl
rule_ends style grammar.ClassComputedSetter ks p r a = plainly style grammar.ClassComputedSetter ks p r a refl
rule_ends style grammar.Field ks p r a = plainly style grammar.Field ks p r a refl
rule_ends style grammar.ComputedField ks p r a = plainly style grammar.ComputedField ks p r a refl
rule_ends style grammar.StaticElement ks p r a = plainly style grammar.StaticElement ks p r a refl
rule_ends style grammar.StaticInit ks p r a = plainly style grammar.StaticInit ks p r a refl
rule_ends style (grammar.PrivateKey s) ks p r a = plainly style (grammar.PrivateKey s) ks p r a refl
rule_ends style grammar.PatternAssignment ks p r a = plainly style grammar.PatternAssignment ks p r a refl
rule_ends style grammar.ArrayTarget ks p r a = plainly style grammar.ArrayTarget ks p r a refl
rule_ends style grammar.ObjectTarget ks p r a = plainly style grammar.ObjectTarget ks p r a refl
rule_ends style grammar.PatternItem ks p r a = plainly style grammar.PatternItem ks p r a refl
rule_ends style grammar.ValueItem ks p r a = plainly style grammar.ValueItem ks p r a refl
rule_ends style grammar.PatternRest ks p r a = plainly style grammar.PatternRest ks p r a refl
rule_ends style grammar.ValueRest ks p r a = plainly style grammar.ValueRest ks p r a refl
rule_ends style (grammar.TargetShorthand s) ks p r a = plainly style (grammar.TargetShorthand s) ks p r a refl
rule_ends style (grammar.TargetDefault s) ks p r a = plainly style (grammar.TargetDefault s) ks p r a refl
rule_ends style grammar.TargetKeyValue ks p r a = plainly style grammar.TargetKeyValue ks p r a refl
rule_ends style grammar.TargetComputed ks p r a = plainly style grammar.TargetComputed ks p r a refl
rule_ends style grammar.TargetPropertyRest ks p r a = plainly style grammar.TargetPropertyRest ks p r a refl
rule_ends style (grammar.Directive s) ks p r a = plainly style (grammar.Directive s) ks p r a refl
rule_ends style grammar.ComputedMethod ks p r a = plainly style grammar.ComputedMethod ks p r a refl
rule_ends style grammar.ComputedGetter ks p r a = plainly style grammar.ComputedGetter ks p r a refl
rule_ends style grammar.ComputedSetter ks p r a = plainly style grammar.ComputedSetter ks p r a refl
rule_ends style grammar.ComputedGenerator ks p r a = plainly style grammar.ComputedGenerator ks p r a refl
rule_ends style (grammar.ImportBare s) ks p r a = plainly style (grammar.ImportBare s) ks p r a refl
rule_ends style grammar.ImportNames ks p r a = plainly style grammar.ImportNames ks p r a refl
rule_ends style grammar.ImportNamespace ks p r a = plainly style grammar.ImportNamespace ks p r a refl
rule_ends style (grammar.ImportDefault s) ks p r a = plainly style (grammar.ImportDefault s) ks p r a refl
rule_ends style (grammar.ImportDefaultNames s) ks p r a = plainly style (grammar.ImportDefaultNames s) ks p r a refl
rule_ends style (grammar.ImportDefaultNamespace s) ks p r a = plainly style (grammar.ImportDefaultNamespace s) ks p r a refl
rule_ends style (grammar.ImportShort s) ks p r a = plainly style (grammar.ImportShort s) ks p r a refl
rule_ends style grammar.ImportAs ks p r a = plainly style grammar.ImportAs ks p r a refl
rule_ends style grammar.ExportNames ks p r a = plainly style grammar.ExportNames ks p r a refl
rule_ends style grammar.ExportFrom ks p r a = plainly style grammar.ExportFrom ks p r a refl
rule_ends style grammar.ExportAll ks p r a = plainly style grammar.ExportAll ks p r a refl
rule_ends style grammar.ExportDeclared ks p r a = plainly style grammar.ExportDeclared ks p r a refl
rule_ends style grammar.ExportValue ks p r a = plainly style grammar.ExportValue ks p r a refl
rule_ends style grammar.ExportDefault ks p r a = plainly style grammar.ExportDefault ks p r a refl
rule_ends style (grammar.ExportShort s) ks p r a = plainly style (grammar.ExportShort s) ks p r a refl
rule_ends style (grammar.ExportAs s) ks p r a = plainly style (grammar.ExportAs s) ks p r a refl
rule_ends style (grammar.ForwardName s) ks p r a = plainly style (grammar.ForwardName s) ks p r a refl
rule_ends style (grammar.ForwardText s) ks p r a = plainly style (grammar.ForwardText s) ks p r a refl
rule_ends style grammar.ForwardAs ks p r a = plainly style grammar.ForwardAs ks p r a refl
rule_ends style (grammar.DeclaredVariables s) ks p r a = plainly style (grammar.DeclaredVariables s) ks p r a refl
rule_ends style grammar.DeclaredFunction ks p r a = plainly style grammar.DeclaredFunction ks p r a refl
rule_ends style grammar.DeclaredGenerator ks p r a = plainly style grammar.DeclaredGenerator ks p r a refl
rule_ends style (grammar.DeclaredClass s) ks p r a = plainly style (grammar.DeclaredClass s) ks p r a refl
rule_ends style grammar.DefaultFunction ks p r a = plainly style grammar.DefaultFunction ks p r a refl
rule_ends style grammar.DefaultGenerator ks p r a = plainly style grammar.DefaultGenerator ks p r a refl
rule_ends style grammar.DefaultClass ks p r a = plainly style grammar.DefaultClass ks p r a refl
rule_ends style (grammar.DefaultClassNamed s) ks p r a = plainly style (grammar.DefaultClassNamed s) ks p r a refl

production_ends : (style : Style) (o : Option Rule) (ks : List Printer) (p : Place) (r : List Token) → AllTame ks → Ends r (by_production style o ks p r)
production_ends style None ks p r a = here r
production_ends style (Some h) ks p r a = rule_ends style h ks p r a

number_tame : (style : Style) (n : ℕ) → Tame (number_printer style n)
number_tame style n = ((λ p r. rule_ends style (grammar.NumberLiteral n) [] p r tt), (λ g b r. here r), (λ g r. here r))

parts_tame : (style : Style) (h : Shape) (ks : List Printer) → AllTame ks → AllTame (parts_of style h ks)
parts_tame style (shape.NumericLiteral (negsuc n)) ks a = (number_tame style (suc n), tt)
parts_tame style h ks a = a

mutual
  pub tame : (style : Style) (t : Tree) → Tame (printer style t)
  tame style (node h xs n ts) = ((λ p r. production_ends style (styled_of (rule_in (plain p.goal) h xs ts) style ts) (parts_of style h (printers style ts)) (seated (rule_in (plain p.goal) h xs ts) p) r (parts_tame style h (printers style ts) (all_tame style ts))), (λ g b r. items_end g b (printers style ts) r (all_tame style ts)), (λ g r. block_ends g (printers style ts) r (all_tame style ts)))

  all_tame : (style : Style) (ts : Trees) → AllTame (printers style ts)
  all_tame style none = tt
  all_tame style (t ▸ ts) = (tame style t, all_tame style ts)

longer : (u r : List Token) → length (u ++ r) ≡ length u + length r
longer [] r = omega arith
longer (x ∷ u) r = let e = longer u r in omega (arith, e)

more : (u r : List Token) → length (u ++ r) - length r ≡ length u
more [] r = omega arith
more (x ∷ u) r = let e = longer u r in omega (arith, e)

dropped : (r ts : List Token) → Ends r ts → drop (length ts - length r) ts ≡ r
dropped r ts (u, e) = subst (λ us. drop (length us - length r) us ≡ r) e (drop_at u r (length (u ++ r) - length r) (sym (more u r)))

-- what was before a part was written
pub left_behind : (style : Style) (t : Tree) (p : Place) (r : List Token) → drop (length ((printer style t).one p r) - length r) ((printer style t).one p r) ≡ r
left_behind style t p r = dropped r ((printer style t).one p r) ((tame style t).0 p r)
