-- The tokens of a production, piece by piece.
use Rattle.std.proofs.Common.{◌≡◌, true, refl, List, [], ◌∷◌}
use Rattle.std.proofs.lemmas.Bool.{false≢true}
use Rattle.mini_print.specs.Token.{Token}
use Rattle.mini_print.specs.Grammar.{Goal, Rule}
use Rattle.mini_print.specs.Printed.{Style, Printer, lay}
use Rattle.mini_grammar.specs.Pieces.{piece_parts, is_mark, takes_part}
use Rattle.mini_grammar.specs.declared.grammar.Ending as ending_type
use Rattle.mini_grammar.specs.declared.grammar.Ending.TheVariants as ending
use Rattle.mini_grammar.specs.declared.grammar.Lookahead.TheVariants as look
use Rattle.mini_grammar.specs.declared.grammar.Piece.{Piece}
use Rattle.mini_grammar.specs.declared.grammar.Piece.TheVariants as piece
use Rattle.mini_print.specs.Grammar as grammar

pub laid_mark : (style : Style) → (g : Goal) (h : Rule) (x : Piece) (ps : List grammar.Part) (ks : List Printer) (r : List Token) → is_mark x ≡ true → lay style g (piece_parts h x ps) ks r ≡ lay style g (piece_parts h x []) [] (lay style g ps ks r)
laid_mark style g h (piece.Word w) ps ks r e = refl
laid_mark style g h (piece.Mark p) ps ks r e = refl
laid_mark style g h piece.Own ps ks r e = refl
laid_mark style g h piece.Fork ps ks r e = refl
laid_mark style g h piece.Semicolon ps ks r e = refl
laid_mark style g h _ ps ks r e = absurd (false≢true e)

pub laid_end : (style : Style) → (g : Goal) (h : Rule) (c : ending_type.Ending) (ps : List grammar.Part) (ks : List Printer) (r : List Token) → lay style g (piece_parts h (piece.End c) ps) ks r ≡ r
laid_end style g h ending.Ended ps [] r = refl
laid_end style g h ending.Ended ps (k ∷ ks) r = refl
laid_end style g h ending.HeadEnd ps [] r = refl
laid_end style g h ending.HeadEnd ps (k ∷ ks) r = refl
laid_end style g h ending.CaseEnd ps [] r = refl
laid_end style g h ending.CaseEnd ps (k ∷ ks) r = refl
laid_end style g h ending.YieldEnd ps [] r = refl
laid_end style g h ending.YieldEnd ps (k ∷ ks) r = refl

pub laid_none : (style : Style) → (g : Goal) (h : Rule) (x : Piece) (ps : List grammar.Part) (r : List Token) → takes_part x ≡ true → lay style g (piece_parts h x ps) [] r ≡ r
laid_none style g h (piece.Word w) ps r e = absurd (false≢true e)
laid_none style g h (piece.Mark p) ps r e = absurd (false≢true e)
laid_none style g h piece.Own ps r e = absurd (false≢true e)
laid_none style g h piece.Fork ps r e = absurd (false≢true e)
laid_none style g h piece.Semicolon ps r e = absurd (false≢true e)
laid_none style g h (piece.End c) ps r e = absurd (false≢true e)
laid_none style g h (piece.Left n) ps r e = refl
laid_none style g h piece.LeftOperand ps r e = refl
laid_none style g h piece.RightOperand ps r e = refl
laid_none style g h (piece.Part o n) ps r e = refl
laid_none style g h (piece.Default b) ps r e = refl
laid_none style g h (piece.Restricted look.NoStatement o n) ps r e = refl
laid_none style g h (piece.Restricted look.NoBrace o n) ps r e = refl
laid_none style g h (piece.Restricted look.Key o n) ps r e = refl
laid_none style g h (piece.Restricted look.NotAsync o n) ps r e = refl
laid_none style g h (piece.Restricted look.NoDeclaration o n) ps r e = refl
laid_none style g h (piece.Commas o l) ps r e = refl
laid_none style g h (piece.Perhaps i) ps r e = refl
laid_none style g h (piece.Option w o n) ps r e = refl
laid_none style g h (piece.Statements i) ps r e = refl
laid_none style g h piece.Undirected ps r e = refl
laid_none style g h (piece.Silent v) ps r e = refl

pub laid_part : (style : Style) → (g : Goal) (h : Rule) (x : Piece) (ps : List grammar.Part) (k : Printer) (ks : List Printer) (r : List Token) → takes_part x ≡ true → lay style g (piece_parts h x ps) (k ∷ ks) r ≡ lay style g (piece_parts h x []) (k ∷ []) (lay style g ps ks r)
laid_part style g h (piece.Word w) ps k ks r e = absurd (false≢true e)
laid_part style g h (piece.Mark p) ps k ks r e = absurd (false≢true e)
laid_part style g h piece.Own ps k ks r e = absurd (false≢true e)
laid_part style g h piece.Fork ps k ks r e = absurd (false≢true e)
laid_part style g h piece.Semicolon ps k ks r e = absurd (false≢true e)
laid_part style g h (piece.End c) ps k ks r e = absurd (false≢true e)
laid_part style g h (piece.Left n) ps k ks r e = refl
laid_part style g h piece.LeftOperand ps k ks r e = refl
laid_part style g h piece.RightOperand ps k ks r e = refl
laid_part style g h (piece.Part o n) ps k ks r e = refl
laid_part style g h (piece.Default b) ps k ks r e = refl
laid_part style g h (piece.Restricted look.NoStatement o n) ps k ks r e = refl
laid_part style g h (piece.Restricted look.NoBrace o n) ps k ks r e = refl
laid_part style g h (piece.Restricted look.Key o n) ps k ks r e = refl
laid_part style g h (piece.Restricted look.NotAsync o n) ps k ks r e = refl
laid_part style g h (piece.Restricted look.NoDeclaration o n) ps k ks r e = refl
laid_part style g h (piece.Commas o l) ps k ks r e = refl
laid_part style g h (piece.Perhaps i) ps k ks r e = refl
laid_part style g h (piece.Option w o n) ps k ks r e = refl
laid_part style g h (piece.Statements i) ps k ks r e = refl
laid_part style g h piece.Undirected ps k ks r e = refl
laid_part style g h (piece.Silent v) ps k ks r e = refl
