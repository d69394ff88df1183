-- What the rules of the minifier make of a tree, and where they have nothing to do, by the options
-- and over the program as a pass began.
use Rattle.mini_model.specs.declared.place.Position.{Position}
use Rattle.mini_model.specs.Tree.{Tree}
use Rattle.mini_tree.specs.declared.options.CompressOptions.{CompressOptions}
use Rattle.mini_tree.specs.Rule.{Either, Both}
use Rattle.mini_logic.specs.Joined as logic
use Rattle.mini_logic.specs.DeMorganForVoidExpr as de_morgan
use Rattle.mini_logic.specs.MinimizeNegation as negation
use Rattle.mini_logic.specs.MinimizeExpressionInBooleanContext as booleans
use Rattle.mini_logic.specs.MinimizeBody as bodies
use Rattle.mini_choices.specs.Choices as choices
use Rattle.mini_choices.specs.MinimizeNormalAssignmentToCombinedLogicalAssignment as writes
use Rattle.mini_fold.specs.FoldKnown as folding
use Rattle.mini_fold.specs.FoldConstants as constants
use Rattle.mini_fold.specs.FoldSequences as sequences
use Rattle.mini_fold.specs.FoldOperands as operands
use Rattle.mini_fold.specs.FoldTemplates as templates
use Rattle.mini_syntax.specs.Spelled as spellings
use Rattle.mini_syntax.specs.SubstituteArrowExpression as arrows
use Rattle.mini_syntax.specs.SubstituteObjectProperty as keys
use Rattle.mini_syntax.specs.SubstitutePropertyKey as held
use Rattle.mini_syntax.specs.SubstituteReturnStatement as returns
use Rattle.mini_switch.specs.MinimizeSwitchStatements as switches
use Rattle.mini_syntax.specs.SubstituteVariableDeclaration as declarations
use Rattle.mini_rows.specs.Declarations.{DeclarationContracts}
use Rattle.mini_stmt.specs.MinimizeStatements as lists
use Rattle.mini_stmt.specs.TurnLoopGuards as loop_guards
use Rattle.mini_stmt.specs.JoinLets as lets
use Rattle.mini_unused.specs.RemoveUnusedName as names
use Rattle.mini_unused.specs.SubstituteCatchClause as catches
use Rattle.mini_inside.specs.Holding as unused
use Rattle.mini_steady.specs.Told.{told_in}
use Rattle.mini_unused.specs.Allowed.{allowed_in}
use Rattle.mini_peephole.specs.SteadyRows.{SteadyRewrites, IsSteadilySettled}

-- of those that keep each name
abbrev pub Gives : CompressOptions → Tree → Position → Tree → Tree → Type 0
Gives o q = Either logic.Gives (Either bodies.Gives (Either returns.Gives (Either spellings.Gives (Either (lists.Gives o q) (Either keys.Gives (Either (choices.Gives o) (Either DeclarationContracts (Either folding.Gives (Either arrows.Gives (Either constants.Gives (Either held.Gives (Either booleans.Gives (Either de_morgan.Gives (Either sequences.Gives (Either operands.Gives (Either negation.Gives (Either templates.Gives (Either switches.Gives (loop_guards.GivesLoops o q)))))))))))))))))))

abbrev pub Rests : CompressOptions → Tree → Position → Tree → Type 0
Rests o q = Both logic.Rests (Both bodies.Rests (Both returns.Rests (Both spellings.Rests (Both (lists.RestsUnder o q) (Both keys.Rests (Both (choices.Rests o) (Both declarations.Rests (Both folding.Rests (Both arrows.Rests (Both constants.Rests (Both held.Rests (Both booleans.Rests (Both de_morgan.Rests (Both sequences.Rests (Both operands.Rests (Both negation.Rests (Both templates.Rests (Both switches.Rests (loop_guards.LoopsRest o q)))))))))))))))))))

-- and of those besides that drop names that nothing mentions, or write names that can be written
abbrev pub LooseGives : CompressOptions → Tree → Position → Tree → Tree → Type 0
LooseGives o q = Either (Gives o q) (Either (unused.Gives o q) (Either (names.Gives o q) (Either (catches.Gives o) (Either (writes.Gives o q) (lets.Gives o q)))))

abbrev pub LooseRests : CompressOptions → Tree → Position → Tree → Type 0
LooseRests o q = Both (Rests o q) (Both (unused.Rests o q) (Both (names.RestsUnder o q) (Both (catches.RestsUnder o) (Both (writes.Rests o q) (lets.Rests q)))))

-- of those that rest on what is known of the bodies of the program
abbrev pub SteadyGives : CompressOptions → Tree → Position → Tree → Tree → Type 0
SteadyGives o q = SteadyRewrites (told_in q) (allowed_in o q)

abbrev pub SteadyRests : CompressOptions → Tree → Position → Tree → Type 0
SteadyRests o q = IsSteadilySettled (told_in q) (allowed_in o q)

-- of all
abbrev pub AllGives : CompressOptions → Tree → Position → Tree → Tree → Type 0
AllGives o q = Either (LooseGives o q) (SteadyGives o q)

abbrev pub AllRests : CompressOptions → Tree → Position → Tree → Type 0
AllRests o q = Both (LooseRests o q) (SteadyRests o q)
