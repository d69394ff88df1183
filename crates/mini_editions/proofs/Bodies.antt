-- Each row that rests on what is known of a body.
use Rattle.std.proofs.Common.{◌≡◌, ℕ, false, refl, ap, ◌∙◌, inl, inr}
use Rattle.mini_model.specs.declared.place.Position.{Position}
use Rattle.mini_model.specs.declared.place.Position.TheVariants.{Elsewhere}
use Rattle.mini_model.specs.Tree.{Tree, is_absent}
use Rattle.mini_kept.specs.Without.{BodySets}
use Rattle.mini_less.specs.Steady.{AnyCode, PastCode, InsideCode}
use Rattle.mini_rows.specs.Editions.{SteadyRowsIn}
use Rattle.mini_rows.specs.Inside.{Holder, Arrow, Function, Module, Static, over, Ends, InsideAt, unused_ends}
use Rattle.mini_rows.specs.Forms.{Form}
use Rattle.mini_rows.specs.Past.{PastFunction}
use Rattle.mini_rows.specs.PastArrows.{PastArrow}
use Rattle.mini_rows.specs.PastBlocks.{PastBlocks}
use Rattle.mini_rows.specs.PastInside.{past_ends}
use Rattle.mini_rows.specs.PastModules.{PastModule}
use Rattle.mini_rows.specs.PastStatics.{PastStatic}
use Rattle.mini_rows.specs.Steady.{OwnRows, LexicalRows, SteadyRow}
use Rattle.mini_rows.specs.Switches.{Switches, Liberties}
use Rattle.mini_editions.specs.Kept.{IsThere, StaysWithin, SteadyRewritesStayWithin}
use Rattle.mini_editions.proofs.Times.{within}
use Rattle.mini_editions.proofs.Idle.{steady_fewer, lexical_fewer}
use Rattle.mini_editions.proofs.Moved.{below_fewer}
use Rattle.mini_editions.proofs.Own.{FamilyStays, anywhere, own_code_stays, own_programs_stay, own_parts_stay}
use Rattle.mini_editions.proofs.Past.{past_functions_below, past_arrow_below, past_module_below, past_static_below, past_blocks_below, EndsBelow, inside_below, unused_ends_below, past_ends_below}

-- ---- in the own code of a body

members_stay : (e : ℕ) → FamilyStays e (SteadyRowsIn e)
members_stay e V p n w r = record { within = within e n w (λ f newer. steady_fewer f e newer V p n w r.0 r.1); there = by p r.0 }
  where
    by : (p : Position) → SteadyRow V p n w → IsThere p w
    by Elsewhere r = absurd r
    by p r = tt

lexicals_stay : (e : ℕ) → FamilyStays e LexicalRows
lexicals_stay e V p n w r = record { within = within e n w (λ f newer. lexical_fewer f V.unshared p n w r); there = by p r }
  where
    by : (p : Position) → LexicalRows V p n w → IsThere p w
    by Elsewhere r = absurd r
    by p r = tt

past_blocks_stay : (e : ℕ) (o : Switches) → FamilyStays e (PastBlocks o)
past_blocks_stay e o V p n w r = record { within = within e n w (λ f newer. below_fewer f n w (past_blocks_below f o V p n w r)); there = by p r }
  where
    by : (p : Position) → PastBlocks o V p n w → IsThere p w
    by Elsewhere r = ap is_absent r.written
    by p r = tt

any_code_stays : (e : ℕ) (F : OwnRows) → FamilyStays e F → (S : BodySets) → StaysWithin e (AnyCode F S)
any_code_stays e F k S p n w (inl (inl r)) = own_code_stays e F k S p n w r
any_code_stays e F k S p n w (inl (inr r)) = own_programs_stay e F k S p n w r
any_code_stays e F k S p n w (inr r) = own_parts_stay e F k S p n w r

-- ---- past steady names, and further inside

function_there : (S : BodySets) (W : Liberties) (p : Position) (n w : Tree) → PastFunction S W p n w → IsThere p w
function_there S W Elsewhere n w r = ap is_absent r.written
function_there S W p n w r = tt

arrow_there : (S : BodySets) (W : Liberties) (p : Position) (n w : Tree) → PastArrow S W p n w → IsThere p w
arrow_there S W Elsewhere n w r = absurd r
arrow_there S W p n w r = tt

module_there : (S : BodySets) (W : Liberties) (p : Position) (n w : Tree) → PastModule S W p n w → IsThere p w
module_there S W Elsewhere n w r = ap is_absent r.written
module_there S W p n w r = tt

static_there : (S : BodySets) (W : Liberties) (p : Position) (n w : Tree) → PastStatic S W p n w → IsThere p w
static_there S W Elsewhere n w r = ap is_absent r.written
static_there S W p n w r = tt

past_code_stays : (e : ℕ) (S : BodySets) (W : Liberties) → StaysWithin e (PastCode S W)
past_code_stays e S W p n w (inl (inl (inl r))) = record { within = within e n w (λ f newer. below_fewer f n w (past_functions_below f S W p n w r)); there = function_there S W p n w r }
past_code_stays e S W p n w (inl (inl (inr r))) = record { within = within e n w (λ f newer. below_fewer f n w (past_arrow_below f S W p n w r)); there = arrow_there S W p n w r }
past_code_stays e S W p n w (inl (inr (inl r))) = record { within = within e n w (λ f newer. below_fewer f n w (past_module_below f S W p n w r)); there = module_there S W p n w r }
past_code_stays e S W p n w (inl (inr (inr r))) = record { within = within e n w (λ f newer. below_fewer f n w (past_static_below f S W p n w r)); there = static_there S W p n w r }
past_code_stays e S W p n w (inr r) = any_code_stays e (PastBlocks W.switches) (past_blocks_stay e W.switches) S p n w r

over_there : (h : Holder) (l : Tree) → is_absent (over h l) ≡ false
over_there (Arrow directives n parameters) l = refl
over_there (Function is_declared is_generator directives n name parameters) l = refl
over_there (Module directives) l = refl
over_there (Static n) l = refl

inside_stays : (e : ℕ) (E : Ends) → ((f : Form) → EndsBelow f E) → StaysWithin e (InsideAt E)
inside_stays e E k p n w i = record { within = within e n w (λ f newer. below_fewer f n w (inside_below f E (k f) p n w i)); there = anywhere p w (ap is_absent i.row.written ∙ over_there i.row.holder _) }

inside_code_stays : (e : ℕ) (S : BodySets) (W : Liberties) → StaysWithin e (InsideCode S W)
inside_code_stays e S W p n w (inl r) = inside_stays e (unused_ends W) (λ f. unused_ends_below f W) p n w r
inside_code_stays e S W p n w (inr r) = inside_stays e (past_ends S W) (λ f. past_ends_below f S W) p n w r

pub steady_rewrites_stay_within : SteadyRewritesStayWithin
steady_rewrites_stay_within S W p n w (inl (inl r)) = any_code_stays W.switches.edition (SteadyRowsIn W.switches.edition) (members_stay W.switches.edition) S p n w r
steady_rewrites_stay_within S W p n w (inl (inr r)) = any_code_stays W.switches.edition LexicalRows (lexicals_stay W.switches.edition) S p n w r
steady_rewrites_stay_within S W p n w (inr (inl r)) = past_code_stays W.switches.edition S W p n w r
steady_rewrites_stay_within S W p n w (inr (inr r)) = inside_code_stays W.switches.edition S W p n w r
