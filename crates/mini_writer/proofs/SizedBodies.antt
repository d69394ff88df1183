-- Bodies with directives: the texts of these are made up for by the statements that they are.
use Rattle.std.proofs.Common.{◌≡◌, ℕ, suc, ◌+◌, ◌*◌, ◌≤◌, List, [], ◌∷◌, length, refl, ap, sym, codes, Bool, true, false, arith}
use Rattle.std.specs.Prelude.{Option, Some, None, option_and_then, option_map, unwrap_or, is_some, if◌then◌else◌, ◌&&◌}
use Rattle.serde_json.specs.Data.{Data, Items, no_items, item}
use Rattle.serde_json.specs.Find.{get}
use Rattle.mini_model.specs.Texts.{units_of}
use Rattle.mini_model.specs.declared.shape.Shape.TheVariants as shape
use Rattle.mini_model.specs.Weight.{directives_weight}
use Rattle.mini_accept.specs.WellShaped as shaped
use Rattle.mini_accept.specs.WellShaped.{Depth, in_module, in_body, is_paired}
use Rattle.mini_accept.specs.Places.{place, down, at}
use Rattle.mini_accept.specs.Fields.{require, text_at, paired_units, units_at, list_at, has_type}
use Rattle.mini_accept.specs.Words.{word_at, source_types}
use Rattle.mini_accept.specs.Statements as statement
use Rattle.mini_accept.specs.Statements.{directive_text, directives_before, directives_of, body_part, body_parts, body}
use Rattle.mini_accept.specs.Functions.{directives_in, directives_below}
use Rattle.mini_accept.proofs.Types.{some_same}
use Rattle.mini_writer.proofs.Amounts.{amount, found, amounts_below, text_length, text_within}
use Rattle.mini_writer.proofs.AcceptedLists.{extra_at, spare, spares, PartOf, PartsAt, ChildAt, From, from_next, from_first, starts}
use Rattle.mini_writer.proofs.Plans.{LightIf, node_light, bind_light}

-- ---- texts

paired_length : (b : Bool) (s u : List ℕ) → require b (Some s) ≡ Some u → length u ≡ length s
paired_length true s u e = ap length (sym (some_same s u e))
paired_length false s u e = absurd (cc e)

units_length : (o : Option (List ℕ)) (u : List ℕ) → option_and_then paired_units o ≡ Some u → length u ≡ text_length o
units_length None u e = absurd (cc e)
units_length (Some s) u e = paired_length (is_paired (units_of s)) (units_of s) u e

-- the units at a key are of the text there
pub units_within : (key : List ℕ) (d : Data) (u : List ℕ) → units_at key d ≡ Some u → 2 * length u ≤ found (get key d)
units_within key d u e = omega (arith, units_length (text_at key d) u e, text_within (get key d))

-- ---- directives

text_by : (b : Bool) (d : Data) (u : List ℕ) → (if b then units_at (codes "directive") d else None) ≡ Some u → 2 * length u ≤ found (get (codes "directive") d)
text_by true d u e = units_within (codes "directive") d u e
text_by false d u e = absurd (cc e)

directive_within : (d : Data) (u : List ℕ) → directive_text d ≡ Some u → 2 * length u + 128 ≤ amount d
directive_within d u e = omega (arith, text_by (has_type (codes "ExpressionStatement") d) d u e, amounts_below (codes "directive" ∷ []) d (tt, tt))

directive_spare : (d : Data) (depth : Depth) (i : ℕ) (a : Data) (ds : Items) → From d (codes "body") i (item a ds) → directives_weight (directives_of ds) ≤ spares d (body_parts depth true (suc i) ds)
    → (o : Option (List ℕ)) → directive_text a ≡ o → directives_weight (directives_before o (directives_of ds)) ≤ spare d (body_part depth (is_some o) i) + spares d (body_parts depth (is_some o) (suc i) ds)
directive_spare d depth i a ds h others None is = omega arith
directive_spare d depth i a ds h others (Some s) is =
    let there : found (down (place (codes "body") i) d) ≡ amount a = rw (from_first d (codes "body") i a ds h) refl in
    omega (arith, directive_within a s is, there, others)

-- the directives from a place on
directives_spare : (d : Data) (depth : Depth) (i : ℕ) (ds : Items) → From d (codes "body") i ds → directives_weight (directives_of ds) ≤ spares d (body_parts depth true i ds)
directives_spare d depth i no_items h = omega arith
directives_spare d depth i (item a ds) h = directive_spare d depth i a ds h (directives_spare d depth (suc i) ds (from_next d (codes "body") i a ds h)) (directive_text a) refl

pub body_spare : (d : Data) (depth : Depth) (ds : Items) → list_at (codes "body") d ≡ Some ds → directives_weight (directives_of ds) ≤ spares d (body_parts depth true 0 ds)
body_spare d depth ds e = directives_spare d depth 0 ds (starts d (codes "body") ds e)

-- ---- the parts of a body

body_part_of : (depth : Depth) (b : Bool) (i : ℕ) → PartOf (place (codes "body") i) (body_part depth b i)
body_part_of depth true i = refl
body_part_of depth false i = refl

parts_of_body : (depth : Depth) (leading : Bool) (i : ℕ) (ds : Items) → PartsAt (codes "body") i (body_parts depth leading i ds) ds
parts_of_body depth leading i no_items = tt
parts_of_body depth leading i (item a ds) = (body_part_of depth (leading && is_some (directive_text a)) i, parts_of_body depth (leading && is_some (directive_text a)) (suc i) ds)

body_at : (d : Data) (depth : Depth) (ds : Items) → list_at (codes "body") d ≡ Some ds → ChildAt d (codes "body") (body depth ds)
body_at d depth ds e = (ds, e, parts_of_body depth true 0 ds)

-- ---- plans

pub program : (d : Data) → LightIf d 0 (statement.program d)
program d = bind_light d 0 (word_at source_types (codes "sourceType") d) _ (λ is_module said. bind_light d 0 (list_at (codes "body") d) _ (λ ds e.
    let depth = if is_module then in_module else in_body in
    node_light d (codes "body" ∷ []) 0 (record { shape = shape.Program is_module (directives_of ds); names = []; children = body depth ds ∷ [] }) (body_at d depth ds e, tt) refl
    (λ os. omega (arith, body_spare d depth ds e))))

-- with the directives that stand in the function's shape
pub function_body : (d : Data) → has_type (codes "BlockStatement") d ≡ true → LightIf d (directives_weight (directives_in d)) (statement.function_body d)
function_body d typed = bind_light d (directives_weight (directives_in d)) (list_at (codes "body") d) _ (λ ds e.
    let same : directives_in d ≡ directives_of ds = rw (typed, e) refl in
    node_light d (codes "body" ∷ []) (directives_weight (directives_in d)) (record { shape = shape.FunctionBody; names = []; children = body in_body ds ∷ [] }) (body_at d in_body ds e, tt) refl
    (λ os. omega (arith, ap directives_weight same, body_spare d in_body ds e)))

below_by : (o : Option Data) → directives_weight (unwrap_or (option_map directives_in o) []) ≡ extra_at (at shaped.a_function_body) o
below_by None = refl
below_by (Some d) = refl

arrow_by : (o : Option Data) → directives_weight (unwrap_or (option_map directives_in o) []) ≡ extra_at (at shaped.an_arrow_body) o
arrow_by None = refl
arrow_by (Some d) = refl

pub below_function : (d : Data) → directives_weight (directives_below d) ≡ extra_at (at shaped.a_function_body) (get (codes "body") d)
below_function d = below_by (get (codes "body") d)

pub below_arrow : (d : Data) → directives_weight (directives_below d) ≡ extra_at (at shaped.an_arrow_body) (get (codes "body") d)
below_arrow d = arrow_by (get (codes "body") d)
