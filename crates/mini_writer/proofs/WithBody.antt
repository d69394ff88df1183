-- What has directives, and classes, by their rows.
use Rattle.std.proofs.Common.{◌≡◌, ℕ, List, [], ◌∷◌, ◌++◌, Bool, true, false, refl, sym, ap, ◌∙◌}
use Rattle.std.specs.Prelude.{not, is_some}
use Rattle.serde_json.specs.Data.{Data, null, boolean, number, string, array, object, Items, no_items, item}
use Rattle.serde_json.specs.Find.{as_array}
use Rattle.serde_json.specs.View.{view, items_view}
use Rattle.serde_json.specs.declared.value.Value.{Value}
use Rattle.mini_writer.specs.Objects as objects
use Rattle.mini_writer.specs.WithBody.{body_of, with_last, program_row, arrow_row, function_row, class_row}
use Rattle.mini_writer.specs.Rows.{row_data}
use Rattle.mini_writer.specs.Written.{of_one, of_two, of_three, of_four, program_body, is_expression, arrow, function, class}

-- ---- the last child

pub last_put : (f : Data → Data) (before all : List Value) (last changed : Value) → view changed ≡ f (view last) → all ≡ before ++ changed ∷ [] → items_view all ≡ with_last f (items_view (before ++ last ∷ []))
last_put f [] all last changed is put = rw put (ap (λ d. item d no_items) is)
last_put f (x ∷ []) all last changed is put = rw put (ap (λ d. item (view x) (item d no_items)) is)
last_put f (x ∷ y ∷ ys) all last changed is put = rw put (ap (item (view x)) (last_put f (y ∷ ys) ((y ∷ ys) ++ changed ∷ []) last changed is refl))

pub no_last : (f : Data → Data) (before all : List Value) → all ≡ before ++ [] → all ≡ [] → items_view before ≡ with_last f (items_view all)
no_last f [] all is none = rw none refl
no_last f (x ∷ xs) all is none = absurd (cc (sym is ∙ none))

-- ---- rows

-- a list of two or more keeps its length
pub program_written : (is_module : Bool) (directives : List (List ℕ)) (ds : Items) → row_data (program_row is_module) (with_last (body_of true directives) ds) ≡ of_one (λ d. objects.program_object is_module (program_body directives d)) ds
program_written is_module directives no_items = refl
program_written is_module directives (item a no_items) = refl
program_written is_module directives (item a (item b no_items)) = refl
program_written is_module directives (item a (item b (item c ds))) = refl

arrow_by : (directives : List (List ℕ)) (expression : Bool) (before : List Value) (last : Value) → expression ≡ is_expression (view last) → row_data (arrow_row expression) (with_last (body_of false directives) (items_view (before ++ last ∷ []))) ≡ of_two (arrow directives) (items_view (before ++ last ∷ []))
arrow_by directives expression [] last is = refl
arrow_by directives expression (x ∷ []) last is = rw is refl
arrow_by directives expression (x ∷ y ∷ []) last is = refl
arrow_by directives expression (x ∷ y ∷ z ∷ []) last is = refl
arrow_by directives expression (x ∷ y ∷ z ∷ w ∷ ws) last is = refl

pub arrow_data : (directives : List (List ℕ)) (expression : Bool) (vs before : List Value) (last : Value) → vs ≡ before ++ last ∷ [] → expression ≡ is_expression (view last) → row_data (arrow_row expression) (with_last (body_of false directives) (items_view (before ++ last ∷ []))) ≡ of_two (arrow directives) (items_view vs)
arrow_data directives expression vs before last at is = arrow_by directives expression before last is ∙ ap (λ ws. of_two (arrow directives) (items_view ws)) (sym at)

pub last_told : (d : Data) → not (is_some (as_array d)) ≡ is_expression d
last_told null = refl
last_told (boolean b) = refl
last_told (number n) = refl
last_told (string s) = refl
last_told (array ds) = refl
last_told (object ms) = refl

pub function_data : (declaration generator : Bool) (directives : List (List ℕ)) (ds : Items) → row_data (function_row declaration generator) (with_last (body_of false directives) ds) ≡ of_three (function declaration generator directives) ds
function_data declaration generator directives no_items = refl
function_data declaration generator directives (item a no_items) = refl
function_data declaration generator directives (item a (item b no_items)) = refl
function_data declaration generator directives (item a (item b (item c no_items))) = refl
function_data declaration generator directives (item a (item b (item c (item d no_items)))) = refl
function_data declaration generator directives (item a (item b (item c (item d (item e ds))))) = refl

-- of a class, the last child isn't written
class_left : (declaration : Bool) (rest : List Value) (v : Value) → row_data (class_row declaration) (items_view rest) ≡ of_four (class declaration) (items_view (rest ++ v ∷ []))
class_left declaration [] v = refl
class_left declaration (x ∷ []) v = refl
class_left declaration (x ∷ y ∷ []) v = refl
class_left declaration (x ∷ y ∷ z ∷ []) v = refl
class_left declaration (x ∷ y ∷ z ∷ a ∷ []) v = refl
class_left declaration (x ∷ y ∷ z ∷ a ∷ b ∷ bs) v = refl

pub class_written : (declaration : Bool) (vs rest : List Value) (v : Value) → vs ≡ rest ++ v ∷ [] → row_data (class_row declaration) (items_view rest) ≡ of_four (class declaration) (items_view vs)
class_written declaration vs rest v is = rw is (class_left declaration rest v)
