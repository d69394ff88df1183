-- The texts of a piece of a template.
use Rattle.std.proofs.Common.{◌≡◌, ℕ, List, [], Bool, true, refl, Option, Some, None, IsUtf8}
use Rattle.std.specs.Prelude.{codes, is_some, not}
use Rattle.serde_json.specs.Data.{Data, null}
use Rattle.serde_json.specs.Find.{get}
use Rattle.mini_model.specs.Texts.{units_of}
use Rattle.mini_model.specs.Templates.{cooked}
use Rattle.mini_model.specs.declared.shape.Shape.TheVariants as shape
use Rattle.mini_accept.specs.WellShaped.{is_text_of_cooked, tagged}
use Rattle.mini_accept.specs.Fields.{require, text_at}
use Rattle.mini_accept.specs.Plans.{Plan, node_of}
use Rattle.mini_fields.proofs.Texts.{units_there}
use Rattle.mini_plan.specs.Templates.{quasi_plan}

malformed_by : (o : Option (List ℕ)) (x : Option Plan) → not (is_some o) ≡ true → require (is_text_of_cooked None o) x ≡ x
malformed_by None x e = refl
malformed_by (Some cs) x e = absurd (cc e)

pub malformed_plan : (texts : Data) (tail : Bool) (raw : List ℕ) → text_at (codes "raw") texts ≡ Some raw → IsUtf8 raw → get (codes "cooked") texts ≡ Some null → not (is_some (cooked (units_of raw))) ≡ true
    → quasi_plan tagged tail texts ≡ node_of (shape.TemplateElement tail (units_of raw) None) []
malformed_plan texts tail raw is utf8 found malformed =
    rw (units_there (codes "raw") raw texts is utf8, found) (malformed_by (cooked (units_of raw)) (node_of (shape.TemplateElement tail (units_of raw) None) []) malformed)
