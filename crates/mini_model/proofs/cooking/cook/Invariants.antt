-- What was given, with what the rest of the raw text gives, is what the whole gives.
use Rattle.std.proofs.Common.{◌≡◌, drop}
use Rattle.mini_model.specs.Templates.{before, cooked_from, cooked}
use Rattle.mini_model.specs.Reader.{place_of}
use Rattle.mini_model.proofs.cooking.cook.Given as goal

abbrev pub invariant-loop-unit : goal.invariant-loop-unit
invariant-loop-unit l = before l.text (cooked_from (place_of l.state) (drop l.unit-index l.raw)) ≡ cooked l.raw
