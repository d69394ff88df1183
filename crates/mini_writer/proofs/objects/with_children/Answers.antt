use Rattle.std.proofs.Common.{◌≡◌, [], ◌∷◌, ap, ap₂, sym, ◌∙◌, arith, rules}
use Rattle.std.proofs.lemmas.List.{nil_from_length}
use Rattle.serde_json.specs.Data.{put, object}
use Rattle.serde_json.specs.declared.value.Value.{the_lemmas}
use Rattle.serde_json.specs.declared.value.Value.TheVariants as value
use Rattle.serde_json.specs.View.{view, items_view, members_view}
use Rattle.mini_writer.specs.Rows.{object_if, zipped}
use Rattle.mini_writer.proofs.Zipped.{zip_step, left_over, view-Null}
use Rattle.mini_writer.proofs.objects.with_children.Goals as goal

pub loop-value-preserved : goal.loop-value-preserved
loop-value-preserved c =
    let ms = members_view c.loop-value.object.entries in
    let k = c.in-Some-split_first.key.now in
    let ks = c.in-Some-split_first.rest.now in
    let d = view c.in-Some.value in
    let ds = items_view c.next.new.self.rest.items in
    let front : c.loop-value.left.now ≡ k ∷ ks = c.in-Some-split_first.ensures.cases.0 in
    c.loop-value.invariant
    ∙ (ap₂ (λ ls vs. object_if ms (zipped ls (items_view vs))) front c.in-Some.ensures.steps.0
    ∙ (zip_step ms k ks d ds ∙ sym (ap (λ m. object_if m (zipped ks ds)) (c.in_ok-put.ensures.ok ∙ ap (λ s. put s d ms) c.key_text.ensures))))

pub returns-in-len1-up : goal.returns-in-len1-up
returns-in-len1-up c =
    let left = c.loop-value.value-iterator.rest in
    let gone : left.items ≡ [] = nil_from_length left.items (omega (arith, left.ok.0, c.in-None.ensures.steps.0)) in
    view-Null ∙ sym (c.loop-value.invariant ∙ rw gone (left_over (members_view c.loop-value.object.entries) c.loop-value.left.now c.in-len1-up.len_at_least))

pub returns-in_default : goal.returns-in_default
returns-in_default c =
    let ms = members_view c.loop-value.object.entries in
    view-Null ∙ sym (c.loop-value.invariant ∙ ap₂ (λ ls vs. object_if ms (zipped ls (items_view vs))) (nil_from_length c.loop-value.left.now c.in_default.ensures.cases) c.in-Some.ensures.steps.0)

pub returns-in-empty : goal.returns-in-empty
returns-in-empty c =
    let ms = members_view c.loop-value.object.entries in
    let rest = c.loop-value.value-iterator.rest in
    let told : view (value.Object c.loop-value.object) ≡ object ms = search (rules, the_lemmas) in
    let none = nil_from_length c.loop-value.left.now (omega (arith, c.in-empty.len_below)) in
    let gone : rest.items ≡ [] = nil_from_length rest.items (omega (arith, rest.ok.0, c.in-None.ensures.steps.0)) in
    told ∙ sym (c.loop-value.invariant ∙ ap₂ (λ ls vs. object_if ms (zipped ls (items_view vs))) none gone)
