-- What a body shares.
use Rattle.std.specs.Prelude.{ℕ, suc, ◌≡◌, ◌<◌, refl, nat_eq, ◌&&◌, ◌||◌, not, is_none, Bool, true, false, List, [], ◌∷◌, Some}
use Rattle.std.specs.List.{list_any}
use Rattle.std.proofs.Common.{ap, ◌∙◌, sym, arith}
use Rattle.mini_model.specs.declared.name.Name.{Name}
use Rattle.mini_model.specs.declared.name.SymbolId.{SymbolId}
use Rattle.mini_model.specs.Tree.{Tree}
use Rattle.mini_laws.specs.Mentions.{Mention, same_variable, is_among, is_elsewhere, is_value_spelling, program_mentions}
use Rattle.mini_laws.specs.ScopeList.{seen_by_eval}
use Rattle.mini_laws.specs.Shared.{caught, module_names, program_pattern_writes, reached_by_arguments, script_tops, is_shared}
use Rattle.mini_context.specs.declared.mentions.Mentioned.{Mentioned}
use Rattle.mini_context.specs.declared.mentions.Mentioned.TheVariants as mentioned
use Rattle.mini_context.specs.Outside.{is_mentioned_outside}
use Rattle.mini_context.specs.Tables.{mark_at, named}
use Rattle.mini_context.specs.Mentioned.{is_outside, is_somewhere, mentioned_at}
use Rattle.mini_context.specs.Facts.{Facts, Looked, shares}
use Rattle.mini_context.proofs.Equal.{apart}
use Rattle.mini_context.proofs.Marking.{among_by_symbol, same_by_symbol}

-- ---- a name by its symbol

any_by_symbol : (x : Name) (s : SymbolId) (q : Mention → Bool) (ms : List Mention) → x.symbol ≡ Some s → list_any (λ m. same_variable x m.name && q m) ms ≡ list_any (λ m. same_variable (named s.0) m.name && q m) ms
any_by_symbol x s q [] e = refl
any_by_symbol x s q (m ∷ ms) e =
    ap (λ b. (b && q m) || list_any (λ r. same_variable x r.name && q r) ms) (same_by_symbol x s m.name e)
    ∙ ap (λ b. (same_variable (named s.0) m.name && q m) || b) (any_by_symbol x s q ms e)

-- what it is to be shared, of a name that has a symbol
abbrev pub shared_by : Tree → ℕ → Name → Bool
shared_by t b x =
    (is_among x (script_tops t) || is_among x (module_names t) || is_among x (seen_by_eval t) || is_among x (reached_by_arguments false t) || is_among x (caught t) || is_among x (program_pattern_writes t))
    || is_mentioned_outside t b x

resolved_shared : (t : Tree) (b : ℕ) (x : Name) (s : SymbolId) → x.symbol ≡ Some s → is_shared t b x ≡ shared_by t b x
resolved_shared t b x s e =
    ap (λ o. not (is_none o && is_value_spelling x.spelling) && ((is_none o || is_among x (script_tops t) || is_among x (module_names t) || is_among x (seen_by_eval t) || is_among x (reached_by_arguments false t) || is_among x (caught t) || is_among x (program_pattern_writes t)) || is_mentioned_outside t b x)) e

pub shared_by_symbol : (t : Tree) (b : ℕ) (x : Name) (s : SymbolId) → x.symbol ≡ Some s → is_shared t b x ≡ is_shared t b (named s.0)
shared_by_symbol t b x s e =
    resolved_shared t b x s e
    ∙ ap (λ v. (v || is_among x (module_names t) || is_among x (seen_by_eval t) || is_among x (reached_by_arguments false t) || is_among x (caught t) || is_among x (program_pattern_writes t)) || is_mentioned_outside t b x) (among_by_symbol x s (script_tops t) e)
    ∙ ap (λ v. (is_among (named s.0) (script_tops t) || v || is_among x (seen_by_eval t) || is_among x (reached_by_arguments false t) || is_among x (caught t) || is_among x (program_pattern_writes t)) || is_mentioned_outside t b x) (among_by_symbol x s (module_names t) e)
    ∙ ap (λ v. (is_among (named s.0) (script_tops t) || is_among (named s.0) (module_names t) || v || is_among x (reached_by_arguments false t) || is_among x (caught t) || is_among x (program_pattern_writes t)) || is_mentioned_outside t b x) (among_by_symbol x s (seen_by_eval t) e)
    ∙ ap (λ v. (is_among (named s.0) (script_tops t) || is_among (named s.0) (module_names t) || is_among (named s.0) (seen_by_eval t) || v || is_among x (caught t) || is_among x (program_pattern_writes t)) || is_mentioned_outside t b x) (among_by_symbol x s (reached_by_arguments false t) e)
    ∙ ap (λ v. (is_among (named s.0) (script_tops t) || is_among (named s.0) (module_names t) || is_among (named s.0) (seen_by_eval t) || is_among (named s.0) (reached_by_arguments false t) || v || is_among x (program_pattern_writes t)) || is_mentioned_outside t b x) (among_by_symbol x s (caught t) e)
    ∙ ap (λ v. (is_among (named s.0) (script_tops t) || is_among (named s.0) (module_names t) || is_among (named s.0) (seen_by_eval t) || is_among (named s.0) (reached_by_arguments false t) || is_among (named s.0) (caught t) || v) || is_mentioned_outside t b x) (among_by_symbol x s (program_pattern_writes t) e)
    ∙ ap (λ v. (is_among (named s.0) (script_tops t) || is_among (named s.0) (module_names t) || is_among (named s.0) (seen_by_eval t) || is_among (named s.0) (reached_by_arguments false t) || is_among (named s.0) (caught t) || is_among (named s.0) (program_pattern_writes t)) || v) (any_by_symbol x s (λ m. is_elsewhere b m.around) (program_mentions t) e)
    ∙ sym (resolved_shared t b (named s.0) s refl)

-- ---- mentions of which it is known in which bodies they are not

abbrev pub outside_all : (p : Mention → Bool) → ℕ → List Mention → Bool
outside_all p b ms = list_any (λ m. p m && is_elsewhere b m.around) ms

and_false : (a : Bool) → (a && false) ≡ false
and_false true = refl
and_false false = refl

or_left : (a b : Bool) → (a || b) ≡ false → a ≡ false
or_left true b e = absurd (cc e)
or_left false b e = refl

or_right : (a b : Bool) → (a || b) ≡ false → b ≡ false
or_right true b e = absurd (cc e)
or_right false b e = e

or_true : (b : Bool) → (b || true) ≡ true
or_true true = refl
or_true false = refl

-- in the body with the next number a mention is elsewhere
next_by : (a : Bool) (p : Bool) (v : Bool) → v ≡ false → (p && (a || not v)) ≡ p
next_by a true v e = ap (λ w. a || not w) e ∙ or_true a
next_by a false v e = refl

next_body : (n : ℕ) → nat_eq n (suc n) ≡ false
next_body n = apart n (suc n) (λ e. omega (arith, e))

nowhere_at_all : (p : Mention → Bool) (ms : List Mention) → ((b : ℕ) → outside_all p b ms ≡ false) → list_any p ms ≡ false
nowhere_at_all p [] f = refl
nowhere_at_all p (m ∷ ms) f =
    let here : p m ≡ false = sym (next_by m.around.carried (p m) (nat_eq m.around.number (suc m.around.number)) (next_body m.around.number)) ∙ or_left (p m && is_elsewhere (suc m.around.number) m.around) (outside_all p (suc m.around.number) ms) (f (suc m.around.number)) in
    ap (λ v. v || list_any p ms) here ∙ nowhere_at_all p ms (λ b. or_right (p m && is_elsewhere b m.around) (outside_all p b ms) (f b))

some_by : (p q r w : Bool) → (w ≡ true → r ≡ true) → ((p && q) || w) ≡ true → (p || r) ≡ true
some_by true q r w f e = refl
some_by false q r w f e = f e

somewhere : (p : Mention → Bool) (b : ℕ) (ms : List Mention) → outside_all p b ms ≡ true → list_any p ms ≡ true
somewhere p b [] e = absurd (cc e)
somewhere p b (m ∷ ms) e = some_by (p m) (is_elsewhere b m.around) (list_any p ms) (outside_all p b ms) (somewhere p b ms) e

pub somewhere_told : (p : Mention → Bool) (e : Mentioned) (ms : List Mention) → ((b : ℕ) → is_outside e b ≡ outside_all p b ms) → is_somewhere e ≡ list_any p ms
somewhere_told p mentioned.Nowhere ms f = sym (nowhere_at_all p ms (λ b. sym (f b)))
somewhere_told p (mentioned.In n) ms f = sym (somewhere p (suc n) ms (sym (f (suc n)) ∙ ap not (next_body n)))
somewhere_told p mentioned.Widely ms f = sym (somewhere p 0 ms (sym (f 0)))

-- ---- what the tables tell

pub tables_share : (f : Facts) (n : ℕ) (t : Tree) → Looked f n t → (s b : ℕ) → s < n → shares f s b ≡ is_shared t b (named s)
tables_share f n t w s b h =
    ap (λ v. (v || mark_at f.exchanged s || mark_at f.seen s || mark_at f.reached s || mark_at f.caught s || mark_at f.pattern_writes s) || is_outside (mentioned_at f.mentioned s) b) (w.tops_told s h)
    ∙ ap (λ v. (is_among (named s) (script_tops t) || v || mark_at f.seen s || mark_at f.reached s || mark_at f.caught s || mark_at f.pattern_writes s) || is_outside (mentioned_at f.mentioned s) b) (w.exchanged_told s h)
    ∙ ap (λ v. (is_among (named s) (script_tops t) || is_among (named s) (module_names t) || v || mark_at f.reached s || mark_at f.caught s || mark_at f.pattern_writes s) || is_outside (mentioned_at f.mentioned s) b) (w.seen_told s h)
    ∙ ap (λ v. (is_among (named s) (script_tops t) || is_among (named s) (module_names t) || is_among (named s) (seen_by_eval t) || v || mark_at f.caught s || mark_at f.pattern_writes s) || is_outside (mentioned_at f.mentioned s) b) (w.reached_told s h)
    ∙ ap (λ v. (is_among (named s) (script_tops t) || is_among (named s) (module_names t) || is_among (named s) (seen_by_eval t) || is_among (named s) (reached_by_arguments false t) || v || mark_at f.pattern_writes s) || is_outside (mentioned_at f.mentioned s) b) (w.caught_told s h)
    ∙ ap (λ v. (is_among (named s) (script_tops t) || is_among (named s) (module_names t) || is_among (named s) (seen_by_eval t) || is_among (named s) (reached_by_arguments false t) || is_among (named s) (caught t) || v) || is_outside (mentioned_at f.mentioned s) b) (w.pattern_writes_told s h)
    ∙ ap (λ v. (is_among (named s) (script_tops t) || is_among (named s) (module_names t) || is_among (named s) (seen_by_eval t) || is_among (named s) (reached_by_arguments false t) || is_among (named s) (caught t) || is_among (named s) (program_pattern_writes t)) || v) (w.mentioned_told s h b)
