-- A text in quotes comes back from its escapes, which may stand in double quotes.
use Rattle.std.specs.Prelude.{ℕ, ◌≡◌, refl, nat_eq, Bool, true, false, not, ◌&&◌, ◌||◌, List, [], ◌∷◌, ◌++◌, codes, if◌then◌else◌}
use Rattle.std.proofs.Common.{◌∙◌, ap, sym, subst}
use Rattle.std.proofs.lemmas.Bool.{false≢true, eqb-true, eq-eqb}
use Rattle.mini_model.specs.Weight.{same_text}
use Rattle.mini_print.specs.Token.{Quoted}
use Rattle.mini_print.specs.Text.{escape, escaped, holds_bare, ends_escaped, has_no_line_end, is_line_end, is_quotable, spelled}

-- ---- the text that escapes stand for

pub data Mode : Type 0 where
  Plain Backslash First Second Third Fourth : Mode

abbrev pub unescape : Mode → List ℕ → List ℕ
unescape m [] = []
unescape Plain (c ∷ u) = if nat_eq c 92 then unescape Backslash u else c ∷ unescape Plain u
unescape Backslash (c ∷ u) = if nat_eq c 117 then unescape First u else (if nat_eq c 110 then 10 ∷ unescape Plain u else (if nat_eq c 114 then 13 ∷ unescape Plain u else c ∷ unescape Plain u))
unescape First (c ∷ u) = unescape Second u
unescape Second (c ∷ u) = unescape Third u
unescape Third (c ∷ u) = unescape Fourth u
unescape Fourth (c ∷ u) = (if nat_eq c 56 then 8232 else 8233) ∷ unescape Plain u

abbrev pub unescaped : List ℕ → List ℕ
unescaped s = unescape Plain s

no_end : (r s t v : Bool) → r ≡ false → s ≡ false → t ≡ false → v ≡ false → (r || s || t || v) ≡ false
no_end false false false false i j k l = refl
no_end true s t v i j k l = absurd (false≢true (sym i))
no_end false true t v i j k l = absurd (false≢true (sym j))
no_end false false true v i j k l = absurd (false≢true (sym k))
no_end false false false true i j k l = absurd (false≢true (sym l))

-- a unit is one of those that have escapes, or is written as it is
by_escape : (F : ℕ → List ℕ → Type 0) → F 34 (92 ∷ 34 ∷ []) → F 92 (92 ∷ 92 ∷ []) → F 10 (92 ∷ 110 ∷ []) → F 13 (92 ∷ 114 ∷ []) → F 8232 (codes "\\u2028") → F 8233 (codes "\\u2029") →
    ((c : ℕ) → nat_eq c 34 ≡ false → nat_eq c 92 ≡ false → is_line_end c ≡ false → F c (c ∷ [])) → (c : ℕ) → F c (escape c)
by_escape F a b d e f g o c = by (nat_eq c 34) (nat_eq c 92) (nat_eq c 10) (nat_eq c 13) (nat_eq c 8232) (nat_eq c 8233) refl refl refl refl refl refl
  where
    at : (k : ℕ) (w : List ℕ) → F k w → nat_eq c k ≡ true → F c w
    at k w x i = subst (λ y. F y w) (sym (eqb-true c k i)) x

    by : (p q r s t v : Bool) → nat_eq c 34 ≡ p → nat_eq c 92 ≡ q → nat_eq c 10 ≡ r → nat_eq c 13 ≡ s → nat_eq c 8232 ≡ t → nat_eq c 8233 ≡ v →
        F c (if p then 92 ∷ 34 ∷ [] else (if q then 92 ∷ 92 ∷ [] else (if r then 92 ∷ 110 ∷ [] else (if s then 92 ∷ 114 ∷ [] else (if t then codes "\\u2028" else (if v then codes "\\u2029" else c ∷ []))))))
    by true q r s t v i j k l m n = at 34 (92 ∷ 34 ∷ []) a i
    by false true r s t v i j k l m n = at 92 (92 ∷ 92 ∷ []) b j
    by false false true s t v i j k l m n = at 10 (92 ∷ 110 ∷ []) d k
    by false false false true t v i j k l m n = at 13 (92 ∷ 114 ∷ []) e l
    by false false false false true v i j k l m n = at 8232 (codes "\\u2028") f m
    by false false false false false true i j k l m n = at 8233 (codes "\\u2029") g n
    by false false false false false false i j k l m n = o c i j (no_end (nat_eq c 10) (nat_eq c 13) (nat_eq c 8232) (nat_eq c 8233) k l m n)

unescapes_unit : (u : List ℕ) (c : ℕ) → unescape Plain (escape c ++ u) ≡ c ∷ unescape Plain u
unescapes_unit u c = by_escape (λ k e. unescape Plain (e ++ u) ≡ k ∷ unescape Plain u) refl refl refl refl refl refl (λ k p q r. ap (λ b. if b then unescape Backslash u else k ∷ unescape Plain u) q) c

pub unescaped_back : (s : List ℕ) → unescaped (escaped s) ≡ s
unescaped_back [] = refl
unescaped_back (c ∷ s) = unescapes_unit (escaped s) c ∙ ap (λ y. c ∷ y) (unescaped_back s)

pub same_itself : (s : List ℕ) → same_text s s ≡ true
same_itself [] = refl
same_itself (c ∷ s) = ap (λ b. b && same_text s s) (eq-eqb c c refl) ∙ same_itself s

-- a text's escapes are those of the text that they stand for
pub escapes_again : (s : List ℕ) → same_text (escaped (unescaped (escaped s))) (escaped s) ≡ true
escapes_again s = ap (λ y. same_text (escaped y) (escaped s)) (unescaped_back s) ∙ same_itself (escaped s)

-- ---- where escapes may stand

bare_unit : (u : List ℕ) (c : ℕ) → holds_bare 34 false (escape c ++ u) ≡ holds_bare 34 false u
bare_unit u c = by_escape (λ k e. holds_bare 34 false (e ++ u) ≡ holds_bare 34 false u) refl refl refl refl refl refl (λ k p q r. ap (λ b. b || holds_bare 34 (nat_eq k 92) u) p ∙ ap (λ b. holds_bare 34 b u) q) c

ends_unit : (u : List ℕ) (c : ℕ) → ends_escaped false (escape c ++ u) ≡ ends_escaped false u
ends_unit u c = by_escape (λ k e. ends_escaped false (e ++ u) ≡ ends_escaped false u) refl refl refl refl refl refl (λ k p q r. ap (λ b. ends_escaped b u) q) c

line_unit : (u : List ℕ) (c : ℕ) → has_no_line_end (escape c ++ u) ≡ has_no_line_end u
line_unit u c = by_escape (λ k e. has_no_line_end (e ++ u) ≡ has_no_line_end u) refl refl refl refl refl refl (λ k p q r. ap (λ b. not b && has_no_line_end u) r) c

escaped_bare : (s : List ℕ) → holds_bare 34 false (escaped s) ≡ false
escaped_bare [] = refl
escaped_bare (c ∷ s) = bare_unit (escaped s) c ∙ escaped_bare s

escaped_end : (s : List ℕ) → ends_escaped false (escaped s) ≡ false
escaped_end [] = refl
escaped_end (c ∷ s) = ends_unit (escaped s) c ∙ escaped_end s

escaped_lines : (s : List ℕ) → has_no_line_end (escaped s) ≡ true
escaped_lines [] = refl
escaped_lines (c ∷ s) = line_unit (escaped s) c ∙ escaped_lines s

pub escaped_quotable : (s : List ℕ) → is_quotable (escaped s) ≡ true
escaped_quotable s =
    ap (λ b. b && (not (ends_escaped false (escaped s)) && not (holds_bare 34 false (escaped s) && holds_bare 39 false (escaped s)))) (escaped_lines s) ∙
    ap (λ b. not b && not (holds_bare 34 false (escaped s) && holds_bare 39 false (escaped s))) (escaped_end s) ∙ ap (λ b. not (b && holds_bare 39 false (escaped s))) (escaped_bare s)

pub spelled_escaped : (s : List ℕ) → spelled (Quoted (escaped s)) ≡ 34 ∷ (escaped s ++ (34 ∷ []))
spelled_escaped s = ap (λ b. (if b then 39 else 34) ∷ (escaped s ++ ((if b then 39 else 34) ∷ []))) (escaped_bare s)
