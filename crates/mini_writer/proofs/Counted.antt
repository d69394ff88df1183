-- A value and the bytes of its texts, counted together: no more than the text that it is read from.
use Rattle.std.proofs.Common.{◌≡◌, ℕ, zero, suc, ◌+◌, ◌*◌, ◌-◌, ◌<◌, ◌≤◌, ◌⊎◌, List, [], ◌∷◌, length, Bool, true, false, cond, nat_lt, Option, Some, None, option_map, option_and_then, Ordering, Less, Equal, Greater, subst, flat_map, inl, inr, arith}
use Rattle.std.specs.Prelude.{⊤}
use Rattle.std.specs.Char.Escape.{encode_utf16}
use Rattle.std.specs.Ordering.{match_ordering}
use Rattle.std.specs.Str.{chars, chars_after, continuation_len, lead_bits}
use Rattle.std.proofs.lemmas.Bool.{cases_lt, lt-ltb, le-ltb}
use Rattle.std.proofs.lemmas.List.{length-append}
use Rattle.json.specs.Token.{Token}
use Rattle.json.specs.Token as json_token
use Rattle.json.specs.Lex.{tokens}
use Rattle.json.specs.Json as json
use Rattle.json.specs.Json.{Parse, parse_map, after_end_array, read_key, items_step, members_step, value_with, value}
use Rattle.serde_json.specs.Data.{Data, null, boolean, number, string, array, object, Items, no_items, item, Members, no_members, member, put}
use Rattle.serde_json.specs.Read.{number_of, of_json, of_items, of_members, max_depth, read}
use Rattle.mini_model.specs.Texts.{units_of}
use Rattle.mini_writer.specs.Fits.{Fits, values_in, values_in_items, values_in_members, units_in, units_in_items, units_in_members}
use Rattle.mini_writer.proofs.Lexed.{costs, tokens_cost}

-- ---- the values and the bytes of texts

abbrev mutual
  pub size : Data → ℕ
  size null = 1
  size (boolean b) = 1
  size (number n) = 1
  size (string s) = 1 + length s
  size (array ds) = 1 + items_size ds
  size (object ms) = 1 + members_size ms

  pub items_size : Items → ℕ
  items_size no_items = 0
  items_size (item d ds) = size d + items_size ds

  pub members_size : Members → ℕ
  members_size no_members = 0
  members_size (member k d ms) = length k + size d + members_size ms

abbrev mutual
  json_size : json.Json → ℕ
  json_size json.null = 1
  json_size (json.boolean b) = 1
  json_size (json.number s) = 1
  json_size (json.string s) = 1 + length s
  json_size (json.array js) = 1 + json_items_size js
  json_size (json.object ms) = 1 + json_members_size ms

  json_items_size : json.Items → ℕ
  json_items_size json.no_items = 0
  json_items_size (json.item j js) = json_size j + json_items_size js

  json_members_size : json.Members → ℕ
  json_members_size json.no_members = 0
  json_members_size (json.member k j ms) = length k + json_size j + json_members_size ms

-- ---- from tokens to JSON

-- what was read, with the tokens that are left, costs at most n
abbrev Spends : {A : Type 0} → (A → ℕ) → ℕ → Option (A × List Token) → Type 0
Spends f n None = ⊤
Spends f n (Some p) = f p.0 + costs p.1 ≤ n

mapped : {A B : Type 0} (f : A → ℕ) (g : B → ℕ) (n m k : ℕ) (h : A → B) → ((a : A) → g (h a) ≤ f a + k) → n + k ≤ m → (o : Option (A × List Token)) → Spends f n o → Spends g m (parse_map h o)
mapped f g n m k h small le None x = tt
mapped f g n m k h small le (Some p) x = omega (arith, small p.0)

and_more : {B : Type 0} (g : B → ℕ) (h : json.Json → B → B) (k : ℕ) → ((j : json.Json) (b : B) → g (h j b) ≤ g b + (json_size j + k)) → (more : Parse B) → ((ts : List Token) → Spends g (costs ts) (more ts))
    → (n m : ℕ) → n + k ≤ m → (o : Option (json.Json × List Token)) → Spends json_size n o → Spends g m (option_and_then (λ q. parse_map (h q.0) (more q.1)) o)
and_more g h k small more again n m le None x = tt
and_more g h k small more again n m le (Some q) x = mapped g g (costs q.1) m (json_size q.0 + k) (h q.0) (small q.0) (omega arith) (more q.1) (again q.1)

Ends : ℕ → Option (List Token) → Type 0
Ends n None = ⊤
Ends n (Some r) = costs r ≤ n

array_ends : (ts : List Token) → Ends (costs ts) (after_end_array ts)
unfolding Ends
array_ends [] = tt
array_ends (json_token.begin_object ∷ ts) = tt
array_ends (json_token.end_object ∷ ts) = tt
array_ends (json_token.begin_array ∷ ts) = tt
array_ends (json_token.end_array ∷ ts) = omega arith
array_ends (json_token.key s ∷ ts) = tt
array_ends (json_token.string s ∷ ts) = tt
array_ends (json_token.number s ∷ ts) = tt
array_ends (json_token.boolean b ∷ ts) = tt
array_ends (json_token.null ∷ ts) = tt
array_ends (json_token.bad ∷ ts) = tt

key_size : Option (List ℕ) → ℕ
key_size None = 0
key_size (Some k) = length k

key_spends : (ts : List Token) → Spends key_size (costs ts) (read_key ts)
unfolding key_size
key_spends [] = tt
key_spends (json_token.begin_object ∷ ts) = tt
key_spends (json_token.end_object ∷ ts) = omega arith
key_spends (json_token.begin_array ∷ ts) = tt
key_spends (json_token.end_array ∷ ts) = tt
key_spends (json_token.key s ∷ ts) = omega arith
key_spends (json_token.string s ∷ ts) = tt
key_spends (json_token.number s ∷ ts) = tt
key_spends (json_token.boolean b ∷ ts) = tt
key_spends (json_token.null ∷ ts) = tt
key_spends (json_token.bad ∷ ts) = tt

module _ (p : Parse json.Json) (spends : (ts : List Token) → Spends json_size (costs ts) (p ts)) where
  item_turn : (more : Parse json.Items) → ((ts : List Token) → Spends json_items_size (costs ts) (more ts)) → (ts : List Token) (o : Option (List Token)) → Ends (costs ts) o
      → Spends json_items_size (costs ts) (items_step p more ts o)
  unfolding Ends
  item_turn more again ts (Some r) e = omega arith
  item_turn more again ts None e = and_more json_items_size json.item 0 (λ j b. omega arith) more again (costs ts) (costs ts) (omega arith) (p ts) (spends ts)

  items_spend : (n : ℕ) (ts : List Token) → Spends json_items_size (costs ts) (json.items p n ts)
  unfolding json.items
  items_spend zero ts = tt
  items_spend (suc n) ts = item_turn (json.items p n) (items_spend n) ts (after_end_array ts) (array_ends ts)

  member_turn : (more : Parse json.Members) → ((ts : List Token) → Spends json_members_size (costs ts) (more ts)) → (n : ℕ) (o : Option (Option (List ℕ) × List Token)) → Spends key_size n o
      → Spends json_members_size n (option_and_then (λ q. members_step p more q.0 q.1) o)
  unfolding key_size
  member_turn more again n None e = tt
  member_turn more again n (Some (None, s)) e = omega arith
  member_turn more again n (Some (Some k, s)) e = and_more json_members_size (json.member k) (length k) (λ j b. omega arith) more again (costs s) n (omega arith) (p s) (spends s)

  members_spend : (n : ℕ) (ts : List Token) → Spends json_members_size (costs ts) (json.members p n ts)
  unfolding json.members
  members_spend zero ts = tt
  members_spend (suc n) ts = member_turn (json.members p n) (members_spend n) (costs ts) (read_key ts) (key_spends ts)

one_value : (a : Parse json.Items) (o : Parse json.Members) → ((ts : List Token) → Spends json_items_size (costs ts) (a ts)) → ((ts : List Token) → Spends json_members_size (costs ts) (o ts))
    → (ts : List Token) → Spends json_size (costs ts) (value_with a o ts)
one_value a o p q [] = tt
one_value a o p q (json_token.begin_object ∷ ts) = mapped json_members_size json_size (costs ts) (costs (json_token.begin_object ∷ ts)) 1 json.object (λ ms. omega arith) (omega arith) (o ts) (q ts)
one_value a o p q (json_token.end_object ∷ ts) = tt
one_value a o p q (json_token.begin_array ∷ ts) = mapped json_items_size json_size (costs ts) (costs (json_token.begin_array ∷ ts)) 1 json.array (λ js. omega arith) (omega arith) (a ts) (p ts)
one_value a o p q (json_token.end_array ∷ ts) = tt
one_value a o p q (json_token.key s ∷ ts) = tt
one_value a o p q (json_token.string s ∷ ts) = omega arith
one_value a o p q (json_token.number s ∷ ts) = omega arith
one_value a o p q (json_token.boolean b ∷ ts) = omega arith
one_value a o p q (json_token.null ∷ ts) = omega arith
one_value a o p q (json_token.bad ∷ ts) = tt

value_spends : (d : ℕ) (ts : List Token) → Spends json_size (costs ts) (value d ts)
unfolding value
value_spends zero ts = one_value (λ rs. None) (λ rs. None) (λ rs. tt) (λ rs. tt) ts
value_spends (suc d) ts =
    one_value (λ rs. json.items (value d) (length rs) rs) (λ rs. json.members (value d) (length rs) rs)
    (λ rs. items_spend (value d) (value_spends d) (length rs) rs) (λ rs. members_spend (value d) (value_spends d) (length rs) rs) ts

-- ---- from JSON to data

abbrev AtMost : {A : Type 0} → (A → ℕ) → ℕ → Option A → Type 0
AtMost f n None = ⊤
AtMost f n (Some a) = f a ≤ n

AtMost-map : {A B : Type 0} (f : A → ℕ) (g : B → ℕ) (n m : ℕ) (h : A → B) → ((a : A) → f a ≤ n → g (h a) ≤ m) → (o : Option A) → AtMost f n o → AtMost g m (option_map h o)
AtMost-map f g n m h small None x = tt
AtMost-map f g n m h small (Some a) x = small a x

AtMost-and_then : {A B : Type 0} (f : A → ℕ) (g : B → ℕ) (n m : ℕ) (h : A → Option B) → ((a : A) → f a ≤ n → AtMost g m (h a)) → (o : Option A) → AtMost f n o → AtMost g m (option_and_then h o)
AtMost-and_then f g n m h small None x = tt
AtMost-and_then f g n m h small (Some a) x = small a x

AtMost-more : {A : Type 0} (f : A → ℕ) (n m : ℕ) (o : Option A) → AtMost f n o → n ≤ m → AtMost f m o
AtMost-more f n m None x le = tt
AtMost-more f n m (Some a) x le = omega arith

always : {A : Type 0} (o : Option A) → AtMost (λ _. 0) 0 o
always None = tt
always (Some a) = omega arith

either_members : (o : Ordering) (a b c : Members) (n : ℕ) → members_size a ≤ n → members_size b ≤ n → members_size c ≤ n → members_size (match_ordering o a b c) ≤ n
either_members Less a b c n p q r = p
either_members Equal a b c n p q r = q
either_members Greater a b c n p q r = r

put_size : (k : List ℕ) (d : Data) (ms : Members) → members_size (put k d ms) ≤ length k + size d + members_size ms
put_size k d no_members = omega arith
put_size k d (member l e ms) =
    either_members _ (member k d (member l e ms)) (member l d ms) (member l e (put k d ms)) _ (omega arith) (omega arith) (omega (arith, put_size k d ms))

mutual
  data_size : (j : json.Json) → AtMost size (json_size j) (of_json j)
  data_size json.null = omega arith
  data_size (json.boolean b) = omega arith
  data_size (json.number s) = AtMost-map (λ _. 0) size 0 1 number (λ a x. omega arith) (number_of s) (always (number_of s))
  data_size (json.string s) = omega arith
  data_size (json.array js) = AtMost-map items_size size (json_items_size js) (json_size (json.array js)) array (λ a x. omega arith) (of_items js) (data_items_size js)
  data_size (json.object ms) = AtMost-map members_size size (json_members_size ms) (json_size (json.object ms)) object (λ a x. omega arith) (of_members ms no_members) (AtMost-more members_size _ _ (of_members ms no_members) (data_members_size ms no_members) (omega arith))

  data_items_size : (js : json.Items) → AtMost items_size (json_items_size js) (of_items js)
  data_items_size json.no_items = omega arith
  data_items_size (json.item j js) =
      AtMost-and_then size items_size (json_size j) (json_items_size (json.item j js)) _ (λ d x. AtMost-map items_size items_size (json_items_size js) (json_items_size (json.item j js)) (item d) (λ ds y. omega arith) (of_items js) (data_items_size js)) (of_json j) (data_size j)

  data_members_size : (ms : json.Members) (found : Members) → AtMost members_size (json_members_size ms + members_size found) (of_members ms found)
  data_members_size json.no_members found = omega arith
  data_members_size (json.member k j ms) found =
      AtMost-and_then size members_size (json_size j) (json_members_size (json.member k j ms) + members_size found) _
      (λ d x. AtMost-more members_size (json_members_size ms + members_size (put k d found)) _ (of_members ms (put k d found)) (data_members_size ms (put k d found)) (omega (arith, put_size k d found))) (of_json j) (data_size j)

last_size : (o : Option (json.Json × List Token)) (n : ℕ) → Spends json_size n o → AtMost json_size n (option_and_then (λ p. json.if_last p.0 p.1) o)
last_size None n h = tt
last_size (Some (j, [])) n h = omega arith
last_size (Some (j, x ∷ r)) n h = tt

read_size : (text : List ℕ) (d : Data) → read text ≡ Some d → size d ≤ length text
read_size text d e =
    let n = length text in
    let o = value max_depth (tokens text) in
    let spent = last_size o (costs (tokens text)) (value_spends max_depth (tokens text)) in
    let whole = AtMost-and_then json_size size (costs (tokens text)) n of_json (λ j x. AtMost-more size (json_size j) n (of_json j) (data_size j) (omega (arith, tokens_cost text))) _ spent in
    subst (AtMost size n) e whole

-- ---- units

abbrev count : List ℕ → ℕ
count cs = length (flat_map encode_utf16 cs)

two_units : (c : ℕ) → length (encode_utf16 c) ≤ 2
two_units c = elim (cases_lt c 0x1_0000) [ inl low ↦ rw (lt-ltb c 0x1_0000 low) (omega arith) | inr high ↦ rw (le-ltb c 0x1_0000 high) (omega arith) ]

one_unit : (c : ℕ) → c < 0x1_0000 → length (encode_utf16 c) ≤ 1
one_unit c low = rw (lt-ltb c 0x1_0000 low) (omega arith)

count-cons : (c : ℕ) (cs : List ℕ) → count (c ∷ cs) ≡ length (encode_utf16 c) + count cs
count-cons c cs = length-append (encode_utf16 c) (flat_map encode_utf16 cs)

-- the character has more bytes to come, or is one unit
abbrev IsNear : ℕ → ℕ → Type 0
IsNear n c = (0 < n) ⊎ (c < 0x1_0000)

more_bytes : (a b : Bool) → 0 < cond a 1 (cond b 2 3)
more_bytes true b = omega arith
more_bytes false true = omega arith
more_bytes false false = omega arith

lead_near : (b : ℕ) → IsNear (continuation_len b) (lead_bits b)
lead_near b = elim (cases_lt b 128) [
  | inl low ↦ rw (lt-ltb b 128 low) (inr (omega arith))
  | inr high ↦ rw (le-ltb b 128 high) (inl (more_bytes (nat_lt b 224) (nat_lt b 240)))
]

mutual
  any_count : (n c : ℕ) (bs : List ℕ) → count (chars_after n c bs) ≤ length bs + 2
  any_count zero c [] = omega (arith, count-cons c [], two_units c)
  any_count zero c (b ∷ bs) =
      omega (arith, count-cons c (chars_after (continuation_len b) (lead_bits b) bs), two_units c, near_count (continuation_len b) (lead_bits b) bs (lead_near b))
  any_count (suc n) c [] = omega arith
  any_count (suc n) c (b ∷ bs) = omega (arith, any_count n (c * 64 + (b - 128)) bs)

  near_count : (n c : ℕ) (bs : List ℕ) → IsNear n c → count (chars_after n c bs) ≤ length bs + 1
  near_count zero c bs (inl some) = absurd (omega arith)
  near_count zero c [] (inr low) = omega (arith, count-cons c [], one_unit c low)
  near_count zero c (b ∷ bs) (inr low) =
      omega (arith, count-cons c (chars_after (continuation_len b) (lead_bits b) bs), one_unit c low, near_count (continuation_len b) (lead_bits b) bs (lead_near b))
  near_count (suc n) c [] near = omega arith
  near_count (suc n) c (b ∷ bs) near = omega (arith, any_count n (c * 64 + (b - 128)) bs)

-- a text has no more units than bytes
pub units_count : (s : List ℕ) → length (units_of s) ≤ length s
unfolding chars
units_count [] = omega arith
units_count (b ∷ bs) = omega (arith, near_count (continuation_len b) (lead_bits b) bs (lead_near b))

-- ---- both counts

mutual
  pub values_counted : (d : Data) → values_in d ≤ size d
  values_counted null = omega arith
  values_counted (boolean b) = omega arith
  values_counted (number n) = omega arith
  values_counted (string s) = omega arith
  values_counted (array ds) = omega (arith, items_counted ds)
  values_counted (object ms) = omega (arith, members_counted ms)

  items_counted : (ds : Items) → values_in_items ds ≤ items_size ds
  items_counted no_items = omega arith
  items_counted (item d ds) = omega (arith, values_counted d, items_counted ds)

  members_counted : (ms : Members) → values_in_members ms ≤ members_size ms
  members_counted no_members = omega arith
  members_counted (member k d ms) = omega (arith, values_counted d, members_counted ms)

mutual
  pub units_counted : (d : Data) → units_in d ≤ size d
  units_counted null = omega arith
  units_counted (boolean b) = omega arith
  units_counted (number n) = omega arith
  units_counted (string s) = omega (arith, units_count s)
  units_counted (array ds) = omega (arith, item_units_counted ds)
  units_counted (object ms) = omega (arith, member_units_counted ms)

  item_units_counted : (ds : Items) → units_in_items ds ≤ items_size ds
  item_units_counted no_items = omega arith
  item_units_counted (item d ds) = omega (arith, units_counted d, item_units_counted ds)

  member_units_counted : (ms : Members) → units_in_members ms ≤ members_size ms
  member_units_counted no_members = omega arith
  member_units_counted (member k d ms) = omega (arith, units_count k, units_counted d, member_units_counted ms)

pub values_of_text : (text : List ℕ) (d : Data) → read text ≡ Some d → values_in d ≤ length text
values_of_text text d e = omega (arith, read_size text d e, values_counted d)

pub units_of_text : (text : List ℕ) (d : Data) → read text ≡ Some d → units_in d ≤ length text
units_of_text text d e = omega (arith, read_size text d e, units_counted d)

pub bytes_fit : (bytes : List ℕ) (d : Data) → length bytes ≤ 16777216 → read bytes ≡ Some d → Fits d
bytes_fit bytes d small e = record { values = omega (arith, values_of_text bytes d e); units = omega (arith, units_of_text bytes d e) }
