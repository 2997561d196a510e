-- The words of a message are of visible characters: none holds a blank, so a line has its message's words.
use Rattle.std.proofs.Common.{◌≡◌, ℕ, suc, ◌/◌, ◌%◌, ◌^◌, ◌<◌, ◌≤◌, Bool, true, false, cond, not, ◌&&◌, eqb, leb, List, [], ◌∷◌, ◌++◌, length, get_or, Option, Some, None, refl, sym, ap, subst, ◌∙◌, arith}
use Rattle.std.specs.List.{AllByRecursion}
use Rattle.std.specs.Prelude.{IfSome, codes, decimal, slice_index, All}
use Rattle.std.specs.Int.{to_be_bytes, w32, w128}
use Rattle.std.specs.Str.{IsUtf8}
use Rattle.std.proofs.lemmas.Bool.{ne_eqb, and_parts, le-leb, leb-true, and_from}
use Rattle.std.proofs.lemmas.List.Elements.{All-from_recursion, All-head, All-tail}
use Rattle.std.proofs.lemmas.List.Splits.{slice_split_none, slice_split_at}
use Rattle.hex.specs.Hex.{encode_with, encode_lower, lower_digits}
use Rattle.grasp_cbor.specs.Bytes.{AllBytes}
use Rattle.grasp_cbor.specs.DataItem.{DataItem}
use Rattle.grasp_cbor.specs.Shortest.{shortest}
use Rattle.grasp_cbor.proofs.HeadBytes.{AllBytes-from}
use Rattle.grasp_cbor.proofs.ShortestBytes.{shortest_bytes}
use Rattle.grasp_types.specs.Address.{IsLocator}
use Rattle.grasp_types.specs.Message.{IsMessage, IsFloodPart, IsVerdict}
use Rattle.grasp_types.specs.Objective.{IsObjective, IsValue}
use Rattle.grasp_types.specs.declared.address.Address.{Address}
use Rattle.grasp_types.specs.declared.address.Address.TheVariants as address
use Rattle.grasp_types.specs.declared.address.Locator.{Locator}
use Rattle.grasp_types.specs.declared.address.Locator.TheVariants.{V6, V4, Fqdn, Uri}
use Rattle.grasp_types.specs.declared.address.Proto.{Proto}
use Rattle.grasp_types.specs.declared.address.Proto.TheVariants.{Tcp, Udp}
use Rattle.grasp_types.specs.declared.flood.FloodPart.{FloodPart}
use Rattle.grasp_types.specs.declared.message.Answer.TheVariants.{Locators, Divert}
use Rattle.grasp_types.specs.declared.message.Message.{Message}
use Rattle.grasp_types.specs.declared.message.Message.TheVariants.{Noop, Discovery, Response, ReqNeg, ReqSyn, Negotiate, End, Wait, Synch, Flood, Invalid}
use Rattle.grasp_types.specs.declared.message.Verdict.{Verdict}
use Rattle.grasp_types.specs.declared.message.Verdict.TheVariants.{Accept, Decline}
use Rattle.grasp_types.specs.declared.objective.Objective.{Objective}
use Rattle.grasp_text.specs.Laws.{IsPrintable, LinesArePrintable}
use Rattle.grasp_text.specs.Line.{v4_word, v6_word, address_word, escaped, all_escaped, text_word, value_word, or_dash, proto_word, locator_words, all_locator_words, objective_words, optional_objective_words, verdict_words, locator_or_none, flood_part_words, all_flood_part_words, message_words, line_of}
use Rattle.grasp_text.specs.Reading.{is_plain}
use Rattle.grasp_text.specs.Words.{words_of, joined}
use Rattle.grasp_text.proofs.HexWords.{wide32, wide128}
use Rattle.grasp_text.proofs.Leaves.{AreBytes, text_bytes}
use Rattle.grasp_text.proofs.MessageLaws.{message_all, message_name, message_tail}
use Rattle.grasp_text.proofs.NumberWords.{number_digit, number_digit_most}
use Rattle.grasp_text.proofs.SpelledWords.{name_word}

-- a byte from 21 to 7e
abbrev pub is_visible : ℕ → Bool
is_visible c = leb 33 c && leb c 126

pub all_visible : List ℕ → Bool
all_visible [] = true
all_visible (c ∷ w) = is_visible c && all_visible w

-- a word of visible characters
pub record Visible (w : List ℕ) : Type 0 where
  pub all : all_visible w ≡ true

visible_byte : (c : ℕ) → 33 ≤ c → c ≤ 126 → is_visible c ≡ true
visible_byte c p q = and_from (leb 33 c) (leb c 126) (le-leb 33 c p) (le-leb c 126 q)

visible_cons : (c : ℕ) (w : List ℕ) → is_visible c ≡ true → Visible w → Visible (c ∷ w)
unfolding all_visible
visible_cons c w e h = record { all = and_from (is_visible c) (all_visible w) e h.all }

visible_nil : Visible []
unfolding all_visible
visible_nil = record { all = refl }

visible_append_at : (a b : List ℕ) → all_visible a ≡ true → Visible b → Visible (a ++ b)
unfolding all_visible
visible_append_at [] b p q = q
visible_append_at (c ∷ a) b p q =
    let h = and_parts (is_visible c) (all_visible a) p in
    let r = visible_append_at a b h.1 q in
    record { all = and_from (is_visible c) (all_visible (a ++ b)) h.0 r.all }

visible_append : (a b : List ℕ) → Visible a → Visible b → Visible (a ++ b)
visible_append a b p q = visible_append_at a b p.all q

by_bytes : (w : List ℕ) → ((i : ℕ) → i < length w → (33 ≤ get_or w i 0) × (get_or w i 0 ≤ 126)) → Visible w
by_bytes [] h = visible_nil
by_bytes (c ∷ w) h = let f = h 0 (omega arith) in visible_cons c w (visible_byte c f.0 f.1) (by_bytes w (λ i lt. h (suc i) (omega arith)))

number_visible : (n : ℕ) → n < 2 ^ 64 → Visible (decimal n)
number_visible n lt = by_bytes (decimal n) (λ i inside. let d = number_digit n i lt inside in let u = number_digit_most n i lt inside in (omega arith, omega arith))

digit_visible : (d : ℕ) → d < 16 → is_visible (slice_index lower_digits d) ≡ true
digit_visible (suc (suc (suc (suc (suc (suc (suc (suc (suc (suc (suc (suc (suc (suc (suc (suc n)))))))))))))))) lt = absurd (omega arith)
digit_visible _ lt = refl

pub hex_visible : (bytes : List ℕ) → AllBytes bytes → Visible (encode_lower bytes)
unfolding encode_with
hex_visible [] h = visible_nil
hex_visible (b ∷ bytes) h =
    let small : b < 256 = h.0 in
    visible_cons (slice_index lower_digits (b / 16)) _ (digit_visible (b / 16) (omega arith)) (visible_cons (slice_index lower_digits (b % 16)) _ (digit_visible (b % 16) (omega arith)) (hex_visible bytes h.1))

pub v4_visible : (n : ℕ) → Visible (v4_word n)
v4_visible n = hex_visible (to_be_bytes w32 n) (AllBytes-from (to_be_bytes w32 n) (wide32.small n))

pub v6_visible : (n : ℕ) → Visible (v6_word n)
v6_visible n = hex_visible (to_be_bytes w128 n) (AllBytes-from (to_be_bytes w128 n) (wide128.small n))

escaped_visible_at : (b : ℕ) (p : Bool) → b < 256 → is_plain b ≡ p → Visible (cond p (b ∷ []) (37 ∷ slice_index lower_digits (b / 16) ∷ slice_index lower_digits (b % 16) ∷ []))
escaped_visible_at b false small e =
    visible_cons 37 _ refl (visible_cons (slice_index lower_digits (b / 16)) _ (digit_visible (b / 16) (omega arith)) (visible_cons (slice_index lower_digits (b % 16)) _ (digit_visible (b % 16) (omega arith)) visible_nil))
escaped_visible_at b true small e = let p = and_parts (leb 33 b && leb b 126) (not (eqb b 37)) e in visible_cons b [] p.0 visible_nil

all_escaped_visible : (bytes : List ℕ) → AreBytes bytes → Visible (all_escaped bytes)
all_escaped_visible [] h = visible_nil
all_escaped_visible (b ∷ bytes) h = visible_append (escaped b) (all_escaped bytes) (escaped_visible_at b (is_plain b) h.0 refl) (all_escaped_visible bytes h.1)

text_visible : (bytes : List ℕ) → IsUtf8 bytes → Visible (text_word bytes)
text_visible bytes u = visible_cons 39 (all_escaped bytes) refl (all_escaped_visible bytes (text_bytes bytes u))

value_visible : (item : DataItem) → IsValue item → Visible (value_word item)
value_visible item v = visible_cons 120 (encode_lower (shortest item)) refl (hex_visible (shortest item) (shortest_bytes item v.encodable))

spelled_visible : (w : List ℕ) → all_visible w ≡ true → Visible w
spelled_visible w e = record { all = e }

dash_visible : Visible (codes "-")
unfolding all_visible
dash_visible = spelled_visible (codes "-") refl

maybe_value_visible : (v : Option DataItem) → IfSome v IsValue → Visible (or_dash value_word v)
maybe_value_visible None h = dash_visible
maybe_value_visible (Some v) h = value_visible v h

proto_visible : (p : Proto) → Visible (proto_word p)
unfolding all_visible
proto_visible Tcp = spelled_visible (codes "tcp") refl
proto_visible Udp = spelled_visible (codes "udp") refl

maybe_proto_visible : (p : Option Proto) → Visible (or_dash proto_word p)
maybe_proto_visible None = dash_visible
maybe_proto_visible (Some p) = proto_visible p

maybe_port_visible : (p : Option ℕ) → IfSome p (λ n. n < 2 ^ 16) → Visible (or_dash decimal p)
maybe_port_visible None h = dash_visible
maybe_port_visible (Some n) h = number_visible n (omega arith)

address_visible : (a : Address) → Visible (address_word a)
address_visible (address.V4 n) = v4_visible n
address_visible (address.V6 n) = v6_visible n

-- ---- all words of a part

abbrev pub AreVisible : List (List ℕ) → Type 0
AreVisible ws = AllByRecursion Visible ws

both_visible : (xs ys : List (List ℕ)) → AreVisible xs → AreVisible ys → AreVisible (xs ++ ys)
both_visible [] ys p q = q
both_visible (x ∷ xs) ys p q = (p.0, both_visible xs ys p.1 q)

objective_visible : (o : Objective) → IsObjective o → AreVisible (objective_words o)
unfolding all_visible
objective_visible o h =
    let flags : o.flags ≤ 15 = h.flags in
    let loops : o.loops < 2 ^ 8 = h.loops in
    (spelled_visible (codes "obj") refl, (text_visible o.name h.name, (number_visible o.flags (omega arith), (number_visible o.loops (omega arith), (maybe_value_visible o.value h.value, tt)))))

optional_objective_visible : (o : Option Objective) → IfSome o IsObjective → AreVisible (optional_objective_words o)
optional_objective_visible None h = tt
optional_objective_visible (Some o) h = objective_visible o h

locator_visible : (l : Locator) → IsLocator l → AreVisible (locator_words l)
unfolding all_visible
locator_visible (V6 n proto port) h = let p : port < 2 ^ 16 = h.1 in (spelled_visible (codes "v6") refl, (v6_visible n, (proto_visible proto, (number_visible port (omega arith), tt))))
locator_visible (V4 n proto port) h = let p : port < 2 ^ 16 = h.1 in (spelled_visible (codes "v4") refl, (v4_visible n, (proto_visible proto, (number_visible port (omega arith), tt))))
locator_visible (Fqdn name proto port) h = let p : port < 2 ^ 16 = h.1 in (spelled_visible (codes "fqdn") refl, (text_visible name h.0, (proto_visible proto, (number_visible port (omega arith), tt))))
locator_visible (Uri text proto port) h = (spelled_visible (codes "uri") refl, (text_visible text h.0, (maybe_proto_visible proto, (maybe_port_visible port h.1, tt))))

locators_visible : (ls : List Locator) → All IsLocator ls → AreVisible (all_locator_words ls)
locators_visible [] h = tt
locators_visible (l ∷ ls) h = both_visible (locator_words l) (all_locator_words ls) (locator_visible l (All-head IsLocator l ls h)) (locators_visible ls (All-tail IsLocator l ls h))

maybe_locator_visible : (l : Option Locator) → IfSome l IsLocator → AreVisible (locator_or_none l)
unfolding all_visible
maybe_locator_visible None h = (spelled_visible (codes "none") refl, tt)
maybe_locator_visible (Some l) h = locator_visible l h

parts_visible : (ps : List FloodPart) → All IsFloodPart ps → AreVisible (all_flood_part_words ps)
parts_visible [] h = tt
parts_visible (p ∷ ps) h =
    let one : IsFloodPart p = All-head IsFloodPart p ps h in
    both_visible (flood_part_words p) (all_flood_part_words ps) (both_visible (objective_words p.objective) (locator_or_none p.locator) (objective_visible p.objective one.objective) (maybe_locator_visible p.locator one.locator)) (parts_visible ps (All-tail IsFloodPart p ps h))

verdict_visible : (v : Verdict) → IsVerdict v → AreVisible (verdict_words v)
unfolding all_visible
verdict_visible Accept h = (spelled_visible (codes "accept") refl, tt)
verdict_visible (Decline None) h = (spelled_visible (codes "decline") refl, tt)
verdict_visible (Decline (Some reason)) h = (spelled_visible (codes "decline") refl, (text_visible reason h, tt))

session_visible : (n : ℕ) → n < 2 ^ 32 → Visible (decimal n)
session_visible n lt = number_visible n (omega arith)

message_visible : (m : Message) → IsMessage m → AreVisible (message_words m)
unfolding all_visible
message_visible Noop h = (spelled_visible (codes "noop") refl, tt)
message_visible (Discovery session initiator o) h = (spelled_visible (codes "discovery") refl, (session_visible session h.0, (address_visible initiator, objective_visible o h.2)))
message_visible (Response session initiator ttl (Locators ls) o) h = (
  spelled_visible (codes "response") refl,
  (
    session_visible session h.0,
    (
      address_visible initiator,
      (
        session_visible ttl h.2,
        (spelled_visible (codes "locators") refl, both_visible (all_locator_words ls) (optional_objective_words o) (locators_visible ls h.3.each) (optional_objective_visible o h.4)),
      ),
    ),
  ),
)
message_visible (Response session initiator ttl (Divert ls) o) h = (
  spelled_visible (codes "response") refl,
  (
    session_visible session h.0,
    (
      address_visible initiator,
      (
        session_visible ttl h.2,
        (spelled_visible (codes "divert") refl, both_visible (all_locator_words ls) (optional_objective_words o) (locators_visible ls h.3.each) (optional_objective_visible o h.4)),
      ),
    ),
  ),
)
message_visible (ReqNeg session o) h = (spelled_visible (codes "request-neg") refl, (session_visible session h.0, objective_visible o h.1))
message_visible (ReqSyn session o) h = (spelled_visible (codes "request-syn") refl, (session_visible session h.0, objective_visible o h.1))
message_visible (Negotiate session o) h = (spelled_visible (codes "negotiate") refl, (session_visible session h.0, objective_visible o h.1))
message_visible (End session v) h = (spelled_visible (codes "end") refl, (session_visible session h.0, verdict_visible v h.1))
message_visible (Wait session millis) h = (spelled_visible (codes "wait") refl, (session_visible session h.0, (session_visible millis h.1, tt)))
message_visible (Synch session o) h = (spelled_visible (codes "synch") refl, (session_visible session h.0, objective_visible o h.1))
message_visible (Flood session initiator ttl parts) h = (spelled_visible (codes "flood") refl, (session_visible session h.0, (address_visible initiator, (session_visible ttl h.2, parts_visible parts h.3.each))))
message_visible (Invalid session detail) h = (spelled_visible (codes "invalid") refl, (session_visible session h.0, (maybe_value_visible detail h.1, tt)))

-- ---- words joined and divided again

not_blank : (c : ℕ) → is_visible c ≡ true → eqb c 32 ≡ false
not_blank c e =
    let q = and_parts (leb 33 c) (leb c 126) e in
    let low : 33 ≤ c = leb-true 33 c q.0 in
    ne_eqb c 32 (λ x. omega arith)

pub each_other : (w : List ℕ) → all_visible w ≡ true → AllByRecursion (λ c. eqb c 32 ≡ false) w
unfolding all_visible
each_other [] h = tt
each_other (c ∷ w) h = let p = and_parts (is_visible c) (all_visible w) h in (not_blank c p.0, each_other w p.1)

all_other : (w : List ℕ) → Visible w → All (λ c. eqb c 32 ≡ false) w
all_other w h = All-from_recursion (λ c. eqb c 32 ≡ false) w (each_other w h.all)

words_again : (w : List ℕ) (ws : List (List ℕ)) → Visible w → AreVisible ws → words_of (joined (w ∷ ws)) ≡ w ∷ ws
words_again w [] h k = slice_split_none (λ c. eqb c 32) w (all_other w h)
words_again w (v ∷ ws) h k = slice_split_at (λ c. eqb c 32) w 32 (joined (v ∷ ws)) (all_other w h) refl ∙ ap (λ (x : List (List ℕ)). w ∷ x) (words_again v ws k.0 k.1)

words_again_at : (w : List ℕ) (ws vs : List (List ℕ)) → vs ≡ w ∷ ws → AreVisible vs → words_of (joined vs) ≡ vs
words_again_at w ws vs e h =
    let k : AreVisible (w ∷ ws) = subst AreVisible e h in
    ap (λ (x : List (List ℕ)). words_of (joined x)) e ∙ words_again w ws k.0 k.1 ∙ sym e

-- the words of a message's line are its words
pub line_words : (m : Message) → IsMessage m → words_of (line_of m) ≡ message_words m
line_words m h = let e = message_all m in words_again_at (name_word (message_name m)) (message_tail m) (message_words m) e (message_visible m h)

-- ---- what a line is made of

word_printable : (w : List ℕ) → all_visible w ≡ true → AllByRecursion IsPrintable w
unfolding all_visible
word_printable [] h = tt
word_printable (c ∷ w) h =
    let p = and_parts (is_visible c) (all_visible w) h in
    let q = and_parts (leb 33 c) (leb c 126) p.0 in
    let low : 33 ≤ c = leb-true 33 c q.0 in
    let high : c ≤ 126 = leb-true c 126 q.1 in
    ((omega arith, high), word_printable w p.1)

both_printable : (xs ys : List ℕ) → AllByRecursion IsPrintable xs → AllByRecursion IsPrintable ys → AllByRecursion IsPrintable (xs ++ ys)
both_printable [] ys p q = q
both_printable (x ∷ xs) ys p q = (p.0, both_printable xs ys p.1 q)

joined_printable : (w : List ℕ) (ws : List (List ℕ)) → Visible w → AreVisible ws → AllByRecursion IsPrintable (joined (w ∷ ws))
joined_printable w [] h k = word_printable w h.all
joined_printable w (v ∷ ws) h k = both_printable w (32 ∷ joined (v ∷ ws)) (word_printable w h.all) ((omega arith, omega arith), joined_printable v ws k.0 k.1)

printable_at : (w : List ℕ) (ws vs : List (List ℕ)) → vs ≡ w ∷ ws → AreVisible vs → AllByRecursion IsPrintable (joined vs)
printable_at w ws vs e h =
    let k : AreVisible (w ∷ ws) = subst AreVisible e h in
    subst (λ (x : List (List ℕ)). AllByRecursion IsPrintable (joined x)) (sym e) (joined_printable w ws k.0 k.1)

-- a message's line has printable characters alone
pub lines_printable : LinesArePrintable
lines_printable m h = All-from_recursion IsPrintable (line_of m) (printable_at (name_word (message_name m)) (message_tail m) (message_words m) (message_all m) (message_visible m h))
