-- The line of a message behind the head of its array and the number of its kind.
use Rattle.std.proofs.Common.{◌≡◌, ℕ, ◌+◌, ◌<◌, ◌≤◌, ◌^◌, List, [], ◌∷◌, ◌++◌, length, map, codes, decimal, refl, sym, subst, append-nil, arith}
use Rattle.std.specs.Prelude.{Some, None, option_map}
use Rattle.std.specs.Str.{IsUtf8}
use Rattle.std.proofs.lemmas.List.{length-append, length-map}
use Rattle.grasp_cbor.specs.DataItem.{DataItem, unsigned, text_string, array_of}
use Rattle.grasp_cbor.specs.Leading.{Leads, LeadsArray}
use Rattle.grasp_types.specs.Address.{address_item, IsAddress}
use Rattle.grasp_types.specs.Message.{answer_items, flood_part_item, item_of, verdict_item, IsMessage, IsFloodPart, IsVerdict}
use Rattle.grasp_types.specs.Objective.{optional, objective_item, IsObjective}
use Rattle.grasp_types.specs.declared.message.Message.{Message}
use Rattle.grasp_types.specs.declared.message.Message.TheVariants.{Noop, Discovery, Response, ReqNeg, ReqSyn, Negotiate, End, Wait, Synch, Flood, Invalid}
use Rattle.grasp_types.specs.declared.message.Verdict.TheVariants.{Accept, Decline}
use Rattle.grasp_text.specs.Line.{address_word, text_word, objective_words, optional_objective_words, answer_words, all_flood_part_words, verdict_words, or_dash, value_word}
use Rattle.grasp_text.specs.Words.{spaced}
use Rattle.grasp_text.specs.Writing.{line_name, words_behind_name}
use Rattle.grasp_text.proofs.Pushed.{some_pushed, line_appended}
use Rattle.grasp_wire.specs.Direct.{LeadAll, EndsKind}
use Rattle.grasp_wire.proofs.Straight.{kind_ends, both_lead}
use Rattle.grasp_quick.specs.Spelled.{Spells, SpellsKind, SpellsMany, SpellsLast, SpellsLastObjective, SpellsAnswer, SpellsTold, EndsLine, SpellsLine}
use Rattle.grasp_quick.proofs.Sequence.{alone, before}

-- a number of 32 bits
abbrev pub Number : List ℕ → List ℕ → List ℕ → List ℕ → Type 0
Number bytes rest old new = Spells unsigned (λ n. n ≤ 4294967295) (λ n. decimal n ∷ []) bytes rest old new

-- an address
abbrev pub Addressed : List ℕ → List ℕ → List ℕ → List ℕ → Type 0
Addressed bytes rest old new = Spells address_item IsAddress (λ a. address_word a ∷ []) bytes rest old new

wide : (n : ℕ) → n ≤ 4294967295 → n < 2 ^ 32
wide n h = omega (arith, h)

-- ---- verdicts

pub accepted : (count : ℕ) (bytes old new : List ℕ) → count ≡ 1 → new ≡ old ++ 32 ∷ codes "accept" → SpellsKind count 101 verdict_item IsVerdict verdict_words bytes bytes old new
accepted count bytes old new e q = record { value = Accept; ends = kind_ends 101 [] count bytes bytes (omega (arith, e)) refl; is_one = tt; spelled = q }

pub declined : (count : ℕ) (bytes old new : List ℕ) → count ≡ 1 → new ≡ old ++ 32 ∷ codes "decline" → SpellsKind count 102 verdict_item IsVerdict verdict_words bytes bytes old new
declined count bytes old new e q = record { value = Decline None; ends = kind_ends 102 [] count bytes bytes (omega (arith, e)) refl; is_one = tt; spelled = q }

pub declined_for : (count : ℕ) (bytes rest old middle new : List ℕ) → count ≡ 2 → middle ≡ old ++ 32 ∷ codes "decline" → Spells text_string IsUtf8 (λ t. text_word t ∷ []) bytes rest middle new
    → SpellsKind count 102 verdict_item IsVerdict verdict_words bytes rest old new
declined_for count bytes rest old middle new e p reason = record {
  value = Decline (Some reason.value);
  ends = kind_ends 102 (text_string reason.value ∷ []) count bytes rest (omega (arith, e)) (rest, reason.leads, refl);
  is_one = reason.is_one;
  spelled = some_pushed old middle new (codes "decline" ∷ []) (text_word reason.value ∷ []) p reason.spelled;
}

-- a part of which the head and the number lead the bytes
pub headed : {X : Type 0} (count kind : ℕ) (item : X → DataItem) (is : X → Type 0) (words : X → List (List ℕ)) (bytes a b rest old new : List ℕ) → LeadsArray count bytes a → Leads (unsigned kind) a b
    → SpellsKind count kind item is words b rest old new → Spells item is words bytes rest old new
headed count kind item is words bytes a b rest old new head number h = record { value = h.value; leads = h.ends bytes a head number; is_one = h.is_one; spelled = h.spelled }

-- ---- lines

pub whole_line : (count kind : ℕ) (bytes a b rest old new : List ℕ) → LeadsArray count bytes a → Leads (unsigned kind) a b → EndsLine count kind b rest old new → SpellsLine bytes rest old new
whole_line count kind bytes a b rest old new head number h = record { message = h.message; leads = h.ends bytes a head number; is_message = h.is_message; spelled = h.spelled }

line_ended : (m : Message) (kind : ℕ) (ts : List DataItem) (count : ℕ) (bytes rest old middle new name : List ℕ) → item_of m ≡ array_of (unsigned kind ∷ ts) → count ≡ length ts + 1 → LeadAll ts bytes rest → IsMessage m
    → middle ≡ old ++ name → name ≡ line_name m → new ≡ middle ++ spaced (words_behind_name m) → EndsLine count kind bytes rest old new
line_ended m kind ts count bytes rest old middle new name item counts all is p q r = record {
  message = m;
  ends = subst (λ t. EndsKind count kind t bytes rest) (sym item) (kind_ends kind ts count bytes rest counts all);
  is_message = is;
  spelled = line_appended m old middle new name p q r;
}

pub noop_line : (count : ℕ) (bytes old new : List ℕ) → count ≡ 1 → new ≡ old ++ codes "noop" → EndsLine count 0 bytes bytes old new
noop_line count bytes old new e p = line_ended Noop 0 [] count bytes bytes old new new (codes "noop") refl (omega (arith, e)) refl tt p refl (sym (append-nil new))

pub discovery_line : (count : ℕ) (bytes a b rest old l0 l1 l2 new : List ℕ) → count ≡ 4 → l0 ≡ old ++ codes "discovery" → Number bytes a l0 l1 → Addressed a b l1 l2
    → Spells objective_item IsObjective objective_words b rest l2 new → EndsLine count 1 bytes rest old new
discovery_line count bytes a b rest old l0 l1 l2 new e p session initiator objective =
    let all = before _ _ _ _ _ _ bytes a rest l0 l1 new session (before _ _ _ _ _ _ a b rest l1 l2 new initiator (alone _ _ _ b rest l2 new objective)) in
    line_ended (Discovery session.value initiator.value objective.value) 1 (unsigned session.value ∷ address_item initiator.value ∷ objective_item objective.value ∷ []) count bytes rest old l0 new (codes "discovery")
    refl (omega (arith, e)) all.lead (wide session.value session.is_one, initiator.is_one, objective.is_one) p refl all.spelled

pub told_parts : (count : ℕ) (bytes a rest old l1 new : List ℕ) → count ≡ 3 → Number bytes a old l1 → Spells objective_item IsObjective objective_words a rest l1 new → SpellsTold count bytes rest old new
told_parts count bytes a rest old l1 new e session objective =
    let all = before _ _ _ _ _ _ bytes a rest old l1 new session (alone _ _ _ a rest l1 new objective) in
    record { session = session.value; objective = objective.value; lead = all.lead; counts = e; few = wide session.value session.is_one; whole = objective.is_one; spelled = all.spelled }

pub req_neg_line : (count : ℕ) (bytes rest old l0 new : List ℕ) → l0 ≡ old ++ codes "request-neg" → SpellsTold count bytes rest l0 new → EndsLine count 3 bytes rest old new
req_neg_line count bytes rest old l0 new p h =
    line_ended (ReqNeg h.session h.objective) 3 (unsigned h.session ∷ objective_item h.objective ∷ []) count bytes rest old l0 new (codes "request-neg") refl (omega (arith, h.counts)) h.lead (h.few, h.whole) p refl h.spelled

pub req_syn_line : (count : ℕ) (bytes rest old l0 new : List ℕ) → l0 ≡ old ++ codes "request-syn" → SpellsTold count bytes rest l0 new → EndsLine count 4 bytes rest old new
req_syn_line count bytes rest old l0 new p h =
    line_ended (ReqSyn h.session h.objective) 4 (unsigned h.session ∷ objective_item h.objective ∷ []) count bytes rest old l0 new (codes "request-syn") refl (omega (arith, h.counts)) h.lead (h.few, h.whole) p refl h.spelled

pub negotiate_line : (count : ℕ) (bytes rest old l0 new : List ℕ) → l0 ≡ old ++ codes "negotiate" → SpellsTold count bytes rest l0 new → EndsLine count 5 bytes rest old new
negotiate_line count bytes rest old l0 new p h =
    line_ended (Negotiate h.session h.objective) 5 (unsigned h.session ∷ objective_item h.objective ∷ []) count bytes rest old l0 new (codes "negotiate") refl (omega (arith, h.counts)) h.lead (h.few, h.whole) p refl h.spelled

pub synch_line : (count : ℕ) (bytes rest old l0 new : List ℕ) → l0 ≡ old ++ codes "synch" → SpellsTold count bytes rest l0 new → EndsLine count 8 bytes rest old new
synch_line count bytes rest old l0 new p h =
    line_ended (Synch h.session h.objective) 8 (unsigned h.session ∷ objective_item h.objective ∷ []) count bytes rest old l0 new (codes "synch") refl (omega (arith, h.counts)) h.lead (h.few, h.whole) p refl h.spelled

pub end_line : (count : ℕ) (bytes a rest old l0 l1 new : List ℕ) → count ≡ 3 → l0 ≡ old ++ codes "end" → Number bytes a l0 l1 → Spells verdict_item IsVerdict verdict_words a rest l1 new → EndsLine count 6 bytes rest old new
end_line count bytes a rest old l0 l1 new e p session verdict =
    let all = before _ _ _ _ _ _ bytes a rest l0 l1 new session (alone _ _ _ a rest l1 new verdict) in
    line_ended (End session.value verdict.value) 6 (unsigned session.value ∷ verdict_item verdict.value ∷ []) count bytes rest old l0 new (codes "end") refl (omega (arith, e)) all.lead
    (wide session.value session.is_one, verdict.is_one) p refl all.spelled

pub wait_line : (count : ℕ) (bytes a rest old l0 l1 new : List ℕ) → count ≡ 3 → l0 ≡ old ++ codes "wait" → Number bytes a l0 l1 → Number a rest l1 new → EndsLine count 7 bytes rest old new
wait_line count bytes a rest old l0 l1 new e p session millis =
    let all = before _ _ _ _ _ _ bytes a rest l0 l1 new session (alone _ _ _ a rest l1 new millis) in
    line_ended (Wait session.value millis.value) 7 (unsigned session.value ∷ unsigned millis.value ∷ []) count bytes rest old l0 new (codes "wait") refl (omega (arith, e)) all.lead
    (wide session.value session.is_one, wide millis.value millis.is_one) p refl all.spelled

pub invalid_line : (count : ℕ) (bytes a rest old l0 l1 new : List ℕ) → l0 ≡ old ++ codes "invalid" → Number bytes a l0 l1 → SpellsLast count 2 a rest l1 new → EndsLine count 99 bytes rest old new
invalid_line count bytes a rest old l0 l1 new p session detail =
    line_ended (Invalid session.value detail.value) 99 (unsigned session.value ∷ optional detail.value) count bytes rest old l0 new (codes "invalid") refl (omega (arith, detail.counts))
    (a, session.leads, detail.leads) (wide session.value session.is_one, detail.is_one) p refl
    (some_pushed l0 l1 new (decimal session.value ∷ []) (or_dash value_word detail.value ∷ []) session.spelled detail.spelled)

pub flood_line : (count left : ℕ) (bytes a b c rest old l0 l1 l2 l3 new : List ℕ) → count ≡ 4 + left → 1 ≤ left → l0 ≡ old ++ codes "flood" → Number bytes a l0 l1 → Addressed a b l1 l2 → Number b c l2 l3
    → SpellsMany flood_part_item IsFloodPart all_flood_part_words left c rest l3 new → EndsLine count 9 bytes rest old new
flood_line count left bytes a b c rest old l0 l1 l2 l3 new e some p session initiator ttl parts =
    let front = before _ _ _ _ _ _ bytes a c l0 l1 l3 session (before _ _ _ _ _ _ a b c l1 l2 l3 initiator (alone _ _ _ b c l2 l3 ttl)) in
    line_ended (Flood session.value initiator.value ttl.value parts.values) 9
    (unsigned session.value ∷ address_item initiator.value ∷ unsigned ttl.value ∷ map flood_part_item parts.values) count bytes rest old l0 new (codes "flood") refl
    (omega (arith, e, length-map parts.values flood_part_item, parts.counted)) (a, session.leads, (b, initiator.leads, (c, ttl.leads, parts.lead)))
    (wide session.value session.is_one, initiator.is_one, wide ttl.value ttl.is_one, record { some = omega (arith, some, parts.counted); each = parts.each }) p refl
    (some_pushed l0 l3 new (decimal session.value ∷ address_word initiator.value ∷ decimal ttl.value ∷ []) (all_flood_part_words parts.values) front.spelled parts.spelled)

pub response_line : (count left used : ℕ) (bytes a b c d rest old l0 l1 l2 l3 l4 new : List ℕ) → count ≡ 4 + left → l0 ≡ old ++ codes "response" → Number bytes a l0 l1 → Addressed a b l1 l2 → Number b c l2 l3
    → SpellsAnswer used c d l3 l4 → SpellsLastObjective left used d rest l4 new → EndsLine count 2 bytes rest old new
response_line count left used bytes a b c d rest old l0 l1 l2 l3 l4 new e p session initiator ttl answer objective =
    let front = before _ _ _ _ _ _ bytes a c l0 l1 l3 session (before _ _ _ _ _ _ a b c l1 l2 l3 initiator (alone _ _ _ b c l2 l3 ttl)) in
    let items = answer_items answer.value in
    let others = optional (option_map objective_item objective.value) in
    let behind = some_pushed l3 l4 new (answer_words answer.value) (optional_objective_words objective.value) answer.spelled objective.spelled in
    line_ended (Response session.value initiator.value ttl.value answer.value objective.value) 2
    (unsigned session.value ∷ address_item initiator.value ∷ unsigned ttl.value ∷ (items ++ others)) count bytes rest old l0 new (codes "response") refl
    (omega (arith, e, length-append items others, answer.counted, objective.counts))
    (a, session.leads, (b, initiator.leads, (c, ttl.leads, both_lead items others c d rest answer.lead objective.leads)))
    (wide session.value session.is_one, initiator.is_one, wide ttl.value ttl.is_one, answer.is_one, objective.is_one) p refl
    (some_pushed l0 l3 new (decimal session.value ∷ address_word initiator.value ∷ decimal ttl.value ∷ []) (answer_words answer.value ++ optional_objective_words objective.value) front.spelled behind)
