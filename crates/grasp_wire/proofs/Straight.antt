-- Items that lead bytes, one after another.
use Rattle.std.proofs.Common.{◌≡◌, ℕ, ◌+◌, ◌-◌, ◌<◌, ◌≤◌, ◌^◌, List, [], ◌∷◌, ◌++◌, length, map, take, drop, inl, refl, sym, ap, subst, ◌∙◌, append_assoc, arith}
use Rattle.std.specs.Prelude.{All}
use Rattle.std.proofs.lemmas.List.{length-append, length-take, length-take-le, map-append, take-take, take_at}
use Rattle.std.proofs.lemmas.List.Elements.{All-push}
use Rattle.grasp_cbor.specs.Bytes.{AllBytes}
use Rattle.grasp_cbor.specs.DataItem.{DataItem, unsigned, byte_string, text_string, array_of, data_items, depth_of}
use Rattle.grasp_cbor.specs.Encodes.{Encodes, IsEncoding, AreEncodings}
use Rattle.grasp_cbor.specs.Head.{IsHead}
use Rattle.grasp_cbor.specs.Leading.{Leads, LeadsArray, LeadsBytes, LeadsText}
use Rattle.grasp_cbor.proofs.Counts.{item_count-data_items}
use Rattle.grasp_cbor.proofs.Encoded.{IsEncodable-encoding}
use Rattle.grasp_cbor.proofs.HeadBytes.{AllBytes-front}
use Rattle.grasp_types.specs.Message.{item_of, IsMessage}
use Rattle.grasp_types.specs.Objective.{IsValue}
use Rattle.grasp_types.specs.declared.message.Message.{Message}
use Rattle.grasp_types.proofs.Depths.{message_depth}
use Rattle.grasp_wire.specs.Wire.{IsWireForm}
use Rattle.grasp_wire.specs.Direct.{LeadAll, EndsKind, IsDirect}

-- ---- strings

pub bytes_lead : (content bytes rest : List ℕ) → LeadsBytes content bytes rest → Leads (byte_string content) bytes rest
bytes_lead content bytes rest h = record { front = h.front; encoding = inl h.string; parts = h.parts }

pub text_leads : (content bytes rest : List ℕ) → LeadsText content bytes rest → Leads (text_string content) bytes rest
text_leads content bytes rest h = record { front = h.front; encoding = inl h.string; parts = h.parts }

-- ---- arrays

-- the encodings and the rest
record AreFront (ts : List DataItem) (bytes rest : List ℕ) : Type 0 where
  front : List ℕ
  encodings : AreEncodings (data_items ts) front
  parts : bytes ≡ front ++ rest

fronts : (ts : List DataItem) (bytes rest : List ℕ) → LeadAll ts bytes rest → AreFront ts bytes rest
fronts [] bytes rest h = record { front = []; encodings = refl; parts = h }
fronts (t ∷ ts) bytes rest h =
    let first = h.1 in
    let more = fronts ts h.0 rest h.2 in
    record {
      front = first.front ++ more.front;
      encodings = (first.front, more.front, first.encoding, more.encodings, refl);
      parts = first.parts ∙ ap (λ s. first.front ++ s) more.parts ∙ sym (append_assoc first.front more.front rest);
    }

-- a head and as many items are an array
pub array_leads : (ts : List DataItem) (count : ℕ) (bytes middle rest : List ℕ) → count ≡ length ts → LeadsArray count bytes middle → LeadAll ts middle rest → Leads (array_of ts) bytes rest
array_leads ts count bytes middle rest e h all =
    let more = fronts ts middle rest all in
    record {
      front = h.head ++ more.front;
      encoding = inl (h.head, more.front, subst (λ n. IsHead 4 n h.head) (e ∙ sym (item_count-data_items ts)) h.opens, more.encodings, refl);
      parts = h.parts ∙ ap (λ s. h.head ++ s) more.parts ∙ sym (append_assoc h.head more.front rest);
    }

-- behind the head and the first number
pub kind_ends : (kind : ℕ) (ts : List DataItem) (count : ℕ) (bytes rest : List ℕ) → count ≡ length ts + 1 → LeadAll ts bytes rest → EndsKind count kind (array_of (unsigned kind ∷ ts)) bytes rest
kind_ends kind ts count bytes rest e all = λ whole middle h k. array_leads (unsigned kind ∷ ts) count whole middle rest (omega (arith, e)) h (bytes, k, all)

-- some items and then others
pub both_lead : (ts us : List DataItem) (bytes middle rest : List ℕ) → LeadAll ts bytes middle → LeadAll us middle rest → LeadAll (ts ++ us) bytes rest
both_lead [] us bytes middle rest h more = subst (λ s. LeadAll us s rest) (sym h) more
both_lead (t ∷ ts) us bytes middle rest h more = (h.0, h.1, both_lead ts us h.0 middle rest h.2 more)

-- ---- lists

-- so many values were read, one after another
pub record AreRead {X : Type 0} (item : X → DataItem) (P : X → Type 0) (xs : List X) (count : ℕ) (bytes rest : List ℕ) : Type 0 where
  pub leads : LeadAll (map item xs) bytes rest
  pub each : All P xs
  pub counted : length xs ≡ count

-- one more
pub one_more_read : {X : Type 0} (item : X → DataItem) (P : X → Type 0) (xs : List X) (x : X) (count : ℕ) (bytes middle rest : List ℕ) → AreRead item P xs count bytes middle → Leads (item x) middle rest → P x
    → AreRead item P (xs ++ x ∷ []) (count + 1) bytes rest
one_more_read item P xs x count bytes middle rest so_far h p = record {
  leads = subst (λ ts. LeadAll ts bytes rest) (sym (map-append item xs (x ∷ []))) (both_lead (map item xs) (item x ∷ []) bytes middle rest so_far.leads (rest, h, refl));
  each = All-push P xs x so_far.each p;
  counted = omega (arith, so_far.counted, length-append xs (x ∷ []));
}

-- ---- values and messages

pub value_leads : (t : DataItem) (bytes rest : List ℕ) → AllBytes bytes → length bytes < 2 ^ 64 → depth_of t ≤ 13 → Leads t bytes rest → IsValue t
value_leads t bytes rest all few within h =
    let l = ap length h.parts in
    record {
      within = within;
      encodable = IsEncodable-encoding t h.front (record {
        bytes = AllBytes-front h.front rest (subst AllBytes h.parts all);
        few = omega (arith, l, length-append h.front rest);
      }) h.encoding;
    }

-- the rest is no longer than the bytes
pub rest_within : (t : DataItem) (bytes rest : List ℕ) → Leads t bytes rest → length rest ≤ length bytes
rest_within t bytes rest h = omega (arith, ap length h.parts, length-append h.front rest)

pub direct_is : (m : Message) (bytes rest : List ℕ) (used : ℕ) → IsMessage m → Leads (item_of m) bytes rest → used + length rest ≡ length bytes → IsDirect m bytes used
direct_is m bytes rest used is h e =
    let l = ap length h.parts in
    let n : length h.front ≡ used = omega (arith, l, length-append h.front rest) in
    let front : take used bytes ≡ h.front = ap (take used) h.parts ∙ take_at h.front rest used n in
    record {
      is_message = is;
      encodes = record { encoding = subst (λ s. IsEncoding (item_of m) s) (sym front) h.encoding; within = message_depth m is };
      inside = omega arith;
    }

-- a message at the front of the first so many bytes that are kept
pub kept_form : (m : Message) (view held : List ℕ) (start end limit used : ℕ) → view ≡ held → end ≤ start + limit → IsDirect m (take (end - start) (drop start view)) used
    → IsWireForm m (take used (drop start held)) limit × (used ≤ length (drop start held))
kept_form m view held start end limit used same few h =
    let d : IsDirect m (take (end - start) (drop start held)) used = subst (λ s. IsDirect m (take (end - start) (drop start s)) used) same h in
    let inside = d.inside in
    let l = length-take (end - start) (drop start held) in
    let room : used ≤ end - start = omega (arith, inside, l) in
    let whole : used ≤ length (drop start held) = omega (arith, inside, l) in (
      record {
        is_message = d.is_message;
        encodes = subst (λ s. Encodes (item_of m) s) (take-take used (end - start) (drop start held) room) d.encodes;
        fits = omega (arith, room, few, length-take-le used (drop start held) whole);
      },
      whole,
    )
