-- The message at the front of bytes.
use Rattle.std.proofs.Common.{◌≡◌, ℕ, ◌+◌, ◌-◌, ◌≤◌, List, [], ◌∷◌, ◌++◌, length, take, drop, take-append-drop, Some, Ok, sym, ap, subst, ◌∙◌, append_assoc, append-nil, length-append, arith}
use Rattle.std.proofs.lemmas.List.{take_at, take_all, length-take}
use Rattle.grasp_cbor.specs.Encodes.{IsEncoding}
use Rattle.grasp_cbor.specs.Leading.{Leads}
use Rattle.grasp_text.specs.Line.{line_of}
use Rattle.grasp_types.specs.Message.{item_of, IsMessage}
use Rattle.grasp_types.proofs.Depths.{message_depth}
use Rattle.grasp_types.specs.declared.message.Message.{Message}
use Rattle.grasp_wire.specs.Cutter.{Past, no_past, after_feed, after_next, CountsRest, HasRest}
use Rattle.grasp_wire.specs.One.{HasTrailing, BeginsWithItem}
use Rattle.grasp_wire.specs.Stands.{Stands, cut_limit}
use Rattle.grasp_wire.specs.Wire.{IsWireForm}
use Rattle.grasp_wire.specs.declared.cutter.Cutter.{Cutter}
use Rattle.grasp_wire.proofs.Rests.{form_whole}
use Rattle.grasp_quick.specs.Spelled.{SpellsLine, ShowsFront}

-- a cutter that was fed a front of the bytes and gave a message
pub record IsCut (limit : ℕ) (m : Message) (bytes piece : List ℕ) (n : ℕ) : Type 0 where
  pub within : n ≤ length piece
  pub form : IsWireForm m (take (length piece - n) bytes) limit

pub front_cut : (limit : ℕ) (cutter : Cutter) (m : Message) (bytes piece behind : List ℕ) (n : ℕ) → bytes ≡ piece ++ behind → cut_limit cutter ≡ limit
    → Stands cutter (after_next (after_feed no_past piece) (Ok (Some m))) → ((p : Past) → Stands cutter p → CountsRest (cut_limit cutter) p p.fault n) → IsCut limit m bytes piece n
front_cut limit cutter m bytes piece behind n parts same stands counts =
    let h : HasRest (cut_limit cutter) (after_next (after_feed no_past piece) (Ok (Some m))) n = counts (after_next (after_feed no_past piece) (Ok (Some m))) stands in
    let form = h.forms.2 in
    let f = h.forms.0 in
    let front : h.front ≡ f = h.forms.4 ∙ ap (λ (x : List ℕ). f ++ x) h.forms.3 ∙ append-nil f in
    let split : piece ≡ f ++ h.rest = h.parts ∙ ap (λ (x : List ℕ). x ++ h.rest) front in
    let long = ap length split in
    let within : n ≤ length piece = omega (arith, long, length-append f h.rest, h.count_is) in
    let used : length f ≡ length piece - n = omega (arith, long, length-append f h.rest, h.count_is) in
    let whole : bytes ≡ f ++ (h.rest ++ behind) = parts ∙ ap (λ (x : List ℕ). x ++ behind) split ∙ append_assoc f h.rest behind in
    let taken : take (length piece - n) bytes ≡ f = ap (take (length piece - n)) whole ∙ take_at f (h.rest ++ behind) (length piece - n) used in
    record {
      within = within;
      form = subst (λ (l : ℕ). IsWireForm m (take (length piece - n) bytes) l) same (subst (λ (s : List ℕ). IsWireForm m s (cut_limit cutter)) (sym taken) form);
    }

-- all the bytes are a message
pub all_message : (m : Message) (bytes : List ℕ) (limit : ℕ) → IsWireForm m bytes limit → IsWireForm m (take (length bytes) bytes) limit
all_message m bytes limit h = subst (λ (s : List ℕ). IsWireForm m s limit) (sym (take_all (length bytes) bytes (omega arith))) h

-- an item begins bytes that begin with a message
pub begins_item : (bytes : List ℕ) (limit at : ℕ) → HasTrailing bytes limit at → BeginsWithItem bytes limit
begins_item bytes limit at h = let more = h.more in record { item = item_of h.message; used = at; whole = form_whole h.message at bytes limit (omega (arith, more)) h.form }

-- the message at the front of the first so many bytes
pub front_shown : (m : Message) (bytes rest : List ℕ) (most limit used : ℕ) → most ≤ limit → IsMessage m → Leads (item_of m) (take most bytes) rest → used + length rest ≡ length (take most bytes)
    → IsWireForm m (take used bytes) limit × (used ≤ length bytes)
front_shown m bytes rest most limit used few is h counts =
    let l = ap length h.parts in
    let n : length h.front ≡ used = omega (arith, l, counts, length-append h.front rest) in
    let whole : bytes ≡ h.front ++ (rest ++ drop most bytes) = sym (take-append-drop most bytes) ∙ ap (λ (x : List ℕ). x ++ drop most bytes) h.parts ∙ append_assoc h.front rest (drop most bytes) in
    let taken : take used bytes ≡ h.front = ap (take used) whole ∙ take_at h.front (rest ++ drop most bytes) used n in
    let all = ap length whole in (
      record {
        is_message = is;
        encodes = record { encoding = subst (λ s. IsEncoding (item_of m) s) (sym taken) h.encoding; within = message_depth m is };
        fits = omega (arith, few, counts, n, ap length taken, length-take most bytes);
      },
      omega (arith, n, all, length-append h.front (rest ++ drop most bytes)),
    )

-- a line and a line feed
pub line_shown : (bytes rest old new line : List ℕ) (most limit used : ℕ) → most ≤ limit → (h : SpellsLine (take most bytes) rest old new) → old ≡ [] → line ≡ new ++ 10 ∷ []
    → used + length rest ≡ length (take most bytes) → ShowsFront limit bytes used line
line_shown bytes rest old new line most limit used few h none e counts =
    let shown = front_shown h.message bytes rest most limit used few h.is_message h.leads counts in
    record {
      message = h.message;
      form = shown.0;
      inside = shown.1;
      line_is = e ∙ ap (λ (x : List ℕ). x ++ 10 ∷ []) (h.spelled ∙ ap (λ (x : List ℕ). x ++ line_of h.message) none);
    }
