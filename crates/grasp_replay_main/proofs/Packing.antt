-- Lines as far as they are packed.
use Rattle.std.proofs.Common.{◌≡◌, ◌<◌, ◌≤◌, ◌+◌, ◌-◌, ◌⊎◌, inl, inr, ℕ, List, [], ◌∷◌, ◌++◌, Option, None, Some, Ok, Err, length, map, refl, sym, ap, ◌∙◌, append_assoc, append-nil, arith, subst, rules, length-append}
use Rattle.std.proofs.lemmas.List.{length-map, map-append}
use Rattle.std.proofs.lemmas.Bool.Decides.{leb_tells}
use Rattle.std.proofs.lemmas.Grind.{flat_map-append}
use Rattle.std.specs.Io.KnownBytes.{Appends}
use Rattle.std.specs.List.{All}
use Rattle.std.proofs.lemmas.List.Elements.{All-append, All-nil}
use Rattle.grasp_cbor.specs.Shortest.{shortest}
use Rattle.grasp_io.specs.Known.{AppendsFront, Passes}
use Rattle.grasp_io.proofs.Streams.{passes_held, passes_more, passes_then_front, passes_then_held, passes_then_all, front_of_more}
use Rattle.grasp_runner.proofs.Passed.{passes_front}
use Rattle.grasp_types.specs.Message.{item_of}
use Rattle.grasp_types.specs.declared.message.Message.{Message}
use Rattle.grasp_text.specs.Grammar.{message_at}
use Rattle.grasp_text.specs.Line.{line_of, IsLineOf}
use Rattle.grasp_text.specs.Reading.{Parsed}
use Rattle.grasp_text.specs.Words.{words_of}
use Rattle.grasp_text.proofs.Lines.{line_only, line_none, line_place}
use Rattle.grasp_quick.specs.Packed.{IsPackedLine}
use Rattle.grasp_script.specs.Scripts.{text_lines}
use Rattle.grasp_script.proofs.Splitting.{no_line}
use Rattle.grasp_wire.specs.Laws.{encoded}
use Rattle.grasp_replay_main.specs.Ending.{status_of}
use Rattle.grasp_replay_main.specs.Pack.{CanPack, IsPacked, IsRefused, StopsAt, Packs}
use Rattle.grasp_replay_main.specs.Task.{PackMakes}
use Rattle.grasp_replay_main.specs.Written.{Writes, Begins}
use Rattle.grasp_replay_main.specs.declared.exit.Finding.{Finding}
use Rattle.grasp_replay_main.specs.declared.exit.Finding.TheVariants.{BadText, TooLong}
use Rattle.grasp_replay_main.specs.declared.exit.Status.TheVariants as status
use Rattle.grasp_replay_main.proofs.Counting.{few_lines}
use Rattle.grasp_replay_main.proofs.Tasks.{pack_made}

-- the lines before the rest were packed, so many
pub record HasPacked (limit : ℕ) (input rest output : List ℕ) (count : ℕ) : Type 0 where
  pub messages : List Message
  pub lines : text_lines input ≡ map line_of messages ++ text_lines rest
  pub can : All (CanPack limit) messages
  pub output_is : output ≡ encoded messages
  pub count_is : count ≡ length messages

none_packed : (limit : ℕ) (input : List ℕ) → HasPacked limit input input [] 0
none_packed limit input = record { messages = []; lines = refl; can = All-nil (CanPack limit); output_is = refl; count_is = refl }

map_more : (ms : List Message) (m : Message) (others : List (List ℕ)) → map line_of (ms ++ m ∷ []) ++ others ≡ map line_of ms ++ line_of m ∷ others
map_more [] m others = refl
map_more (n ∷ ms) m others = ap (λ ls. line_of n ∷ ls) (map_more ms m others)

encoded_more : (ms : List Message) (m : Message) → encoded (ms ++ m ∷ []) ≡ encoded ms ++ shortest (item_of m)
encoded_more [] m = append-nil (shortest (item_of m))
encoded_more (n ∷ ms) m = ap (λ s. shortest (item_of n) ++ s) (encoded_more ms m) ∙ sym (append_assoc (shortest (item_of n)) (encoded ms) (shortest (item_of m)))

all_one : (limit : ℕ) (m : Message) → CanPack limit m → All (CanPack limit) (m ∷ [])
all_one limit m can = search rules

more_packed : (limit : ℕ) (input rest text others output more : List ℕ) (count : ℕ) → HasPacked limit input rest output count
    → text_lines rest ≡ text ∷ text_lines others → IsPacked limit text output more → HasPacked limit input others more (count + 1)
more_packed limit input rest text others output more count h lines p =
    let is_line : IsLineOf (line_of p.message) p.message = subst (λ (t : List ℕ). IsLineOf t p.message) p.is_line.spelled p.is_line in
    record {
      messages = h.messages ++ p.message ∷ [];
      lines = h.lines ∙ ap (λ ls. map line_of h.messages ++ ls) (lines ∙ ap (λ t. t ∷ text_lines others) p.is_line.spelled) ∙ sym (map_more h.messages p.message (text_lines others));
      can = All-append (CanPack limit) h.messages (p.message ∷ []) h.can (all_one limit p.message (record { is_line = is_line; sendable = p.sendable }));
      output_is = p.appended ∙ ap (λ o. o ++ shortest (item_of p.message)) h.output_is ∙ sym (encoded_more h.messages p.message);
      count_is = ap (λ n. n + 1) h.count_is ∙ sym (length-append h.messages (p.message ∷ []));
    }

all_packed : (limit : ℕ) (input rest output : List ℕ) (count : ℕ) → HasPacked limit input rest output count → length rest ≡ 0 → Packs limit input output None
all_packed limit input [] output count h none = record { messages = h.messages; others = []; lines = h.lines ∙ ap (λ (ls : List (List ℕ)). map line_of h.messages ++ ls) (no_line [] refl); can = h.can; output_is = h.output_is; stops = refl }
all_packed limit input (b ∷ rest) output count h none = absurd (omega (arith, none))

packed_to : (limit : ℕ) (input rest text others output more : List ℕ) (count : ℕ) (finding : Finding) → HasPacked limit input rest output count
    → text_lines rest ≡ text ∷ text_lines others → (more ≡ output) × IsRefused limit text (count + 1) finding → Packs limit input more (Some finding)
packed_to limit input rest text others output more count finding h lines p = record {
  messages = h.messages;
  others = text_lines rest;
  lines = h.lines;
  can = h.can;
  output_is = p.0 ∙ h.output_is;
  stops = record { text = text; others = text_lines others; first = lines; refused = subst (λ (n : ℕ). IsRefused limit text (n + 1) finding) h.count_is p.1 };
}

-- while a line is left, fewer were packed than there are bytes
room_for_one : (limit : ℕ) (input rest output text : List ℕ) (others : List (List ℕ)) (count : ℕ) → HasPacked limit input rest output count → text_lines rest ≡ text ∷ others
    → count + 1 ≤ length input
room_for_one limit input rest output text others count h left =
    omega (arith, few_lines input, h.count_is, ap length h.lines, length-append (map line_of h.messages) (text_lines rest), length-map h.messages line_of, ap length left)

-- ---- every input is packed up to its end or to a finding

-- a line is refused, whatever its number
pub record IsBad (limit : ℕ) (text : List ℕ) : Type 0 where
  pub finding : ℕ → Finding
  pub refused : (number : ℕ) → IsRefused limit text number (finding number)

-- a line is that of a message that can be packed
pub record IsGood (limit : ℕ) (text : List ℕ) : Type 0 where
  pub message : Message
  pub line_is : text ≡ line_of message
  pub can : CanPack limit message

by_length : (limit : ℕ) (text : List ℕ) (m : Message) → IsLineOf text m → (length (shortest (item_of m)) ≤ limit) ⊎ (limit < length (shortest (item_of m))) → IsBad limit text ⊎ IsGood limit text
by_length limit text m is (inl fits) = inr (record {
  message = m;
  line_is = is.spelled;
  can = record { is_line = subst (λ (t : List ℕ). IsLineOf t m) is.spelled is; sendable = (is.whole, fits) };
})
by_length limit text m is (inr long) = inl (record { finding = λ n. TooLong n; refused = λ n. (refl, record { message = m; is_line = is; long = long }) })

fits_or_not : (a b : ℕ) → (a ≤ b) ⊎ (b < a)
fits_or_not a b = elim (leb_tells a b) [
  | inl x ↦ inl x.1
  | inr x ↦ inr x.1
]

by_reading : (limit : ℕ) (text : List ℕ) (r : Parsed Message) → message_at (words_of text) ≡ r → IsBad limit text ⊎ IsGood limit text
by_reading limit text (Ok x) e = by_length limit text x.0 (line_only text x.0 x.1 e) (fits_or_not (length (shortest (item_of x.0))) limit)
by_reading limit text (Err n) e = inl (record { finding = λ k. BadText k (length text - n); refused = λ k. (refl, line_none text n e, line_place text n e) })

-- the first of the lines are packed, after so many, and then none is left or one is refused
pub record PacksOn (limit before : ℕ) (lines : List (List ℕ)) : Type 0 where
  pub messages : List Message
  pub others : List (List ℕ)
  pub lines_are : lines ≡ map line_of messages ++ others
  pub can : All (CanPack limit) messages
  pub finding : Option Finding
  pub stops : StopsAt limit (before + length messages) others finding

counted : (n : ℕ) (m : Message) (ms : List Message) → n + 1 + length ms ≡ n + length (m ∷ ms)
counted n m ms = omega arith

packs_line : (limit before : ℕ) (text : List ℕ) (lines : List (List ℕ)) → PacksOn limit (before + 1) lines → IsBad limit text ⊎ IsGood limit text → PacksOn limit before (text ∷ lines)
packs_line limit before text lines on (inl bad) = record {
  messages = [];
  others = text ∷ lines;
  lines_are = refl;
  can = All-nil (CanPack limit);
  finding = Some (bad.finding (before + 0 + 1));
  stops = record { text = text; others = lines; first = refl; refused = bad.refused (before + 0 + 1) };
}
packs_line limit before text lines on (inr good) = record {
  messages = good.message ∷ on.messages;
  others = on.others;
  lines_are = ap (λ t. t ∷ lines) good.line_is ∙ ap (λ ls. line_of good.message ∷ ls) on.lines_are;
  can = All-append (CanPack limit) (good.message ∷ []) on.messages (all_one limit good.message good.can) on.can;
  finding = on.finding;
  stops = subst (λ (n : ℕ). StopsAt limit n on.others on.finding) (counted before good.message on.messages) on.stops;
}

packs_on : (limit before : ℕ) (lines : List (List ℕ)) → PacksOn limit before lines
packs_on limit before [] = record { messages = []; others = []; lines_are = refl; can = All-nil (CanPack limit); finding = None; stops = refl }
packs_on limit before (text ∷ lines) = packs_line limit before text lines (packs_on limit (before + 1) lines) (by_reading limit text (message_at (words_of text)) refl)

-- so every input has an output of which what was packed is a beginning
pub begins_to_pack : (limit : ℕ) (input rest output : List ℕ) (count : ℕ) (start now : Option (List ℕ)) → HasPacked limit input rest output count → AppendsFront start now output
    → Begins (PackMakes limit input) start now
begins_to_pack limit input rest output count start now h front =
    let on = packs_on limit count (text_lines rest) in
    let all = h.messages ++ on.messages in
    let packs : Packs limit input (encoded all) on.finding = record {
      messages = all;
      others = on.others;
      lines = h.lines ∙ ap (λ ls. map line_of h.messages ++ ls) on.lines_are ∙ sym (append_assoc (map line_of h.messages) (map line_of on.messages) on.others)
          ∙ ap (λ ls. ls ++ on.others) (sym (map-append line_of h.messages on.messages));
      can = All-append (CanPack limit) h.messages on.messages h.can on.can;
      output_is = refl;
      stops = subst (λ (n : ℕ). StopsAt limit n on.others on.finding) (ap (λ n. n + length on.messages) h.count_is ∙ sym (length-append h.messages on.messages)) on.stops;
    } in
    record {
      output = encoded all;
      ended = status_of on.finding;
      makes = pack_made limit input (encoded all) on.finding packs;
      written = subst (AppendsFront start now) (ap (λ o. o ++ encoded on.messages) h.output_is ∙ sym (flat_map-append (λ m. shortest (item_of m)) h.messages on.messages))
          (front_of_more start now output (encoded on.messages) front);
    }

-- ---- what is written while the lines are packed

-- the lines before the rest were packed, so many; of what was packed a front was written and the rest is held
pub record IsPacking (limit : ℕ) (input rest : List ℕ) (start now : Option (List ℕ)) (held : List ℕ) (count : ℕ) : Type 0 where
  pub output : List ℕ
  pub packed : HasPacked limit input rest output count
  pub passes : Passes start now held output

pub none_packing : (limit : ℕ) (input : List ℕ) (start : Option (List ℕ)) (held : List ℕ) → held ≡ [] → IsPacking limit input input start start held 0
none_packing limit input start held none = record { output = []; packed = none_packed limit input; passes = subst (λ (h : List ℕ). Passes start start h []) (sym none) (passes_held start []) }

-- one more line, whose encoding the piece is
next_packed : (limit : ℕ) (input rest text others output old bytes piece : List ℕ) (count : ℕ) → HasPacked limit input rest output count
    → text_lines rest ≡ text ∷ text_lines others → old ≡ [] → IsPacked limit text old bytes → piece ≡ bytes → HasPacked limit input others (output ++ piece) (count + 1)
next_packed limit input rest text others output old bytes piece count h lines none p same =
    let encoding : piece ≡ shortest (item_of p.message) = same ∙ p.appended ∙ ap (λ o. o ++ shortest (item_of p.message)) none in
    more_packed limit input rest text others output (output ++ piece) count h lines (record { message = p.message; is_line = p.is_line; sendable = p.sendable; appended = ap (λ b. output ++ b) encoding })

-- a line that was packed straight
pub quick_packed : (limit : ℕ) (text bytes : List ℕ) → IsPackedLine limit text bytes → IsPacked limit text [] bytes
quick_packed limit text bytes h = record { message = h.message; is_line = h.is_line; sendable = (h.is_line.whole, h.fits); appended = h.packed }

pub more_packing : (limit : ℕ) (input rest text others : List ℕ) (start now later : Option (List ℕ)) (held more old bytes piece : List ℕ) (count : ℕ) → IsPacking limit input rest start now held count
    → text_lines rest ≡ text ∷ text_lines others → old ≡ [] → IsPacked limit text old bytes → piece ≡ bytes → Passes now later more (held ++ piece)
    → IsPacking limit input others start later more (count + 1)
more_packing limit input rest text others start now later held more old bytes piece count h lines none p same passes = record {
  output = h.output ++ piece;
  packed = next_packed limit input rest text others h.output old bytes piece count h.packed lines none p same;
  passes = passes_more start now later held h.output more piece h.passes passes;
}

-- a beginning is written where memory is wanted
pub begun_packing : (limit : ℕ) (input rest : List ℕ) (start now : Option (List ℕ)) (held : List ℕ) (count : ℕ) → IsPacking limit input rest start now held count
    → Begins (PackMakes limit input) start now
begun_packing limit input rest start now held count h = begins_to_pack limit input rest h.output count start now h.packed (passes_front start now held h.output h.passes)

-- where a write of the next message fails, what was written is a prefix of the bytes of an output of the input
pub begun_next : (limit : ℕ) (input rest text others : List ℕ) (start now later : Option (List ℕ)) (held old bytes piece : List ℕ) (count : ℕ) → IsPacking limit input rest start now held count
    → text_lines rest ≡ text ∷ text_lines others → old ≡ [] → IsPacked limit text old bytes → piece ≡ bytes → AppendsFront now later (held ++ piece)
    → Begins (PackMakes limit input) start later
begun_next limit input rest text others start now later held old bytes piece count h lines none p same front =
    begins_to_pack limit input others (h.output ++ piece) (count + 1) start later (next_packed limit input rest text others h.output old bytes piece count h.packed lines none p same)
    (passes_then_front start now later held h.output piece h.passes front)

-- where the last write fails, what was written is a prefix of the bytes of an output of the input
pub begun_held : (limit : ℕ) (input rest : List ℕ) (start now later : Option (List ℕ)) (held : List ℕ) (count : ℕ) → IsPacking limit input rest start now held count
    → AppendsFront now later held → Begins (PackMakes limit input) start later
begun_held limit input rest start now later held count h front =
    begins_to_pack limit input rest h.output count start later h.packed (passes_then_held start now later held h.output h.passes front)

-- all is written at the end
pub written_all : (limit : ℕ) (input rest : List ℕ) (start now later : Option (List ℕ)) (held : List ℕ) (count : ℕ) → IsPacking limit input rest start now held count → length rest ≡ 0
    → Appends now later held → Writes (PackMakes limit input) start later status.Ok
written_all limit input rest start now later held count h none appended =
    record { output = h.output; makes = all_packed limit input rest h.output count h.packed none; written = passes_then_all start now later held h.output h.passes appended }

-- where a line is refused, all that was packed before it is written

pub written_to_finding : (limit : ℕ) (input rest text others : List ℕ) (start now later : Option (List ℕ)) (held : List ℕ) (count : ℕ) (finding : Finding)
    → IsPacking limit input rest start now held count → text_lines rest ≡ text ∷ text_lines others → IsRefused limit text (count + 1) finding
    → Appends now later held → Writes (PackMakes limit input) start later (status.Finding finding)
written_to_finding limit input rest text others start now later held count finding h lines refused appended = record {
  output = h.output;
  makes = packed_to limit input rest text others h.output h.output count finding h.packed lines (refl, refused);
  written = passes_then_all start now later held h.output h.passes appended;
}

-- while a line is left, fewer were packed than there are bytes
pub room_for_next : (limit : ℕ) (input rest : List ℕ) (start now : Option (List ℕ)) (held text : List ℕ) (others : List (List ℕ)) (count : ℕ) → IsPacking limit input rest start now held count
    → text_lines rest ≡ text ∷ others → count + 1 ≤ length input
room_for_next limit input rest start now held text others count h left = room_for_one limit input rest h.output text others count h.packed left
