-- A stream as far as its lines are made.
use Rattle.std.proofs.Common.{◌≡◌, ◌+◌, ◌-◌, ◌<◌, ◌≤◌, ◌^◌, ℕ, List, [], ◌∷◌, ◌++◌, Option, None, Some, Result, Ok, Err, length, take, drop, take-append-drop, option_map, IsErr, OnErr, refl, sym, ap, ◌∙◌, append_assoc, length-append, arith, subst}
use Rattle.std.proofs.lemmas.List.{length-take-le}
use Rattle.std.specs.Io.KnownBytes.{Appends}
use Rattle.grasp_cbor.specs.Bytes.{AllBytes}
use Rattle.grasp_cbor.specs.declared.walker.FaultName.{FaultName}
use Rattle.grasp_cbor.specs.declared.walker.FaultName.TheVariants as name
use Rattle.grasp_io.specs.Known.{AppendsFront, Passes}
use Rattle.grasp_io.proofs.Streams.{goes_on, passes_held, passes_more, passes_then_front, passes_then_held, passes_then_all, front_of_more}
use Rattle.grasp_runner.proofs.Passed.{passes_front}
use Rattle.grasp_types.specs.Message.{item_of}
use Rattle.grasp_types.specs.declared.message.Message.{Message}
use Rattle.grasp_text.specs.Line.{line_of}
use Rattle.grasp_wire.specs.declared.fault.CutFault.{CutFault}
use Rattle.grasp_wire.specs.declared.fault.CutFault.TheVariants.{Malformed, NotText, TooDeep, TooLong, NotMessage, OutOfMemory}
use Rattle.grasp_wire.specs.declared.fault.OneFault.TheVariants as one
use Rattle.grasp_wire.specs.Cutter.{lasting}
use Rattle.grasp_wire.specs.One.{AnswersOne, HasFaultAlone}
use Rattle.grasp_wire.specs.Reads.{fault_of, named}
use Rattle.grasp_wire.specs.Stream.{RestKind, IsRest, waiting, too_long, not_message, faulty}
use Rattle.grasp_wire.specs.Wire.{IsWireForm}
use Rattle.grasp_wire.proofs.Joins.{no_bytes, joined_first, joined_more}
use Rattle.grasp_wire.proofs.ReadingOn.{nothing_waits}
use Rattle.grasp_wire.proofs.Rests.{no_message}
use Rattle.grasp_wire.proofs.SomeDivision.{some_division}
use Rattle.grasp_replay_main.specs.Ending.{status_of}
use Rattle.grasp_replay_main.specs.Show.{Shows, shown, truncated, rest_finding}
use Rattle.grasp_replay_main.specs.Step.{HasShown, HasShownTo, BeginsToShow, Steps, place_of, moved}
use Rattle.grasp_replay_main.specs.Task.{ShowMakes}
use Rattle.grasp_replay_main.specs.Written.{Writes, Begins}
use Rattle.grasp_replay_main.specs.declared.exit.Finding.{Finding}
use Rattle.grasp_replay_main.specs.declared.exit.Finding.TheVariants.{Cut, Truncated}
use Rattle.grasp_replay_main.specs.declared.exit.Status.TheVariants as status
use Rattle.grasp_replay_main.specs.declared.show.Step.{Step}
use Rattle.grasp_replay_main.specs.declared.unfinished.Unfinished.{Unfinished}
use Rattle.grasp_replay_main.proofs.Tasks.{show_made}

shown-append : (ms ns : List Message) → shown (ms ++ ns) ≡ shown ms ++ shown ns
shown-append [] ns = refl
shown-append (m ∷ ms) ns = ap (λ ls. line_of m ++ 10 ∷ ls) (shown-append ms ns) ∙ sym (append_assoc (line_of m) (10 ∷ shown ms) (shown ns))

shown_more : (ms : List Message) (m : Message) → shown ms ++ (line_of m ++ 10 ∷ []) ≡ shown (ms ++ m ∷ [])
shown_more ms m = sym (shown-append ms (m ∷ []))

-- ---- what a beginning of the lines is a beginning of

-- every input has an output of which the lines of messages that come first are a beginning
pub begins_to_show : (limit : ℕ) (input : List ℕ) (start now : Option (List ℕ)) → limit < 2 ^ 64 → AllBytes input → BeginsToShow limit input start now → Begins (ShowMakes limit input) start now
begins_to_show limit input start now few bytes b =
    let all = some_division input limit few bytes in
    let splits = all.3.splits in
    let first = joined_first b.messages all.0 b.front splits.front b.rest all.1 limit b.forms splits.forms (sym b.parts ∙ splits.parts) splits.no_more in
    let finding = rest_finding (length splits.front) all.1 all.2 in
    let shows : Shows limit input (shown all.0) finding = record {
      messages = all.0;
      front = splits.front;
      rest = all.1;
      kind = all.2;
      parts = splits.parts;
      divides = all.3;
      output_is = refl;
      finding_is = refl;
    } in
    record {
      output = shown all.0;
      ended = status_of finding;
      makes = show_made limit input (shown all.0) finding (status_of finding) refl shows;
      written = subst (AppendsFront start now) (sym (ap shown first.all ∙ shown-append b.messages first.more)) (front_of_more start now (shown b.messages) (shown first.more) b.written);
    }

-- what was written is a beginning
pub has_begun : (limit : ℕ) (front rest : List ℕ) (start now : Option (List ℕ)) (held : List ℕ) → HasShown limit front start now held → BeginsToShow limit (front ++ rest) start now
has_begun limit front rest start now held h =
    record { messages = h.messages; front = front; rest = rest; forms = h.forms; parts = refl; written = passes_front start now held (shown h.messages) h.passes }

-- what was written, with a prefix of the held bytes, is a beginning
pub has_begun_held : (limit : ℕ) (front rest : List ℕ) (start now later : Option (List ℕ)) (held : List ℕ) → HasShown limit front start now held → AppendsFront now later held → BeginsToShow limit (front ++ rest) start later
has_begun_held limit front rest start now later held h p =
    record { messages = h.messages; front = front; rest = rest; forms = h.forms; parts = refl; written = passes_then_held start now later held (shown h.messages) h.passes p }

-- ---- what one step does

-- the line of one more message
pub takes_line : (limit : ℕ) (front rest : List ℕ) (start now later : Option (List ℕ)) (held more line : List ℕ) (m : Message) (used : ℕ) → HasShown limit front start now held → IsWireForm m (take used rest) limit
    → line ≡ line_of m ++ 10 ∷ [] → Passes now later more (held ++ line) → HasShown limit (front ++ take used rest) start later more
takes_line limit front rest start now later held more line m used h form e p = record {
  messages = h.messages ++ m ∷ [];
  forms = joined_more limit h.messages m front (take used rest) h.forms form;
  passes = subst (Passes start later more) (ap (λ (x : List ℕ). shown h.messages ++ x) e ∙ shown_more h.messages m) (passes_more start now later held (shown h.messages) more line h.passes p);
}

-- a prefix of it
pub begins_line : (limit : ℕ) (front rest : List ℕ) (start now later : Option (List ℕ)) (held line : List ℕ) (m : Message) (used : ℕ) → HasShown limit front start now held → IsWireForm m (take used rest) limit
    → line ≡ line_of m ++ 10 ∷ [] → AppendsFront now later (held ++ line) → BeginsToShow limit (front ++ rest) start later
begins_line limit front rest start now later held line m used h form e p = record {
  messages = h.messages ++ m ∷ [];
  front = front ++ take used rest;
  rest = drop used rest;
  forms = joined_more limit h.messages m front (take used rest) h.forms form;
  parts = ap (λ (x : List ℕ). front ++ x) (sym (take-append-drop used rest)) ∙ sym (append_assoc front (take used rest) (drop used rest));
  written = subst (AppendsFront start later) (ap (λ (x : List ℕ). shown h.messages ++ x) e ∙ shown_more h.messages m) (passes_then_front start now later held (shown h.messages) line h.passes p);
}

-- a message has bytes
pub has_bytes : (m : Message) (rest : List ℕ) (limit used : ℕ) → IsWireForm m (take used rest) limit → used ≤ length rest → (0 < used) × (used ≤ length rest)
has_bytes m rest limit used form le = (omega (arith, no_bytes (item_of m) (take used rest) form.encodes, length-take-le used rest le), le)

truncated_rest : (before at : ℕ) (rest : List ℕ) → 0 < length rest → at ≡ before + length rest → Some (Truncated at) ≡ truncated before rest
truncated_rest before at [] some e = absurd (omega (arith, some))
truncated_rest before at (b ∷ rest) some e = ap (λ n. Some (Truncated n)) e

-- the rest waits
pub takes_none : (limit : ℕ) (front rest : List ℕ) (start now : Option (List ℕ)) (held : List ℕ) (before at : ℕ) → HasShown limit front start now held → IsRest rest limit waiting → length front ≡ before → 0 < length rest
    → at ≡ before + length rest → HasShownTo limit front rest start now held (Truncated at)
takes_none limit front rest start now held before at h waits same some e =
    record { so_far = h; kind = waiting; kind_is = waits; finding_is = truncated_rest (length front) at rest some (e ∙ ap (λ n. n + length rest) (sym same)) }

finding_of_rest : (before : ℕ) (rest : List ℕ) (kind : RestKind) (fault : CutFault) → fault_of before kind ≡ Some fault → Some (Cut fault) ≡ rest_finding before rest kind
finding_of_rest before rest waiting fault e = absurd (cc e)
finding_of_rest before rest _ fault e = ap (option_map Cut) (sym e)

named_place : (n : FaultName) (at : ℕ) → place_of (named n at) ≡ at
named_place name.Malformed at = refl
named_place name.NotText at = refl
named_place name.TooDeep at = refl

named_moved : (n : FaultName) (before at : ℕ) → moved before (named n at) ≡ named n (before + at)
named_moved name.Malformed before at = refl
named_moved name.NotText before at = refl
named_moved name.TooDeep before at = refl

-- the fault of a rest of this kind, wherever it stands
fault_moved : (before : ℕ) (kind : RestKind) (fault : CutFault) → fault_of 0 kind ≡ Some fault → fault_of before kind ≡ Some (moved before fault)
fault_moved before waiting fault e = absurd (cc e)
fault_moved before too_long fault e = let f : TooLong 0 ≡ fault = cc e in let n : before ≡ before + 0 = omega arith in ap (λ k. Some (TooLong k)) n ∙ ap (λ x. Some (moved before x)) f
fault_moved before not_message fault e = let f : NotMessage 0 ≡ fault = cc e in let n : before ≡ before + 0 = omega arith in ap (λ k. Some (NotMessage k)) n ∙ ap (λ x. Some (moved before x)) f
fault_moved before (faulty n place) fault e = let f : named n (0 + place) ≡ fault = cc e in let z : place ≡ 0 + place = omega arith in ap (λ k. Some (named n (before + k))) z ∙ ap Some (sym (named_moved n before (0 + place))) ∙ ap (λ x. Some (moved before x)) f

place_inside : (bytes : List ℕ) (limit : ℕ) (kind : RestKind) (fault : CutFault) → IsRest bytes limit kind → fault_of 0 kind ≡ Some fault → place_of fault ≤ length bytes
place_inside bytes limit waiting fault r e = absurd (cc e)
place_inside bytes limit too_long fault r e = let f : TooLong 0 ≡ fault = cc e in subst (λ x. place_of x ≤ length bytes) f (omega arith)
place_inside bytes limit not_message fault r e = let f : NotMessage 0 ≡ fault = cc e in subst (λ x. place_of x ≤ length bytes) f (omega arith)
place_inside bytes limit (faulty n place) fault r e =
    let f : named n (0 + place) ≡ fault = cc e in
    let inside = r.fault.inside in
    subst (λ x. place_of x ≤ length bytes) f (omega (arith, inside, named_place n (0 + place)))

alone_inside : (bytes : List ℕ) (limit : ℕ) (fault : CutFault) → HasFaultAlone bytes limit fault → place_of fault ≤ length bytes
alone_inside bytes limit fault h = place_inside bytes limit h.kind fault h.kind_is h.fault_is

-- a fault is no further than the bytes go
pub fault_inside : (bytes : List ℕ) (limit : ℕ) (fault : CutFault) → AnswersOne bytes limit (Err (one.Cut fault)) → place_of fault ≤ length bytes
fault_inside bytes limit (Malformed at) h = alone_inside bytes limit (Malformed at) h
fault_inside bytes limit (NotText at) h = alone_inside bytes limit (NotText at) h
fault_inside bytes limit (TooDeep at) h = alone_inside bytes limit (TooDeep at) h
fault_inside bytes limit (TooLong at) h = alone_inside bytes limit (TooLong at) h
fault_inside bytes limit (NotMessage at) h = alone_inside bytes limit (NotMessage at) h
fault_inside bytes limit OutOfMemory h = omega arith

lasting_alone : (bytes : List ℕ) (limit before : ℕ) (fault : CutFault) (finding : Finding) → Some finding ≡ option_map Cut (lasting (moved before fault)) → AnswersOne bytes limit (Err (one.Cut fault))
    → HasFaultAlone bytes limit fault × (finding ≡ Cut (moved before fault))
lasting_alone bytes limit before (Malformed at) finding e h = (h, cc e)
lasting_alone bytes limit before (NotText at) finding e h = (h, cc e)
lasting_alone bytes limit before (TooDeep at) finding e h = (h, cc e)
lasting_alone bytes limit before (TooLong at) finding e h = (h, cc e)
lasting_alone bytes limit before (NotMessage at) finding e h = (h, cc e)
lasting_alone bytes limit before OutOfMemory finding e h = absurd (cc e)

-- the rest has a fault
pub takes_fault : (limit : ℕ) (front rest : List ℕ) (start now : Option (List ℕ)) (held : List ℕ) (before : ℕ) (fault : CutFault) (finding : Finding) → HasShown limit front start now held
    → AnswersOne rest limit (Err (one.Cut fault)) → length front ≡ before → Some finding ≡ option_map Cut (lasting (moved before fault)) → HasShownTo limit front rest start now held finding
takes_fault limit front rest start now held before fault finding h a same e =
    let f = lasting_alone rest limit before fault finding e a in
    let at : fault_of (length front) f.0.kind ≡ Some (moved before fault) = fault_moved (length front) f.0.kind fault f.0.fault_is ∙ ap (λ n. Some (moved n fault)) same in
    record { so_far = h; kind = f.0.kind; kind_is = f.0.kind_is; finding_is = ap Some f.1 ∙ finding_of_rest (length front) rest f.0.kind (moved before fault) at }

-- after an error only a beginning is known
pub errs_begun : (limit : ℕ) (front rest : List ℕ) (start now : Option (List ℕ)) (held : List ℕ) (r : Result Step Unfinished) → IsErr r → BeginsToShow limit (front ++ rest) start now → Steps limit front rest start now held r
errs_begun limit front rest start now held (Ok step) err b = absurd (cc err)
errs_begun limit front rest start now held (Err e) err b = b

-- ---- the whole input

-- the input is what was shown, and the rest
pub record IsShowing (limit : ℕ) (input rest : List ℕ) (start now : Option (List ℕ)) (held : List ℕ) : Type 0 where
  pub front : List ℕ
  pub parts : input ≡ front ++ rest
  pub so_far : HasShown limit front start now held

pub begin_showing : (limit : ℕ) (input : List ℕ) (start : Option (List ℕ)) (held : List ℕ) → held ≡ [] → IsShowing limit input input start start held
begin_showing limit input start held none = record {
  front = [];
  parts = refl;
  so_far = record { messages = []; forms = refl; passes = subst (λ h. Passes start start h []) (sym none) (passes_held start []) };
}

front_length : (limit : ℕ) (input rest : List ℕ) (start now : Option (List ℕ)) (held : List ℕ) (h : IsShowing limit input rest start now held) → length h.front ≡ length input - length rest
front_length limit input rest start now held h = omega (arith, ap length h.parts, length-append h.front rest)

-- one more message is shown
pub go_on_showing : (limit : ℕ) (input rest : List ℕ) (start now later : Option (List ℕ)) (held more : List ℕ) (used : ℕ) → IsShowing limit input rest start now held
    → ((front : List ℕ) (s : Option (List ℕ)) → length front ≡ length input - length rest → HasShown limit front s now held → HasShown limit (front ++ take used rest) s later more)
    → IsShowing limit input (take (length rest - used) (drop used rest)) start later more
go_on_showing limit input rest start now later held more used h next = record {
  front = h.front ++ take used rest;
  parts = goes_on input h.front rest used h.parts;
  so_far = next h.front start (front_length limit input rest start now held h) h.so_far;
}

-- a write of the next line failed, or memory is wanted
pub begun_showing : (limit : ℕ) (input rest : List ℕ) (start now later : Option (List ℕ)) (held : List ℕ) → limit < 2 ^ 64 → AllBytes input → IsShowing limit input rest start now held
    → ((front : List ℕ) (s : Option (List ℕ)) → length front ≡ length input - length rest → HasShown limit front s now held → BeginsToShow limit (front ++ rest) s later)
    → Begins (ShowMakes limit input) start later
begun_showing limit input rest start now later held few bytes h begins =
    begins_to_show limit input start later few bytes (subst (λ s. BeginsToShow limit s start later) (sym h.parts) (begins h.front start (front_length limit input rest start now held h) h.so_far))

-- the last write failed
pub begun_at_end : (limit : ℕ) (input rest : List ℕ) (start now later : Option (List ℕ)) (held : List ℕ) → limit < 2 ^ 64 → AllBytes input → IsShowing limit input rest start now held → AppendsFront now later held
    → Begins (ShowMakes limit input) start later
begun_at_end limit input rest start now later held few bytes h p =
    begins_to_show limit input start later few bytes (subst (λ s. BeginsToShow limit s start later) (sym h.parts) (has_begun_held limit h.front rest start now later held h.so_far p))

back_bytes : (front rest : List ℕ) → AllBytes (front ++ rest) → AllBytes rest
back_bytes [] rest h = h
back_bytes (b ∷ front) rest h = back_bytes front rest h.1

shown_to : (limit : ℕ) (input front rest : List ℕ) (start now : Option (List ℕ)) (held : List ℕ) (kind : RestKind) (finding : Option Finding) (h : HasShown limit front start now held) → AllBytes input → input ≡ front ++ rest
    → IsRest rest limit kind → finding ≡ rest_finding (length front) rest kind → Shows limit input (shown h.messages) finding
shown_to limit input front rest start now held kind finding h bytes parts is e = record {
  messages = h.messages;
  front = front;
  rest = rest;
  kind = kind;
  parts = parts;
  divides = record { splits = record { front = front; forms = h.forms; parts = parts; no_more = no_message rest limit kind (back_bytes front rest (subst AllBytes parts bytes)) is }; kind_is = is };
  output_is = refl;
  finding_is = e;
}

-- all before the finding is written, once the held bytes are
pub written_to_finding : (limit : ℕ) (input rest : List ℕ) (start now later end : Option (List ℕ)) (held more : List ℕ) (finding : Finding) → AllBytes input → IsShowing limit input rest start now held
    → ((front : List ℕ) (s : Option (List ℕ)) → length front ≡ length input - length rest → HasShown limit front s now held → HasShownTo limit front rest s later more finding)
    → Appends later end more → Writes (ShowMakes limit input) start end (status.Finding finding)
written_to_finding limit input rest start now later end held more finding bytes h shows appended =
    let f = shows h.front start (front_length limit input rest start now held h) h.so_far in
    record {
      output = shown f.so_far.messages;
      makes = shown_to limit input h.front rest start later more f.kind (Some finding) f.so_far bytes h.parts f.kind_is f.finding_is;
      written = passes_then_all start later end more (shown f.so_far.messages) f.so_far.passes appended;
    }

-- the write before the finding failed
pub begun_at_finding : (limit : ℕ) (input rest : List ℕ) (start now later end : Option (List ℕ)) (held more : List ℕ) (finding : Finding) → limit < 2 ^ 64 → AllBytes input → IsShowing limit input rest start now held
    → ((front : List ℕ) (s : Option (List ℕ)) → length front ≡ length input - length rest → HasShown limit front s now held → HasShownTo limit front rest s later more finding)
    → AppendsFront later end more → Begins (ShowMakes limit input) start end
begun_at_finding limit input rest start now later end held more finding few bytes h shows p =
    let f = shows h.front start (front_length limit input rest start now held h) h.so_far in
    begins_to_show limit input start end few bytes (subst (λ s. BeginsToShow limit s start end) (sym h.parts) (has_begun_held limit h.front rest start later end more f.so_far p))

-- all is written, once the held bytes are
pub written_all : (limit : ℕ) (input rest : List ℕ) (start now later : Option (List ℕ)) (held : List ℕ) (h : IsShowing limit input rest start now held) → 0 < limit → AllBytes input → length rest ≡ 0
    → Appends now later held → Writes (ShowMakes limit input) start later status.Ok
written_all limit input [] start now later held h some bytes none appended = record {
  output = shown h.so_far.messages;
  makes = shown_to limit input h.front [] start now held waiting None h.so_far bytes h.parts (nothing_waits limit some) refl;
  written = passes_then_all start now later held (shown h.so_far.messages) h.so_far.passes appended;
}
written_all limit input (b ∷ rest) start now later held h some bytes none appended = absurd (omega (arith, none))

pub on_err : {A : Type 0} (r : Result A Unfinished) (X : Type 0) → X → OnErr r X
on_err (Ok x) X fact = tt
on_err (Err e) X fact = fact
