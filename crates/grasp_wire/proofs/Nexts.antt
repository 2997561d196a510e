-- What `next` answers, and how the cutter stands afterwards.
use Rattle.std.proofs.Common.{◌≡◌, ◌+◌, ◌<◌, ℕ, List, [], ◌∷◌, ◌++◌, length, take, drop, take-append-drop, append_assoc, Option, Some, None, Result, Ok, Err, refl, sym, ap, subst, ◌∙◌, arith}
use Rattle.std.proofs.lemmas.List.{length-append, length-drop, length-take-le}
use Rattle.std.specs.Prelude.{IsSome}
use Rattle.grasp_cbor.specs.Bytes.{AllBytes}
use Rattle.grasp_cbor.specs.DataItem.{DataItem}
use Rattle.grasp_cbor.specs.Ending.{IsWhole, IsPartial}
use Rattle.grasp_cbor.specs.declared.walker.FaultName.TheVariants as name
use Rattle.grasp_cbor.proofs.HeadBytes.{AllBytes-back}
use Rattle.grasp_types.specs.declared.message.Message.{Message}
use Rattle.grasp_wire.specs.declared.fault.CutFault.{CutFault}
use Rattle.grasp_wire.specs.declared.fault.CutFault.TheVariants.{Malformed, NotMessage, OutOfMemory}
use Rattle.grasp_wire.specs.declared.cutter.Cutter.{Cutter}
use Rattle.grasp_wire.specs.Wire.{IsWireForm, AreWireForms}
use Rattle.grasp_wire.specs.Stream.{RestKind, IsRest, Divides, waiting, too_long, not_message, faulty}
use Rattle.grasp_wire.specs.Reads.{fault_of}
use Rattle.grasp_wire.specs.Cutter.{Past, after_next, fault_after, lasting, HasFault, Finds, AnswersNext, TakesItem, TakesTo, Takes, CountsRest}
use Rattle.grasp_wire.specs.Stands.{Stands, KeepsRest, KeepsUp, IsSame, IsFaultOf, AnswersFound, AnswersItem, cut_limit, fed_count, rest_of, before_of, taken_with}
use Rattle.grasp_wire.proofs.Joins.{no_bytes, joined_more}
use Rattle.grasp_wire.proofs.Rests.{no_message}

-- no fault is known
keeps : (c : Cutter) (past : Past) → Stands c past → c.fault ≡ None → KeepsRest c past
keeps c past s none = subst (λ f. KeepsUp f c past) (s.fault ∙ none) s.keeps

answers_none : (limit : ℕ) (c : Cutter) (past : Past) (r : Result (Option Message) CutFault) → Stands c past → c.fault ≡ None → Finds limit past r → AnswersNext limit past past.fault r
answers_none limit c past r s none h = subst (λ f. AnswersNext limit past f r) (sym (s.fault ∙ none)) h

-- the stream divides there
divided : (c : Cutter) (past : Past) (kind : RestKind) → Stands c past → KeepsRest c past → IsRest (rest_of c) (cut_limit c) kind → Divides past.fed (cut_limit c) past.given (rest_of c) kind
divided c past kind s k h =
    let bytes : AllBytes (rest_of c) = AllBytes-back k.front (rest_of c) (subst AllBytes k.parts s.bytes) in
    record {
      splits = record { front = k.front; forms = k.forms; parts = k.parts; no_more = no_message (rest_of c) (cut_limit c) kind bytes h };
      kind_is = h;
    }

pub next_waits : (c : Cutter) (past : Past) → Stands c past → c.fault ≡ None → IsPartial (rest_of c) (cut_limit c) → AnswersNext (cut_limit c) past past.fault (Ok None)
next_waits c past s none h =
    answers_none (cut_limit c) c past (Ok None) s none (record { rest = rest_of c; divides = divided c past waiting s (keeps c past s none) h })

-- where its rest begins
place_is : (c : Cutter) (past : Past) → Stands c past → (k : KeepsRest c past) → before_of c ≡ length k.front
place_is c past s k =
    let n = s.count in
    omega (arith, length-append k.front (rest_of c), ap length k.parts)

has_fault : (c : Cutter) (past : Past) (fault : CutFault) → Stands c past → c.fault ≡ None → IsFaultOf (rest_of c) (cut_limit c) (before_of c) fault → HasFault (cut_limit c) past fault
has_fault c past fault s none h =
    let k = keeps c past s none in
    record {
      front = k.front;
      rest = rest_of c;
      kind = h.kind;
      parts = k.parts;
      divides = divided c past h.kind s k h.kind_is;
      fault_is = subst (λ n. fault_of n h.kind ≡ Some fault) (place_is c past s k) h.fault_is;
    }

finds_fault : (limit : ℕ) (past : Past) (fault : CutFault) → lasting fault ≡ Some fault → HasFault limit past fault → Finds limit past (Err fault)
finds_fault limit past OutOfMemory e h = absurd cc
finds_fault limit past _ e h = h

-- a fault of the rest is answered
pub next_faulted : (c : Cutter) (past : Past) (fault : CutFault) → Stands c past → c.fault ≡ None → IsFaultOf (rest_of c) (cut_limit c) (before_of c) fault × (lasting fault ≡ Some fault) → AnswersNext (cut_limit c) past past.fault (Err fault)
next_faulted c past fault s none h = answers_none (cut_limit c) c past (Err fault) s none (finds_fault (cut_limit c) past fault h.1 (has_fault c past fault s none h.0))

-- a cutter that keeps the fault of its rest which it answered stands for the past with that fault
pub stands_faulted : (c new : Cutter) (past : Past) (fault : CutFault) → Stands c past → c.fault ≡ None → IsFaultOf (rest_of c) (cut_limit c) (before_of c) fault × (lasting fault ≡ Some fault)
    → fed_count new ≡ fed_count c → cut_limit new ≡ cut_limit c → new.fault ≡ lasting fault → Stands new (after_next past (Err fault))
stands_faulted c new past fault s none h count limit is =
    let f = has_fault c past fault s none h.0 in
    let after : Past = record { fed = past.fed; given = past.given; fault = Some fault } in
    let same : after ≡ after_next past (Err fault) = ap (λ x. record { fed = past.fed; given = past.given; fault = fault_after past.fault x }) (sym h.1) in
    let kept : HasFault (cut_limit c) after fault = record { front = f.front; rest = f.rest; kind = f.kind; parts = f.parts; divides = f.divides; fault_is = f.fault_is } in
    let stands : Stands new after = record {
      bytes = s.bytes;
      count = count ∙ s.count;
      fault = sym h.1 ∙ sym is;
      keeps = subst (λ n. HasFault n after fault) (sym limit) kept;
    } in
    subst (λ x. Stands new x) same stands

-- a message is answered
pub next_given : (c : Cutter) (past : Past) (message : Message) (used : ℕ) → Stands c past → c.fault ≡ None → IsWireForm message (take used (rest_of c)) (cut_limit c) → AnswersNext (cut_limit c) past past.fault (Ok (Some message))
next_given c past message used s none form =
    let k = keeps c past s none in
    answers_none (cut_limit c) c past (Ok (Some message)) s none (record {
      front = k.front ++ take used (rest_of c);
      rest = drop used (rest_of c);
      forms = joined_more (cut_limit c) past.given message k.front (take used (rest_of c)) k.forms form;
      parts = k.parts ∙ ap (λ x. k.front ++ x) (sym (take-append-drop used (rest_of c))) ∙ sym (append_assoc k.front (take used (rest_of c)) (drop used (rest_of c)));
    })

-- a cutter that drops the bytes of the given message from its rest stands for the past with that message
pub stands_given : (c new : Cutter) (past : Past) (message : Message) (used : ℕ) → Stands c past → c.fault ≡ None → IsWireForm message (take used (rest_of c)) (cut_limit c)
    → rest_of new ≡ drop used (rest_of c) → fed_count new ≡ fed_count c → cut_limit new ≡ cut_limit c → new.fault ≡ None → Stands new (after_next past (Ok (Some message)))
stands_given c new past message used s none form rest count limit is =
    let k = keeps c past s none in
    let after : Past = after_next past (Ok (Some message)) in
    let e : past.fault ≡ None = s.fault ∙ none in
    let kept : KeepsRest new after = record {
      front = k.front ++ take used (rest_of c);
      forms = subst (λ n. AreWireForms (past.given ++ message ∷ []) (k.front ++ take used (rest_of c)) n) (sym limit) (joined_more (cut_limit c) past.given message k.front (take used (rest_of c)) k.forms form);
      parts = k.parts ∙ ap (λ x. k.front ++ x) (sym (take-append-drop used (rest_of c))) ∙ sym (append_assoc k.front (take used (rest_of c)) (drop used (rest_of c))) ∙ ap (λ x. (k.front ++ take used (rest_of c)) ++ x) (sym rest);
    } in
    record {
      bytes = s.bytes;
      count = count ∙ s.count;
      fault = e ∙ sym is;
      keeps = subst (λ f. KeepsUp f new after) (sym e) kept;
    }

-- a cutter that keeps the same bytes, count and limit, and has no fault, stands for the same past
pub stands_same : (c new : Cutter) (past : Past) → Stands c past → c.fault ≡ None → IsSame c new → new.fault ≡ None → Stands new past
stands_same c new past s none same is =
    let k = keeps c past s none in
    let e : past.fault ≡ None = s.fault ∙ none in
    let kept : KeepsRest new past = record {
      front = k.front;
      forms = subst (λ n. AreWireForms past.given k.front n) (sym same.limit) k.forms;
      parts = k.parts ∙ ap (λ x. k.front ++ x) (sym same.rest);
    } in
    record {
      bytes = s.bytes;
      count = same.count ∙ s.count;
      fault = e ∙ sym is;
      keeps = subst (λ f. KeepsUp f new past) (sym e) kept;
    }

-- an item was whole, and no message was made of it
pub next_failed : (c : Cutter) (past : Past) (used : ℕ) (fault : CutFault) → Stands c past → c.fault ≡ None → ((item : DataItem) × IsWhole (rest_of c) (cut_limit c) item used)
    → AnswersItem (rest_of c) (cut_limit c) (before_of c) used (Err fault) → AnswersNext (cut_limit c) past past.fault (Err fault)
next_failed c past used OutOfMemory s none w h =
    let k = keeps c past s none in
    answers_none (cut_limit c) c past (Err OutOfMemory) s none (record { front = k.front; rest = rest_of c; item = w.0; used = used; forms = k.forms; parts = k.parts; whole = w.1 })
next_failed c past used (NotMessage at) s none w h = next_faulted c past (NotMessage at) s none (h, refl)
next_failed c past used _ s none w h = absurd h

pub stands_failed : (c new : Cutter) (past : Past) (used : ℕ) (fault : CutFault) → Stands c past → c.fault ≡ None → AnswersItem (rest_of c) (cut_limit c) (before_of c) used (Err fault)
    → (fault ≡ OutOfMemory → rest_of new ≡ rest_of c) → fed_count new ≡ fed_count c → cut_limit new ≡ cut_limit c → new.fault ≡ lasting fault → Stands new (after_next past (Err fault))
stands_failed c new past used OutOfMemory s none h rest count limit is = stands_same c new past s none (record { rest = rest refl; count = count; limit = limit }) is
stands_failed c new past used (NotMessage at) s none h rest count limit is = stands_faulted c new past (NotMessage at) s none (h, refl) count limit is
stands_failed c new past used _ s none h rest count limit is = absurd h

-- ---- how many bytes are taken

pub takes_still : (c : Cutter) (past : Past) (fault : CutFault) (r : Result (Option Message) CutFault) (limit taken : ℕ) → Stands c past → c.fault ≡ Some fault → Takes limit past past.fault r taken taken
takes_still c past fault r limit taken s is = subst (λ f. Takes limit past f r taken taken) (sym (s.fault ∙ is)) refl

takes_by : (c : Cutter) (past : Past) (r : Result (Option Message) CutFault) (limit old new : ℕ) → Stands c past → c.fault ≡ None → TakesTo limit past r new → Takes limit past past.fault r old new
takes_by c past r limit old new s none h = subst (λ f. Takes limit past f r old new) (sym (s.fault ∙ none)) h

takes_item : (c : Cutter) (past : Past) (used taken : ℕ) → Stands c past → c.fault ≡ None → ((item : DataItem) × IsWhole (rest_of c) (cut_limit c) item used) → taken ≡ before_of c + used → TakesItem (cut_limit c) past taken
takes_item c past used taken s none w e =
    let k = keeps c past s none in
    record { front = k.front; rest = rest_of c; item = w.0; used = used; forms = k.forms; parts = k.parts; whole = w.1; taken_is = e ∙ ap (λ n. n + used) (place_is c past s k) }

pub takes_given : (c : Cutter) (past : Past) (message : Message) (used old taken : ℕ) → Stands c past → c.fault ≡ None → ((item : DataItem) × IsWhole (rest_of c) (cut_limit c) item used) → taken ≡ before_of c + used
    → Takes (cut_limit c) past past.fault (Ok (Some message)) old taken
takes_given c past message used old taken s none w e = takes_by c past (Ok (Some message)) (cut_limit c) old taken s none (takes_item c past used taken s none w e)

failed_to : (limit : ℕ) (past : Past) (rest : List ℕ) (before used taken : ℕ) (fault : CutFault) → AnswersItem rest limit before used (Err fault) → TakesItem limit past taken → TakesTo limit past (Err fault) taken
failed_to limit past rest before used taken OutOfMemory h t = t
failed_to limit past rest before used taken (NotMessage at) h t = t
failed_to limit past rest before used taken _ h t = absurd h

pub takes_failed : (c : Cutter) (past : Past) (used old taken : ℕ) (fault : CutFault) → Stands c past → c.fault ≡ None → ((item : DataItem) × IsWhole (rest_of c) (cut_limit c) item used)
    → AnswersItem (rest_of c) (cut_limit c) (before_of c) used (Err fault) → taken ≡ before_of c + used → Takes (cut_limit c) past past.fault (Err fault) old taken
takes_failed c past used old taken fault s none w h e =
    takes_by c past (Err fault) (cut_limit c) old taken s none (failed_to (cut_limit c) past (rest_of c) (before_of c) used taken fault h (takes_item c past used taken s none w e))

pub takes_all : (c : Cutter) (past : Past) (old taken : ℕ) → Stands c past → c.fault ≡ None → taken ≡ fed_count c → Takes (cut_limit c) past past.fault (Ok None) old taken
takes_all c past old taken s none e = takes_by c past (Ok None) (cut_limit c) old taken s none (e ∙ s.count)

faulted_to : (limit : ℕ) (past : Past) (rest : List ℕ) (before taken : ℕ) (fault : CutFault) → AnswersFound rest limit before (Err fault) → taken ≡ taken_with limit fault → TakesTo limit past (Err fault) taken
faulted_to limit past rest before taken (NotMessage at) h e = absurd h
faulted_to limit past rest before taken OutOfMemory h e = let k = h.1 in absurd (cc k)
faulted_to limit past rest before taken _ h e = e

pub takes_faulted : (c : Cutter) (past : Past) (old taken : ℕ) (fault : CutFault) → Stands c past → c.fault ≡ None → AnswersFound (rest_of c) (cut_limit c) (before_of c) (Err fault) → taken ≡ taken_with (cut_limit c) fault
    → Takes (cut_limit c) past past.fault (Err fault) old taken
takes_faulted c past old taken fault s none h e = takes_by c past (Err fault) (cut_limit c) old taken s none (faulted_to (cut_limit c) past (rest_of c) (before_of c) taken fault h e)

-- a fault that was found lasts
pub found_lasts : (rest : List ℕ) (limit before : ℕ) (fault : CutFault) → AnswersFound rest limit before (Err fault) → IsFaultOf rest limit before fault × (lasting fault ≡ Some fault)
found_lasts rest limit before (NotMessage at) h = absurd h
found_lasts rest limit before _ h = h

-- a whole item in another cutter with the same rest
pub whole_moved : (c new : Cutter) (used : ℕ) → IsSame c new → ((item : DataItem) × IsWhole (rest_of c) (cut_limit c) item used) → (item : DataItem) × IsWhole (rest_of new) (cut_limit new) item used
whole_moved c new used same w = (w.0, subst (λ n. IsWhole (rest_of new) n w.0 used) (sym same.limit) (subst (λ x. IsWhole x (cut_limit c) w.0 used) (sym same.rest) w.1))

-- after an item fewer bytes wait
pub fewer_wait : (c mid new : Cutter) (used : ℕ) → rest_of mid ≡ rest_of c → ((item : DataItem) × IsWhole (rest_of c) (cut_limit c) item used) → rest_of new ≡ drop used (rest_of mid)
    → length (rest_of new) < length (rest_of c)
fewer_wait c mid new used same w rest =
    let inside = w.1.inside in
    let some : 0 < length (take used (rest_of c)) = no_bytes w.0 (take used (rest_of c)) w.1.encodes in
    omega (arith, ap length rest, ap length same, length-drop used (rest_of mid), length-take-le used (rest_of c) inside)

-- no rest has want of memory
no_memory : (before : ℕ) (kind : RestKind) → fault_of before kind ≡ Some OutOfMemory → ⊥
no_memory before waiting e = cc
no_memory before too_long e = cc
no_memory before not_message e = cc
no_memory before (faulty name.Malformed place) e = cc
no_memory before (faulty _ place) e = cc

-- a fault that lasts
pub lasts_so : (limit : ℕ) (past : Past) (fault : CutFault) → HasFault limit past fault → lasting fault ≡ Some fault
lasts_so limit past OutOfMemory h = absurd (no_memory (length h.front) h.kind h.fault_is)
lasts_so limit past _ h = refl

pub stands_again : (c : Cutter) (past : Past) (fault : CutFault) → Stands c past → c.fault ≡ Some fault → Stands c (after_next past (Err fault))
stands_again c past fault s is =
    let e : past.fault ≡ Some fault = s.fault ∙ is in
    let h : HasFault (cut_limit c) past fault = subst (λ f. KeepsUp f c past) e s.keeps in
    let last : lasting fault ≡ Some fault = lasts_so (cut_limit c) past fault h in
    let same : fault_after past.fault (lasting fault) ≡ past.fault = ap (fault_after past.fault) last ∙ sym e in
    subst (λ f. Stands c (record { fed = past.fed; given = past.given; fault = f })) (sym same) s

-- what waits is counted, and it is nothing after a fault
counts_by : (c : Cutter) (past : Past) (f : Option CutFault) → f ≡ c.fault → KeepsUp f c past → (IsSome c.fault → length (rest_of c) ≡ 0) → CountsRest (cut_limit c) past f (length (rest_of c))
counts_by c past None e k none = record { front = k.front; rest = rest_of c; forms = k.forms; parts = k.parts; count_is = refl }
counts_by c past (Some fault) e k none = none (subst IsSome e refl)

pub counts_rest : (c : Cutter) (past : Past) → Stands c past → (IsSome c.fault → length (rest_of c) ≡ 0) → CountsRest (cut_limit c) past past.fault (length (rest_of c))
counts_rest c past s none = counts_by c past past.fault s.fault s.keeps none
