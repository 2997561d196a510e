-- No line of a record holds a line end.
use Rattle.std.proofs.Common.{◌≡◌, ◌≢◌, ℕ, suc, ◌+◌, ◌-◌, ◌/◌, ◌%◌, ◌^◌, ◌<◌, ◌≤◌, ◌==◌, ◌&&◌, Bool, true, false, cond, eqb, leb, not, nat_le, nat_lt, List, [], ◌∷◌, ◌++◌, Option, Some, None, Result, Ok, Err, refl, arith}
use Rattle.std.specs.List.{AllByRecursion}
use Rattle.std.specs.Prelude.{IfSome, codes, decimal, slice_index, All}
use Rattle.std.specs.Int.{to_be_bytes, w32, w128}
use Rattle.std.specs.Str.{IsUtf8}
use Rattle.std.proofs.lemmas.Bool.{and_parts, eqb-false, leb-true}
use Rattle.std.proofs.lemmas.List.Elements.{All-head, All-tail}
use Rattle.hex.specs.Hex.{encode_with, encode_lower, lower_digits}
use Rattle.grasp_agent.specs.declared.back.ReturnFault.{ReturnFault}
use Rattle.grasp_agent.specs.declared.back.ReturnFault.TheVariants as back
use Rattle.grasp_agent.specs.declared.want.WantFault.{WantFault}
use Rattle.grasp_agent.specs.declared.want.WantFault.TheVariants.{Busy, Full}
use Rattle.grasp_cbor.proofs.HeadBytes.{AllBytes-from}
use Rattle.grasp_cbor.proofs.ShortestBytes.{shortest_bytes}
use Rattle.grasp_cbor.specs.Bytes.{AllBytes}
use Rattle.grasp_cbor.specs.DataItem.{DataItem}
use Rattle.grasp_cbor.specs.Shortest.{shortest}
use Rattle.grasp_types.specs.Address.{IsLocator}
use Rattle.grasp_types.specs.Objective.{IsObjective, IsValue}
use Rattle.grasp_types.specs.Prefix.{AddressBlock, IsPrefix}
use Rattle.grasp_types.specs.Refusal.{refusal_number, refusal_name}
use Rattle.grasp_types.specs.declared.address.Address.{Address}
use Rattle.grasp_types.specs.declared.address.Address.TheVariants as address
use Rattle.grasp_types.specs.declared.address.Locator.{Locator}
use Rattle.grasp_types.specs.declared.address.Locator.TheVariants.{V6, V4, Fqdn, Uri}
use Rattle.grasp_types.specs.declared.address.Proto.{Proto}
use Rattle.grasp_types.specs.declared.address.Proto.TheVariants.{Tcp, Udp}
use Rattle.grasp_types.specs.declared.call.Call.{Call}
use Rattle.grasp_types.specs.declared.call.Call.TheVariants as call
use Rattle.grasp_types.specs.declared.flood.FloodRead.{FloodRead}
use Rattle.grasp_types.specs.declared.message.Verdict.TheVariants.{Accept, Decline}
use Rattle.grasp_types.specs.declared.objective.Objective.{Objective}
use Rattle.grasp_types.specs.declared.refusal.ApiRefused.{ApiRefused}
use Rattle.grasp_types.specs.declared.refusal.ApiRefused.TheVariants as refusal
use Rattle.grasp_types.specs.declared.reply.ApiAnswer.{ApiAnswer}
use Rattle.grasp_types.specs.declared.reply.ApiAnswer.TheVariants as api
use Rattle.grasp_types.specs.declared.session.By.{By}
use Rattle.grasp_types.specs.declared.session.By.TheVariants.{Mine, Theirs}
use Rattle.grasp_types.specs.declared.session.Kind.{Kind}
use Rattle.grasp_types.specs.declared.session.Kind.TheVariants.{Negotiation, Synchronization}
use Rattle.grasp_types.specs.declared.session.Outcome.{Outcome}
use Rattle.grasp_types.specs.declared.session.Outcome.TheVariants as outcome
use Rattle.grasp_types.specs.declared.session.Progress.{Progress}
use Rattle.grasp_types.specs.declared.session.Progress.TheVariants as progress
use Rattle.grasp_types.specs.declared.traffic.Output.{Output}
use Rattle.grasp_types.specs.declared.traffic.Output.TheVariants as output
use Rattle.grasp_text.proofs.HexWords.{wide32, wide128}
use Rattle.grasp_text.proofs.Leaves.{AreBytes, text_bytes}
use Rattle.grasp_text.specs.Line.{address_word, all_escaped, all_locator_words, bytes_word, escaped, locator_or_none, locator_words, objective_words, or_dash, prefix_word, proto_word, text_word, v4_word, v6_word, value_word}
use Rattle.grasp_text.specs.Reading.{is_plain}
use Rattle.grasp_text.specs.Words.{joined}
use Rattle.grasp_script.specs.Answers.{all_flood_read_words, answer_words, by_word, flood_read_words, outcome_words, progress_words}
use Rattle.grasp_script.specs.Calls.{IsCall, call_words, dry_word, initiator_word, kind_word, node_word, peer_word}
use Rattle.grasp_script.specs.Reports.{return_words, want_words}
use Rattle.grasp_model_network.specs.Setting.{script_number}
use Rattle.grasp_laws_draws.proofs.LineEnds.{HasNoEnd, append_ends, byte_ends, has_no_end, number_ends, nothing_ends}
use Rattle.grasp_record.specs.Answers.{IsAnswerTo, IsApiAnswer, IsFloodRead, IsOfCall, IsOfStream, IsOutcome, IsOutput, IsProgress, IsReturned, IsWanted, all_output_words, drained_words, is_poll, output_words, told_words}
use Rattle.grasp_record.specs.Inputs.{IsInput, input_words}
use Rattle.grasp_record.specs.Records.{IsRecord, record_line, record_words}
use Rattle.grasp_record.specs.declared.line.RecordAnswer.{RecordAnswer}
use Rattle.grasp_record.specs.declared.line.RecordAnswer.TheVariants as answer
use Rattle.grasp_record.specs.declared.line.RecordInput.{RecordInput}
use Rattle.grasp_record.specs.declared.line.RecordInput.TheVariants as took
use Rattle.grasp_record.specs.declared.line.RecordLine.{RecordLine}

-- words without a line end
abbrev pub AreUnbroken : List (List ℕ) → Type 0
AreUnbroken ws = AllByRecursion HasNoEnd ws

both : (xs ys : List (List ℕ)) → AreUnbroken xs → AreUnbroken ys → AreUnbroken (xs ++ ys)
both [] ys p q = q
both (x ∷ xs) ys p q = (p.0, both xs ys p.1 q)

spelled : (w : List ℕ) → has_no_end w ≡ true → HasNoEnd w
spelled w e = record { none = e }

-- ---- digits

digit_is : (d : ℕ) → d < 16 → eqb (slice_index lower_digits d) 10 ≡ false
digit_is (suc (suc (suc (suc (suc (suc (suc (suc (suc (suc (suc (suc (suc (suc (suc (suc n)))))))))))))))) lt = absurd (omega arith)
digit_is _ lt = refl

digit : (d : ℕ) → d < 16 → slice_index lower_digits d ≢ 10
digit d lt = eqb-false (slice_index lower_digits d) 10 (digit_is d lt)

hex : (bytes : List ℕ) → AllBytes bytes → HasNoEnd (encode_lower bytes)
unfolding encode_with
hex [] h = nothing_ends
hex (b ∷ bytes) h =
    let small : b < 256 = h.0 in
    byte_ends (slice_index lower_digits (b / 16)) _ (digit (b / 16) (omega arith)) (byte_ends (slice_index lower_digits (b % 16)) _ (digit (b % 16) (omega arith)) (hex bytes h.1))

v4 : (n : ℕ) → HasNoEnd (v4_word n)
v4 n = hex (to_be_bytes w32 n) (AllBytes-from (to_be_bytes w32 n) (wide32.small n))

v6 : (n : ℕ) → HasNoEnd (v6_word n)
v6 n = hex (to_be_bytes w128 n) (AllBytes-from (to_be_bytes w128 n) (wide128.small n))

bytes : (b : List ℕ) → AllBytes b → HasNoEnd (bytes_word b)
bytes b h = byte_ends 120 (encode_lower b) (λ e. omega arith) (hex b h)

value : (v : DataItem) → IsValue v → HasNoEnd (value_word v)
value v h = byte_ends 120 (encode_lower (shortest v)) (λ e. omega arith) (hex (shortest v) (shortest_bytes v h.encodable))

-- ---- texts

visible : (b : ℕ) → (leb 33 b && leb b 126) ≡ true → b ≢ 10
visible b e same = let low : 33 ≤ b = leb-true 33 b (and_parts (leb 33 b) (leb b 126) e).0 in omega arith

escaped_at : (b : ℕ) (p : Bool) → b < 256 → is_plain b ≡ p → HasNoEnd (cond p (b ∷ []) (37 ∷ slice_index lower_digits (b / 16) ∷ slice_index lower_digits (b % 16) ∷ []))
escaped_at b false small e =
    byte_ends 37 _ (λ x. omega arith) (byte_ends (slice_index lower_digits (b / 16)) _ (digit (b / 16) (omega arith)) (byte_ends (slice_index lower_digits (b % 16)) _ (digit (b % 16) (omega arith)) nothing_ends))
escaped_at b true small e = byte_ends b [] (visible b (and_parts (leb 33 b && leb b 126) (not (eqb b 37)) e).0) nothing_ends

escapes : (t : List ℕ) → AreBytes t → HasNoEnd (all_escaped t)
escapes [] h = nothing_ends
escapes (b ∷ t) h = append_ends (escaped b) (all_escaped t) (escaped_at b (is_plain b) h.0 refl) (escapes t h.1)

text : (t : List ℕ) → IsUtf8 t → HasNoEnd (text_word t)
text t u = byte_ends 39 (all_escaped t) (λ e. omega arith) (escapes t (text_bytes t u))

-- ---- words of a few

dash : HasNoEnd (codes "-")
unfolding has_no_end
dash = spelled (codes "-") refl

maybe_value : (v : Option DataItem) → IfSome v IsValue → HasNoEnd (or_dash value_word v)
maybe_value None h = dash
maybe_value (Some v) h = value v h

proto : (p : Proto) → HasNoEnd (proto_word p)
unfolding has_no_end
proto Tcp = spelled (codes "tcp") refl
proto Udp = spelled (codes "udp") refl

maybe_proto : (p : Option Proto) → HasNoEnd (or_dash proto_word p)
maybe_proto None = dash
maybe_proto (Some p) = proto p

maybe_port : (p : Option ℕ) → IfSome p (λ n. n < 2 ^ 16) → HasNoEnd (or_dash decimal p)
maybe_port None h = dash
maybe_port (Some n) h = number_ends n (omega arith)

an_address : (a : Address) → HasNoEnd (address_word a)
an_address (address.V4 n) = v4 n
an_address (address.V6 n) = v6 n

a_prefix : (p : AddressBlock) → IsPrefix p.address p.length → HasNoEnd (prefix_word p)
a_prefix p h =
    let most : p.length ≤ 128 = h.most in
    append_ends (v6_word p.address) (47 ∷ decimal p.length) (v6 p.address) (byte_ends 47 (decimal p.length) (λ e. omega arith) (number_ends p.length (omega arith)))

objective : (o : Objective) → IsObjective o → AreUnbroken (objective_words o)
unfolding has_no_end
objective o h =
    let flags : o.flags ≤ 15 = h.flags in
    let loops : o.loops < 2 ^ 8 = h.loops in
    (spelled (codes "obj") refl, (text o.name h.name, (number_ends o.flags (omega arith), (number_ends o.loops (omega arith), (maybe_value o.value h.value, tt)))))

locator : (l : Locator) → IsLocator l → AreUnbroken (locator_words l)
unfolding has_no_end
locator (V6 n p port) h = let small : port < 2 ^ 16 = h.1 in (spelled (codes "v6") refl, (v6 n, (proto p, (number_ends port (omega arith), tt))))
locator (V4 n p port) h = let small : port < 2 ^ 16 = h.1 in (spelled (codes "v4") refl, (v4 n, (proto p, (number_ends port (omega arith), tt))))
locator (Fqdn name p port) h = let small : port < 2 ^ 16 = h.1 in (spelled (codes "fqdn") refl, (text name h.0, (proto p, (number_ends port (omega arith), tt))))
locator (Uri uri p port) h = (spelled (codes "uri") refl, (text uri h.0, (maybe_proto p, (maybe_port port h.1, tt))))

locators : (ls : List Locator) → All IsLocator ls → AreUnbroken (all_locator_words ls)
locators [] h = tt
locators (l ∷ ls) h = both (locator_words l) (all_locator_words ls) (locator l (All-head IsLocator l ls h)) (locators ls (All-tail IsLocator l ls h))

maybe_locator : (l : Option Locator) → IfSome l IsLocator → AreUnbroken (locator_or_none l)
unfolding has_no_end
maybe_locator None h = (spelled (codes "none") refl, tt)
maybe_locator (Some l) h = locator l h

-- ---- nodes

little_more : (n base : ℕ) → n ≤ base + 255 → n - base < 2 ^ 64
little_more n base h = omega (arith, h)

node_at : (n : ℕ) (b : Bool) → (nat_lt (script_number 0) n && nat_le n (script_number 255)) ≡ b → HasNoEnd (cond b (decimal (n - script_number 0)) (codes "-"))
node_at n true e = number_ends (n - script_number 0) (little_more n (script_number 0) (leb-true n (script_number 255) (and_parts (nat_lt (script_number 0) n) (nat_le n (script_number 255)) e).1))
node_at n false e = dash

node : (n : ℕ) → HasNoEnd (node_word n)
node n = node_at n (nat_lt (script_number 0) n && nat_le n (script_number 255)) refl

port_at : (n : ℕ) (b : Bool) → HasNoEnd (cond b (node_word n) (codes "-"))
port_at n true = node n
port_at n false = dash

peer : (l : Locator) → HasNoEnd (peer_word l)
peer (V6 n Tcp port) = port_at n (port == 7017)
peer (V6 n Udp port) = dash
peer (V4 n p port) = dash
peer (Fqdn name p port) = dash
peer (Uri uri p port) = dash

initiator : (a : Address) → HasNoEnd (initiator_word a)
initiator (address.V4 n) = dash
initiator (address.V6 n) = node n

-- ---- calls

kind : (k : Kind) → HasNoEnd (kind_word k)
unfolding has_no_end
kind Negotiation = spelled (codes "neg") refl
kind Synchronization = spelled (codes "syn") refl

dry : (d : Bool) → HasNoEnd (dry_word d)
unfolding has_no_end
dry true = spelled (codes "dry") refl
dry false = spelled (codes "wet") refl

calls : (nodes : ℕ) (c : Call) → IsCall nodes c → AreUnbroken (call_words c)
unfolding has_no_end
calls nodes (call.RegisterAsa name) h = (spelled (codes "asa") refl, (text name h, tt))
calls nodes call.DeregisterAsa h = (spelled (codes "unasa") refl, tt)
calls nodes (call.RegisterObjective name flags) h = let few = h.1 in (spelled (codes "objective") refl, (text name h.0, (number_ends flags (omega (arith, few)), tt)))
calls nodes (call.DeregisterObjective name) h = (spelled (codes "unobjective") refl, (text name h, tt))
calls nodes (call.Discover name k loops timeout) h =
    let a = h.1 in
    let b = h.2 in
    (spelled (codes "discover") refl, (text name h.0, (kind k, (number_ends loops (omega (arith, a)), (number_ends timeout (omega (arith, b)), tt)))))
calls nodes (call.RequestNegotiate name v loops timeout d to) h =
    let a = h.2 in
    let b = h.3 in
    (spelled (codes "request") refl, (text name h.0, (value v h.1, (number_ends loops (omega (arith, a)), (number_ends timeout (omega (arith, b)), (dry d, (peer to, tt)))))))
calls nodes (call.ListenNegotiate name) h = (spelled (codes "listen") refl, (text name h, tt))
calls nodes (call.StopListenNegotiate name) h = (spelled (codes "unlisten") refl, (text name h, tt))
calls nodes (call.NegotiateStep handle v) h = (spelled (codes "step") refl, (number_ends handle.number h.0.number, (value v h.1, tt)))
calls nodes (call.NegotiateWait handle millis) h = let a = h.1 in (spelled (codes "wait") refl, (number_ends handle.number h.0.number, (number_ends millis (omega (arith, a)), tt)))
calls nodes (call.EndNegotiate handle Accept) h = (spelled (codes "accept") refl, (number_ends handle.number h.0.number, tt))
calls nodes (call.EndNegotiate handle (Decline None)) h = (spelled (codes "decline") refl, (number_ends handle.number h.0.number, tt))
calls nodes (call.EndNegotiate handle (Decline (Some reason))) h = (spelled (codes "decline") refl, (number_ends handle.number h.0.number, (text reason h.1, tt)))
calls nodes (call.SendInvalid handle detail) h = (spelled (codes "invalid") refl, (number_ends handle.number h.0.number, (maybe_value detail h.1, tt)))
calls nodes (call.Poll handle) h = (spelled (codes "poll") refl, (number_ends handle.number h.number, tt))
calls nodes (call.Synchronize name loops timeout to) h =
    let a = h.1 in
    let b = h.2 in
    (spelled (codes "synchronize") refl, (text name h.0, (number_ends loops (omega (arith, a)), (number_ends timeout (omega (arith, b)), (peer to, tt)))))
calls nodes (call.ListenSynchronize name v) h = (spelled (codes "offer") refl, (text name h.0, (value v h.1, tt)))
calls nodes (call.StopListenSynchronize name) h = (spelled (codes "unoffer") refl, (text name h, tt))
calls nodes (call.Flood name v ttl loops) h =
    let a = h.2 in
    let b = h.3 in
    (spelled (codes "flood") refl, (text name h.0, (value v h.1, (number_ends ttl (omega (arith, a)), (number_ends loops (omega (arith, b)), tt)))))
calls nodes (call.GetFlood name) h = (spelled (codes "floods") refl, (text name h, tt))
calls nodes (call.ExpireFlood name by) h = (spelled (codes "expire") refl, (text name h.0, (initiator by, tt)))

-- ---- answers

doer : (by : By) → HasNoEnd (by_word by)
unfolding has_no_end
doer Mine = spelled (codes "mine") refl
doer Theirs = spelled (codes "theirs") refl

outcomes : (o : Outcome) → IsOutcome o → AreUnbroken (outcome_words o)
unfolding has_no_end
outcomes (outcome.Agreed by o) h = (spelled (codes "agreed") refl, (doer by, objective o h))
outcomes (outcome.Declined by None) h = (spelled (codes "declined") refl, (doer by, tt))
outcomes (outcome.Declined by (Some reason)) h = (spelled (codes "declined") refl, (doer by, (text reason h, tt)))
outcomes (outcome.Synchronized o) h = (spelled (codes "synchronized") refl, objective o h)
outcomes (outcome.TimedOut deadline now) h = (spelled (codes "timedout") refl, (number_ends deadline h.0, (number_ends now h.1, tt)))
outcomes outcome.Broken h = (spelled (codes "broken") refl, tt)
outcomes outcome.OutOfMemory h = absurd h
outcomes (outcome.Invalid by) h = (spelled (codes "invalid") refl, (doer by, tt))

progresses : (polled : Bool) (p : Progress) → IsProgress polled p → AreUnbroken (progress_words p)
unfolding has_no_end
progresses polled progress.NotYet h = (spelled (codes "notyet") refl, tt)
progresses polled (progress.Turn o) h = (spelled (codes "turn") refl, objective o h)
progresses polled (progress.Ended o) h = (spelled (codes "ended") refl, outcomes o h)

reads_of : (r : FloodRead) → IsFloodRead r → AreUnbroken (flood_read_words r)
reads_of r h = (an_address r.initiator, both (objective_words r.objective) (locator_or_none r.locator) (objective r.objective h.objective) (maybe_locator r.locator h.locator))

reads : (rs : List FloodRead) → AllByRecursion IsFloodRead rs → AreUnbroken (all_flood_read_words rs)
reads [] h = tt
reads (r ∷ rs) h = both (flood_read_words r) (all_flood_read_words rs) (reads_of r h.0) (reads rs h.1)

apis : (polled : Bool) (a : ApiAnswer) → IsApiAnswer polled a → AreUnbroken (answer_words a)
unfolding has_no_end
apis polled (api.Asa number) h = (spelled (codes "asa") refl, (number_ends number (omega (arith, h)), tt))
apis polled api.Done h = (spelled (codes "done") refl, tt)
apis polled (api.Started handle) h = (spelled (codes "started") refl, (number_ends handle.number h.number, tt))
apis polled api.Searching h = (spelled (codes "searching") refl, tt)
apis polled (api.Found ls) h = (spelled (codes "found") refl, locators ls h.each)
apis polled api.Nothing h = (spelled (codes "nothing") refl, tt)
apis polled api.NotYet h = (spelled (codes "notyet") refl, tt)
apis polled (api.Incoming handle from o) h = (spelled (codes "incoming") refl, (number_ends handle.number h.0.number, (an_address from, objective o h.2)))
apis polled (api.Polled p) h = progresses polled p h
apis polled (api.Floods rs) h = (spelled (codes "floods") refl, reads rs h)

refusal_numbers : (r : ApiRefused) → refusal_number r < 2 ^ 64
refusal_numbers refusal.OutOfMemory = omega arith
refusal_numbers _ = omega arith

refusal_names : (r : ApiRefused) → HasNoEnd (refusal_name r)
unfolding has_no_end
refusal_names refusal.OutOfMemory = spelled _ refl
refusal_names _ = spelled _ refl

outputs_of : (o : Output) → IsOutput o → AreUnbroken (output_words o)
unfolding has_no_end
outputs_of (output.Datagram link to b) h =
    let x = h.0 in
    let y = h.1 in
    (spelled (codes "datagram") refl, (number_ends link (omega (arith, x)), (number_ends to (omega (arith, y)), (bytes b h.2, tt))))
outputs_of (output.Dial stream to) h = (spelled (codes "dial") refl, (number_ends stream h.0, locator to h.1))
outputs_of (output.Send stream b) h = (spelled (codes "send") refl, (number_ends stream h.0, (bytes b h.1, tt)))
outputs_of (output.Close stream) h = (spelled (codes "close") refl, (number_ends stream h, tt))

all_outputs : (os : List Output) → AllByRecursion IsOutput os → AreUnbroken (all_output_words os)
all_outputs [] h = tt
all_outputs (o ∷ os) h = both (output_words o) (all_output_words os) (outputs_of o h.0) (all_outputs os h.1)

drains : (os : List Output) → AllByRecursion IsOutput os → AreUnbroken (drained_words os)
unfolding has_no_end
drains [] h = (spelled (codes "none") refl, tt)
drains (o ∷ os) h = all_outputs (o ∷ os) h

wants : (r : Result (Unit {0}) WantFault) → IsWanted r → AreUnbroken (want_words r)
unfolding has_no_end
wants (Ok u) h = (spelled (codes "ok") refl, tt)
wants (Err (Busy shortest longest)) h =
    let a = h.0 in
    let b = h.1 in
    (spelled (codes "busy") refl, (number_ends shortest (omega (arith, a)), (number_ends longest (omega (arith, b)), tt)))
wants (Err Full) h = (spelled (codes "full") refl, tt)

returns : (r : Result (Unit {0}) ReturnFault) → IsReturned r → AreUnbroken (return_words r)
unfolding has_no_end
returns (Ok u) h = (spelled (codes "ok") refl, tt)
returns (Err (back.Busy prefix)) h = (spelled (codes "busy") refl, (a_prefix prefix h, tt))
returns (Err back.NotFree) h = (spelled (codes "notfree") refl, tt)
returns (Err back.Full) h = (spelled (codes "full") refl, tt)

taken : AreUnbroken (codes "taken" ∷ [])
unfolding has_no_end
taken = (spelled (codes "taken") refl, tt)

turned : AreUnbroken (codes "turned" ∷ [])
unfolding has_no_end
turned = (spelled (codes "turned") refl, tt)

refused : (r : ApiRefused) → AreUnbroken (told_words (answer.Refused r))
unfolding has_no_end
refused r = (spelled (codes "refused") refl, (number_ends (refusal_number r) (refusal_numbers r), (refusal_names r, tt)))

of_call : (polled : Bool) (a : RecordAnswer) → IsOfCall polled a → AreUnbroken (told_words a)
of_call polled (answer.Api a) h = apis polled a h
of_call polled (answer.Refused r) h = refused r
of_call polled _ h = absurd h

of_stream : (a : RecordAnswer) → IsOfStream a → AreUnbroken (told_words a)
of_stream answer.Taken h = taken
of_stream answer.Turned h = turned
of_stream _ h = absurd h

answers : (i : RecordInput) (a : RecordAnswer) → IsAnswerTo i a → AreUnbroken (told_words a)
answers (took.Api asa c) a h = of_call (is_poll c) a h
answers (took.Agent c) a h = of_call (is_poll c) a h
answers (took.Want shortest longest to) (answer.Want r) h = wants r h
answers (took.Want shortest longest to) _ h = absurd h
answers (took.Return prefix to) (answer.Return r) h = returns r h
answers (took.Return prefix to) _ h = absurd h
answers (took.Datagram link from b) answer.Taken h = taken
answers (took.Datagram link from b) _ h = absurd h
answers (took.Opened stream from) a h = of_stream a h
answers (took.Bytes stream b) a h = of_stream a h
answers (took.Closed stream) a h = of_stream a h
answers (took.Drain max) (answer.Outputs os) h = drains os h
answers (took.Drain max) _ h = absurd h

-- ---- inputs

inputs : (nodes : ℕ) → nodes ≤ 255 → (i : RecordInput) → IsInput nodes i → AreUnbroken (input_words i)
unfolding has_no_end
inputs nodes few (took.Api asa c) h = let a = h.0 in (spelled (codes "api") refl, (number_ends asa (omega (arith, a)), calls nodes c h.1))
inputs nodes few (took.Agent c) h = (spelled (codes "agent") refl, calls nodes c h)
inputs nodes few (took.Want shortest longest to) h =
    let rising = h.0.rising in
    let most = h.0.most in
    let within = h.1.most in
    (spelled (codes "want") refl, (number_ends shortest (omega (arith, rising, most)), (number_ends longest (omega (arith, most)), (number_ends to (omega (arith, within, few)), tt))))
inputs nodes few (took.Return prefix to) h = let within = h.1.most in (spelled (codes "return") refl, (a_prefix prefix h.0, (number_ends to (omega (arith, within, few)), tt)))
inputs nodes few (took.Datagram link from b) h =
    let x = h.0 in
    let y = h.1 in
    (spelled (codes "datagram") refl, (number_ends link (omega (arith, x)), (number_ends from (omega (arith, y)), (bytes b h.2, tt))))
inputs nodes few (took.Opened stream from) h = (spelled (codes "opened") refl, (number_ends stream h.0, (an_address from, tt)))
inputs nodes few (took.Bytes stream b) h = (spelled (codes "bytes") refl, (number_ends stream h.0, (bytes b h.1, tt)))
inputs nodes few (took.Closed stream) h = (spelled (codes "closed") refl, (number_ends stream h, tt))
inputs nodes few (took.Drain max) h = (spelled (codes "drain") refl, (number_ends max (omega (arith, h)), tt))

-- ---- lines

sign : AreUnbroken (codes "=" ∷ [])
unfolding has_no_end
sign = (spelled (codes "=") refl, tt)

words : (nodes : ℕ) → nodes ≤ 255 → (x : RecordLine) → IsRecord nodes x → AreUnbroken (record_words x)
words nodes few x h =
    let within = h.node.most in
    (number_ends x.node (omega (arith, within, few)), (number_ends x.now h.now, both (input_words x.input) (codes "=" ∷ told_words x.answer) (inputs nodes few x.input h.input) (sign.0, answers x.input x.answer h.answer)))

joins : (w : List ℕ) (ws : List (List ℕ)) → HasNoEnd w → AreUnbroken ws → HasNoEnd (joined (w ∷ ws))
joins w [] h k = h
joins w (v ∷ ws) h k = append_ends w (32 ∷ joined (v ∷ ws)) h (byte_ends 32 (joined (v ∷ ws)) (λ e. omega arith) (joins v ws k.0 k.1))

-- the line of a record in range holds no line end
pub line_unbroken : (nodes : ℕ) → nodes ≤ 255 → (x : RecordLine) → IsRecord nodes x → HasNoEnd (record_line x)
line_unbroken nodes few x h =
    let ws = words nodes few x h in
    joins (decimal x.node) (decimal x.now ∷ (input_words x.input ++ codes "=" ∷ told_words x.answer)) ws.0 ws.1
