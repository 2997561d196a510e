-- No word of a record's line holds a blank, so a line has its words.
use Rattle.std.proofs.Common.{◌≡◌, ℕ, zero, suc, ◌/◌, ◌%◌, ◌≤◌, ◌<◌, ◌^◌, Bool, true, false, eqb, ltb, List, [], ◌∷◌, ◌++◌, Option, Some, None, Ok, Err, refl, arith}
use Rattle.std.specs.List.{AllByRecursion}
use Rattle.std.specs.Prelude.{IfSome, All, codes, decimal, slice_index}
use Rattle.std.specs.Int.{to_be_bytes, w32, w128}
use Rattle.std.proofs.lemmas.Bool.{ltb-true}
use Rattle.std.proofs.lemmas.List.Elements.{All-from_recursion, All-head, All-tail}
use Rattle.std.proofs.lemmas.List.Splits.{slice_split_none}
use Rattle.std.proofs.lemmas.Str.{IsUtf8-from_ascii}
use Rattle.hex.specs.Hex.{encode_with, encode_lower, lower_digits}
use Rattle.grasp_agent.specs.declared.back.ReturnFault.TheVariants as back
use Rattle.grasp_agent.specs.declared.want.WantFault.TheVariants.{Busy, Full}
use Rattle.grasp_cbor.specs.Bytes.{AllBytes}
use Rattle.grasp_cbor.proofs.HeadBytes.{AllBytes-from}
use Rattle.grasp_types.specs.Address.{IsLocator}
use Rattle.grasp_types.specs.Objective.{IsObjective}
use Rattle.grasp_types.specs.Refusal.{refusal_number, refusal_name}
use Rattle.grasp_types.specs.declared.address.Address.{Address}
use Rattle.grasp_types.specs.declared.address.Address.TheVariants as address
use Rattle.grasp_types.specs.declared.address.Locator.{Locator}
use Rattle.grasp_types.specs.declared.address.Locator.TheVariants.{V6, V4, Fqdn, Uri}
use Rattle.grasp_types.specs.declared.address.Proto.{Proto}
use Rattle.grasp_types.specs.declared.address.Proto.TheVariants.{Tcp, Udp}
use Rattle.grasp_types.specs.declared.flood.FloodRead.{FloodRead}
use Rattle.grasp_types.specs.declared.objective.Objective.{Objective}
use Rattle.grasp_types.specs.declared.refusal.ApiRefused.{ApiRefused}
use Rattle.grasp_types.specs.declared.refusal.ApiRefused.TheVariants as refusal
use Rattle.grasp_types.specs.declared.reply.ApiAnswer.{ApiAnswer}
use Rattle.grasp_types.specs.declared.reply.ApiAnswer.TheVariants as api
use Rattle.grasp_types.specs.declared.session.By.{By}
use Rattle.grasp_types.specs.declared.session.By.TheVariants.{Mine, Theirs}
use Rattle.grasp_types.specs.declared.session.Outcome.{Outcome}
use Rattle.grasp_types.specs.declared.session.Outcome.TheVariants as outcome
use Rattle.grasp_types.specs.declared.session.Progress.TheVariants as progress
use Rattle.grasp_types.specs.declared.traffic.Output.{Output}
use Rattle.grasp_types.specs.declared.traffic.Output.TheVariants as output
use Rattle.grasp_text.specs.Line.{v4_word, v6_word, address_word, bytes_word, or_dash, proto_word, objective_words, locator_words, all_locator_words, locator_or_none}
use Rattle.grasp_text.specs.Words.{words_of, is_over}
use Rattle.grasp_text.proofs.Blanks.{hex_visible, each_other}
use Rattle.grasp_text.proofs.HexWords.{wide32, wide128}
use Rattle.grasp_script.specs.Answers.{by_word, outcome_words, answer_words, all_flood_read_words}
use Rattle.grasp_script.proofs.ActLines.{AreWords, small, middle, node, call_whole}
use Rattle.grasp_script.proofs.WholeWords.{IsWord, all_small, spelled, number, text, maybe_value, prefix}
use Rattle.grasp_record.specs.Answers.{output_words, all_output_words, drained_words, told_words, is_poll, IsOutcome, IsApiAnswer, IsFloodRead, IsOfCall, IsOfWant, IsOfReturn, IsOfDatagram, IsOfStream, IsOutput, IsOfDrain, IsAnswerTo}
use Rattle.grasp_record.specs.Inputs.{input_words, IsInput}
use Rattle.grasp_record.specs.Records.{record_words, IsRecord}
use Rattle.grasp_record.specs.declared.line.RecordAnswer.{RecordAnswer}
use Rattle.grasp_record.specs.declared.line.RecordAnswer.TheVariants as answer
use Rattle.grasp_record.specs.declared.line.RecordInput.{RecordInput}
use Rattle.grasp_record.specs.declared.line.RecordInput.TheVariants as input
use Rattle.grasp_record.specs.declared.line.RecordLine.{RecordLine}

-- ---- hexadecimal digits

digit_small : (d : ℕ) → d < 16 → ltb (slice_index lower_digits d) 128 ≡ true
digit_small (suc (suc (suc (suc (suc (suc (suc (suc (suc (suc (suc (suc (suc (suc (suc (suc n)))))))))))))))) lt = absurd (omega arith)
digit_small _ lt = refl

digits_small : (b : List ℕ) → AllBytes b → (i : ℕ) → slice_index (encode_lower b) i < 128
unfolding encode_with
digits_small [] h zero = omega arith
digits_small [] h (suc i) = omega arith
digits_small (c ∷ b) h zero = let small : c < 256 = h.0 in ltb-true (slice_index lower_digits (c / 16)) 128 (digit_small (c / 16) (omega arith))
digits_small (c ∷ b) h (suc zero) = let small : c < 256 = h.0 in ltb-true (slice_index lower_digits (c % 16)) 128 (digit_small (c % 16) (omega arith))
digits_small (c ∷ b) h (suc (suc i)) = digits_small b h.1 i

plain : (w : List ℕ) → AllByRecursion (λ c. eqb c 32 ≡ false) w → ((i : ℕ) → slice_index w i < 128) → IsWord w
plain w h small = record { whole = slice_split_none (λ c. eqb c 32) w (All-from_recursion (λ c. eqb c 32 ≡ false) w h); utf8 = IsUtf8-from_ascii w small }

bytes : (b : List ℕ) → AllBytes b → IsWord (bytes_word b)
bytes b h = plain (bytes_word b) (refl, each_other (encode_lower b) (hex_visible b h).all) small
  where
    small : (i : ℕ) → slice_index (bytes_word b) i < 128
    small zero = omega arith
    small (suc i) = digits_small b h i

digits : (b : List ℕ) → AllBytes b → IsWord (encode_lower b)
digits b h = plain (encode_lower b) (each_other (encode_lower b) (hex_visible b h).all) (digits_small b h)

v4_whole : (n : ℕ) → IsWord (v4_word n)
v4_whole n = digits (to_be_bytes w32 n) (AllBytes-from (to_be_bytes w32 n) (wide32.small n))

v6_whole : (n : ℕ) → IsWord (v6_word n)
v6_whole n = digits (to_be_bytes w128 n) (AllBytes-from (to_be_bytes w128 n) (wide128.small n))

address_whole : (a : Address) → IsWord (address_word a)
address_whole (address.V4 n) = v4_whole n
address_whole (address.V6 n) = v6_whole n

proto : (p : Proto) → IsWord (proto_word p)
proto Tcp = spelled (codes "tcp") refl refl
proto Udp = spelled (codes "udp") refl refl

maybe_proto : (p : Option Proto) → IsWord (or_dash proto_word p)
maybe_proto None = spelled (codes "-") refl refl
maybe_proto (Some p) = proto p

port : (n : ℕ) → n < 2 ^ 16 → IsWord (decimal n)
port n lt = number n (omega arith)

maybe_port : (p : Option ℕ) → IfSome p (λ n. n < 2 ^ 16) → IsWord (or_dash decimal p)
maybe_port None h = spelled (codes "-") refl refl
maybe_port (Some n) h = port n h

by_whole : (b : By) → IsWord (by_word b)
by_whole Mine = spelled (codes "mine") refl refl
by_whole Theirs = spelled (codes "theirs") refl refl

-- ---- some words

both : (xs ys : List (List ℕ)) → AreWords xs → AreWords ys → AreWords (xs ++ ys)
both [] ys p q = q
both (x ∷ xs) ys p q = (p.0, both xs ys p.1 q)

objective_whole : (o : Objective) → IsObjective o → AreWords (objective_words o)
objective_whole o h =
    let flags : o.flags ≤ 15 = h.flags in
    (spelled (codes "obj") refl refl, (text o.name h.name, (number o.flags (omega arith), (small o.loops h.loops, (maybe_value o.value h.value, tt)))))

locator_whole : (l : Locator) → IsLocator l → AreWords (locator_words l)
locator_whole (V6 n p q) h = (spelled (codes "v6") refl refl, (v6_whole n, (proto p, (port q h.1, tt))))
locator_whole (V4 n p q) h = (spelled (codes "v4") refl refl, (v4_whole n, (proto p, (port q h.1, tt))))
locator_whole (Fqdn name p q) h = (spelled (codes "fqdn") refl refl, (text name h.0, (proto p, (port q h.1, tt))))
locator_whole (Uri t p q) h = (spelled (codes "uri") refl refl, (text t h.0, (maybe_proto p, (maybe_port q h.1, tt))))

locators_whole : (ls : List Locator) → All IsLocator ls → AreWords (all_locator_words ls)
locators_whole [] h = tt
locators_whole (l ∷ ls) h = both (locator_words l) (all_locator_words ls) (locator_whole l (All-head IsLocator l ls h)) (locators_whole ls (All-tail IsLocator l ls h))

maybe_locator : (l : Option Locator) → IfSome l IsLocator → AreWords (locator_or_none l)
maybe_locator None h = (spelled (codes "none") refl refl, tt)
maybe_locator (Some l) h = locator_whole l h

outcome_whole : (o : Outcome) → IsOutcome o → AreWords (outcome_words o)
outcome_whole (outcome.Agreed b o) h = (spelled (codes "agreed") refl refl, (by_whole b, objective_whole o h))
outcome_whole (outcome.Declined b None) h = (spelled (codes "declined") refl refl, (by_whole b, tt))
outcome_whole (outcome.Declined b (Some reason)) h = (spelled (codes "declined") refl refl, (by_whole b, (text reason h, tt)))
outcome_whole (outcome.Synchronized o) h = (spelled (codes "synchronized") refl refl, objective_whole o h)
outcome_whole (outcome.TimedOut deadline now) h = (spelled (codes "timedout") refl refl, (number deadline h.0, (number now h.1, tt)))
outcome_whole outcome.Broken h = (spelled (codes "broken") refl refl, tt)
outcome_whole outcome.OutOfMemory h = absurd h
outcome_whole (outcome.Invalid b) h = (spelled (codes "invalid") refl refl, (by_whole b, tt))

reads_whole : (rs : List FloodRead) → AllByRecursion IsFloodRead rs → AreWords (all_flood_read_words rs)
reads_whole [] h = tt
reads_whole (r ∷ rs) h = (address_whole r.initiator, both (objective_words r.objective ++ locator_or_none r.locator) (all_flood_read_words rs) (both (objective_words r.objective) (locator_or_none r.locator) (objective_whole r.objective h.0.objective) (maybe_locator r.locator h.0.locator)) (reads_whole rs h.1))

api_whole : (polled : Bool) (a : ApiAnswer) → IsApiAnswer polled a → AreWords (answer_words a)
api_whole polled (api.Asa n) h = (spelled (codes "asa") refl refl, (middle n h, tt))
api_whole polled api.Done h = (spelled (codes "done") refl refl, tt)
api_whole polled (api.Started handle) h = (spelled (codes "started") refl refl, (number handle.number h.number, tt))
api_whole polled api.Searching h = (spelled (codes "searching") refl refl, tt)
api_whole polled (api.Found ls) h = (spelled (codes "found") refl refl, locators_whole ls h.each)
api_whole polled api.Nothing h = (spelled (codes "nothing") refl refl, tt)
api_whole polled api.NotYet h = (spelled (codes "notyet") refl refl, tt)
api_whole polled (api.Incoming handle from o) h = (spelled (codes "incoming") refl refl, (number handle.number h.0.number, (address_whole from, objective_whole o h.2)))
api_whole polled (api.Polled progress.NotYet) h = (spelled (codes "notyet") refl refl, tt)
api_whole polled (api.Polled (progress.Turn o)) h = (spelled (codes "turn") refl refl, objective_whole o h)
api_whole polled (api.Polled (progress.Ended o)) h = (spelled (codes "ended") refl refl, outcome_whole o h)
api_whole polled (api.Floods rs) h = (spelled (codes "floods") refl refl, reads_whole rs h)

refusal_small : (r : ApiRefused) → refusal_number r < 2 ^ 64
refusal_small refusal.NoAsa = omega arith
refusal_small _ = omega arith

refusal_named : (r : ApiRefused) → words_of (refusal_name r) ≡ refusal_name r ∷ []
refusal_named refusal.NoAsa = refl
refusal_named _ = refl

refusal_ascii : (r : ApiRefused) → all_small (refusal_name r) ≡ true
refusal_ascii refusal.NoAsa = refl
refusal_ascii _ = refl

of_call_whole : (polled : Bool) (a : RecordAnswer) → IsOfCall polled a → AreWords (told_words a)
of_call_whole polled (answer.Api a) h = api_whole polled a h
of_call_whole polled (answer.Refused r) h = (spelled (codes "refused") refl refl, (number (refusal_number r) (refusal_small r), (spelled (refusal_name r) (refusal_named r) (refusal_ascii r), tt)))
of_call_whole polled _ h = absurd h

of_want_whole : (a : RecordAnswer) → IsOfWant a → AreWords (told_words a)
of_want_whole (answer.Want (Ok u)) h = (spelled (codes "ok") refl refl, tt)
of_want_whole (answer.Want (Err (Busy length longest))) h = (spelled (codes "busy") refl refl, (small length h.0, (small longest h.1, tt)))
of_want_whole (answer.Want (Err Full)) h = (spelled (codes "full") refl refl, tt)
of_want_whole _ h = absurd h

of_return_whole : (a : RecordAnswer) → IsOfReturn a → AreWords (told_words a)
of_return_whole (answer.Return (Ok u)) h = (spelled (codes "ok") refl refl, tt)
of_return_whole (answer.Return (Err (back.Busy p))) h = (spelled (codes "busy") refl refl, (prefix p h, tt))
of_return_whole (answer.Return (Err back.NotFree)) h = (spelled (codes "notfree") refl refl, tt)
of_return_whole (answer.Return (Err back.Full)) h = (spelled (codes "full") refl refl, tt)
of_return_whole _ h = absurd h

of_datagram_whole : (a : RecordAnswer) → IsOfDatagram a → AreWords (told_words a)
of_datagram_whole answer.Taken h = (spelled (codes "taken") refl refl, tt)
of_datagram_whole _ h = absurd h

of_stream_whole : (a : RecordAnswer) → IsOfStream a → AreWords (told_words a)
of_stream_whole answer.Taken h = (spelled (codes "taken") refl refl, tt)
of_stream_whole answer.Turned h = (spelled (codes "turned") refl refl, tt)
of_stream_whole _ h = absurd h

output_whole : (o : Output) → IsOutput o → AreWords (output_words o)
output_whole (output.Datagram link to b) h = (spelled (codes "datagram") refl refl, (small link h.0, (small to h.1, (bytes b h.2, tt))))
output_whole (output.Dial stream to) h = (spelled (codes "dial") refl refl, (number stream h.0, locator_whole to h.1))
output_whole (output.Send stream b) h = (spelled (codes "send") refl refl, (number stream h.0, (bytes b h.1, tt)))
output_whole (output.Close stream) h = (spelled (codes "close") refl refl, (number stream h, tt))

outputs_whole : (os : List Output) → AllByRecursion IsOutput os → AreWords (all_output_words os)
outputs_whole [] h = tt
outputs_whole (o ∷ os) h = both (output_words o) (all_output_words os) (output_whole o h.0) (outputs_whole os h.1)

of_drain_whole : (a : RecordAnswer) → IsOfDrain a → AreWords (told_words a)
of_drain_whole (answer.Outputs []) h = (spelled (codes "none") refl refl, tt)
of_drain_whole (answer.Outputs (o ∷ os)) h = outputs_whole (o ∷ os) h
of_drain_whole _ h = absurd h

told_whole : (i : RecordInput) (a : RecordAnswer) → IsAnswerTo i a → AreWords (told_words a)
told_whole (input.Api asa call) a h = of_call_whole (is_poll call) a h
told_whole (input.Agent call) a h = of_call_whole (is_poll call) a h
told_whole (input.Want length longest peer) a h = of_want_whole a h
told_whole (input.Return p to) a h = of_return_whole a h
told_whole (input.Datagram link from b) a h = of_datagram_whole a h
told_whole (input.Opened stream from) a h = of_stream_whole a h
told_whole (input.Bytes stream b) a h = of_stream_whole a h
told_whole (input.Closed stream) a h = of_stream_whole a h
told_whole (input.Drain max) a h = of_drain_whole a h

module _ (nodes : ℕ) (few : nodes ≤ 255) where
  input_whole : (i : RecordInput) → IsInput nodes i → AreWords (input_words i)
  input_whole (input.Api asa call) h = (spelled (codes "api") refl refl, (middle asa h.0, call_whole nodes few call h.1))
  input_whole (input.Agent call) h = (spelled (codes "agent") refl refl, call_whole nodes few call h)
  input_whole (input.Want length longest p) h =
      let rising : length ≤ longest = h.0.rising in
      let most : longest ≤ 128 = h.0.most in
      (spelled (codes "want") refl refl, (number length (omega arith), (number longest (omega arith), (node nodes few p h.1, tt))))
  input_whole (input.Return p to) h = (spelled (codes "return") refl refl, (prefix p h.0, (node nodes few to h.1, tt)))
  input_whole (input.Datagram link from b) h = (spelled (codes "datagram") refl refl, (small link h.0, (small from h.1, (bytes b h.2, tt))))
  input_whole (input.Opened stream from) h = (spelled (codes "opened") refl refl, (number stream h.0, (address_whole from, tt)))
  input_whole (input.Bytes stream b) h = (spelled (codes "bytes") refl refl, (number stream h.0, (bytes b h.1, tt)))
  input_whole (input.Closed stream) h = (spelled (codes "closed") refl refl, (number stream h, tt))
  input_whole (input.Drain max) h = (spelled (codes "drain") refl refl, (middle max h, tt))

  pub record_whole : (x : RecordLine) → IsRecord nodes x → AreWords (record_words x)
  record_whole x h = (node nodes few x.node h.node, (number x.now h.now, both (input_words x.input) (codes "=" ∷ told_words x.answer) (input_whole x.input h.input) (spelled (codes "=") refl refl, told_whole x.input x.answer h.answer)))

-- ---- an answer has a word

api_some : (a : ApiAnswer) → is_over (answer_words a) ≡ false
api_some (api.Polled progress.NotYet) = refl
api_some (api.Polled (progress.Turn o)) = refl
api_some (api.Polled (progress.Ended o)) = refl
api_some (api.Asa n) = refl
api_some _ = refl

drained_some : (os : List Output) → is_over (drained_words os) ≡ false
drained_some [] = refl
drained_some (output.Datagram link to b ∷ os) = refl
drained_some (output.Dial stream to ∷ os) = refl
drained_some (output.Send stream b ∷ os) = refl
drained_some (output.Close stream ∷ os) = refl

pub told_some : (a : RecordAnswer) → is_over (told_words a) ≡ false
told_some (answer.Api a) = api_some a
told_some (answer.Refused r) = refl
told_some (answer.Want (Ok u)) = refl
told_some (answer.Want (Err (Busy length longest))) = refl
told_some (answer.Want (Err Full)) = refl
told_some (answer.Return (Ok u)) = refl
told_some (answer.Return (Err (back.Busy p))) = refl
told_some (answer.Return (Err back.NotFree)) = refl
told_some (answer.Return (Err back.Full)) = refl
told_some answer.Taken = refl
told_some answer.Turned = refl
told_some (answer.Outputs os) = drained_some os
