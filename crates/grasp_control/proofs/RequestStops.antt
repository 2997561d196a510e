-- Where the reading of a request stops.
use Rattle.std.proofs.Common.{◌≡◌, ℕ, ◌≤◌, true, List, Option, Some, None, refl, arith}
use Rattle.grasp_types.specs.declared.call.Call.{Call}
use Rattle.grasp_types.specs.declared.call.Call.TheVariants.{RegisterAsa, DeregisterAsa, RegisterObjective, DeregisterObjective, Discover, RequestNegotiate, ListenNegotiate, StopListenNegotiate, NegotiateStep, NegotiateWait, EndNegotiate, SendInvalid, Poll, Synchronize, ListenSynchronize, StopListenSynchronize, Flood, GetFlood, ExpireFlood}
use Rattle.grasp_types.specs.declared.message.Verdict.TheVariants.{Decline}
use Rattle.grasp_types.specs.declared.session.Handle.{Handle}
use Rattle.grasp_types.specs.declared.session.Kind.TheVariants.{Negotiation}
use Rattle.grasp_text.specs.Grammar.{number32, reason_at}
use Rattle.grasp_text.specs.Reading.{text_of, value_of, maybe_of, address_of}
use Rattle.grasp_text.proofs.Lawful.{Exact}
use Rattle.grasp_text.proofs.Leaves.{text_exact}
use Rattle.grasp_text.proofs.NumberWords.{number_exact}
use Rattle.grasp_text.proofs.PartLaws.{maybe_value_exact}
use Rattle.grasp_text.proofs.SpelledWords.{address_exact}
use Rattle.grasp_text.proofs.ValueWords.{value_exact}
use Rattle.grasp_config.specs.Levels.{level_of}
use Rattle.grasp_config.specs.declared.level.LogLevel.TheVariants.{Quiet}
use Rattle.grasp_script.specs.Grammar.{number64, number8, flags_of, handle_of, kind_of, dry_of, name_at, session_at, objective_call_at, discover_at, step_at, wait_at, decline_at, invalid_at, offer_at, flood_at, with_name, with_session, accepting}
use Rattle.grasp_script.specs.declared.names.CallName.{CallName}
use Rattle.grasp_script.specs.declared.names.CallName.TheVariants as call
use Rattle.grasp_script.proofs.WordReaders.{read_flags, read_handle, read_kind, read_dry}
use Rattle.grasp_control.specs.Grammar.{request_of, await_of, length_of, request_at, synchronize_at, expire_at, control_called_at, awaited_at, await_at, want_at, unwant_at, log_at, asked_at, request_line_at}
use Rattle.grasp_control.specs.declared.names.AwaitName.{AwaitName}
use Rattle.grasp_control.specs.declared.names.AwaitName.TheVariants as awaited
use Rattle.grasp_control.specs.declared.names.RequestName.{RequestName}
use Rattle.grasp_control.specs.declared.names.RequestName.TheVariants as asked
use Rattle.grasp_control.specs.declared.request.Request.{Request}
use Rattle.grasp_control.specs.declared.request.Request.TheVariants as request
use Rattle.grasp_control.proofs.NameReaders.{IsLength, read_request_name, read_await_name, read_level, read_length}
use Rattle.grasp_control.proofs.Stopping.{Reading, reading, Stopping, word_then, word_then_if, over, or_over, making_stops, locator_then}

-- ---- words that are read

by_exact : {A : Type 0} {Is : A → List ℕ → Type 0} {read : List ℕ → Option A} → Exact Is read → Reading read
by_exact E = record { value = E.value; word = E.word; is = E.found E.value E.word E.some }

texts : Reading text_of
texts = by_exact text_exact

values : Reading value_of
values = by_exact value_exact

maybe_values : Reading (maybe_of value_of)
maybe_values = by_exact maybe_value_exact

addresses : Reading address_of
addresses = by_exact address_exact

numbers8 : Reading number8
numbers8 = by_exact (number_exact 255 (omega arith))

numbers32 : Reading number32
numbers32 = by_exact (number_exact 4294967295 (omega arith))

numbers64 : Reading number64
numbers64 = by_exact (number_exact 18446744073709551615 (omega arith))

flags : Reading flags_of
flags = reading read_flags 0 (omega arith)

handles : Reading handle_of
handles = reading read_handle (record { place = 0; number = 0 }) (record { place = refl; number = omega arith })

kinds : Reading kind_of
kinds = reading read_kind Negotiation tt

dries : Reading dry_of
dries = reading read_dry true tt

request_names : Reading request_of
request_names = reading read_request_name asked.State tt

await_names : Reading await_of
await_names = reading read_await_name awaited.Poll tt

levels : Reading level_of
levels = reading read_level Quiet tt

-- 128 is at least each length of a prefix
lengths : (least : ℕ) → least ≤ 128 → Reading (length_of least)
lengths least most = reading (read_length least) 128 (most, omega arith)

-- ---- calls

name_stops : Stopping name_at
unfolding name_at
name_stops = word_then text_of _ texts (λ name. over name)

session_stops : Stopping session_at
unfolding session_at
session_stops = word_then handle_of _ handles (λ handle. over handle)

objective_stops : Stopping objective_call_at
unfolding objective_call_at
objective_stops = word_then text_of _ texts (λ name. word_then flags_of _ flags (λ f. over (RegisterObjective name f)))

discover_stops : Stopping discover_at
unfolding discover_at
discover_stops =
    word_then text_of _ texts (λ name. word_then kind_of _ kinds (λ kind. word_then number8 _ numbers8 (λ loops.
    word_then number32 _ numbers32 (λ timeout. over (Discover name kind loops timeout)))))

request_stops : Stopping request_at
unfolding request_at
request_stops =
    word_then text_of _ texts (λ name. word_then value_of _ values (λ value. word_then number8 _ numbers8 (λ loops.
    word_then number32 _ numbers32 (λ timeout. word_then dry_of _ dries (λ dry.
    locator_then _ (λ peer. over (RequestNegotiate name value loops timeout dry peer)))))))

step_stops : Stopping step_at
unfolding step_at
step_stops = word_then handle_of _ handles (λ handle. word_then value_of _ values (λ value. over (NegotiateStep handle value)))

wait_stops : Stopping wait_at
unfolding wait_at
wait_stops = word_then handle_of _ handles (λ handle. word_then number32 _ numbers32 (λ millis. over (NegotiateWait handle millis)))

reason_stops : Stopping reason_at
reason_stops = or_over None _ (word_then text_of _ texts (λ reason. over (Some reason)))

decline_stops : Stopping decline_at
unfolding decline_at
decline_stops = word_then handle_of _ handles (λ handle. making_stops (λ reason. EndNegotiate handle (Decline reason)) reason_at reason_stops)

invalid_stops : Stopping invalid_at
unfolding invalid_at
invalid_stops = word_then handle_of _ handles (λ handle. word_then (maybe_of value_of) _ maybe_values (λ detail. over (SendInvalid handle detail)))

synchronize_stops : Stopping synchronize_at
unfolding synchronize_at
synchronize_stops =
    word_then text_of _ texts (λ name. word_then number8 _ numbers8 (λ loops. word_then number32 _ numbers32 (λ timeout.
    locator_then _ (λ peer. over (Synchronize name loops timeout peer)))))

offer_stops : Stopping offer_at
unfolding offer_at
offer_stops = word_then text_of _ texts (λ name. word_then value_of _ values (λ value. over (ListenSynchronize name value)))

flood_stops : Stopping flood_at
unfolding flood_at
flood_stops =
    word_then text_of _ texts (λ name. word_then value_of _ values (λ value. word_then number32 _ numbers32 (λ ttl.
    word_then number8 _ numbers8 (λ loops. over (Flood name value ttl loops)))))

expire_stops : Stopping expire_at
unfolding expire_at
expire_stops = word_then text_of _ texts (λ name. word_then address_of _ addresses (λ initiator. over (ExpireFlood name initiator)))

named_stops : (make : List ℕ → Call) → Stopping (with_name make)
named_stops make = making_stops make name_at name_stops

handled_stops : (make : Handle → Call) → Stopping (with_session make)
handled_stops make = making_stops make session_at session_stops

call_stops : (n : CallName) → Stopping (control_called_at n)
call_stops call.Asa = named_stops RegisterAsa
call_stops call.Unasa = over DeregisterAsa
call_stops call.Objective = objective_stops
call_stops call.Unobjective = named_stops DeregisterObjective
call_stops call.Discover = discover_stops
call_stops call.Request = request_stops
call_stops call.Listen = named_stops ListenNegotiate
call_stops call.Unlisten = named_stops StopListenNegotiate
call_stops call.Step = step_stops
call_stops call.Wait = wait_stops
call_stops call.Accept = handled_stops accepting
call_stops call.Decline = decline_stops
call_stops call.Invalid = invalid_stops
call_stops call.Poll = handled_stops Poll
call_stops call.Synchronize = synchronize_stops
call_stops call.Offer = offer_stops
call_stops call.Unoffer = named_stops StopListenSynchronize
call_stops call.Flood = flood_stops
call_stops call.Floods = named_stops GetFlood
call_stops call.Expire = expire_stops

awaited_stops : (n : AwaitName) → Stopping (awaited_at n)
awaited_stops awaited.Discover = discover_stops
awaited_stops awaited.Listen = named_stops ListenNegotiate
awaited_stops awaited.Poll = handled_stops Poll

-- ---- requests

await_stops : Stopping await_at
unfolding await_at
await_stops =
    word_then number32 _ numbers32 (λ millis. word_then await_of _ await_names (λ n.
    making_stops (λ c. request.Await millis c) (awaited_at n) (awaited_stops n)))

unwant_stops : Stopping unwant_at
unfolding unwant_at
unwant_stops = word_then number64 _ numbers64 (λ number. over (request.Unwant number))

log_stops : Stopping log_at
unfolding log_at
log_stops = word_then level_of _ levels (λ level. over (request.Log level))

want_stops : Stopping want_at
unfolding want_at
want_stops =
    word_then_if (length_of 1) _ (lengths 1 (omega arith)) (IsLength 1) (λ w a e. ((read_length 1).only w a e).1) (λ length is.
    word_then (length_of length) _ (lengths length is.1) (λ longest.
    locator_then _ (λ peer. over (request.Want length longest peer))))

asked_stops : (n : RequestName) → Stopping (asked_at n)
asked_stops (asked.Call n) = making_stops (λ c. request.Call c) (control_called_at n) (call_stops n)
asked_stops asked.Await = await_stops
asked_stops asked.State = over request.State
asked_stops asked.Wants = over request.Wants
asked_stops asked.Reads = over request.Reads
asked_stops asked.Events = over request.Events
asked_stops asked.Counters = over request.Counters
asked_stops asked.Version = over request.Version
asked_stops asked.Want = want_stops
asked_stops asked.Unwant = unwant_stops
asked_stops asked.Log = log_stops
asked_stops asked.Stop = over request.Stop

pub line_stops : Stopping request_line_at
unfolding request_line_at
line_stops = word_then request_of _ request_names asked_stops
