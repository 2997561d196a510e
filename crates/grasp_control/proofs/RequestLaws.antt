-- A request is read where its words are, and nowhere else.
use Rattle.std.proofs.Common.{◌≡◌, ℕ, ◌≤◌, Bool, true, false, List, [], ◌∷◌, ◌++◌, Ok, refl, sym, ap, subst, ◌∙◌, arith}
use Rattle.std.specs.Prelude.{codes, decimal}
use Rattle.grasp_types.specs.declared.address.Locator.{Locator}
use Rattle.grasp_types.specs.declared.call.Call.{Call}
use Rattle.grasp_types.specs.declared.call.Call.TheVariants.{Discover, ListenNegotiate, Poll}
use Rattle.grasp_text.specs.Grammar.{ending}
use Rattle.grasp_config.specs.Levels.{level_word}
use Rattle.grasp_config.specs.declared.level.LogLevel.{LogLevel}
use Rattle.grasp_script.specs.Grammar.{called_at}
use Rattle.grasp_text.specs.Line.{locator_words}
use Rattle.grasp_text.specs.Reading.{Parsed}
use Rattle.grasp_text.proofs.Lawful.{ok_is}
use Rattle.grasp_text.proofs.Readers.{locators_read}
use Rattle.grasp_script.specs.declared.names.CallName.{CallName}
use Rattle.grasp_script.specs.declared.names.CallName.TheVariants as call
use Rattle.grasp_script.proofs.Fields.{taken, ended, after, Means}
use Rattle.grasp_script.proofs.WordReaders.{call_word, read32, read64, small32, small64, within32, within64}
use Rattle.grasp_control.specs.Grammar.{control_called_at, awaited_at, await_at, want_at, unwant_at, log_at, as_call, asked_at, request_line_at}
use Rattle.grasp_control.specs.Requests.{control_call_words, IsControlCall, may_wait, request_words, IsRequest}
use Rattle.grasp_control.specs.declared.names.AwaitName.{AwaitName}
use Rattle.grasp_control.specs.declared.names.AwaitName.TheVariants as awaited
use Rattle.grasp_control.specs.declared.names.RequestName.{RequestName}
use Rattle.grasp_control.specs.declared.names.RequestName.TheVariants as asked
use Rattle.grasp_control.specs.declared.request.Request.{Request}
use Rattle.grasp_control.specs.declared.request.Request.TheVariants as request
use Rattle.grasp_control.proofs.CallNames.{name_of, begun, named, called_only, called_found, is_own, name_waits, waits_by_name}
use Rattle.grasp_control.proofs.CallRequests.{Named, plain_only, call_only, locator_found, call_found}
use Rattle.grasp_control.proofs.NameReaders.{request_word, request_again, read_request_name, await_word, await_again, read_await_name, read_level, read_length}
use Rattle.grasp_control.proofs.SomeWords.{taken_words, at_end, was_read}

abbrev Asked : List ℕ → Request → List (List ℕ) → Type 0
Asked word r ws = Means IsRequest request_words r (word ∷ ws)

-- ---- calls

call_asked : (n : CallName) (ws : List (List ℕ)) (x : Request × List (List ℕ)) → asked_at (asked.Call n) ws ≡ Ok x → Asked (request_word (asked.Call n)) x.0 ws
call_asked n ws x e =
    let c = was_read _ (control_called_at n ws) x e
    in let m = call_only n ws c.first c.is
    in subst (λ y. Asked (request_word (asked.Call n)) y ws) (ap (λ (y : Request × List (List ℕ)). y.0) (ok_is (request.Call c.first.0, c.first.1) x c.more))
    (record { ranges = m.ranges; spelled = m.spelled })

-- a call that may have nothing to tell yet
record Waiting (word : List ℕ) (c : Call) (ws : List (List ℕ)) : Type 0 where
  waits : may_wait c ≡ true
  means : Named word c ws

awaited_by : (n : CallName) → is_own n ≡ false → name_waits n ≡ true → (ws : List (List ℕ)) (x : Call × List (List ℕ)) → called_at 1 n ws ≡ Ok x → Waiting (call_word n) x.0 ws
awaited_by n own waits ws x e = record {
  waits = waits_by_name x.0 ∙ ap name_waits (sym (named x.0 n ws (called_only n ws x e).spelled)) ∙ waits;
  means = plain_only n own ws x e;
}

awaited_only : (n : AwaitName) (ws : List (List ℕ)) (x : Call × List (List ℕ)) → awaited_at n ws ≡ Ok x → Waiting (await_word n) x.0 ws
awaited_only awaited.Discover ws x e = awaited_by call.Discover refl refl ws x e
awaited_only awaited.Listen ws x e = awaited_by call.Listen refl refl ws x e
awaited_only awaited.Poll ws x e = awaited_by call.Poll refl refl ws x e

await_only : (ws : List (List ℕ)) (x : Request × List (List ℕ)) → await_at ws ≡ Ok x → Asked (codes "await") x.0 ws
unfolding await_at
await_only ws x e =
    let a = taken read32 _ ws x e
    in let n = taken read_await_name _ a.rest x a.more
    in let c = was_read _ (awaited_at n.first n.rest) x n.more
    in let m = awaited_only n.first n.rest c.first c.is
    in subst (λ y. Asked (codes "await") y ws) (ap (λ (y : Request × List (List ℕ)). y.0) (ok_is (request.Await a.first c.first.0, c.first.1) x c.more)) (record {
      ranges = (small32 a.is, m.waits, m.means.ranges);
      spelled = ap (λ t. codes "await" ∷ t) (after a.parts (n.parts ∙ m.means.spelled));
    })

-- ---- the others

want_only : (ws : List (List ℕ)) (x : Request × List (List ℕ)) → want_at ws ≡ Ok x → Asked (codes "want") x.0 ws
unfolding want_at
want_only ws x e =
    let a = taken (read_length 1) _ ws x e
    in let b = taken (read_length a.first) _ a.rest x a.more
    in let l = taken_words locators_read _ b.rest x b.more
    in let z = ended (request.Want a.first b.first l.first) l.rest x l.more
    in subst (λ y. Asked (codes "want") y ws) (sym z.value) (record {
      ranges = (a.is.0, b.is.0, b.is.1, l.is);
      spelled = ap (λ t. codes "want" ∷ t) (after a.parts (after b.parts (at_end (locator_words l.first) l.parts z.words)));
    })

unwant_only : (ws : List (List ℕ)) (x : Request × List (List ℕ)) → unwant_at ws ≡ Ok x → Asked (codes "unwant") x.0 ws
unfolding unwant_at
unwant_only ws x e =
    let a = taken read64 _ ws x e
    in let z = ended (request.Unwant a.first) a.rest x a.more
    in subst (λ y. Asked (codes "unwant") y ws) (sym z.value) (record {
      ranges = small64 a.is;
      spelled = ap (λ t. codes "unwant" ∷ t) (after a.parts z.words);
    })

log_only : (ws : List (List ℕ)) (x : Request × List (List ℕ)) → log_at ws ≡ Ok x → Asked (codes "log") x.0 ws
unfolding log_at
log_only ws x e =
    let a = taken read_level _ ws x e
    in let z = ended (request.Log a.first) a.rest x a.more
    in subst (λ y. Asked (codes "log") y ws) (sym z.value) (record { ranges = tt; spelled = ap (λ t. codes "log" ∷ t) (after a.parts z.words) })

-- a request of one word
alone_only : (word : List ℕ) (r : Request) → IsRequest r → request_words r ≡ word ∷ [] → (ws : List (List ℕ)) (x : Request × List (List ℕ)) → ending r ws ≡ Ok x → Asked word x.0 ws
alone_only word r is words ws x e =
    let z = ended r ws x e
    in subst (λ y. Asked word y ws) (sym z.value) (record { ranges = is; spelled = ap (λ t. word ∷ t) z.words ∙ sym words })

asked_only : (n : RequestName) (ws : List (List ℕ)) (x : Request × List (List ℕ)) → asked_at n ws ≡ Ok x → Asked (request_word n) x.0 ws
asked_only (asked.Call n) ws x e = call_asked n ws x e
asked_only asked.Await ws x e = await_only ws x e
asked_only asked.State ws x e = alone_only (codes "state") request.State tt refl ws x e
asked_only asked.Wants ws x e = alone_only (codes "wants") request.Wants tt refl ws x e
asked_only asked.Reads ws x e = alone_only (codes "reads") request.Reads tt refl ws x e
asked_only asked.Events ws x e = alone_only (codes "events") request.Events tt refl ws x e
asked_only asked.Counters ws x e = alone_only (codes "counters") request.Counters tt refl ws x e
asked_only asked.Version ws x e = alone_only (codes "version") request.Version tt refl ws x e
asked_only asked.Want ws x e = want_only ws x e
asked_only asked.Unwant ws x e = unwant_only ws x e
asked_only asked.Log ws x e = log_only ws x e
asked_only asked.Stop ws x e = alone_only (codes "stop") request.Stop tt refl ws x e

pub request_only : (ws : List (List ℕ)) (x : Request × List (List ℕ)) → request_line_at ws ≡ Ok x → Means IsRequest request_words x.0 ws
unfolding request_line_at
request_only ws x e =
    let n = taken read_request_name _ ws x e
    in let m = asked_only n.first n.rest x n.more
    in record { ranges = m.ranges; spelled = n.parts ∙ m.spelled }

-- ---- found

-- a call that may have nothing to tell yet is its first word and what stands behind it
record AwaitAgain (c : Call) : Type 0 where
  name : AwaitName
  rest : List (List ℕ)
  words : control_call_words c ≡ await_word name ∷ rest
  read : awaited_at name rest ≡ Ok (c, [])

awaited_found : (c : Call) → may_wait c ≡ true → IsControlCall c → AwaitAgain c
awaited_found (Discover name kind loops timeout) w h = record { name = awaited.Discover; rest = (begun (Discover name kind loops timeout)).rest; words = (begun (Discover name kind loops timeout)).words; read = called_found (Discover name kind loops timeout) h }
awaited_found (ListenNegotiate name) w h = record { name = awaited.Listen; rest = (begun (ListenNegotiate name)).rest; words = (begun (ListenNegotiate name)).words; read = called_found (ListenNegotiate name) h }
awaited_found (Poll handle) w h = record { name = awaited.Poll; rest = (begun (Poll handle)).rest; words = (begun (Poll handle)).words; read = called_found (Poll handle) h }
awaited_found _ w h = absurd cc

await_found : (millis : ℕ) (c : Call) → IsRequest (request.Await millis c) → await_at (decimal millis ∷ control_call_words c) ≡ Ok (request.Await millis c, [])
unfolding await_at
await_found millis c h =
    let a = awaited_found c h.1 h.2
    in rw (a.words, read32.found millis (within32 h.0), await_again a.name, a.read) refl

want_found : (length longest : ℕ) (peer : Locator) → IsRequest (request.Want length longest peer)
    → want_at (decimal length ∷ decimal longest ∷ locator_words peer) ≡ Ok (request.Want length longest peer, [])
unfolding want_at
want_found length longest peer h =
    let least : 1 ≤ length = h.0
    in let order : length ≤ longest = h.1
    in let most : longest ≤ 128 = h.2
    in rw ((read_length 1).found length (least, omega arith), (read_length length).found longest (order, most), locator_found peer h.3) refl

unwant_found : (number : ℕ) → IsRequest (request.Unwant number) → unwant_at (decimal number ∷ []) ≡ Ok (request.Unwant number, [])
unfolding unwant_at
unwant_found number h = rw (read64.found number (within64 h)) refl

log_found : (level : LogLevel) → log_at (level_word level ∷ []) ≡ Ok (request.Log level, [])
unfolding log_at
log_found level = rw (read_level.found level tt) refl

-- a request is its first word and what stands behind it
record AskedAgain (r : Request) : Type 0 where
  name : RequestName
  rest : List (List ℕ)
  words : request_words r ≡ request_word name ∷ rest
  read : asked_at name rest ≡ Ok (r, [])

call_asked_found : (c : Call) → IsControlCall c → AskedAgain (request.Call c)
call_asked_found c h =
    let a = call_found c h
    in record { name = asked.Call (name_of c); rest = a.rest; words = a.words; read = ap as_call a.read }

asked_found : (r : Request) → IsRequest r → AskedAgain r
asked_found (request.Call c) h = call_asked_found c h
asked_found (request.Await millis c) h = record { name = asked.Await; rest = _; words = refl; read = await_found millis c h }
asked_found request.State h = record { name = asked.State; rest = []; words = refl; read = refl }
asked_found request.Wants h = record { name = asked.Wants; rest = []; words = refl; read = refl }
asked_found request.Reads h = record { name = asked.Reads; rest = []; words = refl; read = refl }
asked_found request.Events h = record { name = asked.Events; rest = []; words = refl; read = refl }
asked_found request.Counters h = record { name = asked.Counters; rest = []; words = refl; read = refl }
asked_found request.Version h = record { name = asked.Version; rest = []; words = refl; read = refl }
asked_found (request.Want length longest peer) h = record { name = asked.Want; rest = _; words = refl; read = want_found length longest peer h }
asked_found (request.Unwant number) h = record { name = asked.Unwant; rest = _; words = refl; read = unwant_found number h }
asked_found (request.Log level) h = record { name = asked.Log; rest = _; words = refl; read = log_found level }
asked_found request.Stop h = record { name = asked.Stop; rest = []; words = refl; read = refl }

pub request_found : (r : Request) → IsRequest r → request_line_at (request_words r) ≡ Ok (r, [])
unfolding request_line_at
request_found r h =
    let a = asked_found r h
    in rw (a.words, request_again a.name, a.read) refl
