-- A line is read where its words are, and nowhere else.
use Rattle.std.proofs.Common.{◌≡◌, ℕ, ◌≤◌, ◌&&◌, Bool, true, false, leb, List, [], ◌∷◌, Ok, Err, refl, sym, ap, subst, ◌∙◌, arith}
use Rattle.std.specs.Prelude.{codes, decimal}
use Rattle.std.proofs.lemmas.Bool.{le-leb, leb-true, and_parts, and_from}
use Rattle.grasp_types.specs.Prefix.{AddressBlock}
use Rattle.grasp_types.specs.declared.call.Call.{Call}
use Rattle.grasp_text.specs.Line.{prefix_word}
use Rattle.grasp_text.specs.Reading.{Parsed, ◌>>=◌}
use Rattle.grasp_text.proofs.Lawful.{ok_is}
use Rattle.grasp_model_network.specs.Events.{AreLengths}
use Rattle.grasp_model_network.specs.declared.event.Event.{Event}
use Rattle.grasp_model_network.specs.declared.event.Event.TheVariants as event
use Rattle.grasp_script.specs.Acts.{side_word, held, event_words, act_words, IsEvent, IsAct}
use Rattle.grasp_script.specs.Calls.{call_words, may_call}
use Rattle.grasp_script.specs.Grammar.{call_at, clock_at, are_lengths, only_if, want_at, return_at, agent_at, allowed, api_at, datagram_at, arrive_at, bytes_at, cut_at, drain_at, state_at, held_at, hold_at, as_event, named_at, act_at}
use Rattle.grasp_script.specs.declared.line.LineAct.{LineAct}
use Rattle.grasp_script.specs.declared.line.LineAct.TheVariants as act
use Rattle.grasp_script.specs.declared.names.FirstWord.{FirstWord}
use Rattle.grasp_script.specs.declared.names.FirstWord.TheVariants as first
use Rattle.grasp_script.proofs.CallLaws.{call_only, call_found}
use Rattle.grasp_script.proofs.Fields.{taken, Ended, ended, after, Means}
use Rattle.grasp_script.proofs.WordReaders.{read8, read32, read64, small32, small64, within32, within64, read_node, read_far, read_prefix, first_word, first_again, read_first}

-- ---- tests

pub lengths_true : (length longest : ℕ) → AreLengths length longest → are_lengths length longest ≡ true
lengths_true length longest h = and_from (leb 1 length && leb length longest) (leb longest 128) (and_from (leb 1 length) (leb length longest) (le-leb 1 length h.least) (le-leb length longest h.rising)) (le-leb longest 128 h.most)

pub true_lengths : (length longest : ℕ) → are_lengths length longest ≡ true → AreLengths length longest
true_lengths length longest e =
    let p = and_parts (leb 1 length && leb length longest) (leb longest 128) e in
    let q = and_parts (leb 1 length) (leb length longest) p.0 in
    record { least = leb-true 1 length q.0; rising = leb-true length longest q.1; most = leb-true longest 128 p.1 }

-- the test said so, and the words were over
record Passed (b : Bool) (e : Event) (ws : List (List ℕ)) (x : Event × List (List ℕ)) : Type 0 where
  test : b ≡ true
  over : Ended e ws x

passed : (b : Bool) (e : Event) (ws : List (List ℕ)) (x : Event × List (List ℕ)) → only_if b e ws ≡ Ok x → Passed b e ws x
passed true e ws x r = record { test = refl; over = ended e ws x r }
passed false e ws x r = absurd cc

-- the agent may make the call
record Permitted (b : Bool) (e : Event) (x : Event × List (List ℕ)) : Type 0 where
  test : b ≡ true
  value : x.0 ≡ e

permitted : (b : Bool) (e : Event) (ws : List (List ℕ)) (x : Event × List (List ℕ)) → allowed b e ws ≡ Ok x → Permitted b e x
permitted true e ws x r = record { test = refl; value = ap (λ (y : Event × List (List ℕ)). y.0) (sym (ok_is (e, ws) x r)) }
permitted false e ws x r = absurd cc

-- a call was read, and then more
called : (next : Call × List (List ℕ) → Parsed Event) (r : Parsed Call) (x : Event × List (List ℕ)) → (r >>= next) ≡ Ok x → (c : Call × List (List ℕ)) × (r ≡ Ok c) × (next c ≡ Ok x)
called next (Ok c) x e = (c, refl, e)
called next (Err n) x e = absurd cc

module _ (nodes : ℕ) (few : nodes ≤ 255) where
  abbrev One : Event → Type 0
  One e = IsEvent nodes e

  clock_only : (ws : List (List ℕ)) (x : Event × List (List ℕ)) → clock_at nodes ws ≡ Ok x → Means One event_words x.0 (codes "clock" ∷ ws)
  unfolding clock_at
  clock_only ws x e =
      let a = taken (read_node nodes few) _ ws x e in
      let b = taken read64 _ a.rest x a.more in
      let z = ended (event.Clock a.first b.first) b.rest x b.more in
      subst (λ (y : Event). Means One event_words y (codes "clock" ∷ ws)) (sym z.value) (record {
        ranges = (a.is, small64 b.is);
        spelled = ap (λ (t : List (List ℕ)). codes "clock" ∷ t) (after a.parts (after b.parts (z.words)));
      })

  clock_found : (node : ℕ) (millis : ℕ) → One (event.Clock node millis) → clock_at nodes (decimal node ∷ decimal millis ∷ []) ≡ Ok (event.Clock node millis, [])
  unfolding clock_at
  clock_found node millis h = rw ((read_node nodes few).found node h.0, read64.found millis (within64 h.1)) refl

  drain_only : (ws : List (List ℕ)) (x : Event × List (List ℕ)) → drain_at nodes ws ≡ Ok x → Means One event_words x.0 (codes "drain" ∷ ws)
  unfolding drain_at
  drain_only ws x e =
      let a = taken (read_node nodes few) _ ws x e in
      let b = taken read32 _ a.rest x a.more in
      let z = ended (event.Drain a.first b.first) b.rest x b.more in
      subst (λ (y : Event). Means One event_words y (codes "drain" ∷ ws)) (sym z.value) (record {
        ranges = (a.is, small32 b.is);
        spelled = ap (λ (t : List (List ℕ)). codes "drain" ∷ t) (after a.parts (after b.parts (z.words)));
      })

  drain_found : (node : ℕ) (max : ℕ) → One (event.Drain node max) → drain_at nodes (decimal node ∷ decimal max ∷ []) ≡ Ok (event.Drain node max, [])
  unfolding drain_at
  drain_found node max h = rw ((read_node nodes few).found node h.0, read32.found max (within32 h.1)) refl

  state_only : (ws : List (List ℕ)) (x : LineAct × List (List ℕ)) → state_at nodes ws ≡ Ok x → Means (IsAct nodes) act_words x.0 (codes "state" ∷ ws)
  unfolding state_at
  state_only ws x e =
      let a = taken (read_node nodes few) _ ws x e in
      let z = ended (act.State a.first) a.rest x a.more in
      subst (λ (y : LineAct). Means (IsAct nodes) act_words y (codes "state" ∷ ws)) (sym z.value) (record {
        ranges = a.is;
        spelled = ap (λ (t : List (List ℕ)). codes "state" ∷ t) (after a.parts (z.words));
      })

  state_found : (node : ℕ) → IsAct nodes (act.State node) → state_at nodes (decimal node ∷ []) ≡ Ok (act.State node, [])
  unfolding state_at
  state_found node h = rw ((read_node nodes few).found node h) refl

  agent_only : (hold : Bool) (ws : List (List ℕ)) (x : Event × List (List ℕ)) → agent_at nodes hold ws ≡ Ok x → Means One event_words x.0 (held hold (codes "agent" ∷ ws))
  unfolding agent_at
  agent_only hold ws x e =
      let a = taken (read_node nodes few) _ ws x e in
      let z = ended (event.Agent a.first hold) a.rest x a.more in
      subst (λ (y : Event). Means One event_words y (held hold (codes "agent" ∷ ws))) (sym z.value) (record {
        ranges = a.is;
        spelled = ap (λ (t : List (List ℕ)). held hold (codes "agent" ∷ t)) (after a.parts (z.words));
      })

  agent_found : (hold : Bool) (node : ℕ) → One (event.Agent node hold) → agent_at nodes hold (decimal node ∷ []) ≡ Ok (event.Agent node hold, [])
  unfolding agent_at
  agent_found hold node h = rw ((read_node nodes few).found node h) refl

  datagram_only : (hold : Bool) (ws : List (List ℕ)) (x : Event × List (List ℕ)) → datagram_at hold ws ≡ Ok x → Means One event_words x.0 (held hold (codes "datagram" ∷ ws))
  unfolding datagram_at
  datagram_only hold ws x e =
      let a = taken read64 _ ws x e in
      let z = ended (event.Datagram a.first hold) a.rest x a.more in
      subst (λ (y : Event). Means One event_words y (held hold (codes "datagram" ∷ ws))) (sym z.value) (record {
        ranges = small64 a.is;
        spelled = ap (λ (t : List (List ℕ)). held hold (codes "datagram" ∷ t)) (after a.parts (z.words));
      })

  datagram_found : (hold : Bool) (index : ℕ) → One (event.Datagram index hold) → datagram_at hold (decimal index ∷ []) ≡ Ok (event.Datagram index hold, [])
  unfolding datagram_at
  datagram_found hold index h = rw (read64.found index (within64 h)) refl

  arrive_only : (hold : Bool) (ws : List (List ℕ)) (x : Event × List (List ℕ)) → arrive_at hold ws ≡ Ok x → Means One event_words x.0 (held hold (codes "arrive" ∷ ws))
  unfolding arrive_at
  arrive_only hold ws x e =
      let a = taken read64 _ ws x e in
      let z = ended (event.Arrive a.first hold) a.rest x a.more in
      subst (λ (y : Event). Means One event_words y (held hold (codes "arrive" ∷ ws))) (sym z.value) (record {
        ranges = small64 a.is;
        spelled = ap (λ (t : List (List ℕ)). held hold (codes "arrive" ∷ t)) (after a.parts (z.words));
      })

  arrive_found : (hold : Bool) (stream : ℕ) → One (event.Arrive stream hold) → arrive_at hold (decimal stream ∷ []) ≡ Ok (event.Arrive stream hold, [])
  unfolding arrive_at
  arrive_found hold stream h = rw (read64.found stream (within64 h)) refl

  bytes_only : (hold : Bool) (ws : List (List ℕ)) (x : Event × List (List ℕ)) → bytes_at hold ws ≡ Ok x → Means One event_words x.0 (held hold (codes "bytes" ∷ ws))
  unfolding bytes_at
  bytes_only hold ws x e =
      let a = taken read64 _ ws x e in
      let b = taken read_far _ a.rest x a.more in
      let c = taken read64 _ b.rest x b.more in
      let z = ended (event.Bytes a.first b.first c.first hold) c.rest x c.more in
      subst (λ (y : Event). Means One event_words y (held hold (codes "bytes" ∷ ws))) (sym z.value) (record {
        ranges = (small64 a.is, small64 c.is);
        spelled = ap (λ (t : List (List ℕ)). held hold (codes "bytes" ∷ t)) (after a.parts (after b.parts (after c.parts (z.words))));
      })

  bytes_found : (hold : Bool) (stream : ℕ) (far : Bool) (count : ℕ) → One (event.Bytes stream far count hold) → bytes_at hold (decimal stream ∷ side_word far ∷ decimal count ∷ []) ≡ Ok (event.Bytes stream far count hold, [])
  unfolding bytes_at
  bytes_found hold stream far count h = rw (read64.found stream (within64 h.0), read_far.found far tt, read64.found count (within64 h.1)) refl

  cut_only : (hold : Bool) (ws : List (List ℕ)) (x : Event × List (List ℕ)) → cut_at hold ws ≡ Ok x → Means One event_words x.0 (held hold (codes "cut" ∷ ws))
  unfolding cut_at
  cut_only hold ws x e =
      let a = taken read64 _ ws x e in
      let b = taken read_far _ a.rest x a.more in
      let z = ended (event.Cut a.first b.first hold) b.rest x b.more in
      subst (λ (y : Event). Means One event_words y (held hold (codes "cut" ∷ ws))) (sym z.value) (record {
        ranges = small64 a.is;
        spelled = ap (λ (t : List (List ℕ)). held hold (codes "cut" ∷ t)) (after a.parts (after b.parts (z.words)));
      })

  cut_found : (hold : Bool) (stream : ℕ) (far : Bool) → One (event.Cut stream far hold) → cut_at hold (decimal stream ∷ side_word far ∷ []) ≡ Ok (event.Cut stream far hold, [])
  unfolding cut_at
  cut_found hold stream far h = rw (read64.found stream (within64 h), read_far.found far tt) refl

  -- ---- a want

  want_only : (ws : List (List ℕ)) (x : Event × List (List ℕ)) → want_at nodes ws ≡ Ok x → Means One event_words x.0 (codes "want" ∷ ws)
  unfolding want_at
  want_only ws x e =
      let a = taken (read_node nodes few) _ ws x e in
      let b = taken read8 _ a.rest x a.more in
      let c = taken read8 _ b.rest x b.more in
      let d = taken (read_node nodes few) _ c.rest x c.more in
      let p = passed (are_lengths b.first c.first) (event.Want a.first b.first c.first d.first) d.rest x d.more in
      subst (λ (y : Event). Means One event_words y (codes "want" ∷ ws)) (sym p.over.value) (record {
        ranges = (a.is, true_lengths b.first c.first p.test, d.is);
        spelled = ap (λ (t : List (List ℕ)). codes "want" ∷ t) (after a.parts (after b.parts (after c.parts (after d.parts p.over.words))));
      })

  want_found : (node length longest peer : ℕ) → One (event.Want node length longest peer) → want_at nodes (decimal node ∷ decimal length ∷ decimal longest ∷ decimal peer ∷ []) ≡ Ok (event.Want node length longest peer, [])
  unfolding want_at
  want_found node length longest peer h =
      let least = h.1.least in
      let rising : length ≤ longest = h.1.rising in
      let most : longest ≤ 128 = h.1.most in
      rw ((read_node nodes few).found node h.0, read8.found length (omega arith), read8.found longest (omega arith), (read_node nodes few).found peer h.2, lengths_true length longest h.1) refl

  -- ---- a return

  return_only : (ws : List (List ℕ)) (x : Event × List (List ℕ)) → return_at nodes ws ≡ Ok x → Means One event_words x.0 (codes "return" ∷ ws)
  unfolding return_at
  return_only ws x e =
      let a = taken (read_node nodes few) _ ws x e in
      let b = taken read_prefix _ a.rest x a.more in
      let c = taken (read_node nodes few) _ b.rest x b.more in
      let z = ended (event.Return a.first b.first c.first) c.rest x c.more in
      subst (λ (y : Event). Means One event_words y (codes "return" ∷ ws)) (sym z.value) (record {
        ranges = (a.is, b.is, c.is);
        spelled = ap (λ (t : List (List ℕ)). codes "return" ∷ t) (after a.parts (after b.parts (after c.parts (z.words))));
      })

  return_found : (node : ℕ) (prefix : AddressBlock) (peer : ℕ) → One (event.Return node prefix peer) → return_at nodes (decimal node ∷ prefix_word prefix ∷ decimal peer ∷ []) ≡ Ok (event.Return node prefix peer, [])
  unfolding return_at
  return_found node prefix peer h = rw ((read_node nodes few).found node h.0, read_prefix.found prefix h.1, (read_node nodes few).found peer h.2) refl

  -- ---- a call

  api_only : (hold : Bool) (ws : List (List ℕ)) (x : Event × List (List ℕ)) → api_at nodes hold ws ≡ Ok x → Means One event_words x.0 (held hold (codes "api" ∷ ws))
  unfolding api_at
  api_only hold ws x e =
      let a = taken (read_node nodes few) _ ws x e in
      let b = taken read32 _ a.rest x a.more in
      let c = called _ (call_at nodes b.rest) x b.more in
      let m = call_only nodes few b.rest c.0 c.1 in
      let p = permitted (may_call b.first c.0.0) (event.Api a.first b.first c.0.0 hold) c.0.1 x c.2 in
      subst (λ (y : Event). Means One event_words y (held hold (codes "api" ∷ ws))) (sym p.value) (record {
        ranges = (a.is, small32 b.is, m.ranges, p.test);
        spelled = ap (λ (t : List (List ℕ)). held hold (codes "api" ∷ t)) (after a.parts (after b.parts m.spelled));
      })

  api_found : (hold : Bool) (node asa : ℕ) (call : Call) → One (event.Api node asa call hold) → api_at nodes hold (decimal node ∷ decimal asa ∷ call_words call) ≡ Ok (event.Api node asa call hold, [])
  unfolding api_at
  api_found hold node asa call h = rw ((read_node nodes few).found node h.0, read32.found asa (within32 h.1), call_found nodes few call h.2, h.3) refl

  -- ---- lines

  held_only : (hold : Bool) (n : FirstWord) (ws : List (List ℕ)) (x : Event × List (List ℕ)) → held_at nodes hold n ws ≡ Ok x → Means One event_words x.0 (held hold (first_word n ∷ ws))
  held_only hold first.Agent ws x e = agent_only hold ws x e
  held_only hold first.Api ws x e = api_only hold ws x e
  held_only hold first.Datagram ws x e = datagram_only hold ws x e
  held_only hold first.Arrive ws x e = arrive_only hold ws x e
  held_only hold first.Bytes ws x e = bytes_only hold ws x e
  held_only hold first.Cut ws x e = cut_only hold ws x e
  held_only hold _ ws x e = absurd cc

  hold_only : (ws : List (List ℕ)) (x : Event × List (List ℕ)) → hold_at nodes ws ≡ Ok x → Means One event_words x.0 (codes "hold" ∷ ws)
  unfolding hold_at
  hold_only ws x e =
      let a = taken read_first _ ws x e in
      let m = held_only true a.first a.rest x a.more in
      record { ranges = m.ranges; spelled = ap (λ (t : List (List ℕ)). codes "hold" ∷ t) a.parts ∙ m.spelled }

  event_only : (ws : List (List ℕ)) (r : Parsed Event) (x : LineAct × List (List ℕ)) → ((y : Event × List (List ℕ)) → r ≡ Ok y → Means One event_words y.0 ws) → as_event r ≡ Ok x → Means (IsAct nodes) act_words x.0 ws
  event_only ws (Ok y) x h e =
      let m = h y refl in
      subst (λ (a : LineAct). Means (IsAct nodes) act_words a ws) (ap (λ (z : LineAct × List (List ℕ)). z.0) (ok_is (act.Event y.0, y.1) x e)) (record { ranges = m.ranges; spelled = m.spelled })
  event_only ws (Err n) x h e = absurd cc

  named_only : (n : FirstWord) (ws : List (List ℕ)) (x : LineAct × List (List ℕ)) → named_at nodes n ws ≡ Ok x → Means (IsAct nodes) act_words x.0 (first_word n ∷ ws)
  named_only first.Agent ws x e = event_only (codes "agent" ∷ ws) (agent_at nodes false ws) x (agent_only false ws) e
  named_only first.Api ws x e = event_only (codes "api" ∷ ws) (api_at nodes false ws) x (api_only false ws) e
  named_only first.Datagram ws x e = event_only (codes "datagram" ∷ ws) (datagram_at false ws) x (datagram_only false ws) e
  named_only first.Arrive ws x e = event_only (codes "arrive" ∷ ws) (arrive_at false ws) x (arrive_only false ws) e
  named_only first.Bytes ws x e = event_only (codes "bytes" ∷ ws) (bytes_at false ws) x (bytes_only false ws) e
  named_only first.Cut ws x e = event_only (codes "cut" ∷ ws) (cut_at false ws) x (cut_only false ws) e
  named_only first.Clock ws x e = event_only (codes "clock" ∷ ws) (clock_at nodes ws) x (clock_only ws) e
  named_only first.Want ws x e = event_only (codes "want" ∷ ws) (want_at nodes ws) x (want_only ws) e
  named_only first.Return ws x e = event_only (codes "return" ∷ ws) (return_at nodes ws) x (return_only ws) e
  named_only first.Drain ws x e = event_only (codes "drain" ∷ ws) (drain_at nodes ws) x (drain_only ws) e
  named_only first.State ws x e = state_only ws x e
  named_only first.Hold ws x e = event_only (codes "hold" ∷ ws) (hold_at nodes ws) x (hold_only ws) e

  pub act_only : (ws : List (List ℕ)) (x : LineAct × List (List ℕ)) → act_at nodes ws ≡ Ok x → Means (IsAct nodes) act_words x.0 ws
  unfolding act_at
  act_only ws x e =
      let a = taken read_first _ ws x e in
      let m = named_only a.first a.rest x a.more in
      record { ranges = m.ranges; spelled = a.parts ∙ m.spelled }

  -- ---- found

  begun : (n : FirstWord) (ws : List (List ℕ)) → act_at nodes (first_word n ∷ ws) ≡ named_at nodes n ws
  unfolding act_at
  begun n ws = rw (first_again n) refl

  behind_hold : (n : FirstWord) (ws : List (List ℕ)) → act_at nodes (codes "hold" ∷ first_word n ∷ ws) ≡ as_event (held_at nodes true n ws)
  unfolding hold_at
  behind_hold n ws = begun first.Hold (first_word n ∷ ws) ∙ rw (first_again n) refl

  pub act_found : (a : LineAct) → IsAct nodes a → act_at nodes (act_words a) ≡ Ok (a, [])
  act_found (act.Event (event.Clock node millis)) h = begun first.Clock _ ∙ ap as_event (clock_found node millis h)
  act_found (act.Event (event.Want node length longest peer)) h = begun first.Want _ ∙ ap as_event (want_found node length longest peer h)
  act_found (act.Event (event.Return node prefix peer)) h = begun first.Return _ ∙ ap as_event (return_found node prefix peer h)
  act_found (act.Event (event.Drain node max)) h = begun first.Drain _ ∙ ap as_event (drain_found node max h)
  act_found (act.State node) h = begun first.State _ ∙ state_found node h
  act_found (act.Event (event.Agent node false)) h = begun first.Agent _ ∙ ap as_event (agent_found false node h)
  act_found (act.Event (event.Agent node true)) h = behind_hold first.Agent _ ∙ ap as_event (agent_found true node h)
  act_found (act.Event (event.Api node asa call false)) h = begun first.Api _ ∙ ap as_event (api_found false node asa call h)
  act_found (act.Event (event.Api node asa call true)) h = behind_hold first.Api _ ∙ ap as_event (api_found true node asa call h)
  act_found (act.Event (event.Datagram index false)) h = begun first.Datagram _ ∙ ap as_event (datagram_found false index h)
  act_found (act.Event (event.Datagram index true)) h = behind_hold first.Datagram _ ∙ ap as_event (datagram_found true index h)
  act_found (act.Event (event.Arrive stream false)) h = begun first.Arrive _ ∙ ap as_event (arrive_found false stream h)
  act_found (act.Event (event.Arrive stream true)) h = behind_hold first.Arrive _ ∙ ap as_event (arrive_found true stream h)
  act_found (act.Event (event.Bytes stream far count false)) h = begun first.Bytes _ ∙ ap as_event (bytes_found false stream far count h)
  act_found (act.Event (event.Bytes stream far count true)) h = behind_hold first.Bytes _ ∙ ap as_event (bytes_found true stream far count h)
  act_found (act.Event (event.Cut stream far false)) h = begun first.Cut _ ∙ ap as_event (cut_found false stream far h)
  act_found (act.Event (event.Cut stream far true)) h = behind_hold first.Cut _ ∙ ap as_event (cut_found true stream far h)
