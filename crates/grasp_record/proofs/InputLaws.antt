-- An input is read where its words are, and nowhere else.
use Rattle.std.proofs.Common.{◌≡◌, ℕ, ◌≤◌, Bool, true, false, List, [], ◌∷◌, Ok, refl, sym, ap, subst, ◌∙◌, arith}
use Rattle.std.specs.Prelude.{codes, decimal}
use Rattle.grasp_types.specs.declared.address.Address.{Address}
use Rattle.grasp_types.specs.declared.call.Call.{Call}
use Rattle.grasp_types.specs.Prefix.{AddressBlock}
use Rattle.grasp_text.specs.Line.{address_word, bytes_word, prefix_word}
use Rattle.grasp_text.proofs.Lawful.{ok_is}
use Rattle.grasp_text.proofs.Readers.{addresses_read}
use Rattle.grasp_model_network.specs.Plans.{IsNode}
use Rattle.grasp_script.specs.Calls.{call_words, may_call}
use Rattle.grasp_script.specs.Grammar.{call_at, are_lengths, only_if}
use Rattle.grasp_script.proofs.ActLaws.{lengths_true, true_lengths}
use Rattle.grasp_script.proofs.CallLaws.{call_only, call_found}
use Rattle.grasp_script.proofs.Fields.{taken, Ended, ended, after, Means}
use Rattle.grasp_script.proofs.WordReaders.{read8, read32, read64, small8, small32, small64, within8, within32, within64, read_node, read_prefix}
use Rattle.grasp_record.specs.Grammar.{api_at, agent_at, want_at, return_at, datagram_at, opened_at, bytes_at, closed_at, drain_at, allowed, took_at, asked_at}
use Rattle.grasp_record.specs.Inputs.{input_words, IsInput}
use Rattle.grasp_record.specs.declared.inputs.Asked.{Asked}
use Rattle.grasp_record.specs.declared.line.RecordInput.{RecordInput}
use Rattle.grasp_record.specs.declared.line.RecordInput.TheVariants as input
use Rattle.grasp_record.specs.declared.names.InputName.{InputName}
use Rattle.grasp_record.specs.declared.names.InputName.TheVariants as took
use Rattle.grasp_record.proofs.NameReaders.{input_word, input_again, read_input}
use Rattle.grasp_record.proofs.OctetWords.{read_octets}
use Rattle.grasp_record.proofs.SomeWords.{was_read}

-- the test said so, and the words were over
pub record Passed {A : Type 0} (b : Bool) (a : A) (ws : List (List ℕ)) (x : A × List (List ℕ)) : Type 0 where
  pub test : b ≡ true
  pub over : Ended a ws x

pub passed : {A : Type 0} (b : Bool) (a : A) (ws : List (List ℕ)) (x : A × List (List ℕ)) → only_if b a ws ≡ Ok x → Passed b a ws x
passed true a ws x r = record { test = refl; over = ended a ws x r }
passed false a ws x r = absurd cc

-- the agent may make the call
record Permitted (b : Bool) (i : RecordInput) (x : RecordInput × List (List ℕ)) : Type 0 where
  test : b ≡ true
  value : x.0 ≡ i

permitted : (b : Bool) (i : RecordInput) (ws : List (List ℕ)) (x : RecordInput × List (List ℕ)) → allowed b i ws ≡ Ok x → Permitted b i x
permitted true i ws x r = record { test = refl; value = ap (λ (y : RecordInput × List (List ℕ)). y.0) (sym (ok_is (i, ws) x r)) }
permitted false i ws x r = absurd cc

-- the words before `=`, and their ranges
abbrev pub asked_words : Asked → List (List ℕ)
asked_words a = decimal a.node ∷ decimal a.now ∷ input_words a.input

pub record IsAsked (nodes : ℕ) (a : Asked) : Type 0 where
  pub node : IsNode nodes a.node
  pub now : a.now ≤ 18446744073709551615
  pub input : IsInput nodes a.input

module _ (nodes : ℕ) (few : nodes ≤ 255) where
  abbrev One : RecordInput → Type 0
  One i = IsInput nodes i

  abbrev Named : List ℕ → RecordInput → List (List ℕ) → Type 0
  Named word i ws = Means One input_words i (word ∷ ws)

  api_only : (ws : List (List ℕ)) (x : RecordInput × List (List ℕ)) → api_at nodes ws ≡ Ok x → Named (codes "api") x.0 ws
  unfolding api_at
  api_only ws x e =
      let a = taken read32 _ ws x e in
      let c = was_read _ (call_at nodes a.rest) x a.more in
      let m = call_only nodes few a.rest c.first c.is in
      let p = permitted (may_call a.first c.first.0) (input.Api a.first c.first.0) c.first.1 x c.more in
      subst (λ (y : RecordInput). Named (codes "api") y ws) (sym p.value) (record {
        ranges = (small32 a.is, m.ranges, p.test);
        spelled = ap (λ (t : List (List ℕ)). codes "api" ∷ t) (after a.parts m.spelled);
      })

  agent_only : (ws : List (List ℕ)) (x : RecordInput × List (List ℕ)) → agent_at nodes ws ≡ Ok x → Named (codes "agent") x.0 ws
  agent_only ws x e =
      let c = was_read _ (call_at nodes ws) x e in
      let m = call_only nodes few ws c.first c.is in
      subst (λ (y : RecordInput). Named (codes "agent") y ws) (ap (λ (y : RecordInput × List (List ℕ)). y.0) (ok_is (input.Agent c.first.0, c.first.1) x c.more)) (record {
        ranges = m.ranges;
        spelled = ap (λ (t : List (List ℕ)). codes "agent" ∷ t) m.spelled;
      })

  want_only : (ws : List (List ℕ)) (x : RecordInput × List (List ℕ)) → want_at nodes ws ≡ Ok x → Named (codes "want") x.0 ws
  unfolding want_at
  want_only ws x e =
      let a = taken read8 _ ws x e in
      let b = taken read8 _ a.rest x a.more in
      let c = taken (read_node nodes few) _ b.rest x b.more in
      let p = passed (are_lengths a.first b.first) (input.Want a.first b.first c.first) c.rest x c.more in
      subst (λ (y : RecordInput). Named (codes "want") y ws) (sym p.over.value) (record {
        ranges = (true_lengths a.first b.first p.test, c.is);
        spelled = ap (λ (t : List (List ℕ)). codes "want" ∷ t) (after a.parts (after b.parts (after c.parts p.over.words)));
      })

  return_only : (ws : List (List ℕ)) (x : RecordInput × List (List ℕ)) → return_at nodes ws ≡ Ok x → Named (codes "return") x.0 ws
  unfolding return_at
  return_only ws x e =
      let a = taken read_prefix _ ws x e in
      let b = taken (read_node nodes few) _ a.rest x a.more in
      let z = ended (input.Return a.first b.first) b.rest x b.more in
      subst (λ (y : RecordInput). Named (codes "return") y ws) (sym z.value) (record {
        ranges = (a.is, b.is);
        spelled = ap (λ (t : List (List ℕ)). codes "return" ∷ t) (after a.parts (after b.parts z.words));
      })

  datagram_only : (ws : List (List ℕ)) (x : RecordInput × List (List ℕ)) → datagram_at ws ≡ Ok x → Named (codes "datagram") x.0 ws
  unfolding datagram_at
  datagram_only ws x e =
      let a = taken read8 _ ws x e in
      let b = taken read8 _ a.rest x a.more in
      let c = taken read_octets _ b.rest x b.more in
      let z = ended (input.Datagram a.first b.first c.first) c.rest x c.more in
      subst (λ (y : RecordInput). Named (codes "datagram") y ws) (sym z.value) (record {
        ranges = (small8 a.is, small8 b.is, c.is);
        spelled = ap (λ (t : List (List ℕ)). codes "datagram" ∷ t) (after a.parts (after b.parts (after c.parts z.words)));
      })

  opened_only : (ws : List (List ℕ)) (x : RecordInput × List (List ℕ)) → opened_at ws ≡ Ok x → Named (codes "opened") x.0 ws
  unfolding opened_at
  opened_only ws x e =
      let a = taken read64 _ ws x e in
      let b = taken addresses_read _ a.rest x a.more in
      let z = ended (input.Opened a.first b.first) b.rest x b.more in
      subst (λ (y : RecordInput). Named (codes "opened") y ws) (sym z.value) (record {
        ranges = (small64 a.is, b.is);
        spelled = ap (λ (t : List (List ℕ)). codes "opened" ∷ t) (after a.parts (after b.parts z.words));
      })

  bytes_only : (ws : List (List ℕ)) (x : RecordInput × List (List ℕ)) → bytes_at ws ≡ Ok x → Named (codes "bytes") x.0 ws
  unfolding bytes_at
  bytes_only ws x e =
      let a = taken read64 _ ws x e in
      let b = taken read_octets _ a.rest x a.more in
      let z = ended (input.Bytes a.first b.first) b.rest x b.more in
      subst (λ (y : RecordInput). Named (codes "bytes") y ws) (sym z.value) (record {
        ranges = (small64 a.is, b.is);
        spelled = ap (λ (t : List (List ℕ)). codes "bytes" ∷ t) (after a.parts (after b.parts z.words));
      })

  closed_only : (ws : List (List ℕ)) (x : RecordInput × List (List ℕ)) → closed_at ws ≡ Ok x → Named (codes "closed") x.0 ws
  unfolding closed_at
  closed_only ws x e =
      let a = taken read64 _ ws x e in
      let z = ended (input.Closed a.first) a.rest x a.more in
      subst (λ (y : RecordInput). Named (codes "closed") y ws) (sym z.value) (record {
        ranges = small64 a.is;
        spelled = ap (λ (t : List (List ℕ)). codes "closed" ∷ t) (after a.parts z.words);
      })

  drain_only : (ws : List (List ℕ)) (x : RecordInput × List (List ℕ)) → drain_at ws ≡ Ok x → Named (codes "drain") x.0 ws
  unfolding drain_at
  drain_only ws x e =
      let a = taken read32 _ ws x e in
      let z = ended (input.Drain a.first) a.rest x a.more in
      subst (λ (y : RecordInput). Named (codes "drain") y ws) (sym z.value) (record {
        ranges = small32 a.is;
        spelled = ap (λ (t : List (List ℕ)). codes "drain" ∷ t) (after a.parts z.words);
      })

  took_only : (n : InputName) (ws : List (List ℕ)) (x : RecordInput × List (List ℕ)) → took_at nodes n ws ≡ Ok x → Named (input_word n) x.0 ws
  took_only took.Api ws x e = api_only ws x e
  took_only took.Agent ws x e = agent_only ws x e
  took_only took.Want ws x e = want_only ws x e
  took_only took.Return ws x e = return_only ws x e
  took_only took.Datagram ws x e = datagram_only ws x e
  took_only took.Opened ws x e = opened_only ws x e
  took_only took.Bytes ws x e = bytes_only ws x e
  took_only took.Closed ws x e = closed_only ws x e
  took_only took.Drain ws x e = drain_only ws x e

  pub asked_only : (ws : List (List ℕ)) (x : Asked × List (List ℕ)) → asked_at nodes ws ≡ Ok x → Means (IsAsked nodes) asked_words x.0 ws
  unfolding asked_at
  asked_only ws x e =
      let a = taken (read_node nodes few) _ ws x e in
      let b = taken read64 _ a.rest x a.more in
      let n = taken read_input _ b.rest x b.more in
      let i = was_read _ (took_at nodes n.first n.rest) x n.more in
      let m = took_only n.first n.rest i.first i.is in
      subst (λ (y : Asked). Means (IsAsked nodes) asked_words y ws) (ap (λ (y : Asked × List (List ℕ)). y.0) (ok_is (record { node = a.first; now = b.first; input = i.first.0 }, i.first.1) x i.more)) (record {
        ranges = record { node = a.is; now = b.is; input = m.ranges };
        spelled = after a.parts (after b.parts (n.parts ∙ m.spelled));
      })

  -- ---- found

  api_found : (asa : ℕ) (call : Call) → One (input.Api asa call) → api_at nodes (decimal asa ∷ call_words call) ≡ Ok (input.Api asa call, [])
  unfolding api_at
  api_found asa call h = rw (read32.found asa (within32 h.0), call_found nodes few call h.1, h.2) refl

  agent_found : (call : Call) → One (input.Agent call) → agent_at nodes (call_words call) ≡ Ok (input.Agent call, [])
  agent_found call h = rw (call_found nodes few call h) refl

  want_found : (length longest peer : ℕ) → One (input.Want length longest peer) → want_at nodes (decimal length ∷ decimal longest ∷ decimal peer ∷ []) ≡ Ok (input.Want length longest peer, [])
  unfolding want_at
  want_found length longest peer h =
      let rising : length ≤ longest = h.0.rising in
      let most : longest ≤ 128 = h.0.most in
      rw (read8.found length (omega arith), read8.found longest (omega arith), (read_node nodes few).found peer h.1, lengths_true length longest h.0) refl

  return_found : (prefix : AddressBlock) (peer : ℕ) → One (input.Return prefix peer) → return_at nodes (prefix_word prefix ∷ decimal peer ∷ []) ≡ Ok (input.Return prefix peer, [])
  unfolding return_at
  return_found prefix peer h = rw (read_prefix.found prefix h.0, (read_node nodes few).found peer h.1) refl

  datagram_found : (link from : ℕ) (bytes : List ℕ) → One (input.Datagram link from bytes) → datagram_at (decimal link ∷ decimal from ∷ bytes_word bytes ∷ []) ≡ Ok (input.Datagram link from bytes, [])
  unfolding datagram_at
  datagram_found link from bytes h = rw (read8.found link (within8 h.0), read8.found from (within8 h.1), read_octets.found bytes h.2) refl

  opened_found : (stream : ℕ) (from : Address) → One (input.Opened stream from) → opened_at (decimal stream ∷ address_word from ∷ []) ≡ Ok (input.Opened stream from, [])
  unfolding opened_at
  opened_found stream from h = rw (read64.found stream (within64 h.0), addresses_read.found from h.1) refl

  bytes_found : (stream : ℕ) (bytes : List ℕ) → One (input.Bytes stream bytes) → bytes_at (decimal stream ∷ bytes_word bytes ∷ []) ≡ Ok (input.Bytes stream bytes, [])
  unfolding bytes_at
  bytes_found stream bytes h = rw (read64.found stream (within64 h.0), read_octets.found bytes h.1) refl

  closed_found : (stream : ℕ) → One (input.Closed stream) → closed_at (decimal stream ∷ []) ≡ Ok (input.Closed stream, [])
  unfolding closed_at
  closed_found stream h = rw (read64.found stream (within64 h)) refl

  drain_found : (max : ℕ) → One (input.Drain max) → drain_at (decimal max ∷ []) ≡ Ok (input.Drain max, [])
  unfolding drain_at
  drain_found max h = rw (read32.found max (within32 h)) refl

  -- an input is its first word and what stands behind it
  record TookAgain (i : RecordInput) : Type 0 where
    name : InputName
    rest : List (List ℕ)
    words : input_words i ≡ input_word name ∷ rest
    read : took_at nodes name rest ≡ Ok (i, [])

  took_found : (i : RecordInput) → One i → TookAgain i
  took_found (input.Api asa call) h = record { name = took.Api; rest = _; words = refl; read = api_found asa call h }
  took_found (input.Agent call) h = record { name = took.Agent; rest = _; words = refl; read = agent_found call h }
  took_found (input.Want length longest peer) h = record { name = took.Want; rest = _; words = refl; read = want_found length longest peer h }
  took_found (input.Return prefix peer) h = record { name = took.Return; rest = _; words = refl; read = return_found prefix peer h }
  took_found (input.Datagram link from bytes) h = record { name = took.Datagram; rest = _; words = refl; read = datagram_found link from bytes h }
  took_found (input.Opened stream from) h = record { name = took.Opened; rest = _; words = refl; read = opened_found stream from h }
  took_found (input.Bytes stream bytes) h = record { name = took.Bytes; rest = _; words = refl; read = bytes_found stream bytes h }
  took_found (input.Closed stream) h = record { name = took.Closed; rest = _; words = refl; read = closed_found stream h }
  took_found (input.Drain max) h = record { name = took.Drain; rest = _; words = refl; read = drain_found max h }

  pub asked_found : (a : Asked) → IsAsked nodes a → asked_at nodes (asked_words a) ≡ Ok (a, [])
  unfolding asked_at
  asked_found a h =
      let t = took_found a.input h.input in
      rw (t.words, (read_node nodes few).found a.node h.node, read64.found a.now h.now, input_again t.name, t.read) refl
