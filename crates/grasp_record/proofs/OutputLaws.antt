-- An answer to what came from outside, or to a drain, is read where its words are, and nowhere else.
use Rattle.std.proofs.Common.{◌≡◌, ℕ, ◌<◌, Bool, true, false, cond, List, [], ◌∷◌, ◌++◌, length, Ok, refl, sym, ap, subst, ◌∙◌, arith}
use Rattle.std.specs.Prelude.{codes, decimal}
use Rattle.std.specs.List.{AllByRecursion}
use Rattle.grasp_types.specs.declared.address.Locator.{Locator}
use Rattle.grasp_types.specs.declared.traffic.Output.{Output}
use Rattle.grasp_types.specs.declared.traffic.Output.TheVariants as output
use Rattle.grasp_text.specs.Line.{bytes_word, locator_words}
use Rattle.grasp_text.specs.Readers.{IsWordReader}
use Rattle.grasp_text.specs.Reading.{exactly}
use Rattle.grasp_text.specs.Words.{is_next}
use Rattle.grasp_text.proofs.Lawful.{okay, ok_is}
use Rattle.grasp_text.proofs.Leaves.{exactly_exact}
use Rattle.grasp_text.proofs.Readers.{locators_read}
use Rattle.grasp_script.proofs.Fields.{taken, ended, after, Means}
use Rattle.grasp_script.proofs.WordReaders.{Any, read8, read64, small8, small64, within8, within64}
use Rattle.grasp_record.specs.Answers.{output_words, all_output_words, told_words, IsOutput, IsOfDatagram, IsOfStream, IsOfDrain}
use Rattle.grasp_record.specs.Grammar.{each_at, of_datagram_at, stream_answer, of_stream_at, sent_datagram_at, dial_at, send_at, close_at, sent_at, output_at, outputs_at, none_at, is_none_word, of_drain_at}
use Rattle.grasp_record.specs.declared.line.RecordAnswer.{RecordAnswer}
use Rattle.grasp_record.specs.declared.line.RecordAnswer.TheVariants as answer
use Rattle.grasp_record.specs.declared.names.OutputName.{OutputName}
use Rattle.grasp_record.specs.declared.names.OutputName.TheVariants as sent
use Rattle.grasp_record.proofs.Each.{each_only, each_found}
use Rattle.grasp_record.proofs.NameReaders.{taken_word, read_taken, output_word, output_again, read_output}
use Rattle.grasp_record.proofs.OctetWords.{read_octets}
use Rattle.grasp_record.proofs.SomeWords.{IsExact, taken_words, behind, was_read}

-- this very word
this_word : (word : List ℕ) → IsWordReader Any (λ (u : Unit {0}). word) (exactly word)
this_word word = record {
  found = λ u a. (exactly_exact word).found u word (record { spelled = refl });
  only = λ w u e. (((exactly_exact word).only w u e).spelled, tt);
}

-- ---- answers to datagrams and streams

pub of_datagram_only : (ws : List (List ℕ)) (x : RecordAnswer × List (List ℕ)) → of_datagram_at ws ≡ Ok x → Means IsOfDatagram told_words x.0 ws
unfolding of_datagram_at
of_datagram_only ws x e =
    let a = taken (this_word (codes "taken")) _ ws x e in
    let z = ended answer.Taken a.rest x a.more in
    subst (λ (y : RecordAnswer). Means IsOfDatagram told_words y ws) (sym z.value) (record { ranges = tt; spelled = after a.parts z.words })

pub of_datagram_found : (a : RecordAnswer) → IsOfDatagram a → of_datagram_at (told_words a) ≡ Ok (a, [])
unfolding of_datagram_at
of_datagram_found answer.Taken h = refl
of_datagram_found _ h = absurd h

stream_told : (t : Bool) (ws : List (List ℕ)) → ws ≡ taken_word t ∷ [] → Means IsOfStream told_words (stream_answer t) ws
stream_told true ws e = record { ranges = tt; spelled = e }
stream_told false ws e = record { ranges = tt; spelled = e }

pub of_stream_only : (ws : List (List ℕ)) (x : RecordAnswer × List (List ℕ)) → of_stream_at ws ≡ Ok x → Means IsOfStream told_words x.0 ws
unfolding of_stream_at
of_stream_only ws x e =
    let a = taken read_taken _ ws x e in
    let z = ended (stream_answer a.first) a.rest x a.more in
    subst (λ (y : RecordAnswer). Means IsOfStream told_words y ws) (sym z.value) (stream_told a.first ws (after a.parts z.words))

pub of_stream_found : (a : RecordAnswer) → IsOfStream a → of_stream_at (told_words a) ≡ Ok (a, [])
unfolding of_stream_at
of_stream_found answer.Taken h = rw (read_taken.found true tt) refl
of_stream_found answer.Turned h = rw (read_taken.found false tt) refl
of_stream_found _ h = absurd h

-- ---- one output

-- it is read from words that begin so
abbrev Sends : List ℕ → Output → List (List ℕ) → List (List ℕ) → Type 0
Sends word o ws rest = (word ∷ ws ≡ output_words o ++ rest) × IsOutput o

-- what was read is this
was_sent : (word : List ℕ) (ws : List (List ℕ)) (made : Output) (left : List (List ℕ)) (x : Output × List (List ℕ)) → okay (made, left) ≡ okay x → Sends word made ws left → Sends word x.0 ws x.1
was_sent word ws made left x e h = subst (λ (y : Output × List (List ℕ)). Sends word y.0 ws y.1) (ok_is (made, left) x e) h

sent_datagram_only : (ws : List (List ℕ)) (x : Output × List (List ℕ)) → sent_datagram_at ws ≡ Ok x → Sends (codes "datagram") x.0 ws x.1
unfolding sent_datagram_at
sent_datagram_only ws x e =
    let a = taken read8 _ ws x e in
    let b = taken read8 _ a.rest x a.more in
    let c = taken read_octets _ b.rest x b.more in
    was_sent (codes "datagram") ws (output.Datagram a.first b.first c.first) c.rest x c.more (ap (λ (t : List (List ℕ)). codes "datagram" ∷ t) (after a.parts (after b.parts c.parts)), (small8 a.is, small8 b.is, c.is))

dial_only : (ws : List (List ℕ)) (x : Output × List (List ℕ)) → dial_at ws ≡ Ok x → Sends (codes "dial") x.0 ws x.1
unfolding dial_at
dial_only ws x e =
    let a = taken read64 _ ws x e in
    let l = taken_words locators_read _ a.rest x a.more in
    was_sent (codes "dial") ws (output.Dial a.first l.first) l.rest x l.more (ap (λ (t : List (List ℕ)). codes "dial" ∷ t) (after a.parts l.parts), (small64 a.is, l.is))

send_only : (ws : List (List ℕ)) (x : Output × List (List ℕ)) → send_at ws ≡ Ok x → Sends (codes "send") x.0 ws x.1
unfolding send_at
send_only ws x e =
    let a = taken read64 _ ws x e in
    let c = taken read_octets _ a.rest x a.more in
    was_sent (codes "send") ws (output.Send a.first c.first) c.rest x c.more (ap (λ (t : List (List ℕ)). codes "send" ∷ t) (after a.parts c.parts), (small64 a.is, c.is))

close_only : (ws : List (List ℕ)) (x : Output × List (List ℕ)) → close_at ws ≡ Ok x → Sends (codes "close") x.0 ws x.1
unfolding close_at
close_only ws x e =
    let a = taken read64 _ ws x e in
    was_sent (codes "close") ws (output.Close a.first) a.rest x a.more (ap (λ (t : List (List ℕ)). codes "close" ∷ t) a.parts, small64 a.is)

sent_only : (n : OutputName) (ws : List (List ℕ)) (x : Output × List (List ℕ)) → sent_at n ws ≡ Ok x → Sends (output_word n) x.0 ws x.1
sent_only sent.Datagram ws x e = sent_datagram_only ws x e
sent_only sent.Dial ws x e = dial_only ws x e
sent_only sent.Send ws x e = send_only ws x e
sent_only sent.Close ws x e = close_only ws x e

output_only : (ws : List (List ℕ)) (o : Output) (rest : List (List ℕ)) → output_at ws ≡ Ok (o, rest) → (ws ≡ output_words o ++ rest) × IsOutput o
unfolding output_at
output_only ws o rest e =
    let n = taken read_output _ ws (o, rest) e in
    let m = sent_only n.first n.rest (o, rest) n.more in
    (n.parts ∙ m.0, m.1)

sent_datagram_found : (link to : ℕ) (bytes : List ℕ) (rest : List (List ℕ)) → IsOutput (output.Datagram link to bytes) → sent_datagram_at (decimal link ∷ decimal to ∷ bytes_word bytes ∷ rest) ≡ Ok (output.Datagram link to bytes, rest)
unfolding sent_datagram_at
sent_datagram_found link to bytes rest h = rw (read8.found link (within8 h.0), read8.found to (within8 h.1), read_octets.found bytes h.2) refl

dial_found : (stream : ℕ) (to : Locator) (rest : List (List ℕ)) → IsOutput (output.Dial stream to) → dial_at (decimal stream ∷ (locator_words to ++ rest)) ≡ Ok (output.Dial stream to, rest)
unfolding dial_at
dial_found stream to rest h = rw (read64.found stream (within64 h.0), locators_read.found to rest h.1) refl

send_found : (stream : ℕ) (bytes : List ℕ) (rest : List (List ℕ)) → IsOutput (output.Send stream bytes) → send_at (decimal stream ∷ bytes_word bytes ∷ rest) ≡ Ok (output.Send stream bytes, rest)
unfolding send_at
send_found stream bytes rest h = rw (read64.found stream (within64 h.0), read_octets.found bytes h.1) refl

close_found : (stream : ℕ) (rest : List (List ℕ)) → IsOutput (output.Close stream) → close_at (decimal stream ∷ rest) ≡ Ok (output.Close stream, rest)
unfolding close_at
close_found stream rest h = rw (read64.found stream (within64 h)) refl

begun : (n : OutputName) (ws : List (List ℕ)) → output_at (output_word n ∷ ws) ≡ sent_at n ws
unfolding output_at
begun n ws = rw (output_again n) refl

output_found : (o : Output) (rest : List (List ℕ)) → IsOutput o → output_at (output_words o ++ rest) ≡ Ok (o, rest)
output_found (output.Datagram link to bytes) rest h = begun sent.Datagram _ ∙ sent_datagram_found link to bytes rest h
output_found (output.Dial stream to) rest h = begun sent.Dial _ ∙ dial_found stream to rest h
output_found (output.Send stream bytes) rest h = begun sent.Send _ ∙ send_found stream bytes rest h
output_found (output.Close stream) rest h = begun sent.Close _ ∙ close_found stream rest h

pub outputs_exact : IsExact IsOutput output_words output_at
outputs_exact = record { found = output_found; only = output_only }

pub output_long : (o : Output) → 0 < length (output_words o)
output_long (output.Datagram link to bytes) = omega arith
output_long (output.Dial stream to) = omega arith
output_long (output.Send stream bytes) = omega arith
output_long (output.Close stream) = omega arith

-- ---- answers to drains

some_outputs_only : (ws : List (List ℕ)) (x : RecordAnswer × List (List ℕ)) → outputs_at ws ≡ Ok x → Means IsOfDrain told_words x.0 ws
unfolding outputs_at
some_outputs_only ws x e =
    let a = was_read _ (output_at ws) x e in
    let h = output_only ws a.first.0 a.first.1 a.is in
    let r = was_read _ (each_at output_at (a.first.0 ∷ []) a.first.1) x a.more in
    let m = each_only IsOutput output_words output_at outputs_exact output_long all_output_words refl (λ o os. refl) (a.first.0 ∷ []) r.first.0 a.first.1 r.first.1 r.is in
    subst (λ (y : RecordAnswer). Means IsOfDrain told_words y ws) (ap answer.Outputs (sym m.parts) ∙ ap (λ (y : RecordAnswer × List (List ℕ)). y.0) (ok_is (answer.Outputs r.first.0, r.first.1) x r.more)) (record {
      ranges = (h.1, m.each);
      spelled = behind (output_words a.first.0) h.0 m.words;
    })

none_only : (ws : List (List ℕ)) (x : RecordAnswer × List (List ℕ)) → none_at ws ≡ Ok x → Means IsOfDrain told_words x.0 ws
unfolding none_at
none_only ws x e =
    let a = taken (this_word (codes "none")) _ ws x e in
    let z = ended (answer.Outputs []) a.rest x a.more in
    subst (λ (y : RecordAnswer). Means IsOfDrain told_words y ws) (sym z.value) (record { ranges = tt; spelled = after a.parts z.words })

drain_by : (w : List ℕ) (ws : List (List ℕ)) (b : Bool) (x : RecordAnswer × List (List ℕ)) → cond b (none_at (w ∷ ws)) (outputs_at (w ∷ ws)) ≡ Ok x → Means IsOfDrain told_words x.0 (w ∷ ws)
drain_by w ws true x e = none_only (w ∷ ws) x e
drain_by w ws false x e = some_outputs_only (w ∷ ws) x e

pub of_drain_only : (ws : List (List ℕ)) (x : RecordAnswer × List (List ℕ)) → of_drain_at ws ≡ Ok x → Means IsOfDrain told_words x.0 ws
of_drain_only [] x e = absurd cc
of_drain_only (w ∷ ws) x e = drain_by w ws (is_none_word w) x e

some_outputs_found : (o : Output) (os : List Output) → IsOutput o → AllByRecursion IsOutput os → outputs_at (output_words o ++ all_output_words os) ≡ Ok (answer.Outputs (o ∷ os), [])
unfolding outputs_at
some_outputs_found o os h k = rw (output_found o (all_output_words os) h, each_found IsOutput output_words output_at outputs_exact output_long all_output_words refl (λ x xs. refl) (o ∷ []) os k) refl

-- an output doesn't begin with `none`
no_none : (n : OutputName) → is_none_word (output_word n) ≡ false
no_none sent.Datagram = refl
no_none _ = refl

not_none : (n : OutputName) (ws : List (List ℕ)) → of_drain_at (output_word n ∷ ws) ≡ outputs_at (output_word n ∷ ws)
not_none n ws = ap (λ (b : Bool). cond b (none_at (output_word n ∷ ws)) (outputs_at (output_word n ∷ ws))) (no_none n)

drained_some : (o : Output) (more : List (List ℕ)) → of_drain_at (output_words o ++ more) ≡ outputs_at (output_words o ++ more)
drained_some (output.Datagram link to bytes) more = not_none sent.Datagram _
drained_some (output.Dial stream to) more = not_none sent.Dial _
drained_some (output.Send stream bytes) more = not_none sent.Send _
drained_some (output.Close stream) more = not_none sent.Close _

none_found : none_at (codes "none" ∷ []) ≡ Ok (answer.Outputs [], [])
unfolding none_at
none_found = refl

pub of_drain_found : (a : RecordAnswer) → IsOfDrain a → of_drain_at (told_words a) ≡ Ok (a, [])
of_drain_found (answer.Outputs []) h = none_found
of_drain_found (answer.Outputs (o ∷ os)) h = drained_some o (all_output_words os) ∙ some_outputs_found o os h.0 h.1
of_drain_found _ h = absurd h

-- no `none` is next
pub not_next : (ws : List (List ℕ)) → is_next (codes "none") ws ≡ false → outputs_at ws ≡ of_drain_at ws
unfolding outputs_at output_at
not_next [] e = refl
not_next (w ∷ ws) e = sym (ap (λ (b : Bool). cond b (none_at (w ∷ ws)) (outputs_at (w ∷ ws))) e)
