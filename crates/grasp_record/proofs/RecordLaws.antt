-- A line of a record is read where its words are, and nowhere else.
use Rattle.std.proofs.Common.{◌≡◌, ℕ, ◌≤◌, List, [], Ok, refl, ap, subst}
use Rattle.grasp_text.proofs.Lawful.{ok_is}
use Rattle.grasp_script.proofs.Fields.{Means}
use Rattle.grasp_script.proofs.WordReaders.{small64, within64}
use Rattle.grasp_record.specs.Answers.{is_poll, told_words, IsAnswerTo}
use Rattle.grasp_record.specs.Grammar.{asked_at, answer_at, record_at}
use Rattle.grasp_record.specs.Records.{IsRecord}
use Rattle.grasp_record.specs.declared.inputs.Asked.{Asked}
use Rattle.grasp_record.specs.declared.line.RecordAnswer.{RecordAnswer}
use Rattle.grasp_record.specs.declared.line.RecordInput.{RecordInput}
use Rattle.grasp_record.specs.declared.line.RecordInput.TheVariants as input
use Rattle.grasp_record.specs.declared.line.RecordLine.{RecordLine}
use Rattle.grasp_record.proofs.AnswerLaws.{of_call_only, of_call_found, of_want_only, of_want_found, of_return_only, of_return_found}
use Rattle.grasp_record.proofs.InputLaws.{asked_words, IsAsked, asked_only, asked_found}
use Rattle.grasp_record.proofs.OutputLaws.{of_datagram_only, of_datagram_found, of_stream_only, of_stream_found, of_drain_only, of_drain_found}
use Rattle.grasp_record.proofs.SomeWords.{was_read}

answer_only : (i : RecordInput) (ws : List (List ℕ)) (x : RecordAnswer × List (List ℕ)) → answer_at i ws ≡ Ok x → Means (IsAnswerTo i) told_words x.0 ws
answer_only (input.Api asa call) ws x e = let m = of_call_only (is_poll call) ws x e in record { ranges = m.ranges; spelled = m.spelled }
answer_only (input.Agent call) ws x e = let m = of_call_only (is_poll call) ws x e in record { ranges = m.ranges; spelled = m.spelled }
answer_only (input.Want length longest peer) ws x e = let m = of_want_only ws x e in record { ranges = m.ranges; spelled = m.spelled }
answer_only (input.Return prefix peer) ws x e = let m = of_return_only ws x e in record { ranges = m.ranges; spelled = m.spelled }
answer_only (input.Datagram link from bytes) ws x e = let m = of_datagram_only ws x e in record { ranges = m.ranges; spelled = m.spelled }
answer_only (input.Opened stream from) ws x e = let m = of_stream_only ws x e in record { ranges = m.ranges; spelled = m.spelled }
answer_only (input.Bytes stream bytes) ws x e = let m = of_stream_only ws x e in record { ranges = m.ranges; spelled = m.spelled }
answer_only (input.Closed stream) ws x e = let m = of_stream_only ws x e in record { ranges = m.ranges; spelled = m.spelled }
answer_only (input.Drain max) ws x e = let m = of_drain_only ws x e in record { ranges = m.ranges; spelled = m.spelled }

answer_found : (i : RecordInput) (a : RecordAnswer) → IsAnswerTo i a → answer_at i (told_words a) ≡ Ok (a, [])
answer_found (input.Api asa call) a h = of_call_found (is_poll call) a h
answer_found (input.Agent call) a h = of_call_found (is_poll call) a h
answer_found (input.Want length longest peer) a h = of_want_found a h
answer_found (input.Return prefix peer) a h = of_return_found a h
answer_found (input.Datagram link from bytes) a h = of_datagram_found a h
answer_found (input.Opened stream from) a h = of_stream_found a h
answer_found (input.Bytes stream bytes) a h = of_stream_found a h
answer_found (input.Closed stream) a h = of_stream_found a h
answer_found (input.Drain max) a h = of_drain_found a h

-- what stands before `=`
abbrev pub asked_of : RecordLine → Asked
asked_of x = record { node = x.node; now = x.now; input = x.input }

-- the words before `=` and behind it mean this
pub record MeansRecord (nodes : ℕ) (x : RecordLine) (front back : List (List ℕ)) : Type 0 where
  pub ranges : IsRecord nodes x
  pub before : front ≡ asked_words (asked_of x)
  pub behind : back ≡ told_words x.answer

pub is_asked : (nodes : ℕ) (x : RecordLine) → IsRecord nodes x → IsAsked nodes (asked_of x)
is_asked nodes x h = record { node = h.node; now = within64 h.now; input = h.input }

module _ (nodes : ℕ) (few : nodes ≤ 255) where
  pub record_only : (front back : List (List ℕ)) (x : RecordLine × List (List ℕ)) → record_at nodes front back ≡ Ok x → MeansRecord nodes x.0 front back
  unfolding record_at
  record_only front back x e =
      let a = was_read _ (asked_at nodes front) x e in
      let m = asked_only nodes few front a.first a.is in
      let r = was_read _ (answer_at a.first.0.input back) x a.more in
      let n = answer_only a.first.0.input back r.first r.is in
      let made : RecordLine = record { node = a.first.0.node; now = a.first.0.now; input = a.first.0.input; answer = r.first.0 } in
      subst (λ (y : RecordLine). MeansRecord nodes y front back) (ap (λ (y : RecordLine × List (List ℕ)). y.0) (ok_is (made, r.first.1) x r.more)) (record {
        ranges = record { node = m.ranges.node; now = small64 m.ranges.now; input = m.ranges.input; answer = n.ranges };
        before = m.spelled;
        behind = n.spelled;
      })

  pub record_found : (x : RecordLine) → IsRecord nodes x → record_at nodes (asked_words (asked_of x)) (told_words x.answer) ≡ Ok (x, [])
  unfolding record_at
  record_found x h = rw (asked_found nodes few (asked_of x) (is_asked nodes x h), answer_found x.input x.answer h.answer) refl
