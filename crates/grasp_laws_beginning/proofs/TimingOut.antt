-- How a session times out.
use Rattle.std.proofs.Common.{◌≡◌, ◌⊎◌, inl, inr, ℕ, ◌==◌, max, Bool, true, false, cond, ◌&&◌, None, Some, ap, ◌∙◌, arith}
use Rattle.std.specs.Prelude.{slice_index_or}
use Rattle.std.proofs.lemmas.Bool.{eq-eqb, ne_eqb}
use Rattle.grasp_laws_beginning.specs.TimingOut.{TimesOutAt, DueTimeOut}
use Rattle.grasp_laws_node.proofs.Beginning.{beginnings_end, sessions_time_out}
use Rattle.grasp_laws_node.specs.Beginnings.{IsDue, TimesOut, timed_out}
use Rattle.grasp_model_node.specs.Begin.{begin}
use Rattle.grasp_model_node.specs.Streams.{past_of}
use Rattle.grasp_session.specs.Says.{IsAt}
use Rattle.grasp_session.specs.Sessions.{SessionState}
use Rattle.grasp_session.specs.Transcript.{Expired}

-- by whether an agent has it
timed : (reading : ℕ) (x : SessionState) (b : Bool) → x.owner == 0 ≡ b → timed_out reading x ≡ cond b None (Some (record x { view = record x.view { mark = Some (Expired reading) } }))
timed reading x true e = ap (λ (b : Bool). cond (b && true) None (Some (record x { view = record x.view { mark = Some (Expired reading) } }))) e
timed reading x false e = ap (λ (b : Bool). cond (b && true) None (Some (record x { view = record x.view { mark = Some (Expired reading) } }))) e

pub due_time_out : DueTimeOut
due_time_out n now place x k at due = by (ends.each place x at) where
  ends : TimesOut n (begin n now)
  ends = sessions_time_out n now k

  reading_is : (begin n now).reading ≡ max n.reading now
  reading_is = (beginnings_end n now).0.reading

  found : slice_index_or (begin n now).sessions.places place None ≡ timed_out (begin n now).reading x → TimesOutAt place (max n.reading now) x (begin n now).sessions
  found is = record {
    stays = λ owned. then ∙ timed (max n.reading now) x false (ne_eqb x.owner 0 owned);
    leaves = λ untaken. then ∙ timed (max n.reading now) x true (eq-eqb x.owner 0 untaken);
  } where
    then : slice_index_or (begin n now).sessions.places place None ≡ timed_out (max n.reading now) x
    then = is ∙ ap (λ (r : ℕ). timed_out r x) reading_is

  by : IsAt (begin n now).sessions place x ⊎ (IsDue (begin n now).reading x × (slice_index_or (begin n now).sessions.places place None ≡ timed_out (begin n now).reading x) × (past_of (begin n now).streams x.stream ≡ None))
      → TimesOutAt place (max n.reading now) x (begin n now).sessions
  by (inl stays) = let late = ends.none_left place x stays due.0 in let last = due.1 in absurd (omega (arith, late, last, reading_is))
  by (inr h) = found h.1
