-- The laws, from what is true of each talk that a run reaches.
use Rattle.std.proofs.Common.{◌≡◌, List, ◌++◌, reverse, inr, sym, ap, ◌∙◌, subst, append_assoc}
use Rattle.grasp_session.specs.Messages.{Side, Near, Far}
use Rattle.grasp_types.specs.declared.message.Message.{Message}
use Rattle.grasp_session.specs.Conversation.{Said, strip, number}
use Rattle.grasp_session.specs.Transcript.{Transcript, known, kept_of}
use Rattle.grasp_session.specs.Talk.{Stage, Absent, Refused, Present, Talk, quiet, party, Reached}
use Rattle.grasp_session.specs.Laws.{RunsAreLegal, RunsAreBounded, ViewsTrail, IsSilent, SilentUnseen, NoneIsBad, BothAgree, OffersStand}
use Rattle.grasp_laws_session.proofs.Follows.{legal_counts, counts_bounded}
use Rattle.grasp_laws_session.proofs.Trailing.{still_whole}
use Rattle.grasp_laws_session.proofs.Sound.{SoundView, SoundStage, SoundTalk, sound_party}
use Rattle.grasp_laws_session.proofs.Moves.{is_kept, run_sound, quiet_sound}
use Rattle.grasp_laws_session.proofs.Requests.{trails_begun, trails_request}
use Rattle.grasp_laws_session.proofs.Agreeing.{reported, agreeing}
use Rattle.grasp_laws_session.proofs.Inboxes.{run_taken}
use Rattle.grasp_laws_session.proofs.Offers.{trails_offer, trails_unanswered, turn_unanswered, accepted_trails}

pub sound : (t : Talk) → Reached t → SoundTalk t
sound t r = subst SoundTalk (sym r.ran) (run_sound quiet r.moves quiet_sound)

pub legal : RunsAreLegal
legal t r = record { legal = (sound t r).legal; last = (sound t r).last.last; session = number (strip t.said); numbered = (sound t r).last.numbered }

pub bounded : RunsAreBounded
bounded t r = counts_bounded (strip t.said) (legal_counts (strip t.said) (sound t r).legal)

pub sound_view : (t : Talk) → Reached t → (side : Side) (v : Transcript) → (party t side).stage ≡ Present v → SoundView side (party t side).inbox t.said v
sound_view t r side v e = subst (SoundStage side (party t side).inbox t.said) e (sound_party t side (sound t r))

pub views : ViewsTrail
views t r side v e =
    let s = sound_view t r side v e in
    let k = run_taken t r side in
    let f = k.first v e in
    record {
      role = s.role;
      knows_request = s.has_begun;
      was_requested = trails_begun side (known v) (strip t.said) s.trails s.has_begun;
      trails = s.trails;
      own = s.own;
      kept = (reverse (party t side).inbox ++ f.0, k.given ∙ (ap (λ (l : List Message). reverse (party t side).inbox ++ l) f.1 ∙ sym (append_assoc (reverse (party t side).inbox) f.0 (kept_of v.entries))));
      whole = still_whole side (known v) (strip t.said) (sound t r).legal s.trails;
      no_fault = s.no_fault;
      same_number = (trails_request side (known v) (strip t.said) (sound t r).legal s.trails s.has_begun).0;
      same_request = (trails_request side (known v) (strip t.said) (sound t r).legal s.trails s.has_begun).1;
    }

pub unseen : SilentUnseen
unseen t r side = by_stage (party t side).stage (sound_party t side (sound t r)) where
  by_stage : (stage : Stage) → SoundStage side (party t side).inbox t.said stage → IsSilent side t.said stage
  by_stage Absent s = s.own
  by_stage Refused s = (s.session, s.reason, s.own)
  by_stage (Present v) s = tt

pub none_bad : NoneIsBad
none_bad t r side v m left e f g =
    let s = sound_view t r side v e in
    is_kept side left t.said v m (sound t r).legal (subst (λ (inbox : List Message). SoundView side inbox t.said v) f s) g

pub agree : BothAgree
agree t r v w a b o p e f g h =
    let s = sound_view t r Near v e in
    let u = sound_view t r Far w f in
    let k = reported v a o g in
    let l = reported w b p h in
    agreeing v w a b o p t.said (sound t r).legal s.role u.role
    (still_whole Near (known v) (strip t.said) (sound t r).legal s.trails (inr k.over))
    (still_whole Far (known w) (strip t.said) (sound t r).legal u.trails (inr l.over)) k l

pub offers : OffersStand
offers t r side v e =
    let s = sound_view t r side v e in
    let c : List Said = strip t.said in
    record {
      offer = trails_offer side (known v) (strip t.said) s.trails;
      before = λ h n. trails_unanswered side (known v) (strip t.said) s.trails (turn_unanswered side (strip t.said) (sound t r).legal h n);
      accepted = accepted_trails side (known v) (strip t.said) (sound t r).legal s.trails;
    }
