-- More moves lead to a reached talk, and what they leave.
use Rattle.std.proofs.Common.{◌≡◌, ℕ, true, List, [], ◌∷◌, ◌++◌, reverse, inl, inr, refl, sym, ap, ◌∙◌, subst}
use Rattle.std.proofs.lemmas.Bool.{true≢false}
use Rattle.std.proofs.lemmas.List.{append_cancel_left, reverse-append, reverse-reverse}
use Rattle.grasp_types.specs.declared.message.Verdict.TheVariants.{Decline}
use Rattle.grasp_types.specs.declared.message.Message.{Message}
use Rattle.grasp_types.specs.declared.message.Message.TheVariants.{ReqNeg, End}
use Rattle.std.specs.Prelude.{Option}
use Rattle.grasp_session.specs.Messages.{Side, Near, other}
use Rattle.grasp_session.specs.Conversation.{Said, strip, begun, number, requested, Trails, spoken}
use Rattle.grasp_session.specs.Transcript.{Transcript, after_heard}
use Rattle.grasp_session.specs.Talk.{Stage, Absent, Refused, Present, Talk, quiet, party, took, hears_next, Move, moved, run, Reached}
use Rattle.grasp_session.specs.Laws.{IsOpened}
use Rattle.grasp_laws_session.specs.Moves.{QuietIsReached, MovesReach, RunsJoin, KeepsRequest, RequestStays, RequesterIsPresent, HeardNext, InboxIsNext}
use Rattle.grasp_laws_session.proofs.Trailing.{still_whole}
use Rattle.grasp_laws_session.proofs.Catching.{put_trails}
use Rattle.grasp_laws_session.proofs.Requests.{request_on}
use Rattle.grasp_laws_session.proofs.Sound.{SoundAbsent, SoundStage}
use Rattle.grasp_laws_session.proofs.Ends.{sound, none_bad}
use Rattle.grasp_laws_session.proofs.Growing.{Followed, moves_follow}
use Rattle.grasp_laws_session.proofs.Firsts.{first_is_request}
use Rattle.grasp_laws_session.proofs.Inboxes.{run_taken}

-- ---- what is reached

pub quiet_reached : QuietIsReached
quiet_reached = record { moves = []; ran = refl }

pub runs_join : RunsJoin
runs_join t [] b = refl
runs_join t (m ∷ a) b = runs_join (moved t m) a b

pub moves_reach : MovesReach
moves_reach t ms r = record { moves = r.moves ++ ms; ran = ap (λ (x : Talk). run x ms) r.ran ∙ sym (runs_join quiet r.moves ms) }

pub move_reaches : (t : Talk) (m : Move) → Reached t → Reached (moved t m)
move_reaches t m r = moves_reach t (m ∷ []) r

-- ---- the request stays

followed_keeps : (old new : List Said) → begun old ≡ true → Followed old new → KeepsRequest old new
followed_keeps old new b (inl e) = record { has_begun = ap begun e ∙ b; same_number = ap number e; same_request = ap requested e }
followed_keeps old new b (inr p) =
    let k = request_on p.0.side p.0.message old p.2 b in
    record { has_begun = ap begun p.1; same_number = ap number p.1 ∙ k.0; same_request = ap requested p.1 ∙ k.1 }

pub request_stays : RequestStays
request_stays t r b [] = record { has_begun = b; same_number = refl; same_request = refl }
request_stays t r b (m ∷ ms) =
    let k = followed_keeps (strip t.said) (strip (moved t m).said) b (moves_follow t r m) in
    let l = request_stays (moved t m) (move_reaches t m r) k.has_begun ms in
    record { has_begun = l.has_begun; same_number = l.same_number ∙ k.same_number; same_request = l.same_request ∙ k.same_request }

-- ---- near is there

-- nothing was said where near has no session
absent_silent : (t : Talk) → Reached t → SoundAbsent Near t.near.inbox t.said → strip t.said ≡ []
absent_silent t r s =
    sym (still_whole Near [] (strip t.said) (sound t r).legal
    (subst (λ (c : List Said). Trails Near [] c) (sym s.untaken.ahead) (put_trails Near t.near.inbox [])) (inl refl))

-- a decline is no request
refused_first : (session : ℕ) (reason : Option (List ℕ)) (told : List Message) → told ≡ End session (Decline reason) ∷ [] → IsOpened told → ⊥
refused_first session reason told e (inl f) = cc
refused_first session reason told e (inr p) = let f : told ≡ ReqNeg p.0 p.1 ∷ p.2 = p.3 in cc

near_present : (t : Talk) → Reached t → (stage : Stage) → SoundStage Near t.near.inbox t.said stage → begun (strip t.said) ≡ true
    → (v : Transcript) × (stage ≡ Present v)
near_present t r Absent s b = absurd (true≢false (sym b ∙ ap begun (absent_silent t r s)))
near_present t r Refused s b = absurd (refused_first s.session s.reason (reverse (spoken Near t.said)) (ap reverse s.own) (first_is_request t r))
near_present t r (Present v) s b = (v, refl)

pub requester_is_present : RequesterIsPresent
requester_is_present t r b = near_present t r t.near.stage (sound t r).near b

-- ---- what an end takes next

pub heard_next : HeardNext
heard_next t r side now v m left e f g =
    ap (λ (s : Stage). hears_next t side now s (party t side).inbox) e
    ∙ (ap (λ (l : List Message). hears_next t side now (Present v) l) f
    ∙ ap (λ k. took t side m left (Present (after_heard v now m k))) (none_bad t r side v m left e f g))

-- oldest first, an end took the other side's first messages, and the rest is left
pub in_order : (t : Talk) → Reached t → (side : Side) → reverse (spoken (other side) t.said) ≡ reverse (party t side).taken ++ (party t side).inbox
in_order t r side =
    ap reverse (run_taken t r side).given
    ∙ (reverse-append (reverse (party t side).inbox) (party t side).taken
    ∙ ap (λ (l : List Message). reverse (party t side).taken ++ l) (reverse-reverse (party t side).inbox))

pub inbox_is_next : InboxIsNext
inbox_is_next t r side given next e f =
    let g : reverse (party t side).taken ≡ given = ap reverse e ∙ reverse-reverse given in
    append_cancel_left given (party t side).inbox next (ap (λ (l : List Message). l ++ (party t side).inbox) (sym g) ∙ (sym (in_order t r side) ∙ f))
