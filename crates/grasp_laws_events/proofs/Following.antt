-- How the doubters of a network go on with it.
use Rattle.std.proofs.Common.{◌≡◌, refl, ap, ◌∙◌, subst, ℕ, ◌-◌, ◌==◌, Bool, true, false, cond, List, slice_get, slice_set, Option, None, Some}
use Rattle.std.proofs.lemmas.Option.{none-some}
use Rattle.grasp_agent.specs.Calls.{next_call}
use Rattle.grasp_doubter.specs.Asking.{after_ask, ask_reply}
use Rattle.grasp_doubter.specs.Replies.{Taken, after_take}
use Rattle.grasp_doubter.specs.Seeing.{after_saw}
use Rattle.grasp_doubter.specs.States.{DoubterState}
use Rattle.grasp_laws_network.proofs.Staying.{set_here}
use Rattle.grasp_model_doubts.specs.Events.{call_report, doubt_event, doubt_report}
use Rattle.grasp_model_doubts.specs.Steps.{after_asking, after_doubter, after_plain, asking_answer, doubter_asking, doubter_called, having_seen, seeing, settled_where, taken_at, taken_beside}
use Rattle.grasp_model_doubts.specs.World.{DoubtState}
use Rattle.grasp_model_doubts.specs.declared.event.DoubtEvent.TheVariants as doubt
use Rattle.grasp_model_doubts.specs.declared.report.DoubtReport.TheVariants as report
use Rattle.grasp_model_network.specs.Events.{after_event}
use Rattle.grasp_model_network.specs.Setting.{Setting, numbered}
use Rattle.grasp_model_network.specs.Visits.{Choice}
use Rattle.grasp_model_network.specs.World.{Seat, WorldState, present_life, seat_at}
use Rattle.grasp_model_network.specs.declared.event.Event.TheVariants as event
use Rattle.grasp_types.specs.Prefix.{AddressBlock as Prefix}
use Rattle.grasp_types.specs.declared.address.Locator.{Locator}
use Rattle.grasp_laws_events.specs.Following.{IsPresently, after_its_call, DoubtersFollow}

-- what is put at a number is found there
put_at : {A : Type 0} (xs : List A) (node : ℕ) (x y : A) → numbered xs node ≡ Some x → numbered (slice_set xs (node - 1) y) node ≡ Some y
put_at {A} xs node x y e = by_zero (node == 0) refl where
  by_zero : (b : Bool) → (node == 0) ≡ b → numbered (slice_set xs (node - 1) y) node ≡ Some y
  by_zero true is = absurd (none-some x (subst (λ z. cond z None (slice_get xs (node - 1)) ≡ Some x) is e))
  by_zero false is = rw is (set_here xs (node - 1) x y (subst (λ z. cond z None (slice_get xs (node - 1)) ≡ Some x) is e))

-- ---- what it sees

sees : (s : Setting) (x : DoubtState) (node : ℕ) (hold : Bool) (c : Choice) (d : DoubterState) (before after : Seat) → numbered x.doubters node ≡ Some d → IsPresently x.world node before
    → IsPresently (after_event s x.world (event.Agent node hold) c) node after
    → numbered (doubt_event s x (doubt.Plain (event.Agent node hold)) c).doubters node ≡ Some (after_saw d after.agent.pool (next_call before.agent) c.reply)
unfolding after_plain
sees s x node hold c d before after is here there =
    ap (λ o. numbered (having_seen x node c w o) node) is
    ∙ (put_at x.doubters node d (seeing d (seat_at x.world (present_life x.world node)) (seat_at w (present_life w node)) c) is
    ∙ (ap (λ o. Some (seeing d o (seat_at w (present_life w node)) c)) here ∙ ap (λ o. Some (seeing d (Some before) o c)) there))
  where
    w : WorldState
    w = after_event s x.world (event.Agent node hold) c

-- ---- what it calls

module _ (s : Setting) (x : DoubtState) (node : ℕ) (c : Choice) (d : DoubterState) (seat : Seat) (is : numbered x.doubters node ≡ Some d) (there : IsPresently (after_its_call s x.world node d c) node seat) where
  taken_is : taken_at s x.world node d c ≡ after_take d seat.agent c.reply
  taken_is = ap (λ o. taken_beside o d c) there

  called_is : doubt_event s x (doubt.Doubter node) c ≡ doubter_called s x node c (Some d)
  unfolding after_doubter
  called_is = ap (doubter_called s x node c) is

  takes : numbered (doubt_event s x (doubt.Doubter node) c).doubters node ≡ Some (after_take d seat.agent c.reply).after
  takes =
      ap (λ (z : DoubtState). numbered z.doubters node) called_is
      ∙ (put_at x.doubters node d (taken_at s x.world node d c).after is ∙ ap (λ (t : Taken). Some t.after) taken_is)

  settled_so : (o : Option Prefix) → (after_take d seat.agent c.reply).settled ≡ o → (doubt_event s x (doubt.Doubter node) c).world ≡ settled_where (after_its_call s x.world node d c) node o
  settled_so o e =
      ap (λ (z : DoubtState). z.world) called_is
      ∙ ap (settled_where (after_its_call s x.world node d c) node) (ap (λ (t : Taken). t.settled) taken_is ∙ e)

-- ---- what it is asked

asks : (s : Setting) (x : DoubtState) (node : ℕ) (p : Prefix) (peer : ℕ) (c : Choice) (d : DoubterState) (seat : Seat) (locator : Locator) → numbered x.doubters node ≡ Some d
    → IsPresently x.world node seat → numbered s.peers peer ≡ Some locator
    → (doubt_report s x (doubt.Ask node p peer) c ≡ report.Ask (ask_reply d seat.agent.pool p))
    × (numbered (doubt_event s x (doubt.Ask node p peer) c).doubters node ≡ Some (after_ask d p locator (ask_reply d seat.agent.pool p)))
    × ((doubt_event s x (doubt.Ask node p peer) c).world ≡ x.world)
unfolding after_asking
asks s x node p peer c d seat locator is here named = (ap report.Ask answered, asked, refl) where
  answered : asking_answer (numbered x.doubters node) (seat_at x.world (present_life x.world node)) p ≡ ask_reply d seat.agent.pool p
  answered = ap (λ o. asking_answer o (seat_at x.world (present_life x.world node)) p) is ∙ ap (λ o. asking_answer (Some d) o p) here

  asked : numbered (doubter_asking x.doubters node p (numbered s.peers peer) (asking_answer (numbered x.doubters node) (seat_at x.world (present_life x.world node)) p) (numbered x.doubters node)) node
      ≡ Some (after_ask d p locator (ask_reply d seat.agent.pool p))
  asked =
      ap (λ r. numbered (doubter_asking x.doubters node p (numbered s.peers peer) r (numbered x.doubters node)) node) answered
      ∙ (ap (λ o. numbered (doubter_asking x.doubters node p o (ask_reply d seat.agent.pool p) (numbered x.doubters node)) node) named
      ∙ (ap (λ o. numbered (doubter_asking x.doubters node p (Some locator) (ask_reply d seat.agent.pool p) o) node) is
      ∙ put_at x.doubters node d (after_ask d p locator (ask_reply d seat.agent.pool p)) is))

pub doubters_follow : DoubtersFollow
unfolding after_plain
doubters_follow = record {
  plain = λ s x e c. refl;
  plain_told = λ s x e c. refl;
  sees = sees;
  takes = λ s x node c d seat is there. takes s x node c d seat is there;
  settles = λ s x node c d seat p is there e. settled_so s x node c d seat is there (Some p) e;
  leaves = λ s x node c d seat is there e. settled_so s x node c d seat is there None e;
  call_told = λ s x node c d is. ap (call_report c) is;
  asks = asks;
}
