-- The next call of each doubter is within the ranges of what calls carry.
use Rattle.std.proofs.Common.{◌≡◌, inr, refl, sym, ap, ◌∙◌, subst, arith, ℕ, ◌≤◌, Bool, true, false, List, length, Option, None, Some}
use Rattle.std.specs.Prelude.{codes}
use Rattle.std.specs.Str.{IsUtf8}
use Rattle.grasp_agent.specs.Kept.{IsKept}
use Rattle.grasp_cbor.proofs.Facts.Numbers.{all_bytes}
use Rattle.grasp_doubter.specs.Calls as doubter
use Rattle.grasp_doubter.specs.Questions.{doubt_name, question_value, unknown_text}
use Rattle.grasp_doubter.specs.States.{DoubterState, duty_of}
use Rattle.grasp_doubter.specs.declared.asking.Ask.{Ask}
use Rattle.grasp_doubter.specs.declared.duty.DoubtAct.{DoubtAct}
use Rattle.grasp_doubter.specs.declared.duty.DoubtDuty.{DoubtDuty}
use Rattle.grasp_doubter.specs.declared.duty.DoubtDuty.TheVariants as duty
use Rattle.grasp_laws_doubts.proofs.Asking.{AskedFor}
use Rattle.grasp_laws_doubts.proofs.Doubted.{DoubtersStand}
use Rattle.grasp_laws_doubts.specs.Grounds.{Grounds}
use Rattle.grasp_laws_network.proofs.Lists.{numbered_there}
use Rattle.grasp_laws_network.proofs.Lives.{first_count}
use Rattle.grasp_laws_network.proofs.LivesKept.{lives_are_kept}
use Rattle.grasp_model_network.specs.Plans.{IsNode}
use Rattle.grasp_model_network.specs.Ranges.{IsCall}
use Rattle.grasp_model_network.specs.Runs.{IsReached}
use Rattle.grasp_model_network.specs.Setting.{Setting, numbered}
use Rattle.grasp_model_network.specs.World.{Seat, WorldState, seat_at}
use Rattle.grasp_script.proofs.WholeWords.{small_utf8}
use Rattle.grasp_types.specs.Message.{IsVerdict}
use Rattle.grasp_types.specs.Objective.{IsValue}
use Rattle.grasp_types.specs.Prefix.{AddressBlock as Prefix}
use Rattle.grasp_types.specs.declared.address.Address.{Address}
use Rattle.grasp_types.specs.declared.address.Address.TheVariants.{V4, V6}
use Rattle.grasp_types.specs.declared.address.Locator.{Locator}
use Rattle.grasp_types.specs.declared.session.Handle.{Handle}

-- ---- what a question and an answer carry

name_is : IsUtf8 doubt_name
unfolding doubt_name
name_is = small_utf8 doubt_name refl

question_is : (a : Address) (p : Prefix) → p.length ≤ 128 → IsValue (question_value a p)
question_is (V4 n) p most = record { within = omega arith; encodable = (omega arith, ((omega arith, all_bytes 4 n), (omega (arith, most), ((omega arith, all_bytes 16 p.address), tt)))) }
question_is (V6 n) p most = record { within = omega arith; encodable = (omega arith, ((omega arith, all_bytes 16 n), (omega (arith, most), ((omega arith, all_bytes 16 p.address), tt)))) }

verdict_is : (a : DoubtAct) → IsVerdict (doubter.verdict_of a.accepts)
unfolding unknown_text
verdict_is a = by_answer a.accepts where
  by_answer : (b : Bool) → IsVerdict (doubter.verdict_of b)
  by_answer true = tt
  by_answer false = small_utf8 (codes "unknown") refl

duty_is : (d : DoubtDuty) → IsCall (doubter.duty_call d)
duty_is duty.Listen = tt
duty_is (duty.Ask h) = tt
duty_is (duty.Answer place h) = tt

asking_is : (p : Prefix) (a : Address) (peer : Locator) (h : Option Handle) (d : DoubtDuty) → p.length ≤ 128 → IsCall (doubter.asking_call (Some (record { prefix = p; address = a; peer = peer; session = h })) d)
asking_is p a peer None d most = (name_is, question_is a p most, omega arith)
asking_is p a peer (Some h) d most = duty_is d

-- ---- what a doubter asks of is a prefix

module _ (l : Grounds) (s : Setting) (w : WorldState) (ds : List DoubterState) (r : IsReached s w) (all : DoubtersStand s w ds) (node : ℕ) (member : IsNode (length s.members) node) (d : DoubterState) (is : numbered ds node ≡ Some d) where
  count : length w.seats ≡ length s.members
  count = sym (lives_are_kept s w r).count ∙ (ap (λ ls. length ls) all.lives ∙ first_count s)

  here : (seat : Seat) × (seat_at w node ≡ Some seat)
  here = numbered_there w.seats node (subst (λ n. IsNode n node) (sym count) member)

  kept : IsKept here.0.agent
  kept = l.prefixes.kept s w r node here.0 here.1

  asked_length : (k : Ask) → d.ask ≡ Some k → k.prefix.length ≤ 128
  asked_length k ask = let asked : AskedFor here.0 d k = all.asked node here.0 here.1 d is k ask in (kept.pool.valid k.prefix (inr asked.doubtful)).most

  by_ask : (q : Option Ask) → d.ask ≡ q → IsCall (doubter.asking_call q (duty_of d))
  by_ask None ask = duty_is (duty_of d)
  by_ask (Some k) ask = asking_is k.prefix k.address k.peer k.session (duty_of d) (asked_length k ask)

  by_act : (a : Option DoubtAct) → IsCall (doubter.serving_call a d.ask (duty_of d))
  by_act None = by_ask d.ask refl
  by_act (Some a) = verdict_is a

  pub call_is : IsCall (doubter.next_call d)
  unfolding doubter.next_call
  call_is = by_act d.act
