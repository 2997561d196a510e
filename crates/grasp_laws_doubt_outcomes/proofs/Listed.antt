-- Each network on the way of a run of doubters is among those of the run, and each of its settlings is spoken of.
use Rattle.std.proofs.Common.{◌≡◌, refl, sym, ◌∙◌, subst, ℕ, List, [], ◌∷◌, ◌++◌, Contains, Option, None, Some}
use Rattle.std.proofs.lemmas.List.Elements.{Contains-append_left, Contains-append_right, Contains-push}
use Rattle.grasp_doubter.specs.States.{DoubterState}
use Rattle.grasp_laws_doubt_outcomes.specs.Listed.{DoubtNetworksAreListed}
use Rattle.grasp_model_doubts.specs.Events.{doubt_event, networks_of_call, networks_within}
use Rattle.grasp_model_doubts.specs.Runs.{DoubtTurn, doubt_networks, doubted}
use Rattle.grasp_model_doubts.specs.Steps.{after_doubter_call, taken_at}
use Rattle.grasp_model_doubts.specs.World.{DoubtState}
use Rattle.grasp_model_doubts.specs.declared.event.DoubtEvent.{DoubtEvent}
use Rattle.grasp_model_doubts.specs.declared.event.DoubtEvent.TheVariants.{Doubter}
use Rattle.grasp_model_network.specs.Setting.{Setting, numbered}
use Rattle.grasp_model_network.specs.Settling.{IsDead}
use Rattle.grasp_model_network.specs.Visits.{Choice}
use Rattle.grasp_model_network.specs.World.{WorldState}
use Rattle.grasp_model_script_doubts.specs.LineRuns.{DoubtLineRun, act_event, after_doubt_line, state_then, turn_of}
use Rattle.grasp_model_script_doubts.specs.ScriptRuns.{doubt_turns, state_after}
use Rattle.grasp_model_script_doubts.specs.Settlings.{AllSettleDead, CallSettlesDead, EventSettlesDead, IsDeadWhere}
use Rattle.grasp_types.specs.Prefix.{AddressBlock as Prefix}

at_first : {A : Type 0} (x : A) (xs : List A) → Contains (x ∷ xs) x
at_first x xs = Contains-append_left (x ∷ []) xs x (Contains-push [] x)

behind_first : {A : Type 0} (x y : A) (xs : List A) → Contains xs y → Contains (x ∷ xs) y
behind_first x y xs h = Contains-append_right (x ∷ []) xs y h

-- ---- where events lead

none_behind : (s : Setting) (x : DoubtState) → doubted s x [] ≡ x
unfolding doubted
none_behind s x = refl

one_more : (s : Setting) (ts : List DoubtTurn) (t : DoubtTurn) (x : DoubtState) → doubted s x (ts ++ t ∷ []) ≡ doubt_event s (doubted s x ts) t.event t.choice
unfolding doubted
one_more s [] t x = refl
one_more s (u ∷ ts) t x = one_more s ts t (doubt_event s x u.event u.choice)

line_leads : (s : Setting) (x : DoubtState) (o : Option DoubtEvent) (c : Choice) (ts : List DoubtTurn) → doubted s (state_then s x o c) ts ≡ doubted s x (turn_of o c ++ ts)
unfolding doubted
line_leads s x None c ts = refl
line_leads s x (Some e) c ts = refl

lines_lead : (s : Setting) (ls : List DoubtLineRun) (x : DoubtState) → state_after s x ls ≡ doubted s x (doubt_turns s x ls)
unfolding state_after doubt_turns
lines_lead s [] x = sym (none_behind s x)
lines_lead s (l ∷ ls) x =
    lines_lead s ls (after_doubt_line s x l) ∙ line_leads s x (act_event x.world l.line.act) l.choice (doubt_turns s (after_doubt_line s x l) ls)

-- ---- networks

first_network : (s : Setting) (x : DoubtState) (ts : List DoubtTurn) → Contains (doubt_networks s x ts) x.world
unfolding doubt_networks
first_network s x [] = Contains-push [] x.world
first_network s x (t ∷ ts) = at_first x.world (networks_within s x t.event t.choice ++ doubt_networks s (doubt_event s x t.event t.choice) ts)

later : (s : Setting) (x : DoubtState) (t : DoubtTurn) (ts : List DoubtTurn) (w : WorldState)
    → Contains (doubt_networks s (doubt_event s x t.event t.choice) ts) w → Contains (doubt_networks s x (t ∷ ts)) w
unfolding doubt_networks
later s x t ts w at =
    behind_first x.world w (networks_within s x t.event t.choice ++ doubt_networks s (doubt_event s x t.event t.choice) ts)
    (Contains-append_right (networks_within s x t.event t.choice) (doubt_networks s (doubt_event s x t.event t.choice) ts) w at)

each_network : (s : Setting) (ts us : List DoubtTurn) (x : DoubtState) → Contains (doubt_networks s x (ts ++ us)) (doubted s x ts).world
unfolding doubted
each_network s [] us x = first_network s x us
each_network s (t ∷ ts) us x =
    let next : DoubtState = doubt_event s x t.event t.choice in
    later s x t (ts ++ us) (doubted s next ts).world (each_network s ts us next)

-- ---- a doubter's call

called : (s : Setting) (x : DoubtState) (e : DoubtEvent) (c : Choice) (node : ℕ) (d : DoubterState) → e ≡ Doubter node → numbered x.doubters node ≡ Some d
    → Contains (networks_within s x e c) (after_doubter_call s x.world node d c)
called s x e c node d is here =
    let w : WorldState = after_doubter_call s x.world node d c in
    subst (λ (f : DoubtEvent). Contains (networks_within s x f c) w) (sym is)
    (subst (λ (o : Option DoubterState). Contains (networks_of_call s x.world node c o) w) (sym here) (Contains-push [] w))

first_call : (s : Setting) (x : DoubtState) (us : List DoubtTurn) (t : DoubtTurn) (node : ℕ) (d : DoubterState) → t.event ≡ Doubter node → numbered x.doubters node ≡ Some d
    → Contains (doubt_networks s x (t ∷ us)) (after_doubter_call s x.world node d t.choice)
unfolding doubt_networks
first_call s x us t node d is here =
    let w : WorldState = after_doubter_call s x.world node d t.choice in
    behind_first x.world w (networks_within s x t.event t.choice ++ doubt_networks s (doubt_event s x t.event t.choice) us)
    (Contains-append_left (networks_within s x t.event t.choice) (doubt_networks s (doubt_event s x t.event t.choice) us) w (called s x t.event t.choice node d is here))

each_call : (s : Setting) (ts us : List DoubtTurn) (t : DoubtTurn) (node : ℕ) (d : DoubterState) (x : DoubtState) → t.event ≡ Doubter node
    → numbered (doubted s x ts).doubters node ≡ Some d
    → Contains (doubt_networks s x (ts ++ t ∷ us)) (after_doubter_call s (doubted s x ts).world node d t.choice)
unfolding doubted
each_call s [] us t node d x is here = first_call s x us t node d is here
each_call s (u ∷ ts) us t node d x is here =
    let next : DoubtState = doubt_event s x u.event u.choice in
    later s x u (ts ++ t ∷ us) (after_doubter_call s (doubted s next ts).world node d t.choice) (each_call s ts us t node d next is here)

-- ---- what it settles

dead_then : (s : Setting) (x : DoubtState) (e : DoubtEvent) (c : Choice) (node : ℕ) (d : DoubterState) (p : Prefix) → EventSettlesDead s x e c → e ≡ Doubter node
    → numbered x.doubters node ≡ Some d → (taken_at s x.world node d c).settled ≡ Some p → IsDead (after_doubter_call s x.world node d c) node p
dead_then s x e c node d p dead is here settles =
    let by_call : CallSettlesDead s x.world node c (numbered x.doubters node) = subst (λ (f : DoubtEvent). EventSettlesDead s x f c) is dead in
    let by_doubter : CallSettlesDead s x.world node c (Some d) = subst (CallSettlesDead s x.world node c) here by_call in
    subst (IsDeadWhere (after_doubter_call s x.world node d c) node) settles by_doubter

each_settling : (s : Setting) (ts us : List DoubtTurn) (t : DoubtTurn) (node : ℕ) (d : DoubterState) (p : Prefix) (x : DoubtState)
    → AllSettleDead s x (ts ++ t ∷ us) → t.event ≡ Doubter node → numbered (doubted s x ts).doubters node ≡ Some d
    → (taken_at s (doubted s x ts).world node d t.choice).settled ≡ Some p
    → IsDead (after_doubter_call s (doubted s x ts).world node d t.choice) node p
unfolding doubted AllSettleDead
each_settling s [] us t node d p x all is here settles = dead_then s x t.event t.choice node d p all.0 is here settles
each_settling s (u ∷ ts) us t node d p x all is here settles = each_settling s ts us t node d p (doubt_event s x u.event u.choice) all.1 is here settles

pub doubt_networks_are_listed : DoubtNetworksAreListed
doubt_networks_are_listed = record {
  none = none_behind;
  more = λ s x ts t. one_more s ts t x;
  lines = λ s x ls. lines_lead s ls x;
  networks = λ s x ts us. each_network s ts us x;
  calls = λ s x ts us t node d is here. each_call s ts us t node d x is here;
  settlings = λ s x ts us t node d p all is here settles. each_settling s ts us t node d p x all is here settles;
}
